use Rattle.std.proofs.Common.{◌≡◌, ℕ, ◌-◌, ◌<◌, ◌≤◌, List, take}
use Rattle.std.specs.Prelude.{IfSome}
use Rattle.std.specs.Io.KnownBytes.{Appends}
use Rattle.store_opening.specs.Looks.{IsLookedAt}
use Rattle.log_printing.specs.Window.{IsWindow}
use Rattle.log_printing.specs.Walks.{first_place, place_of, PrintsTo}
use Rattle.log_printing.proofs.walking.print_records.Given as goal

abbrev pub invariant-records : goal.invariant-records
invariant-records g l =
    (text : List ℕ) × Appends (g.W.Sink.written l.initial.out) (g.W.Sink.written l.out) text
    × IfSome (g.D.Disk.content l.initial.disk l.fn.log.area) (λ c. PrintsTo g.row.SLOTS (take l.fn.log.len c) first_place (place_of l.span) text)
    × (l.span.at ≤ l.span.end) × (l.span.end < l.fn.log.len)
    × IsWindow l.fn.log.len (g.D.Disk.content l.disk l.fn.log.area) l.window
    × IsLookedAt g.D.Disk.content g.D.Disk.may_leave g.D.Disk.moment g.D.Disk.left_since l.initial.disk l.disk
    × (g.D.Disk.faults l.disk ≡ g.D.Disk.faults l.initial.disk) × (g.W.Sink.faults l.out ≡ g.W.Sink.faults l.initial.out)

abbrev pub decreases-records : goal.decreases-records
decreases-records g l = l.fn.log.len - l.span.at
