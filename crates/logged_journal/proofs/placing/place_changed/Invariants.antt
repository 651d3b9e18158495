use Rattle.std.proofs.Common.{◌≡◌, ◌≤◌, vec_capacity}
use Rattle.logged_journal.proofs.PlacedPages.{IsPlacing}
use Rattle.logged_journal.proofs.placing.place_changed.Given as goal

abbrev pub invariant-loop-page : goal.invariant-loop-page
invariant-loop-page g l =
    IsPlacing g.D.Disk.content g.D.Disk.may_leave g.D.Disk.moment g.D.Disk.left_since g.D.Disk.faults l.marks l.frames l.initial.disk l.disk l.first l.page l.run.items
    × (vec_capacity l.initial.run ≤ vec_capacity l.run)
    × (g.D.Disk.faults l.disk ≡ g.D.Disk.faults l.initial.disk)
