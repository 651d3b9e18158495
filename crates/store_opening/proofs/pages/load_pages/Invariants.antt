use Rattle.std.proofs.Common.{◌≡◌, ℕ, ◌<◌, ◌≤◌, [], length, slice_index_or}
use Rattle.std.specs.Prelude.{IfSome}
use Rattle.disk_model.specs.declared.area.Area.TheVariants.{Pages}
use Rattle.cell_page.specs.Format.{IsPage}
use Rattle.store_opening.specs.Looks.{IsLookedAt}
use Rattle.store_opening.specs.Loaded.{AreLoaded}
use Rattle.store_opening.proofs.pages.load_pages.Given as goal

abbrev pub invariant-pages : goal.invariant-pages
invariant-pages g l =
    (length l.pages.items ≡ l.page) × ((p : ℕ) → p < l.page → IsPage p (slice_index_or l.pages.items p []))
    × IfSome (g.D.Disk.content l.initial.disk Pages) (λ area. AreLoaded g.row.SLOTS l.fn.images l.page area l.pages.items)
    × IsLookedAt g.D.Disk.content g.D.Disk.may_leave g.D.Disk.moment g.D.Disk.left_since l.initial.disk l.disk
    × (g.D.Disk.faults l.disk ≡ g.D.Disk.faults l.initial.disk)
