use Rattle.std.proofs.Common.{◌≡◌, ℕ, ◌<◌, [], length, slice_index_or}
use Rattle.cell_page.specs.Format.{IsPage}
use Rattle.log_printing.proofs.fitting.placeholders.Given as goal

abbrev pub invariant-loop-page : goal.invariant-loop-page
invariant-loop-page g l = (length l.held.items ≡ l.page) × ((p : ℕ) → p < l.page → IsPage p (slice_index_or l.held.items p []))
