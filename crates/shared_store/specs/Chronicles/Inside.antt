-- What the chronicle of a journal keeps.
use Rattle.std.specs.Prelude.{◌≡◌, ℕ, ◌*◌, ◌<◌, List, length, IfSome}
use Rattle.cell_model.specs.Cells.{Cell}
use Rattle.cell_page.specs.Format.{IsSlotCount}
use Rattle.cell_page.specs.Stored.{HoldsPage}
use Rattle.core_store.specs.JournalView.{cells_of}
use Rattle.logged_journal.specs.View.{LoggedView, failed_commit}
use Rattle.logged_journal.specs.Kept.{CanCommit}
use Rattle.shared_store.specs.Chronicles.Pages.{page_in}
use Rattle.shared_store.specs.Chronicles.View.{notes_of}

-- each page of a store with so many ids and these cells can stand in a frame
abbrev pub FitFrames : (slots ids : ℕ) → List Cell → Type 0
FitFrames slots ids cells = (page : ℕ) → 8 * page < ids → HoldsPage cells page (page_in slots cells page)

pub record IsChronicle {D : Type 0} (slots : ℕ) (v : LoggedView D) : Type 0 where
  pub pages : FitFrames slots v.journal.history.ids (cells_of v.journal)
  -- the disk failed no commit but one that was granted
  pub granted : IfSome (failed_commit v) (CanCommit v.journal)

-- objects have six slots or fourteen, and so many notes are counted as there are
pub record IsChronicleInside {D : Type 0} (slots : ℕ) (v : LoggedView D) (count : ℕ) : Type 0 where
  pub size : IsSlotCount slots
  pub kept : IsChronicle slots v
  pub counted : count ≡ length (notes_of v)
