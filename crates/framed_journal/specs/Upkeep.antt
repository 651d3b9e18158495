-- What the upkeep of pages and of the log leaves, in words of the store.
use Rattle.std.specs.Prelude.{◌≡◌, ℕ, ◌*◌, List, Option, length}
use Rattle.disk_model.specs.declared.area.Area.{Area}
use Rattle.disk_model.specs.Told.{EachImage}
use Rattle.cell_page.specs.declared.cell.Cell.{Cell as PageCell}
use Rattle.cell_page.specs.Stored.{HoldsPage}
use Rattle.core_store.specs.declared.frame.Frame.{Frame}
use Rattle.core_store.specs.Frames.{AllAgree}
use Rattle.core_store.specs.JournalView.{cells_of}
use Rattle.logged_journal.specs.View.{LoggedView}
use Rattle.logged_journal.specs.Checkpoints.{ForcesImages}
use Rattle.logged_journal.specs.Upkeep.{IsClean, Cleans}

-- The page was cleaned, as it is in the store: in each image of the disk it stands in place by its one spelling, and is the log's
-- last image of it.
pub record CleansPage {D : Type 0} (slots : ℕ) (may_leave : D → Area → List ℕ → Type 0) (old new : LoggedView D) (page : ℕ) : Type 0 where
  pub held : List (PageCell slots)
  pub holds : HoldsPage (cells_of old.journal) page held
  pub cleans : Cleans old new page held
  pub images : EachImage may_leave new.disk (IsClean page held)

-- The log area that was in use has one batch more: the tail, and the images that a turn needs of the store's pages as they are.
pub record ForcesPages {D : Type 0} (slots : ℕ) (content : D → Area → Option (List ℕ)) (old new : LoggedView D) : Type 0 where
  pub frames : List (Frame slots)
  pub pages : 8 * length frames ≡ old.journal.history.ids
  pub agree : AllAgree (cells_of old.journal) frames
  pub forced : ForcesImages content frames old new
