-- A store whose first hold stays the only one, and has all words between calls.
use Rattle.std.specs.Prelude.{◌≡◌, ℕ, ◌≤◌, List, length, None}
use Rattle.cell_page.specs.Format.{IsSlotCount}
use Rattle.core_store.specs.declared.note.Note.{Note}
use Rattle.core_store.specs.declared.frame.Frame.{Frame}
use Rattle.core_store.specs.declared.three.HeldFrame.{HeldFrame}
use Rattle.core_store.specs.Frames.{AreOnce, HoldsAll}
use Rattle.logged_journal.specs.View.{LoggedView}
use Rattle.latch_table.specs.Holds.{TableView, HoldView, IsAlone}
use Rattle.framed_journal.specs.Holding.{AreHeldOf}
use Rattle.shared_store.specs.Chronicles.View.{Origin}
use Rattle.shared_store.specs.Passes.{Known}
use Rattle.shared_store.specs.Acts.{Takes}
use Rattle.shared_store.specs.Holding.{HasJournal, pairs_of}

-- the held frames are those of all pages of the journal's store, of which there are so many, each once
pub record HoldsEach {D : Type 0} (slots pages : ℕ) (j : LoggedView D) (held : List (HeldFrame slots)) : Type 0 where
  pub frames : AreHeldOf j.journal held
  pub once : AreOnce held
  pub all : HoldsAll j.journal.history.ids held
  pub count : length held ≡ pages

-- the hold claimed all pages, and these are their frames
pub record TakesAll {D : Type 0} (slots pages : ℕ) (old new : Known slots) (j : LoggedView D) (held : List (HeldFrame slots)) : Type 0 where
  pub view : Takes old new (pairs_of held) None
  pub each : HoldsEach slots pages j held

-- The hold is that of the store, which has a page, and no other is out. It has all words: the journal and the frames of all pages
-- are in its hand
pub record IsLone {D : Type 0} (slots : ℕ) (store : TableView (LoggedView D)) (hold : HoldView Note Origin (Frame slots)) (j : LoggedView D) (held : List (HeldFrame slots)) : Type 0 where
  pub of : hold.table ≡ store.table
  pub alone : IsAlone hold.view
  pub some : 1 ≤ store.pages
  pub few : store.pages ≤ 1024
  pub size : IsSlotCount slots
  pub journal : HasJournal slots store.pages hold.view j
  pub pages : hold.view.hands.pages ≡ pairs_of held
  pub each : HoldsEach slots store.pages j held
