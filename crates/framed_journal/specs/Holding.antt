-- All frames of a journal, and those of them that are held.
use Rattle.std.specs.Prelude.{◌≡◌, ◌⊎◌, ℕ, ◌*◌, ◌<◌, ◌≤◌, false, List, [], length, Some, slice_get}
use Rattle.std.specs.List.{AllByRecursion}
use Rattle.cell_model.specs.Cells.{Cell}
use Rattle.cell_page.specs.Format.{IsSlotCount}
use Rattle.cell_page.specs.Stored.{HoldsPage}
use Rattle.core_store.specs.declared.frame.Frame.{Frame}
use Rattle.core_store.specs.declared.three.HeldFrame.{HeldFrame}
use Rattle.core_store.specs.JournalView.{JournalView, cells_of}
use Rattle.core_store.specs.Frames.{is_held, Agree, AllAgree, IsSameElsewhere, numbered}

-- the frames, in order, are the pages of the journal's store, whose objects have so many slots
pub record AreFramesOf {slots : ℕ} (j : JournalView) (frames : List (Frame slots)) : Type 0 where
  pub pages : 8 * length frames ≡ j.history.ids
  pub some : 1 ≤ length frames
  pub few : length frames ≤ 1024
  pub agree : AllAgree (cells_of j) frames
  pub size : (j.history.slots ≡ slots) × IsSlotCount slots

-- the held frames are those of all pages of the journal's store, in order, and more than three
pub record HoldsAllOf {slots : ℕ} (j : JournalView) (held : List (HeldFrame slots)) : Type 0 where
  pub frames : List (Frame slots)
  pub are : held ≡ numbered 0 frames
  pub more : 3 < length frames
  pub all : AreFramesOf j frames

-- Between calls all frames are held, or none is and these are they.
abbrev pub AreFramesIn : {slots : ℕ} → JournalView → List (Frame slots) → List (HeldFrame slots) → Type 0
AreFramesIn j frames held = ((held ≡ []) × AreFramesOf j frames) ⊎ HoldsAllOf j held

-- the held frames are pages of the journal's store
pub record AreHeldOf {slots : ℕ} (j : JournalView) (held : List (HeldFrame slots)) : Type 0 where
  pub agree : Agree (cells_of j) held
  pub within : AllByRecursion (λ h. 8 * h.page < j.history.ids) held

-- the frames of the pages that aren't among the held ones are pages of the store with these cells
abbrev pub AgreesElsewhere : {slots : ℕ} → List Cell → List (Frame slots) → List (HeldFrame slots) → Type 0
AgreesElsewhere {slots} cells frames held = (page : ℕ) (frame : Frame slots) → slice_get frames page ≡ Some frame → is_held held page ≡ false → HoldsPage cells page frame.page

-- of the held frames these are left, and all others are in their places among the frames as they are now: where the held pages
-- changed and no others, the frames follow that change
pub record PutsBack {slots : ℕ} (old now : List (Frame slots)) (held left : List (HeldFrame slots)) : Type 0 where
  pub left_agree : (after : List Cell) → Agree after held → Agree after left
  pub put_agree : (before after : List Cell) → AllAgree before old → Agree after held → IsSameElsewhere before after held → AgreesElsewhere after now left

-- where the held pages changed and no others, the new frames are the pages after the change, as the old ones were those before
abbrev pub FollowsChange : {slots : ℕ} → List (Frame slots) → List (Frame slots) → List (HeldFrame slots) → Type 0
FollowsChange old new held = (before after : List Cell) → AllAgree before old → Agree after held → IsSameElsewhere before after held → AllAgree after new

-- For a call all frames go on to be held, or three at most of the store are.
pub record IsHeldFor {slots : ℕ} (j : JournalView) (old new : List (HeldFrame slots)) : Type 0 where
  pub agree : Agree (cells_of j) new
  pub whole : 3 < length old → new ≡ old
  pub few : old ≡ [] → AllByRecursion (λ h. 8 * h.page < j.history.ids) new × (length new ≤ 3)

-- All frames that were held still are; three at most were put back into their places.
pub record PutsAllBack {slots : ℕ} (old new : List (Frame slots)) (held left : List (HeldFrame slots)) : Type 0 where
  pub whole : 3 < length held → (left ≡ held) × (new ≡ old)
  pub few : length held ≤ 3 → FollowsChange old new held × (length new ≡ length old) × (left ≡ [])
