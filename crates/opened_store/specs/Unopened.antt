-- Disks that hold no store that opens.
use Rattle.std.specs.Prelude.{ℕ, List, Option}
use Rattle.cell_model.specs.Cells.{Cell}
use Rattle.cell_page.specs.Format.{IsSlotCount}
use Rattle.disk_model.specs.declared.area.Area.{Area}
use Rattle.disk_model.specs.Areas.{Bytes}
use Rattle.opened_images.specs.Opened.{Outcome, OpensTo, Opened}
use Rattle.store_opening.specs.Looks.{IsLookedAt}
use Rattle.store_opening.specs.Store.{Reads}
use Rattle.opened_store.specs.Longer.{IsOpen}

-- there are no cells that the image opens to
abbrev pub DoesNotOpen : ℕ → Bytes → Type 0
DoesNotOpen slots image = (cells : List Cell) → Opened slots image (OpensTo cells) → ⊥

-- an image that opens to a refusal is one that does not open
abbrev pub RefusedLaw : Type 0
RefusedLaw = (slots : ℕ) (image : Bytes) (o : Outcome) → IsSlotCount slots → Opened slots image o → (IsOpen o → ⊥) → DoesNotOpen slots image

-- where what the disk read does not open, the disk is only looked at: nothing is written
abbrev pub OnlyLooksUnlessOpen : {D : Type 0} → (D → Area → Option (List ℕ)) → (D → Area → List ℕ → Type 0) → (D → ℕ) → (D → ℕ → Bytes → Type 0) → (slots : ℕ) (before now : D) → Type 0
OnlyLooksUnlessOpen content may_leave moment left_since slots before now = (image : Bytes) → Reads content before image → DoesNotOpen slots image → IsLookedAt content may_leave moment left_since before now
