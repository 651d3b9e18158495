-- What a disk opens to while a fresh store is made on it, and afterwards.
use Rattle.std.specs.Prelude.{◌⊎◌, ◌↔◌, ℕ, ◌-◌, ◌*◌, ◌≤◌, List, take}
use Rattle.disk_model.specs.declared.area.Area.{Area}
use Rattle.disk_model.specs.declared.area.Area.TheVariants.{Super}
use Rattle.disk_model.specs.Areas.{Bytes, with_area}
use Rattle.disk_model.specs.Told.{IsImage}
use Rattle.cell_page.specs.Format.{IsSlotCount}
use Rattle.store_model.specs.Fresh.{fresh_cells}
use Rattle.opened_images.specs.Opened.{Outcome, NoStore, OpensTo, Opened}
use Rattle.restart_store.specs.Fresh.{fresh_store}

-- the image opens to the root alone, in a store of so many pages
abbrev pub OpensToRoot : (slots pages : ℕ) → Bytes → Type 0
OpensToRoot slots pages image = Opened slots image (OpensTo (fresh_cells slots (8 * pages - 1)))

-- both images open to the same
abbrev pub OpenAlike : ℕ → Bytes → Bytes → Type 0
OpenAlike slots one other = (o : Outcome) → Opened slots one o ↔ Opened slots other o

-- What an image opens to while a store of so many pages is made anew on this disk: to what one from before opens to; or to no
-- store; or to the root alone.
pub data OpensWhileMaking {D : Type 0} (may_leave : D → Area → List ℕ → Type 0) (slots : ℕ) (disk : D) (pages : ℕ) (image : Bytes) : Type 0 where
  opens_as_before : (old : Bytes) → IsImage may_leave disk old → OpenAlike slots old image → OpensWhileMaking may_leave slots disk pages image
  opens_to_none : Opened slots image NoStore → OpensWhileMaking may_leave slots disk pages image
  opens_to_root : OpensToRoot slots pages image → OpensWhileMaking may_leave slots disk pages image

-- ---- laws

-- a fresh store opens to the root alone, with as many slots as it was made with and whatever the byte of its super area is
abbrev pub FreshStoreLaw : Type 0
FreshStoreLaw = (slots pages byte : ℕ) → IsSlotCount slots → (1 ≤ pages) × (pages ≤ 1024) → OpensToRoot slots pages (fresh_store slots pages byte)

-- an image whose super area lost bytes at its end opens to what it opened to before, or to no store
abbrev pub CutSuperLaw : Type 0
CutSuperLaw = (slots kept : ℕ) (image : Bytes) → OpenAlike slots image (with_area image Super (take kept image.super_area)) ⊎ Opened slots (with_area image Super (take kept image.super_area)) NoStore
