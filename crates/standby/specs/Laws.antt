-- What holds of streams and of stores that are made of them.
use Rattle.std.specs.Prelude.{◌⊎◌, ◌↔◌, ℕ, List, take}
use Rattle.disk_model.specs.declared.area.Area.TheVariants.{Super}
use Rattle.disk_model.specs.Areas.{Bytes, with_area}
use Rattle.cell_page.specs.declared.cell.Cell.{Cell}
use Rattle.cell_page.specs.Format.{IsSlotCount}
use Rattle.log_replay.specs.Inside.{cells_of_pages}
use Rattle.opened_images.specs.Opened.{Outcome, NoStore, OpensTo, Opened, KeepsRules}
use Rattle.restart_store.specs.Fresh.{MayBeMade, store_of}
use Rattle.ship_stream.specs.Reading.{Reading}
use Rattle.ship_stream.specs.Laws.{IsRead}
use Rattle.standby.specs.Following.{FitsBase}
use Rattle.standby.specs.Damage.{IsDamagedAt}

-- Bytes that are read to their end, and whose records fit, show no fault in another reading. So a fault is answered exactly where
-- the bytes show one.
abbrev pub UndamagedLaw : Type 0
UndamagedLaw = (slots at : ℕ) (bytes rest : List ℕ) (r : Reading slots) → IsSlotCount slots → IsRead bytes r rest → FitsBase r → IsDamagedAt slots bytes at → ⊥

-- both images open to the same
abbrev pub OpenAlike : ℕ → Bytes → Bytes → Type 0
OpenAlike slots one other = (o : Outcome) → Opened slots one o ↔ Opened slots other o

-- an image whose super area lost bytes at its end opens to what it opened to before, or to no store
abbrev pub CutStoreLaw : Type 0
CutStoreLaw = (slots kept : ℕ) (image : Bytes) → OpenAlike slots image (with_area image Super (take kept image.super_area)) ⊎ Opened slots (with_area image Super (take kept image.super_area)) NoStore

-- a store that is made with pages opens to their cells, where these keep the store rules, whatever the byte of its super area is
abbrev pub MadeStoreLaw : Type 0
MadeStoreLaw = (slots byte : ℕ) (pages : List (List (Cell slots))) → IsSlotCount slots → MayBeMade pages → KeepsRules (cells_of_pages pages) → Opened slots (store_of pages byte) (OpensTo (cells_of_pages pages))
