-- Pages that are written in place.
use Rattle.std.specs.Prelude.{◌≡◌, ◌⊎◌, ℕ, ◌+◌, ◌*◌, ◌<◌, ◌≤◌, List, ◌∷◌, ◌++◌, length, map, flat_map, Contains, Some}
use Rattle.std.specs.List.{AllByRecursion}
use Rattle.disk_model.specs.declared.area.Area.{Area}
use Rattle.disk_model.specs.declared.area.Area.TheVariants.{Pages}
use Rattle.disk_model.specs.Areas.{Bytes, in_area}
use Rattle.disk_model.specs.Changes.{written, Torn}
use Rattle.disk_model.specs.Told.{IsImageBut}
use Rattle.cell_page.specs.declared.cell.Cell.{Cell}
use Rattle.cell_page.specs.Format.{IsSlotCount, IsPage, AreTyped, Spells, page_size, page_bytes}
use Rattle.gate_log.specs.Batches.{IsLog, most_bytes}
use Rattle.gate_log.specs.OnDisk.{named_by}
use Rattle.log_record.specs.declared.record.Record.{Record}
use Rattle.log_record.specs.declared.record.Record.TheVariants.{Image}
use Rattle.log_record.specs.Spelling.{record_bytes, HasSpelling, IsTypedRecord}
use Rattle.page_area.specs.Place.{bytes_of_page}

-- in this pages area a write of so many pages, from this one on, was cut off: it may have any bytes in them, and is as before
-- elsewhere
abbrev pub AreTorn : (slots «first» count : ℕ) → List ℕ → List ℕ → Type 0
AreTorn slots «first» count before now = Torn (page_size slots * «first») (page_size slots * count) before now

module _ {D : Type 0} (may_leave : D → Area → List ℕ → Type 0) where
  -- an image of this disk in whose pages area a write of so many pages, from this one on, was cut off
  abbrev pub HasTornPages : D → (slots «first» count : ℕ) → Bytes → Type 0
  HasTornPages disk slots «first» count image =
      IsImageBut may_leave disk Pages (λ area. (was : List ℕ) × may_leave disk Pages was × AreTorn slots «first» count was area) image

-- the bytes of these records, one after another
abbrev pub bytes_of_records : {slots : ℕ} → List (Record slots) → List ℕ
bytes_of_records records = flat_map record_bytes records

-- In this image the log that the super area names has an image of this page in front of its closed commit byte, the last one of
-- the page, and it is these bytes.
pub record HasCopy (slots page : ℕ) (bytes : List ℕ) (image : Bytes) : Type 0 where
  -- the log area that the super area names, and the records of its batches
  pub area : Area
  pub named : named_by image.super_area ≡ Some area
  pub batches : List (List (Record slots))
  pub log : IsLog most_bytes (map bytes_of_records batches) (in_area image area)
  -- each of them is spelled by the rules of the format
  pub spelled : AllByRecursion (λ (r : Record slots). HasSpelling r × IsTypedRecord r) (flat_map (λ rs. rs) batches)
  -- the image, and the records before it and after it
  pub front : List (Record slots)
  pub held : List (Cell slots)
  pub back : List (Record slots)
  pub there : flat_map (λ rs. rs) batches ≡ front ++ Image page held ∷ back
  pub last : (other : List (Cell slots)) → Contains back (Image page other) → ⊥
  pub are : bytes ≡ page_bytes held

-- ---- laws

-- a write of pages that was cut off leaves each other page that the area has whole
abbrev pub OtherPagesLaw : Type 0
OtherPagesLaw =
    (slots «first» count page : ℕ) (before now : List ℕ) → AreTorn slots «first» count before now → (page < «first») ⊎ («first» + count ≤ page)
    → page_size slots * (page + 1) ≤ length before → bytes_of_page slots page now ≡ bytes_of_page slots page before

-- what is read where a page was written is that page
abbrev pub ReadBackLaw : Type 0
ReadBackLaw =
    (slots page : ℕ) (wrote read : List (Cell slots)) (area : List ℕ) → IsSlotCount slots → IsPage page wrote → AreTyped wrote → AreTyped read
    → page_size slots * page ≤ length area → Spells page read (bytes_of_page slots page (written (page_size slots * page) (page_bytes wrote) area))
    → read ≡ wrote
