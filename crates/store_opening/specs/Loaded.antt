-- The pages of a store before its log is done to them.
use Rattle.std.specs.Prelude.{◌≡◌, ℕ, ◌<◌, ◌≤◌, List, [], length, slice_index, slice_index_or, Result, Err, IfErr, ⊤}
use Rattle.disk_model.specs.Causes.{Rose}
use Rattle.cell_page.specs.declared.cell.Cell.{Cell}
use Rattle.cell_page.specs.Format.{AreTyped, Spells}
use Rattle.cell_page.specs.Fields.{FailsAt}
use Rattle.page_area.specs.Place.{bytes_of_page}
use Rattle.store_opening.specs.declared.pages.PagesRefusal.{PagesRefusal}
use Rattle.store_opening.specs.declared.pages.PagesRefusal.TheVariants.{Disk}

-- this is the page of this number where it stands
pub record IsLoaded (slots page : ℕ) (area : List ℕ) (cells : List (Cell slots)) : Type 0 where
  pub spells : Spells page cells (bytes_of_page slots page area)
  pub typed : AreTyped cells

-- of the first pages, so many, those without an image are as they stand
abbrev pub AreLoaded : (slots : ℕ) → List ℕ → ℕ → List ℕ → List (List (Cell slots)) → Type 0
AreLoaded slots images count area pages = (p : ℕ) → p < count → slice_index images p ≡ 0 → IsLoaded slots p area (slice_index_or pages p [])

-- what stands in the place of this page is none, by this offset
abbrev pub IsDamagedAt : (slots page at : ℕ) → List ℕ → Type 0
IsDamagedAt slots page at area = FailsAt slots page (bytes_of_page slots page area) at

-- it is the first page without an image of which that is so
pub record IsFirstDamaged (slots : ℕ) (images : List ℕ) (page at : ℕ) (area : List ℕ) : Type 0 where
  pub inside : page < length images
  pub none : slice_index images page ≡ 0
  pub here : IsDamagedAt slots page at area
  pub lower : (p place : ℕ) → p < page → slice_index images p ≡ 0 → IsDamagedAt slots p place area → ⊥

-- no call of the disk failed
abbrev pub IsNoPagesFault : PagesRefusal → Type 0
IsNoPagesFault Disk = ⊥
IsNoPagesFault _ = ⊤

-- The disk's count of faults never falls. It rose where the refusal is `Disk`, and is as before at each other answer.
pub record HasPagesCause {T : Type 0} (before now : ℕ) (result : Result T PagesRefusal) : Type 0 where
  pub later : before ≤ now
  pub failed : result ≡ Err Disk → Rose before now
  pub kept : IfErr result IsNoPagesFault → now ≡ before
