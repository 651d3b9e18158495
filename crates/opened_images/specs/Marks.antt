-- Which pages the records of a log concern, and which have an image that is current.
use Rattle.std.specs.Prelude.{◌≡◌, ℕ, ◌<◌, ◌==◌, Bool, true, false, if◌then◌else◌, List, [], ◌∷◌, fold, Option, Some, None}
use Rattle.std.specs.List.{list_any}
use Rattle.cell_model.specs.Cells.{Cell, cell_at}
use Rattle.cell_model.specs.Records.{Record as StoredRecord, Make, Store, Pay, Undo, UndoPay, Weaken, Strengthen, Flip, CutDead, Free}
use Rattle.cell_page.specs.declared.cell.Cell.{Cell as PageCell}
use Rattle.cell_page.specs.Fields.{FailsAt}
use Rattle.cell_page.specs.Format.{AreTyped}
use Rattle.cell_page.specs.Stored.{HoldsPage}
use Rattle.log_record.specs.declared.record.Record.{Record}
use Rattle.log_record.specs.declared.record.Record.TheVariants.{OfCells, Image}
use Rattle.log_record.specs.Records.{record_of}
use Rattle.page_area.specs.Place.{bytes_of_page}
use Rattle.restart_laws.specs.Local.{is_in_page}
use Rattle.opened_images.specs.Replayed.{cell_in_place}
use Rattle.opened_images.specs.WithImages.{MakesCells}

-- ---- what the records tell of a page

-- the ids of the cells that a record concerns: its own, and those of its old and its new target; a null target is 0
abbrev pub ids_of : StoredRecord → List ℕ
ids_of (Make pass id) = id ∷ []
ids_of (Store pass id slot old_target old_strong new_target new_bit new_strong) = id ∷ old_target ∷ new_target ∷ []
ids_of (Pay pass id old_value new_value) = id ∷ []
ids_of (Undo pass id slot «from» from_strong to to_bit) = id ∷ «from» ∷ to ∷ []
ids_of (UndoPay pass id «from» to) = id ∷ []
ids_of (Weaken id slot target) = id ∷ target ∷ []
ids_of (Strengthen id slot target) = id ∷ target ∷ []
ids_of (Flip id) = id ∷ []
ids_of (CutDead id slot target was_strong) = id ∷ target ∷ []
ids_of (Free id) = id ∷ []
ids_of _ = []

-- the record is an image of this page
abbrev pub is_image_of : {slots : ℕ} → ℕ → Record slots → Bool
is_image_of page (Image other held) = page == other
is_image_of page _ = false

-- the record concerns a cell of this page, or is an image of it
abbrev pub concerns : {slots : ℕ} → ℕ → Record slots → Bool
concerns page (OfCells r) = list_any (is_in_page page) (ids_of (record_of r))
concerns page r = is_image_of page r

-- a record concerns the page
abbrev pub is_changed : {slots : ℕ} → ℕ → List (Record slots) → Bool
is_changed page rs = list_any (concerns page) rs

-- whether its image is current, after a record: where it concerns the page, the record has to be an image of it
abbrev pub current_by : {slots : ℕ} → ℕ → Bool → Record slots → Bool
current_by page current r = if concerns page r then is_image_of page r else current

-- the last record that concerns the page is an image of it
abbrev pub is_current : {slots : ℕ} → ℕ → List (Record slots) → Bool
is_current page rs = fold (current_by page) false rs

-- the last image of the page, after a record
abbrev pub image_by : {slots : ℕ} → ℕ → Option (List (PageCell slots)) → Record slots → Option (List (PageCell slots))
image_by page last (Image other held) = if page == other then Some held else last
image_by page last _ = last

-- the last image of the page among the records
abbrev pub last_image : {slots : ℕ} → ℕ → List (Record slots) → Option (List (PageCell slots))
last_image page rs = fold (image_by page) None rs

-- ---- pages in place

-- The page stands in place: it is whole there, and has that page of the cells.
pub record StandsInPlace (slots : ℕ) (area : List ℕ) (cells : List Cell) (page : ℕ) : Type 0 where
  pub whole : (at : ℕ) → FailsAt slots page (bytes_of_page slots page area) at → ⊥
  pub are : (id : ℕ) → is_in_page page id ≡ true → cell_in_place slots area id ≡ cell_at cells id

-- ---- the laws

-- a page that no record of the log concerns stands in place as that page of the cells
abbrev pub UnchangedLaw : Type 0
UnchangedLaw = (slots pages page : ℕ) (area : List ℕ) (rs : List (Record slots)) (cells : List Cell) → MakesCells pages area rs cells → page < pages → is_changed page rs ≡ false → StandsInPlace slots area cells page

-- an image that is current is that page of the cells
abbrev pub CurrentLaw : Type 0
CurrentLaw =
    (slots pages page : ℕ) (area : List ℕ) (rs : List (Record slots)) (cells : List Cell) → MakesCells pages area rs cells → page < pages → is_current page rs ≡ true
    → (held : List (PageCell slots)) × (last_image page rs ≡ Some held) × AreTyped held × HoldsPage cells page held
