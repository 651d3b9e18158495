-- Where a page stands in the pages area, and why there may be none.
use Rattle.std.specs.Prelude.{◌≡◌, ℕ, ◌*◌, ◌≤◌, List, take, drop, Result, IsErrOf}
use Rattle.disk_model.specs.Causes.{Rose}
use Rattle.cell_page.specs.declared.cell.Cell.{Cell}
use Rattle.cell_page.specs.Format.{AreTyped, Spells, page_size}
use Rattle.page_area.specs.declared.refusal.PageRefusal.{PageRefusal}
use Rattle.page_area.specs.declared.refusal.PageRefusal.TheVariants.{Disk}

-- the bytes of this page, as many as the area has
abbrev pub bytes_of_page : (slots page : ℕ) → List ℕ → List ℕ
bytes_of_page slots page area = take (page_size slots) (drop (page_size slots * page) area)

-- these bytes spell no page of this number
abbrev pub IsNoPage : (slots page : ℕ) → List ℕ → Type 0
IsNoPage slots page bytes = (cells : List (Cell slots)) → AreTyped cells → Spells page cells bytes → ⊥

-- the disk's count of faults never falls; it rose where the answer is the refusal `Disk`, and is as before at each other answer
pub record HasDiskCause {T : Type 0} (before now : ℕ) (result : Result T PageRefusal) : Type 0 where
  pub later : before ≤ now
  pub failed : IsErrOf result Disk → Rose before now
  pub kept : (IsErrOf result Disk → ⊥) → now ≡ before
