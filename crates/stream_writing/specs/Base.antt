-- The pages that are written.
use Rattle.std.specs.Prelude.{ℕ, List, map}
use Rattle.cell_page.specs.declared.cell.Cell.{Cell}
use Rattle.core_store.specs.declared.frame.Frame.{Frame}

-- those of these frames, in order
abbrev pub pages_in : {slots : ℕ} → List (Frame slots) → List (List (Cell slots))
pages_in frames = map (λ f. f.page) frames
