-- What the root reaches, and what is garbage.
use Rattle.std.specs.Prelude.{◌≡◌, ◌↔◌, ℕ, Bool, true, ◌&&◌, not, List, [], ◌∷◌, count_by}
use Rattle.plain_model.specs.Graphs.{root}
use Rattle.plain_model.specs.Reachable.{Reachable}
use Rattle.cell_model.specs.Cells.{Cell, is_live}
use Rattle.cell_model.specs.Graph.{graph_of}
use Rattle.par_audit.specs.Marks.{is_reached, AreObjects}

-- the answer is true just at what the graph of the cells reaches from the root
abbrev pub IsReach : List Cell → (ℕ → Bool) → Type 0
IsReach cells is_reached = (x : ℕ) → (is_reached x ≡ true) ↔ Reachable (graph_of cells) (root ∷ []) x

-- how many of these ids have a live cell and aren't reached
abbrev pub garbage_in : List Cell → (ℕ → Bool) → List ℕ → ℕ
garbage_in cells is_reached ids = count_by (λ id. is_live cells id && not (is_reached id)) ids

-- the number of live ids that the root doesn't reach
abbrev pub IsGarbage : List Cell → List ℕ → ℕ → Type 0
IsGarbage cells ids garbage = (is_reached : ℕ → Bool) × IsReach cells is_reached × (garbage ≡ garbage_in cells is_reached ids)

-- the words mark just the objects that the root doesn't reach
pub record IsUnreached (cells : List Cell) (words : List ℕ) : Type 0 where
  pub objects : AreObjects cells words
  pub reach : IsReach cells (is_reached cells words)
