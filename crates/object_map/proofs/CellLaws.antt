-- Cells of trees.
use Rattle.std.proofs.Common.{◌≢◌, ℕ, sym}
use Rattle.object_map.specs.Trees.{Tree, AllCells, HaveOtherCells, HaveOwnCells}
use Rattle.object_map.specs.Trees.Tree.{leaf, inner}
use Rattle.object_map.specs.Ways.{Turn, whole}
use Rattle.object_map.specs.Ways.Turn.{to_low, to_high}
use Rattle.std.specs.Prelude.{List, [], ◌∷◌}

pub cells_map : (P Q : ℕ → Type 0) → ((c : ℕ) → P c → Q c) → (t : Tree) → AllCells P t → AllCells Q t
cells_map P Q f (leaf i k c v) h = f c h
cells_map P Q f (inner i b l r) h = (cells_map P Q f l h.0, cells_map P Q f r h.1)

pub other_cells_sym : (t u : Tree) → HaveOtherCells t u → HaveOtherCells u t
other_cells_sym t (leaf i k d v) h = cells_map (λ c. c ≢ d) (λ c. d ≢ c) (λ c n e. n (sym e)) t h
other_cells_sym t (inner i b l r) h = (
  other_cells_sym t l (cells_map (λ c. AllCells (λ d. c ≢ d) (inner i b l r)) (λ c. AllCells (λ d. c ≢ d) l) (λ c x. x.0) t h),
  other_cells_sym t r (cells_map (λ c. AllCells (λ d. c ≢ d) (inner i b l r)) (λ c. AllCells (λ d. c ≢ d) r) (λ c x. x.1) t h),
)

pub own_within : (turns : List Turn) (t : Tree) → HaveOwnCells (whole turns t) → HaveOwnCells t
own_within [] t h = h
own_within (to_low id bit high ∷ turns) t h = (own_within turns (inner id bit t high) h).1
own_within (to_high id bit low ∷ turns) t h = (own_within turns (inner id bit low t) h).2
