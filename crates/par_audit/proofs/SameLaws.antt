-- What is garbage depends on no count.
use Rattle.std.proofs.Common.{◌≡◌, ℕ, suc, Bool, true, not, List, [], ◌∷◌, ◌++◌, map, refl, sym, ap, ◌∙◌, subst}
use Rattle.std.specs.Prelude.{◌&&◌, ◌↔◌, count_by, if◌then◌else◌}
use Rattle.std.proofs.Math.Path.{fun_ext}
use Rattle.plain_model.specs.declared.object.Object.{Object}
use Rattle.plain_model.specs.Graphs.{root}
use Rattle.plain_model.specs.Reachable.{Reachable}
use Rattle.cell_model.specs.Cells.{Cell, object_of}
use Rattle.cell_model.specs.Graph.{graph_from, graph_of}
use Rattle.auditor.specs.Replay.{uncounted, SameButCounts}
use Rattle.auditor.proofs.EditSame.{same-at}
use Rattle.par_audit.specs.Garbage.{IsGarbage}

graph-uncounted : (id : ℕ) (cells : List Cell) → graph_from id (map uncounted cells) ≡ graph_from id cells
graph-uncounted id [] = refl
graph-uncounted id (c ∷ cells) = ap (λ (g : List Object). (if c.live then object_of id c ∷ [] else []) ++ g) (graph-uncounted (suc id) cells)

pub graph-same : (cells others : List Cell) → SameButCounts cells others → graph_of cells ≡ graph_of others
graph-same cells others e = sym (graph-uncounted 0 cells) ∙ (ap (λ (cs : List Cell). graph_of cs) e ∙ graph-uncounted 0 others)

pub garbage-same : (cells others : List Cell) (ids : List ℕ) (n : ℕ) → SameButCounts cells others → IsGarbage cells ids n → IsGarbage others ids n
garbage-same cells others ids n e h = (
  h.0,
  λ x. subst (λ (g : List Object). (h.0 x ≡ true) ↔ Reachable g (root ∷ []) x) (graph-same cells others e) (h.1 x),
  h.2 ∙ ap (λ (p : ℕ → Bool). count_by p ids) (fun_ext (λ id. ap (λ (c : Cell). c.live && not (h.0 id)) (same-at cells others id e))),
)
