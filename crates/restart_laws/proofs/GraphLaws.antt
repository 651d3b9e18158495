-- The graph of cells, one object at a time.
use Rattle.std.proofs.Common.{◌≡◌, ℕ, zero, suc, ◌+◌, ◌<◌, ◌≤◌, List, [], ◌∷◌, ◌++◌, Bool, true, false, cond, refl, sym, ap, ◌∙◌, subst, arith, Option, Some, None}
use Rattle.std.specs.Prelude.{if◌then◌else◌, is_some}
use Rattle.std.specs.List.{AllByRecursion}
use Rattle.plain_model.specs.declared.object.Object.{Object}
use Rattle.plain_model.specs.Graphs.{IsGraph, object_at, has_object}
use Rattle.plain_model.proofs.LawProofs.{object_at-here, object_at-next}
use Rattle.cell_model.specs.Cells.{Cell, cell_at, is_live, object_of}
use Rattle.cell_model.specs.Graph.{graph_from, graph_of}

-- the object of a cell that is live
abbrev held : ℕ → Cell → Option Object
held id c = cond c.live (Some (object_of id c)) None

-- the objects stand from the first id on
from_first : (k : ℕ) (cs : List Cell) (n : ℕ) → n ≤ k → AllByRecursion (λ o. n ≤ o.id) (graph_from k cs)
from_first k [] n l = tt
from_first k (c ∷ cs) n l = by c.live (from_first (suc k) cs n (omega (arith, l)))
  where
    by : (b : Bool) → AllByRecursion (λ o. n ≤ o.id) (graph_from (suc k) cs) → AllByRecursion (λ o. n ≤ o.id) ((if b then object_of k c ∷ [] else []) ++ graph_from (suc k) cs)
    by true rest = (l, rest)
    by false rest = rest

behind : (k : ℕ) (cs : List Cell) → AllByRecursion (λ o. k < o.id) (graph_from (suc k) cs)
behind k cs = from_first (suc k) cs (suc k) (omega arith)

before-none : (g : List Object) (id : ℕ) → AllByRecursion (λ o. id < o.id) g → object_at g id ≡ None
before-none [] id h = refl
before-none (o ∷ os) id h = (let l = h.0 in object_at-next o os id (λ e. absurd (omega (arith, l, e)))) ∙ before-none os id h.1

-- the graph has the object of each live cell, and no others
pub graph_from-object : (k : ℕ) (cs : List Cell) (i id : ℕ) → k + i ≡ id → object_at (graph_from k cs) id ≡ held id (cell_at cs i)
graph_from-object k [] i id e = refl
graph_from-object k (c ∷ cs) zero id e = by c.live refl
  where
    same : k ≡ id
    same = omega (arith, e)

    by : (b : Bool) → c.live ≡ b → object_at ((if b then object_of k c ∷ [] else []) ++ graph_from (suc k) cs) id ≡ held id c
    by true q = object_at-here (object_of k c) (graph_from (suc k) cs) id same ∙ (ap (λ n. Some (object_of n c)) same ∙ ap (λ b. cond b (Some (object_of id c)) None) (sym q))
    by false q = before-none (graph_from (suc k) cs) id (subst (λ n. AllByRecursion (λ o. n < o.id) (graph_from (suc k) cs)) same (behind k cs)) ∙ ap (λ b. cond b (Some (object_of id c)) None) (sym q)
graph_from-object k (c ∷ cs) (suc i) id e = by c.live (graph_from-object (suc k) cs i id (omega (arith, e)))
  where
    by : (b : Bool) → object_at (graph_from (suc k) cs) id ≡ held id (cell_at cs i) → object_at ((if b then object_of k c ∷ [] else []) ++ graph_from (suc k) cs) id ≡ held id (cell_at cs i)
    by true rest = object_at-next (object_of k c) (graph_from (suc k) cs) id (λ q. absurd (omega (arith, e, q))) ∙ rest
    by false rest = rest

pub graph-object : (cells : List Cell) (id : ℕ) → object_at (graph_of cells) id ≡ cond (is_live cells id) (Some (object_of id (cell_at cells id))) None
graph-object cells id = graph_from-object 0 cells id id (omega arith)

pub graph-live : (cells : List Cell) (id : ℕ) → is_live cells id ≡ true → object_at (graph_of cells) id ≡ Some (object_of id (cell_at cells id))
graph-live cells id l = graph-object cells id ∙ ap (λ b. cond b (Some (object_of id (cell_at cells id))) None) l

pub graph-has : (cells : List Cell) (id : ℕ) → has_object (graph_of cells) id ≡ is_live cells id
graph-has cells id = ap is_some (graph-object cells id) ∙ by (is_live cells id)
  where
    by : (b : Bool) → is_some (cond b (Some (object_of id (cell_at cells id))) None) ≡ b
    by true = refl
    by false = refl

pub graph_from-graph : (k : ℕ) (cs : List Cell) → IsGraph (graph_from k cs)
graph_from-graph k [] = tt
graph_from-graph k (c ∷ cs) = by c.live (graph_from-graph (suc k) cs)
  where
    by : (b : Bool) → IsGraph (graph_from (suc k) cs) → IsGraph ((if b then object_of k c ∷ [] else []) ++ graph_from (suc k) cs)
    by true rest = (behind k cs, rest)
    by false rest = rest

pub graph-graph : (cells : List Cell) → IsGraph (graph_of cells)
graph-graph cells = graph_from-graph 0 cells
