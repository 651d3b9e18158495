-- The graph of cells, one cell more.
use Rattle.std.proofs.Common.{◌≡◌, ℕ, suc, ◌+◌, ◌<◌, ◌≤◌, Bool, true, false, List, [], ◌∷◌, ◌++◌, length, map, take, refl, sym, ap, ◌∙◌, arith, append_assoc, length-take}
use Rattle.std.specs.Prelude.{if◌then◌else◌, All, slice_index_or, slice_set}
use Rattle.std.specs.List.{AllByRecursion}
use Rattle.std.proofs.lemmas.List.{append-nil, take_all, take_more, map-set, get_or-map, length-map}
use Rattle.std.proofs.lemmas.List.Elements.{All-from_recursion}
use Rattle.plain_model.specs.declared.object.Object.{Object}
use Rattle.cell_model.specs.Cells.{Pointer, Cell, blank_cell, cell_at, object_of}
use Rattle.cell_model.specs.Graph.{graph_from, graph_of}
use Rattle.cell_page.specs.declared.cell.Cell.{Cell as PageCell}
use Rattle.cell_page.specs.Stored.{pointers_from, cell_of}
use Rattle.log_checker.specs.FoldedObjects.{objects_in}

-- ---- the slots of a cell

pub targets_of : (bits i : ℕ) (targets : List ℕ) → map (λ (p : Pointer). p.target) (pointers_from bits i targets) ≡ targets
targets_of bits i [] = refl
targets_of bits i (target ∷ targets) = ap (λ (l : List ℕ). target ∷ l) (targets_of bits (i + 1) targets)

-- ---- one cell among those of a table

pub cell_got : {slots : ℕ} (items : List (PageCell slots)) (stored : List Cell) (id : ℕ) (c : PageCell slots) → map cell_of items ≡ stored → c ≡ slice_index_or items id c → id < length stored → cell_of c ≡ cell_at stored id
cell_got items stored id c view at within =
    let inside : id < length items = omega (arith, within, ap length view, length-map items cell_of) in
    ap cell_of at ∙ sym (get_or-map cell_of items id c (blank_cell false 0) inside) ∙ ap (λ (l : List Cell). cell_at l id) view

pub cell_set : {slots : ℕ} (items : List (PageCell slots)) (stored : List Cell) (id : ℕ) (old new : PageCell slots) (f : Cell → Cell) → map cell_of items ≡ stored → old ≡ slice_index_or items id old
    → id < length stored → cell_of new ≡ f (cell_of old) → map cell_of (slice_set items id new) ≡ slice_set stored id (f (cell_at stored id))
cell_set items stored id old new f view at within changed =
    map-set cell_of items id new
    ∙ ap (λ (l : List Cell). slice_set l id (cell_of new)) view
    ∙ ap (λ (c : Cell). slice_set stored id c) (changed ∙ ap f (cell_got items stored id old view at within))

-- ---- one cell more

objects_both : (k : ℕ) (cs ds : List Cell) → graph_from k (cs ++ ds) ≡ graph_from k cs ++ graph_from (k + length cs) ds
objects_both k [] ds = ap (λ (j : ℕ). graph_from j ds) (omega arith)
objects_both k (c ∷ cs) ds =
    let place : suc k + length cs ≡ k + suc (length cs) = omega arith in
    ap (λ (l : List Object). objects_in k c ++ l) (objects_both (suc k) cs ds)
    ∙ sym (append_assoc (objects_in k c) (graph_from (suc k) cs) (graph_from (suc k + length cs) ds))
    ∙ ap (λ (j : ℕ). (objects_in k c ++ graph_from (suc k) cs) ++ graph_from j ds) place

pub objects_more : (cells : List Cell) (id : ℕ) → id < length cells → graph_of (take (id + 1) cells) ≡ graph_of (take id cells) ++ objects_in id (cell_at cells id)
objects_more cells id within =
    let c = cell_at cells id in
    let place : 0 + length (take id cells) ≡ id = omega (arith, within, length-take id cells) in
    ap (λ (l : List Cell). graph_of l) (take_more cells id (blank_cell false 0) within)
    ∙ objects_both 0 (take id cells) (c ∷ [])
    ∙ ap (λ (j : ℕ). graph_of (take id cells) ++ graph_from j (c ∷ [])) place
    ∙ ap (λ (l : List Object). graph_of (take id cells) ++ l) (append-nil (objects_in id c))

pub objects_all : (cells : List Cell) (id : ℕ) → id ≡ length cells → graph_of (take id cells) ≡ graph_of cells
objects_all cells id is = ap (λ (n : ℕ). graph_of (take n cells)) is ∙ ap (λ (l : List Cell). graph_of l) (take_all (length cells) cells (omega arith))

-- ---- their ids

below_from : (k : ℕ) (cs : List Cell) (n : ℕ) → k + length cs ≤ n → AllByRecursion (λ o. o.id < n) (graph_from k cs)
below_from k [] n few = tt
below_from k (c ∷ cs) n few = by c.live (below_from (suc k) cs n (omega (arith, few)))
  where
    by : (b : Bool) → AllByRecursion (λ o. o.id < n) (graph_from (suc k) cs) → AllByRecursion (λ o. o.id < n) ((if b then object_of k c ∷ [] else []) ++ graph_from (suc k) cs)
    by true rest = (omega (arith, few), rest)
    by false rest = rest

pub all_below : (cells : List Cell) (id : ℕ) → id < length cells → All (λ o. o.id < id) (graph_of (take id cells))
all_below cells id within =
    let few : 0 + length (take id cells) ≤ id = omega (arith, within, length-take id cells) in
    All-from_recursion (λ (o : Object). o.id < id) (graph_of (take id cells)) (below_from 0 (take id cells) id few)
