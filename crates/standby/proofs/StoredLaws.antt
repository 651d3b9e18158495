-- The ids of the live cells, found from the front.
use Rattle.std.proofs.Common.{◌≡◌, ℕ, suc, ◌+◌, ◌<◌, Bool, true, false, List, [], ◌∷◌, ◌++◌, length, take, refl, sym, ap, ◌∙◌, arith, length-take}
use Rattle.std.specs.Prelude.{if◌then◌else◌}
use Rattle.std.proofs.lemmas.List.{take_all, take_more}
use Rattle.plain_model.specs.Graphs.{ids_of}
use Rattle.cell_model.specs.Cells.{Cell, blank_cell, cell_at, object_of}
use Rattle.cell_model.specs.Graph.{graph_of, graph_from}
use Rattle.cell_page.specs.declared.cell.Cell.{Cell as PageCell}
use Rattle.cell_page.specs.Stored.{cell_of}
use Rattle.standby.specs.Stored.{live_id}

pub live_id_of : {slots : ℕ} (held : PageCell slots) (c : Cell) (id : ℕ) (b : Bool) → cell_of held ≡ c → held.live ≡ b → live_id id c ≡ (if b then id ∷ [] else [])
live_id_of held c id b same is = ap (λ (x : Cell). live_id id x) (sym same) ∙ ap (λ (l : Bool). if l then id ∷ [] else []) is

ids_cons : (k : ℕ) (cs ds : List Cell) (c : Cell) (later : List ℕ) → ids_of (graph_from (suc k) (cs ++ ds)) ≡ ids_of (graph_from (suc k) cs) ++ later
    → ids_of (graph_from k ((c ∷ cs) ++ ds)) ≡ ids_of (graph_from k (c ∷ cs)) ++ later
ids_cons k cs ds c later rest = by c.live
  where
    by : (live : Bool) → ids_of ((if live then object_of k c ∷ [] else []) ++ graph_from (suc k) (cs ++ ds)) ≡ ids_of ((if live then object_of k c ∷ [] else []) ++ graph_from (suc k) cs) ++ later
    by true = ap (λ (l : List ℕ). k ∷ l) rest
    by false = rest

ids_both : (k : ℕ) (cs ds : List Cell) → ids_of (graph_from k (cs ++ ds)) ≡ ids_of (graph_from k cs) ++ ids_of (graph_from (k + length cs) ds)
ids_both k [] ds = ap (λ (j : ℕ). ids_of (graph_from j ds)) (omega arith)
ids_both k (c ∷ cs) ds =
    let place : suc k + length cs ≡ k + suc (length cs) = omega arith in
    ids_cons k cs ds c (ids_of (graph_from (k + suc (length cs)) ds)) (ids_both (suc k) cs ds ∙ ap (λ (j : ℕ). ids_of (graph_from (suc k) cs) ++ ids_of (graph_from j ds)) place)

ids_one : (k : ℕ) (c : Cell) → ids_of (graph_from k (c ∷ [])) ≡ live_id k c
ids_one k c = by c.live
  where
    by : (live : Bool) → ids_of ((if live then object_of k c ∷ [] else []) ++ []) ≡ (if live then k ∷ [] else [])
    by true = refl
    by false = refl

-- the ids of the live ones below this id
abbrev pub live_below : List Cell → ℕ → List ℕ
live_below cells id = ids_of (graph_of (take id cells))

pub live_more : (cells : List Cell) (id : ℕ) → id < length cells → live_below cells (id + 1) ≡ live_below cells id ++ live_id id (cell_at cells id)
live_more cells id within =
    let c = cell_at cells id in
    let place : 0 + length (take id cells) ≡ id = omega (arith, within, length-take id cells) in
    ap (λ (l : List Cell). ids_of (graph_of l)) (take_more cells id (blank_cell false 0) within)
    ∙ ids_both 0 (take id cells) (c ∷ [])
    ∙ ap (λ (j : ℕ). live_below cells id ++ ids_of (graph_from j (c ∷ []))) place
    ∙ ap (λ (l : List ℕ). live_below cells id ++ l) (ids_one id c)

pub live_first : (slots : ℕ) (cells : List Cell) → 0 < length cells → cell_at cells 0 ≡ blank_cell false slots → [] ≡ live_below cells 1
live_first slots cells some free = sym (live_more cells 0 some ∙ ap (λ (c : Cell). live_below cells 0 ++ live_id 0 c) free)

pub live_all : (cells : List Cell) (id : ℕ) → id ≡ length cells → live_below cells id ≡ ids_of (graph_of cells)
live_all cells id is = ap (λ (n : ℕ). live_below cells n) is ∙ ap (λ (l : List Cell). ids_of (graph_of l)) (take_all (length cells) cells (omega arith))
