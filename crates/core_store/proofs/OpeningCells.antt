-- The free ids, the marks and the queue of a store that opens, read off its cells.
use Rattle.std.proofs.Common.{◌≡◌, ℕ, suc, ◌+◌, ◌<◌, ◌≤◌, List, [], ◌∷◌, ◌++◌, Bool, true, false, length, map, take, get_or, set, replicate, refl, sym, ap, ◌∙◌, arith, add-one, ⊎_elim, ne_eqb, append_assoc, append-nil}
use Rattle.std.specs.Prelude.{◌==◌, ◌&&◌, ◌||◌, not, nat_lt, nat_le, if◌then◌else◌}
use Rattle.std.proofs.lemmas.Bool.{cases_eq}
use Rattle.std.proofs.lemmas.Bool.Decides.{nat_tests}
use Rattle.std.proofs.lemmas.List.{take_more, take_all, get_or-map, get_or-replicate, get_or-set_same, get_or-set_other, length-map, length-set, length-take-le, map-append}
use Rattle.plain_model.specs.Graphs.{root}
use Rattle.cell_model.specs.Cells.{Cell as StoredCell, blank_cell, cell_at, is_live}
use Rattle.cell_page.specs.declared.cell.Cell.{Cell}
use Rattle.cell_page.specs.Stored.{cell_of}
use Rattle.ref_tables.specs.Queue.{has, joined}
use Rattle.restart_laws.specs.Graph.{zeros_from, zeros_of}
use Rattle.core_store.specs.Changes.{has_no_strong}
use Rattle.core_store.specs.Opening.{store_of}
use Rattle.core_store.specs.FreeIds.{free_in, AreFreeIn}
use Rattle.core_store.proofs.FreeIdLaws.{free-at}

-- ---- the cell of an id

module _ {slots : ℕ} (cells : List (Cell slots)) where
  -- it is the one at its place
  pub stored-at : (place : ℕ) (c : Cell slots) → place < length cells → c ≡ get_or cells place c → cell_at (store_of cells) (place + 1) ≡ cell_of c
  stored-at place c within is =
      ap (cell_at (store_of cells)) (add-one place)
      ∙ (get_or-map cell_of cells place c (blank_cell false 0) within ∙ sym (ap cell_of is))

-- the first cells, and one more
pub store-more : {slots : ℕ} (cells : List (Cell slots)) (place : ℕ) (c : Cell slots) → place < length cells → c ≡ get_or cells place c → store_of (take (place + 1) cells) ≡ store_of (take place cells) ++ cell_of c ∷ []
store-more {slots} cells place c within is =
    ap (λ (cs : List StoredCell). blank_cell false slots ∷ cs)
    (ap (map cell_of) (take_more cells place c within ∙ ap (λ (d : Cell slots). take place cells ++ d ∷ []) (sym is)) ∙ map-append cell_of (take place cells) (c ∷ []))

-- ---- the free ids

-- the row marks those of the first ids that it did and that aren't live, and of the others those that it did
pub record AreMarked {slots : ℕ} (cells : List (Cell slots)) (old new : List Bool) (place : ℕ) : Type 0 where
  pub length : length new ≡ length old
  pub before : (id : ℕ) → 0 < id → id ≤ place → get_or new id false ≡ (not (is_live (store_of cells) id) && get_or old id false)
  pub behind : (id : ℕ) → place < id → get_or new id false ≡ get_or old id false

pub marked-none : {slots : ℕ} (cells : List (Cell slots)) (row : List Bool) → AreMarked cells row row 0
marked-none cells row = record { length = refl; before = λ id a b. absurd (omega (arith, a, b)); behind = λ id a. refl }

module _ {slots : ℕ} (cells : List (Cell slots)) (old now : List Bool) (place : ℕ) (c : Cell slots) (within : place < length cells) (is : c ≡ get_or cells place c) (long : length old ≡ length cells + 1) (m : AreMarked cells old now place) where
  live-is : is_live (store_of cells) (place + 1) ≡ c.live
  live-is = ap (λ (c : StoredCell). c.live) (stored-at cells place c within is)

  -- its cell is free
  pub marked-free : c.live ≡ false → AreMarked cells old now (place + 1)
  marked-free free = record {
    length = m.length;
    before = λ id a b. ⊎_elim
        (λ (e : id ≡ place + 1). m.behind id (omega (arith, e)) ∙ sym (ap (λ b. not b && get_or old id false) (ap (is_live (store_of cells)) e ∙ (live-is ∙ free))))
        (λ n. m.before id a (omega (arith, b, n)))
        (cases_eq id (place + 1));
    behind = λ id a. m.behind id (omega (arith, a));
  }

  -- its cell is live
  pub marked-live : c.live ≡ true → AreMarked cells old (set now (place + 1) false) (place + 1)
  marked-live live = record {
    length = length-set now (place + 1) false ∙ m.length;
    before = λ id a b. ⊎_elim
        (λ (e : id ≡ place + 1).
        ap (λ i. get_or (set now (place + 1) false) i false) e
        ∙ (get_or-set_same now (place + 1) false false (let l = m.length in omega (arith, l, long, within))
        ∙ sym (ap (λ b. not b && get_or old id false) (ap (is_live (store_of cells)) e ∙ (live-is ∙ live)))))
        (λ n. get_or-set_other now (place + 1) id false false n ∙ m.before id a (omega (arith, b, n)))
        (cases_eq id (place + 1));
    behind = λ id a. get_or-set_other now (place + 1) id false false (λ e. omega (arith, e, a)) ∙ m.behind id (omega (arith, a));
  }

-- in a row that marked all, those that aren't live are left
pub free-over : (cells : List StoredCell) (row : List Bool) (limit : ℕ) → ((id : ℕ) → 0 < id → id ≤ limit → get_or row id false ≡ (not (is_live cells id) && get_or (replicate (limit + 1) true) id false)) → AreFreeIn cells limit (free_in row limit)
free-over cells row limit marks k = free-at row limit k ∙ by (nat_lt 0 k && nat_le k limit) refl
  where
    free : 0 < k → k ≤ limit → get_or row k false ≡ not (is_live cells k)
    free a b = marks k a b ∙ (ap (λ x. not (is_live cells k) && x) (get_or-replicate (limit + 1) k true false (omega (arith, b))) ∙ and-true (not (is_live cells k)))
      where
        and-true : (b : Bool) → (b && true) ≡ b
        and-true true = refl
        and-true false = refl

    swap : (a b : Bool) → (a && b) ≡ (b && a)
    swap true true = refl
    swap true false = refl
    swap false true = refl
    swap false false = refl

    low : (nat_lt 0 k && nat_le k limit) ≡ true → 0 < k
    low e = grind (arith, nat_tests)

    high : (nat_lt 0 k && nat_le k limit) ≡ true → k ≤ limit
    high e = grind (arith, nat_tests)

    by : (b : Bool) → (nat_lt 0 k && nat_le k limit) ≡ b → (get_or row k false && b) ≡ (b && not (is_live cells k))
    by true e = swap (get_or row k false) true ∙ free (low e) (high e)
    by false e = swap (get_or row k false) false

-- ---- the marks

pub marks-more : {slots : ℕ} (cells : List (Cell slots)) (place : ℕ) (c : Cell slots) (old new : List Bool) → place < length cells → c ≡ get_or cells place c → old ≡ map has_no_strong (store_of (take place cells)) → new ≡ old ++ (c.strong == 0) ∷ [] → new ≡ map has_no_strong (store_of (take (place + 1) cells))
marks-more cells place c old new within is so_far next =
    next ∙ (ap (λ (bs : List Bool). bs ++ (c.strong == 0) ∷ []) so_far
    ∙ sym (ap (map has_no_strong) (store-more cells place c within is) ∙ map-append has_no_strong (store_of (take place cells)) (cell_of c ∷ [])))

pub marks-all : {slots : ℕ} (cells : List (Cell slots)) (place : ℕ) (marks : List Bool) → length cells ≤ place → marks ≡ map has_no_strong (store_of (take place cells)) → marks ≡ map has_no_strong (store_of cells)
marks-all {slots} cells place marks past h = h ∙ ap (λ (cs : List (Cell slots)). map has_no_strong (store_of cs)) (take_all place cells past)

-- ---- the queue

-- the test
abbrev pub is_zero : ℕ → StoredCell → Bool
is_zero id c = c.live && (not (id == root) && (c.strong == 0))

-- one cell more
zeros-more : (k n : ℕ) (cs : List StoredCell) (c : StoredCell) → k + length cs ≡ n → zeros_from k (cs ++ c ∷ []) ≡ zeros_from k cs ++ (if is_zero n c then n ∷ [] else [])
zeros-more k n [] c e =
    let same : k ≡ n = omega (arith, e) in
    append-nil (if is_zero k c then k ∷ [] else []) ∙ ap (λ x. if is_zero x c then x ∷ [] else []) same
zeros-more k n (x ∷ xs) c e =
    let here : List ℕ = if is_zero k x then k ∷ [] else [] in
    let last : List ℕ = if is_zero n c then n ∷ [] else [] in
    ap (λ (rest : List ℕ). here ++ rest) (zeros-more (suc k) n xs c (omega (arith, e))) ∙ sym (append_assoc here (zeros_from (suc k) xs) last)

-- what is queued so far stands before it
zeros-before : (k : ℕ) (cs : List StoredCell) (x : ℕ) → k + length cs ≤ x → has (zeros_from k cs) x ≡ false
zeros-before k [] x l = refl
zeros-before k (c ∷ cs) x l = by (is_zero k c) (zeros-before (suc k) cs x (omega (arith, l)))
  where
    by : (b : Bool) → has (zeros_from (suc k) cs) x ≡ false → has ((if b then k ∷ [] else []) ++ zeros_from (suc k) cs) x ≡ false
    by true h = ap (λ b. b || has (zeros_from (suc k) cs) x) (ne_eqb k x (λ e. omega (arith, e, l))) ∙ h
    by false h = h

module _ {slots : ℕ} (cells : List (Cell slots)) (place : ℕ) (c : Cell slots) (within : place < length cells) (is : c ≡ get_or cells place c) where
  length-so_far : 0 + length (store_of (take place cells)) ≡ place + 1
  length-so_far =
      let cut : length (take place cells) ≡ place = length-take-le place cells (omega (arith, within)) in
      let long = length-map (take place cells) cell_of in
      omega (arith, cut, long)

  zeros-next : zeros_of (store_of (take (place + 1) cells)) ≡ zeros_of (store_of (take place cells)) ++ (if is_zero (place + 1) (cell_of c) then (place + 1) ∷ [] else [])
  zeros-next = ap zeros_of (store-more cells place c within is) ∙ zeros-more 0 (place + 1) (store_of (take place cells)) (cell_of c) length-so_far

  -- it joins
  pub queue-joins : is_zero (place + 1) (cell_of c) ≡ true → joined (zeros_of (store_of (take place cells))) (place + 1) ≡ zeros_of (store_of (take (place + 1) cells))
  queue-joins waits =
      let ids = zeros_of (store_of (take place cells)) in
      let not_there : has ids (place + 1) ≡ false = zeros-before 0 (store_of (take place cells)) (place + 1) (let long = length-so_far in omega (arith, long)) in
      ap (λ b. if b then ids else ids ++ (place + 1) ∷ []) not_there
      ∙ sym (zeros-next ∙ ap (λ b. ids ++ (if b then (place + 1) ∷ [] else [])) waits)

  -- it doesn't
  pub queue-keeps : is_zero (place + 1) (cell_of c) ≡ false → zeros_of (store_of (take place cells)) ≡ zeros_of (store_of (take (place + 1) cells))
  queue-keeps not_zero =
      let ids = zeros_of (store_of (take place cells)) in
      sym (zeros-next ∙ (ap (λ b. ids ++ (if b then (place + 1) ∷ [] else [])) not_zero ∙ append-nil ids))

pub queue-all : {slots : ℕ} (cells : List (Cell slots)) (place : ℕ) → length cells ≤ place → zeros_of (store_of (take place cells)) ≡ zeros_of (store_of cells)
queue-all {slots} cells place past = ap (λ (cs : List (Cell slots)). zeros_of (store_of cs)) (take_all place cells past)
