-- The cells of a store in its pages.
use Rattle.std.proofs.Common.{◌≡◌, ◌≢◌, ℕ, ◌+◌, ◌-◌, ◌*◌, ◌<◌, ◌≤◌, List, [], cond, true, false, length, map, take, drop, get_or, set, refl, sym, ap, ◌∙◌, subst, arith, ◌⊎◌, inl, inr}
use Rattle.std.specs.Prelude.{nat_le}
use Rattle.std.proofs.lemmas.Bool.{ne_eqb, cases_lt}
use Rattle.std.proofs.lemmas.Bool.Decides.{nat_tests}
use Rattle.std.proofs.Math.ListN.{get_or-eq_default}
use Rattle.std.proofs.lemmas.List.{length-set, get_or-set_same, get_or-set_other, ext_get_or, get_or_default, get_or-map, get_or-take, get_or-drop, length-map, length-drop, length-take-le}
use Rattle.std.proofs.lemmas.List.FromFn.{get_or-map-range_with_len, length-map-range_with_len}
use Rattle.cell_model.specs.Cells.{Cell as StoredCell, blank_cell, cell_at}
use Rattle.restart_laws.specs.Local.{is_in_page, cell_in}
use Rattle.cell_page.specs.declared.cell.Cell.{Cell}
use Rattle.cell_page.specs.Format.{IsPage, HasId, page_of_id, place_of, first_id, free_cell}
use Rattle.cell_page.specs.Stored.{cell_of, page_of, HoldsPage}
use Rattle.restart_laws.specs.Unended.{Unended}
use Rattle.log_replay.specs.Placed.{AreStoreEntries}
use Rattle.log_replay.specs.Replays.{IsReplaying}
use Rattle.log_replay.specs.Inside.{held_at, stored_at, cells_of_pages, AreStorePages}

pub length-cells_of_pages : {slots : ℕ} (pages : List (List (Cell slots))) → length (cells_of_pages pages) ≡ 8 * length pages + 1
unfolding cells_of_pages
length-cells_of_pages pages = length-map-range_with_len (stored_at pages) 0 (8 * length pages + 1)

pub cell_at-cells_of_pages : {slots : ℕ} (pages : List (List (Cell slots))) (id : ℕ) → id < 8 * length pages + 1 → cell_at (cells_of_pages pages) id ≡ stored_at pages id
unfolding cells_of_pages
cell_at-cells_of_pages pages id below = get_or-map-range_with_len (stored_at pages) 0 (8 * length pages + 1) id id (blank_cell false 0) below (omega arith)

pub stored_at-held : {slots : ℕ} (pages : List (List (Cell slots))) (id : ℕ) → 0 < id → stored_at pages id ≡ cell_of (held_at pages id)
stored_at-held pages id above = rw (ne_eqb id 0 (λ e. omega arith)) refl

-- the page of an id is there
pub page_within : (n id : ℕ) → 0 < id → id < 8 * n + 1 → page_of_id id < n
page_within n id above below = omega arith

pub place_below : (id : ℕ) → place_of id < 8
place_below id = omega arith

pub id_of_place : (id : ℕ) → 0 < id → first_id (page_of_id id) + place_of id ≡ id
id_of_place id above = omega arith

-- ids whose pages and places are the same are the same
pub same_place : (x y : ℕ) → 0 < x → 0 < y → page_of_id x ≡ page_of_id y → place_of x ≡ place_of y → x ≡ y
same_place x y a b p q = omega arith

-- ---- the cell of an id

pub id_few : {slots : ℕ} (pages : List (List (Cell slots))) (cells : List StoredCell) (id : ℕ) → AreStorePages pages → cells_of_pages pages ≡ cells → id < length cells → id ≤ 524288
id_few pages cells id are view below =
    let l = length-cells_of_pages pages in
    let v = ap (λ (cs : List StoredCell). length cs) view in
    let m = are.most in
    omega (arith, l, v, m, below)

pub page_there : {slots : ℕ} (pages : List (List (Cell slots))) (cells : List StoredCell) (id p : ℕ) → cells_of_pages pages ≡ cells → 0 < id → id < length cells → p ≡ page_of_id id → p < length pages
page_there pages cells id p view above below e =
    let l = length-cells_of_pages pages in
    let v = ap (λ (cs : List StoredCell). length cs) view in
    let b : id < 8 * length pages + 1 = omega (arith, l, v, below) in
    let w = page_within (length pages) id above b in
    omega (arith, e, w)

-- what the place of a page holds
pub held_page : {slots : ℕ} (pages : List (List (Cell slots))) (p : ℕ) (held : List (Cell slots)) → AreStorePages pages → p < length pages → held ≡ get_or pages p held → IsPage p held
held_page pages p held are below e = subst (λ (h : List (Cell _)). IsPage p h) (sym (e ∙ get_or_default pages p held [] below)) (are.each p below)

pub has_id : {slots : ℕ} (p id : ℕ) (held : List (Cell slots)) → IsPage p held → 0 < id → p ≡ page_of_id id → HasId held id
has_id p id held page above e = record {
  above = above;
  there = λ d. (page.each (place_of id) d (place_below id)).placed ∙ (ap (λ (q : ℕ). first_id q + place_of id) e ∙ id_of_place id above);
}

pub got_cell : {slots : ℕ} (pages : List (List (Cell slots))) (cells : List StoredCell) (id p : ℕ) (held : List (Cell slots)) (c : Cell slots) → AreStorePages pages → cells_of_pages pages ≡ cells → 0 < id → id < length cells
    → p ≡ page_of_id id → held ≡ get_or pages p held → c ≡ get_or held (place_of id) c → cell_of c ≡ cell_at cells id
got_cell {slots} pages cells id p held c are view above below e is at =
    let there = page_there pages cells id p view above below e in
    let page = held_page pages p held are there is in
    let d : Cell slots = free_cell slots 0 in
    let b : id < 8 * length pages + 1 = (let l = length-cells_of_pages pages in let v = ap (λ (cs : List StoredCell). length cs) view in omega (arith, l, v, below)) in
    let short : place_of id < length held = (let n = page.eight in let k = place_below id in omega (arith, n, k)) in
    let same : held ≡ get_or pages (page_of_id id) [] = is ∙ (get_or_default pages p held [] there ∙ ap (λ (q : ℕ). get_or pages q []) e) in
    ap cell_of (at ∙ (get_or_default held (place_of id) c d short ∙ ap (λ (h : List (Cell slots)). get_or h (place_of id) d) same))
    ∙ (sym (stored_at-held pages id above) ∙ (sym (cell_at-cells_of_pages pages id b) ∙ ap (λ (cs : List StoredCell). cell_at cs id) view))

-- ---- a page

pub page_below : {slots : ℕ} (pages : List (List (Cell slots))) (cells : List StoredCell) (p : ℕ) → cells_of_pages pages ≡ cells → 8 * p + 1 < length cells → p < length pages
page_below pages cells p view below =
    let l = length-cells_of_pages pages in
    let v = ap (λ (cs : List StoredCell). length cs) view in
    omega (arith, l, v, below)

-- the cell at a place of a page
at_place : {slots : ℕ} (pages : List (List (Cell slots))) (p k : ℕ) → p < length pages → k < 8 → cell_at (cells_of_pages pages) (8 * p + 1 + k) ≡ cell_of (get_or (get_or pages p []) k (free_cell slots 0))
at_place {slots} pages p k below within =
    let id = 8 * p + 1 + k in
    let q : page_of_id id ≡ p = omega arith in
    let r : place_of id ≡ k = omega arith in
    cell_at-cells_of_pages pages id (omega (arith, below, within)) ∙ (stored_at-held pages id (omega arith)
    ∙ (ap (λ (n : ℕ). cell_of (get_or (get_or pages n []) (place_of id) (free_cell slots 0))) q ∙ ap (λ (n : ℕ). cell_of (get_or (get_or pages p []) n (free_cell slots 0))) r))

pub holds_page : {slots : ℕ} (pages : List (List (Cell slots))) (cells : List StoredCell) (p : ℕ) (held : List (Cell slots)) → AreStorePages pages → cells_of_pages pages ≡ cells → 8 * p + 1 < length cells → held ≡ get_or pages p held → HoldsPage cells p held
holds_page {slots} pages cells p held are view below is =
    let there = page_below pages cells p view below in
    let page = held_page pages p held are there is in
    let e : StoredCell = blank_cell false 0 in
    let d : Cell slots = free_cell slots 0 in
    let same : held ≡ get_or pages p [] = is ∙ get_or_default pages p held [] there in
    let tall : 8 + (8 * p + 1) ≤ length (cells_of_pages pages) = (let l = length-cells_of_pages pages in omega (arith, l, there)) in
    let rest : length (drop (8 * p + 1) (cells_of_pages pages)) + (8 * p + 1) ≡ length (cells_of_pages pages) = (let n = length-drop (8 * p + 1) (cells_of_pages pages) in omega (arith, n, tall)) in
    let some : 8 ≤ length (drop (8 * p + 1) (cells_of_pages pages)) = omega (arith, tall, rest) in
    let long : length (map cell_of held) ≡ 8 = length-map held cell_of ∙ page.eight in
    record {
      rules = page;
      same =
          subst (λ (cs : List StoredCell). map cell_of held ≡ page_of cs p) view
          (ext_get_or e (map cell_of held) (take 8 (drop (8 * p + 1) (cells_of_pages pages))) (long ∙ sym (length-take-le 8 (drop (8 * p + 1) (cells_of_pages pages)) some))
          (λ (k : ℕ) (low : k < length (map cell_of held)).
          let in_page : k < 8 = omega (arith, low, long) in
          get_or-map cell_of held k d e (let n = page.eight in omega (arith, n, in_page))
          ∙ (ap (λ (h : List (Cell slots)). cell_of (get_or h k d)) same
          ∙ (sym (at_place pages p k there in_page) ∙ (sym (get_or-drop (8 * p + 1) (cells_of_pages pages) k e) ∙ sym (get_or-take 8 (drop (8 * p + 1) (cells_of_pages pages)) k e in_page))))));
    }

-- ---- a change of a cell, and of a page

pub length-set_page : {slots : ℕ} (pages : List (List (Cell slots))) (p : ℕ) (held : List (Cell slots)) → length (cells_of_pages (set pages p held)) ≡ length (cells_of_pages pages)
length-set_page pages p held = length-cells_of_pages (set pages p held) ∙ (ap (λ (n : ℕ). 8 * n + 1) (length-set pages p held) ∙ sym (length-cells_of_pages pages))

-- the cell of an id on another page
at_other : {slots : ℕ} (pages : List (List (Cell slots))) (p x : ℕ) (held : List (Cell slots)) → 0 < x → page_of_id x ≢ p → stored_at (set pages p held) x ≡ stored_at pages x
at_other {slots} pages p x held above n =
    stored_at-held (set pages p held) x above
    ∙ (ap (λ (h : List (Cell slots)). cell_of (get_or h (place_of x) (free_cell slots 0))) (get_or-set_other pages p (page_of_id x) held [] n) ∙ sym (stored_at-held pages x above))

-- and on this one
at_this : {slots : ℕ} (pages : List (List (Cell slots))) (p x : ℕ) (held : List (Cell slots)) → 0 < x → page_of_id x ≡ p → p < length pages → stored_at (set pages p held) x ≡ cell_of (get_or held (place_of x) (free_cell slots 0))
at_this {slots} pages p x held above e below =
    stored_at-held (set pages p held) x above
    ∙ (ap (λ (n : ℕ). cell_of (get_or (get_or (set pages p held) n []) (place_of x) (free_cell slots 0))) e
    ∙ ap (λ (h : List (Cell slots)). cell_of (get_or h (place_of x) (free_cell slots 0))) (get_or-set_same pages p held [] below))

le_cases : (a b : ℕ) → ((nat_le a b ≡ true) × (a ≤ b)) ⊎ ((nat_le a b ≡ false) × (b < a))
le_cases a b = by (cases_lt b a)
  where
    by : (b < a) ⊎ (a ≤ b) → ((nat_le a b ≡ true) × (a ≤ b)) ⊎ ((nat_le a b ≡ false) × (b < a))
    by (inl l) = inr (grind (arith, nat_tests), l)
    by (inr h) = inl (grind (arith, nat_tests), h)

same_or_apart : (p q : ℕ) → (p ≡ q) ⊎ (p ≢ q)
same_or_apart p q = grind (arith, nat_tests)

pub are_set : {slots : ℕ} (pages : List (List (Cell slots))) (p : ℕ) (held : List (Cell slots)) → AreStorePages pages → p < length pages → IsPage p held → AreStorePages (set pages p held)
are_set {slots} pages p held are below page = record {
  slot_count = are.slot_count;
  some = (let l = length-set pages p held in let s = are.some in omega (arith, l, s));
  most = (let l = length-set pages p held in let m = are.most in omega (arith, l, m));
  each = λ (q : ℕ) (low : q < length (set pages p held)). by q (let l = length-set pages p held in omega (arith, l, low)) (same_or_apart q p);
}
  where
    by : (q : ℕ) → q < length pages → (q ≡ p) ⊎ (q ≢ p) → IsPage q (get_or (set pages p held) q [])
    by q low (inl e) = subst (λ (k : ℕ). IsPage k (get_or (set pages p held) k [])) (sym e) (subst (λ (h : List (Cell slots)). IsPage p h) (sym (get_or-set_same pages p held [] below)) page)
    by q low (inr n) = subst (λ (h : List (Cell slots)). IsPage q h) (sym (get_or-set_other pages p q held [] n)) (are.each q low)

pub put_cell : {slots : ℕ} (pages : List (List (Cell slots))) (id p : ℕ) (held : List (Cell slots)) (c : Cell slots) → AreStorePages pages → 0 < id → id < length (cells_of_pages pages) → p ≡ page_of_id id → held ≡ get_or pages p held
    → cells_of_pages (set pages p (set held (place_of id) c)) ≡ set (cells_of_pages pages) id (cell_of c)
put_cell {slots} pages id p held c are above below e is =
    ext_get_or blank (cells_of_pages after) (set (cells_of_pages pages) id (cell_of c)) (length-set_page pages p (set held (place_of id) c) ∙ sym (length-set (cells_of_pages pages) id (cell_of c)))
    (λ (x : ℕ) (low : x < length (cells_of_pages after)).
    let b : x < 8 * length pages + 1 = (let l = length-set_page pages p (set held (place_of id) c) in let m = length-cells_of_pages pages in omega (arith, l, m, low)) in
    let a : x < 8 * length after + 1 = (let m = length-set pages p (set held (place_of id) c) in omega (arith, m, b)) in
    cell_at-cells_of_pages after x a ∙ by x b (same_or_apart x 0) (same_or_apart x id) (same_or_apart (page_of_id x) p))
  where
    blank : StoredCell
    blank = blank_cell false 0

    d : Cell slots
    d = free_cell slots 0

    after : List (List (Cell slots))
    after = set pages p (set held (place_of id) c)

    there : p < length pages
    there = page_there pages (cells_of_pages pages) id p refl above below e

    page : IsPage p held
    page = held_page pages p held are there is

    unchanged : (x : ℕ) → x ≢ id → x < 8 * length pages + 1 → cell_at (set (cells_of_pages pages) id (cell_of c)) x ≡ stored_at pages x
    unchanged x n b = get_or-set_other (cells_of_pages pages) id x (cell_of c) blank n ∙ cell_at-cells_of_pages pages x b

    by : (x : ℕ) → x < 8 * length pages + 1 → (x ≡ 0) ⊎ (x ≢ 0) → (x ≡ id) ⊎ (x ≢ id) → (page_of_id x ≡ p) ⊎ (page_of_id x ≢ p) → stored_at after x ≡ cell_at (set (cells_of_pages pages) id (cell_of c)) x
    by x b (inl z) (inl s) q = absurd (omega (arith, above, z, s))
    by x b (inl z) (inr n) q = ap (λ (k : ℕ). stored_at after k) z ∙ (ap (λ (k : ℕ). stored_at pages k) (sym z) ∙ sym (unchanged x n b))
    by x b (inr some) (inl s) q =
        at_this pages p x (set held (place_of id) c) (omega (arith, some)) (ap page_of_id s ∙ sym e) there
        ∙ (ap (λ (k : ℕ). cell_of (get_or (set held (place_of id) c) (place_of k) d)) s
        ∙ (ap cell_of (get_or-set_same held (place_of id) c d (let n = page.eight in let k = place_below id in omega (arith, n, k)))
        ∙ (sym (get_or-set_same (cells_of_pages pages) id (cell_of c) blank below) ∙ ap (λ (k : ℕ). cell_at (set (cells_of_pages pages) id (cell_of c)) k) (sym s))))
    by x b (inr some) (inr n) (inl q) =
        let m : place_of x ≢ place_of id = λ (k : place_of x ≡ place_of id). n (same_place x id (omega (arith, some)) above (q ∙ e) k) in
        at_this pages p x (set held (place_of id) c) (omega (arith, some)) q there
        ∙ (ap cell_of (get_or-set_other held (place_of id) (place_of x) c d m)
        ∙ (ap (λ (h : List (Cell slots)). cell_of (get_or h (place_of x) d)) (is ∙ (get_or_default pages p held [] there ∙ ap (λ (k : ℕ). get_or pages k []) (sym q)))
        ∙ (sym (stored_at-held pages x (omega (arith, some))) ∙ sym (unchanged x n b))))
    by x b (inr some) (inr n) (inr q) = at_other pages p x (set held (place_of id) c) (omega (arith, some)) q ∙ sym (unchanged x n b)

pub put_page : {slots : ℕ} (pages : List (List (Cell slots))) (p : ℕ) (held : List (Cell slots)) → IsPage p held → p < length pages
    → (x : ℕ) → cell_at (cells_of_pages (set pages p held)) x ≡ cond (is_in_page p x) (cell_in p (map cell_of held) x) (cell_at (cells_of_pages pages) x)
put_page {slots} pages p held page there x = by (le_cases (8 * p + 1) x) (le_cases x (8 * p + 8)) (cases_lt x (8 * length pages + 1))
  where
    blank : StoredCell
    blank = blank_cell false 0

    after : List (List (Cell slots))
    after = set pages p held

    size : length after ≡ length pages
    size = length-set pages p held

    outside : (page_of_id x ≢ p) ⊎ (x ≡ 0) → is_in_page p x ≡ false → (x < 8 * length pages + 1) ⊎ (8 * length pages + 1 ≤ x) → cell_at (cells_of_pages after) x ≡ cond (is_in_page p x) (cell_in p (map cell_of held) x) (cell_at (cells_of_pages pages) x)
    outside apart f (inr high) =
        rw f (get_or-eq_default (cells_of_pages after) blank (let l = length-cells_of_pages after in omega (arith, l, size, high)) ∙ sym (get_or-eq_default (cells_of_pages pages) blank (let l = length-cells_of_pages pages in omega (arith, l, high))))
    outside (inr z) f (inl low) =
        rw f (cell_at-cells_of_pages after x (omega (arith, size, low)) ∙ (rw z refl ∙ sym (cell_at-cells_of_pages pages x low)))
    outside (inl n) f (inl low) = rw f (cell_at-cells_of_pages after x (omega (arith, size, low)) ∙ (on (same_or_apart x 0) ∙ sym (cell_at-cells_of_pages pages x low)))
      where
        on : (x ≡ 0) ⊎ (x ≢ 0) → stored_at after x ≡ stored_at pages x
        on (inl z) = rw z refl
        on (inr some) = at_other pages p x held (omega (arith, some)) n

    by : ((nat_le (8 * p + 1) x ≡ true) × (8 * p + 1 ≤ x)) ⊎ ((nat_le (8 * p + 1) x ≡ false) × (x < 8 * p + 1))
        → ((nat_le x (8 * p + 8) ≡ true) × (x ≤ 8 * p + 8)) ⊎ ((nat_le x (8 * p + 8) ≡ false) × (8 * p + 8 < x))
        → (x < 8 * length pages + 1) ⊎ (8 * length pages + 1 ≤ x) → cell_at (cells_of_pages after) x ≡ cond (is_in_page p x) (cell_in p (map cell_of held) x) (cell_at (cells_of_pages pages) x)
    by (inl (a, low)) (inl (b, high)) c =
        let q : page_of_id x ≡ p = omega (arith, low, high) in
        let r : place_of x ≡ x - (8 * p + 1) = omega (arith, low, high) in
        rw (a, b)
        (cell_at-cells_of_pages after x (omega (arith, size, high, there)) ∙ (at_this pages p x held (omega (arith, low)) q there
        ∙ (sym (get_or-map cell_of held (place_of x) (free_cell slots 0) blank (let n = page.eight in let k = place_below x in omega (arith, n, k))) ∙ ap (λ (k : ℕ). get_or (map cell_of held) k blank) r)))
    by (inr (a, low)) b c = outside (zero_or_other low) (rw a refl) c
      where
        zero_or_other : x < 8 * p + 1 → (page_of_id x ≢ p) ⊎ (x ≡ 0)
        zero_or_other l = either (same_or_apart x 0)
          where
            either : (x ≡ 0) ⊎ (x ≢ 0) → (page_of_id x ≢ p) ⊎ (x ≡ 0)
            either (inl z) = inr z
            either (inr some) = inl (λ (e : page_of_id x ≡ p). omega (arith, e, l, some))
    by (inl (a, low)) (inr (b, high)) c = outside (inl (λ (e : page_of_id x ≡ p). omega (arith, e, high))) (rw (a, b) refl) c

-- a replay over pages
pub sized_over : {slots : ℕ} (pages : List (List (Cell slots))) (cells : List StoredCell) (unended : List (ℕ × Unended)) (skips : List ℕ) → AreStorePages pages → cells ≡ cells_of_pages pages → length skips ≡ length pages → unended ≡ []
    → IsReplaying slots (record { cells = cells; unended = unended; skips = skips })
sized_over {slots} pages cells unended skips are e l n = record {
  placed = subst (λ (us : List (ℕ × Unended)). AreStoreEntries slots (8 * length skips) us) (sym n) tt;
  slot_count = are.slot_count;
  sized = ap (λ (cs : List StoredCell). length cs) e ∙ (length-cells_of_pages pages ∙ ap (λ (n : ℕ). 8 * n + 1) (sym l));
  some = (let s = are.some in omega (arith, l, s));
  most = (let m = are.most in omega (arith, l, m));
}
