-- A record is done to the cells that it concerns, one after another.
use Rattle.std.proofs.Common.{◌≡◌, ◌≢◌, ℕ, ◌<◌, ◌≤◌, Bool, List, true, false, length, map, set, refl, sym, ap, ◌∙◌, subst, arith, ⊎_elim, ◌⊎◌, inl, inr}
use Rattle.std.specs.Prelude.{◌==◌, ◌||◌, ◌&&◌, cond, nat_le, slice_index, if◌then◌else◌}
use Rattle.std.proofs.lemmas.Bool.{ne_eqb}
use Rattle.std.proofs.lemmas.Bool.Decides.{nat_tests}
use Rattle.std.proofs.lemmas.List.{length-set, get_or-set_same, get_or-set_other, ext_get_or, set-get_or}
use Rattle.std.proofs.lemmas.List.FromFn.{get_or-map-range_with_len, length-map-range_with_len}
use Rattle.cell_model.specs.Cells.{Cell as StoredCell, blank_cell, cell_at}
use Rattle.cell_model.specs.Records.{Record as StoredRecord}
use Rattle.restart_laws.specs.Local.{effect, FitsAt, is_in_page, cell_in}
use Rattle.cell_page.specs.declared.cell.Cell.{Cell}
use Rattle.cell_page.specs.Stored.{cell_of}
use Rattle.log_replay.specs.Replays.{is_skipped, FitsUnskippedCells, each_after, after_cells, after_image}
use Rattle.log_replay.specs.Steps.{FitsCell, AreConcerned, IsUnconcerned}
use Rattle.log_replay.specs.declared.concerned.ThreeIds.{ThreeIds}

pub same_or_apart : (p q : ℕ) → (p ≡ q) ⊎ (p ≢ q)
same_or_apart p q = grind (arith, nat_tests)

-- ---- cells that became what f makes of them

pub length-each_after : (f : ℕ → StoredCell → StoredCell) (cells : List StoredCell) → length (each_after f cells) ≡ length cells
length-each_after f cells = length-map-range_with_len (λ (x : ℕ). f x (cell_at cells x)) 0 (length cells)

pub at-each_after : (f : ℕ → StoredCell → StoredCell) (cells : List StoredCell) (x : ℕ) → x < length cells → cell_at (each_after f cells) x ≡ f x (cell_at cells x)
at-each_after f cells x below = get_or-map-range_with_len (λ (y : ℕ). f y (cell_at cells y)) 0 (length cells) x x (blank_cell false 0) below (omega arith)

-- cells that are so at each id are these
pub is-each_after : (f : ℕ → StoredCell → StoredCell) (cells after : List StoredCell) → length after ≡ length cells → ((x : ℕ) → x < length cells → cell_at after x ≡ f x (cell_at cells x)) → after ≡ each_after f cells
is-each_after f cells after l h =
    ext_get_or (blank_cell false 0) after (each_after f cells) (l ∙ sym (length-each_after f cells))
    (λ (x : ℕ) (below : x < length after). h x (omega (arith, l, below)) ∙ sym (at-each_after f cells x (omega (arith, l, below))))

-- ---- one of them

-- the cells, where f is done to that of the id
abbrev pub done_at : (ℕ → StoredCell → StoredCell) → ℕ → List StoredCell → List StoredCell
done_at f id cells = set cells id (f id (cell_at cells id))

pub length-done_at : (f : ℕ → StoredCell → StoredCell) (id : ℕ) (cells : List StoredCell) → length (done_at f id cells) ≡ length cells
length-done_at f id cells = length-set cells id (f id (cell_at cells id))

at-done_here : (f : ℕ → StoredCell → StoredCell) (id : ℕ) (cells : List StoredCell) → id < length cells → cell_at (done_at f id cells) id ≡ f id (cell_at cells id)
at-done_here f id cells below = get_or-set_same cells id (f id (cell_at cells id)) (blank_cell false 0) below

pub at-done_other : (f : ℕ → StoredCell → StoredCell) (id x : ℕ) (cells : List StoredCell) → x ≢ id → cell_at (done_at f id cells) x ≡ cell_at cells x
at-done_other f id x cells n = get_or-set_other cells id x (f id (cell_at cells id)) (blank_cell false 0) n

-- where f leaves a cell alone
pub done_nowhere : (f : ℕ → StoredCell → StoredCell) (id : ℕ) (cells : List StoredCell) → f id (cell_at cells id) ≡ cell_at cells id → done_at f id cells ≡ cells
done_nowhere f id cells h = ap (λ (c : StoredCell). set cells id c) h ∙ set-get_or cells id (blank_cell false 0)

-- ---- a record

pub none-after_cells : (slots : ℕ) (skips : List ℕ) (r : StoredRecord) (x : ℕ) (c : StoredCell) → x ≡ 0 → after_cells slots skips r x c ≡ c
none-after_cells slots skips r x c e = rw e refl

pub skipped-after_cells : (slots : ℕ) (skips : List ℕ) (r : StoredRecord) (x : ℕ) (c : StoredCell) → is_skipped skips x ≡ true → after_cells slots skips r x c ≡ c
skipped-after_cells slots skips r x c e = rw e (by (x == 0))
  where
    by : (b : Bool) → (if b || true then c else effect slots r x c) ≡ c
    by true = refl
    by false = refl

pub done-after_cells : (slots : ℕ) (skips : List ℕ) (r : StoredRecord) (x : ℕ) (c : StoredCell) → x ≢ 0 → is_skipped skips x ≡ false → after_cells slots skips r x c ≡ effect slots r x c
done-after_cells slots skips r x c n e = rw (ne_eqb x 0 n, e) refl

kept-after_cells : (slots : ℕ) (skips : List ℕ) (r : StoredRecord) (x : ℕ) (c : StoredCell) → effect slots r x c ≡ c → after_cells slots skips r x c ≡ c
kept-after_cells slots skips r x c e = by ((x == 0) || is_skipped skips x)
  where
    by : (b : Bool) → (if b then c else effect slots r x c) ≡ c
    by true = refl
    by false = e

-- a record that concerns no cell leaves all as they are
pub alone_after : (slots : ℕ) (skips : List ℕ) (r : StoredRecord) (cells : List StoredCell) → ((x : ℕ) → IsUnconcerned slots r x) → cells ≡ each_after (after_cells slots skips r) cells
alone_after slots skips r cells alone =
    is-each_after (after_cells slots skips r) cells cells refl (λ (x : ℕ) (below : x < length cells). sym (kept-after_cells slots skips r x (cell_at cells x) (alone x (cell_at cells x)).1))

-- three steps are the whole record
pub three-done : (slots : ℕ) (skips : List ℕ) (r : StoredRecord) (ids : ThreeIds) (cells : List StoredCell) → AreConcerned slots r ids → ids.own < length cells → ids.«from» < length cells → ids.to < length cells
    → (let f = after_cells slots skips r in done_at f ids.to (done_at f ids.«from» (done_at f ids.own cells)) ≡ each_after f cells)
three-done slots skips r ids cells are own_in from_in to_in = is-each_after f cells three (len3 ∙ (len2 ∙ len1)) (λ (x : ℕ) (below : x < length cells). by x below (same_or_apart x 0))
  where
    f : ℕ → StoredCell → StoredCell
    f = after_cells slots skips r

    one : List StoredCell
    one = done_at f ids.own cells

    two : List StoredCell
    two = done_at f ids.«from» one

    three : List StoredCell
    three = done_at f ids.to two

    len1 : length one ≡ length cells
    len1 = length-done_at f ids.own cells

    len2 : length two ≡ length one
    len2 = length-done_at f ids.«from» one

    len3 : length three ≡ length two
    len3 = length-done_at f ids.to two

    -- a step where f leaves the cell alone, or which is of another cell
    quiet : (id x : ℕ) (cs : List StoredCell) → (x ≡ id → f x (cell_at cs x) ≡ cell_at cs x) → cell_at (done_at f id cs) x ≡ cell_at cs x
    quiet id x cs h =
        ⊎_elim
        (λ (e : x ≡ id). ap (λ (ds : List StoredCell). cell_at ds x) (done_nowhere f id cs (subst (λ (y : ℕ). f y (cell_at cs y) ≡ cell_at cs y) e (h e))))
        (λ (n : x ≢ id). at-done_other f id x cs n)
        (same_or_apart x id)

    here : (id x : ℕ) (cs : List StoredCell) → x ≡ id → id < length cs → cell_at (done_at f id cs) x ≡ f x (cell_at cs x)
    here id x cs e below = subst (λ (y : ℕ). cell_at (done_at f id cs) y ≡ f y (cell_at cs y)) (sym e) (at-done_here f id cs below)

    third : (x : ℕ) → x ≢ 0 → x ≢ ids.own → x ≢ ids.«from» → (x ≡ ids.to) ⊎ (x ≢ ids.to) → cell_at three x ≡ f x (cell_at cells x)
    third x some n m (inl e) =
        let before : cell_at two x ≡ cell_at cells x = at-done_other f ids.«from» x one m ∙ at-done_other f ids.own x cells n in
        here ids.to x two e (omega (arith, len1, len2, to_in)) ∙ ap (λ (c : StoredCell). f x c) before
    third x some n m (inr k) =
        at-done_other f ids.to x two k ∙ (at-done_other f ids.«from» x one m ∙ (at-done_other f ids.own x cells n
        ∙ sym (kept-after_cells slots skips r x (cell_at cells x) (are.others x some n m k (cell_at cells x)).1)))

    second : (x : ℕ) → x ≢ 0 → x ≢ ids.own → (x ≡ ids.«from») ⊎ (x ≢ ids.«from») → cell_at three x ≡ f x (cell_at cells x)
    second x some n (inl e) =
        let last : x ≢ ids.to = λ (t : x ≡ ids.to). (are.to_apart (λ (z : ids.to ≡ 0). some (t ∙ z))).1 (sym t ∙ e) in
        at-done_other f ids.to x two last ∙ (here ids.«from» x one e (omega (arith, len1, from_in)) ∙ ap (λ (c : StoredCell). f x c) (at-done_other f ids.own x cells n))
    second x some n (inr m) = third x some n m (same_or_apart x ids.to)

    «first» : (x : ℕ) → x ≢ 0 → (x ≡ ids.own) ⊎ (x ≢ ids.own) → cell_at three x ≡ f x (cell_at cells x)
    «first» x some (inl e) =
        let m : x ≢ ids.«from» = λ (t : x ≡ ids.«from»). are.from_apart (λ (z : ids.«from» ≡ 0). some (t ∙ z)) (sym t ∙ e) in
        let k : x ≢ ids.to = λ (t : x ≡ ids.to). (are.to_apart (λ (z : ids.to ≡ 0). some (t ∙ z))).0 (sym t ∙ e) in
        at-done_other f ids.to x two k ∙ (at-done_other f ids.«from» x one m ∙ here ids.own x cells e own_in)
    «first» x some (inr n) = second x some n (same_or_apart x ids.«from»)

    by : (x : ℕ) → x < length cells → (x ≡ 0) ⊎ (x ≢ 0) → cell_at three x ≡ f x (cell_at cells x)
    by x below (inl z) =
        let still : (c : StoredCell) → f x c ≡ c = λ (c : StoredCell). none-after_cells slots skips r x c z in
        quiet ids.to x two (λ (e : x ≡ ids.to). still (cell_at two x))
        ∙ (quiet ids.«from» x one (λ (e : x ≡ ids.«from»). still (cell_at one x))
        ∙ (quiet ids.own x cells (λ (e : x ≡ ids.own). still (cell_at cells x)) ∙ sym (still (cell_at cells x))))
    by x below (inr some) = «first» x some (same_or_apart x ids.own)

-- a record that fits the cells that it concerns fits all
pub fits-all : (slots : ℕ) (skips : List ℕ) (r : StoredRecord) (ids : ThreeIds) (cells : List StoredCell) → AreConcerned slots r ids
    → FitsCell skips cells r ids.own → FitsCell skips cells r ids.«from» → FitsCell skips cells r ids.to → FitsUnskippedCells skips cells r
fits-all slots skips r ids cells are own old new = λ (x : ℕ) (above : 1 ≤ x) (below : x < length cells) (seen : is_skipped skips x ≡ false). by x above seen (same_or_apart x ids.own) (same_or_apart x ids.«from») (same_or_apart x ids.to)
  where
    at : (id x : ℕ) → FitsCell skips cells r id → 1 ≤ x → is_skipped skips x ≡ false → x ≡ id → FitsAt r x (cell_at cells x)
    at id x h above seen e = subst (λ (y : ℕ). FitsCell skips cells r y) (sym e) h above seen

    by : (x : ℕ) → 1 ≤ x → is_skipped skips x ≡ false → (x ≡ ids.own) ⊎ (x ≢ ids.own) → (x ≡ ids.«from») ⊎ (x ≢ ids.«from») → (x ≡ ids.to) ⊎ (x ≢ ids.to) → FitsAt r x (cell_at cells x)
    by x above seen (inl e) b c = at ids.own x own above seen e
    by x above seen (inr n) (inl e) c = at ids.«from» x old above seen e
    by x above seen (inr n) (inr m) (inl e) = at ids.to x new above seen e
    by x above seen (inr n) (inr m) (inr k) = (are.others x (λ (z : x ≡ 0). omega (arith, above, z)) n m k (cell_at cells x)).0

-- ---- an image

-- before the last image that is to come, nothing changes
pub image_awaited : {slots : ℕ} (skips : List ℕ) (p : ℕ) (held : List (Cell slots)) (cells : List StoredCell) → 1 < slice_index skips p → cells ≡ each_after (after_image skips p held) cells
image_awaited skips p held cells more = is-each_after (after_image skips p held) cells cells refl (λ x below. sym (by x (is_in_page p x)))
  where
    early : nat_le (slice_index skips p) 1 ≡ false
    early = grind (arith, nat_tests)

    by : (x : ℕ) → (b : Bool) → (if b && nat_le (slice_index skips p) 1 then cell_in p (map cell_of held) x else cell_at cells x) ≡ cell_at cells x
    by x true = rw early refl
    by x false = refl

-- the last one is the page
pub image_put : {slots : ℕ} (skips : List ℕ) (p : ℕ) (held : List (Cell slots)) (cells after : List StoredCell) → slice_index skips p ≤ 1 → length after ≡ length cells
    → ((x : ℕ) → cell_at after x ≡ cond (is_in_page p x) (cell_in p (map cell_of held) x) (cell_at cells x)) → after ≡ each_after (after_image skips p held) cells
image_put skips p held cells after last len at = is-each_after (after_image skips p held) cells after len (λ x below. at x ∙ by x (is_in_page p x))
  where
    late : nat_le (slice_index skips p) 1 ≡ true
    late = grind (arith, nat_tests)

    by : (x : ℕ) → (b : Bool) → cond b (cell_in p (map cell_of held) x) (cell_at cells x) ≡ (if b && nat_le (slice_index skips p) 1 then cell_in p (map cell_of held) x else cell_at cells x)
    by x true = rw late refl
    by x false = refl

-- ---- answers of three tests

-- a cell that another step leaves alone still fits
pub kept-fits : (slots : ℕ) (skips : List ℕ) (r : StoredRecord) (id x : ℕ) (cells : List StoredCell) → (x ≢ 0 → x ≢ id) → FitsCell skips cells r x → FitsCell skips (done_at (after_cells slots skips r) id cells) r x
kept-fits slots skips r id x cells apart h =
    λ above seen. subst (FitsAt r x) (sym (at-done_other (after_cells slots skips r) id x cells (apart (λ (z : x ≡ 0). omega (arith, above, z))))) (h above seen)

pub one-fits : (skips : List ℕ) (cells : List StoredCell) (r : StoredRecord) (x : ℕ) → x < length cells → FitsUnskippedCells skips cells r → FitsCell skips cells r x
one-fits skips cells r x below h = λ above seen. h x above below seen

pub all-three : (a b c : Bool) (A B C D : Type 0) → (a ≡ true → A) × (A → a ≡ true) → (b ≡ true → B) × (B → b ≡ true) → (c ≡ true → C) × (C → c ≡ true)
    → (A → B → C → D) → (D → A) → (D → B) → (D → C) → (((a && b) && c) ≡ true → D) × (D → ((a && b) && c) ≡ true)
all-three true true true A B C D f g h all one two three = ((λ _. all (f.0 refl) (g.0 refl) (h.0 refl)), (λ _. refl))
all-three true true false A B C D f g h all one two three = ((λ e. absurd (cc)), (λ d. h.1 (three d)))
all-three true false c A B C D f g h all one two three = ((λ e. absurd (cc)), (λ d. absurd (let e = g.1 (two d) in cc)))
all-three false b c A B C D f g h all one two three = ((λ e. absurd (cc)), (λ d. absurd (let e = f.1 (one d) in cc)))
