-- What an edit of one cell leaves.
use Rattle.std.proofs.Common.{◌≡◌, ◌≢◌, ℕ, zero, suc, ◌+◌, ◌-◌, ◌<◌, ◌≤◌, List, [], ◌∷◌, Bool, true, false, cond, refl, sym, ap, ◌∙◌, subst, set, length, length-set, get_or-set_same, get_or-set_other, arith, ◌⊎◌, inl, inr, ⊎_elim, eq-eqb, ne_eqb}
use Rattle.std.specs.Prelude.{◌==◌, ◌&&◌, count_by}
use Rattle.std.proofs.lemmas.Bool.{cases_eq, cases_lt, cond-true, cond-false}
use Rattle.std.proofs.lemmas.List.{get_or_past}
use Rattle.std.proofs.lemmas.List.Sums.{sum_by-set, get_or-le-sum_by}
use Rattle.cell_model.specs.Cells.{Pointer, Cell, null, blank_cell, cell_at, pointer_in, pointer_at, is_live, same, edit, relink, gains, loses, aims, hits, aims_in, counted, pointers_to}

set-past : {X : Type 0} (xs : List X) (i : ℕ) (y : X) → length xs ≤ i → set xs i y ≡ xs
set-past [] i y h = refl
set-past (x ∷ xs) zero y h = absurd (omega arith)
set-past (x ∷ xs) (suc i) y h = ap (λ r. x ∷ r) (set-past xs i y (omega arith))

pub edit-set : (cells : List Cell) (u : ℕ) (f : Cell → Cell) → u ≢ 0 → edit cells u f ≡ set cells u (f (cell_at cells u))
edit-set cells u f n = cond-false (u == 0) cells (set cells u (f (cell_at cells u))) (ne_eqb u 0 n)

-- an edit of a cell that isn't there
pub edit-none : (cells : List Cell) (u : ℕ) (f : Cell → Cell) → (u ≡ 0) ⊎ (length cells ≤ u) → edit cells u f ≡ cells
edit-none cells u f (inl e) = cond-true (u == 0) cells (set cells u (f (cell_at cells u))) (eq-eqb u 0 e)
edit-none cells u f (inr l) = ⊎_elim (λ e. cond-true (u == 0) cells (set cells u (f (cell_at cells u))) (eq-eqb u 0 e)) (λ n. edit-set cells u f n ∙ set-past cells u (f (cell_at cells u)) l) (cases_eq u 0)

-- the cell is there, or it isn't
pub there : (cells : List Cell) (u : ℕ) → ((u ≢ 0) × (u < length cells)) ⊎ ((u ≡ 0) ⊎ (length cells ≤ u))
there cells u = ⊎_elim (λ e. inr (inl e)) (λ n. ⊎_elim (λ l. inl (n, l)) (λ l. inr (inr l)) (cases_lt u (length cells))) (cases_eq u 0)

pub live-within : (cells : List Cell) (u : ℕ) → is_live cells u ≡ true → u < length cells
live-within cells u h = ⊎_elim (λ l. l) (λ l. let no : true ≡ false = sym h ∙ ap (λ (c : Cell). c.live) (get_or_past cells u (blank_cell false 0) l) in cc) (cases_lt u (length cells))

pub live-there : (cells : List Cell) (u : ℕ) → is_live cells 0 ≡ false → is_live cells u ≡ true → u ≢ 0
live-there cells u z h e = let no : true ≡ false = sym h ∙ (ap (λ v. is_live cells v) e ∙ z) in cc

pub edit-here : (cells : List Cell) (u : ℕ) (f : Cell → Cell) → u ≢ 0 → u < length cells → cell_at (edit cells u f) u ≡ f (cell_at cells u)
edit-here cells u f n l = ap (λ cs. cell_at cs u) (edit-set cells u f n) ∙ get_or-set_same cells u (f (cell_at cells u)) (blank_cell false 0) l

pub edit-other : (cells : List Cell) (u v : ℕ) (f : Cell → Cell) → v ≢ u → cell_at (edit cells u f) v ≡ cell_at cells v
edit-other cells u v f n =
    ⊎_elim
    (λ e. ap (λ cs. cell_at cs v) (edit-none cells u f (inl e)))
    (λ m. ap (λ cs. cell_at cs v) (edit-set cells u f m) ∙ get_or-set_other cells u v (f (cell_at cells u)) (blank_cell false 0) n)
    (cases_eq u 0)

-- what f keeps, the edit keeps everywhere
pub edit-keeps : {X : Type 0} (g : Cell → X) (cells : List Cell) (u v : ℕ) (f : Cell → Cell) → ((c : Cell) → g (f c) ≡ g c) → g (cell_at (edit cells u f) v) ≡ g (cell_at cells v)
edit-keeps g cells u v f k =
    ⊎_elim
    (λ e. subst (λ w. g (cell_at (edit cells u f) w) ≡ g (cell_at cells w)) (sym e)
    (⊎_elim (λ t. ap g (edit-here cells u f t.0 t.1) ∙ k (cell_at cells u)) (λ t. ap (λ cs. g (cell_at cs u)) (edit-none cells u f t)) (there cells u)))
    (λ n. ap g (edit-other cells u v f n))
    (cases_eq v u)

pub length-edit : (cells : List Cell) (u : ℕ) (f : Cell → Cell) → length (edit cells u f) ≡ length cells
length-edit cells u f = ⊎_elim (λ t. ap length (edit-set cells u f t.0) ∙ length-set cells u (f (cell_at cells u))) (λ t. ap length (edit-none cells u f t)) (there cells u)

-- ---- pointers are counted over all cells

pub pointers_to-edit : (cells : List Cell) (u : ℕ) (f : Cell → Cell) (b : ℕ) (bit : Bool) → u ≢ 0 → u < length cells → pointers_to (edit cells u f) b bit + aims_in b bit (cell_at cells u) ≡ pointers_to cells b bit + aims_in b bit (f (cell_at cells u))
pointers_to-edit cells u f b bit n l = ap (λ cs. pointers_to cs b bit + aims_in b bit (cell_at cells u)) (edit-set cells u f n) ∙ sum_by-set (aims_in b bit) cells u (f (cell_at cells u)) (blank_cell false 0) l

pub pointers_to-edit_same : (cells : List Cell) (u : ℕ) (f : Cell → Cell) (b : ℕ) (bit : Bool) → aims_in b bit (f (cell_at cells u)) ≡ aims_in b bit (cell_at cells u) → pointers_to (edit cells u f) b bit ≡ pointers_to cells b bit
pointers_to-edit_same cells u f b bit e =
    ⊎_elim
    (λ t. let p = pointers_to-edit cells u f b bit t.0 t.1 in omega (arith, p, e))
    (λ t. ap (λ cs. pointers_to cs b bit) (edit-none cells u f t))
    (there cells u)

-- one slot of a live cell
pub aims_in-relink : (c : Cell) (k : ℕ) (p : Pointer) (b : ℕ) (bit : Bool) → c.live ≡ true → k < length c.pointers → aims_in b bit (relink k p c) + hits b bit (pointer_in c k) ≡ aims_in b bit c + hits b bit p
aims_in-relink c k p b bit l h =
    let s = sum_by-set (λ q. cond (aims b bit q) 1 0) c.pointers k p null h in
    let x = cond-true c.live (count_by (aims b bit) (set c.pointers k p)) 0 l in
    let y = cond-true c.live (count_by (aims b bit) c.pointers) 0 l in
    omega (arith, s, x, y)

-- a pointer of a live cell is counted
pub hits-le : (cells : List Cell) (u k b : ℕ) (bit : Bool) → is_live cells u ≡ true → k < length (cell_at cells u).pointers → hits b bit (pointer_at cells u k) ≤ pointers_to cells b bit
hits-le cells u k b bit l h =
    let c = cell_at cells u in
    let s = get_or-le-sum_by (λ q. cond (aims b bit q) 1 0) c.pointers k null h in
    let y = cond-true c.live (count_by (aims b bit) c.pointers) 0 l in
    let t = get_or-le-sum_by (aims_in b bit) cells u (blank_cell false 0) (live-within cells u l) in
    omega (arith, s, y, t)

-- ---- gains and losses

-- all of a cell but its counts
abbrev pub shape : Cell → Bool × Bool × ℕ × List Pointer
shape c = (c.live, c.bit, c.payload, c.pointers)

pub gains-shape : (bit : Bool) (c : Cell) → shape (gains bit c) ≡ shape c
gains-shape bit c = elim (same c.bit bit) as (λ b. shape (cond b (record c { strong = c.strong + 1 }) (record c { weak = c.weak + 1 })) ≡ shape c) [ true ↦ refl | false ↦ refl ]

pub loses-shape : (bit : Bool) (c : Cell) → shape (loses bit c) ≡ shape c
loses-shape bit c = elim (same c.bit bit) as (λ b. shape (cond b (record c { strong = c.strong - 1 }) (record c { weak = c.weak - 1 })) ≡ shape c) [ true ↦ refl | false ↦ refl ]

aims_in_shape : ℕ → Bool → Bool × Bool × ℕ × List Pointer → ℕ
aims_in_shape b bit s = cond s.0 (count_by (aims b bit) s.3) 0

pub aims_in-shape : (b : ℕ) (bit : Bool) (c d : Cell) → shape c ≡ shape d → aims_in b bit c ≡ aims_in b bit d
unfolding aims_in_shape
aims_in-shape b bit c d e = ap (aims_in_shape b bit) e

abbrev a_cell : Bool → Bool → ℕ → ℕ → ℕ → List Pointer → Cell
a_cell live bit s w pay ps = record { live = live; bit = bit; strong = s; weak = w; payload = pay; pointers = ps }

pub loses-counted : (bit other : Bool) (c : Cell) → counted other (loses bit c) ≡ counted other c - cond (same bit other) 1 0
loses-counted bit other c = by c.live bit other c.bit c.strong c.weak c.payload c.pointers
  where
    by : (l bit other b : Bool) (s w pay : ℕ) (ps : List Pointer) → counted other (loses bit (a_cell l b s w pay ps)) ≡ counted other (a_cell l b s w pay ps) - cond (same bit other) 1 0
    by l true true true s w pay ps = refl
    by l true true false s w pay ps = refl
    by l true false true s w pay ps = omega arith
    by l true false false s w pay ps = omega arith
    by l false true true s w pay ps = omega arith
    by l false true false s w pay ps = omega arith
    by l false false true s w pay ps = refl
    by l false false false s w pay ps = refl

pub gains-counted : (bit other : Bool) (c : Cell) → counted other (gains bit c) ≡ counted other c + cond (same bit other) 1 0
gains-counted bit other c = by c.live bit other c.bit c.strong c.weak c.payload c.pointers
  where
    by : (l bit other b : Bool) (s w pay : ℕ) (ps : List Pointer) → counted other (gains bit (a_cell l b s w pay ps)) ≡ counted other (a_cell l b s w pay ps) + cond (same bit other) 1 0
    by l true true true s w pay ps = refl
    by l true true false s w pay ps = refl
    by l true false true s w pay ps = omega arith
    by l true false false s w pay ps = omega arith
    by l false true true s w pay ps = omega arith
    by l false true false s w pay ps = omega arith
    by l false false true s w pay ps = refl
    by l false false false s w pay ps = refl

-- the cell loses a pointer with this bit where it is that pointer's target
pub counted-loses : (cells : List Cell) (p : Pointer) (b : ℕ) (bit : Bool) → b ≢ 0 → b < length cells → counted bit (cell_at (edit cells p.target (loses p.bit)) b) ≡ counted bit (cell_at cells b) - hits b bit p
counted-loses cells p b bit n l =
    ⊎_elim
    (λ (e : p.target ≡ b).
    let here = subst (λ t. cell_at (edit cells t (loses p.bit)) b ≡ loses p.bit (cell_at cells b)) (sym e) (edit-here cells b (loses p.bit) n l) in
    ap (counted bit) here ∙ (loses-counted p.bit bit (cell_at cells b) ∙ ap (λ t. counted bit (cell_at cells b) - cond (t && same p.bit bit) 1 0) (sym (eq-eqb p.target b e))))
    (λ m.
    let here = ap (counted bit) (edit-other cells p.target b (loses p.bit) (λ e. m (sym e))) in
    let zero_hits : hits b bit p ≡ 0 = ap (λ t. cond (t && same p.bit bit) 1 0) (ne_eqb p.target b m) in
    omega (arith, here, zero_hits))
    (cases_eq p.target b)

pub counted-gains : (cells : List Cell) (p : Pointer) (b : ℕ) (bit : Bool) → b ≢ 0 → b < length cells → counted bit (cell_at (edit cells p.target (gains p.bit)) b) ≡ counted bit (cell_at cells b) + hits b bit p
counted-gains cells p b bit n l =
    ⊎_elim
    (λ (e : p.target ≡ b).
    let here = subst (λ t. cell_at (edit cells t (gains p.bit)) b ≡ gains p.bit (cell_at cells b)) (sym e) (edit-here cells b (gains p.bit) n l) in
    ap (counted bit) here ∙ (gains-counted p.bit bit (cell_at cells b) ∙ ap (λ t. counted bit (cell_at cells b) + cond (t && same p.bit bit) 1 0) (sym (eq-eqb p.target b e))))
    (λ m.
    let here = ap (counted bit) (edit-other cells p.target b (gains p.bit) (λ e. m (sym e))) in
    let zero_hits : hits b bit p ≡ 0 = ap (λ t. cond (t && same p.bit bit) 1 0) (ne_eqb p.target b m) in
    omega (arith, here, zero_hits))
    (cases_eq p.target b)
