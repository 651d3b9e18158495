-- Each record that fits keeps exact counts.
use Rattle.std.proofs.Common.{◌≡◌, ◌≢◌, ℕ, zero, suc, ◌+◌, ◌<◌, ◌≤◌, List, [], ◌∷◌, Bool, true, false, cond, refl, sym, ap, ◌∙◌, subst, get_or, length, arith, ⊎_elim, eq-eqb, ne_eqb}
use Rattle.std.specs.Prelude.{◌&&◌, sum_by, count_by}
use Rattle.std.proofs.lemmas.Bool.{cases_eq, cases_lt, cond-false}
use Rattle.std.proofs.lemmas.List.{get_or_past}
use Rattle.std.proofs.lemmas.List.Sums.{sum_by-cons}
use Rattle.cell_model.specs.Cells.{Pointer, Cell, null, blank_cell, cell_at, pointer_in, pointer_at, is_live, same, edit, aims, hits, aims_in, counted, pointers_to, own_strong, IsExactAt, IsExact, pays}
use Rattle.cell_model.specs.Records.{HasNoPointer}
use Rattle.cell_model.proofs.EditLaws.{live-within, live-there, edit-here, edit-other, edit-keeps, pointers_to-edit_same, hits-le}
use Rattle.cell_model.proofs.CountLaws.{by_bit, from_bits}

-- ---- sums of nothing

pub sum-zero : {X : Type 0} (f : X → ℕ) (xs : List X) (d : X) → ((i : ℕ) → i < length xs → f (get_or xs i d) ≡ 0) → sum_by f xs ≡ 0
sum-zero f [] d h = refl
sum-zero f (x ∷ xs) d h = let e = sum_by-cons f x xs in let z : f x ≡ 0 = h 0 (omega arith) in let r = sum-zero f xs d (λ i l. h (suc i) (omega arith)) in omega (arith, e, z, r)

-- a slot that isn't null is one of the cell's
pub slot-within : (c : Cell) (k : ℕ) → (pointer_in c k).target ≢ 0 → k < length c.pointers
slot-within c k n = ⊎_elim (λ l. l) (λ l. absurd (n (ap (λ (p : Pointer). p.target) (get_or_past c.pointers k null l)))) (cases_lt k (length c.pointers))

aims-apart : (b : ℕ) (bit : Bool) (p : Pointer) → p.target ≢ b → hits b bit p ≡ 0
aims-apart b bit p n = ap (λ t. cond (t && same p.bit bit) 1 0) (ne_eqb p.target b n)

same-itself : (b : Bool) → same b b ≡ true
same-itself true = refl
same-itself false = refl

hits-itself : (p : Pointer) → hits p.target p.bit p ≡ 1
hits-itself p = ap (λ t. cond (t && same p.bit p.bit) 1 0) (eq-eqb p.target p.target refl) ∙ ap (λ t. cond t 1 0) (same-itself p.bit)

-- a live cell without pointers to b, or a free one, adds nothing
pub aims_in-none : (c : Cell) (b : ℕ) (bit : Bool) → (c.live ≡ true → (k : ℕ) → (pointer_in c k).target ≢ b) → aims_in b bit c ≡ 0
aims_in-none c b bit h =
    (elim c.live as (λ l. (l ≡ true → (k : ℕ) → (pointer_in c k).target ≢ b) → cond l (count_by (aims b bit) c.pointers) 0 ≡ 0) [
      | true ↦ λ h. sum-zero (λ p. cond (aims b bit p) 1 0) c.pointers null (λ i l. aims-apart b bit (pointer_in c i) (h refl i))
      | false ↦ λ h. refl
    ]) h

pub pointers_to-none : (cells : List Cell) (b : ℕ) (bit : Bool) → ((u k : ℕ) → is_live cells u ≡ true → (pointer_at cells u k).target ≢ b) → pointers_to cells b bit ≡ 0
pointers_to-none cells b bit h = sum-zero (aims_in b bit) cells (blank_cell false 0) (λ i l. aims_in-none (cell_at cells i) b bit (λ v k. h i k v))

-- where a live cell points, the target counts it
pub target-counts : (cells : List Cell) → IsExact cells → (u k : ℕ) → is_live cells u ≡ true → (pointer_at cells u k).target ≢ 0 → 1 ≤ counted (pointer_at cells u k).bit (cell_at cells (pointer_at cells u k).target)
target-counts cells e u k l n =
    let p = pointer_at cells u k in
    let one = hits-itself p in
    let some = hits-le cells u k p.target p.bit l (slot-within (cell_at cells u) k n) in
    let is = by_bit cells p.target (e.counts p.target (e.closed u k l n)) p.bit in
    omega (arith, one, some, is)

zero-counted : (c : Cell) (bit : Bool) → c.strong ≡ 0 → c.weak ≡ 0 → counted bit c ≡ 0
zero-counted c bit s w = elim (same c.bit bit) as (λ t. cond t c.strong c.weak ≡ 0) [ true ↦ s | false ↦ w ]

-- no live cell points to one whose counts are 0
pub unpointed : (cells : List Cell) → IsExact cells → (x : ℕ) → x ≢ 0 → (cell_at cells x).strong ≡ 0 → (cell_at cells x).weak ≡ 0 → (u k : ℕ) → is_live cells u ≡ true → (pointer_at cells u k).target ≢ x
unpointed cells e x n s w u k l t =
    let p = pointer_at cells u k in
    let one = target-counts cells e u k l (λ z. n (sym t ∙ z)) in
    let none : counted p.bit (cell_at cells p.target) ≡ 0 = subst (λ y. counted p.bit (cell_at cells y) ≡ 0) (sym t) (zero-counted (cell_at cells x) p.bit s w) in
    absurd (omega (arith, one, none))

-- ---- Make

pub blank-target : (live : Bool) (n k : ℕ) → (pointer_in (blank_cell live n) k).target ≡ 0
blank-target live zero k = refl
blank-target live (suc n) zero = refl
blank-target live (suc n) (suc k) = blank-target live n k

blank-aims : (live : Bool) (n b : ℕ) (bit : Bool) → b ≢ 0 → aims_in b bit (blank_cell live n) ≡ 0
blank-aims live n b bit m = aims_in-none (blank_cell live n) b bit (λ _ k e. m (sym e ∙ blank-target live n k))

dead-aims : (cells : List Cell) (u b : ℕ) (bit : Bool) → is_live cells u ≡ false → aims_in b bit (cell_at cells u) ≡ 0
dead-aims cells u b bit h = cond-false (cell_at cells u).live (count_by (aims b bit) (cell_at cells u).pointers) 0 h

-- a cell that is put in the place of one that no counted pointer leaves
module _ (cells : List Cell) (e : IsExact cells) (u : ℕ) (live : Bool) (n : ℕ) where
  reset-counts : (b : ℕ) (bit : Bool) → b ≢ 0 → aims_in b bit (cell_at cells u) ≡ 0 → pointers_to (edit cells u (λ _. blank_cell live n)) b bit ≡ pointers_to cells b bit
  reset-counts b bit m z = let y = blank-aims live n b bit m in pointers_to-edit_same cells u (λ _. blank_cell live n) b bit (omega (arith, z, y))

  reset-at : (b : ℕ) → b ≢ 0 → b ≢ u → ((bit : Bool) → aims_in b bit (cell_at cells u) ≡ 0) → is_live cells b ≡ true → IsExactAt (edit cells u (λ _. blank_cell live n)) b
  reset-at b m o z l =
      let cs = edit cells u (λ _. blank_cell live n) in
      from_bits cs b (λ bit.
      let was = by_bit cells b (e.counts b l) bit in
      let here = edit-other cells u b (λ _. blank_cell live n) o in
      let now = reset-counts b bit m (z bit) in
      let c = ap (counted bit) here in
      let o = ap (λ (d : Cell). cond (same d.bit bit) (own_strong b) 0) here in
      omega (arith, was, now, c, o))

pub make-exact : (slots : ℕ) (cells : List Cell) (u : ℕ) → IsExact cells → u ≢ 0 → u < length cells → is_live cells u ≡ false → IsExact (edit cells u (λ _. blank_cell true slots))
make-exact slots cells u e m l d =
    let f : Cell → Cell = λ _. blank_cell true slots in
    let cs = edit cells u f in
    let here = edit-here cells u f m l in
    let not_root : u ≢ 1 = λ q. (let no : true ≡ false = sym e.root_live ∙ subst (λ x. is_live cells x ≡ false) q d in cc) in
    let lives : (v : ℕ) → is_live cells v ≡ true → is_live cs v ≡ true = λ v h.
    ⊎_elim (λ q. subst (λ x. is_live cs x ≡ true) (sym q) (ap (λ (c : Cell). c.live) here)) (λ q. ap (λ (c : Cell). c.live) (edit-other cells u v f q) ∙ h) (cases_eq v u) in
    let unseen : (v k : ℕ) → is_live cells v ≡ true → (pointer_at cells v k).target ≢ u = λ v k h q.
    (let no : true ≡ false = sym (e.closed v k h (λ z. m (sym q ∙ z))) ∙ subst (λ x. is_live cells x ≡ false) (sym q) d in cc) in
    record {
      none = ap (λ (c : Cell). c.live) (edit-other cells u 0 f (λ q. m (sym q))) ∙ e.none;
      root_live = lives 1 e.root_live;
      counts = λ b lb. ⊎_elim
          (λ q. subst (λ x. IsExactAt cs x) (sym q) (
          let no1 = reset-counts cells e u true slots u true m (dead-aims cells u u true d) in
          let no2 = reset-counts cells e u true slots u false m (dead-aims cells u u false d) in
          let no3 = pointers_to-none cells u true unseen in
          let no4 = pointers_to-none cells u false unseen in
          let own : own_strong u ≡ 0 = ap (λ t. cond t 1 0) (ne_eqb u 1 not_root) in
          from_bits cs u (λ bit. subst (λ (c : Cell). counted bit c ≡ pointers_to cs u bit + cond (same c.bit bit) (own_strong u) 0) (sym here)
          (elim bit as (λ bit. counted bit (blank_cell true slots) ≡ pointers_to cs u bit + cond (same false bit) (own_strong u) 0) [ true ↦ omega (arith, no1, no3) | false ↦ omega (arith, no2, no4, own) ]))))
          (λ q.
          let lb0 : is_live cells b ≡ true = ap (λ (c : Cell). c.live) (sym (edit-other cells u b f q)) ∙ lb in
          reset-at cells e u true slots b (live-there cells b e.none lb0) q (λ bit. dead-aims cells u b bit d) lb0)
          (cases_eq b u);
      closed = λ v k lv nz. ⊎_elim
          (λ q. absurd (nz (subst (λ x. (pointer_at cs x k).target ≡ 0) (sym q) (ap (λ (c : Cell). (pointer_in c k).target) here ∙ blank-target true slots k))))
          (λ q.
          let same_cell = edit-other cells u v f q in
          let lv0 : is_live cells v ≡ true = ap (λ (c : Cell). c.live) (sym same_cell) ∙ lv in
          let t = ap (λ (c : Cell). (pointer_in c k).target) same_cell in
          subst (λ x. is_live cs x ≡ true) (sym t) (lives (pointer_at cells v k).target (e.closed v k lv0 (λ z. nz (t ∙ z)))))
          (cases_eq v u);
    }

-- ---- Free

pub free-exact : (slots : ℕ) (cells : List Cell) (u : ℕ) → IsExact cells → is_live cells u ≡ true → u ≢ 1 → HasNoPointer (cell_at cells u) → (cell_at cells u).strong ≡ 0 → (cell_at cells u).weak ≡ 0 → IsExact (edit cells u (λ _. blank_cell false slots))
free-exact slots cells u e l r p s w =
    let f : Cell → Cell = λ _. blank_cell false slots in
    let cs = edit cells u f in
    let m = live-there cells u e.none l in
    let here = edit-here cells u f m (live-within cells u l) in
    let apart : (v : ℕ) → is_live cs v ≡ true → v ≢ u = λ v h q. (let no : true ≡ false = sym h ∙ (ap (λ x. is_live cs x) q ∙ ap (λ (c : Cell). c.live) here) in cc) in
    let lives : (v : ℕ) → v ≢ u → is_live cells v ≡ true → is_live cs v ≡ true = λ v q h. ap (λ (c : Cell). c.live) (edit-other cells u v f q) ∙ h in
    record {
      none = ap (λ (c : Cell). c.live) (edit-other cells u 0 f (λ q. m (sym q))) ∙ e.none;
      root_live = lives 1 (λ q. r (sym q)) e.root_live;
      counts = λ b lb.
          let q = apart b lb in
          let lb0 : is_live cells b ≡ true = ap (λ (c : Cell). c.live) (sym (edit-other cells u b f q)) ∙ lb in
          let b0 = live-there cells b e.none lb0 in
          reset-at cells e u false slots b b0 q (λ bit. aims_in-none (cell_at cells u) b bit (λ _ k z. b0 (sym z ∙ p k))) lb0;
      closed = λ v k lv nz.
          let same_cell = edit-other cells u v f (apart v lv) in
          let lv0 : is_live cells v ≡ true = ap (λ (c : Cell). c.live) (sym same_cell) ∙ lv in
          let t = ap (λ (c : Cell). (pointer_in c k).target) same_cell in
          subst (λ x. is_live cs x ≡ true) (sym t) (lives (pointer_at cells v k).target (unpointed cells e u m s w v k lv0) (e.closed v k lv0 (λ z. nz (t ∙ z))));
    }

-- ---- Pay

pub pay-exact : (cells : List Cell) (u value : ℕ) → IsExact cells → IsExact (edit cells u (pays value))
pay-exact cells u value e =
    let f : Cell → Cell = pays value in
    let cs = edit cells u f in
    let lives : (v : ℕ) → is_live cs v ≡ is_live cells v = λ v. edit-keeps (λ c. c.live) cells u v f (λ c. refl) in
    record {
      none = lives 0 ∙ e.none;
      root_live = lives 1 ∙ e.root_live;
      counts = λ b lb. from_bits cs b (λ bit.
          let was = by_bit cells b (e.counts b (sym (lives b) ∙ lb)) bit in
          let now = pointers_to-edit_same cells u f b bit refl in
          let c = edit-keeps (λ c. counted bit c) cells u b f (λ c. refl) in
          let o = edit-keeps (λ c. cond (same c.bit bit) (own_strong b) 0) cells u b f (λ c. refl) in
          omega (arith, was, now, c, o));
      closed = λ v k lv nz.
          let t = edit-keeps (λ c. (pointer_in c k).target) cells u v f (λ c. refl) in
          lives (pointer_at cs v k).target ∙ subst (λ x. is_live cells x ≡ true) (sym t) (e.closed v k (sym (lives v) ∙ lv) (λ z. nz (t ∙ z)));
    }
