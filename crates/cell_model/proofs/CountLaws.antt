-- Exact counts stay exact: the change of one slot, and from it each record.
use Rattle.std.proofs.Common.{◌≡◌, ◌≢◌, ℕ, ◌+◌, ◌-◌, ◌<◌, List, Bool, true, false, cond, not, refl, sym, ap, ◌∙◌, subst, get_or, length, get_or-set_same, get_or-set_other, arith, ◌⊎◌, inl, inr, ⊎_elim}
use Rattle.std.proofs.lemmas.Bool.{cases_eq}
use Rattle.cell_model.specs.Cells.{Pointer, Cell, null, cell_at, pointer_at, is_live, same, edit, relink, gains, loses, relinked, hits, counted, pointers_to, own_strong, IsExactAt, IsExact}
use Rattle.cell_model.proofs.EditLaws.{live-within, live-there, edit-here, edit-other, edit-keeps, length-edit, pointers_to-edit, pointers_to-edit_same, aims_in-relink, hits-le, gains-shape, loses-shape, aims_in-shape, counted-loses, counted-gains}

-- ---- the counts of a cell, by the bit of the pointers

-- both counts in one: for each bit, the count that the cell keeps is that of the pointers with it
abbrev pub IsExactByBit : List Cell → ℕ → Type 0
IsExactByBit cells b = (bit : Bool) → counted bit (cell_at cells b) ≡ pointers_to cells b bit + cond (same (cell_at cells b).bit bit) (own_strong b) 0

pub by_bit : (cells : List Cell) (b : ℕ) → IsExactAt cells b → IsExactByBit cells b
by_bit cells b h bit = by (cell_at cells b).bit bit (cell_at cells b).strong (cell_at cells b).weak h.strong h.weak
  where
    by : (own bit : Bool) (s w : ℕ) → s ≡ pointers_to cells b own + own_strong b → w ≡ pointers_to cells b (not own) → cond (same own bit) s w ≡ pointers_to cells b bit + cond (same own bit) (own_strong b) 0
    by true true s w e f = e
    by true false s w e f = omega (arith, f)
    by false true s w e f = omega (arith, f)
    by false false s w e f = e

pub from_bits : (cells : List Cell) (b : ℕ) → IsExactByBit cells b → IsExactAt cells b
from_bits cells b h = by (cell_at cells b).bit (cell_at cells b).strong (cell_at cells b).weak refl refl refl h
  where
    by : (own : Bool) (s w : ℕ) → own ≡ (cell_at cells b).bit → s ≡ (cell_at cells b).strong → w ≡ (cell_at cells b).weak → ((bit : Bool) → cond (same own bit) s w ≡ pointers_to cells b bit + cond (same own bit) (own_strong b) 0) → IsExactAt cells b
    by true s w o e f h =
        let yes = h true in let no' = h false in
        record { strong = sym e ∙ (yes ∙ ap (λ t. pointers_to cells b t + own_strong b) o); weak = sym f ∙ ((omega (arith, no')) ∙ ap (λ t. pointers_to cells b (not t)) o) }
    by false s w o e f h =
        let yes = h false in let no' = h true in
        record { strong = sym e ∙ (yes ∙ ap (λ t. pointers_to cells b t + own_strong b) o); weak = sym f ∙ ((omega (arith, no')) ∙ ap (λ t. pointers_to cells b (not t)) o) }

-- ---- one slot

module _ (cells : List Cell) (u k : ℕ) (p : Pointer) where
  laid : List Cell
  laid = edit cells u (relink k p)

  pub relinked-live : (v : ℕ) → is_live (relinked cells u k p) v ≡ is_live cells v
  relinked-live v =
      let old = pointer_at cells u k in
      let c1 = edit cells u (relink k p) in
      let c2 = edit c1 old.target (loses old.bit) in
      edit-keeps (λ c. c.live) c2 p.target v (gains p.bit) (λ c. ap (λ s. s.0) (gains-shape p.bit c))
      ∙ (edit-keeps (λ c. c.live) c1 old.target v (loses old.bit) (λ c. ap (λ s. s.0) (loses-shape old.bit c))
      ∙ edit-keeps (λ c. c.live) cells u v (relink k p) (λ c. refl))

  pub relinked-bit : (v : ℕ) → (cell_at (relinked cells u k p) v).bit ≡ (cell_at cells v).bit
  relinked-bit v =
      let old = pointer_at cells u k in
      let c1 = edit cells u (relink k p) in
      let c2 = edit c1 old.target (loses old.bit) in
      edit-keeps (λ c. c.bit) c2 p.target v (gains p.bit) (λ c. ap (λ s. s.1) (gains-shape p.bit c))
      ∙ (edit-keeps (λ c. c.bit) c1 old.target v (loses old.bit) (λ c. ap (λ s. s.1) (loses-shape old.bit c))
      ∙ edit-keeps (λ c. c.bit) cells u v (relink k p) (λ c. refl))

  -- only the slots of the cell itself change
  pub relinked-pointers : (v : ℕ) → (cell_at (relinked cells u k p) v).pointers ≡ (cell_at (edit cells u (relink k p)) v).pointers
  relinked-pointers v =
      let old = pointer_at cells u k in
      let c1 = edit cells u (relink k p) in
      let c2 = edit c1 old.target (loses old.bit) in
      edit-keeps (λ c. c.pointers) c2 p.target v (gains p.bit) (λ c. ap (λ s. s.3) (gains-shape p.bit c))
      ∙ edit-keeps (λ c. c.pointers) c1 old.target v (loses old.bit) (λ c. ap (λ s. s.3) (loses-shape old.bit c))

  pub relinked-payload : (v : ℕ) → (cell_at (relinked cells u k p) v).payload ≡ (cell_at cells v).payload
  relinked-payload v =
      let old = pointer_at cells u k in
      let c1 = edit cells u (relink k p) in
      let c2 = edit c1 old.target (loses old.bit) in
      edit-keeps (λ c. c.payload) c2 p.target v (gains p.bit) (λ c. ap (λ s. s.2) (gains-shape p.bit c))
      ∙ (edit-keeps (λ c. c.payload) c1 old.target v (loses old.bit) (λ c. ap (λ s. s.2) (loses-shape old.bit c))
      ∙ edit-keeps (λ c. c.payload) cells u v (relink k p) (λ c. refl))

  pub relinked-length : length (relinked cells u k p) ≡ length cells
  relinked-length =
      let old = pointer_at cells u k in
      let c1 = edit cells u (relink k p) in
      let c2 = edit c1 old.target (loses old.bit) in
      length-edit c2 p.target (gains p.bit) ∙ (length-edit c1 old.target (loses old.bit) ∙ length-edit cells u (relink k p))

  pub relinked-other : (v j : ℕ) → v ≢ u → pointer_at (relinked cells u k p) v j ≡ pointer_at cells v j
  relinked-other v j n = ap (λ ps. get_or ps j null) (relinked-pointers v ∙ ap (λ (c : Cell). c.pointers) (edit-other cells u v (relink k p) n))

  module _ (t : u ≢ 0) (l : u < length cells) where
    pub relinked-own : (j : ℕ) → j ≢ k → pointer_at (relinked cells u k p) u j ≡ pointer_at cells u j
    relinked-own j n = ap (λ ps. get_or ps j null) (relinked-pointers u ∙ ap (λ (c : Cell). c.pointers) (edit-here cells u (relink k p) t l)) ∙ get_or-set_other (cell_at cells u).pointers k j p null n

    pub relinked-slot : k < length (cell_at cells u).pointers → pointer_at (relinked cells u k p) u k ≡ p
    relinked-slot h = ap (λ ps. get_or ps k null) (relinked-pointers u ∙ ap (λ (c : Cell). c.pointers) (edit-here cells u (relink k p) t l)) ∙ get_or-set_same (cell_at cells u).pointers k p null h

  -- the counting law: one pointer fewer of the old kind, one more of the new
  pub relinked-counts : (b : ℕ) (bit : Bool) → u ≢ 0 → is_live cells u ≡ true → k < length (cell_at cells u).pointers
      → pointers_to (relinked cells u k p) b bit + hits b bit (pointer_at cells u k) ≡ pointers_to cells b bit + hits b bit p
  relinked-counts b bit n l h =
      let old = pointer_at cells u k in
      let c1 = edit cells u (relink k p) in
      let c2 = edit c1 old.target (loses old.bit) in
      let s3 = pointers_to-edit_same c2 p.target (gains p.bit) b bit (aims_in-shape b bit (gains p.bit (cell_at c2 p.target)) (cell_at c2 p.target) (gains-shape p.bit (cell_at c2 p.target))) in
      let s2 = pointers_to-edit_same c1 old.target (loses old.bit) b bit (aims_in-shape b bit (loses old.bit (cell_at c1 old.target)) (cell_at c1 old.target) (loses-shape old.bit (cell_at c1 old.target))) in
      let s1 = pointers_to-edit cells u (relink k p) b bit n (live-within cells u l) in
      let s0 = aims_in-relink (cell_at cells u) k p b bit l h in
      omega (arith, s3, s2, s1, s0)

  pub relinked-counted : (b : ℕ) (bit : Bool) → b ≢ 0 → b < length cells
      → counted bit (cell_at (relinked cells u k p) b) ≡ counted bit (cell_at cells b) - hits b bit (pointer_at cells u k) + hits b bit p
  relinked-counted b bit n l =
      let old = pointer_at cells u k in
      let c1 = edit cells u (relink k p) in
      let c2 = edit c1 old.target (loses old.bit) in
      let l1 : b < length c1 = subst (λ m. b < m) (sym (length-edit cells u (relink k p))) l in
      let l2 : b < length c2 = subst (λ m. b < m) (sym (length-edit c1 old.target (loses old.bit))) l1 in
      let s3 = counted-gains c2 p b bit n l2 in
      let s2 = counted-loses c1 old b bit n l1 in
      let s1 = edit-keeps (λ c. counted bit c) cells u b (relink k p) (λ c. refl) in
      omega (arith, s3, s2, s1)

  -- a pointer after the change is the new one, or was there
  pub relinked-which : (v j : ℕ) → u ≢ 0 → u < length cells → k < length (cell_at cells u).pointers
      → ((v ≡ u) × (j ≡ k) × (pointer_at (relinked cells u k p) v j ≡ p)) ⊎ (pointer_at (relinked cells u k p) v j ≡ pointer_at cells v j)
  relinked-which v j n l h =
      ⊎_elim
      (λ e. ⊎_elim
      (λ f. inl (e, f, subst (λ x. pointer_at (relinked cells u k p) x j ≡ p) (sym e) (subst (λ y. pointer_at (relinked cells u k p) u y ≡ p) (sym f) (relinked-slot n l h))))
      (λ m. inr (subst (λ x. pointer_at (relinked cells u k p) x j ≡ pointer_at cells x j) (sym e) (relinked-own n l j m)))
      (cases_eq j k))
      (λ m. inr (relinked-other v j m))
      (cases_eq v u)

  -- exact counts stay exact where the new target is null or live
  pub relinked-exact : IsExact cells → is_live cells u ≡ true → k < length (cell_at cells u).pointers → (p.target ≢ 0 → is_live cells p.target ≡ true) → IsExact (relinked cells u k p)
  relinked-exact e l h q =
      let n = live-there cells u e.none l in
      record {
        none = relinked-live 0 ∙ e.none;
        root_live = relinked-live 1 ∙ e.root_live;
        counts = λ b lb.
            let lb0 : is_live cells b ≡ true = sym (relinked-live b) ∙ lb in
            from_bits (relinked cells u k p) b (λ bit.
            let now = relinked-counted b bit (live-there cells b e.none lb0) (live-within cells b lb0) in
            let was = by_bit cells b (e.counts b lb0) bit in
            let moved = relinked-counts b bit n l h in
            let some = hits-le cells u k b bit l h in
            let own = ap (λ t. cond (same t bit) (own_strong b) 0) (relinked-bit b) in
            omega (arith, now, was, moved, some, own));
        closed = λ v j lv nz.
            let lv0 : is_live cells v ≡ true = sym (relinked-live v) ∙ lv in
            ⊎_elim
            (λ w. relinked-live (pointer_at (relinked cells u k p) v j).target ∙ subst (λ (r : Pointer). is_live cells r.target ≡ true) (sym w.2) (q (λ z. nz (ap (λ (r : Pointer). r.target) w.2 ∙ z))))
            (λ w. relinked-live (pointer_at (relinked cells u k p) v j).target ∙ subst (λ (r : Pointer). is_live cells r.target ≡ true) (sym w) (e.closed v j lv0 (λ z. nz (ap (λ (r : Pointer). r.target) w ∙ z))))
            (relinked-which v j n (live-within cells u l) h);
      }
