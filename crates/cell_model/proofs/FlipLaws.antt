-- A flip exchanges strong and weak for all pointers to the object but its own.
use Rattle.std.proofs.Common.{◌≡◌, ◌≢◌, ℕ, zero, suc, ◌+◌, ◌-◌, ◌≤◌, List, [], ◌∷◌, Bool, true, false, cond, not, refl, sym, ap, ◌∙◌, subst, get_or, map, arith, ◌⊎◌, inl, inr, ⊎_elim, eq-eqb, ne_eqb}
use Rattle.std.specs.Prelude.{◌==◌, ◌&&◌, sum_by, count_by}
use Rattle.std.proofs.lemmas.Bool.{cases_eq, cond-true, cond-false}
use Rattle.std.proofs.lemmas.List.Sums.{sum_by-cons, get_or-le-sum_by}
use Rattle.cell_model.specs.Cells.{Pointer, Cell, null, blank_cell, cell_at, pointer_in, pointer_at, is_live, is_strong, same, edit, aims, hits, aims_in, counted, pointers_to, own_strong, IsExactAt, IsExact, other_strength, flipped, self_pointers, switched}
use Rattle.cell_model.specs.Strong.{IsStrongAt, HasNoStrongCycle, HasNoStrongOut}
use Rattle.cell_model.proofs.EditLaws.{live-within, live-there, edit-here, edit-other, edit-keeps, pointers_to-edit, pointers_to-edit_same}
use Rattle.cell_model.proofs.CountLaws.{by_bit, from_bits}
use Rattle.cell_model.proofs.StrongLaws.{acyclic-into}

sum_by-map : {X : Type 0} (f h : X → ℕ) (g : X → X) → ((x : X) → f (g x) ≡ h x) → (xs : List X) → sum_by f (map g xs) ≡ sum_by h xs
sum_by-map f h g e [] = refl
sum_by-map f h g e (x ∷ xs) = let a = sum_by-cons f (g x) (map g xs) in let b = sum_by-cons h x xs in let c = e x in let d = sum_by-map f h g e xs in omega (arith, a, b, c, d)

pub sum_by-plus : {X : Type 0} (f g h : X → ℕ) → ((x : X) → f x + g x ≡ h x) → (xs : List X) → sum_by f xs + sum_by g xs ≡ sum_by h xs
sum_by-plus f g h e [] = omega arith
sum_by-plus f g h e (x ∷ xs) =
    let a = sum_by-cons f x xs in let b = sum_by-cons g x xs in let i = sum_by-cons h x xs in let c = e x in let d = sum_by-plus f g h e xs in omega (arith, a, b, i, c, d)

same-not : (a b : Bool) → same (not a) b ≡ same a (not b)
same-not true true = refl
same-not true false = refl
same-not false true = refl
same-not false false = refl

same-both : (a b : Bool) → same (not a) (not b) ≡ same a b
same-both true true = refl
same-both true false = refl
same-both false true = refl
same-both false false = refl

switched-here : (u : ℕ) (p : Pointer) → p.target ≡ u → switched u p ≡ other_strength p
switched-here u p e = cond-true (p.target == u) (other_strength p) p (eq-eqb p.target u e)

switched-apart : (u : ℕ) (p : Pointer) → p.target ≢ u → switched u p ≡ p
switched-apart u p n = cond-false (p.target == u) (other_strength p) p (ne_eqb p.target u n)

pub switched-target : (u : ℕ) (p : Pointer) → (switched u p).target ≡ p.target
switched-target u p = ⊎_elim (λ e. ap (λ (q : Pointer). q.target) (switched-here u p e)) (λ n. ap (λ (q : Pointer). q.target) (switched-apart u p n)) (cases_eq p.target u)

none_hit : (b : ℕ) (bit : Bool) (p : Pointer) → p.target ≢ b → hits b bit p ≡ 0
none_hit b bit p n = ap (λ t. cond (t && same p.bit bit) 1 0) (ne_eqb p.target b n)

hits-switched_other : (u b : ℕ) (bit : Bool) → b ≢ u → (p : Pointer) → hits b bit (switched u p) ≡ hits b bit p
hits-switched_other u b bit m p =
    ⊎_elim
    (λ e.
    let x = none_hit b bit p (λ q. m (sym q ∙ e)) in
    let y = none_hit b bit (switched u p) (λ q. m (sym q ∙ (switched-target u p ∙ e))) in
    omega (arith, x, y))
    (λ n. ap (hits b bit) (switched-apart u p n))
    (cases_eq p.target u)

hits-switched_self : (u : ℕ) (bit : Bool) (p : Pointer) → hits u bit (switched u p) ≡ hits u (not bit) p
hits-switched_self u bit p =
    ⊎_elim
    (λ e. ap (hits u bit) (switched-here u p e) ∙ ap (λ t. cond ((p.target == u) && t) 1 0) (same-not p.bit bit))
    (λ n.
    let x = none_hit u (not bit) p n in
    let y = none_hit u bit (switched u p) (λ q. n (sym (switched-target u p) ∙ q)) in
    omega (arith, x, y))
    (cases_eq p.target u)

pub hits-both : (u : ℕ) (bit : Bool) (p : Pointer) → hits u bit p + hits u (not bit) p ≡ cond (p.target == u) 1 0
hits-both u bit p = by (p.target == u) p.bit bit
  where
    by : (t b bit : Bool) → cond (t && same b bit) 1 0 + cond (t && same b (not bit)) 1 0 ≡ cond t 1 0
    by true true true = refl
    by true true false = refl
    by true false true = refl
    by true false false = refl
    by false true true = refl
    by false true false = refl
    by false false true = refl
    by false false false = refl

switched-map : (u : ℕ) → u ≢ 0 → (ps : List Pointer) (k : ℕ) → get_or (map (switched u) ps) k null ≡ switched u (get_or ps k null)
switched-map u n [] k = sym (switched-apart u null (λ e. n (sym e)))
switched-map u n (p ∷ ps) zero = refl
switched-map u n (p ∷ ps) (suc k) = switched-map u n ps k

module _ (cells : List Cell) (u : ℕ) (e : IsExact cells) (l : is_live cells u ≡ true) where
  after : List Cell
  after = edit cells u (flipped u)

  nonzero_id : u ≢ 0
  nonzero_id = live-there cells u e.none l

  here : cell_at (edit cells u (flipped u)) u ≡ flipped u (cell_at cells u)
  here = edit-here cells u (flipped u) nonzero_id (live-within cells u l)

  pub flip-live : (v : ℕ) → is_live (edit cells u (flipped u)) v ≡ is_live cells v
  flip-live v = edit-keeps (λ c. c.live) cells u v (flipped u) (λ c. refl)

  pub flip-pointer_other : (v k : ℕ) → v ≢ u → pointer_at (edit cells u (flipped u)) v k ≡ pointer_at cells v k
  flip-pointer_other v k n = ap (λ (c : Cell). pointer_in c k) (edit-other cells u v (flipped u) n)

  pub flip-pointer_own : (k : ℕ) → pointer_at (edit cells u (flipped u)) u k ≡ switched u (pointer_at cells u k)
  flip-pointer_own k = ap (λ (c : Cell). pointer_in c k) here ∙ switched-map u nonzero_id (cell_at cells u).pointers k

  pub flip-target : (v k : ℕ) → (pointer_at (edit cells u (flipped u)) v k).target ≡ (pointer_at cells v k).target
  flip-target v k =
      ⊎_elim
      (λ q. subst (λ x. (pointer_at (edit cells u (flipped u)) x k).target ≡ (pointer_at cells x k).target) (sym q) (ap (λ (p : Pointer). p.target) (flip-pointer_own k) ∙ switched-target u (pointer_at cells u k)))
      (λ q. ap (λ (p : Pointer). p.target) (flip-pointer_other v k q))
      (cases_eq v u)

  aims-flipped_other : (b : ℕ) (bit : Bool) → b ≢ u → aims_in b bit (flipped u (cell_at cells u)) ≡ aims_in b bit (cell_at cells u)
  aims-flipped_other b bit n = ap (λ m. cond (cell_at cells u).live m 0) (sum_by-map (hits b bit) (hits b bit) (switched u) (hits-switched_other u b bit n) (cell_at cells u).pointers)

  aims-flipped_self : (bit : Bool) → aims_in u bit (flipped u (cell_at cells u)) ≡ aims_in u (not bit) (cell_at cells u)
  aims-flipped_self bit = ap (λ m. cond (cell_at cells u).live m 0) (sum_by-map (hits u bit) (hits u (not bit)) (switched u) (hits-switched_self u bit) (cell_at cells u).pointers)

  aims-both : (bit : Bool) → aims_in u bit (cell_at cells u) + aims_in u (not bit) (cell_at cells u) ≡ self_pointers u (cell_at cells u)
  aims-both bit =
      let c = cell_at cells u in
      let x = cond-true c.live (count_by (aims u bit) c.pointers) 0 l in
      let y = cond-true c.live (count_by (aims u (not bit)) c.pointers) 0 l in
      let z = sum_by-plus (hits u bit) (hits u (not bit)) (λ p. cond (p.target == u) 1 0) (hits-both u bit) c.pointers in
      omega (arith, x, y, z)

  pub flip-exact : (cell_at cells u).strong ≡ 0 → IsExact (edit cells u (flipped u))
  flip-exact s =
      let cs = edit cells u (flipped u) in
      let c = cell_at cells u in
      let within = live-within cells u l in
      record {
        none = flip-live 0 ∙ e.none;
        root_live = flip-live 1 ∙ e.root_live;
        counts = λ b lb.
            let lb0 : is_live cells b ≡ true = sym (flip-live b) ∙ lb in
            ⊎_elim
            (λ q. subst (λ x. IsExactAt cs x) (sym q)
            (let was = e.counts u l in
            let none_left : pointers_to cells u c.bit ≡ 0 = let w = was.strong in omega (arith, w, s) in
            let own : own_strong u ≡ 0 = let w = was.strong in omega (arith, w, s) in
            let p1 = pointers_to-edit cells u (flipped u) u c.bit nonzero_id within in
            let p2 = pointers_to-edit cells u (flipped u) u (not c.bit) nonzero_id within in
            let f1 = aims-flipped_self c.bit in
            let f2 = aims-flipped_self (not c.bit) in
            let both = aims-both c.bit in
            let twice = ap (λ t. aims_in u t c) (not-not c.bit) in
            let few = aims-le c.bit in
            let w : c.weak ≡ pointers_to cells u (not c.bit) = was.weak in
            let strong_now : c.weak - self_pointers u c ≡ pointers_to cs u (not c.bit) + own_strong u = omega (arith, p1, p2, f1, f2, both, twice, few, w, none_left, own) in
            let weak_now : self_pointers u c ≡ pointers_to cs u c.bit = omega (arith, p1, p2, f1, f2, both, twice, few, w, none_left, own) in
            record {
              strong = ap (λ (d : Cell). d.strong) here ∙ (strong_now ∙ ap (λ (d : Cell). pointers_to cs u d.bit + own_strong u) (sym here));
              weak = ap (λ (d : Cell). d.weak) here ∙ (weak_now ∙ (ap (λ t. pointers_to cs u t) (sym (not-not c.bit)) ∙ ap (λ (d : Cell). pointers_to cs u (not d.bit)) (sym here)));
            }))
            (λ q. from_bits cs b (λ bit.
            let was = by_bit cells b (e.counts b lb0) bit in
            let same_cell = edit-other cells u b (flipped u) q in
            let now = pointers_to-edit_same cells u (flipped u) b bit (aims-flipped_other b bit q) in
            let k = ap (counted bit) same_cell in
            let o = ap (λ (d : Cell). cond (same d.bit bit) (own_strong b) 0) same_cell in
            omega (arith, was, now, k, o)))
            (cases_eq b u);
        closed = λ v k lv nz.
            let t = flip-target v k in
            flip-live (pointer_at cs v k).target ∙ subst (λ x. is_live cells x ≡ true) (sym t) (e.closed v k (sym (flip-live v) ∙ lv) (λ z. nz (t ∙ z)));
      }
    where
      not-not : (b : Bool) → not (not b) ≡ b
      not-not true = refl
      not-not false = refl

      aims-le : (bit : Bool) → aims_in u bit (cell_at cells u) ≤ pointers_to cells u bit
      aims-le bit = get_or-le-sum_by (aims_in u bit) cells u (blank_cell false 0) (live-within cells u l)

  flip-bit_own : (cell_at (edit cells u (flipped u)) u).bit ≡ not (cell_at cells u).bit
  flip-bit_own = ap (λ (c : Cell). c.bit) here

  -- a pointer to another object keeps its strength, and so does a pointer of the object to itself
  flip-strong_other : (q : Pointer) → q.target ≢ u → is_strong (edit cells u (flipped u)) q ≡ is_strong cells q
  flip-strong_other q n = ap (λ (c : Cell). same c.bit q.bit) (edit-other cells u q.target (flipped u) n)

  flip-strong_self : (q : Pointer) → q.target ≡ u → is_strong (edit cells u (flipped u)) (switched u q) ≡ is_strong cells q
  flip-strong_self q t =
      let cs = edit cells u (flipped u) in
      ap (λ r. is_strong cs r) (switched-here u q t)
      ∙ (ap (λ x. same (cell_at cs x).bit (not q.bit)) t
      ∙ (ap (λ b. same b (not q.bit)) flip-bit_own
      ∙ (same-both (cell_at cells u).bit q.bit ∙ ap (λ x. same (cell_at cells x).bit q.bit) (sym t))))

  flip-out : HasNoStrongOut cells u → HasNoStrongOut (edit cells u (flipped u)) u
  flip-out o j to s =
      let cs = edit cells u (flipped u) in
      let q = pointer_at cells u j in
      let t : q.target ≡ to = sym (flip-target u j) ∙ s.target in
      let strong_before : is_strong cells q ≡ true =
      ⊎_elim
      (λ i. sym (flip-strong_self q i) ∙ (ap (λ r. is_strong cs r) (sym (flip-pointer_own j)) ∙ s.strong))
      (λ i. sym (flip-strong_other q i) ∙ (ap (λ r. is_strong cs r) (sym (flip-pointer_own j ∙ switched-apart u q i)) ∙ s.strong))
      (cases_eq q.target u) in
      o j to (record { live = l; target = t; not_null = s.not_null; strong = strong_before })

  flip-was : (v j to : ℕ) → IsStrongAt (edit cells u (flipped u)) v j to → IsStrongAt cells v j to ⊎ (to ≡ u)
  flip-was v j to s =
      let cs = edit cells u (flipped u) in
      ⊎_elim
      (λ i. inr i)
      (λ i.
      let t : (pointer_at cells v j).target ≡ to = sym (flip-target v j) ∙ s.target in
      let apart : (pointer_at cells v j).target ≢ u = λ z. i (sym t ∙ z) in
      let pointer_same : pointer_at cs v j ≡ pointer_at cells v j =
      ⊎_elim
      (λ w. subst (λ x. pointer_at cs x j ≡ pointer_at cells x j) (sym w) (flip-pointer_own j ∙ switched-apart u (pointer_at cells u j) (λ z. apart (ap (λ x. (pointer_at cells x j).target) w ∙ z))))
      (λ w. flip-pointer_other v j w)
      (cases_eq v u) in
      inl (record {
        live = sym (flip-live v) ∙ s.live;
        target = t;
        not_null = s.not_null;
        strong = sym (flip-strong_other (pointer_at cells v j) apart) ∙ (ap (λ r. is_strong cs r) (sym pointer_same) ∙ s.strong);
      }))
      (cases_eq to u)

  -- where no strong pointer leads out of the object, its flip closes no cycle
  pub flip-acyclic : HasNoStrongOut cells u → HasNoStrongCycle cells → HasNoStrongCycle (edit cells u (flipped u))
  flip-acyclic o a = acyclic-into cells (edit cells u (flipped u)) u (flip-out o) flip-was a
