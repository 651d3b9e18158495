-- Strong pointers form no cycle, whatever record comes.
use Rattle.std.proofs.Common.{◌≡◌, ◌≢◌, ℕ, ◌<◌, List, true, false, sym, ap, ◌∙◌, subst, length, ◌⊎◌, inl, inr, ⊎_elim}
use Rattle.cell_model.specs.Cells.{Pointer, Cell, cell_at, pointer_at, is_strong, same, relinked}
use Rattle.cell_model.specs.Strong.{IsStrongAt, StrongPath, one, more, HasNoStrongCycle, HasNoStrongOut}
use Rattle.cell_model.proofs.CountLaws.{relinked-live, relinked-bit, relinked-which}

-- the first step of a walk
pub path-first : (cells : List Cell) (x : ℕ) {y : ℕ} → StrongPath cells x y → HasNoStrongOut cells x → ⊥
path-first cells x (one slot to s) h = h slot to s
path-first cells x (more via slot to p s) h = path-first cells x p h

-- where each strong pointer was there before, each walk was
path-was : (old new : List Cell) → ((u slot to : ℕ) → IsStrongAt new u slot to → IsStrongAt old u slot to) → (x : ℕ) {y : ℕ} → StrongPath new x y → StrongPath old x y
path-was old new f x (one slot to s) = one slot to (f x slot to s)
path-was old new f x (more via slot to p s) = more via slot to (path-was old new f x p) (f via slot to s)

-- no new strong pointer: no cycle
pub acyclic-fewer : (old new : List Cell) → ((u slot to : ℕ) → IsStrongAt new u slot to → IsStrongAt old u slot to) → HasNoStrongCycle old → HasNoStrongCycle new
acyclic-fewer old new f a x p = a x (path-was old new f x p)

-- new strong pointers lead to b alone, and none leads out of it
path-into : (old new : List Cell) (b : ℕ) → HasNoStrongOut new b → ((u slot to : ℕ) → IsStrongAt new u slot to → IsStrongAt old u slot to ⊎ (to ≡ b)) → (x : ℕ) {y : ℕ} → StrongPath new x y → StrongPath old x y ⊎ (y ≡ b)
path-into old new b o f x (one slot to s) = ⊎_elim (λ t. inl (one slot to t)) (λ e. inr e) (f x slot to s)
path-into old new b o f x (more via slot to p s) =
    ⊎_elim
    (λ q. ⊎_elim (λ t. inl (more via slot to q t)) (λ e. inr e) (f via slot to s))
    (λ e. absurd (o slot to (subst (λ v. IsStrongAt new v slot to) e s)))
    (path-into old new b o f x p)

-- the law of Store, Strengthen and Flip
pub acyclic-into : (old new : List Cell) (b : ℕ) → HasNoStrongOut new b → ((u slot to : ℕ) → IsStrongAt new u slot to → IsStrongAt old u slot to ⊎ (to ≡ b)) → HasNoStrongCycle old → HasNoStrongCycle new
acyclic-into old new b o f a x p =
    ⊎_elim (λ q. a x q) (λ e. path-first new b (subst (λ v. StrongPath new v v) e p) o) (path-into old new b o f x p)

-- ---- one slot

module _ (cells : List Cell) (u k : ℕ) (p : Pointer) (n : u ≢ 0) (l : u < length cells) (h : k < length (cell_at cells u).pointers) where
  relinked-strong : (q : Pointer) → is_strong (relinked cells u k p) q ≡ is_strong cells q
  relinked-strong q = ap (λ b. same b q.bit) (relinked-bit cells u k p q.target)

  -- a strong pointer after the change is the new one, or was strong before
  pub relinked-strong_at : (v j to : ℕ) → IsStrongAt (relinked cells u k p) v j to → IsStrongAt cells v j to ⊎ ((v ≡ u) × (j ≡ k) × (p.target ≡ to) × (is_strong cells p ≡ true))
  relinked-strong_at v j to s =
      ⊎_elim
      (λ w. inr (
        w.0,
        w.1,
        ap (λ (q : Pointer). q.target) (sym w.2) ∙ s.target,
        sym (relinked-strong p) ∙ (ap (λ q. is_strong (relinked cells u k p) q) (sym w.2) ∙ s.strong),
      ))
      (λ w. inl (record {
        live = sym (relinked-live cells u k p v) ∙ s.live;
        target = ap (λ (q : Pointer). q.target) (sym w) ∙ s.target;
        not_null = s.not_null;
        strong = ap (λ q. is_strong cells q) (sym w) ∙ (sym (relinked-strong (pointer_at (relinked cells u k p) v j)) ∙ s.strong);
      }))
      (relinked-which cells u k p v j n l h)

  -- a pointer that is laid as weak, or null: Undo, Weaken, CutDead, and Store of a weak one
  pub weak-acyclic : ((p.target ≢ 0) → is_strong cells p ≡ false) → HasNoStrongCycle cells → HasNoStrongCycle (relinked cells u k p)
  weak-acyclic w = acyclic-fewer cells (relinked cells u k p) (λ v j to s.
      ⊎_elim (λ t. t) (λ t. let no : true ≡ false = sym t.3 ∙ w (λ z. s.not_null (sym t.2 ∙ z)) in cc) (relinked-strong_at v j to s))

  -- a pointer that is laid as strong where none leads strongly out of its target: Strengthen, and Store
  pub strong-acyclic : u ≢ p.target → HasNoStrongOut cells p.target → HasNoStrongCycle cells → HasNoStrongCycle (relinked cells u k p)
  strong-acyclic m o = acyclic-into cells (relinked cells u k p) p.target
      (λ j to s. ⊎_elim (λ t. o j to t) (λ t. m (sym t.0)) (relinked-strong_at p.target j to s))
      (λ v j to s. ⊎_elim (λ t. inl t) (λ t. inr (sym t.2)) (relinked-strong_at v j to s))
