-- Each record that fits keeps exact counts and the absence of strong cycles: one citation for each event.
use Rattle.std.proofs.Common.{◌≡◌, ◌≢◌, ℕ, ◌<◌, List, Bool, true, false, not, refl, sym, ap, ◌∙◌, subst, length, ⊎_elim}
use Rattle.std.proofs.lemmas.Bool.{cases_eq}
use Rattle.cell_model.specs.Cells.{Pointer, Cell, null, blank_cell, cell_at, pointer_in, pointer_at, is_live, is_strong, same, edit, relinked, IsExact, other_strength, pays}
use Rattle.cell_model.specs.Records.{Record, Begin, Make, Store, Pay, Commit, Undo, UndoPay, AbortEnd, Weaken, Strengthen, Flip, CutDead, Free, after_record, Fits, HasPointer, HasNoPointer, IsWellLaid}
use Rattle.cell_model.specs.Strong.{HasNoStrongCycle, HasNoStrongOut}
use Rattle.cell_model.proofs.EditLaws.{live-within, live-there, edit-here, edit-other, edit-keeps}
use Rattle.cell_model.proofs.CountLaws.{relinked-exact}
use Rattle.cell_model.proofs.RecordLaws.{make-exact, free-exact, pay-exact, blank-target, unpointed}
use Rattle.cell_model.proofs.FlipLaws.{flip-exact, flip-acyclic}
use Rattle.cell_model.proofs.StrongLaws.{weak-acyclic, strong-acyclic, acyclic-fewer}

-- exact counts stay exact under each record that fits
pub exact-kept : (slots : ℕ) (cells : List Cell) (r : Record) → Fits cells r → IsExact cells → IsExact (after_record slots cells r)
exact-kept slots cells (Begin pass) f e = e
exact-kept slots cells (Make pass id) f e = make-exact slots cells id e f.0 f.1 f.2
exact-kept slots cells (Store pass id slot old_target old_strong new_target new_bit new_strong) f e = relinked-exact cells id slot (record { target = new_target; bit = new_bit }) e f.0.live f.0.within f.1.live
exact-kept slots cells (Pay pass id old_value new_value) f e = pay-exact cells id new_value e
exact-kept slots cells (Commit pass) f e = e
exact-kept slots cells (Undo pass id slot old from_strong to to_bit) f e = relinked-exact cells id slot (record { target = to; bit = to_bit }) e f.0.live f.0.within f.1.live
exact-kept slots cells (UndoPay pass id old to) f e = pay-exact cells id to e
exact-kept slots cells (AbortEnd pass) f e = e
exact-kept slots cells (Weaken id slot target) f e = relinked-exact cells id slot (other_strength (pointer_at cells id slot)) e f.0.live f.0.within (λ n. e.closed id slot f.0.live n)
exact-kept slots cells (Strengthen id slot target) f e = relinked-exact cells id slot (other_strength (pointer_at cells id slot)) e f.0.live f.0.within (λ n. e.closed id slot f.0.live n)
exact-kept slots cells (Flip id) f e = flip-exact cells id e f.0 f.1
exact-kept slots cells (CutDead id slot target was_strong) f e = relinked-exact cells id slot null e f.0.live f.0.within (λ n. absurd (n refl))
exact-kept slots cells (Free id) f e = free-exact slots cells id e f.0 f.1 f.2 f.3 f.4

-- ---- no strong cycle

same-other : (a b : Bool) → same a (not b) ≡ not (same a b)
same-other true b = refl
same-other false true = refl
same-other false false = refl

-- a cell that is blank now, where no pointer of it was strong or it wasn't live
blank-acyclic : (cells : List Cell) (u : ℕ) (live : Bool) (n : ℕ) → IsExact cells → u ≢ 0 → u < length cells → ((v k : ℕ) → v ≢ u → is_live cells v ≡ true → (pointer_at cells v k).target ≢ u) → HasNoStrongCycle cells → HasNoStrongCycle (edit cells u (λ _. blank_cell live n))
blank-acyclic cells u live n e m l unseen a =
    let f : Cell → Cell = λ _. blank_cell live n in
    let cs = edit cells u f in
    acyclic-fewer cells cs (λ v k to s. ⊎_elim
    (λ q. absurd (s.not_null (sym s.target ∙ subst (λ x. (pointer_at cs x k).target ≡ 0) (sym q) (ap (λ (c : Cell). (pointer_in c k).target) (edit-here cells u f m l) ∙ blank-target live n k))))
    (λ q.
    let same_cell = edit-other cells u v f q in
    let lv : is_live cells v ≡ true = ap (λ (c : Cell). c.live) (sym same_cell) ∙ s.live in
    let p = ap (λ (c : Cell). pointer_in c k) same_cell in
    record {
      live = lv;
      target = ap (λ (r : Pointer). r.target) (sym p) ∙ s.target;
      not_null = s.not_null;
      strong = ap (λ (c : Cell). same c.bit (pointer_at cells v k).bit) (sym (edit-other cells u (pointer_at cells v k).target f (unseen v k q lv))) ∙ (ap (λ r. is_strong cs r) (sym p) ∙ s.strong);
    })
    (cases_eq v u)) a

pay-acyclic : (cells : List Cell) (u value : ℕ) → HasNoStrongCycle cells → HasNoStrongCycle (edit cells u (pays value))
pay-acyclic cells u value a =
    let f : Cell → Cell = pays value in
    let cs = edit cells u f in
    acyclic-fewer cells cs (λ v k to s.
    let p = edit-keeps (λ c. pointer_in c k) cells u v f (λ c. refl) in
    record {
      live = sym (edit-keeps (λ c. c.live) cells u v f (λ c. refl)) ∙ s.live;
      target = ap (λ (r : Pointer). r.target) (sym p) ∙ s.target;
      not_null = s.not_null;
      strong = ap (λ b. same b (pointer_at cells v k).bit) (sym (edit-keeps (λ c. c.bit) cells u (pointer_at cells v k).target f (λ c. refl))) ∙ (ap (λ r. is_strong cs r) (sym p) ∙ s.strong);
    }) a

-- the slot laws at a record's own premises
module _ (cells : List Cell) (e : IsExact cells) (u k to : ℕ) (strong : Bool) (h : HasPointer cells u k to strong) where
  has-weak : (p : Pointer) → (p.target ≢ 0 → is_strong cells p ≡ false) → HasNoStrongCycle cells → HasNoStrongCycle (relinked cells u k p)
  has-weak p w a = weak-acyclic cells u k p (live-there cells u e.none h.live) (live-within cells u h.live) h.within w a

  has-strong : (p : Pointer) → u ≢ p.target → HasNoStrongOut cells p.target → HasNoStrongCycle cells → HasNoStrongCycle (relinked cells u k p)
  has-strong p n o a = strong-acyclic cells u k p (live-there cells u e.none h.live) (live-within cells u h.live) h.within n o a

-- a cell with null slots has no strong pointer out
pub null-no_strong : (cells : List Cell) (b : ℕ) → HasNoPointer (cell_at cells b) → HasNoStrongOut cells b
null-no_strong cells b h slot to s = s.not_null (sym s.target ∙ h slot)

pub acyclic-kept : (slots : ℕ) (cells : List Cell) (r : Record) → Fits cells r → IsWellLaid cells r → IsExact cells → HasNoStrongCycle cells → HasNoStrongCycle (after_record slots cells r)
acyclic-kept slots cells (Begin pass) f w e a = a
acyclic-kept slots cells (Make pass id) f w e a =
    blank-acyclic cells id true slots e f.0 f.1 (λ v k n lv t. let no : true ≡ false = sym (e.closed v k lv (λ z. f.0 (sym t ∙ z))) ∙ subst (λ x. is_live cells x ≡ false) (sym t) f.2 in cc) a
acyclic-kept slots cells (Store pass id slot old_target old_strong new_target new_bit true) f w e a =
    let rule = w refl in has-strong cells e id slot old_target old_strong f.0 (record { target = new_target; bit = new_bit }) rule.0 (null-no_strong cells new_target rule.1) a
acyclic-kept slots cells (Store pass id slot old_target old_strong new_target new_bit false) f w e a =
    has-weak cells e id slot old_target old_strong f.0 (record { target = new_target; bit = new_bit }) f.1.strength a
acyclic-kept slots cells (Pay pass id old_value new_value) f w e a = pay-acyclic cells id new_value a
acyclic-kept slots cells (Commit pass) f w e a = a
acyclic-kept slots cells (Undo pass id slot old from_strong to to_bit) f w e a = has-weak cells e id slot old from_strong f.0 (record { target = to; bit = to_bit }) f.1.strength a
acyclic-kept slots cells (UndoPay pass id old to) f w e a = pay-acyclic cells id to a
acyclic-kept slots cells (AbortEnd pass) f w e a = a
acyclic-kept slots cells (Weaken id slot target) f w e a =
    let p = pointer_at cells id slot in
    has-weak cells e id slot target true f.0 (other_strength p) (λ n. same-other (cell_at cells p.target).bit p.bit ∙ ap not (f.0.strength f.1)) a
acyclic-kept slots cells (Strengthen id slot target) f w e a =
    let p = pointer_at cells id slot in
    has-strong cells e id slot target false f.0 (other_strength p) (λ q. w.0 (q ∙ f.0.target)) (subst (λ x. HasNoStrongOut cells x) (sym f.0.target) w.1) a
acyclic-kept slots cells (Flip id) f w e a = flip-acyclic cells id e f.0 w a
acyclic-kept slots cells (CutDead id slot target was_strong) f w e a = has-weak cells e id slot target was_strong f.0 null (λ n. absurd (n refl)) a
acyclic-kept slots cells (Free id) f w e a =
    blank-acyclic cells id false slots e (live-there cells id e.none f.0) (live-within cells id f.0) (λ v k n lv. unpointed cells e id (live-there cells id e.none f.0) f.3 f.4 v k lv) a
