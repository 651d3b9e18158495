-- Where the collector weakens, strengthens, flips or removes a reference, all that a journal keeps is kept.
use Rattle.std.proofs.Common.{◌≡◌, ◌≢◌, ℕ, ◌<◌, List, [], ◌∷◌, ◌++◌, Bool, true, false, cond, refl, sym, ap, ◌∙◌, subst, length, arith, Some, ◌⊎◌, inl, inr, ⊎_elim, ne_eqb}
use Rattle.std.specs.Prelude.{◌==◌, ◌&&◌, Contains}
use Rattle.std.proofs.lemmas.Bool.{cases_eq}
use Rattle.std.proofs.lemmas.List.Elements.{Contains-append_cases, Contains-append_left, Contains-append_right}
use Rattle.plain_model.specs.Graphs.{root}
use Rattle.cell_model.specs.Cells.{Pointer, Cell, null, cell_at, pointer_at, is_live, is_strong, same, object_of, relinked, other_strength, flipped, hits, counted}
use Rattle.cell_model.specs.Records.{Record, Weaken, Strengthen, Flip, CutDead, after_record, Fits, IsWellLaid}
use Rattle.store_model.specs.Core.{Copy, Round, Core, is_named}
use Rattle.store_model.specs.Sound.{IsKept, IsOnce, in_round, condemned_of, IsSound}
use Rattle.store_model.specs.Steps.{IsQuiet, IsTracked, IsWithout, with_listed, after_change, after_collect}
use Rattle.store_model.proofs.Lists.{Contains-here}
use Rattle.store_model.proofs.OnceLaws.{nothing-in, only-one, once-push}
use Rattle.cell_model.proofs.EditLaws.{live-there, live-within, edit-other, edit-keeps}
use Rattle.cell_model.proofs.CountLaws.{relinked-live, relinked-bit, relinked-counted}
use Rattle.cell_model.proofs.ConsistentLaws.{consistent-kept}
use Rattle.store_model.proofs.DeletionLaws.{unkept}
use Rattle.store_model.proofs.CondemnedLaws.{LaysOutside, closed_up-kept}
use Rattle.store_model.proofs.StepLaws.{relinked-object_other}
use Rattle.store_model.proofs.CollectLaws.{strength-objects, flip-objects}
use Rattle.store_model.proofs.StoreSound.{strong-kept, same-self}
use Rattle.store_model.proofs.CollectSound.{collect-sound, same-reason, condemned-is, in_list, from_list, from_condemned, once_listed, listed-sound}

same-swap : (a b : Bool) → same a b ≡ same b a
same-swap true true = refl
same-swap true false = refl
same-swap false true = refl
same-swap false false = refl

-- a cell loses no strong pointer where the pointer that goes was weak
strong-more : (cells : List Cell) (u k : ℕ) (p : Pointer) → is_strong cells (pointer_at cells u k) ≡ false → (x : ℕ) → x ≢ 0 → x < length cells → (cell_at (relinked cells u k p) x).strong ≡ 0 → (cell_at cells x).strong ≡ 0
strong-more cells u k p w x n l z =
    let bit = (cell_at cells x).bit in
    let old = pointer_at cells u k in
    let c = relinked-counted cells u k p x bit n l in
    let none : hits x bit old ≡ 0 = ⊎_elim
    (λ (q : old.target ≡ x). ap {B = ℕ} (λ t. cond t 1 0) (both (old.target == x) (same old.bit bit) (same-swap old.bit bit ∙ (ap (λ y. same (cell_at cells y).bit old.bit) (sym q) ∙ w))))
    (λ m. ap {B = ℕ} (λ t. cond (t && same old.bit bit) 1 0) (ne_eqb old.target x m))
    (cases_eq old.target x) in
    let before : counted bit (cell_at cells x) ≡ (cell_at cells x).strong = ap (λ t. cond t (cell_at cells x).strong (cell_at cells x).weak) (same-self bit) in
    let after : counted bit (cell_at (relinked cells u k p) x) ≡ (cell_at (relinked cells u k p) x).strong =
    ap (λ o. cond (same o bit) (cell_at (relinked cells u k p) x).strong (cell_at (relinked cells u k p) x).weak) (relinked-bit cells u k p x) ∙ ap (λ t. cond t (cell_at (relinked cells u k p) x).strong (cell_at (relinked cells u k p) x).weak) (same-self bit) in
    omega (arith, c, none, before, after, z)
  where
    both : (a b : Bool) → b ≡ false → (a && b) ≡ false
    both true b e = e
    both false b e = refl

module _ (c : Core) (s : IsSound c) (r : Round) (q : c.round ≡ Some r) (quiet : IsQuiet r) where
  no_copy : {X : Type 0} → r.judged ≡ false → (id : ℕ) (copy : Copy) → Contains r.copies (id, copy) → X
  no_copy j id copy m = nothing-in (id, copy) (subst (λ l. Contains l (id, copy)) (quiet j) m)

  -- what was condemned stays closed under a record that lays no pointer to it
  closed : (rec : Record) → Fits c.cells rec → LaysOutside (Contains (condemned_of c)) rec → ((x : ℕ) → is_live (after_record c.moment.state.slots c.cells rec) x ≡ is_live c.cells x)
      → (u k : ℕ) → is_live (after_record c.moment.state.slots c.cells rec) u ≡ true → Contains (condemned_of c) (pointer_at (after_record c.moment.state.slots c.cells rec) u k).target → Contains (condemned_of c) u
  closed rec fits outside live u k l d =
      let cells = after_record c.moment.state.slots c.cells rec in
      (closed_up-kept c.cells s.consistent.exact (Contains (condemned_of c)) s.condemned.live s.condemned.within c.moment.state.slots rec fits outside u k l (d, live (pointer_at cells u k).target ∙ s.condemned.live (pointer_at cells u k).target d)).0

  -- the queue and the round stay
  stays : (rec : Record) → Fits c.cells rec → IsWellLaid c.cells rec → LaysOutside (Contains (condemned_of c)) rec → ((x : ℕ) → is_live (after_record c.moment.state.slots c.cells rec) x ≡ is_live c.cells x)
      → ((x : ℕ) → IsKept c x → object_of x (cell_at (after_record c.moment.state.slots c.cells rec) x) ≡ object_of x (cell_at c.cells x))
      → ((x : ℕ) → is_live c.cells x ≡ true → x ≢ root → (cell_at (after_record c.moment.state.slots c.cells rec) x).strong ≡ 0 → Contains c.queue x ⊎ (Contains (in_round c) x ⊎ (is_named c.refs x ≡ true)))
      → IsSound (after_change c (after_record c.moment.state.slots c.cells rec))
  stays rec fits rule outside live objects zero =
      let cells = after_record c.moment.state.slots c.cells rec in
      subst (λ o. IsSound (after_collect c cells c.queue o)) (sym q)
      (listed-sound c s r q r refl refl cells c.queue (consistent-kept c.moment.state.slots c.moment.state.ids c.cells rec fits rule s.consistent) live objects zero s.queue_once s.queued
      (λ j id copy m. no_copy j id copy m) (λ j id copy m. no_copy j id copy m) (closed rec fits outside live))

  -- ---- Weaken

  module _ (id slot target : ℕ) (fits : Fits c.cells (Weaken id slot target)) where
    -- who has no strong pointer now had none before, or is the target
    weaken-zero : (x : ℕ) → is_live c.cells x ≡ true → x ≢ root → (cell_at (after_record c.moment.state.slots c.cells (Weaken id slot target)) x).strong ≡ 0 → (x ≡ target) ⊎ (Contains c.queue x ⊎ (Contains (in_round c) x ⊎ (is_named c.refs x ≡ true)))
    weaken-zero x l n z =
        let p = other_strength (pointer_at c.cells id slot) in
        ⊎_elim (λ e. inl (e ∙ fits.0.target)) (λ m. inr (s.zero x l n (strong-kept c.cells id slot p x (live-there c.cells x s.consistent.exact.none l) (live-within c.cells x l) m z))) (cases_eq x (pointer_at c.cells id slot).target)

    pub weaken-sound : IsTracked c target ⊎ ((cell_at (after_record c.moment.state.slots c.cells (Weaken id slot target)) target).strong ≢ 0) → IsSound (after_change c (after_record c.moment.state.slots c.cells (Weaken id slot target)))
    weaken-sound known =
        let p = other_strength (pointer_at c.cells id slot) in
        stays (Weaken id slot target) fits tt tt (relinked-live c.cells id slot p) (λ x h. strength-objects c.cells id slot x)
        (λ x l n z. ⊎_elim
        (λ e. ⊎_elim
        (λ k. subst (λ v. Contains c.queue v ⊎ (Contains (in_round c) v ⊎ (is_named c.refs v ≡ true))) (sym e) (⊎_elim (λ w. absurd (n (e ∙ w))) (λ w. w) k))
        (λ f. absurd (f (subst (λ v. (cell_at (relinked c.cells id slot p) v).strong ≡ 0) e z)))
        known)
        (λ k. k)
        (weaken-zero x l n z))

    -- the target leaves the queue, where it stands there, and joins the list
    pub weaken_joins-sound : (queue : List ℕ) → target ≢ root → (Contains r.list target → ⊥) → IsOnce queue → IsWithout c.queue target queue
        → IsSound (after_collect c (after_record c.moment.state.slots c.cells (Weaken id slot target)) queue (Some (with_listed r target)))
    weaken_joins-sound queue not_root not_listed queue_once left =
        let p = other_strength (pointer_at c.cells id slot) in
        let cells = relinked c.cells id slot p in
        let live = relinked-live c.cells id slot p in
        let cases : (x : ℕ) → Contains (r.list ++ target ∷ []) x → Contains (in_round c) x ⊎ (target ≡ x) = λ x m. ⊎_elim (λ h. inl (from_list c s r q x h)) (λ h. inr (only-one target x h)) (Contains-append_cases r.list (target ∷ []) x m) in
        let still : (x : ℕ) → Contains (in_round c) x → Contains (r.list ++ target ∷ []) x = λ x m. Contains-append_left r.list (target ∷ []) x (in_list c s r q x m) in
        let joined : Contains (r.list ++ target ∷ []) target = Contains-append_right r.list (target ∷ []) target (Contains-here target []) in
        let d_old : (x : ℕ) → Contains r.condemned x → Contains (condemned_of c) x = λ x m. from_condemned c s r q x m in
        let d_new : (x : ℕ) → Contains (condemned_of c) x → Contains r.condemned x = λ x m. subst (λ l. Contains l x) (condemned-is c s r q) m in
        collect-sound c s cells queue (Some (with_listed r target)) (consistent-kept c.moment.state.slots c.moment.state.ids c.cells (Weaken id slot target) fits tt s.consistent) live (λ x h. strength-objects c.cells id slot x)
        (λ x l n z. ⊎_elim
        (λ e. inr (inl (subst (λ v. Contains (r.list ++ target ∷ []) v) (sym e) joined)))
        (λ h. ⊎_elim
        (λ k. ⊎_elim (λ e. inr (inl (subst (λ v. Contains (r.list ++ target ∷ []) v) (sym e) joined))) (λ m. inl (left.rest x k m)) (cases_eq x target))
        (λ k. ⊎_elim (λ k. inr (inl (still x k))) (λ k. inr (inr k)) k)
        h)
        (weaken-zero x l n z))
        queue_once (once-push r.list target (once_listed c s r q) not_listed)
        (λ x m. let o = left.others x m in let h = s.queued x o.0 in (h.0, h.1, λ k. ⊎_elim h.2 (λ e. o.1 (sym e)) (cases x k)))
        (λ x m. ⊎_elim (λ k. s.round_live x k) (λ e. (subst (λ v. is_live c.cells v ≡ true) e (fits.0.target_live fits.1), λ w. not_root (e ∙ w))) (cases x m))
        (λ j x copy m. no_copy j x copy m) (λ j x copy m. no_copy j x copy m)
        (same-reason c s cells queue (Some (with_listed r target)) live d_old (λ u j l d. d_new u (closed (Weaken id slot target) fits tt live u j l (d_old (pointer_at cells u j).target d))))
        (λ x m. still x (s.condemned_listed x (d_old x m)))

  -- ---- Strengthen and Flip

  pub strengthen-sound : (id slot target : ℕ) → Fits c.cells (Strengthen id slot target) → IsWellLaid c.cells (Strengthen id slot target) → IsSound (after_change c (after_record c.moment.state.slots c.cells (Strengthen id slot target)))
  strengthen-sound id slot target fits rule =
      let p = other_strength (pointer_at c.cells id slot) in
      let old = pointer_at c.cells id slot in
      stays (Strengthen id slot target) fits rule tt (relinked-live c.cells id slot p) (λ x h. strength-objects c.cells id slot x)
      (λ x l n z. s.zero x l n (strong-more c.cells id slot p (fits.0.strength fits.1) x (live-there c.cells x s.consistent.exact.none l) (live-within c.cells x l) z))

  pub flip-sound : (id : ℕ) → Fits c.cells (Flip id) → IsWellLaid c.cells (Flip id) → IsSound (after_change c (after_record c.moment.state.slots c.cells (Flip id)))
  flip-sound id fits rule =
      stays (Flip id) fits rule tt (λ x. edit-keeps (λ c. c.live) c.cells id x (flipped id) (λ c. refl)) (λ x h. flip-objects c.cells id x)
      (λ x l n z. ⊎_elim
      (λ e. s.zero x l n (subst (λ v. (cell_at c.cells v).strong ≡ 0) (sym e) fits.1))
      (λ m. s.zero x l n (ap (λ (e : Cell). e.strong) (sym (edit-other c.cells id x (flipped id) m)) ∙ z))
      (cases_eq x id))

  -- ---- a reference of a condemned object is removed

  module _ (id slot target : ℕ) (was_strong : Bool) (condemned : Contains r.condemned id) (fits : Fits c.cells (CutDead id slot target was_strong)) where
    unkept_others : (x : ℕ) → IsKept c x → object_of x (cell_at (relinked c.cells id slot null) x) ≡ object_of x (cell_at c.cells x)
    unkept_others x h = relinked-object_other c.cells id slot null x (λ e. unkept c s (Contains (condemned_of c)) s.condemned h (subst (λ v. Contains (condemned_of c) v) (sym e) (from_condemned c s r q id condemned)))

    cut-zero : (x : ℕ) → is_live c.cells x ≡ true → x ≢ root → (cell_at (relinked c.cells id slot null) x).strong ≡ 0 → (x ≡ target) ⊎ (Contains c.queue x ⊎ (Contains (in_round c) x ⊎ (is_named c.refs x ≡ true)))
    cut-zero x l n z =
        ⊎_elim (λ e. inl (e ∙ fits.0.target)) (λ m. inr (s.zero x l n (strong-kept c.cells id slot null x (live-there c.cells x s.consistent.exact.none l) (live-within c.cells x l) m z))) (cases_eq x (pointer_at c.cells id slot).target)

    pub cut-sound : IsTracked c target ⊎ ((cell_at (after_record c.moment.state.slots c.cells (CutDead id slot target was_strong)) target).strong ≢ 0) → IsSound (after_change c (after_record c.moment.state.slots c.cells (CutDead id slot target was_strong)))
    cut-sound known =
        stays (CutDead id slot target was_strong) fits tt tt (relinked-live c.cells id slot null) unkept_others
        (λ x l n z. ⊎_elim
        (λ e. ⊎_elim
        (λ k. subst (λ v. Contains c.queue v ⊎ (Contains (in_round c) v ⊎ (is_named c.refs v ≡ true))) (sym e) (⊎_elim (λ w. absurd (n (e ∙ w))) (λ w. w) k))
        (λ f. absurd (f (subst (λ v. (cell_at (relinked c.cells id slot null) v).strong ≡ 0) e z)))
        known)
        (λ k. k)
        (cut-zero x l n z))

    -- the target joins the queue
    pub cut_joins-sound : target ≢ root → (Contains r.list target → ⊥) → (Contains c.queue target → ⊥) → IsSound (after_collect c (after_record c.moment.state.slots c.cells (CutDead id slot target was_strong)) (c.queue ++ target ∷ []) c.round)
    cut_joins-sound not_root not_listed not_queued =
        let cells = relinked c.cells id slot null in
        let live = relinked-live c.cells id slot null in
        subst (λ o. IsSound (after_collect c cells (c.queue ++ target ∷ []) o)) (sym q)
        (listed-sound c s r q r refl refl cells (c.queue ++ target ∷ []) (consistent-kept c.moment.state.slots c.moment.state.ids c.cells (CutDead id slot target was_strong) fits tt s.consistent) live unkept_others
        (λ x l n z. ⊎_elim
        (λ e. inl (subst (λ v. Contains (c.queue ++ target ∷ []) v) (sym e) (Contains-append_right c.queue (target ∷ []) target (Contains-here target []))))
        (λ h. ⊎_elim (λ k. inl (Contains-append_left c.queue (target ∷ []) x k)) (λ k. inr k) h)
        (cut-zero x l n z))
        (once-push c.queue target s.queue_once not_queued)
        (λ x m. ⊎_elim
        (λ h. s.queued x h)
        (λ h. let e = only-one target x h in (subst (λ v. is_live c.cells v ≡ true) e (fits.0.target_live fits.1), (λ w. not_root (e ∙ w)), λ k. not_listed (subst (λ v. Contains r.list v) (sym e) (in_list c s r q x k))))
        (Contains-append_cases c.queue (target ∷ []) x m))
        (λ j x copy m. no_copy j x copy m) (λ j x copy m. no_copy j x copy m) (closed (CutDead id slot target was_strong) fits tt live))
