-- Where the collector changes cells, the queue or the round, and deletes nothing, all that a journal keeps is kept.
use Rattle.std.proofs.Common.{◌≡◌, ◌≢◌, ℕ, List, [], ◌∷◌, ◌++◌, true, false, refl, sym, ap, ◌∙◌, subst, map, Option, Some, None, ◌⊎◌, inl, inr, ⊎_elim}
use Rattle.std.specs.Prelude.{Contains, IfSome, slice_index}
use Rattle.std.specs.Option.{option_map_or}
use Rattle.std.proofs.lemmas.Bool.{cases_Bool}
use Rattle.std.proofs.lemmas.List.Elements.{Contains-append_cases, Contains-append_left, Contains-append_right}
use Rattle.plain_model.specs.declared.object.Object.{Object}
use Rattle.plain_model.specs.Graphs.{root}
use Rattle.plain_model.specs.ActiveTransaction.{ActiveTransaction}
use Rattle.plain_model.specs.History.{holds}
use Rattle.cell_model.specs.Cells.{Cell, cell_at, pointer_at, is_live, object_of}
use Rattle.store_model.specs.Core.{Copy, Round, Core, is_named, IsActive}
use Rattle.store_model.specs.Sound.{by_lock, by_pass, start, IsKept, HasNoReason, IsKnown, root_itself, pointed, named_id, IsOnce, in_round, condemned_of, copy_of, IsSound}
use Rattle.cell_model.specs.Consistent.{AreConsistent}
use Rattle.store_model.specs.Verdict.{IsCondemned}
use Rattle.store_model.specs.Steps.{opened_round, condemned_round, with_copy, with_verdict, after_look, after_collect}
use Rattle.store_model.proofs.Lists.{Contains-here, Contains-later}
use Rattle.store_model.proofs.OnceLaws.{nothing-in, once-append, once-one, only-one, once-push, once-rest, once-first, once-none}
use Rattle.store_model.proofs.DeletionLaws.{target-map}
use Rattle.store_model.proofs.CondemnedLaws.{zero-no_reason}
use Rattle.store_model.proofs.StepLaws.{Contains-cons}
use Rattle.store_model.proofs.VerdictLaws.{verdict}

-- ---- what each event has to show

module _ (c : Core) (s : IsSound c) (cells : List Cell) (queue : List ℕ) (round : Option Round) where
  pub collect-sound : AreConsistent c.moment.state.slots c.moment.state.ids cells
      → ((x : ℕ) → is_live cells x ≡ is_live c.cells x)
      → ((x : ℕ) → IsKept c x → object_of x (cell_at cells x) ≡ object_of x (cell_at c.cells x))
      → ((x : ℕ) → is_live c.cells x ≡ true → x ≢ root → (cell_at cells x).strong ≡ 0 → Contains queue x ⊎ (Contains (in_round (after_collect c cells queue round)) x ⊎ (is_named c.refs x ≡ true)))
      → IsOnce queue → IsOnce (in_round (after_collect c cells queue round))
      → ((x : ℕ) → Contains queue x → (is_live c.cells x ≡ true) × (x ≢ root) × (Contains (in_round (after_collect c cells queue round)) x → ⊥))
      → ((x : ℕ) → Contains (in_round (after_collect c cells queue round)) x → (is_live c.cells x ≡ true) × (x ≢ root))
      → IfSome round (λ r. r.judged ≡ false → (id : ℕ) (copy : Copy) → Contains r.copies (id, copy) → Contains r.touched id ⊎ (copy ≡ copy_of (cell_at cells id)))
      → IfSome round (λ r. r.judged ≡ false → (id : ℕ) (copy : Copy) → Contains r.copies (id, copy) → Contains r.list id)
      → HasNoReason (after_collect c cells queue round) (Contains (condemned_of (after_collect c cells queue round)))
      → ((x : ℕ) → Contains (condemned_of (after_collect c cells queue round)) x → Contains (in_round (after_collect c cells queue round)) x)
      → IsSound (after_collect c cells queue round)
  collect-sound k live objects zero queue_once round_once queued round_live copies copied_listed condemned condemned_listed = record {
    consistent = k;
    zero = λ x l. zero x (sym (live x) ∙ l);
    queue_once = queue_once;
    round_once = round_once;
    queued = λ x m. (let h = queued x m in (live x ∙ h.0, h.1, h.2));
    round_live = λ x m. (let h = round_live x m in (live x ∙ h.0, h.1));
    state = s.state;
    kept = λ x h. (let now = s.kept x h in record { live = live x ∙ now.live; contents = now.contents ∙ ap Some (sym (objects x h)) });
    stored = λ x. s.stored x ∙ sym (live x);
    none_undone = s.none_undone;
    made_first = s.made_first;
    made_alone = s.made_alone;
    new_named = s.new_named;
    old_named = s.old_named;
    made_named = s.made_named;
    refs_active = s.refs_active;
    registers = λ e m id h. known e m id (s.registers e m id h);
    copies = copies;
    copied_listed = copied_listed;
    condemned = condemned;
    condemned_listed = condemned_listed;
  }
    where
      target : (v j : ℕ) → IsKept c v → (pointer_at cells v j).target ≡ (pointer_at c.cells v j).target
      target v j h = sym (target-map (cell_at cells v).pointers j) ∙ (ap (λ (o : Object). slice_index o.slots j) (objects v h) ∙ target-map (cell_at c.cells v).pointers j)

      known : (e : ℕ × ActiveTransaction) → IsActive c e → (id : ℕ) → IsKnown c e id → IsKnown (after_collect c cells queue round) e id
      known e m id (root_itself h) = root_itself h
      known e m id (named_id h) = named_id h
      known e m id (pointed v j h l p) = pointed v j h (live v ∙ l) (target v j (start v (by_pass e m (by_lock h))) ∙ p)

  -- the condemned are those from before, or fewer
  pub same-reason : ((x : ℕ) → is_live cells x ≡ is_live c.cells x) → ((x : ℕ) → Contains (condemned_of (after_collect c cells queue round)) x → Contains (condemned_of c) x)
      → ((u k : ℕ) → is_live cells u ≡ true → Contains (condemned_of (after_collect c cells queue round)) (pointer_at cells u k).target → Contains (condemned_of (after_collect c cells queue round)) u)
      → HasNoReason (after_collect c cells queue round) (Contains (condemned_of (after_collect c cells queue round)))
  same-reason live fewer within = record {
    live = λ x d. live x ∙ s.condemned.live x (fewer x d);
    not_root = λ x d. s.condemned.not_root x (fewer x d);
    not_locked = λ x d. s.condemned.not_locked x (fewer x d);
    not_named = λ x d. s.condemned.not_named x (fewer x d);
    within = within;
  }

-- ---- without a change of cells

module _ (c : Core) (s : IsSound c) (x : ℕ) (rest : List ℕ) (first : c.queue ≡ x ∷ rest) where
  in_queue : (y : ℕ) → Contains c.queue y → (x ≡ y) ⊎ Contains rest y
  in_queue y m = Contains-cons x rest y (subst (λ l. Contains l y) first m)

  was_queued : (y : ℕ) → Contains rest y → Contains c.queue y
  was_queued y m = subst (λ l. Contains l y) (sym first) (Contains-later x rest y m)

  x_queued : Contains c.queue x
  x_queued = subst (λ l. Contains l x) (sym first) (Contains-here x rest)

  once : IsOnce (x ∷ rest)
  once = subst IsOnce first s.queue_once

  -- the first of the queue is passed over, since it has a strong pointer or a name
  pub skip-sound : ((cell_at c.cells x).strong ≢ 0) ⊎ (is_named c.refs x ≡ true) → IsSound (after_look c rest c.round)
  skip-sound known = collect-sound c s c.cells rest c.round s.consistent (λ y. refl) (λ y h. refl)
      (λ y l n z. ⊎_elim
      (λ m. ⊎_elim
      (λ q. ⊎_elim (λ f. absurd (f (subst (λ v. (cell_at c.cells v).strong ≡ 0) (sym q) z))) (λ f. inr (inr (subst (λ v. is_named c.refs v ≡ true) q f))) known)
      (λ q. inl q)
      (in_queue y m))
      (λ m. inr m)
      (s.zero y l n z))
      (once-rest x rest once) s.round_once (λ y m. s.queued y (was_queued y m)) s.round_live s.copies s.copied_listed
      (same-reason c s c.cells rest c.round (λ y. refl) (λ y d. d) s.condemned.within) s.condemned_listed

  -- it goes to the queue's end
  pub requeue-sound : IsSound (after_look c (rest ++ x ∷ []) c.round)
  requeue-sound =
      let still : (y : ℕ) → Contains (rest ++ x ∷ []) y → Contains c.queue y = λ y m. ⊎_elim (λ q. was_queued y q) (λ q. subst (λ v. Contains c.queue v) (only-one x y q) x_queued) (Contains-append_cases rest (x ∷ []) y m) in
      collect-sound c s c.cells (rest ++ x ∷ []) c.round s.consistent (λ y. refl) (λ y h. refl)
      (λ y l n z. ⊎_elim
      (λ m. inl (⊎_elim (λ q. Contains-append_right rest (x ∷ []) y (subst (λ v. Contains (x ∷ []) v) q (Contains-here x []))) (λ q. Contains-append_left rest (x ∷ []) y q) (in_queue y m)))
      (λ m. inr m)
      (s.zero y l n z))
      (once-push rest x (once-rest x rest once) (once-first x rest once)) s.round_once (λ y m. s.queued y (still y m)) s.round_live s.copies s.copied_listed
      (same-reason c s c.cells (rest ++ x ∷ []) c.round (λ y. refl) (λ y d. d) s.condemned.within) s.condemned_listed

  module _ (closed : c.round ≡ None) where
    -- a round opens with it, to be walked or condemned at once
    opens : (r : Round) → r.list ≡ x ∷ [] → r.copies ≡ [] → HasNoReason (after_look c rest (Some r)) (Contains r.condemned) → ((y : ℕ) → Contains r.condemned y → Contains r.list y) → IsSound (after_look c rest (Some r))
    opens r list copies reason listed =
        let none : (y : ℕ) → Contains (in_round c) y → ⊥ = λ y m. nothing-in y (subst (λ l. Contains l y) (ap (λ o. option_map_or (λ (r : Round). r.list) o []) closed) m) in
        let one : (y : ℕ) → Contains r.list y → x ≡ y = λ y m. only-one x y (subst (λ l. Contains l y) list m) in
        collect-sound c s c.cells rest (Some r) s.consistent (λ y. refl) (λ y h. refl)
        (λ y l n z. ⊎_elim
        (λ m. ⊎_elim (λ q. inr (inl (subst (λ l. Contains l y) (sym list) (subst (λ v. Contains (x ∷ []) v) q (Contains-here x []))))) (λ q. inl q) (in_queue y m))
        (λ m. ⊎_elim (λ q. absurd (none y q)) (λ q. inr (inr q)) m)
        (s.zero y l n z))
        (once-rest x rest once) (subst IsOnce (sym list) (once-one x))
        (λ y m. let h = s.queued y (was_queued y m) in (h.0, h.1, λ k. once-first x rest once (subst (λ v. Contains rest v) (sym (one y k)) m)))
        (λ y m. let h = s.queued x x_queued in (subst (λ v. is_live c.cells v ≡ true) (one y m) h.0, λ q. h.1 (one y m ∙ q)))
        (λ j id copy m. nothing-in (id, copy) (subst (λ l. Contains l (id, copy)) copies m))
        (λ j id copy m. nothing-in (id, copy) (subst (λ l. Contains l (id, copy)) copies m))
        reason listed

    pub start-sound : IsSound (after_look c rest (Some (opened_round x)))
    start-sound = opens (opened_round x) refl refl (record { live = λ y d. nothing-in y d; not_root = λ y d. nothing-in y d; not_locked = λ y d. nothing-in y d; not_named = λ y d. nothing-in y d; within = λ u k l d. nothing-in _ d }) (λ y d. nothing-in y d)

    -- where nothing points to it and no client holds or names it
    pub condemn-sound : (cell_at c.cells x).strong ≡ 0 → (cell_at c.cells x).weak ≡ 0 → ((e : ℕ × ActiveTransaction) → IsActive c e → holds x e.1 ≡ false) → is_named c.refs x ≡ false → IsSound (after_look c rest (Some (condemned_round x)))
    condemn-sound st w free unnamed =
        let h = s.queued x x_queued in
        let n = zero-no_reason c s x h.0 h.1 st w free unnamed in
        let is : (y : ℕ) → Contains (x ∷ []) y → y ≡ x = λ y m. sym (only-one x y m) in
        opens (condemned_round x) refl refl
        (record {
          live = λ y d. n.live y (is y d);
          not_root = λ y d. n.not_root y (is y d);
          not_locked = λ y d. n.not_locked y (is y d);
          not_named = λ y d. n.not_named y (is y d);
          within = λ u k l d. subst (λ v. Contains (x ∷ []) v) (sym (n.within u k l (is (pointer_at c.cells u k).target d))) (Contains-here x []);
        })
        (λ y d. d)

-- ---- in an open round

module _ (c : Core) (s : IsSound c) (r : Round) (q : c.round ≡ Some r) where
  pub list-is : in_round c ≡ r.list
  list-is = ap (λ o. option_map_or (λ (r : Round). r.list) o []) q

  pub condemned-is : condemned_of c ≡ r.condemned
  condemned-is = ap (λ o. option_map_or (λ (r : Round). r.condemned) o []) q

  pub in_list : (x : ℕ) → Contains (in_round c) x → Contains r.list x
  in_list x m = subst (λ l. Contains l x) list-is m

  pub from_list : (x : ℕ) → Contains r.list x → Contains (in_round c) x
  from_list x m = subst (λ l. Contains l x) (sym list-is) m

  pub from_condemned : (x : ℕ) → Contains r.condemned x → Contains (condemned_of c) x
  from_condemned x m = subst (λ l. Contains l x) (sym condemned-is) m

  pub once_listed : IsOnce r.list
  once_listed = subst IsOnce list-is s.round_once

  copied : r.judged ≡ false → (id : ℕ) (copy : Copy) → Contains r.copies (id, copy) → Contains r.touched id ⊎ (copy ≡ copy_of (cell_at c.cells id))
  copied = subst (λ o. IfSome o (λ r. r.judged ≡ false → (id : ℕ) (copy : Copy) → Contains r.copies (id, copy) → Contains r.touched id ⊎ (copy ≡ copy_of (cell_at c.cells id)))) q s.copies

  copied-in_list : r.judged ≡ false → (id : ℕ) (copy : Copy) → Contains r.copies (id, copy) → Contains r.list id
  copied-in_list = subst (λ o. IfSome o (λ r. r.judged ≡ false → (id : ℕ) (copy : Copy) → Contains r.copies (id, copy) → Contains r.list id)) q s.copied_listed

  -- the round keeps its list and its condemned; the cells, the queue and the rest of the round may change
  module _ (n : Round) (list : n.list ≡ r.list) (condemned : n.condemned ≡ r.condemned) (cells : List Cell) (queue : List ℕ) where
    pub listed-sound : AreConsistent c.moment.state.slots c.moment.state.ids cells → ((x : ℕ) → is_live cells x ≡ is_live c.cells x) → ((x : ℕ) → IsKept c x → object_of x (cell_at cells x) ≡ object_of x (cell_at c.cells x))
        → ((x : ℕ) → is_live c.cells x ≡ true → x ≢ root → (cell_at cells x).strong ≡ 0 → Contains queue x ⊎ (Contains (in_round c) x ⊎ (is_named c.refs x ≡ true)))
        → IsOnce queue → ((x : ℕ) → Contains queue x → (is_live c.cells x ≡ true) × (x ≢ root) × (Contains (in_round c) x → ⊥))
        → (n.judged ≡ false → (id : ℕ) (copy : Copy) → Contains n.copies (id, copy) → Contains n.touched id ⊎ (copy ≡ copy_of (cell_at cells id)))
        → (n.judged ≡ false → (id : ℕ) (copy : Copy) → Contains n.copies (id, copy) → Contains n.list id)
        → ((u k : ℕ) → is_live cells u ≡ true → Contains (condemned_of c) (pointer_at cells u k).target → Contains (condemned_of c) u)
        → IsSound (after_collect c cells queue (Some n))
    listed-sound k live objects zero queue_once queued copies listed within =
        let to_new : (x : ℕ) → Contains (in_round c) x → Contains n.list x = λ x m. subst (λ l. Contains l x) (sym list) (in_list x m) in
        let to_old : (x : ℕ) → Contains n.list x → Contains (in_round c) x = λ x m. from_list x (subst (λ l. Contains l x) list m) in
        let d_new : (x : ℕ) → Contains (condemned_of c) x → Contains n.condemned x = λ x m. subst (λ l. Contains l x) (condemned-is ∙ sym condemned) m in
        let d_old : (x : ℕ) → Contains n.condemned x → Contains (condemned_of c) x = λ x m. subst (λ l. Contains l x) (condemned ∙ sym condemned-is) m in
        collect-sound c s cells queue (Some n) k live objects
        (λ x l m z. ⊎_elim (λ h. inl h) (λ h. ⊎_elim (λ g. inr (inl (to_new x g))) (λ g. inr (inr g)) h) (zero x l m z))
        queue_once (subst IsOnce (sym list) once_listed)
        (λ x m. let h = queued x m in (h.0, h.1, λ g. h.2 (to_old x g)))
        (λ x m. s.round_live x (to_old x m))
        copies listed
        (same-reason c s cells queue (Some n) live d_old (λ u j l d. d_new u (within u j l (d_old (pointer_at cells u j).target d))))
        (λ x m. to_new x (s.condemned_listed x (d_old x m)))

  -- an object of the round is copied
  pub copy-sound : (id : ℕ) → Contains r.list id → IsSound (after_look c c.queue (Some (with_copy r id (cell_at c.cells id))))
  copy-sound id m =
      let e0 : ℕ × Copy = (id, copy_of (cell_at c.cells id)) in
      let one : (e : ℕ × Copy) → Contains (e0 ∷ []) e → e0 ≡ e = λ e h. ⊎_elim (λ f. f) (λ f. nothing-in e f) (Contains-cons e0 [] e h) in
      listed-sound (with_copy r id (cell_at c.cells id)) refl refl c.cells c.queue s.consistent (λ x. refl) (λ x h. refl) s.zero s.queue_once s.queued
      (λ j x copy h. ⊎_elim
      (λ g. copied j x copy g)
      (λ g. let e = one (x, copy) g in inr (ap (λ (e : ℕ × Copy). e.1) (sym e) ∙ ap (λ (e : ℕ × Copy). copy_of (cell_at c.cells e.0)) e))
      (Contains-append_cases r.copies (e0 ∷ []) (x, copy) h))
      (λ j x copy h. ⊎_elim
      (λ g. copied-in_list j x copy g)
      (λ g. subst (λ v. Contains r.list v) (ap (λ (e : ℕ × Copy). e.0) (one (x, copy) g)) m)
      (Contains-append_cases r.copies (e0 ∷ []) (x, copy) h))
      s.condemned.within

  -- more objects are marked as touched
  pub touch-sound : (touched : List ℕ) → ((x : ℕ) → Contains r.touched x → Contains touched x) → IsSound (after_look c c.queue (Some (record r { touched = touched })))
  touch-sound touched more = listed-sound (record r { touched = touched }) refl refl c.cells c.queue s.consistent (λ x. refl) (λ x h. refl) s.zero s.queue_once s.queued
      (λ j x copy h. ⊎_elim (λ g. inl (more x g)) (λ g. inr g) (copied j x copy h))
      copied-in_list s.condemned.within

  -- the verdict condemns what isn't live by the copies
  pub judge-sound : r.judged ≡ false → map (λ e. e.0) r.copies ≡ r.list → (condemned : List ℕ) → ((x : ℕ) → Contains condemned x → IsCondemned c r x) → ((x : ℕ) → IsCondemned c r x → Contains condemned x) → IsSound (after_look c c.queue (Some (with_verdict r condemned)))
  judge-sound waits all condemned only each_one =
      let n = verdict c r s.consistent.exact (record { all = all; current = copied waits; once = once_listed; live = λ x m. s.round_live x (from_list x m) }) in
      collect-sound c s c.cells c.queue (Some (with_verdict r condemned)) s.consistent (λ x. refl) (λ x h. refl)
      (λ x l m z. ⊎_elim (λ h. inl h) (λ h. ⊎_elim (λ g. inr (inl (in_list x g))) (λ g. inr (inr g)) h) (s.zero x l m z))
      s.queue_once once_listed
      (λ x m. let h = s.queued x m in (h.0, h.1, λ g. h.2 (from_list x g)))
      (λ x m. s.round_live x (from_list x m))
      (λ j. let no : true ≡ false = j in cc)
      (λ j. let no : true ≡ false = j in cc)
      (record {
        live = λ x d. n.live x (only x d);
        not_root = λ x d. n.not_root x (only x d);
        not_locked = λ x d. n.not_locked x (only x d);
        not_named = λ x d. n.not_named x (only x d);
        within = λ u k l d. each_one u (n.within u k l (only (pointer_at c.cells u k).target d));
      })
      (λ x m. (only x m).0)

  -- the round closes: those of its objects that have neither a strong pointer nor a name join the queue
  pub end-sound : (more : List ℕ) → IsOnce more → ((x : ℕ) → Contains more x → Contains r.list x) → ((x : ℕ) → Contains r.list x → (cell_at c.cells x).strong ≡ 0 → is_named c.refs x ≡ false → Contains more x) → IsSound (after_look c (c.queue ++ more) None)
  end-sound more more_once within complete =
      collect-sound c s c.cells (c.queue ++ more) None s.consistent (λ x. refl) (λ x h. refl)
      (λ x l m z. ⊎_elim
      (λ h. inl (Contains-append_left c.queue more x h))
      (λ h. ⊎_elim
      (λ g. ⊎_elim (λ f. inr (inr f)) (λ f. inl (Contains-append_right c.queue more x (complete x (in_list x g) z f))) (cases_Bool (is_named c.refs x)))
      (λ g. inr (inr g))
      h)
      (s.zero x l m z))
      (once-append c.queue more s.queue_once more_once (λ x h g. (s.queued x h).2 (from_list x (within x g)))) once-none
      (λ x m. ⊎_elim
      (λ h. let g = s.queued x h in (g.0, g.1, λ k. nothing-in x k))
      (λ h. let g = s.round_live x (from_list x (within x h)) in (g.0, g.1, λ k. nothing-in x k))
      (Contains-append_cases c.queue more x m))
      (λ x m. nothing-in x m)
      tt tt
      (record { live = λ y d. nothing-in y d; not_root = λ y d. nothing-in y d; not_locked = λ y d. nothing-in y d; not_named = λ y d. nothing-in y d; within = λ u k l d. nothing-in _ d })
      (λ y d. nothing-in y d)
