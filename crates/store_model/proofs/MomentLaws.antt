-- The current graph after each event, one object at a time, whatever the cells.
use Rattle.std.proofs.Common.{◌≡◌, ◌≢◌, ℕ, zero, ◌+◌, ◌-◌, List, [], ◌∷◌, ◌++◌, true, false, cond, refl, sym, ap, ap₂, ◌∙◌, subst, append_assoc, arith, Option, Some, None, ⊎_elim, eq-eqb, ne_eqb}
use Rattle.std.specs.Prelude.{◌==◌, Contains, count_by}
use Rattle.std.specs.List.{AllByRecursion}
use Rattle.std.specs.Option.{option_map_or}
use Rattle.std.specs.Map.{remove_entry, set_value}
use Rattle.std.specs.Ordering.{nat_cmp}
use Rattle.std.specs.BTreeMap.{is_at, insert_entry}
use Rattle.std.proofs.lemmas.Bool.{cases_eq, cond-true, cond-false}
use Rattle.std.proofs.lemmas.List.Sums.{fold-append, sum_by_push}
use Rattle.std.proofs.lemmas.List.Elements.{Contains-append_left, Contains-append_right, All-from_recursion, All-contains}
use Rattle.plain_model.specs.declared.object.Object.{Object}
use Rattle.plain_model.specs.declared.write.Place.{Place}
use Rattle.plain_model.specs.declared.write.Write.{Write}
use Rattle.plain_model.specs.Graphs.{object_at, applied}
use Rattle.plain_model.specs.ActiveTransaction.{ActiveTransaction}
use Rattle.plain_model.specs.Machine.{own_graph, transaction_of, new_transaction}
use Rattle.plain_model.specs.declared.calls.Entry.TheVariants.{Delete, Undo}
use Rattle.plain_model.specs.History.{Moment, can_be_undone, with_aborting, next}
use Rattle.plain_laws.specs.Sound.{PassesAscend, IsSoundState}
use Rattle.plain_laws.proofs.Lookups.{place_at, writes_at, object_at-after_writes}
use Rattle.plain_laws.proofs.Legal.{without_other}
use Rattle.store_model.specs.Core.{first_writes, current}
use Rattle.store_model.specs.Steps.{Replaces, IsOnlyWriter, moment_with, moment_begun, moment_committed, moment_aborted}
use Rattle.store_model.proofs.Lists.{each}
use Rattle.store_model.proofs.ObjectLaws.{object_in, current-object, writes_at-apart, object_in-apart, object_in-split, first_writes-all}
use Rattle.store_model.proofs.StepLaws.{replaces, current-replaced}
use Rattle.store_model.proofs.EndLaws.{exclusive_writes, written_or, removes, still_active, other_pass}
use Rattle.store_model.proofs.SeenLaws.{Ascend-after, alone-post}
use Rattle.store_model.proofs.UndoLaws.{replaces_marked, Ascend-before, above-apart, zero-writes, only_whole, object_in-undone}
use Rattle.store_model.proofs.InsertLaws.{inserts, each_apart}

-- ---- Begin

pub current-begun : (m : Moment) → IsSoundState m.state → (pass : ℕ) → transaction_of m.state pass ≡ None → (x : ℕ) → object_at (current (moment_begun m pass)) x ≡ object_at (current m) x
current-begun m i pass a x =
    let slots = m.state.slots in
    let undone = m.undone in
    let n = moment_begun m pass in
    let other = n.undone in
    let r = inserts pass new_transaction m.state.active i.passes a in
    let g0 = object_at m.state.committed x in
    let same : (e : ℕ × ActiveTransaction) → e.0 ≢ pass → other e.0 ≡ undone e.0 = λ e d. cond-false (e.0 == pass) 0 (undone e.0) (ne_eqb e.0 pass d) in
    let pre = object_in-undone slots undone other x g0 r.pre (each_apart r.pre (λ e. other e.0 ≡ undone e.0) pass same r.pre_others) in
    let post : (o : Option Object) → object_in slots other x o r.post ≡ object_in slots undone x o r.post = λ o. object_in-undone slots undone other x o r.post (each_apart r.post (λ e. other e.0 ≡ undone e.0) pass same r.post_others) in
    current-object n x
    ∙ (ap (object_in slots other x g0) r.after
    ∙ (object_in-split slots other x g0 r.pre (pass, new_transaction) r.post
    ∙ (ap (λ o. object_in slots other x o r.post) pre
    ∙ (post (object_in slots undone x g0 r.pre)
    ∙ (sym (fold-append (λ (o : Option Object) (e : ℕ × ActiveTransaction). writes_at slots x o (first_writes (count_by can_be_undone e.1.writes - undone e.0) e.1.writes)) g0 r.pre r.post)
    ∙ (ap (object_in slots undone x g0) (sym r.before) ∙ sym (current-object m x)))))))

module _ (m : Moment) (i : IsSoundState m.state) (pass : ℕ) (t : ActiveTransaction) (a : transaction_of m.state pass ≡ Some t) where
  -- ---- Read and GetPay

  pub current-unwritten : (u : ActiveTransaction) → u.writes ≡ t.writes → (x : ℕ) → object_at (current (moment_with m pass u)) x ≡ object_at (current m) x
  current-unwritten u e x =
      let slots = m.state.slots in
      current-object (moment_with m pass u) x
      ∙ (current-replaced slots m.undone x (object_at m.state.committed x) m.state.active (insert_entry nat_cmp m.state.active pass u) pass t u (replaces pass t u m.state.active i.passes a)
      (λ o. ap (λ ws. writes_at slots x o (first_writes (count_by can_be_undone ws - m.undone pass) ws)) e)
      ∙ sym (current-object m x))

  -- ---- SetPay, Store and Make

  -- where nothing is undone and no other client writes the object: the write is done to it, and the others stay
  pub current-written : m.undone pass ≡ 0 → (y : ℕ) (place : Place) (value : ℕ) (u : ActiveTransaction) → u.writes ≡ t.writes ++ record { id = y; place = place; value = value } ∷ [] → IsOnlyWriter m.state pass y
      → (x : ℕ) → object_at (current (moment_with m pass u)) x ≡ cond (y == x) (place_at m.state.slots x place value (object_at (current m) x)) (object_at (current m) x)
  current-written fresh y place value u e alone x =
      let slots = m.state.slots in
      let undone = m.undone in
      let w : Write = record { id = y; place = place; value = value } in
      let r = replaces pass t u m.state.active i.passes a in
      let g0 = object_at m.state.committed x in
      let all : (ws : List Write) → first_writes (count_by can_be_undone ws - undone pass) ws ≡ ws = λ ws. first_writes-all (count_by can_be_undone ws - undone pass) ws (omega (arith, fresh)) in
      let o1 = object_in slots undone x g0 r.pre in
      let F : Option Object → Option Object = λ o. object_in slots undone x o r.post in
      let P : Option Object → Option Object = place_at slots x place value in
      let W = writes_at slots x o1 t.writes in
      let before : object_at (current m) x ≡ F W =
      current-object m x ∙ (ap (object_in slots undone x g0) r.before ∙ (object_in-split slots undone x g0 r.pre (pass, t) r.post ∙ ap (λ ws. F (writes_at slots x o1 ws)) (all t.writes))) in
      let after : object_at (current (moment_with m pass u)) x ≡ F (cond (y == x) (P W) W) =
      current-object (moment_with m pass u) x ∙ (ap (object_in slots undone x g0) r.after ∙ (object_in-split slots undone x g0 r.pre (pass, u) r.post
      ∙ (ap (λ ws. F (writes_at slots x o1 ws)) (all u.writes ∙ e) ∙ ap F (fold-append (λ (o : Option Object) (w : Write). cond (w.id == x) (place_at slots x w.place w.value o) o) o1 t.writes (w ∷ []))))) in
      ⊎_elim
      (λ (q : y ≡ x).
      let quiet : (o : Option Object) → F o ≡ o = λ o. object_in-apart slots undone x o r.post (subst (λ v. AllByRecursion (λ e. AllByRecursion (λ w. w.id ≢ v) e.1.writes) r.post) q (alone-post m.state i pass y t u (insert_entry nat_cmp m.state.active pass u) alone r)) in
      let B = object_at (current m) x in
      after ∙ (quiet (cond (y == x) (P W) W) ∙ (cond-true (y == x) (P W) W (eq-eqb y x q) ∙ (ap P (sym (before ∙ quiet W)) ∙ sym (cond-true (y == x) (P B) B (eq-eqb y x q))))))
      (λ n.
      let B = object_at (current m) x in
      after ∙ (ap F (cond-false (y == x) (P W) W (ne_eqb y x n)) ∙ (sym before ∙ sym (cond-false (y == x) (P B) B (ne_eqb y x n)))))
      (cases_eq y x)

  -- the transaction sees what is current, where no other client writes the object
  pub seen-current : m.undone pass ≡ 0 → (y : ℕ) → IsOnlyWriter m.state pass y → object_at (own_graph m.state t) y ≡ object_at (current m) y
  seen-current fresh y alone =
      let active = m.state.active in
      let next = remove_entry (is_at (nat_cmp pass)) active in
      let slots = m.state.slots in
      let undone = m.undone in
      let r = removes pass t active i.passes a in
      let g0 = object_at m.state.committed y in
      let one : (e : ℕ × ActiveTransaction) → Contains (r.pre ++ r.post) e → AllByRecursion (λ w. w.id ≢ y) e.1.writes = λ e k.
      (let n : Contains next e = subst (λ l. Contains l e) (sym r.after) k in alone e (still_active active next pass t r e n) (other_pass active next pass t r e n)) in
      let pre = each (λ e. AllByRecursion (λ w. w.id ≢ y) e.1.writes) r.pre (λ e k. one e (Contains-append_left r.pre r.post e k)) in
      let post = each (λ e. AllByRecursion (λ w. w.id ≢ y) e.1.writes) r.post (λ e k. one e (Contains-append_right r.pre r.post e k)) in
      let is : object_at (current m) y ≡ writes_at slots y g0 t.writes =
      current-object m y ∙ (ap (object_in slots undone y g0) r.before ∙ (object_in-split slots undone y g0 r.pre (pass, t) r.post
      ∙ (object_in-apart slots undone y (writes_at slots y (object_in slots undone y g0 r.pre) (first_writes (count_by can_be_undone t.writes - undone pass) t.writes)) r.post post
      ∙ (ap (λ o. writes_at slots y o (first_writes (count_by can_be_undone t.writes - undone pass) t.writes)) (object_in-apart slots undone y g0 r.pre pre)
      ∙ ap (writes_at slots y g0) (first_writes-all (count_by can_be_undone t.writes - undone pass) t.writes (omega (arith, fresh))))))) in
      object_at-after_writes slots m.state.committed t.writes y ∙ sym is

  -- ---- Commit

  pub current-committed : m.undone pass ≡ 0 → (x : ℕ) → object_at (current (moment_committed m pass t)) x ≡ object_at (current m) x
  current-committed fresh x =
      let active = m.state.active in
      let next = remove_entry (is_at (nat_cmp pass)) active in
      let n = moment_committed m pass t in
      let slots = m.state.slots in
      let undone = m.undone in
      let r = removes pass t active i.passes a in
      let g0 = object_at m.state.committed x in
      let F : Option Object → List (ℕ × ActiveTransaction) → Option Object = λ o l. object_in slots undone x o l in
      let W : Option Object → Option Object = λ o. writes_at slots x o t.writes in
      let swap : F (W g0) r.pre ≡ W (F g0 r.pre) = ⊎_elim
      (λ h.
      let apart = each (λ e. AllByRecursion (λ w. w.id ≢ x) e.1.writes) r.pre (λ e k. each (λ w. w.id ≢ x) e.1.writes (λ v o q. exclusive_writes m.state i next pass t r e (Contains-append_left r.pre r.post e k) h.0 h.1 v o (q ∙ sym h.2))) in
      object_in-apart slots undone x (W g0) r.pre apart ∙ ap W (sym (object_in-apart slots undone x g0 r.pre apart)))
      (λ h. ap (λ o. F o r.pre) (writes_at-apart slots x g0 t.writes h) ∙ sym (writes_at-apart slots x (F g0 r.pre) t.writes h))
      (written_or x t.writes) in
      let before : object_at (current m) x ≡ F (W (F g0 r.pre)) r.post =
      current-object m x ∙ (ap (F g0) r.before ∙ (object_in-split slots undone x g0 r.pre (pass, t) r.post ∙ ap (λ ws. F (writes_at slots x (F g0 r.pre) ws) r.post) (first_writes-all (count_by can_be_undone t.writes - undone pass) t.writes (omega (arith, fresh))))) in
      current-object n x ∙ (ap (λ o. object_in slots undone x o next) (object_at-after_writes slots m.state.committed t.writes x)
      ∙ (ap (F (W g0)) r.after ∙ (fold-append (λ (o : Option Object) (e : ℕ × ActiveTransaction). writes_at slots x o (first_writes (count_by can_be_undone e.1.writes - undone e.0) e.1.writes)) (W g0) r.pre r.post
      ∙ (ap (λ o. F o r.post) swap ∙ sym before))))

  -- ---- the end of an abort

  -- where every write is undone, and the transaction didn't make the object
  pub current-aborted : count_by can_be_undone t.writes - m.undone pass ≡ 0 → (x : ℕ) → AllByRecursion (λ w. can_be_undone w ≡ false → w.id ≢ x) t.writes → object_at (current (moment_aborted m pass)) x ≡ object_at (current m) x
  current-aborted all_undone x unmade =
      let n = moment_aborted m pass in
      let slots = m.state.slots in
      let undone = m.undone in
      let r = removes pass t m.state.active i.passes a in
      let g0 = object_at m.state.committed x in
      let F : Option Object → List (ℕ × ActiveTransaction) → Option Object = λ o l. object_in slots undone x o l in
      let nothing : (o : Option Object) → writes_at slots x o (first_writes (count_by can_be_undone t.writes - undone pass) t.writes) ≡ o =
      λ o. ap (λ k. writes_at slots x o (first_writes k t.writes)) all_undone ∙ writes_at-apart slots x o (first_writes zero t.writes) (only_whole (λ w. w.id ≢ x) t.writes unmade) in
      let before : object_at (current m) x ≡ F (F g0 r.pre) r.post =
      current-object m x ∙ (ap (F g0) r.before ∙ (object_in-split slots undone x g0 r.pre (pass, t) r.post ∙ ap (λ o. F o r.post) (nothing (F g0 r.pre)))) in
      current-object n x ∙ (ap (F g0) r.after ∙ (fold-append (λ (o : Option Object) (e : ℕ × ActiveTransaction). writes_at slots x o (first_writes (count_by can_be_undone e.1.writes - undone e.0) e.1.writes)) g0 r.pre r.post ∙ sym before))

  -- what the transaction wrote, no other client writes: afterwards it is as committed
  pub current-written_alone : (w : Write) → Contains t.writes w → object_at (current (moment_aborted m pass)) w.id ≡ object_at m.state.committed w.id
  current-written_alone w k =
      let n = moment_aborted m pass in
      let slots = m.state.slots in
      let next = remove_entry (is_at (nat_cmp pass)) m.state.active in
      let r = removes pass t m.state.active i.passes a in
      current-object n w.id
      ∙ object_in-apart slots m.undone w.id (object_at m.state.committed w.id) next
      (each (λ e. AllByRecursion (λ v. v.id ≢ w.id) e.1.writes) next (λ e h. each (λ v. v.id ≢ w.id) e.1.writes (λ v o. exclusive_writes m.state i next pass t r e (subst (λ l. Contains l e) r.after h) w k v o)))

  -- ---- the undo of a write

  module _ (first later : List Write) (y : ℕ) (place : Place) (v : ℕ) (undoable : can_be_undone (record { id = y; place = place; value = v }) ≡ true)
      (split : t.writes ≡ first ++ record { id = y; place = place; value = v } ∷ later)
      (turn : count_by can_be_undone t.writes - m.undone pass ≡ count_by can_be_undone first + 1)
      (made_before : AllByRecursion (λ w. can_be_undone w ≡ false → w.id ≢ y) later)
      (alone : IsOnlyWriter m.state pass y) where
    pub undo-replaces : Replaces m.state.active (with_aborting pass m.state.active) pass t (record t { aborting = true })
    undo-replaces =
        let u : ActiveTransaction = record t { aborting = true } in
        subst (λ l. Replaces m.state.active l pass t u) (sym (ap (λ o. option_map_or (λ (t : ActiveTransaction). set_value (is_at (nat_cmp pass)) m.state.active (record t { aborting = true })) o m.state.active) a)) (replaces_marked pass t u m.state.active i.passes a)

    left-before : first_writes (count_by can_be_undone t.writes - m.undone pass) t.writes ≡ (first ++ record { id = y; place = place; value = v } ∷ []) ++ first_writes zero later
    left-before =
        let w : Write = record { id = y; place = place; value = v } in
        let one = ap {B = ℕ} (λ b. cond b 1 0) undoable in
        let push = sum_by_push (λ (w : Write). cond (can_be_undone w) 1 0) first w in
        let n : count_by can_be_undone t.writes - m.undone pass ≡ count_by can_be_undone (first ++ w ∷ []) = omega (arith, turn, push, one) in
        ap₂ (λ n ws. first_writes n ws) n (split ∙ sym (append_assoc first (w ∷ []) later)) ∙ zero-writes (first ++ w ∷ []) later

    left-after : first_writes (count_by can_be_undone t.writes - (m.undone pass + 1)) t.writes ≡ first ++ first_writes zero (record { id = y; place = place; value = v } ∷ later)
    left-after =
        let n : count_by can_be_undone t.writes - (m.undone pass + 1) ≡ count_by can_be_undone first = omega (arith, turn) in
        ap₂ (λ n ws. first_writes n ws) n split ∙ zero-writes first (record { id = y; place = place; value = v } ∷ later)

    -- an object after the undo
    after-undone : (x : ℕ) → object_at (current (next m (Undo pass))) x
        ≡ object_in m.state.slots m.undone x (writes_at m.state.slots x (writes_at m.state.slots x (object_in m.state.slots m.undone x (object_at m.state.committed x) undo-replaces.pre) first) (first_writes zero later)) undo-replaces.post
    after-undone x =
        let w : Write = record { id = y; place = place; value = v } in
        let n = next m (Undo pass) in
        let slots = m.state.slots in
        let undone = m.undone in
        let other = n.undone in
        let u : ActiveTransaction = record t { aborting = true } in
        let r = undo-replaces in
        let g0 = object_at m.state.committed x in
        let at = subst PassesAscend r.before i.passes in
        let same_at : (e : ℕ × ActiveTransaction) → e.0 ≢ pass → other e.0 ≡ undone e.0 = λ e d. cond-false (e.0 == pass) (undone e.0 + 1) (undone e.0) (ne_eqb e.0 pass d) in
        let one_more : other pass ≡ undone pass + 1 = cond-true (pass == pass) (undone pass + 1) (undone pass) (eq-eqb pass pass refl) in
        let pre_same = each_apart r.pre (λ e. other e.0 ≡ undone e.0) pass same_at (Ascend-before r.pre (pass, t) r.post at) in
        let post_same = each_apart r.post (λ e. other e.0 ≡ undone e.0) pass same_at (above-apart pass r.post (Ascend-after r.pre (pass, t) r.post at)) in
        let G : Option Object → Write → Option Object = λ o w. cond (w.id == x) (place_at slots x w.place w.value o) o in
        let o1 = object_in slots undone x g0 r.pre in
        let wholes = first_writes zero later in
        let skipped : first_writes zero (w ∷ later) ≡ wholes = cond-true (can_be_undone w) wholes (w ∷ wholes) undoable in
        current-object n x ∙ (ap (object_in slots other x g0) r.after ∙ (object_in-split slots other x g0 r.pre (pass, u) r.post
        ∙ (object_in-undone slots undone other x (writes_at slots x (object_in slots other x g0 r.pre) (first_writes (count_by can_be_undone u.writes - other pass) u.writes)) r.post post_same
        ∙ ap (λ o. object_in slots undone x o r.post) (ap₂ (λ o n. writes_at slots x o (first_writes (count_by can_be_undone t.writes - n) t.writes)) (object_in-undone slots undone other x g0 r.pre pre_same) one_more
        ∙ (ap (writes_at slots x o1) (left-after ∙ ap (λ ws. first ++ ws) skipped) ∙ fold-append G o1 first wholes)))))

    -- nothing comes to it after the write
    nothing-behind : (o : Option Object) → object_in m.state.slots m.undone y (writes_at m.state.slots y o (first_writes zero later)) undo-replaces.post ≡ o
    nothing-behind o =
        object_in-apart m.state.slots m.undone y (writes_at m.state.slots y o (first_writes zero later)) undo-replaces.post (alone-post m.state i pass y t (record t { aborting = true }) (with_aborting pass m.state.active) alone undo-replaces)
        ∙ writes_at-apart m.state.slots y o (first_writes zero later) (only_whole (λ w. w.id ≢ y) later made_before)

    -- the object with the write, from the object without it; the others stay
    pub current-undone : (x : ℕ) → object_at (current m) x ≡ cond (y == x) (place_at m.state.slots x place v (object_at (current (next m (Undo pass))) x)) (object_at (current (next m (Undo pass))) x)
    current-undone x =
        let w : Write = record { id = y; place = place; value = v } in
        let n = next m (Undo pass) in
        let slots = m.state.slots in
        let undone = m.undone in
        let r = undo-replaces in
        let g0 = object_at m.state.committed x in
        let G : Option Object → Write → Option Object = λ o w. cond (w.id == x) (place_at slots x w.place w.value o) o in
        let P : Option Object → Option Object = place_at slots x place v in
        let o1 = object_in slots undone x g0 r.pre in
        let O = writes_at slots x o1 first in
        let wholes = first_writes zero later in
        let F : Option Object → Option Object = λ o. object_in slots undone x (writes_at slots x o wholes) r.post in
        let before : object_at (current m) x ≡ F (cond (y == x) (P O) O) =
        current-object m x ∙ (ap (object_in slots undone x g0) r.before ∙ (object_in-split slots undone x g0 r.pre (pass, t) r.post
        ∙ ap (λ o. object_in slots undone x o r.post) (ap (writes_at slots x o1) left-before ∙ (fold-append G o1 (first ++ w ∷ []) wholes ∙ ap (λ p. writes_at slots x p wholes) (fold-append G o1 first (w ∷ [])))))) in
        let after : object_at (current n) x ≡ F O = after-undone x in
        let N = object_at (current n) x in
        ⊎_elim
        (λ (q : y ≡ x).
        let quiet : (o : Option Object) → F o ≡ o = λ o. subst (λ z. object_in slots undone z (writes_at slots z o wholes) r.post ≡ o) q (nothing-behind o) in
        before ∙ (quiet (cond (y == x) (P O) O) ∙ (cond-true (y == x) (P O) O (eq-eqb y x q) ∙ (ap P (sym (after ∙ quiet O)) ∙ sym (cond-true (y == x) (P N) N (eq-eqb y x q))))))
        (λ d. before ∙ (ap F (cond-false (y == x) (P O) O (ne_eqb y x d)) ∙ (sym after ∙ sym (cond-false (y == x) (P N) N (ne_eqb y x d)))))
        (cases_eq y x)

    -- the object without the write is as the transaction saw it before the write
    pub undone-object : object_at (current (next m (Undo pass))) y ≡ object_at (applied m.state.slots m.state.committed first) y
    undone-object =
        let slots = m.state.slots in
        let r = undo-replaces in
        let g0 = object_at m.state.committed y in
        let was : (e : ℕ × ActiveTransaction) → Contains r.pre e → Contains m.state.active e = λ e k. subst (λ l. Contains l e) (sym r.before) (Contains-append_left r.pre ((pass, t) ∷ r.post) e k) in
        let others : (e : ℕ × ActiveTransaction) → Contains r.pre e → e.0 ≢ pass = λ e k. All-contains (λ (e : ℕ × ActiveTransaction). e.0 ≢ pass) r.pre e (All-from_recursion (λ (e : ℕ × ActiveTransaction). e.0 ≢ pass) r.pre (Ascend-before r.pre (pass, t) r.post (subst PassesAscend r.before i.passes))) k in
        let pre = each (λ e. AllByRecursion (λ w. w.id ≢ y) e.1.writes) r.pre (λ e k. alone e (was e k) (others e k)) in
        after-undone y ∙ (nothing-behind (writes_at slots y (object_in slots m.undone y g0 r.pre) first)
        ∙ (ap (λ o. writes_at slots y o first) (object_in-apart slots m.undone y g0 r.pre pre) ∙ sym (object_at-after_writes slots m.state.committed first y)))

-- ---- a deletion

pub current-deleted : (m : Moment) (id x : ℕ) → x ≢ id → object_at (current (next m (Delete id))) x ≡ object_at (current m) x
current-deleted m id x n = current-object (next m (Delete id)) x ∙ (ap (λ o. object_in m.state.slots m.undone x o m.state.active) (without_other m.state.committed id x n) ∙ sym (current-object m x))
