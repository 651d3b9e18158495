-- What the records of a log tell of transactions that haven't ended stays what the reference machine tells, event by event.
use Rattle.std.proofs.Common.{◌≡◌, ◌≢◌, ℕ, ◌+◌, ◌-◌, ◌<◌, List, [], ◌∷◌, ◌++◌, Bool, true, false, refl, sym, ap, ap₂, ◌∙◌, subst, arith, take, length, length-append, Option, Some, None, ◌⊎◌, inl, inr, ⊎_elim, eq-eqb, ne_eqb}
use Rattle.std.specs.Prelude.{count_by, Contains, ◌==◌, if◌then◌else◌, is_some, unwrap_or}
use Rattle.std.specs.List.{last_or}
use Rattle.std.specs.Option.{option_map_or}
use Rattle.std.specs.Map.{set_value, remove_entry}
use Rattle.std.specs.Ordering.{nat_cmp}
use Rattle.std.specs.BTreeMap.{is_at, insert_entry}
use Rattle.std.proofs.lemmas.Bool.{cond-true, cond-false, or_left}
use Rattle.std.proofs.lemmas.List.{take_at}
use Rattle.plain_model.specs.declared.write.Place.{Place}
use Rattle.plain_model.specs.declared.write.Place.TheVariants.{Slot, Payload, Whole}
use Rattle.plain_model.specs.declared.write.Write.{Write}
use Rattle.plain_model.specs.declared.calls.Call.{Call as TransactionCall}
use Rattle.plain_model.specs.declared.calls.Call.TheVariants.{Begin as BeginCall, Read, Make as MakeCall, Store as StoreCall, GetPay, SetPay, Release, Commit as CommitCall, Abort}
use Rattle.plain_model.specs.declared.calls.Reply.{Reply}
use Rattle.plain_model.specs.declared.calls.Reply.TheVariants.{Done, Full, Aborting}
use Rattle.plain_model.specs.declared.calls.Entry.{Entry}
use Rattle.plain_model.specs.declared.calls.Entry.TheVariants.{Call, Delete, Hidden, Undo as UndoEntry, TurnBusy, Crash}
use Rattle.plain_model.specs.Graphs.{applied, without}
use Rattle.plain_model.specs.ActiveTransaction.{ActiveTransaction}
use Rattle.plain_model.specs.Machine.{State, transaction_of, refusal_of, refusal_in, refusal_out, register_id, free_id, is_among, own_graph, step, success, new_transaction, if_aborting, blocks_owning}
use Rattle.plain_model.specs.History.{Moment, can_be_undone, undoable, next, IsAllowed, IsAllowedReply, IsFailedCommit, IsUnheld, holds}
use Rattle.plain_laws.specs.Sound.{PassesAscend, IsSoundState}
use Rattle.plain_laws.proofs.Entries.{ascend-insert}
use Rattle.plain_laws.proofs.Legal.{or_else_none}
use Rattle.cell_model.specs.Cells.{Cell, cell_at, pointer_at}
use Rattle.cell_model.specs.Records.{Record, Begin, Make, Store, Pay, Commit, Undo, UndoPay, AbortEnd, Weaken, Strengthen, Flip, CutDead, Free}
use Rattle.store_model.specs.Core.{Core}
use Rattle.store_model.specs.Sound.{IsSound}
use Rattle.store_model.specs.Steps.{Replaces, undone_by, read_by, get_by, release_by, set_by, store_by, make_by, moment_with, moment_begun, moment_committed, moment_aborted}
use Rattle.store_model.proofs.Lists.{each}
use Rattle.store_model.proofs.StepLaws.{replaces}
use Rattle.store_model.proofs.ActiveLaws.{active-at, owner}
use Rattle.store_model.proofs.EndLaws.{removes, transaction-active, still_active, other_pass}
use Rattle.store_model.proofs.InsertLaws.{Inserts, inserts, each_apart}
use Rattle.store_model.proofs.SeenLaws.{Ascend-after}
use Rattle.store_model.proofs.UndoLaws.{replaces_marked, Ascend-before, above-apart}
use Rattle.store_model.proofs.MomentSound.{commit-earlier, delete-earlier}
use Rattle.store_model.proofs.CallLaws.{call-granted, call-begun, call-refused, call-undone, call-begun_undone}
use Rattle.store_model.proofs.GrantLaws.{not_aborting, served_store, served, refused-undone}
use Rattle.store_model.proofs.CallSound.{old-slot, old-payload}
use Rattle.restart_laws.specs.Unended.{Change, Unended, just_begun, unended_at, changed_at, with_change, without_change, unended_after, IsRunning, IsLastChange, IsAllUndone, FitsUnended}
use Rattle.restart_laws.specs.Restored.{undo_of}
use Rattle.restart_laws.specs.Told.{change_of, changes_of, undos_left, told_of, told}
use Rattle.restart_laws.specs.Restartable.{StaysTold}
use Rattle.restart_laws.specs.Logged.{LogsIn, LogsCall, IsOfCollector, Logs}
use Rattle.restart_laws.proofs.ChangeLists.{HasNth, nth-undoable, take-nth, changes-same}
use Rattle.restart_laws.proofs.EntryLists.{map-same}
use Rattle.restart_laws.proofs.ToldLists.{told_at, told-kept, told-changed, told-removed, told-inserted, told-none, told-at, one-change, no-change}

-- two moments that tell the same are as good
is_told-same : (m n o : Moment) (logged : Option Record) → told o ≡ told n → StaysTold m n logged → StaysTold m o logged
is_told-same m n o logged e h = record { tells = e ∙ h.tells; fits = h.fits }

is_told-of : (m n : Moment) (a b : Option Record) → a ≡ b → StaysTold m n b → StaysTold m n a
is_told-of m n a b e h = subst (λ r. StaysTold m n r) (sym e) h

nothing-told : (m n : Moment) → told n ≡ told m → StaysTold m n None
nothing-told m n e = record { tells = e; fits = tt }

-- ---- calls

module _ (m : Moment) (s : IsSoundState m.state) (pass : ℕ) (t : ActiveTransaction) (a : transaction_of m.state pass ≡ Some t) where
  granted-told : (call : TransactionCall) (reply : Reply) → call ≢ BeginCall → refusal_in m.state pass t call ≡ None → told (next m (Call pass call reply)) ≡ told (record m { state = (success m.state pass t call).1 })
  granted-told call reply n g = ap₂ (λ (x : Reply × State) (u : ℕ → ℕ). told (record m { state = x.1; undone = u })) (call-granted m.state pass t call a g) (call-undone m.undone pass call reply n)

  with_told : (u : ActiveTransaction) → Replaces m.state.active (moment_with m pass u).state.active pass t u
  with_told u = replaces pass t u m.state.active s.passes a

  -- a call that writes nothing
  unwritten-told : (u : ActiveTransaction) → u.writes ≡ t.writes → u.aborting ≡ t.aborting → told (moment_with m pass u) ≡ told m
  unwritten-told u w b =
      let r = with_told u in
      told-kept m (moment_with m pass u) pass t u r (each (λ e. told_of (moment_with m pass u) e ≡ told_of m e) r.pre (λ e k. refl)) (each (λ e. told_of (moment_with m pass u) e ≡ told_of m e) r.post (λ e k. refl))
      (ap₂ (λ ws (b : Bool). (let x : Unended = record { changes = take (count_by can_be_undone ws - m.undone pass) (changes_of m.state.slots m.state.committed ws); aborting = b } in x)) w b)

  -- a call that makes an object
  made-told : (u : ActiveTransaction) (w : Write) → u.writes ≡ t.writes ++ w ∷ [] → can_be_undone w ≡ false → u.aborting ≡ t.aborting → (n : Moment) → n ≡ moment_with m pass u → told n ≡ told m
  made-told u w e c b n is =
      let r = with_told u in
      ap told is
      ∙ told-kept m (moment_with m pass u) pass t u r (each (λ e. told_of (moment_with m pass u) e ≡ told_of m e) r.pre (λ e k. refl)) (each (λ e. told_of (moment_with m pass u) e ≡ told_of m e) r.post (λ e k. refl))
      (ap₂ (λ (l : List Change) (b : Bool). (let x : Unended = record { changes = l; aborting = b } in x))
      (ap (λ ws. take (count_by can_be_undone ws - m.undone pass) (changes_of m.state.slots m.state.committed ws)) e ∙ no-change m.state.slots m.state.committed t.writes (m.undone pass) w c) b)

  -- a call that writes
  written-told : (u : ActiveTransaction) (w : Write) → u.writes ≡ t.writes ++ w ∷ [] → can_be_undone w ≡ true → m.undone pass ≡ 0 → u.aborting ≡ t.aborting
      → told (moment_with m pass u) ≡ changed_at (told m) pass (with_change (change_of (applied m.state.slots m.state.committed t.writes) w))
  written-told u w e c z b =
      let r = with_told u in
      let ch = change_of (applied m.state.slots m.state.committed t.writes) w in
      told-changed m (moment_with m pass u) pass t u r (each (λ e. told_of (moment_with m pass u) e ≡ told_of m e) r.pre (λ e k. refl)) (each (λ e. told_of (moment_with m pass u) e ≡ told_of m e) r.post (λ e k. refl)) s.passes
      (with_change ch)
      (ap₂ (λ (l : List Change) (b : Bool). (let x : Unended = record { changes = l; aborting = b } in x))
      (ap (λ ws. take (count_by can_be_undone ws - m.undone pass) (changes_of m.state.slots m.state.committed ws)) e ∙ one-change m.state.slots m.state.committed t.writes (m.undone pass) w z c) b)

  -- the client's transaction runs
  running-told : t.aborting ≡ false → IsRunning (unended_at (told m) pass)
  running-told q = subst IsRunning (sym (told-at m s.passes pass t a)) q

  -- a commit
  committed-told : told (moment_committed m pass t) ≡ remove_entry (is_at (nat_cmp pass)) (told m)
  committed-told =
      let n = moment_committed m pass t in
      let r = removes pass t m.state.active s.passes a in
      told-removed m n pass t r (each (λ e. told_of n e ≡ told_of m e) (r.pre ++ r.post) (λ e k.
      let here = subst (λ l. Contains l e) (sym r.after) k in
      let was = still_active m.state.active n.state.active pass t r e here in
      let apart = other_pass m.state.active n.state.active pass t r e here in
      ap (λ l. (let x : Unended = record { changes = take (undos_left m e) l; aborting = e.1.aborting } in x))
      (changes-same m.state.slots m.state.committed (own_graph m.state t) e.1.writes (λ w o earlier. commit-earlier m.state s e.0 e.1 (active-at m.state.active s.passes e was) pass t a apart w o earlier))))

  -- the end of an abort
  aborted-told : told (moment_aborted m pass) ≡ remove_entry (is_at (nat_cmp pass)) (told m)
  aborted-told =
      let n = moment_aborted m pass in
      let r = removes pass t m.state.active s.passes a in
      told-removed m n pass t r (each (λ e. told_of n e ≡ told_of m e) (r.pre ++ r.post) (λ e k. refl))

-- a client begins
begun-told : (m : Moment) → IsSoundState m.state → (pass : ℕ) → transaction_of m.state pass ≡ None → StaysTold m (moment_begun m pass) (Some (Begin pass))
begun-told m s pass a =
    let n = moment_begun m pass in
    let r : Inserts m.state.active n.state.active pass new_transaction = inserts pass new_transaction m.state.active s.passes a in
    let same : (e : ℕ × ActiveTransaction) → e.0 ≢ pass → told_of n e ≡ told_of m e = λ e d. ap (λ k. (let x : Unended = record { changes = take (count_by can_be_undone e.1.writes - k) (changes_of m.state.slots m.state.committed e.1.writes); aborting = e.1.aborting } in x)) (cond-false (e.0 == pass) 0 (m.undone e.0) (ne_eqb e.0 pass d)) in
    let none : told_of n (pass, new_transaction) ≡ just_begun = ap (λ l. (let x : Unended = record { changes = l; aborting = false } in x)) (nothing-left (n.undone pass)) in
    record {
      tells = told-inserted m n pass new_transaction r (ascend-insert pass new_transaction m.state.active s.passes) (each_apart r.pre (λ e. told_of n e ≡ told_of m e) pass same r.pre_others) (each_apart r.post (λ e. told_of n e ≡ told_of m e) pass same r.post_others)
          ∙ ap (λ u. insert_entry nat_cmp (told m) pass u) none;
      fits = told-none m n pass new_transaction r;
    }
  where
    nothing-left : (k : ℕ) → take {A = Change} (0 - k) [] ≡ []
    nothing-left k = let zero_left : 0 - k ≡ 0 = omega arith in ap (λ n. take {A = Change} n []) zero_left

-- ---- the undo of a write

last-push : {A : Type 0} (o : Option A) (xs : List A) (x : A) → last_or o (xs ++ x ∷ []) ≡ Some x
last-push o [] x = refl
last-push o (y ∷ ys) x = last-push (Some y) ys x

-- the list without its last item
shorter : (front : List Change) (x : Change) → take (length (front ++ x ∷ []) - 1) (front ++ x ∷ []) ≡ front
shorter front x = let len = length-append front (x ∷ []) in take_at front (x ∷ []) (length (front ++ x ∷ []) - 1) (omega (arith, len))

-- the records of an undo tell that the last change is undone, and fit where it is that change
undo-changed : (us : List (ℕ × Unended)) (cells : List Cell) (pass : ℕ) (id : ℕ) (p : Place) (old new : ℕ) → unended_after us (undo_of cells pass (record { id = id; place = p; old = old; new = new })) ≡ changed_at us pass without_change
undo-changed us cells pass id (Slot slot) old new = refl
undo-changed us cells pass id Payload old new = refl
undo-changed us cells pass id Whole old new = refl

undo-fitting : (us : List (ℕ × Unended)) (cells : List Cell) (pass : ℕ) (id : ℕ) (p : Place) (old new : ℕ) → can_be_undone (record { id = id; place = p; value = new }) ≡ true → IsLastChange (unended_at us pass) (record { id = id; place = p; old = old; new = new })
    → FitsUnended us (undo_of cells pass (record { id = id; place = p; old = old; new = new }))
undo-fitting us cells pass id (Slot slot) old new u h = h
undo-fitting us cells pass id Payload old new u h = h
undo-fitting us cells pass id Whole old new u h = cc

undoable-some : (o : Option ActiveTransaction) (k : ℕ) → k < option_map_or (λ (t : ActiveTransaction). count_by can_be_undone t.writes) o 0 → (t : ActiveTransaction) × (o ≡ Some t) × (k < count_by can_be_undone t.writes)
undoable-some (Some t) k l = (t, refl, l)
undoable-some None k l = absurd (omega (arith, l))

-- what is the last change of a client that isn't undone
pub record IsNext (m : Moment) (pass : ℕ) (t : ActiveTransaction) : Type 0 where
  pub nth : HasNth t.writes (undos_left m (pass, t))
  pub last : last_or None (told_of m (pass, t)).changes ≡ Some (change_of (applied m.state.slots m.state.committed nth.earlier) nth.write)

pub next-change : (m : Moment) (pass : ℕ) (t : ActiveTransaction) → m.undone pass < count_by can_be_undone t.writes → IsNext m pass t
next-change m pass t l =
    let n = undos_left m (pass, t) in
    let h = nth-undoable t.writes n (omega (arith, l)) (omega (arith, l)) in
    let all = changes_of m.state.slots m.state.committed t.writes in
    record { nth = h; last = ap (last_or None) (take-nth m.state.slots m.state.committed t.writes n h) ∙ last-push None (take (n - 1) all) (change_of (applied m.state.slots m.state.committed h.earlier) h.write) }

some-same : {A : Type 0} (x y : A) → Some x ≡ Some y → x ≡ y
some-same x y e = ap (λ o. unwrap_or o x) e

undone-told : (c : Core) → IsSoundState c.moment.state → (pass : ℕ) (ch : Change) → c.moment.undone pass < undoable c.moment.state pass → IsLastChange (unended_at (told c.moment) pass) ch → StaysTold c.moment (next c.moment (UndoEntry pass)) (Some (undo_of c.cells pass ch))
undone-told c s pass ch l is =
    let m = c.moment in
    let found = undoable-some (transaction_of m.state pass) (m.undone pass) l in
    let t = found.0 in
    let a = found.1 in
    let n = next m (UndoEntry pass) in
    let k = undos_left m (pass, t) in
    let q = next-change m pass t found.2 in
    let x = change_of (applied m.state.slots m.state.committed q.nth.earlier) q.nth.write in
    let at = told-at m s.passes pass t a in
    let is_last : last_or None (told_of m (pass, t)).changes ≡ Some ch = subst (λ o. IsLastChange o ch) at is in
    let same : x ≡ ch = some-same x ch (sym q.last ∙ is_last) in
    let last_x : IsLastChange (unended_at (told m) pass) x = subst (λ y. IsLastChange (unended_at (told m) pass) y) (sym same) is in
    let u = undone_by t in
    let r : Replaces m.state.active n.state.active pass t u = subst (λ l. Replaces m.state.active l pass t u) (sym (ap (λ o. option_map_or (λ (t : ActiveTransaction). set_value (is_at (nat_cmp pass)) m.state.active (undone_by t)) o m.state.active) a)) (replaces_marked pass t u m.state.active s.passes a) in
    let up = subst PassesAscend r.before s.passes in
    let P : ℕ × ActiveTransaction → Type 0 = λ e. told_of n e ≡ told_of m e in
    let others : (e : ℕ × ActiveTransaction) → e.0 ≢ pass → told_of n e ≡ told_of m e = λ e d. ap (λ k. (let x : Unended = record { changes = take (count_by can_be_undone e.1.writes - k) (changes_of m.state.slots m.state.committed e.1.writes); aborting = e.1.aborting } in x)) (cond-false (e.0 == pass) (m.undone e.0 + 1) (m.undone e.0) (ne_eqb e.0 pass d)) in
    let all = changes_of m.state.slots m.state.committed t.writes in
    let one_more : n.undone pass ≡ m.undone pass + 1 = cond-true (pass == pass) (m.undone pass + 1) (m.undone pass) (eq-eqb pass pass refl) in
    let left : take (undos_left n (pass, u)) all ≡ take (length (take k all) - 1) (take k all) =
    ap (λ j. take j all) (omega (arith, one_more)) ∙ (sym (shorter (take (k - 1) all) x) ∙ ap (λ l. take (length l - 1) l) (sym (take-nth m.state.slots m.state.committed t.writes k q.nth))) in
    let changed = told-changed m n pass t u r (each_apart r.pre P pass others (Ascend-before r.pre (pass, t) r.post up)) (each_apart r.post P pass others (above-apart pass r.post (Ascend-after r.pre (pass, t) r.post up))) s.passes without_change
    (ap (λ l. (let x : Unended = record { changes = l; aborting = true } in x)) left) in
    is_told-of m n (Some (undo_of c.cells pass ch)) (Some (undo_of c.cells pass x)) (ap (λ y. Some (undo_of c.cells pass y)) (sym same)) (record {
      tells = changed ∙ sym (undo-changed (told m) c.cells pass x.id x.place x.old x.new);
      fits = undo-fitting (told m) c.cells pass x.id x.place x.old x.new q.nth.undoable last_x;
    })

-- ---- a deletion

deleted-told : (m : Moment) → IsSoundState m.state → (id : ℕ) → IsUnheld m.state id → told (next m (Delete id)) ≡ told m
deleted-told m s id unheld =
    let n = next m (Delete id) in
    map-same (told_at n) (told_at m) m.state.active (each (λ e. told_at n e ≡ told_at m e) m.state.active (λ e k.
    ap (λ l. (let x : Unended = record { changes = take (undos_left m e) l; aborting = e.1.aborting } in (e.0, x)))
    (changes-same m.state.slots m.state.committed (without m.state.committed id) e.1.writes (λ w o earlier.
    let held : holds w.id e.1 ≡ true = or_left (is_among w.id e.1.owned) (is_among w.id e.1.shared) (owner m.state s e k w o) in
    delete-earlier m.state.slots m.state.committed id w.id (λ q. (let no : true ≡ false = sym held ∙ subst (λ y. holds y e.1 ≡ false) (sym q) (unheld e.0 e.1 (active-at m.state.active s.passes e k)) in cc)) earlier))))

-- ---- calls, one by one

module _ (c : Core) (s : IsSound c) (pass : ℕ) (t : ActiveTransaction) (a : transaction_of c.moment.state pass ≡ Some t) where
  fresh : t.aborting ≡ false → c.moment.undone pass ≡ 0
  fresh q = s.none_undone (pass, t) (transaction-active c.moment.state s.state pass t a) q

  granted-call : (call : TransactionCall) (reply : Reply) (logged : Option Record) → refusal_in c.moment.state pass t call ≡ None → (call ≡ Abort → c.moment.undone pass ≡ undoable c.moment.state pass) → LogsIn c.moment.state c.cells pass t call logged → StaysTold c.moment (next c.moment (Call pass call reply)) logged
  granted-call BeginCall reply logged g all h = absurd (cc)
  granted-call (Read r slot into) reply logged g all h =
      is_told-of c.moment _ logged None h (nothing-told c.moment (next c.moment (Call pass (Read r slot into) reply)) (granted-told c.moment s.state pass t a (Read r slot into) reply (λ e. cc) g
      ∙ unwritten-told c.moment s.state pass t a (read_by c.moment.state t (register_id t r) slot into) refl refl))
  granted-call (GetPay r) reply logged g all h =
      is_told-of c.moment _ logged None h (nothing-told c.moment (next c.moment (Call pass (GetPay r) reply)) (granted-told c.moment s.state pass t a (GetPay r) reply (λ e. cc) g
      ∙ unwritten-told c.moment s.state pass t a (get_by t (register_id t r)) refl refl))
  granted-call (Release r) reply logged g all h =
      is_told-of c.moment _ logged None h (nothing-told c.moment (next c.moment (Call pass (Release r) reply)) (granted-told c.moment s.state pass t a (Release r) reply (λ e. cc) g
      ∙ unwritten-told c.moment s.state pass t a (release_by t (register_id t r)) refl refl))
  granted-call (MakeCall into) reply logged g all h =
      let id = unwrap_or (free_id c.moment.state) 0 in
      let q = or_else_none (if_aborting t) (if is_some (free_id c.moment.state) then None else Some Full) g in
      let n = next c.moment (Call pass (MakeCall into) reply) in
      is_told-of c.moment n logged (Some (Make pass id)) h (record {
        tells = granted-told c.moment s.state pass t a (MakeCall into) reply (λ e. cc) g ∙ made-told c.moment s.state pass t a (make_by t into id) (record { id = id; place = Whole; value = 0 }) refl refl refl (moment_with c.moment pass (make_by t into id)) refl;
        fits = running-told c.moment s.state pass t a (not_aborting t q.0);
      })
  granted-call (StoreCall r slot source) reply logged g all h =
      let y = register_id t r in
      let target = option_map_or (register_id t) source 0 in
      let q = (served_store c.moment.state t r source (blocks_owning c.moment.state pass y) g).0 in
      let n = next c.moment (Call pass (StoreCall r slot source) reply) in
      let old = (pointer_at c.cells y slot).target in
      is_told-of c.moment n logged (Some (Store pass y slot old h.0 target h.1 h.2)) h.3 (record {
        tells = granted-told c.moment s.state pass t a (StoreCall r slot source) reply (λ e. cc) g
            ∙ (written-told c.moment s.state pass t a (store_by t y slot target) (record { id = y; place = Slot slot; value = target }) refl refl (fresh q.running) refl
            ∙ ap (λ v. changed_at (told c.moment) pass (with_change (record { id = y; place = Slot slot; old = v; new = target }))) (old-slot c s pass t a r slot source g));
        fits = running-told c.moment s.state pass t a q.running;
      })
  granted-call (SetPay r value) reply logged g all h =
      let y = register_id t r in
      let q = served c.moment.state t r (blocks_owning c.moment.state pass y) g in
      let n = next c.moment (Call pass (SetPay r value) reply) in
      is_told-of c.moment n logged (Some (Pay pass y (cell_at c.cells y).payload value)) h (record {
        tells = granted-told c.moment s.state pass t a (SetPay r value) reply (λ e. cc) g
            ∙ (written-told c.moment s.state pass t a (set_by t y value) (record { id = y; place = Payload; value = value }) refl refl (fresh q.running) refl
            ∙ ap (λ v. changed_at (told c.moment) pass (with_change (record { id = y; place = Payload; old = v; new = value }))) (old-payload c s pass t a r value g));
        fits = running-told c.moment s.state pass t a q.running;
      })
  granted-call CommitCall reply logged g all h =
      let n = next c.moment (Call pass CommitCall reply) in
      is_told-of c.moment n logged (Some (Commit pass)) h (record {
        tells = granted-told c.moment s.state pass t a CommitCall reply (λ e. cc) g ∙ committed-told c.moment s.state pass t a;
        fits = running-told c.moment s.state pass t a (not_aborting t g);
      })
  granted-call Abort reply logged g all h =
      let n = next c.moment (Call pass Abort reply) in
      let done : c.moment.undone pass ≡ count_by can_be_undone t.writes = all refl ∙ ap (λ o. option_map_or (λ (t : ActiveTransaction). count_by can_be_undone t.writes) o 0) a in
      let nothing : undos_left c.moment (pass, t) ≡ 0 = omega (arith, done) in
      let none : (told_of c.moment (pass, t)).changes ≡ [] = ap (λ k. take k (changes_of c.moment.state.slots c.moment.state.committed t.writes)) nothing in
      is_told-of c.moment n logged (Some (AbortEnd pass)) h (record {
        tells = granted-told c.moment s.state pass t a Abort reply (λ e. cc) g ∙ aborted-told c.moment s.state pass t a;
        fits = subst IsAllUndone (sym (told-at c.moment s.state.passes pass t a)) none;
      })

refused-told : (m : Moment) (pass : ℕ) (call : TransactionCall) (reply refusal : Reply) → refusal_of m.state pass call ≡ Some refusal → (reply ≡ refusal) → told (next m (Call pass call reply)) ≡ told m
refused-told m pass call reply refusal r e = ap₂ (λ (x : State) (u : ℕ → ℕ). told (record m { state = x; undone = u })) (ap (λ (x : Reply × State). x.1) (call-refused m.state pass call refusal r)) (refused-undone m.state m.undone pass call reply (r ∙ ap Some (sym e)))

-- a call as the history may have it
call-told : (c : Core) → IsSound c → (pass : ℕ) (call : TransactionCall) (reply : Reply) (logged : Option Record) → IsAllowedReply c.moment pass call reply → (o : Option Reply) → refusal_of c.moment.state pass call ≡ o → (p : Option ActiveTransaction) → transaction_of c.moment.state pass ≡ p
    → LogsCall c.moment.state c.cells pass call o p logged → StaysTold c.moment (next c.moment (Call pass call reply)) logged
call-told c s pass call reply logged a (Some refusal) r p f h =
    let is : reply ≡ refusal = ⊎_elim
    (λ e. e ∙ ap (λ (x : Reply × State). x.0) (call-refused c.moment.state pass call refusal r))
    (λ q. absurd (commit-not_refused c.moment.state pass call refusal r q))
    a.machine in
    is_told-of c.moment _ logged None h (nothing-told c.moment (next c.moment (Call pass call reply)) (refused-told c.moment pass call reply refusal r is))
  where
    refusal-in : (s : State) (pass : ℕ) (p : Option ActiveTransaction) (refusal : Reply) → option_map_or (λ t. refusal_in s pass t CommitCall) p (refusal_out CommitCall) ≡ Some refusal → refusal ≡ Done → ⊥
    refusal-in s pass None refusal e d = cc
    refusal-in s pass (Some t) refusal e d = by t.aborting e
      where
        by : (b : Bool) → (if b then Some Aborting else None) ≡ Some refusal → ⊥
        by true e = cc
        by false e = cc

    commit-not_refused : (s : State) (pass : ℕ) (call : TransactionCall) (refusal : Reply) → refusal_of s pass call ≡ Some refusal → {reply : Reply} → IsFailedCommit s pass call reply → ⊥
    commit-not_refused s pass call refusal r q =
        let r2 : refusal_of s pass CommitCall ≡ Some refusal = subst (λ k. refusal_of s pass k ≡ Some refusal) q.0 r in
        let done : refusal ≡ Done = sym (ap (λ (x : Reply × State). x.0) (call-refused s pass call refusal r)) ∙ q.2 in
        refusal-in s pass (transaction_of s pass) refusal r2 done
call-told c s pass call reply logged a None r None f h =
    begin call reply h (sym (ap (λ o. option_map_or (λ t. refusal_in c.moment.state pass t call) o (refusal_out call)) f) ∙ r) a.machine
  where
    begin : (call : TransactionCall) (reply : Reply) → logged ≡ Some (Begin pass) → refusal_out call ≡ None → (reply ≡ (step c.moment.state pass call).0) ⊎ IsFailedCommit c.moment.state pass call reply → StaysTold c.moment (next c.moment (Call pass call reply)) logged
    begin BeginCall reply h e o =
        let is : reply ≡ Done = ⊎_elim (λ q. q ∙ ap (λ (x : Reply × State). x.0) (call-begun c.moment.state pass f)) (λ q. let no : BeginCall ≡ CommitCall = q.0 in absurd (cc)) o in
        let same : told (next c.moment (Call pass BeginCall reply)) ≡ told (moment_begun c.moment pass) =
        ap (λ k. told (next c.moment (Call pass BeginCall k))) is
        ∙ ap₂ (λ (x : Reply × State) (u : ℕ → ℕ). told (record c.moment { state = x.1; undone = u })) (call-begun c.moment.state pass f) (call-begun_undone c.moment.undone pass) in
        is_told-of c.moment _ logged (Some (Begin pass)) h (is_told-same c.moment (moment_begun c.moment pass) (next c.moment (Call pass BeginCall reply)) (Some (Begin pass)) same (begun-told c.moment s.state pass f))
    begin (Read x slot into) reply h e o = cc
    begin (MakeCall into) reply h e o = cc
    begin (StoreCall x slot source) reply h e o = cc
    begin (GetPay x) reply h e o = cc
    begin (SetPay x v) reply h e o = cc
    begin (Release x) reply h e o = cc
    begin CommitCall reply h e o = cc
    begin Abort reply h e o = cc
call-told c s pass call reply logged a None r (Some t) f h =
    let g : refusal_in c.moment.state pass t call ≡ None = sym (ap (λ o. option_map_or (λ t. refusal_in c.moment.state pass t call) o (refusal_out call)) f) ∙ r in
    granted-call c s pass t f call reply logged g (λ e. a.undone e (aborted call reply e g a.machine)) h
  where
    aborted : (call : TransactionCall) (reply : Reply) → call ≡ Abort → refusal_in c.moment.state pass t call ≡ None → (reply ≡ (step c.moment.state pass call).0) ⊎ IsFailedCommit c.moment.state pass call reply → reply ≡ Done
    aborted call reply e g (inl q) = q ∙ (ap (λ (x : Reply × State). x.0) (call-granted c.moment.state pass t call f g) ∙ ap (λ k. (success c.moment.state pass t k).0) e)
    aborted call reply e g (inr q) = let no : Abort ≡ CommitCall = sym e ∙ q.0 in absurd (cc)

collector-told : (m : Moment) (logged : Option Record) → IsOfCollector logged → StaysTold m m logged
collector-told m None h = nothing-told m m refl
collector-told m (Some (Weaken id slot target)) h = record { tells = refl; fits = tt }
collector-told m (Some (Strengthen id slot target)) h = record { tells = refl; fits = tt }
collector-told m (Some (Flip id)) h = record { tells = refl; fits = tt }
collector-told m (Some (CutDead id slot target was_strong)) h = record { tells = refl; fits = tt }
collector-told m (Some (Free id)) h = absurd h
collector-told m (Some (Begin pass)) h = absurd h
collector-told m (Some (Make pass id)) h = absurd h
collector-told m (Some (Store pass id slot a b x y z)) h = absurd h
collector-told m (Some (Pay pass id a b)) h = absurd h
collector-told m (Some (Commit pass)) h = absurd h
collector-told m (Some (Undo pass id slot a b x y)) h = absurd h
collector-told m (Some (UndoPay pass id a b)) h = absurd h
collector-told m (Some (AbortEnd pass)) h = absurd h

-- each event of a sound journal
pub event-told : (c : Core) → IsSound c → (e : Entry) (logged : Option Record) → IsAllowed c.moment e → Logs c e logged → StaysTold c.moment (next c.moment e) logged
event-told c s (Call pass call reply) logged a h = call-told c s pass call reply logged a.1 (refusal_of c.moment.state pass call) refl (transaction_of c.moment.state pass) refl h
event-told c s (Delete id) logged a h = is_told-of c.moment _ logged (Some (Free id)) h (record { tells = deleted-told c.moment s.state id a.3; fits = tt })
event-told c s Hidden logged a h = collector-told c.moment logged h
event-told c s (UndoEntry pass) logged a h = is_told-of c.moment _ logged (Some (undo_of c.cells pass h.0)) h.2 (undone-told c s.state pass h.0 a.1 h.1)
event-told c s (TurnBusy pass) logged a h = is_told-of c.moment _ logged None h (nothing-told c.moment c.moment refl)
event-told c s (Crash cells) logged a h = absurd h
