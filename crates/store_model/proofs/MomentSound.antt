-- What a moment doesn't tell a journal, and what a client is answered.
use Rattle.std.proofs.Common.{◌≡◌, ◌≢◌, ℕ, ◌-◌, List, ◌++◌, Bool, true, false, sym, ap, ◌∙◌, subst, arith, refl, Some, None, ◌⊎◌}
use Rattle.std.specs.Prelude.{Contains, count_by}
use Rattle.plain_model.specs.declared.object.Object.{Object}
use Rattle.plain_model.specs.declared.write.Write.{Write}
use Rattle.plain_model.specs.Graphs.{object_at, applied, without}
use Rattle.plain_model.specs.ActiveTransaction.{ActiveTransaction}
use Rattle.plain_model.specs.Machine.{State, own_graph, transaction_of, seen_slot, seen_payload, blocks_sharing, blocks_owning, is_among}
use Rattle.plain_model.specs.History.{CommitPoint, Moment, can_be_undone}
use Rattle.plain_laws.specs.Sound.{IsSoundState}
use Rattle.plain_laws.proofs.Ids.{or_left}
use Rattle.plain_laws.proofs.Legal.{without_other}
use Rattle.plain_laws.proofs.Lookups.{writes_at, object_at-after_writes}
use Rattle.plain_laws.proofs.Told.{commit-leaves_held_proof}
use Rattle.cell_model.specs.Cells.{cell_at, pointer_at}
use Rattle.cell_model.specs.Records.{Make, Store, after_record, Fits, IsWellLaid}
use Rattle.store_model.specs.Core.{Ref, Core, names}
use Rattle.store_model.specs.Sound.{in_register, by_pass, start, IsKept, IsKnown, root_itself, pointed, named_id, IsSound}
use Rattle.store_model.specs.Steps.{IsOnlyWriter, IsTouched, AreStoreReferences, AreLeftReferences, IsQueueLeft, read_by, store_by, after_transaction, after_make, committed_core, aborted_core}
use Rattle.store_model.proofs.ObjectLaws.{first_writes-all}
use Rattle.store_model.proofs.ActiveLaws.{owner}
use Rattle.store_model.proofs.EndLaws.{transaction-active}
use Rattle.store_model.proofs.SeenLaws.{seen-slot, seen-pay}
use Rattle.store_model.proofs.ReadSound.{read-sound}
use Rattle.store_model.proofs.StoreSound.{store-sound}
use Rattle.store_model.proofs.MakeSound.{make-sound}
use Rattle.store_model.proofs.EndSound.{commit-sound, abort-sound}
use Rattle.store_model.proofs.ClientSound.{relinked-copies}

-- only the state and the counts of undone writes matter
pub moment-sound : (c : Core) (n : Moment) → n.state ≡ c.moment.state → n.undone ≡ c.moment.undone → IsSound c → IsSound (record c { moment = n })
moment-sound c n st un s =
    packed c n.opened n.commits (subst (λ st. IsSound (record c { moment = record { state = st; undone = n.undone; opened = c.moment.opened; commits = c.moment.commits } })) (sym st)
    (subst (λ un. IsSound (record c { moment = record { state = c.moment.state; undone = un; opened = c.moment.opened; commits = c.moment.commits } })) (sym un) s))
  where
    packed : {st : State} {un : ℕ → ℕ} {o : List Object} {k : List CommitPoint} (c : Core) (opened : List Object) (commits : List CommitPoint)
        → IsSound (record c { moment = record { state = st; undone = un; opened = o; commits = k } }) → IsSound (record c { moment = record { state = st; undone = un; opened = opened; commits = commits } })
    packed {st} {un} {o} {k} c opened commits s = record {
      consistent = s.consistent;
      zero = s.zero;
      queue_once = s.queue_once;
      round_once = s.round_once;
      queued = s.queued;
      round_live = s.round_live;
      state = s.state;
      kept = λ x h. (let now = s.kept x h in record { live = now.live; contents = now.contents });
      stored = s.stored;
      none_undone = s.none_undone;
      made_first = s.made_first;
      made_alone = s.made_alone;
      new_named = s.new_named;
      old_named = s.old_named;
      made_named = s.made_named;
      refs_active = s.refs_active;
      registers = λ e m id h. known e id (s.registers e m id h);
      copies = s.copies;
      copied_listed = s.copied_listed;
      condemned = record { live = s.condemned.live; not_root = s.condemned.not_root; not_locked = s.condemned.not_locked; not_named = s.condemned.not_named; within = s.condemned.within };
      condemned_listed = s.condemned_listed;
    }
      where
        known : (e : ℕ × ActiveTransaction) (id : ℕ) → IsKnown (record c { moment = record { state = st; undone = un; opened = o; commits = k } }) e id → IsKnown (record c { moment = record { state = st; undone = un; opened = opened; commits = commits } }) e id
        known e id (root_itself h) = root_itself h
        known e id (named_id h) = named_id h
        known e id (pointed v j h l p) = pointed v j h l p

-- ---- replies

module _ (c : Core) (s : IsSound c) (pass : ℕ) (t : ActiveTransaction) (a : transaction_of c.moment.state pass ≡ Some t) (id : ℕ) (running : t.aborting ≡ false) (reg : Contains t.registers (Some id)) (alone : IsOnlyWriter c.moment.state pass id) where
  kept-now : IsKept c id
  kept-now = start id (by_pass (pass, t) (transaction-active c.moment.state s.state pass t a) (in_register reg))

  none_undone-now : c.moment.undone pass ≡ 0
  none_undone-now = s.none_undone (pass, t) (transaction-active c.moment.state s.state pass t a) running

  pub slot-answer : (slot : ℕ) → seen_slot c.moment.state t id slot ≡ (pointer_at c.cells id slot).target
  slot-answer slot = let n = none_undone-now in seen-slot c s pass t a id slot kept-now alone (first_writes-all (count_by can_be_undone t.writes - c.moment.undone pass) t.writes (omega (arith, n)))

  pub payload-answer : seen_payload c.moment.state t id ≡ (cell_at c.cells id).payload
  payload-answer = let n = none_undone-now in seen-pay c s pass t a id kept-now alone (first_writes-all (count_by can_be_undone t.writes - c.moment.undone pass) t.writes (omega (arith, n)))

-- ---- what a transaction saw before a write

-- another client's commit leaves it
pub commit-earlier : (s : State) → IsSoundState s → (pass : ℕ) (t : ActiveTransaction) → transaction_of s pass ≡ Some t → (p : ℕ) (u : ActiveTransaction) → transaction_of s p ≡ Some u → pass ≢ p → (w : Write) → Contains t.writes w → (earlier : List Write)
    → object_at (applied s.slots (own_graph s u) earlier) w.id ≡ object_at (applied s.slots s.committed earlier) w.id
commit-earlier s i pass t a p u b n w m earlier =
    let owned = owner s i (pass, t) (transaction-active s i pass t a) w m in
    object_at-after_writes s.slots (own_graph s u) earlier w.id
    ∙ (ap (λ o. writes_at s.slots w.id o earlier) (commit-leaves_held_proof s p pass u t w.id i b a n (or_left (is_among w.id t.owned) (is_among w.id t.shared) owned))
    ∙ sym (object_at-after_writes s.slots s.committed earlier w.id))

-- and so does the deletion of another object
pub delete-earlier : (slots : ℕ) (g : List Object) (id x : ℕ) → x ≢ id → (earlier : List Write) → object_at (applied slots (without g id) earlier) x ≡ object_at (applied slots g earlier) x
delete-earlier slots g id x n earlier = object_at-after_writes slots (without g id) earlier x ∙ (ap (λ o. writes_at slots x o earlier) (without_other g id x n) ∙ sym (object_at-after_writes slots g earlier x))

-- ---- calls and ends in the words of the code that cites them

module _ (c : Core) (s : IsSound c) (pass : ℕ) (t : ActiveTransaction) (a : transaction_of c.moment.state pass ≡ Some t) where
  pub read_running-sound : (id slot into : ℕ) → t.aborting ≡ false → Contains t.registers (Some id) → blocks_sharing c.moment.state pass id ≡ None → IsSound (after_transaction c pass (read_by c.moment.state t id slot into) c.cells c.refs)
  read_running-sound id slot into running reg granted =
      let n = s.none_undone (pass, t) (transaction-active c.moment.state s.state pass t a) running in
      read-sound c s pass t a id slot into reg granted (first_writes-all (count_by can_be_undone t.writes - c.moment.undone pass) t.writes (omega (arith, n)))

  pub make_fitting-sound : (into id : ℕ) → t.aborting ≡ false → Fits c.cells (Make pass id) → IsSound (after_make c pass t into id)
  make_fitting-sound into id running fits = make-sound c s pass t a into id fits.0 fits.1 fits.2 running

  pub commit_left-sound : (left : List Ref) (queue : List ℕ) → AreLeftReferences c.refs pass left → IsQueueLeft c left queue → t.aborting ≡ false → IsSound (committed_core c pass t left queue)
  commit_left-sound left queue l q running = commit-sound c s pass t a left queue l.fewer l.stay l.less l.unnamed q.zero q.once q.queued running

  pub abort_left-sound : (left : List Ref) (queue : List ℕ) → AreLeftReferences c.refs pass left → IsQueueLeft c left queue → count_by can_be_undone t.writes - c.moment.undone pass ≡ 0 → IsSound (aborted_core c pass left queue)
  abort_left-sound left queue l q all_undone = abort-sound c s pass t a left queue l.fewer l.stay l.less l.unnamed q.zero q.once q.queued all_undone

  pub store_marked-sound : (id slot old target : ℕ) (old_strong bit strong : Bool) (more : List Ref) → t.aborting ≡ false → Contains t.registers (Some id) → (target ≢ 0 → Contains t.registers (Some target)) → blocks_owning c.moment.state pass id ≡ None
      → Fits c.cells (Store pass id slot old old_strong target bit strong) → IsWellLaid c.cells (Store pass id slot old old_strong target bit strong) → AreStoreReferences pass old target more
      → IsTouched c.round id → (old ≢ 0 → IsTouched c.round old) → (target ≢ 0 → IsTouched c.round target)
      → IsSound (after_transaction c pass (store_by t id slot target) (after_record c.moment.state.slots c.cells (Store pass id slot old old_strong target bit strong)) (c.refs ++ more))
  store_marked-sound id slot old target old_strong bit strong more running reg target_reg granted fits rule refs ti to tt2 =
      let e : old ≡ (pointer_at c.cells id slot).target = sym fits.0.target in
      store-sound c s pass t a id slot target bit old_strong strong more reg running granted
      (subst (λ o. Fits c.cells (Store pass id slot o old_strong target bit strong)) e fits) rule target_reg refs.own
      (λ r m. let o = refs.only r m in (o.0, subst (λ x. (r.target ≡ target) ⊎ (r.target ≡ x)) e o.1))
      refs.new_named
      (subst (λ o. o ≢ 0 → names more pass o ≡ true) e refs.old_named)
      (relinked-copies c s id slot (record { target = target; bit = bit }) c.round refl ti (subst (λ o. o ≢ 0 → IsTouched c.round o) e to) tt2)
