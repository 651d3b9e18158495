-- What the tables refuse, the reference machine refuses so.
use Rattle.std.proofs.Common.{◌≡◌, ℕ, List, [], Bool, true, false, refl, sym, ap, ◌∙◌, subst, Option, Some, None, Ok, Err}
use Rattle.std.specs.Prelude.{if◌then◌else◌, is_some, slice_index_or}
use Rattle.std.specs.Option.{option_map_or}
use Rattle.plain_model.specs.declared.calls.Call.{Call as TransactionCall}
use Rattle.plain_model.specs.declared.calls.Call.TheVariants as call
use Rattle.plain_model.specs.declared.calls.Reply.{Reply}
use Rattle.plain_model.specs.declared.calls.Reply.TheVariants.{NoTxn, HasTxn, Aborting, EmptyRegister, NotShared, Busy, Full}
use Rattle.plain_model.specs.ActiveTransaction.{ActiveTransaction}
use Rattle.plain_model.specs.Machine.{transaction_of, register, register_id, free_id, refusal_of, refusal_in, refusal_out, or_else, if_aborting, if_empty, if_not_shared, if_busy, blocks_sharing, blocks_owning}
use Rattle.strict_locks.specs.Locks.{holders_of, only_shares, StandsInWayOfShare, StandsInWayOfOwn, IsLeast}
use Rattle.store_model.specs.Core.{Core}
use Rattle.core_store.specs.Transactions.{Running, running_at}
use Rattle.core_store.specs.Refusals.{if_no_register, subject_refusal, if_not_running, HasSubject, HasSource}
use Rattle.core_store.specs.Tables.{TablesView}
use Rattle.core_store.specs.Stands.{Stands}
use Rattle.core_store.specs.Plans.{IsRefused}
use Rattle.core_store.proofs.PlanActive.{active-of, inactive-of, running-alive}
use Rattle.core_store.proofs.PlanLocks.{blocked-shared, blocked-owned}
use Rattle.core_store.proofs.PlanFree.{free_id-none}
use Rattle.core_store.proofs.PlanLaws.{refusal-in, refusal-out, only-rest, same-empty, alive-of, subject-register, shared-only}

or_else-more : (a b c : Option Reply) (r : Reply) → or_else a b ≡ Some r → or_else a (or_else b c) ≡ Some r
or_else-more (Some x) b c r h = h
or_else-more None (Some y) c r h = h
or_else-more None None c r h = absurd (cc)

same_refusal : (kept : Running) (t : ActiveTransaction) (r : ℕ) → kept.registers ≡ t.registers → kept.aborting ≡ t.aborting → subject_refusal (Some kept) r ≡ or_else (if_aborting t) (if_empty t r)
same_refusal kept t r a b =
    ap (λ (x : Bool). or_else (if x then Some Aborting else None) (if_no_register kept r)) b
    ∙ ap (λ (rs : List (Option ℕ)). or_else (if_aborting t) (option_map_or (λ _. None) (slice_index_or rs r None) (Some (EmptyRegister r)))) a

aborting_reply : (b : Bool) (reply : Reply) → (if b then Some Aborting else None) ≡ Some reply → (b ≡ true) × (Aborting ≡ reply)
aborting_reply true reply k = (refl, cc)
aborting_reply false reply k = absurd (cc)

module _ {slots : ℕ} {v : TablesView} {core : Core} (h : Stands slots v core) where
  -- a client without a transaction
  refused_out : (pass : ℕ) (c : TransactionCall) (reply : Reply) → refusal_out c ≡ Some NoTxn → running_at v.transactions pass ≡ None → Some NoTxn ≡ Some reply → refusal_of core.moment.state pass c ≡ Some reply
  refused_out pass c reply out n e = refusal-out core.moment.state pass c (inactive-of h pass n) ∙ (out ∙ e)

  -- a register that names no object
  pub refused-subject : (pass r : ℕ) (c : TransactionCall) (rest : ActiveTransaction → Option Reply) (reply : Reply) → ((t : ActiveTransaction) → refusal_in core.moment.state pass t c ≡ or_else (if_aborting t) (or_else (if_empty t r) (rest t)))
      → refusal_out c ≡ Some NoTxn → subject_refusal (running_at v.transactions pass) r ≡ Some reply → refusal_of core.moment.state pass c ≡ Some reply
  refused-subject pass r c rest reply shape out e = by (running_at v.transactions pass) refl e
    where
      by : (o : Option Running) → running_at v.transactions pass ≡ o → subject_refusal o r ≡ Some reply → refusal_of core.moment.state pass c ≡ Some reply
      by None n k = refused_out pass c reply out n k
      by (Some kept) n k =
          let a = active-of h pass kept n in
          refusal-in core.moment.state pass a.transaction c a.found
          ∙ (shape a.transaction ∙ or_else-more (if_aborting a.transaction) (if_empty a.transaction r) (rest a.transaction) reply (sym (same_refusal kept a.transaction r a.runs.registers a.runs.aborting) ∙ k))

  -- a client that may not go on
  pub refused-not_running : (pass : ℕ) (c : TransactionCall) (rest : ActiveTransaction → Option Reply) (reply : Reply) → ((t : ActiveTransaction) → refusal_in core.moment.state pass t c ≡ or_else (if_aborting t) (rest t))
      → refusal_out c ≡ Some NoTxn → if_not_running (running_at v.transactions pass) ≡ Some reply → refusal_of core.moment.state pass c ≡ Some reply
  refused-not_running pass c rest reply shape out e = by (running_at v.transactions pass) refl e
    where
      by : (o : Option Running) → running_at v.transactions pass ≡ o → if_not_running o ≡ Some reply → refusal_of core.moment.state pass c ≡ Some reply
      by None n k = refused_out pass c reply out n k
      by (Some kept) n k =
          let a = active-of h pass kept n in
          let b = aborting_reply kept.aborting reply k in
          refusal-in core.moment.state pass a.transaction c a.found
          ∙ (shape a.transaction ∙ (ap (λ x. or_else (if x then Some Aborting else None) (rest a.transaction)) (sym a.runs.aborting ∙ b.0) ∙ ap (λ x. Some x) b.1))

  -- another client stands in the way
  busy-shared : (pass r id p : ℕ) → HasSubject (running_at v.transactions pass) r id → IsLeast (StandsInWayOfShare (holders_of v.locks id) pass) p → refusal_of core.moment.state pass (call.GetPay r) ≡ Some (Busy p)
  busy-shared pass r id p u l =
      let a = alive-of h pass u.running u.is u.alive in
      let e = subject-register h pass r id u a in
      refusal-in core.moment.state pass a.transaction (call.GetPay r) a.found
      ∙ (only-rest a.transaction r id (λ x. if_busy (blocks_sharing core.moment.state pass x)) a.alive e ∙ ap (λ o. if_busy o) (blocked-shared h pass id p l))

  -- there is no shared lock to give back
  unshared-release : (pass r id : ℕ) → HasSubject (running_at v.transactions pass) r id → only_shares (holders_of v.locks id) pass ≡ false → refusal_of core.moment.state pass (call.Release r) ≡ Some NotShared
  unshared-release pass r id u l =
      let a = alive-of h pass u.running u.is u.alive in
      let e = subject-register h pass r id u a in
      refusal-in core.moment.state pass a.transaction (call.Release r) a.found
      ∙ (only-rest a.transaction r id (λ x. if_not_shared a.transaction x) a.alive e ∙ ap (λ b. if b then None else Some NotShared) (shared-only h pass id a.transaction a.found ∙ l))

  busy-set : (pass r value id p : ℕ) → HasSubject (running_at v.transactions pass) r id → IsLeast (StandsInWayOfOwn (holders_of v.locks id) pass) p → refusal_of core.moment.state pass (call.SetPay r value) ≡ Some (Busy p)
  busy-set pass r value id p u l =
      let a = alive-of h pass u.running u.is u.alive in
      let e = subject-register h pass r id u a in
      refusal-in core.moment.state pass a.transaction (call.SetPay r value) a.found
      ∙ (only-rest a.transaction r id (λ x. if_busy (blocks_owning core.moment.state pass x)) a.alive e ∙ ap (λ o. if_busy o) (blocked-owned h pass id p l))

  -- the source of a store is empty, or, where it isn't, another client stands in the way
  module _ (pass r slot : ℕ) (source : Option ℕ) (id : ℕ) (u : HasSubject (running_at v.transactions pass) r id) where
    store_refusal : (t : ActiveTransaction) (o : Option Reply) → transaction_of core.moment.state pass ≡ Some t → t.aborting ≡ false → register t r ≡ Some id → option_map_or (if_empty t) source None ≡ o
        → refusal_of core.moment.state pass (call.Store r slot source) ≡ or_else o (if_busy (blocks_owning core.moment.state pass id))
    store_refusal t o f a e k =
        refusal-in core.moment.state pass t (call.Store r slot source) f
        ∙ (only-rest t r id (λ x. or_else (option_map_or (if_empty t) source None) (if_busy (blocks_owning core.moment.state pass x))) a e ∙ ap (λ q. or_else q (if_busy (blocks_owning core.moment.state pass id))) k)

    empty-source : (reply : Reply) → HasSource (running_at v.transactions pass) source (Err reply) → refusal_of core.moment.state pass (call.Store r slot source) ≡ Some reply
    empty-source reply w =
        let a = alive-of h pass u.running u.is u.alive in
        let given : option_map_or (if_no_register u.running) source None ≡ Some reply = subst (λ o. HasSource o source (Err reply)) u.is w in
        store_refusal a.transaction (Some reply) a.found a.alive (subject-register h pass r id u a) (sym (same-empty u.running a.transaction source a.runs.registers) ∙ given)

    busy-store : (target p : ℕ) → HasSource (running_at v.transactions pass) source (Ok target) → IsLeast (StandsInWayOfOwn (holders_of v.locks id) pass) p → refusal_of core.moment.state pass (call.Store r slot source) ≡ Some (Busy p)
    busy-store target p w l =
        let a = alive-of h pass u.running u.is u.alive in
        let given : HasSource (Some u.running) source (Ok target) = subst (λ o. HasSource o source (Ok target)) u.is w in
        store_refusal a.transaction None a.found a.alive (subject-register h pass r id u a) (sym (same-empty u.running a.transaction source a.runs.registers) ∙ given.0) ∙ ap (λ o. if_busy o) (blocked-owned h pass id p l)

  -- no id is free
  full-make : (pass into : ℕ) → if_not_running (running_at v.transactions pass) ≡ None → v.free ≡ [] → refusal_of core.moment.state pass (call.Make into) ≡ Some Full
  full-make pass into e none =
      let k = running-alive (running_at v.transactions pass) e in
      let a = alive-of h pass k.0 k.1 k.2 in
      refusal-in core.moment.state pass a.transaction (call.Make into) a.found
      ∙ (ap (λ b. or_else (if b then Some Aborting else None) (if is_some (free_id core.moment.state) then None else Some Full)) a.alive ∙ ap (λ (o : Option ℕ). if is_some o then None else Some Full) (free_id-none h none))

  -- the client has a transaction already
  twice-begin : (pass : ℕ) → is_some (running_at v.transactions pass) ≡ true → refusal_of core.moment.state pass call.Begin ≡ Some HasTxn
  twice-begin pass e = by (running_at v.transactions pass) refl e
    where
      by : (o : Option Running) → running_at v.transactions pass ≡ o → is_some o ≡ true → refusal_of core.moment.state pass call.Begin ≡ Some HasTxn
      by None n k = absurd (cc)
      by (Some kept) n k = let a = active-of h pass kept n in refusal-in core.moment.state pass a.transaction call.Begin a.found

-- ---- whatever the tables stand for

module _ (slots : ℕ) (v : TablesView) (pass : ℕ) where
  pub refuses-get : (r : ℕ) (reply : Reply) → subject_refusal (running_at v.transactions pass) r ≡ Some reply → IsRefused slots v pass (call.GetPay r) reply
  refuses-get r reply e core h = refused-subject h pass r (call.GetPay r) (λ t. if_busy (blocks_sharing core.moment.state pass (register_id t r))) reply (λ t. refl) refl e

  pub refuses-get_busy : (r id p : ℕ) → HasSubject (running_at v.transactions pass) r id → IsLeast (StandsInWayOfShare (holders_of v.locks id) pass) p → IsRefused slots v pass (call.GetPay r) (Busy p)
  refuses-get_busy r id p u l core h = busy-shared h pass r id p u l

  pub refuses-release : (r : ℕ) (reply : Reply) → subject_refusal (running_at v.transactions pass) r ≡ Some reply → IsRefused slots v pass (call.Release r) reply
  refuses-release r reply e core h = refused-subject h pass r (call.Release r) (λ t. if_not_shared t (register_id t r)) reply (λ t. refl) refl e

  pub refuses-release_unshared : (r id : ℕ) → HasSubject (running_at v.transactions pass) r id → only_shares (holders_of v.locks id) pass ≡ false → IsRefused slots v pass (call.Release r) NotShared
  refuses-release_unshared r id u l core h = unshared-release h pass r id u l

  pub refuses-set : (r value : ℕ) (reply : Reply) → subject_refusal (running_at v.transactions pass) r ≡ Some reply → IsRefused slots v pass (call.SetPay r value) reply
  refuses-set r value reply e core h = refused-subject h pass r (call.SetPay r value) (λ t. if_busy (blocks_owning core.moment.state pass (register_id t r))) reply (λ t. refl) refl e

  pub refuses-set_busy : (r value id p : ℕ) → HasSubject (running_at v.transactions pass) r id → IsLeast (StandsInWayOfOwn (holders_of v.locks id) pass) p → IsRefused slots v pass (call.SetPay r value) (Busy p)
  refuses-set_busy r value id p u l core h = busy-set h pass r value id p u l

  pub refuses-store : (r slot : ℕ) (source : Option ℕ) (reply : Reply) → subject_refusal (running_at v.transactions pass) r ≡ Some reply → IsRefused slots v pass (call.Store r slot source) reply
  refuses-store r slot source reply e core h =
      refused-subject h pass r (call.Store r slot source) (λ t. or_else (option_map_or (if_empty t) source None) (if_busy (blocks_owning core.moment.state pass (register_id t r)))) reply (λ t. refl) refl e

  pub refuses-store_source : (r slot : ℕ) (source : Option ℕ) (id : ℕ) (reply : Reply) → HasSubject (running_at v.transactions pass) r id → HasSource (running_at v.transactions pass) source (Err reply) → IsRefused slots v pass (call.Store r slot source) reply
  refuses-store_source r slot source id reply u w core h = empty-source h pass r slot source id u reply w

  pub refuses-store_busy : (r slot : ℕ) (source : Option ℕ) (id target p : ℕ) → HasSubject (running_at v.transactions pass) r id → HasSource (running_at v.transactions pass) source (Ok target)
      → IsLeast (StandsInWayOfOwn (holders_of v.locks id) pass) p → IsRefused slots v pass (call.Store r slot source) (Busy p)
  refuses-store_busy r slot source id target p u w l core h = busy-store h pass r slot source id u target p w l

  pub refuses-make : (into : ℕ) (reply : Reply) → if_not_running (running_at v.transactions pass) ≡ Some reply → IsRefused slots v pass (call.Make into) reply
  refuses-make into reply e core h = refused-not_running h pass (call.Make into) (λ t. if is_some (free_id core.moment.state) then None else Some Full) reply (λ t. refl) refl e

  pub refuses-make_full : (into : ℕ) → if_not_running (running_at v.transactions pass) ≡ None → v.free ≡ [] → IsRefused slots v pass (call.Make into) Full
  refuses-make_full into e none core h = full-make h pass into e none

  pub refuses-commit : (reply : Reply) → if_not_running (running_at v.transactions pass) ≡ Some reply → IsRefused slots v pass call.Commit reply
  refuses-commit reply e core h = refused-not_running h pass call.Commit (λ t. None) reply (λ t. commit_shape (if_aborting t)) refl e
    where
      commit_shape : (o : Option Reply) → o ≡ or_else o None
      commit_shape (Some x) = refl
      commit_shape None = refl

  pub refuses-begin : is_some (running_at v.transactions pass) ≡ true → IsRefused slots v pass call.Begin HasTxn
  refuses-begin e core h = twice-begin h pass e

  pub refuses-abort : running_at v.transactions pass ≡ None → IsRefused slots v pass call.Abort NoTxn
  refuses-abort e core h = refusal-out core.moment.state pass call.Abort (inactive-of h pass e)
