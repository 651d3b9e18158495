-- What the reference machine knows of a call that the tables grant.
use Rattle.std.proofs.Common.{Bool, ap₂, ◌≡◌, ◌≢◌, ℕ, ◌<◌, ◌≤◌, List, true, false, refl, sym, ap, ◌∙◌, subst, Option, Some, None, Ok, arith}
use Rattle.std.specs.Prelude.{not, ◌&&◌, if◌then◌else◌, Contains, unwrap_or, is_some, slice_index_or}
use Rattle.std.specs.Option.{option_map_or}
use Rattle.plain_model.specs.declared.calls.Call.{Call as TransactionCall}
use Rattle.plain_model.specs.declared.calls.Call.TheVariants as call
use Rattle.plain_model.specs.declared.calls.Reply.{Reply}
use Rattle.plain_model.specs.declared.calls.Reply.TheVariants.{Aborting, EmptyRegister, NotShared, Full}
use Rattle.plain_model.specs.ActiveTransaction.{ActiveTransaction}
use Rattle.plain_model.specs.Machine.{State, is_stored, transaction_of, register, register_id, free_id, refusal_of, refusal_in, refusal_out, or_else, if_aborting, if_empty, if_not_shared, if_busy, is_among, only_shares, blocks_sharing, blocks_owning}
use Rattle.plain_model.specs.History.{Moment, IsId}
use Rattle.plain_laws.proofs.Legal.{registers-stored_proof, not_empty}
use Rattle.cell_model.specs.Cells.{Cell, is_live}
use Rattle.store_model.specs.Core.{Core}
use Rattle.cell_model.proofs.EditLaws.{live-within, live-there}
use Rattle.store_model.proofs.ActiveLaws.{register-contained}
use Rattle.core_store.specs.FreeIds.{IsLeastOf}
use Rattle.core_store.specs.Transactions.{Running, running_at}
use Rattle.core_store.specs.Refusals.{if_not_running, if_no_register, source_of, HasSubject, HasSource}
use Rattle.core_store.specs.Logged.{stored_target}
use Rattle.core_store.specs.Tables.{TablesView}
use Rattle.core_store.specs.Stands.{IsRunning, owns_in, shares_in, Stands}
use Rattle.strict_locks.specs.Locks.{holders_of, is_owner, is_sharer, only_shares as shares_only}
use Rattle.core_store.specs.Plans.{IsShareable, IsOwnable, IsReleasable}
use Rattle.core_store.proofs.PlanActive.{active-of, inactive-of, running-alive}
use Rattle.core_store.proofs.PlanLocks.{unblocked-shared, unblocked-owned}
use Rattle.core_store.proofs.PlanFree.{least-free, free_id-least}

-- the client has a transaction that isn't being undone, in the tables and in the machine, and the call isn't refused
pub record Grants (slots : ℕ) (v : TablesView) (m : Moment) (pass : ℕ) (c : TransactionCall) : Type 0 where
  pub kept : Running
  pub transaction : ActiveTransaction
  pub kept_is : running_at v.transactions pass ≡ Some kept
  pub found : transaction_of m.state pass ≡ Some transaction
  pub runs : IsRunning slots m.state.committed kept transaction (m.undone pass)
  pub alive : transaction.aborting ≡ false
  pub unrefused : refusal_in m.state pass transaction c ≡ None
  pub allowed : refusal_of m.state pass c ≡ None

-- the id is that of a live cell of the store
pub record IsLiveId (cells : List Cell) (ids id : ℕ) : Type 0 where
  pub live : is_live cells id ≡ true
  pub above : 0 < id
  pub within : id ≤ ids
  pub few : id ≤ 8192

-- the register of the transaction names the object, which is live
pub record Names (cells : List Cell) (ids : ℕ) (t : ActiveTransaction) (r id : ℕ) : Type 0 where
  pub register_is : register t r ≡ Some id
  pub id_is : register_id t r ≡ id
  pub among : Contains t.registers (Some id)
  pub there : IsLiveId cells ids id

-- the call is granted, and works on the object that the register names
pub record GrantsOn (slots : ℕ) (v : TablesView) (cells : List Cell) (m : Moment) (pass : ℕ) (c : TransactionCall) (r id : ℕ) : Type 0 where
  pub grants : Grants slots v m pass c
  pub names : Names cells m.state.ids grants.transaction r id

-- a store is granted, and lays this target
pub record GrantsStore (slots : ℕ) (v : TablesView) (cells : List Cell) (m : Moment) (pass r slot : ℕ) (source : Option ℕ) (id target : ℕ) : Type 0 where
  pub grants : Grants slots v m pass (call.Store r slot source)
  pub names : Names cells m.state.ids grants.transaction r id
  pub target_is : target ≡ stored_target grants.transaction source
  pub target_among : target ≢ 0 → Contains grants.transaction.registers (Some target)
  pub target_there : target ≢ 0 → IsLiveId cells m.state.ids target

-- a new object is granted, with this id
pub record GrantsMake (slots : ℕ) (v : TablesView) (cells : List Cell) (m : Moment) (pass into id : ℕ) : Type 0 where
  pub grants : Grants slots v m pass (call.Make into)
  pub free_is : free_id m.state ≡ Some id
  pub id_is : unwrap_or (free_id m.state) 0 ≡ id
  pub is : IsId m.state.ids id
  pub few : id ≤ 8192
  pub unstored : is_stored m.state.stored id ≡ false
  pub not_live : is_live cells id ≡ false

-- the machine's transaction of a client that has this one in the tables, which isn't being undone
pub record HasAlive (slots : ℕ) (m : Moment) (pass : ℕ) (kept : Running) : Type 0 where
  pub transaction : ActiveTransaction
  pub found : transaction_of m.state pass ≡ Some transaction
  pub runs : IsRunning slots m.state.committed kept transaction (m.undone pass)
  pub alive : transaction.aborting ≡ false

-- ---- refusals of a client with a transaction

pub refusal-in : (s : State) (pass : ℕ) (t : ActiveTransaction) (c : TransactionCall) → transaction_of s pass ≡ Some t → refusal_of s pass c ≡ refusal_in s pass t c
refusal-in s pass t c e = ap (λ o. option_map_or (λ t. refusal_in s pass t c) o (refusal_out c)) e

pub refusal-out : (s : State) (pass : ℕ) (c : TransactionCall) → transaction_of s pass ≡ None → refusal_of s pass c ≡ refusal_out c
refusal-out s pass c e = ap (λ o. option_map_or (λ t. refusal_in s pass t c) o (refusal_out c)) e

-- a transaction that isn't being undone, with an object in the register, is refused only what comes after
pub only-rest : (t : ActiveTransaction) (r id : ℕ) (rest : ℕ → Option Reply) → t.aborting ≡ false → register t r ≡ Some id → or_else (if_aborting t) (or_else (if_empty t r) (rest (register_id t r))) ≡ rest id
only-rest t r id rest a e =
    ap (λ b. or_else (if b then Some Aborting else None) (or_else (if_empty t r) (rest (register_id t r)))) a
    ∙ ap (λ (o : Option ℕ). or_else (option_map_or (λ _. None) o (Some (EmptyRegister r))) (rest (unwrap_or o 0))) e

-- ---- registers and sources

pub same-source : (kept : Running) (t : ActiveTransaction) (source : Option ℕ) → kept.registers ≡ t.registers → source_of kept source ≡ stored_target t source
same-source kept t source e = ap (λ (rs : List (Option ℕ)). option_map_or (λ f. unwrap_or (slice_index_or rs f None) 0) source 0) e

pub same-empty : (kept : Running) (t : ActiveTransaction) (source : Option ℕ) → kept.registers ≡ t.registers → option_map_or (if_no_register kept) source None ≡ option_map_or (if_empty t) source None
same-empty kept t source e = ap (λ (rs : List (Option ℕ)). option_map_or (λ f. option_map_or (λ _. None) (slice_index_or rs f None) (Some (EmptyRegister f))) source None) e

module _ {slots : ℕ} {v : TablesView} {core : Core} (h : Stands slots v core) where
  -- ---- ids

  pub live-id : (id : ℕ) → is_live core.cells id ≡ true → IsLiveId core.cells core.moment.state.ids id
  live-id id l =
      let k = live-within core.cells id l in
      let z = live-there core.cells id h.sound.consistent.exact.none l in
      let n = h.sound.consistent.sized in
      let few = h.few in
      let same = h.ids in
      record { live = l; above = omega (arith, z); within = omega (arith, k, n); few = omega (arith, k, n, few, same) }

  pub named-there : (pass : ℕ) (t : ActiveTransaction) (r id : ℕ) → transaction_of core.moment.state pass ≡ Some t → register t r ≡ Some id → Names core.cells core.moment.state.ids t r id
  named-there pass t r id f e = record {
    register_is = e;
    id_is = ap (λ o. unwrap_or o 0) e;
    among = register-contained t r id e;
    there = live-id id (sym (h.sound.stored id) ∙ (registers-stored_proof core.moment.state pass r id t h.sound.state f e).0);
  }

  -- ---- the client's transaction

  pub alive-of : (pass : ℕ) (kept : Running) → running_at v.transactions pass ≡ Some kept → kept.aborting ≡ false → HasAlive slots core.moment pass kept
  alive-of pass kept e a = let x = active-of h pass kept e in record { transaction = x.transaction; found = x.found; runs = x.runs; alive = sym x.runs.aborting ∙ a }

  grants : (pass : ℕ) (c : TransactionCall) (kept : Running) → running_at v.transactions pass ≡ Some kept → (a : HasAlive slots core.moment pass kept) → refusal_in core.moment.state pass a.transaction c ≡ None → Grants slots v core.moment pass c
  grants pass c kept e a none = record {
    kept = kept;
    transaction = a.transaction;
    kept_is = e;
    found = a.found;
    runs = a.runs;
    alive = a.alive;
    unrefused = none;
    allowed = refusal-in core.moment.state pass a.transaction c a.found ∙ none;
  }

  pub subject-register : (pass r id : ℕ) (u : HasSubject (running_at v.transactions pass) r id) (a : HasAlive slots core.moment pass u.running) → register a.transaction r ≡ Some id
  subject-register pass r id u a = ap (λ (rs : List (Option ℕ)). slice_index_or rs r None) (sym a.runs.registers) ∙ u.register

  -- ---- what is granted

  pub granted-begin : (pass : ℕ) → running_at v.transactions pass ≡ None → (transaction_of core.moment.state pass ≡ None) × (refusal_of core.moment.state pass call.Begin ≡ None)
  granted-begin pass e = let none = inactive-of h pass e in (none, refusal-out core.moment.state pass call.Begin none)

  shared : (pass r id : ℕ) (c : TransactionCall) → ((t : ActiveTransaction) → refusal_in core.moment.state pass t c ≡ or_else (if_aborting t) (or_else (if_empty t r) (if_busy (blocks_sharing core.moment.state pass (register_id t r))))) → IsShareable v pass r id → GrantsOn slots v core.cells core.moment pass c r id
  unfolding grants
  shared pass r id c shape w =
      let a = alive-of pass w.0.running w.0.is w.0.alive in
      let e = subject-register pass r id w.0 a in
      record {
        grants =
            grants pass c w.0.running w.0.is a
            (shape a.transaction ∙ (only-rest a.transaction r id (λ x. if_busy (blocks_sharing core.moment.state pass x)) a.alive e ∙ ap (λ o. if_busy o) (unblocked-shared h pass id w.1)));
        names = named-there pass a.transaction r id a.found e;
      }

  pub granted-read : (pass r slot into id : ℕ) → IsShareable v pass r id → GrantsOn slots v core.cells core.moment pass (call.Read r slot into) r id
  granted-read pass r slot into id w = shared pass r id (call.Read r slot into) (λ t. refl) w

  pub granted-get : (pass r id : ℕ) → IsShareable v pass r id → GrantsOn slots v core.cells core.moment pass (call.GetPay r) r id
  granted-get pass r id w = shared pass r id (call.GetPay r) (λ t. refl) w

  -- a client that shares an object and doesn't own it does so in the machine
  pub shared-only : (pass id : ℕ) (t : ActiveTransaction) → transaction_of core.moment.state pass ≡ Some t → only_shares id t ≡ shares_only (holders_of v.locks id) pass
  shared-only pass id t f =
      let own : is_owner (holders_of v.locks id) pass ≡ is_among id t.owned = h.owners id pass ∙ ap (λ o. owns_in o id) f in
      let share : is_sharer (holders_of v.locks id) pass ≡ is_among id t.shared = h.sharers id pass ∙ ap (λ o. shares_in o id) f in
      ap₂ (λ (x y : Bool). x && not y) (sym share) (sym own)

  pub granted-release : (pass r id : ℕ) → IsReleasable v pass r id → GrantsOn slots v core.cells core.moment pass (call.Release r) r id
  unfolding grants
  granted-release pass r id w =
      let a = alive-of pass w.0.running w.0.is w.0.alive in
      let e = subject-register pass r id w.0 a in
      record {
        grants =
            grants pass (call.Release r) w.0.running w.0.is a
            (only-rest a.transaction r id (λ x. if_not_shared a.transaction x) a.alive e ∙ ap (λ b. if b then None else Some NotShared) (shared-only pass id a.transaction a.found ∙ w.1));
        names = named-there pass a.transaction r id a.found e;
      }

  pub granted-set : (pass r value id : ℕ) → IsOwnable v pass r id → GrantsOn slots v core.cells core.moment pass (call.SetPay r value) r id
  unfolding grants
  granted-set pass r value id w =
      let a = alive-of pass w.0.running w.0.is w.0.alive in
      let e = subject-register pass r id w.0 a in
      record {
        grants =
            grants pass (call.SetPay r value) w.0.running w.0.is a
            (only-rest a.transaction r id (λ x. if_busy (blocks_owning core.moment.state pass x)) a.alive e ∙ ap (λ o. if_busy o) (unblocked-owned h pass id w.1));
        names = named-there pass a.transaction r id a.found e;
      }

  -- the id that a filled source has is live
  source-there : (pass : ℕ) (t : ActiveTransaction) (source : Option ℕ) → transaction_of core.moment.state pass ≡ Some t → option_map_or (if_empty t) source None ≡ None → stored_target t source ≢ 0
      → Contains t.registers (Some (stored_target t source)) × IsLiveId core.cells core.moment.state.ids (stored_target t source)
  source-there pass t None f e n = absurd (n refl)
  source-there pass t (Some r) f e n = let k = named-there pass t r (register_id t r) f (not_empty t r e) in (k.among, k.there)

  pub granted-store : (pass r slot : ℕ) (source : Option ℕ) (id target : ℕ) → IsOwnable v pass r id → HasSource (running_at v.transactions pass) source (Ok target) → GrantsStore slots v core.cells core.moment pass r slot source id target
  unfolding grants
  granted-store pass r slot source id target w from_source =
      let a = alive-of pass w.0.running w.0.is w.0.alive in
      let t = a.transaction in
      let e = subject-register pass r id w.0 a in
      let given : HasSource (Some w.0.running) source (Ok target) = subst (λ o. HasSource o source (Ok target)) w.0.is from_source in
      let filled : option_map_or (if_empty t) source None ≡ None = sym (same-empty w.0.running t source a.runs.registers) ∙ given.0 in
      let is : target ≡ stored_target t source = given.1 ∙ same-source w.0.running t source a.runs.registers in
      record {
        grants =
            grants pass (call.Store r slot source) w.0.running w.0.is a
            (only-rest t r id (λ x. or_else (option_map_or (if_empty t) source None) (if_busy (blocks_owning core.moment.state pass x))) a.alive e
            ∙ (ap (λ o. or_else o (if_busy (blocks_owning core.moment.state pass id))) filled ∙ ap (λ o. if_busy o) (unblocked-owned h pass id w.1)));
        names = named-there pass t r id a.found e;
        target_is = is;
        target_among = λ n. subst (λ x. Contains t.registers (Some x)) (sym is) (source-there pass t source a.found filled (λ z. n (is ∙ z))).0;
        target_there = λ n. subst (λ x. IsLiveId core.cells core.moment.state.ids x) (sym is) (source-there pass t source a.found filled (λ z. n (is ∙ z))).1;
      }

  pub granted-make : (pass into id : ℕ) → if_not_running (running_at v.transactions pass) ≡ None → IsLeastOf v.free id → GrantsMake slots v core.cells core.moment pass into id
  granted-make pass into id e l =
      let k = running-alive (running_at v.transactions pass) e in
      let a = alive-of pass k.0 k.1 k.2 in
      let free = free_id-least h id l in
      let is = least-free h id l in
      let top = is.0.1 in
      let few = h.few in
      let same = h.ids in
      record {
        grants =
            grants pass (call.Make into) k.0 k.1 a
            (ap (λ b. or_else (if b then Some Aborting else None) (if is_some (free_id core.moment.state) then None else Some Full)) a.alive ∙ ap (λ (o : Option ℕ). if is_some o then None else Some Full) free);
        free_is = free;
        id_is = ap (λ o. unwrap_or o 0) free;
        is = is.0;
        few = omega (arith, top, few, same);
        unstored = is.1;
        not_live = sym (h.sound.stored id) ∙ is.1;
      }

  pub granted-commit : (pass : ℕ) → if_not_running (running_at v.transactions pass) ≡ None → Grants slots v core.moment pass call.Commit
  granted-commit pass e =
      let k = running-alive (running_at v.transactions pass) e in
      let a = alive-of pass k.0 k.1 k.2 in
      grants pass call.Commit k.0 k.1 a (ap (λ b. if b then Some Aborting else None) a.alive)
