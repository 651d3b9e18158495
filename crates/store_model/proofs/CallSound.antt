-- A journal with a collector, call by call.
use Rattle.std.proofs.Common.{◌≡◌, ◌≢◌, ℕ, ◌+◌, ◌-◌, List, ◌++◌, length, Bool, refl, sym, ap, ◌∙◌, arith, Option, Some, None}
use Rattle.std.specs.Prelude.{if◌then◌else◌, count_by, is_some, unwrap_or}
use Rattle.std.specs.Option.{option_map_or}
use Rattle.plain_model.specs.declared.calls.Call.{Call as TransactionCall}
use Rattle.plain_model.specs.declared.calls.Call.TheVariants.{Begin, Read, Make, Store as StoreCall, GetPay, SetPay, Release, Commit, Abort}
use Rattle.plain_model.specs.declared.calls.Reply.{Reply}
use Rattle.plain_model.specs.declared.calls.Reply.TheVariants.{Done, Id, Pay as PayReply, Full}
use Rattle.plain_model.specs.declared.calls.Entry.TheVariants.{Call}
use Rattle.plain_model.specs.ActiveTransaction.{ActiveTransaction}
use Rattle.plain_model.specs.Graphs.{applied}
use Rattle.plain_model.specs.Machine.{State, is_stored, transaction_of, refusal_in, refusal_of, register_id, free_id, step, success, if_aborting, blocks_sharing, blocks_owning}
use Rattle.plain_model.specs.History.{can_be_undone, next}
use Rattle.plain_laws.proofs.Legal.{free_is, or_else_none}
use Rattle.plain_laws.proofs.Locks.{free-least}
use Rattle.cell_model.specs.Cells.{Cell, cell_at, pointer_at, is_live}
use Rattle.cell_model.specs.Records.{Make as MakeRecord, Store, Pay, after_record, Fits, IsWellLaid}
use Rattle.store_model.specs.Core.{Ref, Core, slot_in, payload_in}
use Rattle.store_model.specs.Sound.{IsSound}
use Rattle.store_model.specs.Steps.{IsTouched, AreStoreReferences, AreReleaseReferences, AreLeftReferences, IsQueueLeft, read_by, get_by, release_by, set_by, store_by, after_transaction, after_begin, after_make, committed_core, aborted_core}
use Rattle.store_model.proofs.SeenLaws.{shared-alone, owned-alone}
use Rattle.store_model.proofs.CallLaws.{call-granted, call-begun, call-refused, call-undone}
use Rattle.store_model.proofs.GrantLaws.{not_aborting, served, served_store, refused-undone}
use Rattle.store_model.proofs.BeginSound.{begin-sound}
use Rattle.store_model.proofs.PaySound.{get-sound, set-sound}
use Rattle.store_model.proofs.ReleaseSound.{release-sound}
use Rattle.store_model.proofs.MomentSound.{moment-sound, read_running-sound, store_marked-sound, make_fitting-sound, commit_left-sound, abort_left-sound, slot-answer, payload-answer}

-- the next id is one of the store's, and free
pub free-fits : (ids : ℕ) (s : State) (cells : List Cell) → s.ids ≡ ids → length cells ≡ 1 + ids → ((id : ℕ) → is_stored s.stored id ≡ is_live cells id) → (pass : ℕ) (t : ActiveTransaction) (into : ℕ) → refusal_in s pass t (Make into) ≡ None → Fits cells (MakeRecord pass (unwrap_or (free_id s) 0))
free-fits ids s cells n l stored pass t into granted =
    let g = or_else_none (if_aborting t) (if is_some (free_id s) then None else Some Full) granted in
    let id = unwrap_or (free_id s) 0 in
    let least = free-least s.stored s.ids id (free_is s g.1) in
    let lo = least.within.0 in let hi = least.within.1 in
    ((λ e. absurd (omega (arith, lo, e))), omega (arith, hi, n, l), sym (stored id) ∙ least.free)

pub begin-call : (c : Core) → IsSound c → (pass : ℕ) → transaction_of c.moment.state pass ≡ None → IsSound (record c { moment = next c.moment (Call pass Begin Done) })
begin-call c s pass a = moment-sound (after_begin c pass) (next c.moment (Call pass Begin Done)) (ap (λ w. w.1) (call-begun c.moment.state pass a)) refl (begin-sound c s pass a)

pub refusal-call : (c : Core) → IsSound c → (pass : ℕ) (call : TransactionCall) (reply : Reply) → refusal_of c.moment.state pass call ≡ Some reply → IsSound (record c { moment = next c.moment (Call pass call reply) })
refusal-call c s pass call reply r = moment-sound c (next c.moment (Call pass call reply)) (ap (λ w. w.1) (call-refused c.moment.state pass call reply r)) (refused-undone c.moment.state c.moment.undone pass call reply r) s

module _ (c : Core) (s : IsSound c) (pass : ℕ) (t : ActiveTransaction) (a : transaction_of c.moment.state pass ≡ Some t) where
  -- the moment after a call that isn't refused
  after : (call : TransactionCall) → call ≢ Begin → refusal_in c.moment.state pass t call ≡ None → (reply : Reply) (d : Core) → d.moment.state ≡ (success c.moment.state pass t call).1 → d.moment.undone ≡ c.moment.undone → IsSound d → IsSound (record d { moment = next c.moment (Call pass call reply) })
  after call n granted reply d st un k = moment-sound d (next c.moment (Call pass call reply)) (ap (λ w. w.1) (call-granted c.moment.state pass t call a granted) ∙ sym st) (call-undone c.moment.undone pass call reply n ∙ sym un) k

  pub read-call : (r slot into : ℕ) → refusal_in c.moment.state pass t (Read r slot into) ≡ None → (reply : Reply) → IsSound (record c { moment = next c.moment (Call pass (Read r slot into) reply) })
  read-call r slot into granted reply =
      let g = served c.moment.state t r (blocks_sharing c.moment.state pass (register_id t r)) granted in
      after (Read r slot into) (λ e. absurd (cc)) granted reply (after_transaction c pass (read_by c.moment.state t (register_id t r) slot into) c.cells c.refs) refl refl (read_running-sound c s pass t a (register_id t r) slot into g.running g.held g.granted)

  pub get-call : (r : ℕ) → refusal_in c.moment.state pass t (GetPay r) ≡ None → (reply : Reply) → IsSound (record c { moment = next c.moment (Call pass (GetPay r) reply) })
  get-call r granted reply =
      let g = served c.moment.state t r (blocks_sharing c.moment.state pass (register_id t r)) granted in
      after (GetPay r) (λ e. absurd (cc)) granted reply (after_transaction c pass (get_by t (register_id t r)) c.cells c.refs) refl refl (get-sound c s pass t a (register_id t r) g.running g.held g.granted)

  pub release-call : (r : ℕ) (more : List Ref) → refusal_in c.moment.state pass t (Release r) ≡ None → AreReleaseReferences pass t more → (reply : Reply) → IsSound (record c { moment = next c.moment (Call pass (Release r) reply); refs = c.refs ++ more })
  release-call r more granted refs reply =
      after (Release r) (λ e. absurd (cc)) granted reply (after_transaction c pass (release_by t (register_id t r)) c.cells (c.refs ++ more)) refl refl (release-sound c s pass t a (register_id t r) more refs.own refs.only refs.named)

  pub set-call : (r value old : ℕ) → refusal_in c.moment.state pass t (SetPay r value) ≡ None → Fits c.cells (Pay pass (register_id t r) old value) → (reply : Reply)
      → IsSound (record c { cells = after_record c.moment.state.slots c.cells (Pay pass (register_id t r) old value); moment = next c.moment (Call pass (SetPay r value) reply) })
  set-call r value old granted fits reply =
      let g = served c.moment.state t r (blocks_owning c.moment.state pass (register_id t r)) granted in
      after (SetPay r value) (λ e. absurd (cc)) granted reply (after_transaction c pass (set_by t (register_id t r) value) (after_record c.moment.state.slots c.cells (Pay pass (register_id t r) old value)) c.refs) refl refl
      (set-sound c s pass t a (register_id t r) g.running g.held old value g.granted fits)

  pub store-call : (r slot : ℕ) (source : Option ℕ) (old : ℕ) (old_strong bit strong : Bool) (more : List Ref) → refusal_in c.moment.state pass t (StoreCall r slot source) ≡ None
      → Fits c.cells (Store pass (register_id t r) slot old old_strong (option_map_or (register_id t) source 0) bit strong) → IsWellLaid c.cells (Store pass (register_id t r) slot old old_strong (option_map_or (register_id t) source 0) bit strong)
      → AreStoreReferences pass old (option_map_or (register_id t) source 0) more
      → IsTouched c.round (register_id t r) → (old ≢ 0 → IsTouched c.round old) → (option_map_or (register_id t) source 0 ≢ 0 → IsTouched c.round (option_map_or (register_id t) source 0)) → (reply : Reply)
      → IsSound (record c { cells = after_record c.moment.state.slots c.cells (Store pass (register_id t r) slot old old_strong (option_map_or (register_id t) source 0) bit strong); moment = next c.moment (Call pass (StoreCall r slot source) reply); refs = c.refs ++ more })
  store-call r slot source old old_strong bit strong more granted fits rule refs own_touched old_touched new_touched reply =
      let g = served_store c.moment.state t r source (blocks_owning c.moment.state pass (register_id t r)) granted in
      let target = option_map_or (register_id t) source 0 in
      let cells = after_record c.moment.state.slots c.cells (Store pass (register_id t r) slot old old_strong target bit strong) in
      after (StoreCall r slot source) (λ e. absurd (cc)) granted reply (after_transaction c pass (store_by t (register_id t r) slot target) cells (c.refs ++ more)) refl refl
      (store_marked-sound c s pass t a (register_id t r) slot old target old_strong bit strong more g.0.running g.0.held g.1 g.0.granted fits rule refs own_touched old_touched new_touched)

  pub make-call : (into : ℕ) → refusal_in c.moment.state pass t (Make into) ≡ None → (reply : Reply)
      → Fits c.cells (MakeRecord pass (unwrap_or (free_id c.moment.state) 0)) × IsSound (record (after_make c pass t into (unwrap_or (free_id c.moment.state) 0)) { moment = next c.moment (Call pass (Make into) reply) })
  make-call into granted reply =
      let id = unwrap_or (free_id c.moment.state) 0 in
      let g = or_else_none (if_aborting t) (if is_some (free_id c.moment.state) then None else Some Full) granted in
      let size = s.consistent.sized in
      let fits = free-fits c.moment.state.ids c.moment.state c.cells refl (omega (arith, size)) s.stored pass t into granted in
      (fits, after (Make into) (λ e. absurd (cc)) granted reply (after_make c pass t into id) refl refl (make_fitting-sound c s pass t a into id (not_aborting t g.0) fits))

  pub commit-call : (left : List Ref) (queue : List ℕ) → AreLeftReferences c.refs pass left → IsQueueLeft c left queue → refusal_in c.moment.state pass t Commit ≡ None → (reply : Reply) → IsSound (record c { moment = next c.moment (Call pass Commit reply); refs = left; queue = queue })
  commit-call left queue l q granted reply = after Commit (λ e. absurd (cc)) granted reply (committed_core c pass t left queue) refl refl (commit_left-sound c s pass t a left queue l q (not_aborting t granted))

  pub abort-call : (left : List Ref) (queue : List ℕ) → AreLeftReferences c.refs pass left → IsQueueLeft c left queue → count_by can_be_undone t.writes - c.moment.undone pass ≡ 0 → (reply : Reply) → IsSound (record c { moment = next c.moment (Call pass Abort reply); refs = left; queue = queue })
  abort-call left queue l q all_undone reply = after Abort (λ e. absurd (cc)) refl reply (aborted_core c pass left queue) refl refl (abort_left-sound c s pass t a left queue l q all_undone)

  -- ---- replies

  pub read-reply : (r slot into : ℕ) → refusal_in c.moment.state pass t (Read r slot into) ≡ None → (step c.moment.state pass (Read r slot into)).0 ≡ Id (pointer_at c.cells (register_id t r) slot).target
  read-reply r slot into granted =
      let g = served c.moment.state t r (blocks_sharing c.moment.state pass (register_id t r)) granted in
      ap (λ w. w.0) (call-granted c.moment.state pass t (Read r slot into) a granted) ∙ ap Id (slot-answer c s pass t a (register_id t r) g.running g.held (shared-alone c.moment.state s.state pass (register_id t r) g.granted) slot)

  pub get-reply : (r : ℕ) → refusal_in c.moment.state pass t (GetPay r) ≡ None → (step c.moment.state pass (GetPay r)).0 ≡ PayReply (cell_at c.cells (register_id t r)).payload
  get-reply r granted =
      let g = served c.moment.state t r (blocks_sharing c.moment.state pass (register_id t r)) granted in
      ap (λ w. w.0) (call-granted c.moment.state pass t (GetPay r) a granted) ∙ ap PayReply (payload-answer c s pass t a (register_id t r) g.running g.held (shared-alone c.moment.state s.state pass (register_id t r) g.granted))

  pub old-slot : (r slot : ℕ) (source : Option ℕ) → refusal_in c.moment.state pass t (StoreCall r slot source) ≡ None → slot_in (applied c.moment.state.slots c.moment.state.committed t.writes) (register_id t r) slot ≡ (pointer_at c.cells (register_id t r) slot).target
  old-slot r slot source granted =
      let g = (served_store c.moment.state t r source (blocks_owning c.moment.state pass (register_id t r)) granted).0 in
      slot-answer c s pass t a (register_id t r) g.running g.held (owned-alone c.moment.state s.state pass (register_id t r) g.granted) slot

  pub old-payload : (r value : ℕ) → refusal_in c.moment.state pass t (SetPay r value) ≡ None → payload_in (applied c.moment.state.slots c.moment.state.committed t.writes) (register_id t r) ≡ (cell_at c.cells (register_id t r)).payload
  old-payload r value granted =
      let g = served c.moment.state t r (blocks_owning c.moment.state pass (register_id t r)) granted in
      payload-answer c s pass t a (register_id t r) g.running g.held (owned-alone c.moment.state s.state pass (register_id t r) g.granted)
