-- A call of a running transaction that isn't refused.
use Rattle.std.proofs.Common.{◌≡◌, ℕ, List, true, refl, sym, ap, ◌∙◌, subst, Option, Some, None, map}
use Rattle.std.specs.Prelude.{Contains}
use Rattle.std.specs.Option.{option_map_or}
use Rattle.std.specs.List.{list_any}
use Rattle.std.specs.Ordering.{nat_cmp}
use Rattle.std.specs.BTreeMap.{is_at}
use Rattle.plain_model.specs.declared.calls.Call.{Call as TransactionCall}
use Rattle.plain_model.specs.declared.calls.Reply.{Reply}
use Rattle.plain_model.specs.declared.calls.Entry.TheVariants.{Call}
use Rattle.plain_model.specs.declared.write.Write.{Write}
use Rattle.plain_model.specs.ActiveTransaction.{ActiveTransaction}
use Rattle.plain_model.specs.Machine.{State, success, transaction_of, with_transaction, refusal_in, refusal_of, refusal_out}
use Rattle.plain_model.specs.History.{Moment, next}
use Rattle.plain_laws.proofs.Locks.{transaction_of-with_same, transaction_of-with_other}
use Rattle.log_record.specs.declared.cell_record.CellRecord.TheVariants as logs
use Rattle.cell_model.specs.Cells.{Cell, is_live}
use Rattle.store_model.specs.Core.{Core}
use Rattle.store_model.specs.Sound.{IsSound}
use Rattle.store_model.proofs.CallLaws.{call-granted}
use Rattle.core_store.specs.Changes.{has_no_strong}
use Rattle.core_store.specs.Logged.{record_in, logged_by}
use Rattle.core_store.specs.Transactions.{Running, running_at}
use Rattle.core_store.specs.Tables.{TablesView}
use Rattle.core_store.specs.Stands.{IsRunning, CanLay, Stands}
use Rattle.core_store.proofs.ChangeLaws.{Stands-change}
use Rattle.core_store.proofs.LockChanges.{Locked}
use Rattle.core_store.proofs.MapLaws.{PutsAt}
use Rattle.core_store.proofs.RestLaws.{HasRest}

-- the client runs this transaction, and the call isn't refused
pub record Serves (slots : ℕ) (v : TablesView) (m : Moment) (pass : ℕ) (c : TransactionCall) (kept : Running) (t : ActiveTransaction) : Type 0 where
  pub here : running_at v.transactions pass ≡ Some kept
  pub found : transaction_of m.state pass ≡ Some t
  pub runs : IsRunning slots m.state.committed kept t (m.undone pass)
  pub granted : refusal_in m.state pass t c ≡ None

pub unrefused : (s : State) (pass : ℕ) (c : TransactionCall) (t : ActiveTransaction) → transaction_of s pass ≡ Some t → refusal_in s pass t c ≡ None → refusal_of s pass c ≡ None
unrefused s pass c t f g = ap (λ (o : Option ActiveTransaction). option_map_or (λ t. refusal_in s pass t c) o (refusal_out c)) f ∙ g

pub logged-granted : (s : State) (cells : List Cell) (pass : ℕ) (c : TransactionCall) (t : ActiveTransaction) → transaction_of s pass ≡ Some t → refusal_in s pass t c ≡ None → logged_by s cells pass c ≡ record_in s cells pass t c
logged-granted s cells pass c t f g =
    ap (λ (o : Option Reply). option_map_or (λ reply. None) o (option_map_or (λ t. record_in s cells pass t c) (transaction_of s pass) (Some (logs.Begin pass)))) (unrefused s pass c t f g)
    ∙ ap (λ (o : Option ActiveTransaction). option_map_or (λ t. record_in s cells pass t c) o (Some (logs.Begin pass))) f

pub after-granted : (m : Moment) (pass : ℕ) (c : TransactionCall) (reply : Reply) (t : ActiveTransaction) → transaction_of m.state pass ≡ Some t → refusal_in m.state pass t c ≡ None → (next m (Call pass c reply)).state ≡ (success m.state pass t c).1
after-granted m pass c reply t f g = ap (λ (x : Reply × State). x.1) (call-granted m.state pass t c f g)

-- the client's transaction becomes u, and the committed graph, the stored ids and the counts of undone writes stay
pub Stands-with : (slots : ℕ) (v w : TablesView) (c d : Core) (pass : ℕ) (kept : Running) (u : ActiveTransaction) → Stands slots v c
    → w.ids ≡ v.ids → w.free ≡ v.free → w.zeros ≡ map has_no_strong d.cells → PutsAt v.transactions w.transactions pass kept → Locked v.locks w.locks pass u → IsRunning slots c.moment.state.committed kept u (c.moment.undone pass)
    → d.moment.state ≡ with_transaction c.moment.state pass u → ((q : ℕ) → d.moment.undone q ≡ c.moment.undone q) → IsSound d → ((x : ℕ) → is_live c.cells x ≡ true → is_live d.cells x ≡ true) → ((x : Write) → Contains kept.replaced x → CanLay slots d.cells x)
    → HasRest slots w d → Stands slots w d
Stands-with slots v w c d pass kept u h ids free zeros puts locked runs state undone sound alive lays rest =
    Stands-change slots v w c d (with_transaction c.moment.state pass u) pass kept u h (record {
      same_ids = ids;
      state_ids = refl;
      state_slots = refl;
      here = puts.here;
      others = puts.others;
      state_here = transaction_of-with_same c.moment.state pass u;
      state_others = λ q n. transaction_of-with_other c.moment.state pass q u n;
      undone_others = λ q n. undone q;
      runs = subst (λ k. IsRunning slots c.moment.state.committed kept u k) (sym (undone pass)) runs;
      owner = locked.owner;
      other_owners = locked.other_owners;
      sharer = locked.sharer;
      other_sharers = locked.other_sharers;
      graph = refl;
      free = λ id. ap (list_any (is_at (nat_cmp id))) free ∙ h.free id;
    }) state zeros sound alive lays rest
