-- A transaction of the tables is one of the reference machine's.
use Rattle.std.proofs.Common.{◌≡◌, ℕ, List, Bool, true, false, refl, subst, Option, Some, None}
use Rattle.std.specs.Prelude.{if◌then◌else◌}
use Rattle.plain_model.specs.declared.object.Object.{Object}
use Rattle.plain_model.specs.declared.calls.Reply.TheVariants.{Aborting}
use Rattle.plain_model.specs.ActiveTransaction.{ActiveTransaction}
use Rattle.plain_model.specs.Machine.{transaction_of}
use Rattle.plain_model.specs.History.{Moment}
use Rattle.store_model.specs.Core.{Core}
use Rattle.core_store.specs.Transactions.{Running, running_at}
use Rattle.core_store.specs.Refusals.{if_not_running}
use Rattle.core_store.specs.Tables.{TablesView}
use Rattle.core_store.specs.Stands.{IsRunning, Matches, Stands}

pub contradict : {X : Type 0} (b : Bool) → b ≡ true → b ≡ false → X
contradict b t f = absurd (cc)

pub not_true : (b : Bool) → (b ≡ true → ⊥) → b ≡ false
not_true true h = absurd (h refl)
not_true false h = refl

-- the machine's transaction of a client that has this one in the tables
pub record HasActive (slots : ℕ) (m : Moment) (pass : ℕ) (kept : Running) : Type 0 where
  pub transaction : ActiveTransaction
  pub found : transaction_of m.state pass ≡ Some transaction
  pub runs : IsRunning slots m.state.committed kept transaction (m.undone pass)

matched : (slots : ℕ) (g : List Object) (kept : Running) (o : Option ActiveTransaction) (n : ℕ) → Matches slots g (Some kept) o n → (t : ActiveTransaction) × (o ≡ Some t) × IsRunning slots g kept t n
matched slots g kept (Some t) n h = (t, refl, h)
matched slots g kept None n h = absurd h

pub active-of : {slots : ℕ} {v : TablesView} {core : Core} → Stands slots v core → (pass : ℕ) (kept : Running) → running_at v.transactions pass ≡ Some kept → HasActive slots core.moment pass kept
active-of {slots} {v} {core} h pass kept e =
    let a = matched slots core.moment.state.committed kept (transaction_of core.moment.state pass) (core.moment.undone pass) (subst (λ o. Matches slots core.moment.state.committed o (transaction_of core.moment.state pass) (core.moment.undone pass)) e (h.running pass)) in
    record { transaction = a.0; found = a.1; runs = a.2 }

none_matched : (slots : ℕ) (g : List Object) (o : Option ActiveTransaction) (n : ℕ) → Matches slots g None o n → o ≡ None
none_matched slots g None n h = refl
none_matched slots g (Some t) n h = absurd h

pub inactive-of : {slots : ℕ} {v : TablesView} {core : Core} → Stands slots v core → (pass : ℕ) → running_at v.transactions pass ≡ None → transaction_of core.moment.state pass ≡ None
inactive-of {slots} {v} {core} h pass e =
    none_matched slots core.moment.state.committed (transaction_of core.moment.state pass) (core.moment.undone pass) (subst (λ o. Matches slots core.moment.state.committed o (transaction_of core.moment.state pass) (core.moment.undone pass)) e (h.running pass))

-- a client without a refusal has a transaction that isn't being undone
pub running-alive : (o : Option Running) → if_not_running o ≡ None → (kept : Running) × (o ≡ Some kept) × (kept.aborting ≡ false)
running-alive None e = absurd (cc)
running-alive (Some kept) e = (kept, refl, by kept.aborting e)
  where
    by : (b : Bool) → (if b then Some Aborting else None) ≡ None → b ≡ false
    by true k = absurd (cc)
    by false k = refl
