-- Who holds an object, by the table of locks and by the reference machine's transactions.
use Rattle.std.proofs.Common.{◌≡◌, ℕ, true, false, refl, sym, ap, ◌∙◌, Option, Some, None}
use Rattle.std.specs.Prelude.{◌||◌}
use Rattle.std.specs.Option.{option_map_or}
use Rattle.plain_model.specs.ActiveTransaction.{ActiveTransaction}
use Rattle.plain_model.specs.Machine.{transaction_of}
use Rattle.plain_model.specs.History.{holds}
use Rattle.strict_locks.specs.Locks.{holders_of, is_holder, is_sharer, Holds}
use Rattle.store_model.specs.Core.{Core, IsActive}
use Rattle.store_model.proofs.ActiveLaws.{active-at}
use Rattle.store_model.proofs.EndLaws.{transaction-active}
use Rattle.core_store.specs.Tables.{TablesView}
use Rattle.core_store.specs.Stands.{owns_in, shares_in, Stands}

both : (o : Option ActiveTransaction) (id : ℕ) → (owns_in o id || shares_in o id) ≡ option_map_or (λ t. holds id t) o false
both None id = refl
both (Some t) id = refl

module _ (slots : ℕ) (v : TablesView) (c : Core) (h : Stands slots v c) where
  -- a client holds an object in the table where its transaction holds it
  pub holder-same : (id pass : ℕ) → is_holder (holders_of v.locks id) pass ≡ option_map_or (λ t. holds id t) (transaction_of c.moment.state pass) false
  holder-same id pass = ap (λ b. b || is_sharer (holders_of v.locks id) pass) (h.owners id pass) ∙ (ap (λ b. owns_in (transaction_of c.moment.state pass) id || b) (h.sharers id pass) ∙ both (transaction_of c.moment.state pass) id)

  -- so an active client holds what has a holder
  pub holder-active : (id pass : ℕ) → Holds (holders_of v.locks id) pass → (e : ℕ × ActiveTransaction) × IsActive c e × (holds id e.1 ≡ true)
  holder-active id pass e = at (transaction_of c.moment.state pass) refl (sym (holder-same id pass) ∙ e)
    where
      at : (o : Option ActiveTransaction) → transaction_of c.moment.state pass ≡ o → option_map_or (λ t. holds id t) o false ≡ true → (e : ℕ × ActiveTransaction) × IsActive c e × (holds id e.1 ≡ true)
      at None f e = absurd (cc)
      at (Some t) f e = ((pass, t), transaction-active c.moment.state h.sound.state pass t f, e)

  -- and what an active client holds has that holder
  pub active-holder : (id : ℕ) (e : ℕ × ActiveTransaction) → IsActive c e → holds id e.1 ≡ true → Holds (holders_of v.locks id) e.0
  active-holder id e m k = holder-same id e.0 ∙ (ap (λ (o : Option ActiveTransaction). option_map_or (λ t. holds id t) o false) (active-at c.moment.state.active h.sound.state.passes e m) ∙ k)
