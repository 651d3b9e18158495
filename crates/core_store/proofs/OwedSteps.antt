-- What is owed after a client's transaction changes, or begins.
use Rattle.std.proofs.Common.{◌≡◌, ◌≢◌, ℕ, ◌+◌, refl, sym, ap, ◌∙◌, subst, length, Some, None}
use Rattle.plain_model.specs.ActiveTransaction.{ActiveTransaction}
use Rattle.plain_model.specs.Machine.{State, transaction_of, with_transaction}
use Rattle.plain_laws.proofs.Locks.{transaction_of-with_same, transaction_of-with_other}
use Rattle.store_model.specs.Core.{Core}
use Rattle.store_model.specs.Sound.{IsSound}
use Rattle.core_store.specs.Owed.{entries_owed}
use Rattle.core_store.specs.Transactions.{Running}
use Rattle.core_store.specs.Stands.{IsRunning}
use Rattle.core_store.proofs.OwedLaws.{owed-kept, owed-kept_begun}

-- from c to d, where the state becomes z, this client's transaction alone changes, and becomes u; the committed graph stays
module _ (slots : ℕ) (c d : Core) (z : State) (pass : ℕ) (kept : Running) (u : ActiveTransaction) (before : IsSound c) (sound : IsSound d) (state_is : d.moment.state ≡ z) (graph : z.committed ≡ c.moment.state.committed)
    (here : transaction_of z pass ≡ Some u) (others : (q : ℕ) → q ≢ pass → transaction_of z q ≡ transaction_of c.moment.state q) (undone : (q : ℕ) → q ≢ pass → d.moment.undone q ≡ c.moment.undone q) (runs : IsRunning slots c.moment.state.committed kept u (d.moment.undone pass)) where
  pub owed-changed : (old : Running) (t : ActiveTransaction) → transaction_of c.moment.state pass ≡ Some t → IsRunning slots c.moment.state.committed old t (c.moment.undone pass) → (a b : ℕ) → a ≡ entries_owed c.moment → b + (length old.replaced + 1) ≡ a + (length kept.replaced + 1) → b ≡ entries_owed d.moment
  owed-changed old t found was a b is change =
      owed-kept c.moment d.moment pass before.state.passes sound.state.passes (λ q n. ap (λ (s : State). transaction_of s q) state_is ∙ others q n) undone slots old kept t u c.moment.state.committed found was (ap (λ (s : State). transaction_of s pass) state_is ∙ here)
      (ap (λ (s : State). s.committed) state_is ∙ graph) runs a b is change

  pub owed-begun_with : transaction_of c.moment.state pass ≡ None → (a b : ℕ) → a ≡ entries_owed c.moment → b ≡ a + (length kept.replaced + 1) → b ≡ entries_owed d.moment
  owed-begun_with none a b is change =
      owed-kept_begun c.moment d.moment pass before.state.passes sound.state.passes (λ q n. ap (λ (s : State). transaction_of s q) state_is ∙ others q n) undone slots kept u c.moment.state.committed none (ap (λ (s : State). transaction_of s pass) state_is ∙ here)
      (ap (λ (s : State). s.committed) state_is ∙ graph) runs a b is change

-- the same where the client's transaction alone changes in the state
pub owed-with : (slots : ℕ) (c d : Core) (pass : ℕ) (old kept : Running) (t u : ActiveTransaction) → IsSound c → IsSound d → d.moment.state ≡ with_transaction c.moment.state pass u → d.moment.undone ≡ c.moment.undone
    → transaction_of c.moment.state pass ≡ Some t → IsRunning slots c.moment.state.committed old t (c.moment.undone pass) → IsRunning slots c.moment.state.committed kept u (c.moment.undone pass) → (a b : ℕ) → a ≡ entries_owed c.moment → b + (length old.replaced + 1) ≡ a + (length kept.replaced + 1) → b ≡ entries_owed d.moment
owed-with slots c d pass old kept t u before sound state_is undone found was runs a b is change =
    owed-changed slots c d (with_transaction c.moment.state pass u) pass kept u before sound state_is refl (transaction_of-with_same c.moment.state pass u) (λ q n. transaction_of-with_other c.moment.state pass q u n) (λ q n. ap (λ (f : ℕ → ℕ). f q) undone)
    (subst (λ (f : ℕ → ℕ). IsRunning slots c.moment.state.committed kept u (f pass)) (sym undone) runs) old t found was a b is change
