-- One client's transaction changes, or begins; or it ends.
use Rattle.std.proofs.Common.{◌≡◌, ◌≢◌, ℕ, true, sym, ap, ◌∙◌, subst, Some, ⊎_elim, map}
use Rattle.std.specs.Prelude.{Contains}
use Rattle.std.specs.List.{list_any}
use Rattle.std.specs.Ordering.{nat_cmp}
use Rattle.std.specs.BTreeMap.{is_at}
use Rattle.plain_model.specs.declared.write.Write.{Write}
use Rattle.plain_model.specs.ActiveTransaction.{ActiveTransaction}
use Rattle.plain_model.specs.Machine.{State, transaction_of, is_among}
use Rattle.plain_laws.proofs.Entries.{same_or_apart}
use Rattle.strict_locks.specs.Locks.{holders_of, is_owner, is_sharer}
use Rattle.cell_model.specs.Cells.{is_live}
use Rattle.store_model.specs.Core.{Core}
use Rattle.store_model.specs.Sound.{IsSound}
use Rattle.core_store.specs.Changes.{has_no_strong}
use Rattle.core_store.specs.Transactions.{Running, running_at}
use Rattle.core_store.specs.Tables.{TablesView}
use Rattle.core_store.proofs.LayLaws.{CanLay-later}
use Rattle.core_store.proofs.MapLaws.{same_running}
use Rattle.core_store.proofs.RestLaws.{HasRest}
use Rattle.core_store.specs.Stands.{IsRunning, CanLay, Matches, owns_in, shares_in, is_free, Stands}

-- from v to w and from the state s to z, this client's transaction alone changes, and becomes u; the committed graph stays
pub record Changes (slots : ℕ) (v w : TablesView) (s z : State) (undone after : ℕ → ℕ) (pass : ℕ) (kept : Running) (u : ActiveTransaction) : Type 0 where
  pub same_ids : w.ids ≡ v.ids
  pub state_ids : z.ids ≡ s.ids
  pub state_slots : z.slots ≡ s.slots
  pub here : running_at w.transactions pass ≡ Some kept
  pub others : (q : ℕ) → q ≢ pass → running_at w.transactions q ≡ running_at v.transactions q
  pub state_here : transaction_of z pass ≡ Some u
  pub state_others : (q : ℕ) → q ≢ pass → transaction_of z q ≡ transaction_of s q
  pub undone_others : (q : ℕ) → q ≢ pass → after q ≡ undone q
  pub runs : IsRunning slots s.committed kept u (after pass)
  pub owner : (id : ℕ) → is_owner (holders_of w.locks id) pass ≡ is_among id u.owned
  pub other_owners : (id q : ℕ) → q ≢ pass → is_owner (holders_of w.locks id) q ≡ is_owner (holders_of v.locks id) q
  pub sharer : (id : ℕ) → is_sharer (holders_of w.locks id) pass ≡ is_among id u.shared
  pub other_sharers : (id q : ℕ) → q ≢ pass → is_sharer (holders_of w.locks id) q ≡ is_sharer (holders_of v.locks id) q
  pub graph : z.committed ≡ s.committed
  pub free : (id : ℕ) → list_any (is_at (nat_cmp id)) w.free ≡ is_free z id

module _ (slots : ℕ) (v w : TablesView) (c d : Core) (z : State) (pass : ℕ) (kept : Running) (u : ActiveTransaction) (h : Stands slots v c) (changes : Changes slots v w c.moment.state z c.moment.undone d.moment.undone pass kept u)
    (state_is : d.moment.state ≡ z) (zeros : w.zeros ≡ map has_no_strong d.cells) (sound : IsSound d)
    (alive : (x : ℕ) → is_live c.cells x ≡ true → is_live d.cells x ≡ true) (lays : (x : Write) → Contains kept.replaced x → CanLay slots d.cells x) (rest : HasRest slots w d) where
  restorable : (q : ℕ) (kept2 : Running) → running_at w.transactions q ≡ Some kept2 → (x : Write) → Contains kept2.replaced x → CanLay slots d.cells x
  restorable q kept2 f x k =
      ⊎_elim
      (λ (e : q ≡ pass). lays x (subst (λ (y : Running). Contains y.replaced x) (same_running (running_at w.transactions pass) kept2 kept (subst (λ p. running_at w.transactions p ≡ Some kept2) e f) changes.here) k))
      (λ (n : q ≢ pass). CanLay-later slots c.cells d.cells alive x (h.restorable q kept2 (sym (changes.others q n) ∙ f) x k))
      (same_or_apart q pass)

  running : (q : ℕ) → Matches slots c.moment.state.committed (running_at w.transactions q) (transaction_of z q) (d.moment.undone q)
  running q =
      ⊎_elim
      (λ (e : q ≡ pass). subst (λ p. Matches slots c.moment.state.committed (running_at w.transactions p) (transaction_of z p) (d.moment.undone p)) (sym e)
      (subst (λ o. Matches slots c.moment.state.committed o (transaction_of z pass) (d.moment.undone pass)) (sym changes.here)
      (subst (λ o. Matches slots c.moment.state.committed (Some kept) o (d.moment.undone pass)) (sym changes.state_here) changes.runs)))
      (λ (n : q ≢ pass).
      subst (λ o. Matches slots c.moment.state.committed o (transaction_of z q) (d.moment.undone q)) (sym (changes.others q n))
      (subst (λ o. Matches slots c.moment.state.committed (running_at v.transactions q) o (d.moment.undone q)) (sym (changes.state_others q n))
      (subst (λ k. Matches slots c.moment.state.committed (running_at v.transactions q) (transaction_of c.moment.state q) k) (sym (changes.undone_others q n)) (h.running q))))
      (same_or_apart q pass)

  owners : (id q : ℕ) → is_owner (holders_of w.locks id) q ≡ owns_in (transaction_of z q) id
  owners id q =
      ⊎_elim
      (λ (e : q ≡ pass). subst (λ p. is_owner (holders_of w.locks id) p ≡ owns_in (transaction_of z p) id) (sym e) (changes.owner id ∙ ap (λ o. owns_in o id) (sym changes.state_here)))
      (λ (n : q ≢ pass). changes.other_owners id q n ∙ (h.owners id q ∙ ap (λ o. owns_in o id) (sym (changes.state_others q n))))
      (same_or_apart q pass)

  sharers : (id q : ℕ) → is_sharer (holders_of w.locks id) q ≡ shares_in (transaction_of z q) id
  sharers id q =
      ⊎_elim
      (λ (e : q ≡ pass). subst (λ p. is_sharer (holders_of w.locks id) p ≡ shares_in (transaction_of z p) id) (sym e) (changes.sharer id ∙ ap (λ o. shares_in o id) (sym changes.state_here)))
      (λ (n : q ≢ pass). changes.other_sharers id q n ∙ (h.sharers id q ∙ ap (λ o. shares_in o id) (sym (changes.state_others q n))))
      (same_or_apart q pass)

  pub Stands-change : Stands slots w d
  Stands-change = record {
    ids = ap (λ (s : State). s.ids) state_is ∙ (changes.state_ids ∙ (h.ids ∙ sym changes.same_ids));
    few = rw changes.same_ids h.few;
    slots_are = ap (λ (s : State). s.slots) state_is ∙ (changes.state_slots ∙ h.slots_are);
    counted = h.counted;
    sound = sound;
    restorable = restorable;
    running = subst (λ (s : State). (q : ℕ) → Matches slots s.committed (running_at w.transactions q) (transaction_of s q) (d.moment.undone q)) (sym state_is)
        (λ q. subst (λ g. Matches slots g (running_at w.transactions q) (transaction_of z q) (d.moment.undone q)) (sym changes.graph) (running q));
    owners = subst (λ (s : State). (id q : ℕ) → is_owner (holders_of w.locks id) q ≡ owns_in (transaction_of s q) id) (sym state_is) owners;
    sharers = subst (λ (s : State). (id q : ℕ) → is_sharer (holders_of w.locks id) q ≡ shares_in (transaction_of s q) id) (sym state_is) sharers;
    free = subst (λ (s : State). (id : ℕ) → list_any (is_at (nat_cmp id)) w.free ≡ is_free s id) (sym state_is) changes.free;
    zeros = zeros;
    references = rest.references;
    queue = rest.queue;
    round = rest.round;
    in_step = rest.in_step;
    emptied = rest.emptied;
    tested = rest.tested;
    owed = rest.owed;
  }
