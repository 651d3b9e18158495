-- The begin and the end of the client's transaction.
use Rattle.std.proofs.Common.{◌≡◌, ℕ, true, false, List, [], ◌∷◌, Option, Some, None, refl, sym, ap, ◌∙◌, subst}
use Rattle.std.specs.Option.{option_map_or}
use Rattle.std.specs.Ordering.{nat_cmp}
use Rattle.std.specs.BTreeMap.{is_at}
use Rattle.std.specs.Map.{lookup}
use Rattle.plain_model.specs.declared.calls.Call.TheVariants as call
use Rattle.plain_model.specs.declared.calls.Reply.{Reply}
use Rattle.plain_model.specs.declared.calls.Reply.TheVariants as reply
use Rattle.plain_model.specs.Graphs.{root, has_object}
use Rattle.plain_model.specs.ActiveTransaction.{ActiveTransaction}
use Rattle.plain_model.specs.Machine.{State, is_stored, step, transaction_of, new_transaction, with_transaction, without_transaction, after_commit_of}
use Rattle.plain_model.proofs.StepLemmas.{step-begin, step-commit}
use Rattle.plain_laws.specs.Sound.{IsSoundGraph}
use Rattle.plain_laws.proofs.States.{sound-commit}
use Rattle.object_map.specs.Seen.{Seen, seen_of, seen_by, held, HasOnly, IsAlone}
use Rattle.object_map.specs.Clients.{free_ids}

-- the one transaction of a state
only_at : (s : State) (t : ActiveTransaction) → s.active ≡ (1, t) ∷ [] → transaction_of s 1 ≡ Some t
only_at s t e = ap (λ (l : List (ℕ × ActiveTransaction)). lookup (is_at (nat_cmp 1)) l) e

none_at : (s : State) → s.active ≡ [] → transaction_of s 1 ≡ None
none_at s e = ap (λ (l : List (ℕ × ActiveTransaction)). lookup (is_at (nat_cmp 1)) l) e

-- what the client sees then
seen_only : (s : State) (t : ActiveTransaction) → s.active ≡ (1, t) ∷ [] → seen_of s 1 ≡ seen_by s t
seen_only s t e = ap (λ (o : Option ActiveTransaction). option_map_or (λ u. seen_by s u) o (record { slots = s.slots; graph = []; registers = [] })) (only_at s t e)

-- ---- the begin

pub step_begins : (s : State) → s.active ≡ [] → step s 1 call.Begin ≡ (reply.Done, with_transaction s 1 new_transaction)
step_begins s e = step-begin s 1 (none_at s e)

pub record Begun (s n : State) : Type 0 where
  pub active : n.active ≡ (1, new_transaction) ∷ []
  pub committed : n.committed ≡ s.committed
  pub ids : n.ids ≡ s.ids
  pub stored : n.stored ≡ s.stored

pub begun : (s n : State) → s.active ≡ [] → n ≡ (step s 1 call.Begin).1 → Begun s n
begun s n e is =
    let now : n ≡ with_transaction s 1 new_transaction = is ∙ ap (λ (x : Reply × State). x.1) (step_begins s e) in
    record {
      active = ap (λ (x : State). x.active) now ∙ ap (λ (l : List (ℕ × ActiveTransaction)). (with_transaction (record s { active = l }) 1 new_transaction).active) e;
      committed = ap (λ (x : State). x.committed) now;
      ids = ap (λ (x : State). x.ids) now;
      stored = ap (λ (x : State). x.stored) now;
    }

pub begun_only : (s n : State) → Begun s n → HasOnly n 1
begun_only s n b = record { transaction = new_transaction; active = b.active; running = refl }

pub begun_rooted : (s n : State) → Begun s n → held (seen_of n 1) 0 ≡ Some root
begun_rooted s n b = ap (λ (v : Seen). held v 0) (seen_only n new_transaction b.active)

pub begun_same : (s n : State) → Begun s n → (seen_of n 1).graph ≡ n.committed
begun_same s n b = ap (λ (v : Seen). v.graph) (seen_only n new_transaction b.active)

-- ---- the end

pub step_commits : (s : State) (t : ActiveTransaction) → s.active ≡ (1, t) ∷ [] → t.aborting ≡ false → step s 1 call.Commit ≡ (reply.Done, after_commit_of s 1 t)
step_commits s t e running = step-commit s 1 t (only_at s t e) running

pub record Committed (s n : State) : Type 0 where
  pub active : n.active ≡ []
  pub committed : n.committed ≡ (seen_of s 1).graph
  pub ids : n.ids ≡ s.ids
  pub stored : n.stored ≡ s.stored

pub committed : (s n : State) (t : ActiveTransaction) → s.active ≡ (1, t) ∷ [] → t.aborting ≡ false → n ≡ (step s 1 call.Commit).1 → Committed s n
committed s n t e running is =
    let now : n ≡ after_commit_of s 1 t = is ∙ ap (λ (x : Reply × State). x.1) (step_commits s t e running) in
    record {
      active = ap (λ (x : State). x.active) now ∙ ap (λ (l : List (ℕ × ActiveTransaction)). (without_transaction (record s { active = l }) 1).active) e;
      committed = ap (λ (x : State). x.committed) now ∙ sym (ap (λ (v : Seen). v.graph) (seen_only s t e));
      ids = ap (λ (x : State). x.ids) now;
      stored = ap (λ (x : State). x.stored) now;
    }

-- the graph that the commit is to leave is the one that the client sees, and it is sound
pub asked_graph : (s : State) (a : IsAlone s 1) → (step s 1 call.Commit).1.committed ≡ (seen_of s 1).graph
asked_graph s a = ap (λ (x : Reply × State). x.1.committed) (step_commits s a.transaction a.active a.running) ∙ sym (ap (λ (v : Seen). v.graph) (seen_only s a.transaction a.active))

pub asked_sound : (s : State) (a : IsAlone s 1) → IsSoundGraph (step s 1 call.Commit).1.committed
asked_sound s a =
    subst (λ (x : Reply × State). IsSoundGraph x.1.committed) (sym (step_commits s a.transaction a.active a.running)) (sound-commit s 1 a.transaction a.sound (only_at s a.transaction a.active)).committed

-- each object there is stored now
pub asked_stored : (s : State) (a : IsAlone s 1) (id : ℕ) → has_object (step s 1 call.Commit).1.committed id ≡ true → is_stored s.stored id ≡ true
asked_stored s a id h =
    (sound-commit s 1 a.transaction a.sound (only_at s a.transaction a.active)).committed_stored id (subst (λ (x : Reply × State). has_object x.1.committed id ≡ true) (step_commits s a.transaction a.active a.running) h)

pub free_same : (s n : State) → n.ids ≡ s.ids → n.stored ≡ s.stored → free_ids n ≡ free_ids s
free_same s n i e = ap (λ (l : List ℕ). free_ids (record n { stored = l })) e ∙ ap (λ k. free_ids (record s { ids = k })) i
