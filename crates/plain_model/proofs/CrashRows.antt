-- Worked crashes: a commit that the disk failed may be lost or kept, and an acknowledged one is kept.
use Rattle.std.proofs.Common.{◌≡◌, ℕ, zero, suc, ◌<◌, ◌≤◌, List, [], ◌∷◌, ◌++◌, Some, refl, sym, ◌∙◌, arith, true, false, inr}
use Rattle.std.specs.Prelude.{if◌then◌else◌, ◌==◌, drop, All, is_some}
use Rattle.std.specs.List.{AllByRecursion}
use Rattle.std.proofs.lemmas.List.Elements.{All-from_recursion, recursion_from_All}
use Rattle.std.proofs.lemmas.Bool.Decides.{nat_tests}
use Rattle.plain_model.specs.declared.object.Object.{Object}
use Rattle.plain_model.specs.declared.calls.Call.TheVariants.{Begin, Make, Store, SetPay, Commit}
use Rattle.plain_model.specs.declared.calls.Reply.TheVariants.{Done, Id, DiskFault}
use Rattle.plain_model.specs.declared.calls.Entry.{Entry}
use Rattle.plain_model.specs.declared.calls.Entry.TheVariants.{Call, Crash}
use Rattle.plain_model.specs.Graphs.{root, blank, object_at, has_object}
use Rattle.plain_model.specs.Machine.{step}
use Rattle.plain_model.specs.Reachable.{start}
use Rattle.plain_model.specs.History.{Moment, CommitPoint, IsLegal, IsAllowed, IsCrashConsistent, SameReachable, IsId, end_of, graph_after}
use Rattle.plain_model.proofs.HistoryRows.{opened_with, answered, linked_graph}

-- client 1 makes and links object 2 and is told of its commit; the disk fails its next one, which sets the root's payload
abbrev pub failing : List Entry
failing = Call 1 Begin Done ∷ Call 1 (Make 1) (Id 2) ∷ Call 1 (Store 0 0 (Some 1)) Done ∷ Call 1 Commit Done ∷ Call 1 Begin Done ∷ Call 1 (SetPay 0 5) Done ∷ Call 1 Commit DiskFault ∷ []

abbrev failed : Moment
failed = end_of (opened_with failing)

abbrev paid_graph : List Object
paid_graph = record { id = 1; slots = 2 ∷ 0 ∷ 0 ∷ 0 ∷ 0 ∷ 0 ∷ []; payload = 5 } ∷ blank 6 2 ∷ []

-- the graph just after each commit
failed-graphs : (graph_after failed 0 ≡ blank 6 root ∷ []) × (graph_after failed 1 ≡ linked_graph) × (graph_after failed 2 ≡ paid_graph)
unfolding step
failed-graphs = (refl, refl, refl)

-- every object of the graph has an id of the store
ids_of_store : (g : List Object) → AllByRecursion (λ o. IsId 8 o.id) g → (id : ℕ) → has_object g id ≡ true → IsId 8 id
ids_of_store [] a id h = absurd (cc)
ids_of_store (o ∷ os) a id h =
    elim (o.id == id) as (λ b. o.id == id ≡ b → is_some (if b then Some o else object_at os id) ≡ true → IsId 8 id) [ true ↦ λ e f. let same : o.id ≡ id = grind (arith, nat_tests, e) in rw same at a.0 | false ↦ λ e f. ids_of_store os a.1 id f ] refl h

one_and_two : (0 < 1) × (1 ≤ 8) × (0 < 2) × (2 ≤ 8) × (1 < 2)
one_and_two = (omega arith, omega arith, omega arith, omega arith, omega arith)

same : (g : List Object) → SameReachable g g
same g = record { same = λ x. ((λ r. r), (λ r. r)); contents = λ x r. refl }

none_acknowledged : AllByRecursion {X = CommitPoint} (λ c. c.acknowledged ≡ false) (drop 1 failed.commits)
unfolding step
none_acknowledged = (refl, tt)

-- the commit that the disk failed is lost
lost : IsCrashConsistent failed linked_graph
unfolding step
lost = record {
  graph = ((one_and_two.4, tt), (tt, tt));
  ids = ids_of_store linked_graph ((one_and_two.0, one_and_two.1), ((one_and_two.2, one_and_two.3), tt));
  prefix = 1;
  within = omega arith;
  has_acknowledged = All-from_recursion (λ (c : CommitPoint). c.acknowledged ≡ false) (drop 1 failed.commits) none_acknowledged;
  reachable = same linked_graph;
}

-- or it is kept
kept : IsCrashConsistent failed paid_graph
unfolding step
kept = record {
  graph = ((one_and_two.4, tt), (tt, tt));
  ids = ids_of_store paid_graph ((one_and_two.0, one_and_two.1), ((one_and_two.2, one_and_two.3), tt));
  prefix = 2;
  within = omega arith;
  has_acknowledged = All-from_recursion (λ (c : CommitPoint). c.acknowledged ≡ false) [] tt;
  reachable = same paid_graph;
}

differ : {g h : List Object} → SameReachable g h → (o p : Object) → object_at h root ≡ Some o → object_at g root ≡ Some p → o.slots ≡ p.slots
differ s o p e f =
    let c = s.contents root (start root o (0, omega arith, refl) e) in
    let both : Some o ≡ Some p = sym e ∙ (sym c ∙ f) in
    cc

two_or_none : {xs : List ℕ} → 2 ∷ xs ≡ 0 ∷ xs → ⊥
two_or_none e = cc

true_or_false : true ≡ false → ⊥
true_or_false e = cc

-- the acknowledged commit may not be lost
acknowledged_kept : IsCrashConsistent failed (blank 6 root ∷ []) → ⊥
unfolding step
acknowledged_kept c = by c.prefix c.within c.has_acknowledged c.reachable
  where
    by : (n : ℕ) → n ≤ 2 → All {X = CommitPoint} (λ c. c.acknowledged ≡ false) (drop n failed.commits) → SameReachable (blank 6 root ∷ []) (graph_after failed n) → ⊥
    by zero l a s = let all = recursion_from_All (λ (c : CommitPoint). c.acknowledged ≡ false) failed.commits a in true_or_false all.0
    by (suc zero) l a s = two_or_none (differ s (record { id = 1; slots = 2 ∷ 0 ∷ 0 ∷ 0 ∷ 0 ∷ 0 ∷ []; payload = 0 }) (blank 6 root) refl refl)
    by (suc (suc zero)) l a s = two_or_none (differ s (record { id = 1; slots = 2 ∷ 0 ∷ 0 ∷ 0 ∷ 0 ∷ 0 ∷ []; payload = 5 }) (blank 6 root) refl refl)
    by (suc (suc (suc n))) l a s = omega arith

-- the history is legal up to the crash, and goes on from what it leaves
crashing-legal : IsLegal (opened_with (failing ++ Crash linked_graph ∷ Call 2 Begin Done ∷ []))
unfolding step
crashing-legal = (
  answered _ 1 Begin Done refl refl (λ e. cc),
  (
    answered _ 1 (Make 1) (Id 2) refl refl (λ e. cc),
    (
      answered _ 1 (Store 0 0 (Some 1)) Done refl refl (λ e. cc),
      (
        answered _ 1 Commit Done refl refl (λ e. cc),
        (
          answered _ 1 Begin Done refl refl (λ e. cc),
          (answered _ 1 (SetPay 0 5) Done refl refl (λ e. cc), ((refl, record { machine = inr (refl, refl, refl); undone = λ a d. absurd (cc) }), (lost, (answered _ 2 Begin Done refl refl (λ e. cc), tt)))),
        ),
      ),
    ),
  ),
)

-- nothing but a crash may follow a commit that the disk failed
only_a_crash : IsAllowed failed (Call 2 Begin Done) → ⊥
unfolding step
only_a_crash a = true_or_false a.0
