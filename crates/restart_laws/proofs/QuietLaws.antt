-- Where no client is active, a sound journal's cells stand for what the root reaches in the committed graph.
use Rattle.std.proofs.Common.{◌≡◌, ℕ, List, [], ◌∷◌, true, false, refl, sym, ap, ◌∙◌, subst, arith, Option, Some, None}
use Rattle.std.specs.Prelude.{Contains, slice_index, is_some}
use Rattle.std.proofs.lemmas.List.{get_or_default}
use Rattle.plain_model.specs.declared.object.Object.{Object}
use Rattle.plain_model.specs.Graphs.{root, object_at, has_object}
use Rattle.plain_model.specs.Reachable.{Reachable, start, step}
use Rattle.plain_model.specs.Outcomes.{outcome, held_references}
use Rattle.plain_model.specs.History.{SameReachable, IsId}
use Rattle.plain_model.proofs.LawProofs.{outcome-none_proof, Reachable-same_proof}
use Rattle.plain_model.proofs.ReachableLaws.{Reachable-least, Reachable-more_starts}
use Rattle.plain_laws.specs.Sound.{IsSoundGraph}
use Rattle.cell_model.specs.Cells.{is_live}
use Rattle.store_model.specs.Core.{Core, current}
use Rattle.store_model.specs.Sound.{IsSound}
use Rattle.store_model.proofs.Lists.{Contains-here}
use Rattle.store_model.proofs.OnceLaws.{only-one}
use Rattle.cell_model.proofs.EditLaws.{live-there, live-within}
use Rattle.store_model.proofs.DeletionLaws.{some_outcome-kept}
use Rattle.cell_model.specs.Graph.{graph_of}
use Rattle.restart_laws.proofs.GraphLaws.{graph-live, graph-has}

some-there : (o : Option Object) → is_some o ≡ true → (x : Object) × (o ≡ Some x)
some-there (Some x) h = (x, refl)
some-there None h = cc

-- a graph that has the objects that the root reaches in a sound one reaches just these from the root
pub same-reached : (h g : List Object) → IsSoundGraph g → ((x : ℕ) → Reachable g (root ∷ []) x → object_at h x ≡ object_at g x) → SameReachable h g
same-reached h g s e =
    let at_root = some-there (object_at g root) s.rooted in
    let from_root : Reachable g (root ∷ []) root = start root at_root.0 (Contains-here root []) at_root.1 in
    record {
      same = λ x. (
        (λ r. Reachable-least h (root ∷ []) (λ y. Reachable g (root ∷ []) y) (record {
          starts = λ y o m f. subst (λ z. Reachable g (root ∷ []) z) (only-one root y m) from_root;
          steps = λ y z o p k f m nz q.
              let here : object_at g y ≡ Some o = sym (e y k) ∙ f in
              let named : slice_index o.slots m.0 ≡ z = get_or_default o.slots m.0 0 z m.1 ∙ m.2 in
              let there = some-there (object_at g z) (s.closed y z m.0 o k here named nz) in
              step y z o there.0 k here m nz there.1;
        }) r),
        (λ r. Reachable-same_proof g h (root ∷ []) (λ y m. subst (λ z. object_at h z ≡ object_at g z) (only-one root y m) (e root from_root)) e x r),
      );
      contents = e;
    }

-- one graph after another
pub same-same : (a b c : List Object) → SameReachable a b → SameReachable b c → SameReachable a c
same-same a b c f g = record {
  same = λ x. ((λ r. (g.same x).0 ((f.same x).0 r)), (λ r. (f.same x).1 ((g.same x).1 r)));
  contents = λ x r. f.contents x ((g.same x).1 r) ∙ g.contents x r;
}

pub same-self : (a : List Object) → SameReachable a a
same-self a = record { same = λ x. ((λ r. r), (λ r. r)); contents = λ x r. refl }

-- the cells of a sound journal stand for what the root reaches in the committed graph, where no client is active
pub quiet-same : (c : Core) → IsSound c → c.moment.state.active ≡ [] → SameReachable (graph_of c.cells) c.moment.state.committed
quiet-same c s q = same-reached (graph_of c.cells) c.moment.state.committed s.state.committed (λ x r.
    let none = outcome-none_proof c.moment.state in
    let kept = some_outcome-kept c s x (
      (λ _. false),
      Reachable-more_starts (outcome c.moment.state (λ _. false)) (root ∷ []) (held_references c.moment.state) (λ y m. subst (λ z. Contains (held_references c.moment.state) z) (only-one root y m) (Contains-here root _)) x
          (subst (λ g. Reachable g (root ∷ []) x) (sym none) r),
    ) in
    let now = s.kept x kept in
    let is : current c.moment ≡ c.moment.state.committed = ap (λ (l : List (ℕ × _)). current (record c.moment { state = record c.moment.state { active = l } })) q in
    graph-live c.cells x now.live ∙ (sym now.contents ∙ ap (λ g. object_at g x) is))

-- its objects have ids of the store
pub graph-ids : (c : Core) → IsSound c → (id : ℕ) → has_object (graph_of c.cells) id ≡ true → IsId c.moment.state.ids id
graph-ids c s id h =
    let l : is_live c.cells id ≡ true = sym (graph-has c.cells id) ∙ h in
    let n = live-there c.cells id s.consistent.exact.none l in
    let w = live-within c.cells id l in
    let z = s.consistent.sized in
    (omega (arith, n), omega (arith, w, z))
