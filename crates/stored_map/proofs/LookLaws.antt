-- Looks at the map, one after another.
use Rattle.std.proofs.Common.{◌≡◌, ℕ, List, [], Some, None, refl, sym, ◌∙◌, subst, arith}
use Rattle.plain_model.specs.declared.object.Object.{Object}
use Rattle.plain_model.specs.Graphs.{root}
use Rattle.logged_journal.specs.View.{LoggedView}
use Rattle.map_calls.specs.declared.failure.Failure.TheVariants as failure
use Rattle.map_calls.specs.Views.{StoreView}
use Rattle.object_map.specs.declared.refusal.MapRefusal.{MapRefusal}
use Rattle.object_map.specs.Seen.{held}
use Rattle.object_map.specs.Clients.{ClientView, state_of, seen, free_ids, Asks, Fails, no_id}
use Rattle.object_map.specs.Maps.{IsMap}
use Rattle.stored_map.specs.Graphs.{KeepsMap, pairs_in}
use Rattle.stored_map.specs.Stores.{IsUnmarked}
use Rattle.stored_map.specs.Steps.{Stays, Refuses, OnlyLooks, IsLooked, failure_in}
use Rattle.stored_map.proofs.StepLaws.{asks_stays, asks_marks, run_number, marks_then, unmarked_then, marked_none, fails_refuses}
use Rattle.stored_map.proofs.ViewLaws.{looked_on}

pub stays_then : {D : Type 0} (u v w : LoggedView D) → Stays u v → Stays v w → Stays u w
stays_then u v w a b = record { committed = b.committed ∙ a.committed; ids = b.ids ∙ a.ids; disk = b.disk ∙ a.disk; running = b.running; limits = b.limits ∙ a.limits }

pub looks_first : {D : Type 0} (c : ClientView D) → held (seen c) 0 ≡ Some root → c.store.failed ≡ None → OnlyLooks c c
looks_first c r f = record {
  graph = refl;
  rooted = r;
  stays = record { committed = refl; ids = refl; disk = refl; running = f; limits = refl };
  marks = record { history = refl; log = refl };
  free = refl;
  number = refl;
}

pub looks_more : {D : Type 0} (looks : ℕ) (c d e : ClientView D) → OnlyLooks c d → Asks looks [] d e → held (seen e) 0 ≡ Some root → (seen e).graph ≡ (seen d).graph → OnlyLooks c e
looks_more looks c d e l a r g =
    let free : free_ids (state_of e) ≡ free_ids (state_of d) = (let f = a.free in omega (arith, f)) in
    record {
      graph = g ∙ l.graph;
      rooted = r;
      stays = stays_then c.store d.store e.store l.stays (asks_stays looks [] d e l.stays.running a);
      marks = marks_then c.store d.store e.store l.marks (asks_marks looks [] d e a);
      free = free ∙ l.free;
      number = run_number a.made d e a.run ∙ l.number;
    }

-- a further look was refused
pub looks_refused : {D : Type 0} (why : MapRefusal) (c d e : ClientView D) → OnlyLooks c d → IsUnmarked c.store → Fails why d e → (why ≡ no_id → ⊥) → Refuses (failure_in why) c.store e.store
looks_refused why c d e l u f n =
    let r = fails_refuses why d e l.stays.running (unmarked_then c.store d.store u l.marks) f n in
    record { stays = stays_then c.store d.store e.store l.stays r.stays; no_disk = r.no_disk; marked = r.marked }

-- there was no memory for what was seen
pub looks_starved : {D : Type 0} (c d : ClientView D) → OnlyLooks c d → IsUnmarked c.store → Refuses failure.Memory c.store d.store
looks_starved c d l u = record {
  stays = l.stays;
  no_disk = λ e. absurd (cc (e));
  marked = marked_none failure.Memory d.store (unmarked_then c.store d.store u l.marks) (λ e. absurd (cc (e))) (λ e. absurd (cc (e)));
}

pub looked_looks : {D : Type 0} (faults : D → ℕ) (before : StoreView) (c d : ClientView D) → IsLooked faults before c → OnlyLooks c d → IsLooked faults before d
looked_looks faults before c d k l = looked_on faults before c d k l.stays l.marks l.number l.rooted l.graph l.free

-- what the client sees keeps the map still
pub map_seen : {D : Type 0} (c d : ClientView D) → OnlyLooks c d → KeepsMap (seen c).graph → IsMap 13 (seen d).graph (pairs_in (seen c).graph)
map_seen c d l m = subst (λ (g : List Object). IsMap 13 g (pairs_in (seen c).graph)) (sym l.graph) m
