-- The graphs of cells with null slots.
use Rattle.std.proofs.Common.{◌≡◌, ⊎_elim, ℕ, zero, suc, Bool, true, false, cond, List, [], ◌∷◌, ◌++◌, map, replicate, refl, sym, ap, subst, ◌∙◌, Option, Some, None}
use Rattle.std.specs.Prelude.{option_map, Contains}
use Rattle.std.proofs.lemmas.List.{map-append}
use Rattle.std.proofs.lemmas.List.Elements.{All-contains, All-replicate, Contains-append_left, Contains-append_cases}
use Rattle.plain_model.specs.declared.object.Object.{Object}
use Rattle.plain_model.specs.Graphs.{root, object_at}
use Rattle.plain_model.specs.Reachable.{Reachable}
use Rattle.plain_model.proofs.ReachableLaws.{Reachable-least}
use Rattle.cell_model.specs.Cells.{Pointer, Cell, null, cell_at, is_live, object_of}
use Rattle.cell_model.specs.Graph.{graph_of}
use Rattle.cell_model.proofs.EditLaws.{live-within}
use Rattle.restart_laws.proofs.GraphLaws.{graph-object}
use Rattle.store_migration.specs.Wider.{wider, all_wider, with_null_slots}
use Rattle.store_migration.specs.WiderLaws.{SameObjectsLaw}
use Rattle.store_migration.proofs.WideCells.{wider-live, wider-cell}

targets-null : (n : ℕ) → map (λ (p : Pointer). p.target) (replicate n null) ≡ replicate n 0
targets-null zero = refl
targets-null (suc n) = rw (targets-null n) refl

object-wider : (more id : ℕ) (c : Cell) → object_of id (wider more c) ≡ with_null_slots more (object_of id c)
object-wider more id c =
    ap (λ (slots : List ℕ). record { id = id; slots = slots; payload = c.payload })
    (map-append (λ (p : Pointer). p.target) c.pointers (replicate more null) ∙ ap (λ (l : List ℕ). map (λ (p : Pointer). p.target) c.pointers ++ l) (targets-null more))

-- the graph has the same objects, with null slots
pub graph-wider : (more : ℕ) (cells : List Cell) (id : ℕ) → object_at (graph_of (all_wider more cells)) id ≡ option_map (with_null_slots more) (object_at (graph_of cells) id)
graph-wider more cells id = graph-object (all_wider more cells) id ∙ by (is_live cells id) refl ∙ ap (option_map (with_null_slots more)) (sym (graph-object cells id)) where
  by : (live : Bool) → is_live cells id ≡ live
      → cond (is_live (all_wider more cells) id) (Some (object_of id (cell_at (all_wider more cells) id))) None
      ≡ option_map (with_null_slots more) (cond (is_live cells id) (Some (object_of id (cell_at cells id))) None)
  by true is =
      rw (wider-live more cells id ∙ is, is)
      (ap (λ (c : Cell). Some (object_of id c)) (wider-cell more cells id (live-within cells id is)) ∙ ap Some (object-wider more id (cell_at cells id)))
  by false is = rw (wider-live more cells id ∙ is, is) refl

-- null values name nothing
only_null : (n y : ℕ) → Contains (replicate n 0) y → y ≡ 0
only_null n y has = All-contains (λ (x : ℕ). x ≡ 0) (replicate n 0) y (All-replicate (λ (x : ℕ). x ≡ 0) n 0 refl) has

module _ (more : ℕ) (g h : List Object) (are : (id : ℕ) → object_at h id ≡ option_map (with_null_slots more) (object_at g id)) where
  -- an object of the one graph is one of the other
  there : (id : ℕ) (o : Object) → object_at g id ≡ Some o → object_at h id ≡ Some (with_null_slots more o)
  there id o is = are id ∙ ap (option_map (with_null_slots more)) is

  back : (id : ℕ) (p : Object) → object_at h id ≡ Some p → (o : Object) × (object_at g id ≡ Some o) × (p ≡ with_null_slots more o)
  back id p is = by (object_at g id) refl where
    by : (found : Option Object) → object_at g id ≡ found → (o : Object) × (object_at g id ≡ Some o) × (p ≡ with_null_slots more o)
    by None none = let e : None ≡ Some p = ap (option_map (with_null_slots more)) (sym none) ∙ sym (are id) ∙ is in absurd (cc (e))
    by (Some o) some = let e : Some (with_null_slots more o) ≡ Some p = ap (option_map (with_null_slots more)) (sym some) ∙ sym (are id) ∙ is in (o, some, cc (e))

  forth : (starts : List ℕ) (id : ℕ) → Reachable g starts id → Reachable h starts id
  forth starts id reach =
      Reachable-least g starts (Reachable h starts)
      (record {
        starts = λ x o has is. Reachable.start x (with_null_slots more o) has (there x o is);
        steps = λ x y o p from is has apart to. Reachable.step x y (with_null_slots more o) (with_null_slots more p) from (there x o is) (Contains-append_left o.slots (replicate more 0) y has) apart (there y p to);
      })
      reach

  forth_back : (starts : List ℕ) (id : ℕ) → Reachable h starts id → Reachable g starts id
  forth_back starts id reach =
      Reachable-least h starts (Reachable g starts)
      (record {
        starts = λ x p has is. let o = back x p is in Reachable.start x o.0 has o.1;
        steps = λ x y p q from is has apart to.
            let o = back x p is in
            let wide : Contains (o.0.slots ++ replicate more 0) y = subst (λ (l : List ℕ). Contains l y) (ap (λ (a : Object). a.slots) o.2) has in
            let own : Contains o.0.slots y = ⊎_elim (λ here. here) (λ behind. absurd (apart (only_null more y behind))) (Contains-append_cases o.0.slots (replicate more 0) y wide) in
            let r = back y q to in
            Reachable.step x y o.0 r.0 from o.1 own apart r.1;
      })
      reach

pub same_objects : SameObjectsLaw
same_objects more cells =
    record {
      same = λ id. (
        forth_back more (graph_of cells) (graph_of (all_wider more cells)) (graph-wider more cells) (root ∷ []) id,
        forth more (graph_of cells) (graph_of (all_wider more cells)) (graph-wider more cells) (root ∷ []) id,
      );
      contents = λ id reach. graph-wider more cells id;
    }
