-- A store that opens to consistent cells is a sound journal.
use Rattle.std.proofs.Common.{◌≡◌, ℕ, List, [], ◌∷◌, Bool, true, false, refl, sym, ap, ◌∙◌, subst, cond, Some, inl}
use Rattle.std.specs.Prelude.{Contains, slice_index, is_some, ◌==◌, ◌||◌}
use Rattle.std.specs.Option.{option_map_or}
use Rattle.plain_model.specs.declared.object.Object.{Object}
use Rattle.plain_model.specs.Graphs.{root, object_at, has_object, ids_of}
use Rattle.plain_model.specs.Machine.{is_stored}
use Rattle.plain_laws.specs.Sound.{IsSoundGraph}
use Rattle.plain_laws.proofs.Legal.{sound-opening}
use Rattle.plain_laws.proofs.Ids.{at_eq}
use Rattle.cell_model.specs.Cells.{Cell, cell_at, pointer_at, is_live}
use Rattle.store_model.specs.Core.{slot_in}
use Rattle.store_model.specs.Sound.{IsHeld, as_root, by_pass, IsKept, IsSound}
use Rattle.cell_model.specs.Consistent.{AreConsistent}
use Rattle.store_model.proofs.DeletionLaws.{target-map}
use Rattle.store_model.proofs.StepLaws.{Kept-least}
use Rattle.store_model.proofs.OnceLaws.{nothing-in, once-none}
use Rattle.cell_model.specs.Graph.{graph_of}
use Rattle.restart_laws.specs.Graph.{opened_core}
use Rattle.restart_laws.proofs.GraphLaws.{graph-live, graph-has, graph-graph}
use Rattle.restart_laws.proofs.ZeroLaws.{zeros-once, zeros-all, zeros-only}

-- an object of the graph is a live cell's
there-live : (cells : List Cell) (id : ℕ) (o : Object) → object_at (graph_of cells) id ≡ Some o → is_live cells id ≡ true
there-live cells id o e = sym (graph-has cells id) ∙ ap is_some e

-- what the graph has in a slot is what the cell has
slot-there : (cells : List Cell) (id slot : ℕ) → is_live cells id ≡ true → slot_in (graph_of cells) id slot ≡ (pointer_at cells id slot).target
slot-there cells id slot l = ap (λ o. option_map_or (λ (o : Object). slice_index o.slots slot) o 0) (graph-live cells id l) ∙ target-map (cell_at cells id).pointers slot

-- the stored ids of a graph are those of its objects
stored-has : (g : List Object) (i : ℕ) → is_stored (ids_of g) i ≡ has_object g i
stored-has [] i = refl
stored-has (o ∷ os) i = ap (λ b. b || is_stored (ids_of os) i) (at_eq i o.id) ∙ by (o.id == i) (stored-has os i)
  where
    by : (b : Bool) → is_stored (ids_of os) i ≡ has_object os i → (b || is_stored (ids_of os) i) ≡ is_some (cond b (Some o) (object_at os i))
    by true e = refl
    by false e = e

module _ (ids slots : ℕ) (cells : List Cell) (k : AreConsistent slots ids cells) where
  pub graph-sound : IsSoundGraph (graph_of cells)
  graph-sound = record {
    graph = graph-graph cells;
    rooted = graph-has cells root ∙ k.exact.root_live;
    closed = λ x y j o r e f n.
        let l = there-live cells x o e in
        let same : slot_in (graph_of cells) x j ≡ y = ap (λ o. option_map_or (λ (o : Object). slice_index o.slots j) o 0) e ∙ f in
        let at : (pointer_at cells x j).target ≡ y = sym (slot-there cells x j l) ∙ same in
        graph-has cells y ∙ subst (λ z. is_live cells z ≡ true) at (k.exact.closed x j l (λ z. n (sym at ∙ z)));
  }

  kept-live : {id : ℕ} → IsKept (opened_core ids slots cells) id → is_live cells id ≡ true
  kept-live h = Kept-least [] (λ e. Contains [] e) (graph_of cells) (λ x. is_live cells x ≡ true) held
      (λ x j l n. (let at = slot-there cells x j l in subst (λ z. is_live cells z ≡ true) (sym at) (k.exact.closed x j l (λ z. n (at ∙ z)))))
      h
    where
      held : (id : ℕ) → IsHeld [] (λ e. Contains [] e) id → is_live cells id ≡ true
      held id (as_root e) = subst (λ x. is_live cells x ≡ true) (sym e) k.exact.root_live
      held id (by_pass e m h) = nothing-in e m

  pub opened-sound : IsSound (opened_core ids slots cells)
  opened-sound = record {
    consistent = k;
    zero = λ id l n z. inl (zeros-all cells id l n z);
    queue_once = zeros-once cells;
    round_once = once-none;
    queued = λ id h. (let z = zeros-only cells id h in (z.0, z.1, λ m. nothing-in id m));
    round_live = λ id h. nothing-in id h;
    state = sound-opening ids slots (graph_of cells) graph-sound;
    kept = λ id h. (let l = kept-live h in record { live = l; contents = graph-live cells id l });
    stored = λ id. stored-has (graph_of cells) id ∙ graph-has cells id;
    none_undone = λ e m f. nothing-in e m;
    made_first = λ e m. nothing-in e m;
    made_alone = λ e m w n q h. nothing-in e m;
    new_named = λ e m w n nz. nothing-in e m;
    old_named = λ e m w n id j t nz. nothing-in e m;
    made_named = λ e m w n q. nothing-in e m;
    refs_active = λ r m. nothing-in r m;
    registers = λ e m id h. nothing-in e m;
    copies = tt;
    copied_listed = tt;
    condemned = record {
      live = λ id h. nothing-in id h;
      not_root = λ id h. nothing-in id h;
      not_locked = λ id h e m. nothing-in id h;
      not_named = λ id h. nothing-in id h;
      within = λ u j l h. nothing-in _ h;
    };
    condemned_listed = λ id h. nothing-in id h;
  }
