-- A write to the object of a cell is the write to the graph.
use Rattle.std.proofs.Common.{◌≡◌, ◌≢◌, ℕ, ◌<◌, Bool, true, false, cond, List, length, map, Option, Some, None, refl, sym, ap, subst, ◌∙◌, ⊎_elim, eq-eqb, ne_eqb, get_or-set_same, get_or-set_other}
use Rattle.std.specs.Prelude.{◌==◌, if◌then◌else◌, option_map, slice_set}
use Rattle.std.proofs.lemmas.Bool.{cases_eq}
use Rattle.std.proofs.lemmas.List.{map-set}
use Rattle.plain_model.specs.declared.object.Object.{Object}
use Rattle.plain_model.specs.declared.write.Place.{Place}
use Rattle.plain_model.specs.declared.write.Place.TheVariants.{Slot, Payload, Whole}
use Rattle.plain_model.specs.Graphs.{IsGraph, object_at, blank, set_place, after_place}
use Rattle.plain_model.proofs.GraphLemmas.{IsGraph-put_object, IsGraph-after_set}
use Rattle.plain_model.proofs.LawProofs.{object_at-put_object-same, object_at-put_object-other, object_at-after_set-other}
use Rattle.plain_laws.proofs.Lookups.{graphs_same}
use Rattle.cell_model.specs.Cells.{Pointer, Cell, blank_cell, cell_at, object_of}
use Rattle.cell_model.specs.Graph.{graph_of}
use Rattle.store_model.proofs.SlotLaws.{object_at-after_set}
use Rattle.store_model.proofs.MakeLaws.{blank-object}
use Rattle.restart_laws.proofs.GraphLaws.{graph-object, graph-graph}
use Rattle.log_checker.specs.FoldedObjects.{written}

-- the object of the cell, where that is live
abbrev held : ℕ → Cell → Option Object
held id c = cond c.live (Some (object_of id c)) None

-- the object with the place set, where it is that of the id
abbrev put : ℕ → Place → ℕ → Object → Object
put id place value o = if o.id == id then set_place place value o else o

slot_held : (slots id k value : ℕ) (live bit : Bool) (strong weak payload : ℕ) (ps : List Pointer) → (c : Cell) → c ≡ record { live = live; bit = bit; strong = strong; weak = weak; payload = payload; pointers = ps }
    → held id (written slots (Slot k) value c) ≡ option_map (put id (Slot k) value) (held id c)
slot_held slots id k value live bit strong weak payload ps c is =
    subst (λ (x : Cell). held id (written slots (Slot k) value x) ≡ option_map (put id (Slot k) value) (held id x)) (sym is) (by live)
  where
    made : List ℕ → Option Object
    made l = Some (record { id = id; slots = l; payload = payload })

    by : (b : Bool) → held id (written slots (Slot k) value (record { live = b; bit = bit; strong = strong; weak = weak; payload = payload; pointers = ps }))
        ≡ option_map (put id (Slot k) value) (held id (record { live = b; bit = bit; strong = strong; weak = weak; payload = payload; pointers = ps }))
    by true =
        ap made (map-set (λ (p : Pointer). p.target) ps k (record { target = value; bit = false }))
        ∙ ap (λ (b : Bool). made (if b then slice_set (map (λ (p : Pointer). p.target) ps) k value else map (λ (p : Pointer). p.target) ps)) (sym (eq-eqb id id refl))
        ∙ push (id == id)
      where
        push : (b : Bool) → made (if b then slice_set (map (λ (p : Pointer). p.target) ps) k value else map (λ (p : Pointer). p.target) ps)
            ≡ Some (if b then set_place (Slot k) value (record { id = id; slots = map (λ (p : Pointer). p.target) ps; payload = payload }) else record { id = id; slots = map (λ (p : Pointer). p.target) ps; payload = payload })
        push true = refl
        push false = refl
    by false = refl

payload_held : (slots id value : ℕ) (live bit : Bool) (strong weak payload : ℕ) (ps : List Pointer) → (c : Cell) → c ≡ record { live = live; bit = bit; strong = strong; weak = weak; payload = payload; pointers = ps }
    → held id (written slots Payload value c) ≡ option_map (put id Payload value) (held id c)
payload_held slots id value live bit strong weak payload ps c is =
    subst (λ (x : Cell). held id (written slots Payload value x) ≡ option_map (put id Payload value) (held id x)) (sym is) (by live)
  where
    kept : Object
    kept = record { id = id; slots = map (λ (p : Pointer). p.target) ps; payload = payload }

    by : (b : Bool) → held id (written slots Payload value (record { live = b; bit = bit; strong = strong; weak = weak; payload = payload; pointers = ps }))
        ≡ option_map (put id Payload value) (held id (record { live = b; bit = bit; strong = strong; weak = weak; payload = payload; pointers = ps }))
    by true = ap (λ (b : Bool). let o : Option Object = Some (if b then set_place Payload value kept else kept) in o) (sym (eq-eqb id id refl))
    by false = refl

module _ (slots : ℕ) (cells : List Cell) (id value : ℕ) (within : id < length cells) where
  -- the cell, and the graph, before the write
  abbrev old : Cell
  old = cell_at cells id

  -- the object of the id afterwards
  own : (place : Place) → held id (written slots place value old) ≡ object_at (after_place slots (graph_of cells) id place value) id
  own Whole = ap (λ (o : Object). Some o) (blank-object slots id) ∙ sym (object_at-put_object-same (graph_of cells) (blank slots id))
  own (Slot k) =
      slot_held slots id k value old.live old.bit old.strong old.weak old.payload old.pointers old refl
      ∙ ap (λ (o : Option Object). option_map (put id (Slot k) value) o) (sym (graph-object cells id))
      ∙ sym (object_at-after_set (graph_of cells) id (Slot k) value id)
  own Payload =
      payload_held slots id value old.live old.bit old.strong old.weak old.payload old.pointers old refl
      ∙ ap (λ (o : Option Object). option_map (put id Payload value) o) (sym (graph-object cells id))
      ∙ sym (object_at-after_set (graph_of cells) id Payload value id)

  -- all others stay
  other : (place : Place) (x : ℕ) → id ≢ x → object_at (after_place slots (graph_of cells) id place value) x ≡ object_at (graph_of cells) x
  other Whole x apart = object_at-put_object-other (graph_of cells) (blank slots id) x apart
  other (Slot k) x apart = object_at-after_set-other (graph_of cells) id x (Slot k) value (ne_eqb id x apart)
  other Payload x apart = object_at-after_set-other (graph_of cells) id x Payload value (ne_eqb id x apart)

  is_graph : (place : Place) → IsGraph (after_place slots (graph_of cells) id place value)
  is_graph Whole = IsGraph-put_object (graph_of cells) (blank slots id) (graph-graph cells)
  is_graph (Slot k) = IsGraph-after_set id (Slot k) value (graph_of cells) (graph-graph cells)
  is_graph Payload = IsGraph-after_set id Payload value (graph_of cells) (graph-graph cells)

  pub graph_written : (place : Place) → graph_of (slice_set cells id (written slots place value old)) ≡ after_place slots (graph_of cells) id place value
  graph_written place =
      graphs_same (graph_of after) (after_place slots (graph_of cells) id place value) (graph-graph after) (is_graph place)
      (λ x. graph-object after x ∙ ⊎_elim (λ (same : x ≡ id). at_own x same) (λ (apart : x ≢ id). at_other x apart) (cases_eq x id))
    where
      new : Cell
      new = written slots place value old

      after : List Cell
      after = slice_set cells id new

      at_own : (x : ℕ) → x ≡ id → held x (cell_at after x) ≡ object_at (after_place slots (graph_of cells) id place value) x
      at_own x same =
          subst (λ (j : ℕ). held j (cell_at after j) ≡ object_at (after_place slots (graph_of cells) id place value) j) (sym same)
          (ap (λ (c : Cell). held id c) (get_or-set_same cells id new (blank_cell false 0) within) ∙ own place)

      at_other : (x : ℕ) → x ≢ id → held x (cell_at after x) ≡ object_at (after_place slots (graph_of cells) id place value) x
      at_other x apart =
          ap (λ (c : Cell). held x c) (get_or-set_other cells id x new (blank_cell false 0) apart)
          ∙ sym (graph-object cells x) ∙ sym (other place x (λ s. apart (sym s)))
