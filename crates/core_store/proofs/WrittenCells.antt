-- The cell of an object has what the last write of its client laid that isn't undone.
use Rattle.std.proofs.Common.{◌≡◌, ℕ, ◌+◌, ◌-◌, ◌<◌, List, ◌∷◌, ◌++◌, true, length, get_or, slice_set, refl, sym, ap, ◌∙◌, subst, Option, Some, None, arith, eq-eqb}
use Rattle.std.specs.Prelude.{◌==◌, Contains, count_by, option_map}
use Rattle.std.proofs.lemmas.Bool.{cond-true}
use Rattle.std.proofs.lemmas.List.{length-map, length-set, get_or-set_same}
use Rattle.std.proofs.lemmas.List.Elements.{Contains-append_right}
use Rattle.plain_model.specs.declared.object.Object.{Object}
use Rattle.plain_model.specs.declared.write.Place.{Place}
use Rattle.plain_model.specs.declared.write.Place.TheVariants.{Slot, Payload}
use Rattle.plain_model.specs.declared.write.Write.{Write}
use Rattle.plain_model.specs.declared.calls.Entry.TheVariants.{Undo}
use Rattle.plain_model.specs.Graphs.{object_at, set_place}
use Rattle.plain_model.specs.ActiveTransaction.{ActiveTransaction}
use Rattle.plain_model.specs.Machine.{transaction_of, is_among}
use Rattle.plain_model.specs.History.{can_be_undone, holds, next}
use Rattle.plain_laws.proofs.Ids.{or_left}
use Rattle.cell_model.specs.Cells.{Pointer, cell_at, pointer_at, object_of}
use Rattle.store_model.specs.Core.{Core, IsMadeFirst, current}
use Rattle.store_model.specs.Sound.{IsHeld, Kept, Has, IsSound}
use Rattle.store_model.proofs.Lists.{Contains-here}
use Rattle.store_model.proofs.MadeFirst.{made_first-later}
use Rattle.store_model.proofs.ActiveLaws.{owner, own-only_writer}
use Rattle.store_model.proofs.EndLaws.{transaction-active}
use Rattle.store_model.proofs.DeletionLaws.{target-map}
use Rattle.store_model.proofs.MomentLaws.{current-undone}

-- an object whose place was set has the value there
set-slot : (o : Option Object) (k v : ℕ) (b : Object) → option_map (set_place (Slot k) v) o ≡ Some b → k < length b.slots → get_or b.slots k 0 ≡ v
set-slot None k v b e l = absurd (cc)
set-slot (Some a) k v b e l =
    let same : set_place (Slot k) v a ≡ b = cc in
    let slots : slice_set a.slots k v ≡ b.slots = ap (λ (o : Object). o.slots) same in
    let n = ap (λ (xs : List ℕ). length xs) slots in
    let m = length-set a.slots k v in
    ap (λ (xs : List ℕ). get_or xs k 0) (sym slots) ∙ get_or-set_same a.slots k v 0 (omega (arith, n, m, l))

set-payload : (o : Option Object) (v : ℕ) (b : Object) → option_map (set_place Payload v) o ≡ Some b → b.payload ≡ v
set-payload None v b e = absurd (cc)
set-payload (Some a) v b e =
    let same : set_place Payload v a ≡ b = cc in
    sym (ap (λ (o : Object). o.payload) same)

module _ (c : Core) (s : IsSound c) (pass : ℕ) (t : ActiveTransaction) (a : transaction_of c.moment.state pass ≡ Some t) where
  -- a client holds what it wrote to
  pub writes-held : (w : Write) → Contains t.writes w → holds w.id t ≡ true
  writes-held w k = or_left (is_among w.id t.owned) (is_among w.id t.shared) (owner c.moment.state s.state (pass, t) (transaction-active c.moment.state s.state pass t a) w k)

  module _ (earlier later : List Write) (y : ℕ) (place : Place) (v : ℕ) (undoable : can_be_undone (record { id = y; place = place; value = v }) ≡ true) (split : t.writes ≡ earlier ++ record { id = y; place = place; value = v } ∷ later)
      (turn : count_by can_be_undone t.writes - c.moment.undone pass ≡ count_by can_be_undone earlier + 1) where
    last : Write
    last = record { id = y; place = place; value = v }

    mine : Contains t.writes last
    unfolding last
    mine = subst (λ l. Contains l last) (sym split) (Contains-append_right earlier (last ∷ later) last (Contains-here last later))

    pub written-held : holds y t ≡ true
    unfolding last
    written-held = writes-held last mine

    -- the object's cell is current
    cell-now : object_at (current c.moment) y ≡ Some (object_of y (cell_at c.cells y))
    cell-now = (s.kept y (Kept.start y (IsHeld.by_pass (pass, t) (transaction-active c.moment.state s.state pass t a) (Has.by_lock written-held)))).contents

    object-now : object_at (current c.moment) y ≡ Rattle.plain_laws.proofs.Lookups.place_at c.moment.state.slots y place v (object_at (current (next c.moment (Undo pass))) y)
    unfolding last
    object-now =
        let was = transaction-active c.moment.state s.state pass t a in
        let first_made = made_first-later earlier last later (subst IsMadeFirst split (s.made_first (pass, t) was)) in
        let alone = own-only_writer c.moment.state s.state pass t was last mine in
        let N = object_at (current (next c.moment (Undo pass))) y in
        current-undone c.moment s.state pass t a earlier later y place v undoable split turn first_made alone y ∙ cond-true (y == y) (Rattle.plain_laws.proofs.Lookups.place_at c.moment.state.slots y place v N) N (eq-eqb y y refl)

  module _ (earlier later : List Write) (y v : ℕ) (turn : count_by can_be_undone t.writes - c.moment.undone pass ≡ count_by can_be_undone earlier + 1) where
    pub written-slot : (slot : ℕ) → t.writes ≡ earlier ++ record { id = y; place = Slot slot; value = v } ∷ later → slot < length (cell_at c.cells y).pointers → (pointer_at c.cells y slot).target ≡ v
    written-slot slot split within =
        let ps = (cell_at c.cells y).pointers in
        let n = length-map ps (λ (p : Pointer). p.target) in
        sym (target-map ps slot)
        ∙ set-slot (object_at (current (next c.moment (Undo pass))) y) slot v (object_of y (cell_at c.cells y)) (sym (object-now earlier later y (Slot slot) v refl split turn) ∙ cell-now earlier later y (Slot slot) v refl split turn) (omega (arith, n, within))

    pub written-payload : t.writes ≡ earlier ++ record { id = y; place = Payload; value = v } ∷ later → (cell_at c.cells y).payload ≡ v
    written-payload split = set-payload (object_at (current (next c.moment (Undo pass))) y) v (object_of y (cell_at c.cells y)) (sym (object-now earlier later y Payload v refl split turn) ∙ cell-now earlier later y Payload v refl split turn)
