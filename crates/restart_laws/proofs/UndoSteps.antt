-- In a sound journal the last change of a client that isn't undone can be undone, and the journal stays sound.
use Rattle.std.proofs.Common.{◌≡◌, ◌≢◌, ℕ, ◌+◌, ◌-◌, ◌<◌, List, ◌∷◌, ◌++◌, Bool, true, false, refl, sym, ap, ◌∙◌, subst, length, length-set, Option, Some, None, ⊎_elim, eq-eqb, ne_eqb}
use Rattle.std.specs.Prelude.{◌==◌, ◌&&◌, not, Contains, count_by, slice_index, option_map, unwrap_or}
use Rattle.std.specs.Option.{option_map_or}
use Rattle.std.proofs.lemmas.Bool.{cond-true, cond-false, or_left, and_from}
use Rattle.std.proofs.lemmas.List.{get_or-set_same, length-map}
use Rattle.std.proofs.lemmas.List.Elements.{Contains-append_left, Contains-append_right}
use Rattle.plain_model.specs.declared.object.Object.{Object}
use Rattle.plain_model.specs.declared.write.Place.TheVariants.{Slot, Payload}
use Rattle.plain_model.specs.declared.write.Write.{Write}
use Rattle.plain_model.specs.declared.calls.Entry.TheVariants.{Undo as UndoEntry}
use Rattle.plain_model.specs.Graphs.{object_at, set_place, applied}
use Rattle.plain_model.specs.ActiveTransaction.{ActiveTransaction}
use Rattle.plain_model.specs.Machine.{transaction_of, is_among}
use Rattle.plain_model.specs.History.{can_be_undone, next}
use Rattle.cell_model.specs.Cells.{Cell, Pointer, cell_at, pointer_at, is_live, is_strong, same, object_of}
use Rattle.cell_model.specs.Records.{after_record, Fits}
use Rattle.store_model.specs.Core.{Core, names, slot_in, payload_in, new_target, IsMadeFirst, current}
use Rattle.store_model.specs.Sound.{by_lock, by_name, by_pass, start, IsCurrent, IsSound}
use Rattle.store_model.specs.Steps.{after_undo}
use Rattle.store_model.proofs.Lists.{each, Contains-here}
use Rattle.store_model.proofs.SlotLaws.{after_writes-value}
use Rattle.store_model.proofs.MadeFirst.{made_first-later}
use Rattle.store_model.proofs.DeletionLaws.{current-slot}
use Rattle.store_model.proofs.ActiveLaws.{owner, own-only_writer}
use Rattle.store_model.proofs.EndLaws.{transaction-active}
use Rattle.store_model.proofs.MomentLaws.{current-undone}
use Rattle.store_model.proofs.UndoSound.{undo-sound, undo_pay-sound}
use Rattle.restart_laws.specs.Restored.{is_counted_strong, weak_bit, undo_of, CanBeUndone}
use Rattle.restart_laws.proofs.ForgottenLaws.{forgotten, forgotten-sound}

-- an object that was set has the value
set-slot : (o : Option Object) (b : Object) (slot v : ℕ) → option_map (set_place (Slot slot) v) o ≡ Some b → slot < length b.slots → slice_index b.slots slot ≡ v
set-slot None b slot v e l = cc
set-slot (Some o) b slot v e l =
    let is : set_place (Slot slot) v o ≡ b = ap (λ x. unwrap_or x o) e in
    let len : length b.slots ≡ length o.slots = ap (λ (x : Object). length x.slots) (sym is) ∙ length-set o.slots slot v in
    ap (λ (x : Object). slice_index x.slots slot) (sym is) ∙ get_or-set_same o.slots slot v 0 (subst (λ n. slot < n) len l)

set-payload : (o : Option Object) (b : Object) (v : ℕ) → option_map (set_place Payload v) o ≡ Some b → b.payload ≡ v
set-payload None b v e = cc
set-payload (Some o) b v e = let is : set_place Payload v o ≡ b = ap (λ x. unwrap_or x o) e in ap (λ (x : Object). x.payload) (sym is)

-- the bit of a weak pointer
same-not : (b : Bool) → same b (not b) ≡ false
same-not true = refl
same-not false = refl

weak-weak : (cells : List Cell) (target : ℕ) → target ≢ 0 → is_strong cells (record { target = target; bit = weak_bit cells target }) ≡ false
weak-weak cells target n =
    let bit = (cell_at cells target).bit in
    ap (same bit) (cond-false (target == 0) false (not bit) (ne_eqb target 0 n)) ∙ same-not bit

weak-null : (cells : List Cell) (target : ℕ) → target ≡ 0 → weak_bit cells target ≡ false
weak-null cells target e = cond-true (target == 0) false (not (cell_at cells target).bit) (eq-eqb target 0 e)

counted-strong : (cells : List Cell) (p : Pointer) → p.target ≢ 0 → is_strong cells p ≡ is_counted_strong cells p
counted-strong cells p n = ap (λ b. not b && is_strong cells p) (sym (ne_eqb p.target 0 n))

module _ (c : Core) (s : IsSound c) (pass : ℕ) (t : ActiveTransaction) (a : transaction_of c.moment.state pass ≡ Some t) where
  -- what the client names, and what it wrote, is current
  pub named-current : (id : ℕ) → names c.refs pass id ≡ true → IsCurrent c id
  named-current id h = s.kept id (start id (by_pass (pass, t) (transaction-active c.moment.state s.state pass t a) (by_name h)))

  pub written-current : (w : Write) → Contains t.writes w → IsCurrent c w.id
  written-current w m =
      let was = transaction-active c.moment.state s.state pass t a in
      s.kept w.id (start w.id (by_pass (pass, t) was (by_lock (or_left (is_among w.id t.owned) (is_among w.id t.shared) (owner c.moment.state s.state (pass, t) was w m)))))

  module _ (earlier later : List Write) (y v : ℕ) where
    in_split : (w : Write) → t.writes ≡ earlier ++ w ∷ later → Contains t.writes w
    in_split w split = subst (λ l. Contains l w) (sym split) (Contains-append_right earlier (w ∷ later) w (Contains-here w later))

    -- what stood in the slot before is named, where it isn't null
    before-live : (w : Write) (slot to : ℕ) → w ≡ record { id = y; place = Slot slot; value = v } → t.writes ≡ earlier ++ w ∷ later → to ≡ slot_in (applied c.moment.state.slots c.moment.state.committed earlier) y slot → to ≢ 0 → is_live c.cells to ≡ true
    before-live w slot to is split lays z =
        let was = transaction-active c.moment.state s.state pass t a in
        let mine = in_split w split in
        let named : names c.refs pass to ≡ true = ⊎_elim
        (λ (q : slot_in c.moment.state.committed y slot ≡ to). subst (λ x. names c.refs pass x ≡ true) q
        (s.old_named (pass, t) was (record { id = y; place = Slot slot; value = v }) (subst (λ x. Contains t.writes x) is mine) y slot (and_from (y == y) (slot == slot) (eq-eqb y y refl) (eq-eqb slot slot refl)) (λ e. z (sym q ∙ e))))
        (λ q. q)
        (after_writes-value c.moment.state.slots c.moment.state.committed earlier y slot to (names c.refs pass to ≡ true)
        (each (λ x. new_target x ≡ to → names c.refs pass to ≡ true) earlier (λ x m q. subst (λ i. names c.refs pass i ≡ true) q (s.new_named (pass, t) was x (subst (λ l. Contains l x) (sym split) (Contains-append_left earlier (w ∷ later) x m)) (λ e. z (sym q ∙ e)))))
        (sym lays)) in
        (named-current to named).live

    -- a slot
    pub slot-undo : (slot to : ℕ) → t.writes ≡ earlier ++ record { id = y; place = Slot slot; value = v } ∷ later → count_by can_be_undone t.writes - c.moment.undone pass ≡ count_by can_be_undone earlier + 1
        → to ≡ slot_in (applied c.moment.state.slots c.moment.state.committed earlier) y slot → slot < c.moment.state.slots
        → CanBeUndone c.cells (record { id = y; place = Slot slot; old = to; new = v }) × Fits c.cells (undo_of c.cells pass (record { id = y; place = Slot slot; old = to; new = v }))
    slot-undo slot to split turn lays few =
        let w : Write = record { id = y; place = Slot slot; value = v } in
        let was = transaction-active c.moment.state s.state pass t a in
        let mine = in_split w split in
        let first_made = made_first-later earlier w later (subst IsMadeFirst split (s.made_first (pass, t) was)) in
        let alone = own-only_writer c.moment.state s.state pass t was w mine in
        let now = written-current w mine in
        let n = next c.moment (UndoEntry pass) in
        let o = object_at (current n) y in
        let b = object_of y (cell_at c.cells y) in
        let is : option_map (set_place (Slot slot) v) o ≡ Some b =
        sym (cond-true (y == y) (option_map (set_place (Slot slot) v) o) o (eq-eqb y y refl)) ∙ (sym (current-undone c.moment s.state pass t a earlier later y (Slot slot) v refl split turn first_made alone y) ∙ now.contents) in
        let len : length b.slots ≡ c.moment.state.slots = length-map (cell_at c.cells y).pointers (λ (p : Pointer). p.target) ∙ s.consistent.slotted y now.live in
        let has : (pointer_at c.cells y slot).target ≡ v = sym (current-slot c y slot now) ∙ (ap (λ o. option_map_or (λ (o : Object). slice_index o.slots slot) o 0) now.contents ∙ set-slot o b slot v is (subst (λ n. slot < n) (sym len) few)) in
        let live_to : to ≢ 0 → is_live c.cells to ≡ true = before-live w slot to refl split lays in (
          record { live = now.live; left = has; old = live_to },
          (
            record {
              live = now.live;
              within = subst (λ n. slot < n) (sym (s.consistent.slotted y now.live)) few;
              target = has;
              target_live = λ z. subst (λ x. is_live c.cells x ≡ true) has (s.consistent.exact.closed y slot now.live (λ e. z (sym has ∙ e)));
              strength = λ z. counted-strong c.cells (pointer_at c.cells y slot) (λ e. z (sym has ∙ e));
            },
            record {
              live = live_to;
              strength = weak-weak c.cells to;
              null = weak-null c.cells to;
            },
          ),
        )

    pub slot-undone : (slot to : ℕ) → t.writes ≡ earlier ++ record { id = y; place = Slot slot; value = v } ∷ later → count_by can_be_undone t.writes - c.moment.undone pass ≡ count_by can_be_undone earlier + 1
        → to ≡ slot_in (applied c.moment.state.slots c.moment.state.committed earlier) y slot → slot < c.moment.state.slots
        → IsSound (after_undo (forgotten c) pass (after_record c.moment.state.slots c.cells (undo_of c.cells pass (record { id = y; place = Slot slot; old = to; new = v }))))
    slot-undone slot to split turn lays few =
        undo-sound (forgotten c) (forgotten-sound c s) pass t a earlier later y v slot (is_counted_strong c.cells (pointer_at c.cells y slot)) (weak_bit c.cells to) to split turn lays
        (slot-undo slot to split turn lays few).1 tt (λ z. tt) (λ z. tt)

    -- a payload
    pub payload-undo : (to : ℕ) → t.writes ≡ earlier ++ record { id = y; place = Payload; value = v } ∷ later → count_by can_be_undone t.writes - c.moment.undone pass ≡ count_by can_be_undone earlier + 1
        → CanBeUndone c.cells (record { id = y; place = Payload; old = to; new = v }) × Fits c.cells (undo_of c.cells pass (record { id = y; place = Payload; old = to; new = v }))
    payload-undo to split turn =
        let w : Write = record { id = y; place = Payload; value = v } in
        let was = transaction-active c.moment.state s.state pass t a in
        let mine = in_split w split in
        let first_made = made_first-later earlier w later (subst IsMadeFirst split (s.made_first (pass, t) was)) in
        let alone = own-only_writer c.moment.state s.state pass t was w mine in
        let now = written-current w mine in
        let n = next c.moment (UndoEntry pass) in
        let o = object_at (current n) y in
        let is : option_map (set_place Payload v) o ≡ Some (object_of y (cell_at c.cells y)) =
        sym (cond-true (y == y) (option_map (set_place Payload v) o) o (eq-eqb y y refl)) ∙ (sym (current-undone c.moment s.state pass t a earlier later y Payload v refl split turn first_made alone y) ∙ now.contents) in
        let has : (cell_at c.cells y).payload ≡ v = set-payload o (object_of y (cell_at c.cells y)) v is in
        (record { live = now.live; left = has; old = tt }, (now.live, has))

    pub payload-undone : (to : ℕ) → t.writes ≡ earlier ++ record { id = y; place = Payload; value = v } ∷ later → count_by can_be_undone t.writes - c.moment.undone pass ≡ count_by can_be_undone earlier + 1
        → to ≡ payload_in (applied c.moment.state.slots c.moment.state.committed earlier) y
        → IsSound (after_undo (forgotten c) pass (after_record c.moment.state.slots c.cells (undo_of c.cells pass (record { id = y; place = Payload; old = to; new = v }))))
    payload-undone to split turn lays = undo_pay-sound (forgotten c) (forgotten-sound c s) pass t a earlier later y v to split turn lays (payload-undo to split turn).1
