-- The next undo fits consistent cells, and leaves consistent ones.
use Rattle.std.proofs.Common.{◌≡◌, ◌≢◌, ℕ, ◌<◌, ◌≤◌, ◌⊎◌, inl, inr, Bool, not, true, false, List, [], ◌∷◌, refl, sym, ap, ◌∙◌, subst, arith, Option, Some, None}
use Rattle.std.specs.List.{last_or}
use Rattle.std.specs.Option.{option_map_or}
use Rattle.std.proofs.lemmas.Bool.{ne_eqb}
use Rattle.std.proofs.lemmas.Bool.Decides.{nat_tests}
use Rattle.plain_model.specs.declared.write.Place.{Place}
use Rattle.plain_model.specs.declared.write.Place.TheVariants.{Slot, Payload, Whole}
use Rattle.cell_model.specs.Cells.{Cell as StoredCell, blank_cell, cell_at, pointer_at, is_live, same}
use Rattle.cell_model.specs.Records.{Record as StoredRecord, AbortEnd, after_record, Fits, IsWellLaid}
use Rattle.cell_model.specs.Consistent.{AreConsistent}
use Rattle.cell_model.proofs.ConsistentLaws.{consistent-kept}
use Rattle.cell_page.specs.Format.{IsSlotCount, page_of_id}
use Rattle.restart_laws.specs.Unended.{Change, Unended, unended_at, FitsUnended, IsLastChange, IsAllUndone}
use Rattle.restart_laws.specs.Restored.{CanBeUndone, undo_of, next_undo}
use Rattle.restart_laws.proofs.LocalLaws.{local-effect}
use Rattle.restart_laws.proofs.LocalFits.{local-fits}
use Rattle.log_replay.specs.Placed.{IsStoreChange}
use Rattle.log_replay.specs.Replays.{is_skipped, FitsUnskippedCells, each_after, after_cells}
use Rattle.log_replay.specs.Finishes.{AreNoneAwaited, change_to_undo}
use Rattle.log_replay.proofs.Rooms.{room-weak, room-strong}
use Rattle.log_replay.proofs.TakenLaws.{is-each_after, none-after_cells, done-after_cells}

-- ---- the record of an undo

same-not : (b : Bool) → same b (not b) ≡ false
same-not true = refl
same-not false = refl

fits-by : (slots ids : ℕ) (cells : List StoredCell) (pass id old new : ℕ) (place : Place) → AreConsistent slots ids cells → IsStoreChange slots ids (record { id = id; place = place; old = old; new = new })
    → CanBeUndone cells (record { id = id; place = place; old = old; new = new }) → Fits cells (undo_of cells pass (record { id = id; place = place; old = old; new = new }))
fits-by slots ids cells pass id old new (Slot slot) k p u =
    let q = pointer_at cells id slot in (
      record {
        live = u.live;
        within = subst (λ (n : ℕ). slot < n) (sym (k.slotted id u.live)) p.place.0;
        target = u.left;
        target_live = λ n. subst (λ (t : ℕ). is_live cells t ≡ true) u.left (k.exact.closed id slot u.live (λ z. n (sym u.left ∙ z)));
        strength = λ n. rw (ne_eqb q.target 0 (λ z. n (sym u.left ∙ z))) refl;
      },
      record {
        live = u.old;
        strength = λ n. rw (ne_eqb old 0 n) (same-not (cell_at cells old).bit);
        null = λ z. rw z refl;
      },
    )
fits-by slots ids cells pass id old new Payload k p u = (u.live, u.left)
fits-by slots ids cells pass id old new Whole k p u = absurd p.place

pub undo-fits : (slots ids : ℕ) (cells : List StoredCell) (pass : ℕ) (c : Change) → AreConsistent slots ids cells → IsStoreChange slots ids c → CanBeUndone cells c → Fits cells (undo_of cells pass c)
undo-fits slots ids cells pass c k p u = fits-by slots ids cells pass c.id c.old c.new c.place k p u

laid-by : (cells : List StoredCell) (pass id old new : ℕ) (place : Place) → IsWellLaid cells (undo_of cells pass (record { id = id; place = place; old = old; new = new }))
laid-by cells pass id old new (Slot slot) = tt
laid-by cells pass id old new Payload = tt
laid-by cells pass id old new Whole = tt

pub undo-laid : (cells : List StoredCell) (pass : ℕ) (c : Change) → IsWellLaid cells (undo_of cells pass c)
undo-laid cells pass c = laid-by cells pass c.id c.old c.new c.place

-- ---- a record that fits, where no image is still to come

none_skipped : (skips : List ℕ) (x : ℕ) → AreNoneAwaited skips → is_skipped skips x ≡ false
none_skipped skips x none = rw (none (page_of_id x)) refl

pub fits-each : (slots ids : ℕ) (skips : List ℕ) (cells : List StoredCell) (r : StoredRecord) → IsSlotCount slots → ids ≤ 8192 → AreConsistent slots ids cells → Fits cells r → FitsUnskippedCells skips cells r
fits-each slots ids skips cells r count few k f =
    λ x above below seen. local-fits cells (λ y live. (room-strong slots ids cells count k few y live, room-weak slots ids cells count k few y live)) r k.exact f x (λ z. omega (arith, above, z))

pub after-each : (slots ids : ℕ) (skips : List ℕ) (cells : List StoredCell) (r : StoredRecord) → AreNoneAwaited skips → AreConsistent slots ids cells → Fits cells r → IsWellLaid cells r
    → each_after (after_cells slots skips r) cells ≡ after_record slots cells r
after-each slots ids skips cells r none k f laid = sym (is-each_after (after_cells slots skips r) cells after (d.sized ∙ sym k.sized) (λ x below. by x (same_or_apart x 0)))
  where
    after : List StoredCell
    after = after_record slots cells r

    d : AreConsistent slots ids after
    d = consistent-kept slots ids cells r f laid k

    same_or_apart : (p q : ℕ) → (p ≡ q) ⊎ (p ≢ q)
    same_or_apart p q = grind (arith, nat_tests)

    zero_empty : (cs : List StoredCell) → AreConsistent slots ids cs → cell_at cs 0 ≡ blank_cell false slots
    zero_empty cs c = c.empty 0 (let s = c.sized in omega (arith, s)) c.exact.none

    by : (x : ℕ) → (x ≡ 0) ⊎ (x ≢ 0) → cell_at after x ≡ after_cells slots skips r x (cell_at cells x)
    by x (inl z) = ap (λ (y : ℕ). cell_at after y) z ∙ (zero_empty after d ∙ (sym (zero_empty cells k) ∙ (ap (λ (y : ℕ). cell_at cells y) (sym z) ∙ sym (none-after_cells slots skips r x (cell_at cells x) z))))
    by x (inr n) = local-effect slots cells r k.exact.none f x n ∙ sym (done-after_cells slots skips r x (cell_at cells x) n (none_skipped skips x none))

-- ---- the first transaction

pub first-found : (us es : List (ℕ × Unended)) (e : ℕ × Unended) (pass : ℕ) → us ≡ e ∷ es → e.0 ≡ pass → unended_at us pass ≡ Some e.1
first-found us es e pass s h = ap (λ (ds : List (ℕ × Unended)). unended_at ds pass) s ∙ here
  where
    here : unended_at (e ∷ es) pass ≡ Some e.1
    here = grind (arith, nat_tests)

pub undo-fits_unended-by : (cells : List StoredCell) (us : List (ℕ × Unended)) (u : Unended) (pass id old new : ℕ) (place : Place) (slots ids : ℕ) → IsStoreChange slots ids (record { id = id; place = place; old = old; new = new })
    → unended_at us pass ≡ Some u → last_or None u.changes ≡ Some (record { id = id; place = place; old = old; new = new }) → FitsUnended us (undo_of cells pass (record { id = id; place = place; old = old; new = new }))
undo-fits_unended-by cells us u pass id old new (Slot slot) slots ids p at last = subst (λ (o : Option Unended). IsLastChange o (record { id = id; place = Slot slot; old = old; new = new })) (sym at) last
undo-fits_unended-by cells us u pass id old new Payload slots ids p at last = subst (λ (o : Option Unended). IsLastChange o (record { id = id; place = Payload; old = old; new = new })) (sym at) last
undo-fits_unended-by cells us u pass id old new Whole slots ids p at last = absurd p.place

pub undo-fits_unended : (cells : List StoredCell) (us : List (ℕ × Unended)) (u : Unended) (pass : ℕ) (c : Change) (slots ids : ℕ) → IsStoreChange slots ids c → unended_at us pass ≡ Some u → last_or None u.changes ≡ Some c → FitsUnended us (undo_of cells pass c)
undo-fits_unended cells us u pass c slots ids p at last = undo-fits_unended-by cells us u pass c.id c.old c.new c.place slots ids p at last

pub end-fits_unended : (us : List (ℕ × Unended)) (u : Unended) (pass : ℕ) → unended_at us pass ≡ Some u → u.changes ≡ [] → FitsUnended us (AbortEnd pass)
end-fits_unended us u pass at none = subst IsAllUndone (sym at) none

pub next-is : (cells : List StoredCell) (us es : List (ℕ × Unended)) (e : ℕ × Unended) (pass : ℕ) (o : Option Change) → us ≡ e ∷ es → e.0 ≡ pass → last_or None e.1.changes ≡ o → next_undo cells us ≡ Some (option_map_or (undo_of cells pass) o (AbortEnd pass))
next-is cells us es e pass o s h l =
    ap (next_undo cells) s ∙ (ap (λ (p : ℕ). Some (option_map_or (undo_of cells p) (last_or None e.1.changes) (AbortEnd p))) h ∙ ap (λ (m : Option Change). Some (option_map_or (undo_of cells pass) m (AbortEnd pass))) l)

pub change-is : (us es : List (ℕ × Unended)) (e : ℕ × Unended) (o : Option Change) → us ≡ e ∷ es → last_or None e.1.changes ≡ o → change_to_undo us ≡ o
change-is us es e o s l = ap change_to_undo s ∙ l
