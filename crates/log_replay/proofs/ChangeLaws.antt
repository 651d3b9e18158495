-- A change of a payload is done to one cell alone.
use Rattle.std.proofs.Common.{◌≡◌, ◌≢◌, ℕ, ◌<◌, ◌≤◌, List, true, false, length, set, refl, sym, ap, ◌∙◌, arith}
use Rattle.std.proofs.lemmas.Bool.{ne_eqb, eq-eqb}
use Rattle.cell_model.specs.Cells.{Cell as StoredCell, cell_at, pays}
use Rattle.cell_model.specs.Records.{Record as StoredRecord, Pay}
use Rattle.restart_laws.specs.Local.{effect}
use Rattle.log_replay.specs.Replays.{is_skipped, FitsUnskippedCells, each_after, after_cells}
use Rattle.log_replay.specs.Steps.{FitsCell, AreConcerned}
use Rattle.log_replay.specs.declared.concerned.ThreeIds.{ThreeIds}
use Rattle.log_replay.proofs.TakenLaws.{done_at, done_nowhere, none-after_cells, skipped-after_cells, done-after_cells, three-done, fits-all}

abbrev one_id : ℕ → ThreeIds
one_id id = record { own = id; «from» = 0; to = 0 }

pay-concerned : (slots pass id old_value new_value : ℕ) → AreConcerned slots (Pay pass id old_value new_value) (one_id id)
pay-concerned slots pass id old_value new_value = record {
  others = λ x n m k l c. ((λ e. absurd (m e)), rw (ne_eqb x id m) refl);
  from_apart = λ n. absurd (n refl);
  to_apart = λ n. absurd (n refl);
}

pub change_fits : (slots : ℕ) (skips : List ℕ) (cells : List StoredCell) (pass id old_value new_value : ℕ) → FitsCell skips cells (Pay pass id old_value new_value) id → FitsUnskippedCells skips cells (Pay pass id old_value new_value)
change_fits slots skips cells pass id old_value new_value h =
    fits-all slots skips (Pay pass id old_value new_value) (one_id id) cells (pay-concerned slots pass id old_value new_value) h (λ above. absurd (omega (arith, above))) (λ above. absurd (omega (arith, above)))

change-done : (slots : ℕ) (skips : List ℕ) (cells : List StoredCell) (pass id old_value new_value : ℕ) → id < length cells
    → (let f = after_cells slots skips (Pay pass id old_value new_value) in done_at f id cells ≡ each_after f cells)
change-done slots skips cells pass id old_value new_value below =
    sym (ap (λ (cs : List StoredCell). done_at f 0 cs) (nowhere (done_at f id cells)) ∙ nowhere (done_at f id cells))
    ∙ three-done slots skips r (one_id id) cells (pay-concerned slots pass id old_value new_value) below (omega (arith, below)) (omega (arith, below))
  where
    r : StoredRecord
    r = Pay pass id old_value new_value

    f : ℕ → StoredCell → StoredCell
    f = after_cells slots skips r

    nowhere : (cs : List StoredCell) → done_at f 0 cs ≡ cs
    nowhere cs = done_nowhere f 0 cs (none-after_cells slots skips r 0 (cell_at cs 0) refl)

-- the cell of a change that fits is live
pub change_live : (skips : List ℕ) (cells : List StoredCell) (pass id old_value new_value : ℕ) → 1 ≤ id → id < length cells → is_skipped skips id ≡ false → FitsUnskippedCells skips cells (Pay pass id old_value new_value)
    → (cell_at cells id).live ≡ true
change_live skips cells pass id old_value new_value above below seen h = (h id above below seen refl).0

-- while an image of the page is still to come
pub change_skipped : (slots : ℕ) (skips : List ℕ) (cells : List StoredCell) (pass id old_value new_value : ℕ) → id < length cells → is_skipped skips id ≡ true
    → cells ≡ each_after (after_cells slots skips (Pay pass id old_value new_value)) cells
change_skipped slots skips cells pass id old_value new_value below skipped =
    sym (done_nowhere (after_cells slots skips (Pay pass id old_value new_value)) id cells (skipped-after_cells slots skips (Pay pass id old_value new_value) id (cell_at cells id) skipped))
    ∙ change-done slots skips cells pass id old_value new_value below

-- and once none is
pub change_paid : (slots : ℕ) (skips : List ℕ) (cells : List StoredCell) (pass id old_value new_value : ℕ) → id ≢ 0 → id < length cells → is_skipped skips id ≡ false
    → set cells id (pays new_value (cell_at cells id)) ≡ each_after (after_cells slots skips (Pay pass id old_value new_value)) cells
change_paid slots skips cells pass id old_value new_value some below seen =
    ap (λ (c : StoredCell). set cells id c) (sym (done-after_cells slots skips r id (cell_at cells id) some seen ∙ own (cell_at cells id)))
    ∙ change-done slots skips cells pass id old_value new_value below
  where
    r : StoredRecord
    r = Pay pass id old_value new_value

    own : (c : StoredCell) → effect slots r id c ≡ pays new_value c
    own c = rw (eq-eqb id id refl) refl
