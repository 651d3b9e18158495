-- The end of a replay: what hasn't ended is undone.
use Rattle.std.specs.Prelude.{◌≡◌, ℕ, List, [], ◌∷◌, Option, Some, None, IfSome, slice_index}
use Rattle.std.specs.List.{last_or}
use Rattle.cell_model.specs.Records.{after_record}
use Rattle.restart_laws.specs.Unended.{Change, Unended}
use Rattle.restart_laws.specs.Restored.{next_undo, CanBeUndone}
use Rattle.log_record.specs.declared.record.Record.{Record}
use Rattle.log_record.specs.declared.record.Record.TheVariants.{OfCells}
use Rattle.log_record.specs.Records.{record_of}
use Rattle.log_record.specs.Spelling.{HasCellSpelling}
use Rattle.log_replay.specs.Replays.{Replaying, FitsReplay, after_taking}
use Rattle.log_replay.specs.declared.refusals.FinishRefusal.{FinishRefusal}
use Rattle.log_replay.specs.declared.refusals.FinishRefusal.TheVariants.{Unsound}

-- no image is still to come
abbrev pub AreNoneAwaited : List ℕ → Type 0
AreNoneAwaited skips = (p : ℕ) → slice_index skips p ≡ 0

-- the change that is next to undo: the last one of the first transaction, where it has one
abbrev pub change_to_undo : List (ℕ × Unended) → Option Change
change_to_undo [] = None
change_to_undo (e ∷ es) = last_or None e.1.changes

-- and it can be undone
abbrev pub CanUndoNext : Replaying → Type 0
CanUndoNext v = IfSome (change_to_undo v.unended) (CanBeUndone v.cells)

-- the next undo, or the next end of an abort, is this record; it can be done, and leads to this
abbrev pub FinishesBy : {slots : ℕ} → Replaying → Option (Record slots) → Replaying → Type 0
FinishesBy v None w = (v.unended ≡ []) × (w ≡ v)
FinishesBy {slots} v (Some (OfCells r)) w =
    (next_undo v.cells v.unended ≡ Some (record_of r)) × CanUndoNext v × HasCellSpelling slots r × FitsReplay {slots = slots} v (OfCells r) × (w ≡ after_taking {slots = slots} (OfCells r) v) × (w.cells ≡ after_record slots v.cells (record_of r))
FinishesBy v _ w = ⊥

-- why the next one isn't done: the change of this object can't be undone
abbrev pub RefusesFinish : Replaying → FinishRefusal → Type 0
RefusesFinish v (Unsound id) = (c : Change) × (change_to_undo v.unended ≡ Some c) × (c.id ≡ id) × (CanBeUndone v.cells c → ⊥)
