-- Records of a store have a spelling.
use Rattle.std.specs.Prelude.{ℕ, ◌≢◌, ◌≤◌, List, All, IfSome}
use Rattle.log_record.specs.declared.cell_record.CellRecord.{CellRecord}
use Rattle.log_record.specs.declared.cell_record.CellRecord.TheVariants.{Make, Store, Pay, Undo, Weaken, Strengthen, Flip, CutDead, Free}
use Rattle.log_record.specs.Records.{payload_place}
use Rattle.log_record.specs.Spelling.{HasCellSpelling}
use Rattle.core_store.specs.declared.note.Note.{Note}

-- each logged record has a spelling, in a store whose objects have so many slots
abbrev pub AreSpelled : ℕ → List Note → Type 0
AreSpelled slots notes = All (λ n. IfSome n.logged (HasCellSpelling slots)) notes

-- the ids and targets of the record are at most this
abbrev pub IsOfIds : ℕ → CellRecord → Type 0
IsOfIds ids (Make pass id) = id ≤ ids
IsOfIds ids (Store pass id slot old_target old_strong new_target new_bit new_strong) = (id ≤ ids) × (old_target ≤ ids) × (new_target ≤ ids)
IsOfIds ids (Pay pass id old_value new_value) = id ≤ ids
IsOfIds ids (Undo pass place from_strong to_bit id «from» to) = (id ≤ ids) × (place ≢ payload_place → («from» ≤ ids) × (to ≤ ids))
IsOfIds ids (Weaken id slot target) = (id ≤ ids) × (target ≤ ids)
IsOfIds ids (Strengthen id slot target) = (id ≤ ids) × (target ≤ ids)
IsOfIds ids (Flip id) = id ≤ ids
IsOfIds ids (CutDead id slot target was_strong) = (id ≤ ids) × (target ≤ ids)
IsOfIds ids (Free id) = id ≤ ids
IsOfIds ids _ = Unit {0}

-- and so are those of each logged record
abbrev pub AreOfIds : ℕ → List Note → Type 0
AreOfIds ids notes = All (λ n. IfSome n.logged (IsOfIds ids)) notes
