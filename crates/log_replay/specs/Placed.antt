-- The changes that a replay has to undo are of places of the store.
use Rattle.std.specs.Prelude.{◌≤◌, ◌<◌, ℕ, List}
use Rattle.std.specs.List.{AllByRecursion}
use Rattle.plain_model.specs.declared.write.Place.{Place}
use Rattle.plain_model.specs.declared.write.Place.TheVariants.{Slot, Payload, Whole}
use Rattle.log_record.specs.Spelling.{IsPass}
use Rattle.restart_laws.specs.Unended.{Change, Unended}

-- objects have the place, and in a slot both values are null or ids of the store
abbrev pub IsStorePlace : ℕ → ℕ → Place → ℕ → ℕ → Type 0
IsStorePlace slots ids (Slot slot) old new = (slot < slots) × (old ≤ ids) × (new ≤ ids)
IsStorePlace slots ids Payload old new = Unit {0}
IsStorePlace slots ids Whole old new = ⊥

-- the change is of an object of the store
pub record IsStoreChange (slots ids : ℕ) (c : Change) : Type 0 where
  pub above : 1 ≤ c.id
  pub within : c.id ≤ ids
  pub place : IsStorePlace slots ids c.place c.old c.new

-- the client has a number, and all changes of its transaction are so
pub record IsStoreEntry (slots ids : ℕ) (e : ℕ × Unended) : Type 0 where
  pub client : IsPass e.0
  pub changes : AllByRecursion (IsStoreChange slots ids) e.1.changes

abbrev pub AreStoreEntries : ℕ → ℕ → List (ℕ × Unended) → Type 0
AreStoreEntries slots ids us = AllByRecursion (IsStoreEntry slots ids) us
