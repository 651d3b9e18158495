-- Why a log isn't read.
use Rattle.std.specs.Prelude.{◌≡◌, ℕ, ◌≤◌, Result, IfErr, IsErrOf, ⊤}
use Rattle.disk_model.specs.Causes.{Rose}
use Rattle.gate_log.specs.declared.refusal.LogRefusal.{LogRefusal}
use Rattle.gate_log.specs.declared.refusal.LogRefusal.TheVariants.{Disk as LogDisk, LogFull as LogLogFull, Damaged as LogDamaged, Memory as LogMemory}
use Rattle.store_opening.specs.declared.refusal.ReadRefusal.{ReadRefusal}
use Rattle.store_opening.specs.declared.refusal.ReadRefusal.TheVariants.{Disk, Damaged, UnknownVersion, Memory}

-- the same refusal of a log that is read; one that is read is never full
abbrev pub told : LogRefusal → ReadRefusal
told LogDisk = Disk
told (LogDamaged at) = Damaged at
told (LogLogFull used) = Memory
told LogMemory = Memory

-- no call of the disk failed
abbrev pub IsNoFault : ReadRefusal → Type 0
IsNoFault Disk = ⊥
IsNoFault _ = ⊤

-- The disk's count of faults never falls. It rose where the refusal is `Disk`, and is as before at each other answer.
pub record IsCaused {T : Type 0} (before now : ℕ) (result : Result T ReadRefusal) : Type 0 where
  pub later : before ≤ now
  pub failed : IsErrOf result Disk → Rose before now
  pub kept : IfErr result IsNoFault → now ≡ before

-- of these refusals the walk over the batches gives only some
abbrev pub IsOfWalk : ReadRefusal → Type 0
IsOfWalk (UnknownVersion byte) = ⊥
IsOfWalk _ = Unit {0}
