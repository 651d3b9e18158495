-- An area that was lengthened.
use Rattle.std.specs.Prelude.{◌≡◌, ◌-◌, ◌≤◌, ℕ, List, ◌++◌, length, replicate, Result, Err}
use Rattle.disk_model.specs.Causes.{Rose}
use Rattle.opened_store.specs.declared.lengthening.LengthRefusal.{LengthRefusal}
use Rattle.opened_store.specs.declared.lengthening.LengthRefusal.TheVariants.{Disk}

-- these bytes, and any after them
pub record Extends (before now : List ℕ) : Type 0 where
  pub rest : List ℕ
  pub are : now ≡ before ++ rest

-- these bytes, and after them zero bytes up to so many
abbrev pub lengthened : ℕ → List ℕ → List ℕ
lengthened wanted bytes = bytes ++ replicate (wanted - length bytes) 0

-- the disk's count of faults never falls; it rose where the answer is the refusal `Disk`, and is as before at each other answer
pub record HasLengthCause {T : Type 0} (before now : ℕ) (result : Result T LengthRefusal) : Type 0 where
  pub later : before ≤ now
  pub failed : result ≡ Err Disk → Rose before now
  pub kept : (result ≡ Err Disk → ⊥) → now ≡ before
