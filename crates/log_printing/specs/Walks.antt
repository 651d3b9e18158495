-- From one place of a log to another one.
use Rattle.std.specs.Prelude.{◌≡◌, ℕ, ◌≤◌, List, ◌++◌, Result, IsErrOf}
use Rattle.disk_model.specs.Causes.{Rose}
use Rattle.log_printing.specs.Lines.{Place, GivesText}
use Rattle.log_printing.specs.declared.walking.Span.{Span}
use Rattle.log_printing.specs.declared.walking.WalkFault.{WalkFault}
use Rattle.log_printing.specs.declared.walking.WalkFault.TheVariants.{Disk, Write}

-- in front of a log
abbrev pub first_place : Place
first_place = record { at = 0; end = 0 }

-- where the next record stands, and where the body ends in which it stands
abbrev pub place_of : Span → Place
place_of s = record { at = s.at; end = s.end }

-- The text that the log has from the first place on is this one, and after it the text that it has from the second one on.
abbrev pub PrintsTo : (slots : ℕ) → List ℕ → Place → Place → List ℕ → Type 0
PrintsTo slots log p q text = (whole : List ℕ) → GivesText slots log whole p → (rest : List ℕ) × (whole ≡ text ++ rest) × GivesText slots log rest q

-- the text that the log has from the place on begins with this one
abbrev pub PrintsFront : (slots : ℕ) → List ℕ → Place → List ℕ → Type 0
PrintsFront slots log p text = (whole : List ℕ) → GivesText slots log whole p → (rest : List ℕ) × (whole ≡ text ++ rest)

-- it is this one
abbrev pub PrintsAll : (slots : ℕ) → List ℕ → Place → List ℕ → Type 0
PrintsAll slots log p text = (whole : List ℕ) → GivesText slots log whole p → whole ≡ text

-- the place isn't one of a log
abbrev pub IsNoPlace : (slots : ℕ) → List ℕ → Place → Type 0
IsNoPlace slots log p = (whole : List ℕ) → GivesText slots log whole p → ⊥

-- No count of faults falls. Each rose where its side failed a call, and is as before at each other answer.
pub record HasWalkCause {T : Type 0} (disk_before disk_now sink_before sink_now : ℕ) (result : Result T WalkFault) : Type 0 where
  pub disk_later : disk_before ≤ disk_now
  pub disk_failed : IsErrOf result Disk → Rose disk_before disk_now
  pub disk_kept : (IsErrOf result Disk → ⊥) → disk_now ≡ disk_before
  pub sink_later : sink_before ≤ sink_now
  pub sink_failed : IsErrOf result Write → Rose sink_before sink_now
  pub sink_kept : (IsErrOf result Write → ⊥) → sink_now ≡ sink_before
