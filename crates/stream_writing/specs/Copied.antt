-- The bytes of an area that were written to a sink.
use Rattle.std.specs.Prelude.{◌≡◌, ℕ, ◌≤◌, List, take, Option, IfSome, Result, IsErrOf}
use Rattle.std.specs.Io.KnownBytes.{Appends}
use Rattle.disk_model.specs.Causes.{Rose}
use Rattle.stream_writing.specs.declared.copy.CopyFault.{CopyFault}
use Rattle.stream_writing.specs.declared.copy.CopyFault.TheVariants.{Disk, Write}

-- Bytes were written to the sink, which are the first ones of the area, so many, where that is told.
pub record HasCopied (area : Option (List ℕ)) (count : ℕ) (before after : Option (List ℕ)) : Type 0 where
  pub bytes : List ℕ
  pub written : Appends before after bytes
  pub are : IfSome area (λ c. bytes ≡ take count c)

-- No count of faults falls. Each rose where its side failed the copy, and is as before at each other answer.
pub record HasCopyCause {T : Type 0} (disk_before disk_now sink_before sink_now : ℕ) (result : Result T CopyFault) : Type 0 where
  pub disk_later : disk_before ≤ disk_now
  pub disk_failed : IsErrOf result Disk → Rose disk_before disk_now
  pub disk_kept : (IsErrOf result Disk → ⊥) → disk_now ≡ disk_before
  pub sink_later : sink_before ≤ sink_now
  pub sink_failed : IsErrOf result Write → Rose sink_before sink_now
  pub sink_kept : (IsErrOf result Write → ⊥) → sink_now ≡ sink_before
