-- A stream that was checked.
use Rattle.std.specs.Prelude.{◌≡◌, ℕ, ◌≤◌, List, Option, Result, Ok, Err, IfOk, IfErr, IsErrOf, ⊤}
use Rattle.std.specs.Io.KnownBytes.{Consumes}
use Rattle.disk_model.specs.Causes.{Rose}
use Rattle.standby.specs.Damage.{IsDamagedAt}
use Rattle.standby.specs.Promoted.{IsUnsoundAt, LacksBase}
use Rattle.standby_feeding.specs.declared.fault.FeedFault.{FeedFault}
use Rattle.standby_feeding.specs.declared.fault.FeedFault.TheVariants as fault
use Rattle.standby_feeding.specs.Streams.{IsReadThrough}
use Rattle.standby_feeding.specs.StoodBy.{HasStream}
use Rattle.log_checker.specs.declared.verdict.Verdict.{Verdict}
use Rattle.log_checker.specs.declared.refusal.CheckRefusal.{CheckRefusal}
use Rattle.log_checker.specs.declared.refusal.CheckRefusal.TheVariants as check
use Rattle.log_checker.specs.Verdicts.{IsVerdict}
use Rattle.log_checking.specs.declared.refusal.VerdictRefusal.{VerdictRefusal}
use Rattle.log_checking.specs.declared.refusal.VerdictRefusal.TheVariants.{Read, Damaged, NoBase, Unsound, Memory}

-- a stream is refused for what it is
abbrev pub IsOfStream : VerdictRefusal → Type 0
IsOfStream (Damaged at) = ⊤
IsOfStream (NoBase len) = ⊤
IsOfStream (Unsound id rule) = ⊤
IsOfStream _ = ⊥

-- the refusal of a stream that isn't read to its end
abbrev pub refusal_of : FeedFault → VerdictRefusal
refusal_of fault.Read = Read
refusal_of (fault.Damaged at) = Damaged at
refusal_of fault.Memory = Memory

-- what a checker tells, with the refusal as that of a stream
abbrev pub told_of : Result Verdict CheckRefusal → Result Verdict VerdictRefusal
told_of (Ok v) = Ok v
told_of (Err (check.NoBase len)) = Err (NoBase len)
told_of (Err (check.Unsound id rule)) = Err (Unsound id rule)
told_of (Err check.Memory) = Err Memory

-- The source gave these bytes. They are all, or have the closed commit byte, and this is the verdict on them; or there is none, and
-- this is why.
pub record HasChecked (slots : ℕ) (before now : Option (List ℕ)) (result : Result Verdict VerdictRefusal) : Type 0 where
  pub bytes : List ℕ
  pub consumed : Consumes before now bytes
  pub verdict : IfOk result (λ v. IsReadThrough slots now bytes × IsVerdict slots bytes v)
  pub damaged : (at : ℕ) → IsErrOf result (Damaged at) → IsDamagedAt slots bytes at
  pub base : (len : ℕ) → IsErrOf result (NoBase len) → IsReadThrough slots now bytes × LacksBase slots bytes len
  pub unsound : (id rule : ℕ) → IsErrOf result (Unsound id rule) → IsReadThrough slots now bytes × IsUnsoundAt slots bytes id rule
  -- where the source tells a stream whose store can be made, that isn't refused for what it is
  pub taken : HasStream slots before → IfErr result (λ e. IsOfStream e → ⊥)

-- The source's count of faults never falls. It rose where a read failed, and is as before at each other answer.
pub record HasCheckCause {T : Type 0} (before now : ℕ) (result : Result T VerdictRefusal) : Type 0 where
  pub later : before ≤ now
  pub failed : IsErrOf result Read → Rose before now
  pub kept : (IsErrOf result Read → ⊥) → now ≡ before
