-- A store that is made of a stream.
use Rattle.std.specs.Prelude.{◌≡◌, ◌≢◌, ℕ, ◌≤◌, List, Option, Some, None, Result, Ok, Err, IfOk, IfErr, IsErrOf, ⊤}
use Rattle.std.specs.Io.KnownBytes.{Consumes}
use Rattle.disk_model.specs.declared.area.Area.{Area}
use Rattle.disk_model.specs.Areas.{Bytes}
use Rattle.disk_model.specs.Causes.{Rose}
use Rattle.disk_model.specs.Time.{LeavesOnlyImages}
use Rattle.cell_model.specs.Cells.{Cell}
use Rattle.standby.specs.declared.promoted.Promoted.{Promoted}
use Rattle.standby.specs.declared.refusals.PromoteRefusal.{PromoteRefusal}
use Rattle.standby.specs.declared.refusals.PromoteRefusal.TheVariants as promote
use Rattle.standby.specs.Damage.{IsDamagedAt}
use Rattle.standby.specs.Promoted.{PromotesTo, IsUnsoundAt, LacksBase, IsPromoted, IsPromoting}
use Rattle.standby_feeding.specs.declared.fault.FeedFault.{FeedFault}
use Rattle.standby_feeding.specs.declared.fault.FeedFault.TheVariants as fault
use Rattle.standby_feeding.specs.declared.refusal.StreamRefusal.{StreamRefusal}
use Rattle.standby_feeding.specs.declared.refusal.StreamRefusal.TheVariants.{Read, Damaged, NoBase, Unsound, Disk, Memory}
use Rattle.standby_feeding.specs.Streams.{IsReadThrough}

-- the source tells what it has left, and a store can be made of that
abbrev pub HasStream : ℕ → Option (List ℕ) → Type 0
HasStream slots None = ⊥
HasStream slots (Some bytes) = (batches : ℕ) × (cells : List Cell) × PromotesTo slots bytes batches cells

-- a stream is refused for what it is
abbrev pub IsOfStream : StreamRefusal → Type 0
IsOfStream (Damaged at) = ⊤
IsOfStream (NoBase len) = ⊤
IsOfStream (Unsound id rule) = ⊤
IsOfStream _ = ⊥

-- the refusal of a stream that isn't read to its end
abbrev pub refusal_of : FeedFault → StreamRefusal
refusal_of fault.Read = Read
refusal_of (fault.Damaged at) = Damaged at
refusal_of fault.Memory = Memory

-- what a promotion tells, with the refusal as that of a stream
abbrev pub told_of : Result Promoted PromoteRefusal → Result Promoted StreamRefusal
told_of (Ok p) = Ok p
told_of (Err promote.Disk) = Err Disk
told_of (Err (promote.Unsound id rule)) = Err (Unsound id rule)
told_of (Err promote.Memory) = Err Memory
told_of (Err (promote.NoBase len)) = Err (NoBase len)

-- The source gave these bytes, and the disk was made anew as the store that they make; or it was not, and this is why.
pub record HasStoodBy {D : Type 0} (may_leave : D → Area → List ℕ → Type 0) (moment : D → ℕ) (left_since : D → ℕ → Bytes → Type 0) (slots : ℕ) (before now : Option (List ℕ)) (disk later : D)
    (result : Result Promoted StreamRefusal) : Type 0 where
  pub bytes : List ℕ
  pub consumed : Consumes before now bytes
  pub promoted : IfOk result (λ p. IsReadThrough slots now bytes × IsPromoted may_leave slots bytes later p)
  -- at each moment a power loss leaves what opens as before, or no store, or the store that the bytes make
  pub moments : LeavesOnlyImages moment left_since disk later (IsPromoting may_leave slots disk bytes)
  pub damaged : (at : ℕ) → IsErrOf result (Damaged at) → IsDamagedAt slots bytes at
  pub base : (len : ℕ) → IsErrOf result (NoBase len) → IsReadThrough slots now bytes × LacksBase slots bytes len
  pub unsound : (id rule : ℕ) → IsErrOf result (Unsound id rule) → IsReadThrough slots now bytes × IsUnsoundAt slots bytes id rule
  -- the store of the bytes could be made
  pub failed : IsErrOf result Disk → IsReadThrough slots now bytes × ((batches : ℕ) × (cells : List Cell) × PromotesTo slots bytes batches cells)
  -- where the source tells a stream whose store can be made, that isn't refused for what it is
  pub taken : HasStream slots before → IfErr result (λ e. IsOfStream e → ⊥)
  pub uncalled : IfErr result (λ e. e ≢ Disk → later ≡ disk)

-- No count of faults falls. Each rose where its side failed a call, and is as before at each other answer.
pub record HasStreamCause {T : Type 0} (source_before source_now disk_before disk_now : ℕ) (result : Result T StreamRefusal) : Type 0 where
  pub source_later : source_before ≤ source_now
  pub source_failed : IsErrOf result Read → Rose source_before source_now
  pub source_kept : (IsErrOf result Read → ⊥) → source_now ≡ source_before
  pub disk_later : disk_before ≤ disk_now
  pub disk_failed : IsErrOf result Disk → Rose disk_before disk_now
  pub disk_kept : (IsErrOf result Disk → ⊥) → disk_now ≡ disk_before
