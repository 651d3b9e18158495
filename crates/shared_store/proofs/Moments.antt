-- What a power loss leaves at each moment of upkeep.
use Rattle.std.proofs.Common.{◌≡◌, ◌⊎◌, ℕ, Bool, true, false, List, Option, Some, None, inl, inr, refl, sym, ap, subst}
use Rattle.std.specs.Prelude.{IfSome}
use Rattle.disk_model.specs.declared.area.Area.{Area}
use Rattle.disk_model.specs.Areas.{Bytes}
use Rattle.disk_model.specs.Told.{EachImage, IsImage}
use Rattle.disk_model.specs.Time.{LeavesOnlyImages}
use Rattle.disk_model.proofs.Moments.{no_call, weaken}
use Rattle.core_store.specs.declared.note.Note.{Note}
use Rattle.core_store.specs.Limited.{is_past_limit}
use Rattle.logged_journal.specs.declared.failed.FailedCall.{FailedCall}
use Rattle.logged_journal.specs.declared.upkeep.Upkeep.{Upkeep}
use Rattle.logged_journal.specs.declared.upkeep.Upkeep.TheVariants as upkeep
use Rattle.logged_journal.specs.View.{LoggedView, OnlyTakesRoom, history_of}
use Rattle.logged_journal.specs.Opens.{OpensAfter}
use Rattle.logged_journal.specs.Records.{HasRecords, MayBeLeft, MayHaveAll, durable, failed, durable_notes, notes_failed}
use Rattle.shared_store.proofs.Upkeeps.{RefusesClean, with_room}

-- ---- room was taken before

module _ {D : Type 0} (j : LoggedView D) (reserved : Bool) (room : ℕ) where
  records-before : (notes : List Note) (image : Bytes) → HasRecords (with_room j reserved room).journal notes image → HasRecords j.journal notes image
  records-before notes image has = record { batches = has.batches; log = has.log; hold = has.hold }

  left-before : (image : Bytes) → MayBeLeft (with_room j reserved room) image → MayBeLeft j image
  left-before image (durable has) = durable (records-before (durable_notes j) image has)
  left-before image (failed f is has) = failed f is (records-before (notes_failed j.journal.notes f) image has)

  have-before : (image : Bytes) → MayHaveAll (with_room j reserved room) image → MayHaveAll j image
  have-before image (inl left) = inl (left-before image left)
  have-before image (inr has) = inr (records-before j.journal.notes image has)

module _ {D : Type 0} (moment : D → ℕ) (left_since : D → ℕ → Bytes → Type 0) (j k : LoggedView D) (now : D) (takes : OnlyTakesRoom j k) where
  pub moments-before : LeavesOnlyImages moment left_since k.disk now (MayHaveAll k) → LeavesOnlyImages moment left_since j.disk now (MayHaveAll j)
  moments-before run = weaken (MayHaveAll j) (have-before j k.journal.reserved k.log.room) (subst (λ (x : LoggedView D). LeavesOnlyImages moment left_since x.disk now (MayHaveAll x)) takes run)

  pub opens-before : (slots : ℕ) → LeavesOnlyImages moment left_since k.disk now (OpensAfter slots (history_of k)) → LeavesOnlyImages moment left_since j.disk now (OpensAfter slots (history_of j))
  opens-before slots run = subst (λ (x : LoggedView D). LeavesOnlyImages moment left_since x.disk now (OpensAfter slots (history_of x))) takes run

-- ---- the disk was asked for nothing

module _ {D : Type 0} (may_leave : D → Area → List ℕ → Type 0) (moment : D → ℕ) (left_since : D → ℕ → Bytes → Type 0)
    (only_now : (disk : D) (image : Bytes) → left_since disk (moment disk) image → IsImage may_leave disk image) (j k : LoggedView D) (same : k.disk ≡ j.disk) where
  still : (P : Bytes → Type 0) → EachImage may_leave j.disk P → LeavesOnlyImages moment left_since j.disk k.disk P
  still P has = subst (λ (d : D). LeavesOnlyImages moment left_since j.disk d P) (sym same) (no_call may_leave P only_now has)

  pub moments-still : EachImage may_leave j.disk (MayBeLeft j) → LeavesOnlyImages moment left_since j.disk k.disk (MayHaveAll j)
  moments-still has = still (MayHaveAll j) (λ image may. inl (has image may))

  pub opens-still : (slots : ℕ) → EachImage may_leave j.disk (OpensAfter slots (history_of j)) → LeavesOnlyImages moment left_since j.disk k.disk (OpensAfter slots (history_of j))
  opens-still slots has = still (OpensAfter slots (history_of j)) has

-- so it is where a page's cleaning is refused
pub clean-refused-disk : {D : Type 0} (j k : LoggedView D) (u : Upkeep) → RefusesClean j k (Some u) → k.disk ≡ j.disk
clean-refused-disk {D} j k u r = by_failed j.failed refl r.stopped (is_past_limit j.journal 1) refl
  where
    by_failed : (o : Option FailedCall) → j.failed ≡ o → IfSome o (λ f. (Some u ≡ Some (upkeep.Stopped f.faults)) × (k ≡ j)) → (past : Bool) → is_past_limit j.journal 1 ≡ past → k.disk ≡ j.disk
    by_failed (Some f) e s past is = ap (λ (x : LoggedView D). x.disk) s.1
    by_failed None e s true past = let a = r.full e past in ap (λ (x : LoggedView D). x.disk) a.1
    by_failed None e s false past = absurd (let a = r.free e past in let none = a.0 in cc)
