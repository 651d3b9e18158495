-- What the images open to while upkeep is done.
use Rattle.std.proofs.Common.{◌≡◌, inl, ⊎_elim, ℕ, List, Option, None, sym, ap, subst}
use Rattle.std.specs.Option.{option_map_or, option_and_then}
use Rattle.disk_model.specs.declared.area.Area.{Area}
use Rattle.disk_model.specs.Areas.{Bytes}
use Rattle.disk_model.specs.Told.{EachImage, IsImage}
use Rattle.disk_model.specs.Time.{LeavesOnlyImages}
use Rattle.disk_model.proofs.Moments.{no_call, weaken}
use Rattle.plain_model.specs.declared.calls.Call.TheVariants.{Commit}
use Rattle.plain_model.specs.declared.calls.Reply.TheVariants.{DiskFault}
use Rattle.plain_model.specs.declared.calls.Entry.TheVariants.{Call}
use Rattle.plain_model.specs.History.{History, with_entry}
use Rattle.logged_journal.specs.declared.failed.FailedCall.{FailedCall}
use Rattle.logged_journal.specs.View.{LoggedView, history_of}
use Rattle.logged_journal.specs.Records.{HasRecords, MayBeLeft, MayHaveAll}
use Rattle.logged_journal.specs.Opens.{OpensAfter}

-- where no call failed
running-history : {D : Type 0} (v : LoggedView D) → v.failed ≡ None → v.journal.history ≡ history_of v
running-history v running =
    sym (ap (λ (o : Option FailedCall). option_map_or (λ (client : ℕ). with_entry v.journal.history (Call client Commit DiskFault)) (option_and_then (λ (f : FailedCall). f.commit) o) v.journal.history) running)

module _ {D : Type 0} (may_leave : D → Area → List ℕ → Type 0) (moment : D → ℕ) (left_since : D → ℕ → Bytes → Type 0)
    (only_now : (disk : D) (image : Bytes) → left_since disk (moment disk) image → IsImage may_leave disk image) where
  -- the disk was asked for nothing
  pub still-upkeep : (v : LoggedView D) (now : D) → now ≡ v.disk → EachImage may_leave v.disk (MayBeLeft v) → LeavesOnlyImages moment left_since v.disk now (MayHaveAll v)
  still-upkeep v now same images =
      subst (λ (d : D). LeavesOnlyImages moment left_since v.disk d (MayHaveAll v)) (sym same) (no_call may_leave (MayHaveAll v) only_now (λ image may. inl (images image may)))

  pub still-opened : (slots : ℕ) (v : LoggedView D) (now : D) → now ≡ v.disk → EachImage may_leave v.disk (MayBeLeft v) → ((image : Bytes) → MayBeLeft v image → OpensAfter slots (history_of v) image)
      → LeavesOnlyImages moment left_since v.disk now (OpensAfter slots (history_of v))
  still-opened slots v now same images left =
      subst (λ (d : D). LeavesOnlyImages moment left_since v.disk d (OpensAfter slots (history_of v))) (sym same) (no_call may_leave (OpensAfter slots (history_of v)) only_now (λ image may. left image (images image may)))

-- what it may have then opens
pub upkeep-opens : {D : Type 0} (moment : D → ℕ) (left_since : D → ℕ → Bytes → Type 0) (slots : ℕ) (v : LoggedView D) (before now : D) → v.failed ≡ None
    → ((image : Bytes) → MayBeLeft v image → OpensAfter slots (history_of v) image) → ((image : Bytes) → HasRecords v.journal v.journal.notes image → OpensAfter slots v.journal.history image)
    → LeavesOnlyImages moment left_since before now (MayHaveAll v) → LeavesOnlyImages moment left_since before now (OpensAfter slots (history_of v))
upkeep-opens moment left_since slots v before now running left all run =
    weaken (OpensAfter slots (history_of v))
    (λ image has. ⊎_elim (λ may. left image may) (λ records. subst (λ (h : History). OpensAfter slots h image) (running-history v running) (all image records)) has) run
