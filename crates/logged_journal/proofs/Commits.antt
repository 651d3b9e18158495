-- What a log has after a commit, done or failed.
use Rattle.std.proofs.Common.{◌≢◌, inl, inr, ⊎_elim, ℕ, List}
use Rattle.disk_model.specs.declared.area.Area.{Area}
use Rattle.disk_model.specs.declared.area.Area.TheVariants.{Pages, LogA, LogB, Super}
use Rattle.disk_model.specs.Areas.{Bytes}
use Rattle.disk_model.specs.Time.{LeavesOnlyImages}
use Rattle.gate_log.specs.State.{IsLogArea}
use Rattle.gate_log.specs.OnDisk.{HasEither}
use Rattle.logged_journal.specs.View.{LoggedView}
use Rattle.logged_journal.specs.Records.{HoldRecords, with_commit, durable_notes, durable, MayHave}

-- at each moment of the force
pub forced-image : {D : Type 0} (v : LoggedView D) (pass : ℕ) (batches after : List (List ℕ)) (image : Bytes) → HoldRecords v.journal image.pages (durable_notes v) batches
    → HoldRecords v.journal image.pages (with_commit v.journal.notes pass) after → HasEither batches after image → MayHave v pass image
forced-image v pass batches after image hold all has =
    ⊎_elim (λ log. inl (durable (record { batches = batches; log = log; hold = hold })))
    (λ log. inr (record { batches = after; log = log; hold = all }))
    has

-- ---- the pages area while a log is forced

-- it is no log area
pub pages-apart : (area : Area) → IsLogArea area → Pages ≢ area
pages-apart Pages is e = is
pages-apart LogA is e = cc (e)
pages-apart LogB is e = cc (e)
pages-apart Super is e = is

module _ {D : Type 0} {moment : D → ℕ} {left_since : D → ℕ → Bytes → Type 0} where
  -- what two clauses tell of the images of a run, they tell of each image together
  pub both : {before now : D} {P Q : Bytes → Type 0} (R : Bytes → Type 0) → ((image : Bytes) → P image → Q image → R image)
      → LeavesOnlyImages moment left_since before now P → LeavesOnlyImages moment left_since before now Q → LeavesOnlyImages moment left_since before now R
  both R make these those =
      record {
        later = these.later;
        each = λ image left. make image (these.each image left) (those.each image left);
        earlier = λ t image le left. ⊎_elim (λ was. inl was) (λ this. ⊎_elim (λ was. inl was) (λ that. inr (make image this that)) (those.earlier t image le left)) (these.earlier t image le left);
      }
