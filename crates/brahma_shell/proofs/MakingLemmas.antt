-- What the images of a disk open to while a store is made on it, and afterwards.
use Rattle.std.proofs.Common.{◌≡◌, ℕ, ◌≤◌, List, inl, inr, ⊎_elim, sym, subst}
use Rattle.disk_model.specs.declared.area.Area.{Area}
use Rattle.disk_model.specs.Areas.{Bytes}
use Rattle.disk_model.specs.Told.{EachImage}
use Rattle.disk_model.specs.Time.{LeavesOnlyImages}
use Rattle.restart_store.specs.Fresh.{IsMaking, fresh_store}
use Rattle.journal_opening.specs.Making.{OpensToRoot, OpensWhileMaking}
use Rattle.journal_opening.proofs.MakingLaws.{fresh-opens, making-opens}
use Rattle.script_lines.specs.Numbers.{object_slots}
use Rattle.brahma_shell.proofs.SlotLemmas.{known-slots}

module _ {D : Type 0} (may_leave : D → Area → List ℕ → Type 0) (before now : D) (pages : ℕ) (count : (1 ≤ pages) × (pages ≤ 1024)) where
  -- each image that is the fresh store opens to the root alone
  pub made-opens : EachImage may_leave now (λ image. image ≡ fresh_store object_slots pages 0) → EachImage may_leave now (OpensToRoot object_slots pages)
  made-opens are image may = subst (OpensToRoot object_slots pages) (sym (are image may)) (fresh-opens object_slots pages 0 known-slots count)

  -- and at each moment each image opens to what one from before did, to no store, or to the root alone
  pub meanwhile-opens : (moment : D → ℕ) (left_since : D → ℕ → Bytes → Type 0) → LeavesOnlyImages moment left_since before now (IsMaking may_leave before object_slots pages)
      → LeavesOnlyImages moment left_since before now (OpensWhileMaking may_leave object_slots before pages)
  meanwhile-opens moment left_since m =
      let opens = making-opens may_leave before object_slots pages known-slots count in
      record {
        later = m.later;
        each = λ image left. opens image (m.each image left);
        earlier = λ t image low left. ⊎_elim (λ was. inl was) (λ is. inr (opens image is)) (m.earlier t image low left);
      }
