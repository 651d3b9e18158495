-- What a promotion makes of the disk.
use Rattle.std.proofs.Common.{◌≡◌, ℕ, List, refl, sym, ap, subst, ◌∙◌, arith}
use Rattle.std.specs.Prelude.{Err, IsErrOf}
use Rattle.cell_model.specs.Cells.{Cell}
use Rattle.cell_page.specs.declared.cell.Cell.{Cell as PageCell}
use Rattle.cell_page.specs.Format.{IsSlotCount}
use Rattle.disk_model.specs.declared.area.Area.{Area}
use Rattle.disk_model.specs.Areas.{Bytes}
use Rattle.disk_model.specs.Told.{IsImage, EachImage}
use Rattle.disk_model.specs.Time.{LeavesOnlyImages}
use Rattle.disk_model.proofs.Moments.{weaken, no_call}
use Rattle.log_replay.specs.Replays.{Replaying}
use Rattle.opened_images.specs.Opened.{OpensTo, Opened, KeepsRules}
use Rattle.restart_store.specs.Fresh.{store_of, IsMakingOf}
use Rattle.standby.specs.declared.promoted.Promoted.{Promoted}
use Rattle.standby.specs.declared.settling.Settled.{Settled}
use Rattle.standby.specs.declared.refusals.PromoteRefusal.{PromoteRefusal}
use Rattle.standby.specs.declared.refusals.PromoteRefusal.TheVariants.{Disk}
use Rattle.standby.specs.Promoted.{LeadsTo, PromotesTo, BreaksAt, IsUnsoundAt, IsPromoted, IsPromoting, as_before, HasPromoteCause}
use Rattle.standby.specs.Settled.{IsSettled}
use Rattle.standby.proofs.MadeStores.{made_opens}
use Rattle.standby.proofs.CutStores.{making-opens}

module _ {slots : ℕ} (known : IsSlotCount slots) (v : Replaying) (s : Settled slots) (settled : IsSettled slots v s) where
  -- the store that is made opens to the cells
  pub new_opens : (byte : ℕ) → Opened slots (store_of s.pages.items byte) (OpensTo settled.cells)
  new_opens byte =
      subst (λ (cells : List Cell). Opened slots (store_of s.pages.items byte) (OpensTo cells)) settled.are
      (made_opens slots byte s.pages.items known settled.pages (subst (λ (cells : List Cell). KeepsRules cells) (sym settled.are) settled.rules))

  module _ (bytes : List ℕ) (batches : ℕ) (leads : LeadsTo slots bytes batches v) where
    -- and these are what the bytes make
    pub promotes : PromotesTo slots bytes batches settled.cells
    promotes = (v, leads, settled.restores)

    pub some_promotion : (n : ℕ) × (cells : List Cell) × PromotesTo slots bytes n cells
    some_promotion = (batches, settled.cells, promotes)

    module _ {D : Type 0} (may_leave : D → Area → List ℕ → Type 0) where
      pub promoted_to : (disk : D) (pages : List (List (PageCell slots))) (p : Promoted) → pages ≡ s.pages.items → EachImage may_leave disk (λ image. image ≡ store_of pages 0) → p.batches ≡ batches → p.stored ≡ s.stored
          → IsPromoted may_leave slots bytes disk p
      promoted_to disk pages p are images counted ids = record {
        cells = settled.cells;
        made = subst (λ (n : ℕ). PromotesTo slots bytes n settled.cells) (sym counted) promotes;
        opens = λ image may. subst (λ (i : Bytes). Opened slots i (OpensTo settled.cells)) (sym (images image may ∙ ap (λ (l : List (List (PageCell slots))). store_of l 0) are)) (new_opens 0);
        stored = ids ∙ settled.stored;
      }

      pub while_made : (moment : D → ℕ) (left_since : D → ℕ → Bytes → Type 0) (before now : D) (pages : List (List (PageCell slots))) → pages ≡ s.pages.items
          → LeavesOnlyImages moment left_since before now (IsMakingOf may_leave before (store_of pages)) → LeavesOnlyImages moment left_since before now (IsPromoting may_leave slots before bytes)
      while_made moment left_since before now pages are run =
          weaken (IsPromoting may_leave slots before bytes) (making-opens may_leave before slots bytes (store_of pages) batches settled.cells promotes
          (λ byte. subst (λ (l : List (List (PageCell slots))). Opened slots (store_of l byte) (OpensTo settled.cells)) (sym are) (new_opens byte))) run

-- where no call was made, all is as before
pub untouched : {D : Type 0} (slots : ℕ) (bytes : List ℕ) (may_leave : D → Area → List ℕ → Type 0) (moment : D → ℕ) (left_since : D → ℕ → Bytes → Type 0)
    → ((disk : D) (image : Bytes) → left_since disk (moment disk) image → IsImage may_leave disk image) → (disk : D)
    → LeavesOnlyImages moment left_since disk disk (IsPromoting may_leave slots disk bytes)
untouched slots bytes may_leave moment left_since only_now disk =
    no_call may_leave (IsPromoting may_leave slots disk bytes) only_now (λ image may. as_before image may (λ o. ((λ x. x), (λ x. x))))

pub no_call_cause : {T : Type 0} (count : ℕ) (e : PromoteRefusal) → (IsErrOf {T = T} (Err e) Disk → ⊥) → HasPromoteCause {T = T} count count (Err e)
no_call_cause count e none = record { later = omega arith; failed = λ is. absurd (none is); kept = λ apart. refl }

-- the cells can't be made a store
pub unsound_at : (slots : ℕ) (bytes : List ℕ) (batches : ℕ) (v : Replaying) (id rule : ℕ) → LeadsTo slots bytes batches v → BreaksAt slots v id rule → IsUnsoundAt slots bytes id rule
unsound_at slots bytes batches v id rule leads breaks = (batches, v, leads, breaks)
