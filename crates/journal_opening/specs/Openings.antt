-- What an opening of a store leads to.
use Rattle.std.specs.Prelude.{◌≡◌, ◌⊎◌, ℕ, ◌-◌, ◌*◌, ◌≤◌, List, [], length, false, Option, None}
use Rattle.cell_model.specs.Cells.{Cell}
use Rattle.cell_model.specs.Consistent.{AreConsistent}
use Rattle.cell_page.specs.Format.{page_size}
use Rattle.disk_model.specs.declared.area.Area.{Area}
use Rattle.disk_model.specs.declared.area.Area.TheVariants.{Pages}
use Rattle.disk_model.specs.Areas.{Bytes}
use Rattle.disk_model.specs.Causes.{Rose}
use Rattle.disk_model.specs.Told.{IsImage, Leaves}
use Rattle.disk_model.specs.Time.{LeavesOnlyImages}
use Rattle.gate_log.specs.declared.stage.Stage.TheVariants.{Standing}
use Rattle.gate_log.specs.Batches.{most_bytes}
use Rattle.gate_log.specs.OnDisk.{IsOn}
use Rattle.gate_log.specs.State.{LogState, used}
use Rattle.restart_laws.specs.Graph.{zeros_of}
use Rattle.core_store.specs.declared.frame.Frame.{Frame}
use Rattle.core_store.specs.declared.limits.Limits.{Limits}
use Rattle.core_store.specs.Opening.{ArePages, stored_in, opened_history}
use Rattle.core_store.specs.RoundView.{Closed}
use Rattle.logged_journal.specs.View.{LoggedView}
use Rattle.opened_images.specs.Opened.{Opened, OpensTo}
use Rattle.page_marks.specs.declared.marks.PageMark.{PageMark}
use Rattle.page_marks.specs.Marks.{IsMarkedBegun}
use Rattle.opened_store.specs.Steps.{IsLate}
use Rattle.opened_store.specs.Unopened.{OnlyLooksUnlessOpen}
use Rattle.store_opening.specs.declared.open_refusal.OpenRefusal.{OpenRefusal}
use Rattle.store_opening.specs.declared.open_refusal.OpenRefusal.TheVariants.{Disk}
use Rattle.store_opening.specs.Looks.{IsLookedAt}
use Rattle.store_opening.specs.Store.{Reads, Refuses, IsNoDisk, IsOfStore, IsFinal}

-- The disk's count of faults never falls. It rose where the refusal is `Disk`, and is as before at each other one.
pub record HasFault (before now : ℕ) (e : OpenRefusal) : Type 0 where
  pub later : before ≤ now
  pub failed : e ≡ Disk → Rose before now
  pub kept : IsNoDisk e → now ≡ before

module _ {D : Type 0} (content : D → Area → Option (List ℕ)) where
  -- what the disk read opens to these cells
  abbrev pub ReadsAs : ℕ → D → List Cell → Type 0
  ReadsAs slots disk cells = (image : Bytes) → Reads content disk image → Opened slots image (OpensTo cells)

  -- A journal with its log that was opened from this disk, and goes on from what it read: nothing has happened since, no
  -- transaction is active, nothing was refused, and each live object but the root that no strong pointer leads to is queued.
  pub record OpensAs (faults : D → ℕ) (slots : ℕ) (disk : D) (given : Limits) (v : LoggedView D) : Type 0 where
    pub opens : ReadsAs slots disk v.journal.opening
    pub history : v.journal.history ≡ opened_history slots (length v.journal.opening - 1) v.journal.opening
    pub notes : (v.journal.notes ≡ []) × (v.durable ≡ 0)
    pub limits : v.journal.limits ≡ given
    pub unmarked : (v.journal.marks ≡ record { disk = false; trace = false; log = false }) × (v.log_full ≡ false)
    pub collector : (v.journal.queue ≡ zeros_of v.journal.opening) × (v.journal.round ≡ Closed)
    pub running : v.failed ≡ None
    pub log : (v.log.tail ≡ []) × (v.peak ≡ used v.log)
    pub counted : (v.opened ≡ faults v.disk) × (faults disk ≤ v.opened)
    pub unfailed : v.opened ≡ faults disk

  module _ (may_leave : D → Area → List ℕ → Type 0) where
    -- these frames have the pages of what the disk read, and the log stands on it, which has begun with them; the marks are those
    -- of its records, and the pages area is as long as the pages
    pub record HasBegun (slots : ℕ) (before now : D) (frames : List (Frame slots)) (log : LogState) (marks : List PageMark) : Type 0 where
      pub few : (1 ≤ length frames) × (length frames ≤ 1024)
      pub pages : ArePages frames
      pub consistent : AreConsistent slots (8 * length frames) (stored_in frames)
      pub standing : (log.stage ≡ Standing) × (log.tail ≡ []) × (used log ≤ most_bytes)
      pub batches : List (List ℕ)
      pub on : IsOn may_leave log now batches
      pub begun : Leaves may_leave now Pages (λ area. IsMarkedBegun slots (length frames) area batches (stored_in frames) marks)
      pub marked : length marks ≡ length frames
      pub long : Leaves may_leave now Pages (λ area. page_size slots * length marks ≤ length area)
      pub opens : ReadsAs slots before (stored_in frames)

    module _ (moment : D → ℕ) (left_since : D → ℕ → Bytes → Type 0) where
      -- The refusal is what the disk opens to, whatever a power loss leaves, and nothing was written; or it tells nothing of the
      -- store. Where what the disk read does not open, nothing was written either way.
      pub record RefusesToOpen (slots : ℕ) (before : D) (e : OpenRefusal) (now : D) : Type 0 where
        pub refused : (image : Bytes) → Reads content before image → Refuses slots image e
        pub for_good : IsOfStore e → IsFinal content may_leave slots now e
        pub unwritten : IsLate e ⊎ IsLookedAt content may_leave moment left_since before now
        pub only_looks : OnlyLooksUnlessOpen content may_leave moment left_since slots before now

      -- where the disk read opens to cells, whatever a power loss leaves at each moment is what it may have left before, or opens
      -- to the same cells
      abbrev pub OpensMeanwhile : (slots : ℕ) (before now : D) → Type 0
      OpensMeanwhile slots before now =
          (cells : List Cell) (image : Bytes) → Reads content before image → Opened slots image (OpensTo cells)
          → LeavesOnlyImages moment left_since before now (λ other. IsImage may_leave before other ⊎ Opened slots other (OpensTo cells))
