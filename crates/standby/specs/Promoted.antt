-- What a promotion makes of the disk, why there is none, and what a power loss leaves of the disk meanwhile.
use Rattle.std.specs.Prelude.{◌≡◌, ◌⊎◌, ℕ, ◌≤◌, List, length, Result, IsErrOf}
use Rattle.plain_model.specs.Graphs.{ids_of}
use Rattle.cell_model.specs.Cells.{Cell}
use Rattle.cell_model.specs.Graph.{graph_of}
use Rattle.cell_page.specs.declared.cell.Cell.{Cell as PageCell}
use Rattle.disk_model.specs.declared.area.Area.{Area}
use Rattle.disk_model.specs.Areas.{Bytes}
use Rattle.disk_model.specs.Causes.{Rose}
use Rattle.disk_model.specs.Told.{IsImage, EachImage}
use Rattle.log_record.specs.declared.record.Record.{Record}
use Rattle.log_replay.specs.Replays.{Replaying}
use Rattle.restart_laws.specs.Restored.{restored, CanRestart}
use Rattle.restart_laws.specs.Rules.{IsFirstBroken}
use Rattle.opened_images.specs.LogRecords.{all_of}
use Rattle.opened_images.specs.Opened.{NoStore, OpensTo, Opened, KeepsRules, RestartsStuckAt}
use Rattle.ship_stream.specs.Reading.{Reading, InLog, HasAllPages}
use Rattle.ship_stream.specs.Laws.{IsRead}
use Rattle.standby.specs.declared.promoted.Promoted.{Promoted}
use Rattle.standby.specs.declared.refusals.PromoteRefusal.{PromoteRefusal}
use Rattle.standby.specs.declared.refusals.PromoteRefusal.TheVariants.{Disk}
use Rattle.standby.specs.Following.{over_base, base_after, AllFit}
use Rattle.standby.specs.Laws.{OpenAlike}

-- ---- what the bytes lead to

-- All pages of the base are among these bytes, and after them so many whole batches, whose records fit. This is the base after them.
pub record LeadsTo (slots : ℕ) (bytes : List ℕ) (batches : ℕ) (v : Replaying) : Type 0 where
  pub pages : List (List (PageCell slots))
  pub log : List (List (Record slots))
  pub rest : List ℕ
  pub read : IsRead bytes (InLog pages log) rest
  pub fit : AllFit (over_base pages) (all_of log)
  pub many : batches ≡ length log
  pub are : v ≡ base_after pages log

-- Its cells keep the store rules, and what has not ended can be undone. These are the cells afterwards.
pub record Restores (slots : ℕ) (v : Replaying) (cells : List Cell) : Type 0 where
  pub rules : KeepsRules v.cells
  pub restarts : CanRestart slots v.cells v.unended
  pub are : cells ≡ restored slots v.cells v.unended

-- So the store that these bytes make has these cells.
abbrev pub PromotesTo : (slots : ℕ) → List ℕ → ℕ → List Cell → Type 0
PromotesTo slots bytes batches cells = (v : Replaying) × LeadsTo slots bytes batches v × Restores slots v cells

-- Its cells break this of the first four rules, the least one that is broken, and this is the least object that breaks it; or they
-- keep them, and of the changes that are to be undone the first that can't be, rule 5, is of this object.
abbrev pub BreaksAt : (slots : ℕ) → Replaying → (id rule : ℕ) → Type 0
BreaksAt slots v id rule = IsFirstBroken v.cells rule id ⊎ (KeepsRules v.cells × RestartsStuckAt slots v.cells v.unended id × (rule ≡ 5))

-- so it is with the base after the whole batches of these bytes
abbrev pub IsUnsoundAt : (slots : ℕ) → List ℕ → (id rule : ℕ) → Type 0
IsUnsoundAt slots bytes id rule = (batches : ℕ) × (v : Replaying) × LeadsTo slots bytes batches v × BreaksAt slots v id rule

-- The number of pages and the pages are not all there, and so many bytes are.
abbrev pub LacksBase : (slots : ℕ) → List ℕ → ℕ → Type 0
LacksBase slots bytes len = (r : Reading slots) × (rest : List ℕ) × IsRead bytes r rest × (HasAllPages r → ⊥) × (len ≡ length bytes)

-- ---- the disk

module _ {D : Type 0} (may_leave : D → Area → List ℕ → Type 0) where
  -- Whatever a power loss leaves of the disk opens to the cells that these bytes make, whose stored ids and whole batches are told.
  pub record IsPromoted (slots : ℕ) (bytes : List ℕ) (disk : D) (p : Promoted) : Type 0 where
    pub cells : List Cell
    pub made : PromotesTo slots bytes p.batches cells
    pub opens : EachImage may_leave disk (λ image. Opened slots image (OpensTo cells))
    pub stored : p.stored ≡ ids_of (graph_of cells)

  -- What an image opens to while a standby that was fed with these bytes is promoted on this disk: to what one from before opens to;
  -- or to no store; or to the cells that the bytes make.
  pub data IsPromoting (slots : ℕ) (disk : D) (bytes : List ℕ) (image : Bytes) : Type 0 where
    as_before : (old : Bytes) → IsImage may_leave disk old → OpenAlike slots old image → IsPromoting slots disk bytes image
    no_store : Opened slots image NoStore → IsPromoting slots disk bytes image
    promoted : (batches : ℕ) (cells : List Cell) → PromotesTo slots bytes batches cells → Opened slots image (OpensTo cells) → IsPromoting slots disk bytes image

-- The disk's count of faults never falls. It rose where the refusal is `Disk`, and is as before at each other answer.
pub record HasPromoteCause {T : Type 0} (before now : ℕ) (result : Result T PromoteRefusal) : Type 0 where
  pub later : before ≤ now
  pub failed : IsErrOf result Disk → Rose before now
  pub kept : (IsErrOf result Disk → ⊥) → now ≡ before
