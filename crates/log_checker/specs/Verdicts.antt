-- The verdict on a stream.
use Rattle.std.specs.Prelude.{◌≡◌, ℕ, List, ⊤}
use Rattle.plain_model.specs.declared.object.Object.{Object}
use Rattle.cell_model.specs.Cells.{Cell}
use Rattle.cell_model.specs.Graph.{graph_of}
use Rattle.cell_page.specs.declared.cell.Cell.{Cell as PageCell}
use Rattle.log_record.specs.declared.record.Record.{Record}
use Rattle.log_replay.specs.Inside.{cells_of_pages}
use Rattle.log_replay.specs.Replays.{Replaying}
use Rattle.opened_images.specs.LogRecords.{all_of}
use Rattle.standby.specs.Promoted.{LeadsTo, Restores}
use Rattle.log_checker.specs.Commits.{folded, commit_count}
use Rattle.log_checker.specs.Tallies.{Tallying, Tells}
use Rattle.log_checker.specs.Differences.{IsDifference}
use Rattle.log_checker.specs.declared.verdict.Verdict.{Verdict}
use Rattle.log_checker.specs.declared.refusal.CheckRefusal.{CheckRefusal}
use Rattle.log_checker.specs.declared.refusal.CheckRefusal.TheVariants.{NoBase, Unsound, Memory}

-- The fold of a stream: the graph of the base's live cells, with the writes of each transaction that has a commit in a whole batch, in
-- the order of the commits.
abbrev pub stream_fold : {slots : ℕ} → List (List (PageCell slots)) → List (List (Record slots)) → List Object
stream_fold pages batches = folded (graph_of (cells_of_pages pages)) (all_of batches)

-- The verdict on these bytes: the number of commits in their whole batches, and the least difference between the graph of the cells
-- that they make, where what has not ended is undone, and their fold.
pub record IsVerdict (slots : ℕ) (bytes : List ℕ) (v : Verdict) : Type 0 where
  pub batches : ℕ
  pub replaying : Replaying
  pub leads : LeadsTo slots bytes batches replaying
  pub cells : List Cell
  pub restores : Restores slots replaying cells
  pub commits : v.commits ≡ commit_count (all_of leads.log)
  pub differs : IsDifference (graph_of cells) (stream_fold leads.pages leads.log) v.differs

-- These bytes make this replay, and beside it this tally tells of the same records.
pub record LeadsToBoth (slots : ℕ) (bytes : List ℕ) (v : Replaying) (t : Tallying) : Type 0 where
  pub batches : ℕ
  pub leads : LeadsTo slots bytes batches v
  pub tells : Tells (cells_of_pages leads.pages) (all_of leads.log) t

-- the graph is that of the cells that are restored from those of the replay
pub record IsRestoredGraph (slots : ℕ) (v : Replaying) (g : List Object) : Type 0 where
  pub cells : List Cell
  pub restores : Restores slots v cells
  pub are : g ≡ graph_of cells

-- the refusal is on account of the cells, or memory ran out
abbrev pub IsOfCells : CheckRefusal → Type 0
IsOfCells (NoBase len) = ⊥
IsOfCells _ = ⊤

-- pages are missing, or memory ran out
abbrev pub IsOfBase : CheckRefusal → Type 0
IsOfBase (Unsound id rule) = ⊥
IsOfBase _ = ⊤
