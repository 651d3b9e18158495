-- The queue of objects without strong pointers, and what joins it where a transaction ends.
use Rattle.std.specs.Prelude.{ℕ, Bool, true, false, not, ◌&&◌, ◌==◌, List, [], ◌∷◌, filter, fold, Option, Some}
use Rattle.plain_model.specs.Graphs.{root}
use Rattle.cell_model.specs.Cells.{cell_at, is_live}
use Rattle.store_model.specs.Core.{Ref, Core, is_named}
use Rattle.store_model.specs.Sound.{in_round}
use Rattle.store_model.specs.Steps.{references_left}
use Rattle.ref_tables.specs.Queue.{has, joined}
use Rattle.log_record.specs.declared.cell_record.CellRecord.{CellRecord}
use Rattle.log_record.specs.declared.cell_record.CellRecord.TheVariants as logs
use Rattle.core_store.specs.Changes.{has_no_strong}
use Rattle.core_store.specs.References.{named_by}

-- the queue is empty
abbrev pub is_none_queued : List ℕ → Bool
is_none_queued [] = true
is_none_queued (id ∷ ids) = false

-- the ids join the queue one after another; one that is there already stays at its place
abbrev pub all_joined : List ℕ → List ℕ → List ℕ
all_joined queue ids = fold joined queue ids

-- the ids, each once, in the order in which they come first
abbrev pub each_once : List ℕ → List ℕ
each_once ids = all_joined [] ids

-- the object is live and isn't the root, no strong pointer leads to it, the open round doesn't have it, and none of these
-- references names it
abbrev pub is_to_queue : Core → List Ref → ℕ → Bool
is_to_queue c refs id = is_live c.cells id && (not (id == root) && (has_no_strong (cell_at c.cells id) && (not (has (in_round c) id) && not (is_named refs id))))

-- the queue after the end of the client's transaction: what it named joins in order, where no other client names it and the
-- collector has to look at it
abbrev pub queue_after_end : Core → ℕ → List ℕ
queue_after_end c pass = all_joined c.queue (filter (is_to_queue c (references_left c.refs pass)) (each_once (named_by c.refs pass)))

-- the queue after what a client or an abort logged
abbrev pub queue_after : Core → Option CellRecord → List ℕ
queue_after c (Some (logs.Commit pass)) = queue_after_end c pass
queue_after c (Some (logs.AbortEnd pass)) = queue_after_end c pass
queue_after c _ = c.queue
