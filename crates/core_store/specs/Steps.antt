-- What the steps of a transaction make of the tables.
use Rattle.std.specs.Prelude.{◌≡◌, ◌≢◌, ℕ, ◌+◌, Bool, true, false, not, ◌&&◌, ◌==◌, List, [], filter, length, map, get_or, Some, None, if◌then◌else◌}
use Rattle.std.specs.List.{list_any}
use Rattle.std.specs.Ordering.{nat_cmp}
use Rattle.std.specs.BTreeMap.{is_at}
use Rattle.plain_model.specs.Graphs.{root}
use Rattle.cell_model.specs.Cells.{Cell}
use Rattle.restart_laws.specs.Graph.{zeros_of}
use Rattle.strict_locks.specs.Locks.{DropsAll}
use Rattle.ref_tables.specs.Queue.{has, joined}
use Rattle.core_store.specs.Changes.{has_no_strong}
use Rattle.core_store.specs.RoundView.{Closed, ids_in}
use Rattle.core_store.specs.Queued.{all_joined, each_once}
use Rattle.core_store.specs.Transactions.{Running, running_at}
use Rattle.core_store.specs.FreeIds.{AreFreeIn}
use Rattle.core_store.specs.Tables.{TablesView}

-- the client has no transaction, and every other client's is as before
pub record TakesAt (old new : List (ℕ × Running)) (pass : ℕ) : Type 0 where
  pub here : running_at new pass ≡ None
  pub others : (q : ℕ) → q ≢ pass → running_at new q ≡ running_at old q

-- the test tells which ids these references name
pub record AreNames (references : ℕ → List ℕ) (named : ℕ → Bool) : Type 0 where
  pub yes : (id : ℕ) → named id ≡ true → (p : ℕ) × (has (references p) id ≡ true)
  pub no : (id p : ℕ) → named id ≡ false → has (references p) id ≡ false

-- by the marks, the free ids and the round: no strong pointer leads to the object, it isn't the root, it isn't free, and the open
-- round doesn't have it; and it isn't named
abbrev pub is_queued : TablesView → (ℕ → Bool) → ℕ → Bool
is_queued v named id = get_or v.zeros id false && (not (id == root) && (not (list_any (is_at (nat_cmp id)) v.free) && (not (has (ids_in v.round) id) && not (named id))))

-- the object joined the queue where it is to, and nothing else changed
pub record JoinsIfQueued (v w : TablesView) (id : ℕ) : Type 0 where
  pub same : w ≡ record v { queue = w.queue }
  pub queue : (named : ℕ → Bool) → AreNames v.references named → w.queue ≡ (if is_queued v named id then joined v.queue id else v.queue)

-- where a strong pointer to the object was removed, it joined the queue if it is to, and nothing else changed
pub record JoinsIfCut (v w : TablesView) (id : ℕ) (was_strong : Bool) : Type 0 where
  pub same : w ≡ record v { queue = w.queue }
  pub queue : (named : ℕ → Bool) → AreNames v.references named → w.queue ≡ (if was_strong && is_queued v named id then joined v.queue id else v.queue)

-- by the round and the marks: the object is in the open round and no strong pointer leads to it; and it isn't named
abbrev pub is_left_loose : TablesView → (ℕ → Bool) → ℕ → Bool
is_left_loose v named id = has (ids_in v.round) id && (get_or v.zeros id false && not (named id))

-- the object joins the queue where it is left and loose, and nothing else changes
pub record JoinsIfLoose (v w : TablesView) (id : ℕ) : Type 0 where
  pub same : w ≡ record v { queue = w.queue }
  pub queue : (named : ℕ → Bool) → AreNames v.references named → w.queue ≡ (if is_left_loose v named id then joined v.queue id else v.queue)

-- the client names nothing any more, and what it alone named joined the queue where it is to
pub record NamesNothing (v w : TablesView) (pass : ℕ) : Type 0 where
  pub same : w ≡ record v { references = w.references; queue = w.queue }
  pub unnamed : w.references pass ≡ []
  pub others : (q : ℕ) → q ≢ pass → w.references q ≡ v.references q
  pub queue : (named : ℕ → Bool) → AreNames w.references named → w.queue ≡ all_joined v.queue (filter (is_queued v named) (each_once (v.references pass)))

-- the client's transaction is over: its locks are given back, it names nothing any more, and free ids, marks and the round are as
-- before
pub record Ends (v w : TablesView) (pass : ℕ) : Type 0 where
  pub ids : w.ids ≡ v.ids
  pub free : w.free ≡ v.free
  pub zeros : w.zeros ≡ v.zeros
  pub locks : DropsAll v.locks w.locks pass
  pub transactions : TakesAt v.transactions w.transactions pass
  pub owed : (t : Running) → running_at v.transactions pass ≡ Some t → w.owed + (length t.replaced + 1) ≡ v.owed
  pub unnamed : w.references pass ≡ []
  pub others : (q : ℕ) → q ≢ pass → w.references q ≡ v.references q
  pub queue : (named : ℕ → Bool) → AreNames w.references named → w.queue ≡ all_joined v.queue (filter (is_queued v named) (each_once (v.references pass)))
  pub round : w.round ≡ v.round

-- a store of so many ids that has just opened to these cells: no client is active, and what no strong pointer leads to is queued
pub record IsOpenedTo (v : TablesView) (ids : ℕ) (cells : List Cell) : Type 0 where
  pub same_ids : v.ids ≡ ids
  pub free : AreFreeIn cells ids v.free
  pub zeros : v.zeros ≡ map has_no_strong cells
  pub locks : v.locks ≡ []
  pub transactions : v.transactions ≡ []
  pub owed : v.owed ≡ 0
  pub references : (pass : ℕ) → v.references pass ≡ []
  pub queue : v.queue ≡ zeros_of cells
  pub round : v.round ≡ Closed
