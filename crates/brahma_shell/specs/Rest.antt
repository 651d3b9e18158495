-- The collector beside no active transaction: its rounds take nothing into the queue.
use Rattle.std.specs.Prelude.{◌≡◌, ◌+◌, ◌<◌, ◌≤◌, Bool, true, if◌then◌else◌, [], length}
use Rattle.core_store.specs.JournalView.{JournalView, cells_of}
use Rattle.core_store.specs.RoundView.{Closed}
use Rattle.quiet_rounds.specs.Quiet.{IsQuietRound}
use Rattle.brahma_shell.specs.Points.{point_of}
use Rattle.script_lines.specs.Numbers.{object_slots}

-- an event of the collector beside no active transaction, which took an object out of the queue or didn't
pub record StaysQuiet (old new : JournalView) (popped : Bool) : Type 0 where
  -- none is active after it
  pub active : (point_of new).moment.state.active ≡ []
  -- an object is taken out of the queue only where no round is open
  pub closed : popped ≡ true → old.round ≡ Closed
  -- fewer objects wait in the queue than the store has ids
  pub few : length old.queue < old.history.ids
  -- a round that opened beside no active transaction stays so, no object joins the queue, and the one that is taken out leaves it
  pub quiet : IsQuietRound object_slots (cells_of old) old.round → IsQuietRound object_slots (cells_of new) new.round × (length new.queue + (if popped then 1 else 0) ≤ length old.queue)
