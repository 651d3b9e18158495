-- What a journal keeps so that a crash after its first records is safe, and what a store that crashed then opens to.
use Rattle.std.specs.Prelude.{◌≡◌, ℕ, List, [], map, Option, Some, IfSome}
use Rattle.std.specs.Option.{option_map_or}
use Rattle.plain_model.specs.declared.calls.Entry.{Entry}
use Rattle.plain_model.specs.History.{Moment, moment_after, IsCrashConsistent}
use Rattle.cell_model.specs.Cells.{Cell}
use Rattle.cell_model.specs.Records.{Record, cells_after, AllFit}
use Rattle.store_model.specs.Core.{Core}
use Rattle.store_model.specs.Sound.{IsSound}
use Rattle.cell_model.specs.Consistent.{AreConsistent}
use Rattle.cell_model.specs.Graph.{graph_of}
use Rattle.restart_laws.specs.Unended.{Unended, unended_after, unended_after_all, FitsUnended, AllFitUnended}
use Rattle.restart_laws.specs.Restored.{restart_records, restored, CanRestart}
use Rattle.restart_laws.specs.Told.{told, HavePlaces}
use Rattle.restart_laws.specs.Settled.{IsSettled}

-- from one moment to the next the record tells of the transactions just what the reference machine says, and it fits what was
-- told before
pub record StaysTold (m n : Moment) (logged : Option Record) : Type 0 where
  pub tells : told n ≡ option_map_or (unended_after (told m)) logged (told m)
  pub fits : IfSome logged (FitsUnended (told m))

-- a store whose cells are these, and whose transactions that haven't ended are these, opens: no store rule is broken before they
-- are undone, each of their changes can be undone, the records of that fit, no store rule is broken afterwards, and the graph is
-- one that a crash at this moment may leave
pub record Opens (m : Moment) (cells : List Cell) (us : List (ℕ × Unended)) : Type 0 where
  pub before : AreConsistent m.state.slots m.state.ids cells
  pub can : CanRestart m.state.slots cells us
  pub fit : AllFit m.state.slots cells (map Some (restart_records m.state.slots cells us))
  pub after : AreConsistent m.state.slots m.state.ids (restored m.state.slots cells us)
  pub graph : IsCrashConsistent m (graph_of (restored m.state.slots cells us))

-- a journal that began so, and had these entries and logged these records, is now this one, and a crash with just these records
-- is safe
pub record IsRestartable (start : Core) (entries : List Entry) (records : List (Option Record)) (c : Core) : Type 0 where
  pub sound : IsSound c
  pub settled : IsSettled c.moment
  pub moment : c.moment ≡ moment_after start.moment entries
  pub cells : c.cells ≡ cells_after start.moment.state.slots start.cells records
  -- the records fit, and tell of the transactions that haven't ended what the reference machine says
  pub fit : AllFit start.moment.state.slots start.cells records
  pub fit_unended : AllFitUnended [] records
  pub tells : unended_after_all [] records ≡ told c.moment
  pub places : HavePlaces start.moment.state.slots (told c.moment)
