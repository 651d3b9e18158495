-- How notes lead from one journal to another: all that a journal has, but how far a walk has come, is what its notes give.
use Rattle.std.specs.Prelude.{◌≡◌, ◌≢◌, ◌↔◌, ℕ, List, [], ◌∷◌, Option, Some, None, option_map}
use Rattle.plain_model.specs.declared.calls.Call.{Call as TransactionCall}
use Rattle.plain_model.specs.declared.calls.Call.TheVariants.{Abort}
use Rattle.plain_model.specs.declared.calls.Entry.{Entry}
use Rattle.plain_model.specs.declared.calls.Entry.TheVariants.{Call, Undo, Hidden, TurnBusy}
use Rattle.plain_model.specs.Machine.{transaction_of}
use Rattle.store_model.specs.Core.{Round, Core}
use Rattle.log_record.specs.declared.cell_record.CellRecord.{CellRecord}
use Rattle.log_record.specs.declared.cell_record.CellRecord.TheVariants.{AbortEnd}
use Rattle.core_store.specs.declared.note.Note.{Note}
use Rattle.core_store.specs.declared.act.Act.{Act}
use Rattle.core_store.specs.declared.act.Act.TheVariants.{Other}
use Rattle.core_store.specs.Logged.{logged_by, logged_by_undo}
use Rattle.core_store.specs.Replaced.{next_to_restore}
use Rattle.core_store.specs.Queued.{queue_after}
use Rattle.core_store.specs.Touched.{objects_touched, round_after}
use Rattle.core_store.specs.Events.{core_after}
use Rattle.core_store.specs.Collects.{Collects, entry_of}

-- the call ends the client's abort
abbrev pub IsEndOfAbort : Core → ℕ → TransactionCall → Type 0
IsEndOfAbort c pass call = (call ≡ Abort) × (transaction_of c.moment.state pass ≢ None)

-- the entry is of a call, of an undo or of upkeep, and this is what it logs: upkeep changes no object, and logs nothing
abbrev pub IsLoggedByOther : Core → Entry → Option CellRecord → Type 0
IsLoggedByOther c (Call pass call reply) logged = (IsEndOfAbort c pass call → logged ≡ Some (AbortEnd pass)) × ((IsEndOfAbort c pass call → ⊥) → logged ≡ logged_by c.moment.state c.cells pass call)
IsLoggedByOther c (Undo pass) logged = logged ≡ option_map (logged_by_undo c.cells pass) (next_to_restore c.moment pass)
IsLoggedByOther c Hidden logged = logged ≡ None
IsLoggedByOther c (TurnBusy pass) logged = logged ≡ None
IsLoggedByOther c _ logged = ⊥

-- what a note makes of the queue and the round, and what it logs
abbrev pub Turns : ℕ → Core → Note → List ℕ → Option Round → Type 0
Turns slots c n queue round = by n.act
  where
    by : Act → Type 0
    by Other = IsLoggedByOther c n.entry n.logged × (queue ≡ queue_after c n.logged) × (round ≡ round_after c.round (objects_touched n.logged))
    by a = (n.entry ≡ entry_of n.logged) × Collects slots c a n.logged queue round

-- a note leads from a journal to the next one, and tells that no work is left exactly where no round is open
pub record Leads (slots : ℕ) (c d : Core) (n : Note) : Type 0 where
  pub after : d ≡ core_after slots c n.entry n.logged d.queue d.round
  pub turns : Turns slots c n d.queue d.round
  pub left : (n.left ≡ 0) ↔ (d.round ≡ None)

-- the notes lead from a journal to another, one after another
abbrev pub AreLed : ℕ → Core → List Note → Core → Type 0
AreLed slots c [] d = c ≡ d
AreLed slots c (n ∷ ns) d = (e : Core) × Leads slots c e n × AreLed slots e ns d
