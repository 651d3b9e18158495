-- Entries of upkeep, of the log and of the pages: they change no object.
use Rattle.std.specs.Prelude.{◌≡◌, ℕ, Some, None, false}
use Rattle.plain_model.specs.declared.calls.Entry.{Entry}
use Rattle.plain_model.specs.declared.calls.Entry.TheVariants.{Hidden, TurnBusy}
use Rattle.plain_model.specs.History.{Moment, with_entry, least_active}
use Rattle.core_store.specs.declared.act.Act.TheVariants.{Other}
use Rattle.core_store.specs.JournalView.{JournalView, with_note}
use Rattle.core_store.specs.RoundView.{left_of}

-- upkeep was done, or a checkpoint was refused, since this client, the least active one, has a transaction
abbrev pub IsUpkeep : Moment → Entry → Type 0
IsUpkeep m Hidden = Unit {0}
IsUpkeep m (TurnBusy pass) = least_active m.state ≡ Some pass
IsUpkeep m _ = ⊥

-- the journal with this entry, which logs nothing, in the room that was reserved for it
abbrev pub with_upkeep : ℕ → JournalView → Entry → JournalView
with_upkeep slots j entry = record j { history = with_entry j.history entry; notes = with_note j.notes entry None (left_of slots j.round) Other; reserved = false }
