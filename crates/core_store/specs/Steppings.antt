-- What a call of a journal and a step of its collector are answered, and what such a step leaves.
use Rattle.std.specs.Prelude.{◌≡◌, ◌≢◌, ℕ, Bool, true, false, List, Option, Some, None}
use Rattle.plain_model.specs.declared.calls.Reply.{Reply}
use Rattle.plain_model.specs.declared.calls.Reply.TheVariants as reply
use Rattle.plain_model.specs.History.{with_entry}
use Rattle.log_record.specs.declared.cell_record.CellRecord.{CellRecord}
use Rattle.core_store.specs.declared.act.Act.{Act}
use Rattle.core_store.specs.declared.act.Act.TheVariants as act
use Rattle.core_store.specs.declared.collect.Collect.{Collect}
use Rattle.core_store.specs.declared.collect.Collect.TheVariants.{Did, Deleted}
use Rattle.core_store.specs.declared.three.HeldFrame.{HeldFrame}
use Rattle.core_store.specs.Frames.{HasPages}
use Rattle.core_store.specs.JournalView.{JournalView, cells_of, core_of, with_note}
use Rattle.core_store.specs.Limited.{is_past_limit, pages_for_collector}
use Rattle.core_store.specs.declared.round_at.RoundAt.{RoundAt}
use Rattle.core_store.specs.declared.round_at.RoundAt.TheVariants as at
use Rattle.core_store.specs.RoundView.{RoundView, asked, is_event, left_of, Passes, Proceeds}
use Rattle.core_store.specs.Events.{core_after}
use Rattle.core_store.specs.Collects.{Collects, BeginsGreen, entry_of}
use Rattle.core_store.specs.Collecting.{answer_of}

-- a reply that enters the history
abbrev pub IsEntered : Reply → Type 0
IsEntered r = (r ≢ reply.Memory) × (r ≢ reply.TraceFull)

-- the step made an event
abbrev pub IsEvent : Collect → Type 0
IsEvent (Did popped left) = Unit {0}
IsEvent (Deleted id left) = Unit {0}
IsEvent _ = ⊥

-- how much work is left, where the answer tells it
abbrev pub left_told : Collect → Option ℕ
left_told (Did popped left) = Some left
left_told (Deleted id left) = Some left
left_told _ = None

-- how many bytes the record of what the collector does next has: what makes a pointer weak or strong, removes one, flips or frees
-- an object has one
abbrev pub bytes_at : RoundAt → ℕ
bytes_at (at.Look id slot) = 10
bytes_at (at.Into «from» slot to) = 10
bytes_at (at.Strengthen «from» slot to) = 10
bytes_at (at.Cut id slot) = 11
bytes_at (at.Free id) = 5
bytes_at (at.Flip id) = 5
bytes_at _ = 0

-- how many bytes the event that the collector makes next adds to the log at most
abbrev pub bytes_to_collect : RoundView → ℕ
bytes_to_collect round = bytes_at (asked round)

-- the event took the first id out of the queue
abbrev pub pops : Collect → Bool
pops (Did popped left) = popped
pops _ = false

-- the collector looked at slots one after another, at each of which nothing was to do, and nothing else changed
pub record OnlyLooks (slots : ℕ) (old new : JournalView) : Type 0 where
  pub passes : Passes slots (cells_of old) old.round new.round
  pub same : new ≡ record old { round = new.round }
  pub core : core_of new ≡ core_of old

-- the pages are held that the collector's next event needs, unless the history is full
pub record IsReadyForCollector {slots : ℕ} (j : JournalView) (held : List (HeldFrame slots)) : Type 0 where
  pub pages : HasPages j.history.ids (pages_for_collector j) held
  pub event : is_past_limit j 1 ≡ false → is_event (cells_of j) (asked j.round) ≡ true

-- the collector made the event that came next: it is noted with its entry, the queue and the round are what it makes of them, and
-- the answer tells of it
pub record MakesEvent (slots : ℕ) (old new : JournalView) (result : Collect) : Type 0 where
  pub event : Act
  pub logged : Option CellRecord
  pub entry : new.history ≡ with_entry old.history (entry_of logged)
  pub noted : new.notes ≡ with_note old.notes (entry_of logged) logged (left_of slots new.round) event
  pub core : core_of new ≡ core_after slots (core_of old) (entry_of logged) logged new.queue (core_of new).round
  pub collects : Collects slots (core_of old) event logged new.queue (core_of new).round
  pub proceeds : Proceeds slots old.history.ids old.round event logged new.round
  -- at the verdict the green walk begins with the seeds and what lives
  pub begins : event ≡ act.Judge → BeginsGreen (core_of old) new.round
  pub answer : result ≡ answer_of event logged (left_of slots new.round)
  pub marks : new.marks ≡ old.marks
