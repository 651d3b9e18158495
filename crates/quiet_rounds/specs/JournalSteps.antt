-- What the collector of a journal does beside no active client: its looks and its events, as the calls of a journal tell them.
use Rattle.std.specs.Prelude.{◌≡◌, ℕ, List, [], ◌∷◌, ◌++◌}
use Rattle.cell_model.specs.Records.{AllFit}
use Rattle.store_model.specs.Sound.{IsSound}
use Rattle.core_store.specs.declared.note.Note.{Note}
use Rattle.core_store.specs.declared.collect.Collect.{Collect}
use Rattle.core_store.specs.Collecting.{is_pop}
use Rattle.core_store.specs.Collects.{entry_of}
use Rattle.core_store.specs.JournalView.{JournalView, cells_of, core_of, logged_in}
use Rattle.core_store.specs.RoundView.{IsInStep, left_of}
use Rattle.core_store.specs.Steppings.{MakesEvent, OnlyLooks, pops}
use Rattle.quiet_rounds.specs.Quiet.{NoneActive, IsQuietRound}
use Rattle.quiet_rounds.specs.Laws.{IsQuietEvent, NoneJoins}
use Rattle.quiet_rounds.specs.WholeRounds.{IsStill}

-- what a journal's history tells of it, in a store whose objects have so many slots
pub record IsSoundJournal (slots : ℕ) (j : JournalView) : Type 0 where
  pub slots_are : j.history.slots ≡ slots
  pub sound : IsSound (core_of j)
  pub in_step : IsInStep slots j.history.ids j.round
  pub fit : AllFit slots j.opening (logged_in j.notes)

-- the note of an event
abbrev pub note_of : (slots : ℕ) (i j : JournalView) (r : Collect) → MakesEvent slots i j r → Note
note_of slots i j r m = record { entry = entry_of m.logged; logged = m.logged; left = left_of slots j.round; act = m.event }

-- looks and events of the collector one after another, with the notes that they add and with what the history tells after each
-- event
pub data CollectorSteps (slots : ℕ) (i : JournalView) : JournalView → List Note → Type 0 where
  none : CollectorSteps slots i i []
  looks : (j k : JournalView) (notes : List Note) → CollectorSteps slots i j notes → OnlyLooks slots j k → CollectorSteps slots i k notes
  event : (j k : JournalView) (notes : List Note) (r : Collect) → CollectorSteps slots i j notes → (m : MakesEvent slots j k r) → k.opening ≡ j.opening → IsSoundJournal slots k → CollectorSteps slots i k (notes ++ note_of slots j k r m ∷ [])

-- ---- laws

-- the steps add just these notes
abbrev pub NotedLaw : Type 0
NotedLaw = (slots : ℕ) (i k : JournalView) (notes : List Note) → CollectorSteps slots i k notes → k.notes ≡ i.notes ++ notes

-- what an event of a journal's collector is beside no active client: a quiet event, which keeps a quiet round quiet and takes no
-- object into the queue
pub record StepsQuietly (slots : ℕ) (i j : JournalView) (r : Collect) (m : MakesEvent slots i j r) : Type 0 where
  pub event : IsQuietEvent slots (core_of i) (core_of j) i.round j.round m.event m.logged
  pub pops : pops r ≡ is_pop m.event
  pub quiet : NoneActive (core_of j)
  pub round : IsQuietRound slots (cells_of i) i.round → IsQuietRound slots (cells_of j) j.round
  pub queue : IsQuietRound slots (cells_of i) i.round → NoneJoins m.event i.queue j.queue

abbrev pub JournalEventLaw : Type 0
JournalEventLaw =
    (slots : ℕ) (i j : JournalView) (r : Collect) → IsSoundJournal slots i → NoneActive (core_of i) → (m : MakesEvent slots i j r) → j.opening ≡ i.opening → IsSoundJournal slots j
    → StepsQuietly slots i j r m

-- the looks of a journal's collector beside no active client are looks of an open round's run, and keep a quiet round quiet; what
-- the history tells stays true
pub record LooksQuietly (slots : ℕ) (i j : JournalView) : Type 0 where
  pub still : IsStill slots (core_of i) i.round
  pub journal : IsSoundJournal slots j
  pub quiet : NoneActive (core_of j)
  pub round : IsQuietRound slots (cells_of i) i.round → IsQuietRound slots (cells_of j) j.round

abbrev pub JournalLooksLaw : Type 0
JournalLooksLaw = (slots : ℕ) (i j : JournalView) → IsSoundJournal slots i → NoneActive (core_of i) → OnlyLooks slots i j → LooksQuietly slots i j
