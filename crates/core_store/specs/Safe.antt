-- A journal whose store may crash, and what of it is durable.
use Rattle.std.specs.Prelude.{◌≡◌, List, ◌++◌, ◌∷◌, [], ◌||◌, false, map}
use Rattle.plain_model.specs.History.{with_entry, end_of, IsCrashConsistent}
use Rattle.plain_laws.specs.Sound.{is_crash}
use Rattle.store_model.specs.Core.{Core}
use Rattle.cell_model.specs.Graph.{graph_of}
use Rattle.restart_laws.specs.Restored.{opened}
use Rattle.restart_laws.specs.Restartable.{IsRestartable, Opens}
use Rattle.restart_laws.specs.Settled.{acknowledges, IsUnpromised}
use Rattle.restart_laws.specs.Unended.{unended_after_all}
use Rattle.core_store.specs.declared.note.Note.{Note}
use Rattle.core_store.specs.JournalView.{JournalView, logged_in, cells_after_notes, core_of, opening_of}

-- a crash is safe that keeps the records of all notes
abbrev pub IsSafe : JournalView → Type 0
IsSafe j = IsRestartable (opening_of j) j.history.entries (logged_in j.notes) (core_of j)

-- a crash is safe that keeps the records of just these first notes: they were a safe journal's, and those after them promise
-- nothing
pub record IsDurable (j : JournalView) («first» : List Note) : Type 0 where
  pub rest : List Note
  pub split : j.notes ≡ «first» ++ rest
  pub core : Core
  pub safe : IsRestartable (opening_of j) (map (λ n. n.entry) «first») (logged_in «first») core
  pub unpromised : IsUnpromised (map (λ n. n.entry) rest)

-- each note is of its entry
abbrev pub AreEntries : JournalView → Type 0
AreEntries j = map (λ n. n.entry) j.notes ≡ j.history.entries

-- one note more
pub record HasNote (j k : JournalView) (n : Note) : Type 0 where
  pub entry : k.history ≡ with_entry j.history n.entry
  pub noted : k.notes ≡ j.notes ++ n ∷ []
  pub opening : k.opening ≡ j.opening

-- all notes of a safe journal may become durable
abbrev pub DurableAllLaw : Type 0
DurableAllLaw = (j : JournalView) → AreEntries j → IsSafe j → IsDurable j j.notes

-- a note of an event that is no commit that was done leaves what is durable
abbrev pub DurableKeptLaw : Type 0
DurableKeptLaw = (j k : JournalView) (n : Note) («first» : List Note) → IsDurable j «first» → HasNote j k n → (acknowledges n.entry || is_crash n.entry) ≡ false → IsDurable k «first»

-- where a crash keeps the records of the durable notes alone, the store opens, to a graph that the crash may leave
abbrev pub JournalCrashLaw : Type 0
JournalCrashLaw =
    (j : JournalView) («first» : List Note) → AreEntries j → (d : IsDurable j «first»)
    → Opens d.core.moment (cells_after_notes j.history.slots j.opening «first») (unended_after_all [] (logged_in «first»))
    × IsCrashConsistent (end_of j.history) (graph_of (opened j.history.slots j.opening (logged_in «first»)))
