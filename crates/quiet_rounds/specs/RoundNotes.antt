-- A whole round of a journal beside which no client is active, by its notes: its objects, what it deletes and leaves, and how
-- many notes it takes.
use Rattle.std.specs.Prelude.{◌≡◌, ◌≢◌, ◌↔◌, ℕ, ◌+◌, ◌≤◌, Bool, true, false, not, ◌&&◌, ◌==◌, if◌then◌else◌, List, [], ◌∷◌, ◌++◌, length, Contains, Option, Some}
use Rattle.plain_model.specs.Graphs.{root}
use Rattle.cell_model.specs.Cells.{Cell, cell_at, is_live, object_of}
use Rattle.ref_tables.specs.Queue.{has}
use Rattle.log_record.specs.declared.cell_record.CellRecord.{CellRecord}
use Rattle.log_record.specs.declared.cell_record.CellRecord.TheVariants as logs
use Rattle.core_store.specs.declared.act.Act.{Act}
use Rattle.core_store.specs.declared.act.Act.TheVariants as act
use Rattle.core_store.specs.declared.note.Note.{Note}
use Rattle.core_store.specs.Changes.{has_no_strong}
use Rattle.core_store.specs.JournalView.{JournalView, cells_of, core_of}
use Rattle.core_store.specs.Logged.{after_logged}
use Rattle.quiet_rounds.specs.Quiet.{NoneActive}
use Rattle.quiet_rounds.specs.WholeRounds.{IsDominated, IsLedFromOutside, IsWholeRound, most_round_events}
use Rattle.quiet_rounds.specs.Collections.{AreWithoutStrong}
use Rattle.quiet_rounds.specs.JournalSteps.{IsSoundJournal, CollectorSteps}

-- ---- the notes of a round

-- the notes go from the start of a round with the object to its end, and none between is of a client or an end
pub record AreOfRound (x : ℕ) (notes : List Note) : Type 0 where
  pub «first» : Note
  pub between : List Note
  pub last : Note
  pub are : notes ≡ «first» ∷ between ++ last ∷ []
  pub starts : «first».act ≡ act.Start x
  pub ends : last.act ≡ act.End
  pub inner : (n : Note) → Contains between n → (n.act ≢ act.End) × (n.act ≢ act.Other)

-- ---- the objects of a round, by its notes

-- the object isn't the root and isn't in the list, and no strong pointer leads to it
abbrev pub is_to_join : List Cell → List ℕ → ℕ → Bool
is_to_join cells list target = not (target == root) && (not (has list target) && has_no_strong (cell_at cells target))

-- the list, with the object at its end where it joins
abbrev pub listed_if : Bool → List ℕ → ℕ → List ℕ
listed_if joins list target = if joins then list ++ target ∷ [] else list

-- the list after a note that logged this, by the cells after it: the target of a pointer that became weak joins where it is to
abbrev pub list_after : List Cell → List ℕ → Option CellRecord → List ℕ
list_after cells list (Some (logs.Weaken id slot target)) = listed_if (is_to_join cells list target) list target
list_after cells list _ = list

-- an object was copied
abbrev pub is_scan : Act → Bool
is_scan (act.Scan id) = true
is_scan _ = false

-- the list after notes, by the cells before them: none joins it from the first copy on
abbrev pub list_from : ℕ → List Cell → List ℕ → List Note → List ℕ
list_from slots cells list [] = list
list_from slots cells list (n ∷ ns) = if is_scan n.act then list else list_from slots (after_logged slots cells n.logged) (list_after (after_logged slots cells n.logged) list n.logged) ns

-- the object with which the note starts a round
abbrev pub started_with : Act → List ℕ
started_with (act.Start id) = id ∷ []
started_with _ = []

-- the objects of the round, by the cells before its notes: the one that it starts with, and then, in the notes' order, the target
-- of each pointer that became weak before the first copy, where it joined
abbrev pub objects_of_round : ℕ → List Cell → List Note → List ℕ
objects_of_round slots cells [] = []
objects_of_round slots cells (n ∷ ns) = list_from slots cells (started_with n.act) ns

-- ---- a whole round

-- a whole round of the journal's collector beside which no client is active
pub record IsRoundOf (slots : ℕ) (i k : JournalView) (x : ℕ) (notes : List Note) : Type 0 where
  pub journal : IsSoundJournal slots i
  pub quiet : NoneActive (core_of i)
  pub steps : CollectorSteps slots i k notes
  pub round : AreOfRound x notes

-- ---- laws

-- it is a whole round of the stores that the journals have, with as many events as notes and with the objects that its notes tell
abbrev pub NotedRoundLaw : Type 0
NotedRoundLaw =
    (slots : ℕ) (i k : JournalView) (x : ℕ) (notes : List Note) → IsRoundOf slots i k x notes
    → (r : IsWholeRound slots (core_of i) (core_of k) x (length notes)) × (r.walk.list ≡ objects_of_round slots (cells_of i) notes)

-- its objects are exactly the strongly dominated set of the first one, by the cells at its start
abbrev pub NotedDominatedLaw : Type 0
NotedDominatedLaw =
    (slots : ℕ) (i k : JournalView) (x : ℕ) (notes : List Note) → IsRoundOf slots i k x notes
    → (id : ℕ) → Contains (objects_of_round slots (cells_of i) notes) id ↔ IsDominated (cells_of i) x id

-- it deletes exactly those of them to which no walk of pointers leads from a live object outside
abbrev pub NotedDeletedLaw : Type 0
NotedDeletedLaw =
    (slots : ℕ) (i k : JournalView) (x : ℕ) (notes : List Note) → IsRoundOf slots i k x notes → (id : ℕ) → is_live (cells_of i) id ≡ true
    → (is_live (cells_of k) id ≡ false) ↔ (Contains (objects_of_round slots (cells_of i) notes) id × (IsLedFromOutside (cells_of i) x id → ⊥))

-- every other object keeps its slots and its payload, and none comes to be
abbrev pub NotedKeptLaw : Type 0
NotedKeptLaw =
    (slots : ℕ) (i k : JournalView) (x : ℕ) (notes : List Note) → IsRoundOf slots i k x notes → (id : ℕ) → is_live (cells_of k) id ≡ true
    → (is_live (cells_of i) id ≡ true) × (object_of id (cell_at (cells_of k) id) ≡ object_of id (cell_at (cells_of i) id))

-- it leaves exactly one live object fewer, but for the root, to which no strong pointer leads
abbrev pub NotedFewerLaw : Type 0
NotedFewerLaw =
    (slots : ℕ) (i k : JournalView) (x : ℕ) (notes : List Note) → IsRoundOf slots i k x notes
    → (ids rest : List ℕ) → AreWithoutStrong (cells_of i) ids → AreWithoutStrong (cells_of k) rest → length rest + 1 ≡ length ids

-- it takes at most so many notes for its objects: 40 for each and 8 more with fourteen slots, 24 for each and 8 more with six
abbrev pub NotedBoundLaw : Type 0
NotedBoundLaw = (slots : ℕ) (i k : JournalView) (x : ℕ) (notes : List Note) → IsRoundOf slots i k x notes → length notes ≤ most_round_events slots (length (objects_of_round slots (cells_of i) notes))
