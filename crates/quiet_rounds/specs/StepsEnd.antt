-- The steps of a journal's collector beside which no client is active, from a moment at which no round is open: they end, after
-- few rounds.
use Rattle.std.specs.Prelude.{◌≡◌, ℕ, ◌+◌, ◌*◌, ◌≤◌, Bool, true, false, List, [], length, count_by}
use Rattle.red_walk.specs.Walk.{opened}
use Rattle.core_store.specs.declared.act.Act.{Act}
use Rattle.core_store.specs.declared.act.Act.TheVariants as act
use Rattle.core_store.specs.declared.note.Note.{Note}
use Rattle.core_store.specs.Collecting.{is_pop}
use Rattle.core_store.specs.JournalView.{JournalView, cells_of, core_of}
use Rattle.core_store.specs.RoundView.{Closed, Walking, left_of}
use Rattle.quiet_rounds.specs.Quiet.{NoneActive}
use Rattle.quiet_rounds.specs.Collections.{AreWithoutStrong, IsUsedUp}
use Rattle.quiet_rounds.specs.JournalSteps.{IsSoundJournal, CollectorSteps}

-- steps of a journal beside which no client is active, from a moment at which no round is open
pub record AreFromRest (slots : ℕ) (i k : JournalView) (notes : List Note) : Type 0 where
  pub journal : IsSoundJournal slots i
  pub quiet : NoneActive (core_of i)
  pub closed : i.round ≡ Closed
  pub steps : CollectorSteps slots i k notes

-- a round opened
abbrev pub is_start : Act → Bool
is_start (act.Start id) = true
is_start _ = false

-- how many rounds the notes open
abbrev pub rounds_in : List Note → ℕ
rounds_in notes = count_by (λ n. is_start n.act) notes

-- how many objects were taken out of the queue by being its first
abbrev pub popped_in : List Note → ℕ
popped_in notes = count_by (λ n. is_pop n.act) notes

-- the most work of a round, its start counted
abbrev pub most_events : ℕ → ℕ → ℕ
most_events slots ids = left_of slots (Walking (opened ids 0)) + 1

-- ---- laws

-- no object joins the queue, so each queued one is taken out at most once
abbrev pub StepsQueueLaw : Type 0
StepsQueueLaw = (slots : ℕ) (i k : JournalView) (notes : List Note) → AreFromRest slots i k notes → IsUsedUp (popped_in notes) i.queue k.queue

-- the steps open at most as many rounds as there were live objects, but for the root, to which no strong pointer led
abbrev pub StepsRoundsLaw : Type 0
StepsRoundsLaw = (slots : ℕ) (i k : JournalView) (notes : List Note) → AreFromRest slots i k notes → (ids : List ℕ) → AreWithoutStrong (cells_of i) ids → rounds_in notes ≤ length ids

-- they end: there are never more events than the most work of a round for each queued object
abbrev pub StepsEndLaw : Type 0
StepsEndLaw = (slots : ℕ) (i k : JournalView) (notes : List Note) → AreFromRest slots i k notes → length notes ≤ most_events slots i.history.ids * length i.queue

-- where the collector is idle after them, no such object is left, and there were exactly as many rounds
abbrev pub StepsIdleLaw : Type 0
StepsIdleLaw =
    (slots : ℕ) (i k : JournalView) (notes : List Note) → AreFromRest slots i k notes → k.queue ≡ [] → k.round ≡ Closed
    → AreWithoutStrong (cells_of k) [] × ((ids : List ℕ) → AreWithoutStrong (cells_of i) ids → rounds_in notes ≡ length ids)
