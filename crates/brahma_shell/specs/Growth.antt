-- How a journal grows.
use Rattle.std.specs.Prelude.{◌≡◌, ◌≢◌, ℕ, ◌<◌, Bool, true, false, List, [], ◌∷◌, ◌++◌, None}
use Rattle.plain_model.specs.declared.calls.Entry.{Entry}
use Rattle.core_store.specs.declared.act.Act.TheVariants.{Other}
use Rattle.core_store.specs.declared.note.Note.{Note}
use Rattle.core_store.specs.Collecting.{is_pop}
use Rattle.core_store.specs.JournalView.{JournalView, last_left}
use Rattle.brahma_shell.specs.Points.{entries_in}

-- two journals began alike, and have the same limits
pub record IsSameStart (old new : JournalView) : Type 0 where
  pub history : new.history ≡ record old.history { entries = new.history.entries }
  pub opening : new.opening ≡ old.opening
  pub limits : new.limits ≡ old.limits

-- the journal has these notes more, with their entries
pub record Grows (old new : JournalView) (more : List Note) : Type 0 where
  pub notes : new.notes ≡ old.notes ++ more
  pub history : new.history ≡ record old.history { entries = old.history.entries ++ entries_in more }
  pub opening : new.opening ≡ old.opening
  pub limits : new.limits ≡ old.limits

-- it has notes of these entries more, and no mark is set
pub record GrowsBy (old new : JournalView) (es : List Entry) : Type 0 where
  pub more : List Note
  pub entries : entries_in more ≡ es
  pub grows : Grows old new more
  pub unmarked : new.marks ≡ old.marks

-- it has no note more, and is marked as full
pub record BecomesFull (old new : JournalView) : Type 0 where
  pub grows : Grows old new []
  pub marked : new.marks.trace ≡ true

-- a note of upkeep, with this entry: it logs nothing, and is no event of the collector
pub record IsOfUpkeep (e : Entry) (n : Note) : Type 0 where
  pub entry : n.entry ≡ e
  pub logged : n.logged ≡ None
  pub act : n.act ≡ Other

-- upkeep is noted with this entry, and no mark is set
pub record GrowsByUpkeep (old new : JournalView) (e : Entry) : Type 0 where
  pub note : Note
  pub is : IsOfUpkeep e note
  pub grows : Grows old new (note ∷ [])
  pub unmarked : new.marks ≡ old.marks

-- an event of the collector is noted with this entry. Either it took an object out of the queue while no round was open, or it
-- left less of the round
pub record GrowsByEvent (old new : JournalView) (popped : Bool) (left : ℕ) (e : Entry) : Type 0 where
  pub note : Note
  pub entry : note.entry ≡ e
  pub act : note.act ≢ Other
  pub pop : is_pop note.act ≡ popped
  pub told : note.left ≡ left
  pub grows : Grows old new (note ∷ [])
  pub unmarked : new.marks ≡ old.marks
  pub opens : popped ≡ true → last_left old.notes ≡ 0
  pub lower : popped ≡ false → left < last_left old.notes
