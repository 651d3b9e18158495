-- What is known between two notes of a journal.
use Rattle.std.specs.Prelude.{◌≡◌, ◌≢◌, ◌↔◌, ℕ, true, List, [], ◌∷◌, ◌++◌, map, fold, None}
use Rattle.plain_model.specs.declared.calls.Entry.{Entry}
use Rattle.plain_model.specs.Graphs.{root}
use Rattle.plain_model.specs.Reachable.{Reachable}
use Rattle.plain_model.specs.Machine.{is_stored}
use Rattle.plain_model.specs.History.{History, Moment, start_of, next}
use Rattle.cell_model.specs.Cells.{Cell, cell_at, is_live}
use Rattle.store_model.specs.Core.{Ref, Core, is_named}
use Rattle.restart_laws.specs.Graph.{zeros_of}
use Rattle.core_store.specs.declared.note.Note.{Note}
use Rattle.core_store.specs.Logged.{after_logged}
use Rattle.core_store.specs.References.{references_by}
use Rattle.core_store.specs.JournalView.{JournalView}
use Rattle.core_store.specs.Leads.{AreLed}

-- a point of a history, in a store whose objects have so many slots
pub record Point : Type 0 where
  pub slots : ℕ
  pub cells : List Cell
  pub moment : Moment
  -- what transactions name
  pub refs : List Ref
  -- how much work is left in the collector's round; 0 exactly where none is open
  pub left : ℕ
  -- what there was before the first note, and the notes up to here
  pub opening : Core
  pub notes : List Note

-- the point after a note
abbrev pub after_note : Point → Note → Point
after_note p n = record { slots = p.slots; cells = after_logged p.slots p.cells n.logged; moment = next p.moment n.entry; refs = references_by p.moment.state p.refs n.entry n.logged; left = n.left; opening = p.opening; notes = p.notes ++ n ∷ [] }

-- the point after these notes
abbrev pub after_notes : Point → List Note → Point
after_notes p notes = fold after_note p notes

-- the point before the first note of a history that starts from these cells: nobody names anything, what no strong pointer leads
-- to is queued, and no round is open
abbrev pub start_with : History → List Cell → Point
start_with h cells = record { slots = h.slots; cells = cells; moment = start_of h; refs = []; left = 0; opening = record { cells = cells; moment = start_of h; refs = []; queue = zeros_of cells; round = None }; notes = [] }

-- the point before a journal's first note
abbrev pub start_point : JournalView → Point
start_point j = start_with j.history j.opening

-- the point after its last note
abbrev pub point_of : JournalView → Point
point_of j = after_notes (start_point j) j.notes

-- the entries of the notes
abbrev pub entries_in : List Note → List Entry
entries_in notes = map (λ n. n.entry) notes

-- the collector may rest: the notes up to here lead to an empty queue and to no open round. So no work is left, and each object
-- but the root has a strong pointer or is named by a transaction
pub record MayRest (p : Point) : Type 0 where
  pub core : Core
  pub led : AreLed p.slots p.opening p.notes core
  pub none_queued : core.queue ≡ []
  pub none_open : core.round ≡ None
  pub closed : p.left ≡ 0
  pub named : (id : ℕ) → is_live p.cells id ≡ true → id ≢ root → (cell_at p.cells id).strong ≡ 0 → is_named p.refs id ≡ true

-- just the objects are stored that are reachable from the root in the committed graph
abbrev pub IsExactAt : Point → Type 0
IsExactAt p = (id : ℕ) → (is_stored p.moment.state.stored id ≡ true) ↔ Reachable p.moment.state.committed (root ∷ []) id
