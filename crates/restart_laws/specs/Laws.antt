-- The laws of restart.
use Rattle.std.specs.Prelude.{◌≡◌, ◌≢◌, ◌↔◌, ◌⊎◌, ℕ, ◌+◌, ◌^◌, ◌<◌, true, false, cond, List, [], ◌∷◌, ◌++◌, map, Option, Some, None, IfSome}
use Rattle.std.specs.Option.{option_map_or}
use Rattle.plain_model.specs.declared.object.Object.{Object}
use Rattle.plain_model.specs.declared.calls.Call.TheVariants.{Commit as CommitCall}
use Rattle.plain_model.specs.declared.calls.Reply.TheVariants.{DiskFault}
use Rattle.plain_model.specs.declared.calls.Entry.{Entry}
use Rattle.plain_model.specs.declared.calls.Entry.TheVariants.{Call}
use Rattle.plain_model.specs.ActiveTransaction.{ActiveTransaction}
use Rattle.plain_model.specs.Machine.{transaction_of}
use Rattle.plain_model.specs.Graphs.{IsGraph, object_at}
use Rattle.plain_model.specs.History.{opening_moment, is_stopped, Moment, History, IsLegal, end_of, next, moment_after, IsAllowed, IsCrashConsistent}
use Rattle.plain_laws.specs.Sound.{IsSoundGraph}
use Rattle.cell_model.specs.Cells.{Cell, cell_at, is_live, object_of, IsExact}
use Rattle.cell_model.specs.Records.{Record, Commit, after_record, cells_after, Fits, AllFit}
use Rattle.store_model.specs.Core.{Core}
use Rattle.store_model.specs.Sound.{IsSound}
use Rattle.cell_model.specs.Consistent.{AreConsistent}
use Rattle.store_model.specs.Fresh.{fresh_cells}
use Rattle.cell_model.specs.Graph.{graph_of}
use Rattle.restart_laws.specs.Graph.{opened_core}
use Rattle.restart_laws.specs.Unended.{Unended, unended_after, unended_after_all, AllFitUnended}
use Rattle.restart_laws.specs.Restored.{restart_records, next_undo, opened}
use Rattle.restart_laws.specs.Told.{told, HavePlaces}
use Rattle.restart_laws.specs.Settled.{IsSettled, IsUnpromised}
use Rattle.restart_laws.specs.Logged.{Logs}
use Rattle.restart_laws.specs.Restartable.{StaysTold, Opens, IsRestartable}
use Rattle.restart_laws.specs.Rules.{BreaksRule, AreOfPages}
use Rattle.restart_laws.specs.Local.{effect, FitsAt, Item, replayed, has_image, records_in, AreImages}

-- ---- the graph that cells stand for

-- it is a graph, with the object of each live cell and no others
abbrev pub GraphLaw : Type 0
GraphLaw = (cells : List Cell) → IsGraph (graph_of cells) × ((id : ℕ) → object_at (graph_of cells) id ≡ cond (is_live cells id) (Some (object_of id (cell_at cells id))) None)

-- ---- what a store opens to

-- in a sound journal every active transaction can be undone, and what is left is consistent and stands for what the root reaches
-- in the committed graph
abbrev pub RestartLaw : Type 0
RestartLaw = (c : Core) → IsSound c → IsSettled c.moment → HavePlaces c.moment.state.slots (told c.moment) → Opens c.moment c.cells (told c.moment)

-- a fresh store whose log is empty opens to itself
abbrev pub FreshLaw : Type 0
FreshLaw = (slots more : ℕ) → opened slots (fresh_cells slots more) [] ≡ fresh_cells slots more

-- a store that opens to consistent cells is a sound journal
abbrev pub OpenedLaw : Type 0
OpenedLaw = (ids slots : ℕ) (cells : List Cell) → AreConsistent slots ids cells → IsSound (opened_core ids slots cells)

-- records of transactions that have all ended may stand before
abbrev pub EarlierLaw : Type 0
EarlierLaw = (slots : ℕ) (cells : List Cell) (earlier records : List (Option Record)) → unended_after_all [] earlier ≡ [] → opened slots cells (earlier ++ records) ≡ opened slots (cells_after slots cells earlier) records

-- with the records of its undo, a log tells of no transaction that hasn't ended, and opens to the same cells without a further
-- undo
abbrev pub ReopenLaw : Type 0
ReopenLaw =
    (slots : ℕ) (cells : List Cell) (records : List (Option Record)) → (undo : List (Option Record)) → undo ≡ map Some (restart_records slots (cells_after slots cells records) (unended_after_all [] records))
    → (unended_after_all [] (records ++ undo) ≡ []) × (cells_after slots cells (records ++ undo) ≡ opened slots cells records) × (opened slots cells (records ++ undo) ≡ opened slots cells records)

-- and these records fit what the log told
abbrev pub ReopenFitsLaw : Type 0
ReopenFitsLaw = (slots : ℕ) (cells : List Cell) (us : List (ℕ × Unended)) → HavePlaces slots us → AllFitUnended us (map Some (restart_records slots cells us))

-- so, with its undo, a log may go on: later records do to the cells that it opened to what they do
abbrev pub AgainLaw : Type 0
AgainLaw =
    (slots : ℕ) (cells : List Cell) (records undo later : List (Option Record)) → undo ≡ map Some (restart_records slots (cells_after slots cells records) (unended_after_all [] records))
    → opened slots cells ((records ++ undo) ++ later) ≡ opened slots (opened slots cells records) later

-- the undo goes record by record
abbrev pub NextUndoLaw : Type 0
NextUndoLaw =
    (slots : ℕ) (cells : List Cell) (us : List (ℕ × Unended))
    → (next_undo cells us ≡ None → restart_records slots cells us ≡ [])
    × ((r : Record) → next_undo cells us ≡ Some r → restart_records slots cells us ≡ r ∷ restart_records slots (after_record slots cells r) (unended_after us r))

-- ---- the rules of a store

-- cells of pages are consistent exactly where no object breaks a rule
abbrev pub RulesLaw : Type 0
RulesLaw = (slots ids : ℕ) (cells : List Cell) → AreOfPages slots ids cells → ((rule id : ℕ) → BreaksRule cells rule id → ⊥) ↔ AreConsistent slots ids cells

-- ---- what a crash may leave

-- after a legal history, the root reaches in the committed graph what it reached just after the last commit
abbrev pub SettledLaw : Type 0
SettledLaw = (h : History) → IsSoundGraph h.opening → IsLegal h → IsSettled (end_of h)

-- and each entry that may come keeps that, as it keeps a sound journal
abbrev pub SettledNextLaw : Type 0
SettledNextLaw = (c : Core) (e : Entry) → IsSound c → IsAllowed c.moment e → IsSettled c.moment → IsSettled (next c.moment e)

-- what a crash may leave at a moment, it may leave after further entries too, none of which is a commit that was done
abbrev pub LaterLaw : Type 0
LaterLaw = (m : Moment) (es : List Entry) (g : List Object) → IsUnpromised es → IsCrashConsistent m g → IsCrashConsistent (moment_after m es) g

-- ---- what the records tell

-- the record of each event tells of the transactions just what the reference machine says afterwards
abbrev pub ToldLaw : Type 0
ToldLaw = (c : Core) → IsSound c → (e : Entry) (logged : Option Record) → IsAllowed c.moment e → Logs c e logged → StaysTold c.moment (next c.moment e) logged

-- and its changes are of places that objects have
abbrev pub PlacesLaw : Type 0
PlacesLaw = (slots ids : ℕ) (cells : List Cell) (us : List (ℕ × Unended)) (r : Record) → AreConsistent slots ids cells → Fits cells r → HavePlaces slots us → HavePlaces slots (unended_after us r)

-- ---- all together: what a journal cites

-- a sound journal that has just opened is restartable
abbrev pub StartLaw : Type 0
StartLaw = (start c : Core) → IsSound c → c.moment ≡ start.moment → c.cells ≡ start.cells → start.moment ≡ opening_moment start.moment.state.ids start.moment.state.slots start.moment.state.committed → IsRestartable start [] [] c

-- each event keeps a journal restartable, with its entry and its record
abbrev pub EventLaw : Type 0
EventLaw =
    (start c d : Core) (entries : List Entry) (records : List (Option Record)) → IsRestartable start entries records c → (e : Entry) (logged : Option Record)
    → IsAllowed c.moment e → Logs c e logged → IfSome logged (Fits c.cells)
    → IsSound d → d.moment ≡ next c.moment e → d.cells ≡ option_map_or (after_record start.moment.state.slots c.cells) logged c.cells
    → IsRestartable start (entries ++ e ∷ []) (records ++ logged ∷ []) d

-- where a crash keeps just the records of a restartable journal, and nothing was promised since, the store opens to a graph that
-- a crash may leave
abbrev pub CrashLaw : Type 0
CrashLaw =
    (start c : Core) (entries : List Entry) (records : List (Option Record)) → IsRestartable start entries records c → (later : List Entry) → IsUnpromised later
    → Opens c.moment (cells_after start.moment.state.slots start.cells records) (unended_after_all [] records)
    × IsCrashConsistent (moment_after start.moment (entries ++ later)) (graph_of (opened start.moment.state.slots start.cells records))

-- where its commit's record is kept too, but the commit wasn't answered, the same holds of the history in which the disk failed
-- that commit
abbrev pub ForceLaw : Type 0
ForceLaw =
    (start c : Core) (entries : List Entry) (records : List (Option Record)) → IsRestartable start entries records c → is_stopped c.moment ≡ false → (pass : ℕ) (t : ActiveTransaction) → transaction_of c.moment.state pass ≡ Some t → t.aborting ≡ false
    → IsCrashConsistent (moment_after start.moment (entries ++ Call pass CommitCall DiskFault ∷ [])) (graph_of (opened start.moment.state.slots start.cells (records ++ Some (Commit pass) ∷ [])))

-- ---- logs with images

-- a record that fits does to each cell what it says, by that cell alone
abbrev pub LocalLaw : Type 0
LocalLaw = (slots : ℕ) (cells : List Cell) (r : Record) → is_live cells 0 ≡ false → Fits cells r → (x : ℕ) → x ≢ 0 → cell_at (after_record slots cells r) x ≡ effect slots r x (cell_at cells x)

-- and fits each cell, where each count has room for one more
abbrev pub LocalFitsLaw : Type 0
LocalFitsLaw =
    (cells : List Cell) (r : Record) → IsExact cells → Fits cells r → ((y : ℕ) → is_live cells y ≡ true → ((cell_at cells y).strong + 1 < 2 ^ 32) × ((cell_at cells y).weak + 1 < 2 ^ 32))
    → (x : ℕ) → x ≢ 0 → FitsAt r x (cell_at cells x)

-- so each cell that starts as it was, or whose page has an image, is in the end what all records make of it, where each image is
-- of the cells as they are there
abbrev pub ImageLaw : Type 0
ImageLaw =
    (slots : ℕ) (items : List Item) (cells : List Cell) → IsExact cells → AllFit slots cells (records_in items) → AreImages slots cells items → (x : ℕ) → x ≢ 0 → (c : Cell) → (c ≡ cell_at cells x) ⊎ (has_image x items ≡ true)
    → replayed slots x c items ≡ cell_at (cells_after slots cells (records_in items)) x
