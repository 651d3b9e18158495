-- How a run of clients on threads ends.
use Rattle.std.specs.Prelude.{◌≡◌, ◌⊎◌, ℕ, ◌-◌, List, [], map, length, true, Option, None, IsSome, codes}
use Rattle.std.specs.Io.KnownBytes.{Appends}
use Rattle.std.specs.List.{AllByRecursion}
use Rattle.plain_model.specs.declared.calls.Call.{Call as TransactionCall}
use Rattle.plain_model.specs.declared.calls.Entry.{Entry}
use Rattle.plain_model.specs.History.{end_of}
use Rattle.disk_model.specs.declared.area.Area.{Area}
use Rattle.disk_model.specs.Causes.{Rose}
use Rattle.core_store.specs.declared.note.Note.{Note}
use Rattle.core_store.specs.Limited.{WasFull}
use Rattle.journal_opening.specs.Openings.{ReadsAs}
use Rattle.logged_journal.specs.View.{LoggedView, history_of}
use Rattle.script_lines.specs.declared.grammar.Line.{Line}
use Rattle.script_lines.specs.Output.{AppendsFront, refused_line}
use Rattle.client_pass.specs.declared.script.ClientScript.{ClientScript}
use Rattle.client_pass.specs.Attempts.{Deed, Attempts, Begun, calls_in}
use Rattle.shared_store.specs.Chronicles.Clients.{speaker_of}
use Rattle.shared_store.specs.Chronicles.View.{notes_of}
use Rattle.client_pass.specs.Runs.{IsNobody, IsNoteOfCollector}
use Rattle.script_lines.specs.Numbers.{object_slots}
use Rattle.brahma_shell.specs.ClientScripts.{AreScripts, AreOfLines}
use Rattle.brahma_shell.specs.ClientLines.{ReadsAll, ReadsSome, Refuses, HasOnlyClients}
use Rattle.brahma_shell.specs.Log.{WasLogFull}
use Rattle.brahma_shell.specs.Points.{point_of, MayRest, IsExactAt}
use Rattle.brahma_shell.specs.Telling.{history_text, ending_text, IsUnmarked}
use Rattle.brahma_shell.specs.Top.{IsJustOpened, IsOfReplay, IsDoneOrFull, Outside, Ends}

-- ---- the clients

-- Each client of the lines made its calls and undos so, in their order, and nobody else made any. These are the notes of the
-- entries.
pub record ClientsDo (Does : List (List TransactionCall) → List Deed → Type 0) (asked : List Line) (entries : List Entry) (notes : List Note) : Type 0 where
  pub scripts : List ClientScript
  pub each : AreScripts scripts
  pub of_lines : AreOfLines asked scripts
  pub made : AllByRecursion (λ s. Does s.txns (calls_in s.pass entries)) scripts
  pub nobody : (client : ℕ) → IsNobody client scripts → calls_in client entries ≡ []
  pub noted : map (λ n. n.entry) notes ≡ entries
  -- and all else was of an event of the collector
  pub collected : AllByRecursion (λ n. speaker_of n.entry ≡ None → IsNoteOfCollector n) notes

-- these are the attempts at the client's transactions, or the beginning of such
abbrev pub BeginAttempts : List (List TransactionCall) → List Deed → Type 0
BeginAttempts transactions made = Begun (Attempts transactions) made

-- the whole script was read, and each client began what its lines ask
abbrev pub Began : {D : Type 0} → Outside → Outside → LoggedView D → Type 0
Began before after v = (asked : List Line) × ReadsAll v.journal.history.ids before.left after.left asked × ClientsDo BeginAttempts asked (history_of v).entries (notes_of v)

-- the whole script was read, and each client did what its lines ask
abbrev pub Did : {D : Type 0} → Outside → Outside → LoggedView D → Type 0
Did before after v = (asked : List Line) × ReadsAll v.journal.history.ids before.left after.left asked × ClientsDo Attempts asked (history_of v).entries (notes_of v)

-- ---- how it ends

-- all that a run prints: the lines of the entries, and the line of the stored ids
abbrev pub run_text : {D : Type 0} → LoggedView D → List ℕ
run_text v = ending_text v (end_of (history_of v)).state.stored

-- the sink failed: not all lines of the entries are printed; or all was done, and not all of the line of the stored ids is
abbrev pub IsRunCutShort : {D : Type 0} → Outside → Outside → LoggedView D → Type 0
IsRunCutShort before after v =
    AppendsFront before.written after.written (history_text v)
    ⊎ (Did before after v × IsUnmarked v × AppendsFront before.written after.written (run_text v))

-- the history is full, or the log, and is marked so
abbrev pub EndsFull : {D : Type 0} → Outside → Outside → LoggedView D → Type 0
EndsFull before after v =
    ((v.journal.marks.trace ≡ true) × WasFull v.journal × Ends before after (history_text v) (codes "refused: trace\n"))
    ⊎ ((v.log_full ≡ true) × WasLogFull v × Ends before after (history_text v) (codes "refused: log\n"))

-- a run of clients in the store that the disk held ended with this status, and left this journal
pub record Ran {D : Type 0} (content : D → Area → Option (List ℕ)) (may_leave : D → Area → List ℕ → Type 0) (disk : D) (before after : Outside) (status : ℕ) (v : LoggedView D) : Type 0 where
  pub opened : ReadsAs content object_slots disk v.journal.opening
  -- there is a cell for each id, and one at 0
  pub size : v.journal.history.ids ≡ length v.journal.opening - 1
  -- the history is legal from there, and each image of the disk opens to a graph that a crash may leave
  pub journal : IsOfReplay may_leave v
  pub statuses : (status ≡ 0) ⊎ ((status ≡ 3) ⊎ ((status ≡ 4) ⊎ ((status ≡ 5) ⊎ ((status ≡ 6) ⊎ ((status ≡ 8) ⊎ (status ≡ 9))))))
  pub done : status ≡ 0 → Did before after v × Appends before.written after.written (run_text v)
  -- no client has a transaction then; the collector rests, and just the reachable objects are stored
  pub rests : status ≡ 0 → ((end_of (history_of v)).state.active ≡ []) × MayRest (point_of v.journal) × IsExactAt (point_of v.journal)
  -- where a line is refused, or the source failed, nothing ran
  pub refused : status ≡ 3 → IsJustOpened v × (number : ℕ) × Refuses v.journal.history.ids before.left number × Ends before after [] (refused_line number)
  pub read : status ≡ 4 → IsJustOpened v × Rose before.read_faults after.read_faults × (asked : List Line) × ReadsSome v.journal.history.ids before.left after.left asked × Ends before after [] (codes "refused: read\n")
  pub write : status ≡ 5 → Began before after v × Rose before.write_faults after.write_faults × IsRunCutShort before after v
  pub failed_disk : status ≡ 6 → Began before after v × IsSome v.failed × Rose before.disk_faults after.disk_faults × Ends before after (history_text v) (codes "refused: disk\n")
  pub memory : status ≡ 8 → (IsJustOpened v ⊎ Began before after v) × Ends before after (history_text v) (codes "refused: memory\n")
  pub limit : status ≡ 9 → Began before after v × EndsFull before after v
  -- where the journal is marked as full the status says so, or that the sink or the disk failed; and where the disk failed a
  -- call, it is one of these two
  pub marked : (v.journal.marks.trace ≡ true) ⊎ (v.log_full ≡ true) → (status ≡ 9) ⊎ ((status ≡ 5) ⊎ (status ≡ 6))
  pub failed : IsSome v.failed → (status ≡ 5) ⊎ (status ≡ 6)
  -- a script of clients is done where neither a stream nor the disk failed, unless memory is out, or the history or the log full
  pub complete : HasOnlyClients v.journal.history.ids before.left → ¬ Rose before.read_faults after.read_faults → ¬ Rose before.write_faults after.write_faults → ¬ Rose before.disk_faults after.disk_faults → IsDoneOrFull status
