-- What the images of a disk open to on which a log has the records of a journal's notes.
use Rattle.std.proofs.Common.{◌≡◌, ℕ, ◌*◌, Bool, true, false, List, [], ◌∷◌, ◌++◌, ◌+◌, length, append-nil, map, Option, Some, None, inr, refl, sym, ◌∙◌, ap, arith, subst}
use Rattle.std.specs.Prelude.{cond, IfSome}
use Rattle.std.specs.Option.{option_map_or, option_and_then}
use Rattle.std.specs.List.{AllByRecursion}
use Rattle.std.proofs.lemmas.List.{map-append, append_assoc}
use Rattle.std.proofs.lemmas.List.Elements.{recursion_from_All}
use Rattle.plain_model.specs.declared.calls.Call.TheVariants.{Commit as CommitCall}
use Rattle.plain_model.specs.declared.calls.Reply.TheVariants.{DiskFault, Aborting}
use Rattle.plain_model.specs.declared.calls.Entry.{Entry}
use Rattle.plain_model.specs.declared.calls.Entry.TheVariants.{Call}
use Rattle.plain_model.specs.ActiveTransaction.{ActiveTransaction}
use Rattle.plain_model.specs.Machine.{State, transaction_of, refusal_of}
use Rattle.plain_model.specs.History.{Moment, History, start_of, end_of, with_entry, next, moment_after, is_stopped, IsAllowed, IsCrashConsistent}
use Rattle.plain_model.proofs.StepLaws.{end_of-ids}
use Rattle.plain_laws.proofs.Serial.{next-slots}
use Rattle.cell_model.specs.Cells.{Cell}
use Rattle.cell_model.specs.Records.{Record as StoredRecord, Commit, cells_after, AllFit}
use Rattle.cell_model.specs.Consistent.{AreConsistent}
use Rattle.cell_model.specs.Graph.{graph_of}
use Rattle.cell_page.specs.Format.{IsSlotCount}
use Rattle.disk_model.specs.Areas.{Bytes, in_area}
use Rattle.gate_log.specs.Batches.{IsLog, most_bytes}
use Rattle.log_record.specs.declared.cell_record.CellRecord.TheVariants as logs
use Rattle.log_record.specs.Spelling.{HasCellSpelling}
use Rattle.store_model.specs.Core.{Core}
use Rattle.store_model.specs.Steps.{references_left}
use Rattle.store_model.proofs.CallLaws.{call-granted}
use Rattle.store_model.proofs.CallSound.{commit-call}
use Rattle.store_model.proofs.Lists.{each-append}
use Rattle.store_model.proofs.ReferenceLaws.{references_left-fit}
use Rattle.restart_laws.specs.Graph.{zeros_of}
use Rattle.restart_laws.specs.Unended.{unended_after_all, AllFitUnended}
use Rattle.restart_laws.specs.Restored.{restored, opened, CanRestart}
use Rattle.restart_laws.specs.Logged.{LogsCall, Logs}
use Rattle.restart_laws.specs.Restartable.{IsRestartable, Opens}
use Rattle.restart_laws.specs.Settled.{IsUnpromised}
use Rattle.restart_laws.proofs.ForgottenLaws.{forgotten, forgotten-sound, zeros-left}
use Rattle.restart_laws.proofs.ReopenLaws.{cells-append}
use Rattle.restart_laws.proofs.RestartableLaws.{events, crashes}
use Rattle.opened_images.specs.Opened.{Opened, OpensTo}
use Rattle.opened_images.specs.GoesOn.{stored_records, AreWithin}
use Rattle.opened_images.specs.Checkpoints.{BehindCheckpointLaw}
use Rattle.core_store.specs.declared.act.Act.TheVariants.{Other}
use Rattle.core_store.specs.declared.note.Note.{Note}
use Rattle.core_store.specs.JournalView.{JournalView, logged_in, cells_after_notes, core_of, opening_of}
use Rattle.core_store.specs.Safe.{AreEntries, IsSafe, IsDurable}
use Rattle.core_store.proofs.SafeLaws.{durable-all}
use Rattle.core_store.specs.Spelled.{IsOfIds, AreSpelled, AreOfIds}
use Rattle.core_store.proofs.PlanLaws.{refusal-in, refusal-out}
use Rattle.logged_journal.specs.declared.failed.FailedCall.{FailedCall}
use Rattle.logged_journal.specs.View.{LoggedView, history_of, failed_commit}
use Rattle.logged_journal.specs.Records.{logged_of, AreTypedNotes, HasRecords, with_commit, durable_notes, MayBeLeft, durable, failed}
use Rattle.logged_journal.specs.Kept.{CanCommit}
use Rattle.logged_journal.specs.Opens.{OpensAfter}
use Rattle.logged_journal.proofs.NoteRecords.{stored-are, spellings, within, first-have, last-have, slots-are}

-- ---- records that are a safe journal's

-- what is told of the records of notes in a store whose objects have so many slots
pub record AreOfStore (slots : ℕ) (j : JournalView) (notes : List Note) : Type 0 where
  pub size : IsSlotCount slots
  pub opening : AreConsistent slots j.history.ids j.opening
  pub after : AreConsistent slots j.history.ids (cells_after_notes slots j.opening notes)
  pub spelled : AllByRecursion (λ (n : Note). IfSome n.logged (HasCellSpelling slots)) notes
  pub of_ids : AllByRecursion (λ (n : Note). IfSome n.logged (IsOfIds j.history.ids)) notes
  pub typed : AreTypedNotes notes

-- entries leave the number of slots
slots-after : (m : Moment) (es : List Entry) → (moment_after m es).state.slots ≡ m.state.slots
slots-after m [] = refl
slots-after m (e ∷ es) = slots-after (next m e) es ∙ next-slots m e

-- a history that ends as a journal with these entries does has as many ids
same-ids : (j : JournalView) (entries : List Entry) (h : History) → moment_after (start_of j.history) entries ≡ end_of h → j.history.ids ≡ h.ids
same-ids j entries h ends = sym (end_of-ids (record j.history { entries = entries })) ∙ ap (λ (m : Moment). m.state.ids) ends ∙ end_of-ids h

-- where a store opens after a safe journal's records, it opens to a cell for each of the journal's ids, and one at 0
opened-size : (j : JournalView) (notes : List Note) (entries : List Entry) (core : Core) → IsRestartable (opening_of j) entries (logged_in notes) core
    → Opens core.moment (cells_after_notes j.history.slots j.opening notes) (unended_after_all [] (logged_in notes)) → core.moment.state.slots ≡ j.history.slots
    → length (opened j.history.slots j.opening (logged_in notes)) ≡ j.history.ids + 1
opened-size j notes entries core safe opens own =
    let ids : core.moment.state.ids ≡ j.history.ids = ap (λ (m : Moment). m.state.ids) safe.moment ∙ end_of-ids (record j.history { entries = entries }) in
    subst (λ (slots : ℕ). length (restored slots (cells_after_notes j.history.slots j.opening notes) (unended_after_all [] (logged_in notes))) ≡ j.history.ids + 1) own
    (let sized = opens.after.sized in omega (arith, sized, ids))

module _ (law : BehindCheckpointLaw) (j : JournalView) (notes : List Note) (entries later : List Entry) (core : Core) (h : History) (image : Bytes) where
  -- an image with the records of a safe journal opens to a cell for each id and one at 0, and to a graph that a crash may leave,
  -- where nothing was promised since
  opens-own : AreOfStore j.history.slots j notes → IsRestartable (opening_of j) entries (logged_in notes) core → IsUnpromised later → moment_after (start_of j.history) (entries ++ later) ≡ end_of h
      → HasRecords j notes image → OpensAfter j.history.slots h image
  opens-own facts safe unpromised ends has =
      let slots = j.history.slots in
      let pages = has.hold.0 in
      let ids = has.hold.1 in
      let hold = has.hold.2 in
      let events = logged_of hold.later in
      let P : Note → Type 0 = λ n. IfSome n.logged (HasCellSpelling slots) in
      let Q : Note → Type 0 = λ n. IfSome n.logged (IsOfIds j.history.ids) in
      let stored-is : logged_in notes ≡ logged_in hold.first ++ stored_records events =
      ap (λ (ns : List Note). logged_in ns) hold.split ∙ map-append _ hold.first hold.later ∙ ap (λ (rs : List (Option StoredRecord)). logged_in hold.first ++ rs) (sym (stored-are hold.later)) in
      let crash = crashes (opening_of j) core entries (logged_in notes) safe later unpromised in
      let own : core.moment.state.slots ≡ slots = ap (λ (m : Moment). m.state.slots) safe.moment ∙ slots-after (start_of j.history) entries in
      let can : CanRestart slots (cells_after slots j.opening (logged_in notes)) (unended_after_all [] (logged_in notes)) = subst (λ (s : ℕ). CanRestart s (cells_after slots j.opening (logged_in notes)) (unended_after_all [] (logged_in notes))) own crash.0.can in
      let opens = law slots pages image has.log.area hold.before hold.earlier hold.parts j.opening (logged_in hold.first) events facts.size hold.over hold.began hold.sound has.log.named
      (subst (λ (batches : List (List ℕ)). IsLog most_bytes batches (in_area image has.log.area)) hold.are has.log.log)
      hold.same hold.logged hold.images
      (spellings slots hold.later (last-have P hold.first hold.later (subst (AllByRecursion P) hold.split facts.spelled)) (last-have _ hold.first hold.later (subst AreTypedNotes hold.split facts.typed)))
      (subst (λ (n : ℕ). AreWithin n events) ids (within j.history.ids hold.later (last-have Q hold.first hold.later (subst (AllByRecursion Q) hold.split facts.of_ids))))
      (subst (λ (rs : List (Option StoredRecord)). AllFit slots j.opening rs) stored-is safe.fit)
      (subst (λ (rs : List (Option StoredRecord)). AllFitUnended [] rs) stored-is safe.fit_unended)
      (subst (λ (rs : List (Option StoredRecord)). AreConsistent slots (8 * pages) (cells_after slots j.opening rs)) stored-is (subst (λ (n : ℕ). AreConsistent slots n (cells_after slots j.opening (logged_in notes))) ids facts.after))
      (subst (λ (rs : List (Option StoredRecord)). CanRestart slots (cells_after slots j.opening rs) (unended_after_all [] rs)) stored-is can) in
      record {
        cells = opened slots j.opening (logged_in notes);
        opened = subst (λ (rs : List (Option StoredRecord)). Opened slots image (OpensTo (opened slots j.opening rs))) (sym stored-is) opens;
        size = opened-size j notes entries core safe crash.0 own ∙ ap (λ (n : ℕ). n + 1) (same-ids j (entries ++ later) h ends);
        graph = subst (λ (m : Moment). IsCrashConsistent m (graph_of (opened slots j.opening (logged_in notes)))) ends crash.1;
      }

  -- the same with the number of slots that the program has
  pub opens-after : (slots : ℕ) → AreOfStore slots j notes → IsRestartable (opening_of j) entries (logged_in notes) core → IsUnpromised later → moment_after (start_of j.history) (entries ++ later) ≡ end_of h
      → HasRecords j notes image → OpensAfter slots h image
  opens-after slots facts safe unpromised ends has =
      let same = slots-are j.history.slots slots (8 * has.hold.0) j.history.ids j.opening has.hold.2.opens facts.opening in
      subst (λ (s : ℕ). OpensAfter s h image) same (opens-own (subst (λ (s : ℕ). AreOfStore s j notes) (sym same) facts) safe unpromised ends has)

-- ---- what a journal tells of itself

-- its facts, as the journal's own calls tell them
pub record TellsItself (slots : ℕ) (j : JournalView) : Type 0 where
  pub size : IsSlotCount slots
  pub consistent : («first» rest : List Note) → j.notes ≡ «first» ++ rest → AreConsistent slots j.history.ids (cells_after_notes slots j.opening «first»)
  pub entries : AreEntries j
  pub running : is_stopped (end_of j.history) ≡ false
  pub spelled : AreSpelled slots j.notes
  pub of_ids : AreOfIds j.history.ids j.notes
  pub safe : IsSafe j
  pub typed : AreTypedNotes j.notes

-- the same is told of its first notes
pub first-facts : (slots : ℕ) (j : JournalView) («first» rest : List Note) → TellsItself slots j → j.notes ≡ «first» ++ rest → AreOfStore slots j «first»
first-facts slots j «first» rest t split =
    let P : Note → Type 0 = λ n. IfSome n.logged (HasCellSpelling slots) in
    let Q : Note → Type 0 = λ n. IfSome n.logged (IsOfIds j.history.ids) in
    record {
      size = t.size;
      opening = t.consistent [] j.notes refl;
      after = t.consistent «first» rest split;
      spelled = first-have P «first» rest (subst (AllByRecursion P) split (recursion_from_All P j.notes t.spelled));
      of_ids = first-have Q «first» rest (subst (AllByRecursion Q) split (recursion_from_All Q j.notes t.of_ids));
      typed = first-have _ «first» rest (subst AreTypedNotes split t.typed);
    }

-- the entries of the first notes, and those after them
all-entries : (j : JournalView) («first» rest : List Note) → j.notes ≡ «first» ++ rest → AreEntries j → map (λ n. n.entry) «first» ++ map (λ n. n.entry) rest ≡ j.history.entries
all-entries j «first» rest split entries =
    sym (map-append (λ (n : Note). n.entry) «first» rest) ∙ ap (λ (l : List Note). map (λ n. n.entry) l) (sym split) ∙ entries

-- with the records of durable notes alone an image opens to a graph that a crash at the end may leave
opens-durable : (law : BehindCheckpointLaw) (slots : ℕ) (j : JournalView) («first» : List Note) (image : Bytes) → TellsItself slots j → IsDurable j «first» → HasRecords j «first» image → OpensAfter slots j.history image
opens-durable law slots j «first» image t d has =
    let all = all-entries j «first» d.rest d.split t.entries in
    opens-after law j «first» (map (λ n. n.entry) «first») (map (λ n. n.entry) d.rest) d.core j.history image slots (first-facts slots j «first» d.rest t d.split) d.safe d.unpromised
    (ap (λ (es : List Entry). moment_after (start_of j.history) es) all) has

-- so it does where a commit failed after them
opens-durable-failed : (law : BehindCheckpointLaw) (slots : ℕ) (j : JournalView) («first» : List Note) (pass : ℕ) (image : Bytes) → TellsItself slots j → IsDurable j «first» → HasRecords j «first» image
    → OpensAfter slots (with_entry j.history (Call pass CommitCall DiskFault)) image
opens-durable-failed law slots j «first» pass image t d has =
    let e : Entry = Call pass CommitCall DiskFault in
    let before : List Entry = map (λ n. n.entry) «first» in
    let behind : List Entry = map (λ n. n.entry) d.rest in
    let all = sym (append_assoc before behind (e ∷ [])) ∙ ap (λ (es : List Entry). es ++ e ∷ []) (all-entries j «first» d.rest d.split t.entries) in
    opens-after law j «first» before (behind ++ e ∷ []) d.core (with_entry j.history e) image slots (first-facts slots j «first» d.rest t d.split) d.safe
    (each-append _ behind (e ∷ []) d.unpromised (refl, tt))
    (ap (λ (es : List Entry). moment_after (start_of j.history) es) all) has

-- ---- a commit that the disk failed

-- the client has a transaction that isn't being undone
running-transaction : (s : State) (pass : ℕ) → refusal_of s pass CommitCall ≡ None → (t : ActiveTransaction) × (transaction_of s pass ≡ Some t) × (t.aborting ≡ false)
running-transaction s pass none = by (transaction_of s pass) refl
  where
    still : (b : Bool) → cond b (Some Aborting) None ≡ None → b ≡ false
    still true e = absurd (cc (e))
    still false e = refl

    by : (o : Option ActiveTransaction) → transaction_of s pass ≡ o → (t : ActiveTransaction) × (transaction_of s pass ≡ Some t) × (t.aborting ≡ false)
    by (Some t) is = (t, is, still t.aborting (sym (refusal-in s pass t CommitCall is) ∙ none))
    by None is = absurd (let e = sym (refusal-out s pass CommitCall is) ∙ none in cc (e))

-- with its record a journal is restartable, in the history in which the disk failed it
restartable-failed : (start c : Core) (entries : List Entry) (records : List (Option StoredRecord)) → IsRestartable start entries records c → is_stopped c.moment ≡ false → (pass : ℕ) → refusal_of c.moment.state pass CommitCall ≡ None
    → (d : Core) × IsRestartable start (entries ++ Call pass CommitCall DiskFault ∷ []) (records ++ Some (Commit pass) ∷ []) d
restartable-failed start c entries records h runs pass granted =
    let e = Call pass CommitCall DiskFault in
    let has = running-transaction c.moment.state pass granted in
    let t = has.0 in
    let a = has.1 in
    let in-it = sym (refusal-in c.moment.state pass t CommitCall a) ∙ granted in
    let left = references_left c.refs pass in
    let d : Core = record { cells = c.cells; moment = next c.moment e; refs = left; queue = zeros_of c.cells; round = None } in
    let sound = commit-call (forgotten c) (forgotten-sound c h.sound) pass t a left (zeros_of c.cells) (references_left-fit c.refs pass) (zeros-left (forgotten c) refl left) in-it DiskFault in
    let allowed : IsAllowed c.moment e = (runs, record { machine = inr (refl, refl, ap (λ x. x.0) (call-granted c.moment.state pass t CommitCall a in-it)); undone = λ f. absurd (cc) }) in
    let logs : Logs c e (Some (Commit pass)) =
    subst (λ o. LogsCall c.moment.state c.cells pass CommitCall o (transaction_of c.moment.state pass) (Some (Commit pass))) (sym granted)
    (subst (λ p. LogsCall c.moment.state c.cells pass CommitCall None p (Some (Commit pass))) (sym a) refl) in
    (d, events start c d entries records h e (Some (Commit pass)) allowed logs tt sound refl refl)

-- the record of a commit changes no cell
commit-cells : (slots : ℕ) (j : JournalView) (pass : ℕ) → cells_after_notes slots j.opening (with_commit j.notes pass) ≡ cells_after_notes slots j.opening j.notes
commit-cells slots j pass =
    ap (λ (rs : List (Option StoredRecord)). cells_after slots j.opening rs) (commit-logged j pass) ∙ cells-append slots j.opening (logged_in j.notes) (Some (Commit pass) ∷ [])
  where
    commit-logged : (j : JournalView) (pass : ℕ) → logged_in (with_commit j.notes pass) ≡ logged_in j.notes ++ Some (Commit pass) ∷ []
    commit-logged j pass = map-append _ j.notes _

-- with the records of all notes and of the failed commit an image opens to a graph that a crash may leave after it
pub opens-failed : (law : BehindCheckpointLaw) (slots : ℕ) (j : JournalView) (pass : ℕ) (image : Bytes) → TellsItself slots j → CanCommit j pass → HasRecords j (with_commit j.notes pass) image
    → OpensAfter slots (with_entry j.history (Call pass CommitCall DiskFault)) image
opens-failed law slots j pass image t can has =
    let e : Entry = Call pass CommitCall DiskFault in
    let note : Note = record { entry = e; logged = Some (logs.Commit pass); left = 0; act = Other } in
    let facts = first-facts slots j j.notes [] t (sym (append-nil j.notes)) in
    let restart = restartable-failed (opening_of j) (core_of j) j.history.entries (logged_in j.notes) t.safe t.running pass can.granted in
    let logged-is : logged_in (with_commit j.notes pass) ≡ logged_in j.notes ++ Some (Commit pass) ∷ [] = map-append _ j.notes (note ∷ []) in
    opens-after law j (with_commit j.notes pass) (j.history.entries ++ e ∷ []) [] restart.0 (with_entry j.history e) image slots
    (record {
      size = facts.size;
      opening = facts.opening;
      after = subst (λ (cells : List Cell). AreConsistent slots j.history.ids cells) (sym (commit-cells slots j pass)) facts.after;
      spelled = each-append _ j.notes (note ∷ []) facts.spelled (can.client, tt);
      of_ids = each-append _ j.notes (note ∷ []) facts.of_ids (tt, tt);
      typed = each-append _ j.notes (note ∷ []) facts.typed (tt, tt);
    })
    (subst (λ (rs : List (Option StoredRecord)). IsRestartable (opening_of j) (j.history.entries ++ e ∷ []) rs restart.0) (sym logged-is) restart.1)
    tt (ap (λ (es : List Entry). moment_after (start_of j.history) es) (append-nil (j.history.entries ++ e ∷ []))) has

-- ---- whatever a power loss leaves

-- with the records of all notes an image opens to a graph that a crash may leave
pub opens-all : (law : BehindCheckpointLaw) (slots : ℕ) (j : JournalView) (image : Bytes) → TellsItself slots j → HasRecords j j.notes image → OpensAfter slots j.history image
opens-all law slots j image t has = opens-durable law slots j j.notes image t (durable-all j t.entries t.safe) has

-- so it is in the history that is told, whether or not a commit failed
durable-left : (law : BehindCheckpointLaw) (slots : ℕ) (j : JournalView) («first» : List Note) (o : Option ℕ) (image : Bytes) → TellsItself slots j → IsDurable j «first» → HasRecords j «first» image
    → OpensAfter slots (option_map_or (λ (client : ℕ). with_entry j.history (Call client CommitCall DiskFault)) o j.history) image
durable-left law slots j «first» None image t d has = opens-durable law slots j «first» image t d has
durable-left law slots j «first» (Some client) image t d has = opens-durable-failed law slots j «first» client image t d has

-- and where a call failed the records of all notes, and of the commit where it was one
failed-left : (law : BehindCheckpointLaw) (slots : ℕ) (j : JournalView) (o : Option ℕ) (image : Bytes) → TellsItself slots j → IfSome o (CanCommit j) → HasRecords j (option_map_or (with_commit j.notes) o j.notes) image
    → OpensAfter slots (option_map_or (λ (client : ℕ). with_entry j.history (Call client CommitCall DiskFault)) o j.history) image
failed-left law slots j None image t can has = opens-all law slots j image t has
failed-left law slots j (Some client) image t can has = opens-failed law slots j client image t can has

-- an image with what a power loss may leave opens to a graph that a crash may leave
pub opens-left : {D : Type 0} (law : BehindCheckpointLaw) (slots : ℕ) (v : LoggedView D) (image : Bytes) → TellsItself slots v.journal → IsDurable v.journal (durable_notes v) → IfSome (failed_commit v) (CanCommit v.journal)
    → MayBeLeft v image → OpensAfter slots (history_of v) image
opens-left law slots v image t d granted (durable has) = durable-left law slots v.journal (durable_notes v) (failed_commit v) image t d has
opens-left law slots v image t d granted (failed f is has) =
    let commit : failed_commit v ≡ f.commit = ap (λ (o : Option FailedCall). option_and_then (λ (f : FailedCall). f.commit) o) is in
    subst (λ (o : Option ℕ). OpensAfter slots (option_map_or (λ (client : ℕ). with_entry v.journal.history (Call client CommitCall DiskFault)) o v.journal.history) image) (sym commit)
    (failed-left law slots v.journal f.commit image t (subst (λ (o : Option ℕ). IfSome o (CanCommit v.journal)) commit granted) has)
