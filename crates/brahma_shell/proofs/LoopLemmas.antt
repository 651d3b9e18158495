-- How a replay goes on from one loss of power to the next, and how each of its stretches ends it.
use Rattle.std.proofs.Common.{◌≡◌, ◌⊎◌, ⊎_elim, inl, inr, ◌≤◌, ℕ, ◌+◌, Bool, true, false, List, [], ◌++◌, ◌-◌, length, Option, Some, None, refl, sym, ap, subst, ◌∙◌, arith, Err}
use Rattle.std.specs.Prelude.{Result, Ok, IfOk, IfSome, IsSome, MatchBool, codes}
use Rattle.std.specs.Io.KnownBytes.{prepend_known, Appends}
use Rattle.plain_model.specs.History.{History, IsLegal}
use Rattle.plain_model.specs.Text.{text_of, stored_line}
use Rattle.plain_model.specs.History.{end_of, is_stopped}
use Rattle.plain_laws.specs.Sound.{IsSoundGraph}
use Rattle.store_model.specs.Sound.{IsSound}
use Rattle.core_store.specs.JournalView.{JournalView, core_of, opening_of}
use Rattle.core_store.specs.Leads.{AreLed}
use Rattle.core_store.specs.Safe.{IsDurable}
use Rattle.disk_model.specs.Told.{EachImage}
use Rattle.logged_journal.specs.Records.{MayBeLeft, durable_notes}
use Rattle.logged_journal.specs.Opens.{OpensAfter}
use Rattle.brahma_shell.specs.Points.{entries_in}
use Rattle.brahma_shell.specs.Ended.{disk_in}
use Rattle.plain_model.specs.declared.calls.Call.TheVariants.{Commit}
use Rattle.script_lines.specs.declared.grammar.Line.TheVariants.{Ask}
use Rattle.cell_model.specs.Cells.{Cell}
use Rattle.disk_model.specs.declared.area.Area.{Area}
use Rattle.disk_model.specs.Causes.{Rose}
use Rattle.core_store.specs.Limited.{WasFull}
use Rattle.store_opening.specs.declared.open_refusal.OpenRefusal.{OpenRefusal}
use Rattle.store_opening.specs.declared.open_refusal.OpenRefusal.TheVariants as refusal
use Rattle.journal_opening.specs.Openings.{ReadsAs}
use Rattle.logged_journal.specs.View.{LoggedView, history_of}
use Rattle.script_lines.specs.Reading.{TakesLine, TakesLastLine}
use Rattle.script_lines.specs.Output.{AppendsFront, EndsWith, refused_line, open_refusal_line}
use Rattle.script_lines.proofs.OutputLemmas.{Appends-none, Appends-trans, AppendsFront-after}
use Rattle.brahma_shell.specs.declared.ended.Ended.{Ended}
use Rattle.brahma_shell.specs.declared.ended.Ended.TheVariants.{Shut, Kept}
use Rattle.brahma_shell.specs.declared.replay.Reached.{Reached}
use Rattle.brahma_shell.specs.declared.replay.Stop.{Stop}
use Rattle.brahma_shell.specs.declared.replay.Stop.TheVariants as stop
use Rattle.brahma_shell.specs.Follows.{FollowsAll, FollowsPart, FollowsToCommit, FollowsToUpkeep}
use Rattle.brahma_shell.specs.Growth.{IsSameStart}
use Rattle.brahma_shell.specs.Log.{WasLogFull}
use Rattle.brahma_shell.specs.Replay.{HasFollowed, AsksCrash, ComesToCrash, StopsReplay, FailsReplay, LeavesLog, LeavesMarks, status_of, last_line}
use Rattle.brahma_shell.specs.Runs.{Run, whole, ids_at, end_point, since_opening}
use Rattle.brahma_shell.specs.Top.{Tell, IsJustOpened, IsOfReplay, Outside, outside, Ends, EndsAtCrash, Replayed, text_in, stored_at_end, status_of_refusal}
use Rattle.brahma_shell.specs.Crashes.{Reopens, StaysShut, StopsCrash, shut, unwritten, reopened_line}
use Rattle.brahma_shell.proofs.EndLemmas.{FailedGranted, of-replay, of-opened, sound-opening, off, front-kept, no-failure, nothing-more, FollowsPart-to}
use Rattle.brahma_shell.proofs.LogLemmas.{history-running, none-committed, committed}
use Rattle.brahma_shell.proofs.FollowLemmas.{ids-since}
use Rattle.brahma_shell.proofs.PointLemmas.{ids_of_point}
use Rattle.brahma_shell.proofs.ReplayLemmas.{HasLine, HasLine-whole, HasLine-last}
use Rattle.brahma_shell.proofs.JoinLemmas.{IsNextOf, ids-joined, FollowsAll-joined, FollowsUpTo-joined, FollowsRead-joined, FollowsPart-joined, FollowsTo-joined, HasFollowed-joined, HasFollowed-crashed, FollowsAll-crashed, FollowsToCrash-here, FollowsPart-done}
use Rattle.brahma_shell.proofs.RunLemmas.{first_run, extended, reopened, StandsAt, stands-first, last-extended, next-of, text-extended, legal-extended, exit-extended, stored-extended, text-reopened, stands-again, exit-standing, stored-standing}
use Rattle.brahma_shell.proofs.RunEnds.{AtEnd, AtLoss, ends-done, ends-refused, ends-read, ends-write, ends-memory, ends-limit, ends-fault, ends-lost-disk, ends-lost-memory, ends-lost-room, ends-lost-store}
use Rattle.brahma_shell.proofs.TopLemmas.{EndsWith-after, FollowsPart-all}
use Rattle.script_lines.specs.Numbers.{object_slots}

-- ---- between two stretches

-- the lines before this number are done, and the store is just opened at the end of their run, which began with these cells
pub record ComesTo {D : Type 0} (content : D → Area → Option (List ℕ)) (may_leave : D → Area → List ℕ → Type 0) (source left before written : Option (List ℕ)) (number : ℕ) (cells : List Cell) (v : LoggedView D) : Type 0 where
  pub run : Run
  pub lines : ℕ
  pub place : number ≡ 1 + lines
  pub opened : run.opening ≡ cells
  pub size : run.ids ≡ length cells - 1
  pub stands : StandsAt content run v
  pub journal : IsOfReplay may_leave v
  pub followed : HasFollowed source left lines (whole run)
  pub printed : Appends before written (text_in run)

-- nothing is taken yet
none-taken : (source : Option (List ℕ)) (r : Run) → r.events ≡ [] → HasFollowed source source 0 (whole r)
none-taken None r e = tt
none-taken (Some bytes) r e = record { taken = []; done = []; parts = refl; lines = λ rest. refl; feeds = refl; count = refl; follows = e }

none-pending : (left : Option (List ℕ)) → prepend_known [] left ≡ left
none-pending None = refl
none-pending (Some xs) = refl

pub comes-first : {D : Type 0} (content : D → Area → Option (List ℕ)) (may_leave : D → Area → List ℕ → Type 0) (source written : Option (List ℕ)) (pending : List ℕ) (v : LoggedView D) → pending ≡ [] → IsJustOpened v → IsOfReplay may_leave v
    → ComesTo content may_leave source (prepend_known pending source) written written 1 v.journal.opening v
comes-first content may_leave source written pending v none just journal =
    let same : prepend_known pending source ≡ source = ap (λ (xs : List ℕ). prepend_known xs source) none ∙ none-pending source in
    record {
      run = first_run v;
      lines = 0;
      place = refl;
      opened = refl;
      size = just.size;
      stands = stands-first content v just;
      journal = journal;
      followed = subst (λ (o : Option (List ℕ)). HasFollowed source o 0 (whole (first_run v))) (sym same) (none-taken source (first_run v) refl);
      printed = Appends-none written;
    }

-- ---- the end of a script

-- the journal and its log are not marked, and the disk failed no commit and no upkeep
pub record StaysUnmarked {D : Type 0} (v : LoggedView D) : Type 0 where
  pub running : v.failed ≡ None
  pub trace : v.journal.marks.trace ≡ false
  pub log : v.log_full ≡ false

-- how the line of the stored ids ends it
pub record EndsScript (before now : Option (List ℕ)) (first_faults faults_now : ℕ) (stored : List ℕ) (status : ℕ) : Type 0 where
  pub statuses : (status ≡ 0) ⊎ ((status ≡ 5) ⊎ (status ≡ 8))
  pub done : status ≡ 0 → Appends before now (stored_line stored)
  pub write : status ≡ 5 → AppendsFront before now (stored_line stored) × Rose first_faults faults_now
  pub memory : status ≡ 8 → EndsWith before now first_faults faults_now [] (codes "refused: memory\n")

-- what is printed after the text
ends-behind : (old mid new : Option (List ℕ)) (text last more : List ℕ) → more ≡ last → Appends old mid text → Appends mid new more → Appends old new (text ++ last)
ends-behind old mid new text last more e a b = Appends-trans old mid new text last a (subst (Appends mid new) e b)

pub ends-script : {S D : Type 0} (content : D → Area → Option (List ℕ)) (may_leave : D → Area → List ℕ → Type 0) (script later : S) (disk : D) (before after : Outside) (r : Run) (v : LoggedView D) → AtEnd content may_leave disk before after r v
    → (mid : Option (List ℕ)) (count status : ℕ) → StaysUnmarked v → r.failed ≡ None → FollowsAll before.left after.left (whole r) → Appends before.written mid (text_in r) → stored_line (end_of v.journal.history).state.stored ≡ stored_line (stored_at_end r)
    → before.write_faults ≤ count → EndsScript mid after.written count after.write_faults (end_of v.journal.history).state.stored status → Replayed content may_leave script later disk before after status (Kept v)
ends-script {S} {D} content may_leave script later disk before after r v k mid count status marks running follows text stored le ends =
    ⊎_elim
    (λ e. subst Ending (sym e) (ends-done content may_leave script later disk before after r v k marks.running marks.trace marks.log follows (ends-behind before.written mid after.written (text_in r) (stored_line (stored_at_end r)) (stored_line (end_of v.journal.history).state.stored) stored text (ends.done e))))
    (λ h. ⊎_elim
    (λ e. let w = ends.write e in
    let rose : Rose before.write_faults after.write_faults = omega (arith, le, w.1) in
    subst Ending (sym e) (ends-write content may_leave script later disk before after r v k marks.trace marks.log rose
    (inr (follows, AppendsFront-after before.written mid after.written (text_in r) (stored_line (stored_at_end r)) text (subst (AppendsFront mid after.written) stored w.0)))
    (none-commit r.failed (λ client. FollowsToCommit before.left client (whole r)) running) (λ some. absurd (no-failure v marks.running some))))
    (λ e. subst Ending (sym e) (ends-memory content may_leave script later disk before after r v k marks.running marks.trace marks.log (FollowsPart-all before.left after.left (whole r) follows)
    (EndsWith-after before.written mid after.written before.write_faults count after.write_faults (text_in r) (codes "refused: memory\n") le text (ends.memory e))))
    h)
    ends.statuses
  where
    Ending : ℕ → Type 0
    Ending n = Replayed content may_leave script later disk before after n (Kept v)

    none-commit : (o : Option ℕ) (P : ℕ → Type 0) → o ≡ None → IfSome o P
    none-commit None P e = tt
    none-commit (Some c) P e = absurd (cc)

-- ---- what a call answered

pub when-ok : {T E : Type 0} (r : Result T E) (f x : T) (P : T → Type 0) → r ≡ Ok f → f ≡ x → IfOk r P → P x
when-ok {T} {E} r f x P e i h = let k : IfOk {E = E} (Ok f) P = subst (λ (s : Result T E). IfOk s P) e h in subst P i k

-- where it came to a loss of power or to the end the marks are those of before
pub marks-ok : (r : Result Reached Stop) (f : Reached) (a b : JournalView) → r ≡ Ok f → LeavesMarks r a b → b.marks ≡ a.marks
marks-ok r f a b e m = subst (λ (s : Result Reached Stop). LeavesMarks s a b) e m

-- ---- the journal after it

-- it is of a replay, by what is known of it
pub then-journal : {D : Type 0} (content : D → Area → Option (List ℕ)) (may_leave : D → Area → List ℕ → Type 0) (source left before mid : Option (List ℕ)) (number : ℕ) (cells : List Cell) (v w : LoggedView D)
    → ComesTo content may_leave source left before mid number cells v → IsSameStart v.journal w.journal → FailedGranted w
    → IsLegal w.journal.history → is_stopped (end_of w.journal.history) ≡ false → entries_in w.journal.notes ≡ w.journal.history.entries → IsSound (core_of w.journal)
    → AreLed object_slots (opening_of w.journal) w.journal.notes (core_of w.journal) → IsDurable w.journal (durable_notes w) → EachImage may_leave w.disk (MayBeLeft w) → EachImage may_leave w.disk (OpensAfter object_slots (history_of w)) → IsOfReplay may_leave w
then-journal content may_leave source left before mid number cells v w come same granted legal running entries sound led lasting images opens =
    let first : IsSoundGraph v.journal.history.opening = sound-opening v.journal come.journal.sound come.stands.just.entries in
    let graph : IsSoundGraph w.journal.history.opening = subst IsSoundGraph (sym (ap (λ (h : History). h.opening) same.history)) first in
    of-replay may_leave w (of-opened v w come.stands.just same) graph granted legal running entries sound led lasting images opens

-- ---- one stretch

module _ {D : Type 0} (content : D → Area → Option (List ℕ)) (may_leave : D → Area → List ℕ → Type 0) (source left before mid : Option (List ℕ)) (number : ℕ) (cells : List Cell) (v w : LoggedView D)
    (come : ComesTo content may_leave source left before mid number cells v) (same : IsSameStart v.journal w.journal) (journal : IsOfReplay may_leave w) where
  -- the run then
  abbrev pub run_then : Run
  run_then = extended come.run w

  then-next : IsNextOf (whole come.run) (since_opening number w.journal) come.lines
  then-next = next-of content come.run v w come.stands same journal.entries number come.lines come.place

  then-text : text_in (extended come.run w) ≡ text_in come.run ++ text_of (history_of w).entries
  then-text = text-extended content come.run v w come.stands same journal.entries

  then-running : w.failed ≡ None → (extended come.run w).failed ≡ None
  then-running e = none-committed w e

  -- what is printed by then
  pub then-printed : (written : Option (List ℕ)) → Appends mid written (text_of (history_of w).entries) → Appends before written (text_in (extended come.run w))
  then-printed written a = subst (Appends before written) (sym then-text) (Appends-trans before mid written (text_in come.run) (text_of (history_of w).entries) come.printed a)

  then-front : (written : Option (List ℕ)) → AppendsFront mid written (text_of (history_of w).entries) → AppendsFront before written (text_in (extended come.run w))
  then-front written a = subst (AppendsFront before written) (sym then-text) (AppendsFront-after before mid written (text_in come.run) (text_of (history_of w).entries) come.printed a)

  running-text : (written : Option (List ℕ)) → w.failed ≡ None → Appends mid written (text_of w.journal.history.entries) → Appends mid written (text_of (history_of w).entries)
  running-text written e a = subst (λ (h : History). Appends mid written (text_of h.entries)) (sym (history-running w e)) a

  running-front : (written : Option (List ℕ)) → w.failed ≡ None → AppendsFront mid written (text_of w.journal.history.entries) → AppendsFront mid written (text_of (history_of w).entries)
  running-front written e a = subst (λ (h : History). AppendsFront mid written (text_of h.entries)) (sym (history-running w e)) a

  -- what is known at the end
  then-ids : Tell content → ids_at (end_point (whole (extended come.run w))) ≡ (extended come.run w).ids
  then-ids tell = ids-joined (whole come.run) (since_opening number w.journal) come.lines then-next ∙ ids-since number w.journal ∙ ids_of_point w.journal ∙ ap (λ (h : History). h.ids) same.history ∙ sym (come.stands.ids tell)

  -- there is a cell for each id of the opening
  then-size : come.run.ids ≡ length come.run.opening - 1
  then-size = come.size ∙ ap (λ (cs : List Cell). length cs - 1) (sym come.opened)

  then-end : (disk : D) (b a : Outside) → ReadsAs content object_slots disk cells → AtEnd content may_leave disk b a (extended come.run w) w
  then-end disk b a reads = record {
    opened = subst (ReadsAs content object_slots disk) (sym come.opened) reads;
    legal = legal-extended content come.run v w come.stands same journal.entries journal.legal;
    last = last-extended content come.run v w come.stands same journal.entries;
    journal = journal;
    exit = exit-extended content come.run v w come.stands same journal.entries may_leave w.disk journal.opens;
    same_ids = then-ids;
    size = then-size;
  }

  then-stored : w.failed ≡ None → stored_line (stored_at_end (extended come.run w)) ≡ stored_line (end_of w.journal.history).state.stored
  then-stored e = ap stored_line (stored-extended content come.run v w come.stands same journal.entries)

  -- ---- how it ends

  module _ {S : Type 0} (script later : S) (disk : D) (reads : ReadsAs content object_slots disk cells) where
    -- every line was done
    pub all-done : (left_now mid_out written : Option (List ℕ)) (reads_0 reads_1 faults_0 count faults_1 disk_0 disk_1 status : ℕ) → StaysUnmarked w → FollowsAll left left_now (since_opening number w.journal) → Appends mid mid_out (text_of w.journal.history.entries)
        → faults_0 ≤ count → EndsScript mid_out written count faults_1 (end_of w.journal.history).state.stored status
        → Replayed content may_leave script later disk (outside source reads_0 before faults_0 disk_0) (outside left_now reads_1 written faults_1 disk_1) status (Kept w)
    all-done left_now mid_out written reads_0 reads_1 faults_0 count faults_1 disk_0 disk_1 status marks follows text le ends =
        let b = outside source reads_0 before faults_0 disk_0 in
        let a = outside left_now reads_1 written faults_1 disk_1 in
        ends-script content may_leave script later disk b a (extended come.run w) w (then-end disk b a reads) mid_out count status marks (then-running marks.running)
        (FollowsAll-joined (whole come.run) (since_opening number w.journal) come.lines then-next source left left_now come.followed follows)
        (then-printed mid_out (running-text mid_out marks.running text)) (sym (then-stored marks.running)) le ends

    -- a line stops the replay
    pub all-stopped : (faults : D → ℕ) (s : Stop) (left_now mid_out written : Option (List ℕ)) (reads_0 reads_1 faults_0 count faults_1 disk_0 : ℕ) → LeavesMarks (Err s) v.journal w.journal
        → StopsReplay s number left left_now mid mid_out w.journal × LeavesLog faults s v w ⊎ FailsReplay faults s number left mid mid_out v w
        → (s ≡ stop.Read → Rose reads_0 reads_1) → (s ≡ stop.Write → Rose faults_0 count) → faults_0 ≤ count → count ≤ faults_1 → disk_0 ≤ faults v.disk
        → (w.journal.marks.trace ≡ true → WasFull w.journal) → (w.log_full ≡ true → WasLogFull w) → EndsWith mid_out written count faults_1 [] (last_line s)
        → Replayed content may_leave script later disk (outside source reads_0 before faults_0 disk_0) (outside left_now reads_1 written faults_1 (faults w.disk)) (status_of s) (Kept w)
    all-stopped faults s left_now mid_out written reads_0 reads_1 faults_0 count faults_1 disk_0 marks how rose_read rose_write first_le le disk_le full log_full ends =
        ⊎_elim (λ h. stops s marks h.0 h.1 rose_read rose_write ends) (λ h. fails s marks h rose_write ends) how
      where
        b : Outside
        b = outside source reads_0 before faults_0 disk_0

        a : Outside
        a = outside left_now reads_1 written faults_1 (faults w.disk)

        r : Run
        r = extended come.run w

        k : AtEnd content may_leave disk b a r w
        k = then-end disk b a reads

        trace : w.journal.marks ≡ v.journal.marks → w.journal.marks.trace ≡ false
        trace e = off w.journal.marks v.journal.marks e come.stands.just.unmarked

        log : w.log_full ≡ v.log_full → w.log_full ≡ false
        log e = e ∙ come.stands.just.log_unmarked

        part : FollowsPart left (since_opening number w.journal) → FollowsPart source (whole r)
        part f = FollowsPart-joined (whole come.run) (since_opening number w.journal) come.lines then-next source left come.followed f

        -- the last line comes after what is printed
        last : (line : List ℕ) → Appends mid mid_out (text_of (history_of w).entries) → EndsWith mid_out written count faults_1 [] line → Ends b a (text_in r) line
        last line t e = EndsWith-after before mid_out written faults_0 count faults_1 (text_in r) line first_le (then-printed mid_out t) e

        front : AppendsFront mid mid_out (text_of (history_of w).entries) → EndsWith mid_out written count faults_1 [] [] → AppendsFront before written (text_in r)
        front t e = front-kept before mid_out written (text_in r) (then-front mid_out t) (nothing-more mid_out written count faults_1 e)

        no-commit : (o : Option ℕ) (P : ℕ → Type 0) → o ≡ None → IfSome o P
        no-commit None P e = tt
        no-commit (Some c) P e = absurd (cc)

        to-commit : (client : ℕ) → FollowsToCommit left client (since_opening number w.journal) → FollowsToCommit source client (whole r)
        to-commit client f = FollowsTo-joined (whole come.run) (since_opening number w.journal) come.lines then-next source left (Ask client Commit) come.followed f

        to-upkeep : FollowsToUpkeep left (since_opening number w.journal) → FollowsToUpkeep source (whole r)
        to-upkeep f = (f.0, f.1, FollowsTo-joined (whole come.run) (since_opening number w.journal) come.lines then-next source left f.0 come.followed f.2)

        stops : (s : Stop) → LeavesMarks (Err s) v.journal w.journal → StopsReplay s number left left_now mid mid_out w.journal → LeavesLog faults s v w → (s ≡ stop.Read → Rose reads_0 reads_1) → (s ≡ stop.Write → Rose faults_0 count)
            → EndsWith mid_out written count faults_1 [] (last_line s) → Replayed content may_leave script later disk b a (status_of s) (Kept w)
        stops (stop.Line n) m h g rr rw e =
            ends-refused content may_leave script later disk b a r w k g.running (trace m) (log g.log_full) n
            (FollowsUpTo-joined (whole come.run) (since_opening number w.journal) come.lines then-next source left n come.followed h.0) (last (refused_line n) (running-text mid_out g.running h.1) e)
        stops stop.Read m h g rr rw e =
            ends-read content may_leave script later disk b a r w k g.running (trace m) (log g.log_full) (rr refl)
            (FollowsRead-joined (whole come.run) (since_opening number w.journal) come.lines then-next source left left_now come.followed h.0) (last (codes "refused: read\n") (running-text mid_out g.running h.1) e)
        stops stop.Write m h g rr rw e =
            let rose : Rose faults_0 faults_1 = omega (arith, rw refl, le) in
            ends-write content may_leave script later disk b a r w k (trace m) (log g.log_full) rose (inl (part h.0, front (running-front mid_out g.running h.1) e))
            (no-commit r.failed (λ client. FollowsToCommit source client (whole r)) (then-running g.running)) (λ some. absurd (no-failure w g.running some))
        stops stop.Memory m h g rr rw e =
            ends-memory content may_leave script later disk b a r w k g.running (trace m) (log g.log_full) (part h.0) (last (codes "refused: memory\n") (running-text mid_out g.running h.1) e)
        stops stop.Full m h g rr rw e =
            ends-limit content may_leave script later disk b a r w k g.running (part h.0)
            (inl (record { marked = (m, log g.log_full); full = full m; printed = last (codes "refused: trace\n") (running-text mid_out g.running h.1) e }))
        stops stop.LogFull m h g rr rw e =
            ends-limit content may_leave script later disk b a r w k g.running (part h.0)
            (inr (record { marked = (trace m, g.marked); full = log_full g.marked; printed = last (codes "refused: log\n") (running-text mid_out g.running h.1) e }))
        stops stop.Fault m h g rr rw e = absurd h
        stops stop.UpkeepFault m h g rr rw e = absurd h
        stops stop.Stopped m h g rr rw e = absurd h

        fails : (s : Stop) → LeavesMarks (Err s) v.journal w.journal → FailsReplay faults s number left mid mid_out v w → (s ≡ stop.Write → Rose faults_0 count)
            → EndsWith mid_out written count faults_1 [] (last_line s) → Replayed content may_leave script later disk b a (status_of s) (Kept w)
        fails (stop.Line n) m h rw e = absurd h
        fails stop.Read m h rw e = absurd h
        fails stop.Write m h rw e =
            let lost = h.1 in
            let rose : Rose faults_0 faults_1 = omega (arith, rw refl, le) in
            let commit = to-commit h.0 h.2 in
            let told : r.failed ≡ Some h.0 = committed faults h.0 v w lost in
            ends-write content may_leave script later disk b a r w k (trace m) (log lost.log_full) rose (inl (FollowsPart-to source (Ask h.0 Commit) (whole r) commit, front h.3 e))
            (subst (λ (o : Option ℕ). IfSome o (λ client. FollowsToCommit source client (whole r))) (sym told) commit) (λ _. subst (λ (o : Option ℕ). IsSome o) (sym told) refl)
        fails stop.Memory m h rw e = absurd h
        fails stop.Full m h rw e = absurd h
        fails stop.LogFull m h rw e = absurd h
        fails stop.Fault m h rw e =
            let lost = h.1 in
            let rose : Rose disk_0 (faults w.disk) = omega (arith, disk_le, lost.rose) in
            ends-fault content may_leave script later disk b a r w k (trace m) (log lost.log_full) rose
            (inl (record { client = h.0; faults = faults w.disk; told = lost.told; follows = to-commit h.0 h.2; printed = last (codes "refused: disk\n") h.3 e }))
        fails stop.UpkeepFault m h rw e =
            let lost = h.0 in
            let rose : Rose disk_0 (faults w.disk) = omega (arith, disk_le, lost.rose) in
            ends-fault content may_leave script later disk b a r w k (trace m) (log lost.log_full) rose
            (inr (record { faults = faults w.disk; told = lost.told; follows = to-upkeep h.1; printed = last (codes "refused: disk\n") h.2 e }))
        fails stop.Stopped m h rw e = absurd h

  -- ---- power is lost after it

  -- a line that is taken, whole or as the last one, comes next
  has-line : (on : Bool) (a b : Option (List ℕ)) (line : List ℕ) → MatchBool on (TakesLastLine a b line) (TakesLine a b line) → HasLine a line
  has-line true a b line t = HasLine-last a b line t
  has-line false a b line t = HasLine-whole a b line t

  module _ (n pick : ℕ) (on : Bool) (pending : List ℕ) (left_now mid_out : Option (List ℕ)) (comes : ComesToCrash left (prepend_known pending left_now) n pick on (since_opening number w.journal)) (running : w.failed ≡ None) (text : Appends mid mid_out (text_of w.journal.history.entries)) where
    crash-place : number + n ≡ 1 + (come.lines + n)
    crash-place = omega (arith, come.place)

    crash-ids : ids_at (end_point (whole (extended come.run w))) ≡ ids_at (end_point (since_opening number w.journal))
    crash-ids = ids-joined (whole come.run) (since_opening number w.journal) come.lines then-next

    crash-asks : AsksCrash (ids_at (end_point (whole (extended come.run w)))) (1 + (come.lines + n)) comes.line pick
    crash-asks = subst (λ i. AsksCrash i (1 + (come.lines + n)) comes.line pick) (sym crash-ids) (subst (λ k. AsksCrash (ids_at (end_point (since_opening number w.journal))) k comes.line pick) crash-place comes.asks)

    crash-followed : HasFollowed source comes.mid (come.lines + n) (whole (extended come.run w))
    crash-followed = HasFollowed-joined (whole come.run) (since_opening number w.journal) come.lines then-next source left comes.mid n come.followed comes.before

    crash-printed : Appends before mid_out (text_in (extended come.run w))
    crash-printed = then-printed mid_out (running-text mid_out running text)

    -- the store isn't opened again
    pub all-lost : {S : Type 0} (script later : S) (disk : D) → ReadsAs content object_slots disk cells → (faults : D → ℕ) (now : D) (written : Option (List ℕ)) (reads_0 reads_1 faults_0 count faults_1 disk_0 status : ℕ) → faults_0 ≤ count → disk_0 ≤ faults w.disk
        → StaysShut content may_leave faults w mid_out written count faults_1 status now
        → Replayed content may_leave script later disk (outside source reads_0 before faults_0 disk_0) (outside left_now reads_1 written faults_1 (faults now)) status (Shut now)
    all-lost {S} script later disk reads faults now written reads_0 reads_1 faults_0 count faults_1 disk_0 status le disk_le x =
        subst (λ m. Replayed content may_leave script later disk b a m (Shut now)) (sym x.told) (cases x.refusal x.failed x.printed (λ seven tell. x.only_untold (x.told ∙ seven) tell))
      where
        b : Outside
        b = outside source reads_0 before faults_0 disk_0

        a : Outside
        a = outside left_now reads_1 written faults_1 (faults now)

        r : Run
        r = extended come.run w

        k : AtLoss content may_leave disk now r
        k = record {
          opened = subst (ReadsAs content object_slots disk) (sym come.opened) reads;
          legal = legal-extended content come.run v w come.stands same journal.entries journal.legal;
          exit = λ tell. exit-extended content come.run v w come.stands same journal.entries may_leave now (x.opens tell) tell;
          same_ids = then-ids;
          size = then-size;
        }

        at : (line : List ℕ) → EndsWith mid_out written count faults_1 [] line → EndsAtCrash b a r line
        at line e = record {
          running = then-running running;
          follows = FollowsToCrash-here (whole r) (come.lines + n) pick comes.line crash-asks source comes.mid crash-followed (has-line on comes.mid (prepend_known pending left_now) comes.line comes.taken);
          printed = EndsWith-after before mid_out written faults_0 count faults_1 (text_in r) line le crash-printed e;
        }

        cases : (e : OpenRefusal) → (e ≡ refusal.Disk → Rose (faults w.disk) (faults now)) → EndsWith mid_out written count faults_1 [] (open_refusal_line e) → (status_of_refusal e ≡ 7 → Tell content → ⊥) → Replayed content may_leave script later disk b a (status_of_refusal e) (Shut now)
        cases refusal.Disk f e u =
            let rose : Rose disk_0 (faults now) = let y = f refl in omega (arith, disk_le, y) in
            ends-lost-disk content may_leave script later disk b a r now k rose (at (codes "refused: disk\n") e)
        cases (refusal.Damaged p i) f e u = ends-lost-store content may_leave script later disk b a r now k (refusal.Damaged p i) refl (u refl) (at (open_refusal_line (refusal.Damaged p i)) e)
        cases refusal.NoStore f e u = ends-lost-store content may_leave script later disk b a r now k refusal.NoStore refl (u refl) (at (open_refusal_line refusal.NoStore) e)
        cases (refusal.UnknownVersion i) f e u = ends-lost-store content may_leave script later disk b a r now k (refusal.UnknownVersion i) refl (u refl) (at (open_refusal_line (refusal.UnknownVersion i)) e)
        cases (refusal.Unsound i j) f e u = ends-lost-store content may_leave script later disk b a r now k (refusal.Unsound i j) refl (u refl) (at (open_refusal_line (refusal.Unsound i j)) e)
        cases refusal.Memory f e u = ends-lost-memory content may_leave script later disk b a r now k (at (codes "refused: memory\n") e)
        cases refusal.LogFull f e u = ends-lost-room content may_leave script later disk b a r now k (at (codes "refused: log\n") e)

    -- ---- the store is opened again

    module _ (faults : D → ℕ) (new : LoggedView D) (again : Reopens content may_leave faults w new) where
      again-stands : StandsAt content (reopened (extended come.run w) new) new
      again-stands = stands-again content come.run v w come.stands same journal.entries may_leave faults new running journal.legal again

      again-text : text_in (reopened (extended come.run w) new) ≡ text_in (extended come.run w) ++ reopened_line new
      again-text = text-reopened content come.run v w come.stands same journal.entries may_leave faults new running journal.legal again

      again-printed : (written : Option (List ℕ)) → Appends mid_out written (reopened_line new) → Appends before written (text_in (reopened (extended come.run w) new))
      again-printed written t = subst (Appends before written) (sym again-text) (Appends-trans before mid_out written (text_in (extended come.run w)) (reopened_line new) crash-printed t)

      -- the replay goes on
      pub comes-again : (written : Option (List ℕ)) (next : ℕ) → on ≡ false → next ≡ number + n + 1 → Appends mid_out written (reopened_line new) → ComesTo content may_leave source (prepend_known pending left_now) before written next cells new
      comes-again written next whole_line place t =
          let taken : TakesLine comes.mid (prepend_known pending left_now) comes.line = subst (λ (o : Bool). MatchBool o (TakesLastLine comes.mid (prepend_known pending left_now) comes.line) (TakesLine comes.mid (prepend_known pending left_now) comes.line)) whole_line comes.taken in
          record {
            run = reopened (extended come.run w) new;
            lines = come.lines + n + 1;
            place = omega (arith, place, come.place);
            opened = come.opened;
            size = come.size;
            stands = again-stands;
            journal = again.journal;
            followed = HasFollowed-crashed (whole (extended come.run w)) (come.lines + n) pick comes.line crash-asks source comes.mid (prepend_known pending left_now) new.journal.history.ids new.journal.opening crash-followed taken;
            printed = again-printed written t;
          }

      -- what it follows by then
      again-all : on ≡ true → FollowsAll source left_now (whole (reopened (extended come.run w) new))
      again-all last_line =
          let taken : TakesLastLine comes.mid (prepend_known pending left_now) comes.line = subst (λ (o : Bool). MatchBool o (TakesLastLine comes.mid (prepend_known pending left_now) comes.line) (TakesLine comes.mid (prepend_known pending left_now) comes.line)) last_line comes.taken in
          FollowsAll-crashed (whole (extended come.run w)) (come.lines + n) pick comes.line crash-asks source comes.mid left_now pending new.journal.history.ids new.journal.opening crash-followed taken

      again-part : FollowsPart source (whole (reopened (extended come.run w) new))
      again-part = cases on refl
        where
          cases : (o : Bool) → on ≡ o → FollowsPart source (whole (reopened (extended come.run w) new))
          cases true e = FollowsPart-all source left_now (whole (reopened (extended come.run w) new)) (again-all e)
          cases false e =
              let taken : TakesLine comes.mid (prepend_known pending left_now) comes.line = subst (λ (o : Bool). MatchBool o (TakesLastLine comes.mid (prepend_known pending left_now) comes.line) (TakesLine comes.mid (prepend_known pending left_now) comes.line)) e comes.taken in
              FollowsPart-done source (prepend_known pending left_now) (come.lines + n + 1) (whole (reopened (extended come.run w) new))
              (HasFollowed-crashed (whole (extended come.run w)) (come.lines + n) pick comes.line crash-asks source comes.mid (prepend_known pending left_now) new.journal.history.ids new.journal.opening crash-followed taken)

      module _ {S : Type 0} (script later : S) (disk : D) (reads : ReadsAs content object_slots disk cells) where
        again-end : (b a : Outside) → AtEnd content may_leave disk b a (reopened (extended come.run w) new) new
        again-end b a = record {
          opened = subst (ReadsAs content object_slots disk) (sym come.opened) reads;
          legal = again-stands.legal;
          last = record { events = again-stands.last; failed = sym (none-committed new again.just.running) };
          journal = again.journal;
          exit = exit-standing content (reopened (extended come.run w) new) new again-stands may_leave new.disk again.journal.opens;
          same_ids = λ tell. ap ids_at again-stands.point ∙ sym (again-stands.ids tell);
          size = then-size;
        }

        again-unmarked : StaysUnmarked new
        again-unmarked = record { running = again.just.running; trace = again.just.unmarked; log = again.just.log_unmarked }

        -- it was at the last line
        pub all-done-again : (mid_now written : Option (List ℕ)) (reads_0 reads_1 faults_0 count faults_1 disk_0 disk_1 status : ℕ) → on ≡ true → Appends mid_out mid_now (reopened_line new) → faults_0 ≤ count → EndsScript mid_now written count faults_1 (end_of new.journal.history).state.stored status
            → Replayed content may_leave script later disk (outside source reads_0 before faults_0 disk_0) (outside left_now reads_1 written faults_1 disk_1) status (Kept new)
        all-done-again mid_now written reads_0 reads_1 faults_0 count faults_1 disk_0 disk_1 status last_line t le ends =
            let b = outside source reads_0 before faults_0 disk_0 in
            let a = outside left_now reads_1 written faults_1 disk_1 in
            ends-script content may_leave script later disk b a (reopened (extended come.run w) new) new (again-end b a) mid_now count status again-unmarked refl (again-all last_line) (again-printed mid_now t)
            (sym (ap stored_line (stored-standing content (reopened (extended come.run w) new) new again-stands))) le ends

        -- the sink fails its line
        pub all-unwritten : (written : Option (List ℕ)) (reads_0 reads_1 faults_0 count faults_1 disk_0 disk_1 : ℕ) → faults_0 ≤ count → AppendsFront mid_out written (reopened_line new) → Rose count faults_1
            → Replayed content may_leave script later disk (outside source reads_0 before faults_0 disk_0) (outside left_now reads_1 written faults_1 disk_1) 5 (Kept new)
        all-unwritten written reads_0 reads_1 faults_0 count faults_1 disk_0 disk_1 le t rose_now =
            let b = outside source reads_0 before faults_0 disk_0 in
            let a = outside left_now reads_1 written faults_1 disk_1 in
            let r = reopened (extended come.run w) new in
            let rose : Rose faults_0 faults_1 = omega (arith, le, rose_now) in
            let front = subst (AppendsFront before written) (sym again-text) (AppendsFront-after before mid_out written (text_in (extended come.run w)) (reopened_line new) crash-printed t) in
            ends-write content may_leave script later disk b a r new (again-end b a) again.just.unmarked again.just.log_unmarked rose (inl (again-part, front)) tt (λ some. absurd (no-failure new again.just.running some))

    -- a loss of power stops the replay
    pub all-crashed : {S : Type 0} (script later : S) (disk : D) → ReadsAs content object_slots disk cells → (faults : D → ℕ) (written : Option (List ℕ)) (reads_0 reads_1 faults_0 count faults_1 disk_0 status : ℕ) (ended : Ended D) → faults_0 ≤ count → disk_0 ≤ faults w.disk
        → StopsCrash content may_leave faults w mid_out written count faults_1 status ended
        → Replayed content may_leave script later disk (outside source reads_0 before faults_0 disk_0) (outside left_now reads_1 written faults_1 (faults (disk_in ended))) status ended
    all-crashed script later disk reads faults written reads_0 reads_1 faults_0 count faults_1 disk_0 status ended le disk_le (shut now x) =
        all-lost script later disk reads faults now written reads_0 reads_1 faults_0 count faults_1 disk_0 status le disk_le x
    all-crashed script later disk reads faults written reads_0 reads_1 faults_0 count faults_1 disk_0 status ended le disk_le (unwritten new five again front rose) =
        subst (λ m. Replayed content may_leave script later disk (outside source reads_0 before faults_0 disk_0) (outside left_now reads_1 written faults_1 (faults new.disk)) m (Kept new)) (sym five)
        (all-unwritten faults new again script later disk reads written reads_0 reads_1 faults_0 count faults_1 disk_0 (faults new.disk) le front rose)

    -- the disk's count of faults doesn't fall there
    pub crashed-later : (faults : D → ℕ) (written : Option (List ℕ)) (count faults_1 status : ℕ) (ended : Ended D) → StopsCrash content may_leave faults w mid_out written count faults_1 status ended → faults w.disk ≤ faults (disk_in ended)
    crashed-later faults written count faults_1 status ended (shut now x) = x.later
    crashed-later faults written count faults_1 status ended (unwritten new five again front rose) = again.later
