-- How a run goes on, from one opening of the store to the next.
use Rattle.std.proofs.Common.{◌≡◌, ⊎_elim, inl, inr, ℕ, ◌+◌, List, [], ◌∷◌, ◌++◌, map, Option, Some, None, append_assoc, length, refl, sym, ap, subst, ◌∙◌}
use Rattle.std.specs.Option.{option_map_or}
use Rattle.std.specs.Io.KnownBytes.{Appends}
use Rattle.std.proofs.lemmas.List.{append-nil, map-append}
use Rattle.std.proofs.lemmas.List.Sums.{fold-append}
use Rattle.plain_model.specs.declared.calls.Call.TheVariants.{Commit}
use Rattle.plain_model.specs.declared.calls.Reply.TheVariants.{DiskFault}
use Rattle.plain_model.specs.declared.calls.Entry.{Entry}
use Rattle.plain_model.specs.declared.calls.Entry.TheVariants.{Call, Crash}
use Rattle.plain_model.specs.History.{History, Moment, IsLegal, IsLegalFrom, IsCrashConsistent, end_of, moment_after, next, opening_moment, start_of, with_entry}
use Rattle.plain_model.specs.Text.{text_of, line_of}
use Rattle.plain_model.proofs.StepLaws.{end_of-ids, end_of-slots}
use Rattle.plain_model.proofs.HistoryLemmas.{IsLegal-with_entry, end_of-with_entry}
use Rattle.cell_model.specs.Cells.{Cell}
use Rattle.cell_model.specs.Graph.{graph_of}
use Rattle.disk_model.specs.declared.area.Area.{Area}
use Rattle.disk_model.specs.Told.{EachImage}
use Rattle.core_store.specs.declared.note.Note.{Note}
use Rattle.core_store.specs.Opening.{opened_history}
use Rattle.logged_journal.specs.View.{LoggedView, failed_commit, history_of}
use Rattle.logged_journal.specs.Opens.{OpensAfter}
use Rattle.brahma_shell.specs.Points.{Point, start_point, start_with, entries_in}
use Rattle.brahma_shell.specs.Runs.{Event, Noted, Reopened, entry_of, noted, after_event, after_events, Run, run_history, whole, since_opening, IsSinceOpening, IsLastOf}
use Rattle.brahma_shell.specs.Growth.{IsSameStart}
use Rattle.brahma_shell.specs.Top.{Tell, IsJustOpened, text_in, stored_at_end}
use Rattle.brahma_shell.specs.Crashes.{Reopens, reopened_line}
use Rattle.brahma_shell.proofs.FollowLemmas.{text_of-append, after_events-append, after-noted}
use Rattle.brahma_shell.proofs.GrowthLemmas.{start_point-same}
use Rattle.brahma_shell.proofs.LogLemmas.{history-running, none-committed}
use Rattle.brahma_shell.proofs.PointLemmas.{moment_of_point}
use Rattle.brahma_shell.proofs.JoinLemmas.{IsNextOf}
use Rattle.script_lines.specs.Numbers.{object_slots}

-- ---- runs

-- the run of a store that is just opened
abbrev pub first_run : {D : Type 0} → LoggedView D → Run
first_run v = record { opening = v.journal.opening; ids = v.journal.history.ids; events = []; failed = None }

-- the run, and after it what the journal has noted
abbrev pub extended : {D : Type 0} → Run → LoggedView D → Run
extended r v = record { opening = r.opening; ids = r.ids; events = r.events ++ noted v.journal.notes; failed = failed_commit v }

-- the run, and after it the store opened again
abbrev pub reopened : {D : Type 0} → Run → LoggedView D → Run
reopened r v = record { opening = r.opening; ids = r.ids; events = r.events ++ Reopened v.journal.history.ids v.journal.opening ∷ []; failed = None }

-- the store is just opened, at the end of this run; where the disk tells what it reads, the history of the run comes there
pub record StandsAt {D : Type 0} (content : D → Area → Option (List ℕ)) (r : Run) (v : LoggedView D) : Type 0 where
  pub just : IsJustOpened v
  pub running : r.failed ≡ None
  pub last : IsSinceOpening r v.journal
  pub point : after_events (start_with (opened_history object_slots r.ids r.opening) r.opening) r.events ≡ start_point v.journal
  pub ids : Tell content → r.ids ≡ v.journal.history.ids
  pub moment : Tell content → end_of (run_history r) ≡ start_of v.journal.history
  pub legal : Tell content → IsLegal (run_history r)

-- ---- histories

-- the history of a run without its failed commit
abbrev pub plain_history : Run → History
plain_history r = record (opened_history object_slots r.ids r.opening) { entries = map entry_of r.events }

pub run-running : (r : Run) → r.failed ≡ None → run_history r ≡ plain_history r
run-running r e = ap (λ (o : Option ℕ). option_map_or (λ client. with_entry (plain_history r) (Call client Commit DiskFault)) o (plain_history r)) e

-- it begins with the opening
run-start : (r : Run) → start_of (run_history r) ≡ opening_moment r.ids object_slots (graph_of r.opening)
run-start r = cases r.failed
  where
    cases : (o : Option ℕ) → start_of (option_map_or (λ client. with_entry (plain_history r) (Call client Commit DiskFault)) o (plain_history r)) ≡ opening_moment r.ids object_slots (graph_of r.opening)
    cases None = refl
    cases (Some client) = refl

pub run-ids : (r : Run) → (run_history r).ids ≡ r.ids
run-ids r = cases r.failed
  where
    cases : (o : Option ℕ) → (option_map_or (λ client. with_entry (plain_history r) (Call client Commit DiskFault)) o (plain_history r)).ids ≡ r.ids
    cases None = refl
    cases (Some client) = refl

run-slots : (r : Run) → (run_history r).slots ≡ object_slots
run-slots r = cases r.failed
  where
    cases : (o : Option ℕ) → (option_map_or (λ client. with_entry (plain_history r) (Call client Commit DiskFault)) o (plain_history r)).slots ≡ object_slots
    cases None = refl
    cases (Some client) = refl

-- a failed commit leaves how the history begins
history-start : {D : Type 0} (v : LoggedView D) → start_of (history_of v) ≡ start_of v.journal.history
history-start v = cases (failed_commit v)
  where
    cases : (o : Option ℕ) → start_of (option_map_or (λ client. with_entry v.journal.history (Call client Commit DiskFault)) o v.journal.history) ≡ start_of v.journal.history
    cases None = refl
    cases (Some client) = refl

pub history-size : {D : Type 0} (v : LoggedView D) → (history_of v).ids ≡ v.journal.history.ids
history-size v = cases (failed_commit v)
  where
    cases : (o : Option ℕ) → (option_map_or (λ client. with_entry v.journal.history (Call client Commit DiskFault)) o v.journal.history).ids ≡ v.journal.history.ids
    cases None = refl
    cases (Some client) = refl

-- the entries of the events of notes
noted-entries : (notes : List Note) → map entry_of (noted notes) ≡ entries_in notes
noted-entries [] = refl
noted-entries (n ∷ ns) = ap (λ (es : List Entry). n.entry ∷ es) (noted-entries ns)

-- what is legal, and what is legal after it
IsLegalFrom-append : (m : Moment) (es fs : List Entry) → IsLegalFrom m es → IsLegalFrom (moment_after m es) fs → IsLegalFrom m (es ++ fs)
IsLegalFrom-append m [] fs h g = g
IsLegalFrom-append m (e ∷ es) fs h g = (h.0, IsLegalFrom-append (next m e) es fs h.1 g)

-- the points of a run keep how many slots an object has
slots-after : (p : Point) (es : List Event) → (after_events p es).slots ≡ p.slots
slots-after p [] = refl
slots-after p (Noted n ∷ es) = slots-after (after_event p (Noted n)) es
slots-after p (Reopened ids cells ∷ es) = slots-after (after_event p (Reopened ids cells)) es

-- the history of a store that is just opened
pub opened-as : {D : Type 0} (v : LoggedView D) → IsJustOpened v → v.journal.history ≡ opened_history object_slots v.journal.history.ids v.journal.opening
opened-as v just = just.store.history ∙ ap (λ (es : List Entry). record (opened_history object_slots v.journal.history.ids v.journal.opening) { entries = es }) just.entries

-- ---- the first opening

pub stands-first : {D : Type 0} (content : D → Area → Option (List ℕ)) (v : LoggedView D) → IsJustOpened v → StandsAt content (first_run v) v
stands-first content v just =
    let history = sym (opened-as v just) in
    record {
      just = just;
      running = refl;
      last = inl (refl, refl, ap noted (sym just.notes));
      point = ap (λ (h : History). start_with h v.journal.opening) history;
      ids = λ _. refl;
      moment = λ _. ap start_of history;
      legal = λ _. tt;
    }

-- ---- what the journal notes after it

module _ {D : Type 0} (content : D → Area → Option (List ℕ)) (r : Run) (v w : LoggedView D) (stands : StandsAt content r v) (same : IsSameStart v.journal w.journal) (entries : entries_in w.journal.notes ≡ w.journal.history.entries) where
  same-ids : w.journal.history.ids ≡ v.journal.history.ids
  same-ids = ap (λ (h : History). h.ids) same.history

  same-begin : start_of w.journal.history ≡ start_of v.journal.history
  same-begin = ap start_of same.history

  pub last-extended : IsLastOf (extended r w) w
  last-extended = record {
    events = ⊎_elim
        (λ h. inl (h.0 ∙ sym same.opening, h.1 ∙ sym same-ids, ap (λ (es : List Event). es ++ noted w.journal.notes) (h.2 ∙ ap noted stands.just.notes)))
        (λ h. inr (
          h.0,
          ap (λ (es : List Event). es ++ noted w.journal.notes) (h.1 ∙ ap (λ (ns : List Note). h.0 ++ Reopened v.journal.history.ids v.journal.opening ∷ noted ns) stands.just.notes)
              ∙ append_assoc h.0 (Reopened v.journal.history.ids v.journal.opening ∷ []) (noted w.journal.notes)
              ∙ ap (λ (i : ℕ). h.0 ++ Reopened i v.journal.opening ∷ noted w.journal.notes) (sym same-ids)
              ∙ ap (λ (cs : List Cell). h.0 ++ Reopened w.journal.history.ids cs ∷ noted w.journal.notes) (sym same.opening),
        ))
        stands.last;
    failed = refl;
  }

  pub next-of : (number n : ℕ) → number ≡ 1 + n → IsNextOf (whole r) (since_opening number w.journal) n
  next-of number n e = record {
    point = stands.point ∙ sym (start_point-same v.journal w.journal w.journal.history.entries same.history same.opening);
    place = sym e;
  }

  -- its entries
  plain-entries : map entry_of (r.events ++ noted w.journal.notes) ≡ (run_history r).entries ++ w.journal.history.entries
  plain-entries =
      map-append entry_of r.events (noted w.journal.notes)
      ∙ ap (λ (es : List Entry). map entry_of r.events ++ es) (noted-entries w.journal.notes ∙ entries)
      ∙ ap (λ (h : History). h.entries ++ w.journal.history.entries) (sym (run-running r stands.running))

  pub entries-extended : (run_history (extended r w)).entries ≡ (run_history r).entries ++ (history_of w).entries
  entries-extended = cases (failed_commit w)
    where
      h : History
      h = record (opened_history object_slots r.ids r.opening) { entries = map entry_of (r.events ++ noted w.journal.notes) }

      cases : (o : Option ℕ) → (option_map_or (λ client. with_entry h (Call client Commit DiskFault)) o h).entries ≡ (run_history r).entries ++ (option_map_or (λ client. with_entry w.journal.history (Call client Commit DiskFault)) o w.journal.history).entries
      cases None = plain-entries
      cases (Some client) =
          ap (λ (es : List Entry). es ++ Call client Commit DiskFault ∷ []) plain-entries
          ∙ append_assoc (run_history r).entries w.journal.history.entries (Call client Commit DiskFault ∷ [])

  pub text-extended : text_in (extended r w) ≡ text_in r ++ text_of (history_of w).entries
  text-extended = ap text_of entries-extended ∙ text_of-append (run_history r).entries (history_of w).entries

  pub printed-extended : (before mid written : Option (List ℕ)) (text : List ℕ) → text ≡ text_in r ++ text_of (history_of w).entries → Appends before written text → Appends before written (text_in (extended r w))
  printed-extended before mid written text e a = subst (Appends before written) (e ∙ sym text-extended) a

  -- where it comes to
  pub end-extended : Tell content → end_of (run_history (extended r w)) ≡ end_of (history_of w)
  end-extended tell =
      let start : start_of (run_history (extended r w)) ≡ start_of (run_history r) = run-start (extended r w) ∙ sym (run-start r) in
      let here : end_of (run_history r) ≡ start_of (history_of w) = stands.moment tell ∙ sym same-begin ∙ sym (history-start w) in
      ap (λ (m : Moment). moment_after m (run_history (extended r w)).entries) start
      ∙ ap (moment_after (start_of (run_history r))) entries-extended
      ∙ fold-append next (start_of (run_history r)) (run_history r).entries (history_of w).entries
      ∙ ap (λ (m : Moment). moment_after m (history_of w).entries) here

  pub legal-extended : IsLegal (history_of w) → Tell content → IsLegal (run_history (extended r w))
  legal-extended legal tell =
      let start : start_of (run_history (extended r w)) ≡ start_of (run_history r) = run-start (extended r w) ∙ sym (run-start r) in
      let here : end_of (run_history r) ≡ start_of (history_of w) = stands.moment tell ∙ sym same-begin ∙ sym (history-start w) in
      let behind : IsLegalFrom (end_of (run_history r)) (history_of w).entries = subst (λ (m : Moment). IsLegalFrom m (history_of w).entries) (sym here) legal in
      let both : IsLegalFrom (start_of (run_history r)) ((run_history r).entries ++ (history_of w).entries) = IsLegalFrom-append (start_of (run_history r)) (run_history r).entries (history_of w).entries (stands.legal tell) behind in
      subst (λ (m : Moment). IsLegalFrom m (run_history (extended r w)).entries) (sym start) (subst (IsLegalFrom (start_of (run_history r))) (sym entries-extended) both)

  -- how many ids it has
  pub ids-extended : Tell content → (run_history (extended r w)).ids ≡ (history_of w).ids
  ids-extended tell = run-ids (extended r w) ∙ stands.ids tell ∙ sym same-ids ∙ sym (history-size w)

  pub stored-extended : stored_at_end (extended r w) ≡ (end_of w.journal.history).state.stored
  stored-extended =
      let point = stands.point ∙ sym (start_point-same v.journal w.journal w.journal.history.entries same.history same.opening) in
      ap (λ (p : Point). p.moment.state.stored)
      (after_events-append (whole r).start r.events (noted w.journal.notes)
      ∙ ap (λ (p : Point). after_events p (noted w.journal.notes)) point
      ∙ after-noted (start_point w.journal) w.journal.notes)
      ∙ ap (λ (m : Moment). m.state.stored) (moment_of_point w.journal entries)

  pub exit-extended : (may_leave : D → Area → List ℕ → Type 0) (disk : D) → EachImage may_leave disk (OpensAfter object_slots (history_of w)) → Tell content → EachImage may_leave disk (OpensAfter object_slots (run_history (extended r w)))
  exit-extended may_leave disk opens tell image is =
      let after = opens image is in
      record {
        cells = after.cells;
        opened = after.opened;
        size = subst (λ n. length after.cells ≡ n + 1) (sym (ids-extended tell)) after.size;
        graph = subst (λ (m : Moment). IsCrashConsistent m (graph_of after.cells)) (sym (end-extended tell)) after.graph;
      }

  -- ---- power is lost, and the store is opened again

  module _ (may_leave : D → Area → List ℕ → Type 0) (faults : D → ℕ) (new : LoggedView D) (running : w.failed ≡ None) (legal : IsLegal (history_of w)) (again : Reopens content may_leave faults w new) where
    now : Run
    now = extended r w

    now-running : (extended r w).failed ≡ None
    now-running = none-committed w running

    entries-reopened : (run_history (reopened (extended r w) new)).entries ≡ (run_history (extended r w)).entries ++ Crash (graph_of new.journal.opening) ∷ []
    entries-reopened =
        map-append entry_of (extended r w).events (Reopened new.journal.history.ids new.journal.opening ∷ [])
        ∙ ap (λ (h : History). h.entries ++ Crash (graph_of new.journal.opening) ∷ []) (sym (run-running (extended r w) now-running))

    -- its history has one entry more
    history-reopened : run_history (reopened (extended r w) new) ≡ with_entry (run_history (extended r w)) (Crash (graph_of new.journal.opening))
    history-reopened =
        ap (λ (es : List Entry). record (opened_history object_slots r.ids r.opening) { entries = es }) (map-append entry_of (extended r w).events (Reopened new.journal.history.ids new.journal.opening ∷ []))
        ∙ ap (λ (h : History). with_entry h (Crash (graph_of new.journal.opening))) (sym (run-running (extended r w) now-running))

    pub text-reopened : text_in (reopened (extended r w) new) ≡ text_in (extended r w) ++ reopened_line new
    text-reopened =
        ap text_of entries-reopened
        ∙ text_of-append (run_history (extended r w)).entries (Crash (graph_of new.journal.opening) ∷ [])
        ∙ ap (λ (xs : List ℕ). text_in (extended r w) ++ xs) (append-nil (line_of (Crash (graph_of new.journal.opening))))

    moment-reopened : Tell content → end_of (run_history (reopened (extended r w) new)) ≡ start_of new.journal.history
    moment-reopened tell =
        let m = end_of (run_history (extended r w)) in
        let ids : m.state.ids ≡ new.journal.history.ids = end_of-ids (run_history (extended r w)) ∙ run-ids (extended r w) ∙ stands.ids tell ∙ sym same-ids ∙ sym (again.same_ids tell) in
        let slots : m.state.slots ≡ object_slots = end_of-slots (run_history (extended r w)) ∙ run-slots (extended r w) in
        ap end_of history-reopened
        ∙ end_of-with_entry (run_history (extended r w)) (Crash (graph_of new.journal.opening))
        ∙ ap (λ (i : ℕ). opening_moment i m.state.slots (graph_of new.journal.opening)) ids
        ∙ ap (λ (i : ℕ). opening_moment new.journal.history.ids i (graph_of new.journal.opening)) slots
        ∙ ap start_of (sym (opened-as new again.just))

    point-reopened : after_events (start_with (opened_history object_slots r.ids r.opening) r.opening) (reopened (extended r w) new).events ≡ start_point new.journal
    point-reopened =
        let p = start_with (opened_history object_slots r.ids r.opening) r.opening in
        after_events-append p (extended r w).events (Reopened new.journal.history.ids new.journal.opening ∷ [])
        ∙ ap (λ (n : ℕ). start_with (opened_history n new.journal.history.ids new.journal.opening) new.journal.opening) (slots-after p (extended r w).events)
        ∙ ap (λ (h : History). start_with h new.journal.opening) (sym (opened-as new again.just))

    pub stands-again : StandsAt content (reopened (extended r w) new) new
    stands-again = record {
      just = again.just;
      running = refl;
      last = inr ((extended r w).events, ap (λ (ns : List Note). (extended r w).events ++ Reopened new.journal.history.ids new.journal.opening ∷ noted ns) (sym again.just.notes));
      point = point-reopened;
      ids = λ tell. stands.ids tell ∙ sym same-ids ∙ sym (again.same_ids tell);
      moment = moment-reopened;
      legal = λ tell.
          let safe = subst (λ (m : Moment). IsCrashConsistent m (graph_of new.journal.opening)) (sym (end-extended tell)) (again.safe tell) in
          subst IsLegal (sym history-reopened) (IsLegal-with_entry (run_history (extended r w)) (Crash (graph_of new.journal.opening)) (legal-extended legal tell) safe);
    }

-- ---- a store that is just opened, at the end of a run

module _ {D : Type 0} (content : D → Area → Option (List ℕ)) (r : Run) (v : LoggedView D) (stands : StandsAt content r v) where
  -- nothing has happened in it
  end-standing : end_of v.journal.history ≡ start_of v.journal.history
  end-standing = ap (moment_after (start_of v.journal.history)) stands.just.entries

  pub exit-standing : (may_leave : D → Area → List ℕ → Type 0) (disk : D) → EachImage may_leave disk (OpensAfter object_slots (history_of v)) → Tell content → EachImage may_leave disk (OpensAfter object_slots (run_history r))
  exit-standing may_leave disk opens tell image is =
      let after = opens image is in
      let same : end_of (history_of v) ≡ end_of (run_history r) = ap end_of (history-running v stands.just.running) ∙ end-standing ∙ sym (stands.moment tell) in
      record {
        cells = after.cells;
        opened = after.opened;
        size = subst (λ n. length after.cells ≡ n + 1) (history-size v ∙ sym (run-ids r ∙ stands.ids tell)) after.size;
        graph = subst (λ (m : Moment). IsCrashConsistent m (graph_of after.cells)) same after.graph;
      }

  pub stored-standing : stored_at_end r ≡ (end_of v.journal.history).state.stored
  stored-standing = ap (λ (p : Point). p.moment.state.stored) stands.point ∙ sym (ap (λ (m : Moment). m.state.stored) end-standing)
