-- Answers of steps of the collector: what they enter, name and count, and what the looks before a step come to.
use Rattle.std.proofs.Common.{◌≡◌, ◌≢◌, ◌⊎◌, ℕ, Bool, true, false, List, [], ◌∷◌, ◌++◌, length, Option, Some, None, Result, Ok, Err, refl, sym, ap, ◌∙◌, subst, inl, arith}
use Rattle.std.specs.Prelude.{is_some, IfOk, IfSome, IsErrOf}
use Rattle.plain_model.specs.declared.calls.Entry.{Entry}
use Rattle.plain_model.specs.declared.calls.Entry.TheVariants.{Hidden, Delete}
use Rattle.std.proofs.lemmas.List.{length-append}
use Rattle.plain_model.specs.History.{IsLegal}
use Rattle.store_model.specs.Core.{Core, Round}
use Rattle.log_record.specs.declared.cell_record.CellRecord.{CellRecord}
use Rattle.core_store.specs.declared.act.Act.{Act}
use Rattle.core_store.specs.declared.act.Act.TheVariants.{Other}
use Rattle.core_store.specs.declared.note.Note.{Note}
use Rattle.core_store.specs.Collects.{entry_of, Collects as CollectsCore}
use Rattle.core_store.specs.declared.collect.Collect.{Collect}
use Rattle.core_store.specs.declared.collect.Collect.TheVariants.{Idle, Did, Deleted, TraceFull, Memory}
use Rattle.core_store.specs.declared.three.HeldFrame.{HeldFrame}
use Rattle.core_store.specs.Frames.{AreOnce, is_held}
use Rattle.core_store.specs.JournalView.{JournalView, cells_of, core_of, with_note}
use Rattle.core_store.specs.Limited.{is_past_limit}
use Rattle.core_store.specs.RoundView.{asked, is_event, left_of}
use Rattle.core_store.specs.Steppings.{OnlyLooks}
use Rattle.framed_journal.specs.Holding.{AreHeldOf}
use Rattle.framed_journal.specs.Steps.{MakesNextEvent}
use Rattle.framed_journal.proofs.CollectLaws.{collects-all, collects-next, fills-log, all_go_on-before, disk-before}
use Rattle.logged_journal.specs.Calls.{KeepsDisk, GoesOn, IsPastLogToCollect, DoesCollect}
use Rattle.logged_journal.specs.declared.collect.CollectRefusal.{CollectRefusal as Refusal}
use Rattle.logged_journal.specs.declared.collect.CollectRefusal.TheVariants as refusal
use Rattle.logged_journal.specs.declared.failed.FailedCall.{FailedCall}
use Rattle.logged_journal.specs.View.{LoggedView, failed_commit, history_of}
use Rattle.latch_table.specs.Account.{Marks}
use Rattle.latch_table.specs.Views.{joined_marks}
use Rattle.latch_table.specs.Holds.{IsAnother}
use Rattle.shared_store.specs.Chronicles.Clients.{speaker_of}
use Rattle.shared_store.specs.Chronicles.View.{notes_of}
use Rattle.shared_store.proofs.Chronicles.Notes.{no-commit, notes-running}
use Rattle.shared_store.specs.Chronicles.Steps.{Flags, GoesOnWith, no_mark, no_page, marks_with}
use Rattle.shared_store.specs.declared.answers.CollectRefusal.{CollectRefusal}
use Rattle.shared_store.specs.declared.answers.CollectRefusal.TheVariants.{Again, Stopped, LogFull}
use Rattle.shared_store.specs.declared.refused.Refused.{Refused}
use Rattle.shared_store.specs.Passes.{Known, AreMarked}
use Rattle.shared_store.specs.Acts.{Acts, Takes}
use Rattle.shared_store.specs.Calls.{GoesOnAs, DoesCollectOn, KeepsNoted, WasNoted, entered_by_collecting, found_by_collecting, marked_by_collecting, refused_by_collecting}
use Rattle.shared_store.specs.Holding.{pairs_of}
use Rattle.shared_store.proofs.Goings.{marked-joined, same-last, truth-some}
use Rattle.shared_store.proofs.Looks.{goes-behind}
use Rattle.shared_store.proofs.Replies.{marked-disk, marked-trace, marked-log}

-- it speaks for nobody
pub collect-speaks : (name : ℕ) (r : Result Collect CollectRefusal) → IfSome (entered_by_collecting r) (λ e. (speaker_of e ≡ None) ⊎ (speaker_of e ≡ Some name))
collect-speaks name (Ok (Did popped left)) = inl refl
collect-speaks name (Ok (Deleted id left)) = inl refl
collect-speaks name (Ok TraceFull) = tt
collect-speaks name (Ok Idle) = tt
collect-speaks name (Ok Memory) = tt
collect-speaks name (Err refusal) = tt

-- the client has a transaction or not as before
pub txn-collect : {slots : ℕ} (v z : Known slots) (r : Result Collect CollectRefusal) (found : Option (ℕ × ℕ)) (had : Bool) → had ≡ v.knowledge.truth → GoesOnAs v z (entered_by_collecting r) found → had ≡ z.knowledge.truth
txn-collect v z (Ok (Did popped left)) found had was g = was ∙ sym (truth-some v z Hidden g.entries)
txn-collect v z (Ok (Deleted id left)) found had was g = was ∙ sym (truth-some v z (Delete id) g.entries)
txn-collect v z (Ok TraceFull) found had was g = let k = g.entries in was ∙ sym k.has
txn-collect v z (Ok Idle) found had was g = let k = g.entries in was ∙ sym k.has
txn-collect v z (Ok Memory) found had was g = let k = g.entries in was ∙ sym k.has
txn-collect v z (Err refusal) found had was g = let k = g.entries in was ∙ sym k.has

pub marked-collect : (x : Refused) (n : ℕ) (a m : Marks) → AreMarked x a → (r : Result Collect CollectRefusal) → AreMarked (refused_by_collecting r x) (joined_marks a (joined_marks m (marks_with (marked_by_collecting r) n)))
marked-collect x n a m h (Ok (Did popped left)) = marked-joined x a (joined_marks m (marks_with (marked_by_collecting (Ok (Did popped left))) n)) h
marked-collect x n a m h (Ok (Deleted id left)) = marked-joined x a (joined_marks m (marks_with (marked_by_collecting (Ok (Deleted id left))) n)) h
marked-collect x n a m h (Ok TraceFull) = marked-trace x n a m h (refused_by_collecting (Ok TraceFull) x).trace
marked-collect x n a m h (Ok Idle) = marked-joined x a (joined_marks m (marks_with (marked_by_collecting (Ok Idle)) n)) h
marked-collect x n a m h (Ok Memory) = marked-joined x a (joined_marks m (marks_with (marked_by_collecting (Ok Memory)) n)) h
marked-collect x n a m h (Err (Stopped faults)) = marked-disk x n a m h (refused_by_collecting (Err (Stopped faults)) x).disk
marked-collect x n a m h (Err LogFull) = marked-log x n a m h (refused_by_collecting (Err LogFull) x).log
marked-collect x n a m h (Err (Again word seat)) = marked-joined x a (joined_marks m (marks_with (marked_by_collecting (Err (Again word seat))) n)) h

-- the disk had failed a call
pub collect-stopped : {D : Type 0} (slots : ℕ) (j : LoggedView D) (f : FailedCall) → j.failed ≡ Some f → IsLegal (history_of j) → WasNoted slots j → DoesCollectOn slots j j (Err (Stopped f.faults))
collect-stopped {D} slots j f failed legal noted = record {
  sound = noted.sound;
  led = noted.led;
  history = noted.history;
  legal = legal;
  stopped = let r : Result Collect CollectRefusal = Err (Stopped f.faults) in subst (λ (o : Option FailedCall). IfSome o (λ x. (r ≡ Err (Stopped x.faults)) × (j ≡ j))) (sym failed) (refl, refl);
  only_stopped = λ n e. ap is_some failed;
  log_full = λ e. absurd (cc);
  next = tt;
  does = tt;
  goes_on = tt;
  untouched = record { disk = refl; durable = refl };
}

-- another hold had a word, when the collector had looked on
pub acts-looked_found : {D : Type 0} (slots : ℕ) (v w : Known slots) (j k : LoggedView D) (held : List (HeldFrame slots)) (word seat : ℕ) → Takes v w (pairs_of held) (Some (word, seat)) → IsAnother v seat → AreOnce held → AreHeldOf k.journal held
    → GoesOnWith slots no_page j k None no_mark → Acts slots v w j k held None no_mark (Some (word, seat))
acts-looked_found slots v w j k held word seat is other once frames look = record {
  first = held;
  view = is;
  another = other;
  pages = refl;
  once = once;
  frames = frames;
  goes_on = record { origin = look.origin; notes = look.notes; marks = look.marks };
  rest = λ e. refl;
}

-- and went on from what it had come to
pub acts-behind : {D : Type 0} (slots : ℕ) (v w : Known slots) (i j k : LoggedView D) (held : List (HeldFrame slots)) (entered : Option Entry) (marked : Flags) (found : Option (ℕ × ℕ)) → GoesOnWith slots no_page i j None no_mark
    → Acts slots v w j k held entered marked found → Acts slots v w i k held entered marked found
acts-behind slots v w i j k held entered marked found look a = record {
  first = a.first;
  view = a.view;
  another = a.another;
  pages = a.pages;
  once = a.once;
  frames = a.frames;
  goes_on = goes-behind slots (is_held a.first) i j k marked look entered a.goes_on;
  rest = a.rest;
}

-- ---- a step of the journal after looks

module _ {D : Type 0} (slots : ℕ) (i j k : LoggedView D) (running : i.failed ≡ None) (same : j ≡ record i { journal = j.journal }) (looks : OnlyLooks slots i.journal j.journal) (noted : WasNoted slots i) (legal : IsLegal (history_of k)) (kept : KeepsDisk j k) where
  none-stopped : (r : Result Collect CollectRefusal) → IfSome i.failed (λ f. (r ≡ Err (Stopped f.faults)) × (k ≡ i))
  none-stopped r = subst (λ (o : Option FailedCall). IfSome o (λ f. (r ≡ Err (Stopped f.faults)) × (k ≡ i))) (sym running) tt

  -- it was made
  pub collect-did : (step : Collect) → (let r : Result Collect Refusal = Ok step in (IsPastLogToCollect j → IsErrOf r refusal.LogFull) × IfOk r (λ s. DoesCollect slots j.journal k.journal s) × IfOk r (λ _. GoesOn j k)) → DoesCollectOn slots i k (Ok step)
  collect-did step did = record {
    sound = noted.sound;
    led = noted.led;
    history = noted.history;
    legal = legal;
    stopped = none-stopped (Ok step);
    only_stopped = λ n e. absurd (cc);
    log_full = λ e. absurd (cc);
    next = collects-next slots i j k (Ok step) same looks did.0 did.1;
    does = collects-all slots i.journal j.journal k.journal (Ok step) looks did.1;
    goes_on = all_go_on-before slots i j k (Ok step) same looks did.2;
    untouched = disk-before i j k same kept;
  }

  -- the log is full
  pub collect-full : (is_past_limit j.journal 1 ≡ false → is_event (cells_of j.journal) (asked j.journal.round) ≡ true) → IsPastLogToCollect j → k ≡ record j { log_full = true } → DoesCollectOn slots i k (Err LogFull)
  collect-full event past marked = record {
    sound = noted.sound;
    led = noted.led;
    history = noted.history;
    legal = legal;
    stopped = none-stopped (Err LogFull);
    only_stopped = λ n e. absurd (cc);
    log_full = λ e. fills-log slots i j k same looks event past marked;
    next = tt;
    does = tt;
    goes_on = tt;
    untouched = disk-before i j k same kept;
  }

-- ---- the note of an event

-- no event of the collector has this act
no-other : (slots : ℕ) (c : Core) (logged : Option CellRecord) (queue : List ℕ) (round : Option Round) → CollectsCore slots c Other logged queue round → ⊥
no-other slots c None queue round h = h
no-other slots c (Some r) queue round h = h

-- nothing is kept besides
pub keeps-more : {A : Type 0} (xs ys : List A) (x : A) → ys ≡ xs → ys ≡ xs ++ x ∷ [] → ⊥
keeps-more xs ys x same more = let long = ap length (sym same ∙ more) ∙ length-append xs (x ∷ []) in absurd (omega (arith, long))

module _ {D : Type 0} (slots : ℕ) (u v : Known slots) (j k : LoggedView D) (x : ℕ × Note) (more : v.knowledge.entries ≡ u.knowledge.entries ++ x ∷ []) where
  event-noted : (step : Collect) → DoesCollectOn slots j k (Ok step) → GoesOn j k → MakesNextEvent slots j.journal k.journal step → (note : Note) → notes_of k ≡ notes_of j ++ note ∷ [] → note.act ≢ Other
  event-noted step d goes made note noted other =
      let before : failed_commit j ≡ None = not-failed j step d.stopped in
      let m = made.event in
      let notes : notes_of k ≡ notes_of j ++ record { entry = entry_of m.logged; logged = m.logged; left = left_of slots k.journal.round; act = m.event } ∷ [] =
      notes-running k (no-commit k goes.running) ∙ (m.noted ∙ ap (λ (ns : List Note). with_note ns (entry_of m.logged) m.logged (left_of slots k.journal.round) m.event) (ap (λ (i : JournalView). i.notes) made.looks.same ∙ sym (notes-running j before))) in
      let same : note ≡ record { entry = entry_of m.logged; logged = m.logged; left = left_of slots k.journal.round; act = m.event } = same-last (notes_of j) note _ (sym noted ∙ notes) in
      let is : m.event ≡ Other = sym (ap (λ (n : Note). n.act) same) ∙ other in
      no-other slots (core_of made.looked) m.logged k.journal.queue (core_of k.journal).round (subst (λ (a : Act). CollectsCore slots (core_of made.looked) a m.logged k.journal.queue (core_of k.journal).round) is m.collects)
    where
      not-failed : (w : LoggedView D) (s : Collect) → IfSome w.failed (λ f. (◌≡◌ {A = Result Collect CollectRefusal} (Ok s) (Err (Stopped f.faults))) × (k ≡ w)) → failed_commit w ≡ None
      not-failed w s h = by w.failed refl h
        where
          by : (o : Option FailedCall) → w.failed ≡ o → IfSome o (λ f. (◌≡◌ {A = Result Collect CollectRefusal} (Ok s) (Err (Stopped f.faults))) × (k ≡ w)) → failed_commit w ≡ None
          by None e h = no-commit w e
          by (Some f) e h = absurd (let clash = h.0 in cc)

  of-kept : (entry : Entry) → KeepsNoted u v j k (Some entry) → (note : Note) × (notes_of k ≡ notes_of j ++ note ∷ []) × (x.1 ≡ note)
  of-kept entry kept = (kept.0, kept.1, ap (λ (y : ℕ × Note). y.1) (same-last u.knowledge.entries x (length (notes_of j), kept.0) (sym more ∙ kept.2)))

  -- what the pass keeps is of an event
  pub collect-act : (r : Result Collect CollectRefusal) (found : Option (ℕ × ℕ)) → GoesOnAs u v (entered_by_collecting r) found → KeepsNoted u v j k (entered_by_collecting r) → (found_by_collecting r ≡ None → DoesCollectOn slots j k r) → x.1.act ≢ Other
  collect-act (Ok (Did popped left)) found g kept made other =
      let d = made refl in
      let n = of-kept Hidden kept in
      event-noted (Did popped left) d d.goes_on (d.does.event tt) n.0 n.1 (ap (λ (y : Note). y.act) (sym n.2) ∙ other)
  collect-act (Ok (Deleted id left)) found g kept made other =
      let d = made refl in
      let n = of-kept (Delete id) kept in
      event-noted (Deleted id left) d d.goes_on (d.does.event tt) n.0 n.1 (ap (λ (y : Note). y.act) (sym n.2) ∙ other)
  collect-act (Ok TraceFull) found g kept made other = keeps-more u.knowledge.entries v.knowledge.entries x g.entries.kept more
  collect-act (Ok Idle) found g kept made other = keeps-more u.knowledge.entries v.knowledge.entries x g.entries.kept more
  collect-act (Ok Memory) found g kept made other = keeps-more u.knowledge.entries v.knowledge.entries x g.entries.kept more
  collect-act (Err refusal) found g kept made other = keeps-more u.knowledge.entries v.knowledge.entries x g.entries.kept more
