-- Answers of a client's call: what they enter, name and count.
use Rattle.std.proofs.Common.{◌≡◌, ◌≢◌, ◌⊎◌, ℕ, Bool, true, false, List, Option, Some, None, refl, sym, ap, ◌∙◌, subst, eq-eqb, inr, ⊎_elim, arith}
use Rattle.std.specs.Option.{option_or}
use Rattle.std.specs.Prelude.{◌↔◌, ◌||◌, if◌then◌else◌, is_some, unwrap_or, IfSome, IsSome}
use Rattle.plain_model.specs.declared.calls.Call.{Call as TransactionCall}
use Rattle.plain_model.specs.declared.calls.Reply.{Reply}
use Rattle.plain_model.specs.declared.calls.Reply.TheVariants as reply
use Rattle.plain_model.specs.declared.calls.Entry.{Entry}
use Rattle.plain_model.specs.declared.calls.Entry.TheVariants.{Call}
use Rattle.plain_model.specs.History.{IsLegal}
use Rattle.core_store.specs.declared.three.HeldFrame.{HeldFrame}
use Rattle.core_store.specs.Frames.{AreOnce}
use Rattle.framed_journal.specs.Holding.{AreHeldOf}
use Rattle.logged_journal.specs.declared.failed.FailedCall.{FailedCall}
use Rattle.logged_journal.specs.View.{LoggedView, history_of}
use Rattle.latch_table.specs.Account.{Marks}
use Rattle.latch_table.specs.Views.{joined_marks}
use Rattle.latch_table.specs.Rule.{HasMet}
use Rattle.latch_table.specs.Holds.{HasNone, IsAnother}
use Rattle.shared_store.specs.Chronicles.Clients.{speaker_of, begins_or_ends, has_after}
use Rattle.shared_store.specs.Chronicles.Steps.{disk_mark, trace_mark, log_mark, marks_with, entered_by_call, marked_by_call}
use Rattle.shared_store.specs.declared.refused.Refused.{Refused}
use Rattle.shared_store.specs.Passes.{Known, AreMarked}
use Rattle.shared_store.specs.Acts.{Acts, IsToDrop, Takes}
use Rattle.shared_store.specs.Calls.{GoesOnAs, DoesCallOn, found_by_call, refused_by_call}
use Rattle.shared_store.specs.Holding.{HasJournal, pairs_of}
use Rattle.shared_store.proofs.Acting.{acts-found, to-drop}
use Rattle.shared_store.proofs.Goings.{found-log, marked-joined, or-left, some-left, truth-some}

pub not-found : (r : Reply) → ((word seat : ℕ) → r ≢ reply.Again word seat) → found_by_call r ≡ None
not-found reply.Done n = refl
not-found (reply.Id id) n = refl
not-found (reply.Pay value) n = refl
not-found (reply.Again word seat) n = absurd (n word seat refl)
not-found (reply.Stopped faults) n = refl
not-found reply.TraceFull n = refl
not-found reply.Memory n = refl
not-found reply.NoTxn n = refl
not-found reply.HasTxn n = refl
not-found reply.Aborting n = refl
not-found (reply.EmptyRegister reg) n = refl
not-found reply.NotShared n = refl
not-found (reply.Busy client) n = refl
not-found reply.Full n = refl
not-found reply.LogFull n = refl
not-found reply.DiskFault n = refl

-- what is entered is the call with its answer
entered-is : (client : ℕ) (c : TransactionCall) (r : Reply) → IfSome (entered_by_call client c r) (λ e. e ≡ Call client c r)
entered-is client c reply.Done = refl
entered-is client c (reply.Id id) = refl
entered-is client c (reply.Pay value) = refl
entered-is client c (reply.Again word seat) = tt
entered-is client c (reply.Stopped faults) = tt
entered-is client c reply.TraceFull = tt
entered-is client c reply.Memory = tt
entered-is client c reply.NoTxn = refl
entered-is client c reply.HasTxn = refl
entered-is client c reply.Aborting = refl
entered-is client c (reply.EmptyRegister reg) = refl
entered-is client c reply.NotShared = refl
entered-is client c (reply.Busy other) = refl
entered-is client c reply.Full = refl
entered-is client c reply.LogFull = tt
entered-is client c reply.DiskFault = refl

speaks-by : (client : ℕ) (c : TransactionCall) (r : Reply) (o : Option Entry) → IfSome o (λ e. e ≡ Call client c r) → IfSome o (λ e. (speaker_of e ≡ None) ⊎ (speaker_of e ≡ Some client))
speaks-by client c r None is = tt
speaks-by client c r (Some e) is = inr (ap speaker_of is)

-- it speaks for the client
pub call-speaks : (client : ℕ) (c : TransactionCall) (r : Reply) → IfSome (entered_by_call client c r) (λ e. (speaker_of e ≡ None) ⊎ (speaker_of e ≡ Some client))
call-speaks client c r = speaks-by client c r (entered_by_call client c r) (entered-is client c r)

txn-by : {slots : ℕ} (v z : Known slots) (client : ℕ) (c : TransactionCall) (r : Reply) (o : Option Entry) (found : Option (ℕ × ℕ)) (b had res : Bool) → client ≡ v.station.name → had ≡ v.knowledge.truth → IfSome o (λ e. e ≡ Call client c r) → ((b ≡ true) ↔ IsSome o)
    → (b ≡ true → res ≡ unwrap_or (begins_or_ends c r) had) → (b ≡ false → res ≡ had) → GoesOnAs v z o found → res ≡ z.knowledge.truth
txn-by v z client c r None found true had res own was is iff some none g = absurd (let s = iff.0 refl in cc)
txn-by v z client c r None found false had res own was is iff some none g = let k = g.entries in none refl ∙ (was ∙ sym k.has)
txn-by v z client c r (Some e) found false had res own was is iff some none g = absurd (let s = iff.1 refl in cc)
txn-by v z client c r (Some e) found true had res own was is iff some none g =
    some refl
    ∙ (ap (λ (b : Bool). if b then unwrap_or (begins_or_ends c r) had else had) (sym (eq-eqb client v.station.name own))
    ∙ (ap (λ (h : Bool). has_after v.station.name h (Call client c r)) was
    ∙ (ap (has_after v.station.name v.knowledge.truth) (sym is)
    ∙ sym (truth-some v z e g.entries))))

-- whether the client has a transaction
pub txn-after : {slots : ℕ} (v z : Known slots) (client : ℕ) (c : TransactionCall) (r : Reply) (found : Option (ℕ × ℕ)) (b had res : Bool) → client ≡ v.station.name → had ≡ v.knowledge.truth → ((b ≡ true) ↔ IsSome (entered_by_call client c r))
    → (b ≡ true → res ≡ unwrap_or (begins_or_ends c r) had) → (b ≡ false → res ≡ had) → GoesOnAs v z (entered_by_call client c r) found → res ≡ z.knowledge.truth
txn-after v z client c r found b had res own was iff some none g = txn-by v z client c r (entered_by_call client c r) found b had res own was (entered-is client c r) iff some none g

-- ---- the counts are marked

or-last : (a b : Bool) → (a || (b || true)) ≡ true
or-last true b = refl
or-last false true = refl
or-last false false = refl

some-last : (a b : Option ℕ) (n : ℕ) → IsSome (option_or a (option_or b (Some n)))
some-last (Some k) b n = refl
some-last None (Some k) n = refl
some-last None None n = refl

module _ (x : Refused) (n : ℕ) (a m : Marks) (h : AreMarked x a) where
  pub marked-disk : (d : ℕ) → AreMarked (record { disk = d; trace = x.trace; log = x.log }) (joined_marks a (joined_marks m (marks_with disk_mark n)))
  marked-disk d = record { disk = λ p. some-last a.0 m.0 n; trace = λ p. or-left a.1 (m.1 || false) (h.trace p); log = λ p. or-left a.2 (m.2 || false) (h.log p) }

  pub marked-trace : (d : ℕ) → AreMarked (record { disk = x.disk; trace = d; log = x.log }) (joined_marks a (joined_marks m (marks_with trace_mark n)))
  marked-trace d = record { disk = λ p. some-left a.0 (option_or m.0 None) (h.disk p); trace = λ p. or-last a.1 m.1; log = λ p. or-left a.2 (m.2 || false) (h.log p) }

  pub marked-log : (d : ℕ) → AreMarked (record { disk = x.disk; trace = x.trace; log = d }) (joined_marks a (joined_marks m (marks_with log_mark n)))
  marked-log d = record { disk = λ p. some-left a.0 (option_or m.0 None) (h.disk p); trace = λ p. or-left a.1 (m.1 || false) (h.trace p); log = λ p. or-last a.2 m.2 }

  pub marked-call : (r : Reply) → AreMarked (refused_by_call r x) (joined_marks a (joined_marks m (marks_with (marked_by_call r) n)))
  marked-call (reply.Stopped faults) = marked-disk (refused_by_call (reply.Stopped faults) x).disk
  marked-call reply.DiskFault = marked-disk (refused_by_call reply.DiskFault x).disk
  marked-call reply.TraceFull = marked-trace (refused_by_call reply.TraceFull x).trace
  marked-call reply.LogFull = marked-log (refused_by_call reply.LogFull x).log
  marked-call reply.Done = marked-joined x a (joined_marks m (marks_with (marked_by_call reply.Done) n)) h
  marked-call (reply.Id id) = marked-joined x a (joined_marks m (marks_with (marked_by_call (reply.Id id)) n)) h
  marked-call (reply.Pay value) = marked-joined x a (joined_marks m (marks_with (marked_by_call (reply.Pay value)) n)) h
  marked-call (reply.Again word seat) = marked-joined x a (joined_marks m (marks_with (marked_by_call (reply.Again word seat)) n)) h
  marked-call reply.Memory = marked-joined x a (joined_marks m (marks_with (marked_by_call reply.Memory) n)) h
  marked-call reply.NoTxn = marked-joined x a (joined_marks m (marks_with (marked_by_call reply.NoTxn) n)) h
  marked-call reply.HasTxn = marked-joined x a (joined_marks m (marks_with (marked_by_call reply.HasTxn) n)) h
  marked-call reply.Aborting = marked-joined x a (joined_marks m (marks_with (marked_by_call reply.Aborting) n)) h
  marked-call (reply.EmptyRegister reg) = marked-joined x a (joined_marks m (marks_with (marked_by_call (reply.EmptyRegister reg)) n)) h
  marked-call reply.NotShared = marked-joined x a (joined_marks m (marks_with (marked_by_call reply.NotShared) n)) h
  marked-call (reply.Busy client) = marked-joined x a (joined_marks m (marks_with (marked_by_call (reply.Busy client)) n)) h
  marked-call reply.Full = marked-joined x a (joined_marks m (marks_with (marked_by_call reply.Full) n)) h

-- ---- the disk had failed a call

pub does-stopped : {D : Type 0} (slots : ℕ) (faults : D → ℕ) (j : LoggedView D) (client : ℕ) (c : TransactionCall) (f : FailedCall) → j.failed ≡ Some f → IsLegal (history_of j) → DoesCallOn slots faults j j client c (reply.Stopped f.faults)
does-stopped {D} slots faults j client c f failed legal = record {
  legal = legal;
  stopped = subst (λ (o : Option FailedCall). IfSome o (λ x. (reply.Stopped f.faults ≡ reply.Stopped x.faults) × (j ≡ j))) (sym failed) (refl, refl);
  only_stopped = λ n e. ap is_some failed;
  log_full = (λ e. absurd (cc), λ p. absurd (let r = p.running in let q = sym failed ∙ r in cc));
  log_marked = λ e. absurd (cc);
  does = λ e. absurd e;
  goes_on = λ e. absurd e;
  kept = λ either. absurd (⊎_elim (λ e. cc) (λ e. cc) either);
  committed = λ e d. absurd (cc);
  commit = λ e granted d. cc;
  untouched = λ never. record { disk = refl; durable = refl };
  fault = λ e. absurd (cc);
  later = omega arith;
  count = λ other. refl;
}

-- ---- another pass had a word

module _ (client : ℕ) (c : TransactionCall) (r : Reply) (word seat : ℕ) (again : r ≡ reply.Again word seat) where
  pub again-acts : {D : Type 0} (slots : ℕ) (v w : Known slots) (j : LoggedView D) (held : List (HeldFrame slots)) → Takes v w (pairs_of held) (Some (word, seat)) → IsAnother v seat → AreOnce held → AreHeldOf j.journal held
      → Acts slots v w j j held (entered_by_call client c r) (marked_by_call r) (found_by_call r)
  again-acts slots v w j held is other once frames =
      subst (λ (x : Reply). Acts slots v w j j held (entered_by_call client c x) (marked_by_call x) (found_by_call x)) (sym again) (acts-found slots v w j held word seat is other once frames)

  pub again-goes : {slots : ℕ} (v z : Known slots) → HasNone v → HasMet v z word seat → IsAnother v seat → GoesOnAs v z (entered_by_call client c r) (found_by_call r)
  again-goes v z none e other = subst (λ (x : Reply). GoesOnAs v z (entered_by_call client c x) (found_by_call x)) (sym again) (found-log v z word seat none e other)

  pub again-refused : (x : Refused) → x ≡ refused_by_call r x
  again-refused x = sym (ap (λ (y : Reply). refused_by_call y x) again)

  pub again-found : found_by_call r ≡ None → ⊥
  again-found none = let some : found_by_call r ≡ Some (word, seat) = ap found_by_call again in absurd (cc)

-- ---- what is given back after the call

pub call-drop : {D : Type 0} (slots pages : ℕ) (v w : Known slots) (j k : LoggedView D) (held : List (HeldFrame slots)) (client : ℕ) (c : TransactionCall) (r : Reply) (b : Bool) → client ≡ v.station.name → HasJournal slots pages v j
    → Acts slots v w j k held (entered_by_call client c r) (marked_by_call r) (found_by_call r) → ((b ≡ true) ↔ IsSome (entered_by_call client c r)) → IsToDrop slots pages w k held b
call-drop slots pages v w j k held client c r b own has acts iff =
    to-drop slots pages v w j k held (marked_by_call r) (found_by_call r) has (entered_by_call client c r) b acts iff
    (subst (λ (n : ℕ). IfSome (entered_by_call client c r) (λ e. (speaker_of e ≡ None) ⊎ (speaker_of e ≡ Some n))) own (call-speaks client c r))
