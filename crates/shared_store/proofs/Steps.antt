-- Answers of steps of an abort: what they enter, name and count.
use Rattle.std.proofs.Common.{◌≡◌, ◌⊎◌, ℕ, Bool, true, false, List, Option, Some, None, Result, Ok, Err, refl, sym, ap, ◌∙◌, subst, eq-eqb, inr}
use Rattle.std.specs.Prelude.{◌↔◌, if◌then◌else◌, is_some, IfSome, IsSome}
use Rattle.plain_model.specs.declared.calls.Call.TheVariants.{Abort}
use Rattle.plain_model.specs.declared.calls.Reply.TheVariants.{Done}
use Rattle.plain_model.specs.declared.calls.Entry.TheVariants.{Call, Undo}
use Rattle.plain_model.specs.History.{IsLegal}
use Rattle.core_store.specs.declared.abort_step.AbortStep.{AbortStep}
use Rattle.core_store.specs.declared.abort_step.AbortStep.TheVariants.{Undone, Ended}
use Rattle.core_store.specs.declared.three.HeldFrame.{HeldFrame}
use Rattle.core_store.specs.Frames.{AreOnce}
use Rattle.framed_journal.specs.Holding.{AreHeldOf}
use Rattle.logged_journal.specs.declared.failed.FailedCall.{FailedCall}
use Rattle.logged_journal.specs.View.{LoggedView, history_of}
use Rattle.latch_table.specs.Account.{Marks}
use Rattle.latch_table.specs.Views.{joined_marks}
use Rattle.latch_table.specs.Rule.{HasMet}
use Rattle.latch_table.specs.Holds.{HasNone, IsAnother}
use Rattle.shared_store.specs.Chronicles.Clients.{speaker_of}
use Rattle.shared_store.specs.Chronicles.Steps.{marks_with}
use Rattle.shared_store.specs.declared.answers.StepRefusal.{StepRefusal}
use Rattle.shared_store.specs.declared.answers.StepRefusal.TheVariants.{Again, Stopped}
use Rattle.shared_store.specs.declared.refused.Refused.{Refused}
use Rattle.shared_store.specs.Passes.{Known, AreMarked}
use Rattle.shared_store.specs.Acts.{Acts, IsToDrop, Takes}
use Rattle.shared_store.specs.Calls.{GoesOnAs, DoesStepOn, entered_by_step, marked_by_step, found_by_step, refused_by_step, has_after_step}
use Rattle.shared_store.specs.Holding.{HasJournal, pairs_of}
use Rattle.shared_store.proofs.Acting.{acts-found, to-drop}
use Rattle.shared_store.proofs.Goings.{found-log, marked-joined, truth-some}
use Rattle.shared_store.proofs.Replies.{marked-disk}

-- it speaks for the client
pub step-speaks : (client : ℕ) (r : Result AbortStep StepRefusal) → IfSome (entered_by_step client r) (λ e. (speaker_of e ≡ None) ⊎ (speaker_of e ≡ Some client))
step-speaks client (Ok Undone) = inr refl
step-speaks client (Ok Ended) = inr refl
step-speaks client (Err refusal) = tt

-- whether the client has a transaction
pub txn-step : {slots : ℕ} (v z : Known slots) (client : ℕ) (r : Result AbortStep StepRefusal) (found : Option (ℕ × ℕ)) (had res : Bool) → client ≡ v.station.name → had ≡ v.knowledge.truth → res ≡ has_after_step r had → GoesOnAs v z (entered_by_step client r) found
    → res ≡ z.knowledge.truth
txn-step v z client (Ok Undone) found had res own was is g = is ∙ (was ∙ sym (truth-some v z (Undo client) g.entries))
txn-step v z client (Ok Ended) found had res own was is g =
    is
    ∙ (ap (λ (b : Bool). if b then false else v.knowledge.truth) (sym (eq-eqb client v.station.name own))
    ∙ sym (truth-some v z (Call client Abort Done) g.entries))
txn-step v z client (Err refusal) found had res own was is g = let k = g.entries in is ∙ (was ∙ sym k.has)

pub marked-step : (x : Refused) (n : ℕ) (a m : Marks) → AreMarked x a → (r : Result AbortStep StepRefusal) → AreMarked (refused_by_step r x) (joined_marks a (joined_marks m (marks_with (marked_by_step r) n)))
marked-step x n a m h (Ok s) = marked-joined x a (joined_marks m (marks_with (marked_by_step (Ok s)) n)) h
marked-step x n a m h (Err (Stopped faults)) = marked-disk x n a m h (refused_by_step (Err (Stopped faults)) x).disk
marked-step x n a m h (Err (Again word seat)) = marked-joined x a (joined_marks m (marks_with (marked_by_step (Err (Again word seat))) n)) h

-- the disk had failed a call
pub step-stopped : {D : Type 0} (slots : ℕ) (j : LoggedView D) (client : ℕ) (f : FailedCall) → j.failed ≡ Some f → IsLegal (history_of j) → DoesStepOn slots j j client (Err (Stopped f.faults))
step-stopped {D} slots j client f failed legal = record {
  legal = legal;
  stopped = subst (λ (o : Option FailedCall). IfSome o (λ x. (◌≡◌ {A = Result AbortStep StepRefusal} (Err (Stopped f.faults)) (Err (Stopped x.faults))) × (j ≡ j))) (sym failed) (refl, refl);
  only_stopped = λ n e. ap is_some failed;
  does = tt;
  goes_on = tt;
  untouched = record { disk = refl; durable = refl };
}

-- ---- another pass had a word

module _ (client : ℕ) (r : StepRefusal) (word seat : ℕ) (again : r ≡ Again word seat) where
  pub again-step : {D : Type 0} (slots : ℕ) (v w : Known slots) (j : LoggedView D) (held : List (HeldFrame slots)) → Takes v w (pairs_of held) (Some (word, seat)) → IsAnother v seat → AreOnce held → AreHeldOf j.journal held
      → Acts slots v w j j held (entered_by_step client (Err r)) (marked_by_step (Err r)) (found_by_step (Err r))
  again-step slots v w j held is other once frames =
      subst (λ (x : StepRefusal). Acts slots v w j j held (entered_by_step client (Err x)) (marked_by_step (Err x)) (found_by_step (Err x))) (sym again) (acts-found slots v w j held word seat is other once frames)

  pub again-stepped : {slots : ℕ} (v z : Known slots) → HasNone v → HasMet v z word seat → IsAnother v seat → GoesOnAs v z (entered_by_step client (Err r)) (found_by_step (Err r))
  again-stepped v z none e other = subst (λ (x : StepRefusal). GoesOnAs v z (entered_by_step client (Err x)) (found_by_step (Err x))) (sym again) (found-log v z word seat none e other)

  pub again-unrefused : (x : Refused) → x ≡ refused_by_step (Err r) x
  again-unrefused x = sym (ap (λ (y : StepRefusal). refused_by_step (Err y) x) again)

  pub again-met : found_by_step (Err r) ≡ None → ⊥
  again-met none = let some : found_by_step (Err r) ≡ Some (word, seat) = ap (λ (y : StepRefusal). found_by_step (Err y)) again in absurd (cc)

-- ---- what is given back after the step

pub step-drop : {D : Type 0} (slots pages : ℕ) (v w : Known slots) (j k : LoggedView D) (held : List (HeldFrame slots)) (client : ℕ) (r : Result AbortStep StepRefusal) (b : Bool) → client ≡ v.station.name → HasJournal slots pages v j
    → Acts slots v w j k held (entered_by_step client r) (marked_by_step r) (found_by_step r) → ((b ≡ true) ↔ IsSome (entered_by_step client r)) → IsToDrop slots pages w k held b
step-drop slots pages v w j k held client r b own has acts iff =
    to-drop slots pages v w j k held (marked_by_step r) (found_by_step r) has (entered_by_step client r) b acts iff
    (subst (λ (n : ℕ). IfSome (entered_by_step client r) (λ e. (speaker_of e ≡ None) ⊎ (speaker_of e ≡ Some n))) own (step-speaks client r))
