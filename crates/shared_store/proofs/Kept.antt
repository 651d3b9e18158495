-- Answers of upkeep: what they enter, name and count, and what the hold has after it.
use Rattle.std.proofs.Common.{◌≡◌, ◌⊎◌, ℕ, Bool, List, [], ◌∷◌, Option, Some, None, Result, Ok, Err, refl, sym, ap, ◌∙◌, inl}
use Rattle.std.specs.Prelude.{IfSome}
use Rattle.plain_model.specs.declared.calls.Entry.{Entry}
use Rattle.plain_model.specs.declared.calls.Entry.TheVariants.{Hidden, TurnBusy}
use Rattle.core_store.specs.declared.frame.Frame.{Frame}
use Rattle.core_store.specs.declared.three.HeldFrame.{HeldFrame}
use Rattle.logged_journal.specs.declared.upkeep.Upkeep.{Upkeep}
use Rattle.logged_journal.specs.declared.upkeep.Upkeep.TheVariants as upkeep
use Rattle.logged_journal.specs.View.{LoggedView}
use Rattle.latch_table.specs.Account.{Marks}
use Rattle.latch_table.specs.declared.hold.Held.{Held}
use Rattle.latch_table.specs.Views.{joined_marks, page_claimed, page_dropped, with_claims, without}
use Rattle.latch_table.specs.Holds.{IsAnother}
use Rattle.latch_table.proofs.Frames.{if_same}
use Rattle.shared_store.specs.Chronicles.Clients.{speaker_of}
use Rattle.shared_store.specs.Chronicles.Steps.{Flags, GoesOnWith, no_mark, no_page, marks_with}
use Rattle.shared_store.specs.declared.refused.Refused.{Refused}
use Rattle.shared_store.specs.Passes.{Known, AreMarked}
use Rattle.shared_store.specs.Acts.{Acts, Takes}
use Rattle.shared_store.proofs.Meetings.{met_if, as-met}
use Rattle.shared_store.specs.Calls.{GoesOnAs}
use Rattle.shared_store.specs.Holding.{pairs_of, with_pages}
use Rattle.shared_store.specs.Upkeep.{entered_by_upkeep_of, marked_by_upkeep_of, refused_by_upkeep_of}
use Rattle.shared_store.proofs.Goings.{marked-joined, truth-some}
use Rattle.shared_store.proofs.Replies.{marked-disk, marked-trace, marked-log}

-- it speaks for nobody
pub upkeep-speaks : (name : ℕ) (r : Result Upkeep Held) → IfSome (entered_by_upkeep_of r) (λ e. (speaker_of e ≡ None) ⊎ (speaker_of e ≡ Some name))
upkeep-speaks name (Ok upkeep.Done) = inl refl
upkeep-speaks name (Ok (upkeep.Busy client)) = inl refl
upkeep-speaks name (Ok (upkeep.Stopped faults)) = tt
upkeep-speaks name (Ok upkeep.TraceFull) = tt
upkeep-speaks name (Ok upkeep.LogFull) = tt
upkeep-speaks name (Ok upkeep.Memory) = tt
upkeep-speaks name (Ok upkeep.DiskFault) = tt
upkeep-speaks name (Err h) = tt

-- the client has a transaction or not as before
pub txn-upkeep : {slots : ℕ} (v z : Known slots) (r : Result Upkeep Held) (found : Option (ℕ × ℕ)) (had : Bool) → had ≡ v.knowledge.truth → GoesOnAs v z (entered_by_upkeep_of r) found → had ≡ z.knowledge.truth
txn-upkeep v z (Ok upkeep.Done) found had was g = was ∙ sym (truth-some v z Hidden g.entries)
txn-upkeep v z (Ok (upkeep.Busy client)) found had was g = was ∙ sym (truth-some v z (TurnBusy client) g.entries)
txn-upkeep v z (Ok (upkeep.Stopped faults)) found had was g = let k = g.entries in was ∙ sym k.has
txn-upkeep v z (Ok upkeep.TraceFull) found had was g = let k = g.entries in was ∙ sym k.has
txn-upkeep v z (Ok upkeep.LogFull) found had was g = let k = g.entries in was ∙ sym k.has
txn-upkeep v z (Ok upkeep.Memory) found had was g = let k = g.entries in was ∙ sym k.has
txn-upkeep v z (Ok upkeep.DiskFault) found had was g = let k = g.entries in was ∙ sym k.has
txn-upkeep v z (Err h) found had was g = let k = g.entries in was ∙ sym k.has

pub marked-upkeep : (x : Refused) (n : ℕ) (a m : Marks) → AreMarked x a → (r : Result Upkeep Held) → AreMarked (refused_by_upkeep_of r x) (joined_marks a (joined_marks m (marks_with (marked_by_upkeep_of r) n)))
marked-upkeep x n a m h (Ok upkeep.Done) = marked-joined x a (joined_marks m (marks_with no_mark n)) h
marked-upkeep x n a m h (Ok (upkeep.Busy client)) = marked-joined x a (joined_marks m (marks_with no_mark n)) h
marked-upkeep x n a m h (Ok (upkeep.Stopped faults)) = marked-disk x n a m h (refused_by_upkeep_of (Ok (upkeep.Stopped faults)) x).disk
marked-upkeep x n a m h (Ok upkeep.TraceFull) = marked-trace x n a m h (refused_by_upkeep_of (Ok upkeep.TraceFull) x).trace
marked-upkeep x n a m h (Ok upkeep.LogFull) = marked-log x n a m h (refused_by_upkeep_of (Ok upkeep.LogFull) x).log
marked-upkeep x n a m h (Ok upkeep.Memory) = marked-joined x a (joined_marks m (marks_with no_mark n)) h
marked-upkeep x n a m h (Ok upkeep.DiskFault) = marked-disk x n a m h (refused_by_upkeep_of (Ok upkeep.DiskFault) x).disk
marked-upkeep x n a m h (Err held) = marked-joined x a (joined_marks m (marks_with no_mark n)) h

-- no page is in hand after it
pub acts-none : {D : Type 0} (slots : ℕ) (v w : Known slots) (j k : LoggedView D) (entered : Option Entry) (marked : Flags) (found : Option (ℕ × ℕ)) → Takes v w [] found → IfSome found (λ f. IsAnother v f.1) → GoesOnWith slots no_page j k entered marked
    → Acts slots v w j k [] entered marked found
acts-none slots v w j k entered marked found is other goes = record {
  first = [];
  view = is;
  another = other;
  pages = refl;
  once = tt;
  frames = record { agree = tt; within = tt };
  goes_on = record { origin = goes.origin; notes = goes.notes; marks = goes.marks };
  rest = λ e. refl;
}

-- a page was claimed and dropped
pub dropped-alone : {slots : ℕ} (v w z : Known slots) (page : ℕ) (frame : Frame slots) → v.hands.pages ≡ [] → w ≡ page_claimed v page frame → z ≡ page_dropped w page → Takes v z [] None
dropped-alone {slots} v w z page frame none claimed dropped = (
  (Some page, v.station.number) ∷ [],
  dropped
      ∙ (ap (λ (x : Known slots). page_dropped x page) claimed
      ∙ ap (with_pages (with_claims v ((Some page, v.station.number) ∷ []))) (if_same page page (without v.hands.pages page) ((page, frame) ∷ without v.hands.pages page) refl ∙ ap (λ (ps : List (ℕ × Frame slots)). without ps page) none)),
)

-- what was seen stays while a call works
seen-met : {slots : ℕ} (v : Known slots) (place : ℕ) (found : Option (ℕ × ℕ)) → (met_if v place found).knowledge.seen ≡ v.knowledge.seen
seen-met v place None = refl
seen-met v place (Some f) = refl

pub act-seen : {D : Type 0} (slots : ℕ) (v w : Known slots) (j k : LoggedView D) (held : List (HeldFrame slots)) (entered : Option Entry) (marked : Flags) (found : Option (ℕ × ℕ)) → Acts slots v w j k held entered marked found → w.knowledge.seen ≡ v.knowledge.seen
act-seen slots v w j k held entered marked found a = let u : Known slots = with_pages (with_claims v a.view.0) (pairs_of a.first) in let m = as-met u w found a.view.1 in ap (λ (z : Known slots). z.knowledge.seen) m.1 ∙ seen-met u m.0 found
