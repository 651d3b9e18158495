-- What calls of a pass do.
use Rattle.std.specs.Prelude.{◌≡◌, ◌≢◌, ◌⊎◌, ◌↔◌, ℕ, ◌+◌, ◌≤◌, Bool, true, false, List, [], ◌∷◌, ◌++◌, length, Option, Some, None, Result, Ok, Err, IfSome, IsSome, IfOk}
use Rattle.std.specs.List.{Contains}
use Rattle.disk_model.specs.declared.area.Area.{Area}
use Rattle.disk_model.specs.Areas.{Bytes}
use Rattle.disk_model.specs.Causes.{Rose}
use Rattle.disk_model.specs.Time.{LeavesOnlyImages}
use Rattle.plain_model.specs.declared.calls.Call.{Call as TransactionCall}
use Rattle.plain_model.specs.declared.calls.Call.TheVariants.{Commit}
use Rattle.plain_model.specs.declared.calls.Reply.{Reply}
use Rattle.plain_model.specs.declared.calls.Reply.TheVariants as reply
use Rattle.plain_model.specs.declared.calls.Entry.{Entry}
use Rattle.plain_model.specs.History.{IsLegal, end_of}
use Rattle.plain_model.specs.Machine.{refusal_of}
use Rattle.store_model.specs.Sound.{IsSound}
use Rattle.core_store.specs.declared.note.Note.{Note}
use Rattle.core_store.specs.declared.abort_step.AbortStep.{AbortStep}
use Rattle.core_store.specs.declared.abort_step.AbortStep.TheVariants.{Ended}
use Rattle.core_store.specs.declared.collect.Collect.{Collect}
use Rattle.core_store.specs.declared.collect.Collect.TheVariants as collect
use Rattle.core_store.specs.JournalView.{core_of, opening_of}
use Rattle.core_store.specs.Leads.{AreLed}
use Rattle.core_store.specs.Limited.{pages_for_call}
use Rattle.logged_journal.specs.declared.upkeep.Upkeep.{Upkeep}
use Rattle.logged_journal.specs.declared.upkeep.Upkeep.TheVariants as upkeep
use Rattle.logged_journal.specs.Opens.{OpensDuring}
use Rattle.logged_journal.specs.View.{KeepsLog, LoggedView, history_of}
use Rattle.logged_journal.specs.Calls.{IsOfJournal, IsGranted, IsPastLog, DoesCall, GoesOn, OnlyForces, FailsCommit, DoesAbortStep, KeepsDisk}
use Rattle.framed_journal.specs.Steps.{CollectsNext, CollectsOnFrames, FillsLog}
use Rattle.latch_table.specs.Views.{KeepMarks, story}
use Rattle.latch_table.specs.Holds.{HasNone, IsAlone, IsAnother}
use Rattle.latch_table.specs.Rule.{IsLater, KeepsEachOnce, LieBelow}
use Rattle.shared_store.specs.Chronicles.Steps.{Flags, entered_by_abort_step, entered_by_call, entered_by_collect_step, marked_by_collect_step, no_mark, disk_mark, log_mark}
use Rattle.shared_store.specs.Chronicles.View.{account, has_transaction, history_after, marks_of, notes_of, origin_of, sizes_of}
use Rattle.shared_store.specs.declared.answers.StepRefusal.{StepRefusal}
use Rattle.shared_store.specs.declared.answers.StepRefusal.TheVariants as step
use Rattle.shared_store.specs.declared.answers.CollectRefusal.{CollectRefusal}
use Rattle.shared_store.specs.declared.answers.CollectRefusal.TheVariants as refusal
use Rattle.shared_store.specs.declared.refused.Refused.{Refused}
use Rattle.shared_store.specs.Passes.{Known, one_more}

-- ---- what a pass knows after a call

-- the pass keeps the entry at a place that isn't below what it had seen; it has seen all up to it, and knows by it whether its
-- client has a transaction
pub record Keeps {slots : ℕ} (old new : Known slots) (entry : Entry) : Type 0 where
  pub note : Note
  pub of_entry : note.entry ≡ entry
  pub before : List Note
  pub later : old.knowledge.seen ≤ length before
  pub kept : new.knowledge.entries ≡ old.knowledge.entries ++ (length before, note) ∷ []
  pub seen : new.knowledge.seen ≡ length before + 1
  pub had : old.knowledge.truth ≡ has_transaction before old.station.name
  pub has : new.knowledge.truth ≡ has_transaction (before ++ note ∷ []) old.station.name

-- nothing was entered
pub record KeepsNone {slots : ℕ} (old new : Known slots) : Type 0 where
  pub kept : new.knowledge.entries ≡ old.knowledge.entries
  pub seen : new.knowledge.seen ≡ old.knowledge.seen
  pub has : new.knowledge.truth ≡ old.knowledge.truth

abbrev pub KeepsIf : {slots : ℕ} → Known slots → Known slots → Option Entry → Type 0
KeepsIf old new (Some entry) = Keeps old new entry
KeepsIf old new None = KeepsNone old new

-- it met this number in a word, if one, after all that it met before, and no other
abbrev pub Meets : {slots : ℕ} → Known slots → Known slots → Option (ℕ × ℕ) → Type 0
Meets old new None = new.knowledge.meets ≡ old.knowledge.meets
Meets old new (Some f) = ((place : ℕ) × LieBelow place old.knowledge.meets × (new.knowledge.meets ≡ old.knowledge.meets ++ (place, f) ∷ [])) × IsAnother old f.1

-- Of a call that entered this entry, if one, and found this number in a word, if one. Between calls a pass has no word
pub record GoesOnAs {slots : ℕ} (old new : Known slots) (entered : Option Entry) (found : Option (ℕ × ℕ)) : Type 0 where
  pub station : new.station ≡ old.station
  pub none : HasNone new
  pub fixed : new.knowledge.fixed ≡ old.knowledge.fixed
  pub peeks : new.knowledge.peeks ≡ old.knowledge.peeks
  pub marks : KeepMarks old.knowledge.marks new.knowledge.marks
  pub entries : KeepsIf old new entered
  pub meets : Meets old new found

-- ---- answers

-- the word and the number that the answer names, if it is that another pass has a word
abbrev pub found_by_call : Reply → Option (ℕ × ℕ)
found_by_call (reply.Again word seat) = Some (word, seat)
found_by_call _ = None

abbrev pub refused_disk : Refused → Refused
refused_disk r = record { disk = one_more r.disk; trace = r.trace; log = r.log }

abbrev pub refused_trace : Refused → Refused
refused_trace r = record { disk = r.disk; trace = one_more r.trace; log = r.log }

abbrev pub refused_log : Refused → Refused
refused_log r = record { disk = r.disk; trace = r.trace; log = one_more r.log }

-- the counts with this answer
abbrev pub refused_by_call : Reply → Refused → Refused
refused_by_call (reply.Stopped faults) r = refused_disk r
refused_by_call reply.DiskFault r = refused_disk r
refused_by_call reply.TraceFull r = refused_trace r
refused_by_call reply.LogFull r = refused_log r
refused_by_call _ r = r

abbrev pub refused_by_upkeep : Upkeep → Refused → Refused
refused_by_upkeep (upkeep.Stopped faults) r = refused_disk r
refused_by_upkeep upkeep.DiskFault r = refused_disk r
refused_by_upkeep upkeep.TraceFull r = refused_trace r
refused_by_upkeep upkeep.LogFull r = refused_log r
refused_by_upkeep _ r = r

-- ---- the journal as a call found it and left it

-- the journal is sound, and as its notes give it, with the history that they give
pub record WasNoted {D : Type 0} (slots : ℕ) (v : LoggedView D) : Type 0 where
  pub sound : IsSound (core_of v.journal)
  pub led : AreLed slots (opening_of v.journal) v.journal.notes (core_of v.journal)
  pub history : history_after slots (origin_of v) (notes_of v) ≡ history_of v

-- The pass keeps the notes and the marks of this journal besides, how long its log is and how many pages want an image in it; by
-- the table's rule those are the store's. Where the disk failed a call before, so is the count of faults that is kept
abbrev pub Finds : {D : Type 0} {slots : ℕ} → Known slots → Known slots → LoggedView D → Type 0
Finds old new before = new.knowledge.stories ≡ old.knowledge.stories ++ story (notes_of before) (marks_of before) (sizes_of before) ∷ []

-- what the pass keeps besides is what the journal noted meanwhile: one note after those that were found, at its place, where an
-- entry was entered, and none else
abbrev pub KeepsNoted : {D : Type 0} {slots : ℕ} → Known slots → Known slots → (before after : LoggedView D) → Option Entry → Type 0
KeepsNoted old new before after (Some entry) =
    (note : Note) × (notes_of after ≡ notes_of before ++ note ∷ []) × (new.knowledge.entries ≡ old.knowledge.entries ++ (length (notes_of before), note) ∷ [])
KeepsNoted old new before after None = notes_of after ≡ notes_of before

-- the journal does the call of this client and answers so
pub record DoesCallOn {D : Type 0} (slots : ℕ) (faults : D → ℕ) (before after : LoggedView D) (client : ℕ) (c : TransactionCall) (result : Reply) : Type 0 where
  pub legal : IsLegal (history_of after)
  pub stopped : IfSome before.failed (λ f. (result ≡ reply.Stopped f.faults) × (after ≡ before))
  pub only_stopped : (n : ℕ) → result ≡ reply.Stopped n → IsSome before.failed
  pub log_full : (result ≡ reply.LogFull) ↔ IsPastLog before client c
  pub log_marked : result ≡ reply.LogFull → after ≡ record before { log_full = true }
  pub does : IsOfJournal result → DoesCall slots before.journal after.journal client c result
  pub goes_on : IsOfJournal result → GoesOn before after
  pub kept : (result ≡ reply.TraceFull) ⊎ (result ≡ reply.Memory) → KeepsLog before after
  -- a commit that was done is there for good, and one that is granted takes no memory; nothing else asks the disk
  pub committed : c ≡ Commit → result ≡ reply.Done → after.durable ≡ length after.journal.notes
  pub commit : c ≡ Commit → refusal_of (end_of before.journal.history).state client Commit ≡ None → result ≢ reply.Memory
  pub untouched : (c ≡ Commit → IsGranted before.journal client Commit → ⊥) → KeepsDisk before after
  pub fault : result ≡ reply.DiskFault → FailsCommit faults before after client c
  pub later : faults before.disk ≤ faults after.disk
  pub count : result ≢ reply.DiskFault → faults after.disk ≡ faults before.disk

-- The call was made on the store's journal as it was found, of which all holds that the pass knew, and this is what the journal
-- did. A pass that is alone keeps each note of it, once. No area of the disk changed but the log's. Where the disk failed no call
-- before, each image that a power loss leaves meanwhile opens
pub record MakesCall (D : Type 0) (slots : ℕ) (content : D → Area → Option (List ℕ)) (may_leave : D → Area → List ℕ → Type 0) (faults : D → ℕ) (moment : D → ℕ) (left_since : D → ℕ → Bytes → Type 0) (old new : Known slots) (c : TransactionCall) (result : Reply) : Type 0 where
  pub before : LoggedView D
  pub after : LoggedView D
  pub later : IsLater (account D slots) old before
  pub covered : IsAlone old → KeepsEachOnce (notes_of before) old.knowledge.entries
  pub found : Finds old new before
  pub noted : WasNoted slots before
  -- the count that a failed call left is above that of the opening
  pub counted : IfSome before.failed (λ f. Rose before.opened f.faults)
  pub kept : KeepsNoted old new before after (entered_by_call old.station.name c result)
  pub made : DoesCallOn slots faults before after old.station.name c result
  pub areas : OnlyForces content may_leave before after c result
  pub opens : before.failed ≡ None → LeavesOnlyImages moment left_since before.disk after.disk (OpensDuring slots before old.station.name c)

-- The page is one that the call needs, made on the store's journal as it was found: that of its object, of what the slot holds, or
-- of what the slot is to hold
pub record NeedsPage (D : Type 0) (slots : ℕ) (old new : Known slots) (c : TransactionCall) (page : ℕ) : Type 0 where
  pub before : LoggedView D
  pub later : IsLater (account D slots) old before
  pub found : Finds old new before
  pub noted : WasNoted slots before
  pub running : before.failed ≡ None
  pub needed : Contains (pages_for_call before.journal old.station.name c) page

-- ---- steps of an abort, steps of the collector

abbrev pub entered_by_step : ℕ → Result AbortStep StepRefusal → Option Entry
entered_by_step client (Ok s) = entered_by_abort_step client (Ok s)
entered_by_step client (Err refusal) = None

abbrev pub marked_by_step : Result AbortStep StepRefusal → Flags
marked_by_step (Err (step.Stopped faults)) = disk_mark
marked_by_step _ = no_mark

abbrev pub found_by_step : Result AbortStep StepRefusal → Option (ℕ × ℕ)
found_by_step (Err (step.Again word seat)) = Some (word, seat)
found_by_step _ = None

abbrev pub refused_by_step : Result AbortStep StepRefusal → Refused → Refused
refused_by_step (Err (step.Stopped faults)) r = refused_disk r
refused_by_step _ r = r

-- whether the client has a transaction after the step, which had one or not before
abbrev pub has_after_step : Result AbortStep StepRefusal → Bool → Bool
has_after_step (Ok Ended) had = false
has_after_step _ had = had

-- the journal makes a step of this client's abort and answers so
pub record DoesStepOn {D : Type 0} (slots : ℕ) (before after : LoggedView D) (client : ℕ) (result : Result AbortStep StepRefusal) : Type 0 where
  pub legal : IsLegal (history_of after)
  pub stopped : IfSome before.failed (λ f. (result ≡ Err (step.Stopped f.faults)) × (after ≡ before))
  pub only_stopped : (n : ℕ) → result ≡ Err (step.Stopped n) → IsSome before.failed
  pub does : IfOk result (λ s. DoesAbortStep slots before.journal after.journal client s)
  pub goes_on : IfOk result (λ _. GoesOn before after)
  pub untouched : KeepsDisk before after

-- The step was made on the store's journal as it was found, of which all holds that the pass knew, and this is what the journal
-- did. A pass that is alone keeps each note of it, once
pub record MakesStep (D : Type 0) (slots : ℕ) (old new : Known slots) (result : Result AbortStep StepRefusal) : Type 0 where
  pub before : LoggedView D
  pub after : LoggedView D
  pub later : IsLater (account D slots) old before
  pub covered : IsAlone old → KeepsEachOnce (notes_of before) old.knowledge.entries
  pub found : Finds old new before
  pub kept : KeepsNoted old new before after (entered_by_step old.station.name result)
  pub made : DoesStepOn slots before after old.station.name result

abbrev pub entered_by_collecting : Result Collect CollectRefusal → Option Entry
entered_by_collecting (Ok s) = entered_by_collect_step (Ok s)
entered_by_collecting (Err refusal) = None

abbrev pub marked_by_collecting : Result Collect CollectRefusal → Flags
marked_by_collecting (Ok s) = marked_by_collect_step (Ok s)
marked_by_collecting (Err (refusal.Stopped faults)) = disk_mark
marked_by_collecting (Err refusal.LogFull) = log_mark
marked_by_collecting (Err (refusal.Again word seat)) = no_mark

abbrev pub found_by_collecting : Result Collect CollectRefusal → Option (ℕ × ℕ)
found_by_collecting (Err (refusal.Again word seat)) = Some (word, seat)
found_by_collecting _ = None

abbrev pub refused_by_collecting : Result Collect CollectRefusal → Refused → Refused
refused_by_collecting (Ok collect.TraceFull) r = refused_trace r
refused_by_collecting (Err (refusal.Stopped faults)) r = refused_disk r
refused_by_collecting (Err refusal.LogFull) r = refused_log r
refused_by_collecting _ r = r

-- the journal makes an event of the collector and answers so; where it is stopped or the log is full it does nothing but looks
pub record DoesCollectOn {D : Type 0} (slots : ℕ) (before after : LoggedView D) (result : Result Collect CollectRefusal) : Type 0 where
  -- what the journal was: sound, and as its notes give it, with the history that they give
  pub sound : IsSound (core_of before.journal)
  pub led : AreLed slots (opening_of before.journal) before.journal.notes (core_of before.journal)
  pub history : history_after slots (origin_of before) (notes_of before) ≡ history_of before
  pub legal : IsLegal (history_of after)
  pub stopped : IfSome before.failed (λ f. (result ≡ Err (refusal.Stopped f.faults)) × (after ≡ before))
  pub only_stopped : (n : ℕ) → result ≡ Err (refusal.Stopped n) → IsSome before.failed
  pub log_full : result ≡ Err refusal.LogFull → FillsLog slots before after
  pub next : IfOk result (λ s. CollectsNext slots before after s)
  pub does : IfOk result (λ s. CollectsOnFrames slots before.journal after.journal s)
  pub goes_on : IfOk result (λ _. GoesOn before after)
  pub untouched : KeepsDisk before after

-- The event was made on the store's journal as it was found, of which all holds that the pass knew, and this is what the journal
-- did. A pass that is alone keeps each note of it, once
pub record MakesCollect (D : Type 0) (slots : ℕ) (old new : Known slots) (result : Result Collect CollectRefusal) : Type 0 where
  pub before : LoggedView D
  pub after : LoggedView D
  pub later : IsLater (account D slots) old before
  pub covered : IsAlone old → KeepsEachOnce (notes_of before) old.knowledge.entries
  pub found : Finds old new before
  pub kept : KeepsNoted old new before after (entered_by_collecting result)
  pub made : DoesCollectOn slots before after result
