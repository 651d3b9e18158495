-- The store keeps its size, whatever a call of the journal with its log answers.
use Rattle.std.proofs.Common.{◌≡◌, ℕ, true, Ok, Err, Some, None, refl, ap}
use Rattle.std.specs.Prelude.{Option, Result, IfOk, IfErr, IfSome, IsErrOf, IsSome}
use Rattle.plain_model.specs.declared.calls.Call.{Call as TransactionCall}
use Rattle.plain_model.specs.declared.calls.Call.TheVariants.{Abort}
use Rattle.plain_model.specs.declared.calls.Entry.TheVariants.{Call, Undo}
use Rattle.plain_model.specs.declared.calls.Reply.{Reply}
use Rattle.plain_model.specs.declared.calls.Reply.TheVariants as reply
use Rattle.core_store.specs.declared.abort_step.AbortStep.{AbortStep}
use Rattle.core_store.specs.declared.abort_step.AbortStep.TheVariants.{Undone, Ended}
use Rattle.core_store.specs.declared.collect.Collect.{Collect}
use Rattle.core_store.specs.declared.collect.Collect.TheVariants as collect
use Rattle.core_store.specs.Collects.{entry_of}
use Rattle.core_store.specs.JournalView.{JournalView}
use Rattle.core_store.specs.Steppings.{IsEntered}
use Rattle.logged_journal.specs.declared.collect.CollectRefusal.{CollectRefusal}
use Rattle.logged_journal.specs.declared.collect.CollectRefusal.TheVariants as refusal
use Rattle.logged_journal.specs.declared.failed.FailedCall.{FailedCall}
use Rattle.logged_journal.specs.declared.failed.Stopped.{Stopped}
use Rattle.logged_journal.specs.View.{LoggedView}
use Rattle.logged_journal.specs.Calls.{IsOfJournal, DoesCall, DoesAbortStep, DoesCollect}
use Rattle.framed_journal.proofs.HoldLaws.{IsSameSize, size-kept, size-marked, size-more}

-- where the disk failed a commit before, nothing changed
pub stopped-same : {D : Type 0} (old new : LoggedView D) (P : FailedCall → Type 0) (Q : Type 0) → IfSome old.failed (λ f. P f × (new ≡ old) × Q) → IsSome old.failed → new.journal ≡ old.journal
stopped-same {D} old new P Q stopped some = at_some old.failed stopped some
  where
    at_some : (o : Option FailedCall) → IfSome o (λ f. P f × (new ≡ old) × Q) → IsSome o → new.journal ≡ old.journal
    at_some None all some = absurd (cc)
    at_some (Some f) all some = ap (λ (v : LoggedView D). v.journal) all.1

-- nor where it is told that the log is full
pub marked-same : {D : Type 0} (old new : LoggedView D) → new ≡ record old { log_full = true } → new.journal ≡ old.journal
marked-same {D} old new e = ap (λ (v : LoggedView D). v.journal) e

-- a reply of the journal adds one entry, and else no entry
size-after_reply : (slots : ℕ) (j k : JournalView) (pass : ℕ) (c : TransactionCall) (r : Reply) → IsEntered r → DoesCall slots j k pass c r → IsSameSize j k
size-after_reply slots j k pass c r entered does = size-more j k (Call pass c r) (does.entry entered)

pub size-after_call : {D : Type 0} (slots : ℕ) (old new : LoggedView D) (pass : ℕ) (c : TransactionCall) (r : Reply) → ((faults : ℕ) → r ≡ reply.Stopped faults → new.journal ≡ old.journal) → (r ≡ reply.LogFull → new.journal ≡ old.journal) → (r ≡ reply.DiskFault → new.journal ≡ old.journal)
    → (IsOfJournal r → DoesCall slots old.journal new.journal pass c r) → IsSameSize old.journal new.journal
size-after_call slots old new pass c (reply.Stopped faults) stopped full fault does = size-kept old.journal new.journal (stopped faults refl)
size-after_call slots old new pass c reply.LogFull stopped full fault does = size-kept old.journal new.journal (full refl)
size-after_call slots old new pass c reply.DiskFault stopped full fault does = size-kept old.journal new.journal (fault refl)
size-after_call slots old new pass c reply.Memory stopped full fault does = size-kept old.journal new.journal ((does tt).memory refl)
size-after_call slots old new pass c reply.TraceFull stopped full fault does = size-marked old.journal new.journal ((does tt).marked refl)
size-after_call slots old new pass c reply.Done stopped full fault does = size-after_reply slots old.journal new.journal pass c reply.Done (λ e. absurd cc, λ e. absurd cc) (does tt)
size-after_call slots old new pass c (reply.Id id) stopped full fault does = size-after_reply slots old.journal new.journal pass c (reply.Id id) (λ e. absurd cc, λ e. absurd cc) (does tt)
size-after_call slots old new pass c (reply.Pay value) stopped full fault does = size-after_reply slots old.journal new.journal pass c (reply.Pay value) (λ e. absurd cc, λ e. absurd cc) (does tt)
size-after_call slots old new pass c (reply.Again word seat) stopped full fault does = size-after_reply slots old.journal new.journal pass c (reply.Again word seat) (λ e. absurd cc, λ e. absurd cc) (does tt)
size-after_call slots old new pass c reply.NoTxn stopped full fault does = size-after_reply slots old.journal new.journal pass c reply.NoTxn (λ e. absurd cc, λ e. absurd cc) (does tt)
size-after_call slots old new pass c reply.HasTxn stopped full fault does = size-after_reply slots old.journal new.journal pass c reply.HasTxn (λ e. absurd cc, λ e. absurd cc) (does tt)
size-after_call slots old new pass c reply.Aborting stopped full fault does = size-after_reply slots old.journal new.journal pass c reply.Aborting (λ e. absurd cc, λ e. absurd cc) (does tt)
size-after_call slots old new pass c (reply.EmptyRegister reg) stopped full fault does = size-after_reply slots old.journal new.journal pass c (reply.EmptyRegister reg) (λ e. absurd cc, λ e. absurd cc) (does tt)
size-after_call slots old new pass c reply.NotShared stopped full fault does = size-after_reply slots old.journal new.journal pass c reply.NotShared (λ e. absurd cc, λ e. absurd cc) (does tt)
size-after_call slots old new pass c (reply.Busy other) stopped full fault does = size-after_reply slots old.journal new.journal pass c (reply.Busy other) (λ e. absurd cc, λ e. absurd cc) (does tt)
size-after_call slots old new pass c reply.Full stopped full fault does = size-after_reply slots old.journal new.journal pass c reply.Full (λ e. absurd cc, λ e. absurd cc) (does tt)

-- a step of an abort adds one entry
pub size-after_step : {D : Type 0} (slots : ℕ) (old new : LoggedView D) (pass : ℕ) (r : Result AbortStep Stopped) → IfErr r (λ _. IsSome old.failed) → (IsSome old.failed → new.journal ≡ old.journal) → IfOk r (λ step. DoesAbortStep slots old.journal new.journal pass step) → IsSameSize old.journal new.journal
size-after_step slots old new pass (Err e) only stopped does = size-kept old.journal new.journal (stopped only)
size-after_step slots old new pass (Ok Undone) only stopped does = size-more old.journal new.journal (Undo pass) (does.undone refl).1
size-after_step slots old new pass (Ok Ended) only stopped does = size-more old.journal new.journal (Call pass Abort reply.Done) (does.ended refl).1

-- a step of the collector adds one entry at most
pub size-after_collect : {D : Type 0} (slots : ℕ) (old new : LoggedView D) (r : Result Collect CollectRefusal) → ((faults : ℕ) → IsErrOf r (refusal.Stopped faults) → new.journal ≡ old.journal) → (IsErrOf r refusal.LogFull → new.journal ≡ old.journal)
    → IfOk r (λ step. DoesCollect slots old.journal new.journal step) → IsSameSize old.journal new.journal
size-after_collect slots old new (Err (refusal.Stopped faults)) stopped full does = size-kept old.journal new.journal (stopped faults refl)
size-after_collect slots old new (Err refusal.LogFull) stopped full does = size-kept old.journal new.journal (full refl)
size-after_collect slots old new (Ok collect.Idle) stopped full does = size-kept old.journal new.journal (does.unchanged refl)
size-after_collect slots old new (Ok (collect.Did popped left)) stopped full does = let m = does.event tt in size-more old.journal new.journal (entry_of m.logged) m.entry
size-after_collect slots old new (Ok (collect.Deleted id left)) stopped full does = let m = does.event tt in size-more old.journal new.journal (entry_of m.logged) m.entry
size-after_collect slots old new (Ok collect.TraceFull) stopped full does = size-marked old.journal new.journal (does.marked refl)
size-after_collect slots old new (Ok collect.Memory) stopped full does = size-kept old.journal new.journal (does.memory refl)
