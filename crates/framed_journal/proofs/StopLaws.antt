-- Where the disk failed a commit before, nothing is done; else calls go on, one after another.
use Rattle.std.proofs.Common.{◌≡◌, Ok, Some, None, refl, sym, subst, ◌∙◌}
use Rattle.std.specs.Prelude.{Option, IfSome, IsErrOf, IsSome}
use Rattle.logged_journal.specs.declared.failed.FailedCall.{FailedCall}
use Rattle.logged_journal.specs.declared.failed.Stopped.{Stopped}
use Rattle.logged_journal.specs.View.{LoggedView}
use Rattle.logged_journal.specs.Calls.{KeepsDisk, GoesOn}

-- nothing at all, or some calls, none of which the disk or the log stopped, and none of which the disk was asked for
pub record HasRun {D : Type 0} (old now : LoggedView D) : Type 0 where
  pub stopped : IsSome old.failed → now ≡ old
  pub failed : now.failed ≡ old.failed
  pub log_full : now.log_full ≡ old.log_full
  pub disk : KeepsDisk old now

pub run-none : {D : Type 0} (v : LoggedView D) → HasRun v v
run-none v = record { stopped = λ s. refl; failed = refl; log_full = refl; disk = record { disk = refl; durable = refl } }

pub disk-more : {D : Type 0} (u v w : LoggedView D) → KeepsDisk u v → KeepsDisk v w → KeepsDisk u w
disk-more u v w a b = record { disk = b.disk ∙ a.disk; durable = b.durable ∙ a.durable }

-- a step that was made wasn't stopped
pub not-stopped : {D T : Type 0} (v : LoggedView D) (x : T) (Q : Type 0) → IfSome v.failed (λ f. IsErrOf {T = T} {E = Stopped} (Ok x) (record { faults = f.faults }) × Q) → v.failed ≡ None
not-stopped {D} {T} v x Q stopped = at_some v.failed stopped
  where
    at_some : (o : Option FailedCall) → IfSome o (λ f. IsErrOf {T = T} {E = Stopped} (Ok x) (record { faults = f.faults }) × Q) → o ≡ None
    at_some None all = refl
    at_some (Some f) all = absurd (let clash = all.0 in cc)

pub run-more : {D : Type 0} (u v w : LoggedView D) → HasRun u v → v.failed ≡ None → GoesOn v w → KeepsDisk v w → HasRun u w
run-more u v w before ran on disk = record {
  stopped = λ s. absurd (let none : u.failed ≡ None = sym before.failed ∙ ran in let clash = subst (λ (o : Option FailedCall). IsSome o) none s in cc);
  failed = on.running ∙ sym ran ∙ before.failed;
  log_full = on.log_full ∙ before.log_full;
  disk = disk-more u v w before.disk disk;
}
