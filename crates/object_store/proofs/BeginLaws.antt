-- A transaction begins.
use Rattle.std.proofs.Common.{◌≡◌, ◌≢◌, ℕ, Option, Some, None, refl, subst}
use Rattle.std.specs.Prelude.{IfSome}
use Rattle.plain_model.specs.declared.calls.Call.TheVariants as call
use Rattle.plain_model.specs.declared.calls.Reply.{Reply}
use Rattle.plain_model.specs.declared.calls.Reply.TheVariants as reply
use Rattle.plain_laws.specs.Sound.{IsSoundState}
use Rattle.core_store.specs.Steppings.{IsEntered}
use Rattle.logged_journal.specs.declared.failed.FailedCall.{FailedCall}
use Rattle.logged_journal.specs.View.{LoggedView}
use Rattle.logged_journal.specs.Calls.{IsOfJournal}
use Rattle.object_store.specs.declared.error.StoreError.{StoreError}
use Rattle.object_store.specs.declared.error.StoreError.TheVariants as error
use Rattle.object_store.specs.Seen.{state_of, IsQuiet}
use Rattle.object_store.specs.Calls.{Does, IsShort}
use Rattle.object_store.specs.Ends.{HasBegun, HasNotBegun}
use Rattle.object_store.proofs.AloneLaws.{BeginsTo, begins}
use Rattle.object_store.proofs.AskLaws.{Answers, does_of}

-- a store that doesn't answer that it is stopped is running
pub not_stopped : (o : Option FailedCall) (r : Reply) (Q : Type 0) → IfSome o (λ f. (r ≡ reply.Stopped f.faults) × Q) → ((n : ℕ) → r ≢ reply.Stopped n) → o ≡ None
not_stopped None r Q h n = refl
not_stopped (Some f) r Q h n = absurd (n f.faults h.0)

pub has_begun : {D : Type 0} (v w : LoggedView D) (r : Reply) → Answers call.Begin r v w → IsEntered r → IsOfJournal r → IsSoundState (state_of v) → IsQuiet (state_of v) → HasBegun v w
has_begun v w r a e j sound quiet =
    let d : Does call.Begin r v w = does_of v w call.Begin r a e j in
    let B : BeginsTo (state_of v) (state_of w) r = begins (state_of v) (state_of w) r sound quiet d.machine in
    record {
      does = subst (λ x. Does call.Begin x v w) B.told d;
      live = record { running = d.goes_on.running; alone = B.alone };
      graph = B.graph;
      committed = B.committed;
      registers = B.registers;
    }

pub not_begun : {D : Type 0} (v w : LoggedView D) (why : StoreError) → v.failed ≡ None → w.failed ≡ None → IsShort call.Begin why v w → HasNotBegun why v w
not_begun v w error.Stopped f g s = absurd s.cause
not_begun v w error.NotHeld f g s = (f, g, s)
not_begun v w error.NoSuchSlot f g s = (f, g, s)
not_begun v w error.TooManyReferences f g s = (f, g, s)
not_begun v w error.Full f g s = (f, g, s)
not_begun v w error.Memory f g s = (f, g, s)
not_begun v w error.HistoryFull f g s = (f, g, s)
not_begun v w error.LogFull f g s = (f, g, s)
not_begun v w error.Disk f g s = (f, g, s)
not_begun v w error.Ended f g s = (f, g, s)
