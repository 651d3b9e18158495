-- What is known of a journal after a run of clients.
use Rattle.std.proofs.Common.{◌≡◌, ℕ, ◌+◌, ◌<◌, ◌≤◌, true, false, List, map, Option, Some, None, sym, ap, subst, ◌∙◌, arith}
use Rattle.std.specs.Prelude.{IfSome, IsSome}
use Rattle.plain_model.specs.History.{end_of, is_stopped}
use Rattle.disk_model.specs.declared.area.Area.{Area}
use Rattle.disk_model.specs.Causes.{Rose}
use Rattle.disk_model.specs.Told.{EachImage}
use Rattle.cell_model.specs.Graph.{graph_of}
use Rattle.store_model.specs.Sound.{IsSound}
use Rattle.core_store.specs.declared.marks.Marks.{Marks}
use Rattle.core_store.specs.declared.note.Note.{Note}
use Rattle.core_store.specs.JournalView.{JournalView, core_of, opening_of}
use Rattle.core_store.specs.Leads.{AreLed}
use Rattle.core_store.specs.Limited.{WasFull}
use Rattle.core_store.specs.Safe.{IsDurable}
use Rattle.logged_journal.specs.declared.failed.FailedCall.{FailedCall}
use Rattle.logged_journal.specs.View.{LoggedView, history_of, image_need}
use Rattle.logged_journal.specs.Records.{MayBeLeft, durable_notes}
use Rattle.logged_journal.specs.Opens.{OpensAfter}
use Rattle.brahma_shell.specs.Points.{entries_in}
use Rattle.brahma_shell.specs.Running.{HoldsNow}
use Rattle.script_lines.specs.Numbers.{object_slots}

-- the count rose where the disk failed a call
rose-failed : {D : Type 0} (faults : D → ℕ) (v : LoggedView D) (o : Option FailedCall) → IfSome o (λ f. Rose v.opened f.faults) → IfSome o (λ f. f.faults ≤ faults v.disk) → IsSome o → Rose v.opened (faults v.disk)
rose-failed faults v None a b some = absurd (cc (some))
rose-failed faults v (Some f) a b some = omega (arith, a, b)

-- what each call hands out, put together
pub holds-now : {D : Type 0} (may_leave : D → Area → List ℕ → Type 0) (faults : D → ℕ) (v : LoggedView D) (j : JournalView) (notes : List Note) (marks both : Marks) (failed : Option FailedCall)
    → j ≡ v.journal → v.journal.history.slots ≡ object_slots → graph_of j.opening ≡ j.history.opening → is_stopped (end_of j.history) ≡ false → notes ≡ j.notes → map (λ n. n.entry) notes ≡ j.history.entries → IsSound (core_of j) → AreLed object_slots (opening_of j) j.notes (core_of j)
    → marks ≡ j.marks → (marks.trace ≡ true → WasFull j) → both.log ≡ v.log_full → (both.log ≡ true → v.journal.limits.log < v.peak + image_need object_slots) → IsDurable v.journal (durable_notes v) → EachImage may_leave v.disk (MayBeLeft v) → EachImage may_leave v.disk (OpensAfter object_slots (history_of v))
    → failed ≡ v.failed → IfSome failed (λ f. Rose v.opened f.faults) → IfSome failed (λ f. f.faults ≤ faults v.disk) → v.opened ≤ faults v.disk → HoldsNow may_leave faults v
holds-now may_leave faults v j notes marks both failed is slots graph running told entries sound led marks_are full log log_full lasting images opens failed_is counted now later = record {
  slots = slots;
  opening = subst (λ (x : JournalView). graph_of x.opening ≡ x.history.opening) is graph;
  running = subst (λ (x : JournalView). is_stopped (end_of x.history) ≡ false) is running;
  entries = subst (λ (x : JournalView). entries_in x.notes ≡ x.history.entries) is (ap entries_in (sym told) ∙ entries);
  sound = subst (λ (x : JournalView). IsSound (core_of x)) is sound;
  led = subst (λ (x : JournalView). AreLed object_slots (opening_of x) x.notes (core_of x)) is led;
  full = λ e. subst WasFull is (full (ap (λ (m : Marks). m.trace) marks_are ∙ ap (λ (x : JournalView). x.marks.trace) is ∙ e));
  log_full = λ e. log_full (log ∙ e);
  lasting = lasting;
  images = images;
  opens = opens;
  later = later;
  rose = λ some. rose-failed faults v failed counted now (subst IsSome (sym failed_is) some);
}
