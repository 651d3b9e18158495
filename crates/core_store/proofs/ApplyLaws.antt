-- A journal after a call.
use Rattle.std.proofs.Common.{◌≡◌, ℕ, ◌+◌, ◌≤◌, false, List, sym, ap, ◌∙◌, subst, Option, None}
use Rattle.plain_model.specs.declared.calls.Call.{Call as TransactionCall}
use Rattle.plain_model.specs.declared.calls.Call.TheVariants.{Abort}
use Rattle.plain_model.specs.declared.calls.Reply.{Reply}
use Rattle.plain_model.specs.declared.calls.Entry.TheVariants.{Call}
use Rattle.plain_model.specs.Machine.{step, transaction_of}
use Rattle.plain_model.specs.History.{end_of}
use Rattle.log_record.specs.Spelling.{IsPass}
use Rattle.log_record.specs.declared.cell_record.CellRecord.{CellRecord}
use Rattle.core_store.specs.declared.journal.Journal.TheInside.{Inside}
use Rattle.core_store.specs.declared.three.HeldFrame.{HeldFrame}
use Rattle.core_store.specs.Events.{after_event}
use Rattle.core_store.specs.Frames.{Agree}
use Rattle.core_store.specs.JournalView.{JournalView, cells_of, core_of}
use Rattle.core_store.specs.Journal.{view_of, IsJournalInside}
use Rattle.core_store.specs.Limited.{is_past_limit}
use Rattle.core_store.specs.Logged.{logged_by}
use Rattle.core_store.specs.Owed.{entries_needed}
use Rattle.core_store.specs.RoundView.{touched_by_record}
use Rattle.core_store.specs.Stands.{Answers, DoesCall}
use Rattle.core_store.specs.Views.{view_of as tables_of}
use Rattle.core_store.proofs.HappensLaws.{client_note, happens-call, counted-within}
use Rattle.core_store.proofs.JournalLaws.{Happens}
use Rattle.core_store.proofs.JournalSteps.{Grows, HasGrown, has-grown}

module _ {slots : ℕ} (a b : Inside slots) (now : JournalView) (held new : List (HeldFrame slots)) (pass : ℕ) (call : TransactionCall) (reply : Reply) (logged : Option CellRecord) (left : ℕ) (s : IsJournalInside a) (is : view_of a ≡ now) (agree : Agree (cells_of now) held)
    (g : Grows a b (client_note (Call pass call reply) logged left)) (performs : DoesCall slots (tables_of a.tables) (tables_of b.tables) held new pass call reply logged) (numbered : IsPass pass) (out : call ≡ Abort → transaction_of (end_of now.history).state pass ≡ None)
    (within : is_past_limit now (entries_needed call) ≡ false) (more : b.tables.owed + 1 ≤ a.tables.owed + entries_needed call) where
  answers : Answers slots (tables_of a.tables) (tables_of b.tables) (core_of (view_of a)) held new pass call reply logged
  answers = performs (core_of (view_of a)) s.keeps.stands (subst (λ (j : JournalView). Agree (cells_of j) held) (sym is) agree)

  happens : Happens (view_of a) (tables_of b.tables) (client_note (Call pass call reply) logged left) (after_event slots (core_of (view_of a)) (Call pass call reply) logged)
  happens =
      let none = subst (λ (j : JournalView). call ≡ Abort → transaction_of (end_of j.history).state pass ≡ None) (sym is) out in
      let few = ap (λ (j : JournalView). is_past_limit j (entries_needed call)) is ∙ within in
      happens-call (view_of a) (tables_of a.tables) (tables_of b.tables) held new pass call reply logged left s.keeps answers numbered none (counted-within (view_of a) (tables_of a.tables) (tables_of b.tables) (entries_needed call) s.keeps few more)

  pub called : HasGrown b now held new (client_note (Call pass call reply) logged left) (after_event slots (core_of now) (Call pass call reply) logged)
  called =
      subst (λ (j : JournalView). HasGrown b now held new (client_note (Call pass call reply) logged left) (after_event slots (core_of j) (Call pass call reply) logged)) is
      (has-grown a b (client_note (Call pass call reply) logged left) (after_event slots (core_of (view_of a)) (Call pass call reply) logged) s g happens now held new is answers.moves)

  pub called-machine : reply ≡ (step (end_of now.history).state pass call).0
  called-machine = answers.machine ∙ ap (λ (j : JournalView). (step (end_of j.history).state pass call).0) is

  pub called-record : logged ≡ logged_by (end_of now.history).state (cells_of now) pass call
  called-record = answers.record_is ∙ ap (λ (j : JournalView). logged_by (end_of j.history).state (cells_of j) pass call) is

  -- the objects that the record concerns are touched, and the cursor stays
  pub called-round : b.tables.round.view ≡ touched_by_record now.round (logged_by (end_of now.history).state (cells_of now) pass call)
  called-round = answers.round ∙ (ap (λ (j : JournalView). touched_by_record j.round logged) is ∙ ap (touched_by_record now.round) called-record)
