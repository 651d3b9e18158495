use Rattle.std.proofs.Common.{◌≡◌, ℕ, List, map, subst, sym, ◌∙◌}
use Rattle.std.specs.Prelude.{is_some}
use Rattle.plain_model.specs.Machine.{transaction_of}
use Rattle.plain_model.specs.History.{IsLegal, end_of}
use Rattle.core_store.specs.declared.note.Note.{Note}
use Rattle.core_store.specs.JournalView.{opening_of, core_of}
use Rattle.logged_journal.specs.View.{LoggedView, history_of}
use Rattle.shared_store.specs.Chronicles.View.{origin_of, notes_of, history_after, has_transaction}
use Rattle.shared_store.specs.Chronicles.Inside.{IsChronicle}
use Rattle.shared_store.proofs.Chronicles.Notes.{Tells, JournalTells, history-is, history-legal, clients-are}
use Rattle.shared_store.proofs.Chronicles.Uncrashed.{none-crashed}
use Rattle.shared_store.proofs.chronicle.JournalChronicle.know_history.Given.{Over}
use Rattle.shared_store.proofs.chronicle.JournalChronicle.know_history.Goals as goal

-- what the journal tells of itself
tells : (g : Over) (c : goal.After-opening g) → Tells g.row.SLOTS c.as_ref-logged.result.now
tells g c =
    let h = c.history.ensures in
    let o = c.opening.ensures in
    record {
      own = c.journal-journal.ensures.slots;
      journal = subst JournalTells c.journal-journal.ensures.journal
          (record {
            opened = o.graph;
            entries = subst (λ (ns : List Note). map (λ n. n.entry) ns ≡ c.journal-journal.result.now.history.entries) h.notes h.entries;
            legal = h.legal;
            running = h.running;
            uncrashed = none-crashed g.row.SLOTS (opening_of c.journal-journal.result.now) (core_of c.journal-journal.result.now) c.journal-journal.result.now.notes h.led;
          });
      granted = (let kept = (subst (λ v. IsChronicle g.row.SLOTS v) (sym c.as_ref-logged.ensures) c.self.invariant.kept) in kept.granted);
    }

pub returns-clause-history : goal.returns-clause-history
returns-clause-history g c =
    subst (λ (v : LoggedView g.row.D.Denot). history_after g.row.SLOTS (origin_of v) (notes_of v) ≡ history_of v) (c.as_ref-logged.ensures ∙ c.self.view_is) (history-is g.row.SLOTS c.as_ref-logged.result.now (tells g c))

pub returns-clause-legal : goal.returns-clause-legal
returns-clause-legal g c = subst (λ (v : LoggedView g.row.D.Denot). IsLegal (history_of v)) (c.as_ref-logged.ensures ∙ c.self.view_is) (history-legal g.row.SLOTS c.as_ref-logged.result.now (tells g c))

pub returns-clause-clients : goal.returns-clause-clients
returns-clause-clients g c =
    subst (λ (v : LoggedView g.row.D.Denot). (client : ℕ) → has_transaction (notes_of v) client ≡ is_some (transaction_of (end_of (history_of v)).state client)) (c.as_ref-logged.ensures ∙ c.self.view_is)
    (clients-are g.row.SLOTS c.as_ref-logged.result.now (tells g c))
