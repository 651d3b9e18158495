use Rattle.std.proofs.Common.{◌≡◌, ◌∙◌, List, length, sym, map, ap, subst}
use Rattle.plain_model.specs.declared.calls.Entry.TheVariants.{Hidden}
use Rattle.core_store.specs.declared.note.Note.{Note}
use Rattle.core_store.specs.JournalView.{JournalView}
use Rattle.logged_journal.specs.Inside.{view_of}
use Rattle.logged_journal.specs.View.{LoggedView}
use Rattle.logged_journal.specs.Kept.{IsKept}
use Rattle.logged_journal.proofs.Upkeeps.{kept-entry, kept-all}
use Rattle.logged_journal.proofs.logged.LoggedJournal.hide.Goals as goal

pub invariant_of-self : goal.invariant_of-self
invariant_of-self g c =
    let v = view_of c.self.inside in
    let j = c.enter_hidden.new.self in
    let running = ap (λ (w : LoggedView g.row.D.Denot). w.failed) c.self.view_is ∙ c.requires.running in
    let empty = ap (λ (w : LoggedView g.row.D.Denot). w.log.tail) c.self.view_is ∙ c.requires.empty in
    record {
      size = c.self.invariant.size;
      own = ap (λ (k : JournalView). k.history.slots) c.enter_hidden.ensures.entered ∙ c.self.invariant.own;
      spelling = c.self.invariant.spelling;
      counted = c.self.invariant.counted;
      kept = kept-all g.D.Disk.may_leave (record v { journal = j }) c.len-self-inside.result
          (subst (λ (k : JournalView). IsKept g.D.Disk.may_leave (record v { journal = k })) (sym c.enter_hidden.ensures.entered) (kept-entry g.D.Disk.may_leave g.row.SLOTS v Hidden c.self.invariant.kept running tt))
          running (subst (λ (l : List Note). map (λ n. n.entry) l ≡ j.history.entries) c.history.ensures.notes c.history.ensures.entries) c.history.ensures.safe empty
          (c.len-self-inside.ensures ∙ ap (λ (l : List Note). length l) c.history.ensures.notes);
    }
