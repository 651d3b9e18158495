use Rattle.std.proofs.Common.{List, sym, subst, map, ap, ◌∙◌}
use Rattle.plain_model.specs.declared.calls.Call.TheVariants.{Commit}
use Rattle.plain_model.specs.declared.calls.Reply.TheVariants.{DiskFault}
use Rattle.plain_model.specs.declared.calls.Entry.TheVariants.{Call}
use Rattle.plain_model.specs.History.{with_entry}
use Rattle.disk_model.specs.Areas.{Bytes}
use Rattle.disk_model.specs.Told.{EachImage}
use Rattle.opened_images.proofs.Checkpoints.{behind_checkpoint}
use Rattle.core_store.specs.declared.note.Note.{Note}
use Rattle.logged_journal.specs.Inside.{view_of}
use Rattle.logged_journal.specs.View.{LoggedView, history_of}
use Rattle.logged_journal.specs.Records.{HasRecords, MayBeLeft, with_commit}
use Rattle.logged_journal.specs.Kept.{CanCommit}
use Rattle.logged_journal.specs.Opens.{OpensAfter}
use Rattle.logged_journal.proofs.ImagesOpen.{TellsItself, opens-all, opens-failed, opens-left}
use Rattle.logged_journal.proofs.logged.LoggedJournal.know_images.Given.{Over}
use Rattle.logged_journal.proofs.logged.LoggedJournal.know_images.Goals as goal

tells : (g : Over) (c : goal.After-history g) → TellsItself g.row.SLOTS c.self.inside.journal
tells g c =
    let h = c.history.ensures in
    record {
      size = c.self.invariant.size;
      consistent = h.consistent;
      entries = ap (λ (l : List Note). map (λ n. n.entry) l) (sym h.notes) ∙ h.entries;
      running = h.running;
      spelled = h.spelled;
      of_ids = h.of_ids;
      safe = h.safe;
      typed = c.self.invariant.kept.typed;
    }

pub returns-clause-images : goal.returns-clause-images
returns-clause-images g c = subst (λ (w : LoggedView g.row.D.Denot). EachImage g.D.Disk.may_leave w.disk (MayBeLeft w)) c.self.view_is c.self.invariant.kept.images

pub returns-clause-left : goal.returns-clause-left
returns-clause-left g c =
    subst (λ (w : LoggedView g.row.D.Denot). (image : Bytes) → MayBeLeft w image → OpensAfter g.row.SLOTS (history_of w) image) c.self.view_is
    (λ image left. opens-left behind_checkpoint g.row.SLOTS (view_of c.self.inside) image (tells g c) c.self.invariant.kept.lasting c.self.invariant.kept.granted left)

pub returns-clause-all : goal.returns-clause-all
returns-clause-all g c =
    subst (λ (w : LoggedView g.row.D.Denot). (image : Bytes) → HasRecords w.journal w.journal.notes image → OpensAfter g.row.SLOTS w.journal.history image) c.self.view_is
    (λ image has. opens-all behind_checkpoint g.row.SLOTS c.self.inside.journal image (tells g c) has)

pub returns-clause-failing : goal.returns-clause-failing
returns-clause-failing g c =
    subst (λ (w : LoggedView g.row.D.Denot). (pass : _) (image : Bytes) → CanCommit w.journal pass → HasRecords w.journal (with_commit w.journal.notes pass) image → OpensAfter g.row.SLOTS (with_entry w.journal.history (Call pass Commit DiskFault)) image) c.self.view_is
    (λ pass image can has. opens-failed behind_checkpoint g.row.SLOTS c.self.inside.journal pass image (tells g c) can has)
