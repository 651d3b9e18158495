use Rattle.std.proofs.Common.{◌≡◌, ◌∙◌, ◌*◌, ◌<◌, ℕ, List, false, sym, map, ap, subst}
use Rattle.disk_model.specs.declared.area.Area.TheVariants.{Pages}
use Rattle.opened_images.specs.Marks.{StandsInPlace}
use Rattle.core_store.specs.declared.note.Note.{Note}
use Rattle.core_store.specs.JournalView.{cells_of}
use Rattle.logged_journal.specs.Inside.{view_of}
use Rattle.logged_journal.specs.View.{LoggedView, mark_at}
use Rattle.logged_journal.proofs.ImagesOpen.{TellsItself}
use Rattle.logged_journal.proofs.PagesKept.{stands-unchanged}
use Rattle.logged_journal.proofs.logged.LoggedJournal.know_unchanged.Given.{Over}
use Rattle.logged_journal.proofs.logged.LoggedJournal.know_unchanged.Goals as goal

tells : (g : Over) (c : goal.After-history g) → TellsItself g.row.SLOTS c.self.inside.journal
tells g c =
    let h = c.history.ensures in
    record {
      size = c.self.invariant.size;
      consistent = h.consistent;
      entries = ap (λ (l : List Note). map (λ n. n.entry) l) (sym h.notes) ∙ h.entries;
      running = h.running;
      spelled = h.spelled;
      of_ids = h.of_ids;
      safe = h.safe;
      typed = c.self.invariant.kept.typed;
    }

pub returns : goal.returns
returns g c =
    let v = view_of c.self.inside in
    let running = ap (λ (w : LoggedView g.row.D.Denot). w.failed) c.self.view_is ∙ c.requires.running in
    let kept = c.self.invariant.kept in
    record {
      unchanged = subst
          (λ (w : LoggedView g.row.D.Denot). (page : ℕ) → 8 * page < w.journal.history.ids → (mark_at w.marks page).changed ≡ false → (area : List ℕ) → g.D.Disk.may_leave w.disk Pages area
          → StandsInPlace g.row.SLOTS area (cells_of w.journal) page)
          c.self.view_is
          (stands-unchanged g.D.Disk.may_leave g.row.SLOTS v kept (kept.standing running) (tells g c) c.self.invariant.own);
    }
