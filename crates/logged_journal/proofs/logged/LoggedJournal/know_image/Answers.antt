use Rattle.std.proofs.Common.{◌≡◌, ◌∙◌, ◌*◌, ◌<◌, ◌≤◌, ⊎_elim, List, true, sym, map, ap, subst, arith, rules}
use Rattle.disk_model.specs.Told.{EachImage}
use Rattle.cell_page.specs.Stored.{HoldsPage}
use Rattle.core_store.specs.declared.note.Note.{Note}
use Rattle.core_store.specs.JournalView.{cells_of}
use Rattle.logged_journal.specs.Inside.{view_of}
use Rattle.logged_journal.specs.View.{LoggedView, mark_at}
use Rattle.logged_journal.specs.Upkeep.{HasImage}
use Rattle.logged_journal.proofs.ImagesOpen.{TellsItself}
use Rattle.logged_journal.proofs.PagesKept.{image-has}
use Rattle.logged_journal.proofs.logged.LoggedJournal.know_image.Goals as goal

pub know_page-requires : goal.know_page-requires
know_page-requires g c =
    let small : g.row.SLOTS ≤ 14 = ⊎_elim (λ six. omega arith) (λ fourteen. omega arith) c.self.invariant.size in
    (search rules, (c.self.invariant.size, c.requires.agree.rules))

pub returns : goal.returns
returns g c =
    let v = view_of c.self.inside in
    let running = ap (λ (w : LoggedView g.row.D.Denot). w.failed) c.self.view_is ∙ c.requires.running in
    let kept = c.self.invariant.kept in
    let h = c.history.ensures in
    let tells : TellsItself g.row.SLOTS c.self.inside.journal = record {
      size = c.self.invariant.size;
      consistent = h.consistent;
      entries = ap (λ (l : List Note). map (λ n. n.entry) l) (sym h.notes) ∙ h.entries;
      running = h.running;
      spelled = h.spelled;
      of_ids = h.of_ids;
      safe = h.safe;
      typed = kept.typed;
    } in
    record {
      image = subst (λ (w : LoggedView g.row.D.Denot). EachImage g.D.Disk.may_leave w.disk (HasImage c.args.page c.args.frame.now.page)) c.self.view_is
          (image-has g.D.Disk.may_leave g.row.SLOTS v kept (kept.standing running) tells c.self.invariant.own c.args.page
          (subst (λ (w : LoggedView g.row.D.Denot). 8 * c.args.page < w.journal.history.ids) (sym c.self.view_is) c.requires.page)
          (subst (λ (w : LoggedView g.row.D.Denot). (mark_at w.marks c.args.page).current ≡ true) (sym c.self.view_is) c.requires.current)
          (ap (λ (w : LoggedView g.row.D.Denot). w.log.tail) c.self.view_is ∙ c.requires.empty)
          c.args.frame.now.page c.know_page.ensures (subst (λ (w : LoggedView g.row.D.Denot). HoldsPage (cells_of w.journal) c.args.page c.args.frame.now.page) (sym c.self.view_is) c.requires.agree));
    }
