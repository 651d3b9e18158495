use Rattle.std.proofs.Common.{◌≡◌, subst, rules}
use Rattle.plain_model.specs.History.{end_of}
use Rattle.core_store.specs.JournalView.{JournalView, cells_of, core_of}
use Rattle.core_store.specs.Journal.{view_of}
use Rattle.core_store.specs.Logged.{pages_for_undo}
use Rattle.core_store.specs.Replaced.{next_to_restore}
use Rattle.core_store.specs.Work.{pages_of_work}
use Rattle.core_store.proofs.AskLaws.{works-journal}
use Rattle.core_store.proofs.journal.Journal.undo_work.Goals as goal

pub undo_work-requires : goal.undo_work-requires
undo_work-requires g c = (search rules, (core_of (view_of c.self.inside), c.self.invariant.keeps.stands))

pub returns-clause-works : goal.returns-clause-works
returns-clause-works g c =
    let a = c.self.inside in
    works-journal a c.args.self.now c.undo_work.result c.self.invariant c.self.view_is (c.undo_work.ensures.works (core_of (view_of a)) c.self.invariant.keeps.stands)

pub returns-clause-pages : goal.returns-clause-pages
returns-clause-pages g c =
    let a = c.self.inside in
    subst (λ (j : JournalView). pages_of_work (cells_of j) c.undo_work.result ≡ pages_for_undo (cells_of j) (next_to_restore (end_of j.history) c.args.pass)) c.self.view_is (c.undo_work.ensures.pages (core_of (view_of a)) c.self.invariant.keeps.stands)
