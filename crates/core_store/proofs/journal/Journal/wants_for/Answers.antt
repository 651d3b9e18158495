use Rattle.std.proofs.Common.{sym, ap, ◌∙◌, subst, rules}
use Rattle.core_store.specs.Frames.{Agree, IsNext, pages_held}
use Rattle.core_store.specs.JournalView.{JournalView, cells_of, core_of}
use Rattle.core_store.specs.Journal.{view_of}
use Rattle.core_store.specs.Logged.{want_of}
use Rattle.core_store.specs.Views.{view_of as tables_of}
use Rattle.core_store.specs.Work.{pages_of_work}
use Rattle.core_store.proofs.JournalSteps.{ids-same}
use Rattle.core_store.proofs.AskLaws.{works-tables}
use Rattle.core_store.proofs.journal.Journal.wants_for.Goals as goal

pub wants-requires : goal.wants-requires
wants-requires g c =
    let a = c.self.inside in
    let agree = subst (λ (j : JournalView). Agree (cells_of j) c.args.held.now) (sym c.self.view_is) c.requires.agree in
    (search rules, (search rules, (core_of (view_of a), c.self.invariant.keeps.stands, agree, works-tables a c.args.self.now c.args.work c.self.invariant c.self.view_is c.requires.work)))

pub returns-clause-exact : goal.returns-clause-exact
returns-clause-exact g c =
    let a = c.self.inside in
    let agree = subst (λ (j : JournalView). Agree (cells_of j) c.args.held.now) (sym c.self.view_is) c.requires.agree in
    c.wants.ensures.exact (core_of (view_of a)) c.self.invariant.keeps.stands agree
    ∙ ap (λ (j : JournalView). want_of (pages_of_work (cells_of j) c.args.work) (pages_held c.args.held.now)) c.self.view_is

pub returns-clause-next : goal.returns-clause-next
returns-clause-next g c = λ page e.
    let a = c.self.inside in
    subst (λ n. IsNext n c.args.held.now page) (ids-same (view_of a) (tables_of a.tables) c.self.invariant.keeps ∙ ap (λ (j : JournalView). j.history.ids) c.self.view_is) (c.wants.ensures.next page e)
