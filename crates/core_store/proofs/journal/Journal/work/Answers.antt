use Rattle.std.proofs.Common.{◌≡◌, None, true, false, sym, ◌∙◌, subst, rules}
use Rattle.plain_model.specs.declared.calls.Call.TheVariants.{Abort}
use Rattle.plain_model.specs.Machine.{transaction_of}
use Rattle.plain_model.specs.History.{end_of}
use Rattle.core_store.specs.JournalView.{JournalView, cells_of, core_of}
use Rattle.core_store.specs.Journal.{view_of}
use Rattle.core_store.specs.Logged.{pages_for}
use Rattle.core_store.specs.Limited.{is_past_limit}
use Rattle.core_store.specs.Transactions.{running_at}
use Rattle.core_store.specs.Views.{view_of as tables_of}
use Rattle.core_store.specs.Work.{pages_of_work}
use Rattle.core_store.proofs.JournalLaws.{inactive-running}
use Rattle.core_store.proofs.AskLaws.{call-within, call-past, works-journal}
use Rattle.core_store.proofs.WorkLaws.{no-work}
use Rattle.core_store.proofs.journal.Journal.work.Goals as goal

pub work-requires : goal.work-requires
work-requires g c =
    let a = c.self.inside in
    let s = c.self.invariant in
    let none : c.args.call.now ≡ Abort → running_at a.tables.transactions.entries c.args.pass ≡ None =
    λ e. inactive-running (view_of a) (tables_of a.tables) c.args.pass s.keeps (subst (λ (j : JournalView). transaction_of (end_of j.history).state c.args.pass ≡ None) (sym c.self.view_is) (c.requires.no_abort e)) in
    (search rules, (c.requires.in_range, none))

pub returns-then-is_past_limit-clause-works : goal.returns-then-is_past_limit-clause-works
returns-then-is_past_limit-clause-works g c = no-work g.row.SLOTS c.args.self.now.history.ids (cells_of c.args.self.now)

pub returns-then-is_past_limit-clause-pages : goal.returns-then-is_past_limit-clause-pages
returns-then-is_past_limit-clause-pages g c =
    let past = sym c.is_past_limit.ensures ∙ c.if-is_past_limit.true in
    sym (call-past c.args.self.now c.args.pass c.args.call.now (subst (λ n. is_past_limit c.args.self.now n ≡ true) c.entries_needed.ensures past))

pub returns-clause-works : goal.returns-clause-works
returns-clause-works g c =
    let a = c.self.inside in
    works-journal a c.args.self.now c.work.result c.self.invariant c.self.view_is (c.work.ensures.works (core_of (view_of a)) c.self.invariant.keeps.stands)

pub returns-clause-pages : goal.returns-clause-pages
returns-clause-pages g c =
    let a = c.self.inside in
    let within = subst (λ n. is_past_limit c.args.self.now n ≡ false) c.entries_needed.ensures (sym c.is_past_limit.ensures ∙ c.if-is_past_limit.false) in
    subst (λ (j : JournalView). pages_of_work (cells_of j) c.work.result ≡ pages_for (end_of j.history).state (cells_of j) c.args.pass c.args.call.now) c.self.view_is (c.work.ensures.pages (core_of (view_of a)) c.self.invariant.keeps.stands)
    ∙ sym (call-within c.args.self.now c.args.pass c.args.call.now within)
