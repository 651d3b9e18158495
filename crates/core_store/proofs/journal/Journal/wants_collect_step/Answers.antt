use Rattle.std.proofs.Common.{◌≡◌, false, sym, ap, ◌∙◌, subst}
use Rattle.core_store.specs.Frames.{Agree, IsNext, pages_held}
use Rattle.core_store.specs.JournalView.{JournalView, cells_of, core_of}
use Rattle.core_store.specs.Journal.{view_of}
use Rattle.core_store.specs.Limited.{is_past_limit, pages_for_collector}
use Rattle.core_store.specs.Logged.{want_of}
use Rattle.core_store.specs.RoundView.{none}
use Rattle.core_store.proofs.AskLaws.{collector-within}
use Rattle.core_store.proofs.WantLaws.{ready-has}
use Rattle.core_store.proofs.JournalLooks.{looked-ids, looked-sound, looked-view, looked-core, looked-passes, looked-left}
use Rattle.core_store.proofs.journal.Journal.wants_collect_step.Given.{Over}
use Rattle.core_store.proofs.journal.Journal.wants_collect_step.Goals as goal

pub returns-then-is_past_limit-clause-passes : goal.returns-then-is_past_limit-clause-passes
returns-then-is_past_limit-clause-passes g c = none

pub invariant_of-self : goal.invariant_of-self
invariant_of-self g c = let e = c.wants_collect_step.ensures in looked-sound c.self.inside c.wants_collect_step.new.self c.args.self.now c.args.held.now c.self.invariant c.self.view_is c.requires.agree e.same e.stands e.passes

-- within the limit after the looks as before
within : (g : Over) (c : goal.After-wants_collect_step g) → is_past_limit (view_of (record { alloc = c.self.inside.alloc; opening = c.self.inside.opening; trace = c.self.inside.trace; tables = c.wants_collect_step.new.self })) 1 ≡ false
within g c =
    let e = c.wants_collect_step.ensures in
    ap (λ (j : JournalView). is_past_limit j 1) (looked-view c.self.inside c.wants_collect_step.new.self c.args.self.now c.args.held.now c.self.invariant c.self.view_is c.requires.agree e.same e.stands e.passes) ∙ (sym c.is_past_limit.ensures ∙ c.if-is_past_limit.false)

pub returns-clause-exact : goal.returns-clause-exact
returns-clause-exact g c =
    let a = c.self.inside in
    let agree = subst (λ (j : JournalView). Agree (cells_of j) c.args.held.now) (sym c.self.view_is) c.requires.agree in
    c.wants_collect_step.ensures.exact (core_of (view_of a)) c.self.invariant.keeps.stands agree
    ∙ sym (ap (λ ps. want_of ps (pages_held c.args.held.now)) (collector-within (view_of (record { alloc = a.alloc; opening = a.opening; trace = a.trace; tables = c.wants_collect_step.new.self })) (within g c)))

pub returns-clause-ready : goal.returns-clause-ready
returns-clause-ready g c = λ e.
    let agree = subst (λ (j : JournalView). Agree (cells_of j) c.args.held.now) (sym c.self.view_is) c.requires.agree in
    record { pages = ready-has (view_of (record { alloc = c.self.inside.alloc; opening = c.self.inside.opening; trace = c.self.inside.trace; tables = c.wants_collect_step.new.self })).history.ids (pages_for_collector (view_of (record { alloc = c.self.inside.alloc; opening = c.self.inside.opening; trace = c.self.inside.trace; tables = c.wants_collect_step.new.self }))) c.args.held.now (sym (returns-clause-exact g c) ∙ e); event = λ _. c.wants_collect_step.ensures.event (core_of (view_of c.self.inside)) c.self.invariant.keeps.stands agree e }

pub returns-clause-next : goal.returns-clause-next
returns-clause-next g c = λ page e.
    let t = c.wants_collect_step.ensures in
    subst (λ n. IsNext n c.args.held.now page) (sym (looked-ids c.self.inside c.wants_collect_step.new.self c.args.self.now c.args.held.now c.self.invariant c.self.view_is c.requires.agree t.same t.stands t.passes)) (t.next page e)

pub returns-clause-passes : goal.returns-clause-passes
returns-clause-passes g c = let e = c.wants_collect_step.ensures in looked-passes c.self.inside c.wants_collect_step.new.self c.args.self.now c.args.held.now c.self.invariant c.self.view_is c.requires.agree e.same e.stands e.passes

pub returns-clause-same : goal.returns-clause-same
returns-clause-same g c = let e = c.wants_collect_step.ensures in looked-view c.self.inside c.wants_collect_step.new.self c.args.self.now c.args.held.now c.self.invariant c.self.view_is c.requires.agree e.same e.stands e.passes

pub returns-clause-core : goal.returns-clause-core
returns-clause-core g c = let e = c.wants_collect_step.ensures in looked-core c.self.inside c.wants_collect_step.new.self c.args.self.now c.args.held.now c.self.invariant c.self.view_is c.requires.agree e.same e.stands e.passes

pub returns-clause-left : goal.returns-clause-left
returns-clause-left g c = let e = c.wants_collect_step.ensures in looked-left c.self.inside c.wants_collect_step.new.self c.args.self.now c.args.held.now c.self.invariant c.self.view_is c.requires.agree e.same e.stands e.passes
