use Rattle.std.proofs.Common.{◌≡◌, true, ◌≤◌, [], inl, inr, sym, ap, ◌∙◌, subst, refl, rules, ⊎_elim, arith}
use Rattle.core_store.specs.Frames.{Agree, HoldsAll}
use Rattle.core_store.specs.JournalView.{JournalView, cells_of, core_of}
use Rattle.core_store.specs.Journal.{view_of}
use Rattle.core_store.specs.Limited.{pages_for_collector}
use Rattle.core_store.specs.RoundView.{Closed, none, asked, is_event}
use Rattle.core_store.proofs.JournalLooks.{looked-sound, looked-view, looked-core, looked-passes}
use Rattle.core_store.specs.Views.{view_of as tables_of}
use Rattle.core_store.proofs.AskLaws.{standing}
use Rattle.core_store.proofs.IdleLaws.{idle-event, idle-both, some-left, some-behind}
use Rattle.core_store.proofs.JournalSteps.{ids-same}
use Rattle.core_store.proofs.WantLaws.{all-has}
use Rattle.core_store.proofs.journal.Journal.look_on.Goals as goal
use Rattle.core_store.proofs.journal.Journal.look_on.Goals.{then-is_past_limit-via-then-is_past_limit, then-is_past_limit-via-else-is_past_limit+then-is_idle}

pub returns-then-is_past_limit-clause-ready : goal.returns-then-is_past_limit-clause-ready
returns-then-is_past_limit-clause-ready g c = record {
  pages = all-has c.args.self.now.history.ids (pages_for_collector c.args.self.now) c.args.held.now c.requires.all;
  event = λ e. elim c.then-is_past_limit.branch [
    | then-is_past_limit-via-then-is_past_limit w ↦ absurd (let past = sym c.is_past_limit.ensures ∙ w.if-is_past_limit.true in cc)
    | then-is_past_limit-via-else-is_past_limit+then-is_idle w ↦ subst (λ (j : JournalView). is_event (cells_of j) (asked j.round) ≡ true) c.self.view_is (idle-event (cells_of (view_of c.self.inside)) c.self.inside.tables.queue.ids c.self.inside.tables.round.view (sym w.is_idle.ensures ∙ w.if-is_idle.true))
  ];
}

pub returns-then-is_past_limit-clause-looks : goal.returns-then-is_past_limit-clause-looks
returns-then-is_past_limit-clause-looks g c = record { passes = none; same = refl; core = refl }

-- there was no event to come
pub returns-then-is_past_limit-clause-none : goal.returns-then-is_past_limit-clause-none
returns-then-is_past_limit-clause-none g c = (
  λ _. elim c.then-is_past_limit.branch [
    | then-is_past_limit-via-then-is_past_limit w ↦ inl (sym c.is_past_limit.ensures ∙ w.if-is_past_limit.true)
    | then-is_past_limit-via-else-is_past_limit+then-is_idle w ↦ inr (subst (λ (j : JournalView). (j.queue ≡ []) × (j.round ≡ Closed)) c.self.view_is (idle-both c.self.inside.tables.queue.ids c.self.inside.tables.round.view (sym w.is_idle.ensures ∙ w.if-is_idle.true)))
  ],
  λ _. refl,
)

pub look_on-requires : goal.look_on-requires
look_on-requires g c =
    let a = c.self.inside in
    let s = c.self.invariant in
    let small : g.row.SLOTS ≤ 14 = ⊎_elim (λ six. omega arith) (λ fourteen. omega arith) s.keeps.stands.counted in (
      search rules,
      (
        search rules,
        (
          standing a c.args.self.now c.args.held.now s c.self.view_is c.requires.agree,
          subst (λ n. HoldsAll n c.args.held.now) (sym (ids-same (view_of a) (tables_of a.tables) s.keeps)) (subst (λ (j : JournalView). HoldsAll j.history.ids c.args.held.now) (sym c.self.view_is) c.requires.all),
        ),
      ),
    )

pub invariant_of-self : goal.invariant_of-self
invariant_of-self g c = let e = c.look_on.ensures in looked-sound c.self.inside c.look_on.new.self c.args.self.now c.args.held.now c.self.invariant c.self.view_is c.requires.agree e.same e.stands e.passes

pub returns-clause-ready : goal.returns-clause-ready
returns-clause-ready g c =
    let a = c.self.inside in
    let e = c.look_on.ensures in
    let agree = subst (λ (j : JournalView). Agree (cells_of j) c.args.held.now) (sym c.self.view_is) c.requires.agree in
    let view = looked-view a c.look_on.new.self c.args.self.now c.args.held.now c.self.invariant c.self.view_is c.requires.agree e.same e.stands e.passes in
    let after = view_of (record { alloc = a.alloc; opening = a.opening; trace = a.trace; tables = c.look_on.new.self }) in
    record {
      pages = all-has after.history.ids (pages_for_collector after) c.args.held.now (subst (λ n. HoldsAll n c.args.held.now) (sym (ap (λ (j : JournalView). j.history.ids) view)) c.requires.all);
      event = λ _. e.event (core_of (view_of a)) c.self.invariant.keeps.stands agree;
    }

pub returns-clause-looks : goal.returns-clause-looks
returns-clause-looks g c =
    let e = c.look_on.ensures in
    record {
      passes = looked-passes c.self.inside c.look_on.new.self c.args.self.now c.args.held.now c.self.invariant c.self.view_is c.requires.agree e.same e.stands e.passes;
      same = looked-view c.self.inside c.look_on.new.self c.args.self.now c.args.held.now c.self.invariant c.self.view_is c.requires.agree e.same e.stands e.passes;
      core = looked-core c.self.inside c.look_on.new.self c.args.self.now c.args.held.now c.self.invariant c.self.view_is c.requires.agree e.same e.stands e.passes;
    }

-- there was one before the looks, and so there is after them
pub returns-clause-none : goal.returns-clause-none
returns-clause-none g c =
    let e = c.look_on.ensures in
    let a = c.self.inside in
    let after = view_of (record { alloc = a.alloc; opening = a.opening; trace = a.trace; tables = c.look_on.new.self }) in
    let same = looked-view a c.look_on.new.self c.args.self.now c.args.held.now c.self.invariant c.self.view_is c.requires.agree e.same e.stands e.passes in
    let core = looked-core a c.look_on.new.self c.args.self.now c.args.held.now c.self.invariant c.self.view_is c.requires.agree e.same e.stands e.passes in
    let within = sym c.is_past_limit.ensures ∙ c.if-is_past_limit.false in
    let some = subst (λ (j : JournalView). (j.queue ≡ []) × (j.round ≡ Closed) → ⊥) c.self.view_is (some-left a.tables.queue.ids a.tables.round.view (sym c.is_idle.ensures ∙ c.if-is_idle.false)) in
    (λ is. absurd (cc (is)), λ none. absurd (some-behind c.args.self.now after within some same core none))
