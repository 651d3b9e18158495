use Rattle.std.proofs.Common.{◌≡◌, ◌≤◌, ◌&&◌, true, false, List, ℕ, [], sym, ap, subst, ◌∙◌, arith, rules, inl, inr, ⊎_elim}
use Rattle.core_store.specs.JournalView.{JournalView}
use Rattle.core_store.specs.Queued.{is_none_queued}
use Rattle.core_store.specs.RoundView.{RoundView, Closed, asked, is_closed}
use Rattle.core_store.proofs.AskLaws.{sound-marked}
use Rattle.core_store.proofs.EventAnswers.{no-rest}
use Rattle.core_store.proofs.journal.Journal.collect_step.Goals as goal

pub invariant_of-self : goal.invariant_of-self
invariant_of-self g c = sound-marked c.self.inside c.mark_full.new.self c.args.self.now 1 c.self.invariant c.self.view_is c.mark_full.ensures (sym c.is_past_limit.ensures ∙ c.if-is_past_limit.true) (omega arith)

-- where the collector is not idle, a round is open or an object is queued
some : (queue : List ℕ) (round : RoundView) → (is_closed round && is_none_queued queue) ≡ false → (queue ≡ []) × (round ≡ Closed) → ⊥
some queue round busy idle =
    let both : (is_closed round && is_none_queued queue) ≡ true = ap (λ (r : RoundView). is_closed r && is_none_queued queue) idle.1 ∙ ap is_none_queued idle.0 in
    let e = sym busy ∙ both in
    cc (e)

pub make_event-requires : goal.make_event-requires
make_event-requires g c =
    let small : g.row.SLOTS ≤ 14 = ⊎_elim (λ six. omega arith) (λ fourteen. omega arith) c.self.invariant.keeps.stands.counted in
    let history = sym c.is_past_limit.ensures ∙ c.if-is_past_limit.false in
    let is = subst (λ (j : JournalView). (j.queue ≡ []) × (j.round ≡ Closed) → ⊥) c.self.view_is (some c.self.inside.tables.queue.ids c.self.inside.tables.round.view (sym c.is_idle.ensures ∙ c.if-is_idle.false)) in
    let next = c.at-next.ensures.next ∙ ap (λ (j : JournalView). asked j.round) c.self.view_is in
    (search rules, (search rules, (c.requires.agree, (c.requires.ready, (history, (is, next))))))

pub returns-clause-full : goal.returns-clause-full
returns-clause-full g c = (λ is. absurd (no-rest c.make_event.result c.make_event.ensures.made (inl is)), λ past. absurd (let e = sym past ∙ (sym c.is_past_limit.ensures ∙ c.if-is_past_limit.false) in cc (e)))

pub returns-clause-marked : goal.returns-clause-marked
returns-clause-marked g c = λ is. absurd (no-rest c.make_event.result c.make_event.ensures.made (inl is))

pub returns-clause-idle : goal.returns-clause-idle
returns-clause-idle g c =
    let is = subst (λ (j : JournalView). (j.queue ≡ []) × (j.round ≡ Closed) → ⊥) c.self.view_is (some c.self.inside.tables.queue.ids c.self.inside.tables.round.view (sym c.is_idle.ensures ∙ c.if-is_idle.false)) in
    (λ told. absurd (no-rest c.make_event.result c.make_event.ensures.made (inr told)), λ idle. absurd (is (idle.1, idle.2)))

pub returns-clause-unchanged : goal.returns-clause-unchanged
returns-clause-unchanged g c = λ is. absurd (no-rest c.make_event.result c.make_event.ensures.made (inr is))
