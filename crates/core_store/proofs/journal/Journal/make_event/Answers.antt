use Rattle.std.proofs.Common.{◌≡◌, ◌≤◌, ◌&&◌, false, List, length, ℕ, [], ◌∷◌, sym, ap, subst, ◌∙◌, arith, rules, refl, ⊎_elim}
use Rattle.core_store.specs.declared.journal.Journal.TheInside.{Inside}
use Rattle.core_store.specs.JournalView.{JournalView}
use Rattle.core_store.specs.Queued.{is_none_queued}
use Rattle.core_store.specs.RoundView.{RoundView, Closed, Walking, Sweeping, asked, is_closed, left_of}
use Rattle.core_store.specs.Steppings.{left_told, pops}
use Rattle.core_store.proofs.AskLaws.{ready-collect}
use Rattle.core_store.proofs.EventLaws.{collector_note, entered, made, made-event, made-safe, made-lower, told-left}
use Rattle.core_store.proofs.JournalSteps.{Grows}
use Rattle.core_store.proofs.ReplyLaws.{on_ok}
use Rattle.core_store.proofs.journal.Journal.make_event.Given.{Over}
use Rattle.core_store.proofs.journal.Journal.make_event.Goals as goal

-- a round is open or an object is queued
busy : (queue : List ℕ) (round : RoundView) → ((queue ≡ []) × (round ≡ Closed) → ⊥) → (is_closed round && is_none_queued queue) ≡ false
busy [] Closed some = absurd (some (refl, refl))
busy (id ∷ ids) Closed some = refl
busy queue (Walking walk) some = refl
busy queue (Sweeping walk swept slot greening) some = refl

pub collect_step-requires : goal.collect_step-requires
collect_step-requires g c =
    let s = c.self.invariant in
    let small : g.row.SLOTS ≤ 14 = ⊎_elim (λ six. omega arith) (λ fourteen. omega arith) s.keeps.stands.counted in
    let next = c.requires.at ∙ sym (ap (λ (j : JournalView). asked j.round) c.self.view_is) in
    let some = subst (λ (j : JournalView). (j.queue ≡ []) × (j.round ≡ Closed) → ⊥) (sym c.self.view_is) c.requires.some in
    let room = on_ok c.take_room.result c.is_err.result c.is_err.ensures.value c.if-is_err.false c.take_room.ensures.room in
    let can = ready-collect c.self.inside c.args.self.now c.args.held.now s c.self.view_is c.requires.agree c.requires.history c.requires.ready in
    (search rules, (search rules, (next, (can, (busy c.self.inside.tables.queue.ids c.self.inside.tables.round.view some, omega (arith, room))))))

-- the journal after the event, and what is left of the round then
abbrev after : (g : Over) (c : goal.After-collect_step g) → Inside g.row.SLOTS
after g c = record { alloc = c.self.inside.alloc; opening = c.self.inside.opening; trace = c.collect_step.new.trace; tables = c.collect_step.new.self }

abbrev left : (g : Over) (c : goal.After-collect_step g) → ℕ
left g c = left_of g.row.SLOTS c.collect_step.new.self.round.view

grows : (g : Over) (c : goal.After-collect_step g) → Grows c.self.inside (after g c) (collector_note c.collect_step.ensures.enters.event c.collect_step.ensures.enters.logged (left g c))
grows g c = let e = c.collect_step.ensures.enters in entered c.self.inside (after g c) c.take_room.new.self e.event e.logged refl c.take_room.ensures.notes c.take_room.ensures.rest e.noted

pub invariant_of-self-2 : goal.invariant_of-self-2
invariant_of-self-2 g c =
    let room = on_ok c.take_room.result c.is_err.result c.is_err.ensures.value c.if-is_err.false c.take_room.ensures.room in
    let long = ap length c.take_room.ensures.notes in
    let same = c.collect_step.ensures.owed in
    let noted = c.collect_step.ensures.enters.noted in
    (made c.self.inside (after g c) c.args.self.now c.args.held.now c.collect_step.new.held c.collect_step.ensures.enters.event c.collect_step.ensures.enters.logged (left g c) c.self.invariant c.self.view_is c.requires.agree (grows g c) c.collect_step.ensures.enters.collects c.requires.history c.requires.ready c.collect_step.ensures.owed).sound
    (omega (arith, room, same, long, noted.len, noted.room, c.owed.ensures))

pub returns-clause-event : goal.returns-clause-event
returns-clause-event g c = λ _.
    made-event c.self.inside (after g c) c.args.self.now c.args.held.now c.collect_step.new.held c.collect_step.ensures.enters.event c.collect_step.ensures.enters.logged (left g c) c.self.invariant c.self.view_is c.requires.agree (grows g c) c.collect_step.ensures.enters.collects c.requires.history c.requires.ready c.collect_step.ensures.owed
    c.collect_step.result c.collect_step.ensures.enters.told

pub returns-clause-safe : goal.returns-clause-safe
returns-clause-safe g c =
    made-safe c.self.inside (after g c) c.args.self.now c.args.held.now c.collect_step.new.held c.collect_step.ensures.enters.event c.collect_step.ensures.enters.logged (left g c) c.self.invariant c.self.view_is c.requires.agree (grows g c) c.collect_step.ensures.enters.collects c.requires.history c.requires.ready c.collect_step.ensures.owed
    c.collect_step.result c.collect_step.ensures.enters.told

pub returns-clause-lower : goal.returns-clause-lower
returns-clause-lower g c = λ rest e.
    let enters = c.collect_step.ensures.enters in
    let told : left g c ≡ rest = told-left enters.event enters.logged (left g c) rest (sym (ap left_told enters.told) ∙ e) in (
      sym told,
      λ p.
          let lower =
          made-lower c.self.inside (after g c) c.args.self.now c.args.held.now c.collect_step.new.held c.collect_step.ensures.enters.event c.collect_step.ensures.enters.logged (left g c) c.self.invariant c.self.view_is c.requires.agree (grows g c) c.collect_step.ensures.enters.collects c.requires.history c.requires.ready c.collect_step.ensures.owed
          (sym (ap pops enters.told) ∙ p) in
          omega (arith, lower, told),
    )

pub returns-clause-agree : goal.returns-clause-agree
returns-clause-agree g c =
    (made c.self.inside (after g c) c.args.self.now c.args.held.now c.collect_step.new.held c.collect_step.ensures.enters.event c.collect_step.ensures.enters.logged (left g c) c.self.invariant c.self.view_is c.requires.agree (grows g c) c.collect_step.ensures.enters.collects c.requires.history c.requires.ready c.collect_step.ensures.owed).agree

pub returns-clause-elsewhere : goal.returns-clause-elsewhere
returns-clause-elsewhere g c =
    (made c.self.inside (after g c) c.args.self.now c.args.held.now c.collect_step.new.held c.collect_step.ensures.enters.event c.collect_step.ensures.enters.logged (left g c) c.self.invariant c.self.view_is c.requires.agree (grows g c) c.collect_step.ensures.enters.collects c.requires.history c.requires.ready c.collect_step.ensures.owed).elsewhere
