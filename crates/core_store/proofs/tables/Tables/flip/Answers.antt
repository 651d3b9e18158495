use Rattle.std.proofs.Common.{rules, ◌≤◌, ap, ◌∙◌, ⊎_elim, arith}
use Rattle.core_store.specs.RoundView.{Rounds}
use Rattle.core_store.specs.declared.round_at.RoundAt.TheVariants as at
use Rattle.core_store.specs.Views.{view_of}
use Rattle.core_store.proofs.GreenCalls.{asks-green, flip-ready, flip-answers, flip-done}
use Rattle.core_store.proofs.tables.Tables.flip.Goals as goal

pub flip-requires : goal.flip-requires
flip-requires g c =
    let r = c.requires.ready in
    let v = view_of c.args.self.now in
    let small : g.row.SLOTS ≤ 14 = ⊎_elim (λ six. omega arith) (λ fourteen. omega arith) r.stands.counted in
    let b = asks-green v (at.Flip c.args.id) tt c.requires.at in
    (search rules, (r.stands.counted, flip-ready g.row.SLOTS v c.args.id b c.requires.at r))

pub found-requires : goal.found-requires
found-requires g c =
    let v = view_of c.args.self.now in
    let b = asks-green v (at.Flip c.args.id) tt c.requires.at in
    (search rules, flip-answers g.row.SLOTS v c.args.id b c.requires.at c.requires.ready)

pub invariant_of-self : goal.invariant_of-self
invariant_of-self g c =
    let t = c.args.self.now in
    let b = asks-green (view_of t) (at.Flip c.args.id) tt c.requires.at in
    record { free_sized = t.free_sized; owes = t.owes; queue_sized = t.queue_sized; named_sized = t.named_sized; round_sized = ap (λ (r : Rounds). r.limit) (c.found.ensures.found b.walk b.swept b.slot b.greening b.is) ∙ t.round_sized }

pub returns-clause-collects : goal.returns-clause-collects
returns-clause-collects g c d h agree ready =
    let t = c.args.self.now in
    let v = view_of t in
    let b = asks-green v (at.Flip c.args.id) tt c.requires.at in
    flip-done g.row.SLOTS v c.args.id b c.requires.at c.args.held.now c.flip.new.held c.flip.new.zeros.items t.round c.found.new.self t.round_sized (c.found.ensures.found b.walk b.swept b.slot b.greening b.is) c.found.ensures.sound c.flip.ensures.flips d h agree
