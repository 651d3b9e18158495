use Rattle.std.proofs.Common.{rules, ◌≤◌, ap, ◌∙◌, ⊎_elim, arith}
use Rattle.core_store.specs.RoundView.{Rounds}
use Rattle.core_store.specs.declared.round_at.RoundAt.TheVariants as at
use Rattle.core_store.specs.Views.{view_of}
use Rattle.core_store.proofs.GreenCalls.{asks-green, strengthen-ready, strengthen-answers, strengthen-done}
use Rattle.core_store.proofs.tables.Tables.strengthen.Goals as goal

pub strengthen-requires : goal.strengthen-requires
strengthen-requires g c =
    let r = c.requires.ready in
    let v = view_of c.args.self.now in
    let small : g.row.SLOTS ≤ 14 = ⊎_elim (λ six. omega arith) (λ fourteen. omega arith) r.stands.counted in
    let b = asks-green v (at.Strengthen c.args.«from» c.args.slot c.args.to) tt c.requires.at in
    (search rules, (r.stands.counted, strengthen-ready g.row.SLOTS v c.args.«from» c.args.slot c.args.to b c.requires.at r))

pub found-requires : goal.found-requires
found-requires g c =
    let v = view_of c.args.self.now in
    let b = asks-green v (at.Strengthen c.args.«from» c.args.slot c.args.to) tt c.requires.at in
    (search rules, strengthen-answers g.row.SLOTS v c.args.«from» c.args.slot c.args.to b c.requires.at c.requires.ready)

pub invariant_of-self : goal.invariant_of-self
invariant_of-self g c =
    let t = c.args.self.now in
    let b = asks-green (view_of t) (at.Strengthen c.args.«from» c.args.slot c.args.to) tt c.requires.at in
    record { free_sized = t.free_sized; owes = t.owes; queue_sized = t.queue_sized; named_sized = t.named_sized; round_sized = ap (λ (r : Rounds). r.limit) (c.found.ensures.found b.walk b.swept b.slot b.greening b.is) ∙ t.round_sized }

pub returns-clause-collects : goal.returns-clause-collects
returns-clause-collects g c d h agree ready =
    let t = c.args.self.now in
    let v = view_of t in
    let b = asks-green v (at.Strengthen c.args.«from» c.args.slot c.args.to) tt c.requires.at in
    strengthen-done g.row.SLOTS v c.args.«from» c.args.slot c.args.to b c.requires.at c.args.held.now c.strengthen.new.held c.strengthen.new.zeros.items t.round c.found.new.self t.round_sized (c.found.ensures.found b.walk b.swept b.slot b.greening b.is) c.found.ensures.sound c.strengthen.ensures.strengthens d h agree
