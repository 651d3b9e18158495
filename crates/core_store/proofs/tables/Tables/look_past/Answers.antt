use Rattle.std.proofs.Common.{sym, ap, ◌∙◌}
use Rattle.core_store.specs.declared.round_at.RoundAt.TheVariants as at
use Rattle.core_store.specs.RoundView.{Rounds}
use Rattle.core_store.specs.Views.{view_of}
use Rattle.core_store.proofs.SeenLaws.{green-of, idle-in, passed-by, into-passed}
use Rattle.core_store.proofs.tables.Tables.look_past.Goals as goal

pub invariant_of-self : goal.invariant_of-self
invariant_of-self g c =
    let t = c.args.self.now in
    record { free_sized = t.free_sized; owes = t.owes; queue_sized = t.queue_sized; named_sized = t.named_sized; round_sized = ap (λ (r : Rounds). r.limit) (c.look_past.ensures.looked c.requires.ready.core.cells) ∙ t.round_sized }

pub invariant_of-self-in-Into : goal.invariant_of-self-in-Into
invariant_of-self-in-Into g c =
    let t = c.args.self.now in
    let i = c.in-Into in
    let x = green-of t.round.view (at.Into i.from i.slot i.to) tt (sym c.requires.at ∙ i.is) in
    record { free_sized = t.free_sized; owes = t.owes; queue_sized = t.queue_sized; named_sized = t.named_sized; round_sized = ap (λ (r : Rounds). r.limit) (c.found.ensures.found x.walk x.swept x.slot x.of x.is) ∙ t.round_sized }

pub returns-in-Look-clause-stands : goal.returns-in-Look-clause-stands
returns-in-Look-clause-stands g c = λ core h agree. (
    passed-by h c.look_past.new.self.view (idle-in (view_of c.args.self.now) c.args.held.now c.requires.ready core agree) (ap (λ (r : Rounds). r.view) (c.look_past.ensures.looked core.cells))).stands

pub returns-in-Test-clause-passes : goal.returns-in-Test-clause-passes
returns-in-Test-clause-passes g c = λ core h agree. (c.see_slot_of_test.ensures.seen core h agree).round

pub returns-in-Test-clause-stands : goal.returns-in-Test-clause-stands
returns-in-Test-clause-stands g c = λ core h agree. (c.see_slot_of_test.ensures.seen core h agree).stands

pub returns-in-Into-clause-passes : goal.returns-in-Into-clause-passes
returns-in-Into-clause-passes g c = λ core h agree.
    (let i = c.in-Into in
    let e = sym c.requires.at ∙ i.is in
    let x = green-of c.args.self.now.round.view (at.Into i.from i.slot i.to) tt e in
    (into-passed h i.from i.slot i.to x c.found.new.self.view e (idle-in (view_of c.args.self.now) c.args.held.now c.requires.ready core agree) (ap (λ (r : Rounds). r.view) (c.found.ensures.found x.walk x.swept x.slot x.of x.is))).round)

pub returns-in-Into-clause-stands : goal.returns-in-Into-clause-stands
returns-in-Into-clause-stands g c = λ core h agree.
    (let i = c.in-Into in
    let e = sym c.requires.at ∙ i.is in
    let x = green-of c.args.self.now.round.view (at.Into i.from i.slot i.to) tt e in
    (into-passed h i.from i.slot i.to x c.found.new.self.view e (idle-in (view_of c.args.self.now) c.args.held.now c.requires.ready core agree) (ap (λ (r : Rounds). r.view) (c.found.ensures.found x.walk x.swept x.slot x.of x.is))).stands)
