use Rattle.std.proofs.Common.{rules, ◌≤◌, refl, sym, ap, ◌∙◌, subst, arith, ⊎_elim}
use Rattle.core_store.specs.declared.round_at.RoundAt.{RoundAt}
use Rattle.core_store.specs.declared.round_at.RoundAt.TheVariants as at
use Rattle.core_store.specs.Collecting.{objects_at}
use Rattle.core_store.specs.RoundView.{Rounds}
use Rattle.core_store.specs.Slots.{HoldsPagesOf}
use Rattle.core_store.specs.Tables.{TablesView}
use Rattle.core_store.specs.Views.{view_of}
use Rattle.core_store.proofs.LookOnLaws.{into-passed-by}
use Rattle.core_store.proofs.NullLaws.{pages-looked}
use Rattle.core_store.proofs.PassLaws.{passed-none}
use Rattle.core_store.proofs.PlanWork.{small-targets}
use Rattle.core_store.proofs.SeenLaws.{green-of, work-at, into-nothing}
use Rattle.core_store.proofs.tables.Tables.look_into.Goals as goal

pub leads_to-requires : goal.leads_to-requires
leads_to-requires g c =
    let r = c.requires.standing in
    let held = c.args.held.now in
    let small : g.row.SLOTS ≤ 14 = ⊎_elim (λ six. omega arith) (λ fourteen. omega arith) r.stands.counted in
    let pages = subst (λ (a : RoundAt). HoldsPagesOf held (objects_at r.core.cells a)) c.requires.at (pages-looked (passed-none g.row.SLOTS (view_of {slots = g.row.SLOTS} c.args.self.now) held) r.core r.stands r.agree c.requires.all) in
    (search rules, (r.stands.counted, (work-at r.stands (at.Into c.args.from c.args.slot c.args.to) c.requires.at, (r.core.cells, r.agree, small-targets r.stands, pages))))

pub found-requires : goal.found-requires
found-requires g c =
    let x = green-of c.args.self.now.round.view (at.Into c.args.from c.args.slot c.args.to) tt c.requires.at in
    (search rules, into-nothing c.args.from c.args.slot c.args.to x)

pub invariant_of-self : goal.invariant_of-self
invariant_of-self g c =
    let t = c.args.self.now in
    let x = green-of t.round.view (at.Into c.args.from c.args.slot c.args.to) tt c.requires.at in
    record { free_sized = t.free_sized; owes = t.owes; queue_sized = t.queue_sized; named_sized = t.named_sized; round_sized = ap (λ (r : Rounds). r.limit) (c.found.ensures.found x.walk x.swept x.slot x.of x.is) ∙ t.round_sized }

pub returns-then-leads_to-clause-passed : goal.returns-then-leads_to-clause-passed
returns-then-leads_to-clause-passed g c = passed-none g.row.SLOTS (view_of {slots = g.row.SLOTS} c.args.self.now) c.args.held.now

pub returns-then-leads_to-clause-event : goal.returns-then-leads_to-clause-event
returns-then-leads_to-clause-event g c = record { next = sym c.requires.at; event = λ d h agree. sym (c.leads_to.ensures d.cells agree) ∙ c.if-leads_to.true }

pub returns-clause-passed : goal.returns-clause-passed
returns-clause-passed g c = (into-passed-by (view_of {slots = g.row.SLOTS} c.args.self.now) (view_of {slots = g.row.SLOTS} c.args.self.now) (let y : TablesView = record (view_of {slots = g.row.SLOTS} c.args.self.now) { round = c.found.new.self.view } in y) c.args.held.now c.requires.standing (passed-none g.row.SLOTS (view_of {slots = g.row.SLOTS} c.args.self.now) c.args.held.now) refl c.args.from c.args.slot c.args.to c.requires.at (λ d agree. sym (c.leads_to.ensures d.cells agree) ∙ c.if-leads_to.false) (λ x. ap (λ (r : Rounds). r.view) (c.found.ensures.found x.walk x.swept x.slot x.of x.is))).passed

pub returns-clause-lower : goal.returns-clause-lower
returns-clause-lower g c e = (into-passed-by (view_of {slots = g.row.SLOTS} c.args.self.now) (view_of {slots = g.row.SLOTS} c.args.self.now) (let y : TablesView = record (view_of {slots = g.row.SLOTS} c.args.self.now) { round = c.found.new.self.view } in y) c.args.held.now c.requires.standing (passed-none g.row.SLOTS (view_of {slots = g.row.SLOTS} c.args.self.now) c.args.held.now) refl c.args.from c.args.slot c.args.to c.requires.at (λ d agree. sym (c.leads_to.ensures d.cells agree) ∙ c.if-leads_to.false) (λ x. ap (λ (r : Rounds). r.view) (c.found.ensures.found x.walk x.swept x.slot x.of x.is))).lower
