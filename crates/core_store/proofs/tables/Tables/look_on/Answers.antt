use Rattle.std.proofs.Common.{rules, ◌≡◌, ◌≤◌, true, ap, sym, subst, ⊎_elim, arith}
use Rattle.core_store.specs.declared.round_at.RoundAt.{RoundAt}
use Rattle.core_store.specs.RoundView.{is_event}
use Rattle.core_store.specs.Frames.{HoldsAll}
use Rattle.core_store.specs.Tables.{TablesView}
use Rattle.core_store.specs.Views.{view_of}
use Rattle.core_store.proofs.LookOnLaws.{standing-behind}
use Rattle.core_store.proofs.PassLaws.{passed-none}
use Rattle.core_store.proofs.NullLaws.{passed-behind}
use Rattle.core_store.proofs.tables.Tables.look_on.Goals as goal

pub looks-init : goal.looks-init
looks-init g c = passed-none g.row.SLOTS (view_of c.args.self.now) c.args.held.now

pub look_at-requires : goal.look_at-requires
look_at-requires g c =
    let r = c.requires.standing in
    let small : g.row.SLOTS ≤ 14 = ⊎_elim (λ six. omega arith) (λ fourteen. omega arith) r.stands.counted in
    (search rules, (search rules, (standing-behind (view_of c.args.self.now) (view_of {slots = g.row.SLOTS} c.looks.self) c.args.held.now r c.looks.invariant, (subst (λ n. HoldsAll n c.args.held.now) (sym (ap (λ (v : TablesView). v.ids) c.looks.invariant.same)) c.requires.all, c.at-at.ensures.next))))

pub looks-smaller : goal.looks-smaller
looks-smaller g c = c.look_at.ensures.lower (search rules)

pub looks-preserved : goal.looks-preserved
looks-preserved g c = passed-behind g.row.SLOTS (view_of c.args.self.now) (view_of {slots = g.row.SLOTS} c.looks.self) (view_of {slots = g.row.SLOTS} c.look_at.new.self) c.args.held.now c.looks.invariant c.look_at.ensures.passed

pub returns-in-Some-clause-passes : goal.returns-in-Some-clause-passes
returns-in-Some-clause-passes g c = (passed-behind g.row.SLOTS (view_of c.args.self.now) (view_of {slots = g.row.SLOTS} c.looks.self) (view_of {slots = g.row.SLOTS} c.look_at.new.self) c.args.held.now c.looks.invariant c.look_at.ensures.passed).passes

pub returns-in-Some-clause-stands : goal.returns-in-Some-clause-stands
returns-in-Some-clause-stands g c = (passed-behind g.row.SLOTS (view_of c.args.self.now) (view_of {slots = g.row.SLOTS} c.looks.self) (view_of {slots = g.row.SLOTS} c.look_at.new.self) c.args.held.now c.looks.invariant c.look_at.ensures.passed).stands

pub returns-in-Some-clause-event : goal.returns-in-Some-clause-event
returns-in-Some-clause-event g c d h agree =
    let e = c.in-Some.ensures.event in
    subst (λ (r : RoundAt). is_event d.cells r ≡ true) e.next (e.event d (c.looks.invariant.stands d h agree) agree)
