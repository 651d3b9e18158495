use Rattle.std.proofs.Common.{None, rules, ℕ, ◌≤◌, sym, ◌∙◌, subst}
use Rattle.core_store.specs.RoundView.{Rounds, IsInStep}
use Rattle.core_store.specs.declared.act.Act.TheVariants as act
use Rattle.core_store.specs.Collecting.{Collected}
use Rattle.core_store.specs.Views.{view_of}
use Rattle.core_store.proofs.BeginRound.{first-within, first-marked, first-loose, skip-collected, start-collected}
use Rattle.core_store.proofs.tables.Tables.begin_round.Goals as goal

pub is_loose-requires : goal.is_loose-requires
is_loose-requires g c =
    let r = c.requires.standing in
    (search rules, first-marked g.row.SLOTS (view_of c.args.self.now) r.0 c.in-Some.id _ r.1 c.in-Some.ensures.first)

pub returns-then-not-is_loose-clause-collects : goal.returns-then-not-is_loose-clause-collects
returns-then-not-is_loose-clause-collects g c held d h agree ready =
    let v = view_of c.args.self.now in
    let first = c.in-Some.ensures.first in
    skip-collected g.row.SLOTS v d held c.in-Some.id _ h agree c.requires.closed first (first-loose g.row.SLOTS v d c.in-Some.id _ h first c.is_loose.result c.is_loose.ensures ∙ c.if-not-is_loose.true)

pub start-requires : goal.start-requires
start-requires g c =
    let r = c.requires.standing in
    let within = first-within g.row.SLOTS (view_of c.args.self.now) r.0 c.in-Some.id _ r.1 c.in-Some.ensures.first in
    (search rules, (within.0, subst (λ (n : ℕ). c.in-Some.id ≤ n) (sym c.args.self.now.round_sized) within.1))

pub returns-clause-collects : goal.returns-clause-collects
returns-clause-collects g c held d h agree ready =
    let v = view_of c.args.self.now in
    let id = c.in-Some.id in
    let first = c.in-Some.ensures.first in
    let limit = c.args.self.now.round.limit in
    let step = subst (λ (r : Rounds). IsInStep g.row.SLOTS r.limit r.view) c.start.ensures.opened c.start.ensures.sound in
    subst (λ (r : Rounds). Collected g.row.SLOTS v (record v { queue = c.pop.new.self.ids; round = r.view }) d held held (act.Start id) None) (sym c.start.ensures.opened)
    (start-collected g.row.SLOTS v d held id c.pop.new.self.ids h agree c.requires.closed first limit c.args.self.now.round_sized step
    (first-loose g.row.SLOTS v d id c.pop.new.self.ids h first c.is_loose.result c.is_loose.ensures ∙ c.if-not-is_loose.false))
