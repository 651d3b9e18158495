use Rattle.std.proofs.Common.{sym, ◌∙◌, arith, rules}
use Rattle.store_opening.proofs.RuleLaws.{named-within}
use Rattle.store_opening.proofs.live_cells.strong_target.Goals as goal

pub cell-requires-2 : goal.cell-requires-2
cell-requires-2 g c =
    let n = c.if-target-eq0.false in
    let live = sym c.is_live.ensures ∙ c.if-not-is_live.false in
    (search rules, (search rules, (omega (arith, n), named-within c.args.replay.now.cells c.args.id c.args.slot c.target_at-target.result c.requires.named live c.target_at-target.ensures n)))
