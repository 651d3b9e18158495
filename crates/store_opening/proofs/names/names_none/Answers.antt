use Rattle.std.proofs.Common.{ℕ, ap, sym, ◌∙◌}
use Rattle.cell_model.specs.Cells.{is_live}
use Rattle.restart_laws.specs.Rules.{names_none}
use Rattle.store_opening.proofs.names.names_none.Goals as goal

pub returns-then-not-is_live-2-clause-broken : goal.returns-then-not-is_live-2-clause-broken
returns-then-not-is_live-2-clause-broken g c =
    let cells = c.args.replay.now.cells in
    let at = c.target_at-target.ensures in
    λ e. names_none c.args.id c.loop-slot.slot (sym c.is_live.ensures ∙ c.if-not-is_live.false) (λ z. c.if-target-ne0.true (at ∙ z))
    (ap (λ (t : ℕ). is_live cells t) (sym at) ∙ (sym c.is_live-then-target-ne0.ensures ∙ c.if-not-is_live-2.true))
