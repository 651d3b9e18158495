use Rattle.std.proofs.Common.{ℕ, ◌*◌, ap, sym, subst, refl, ◌∙◌, length}
use Rattle.std.specs.Prelude.{Option, IfNone}
use Rattle.cell_model.specs.Cells.{Cell}
use Rattle.restart_laws.proofs.RuleLaws.{rules-consistent}
use Rattle.store_opening.specs.Kept.{IsKept}
use Rattle.store_opening.proofs.RuleLaws.{first-root, kept-below-2, kept-below-next, all-rules}
use Rattle.store_opening.proofs.rules.first_broken.Goals as goal

pub returns-then-not-is_live-clause-broken : goal.returns-then-not-is_live-clause-broken
returns-then-not-is_live-clause-broken g c =
    first-root c.args.replay.now.cells (ap (λ (d : Cell). d.live) c.last_id-last.ensures.none) (sym c.is_live.ensures ∙ c.if-not-is_live.true)

pub returns-clause-consistent : goal.returns-clause-consistent
returns-clause-consistent g c =
    let cells = c.args.replay.now.cells in
    let kept_3 = subst (λ (o : Option ℕ). IfNone o (IsKept cells 3)) c.in_default-2.is c.in_ok-id.ensures.none in
    let kept_4 = subst (λ (o : Option ℕ). IfNone o (IsKept cells 4)) c.in_default-3.is c.in_ok-id-2.ensures.none in
    let live = sym c.is_live.ensures ∙ c.if-not-is_live.false in
    let below_3 = kept-below-next cells 2 3 refl (kept-below-2 cells live) c.in_default.ensures.none in
    let below_5 = kept-below-next cells 4 5 refl (kept-below-next cells 3 4 refl below_3 kept_3) kept_4 in
    rules-consistent g.row.SLOTS (8 * length c.args.replay.now.skips) cells c.in_default.ensures.pages (all-rules cells below_5)
