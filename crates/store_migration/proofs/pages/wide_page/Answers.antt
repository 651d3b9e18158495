use Rattle.std.proofs.Common.{ℕ, ◌<◌, ◌≤◌, length, sym, subst, ap, ◌∙◌, rules}
use Rattle.cell_page.specs.Format.{IsPage, AreTyped}
use Rattle.store_migration.specs.Wider.{wide_page}
use Rattle.store_migration.proofs.WidenedPages.{widening-none, has_place, widening-more, widening-all}
use Rattle.store_migration.proofs.pages.wide_page.Goals as goal

pub loop-cell-init : goal.loop-cell-init
loop-cell-init c = widening-none c.args.number c.cells-cell-items.result.now c.fresh-wide.result c.fresh-wide.ensures.rules

pub put_cell-requires : goal.put_cell-requires
put_cell-requires c =
    let rules_items = subst (IsPage c.args.number) (sym c.cells-cell-items.ensures) c.requires.rules in
    let typed_items = subst AreTyped (sym c.cells-cell-items.ensures) c.requires.typed in
    let place = has_place c.args.number c.cells-cell-items.result.now c.loop-cell.cell-index c.loop-cell.wide _ rules_items typed_items c.loop-cell-test.true c.loop-cell.invariant in
    (search rules, (search rules, rw c.wide_cell.ensures place))

pub loop-cell-preserved : goal.loop-cell-preserved
loop-cell-preserved c =
    let rules_items = subst (IsPage c.args.number) (sym c.cells-cell-items.ensures) c.requires.rules in
    let typed_items = subst AreTyped (sym c.cells-cell-items.ensures) c.requires.typed in
    widening-more c.args.number c.cells-cell-items.result.now c.loop-cell.cell-index c.loop-cell.wide _ rules_items typed_items c.loop-cell-test.true c.put_cell.new.self c.loop-cell.invariant
    (rw c.wide_cell.ensures at c.put_cell.ensures.placed)

pub returns : goal.returns
returns c =
    widening-all c.args.number c.cells-cell-items.result.now c.loop-cell.cell-index c.loop-cell.wide (subst (IsPage c.args.number) (sym c.cells-cell-items.ensures) c.requires.rules) c.loop-cell-test.false c.loop-cell.invariant
    ∙ ap wide_page c.cells-cell-items.ensures
