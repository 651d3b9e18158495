use Rattle.std.proofs.Common.{sym, subst}
use Rattle.cell_page.specs.Stored.{HoldsPage}
use Rattle.store_migration.specs.Wider.{all_wider}
use Rattle.store_migration.proofs.WidePages.{pages_are}
use Rattle.store_migration.proofs.images.wide_page_of.Goals as goal

pub returns-clause-holds : goal.returns-clause-holds
returns-clause-holds c =
    subst (HoldsPage (all_wider 8 c.args.replay.now.cells) c.args.number) (sym c.wide_page.ensures)
    (pages_are c.args.number c.args.replay.now.cells c.page-page.result.now c.cell-first.ensures.typed c.page-page.ensures.page).1
