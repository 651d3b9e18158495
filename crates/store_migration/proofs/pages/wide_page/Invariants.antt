use Rattle.store_migration.proofs.WidenedPages.{IsWidening}
use Rattle.store_migration.proofs.pages.wide_page.Given as goal

abbrev pub invariant-loop-cell : goal.invariant-loop-cell
invariant-loop-cell l = IsWidening l.number l.cell-items l.cell-index l.wide
