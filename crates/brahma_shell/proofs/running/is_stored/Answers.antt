use Rattle.cell_page.specs.Format.{page_of_id}
use Rattle.brahma_shell.proofs.SeenLemmas.{look-only, look-seen}
use Rattle.brahma_shell.proofs.running.is_stored.Goals as goal

pub returns-clause-only : goal.returns-clause-only
returns-clause-only g c =
    let p = c.in-Cell.ensures.peeks in
    look-only c.args.main.now.view c.peek.new.pass.view (page_of_id c.args.id) c.in-Cell.seen p.1.0 p.1.1

pub returns-clause-seen : goal.returns-clause-seen
returns-clause-seen g c =
    let p = c.in-Cell.ensures.peeks in
    look-seen c.args.main.now.view c.peek.new.pass.view c.args.id c.in-Cell.seen p.1.0 c.in-Cell.cell p.1.1 p.1.2 p.3
