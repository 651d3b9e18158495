use Rattle.cell_page.specs.Stored.{cell_of}
use Rattle.core_store.proofs.SlotPages.{changed-edit}
use Rattle.core_store.proofs.slots.put_back.Goals as goal

pub returns-clause-changed : goal.returns-clause-changed
returns-clause-changed g c all agree =
    changed-edit all c.args.held.now c.put_cell.new.self c.args.zeros.now.items c.args.cell.id (cell_of c.args.cell) c.requires.place (c.put_cell.ensures.stored all agree)
