use Rattle.std.proofs.Common.{◌*◌, length, ap, Err}
use Rattle.opened_store.proofs.OpenLaws.{opens-stuck}
use Rattle.opened_store.proofs.tested.undo.Goals as goal

pub returns-in-Err-Unsound-clause-refused : goal.returns-in-Err-Unsound-clause-refused
returns-in-Err-Unsound-clause-refused g c =
    λ image s. opens-stuck g.row.SLOTS image c.args.replay.now (8 * length c.args.replay.now.skips) c.in-Err-Unsound.id s c.requires.rules (c.in-Err-Unsound.ensures.refused c.in-Err-Unsound.id (ap Err c.in-Err-Unsound.field-0-is))
