use Rattle.std.proofs.Common.{ap, ◌∙◌}
use Rattle.logged_journal.specs.View.{LoggedView}
use Rattle.stored_map.proofs.crashing.disk_in.Goals as goal

pub returns-clause-disk : goal.returns-clause-disk
returns-clause-disk g c = c.into_disk.ensures.disk ∙ ap (λ (x : LoggedView _). x.disk) c.into_logged.ensures

pub returns-clause-left : goal.returns-clause-left
returns-clause-left g c = c.know_left.ensures.left c.requires.running
