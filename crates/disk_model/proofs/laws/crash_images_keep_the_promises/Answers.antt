use Rattle.disk_model.proofs.Images.{torn_written, cut_whole}
use Rattle.disk_model.proofs.PlainDisk as plain
use Rattle.disk_model.proofs.laws.crash_images_keep_the_promises.Goals as goal

pub returns-clause-write : goal.returns-clause-write
returns-clause-write c = plain.write

pub returns-clause-cut : goal.returns-clause-cut
returns-clause-cut c = plain.cut

pub returns-clause-write_whole : goal.returns-clause-write_whole
returns-clause-write_whole c = torn_written

pub returns-clause-cut_whole : goal.returns-clause-cut_whole
returns-clause-cut_whole c = cut_whole

pub returns-clause-sync : goal.returns-clause-sync
returns-clause-sync c = plain.sync

pub returns-clause-look : goal.returns-clause-look
returns-clause-look c = plain.look

pub returns-clause-power_loss : goal.returns-clause-power_loss
returns-clause-power_loss c = plain.power_loss

pub returns-clause-only_now : goal.returns-clause-only_now
returns-clause-only_now c = plain.only_now
