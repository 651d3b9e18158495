use Rattle.opened_images.proofs.Bodies.{same_records}
use Rattle.opened_images.proofs.LogWays.{one_log, undamaged, one_place}
use Rattle.opened_images.proofs.logs_have_one_reading.Goals as goal

pub returns : goal.returns
returns c =
    record {
      body = λ slots rs ss known. same_records known rs ss;
      log = λ slots area pages count these those known. one_log known area pages count these those;
      undamaged = λ slots area pages place batches known. undamaged known area pages place batches;
      place = λ slots area place other known. one_place known area place other;
    }
