use Rattle.std.proofs.Common.{ap}
use Rattle.opened_images.proofs.LogWays.{one_log}
use Rattle.log_printing.specs.Text.{text_of}
use Rattle.log_printing.proofs.ViewLaws.{undamaged_view, one_place_view}
use Rattle.log_printing.proofs.laws.logs_have_one_text.Goals as goal

pub returns : goal.returns
returns c =
    record {
      undamaged = λ slots pages place area batches known. undamaged_view known pages place area batches;
      place = λ slots pages place other area known. one_place_view known pages place other area;
      text = λ slots pages area these those known a b. ap (λ batches. text_of pages batches) (one_log known area pages pages these those a b).1;
    }
