use Rattle.page_area.proofs.InPlaceLaws.{read_back}
use Rattle.page_area.proofs.laws.written_pages_are_read.Goals as goal

pub returns : goal.returns
returns c = read_back
