use Rattle.page_area.proofs.InPlaceLaws.{torn_others}
use Rattle.page_area.proofs.laws.other_pages_stay.Goals as goal

pub returns : goal.returns
returns c = torn_others
