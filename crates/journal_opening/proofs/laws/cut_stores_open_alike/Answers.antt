use Rattle.journal_opening.proofs.MakingLaws.{cut-alike}
use Rattle.journal_opening.proofs.laws.cut_stores_open_alike.Goals as goal

pub returns : goal.returns
returns c = cut-alike
