use Rattle.journal_opening.proofs.MakingLaws.{fresh-opens}
use Rattle.journal_opening.proofs.laws.fresh_stores_open.Goals as goal

pub returns : goal.returns
returns c = fresh-opens
