use Rattle.restart_store.proofs.PageBytes.{fresh_count}
use Rattle.restart_store.proofs.pages.count.Goals as goal

pub returns-in-Fresh-clause-count : goal.returns-in-Fresh-clause-count
returns-in-Fresh-clause-count g c = fresh_count c.args.pages _ c.in-Fresh.is
