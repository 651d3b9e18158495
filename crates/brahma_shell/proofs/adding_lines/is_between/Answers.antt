use Rattle.brahma_shell.proofs.CallLemmas.{told-by_last}
use Rattle.brahma_shell.proofs.adding_lines.is_between.Goals as goal

-- src/adding.rt:40:1
pub returns-in-Some : goal.returns-in-Some
returns-in-Some c = told-by_last c.args.txns.now c.items.result.now c.in-Some.calls.now c.has_ended.result c.has_ended.ensures c.items.ensures c.in-Some.ensures.value
