use Rattle.brahma_shell.proofs.CallLemmas.{told-by_call}
use Rattle.brahma_shell.proofs.adding_lines.has_ended.Goals as goal

-- src/adding.rt:30:1
pub returns-in-Some : goal.returns-in-Some
returns-in-Some c = told-by_call c.args.calls.now c.items.result.now c.in-Some.call.now c.is_last.result c.is_last.ensures c.items.ensures c.in-Some.ensures.value
