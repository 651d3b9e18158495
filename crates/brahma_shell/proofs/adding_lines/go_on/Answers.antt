use Rattle.brahma_shell.proofs.TransactionLemmas.{went-on}
use Rattle.brahma_shell.proofs.adding_lines.go_on.Goals as goal

-- src/adding.rt:62:1
pub returns-in-Ok-clause-added : goal.returns-in-Ok-clause-added
returns-in-Ok-clause-added c = went-on c.args.txns.now c.args.call c.push_call.new.self c.requires.some c.requires.still c.requires.inside c.in-Ok.ensures.ok
