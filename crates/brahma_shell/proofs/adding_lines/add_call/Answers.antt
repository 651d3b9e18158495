use Rattle.std.proofs.lemmas.Result.{on_ok_weaker}
use Rattle.std.proofs.Common.{sym, ◌∙◌}
use Rattle.brahma_shell.proofs.AddLemmas.{out-of_memory}
use Rattle.brahma_shell.proofs.TransactionLemmas.{call-begun}
use Rattle.brahma_shell.specs.LineOrder.{MayFollow}
use Rattle.brahma_shell.specs.ClientScripts.{all_calls}
use Rattle.brahma_shell.proofs.adding_lines.add_call.Goals as goal

-- src/adding.rt:77:1
pub returns-in-true-true-clause-added : goal.returns-in-true-true-clause-added
returns-in-true-true-clause-added c = on_ok_weaker c.begin.result (λ is. call-begun c.args.txns.now c.args.call c.begin.new.txns c.requires c.in-true-true.ensures c.in-true-true.ensures' is) c.begin.ensures.added

pub returns-in-true-true-clause-refused : goal.returns-in-true-true-clause-refused
returns-in-true-true-clause-refused c = out-of_memory c.begin.result (MayFollow (all_calls c.args.txns.now) c.args.call) (sym c.in-true-true.ensures ∙ c.in-true-true.ensures') c.begin.ensures.refused
