use Rattle.std.proofs.lemmas.Result.{on_ok_weaker}
use Rattle.brahma_shell.proofs.AddLemmas.{extends-at, tells-at}
use Rattle.brahma_shell.proofs.adding_lines.add_at.Goals as goal

-- src/adding.rt:123:1
pub returns-clause-added : goal.returns-clause-added
returns-clause-added c = on_ok_weaker c.add_call.result (λ added. extends-at c.args.scripts.now.items c.args.place c.args.call c.index_mut.result.now c.add_call.new.txns c.index_mut.ensures.value added) c.add_call.ensures.added

pub returns-clause-refused : goal.returns-clause-refused
returns-clause-refused c = tells-at c.add_call.result c.args.scripts.now.items c.args.place c.args.call c.index_mut.result.now c.index_mut.ensures.value c.add_call.ensures.refused
