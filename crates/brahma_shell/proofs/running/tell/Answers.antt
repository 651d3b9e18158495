use Rattle.std.specs.Prelude.{option_map}
use Rattle.brahma_shell.specs.Telling.{shown}
use Rattle.brahma_shell.proofs.ToldLemmas.{tells-ids}
use Rattle.brahma_shell.proofs.running.tell.Goals as goal

pub returns-in-None : goal.returns-in-None
returns-in-None g c =
    let before = shown (g.W.Sink.written c.args.out.now) (g.W.Sink.faults c.args.out.now) in
    let middle = shown (g.W.Sink.written c.print_history.new.out) (g.W.Sink.faults c.print_history.new.out) in
    let after = shown (g.W.Sink.written c.tell_stored.new.out) (g.W.Sink.faults c.tell_stored.new.out) in
    tells-ids c.args.logged.now (option_map (λ live. live.items) c.args.stored) before middle after c.in-Ok.ensures.ok c.in-Ok.ensures.later c.tell_stored.result c.in-None.ensures c.tell_stored.ensures
