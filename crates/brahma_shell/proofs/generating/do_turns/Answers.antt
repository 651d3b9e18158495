use Rattle.std.proofs.Common.{Err, ap, ◌∙◌, arith}
use Rattle.std.proofs.lemmas.Result.{err_from_is_err_and}
use Rattle.brahma_shell.specs.declared.replay.Stop.{Stop}
use Rattle.brahma_shell.proofs.LogLemmas.{StaysRunning-trans}
use Rattle.brahma_shell.proofs.TurnLemmas.{sofar-more, sofar-all, sofar-stops, sofar-stops_all, on-ok-then, if-err-then}
use Rattle.brahma_shell.proofs.generating.do_turns.Goals as goal

pub turns-preserved : goal.turns-preserved
turns-preserved g c = record {
  sofar = sofar-more c.args.generator.now c.turns.generator c.next.new.self c.args.store.now.journal c.turns.store.journal c.do_turn.new.store.journal c.in-Some.turn c.turns.invariant.sofar c.in-Some.ensures.turn c.in_ok-do_turn.ensures.ok;
  goes_on = StaysRunning-trans g.D.Disk.faults c.args.store.now c.turns.store c.do_turn.new.store c.turns.invariant.goes_on c.in_ok-do_turn.ensures.goes_on;
}

pub returns-in_err-do_turn-clause-stopped : goal.returns-in_err-do_turn-clause-stopped
returns-in_err-do_turn-clause-stopped g c =
    let p = err_from_is_err_and c.from_residual.result c.from_residual.ensures.1 in
    rw (p.1, p.2)
    (sofar-stops g.D.Disk.faults c.in_err-do_turn.field-0.0 c.args.generator.now c.turns.generator c.args.store.now c.turns.store c.do_turn.new.store c.in-Some.turn c.turns.invariant.sofar c.turns.invariant.goes_on (c.in-Some.ensures.turn.0, c.in-Some.ensures.turn.1) c.in_err-do_turn.ensures.stopped)

pub returns-clause-ok : goal.returns-clause-ok
returns-clause-ok g c =
    on-ok-then _ _ c.collect_all.result (λ h. sofar-all c.args.generator.now c.turns.generator c.args.store.now.journal c.turns.store.journal c.collect_all.new.store.journal h.0 c.turns.invariant.sofar c.in_default.ensures.end.0 h.1) c.collect_all.ensures.ok

pub returns-clause-stopped : goal.returns-clause-stopped
returns-clause-stopped g c =
    if-err-then _ _ c.collect_all.result (λ s is h. sofar-stops_all g.D.Disk.faults s c.args.generator.now c.turns.generator c.args.store.now c.turns.store c.collect_all.new.store _ _ c.turns.invariant.sofar c.turns.invariant.goes_on c.in_default.ensures.end.0
    (λ e. let rose = c.collect_all.ensures.write (is ∙ ap (λ (x : Stop). Err x) e) in omega (arith, rose)) h) c.collect_all.ensures.stopped
