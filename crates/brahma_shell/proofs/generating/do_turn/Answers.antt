use Rattle.std.proofs.Common.{Err, ap, arith}
use Rattle.std.proofs.lemmas.Result.{err_from_is_err_and}
use Rattle.brahma_shell.specs.declared.replay.Stop.{Stop}
use Rattle.brahma_shell.proofs.TurnLemmas.{turn-both, turn-stops, turn-stops_behind}
use Rattle.brahma_shell.proofs.generating.do_turn.Goals as goal

pub returns-in_err-obey-clause-stopped : goal.returns-in_err-obey-clause-stopped
returns-in_err-obey-clause-stopped g c =
    let p = err_from_is_err_and c.from_residual.result c.from_residual.ensures.1 in
    rw (p.1, p.2)
    (turn-stops g.D.Disk.faults c.in_err-obey.field-0.0 c.args.store.now c.obey.new.store c.args.turn.now c.line_of.result _ _ c.line_of.ensures
    (λ e. let rose = c.in_err-obey.ensures.write (ap (λ (x : Stop). Err x) e) in omega (arith, rose)) c.in_err-obey.ensures.stopped)

pub returns-in_err-obey-2-clause-stopped : goal.returns-in_err-obey-2-clause-stopped
returns-in_err-obey-2-clause-stopped g c =
    let p = err_from_is_err_and c.from_residual-in_err-obey-2.result c.from_residual-in_err-obey-2.ensures.1 in
    rw (p.1, p.2)
    (turn-stops_behind g.D.Disk.faults c.in_err-obey-2.field-0.0 c.args.store.now c.obey.new.store c.obey-then-turn.new.store c.args.turn.now c.line_of.result c.in_ok-obey.ensures.ok.0 _ _ c.line_of.ensures c.if-turn.true c.in_ok-obey.ensures.ok.1 c.in_ok-obey.ensures.goes_on
    (λ e. let rose = c.in_err-obey-2.ensures.write (ap (λ (x : Stop). Err x) e) in omega (arith, rose)) c.in_err-obey-2.ensures.stopped)

pub returns-in_ok-obey-2-clause-ok : goal.returns-in_ok-obey-2-clause-ok
returns-in_ok-obey-2-clause-ok g c =
    turn-both c.args.store.now.journal c.obey.new.store.journal c.obey-then-turn.new.store.journal c.args.turn.now c.line_of.result c.in_ok-obey.ensures.ok.0 c.in_ok-obey-2.ensures.ok.0 c.line_of.ensures c.if-turn.true c.in_ok-obey.ensures.ok.1 c.in_ok-obey-2.ensures.ok.1
