use Rattle.std.proofs.Common.{◌≡◌, List, [], ℕ, inl, sym, subst, ◌∙◌}
use Rattle.plain_model.specs.declared.calls.Entry.TheVariants.{TurnBusy}
use Rattle.plain_model.specs.Text.{line_of}
use Rattle.script_lines.specs.declared.grammar.Line.TheVariants.{Turn}
use Rattle.script_lines.proofs.OutputLemmas.{Appends-none}
use Rattle.brahma_shell.specs.declared.replay.Stop.TheVariants as stop
use Rattle.brahma_shell.specs.Replay.{Performs}
use Rattle.brahma_shell.proofs.DoLemmas.{stops-call}
use Rattle.brahma_shell.proofs.UpkeepLemmas.{performs-turned, performs-busy, busy-told, busy-goes_on, busy-not_turned, busy-unwritten}
use Rattle.brahma_shell.proofs.upkeep.turn.Goals as goal

pub returns-in-Done-clause-ok : goal.returns-in-Done-clause-ok
returns-in-Done-clause-ok g c =
    let done = c.turn.ensures.done c.in-Done.is in
    ([], performs-turned c.args.store.now.journal c.turn.new.self.journal c.history.ensures.entries done.0 done.1, Appends-none (g.W.Sink.written c.args.out.now))

pub returns-in-Busy-clause-ok : goal.returns-in-Busy-clause-ok
returns-in-Busy-clause-ok g c =
    let busy = c.turn.ensures.busy c.in-Busy.pass c.in-Busy.is in
    let text : c.as_bytes.result.now ≡ line_of (TurnBusy c.in-Busy.pass) = c.as_bytes.ensures.value ∙ c.as_str.ensures.value ∙ c.turn_busy_line.ensures in
    let performs = subst (λ (t : List ℕ). Performs c.args.store.now.journal c.turn.new.self.journal Turn t) (sym text) (performs-busy c.args.store.now.journal c.turn.new.self.journal c.in-Busy.pass c.history.ensures.entries busy.0 busy.1) in
    busy-told c.print.result c.args.store.now.journal c.turn.new.self.journal c.as_bytes.result.now _ _ performs c.print.ensures.ok

pub returns-in-Busy-clause-goes_on : goal.returns-in-Busy-clause-goes_on
returns-in-Busy-clause-goes_on g c =
    let busy = c.turn.ensures.busy c.in-Busy.pass c.in-Busy.is in
    busy-goes_on g.D.Disk.faults c.print.result c.args.store.now c.turn.new.self busy.2

pub returns-in-Busy-clause-done : goal.returns-in-Busy-clause-done
returns-in-Busy-clause-done g c =
    let busy = c.turn.ensures.busy c.in-Busy.pass c.in-Busy.is in
    busy-not_turned g.D.Disk.may_leave c.print.result c.args.store.now c.turn.new.self c.in-Busy.pass busy.0

pub returns-in-Busy-clause-stopped : goal.returns-in-Busy-clause-stopped
returns-in-Busy-clause-stopped g c =
    let busy = c.turn.ensures.busy c.in-Busy.pass c.in-Busy.is in
    let text : c.as_bytes.result.now ≡ line_of (TurnBusy c.in-Busy.pass) = c.as_bytes.ensures.value ∙ c.as_str.ensures.value ∙ c.turn_busy_line.ensures in
    let performs = subst (λ (t : List ℕ). Performs c.args.store.now.journal c.turn.new.self.journal Turn t) (sym text) (performs-busy c.args.store.now.journal c.turn.new.self.journal c.in-Busy.pass c.history.ensures.entries busy.0 busy.1) in
    busy-unwritten g.D.Disk.faults c.print.result c.args.store.now c.turn.new.self c.as_bytes.result.now _ _ _ _ performs busy.2 c.print.ensures.err

pub returns-in-TraceFull-clause-stopped : goal.returns-in-TraceFull-clause-stopped
returns-in-TraceFull-clause-stopped g c =
    let h = rw c.in-TraceFull.is at c.turn.ensures.gives_up in
    inl (stops-call stop.Full Turn c.args.store.now.journal c.turn.new.self.journal _ _ h.0 (Appends-none (g.W.Sink.written c.args.out.now)), h.1)

pub returns-in-LogFull-clause-stopped : goal.returns-in-LogFull-clause-stopped
returns-in-LogFull-clause-stopped g c =
    let h = rw c.in-LogFull.is at c.turn.ensures.gives_up in
    inl (stops-call stop.LogFull Turn c.args.store.now.journal c.turn.new.self.journal _ _ h.0 (Appends-none (g.W.Sink.written c.args.out.now)), h.1)

pub returns-in-Memory-clause-stopped : goal.returns-in-Memory-clause-stopped
returns-in-Memory-clause-stopped g c =
    let h = rw c.in-Memory.is at c.turn.ensures.gives_up in
    inl (stops-call stop.Memory Turn c.args.store.now.journal c.turn.new.self.journal _ _ h.0 (Appends-none (g.W.Sink.written c.args.out.now)), h.1)
