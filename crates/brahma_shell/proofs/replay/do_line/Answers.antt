use Rattle.std.proofs.Common.{◌≡◌, ◌∙◌, inl, refl, sym, subst}
use Rattle.std.specs.Prelude.{Err, Ok}
use Rattle.script_lines.specs.Grammar.{IsAccepted, IsRefused}
use Rattle.brahma_shell.specs.Points.{point_of}
use Rattle.brahma_shell.specs.Runs.{ids_at}
use Rattle.brahma_shell.proofs.DoLemmas.{line_done, line_stopped, Keeps-same}
use Rattle.brahma_shell.proofs.LogLemmas.{StaysRunning-same}
use Rattle.brahma_shell.proofs.PointLemmas.{ids_of_point}
use Rattle.brahma_shell.proofs.replay.do_line.Goals as goal

pub returns-in-Ok-clause-ok : goal.returns-in-Ok-clause-ok
returns-in-Ok-clause-ok g c =
    let j = c.args.store.now.journal in
    let here : c.ids.result ≡ ids_at (point_of j) = c.ids.ensures.value ∙ sym (ids_of_point j) in
    let accepted = subst (λ i. IsAccepted i c.args.number c.args.bytes.now) here c.in-Some.ensures.value.0 in
    line_done (Ok tt) j c.obey.new.store.journal c.args.number c.args.bytes.now c.in-Some.line _ _ accepted c.in-Some.ensures.value.1 c.in-Ok.ensures.ok

pub returns-in-Err-clause-stopped : goal.returns-in-Err-clause-stopped
returns-in-Err-clause-stopped g c =
    let j = c.args.store.now.journal in
    let here : c.ids.result ≡ ids_at (point_of j) = c.ids.ensures.value ∙ sym (ids_of_point j) in
    let accepted = subst (λ i. IsAccepted i c.args.number c.args.bytes.now) here c.in-Some.ensures.value.0 in
    line_stopped g.D.Disk.faults (Err c.in-Err.stop) c.args.store.now c.obey.new.store c.args.number c.args.bytes.now c.in-Some.line _ _ accepted c.in-Some.ensures.value.1 c.in-Err.ensures.stopped

pub returns-in-None-clause-stopped : goal.returns-in-None-clause-stopped
returns-in-None-clause-stopped g c =
    let j = c.args.store.now.journal in
    let here : c.ids.result ≡ ids_at (point_of j) = c.ids.ensures.value ∙ sym (ids_of_point j) in
    inl ((refl, subst (λ i. IsRefused i c.args.number c.args.bytes.now) here c.in-None.ensures.value, refl, Keeps-same (g.W.Sink.written c.args.out.now)), StaysRunning-same g.D.Disk.faults c.args.store.now c.requires.running)
