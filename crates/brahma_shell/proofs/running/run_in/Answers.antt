use Rattle.std.proofs.Common.{Err, List, refl, sym, ap, subst}
use Rattle.client_pass.specs.declared.script.ClientScript.{ClientScript}
use Rattle.logged_journal.specs.View.{LoggedView}
use Rattle.brahma_shell.specs.ClientScripts.{AreOfLines}
use Rattle.brahma_shell.specs.declared.replay.Stop.{Stop}
use Rattle.brahma_shell.specs.ClientLines.{ReadsAll, StopsReading}
use Rattle.brahma_shell.specs.Ran.{Ran}
use Rattle.brahma_shell.specs.Top.{outside}
use Rattle.brahma_shell.proofs.EndLemmas.{granted-running, of-replay, sound-opening}
use Rattle.brahma_shell.proofs.RanLemmas.{ends-unread}
use Rattle.brahma_shell.proofs.running.run_in.Goals as goal

pub returns-in-Ok-clause-ran : goal.returns-in-Ok-clause-ran
returns-in-Ok-clause-ran g c = λ disk faults le opened.
    let read = c.in-Ok.ensures.read in
    let left = g.R.Source.left c.args.source.now in
    let later = g.R.Source.left c.read_scripts.new.source in
    c.run_opened.ensures.ran disk left later (g.R.Source.faults c.args.source.now) (g.R.Source.faults c.read_scripts.new.source) faults read.0
    (record {
      opened = opened;
      read = subst (λ n. ReadsAll n left later read.0) c.ids.ensures.value read.2;
      of_lines = subst (λ (scripts : List ClientScript). AreOfLines read.0 scripts) (sym c.scripts-in-Ok.ensures.same) read.1;
    })
    le

pub returns-in-Err-clause-ran : goal.returns-in-Err-clause-ran
returns-in-Err-clause-ran g c =
    let v = c.args.store in
    let just = c.requires.opened in
    let h = c.history.ensures in
    let s = c.in-Err.stop in
    let left = g.R.Source.left c.args.source.now in
    let later = g.R.Source.left c.read_scripts.new.source in
    let journal = of-replay g.D.Disk.may_leave v just.store (sound-opening v.journal h.sound just.entries) (granted-running v just.running) h.legal h.running h.entries h.sound h.led h.lasting h.images h.opens in
    λ disk faults le opened.
    let before = outside left (g.R.Source.faults c.args.source.now) (g.W.Sink.written c.args.out.now) (g.W.Sink.faults c.args.out.now) faults in
    let now = g.R.Source.faults c.read_scripts.new.source in
    let written = g.W.Sink.written c.end_stopped-status.new.out in
    let failed = g.W.Sink.faults c.end_stopped-status.new.out in
    let ran = ends-unread g.D.Disk.content g.D.Disk.may_leave disk before (outside later now written failed (g.D.Disk.faults v.disk)) v just opened journal s
    (subst (λ n. StopsReading s n left later) c.ids.ensures.value c.in-Err.ensures.stopped) (λ e. c.in-Err.ensures.fault (ap (λ (x : Stop). Err x) e)) c.end_stopped-status.ensures.last in (
      c.into_logged.result,
      refl,
      subst (λ (x : LoggedView g.row.D.Denot). Ran g.D.Disk.content g.D.Disk.may_leave disk before (outside later now written failed (g.D.Disk.faults x.disk)) c.end_stopped-status.result x) (sym c.into_logged.ensures)
          (subst (λ n. Ran g.D.Disk.content g.D.Disk.may_leave disk before (outside later now written failed (g.D.Disk.faults v.disk)) n v) (sym c.end_stopped-status.ensures.status) ran),
    )
