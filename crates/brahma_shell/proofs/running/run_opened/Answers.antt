use Rattle.std.proofs.Common.{rules, ◌≡◌, [], None, refl, sym, ap, subst, ◌∙◌, arith}
use Rattle.std.specs.Prelude.{option_map}
use Rattle.logged_journal.specs.View.{LoggedView}
use Rattle.framed_journal.specs.Holding.{AreFramesOf}
use Rattle.latch_table.specs.Views.{first_view}
use Rattle.shared_store.specs.Chronicles.View.{origin_of}
use Rattle.brahma_shell.specs.Ran.{Ran}
use Rattle.brahma_shell.specs.Running.{HasRun}
use Rattle.brahma_shell.specs.Top.{outside}
use Rattle.brahma_shell.proofs.EndLemmas.{granted-running, of-replay, sound-opening}
use Rattle.brahma_shell.proofs.StartLemmas.{may-run, room}
use Rattle.brahma_shell.proofs.RanLemmas.{ends-unrun, ends-run}
use Rattle.brahma_shell.proofs.running.run_opened.Goals as goal

pub new-requires-after_bounds : goal.new-requires-after_bounds
new-requires-after_bounds g c κs within =
    let f = c.into_parts-logged.ensures.frames in
    let same = c.into_parts-logged.ensures.logged in
    let running : c.into_parts-logged.result.0.failed ≡ None = ap (λ (v : LoggedView g.row.D.Denot). v.failed) same ∙ c.requires.opened.running in
    let notes : c.into_parts-logged.result.0.journal.notes ≡ [] = ap (λ (v : LoggedView g.row.D.Denot). v.journal.notes) same ∙ c.requires.opened.notes in
    let frames = subst (λ (v : LoggedView g.row.D.Denot). AreFramesOf v.journal c.into_parts-logged.result.1.items) (sym same) f in
    (search rules, (search rules, (search rules, (search rules, (frames.size.1, (running, (notes, ((frames.some, frames.few), (frames.pages, frames.agree)))))))))

pub run_clients-stored-requires-clause-room : goal.run_clients-stored-requires-clause-room
run_clients-stored-requires-clause-room g c κs within = room c.in-Ok.main.view (origin_of c.into_parts-logged.result.0) c.args.scripts.now c.in-Ok.ensures.ok.2 c.requires.scripts

pub run_clients-stored-requires-clause-may : goal.run_clients-stored-requires-clause-may
run_clients-stored-requires-clause-may g c κs within = may-run c.in-Ok.main.view (origin_of c.into_parts-logged.result.0) c.args.scripts.now c.in-Ok.ensures.ok.2 c.requires.scripts

pub returns-in-Ok-clause-ran : goal.returns-in-Ok-clause-ran
returns-in-Ok-clause-ran g c =
    let v = c.args.store in
    let w = c.close-logged.result.0 in
    let just = c.requires.opened in
    let h = c.history.ensures in
    let z = c.close-logged.ensures in
    let r = c.run_clients-stored.ensures in
    let same = c.into_parts-logged.ensures.logged in
    let first = c.in-Ok.ensures.ok.2 ∙ ap (λ (x : LoggedView g.row.D.Denot). first_view (origin_of x)) same in
    λ disk left later reads now faults asked h_asked le. (
      w,
      refl,
      ends-run g.D.Disk.content g.D.Disk.may_leave g.D.Disk.faults disk
          (outside left reads (g.W.Sink.written c.args.out.now) (g.W.Sink.faults c.args.out.now) faults)
          (outside later now (g.W.Sink.written c.tell-status.new.out) (g.W.Sink.faults c.tell-status.new.out) (g.D.Disk.faults w.disk))
          v w just (sound-opening v.journal h.sound just.entries) c.args.scripts.now c.requires.scripts asked c.in-Ok.main.view c.run_clients-stored.new.main.view c.close-logged.result.1.items first (option_map (λ live. live.items) c.run_clients-stored.result)
          (subst (λ n. HasRun g.row.D.Denot c.in-Ok.main.view c.run_clients-stored.new.main.view c.args.scripts.now n (option_map (λ live. live.items) c.run_clients-stored.result)) c.ids-ids.ensures.value r.run) r.alone z.whole z.history z.clients z.legal c.know.ensures
          c.tell-status.result h_asked.opened h_asked.of_lines h_asked.read c.tell-status.ensures (omega (arith, le, c.requires.counted)) refl,
    )

pub returns-clause-ran : goal.returns-clause-ran
returns-clause-ran g c =
    let v = c.args.store in
    let w = c.in-Err.logged in
    let just = c.requires.opened in
    let h = c.history.ensures in
    let same : w ≡ v = c.in-Err.ensures.back.0 ∙ c.into_parts-logged.ensures.logged in
    let journal = of-replay g.D.Disk.may_leave v just.store (sound-opening v.journal h.sound just.entries) (granted-running v just.running) h.legal h.running h.entries h.sound h.led h.lasting h.images h.opens in
    λ disk left later reads now faults asked h_asked le.
    let before = outside left reads (g.W.Sink.written c.args.out.now) (g.W.Sink.faults c.args.out.now) faults in
    let written = g.W.Sink.written c.end_stopped-status.new.out in
    let failed = g.W.Sink.faults c.end_stopped-status.new.out in
    let ran = ends-unrun g.D.Disk.content g.D.Disk.may_leave disk before (outside later now written failed (g.D.Disk.faults v.disk)) v just h_asked.opened journal c.end_stopped-status.ensures.last in (
      w,
      refl,
      subst (λ (x : LoggedView g.row.D.Denot). Ran g.D.Disk.content g.D.Disk.may_leave disk before (outside later now written failed (g.D.Disk.faults x.disk)) c.end_stopped-status.result x) (sym same)
          (subst (λ n. Ran g.D.Disk.content g.D.Disk.may_leave disk before (outside later now written failed (g.D.Disk.faults v.disk)) n v) (sym c.end_stopped-status.ensures.status) ran),
    )
