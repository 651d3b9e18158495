use Rattle.std.proofs.Common.{refl, sym, subst, arith}
use Rattle.call_generator.specs.Generator.{Generating, Generates}
use Rattle.brahma_shell.proofs.EndLemmas.{granted-running, of-replay, sound-opening}
use Rattle.brahma_shell.proofs.GenEnds.{ends-unmade, ends-told, ends-stopped, stopped-at, opening-sound, opened-since, reads-since, size-since, turns-of-seed}
use Rattle.brahma_shell.proofs.generating.generate_in.Goals as goal

pub returns-in_default-clause-generated : goal.returns-in_default-clause-generated
returns-in_default-clause-generated g c =
    let v = c.args.store.now in
    let just = c.requires.opened in
    let h = c.history.ensures in
    let turns = turns-of-seed c.args.asked c.requires.clients in
    let journal = of-replay g.D.Disk.may_leave v just.store (sound-opening v.journal h.sound just.entries) (granted-running v just.running) h.legal h.running h.entries h.sound h.led h.lasting h.images h.opens in
    λ disk left reads faults le opened. ends-unmade g.D.Disk.content g.D.Disk.may_leave g.D.Disk.faults c.args.asked disk _ _ v v just turns.0 turns.1 opened just.size journal refl c.write_last.ensures.ends

pub returns-in-Ok-done-clause-generated : goal.returns-in-Ok-done-clause-generated
returns-in-Ok-done-clause-generated g c =
    let v = c.args.store.now in
    let w = c.do_turns-done.new.store in
    let just = c.requires.opened in
    let h = c.history-2.ensures in
    let ok = c.in-Ok-done.ensures in
    let turns = turns-of-seed c.args.asked c.requires.clients in
    let does = ok.ok turns.0 (subst (λ (x : Generating). Generates x turns.0) (sym c.in-Ok.ensures) turns.1) in
    let journal = of-replay g.D.Disk.may_leave w (opened-since v w does.notes just does.grows) (opening-sound v w does.notes just c.history.ensures.sound does.grows) (granted-running w ok.goes_on.running) h.legal h.running h.entries h.sound h.led h.lasting h.images h.opens in
    let t = c.tell.ensures in
    λ disk left reads faults le opened. ends-told g.D.Disk.content g.D.Disk.may_leave g.D.Disk.faults c.args.asked disk _ _ v w just turns.0 turns.1 (reads-since g.D.Disk.content disk v w does.notes does.grows opened) (size-since v w does.notes just does.grows) journal c.tell.result c.requires.clients does ok.goes_on t.statuses t.done t.write t.memory

pub returns-clause-generated : goal.returns-clause-generated
returns-clause-generated g c =
    let v = c.args.store.now in
    let w = c.do_turns-done.new.store in
    let just = c.requires.opened in
    let h = c.history-2.ensures in
    let s = c.in-Err.stop in
    let turns = turns-of-seed c.args.asked c.requires.clients in
    let stops = c.in-Err.ensures.stopped turns.0 (subst (λ (x : Generating). Generates x turns.0) (sym c.in-Ok.ensures) turns.1) in
    let at = stopped-at g.D.Disk.faults s v w _ stops in
    let journal = of-replay g.D.Disk.may_leave w (opened-since v w at.notes just at.grows) (opening-sound v w at.notes just c.history.ensures.sound at.grows) at.granted h.legal h.running h.entries h.sound h.led h.lasting h.images h.opens in
    rw c.end_stopped.ensures.status
    (λ disk left reads faults le opened. ends-stopped g.D.Disk.content g.D.Disk.may_leave g.D.Disk.faults c.args.asked disk _ _ v w just turns.0 turns.1 (reads-since g.D.Disk.content disk v w at.notes at.grows opened) (size-since v w at.notes just at.grows) journal s stops h.full h.log_full (λ rose. omega (arith, rose, le)) c.end_stopped.ensures.last)

pub returns-clause-disk_later : goal.returns-clause-disk_later
returns-clause-disk_later g c =
    let turns = turns-of-seed c.args.asked c.requires.clients in
    let stops = c.in-Err.ensures.stopped turns.0 (subst (λ (x : Generating). Generates x turns.0) (sym c.in-Ok.ensures) turns.1) in
    (stopped-at g.D.Disk.faults c.in-Err.stop c.args.store.now c.do_turns-done.new.store _ stops).later
