use Rattle.std.proofs.Common.{arith, ◌≤◌}
use Rattle.brahma_shell.proofs.CrashLemmas.{on-ok, on-err, stays-shut-kept, stays-shut-refused, stays-shut-memory, reopens, told-again, stops-told, history-ids}
use Rattle.brahma_shell.proofs.EndLemmas.{granted-running, of-replay, sound-opening}
use Rattle.brahma_shell.specs.Crashes.{shut}
use Rattle.brahma_shell.proofs.replaying.crash.Goals as goal
use Rattle.brahma_shell.proofs.SlotLemmas.{known-slots}

pub returns-then-is_err-clause-err : goal.returns-then-is_err-clause-err
returns-then-is_err-clause-err g c =
    let keeps = on-err c.lose_power.result c.is_err.result c.is_err.ensures.value c.if-is_err.true c.lose_power.ensures.keeps in
    let rose = on-err c.lose_power.result c.is_err.result c.is_err.ensures.value c.if-is_err.true c.lose_power.ensures.cause.failed in
    shut c.lose_power.new.self (stays-shut-kept g.D.Disk.content g.D.Disk.may_leave g.D.Disk.faults c.args.store c.into_disk-disk.result c.into_disk-disk.ensures c.history.ensures.opens _ _ _ _ c.lose_power.new.self keeps c.lose_power.ensures.cause.later rose c.write_last.ensures.ends)

pub returns-in-Ok-clause-ok : goal.returns-in-Ok-clause-ok
returns-in-Ok-clause-ok g c =
    let leaves = on-ok c.lose_power.result c.is_err.result c.is_err.ensures.value c.if-is_err.false c.lose_power.ensures.leaves in
    let h = c.history-in-Ok.ensures in
    let again = reopens g.D.Disk.content g.D.Disk.may_leave g.D.Disk.faults c.args.store c.into_disk-disk.result c.into_disk-disk.ensures c.history.ensures.opens c.lose_power.new.self leaves c.lose_power.ensures.cause.later c.in-Ok.store known-slots c.in-Ok.ensures.opened (history-ids c.args.store) (λ just. of-replay g.D.Disk.may_leave c.in-Ok.store just.store (sound-opening c.in-Ok.store.journal h.sound just.entries) (granted-running c.in-Ok.store just.running) h.legal h.running h.entries h.sound h.led h.lasting h.images h.opens) in
    told-again g.D.Disk.content g.D.Disk.may_leave g.D.Disk.faults c.args.store c.in-Ok.store _ _ (g.W.Sink.faults c.args.out.now) (g.W.Sink.faults c.tell_crash.new.out) c.tell_crash.result again c.tell_crash.ensures.ok

pub returns-in-Ok-clause-err : goal.returns-in-Ok-clause-err
returns-in-Ok-clause-err g c =
    let leaves = on-ok c.lose_power.result c.is_err.result c.is_err.ensures.value c.if-is_err.false c.lose_power.ensures.leaves in
    let opened = c.in-Ok.ensures.opened in
    let h = c.history-in-Ok.ensures in
    let again = reopens g.D.Disk.content g.D.Disk.may_leave g.D.Disk.faults c.args.store c.into_disk-disk.result c.into_disk-disk.ensures c.history.ensures.opens c.lose_power.new.self leaves c.lose_power.ensures.cause.later c.in-Ok.store known-slots opened (history-ids c.args.store) (λ just. of-replay g.D.Disk.may_leave c.in-Ok.store just.store (sound-opening c.in-Ok.store.journal h.sound just.entries) (granted-running c.in-Ok.store just.running) h.legal h.running h.entries h.sound h.led h.lasting h.images h.opens) in
    let later : g.D.Disk.faults c.lose_power.new.self ≤ g.D.Disk.faults c.in-Ok.store.disk = omega (arith, opened.counted.0, opened.counted.1) in
    stops-told g.D.Disk.content g.D.Disk.may_leave g.D.Disk.faults c.args.store c.in-Ok.store _ _ (g.W.Sink.faults c.args.out.now) (g.W.Sink.faults c.tell_crash.new.out) c.tell_crash.result again
    (λ status eight ends. stays-shut-memory g.D.Disk.content g.D.Disk.may_leave g.D.Disk.faults c.args.store c.into_disk-disk.result c.into_disk-disk.ensures c.history.ensures.opens c.lose_power.new.self leaves c.lose_power.ensures.cause.later g.D.Disk.moment g.D.Disk.left_since g.D.Disk.counts_now c.in-Ok.store.disk _ _ _ _ status c.in-Ok.ensures.opens_meanwhile later eight ends)
    c.tell_crash.ensures.memory c.tell_crash.ensures.write c.tell_crash.ensures.statuses

pub returns-in-Err-clause-err : goal.returns-in-Err-clause-err
returns-in-Err-clause-err g c =
    let leaves = on-ok c.lose_power.result c.is_err.result c.is_err.ensures.value c.if-is_err.false c.lose_power.ensures.leaves in
    shut c.in-Err.disk (stays-shut-refused g.D.Disk.content g.D.Disk.may_leave g.D.Disk.faults c.args.store c.into_disk-disk.result c.into_disk-disk.ensures c.history.ensures.opens c.lose_power.new.self leaves c.lose_power.ensures.cause.later g.D.Disk.moment g.D.Disk.left_since g.D.Disk.counts_now c.in-Err.refusal c.in-Err.disk _ _ _ _ c.refuse.result known-slots c.in-Err.ensures.refused c.in-Err.ensures.meanwhile c.in-Err.ensures.fault c.refuse.ensures.status c.refuse.ensures.last)
