use Rattle.brahma_shell.proofs.KnownLemmas.{holds-now}
use Rattle.brahma_shell.proofs.running.know.Goals as goal

pub returns : goal.returns
returns g c =
    let j = c.journal-journal.ensures in
    let h = c.history.ensures in
    let m = c.marks-2.ensures in
    holds-now g.D.Disk.may_leave g.D.Disk.faults c.args.logged.now c.journal-journal.result.now c.history.result.now.list c.marks.result c.marks-2.result c.failed.result j.journal j.slots c.opening.ensures.graph h.running h.notes h.entries h.sound h.led c.marks.ensures.marks c.marks.ensures.full m.log m.full c.durable.ensures.lasting c.durable.ensures.images c.durable.ensures.opens c.failed.ensures.failed c.failed.ensures.counted c.failed.ensures.now c.failed.ensures.opened
