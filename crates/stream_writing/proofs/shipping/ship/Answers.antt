use Rattle.std.proofs.Common.{Err, ap, ◌∙◌}
use Rattle.stream_writing.proofs.ShipLaws.{all_written, part_written, front_written}
use Rattle.stream_writing.proofs.shipping.ship.Goals as goal

pub returns-in-Ok-copy_front-clause-done : goal.returns-in-Ok-copy_front-clause-done
returns-in-Ok-copy_front-clause-done g c image reads =
    all_written g.row.SLOTS image c.in-Ok.found.area c.in-Ok.found.pages c.in-Ok.found.len (c.in-Ok.ensures.found image reads) (g.D.Disk.content c.find_log.new.disk c.in-Ok.found.area)
    ((c.find_log.ensures.looks.keeps c.in-Ok.found.area).same ∙ reads c.in-Ok.found.area) (g.W.Sink.written c.args.out.now) (g.W.Sink.written c.copy_front.new.out) c.in-Ok-copy_front.ensures.copied

pub returns-in-Err-Disk-clause-cut : goal.returns-in-Err-Disk-clause-cut
returns-in-Err-Disk-clause-cut g c is =
    let front = c.in-Err-Disk.ensures.disk (ap Err c.in-Err-Disk.field-0-is) in (
      front.2.bytes,
      front.2.written,
      λ image reads. front_written g.row.SLOTS image c.in-Ok.found.area c.in-Ok.found.pages c.in-Ok.found.len (c.in-Ok.ensures.found image reads) (g.D.Disk.content c.find_log.new.disk c.in-Ok.found.area)
          ((c.find_log.ensures.looks.keeps c.in-Ok.found.area).same ∙ reads c.in-Ok.found.area) (g.W.Sink.written c.args.out.now) (g.W.Sink.written c.copy_front.new.out) front.0 front.1 front.2,
    )

pub returns-in-Err-Write-clause-write : goal.returns-in-Err-Write-clause-write
returns-in-Err-Write-clause-write g c is image reads =
    part_written g.row.SLOTS image c.in-Ok.found.area c.in-Ok.found.pages c.in-Ok.found.len (c.in-Ok.ensures.found image reads) (g.D.Disk.content c.find_log.new.disk c.in-Ok.found.area)
    ((c.find_log.ensures.looks.keeps c.in-Ok.found.area).same ∙ reads c.in-Ok.found.area) (g.W.Sink.written c.args.out.now) (g.W.Sink.written c.copy_front.new.out)
    (c.in-Err-Write.ensures.write (ap Err c.in-Err-Write.field-0-is))
