use Rattle.std.proofs.Common.{◌≡◌, Err, sym, ap, ◌∙◌}
use Rattle.store_opening.specs.declared.open_refusal.OpenRefusal.TheVariants as refusal
use Rattle.current_log.specs.Current.{damaged_in}
use Rattle.log_printing.proofs.PrintLaws.{all_printed, part_printed, front_printed, none_changed}
use Rattle.log_printing.proofs.printing.print_log.Goals as goal

pub returns-in-Ok-print_records-clause-done : goal.returns-in-Ok-print_records-clause-done
returns-in-Ok-print_records-clause-done g c image reads =
    all_printed g.row.SLOTS image c.in-Ok.found.area c.in-Ok.found.pages c.in-Ok.found.len (c.in-Ok.ensures.found image reads) (g.D.Disk.content c.find_log.new.disk c.in-Ok.found.area)
    ((c.find_log.ensures.looks.keeps c.in-Ok.found.area).same ∙ reads c.in-Ok.found.area) (g.W.Sink.written c.args.out.now) (g.W.Sink.written c.print_records.new.out) c.in-Ok-print_records.ensures.all

pub returns-in-Err-Disk-clause-cut : goal.returns-in-Err-Disk-clause-cut
returns-in-Err-Disk-clause-cut g c e is =
    let same : refusal.Disk ≡ e = cc is in
    let d = c.in-Err-Disk.ensures.disk (ap Err c.in-Err-Disk.field-0-is) in
    record {
      text = d.0;
      written = d.1;
      starved = λ m. let h : refusal.Disk ≡ refusal.Memory = same ∙ m in absurd (cc h);
      failed = λ _ image reads. front_printed g.row.SLOTS image c.in-Ok.found.area c.in-Ok.found.pages c.in-Ok.found.len (c.in-Ok.ensures.found image reads) (g.D.Disk.content c.find_log.new.disk c.in-Ok.found.area)
          ((c.find_log.ensures.looks.keeps c.in-Ok.found.area).same ∙ reads c.in-Ok.found.area) (g.W.Sink.written c.args.out.now) (g.W.Sink.written c.print_records.new.out) d.0 d.2;
      refused = λ other. absurd (other (sym same));
    }

pub returns-in-Err-Write-clause-write : goal.returns-in-Err-Write-clause-write
returns-in-Err-Write-clause-write g c is image reads =
    part_printed g.row.SLOTS image c.in-Ok.found.area c.in-Ok.found.pages c.in-Ok.found.len (c.in-Ok.ensures.found image reads) (g.D.Disk.content c.find_log.new.disk c.in-Ok.found.area)
    ((c.find_log.ensures.looks.keeps c.in-Ok.found.area).same ∙ reads c.in-Ok.found.area) (g.W.Sink.written c.args.out.now) (g.W.Sink.written c.print_records.new.out)
    (c.in-Err-Write.ensures.write (ap Err c.in-Err-Write.field-0-is))

pub returns-in-Err-Changed-clause-refused : goal.returns-in-Err-Changed-clause-refused
returns-in-Err-Changed-clause-refused g c e is image reads =
    absurd (none_changed g.row.SLOTS image c.in-Ok.found.area c.in-Ok.found.pages c.in-Ok.found.len (c.in-Ok.ensures.found image reads) (g.D.Disk.content c.find_log.new.disk c.in-Ok.found.area)
    ((c.find_log.ensures.looks.keeps c.in-Ok.found.area).same ∙ reads c.in-Ok.found.area) (g.W.Sink.written c.args.out.now) (g.W.Sink.written c.print_records.new.out)
    (c.in-Err-Changed.ensures.changed c.in-Err-Changed.at (ap Err c.in-Err-Changed.field-0-is)).2)

pub returns-in-Err-Changed-clause-cut : goal.returns-in-Err-Changed-clause-cut
returns-in-Err-Changed-clause-cut g c e is =
    let same : c.damaged.result ≡ e = cc is in
    let value = sym c.damaged.ensures.value ∙ same in
    let d = c.in-Err-Changed.ensures.changed c.in-Err-Changed.at (ap Err c.in-Err-Changed.field-0-is) in
    record {
      text = d.0;
      written = d.1;
      starved = λ m. let h : damaged_in c.in-Ok.found.area c.in-Err-Changed.at ≡ refusal.Memory = value ∙ m in absurd (cc h);
      failed = λ f. let h : damaged_in c.in-Ok.found.area c.in-Err-Changed.at ≡ refusal.Disk = value ∙ f in absurd (cc h);
      refused = λ other image reads. absurd (none_changed g.row.SLOTS image c.in-Ok.found.area c.in-Ok.found.pages c.in-Ok.found.len (c.in-Ok.ensures.found image reads)
          (g.D.Disk.content c.find_log.new.disk c.in-Ok.found.area) ((c.find_log.ensures.looks.keeps c.in-Ok.found.area).same ∙ reads c.in-Ok.found.area)
          (g.W.Sink.written c.args.out.now) (g.W.Sink.written c.print_records.new.out) d.2);
    }
