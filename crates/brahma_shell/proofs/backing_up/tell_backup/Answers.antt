use Rattle.std.proofs.Common.{◌≡◌, [], ⊎_elim, sym, subst, ◌∙◌}
use Rattle.std.specs.Prelude.{codes}
use Rattle.stream_writing.specs.declared.backup_refusal.BackupRefusal.TheVariants.{Disk, LogFull, Write}
use Rattle.script_lines.specs.Output.{EndsWith}
use Rattle.brahma_shell.proofs.backing_up.tell_backup.Goals as goal

pub returns-in-Err-Disk-clause-disk : goal.returns-in-Err-Disk-clause-disk
returns-in-Err-Disk-clause-disk g c six =
    let same : c.back_up.new.out ≡ c.args.out.now = ⊎_elim (λ w. let h : Disk ≡ Write = sym c.in-Err-Disk.field-0-is ∙ w in absurd (cc h)) (λ e. e) c.in-Err-Disk.ensures.unwritten in
    subst (λ out. EndsWith (g.W.Sink.written out) (g.W.Sink.written c.write_last.new.out) (g.W.Sink.faults out) (g.W.Sink.faults c.write_last.new.out) [] (codes "refused: disk\n")) same c.write_last.ensures.ends

pub returns-in-Err-LogFull-clause-limit : goal.returns-in-Err-LogFull-clause-limit
returns-in-Err-LogFull-clause-limit g c nine =
    let same : c.back_up.new.out ≡ c.args.out.now = ⊎_elim (λ w. let h : LogFull ≡ Write = sym c.in-Err-LogFull.field-0-is ∙ w in absurd (cc h)) (λ e. e) c.in-Err-LogFull.ensures.unwritten in
    subst (λ out. EndsWith (g.W.Sink.written out) (g.W.Sink.written c.write_last-in-Err-LogFull.new.out) (g.W.Sink.faults out) (g.W.Sink.faults c.write_last-in-Err-LogFull.new.out) [] (codes "refused: log\n")) same c.write_last-in-Err-LogFull.ensures.ends
