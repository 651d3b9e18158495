use Rattle.std.proofs.Common.{refl, sym, ◌∙◌, arith}
use mir.Syntax.{of_param}
use Rattle.brahma_shell.specs.declared.commands.Command.TheVariants.{Init, Replay, Gen, Audit, Migrate, Backup, Ship, Log, Standby, Check, Map}
use Rattle.brahma_shell.specs.Commands.{command_of}
use Rattle.brahma_shell.proofs.AnswerLemmas.{asks-nothing, asks-starved, asks-init, asks-replay, asks-gen, asks-audit, asks-migrate, asks-backup, asks-ship, asks-log, asks-standby, pages-within, named}
use Rattle.brahma_shell.proofs.CheckedLemmas.{asks-check}
use Rattle.brahma_shell.proofs.MapAnswers.{asks-map}
use Rattle.brahma_shell.proofs.FewLemmas.{gen-few}
use Rattle.brahma_shell.proofs.top.command.Goals as goal

pub make_store-requires : goal.make_store-requires
make_store-requires g c =
    let at = c.in-Ok-Some-Init in
    let send = c.type_bounds.send-D in
    (record { owned = send.owned; leaving = λ k. send.leaving (λ _. k (of_param 1)) }, pages-within c.args.words.now at.pages (sym (named at.field-0 (command_of c.args.words.now) at.field-0-0 (Init at.pages) at.ensures.value at.field-0-is at.field-0-0-is)))

pub returns-in-Ok-Some-Init : goal.returns-in-Ok-Some-Init
returns-in-Ok-Some-Init g c =
    let at = c.in-Ok-Some-Init in
    let asked = named at.field-0 (command_of c.args.words.now) at.field-0-0 (Init at.pages) at.ensures.value at.field-0-is at.field-0-0-is in
    let made = c.make_store.ensures in
    asks-init g.D.Disk.content g.D.Disk.may_leave g.D.Disk.moment g.D.Disk.left_since _ _ _ _ _ _ _ _ (record { reads = omega arith; writes = made.out_later; disk = made.disk_later }) g.D.Disk.reads_may_stay g.D.Disk.counts_now at.pages asked refl
    (made.made (g.R.Source.left c.args.script.now) (g.R.Source.faults c.args.script.now))

pub returns-in-Ok-Some-Replay : goal.returns-in-Ok-Some-Replay
returns-in-Ok-Some-Replay g c =
    let at = c.in-Ok-Some-Replay in
    let asked = named at.field-0 (command_of c.args.words.now) at.field-0-0 Replay at.ensures.value at.field-0-is at.field-0-0-is in
    let r = c.replay_script.ensures in
    asks-replay g.D.Disk.content g.D.Disk.may_leave g.D.Disk.moment g.D.Disk.left_since _ _ _ _ _ _ _ _ r.later g.D.Disk.reads_may_stay g.D.Disk.counts_now asked r.statuses r.replayed

pub generate_calls-requires : goal.generate_calls-requires
generate_calls-requires g c =
    let at = c.in-Ok-Some-Gen in
    let send = c.type_bounds.send-D in
    (record { owned = send.owned; leaving = λ k. send.leaving (λ _. k (of_param 1)) }, gen-few c.args.words.now at.asked (named at.field-0 (command_of c.args.words.now) at.field-0-0 (Gen at.asked) at.ensures.value at.field-0-is at.field-0-0-is))

pub returns-in-Ok-Some-Gen : goal.returns-in-Ok-Some-Gen
returns-in-Ok-Some-Gen g c =
    let at = c.in-Ok-Some-Gen in
    let asked = named at.field-0 (command_of c.args.words.now) at.field-0-0 (Gen at.asked) at.ensures.value at.field-0-is at.field-0-0-is in
    let r = c.generate_calls.ensures in
    asks-gen g.D.Disk.content g.D.Disk.may_leave g.D.Disk.moment g.D.Disk.left_since _ _ _ _ _ _ _ _ (record { reads = omega arith; writes = r.out_later; disk = r.disk_later }) g.D.Disk.reads_may_stay g.D.Disk.counts_now at.asked asked r.statuses refl
    (r.generated (g.R.Source.left c.args.script.now) (g.R.Source.faults c.args.script.now))

pub returns-in-Ok-Some-Audit : goal.returns-in-Ok-Some-Audit
returns-in-Ok-Some-Audit g c =
    let at = c.in-Ok-Some-Audit in
    let asked = named at.field-0 (command_of c.args.words.now) at.field-0-0 Audit at.ensures.value at.field-0-is at.field-0-0-is in
    let a = c.audit_store.ensures in
    asks-audit g.D.Disk.content g.D.Disk.may_leave g.D.Disk.moment g.D.Disk.left_since _ _ _ _ _ _ _ _ (record { reads = omega arith; writes = a.out_later; disk = a.disk_later }) g.D.Disk.reads_may_stay g.D.Disk.counts_now asked a.statuses refl
    (a.audited (g.R.Source.left c.args.script.now) (g.R.Source.faults c.args.script.now))

pub returns-in-Ok-Some-Migrate : goal.returns-in-Ok-Some-Migrate
returns-in-Ok-Some-Migrate g c =
    let at = c.in-Ok-Some-Migrate in
    let asked = named at.field-0 (command_of c.args.words.now) at.field-0-0 Migrate at.ensures.value at.field-0-is at.field-0-0-is in
    let m = c.migrate_store.ensures in
    asks-migrate g.D.Disk.content g.D.Disk.may_leave g.D.Disk.moment g.D.Disk.left_since _ _ _ _ _ _ _ _ (record { reads = omega arith; writes = m.out_later; disk = m.disk_later }) g.D.Disk.reads_may_stay g.D.Disk.counts_now asked m.statuses refl
    (m.migrated (g.R.Source.left c.args.script.now) (g.R.Source.faults c.args.script.now))

pub returns-in-Ok-Some-Backup : goal.returns-in-Ok-Some-Backup
returns-in-Ok-Some-Backup g c =
    let at = c.in-Ok-Some-Backup in
    let asked = named at.field-0 (command_of c.args.words.now) at.field-0-0 Backup at.ensures.value at.field-0-is at.field-0-0-is in
    let b = c.back_up_store.ensures in
    asks-backup g.D.Disk.content g.D.Disk.may_leave g.D.Disk.moment g.D.Disk.left_since _ _ _ _ _ _ _ _ (record { reads = omega arith; writes = b.out_later; disk = b.disk_later }) g.D.Disk.reads_may_stay g.D.Disk.counts_now asked b.statuses refl
    (b.backed_up (g.R.Source.left c.args.script.now) (g.R.Source.faults c.args.script.now))

pub returns-in-Ok-Some-Ship : goal.returns-in-Ok-Some-Ship
returns-in-Ok-Some-Ship g c =
    let at = c.in-Ok-Some-Ship in
    let asked = named at.field-0 (command_of c.args.words.now) at.field-0-0 Ship at.ensures.value at.field-0-is at.field-0-0-is in
    let s = c.ship_log.ensures in
    asks-ship g.D.Disk.content g.D.Disk.may_leave g.D.Disk.moment g.D.Disk.left_since _ _ _ _ _ _ _ _ (record { reads = omega arith; writes = s.out_later; disk = s.disk_later }) g.D.Disk.reads_may_stay g.D.Disk.counts_now asked refl
    (s.shipped (g.R.Source.left c.args.script.now) (g.R.Source.faults c.args.script.now))

pub returns-in-Ok-Some-Log : goal.returns-in-Ok-Some-Log
returns-in-Ok-Some-Log g c =
    let at = c.in-Ok-Some-Log in
    let asked = named at.field-0 (command_of c.args.words.now) at.field-0-0 Log at.ensures.value at.field-0-is at.field-0-0-is in
    let l = c.log_text.ensures in
    asks-log g.D.Disk.content g.D.Disk.may_leave g.D.Disk.moment g.D.Disk.left_since _ _ _ _ _ _ _ _ (record { reads = omega arith; writes = l.out_later; disk = l.disk_later }) g.D.Disk.reads_may_stay g.D.Disk.counts_now asked refl
    (l.logged (g.R.Source.left c.args.script.now) (g.R.Source.faults c.args.script.now))

pub returns-in-Ok-Some-Standby : goal.returns-in-Ok-Some-Standby
returns-in-Ok-Some-Standby g c =
    let at = c.in-Ok-Some-Standby in
    let asked = named at.field-0 (command_of c.args.words.now) at.field-0-0 Standby at.ensures.value at.field-0-is at.field-0-0-is in
    let s = c.make_standby.ensures in
    asks-standby g.D.Disk.content g.D.Disk.may_leave g.D.Disk.moment g.D.Disk.left_since _ _ _ _ _ _ _ _ s.later g.D.Disk.reads_may_stay g.D.Disk.counts_now asked s.stood_by

pub returns-in-Ok-Some-Check : goal.returns-in-Ok-Some-Check
returns-in-Ok-Some-Check g c =
    let at = c.in-Ok-Some-Check in
    let asked = named at.field-0 (command_of c.args.words.now) at.field-0-0 Check at.ensures.value at.field-0-is at.field-0-0-is in
    let k = c.check_source.ensures in
    asks-check g.D.Disk.content g.D.Disk.may_leave g.D.Disk.moment g.D.Disk.left_since _ _ _ _ _ _ _ _ (record { reads = k.read_later; writes = k.out_later; disk = omega arith }) g.D.Disk.reads_may_stay g.D.Disk.counts_now
    g.D.Disk.only_now asked refl (k.checked (g.D.Disk.faults c.args.disk))

pub returns-in-Ok-Some-Map : goal.returns-in-Ok-Some-Map
returns-in-Ok-Some-Map g c =
    let at = c.in-Ok-Some-Map in
    let asked = named at.field-0 (command_of c.args.words.now) at.field-0-0 Map at.ensures.value at.field-0-is at.field-0-0-is in
    let m = c.map_store.ensures in
    asks-map g.D.Disk.content g.D.Disk.may_leave g.D.Disk.moment g.D.Disk.left_since _ _ _ _ _ _ _ _ m.later g.D.Disk.reads_may_stay g.D.Disk.counts_now asked m.statuses m.mapped

pub returns-in-Ok-None : goal.returns-in-Ok-None
returns-in-Ok-None g c =
    let last = c.write_last.ensures in
    asks-nothing g.D.Disk.content g.D.Disk.may_leave g.D.Disk.moment g.D.Disk.left_since _ _ _ _ _ _ _ _ (record { reads = omega arith; writes = last.later; disk = omega arith })
    g.D.Disk.reads_may_stay g.D.Disk.counts_now g.D.Disk.only_now (sym c.in-Ok-None.ensures.value ∙ c.in-Ok-None.field-0-is) refl refl refl last.ends

pub returns-in-Err : goal.returns-in-Err
returns-in-Err g c =
    let last = c.write_last-in-Err.ensures in
    asks-starved g.D.Disk.content g.D.Disk.may_leave g.D.Disk.moment g.D.Disk.left_since _ _ _ _ _ _ _ _ (record { reads = omega arith; writes = last.later; disk = omega arith })
    g.D.Disk.reads_may_stay g.D.Disk.counts_now g.D.Disk.only_now c.in-Err.ensures.memory refl refl refl last.ends
