use Rattle.std.proofs.Common.{length}
use Rattle.disk_model.specs.declared.area.Area.TheVariants.{Pages}
use Rattle.disk_model.specs.Told.{IsImageBut}
use Rattle.disk_model.proofs.Moments.{no_call, one_more, keeps_still}
use Rattle.opened_store.specs.Lengths.{Extends}
use Rattle.opened_store.proofs.LengthLaws.{left-settled, left-written, images-but, left-kept, told-len}
use Rattle.opened_store.proofs.lengthening.write_behind.Goals as goal

pub returns-in_err-write_at-clause-left : goal.returns-in_err-write_at-clause-left
returns-in_err-write_at-clause-left g c = λ b settled told. left-written g.D.Disk.content g.D.Disk.may_leave c.args.disk.now c.write_at.new.self b c.args.len (length c.args.bytes.now) settled told (told-len g.D.Disk.content g.D.Disk.may_leave (g.D.Disk.content c.args.disk.now Pages) c.args.len b c.requires.len told) c.write_at.ensures.left

pub returns-in_err-write_at-clause-moments : goal.returns-in_err-write_at-clause-moments
returns-in_err-write_at-clause-moments g c = λ b settled told. one_more (no_call g.D.Disk.may_leave (IsImageBut g.D.Disk.may_leave c.args.disk.now Pages (Extends b)) g.D.Disk.only_now (λ image may. record { here = left-settled g.D.Disk.content g.D.Disk.may_leave c.args.disk.now b settled told _ (may Pages); others = λ other apart. may other })) c.write_at.ensures.time (images-but g.D.Disk.content g.D.Disk.may_leave c.args.disk.now c.write_at.new.self (Extends b) c.write_at.ensures.keeps (left-written g.D.Disk.content g.D.Disk.may_leave c.args.disk.now c.write_at.new.self b c.args.len (length c.args.bytes.now) settled told (told-len g.D.Disk.content g.D.Disk.may_leave (g.D.Disk.content c.args.disk.now Pages) c.args.len b c.requires.len told) c.write_at.ensures.left))

pub returns-in_err-sync-clause-left : goal.returns-in_err-sync-clause-left
returns-in_err-sync-clause-left g c = λ b settled told. left-kept g.D.Disk.content g.D.Disk.may_leave c.write_at.new.self c.sync.new.self (Extends b) c.sync.ensures.keeps (left-written g.D.Disk.content g.D.Disk.may_leave c.args.disk.now c.write_at.new.self b c.args.len (length c.args.bytes.now) settled told (told-len g.D.Disk.content g.D.Disk.may_leave (g.D.Disk.content c.args.disk.now Pages) c.args.len b c.requires.len told) c.write_at.ensures.left)

pub returns-in_err-sync-clause-moments : goal.returns-in_err-sync-clause-moments
returns-in_err-sync-clause-moments g c = λ b settled told. one_more (one_more (no_call g.D.Disk.may_leave (IsImageBut g.D.Disk.may_leave c.args.disk.now Pages (Extends b)) g.D.Disk.only_now (λ image may. record { here = left-settled g.D.Disk.content g.D.Disk.may_leave c.args.disk.now b settled told _ (may Pages); others = λ other apart. may other })) c.write_at.ensures.time (images-but g.D.Disk.content g.D.Disk.may_leave c.args.disk.now c.write_at.new.self (Extends b) c.write_at.ensures.keeps (left-written g.D.Disk.content g.D.Disk.may_leave c.args.disk.now c.write_at.new.self b c.args.len (length c.args.bytes.now) settled told (told-len g.D.Disk.content g.D.Disk.may_leave (g.D.Disk.content c.args.disk.now Pages) c.args.len b c.requires.len told) c.write_at.ensures.left))) c.sync.ensures.time (images-but g.D.Disk.content g.D.Disk.may_leave c.args.disk.now c.sync.new.self (Extends b) (keeps_still c.write_at.ensures.keeps c.sync.ensures.keeps) (left-kept g.D.Disk.content g.D.Disk.may_leave c.write_at.new.self c.sync.new.self (Extends b) c.sync.ensures.keeps (left-written g.D.Disk.content g.D.Disk.may_leave c.args.disk.now c.write_at.new.self b c.args.len (length c.args.bytes.now) settled told (told-len g.D.Disk.content g.D.Disk.may_leave (g.D.Disk.content c.args.disk.now Pages) c.args.len b c.requires.len told) c.write_at.ensures.left)))

pub returns-clause-left : goal.returns-clause-left
returns-clause-left g c = λ b settled told. left-kept g.D.Disk.content g.D.Disk.may_leave c.write_at.new.self c.sync.new.self (Extends b) c.sync.ensures.keeps (left-written g.D.Disk.content g.D.Disk.may_leave c.args.disk.now c.write_at.new.self b c.args.len (length c.args.bytes.now) settled told (told-len g.D.Disk.content g.D.Disk.may_leave (g.D.Disk.content c.args.disk.now Pages) c.args.len b c.requires.len told) c.write_at.ensures.left)

pub returns-clause-moments : goal.returns-clause-moments
returns-clause-moments g c = λ b settled told. one_more (one_more (no_call g.D.Disk.may_leave (IsImageBut g.D.Disk.may_leave c.args.disk.now Pages (Extends b)) g.D.Disk.only_now (λ image may. record { here = left-settled g.D.Disk.content g.D.Disk.may_leave c.args.disk.now b settled told _ (may Pages); others = λ other apart. may other })) c.write_at.ensures.time (images-but g.D.Disk.content g.D.Disk.may_leave c.args.disk.now c.write_at.new.self (Extends b) c.write_at.ensures.keeps (left-written g.D.Disk.content g.D.Disk.may_leave c.args.disk.now c.write_at.new.self b c.args.len (length c.args.bytes.now) settled told (told-len g.D.Disk.content g.D.Disk.may_leave (g.D.Disk.content c.args.disk.now Pages) c.args.len b c.requires.len told) c.write_at.ensures.left))) c.sync.ensures.time (images-but g.D.Disk.content g.D.Disk.may_leave c.args.disk.now c.sync.new.self (Extends b) (keeps_still c.write_at.ensures.keeps c.sync.ensures.keeps) (left-kept g.D.Disk.content g.D.Disk.may_leave c.write_at.new.self c.sync.new.self (Extends b) c.sync.ensures.keeps (left-written g.D.Disk.content g.D.Disk.may_leave c.args.disk.now c.write_at.new.self b c.args.len (length c.args.bytes.now) settled told (told-len g.D.Disk.content g.D.Disk.may_leave (g.D.Disk.content c.args.disk.now Pages) c.args.len b c.requires.len told) c.write_at.ensures.left)))
