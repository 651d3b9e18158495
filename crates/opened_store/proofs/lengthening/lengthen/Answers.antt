use Rattle.std.proofs.Common.{◌∙◌}
use Rattle.disk_model.specs.declared.area.Area.TheVariants.{Pages}
use Rattle.disk_model.specs.Told.{IsImageBut}
use Rattle.disk_model.proofs.Moments.{no_call, one_more, and_then}
use Rattle.opened_store.specs.Lengths.{Extends}
use Rattle.opened_store.proofs.LengthLaws.{left-settled, images-but, left-kept, settled-kept, others-of-all, but-before}
use Rattle.opened_store.proofs.lengthening.lengthen.Goals as goal

pub returns-in-Err-clause-moments : goal.returns-in-Err-clause-moments
returns-in-Err-clause-moments g c = λ b settled told. one_more (no_call g.D.Disk.may_leave (IsImageBut g.D.Disk.may_leave c.args.disk.now Pages (Extends b)) g.D.Disk.only_now (λ image may. record { here = left-settled g.D.Disk.content g.D.Disk.may_leave c.args.disk.now b settled told _ (may Pages); others = λ other apart. may other })) c.len.ensures.time (images-but g.D.Disk.content g.D.Disk.may_leave c.args.disk.now c.len.new.self (Extends b) (others-of-all g.D.Disk.content g.D.Disk.may_leave c.args.disk.now c.len.new.self c.len.ensures.keeps) (left-kept g.D.Disk.content g.D.Disk.may_leave c.args.disk.now c.len.new.self (Extends b) c.len.ensures.keeps (left-settled g.D.Disk.content g.D.Disk.may_leave c.args.disk.now b settled told)))

pub returns-then-wanted-len-clause-moments : goal.returns-then-wanted-len-clause-moments
returns-then-wanted-len-clause-moments g c = λ b settled told. one_more (no_call g.D.Disk.may_leave (IsImageBut g.D.Disk.may_leave c.args.disk.now Pages (Extends b)) g.D.Disk.only_now (λ image may. record { here = left-settled g.D.Disk.content g.D.Disk.may_leave c.args.disk.now b settled told _ (may Pages); others = λ other apart. may other })) c.len.ensures.time (images-but g.D.Disk.content g.D.Disk.may_leave c.args.disk.now c.len.new.self (Extends b) (others-of-all g.D.Disk.content g.D.Disk.may_leave c.args.disk.now c.len.new.self c.len.ensures.keeps) (left-kept g.D.Disk.content g.D.Disk.may_leave c.args.disk.now c.len.new.self (Extends b) c.len.ensures.keeps (left-settled g.D.Disk.content g.D.Disk.may_leave c.args.disk.now b settled told)))

pub returns-in-Err-vec-clause-moments : goal.returns-in-Err-vec-clause-moments
returns-in-Err-vec-clause-moments g c = λ b settled told. one_more (no_call g.D.Disk.may_leave (IsImageBut g.D.Disk.may_leave c.args.disk.now Pages (Extends b)) g.D.Disk.only_now (λ image may. record { here = left-settled g.D.Disk.content g.D.Disk.may_leave c.args.disk.now b settled told _ (may Pages); others = λ other apart. may other })) c.len.ensures.time (images-but g.D.Disk.content g.D.Disk.may_leave c.args.disk.now c.len.new.self (Extends b) (others-of-all g.D.Disk.content g.D.Disk.may_leave c.args.disk.now c.len.new.self c.len.ensures.keeps) (left-kept g.D.Disk.content g.D.Disk.may_leave c.args.disk.now c.len.new.self (Extends b) c.len.ensures.keeps (left-settled g.D.Disk.content g.D.Disk.may_leave c.args.disk.now b settled told)))

pub returns-in-Ok-write_behind-clause-moments : goal.returns-in-Ok-write_behind-clause-moments
returns-in-Ok-write_behind-clause-moments g c = λ b settled told. and_then (IsImageBut g.D.Disk.may_leave c.args.disk.now Pages (Extends b)) (λ image is. is) (but-before g.D.Disk.content g.D.Disk.may_leave c.args.disk.now c.len.new.self (Extends b) c.len.ensures.keeps) (one_more (no_call g.D.Disk.may_leave (IsImageBut g.D.Disk.may_leave c.args.disk.now Pages (Extends b)) g.D.Disk.only_now (λ image may. record { here = left-settled g.D.Disk.content g.D.Disk.may_leave c.args.disk.now b settled told _ (may Pages); others = λ other apart. may other })) c.len.ensures.time (images-but g.D.Disk.content g.D.Disk.may_leave c.args.disk.now c.len.new.self (Extends b) (others-of-all g.D.Disk.content g.D.Disk.may_leave c.args.disk.now c.len.new.self c.len.ensures.keeps) (left-kept g.D.Disk.content g.D.Disk.may_leave c.args.disk.now c.len.new.self (Extends b) c.len.ensures.keeps (left-settled g.D.Disk.content g.D.Disk.may_leave c.args.disk.now b settled told)))) (c.write_behind.ensures.moments b (settled-kept g.D.Disk.content g.D.Disk.may_leave c.args.disk.now c.len.new.self c.len.ensures.keeps settled) ((c.len.ensures.keeps Pages).same ∙ told))

pub returns-clause-moments : goal.returns-clause-moments
returns-clause-moments g c = λ b settled told. and_then (IsImageBut g.D.Disk.may_leave c.args.disk.now Pages (Extends b)) (λ image is. is) (but-before g.D.Disk.content g.D.Disk.may_leave c.args.disk.now c.len.new.self (Extends b) c.len.ensures.keeps) (one_more (no_call g.D.Disk.may_leave (IsImageBut g.D.Disk.may_leave c.args.disk.now Pages (Extends b)) g.D.Disk.only_now (λ image may. record { here = left-settled g.D.Disk.content g.D.Disk.may_leave c.args.disk.now b settled told _ (may Pages); others = λ other apart. may other })) c.len.ensures.time (images-but g.D.Disk.content g.D.Disk.may_leave c.args.disk.now c.len.new.self (Extends b) (others-of-all g.D.Disk.content g.D.Disk.may_leave c.args.disk.now c.len.new.self c.len.ensures.keeps) (left-kept g.D.Disk.content g.D.Disk.may_leave c.args.disk.now c.len.new.self (Extends b) c.len.ensures.keeps (left-settled g.D.Disk.content g.D.Disk.may_leave c.args.disk.now b settled told)))) (c.write_behind.ensures.moments b (settled-kept g.D.Disk.content g.D.Disk.may_leave c.args.disk.now c.len.new.self c.len.ensures.keeps settled) ((c.len.ensures.keeps Pages).same ∙ told))
