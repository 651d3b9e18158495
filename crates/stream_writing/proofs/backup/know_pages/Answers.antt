use Rattle.std.proofs.Common.{sym, subst, rules}
use Rattle.cell_page.specs.Format.{IsPage}
use Rattle.core_store.specs.declared.frame.Frame.{Frame}
use Rattle.stream_writing.proofs.BackupLaws.{typed_more}
use Rattle.stream_writing.proofs.backup.know_pages.Goals as goal

pub know_page-requires : goal.know_page-requires
know_page-requires g c =
    (search rules, subst (λ (f : Frame g.row.SLOTS). IsPage c.loop-number.number f.page) (sym c.index-frames-number.is) (c.requires.pages.each c.loop-number.number c.index-frames-number.result c.loop-number-test.true))

pub loop-number-preserved : goal.loop-number-preserved
loop-number-preserved g c = typed_more c.args.frames.now c.loop-number.number c.index-frames-number.result c.loop-number.invariant c.loop-number-test.true c.index-frames-number.is c.know_page.ensures
