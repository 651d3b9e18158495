use Rattle.std.proofs.Common.{◌∙◌, arith}
use Rattle.std.proofs.lemmas.List.{take_all}
use Rattle.journal_opening.proofs.FramePages.{HavePages, frames-pages, frames-cells}
use Rattle.journal_opening.proofs.frames.frames_of.Goals as goal

-- src/frames.rt:12:1
pub returns-clause-pages : goal.returns-clause-pages
returns-clause-pages g c =
    let have : HavePages c.loop-page.frames.items c.args.pages.now = c.loop-page.invariant ∙ take_all c.loop-page.page-index c.args.pages.now (omega (arith, c.loop-page-test.false)) in
    frames-pages c.loop-page.frames.items c.args.pages.now have c.requires

-- src/frames.rt:12:1
pub returns-clause-cells : goal.returns-clause-cells
returns-clause-cells g c =
    let have : HavePages c.loop-page.frames.items c.args.pages.now = c.loop-page.invariant ∙ take_all c.loop-page.page-index c.args.pages.now (omega (arith, c.loop-page-test.false)) in
    frames-cells c.loop-page.frames.items c.args.pages.now have c.requires
