use Rattle.std.proofs.Common.{sym, ap, ◌∙◌, ◌+◌, drop}
use Rattle.std.specs.Prelude.{◌&&◌}
use Rattle.core_store.specs.Frames.{pages_held, are_all_among, numbered}
use Rattle.core_store.proofs.WholeLaws.{among-step, among-none}
use Rattle.core_store.proofs.three.are_all_pages_among.Goals as goal

pub returns-then-not-contains : goal.returns-then-not-contains
returns-then-not-contains g c =
    let rest = are_all_among (pages_held (numbered (c.loop-page.page + 1) (drop (c.loop-page.page + 1) c.args.frames.now))) c.args.pages.now in
    sym (c.loop-page.invariant ∙ (among-step c.args.frames.now c.loop-page.page c.args.pages.now c.loop-page-test.true ∙ ap (λ b. b && rest) (sym c.contains.ensures.value ∙ c.if-not-contains.true)))

pub loop-page-preserved : goal.loop-page-preserved
loop-page-preserved g c =
    let rest = are_all_among (pages_held (numbered (c.loop-page.page + 1) (drop (c.loop-page.page + 1) c.args.frames.now))) c.args.pages.now in
    c.loop-page.invariant ∙ (among-step c.args.frames.now c.loop-page.page c.args.pages.now c.loop-page-test.true ∙ ap (λ b. b && rest) (sym c.contains.ensures.value ∙ c.if-not-contains.false))

pub returns : goal.returns
returns g c = sym (c.loop-page.invariant ∙ among-none c.args.frames.now c.loop-page.page c.args.pages.now c.loop-page-test.false)
