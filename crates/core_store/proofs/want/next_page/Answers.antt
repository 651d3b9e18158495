use Rattle.std.proofs.Common.{◌≡◌, true, false, get_or, sym, ◌∙◌}
use Rattle.core_store.specs.Frames.{pages_held, is_page_among}
use Rattle.core_store.proofs.PageLaws.{is_held-among}
use Rattle.core_store.proofs.WantSteps.{next_page-held, next_page-other}
use Rattle.core_store.proofs.want.next_page.Goals as goal

pub returns-then-not-holds : goal.returns-then-not-holds
returns-then-not-holds g c =
    let needed = c.args.needed.now in
    let held = pages_held c.args.held.now in
    let i = c.loop-page.page-index in
    let other : is_page_among (get_or needed i 0) held ≡ false = sym (is_held-among c.args.held.now (get_or needed i 0)) ∙ sym c.holds.ensures ∙ c.if-not-holds.true in
    sym (c.loop-page.invariant ∙ next_page-other needed held i c.loop-page-test.true other)

pub loop-page-preserved : goal.loop-page-preserved
loop-page-preserved g c =
    let needed = c.args.needed.now in
    let held = pages_held c.args.held.now in
    let i = c.loop-page.page-index in
    let there : is_page_among (get_or needed i 0) held ≡ true = sym (is_held-among c.args.held.now (get_or needed i 0)) ∙ sym c.holds.ensures ∙ c.if-not-holds.false in
    c.loop-page.invariant ∙ next_page-held needed held i c.loop-page-test.true there
