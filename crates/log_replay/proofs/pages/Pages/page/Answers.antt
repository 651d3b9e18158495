use Rattle.std.proofs.Common.{arith}
use Rattle.log_replay.proofs.PageLists.{page_below, holds_page}
use Rattle.log_replay.proofs.pages.Pages.page.Goals as goal

pub index-requires : goal.index-requires
index-requires g c =
    let there = page_below c.self.inside.pages.items c.args.self.now c.args.p c.self.view_is c.requires in
    let o = c.self.inside.pages.ok.0 in
    omega (arith, there, o)

pub returns : goal.returns
returns g c = holds_page c.self.inside.pages.items c.args.self.now c.args.p c.index.result.now c.self.invariant c.self.view_is c.requires c.index.ensures
