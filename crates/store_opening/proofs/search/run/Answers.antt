use Rattle.std.proofs.Common.{arith, rules}
use Rattle.store_opening.proofs.MarkLaws.{search-step, id-last}
use Rattle.store_opening.proofs.search.run.Goals as goal

pub spread-requires : goal.spread-requires
spread-requires g c =
    let last = id-last _ c.pop.new.self.items _ c.in-Some.at c.in-Some.ensures.items c.loop-at.invariant.ids in
    let len = c.loop-at.invariant.len in
    let low = last.1 in
    (search rules, (c.requires.size, (c.requires.named, (last.0, (omega (arith, len, low), len)))))

pub loop-at-preserved : goal.loop-at-preserved
loop-at-preserved g c =
    search-step c.args.replay.now.cells c.args.id c.in-Some.at _ _ _ c.pop.new.self.items _ c.in-Some.ensures.items c.loop-at.invariant c.in_ok-spread.ensures.spreads c.in_ok-spread.ensures.marked
