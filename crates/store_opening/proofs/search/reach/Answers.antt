use Rattle.std.proofs.Common.{false, sym, ◌∙◌}
use Rattle.std.proofs.lemmas.List.{get_or_default}
use Rattle.store_opening.proofs.MarkLaws.{spreads-one}
use Rattle.store_opening.proofs.search.reach.Goals as goal

pub returns-in_ok-push-clause-spreads : goal.returns-in_ok-push-clause-spreads
returns-in_ok-push-clause-spreads c =
    let marks = c.args.search.now.reached.items in
    spreads-one marks c.args.search.now.work.items c.push.new.self.items c.args.to c.requires.above c.requires.within
    (get_or_default marks c.args.to false c.index.result.now c.requires.within ∙ (sym c.index.ensures ∙ c.if-not-index.true)) c.in_ok-push.ensures.items
