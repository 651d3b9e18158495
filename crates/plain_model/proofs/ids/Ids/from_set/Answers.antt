use Rattle.std.proofs.Common.{◌≡◌, rules, sym, subst}
use Rattle.std.specs.List.Sorted.{IsStrictlyIncreasing}
use Rattle.std.proofs.lemmas.Map.Keys.{IsStrictlyIncreasing-from_sorted}
use Rattle.plain_model.proofs.ids.Ids.from_set.Goals as goal

pub returns-clause-ascending : goal.returns-clause-ascending
returns-clause-ascending c =
    let same : c.in_ok-items.items.items ≡ c.args.set.now.keys = search rules in
    subst IsStrictlyIncreasing (sym same) (IsStrictlyIncreasing-from_sorted _ c.iter.ensures.ordered)
