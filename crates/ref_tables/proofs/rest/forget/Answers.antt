use Rattle.std.proofs.Common.{◌≡◌, ◌<◌, ◌-◌, ◌∙◌, None, Some, sym, ap, subst, unwrap_or, nat_eq, arith}
use Rattle.std.specs.Cmp.{nat_eq_equiv}
use Rattle.std.specs.Option.{IfSome, option_map}
use Rattle.std.proofs.lemmas.Bool.Decides.{Decides-eqb}
use Rattle.std.proofs.lemmas.Map.Made.{lookup_key_same}
use Rattle.indexmap.specs.IndexMap.{Updates, with_value_at}
use Rattle.indexmap.proofs.CallerLemmas.{updates-with_value_at}
use Rattle.ref_tables.proofs.CountsLaws.{count_at-less}
use Rattle.ref_tables.proofs.rest.forget.Goals as goal

pub returns-then-count-gt1-clause-counts : goal.returns-then-count-gt1-clause-counts
returns-then-count-gt1-clause-counts c =
    let left = c.pair_mut-left.result.1.now - 1 in
    let new = with_value_at c.args.counts.now c.in-Some.place left in
    let key = lookup_key_same Decides-eqb c.args.target c.args.counts.now.entries c.in-Some.field-0-1.now (sym c.in-Some.ensures.key) in
    let same : c.pair_mut-left.result.1.now ≡ c.in-Some.count.now = ap (λ o. unwrap_or (option_map (λ p. p.1) o) 0) (sym c.pair_mut-left.ensures.value ∙ c.in-Some.ensures.entry) in
    let updates = updates-with_value_at c.args.counts.now c.in-Some.place left nat_eq_equiv c.pair_mut-left.ensures.unique c.in-Some.field-0-1.now c.in-Some.count.now c.in-Some.ensures.entry in
    count_at-less c.args.counts.now new c.args.target c.in-Some.count.now (Some left) (subst (λ k. Updates nat_eq c.args.counts.now new k (Some left)) (sym key) updates) (sym c.in-Some.ensures.value) (omega (arith, same, c.if-count-gt1.true))

pub returns-else-count-gt1-clause-counts : goal.returns-else-count-gt1-clause-counts
returns-else-count-gt1-clause-counts c =
    let new = c.swap_remove_index.new.self in
    let key = lookup_key_same Decides-eqb c.args.target c.args.counts.now.entries c.in-Some.field-0-1.now (sym c.in-Some.ensures.key) in
    let some : 0 < c.in-Some.count.now = subst (λ o. 0 < unwrap_or o 0) (sym c.in-Some.ensures.value) c.requires in
    let updates = subst (λ r. IfSome r (λ p. Updates nat_eq c.args.counts.now new p.0 None)) (c.swap_remove_index.ensures.entry ∙ c.in-Some.ensures.entry) c.swap_remove_index.ensures.updates in
    count_at-less c.args.counts.now new c.args.target c.in-Some.count.now None (subst (λ k. Updates nat_eq c.args.counts.now new k None) (sym key) updates) (sym c.in-Some.ensures.value) (omega (arith, some, c.if-count-gt1.false))
