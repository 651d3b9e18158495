use Rattle.std.proofs.Common.{◌≡◌, ◌∙◌, Some, ap, sym, arith}
use Rattle.std.proofs.lemmas.Bool.Decides.{nat_tests}
use Rattle.ref_tables.proofs.ring.is_in_place.Goals as goal

pub returns-in-Some : goal.returns-in-Some
returns-in-Some c = λ here.
    let same : c.in-Some.key.now ≡ c.args.id = grind (arith, nat_tests, here) in
    (c.in-Some.field-0-1.now, sym c.in-Some.ensures.entry ∙ ap (λ k. Some (k, c.in-Some.field-0-1.now)) same)
