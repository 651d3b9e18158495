use Rattle.std.proofs.Common.{rules, ◌≤◌, sym, ◌∙◌, subst, arith}
use Rattle.green_walk.proofs.GreenFound.{made-seed-within, strong-seed-within, made-in-step}
use Rattle.green_walk.proofs.green.Green.found_at_seed.Goals as goal

pub push-requires-clause-within : goal.push-requires-clause-within
push-requires-clause-within g c =
    let k = c.self.invariant in
    let w = strong-seed-within _ _ _ _ _ _ _ _ _ _ _ _ k c.args.self.now c.args.what c.in-Seed.id c.ids.result.now c.self.view_is c.in-Strong.is c.requires.answer c.ids.ensures.ids (sym c.in-Seed.is ∙ c.seed_after.ensures) in
    (w.0, subst (λ m. c.in-Seed.id ≤ m) (sym k.green_limit) w.1)

pub push-requires-in-Made-clause-within : goal.push-requires-in-Made-clause-within
push-requires-in-Made-clause-within g c =
    let k = c.self-in-Made.invariant in
    let w = made-seed-within _ _ _ _ _ _ _ _ _ _ _ _ k c.args.self.now c.args.what c.in-Made.id c.self-in-Made.view_is c.in-Made.is c.requires.answer in
    (w.0, subst (λ m. c.in-Made.id ≤ m) (sym k.green_limit) w.1)

pub first_naming-requires : goal.first_naming-requires
first_naming-requires g c =
    let k = c.self-in-Made.invariant in
    let w = made-seed-within _ _ _ _ _ _ _ _ _ _ _ _ k c.args.self.now c.args.what c.in-Made.id c.self-in-Made.view_is c.in-Made.is c.requires.answer in
    (search rules, ((λ e. let least = w.0 in omega (arith, least, e)), subst (λ m. c.in-Made.id ≤ m) (sym k.copied_limit) w.1))

pub invariant_of-self-in-Made : goal.invariant_of-self-in-Made
invariant_of-self-in-Made g c =
    made-in-step _ _ _ _ _ _ _ _ _ _ _ _ c.self-in-Made.invariant c.args.self.now c.args.what c.in-Made.id c.first_naming.result c.push-in-Made.new.self c.self-in-Made.view_is c.in-Made.is c.requires.at c.requires.answer c.push-in-Made.ensures.joins c.first_naming.ensures
