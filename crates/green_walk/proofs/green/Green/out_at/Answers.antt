use Rattle.std.proofs.Common.{◌≡◌, ℕ, ◌+◌, ◌≤◌, List, length, drop, nat_lt, get_or, if◌then◌else◌, ap, ◌∙◌, subst}
use Rattle.green_walk.specs.declared.green_at.GreenAt.TheVariants.{Out}
use Rattle.green_walk.specs.Greening.{Greening, first_seed}
use Rattle.green_walk.proofs.GreenAsked.{out-behind}
use Rattle.green_walk.proofs.green.Green.out_at.Goals as goal

pub returns-else-place-green : goal.returns-else-place-green
returns-else-place-green g c =
    let seeds = ap (λ xs. first_seed (drop (c.self.inside.done + 1) xs)) c.ids.ensures.ids in
    let green : length c.self.inside.green.ids ≤ c.args.place = subst (λ (xs : List ℕ). length xs ≤ c.args.place) c.ids-green.ensures.ids c.if-place-green.false in
    subst (λ (v : Greening). c.seed_after.result ≡ (if nat_lt c.args.place (length v.green) then Out (get_or v.green c.args.place 0) c.args.slot else first_seed (drop 1 v.seeds))) c.self.view_is
    (out-behind c.self.inside.green.ids c.self.inside.seeds.ids c.args.place c.args.slot c.self.inside.done c.seed_after.result (c.seed_after.ensures ∙ seeds) green)
