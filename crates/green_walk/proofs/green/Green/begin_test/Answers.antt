use Rattle.std.proofs.Common.{Some, sym, ◌∙◌, subst}
use Rattle.green_walk.specs.Greening.{Greening, IsGreening}
use Rattle.green_walk.proofs.GreenTests.{testing-settled}
use Rattle.green_walk.proofs.green.Green.begin_test.Goals as goal

pub invariant_of-self : goal.invariant_of-self
invariant_of-self g c =
    let k = c.self.invariant in
    let same = c.self.view_is ∙ c.settle.ensures.settled in
    record {
      seeds_limit = k.seeds_limit;
      live_limit = k.live_limit;
      green_limit = k.green_limit;
      copied_limit = k.copied_limit;
      few = k.few;
      seeds_few = k.seeds_few;
      done_few = k.done_few;
      way = k.way;
      sound =
          subst (λ (v : Greening). IsGreening (record v { test = Some (record { id = c.args.id; slot = 0 }) })) (sym same)
          (testing-settled c.args.self.now c.args.id (subst IsGreening same k.sound) c.requires);
    }
