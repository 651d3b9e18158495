use Rattle.std.proofs.Common.{List, subst}
use Rattle.std.proofs.lemmas.Result.{on_ok_weaker}
use Rattle.client_pass.specs.declared.script.ClientScript.{ClientScript}
use Rattle.client_pass.specs.Runs.{IsNobody}
use Rattle.brahma_shell.specs.ClientScripts.{IsAt}
use Rattle.brahma_shell.proofs.AddLemmas.{kept-at, added-at, refused-at, kept-first, added-first, refused-first}
use Rattle.brahma_shell.proofs.client_scripts.ClientScripts.ask.Goals as goal

-- src/scripts.rt:71:28
pub invariant_of-self : goal.invariant_of-self
invariant_of-self c =
    let at = subst (λ (xs : List ClientScript). IsAt c.args.client xs c.in-Some.place) c.as_slice.ensures.value c.in-Some.ensures in
    kept-at c.add_at.result c.args.client c.self.inside.scripts.items c.in-Some.place c.args.call c.add_at.new.scripts.items c.self.invariant c.requires.in_range at c.add_at.ensures.added c.add_at.ensures.unchanged

-- src/scripts.rt:72:21
pub invariant_of-self-in-None : goal.invariant_of-self-in-None
invariant_of-self-in-None c =
    let nobody = subst (IsNobody c.args.client) c.as_slice.ensures.value c.in-None.ensures in
    kept-first c.add_first.result c.args.client c.self.inside.scripts.items c.args.call c.add_first.new.scripts.items c.self.invariant nobody c.requires.client c.add_first.ensures.added c.add_first.ensures.unchanged

-- src/scripts.rt:61:5
pub returns-in-Some-clause-added : goal.returns-in-Some-clause-added
returns-in-Some-clause-added c =
    let at = subst (λ (xs : List ClientScript). IsAt c.args.client xs c.in-Some.place) c.as_slice.ensures.value c.in-Some.ensures in
    on_ok_weaker c.add_at.result (λ added. added-at c.args.client c.args.self.now c.self.inside.scripts.items c.in-Some.place c.args.call c.add_at.new.scripts.items c.self.view_is c.self.invariant at added) c.add_at.ensures.added

-- src/scripts.rt:61:5
pub returns-in-Some-clause-refused : goal.returns-in-Some-clause-refused
returns-in-Some-clause-refused c =
    let at = subst (λ (xs : List ClientScript). IsAt c.args.client xs c.in-Some.place) c.as_slice.ensures.value c.in-Some.ensures in
    refused-at c.add_at.result c.args.client c.args.self.now c.self.inside.scripts.items c.in-Some.place c.args.call c.self.view_is at c.add_at.ensures.refused

-- src/scripts.rt:61:5
pub returns-in-None-clause-added : goal.returns-in-None-clause-added
returns-in-None-clause-added c =
    let nobody = subst (IsNobody c.args.client) c.as_slice.ensures.value c.in-None.ensures in
    on_ok_weaker c.add_first.result (λ added. added-first c.args.client c.args.self.now c.self.inside.scripts.items c.args.call c.add_first.new.scripts.items c.self.view_is nobody added) c.add_first.ensures.added

pub returns-in-None-clause-refused : goal.returns-in-None-clause-refused
returns-in-None-clause-refused c =
    let nobody = subst (IsNobody c.args.client) c.as_slice.ensures.value c.in-None.ensures in
    refused-first c.add_first.result c.args.client c.args.self.now c.self.inside.scripts.items c.args.call c.self.view_is nobody c.add_first.ensures.refused
