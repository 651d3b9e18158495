use Rattle.std.proofs.Common.{subst}
use Rattle.brahma_shell.specs.ClientScripts.{AreScripts}
use Rattle.brahma_shell.proofs.ScriptLemmas.{few}
use Rattle.brahma_shell.proofs.client_scripts.ClientScripts.scripts.Goals as goal

-- src/scripts.rt:52:5
pub returns-clause-few : goal.returns-clause-few
returns-clause-few c = few c.args.self.now (subst AreScripts c.self.view_is c.self.invariant)
