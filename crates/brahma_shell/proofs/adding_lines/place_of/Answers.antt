use Rattle.std.proofs.Common.{ℕ, Option, sym, subst}
use Rattle.std.specs.Prelude.{MatchOption}
use Rattle.client_pass.specs.Runs.{IsNobody}
use Rattle.brahma_shell.specs.ClientScripts.{IsAt}
use Rattle.brahma_shell.proofs.PlaceLemmas.{found}
use Rattle.brahma_shell.proofs.adding_lines.place_of.Goals as goal

-- src/adding.rt:146:1
pub returns : goal.returns
returns c = subst (λ (o : Option ℕ). MatchOption o (IsNobody c.args.client c.args.scripts.now) (IsAt c.args.client c.args.scripts.now)) (sym c.position_of.ensures) (found c.args.client c.args.scripts.now)
