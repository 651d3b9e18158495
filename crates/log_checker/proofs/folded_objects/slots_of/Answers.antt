use Rattle.std.proofs.Common.{◌≡◌, ℕ, List, sym, subst}
use Rattle.std.specs.Prelude.{IfOk}
use Rattle.log_checker.proofs.GraphParts.{targets_of}
use Rattle.log_checker.proofs.folded_objects.slots_of.Goals as goal

pub returns : goal.returns
returns g c = subst (λ (l : List ℕ). IfOk c.slots_from.result (λ s. s ≡ l)) (sym (targets_of c.args.cell.now.bits 0 c.args.cell.now.slots)) c.slots_from.ensures
