use Rattle.std.proofs.Common.{ap, sym}
use Rattle.std.proofs.Common.{ℕ}
use Rattle.std.specs.Prelude.{not, ◌==◌}
use Rattle.core_store.proofs.SlotStart.{old-of}
use Rattle.core_store.proofs.slots.is_pointer.Goals as goal

pub returns : goal.returns
returns g c cells agree = ap (λ (n : ℕ). not (n == 0)) (sym (old-of c.cell.result.now cells c.args.id c.args.slot (c.cell.ensures.stored cells agree)))
