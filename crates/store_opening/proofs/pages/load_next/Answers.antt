use Rattle.std.proofs.Common.{◌≡◌, Err, ap}
use Rattle.store_opening.specs.declared.pages.PagesRefusal.TheVariants.{Damaged}
use Rattle.store_opening.proofs.pages.load_next.Goals as goal

pub returns-in-Err-clause-damaged : goal.returns-in-Err-clause-damaged
returns-in-Err-clause-damaged g c p at is =
    let refused : c.in-Err.refusal ≡ Damaged p at = cc is in
    c.in-Err.ensures.damaged p at (ap Err refused)
