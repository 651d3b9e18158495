-- A store that opens to a refusal opens to no cells.
use Rattle.std.proofs.Common.{sym, subst}
use Rattle.opened_images.specs.Opened.{Outcome, OpensTo}
use Rattle.opened_images.proofs.OneOutcome.{one_outcome}
use Rattle.opened_store.specs.Longer.{IsOpen}
use Rattle.opened_store.specs.Unopened.{RefusedLaw}

pub refused : RefusedLaw
refused slots image o known opened closed cells opens = closed (subst IsOpen (one_outcome known image (OpensTo cells) o opens opened) tt)
