use Rattle.std.proofs.Common.{◌≡◌, Err, ap, refl}
use Rattle.log_printing.specs.declared.view_refusal.ViewRefusal.TheVariants.{Damaged}
use Rattle.log_printing.proofs.LineLaws.{first_place}
use Rattle.log_printing.proofs.lines.LogLines.open.Goals as goal

pub returns-in-Ok-clause-text : goal.returns-in-Ok-clause-text
returns-in-Ok-clause-text g c =
    let log = c.in-Ok.ensures.log in
    (log.0, log.1, first_place g.row.SLOTS c.args.area.now (record { at = 0; end = 0 }) c.args.pages log.0 refl refl log.1)

pub returns-in-Err-clause-damaged : goal.returns-in-Err-clause-damaged
returns-in-Err-clause-damaged g c at is =
    let refused : c.in-Err.refusal ≡ Damaged at = cc is in
    c.in-Err.ensures.damaged at (ap Err refused)
