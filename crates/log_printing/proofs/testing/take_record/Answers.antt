use Rattle.std.proofs.Common.{◌≡◌, Err, ap, sym, ◌∙◌, subst}
use Rattle.log_replay.specs.declared.refusals.TakeRefusal.TheVariants.{Unfit}
use Rattle.log_printing.proofs.TestLaws.{none_fits, first_within}
use Rattle.log_printing.proofs.testing.take_record.Goals as goal

pub returns-in-Ok-take-clause-within : goal.returns-in-Ok-take-clause-within
returns-in-Ok-take-clause-within g c = first_within c.args.bytes.now c.in-Ok.rec c.in-Ok.len c.in-Ok.ensures.ok

pub returns-in-Err-take-clause-unfit : goal.returns-in-Err-take-clause-unfit
returns-in-Err-take-clause-unfit g c is =
    none_fits c.requires c.args.fitting.now.pages c.args.fitting.now.unended c.args.bytes.now c.in-Ok.rec c.in-Ok.len c.in-Ok.ensures.ok
    (λ fits. let same : c.in-Err-take.refusal ≡ Unfit = cc is in c.in-Err-take.ensures.unfit.1 fits (ap Err same))

pub returns-in-Err-clause-unfit : goal.returns-in-Err-clause-unfit
returns-in-Err-clause-unfit g c is r len b fits = c.in-Err.ensures.bad r len b
