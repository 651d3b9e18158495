use Rattle.std.proofs.Common.{subst}
use Rattle.std.specs.Prelude.{Option, IfSome}
use Rattle.restart_laws.specs.Rules.{IsFirstBroken}
use Rattle.store_opening.specs.declared.rules.BrokenRule.{BrokenRule}
use Rattle.opened_store.proofs.OpenLaws.{opens-unsound}
use Rattle.opened_store.proofs.tested.test_rules.Goals as goal

pub returns-in-Ok-Some-clause-refused : goal.returns-in-Ok-Some-clause-refused
returns-in-Ok-Some-clause-refused g c =
    λ image s.
    opens-unsound g.row.SLOTS image c.args.replay.now c.in-Ok-Some.broken.rule c.in-Ok-Some.broken.id s c.last_id-last.ensures.none
    (subst (λ (o : Option BrokenRule). IfSome o (λ b. IsFirstBroken c.args.replay.now.cells b.rule b.id)) c.in-Ok-Some.field-0-is c.in-Ok-Some.ensures.broken)
