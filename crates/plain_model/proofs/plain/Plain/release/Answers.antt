use Rattle.std.proofs.Common.{sym, refl}
use Rattle.plain_model.specs.declared.calls.Call.TheVariants.{Release}
use Rattle.plain_model.proofs.StepLemmas.{step-out, step-release_aborting, step-release_empty, step-release_not_shared, step-release}
use Rattle.plain_model.proofs.plain.Plain.release.Goals as goal

pub returns-in_default-clause-ok : goal.returns-in_default-clause-ok
returns-in_default-clause-ok c = step-out _ _ (Release c.args.r) (rw (← c.self.view_is) (sym c.in_default.ensures.value)) refl

pub returns-then-is_aborting-clause-ok : goal.returns-then-is_aborting-clause-ok
returns-then-is_aborting-clause-ok c = step-release_aborting _ _ c.in-Some.transaction.now _ (rw (← c.self.view_is) (sym c.in-Some.ensures.value)) (sym c.if-is_aborting.ensures)

pub returns-in_default-register-clause-ok : goal.returns-in_default-register-clause-ok
returns-in_default-register-clause-ok c = step-release_empty _ _ c.in-Some.transaction.now _ (rw (← c.self.view_is) (sym c.in-Some.ensures.value)) (sym c.if-is_aborting.ensures) (sym c.in_default-register.ensures)

pub returns-then-not-only_shares-clause-ok : goal.returns-then-not-only_shares-clause-ok
returns-then-not-only_shares-clause-ok c = step-release_not_shared _ _ c.in-Some.transaction.now _ _ (rw (← c.self.view_is) (sym c.in-Some.ensures.value)) (sym c.if-is_aborting.ensures) (sym c.in-Some-register.ensures) (sym c.if-not-only_shares.ensures)

pub returns-clause-ok : goal.returns-clause-ok
returns-clause-ok c =
    rw (c.in_ok-insert.ensures.entries, c.in_ok-next.ensures, ← c.self.view_is)
    (step-release _ _ c.in-Some.transaction.now _ _ (sym c.in-Some.ensures.value) (sym c.if-is_aborting.ensures) (sym c.in-Some-register.ensures) (sym c.if-not-only_shares.ensures))
