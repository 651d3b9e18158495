use Rattle.std.proofs.Common.{rules, refl, sym, subst, ◌∙◌}
use Rattle.shared_store.specs.Passes.{IsClient}
use Rattle.client_pass.specs.Attempts.{AreBusy}
use Rattle.client_pass.proofs.Makings.{makes-none}
use Rattle.client_pass.proofs.Asked.{same-name}
use Rattle.client_pass.proofs.Levels.{tried-busy, tried-answered, tried-cut}
use Rattle.client_pass.proofs.attempts.try_call.Goals as goal

pub tries-init : goal.tries-init
tries-init g c = (c.requires.of, makes-none c.args.pass.now.view (AreBusy 0 c.args.call.now) (tt, refl), refl)

pub make_at-requires-after_bounds : goal.make_at-requires-after_bounds
make_at-requires-after_bounds g c κs within =
    let i = c.tries.invariant in
    let client = subst IsClient (same-name c.args.pass.now.view c.tries.pass.view (AreBusy c.tries.counter c.args.call.now) i.1) c.requires.client in
    (search rules, (search rules, (i.0, (client, c.requires.in_range))))

pub returns-in-Err-clause-err : goal.returns-in-Err-clause-err
returns-in-Err-clause-err g c =
    let i = c.tries.invariant in
    let e = c.in-Err.ensures.err in
    (tried-cut c.args.pass.now.view c.tries.pass.view c.make_at.new.pass.view c.tries.counter c.args.call.now c.tries-test.true i.1 e.0, e.1)

pub returns-then-not-is_busy-clause-answered : goal.returns-then-not-is_busy-clause-answered
returns-then-not-is_busy-clause-answered g c answered =
    let i = c.tries.invariant in
    tried-answered c.args.pass.now.view c.tries.pass.view c.make_at.new.pass.view c.tries.counter c.args.call.now c.in-Ok.reply c.tries-test.true i.1 c.in-Ok.ensures.ok (sym c.is_busy.ensures ∙ c.if-not-is_busy.true)

pub tries-preserved : goal.tries-preserved
tries-preserved g c =
    let i = c.tries.invariant in
    let e = c.in-Ok.ensures in
    (e.of, tried-busy c.args.pass.now.view c.tries.pass.view c.make_at.new.pass.view c.tries.counter c.args.call.now c.in-Ok.reply i.1 e.ok (sym c.is_busy.ensures ∙ c.if-not-is_busy.false), e.refused ∙ i.2)
