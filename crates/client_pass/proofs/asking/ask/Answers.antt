use Rattle.std.proofs.Common.{rules, refl, ap, subst, ◌∙◌}
use Rattle.plain_model.specs.declared.calls.Reply.{Reply}
use Rattle.shared_store.specs.Passes.{IsClient}
use Rattle.shared_store.specs.Calls.{refused_by_call}
use Rattle.client_pass.specs.Workings.{AreNone, refused_after}
use Rattle.client_pass.proofs.Makings.{makes-none}
use Rattle.client_pass.proofs.Asked.{unfound, asked-again, asked, asked-behind, told-ends, none-append, same-truth, same-name}
use Rattle.client_pass.proofs.asking.ask.Goals as goal

pub tries-init : goal.tries-init
tries-init g c = (search rules, search rules, c.requires.of, makes-none c.args.pass.now.view AreNone refl, refl)

pub call-requires-after_bounds : goal.call-requires-after_bounds
call-requires-after_bounds g c κs within =
    let i = c.tries.invariant in
    let client = subst IsClient (same-name c.args.pass.now.view c.tries.pass.view AreNone i.3) c.requires.client in
    (search rules, (search rules, (i.2, (client, (c.requires.in_range, λ e. same-truth c.args.pass.now.view c.tries.pass.view i.3 ∙ c.requires.no_abort e)))))

pub tries-preserved : goal.tries-preserved
tries-preserved g c =
    let i = c.tries.invariant in
    let more = asked-again c.tries.pass.view c.call.new.pass.view c.args.call.now c.call.result c.in-Again.word c.in-Again.seat c.in-Again.is c.call.ensures.knows in (
      search rules,
      search rules,
      c.call.ensures.of,
      none-append c.args.pass.now.view c.tries.pass.view c.call.new.pass.view AreNone i.3 more,
      c.call.ensures.refused ∙ (ap (λ (r : Reply). refused_by_call r c.tries.pass.refused) c.in-Again.is ∙ i.4),
    )

pub returns-in_default : goal.returns-in_default
returns-in_default g c =
    let i = c.tries.invariant in
    let none = unfound c.call.result (λ word seat e. c.in_default.not-Again word seat e) in
    let now = asked c.tries.pass.view c.call.new.pass.view c.args.call.now c.call.result c.told.result c.tries.pass.refused c.call.new.pass.refused none c.told.ensures.ok c.told.ensures.err c.call.ensures.knows c.call.ensures.refused in
    let all = asked-behind c.args.pass.now.view c.tries.pass.view c.call.new.pass.view c.args.call.now c.told.result c.tries.pass.refused c.call.new.pass.refused i.3 now in
    let told = told-ends g.row.D.Denot g.D.Disk.content g.D.Disk.may_leave g.D.Disk.faults g.D.Disk.moment g.D.Disk.left_since c.args.pass.now.view c.tries.pass.view c.call.new.pass.view c.args.call.now c.call.result c.told.result c.told.ensures.err c.call.ensures.knows (c.call.ensures.made none) all.err in
    record { of = c.call.ensures.of; ok = all.ok; err = told; refused = all.refused ∙ ap (refused_after c.told.result) i.4 }
