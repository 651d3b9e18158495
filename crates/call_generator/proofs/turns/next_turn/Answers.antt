use Rattle.std.proofs.Common.{◌≡◌, ◌<◌, get_or, sym, ap, subst, ◌∙◌}
use Rattle.std.proofs.lemmas.Bool.{ltb-true}
use Rattle.std.proofs.lemmas.List.{get_or_default}
use Rattle.plain_model.specs.declared.calls.Call.{Call}
use Rattle.call_generator.specs.declared.client.Client.{Client}
use Rattle.call_generator.specs.Generator.{new_client, call_of_client, after_call, IsWithin, turns_of}
use Rattle.call_generator.proofs.TurnLaws.{after-goes-on, each-at, sum-set}
use Rattle.call_generator.proofs.turns.next_turn.Goals as goal

pub returns-clause-fewer : goal.returns-clause-fewer
returns-clause-fewer c =
    let cs = c.args.clients.now.items in
    let i = c.in-Some.index in
    let there = rw c.as_slice.ensures.value at c.in-Some.ensures.there in
    let client = get_or cs i (new_client 0) in
    let number = c.choose.new.number in
    let within = each-at IsWithin cs i (new_client 0) there.0 c.requires.each in
    let on = after-goes-on client.left client.calls number (ltb-true 0 client.left there.1) within in
    let item = c.index.ensures ∙ get_or_default cs i c.index.result.now (new_client 0) there.0 in
    let item-2 = c.index-2.ensures ∙ get_or_default cs i c.index-2.result.now (new_client 0) there.0 in
    let call : c.ask-call.result ≡ (call_of_client client.calls number).0 = ap (λ p. p.0) (rw item at c.ask-call.ensures.value) in
    let same : c.after.result ≡ after_call client (call_of_client client.calls number).0 = (rw item-2 at c.after.ensures) ∙ ap (λ (k : Call). after_call client k) call in
    sum-set cs i c.after.result (new_client 0) there.0 (subst (λ (y : Client). turns_of y < turns_of client) (sym same) on.fewer)
