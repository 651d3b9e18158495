use Rattle.std.proofs.Common.{rules, sym, ◌∙◌, ap, Some}
use Rattle.std.proofs.lemmas.List.Sorted.{answers_always}
use Rattle.plain_model.specs.declared.object.Object.{Object}
use Rattle.plain_model.proofs.SearchLaws.{IsFound, searched}
use Rattle.log_checker.proofs.same_objects.find.Goals as goal

pub returns-in-Ok : goal.returns-in-Ok
returns-in-Ok c =
    let facts = c.binary_search_by_key.ensures in
    let by_key = facts.position (λ (o : Object). o.id) (answers_always _ _ _ (λ f a r g called. search rules)) in
    let found : IsFound c.args.items.now c.args.id c.binary_search_by_key.result = searched _ c.requires c.args.id _ facts.bound by_key in
    let here = rw c.in-Ok.is at found in
    ap (λ (o : Object). Some o) c.index-items-i.is ∙ sym (here c.index-items-i.result)

pub returns-in-Err : goal.returns-in-Err
returns-in-Err c =
    let facts = c.binary_search_by_key.ensures in
    let by_key = facts.position (λ (o : Object). o.id) (answers_always _ _ _ (λ f a r g called. search rules)) in
    let found : IsFound c.args.items.now c.args.id c.binary_search_by_key.result = searched _ c.requires c.args.id _ facts.bound by_key in
    let none = rw c.in-Err.is at found in
    sym none
