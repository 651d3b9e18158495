use Rattle.plain_model.specs.declared.calls.Reply.{Reply}
use Rattle.object_store.specs.declared.error.StoreError.{StoreError}
use Rattle.object_store.specs.Calls.{Does, IsShort}
use Rattle.object_store.proofs.AskLaws.{of_live, not_commit, none_failed, answered, does_of, is_short, runs_on, if_heard, if_want}
use Rattle.object_store.proofs.asking.ask.Goals as goal

pub heard-requires : goal.heard-requires
heard-requires g c = of_live c.call.result
    (λ n e. none_failed c.args.below.now.failed c.requires.running (c.call.ensures.only_stopped n e))
    (λ e. not_commit c.args.call.now c.requires.inside (c.call.ensures.fault e).commit)

pub returns-clause-does : goal.returns-clause-does
returns-clause-does g c =
    let v = c.args.below.now in
    let w = c.call.new.self in
    let told = c.call.ensures in
    let a = answered v w c.args.call.now c.call.result c.requires.running (not_commit c.args.call.now c.requires.inside) told.only_stopped told.fault told.does told.goes_on told.log_full.0 told.log_marked told.untouched in
    if_heard c.heard.result c.call.result c.heard.ensures.ok c.heard.ensures.entered c.heard.ensures.told (λ (r : Reply). Does c.args.call.now r v w) (λ e j. does_of v w c.args.call.now c.call.result a e j)

pub returns-clause-short : goal.returns-clause-short
returns-clause-short g c =
    let v = c.args.below.now in
    let w = c.call.new.self in
    let told = c.call.ensures in
    let a = answered v w c.args.call.now c.call.result c.requires.running (not_commit c.args.call.now c.requires.inside) told.only_stopped told.fault told.does told.goes_on told.log_full.0 told.log_marked told.untouched in
    if_want c.heard.result c.call.result c.heard.ensures.want c.heard.ensures.why (λ (why : StoreError). IsShort c.args.call.now why v w) (λ why h e. is_short v w c.args.call.now c.call.result why a h e)

pub returns-clause-running : goal.returns-clause-running
returns-clause-running g c =
    let v = c.args.below.now in
    let w = c.call.new.self in
    let told = c.call.ensures in
    let a = answered v w c.args.call.now c.call.result c.requires.running (not_commit c.args.call.now c.requires.inside) told.only_stopped told.fault told.does told.goes_on told.log_full.0 told.log_marked told.untouched in
    runs_on v w c.args.call.now c.call.result a
