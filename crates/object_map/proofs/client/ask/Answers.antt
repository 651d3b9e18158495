use Rattle.std.proofs.Common.{◌≡◌}
use Rattle.plain_model.specs.declared.calls.Reply.{Reply}
use Rattle.plain_model.specs.Machine.{step}
use Rattle.object_map.specs.declared.refusal.MapRefusal.{MapRefusal}
use Rattle.object_map.specs.Clients.{client_at, state_of, IsAsked, Falls}
use Rattle.object_map.proofs.ClientLaws.{of_alone, not_commit, none_failed, stepped, want_same, want_falls, still_running, asked_by, if_heard, if_want}
use Rattle.object_map.proofs.client.ask.Goals as goal

pub heard-requires : goal.heard-requires
heard-requires g c = of_alone c.call.result c.call.ensures.never_again
    (λ faults e. none_failed c.args.store.now.failed c.requires.client.running (c.call.ensures.only_stopped faults e))
    (λ e. not_commit c.args.call.now c.requires.inside (c.call.ensures.fault e).commit)

pub returns-clause-step : goal.returns-clause-step
returns-clause-step g c = if_heard c.heard.result c.call.result c.heard.ensures.ok c.heard.ensures.entered c.heard.ensures.told
    (λ (r : Reply). step (state_of (client_at c.args.store.now c.args.number)) c.args.number c.args.call.now ≡ (r, state_of (client_at c.call.new.self c.args.number)))
    (λ e j. stepped c.args.store.now.journal c.call.new.self.journal c.args.number c.args.call.now c.call.result (c.call.ensures.does j) e)

pub returns-clause-asked : goal.returns-clause-asked
returns-clause-asked g c = if_heard c.heard.result c.call.result c.heard.ensures.ok c.heard.ensures.entered c.heard.ensures.told
    (λ (r : Reply). IsAsked (client_at c.args.store.now c.args.number) c.args.call.now r (client_at c.call.new.self c.args.number))
    (λ e j. asked_by c.args.store.now c.call.new.self c.args.number c.args.call.now c.call.result c.requires.inside c.call.ensures.does c.call.ensures.goes_on c.call.ensures.log_full.0 c.call.ensures.log_marked c.call.ensures.kept c.call.ensures.untouched)

pub returns-clause-same : goal.returns-clause-same
returns-clause-same g c = if_want c.heard.result c.call.result c.heard.ensures.want c.heard.ensures.why
    (λ (_ : MapRefusal). state_of (client_at c.call.new.self c.args.number) ≡ state_of (client_at c.args.store.now c.args.number))
    (λ why w t. want_same c.args.store.now c.call.new.self c.args.number c.args.call.now c.call.result w c.call.ensures.does c.call.ensures.log_marked)

pub returns-clause-refused : goal.returns-clause-refused
returns-clause-refused g c = if_want c.heard.result c.call.result c.heard.ensures.want c.heard.ensures.why
    (λ (why : MapRefusal). Falls 0 why (client_at c.args.store.now c.args.number) (client_at c.call.new.self c.args.number))
    (λ why w t. want_falls c.args.store.now c.call.new.self c.args.number c.args.call.now c.call.result why w t
    (asked_by c.args.store.now c.call.new.self c.args.number c.args.call.now c.call.result c.requires.inside c.call.ensures.does c.call.ensures.goes_on c.call.ensures.log_full.0 c.call.ensures.log_marked c.call.ensures.kept c.call.ensures.untouched)
    (want_same c.args.store.now c.call.new.self c.args.number c.args.call.now c.call.result w c.call.ensures.does c.call.ensures.log_marked))

pub returns-clause-running : goal.returns-clause-running
returns-clause-running g c = still_running c.args.store.now c.call.new.self c.call.result
    (of_alone c.call.result c.call.ensures.never_again
    (λ faults e. none_failed c.args.store.now.failed c.requires.client.running (c.call.ensures.only_stopped faults e))
    (λ e. not_commit c.args.call.now c.requires.inside (c.call.ensures.fault e).commit))
    c.requires.client.running c.call.ensures.goes_on c.call.ensures.log_marked
