use Rattle.std.proofs.Common.{sym, subst}
use Rattle.plain_model.specs.declared.calls.Call.TheVariants as call
use Rattle.stored_map.specs.Steps.{Refuses}
use Rattle.stored_map.proofs.AskLaws.{does_done, goes_done, begin_begun, begin_stays, begin_free, begin_machine, never_stopped, refuses_call}
use Rattle.stored_map.proofs.asking.begin.Goals as goal

pub returns-in-Done-clause-begun : goal.returns-in-Done-clause-begun
returns-in-Done-clause-begun g c =
    let e = c.call-reply.ensures in
    begin_begun c.args.store.now c.call-reply.new.self c.requires.quiet (does_done _ _ call.Begin c.call-reply.result c.in-Done.is e.does) (goes_done _ _ c.call-reply.result c.in-Done.is e.goes_on) c.know_left.ensures.known.sound

pub returns-in-Done-clause-stays : goal.returns-in-Done-clause-stays
returns-in-Done-clause-stays g c =
    let e = c.call-reply.ensures in
    begin_stays c.args.store.now c.call-reply.new.self c.requires.quiet (does_done _ _ call.Begin c.call-reply.result c.in-Done.is e.does) (goes_done _ _ c.call-reply.result c.in-Done.is e.goes_on) (e.untouched (λ w k. absurd (cc (w))))

pub returns-in-Done-clause-free : goal.returns-in-Done-clause-free
returns-in-Done-clause-free g c =
    let e = c.call-reply.ensures in
    begin_free c.args.store.now c.call-reply.new.self c.requires.quiet (does_done _ _ call.Begin c.call-reply.result c.in-Done.is e.does)

pub returns-in_default-clause-refused : goal.returns-in_default-clause-refused
returns-in_default-clause-refused g c =
    let e = c.call-reply.ensures in
    let u = c.args.store.now in
    let v = c.call-reply.new.self in
    let told = refuses_call u v call.Begin c.call-reply.result
    (record {
      never_again = e.never_again;
      never_stopped = never_stopped u.failed c.call-reply.result c.requires.quiet.running e.only_stopped;
      does = e.does;
      goes_on = e.goes_on;
      log_marked = e.log_marked;
      machine = begin_machine u c.requires.quiet;
      running = c.requires.quiet.running;
      unmarked = c.requires.quiet.unmarked;
      disk = λ w. (e.untouched (λ i k. absurd (cc (i)))).disk;
    })
    c.in_default.not-Done (λ f. (let k = (e.fault f).commit in absurd (cc (k)))) in
    subst (λ f. Refuses f u v) (sym c.failure_of.ensures) told
