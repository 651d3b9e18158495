use Rattle.std.proofs.Common.{refl, sym, subst}
use Rattle.plain_model.specs.declared.calls.Call.TheVariants as call
use Rattle.stored_map.specs.Steps.{LosesCommit}
use Rattle.stored_map.proofs.AskLaws.{does_done, goes_done, commit_done, commit_machine, commit_asks, commit_lost, never_stopped}
use Rattle.stored_map.proofs.asking.commit.Goals as goal

pub returns-in-Done-clause-done : goal.returns-in-Done-clause-done
returns-in-Done-clause-done g c =
    let e = c.call-reply.ensures in
    commit_done g.D.Disk.faults c.args.store.now c.call-reply.new.self c.requires.client (does_done _ _ call.Commit c.call-reply.result c.in-Done.is e.does) (goes_done _ _ c.call-reply.result c.in-Done.is e.goes_on) e.later

pub returns-in_default-clause-lost : goal.returns-in_default-clause-lost
returns-in_default-clause-lost g c =
    let e = c.call-reply.ensures in
    let u = c.args.store.now in
    let v = c.call-reply.new.self in
    let told = commit_lost g.D.Disk.faults u v c.call-reply.result
    (record {
      never_again = e.never_again;
      never_stopped = never_stopped u.failed c.call-reply.result c.requires.client.running e.only_stopped;
      does = e.does;
      goes_on = e.goes_on;
      log_marked = e.log_marked;
      machine = commit_machine u c.requires.client;
      running = c.requires.client.running;
      unmarked = c.requires.unmarked;
      disk = commit_asks u v c.call-reply.result e.does (e.commit refl) e.untouched;
    })
    c.in_default.not-Done e.fault in
    subst (λ f. LosesCommit g.D.Disk.faults f u v) (sym c.failure_of.ensures) told
