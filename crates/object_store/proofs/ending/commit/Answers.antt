use Rattle.std.proofs.Common.{refl, inr}
use Rattle.plain_model.specs.declared.calls.Call.TheVariants as call
use Rattle.logged_journal.specs.Opens.{OpensDuring}
use Rattle.object_store.specs.Seen.{object_slots, client}
use Rattle.object_store.proofs.CommitLaws.{CommitAnswers, has_committed, only_wanted, alone_still, ends_wanted, not_committed, leaves_same}
use Rattle.object_store.proofs.ending.commit.Goals as goal

pub end_open-requires-clause-kept : goal.end_open-requires-clause-kept
end_open-requires-clause-kept g c κs within =
    let v = c.args.below.now in
    let m = c.call-reply.new.self in
    let told = c.call-reply.ensures in
    let a : CommitAnswers c.call-reply.result v m = record {
      only_stopped = told.only_stopped;
      does = told.does;
      goes_on = told.goes_on;
      log_full = told.log_full;
      marked = told.log_marked;
      memory = told.commit refl;
      untouched = λ f. told.untouched (λ e. f);
    } in
    let want = only_wanted v m c.call-reply.result c.requires.live a c.in_default.not-Done c.in_default.not-DiskFault in
    λ f. inr (alone_still v m c.call-reply.result c.requires.live want)

pub returns-in-Done-clause-done : goal.returns-in-Done-clause-done
returns-in-Done-clause-done g c = has_committed c.args.below.now c.call-reply.new.self c.requires.live (c.in-Done.ensures.does tt) (c.in-Done.ensures.goes_on tt) (c.in-Done.ensures.committed refl refl)

pub returns-in_default : goal.returns-in_default
returns-in_default g c =
    let v = c.args.below.now in
    let m = c.call-reply.new.self in
    let w = c.end_open.new.below in
    let r = c.call-reply.result in
    let told = c.call-reply.ensures in
    let a : CommitAnswers r v m = record {
      only_stopped = told.only_stopped;
      does = told.does;
      goes_on = told.goes_on;
      log_full = told.log_full;
      marked = told.log_marked;
      memory = told.commit refl;
      untouched = λ f. told.untouched (λ e. f);
    } in
    let want = only_wanted v m r c.requires.live a c.in_default.not-Done c.in_default.not-DiskFault in
    record {
      done = tt;
      failed = not_committed g.D.Disk.faults c.short.result r v w c.short.ensures want.cause (ends_wanted v m w r c.requires.live want c.end_open.ensures);
      opens = leaves_same g.D.Disk.moment g.D.Disk.left_since v.disk m.disk w.disk (OpensDuring object_slots v client call.Commit) told.opens c.end_open.ensures.disk.disk;
    }
