use Rattle.std.proofs.Common.{rules}
use Rattle.core_store.specs.Notes.{act_of, logged_of}
use Rattle.core_store.proofs.tables.Tables.collect_step.Goals as goal

pub returns-in-Queue-clause-enters : goal.returns-in-Queue-clause-enters
returns-in-Queue-clause-enters g c = record {
  event = act_of c.begin_round.result;
  logged = logged_of c.begin_round.result;
  collects = c.begin_round.ensures.collects c.args.held.now;
  noted = c.enter.ensures.noted;
  told = c.enter.ensures.answer;
}

pub returns-in-Judge-clause-enters : goal.returns-in-Judge-clause-enters
returns-in-Judge-clause-enters g c = let collects = c.judge.ensures.collects c.args.held.now in search rules

pub returns-in-End-clause-enters : goal.returns-in-End-clause-enters
returns-in-End-clause-enters g c = let collects = c.end_round.ensures.collects c.args.held.now in search rules
