use Rattle.std.proofs.Common.{[]}
use Rattle.log_checker.proofs.FeedingLaws.{starts}
use Rattle.log_checker.proofs.checker.Checker.new.Goals as goal

pub invariant_of-result : goal.invariant_of-result
invariant_of-result g c = (c.requires, ([], starts c.new.result c.new-2.result c.new.ensures c.new-2.ensures))

pub returns-clause-follows : goal.returns-clause-follows
returns-clause-follows g c = starts c.new.result c.new-2.result c.new.ensures c.new-2.ensures
