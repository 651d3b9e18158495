use Rattle.std.proofs.Common.{ap, ◌∙◌}
use Rattle.log_replay.specs.Rows.{entries_of}
use Rattle.log_replay.proofs.RowLaws.{entries-none, inside-none}
use Rattle.log_replay.proofs.transactions.Transactions.new.Goals as goal

pub invariant_of-result : goal.invariant_of-result
invariant_of-result c = inside-none c.new.result.items c.new.ensures.items

pub returns : goal.returns
returns c = record { empty = ap entries_of c.new.ensures.items ∙ entries-none }
