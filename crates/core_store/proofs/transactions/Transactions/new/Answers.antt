use Rattle.std.proofs.Common.{ap, ◌∙◌}
use Rattle.core_store.specs.TransactionRows.{entries_of}
use Rattle.core_store.proofs.TransactionRowLaws.{entries-none, inside-none}
use Rattle.core_store.proofs.transactions.Transactions.new.Goals as goal

pub invariant_of-result : goal.invariant_of-result
invariant_of-result c = inside-none c.new.result.items c.new.ensures.items

pub returns : goal.returns
returns c = record { empty = ap entries_of c.new.ensures.items ∙ entries-none }
