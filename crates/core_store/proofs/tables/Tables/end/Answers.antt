use Rattle.std.proofs.Common.{rules}
use Rattle.core_store.specs.Views.{view_of}
use Rattle.core_store.proofs.QueueLaws.{within-kept, marks-kept, ends-after}
use Rattle.core_store.proofs.tables.Tables.end.Goals as goal

pub queue_named-requires : goal.queue_named-requires
queue_named-requires g c =
    let v = view_of {slots = g.row.SLOTS} c.args.self.now in
    let p = view_of {slots = g.row.SLOTS} c.drop_transaction.new.self in
    (search rules, (within-kept v p c.args.pass c.drop_all.new.self c.drop_transaction.ensures.same c.requires.within, marks-kept v p c.drop_all.new.self c.drop_transaction.ensures.same c.requires.marks))

pub returns-clause-ends : goal.returns-clause-ends
returns-clause-ends g c =
    ends-after (view_of {slots = g.row.SLOTS} c.args.self.now) (view_of {slots = g.row.SLOTS} c.drop_transaction.new.self) (view_of {slots = g.row.SLOTS} c.queue_named.new.self) c.args.pass c.drop_all.new.self c.drop_transaction.ensures.same c.drop_all.ensures
    c.drop_transaction.ensures.takes c.drop_transaction.ensures.least c.queue_named.ensures.unnamed
