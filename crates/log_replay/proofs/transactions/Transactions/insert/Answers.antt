use Rattle.std.proofs.Common.{ap, ◌∙◌, nat_cmp}
use Rattle.std.specs.BTreeMap.{insert_entry}
use Rattle.log_replay.proofs.RowLaws.{Entries, entries-inserted}
use Rattle.log_replay.proofs.transactions.Transactions.insert.Goals as goal

pub returns-clause-entries : goal.returns-clause-entries
returns-clause-entries c =
    rw (← c.self.view_is) (entries-inserted c.open.new.rows.items c.args.pass c.args.transaction c.in_ok-open.ensures.opened ∙ ap (λ (es : Entries). insert_entry nat_cmp es c.args.pass c.args.transaction) c.in_ok-open.ensures.same)
