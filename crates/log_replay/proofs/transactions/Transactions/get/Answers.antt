use Rattle.std.proofs.Common.{sym, ◌∙◌}
use Rattle.log_replay.proofs.RowLaws.{found-in, missed-in}
use Rattle.log_replay.proofs.transactions.Transactions.get.Goals as goal

pub returns-in-Some : goal.returns-in-Some
returns-in-Some c =
    record { value = rw (← c.self.view_is) (c.as_ref.ensures.value ∙ sym (found-in c.self.inside.rows.items c.deref.result.now c.args.pass c.in-Some.row.now c.deref.ensures.value c.in-Some.ensures.lookup.3.0 c.in-Some.ensures.lookup.1)) }

pub returns-in-None : goal.returns-in-None
returns-in-None c = record { value = rw (← c.self.view_is) (sym (missed-in c.self.inside.rows.items c.deref.result.now c.args.pass c.deref.ensures.value c.in-None.ensures.lookup.3)) }
