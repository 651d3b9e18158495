use Rattle.std.proofs.Common.{rules}
use Rattle.core_store.specs.Views.{view_of}
use Rattle.core_store.proofs.EndQueue.{named-within, marks-sized}
use Rattle.core_store.proofs.CommitHandler.{does-commit}
use Rattle.core_store.proofs.tables.Tables.commit.Goals as goal

pub end-requires : goal.end-requires
end-requires g c =
    let v = view_of {slots = g.row.SLOTS} c.args.self.now in
    (search rules, (named-within g.row.SLOTS v c.requires.standing.0 c.requires.standing.1 c.args.pass, marks-sized g.row.SLOTS v c.requires.standing.0 c.requires.standing.1))

pub returns-clause-does : goal.returns-clause-does
returns-clause-does g c = λ held. does-commit (view_of {slots = g.row.SLOTS} c.args.self.now) held c.args.pass (view_of {slots = g.row.SLOTS} c.end.new.self) c.end.ensures.ends
