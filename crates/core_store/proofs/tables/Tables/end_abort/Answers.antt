use Rattle.std.proofs.Common.{List, ap, arith, rules, length}
use Rattle.plain_model.specs.declared.write.Write.{Write}
use Rattle.core_store.specs.Views.{view_of}
use Rattle.core_store.proofs.MapLaws.{running-some}
use Rattle.core_store.proofs.EndLaws.{ends-abort}
use Rattle.core_store.proofs.EndQueue.{named-within, marks-sized}
use Rattle.core_store.proofs.UndoHandler.{last-of, no-last}
use Rattle.core_store.proofs.tables.Tables.end_abort.Goals as goal

pub end-requires : goal.end-requires
end-requires g c =
    let v = view_of {slots = g.row.SLOTS} c.args.self.now in
    let s = c.requires.standing in
    (search rules, (named-within g.row.SLOTS v s.0 s.1 c.args.pass, marks-sized g.row.SLOTS v s.0 s.1))

pub returns-clause-ended : goal.returns-clause-ended
returns-clause-ended g c =
    let t = running-some _ c.requires.active in
    ends-abort g.row.SLOTS (view_of c.args.self.now) (view_of c.end.new.self) c.args.pass t.0 t.1 (no-last t.0.replaced (last-of c.args.self.now.transactions.entries c.args.pass t.0 _ t.1 c.requires.nothing)) c.end.ensures.ends

pub returns-clause-owed : goal.returns-clause-owed
returns-clause-owed g c =
    let t = running-some _ c.requires.active in
    let nothing = ap (λ (ws : List Write). length ws) (no-last t.0.replaced (last-of c.args.self.now.transactions.entries c.args.pass t.0 _ t.1 c.requires.nothing)) in
    let owed = c.end.ensures.ends.owed t.0 t.1 in
    omega (arith, nothing, owed)
