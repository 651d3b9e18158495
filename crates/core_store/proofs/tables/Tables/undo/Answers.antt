use Rattle.std.proofs.Common.{◌≡◌, ℕ, ◌+◌, List, Option, Some, sym, ap, ◌∙◌, subst, arith, rules}
use Rattle.std.specs.Prelude.{◌-◌, is_some}
use Rattle.plain_model.specs.declared.write.Write.{Write}
use Rattle.core_store.specs.Transactions.{Running}
use Rattle.core_store.specs.Tables.{TablesView}
use Rattle.core_store.specs.RoundView.{touched_by_record}
use Rattle.core_store.specs.Stands.{UndoesOne}
use Rattle.core_store.specs.Views.{view_of}
use Rattle.core_store.proofs.MapLaws.{running-some, owed-undoing, owed-least}
use Rattle.core_store.proofs.UndoHandler.{undoes-one, ready-restore, last-of, some-last}
use Rattle.core_store.proofs.tables.Tables.undo.Goals as goal

pub overflow_sub-self : goal.overflow_sub-self
overflow_sub-self g c =
    let t = running-some _ c.requires.active in
    let least = owed-least c.args.pass t.0 c.args.self.now.transactions.entries t.1 in
    omega (arith, least, c.args.self.now.owes)

pub invariant_of-self-clause-owes : goal.invariant_of-self-clause-owes
invariant_of-self-clause-owes g c =
    let t = running-some _ c.requires.active in
    let last = last-of c.args.self.now.transactions.entries c.args.pass t.0 _ t.1 c.requires.last in
    let e = owed-undoing c.args.pass t.0 c.args.self.now.transactions.entries t.1 (some-last t.0.replaced c.args.replaced last) in
    rw (c.undo.ensures.some (ap (λ (o : Option Write). is_some o) (c.undo.ensures.last ∙ c.requires.last))) (omega (arith, e, c.args.self.now.owes))

pub restore-requires : goal.restore-requires
restore-requires g c =
    let v = view_of c.args.self.now in
    let t = running-some _ c.requires.active in
    let last = last-of c.args.self.now.transactions.entries c.args.pass t.0 _ t.1 c.requires.last in
    let s = c.requires.ready.standing in
    (search rules, (search rules, (ready-restore g.row.SLOTS v s.core s.stands c.args.pass t.0 t.1 c.args.replaced last c.args.held.now s.agree c.requires.ready.pages, s.stands.counted)))

pub returns-clause-undone : goal.returns-clause-undone
returns-clause-undone g c =
    let v = view_of c.args.self.now in
    let t = running-some _ c.requires.active in
    let last = last-of c.args.self.now.transactions.entries c.args.pass t.0 _ t.1 c.requires.last in
    let entries = c.undo.ensures.some (ap (λ (o : Option Write). is_some o) (c.undo.ensures.last ∙ c.requires.last)) in
    let least = owed-least c.args.pass t.0 c.args.self.now.transactions.entries t.1 in
    let one : c.args.self.now.owed - 1 + 1 ≡ c.args.self.now.owed = omega (arith, least, c.args.self.now.owes) in
    subst (λ (w : TablesView). UndoesOne g.row.SLOTS v w c.args.held.now c.restore.new.held c.args.pass c.restore.result) (sym c.restore.ensures.same)
    (subst (λ (ts : List (ℕ × Running)). UndoesOne g.row.SLOTS v (record v { zeros = c.restore.new.self.zeros.items; transactions = ts; owed = c.args.self.now.owed - 1; round = touched_by_record v.round (Some c.restore.result) }) c.args.held.now c.restore.new.held c.args.pass c.restore.result) (sym entries)
    (undoes-one v c.args.held.now c.restore.new.held (c.args.self.now.owed - 1) c.restore.new.self.zeros.items c.args.pass t.0 c.args.replaced c.restore.result t.1 last c.restore.ensures.restores one))

pub returns-clause-owed : goal.returns-clause-owed
returns-clause-owed g c =
    let t = running-some _ c.requires.active in
    let least = owed-least c.args.pass t.0 c.args.self.now.transactions.entries t.1 in
    let same = ap (λ (w : TablesView). w.owed) c.restore.ensures.same in
    omega (arith, least, same, c.args.self.now.owes)
