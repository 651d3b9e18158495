use Rattle.std.proofs.Common.{ℕ, ◌+◌, List, sym, ap, ◌∙◌}
use Rattle.strict_locks.specs.Locks.{Table}
use Rattle.core_store.specs.Transactions.{Running, forgetting}
use Rattle.core_store.specs.Tables.{TablesView, owed_by, changed_at}
use Rattle.core_store.specs.Views.{view_of}
use Rattle.core_store.proofs.MapLaws.{forgotten-noted, owed-noted, running-some}
use Rattle.core_store.proofs.tables.Tables.own_to_write.Goals as goal

pub invariant_of-self-in-Err-clause-owes : goal.invariant_of-self-in-Err-clause-owes
invariant_of-self-in-Err-clause-owes g c =
    c.args.self.now.owes
    ∙ sym (ap owed_by (c.forget.ensures ∙ (ap (changed_at c.args.pass forgetting) c.in_ok-note.ensures.ok ∙ forgotten-noted c.args.pass c.args.replaced c.args.self.now.transactions.entries)))

pub returns-in-Err-clause-err : goal.returns-in-Err-clause-err
returns-in-Err-clause-err g c =
    let v = view_of c.args.self.now in
    let entries = c.forget.ensures ∙ (ap (changed_at c.args.pass forgetting) c.in_ok-note.ensures.ok ∙ forgotten-noted c.args.pass c.args.replaced c.args.self.now.transactions.entries) in
    ap (λ (ts : List (ℕ × Running)). let w : TablesView = record v { locks = c.own.new.locks; transactions = ts } in w) entries
    ∙ ap (λ (ls : Table). let w : TablesView = record v { locks = ls } in w) c.in-Err.ensures.err

pub invariant_of-self-2-clause-owes : goal.invariant_of-self-2-clause-owes
invariant_of-self-2-clause-owes g c =
    let t = running-some _ c.requires.active in
    let e = owed-noted c.args.pass c.args.replaced t.0 c.args.self.now.transactions.entries t.1 in
    rw c.in_ok-note.ensures.ok (ap (λ (n : ℕ). n + 1) c.args.self.now.owes ∙ sym e)
