use Rattle.std.proofs.Common.{◌≡◌, ◌≤◌, ℕ, List, Option, Some, None, sym, subst, arith}
use Rattle.std.proofs.lemmas.List.{get_or_past}
use Rattle.object_store.specs.Handles.{held_at}
use Rattle.object_store.proofs.table.Table.holds.Goals as goal

pub returns-then-held-ge-REGISTERS-clause-holds : goal.returns-then-held-ge-REGISTERS-clause-holds
returns-then-held-ge-REGISTERS-clause-holds c =
    let rows = c.self.inside.rows in
    let r = c.args.held.register in
    let big : 8 ≤ r = c.if-held-ge-REGISTERS.true in
    let past : held_at rows r ≡ None = get_or_past rows r None (omega (arith, c.self.invariant, big)) in
    (λ e. absurd (cc), λ e. absurd (let some : held_at rows r ≡ Some c.args.held.id = subst (λ (t : List (Option ℕ)). held_at t r ≡ Some c.args.held.id) (sym c.self.view_is) e in cc))
