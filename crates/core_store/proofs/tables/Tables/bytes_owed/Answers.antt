use Rattle.std.proofs.Common.{arith}
use Rattle.core_store.specs.Views.{view_of}
use Rattle.core_store.proofs.ActiveCount.{owes-entries, owes-bytes}
use Rattle.core_store.proofs.tables.Tables.bytes_owed.Goals as goal

pub overflow_sub-undos : goal.overflow_sub-undos
overflow_sub-undos g c =
    let v = view_of {slots = g.row.SLOTS} c.args.self.now in
    let some = owes-entries g.row.SLOTS v c.requires.standing.0 c.requires.standing.1 c.len-ends.ensures.ordered in
    omega (arith, some, c.len-ends.ensures.len)

pub overflow_mul-result-2 : goal.overflow_mul-result-2
overflow_mul-result-2 g c =
    let v = view_of {slots = g.row.SLOTS} c.args.self.now in
    let some = owes-entries g.row.SLOTS v c.requires.standing.0 c.requires.standing.1 c.len-ends.ensures.ordered in
    let few = c.requires.few in
    omega (arith, some, few, c.len-ends.ensures.len)

pub overflow_add-result : goal.overflow_add-result
overflow_add-result g c =
    let v = view_of {slots = g.row.SLOTS} c.args.self.now in
    let some = owes-entries g.row.SLOTS v c.requires.standing.0 c.requires.standing.1 c.len-ends.ensures.ordered in
    let few = c.requires.few in
    omega (arith, some, few, c.len-ends.ensures.len)

pub returns : goal.returns
returns g c = λ core stands.
    let v = view_of {slots = g.row.SLOTS} c.args.self.now in
    let bytes = owes-bytes g.row.SLOTS v core stands c.len-ends.ensures.ordered in
    let some = owes-entries g.row.SLOTS v core stands c.len-ends.ensures.ordered in
    omega (arith, bytes, some, c.len-ends.ensures.len)
