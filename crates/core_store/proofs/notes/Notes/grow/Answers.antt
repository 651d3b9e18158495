use Rattle.std.proofs.Common.{◌≡◌, length, ap, arith}
use Rattle.core_store.specs.Notes.{in_order}
use Rattle.core_store.proofs.NotesLaws.{in_order-len, filled-few}
use Rattle.core_store.proofs.notes.Notes.grow.Goals as goal

pub overflow_sub-all : goal.overflow_sub-all
overflow_sub-all c =
    let a = c.self.inside in
    let few = (filled-few a.order.items a.plain.items a.events.items c.self.invariant.filled).0 in
    let rows = ap length c.in_ok-reserve.ensures.items in
    let n : c.len.result ≡ length c.reserve.new.self.items = grind (arith, c.len.ensures) in
    let m : c.len-2.result ≡ length a.plain.items = grind (arith, c.len-2.ensures) in
    omega (arith, few, rows, n, m)

pub overflow_sub-all-2 : goal.overflow_sub-all-2
overflow_sub-all-2 c =
    let a = c.self.inside in
    let few = (filled-few a.order.items a.plain.items a.events.items c.self.invariant.filled).1 in
    let rows = ap length c.in_ok-reserve.ensures.items in
    let n : c.len.result ≡ length c.reserve.new.self.items = grind (arith, c.len.ensures) in
    let m : c.len-3.result ≡ length a.events.items = grind (arith, c.len-3.ensures) in
    omega (arith, few, rows, n, m)

pub returns-clause-room : goal.returns-clause-room
returns-clause-room c =
    let a = c.self.inside in
    let few = filled-few a.order.items a.plain.items a.events.items c.self.invariant.filled in
    let few_plain = few.0 in
    let few_events = few.1 in
    let rows = c.in_ok-reserve.ensures.items in
    let plain = c.in_ok-reserve-2.ensures.items in
    let events = c.in_ok-reserve-3.ensures.items in
    let all : length (in_order c.reserve.new.self.items c.reserve-2.new.self.items c.reserve-3.new.self.items) ≡ length (in_order a.order.items a.plain.items a.events.items) = λ i. length (in_order (rows i) (plain i) (events i)) in
    let long = in_order-len a.order.items a.plain.items a.events.items c.self.invariant.filled in
    let rows_long = ap length rows in
    let n : c.len.result ≡ length c.reserve.new.self.items = grind (arith, c.len.ensures) in
    let m : c.len-2.result ≡ length a.plain.items = grind (arith, c.len-2.ensures) in
    let k : c.len-3.result ≡ length a.events.items = grind (arith, c.len-3.ensures) in
    let in_rows = c.in_ok-reserve.ensures.ok in
    let in_plain = c.in_ok-reserve-2.ensures.ok in
    let in_events = c.in_ok-reserve-3.ensures.ok in
    omega (arith, few_plain, few_events, all, long, rows_long, n, m, k, in_rows, in_plain, in_events, c.in_ok-reserve-2.ensures.len, c.in_ok-reserve-3.ensures.len, c.len.ensures, c.len-2.ensures, c.len-3.ensures, c.capacity.ensures, c.capacity-2.ensures, c.capacity-3.ensures, c.min.ensures, c.min-self-inside.ensures)
