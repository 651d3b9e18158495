use Rattle.std.proofs.Common.{◌≡◌, length, ap, arith}
use Rattle.core_store.specs.Notes.{NotesView}
use Rattle.core_store.proofs.NotesLaws.{in_order-len}
use Rattle.core_store.proofs.notes.Notes.take_room.Goals as goal

pub returns-then-more-self-clause-room : goal.returns-then-more-self-clause-room
returns-then-more-self-clause-room c =
    let a = c.self.inside in
    let n : c.len.result ≡ length a.order.items = grind (arith, c.len.ensures) in
    let long = in_order-len a.order.items a.plain.items a.events.items c.self.invariant.filled in
    let seen = ap (λ (v : NotesView). length v.list) c.self.view_is in
    let room = ap (λ (v : NotesView). v.room) c.self.view_is in
    omega (arith, n, long, seen, room, c.self.invariant.within, c.if-more-self.true)

pub returns-clause-succeeds : goal.returns-clause-succeeds
returns-clause-succeeds c = λ enough.
    let a = c.self.inside in
    let n : c.len.result ≡ length a.order.items = grind (arith, c.len.ensures) in
    let long = in_order-len a.order.items a.plain.items a.events.items c.self.invariant.filled in
    let seen = ap (λ (v : NotesView). length v.list) c.self.view_is in
    let room = ap (λ (v : NotesView). v.room) c.self.view_is in
    absurd (omega (arith, n, long, seen, room, c.if-more-self.false, enough))
