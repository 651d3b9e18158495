use Rattle.std.proofs.Common.{◌≡◌, ◌<◌, ◌^◌, ℕ, length, sym, ap, subst, ◌∙◌, arith}
use Rattle.core_store.specs.Notes.{NotesView}
use Rattle.core_store.proofs.NotesLaws.{in_order-len}
use Rattle.core_store.proofs.notes.Notes.know_few.Goals as goal

pub returns : goal.returns
returns c =
    let a = c.self.inside in
    let few : length a.order.items < 2 ^ 63 = grind (arith, c.len.ensures) in
    let all : length a.order.items ≡ length c.args.self.now.list = sym (in_order-len a.order.items a.plain.items a.events.items c.self.invariant.filled) ∙ ap (λ (v : NotesView). length v.list) c.self.view_is in
    subst (λ (n : ℕ). n < 2 ^ 63) all few
