use Rattle.std.proofs.Common.{◌≡◌, length, sym, ap, ◌∙◌, arith}
use Rattle.core_store.specs.Notes.{NotesView}
use Rattle.core_store.proofs.NotesLaws.{in_order-len}
use Rattle.core_store.proofs.notes.Notes.len.Goals as goal

pub returns : goal.returns
returns c =
    let a = c.self.inside in
    let n : c.len.result ≡ length a.order.items = grind (arith, c.len.ensures) in
    n ∙ (sym (in_order-len a.order.items a.plain.items a.events.items c.self.invariant.filled) ∙ ap (λ (v : NotesView). length v.list) c.self.view_is)
