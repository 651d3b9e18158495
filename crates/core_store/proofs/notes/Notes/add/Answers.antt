use Rattle.std.proofs.Common.{List, [], ◌∷◌, ◌++◌, length, sym, ap, ◌∙◌, subst, arith}
use Rattle.std.proofs.lemmas.List.{length_push}
use Rattle.core_store.specs.declared.notes.PlainNote.{PlainNote}
use Rattle.core_store.specs.declared.notes.Row.{Row}
use Rattle.core_store.specs.declared.notes.Row.TheVariants as row
use Rattle.core_store.specs.Notes.{NotesView, AreFilled, in_order, note_of_plain}
use Rattle.core_store.proofs.NotesLaws.{filled-plain, in_order-plain, filled-few, room-in_order}
use Rattle.core_store.proofs.notes.Notes.add.Goals as goal

pub push_into_room-requires : goal.push_into_room-requires
push_into_room-requires c =
    let n = room-in_order c.self.inside.order c.self.inside.plain c.self.inside.events c.self.inside.room c.args.self.now c.self.invariant c.self.view_is c.requires in
    let row = c.self.invariant.in_order_row in
    grind (arith, n, row)

pub push_into_room-requires-2 : goal.push_into_room-requires-2
push_into_room-requires-2 c =
    let n = room-in_order c.self.inside.order c.self.inside.plain c.self.inside.events c.self.inside.room c.args.self.now c.self.invariant c.self.view_is c.requires in
    let few = (filled-few c.self.inside.order.items c.self.inside.plain.items c.self.inside.events.items c.self.invariant.filled).0 in
    let row = c.self.invariant.in_plain_row in
    grind (arith, n, few, row)

pub invariant_of-self : goal.invariant_of-self
invariant_of-self c = record {
  filled =
      subst (λ (rows : List Row). AreFilled rows c.push_into_room-2.new.row.items c.self.inside.events.items) (sym c.push_into_room.ensures.items)
      (subst (λ (xs : List PlainNote). AreFilled (c.self.inside.order.items ++ row.Plain ∷ []) xs c.self.inside.events.items) (sym c.push_into_room-2.ensures.items)
      (filled-plain c.self.inside.order.items c.self.inside.plain.items c.self.inside.events.items c.args.note c.self.invariant.filled));
  within = (let more = room-in_order c.self.inside.order c.self.inside.plain c.self.inside.events c.self.inside.room c.args.self.now c.self.invariant c.self.view_is c.requires in let long = ap length c.push_into_room.ensures.items in let one = length_push c.self.inside.order.items row.Plain in omega (arith, more, long, one));
  in_order_row = (let row = c.self.invariant.in_order_row in let grows = c.push_into_room.ensures.capacity in omega (arith, row, grows));
  in_plain_row = (let row = c.self.invariant.in_plain_row in let grows = c.push_into_room-2.ensures.capacity in omega (arith, row, grows));
  in_event_row = c.self.invariant.in_event_row;
}

pub returns-clause-list : goal.returns-clause-list
returns-clause-list c =
    (λ i. in_order (c.push_into_room.ensures.items i) (c.push_into_room-2.ensures.items i) c.self.inside.events.items)
    ∙ (in_order-plain c.self.inside.order.items c.self.inside.plain.items c.self.inside.events.items c.args.note c.self.invariant.filled
    ∙ ap (λ (v : NotesView). v.list ++ note_of_plain c.args.note ∷ []) c.self.view_is)

pub returns-clause-len : goal.returns-clause-len
returns-clause-len c = ap length (returns-clause-list c) ∙ length_push c.args.self.now.list (note_of_plain c.args.note)
