use Rattle.std.proofs.Common.{List, [], ◌∷◌, ◌++◌, length, sym, ap, ◌∙◌, subst, arith}
use Rattle.std.proofs.lemmas.List.{length_push}
use Rattle.core_store.specs.declared.notes.EventNote.{EventNote}
use Rattle.core_store.specs.declared.notes.Row.{Row}
use Rattle.core_store.specs.declared.notes.Row.TheVariants as row
use Rattle.core_store.specs.Notes.{NotesView, AreFilled, in_order, note_of_event}
use Rattle.core_store.proofs.NotesLaws.{filled-event, in_order-event, filled-few, room-in_order}
use Rattle.core_store.proofs.notes.Notes.add_event.Goals as goal

pub push_into_room-requires : goal.push_into_room-requires
push_into_room-requires c =
    let n = room-in_order c.self.inside.order c.self.inside.plain c.self.inside.events c.self.inside.room c.args.self.now c.self.invariant c.self.view_is c.requires in
    let row = c.self.invariant.in_order_row in
    grind (arith, n, row)

pub push_into_room-requires-2 : goal.push_into_room-requires-2
push_into_room-requires-2 c =
    let n = room-in_order c.self.inside.order c.self.inside.plain c.self.inside.events c.self.inside.room c.args.self.now c.self.invariant c.self.view_is c.requires in
    let few = (filled-few c.self.inside.order.items c.self.inside.plain.items c.self.inside.events.items c.self.invariant.filled).1 in
    let row = c.self.invariant.in_event_row in
    grind (arith, n, few, row)

pub invariant_of-self : goal.invariant_of-self
invariant_of-self c = record {
  filled =
      subst (λ (rows : List Row). AreFilled rows c.self.inside.plain.items c.push_into_room-2.new.row.items) (sym c.push_into_room.ensures.items)
      (subst (λ (xs : List EventNote). AreFilled (c.self.inside.order.items ++ row.Event ∷ []) c.self.inside.plain.items xs) (sym c.push_into_room-2.ensures.items)
      (filled-event c.self.inside.order.items c.self.inside.plain.items c.self.inside.events.items (record { event = c.args.event; left = c.args.left }) c.self.invariant.filled));
  within = (let more = room-in_order c.self.inside.order c.self.inside.plain c.self.inside.events c.self.inside.room c.args.self.now c.self.invariant c.self.view_is c.requires in let long = ap length c.push_into_room.ensures.items in let one = length_push c.self.inside.order.items row.Event in omega (arith, more, long, one));
  in_order_row = (let row = c.self.invariant.in_order_row in let grows = c.push_into_room.ensures.capacity in omega (arith, row, grows));
  in_event_row = (let row = c.self.invariant.in_event_row in let grows = c.push_into_room-2.ensures.capacity in omega (arith, row, grows));
  in_plain_row = c.self.invariant.in_plain_row;
}

pub returns-clause-list : goal.returns-clause-list
returns-clause-list c =
    (λ i. in_order (c.push_into_room.ensures.items i) c.self.inside.plain.items (c.push_into_room-2.ensures.items i))
    ∙ (in_order-event c.self.inside.order.items c.self.inside.plain.items c.self.inside.events.items (record { event = c.args.event; left = c.args.left }) c.self.invariant.filled
    ∙ ap (λ (v : NotesView). v.list ++ note_of_event c.args.event c.args.left ∷ []) c.self.view_is)

pub returns-clause-len : goal.returns-clause-len
returns-clause-len c = ap length (returns-clause-list c) ∙ length_push c.args.self.now.list (note_of_event c.args.event c.args.left)
