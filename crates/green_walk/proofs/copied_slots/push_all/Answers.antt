use Rattle.std.proofs.Common.{rules, ◌≡◌, ◌++◌, ◌∷◌, [], length, get_or, arith, sym, ap, ◌∙◌, subst, length-append}
use Rattle.red_walk.specs.Inside.{copy_of_seen}
use Rattle.green_walk.specs.Greening.{numbered}
use Rattle.green_walk.specs.Linked.{AreRowsOf, slots_of}
use Rattle.green_walk.proofs.CopiedLaws.{copied-next}
use Rattle.green_walk.proofs.RowLaws.{no-rows, no-slots, rows-more, slots-more}
use Rattle.green_walk.proofs.copied_slots.push_all.Goals as goal

pub loop-place-init : goal.loop-place-init
loop-place-init g c = record {
  slots = no-slots c.args.ids.now.items c.args.rows.now.items c.requires.none.0 c.requires.none.1;
  long = subst (AreRowsOf g.row.SLOTS) (sym c.requires.none.1) (no-rows g.row.SLOTS);
  ids = ap length c.requires.none.0;
  rows = ap length c.requires.none.1;
  ids_room = omega arith;
  rows_room = omega arith;
}

pub push_object-requires : goal.push_object-requires
push_object-requires g c =
    let k = c.loop-place.invariant in
    let whole : length c.list-list.result.now ≡ length c.args.red.now.list = ap length c.list-list.ensures.ids in
    let most = c.list-list.ensures.sound.ids.most in
    let test = c.loop-place-test.true in
    let id_room = c.requires.room.0 in
    let row_room = c.requires.room.1 in
    (search rules, (omega (arith, whole, most, test, id_room, k.ids, k.ids_room), omega (arith, whole, most, test, row_room, k.rows, k.rows_room)))

pub loop-place-preserved : goal.loop-place-preserved
loop-place-preserved g c =
    let k = c.loop-place.invariant in
    let at = c.loop-place.place in
    let ids = c.loop-place.ids.items in
    let rows = c.loop-place.rows.items in
    let copy = copy_of_seen c.copy.result.now in
    let id = get_or c.args.red.now.list at 0 in
    let listed = c.list-list.ensures.ids in
    let whole : length c.list-list.result.now ≡ length c.args.red.now.list = ap length listed in
    let test = c.loop-place-test.true in
    let copied = c.requires.copied in
    let new_ids : c.push_object.new.ids.items ≡ ids ++ id ∷ [] = subst (λ xs. c.push_object.new.ids.items ≡ ids ++ get_or xs at 0 ∷ []) listed c.push_object.ensures.ids in
    let new_rows : c.push_object.new.rows.items ≡ rows ++ copy.targets ∷ [] = c.push_object.ensures.rows in
    let added : slots_of c.push_object.new.ids.items c.push_object.new.rows.items ≡ slots_of ids rows ++ numbered id 0 copy.targets =
    ap (λ xs. slots_of xs c.push_object.new.rows.items) new_ids ∙ ap (λ xs. slots_of (ids ++ id ∷ []) xs) new_rows ∙ slots-more ids rows id copy.targets (k.rows ∙ sym k.ids) in
    let id_count = ap length new_ids ∙ length-append ids (id ∷ []) in
    let row_count = ap length new_rows ∙ length-append rows (copy.targets ∷ []) in
    record {
      slots = copied-next c.args.red.now.copies at id copy (slots_of ids rows) (slots_of c.push_object.new.ids.items c.push_object.new.rows.items) (omega (arith, whole, copied, test)) (c.copy.ensures (id, copy)) k.slots added;
      long = subst (AreRowsOf g.row.SLOTS) (sym new_rows) (rows-more g.row.SLOTS copy.targets rows k.long c.push_object.ensures.long);
      ids = omega (arith, id_count, k.ids);
      rows = omega (arith, row_count, k.rows);
      ids_room = (let more = c.push_object.ensures.ids_room in omega (arith, more, k.ids_room));
      rows_room = (let more = c.push_object.ensures.rows_room in omega (arith, more, k.rows_room));
    }
