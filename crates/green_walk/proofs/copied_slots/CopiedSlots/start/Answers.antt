use Rattle.std.proofs.Common.{rules, lit<, ◌≡◌, ◌*◌, ◌≤◌, length, sym, ap, ◌∙◌, subst, arith}
use Rattle.green_walk.specs.Linked.{SlotList, AreRowsOf, AreLinked, bare}
use Rattle.green_walk.proofs.CopiedInside.{lengthened, same-list}
use Rattle.green_walk.proofs.RowLaws.{times-more, length-slots, slots-within}
use Rattle.green_walk.proofs.copied_slots.CopiedSlots.start.Goals as goal

pub push_all-requires : goal.push_all-requires
push_all-requires g c =
    let k = c.self.invariant in
    let same : c.self.inside.limit ≡ c.args.red.now.limit = ap (λ (l : SlotList). l.limit) c.self.view_is ∙ c.requires.limit in
    let ids = c.clear.ensures.capacity in
    let rows = c.clear-2.ensures.capacity in
    (search rules, (lit< tt, ((c.clear.ensures.items, c.clear-2.ensures.items), (c.requires.copied, (omega (arith, same, k.id_room, ids), omega (arith, same, k.row_room, rows))))))

pub lengthen-requires : goal.lengthen-requires
lengthen-requires g c =
    let k = c.self.invariant in
    let same : c.self.inside.limit ≡ c.args.red.now.limit = ap (λ (l : SlotList). l.limit) c.self.view_is ∙ c.requires.limit in
    let few : length c.push_all.new.rows.items ≤ c.self.inside.limit = (let f = c.push_all.ensures.few in omega (arith, f, same)) in
    let counted : c.len.result ≡ length c.push_all.new.rows.items = (let n = c.len.ensures in omega (arith, n)) in
    let count : g.row.SLOTS * c.len.result ≡ g.row.SLOTS * length c.push_all.new.rows.items = ap (λ n. g.row.SLOTS * n) counted in
    let times = times-more g.row.SLOTS (length c.push_all.new.rows.items) c.self.inside.limit few in
    omega (arith, count, times, k.link_room)

pub link_all-requires : goal.link_all-requires
link_all-requires g c =
    let k = c.self.invariant in
    let same : c.self.inside.limit ≡ c.args.red.now.limit = ap (λ (l : SlotList). l.limit) c.self.view_is ∙ c.requires.limit in
    let few = c.push_all.ensures.few in
    let value = c.deref.ensures.value in
    let all = ap length value in
    let counted : c.len.result ≡ length c.push_all.new.rows.items = (let n = c.len.ensures in omega (arith, n)) in
    let count : g.row.SLOTS * c.len.result ≡ g.row.SLOTS * length c.deref.result.now = ap (λ n. g.row.SLOTS * n) (counted ∙ sym all) in
    let longer = lengthened c.self.inside.next.items c.lengthen.new.next.items (g.row.SLOTS * c.len.result) c.lengthen.ensures.links in
    (search rules, (k.size, (subst (AreRowsOf g.row.SLOTS) (sym value) c.push_all.ensures.long, (omega (arith, all, few, same, k.limited), (omega (arith, count, longer), (c.self.inside.limit, k.firsts))))))

pub invariant_of-self : goal.invariant_of-self
invariant_of-self g c =
    let k = c.self.invariant in
    let same : c.self.inside.limit ≡ c.args.red.now.limit = ap (λ (l : SlotList). l.limit) c.self.view_is ∙ c.requires.limit in
    let few : length c.push_all.new.rows.items ≤ c.self.inside.limit = (let f = c.push_all.ensures.few in omega (arith, f, same)) in
    let each : length c.push_all.new.rows.items ≡ length c.push_all.new.ids.items = c.push_all.ensures.lengths.1 ∙ sym c.push_all.ensures.lengths.0 in
    let counted : c.len.result ≡ length c.push_all.new.rows.items = (let n = c.len.ensures in omega (arith, n)) in
    let count : g.row.SLOTS * c.len.result ≡ g.row.SLOTS * length c.push_all.new.rows.items = ap (λ n. g.row.SLOTS * n) counted in
    let longer = lengthened c.self.inside.next.items c.lengthen.new.next.items (g.row.SLOTS * c.len.result) c.lengthen.ensures.links in
    let kept = c.link_all.ensures.nexts in
    let ids_cleared = c.clear.ensures.capacity in
    let rows_cleared = c.clear-2.ensures.capacity in
    let ids_room = c.push_all.ensures.ids_room in
    let rows_room = c.push_all.ensures.rows_room in
    let longer_room = c.lengthen.ensures.capacity in
    let linked_room = c.link_all.ensures.room in
    record {
      size = k.size;
      each = each;
      long = c.push_all.ensures.long;
      linked = subst (λ rows. AreLinked (bare rows) 0 c.self.inside.limit c.link_all.new.first.items c.link_all.new.next.items) c.deref.ensures.value (c.link_all.ensures.linked c.self.inside.limit k.firsts);
      firsts = c.link_all.ensures.firsts ∙ k.firsts;
      objects = omega (arith, few, each);
      limited = k.limited;
      few = omega (arith, count, longer, kept);
      id_room = omega (arith, k.id_room, ids_cleared, ids_room);
      row_room = omega (arith, k.row_room, rows_cleared, rows_room);
      link_room = omega (arith, k.link_room, longer_room, linked_room);
    }

pub returns-clause-slots : goal.returns-clause-slots
returns-clause-slots g c = same-list _ _ _ _ c.push_all.ensures.slots (ap (λ (l : SlotList). l.limit) c.self.view_is)

pub returns-clause-few : goal.returns-clause-few
returns-clause-few g c =
    let each : length c.push_all.new.rows.items ≡ length c.push_all.new.ids.items = c.push_all.ensures.lengths.1 ∙ sym c.push_all.ensures.lengths.0 in
    let size = length-slots g.row.SLOTS c.push_all.new.ids.items c.push_all.new.rows.items c.push_all.ensures.long each in
    let times = times-more g.row.SLOTS (length c.push_all.new.rows.items) c.args.red.now.limit c.push_all.ensures.few in
    let turned : g.row.SLOTS * c.args.red.now.limit ≡ c.args.red.now.limit * g.row.SLOTS = omega arith in
    omega (arith, size, times, turned)

pub returns-clause-within : goal.returns-clause-within
returns-clause-within g c s m = slots-within g.row.SLOTS c.push_all.new.ids.items c.push_all.new.rows.items c.push_all.ensures.long s m
