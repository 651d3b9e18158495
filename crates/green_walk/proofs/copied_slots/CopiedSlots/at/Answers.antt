use Rattle.std.proofs.Common.{rules, ◌≡◌, ◌<◌, ◌*◌, length, get_or, sym, ap, ◌∙◌, subst}
use Rattle.green_walk.specs.declared.copied_slots.CopiedSlot.{CopiedSlot}
use Rattle.green_walk.specs.Linked.{SlotList, AreRowsOf, slots_of}
use Rattle.green_walk.proofs.CopiedInside.{seen-within}
use Rattle.green_walk.proofs.copied_slots.CopiedSlots.at.Goals as goal

pub slot_in-requires : goal.slot_in-requires
slot_in-requires g c =
    let k = c.self.invariant in (
      search rules,
      (
        k.size,
        (
          subst (AreRowsOf g.row.SLOTS) (sym c.deref-2.ensures.value) k.long,
          (
            ap length c.deref-2.ensures.value ∙ k.each ∙ sym (ap length c.deref.ensures.value),
            subst (λ rows. c.args.place < g.row.SLOTS * length rows) (sym c.deref-2.ensures.value)
                (seen-within _ _ _ _ _ _ _ _ _ k c.args.self.now c.self.view_is c.args.place c.requires),
          ),
        ),
      ),
    )

pub returns : goal.returns
returns g c d =
    c.slot_in.ensures d
    ∙ ap (λ ids. get_or (slots_of ids c.deref-2.result.now) c.args.place d) c.deref.ensures.value
    ∙ ap (λ rows. get_or (slots_of c.self.inside.ids.items rows) c.args.place d) c.deref-2.ensures.value
    ∙ ap (λ (l : SlotList). get_or l.slots c.args.place d) c.self.view_is
