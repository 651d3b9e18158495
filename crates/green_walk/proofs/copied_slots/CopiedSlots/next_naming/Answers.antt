use Rattle.std.proofs.Common.{◌≡◌, ◌+◌, ◌<◌, length, sym, ◌∙◌, subst, arith}
use Rattle.std.proofs.lemmas.List.{get_or_default}
use Rattle.green_walk.specs.Linked.{IsNextNaming, target_at}
use Rattle.green_walk.proofs.CopiedInside.{seen-within, seen-next}
use Rattle.green_walk.proofs.copied_slots.CopiedSlots.next_naming.Goals as goal

pub index-requires : goal.index-requires
index-requires g c =
    let within = seen-within _ _ _ _ _ _ _ _ _ c.self.invariant c.args.self.now c.self.view_is c.args.place c.requires.within in
    let few = c.self.invariant.few in
    omega (arith, within, few)

pub returns : goal.returns
returns g c =
    let within = seen-within _ _ _ _ _ _ _ _ _ c.self.invariant c.args.self.now c.self.view_is c.args.place c.requires.within in
    let few = c.self.invariant.few in
    let here : c.args.place < length c.self.inside.next.items = omega (arith, within, few) in
    subst (λ n. IsNextNaming c.args.self.now.slots (target_at c.args.self.now.slots c.args.place) (c.args.place + 1) n)
    (get_or_default c.self.inside.next.items c.args.place 0 c.index.result.now here ∙ sym c.index.ensures)
    (seen-next _ _ _ _ _ _ _ _ _ c.self.invariant c.args.self.now c.self.view_is c.args.place c.requires.within c.requires.some c.requires.small)
