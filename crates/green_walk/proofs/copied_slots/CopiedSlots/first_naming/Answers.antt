use Rattle.std.proofs.Common.{rules, ◌≡◌, ◌≤◌, ◌*◌, length, sym, ap, ◌∙◌, subst, arith}
use Rattle.green_walk.specs.Linked.{SlotList, IsNextNaming, AreRowsOf, AreLinked, bare}
use Rattle.green_walk.proofs.CopiedInside.{seen-naming}
use Rattle.green_walk.proofs.copied_slots.CopiedSlots.first_naming.Goals as goal

pub first_from-requires : goal.first_from-requires
first_from-requires g c =
    let k = c.self.invariant in
    let limit = c.self.inside.limit in
    let same = ap length c.deref.ensures.value in (
      search rules,
      (
        k.size,
        (
          subst (AreRowsOf g.row.SLOTS) (sym c.deref.ensures.value) k.long,
          (
            c.requires.some,
            (
              (
                c.self.inside.next.items,
                limit,
                ap length c.deref-2.ensures.value ∙ k.firsts,
                subst (λ n. c.args.id ≤ n) (sym (ap (λ (l : SlotList). l.limit) c.self.view_is)) c.requires.small,
                subst (λ first. AreLinked (bare c.deref.result.now) 0 limit first c.self.inside.next.items) (sym c.deref-2.ensures.value)
                    (subst (λ rows. AreLinked (bare rows) 0 limit c.self.inside.first.items c.self.inside.next.items) (sym c.deref.ensures.value) k.linked),
              ),
              (omega arith, omega (arith, same, k.each, k.objects, k.limited)),
            ),
          ),
        ),
      ),
    )

pub returns : goal.returns
returns g c =
    seen-naming _ _ _ _ _ _ _ _ _ c.self.invariant c.args.self.now c.self.view_is c.args.id 0 c.first_from.result
    (subst (λ rows. IsNextNaming (bare rows) c.args.id 0 c.first_from.result) c.deref.ensures.value c.first_from.ensures)
