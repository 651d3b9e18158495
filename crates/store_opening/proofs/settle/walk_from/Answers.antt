use Rattle.std.proofs.Common.{List, ℕ, arith, rules, subst, sym, ◌∙◌, ◌-◌, true, length}
use Rattle.std.proofs.lemmas.List.{length-set}
use Rattle.store_opening.specs.Marks.{AreIds}
use Rattle.store_opening.proofs.MarkLaws.{ids-pushed, id-at}
use Rattle.store_opening.proofs.settle.walk_from.Goals as goal

pub loop-turn-init : goal.loop-turn-init
loop-turn-init g c = record {
  settled = c.requires.settled;
  seen = length-set c.args.walk.now.seen.items c.args.id true ∙ c.requires.seen;
  way = ids-pushed _ _ _ c.args.id c.in_ok-push.ensures.items c.requires.above c.requires.within c.requires.way;
}

pub step-requires : goal.step-requires
step-requires g c =
    let n = length c.args.replay.now.cells in
    let xs = c.deref.result.now in
    let item = c.in-Some.ensures.item in
    let some = item.3.0 in
    let inv = c.loop-turn.invariant in
    let at = id-at n xs (length xs - 1) c.in-Some.at.now (omega (arith, some)) item.1 (subst (λ (ys : List ℕ). AreIds n ys) (sym c.deref.ensures.value) inv.way) in
    (search rules, (c.requires.size, (c.requires.named, (at.0, (at.1, (inv.settled, (inv.seen, inv.way)))))))
