use Rattle.std.proofs.Common.{◌≡◌, ◌≤◌, true, false, arith, sym, ◌∙◌, subst}
use Rattle.ref_tables.specs.Queue.{has}
use Rattle.red_walk.specs.Walk.{Walk, IsWalk}
use Rattle.red_walk.proofs.WalkLaws.{walk-holds, touch-walk, untouched-closed, untouched-absent}
use Rattle.red_walk.proofs.KeptLaws.{touched-walk-law}
use Rattle.red_walk.proofs.red.Red.touch.Goals as goal
use Rattle.red_walk.proofs.red.Red.touch.Goals.{else-not-is_empty-via-then-not-is_empty+else-holds, else-not-is_empty-via-else-not-is_empty}

pub returns-then-holds-clause-touched : goal.returns-then-holds-clause-touched
returns-then-holds-clause-touched g c =
    let here = subst (λ (w : Walk). has w.left c.args.id ≡ true) (sym c.self.view_is) (sym c.holds.ensures.holds ∙ c.if-holds.true) in
    let below = subst (λ (w : Walk). c.args.id ≤ w.limit) (sym c.self.view_is) (c.holds.ensures.within c.if-holds.true).1 in
    rw (← c.self.view_is) (touch-walk _ _ _ _ _ _ _ _ _ c.self.invariant c.args.id (grind (arith, c.is_empty.ensures, c.if-not-is_empty.true)) here below)

pub returns-else-not-is_empty-clause-touched : goal.returns-else-not-is_empty-clause-touched
returns-else-not-is_empty-clause-touched g c =
    elim c.else-not-is_empty.branch [
      | else-not-is_empty-via-then-not-is_empty+else-holds w ↦
          let gone = subst (λ (v : Walk). has v.left c.args.id ≡ false) (sym c.self.view_is) (sym w.holds.ensures.holds ∙ w.if-holds.false) in
          rw (← c.self.view_is) (untouched-absent _ _ _ _ _ _ _ _ _ c.self.invariant c.args.id gone)
      | else-not-is_empty-via-else-not-is_empty w ↦ rw (← c.self.view_is) (untouched-closed _ _ _ _ _ _ _ _ _ c.self.invariant c.args.id (grind (arith, c.is_empty.ensures, w.if-not-is_empty.false)))
    ]

pub returns-then-holds-clause-sound : goal.returns-then-holds-clause-sound
returns-then-holds-clause-sound g c =
    let old : IsWalk g.row.SLOTS c.args.self.now = rw (← c.self.view_is) (walk-holds _ _ _ _ _ _ _ _ _ c.self.invariant) in
    subst (λ (w : Walk). IsWalk g.row.SLOTS w) (sym (returns-then-holds-clause-touched g c)) (touched-walk-law g.row.SLOTS c.args.self.now c.args.id old)

pub returns-else-not-is_empty-clause-sound : goal.returns-else-not-is_empty-clause-sound
returns-else-not-is_empty-clause-sound g c = rw (← c.self.view_is) (walk-holds _ _ _ _ _ _ _ _ _ c.self.invariant)
