use Rattle.std.proofs.Common.{◌≡◌, ℕ, true, false, ◌==◌, sym, ◌∙◌, arith}
use Rattle.std.specs.Option.{option_map_or}
use Rattle.std.proofs.lemmas.Bool.Decides.{nat_tests}
use Rattle.strict_locks.specs.ClientSet.{members, is_in}
use Rattle.strict_locks.proofs.ClientSetLaws.{has_members}
use Rattle.strict_locks.proofs.HoldersLaws.{exclusive-fewer}
use Rattle.strict_locks.proofs.object_lock.ObjectLock.give_back.Goals.{then-eq, else-eq}
use Rattle.strict_locks.proofs.object_lock.ObjectLock.give_back.Goals as goal

pub invariant_of-self : goal.invariant_of-self
invariant_of-self c =
    let owners : (p : ℕ) → option_map_or (λ owner. owner == p) c.if-eq.self-inside.owner false ≡ true → option_map_or (λ owner. owner == p) c.self.inside.owner false ≡ true = λ p owns. elim c.if-eq.branch [ then-eq w ↦ grind (arith, nat_tests, owns, w.self-inside-is) | else-eq w ↦ grind (arith, nat_tests, owns, w.self-inside-is) ] in
    let left : (p : ℕ) → is_in c.remove.new.self p ≡ true → is_in c.self.inside.sharers p ≡ true = λ p shares. let r = c.remove.ensures p in elim c.if-eq.branch [ then-eq w ↦ grind (arith, nat_tests, r, shares, w.self-inside-is) | else-eq w ↦ grind (arith, nat_tests, r, shares, w.self-inside-is) ] in
    exclusive-fewer (record { owner = c.self.inside.owner; sharers = members c.self.inside.sharers }) (record { owner = c.if-eq.self-inside.owner; sharers = members c.remove.new.self })
    owners (λ p shares. has_members c.self.inside.sharers p ∙ left p (sym (has_members c.remove.new.self p) ∙ shares)) c.self.invariant
