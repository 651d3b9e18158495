use Rattle.std.proofs.Common.{◌≡◌, ℕ, refl, sym, subst, ap, ◌∙◌, ◌||◌, ◌==◌}
use Rattle.std.specs.List.{list_any}
use Rattle.std.specs.Ordering.{nat_cmp}
use Rattle.std.specs.BTreeMap.{is_at}
use Rattle.strict_locks.specs.Locks.{Holders, StandsInWayOfShare, Nobody}
use Rattle.strict_locks.specs.ClientSet.{members}
use Rattle.strict_locks.proofs.ClientSetLaws.{has_members}
use Rattle.strict_locks.proofs.HoldersLaws.{exclusive-share}
use Rattle.strict_locks.proofs.object_lock.ObjectLock.share.Goals as goal

pub invariant_of-self : goal.invariant_of-self
invariant_of-self c =
    let P : Holders → Type 0 = λ h. Nobody (StandsInWayOfShare h c.args.pass) in
    let kept : (p : ℕ) → list_any (is_at (nat_cmp p)) (members c.insert.new.self) ≡ (p == c.args.pass || list_any (is_at (nat_cmp p)) (members c.self.inside.sharers)) = λ p. has_members c.insert.new.self p ∙ c.insert.ensures p ∙ ap (λ b. p == c.args.pass || b) (sym (has_members c.self.inside.sharers p)) in
    exclusive-share (record { owner = c.self.inside.owner; sharers = members c.self.inside.sharers }) (record { owner = c.self.inside.owner; sharers = members c.insert.new.self })
    c.args.pass (subst P (sym c.self.view_is) c.requires) refl kept c.self.invariant
