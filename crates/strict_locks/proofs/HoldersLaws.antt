-- Laws on the holders of one object.
use Rattle.std.proofs.Common.{◌≡◌, ◌≢◌, ℕ, true, false, not, ◌&&◌, ◌||◌, ◌==◌, cond, Option, None, Some, is_none, unwrap_or, nat_eq, IfSome, sym, ◌∙◌, ap, subst, arith}
use Rattle.std.specs.Map.{lookup, set_value}
use Rattle.std.proofs.lemmas.Bool.{cond_both}
use Rattle.std.proofs.lemmas.Bool.Decides.{nat_tests}
use Rattle.std.proofs.lemmas.Map.Steps.{set_value_same}
use Rattle.strict_locks.specs.Locks.{Holders, Table, holders_of, no_holders, is_owner, is_sharer, Holds, IsExclusive, StandsInWayOfShare, StandsInWayOfOwn, Nobody, IsLeast, IsLeastOrNone, GivesBack, AreHeld}

-- the object stays exclusive when a client owns it that nobody stands in the way of
pub exclusive-own : (h : Holders) (pass : ℕ) → Nobody (StandsInWayOfOwn h pass) → IsExclusive (record h { owner = Some pass })
exclusive-own h pass free p q owns holds = let f = free q in grind (arith, nat_tests, f)

-- the object stays exclusive when a client shares it that nobody stands in the way of
pub exclusive-share : (old new : Holders) (pass : ℕ) → Nobody (StandsInWayOfShare old pass) → new.owner ≡ old.owner → ((p : ℕ) → is_sharer new p ≡ (p == pass || is_sharer old p)) → IsExclusive old → IsExclusive new
exclusive-share old new pass free owner sharers exclusive p q owns holds = let f = free p in let s = sharers q in let e = exclusive p q in grind (arith, nat_tests, f, s, e)

-- the object stays exclusive with fewer holders
pub exclusive-fewer : (old new : Holders) → ((p : ℕ) → is_owner new p ≡ true → is_owner old p ≡ true) → ((p : ℕ) → is_sharer new p ≡ true → is_sharer old p ≡ true) → IsExclusive old → IsExclusive new
exclusive-fewer old new owners sharers exclusive p q owns holds = let o = owners p owns in let oq = owners q in let sq = sharers q in let e = exclusive p q o in grind (arith, nat_tests, oq, sq, e, holds)

-- an owner is the least holder
pub least-owner : (h : Holders) (o : ℕ) → IsExclusive h → h.owner ≡ Some o → IsLeast (Holds h) o
least-owner h o exclusive owner = (grind (arith, nat_tests), λ q holds. let e = exclusive o q in grind (arith, nat_tests))

-- an owner that is another client is the least that stands in the way of owning
pub least-other_owner : (h : Holders) (pass o : ℕ) → IsExclusive h → h.owner ≡ Some o → o ≢ pass → IsLeast (StandsInWayOfOwn h pass) o
least-other_owner h pass o exclusive owner other = let l = least-owner h o exclusive owner in ((other, l.0), λ q stands. l.1 q stands.1)

-- nobody stands in the way of the owner
pub nobody-beside_owner : (h : Holders) (pass o : ℕ) → IsExclusive h → h.owner ≡ Some o → o ≡ pass → Nobody (StandsInWayOfOwn h pass)
nobody-beside_owner h pass o exclusive owner same p stands = let owns : is_owner h o ≡ true = grind (arith, nat_tests) in stands.0 (exclusive o p owns stands.1 ∙ same)

-- who holds an object that has an entry
pub holders_of-found : (table : Table) (id : ℕ) (h : Holders) → lookup (nat_eq id) table ≡ Some h → holders_of table id ≡ h
holders_of-found table id h found = ap (λ o. unwrap_or o no_holders) found

-- what was found, written back, changes nothing
pub entries-same : (old new : Table) (id : ℕ) (h written : Holders) → lookup (nat_eq id) old ≡ Some h → written ≡ h → new ≡ set_value (nat_eq id) old written → new ≡ old
entries-same old new id h written found same writes = writes ∙ set_value_same (nat_eq id) old written (found ∙ ap Some (sym same))

-- every object with an entry stays held when one gets a lock that somebody holds
pub AreHeld-put : (old new : Table) (id : ℕ) (h : Holders) (p : ℕ) → Holds h p → ((q : ℕ) → lookup (nat_eq q) new ≡ cond (nat_eq id q) (Some h) (lookup (nat_eq q) old)) → AreHeld old → AreHeld new
AreHeld-put old new id h p holds puts held x =
    let P : Option Holders → Type 0 = λ o. IfSome o (λ g. (q : ℕ) × Holds g q) in
    subst P (sym (puts x)) (cond_both (nat_eq id x) (Some h) (lookup (nat_eq x) old) P (λ _. (p, holds)) (λ _. held x))

-- where another client holds the object, it still does so when this one has given its lock back
pub another-left : (old new : Holders) (pass : ℕ) (found : Option ℕ) → IsLeastOrNone (StandsInWayOfOwn old pass) found → is_none found ≡ false → ((p : ℕ) → is_owner new p ≡ (not (p == pass) && is_owner old p)) → ((p : ℕ) → is_sharer new p ≡ (not (p == pass) && is_sharer old p)) → (p : ℕ) × Holds new p
another-left old new pass None least some owners sharers = cc
another-left old new pass (Some p) least some owners sharers = let o = owners p in let s = sharers p in (p, grind (arith, nat_tests))

-- where no other client holds the object, nobody stands in this one's way
pub none-left : (h : Holders) (pass : ℕ) (found : Option ℕ) → IsLeastOrNone (StandsInWayOfOwn h pass) found → is_none found ≡ true → Nobody (StandsInWayOfOwn h pass)
none-left h pass None least none = least
none-left h pass (Some p) least none = cc

-- an object that no other client holds has given this one's lock back where its entry is gone
pub GivesBack-gone : (old new : Table) (pass id : ℕ) (h : Holders) → lookup (nat_eq id) old ≡ Some h → Nobody (StandsInWayOfOwn h pass) → lookup (nat_eq id) new ≡ None → ((x : ℕ) → x ≢ id → lookup (nat_eq x) new ≡ lookup (nat_eq x) old) → GivesBack old new pass id
GivesBack-gone old new pass id h found free gone others =
    let nobody : holders_of new id ≡ no_holders = ap (λ o. unwrap_or o no_holders) gone in
    let was = holders_of-found old id h found in
    record {
      owners = λ p. let f = free p in ap (λ g. is_owner g p) nobody ∙ subst (λ g. false ≡ (not (p == pass) && is_owner g p)) (sym was) (grind (arith, nat_tests, f));
      sharers = λ p. let f = free p in ap (λ g. is_sharer g p) nobody ∙ subst (λ g. false ≡ (not (p == pass) && is_sharer g p)) (sym was) (grind (arith, nat_tests, f));
      others = λ x apart. ap (λ o. unwrap_or o no_holders) (others x apart);
    }
