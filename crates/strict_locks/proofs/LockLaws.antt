-- Laws for the callers of the table.
use Rattle.std.proofs.Common.{◌≡◌, ◌≢◌, ℕ, ◌==◌, ◌&&◌, ◌||◌, arith, ⊎_elim, sym, subst}
use Rattle.std.proofs.lemmas.Bool.{cases_eq}
use Rattle.std.proofs.lemmas.Bool.Decides.{nat_tests}
use Rattle.strict_locks.specs.Locks.{Table, holders_of, is_holder, StandsInWayOfOwn, Nobody, IsLeast, AddsShare, AddsOwner}

-- two clients that are both the least are the same
pub IsLeast-same : (P : ℕ → Type 0) (p q : ℕ) → IsLeast P p → IsLeast P q → p ≡ q
IsLeast-same P p q first second = let below = first.1 q second.0 in let above = second.1 p first.0 in omega arith

-- the client holds the object too, and nothing else changes in who holds what
abbrev pub AddsHolder : Table → Table → ℕ → ℕ → Type 0
AddsHolder old new pass id = (x p : ℕ) → is_holder (holders_of new x) p ≡ ((x == id && p == pass) || is_holder (holders_of old x) p)

-- a client that shares an object holds it
pub AddsHolder-share : (old new : Table) (pass id : ℕ) → AddsShare old new pass id → AddsHolder old new pass id
AddsHolder-share old new pass id adds x p =
    let At : ℕ → Type 0 = λ y. is_holder (holders_of new y) p ≡ ((y == id && p == pass) || is_holder (holders_of old y) p) in
    let o = adds.owners x p in
    ⊎_elim
    (λ (here : x ≡ id). subst At (sym here) (let o = adds.owners id p in let s = adds.sharers p in grind (arith, nat_tests)))
    (λ (apart : x ≢ id). let s = adds.other_sharers x p apart in grind (arith, nat_tests))
    (cases_eq x id)

-- a client that owns an object holds it
pub AddsHolder-own : (old new : Table) (pass id : ℕ) → AddsOwner old new pass id → Nobody (StandsInWayOfOwn (holders_of old id) pass) → AddsHolder old new pass id
AddsHolder-own old new pass id adds free x p =
    let At : ℕ → Type 0 = λ y. is_holder (holders_of new y) p ≡ ((y == id && p == pass) || is_holder (holders_of old y) p) in
    ⊎_elim
    (λ (here : x ≡ id). subst At (sym here) (let o = adds.owner p in let s = adds.sharers id p in let f = free p in grind (arith, nat_tests)))
    (λ (apart : x ≢ id). let o = adds.other_owners x p apart in let s = adds.sharers x p in grind (arith, nat_tests))
    (cases_eq x id)
