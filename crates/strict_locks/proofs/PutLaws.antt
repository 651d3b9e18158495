-- Laws on a table in which the lock of one object is put.
use Rattle.std.proofs.Common.{◌≡◌, ◌≢◌, ℕ, ◌==◌, ◌&&◌, ◌||◌, not, true, false, Option, Some, None, cond, [], unwrap_or, nat_eq, IfSome, arith, ⊎_elim, refl, sym, ap, ◌∙◌, subst}
use Rattle.std.specs.Prelude.{IsSome}
use Rattle.std.specs.Cmp.{nat_eq_equiv}
use Rattle.std.specs.Map.{lookup, set_value}
use Rattle.std.specs.Option.{option_map_or}
use Rattle.std.proofs.lemmas.Bool.{cases_eq}
use Rattle.std.proofs.lemmas.Bool.Decides.{nat_tests}
use Rattle.std.proofs.lemmas.Map.{lookup-set_value}
use Rattle.strict_locks.specs.Locks.{Holders, Table, holders_of, no_holders, is_owner, is_sharer, Holds, Nobody, AddsShare, AddsOwner, GivesBack, AreHeld}
use Rattle.strict_locks.specs.Rows.{Puts}
use Rattle.strict_locks.proofs.HoldersLaws.{holders_of-found}

-- a lock that is changed where it stands is put
pub Puts-set : (old : Table) (id : ℕ) (was h : Holders) → lookup (nat_eq id) old ≡ Some was → Puts old (set_value (nat_eq id) old h) id h
Puts-set old id was h found x = lookup-set_value nat_eq_equiv (nat_eq id) (λ a b here. grind (arith, nat_tests, here)) x h old (subst IsSome (sym found) refl)

-- the lock that was put is found, and every other one as before
put_here : (old new : Table) (id : ℕ) (h : Holders) → Puts old new id h → holders_of new id ≡ h
put_here old new id h puts =
    let same : nat_eq id id ≡ true = grind (arith, nat_tests) in
    ap (λ o. unwrap_or o no_holders) (puts id ∙ ap (λ b. cond b (Some h) (lookup (nat_eq id) old)) same)

put_apart : (old new : Table) (id : ℕ) (h : Holders) → Puts old new id h → (x : ℕ) → x ≢ id → holders_of new x ≡ holders_of old x
put_apart old new id h puts x other =
    let apart : nat_eq id x ≡ false = grind (arith, nat_tests, other) in
    ap (λ o. unwrap_or o no_holders) (puts x ∙ ap (λ b. cond b (Some h) (lookup (nat_eq x) old)) apart)

-- what holds of every object's lock where it holds of the one that was put
at_each : (old new : Table) (id : ℕ) (h : Holders) (P : ℕ → Holders → Type 0) → Puts old new id h → P id h → ((x : ℕ) → x ≢ id → P x (holders_of old x)) → (x : ℕ) → P x (holders_of new x)
at_each old new id h P puts here others x =
    ⊎_elim
    (λ (same : x ≡ id). subst (λ y. P y (holders_of new y)) (sym same) (subst (P id) (sym (put_here old new id h puts)) here))
    (λ (other : x ≢ id). subst (P x) (sym (put_apart old new id h puts x other)) (others x other))
    (cases_eq x id)

pub AddsShare-put : (old new : Table) (pass id : ℕ) (h : Holders) → Puts old new id h → ((p : ℕ) → is_owner h p ≡ is_owner (holders_of old id) p) → ((p : ℕ) → is_sharer h p ≡ (p == pass || is_sharer (holders_of old id) p)) → AddsShare old new pass id
AddsShare-put old new pass id h puts owners sharers = record {
  sharers = λ p. ap (λ g. is_sharer g p) (put_here old new id h puts) ∙ sharers p;
  other_sharers = λ x p other. ap (λ g. is_sharer g p) (put_apart old new id h puts x other);
  owners = λ x p. at_each old new id h (λ y g. is_owner g p ≡ is_owner (holders_of old y) p) puts (owners p) (λ y other. refl) x;
}

pub AddsOwner-put : (old new : Table) (pass id : ℕ) (h : Holders) → Puts old new id h → ((p : ℕ) → is_owner h p ≡ (p == pass)) → ((p : ℕ) → is_sharer h p ≡ is_sharer (holders_of old id) p) → AddsOwner old new pass id
AddsOwner-put old new pass id h puts owner sharers = record {
  owner = λ p. ap (λ g. is_owner g p) (put_here old new id h puts) ∙ owner p;
  other_owners = λ x p other. ap (λ g. is_owner g p) (put_apart old new id h puts x other);
  sharers = λ x p. at_each old new id h (λ y g. is_sharer g p ≡ is_sharer (holders_of old y) p) puts (sharers p) (λ y other. refl) x;
}

pub GivesBack-put : (old new : Table) (pass id : ℕ) (h : Holders) → Puts old new id h → ((p : ℕ) → is_owner h p ≡ (not (p == pass) && is_owner (holders_of old id) p)) → ((p : ℕ) → is_sharer h p ≡ (not (p == pass) && is_sharer (holders_of old id) p)) → GivesBack old new pass id
GivesBack-put old new pass id h puts owners sharers = record {
  owners = λ p. ap (λ g. is_owner g p) (put_here old new id h puts) ∙ owners p;
  sharers = λ p. ap (λ g. is_sharer g p) (put_here old new id h puts) ∙ sharers p;
  others = λ x other. put_apart old new id h puts x other;
}

-- ---- what the calls make of it

pub AddsShare-set : (old : Table) (pass id : ℕ) (was h : Holders) → lookup (nat_eq id) old ≡ Some was → h.owner ≡ was.owner → ((p : ℕ) → is_sharer h p ≡ (p == pass || is_sharer was p)) → AddsShare old (set_value (nat_eq id) old h) pass id
AddsShare-set old pass id was h found owner sharers =
    let here = holders_of-found old id was found in
    AddsShare-put old (set_value (nat_eq id) old h) pass id h (Puts-set old id was h found)
    (λ p. ap (λ o. option_map_or (λ q. q == p) o false) owner ∙ ap (λ g. is_owner g p) (sym here))
    (λ p. sharers p ∙ ap (λ g. p == pass || is_sharer g p) (sym here))

pub AddsShare-first : (old new : Table) (pass id : ℕ) (h : Holders) → lookup (nat_eq id) old ≡ None → Puts old new id h → h.owner ≡ None → ((p : ℕ) → is_sharer h p ≡ (p == pass)) → AddsShare old new pass id
AddsShare-first old new pass id h none puts owner sharers =
    let free : holders_of old id ≡ no_holders = ap (λ o. unwrap_or o no_holders) none in
    AddsShare-put old new pass id h puts
    (λ p. ap (λ o. option_map_or (λ q. q == p) o false) owner ∙ ap (λ g. is_owner g p) (sym free))
    (λ p. sharers p ∙ subst (λ g. (p == pass) ≡ (p == pass || is_sharer g p)) (sym free) (grind (arith, nat_tests)))

pub AddsOwner-set : (old : Table) (pass id : ℕ) (was h : Holders) → lookup (nat_eq id) old ≡ Some was → h ≡ record was { owner = Some pass } → AddsOwner old (set_value (nat_eq id) old h) pass id
AddsOwner-set old pass id was h found owned =
    let here = holders_of-found old id was found in
    AddsOwner-put old (set_value (nat_eq id) old h) pass id h (Puts-set old id was h found)
    (λ p. ap (λ g. is_owner g p) owned ∙ grind (arith, nat_tests))
    (λ p. ap (λ g. is_sharer g p) owned ∙ ap (λ g. is_sharer g p) (sym here))

pub AddsOwner-first : (old new : Table) (pass id : ℕ) (h : Holders) → lookup (nat_eq id) old ≡ None → Puts old new id h → h ≡ record { owner = Some pass; sharers = [] } → AddsOwner old new pass id
AddsOwner-first old new pass id h none puts owned =
    let free : holders_of old id ≡ no_holders = ap (λ o. unwrap_or o no_holders) none in
    AddsOwner-put old new pass id h puts
    (λ p. ap (λ g. is_owner g p) owned ∙ grind (arith, nat_tests))
    (λ p. ap (λ g. is_sharer g p) owned ∙ ap (λ g. is_sharer g p) (sym free))

pub GivesBack-set : (old : Table) (pass id : ℕ) (was h : Holders) → lookup (nat_eq id) old ≡ Some was → ((p : ℕ) → is_owner h p ≡ (not (p == pass) && is_owner was p)) → ((p : ℕ) → is_sharer h p ≡ (not (p == pass) && is_sharer was p)) → GivesBack old (set_value (nat_eq id) old h) pass id
GivesBack-set old pass id was h found owners sharers =
    let here = holders_of-found old id was found in
    GivesBack-put old (set_value (nat_eq id) old h) pass id h (Puts-set old id was h found)
    (λ p. owners p ∙ ap (λ g. not (p == pass) && is_owner g p) (sym here))
    (λ p. sharers p ∙ ap (λ g. not (p == pass) && is_sharer g p) (sym here))

-- every object with an entry stays held when one has none any more
pub AreHeld-gone : (old new : Table) (id : ℕ) → lookup (nat_eq id) new ≡ None → ((x : ℕ) → x ≢ id → lookup (nat_eq x) new ≡ lookup (nat_eq x) old) → AreHeld old → AreHeld new
AreHeld-gone old new id gone others held x =
    let P : Option Holders → Type 0 = λ o. IfSome o (λ g. (q : ℕ) × Holds g q) in
    ⊎_elim
    (λ (here : x ≡ id). subst (λ y. P (lookup (nat_eq y) new)) (sym here) (subst P (sym gone) tt))
    (λ (other : x ≢ id). subst P (sym (others x other)) (held x))
    (cases_eq x id)

none_of : (o : Option Holders) → IfSome o (λ h. (p : ℕ) × Holds h p) → Nobody (Holds (unwrap_or o no_holders)) → o ≡ None
none_of None held free = refl
none_of (Some h) held free = absurd (free held.0 held.1)

-- an object that nobody holds has no entry
pub unheld-none : (table : Table) (id : ℕ) → AreHeld table → Nobody (Holds (holders_of table id)) → lookup (nat_eq id) table ≡ None
unheld-none table id held free = none_of (lookup (nat_eq id) table) (held id) free
