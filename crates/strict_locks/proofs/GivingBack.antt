-- A client's locks are given back one after another.
use Rattle.std.proofs.Common.{◌≡◌, ◌≢◌, ℕ, true, List, [], ◌∷◌, ◌++◌, arith, ⊎_elim, sym, ◌∙◌, ap, subst}
use Rattle.std.specs.List.{list_any}
use Rattle.std.specs.Ordering.{nat_cmp}
use Rattle.std.specs.BTreeMap.{is_at}
use Rattle.std.proofs.lemmas.Bool.{cases_eq}
use Rattle.std.proofs.lemmas.Bool.Decides.{nat_tests}
use Rattle.std.proofs.lemmas.List.Folds.{list_any-append}
use Rattle.strict_locks.specs.Locks.{Table, holders_of, is_owner, is_sharer, Holds, GivesBack, AreHeld}
use Rattle.strict_locks.specs.Clients.{NamesHeld}

-- what the client still holds is among the ids that are left, and every other lock is as at the start
pub record AreBeingDropped (start now : Table) (pass : ℕ) (left : List ℕ) : Type 0 where
  pub named : NamesHeld now pass left
  pub owners : (x p : ℕ) → p ≢ pass → is_owner (holders_of now x) p ≡ is_owner (holders_of start x) p
  pub sharers : (x p : ℕ) → p ≢ pass → is_sharer (holders_of now x) p ≡ is_sharer (holders_of start x) p
  pub held : AreHeld start → AreHeld now

-- another id than the last is named without it
named-before : (x id : ℕ) (rest : List ℕ) → x ≢ id → list_any (is_at (nat_cmp x)) (rest ++ id ∷ []) ≡ true → list_any (is_at (nat_cmp x)) rest ≡ true
named-before x id rest apart named =
    let a = list_any-append (is_at (nat_cmp x)) rest (id ∷ []) in
    grind (arith, nat_tests)

-- what is given back is held no longer, and each other id that the client holds is named before the last
NamesHeld-less : (now new : Table) (pass id : ℕ) (rest : List ℕ) → NamesHeld now pass (rest ++ id ∷ []) → GivesBack now new pass id → NamesHeld new pass rest
NamesHeld-less now new pass id rest named gives x holds =
    ⊎_elim
    (λ (here : x ≡ id). absurd (let h : Holds (holders_of new id) pass = subst (λ y. Holds (holders_of new y) pass) here holds in let o = gives.owners pass in let s = gives.sharers pass in grind (arith, nat_tests)))
    (λ (apart : x ≢ id). named-before x id rest apart (named x (subst (λ h. Holds h pass) (gives.others x apart) holds)))
    (cases_eq x id)

-- what others own is as it was, where the lock of one object is given back
owners-kept : (now new : Table) (pass id x p : ℕ) → GivesBack now new pass id → p ≢ pass → is_owner (holders_of new x) p ≡ is_owner (holders_of now x) p
owners-kept now new pass id x p gives other =
    ⊎_elim
    (λ (here : x ≡ id). subst (λ y. is_owner (holders_of new y) p ≡ is_owner (holders_of now y) p) (sym here) (let o = gives.owners p in grind (arith, nat_tests)))
    (λ (apart : x ≢ id). ap (λ h. is_owner h p) (gives.others x apart))
    (cases_eq x id)

-- what others share is as it was, where the lock of one object is given back
sharers-kept : (now new : Table) (pass id x p : ℕ) → GivesBack now new pass id → p ≢ pass → is_sharer (holders_of new x) p ≡ is_sharer (holders_of now x) p
sharers-kept now new pass id x p gives other =
    ⊎_elim
    (λ (here : x ≡ id). subst (λ y. is_sharer (holders_of new y) p ≡ is_sharer (holders_of now y) p) (sym here) (let s = gives.sharers p in grind (arith, nat_tests)))
    (λ (apart : x ≢ id). ap (λ h. is_sharer h p) (gives.others x apart))
    (cases_eq x id)

-- the lock of the last object that is left is given back
pub given-back : (start now new : Table) (pass id : ℕ) (rest : List ℕ) → AreBeingDropped start now pass (rest ++ id ∷ []) → GivesBack now new pass id → (AreHeld now → AreHeld new) → AreBeingDropped start new pass rest
given-back start now new pass id rest dropped gives held = record {
  named = NamesHeld-less now new pass id rest dropped.named gives;
  owners = λ x p other. owners-kept now new pass id x p gives other ∙ dropped.owners x p other;
  sharers = λ x p other. sharers-kept now new pass id x p gives other ∙ dropped.sharers x p other;
  held = λ start_held. held (dropped.held start_held);
}
