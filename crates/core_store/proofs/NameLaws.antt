-- What clients name after a reference was noted.
use Rattle.std.proofs.Common.{◌≡◌, ◌≢◌, ℕ, List, [], ◌∷◌, ◌++◌, Bool, true, false, refl, sym, ap, ◌∙◌, map, filter, eq-eqb, ne_eqb, ⊎_elim}
use Rattle.std.specs.Prelude.{◌==◌, if◌then◌else◌}
use Rattle.std.proofs.lemmas.List.{map-append, append-nil}
use Rattle.std.proofs.lemmas.List.Elements.{filter-append}
use Rattle.std.proofs.Math.Path.{fun_ext}
use Rattle.plain_laws.proofs.Entries.{same_or_apart}
use Rattle.ref_tables.specs.Refs.{Table, IsSame, entries_of}
use Rattle.store_model.specs.Core.{Ref}
use Rattle.core_store.specs.Logged.{if_any}
use Rattle.core_store.specs.References.{named_by, targets_of}

-- a list that one client's id joined
abbrev pub named_more : (ℕ → List ℕ) → ℕ → ℕ → ℕ → List ℕ
named_more references pass target p = if p == pass then references p ++ if_any target else references p

pub if_any-some : (id : ℕ) → id ≢ 0 → if_any id ≡ id ∷ []
if_any-some id n = ap (λ b. if b then [] else id ∷ []) (ne_eqb id 0 n)

pub named_by-append : (refs more : List Ref) (p : ℕ) → named_by (refs ++ more) p ≡ named_by refs p ++ named_by more p
named_by-append refs more p = ap (map (λ (r : Ref). r.target)) (filter-append (λ (r : Ref). r.pass == p) refs more) ∙ map-append (λ (r : Ref). r.target) (filter (λ r. r.pass == p) refs) (filter (λ r. r.pass == p) more)

-- one reference
pub named_by-one : (r : Ref) (p : ℕ) → named_by (r ∷ []) p ≡ (if p == r.pass then r.target ∷ [] else [])
named_by-one r p = ap (λ b. map (λ (r : Ref). r.target) (if b then r ∷ [] else [])) (other_way (r.pass) p) ∙ out (p == r.pass)
  where
    other_way : (a b : ℕ) → (a == b) ≡ (b == a)
    other_way a b = ⊎_elim (λ (e : a ≡ b). eq-eqb a b e ∙ sym (eq-eqb b a (sym e))) (λ (n : a ≢ b). ne_eqb a b n ∙ sym (ne_eqb b a (λ e. n (sym e)))) (same_or_apart a b)

    out : (b : Bool) → map (λ (r : Ref). r.target) (if b then r ∷ [] else []) ≡ (if b then r.target ∷ [] else [])
    out true = refl
    out false = refl

-- a reference to an object
pub named_by-noted : (refs : List Ref) (r : Ref) (p : ℕ) → r.target ≢ 0 → named_by (refs ++ r ∷ []) p ≡ named_more (named_by refs) r.pass r.target p
named_by-noted refs r p n = named_by-append refs (r ∷ []) p ∙ (ap (λ xs. named_by refs p ++ xs) (named_by-one r p) ∙ (join (p == r.pass) ∙ ap (λ ids. if p == r.pass then named_by refs p ++ ids else named_by refs p) (sym (if_any-some r.target n))))
  where
    join : (b : Bool) → named_by refs p ++ (if b then r.target ∷ [] else []) ≡ (if b then named_by refs p ++ r.target ∷ [] else named_by refs p)
    join true = refl
    join false = append-nil (named_by refs p)

pub named_more-same : (a b : ℕ → List ℕ) (pass target p : ℕ) → a p ≡ b p → named_more a pass target p ≡ named_more b pass target p
named_more-same a b pass target p e = ap (λ (ids : List ℕ). if p == pass then ids ++ if_any target else ids) e

-- ---- the table of references

-- what each client names by the table
abbrev pub names_in : Table → ℕ → List ℕ
names_in table pass = targets_of (entries_of table pass)

-- each client names what it named
pub names-same : (old new : Table) → IsSame old new → names_in new ≡ names_in old
names-same old new same = fun_ext (λ p. ap targets_of (same p))
