-- What clients name after a store.
use Rattle.std.proofs.Common.{◌≡◌, ℕ, List, [], ◌∷◌, ◌++◌, Bool, true, false, refl, sym, ap, ◌∙◌}
use Rattle.std.specs.Prelude.{◌==◌, if◌then◌else◌}
use Rattle.std.proofs.lemmas.List.{append-nil, append_assoc}
use Rattle.store_model.specs.Core.{Ref, Kind, Cut, Put}
use Rattle.store_model.specs.Steps.{store_references}
use Rattle.core_store.specs.References.{named_by}
use Rattle.core_store.proofs.NameLaws.{named_more, named_more-same, named_by-append, named_by-one}

-- the reference of the client to the object, unless that is null
abbrev pub reference_to : ℕ → Kind → ℕ → List Ref
reference_to pass kind id = if id == 0 then [] else record { pass = pass; target = id; kind = kind } ∷ []

pub named_by-any : (refs : List Ref) (pass id : ℕ) (kind : Kind) (p : ℕ) → named_by (refs ++ reference_to pass kind id) p ≡ named_more (named_by refs) pass id p
named_by-any refs pass id kind p = by (id == 0)
  where
    none : (b : Bool) (xs : List ℕ) → xs ≡ (if b then xs ++ [] else xs)
    none true xs = sym (append-nil xs)
    none false xs = refl

    one : (b : Bool) (xs : List ℕ) → xs ++ (if b then id ∷ [] else []) ≡ (if b then xs ++ id ∷ [] else xs)
    one true xs = refl
    one false xs = append-nil xs

    by : (b : Bool) → named_by (refs ++ (if b then [] else record { pass = pass; target = id; kind = kind } ∷ [])) p ≡ (if p == pass then named_by refs p ++ (if b then [] else id ∷ []) else named_by refs p)
    by true = ap (λ (rs : List Ref). named_by rs p) (append-nil refs) ∙ none (p == pass) (named_by refs p)
    by false =
        let r : Ref = record { pass = pass; target = id; kind = kind } in
        named_by-append refs (r ∷ []) p ∙ (ap (λ (xs : List ℕ). named_by refs p ++ xs) (named_by-one r p) ∙ one (p == pass) (named_by refs p))

pub named_by-stored : (refs : List Ref) (pass old target p : ℕ) → named_more (named_more (named_by refs) pass old) pass target p ≡ named_by (refs ++ store_references pass old target) p
named_by-stored refs pass old target p =
    named_more-same (named_more (named_by refs) pass old) (named_by (refs ++ reference_to pass Cut old)) pass target p (sym (named_by-any refs pass old Cut p))
    ∙ (sym (named_by-any (refs ++ reference_to pass Cut old) pass target Put p) ∙ ap (λ (rs : List Ref). named_by rs p) (append_assoc refs (reference_to pass Cut old) (reference_to pass Put target)))

-- what clients name is told by two notes
pub named-stored : (before between after : ℕ → List ℕ) (refs : List Ref) (pass old target p : ℕ) → before p ≡ named_by refs p → between p ≡ named_more before pass old p → after p ≡ named_more between pass target p → after p ≡ named_by (refs ++ store_references pass old target) p
named-stored before between after refs pass old target p a b c =
    c ∙ (named_more-same between (named_more (named_by refs) pass old) pass target p (b ∙ named_more-same before (named_by refs) pass old p a) ∙ named_by-stored refs pass old target p)
