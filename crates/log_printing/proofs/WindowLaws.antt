-- Bytes of a log that are held.
use Rattle.std.proofs.Common.{◌≡◌, ℕ, ◌+◌, ◌-◌, ◌≤◌, List, take, drop, Option, sym, ap, subst, ◌∙◌, arith}
use Rattle.std.specs.Prelude.{IfSome}
use Rattle.std.proofs.lemmas.List.{take-take, drop-take, drop-drop}

-- a part of a front
pub part_of_front : (at size len : ℕ) (c : List ℕ) → at + size ≤ len → take size (drop at (take len c)) ≡ take size (drop at c)
part_of_front at size len c fits =
    let room : len ≡ at + (len - at) = omega (arith, fits) in
    ap (λ (n : ℕ). take size (drop at (take n c))) room ∙ ap (λ (l : List ℕ). take size l) (drop-take at (len - at) c) ∙ take-take size (len - at) (drop at c) (omega (arith, fits))

-- a part of what is held
pub part_held : (len count first at size start : ℕ) (bytes c : List ℕ) → take count bytes ≡ take count (drop first (take len c)) → at ≡ first + start → start + size ≤ count
    → take size (drop start bytes) ≡ take size (drop at (take len c))
part_held len count first at size start bytes c held at_is fits =
    sym (part_of_front start size count bytes fits)
    ∙ ap (λ (l : List ℕ). take size (drop start l)) held
    ∙ part_of_front start size count (drop first (take len c)) fits
    ∙ ap (λ (l : List ℕ). take size l) (drop-drop start first (take len c) ∙ ap (λ (n : ℕ). drop n (take len c)) (sym at_is))

-- what was read of an area, of its front
pub part_read : (len count at : ℕ) (bytes c : List ℕ) → take count bytes ≡ take count (drop at c) → at + count ≤ len → take count bytes ≡ take count (drop at (take len c))
part_read len count at bytes c read fits = read ∙ sym (part_of_front at count len c fits)

-- a front of what was read
pub front_read : (len count at size : ℕ) (bytes c : List ℕ) → take count bytes ≡ take count (drop at c) → at + count ≤ len → size ≤ count → take size (drop 0 bytes) ≡ take size (drop at (take len c))
front_read len count at size bytes c read fits small =
    sym (take-take size count bytes small) ∙ ap (λ (l : List ℕ). take size l) (part_read len count at bytes c read fits) ∙ take-take size count (drop at (take len c)) small

-- what is told of an area that reads the same
pub told_same : (old new : Option (List ℕ)) (P : List ℕ → Type 0) → new ≡ old → IfSome old P → IfSome new P
told_same old new P same told = subst (λ (o : Option (List ℕ)). IfSome o P) (sym same) told

pub told_then : (old new : Option (List ℕ)) (P : List ℕ → Type 0) → new ≡ old → IfSome new P → IfSome old P
told_then old new P same told = subst (λ (o : Option (List ℕ)). IfSome o P) same told
