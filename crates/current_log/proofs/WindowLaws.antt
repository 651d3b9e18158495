-- Bytes of an area that are held.
use Rattle.std.proofs.Common.{◌≡◌, ℕ, ◌+◌, ◌-◌, ◌≤◌, List, take, drop, Option, sym, ap, subst, ◌∙◌, arith}
use Rattle.std.specs.Prelude.{IfSome}
use Rattle.std.proofs.lemmas.List.{take-take, drop-take, drop-drop}

-- a part of a front
part_of_front : (at size len : ℕ) (c : List ℕ) → at + size ≤ len → take size (drop at (take len c)) ≡ take size (drop at c)
part_of_front at size len c fits =
    let room : len ≡ at + (len - at) = omega (arith, fits) in
    ap (λ (n : ℕ). take size (drop at (take n c))) room ∙ ap (λ (l : List ℕ). take size l) (drop-take at (len - at) c) ∙ take-take size (len - at) (drop at c) (omega (arith, fits))

-- a part of what is held
pub part_held : (count first at size start : ℕ) (bytes c : List ℕ) → take count bytes ≡ take count (drop first c) → at ≡ first + start → start + size ≤ count
    → take size (drop start bytes) ≡ take size (drop at c)
part_held count first at size start bytes c held at_is fits =
    sym (part_of_front start size count bytes fits)
    ∙ ap (λ (l : List ℕ). take size (drop start l)) held
    ∙ part_of_front start size count (drop first c) fits
    ∙ ap (λ (l : List ℕ). take size l) (drop-drop start first c ∙ ap (λ (n : ℕ). drop n c) (sym at_is))

-- a front of what was read
pub front_read : (count at size : ℕ) (bytes c : List ℕ) → take count bytes ≡ take count (drop at c) → size ≤ count → take size (drop 0 bytes) ≡ take size (drop at c)
front_read count at size bytes c read small =
    sym (take-take size count bytes small) ∙ ap (λ (l : List ℕ). take size l) read ∙ take-take size count (drop at c) small

-- what is told of an area that reads the same
pub told_same : (old new : Option (List ℕ)) (P : List ℕ → Type 0) → new ≡ old → IfSome old P → IfSome new P
told_same old new P same told = subst (λ (o : Option (List ℕ)). IfSome o P) (sym same) told
