-- Bytes that are copied piece by piece.
use Rattle.std.proofs.Common.{◌≡◌, ℕ, ◌+◌, ◌≤◌, List, [], ◌∷◌, ◌++◌, length, take, drop, Option, Some, None, refl, sym, ap, subst, ◌∙◌, append_assoc, take-append-drop, arith}
use Rattle.std.specs.Prelude.{IfSome}
use Rattle.std.specs.Io.KnownBytes.{Appends}
use Rattle.std.proofs.Math.Seq.{take-add}
use Rattle.std.proofs.lemmas.List.{take-take}
use Rattle.script_lines.specs.Output.{AppendsFront}
use Rattle.script_lines.proofs.OutputLemmas.{Appends-trans, Appends-none}
use Rattle.stream_writing.specs.Copied.{HasCopied}

-- nothing was copied yet
pub copied_none : (area : Option (List ℕ)) (out : Option (List ℕ)) → HasCopied area 0 out out
copied_none area out = record { bytes = []; written = Appends-none out; are = none area }
  where
    none : (o : Option (List ℕ)) → IfSome o (λ c. [] ≡ take 0 c)
    none None = tt
    none (Some c) = refl

-- one piece more
pub copied_more : (area : Option (List ℕ)) (at count : ℕ) (before mid after : Option (List ℕ)) (piece : List ℕ) → HasCopied area at before mid → Appends mid after piece
    → IfSome area (λ c. piece ≡ take count (drop at c)) → HasCopied area (at + count) before after
copied_more area at count before mid after piece copied more is =
    record { bytes = copied.bytes ++ piece; written = Appends-trans before mid after copied.bytes piece copied.written more; are = both area copied.are is }
  where
    both : (o : Option (List ℕ)) → IfSome o (λ c. copied.bytes ≡ take at c) → IfSome o (λ c. piece ≡ take count (drop at c)) → IfSome o (λ c. copied.bytes ++ piece ≡ take (at + count) c)
    both None p q = tt
    both (Some c) p q = ap (λ (l : List ℕ). l ++ piece) p ∙ ap (λ (l : List ℕ). take at c ++ l) q ∙ sym (take-add at count c)

-- only nothing has nothing after a front
empty : (a b : List ℕ) → a ++ b ≡ [] → a ≡ []
empty [] b e = refl
empty (x ∷ a) b e = absurd (cc e)

-- the sink failed in the middle of a piece
pub copied_cut : (area : Option (List ℕ)) (at count len : ℕ) (before mid after : Option (List ℕ)) (piece : List ℕ) → at + count ≤ len → HasCopied area at before mid
    → AppendsFront mid after piece → IfSome area (λ c. piece ≡ take count (drop at c)) → IfSome area (λ c. AppendsFront before after (take len c))
copied_cut area at count len before mid after piece fits copied cut is = whole area copied.are is
  where
    split : (c : List ℕ) → copied.bytes ≡ take at c → piece ≡ take count (drop at c) → take len c ≡ (copied.bytes ++ piece) ++ drop (at + count) (take len c)
    split c p q =
        let first : take (at + count) (take len c) ≡ take (at + count) c = take-take (at + count) len c fits in
        sym (take-append-drop (at + count) (take len c))
        ∙ ap (λ (l : List ℕ). l ++ drop (at + count) (take len c))
        (first ∙ take-add at count c ∙ ap (λ (l : List ℕ). l ++ take count (drop at c)) (sym p) ∙ ap (λ (l : List ℕ). copied.bytes ++ l) (sym q))

    whole : (o : Option (List ℕ)) → IfSome o (λ c. copied.bytes ≡ take at c) → IfSome o (λ c. piece ≡ take count (drop at c)) → IfSome o (λ c. AppendsFront before after (take len c))
    whole None p q = tt
    whole (Some c) p q =
        let rest : List ℕ = cut.0 in
        let up = cut.1 in
        let behind : List ℕ = drop (at + count) (take len c) in (
          rest ++ behind,
          (
            copied.bytes ++ up.0,
            split c p q
                ∙ ap (λ (l : List ℕ). (copied.bytes ++ l) ++ behind) up.1
                ∙ ap (λ (l : List ℕ). l ++ behind) (sym (append_assoc copied.bytes up.0 rest))
                ∙ append_assoc (copied.bytes ++ up.0) rest behind,
            Appends-trans before mid after copied.bytes up.0 copied.written up.2,
          ),
          λ none. cut.2 (empty rest behind none),
        )

-- what is told of an area that reads the same
pub told_same : (old new : Option (List ℕ)) (P : List ℕ → Type 0) → new ≡ old → IfSome old P → IfSome new P
told_same old new P same told = subst (λ (o : Option (List ℕ)). IfSome o P) (sym same) told

-- a piece within it
pub piece_within : (o : Option (List ℕ)) (at count len : ℕ) → at + count ≤ len → IfSome o (λ c. len ≤ length c) → IfSome o (λ c. at + count ≤ length c)
piece_within None at count len fits within = tt
piece_within (Some c) at count len fits within = omega (arith, fits, within)
