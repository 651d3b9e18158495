-- Bytes with a short verb in front.
use Rattle.std.proofs.Common.{◌≡◌, ℕ, ◌-◌, ◌≤◌, List, [], ◌∷◌, Some, length, take, drop, get_or, codes, refl, sym, subst, ap, arith}
use Rattle.std.proofs.lemmas.List.{take_all}
use Rattle.script_lines.specs.declared.verb.Verb.TheVariants.{Get, Set}
use Rattle.script_lines.specs.Fields.{fields_of}
use Rattle.script_lines.specs.Grammar.{verb_of}

-- the first four bytes
pub four_in_front : (s : List ℕ) (a b c d : ℕ) → 4 ≤ length s → get_or s 0 0 ≡ a → get_or s 1 0 ≡ b → get_or s 2 0 ≡ c → get_or s 3 0 ≡ d → s ≡ a ∷ b ∷ c ∷ d ∷ drop 4 s
four_in_front [] a b c d long is-a is-b is-c is-d = absurd (omega (arith, long))
four_in_front (w ∷ []) a b c d long is-a is-b is-c is-d = absurd (omega (arith, long))
four_in_front (w ∷ x ∷ []) a b c d long is-a is-b is-c is-d = absurd (omega (arith, long))
four_in_front (w ∷ x ∷ y ∷ []) a b c d long is-a is-b is-c is-d = absurd (omega (arith, long))
four_in_front (w ∷ x ∷ y ∷ z ∷ rest) a b c d long is-a is-b is-c is-d = λ k. is-a k ∷ is-b k ∷ is-c k ∷ is-d k ∷ rest

-- what stands after four bytes is all the rest
all_behind : (a b c d : ℕ) (rest : List ℕ) → take (length (a ∷ b ∷ c ∷ d ∷ rest) - 4) rest ≡ rest
all_behind a b c d rest = take_all (length (a ∷ b ∷ c ∷ d ∷ rest) - 4) rest (omega arith)

pub set_in_front : (bytes rest : List ℕ) → bytes ≡ 115 ∷ 101 ∷ 116 ∷ 32 ∷ rest
    → (fields_of bytes ≡ take 3 bytes ∷ fields_of (take (length bytes - 4) (drop 4 bytes))) × (Some Set ≡ verb_of (take 3 bytes))
set_in_front bytes rest is =
    subst (λ (bs : List ℕ). (fields_of bs ≡ take 3 bs ∷ fields_of (take (length bs - 4) (drop 4 bs))) × (Some Set ≡ verb_of (take 3 bs))) (sym is)
    (ap (λ (behind : List ℕ). codes "set" ∷ fields_of behind) (sym (all_behind 115 101 116 32 rest)), refl)

pub get_in_front : (bytes rest : List ℕ) → bytes ≡ 103 ∷ 101 ∷ 116 ∷ 32 ∷ rest
    → (fields_of bytes ≡ take 3 bytes ∷ fields_of (take (length bytes - 4) (drop 4 bytes))) × (Some Get ≡ verb_of (take 3 bytes))
get_in_front bytes rest is =
    subst (λ (bs : List ℕ). (fields_of bs ≡ take 3 bs ∷ fields_of (take (length bs - 4) (drop 4 bs))) × (Some Get ≡ verb_of (take 3 bs))) (sym is)
    (ap (λ (behind : List ℕ). codes "get" ∷ fields_of behind) (sym (all_behind 103 101 116 32 rest)), refl)
