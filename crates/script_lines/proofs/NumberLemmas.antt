-- The number that a field spells, digit by digit.
use Rattle.std.proofs.Common.{◌≡◌, ℕ, zero, suc, ◌+◌, ◌<◌, ◌≤◌, Bool, true, false, ◌&&◌, nat_lt, nat_le, cond, List, [], ◌∷◌, ◌++◌, Option, Some, None, ◌⊎◌, inr, take, get_or, length, refl, ap, ◌∙◌, arith}
use Rattle.std.specs.Option.{option_and_then}
use Rattle.std.specs.Str.{all_ascii_digits}
use Rattle.std.specs.Char.{is_ascii_digit}
use Rattle.std.specs.Str.Parse.{digits_value}
use Rattle.std.proofs.lemmas.Bool.Decides.{nat_tests}
use Rattle.std.proofs.lemmas.List.{take_more}
use Rattle.std.proofs.lemmas.Str.Parse.{digits_value-take-le}
use Rattle.script_lines.specs.Numbers.{is_number, number_within}

-- ---- digits

and-true : (a b : Bool) → (a && b) ≡ true → (a ≡ true) × (b ≡ true)
and-true true b e = (refl, e)
and-true false b e = absurd (cc)

all_ascii_digits-push : (xs : List ℕ) (x : ℕ) → all_ascii_digits xs ≡ true → is_ascii_digit x ≡ true → all_ascii_digits (xs ++ x ∷ []) ≡ true
all_ascii_digits-push [] x e f = rw f
all_ascii_digits-push (y ∷ ys) x e f =
    let h = and-true (is_ascii_digit y) (all_ascii_digits ys) e in
    rw (h.0, all_ascii_digits-push ys x h.1 f)

pub all_ascii_digits-more : (xs : List ℕ) (i : ℕ) → i < length xs → all_ascii_digits (take i xs) ≡ true → is_ascii_digit (get_or xs i 0) ≡ true → all_ascii_digits (take (i + 1) xs) ≡ true
all_ascii_digits-more xs i l e f = rw (take_more xs i 0 l) (all_ascii_digits-push (take i xs) (get_or xs i 0) e f)

and-false : (b : Bool) → (b && false) ≡ false
and-false true = refl
and-false false = refl

pub all_ascii_digits-not : (xs : List ℕ) (i : ℕ) → i < length xs → is_ascii_digit (get_or xs i 0) ≡ false → all_ascii_digits xs ≡ false
all_ascii_digits-not [] i l e = absurd (omega arith)
all_ascii_digits-not (x ∷ xs) zero l e = ap (λ (b : Bool). b && all_ascii_digits xs) e
all_ascii_digits-not (x ∷ xs) (suc i) l e = ap (λ (b : Bool). is_ascii_digit x && b) (all_ascii_digits-not xs i (omega arith) e) ∙ and-false (is_ascii_digit x)

-- ---- numbers

is_number-true : (field : List ℕ) → 1 ≤ length field → length field ≤ 20 → all_ascii_digits field ≡ true → is_number field ≡ true
is_number-true field some few digits = grind (arith, nat_tests)

is_number-false : (field : List ℕ) → all_ascii_digits field ≡ false → is_number field ≡ false
is_number-false field e = ap (λ (b : Bool). nat_le 1 (length field) && nat_le (length field) 20 && b) e ∙ and-false (nat_le 1 (length field) && nat_le (length field) 20)

-- a number in the range
abbrev in_range : ℕ → ℕ → ℕ → Option ℕ
in_range low limit n = cond (nat_le low n && nat_lt n limit) (Some n) None

in_range-Some : (low limit n : ℕ) → low ≤ n → n < limit → in_range low limit n ≡ Some n
in_range-Some low limit n l h = grind (arith, nat_tests)

in_range-None : (low limit n : ℕ) → (n < low) ⊎ (limit ≤ n) → in_range low limit n ≡ None
in_range-None low limit n h = grind (arith, nat_tests)

-- the field spells a number in the range
pub number_within-Some : (low limit : ℕ) (field : List ℕ) (n : ℕ) → 1 ≤ length field → length field ≤ 20 → all_ascii_digits field ≡ true → n ≡ digits_value 10 field → low ≤ n → n < limit → number_within low limit field ≡ Some n
number_within-Some low limit field n some few digits value above below =
    rw (is_number-true field some few digits, ← value) (in_range-Some low limit n above below)

pub number_within-not_digits : (low limit : ℕ) (field : List ℕ) → all_ascii_digits field ≡ false → number_within low limit field ≡ None
number_within-not_digits low limit field e = rw (is_number-false field e)

large : (low limit n : ℕ) (b : Bool) → limit ≤ n → option_and_then (in_range low limit) (cond b (Some n) None) ≡ None
large low limit n true h = in_range-None low limit n (inr h)
large low limit n false h = refl

-- the number of the first digits is as large as the limit already
pub number_within-large : (low limit : ℕ) (field : List ℕ) (i : ℕ) → limit ≤ digits_value 10 (take i field) → number_within low limit field ≡ None
number_within-large low limit field i h =
    large low limit (digits_value 10 field) (is_number field) (omega (arith, digits_value-take-le 10 field i))
