-- Bits of keys, and their order.
use Rattle.std.proofs.Common.{◌≡◌, ◌≢◌, ℕ, suc, ◌+◌, ◌-◌, ◌*◌, ◌/◌, ◌%◌, ◌^◌, ◌<◌, ◌≤◌, sym, ap, ◌∙◌, subst, arith, ⊎_elim, ◌⊎◌, inl, inr}
use Rattle.std.specs.Int.{bit_at}
use Rattle.std.proofs.lemmas.Nat.{pow_pos, shr-shr, div-add-mod', le-div}
use Rattle.std.proofs.lemmas.Nat.Bits.{bit_at-lt}
use Rattle.std.proofs.lemmas.Bool.{cases_lt}
use Rattle.object_map.specs.Trees.{above}
use Rattle.object_map.specs.Parting.{IsCritical}
use Rattle.std.specs.Int.Bits.{bit_xor}
use Rattle.std.specs.Int.Count.{count_leading_zeros}
use Rattle.std.proofs.lemmas.Nat.{leading_top, xor_shr, xor_lt, div_below}
use Rattle.std.proofs.lemmas.Nat.Bits.{bit_at_xor, same_from_bits, bit_at-zero}

-- the bits from b on are those above b and bit b
pub from_bit : (b n : ℕ) → n / 2 ^ b ≡ above b n * 2 + bit_at n b
from_bit b n =
    let e : n / 2 ^ b / 2 ≡ above b n = shr-shr n b 1 in
    let d : n / 2 ^ b / 2 * 2 + n / 2 ^ b % 2 ≡ n / 2 ^ b = div-add-mod' (n / 2 ^ b) 2 in
    sym d ∙ ap (λ z. z * 2 + bit_at n b) e

-- with the same bits above b, a key with 0 in bit b is below one with 1
pub below_by_bit : (b m n : ℕ) → above b m ≡ above b n → bit_at m b ≡ 0 → bit_at n b ≡ 1 → m < n
below_by_bit b m n e z o =
    let x : m / 2 ^ b ≡ above b m * 2 + bit_at m b = from_bit b m in
    let y : n / 2 ^ b ≡ above b n * 2 + bit_at n b = from_bit b n in
    let p : 0 < 2 ^ b = pow_pos b in
    let d : n / 2 ^ b * 2 ^ b + n % 2 ^ b ≡ n = div-add-mod' n (2 ^ b) in
    ⊎_elim
    (λ (l : m < n). l)
    (λ (g : n ≤ m).
    let h : n / 2 ^ b * 2 ^ b ≤ m = omega (arith, d, g) in
    let k : n / 2 ^ b ≤ m / 2 ^ b = le-div (n / 2 ^ b) m (2 ^ b) p h in
    absurd (omega (arith, x, y, e, z, o, k)))
    (cases_lt m n)

pub bit_cases : (n b : ℕ) → (bit_at n b ≡ 0) ⊎ (bit_at n b ≡ 1)
bit_cases n b = let h : bit_at n b < 2 = bit_at-lt n b in ⊎_elim (λ (l : bit_at n b < 1). inl (omega (arith, l))) (λ (g : 1 ≤ bit_at n b). inr (omega (arith, g, h))) (cases_lt (bit_at n b) 1)

-- numbers whose exclusive or is 0 are one
xor_none : (a b : ℕ) → bit_xor a b ≡ 0 → a ≡ b
xor_none a b e = same_from_bits a b (λ i.
    let x : bit_at (bit_xor a b) i ≡ (bit_at a i + bit_at b i) % 2 = bit_at_xor a b i in
    let z : bit_at (bit_xor a b) i ≡ 0 = ap (λ n. bit_at n i) e ∙ bit_at-zero i in
    let s : (bit_at a i + bit_at b i) % 2 ≡ 0 = sym x ∙ z in
    ⊎_elim
    (λ (p : bit_at a i ≡ 0). ⊎_elim (λ (q : bit_at b i ≡ 0). p ∙ sym q) (λ (q : bit_at b i ≡ 1). absurd (one_not (bit_at a i) (bit_at b i) s (ap (λ n. n + bit_at b i) p ∙ ap (λ n. 0 + n) q))) (bit_cases b i))
    (λ (p : bit_at a i ≡ 1). ⊎_elim (λ (q : bit_at b i ≡ 0). absurd (one_not (bit_at a i) (bit_at b i) s (ap (λ n. n + bit_at b i) p ∙ ap (λ n. 1 + n) q))) (λ (q : bit_at b i ≡ 1). p ∙ sym q) (bit_cases b i))
    (bit_cases a i))
  where
    one_not : (m n : ℕ) → (m + n) % 2 ≡ 0 → m + n ≡ 1 → ⊥
    one_not m n e f = (let g : 1 % 2 ≡ 0 = sym (ap (λ x. x % 2) f) ∙ e in absurd (omega (arith, g)))

-- the highest bit at which two keys differ
pub critical : (a b : ℕ) → a < 2 ^ 64 → b < 2 ^ 64 → a ≢ b → IsCritical (63 - count_leading_zeros 64 (bit_xor a b)) a b
critical a b l m n =
    let x = bit_xor a b in
    let some : 0 < x = ⊎_elim (λ (h : 0 < x). h) (λ (h : x ≤ 0). absurd (n (xor_none a b (omega (arith, h))))) (cases_lt 0 x) in
    let top = leading_top 64 x some (xor_lt 64 a b l m) in
    let j = top.0 in
    let c : 63 - count_leading_zeros 64 x ≡ j = omega (arith, top.1) in
    let number : j < 64 = omega (arith, top.1) in
    let power : 0 < 2 ^ j = pow_pos j in
    let power' : 0 < 2 ^ (j + 1) = pow_pos (j + 1) in
    let up : j + 1 ≡ suc j = omega arith in
    let less : x < 1 * 2 ^ (j + 1) = (let h : x < 2 ^ (j + 1) = subst (λ k. x < 2 ^ k) (sym up) top.3 in omega (arith, h)) in
    let high : x / 2 ^ (j + 1) < 1 = div_below x (2 ^ (j + 1)) 1 power' less in
    let same : above j a ≡ above j b = xor_none (above j a) (above j b) (sym (xor_shr a b (j + 1)) ∙ zero_of (x / 2 ^ (j + 1)) high) in
    let low : 1 ≤ x / 2 ^ j = le-div 1 x (2 ^ j) power (let h = top.2 in omega (arith, h)) in
    let f : x / 2 ^ j ≡ above j x * 2 + bit_at x j = from_bit j x in
    let digit : bit_at x j ≡ 1 = (let h : bit_at x j < 2 = bit_at-lt x j in omega (arith, f, low, high, h)) in
    let both : (bit_at a j + bit_at b j) % 2 ≡ 1 = sym (bit_at_xor a b j) ∙ digit in
    let differ : bit_at a j ≢ bit_at b j = λ e. twice (bit_at b j) (ap (λ k. (k + bit_at b j) % 2) (sym e) ∙ both) in
    subst (λ k. IsCritical k a b) (sym c) (record { number = number; same = same; differ = differ })
  where
    zero_of : (k : ℕ) → k < 1 → k ≡ 0
    zero_of k h = omega (arith, h)

    twice : (k : ℕ) → (k + k) % 2 ≡ 1 → ⊥
    twice k h = absurd (omega (arith, h))

-- so that the number of leading zeros is at most 63
pub critical_fits : (a b : ℕ) → a < 2 ^ 64 → b < 2 ^ 64 → a ≢ b → count_leading_zeros 64 (bit_xor a b) ≤ 63
critical_fits a b l m n =
    let x = bit_xor a b in
    let some : 0 < x = ⊎_elim (λ (h : 0 < x). h) (λ (h : x ≤ 0). absurd (n (xor_none a b (omega (arith, h))))) (cases_lt 0 x) in
    let top = leading_top 64 x some (xor_lt 64 a b l m) in
    omega (arith, top.1)
