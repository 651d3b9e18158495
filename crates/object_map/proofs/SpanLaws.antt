-- Spans of keys, and the bits that all keys of a span have.
use Rattle.std.proofs.Common.{◌≡◌, ◌≢◌, ℕ, ◌+◌, ◌*◌, ◌/◌, ◌%◌, ◌^◌, ◌≤◌, Option, Some, None, refl, sym, ap, ◌∙◌, subst, arith, ⊎_elim, inl, inr, true, false, Bool, not}
use Rattle.std.specs.Prelude.{◌==◌, unwrap_or}
use Rattle.std.specs.Int.{bit_at}
use Rattle.std.specs.Int.Bits.{bit_and}
use Rattle.std.proofs.lemmas.Nat.{pow_pos, shr-shr, div-add-mod', le-div}
use Rattle.std.proofs.lemmas.Nat.Bits.{shr_and_one}
use Rattle.std.proofs.lemmas.Bool.{cases_eq}
use Rattle.std.proofs.lemmas.Bool.Decides.{nat_tests}
use Rattle.object_map.specs.declared.telling.Span.{Span}
use Rattle.object_map.specs.Trees.{above}
use Rattle.object_map.specs.Telling.{IsWithin, IsEnd, AreStray, DoSpansPart, AreMixed}
use Rattle.object_map.specs.Telling.AreStray.{off, split}
use Rattle.object_map.specs.Telling.AreMixed.{by_digit, by_prefix}
use Rattle.object_map.proofs.BitLaws.{from_bit}

pub eq_test : (a b : ℕ) → (a == b) ≡ true → a ≡ b
eq_test a b e = grind (arith, nat_tests)

pub ne_test : (a b : ℕ) → (a == b) ≡ false → a ≢ b
ne_test a b e = grind (arith, nat_tests)

-- ---- one span

div_up : (b m n : ℕ) → m ≤ n → m / 2 ^ b ≤ n / 2 ^ b
div_up b m n l =
    let d : m / 2 ^ b * 2 ^ b + m % 2 ^ b ≡ m = div-add-mod' m (2 ^ b) in
    let h : m / 2 ^ b * 2 ^ b ≤ n = omega (arith, d, l) in
    le-div (m / 2 ^ b) n (2 ^ b) (pow_pos b) h

-- a key between two that are the same from a bit on
between_same : (b low key high : ℕ) → low ≤ key → key ≤ high → low / 2 ^ b ≡ high / 2 ^ b → key / 2 ^ b ≡ low / 2 ^ b
between_same b low key high l h e =
    let x : low / 2 ^ b ≤ key / 2 ^ b = div_up b low key l in
    let y : key / 2 ^ b ≤ high / 2 ^ b = div_up b key high h in
    omega (arith, x, y, e)

pub on_side : (b side : ℕ) (s : Span) → s.low / 2 ^ b ≡ s.high / 2 ^ b → bit_and (s.low / 2 ^ b) 1 ≡ side → (j k : ℕ) → IsWithin (Some s) j → IsWithin (Some s) k → (bit_at k b ≡ side) × (above b j ≡ above b k)
on_side b side s e d j k v w =
    let x : j / 2 ^ b ≡ s.low / 2 ^ b = between_same b s.low j s.high v.0 v.1 e in
    let y : k / 2 ^ b ≡ s.low / 2 ^ b = between_same b s.low k s.high w.0 w.1 e in
    (sym (shr_and_one k b) ∙ ap (λ q. bit_and q 1) y ∙ d, sym (shr-shr j b 1) ∙ ap (λ q. q / 2) (x ∙ sym y) ∙ shr-shr k b 1)

pub no_span : (b side : ℕ) (j k : ℕ) → IsWithin None j → IsWithin None k → (bit_at k b ≡ side) × (above b j ≡ above b k)
no_span b side j k v w = absurd v

-- its ends differ from the bit on
pub ends_differ : (b side : ℕ) (s : Span) → s.low / 2 ^ b ≢ s.high / 2 ^ b → AreStray (Some s) b side
ends_differ b side s n =
    let x : s.low / 2 ^ b ≡ above b s.low * 2 + bit_at s.low b = from_bit b s.low in
    let y : s.high / 2 ^ b ≡ above b s.high * 2 + bit_at s.high b = from_bit b s.high in
    ⊎_elim
    (λ (e : above b s.low ≡ above b s.high). ⊎_elim
    (λ (d : bit_at s.low b ≡ side). off s.high (inr refl) (λ c. n (omega (arith, x, y, e, d, c))))
    (λ (d : bit_at s.low b ≢ side). off s.low (inl refl) d)
    (cases_eq (bit_at s.low b) side))
    (λ (e : above b s.low ≢ above b s.high). split s.low s.high (inl refl) (inr refl) e)
    (cases_eq (above b s.low) (above b s.high))

pub digit_differs : (b side : ℕ) (s : Span) → bit_and (s.low / 2 ^ b) 1 ≢ side → AreStray (Some s) b side
digit_differs b side s n = off s.low (inl refl) (λ e. n (shr_and_one s.low b ∙ e))

-- ---- two spans

pub low_stray : (low high : Option Span) (b : ℕ) → AreStray low b 0 → AreMixed low high b
low_stray low high b (off key e d) = by_digit 0 key (inl (refl, e)) d
low_stray low high b (split key more e h d) = by_prefix 0 key 0 more (inl (refl, e)) (inl (refl, h)) d

pub high_stray : (low high : Option Span) (b : ℕ) → AreStray high b 1 → AreMixed low high b
high_stray low high b (off key e d) = by_digit 1 key (inr (refl, e)) d
high_stray low high b (split key more e h d) = by_prefix 1 key 1 more (inr (refl, e)) (inr (refl, h)) d

pub lows_differ : (low high : Option Span) (b : ℕ) → (s : Span) × ((t : Span) × ((low ≡ Some s) × (high ≡ Some t) × (above b s.low ≢ above b t.low))) → AreMixed low high b
lows_differ low high b h =
    let s = h.0 in
    let t = h.1.0 in
    by_prefix 0 s.low 1 t.low (inl (refl, subst (λ o. IsEnd o s.low) (sym h.1.1.0) (inl refl))) (inr (refl, subst (λ o. IsEnd o t.low) (sym h.1.1.1) (inl refl))) h.1.1.2

-- what is known of the keys of one span
abbrev pub AreAlike : Option Span → ℕ → ℕ → Type 0
AreAlike span b side = (j k : ℕ) → IsWithin span j → IsWithin span k → (bit_at k b ≡ side) × (above b j ≡ above b k)

pub spans_part : (low high : Option Span) (b : ℕ) → AreAlike low b 0 → AreAlike high b 1 → ((s t : Span) → low ≡ Some s → high ≡ Some t → above b s.low ≡ above b t.low) → DoSpansPart low high b
spans_part low high b x y z = record {
  digit = λ side key h. ⊎_elim (λ (p : (side ≡ 0) × IsWithin low key). (x key key p.1 p.1).0 ∙ sym p.0) (λ (q : (side ≡ 1) × IsWithin high key). (y key key q.1 q.1).0 ∙ sym q.0) h;
  prefix = λ side key other more h k. ⊎_elim
      (λ (p : (side ≡ 0) × IsWithin low key). ⊎_elim (λ (r : (other ≡ 0) × IsWithin low more). (x key more p.1 r.1).1) (λ (r : (other ≡ 1) × IsWithin high more). across low high x y z key more p.1 r.1) k)
      (λ (q : (side ≡ 1) × IsWithin high key). ⊎_elim (λ (r : (other ≡ 0) × IsWithin low more). sym (across low high x y z more key r.1 q.1)) (λ (r : (other ≡ 1) × IsWithin high more). (y key more q.1 r.1).1) k)
      h;
}
  where
    across : (low high : Option Span) → AreAlike low b 0 → AreAlike high b 1 → ((s t : Span) → low ≡ Some s → high ≡ Some t → above b s.low ≡ above b t.low) → (j k : ℕ) → IsWithin low j → IsWithin high k → above b j ≡ above b k
    across None high x y z j k v w = absurd v
    across (Some s) None x y z j k v w = absurd w
    across (Some s) (Some t) x y z j k v w =
        let first : s.low ≤ s.high = (let p : s.low ≤ j = v.0 in let q : j ≤ s.high = v.1 in omega (arith, p, q)) in
        let second : t.low ≤ t.high = (let p : t.low ≤ k = w.0 in let q : k ≤ t.high = w.1 in omega (arith, p, q)) in
        (x j s.low v (omega arith, first)).1 ∙ z s t refl refl ∙ (y t.low k (omega arith, second) w).1

-- ---- tests

-- spans that are the same have the same keys
pub some_span : (s t : Span) → Some s ≡ Some t → (s.low ≡ t.low) × (s.high ≡ t.high)
some_span s t e = (ap (λ o. (unwrap_or o s).low) e, ap (λ o. (unwrap_or o s).high) e)

pub same_above : (b m n : ℕ) → m / 2 ^ b / 2 ≡ n / 2 ^ b / 2 → above b m ≡ above b n
same_above b m n e = sym (shr-shr m b 1) ∙ e ∙ shr-shr n b 1

pub above_same : (b m n : ℕ) → above b m ≡ above b n → m / 2 ^ b / 2 ≡ n / 2 ^ b / 2
above_same b m n e = shr-shr m b 1 ∙ e ∙ sym (shr-shr n b 1)

pub not_true : (b : Bool) → not b ≡ true → b ≡ false
not_true true e = absurd (cc)
not_true false e = refl

pub not_false : (b : Bool) → not b ≡ false → b ≡ true
not_false true e = refl
not_false false e = absurd (cc)
