-- Laws on a set of clients and its bits.
use Rattle.std.proofs.Common.{◌≡◌, ◌≢◌, ℕ, ◌+◌, ◌*◌, ◌-◌, ◌^◌, ◌%◌, ◌<◌, ◌≤◌, Bool, true, false, not, ◌==◌, ◌||◌, ◌&&◌, nat_lt, bit_and, bit_or, zero, suc, [], ◌∷◌, refl, sym, ap, ◌∙◌, arith, ⊎_elim, true≢false}
use Rattle.std.specs.Int.{bit_not, trailing_zeros, w128}
use Rattle.std.specs.List.{list_any}
use Rattle.std.specs.Ordering.{nat_cmp}
use Rattle.std.specs.BTreeMap.{is_at}
use Rattle.std.proofs.lemmas.Bool.{cases_eq, cases_lt}
use Rattle.std.proofs.lemmas.Bool.Decides.{nat_tests}
use Rattle.std.proofs.lemmas.List.Folds.{list_any-append}
use Rattle.std.proofs.lemmas.Nat.Bits.{bit_at_set_same, bit_at_set_other, bit_at_clear_same, bit_at_clear_other, bit_at-trailing_zeros, bit_at-zero}
use Rattle.strict_locks.specs.declared.client_set.ClientSet.{ClientSet}
use Rattle.strict_locks.specs.ClientSet.{has_bit, is_in, passing_below, members}
use Rattle.strict_locks.specs.Locks.{IsLeast, Nobody}

-- ---- the bits of a word

-- one bit more
pub has_bit-with : (n k i : ℕ) → k < 128 → has_bit (bit_or n (1 * 2 ^ k % 2 ^ 128)) i ≡ (i == k || has_bit n i)
has_bit-with n k i within =
    ⊎_elim
    (λ (here : i ≡ k). let s = bit_at_set_same w128 n k within in grind (arith, nat_tests))
    (λ (apart : i ≢ k). let s = bit_at_set_other w128 n k within i apart in grind (arith, nat_tests))
    (cases_eq i k)

-- one bit less
pub has_bit-without : (n k i : ℕ) → k < 128 → i < 128 → has_bit (bit_and n (bit_not w128 (1 * 2 ^ k % 2 ^ 128))) i ≡ (not (i == k) && has_bit n i)
has_bit-without n k i within below =
    ⊎_elim
    (λ (here : i ≡ k). let s = bit_at_clear_same w128 n k within in grind (arith, nat_tests))
    (λ (apart : i ≢ k). let s = bit_at_clear_other w128 n k within i below apart in grind (arith, nat_tests))
    (cases_eq i k)

-- 0 has no bit
pub has_bit-zero : (i : ℕ) → has_bit 0 i ≡ false
has_bit-zero i = let z = bit_at-zero i in grind (arith, nat_tests)

-- the lowest bit
pub lowest-trailing_zeros : (n : ℕ) → 0 < n → n < 2 ^ 128 → IsLeast (λ i. (i < 128) × (has_bit n i ≡ true)) (trailing_zeros w128 n)
lowest-trailing_zeros n some fits =
    let t = bit_at-trailing_zeros w128 n some fits in
    ((t.0, grind (arith, nat_tests, t.1)), λ q has. ⊎_elim (λ (below : q < trailing_zeros w128 n). let z = t.2 q below in grind (arith, nat_tests)) (λ (above : trailing_zeros w128 n ≤ q). above) (cases_lt q (trailing_zeros w128 n)))

-- ---- the clients of a set

-- where the words say nothing, the set has no client
pub in_new : (p : ℕ) → is_in (record { low = 0; high = 0 }) p ≡ false
unfolding is_in
in_new p = let l = has_bit-zero p in let h = has_bit-zero (p - 128) in grind (arith, nat_tests, l, h)

-- which word tells of a client
pub in_low : (set : ClientSet) (p : ℕ) → p < 128 → is_in set p ≡ has_bit set.low p
unfolding is_in
in_low set p below = grind (arith, nat_tests, below)

pub in_high : (set : ClientSet) (p : ℕ) → 128 ≤ p → p < 256 → is_in set p ≡ has_bit set.high (p - 128)
unfolding is_in
in_high set p above below = grind (arith, nat_tests, above, below)

-- no client has a number from 256 on
pub in_none : (set : ClientSet) (p : ℕ) → 256 ≤ p → is_in set p ≡ false
unfolding is_in
in_none set p beyond = grind (arith, nat_tests, beyond)

-- one client more
pub insert_low : (set : ClientSet) (low client : ℕ) → client < 128 → ((i : ℕ) → has_bit low i ≡ (i == client || has_bit set.low i)) → (p : ℕ) → is_in (record { low = low; high = set.high }) p ≡ (p == client || is_in set p)
unfolding is_in
insert_low set low client within bits p = let b = bits p in grind (arith, nat_tests, b, within)

pub insert_high : (set : ClientSet) (high client : ℕ) → 128 ≤ client → client < 256 → ((i : ℕ) → has_bit high i ≡ (i == client - 128 || has_bit set.high i)) → (p : ℕ) → is_in (record { low = set.low; high = high }) p ≡ (p == client || is_in set p)
unfolding is_in
insert_high set high client above within bits p = let b = bits (p - 128) in grind (arith, nat_tests, b, above, within)

-- one client less
pub remove_low : (set : ClientSet) (low client : ℕ) → client < 128 → ((i : ℕ) → i < 128 → has_bit low i ≡ (not (i == client) && has_bit set.low i)) → (p : ℕ) → is_in (record { low = low; high = set.high }) p ≡ (not (p == client) && is_in set p)
unfolding is_in
remove_low set low client within bits p = let b = bits p in grind (arith, nat_tests, b, within)

pub remove_high : (set : ClientSet) (high client : ℕ) → 128 ≤ client → client < 256 → ((i : ℕ) → i < 128 → has_bit high i ≡ (not (i == client - 128) && has_bit set.high i)) → (p : ℕ) → is_in (record { low = set.low; high = high }) p ≡ (not (p == client) && is_in set p)
unfolding is_in
remove_high set high client above within bits p = let b = bits (p - 128) in grind (arith, nat_tests, b, above, within)

-- the least client is that of the lowest bit
pub first_low : (set : ClientSet) (client : ℕ) → IsLeast (λ i. (i < 128) × (has_bit set.low i ≡ true)) client → IsLeast (λ p. is_in set p ≡ true) client
first_low set client least =
    (in_low set client least.0.0 ∙ least.0.1, λ q found. ⊎_elim (λ (below : q < 128). least.1 q (below, sym (in_low set q below) ∙ found)) (λ (above : 128 ≤ q). let l = least.0.0 in omega (arith, l, above)) (cases_lt q 128))

-- or of that of the other word
pub first_high : (set : ClientSet) (place : ℕ) → Nobody (λ i. (i < 128) × (has_bit set.low i ≡ true)) → IsLeast (λ i. (i < 128) × (has_bit set.high i ≡ true)) place → IsLeast (λ p. is_in set p ≡ true) (place + 128)
first_high set place none least =
    let within = least.0.0 in
    let back : (place + 128) - 128 ≡ place = omega arith in (
      in_high set (place + 128) (omega arith) (omega (arith, within)) ∙ ap (has_bit set.high) back ∙ least.0.1,
      λ q found.
          ⊎_elim
          (λ (below : q < 128). absurd (none q (below, sym (in_low set q below) ∙ found)))
          (λ (above : 128 ≤ q). ⊎_elim
          (λ (below : q < 256). let l = least.1 (q - 128) (omega (arith, above, below), sym (in_high set q above below) ∙ found) in omega (arith, l, above))
          (λ (beyond : 256 ≤ q). omega (arith, within, beyond))
          (cases_lt q 256))
          (cases_lt q 128),
    )

pub first_none : (set : ClientSet) → Nobody (λ i. (i < 128) × (has_bit set.low i ≡ true)) → Nobody (λ i. (i < 128) × (has_bit set.high i ≡ true)) → Nobody (λ p. is_in set p ≡ true)
first_none set low high p found =
    ⊎_elim
    (λ (below : p < 128). low p (below, sym (in_low set p below) ∙ found))
    (λ (above : 128 ≤ p). ⊎_elim
    (λ (below : p < 256). high (p - 128) (omega (arith, above, below), sym (in_high set p above below) ∙ found))
    (λ (beyond : 256 ≤ p). true≢false (sym found ∙ in_none set p beyond))
    (cases_lt p 256))
    (cases_lt p 128)

-- ---- the list of the clients

-- which numbers pass the test
list_any-passing : (test : ℕ → Bool) (n p : ℕ) → list_any (is_at (nat_cmp p)) (passing_below test n) ≡ (nat_lt p n && test p)
unfolding passing_below
list_any-passing test zero p = grind (arith, nat_tests)
list_any-passing test (suc n) p =
    let r = list_any-passing test n p in
    let a = list_any-append (is_at (nat_cmp p)) (passing_below test n) (n ∷ []) in
    ⊎_elim
    (λ (here : p ≡ n). grind (arith, nat_tests, r, a, here))
    (λ (apart : p ≢ n). grind (arith, nat_tests, r, a, apart))
    (cases_eq p n)

-- where none passes, there is none
passing-none : (test : ℕ → Bool) (n : ℕ) → ((p : ℕ) → test p ≡ false) → passing_below test n ≡ []
unfolding passing_below
passing-none test zero none = refl
passing-none test (suc n) none = rw (none n) (passing-none test n none)

-- the clients of the set are those that are in it
pub has_members : (set : ClientSet) (p : ℕ) → list_any (is_at (nat_cmp p)) (members set) ≡ is_in set p
unfolding members
has_members set p =
    let passing = list_any-passing (is_in set) 256 p in
    ⊎_elim
    (λ (below : p < 256). grind (arith, nat_tests, passing, below))
    (λ (beyond : 256 ≤ p). let none = in_none set p beyond in grind (arith, nat_tests, passing, beyond, none))
    (cases_lt p 256)

-- a set without a client has none
pub members-none : (set : ClientSet) → ((p : ℕ) → is_in set p ≡ false) → members set ≡ []
unfolding members
members-none set none = passing-none (is_in set) 256 none
