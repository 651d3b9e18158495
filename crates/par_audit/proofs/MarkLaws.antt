-- Marks of ids in words.
use Rattle.std.proofs.Common.{◌≡◌, ◌≢◌, ℕ, zero, suc, ◌+◌, ◌*◌, ◌/◌, ◌^◌, ◌%◌, ◌<◌, ◌≤◌, Bool, true, false, not, bit_and, bit_or, List, [], ◌∷◌, length, get_or, set, get_or-set_same, get_or-set_other, refl, sym, ap, subst, ◌∙◌, arith, ⊎_elim, eq-eqb, ne_eqb, eqb-true}
use Rattle.std.specs.Prelude.{◌||◌, ◌&&◌, ◌==◌}
use Rattle.std.specs.Int.{bit_at, bit_not, trailing_zeros, w64}
use Rattle.std.proofs.lemmas.Bool.{cases_eq, cases_lt}
use Rattle.std.proofs.lemmas.Bool.Decides.{nat_tests}
use Rattle.std.proofs.lemmas.Nat.{and_le_l}
use Rattle.std.proofs.lemmas.Nat.Bits.{bit_at_set_same, bit_at_set_other, bit_at_clear_same, bit_at_clear_other, bit_at-trailing_zeros, bit_at-zero, bit_at-lt, bit_at_or, bit_at_and}
use Rattle.par_audit.specs.Marks.{has_bit, has_id, is_marked}

-- ---- the bits of a word

-- one bit more
pub bit_with : (n k i : ℕ) → k < 64 → has_bit (bit_or n (1 * 2 ^ k % 2 ^ 64)) i ≡ (has_bit n i || (k == i))
bit_with n k i within =
    ⊎_elim
    (λ (here : i ≡ k). let s = bit_at_set_same w64 n k within in grind (arith, nat_tests))
    (λ (apart : i ≢ k). let s = bit_at_set_other w64 n k within i apart in grind (arith, nat_tests))
    (cases_eq i k)

-- one bit less
pub bit_without : (n k i : ℕ) → k < 64 → i < 64 → has_bit (bit_and n (bit_not w64 (1 * 2 ^ k % 2 ^ 64))) i ≡ (has_bit n i && not (k == i))
bit_without n k i within below =
    ⊎_elim
    (λ (here : i ≡ k). let s = bit_at_clear_same w64 n k within in grind (arith, nat_tests))
    (λ (apart : i ≢ k). let s = bit_at_clear_other w64 n k within i below apart in grind (arith, nat_tests))
    (cases_eq i k)

-- a word that loses a bit is less
pub less_without : (n k : ℕ) → k < 64 → has_bit n k ≡ true → bit_and n (bit_not w64 (1 * 2 ^ k % 2 ^ 64)) < n
less_without n k within has =
    let less = and_le_l n (bit_not w64 (1 * 2 ^ k % 2 ^ 64)) in
    ⊎_elim
    (λ (below : bit_and n (bit_not w64 (1 * 2 ^ k % 2 ^ 64)) < n). below)
    (λ (above : n ≤ bit_and n (bit_not w64 (1 * 2 ^ k % 2 ^ 64))).
    let same : bit_and n (bit_not w64 (1 * 2 ^ k % 2 ^ 64)) ≡ n = omega (arith, less, above) in
    let off = bit_at_clear_same w64 n k within in
    let on : bit_at n k ≡ 1 = eqb-true (bit_at n k) 1 has in
    let both : bit_at n k ≡ 0 = sym (ap (λ (m : ℕ). bit_at m k) same) ∙ off in
    absurd (omega (arith, on, both)))
    (cases_lt (bit_and n (bit_not w64 (1 * 2 ^ k % 2 ^ 64))) n)

-- 0 has no bit
pub bit_zero : (i : ℕ) → has_bit 0 i ≡ false
bit_zero i = let z = bit_at-zero i in grind (arith, nat_tests)

pub bit_lowest : (n : ℕ) → n ≢ 0 → n < 2 ^ 64 → (trailing_zeros w64 n < 64) × (has_bit n (trailing_zeros w64 n) ≡ true)
bit_lowest n some fits =
    let more : 0 < n = ⊎_elim (λ (e : n ≡ 0). absurd (some e)) (λ ne. omega (arith, ne)) (cases_eq n 0) in
    let t = bit_at-trailing_zeros w64 n more fits in
    (t.0, eq-eqb (bit_at n (trailing_zeros w64 n)) 1 t.1)

pub bits_or : (n m i : ℕ) → has_bit (bit_or n m) i ≡ (has_bit n i || has_bit m i)
bits_or n m i =
    let o = bit_at_or n m i in
    let a = bit_at-lt n i in
    let b = bit_at-lt m i in
    grind (arith, nat_tests)

pub bits_and : (n m i : ℕ) → has_bit (bit_and n m) i ≡ (has_bit n i && has_bit m i)
bits_and n m i =
    let o = bit_at_and n m i in
    let a = bit_at-lt n i in
    let b = bit_at-lt m i in
    grind (arith, nat_tests)

-- ---- the marks of words

-- the mark of an id is a bit of its word
pub mark_bit : (t : List ℕ) (id : ℕ) → is_marked t id ≡ has_bit (get_or t (id / 64) 0) (id % 64)
unfolding is_marked
mark_bit t id = refl

past : (t : List ℕ) (k : ℕ) → length t ≤ k → get_or t k 0 ≡ 0
past [] k far = refl
past (w ∷ t) zero far = absurd (omega (arith, far))
past (w ∷ t) (suc k) far = past t k (omega (arith, far))

-- past the last word nothing is marked
pub mark_past : (t : List ℕ) (id : ℕ) → length t ≤ id / 64 → is_marked t id ≡ false
mark_past t id far = mark_bit t id ∙ (ap (λ (w : ℕ). has_bit w (id % 64)) (past t (id / 64) far) ∙ bit_zero (id % 64))

-- where all words are 0 nothing is marked
pub mark_blank : (t : List ℕ) → ((k : ℕ) → get_or t k 0 ≡ 0) → (id : ℕ) → is_marked t id ≡ false
mark_blank t blank id = mark_bit t id ∙ (ap (λ (w : ℕ). has_bit w (id % 64)) (blank (id / 64)) ∙ bit_zero (id % 64))

rest-same : (id x : ℕ) → x / 64 ≡ id / 64 → (id % 64 == x % 64) ≡ (id == x)
rest-same id x same =
    ⊎_elim
    (λ (e : id ≡ x). eq-eqb (id % 64) (x % 64) (ap (λ (n : ℕ). n % 64) e) ∙ sym (eq-eqb id x e))
    (λ (n : id ≢ x). ne_eqb (id % 64) (x % 64) (λ e. n (omega (arith, e, same))) ∙ sym (ne_eqb id x n))
    (cases_eq id x)

-- a word is put in its place
put-here : (t : List ℕ) (at w x : ℕ) → at < length t → x / 64 ≡ at → is_marked (set t at w) x ≡ has_bit w (x % 64)
put-here t at w x within e = mark_bit (set t at w) x ∙ ap (λ (v : ℕ). has_bit v (x % 64)) (ap (λ (k : ℕ). get_or (set t at w) k 0) e ∙ get_or-set_same t at w 0 within)

put-there : (t : List ℕ) (at w x : ℕ) → x / 64 ≢ at → is_marked (set t at w) x ≡ is_marked t x
put-there t at w x n = mark_bit (set t at w) x ∙ (ap (λ (v : ℕ). has_bit v (x % 64)) (get_or-set_other t at (x / 64) w 0 n) ∙ sym (mark_bit t x))

and-on : (b c : Bool) → c ≡ false → b ≡ (b && not c)
and-on true false e = refl
and-on true true e = absurd (cc)
and-on false c e = refl

-- an id's mark is taken away
pub mark_clear : (t : List ℕ) (id w : ℕ) → id / 64 < length t → ((i : ℕ) → i < 64 → has_bit w i ≡ (has_bit (get_or t (id / 64) 0) i && not (id % 64 == i)))
    → (x : ℕ) → is_marked (set t (id / 64) w) x ≡ (is_marked t x && not (id == x))
mark_clear t id w within bits x =
    ⊎_elim
    (λ (e : x / 64 ≡ id / 64).
    put-here t (id / 64) w x within e
    ∙ (bits (x % 64) (omega arith)
    ∙ (ap (λ (c : Bool). has_bit (get_or t (id / 64) 0) (x % 64) && not c) (rest-same id x e)
    ∙ ap (λ (b : Bool). b && not (id == x)) (ap (λ (k : ℕ). has_bit (get_or t k 0) (x % 64)) (sym e) ∙ sym (mark_bit t x)))))
    (λ (n : x / 64 ≢ id / 64). put-there t (id / 64) w x n ∙ and-on (is_marked t x) (id == x) (ne_eqb id x (λ e. n (ap (λ (k : ℕ). k / 64) (sym e)))))
    (cases_eq (x / 64) (id / 64))

-- where there is no word for an id it has no mark
pub mark_none : (t : List ℕ) (id : ℕ) → length t ≤ id / 64 → (x : ℕ) → is_marked t x ≡ (is_marked t x && not (id == x))
mark_none t id far x =
    ⊎_elim
    (λ (e : id ≡ x). let off = mark_past t x (subst (λ (k : ℕ). length t ≤ k / 64) e far) in off ∙ sym (ap (λ (b : Bool). b && not (id == x)) off))
    (λ (n : id ≢ x). and-on (is_marked t x) (id == x) (ne_eqb id x n))
    (cases_eq id x)

-- each word is both words together
pub mark_or : (t a b : List ℕ) → ((k : ℕ) → get_or t k 0 ≡ bit_or (get_or a k 0) (get_or b k 0)) → (id : ℕ) → is_marked t id ≡ (is_marked a id || is_marked b id)
mark_or t a b words id =
    mark_bit t id
    ∙ (ap (λ (w : ℕ). has_bit w (id % 64)) (words (id / 64))
    ∙ (bits_or (get_or a (id / 64) 0) (get_or b (id / 64) 0) (id % 64)
    ∙ (ap (λ (c : Bool). c || has_bit (get_or b (id / 64) 0) (id % 64)) (sym (mark_bit a id)) ∙ ap (λ (c : Bool). is_marked a id || c) (sym (mark_bit b id)))))

-- past its end a table has no id
pub id_past : (table : List Bool) (id : ℕ) → length table ≤ id → has_id table id ≡ false
id_past [] id far = refl
id_past (b ∷ table) zero far = absurd (omega (arith, far))
id_past (b ∷ table) (suc id) far = id_past table id (omega (arith, far))

-- past the last words both are 0
pub or_past : (t a b : List ℕ) (k : ℕ) → length t ≤ k → length a ≤ k → length b ≤ k → get_or t k 0 ≡ bit_or (get_or a k 0) (get_or b k 0)
or_past t a b k l m n = past t k l ∙ sym (ap (λ (x : ℕ). bit_or x (get_or b k 0)) (past a k m) ∙ ap (λ (y : ℕ). bit_or 0 y) (past b k n))

-- words whose bits say what is so of their ids
pub mark_each : (t : List ℕ) (p : ℕ → Bool) → ((at : ℕ) → at < length t → (bit : ℕ) → bit < 64 → has_bit (get_or t at 0) bit ≡ p (64 * at + bit))
    → ((id : ℕ) → length t ≤ id / 64 → p id ≡ false) → (id : ℕ) → is_marked t id ≡ p id
mark_each t p bits none id =
    ⊎_elim
    (λ (l : id / 64 < length t). let whole : 64 * (id / 64) + id % 64 ≡ id = omega arith in mark_bit t id ∙ (bits (id / 64) l (id % 64) (omega arith) ∙ ap p whole))
    (λ (far : length t ≤ id / 64). mark_past t id far ∙ sym (none id far))
    (cases_lt (id / 64) (length t))
