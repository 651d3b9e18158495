-- Numbers in bytes, and the bytes of numbers.
use Rattle.std.proofs.Common.{◌≡◌, ℕ, zero, suc, ◌+◌, ◌*◌, ◌^◌, ◌<◌, ◌≤◌, List, [], ◌∷◌, ◌++◌, length, get_or, take, drop, refl, sym, ap, ◌∙◌, inl, inr, lit<, arith}
use Rattle.std.specs.Int.{Width, w16, w32, w64, byte_len, from_be_bytes, to_be_bytes}
use Rattle.std.specs.List.{flat_map}
use Rattle.std.proofs.Math.Seq.{take-add}
use Rattle.std.proofs.lemmas.Bool.{cases_lt}
use Rattle.std.proofs.lemmas.List.{drop-drop, length-drop, length-take, length-take-le, get_or-drop, get_or-take, get_or_past}
use Rattle.std.proofs.lemmas.Nat.{be_bytes_2, be_bytes_4, be_bytes_8, from_be_bytes-to_be_bytes_4}
use Rattle.cell_page.specs.Fields.{number_at, numbers_in}

pub number_at-drop : (w : Width) (bytes : List ℕ) (skip at : ℕ) → number_at w (drop skip bytes) at ≡ number_at w bytes (skip + at)
unfolding number_at
number_at-drop w bytes skip at = ap (λ (rest : List ℕ). from_be_bytes w (take (byte_len w) rest)) (drop-drop at skip bytes)

-- one number more
pub numbers_in-more : (count : ℕ) (bytes : List ℕ) → numbers_in (count + 1) bytes ≡ numbers_in count bytes ++ number_at w32 bytes (4 * count) ∷ []
numbers_in-more zero bytes = refl
numbers_in-more (suc count) bytes =
    let next : suc count + 1 ≡ suc (count + 1) = omega arith in
    let at : 4 + 4 * count ≡ 4 * suc count = omega arith in
    rw (next, numbers_in-more count (drop 4 bytes), number_at-drop w32 bytes 4 (4 * count), at) refl

-- ---- the bytes of the numbers that stand there are those that stand there

abbrev pub IsBytes : List ℕ → Type 0
IsBytes bytes = (i : ℕ) → get_or bytes i 0 < 256

pub IsBytes-drop : (n : ℕ) (bytes : List ℕ) → IsBytes bytes → IsBytes (drop n bytes)
IsBytes-drop n bytes h i = rw get_or-drop (h (n + i))

pub IsBytes-take : (n : ℕ) (bytes : List ℕ) → IsBytes bytes → IsBytes (take n bytes)
IsBytes-take n bytes h i =
    elim (cases_lt i n) [
      | inl lt ↦ rw (get_or-take n bytes i 0 lt) (h i)
      | inr le ↦ rw (get_or_past (take n bytes) i 0 (omega (arith, length-take n bytes))) (omega arith)
    ]

piece_length : (n at : ℕ) (bytes : List ℕ) → at + n ≤ length bytes → length (take n (drop at bytes)) ≡ n
piece_length n at bytes room = length-take-le n (drop at bytes) (omega (arith, length-drop at bytes))

pub bytes_at_16 : (bytes : List ℕ) (at : ℕ) → IsBytes bytes → at + 2 ≤ length bytes → take at bytes ++ to_be_bytes w16 (number_at w16 bytes at) ≡ take (at + 2) bytes
unfolding number_at
bytes_at_16 bytes at fits room =
    ap (λ (piece : List ℕ). take at bytes ++ piece) (be_bytes_2 (take 2 (drop at bytes)) _ (piece_length 2 at bytes room) (IsBytes-take 2 (drop at bytes) (IsBytes-drop at bytes fits)) refl)
    ∙ sym (take-add at 2 bytes)

pub bytes_at_32 : (bytes : List ℕ) (at : ℕ) → IsBytes bytes → at + 4 ≤ length bytes → take at bytes ++ to_be_bytes w32 (number_at w32 bytes at) ≡ take (at + 4) bytes
unfolding number_at
bytes_at_32 bytes at fits room =
    ap (λ (piece : List ℕ). take at bytes ++ piece) (be_bytes_4 (take 4 (drop at bytes)) _ (piece_length 4 at bytes room) (IsBytes-take 4 (drop at bytes) (IsBytes-drop at bytes fits)) refl)
    ∙ sym (take-add at 4 bytes)

pub bytes_at_64 : (bytes : List ℕ) (at : ℕ) → IsBytes bytes → at + 8 ≤ length bytes → take at bytes ++ to_be_bytes w64 (number_at w64 bytes at) ≡ take (at + 8) bytes
unfolding number_at
bytes_at_64 bytes at fits room =
    ap (λ (piece : List ℕ). take at bytes ++ piece) (be_bytes_8 (take 8 (drop at bytes)) _ (piece_length 8 at bytes room) (IsBytes-take 8 (drop at bytes) (IsBytes-drop at bytes fits)) refl)
    ∙ sym (take-add at 8 bytes)

pub flat_map-numbers_in : (count : ℕ) (bytes : List ℕ) → IsBytes bytes → 4 * count ≤ length bytes → flat_map (to_be_bytes w32) (numbers_in count bytes) ≡ take (4 * count) bytes
flat_map-numbers_in zero bytes fits room = refl
flat_map-numbers_in (suc count) bytes fits room =
    let rest = flat_map-numbers_in count (drop 4 bytes) (IsBytes-drop 4 bytes fits) (omega (arith, length-drop 4 bytes)) in
    let first : to_be_bytes w32 (number_at w32 bytes 0) ≡ take 4 bytes = bytes_at_32 bytes 0 fits (omega arith) in
    let all : 4 * suc count ≡ 4 + 4 * count = omega arith in
    rw (all, take-add 4 (4 * count) bytes, ← first, rest) refl

-- ---- the numbers that stand in the bytes of numbers are these

pub numbers_in-flat_map : (targets rest : List ℕ) → ((slot : ℕ) → get_or targets slot 0 < 2 ^ 32) → numbers_in (length targets) (flat_map (to_be_bytes w32) targets ++ rest) ≡ targets
unfolding number_at
numbers_in-flat_map [] rest fits = refl
numbers_in-flat_map (t ∷ ts) rest fits =
    rw (from_be_bytes-to_be_bytes_4 t (fits 0), numbers_in-flat_map ts rest (λ slot. fits (suc slot))) refl

-- ---- lengths

pub length-numbers_in : (count : ℕ) (bytes : List ℕ) → length (numbers_in count bytes) ≡ count
length-numbers_in zero bytes = refl
length-numbers_in (suc count) bytes = rw (length-numbers_in count (drop 4 bytes)) refl

pub length-numbers : (targets : List ℕ) → length (flat_map (to_be_bytes w32) targets) ≡ 4 * length targets
length-numbers [] = refl
length-numbers (t ∷ ts) = omega (arith, length-numbers ts)

-- ---- ranges

pub number_at_16-below : (bytes : List ℕ) (at : ℕ) → IsBytes bytes → number_at w16 bytes at < 2 ^ 16
unfolding number_at
number_at_16-below bytes at fits =
    let piece : IsBytes (take 2 (drop at bytes)) = IsBytes-take 2 (drop at bytes) (IsBytes-drop at bytes fits) in
    omega (arith, piece 0, piece 1)

pub number_at_32-below : (bytes : List ℕ) (at : ℕ) → IsBytes bytes → number_at w32 bytes at < 2 ^ 32
unfolding number_at
number_at_32-below bytes at fits =
    let piece : IsBytes (take 4 (drop at bytes)) = IsBytes-take 4 (drop at bytes) (IsBytes-drop at bytes fits) in
    omega (arith, piece 0, piece 1, piece 2, piece 3)

pub number_at_64-below : (bytes : List ℕ) (at : ℕ) → IsBytes bytes → number_at w64 bytes at < 2 ^ 64
unfolding number_at
number_at_64-below bytes at fits =
    let piece : IsBytes (take 8 (drop at bytes)) = IsBytes-take 8 (drop at bytes) (IsBytes-drop at bytes fits) in
    omega (arith, piece 0, piece 1, piece 2, piece 3, piece 4, piece 5, piece 6, piece 7)

pub numbers_in-below : (count : ℕ) (bytes : List ℕ) (slot : ℕ) → IsBytes bytes → get_or (numbers_in count bytes) slot 0 < 2 ^ 32
numbers_in-below zero bytes slot fits = lit< tt
numbers_in-below (suc count) bytes zero fits = number_at_32-below bytes 0 fits
numbers_in-below (suc count) bytes (suc slot) fits = numbers_in-below count (drop 4 bytes) slot (IsBytes-drop 4 bytes fits)
