-- Where the first field of a line begins and ends, and what its digits spell.
use Rattle.std.proofs.lemmas.Bool.{cases_lt}
use Rattle.std.proofs.Common.{nat_lt, unwrap_or, add-zero, ⊎_elim, All, ◌≡◌, ℕ, suc, ◌+◌, ◌<◌, ◌≤◌, Bool, true, false, not, cond, List, [], ◌∷◌, Option, Some, None, MatchOption, take, drop, get_or, length, refl, sym, ap, ◌∙◌, arith}
use Rattle.std.specs.List.{slice_split, position_from, prefix_len, filter, position, position_or_len}
use Rattle.std.proofs.lemmas.Bool.Decides.{nat_tests}
use Rattle.std.proofs.lemmas.Iterator.Adapters.{position_from-zero}
use Rattle.std.proofs.lemmas.List.Splits.{slice_split-cons_yes, slice_split_first, slice_split_none}
use Rattle.std.proofs.lemmas.List.{drop_more, take_all, drop_all, length-drop, get_or-drop}
use Rattle.std.proofs.lemmas.List.Quantifiers.{position-Some}
use Rattle.std.proofs.lemmas.List.Sums.{passes_at_first, fails_before_first, prefix_len-le-length}
use Rattle.script_lines.specs.Fields.{is_blank, is_empty, fields_of}

-- ---- the first field

pub fields_of-blank : (b : ℕ) (bs : List ℕ) → is_blank b ≡ true → fields_of (b ∷ bs) ≡ fields_of bs
fields_of-blank b bs e = rw (slice_split-cons_yes is_blank b bs e)

-- where the first byte stands that is no blank, counted from i
pub record IsFieldStart (bs : List ℕ) (i j : ℕ) : Type 0 where
  pub skipped : ℕ
  pub place : j ≡ i + skipped
  pub within : skipped < length bs
  pub same : fields_of bs ≡ fields_of (drop skipped bs)
  pub there : is_blank (get_or bs skipped 0) ≡ false

field_start_next : (b : ℕ) (bs : List ℕ) (i : ℕ) (r : Option ℕ) → is_blank b ≡ true → MatchOption r (fields_of bs ≡ []) (λ j. IsFieldStart bs (i + 1) j) → MatchOption r (fields_of (b ∷ bs) ≡ []) (λ j. IsFieldStart (b ∷ bs) i j)
field_start_next b bs i None e h = fields_of-blank b bs e ∙ h
field_start_next b bs i (Some j) e h = record { skipped = suc h.skipped; place = omega (arith, h.place); within = omega (arith, h.within); same = fields_of-blank b bs e ∙ h.same; there = h.there }

pub field_start_from : (bs : List ℕ) (i : ℕ) → MatchOption (position_from (λ b. not (is_blank b)) i bs) (fields_of bs ≡ []) (λ j. IsFieldStart bs i j)
field_start_from [] i = refl
field_start_from (b ∷ bs) i =
    elim (is_blank b) as (λ t. is_blank b ≡ t → MatchOption (cond (not t) (Some i) (position_from (λ b. not (is_blank b)) (i + 1) bs)) (fields_of (b ∷ bs) ≡ []) (λ j. IsFieldStart (b ∷ bs) i j)) [
      | true ↦ λ e. field_start_next b bs i _ e (field_start_from bs (i + 1))
      | false ↦ λ e. record { skipped = 0; place = omega arith; within = omega arith; same = refl; there = e }
    ] refl

pub field_start : (bs : List ℕ) → MatchOption (position (λ b. not (is_blank b)) bs) (fields_of bs ≡ []) (λ j. IsFieldStart bs 0 j)
field_start bs = rw (position_from-zero (λ b. not (is_blank b)) bs) (field_start_from bs 0)

-- ---- its end

nonempty : List ℕ → Bool
nonempty part = not (is_empty part)

-- a field that ends before a blank
ends_before : (x m : ℕ) (xs : List ℕ) → position_or_len is_blank (x ∷ xs) ≡ suc m → suc m < length (x ∷ xs) → fields_of (x ∷ xs) ≡ take (suc m) (x ∷ xs) ∷ fields_of (drop (suc m) (x ∷ xs))
ends_before x m xs p l =
    let within : position_or_len is_blank (x ∷ xs) < length (x ∷ xs) = omega (arith, p, l) in
    let split : slice_split is_blank (x ∷ xs) ≡ take (suc m) (x ∷ xs) ∷ slice_split is_blank (drop (suc m + 1) (x ∷ xs)) = rw p at (slice_split_first is_blank (x ∷ xs) 0 within) in
    let blank : is_blank (get_or (x ∷ xs) (suc m) 0) ≡ true = rw p at (passes_at_first is_blank (x ∷ xs) 0 within) in
    let rest : fields_of (drop (suc m) (x ∷ xs)) ≡ fields_of (drop (suc m + 1) (x ∷ xs)) = ap fields_of (drop_more (x ∷ xs) (suc m) 0 l) ∙ fields_of-blank (get_or (x ∷ xs) (suc m) 0) (drop (suc m + 1) (x ∷ xs)) blank in
    ap (filter (λ part. not (is_empty part))) split ∙ ap (λ (fs : List (List ℕ)). take (suc m) (x ∷ xs) ∷ fs) (sym rest)

-- a field that ends with the line
ends_at_end : (x m : ℕ) (xs : List ℕ) → position_or_len is_blank (x ∷ xs) ≡ suc m → length (x ∷ xs) ≤ suc m → fields_of (x ∷ xs) ≡ take (suc m) (x ∷ xs) ∷ fields_of (drop (suc m) (x ∷ xs))
ends_at_end x m xs p l =
    let none : All (λ b. is_blank b ≡ false) (x ∷ xs) = λ k d h. fails_before_first is_blank (x ∷ xs) k d (omega (arith, p, l)) in
    let all : take (suc m) (x ∷ xs) ≡ x ∷ xs = take_all (suc m) (x ∷ xs) l in
    let rest : drop (suc m) (x ∷ xs) ≡ [] = drop_all (suc m) (x ∷ xs) l in
    rw (all, rest) (ap (filter (λ part. not (is_empty part))) (slice_split_none is_blank (x ∷ xs) none))

first_field : (x m : ℕ) (xs : List ℕ) → position_or_len is_blank (x ∷ xs) ≡ suc m → fields_of (x ∷ xs) ≡ take (suc m) (x ∷ xs) ∷ fields_of (drop (suc m) (x ∷ xs))
first_field x m xs p = ⊎_elim (ends_before x m xs p) (ends_at_end x m xs p) (cases_lt (suc m) (length (x ∷ xs)))

first_or_end : (k n : ℕ) → k ≤ n → unwrap_or (cond (nat_lt k n) (Some k) None) n ≡ k
first_or_end k n l = grind (arith, nat_tests)

-- the first blank, or the end
pub blank_or_end : (xs : List ℕ) (n : ℕ) → n ≡ unwrap_or (position is_blank xs) (length xs) → (n ≡ position_or_len is_blank xs) × (n ≤ length xs)
blank_or_end xs n h =
    let l = prefix_len-le-length (λ b. not (is_blank b)) xs in
    let e : n ≡ position_or_len is_blank xs = h ∙ first_or_end (position_or_len is_blank xs) (length xs) l in
    (e, rw e l)

add-comm-one : (m : ℕ) → 1 + m ≡ suc m
add-comm-one m = omega arith

-- the first field of a text that begins with no blank ends before the first blank, or with the text
pub fields_of-split : (xs : List ℕ) (n : ℕ) → 0 < length xs → is_blank (get_or xs 0 0) ≡ false → n ≡ unwrap_or (position is_blank xs) (length xs) → fields_of xs ≡ take n xs ∷ fields_of (drop n xs)
fields_of-split [] n l e h = absurd (omega arith)
fields_of-split (x ∷ xs) n l e h =
    let m = prefix_len (λ b. not (is_blank b)) xs in
    let p : position_or_len is_blank (x ∷ xs) ≡ suc m = ap (λ (t : Bool). cond (not t) (1 + m) 0) e ∙ add-comm-one m in
    rw ((blank_or_end (x ∷ xs) n h).0 ∙ p) (first_field x m xs p)

pub fields_of-none : (bs : List ℕ) → None ≡ position (λ b. not (is_blank b)) bs → fields_of bs ≡ []
fields_of-none bs e = rw (← e) at (field_start bs)

from_start : (bs field : List ℕ) (start n : ℕ) → IsFieldStart bs 0 start → field ≡ drop start bs → n ≡ unwrap_or (position is_blank field) (length field) → fields_of bs ≡ take n field ∷ fields_of (drop n field)
from_start bs field start n s f h =
    let k : start ≡ s.skipped = omega (arith, s.place) in
    let g : field ≡ drop s.skipped bs = rw k at f in
    let there : 0 < length field = rw g (omega (arith, length-drop s.skipped bs, s.within)) in
    let first : is_blank (get_or field 0 0) ≡ false = rw (g, get_or-drop, add-zero) s.there in
    s.same ∙ ap fields_of (sym g) ∙ fields_of-split field n there first h

pub fields_of-first : (bs field : List ℕ) (start n : ℕ) → Some start ≡ position (λ b. not (is_blank b)) bs → field ≡ drop start bs → n ≡ unwrap_or (position is_blank field) (length field) → fields_of bs ≡ take n field ∷ fields_of (drop n field)
fields_of-first bs field start n e f h = from_start bs field start n (rw (← e) at (field_start bs)) f h

-- one blank after the field is left out
pub fields_of-before : (bs field : List ℕ) (start n : ℕ) → Some start ≡ position (λ b. not (is_blank b)) bs → field ≡ drop start bs → Some n ≡ position is_blank field → fields_of bs ≡ take n field ∷ fields_of (drop (n + 1) field)
fields_of-before bs field start n e f h =
    let p = position-Some is_blank field n 0 (sym h) in
    let rest : fields_of (drop n field) ≡ fields_of (drop (n + 1) field) = ap fields_of (drop_more field n 0 p.0) ∙ fields_of-blank (get_or field n 0) (drop (n + 1) field) p.1 in
    fields_of-first bs field start n e f (ap (λ (o : Option ℕ). unwrap_or o (length field)) h) ∙ ap (λ (fs : List (List ℕ)). take n field ∷ fs) rest

-- there is no blank after the field
pub fields_of-last : (bs field : List ℕ) (start : ℕ) → Some start ≡ position (λ b. not (is_blank b)) bs → field ≡ drop start bs → None ≡ position is_blank field → fields_of bs ≡ field ∷ fields_of (drop (length field) field)
fields_of-last bs field start e f h =
    let all : take (length field) field ≡ field = take_all (length field) field (omega arith) in
    fields_of-first bs field start (length field) e f (ap (λ (o : Option ℕ). unwrap_or o (length field)) h) ∙ ap (λ (xs : List ℕ). xs ∷ fields_of (drop (length field) field)) all
