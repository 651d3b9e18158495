-- The first line of a text.
use Rattle.std.proofs.Common.{◌≡◌, ◌≢◌, ℕ, suc, ◌+◌, ◌-◌, ◌<◌, ◌≤◌, Bool, true, false, ◌&&◌, ◌==◌, cond, List, [], ◌∷◌, ◌++◌, Option, Some, None, MatchOption, take, length, append_assoc, refl, sym, ap, ◌∙◌, ⊎_elim, arith, slice_index, get_or}
use Rattle.std.specs.List.{onto_first, position, position_from, position_or_len}
use Rattle.memchr.specs.Find.{IsFirstByte, Passes, is_byte}
use Rattle.std.proofs.lemmas.List.Sums.{sum_by-cons, sum_by-append, position_or_len_is}
use Rattle.std.proofs.lemmas.Bool.{cases_eq}
use Rattle.std.proofs.lemmas.Bool.Decides.{nat_tests}
use Rattle.std.proofs.lemmas.Iterator.Adapters.{position_from-zero}
use Rattle.script_lines.specs.Lines.{lines_of, line_feed, line_feeds, carriage_return, begins_with_line_feed}
use Rattle.script_lines.specs.Reading.{without_return, IsWholeLine}

-- ---- line feeds

pub line_feeds-cons : (b : ℕ) (bs : List ℕ) → line_feeds (b ∷ bs) ≡ cond (b == line_feed) 1 0 + line_feeds bs
line_feeds-cons b bs = sum_by-cons (λ b. cond (b == line_feed) 1 0) b bs

pub line_feeds-append : (xs ys : List ℕ) → line_feeds (xs ++ ys) ≡ line_feeds xs + line_feeds ys
line_feeds-append xs ys = sum_by-append (λ b. cond (b == line_feed) 1 0) xs ys

line_feeds-skip : (b : ℕ) (bs : List ℕ) → (b == line_feed) ≡ false → line_feeds (b ∷ bs) ≡ line_feeds bs
line_feeds-skip b bs e = grind (arith, nat_tests, line_feeds-cons b bs)

-- no line feed, from the front on
pub none-cons : (b : ℕ) (bs : List ℕ) → line_feeds (b ∷ bs) ≡ 0 → (b ≢ line_feed) × (line_feeds bs ≡ 0)
none-cons b bs e = let h = line_feeds-cons b bs in (λ f. grind (arith, nat_tests), grind (arith, nat_tests))

-- the place of the first line feed, counted from i
abbrev IsPlace : List ℕ → ℕ → ℕ → Type 0
IsPlace bs i j = (k : ℕ) × (j ≡ i + k) × (k < length bs) × (line_feeds (take k bs) ≡ 0) × (slice_index bs k ≡ line_feed)

place_next : (b : ℕ) (bs : List ℕ) (i : ℕ) (r : Option ℕ) → (b == line_feed) ≡ false → MatchOption r (line_feeds bs ≡ 0) (λ j. IsPlace bs (i + 1) j) → MatchOption r (line_feeds (b ∷ bs) ≡ 0) (λ j. IsPlace (b ∷ bs) i j)
place_next b bs i None e h = line_feeds-skip b bs e ∙ h
place_next b bs i (Some j) e h = (suc h.0, omega (arith, h.1), omega (arith, h.2), line_feeds-skip b (take h.0 bs) e ∙ h.3, h.4)

place_from : (bs : List ℕ) (i : ℕ) → MatchOption (position_from (λ b. b == line_feed) i bs) (line_feeds bs ≡ 0) (λ j. IsPlace bs i j)
place_from [] i = refl
place_from (b ∷ bs) i =
    elim (b == line_feed) as (λ t. (b == line_feed) ≡ t → MatchOption (cond t (Some i) (position_from (λ b. b == line_feed) (i + 1) bs)) (line_feeds (b ∷ bs) ≡ 0) (λ j. IsPlace (b ∷ bs) i j)) [
      | true ↦ λ e. (0, omega arith, omega arith, refl, grind (arith, nat_tests))
      | false ↦ λ e. place_next b bs i _ e (place_from bs (i + 1))
    ] refl

pub place : (bs : List ℕ) → MatchOption (position (λ b. b == line_feed) bs) (line_feeds bs ≡ 0) (λ i. (i < length bs) × (line_feeds (take i bs) ≡ 0) × (slice_index bs i ≡ line_feed))
place bs = rw (position_from-zero (λ b. b == line_feed) bs) (placed (position_from (λ b. b == line_feed) 0 bs) (place_from bs 0))
  where
    placed : (r : Option ℕ) → MatchOption r (line_feeds bs ≡ 0) (λ j. IsPlace bs 0 j) → MatchOption r (line_feeds bs ≡ 0) (λ i. (i < length bs) × (line_feeds (take i bs) ≡ 0) × (slice_index bs i ≡ line_feed))
    placed None h = h
    placed (Some j) h = let e : j ≡ h.0 = omega (arith, h.1) in rw e (h.2, h.3, h.4)

pub no_place : (bs : List ℕ) → None ≡ position (λ b. b == line_feed) bs → line_feeds bs ≡ 0
no_place bs e = rw (← e) at (place bs)

pub at_place : (bs : List ℕ) (i : ℕ) → Some i ≡ position (λ b. b == line_feed) bs → (i < length bs) × (line_feeds (take i bs) ≡ 0) × (slice_index bs i ≡ line_feed)
at_place bs i e = rw (← e) at (place bs)

-- where a search finds the first line feed
module _ (bs : List ℕ) where
  not_line_feed : (k : ℕ) → ¬ Passes (is_byte line_feed) bs k → (get_or bs k 0 == line_feed) ≡ false
  not_line_feed k n = other (get_or bs k 0 == line_feed) n
    where
      other : (b : Bool) → ¬ (b ≡ true) → b ≡ false
      other true n = absurd (n refl)
      other false n = refl

  pub first_place : (r : Option ℕ) → IsFirstByte (is_byte line_feed) bs r → r ≡ position (λ b. b == line_feed) bs
  first_place None h =
      let n : position_or_len (λ b. b == line_feed) bs ≡ length bs = position_or_len_is (λ b. b == line_feed) bs (length bs) 0 (omega arith) (λ k l. not_line_feed k (h k (omega arith) l)) (λ l. absurd (omega (arith, l))) in
      rw n (grind (arith, nat_tests))
  first_place (Some k) h =
      let n : position_or_len (λ b. b == line_feed) bs ≡ k = position_or_len_is (λ b. b == line_feed) bs k 0 (omega (arith, h.0.high)) (λ m l. not_line_feed m (h.0.before m (omega arith) l)) (λ l. h.1) in
      rw n (grind (arith, nat_tests, h.0.high))

-- ---- lines

lines_of-other : (b : ℕ) (bs : List ℕ) → b ≢ line_feed → begins_with_line_feed bs ≡ false → lines_of (b ∷ bs) ≡ onto_first b (lines_of bs)
lines_of-other b bs n e = grind (arith, nat_tests)

-- a line without a carriage return at its end, from the front on
without_return-cons : (x y : ℕ) (ys : List ℕ) → without_return (x ∷ y ∷ ys) ≡ x ∷ without_return (y ∷ ys)
without_return-cons x y ys =
    let last : length (x ∷ y ∷ ys) - 1 ≡ suc (length (y ∷ ys) - 1) = omega arith in
    ap (λ (k : ℕ). take (length (x ∷ y ∷ ys) - cond (slice_index (x ∷ y ∷ ys) k == carriage_return) 1 0) (x ∷ y ∷ ys)) last ∙ shorter (slice_index (y ∷ ys) (length (y ∷ ys) - 1) == carriage_return)
  where
    shorter : (b : Bool) → take (length (x ∷ y ∷ ys) - cond b 1 0) (x ∷ y ∷ ys) ≡ x ∷ take (length (y ∷ ys) - cond b 1 0) (y ∷ ys)
    shorter b =
        let n : length (x ∷ y ∷ ys) - cond b 1 0 ≡ suc (length (y ∷ ys) - cond b 1 0) = grind (arith, nat_tests) in
        ap (λ (k : ℕ). take k (x ∷ y ∷ ys)) n

not_feed : (y : ℕ) → y ≢ line_feed → (y == line_feed) ≡ false
not_feed y n = grind (arith, nat_tests)

last_byte : (x : ℕ) (ys : List ℕ) → x ≢ line_feed → lines_of (x ∷ line_feed ∷ ys) ≡ without_return (x ∷ []) ∷ lines_of ys
last_byte x ys n =
    ⊎_elim (λ h. rw h refl) (λ h. kept h) (cases_eq x carriage_return)
  where
    kept : x ≢ carriage_return → lines_of (x ∷ line_feed ∷ ys) ≡ without_return (x ∷ []) ∷ lines_of ys
    kept h =
        let t : (x == carriage_return) ≡ false = grind (arith, nat_tests) in
        let u : (x == line_feed) ≡ false = grind (arith, nat_tests) in
        rw (t, u)

-- up to the first line feed
pub lines_of-cut : (xs ys : List ℕ) → line_feeds xs ≡ 0 → lines_of (xs ++ line_feed ∷ ys) ≡ without_return xs ∷ lines_of ys
lines_of-cut [] ys e = refl
lines_of-cut (x ∷ []) ys e = last_byte x ys (none-cons x [] e).0
lines_of-cut (x ∷ y ∷ xs) ys e =
    let h = none-cons x (y ∷ xs) e in
    let g = none-cons y xs h.1 in
    lines_of-other x (y ∷ xs ++ line_feed ∷ ys) h.0 (not_feed y g.0) ∙ ap (onto_first x) (lines_of-cut (y ∷ xs) ys h.1) ∙ ap (λ (l : List ℕ). l ∷ lines_of ys) (sym (without_return-cons x y xs))

-- a line with its line feed
pub whole_line : (xs : List ℕ) → line_feeds xs ≡ 0 → IsWholeLine (xs ++ line_feed ∷ []) (without_return xs)
whole_line xs e = record {
  «first» = λ rest. ap lines_of (append_assoc xs (line_feed ∷ []) rest) ∙ lines_of-cut xs rest e;
  one = omega (arith, line_feeds-append xs (line_feed ∷ []), e);
}

-- a text without a line feed
pub lines_of-whole : (xs : List ℕ) → 0 < length xs → line_feeds xs ≡ 0 → lines_of xs ≡ xs ∷ []
lines_of-whole [] l e = absurd (omega arith)
lines_of-whole (x ∷ []) l e = lines_of-other x [] (none-cons x [] e).0 refl
lines_of-whole (x ∷ y ∷ xs) l e =
    let h = none-cons x (y ∷ xs) e in
    lines_of-other x (y ∷ xs) h.0 (not_feed y (none-cons y xs h.1).0) ∙ ap (onto_first x) (lines_of-whole (y ∷ xs) (omega arith) h.1)

-- a text has a first line
abbrev HasFirst : List (List ℕ) → Type 0
HasFirst ls = (line : List ℕ) × (rest : List (List ℕ)) × (ls ≡ line ∷ rest)

first-onto : (b : ℕ) (ls : List (List ℕ)) → HasFirst (onto_first b ls)
first-onto b [] = (b ∷ [], [], refl)
first-onto b (l ∷ ls) = (b ∷ l, ls, refl)

second-true : (a b : Bool) → (a && b) ≡ true → b ≡ true
second-true true b e = e
second-true false b e = absurd (cc)

some_line : (b : ℕ) (bs : List ℕ) → HasFirst (lines_of (b ∷ bs))
some_line b bs =
    cases (b == line_feed) ((b == carriage_return) && begins_with_line_feed bs) (λ h. of_rest bs (second-true (b == carriage_return) (begins_with_line_feed bs) h))
  where
    of_rest : (bs : List ℕ) → begins_with_line_feed bs ≡ true → HasFirst (lines_of bs)
    of_rest [] e = absurd (cc)
    of_rest (c ∷ cs) e = ([], lines_of cs, rw e)

    cases : (t u : Bool) → (u ≡ true → HasFirst (lines_of bs)) → HasFirst (cond t ([] ∷ lines_of bs) (cond u (lines_of bs) (onto_first b (lines_of bs))))
    cases true u f = ([], lines_of bs, refl)
    cases false true f = f refl
    cases false false f = first-onto b (lines_of bs)

-- a line that begins with these bytes, but for the last of them
abbrev pub BeginsWithLine : List ℕ → ℕ → Type 0
BeginsWithLine bytes n = (line : List ℕ) × (rest : List (List ℕ)) × (lines_of bytes ≡ line ∷ rest) × (n ≤ length line + 1)

-- bytes without a line feed are part of one line
pub lines_of-long : (xs ys : List ℕ) → 0 < length xs → line_feeds xs ≡ 0 → BeginsWithLine (xs ++ ys) (length xs)
lines_of-long [] ys l e = absurd (omega arith)
lines_of-long (x ∷ []) ys l e = let h = some_line x ys in (h.0, h.1, h.2, omega arith)
lines_of-long (x ∷ y ∷ xs) ys l e =
    let h = none-cons x (y ∷ xs) e in
    let r = lines_of-long (y ∷ xs) ys (omega arith) h.1 in
    (x ∷ r.0, r.1, lines_of-other x (y ∷ xs ++ ys) h.0 (not_feed y (none-cons y xs h.1).0) ∙ ap (onto_first x) r.2, omega (arith, r.3))
