-- What a word may be: `--`, an option's word, one that begins with a single hyphen, or another.
use Rattle.std.proofs.Common.{◌≡◌, ◌∙◌, ap, refl, sym, subst, ℕ, suc, ◌+◌, Bool, true, false, ◌==◌, [], ◌∷◌, None, codes, bytes_eq, arith}
use Rattle.std.proofs.lemmas.Bool.Decides.{nat_tests}
use Rattle.std.specs.List.{list_any, before_first, after_first, position_or_len}
use Rattle.clap.specs.Words.{Text}
use Rattle.clap.specs.Lexer.{long_of, short_of}
use Rattle.call_generator.specs.Options.{is_equals, is_name, split}

-- ---- where the first `=` stands

before-more : (x : ℕ) (xs : Text) → is_equals x ≡ false → before_first is_equals (x ∷ xs) ≡ x ∷ before_first is_equals xs
before-more x xs e = let one : 1 + position_or_len is_equals xs ≡ suc (position_or_len is_equals xs) = omega arith in rw (e, one) refl

after-more : (x : ℕ) (xs : Text) → is_equals x ≡ false → after_first is_equals (x ∷ xs) ≡ after_first is_equals xs
after-more x xs e = let one : 1 + position_or_len is_equals xs + 1 ≡ suc (position_or_len is_equals xs + 1) = omega arith in rw (e, one) refl

before-here : (x : ℕ) (xs : Text) → is_equals x ≡ true → before_first is_equals (x ∷ xs) ≡ []
before-here x xs e = rw e refl

-- a text without `=`
pub all-before : (xs : Text) → list_any is_equals xs ≡ false → before_first is_equals xs ≡ xs
all-before [] e = refl
all-before (x ∷ xs) e = go (is_equals x) refl (λ f. all-before xs f)
  where
    go : (b : Bool) → is_equals x ≡ b → (list_any is_equals xs ≡ false → before_first is_equals xs ≡ xs) → before_first is_equals (x ∷ xs) ≡ x ∷ xs
    go true h rec = let bad : true ≡ false = rw h at e in absurd (cc (bad))
    go false h rec = before-more x xs h ∙ ap (λ t. x ∷ t) (rec (rw h at e))

-- `--NAME=VALUE`
pub split-long : (u : Text) → split (45 ∷ 45 ∷ u) ≡ (45 ∷ 45 ∷ before_first is_equals u, after_first is_equals u)
split-long u = rw (before-more 45 (45 ∷ u) refl, before-more 45 u refl, after-more 45 (45 ∷ u) refl, after-more 45 u refl) refl

-- ---- words that are no option's

-- neither the word nor what stands before its first `=` is an option's name
pub record IsOther (word : Text) : Type 0 where
  pub no_end : bytes_eq word (codes "--") ≡ false
  pub no_long : long_of word ≡ None
  pub no_name : is_name word ≡ false
  pub no_front : is_name (before_first is_equals word) ≡ false

pub data View (word : Text) : Type 0 where
  ends : word ≡ codes "--" → View word
  long : (x : ℕ) (xs : Text) → word ≡ 45 ∷ 45 ∷ x ∷ xs → View word
  short : (x : ℕ) (xs : Text) → word ≡ 45 ∷ x ∷ xs → (x == 45) ≡ false → IsOther word → View word
  plain : short_of word ≡ None → IsOther word → View word

is-45 : (x : ℕ) → (x == 45) ≡ true → x ≡ 45
is-45 x e = grind (arith, nat_tests)

front-plain : (x : ℕ) (xs : Text) (b : Bool) → is_equals x ≡ b → (x == 45) ≡ false → is_name (before_first is_equals (x ∷ xs)) ≡ false
front-plain x xs true e h = rw (before-here x xs e) refl
front-plain x xs false e h = rw (before-more x xs e, h) refl

other-plain : (x : ℕ) (xs : Text) → (x == 45) ≡ false → IsOther (x ∷ xs)
other-plain x xs h = record {
  no_end = rw h refl;
  no_long = rw h refl;
  no_name = rw h refl;
  no_front = front-plain x xs (is_equals x) refl h;
}

front-short : (x : ℕ) (xs : Text) (b : Bool) → is_equals x ≡ b → (x == 45) ≡ false → is_name (before_first is_equals (45 ∷ x ∷ xs)) ≡ false
front-short x xs true e h = rw (before-more 45 (x ∷ xs) refl, before-here x xs e) refl
front-short x xs false e h = rw (before-more 45 (x ∷ xs) refl, before-more x xs e, h) refl

other-short : (x : ℕ) (xs : Text) → (x == 45) ≡ false → IsOther (45 ∷ x ∷ xs)
other-short x xs h = record {
  no_end = rw h refl;
  no_long = rw h refl;
  no_name = rw h refl;
  no_front = front-short x xs (is_equals x) refl h;
}

two-hyphens : (xs : Text) → View (45 ∷ 45 ∷ xs)
two-hyphens [] = ends refl
two-hyphens (x ∷ xs) = long x xs refl

one-hyphen : (xs : Text) → View (45 ∷ xs)
one-hyphen [] = plain refl (record { no_end = refl; no_long = refl; no_name = refl; no_front = refl })
one-hyphen (x ∷ xs) = go (x == 45) refl
  where
    go : (b : Bool) → (x == 45) ≡ b → View (45 ∷ x ∷ xs)
    go true e = subst (λ (y : ℕ). View (45 ∷ y ∷ xs)) (sym (is-45 x e)) (two-hyphens xs)
    go false e = short x xs refl e (other-short x xs e)

pub view : (word : Text) → View word
view [] = plain refl (record { no_end = refl; no_long = refl; no_name = refl; no_front = refl })
view (x ∷ xs) = go (x == 45) refl
  where
    go : (b : Bool) → (x == 45) ≡ b → View (x ∷ xs)
    go true e = subst (λ (y : ℕ). View (y ∷ xs)) (sym (is-45 x e)) (one-hyphen xs)
    go false e = plain (rw e refl) (other-plain x xs e)
