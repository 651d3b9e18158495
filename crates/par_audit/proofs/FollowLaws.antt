-- Following pointers: one thing after another, and by other words for the same names.
use Rattle.std.proofs.Common.{◌≡◌, ℕ, zero, suc, ◌+◌, ◌-◌, ◌*◌, ◌/◌, ◌%◌, ◌≢◌, ◌<◌, ◌≤◌, Bool, true, false, not, List, [], ◌∷◌, ◌++◌, length, refl, sym, ap, ◌∙◌, arith, ◌⊎◌, inl, inr, ⊎_elim, get_or, bit_and, nat_lt, ne_eqb, eq-eqb, take, drop, map, subst}
use Rattle.std.specs.Prelude.{◌&&◌, ◌||◌, ◌==◌, Contains}
use Rattle.std.proofs.lemmas.Bool.{cases_eq, cases_lt}
use Rattle.std.proofs.lemmas.List.{append_assoc, append-nil, length-drop}
use Rattle.std.proofs.lemmas.List.Folds.{list_any_more}
use Rattle.std.proofs.lemmas.List.Elements.{Contains-append_left, Contains-append_right, Contains-append_cases}
use Rattle.cell_model.specs.Cells.{is_live}
use Rattle.cell_page.specs.declared.cell.Cell.{Cell as PageCell}
use Rattle.cell_page.specs.Stored.{cell_of}
use Rattle.std.proofs.lemmas.Bool.Decides.{nat_tests}
use Rattle.par_audit.proofs.MarkLaws.{mark_bit, mark_past, bit_zero, bits_and}
use Rattle.par_audit.specs.Marks.{has_bit, has_id, is_marked, IsNameTable, is_in, is_named, slots_at, Follows, AreNames}

pub either : (b : Bool) → (b ≡ true) ⊎ (b ≡ false)
either true = inl refl
either false = inr refl

pub and-first : (x y : Bool) → (x && y) ≡ true → x ≡ true
and-first true y e = refl
and-first false y e = absurd (cc)

and-off : (x y : Bool) → x ≡ false → (x && y) ≡ false
and-off true y e = absurd (cc)
and-off false y e = refl

and-both : (x f g : Bool) → ((x && not f) && not g) ≡ (x && not (f || g))
and-both true true g = refl
and-both true false g = refl
and-both false f g = refl

pub never : {P : Type 0} (b : Bool) → b ≡ false → b ≡ true → P
never true e f = absurd (cc)
never false e f = absurd (cc)

-- one thing after another
pub follows-then : (f g : ℕ → Bool) (a b c : List ℕ) (xs ys zs : List ℕ) → Follows f a b xs ys → Follows g b c ys zs → Follows (λ id. f id || g id) a c xs zs
follows-then f g a b c xs ys zs p q = record {
  len = q.len ∙ p.len;
  kept = λ id.
      q.kept id ∙ (ap (λ (m : Bool). m && not (g id)) (p.kept id) ∙ and-both (is_marked a id) (f id) (g id));
  found = p.found ++ q.found;
  appended = q.appended ∙ (ap (λ (l : List ℕ). l ++ q.found) p.appended ∙ append_assoc xs p.found q.found);
  new = λ id. (
    λ h.
        ⊎_elim
        (λ (inside : Contains p.found id). let was = (p.new id).0 inside in (was.0, q.kept id ∙ and-off (is_marked b id) _ was.1))
        (λ (inside : Contains q.found id). let was = (q.new id).0 inside in (and-first (is_marked a id) _ (sym (p.kept id) ∙ was.0), was.1))
        (Contains-append_cases p.found q.found id h),
    λ h.
        ⊎_elim
        (λ (still : is_marked b id ≡ true). Contains-append_right p.found q.found id ((q.new id).1 (still, h.1)))
        (λ (now : is_marked b id ≡ false). Contains-append_left p.found q.found id ((p.new id).1 (h.0, now)))
        (either (is_marked b id)),
  );
}

-- other words for the same names
pub follows-by : (f g : ℕ → Bool) (a b : List ℕ) (xs ys : List ℕ) → ((id : ℕ) → f id ≡ g id) → Follows f a b xs ys → Follows g a b xs ys
follows-by f g a b xs ys e p = record {
  len = p.len;
  kept = λ id. p.kept id ∙ ap (λ (n : Bool). is_marked a id && not n) (e id);
  found = p.found;
  appended = p.appended;
  new = p.new;
}

-- the names need to be the same only where the table has a place
pub follows-within : (f g : ℕ → Bool) (a b : List ℕ) (xs ys : List ℕ) → ((id : ℕ) → id / 64 < length a → f id ≡ g id) → Follows f a b xs ys → Follows g a b xs ys
follows-within f g a b xs ys e p = record {
  len = p.len;
  kept = λ id.
      ⊎_elim (λ (l : id / 64 < length a). p.kept id ∙ ap (λ (n : Bool). is_marked a id && not n) (e id l))
      (λ (past : length a ≤ id / 64). p.kept id ∙ (and-off (is_marked a id) _ (mark_past a id past) ∙ sym (and-off (is_marked a id) (not (g id)) (mark_past a id past))))
      (cases_lt (id / 64) (length a));
  found = p.found;
  appended = p.appended;
  new = p.new;
}

-- what is listed alone may be listed after others
pub follows-behind : (f : ℕ → Bool) (a b : List ℕ) (xs ys zs : List ℕ) → zs ≡ xs ++ ys → Follows f a b [] ys → Follows f a b xs zs
follows-behind f a b xs ys zs e p = record {
  len = p.len;
  kept = p.kept;
  found = p.found;
  appended = e ∙ ap (λ (l : List ℕ). xs ++ l) p.appended;
  new = p.new;
}

and-met : (a f : Bool) → (a && not (a && f)) ≡ (a && not f)
and-met true f = refl
and-met false f = refl

-- names of unreached objects alone are enough
pub follows-met : (f : ℕ → Bool) (a b : List ℕ) (xs ys : List ℕ) → Follows (λ id. is_marked a id && f id) a b xs ys → Follows f a b xs ys
follows-met f a b xs ys p = record {
  len = p.len;
  kept = λ id. p.kept id ∙ and-met (is_marked a id) (f id);
  found = p.found;
  appended = p.appended;
  new = p.new;
}

-- ---- one id

not-marked : (b c : Bool) → c ≡ true → false ≡ (b && not c)
not-marked true true e = refl
not-marked false c e = refl
not-marked true false e = absurd (cc)

still-marked : (b c : Bool) → c ≡ false → b ≡ (b && not c)
still-marked true false e = refl
still-marked false c e = refl
still-marked true true e = absurd (cc)

-- an unreached object is reached and listed
pub follows-one : (t u xs : List ℕ) (id : ℕ) → is_marked t id ≡ true → length u ≡ length t → ((x : ℕ) → is_marked u x ≡ (is_marked t x && not (id == x))) → Follows (λ x. id == x) t u xs (xs ++ id ∷ [])
follows-one t u xs id is len cleared = record {
  len = len;
  kept = cleared;
  found = id ∷ [];
  appended = refl;
  new = λ x. (
    λ h. let e = alone x h in (subst (λ (k : ℕ). is_marked t k ≡ true) e is, cleared x ∙ sym (not-marked (is_marked t x) (id == x) (eq-eqb id x e))),
    λ h.
        ⊎_elim (λ (e : id ≡ x). (zero, omega arith, e))
        (λ n. never (is_marked t x) (still-marked (is_marked t x) (id == x) (ne_eqb id x n) ∙ (sym (cleared x) ∙ h.1)) h.0)
        (cases_eq id x),
  );
}
  where
    alone : (x : ℕ) → Contains (id ∷ []) x → id ≡ x
    alone x (zero, lt, at) = at
    alone x (suc k, lt, at) = absurd (omega (arith, lt))

-- another id changes nothing
pub follows-none : (f : ℕ → Bool) (t : List ℕ) (xs : List ℕ) → ((x : ℕ) → is_marked t x ≡ (is_marked t x && not (f x))) → Follows f t t xs xs
follows-none f t xs e = record {
  len = refl;
  kept = e;
  found = [];
  appended = sym (append-nil xs);
  new = λ x. (λ h. absurd (nothing x h), λ h. never (is_marked t x) h.1 h.0);
}
  where
    nothing : (x : ℕ) → Contains [] x → ⊥
    nothing x (k, lt, at) = absurd (omega (arith, lt))

pub follows-other : (t : List ℕ) (xs : List ℕ) (id : ℕ) → is_marked t id ≡ false → Follows (λ x. id == x) t t xs xs
follows-other t xs id is =
    follows-none (λ x. id == x) t xs
    (λ x.
    ⊎_elim (λ (e : id ≡ x). let off = subst (λ (k : ℕ). is_marked t k ≡ false) e is in off ∙ sym (and-off (is_marked t x) (not (id == x)) off))
    (λ n. still-marked (is_marked t x) (id == x) (ne_eqb id x n))
    (cases_eq id x))

-- a cell that isn't there names nothing
pub follows-nothing : (f : ℕ → Bool) (t : List ℕ) (xs : List ℕ) → ((x : ℕ) → f x ≡ false) → Follows f t t xs xs
follows-nothing f t xs off = follows-none f t xs (λ x. still-marked (is_marked t x) (f x) (off x))

-- ---- one thing more of a list

pub in-more : (ids : List ℕ) (i id : ℕ) → i < length ids → (is_in (take i ids) id || (get_or ids i 0 == id)) ≡ is_in (take (i + 1) ids) id
in-more ids i id within = sym (list_any_more (λ x. x == id) ids i 0 within)

pub named-more : {slots : ℕ} (cells : List (PageCell slots)) (level : List ℕ) (i id : ℕ) → i < length level → (is_named cells (take i level) id || is_in (slots_at cells (get_or level i 0)) id) ≡ is_named cells (take (i + 1) level) id
named-more cells level i id within = sym (list_any_more (λ x. is_in (slots_at cells x) id) level i 0 within)

-- ---- objects of cells

pub live-past : {slots : ℕ} (cells : List (PageCell slots)) (id : ℕ) → length cells ≤ id → is_live (map cell_of cells) id ≡ false
live-past [] id past = refl
live-past (c ∷ cells) zero past = absurd (omega (arith, past))
live-past (c ∷ cells) (suc id) past = live-past cells id (omega (arith, past))

-- ---- a list that grows while its front is followed

front : (xs more : List ℕ) (i : ℕ) → i < length xs → get_or (xs ++ more) i 0 ≡ get_or xs i 0
front [] more i within = absurd (omega (arith, within))
front (x ∷ xs) more zero within = refl
front (x ∷ xs) more (suc i) within = front xs more i (omega (arith, within))

dropped : (f k : ℕ) (xs : List ℕ) → get_or (drop f xs) k 0 ≡ get_or xs (f + k) 0
dropped zero k xs = let e : zero + k ≡ k = omega arith in ap (λ (n : ℕ). get_or xs n 0) (sym e)
dropped (suc f) k [] = refl
dropped (suc f) k (x ∷ xs) = let e : suc f + k ≡ suc (f + k) = omega arith in dropped f k xs ∙ ap (λ (n : ℕ). get_or (x ∷ xs) n 0) (sym e)

pub turn-more : {slots : ℕ} (cells : List (PageCell slots)) (f i v : ℕ) (xs ys zs : List ℕ) (a b c : List ℕ) → f ≤ i → i < length xs → v ≡ get_or ys i 0
    → Follows (is_named cells (take (i - f) (drop f xs))) a b xs ys → Follows (is_in (slots_at cells v)) b c ys zs
    → Follows (is_named cells (take (i + 1 - f) (drop f xs))) a c xs zs
turn-more cells f i v xs ys zs a b c low within is p q =
    let there : f + (i - f) ≡ i = omega (arith, low) in
    let value : v ≡ get_or (drop f xs) (i - f) 0 =
    is ∙ (ap (λ (l : List ℕ). get_or l i 0) p.appended ∙ (front xs p.found i within ∙ (ap (λ (n : ℕ). get_or xs n 0) (sym there) ∙ sym (dropped f (i - f) xs)))) in
    let long = length-drop f xs in
    let inside : i - f < length (drop f xs) = omega (arith, long, within, low) in
    let next : i - f + 1 ≡ i + 1 - f = omega (arith, low) in
    follows-by _ _ _ _ _ _
    (λ id. ap (λ (n : ℕ). is_named cells (take (i - f) (drop f xs)) id || is_in (slots_at cells n) id) value
    ∙ (named-more cells (drop f xs) (i - f) id inside ∙ ap (λ (n : ℕ). is_named cells (take n (drop f xs)) id) next))
    (follows-then _ _ _ _ _ _ _ _ p q)

-- words of names say the same as the names
pub follows-named : {slots : ℕ} (cells : List (PageCell slots)) (level words a b xs ys : List ℕ) → AreNames cells level (length a) words
    → Follows (is_marked words) a b xs ys → Follows (is_named cells level) a b xs ys
follows-named cells level words a b xs ys h p = follows-within (is_marked words) (is_named cells level) a b xs ys h.each p

-- ---- the marks of a word, one after another

both-off : (b c : Bool) → (b && (c && not c)) ≡ false
both-off true true = refl
both-off true false = refl
both-off false c = refl

-- none of the word's marks was followed yet
pub word-begins : (t xs : List ℕ) (at first : ℕ) → Follows (λ id. (id / 64 == at) && (has_bit first (id % 64) && not (has_bit first (id % 64)))) t t xs xs
word-begins t xs at first = follows-nothing _ t xs (λ id. both-off (id / 64 == at) (has_bit first (id % 64)))

bit-more : (first left next at bit id : ℕ) → bit < 64 → has_bit first bit ≡ true → ((i : ℕ) → i < 64 → has_bit next i ≡ (has_bit left i && not (bit == i)))
    → (((id / 64 == at) && (has_bit first (id % 64) && not (has_bit left (id % 64)))) || (64 * at + bit == id)) ≡ ((id / 64 == at) && (has_bit first (id % 64) && not (has_bit next (id % 64))))
bit-more first left next at bit id within has one =
    ⊎_elim
    (λ (e : 64 * at + bit ≡ id).
    let place : id / 64 ≡ at = omega (arith, e, within) in
    let rest : id % 64 ≡ bit = omega (arith, e, within) in
    let off : has_bit next (id % 64) ≡ false = one (id % 64) (omega arith) ∙ and-eq (has_bit left (id % 64)) (bit == id % 64) (eq-eqb bit (id % 64) (sym rest)) in
    let on : has_bit first (id % 64) ≡ true = ap (λ (k : ℕ). has_bit first k) rest ∙ has in
    here _ (64 * at + bit == id) (id / 64 == at) (has_bit first (id % 64)) (has_bit next (id % 64)) (eq-eqb (64 * at + bit) id e) (eq-eqb (id / 64) at place) on off)
    (λ (n : 64 * at + bit ≢ id).
    ⊎_elim
    (λ (place : id / 64 ≡ at).
    let apart : bit ≢ id % 64 = (λ e. n (omega (arith, e, place))) in
    let same : has_bit next (id % 64) ≡ has_bit left (id % 64) = one (id % 64) (omega arith) ∙ and-ne (has_bit left (id % 64)) (bit == id % 64) (ne_eqb bit (id % 64) apart) in
    or-none _ (64 * at + bit == id) (ne_eqb (64 * at + bit) id n) ∙ ap (λ (b : Bool). (id / 64 == at) && (has_bit first (id % 64) && not b)) (sym same))
    (λ (other : id / 64 ≢ at). none (id / 64 == at) _ (64 * at + bit == id) _ (ne_eqb (id / 64) at other) (ne_eqb (64 * at + bit) id n))
    (cases_eq (id / 64) at))
    (cases_eq (64 * at + bit) id)
  where
    and-eq : (b c : Bool) → c ≡ true → (b && not c) ≡ false
    and-eq true true e = refl
    and-eq true false e = absurd (cc)
    and-eq false c e = refl

    and-ne : (b c : Bool) → c ≡ false → (b && not c) ≡ b
    and-ne true false e = refl
    and-ne true true e = absurd (cc)
    and-ne false c e = refl

    or-none : (b c : Bool) → c ≡ false → (b || c) ≡ b
    or-none true c e = refl
    or-none false c e = e

    here : (b c p f m : Bool) → c ≡ true → p ≡ true → f ≡ true → m ≡ false → (b || c) ≡ (p && (f && not m))
    here true c true true false e g h k = refl
    here false true true true false e g h k = refl
    here b c p f true e g h k = absurd (cc)
    here b c p false false e g h k = absurd (cc)
    here b c false true false e g h k = absurd (cc)
    here false false true true false e g h k = absurd (cc)

    none : (p b c d : Bool) → p ≡ false → c ≡ false → ((p && b) || c) ≡ (p && d)
    none false b false d e g = refl
    none false b true d e g = absurd (cc)
    none true b c d e g = absurd (cc)

-- one mark more of a word
pub word-more : (first left next at bit : ℕ) (a b c xs ys zs : List ℕ) → bit < 64 → has_bit first bit ≡ true → ((i : ℕ) → i < 64 → has_bit next i ≡ (has_bit left i && not (bit == i)))
    → Follows (λ id. (id / 64 == at) && (has_bit first (id % 64) && not (has_bit left (id % 64)))) a b xs ys → Follows (λ id. 64 * at + bit == id) b c ys zs
    → Follows (λ id. (id / 64 == at) && (has_bit first (id % 64) && not (has_bit next (id % 64)))) a c xs zs
word-more first left next at bit a b c xs ys zs within has one p q =
    follows-by _ _ _ _ _ _ (λ id. bit-more first left next at bit id within has one) (follows-then _ _ _ _ _ _ _ _ p q)

-- all marks of a word
pub word-ends : (names at : ℕ) (a b xs ys : List ℕ) → Follows (λ id. (id / 64 == at) && (has_bit (bit_and (get_or a at 0) names) (id % 64) && not (has_bit 0 (id % 64)))) a b xs ys
    → Follows (λ id. (id / 64 == at) && has_bit names (id % 64)) a b xs ys
word-ends names at a b xs ys p =
    follows-met _ a b xs ys (follows-by _ _ a b xs ys
    (λ id.
    ⊎_elim
    (λ (e : id / 64 ≡ at).
    let here : has_bit (get_or a at 0) (id % 64) ≡ is_marked a id = ap (λ (k : ℕ). has_bit (get_or a k 0) (id % 64)) (sym e) ∙ sym (mark_bit a id) in
    turned (id / 64 == at) (has_bit (bit_and (get_or a at 0) names) (id % 64)) (has_bit 0 (id % 64)) (is_marked a id) (has_bit names (id % 64)) (bit_zero (id % 64))
    (bits_and (get_or a at 0) names (id % 64) ∙ ap (λ (b : Bool). b && has_bit names (id % 64)) here))
    (λ (n : id / 64 ≢ at). away (id / 64 == at) _ (is_marked a id) (has_bit names (id % 64)) (ne_eqb (id / 64) at n))
    (cases_eq (id / 64) at))
    p)
  where
    turned : (p f z m n : Bool) → z ≡ false → f ≡ (m && n) → (p && (f && not z)) ≡ (m && (p && n))
    turned true true false true true e h = refl
    turned true false false true false e h = refl
    turned true f false false n e h = all f n h
      where
        all : (f n : Bool) → f ≡ false → (f && true) ≡ false
        all false n e = refl
        all true n e = absurd (cc)
    turned true true false true false e h = absurd (cc)
    turned true false false true true e h = absurd (cc)
    turned false f z true n e h = refl
    turned false f z false n e h = refl
    turned true f true m n e h = absurd (cc)

    away : (p b m n : Bool) → p ≡ false → (p && b) ≡ (m && (p && n))
    away false b true n e = refl
    away false b false n e = refl
    away true b m n e = absurd (cc)

-- ---- words, one after another

pub words-begin : (words t xs : List ℕ) → Follows (λ id. nat_lt (id / 64) 0 && is_marked words id) t t xs xs
words-begin words t xs = follows-nothing (λ id. nat_lt (id / 64) 0 && is_marked words id) t xs (λ id. grind (arith, nat_tests))

-- one word more
pub words-more : (words : List ℕ) (i : ℕ) (a b c xs ys zs : List ℕ) → Follows (λ id. nat_lt (id / 64) i && is_marked words id) a b xs ys
    → Follows (λ id. (id / 64 == i) && has_bit (get_or words i 0) (id % 64)) b c ys zs → Follows (λ id. nat_lt (id / 64) (i + 1) && is_marked words id) a c xs zs
words-more words i a b c xs ys zs p q =
    follows-by _ _ _ _ _ _
    (λ id.
    ⊎_elim
    (λ (e : id / 64 ≡ i).
    let here : has_bit (get_or words i 0) (id % 64) ≡ is_marked words id = ap (λ (k : ℕ). has_bit (get_or words k 0) (id % 64)) (sym e) ∙ sym (mark_bit words id) in
    ap (λ (b : Bool). (nat_lt (id / 64) i && is_marked words id) || ((id / 64 == i) && b)) here
    ∙ grind (arith, nat_tests, e))
    (λ (n : id / 64 ≢ i). grind (arith, nat_tests, n))
    (cases_eq (id / 64) i))
    (follows-then _ _ _ _ _ _ _ _ p q)

-- all words
pub words-end : (words : List ℕ) (i : ℕ) (a b xs ys : List ℕ) → length words ≤ i → Follows (λ id. nat_lt (id / 64) i && is_marked words id) a b xs ys → Follows (is_marked words) a b xs ys
words-end words i a b xs ys far p =
    follows-by _ _ _ _ _ _
    (λ id.
    ⊎_elim
    (λ (l : id / 64 < length words). grind (arith, nat_tests, l, far))
    (λ (past : length words ≤ id / 64). let off = mark_past words id past in grind (arith, nat_tests, off))
    (cases_lt (id / 64) (length words)))
    p

-- what was packed from a table of names are the names
pub names-packed : {slots : ℕ} (cells : List (PageCell slots)) (level : List ℕ) (ids count : ℕ) (table : List Bool) (words : List ℕ) → ids ≡ 64 * count → IsNameTable cells level ids table → length words ≡ count
    → ((id : ℕ) → is_marked words id ≡ has_id table id) → AreNames cells level count words
names-packed cells level ids count table words all is len packed = record {
  len = len;
  each = λ id within. packed id ∙ is.each id (omega (arith, within, all));
}
