-- Bytes that join a buffer after those that are there.
use Rattle.std.proofs.lemmas.Bool.{cases_lt}
use Rattle.std.proofs.Common.{⊎_elim, ◌==◌, ◌≡◌, ℕ, ◌+◌, ◌-◌, ◌<◌, ◌≤◌, ◌⊎◌, List, [], ◌∷◌, ◌++◌, Option, Some, None, take, drop, length, append_assoc, sym, ap, ◌∙◌, arith, slice_index}
use Rattle.std.proofs.lemmas.List.{get_or_past, append-nil, nil_from_length, drop_more, take-append-drop, take-take, drop-take, drop-drop, get_or-drop, get_or-take, length-take}
use Rattle.std.specs.List.{position}
use Rattle.std.specs.Io.KnownBytes.{prepend_known, Keeps, Consumes, IsAtEnd}
use Rattle.script_lines.specs.Lines.{lines_of, line_feed, line_feeds}
use Rattle.script_lines.specs.Grammar.{max_line}
use Rattle.script_lines.specs.declared.lines.Found.{Found}
use Rattle.script_lines.specs.declared.lines.Found.TheVariants.{LastLine, End}
use Rattle.script_lines.specs.Reading.{Finds, TakesLine, TakesLastLine, BeginsWithLongLine, IsDone, without_return}
use Rattle.script_lines.proofs.LineLemmas.{line_feeds-append, no_place, at_place, whole_line, lines_of-whole, lines_of-long}

-- what was read joins what was there
pub Keeps-read : (start old new : Option (List ℕ)) (pending bytes : List ℕ) → Keeps start (prepend_known pending old) → Consumes old new bytes → Keeps start (prepend_known (pending ++ bytes) new)
Keeps-read None old new pending bytes k c = tt
Keeps-read (Some xs) None new pending bytes k c = absurd k
Keeps-read (Some xs) (Some ys) None pending bytes k c = absurd c
Keeps-read (Some xs) (Some ys) (Some zs) pending bytes k c = append_assoc pending bytes zs ∙ ap (λ (l : List ℕ). pending ++ l) (sym c) ∙ k

pub Keeps-trans : (a b c : Option (List ℕ)) → Keeps a b → Keeps b c → Keeps a c
Keeps-trans None b c p q = tt
Keeps-trans (Some xs) None c p q = absurd p
Keeps-trans (Some xs) (Some ys) None p q = absurd q
Keeps-trans (Some xs) (Some ys) (Some zs) p q = q ∙ p

-- the first bytes stay, and others stand after them
pub grown : (old new : List ℕ) (s n : ℕ) → take s new ≡ take s old → take (s + n) new ≡ take s old ++ take n (drop s new)
grown old new s n kept =
    let front : take s (take (s + n) new) ≡ take s old = take-take s (s + n) new (omega arith) ∙ kept in
    let behind : drop s (take (s + n) new) ≡ take n (drop s new) = drop-take s n new in
    sym (take-append-drop s (take (s + n) new)) ∙ ap (λ (l : List ℕ). l ++ drop s (take (s + n) new)) front ∙ ap (λ (l : List ℕ). take s old ++ l) behind

-- there is no line feed after them
pub none_behind : (old new piece : List ℕ) (s n : ℕ) → take s new ≡ take s old → line_feeds (take s old) ≡ 0 → piece ≡ take n (drop s new) → None ≡ position (λ b. b == line_feed) piece → line_feeds (take (s + n) new) ≡ 0
none_behind old new piece s n kept none e r =
    let rest : line_feeds (take n (drop s new)) ≡ 0 = rw e at (no_place piece r) in
    rw (grown old new s n kept) (omega (arith, line_feeds-append (take s old) (take n (drop s new)), none, rest))

-- the first line feed stands after them
pub one_behind : (old new piece : List ℕ) (s n i : ℕ) → take s new ≡ take s old → line_feeds (take s old) ≡ 0 → piece ≡ take n (drop s new) → Some i ≡ position (λ b. b == line_feed) piece → (i < n) × (line_feeds (take (s + i) new) ≡ 0) × (slice_index new (s + i) ≡ line_feed)
one_behind old new piece s n i kept none e r =
    let p : (i < length (take n (drop s new))) × (line_feeds (take i (take n (drop s new))) ≡ 0) × (slice_index (take n (drop s new)) i ≡ line_feed) = rw e at (at_place piece i r) in
    let within : i < n = omega (arith, p.0, length-take n (drop s new)) in
    let front : line_feeds (take i (drop s new)) ≡ 0 = rw (take-take i n (drop s new) (omega arith)) at p.1 in
    let there : slice_index new (s + i) ≡ line_feed = sym (get_or-drop s new i 0) ∙ sym (get_or-take n (drop s new) i 0 within) ∙ p.2 in
    (within, rw (grown old new s i kept) (omega (arith, line_feeds-append (take s old) (take i (drop s new)), none, front)), there)

-- a range of a list, without its first elements
pub range-drop : (xs : List ℕ) (start end n : ℕ) → start + n ≤ end → take (end - (start + n)) (drop (start + n) xs) ≡ drop n (take (end - start) (drop start xs))
range-drop xs start end n l =
    let e : end - start ≡ n + (end - (start + n)) = omega arith in
    sym (ap (λ (k : ℕ). drop n (take k (drop start xs))) e ∙ drop-take n (end - (start + n)) (drop start xs) ∙ ap (λ (ys : List ℕ). take (end - (start + n)) ys) (drop-drop n start xs))

-- ---- what a reader finds

pub TakesLine-keeps : (start old new : Option (List ℕ)) (line : List ℕ) → Keeps start old → TakesLine old new line → TakesLine start new line
TakesLine-keeps None old new line k t = tt
TakesLine-keeps (Some xs) None new line k t = absurd k
TakesLine-keeps (Some xs) (Some ys) None line k t = absurd t
TakesLine-keeps (Some xs) (Some ys) (Some zs) line k t = (t.0, sym k ∙ t.1, t.2)

-- up to the first line feed of what is pending
pub TakesLine-cut : (left : Option (List ℕ)) (pending : List ℕ) (i : ℕ) → i < length pending → line_feeds (take i pending) ≡ 0 → slice_index pending i ≡ line_feed → TakesLine (prepend_known pending left) (prepend_known (drop (i + 1) pending) left) (without_return (take i pending))
TakesLine-cut None pending i l none e = tt
TakesLine-cut (Some ys) pending i l none e =
    let parts : pending ≡ take i pending ++ line_feed ∷ drop (i + 1) pending = sym (take-append-drop i pending) ∙ ap (λ (zs : List ℕ). take i pending ++ zs) (drop_more pending i 0 l ∙ ap (λ (b : ℕ). b ∷ drop (i + 1) pending) e) in
    (take i pending ++ line_feed ∷ [], ap (λ (zs : List ℕ). zs ++ ys) parts ∙ append_assoc (take i pending) (line_feed ∷ drop (i + 1) pending) ys ∙ sym (append_assoc (take i pending) (line_feed ∷ []) (drop (i + 1) pending ++ ys)), whole_line (take i pending) none)

-- all that is pending, where the source is at its end
pub TakesLastLine-all : (old new : Option (List ℕ)) (pending : List ℕ) → 0 < length pending → line_feeds pending ≡ 0 → Keeps old (prepend_known pending new) → IsAtEnd new → TakesLastLine old (prepend_known [] new) pending
TakesLastLine-all None new pending l none k e = tt
TakesLastLine-all (Some xs) None pending l none k e = absurd k
TakesLastLine-all (Some xs) (Some ys) pending l none k e =
    (ap lines_of (sym k ∙ ap (λ (zs : List ℕ). pending ++ zs) e ∙ append-nil pending) ∙ lines_of-whole pending l none, e)

-- nothing is pending, and the source is at its end
pub IsDone-all : (old new : Option (List ℕ)) (pending : List ℕ) → length pending ≡ 0 → Keeps old (prepend_known pending new) → IsAtEnd new → IsDone old (prepend_known [] new)
IsDone-all None new pending l k e = tt
IsDone-all (Some xs) None pending l k e = absurd k
IsDone-all (Some xs) (Some ys) pending l k e =
    (sym k ∙ ap (λ (zs : List ℕ). zs ++ ys) (nil_from_length pending l) ∙ e, e)

-- all that is pending, or nothing
pub Finds-all : (found : Found) (old new : Option (List ℕ)) (pending line rest : List ℕ) → (found ≡ LastLine → line ≡ pending) → (found ≡ LastLine) × (0 < length pending) ⊎ (found ≡ End) × (length pending ≡ 0) → rest ≡ [] → line_feeds pending ≡ 0 → Keeps old (prepend_known pending new) → IsAtEnd new → Finds found old (prepend_known rest new) line
Finds-all found old new pending line rest same one none feeds k e =
    ⊎_elim
    (λ h. rw (h.0, none, same h.0) (TakesLastLine-all old new pending h.1 feeds k e))
    (λ h. rw (h.0, none) (IsDone-all old new pending h.1 k e))
    one

pub BeginsWithLongLine-full : (old new : Option (List ℕ)) (pending : List ℕ) → max_line + 2 < length pending → line_feeds pending ≡ 0 → Keeps old (prepend_known pending new) → BeginsWithLongLine old
BeginsWithLongLine-full None new pending l none k = tt
BeginsWithLongLine-full (Some xs) None pending l none k = absurd k
BeginsWithLongLine-full (Some xs) (Some ys) pending l none k =
    let h = lines_of-long pending ys (omega arith) none in
    (h.0, h.1, ap lines_of (sym k) ∙ h.2, omega (arith, h.3))

-- the first bytes of a buffer have a line feed
pub TakesLine-behind : (start left : Option (List ℕ)) (buffer pending : List ℕ) (end at : ℕ) → Keeps start (prepend_known (take end buffer) left) → pending ≡ take end buffer → (at < end) × (line_feeds (take at buffer) ≡ 0) × (slice_index buffer at ≡ line_feed) → TakesLine start (prepend_known (drop (at + 1) pending) left) (without_return (take at pending))
TakesLine-behind start left buffer pending end at k e h =
    let there : at < length buffer = ⊎_elim (λ l. l) (λ l. absurd (cc (get_or_past buffer at 0 l, h.2))) (cases_lt at (length buffer)) in
    let within : at < length (take end buffer) = omega (arith, length-take end buffer, h.0) in
    let front : line_feeds (take at (take end buffer)) ≡ 0 = rw (take-take at end buffer (omega (arith, h.0))) h.1 in
    let place : slice_index (take end buffer) at ≡ line_feed = get_or-take end buffer at 0 h.0 ∙ h.2 in
    rw e (TakesLine-keeps start _ _ _ k (TakesLine-cut left (take end buffer) at within front place))
