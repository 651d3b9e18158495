-- Which lines of a source are done.
use Rattle.std.proofs.Common.{◌≡◌, ℕ, ◌+◌, List, [], ◌∷◌, ◌++◌, Option, Some, None, length, take, length-append, append_assoc, refl, sym, ap, ◌∙◌, arith}
use Rattle.std.proofs.lemmas.List.{append-nil, take_at}
use Rattle.std.specs.Bool.{⊤}
use Rattle.std.specs.Io.KnownBytes.{prepend_known, Keeps}
use Rattle.script_lines.specs.Lines.{lines_of, line_feeds, whole_lines_of}
use Rattle.script_lines.specs.Reading.{TakesLine, TakesLastLine, BeginsWithLongLine, IsDone}
use Rattle.script_lines.proofs.LineLemmas.{line_feeds-append}
use Rattle.map_calls.specs.Grammar.{IsRefused}
use Rattle.map_script.specs.Following.{AreTaken, AreAll, AreRead, AreFirst, AreBefore}

-- ---- the first line of what is left

abbrev pub HasLine : Option (List ℕ) → List ℕ → Type 0
HasLine None line = ⊤
HasLine (Some bytes) line = (rest : List (List ℕ)) × (lines_of bytes ≡ line ∷ rest)

pub has-whole : (old new : Option (List ℕ)) (line : List ℕ) → TakesLine old new line → HasLine old line
has-whole None new line t = tt
has-whole (Some xs) None line t = absurd t
has-whole (Some xs) (Some ys) line t = (lines_of ys, ap lines_of t.1 ∙ t.2.first ys)

pub has-last : (old new : Option (List ℕ)) (line : List ℕ) → TakesLastLine old new line → HasLine old line
has-last None new line t = tt
has-last (Some xs) None line t = absurd t
has-last (Some xs) (Some ys) line t = ([], t.0)

-- ---- the lines that were taken

none-pending : (left : Option (List ℕ)) → prepend_known [] left ≡ left
none-pending None = refl
none-pending (Some xs) = refl

none-taken : (source : Option (List ℕ)) → AreTaken source source []
none-taken None = tt
none-taken (Some bytes) = record { taken = []; parts = refl; lines = λ rest. refl; feeds = refl }

-- at first there are none
pub taken-first : (source : Option (List ℕ)) (pending : List ℕ) → pending ≡ [] → AreTaken source (prepend_known pending source) []
taken-first source pending e = rw (e, none-pending source) (none-taken source)

-- one more
pub taken-more : (start mid new : Option (List ℕ)) (done : List (List ℕ)) (line : List ℕ) → AreTaken start mid done → TakesLine mid new line → AreTaken start new (done ++ line ∷ [])
taken-more None mid new done line f t = tt
taken-more (Some bytes) None new done line f t = absurd f
taken-more (Some bytes) (Some xs) None done line f t = absurd t
taken-more (Some bytes) (Some xs) (Some ys) done line f t =
    let piece = t.0 in
    let counted : length (done ++ line ∷ []) ≡ length done + 1 = length-append done (line ∷ []) in
    record {
      taken = f.taken ++ piece;
      parts = f.parts ∙ ap (λ (zs : List ℕ). f.taken ++ zs) t.1 ∙ sym (append_assoc f.taken piece ys);
      lines = λ rest. ap lines_of (append_assoc f.taken piece rest) ∙ f.lines (piece ++ rest) ∙ ap (λ (ls : List (List ℕ)). done ++ ls) (t.2.first rest) ∙ sym (append_assoc done (line ∷ []) (lines_of rest));
      feeds = omega (arith, line_feeds-append f.taken piece, f.feeds, t.2.one, counted);
    }

none_left : (pending left : List ℕ) → pending ++ left ≡ [] → left ≡ []
none_left [] left e = e
none_left (x ∷ xs) left e = cc

-- the last one
pub all-last : (start mid left : Option (List ℕ)) (pending : List ℕ) (done : List (List ℕ)) (line : List ℕ) → AreTaken start mid done → TakesLastLine mid (prepend_known pending left) line → AreAll start left (done ++ line ∷ [])
all-last None mid left pending done line f t = tt
all-last (Some bytes) None left pending done line f t = absurd f
all-last (Some bytes) (Some xs) None pending done line f t = absurd t
all-last (Some bytes) (Some xs) (Some ys) pending done line f t =
    (ap lines_of f.parts ∙ f.lines xs ∙ ap (λ (ls : List (List ℕ)). done ++ ls) t.0, none_left pending ys t.1)

-- no further one
pub all-end : (start mid left : Option (List ℕ)) (pending : List ℕ) (done : List (List ℕ)) → AreTaken start mid done → IsDone mid (prepend_known pending left) → AreAll start left done
all-end None mid left pending done f t = tt
all-end (Some bytes) None left pending done f t = absurd f
all-end (Some bytes) (Some xs) None pending done f t = absurd t
all-end (Some bytes) (Some xs) (Some ys) pending done f t =
    (ap lines_of f.parts ∙ f.lines xs ∙ ap (λ (zs : List ℕ). done ++ lines_of zs) t.0 ∙ append-nil done, none_left pending ys t.1)

-- the source failed, and no whole line is pending
pub read-fault : (start mid left : Option (List ℕ)) (pending : List ℕ) (done : List (List ℕ)) → AreTaken start mid done → Keeps mid (prepend_known pending left) → line_feeds pending ≡ 0 → AreRead start left done
read-fault None mid left pending done f k e = tt
read-fault (Some bytes) None left pending done f k e = absurd f
read-fault (Some bytes) (Some xs) None pending done f k e = absurd k
read-fault (Some bytes) (Some xs) (Some ys) pending done f k e =
    let parts : bytes ≡ f.taken ++ pending ++ ys = f.parts ∙ ap (λ (zs : List ℕ). f.taken ++ zs) (sym k) ∙ sym (append_assoc f.taken pending ys) in
    let feeds : line_feeds (f.taken ++ pending) ≡ length done = omega (arith, line_feeds-append f.taken pending, f.feeds, e) in
    let whole : whole_lines_of (f.taken ++ pending) ≡ done = ap (λ (ls : List (List ℕ)). take (line_feeds (f.taken ++ pending)) ls) (f.lines pending) ∙ take_at done (lines_of pending) (line_feeds (f.taken ++ pending)) (sym feeds) in
    (f.taken ++ pending, parts, whole)

-- ---- what comes after them

pub before-line : (start mid : Option (List ℕ)) (done : List (List ℕ)) (line : List ℕ) (IsNext : List ℕ → Type 0) → AreTaken start mid done → HasLine mid line → IsNext line → AreBefore start done IsNext
before-line None mid done line IsNext f l p = tt
before-line (Some bytes) None done line IsNext f l p = absurd f
before-line (Some bytes) (Some xs) done line IsNext f l p =
    (line, l.0, ap lines_of f.parts ∙ f.lines xs ∙ ap (λ (ls : List (List ℕ)). done ++ ls) l.1, p)

pub before-long : (start mid : Option (List ℕ)) (done : List (List ℕ)) (number : ℕ) → AreTaken start mid done → BeginsWithLongLine mid → AreBefore start done (IsRefused number)
before-long None mid done number f l = tt
before-long (Some bytes) None done number f l = absurd f
before-long (Some bytes) (Some xs) done number f l = before-line (Some bytes) (Some xs) done l.0 (IsRefused number) f (l.1, l.2) (λ a. absurd (omega (arith, a.within_line, l.3)))

pub first-taken : (start mid : Option (List ℕ)) (done : List (List ℕ)) → AreTaken start mid done → AreFirst start done
first-taken None mid done f = tt
first-taken (Some bytes) None done f = absurd f
first-taken (Some bytes) (Some xs) done f = (lines_of xs, ap lines_of f.parts ∙ f.lines xs)

pub first-line : (start mid : Option (List ℕ)) (done : List (List ℕ)) (line : List ℕ) → AreTaken start mid done → HasLine mid line → AreFirst start (done ++ line ∷ [])
first-line None mid done line f l = tt
first-line (Some bytes) None done line f l = absurd f
first-line (Some bytes) (Some xs) done line f l =
    (l.0, ap lines_of f.parts ∙ f.lines xs ∙ ap (λ (ls : List (List ℕ)). done ++ ls) l.1 ∙ sym (append_assoc done (line ∷ []) l.0))

pub first-all : (start left : Option (List ℕ)) (done : List (List ℕ)) → AreAll start left done → AreFirst start done
first-all None left done a = tt
first-all (Some bytes) None done a = absurd a
first-all (Some bytes) (Some ys) done a = ([], a.0 ∙ sym (append-nil done))
