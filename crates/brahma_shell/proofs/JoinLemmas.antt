-- One stretch of a run, and the next one after it.
use Rattle.std.proofs.Common.{◌≡◌, ℕ, suc, ◌+◌, List, [], ◌∷◌, ◌++◌, Option, Some, None, length, take, length-append, append_assoc, refl, sym, ap, subst, ◌∙◌, arith, add-zero, zero-add, inl}
use Rattle.std.specs.Prelude.{IfSome}
use Rattle.std.specs.Io.KnownBytes.{prepend_known}
use Rattle.std.proofs.lemmas.List.{append-nil}
use Rattle.cell_model.specs.Cells.{Cell}
use Rattle.script_lines.specs.declared.grammar.Line.{Line}
use Rattle.script_lines.specs.Grammar.{IsAccepted, IsRefused}
use Rattle.script_lines.specs.Lines.{lines_of, line_feeds, whole_lines_of}
use Rattle.script_lines.specs.Reading.{TakesLine, TakesLastLine}
use Rattle.script_lines.proofs.LineLemmas.{line_feeds-append}
use Rattle.brahma_shell.specs.Points.{Point}
use Rattle.brahma_shell.specs.Runs.{Event, Reopened, noted, after_events, ids_at, Stretch, end_point}
use Rattle.brahma_shell.specs.Follows.{LineGives, GivesEvents, IsPartOfFirst, Follows, FollowsLines, FollowsAll, FollowsUpTo, FollowsRead, FollowsPart, FollowsTo, FollowsToCrash}
use Rattle.brahma_shell.specs.Replay.{AsksCrash, HasTaken, HasFollowed}
use Rattle.brahma_shell.proofs.FollowLemmas.{after_events-append, Follows-push}
use Rattle.brahma_shell.proofs.ReplayLemmas.{HasLine}

-- the stretch, and more events after it
abbrev pub joined : Stretch → List Event → Stretch
joined s more = record { start = s.start; number = s.number; events = s.events ++ more }

-- the other stretch begins where this one ends, so many lines later
pub record IsNextOf (s t : Stretch) (n : ℕ) : Type 0 where
  pub point : after_events s.start s.events ≡ t.start
  pub place : s.number + n ≡ t.number

-- the lines, and others after them
pub Follows-append : (p : Point) (number : ℕ) (lines : List (List ℕ)) (events : List Event) (others : List (List ℕ)) (more : List Event) → Follows p number lines events → Follows (after_events p events) (number + length lines) others more → Follows p number (lines ++ others) (events ++ more)
Follows-append p number [] events others more h g =
    let here : Follows p number others more = subst (λ k. Follows p k others more) (add-zero number) (subst (λ (xs : List Event). Follows (after_events p xs) (number + 0) others more) h g) in
    subst (λ (xs : List Event). Follows p number others (xs ++ more)) (sym h) here
Follows-append p number (l ∷ ls) events others more h g =
    let point : after_events p events ≡ after_events (after_events p h.0) h.1 = ap (after_events p) h.2 ∙ after_events-append p h.0 h.1 in
    let count : number + length (l ∷ ls) ≡ number + 1 + length ls = omega arith in
    let there : Follows (after_events (after_events p h.0) h.1) (number + 1 + length ls) others more = subst (λ k. Follows (after_events (after_events p h.0) h.1) k others more) count (subst (λ (q : Point). Follows q (number + length (l ∷ ls)) others more) point g) in
    (h.0, h.1 ++ more, ap (λ (xs : List Event). xs ++ more) h.2 ∙ append_assoc h.0 h.1 more, h.3, Follows-append (after_events p h.0) (number + 1) ls h.1 others more h.4 there)

-- as many from the front as there are, and some of the others
take-more : (xs ys : List (List ℕ)) (k : ℕ) → take (length xs + k) (xs ++ ys) ≡ xs ++ take k ys
take-more [] ys k = ap (λ (i : ℕ). take i ys) (zero-add k)
take-more (x ∷ xs) ys k =
    let next : length (x ∷ xs) + k ≡ suc (length xs + k) = omega arith in
    ap (λ (i : ℕ). take i (x ∷ (xs ++ ys))) next ∙ ap (λ (zs : List (List ℕ)). x ∷ zs) (take-more xs ys k)

module _ (s t : Stretch) (n : ℕ) (next : IsNextOf s t n) where
  -- the point after some events of the other stretch
  point-joined : (events : List Event) → after_events s.start (s.events ++ events) ≡ after_events t.start events
  point-joined events = after_events-append s.start s.events events ∙ ap (λ (p : Point). after_events p events) next.point

  -- how many ids the store has there
  pub ids-joined : ids_at (end_point (joined s t.events)) ≡ ids_at (end_point t)
  ids-joined = ap ids_at (point-joined t.events)

  pub lines-joined : (ls ms : List (List ℕ)) → length ls ≡ n → FollowsLines ls s → FollowsLines ms t → FollowsLines (ls ++ ms) (joined s t.events)
  lines-joined ls ms count f g =
      let place : t.number ≡ s.number + length ls = omega (arith, next.place, count) in
      Follows-append s.start s.number ls s.events ms t.events f (subst (λ k. Follows (after_events s.start s.events) k ms t.events) place (subst (λ (p : Point). Follows p t.number ms t.events) (sym next.point) g))

  -- the lines of all that is taken, and of the rest
  lines-taken : (bytes xs : List ℕ) (h : HasTaken bytes xs n s) → lines_of bytes ≡ h.done ++ lines_of xs
  lines-taken bytes xs h = ap lines_of h.parts ∙ h.lines xs

  pub FollowsAll-joined : (start mid left : Option (List ℕ)) → HasFollowed start mid n s → FollowsAll mid left t → FollowsAll start left (joined s t.events)
  FollowsAll-joined None mid left f h = tt
  FollowsAll-joined (Some bytes) None left f h = absurd f
  FollowsAll-joined (Some bytes) (Some xs) None f h = absurd h
  FollowsAll-joined (Some bytes) (Some xs) (Some ys) f h =
      (subst (λ (ls : List (List ℕ)). FollowsLines ls (joined s t.events)) (sym (lines-taken bytes xs f)) (lines-joined f.done (lines_of xs) f.count f.follows h.0), h.1)

  pub FollowsUpTo-joined : (start mid : Option (List ℕ)) (number : ℕ) → HasFollowed start mid n s → FollowsUpTo mid number t → FollowsUpTo start number (joined s t.events)
  FollowsUpTo-joined None mid number f h = tt
  FollowsUpTo-joined (Some bytes) None number f h = absurd f
  FollowsUpTo-joined (Some bytes) (Some xs) number f h = record {
    before = f.done ++ h.before;
    line = h.line;
    behind = h.behind;
    parts = lines-taken bytes xs f ∙ ap (λ (ls : List (List ℕ)). f.done ++ ls) h.parts ∙ sym (append_assoc f.done h.before (h.line ∷ h.behind));
    place = omega (arith, h.place, next.place, f.count, length-append f.done h.before);
    refused = subst (λ i. IsRefused i number h.line) (sym ids-joined) h.refused;
    follows = lines-joined f.done h.before f.count f.follows h.follows;
  }

  pub FollowsRead-joined : (start mid left : Option (List ℕ)) → HasFollowed start mid n s → FollowsRead mid left t → FollowsRead start left (joined s t.events)
  FollowsRead-joined None mid left f h = tt
  FollowsRead-joined (Some bytes) None left f h = absurd f
  FollowsRead-joined (Some bytes) (Some xs) None f h = absurd h
  FollowsRead-joined (Some bytes) (Some xs) (Some ys) f h =
      let parts : bytes ≡ (f.taken ++ h.0) ++ ys = f.parts ∙ ap (λ (zs : List ℕ). f.taken ++ zs) h.1 ∙ sym (append_assoc f.taken h.0 ys) in
      let feeds : line_feeds (f.taken ++ h.0) ≡ length f.done + line_feeds h.0 = omega (arith, line_feeds-append f.taken h.0, f.feeds, f.count) in
      let whole : whole_lines_of (f.taken ++ h.0) ≡ f.done ++ whole_lines_of h.0 =
      ap (λ (ls : List (List ℕ)). take (line_feeds (f.taken ++ h.0)) ls) (f.lines h.0)
      ∙ ap (λ (k : ℕ). take k (f.done ++ lines_of h.0)) feeds
      ∙ take-more f.done (lines_of h.0) (line_feeds h.0) in
      (f.taken ++ h.0, parts, subst (λ (ls : List (List ℕ)). FollowsLines ls (joined s t.events)) (sym whole) (lines-joined f.done (whole_lines_of h.0) f.count f.follows h.2))

  pub FollowsPart-joined : (start mid : Option (List ℕ)) → HasFollowed start mid n s → FollowsPart mid t → FollowsPart start (joined s t.events)
  FollowsPart-joined None mid f h = tt
  FollowsPart-joined (Some bytes) None f h = absurd f
  FollowsPart-joined (Some bytes) (Some xs) f h =
      let place : t.number + length h.before ≡ s.number + length (f.done ++ h.before) = omega (arith, next.place, f.count, length-append f.done h.before) in
      let here : t.number ≡ s.number + length f.done = omega (arith, next.place, f.count) in
      let follows : Follows (after_events s.start s.events) (s.number + length f.done) h.before h.done =
      subst (λ k. Follows (after_events s.start s.events) k h.before h.done) here (subst (λ (p : Point). Follows p t.number h.before h.done) (sym next.point) h.follows) in
      record {
        before = f.done ++ h.before;
        behind = h.behind;
        parts = lines-taken bytes xs f ∙ ap (λ (ls : List (List ℕ)). f.done ++ ls) h.parts ∙ sym (append_assoc f.done h.before h.behind);
        done = s.events ++ h.done;
        part = h.part;
        events = ap (λ (es : List Event). s.events ++ es) h.events ∙ sym (append_assoc s.events h.done (noted h.part));
        follows = Follows-append s.start s.number f.done s.events h.before h.done f.follows follows;
        next = subst (λ i. IsPartOfFirst i (s.number + length (f.done ++ h.before)) h.behind h.part) (sym (ap ids_at (point-joined h.done))) (subst (λ k. IsPartOfFirst (ids_at (after_events t.start h.done)) k h.behind h.part) place h.next);
      }

  pub FollowsTo-joined : (start mid : Option (List ℕ)) (asked : Line) → HasFollowed start mid n s → FollowsTo mid asked t → FollowsTo start asked (joined s t.events)
  FollowsTo-joined None mid asked f h = tt
  FollowsTo-joined (Some bytes) None asked f h = absurd f
  FollowsTo-joined (Some bytes) (Some xs) asked f h =
      let place : t.number + length h.before ≡ s.number + length (f.done ++ h.before) = omega (arith, next.place, f.count, length-append f.done h.before) in
      record {
        before = f.done ++ h.before;
        line = h.line;
        behind = h.behind;
        parts = lines-taken bytes xs f ∙ ap (λ (ls : List (List ℕ)). f.done ++ ls) h.parts ∙ sym (append_assoc f.done h.before (h.line ∷ h.behind));
        accepted = subst (λ i. IsAccepted i (s.number + length (f.done ++ h.before)) h.line) (sym ids-joined) (subst (λ k. IsAccepted (ids_at (end_point t)) k h.line) place h.accepted);
        asks = h.asks;
        follows = lines-joined f.done h.before f.count f.follows h.follows;
      }

  pub HasFollowed-joined : (start mid left : Option (List ℕ)) (m : ℕ) → HasFollowed start mid n s → HasFollowed mid left m t → HasFollowed start left (n + m) (joined s t.events)
  HasFollowed-joined None mid left m f h = tt
  HasFollowed-joined (Some bytes) None left m f h = absurd f
  HasFollowed-joined (Some bytes) (Some xs) None m f h = absurd h
  HasFollowed-joined (Some bytes) (Some xs) (Some ys) m f h = record {
    taken = f.taken ++ h.taken;
    done = f.done ++ h.done;
    parts = f.parts ∙ ap (λ (zs : List ℕ). f.taken ++ zs) h.parts ∙ sym (append_assoc f.taken h.taken ys);
    lines = λ rest. ap lines_of (append_assoc f.taken h.taken rest) ∙ f.lines (h.taken ++ rest) ∙ ap (λ (ls : List (List ℕ)). f.done ++ ls) (h.lines rest) ∙ sym (append_assoc f.done h.done (lines_of rest));
    feeds = omega (arith, line_feeds-append f.taken h.taken, f.feeds, h.feeds);
    count = omega (arith, length-append f.done h.done, f.count, h.count);
    follows = lines-joined f.done h.done f.count f.follows h.follows;
  }

-- ---- a line at which power is lost

-- it gives that the store is opened again
gives-crash : (p : Point) (number pick ids : ℕ) (cells : List Cell) (line : List ℕ) → AsksCrash (ids_at p) number line pick → LineGives p number line (Reopened ids cells ∷ [])
gives-crash p number pick ids cells line asks =
    (asks.0, subst (λ (o : Option Line). IfSome o (λ l. GivesEvents p l (Reopened ids cells ∷ []))) (sym asks.1) (ids, cells, refl))

module _ (s : Stretch) (n pick : ℕ) (line : List ℕ) (asks : AsksCrash (ids_at (end_point s)) (s.number + n) line pick) where
  -- the lines, and this one after them
  lines-crashed : (ids : ℕ) (cells : List Cell) (ls : List (List ℕ)) → length ls ≡ n → FollowsLines ls s → FollowsLines (ls ++ line ∷ []) (joined s (Reopened ids cells ∷ []))
  lines-crashed ids cells ls count f =
      Follows-push s.start s.number ls s.events line (Reopened ids cells ∷ []) f (gives-crash (after_events s.start s.events) (s.number + length ls) pick ids cells line (subst (λ k. AsksCrash (ids_at (end_point s)) (s.number + k) line pick) (sym count) asks))

  pub HasFollowed-crashed : (start mid left : Option (List ℕ)) (ids : ℕ) (cells : List Cell) → HasFollowed start mid n s → TakesLine mid left line → HasFollowed start left (n + 1) (joined s (Reopened ids cells ∷ []))
  HasFollowed-crashed None mid left ids cells f t = tt
  HasFollowed-crashed (Some bytes) None left ids cells f t = absurd f
  HasFollowed-crashed (Some bytes) (Some xs) None ids cells f t = absurd t
  HasFollowed-crashed (Some bytes) (Some xs) (Some ys) ids cells f t = record {
    taken = f.taken ++ t.0;
    done = f.done ++ line ∷ [];
    parts = f.parts ∙ ap (λ (zs : List ℕ). f.taken ++ zs) t.1 ∙ sym (append_assoc f.taken t.0 ys);
    lines = λ rest. ap lines_of (append_assoc f.taken t.0 rest) ∙ f.lines (t.0 ++ rest) ∙ ap (λ (ls : List (List ℕ)). f.done ++ ls) (t.2.first rest) ∙ sym (append_assoc f.done (line ∷ []) (lines_of rest));
    feeds = omega (arith, line_feeds-append f.taken t.0, f.feeds, t.2.one);
    count = omega (arith, length-append f.done (line ∷ []), f.count);
    follows = lines-crashed ids cells f.done f.count f.follows;
  }

  none_left : (pending left : List ℕ) → pending ++ left ≡ [] → left ≡ []
  none_left [] left e = e
  none_left (x ∷ xs) left e = cc

  pub FollowsAll-crashed : (start mid left : Option (List ℕ)) (pending : List ℕ) (ids : ℕ) (cells : List Cell) → HasFollowed start mid n s → TakesLastLine mid (prepend_known pending left) line → FollowsAll start left (joined s (Reopened ids cells ∷ []))
  FollowsAll-crashed None mid left pending ids cells f t = tt
  FollowsAll-crashed (Some bytes) None left pending ids cells f t = absurd f
  FollowsAll-crashed (Some bytes) (Some xs) None pending ids cells f t = absurd t
  FollowsAll-crashed (Some bytes) (Some xs) (Some ys) pending ids cells f t =
      let lines : lines_of bytes ≡ f.done ++ line ∷ [] = ap lines_of f.parts ∙ f.lines xs ∙ ap (λ (ls : List (List ℕ)). f.done ++ ls) t.0 in
      (subst (λ (ls : List (List ℕ)). FollowsLines ls (joined s (Reopened ids cells ∷ []))) (sym lines) (lines-crashed ids cells f.done f.count f.follows), none_left pending ys t.1)

  pub FollowsToCrash-here : (start mid : Option (List ℕ)) → HasFollowed start mid n s → HasLine mid line → FollowsToCrash start s
  FollowsToCrash-here None mid f l = (pick, tt)
  FollowsToCrash-here (Some bytes) None f l = absurd f
  FollowsToCrash-here (Some bytes) (Some xs) f l = (
    pick,
    record {
      before = f.done;
      line = line;
      behind = l.0;
      parts = ap lines_of f.parts ∙ f.lines xs ∙ ap (λ (ls : List (List ℕ)). f.done ++ ls) l.1;
      accepted = subst (λ k. IsAccepted (ids_at (end_point s)) (s.number + k) line) (sym f.count) asks.0;
      asks = asks.1;
      follows = f.follows;
    },
  )

-- ---- all that is taken

-- nothing more is asked of the lines that are left
no_part : (ids number : ℕ) (lines : List (List ℕ)) → IsPartOfFirst ids number lines []
no_part ids number [] = refl
no_part ids number (l ∷ ls) = inl refl

pub FollowsPart-done : (start left : Option (List ℕ)) (n : ℕ) (s : Stretch) → HasFollowed start left n s → FollowsPart start s
FollowsPart-done None left n s f = tt
FollowsPart-done (Some bytes) None n s f = absurd f
FollowsPart-done (Some bytes) (Some xs) n s f = record {
  before = f.done;
  behind = lines_of xs;
  parts = ap lines_of f.parts ∙ f.lines xs;
  done = s.events;
  part = [];
  events = sym (append-nil s.events);
  follows = f.follows;
  next = no_part (ids_at (end_point s)) (s.number + length f.done) (lines_of xs);
}
