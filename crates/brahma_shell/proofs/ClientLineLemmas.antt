-- How the script of a run of clients is read.
use Rattle.std.proofs.Common.{◌≡◌, ℕ, ◌+◌, List, [], ◌∷◌, ◌++◌, Option, Some, None, length, take, length-append, append_assoc, add-zero, refl, sym, ap, subst, ◌∙◌, arith}
use Rattle.std.proofs.lemmas.List.{append-nil, take_at}
use Rattle.std.specs.Io.KnownBytes.{prepend_known, Keeps}
use Rattle.client_pass.specs.declared.script.ClientScript.{ClientScript}
use Rattle.script_lines.specs.declared.grammar.Line.{Line}
use Rattle.script_lines.specs.Lines.{lines_of, line_feeds, whole_lines_of}
use Rattle.script_lines.specs.Grammar.{meaning_of}
use Rattle.script_lines.specs.Reading.{IsWholeLine, TakesLine, TakesLastLine, BeginsWithLongLine, IsDone}
use Rattle.script_lines.proofs.LineLemmas.{line_feeds-append}
use Rattle.brahma_shell.specs.ClientScripts.{AreOfLines}
use Rattle.brahma_shell.specs.declared.replay.Stop.{Stop}
use Rattle.brahma_shell.specs.declared.replay.Stop.TheVariants as stop
use Rattle.brahma_shell.specs.ClientLines.{MayComeNext, AreOfClientsFrom, AreOfClients, ReadsAll, ReadsSome, Refuses, HasOnlyClients, HasTakenLines, TakesLines, StopsTaking, StopsReading}
use Rattle.brahma_shell.proofs.ReplayLemmas.{HasLine}

-- ---- one line more

-- the lines, and one after them
of_clients-push : (ids number : ℕ) (before : List Line) (lines : List (List ℕ)) (asked : List Line) (bytes : List ℕ) (next : Line) → AreOfClientsFrom ids number before lines asked → MayComeNext ids (number + length lines) bytes (before ++ asked) next → AreOfClientsFrom ids number before (lines ++ bytes ∷ []) (asked ++ next ∷ [])
of_clients-push ids number before [] asked bytes next h m =
    let behind : before ++ asked ≡ before = ap (λ (xs : List Line). before ++ xs) h ∙ append-nil before in
    let here : MayComeNext ids number bytes before next = subst (λ k. MayComeNext ids k bytes before next) (add-zero number) (subst (λ (xs : List Line). MayComeNext ids (number + 0) bytes xs next) behind m) in
    (next, [], ap (λ (xs : List Line). xs ++ next ∷ []) h, here, refl)
of_clients-push ids number before (l ∷ ls) asked bytes next h m =
    let count : number + length (l ∷ ls) ≡ number + 1 + length ls = omega arith in
    let behind : before ++ asked ≡ (before ++ h.0 ∷ []) ++ h.1 = ap (λ (xs : List Line). before ++ xs) h.2 ∙ sym (append_assoc before (h.0 ∷ []) h.1) in
    let there : MayComeNext ids (number + 1 + length ls) bytes ((before ++ h.0 ∷ []) ++ h.1) next = subst (λ k. MayComeNext ids k bytes ((before ++ h.0 ∷ []) ++ h.1) next) count (subst (λ (xs : List Line). MayComeNext ids (number + length (l ∷ ls)) bytes xs next) behind m) in
    (h.0, h.1 ++ next ∷ [], ap (λ (xs : List Line). xs ++ next ∷ []) h.2, h.3, of_clients-push ids (number + 1) (before ++ h.0 ∷ []) ls h.1 bytes next h.4 there)

-- the lines so far, and one after them
of_clients-next : (ids : ℕ) (lines : List (List ℕ)) (asked : List Line) (bytes : List ℕ) (next : Line) (n number : ℕ) → length lines ≡ n → number ≡ n + 1 → AreOfClients ids lines asked → MayComeNext ids number bytes asked next → AreOfClients ids (lines ++ bytes ∷ []) (asked ++ next ∷ [])
of_clients-next ids lines asked bytes next n number count place h m =
    let here : number ≡ 1 + length lines = omega (arith, count, place) in
    of_clients-push ids 1 [] lines asked bytes next h (subst (λ k. MayComeNext ids k bytes asked next) here m)

module _ (ids : ℕ) where
  taken-more : (bytes mid new piece line : List ℕ) (n number : ℕ) (asked : List Line) (next : Line) → number ≡ n + 1 → HasTakenLines ids bytes mid n asked → mid ≡ piece ++ new → IsWholeLine piece line → MayComeNext ids number line asked next → HasTakenLines ids bytes new (n + 1) (asked ++ next ∷ [])
  taken-more bytes mid new piece line n number asked next place t e w m = record {
    taken = t.taken ++ piece;
    done = t.done ++ line ∷ [];
    parts = t.parts ∙ ap (λ (xs : List ℕ). t.taken ++ xs) e ∙ sym (append_assoc t.taken piece new);
    lines = λ rest. ap lines_of (append_assoc t.taken piece rest) ∙ t.lines (piece ++ rest) ∙ ap (λ (ls : List (List ℕ)). t.done ++ ls) (w.first rest) ∙ sym (append_assoc t.done (line ∷ []) (lines_of rest));
    feeds = omega (arith, line_feeds-append t.taken piece, t.feeds, w.one);
    count = length-append t.done (line ∷ []) ∙ ap (λ (l : ℕ). l + 1) t.count;
    of_clients = of_clients-next ids t.done asked line next n number t.count place t.of_clients m;
  }

  pub takes-more : (start mid new : Option (List ℕ)) (line : List ℕ) (n number : ℕ) (asked : List Line) (next : Line) → number ≡ n + 1 → TakesLines ids start mid n asked → TakesLine mid new line → MayComeNext ids number line asked next → TakesLines ids start new (n + 1) (asked ++ next ∷ [])
  takes-more None mid new line n number asked next place t w m = tt
  takes-more (Some bytes) None new line n number asked next place t w m = absurd t
  takes-more (Some bytes) (Some xs) None line n number asked next place t w m = absurd w
  takes-more (Some bytes) (Some xs) (Some ys) line n number asked next place t w m = taken-more bytes xs ys w.0 line n number asked next place t w.1 w.2 m

  -- nothing is taken yet
  pub takes-none : (start : Option (List ℕ)) → TakesLines ids start start 0 []
  takes-none None = tt
  takes-none (Some bytes) = record { taken = []; done = []; parts = refl; lines = λ rest. refl; feeds = refl; count = refl; of_clients = refl }

  -- ---- the end

  -- nothing is left where nothing is left after what is pending
  none_left : (pending left : List ℕ) → pending ++ left ≡ [] → left ≡ []
  none_left [] left e = e
  none_left (x ∷ xs) left e = cc

  pub all-last : (start mid left : Option (List ℕ)) (pending line : List ℕ) (n number : ℕ) (asked : List Line) (next : Line) → number ≡ n + 1 → TakesLines ids start mid n asked → TakesLastLine mid (prepend_known pending left) line → MayComeNext ids number line asked next → ReadsAll ids start left (asked ++ next ∷ [])
  all-last None mid left pending line n number asked next place t w m = tt
  all-last (Some bytes) None left pending line n number asked next place t w m = absurd t
  all-last (Some bytes) (Some xs) None pending line n number asked next place t w m = absurd w
  all-last (Some bytes) (Some xs) (Some ys) pending line n number asked next place t w m =
      let lines : lines_of bytes ≡ t.done ++ line ∷ [] = ap lines_of t.parts ∙ t.lines xs ∙ ap (λ (ls : List (List ℕ)). t.done ++ ls) w.0 in
      (subst (λ (ls : List (List ℕ)). AreOfClients ids ls (asked ++ next ∷ [])) (sym lines) (of_clients-next ids t.done asked line next n number t.count place t.of_clients m), none_left pending ys w.1)

  pub all-end : (start mid left : Option (List ℕ)) (pending : List ℕ) (n : ℕ) (asked : List Line) → TakesLines ids start mid n asked → IsDone mid (prepend_known pending left) → ReadsAll ids start left asked
  all-end None mid left pending n asked t w = tt
  all-end (Some bytes) None left pending n asked t w = absurd t
  all-end (Some bytes) (Some xs) None pending n asked t w = absurd w
  all-end (Some bytes) (Some xs) (Some ys) pending n asked t w =
      let lines : lines_of bytes ≡ t.done = ap lines_of t.parts ∙ t.lines xs ∙ ap (λ (zs : List ℕ). t.done ++ lines_of zs) w.0 ∙ append-nil t.done in
      (subst (λ (ls : List (List ℕ)). AreOfClients ids ls asked) (sym lines) t.of_clients, none_left pending ys w.1)

  -- the first line that is left is refused
  pub refuses-line : (start mid : Option (List ℕ)) (line : List ℕ) (n number : ℕ) (asked : List Line) → number ≡ n + 1 → TakesLines ids start mid n asked → HasLine mid line → ((next : Line) → MayComeNext ids number line asked next → ⊥) → Refuses ids start number
  refuses-line None mid line n number asked place t l r = tt
  refuses-line (Some bytes) None line n number asked place t l r = absurd t
  refuses-line (Some bytes) (Some xs) line n number asked place t l r = record {
    before = t.done;
    line = line;
    behind = l.0;
    parts = ap lines_of t.parts ∙ t.lines xs ∙ ap (λ (ls : List (List ℕ)). t.done ++ ls) l.1;
    place = omega (arith, place, t.count);
    asked = asked;
    taken = t.of_clients;
    refused = r;
  }

  pub refuses-long : (start mid : Option (List ℕ)) (n number : ℕ) (asked : List Line) → number ≡ n + 1 → TakesLines ids start mid n asked → BeginsWithLongLine mid → Refuses ids start number
  refuses-long None mid n number asked place t l = tt
  refuses-long (Some bytes) None n number asked place t l = absurd t
  refuses-long (Some bytes) (Some xs) n number asked place t l = refuses-line (Some bytes) (Some xs) l.0 n number asked place t (l.1, l.2) (λ next m. absurd (omega (arith, m.accepted.within_line, l.3)))

  -- the source failed, and no whole line is pending
  pub some-fault : (start mid left : Option (List ℕ)) (pending : List ℕ) (n : ℕ) (asked : List Line) → TakesLines ids start mid n asked → Keeps mid (prepend_known pending left) → line_feeds pending ≡ 0 → ReadsSome ids start left asked
  some-fault None mid left pending n asked t k e = tt
  some-fault (Some bytes) None left pending n asked t k e = absurd t
  some-fault (Some bytes) (Some xs) None pending n asked t k e = absurd k
  some-fault (Some bytes) (Some xs) (Some ys) pending n asked t k e =
      let parts : bytes ≡ t.taken ++ pending ++ ys = t.parts ∙ ap (λ (zs : List ℕ). t.taken ++ zs) (sym k) ∙ sym (append_assoc t.taken pending ys) in
      let feeds : line_feeds (t.taken ++ pending) ≡ length t.done = omega (arith, line_feeds-append t.taken pending, t.feeds, e, t.count) in
      let whole : whole_lines_of (t.taken ++ pending) ≡ t.done = ap (λ (ls : List (List ℕ)). take (line_feeds (t.taken ++ pending)) ls) (t.lines pending) ∙ take_at t.done (lines_of pending) (line_feeds (t.taken ++ pending)) (sym feeds) in
      (t.taken ++ pending, parts, subst (λ (ls : List (List ℕ)). AreOfClients ids ls asked) (sym whole) t.of_clients)

  -- a line isn't taken
  pub stops-reading : (s : Stop) (start mid left : Option (List ℕ)) (line : List ℕ) (n number : ℕ) (asked : List Line) (scripts : List ClientScript) → number ≡ n + 1 → TakesLines ids start mid n asked → HasLine mid line → AreOfLines asked scripts → StopsTaking s ids number line scripts → StopsReading s ids start left
  stops-reading (stop.Line k) start mid left line n number asked scripts place t l of h = subst (Refuses ids start) (sym h.0) (refuses-line start mid line n number asked place t l (h.1 asked of))
  stops-reading stop.Read start mid left line n number asked scripts place t l of h = absurd h
  stops-reading stop.Write start mid left line n number asked scripts place t l of h = absurd h
  stops-reading stop.Memory start mid left line n number asked scripts place t l of h = tt
  stops-reading stop.Full start mid left line n number asked scripts place t l of h = absurd h
  stops-reading stop.LogFull start mid left line n number asked scripts place t l of h = absurd h
  stops-reading stop.Fault start mid left line n number asked scripts place t l of h = absurd h
  stops-reading stop.UpkeepFault start mid left line n number asked scripts place t l of h = absurd h
  stops-reading stop.Stopped start mid left line n number asked scripts place t l of h = absurd h

-- no line that isn't taken stops the reading as a failed read
pub never-read : (s : Stop) (ids number : ℕ) (line : List ℕ) (scripts : List ClientScript) → StopsTaking s ids number line scripts → s ≡ stop.Read → ⊥
never-read s ids number line scripts h e = subst (λ (t : Stop). StopsTaking t ids number line scripts) e h

-- ---- a script of clients has no line that is refused

same-asked : (o : Option Line) (a b : Line) → o ≡ Some a → o ≡ Some b → a ≡ b
same-asked None a b e f = absurd (cc (e))
same-asked (Some line) a b e f = cc (e, f)

-- lines ask one thing
one-reading : (ids number : ℕ) (before : List Line) (lines : List (List ℕ)) (a b : List Line) → AreOfClientsFrom ids number before lines a → AreOfClientsFrom ids number before lines b → a ≡ b
one-reading ids number before [] a b x y = x ∙ sym y
one-reading ids number before (l ∷ ls) a b x y =
    let same : y.0 ≡ x.0 = same-asked (meaning_of l) y.0 x.0 y.3.asks x.3.asks in
    let rest = one-reading ids (number + 1) (before ++ x.0 ∷ []) ls x.1 y.1 x.4 (subst (λ (n : Line). AreOfClientsFrom ids (number + 1) (before ++ n ∷ []) ls y.1) same y.4) in
    x.2 ∙ ap (λ (n : Line). n ∷ x.1) (sym same) ∙ ap (λ (xs : List Line). y.0 ∷ xs) rest ∙ sym y.2

-- what the lines before one ask, and what that one asks
record Parts (ids number : ℕ) (before : List Line) (lines : List (List ℕ)) (bytes : List ℕ) : Type 0 where
  asked : List Line
  next : Line
  taken : AreOfClientsFrom ids number before lines asked
  may : MayComeNext ids (number + length lines) bytes (before ++ asked) next

split : (ids number : ℕ) (before : List Line) (lines behind : List (List ℕ)) (bytes : List ℕ) (all : List Line) → AreOfClientsFrom ids number before (lines ++ bytes ∷ behind) all → Parts ids number before lines bytes
split ids number before [] behind bytes all h = record {
  asked = [];
  next = h.0;
  taken = refl;
  may = subst (λ k. MayComeNext ids k bytes (before ++ []) h.0) (sym (add-zero number)) (subst (λ (xs : List Line). MayComeNext ids number bytes xs h.0) (sym (append-nil before)) h.3);
}
split ids number before (l ∷ ls) behind bytes all h =
    let p = split ids (number + 1) (before ++ h.0 ∷ []) ls behind bytes h.1 h.4 in
    let count : number + 1 + length ls ≡ number + length (l ∷ ls) = omega arith in
    record {
      asked = h.0 ∷ p.asked;
      next = p.next;
      taken = (h.0, p.asked, refl, h.3, p.taken);
      may = subst (λ k. MayComeNext ids k bytes (before ++ h.0 ∷ p.asked) p.next) count (subst (λ (xs : List Line). MayComeNext ids (number + 1 + length ls) bytes xs p.next) (append_assoc before (h.0 ∷ []) p.asked) p.may);
    }

pub none-refused : (ids : ℕ) (left : Option (List ℕ)) (number : ℕ) → HasOnlyClients ids left → Refuses ids left number → ⊥
none-refused ids None number only r = only
none-refused ids (Some bytes) number only r =
    let p = split ids 1 [] r.before r.behind r.line only.0 (subst (λ (ls : List (List ℕ)). AreOfClients ids ls only.0) r.parts only.1) in
    let same = one-reading ids 1 [] r.before p.asked r.asked p.taken r.taken in
    let place : 1 + length r.before ≡ number = omega (arith, r.place) in
    r.refused p.next (subst (λ k. MayComeNext ids k r.line r.asked p.next) place (subst (λ (xs : List Line). MayComeNext ids (1 + length r.before) r.line xs p.next) same p.may))
