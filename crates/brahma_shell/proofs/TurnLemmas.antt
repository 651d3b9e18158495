-- A journal grows by the lines of one turn after another.
use Rattle.std.proofs.Common.{◌≡◌, ◌⊎◌, inl, ℕ, Bool, true, false, List, [], ◌∷◌, ◌++◌, append_assoc, Option, refl, sym, ap, subst, ◌∙◌}
use Rattle.std.specs.Prelude.{if◌then◌else◌, flat_map, Result, Ok, Err, OnOk, IfErr}
use Rattle.std.proofs.lemmas.List.{append-nil}
use Rattle.std.proofs.lemmas.List.Concat.{flat_map-append}
use Rattle.plain_model.specs.declared.calls.Call.{Call}
use Rattle.plain_model.specs.declared.calls.Call.TheVariants.{Begin, Read, Make, Store, GetPay, SetPay, Release, Commit, Abort}
use Rattle.core_store.specs.JournalView.{JournalView}
use Rattle.logged_journal.specs.View.{LoggedView}
use Rattle.call_generator.specs.declared.turns.Turn.{Turn}
use Rattle.call_generator.specs.Generator.{Generating, waiting, next_turn, after_turn, Generates, done, turn}
use Rattle.script_lines.specs.declared.grammar.Line.{Line}
use Rattle.script_lines.specs.declared.grammar.Line.TheVariants as line
use Rattle.brahma_shell.specs.declared.replay.Stop.{Stop}
use Rattle.brahma_shell.specs.declared.replay.Stop.TheVariants as stop
use Rattle.brahma_shell.specs.Follows.{AsksUpkeep}
use Rattle.brahma_shell.specs.Log.{StaysRunning}
use Rattle.brahma_shell.specs.Replay.{Performs, StopsPerform, LeavesLog, FailsPerform}
use Rattle.brahma_shell.specs.Generated.{line_of, lines_in, generated_lines, DoesLines, StopsLines, DoesAll, StopsAll}
use Rattle.brahma_shell.proofs.GivesLemmas.{does-none, does-one, does-more, stops-front, stops-behind, stops-one}

-- ---- one turn

-- a call asks no upkeep
pub no-upkeep : (client : ℕ) (call : Call) → AsksUpkeep (line_of client call) → ⊥
no-upkeep client Begin h = h
no-upkeep client (Read r slot into) h = h
no-upkeep client (Make into) h = h
no-upkeep client (Store r slot f) h = h
no-upkeep client (GetPay r) h = h
no-upkeep client (Release r) h = h
no-upkeep client (SetPay r v) h = h
no-upkeep client Commit h = h
no-upkeep client Abort h = h

pub turn-alone : (a b : JournalView) (t : Turn) (l : Line) (text : List ℕ) → l ≡ line_of t.client t.call → t.collects ≡ false → Performs a b l text → DoesLines a b (lines_in t)
turn-alone a b t l text is alone p =
    subst (λ (c : Bool). DoesLines a b (line_of t.client t.call ∷ (if c then line.CollectStep ∷ [] else []))) (sym alone)
    (subst (λ (x : Line). DoesLines a b (x ∷ [])) is (does-one a b l text p))

pub turn-both : (a b c : JournalView) (t : Turn) (l : Line) (text more : List ℕ) → l ≡ line_of t.client t.call → t.collects ≡ true → Performs a b l text → Performs b c line.CollectStep more → DoesLines a c (lines_in t)
turn-both a b c t l text more is so p q =
    subst (λ (x : Bool). DoesLines a c (line_of t.client t.call ∷ (if x then line.CollectStep ∷ [] else []))) (sym so)
    (does-more a b c (line_of t.client t.call ∷ []) (line.CollectStep ∷ []) (subst (λ (x : Line). DoesLines a b (x ∷ [])) is (does-one a b l text p)) (does-one b c line.CollectStep more q))

module _ {D : Type 0} (faults : D → ℕ) where
  pub turn-stops : (s : Stop) (a b : LoggedView D) (t : Turn) (l : Line) (before after : Option (List ℕ)) → l ≡ line_of t.client t.call → (s ≡ stop.Write → ⊥) → StopsPerform s l a.journal b.journal before after × LeavesLog faults s a b ⊎ FailsPerform faults s l a b before after → StopsLines faults s a b (lines_in t)
  turn-stops s a b t l before after is write h =
      let one = stops-one faults s l a b before after (λ u. no-upkeep t.client t.call (subst AsksUpkeep is u)) write h in
      stops-front faults s a b (line_of t.client t.call ∷ []) (if t.collects then line.CollectStep ∷ [] else []) (subst (λ (x : Line). StopsLines faults s a b (x ∷ [])) is one)

  pub turn-stops_behind : (s : Stop) (a b c : LoggedView D) (t : Turn) (l : Line) (text : List ℕ) (before after : Option (List ℕ)) → l ≡ line_of t.client t.call → t.collects ≡ true → Performs a.journal b.journal l text → StaysRunning faults a b → (s ≡ stop.Write → ⊥)
      → StopsPerform s line.CollectStep b.journal c.journal before after × LeavesLog faults s b c ⊎ FailsPerform faults s line.CollectStep b c before after → StopsLines faults s a c (lines_in t)
  turn-stops_behind s a b c t l text before after is so p goes write h =
      let one = stops-one faults s line.CollectStep b c before after (λ u. u) write h in
      let front = subst (λ (x : Line). DoesLines a.journal b.journal (x ∷ [])) is (does-one a.journal b.journal l text p) in
      subst (λ (x : Bool). StopsLines faults s a c (line_of t.client t.call ∷ (if x then line.CollectStep ∷ [] else []))) (sym so)
      (stops-behind faults s a b c (line_of t.client t.call ∷ []) (line.CollectStep ∷ []) front goes one)

-- ---- one turn after another

-- of the turns that the first generator gives, some are done, and the second one gives the others
pub record Sofar (g : Generating) (a b : JournalView) (turns : List Turn) : Type 0 where
  pub before : List Turn
  pub rest : List Turn
  pub parts : turns ≡ before ++ rest
  pub gives : Generates g rest
  pub does : DoesLines a b (flat_map lines_in before)

abbrev pub DoesSofar : (start g : Generating) → JournalView → JournalView → Type 0
DoesSofar start g a b = (turns : List Turn) → Generates start turns → Sofar g a b turns

pub sofar-none : (g : Generating) (j : JournalView) → DoesSofar g g j j
sofar-none g j turns gives = record { before = []; rest = turns; parts = refl; gives = gives; does = does-none j }

-- what the generator gives begins with its next turn
record Begins (g : Generating) (turns : List Turn) : Type 0 where
  rest : List Turn
  parts : turns ≡ next_turn g ∷ rest
  gives : Generates (after_turn g) rest

begins-with : (g : Generating) (turns : List Turn) → (waiting g.clients ≡ [] → ⊥) → Generates g turns → Begins g turns
begins-with g ts some (done _ none) = absurd (some none)
begins-with g ts some (turn _ turns _ more) = record { rest = turns; parts = refl; gives = more }

ends-with : (g : Generating) (turns : List Turn) → waiting g.clients ≡ [] → Generates g turns → turns ≡ []
ends-with g ts none (done _ _) = refl
ends-with g ts none (turn _ turns some more) = absurd (some none)

pub sofar-more : (start g after : Generating) (a b c : JournalView) (t : Turn) → DoesSofar start g a b → (waiting g.clients ≡ [] → ⊥) × (t ≡ next_turn g) × (after ≡ after_turn g) → DoesLines b c (lines_in t) → DoesSofar start after a c
sofar-more start g after a b c t sofar next does turns gives =
    let s = sofar turns gives in
    let w = begins-with g s.rest next.0 s.gives in
    let parts : turns ≡ (s.before ++ t ∷ []) ++ w.rest = s.parts ∙ ap (λ (ts : List Turn). s.before ++ ts) (w.parts ∙ ap (λ (x : Turn). x ∷ w.rest) (sym next.1)) ∙ sym (append_assoc s.before (t ∷ []) w.rest) in
    let lines : flat_map lines_in s.before ++ lines_in t ≡ flat_map lines_in (s.before ++ t ∷ []) = sym (flat_map-append lines_in s.before (t ∷ []) ∙ ap (λ (ls : List Line). flat_map lines_in s.before ++ ls) (append-nil (lines_in t))) in
    record {
      before = s.before ++ t ∷ [];
      rest = w.rest;
      parts = parts;
      gives = subst (λ (x : Generating). Generates x w.rest) (sym next.2) w.gives;
      does = subst (DoesLines a c) lines (does-more a b c (flat_map lines_in s.before) (lines_in t) s.does does);
    }

-- all lines are those of the turns that are done, and then `gc all`
whole-lines : (turns before rest : List Turn) → turns ≡ before ++ rest → generated_lines turns ≡ flat_map lines_in before ++ (flat_map lines_in rest ++ line.CollectAll ∷ [])
whole-lines turns before rest e = ap generated_lines e ∙ ap (λ (ls : List Line). ls ++ line.CollectAll ∷ []) (flat_map-append lines_in before rest) ∙ append_assoc (flat_map lines_in before) (flat_map lines_in rest) (line.CollectAll ∷ [])

pub sofar-all : (start g : Generating) (a b c : JournalView) (text : List ℕ) → DoesSofar start g a b → waiting g.clients ≡ [] → Performs b c line.CollectAll text → DoesAll start a c
sofar-all start g a b c text sofar none p turns gives =
    let s = sofar turns gives in
    let lines = whole-lines turns s.before s.rest s.parts ∙ ap (λ (ts : List Turn). flat_map lines_in s.before ++ (flat_map lines_in ts ++ line.CollectAll ∷ [])) (ends-with g s.rest none s.gives) in
    subst (DoesLines a c) (sym lines) (does-more a b c (flat_map lines_in s.before) (line.CollectAll ∷ []) s.does (does-one b c line.CollectAll text p))

module _ {D : Type 0} (faults : D → ℕ) where
  -- a turn stopped
  pub sofar-stops : (s : Stop) (start g : Generating) (a b c : LoggedView D) (t : Turn) → DoesSofar start g a.journal b.journal → StaysRunning faults a b → (waiting g.clients ≡ [] → ⊥) × (t ≡ next_turn g) → StopsLines faults s b c (lines_in t) → StopsAll faults start s a c
  sofar-stops s start g a b c t sofar goes next h turns gives =
      let d = sofar turns gives in
      let w = begins-with g d.rest next.0 d.gives in
      let rest : d.rest ≡ t ∷ w.rest = w.parts ∙ ap (λ (x : Turn). x ∷ w.rest) (sym next.1) in
      let lines = whole-lines turns d.before d.rest d.parts ∙ ap (λ (ts : List Turn). flat_map lines_in d.before ++ (flat_map lines_in ts ++ line.CollectAll ∷ [])) rest
      ∙ ap (λ (ls : List Line). flat_map lines_in d.before ++ ls) (append_assoc (lines_in t) (flat_map lines_in w.rest) (line.CollectAll ∷ [])) in
      subst (StopsLines faults s a c) (sym lines)
      (stops-behind faults s a b c (flat_map lines_in d.before) (lines_in t ++ (flat_map lines_in w.rest ++ line.CollectAll ∷ [])) d.does goes (stops-front faults s b c (lines_in t) (flat_map lines_in w.rest ++ line.CollectAll ∷ []) h))

  -- `gc all` stopped
  pub sofar-stops_all : (s : Stop) (start g : Generating) (a b c : LoggedView D) (before after : Option (List ℕ)) → DoesSofar start g a.journal b.journal → StaysRunning faults a b → waiting g.clients ≡ [] → (s ≡ stop.Write → ⊥) → StopsPerform s line.CollectAll b.journal c.journal before after × LeavesLog faults s b c → StopsAll faults start s a c
  sofar-stops_all s start g a b c before after sofar goes none write h turns gives =
      let d = sofar turns gives in
      let lines = whole-lines turns d.before d.rest d.parts ∙ ap (λ (ts : List Turn). flat_map lines_in d.before ++ (flat_map lines_in ts ++ line.CollectAll ∷ [])) (ends-with g d.rest none d.gives) in
      subst (StopsLines faults s a c) (sym lines)
      (stops-behind faults s a b c (flat_map lines_in d.before) (line.CollectAll ∷ []) d.does goes (stops-one faults s line.CollectAll b c before after (λ u. u) write (inl h)))

-- ---- results

pub on-ok-then : {X Y : Type 0} (A B : Type 0) (r : Result X Y) → (A → B) → OnOk r A → OnOk r B
on-ok-then A B (Ok x) f h = f h
on-ok-then A B (Err y) f h = h

pub if-err-then : {X Y : Type 0} (A B : Y → Type 0) (r : Result X Y) → ((y : Y) → r ≡ Err y → A y → B y) → IfErr r A → IfErr r B
if-err-then A B (Ok x) f h = h
if-err-then A B (Err y) f h = f y refl h
