-- The notes of lines, one line after another, and how a journal grows by them.
use Rattle.std.proofs.Common.{◌≡◌, ◌⊎◌, ⊎_elim, inl, ℕ, List, [], ◌∷◌, ◌++◌, append_assoc, Option, refl, sym, ap, subst, ◌∙◌}
use Rattle.std.proofs.lemmas.List.{append-nil}
use Rattle.core_store.specs.declared.note.Note.{Note}
use Rattle.core_store.specs.JournalView.{JournalView}
use Rattle.logged_journal.specs.View.{LoggedView}
use Rattle.script_lines.specs.declared.grammar.Line.{Line}
use Rattle.script_lines.specs.declared.grammar.Line.TheVariants as line
use Rattle.plain_model.specs.declared.calls.Call.TheVariants.{Commit}
use Rattle.brahma_shell.specs.declared.replay.Stop.{Stop}
use Rattle.brahma_shell.specs.declared.replay.Stop.TheVariants as stop
use Rattle.brahma_shell.specs.Points.{Point, after_notes, point_of}
use Rattle.brahma_shell.specs.Follows.{AsksUpkeep}
use Rattle.brahma_shell.specs.Growth.{Grows}
use Rattle.brahma_shell.specs.Log.{StaysRunning}
use Rattle.brahma_shell.specs.Replay.{Performs, CutsOff, StopsPerform, LeavesLog, FailsPerform}
use Rattle.brahma_shell.specs.Generated.{GivesLines, IsPartOf, GivesPart, GivesUpTo, DoesLines, CutsLines, StopsLines}
use Rattle.brahma_shell.proofs.PointLemmas.{after_notes-append}
use Rattle.brahma_shell.proofs.GrowthLemmas.{Grows-none, Grows-trans, Grows-point}
use Rattle.brahma_shell.proofs.LogLemmas.{StaysRunning-trans, TellsFull-after, LosesCommit-after}

-- ---- lines after lines

pub lines-append : (p : Point) (xs ys : List Line) (ms ns : List Note) → GivesLines p xs ms → GivesLines (after_notes p ms) ys ns → GivesLines p (xs ++ ys) (ms ++ ns)
lines-append p [] ys ms ns g h = subst (λ (zs : List Note). GivesLines (after_notes p zs) ys ns → GivesLines p ys (zs ++ ns)) (sym g) (λ x. x) h
lines-append p (x ∷ xs) ys ms ns g h =
    let behind = subst (λ (q : Point). GivesLines q ys ns) (ap (after_notes p) g.2 ∙ after_notes-append p g.0 g.1) h in
    (g.0, g.1 ++ ns, ap (λ (zs : List Note). zs ++ ns) g.2 ∙ append_assoc g.0 g.1 ns, g.3, lines-append (after_notes p g.0) xs ys g.1 ns g.4 behind)

-- the notes of lines after lines
pub record Splits (p : Point) (xs ys : List Line) (notes : List Note) : Type 0 where
  pub front : List Note
  pub back : List Note
  pub all : notes ≡ front ++ back
  pub before : GivesLines p xs front
  pub behind : GivesLines (after_notes p front) ys back

pub lines-split : (p : Point) (xs ys : List Line) (notes : List Note) → GivesLines p (xs ++ ys) notes → Splits p xs ys notes
lines-split p [] ys notes g = record { front = []; back = notes; all = refl; before = refl; behind = g }
lines-split p (x ∷ xs) ys notes g =
    let s = lines-split (after_notes p g.0) xs ys g.1 g.4 in
    record {
      front = g.0 ++ s.front;
      back = s.back;
      all = g.2 ∙ ap (λ (zs : List Note). g.0 ++ zs) s.all ∙ sym (append_assoc g.0 s.front s.back);
      before = (g.0, s.front, refl, g.3, s.before);
      behind = subst (λ (q : Point). GivesLines q ys s.back) (sym (after_notes-append p g.0 s.front)) s.behind;
    }

-- ---- parts

part-front : (behind more : List Line) (part : List Note) → IsPartOf behind part → IsPartOf (behind ++ more) part
part-front [] [] part h = h
part-front [] (l ∷ ls) part h = inl h
part-front (b ∷ bs) more part h = h

pub gives-front : (p : Point) (xs more : List Line) (notes : List Note) → GivesPart p xs notes → GivesPart p (xs ++ more) notes
gives-front p xs more notes g = record {
  before = g.before;
  behind = g.behind ++ more;
  parts = ap (λ (ls : List Line). ls ++ more) g.parts ∙ append_assoc g.before g.behind more;
  done = g.done;
  part = g.part;
  all = g.all;
  gives = g.gives;
  next = part-front g.behind more g.part g.next;
}

pub gives-behind : (p : Point) (xs ys : List Line) (ms ns : List Note) → GivesLines p xs ms → GivesPart (after_notes p ms) ys ns → GivesPart p (xs ++ ys) (ms ++ ns)
gives-behind p xs ys ms ns g h = record {
  before = xs ++ h.before;
  behind = h.behind;
  parts = ap (λ (ls : List Line). xs ++ ls) h.parts ∙ sym (append_assoc xs h.before h.behind);
  done = ms ++ h.done;
  part = h.part;
  all = ap (λ (zs : List Note). ms ++ zs) h.all ∙ sym (append_assoc ms h.done h.part);
  gives = lines-append p xs h.before ms h.done g h.gives;
  next = h.next;
}

-- all of them
pub gives-all : (p : Point) (xs : List Line) (notes : List Note) → GivesLines p xs notes → GivesPart p xs notes
gives-all p xs notes g = record { before = xs; behind = []; parts = sym (append-nil xs); done = notes; part = []; all = sym (append-nil notes); gives = g; next = refl }

-- none of them
pub gives-none : (p : Point) (xs : List Line) → GivesPart p xs []
gives-none p xs = record { before = []; behind = xs; parts = refl; done = []; part = []; all = refl; gives = refl; next = nothing xs }
  where
    nothing : (ls : List Line) → IsPartOf ls []
    nothing [] = refl
    nothing (l ∷ ls) = inl refl

pub up-to-front : (p : Point) (xs more : List Line) (asked : Line) (notes : List Note) → GivesUpTo p xs asked notes → GivesUpTo p (xs ++ more) asked notes
up-to-front p xs more asked notes g = record {
  before = g.before;
  behind = g.behind ++ more;
  parts = ap (λ (ls : List Line). ls ++ more) g.parts ∙ append_assoc g.before (asked ∷ g.behind) more;
  gives = g.gives;
}

pub up-to-behind : (p : Point) (xs ys : List Line) (asked : Line) (ms ns : List Note) → GivesLines p xs ms → GivesUpTo (after_notes p ms) ys asked ns → GivesUpTo p (xs ++ ys) asked (ms ++ ns)
up-to-behind p xs ys asked ms ns g h = record {
  before = xs ++ h.before;
  behind = h.behind;
  parts = ap (λ (ls : List Line). xs ++ ls) h.parts ∙ sym (append_assoc xs h.before (asked ∷ h.behind));
  gives = lines-append p xs h.before ms ns g h.gives;
}

-- ---- journals

pub does-none : (j : JournalView) → DoesLines j j []
does-none j = record { notes = []; grows = Grows-none j; unmarked = refl; gives = refl }

pub does-one : (a b : JournalView) (l : Line) (text : List ℕ) → Performs a b l text → DoesLines a b (l ∷ [])
does-one a b l text p = record { notes = p.notes; grows = p.grows; unmarked = p.unmarked; gives = (p.notes, [], sym (append-nil p.notes), p.gives, refl) }

pub does-more : (a b c : JournalView) (xs ys : List Line) → DoesLines a b xs → DoesLines b c ys → DoesLines a c (xs ++ ys)
does-more a b c xs ys d e = record {
  notes = d.notes ++ e.notes;
  grows = Grows-trans a b c d.notes e.notes d.grows e.grows;
  unmarked = e.unmarked ∙ d.unmarked;
  gives = lines-append (point_of a) xs ys d.notes e.notes d.gives (subst (λ (q : Point). GivesLines q ys e.notes) (Grows-point a b d.notes d.grows) e.gives);
}

cuts-front : (a b : JournalView) (xs more : List Line) → CutsLines a b xs → CutsLines a b (xs ++ more)
cuts-front a b xs more c = record { notes = c.notes; grows = c.grows; gives = gives-front (point_of a) xs more c.notes c.gives }

cuts-behind : (a b c : JournalView) (xs ys : List Line) → DoesLines a b xs → CutsLines b c ys → CutsLines a c (xs ++ ys)
cuts-behind a b c xs ys d e = record {
  notes = d.notes ++ e.notes;
  grows = Grows-trans a b c d.notes e.notes d.grows e.grows;
  gives = gives-behind (point_of a) xs ys d.notes e.notes d.gives (subst (λ (q : Point). GivesPart q ys e.notes) (Grows-point a b d.notes d.grows) e.gives);
}

module _ {D : Type 0} (faults : D → ℕ) where
  -- what stops the first lines stops all
  pub stops-front : (s : Stop) (a b : LoggedView D) (xs more : List Line) → StopsLines faults s a b xs → StopsLines faults s a b (xs ++ more)
  stops-front (stop.Line k) a b xs more h = absurd h
  stops-front stop.Read a b xs more h = absurd h
  stops-front stop.Write a b xs more h = absurd h
  stops-front stop.Memory a b xs more h = (cuts-front a.journal b.journal xs more h.0, h.1, h.2)
  stops-front stop.Full a b xs more h = (cuts-front a.journal b.journal xs more h.0, h.1, h.2)
  stops-front stop.LogFull a b xs more h = (cuts-front a.journal b.journal xs more h.0, h.1, h.2)
  stops-front stop.Fault a b xs more h = record {
    client = h.client;
    notes = h.notes;
    grows = h.grows;
    unmarked = h.unmarked;
    gives = up-to-front (point_of a.journal) xs more (line.Ask h.client Commit) h.notes h.gives;
    lost = h.lost;
  }
  stops-front stop.UpkeepFault a b xs more h = absurd h
  stops-front stop.Stopped a b xs more h = absurd h

  -- what stops the last lines stops all
  pub stops-behind : (s : Stop) (a b c : LoggedView D) (xs ys : List Line) → DoesLines a.journal b.journal xs → StaysRunning faults a b → StopsLines faults s b c ys → StopsLines faults s a c (xs ++ ys)
  stops-behind (stop.Line k) a b c xs ys d g h = absurd h
  stops-behind stop.Read a b c xs ys d g h = absurd h
  stops-behind stop.Write a b c xs ys d g h = absurd h
  stops-behind stop.Memory a b c xs ys d g h = (cuts-behind a.journal b.journal c.journal xs ys d h.0, h.1 ∙ d.unmarked, StaysRunning-trans faults a b c g h.2)
  stops-behind stop.Full a b c xs ys d g h = (cuts-behind a.journal b.journal c.journal xs ys d h.0, h.1, StaysRunning-trans faults a b c g h.2)
  stops-behind stop.LogFull a b c xs ys d g h = (cuts-behind a.journal b.journal c.journal xs ys d h.0, h.1 ∙ d.unmarked, TellsFull-after faults a b c g h.2)
  stops-behind stop.Fault a b c xs ys d g h = record {
    client = h.client;
    notes = d.notes ++ h.notes;
    grows = Grows-trans a.journal b.journal c.journal d.notes h.notes d.grows h.grows;
    unmarked = h.unmarked ∙ d.unmarked;
    gives = up-to-behind (point_of a.journal) xs ys (line.Ask h.client Commit) d.notes h.notes d.gives (subst (λ (q : Point). GivesUpTo q ys (line.Ask h.client Commit) h.notes) (Grows-point a.journal b.journal d.notes d.grows) h.gives);
    lost = LosesCommit-after faults h.client a b c g h.lost;
  }
  stops-behind stop.UpkeepFault a b c xs ys d g h = absurd h
  stops-behind stop.Stopped a b c xs ys d g h = absurd h

  cut : (a b : JournalView) (l : Line) (text : List ℕ) → CutsOff a b l text → CutsLines a b (l ∷ [])
  cut a b l text c = record { notes = c.notes; grows = c.grows; gives = record { before = []; behind = l ∷ []; parts = refl; done = []; part = c.notes; all = refl; gives = refl; next = c.cut } }

  -- what stops one line, which asks no upkeep, where its text goes nowhere and no sink fails
  pub stops-one : (s : Stop) (l : Line) (a b : LoggedView D) (before after : Option (List ℕ)) → (AsksUpkeep l → ⊥) → (s ≡ stop.Write → ⊥) → StopsPerform s l a.journal b.journal before after × LeavesLog faults s a b ⊎ FailsPerform faults s l a b before after → StopsLines faults s a b (l ∷ [])
  stops-one s l a b before after upkeep write h = ⊎_elim (λ h. stops s write h.0 h.1) (λ h. fails s write h) h
    where
      stops : (s : Stop) → (s ≡ stop.Write → ⊥) → StopsPerform s l a.journal b.journal before after → LeavesLog faults s a b → StopsLines faults s a b (l ∷ [])
      stops (stop.Line k) w h g = absurd h
      stops stop.Read w h g = absurd h
      stops stop.Write w h g = absurd (w refl)
      stops stop.Memory w h g = (cut a.journal b.journal l h.0 h.1, h.2, g)
      stops stop.Full w h g = (cut a.journal b.journal l h.0 h.1, h.2, g)
      stops stop.LogFull w h g = (cut a.journal b.journal l h.0 h.1, h.2, g)
      stops stop.Fault w h g = absurd h
      stops stop.UpkeepFault w h g = absurd h
      stops stop.Stopped w h g = absurd h

      fails : (s : Stop) → (s ≡ stop.Write → ⊥) → FailsPerform faults s l a b before after → StopsLines faults s a b (l ∷ [])
      fails (stop.Line k) w h = absurd h
      fails stop.Read w h = absurd h
      fails stop.Write w h = absurd (w refl)
      fails stop.Memory w h = absurd h
      fails stop.Full w h = absurd h
      fails stop.LogFull w h = absurd h
      fails stop.Fault w h = record {
        client = h.0;
        notes = [];
        grows = subst (λ (j : JournalView). Grows a.journal j []) (sym h.1.journal) (Grows-none a.journal);
        unmarked = ap (λ (j : JournalView). j.marks) h.1.journal;
        gives = record { before = []; behind = []; parts = ap (λ (x : Line). x ∷ []) h.1.asks; gives = refl };
        lost = h.1.lost;
      }
      fails stop.UpkeepFault w h = absurd (upkeep h.0)
      fails stop.Stopped w h = absurd h
