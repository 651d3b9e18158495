-- A line goes on, or stops the script.
use Rattle.std.proofs.Common.{◌≡◌, inl, inr, ◌≤◌, ℕ, ◌+◌, List, [], ◌∷◌, ◌++◌, length, length-append, Option, Ok, Err, refl, sym, ap, subst, ◌∙◌, arith}
use Rattle.std.specs.Prelude.{Result, OnOk, IfErr, IsErrOf}
use Rattle.std.specs.Io.KnownBytes.{Keeps, prepend_known}
use Rattle.script_lines.specs.Lines.{line_feeds}
use Rattle.script_lines.specs.Reading.{TakesLine, TakesLastLine, BeginsWithLongLine, IsDone}
use Rattle.script_lines.proofs.OutputLemmas.{Appends-none, Appends-trans, Appends-keeps, AppendsFront-after}
use Rattle.map_calls.specs.declared.grammar.Line.{Line}
use Rattle.map_calls.specs.declared.grammar.Line.TheVariants.{Crash}
use Rattle.map_calls.specs.Grammar.{IsRefused}
use Rattle.map_calls.specs.declared.failure.Failure.{Failure}
use Rattle.map_calls.specs.declared.failure.Failure.TheVariants as failure
use Rattle.map_calls.specs.declared.failure.Unopened.{Unopened}
use Rattle.map_calls.specs.declared.failure.Unopened.TheVariants as unopened
use Rattle.map_script.specs.declared.stop.Stop.{Stop}
use Rattle.map_script.specs.declared.stop.Stop.TheVariants as stop
use Rattle.map_calls.specs.Maps.{MapState}
use Rattle.map_script.specs.Machine.{LeadsTo}
use Rattle.map_script.specs.Following.{Asks, LineDoes, ComesTo}
use Rattle.map_calls.specs.Views.{StoreView, Leaving, LeavesOne, GoesOn, Fails, StaysShut}
use Rattle.map_script.specs.Stopping.{DoesLine, StopsLine, StandsAfter, CameToEnd, StopsScript, LeavesAfter, HasCause, IsOfHistory, IsOfLog, IsMarkedFor}
use Rattle.map_script.proofs.StoreLemmas.{rose-from, no-mark, keeps-one}
use Rattle.map_script.proofs.FollowLemmas.{follows-more}
use Rattle.map_script.proofs.TakenLemmas.{HasLine, taken-first, taken-more, all-last, all-end, read-fault, before-line, before-long, first-taken, first-line}

-- the cause of a call that failed shows from the first call on
pub failed-cause : (told : Type 0) (cause : Failure) (first old now : StoreView) (leaves : Leaving) (IsAsked : MapState → Type 0) → first.faults ≤ old.faults → Fails cause old now leaves IsAsked → HasCause told (stop.Failed cause) first now
failed-cause told failure.Disk first old now leaves asked le f = rose-from first.faults old.faults now.faults le (f.disk refl)
failed-cause told failure.HistoryFull first old now leaves asked le f = tt
failed-cause told failure.LogFull first old now leaves asked le f = tt
failed-cause told failure.Memory first old now leaves asked le f = tt

-- what it leaves, where the next line asked it
failed-leaves : (told : Type 0) (cause : Failure) (source : Option (List ℕ)) (done : List (List ℕ)) (asked : Line) (old now : StoreView) (leaves : Leaving) → ComesTo source done asked → Fails cause old now leaves (LeadsTo asked old.map) → LeavesAfter told (stop.Failed cause) source done old.map leaves
failed-leaves told failure.Disk source done asked old now leaves c f = inr (asked, c, f.left)
failed-leaves told failure.HistoryFull source done asked old now leaves c f = f.left
failed-leaves told failure.LogFull source done asked old now leaves c f = f.left
failed-leaves told failure.Memory source done asked old now leaves c f = f.left

-- what it leaves, where the end asked it
pub failed-leaves-end : (told : Type 0) (cause : Failure) (source : Option (List ℕ)) (done : List (List ℕ)) (old now : StoreView) (leaves : Leaving) → Fails cause old now leaves (λ n. n ≡ old.map) → LeavesAfter told (stop.Failed cause) source done old.map leaves
failed-leaves-end told failure.Disk source done old now leaves f = inl (λ image l. keeps-one leaves old.map image (f.left image l))
failed-leaves-end told failure.HistoryFull source done old now leaves f = f.left
failed-leaves-end told failure.LogFull source done old now leaves f = f.left
failed-leaves-end told failure.Memory source done old now leaves f = f.left

-- ---- the marks

-- a store that goes on isn't marked, and the script doesn't stop for a want of room
pub unmarked : (s : Stop) (now : StoreView) (leaves : Leaving) → (IsOfHistory s → ⊥) → (IsOfLog s → ⊥) → GoesOn now leaves → IsMarkedFor s now
unmarked s now leaves h l g = record { history = no-mark (IsOfHistory s) now.history_full h g.unmarked.0; log = no-mark (IsOfLog s) now.log_full l g.unmarked.1 }

-- a call that failed is marked just so
pub failed-marks : (cause : Failure) (old now : StoreView) (leaves : Leaving) (IsAsked : MapState → Type 0) → Fails cause old now leaves IsAsked → IsMarkedFor (stop.Failed cause) now
failed-marks failure.Disk old now leaves asked f = record { history = ((λ n. absurd n), λ m. absurd (cc (f.history.1 m))); log = ((λ n. absurd n), λ m. absurd (cc (f.log.1 m))) }
failed-marks failure.HistoryFull old now leaves asked f = record { history = ((λ n. f.history.0 refl), λ m. tt); log = ((λ n. absurd n), λ m. absurd (cc (f.log.1 m))) }
failed-marks failure.LogFull old now leaves asked f = record { history = ((λ n. absurd n), λ m. absurd (cc (f.history.1 m))); log = ((λ n. f.log.0 refl), λ m. tt) }
failed-marks failure.Memory old now leaves asked f = record { history = ((λ n. absurd n), λ m. absurd (cc (f.history.1 m))); log = ((λ n. absurd n), λ m. absurd (cc (f.log.1 m))) }

-- and so is a store that isn't opened again
shut-marks : (told : Type 0) (cause : Unopened) (old now : StoreView) (leaves : Leaving) → StaysShut told cause old now leaves → IsMarkedFor (stop.Unopened cause) now
shut-marks told unopened.Power old now leaves f = record { history = ((λ n. absurd n), λ m. absurd (cc (f.history.1 m))); log = ((λ n. absurd n), λ m. absurd (cc (f.log.1 m))) }
shut-marks told (unopened.Refused refused) old now leaves f = record { history = ((λ n. absurd n), λ m. absurd (cc (f.history.1 m))); log = ((λ n. absurd n), λ m. absurd (cc (f.log.1 m))) }
shut-marks told (unopened.NoMap id) old now leaves f = record { history = ((λ n. absurd n), λ m. absurd (cc (f.history.1 m))); log = ((λ n. absurd n), λ m. absurd (cc (f.log.1 m))) }
shut-marks told (unopened.Unread failure.Disk) old now leaves f = record { history = ((λ n. absurd n), λ m. absurd (cc (f.history.1 m))); log = ((λ n. absurd n), λ m. absurd (cc (f.log.1 m))) }
shut-marks told (unopened.Unread failure.HistoryFull) old now leaves f = record { history = ((λ n. f.history.0 refl), λ m. tt); log = ((λ n. absurd n), λ m. absurd (cc (f.log.1 m))) }
shut-marks told (unopened.Unread failure.LogFull) old now leaves f = record { history = ((λ n. absurd n), λ m. absurd (cc (f.history.1 m))); log = ((λ n. f.log.0 refl), λ m. tt) }
shut-marks told (unopened.Unread failure.Memory) old now leaves f = record { history = ((λ n. absurd n), λ m. absurd (cc (f.history.1 m))); log = ((λ n. absurd n), λ m. absurd (cc (f.log.1 m))) }

module _ (told : Type 0) (start mid : Option (List ℕ)) (first old : StoreView) (held : Leaving) (before reached : Option (List ℕ)) (done : List (List ℕ)) (s : StandsAfter told start mid first old held before reached done)
    (number : ℕ) (line : List ℕ) (place : number ≡ length done + 1) where
  does-next : (now : StoreView) (text : List ℕ) → LineDoes told number line old.map now.map text → LineDoes told (1 + length done) line old.map now.map text
  does-next now text d = let e : number ≡ 1 + length done = omega (arith, place) in subst (λ k. LineDoes told k line old.map now.map text) e d

  -- ---- the line was done

  pub place-next : number + 1 ≡ length (done ++ line ∷ []) + 1
  place-next = omega (arith, place, length-append done (line ∷ []))

  pub stands-next : (new : Option (List ℕ)) (now : StoreView) (leaves : Leaving) (written : Option (List ℕ)) → TakesLine mid new line → DoesLine told number line old now leaves reached written → StandsAfter told start new first now leaves before written (done ++ line ∷ [])
  stands-next new now leaves written t d = record {
    text = s.text ++ d.0;
    follows = follows-more told 1 done line first.map old.map now.map s.text d.0 s.follows (does-next now d.0 d.1);
    taken = taken-more start mid new done line s.taken t;
    goes = d.2;
    printed = Appends-trans before reached written s.text d.0 s.printed d.3;
  }

  came-last : (left : Option (List ℕ)) (pending : List ℕ) (now : StoreView) (leaves : Leaving) (written : Option (List ℕ)) → TakesLastLine mid (prepend_known pending left) line → DoesLine told number line old now leaves reached written → CameToEnd told start left first now leaves before written
  came-last left pending now leaves written t d = record {
    done = done ++ line ∷ [];
    text = s.text ++ d.0;
    follows = follows-more told 1 done line first.map old.map now.map s.text d.0 s.follows (does-next now d.0 d.1);
    all = all-last start mid left pending done line s.taken t;
    goes = d.2;
    printed = Appends-trans before reached written s.text d.0 s.printed d.3;
  }

  pub last-done : (r : Result (Unit {0}) Stop) (left : Option (List ℕ)) (pending : List ℕ) (now : StoreView) (leaves : Leaving) (written : Option (List ℕ)) → TakesLastLine mid (prepend_known pending left) line → OnOk r (DoesLine told number line old now leaves reached written) → OnOk r (CameToEnd told start left first now leaves before written)
  last-done (Ok u) left pending now leaves written t d = came-last left pending now leaves written t d
  last-done (Err e) left pending now leaves written t d = tt

  -- ---- it stops the script

  next-asks : (asked : Line) → HasLine mid line → Asks number line asked → ComesTo start done asked
  next-asks asked l a = before-line start mid done line (λ bytes. Asks (length done + 1) bytes asked) s.taken l (subst (λ k. Asks k line asked) place a)

  pub stops : (e : Stop) (left : Option (List ℕ)) (now : StoreView) (leaves : Leaving) (written : Option (List ℕ)) → HasLine mid line → first.faults ≤ old.faults → StopsLine told e number line old now leaves reached written → StopsScript told e start left first now leaves before written
  stops (stop.Line k) left now leaves written l le h = record {
    done = done;
    text = s.text;
    reached = old.map;
    follows = s.follows;
    there = (h.0 ∙ place, before-line start mid done line (IsRefused k) s.taken l (subst (λ n. IsRefused n line) (sym h.0) h.1));
    printed = Appends-keeps before reached written s.text s.printed h.4;
    kept = subst (λ (v : StoreView). LeavesOne leaves v.map) h.2 h.3.left;
    cause = tt;
    marks = unmarked (stop.Line k) now leaves (λ n. n) (λ n. n) h.3;
    goes = λ o. (h.3, ap (λ (v : StoreView). v.map) h.2);
  }
  stops stop.Read left now leaves written l le h = absurd h.2
  stops stop.Write left now leaves written l le h =
      let d = h.2 in
      record {
        done = done ++ line ∷ [];
        text = s.text ++ d.0;
        reached = now.map;
        follows = follows-more told 1 done line first.map old.map now.map s.text d.0 s.follows (does-next now d.0 (h.0, h.1, d.1));
        there = first-line start mid done line s.taken l;
        printed = AppendsFront-after before reached written s.text d.0 s.printed d.3;
        kept = d.2.left;
        cause = tt;
        marks = unmarked stop.Write now leaves (λ n. n) (λ n. n) d.2;
        goes = λ o. (d.2, refl);
      }
  stops (stop.Failed cause) left now leaves written l le h =
      let d = h.2 in
      record {
        done = done;
        text = s.text;
        reached = old.map;
        follows = s.follows;
        there = first-taken start mid done s.taken;
        printed = Appends-keeps before reached written s.text s.printed d.1;
        kept = failed-leaves told cause start done h.0 old now leaves (next-asks h.0 l h.1) d.0;
        cause = failed-cause told cause first old now leaves (LeadsTo h.0 old.map) le d.0;
        marks = failed-marks cause old now leaves (LeadsTo h.0 old.map) d.0;
        goes = λ o. absurd o;
      }
  stops (stop.Unopened cause) left now leaves written l le h =
      let d = h.2 in
      record {
        done = done;
        text = s.text;
        reached = old.map;
        follows = s.follows;
        there = (d.0.0, next-asks (Crash d.0.0) l (subst (λ (a : Line). Asks number line a) d.0.1 h.1));
        printed = Appends-keeps before reached written s.text s.printed d.2;
        kept = d.1.left;
        cause = (λ e. rose-from first.faults old.faults now.faults le (d.1.disk e), d.1.sound);
        marks = shut-marks told cause old now leaves d.1;
        goes = λ o. absurd o;
      }

  pub last-stopped : (r : Result (Unit {0}) Stop) (left : Option (List ℕ)) (now : StoreView) (leaves : Leaving) (written : Option (List ℕ)) → HasLine mid line → first.faults ≤ old.faults → IfErr r (λ e. StopsLine told e number line old now leaves reached written) → IfErr r (λ e. StopsScript told e start left first now leaves before written)
  last-stopped (Ok u) left now leaves written l le h = tt
  last-stopped (Err e) left now leaves written l le h = stops e left now leaves written l le h

  -- no line stops a script as a failed read
  no-read : (e : Stop) (now : StoreView) (leaves : Leaving) (written : Option (List ℕ)) → StopsLine told e number line old now leaves reached written → e ≡ stop.Read → ⊥
  no-read (stop.Line k) now leaves written h is = cc (is)
  no-read stop.Read now leaves written h is = h.2
  no-read stop.Write now leaves written h is = cc (is)
  no-read (stop.Failed cause) now leaves written h is = cc (is)
  no-read (stop.Unopened cause) now leaves written h is = cc (is)

  pub not-read : (e : Stop) (now : StoreView) (leaves : Leaving) (written : Option (List ℕ)) (P : Type 0) → StopsLine told e number line old now leaves reached written → e ≡ stop.Read → P
  not-read e now leaves written P h is = absurd (no-read e now leaves written h is)

  pub last-read : (r : Result (Unit {0}) Stop) (now : StoreView) (leaves : Leaving) (written : Option (List ℕ)) (P : Type 0) → IfErr r (λ e. StopsLine told e number line old now leaves reached written) → IsErrOf r stop.Read → P
  last-read (Ok u) now leaves written P h is = absurd (cc (is))
  last-read (Err e) now leaves written P h is = absurd (no-read e now leaves written h (cc (is)))

-- ---- no line comes any more

module _ (told : Type 0) (start mid left : Option (List ℕ)) (first old : StoreView) (held : Leaving) (before reached : Option (List ℕ)) (done : List (List ℕ)) (s : StandsAfter told start mid first old held before reached done) where
  pub came-end : (pending : List ℕ) → IsDone mid (prepend_known pending left) → CameToEnd told start left first old held before reached
  came-end pending t = record { done = done; text = s.text; follows = s.follows; all = all-end start mid left pending done s.taken t; goes = s.goes; printed = s.printed }

  pub stops-long : (number : ℕ) → number ≡ length done + 1 → BeginsWithLongLine mid → StopsScript told (stop.Line number) start left first old held before reached
  stops-long number place l = record {
    done = done;
    text = s.text;
    reached = old.map;
    follows = s.follows;
    there = (place, before-long start mid done number s.taken l);
    printed = s.printed;
    kept = s.goes.left;
    cause = tt;
    marks = unmarked (stop.Line number) old held (λ n. n) (λ n. n) s.goes;
    goes = λ o. (s.goes, refl);
  }

  pub stops-read : (pending : List ℕ) → Keeps mid (prepend_known pending left) → line_feeds pending ≡ 0 → StopsScript told stop.Read start left first old held before reached
  stops-read pending k e = record {
    done = done;
    text = s.text;
    reached = old.map;
    follows = s.follows;
    there = read-fault start mid left pending done s.taken k e;
    printed = s.printed;
    kept = s.goes.left;
    cause = tt;
    marks = unmarked stop.Read old held (λ n. n) (λ n. n) s.goes;
    goes = λ o. (s.goes, refl);
  }

-- nothing is done yet
pub stands-first : (told : Type 0) (source : Option (List ℕ)) (pending : List ℕ) (first : StoreView) (leaves : Leaving) (written : Option (List ℕ)) → pending ≡ [] → GoesOn first leaves → StandsAfter told source (prepend_known pending source) first first leaves written written []
stands-first told source pending first leaves written e g = record {
  text = [];
  follows = (refl, refl);
  taken = taken-first source pending e;
  goes = g;
  printed = Appends-none written;
}
