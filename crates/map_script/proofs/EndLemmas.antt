-- The end of a script.
use Rattle.std.proofs.Common.{◌≡◌, ⊎_elim, inl, inr, ◌≤◌, ℕ, List, length, Option, Ok, Err, refl, sym, ap, subst, ◌∙◌}
use Rattle.std.specs.Prelude.{Result, OnOk, IfErr, IsErrOf}
use Rattle.std.specs.Io.KnownBytes.{Appends}
use Rattle.disk_model.specs.Causes.{Rose}
use Rattle.script_lines.specs.Output.{AppendsFront, EndsWith}
use Rattle.script_lines.proofs.OutputLemmas.{Appends-trans, Appends-keeps, AppendsFront-after}
use Rattle.map_calls.specs.Output.{keys_line}
use Rattle.map_script.specs.declared.stop.Stop.{Stop}
use Rattle.map_script.specs.declared.stop.Stop.TheVariants as stop
use Rattle.map_calls.specs.Maps.{MapState}
use Rattle.map_script.specs.Following.{Follows}
use Rattle.map_calls.specs.Views.{StoreView, Leaving, GoesOn}
use Rattle.map_script.specs.Stopping.{CameToEnd, StopsEnd}
use Rattle.map_script.specs.Mapped.{EndsWell, StopsAnywhere}
use Rattle.map_script.proofs.StoreLemmas.{rose-from, fails-after}
use Rattle.map_script.proofs.TakenLemmas.{first-all}
use Rattle.map_script.proofs.StopLemmas.{failed-cause, failed-leaves-end, failed-marks}

-- the last line stands after what was written, with the faults of a sink from before
pub ends-from : (old new : Option (List ℕ)) (first mid now : ℕ) (text last : List ℕ) → first ≤ mid → EndsWith old new mid now text last → EndsWith old new first now text last
ends-from old new first mid now text last le h =
    ⊎_elim (λ a. inl a) (λ f. inr (f.0, f.1, f.2, f.3, rose-from first mid now le f.4)) h

-- the line of the keys is written
pub tells-end : (r : Result (Unit {0}) Stop) (old now : StoreView) (leaves : Leaving) (before written : Option (List ℕ)) (line : List ℕ) (a b : ℕ) → line ≡ keys_line (length old.map.pairs) → now.map ≡ old.map → now.room ≡ now.map.free → GoesOn now leaves
    → IfErr r (λ s. (s ≡ stop.Write) × AppendsFront before written line × Rose a b) → IfErr r (λ s. StopsEnd s old now leaves before written)
tells-end (Ok u) old now leaves before written line a b t e room g h = tt
tells-end (Err s) old now leaves before written line a b t e room g h =
    subst (λ (s : Stop). StopsEnd s old now leaves before written) (sym h.0) (e, room, g, subst (λ (l : List ℕ). AppendsFront before written l) t h.1)

-- what holds anyway holds where it went well
pub always : {T E : Type 0} (r : Result T E) (A : Type 0) → A → OnOk r A
always (Ok x) A a = a
always (Err e) A a = tt

pub printed-end : (r : Result (Unit {0}) Stop) (before written : Option (List ℕ)) (line wanted : List ℕ) → line ≡ wanted → OnOk r (Appends before written line) → OnOk r (Appends before written wanted)
printed-end r before written line wanted t h = subst (λ (l : List ℕ). OnOk r (Appends before written l)) t h

-- the end comes after a call that left the map
pub same-after : (r : Result (Unit {0}) Stop) (old mid now : StoreView) → mid.map ≡ old.map → OnOk r (now.map ≡ mid.map) → OnOk r (now.map ≡ old.map)
same-after (Ok u) old mid now e h = h ∙ e
same-after (Err s) old mid now e h = tt

pub printed-after : (r : Result (Unit {0}) Stop) (old mid : StoreView) (before written : Option (List ℕ)) → mid.map ≡ old.map → OnOk r (Appends before written (keys_line (length mid.map.pairs))) → OnOk r (Appends before written (keys_line (length old.map.pairs)))
printed-after r old mid before written e h = subst (λ (m : MapState). OnOk r (Appends before written (keys_line (length m.pairs)))) e h

pub stops-end-after : (s : Stop) (old mid now : StoreView) (leaves : Leaving) (before written : Option (List ℕ)) → mid.map ≡ old.map → old.faults ≤ mid.faults → StopsEnd s mid now leaves before written → StopsEnd s old now leaves before written
stops-end-after (stop.Line k) old mid now leaves before written e le h = absurd h
stops-end-after stop.Read old mid now leaves before written e le h = absurd h
stops-end-after stop.Write old mid now leaves before written e le h = (h.0 ∙ e, h.1, h.2, subst (λ (m : MapState). AppendsFront before written (keys_line (length m.pairs))) e h.3)
stops-end-after (stop.Failed cause) old mid now leaves before written e le h = (fails-after cause old mid now leaves (λ m n. n ≡ m) e le h.0, h.1)
stops-end-after (stop.Unopened cause) old mid now leaves before written e le h = absurd h

module _ (told : Type 0) (start left : Option (List ℕ)) (first old : StoreView) (held : Leaving) (before reached : Option (List ℕ)) (came : CameToEnd told start left first old held before reached) where
  -- the map is still that after all lines
  follows-to : (now : StoreView) → now.map ≡ old.map → Follows told 1 came.done first.map now.map came.text
  follows-to now e = subst (λ (m : MapState). Follows told 1 came.done first.map m came.text) (sym e) came.follows

  -- the last line is that of its keys
  same-line : (now : StoreView) → now.map ≡ old.map → keys_line (length old.map.pairs) ≡ keys_line (length now.map.pairs)
  same-line now e = ap (λ (m : MapState). keys_line (length m.pairs)) (sym e)

  ends-well : (now : StoreView) (leaves : Leaving) (written : Option (List ℕ)) → now.map ≡ old.map → now.room ≡ now.map.free → GoesOn now leaves → Appends reached written (keys_line (length old.map.pairs)) → EndsWell told start left first now leaves before written
  ends-well now leaves written e room g a = record {
    done = came.done;
    text = came.text;
    follows = follows-to now e;
    all = came.all;
    goes = g;
    collected = room;
    printed = Appends-trans before reached written came.text (keys_line (length now.map.pairs)) came.printed (subst (λ (t : List ℕ). Appends reached written t) (same-line now e) a);
  }

  pub end-done : (r : Result (Unit {0}) Stop) (now : StoreView) (leaves : Leaving) (written : Option (List ℕ)) → OnOk r (now.map ≡ old.map) → OnOk r (now.room ≡ now.map.free) → OnOk r (GoesOn now leaves) → OnOk r (Appends reached written (keys_line (length old.map.pairs))) → OnOk r (EndsWell told start left first now leaves before written)
  end-done (Ok u) now leaves written e room g a = ends-well now leaves written e room g a
  end-done (Err s) now leaves written e room g a = tt

  stops-end : (s : Stop) (now : StoreView) (leaves : Leaving) (written : Option (List ℕ)) → first.faults ≤ old.faults → StopsEnd s old now leaves reached written → StopsAnywhere told s start left first now leaves before written
  stops-end (stop.Line k) now leaves written le h = absurd h
  stops-end stop.Read now leaves written le h = absurd h
  stops-end stop.Write now leaves written le h = inr (
    refl,
    record {
      done = came.done;
      text = came.text;
      follows = follows-to now h.0;
      all = came.all;
      goes = h.2;
      collected = h.1;
      printed = AppendsFront-after before reached written came.text (keys_line (length now.map.pairs)) came.printed (subst (λ (t : List ℕ). AppendsFront reached written t) (same-line now h.0) h.3);
    },
  )
  stops-end (stop.Failed cause) now leaves written le h = inl (record {
    done = came.done;
    text = came.text;
    reached = old.map;
    follows = came.follows;
    there = first-all start left came.done came.all;
    printed = Appends-keeps before reached written came.text came.printed h.1;
    kept = failed-leaves-end told cause start came.done old now leaves h.0;
    cause = failed-cause told cause first old now leaves (λ n. n ≡ old.map) le h.0;
    marks = failed-marks cause old now leaves (λ n. n ≡ old.map) h.0;
    goes = λ o. absurd o;
  })
  stops-end (stop.Unopened cause) now leaves written le h = absurd h

  pub end-stopped : (r : Result (Unit {0}) Stop) (now : StoreView) (leaves : Leaving) (written : Option (List ℕ)) → first.faults ≤ old.faults → IfErr r (λ s. StopsEnd s old now leaves reached written) → IfErr r (λ s. StopsAnywhere told s start left first now leaves before written)
  end-stopped (Ok u) now leaves written le h = tt
  end-stopped (Err s) now leaves written le h = stops-end s now leaves written le h

  no-read : (s : Stop) (now : StoreView) (leaves : Leaving) (written : Option (List ℕ)) → StopsEnd s old now leaves reached written → s ≡ stop.Read → ⊥
  no-read (stop.Line k) now leaves written h is = absurd h
  no-read stop.Read now leaves written h is = h
  no-read stop.Write now leaves written h is = cc (is)
  no-read (stop.Failed cause) now leaves written h is = cc (is)
  no-read (stop.Unopened cause) now leaves written h is = absurd h

  pub end-read : (r : Result (Unit {0}) Stop) (now : StoreView) (leaves : Leaving) (written : Option (List ℕ)) (P : Type 0) → IfErr r (λ s. StopsEnd s old now leaves reached written) → IsErrOf r stop.Read → P
  end-read (Ok u) now leaves written P h is = absurd (cc (is))
  end-read (Err s) now leaves written P h is = absurd (no-read s now leaves written h (cc (is)))
