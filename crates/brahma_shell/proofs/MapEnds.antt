-- What follows from how lines over a map end.
use Rattle.std.proofs.Common.{◌≡◌, ◌⊎◌, ⊎_elim, inl, inr, ℕ, ◌+◌, true, List, [], ◌∷◌, Option, Some, None, refl, sym, ap, ◌∙◌, subst, arith}
use Rattle.disk_model.specs.Areas.{Bytes}
use Rattle.disk_model.specs.Causes.{Rose}
use Rattle.store_opening.specs.declared.open_refusal.OpenRefusal.{OpenRefusal}
use Rattle.store_opening.specs.declared.open_refusal.OpenRefusal.TheVariants as refusal
use Rattle.map_calls.specs.declared.grammar.Line.{Line}
use Rattle.map_calls.specs.declared.grammar.Line.TheVariants as line
use Rattle.map_calls.specs.Grammar.{IsRefused}
use Rattle.map_calls.specs.declared.failure.Failure.{Failure}
use Rattle.map_calls.specs.declared.failure.Failure.TheVariants as failure
use Rattle.map_calls.specs.declared.failure.Unopened.TheVariants as unopened
use Rattle.map_calls.specs.Maps.{MapState}
use Rattle.map_calls.specs.Views.{StoreView, Leaving, LeavesOne, LeavesEither, status_of_failure, status_of_refusal}
use Rattle.map_script.specs.declared.stop.Stop.{Stop}
use Rattle.map_script.specs.declared.stop.Stop.TheVariants as stop
use Rattle.map_script.specs.Machine.{Does, LeadsTo}
use Rattle.map_script.specs.Following.{Follows, ComesTo, StopsAt}
use Rattle.map_script.specs.Mapped.{Mapped, EndsWell, CutsEnd, EndsStopped, Streams}
use Rattle.map_script.specs.Stopping.{StopsScript, LeavesAfter, HasCause, IsOfStreams, status_of}
use Rattle.brahma_shell.specs.MapRan.{HasOnlyMapLines}
use Rattle.brahma_shell.specs.Top.{IsStatusOfReplay, IsDoneOrFull}

-- ---- the store has as many ids after the lines as before

does_ids : (told : Type 0) → told → (asked : Line) (m n : MapState) (text : List ℕ) → Does told asked m n text → n.ids ≡ m.ids
does_ids told t line.Nothing m n text d = ap (λ (x : MapState). x.ids) d.0
does_ids told t (line.Put key value) m n text d = ⊎_elim (λ p. p.0.ids) (λ p. ap (λ (x : MapState). x.ids) p.1) d
does_ids told t (line.Get key) m n text d = ap (λ (x : MapState). x.ids) d.0
does_ids told t (line.Delete key) m n text d = d.0.ids
does_ids told t line.List m n text d = ap (λ (x : MapState). x.ids) d.0
does_ids told t (line.Crash pick) m n text d = ap (λ (x : MapState). x.ids) (d.0 t)

follows_ids : (told : Type 0) → told → (number : ℕ) (lines : List (List ℕ)) (m n : MapState) (text : List ℕ) → Follows told number lines m n text → n.ids ≡ m.ids
follows_ids told t number [] m n text f = ap (λ (x : MapState). x.ids) f.0
follows_ids told t number (l ∷ lines) m n text f = follows_ids told t (number + 1) lines f.0 n f.2 f.5 ∙ does_ids told t f.4.0 m f.0 f.1 f.4.2

-- ---- what a power loss leaves then

-- a store of so many ids that keeps a map
abbrev Keeps : Leaving → Bytes → ℕ → Type 0
Keeps l image ids = (m : MapState) × (m.ids ≡ ids) × l.keeps image m

keeps_one : (l : Leaving) (m : MapState) (image : Bytes) → LeavesOne l m → l.left image → Keeps l image m.ids
keeps_one l m image h is = (m, refl, h image is)

-- a line leads to a map in a store of as many ids
leads_ids : (asked : Line) (m n : MapState) → LeadsTo asked m n → n.ids ≡ m.ids
leads_ids line.Nothing m n d = ap (λ (x : MapState). x.ids) d
leads_ids (line.Put key value) m n d = d.ids
leads_ids (line.Get key) m n d = ap (λ (x : MapState). x.ids) d
leads_ids (line.Delete key) m n d = d.ids
leads_ids line.List m n d = ap (λ (x : MapState). x.ids) d
leads_ids (line.Crash pick) m n d = ap (λ (x : MapState). x.ids) d

keeps_either : (l : Leaving) (m : MapState) (asked : Line) (image : Bytes) → LeavesEither l m (LeadsTo asked m) → l.left image → Keeps l image m.ids
keeps_either l m asked image h is = ⊎_elim
    (λ (k : l.keeps image m). (m, refl, k))
    (λ (k : (n : MapState) × LeadsTo asked m n × l.keeps image n). (k.0, leads_ids asked m k.0 k.1, k.2))
    (h image is)

keeps_after : (told : Type 0) → told → (s : Stop) (source : Option (List ℕ)) (done : List (List ℕ)) (reached : MapState) (l : Leaving) → LeavesAfter told s source done reached l → (image : Bytes) → l.left image → Keeps l image reached.ids
keeps_after told t (stop.Line number) source done reached l h image is = keeps_one l reached image h is
keeps_after told t stop.Read source done reached l h image is = keeps_one l reached image h is
keeps_after told t stop.Write source done reached l h image is = keeps_one l reached image h is
keeps_after told t (stop.Failed failure.Disk) source done reached l h image is = ⊎_elim
    (λ (k : LeavesOne l reached). keeps_one l reached image k is)
    (λ (k : (asked : Line) × ComesTo source done asked × LeavesEither l reached (LeadsTo asked reached)). keeps_either l reached k.0 image k.2 is)
    h
keeps_after told t (stop.Failed failure.HistoryFull) source done reached l h image is = keeps_one l reached image h is
keeps_after told t (stop.Failed failure.LogFull) source done reached l h image is = keeps_one l reached image h is
keeps_after told t (stop.Failed failure.Memory) source done reached l h image is = keeps_one l reached image h is
keeps_after told t (stop.Unopened cause) source done reached l h image is = keeps_one l reached image (h t) is

module _ (told : Type 0) (before after : Streams) (first now : StoreView) (l : Leaving) (status : ℕ) (m : Mapped told before after first now l status) where
  abbrev Well : Type 0
  Well = EndsWell told before.left after.left first now l before.written after.written

  abbrev Stopped : Stop → Type 0
  Stopped s = EndsStopped told s before after first now l

  -- ---- the store

  pub mapped_keeps : told → (image : Bytes) → l.left image → Keeps l image first.map.ids
  mapped_keeps t image is = ⊎_elim
      (λ (w : (status ≡ 0) × Well). well w.1.goes.left (follows_ids told t 1 w.1.done first.map now.map w.1.text w.1.follows))
      (λ (h : (s : Stop) × (status ≡ status_of s) × Stopped s). ⊎_elim
      (λ (k : StopsScript told h.0 before.left after.left first now l before.written h.2.written).
      subst (λ n. Keeps l image n) (follows_ids told t 1 k.done first.map k.reached k.text k.follows) (keeps_after told t h.0 before.left k.done k.reached l k.kept image is))
      (λ (k : (h.0 ≡ stop.Write) × CutsEnd told before.left after.left first now l before.written h.2.written).
      well k.1.goes.left (follows_ids told t 1 k.1.done first.map now.map k.1.text k.1.follows))
      h.2.stops)
      m
    where
      well : LeavesOne l now.map → now.map.ids ≡ first.map.ids → Keeps l image first.map.ids
      well g e = subst (λ n. Keeps l image n) e (keeps_one l now.map image g is)

  -- ---- the statuses

  of_failure : (f : Failure) → status ≡ status_of_failure f → IsStatusOfReplay status
  of_failure failure.Disk e = inr (inr (inr (inr (inl e))))
  of_failure failure.HistoryFull e = inr (inr (inr (inr (inr (inr (inr e))))))
  of_failure failure.LogFull e = inr (inr (inr (inr (inr (inr (inr e))))))
  of_failure failure.Memory e = inr (inr (inr (inr (inr (inr (inl e))))))

  of_refusal : (r : OpenRefusal) → status ≡ status_of_refusal r → IsStatusOfReplay status
  of_refusal refusal.Disk e = inr (inr (inr (inr (inl e))))
  of_refusal (refusal.Damaged place at) e = inr (inr (inr (inr (inr (inl e)))))
  of_refusal refusal.NoStore e = inr (inr (inr (inr (inr (inl e)))))
  of_refusal (refusal.UnknownVersion byte) e = inr (inr (inr (inr (inr (inl e)))))
  of_refusal (refusal.Unsound id rule) e = inr (inr (inr (inr (inr (inl e)))))
  of_refusal refusal.Memory e = inr (inr (inr (inr (inr (inr (inl e))))))
  of_refusal refusal.LogFull e = inr (inr (inr (inr (inr (inr (inr e))))))

  of_stop : (s : Stop) → status ≡ status_of s → IsStatusOfReplay status
  of_stop (stop.Line number) e = inr (inl e)
  of_stop stop.Read e = inr (inr (inl e))
  of_stop stop.Write e = inr (inr (inr (inl e)))
  of_stop (stop.Failed cause) e = of_failure cause e
  of_stop (stop.Unopened unopened.Power) e = inr (inr (inr (inr (inl e))))
  of_stop (stop.Unopened (unopened.Refused r)) e = of_refusal r e
  of_stop (stop.Unopened (unopened.NoMap id)) e = inr (inr (inr (inr (inr (inl e)))))
  of_stop (stop.Unopened (unopened.Unread cause)) e = of_failure cause e

  pub mapped_status : IsStatusOfReplay status
  mapped_status = ⊎_elim (λ (w : (status ≡ 0) × Well). inl w.0) (λ (h : (s : Stop) × (status ≡ status_of s) × Stopped s). of_stop h.0 h.1) m

  -- ---- why it stopped

  failure_seven : (f : Failure) → status_of_failure f ≡ 7 → ⊥
  failure_seven failure.Disk e = absurd (omega (arith, e))
  failure_seven failure.HistoryFull e = absurd (omega (arith, e))
  failure_seven failure.LogFull e = absurd (omega (arith, e))
  failure_seven failure.Memory e = absurd (omega (arith, e))

  script_cause : (s : Stop) → Stopped s → HasCause told s first now
  script_cause s h = ⊎_elim
      (λ (k : StopsScript told s before.left after.left first now l before.written h.written). k.cause)
      (λ (k : (s ≡ stop.Write) × CutsEnd told before.left after.left first now l before.written h.written). subst (λ (x : Stop). HasCause told x first now) (sym k.0) tt)
      h.stops

  seven_from : (s : Stop) → status_of s ≡ 7 → HasCause told s first now → told → ⊥
  seven_from (stop.Line number) e c t = absurd (omega (arith, e))
  seven_from stop.Read e c t = absurd (omega (arith, e))
  seven_from stop.Write e c t = absurd (omega (arith, e))
  seven_from (stop.Failed f) e c t = failure_seven f e
  seven_from (stop.Unopened cause) e c t = c.1 t e

  pub mapped_untold : status ≡ 7 → told → ⊥
  mapped_untold seven t = ⊎_elim
      (λ (w : (status ≡ 0) × Well). (let z = w.0 in absurd (omega (arith, seven, z))))
      (λ (h : (s : Stop) × (status ≡ status_of s) × Stopped s). seven_from h.0 (sym h.1 ∙ seven) (script_cause h.0 h.2) t)
      m

  six_from : (s : Stop) → status_of s ≡ 6 → HasCause told s first now → Rose first.faults now.faults
  six_from (stop.Line number) e c = absurd (omega (arith, e))
  six_from stop.Read e c = absurd (omega (arith, e))
  six_from stop.Write e c = absurd (omega (arith, e))
  six_from (stop.Failed failure.Disk) e c = c
  six_from (stop.Failed failure.HistoryFull) e c = absurd (omega (arith, e))
  six_from (stop.Failed failure.LogFull) e c = absurd (omega (arith, e))
  six_from (stop.Failed failure.Memory) e c = absurd (omega (arith, e))
  six_from (stop.Unopened cause) e c = c.0 e

  pub mapped_rose : status ≡ 6 → Rose first.faults now.faults
  mapped_rose six = ⊎_elim
      (λ (w : (status ≡ 0) × Well). (let z = w.0 in absurd (omega (arith, six, z))))
      (λ (h : (s : Stop) × (status ≡ status_of s) × Stopped s). six_from h.0 (sym h.1 ∙ six) (script_cause h.0 h.2))
      m

  -- ---- where the store takes no calls any more

  shut_failure : (f : Failure) → status ≡ status_of_failure f → (status ≡ 6) ⊎ ((status ≡ 7) ⊎ ((status ≡ 8) ⊎ (status ≡ 9)))
  shut_failure failure.Disk e = inl e
  shut_failure failure.HistoryFull e = inr (inr (inr e))
  shut_failure failure.LogFull e = inr (inr (inr e))
  shut_failure failure.Memory e = inr (inr (inl e))

  shut_refusal : (r : OpenRefusal) → status ≡ status_of_refusal r → (status ≡ 6) ⊎ ((status ≡ 7) ⊎ ((status ≡ 8) ⊎ (status ≡ 9)))
  shut_refusal refusal.Disk e = inl e
  shut_refusal (refusal.Damaged place at) e = inr (inl e)
  shut_refusal refusal.NoStore e = inr (inl e)
  shut_refusal (refusal.UnknownVersion byte) e = inr (inl e)
  shut_refusal (refusal.Unsound id rule) e = inr (inl e)
  shut_refusal refusal.Memory e = inr (inr (inl e))
  shut_refusal refusal.LogFull e = inr (inr (inr e))

  shut_stop : (s : Stop) → status ≡ status_of s → (IsOfStreams s → ⊥) → (status ≡ 6) ⊎ ((status ≡ 7) ⊎ ((status ≡ 8) ⊎ (status ≡ 9)))
  shut_stop (stop.Line number) e n = absurd (n tt)
  shut_stop stop.Read e n = absurd (n tt)
  shut_stop stop.Write e n = absurd (n tt)
  shut_stop (stop.Failed f) e n = shut_failure f e
  shut_stop (stop.Unopened unopened.Power) e n = inl e
  shut_stop (stop.Unopened (unopened.Refused r)) e n = shut_refusal r e
  shut_stop (stop.Unopened (unopened.NoMap id)) e n = inr (inl e)
  shut_stop (stop.Unopened (unopened.Unread f)) e n = shut_failure f e

  pub mapped_shut : (now.running ≡ true → ⊥) → (status ≡ 6) ⊎ ((status ≡ 7) ⊎ ((status ≡ 8) ⊎ (status ≡ 9)))
  mapped_shut off = ⊎_elim
      (λ (w : (status ≡ 0) × Well). absurd (off w.1.goes.running))
      (λ (h : (s : Stop) × (status ≡ status_of s) × Stopped s). ⊎_elim
      (λ (k : StopsScript told h.0 before.left after.left first now l before.written h.2.written). shut_stop h.0 h.1 (λ n. off (k.goes n).0.running))
      (λ (k : (h.0 ≡ stop.Write) × CutsEnd told before.left after.left first now l before.written h.2.written). absurd (off k.1.goes.running))
      h.2.stops)
      m

  -- ---- what can be done is done

  only_lines : (source : Option (List ℕ)) (done : List (List ℕ)) (number : ℕ) → HasOnlyMapLines source → StopsAt source done number → ⊥
  only_lines None done number only at = only
  only_lines (Some bytes) done number only at = only done at.1.1 at.1.0 at.1.2 (subst (λ n. IsRefused n at.1.0) at.0 at.1.3)

  full_failure : (f : Failure) → status ≡ status_of_failure f → (status ≡ 6 → ⊥) → IsDoneOrFull status ⊎ (status ≡ 7)
  full_failure failure.Disk e n = absurd (n e)
  full_failure failure.HistoryFull e n = inl (inr (inr e))
  full_failure failure.LogFull e n = inl (inr (inr e))
  full_failure failure.Memory e n = inl (inr (inl e))

  full_refusal : (r : OpenRefusal) → status ≡ status_of_refusal r → (status ≡ 6 → ⊥) → IsDoneOrFull status ⊎ (status ≡ 7)
  full_refusal refusal.Disk e n = absurd (n e)
  full_refusal (refusal.Damaged place at) e n = inr e
  full_refusal refusal.NoStore e n = inr e
  full_refusal (refusal.UnknownVersion byte) e n = inr e
  full_refusal (refusal.Unsound id rule) e n = inr e
  full_refusal refusal.Memory e n = inl (inr (inl e))
  full_refusal refusal.LogFull e n = inl (inr (inr e))

  line_stops : (s : Stop) → Stopped s → (number : ℕ) → s ≡ stop.Line number → (done : List (List ℕ)) × StopsAt before.left done number
  line_stops s h number e = ⊎_elim
      (λ (k : StopsScript told s before.left after.left first now l before.written h.written). at s k e)
      (λ (k : (s ≡ stop.Write) × CutsEnd told before.left after.left first now l before.written h.written). absurd (let q = sym k.0 ∙ e in cc (q)))
      h.stops
    where
      at : (x : Stop) → StopsScript told x before.left after.left first now l before.written h.written → x ≡ stop.Line number → (done : List (List ℕ)) × StopsAt before.left done number
      at x k q = (let y : StopsScript told (stop.Line number) before.left after.left first now l before.written h.written = subst (λ (z : Stop). StopsScript told z before.left after.left first now l before.written h.written) q k in (y.done, y.there))

  stops_done : (s : Stop) → status ≡ status_of s → Stopped s → HasOnlyMapLines before.left → ¬ Rose before.read_faults after.read_faults → ¬ Rose before.write_faults after.write_faults → (status ≡ 6 → ⊥) → IsDoneOrFull status ⊎ (status ≡ 7)
  stops_done (stop.Line number) e h only r w n = (let k = line_stops (stop.Line number) h number refl in absurd (only_lines before.left k.0 number only k.1))
  stops_done stop.Read e h only r w n = absurd (r (h.read refl))
  stops_done stop.Write e h only r w n = absurd (w (h.write refl))
  stops_done (stop.Failed f) e h only r w n = full_failure f e n
  stops_done (stop.Unopened unopened.Power) e h only r w n = absurd (n e)
  stops_done (stop.Unopened (unopened.Refused x)) e h only r w n = full_refusal x e n
  stops_done (stop.Unopened (unopened.NoMap id)) e h only r w n = inr e
  stops_done (stop.Unopened (unopened.Unread f)) e h only r w n = full_failure f e n

  pub mapped_done : HasOnlyMapLines before.left → ¬ Rose before.read_faults after.read_faults → ¬ Rose before.write_faults after.write_faults → ¬ Rose first.faults now.faults → IsDoneOrFull status ⊎ (status ≡ 7)
  mapped_done only r w f = ⊎_elim
      (λ (x : (status ≡ 0) × Well). inl (inl x.0))
      (λ (h : (s : Stop) × (status ≡ status_of s) × Stopped s). stops_done h.0 h.1 h.2 only r w (λ six. f (mapped_rose six)))
      m
