-- What was held after events, in parts.
use Rattle.std.proofs.Math.Seq.{take-suc}
use Rattle.std.proofs.Math.ListN.{get_or}
use Rattle.std.proofs.Common.{arith, suc, ◌+◌, ◌<◌, take, length, ◌≡◌, ℕ, List, [], ◌∷◌, ◌++◌, Option, Some, None, true, false, refl, sym, ◌∙◌, ap, fold}
use Rattle.std.proofs.lemmas.List.{append_assoc, append-nil}
use Rattle.disk_model.specs.declared.area.Area.{Area}
use Rattle.disk_model.specs.Areas.{Bytes, in_area, with_area, is_same}
use Rattle.disk_model.specs.Pending.{Change, Step, Held, Event, changed, after_step, replayed, elsewhere, after_event, after_change, after_sync, held_after, settled}
use Rattle.disk_model.proofs.Areas.{put_twice, in_put, same_is, in_apart, is_same_sym}
use Rattle.disk_model.proofs.Steps.{replayed-append, one_more, same_after_sync}
use Rattle.disk_model.proofs.Time.{held_after-push}

-- ---- one event
-- a change
pub at_change : (h : Held) (e : Event) (change : Change) → e.change ≡ Some change → after_event h e ≡ after_change h e.area change
at_change h e change is = rw is refl

-- a sync
pub at_sync : (h : Held) (e : Event) → e.change ≡ None → after_event h e ≡ after_sync h e.area
at_sync h e is = rw is refl

-- the past grows by the event, and what was there at first stays
pub first_stays : (h : Held) (e : Event) → (after_event h e).first ≡ h.first
first_stays h e = by e.change refl where
  by : (o : Option Change) → e.change ≡ o → (after_event h e).first ≡ h.first
  by (Some change) is = rw is refl
  by None is = rw is refl

pub past_grows : (h : Held) (e : Event) → (after_event h e).past ≡ h.past ++ e ∷ []
past_grows h e = by e.change refl where
  by : (o : Option Change) → e.change ≡ o → (after_event h e).past ≡ h.past ++ e ∷ []
  by (Some change) is = rw is refl
  by None is = rw is refl

-- what is read goes on by a change, and stays at a sync
pub reads_change : (h : Held) (now : Bytes) (e : Event) (change : Change) → e.change ≡ Some change → now ≡ replayed h.synced h.pending
    → after_step now (record { area = e.area; change = change }) ≡ replayed (after_event h e).synced (after_event h e).pending
reads_change h now e change is reads =
    one_more h.synced now h.pending (record { area = e.area; change = change }) reads
    ∙ sym (ap (λ (k : Held). replayed k.synced k.pending) (at_change h e change is))

pub reads_sync : (h : Held) (now : Bytes) (e : Event) → e.change ≡ None → now ≡ replayed h.synced h.pending
    → now ≡ replayed (after_event h e).synced (after_event h e).pending
reads_sync h now e is reads =
    same_after_sync h.synced now e.area h.pending reads
    ∙ ap (λ (b : Bytes). replayed (with_area h.synced e.area (in_area b e.area)) (elsewhere e.area h.pending)) reads
    ∙ sym (ap (λ (k : Held). replayed k.synced k.pending) (at_sync h e is))

-- ---- all of them
fold_first : (h : Held) (events : List Event) → (fold after_event h events).first ≡ h.first
fold_first h [] = refl
fold_first h (e ∷ later) = fold_first (after_event h e) later ∙ first_stays h e

fold_past : (h : Held) (events : List Event) → (fold after_event h events).past ≡ h.past ++ events
fold_past h [] = sym (append-nil h.past)
fold_past h (e ∷ later) =
    fold_past (after_event h e) later ∙ (ap (λ (es : List Event). es ++ later) (past_grows h e) ∙ append_assoc h.past (e ∷ []) later)

pub held_first : (first : Bytes) (events : List Event) → (held_after first events).first ≡ first
held_first first events = fold_first (settled first) events

pub held_past : (first : Bytes) (events : List Event) → (held_after first events).past ≡ events
held_past first events = fold_past (settled first) events

-- what is held tells what was done
pub held_again : (first : Bytes) (events : List Event) → held_after first events ≡ held_after (held_after first events).first (held_after first events).past
held_again first events = rw (held_first first events, held_past first events) refl

-- ---- the steps of an area that was synced
-- one step of the area
pub area_step : (b now : Bytes) (a : Area) (steps : List Step) (step : Step) → is_same step.area a ≡ true → now ≡ with_area b a (in_area (replayed b steps) a)
    → after_step now step ≡ with_area b a (in_area (replayed b (steps ++ step ∷ [])) a)
area_step b now a steps step here is =
    let r = replayed b steps in
    let e : step.area ≡ a = same_is step.area a here in
    let was : in_area now a ≡ in_area r a = ap (λ (n : Bytes). in_area n a) is ∙ in_put b a (in_area r a) in
    let more : in_area (replayed b (steps ++ step ∷ [])) a ≡ changed step.change (in_area r a)
    = ap (λ (n : Bytes). in_area n a) (replayed-append b steps (step ∷ []))
    ∙ (ap (λ (c : Area). in_area (with_area r c (changed step.change (in_area r c))) a) e ∙ in_put r a (changed step.change (in_area r a))) in
    ap (λ (c : Area). with_area now c (changed step.change (in_area now c))) e
    ∙ (ap (λ (x : List ℕ). with_area now a (changed step.change x)) was
    ∙ (ap (λ (n : Bytes). with_area n a (changed step.change (in_area r a))) is
    ∙ (put_twice b a (in_area r a) (changed step.change (in_area r a))
    ∙ ap (λ (x : List ℕ). with_area b a x) (sym more))))

-- a step of another one
pub other_step : (b now : Bytes) (a : Area) (steps : List Step) (step : Step) → is_same step.area a ≡ false → now ≡ with_area b a (in_area (replayed b steps) a)
    → now ≡ with_area b a (in_area (replayed b (steps ++ step ∷ [])) a)
other_step b now a steps step apart is =
    let r = replayed b steps in
    is ∙ ap (λ (x : List ℕ). with_area b a x)
    (sym (ap (λ (n : Bytes). in_area n a) (replayed-append b steps (step ∷ []))
    ∙ in_apart r step.area a (changed step.change (in_area r step.area)) (is_same_sym step.area a ∙ apart)))

-- ---- what is held, told by its own past
pub told_by_past : (h : Held) (first : Bytes) (events : List Event) → held_after first events ≡ h → h ≡ held_after h.first h.past
told_by_past h first events is =
    sym is ∙ (held_again first events ∙ ap (λ (k : Held). held_after k.first k.past) is)

-- ---- what is read, after one more event
pub after_one_change : (first now new : Bytes) (past more : List Event) (e : Event) (change : Change) → e.change ≡ Some change → more ≡ past ++ e ∷ []
    → now ≡ replayed (held_after first past).synced (held_after first past).pending
    → new ≡ after_step now (record { area = e.area; change = change })
    → new ≡ replayed (held_after first more).synced (held_after first more).pending
after_one_change first now new past more e change is grown reads made =
    made ∙ (reads_change (held_after first past) now e change is reads
    ∙ sym (ap (λ (es : List Event). replayed (held_after first es).synced (held_after first es).pending) grown
    ∙ ap (λ (k : Held). replayed k.synced k.pending) (held_after-push first past e)))

pub after_one_sync : (first now : Bytes) (past more : List Event) (e : Event) → e.change ≡ None → more ≡ past ++ e ∷ []
    → now ≡ replayed (held_after first past).synced (held_after first past).pending
    → now ≡ replayed (held_after first more).synced (held_after first more).pending
after_one_sync first now past more e is grown reads =
    reads_sync (held_after first past) now e is reads
    ∙ sym (ap (λ (es : List Event). replayed (held_after first es).synced (held_after first es).pending) grown
    ∙ ap (λ (k : Held). replayed k.synced k.pending) (held_after-push first past e))

-- ---- one turn of the loop over them
one_longer : (steps : List Step) (i : ℕ) (step : Step) → i < length steps → step ≡ get_or steps i step → take (i + 1) steps ≡ take i steps ++ step ∷ []
one_longer steps i step short is =
    let next : i + 1 ≡ suc i = omega arith in
    ap (λ (n : ℕ). take n steps) next ∙ (take-suc steps i step short ∙ ap (λ (s : Step). take i steps ++ s ∷ []) (sym is))

pub turn_here : (b now new : Bytes) (a : Area) (steps : List Step) (i : ℕ) (step : Step) → i < length steps → step ≡ get_or steps i step
    → is_same step.area a ≡ true → now ≡ with_area b a (in_area (replayed b (take i steps)) a) → new ≡ after_step now step
    → new ≡ with_area b a (in_area (replayed b (take (i + 1) steps)) a)
turn_here b now new a steps i step short is here so_far made =
    made ∙ (area_step b now a (take i steps) step here so_far
    ∙ sym (ap (λ (ss : List Step). with_area b a (in_area (replayed b ss) a)) (one_longer steps i step short is)))

pub turn_elsewhere : (b now : Bytes) (a : Area) (steps : List Step) (i : ℕ) (step : Step) → i < length steps → step ≡ get_or steps i step
    → is_same step.area a ≡ false → now ≡ with_area b a (in_area (replayed b (take i steps)) a)
    → now ≡ with_area b a (in_area (replayed b (take (i + 1) steps)) a)
turn_elsewhere b now a steps i step short is apart so_far =
    other_step b now a (take i steps) step apart so_far
    ∙ sym (ap (λ (ss : List Step). with_area b a (in_area (replayed b ss) a)) (one_longer steps i step short is))
