-- Touches of an open round: of what is kept of it, and of the round that a journal has.
use Rattle.std.proofs.Common.{◌≡◌, ◌≢◌, ne_eqb, ℕ, ◌&&◌, ◌||◌, ◌==◌, Bool, true, false, List, [], ◌∷◌, refl, sym, ap, ◌∙◌, subst, true≢false}
use Rattle.std.specs.Prelude.{Contains, filter, fold, option_map, if◌then◌else◌, Option, Some, None}
use Rattle.store_model.specs.Core.{Round, Core}
use Rattle.store_model.specs.Sound.{IsSound}
use Rattle.store_model.specs.Steps.{IsTouched}
use Rattle.store_model.proofs.CollectSound.{touch-sound}
use Rattle.ref_tables.specs.Queue.{has}
use Rattle.red_walk.specs.Walk.{Walk, IsWalk, is_open, touched_at}
use Rattle.red_walk.specs.Rounds.{round_of as walked, Touches}
use Rattle.red_walk.proofs.Filters.{filter-among}
use Rattle.red_walk.proofs.RoundLaws.{touched-law}
use Rattle.green_walk.specs.Greening.{Greening, GreenStage, AtSeed, AtInto, AtOut, IsPlace, IsGreening, again}
use Rattle.log_record.specs.declared.cell_record.CellRecord.TheVariants.{Undo}
use Rattle.log_record.specs.Records.{payload_place}
use Rattle.core_store.specs.RoundView.{RoundView, Closed, Walking, Sweeping, round_of, touched_in, touched_by_record, IsInStep}
use Rattle.core_store.specs.Tables.{TablesView}
use Rattle.core_store.specs.Stands.{Stands}
use Rattle.core_store.specs.Touched.{touch, round_after}
use Rattle.core_store.proofs.RestLaws.{round-same}

-- ---- the round of a view

walked-touched : (w : Walk) (id : ℕ) → w.left ≡ w.list → walked (touched_at w id) ≡ touch (walked w) id
walked-touched w id whole = by (is_open w && has w.left id) refl
  where
    by : (b : Bool) → (is_open w && has w.left id) ≡ b → walked (touched_at w id) ≡ touch (walked w) id
    by true e = rw e (ap (λ (xs : List ℕ). record (walked w) { touched = filter (λ x. (x == id) || has w.touched x) xs }) (sym whole))
    by false e = rw e refl

pub round_of-touch : (slots ids : ℕ) (v : RoundView) (id : ℕ) → IsInStep slots ids v → round_of (touched_in v id) ≡ option_map (λ r. touch r id) (round_of v)
round_of-touch slots ids Closed id k = refl
round_of-touch slots ids (Walking w) id k = ap Some (walked-touched w id k.whole)
round_of-touch slots ids (Sweeping w s slot g) id k = refl

round_after-cons : (o : Option Round) (x : ℕ) (xs : List ℕ) → round_after (option_map (λ r. touch r x) o) xs ≡ round_after o (x ∷ xs)
round_after-cons None x xs = refl
round_after-cons (Some r) x xs = refl

-- ---- what is kept

walk-touch : (slots : ℕ) (w : Walk) (id : ℕ) → IsWalk slots w → IsWalk slots (touched_at w id)
walk-touch slots w id k = by (is_open w && has w.left id) refl
  where
    by : (b : Bool) → (is_open w && has w.left id) ≡ b → IsWalk slots (touched_at w id)
    by true e = rw e (record {
      ids = k.ids;
      slot_within = k.slot_within;
      slot_count = k.slot_count;
      left_listed = k.left_listed;
      touched_listed = λ x m. filter-among (λ y. (y == id) || has w.touched y) w.list x m;
      in_order = k.in_order;
      quiet = k.quiet;
    })
    by false e = rw e k

limit-touch : (w : Walk) (id : ℕ) → (touched_at w id).limit ≡ w.limit
limit-touch w id = by (is_open w && has w.left id) refl
  where
    by : (b : Bool) → (is_open w && has w.left id) ≡ b → (touched_at w id).limit ≡ w.limit
    by true e = rw e refl
    by false e = rw e refl

whole-touch : (w : Walk) (id : ℕ) → w.left ≡ w.list → (touched_at w id).left ≡ (touched_at w id).list
whole-touch w id whole = by (is_open w && has w.left id) refl
  where
    by : (b : Bool) → (is_open w && has w.left id) ≡ b → (touched_at w id).left ≡ (touched_at w id).list
    by true e = rw e whole
    by false e = rw e whole

-- a green walk that begins its test again is one
again-greening : (g : Greening) → IsGreening g → IsGreening (again g)
again-greening g k = record {
  slot_count = k.slot_count;
  live_ids = k.live_ids;
  green_ids = k.green_ids;
  green_live = k.green_live;
  seeds_live = k.seeds_live;
  seeds_few = k.seeds_few;
  walked_few = k.walked_few;
  copied_few = k.copied_few;
  copied_within = k.copied_within;
  place = by g.stage k.place;
  tests = tt;
}
  where
    by : (st : GreenStage) → IsPlace g st → IsPlace (again g) st
    by AtSeed p = tt
    by (AtInto flipped rest) p = (refl, p.1, p.2, p.3, p.4)
    by (AtOut place slot) p = p

pub in_step-touch : (slots ids : ℕ) (v : RoundView) (id : ℕ) → IsInStep slots ids v → IsInStep slots ids (touched_in v id)
in_step-touch slots ids Closed id k = tt
in_step-touch slots ids (Walking w) id k = record { walk = walk-touch slots w id k.walk; limit = limit-touch w id ∙ k.limit; whole = whole-touch w id k.whole }
in_step-touch slots ids (Sweeping w s slot g) id k = record {
  walk = k.walk;
  limit = k.limit;
  sweep = k.sweep;
  sweep_limit = k.sweep_limit;
  within = k.within;
  greens = record {
    greening = again-greening g k.greens.greening;
    green_limit = k.greens.green_limit;
    green_slots = k.greens.green_slots;
    left = k.greens.left;
    spared = k.greens.spared;
    at_rest = λ n. refl;
  };
}

-- ---- after several touches

pub round_of-touched : (slots ids : ℕ) (v : RoundView) (xs : List ℕ) → IsInStep slots ids v → round_of (fold touched_in v xs) ≡ round_after (round_of v) xs
round_of-touched slots ids v [] k = sym (round-same (round_of v))
round_of-touched slots ids v (x ∷ xs) k =
    round_of-touched slots ids (touched_in v x) xs (in_step-touch slots ids v x k)
    ∙ (ap (λ (o : Option Round). round_after o xs) (round_of-touch slots ids v x k) ∙ round_after-cons (round_of v) x xs)

pub in_step-touched : (slots ids : ℕ) (v : RoundView) (xs : List ℕ) → IsInStep slots ids v → IsInStep slots ids (fold touched_in v xs)
in_step-touched slots ids v [] k = k
in_step-touched slots ids v (x ∷ xs) k = in_step-touched slots ids (touched_in v x) xs (in_step-touch slots ids v x k)

-- ---- marks

-- what was touched has its mark
pub mark-here : (slots ids : ℕ) (v : RoundView) (id : ℕ) → IsInStep slots ids v → IsTouched (round_of (touched_in v id)) id
mark-here slots ids Closed id k = tt
mark-here slots ids (Walking w) id k = (touched-law slots w id k.walk).marked k.whole
mark-here slots ids (Sweeping w s slot g) id k = λ early copy m. absurd (true≢false early)

-- a mark stays where another object is touched
pub mark-later : (slots ids : ℕ) (v : RoundView) (id x : ℕ) → IsInStep slots ids v → IsTouched (round_of v) x → IsTouched (round_of (touched_in v id)) x
mark-later slots ids Closed id x k t = tt
mark-later slots ids (Walking w) id x k t = λ early copy m. touches.grown x (t refl copy (subst (λ (r : Round). Contains r.copies (x, copy)) touches.others m))
  where
    touches : Touches w (touched_at w id) id
    touches = touched-law slots w id k.walk
mark-later slots ids (Sweeping w s slot g) id x k t = t

pub marks-later : (slots ids : ℕ) (v : RoundView) (xs : List ℕ) (x : ℕ) → IsInStep slots ids v → IsTouched (round_of v) x → IsTouched (round_of (fold touched_in v xs)) x
marks-later slots ids v [] x k t = t
marks-later slots ids v (y ∷ ys) x k t = marks-later slots ids (touched_in v y) ys x (in_step-touch slots ids v y k) (mark-later slots ids v y x k t)

-- ---- a journal stays sound with more marks

pub touch_one-sound : (slots ids : ℕ) (v : RoundView) (id : ℕ) (c : Core) → IsInStep slots ids v → round_of v ≡ c.round → IsSound c → IsSound (record c { round = round_of (touched_in v id) })
touch_one-sound slots ids Closed id c k e s = subst (λ (o : Option Round). IsSound (record c { round = o })) (sym e) s
touch_one-sound slots ids (Walking w) id c k e s =
    subst (λ (r : Round). IsSound (record c { round = Some r })) (sym touches.others) (touch-sound c s (walked w) (sym e) (touched_at w id).touched touches.grown)
  where
    touches : Touches w (touched_at w id) id
    touches = touched-law slots w id k.walk
touch_one-sound slots ids (Sweeping w s slot g) id c k e sound = subst (λ (o : Option Round). IsSound (record c { round = o })) (sym e) sound

pub touch_all-sound : (slots ids : ℕ) (v : RoundView) (xs : List ℕ) (c : Core) → IsInStep slots ids v → round_of v ≡ c.round → IsSound c → IsSound (record c { round = round_of (fold touched_in v xs) })
touch_all-sound slots ids v [] c k e s = subst (λ (o : Option Round). IsSound (record c { round = o })) (sym e) s
touch_all-sound slots ids v (x ∷ xs) c k e s =
    touch_all-sound slots ids (touched_in v x) xs (record c { round = round_of (touched_in v x) }) (in_step-touch slots ids v x k) refl (touch_one-sound slots ids v x c k e s)

-- ---- the three objects of a changed slot

-- all three have their marks after the touches
pub record TouchesThree (v : RoundView) (id old target : ℕ) : Type 0 where
  pub «first» : IsTouched (round_of (fold touched_in v (id ∷ old ∷ target ∷ []))) id
  pub second : IsTouched (round_of (fold touched_in v (id ∷ old ∷ target ∷ []))) old
  pub third : IsTouched (round_of (fold touched_in v (id ∷ old ∷ target ∷ []))) target

pub touched-three : (slots ids : ℕ) (v : RoundView) (id old target : ℕ) → IsInStep slots ids v → TouchesThree v id old target
touched-three slots ids v id old target k =
    let v1 = touched_in v id in
    let k1 = in_step-touch slots ids v id k in
    let v2 = touched_in v1 old in
    let k2 = in_step-touch slots ids v1 old k1 in
    record {
      «first» = marks-later slots ids v1 (old ∷ target ∷ []) id k1 (mark-here slots ids v id k);
      second = marks-later slots ids v2 (target ∷ []) old k2 (mark-here slots ids v1 old k1);
      third = mark-here slots ids v2 target k2;
    }

-- the round after the touches is the journal's
pub round-touched : (slots : ℕ) (v : TablesView) (c : Core) → Stands slots v c → (xs : List ℕ) → round_of (fold touched_in v.round xs) ≡ round_after c.round xs
round-touched slots v c h xs = round_of-touched slots v.ids v.round xs h.in_step ∙ ap (λ (o : Option Round). round_after o xs) h.round

-- ---- the tables after the undo of a slot

-- the objects that the record of the undo of a slot concerns
touched-undo : (v : RoundView) (pass id slot «from» : ℕ) (strong : Bool) (to : ℕ) (bit : Bool) → slot ≢ payload_place → touched_in (touched_in (touched_in v id) «from») to ≡ touched_by_record v (Some (Undo pass slot strong bit id «from» to))
touched-undo v pass id slot «from» strong to bit n = ap (λ (b : Bool). fold touched_in v (if b then [] else id ∷ «from» ∷ to ∷ [])) (sym (ne_eqb slot payload_place n))

pub view-touched : (w v : TablesView) (zeros : List Bool) (pass id slot old «from» : ℕ) (strong : Bool) (to : ℕ) (bit : Bool) → w ≡ record v { zeros = zeros; round = touched_in (touched_in (touched_in v.round id) old) to } → «from» ≡ old → slot ≢ payload_place
    → w ≡ record v { zeros = w.zeros; round = touched_by_record v.round (Some (Undo pass slot strong bit id «from» to)) }
view-touched w v zeros pass id slot old «from» strong to bit is same n =
    is ∙ (ap (λ (z : List Bool). let y : TablesView = record v { zeros = z; round = touched_in (touched_in (touched_in v.round id) old) to } in y) (sym (ap (λ (y : TablesView). y.zeros) is))
    ∙ ap (λ (r : RoundView). let y : TablesView = record v { zeros = w.zeros; round = r } in y) (ap (λ (x : ℕ). touched_in (touched_in (touched_in v.round id) x) to) (sym same) ∙ touched-undo v.round pass id slot «from» strong to bit n))

-- the marks are as they were before the touches
pub marks-touched : (w v : TablesView) (zeros : List Bool) (r : RoundView) → w ≡ record v { zeros = zeros; round = r } → zeros ≡ w.zeros
marks-touched w v zeros r is = sym (ap (λ (y : TablesView). y.zeros) is)
