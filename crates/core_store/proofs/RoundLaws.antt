-- How the parts of a round are read off what is seen of it, and that each change keeps them in step.
use Rattle.std.proofs.Common.{◌≡◌, ◌≢◌, ℕ, ◌+◌, ◌-◌, ◌*◌, ◌<◌, ◌≤◌, ◌==◌, Bool, true, false, not, List, length, drop, Option, Some, None, refl, sym, ap, ◌∙◌, subst, arith, eq-eqb, ne_eqb, ⊎_elim}
use Rattle.std.specs.Prelude.{Contains, IfSome}
use Rattle.std.proofs.lemmas.Nat.{mul-le}
use Rattle.std.proofs.lemmas.List.{length-drop}
use Rattle.std.proofs.Math.Arith.{lt_of_le-ne}
use Rattle.cell_page.specs.Format.{IsSlotCount}
use Rattle.red_walk.specs.Walk.{Walk, IsWalk, removed}
use Rattle.red_walk.proofs.Filters.{among-filter}
use Rattle.green_walk.specs.declared.sweep.SweepAt.TheVariants as sweep
use Rattle.green_walk.specs.declared.sweep.Found.{Found}
use Rattle.green_walk.specs.declared.sweep.Found.TheVariants.{Nothing, Made}
use Rattle.green_walk.specs.declared.green_at.Test.{Test}
use Rattle.green_walk.specs.Judged.{Judged}
use Rattle.green_walk.specs.Sweeping.{SweepState as Sweep, IsSweep, next as next_of_sweep, found, found_at}
use Rattle.green_walk.specs.Greening.{Greening, GreenStage, AtSeed, AtInto, AtOut, IsGreening, IsPlace, IsAnswer, IsTestable, next as next_of_green, found as found_by_green, testing, tested, tested_to, walked_to, again, work_left, work_at, seed_work, walk_work}
use Rattle.green_walk.specs.GreenLaws.{IsSameWalk}
use Rattle.green_walk.proofs.SweepLaws.{free-law}
use Rattle.green_walk.proofs.GreenAsked.{Contains-drop}
use Rattle.green_walk.proofs.GreenAnswers.{found-law, testing-law, tested-law, test-law}
use Rattle.green_walk.proofs.JumpLaws.{tested-to-law, walked-to-law}
use Rattle.core_store.specs.declared.round.Stage.{Stage}
use Rattle.core_store.specs.declared.round.Stage.TheVariants as stage
use Rattle.core_store.specs.declared.round_at.RoundAt.{RoundAt}
use Rattle.core_store.specs.declared.round_at.RoundAt.TheVariants as at
use Rattle.core_store.specs.RoundView.{RoundView, Rounds, Walking, Sweeping, asked, asked_by_sweep, to_slot, green_to, swept_to, looked_to, IsGreenAnswer, IsGreenTestable, IsInStep}
use Rattle.core_store.specs.RoundInside.{view_of_round, AreInStep}
use Rattle.core_store.proofs.AskedGreen.{IsAskedBy}
use Rattle.core_store.proofs.AskedLaws.{IsGreenAt, asked-cut, asked-free, asked-by_green}

-- the walk of a round that walks
pub walk-of : (a : Stage) (w : Walk) (s : Sweep) (slot : ℕ) (g : Greening) (u : Walk) → view_of_round a w s slot g ≡ Walking u → w ≡ u
walk-of stage.Closed w s slot g u e = absurd (cc)
walk-of stage.Walking w s slot g u e = cc
walk-of stage.Sweeping w s slot g u e = absurd (cc)

-- the parts of a round that sweeps
pub sweeping-of : (a : Stage) (w v : Walk) (s t : Sweep) (slot k : ℕ) (g h : Greening) → view_of_round a w s slot g ≡ Sweeping v t k h → (a ≡ stage.Sweeping) × (w ≡ v) × (s ≡ t) × (slot ≡ k) × (g ≡ h)
sweeping-of stage.Closed w v s t slot k g h e = absurd (cc)
sweeping-of stage.Walking w v s t slot k g h e = absurd (cc)
sweeping-of stage.Sweeping w v s t slot k g h e = (refl, cc, cc, cc, cc)

-- ---- what is asked for

-- the sweep asked for an object's slots
pub cut-asked : (a : Stage) (w : Walk) (s : Sweep) (slot id k : ℕ) (g : Greening) → asked (view_of_round a w s slot g) ≡ at.Cut id k → (a ≡ stage.Sweeping) × (next_of_sweep s ≡ sweep.Slots id)
cut-asked a w s slot id k g e =
    let x = asked-cut (view_of_round a w s slot g) id k e in
    let p = sweeping-of a w x.0 s x.1 slot k g x.2 x.3 in
    (p.0, ap next_of_sweep p.2 ∙ x.4)

-- it asked for an object to be freed
pub free-asked : (a : Stage) (w : Walk) (s : Sweep) (slot id : ℕ) (g : Greening) → asked (view_of_round a w s slot g) ≡ at.Free id → (a ≡ stage.Sweeping) × (next_of_sweep s ≡ sweep.Free id)
free-asked a w s slot id g e =
    let x = asked-free (view_of_round a w s slot g) id e in
    let p = sweeping-of a w x.0 s x.1 slot x.2 g x.3 x.4 in
    (p.0, ap next_of_sweep p.2 ∙ x.5)

-- the green walk asked for something
pub green-asked : (a : Stage) (w : Walk) (s : Sweep) (slot : ℕ) (r : RoundAt) (g : Greening) → IsGreenAt r → asked (view_of_round a w s slot g) ≡ r → (a ≡ stage.Sweeping) × (next_of_sweep s ≡ sweep.End) × IsAskedBy g.slots g.test (next_of_green g) r
green-asked a w s slot r g green e =
    let x = asked-by_green (view_of_round a w s slot g) r green e in
    let p = sweeping-of a w x.0 s x.1 slot x.2 g x.3 x.4 in
    (p.0, ap next_of_sweep p.2 ∙ x.5, subst (λ (h : Greening). IsAskedBy h.slots h.test (next_of_green h) r) (sym p.4) x.7)

-- a test is in hand where the green walk asked for one of its slots
pub test-asked : (a : Stage) (w : Walk) (s : Sweep) (slot id k : ℕ) (g : Greening) → IsGreening g → asked (view_of_round a w s slot g) ≡ at.Test id k → (next_of_sweep s ≡ sweep.End) × (t : Test) × (g.test ≡ Some t) × (t.slot < g.slots)
test-asked a w s slot id k g sound e =
    let x = asked-by_green (view_of_round a w s slot g) (at.Test id k) tt e in
    let p = sweeping-of a w x.0 s x.1 slot x.2 g x.3 x.4 in
    by (subst (λ (h : Greening). IsAskedBy h.slots h.test (next_of_green h) (at.Test id k)) (sym p.4) x.7) (ap next_of_sweep p.2 ∙ x.5)
  where
    by : IsAskedBy g.slots g.test (next_of_green g) (at.Test id k) → next_of_sweep s ≡ sweep.End → (next_of_sweep s ≡ sweep.End) × (t : Test) × (g.test ≡ Some t) × (t.slot < g.slots)
    by asks end = (end, asks.0, asks.1, lt_of_le-ne (test-law g asks.0 sound asks.1).1 asks.4)

-- which goes on with the next slot
pub test-in-hand : (slots : ℕ) (a : Stage) (w : Walk) (s : Sweep) (slot id k : ℕ) (g : Greening) → IsGreening g → g.slots ≡ slots → asked (view_of_round a w s slot g) ≡ at.Test id k → IfSome g.test (λ t. t.slot < slots)
test-in-hand slots a w s slot id k g sound same e =
    let x = test-asked a w s slot id k g sound e in
    subst (λ (test : Option Test). IfSome test (λ t. t.slot < slots)) (sym x.2) (subst (λ n. x.1.slot < n) same x.3)

-- the answer is one to the green walk
pub answer-of : (a : Stage) (w : Walk) (s : Sweep) (slot : ℕ) (g : Greening) (what : Found) → IsGreenAnswer (view_of_round a w s slot g) what → (next_of_sweep s ≡ sweep.End) × IsAnswer g (next_of_green g) what
answer-of stage.Closed w s slot g what h = absurd h
answer-of stage.Walking w s slot g what h = absurd h
answer-of stage.Sweeping w s slot g what h = h

-- the object may be tested
pub testable-of : (a : Stage) (w : Walk) (s : Sweep) (slot : ℕ) (g : Greening) (id : ℕ) → IsGreenTestable (view_of_round a w s slot g) id → (next_of_sweep s ≡ sweep.End) × IsTestable g (next_of_green g) id
testable-of stage.Closed w s slot g id h = absurd h
testable-of stage.Walking w s slot g id h = absurd h
testable-of stage.Sweeping w s slot g id h = h

-- ---- the round goes on to a slot further on

-- where the green walk asks for a slot, the round goes on to another one as it does
pub green-goes : (slots : ℕ) (w : Walk) (s : Sweep) (slot n : ℕ) (g : Greening) (r : RoundAt) → next_of_sweep s ≡ sweep.End → asked (Sweeping w s slot g) ≡ r → looked_to slots (Sweeping w s slot g) n ≡ Sweeping w s slot (green_to g n r)
green-goes slots w s slot n g r rest e =
    ap (swept_to slots w s slot g n) rest ∙ ap (λ (b : RoundAt). Sweeping w s slot (green_to g n b)) (sym (ap (asked_by_sweep slot g) rest) ∙ e)

green-view-at : (slots : ℕ) (a : Stage) (w : Walk) (s : Sweep) (slot n : ℕ) (g : Greening) (r : RoundAt) → a ≡ stage.Sweeping → next_of_sweep s ≡ sweep.End → asked (view_of_round a w s slot g) ≡ r → view_of_round a w s slot (green_to g n r) ≡ looked_to slots (view_of_round a w s slot g) n
green-view-at slots stage.Closed w s slot n g r same rest e = absurd (cc)
green-view-at slots stage.Walking w s slot n g r same rest e = absurd (cc)
green-view-at slots stage.Sweeping w s slot n g r same rest e = sym (green-goes slots w s slot n g r rest e)

pub green-view : (slots : ℕ) (a : Stage) (w : Walk) (s : Sweep) (slot n : ℕ) (g : Greening) (r : RoundAt) → IsGreenAt r → asked (view_of_round a w s slot g) ≡ r → view_of_round a w s slot (green_to g n r) ≡ looked_to slots (view_of_round a w s slot g) n
green-view slots a w s slot n g r green e = let x = green-asked a w s slot r g green e in green-view-at slots a w s slot n g r x.0 x.1 e

-- so it does where the sweep asks for a slot
cut-view-at : (slots : ℕ) (a : Stage) (w : Walk) (s : Sweep) (slot id n : ℕ) (g : Greening) → a ≡ stage.Sweeping → next_of_sweep s ≡ sweep.Slots id → looked_to slots (view_of_round a w s slot g) n ≡ to_slot slots w s n g
cut-view-at slots stage.Closed w s slot id n g same e = absurd (cc)
cut-view-at slots stage.Walking w s slot id n g same e = absurd (cc)
cut-view-at slots stage.Sweeping w s slot id n g same e = ap (swept_to slots w s slot g n) e

pub cut-view : (slots : ℕ) (a : Stage) (w : Walk) (s : Sweep) (slot id k n : ℕ) (g : Greening) → asked (view_of_round a w s slot g) ≡ at.Cut id k → looked_to slots (view_of_round a w s slot g) n ≡ to_slot slots w s n g
cut-view slots a w s slot id k n g e = let x = cut-asked a w s slot id k g e in cut-view-at slots a w s slot id n g x.0 x.1

-- the same, as it is seen
pub green-rounds : (slots ids : ℕ) (a : Stage) (w : Walk) (s : Sweep) (slot n : ℕ) (g h : Greening) (r : RoundAt) (seen : Rounds) → (let x : Rounds = record { limit = ids; view = view_of_round a w s slot g } in x) ≡ seen → IsGreenAt r → asked seen.view ≡ r → h ≡ green_to g n r
    → (let x : Rounds = record { limit = ids; view = view_of_round a w s slot h } in x) ≡ record seen { view = looked_to slots seen.view n }
green-rounds slots ids a w s slot n g h r seen v green e is =
    let after : view_of_round a w s slot h ≡ looked_to slots (view_of_round a w s slot g) n = ap (view_of_round a w s slot) is ∙ green-view slots a w s slot n g r green (ap (λ (x : Rounds). asked x.view) v ∙ e) in
    subst (λ (x : Rounds). (let y : Rounds = record { limit = ids; view = view_of_round a w s slot h } in y) ≡ record x { view = looked_to slots x.view n }) v (ap (λ (q : RoundView). let x : Rounds = record { limit = ids; view = q } in x) after)

sweeping-view : (a : Stage) (w : Walk) (s : Sweep) (slot : ℕ) (g : Greening) → a ≡ stage.Sweeping → view_of_round a w s slot g ≡ Sweeping w s slot g
sweeping-view a w s slot g e = ap (λ (b : Stage). view_of_round b w s slot g) e

cut-rounds : (slots ids : ℕ) (a : Stage) (w : Walk) (s t : Sweep) (slot id i n k : ℕ) (g : Greening) (seen : Rounds) → (let x : Rounds = record { limit = ids; view = view_of_round a w s slot g } in x) ≡ seen → asked seen.view ≡ at.Cut id i → to_slot slots w s n g ≡ Sweeping w t k g
    → (let x : Rounds = record { limit = ids; view = view_of_round a w t k g } in x) ≡ record seen { view = looked_to slots seen.view n }
cut-rounds slots ids a w s t slot id i n k g seen v e is =
    let here = ap (λ (x : Rounds). asked x.view) v ∙ e in
    let after : view_of_round a w t k g ≡ looked_to slots (view_of_round a w s slot g) n = sweeping-view a w t k g (cut-asked a w s slot id i g here).0 ∙ (sym is ∙ sym (cut-view slots a w s slot id i n g here)) in
    subst (λ (x : Rounds). (let y : Rounds = record { limit = ids; view = view_of_round a w t k g } in y) ≡ record x { view = looked_to slots x.view n }) v (ap (λ (q : RoundView). let x : Rounds = record { limit = ids; view = q } in x) after)

pub cut-on : (slots ids : ℕ) (a : Stage) (w : Walk) (s t : Sweep) (slot id i n : ℕ) (g : Greening) (seen : Rounds) → (let x : Rounds = record { limit = ids; view = view_of_round a w s slot g } in x) ≡ seen → asked seen.view ≡ at.Cut id i → n ≡ slots → t ≡ found s Nothing
    → (let x : Rounds = record { limit = ids; view = view_of_round a w t 0 g } in x) ≡ record seen { view = looked_to slots seen.view n }
cut-on slots ids a w s t slot id i n g seen v e last behind =
    let all : (n == slots) ≡ true = eq-eqb n slots last in
    cut-rounds slots ids a w s t slot id i n 0 g seen v e (rw all (ap (λ (x : Sweep). Sweeping w x 0 g) (sym behind)))

pub cut-within : (slots ids : ℕ) (a : Stage) (w : Walk) (s : Sweep) (slot id i n : ℕ) (g : Greening) (seen : Rounds) → (let x : Rounds = record { limit = ids; view = view_of_round a w s slot g } in x) ≡ seen → asked seen.view ≡ at.Cut id i → n ≢ slots
    → (let x : Rounds = record { limit = ids; view = view_of_round a w s n g } in x) ≡ record seen { view = looked_to slots seen.view n }
cut-within slots ids a w s slot id i n g seen v e other =
    let some : (n == slots) ≡ false = ne_eqb n slots other in
    cut-rounds slots ids a w s s slot id i n n g seen v e (rw some refl)

-- ---- the parts stay in step

-- what holds of every open round
pub open-in-step : (slots ids : ℕ) (a : Stage) (w : Walk) (locked : List Bool) (j : Judged) (s : Sweep) (slot : ℕ) (g : Greening) → AreInStep slots ids a w locked j s slot g → IsInStep slots ids (view_of_round a w s slot g)
open-in-step slots ids stage.Closed w locked j s slot g k = tt
open-in-step slots ids stage.Walking w locked j s slot g k = record { walk = k.walk_sound; limit = k.walk_limit; whole = k.whole refl }
open-in-step slots ids stage.Sweeping w locked j s slot g k =
    record {
      walk = k.walk_sound;
      limit = k.walk_limit;
      sweep = k.sweep_sound;
      sweep_limit = k.sweep_limit;
      within = k.within;
      greens = record { greening = k.green_sound; green_limit = k.green_limit; green_slots = k.green_slots; left = k.left refl; spared = k.spared refl; at_rest = k.at_rest refl };
    }

-- another green walk of the same objects
green-in-step : (slots ids : ℕ) (a : Stage) (w : Walk) (locked : List Bool) (j : Judged) (s : Sweep) (slot : ℕ) (g h : Greening) → AreInStep slots ids a w locked j s slot g → IsGreening h → IsSameWalk g h → (next_of_sweep s ≢ sweep.End → h.test ≡ None) → AreInStep slots ids a w locked j s slot h
green-in-step slots ids a w locked j s slot g h k sound same rest =
    record {
      walk_sound = k.walk_sound;
      sweep_sound = k.sweep_sound;
      green_sound = sound;
      walk_limit = k.walk_limit;
      locked_limit = k.locked_limit;
      verdict_limit = k.verdict_limit;
      sweep_limit = k.sweep_limit;
      few = k.few;
      within = k.within;
      whole = k.whole;
      green_limit = same.limit ∙ k.green_limit;
      green_slots = same.slots ∙ k.green_slots;
      left = λ e id m. k.left e id (subst (λ (xs : List ℕ). Contains xs id) same.live m);
      spared = λ e id m. k.spared e id (subst (λ (xs : List ℕ). Contains xs id) same.live m);
      at_rest = λ e. rest;
    }

pub found-in-step : (slots ids : ℕ) (a : Stage) (w : Walk) (locked : List Bool) (j : Judged) (s : Sweep) (slot : ℕ) (g : Greening) (what : Found) → AreInStep slots ids a w locked j s slot g → IsGreening (found_by_green g what) → IsGreenAnswer (view_of_round a w s slot g) what → AreInStep slots ids a w locked j s slot (found_by_green g what)
found-in-step slots ids a w locked j s slot g what k after h =
    let answer = answer-of a w s slot g what h in
    green-in-step slots ids a w locked j s slot g (found_by_green g what) k after (found-law g what k.green_sound answer.1).0 (λ other. absurd (other answer.0))

pub testing-in-step : (slots ids : ℕ) (a : Stage) (w : Walk) (locked : List Bool) (j : Judged) (s : Sweep) (slot : ℕ) (g : Greening) (id : ℕ) → AreInStep slots ids a w locked j s slot g → IsGreening (testing g id) → IsGreenTestable (view_of_round a w s slot g) id → AreInStep slots ids a w locked j s slot (testing g id)
testing-in-step slots ids a w locked j s slot g id k after h =
    let there = testable-of a w s slot g id h in
    green-in-step slots ids a w locked j s slot g (testing g id) k after (testing-law g id k.green_sound there.1).0 (λ other. absurd (other there.0))

pub tested-in-step : (slots ids : ℕ) (a : Stage) (w : Walk) (locked : List Bool) (j : Judged) (s : Sweep) (slot id n : ℕ) (g : Greening) → AreInStep slots ids a w locked j s slot g → IsGreening (tested g) → asked (view_of_round a w s slot g) ≡ at.Test id n → AreInStep slots ids a w locked j s slot (tested g)
tested-in-step slots ids a w locked j s slot id n g k after e =
    let x = test-asked a w s slot id n g k.green_sound e in
    green-in-step slots ids a w locked j s slot g (tested g) k after (tested-law g x.1 k.green_sound x.2 x.3).0 (λ other. absurd (other x.0))

-- a test and a walk of green objects go on to a slot further on
pub tested-to-in-step : (slots ids : ℕ) (a : Stage) (w : Walk) (locked : List Bool) (j : Judged) (s : Sweep) (slot id n to : ℕ) (g : Greening) → AreInStep slots ids a w locked j s slot g → IsGreening (tested_to g to) → asked (view_of_round a w s slot g) ≡ at.Test id n → AreInStep slots ids a w locked j s slot (tested_to g to)
tested-to-in-step slots ids a w locked j s slot id n to g k after e =
    let x = test-asked a w s slot id n g k.green_sound e in
    green-in-step slots ids a w locked j s slot g (tested_to g to) k after (tested-to-law g x.1 to to x.2).2 (λ other. absurd (other x.0))

pub walked-to-in-step : (slots ids : ℕ) (a : Stage) (w : Walk) (locked : List Bool) (j : Judged) (s : Sweep) (slot id n to : ℕ) (g : Greening) → AreInStep slots ids a w locked j s slot g → IsGreening (walked_to g to) → asked (view_of_round a w s slot g) ≡ at.Out id n → AreInStep slots ids a w locked j s slot (walked_to g to)
walked-to-in-step slots ids a w locked j s slot id n to g k after e =
    let x = green-asked a w s slot (at.Out id n) g tt e in
    green-in-step slots ids a w locked j s slot g (walked_to g to) k after (walked-to-law g id n to to x.2.0).2 (λ other. absurd (other x.1))

pub again-in-step : (slots ids : ℕ) (a : Stage) (w : Walk) (locked : List Bool) (j : Judged) (s : Sweep) (slot : ℕ) (g : Greening) → AreInStep slots ids a w locked j s slot g → IsGreening (again g) → AreInStep slots ids a w locked j s slot (again g)
again-in-step slots ids a w locked j s slot g k after = green-in-step slots ids a w locked j s slot g (again g) k after (record { live = refl; slots = refl; limit = refl }) (λ other. refl)

-- the sweep goes on after an object
pub cut-in-step : (slots ids : ℕ) (a : Stage) (w : Walk) (locked : List Bool) (j : Judged) (s : Sweep) (slot id : ℕ) (g : Greening) → AreInStep slots ids a w locked j s slot g → IsSweep (found s Nothing) → next_of_sweep s ≡ sweep.Slots id → AreInStep slots ids a w locked j (found s Nothing) 0 g
cut-in-step slots ids a w locked j s slot id g k after e =
    subst (λ (t : Sweep). AreInStep slots ids a w locked j t 0 g) (sym (ap (λ n. found_at s n Nothing) e)) (record {
      walk_sound = k.walk_sound;
      sweep_sound = subst IsSweep (ap (λ n. found_at s n Nothing) e) after;
      green_sound = k.green_sound;
      walk_limit = k.walk_limit;
      locked_limit = k.locked_limit;
      verdict_limit = k.verdict_limit;
      sweep_limit = k.sweep_limit;
      few = k.few;
      within = some;
      whole = k.whole;
      green_limit = k.green_limit;
      green_slots = k.green_slots;
      left = k.left;
      spared = k.spared;
      at_rest = λ sweeps other. k.at_rest sweeps (λ end. absurd (cc));
    })
  where
    some : 0 < slots
    some = let below = k.within in omega (arith, below)

-- it goes on with another slot of the object
pub at-slot-in-step : (slots ids : ℕ) (a : Stage) (w : Walk) (locked : List Bool) (j : Judged) (s : Sweep) (slot n : ℕ) (g : Greening) → AreInStep slots ids a w locked j s slot g → n ≤ slots → n ≢ slots → AreInStep slots ids a w locked j s n g
at-slot-in-step slots ids a w locked j s slot n g k few other =
    record {
      walk_sound = k.walk_sound;
      sweep_sound = k.sweep_sound;
      green_sound = k.green_sound;
      walk_limit = k.walk_limit;
      locked_limit = k.locked_limit;
      verdict_limit = k.verdict_limit;
      sweep_limit = k.sweep_limit;
      few = k.few;
      within = lt_of_le-ne few other;
      whole = k.whole;
      green_limit = k.green_limit;
      green_slots = k.green_slots;
      left = k.left;
      spared = k.spared;
      at_rest = k.at_rest;
    }

-- with the next one
pub slot-in-step : (slots ids : ℕ) (a : Stage) (w : Walk) (locked : List Bool) (j : Judged) (s : Sweep) (slot : ℕ) (g : Greening) → AreInStep slots ids a w locked j s slot g → slot + 1 ≢ slots → AreInStep slots ids a w locked j s (slot + 1) g
slot-in-step slots ids a w locked j s slot g k other = let below = k.within in at-slot-in-step slots ids a w locked j s slot (slot + 1) g k (omega (arith, below)) other

-- an object is freed, which is none of those that live
pub freed-in-step : (slots ids : ℕ) (a : Stage) (w : Walk) (locked : List Bool) (j : Judged) (s : Sweep) (slot id : ℕ) (g : Greening) → AreInStep slots ids a w locked j s slot g → IsWalk slots (removed w id) → IsSweep (found s (Made id)) → a ≡ stage.Sweeping → next_of_sweep s ≡ sweep.Free id → AreInStep slots ids a (removed w id) locked j (found s (Made id)) slot g
freed-in-step slots ids a w locked j s slot id g k walks_on swept sweeps e =
    subst (λ (t : Sweep). AreInStep slots ids a (removed w id) locked j t slot g) (sym (ap (λ n. found_at s n (Made id)) e)) (record {
      walk_sound = walks_on;
      sweep_sound = subst IsSweep (ap (λ n. found_at s n (Made id)) e) swept;
      green_sound = k.green_sound;
      walk_limit = k.walk_limit;
      locked_limit = k.locked_limit;
      verdict_limit = k.verdict_limit;
      sweep_limit = k.sweep_limit;
      few = k.few;
      within = k.within;
      whole = λ walks. absurd (cc);
      green_limit = k.green_limit;
      green_slots = k.green_slots;
      left = λ is x m. among-filter (λ y. not (y == id)) w.left x (k.left is x m) (ap not (ne_eqb x id (λ same. k.spared is x m (subst (λ y. Contains s.list y) (sym same) condemned))));
      spared = k.spared;
      at_rest = λ is other. k.at_rest is (λ end. absurd (cc));
    })
  where
    condemned : Contains s.list id
    condemned = Contains-drop s.freed s.list id (free-law s id k.sweep_sound e).0

-- ---- how much is left

-- what is left of a green walk over so few objects is a number of a machine
pub work-few : (g : Greening) → IsGreening g → g.limit ≤ 8192 → g.slots ≤ 14 → work_left g ≤ 20000000000
work-few g k limit slots = omega (arith, all, few)
  where
    live : length g.live ≤ 8192
    live = let most = k.live_ids.most in omega (arith, most, limit)

    looks : length g.live * g.slots ≤ 8192 * 14
    looks = mul-le (length g.live) g.slots 8192 14 live slots

    walks : walk_work g ≤ 1835008
    walks = mul-le (length g.live * g.slots) (g.slots + 2) 114688 16 looks (omega (arith, slots))

    copied : length g.copied ≤ 114688
    copied = let c = k.copied_few in let m = mul-le g.limit g.slots 8192 14 limit slots in omega (arith, c, m)

    each : seed_work g ≤ 1949715
    each = omega (arith, walks, copied, slots)

    seeds : length g.seeds ≤ 8192
    seeds = let c = k.seeds_few in omega (arith, c, limit)

    few : (length g.seeds + 1) * seed_work g ≤ 8193 * 1949715
    few = mul-le (length g.seeds + 1) (seed_work g) 8193 1949715 (omega (arith, seeds)) each

    rest : length (drop 1 g.seeds) * seed_work g ≤ length g.seeds * seed_work g
    rest = let l = length-drop 1 g.seeds in mul-le (length (drop 1 g.seeds)) (seed_work g) (length g.seeds) (seed_work g) (omega (arith, l)) (omega arith)

    one-more : (length g.seeds + 1) * seed_work g ≡ length g.seeds * seed_work g + seed_work g
    one-more = grind arith

    by : (s : GreenStage) → IsPlace g s → work_at g s ≤ (length g.seeds + 1) * seed_work g
    by AtSeed p = omega (arith, one-more)
    by (AtInto flipped ahead) p = let few = p.4 in omega (arith, one-more, rest, few)
    by (AtOut place slot) p =
        let less = mul-le (length g.live * g.slots - (place * g.slots + slot)) (g.slots + 2) (length g.live * g.slots) (g.slots + 2) (omega arith) (omega arith) in
        omega (arith, one-more, rest, less)

    all : work_left g ≤ (length g.seeds + 1) * seed_work g
    all = by g.stage k.place

pub slots-few : (slots : ℕ) → IsSlotCount slots → slots ≤ 14
slots-few slots k = ⊎_elim (λ (e : slots ≡ 6). omega (arith, e)) (λ (e : slots ≡ 14). omega (arith, e)) k

-- so is what is left of the sweep
pub sweep-few : (slots unemptied slot : ℕ) → slots ≤ 14 → unemptied < 4294967296 → slots * unemptied - slot ≤ 60129542144
sweep-few slots unemptied slot few less = let m = mul-le slots unemptied 14 4294967296 few (omega (arith, less)) in omega (arith, m)
