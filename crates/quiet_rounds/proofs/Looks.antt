-- Looks leave quiet rounds quiet.
use Rattle.std.proofs.Common.{◌≡◌, ◌≢◌, ℕ, ◌+◌, ◌<◌, ◌≤◌, ◌==◌, ◌&&◌, if◌then◌else◌, Bool, true, false, List, [], ◌∷◌, length, drop, get_or, Option, Some, None, refl, sym, ap, ◌∙◌, subst, arith, ⊎_elim, true≢false, eq-eqb}
use Rattle.std.specs.Prelude.{Contains, IfSome}
use Rattle.std.specs.Option.{option_map_or}
use Rattle.std.proofs.lemmas.Bool.{eqb-true, eqb-false, cases_lt}
use Rattle.std.proofs.lemmas.List.{get_or-drop}
use Rattle.cell_model.specs.Cells.{Cell, cell_at, pointer_at}
use Rattle.store_model.specs.Core.{Round, Core}
use Rattle.store_model.specs.Sound.{IsSound}
use Rattle.red_walk.specs.declared.red_at.RedAt.{RedAt}
use Rattle.red_walk.specs.declared.red_at.RedAt.TheVariants as red
use Rattle.red_walk.specs.Walk.{Walk, first_of, next as next_of_walk, moved}
use Rattle.green_walk.specs.declared.green_at.GreenAt.{GreenAt}
use Rattle.green_walk.specs.declared.green_at.GreenAt.TheVariants as green
use Rattle.green_walk.specs.declared.green_at.Test.{Test}
use Rattle.green_walk.specs.declared.sweep.SweepAt.{SweepAt}
use Rattle.green_walk.specs.declared.sweep.SweepAt.TheVariants as sweep
use Rattle.green_walk.specs.declared.sweep.Found.TheVariants.{Nothing, Strong}
use Rattle.green_walk.specs.Sweeping.{SweepState as Sweep, next as next_of_sweep, found as found_in_sweep, found_at}
use Rattle.green_walk.specs.Greening.{GreenStage, AtSeed, AtInto, AtOut, Greening, IsGreening, IsPlace, IsTesting, IsAnswer, IsTestable, waits, settled, next, found, testing, tested}
use Rattle.green_walk.specs.GreenLaws.{IsSameWalk, TestedGreeningLaw}
use Rattle.green_walk.proofs.GreenAsked.{waits-live}
use Rattle.green_walk.proofs.GreenSteps.{settled-waits, found-greening}
use Rattle.green_walk.proofs.GreenTests.{testing-greening}
use Rattle.green_walk.proofs.GreenAnswers.{found-law, testing-law, tested-law}
use Rattle.core_store.specs.Changes.{is_counted_strong, has_no_strong}
use Rattle.core_store.specs.declared.round_at.RoundAt.{RoundAt}
use Rattle.core_store.specs.declared.round_at.RoundAt.TheVariants as at
use Rattle.core_store.specs.RoundView.{RoundView, Closed, Walking, Sweeping, round_of, asked, asked_by_walk, asked_by_green, asked_by_sweep, is_event, next_slot, looked_past, passed_by_green, passed_by_sweep, Passes, none, more, IsInStep}
use Rattle.quiet_rounds.specs.Quiet.{HasNoStrongIn, IsQuietWalk, IsToWeaken, IsQuietSweep, IsQuietRound}
use Rattle.quiet_rounds.specs.Laws.{QuietLooksLaw}
use Rattle.quiet_rounds.proofs.Settled.{quiet-settled, waits-out}
use Rattle.quiet_rounds.proofs.Nothing.{IsWalkOf, IsIdle, quiet-nothing, quiet-tested}

-- ---- looks of the green walk

-- there was nothing to do, a test began, or it went on by one slot
data Looks (cells : List Cell) (g : Greening) : Greening → Type 0 where
  nothing : IsIdle cells (settled g) (next g) → Looks cells g (found g Nothing)
  begins : (id : ℕ) → IsTestable g (next g) id → Looks cells g (testing g id)
  goes_on : (t : Test) → g.test ≡ Some t → t.slot < g.slots → Looks cells g (tested g)

-- where slots may lead to a flipped object, no test is in hand
weaken-untested : (g : Greening) (st : GreenStage) (t : Test) (id slot target : ℕ) → IsPlace g st → g.test ≡ Some t → IsToWeaken st id slot target → ⊥
weaken-untested g AtSeed t id slot target p e led = led
weaken-untested g (AtInto flipped rest) t id slot target p e led = absurd (let both : Some t ≡ None = sym e ∙ p.0 in cc)
weaken-untested g (AtOut place k) t id slot target p e led = led

below : (n most : ℕ) → n ≤ most → n ≢ most → n < most
below n most l d = grind arith

-- what waits is white
module _ (cells : List Cell) (slots : ℕ) (w : Walk) (s : Sweep) (g : Greening) (i : IsWalkOf cells slots w g) (k : IsQuietSweep cells slots w s g) where
  waiting-zero : (id : ℕ) → waits g id ≡ true → has_no_strong (cell_at cells id) ≡ true
  waiting-zero id e = eq-eqb (cell_at cells id).strong 0 (k.zero id (i.left id (waits-live g id e)) (waits-out g id e))

  idle-seed : (id : ℕ) → next g ≡ green.Seed id → waits g id ≡ false → IsIdle cells (settled g) (next g)
  idle-seed id n e = subst (IsIdle cells (settled g)) (sym n) (settled-waits g id ∙ e)

  idle-out : («from» slot : ℕ) → next g ≡ green.Out «from» slot → waits g (pointer_at cells «from» slot).target ≡ false → IsIdle cells (settled g) (next g)
  idle-out «from» slot n e = subst (IsIdle cells (settled g)) (sym n) (settled-waits g (pointer_at cells «from» slot).target ∙ e)

  look-seed : (id : ℕ) → next g ≡ green.Seed id → (b z : Bool) → waits g id ≡ b → has_no_strong (cell_at cells id) ≡ z → Looks cells g (if b && z then testing g id else found g (if b then Strong else Nothing))
  look-seed id n true true e f = begins id (subst (λ (a : GreenAt). IsTestable g a id) (sym n) (refl, e))
  look-seed id n true false e f = absurd (true≢false (sym (waiting-zero id e) ∙ f))
  look-seed id n false z e f = nothing (idle-seed id n e)

  look-out : («from» slot : ℕ) → next g ≡ green.Out «from» slot → (b z : Bool) → waits g (pointer_at cells «from» slot).target ≡ b → has_no_strong (cell_at cells (pointer_at cells «from» slot).target) ≡ z
      → Looks cells g (if b && z then testing g (pointer_at cells «from» slot).target else found g Nothing)
  look-out «from» slot n true true e f = begins (pointer_at cells «from» slot).target (subst (λ (a : GreenAt). IsTestable g a (pointer_at cells «from» slot).target) (sym n) e)
  look-out «from» slot n true false e f = absurd (true≢false (sym (waiting-zero (pointer_at cells «from» slot).target e) ∙ f))
  look-out «from» slot n false z e f = nothing (idle-out «from» slot n e)

  -- no strong pointer leads out of a tested object
  test-weak : (t : Test) → g.test ≡ Some t → IsTesting g t → (b : Bool) → is_counted_strong cells (pointer_at cells t.id t.slot) ≡ b → b ≡ false
  test-weak t e h false f = refl
  test-weak t e h true f =
      absurd (weaken-untested g g.stage t t.id t.slot (pointer_at cells t.id t.slot).target i.greening.place e (k.none_out t.id t.slot (i.left t.id (waits-live g t.id h.waits)) (waits-out g t.id h.waits) f))

  -- what a test asks for before its end is a look
  look-test : (t : Test) → g.test ≡ Some t → (last : RoundAt) → is_event cells last ≡ true → (b : Bool) → (t.slot == g.slots) ≡ b → is_event cells (if b then last else at.Test t.id t.slot) ≡ false → Looks cells g (passed_by_green cells g (if b then last else at.Test t.id t.slot))
  look-test t e last event true f idle = absurd (true≢false (sym event ∙ idle))
  look-test t e last event false f idle =
      let h : IsTesting g t = subst (λ (o : Option Test). IfSome o (IsTesting g)) e i.greening.tests in
      let weak = test-weak t e h (is_counted_strong cells (pointer_at cells t.id t.slot)) refl in
      subst (λ (b : Bool). Looks cells g (if b then found g Nothing else tested g)) (sym weak) (goes_on t e (below t.slot g.slots h.within (eqb-false t.slot g.slots f)))

  look-asked : (o : Option Test) (n : GreenAt) → g.test ≡ o → next g ≡ n → is_event cells (asked_by_green g.slots o n) ≡ false → Looks cells g (passed_by_green cells g (asked_by_green g.slots o n))
  look-asked None (green.Seed id) e n idle = look-seed id n (waits g id) (has_no_strong (cell_at cells id)) refl refl
  look-asked (Some t) (green.Seed id) e n idle = look-test t e (at.Flip id) refl (t.slot == g.slots) refl idle
  look-asked o (green.Into «from» slot to) e n idle = nothing (subst (IsIdle cells (settled g)) (sym n) idle)
  look-asked None (green.Out «from» slot) e n idle = look-out «from» slot n (waits g (pointer_at cells «from» slot).target) (has_no_strong (cell_at cells (pointer_at cells «from» slot).target)) refl refl
  look-asked (Some t) (green.Out «from» slot) e n idle = look-test t e (at.Strengthen «from» slot t.id) refl (t.slot == g.slots) refl idle
  look-asked o green.End e n idle = absurd (cc)

  looks : is_event cells (asked_by_green g.slots g.test (next g)) ≡ false → Looks cells g (passed_by_green cells g (asked_by_green g.slots g.test (next g)))
  looks idle = look-asked g.test (next g) refl refl idle

-- ---- what they leave

tested-greening : TestedGreeningLaw
tested-greening g t k e l = grind arith

idle-answer : (cells : List Cell) (g h : Greening) (n : GreenAt) → IsIdle cells g n → IsAnswer h n Nothing
idle-answer cells g h (green.Seed id) idle = tt
idle-answer cells g h (green.Into «from» slot to) idle = tt
idle-answer cells g h (green.Out «from» slot) idle = tt
idle-answer cells g h green.End idle = absurd idle

same-of : (cells : List Cell) (slots : ℕ) (w : Walk) (g h : Greening) → IsWalkOf cells slots w g → IsSameWalk g h → IsGreening h → IsWalkOf cells slots w h
same-of cells slots w g h i same kept = record { greening = kept; slots_are = same.slots ∙ i.slots_are; left = λ id m. i.left id (subst (λ (xs : List ℕ). Contains xs id) same.live m); long = i.long }

looks-of : (cells : List Cell) (slots : ℕ) (w : Walk) (g h : Greening) → IsWalkOf cells slots w g → Looks cells g h → IsWalkOf cells slots w h
looks-of cells slots w g _ i (nothing idle) =
    let a = idle-answer cells (settled g) g (next g) idle in
    same-of cells slots w g (found g Nothing) i (found-law g Nothing i.greening a).0 (found-greening g Nothing i.greening a)
looks-of cells slots w g _ i (begins id a) = same-of cells slots w g (testing g id) i (testing-law g id i.greening a).0 (testing-greening g id i.greening a)
looks-of cells slots w g _ i (goes_on t e l) = same-of cells slots w g (tested g) i (tested-law g t i.greening e l).0 (tested-greening g t i.greening e l)

looks-quiet : (cells : List Cell) (slots : ℕ) (w : Walk) (s : Sweep) (g h : Greening) → next_of_sweep s ≡ sweep.End → IsWalkOf cells slots w g → IsQuietSweep cells slots w s g → Looks cells g h → IsQuietSweep cells slots w s h
looks-quiet cells slots w s g _ ends i k (nothing idle) = quiet-nothing cells slots w s ends g i k idle
looks-quiet cells slots w s g _ ends i k (begins id a) = quiet-tested cells slots w s ends (settled g) (Some (record { id = id; slot = 0 })) (quiet-settled cells slots w s g i.greening k)
looks-quiet cells slots w s g _ ends i k (goes_on t e l) = quiet-tested cells slots w s ends g (tested g).test k

-- ---- a look of the sweep

-- what holds of a round that is quiet, over looks
abbrev pub IsQuietIn : ℕ → List Cell → RoundView → Type 0
IsQuietIn slots cells Closed = Unit {0}
IsQuietIn slots cells (Walking w) = IsQuietWalk slots cells w
IsQuietIn slots cells (Sweeping w s slot g) = IsWalkOf cells slots w g × IsQuietSweep cells slots w s g

-- the sweep goes on
swept : (cells : List Cell) (slots : ℕ) (w : Walk) (s : Sweep) (id : ℕ) (g : Greening) → next_of_sweep s ≡ sweep.Slots id → IsQuietSweep cells slots w s g → IsQuietSweep cells slots w (found_in_sweep s Nothing) g
swept cells slots w s id g e k =
    let same : found_in_sweep s Nothing ≡ record s { emptied = s.emptied + 1 } = ap (λ (a : SweepAt). found_at s a Nothing) e in
    let begun = k.sweeping (λ ends. absurd (let both : sweep.Slots id ≡ sweep.End = sym e ∙ ends in cc)) in
    subst (λ (x : Sweep). IsQuietSweep cells slots w x g) (sym same) (record {
      zero = k.zero;
      none_out = k.none_out;
      green = k.green;
      seeds = k.seeds;
      copied = k.copied;
      current = k.current;
      walked = k.walked;
      at_seed = k.at_seed;
      in_hand = k.in_hand;
      led = k.led;
      parted = k.parted;
      sweeping = λ still. begun;
    })

module _ (slots : ℕ) (cells : List Cell) where
  next-quiet : (w : Walk) (s : Sweep) (slot id : ℕ) (g : Greening) → next_of_sweep s ≡ sweep.Slots id → IsQuietIn slots cells (Sweeping w s slot g) → IsQuietIn slots cells (next_slot slots w s slot g)
  next-quiet w s slot id g e k = by (slot + 1 == slots)
    where
      by : (b : Bool) → IsQuietIn slots cells (if b then Sweeping w (found_in_sweep s Nothing) 0 g else Sweeping w s (slot + 1) g)
      by true = (k.0, swept cells slots w s id g e k.1)
      by false = k

  -- a look of the sweep, or of the green walk after it, keeps that
  pub quiet-sweep-look : (w : Walk) (s : Sweep) (slot : ℕ) (g : Greening) (a : SweepAt) → next_of_sweep s ≡ a → is_event cells (asked_by_sweep slot g a) ≡ false → IsQuietIn slots cells (Sweeping w s slot g) → IsQuietIn slots cells (passed_by_sweep slots cells w s slot g a)
  quiet-sweep-look w s slot g (sweep.Slots id) e idle k = next-quiet w s slot id g e k
  quiet-sweep-look w s slot g (sweep.Free id) e idle k = absurd (cc)
  quiet-sweep-look w s slot g sweep.End e idle k =
      let l = looks cells slots w s g k.0 k.1 idle in
      let h = passed_by_green cells g (asked_by_green g.slots g.test (next g)) in
      (looks-of cells slots w g h k.0 l, looks-quiet cells slots w s g h e k.0 k.1 l)

  -- ---- a look before the verdict

  first-look : (xs ys : List ℕ) (k id slot : ℕ) → first_of xs k ys ≡ red.Look id slot → (get_or xs 0 0 ≡ id) × (k ≡ slot)
  first-look [] [] k id slot e = absurd (cc)
  first-look [] (y ∷ ys) k id slot e = absurd (cc)
  first-look (x ∷ xs) ys k id slot e = (cc, cc)

  look-at : (w : Walk) (id slot : ℕ) → next_of_walk w ≡ red.Look id slot → (get_or w.list w.place 0 ≡ id) × (w.slot ≡ slot)
  look-at w id slot e =
      let f = first-look (drop w.place w.list) (drop (length w.copies) w.list) w.slot id slot e in
      (ap (λ (n : ℕ). get_or w.list n 0) (omega arith) ∙ (sym (get_or-drop w.place w.list 0 0) ∙ f.0), f.1)

  -- one slot more holds no strong pointer
  none-more : (id n : ℕ) → HasNoStrongIn cells id n → is_counted_strong cells (pointer_at cells id n) ≡ false → HasNoStrongIn cells id (n + 1)
  none-more id n h e k l =
      ⊎_elim
      (λ (b : k < n). h k b)
      (λ (b : n ≤ k). let same : n ≡ k = omega (arith, l, b) in subst (λ (x : ℕ). is_counted_strong cells (pointer_at cells id x) ≡ false) same e)
      (cases_lt k n)

  walk-moved : (w : Walk) → is_counted_strong cells (pointer_at cells (get_or w.list w.place 0) w.slot) ≡ false → IsQuietWalk slots cells w → IsQuietWalk slots cells (moved slots w)
  walk-moved w weak k = by (w.slot + 1 == slots) refl
    where
      some : w.place < length w.list → HasNoStrongIn cells (get_or w.list w.place 0) (w.slot + 1)
      some l = none-more (get_or w.list w.place 0) w.slot (k.here l) weak

      by : (b : Bool) → (w.slot + 1 == slots) ≡ b → IsQuietWalk slots cells (if b then record w { place = w.place + 1; slot = 0 } else record w { slot = w.slot + 1 })
      by true e = record {
        untouched = k.untouched;
        zero = k.zero;
        walked = λ place before l. ⊎_elim
            (λ (b : place < w.place). k.walked place b l)
            (λ (b : w.place ≤ place).
            let same : w.place ≡ place = omega (arith, before, b) in
            subst (λ (p : ℕ). HasNoStrongIn cells (get_or w.list p 0) slots) same (subst (HasNoStrongIn cells (get_or w.list w.place 0)) (eqb-true (w.slot + 1) slots e) (some (omega (arith, same, l)))))
            (cases_lt place w.place);
        here = λ l n b. absurd (omega (arith, b));
        copies = k.copies;
      }
      by false e = record { untouched = k.untouched; zero = k.zero; walked = k.walked; here = some; copies = k.copies }

  -- a look before the verdict keeps that
  pub quiet-walk-look : (w : Walk) (n : RedAt) → next_of_walk w ≡ n → is_event cells (asked_by_walk n) ≡ false → IsQuietWalk slots cells w → IsQuietWalk slots cells (moved slots w)
  quiet-walk-look w (red.Look id slot) e idle k =
      let f = look-at w id slot e in
      walk-moved w (ap (λ (x : ℕ). is_counted_strong cells (pointer_at cells x w.slot)) f.0 ∙ (ap (λ (n : ℕ). is_counted_strong cells (pointer_at cells id n)) f.1 ∙ idle)) k
  quiet-walk-look w (red.Copy id) e idle k = absurd (cc)
  quiet-walk-look w red.Verdict e idle k = absurd (cc)

  -- ---- one look after another

  look-quiet : (v : RoundView) → is_event cells (asked v) ≡ false → IsQuietIn slots cells v → IsQuietIn slots cells (looked_past slots cells v)
  look-quiet Closed idle k = tt
  look-quiet (Walking w) idle k = quiet-walk-look w (next_of_walk w) refl idle k
  look-quiet (Sweeping w s slot g) idle k = quiet-sweep-look w s slot g (next_of_sweep s) refl idle k

  looks-keep : (u v : RoundView) → IsQuietIn slots cells u → Passes slots cells u v → IsQuietIn slots cells v
  looks-keep u _ k none = k
  looks-keep u _ k (more v before idle) = look-quiet v idle (looks-keep u v k before)

  quiet-out : (v : RoundView) → IsQuietIn slots cells v → IsQuietRound slots cells v
  quiet-out Closed k = tt
  quiet-out (Walking w) k = k
  quiet-out (Sweeping w s slot g) k = k.1

-- the objects of the round have so many slots
long-in : (slots : ℕ) (c : Core) (w : Walk) (s : Sweep) (slot : ℕ) (g : Greening) → IsSound c → c.moment.state.slots ≡ slots → round_of (Sweeping w s slot g) ≡ c.round → (id : ℕ) → Contains w.left id → length (cell_at c.cells id).pointers ≡ slots
long-in slots c w s slot g sound slots_are before id m =
    sound.consistent.slotted id (sound.round_live id (subst (λ (o : Option Round). Contains (option_map_or (λ (r : Round). r.list) o []) id) before m)).0 ∙ slots_are

quiet-in : (slots : ℕ) (c : Core) (u : RoundView) → IsSound c → c.moment.state.slots ≡ slots → round_of u ≡ c.round → IsInStep slots c.moment.state.ids u → IsQuietRound slots c.cells u → IsQuietIn slots c.cells u
quiet-in slots c Closed sound slots_are before in_step k = tt
quiet-in slots c (Walking w) sound slots_are before in_step k = k
quiet-in slots c (Sweeping w s slot g) sound slots_are before in_step k =
    (record { greening = in_step.greens.greening; slots_are = in_step.greens.green_slots; left = in_step.greens.left; long = long-in slots c w s slot g sound slots_are before }, k)

-- a quiet round stays quiet over looks
pub quiet-looks : QuietLooksLaw
quiet-looks slots c u v sound slots_are quiet before in_step passes k =
    quiet-out slots c.cells v (looks-keep slots c.cells u v (quiet-in slots c u sound slots_are before in_step k) passes)
