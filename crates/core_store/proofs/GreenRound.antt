-- The events of the green walk: a flip, a pointer to the flipped object made weak, and a weak pointer made strong.
use Rattle.std.proofs.Common.{◌≡◌, ◌≢◌, ℕ, ◌<◌, ◌≤◌, List, [], ◌∷◌, length, map, Bool, true, false, not, cond, None, Some, refl, sym, ap, ◌∙◌, subst, inl, inr, ⊎_elim, true≢false, arith, IfSome, ne_eqb}
use Rattle.std.specs.Prelude.{◌==◌, ◌&&◌, Contains, Option}
use Rattle.std.specs.Option.{option_map_or}
use Rattle.std.proofs.lemmas.Bool.{and_parts, eqb-true, cases_lt}
use Rattle.std.proofs.lemmas.List.{get_or_past}
use Rattle.cell_model.specs.Cells.{Pointer, Cell, null, cell_at, pointer_at, is_live, is_strong, same, counted, edit, relinked, other_strength, flipped}
use Rattle.cell_model.specs.Records.{HasPointer, Fits, IsWellLaid, Flip as FlipRecord, Weaken as WeakenRecord, Strengthen as StrengthenRecord}
use Rattle.cell_model.specs.Strong.{HasNoStrongOut}
use Rattle.store_model.specs.Core.{Round, Core}
use Rattle.store_model.specs.Sound.{in_round, IsSound}
use Rattle.store_model.specs.Steps.{IsQuiet, IsTracked, after_collect}
use Rattle.cell_model.proofs.EditLaws.{live-there, live-within}
use Rattle.cell_model.proofs.CountLaws.{relinked-live, relinked-which}
use Rattle.cell_model.proofs.FlipLaws.{flip-live, flip-target}
use Rattle.cell_model.proofs.RecordLaws.{target-counts}
use Rattle.store_model.proofs.WalkSound.{weaken-sound, strengthen-sound, flip-sound}
use Rattle.red_walk.specs.Walk.{Walk}
use Rattle.red_walk.specs.Rounds.{round_of as walked}
use Rattle.green_walk.specs.declared.sweep.SweepAt.TheVariants as sweep
use Rattle.green_walk.specs.declared.sweep.Found.TheVariants.{Made}
use Rattle.green_walk.specs.declared.green_at.GreenAt.{GreenAt}
use Rattle.green_walk.specs.declared.green_at.GreenAt.TheVariants as green
use Rattle.green_walk.specs.declared.green_at.Test.{Test}
use Rattle.green_walk.specs.Sweeping.{SweepState as Sweep, next as next_of_sweep, first_of, unemptied, unfreed}
use Rattle.green_walk.specs.Greening.{Greening, waits, next as next_of_green, found as found_by_green, IsAnswer, IsTestable}
use Rattle.green_walk.specs.GreenLaws.{IsAskedOf}
use Rattle.green_walk.proofs.GreenAsked.{asked as asked-law, waits-live}
use Rattle.green_walk.proofs.GreenAnswers.{test-law, found-law}
use Rattle.log_record.specs.declared.cell_record.CellRecord.{CellRecord}
use Rattle.log_record.specs.declared.cell_record.CellRecord.TheVariants as logs
use Rattle.core_store.specs.declared.three.HeldFrame.{HeldFrame}
use Rattle.core_store.specs.declared.act.Act.{Act}
use Rattle.core_store.specs.declared.act.Act.TheVariants as act
use Rattle.core_store.specs.declared.round_at.RoundAt.{RoundAt}
use Rattle.core_store.specs.declared.round_at.RoundAt.TheVariants as at
use Rattle.core_store.specs.Changes.{is_counted_strong, has_no_strong}
use Rattle.core_store.specs.Slots.{CanFlip, IsChanged, is_counted_weak}
use Rattle.core_store.specs.RoundView.{RoundView, Sweeping, round_of, asked, is_event, IsSweeping, IsInStep, Proceeds, flip, into, strengthen}
use Rattle.core_store.specs.Tables.{TablesView}
use Rattle.core_store.specs.Saved.{AreSaved}
use Rattle.core_store.specs.Stands.{IsEmptied, IsTested, IsTestedIn, Stands}
use Rattle.core_store.specs.Collects.{Greens, IsWhite}
use Rattle.core_store.specs.Collecting.{Collected}
use Rattle.core_store.proofs.SlotBounds.{self-few}
use Rattle.core_store.proofs.SlotLaws.{holds-old}
use Rattle.core_store.proofs.SlotStrengths.{counted-some, weak-counted}
use Rattle.core_store.proofs.CollectedLaws.{Stands-collected}
use Rattle.core_store.proofs.ReadyRound.{green-live}
use Rattle.core_store.proofs.GreenAt.{at-flip, at-into, at-strengthen}
use Rattle.core_store.proofs.SavedEvents.{saved-flip, saved-into, saved-strengthen}
use Rattle.core_store.proofs.WeakenRound.{can-null}

-- ---- cells

-- where the sweep is at its end, nothing is left to free
none-unfreed : (s : Sweep) → next_of_sweep s ≡ sweep.End → unfreed s ≡ []
none-unfreed s e = by (unemptied s) (unfreed s) e
  where
    by : (xs ys : List ℕ) → first_of xs ys ≡ sweep.End → ys ≡ []
    by (x ∷ xs) ys e = absurd (cc)
    by [] (y ∷ ys) e = absurd (cc)
    by [] [] e = refl

-- a pointer that gets its other strength keeps its target
switched-targets : (cells : List Cell) (u k : ℕ) → u ≢ 0 → u < length cells → k < length (cell_at cells u).pointers → (v j : ℕ) → (pointer_at (relinked cells u k (other_strength (pointer_at cells u k))) v j).target ≡ (pointer_at cells v j).target
switched-targets cells u k n l h v j =
    let p = other_strength (pointer_at cells u k) in
    ⊎_elim
    (λ (e : (v ≡ u) × (j ≡ k) × (pointer_at (relinked cells u k p) v j ≡ p)). ap (λ (q : Pointer). q.target) e.2 ∙ (ap (λ (y : ℕ). (pointer_at cells u y).target) (sym e.1) ∙ ap (λ (x : ℕ). (pointer_at cells x j).target) (sym e.0)))
    (λ (e : pointer_at (relinked cells u k p) v j ≡ pointer_at cells v j). ap (λ (q : Pointer). q.target) e)
    (relinked-which cells u k p v j n l h)

-- a sweep has emptied what it had, where pointers keep their targets
emptied-kept : (cells later : List Cell) (w : Walk) (s : Sweep) (slot : ℕ) (g after : Greening) → ((v j : ℕ) → (pointer_at later v j).target ≡ (pointer_at cells v j).target) → IsEmptied cells (Sweeping w s slot g) → IsEmptied later (Sweeping w s slot after)
emptied-kept cells later w s slot g after targets e = (λ place k a b l. targets _ k ∙ e.0 place k a b l, λ k l b. targets _ k ∙ e.1 k l b)

-- no strong pointer leads out of an object whose slots were all looked at
none-out : (cells : List Cell) (id slots : ℕ) → length (cell_at cells id).pointers ≡ slots → ((k : ℕ) → k < slots → is_counted_strong cells (pointer_at cells id k) ≡ false) → HasNoStrongOut cells id
none-out cells id slots long none slot to s =
    let p = pointer_at cells id slot in
    let some : p.target ≢ 0 = λ e. s.not_null (sym s.target ∙ e) in
    ⊎_elim
    (λ (l : slot < slots). true≢false (sym (ap (λ (b : Bool). not b && is_strong cells p) (ne_eqb p.target 0 some) ∙ s.strong) ∙ none slot l))
    (λ (past : slots ≤ slot). some (ap (λ (q : Pointer). q.target) (get_or_past (cell_at cells id).pointers slot null (subst (λ (n : ℕ). n ≤ slot) (sym long) past))))
    (cases_lt slot slots)

-- a pointer is weak where no strong pointer leads to its target
weak-at : (slots : ℕ) (v : TablesView) (c : Core) → Stands slots v c → (u k to : ℕ) → is_live c.cells u ≡ true → (pointer_at c.cells u k).target ≡ to → to ≢ 0 → has_no_strong (cell_at c.cells to) ≡ true → is_counted_weak c.cells (pointer_at c.cells u k) ≡ true
weak-at slots v c h u k to live is some zero =
    let p = pointer_at c.cells u k in
    let some_at : p.target ≢ 0 = subst (λ (n : ℕ). n ≢ 0) (sym is) some in
    let none : (cell_at c.cells p.target).strong ≡ 0 = ap (λ (n : ℕ). (cell_at c.cells n).strong) is ∙ eqb-true (cell_at c.cells to).strong 0 zero in
    let weak : is_strong c.cells p ≡ false = weak-of (cell_at c.cells p.target) p.bit (target-counts c.cells h.sound.consistent.exact u k live some_at) none in
    ap (λ (b : Bool). not b && not (is_strong c.cells p)) (ne_eqb p.target 0 some_at) ∙ ap not weak
  where
    weak-of : (d : Cell) (bit : Bool) → 1 ≤ counted bit d → d.strong ≡ 0 → same d.bit bit ≡ false
    weak-of d bit one none = by (same d.bit bit) one
      where
        by : (b : Bool) → 1 ≤ cond b d.strong d.weak → b ≡ false
        by true l = absurd (omega (arith, l, none))
        by false l = refl

-- ---- after the sweep

module _ (slots : ℕ) (v : TablesView) (c : Core) (h : Stands slots v c) (w : Walk) (s : Sweep) (slot : ℕ) (g : Greening) (is : v.round ≡ Sweeping w s slot g) (end : next_of_sweep s ≡ sweep.End) where
  abbrev pub swept : Round
  swept = record (walked w) { judged = true; condemned = unfreed s }

  sweeping : IsSweeping slots v.ids w s slot g
  sweeping = subst (λ (r : RoundView). IsInStep slots v.ids r) is h.in_step

  there : c.round ≡ Some swept
  there = sym h.round ∙ ap round_of is

  quiet : IsQuiet swept
  quiet e = absurd (true≢false e)

  listed : (id : ℕ) → Contains g.live id → Contains w.left id
  listed id m = sweeping.greens.left id m

  live : (id : ℕ) → Contains g.live id → is_live c.cells id ≡ true
  live id m = green-live h w s slot g is sweeping id m

  among : (id : ℕ) → Contains g.live id → Contains (in_round c) id
  among id m = subst (λ (o : Option Round). Contains (option_map_or (λ (r : Round). r.list) o []) id) (sym there) (listed id m)

  greens : (id : ℕ) → Contains g.live id → Greens c id c.queue c.round
  greens id m = record { of = swept; there = there; behind = refl; none_left = none-unfreed s end; listed = listed id m; queue_is = refl; round_is = there }

  -- what was asked for is of the objects that live
  asked-of : (n : GreenAt) → next_of_green g ≡ n → IsAskedOf g n
  asked-of n e = subst (IsAskedOf g) e (asked-law g sweeping.greens.greening)

  within : (k : ℕ) → k < g.slots → k < slots
  within k l = subst (λ (n : ℕ). k < n) sweeping.greens.green_slots l

  long : (id : ℕ) → is_live c.cells id ≡ true → length (cell_at c.cells id).pointers ≡ slots
  long id l = h.sound.consistent.slotted id l ∙ h.slots_are

  -- what a test has found
  tested : (t : Test) → g.test ≡ Some t → IsTestedIn c.cells g t
  tested t e = subst (λ (o : Option Test). IfSome o (IsTestedIn c.cells g)) e (subst (IsTested c.cells) is h.tested).0

  -- what looks are saved by
  saved-before : AreSaved c.cells s g
  saved-before = (subst (IsTested c.cells) is h.tested).1

  waits-there : (x : ℕ) → waits g x ≡ true → is_live c.cells x ≡ true
  waits-there x e = live x (waits-live g x e)

  testable : (n : GreenAt) → next_of_green g ≡ n → (t : Test) → g.test ≡ Some t → IsTestable g n t.id
  testable n e t k = subst (λ (x : GreenAt). IsTestable g x t.id) e (test-law g t sweeping.greens.greening k).0

  -- a tested object gets its strong pointers again from where it is
  white : (t : Test) → g.test ≡ Some t → t.slot ≡ g.slots → Contains g.live t.id → IsWhite c t.id
  white t e all m =
      let found = tested t e in
      let few : t.slot ≡ slots = all ∙ sweeping.greens.green_slots in
      record { zero = found.zero; none_out = none-out c.cells t.id slots (long t.id (live t.id m)) (λ k l. found.none k (subst (λ (n : ℕ). k < n) (sym few) l)) }

  abbrev behind : ℕ → RoundView
  behind made = Sweeping w s slot (found_by_green g (Made made))

  -- what the tables stand for after an event of the green walk
  greened-stands : (made : ℕ) (later : List Cell) (marks : List Bool) → IsAnswer g (next_of_green g) (Made made) → IsSound (after_collect c later c.queue c.round) → ((x : ℕ) → is_live later x ≡ is_live c.cells x)
      → ((x j : ℕ) → (pointer_at later x j).target ≡ (pointer_at c.cells x j).target) → AreSaved later s (found_by_green g (Made made)) → marks ≡ map has_no_strong later → IsInStep slots v.ids (behind made)
      → Stands slots (record v { zeros = marks; round = behind made }) (after_collect c later c.queue c.round)
  greened-stands made later marks answer sound alive targets saved marked step =
      let untested : (found_by_green g (Made made)).test ≡ None = (found-law g (Made made) sweeping.greens.greening answer).1 in
      subst (λ (q : List ℕ). Stands slots (record v { zeros = marks; queue = q; round = behind made }) (after_collect c later c.queue c.round)) (sym h.queue)
      (Stands-collected slots v c later c.queue c.round marks (behind made) h sound alive marked (sym there) step
      (emptied-kept c.cells later w s slot g (found_by_green g (Made made)) targets (subst (IsEmptied c.cells) is h.emptied))
      (subst (λ (o : Option Test). IfSome o (IsTestedIn later (found_by_green g (Made made)))) (sym untested) tt, saved))

  proceeds-behind : (event : Act) (logged : Option CellRecord) (made : ℕ) → Proceeds slots v.ids (Sweeping w s slot g) event logged (behind made) → Proceeds slots v.ids v.round event logged (behind made)
  proceeds-behind event logged made p = subst (λ (r : RoundView). Proceeds slots v.ids r event logged (behind made)) (sym is) p

  asked-here : (a : RoundAt) → asked v.round ≡ a → asked (Sweeping w s slot g) ≡ a
  asked-here a e = ap asked (sym is) ∙ e

  -- ---- an object is flipped

  module _ (id : ℕ) (seed : next_of_green g ≡ green.Seed id) (t : Test) (test : g.test ≡ Some t) (all : t.slot ≡ g.slots) where
    flip-testable : (t.id ≡ id) × (waits g t.id ≡ true)
    flip-testable = testable (green.Seed id) seed t test

    flip-waits : waits g id ≡ true
    flip-waits = subst (λ (x : ℕ). waits g x ≡ true) flip-testable.0 flip-testable.1

    flip-among : Contains g.live id
    flip-among = waits-live g id flip-waits

    flip-live_is : is_live c.cells id ≡ true
    flip-live_is = live id flip-among

    flip-white : IsWhite c id
    flip-white = subst (IsWhite c) flip-testable.0 (white t test all (waits-live g t.id flip-testable.1))

    flip-zero : (cell_at c.cells id).strong ≡ 0
    flip-zero = eqb-true (cell_at c.cells id).strong 0 flip-white.zero

    pub flip-answer : IsAnswer g (next_of_green g) (Made id)
    flip-answer = subst (λ (n : GreenAt). IsAnswer g n (Made id)) (sym seed) (refl, flip-waits)

    pub flip-can : CanFlip slots v.ids c.cells id
    flip-can =
        let null = can-null slots v c h id slot flip-live_is sweeping.within in
        record { consistent = null.consistent; few = null.few; live = flip-live_is; not_root = (h.sound.round_live id (among id flip-among)).1; zero = flip-zero }

    flip-fits : Fits c.cells (FlipRecord id)
    flip-fits = (flip-live_is, flip-zero, self-few c.cells id h.sound.consistent.exact flip-live_is flip-zero)

    pub flip-collected : asked v.round ≡ at.Flip id → (held new : List (HeldFrame slots)) (marks : List Bool) → IsChanged c.cells (edit c.cells id (flipped id)) held new v.zeros marks → IsInStep slots v.ids (behind id)
        → Collected slots v (record v { zeros = marks; round = behind id }) c held new act.Change (Some (logs.Flip id))
    flip-collected asks held new marks changed step =
        let later = edit c.cells id (flipped id) in
        record {
          proceeds = proceeds-behind act.Change (Some (logs.Flip id)) id (flip w s slot id g (asked-here (at.Flip id) asks));
          begins = λ e. absurd (cc);
          moves = record { fits = flip-fits; lays = flip-white.none_out; agree = changed.agree; elsewhere = changed.elsewhere };
          core = after_collect c later c.queue c.round;
          after = refl;
          collects = record { greens = greens id flip-among; white = flip-white };
          stands = greened-stands id later marks flip-answer (flip-sound c h.sound swept there quiet id flip-fits flip-white.none_out) (flip-live c.cells id h.sound.consistent.exact flip-live_is) (flip-target c.cells id h.sound.consistent.exact flip-live_is)
              (saved-flip c.cells s g h.sound.consistent.exact end sweeping.greens.greening.walked_few waits-there id (at-flip g id t sweeping.greens.greening seed test) flip-zero saved-before) (changed.marks_are h.zeros) step;
        }

  -- ---- a pointer to the flipped object becomes weak

  module _ («from» k to : ℕ) (look : next_of_green g ≡ green.Into «from» k to) (strong : is_event c.cells (at.Into «from» k to) ≡ true) where
    into-asked : (waits g «from» ≡ true) × Contains g.live to × (waits g to ≡ false) × (k < g.slots)
    into-asked = asked-of (green.Into «from» k to) look

    into-among : Contains g.live «from»
    into-among = waits-live g «from» into-asked.0

    pub into-live : is_live c.cells «from» ≡ true
    into-live = live «from» into-among

    pub into-within : k < slots
    into-within = within k into-asked.3

    pub into-parts : (((pointer_at c.cells «from» k).target == to) ≡ true) × (is_counted_strong c.cells (pointer_at c.cells «from» k) ≡ true)
    into-parts = and_parts ((pointer_at c.cells «from» k).target == to) (is_counted_strong c.cells (pointer_at c.cells «from» k)) strong

    into-target : (pointer_at c.cells «from» k).target ≡ to
    into-target = eqb-true (pointer_at c.cells «from» k).target to into-parts.0

    pub into-answer : IsAnswer g (next_of_green g) (Made «from»)
    into-answer = subst (λ (n : GreenAt). IsAnswer g n (Made «from»)) (sym look) refl

    into-fits : Fits c.cells (WeakenRecord «from» k to)
    into-fits =
        let old = holds-old slots v.ids c.cells «from» k 0 (can-null slots v c h «from» k into-live into-within) in (
          subst (λ (n : ℕ). HasPointer c.cells «from» k n true) into-target (subst (λ (b : Bool). HasPointer c.cells «from» k (pointer_at c.cells «from» k).target b) into-parts.1 old),
          subst (λ (n : ℕ). n ≢ 0) into-target (counted-some c.cells (pointer_at c.cells «from» k) into-parts.1),
        )

    into-tracked : IsTracked c to
    into-tracked = inr (inr (inl (among to into-asked.1)))

    pub into-collected : asked v.round ≡ at.Into «from» k to → (held new : List (HeldFrame slots)) (marks : List Bool) → IsChanged c.cells (relinked c.cells «from» k (other_strength (pointer_at c.cells «from» k))) held new v.zeros marks → IsInStep slots v.ids (behind «from»)
        → Collected slots v (record v { zeros = marks; round = behind «from» }) c held new act.Change (Some (logs.Weaken «from» k to))
    unfolding greens
    into-collected asks held new marks changed step =
        let p = other_strength (pointer_at c.cells «from» k) in
        let later = relinked c.cells «from» k p in
        let targets = switched-targets c.cells «from» k (live-there c.cells «from» h.sound.consistent.exact.none into-live) (live-within c.cells «from» into-live) into-fits.0.within in
        record {
          proceeds = proceeds-behind act.Change (Some (logs.Weaken «from» k to)) «from» (into w s slot «from» k to g (asked-here (at.Into «from» k to) asks));
          begins = λ e. absurd (cc);
          moves = record { fits = into-fits; lays = tt; agree = changed.agree; elsewhere = changed.elsewhere };
          core = after_collect c later c.queue c.round;
          after = refl;
          collects = inr (record { greens = greens «from» into-among; target_listed = listed to into-asked.1 });
          stands = greened-stands «from» later marks into-answer (weaken-sound c h.sound swept there quiet «from» k to into-fits (inl into-tracked)) (relinked-live c.cells «from» k p) targets
              (saved-into c.cells s g h.sound.consistent.exact end sweeping.greens.greening.walked_few waits-there «from» k to into-live into-fits.0.within into-target (at-into g «from» k to look) into-asked.2 saved-before) (changed.marks_are h.zeros) step;
        }

  -- ---- a weak pointer becomes strong

  module _ («from» k to : ℕ) (look : next_of_green g ≡ green.Out «from» k) (t : Test) (test : g.test ≡ Some t) (own : t.id ≡ to) (all : t.slot ≡ g.slots) where
    strengthen-asked : Contains g.live «from» × (waits g «from» ≡ false) × (k < g.slots)
    strengthen-asked = asked-of (green.Out «from» k) look

    strengthen-waits : waits g to ≡ true
    strengthen-waits = subst (λ (x : ℕ). waits g x ≡ true) own (testable (green.Out «from» k) look t test)

    strengthen-among : Contains g.live to
    strengthen-among = waits-live g to strengthen-waits

    pub strengthen-live : is_live c.cells «from» ≡ true
    strengthen-live = live «from» strengthen-asked.0

    pub strengthen-within : k < slots
    strengthen-within = within k strengthen-asked.2

    strengthen-target : (pointer_at c.cells «from» k).target ≡ to
    strengthen-target = (tested t test).named «from» k look ∙ own

    strengthen-some : to ≢ 0
    strengthen-some = live-there c.cells to h.sound.consistent.exact.none (live to strengthen-among)

    strengthen-white : IsWhite c to
    strengthen-white = subst (IsWhite c) own (white t test all (subst (Contains g.live) (sym own) strengthen-among))

    pub strengthen-weak : is_counted_weak c.cells (pointer_at c.cells «from» k) ≡ true
    strengthen-weak = weak-at slots v c h «from» k to strengthen-live strengthen-target strengthen-some strengthen-white.zero

    pub strengthen-answer : IsAnswer g (next_of_green g) (Made to)
    strengthen-answer = subst (λ (n : GreenAt). IsAnswer g n (Made to)) (sym look) strengthen-waits

    strengthen-fits : Fits c.cells (StrengthenRecord «from» k to)
    strengthen-fits =
        let p = pointer_at c.cells «from» k in
        let old = holds-old slots v.ids c.cells «from» k 0 (can-null slots v c h «from» k strengthen-live strengthen-within) in (
          subst (λ (n : ℕ). HasPointer c.cells «from» k n false) strengthen-target (subst (λ (b : Bool). HasPointer c.cells «from» k p.target b) (weak-counted c.cells p strengthen-weak) old),
          strengthen-some,
        )

    strengthen-lays : IsWellLaid c.cells (StrengthenRecord «from» k to)
    strengthen-lays = (λ e. true≢false (sym strengthen-waits ∙ (ap (waits g) (sym e) ∙ strengthen-asked.1)), strengthen-white.none_out)

    pub strengthen-collected : asked v.round ≡ at.Strengthen «from» k to → (held new : List (HeldFrame slots)) (marks : List Bool) → IsChanged c.cells (relinked c.cells «from» k (other_strength (pointer_at c.cells «from» k))) held new v.zeros marks → IsInStep slots v.ids (behind to)
        → Collected slots v (record v { zeros = marks; round = behind to }) c held new act.Change (Some (logs.Strengthen «from» k to))
    unfolding greens
    strengthen-collected asks held new marks changed step =
        let p = other_strength (pointer_at c.cells «from» k) in
        let later = relinked c.cells «from» k p in
        let targets = switched-targets c.cells «from» k (live-there c.cells «from» h.sound.consistent.exact.none strengthen-live) (live-within c.cells «from» strengthen-live) strengthen-fits.0.within in
        record {
          proceeds = proceeds-behind act.Change (Some (logs.Strengthen «from» k to)) to (strengthen w s slot «from» k to g (asked-here (at.Strengthen «from» k to) asks));
          begins = λ e. absurd (cc);
          moves = record { fits = strengthen-fits; lays = strengthen-lays; agree = changed.agree; elsewhere = changed.elsewhere };
          core = after_collect c later c.queue c.round;
          after = refl;
          collects = record { greens = greens «from» strengthen-asked.0; target_listed = listed to strengthen-among; white = strengthen-white };
          stands = greened-stands to later marks strengthen-answer (strengthen-sound c h.sound swept there quiet «from» k to strengthen-fits strengthen-lays) (relinked-live c.cells «from» k p) targets
              (saved-strengthen c.cells s g h.sound.consistent.exact end sweeping.greens.greening.walked_few waits-there «from» k to strengthen-live strengthen-fits.0.within strengthen-target (at-strengthen g «from» k to t sweeping.greens.greening look test own) strengthen-asked.1 saved-before) (changed.marks_are h.zeros) step;
        }
