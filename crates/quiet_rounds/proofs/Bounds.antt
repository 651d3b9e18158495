-- How many events a whole round takes.
use Rattle.std.proofs.Common.{◌≡◌, ℕ, ◌+◌, ◌*◌, ◌<◌, ◌≤◌, ◌==◌, if◌then◌else◌, Bool, true, false, List, [], ◌∷◌, ◌++◌, length, map, Option, Some, None, refl, sym, ap, ◌∙◌, subst, arith, ⊎_elim, true≢false, mul-le-mul_left}
use Rattle.std.specs.Prelude.{Contains}
use Rattle.std.specs.Option.{option_map_or, unwrap_or}
use Rattle.std.proofs.lemmas.Bool.{eqb-true, eqb-false}
use Rattle.std.proofs.lemmas.List.{length_push, length-drop, length-append, length-map}
use Rattle.std.proofs.lemmas.List.Elements.{Contains-append_cases}
use Rattle.cell_model.specs.Cells.{Pointer, Cell, cell_at, pointer_at}
use Rattle.store_model.specs.Core.{Copy, Round, Core}
use Rattle.store_model.specs.Sound.{IsOnce, in_round}
use Rattle.store_model.proofs.OnceLaws.{once-append}
use Rattle.store_model.specs.Verdict.{IsCondemned}
use Rattle.red_walk.specs.declared.red_at.RedAt.{RedAt}
use Rattle.red_walk.specs.declared.red_at.RedAt.TheVariants as red
use Rattle.ref_tables.specs.Queue.{has}
use Rattle.red_walk.specs.Walk.{Walk, next, opened, moved, joined_by, copied, removed}
use Rattle.red_walk.specs.Rounds.{round_of as walked}
use Rattle.red_walk.proofs.WalkLaws.{look-at}
use Rattle.green_walk.specs.declared.sweep.SweepAt.{SweepAt}
use Rattle.green_walk.specs.declared.sweep.SweepAt.TheVariants as sweep
use Rattle.green_walk.specs.declared.sweep.Found.TheVariants.{Nothing, Made, Strong}
use Rattle.green_walk.specs.Judged.{Judged, Picks}
use Rattle.green_walk.specs.Sweeping.{SweepState as Sweep, first_of, found_at, next as next_of_sweep, started, found as found_in_sweep, unemptied, unfreed}
use Rattle.green_walk.specs.Greening.{Greening, started as green_started, next as next_of_green, found as found_by_green, waits, testing, tested}
use Rattle.green_walk.proofs.GreenWork.{no-more-once}
use Rattle.green_walk.proofs.PicksLaws.{picks-from}
use Rattle.green_walk.proofs.ReachLaws.{copied-in}
use Rattle.log_record.specs.declared.cell_record.CellRecord.{CellRecord}
use Rattle.core_store.specs.Changes.{is_counted_strong}
use Rattle.core_store.specs.Collects.{Judges}
use Rattle.core_store.specs.declared.act.Act.{Act}
use Rattle.core_store.specs.declared.act.Act.TheVariants as act
use Rattle.core_store.specs.declared.round_at.RoundAt.{RoundAt}
use Rattle.core_store.specs.declared.round_at.RoundAt.TheVariants as at
use Rattle.core_store.specs.RoundView.{RoundView, Closed, Walking, Sweeping, is_closed, asked, asked_by_walk, asked_by_green, is_event, is_white, next_slot, looked_past, passed_by_green, passed_by_sweep, Passes, IsWalking, IsSweeping, Proceeds, skip, start, weaken, scan, judge, cut, free, flip, into, strengthen, end}
use Rattle.core_store.specs.RoundView as view
use Rattle.quiet_rounds.specs.Quiet.{IsQuietWalk, IsQuietRound}
use Rattle.quiet_rounds.specs.Laws.{IsQuietEvent}
use Rattle.quiet_rounds.specs.WholeRounds.{OpenRun, IsWholeRound, BoundLaw}
use Rattle.quiet_rounds.specs.WholeRounds as whole
use Rattle.core_store.proofs.GreenAt.{asked-green, at-flip, at-into, at-strengthen}
use Rattle.quiet_rounds.proofs.Gains.{Gains, count, live_slots, leading-most, score, rest_count, gains-none, found-gains, testing-gains, tested-gains, flip-gains, into-gains, strengthen-gains}
use Rattle.quiet_rounds.proofs.LiveSlots.{live-most}
use Rattle.quiet_rounds.proofs.Rounds.{quiet-events}
use Rattle.quiet_rounds.proofs.Looks.{quiet-looks}

-- ---- bounds

-- so many events came before the verdict: one for each slot at most, and one for each copy
pub record IsWalked (slots n : ℕ) (w : Walk) : Type 0 where
  pub within : w.slot < slots
  pub few : w.place * slots + w.slot ≤ slots * length w.list
  pub events : n ≤ w.place * slots + w.slot + length w.copies

-- so many events came: after the verdict one for each slot of a condemned object and one for each that was freed, and the score
-- of the green walk, which is of objects that live
pub record IsSwept (slots n : ℕ) (w : Walk) (s : Sweep) (slot : ℕ) (g : Greening) : Type 0 where
  pub within : slot < slots
  pub few : s.emptied * slots + slot ≤ slots * length s.list
  pub parted : length s.list + length g.live ≤ length w.list
  pub freed : s.freed ≤ length s.list
  pub copied : live_slots g ≤ slots * length g.live
  pub events : n + rest_count g.live g.stage ≤ (slots + 1) * length w.list + 1 + (s.emptied * slots + slot + s.freed) + score g

abbrev pub IsBounded : ℕ → RoundView → ℕ → Type 0
IsBounded slots Closed n = ⊥
IsBounded slots (Walking w) n = IsWalked slots n w
IsBounded slots (Sweeping w s slot g) n = IsSwept slots n w s slot g

-- the slots of one place more are among those of all places
slots-more : (slots place places : ℕ) → place < places → place * slots + slots ≤ slots * places
slots-more slots place places l = let next : place + 1 ≤ places = omega (arith, l) in let more = mul-le-mul_left slots next in omega (arith, more)

-- ---- before the verdict

moved-walked : (slots : ℕ) (w : Walk) (n : ℕ) → w.place < length w.list → IsWalked slots n w → IsWalked slots (n + 1) (moved slots w)
moved-walked slots w n l k = by (w.slot + 1 == slots) refl
  where
    more : w.place * slots + slots ≤ slots * length w.list
    more = slots-more slots w.place (length w.list) l

    by : (b : Bool) → (w.slot + 1 == slots) ≡ b → IsWalked slots (n + 1) (if b then record w { place = w.place + 1; slot = 0 } else record w { slot = w.slot + 1 })
    by true e = (let z = eqb-true (w.slot + 1) slots e in let events = k.events in let in_it = k.within in record { within = omega (arith, in_it); few = omega (arith, more); events = omega (arith, z, events) })
    by false e = (let z = eqb-false (w.slot + 1) slots e in let in_it = k.within in let events = k.events in record { within = omega (arith, z, in_it); few = omega (arith, more, z, in_it); events = omega (arith, events) })

joined-walked : (slots : ℕ) (w : Walk) (n : ℕ) (joins : Option ℕ) → IsWalked slots n w → IsWalked slots n (joined_by w joins)
joined-walked slots w n None k = k
joined-walked slots w n (Some id) k = let more = ap (λ n. slots * n) (length_push w.list id) in let few = k.few in record { within = k.within; few = omega (arith, few, more); events = k.events }

copied-walked : (slots : ℕ) (w : Walk) (n id : ℕ) (copy : Copy) → IsWalked slots n w → IsWalked slots (n + 1) (copied w id copy)
copied-walked slots w n id copy k = let more = length_push w.copies (id, copy) in let events = k.events in record { within = k.within; few = k.few; events = omega (arith, events, more) }

less-walked : (slots : ℕ) (w : Walk) (n : ℕ) → IsWalked slots (n + 1) w → IsWalked slots n w
less-walked slots w n k = let events = k.events in record { within = k.within; few = k.few; events = omega (arith, events) }

look-walked : (slots : ℕ) (cells : List Cell) (w : Walk) (n : ℕ) (a : RedAt) → next w ≡ a → is_event cells (asked_by_walk a) ≡ false → IsWalked slots n w → IsWalked slots n (moved slots w)
look-walked slots cells w n (red.Look id slot) e idle k = less-walked slots (moved slots w) n (moved-walked slots w n (look-at w id slot e).0 k)
look-walked slots cells w n (red.Copy id) e idle k = absurd (cc)
look-walked slots cells w n red.Verdict e idle k = absurd (cc)

-- ---- the sweep

slots-some : (xs ys : List ℕ) (id : ℕ) → first_of xs ys ≡ sweep.Slots id → 0 < length xs
slots-some (x ∷ xs) ys id e = omega arith
slots-some [] (y ∷ ys) id e = absurd (cc)
slots-some [] [] id e = absurd (cc)

free-some : (xs ys : List ℕ) (id : ℕ) → first_of xs ys ≡ sweep.Free id → 0 < length ys
free-some (x ∷ xs) ys id e = absurd (cc)
free-some [] (y ∷ ys) id e = omega arith
free-some [] [] id e = absurd (cc)

next-swept : (slots : ℕ) (w : Walk) (s : Sweep) (slot id : ℕ) (g : Greening) (n : ℕ) → next_of_sweep s ≡ sweep.Slots id → IsSwept slots n w s slot g → IsBounded slots (next_slot slots w s slot g) (n + 1)
next-swept slots w s slot id g n e k = by (slot + 1 == slots) refl
  where
    more : s.emptied * slots + slots ≤ slots * length s.list
    more = let l = slots-some (unemptied s) (unfreed s) id e in let d = length-drop s.emptied s.list in slots-more slots s.emptied (length s.list) (omega (arith, l, d))

    is : found_in_sweep s Nothing ≡ record s { emptied = s.emptied + 1 }
    is = ap (λ (a : SweepAt). found_at s a Nothing) e

    by : (b : Bool) → (slot + 1 == slots) ≡ b → IsBounded slots (if b then Sweeping w (found_in_sweep s Nothing) 0 g else Sweeping w s (slot + 1) g) (n + 1)
    by true q = (let z = eqb-true (slot + 1) slots q in let in_it = k.within in let events = k.events in subst (λ (t : Sweep). IsSwept slots (n + 1) w t 0 g) (sym is) (record {
      within = omega (arith, in_it);
      few = omega (arith, more);
      parted = k.parted;
      freed = k.freed;
      copied = k.copied;
      events = omega (arith, z, events);
    }))
    by false q = (let z = eqb-false (slot + 1) slots q in let in_it = k.within in let events = k.events in record {
      within = omega (arith, z, in_it);
      few = omega (arith, more, z, in_it);
      parted = k.parted;
      freed = k.freed;
      copied = k.copied;
      events = omega (arith, events);
    })

less-bounded : (slots : ℕ) (v : RoundView) (n : ℕ) → IsBounded slots v (n + 1) → IsBounded slots v n
less-bounded slots Closed n k = k
less-bounded slots (Walking w) n k = less-walked slots w n k
less-bounded slots (Sweeping w s slot g) n k = let events = k.events in record { within = k.within; few = k.few; parted = k.parted; freed = k.freed; copied = k.copied; events = omega (arith, events) }

free-swept : (slots : ℕ) (w : Walk) (s : Sweep) (slot id : ℕ) (g : Greening) (n : ℕ) → next_of_sweep s ≡ sweep.Free id → IsSwept slots n w s slot g → IsSwept slots (n + 1) (removed w id) (found_in_sweep s (Made id)) slot g
free-swept slots w s slot id g n e k =
    let l = free-some (unemptied s) (unfreed s) id e in
    let d = length-drop s.freed s.list in
    let is : found_in_sweep s (Made id) ≡ record s { freed = s.freed + 1 } = ap (λ (a : SweepAt). found_at s a (Made id)) e in
    let events = k.events in
    subst (λ (t : Sweep). IsSwept slots (n + 1) (removed w id) t slot g) (sym is) (record {
      within = k.within;
      few = k.few;
      parted = k.parted;
      freed = omega (arith, l, d);
      copied = k.copied;
      events = omega (arith, events);
    })

-- ---- the green walk

gained : (slots : ℕ) (w : Walk) (s : Sweep) (slot : ℕ) (g h : Greening) (n more : ℕ) → Gains more g h → IsSwept slots n w s slot g → IsSwept slots (n + more) w s slot h
gained slots w s slot g h n more a k =
    let gain = a.gain in let alive : length h.live ≡ length g.live = ap length a.live in
    let room = ap (λ n. slots * n) alive in
    let same : live_slots h ≡ live_slots g = ap (λ (ids : List ℕ). count (λ s. has ids s.id) h.copied) a.live ∙ ap (count (λ s. has g.live s.id)) a.copied in
    let events = k.events in let copied = k.copied in let parted = k.parted in
    record { within = k.within; few = k.few; parted = omega (arith, parted, alive); freed = k.freed; copied = omega (arith, copied, same, room); events = omega (arith, gain, events) }

tests-or-finds : (b strong : Bool) (g : Greening) (id : ℕ) → Gains 0 g (if b then testing g id else found_by_green g (if strong then Strong else Nothing))
tests-or-finds true strong g id = testing-gains g id
tests-or-finds false strong g id = found-gains g strong

looks-gain : (cells : List Cell) (g : Greening) (a : RoundAt) → Gains 0 g (passed_by_green cells g a)
looks-gain cells g (at.Seed id) = tests-or-finds (is_white cells g id) (waits g id) g id
looks-gain cells g (at.Test id slot) = by (is_counted_strong cells (pointer_at cells id slot))
  where
    by : (b : Bool) → Gains 0 g (if b then found_by_green g Nothing else tested g)
    by true = found-gains g false
    by false = tested-gains g
looks-gain cells g (at.Into «from» slot to) = found-gains g false
looks-gain cells g (at.Out «from» slot) = tests-or-finds (is_white cells g (pointer_at cells «from» slot).target) false g (pointer_at cells «from» slot).target
looks-gain cells g at.Queue = gains-none g
looks-gain cells g (at.Look id slot) = gains-none g
looks-gain cells g (at.Copy id) = gains-none g
looks-gain cells g at.Judge = gains-none g
looks-gain cells g (at.Cut id slot) = gains-none g
looks-gain cells g (at.Free id) = gains-none g
looks-gain cells g (at.Flip id) = gains-none g
looks-gain cells g (at.Strengthen «from» slot to) = gains-none g
looks-gain cells g at.End = gains-none g

-- ---- looks

look-swept : (slots : ℕ) (cells : List Cell) (w : Walk) (s : Sweep) (slot : ℕ) (g : Greening) (n : ℕ) (a : SweepAt) → next_of_sweep s ≡ a → IsSwept slots n w s slot g → IsBounded slots (passed_by_sweep slots cells w s slot g a) n
look-swept slots cells w s slot g n (sweep.Slots id) e k = less-bounded slots (next_slot slots w s slot g) n (next-swept slots w s slot id g n e k)
look-swept slots cells w s slot g n (sweep.Free id) e k = k
look-swept slots cells w s slot g n sweep.End e k =
    let a = asked_by_green g.slots g.test (next_of_green g) in
    let zero : n + 0 ≡ n = omega arith in
    subst (λ (m : ℕ). IsSwept slots m w s slot (passed_by_green cells g a)) zero (gained slots w s slot g (passed_by_green cells g a) n 0 (looks-gain cells g a) k)

look-bounded : (slots : ℕ) (cells : List Cell) (v : RoundView) (n : ℕ) → is_event cells (asked v) ≡ false → IsBounded slots v n → IsBounded slots (looked_past slots cells v) n
look-bounded slots cells Closed n idle k = k
look-bounded slots cells (Walking w) n idle k = look-walked slots cells w n (next w) refl idle k
look-bounded slots cells (Sweeping w s slot g) n idle k = look-swept slots cells w s slot g n (next_of_sweep s) refl k

passes-bounded : (slots : ℕ) (cells : List Cell) (u v : RoundView) (n : ℕ) → Passes slots cells u v → IsBounded slots u n → IsBounded slots v n
passes-bounded slots cells u _ n view.none k = k
passes-bounded slots cells u _ n (view.more v p idle) k = look-bounded slots cells v n idle (passes-bounded slots cells u v n p k)

-- ---- the verdict

some-same : {X : Type 0} (x y : X) → Some x ≡ Some y → x ≡ y
some-same x y e = ap (λ o. unwrap_or o x) e

module _ (slots : ℕ) (c d : Core) (w : Walk) (j : Judged) (e : IsQuietEvent slots c d (Walking w) (Sweeping w (started j.condemned c.moment.state.ids) 0 (green_started slots j w)) act.Judge None) (q : IsQuietWalk slots c.cells w) (n : ℕ) (k : IsWalked slots n w) where
  there : c.round ≡ Some (walked w)
  there = sym e.before

  judges : Judges c d.queue d.round
  judges = e.collects

  of_is : judges.of ≡ walked w
  of_is = some-same judges.of (walked w) (sym judges.there ∙ there)

  all : map (λ e. e.0) w.copies ≡ w.list
  all = subst (λ (r : Round). map (λ e. e.0) r.copies ≡ r.list) of_is judges.all ∙ e.in_step.whole

  condemned_are : judges.condemned ≡ j.condemned
  condemned_are = ap (λ (r : Option Round). option_map_or (λ (r : Round). r.condemned) r []) (sym judges.round_is ∙ sym e.behind)

  exact : Picks (IsCondemned c (walked w)) w.left judges.condemned
  exact = subst (λ (r : Round). Picks (IsCondemned c r) r.list judges.condemned) of_is judges.exact

  listed : (id : ℕ) → Contains j.condemned id → Contains w.list id
  listed id m = subst (λ l. Contains l id) e.in_step.whole (picks-from (IsCondemned c (walked w)) exact id (subst (λ l. Contains l id) (sym condemned_are) m)).0

  -- a copy has as many slots as a cell
  each : (id : ℕ) (copy : Copy) → Contains w.copies (id, copy) → length copy.targets ≡ slots
  each id copy m =
      let in_it : in_round c ≡ w.list = ap (λ (r : Option Round). option_map_or (λ (r : Round). r.list) r []) there ∙ e.in_step.whole in
      let live = (e.sound.round_live id (subst (λ l. Contains l id) (sym in_it) (copied-in w all id copy m))).0 in
      ap (λ (y : Copy). length y.targets) (q.copies id copy m) ∙ length-map (cell_at c.cells id).pointers (λ (p : Pointer). p.target) ∙ e.sound.consistent.slotted id live ∙ e.slots_are

  -- no object is condemned and lives
  parted : length j.condemned + length j.live ≤ length w.list
  parted =
      let step = e.in_step_behind in
      let greens = step.greens in
      let once = once-append j.condemned j.live step.sweep.ids.once greens.greening.live_ids.once (λ id dead live. greens.spared id live dead) in
      let among : (id : ℕ) → Contains (j.condemned ++ j.live) id → Contains w.list id = λ id m. ⊎_elim (listed id) (λ live. subst (λ l. Contains l id) e.in_step.whole (greens.left id live)) (Contains-append_cases j.condemned j.live id m) in
      let both = length-append j.condemned j.live in
      let few = no-more-once (j.condemned ++ j.live) w.list once among in
      omega (arith, both, few)

  judge-swept : IsSwept slots (n + 1) w (started j.condemned c.moment.state.ids) 0 (green_started slots j w)
  judge-swept =
      let same = length-map w.copies (λ (e : ℕ × Copy). e.0) in
      let copies : length (map (λ (e : ℕ × Copy). e.0) w.copies) ≡ length w.list = ap length all in
      let in_it = k.within in let few = k.few in let events = k.events in
      record {
        within = omega (arith, in_it);
        few = omega arith;
        parted = parted;
        freed = omega arith;
        copied = live-most slots j.live w.copies each (subst IsOnce (sym all) e.in_step.walk.ids.once);
        events = omega (arith, few, events, same, copies);
      }

-- ---- events

event-bounded : (slots : ℕ) (c d : Core) (u v : RoundView) (event : Act) (logged : Option CellRecord) (n : ℕ) → Proceeds slots c.moment.state.ids u event logged v → IsQuietEvent slots c d u v event logged → is_closed v ≡ false → IsQuietRound slots c.cells u
    → IsBounded slots u n → IsBounded slots v (n + 1)
event-bounded slots c d u v event logged n (skip id) e still_open q k = absurd k
event-bounded slots c d u v event logged n (start id) e still_open q k = absurd k
event-bounded slots c d u v event logged n (weaken w id slot target joins is) e still_open q k = joined-walked slots (moved slots w) (n + 1) joins (moved-walked slots w n (look-at w id slot is).0 k)
event-bounded slots c d u v event logged n (scan w id copy is) e still_open q k = copied-walked slots w n id copy k
event-bounded slots c d u v event logged n (judge w j is) e still_open q k = judge-swept slots c d w j e q n k
event-bounded slots c d u v event logged n (cut w s slot id target strong g is) e still_open q k = next-swept slots w s slot id g n is k
event-bounded slots c d u v event logged n (free w s slot id g is) e still_open q k = free-swept slots w s slot id g n is k
event-bounded slots c d u v event logged n (flip w s slot id g is) e still_open q k =
    let by = asked-green slot g (next_of_sweep s) (at.Flip id) tt is in
    gained slots w s slot g (found_by_green g (Made id)) n 1 (flip-gains g id (at-flip g id by.1.1 e.in_step.greens.greening by.1.0 by.1.2)) k
event-bounded slots c d u v event logged n (into w s slot «from» i to g is) e still_open q k =
    let by = asked-green slot g (next_of_sweep s) (at.Into «from» i to) tt is in
    gained slots w s slot g (found_by_green g (Made «from»)) n 1 (into-gains g «from» i to q.current.0 (at-into g «from» i to by.1)) k
event-bounded slots c d u v event logged n (strengthen w s slot «from» i to g is) e still_open q k =
    let by = asked-green slot g (next_of_sweep s) (at.Strengthen «from» i to) tt is in
    gained slots w s slot g (found_by_green g (Made to)) n 1 (strengthen-gains g «from» i to (at-strengthen g «from» i to by.1.1 e.in_step.greens.greening by.1.0 by.1.2 by.1.3)) k
event-bounded slots c d u v event logged n (end w s slot g is) e still_open q k = absurd (true≢false still_open)

-- ---- all of them

runs-bounded : (slots : ℕ) (c : Core) (u : RoundView) (d : Core) (v : RoundView) (n : ℕ) → OpenRun slots c u d v n → IsQuietRound slots c.cells u → IsBounded slots u 0 → IsQuietRound slots d.cells v × IsBounded slots v n
runs-bounded slots c u _ _ _ whole.none q k = (q, k)
runs-bounded slots c u _ _ _ (whole.looks d v w n r still p) q k =
    let h = runs-bounded slots c u d v n r q k in
    (quiet-looks slots d v w still.sound still.slots_are still.quiet still.round still.in_step p h.0, passes-bounded slots d.cells v w n p h.1)
runs-bounded slots c u _ _ _ (whole.event d e v w event logged n r happens still_open) q k =
    let h = runs-bounded slots c u d v n r q k in
    ((quiet-events slots d e v w event logged happens h.0).0, event-bounded slots d e v w event logged n happens.proceeds happens still_open h.0 h.1)

opened-bounded : (slots ids x : ℕ) → 0 < slots → IsWalked slots 0 (opened ids x)
opened-bounded slots ids x some = record { within = some; few = omega arith; events = omega arith }

-- at most two events for each slot of each object and two more for each object, and then the start, the verdict and the end
pub closer-bound : (slots : ℕ) (c d : Core) (x events : ℕ) (r : IsWholeRound slots c d x events) → events ≤ (2 * slots + 2) * length r.walk.list + 3
closer-bound slots c d x events r =
    let quiet = (quiet-events slots c r.opening Closed (Walking (opened c.moment.state.ids x)) (act.Start x) None r.starts tt).0 in
    let walks : IsWalking slots c.moment.state.ids (opened c.moment.state.ids x) = r.starts.in_step_behind in
    let h = (runs-bounded slots r.opening (Walking (opened c.moment.state.ids x)) r.last (Sweeping r.walk r.swept r.slot r.greening) r.between r.runs quiet (opened-bounded slots c.moment.state.ids x walks.walk.slot_within)).1 in
    let step : IsSweeping slots r.last.moment.state.ids r.walk r.swept r.slot r.greening = r.ends.in_step in
    let g : Greening = r.greening in
    let greening = step.greens.greening in
    let green = no-more-once g.green g.live greening.green_ids.once greening.green_live in
    let leads = leading-most g.live g.green g.copied in
    let room = mul-le-mul_left slots h.parted in
    let few = h.few in let parted = h.parted in let freed = h.freed in let copied = h.copied in let most = h.events in let count = r.count in
    omega (arith, green, leads, room, few, parted, freed, copied, most, count)

pub bound : BoundLaw
bound slots c d x events r = let closer = closer-bound slots c d x events r in omega (arith, closer)
