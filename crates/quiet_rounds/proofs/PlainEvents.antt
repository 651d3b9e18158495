-- The looks and the events of a round's green walk are those of the plain one.
use Rattle.std.proofs.Common.{◌≡◌, ℕ, ◌+◌, ◌==◌, if◌then◌else◌, Bool, true, false, List, [], ◌∷◌, map, Option, Some, None, refl, sym, ap, ◌∙◌, subst}
use Rattle.std.specs.Prelude.{Contains, IfSome}
use Rattle.std.proofs.lemmas.Bool.{eqb-true}
use Rattle.cell_model.specs.Cells.{Cell, cell_at, pointer_at, is_live}
use Rattle.cell_model.specs.Records.{Fits, Weaken as WeakenRecord}
use Rattle.cell_model.specs.Strong.{IsStrongAt}
use Rattle.store_model.specs.Core.{Core, Round}
use Rattle.store_model.specs.Sound.{IsSound, in_round}
use Rattle.red_walk.specs.Walk.{Walk}
use Rattle.green_walk.specs.declared.copied_slots.CopiedSlot.{CopiedSlot}
use Rattle.green_walk.specs.declared.green_at.GreenAt.{GreenAt}
use Rattle.green_walk.specs.declared.green_at.GreenAt.TheVariants as green
use Rattle.green_walk.specs.declared.green_at.Test.{Test}
use Rattle.green_walk.specs.declared.sweep.SweepAt.{SweepAt}
use Rattle.green_walk.specs.declared.sweep.SweepAt.TheVariants as sweep
use Rattle.green_walk.specs.declared.sweep.Found.TheVariants.{Nothing, Made}
use Rattle.green_walk.specs.Sweeping.{SweepState as Sweep, next as next_of_sweep, found as found_by_sweep}
use Rattle.green_walk.specs.Greening.{Greening, GreenStage, AtSeed, AtInto, AtOut, IsPlace, waits as waits_in, may_lead_to, first_with, behind_first, first_seed, look_into, asked_at, settled, next as next_of_green, moved, greened as greened_in, found as found_by_green}
use Rattle.green_walk.proofs.GreenSteps.{IsThere, there}
use Rattle.green_walk.proofs.GreenAsked.{first-has, waits-live}
use Rattle.green_walk.proofs.GreenHeads.{lead-waits}
use Rattle.log_record.specs.declared.cell_record.CellRecord.{CellRecord}
use Rattle.log_record.specs.declared.cell_record.CellRecord.TheVariants as logs
use Rattle.log_record.specs.Records.{FitsCells}
use Rattle.core_store.specs.declared.act.Act.{Act}
use Rattle.core_store.specs.declared.act.Act.TheVariants as act
use Rattle.core_store.specs.declared.round_at.RoundAt.TheVariants as at
use Rattle.core_store.specs.Collects.{Collects, Flips, Strengthens}
use Rattle.core_store.specs.JournalView.{JournalView, cells_of, core_of}
use Rattle.core_store.specs.RoundView.{RoundView, Closed, Walking, Sweeping, round_of, asked, asked_by_sweep, asked_by_green, is_event, next_slot, looked_past, passed_by_sweep, passed_by_green, IsInStep, IsSweeping, Passes, none, more, Proceeds, skip, start, weaken, scan, judge, cut, free, flip, into, strengthen, end}
use Rattle.core_store.specs.Stands.{IsTested, IsTestedIn}
use Rattle.core_store.proofs.AskedGreen.{asked-by}
use Rattle.core_store.proofs.GreenAt.{asked-green, at-flip, at-into, at-strengthen}
use Rattle.core_store.proofs.GreenLooks.{green-looks, looks-keep}
use Rattle.core_store.proofs.LeftLaws.{in_step-passes}
use Rattle.core_store.proofs.PassLaws.{tested-passed}
use Rattle.core_store.proofs.SavedLooks.{green-sees}
use Rattle.quiet_rounds.specs.JournalSteps.{IsSoundJournal}
use Rattle.quiet_rounds.specs.PlainWalk.{PlainWalk, PlainStage, AtSeeds, AtGreen, IsWhite, greened, behind_slot, LooksOn, here, flips, weakens, strengthens, ends, Finds, place_of, plain_stage, plain_of, plain_in, IsPlainAt, IsPlain, PlainLooksLaw, PlainEventsLaw}
use Rattle.quiet_rounds.proofs.JournalEvents.{last-fits}
use Rattle.quiet_rounds.proofs.PlainLooks.{looks-then, plain_at, pass-to, settles, sees-plainly}

-- what lives by the verdict is there
abbrev pub LivesIn : List Cell → RoundView → Type 0
LivesIn cells (Sweeping w s slot g) = (id : ℕ) → Contains g.live id → is_live cells id ≡ true
LivesIn cells _ = Unit {0}

-- ---- looks

-- what holds after looks
pub record IsPassed (cells : List Cell) (u v : RoundView) : Type 0 where
  pub looks : LooksOn cells (plain_in u) (plain_in v)
  pub lives : LivesIn cells v
  pub tested : IsTested cells v

module _ (slots ids : ℕ) (cells : List Cell) where
  slot-on : (w : Walk) (s : Sweep) (slot : ℕ) (g : Greening) → plain_in (next_slot slots w s slot g) ≡ plain_of g
  slot-on w s slot g = by (slot + 1 == slots)
    where
      by : (b : Bool) → plain_in (if b then Sweeping w (found_by_sweep s Nothing) 0 g else Sweeping w s (slot + 1) g) ≡ plain_of g
      by true = refl
      by false = refl

  slot-lives : (w : Walk) (s : Sweep) (slot : ℕ) (g : Greening) → ((id : ℕ) → Contains g.live id → is_live cells id ≡ true) → LivesIn cells (next_slot slots w s slot g)
  slot-lives w s slot g lives = by (slot + 1 == slots)
    where
      by : (b : Bool) → LivesIn cells (if b then Sweeping w (found_by_sweep s Nothing) 0 g else Sweeping w s (slot + 1) g)
      by true = lives
      by false = lives

  swept-on : (w : Walk) (s : Sweep) (slot : ℕ) (g : Greening) (a : SweepAt) → next_of_sweep s ≡ a → IsSweeping slots ids w s slot g → is_event cells (asked_by_sweep slot g a) ≡ false → ((id : ℕ) → Contains g.live id → is_live cells id ≡ true) → IsTested cells (Sweeping w s slot g)
      → IsPassed cells (Sweeping w s slot g) (passed_by_sweep slots cells w s slot g a)
  swept-on w s slot g (sweep.Slots id) e k idle lives tested = record {
    looks = subst (LooksOn cells (plain_of g)) (sym (slot-on w s slot g)) here;
    lives = slot-lives w s slot g lives;
    tested = tested-passed slots ids cells w s slot g (sweep.Slots id) e k idle tested;
  }
  swept-on w s slot g (sweep.Free id) e k idle lives tested = absurd (cc)
  swept-on w s slot g sweep.End e k idle lives tested =
      let a = asked_by_green g.slots g.test (next_of_green g) in
      let asks = asked-by g.slots g.test (next_of_green g) in
      let same = (looks-keep cells g (passed_by_green cells g a) k.greens.greening (green-looks cells g k.greens.greening a asks idle)).1 in
      record {
        looks = sees-plainly cells s g (passed_by_green cells g a) k.greens.greening e (λ id w. lives id (waits-live g id w)) (green-sees cells g k.greens.greening tested.0 a asks idle) tested.1;
        lives = λ id m. lives id (subst (λ (xs : List ℕ). Contains xs id) same.live m);
        tested = tested-passed slots ids cells w s slot g sweep.End e k idle tested;
      }

  look-on : (v : RoundView) → IsInStep slots ids v → is_event cells (asked v) ≡ false → LivesIn cells v → IsTested cells v → IsPassed cells v (looked_past slots cells v)
  look-on Closed k idle lives tested = record { looks = here; lives = tt; tested = tt }
  look-on (Walking w) k idle lives tested = record { looks = here; lives = tt; tested = tt }
  look-on (Sweeping w s slot g) k idle lives tested = swept-on w s slot g (next_of_sweep s) refl k idle lives tested

  pub passes-on : (u v : RoundView) → IsInStep slots ids u → Passes slots cells u v → LivesIn cells u → IsTested cells u → IsPassed cells u v
  passes-on u _ k none lives tested = record { looks = here; lives = lives; tested = tested }
  passes-on u _ k (more v before idle) lives tested =
      let p = passes-on u v k before lives tested in
      let one = look-on v (in_step-passes slots ids cells u v k before) idle p.lives p.tested in
      record { looks = looks-then p.looks one.looks; lives = one.lives; tested = one.tested }

-- ---- events

-- the walk asks for nothing more: no seed is left
end-asked : (slots : ℕ) (o : Option Test) (n : GreenAt) → asked_by_green slots o n ≡ at.End → n ≡ green.End
end-asked slots None (green.Seed id) e = absurd (cc)
end-asked slots (Some t) (green.Seed id) e = absurd (by (t.slot == slots) e)
  where
    by : (b : Bool) → (if b then at.Flip id else at.Test t.id t.slot) ≡ at.End → ⊥
    by true e = absurd (cc)
    by false e = absurd (cc)
end-asked slots o (green.Into «from» slot to) e = absurd (cc)
end-asked slots None (green.Out «from» slot) e = absurd (cc)
end-asked slots (Some t) (green.Out «from» slot) e = absurd (by (t.slot == slots) e)
  where
    by : (b : Bool) → (if b then at.Strengthen «from» slot t.id else at.Test t.id t.slot) ≡ at.End → ⊥
    by true e = absurd (cc)
    by false e = absurd (cc)
end-asked slots o green.End e = refl

end-swept : (slot : ℕ) (g : Greening) (n : SweepAt) → asked_by_sweep slot g n ≡ at.End → (n ≡ sweep.End) × (next_of_green g ≡ green.End)
end-swept slot g (sweep.Slots id) e = absurd (cc)
end-swept slot g (sweep.Free id) e = absurd (cc)
end-swept slot g sweep.End e = (refl, end-asked g.slots g.test (next_of_green g) e)

no-seed : (seeds : List ℕ) → first_seed seeds ≡ green.End → seeds ≡ []
no-seed [] e = refl
no-seed (id ∷ ids) e = absurd (cc)

end-stage : (g : Greening) (st : GreenStage) → IsThere g st → asked_at g st ≡ green.End → (plain_stage st ≡ AtSeeds) × (g.seeds ≡ [])
end-stage g AtSeed t e = (refl, no-seed g.seeds e)
end-stage g (AtInto flipped rest) t e = absurd (let f : green.Into t.0.id t.0.slot flipped ≡ green.End = sym (ap (look_into flipped) t.1) ∙ e in cc)
end-stage g (AtOut place slot) t e = absurd (cc)

-- the slots that are still to be looked at are copied ones
abbrev IsAmong : Greening → GreenStage → Type 0
IsAmong g (AtInto flipped rest) = (x : CopiedSlot) → Contains rest x → Contains g.copied x
IsAmong g _ = Unit {0}

among-of : (g : Greening) (st : GreenStage) → IsPlace g st → IsAmong g st
among-of g AtSeed p = tt
among-of g (AtInto flipped rest) p = p.3
among-of g (AtOut place slot) p = tt

-- a slot that is asked for is of an object that waits
first-led : (g : Greening) (flipped : ℕ) (rest : List CopiedSlot) (first : CopiedSlot) → first_with (may_lead_to g flipped) rest ≡ Some first → waits_in g first.id ≡ true
first-led g flipped rest first e = lead-waits g flipped first (first-has (may_lead_to g flipped) rest first e).1

moved-plainly : (g : Greening) (place slot : ℕ) → plain_of (moved g place slot) ≡ behind_slot (plain_of g) place slot
moved-plainly g place slot = ap (λ (st : PlainStage). record (plain_of g) { stage = st }) (by (slot + 1 == g.slots))
  where
    by : (b : Bool) → plain_stage (if b then AtOut (place + 1) 0 else AtOut place (slot + 1)) ≡ (if b then AtGreen (place + 1) 0 else AtGreen place (slot + 1))
    by true = refl
    by false = refl

module _ (slots ids : ℕ) (c : Core) (w : Walk) (s : Sweep) (slot : ℕ) (g : Greening) (k : IsSweeping slots ids w s slot g) (lives : (id : ℕ) → Contains g.live id → is_live c.cells id ≡ true) (tested : IsTested c.cells (Sweeping w s slot g)) (queue : List ℕ) (round : Option Round) where
  waiting-lives : (id : ℕ) → waits_in g id ≡ true → is_live c.cells id ≡ true
  waiting-lives id e = lives id (waits-live g id e)

  -- the sweep is over where the green walk makes an event
  over : (event : Act) (logged : Option CellRecord) (v : RoundView) → next_of_sweep s ≡ sweep.End → Finds c.cells (plain_of g) event logged (plain_in v) → IsPlain c.cells (Sweeping w s slot g) event logged v
  over event logged v e f = subst (λ (n : SweepAt). IsPlainAt c.cells g n event logged v) (sym e) f

  flip-plain : (id : ℕ) → asked (Sweeping w s slot g) ≡ at.Flip id → Flips c id queue round → IsPlain c.cells (Sweeping w s slot g) act.Change (Some (logs.Flip id)) (Sweeping w s slot (found_by_green g (Made id)))
  flip-plain id e does =
      let asks = asked-green slot g (next_of_sweep s) (at.Flip id) tt e in
      let a = at-flip g id asks.1.1 k.greens.greening asks.1.0 asks.1.2 in
      let white : IsWhite c.cells (plain_of g) id = record { waiting = a.waiting; zero = eqb-true (cell_at c.cells id).strong 0 does.white.zero; none_out = does.white.none_out } in
      over act.Change (Some (logs.Flip id)) (Sweeping w s slot (found_by_green g (Made id))) asks.0
      (subst (λ (h : Greening). Finds c.cells (plain_of g) act.Change (Some (logs.Flip id)) (plain_of h)) (sym a.found)
      (record { at = plain_of g; looks = here; makes = flips id a.rest (ap plain_stage a.stage) a.seeds white }))

  into-plain : («from» n to : ℕ) → asked (Sweeping w s slot g) ≡ at.Into «from» n to → Fits c.cells (WeakenRecord «from» n to) → IsPlain c.cells (Sweeping w s slot g) act.Change (Some (logs.Weaken «from» n to)) (Sweeping w s slot (found_by_green g (Made «from»)))
  into-plain «from» n to e fits =
      let asks = asked-green slot g (next_of_sweep s) (at.Into «from» n to) tt e in
      let a = at-into g «from» n to asks.1 in
      over act.Change (Some (logs.Weaken «from» n to)) (Sweeping w s slot (found_by_green g (Made «from»))) asks.0
      (subst (λ (h : Greening). Finds c.cells (plain_of g) act.Change (Some (logs.Weaken «from» n to)) (plain_of h)) (sym a.found)
      (into-finds «from» n to fits a.rest a.first a.stage a.leads a.id a.at))
    where
      into-finds : («from» n to : ℕ) → Fits c.cells (WeakenRecord «from» n to) → (rest : List CopiedSlot) (first : CopiedSlot) → g.stage ≡ AtInto to rest → first_with (may_lead_to g to) rest ≡ Some first → first.id ≡ «from» → first.slot ≡ n
          → Finds c.cells (plain_of g) act.Change (Some (logs.Weaken «from» n to)) (plain_at g (AtInto to (behind_first (may_lead_to g to) rest)))
      into-finds «from» n to fits rest first stage leads is at =
          let waiting = first-led g to rest first leads in
          let old = fits.0 in
          let strong : IsStrongAt c.cells «from» n to = record { live = waiting-lives «from» (subst (λ (x : ℕ). waits_in g x ≡ true) is waiting); target = old.target; not_null = fits.1; strong = old.strength fits.1 } in
          let among : (x : CopiedSlot) → Contains rest x → Contains g.copied x = subst (IsAmong g) stage (among-of g g.stage k.greens.greening.place) in
          subst (λ (x : ℕ). Finds c.cells (plain_of g) act.Change (Some (logs.Weaken x n to)) (plain_at g (AtInto to (behind_first (may_lead_to g to) rest)))) is
          (subst (λ (y : ℕ). Finds c.cells (plain_of g) act.Change (Some (logs.Weaken first.id y to)) (plain_at g (AtInto to (behind_first (may_lead_to g to) rest)))) at
          (record {
            at = plain_at g (AtInto to (first ∷ behind_first (may_lead_to g to) rest));
            looks = subst (λ (st : GreenStage). LooksOn c.cells (plain_at g st) (plain_at g (AtInto to (first ∷ behind_first (may_lead_to g to) rest)))) (sym stage) (pass-to c.cells g to tested.1.current rest first among leads);
            makes = weakens to first.id first.slot (map place_of (behind_first (may_lead_to g to) rest)) refl waiting
                (subst (λ (x : ℕ). IsStrongAt c.cells x first.slot to) (sym is) (subst (λ (y : ℕ). IsStrongAt c.cells «from» y to) (sym at) strong));
          }))

  strengthen-plain : («from» n to : ℕ) → asked (Sweeping w s slot g) ≡ at.Strengthen «from» n to → Strengthens c «from» to queue round → IsPlain c.cells (Sweeping w s slot g) act.Change (Some (logs.Strengthen «from» n to)) (Sweeping w s slot (found_by_green g (Made to)))
  strengthen-plain «from» n to e does =
      let asks = asked-green slot g (next_of_sweep s) (at.Strengthen «from» n to) tt e in
      let t = asks.1.1 in
      let a = at-strengthen g «from» n to t k.greens.greening asks.1.0 asks.1.2 asks.1.3 in
      let found_so_far : IsTestedIn c.cells g t = subst (λ (o : Option Test). IfSome o (IsTestedIn c.cells g)) asks.1.2 tested.0 in
      let target : (pointer_at c.cells «from» n).target ≡ to = found_so_far.named «from» n asks.1.0 ∙ asks.1.3 in
      let white : IsWhite c.cells (plain_of g) to = record { waiting = a.waiting; zero = eqb-true (cell_at c.cells to).strong 0 does.white.zero; none_out = does.white.none_out } in
      over act.Change (Some (logs.Strengthen «from» n to)) (Sweeping w s slot (found_by_green g (Made to))) asks.0
      (subst (λ (h : Greening). Finds c.cells (plain_of g) act.Change (Some (logs.Strengthen «from» n to)) (plain_of h)) (sym a.found)
      (subst (λ (q : PlainWalk). Finds c.cells (plain_of g) act.Change (Some (logs.Strengthen «from» n to)) q) (sym (moved-plainly (greened_in g to) a.place n))
      (subst (λ (x : ℕ). Finds c.cells (plain_of g) act.Change (Some (logs.Strengthen x n to)) (behind_slot (greened (plain_of g) to) a.place n)) a.green
      (record {
        at = plain_of g;
        looks = here;
        makes = strengthens a.place n to (ap plain_stage a.stage) a.within (ap (λ (x : ℕ). (pointer_at c.cells x n).target) a.green ∙ target) white;
      }))))

  end-plain : asked (Sweeping w s slot g) ≡ at.End → IsPlain c.cells (Sweeping w s slot g) act.End None Closed
  end-plain e =
      let asks = end-swept slot g (next_of_sweep s) e in
      let h = settled g in
      let last = end-stage h h.stage (there g) asks.1 in
      over act.End None Closed asks.0 (record { at = plain_of h; looks = settles c.cells s g k.greens.greening waiting-lives tested.1; makes = ends last.0 last.1 })

  cut-plain : (id target : ℕ) (strong : Bool) → next_of_sweep s ≡ sweep.Slots id → IsPlain c.cells (Sweeping w s slot g) act.Change (Some (logs.CutDead id slot target strong)) (next_slot slots w s slot g)
  cut-plain id target strong e = subst (λ (n : SweepAt). IsPlainAt c.cells g n act.Change (Some (logs.CutDead id slot target strong)) (next_slot slots w s slot g)) (sym e) (slot-on slots ids c.cells w s slot g)

  free-plain : (id : ℕ) (u : Walk) → next_of_sweep s ≡ sweep.Free id → IsPlain c.cells (Sweeping w s slot g) act.Change (Some (logs.Free id)) (Sweeping u (found_by_sweep s (Made id)) slot g)
  free-plain id u e = subst (λ (n : SweepAt). IsPlainAt c.cells g n act.Change (Some (logs.Free id)) (Sweeping u (found_by_sweep s (Made id)) slot g)) (sym e) refl

pub plain-event : (slots ids : ℕ) (c : Core) (u v : RoundView) (event : Act) (logged : Option CellRecord) (queue : List ℕ) (round : Option Round) → Proceeds slots ids u event logged v → IsInStep slots ids u → LivesIn c.cells u → IsTested c.cells u → IfSome logged (FitsCells c.cells) → Collects slots c event logged queue round
    → IsPlain c.cells u event logged v
plain-event slots ids c _ _ _ _ queue round (skip id) k lives tested fits does = tt
plain-event slots ids c _ _ _ _ queue round (start id) k lives tested fits does = tt
plain-event slots ids c _ _ _ _ queue round (weaken w id slot target joins e) k lives tested fits does = tt
plain-event slots ids c _ _ _ _ queue round (scan w id copy e) k lives tested fits does = tt
plain-event slots ids c _ _ _ _ queue round (judge w j e) k lives tested fits does = tt
plain-event slots ids c _ _ _ _ queue round (cut w s slot id target strong g e) k lives tested fits does = cut-plain slots ids c w s slot g k lives tested queue round id target strong e
plain-event slots ids c _ _ _ _ queue round (free w s slot id g e) k lives tested fits does = free-plain slots ids c w s slot g k lives tested queue round id _ e
plain-event slots ids c _ _ _ _ queue round (flip w s slot id g e) k lives tested fits does = flip-plain slots ids c w s slot g k lives tested queue round id e does
plain-event slots ids c _ _ _ _ queue round (into w s slot «from» n to g e) k lives tested fits does = into-plain slots ids c w s slot g k lives tested queue round «from» n to e fits
plain-event slots ids c _ _ _ _ queue round (strengthen w s slot «from» n to g e) k lives tested fits does = strengthen-plain slots ids c w s slot g k lives tested queue round «from» n to e does
plain-event slots ids c _ _ _ _ queue round (end w s slot g e) k lives tested fits does = end-plain slots ids c w s slot g k lives tested queue round e

-- ---- of a journal

-- what lives by the verdict is in the round, and so is there
round-lives : (slots ids : ℕ) (c : Core) (u : RoundView) → IsSound c → IsInStep slots ids u → in_round c ≡ in_round (record c { round = round_of u }) → LivesIn c.cells u
round-lives slots ids c Closed sound k same = tt
round-lives slots ids c (Walking w) sound k same = tt
round-lives slots ids c (Sweeping w s slot g) sound k same = λ id m. (sound.round_live id (subst (λ (xs : List ℕ). Contains xs id) (sym same) (k.greens.left id m))).0

journal-lives : (slots : ℕ) (i : JournalView) → IsSoundJournal slots i → LivesIn (cells_of i) i.round
journal-lives slots i j = round-lives slots i.history.ids (core_of i) i.round j.sound j.in_step refl

pub plain-looks : PlainLooksLaw
plain-looks slots i j sound tested only = (passes-on slots i.history.ids (cells_of i) i.round j.round sound.in_step only.passes (journal-lives slots i sound) tested).looks

pub plain-events : PlainEventsLaw
plain-events slots i j r sound tested m opening behind =
    plain-event slots i.history.ids (core_of i) i.round j.round m.event m.logged j.queue (core_of j).round m.proceeds sound.in_step (journal-lives slots i sound) tested (last-fits slots i j r sound m opening behind) m.collects
