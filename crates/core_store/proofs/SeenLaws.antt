-- The looks of the green walk, as they are made.
use Rattle.std.proofs.Common.{◌≡◌, ℕ, ◌<◌, List, length, Bool, true, false, refl, sym, ap, ◌∙◌, subst, IfSome}
use Rattle.std.specs.Prelude.{◌&&◌, if◌then◌else◌}
use Rattle.cell_model.specs.Cells.{Cell, cell_at, pointer_at, is_live}
use Rattle.store_model.specs.Core.{Core}
use Rattle.cell_model.proofs.EditLaws.{live-within}
use Rattle.red_walk.specs.Walk.{Walk}
use Rattle.green_walk.specs.declared.sweep.SweepAt.TheVariants as sweep
use Rattle.green_walk.specs.declared.sweep.Found.{Found}
use Rattle.green_walk.specs.declared.sweep.Found.TheVariants.{Nothing, Strong}
use Rattle.green_walk.specs.declared.green_at.GreenAt.{GreenAt}
use Rattle.green_walk.specs.Sweeping.{SweepState as Sweep, next as next_of_sweep}
use Rattle.green_walk.specs.Greening.{Greening, IsAnswer, IsTestable, waits, next as next_of_green, found, testing, tested}
use Rattle.green_walk.proofs.GreenAsked.{waits-live}
use Rattle.core_store.specs.declared.three.HeldFrame.{HeldFrame}
use Rattle.core_store.specs.declared.round_at.RoundAt.{RoundAt}
use Rattle.core_store.specs.declared.round_at.RoundAt.TheVariants as at
use Rattle.core_store.specs.Frames.{Agree}
use Rattle.core_store.specs.Changes.{has_no_strong, is_counted_strong}
use Rattle.core_store.specs.RoundView.{RoundView, Sweeping, asked, is_event, is_white, looked_past, passed_by_sweep, passed_by_green, green_to, swept_to, looked_to, IsGreenAnswer, IsGreenTestable, IsInStep, IsSweeping}
use Rattle.core_store.specs.Work.{IsWork}
use Rattle.core_store.specs.Collecting.{work_at, CanPass, IsPassedBy}
use Rattle.core_store.specs.Tables.{TablesView}
use Rattle.core_store.specs.Stands.{Stands}
use Rattle.core_store.proofs.AskedGreen.{IsAskedBy}
use Rattle.core_store.proofs.AskedLaws.{IsGreenAt, asked-by_green}
use Rattle.core_store.proofs.CollectedLaws.{marks-long}
use Rattle.core_store.proofs.GreenAsks.{test-answers}
use Rattle.core_store.proofs.HeldEvents.{IsAbove, event-same}
use Rattle.core_store.proofs.PassLaws.{Stands-passed}
use Rattle.core_store.proofs.ReadyRound.{IsThere, asked-there, asked-work, green-live}

-- ---- what is asked for

-- the green walk after the sweep that asks for this
pub record GreenOf (r : RoundView) (a : RoundAt) : Type 0 where
  pub walk : Walk
  pub swept : Sweep
  pub slot : ℕ
  pub of : Greening
  pub is : r ≡ Sweeping walk swept slot of
  pub rest : next_of_sweep swept ≡ sweep.End
  pub asks : IsAskedBy of.slots of.test (next_of_green of) a
  pub passes : (slots : ℕ) (cells : List Cell) → looked_past slots cells r ≡ Sweeping walk swept slot (passed_by_green cells of a)
  pub goes : (slots n : ℕ) → looked_to slots r n ≡ Sweeping walk swept slot (green_to of n a)

pub green-of : (r : RoundView) (a : RoundAt) → IsGreenAt a → asked r ≡ a → GreenOf r a
green-of r a k e =
    let x = asked-by_green r a k e in
    record {
      walk = x.0;
      swept = x.1;
      slot = x.2;
      of = x.3;
      is = x.4;
      rest = x.5;
      asks = x.7;
      passes = λ slots cells. ap (looked_past slots cells) x.4 ∙ (ap (passed_by_sweep slots cells x.0 x.1 x.2 x.3) x.5 ∙ ap (λ (b : RoundAt). Sweeping x.0 x.1 x.2 (passed_by_green cells x.3 b)) x.6);
      goes = λ slots n. ap (λ (q : RoundView). looked_to slots q n) x.4 ∙ (ap (swept_to slots x.0 x.1 x.2 x.3 n) x.5 ∙ ap (λ (b : RoundAt). Sweeping x.0 x.1 x.2 (green_to x.3 n b)) x.6);
    }

module _ {r : RoundView} {a : RoundAt} (x : GreenOf r a) where
  -- what may be answered to it, and tested at it
  answer-of : (what : Found) → IsAnswer x.of (next_of_green x.of) what → IsGreenAnswer r what
  answer-of what k = subst (λ (q : RoundView). IsGreenAnswer q what) (sym x.is) (x.rest, k)

  testable-of : (id : ℕ) → IsTestable x.of (next_of_green x.of) id → IsGreenTestable r id
  testable-of id k = subst (λ (q : RoundView). IsGreenTestable q id) (sym x.is) (x.rest, k)

module _ {slots : ℕ} {v : TablesView} {c : Core} (h : Stands slots v c) where
  -- a live object has a mark
  pub marked : (id : ℕ) → is_live c.cells id ≡ true → id < length v.zeros
  marked id live = subst (λ (n : ℕ). id < n) (sym (marks-long slots v c h)) (live-within c.cells id live)

  -- an object that waits is live
  pub waiting-live : {a : RoundAt} (x : GreenOf v.round a) (id : ℕ) → waits x.of id ≡ true → is_live c.cells id ≡ true
  waiting-live x id w =
      let k : IsSweeping slots v.ids x.walk x.swept x.slot x.of = subst (IsInStep slots v.ids) x.is h.in_step in
      green-live h x.walk x.swept x.slot x.of x.is k id (waits-live x.of id w)

  -- what is asked for is there
  pub there-at : (a : RoundAt) → asked v.round ≡ a → IsThere slots c.cells a
  there-at a e = subst (IsThere slots c.cells) e (asked-there h)

  pub work-at : (a : RoundAt) → asked v.round ≡ a → IfSome (work_at a) (IsWork slots)
  work-at a e = subst (λ (x : RoundAt). IfSome (work_at x) (IsWork slots)) e (asked-work h)

  -- where the round is as after a look, the tables go on to stand for the journal
  pub passed-by : (q : RoundView) → is_event c.cells (asked v.round) ≡ false → q ≡ looked_past slots c.cells v.round → IsPassedBy slots c v (record v { round = q })
  passed-by q nothing e = record { round = e; same = refl; stands = subst (λ (r : RoundView). Stands slots (record v { round = r }) c) (sym e) (Stands-passed slots v c h nothing) }

  -- the same, after a look of the green walk
  green-passed : {a : RoundAt} (x : GreenOf v.round a) (q : RoundView) → asked v.round ≡ a → is_event c.cells a ≡ false → q ≡ Sweeping x.walk x.swept x.slot (passed_by_green c.cells x.of a) → IsPassedBy slots c v (record v { round = q })
  green-passed x q e nothing is = passed-by q (ap (is_event c.cells) e ∙ nothing) (is ∙ sym (x.passes slots c.cells))

-- ---- a seed

module _ {v : RoundView} (id : ℕ) (x : GreenOf v (at.Seed id)) where
  pub seed-strong : waits x.of id ≡ true → IsGreenAnswer v Strong
  seed-strong w = answer-of x Strong (subst (λ (n : GreenAt). IsAnswer x.of n Strong) (sym x.asks.0) w)

  pub seed-nothing : IsGreenAnswer v Nothing
  seed-nothing = answer-of x Nothing (subst (λ (n : GreenAt). IsAnswer x.of n Nothing) (sym x.asks.0) tt)

  pub seed-testable : waits x.of id ≡ true → IsGreenTestable v id
  seed-testable w = testable-of x id (subst (λ (n : GreenAt). IsTestable x.of n id) (sym x.asks.0) (refl, w))

-- the green walk after a look at a seed
abbrev pub behind_seed : Greening → ℕ → Bool → Bool → Greening
behind_seed g id waiting zero = if waiting && zero then testing g id else found g (if waiting then Strong else Nothing)

pub seed-passed : {slots : ℕ} {v : TablesView} {c : Core} (h : Stands slots v c) (id : ℕ) (x : GreenOf v.round (at.Seed id)) (q : RoundView) (waiting zero : Bool) → asked v.round ≡ at.Seed id
    → waits x.of id ≡ waiting → has_no_strong (cell_at c.cells id) ≡ zero → q ≡ Sweeping x.walk x.swept x.slot (behind_seed x.of id waiting zero) → IsPassedBy slots c v (record v { round = q })
seed-passed {c} h id x q waiting zero e w z is =
    green-passed h x q e refl
    (is ∙ ap (λ (g : Greening). Sweeping x.walk x.swept x.slot g) (sym (ap (λ (b : Bool). behind_seed x.of id b (has_no_strong (cell_at c.cells id))) w ∙ ap (behind_seed x.of id waiting) z)))

-- ---- a slot of a tested object

pub test-nothing : {slots : ℕ} {v : TablesView} {c : Core} (h : Stands slots v c) (id slot : ℕ) (x : GreenOf v.round (at.Test id slot)) → IsGreenAnswer v.round Nothing
test-nothing {slots} {v} h id slot x =
    let k : IsSweeping slots v.ids x.walk x.swept x.slot x.of = subst (IsInStep slots v.ids) x.is h.in_step in
    answer-of x Nothing (test-answers x.of x.asks.0 k.greens.greening x.asks.1)

pub test-passed : {slots : ℕ} {v : TablesView} {c : Core} (h : Stands slots v c) (id slot : ℕ) (x : GreenOf v.round (at.Test id slot)) (q : RoundView) (strong : Bool) → asked v.round ≡ at.Test id slot
    → is_counted_strong c.cells (pointer_at c.cells id slot) ≡ strong → q ≡ Sweeping x.walk x.swept x.slot (if strong then found x.of Nothing else tested x.of) → IsPassedBy slots c v (record v { round = q })
test-passed h id slot x q strong e b is =
    green-passed h x q e refl (is ∙ ap (λ (y : Bool). Sweeping x.walk x.swept x.slot (if y then found x.of Nothing else tested x.of)) (sym b))

-- ---- a slot of a green object

module _ {v : RoundView} («from» slot : ℕ) (x : GreenOf v (at.Out «from» slot)) where
  pub out-nothing : IsGreenAnswer v Nothing
  out-nothing = answer-of x Nothing (subst (λ (n : GreenAt). IsAnswer x.of n Nothing) (sym x.asks.0) tt)

  pub out-testable : (to : ℕ) → waits x.of to ≡ true → IsGreenTestable v to
  out-testable to w = testable-of x to (subst (λ (n : GreenAt). IsTestable x.of n to) (sym x.asks.0) w)

pub out-passed : {slots : ℕ} {v : TablesView} {c : Core} (h : Stands slots v c) («from» slot to : ℕ) (x : GreenOf v.round (at.Out «from» slot)) (q : RoundView) (white : Bool) → asked v.round ≡ at.Out «from» slot
    → (pointer_at c.cells «from» slot).target ≡ to → is_white c.cells x.of to ≡ white → q ≡ Sweeping x.walk x.swept x.slot (if white then testing x.of to else found x.of Nothing) → IsPassedBy slots c v (record v { round = q })
out-passed {c} h «from» slot to x q white e target w is =
    green-passed h x q e refl
    (is ∙ sym (ap (λ (n : ℕ). Sweeping x.walk x.swept x.slot (if is_white c.cells x.of n then testing x.of n else found x.of Nothing)) target ∙ ap (λ (b : Bool). Sweeping x.walk x.swept x.slot (if b then testing x.of to else found x.of Nothing)) w))

-- ---- a slot that may lead to the flipped object

module _ {v : RoundView} («from» slot to : ℕ) (x : GreenOf v (at.Into «from» slot to)) where
  pub into-nothing : IsGreenAnswer v Nothing
  into-nothing = answer-of x Nothing (subst (λ (n : GreenAt). IsAnswer x.of n Nothing) (sym x.asks) tt)

pub into-passed : {slots : ℕ} {v : TablesView} {c : Core} (h : Stands slots v c) («from» slot to : ℕ) (x : GreenOf v.round (at.Into «from» slot to)) (q : RoundView) → asked v.round ≡ at.Into «from» slot to
    → is_event c.cells (asked v.round) ≡ false → q ≡ Sweeping x.walk x.swept x.slot (found x.of Nothing) → IsPassedBy slots c v (record v { round = q })
into-passed h «from» slot to x q e nothing is = passed-by h q nothing (is ∙ sym (x.passes _ _))

-- ---- any look

-- the object that is looked at has an id
above-work : (slots : ℕ) (a : RoundAt) → IfSome (work_at a) (IsWork slots) → IsAbove a
above-work slots (at.Look id slot) w = w.above
above-work slots (at.Cut id slot) w = w.above
above-work slots (at.Into «from» slot to) w = w.above
above-work slots (at.Seed id) w = tt
above-work slots (at.Test id slot) w = tt
above-work slots (at.Out «from» slot) w = tt
above-work slots (at.Flip id) w = tt
above-work slots (at.Strengthen «from» slot to) w = tt
above-work slots (at.Copy id) w = tt
above-work slots (at.Free id) w = tt
above-work slots at.Queue w = tt
above-work slots at.Judge w = tt
above-work slots at.End w = tt

-- where there is nothing to do in some cells with these held pages, there isn't in others
pub idle-in : {slots : ℕ} (v : TablesView) (held : List (HeldFrame slots)) (r : CanPass v held) (c : Core) → Agree c.cells held → is_event c.cells (asked v.round) ≡ false
idle-in {slots} v held r c agree =
    sym (event-same r.core.cells c.cells held r.agree agree (asked v.round) (above-work slots (asked v.round) (asked-work r.stands)) r.pages) ∙ r.none
