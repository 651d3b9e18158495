-- What the calls leave that make the events of the green walk.
use Rattle.std.proofs.Common.{◌≡◌, ℕ, List, Bool, true, Some, sym, subst}
use Rattle.cell_model.specs.Cells.{pointer_at}
use Rattle.store_model.specs.Core.{Core}
use Rattle.red_walk.specs.Walk.{Walk}
use Rattle.green_walk.specs.declared.sweep.SweepAt.TheVariants as sweep
use Rattle.green_walk.specs.declared.sweep.Found.TheVariants.{Made}
use Rattle.green_walk.specs.Sweeping.{SweepState as Sweep, next as next_of_sweep}
use Rattle.green_walk.specs.Greening.{Greening, next as next_of_green, found as found_by_green, IsAnswer}
use Rattle.log_record.specs.declared.cell_record.CellRecord.TheVariants as logs
use Rattle.core_store.specs.declared.three.HeldFrame.{HeldFrame}
use Rattle.core_store.specs.declared.act.Act.TheVariants as act
use Rattle.core_store.specs.declared.round_at.RoundAt.{RoundAt}
use Rattle.core_store.specs.declared.round_at.RoundAt.TheVariants as at
use Rattle.core_store.specs.Frames.{Agree}
use Rattle.core_store.specs.Changes.{is_counted_strong}
use Rattle.core_store.specs.Slots.{CanChange, HoldsPagesOf, is_counted_weak, IsReadyToFlip, FlipsCell, IsReadyToWeaken, WeakensSlot, IsReadyToStrengthen, StrengthensSlot}
use Rattle.core_store.specs.RoundView.{RoundView, Rounds, Sweeping, asked, is_event, IsGreenAnswer, IsInStep}
use Rattle.core_store.specs.Tables.{TablesView}
use Rattle.core_store.specs.Stands.{Stands}
use Rattle.core_store.specs.Collecting.{objects_at, CanCollect, IsReadyToCollect, Collected}
use Rattle.core_store.proofs.AskedGreen.{IsAskedBy}
use Rattle.core_store.proofs.AskedLaws.{IsGreenAt, asked-by_green}
use Rattle.core_store.proofs.WeakenRound.{can-null}
use Rattle.core_store.proofs.GreenRound.{flip-can, flip-answer, flip-collected, into-live, into-within, into-parts, into-answer, into-collected, strengthen-live, strengthen-within, strengthen-weak, strengthen-answer, strengthen-collected}

-- the green walk after the sweep asked for this
pub record AsksGreen (v : TablesView) (a : RoundAt) : Type 0 where
  pub walk : Walk
  pub swept : Sweep
  pub slot : ℕ
  pub greening : Greening
  pub is : v.round ≡ Sweeping walk swept slot greening
  pub end : next_of_sweep swept ≡ sweep.End
  pub asks : IsAskedBy greening.slots greening.test (next_of_green greening) a

pub asks-green : (v : TablesView) (a : RoundAt) → IsGreenAt a → asked v.round ≡ a → AsksGreen v a
asks-green v a k e = let x = asked-by_green v.round a k e in record { walk = x.0; swept = x.1; slot = x.2; greening = x.3; is = x.4; end = x.5; asks = x.7 }

module _ (slots : ℕ) (v : TablesView) {a : RoundAt} (b : AsksGreen v a) where
  abbrev pub round_behind : ℕ → RoundView
  round_behind made = Sweeping b.walk b.swept b.slot (found_by_green b.greening (Made made))

  -- the round after the call is in step
  step-behind : (made : ℕ) (before after : Rounds) → before.limit ≡ v.ids → after ≡ record before { view = round_behind made } → IsInStep slots after.limit after.view → IsInStep slots v.ids (round_behind made)
  step-behind made before after sized is step = subst (λ (n : ℕ). IsInStep slots n (round_behind made)) sized (subst (λ (r : Rounds). IsInStep slots r.limit r.view) is step)

  answer-behind : (made : ℕ) → IsAnswer b.greening (next_of_green b.greening) (Made made) → IsGreenAnswer v.round (Made made)
  answer-behind made k = subst (λ (r : RoundView). IsGreenAnswer r (Made made)) (sym b.is) (b.end, k)

module _ (slots : ℕ) (v : TablesView) (id : ℕ) (b : AsksGreen v (at.Flip id)) (asks : asked v.round ≡ at.Flip id) where
  pub flip-ready : {held : List (HeldFrame slots)} → CanCollect v held → IsReadyToFlip held v.zeros id
  flip-ready {held} r = record {
    ids = v.ids;
    cells = r.core.cells;
    agree = r.agree;
    marks = r.stands.zeros;
    can = flip-can slots v r.core r.stands b.walk b.swept b.slot b.greening b.is b.end id b.asks.0 b.asks.1 b.asks.2 b.asks.3;
    page = (subst (λ (x : RoundAt). HoldsPagesOf held (objects_at r.core.cells x)) asks r.ready.pages).0;
  }

  pub flip-answers : {held : List (HeldFrame slots)} → CanCollect v held → IsGreenAnswer v.round (Made id)
  flip-answers r = answer-behind slots v b id (flip-answer slots v r.core r.stands b.walk b.swept b.slot b.greening b.is b.end id b.asks.0 b.asks.1 b.asks.2 b.asks.3)

  pub flip-done : (held new : List (HeldFrame slots)) (marks : List Bool) (before after : Rounds) → before.limit ≡ v.ids → after ≡ record before { view = round_behind slots v b id } → IsInStep slots after.limit after.view → FlipsCell held new v.zeros marks id
      → (c : Core) → Stands slots v c → Agree c.cells held → Collected slots v (record v { zeros = marks; round = after.view }) c held new act.Change (Some (logs.Flip id))
  flip-done held new marks before after sized is step flips c h agree =
      let can = flip-can slots v c h b.walk b.swept b.slot b.greening b.is b.end id b.asks.0 b.asks.1 b.asks.2 b.asks.3 in
      subst (λ (r : Rounds). Collected slots v (record v { zeros = marks; round = r.view }) c held new act.Change (Some (logs.Flip id))) (sym is)
      (flip-collected slots v c h b.walk b.swept b.slot b.greening b.is b.end id b.asks.0 b.asks.1 b.asks.2 b.asks.3 asks held new marks (flips v.ids c.cells agree can) (step-behind slots v b id before after sized is step))

module _ (slots : ℕ) (v : TablesView) («from» k to : ℕ) (b : AsksGreen v (at.Into «from» k to)) (asks : asked v.round ≡ at.Into «from» k to) where
  into-event : (c : Core) (held : List (HeldFrame slots)) → IsReadyToCollect c.cells v.round held → is_event c.cells (at.Into «from» k to) ≡ true
  into-event c held ready = subst (λ (x : RoundAt). is_event c.cells x ≡ true) asks ready.event

  module _ (c : Core) (h : Stands slots v c) (held : List (HeldFrame slots)) (ready : IsReadyToCollect c.cells v.round held) where
    into-can : CanChange slots v.ids c.cells «from» k 0
    into-can =
        can-null slots v c h «from» k (into-live slots v c h b.walk b.swept b.slot b.greening b.is b.end «from» k to b.asks (into-event c held ready))
        (into-within slots v c h b.walk b.swept b.slot b.greening b.is b.end «from» k to b.asks (into-event c held ready))

    into-strong : is_counted_strong c.cells (pointer_at c.cells «from» k) ≡ true
    into-strong = (into-parts slots v c h b.walk b.swept b.slot b.greening b.is b.end «from» k to b.asks (into-event c held ready)).1

  pub into-ready : {held : List (HeldFrame slots)} → CanCollect v held → IsReadyToWeaken held v.zeros «from» k
  into-ready {held} r = record {
    ready = record {
      ids = v.ids;
      cells = r.core.cells;
      agree = r.agree;
      marks = r.stands.zeros;
      can = into-can r.core r.stands held r.ready;
      pages = subst (λ (x : RoundAt). HoldsPagesOf held (objects_at r.core.cells x)) asks r.ready.pages;
    };
    strong = into-strong r.core r.stands held r.ready;
  }

  pub into-answers : {held : List (HeldFrame slots)} → CanCollect v held → IsGreenAnswer v.round (Made «from»)
  into-answers {held} r = answer-behind slots v b «from» (into-answer slots v r.core r.stands b.walk b.swept b.slot b.greening b.is b.end «from» k to b.asks (into-event r.core held r.ready))

  pub into-done : (held new : List (HeldFrame slots)) (marks : List Bool) (before after : Rounds) → before.limit ≡ v.ids → after ≡ record before { view = round_behind slots v b «from» } → IsInStep slots after.limit after.view → (target : ℕ) → WeakensSlot held new v.zeros marks «from» k target
      → (c : Core) → Stands slots v c → Agree c.cells held → IsReadyToCollect c.cells v.round held → Collected slots v (record v { zeros = marks; round = after.view }) c held new act.Change (Some (logs.Weaken «from» k to))
  into-done held new marks before after sized is step target weakens c h agree ready =
      let done = weakens v.ids c.cells agree (into-can c h held ready) (into-strong c h held ready) in
      subst (λ (r : Rounds). Collected slots v (record v { zeros = marks; round = r.view }) c held new act.Change (Some (logs.Weaken «from» k to))) (sym is)
      (into-collected slots v c h b.walk b.swept b.slot b.greening b.is b.end «from» k to b.asks (into-event c held ready) asks held new marks done.1 (step-behind slots v b «from» before after sized is step))

module _ (slots : ℕ) (v : TablesView) («from» k to : ℕ) (b : AsksGreen v (at.Strengthen «from» k to)) (asks : asked v.round ≡ at.Strengthen «from» k to) where
  module _ (c : Core) (h : Stands slots v c) where
    strengthen-can : CanChange slots v.ids c.cells «from» k 0
    strengthen-can =
        can-null slots v c h «from» k (strengthen-live slots v c h b.walk b.swept b.slot b.greening b.is b.end «from» k to b.asks.0 b.asks.1 b.asks.2 b.asks.3 b.asks.4)
        (strengthen-within slots v c h b.walk b.swept b.slot b.greening b.is b.end «from» k to b.asks.0 b.asks.1 b.asks.2 b.asks.3 b.asks.4)

    strengthen-is_weak : is_counted_weak c.cells (pointer_at c.cells «from» k) ≡ true
    strengthen-is_weak = strengthen-weak slots v c h b.walk b.swept b.slot b.greening b.is b.end «from» k to b.asks.0 b.asks.1 b.asks.2 b.asks.3 b.asks.4

  pub strengthen-ready : {held : List (HeldFrame slots)} → CanCollect v held → IsReadyToStrengthen held v.zeros «from» k
  strengthen-ready {held} r = record {
    ready = record {
      ids = v.ids;
      cells = r.core.cells;
      agree = r.agree;
      marks = r.stands.zeros;
      can = strengthen-can r.core r.stands;
      pages = subst (λ (x : RoundAt). HoldsPagesOf held (objects_at r.core.cells x)) asks r.ready.pages;
    };
    weak = strengthen-is_weak r.core r.stands;
  }

  pub strengthen-answers : {held : List (HeldFrame slots)} → CanCollect v held → IsGreenAnswer v.round (Made to)
  strengthen-answers r = answer-behind slots v b to (strengthen-answer slots v r.core r.stands b.walk b.swept b.slot b.greening b.is b.end «from» k to b.asks.0 b.asks.1 b.asks.2 b.asks.3 b.asks.4)

  pub strengthen-done : (held new : List (HeldFrame slots)) (marks : List Bool) (before after : Rounds) → before.limit ≡ v.ids → after ≡ record before { view = round_behind slots v b to } → IsInStep slots after.limit after.view → StrengthensSlot held new v.zeros marks «from» k
      → (c : Core) → Stands slots v c → Agree c.cells held → Collected slots v (record v { zeros = marks; round = after.view }) c held new act.Change (Some (logs.Strengthen «from» k to))
  strengthen-done held new marks before after sized is step strengthens c h agree =
      subst (λ (r : Rounds). Collected slots v (record v { zeros = marks; round = r.view }) c held new act.Change (Some (logs.Strengthen «from» k to))) (sym is)
      (strengthen-collected slots v c h b.walk b.swept b.slot b.greening b.is b.end «from» k to b.asks.0 b.asks.1 b.asks.2 b.asks.3 b.asks.4 asks held new marks (strengthens v.ids c.cells agree (strengthen-can c h) (strengthen-is_weak c h)) (step-behind slots v b to before after sized is step))
