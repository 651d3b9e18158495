-- What tables stand for after an event of the collector that frees nothing.
use Rattle.std.proofs.Common.{◌≡◌, ◌≢◌, ℕ, ◌+◌, ◌<◌, ◌==◌, if◌then◌else◌, IfSome, sym, subst, List, length, get_or, map, Bool, true, false, ap, ◌∙◌, Option, None, refl}
use Rattle.std.proofs.lemmas.List.{get_or-map, length-map}
use Rattle.cell_model.specs.Cells.{Cell, blank_cell, cell_at, is_live}
use Rattle.cell_model.proofs.EditLaws.{live-within}
use Rattle.store_model.specs.Core.{Round, Core}
use Rattle.store_model.specs.Sound.{IsSound}
use Rattle.store_model.specs.Steps.{after_look, after_collect}
use Rattle.red_walk.specs.Walk.{Walk}
use Rattle.green_walk.specs.declared.sweep.SweepAt.TheVariants as sweep
use Rattle.green_walk.specs.declared.sweep.Found.TheVariants.{Nothing}
use Rattle.green_walk.specs.declared.green_at.Test.{Test}
use Rattle.green_walk.specs.Sweeping.{SweepState as Sweep, next as next_of_sweep, found}
use Rattle.green_walk.specs.Greening.{Greening}
use Rattle.core_store.specs.declared.three.HeldFrame.{HeldFrame}
use Rattle.core_store.specs.Frames.{Agree}
use Rattle.core_store.specs.Changes.{has_no_strong}
use Rattle.core_store.specs.RoundView.{RoundView, Sweeping, round_of, next_slot, IsGreeningOf, IsInStep}
use Rattle.core_store.specs.Tables.{TablesView}
use Rattle.core_store.specs.Saved.{AreSaved}
use Rattle.core_store.specs.Stands.{IsEmptied, IsTestedIn, IsTested, Stands, Moves}
use Rattle.core_store.proofs.LayLaws.{CanLay-later}
use Rattle.core_store.proofs.PageLaws.{elsewhere-refl}

-- the cells and with them the marks, the queue and the round change
pub Stands-collected : (slots : ℕ) (v : TablesView) (c : Core) (cells : List Cell) (queue : List ℕ) (round : Option Round) (zeros : List Bool) (view : RoundView) → Stands slots v c → IsSound (after_collect c cells queue round)
    → ((x : ℕ) → is_live cells x ≡ is_live c.cells x) → zeros ≡ map has_no_strong cells → round_of view ≡ round → IsInStep slots v.ids view → IsEmptied cells view → IsTested cells view
    → Stands slots (record v { zeros = zeros; queue = queue; round = view }) (after_collect c cells queue round)
Stands-collected slots v c cells queue round zeros view h sound live marks is step emptied tested = record {
  ids = h.ids;
  few = h.few;
  slots_are = h.slots_are;
  counted = h.counted;
  sound = sound;
  running = h.running;
  restorable = λ pass kept f w k. CanLay-later slots c.cells cells (λ x l. live x ∙ l) w (h.restorable pass kept f w k);
  owners = h.owners;
  sharers = h.sharers;
  free = h.free;
  zeros = marks;
  references = h.references;
  queue = refl;
  round = is;
  in_step = step;
  emptied = emptied;
  tested = tested;
  owed = h.owed;
}

-- the queue and the round alone change
pub Stands-looked : (slots : ℕ) (v : TablesView) (c : Core) (queue : List ℕ) (r : RoundView) → Stands slots v c → IsInStep slots v.ids r → IsEmptied c.cells r → IsTested c.cells r → IsSound (after_look c queue (round_of r)) → Stands slots (record v { queue = queue; round = r }) (after_look c queue (round_of r))
Stands-looked slots v c queue r h step emptied tested sound = Stands-collected slots v c c.cells queue (round_of r) v.zeros r h sound (λ x. refl) h.zeros refl step emptied tested

-- ---- tests

-- where no test is in hand, nothing was found by it
pub tested-none : (cells : List Cell) (w : Walk) (s : Sweep) (slot : ℕ) (g : Greening) → g.test ≡ None → AreSaved cells s g → IsTested cells (Sweeping w s slot g)
tested-none cells w s slot g none saved = (subst (λ (o : Option Test). IfSome o (IsTestedIn cells g)) (sym none) tt, saved)

pub tested-next_slot : (slots : ℕ) (cells : List Cell) (w : Walk) (s : Sweep) (slot : ℕ) (g : Greening) → g.test ≡ None → ((t : Sweep) → AreSaved cells t g) → IsTested cells (next_slot slots w s slot g)
tested-next_slot slots cells w s slot g none saved = by (slot + 1 == slots)
  where
    by : (b : Bool) → IsTested cells (if b then Sweeping w (found s Nothing) 0 g else Sweeping w s (slot + 1) g)
    by true = tested-none cells w (found s Nothing) 0 g none (saved (found s Nothing))
    by false = tested-none cells w s (slot + 1) g none (saved s)

-- a sweep that has something to do isn't at its end
pub slots-end : (s : Sweep) (id : ℕ) → next_of_sweep s ≡ sweep.Slots id → next_of_sweep s ≢ sweep.End
slots-end s id e over = apart (sym e ∙ over)
  where
    apart : sweep.Slots id ≡ sweep.End → ⊥
    apart e = absurd (cc)

pub free-end : (s : Sweep) (id : ℕ) → next_of_sweep s ≡ sweep.Free id → next_of_sweep s ≢ sweep.End
free-end s id e over = apart (sym e ∙ over)
  where
    apart : sweep.Free id ≡ sweep.End → ⊥
    apart e = absurd (cc)

-- in the sweep no test is in hand
pub rests-at_slots : (slots ids : ℕ) (w : Walk) (s : Sweep) (g : Greening) (id : ℕ) → IsGreeningOf slots ids w s g → next_of_sweep s ≡ sweep.Slots id → g.test ≡ None
rests-at_slots slots ids w s g id k e = k.at_rest (slots-end s id e)

pub rests-at_free : (slots ids : ℕ) (w : Walk) (s : Sweep) (g : Greening) (id : ℕ) → IsGreeningOf slots ids w s g → next_of_sweep s ≡ sweep.Free id → g.test ≡ None
rests-at_free slots ids w s g id k e = k.at_rest (free-end s id e)

-- ---- moves and marks

-- nothing is logged, and no page changes
pub Moves-none : (slots : ℕ) (cells : List Cell) (held : List (HeldFrame slots)) → Agree cells held → Moves slots cells held held None
Moves-none slots cells held agree = record { fits = tt; lays = tt; agree = agree; elsewhere = elsewhere-refl cells held }

-- a mark is the cell's
pub mark-at : (zeros : List Bool) (cells : List Cell) → zeros ≡ map has_no_strong cells → (id : ℕ) → id < length cells → get_or zeros id false ≡ has_no_strong (cell_at cells id)
mark-at zeros cells is id l = ap (λ (bs : List Bool). get_or bs id false) is ∙ get_or-map has_no_strong cells id (blank_cell false 0) false l

pub marks-long_of : (zeros : List Bool) (cells : List Cell) → zeros ≡ map has_no_strong cells → length zeros ≡ length cells
marks-long_of zeros cells is = ap length is ∙ length-map cells has_no_strong

module _ (slots : ℕ) (v : TablesView) (c : Core) (h : Stands slots v c) where
  pub mark-of : (id : ℕ) → id < length c.cells → get_or v.zeros id false ≡ has_no_strong (cell_at c.cells id)
  mark-of id l = mark-at v.zeros c.cells h.zeros id l

  pub mark-of_live : (id : ℕ) → is_live c.cells id ≡ true → get_or v.zeros id false ≡ has_no_strong (cell_at c.cells id)
  mark-of_live id live = mark-of id (live-within c.cells id live)

  pub marks-long : length v.zeros ≡ length c.cells
  marks-long = marks-long_of v.zeros c.cells h.zeros
