-- The collector looks at a slot, at which there is nothing to do, and goes on.
use Rattle.std.proofs.Common.{◌≡◌, ◌≢◌, ℕ, ◌+◌, ◌<◌, ◌≤◌, List, length, get_or, drop, Bool, true, false, not, Some, refl, sym, ap, ◌∙◌, subst, arith, ⊎_elim}
use Rattle.std.specs.Prelude.{◌==◌, if◌then◌else◌, slice_index}
use Rattle.std.proofs.lemmas.Bool.{eqb-true, cases_lt}
use Rattle.std.proofs.lemmas.List.{get_or_past, get_or-drop}
use Rattle.cell_model.specs.Cells.{Cell, Pointer, null, cell_at, pointer_at}
use Rattle.store_model.specs.Core.{Round, Core}
use Rattle.red_walk.specs.Walk.{Walk}
use Rattle.green_walk.specs.declared.sweep.SweepAt.{SweepAt}
use Rattle.green_walk.specs.declared.sweep.SweepAt.TheVariants as sweep
use Rattle.green_walk.specs.declared.sweep.Found.TheVariants.{Nothing}
use Rattle.green_walk.specs.Sweeping.{SweepState as Sweep, next as next_of_sweep, found}
use Rattle.green_walk.specs.Greening.{Greening, next as next_of_green}
use Rattle.core_store.specs.declared.three.HeldFrame.{HeldFrame}
use Rattle.core_store.specs.Frames.{Agree}
use Rattle.core_store.specs.declared.round_at.RoundAt.{RoundAt}
use Rattle.core_store.specs.declared.round_at.RoundAt.TheVariants as at
use Rattle.core_store.specs.RoundView.{RoundView, Closed, Walking, Sweeping, round_of, asked, asked_by_sweep, asked_by_green, is_event, next_slot, looked_past, passed_by_sweep, passed_by_green, IsInStep, IsSweeping, Passes, none, more}
use Rattle.core_store.specs.Tables.{TablesView}
use Rattle.core_store.specs.Passed.{HasPassed}
use Rattle.core_store.specs.Stands.{IsEmptied, IsTested, Stands}
use Rattle.core_store.proofs.AskedGreen.{asked-by}
use Rattle.core_store.proofs.GreenLooks.{green-looks, looks-tested}
use Rattle.core_store.proofs.CollectedLaws.{slots-end}
use Rattle.core_store.proofs.SavedLaws.{saved-swept}
use Rattle.core_store.proofs.SavedLooks.{green-sees, saved-sees}
use Rattle.core_store.proofs.LeftLaws.{found-nothing, slots-drop, drop-one, in_step-passed}
use Rattle.core_store.proofs.ReadyRound.{IsThere, asked-there}
use Rattle.core_store.proofs.WeakenRound.{moved-same}

-- ---- the next slot of a sweep

-- nothing is freed by it
pub round-next_slot : (slots : ℕ) (w : Walk) (s : Sweep) (slot : ℕ) (g : Greening) (id : ℕ) → next_of_sweep s ≡ sweep.Slots id → round_of (next_slot slots w s slot g) ≡ round_of (Sweeping w s slot g)
round-next_slot slots w s slot g id e = by (slot + 1 == slots)
  where
    by : (b : Bool) → round_of (if b then Sweeping w (found s Nothing) 0 g else Sweeping w s (slot + 1) g) ≡ round_of (Sweeping w s slot g)
    by true = ap (λ (x : Sweep). round_of (Sweeping w x 0 g)) (found-nothing s id e)
    by false = refl

-- the object in hand stands after those that were emptied
slots-at : (s : Sweep) (id : ℕ) → next_of_sweep s ≡ sweep.Slots id → (s.emptied < length s.list) × (slice_index s.list s.emptied ≡ id)
slots-at s id e =
    let rest = slots-drop (drop s.emptied s.list) (drop s.freed s.list) id e in (
      (drop-one s.emptied s.list rest.0 id rest.1).0,
      sym (get_or-drop s.emptied s.list 0 0 ∙ ap (λ (n : ℕ). get_or s.list n 0) (omega arith)) ∙ ap (λ (xs : List ℕ). get_or xs 0 0) rest.1,
    )

-- the slots that were passed stay null, and so is the one that was looked at
module _ (slots : ℕ) (cells : List Cell) (w : Walk) (s : Sweep) (slot : ℕ) (g : Greening) (id : ℕ) (e : next_of_sweep s ≡ sweep.Slots id) (long : length (cell_at cells id).pointers ≡ slots) (none : (pointer_at cells id slot).target ≡ 0) (emptied : IsEmptied cells (Sweeping w s slot g)) where
  here : slice_index s.list s.emptied ≡ id
  here = (slots-at s id e).1

  -- one slot more
  slot-more : (k : ℕ) → k < slot + 1 → (pointer_at cells id k).target ≡ 0
  slot-more k l =
      ⊎_elim
      (λ (m : k < slot). subst (λ (x : ℕ). (pointer_at cells x k).target ≡ 0) here (emptied.1 k (slots-at s id e).0 m))
      (λ (m : slot ≤ k). let same : slot ≡ k = omega (arith, l, m) in subst (λ (n : ℕ). (pointer_at cells id n).target ≡ 0) same none)
      (cases_lt k slot)

  -- after the last slot nothing is
  slot-all : slot + 1 ≡ slots → (k : ℕ) → (pointer_at cells id k).target ≡ 0
  slot-all last k =
      ⊎_elim
      (λ (l : k < slot + 1). slot-more k l)
      (λ (m : slot + 1 ≤ k). ap (λ (p : Pointer). p.target) (get_or_past (cell_at cells id).pointers k null (omega (arith, long, last, m))))
      (cases_lt k (slot + 1))

  place-more : slot + 1 ≡ slots → (place k : ℕ) → s.freed ≤ place → place < s.emptied + 1 → place < length s.list → (pointer_at cells (slice_index s.list place) k).target ≡ 0
  place-more last place k free l within =
      ⊎_elim
      (λ (m : place < s.emptied). emptied.0 place k free m within)
      (λ (m : s.emptied ≤ place).
      let same : s.emptied ≡ place = omega (arith, l, m) in
      subst (λ (x : ℕ). (pointer_at cells x k).target ≡ 0) (sym here ∙ ap (slice_index s.list) same) (slot-all last k))
      (cases_lt place s.emptied)

  pub IsEmptied-next_slot : IsEmptied cells (next_slot slots w s slot g)
  IsEmptied-next_slot = by (slot + 1 == slots) refl
    where
      by : (b : Bool) → (slot + 1 == slots) ≡ b → IsEmptied cells (if b then Sweeping w (found s Nothing) 0 g else Sweeping w s (slot + 1) g)
      by true l =
          let last = eqb-true (slot + 1) slots l in
          subst (λ (x : Sweep). IsEmptied cells (Sweeping w x 0 g)) (sym (found-nothing s id e)) (λ place k a b c. place-more last place k a b c, λ k a b. absurd (omega (arith, b)))
      by false l = (emptied.0, λ k a b. subst (λ (x : ℕ). (pointer_at cells x k).target ≡ 0) (sym here) (slot-more k b))

-- a test is as it was, and so is what looks are saved by
tested-next_slot : (slots : ℕ) (cells : List Cell) (w : Walk) (s : Sweep) (slot : ℕ) (g : Greening) → next_of_sweep s ≢ sweep.End → IsTested cells (Sweeping w s slot g) → IsTested cells (next_slot slots w s slot g)
tested-next_slot slots cells w s slot g apart t = by (slot + 1 == slots)
  where
    by : (b : Bool) → IsTested cells (if b then Sweeping w (found s Nothing) 0 g else Sweeping w s (slot + 1) g)
    by true = (t.0, saved-swept cells cells s (found s Nothing) g apart (λ x k l. refl) t.1)
    by false = t

-- ---- a look

null-at : (n : ℕ) → not (n == 0) ≡ false → n ≡ 0
null-at n e = by (n == 0) refl
  where
    by : (b : Bool) → (n == 0) ≡ b → n ≡ 0
    by true l = eqb-true n 0 l
    by false l = absurd (let some : not (n == 0) ≡ true = rw l refl in cc)

-- a look leaves what a test has found, and what looks are saved by
pub tested-passed : (slots ids : ℕ) (cells : List Cell) (w : Walk) (s : Sweep) (slot : ℕ) (g : Greening) (a : SweepAt) → next_of_sweep s ≡ a → IsSweeping slots ids w s slot g → is_event cells (asked_by_sweep slot g a) ≡ false → IsTested cells (Sweeping w s slot g)
    → IsTested cells (passed_by_sweep slots cells w s slot g a)
tested-passed slots ids cells w s slot g (sweep.Slots id) n k idle tested = tested-next_slot slots cells w s slot g (slots-end s id n) tested
tested-passed slots ids cells w s slot g (sweep.Free id) n k idle tested = absurd (cc)
tested-passed slots ids cells w s slot g sweep.End n k idle tested =
    let a = asked_by_green g.slots g.test (next_of_green g) in
    let asks = asked-by g.slots g.test (next_of_green g) in (
      looks-tested cells g (passed_by_green cells g a) k.greens.greening (green-looks cells g k.greens.greening a asks idle) tested.0,
      saved-sees cells s g (passed_by_green cells g a) k.greens.greening n (green-sees cells g k.greens.greening tested.0 a asks idle) tested.1,
    )

-- what a look leaves of the round of a journal
pub record IsLooked (cells : List Cell) (r q : RoundView) : Type 0 where
  pub round : round_of q ≡ round_of r
  pub emptied : IsEmptied cells q
  pub tested : IsTested cells q

module _ (slots : ℕ) (v : TablesView) (c : Core) (h : Stands slots v c) (nothing : is_event c.cells (asked v.round) ≡ false) where
  looked-swept : (w : Walk) (s : Sweep) (slot : ℕ) (g : Greening) → v.round ≡ Sweeping w s slot g → (a : SweepAt) → next_of_sweep s ≡ a → IsLooked c.cells (Sweeping w s slot g) (passed_by_sweep slots c.cells w s slot g a)
  looked-swept w s slot g e (sweep.Slots id) n =
      let is : asked v.round ≡ at.Cut id slot = ap asked e ∙ ap (asked_by_sweep slot g) n in
      let there = subst (IsThere slots c.cells) is (asked-there h) in
      record {
        round = round-next_slot slots w s slot g id n;
        emptied = IsEmptied-next_slot slots c.cells w s slot g id n (h.sound.consistent.slotted id there.0 ∙ h.slots_are)
            (null-at (pointer_at c.cells id slot).target (subst (λ (a : RoundAt). is_event c.cells a ≡ false) is nothing)) (subst (IsEmptied c.cells) e h.emptied);
        tested = tested-passed slots v.ids c.cells w s slot g (sweep.Slots id) n (subst (IsInStep slots v.ids) e h.in_step) (subst (λ (a : RoundAt). is_event c.cells a ≡ false) is nothing) (subst (IsTested c.cells) e h.tested);
      }
  looked-swept w s slot g e (sweep.Free id) n = absurd (let is : asked v.round ≡ at.Free id = ap asked e ∙ ap (asked_by_sweep slot g) n in let no = subst (λ (a : RoundAt). is_event c.cells a ≡ false) is nothing in cc)
  looked-swept w s slot g e sweep.End n =
      let by_green = asked_by_green g.slots g.test (next_of_green g) in
      let is : asked v.round ≡ by_green = ap asked e ∙ ap (asked_by_sweep slot g) n in
      let k : IsSweeping slots v.ids w s slot g = subst (IsInStep slots v.ids) e h.in_step in
      record {
        round = refl;
        emptied = subst (IsEmptied c.cells) e h.emptied;
        tested = tested-passed slots v.ids c.cells w s slot g sweep.End n k (subst (λ (a : RoundAt). is_event c.cells a ≡ false) is nothing) (subst (IsTested c.cells) e h.tested);
      }

  looked : (r : RoundView) → v.round ≡ r → IsLooked c.cells r (looked_past slots c.cells r)
  looked Closed e = record { round = refl; emptied = tt; tested = tt }
  looked (Walking w) e = record { round = ap (λ (r : Round). Some r) (moved-same slots w); emptied = tt; tested = tt }
  looked (Sweeping w s slot g) e = looked-swept w s slot g e (next_of_sweep s) refl

  -- the tables go on to stand for the journal
  pub Stands-passed : Stands slots (record v { round = looked_past slots c.cells v.round }) c
  Stands-passed = record {
    ids = h.ids;
    few = h.few;
    slots_are = h.slots_are;
    counted = h.counted;
    sound = h.sound;
    running = h.running;
    restorable = h.restorable;
    owners = h.owners;
    sharers = h.sharers;
    free = h.free;
    zeros = h.zeros;
    references = h.references;
    queue = h.queue;
    round = (looked v.round refl).round ∙ h.round;
    in_step = in_step-passed slots v.ids c.cells v.round h.in_step nothing;
    emptied = (looked v.round refl).emptied;
    tested = (looked v.round refl).tested;
    owed = h.owed;
  }

-- ---- one look after another

pub passed-none : (slots : ℕ) (v : TablesView) (held : List (HeldFrame slots)) → HasPassed slots v v held
passed-none slots v held = record { same = refl; passes = λ c h agree. none; stands = λ c h agree. h }

-- one look more, from some tables to others
pub record PassesOne (slots : ℕ) (v w : TablesView) (held : List (HeldFrame slots)) : Type 0 where
  pub same : w ≡ record v { round = w.round }
  pub nothing : (c : Core) → Stands slots v c → Agree c.cells held → is_event c.cells (asked v.round) ≡ false
  pub passes : (c : Core) → Stands slots v c → Agree c.cells held → w.round ≡ looked_past slots c.cells v.round
  pub stands : (c : Core) → Stands slots v c → Agree c.cells held → Stands slots w c

pub passed-more : (slots : ℕ) (u v w : TablesView) (held : List (HeldFrame slots)) → HasPassed slots u v held → PassesOne slots v w held → HasPassed slots u w held
passed-more slots u v w held p one = record {
  same = one.same ∙ ap (λ (x : TablesView). let y : TablesView = record x { round = w.round } in y) p.same;
  passes = λ c h agree. (let s = p.stands c h agree in subst (λ (r : RoundView). Passes slots c.cells u.round r) (sym (one.passes c s agree)) (more v.round (p.passes c h agree) (one.nothing c s agree)));
  stands = λ c h agree. one.stands c (p.stands c h agree) agree;
}
