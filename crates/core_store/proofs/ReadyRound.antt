-- The object of the collector's next look or event is live, and where the pages are held that it needs, its cells are.
use Rattle.std.proofs.Common.{◌≡◌, ◌≢◌, ℕ, ◌<◌, ◌≤◌, List, [], ◌∷◌, length, map, drop, true, refl, sym, ap, ◌∙◌, subst, IfSome, arith}
use Rattle.std.specs.Prelude.{Contains, Option, Some}
use Rattle.std.specs.Option.{option_map_or}
use Rattle.std.specs.List.{AllByRecursion}
use Rattle.cell_model.specs.Cells.{Cell, pointer_at, is_live}
use Rattle.store_model.specs.Core.{Round, Core}
use Rattle.red_walk.specs.declared.red_at.RedAt.{RedAt}
use Rattle.red_walk.specs.declared.red_at.RedAt.TheVariants as red
use Rattle.red_walk.specs.Walk.{Walk, next, first_of}
use Rattle.red_walk.proofs.RoundLaws.{look-law, copy-law}
use Rattle.green_walk.specs.declared.sweep.SweepAt.{SweepAt}
use Rattle.green_walk.specs.declared.sweep.SweepAt.TheVariants as sweep
use Rattle.green_walk.specs.Sweeping.{SweepState as Sweep, next as next_of_sweep, unfreed}
use Rattle.green_walk.proofs.SweepLaws.{empty-law, free-law}
use Rattle.green_walk.specs.declared.green_at.GreenAt.{GreenAt}
use Rattle.green_walk.specs.declared.green_at.GreenAt.TheVariants as green
use Rattle.green_walk.specs.declared.green_at.Test.{Test}
use Rattle.green_walk.specs.Greening.{Greening, waits, next as next_of_green, IsTestable}
use Rattle.green_walk.specs.GreenLaws.{IsAskedOf}
use Rattle.green_walk.proofs.GreenAsked.{asked as asked-law, waits-live}
use Rattle.green_walk.proofs.GreenAnswers.{test-law}
use Rattle.cell_page.specs.Format.{page_of_id}
use Rattle.core_store.specs.declared.three.HeldFrame.{HeldFrame}
use Rattle.core_store.specs.declared.round_at.RoundAt.{RoundAt}
use Rattle.core_store.specs.declared.round_at.RoundAt.TheVariants as at
use Rattle.core_store.specs.declared.want.Want.TheVariants.{Ready}
use Rattle.core_store.specs.Frames.{pages_held, is_held}
use Rattle.core_store.specs.Logged.{want_of}
use Rattle.core_store.specs.Slots.{HoldsPagesOf}
use Rattle.core_store.specs.RoundView.{RoundView, Closed, Walking, Sweeping, asked, asked_by_walk, asked_by_green, asked_by_sweep, round_of, IsWalking, IsSweeping, IsInStep}
use Rattle.core_store.specs.Work.{IsWork, AreFew}
use Rattle.core_store.specs.Collecting.{work_at, objects_at, pages_to_collect, CanCollect}
use Rattle.core_store.specs.Tables.{TablesView}
use Rattle.core_store.specs.Stands.{Stands}
use Rattle.core_store.proofs.AskedGreen.{IsAskedBy, asked-by}
use Rattle.core_store.proofs.PlanLaws.{live-id}
use Rattle.core_store.proofs.WantLaws.{ready-all}
use Rattle.core_store.proofs.NextLaws.{few-change, few-one, one-live}

-- the object is live, and the slot is one of an object's
abbrev pub IsThere : ℕ → List Cell → RoundAt → Type 0
IsThere slots cells (at.Look id slot) = (is_live cells id ≡ true) × (slot < slots)
IsThere slots cells (at.Copy id) = is_live cells id ≡ true
IsThere slots cells (at.Cut id slot) = (is_live cells id ≡ true) × (slot < slots)
IsThere slots cells (at.Free id) = is_live cells id ≡ true
IsThere slots cells (at.Seed id) = is_live cells id ≡ true
IsThere slots cells (at.Test id slot) = (is_live cells id ≡ true) × (slot < slots)
IsThere slots cells (at.Flip id) = is_live cells id ≡ true
IsThere slots cells (at.Into «from» slot to) = (is_live cells «from» ≡ true) × (slot < slots) × (is_live cells to ≡ true)
IsThere slots cells (at.Out «from» slot) = (is_live cells «from» ≡ true) × (slot < slots)
IsThere slots cells (at.Strengthen «from» slot to) = (is_live cells «from» ≡ true) × (slot < slots) × (is_live cells to ≡ true)
IsThere slots cells _ = Unit {0}

pub look-slot : (xs : List ℕ) (k : ℕ) (ys : List ℕ) (id slot : ℕ) → first_of xs k ys ≡ red.Look id slot → k ≡ slot
look-slot [] k [] id slot e = absurd (cc)
look-slot [] k (y ∷ ys) id slot e = absurd (cc)
look-slot (x ∷ xs) k ys id slot e = cc

-- what holds of each page holds of each id's
pages-each : (P : ℕ → Type 0) (ids : List ℕ) → AllByRecursion P (map page_of_id ids) → AllByRecursion (λ id. P (page_of_id id)) ids
pages-each P [] all = tt
pages-each P (id ∷ ids) all = (all.0, pages-each P ids all.1)

below : (n most : ℕ) → n ≤ most → n ≢ most → n < most
below n most l d = grind arith

module _ {slots : ℕ} {v : TablesView} {c : Core} (h : Stands slots v c) where
  in-walk : (w : Walk) → v.round ≡ Walking w → (id : ℕ) → Contains w.left id → is_live c.cells id ≡ true
  in-walk w is id m = (h.sound.round_live id (subst (λ (o : Option Round). Contains (option_map_or (λ (r : Round). r.list) o []) id) (sym (ap round_of is) ∙ h.round) m)).0

  condemned-live : (w : Walk) (s : Sweep) (k : ℕ) (g : Greening) → v.round ≡ Sweeping w s k g → (id : ℕ) → Contains (unfreed s) id → is_live c.cells id ≡ true
  condemned-live w s k g is id m = h.sound.condemned.live id (subst (λ (o : Option Round). Contains (option_map_or (λ (r : Round). r.condemned) o []) id) (sym (ap round_of is) ∙ h.round) m)

  walk-there : (w : Walk) → v.round ≡ Walking w → IsWalking slots v.ids w → (n : RedAt) → next w ≡ n → IsThere slots c.cells (asked_by_walk n)
  walk-there w is k (red.Look id slot) e =
      let look = look-law slots w id slot k.walk e in (
        in-walk w is id (subst (λ (ids : List ℕ). Contains ids id) (sym k.whole) look.0),
        subst (λ (n : ℕ). n < slots) (look-slot (drop w.place w.list) w.slot (drop (length w.copies) w.list) id slot e) k.walk.slot_within,
      )
  walk-there w is k (red.Copy id) e = in-walk w is id (subst (λ (ids : List ℕ). Contains ids id) (sym k.whole) (copy-law w id e))
  walk-there w is k red.Verdict e = tt

  -- what lives by the verdict is live
  pub green-live : (w : Walk) (s : Sweep) (k : ℕ) (g : Greening) → v.round ≡ Sweeping w s k g → IsSweeping slots v.ids w s k g → (id : ℕ) → Contains g.live id → is_live c.cells id ≡ true
  green-live w s k g is i id m = (h.sound.round_live id (subst (λ (o : Option Round). Contains (option_map_or (λ (r : Round). r.list) o []) id) (sym (ap round_of is) ∙ h.round) (i.greens.left id m))).0

  green-there : (w : Walk) (s : Sweep) (k : ℕ) (g : Greening) → v.round ≡ Sweeping w s k g → IsSweeping slots v.ids w s k g → (a : RoundAt) → IsAskedBy g.slots g.test (next_of_green g) a → IsThere slots c.cells a
  green-there w s k g is i = by
    where
      live : (id : ℕ) → Contains g.live id → is_live c.cells id ≡ true
      live = green-live w s k g is i

      of : (n : GreenAt) → next_of_green g ≡ n → IsAskedOf g n
      of n e = subst (IsAskedOf g) e (asked-law g i.greens.greening)

      within : (slot : ℕ) → slot < g.slots → slot < slots
      within slot l = subst (λ (n : ℕ). slot < n) i.greens.green_slots l

      waiting : (id : ℕ) → waits g id ≡ true → is_live c.cells id ≡ true
      waiting id e = live id (waits-live g id e)

      tested : (t : Test) → g.test ≡ Some t → (is_live c.cells t.id ≡ true) × (t.slot ≤ g.slots)
      tested t e = let k = test-law g t i.greens.greening e in (testable (next_of_green g) t.id k.0, k.1)
        where
          testable : (n : GreenAt) (id : ℕ) → IsTestable g n id → is_live c.cells id ≡ true
          testable (green.Seed seed) id k = waiting id k.1
          testable (green.Out «from» slot) id k = waiting id k
          testable (green.Into «from» slot to) id k = absurd k
          testable green.End id k = absurd k

      by : (a : RoundAt) → IsAskedBy g.slots g.test (next_of_green g) a → IsThere slots c.cells a
      by (at.Seed id) k = live id (of (green.Seed id) k.0)
      by (at.Test id slot) k = let t = tested k.0 k.1 in (subst (λ (x : ℕ). is_live c.cells x ≡ true) k.2 t.0, within slot (subst (λ (x : ℕ). x < g.slots) k.3 (below k.0.slot g.slots t.1 k.4)))
      by (at.Flip id) k = live id (of (green.Seed id) k.0)
      by (at.Into «from» slot to) k = let x = of (green.Into «from» slot to) k in (waiting «from» x.0, within slot x.3, live to x.1)
      by (at.Out «from» slot) k = let x = of (green.Out «from» slot) k.0 in (live «from» x.0, within slot x.2)
      by (at.Strengthen «from» slot to) k = let x = of (green.Out «from» slot) k.0 in (live «from» x.0, within slot x.2, subst (λ (x : ℕ). is_live c.cells x ≡ true) k.3 (tested k.1 k.2).0)
      by at.End k = tt
      by at.Queue k = absurd k
      by (at.Look id slot) k = absurd k
      by (at.Copy id) k = absurd k
      by at.Judge k = absurd k
      by (at.Cut id slot) k = absurd k
      by (at.Free id) k = absurd k

  sweep-there : (w : Walk) (s : Sweep) (k : ℕ) (g : Greening) → v.round ≡ Sweeping w s k g → IsSweeping slots v.ids w s k g → (n : SweepAt) → next_of_sweep s ≡ n → IsThere slots c.cells (asked_by_sweep k g n)
  sweep-there w s k g is i (sweep.Slots id) e =
      let law = empty-law s id i.sweep e in
      (condemned-live w s k g is id (subst (λ (ids : List ℕ). Contains ids id) (sym law.0) law.1), i.within)
  sweep-there w s k g is i (sweep.Free id) e = condemned-live w s k g is id (free-law s id i.sweep e).0
  sweep-there w s k g is i sweep.End e = green-there w s k g is i (asked_by_green g.slots g.test (next_of_green g)) (asked-by g.slots g.test (next_of_green g))

  -- what is asked for next is there
  pub asked-there : IsThere slots c.cells (asked v.round)
  asked-there = by v.round refl
    where
      by : (r : RoundView) → v.round ≡ r → IsThere slots c.cells (asked r)
      by Closed e = tt
      by (Walking w) e = walk-there w e (subst (λ (r : RoundView). IsInStep slots v.ids r) e h.in_step) (next w) refl
      by (Sweeping w s k g) e = sweep-there w s k g e (subst (λ (r : RoundView). IsInStep slots v.ids r) e h.in_step) (next_of_sweep s) refl

  -- ---- its work and its pages

  small : (id : ℕ) → is_live c.cells id ≡ true → (0 < id) × (id < 65536)
  small id l = let k = live-id h id l in let few = k.few in (k.above, omega (arith, few))

  work-on : (r : RoundAt) → IsThere slots c.cells r → IfSome (work_at r) (IsWork slots)
  work-on (at.Look id slot) t = record { above = (small id t.0).0; small = (small id t.0).1; change = (t.1, omega arith) }
  work-on (at.Copy id) t = record { above = (small id t).0; small = (small id t).1; change = tt }
  work-on (at.Cut id slot) t = record { above = (small id t.0).0; small = (small id t.0).1; change = (t.1, omega arith) }
  work-on (at.Free id) t = record { above = (small id t).0; small = (small id t).1; change = tt }
  work-on (at.Test id slot) t = record { above = (small id t.0).0; small = (small id t.0).1; change = (t.1, omega arith) }
  work-on (at.Flip id) t = record { above = (small id t).0; small = (small id t).1; change = tt }
  work-on (at.Into «from» slot to) t = record { above = (small «from» t.0).0; small = (small «from» t.0).1; change = (t.1, omega arith) }
  work-on (at.Out «from» slot) t = record { above = (small «from» t.0).0; small = (small «from» t.0).1; change = tt }
  work-on (at.Strengthen «from» slot to) t = record { above = (small «from» t.0).0; small = (small «from» t.0).1; change = (t.1, omega arith) }
  work-on (at.Seed id) t = tt
  work-on at.Queue t = tt
  work-on at.Judge t = tt
  work-on at.End t = tt

  pub asked-work : IfSome (work_at (asked v.round)) (IsWork slots)
  asked-work = work-on (asked v.round) asked-there

  -- those of any slot of a live object are three at most
  pub few-slot : (id slot : ℕ) → is_live c.cells id ≡ true → AreFew v.ids (objects_at c.cells (at.Look id slot))
  few-slot id slot l =
      let old = (pointer_at c.cells id slot).target in
      few-change v.ids c.cells id slot 0 (one-live h id (live-id h id l)) (λ n. one-live h old (live-id h old (h.sound.consistent.exact.closed id slot l n))) (λ n. absurd (n refl))

  few-on : (r : RoundAt) → IsThere slots c.cells r → AreFew v.ids (objects_at c.cells r)
  few-on (at.Look id slot) t = few-slot id slot t.0
  few-on (at.Copy id) t = few-one h id (one-live h id (live-id h id t))
  few-on (at.Cut id slot) t = few-slot id slot t.0
  few-on (at.Free id) t = few-one h id (one-live h id (live-id h id t))
  few-on (at.Test id slot) t = few-slot id slot t.0
  few-on (at.Flip id) t = few-one h id (one-live h id (live-id h id t))
  few-on (at.Into «from» slot to) t = few-slot «from» slot t.0
  few-on (at.Out «from» slot) t = few-one h «from» (one-live h «from» (live-id h «from» t.0))
  few-on (at.Strengthen «from» slot to) t = few-slot «from» slot t.0
  few-on (at.Seed id) t = record { few = omega arith; within = tt }
  few-on at.Queue t = record { few = omega arith; within = tt }
  few-on at.Judge t = record { few = omega arith; within = tt }
  few-on at.End t = record { few = omega arith; within = tt }

  -- three objects at most
  pub asked-few : AreFew v.ids (objects_at c.cells (asked v.round))
  asked-few = few-on (asked v.round) asked-there

-- where they are held, the objects' are
pub ready-pages : {slots : ℕ} (cells : List Cell) (r : RoundView) (held : List (HeldFrame slots)) → want_of (pages_to_collect cells r) (pages_held held) ≡ Ready → HoldsPagesOf held (objects_at cells (asked r))
ready-pages cells r held ready = pages-each (λ p. is_held held p ≡ true) (objects_at cells (asked r)) (ready-all (pages_to_collect cells r) held ready)

module _ {slots : ℕ} (v : TablesView) {held : List (HeldFrame slots)} (r : CanCollect v held) where
  pub can-there : (a : RoundAt) → asked v.round ≡ a → IsThere slots r.core.cells a
  can-there a e = subst (IsThere slots r.core.cells) e (asked-there r.stands)

  pub can-pages : (a : RoundAt) → asked v.round ≡ a → HoldsPagesOf held (objects_at r.core.cells a)
  can-pages a e = subst (λ (x : RoundAt). HoldsPagesOf held (objects_at r.core.cells x)) e r.ready.pages

  pub can-small : (id : ℕ) → is_live r.core.cells id ≡ true → (0 < id) × (id < 65536)
  can-small id l = small r.stands id l
