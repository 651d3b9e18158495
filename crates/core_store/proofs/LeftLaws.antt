-- How much work is left of a round: each look and each event of it lowers that.
use Rattle.std.proofs.Common.{◌≡◌, ℕ, suc, ◌+◌, ◌*◌, ◌<◌, ◌≤◌, Bool, true, false, if◌then◌else◌, ◌==◌, List, [], ◌∷◌, length, drop, Option, Some, None, refl, sym, ap, ◌∙◌, subst, arith, inl, inr, ⊎_elim}
use Rattle.std.specs.Prelude.{◌⊎◌, ◌≢◌}
use Rattle.std.proofs.Math.Nat.{mul-le-mul_left}
use Rattle.std.proofs.lemmas.List.{length-drop}
use Rattle.std.proofs.lemmas.Bool.Decides.{nat_tests}
use Rattle.cell_model.specs.Cells.{Cell}
use Rattle.red_walk.specs.Walk.{Walk, next, moved, joined_by, copied, removed, work_left}
use Rattle.red_walk.specs.declared.red_at.RedAt.{RedAt}
use Rattle.red_walk.specs.declared.red_at.RedAt.TheVariants as red
use Rattle.red_walk.proofs.WorkLaws.{look-work-law, copy-work-law, join-work-law}
use Rattle.red_walk.proofs.KeptLaws.{moved-walk-law}
use Rattle.green_walk.specs.declared.sweep.SweepAt.{SweepAt}
use Rattle.green_walk.specs.declared.sweep.SweepAt.TheVariants as sweep
use Rattle.green_walk.specs.declared.sweep.Found.{Found}
use Rattle.green_walk.specs.declared.sweep.Found.TheVariants.{Nothing, Made}
use Rattle.green_walk.specs.Judged.{Judged}
use Rattle.green_walk.specs.Sweeping.{SweepState as Sweep, first_of, next as next_of_sweep, started, found, found_at, unemptied, unfreed}
use Rattle.green_walk.specs.Greening.{Greening, IsGreening, IsAnswer, next as next_of_green, found as found_by_green, started as green_started}
use Rattle.green_walk.specs.GreenLaws.{most_work}
use Rattle.green_walk.proofs.GreenWork.{found-work, started-work}
use Rattle.log_record.specs.declared.cell_record.CellRecord.{CellRecord}
use Rattle.core_store.specs.declared.act.Act.{Act}
use Rattle.core_store.specs.declared.round_at.RoundAt.{RoundAt}
use Rattle.core_store.specs.declared.round_at.RoundAt.TheVariants as at
use Rattle.core_store.specs.RoundView.{RoundView, Closed, Walking, Sweeping, asked, asked_by_walk, asked_by_sweep, asked_by_green, is_event, next_slot, looked_past, passed_by_green, passed_by_sweep, Passes, none, more, Proceeds, skip, start, weaken, scan, judge, cut, free, flip, into, strengthen, end, left_of, IsInStep, IsWalking, IsGreeningOf, IsSweeping}
use Rattle.core_store.specs.Collecting.{is_pop}
use Rattle.core_store.proofs.AskedGreen.{IsAskedBy, asked-by}
use Rattle.core_store.proofs.AskedLaws.{IsGreenAt}
use Rattle.core_store.proofs.GreenAsks.{flip-answers, into-answers, strengthen-answers}
use Rattle.core_store.proofs.GreenLooks.{Looks, green-looks, looks-lower, looks-keep, greens-kept}

-- ---- one object more

pub drop-one : (n : ℕ) (xs rest : List ℕ) (x : ℕ) → drop n xs ≡ x ∷ rest → (n < length xs) × (length (drop n xs) ≡ length (drop (n + 1) xs) + 1)
drop-one n xs rest x e =
    let l = length-drop n xs in
    let m = length-drop (n + 1) xs in
    let s : length (drop n xs) ≡ suc (length rest) = ap length e in
    (omega (arith, l, s), omega (arith, l, m, s))

pub slots-drop : (xs ys : List ℕ) (id : ℕ) → first_of xs ys ≡ sweep.Slots id → (rest : List ℕ) × (xs ≡ id ∷ rest)
slots-drop [] [] id e = absurd (cc)
slots-drop [] (y ∷ ys) id e = absurd (cc)
slots-drop (x ∷ xs) ys id e = (xs, cc)

free-drop : (xs ys : List ℕ) (id : ℕ) → first_of xs ys ≡ sweep.Free id → (xs ≡ []) × (rest : List ℕ) × (ys ≡ id ∷ rest)
free-drop [] [] id e = absurd (cc)
free-drop [] (y ∷ ys) id e = (refl, ys, cc)
free-drop (x ∷ xs) ys id e = absurd (cc)

row-more : (slots n m : ℕ) → n ≡ m + 1 → slots * n ≡ slots * m + slots
row-more slots n m e = rw e (grind arith)

pub found-nothing : (s : Sweep) (id : ℕ) → next_of_sweep s ≡ sweep.Slots id → found s Nothing ≡ record s { emptied = s.emptied + 1 }
found-nothing s id e = ap (λ a. found_at s a Nothing) e

found-made : (s : Sweep) (id : ℕ) → next_of_sweep s ≡ sweep.Free id → found s (Made id) ≡ record s { freed = s.freed + 1 }
found-made s id e = ap (λ a. found_at s a (Made id)) e

-- ---- a sweep goes on at the next slot

pub left-next_slot : (slots : ℕ) (w : Walk) (s : Sweep) (slot id : ℕ) (g : Greening) → slot < slots → next_of_sweep s ≡ sweep.Slots id → left_of slots (next_slot slots w s slot g) < left_of slots (Sweeping w s slot g)
left-next_slot slots w s slot id g within e = by (slot + 1 == slots) refl
  where
    rows : slots * length (unemptied s) ≡ slots * length (drop (s.emptied + 1) s.list) + slots
    rows =
        let f = slots-drop (unemptied s) (unfreed s) id e in
        row-more slots (length (unemptied s)) (length (drop (s.emptied + 1) s.list)) (drop-one s.emptied s.list f.0 id f.1).1

    less : left_of slots (Sweeping w (record s { emptied = s.emptied + 1 }) 0 g) < left_of slots (Sweeping w s slot g)
    less = omega (arith, rows, within)

    by : (last : Bool) → (slot + 1 == slots) ≡ last → left_of slots (next_slot slots w s slot g) < left_of slots (Sweeping w s slot g)
    by true l = rw l (subst (λ (x : Sweep). left_of slots (Sweeping w x 0 g) < left_of slots (Sweeping w s slot g)) (sym (found-nothing s id e)) less)
    by false l = rw l (omega (arith, rows, within))

-- no test is in hand before the end of the sweep
not-end : (s : Sweep) (id : ℕ) → next_of_sweep s ≡ sweep.Slots id → next_of_sweep s ≢ sweep.End
not-end s id e over = absurd (let both : sweep.Slots id ≡ sweep.End = sym e ∙ over in cc)

pub in_step-next_slot : (slots ids : ℕ) (w : Walk) (s : Sweep) (slot id : ℕ) (g : Greening) → IsSweeping slots ids w s slot g → next_of_sweep s ≡ sweep.Slots id → IsInStep slots ids (next_slot slots w s slot g)
in_step-next_slot slots ids w s slot id g k e = by (slot + 1 == slots) refl
  where
    greens : IsGreeningOf slots ids w (record s { emptied = s.emptied + 1 }) g
    greens = record {
      greening = k.greens.greening;
      green_limit = k.greens.green_limit;
      green_slots = k.greens.green_slots;
      left = k.greens.left;
      spared = k.greens.spared;
      at_rest = λ _. k.greens.at_rest (not-end s id e);
    }

    after : IsSweeping slots ids w (record s { emptied = s.emptied + 1 }) 0 g
    after = record {
      walk = k.walk;
      limit = k.limit;
      sweep = record { ids = k.sweep.ids; late = λ early. k.sweep.late (omega (arith, early)) };
      sweep_limit = k.sweep_limit;
      within = omega (arith, k.within);
      greens = greens;
    }

    by : (last : Bool) → (slot + 1 == slots) ≡ last → IsInStep slots ids (next_slot slots w s slot g)
    by true l = rw l (subst (λ (x : Sweep). IsSweeping slots ids w x 0 g) (sym (found-nothing s id e)) after)
    by false l = rw l (record { walk = k.walk; limit = k.limit; sweep = k.sweep; sweep_limit = k.sweep_limit; within = grind (arith, nat_tests, l, k.within); greens = k.greens })

-- ---- a walk goes on at the next slot

moved-limit : (slots : ℕ) (w : Walk) → (moved slots w).limit ≡ w.limit
moved-limit slots w = elim (w.slot + 1 == slots) as (λ b. (if b then record w { place = w.place + 1; slot = 0 } else record w { slot = w.slot + 1 }).limit ≡ w.limit) [ true ↦ refl | false ↦ refl ]

moved-whole : (slots : ℕ) (w : Walk) → w.left ≡ w.list → (moved slots w).left ≡ (moved slots w).list
moved-whole slots w e = elim (w.slot + 1 == slots) as (λ b. (if b then record w { place = w.place + 1; slot = 0 } else record w { slot = w.slot + 1 }).left ≡ (if b then record w { place = w.place + 1; slot = 0 } else record w { slot = w.slot + 1 }).list) [ true ↦ e | false ↦ e ]

joined-limit : (w : Walk) (joins : Option ℕ) → (joined_by w joins).limit ≡ w.limit
joined-limit w None = refl
joined-limit w (Some id) = refl

left-walk : (slots : ℕ) (w u : Walk) → u.limit ≡ w.limit → work_left slots u < work_left slots w → left_of slots (Walking u) < left_of slots (Walking w)
left-walk slots w u e l = let same = ap (λ (n : ℕ). (slots + 1) * n + most_work slots n) e in omega (arith, same, l)

-- ---- a look at which there is nothing to do

-- after the sweep it is one of the green walk
module _ (slots ids : ℕ) (cells : List Cell) (w : Walk) (s : Sweep) (slot : ℕ) (g : Greening) (k : IsSweeping slots ids w s slot g) (rest : next_of_sweep s ≡ sweep.End) (idle : is_event cells (asked_by_green g.slots g.test (next_of_green g)) ≡ false) where
  abbrev behind : Greening
  behind = passed_by_green cells g (asked_by_green g.slots g.test (next_of_green g))

  looks : Looks cells g behind
  looks = green-looks cells g k.greens.greening (asked_by_green g.slots g.test (next_of_green g)) (asked-by g.slots g.test (next_of_green g)) idle

  left-green : left_of slots (Sweeping w s slot behind) < left_of slots (Sweeping w s slot g)
  left-green = let less = looks-lower cells g behind k.greens.greening looks in omega (arith, less)

  in_step-green : IsSweeping slots ids w s slot behind
  in_step-green =
      let kept = looks-keep cells g behind k.greens.greening looks in
      record { walk = k.walk; limit = k.limit; sweep = k.sweep; sweep_limit = k.sweep_limit; within = k.within; greens = greens-kept slots ids w s g behind k.greens rest kept.0 kept.1 }

pub look-asked : (cells : List Cell) (r : RedAt) → is_event cells (asked_by_walk r) ≡ false → (id : ℕ) × (slot : ℕ) × (r ≡ red.Look id slot)
look-asked cells (red.Look id slot) h = (id, slot, refl)
look-asked cells (red.Copy id) h = absurd (cc)
look-asked cells red.Verdict h = absurd (cc)

-- a look at which there is nothing to do lowers what is left, and keeps the round in step
module _ (slots ids : ℕ) (cells : List Cell) where
  left-swept : (w : Walk) (s : Sweep) (slot : ℕ) (g : Greening) (a : SweepAt) → next_of_sweep s ≡ a → IsSweeping slots ids w s slot g → is_event cells (asked_by_sweep slot g a) ≡ false → left_of slots (passed_by_sweep slots cells w s slot g a) < left_of slots (Sweeping w s slot g)
  left-swept w s slot g (sweep.Slots id) e k h = left-next_slot slots w s slot id g k.within e
  left-swept w s slot g (sweep.Free id) e k h = absurd (cc)
  left-swept w s slot g sweep.End e k h = left-green slots ids cells w s slot g k e h

  in_step-swept : (w : Walk) (s : Sweep) (slot : ℕ) (g : Greening) (a : SweepAt) → next_of_sweep s ≡ a → IsSweeping slots ids w s slot g → is_event cells (asked_by_sweep slot g a) ≡ false → IsInStep slots ids (passed_by_sweep slots cells w s slot g a)
  in_step-swept w s slot g (sweep.Slots id) e k h = in_step-next_slot slots ids w s slot id g k e
  in_step-swept w s slot g (sweep.Free id) e k h = absurd (cc)
  in_step-swept w s slot g sweep.End e k h = in_step-green slots ids cells w s slot g k e h

  pub left-passed : (r : RoundView) → IsInStep slots ids r → is_event cells (asked r) ≡ false → left_of slots (looked_past slots cells r) < left_of slots r
  left-passed Closed k h = absurd (cc)
  left-passed (Walking w) k h = let l = look-asked cells (next w) h in left-walk slots w (moved slots w) (moved-limit slots w) (look-work-law slots w l.0 l.1 k.walk l.2)
  left-passed (Sweeping w s slot g) k h = left-swept w s slot g (next_of_sweep s) refl k h

  pub in_step-passed : (r : RoundView) → IsInStep slots ids r → is_event cells (asked r) ≡ false → IsInStep slots ids (looked_past slots cells r)
  in_step-passed Closed k h = absurd (cc)
  in_step-passed (Walking w) k h = record { walk = moved-walk-law slots w k.walk; limit = moved-limit slots w ∙ k.limit; whole = moved-whole slots w k.whole }
  in_step-passed (Sweeping w s slot g) k h = in_step-swept w s slot g (next_of_sweep s) refl k h

  pub in_step-passes : (u v : RoundView) → IsInStep slots ids u → Passes slots cells u v → IsInStep slots ids v
  in_step-passes u _ k none = k
  in_step-passes u _ k (more v before idle) = in_step-passed v (in_step-passes u v k before) idle

  -- looks at which there was nothing to do: none, or what is left is lower
  pub left-passes : (u v : RoundView) → IsInStep slots ids u → Passes slots cells u v → (v ≡ u) ⊎ (left_of slots v < left_of slots u)
  left-passes u _ k none = inl refl
  left-passes u _ k (more v before idle) =
      let less = left-passed v (in_step-passes u v k before) idle in
      inr (⊎_elim (λ (same : v ≡ u). subst (λ x. left_of slots (looked_past slots cells v) < left_of slots x) same less) (λ l. omega (arith, less, l)) (left-passes u v k before))

-- ---- events

left-judged : (slots ids : ℕ) (w : Walk) (j : Judged) → IsWalking slots ids w → IsSweeping slots ids w (started j.condemned ids) 0 (green_started slots j w) → left_of slots (Sweeping w (started j.condemned ids) 0 (green_started slots j w)) < left_of slots (Walking w)
left-judged slots ids w j k l =
    let most : length j.condemned ≤ w.limit = subst (λ n. length j.condemned ≤ n) (sym k.limit) l.sweep.ids.most in
    let less = mul-le-mul_left (slots + 1) most in
    let split : (slots + 1) * length j.condemned ≡ slots * length j.condemned + length j.condemned = grind arith in
    let green_few = started-work slots j w l.greens.greening in
    omega (arith, less, split, green_few)

left-freed : (slots : ℕ) (w u : Walk) (s : Sweep) (slot id : ℕ) (g : Greening) → next_of_sweep s ≡ sweep.Free id → left_of slots (Sweeping u (found s (Made id)) slot g) < left_of slots (Sweeping w s slot g)
left-freed slots w u s slot id g e =
    let f = free-drop (unemptied s) (unfreed s) id e in
    let d = (drop-one s.freed s.list f.1 id f.2).1 in
    subst (λ (x : Sweep). left_of slots (Sweeping u x slot g) < left_of slots (Sweeping w s slot g)) (sym (found-made s id e)) (omega (arith, d))

-- an event of the green walk
left-found : (slots : ℕ) (w : Walk) (s : Sweep) (slot : ℕ) (g : Greening) (what : Found) → IsGreening g → IsAnswer g (next_of_green g) what → left_of slots (Sweeping w s slot (found_by_green g what)) < left_of slots (Sweeping w s slot g)
left-found slots w s slot g what k a = let less = found-work g what k a in omega (arith, less)

asks-at : (slot : ℕ) (g : Greening) (n : SweepAt) (a : RoundAt) → asked_by_sweep slot g n ≡ a → IsGreenAt a → IsAskedBy g.slots g.test (next_of_green g) a
asks-at slot g (sweep.Slots id) a e of = absurd (subst IsGreenAt (sym e) of)
asks-at slot g (sweep.Free id) a e of = absurd (subst IsGreenAt (sym e) of)
asks-at slot g sweep.End a e of = subst (IsAskedBy g.slots g.test (next_of_green g)) e (asked-by g.slots g.test (next_of_green g))

-- the green walk asked for it
asks : (w : Walk) (s : Sweep) (slot : ℕ) (g : Greening) (a : RoundAt) → asked (Sweeping w s slot g) ≡ a → IsGreenAt a → IsAskedBy g.slots g.test (next_of_green g) a
asks w s slot g a e of = asks-at slot g (next_of_sweep s) a e of

-- each event of a round lowers what is left
pub left-proceeds : (slots ids : ℕ) (r q : RoundView) (a : Act) (logged : Option CellRecord) → IsInStep slots ids r → IsInStep slots ids q → Proceeds slots ids r a logged q → is_pop a ≡ false → left_of slots q < left_of slots r
left-proceeds slots ids _ _ _ _ k l (skip id) e = absurd (cc)
left-proceeds slots ids _ _ _ _ k l (start id) e = absurd (cc)
left-proceeds slots ids _ _ _ _ k l (weaken w id slot target joins at) e =
    let same = join-work-law slots (moved slots w) joins in
    let less = look-work-law slots w id slot k.walk at in
    left-walk slots w (joined_by (moved slots w) joins) (joined-limit (moved slots w) joins ∙ moved-limit slots w) (omega (arith, same, less))
left-proceeds slots ids _ _ _ _ k l (scan w id copy at) e = left-walk slots w (copied w id copy) refl (copy-work-law slots w id copy k.walk at)
left-proceeds slots ids _ _ _ _ k l (judge w j at) e = left-judged slots ids w j k l
left-proceeds slots ids _ _ _ _ k l (cut w s slot id target strong g at) e = left-next_slot slots w s slot id g k.within at
left-proceeds slots ids _ _ _ _ k l (free w s slot id g at) e = left-freed slots w (removed w id) s slot id g at
left-proceeds slots ids _ _ _ _ k l (flip w s slot id g a) e = left-found slots w s slot g (Made id) k.greens.greening (flip-answers g k.greens.greening id (asks w s slot g (at.Flip id) a tt))
left-proceeds slots ids _ _ _ _ k l (into w s slot «from» i to g a) e = left-found slots w s slot g (Made «from») k.greens.greening (into-answers g k.greens.greening «from» i to (asks w s slot g (at.Into «from» i to) a tt))
left-proceeds slots ids _ _ _ _ k l (strengthen w s slot «from» i to g a) e = left-found slots w s slot g (Made to) k.greens.greening (strengthen-answers g k.greens.greening «from» i to (asks w s slot g (at.Strengthen «from» i to) a tt))
left-proceeds slots ids _ _ _ _ k l (end w s slot g at) e = omega arith
