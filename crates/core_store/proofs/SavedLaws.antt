-- What looks are saved by stays true over looks, events of the collector, and changes of a client.
use Rattle.std.proofs.Common.{◌≡◌, ◌≢◌, ℕ, ◌+◌, ◌<◌, ◌≤◌, ◌==◌, nat_lt, if◌then◌else◌, Bool, true, false, not, ◌&&◌, List, [], ◌∷◌, ◌++◌, length, slice_index_or, Option, Some, None, refl, sym, ap, ◌∙◌, subst, arith, ◌⊎◌, inl, inr, ⊎_elim, true≢false}
use Rattle.std.specs.Prelude.{Contains}
use Rattle.std.proofs.lemmas.Bool.{cases_lt, eqb-true, not-false, and_cases}
use Rattle.std.proofs.lemmas.Bool.Decides.{nat_tests}
use Rattle.std.proofs.lemmas.List.{get_or_append_left}
use Rattle.std.proofs.lemmas.List.Elements.{Contains-append_left, Contains-push}
use Rattle.cell_model.specs.Cells.{Cell, pointer_at}
use Rattle.green_walk.specs.declared.copied_slots.CopiedSlot.{CopiedSlot}
use Rattle.green_walk.specs.declared.green_at.Test.{Test}
use Rattle.green_walk.specs.declared.sweep.SweepAt.TheVariants.{End}
use Rattle.green_walk.specs.Sweeping.{SweepState as Sweep, next as next_of_sweep}
use Rattle.green_walk.specs.Greening.{Greening, GreenStage, AtSeed, AtInto, AtOut, waits, may_lead_to, first_with, walking, seed_done, settled_out, settled, greened, again}
use Rattle.ref_tables.specs.Queue.{has}
use Rattle.red_walk.proofs.Members.{Contains-has}
use Rattle.green_walk.proofs.GreenAsked.{green-done}
use Rattle.green_walk.proofs.GreenSteps.{into-none, into-some, out-there, out-done}
use Rattle.core_store.specs.Changes.{is_counted_strong}
use Rattle.core_store.specs.Saved.{HasOut, IsSpent, WasPassed, AreSaved}

-- ---- changes of a client

-- after a touch nothing is said
pub saved-again : (cells : List Cell) (s : Sweep) (g : Greening) → AreSaved cells s (again g)
saved-again cells s g = record { current = λ e. absurd (true≢false (sym e)); walked = λ e. absurd (true≢false e); early = λ e. absurd (true≢false e) }

-- ---- a sweep

-- it goes on over objects that don't live, and these alone change
pub saved-swept : (cells later : List Cell) (s t : Sweep) (g : Greening) → next_of_sweep s ≢ End → ((x k : ℕ) → Contains g.live x → (pointer_at later x k).target ≡ (pointer_at cells x k).target) → AreSaved cells s g → AreSaved later t g
saved-swept cells later s t g more targets k = record {
  current = λ e c m l. targets c.id c.slot l ∙ k.current e c m l;
  walked = λ e place slot was few small. absurd (none place slot (k.early e more) was);
  early = λ e _. k.early e more;
}
  where
    none : (place slot : ℕ) → (g.stage ≡ AtSeed) × (g.walked ≡ 0) → WasPassed g.walked g.stage place slot → ⊥
    none place slot at was = let l : place < 0 = subst (λ (n : ℕ). place < n) at.1 (subst (λ (st : GreenStage). WasPassed g.walked st place slot) at.0 was) in omega (arith, l)

-- ---- the green walk goes on

-- what is passed after a step was passed before, or there is nothing to do at it
pub record GoesOn (cells later : List Cell) (g h : Greening) : Type 0 where
  pub targets : (x k : ℕ) → (pointer_at later x k).target ≡ (pointer_at cells x k).target
  pub current : h.current ≡ true → g.current ≡ true
  pub copied : h.copied ≡ g.copied
  pub live : h.live ≡ g.live
  pub slots : h.slots ≡ g.slots
  pub spent : (id : ℕ) → IsSpent cells g g.stage id → IsSpent later h h.stage id
  pub passed : h.changed ≡ false → (place slot : ℕ) → WasPassed h.walked h.stage place slot → place < length h.green → slot < h.slots
      → ((g.changed ≡ false) × WasPassed g.walked g.stage place slot × (place < length g.green) × (slice_index_or h.green place 0 ≡ slice_index_or g.green place 0)) ⊎ IsSpent later h h.stage (pointer_at later (slice_index_or h.green place 0) slot).target

pub saved-on : (cells later : List Cell) (s : Sweep) (g h : Greening) → next_of_sweep s ≡ End → GoesOn cells later g h → AreSaved cells s g → AreSaved later s h
saved-on cells later s g h end on k = record {
  current = λ e c m l. on.targets c.id c.slot ∙ k.current (on.current e) c (subst (λ (xs : List CopiedSlot). Contains xs c) on.copied m) (subst (λ (xs : List ℕ). Contains xs c.id) on.live l);
  walked = λ e place slot was few small.
      ⊎_elim
      (λ p.
      let at = slice_index_or g.green place 0 in
      let spent = on.spent (pointer_at cells at slot).target (k.walked p.0 place slot p.1 p.2 (subst (λ (n : ℕ). slot < n) on.slots small)) in
      subst (λ (x : ℕ). IsSpent later h h.stage (pointer_at later x slot).target) (sym p.3) (subst (λ (x : ℕ). IsSpent later h h.stage x) (sym (on.targets at slot)) spent))
      (λ p. p)
      (on.passed e place slot was few small);
  early = λ e n. absurd (n end);
}

-- ---- a settled walk

-- a walk that isn't at a flip's pointers wants less
spent-less : (cells : List Cell) (g h : Greening) (stage : GreenStage) (place slot : ℕ) (id : ℕ) → waits h id ≡ waits g id → IsSpent cells g stage id → IsSpent cells h (AtOut place slot) id
spent-less cells g h stage place slot id same spent w zero = let out = spent (sym same ∙ w) zero in record { slot = out.slot; strong = out.strong; apart = λ flipped rest e. absurd (cc) }

spent-seed : (cells : List Cell) (g h : Greening) (stage : GreenStage) (id : ℕ) → waits h id ≡ waits g id → IsSpent cells g stage id → IsSpent cells h AtSeed id
spent-seed cells g h stage id same spent w zero = let out = spent (sym same ∙ w) zero in record { slot = out.slot; strong = out.strong; apart = λ flipped rest e. absurd (cc) }

goes-same : (cells : List Cell) (g : Greening) → GoesOn cells cells g g
goes-same cells g = record { targets = λ x k. refl; current = λ e. e; copied = refl; live = refl; slots = refl; spent = λ id s. s; passed = λ e place slot was few small. inl (e, was, few, refl) }

-- the green objects are walked from where nothing is known
pub goes-walking : (cells : List Cell) (g : Greening) (stage : GreenStage) → ((place slot : ℕ) → place < g.walked → WasPassed g.walked stage place slot) → GoesOn cells cells (record g { stage = stage }) (walking g)
goes-walking cells g stage before = by g.changed refl
  where
    by : (b : Bool) → g.changed ≡ b → GoesOn cells cells (record g { stage = stage }) (record g { stage = AtOut (if b then 0 else g.walked) 0; test = None; changed = false })
    by true e = record {
      targets = λ x k. refl;
      current = λ e. e;
      copied = refl;
      live = refl;
      slots = refl;
      spent = λ id s. spent-less cells g g stage 0 0 id refl s;
      passed = λ n place slot was few small. ⊎_elim (λ l. absurd (omega (arith, l))) (λ p. let l = p.1 in absurd (omega (arith, l))) was;
    }
    by false e = record {
      targets = λ x k. refl;
      current = λ e. e;
      copied = refl;
      live = refl;
      slots = refl;
      spent = λ id s. spent-less cells g g stage g.walked 0 id refl s;
      passed = λ n place slot was few small. ⊎_elim (λ l. inl (e, before place slot l, few, refl)) (λ p. let l = p.1 in absurd (omega (arith, l))) was;
    }

goes-done : (cells : List Cell) (g : Greening) (at k : ℕ) → nat_lt at (length g.green) ≡ false → GoesOn cells cells (record g { stage = AtOut at k }) (seed_done g)
goes-done cells g at k e = record {
  targets = λ x k. refl;
  current = λ e. e;
  copied = refl;
  live = refl;
  slots = refl;
  spent = λ id s. spent-seed cells g g (AtOut at k) id refl s;
  passed = λ n place slot was few small. let behind : length g.green ≤ at = grind (arith, nat_tests, e) in inl (n, inl (omega (arith, few, behind)), few, refl);
}

saved-out : (cells : List Cell) (s : Sweep) (g : Greening) (at k : ℕ) → next_of_sweep s ≡ End → AreSaved cells s (record g { stage = AtOut at k }) → AreSaved cells s (settled_out (record g { stage = AtOut at k }))
saved-out cells s g at k end saved = by (nat_lt at (length g.green)) refl
  where
    by : (b : Bool) → nat_lt at (length g.green) ≡ b → AreSaved cells s (settled_out (record g { stage = AtOut at k }))
    by true e = subst (AreSaved cells s) (sym (out-there g at k (grind (arith, nat_tests, e)))) saved
    by false e = subst (AreSaved cells s) (sym (out-done g at k e)) (saved-on cells cells s (record g { stage = AtOut at k }) (seed_done g) end (goes-done cells g at k e) saved)

saved-settled-at : (cells : List Cell) (s : Sweep) (g : Greening) (st : GreenStage) → next_of_sweep s ≡ End → AreSaved cells s (record g { stage = st }) → AreSaved cells s (settled (record g { stage = st }))
saved-settled-at cells s g AtSeed end k = k
saved-settled-at cells s g (AtInto flipped rest) end k = by (first_with (may_lead_to g flipped) rest) refl
  where
    by : (o : Option CopiedSlot) → first_with (may_lead_to g flipped) rest ≡ o → AreSaved cells s (settled (record g { stage = AtInto flipped rest }))
    by None e = subst (λ (h : Greening). AreSaved cells s (settled_out h)) (sym (into-none g flipped rest e))
        (saved-out cells s (record g { test = None; changed = false }) (if g.changed then 0 else g.walked) 0 end
        (saved-on cells cells s (record g { stage = AtInto flipped rest }) (walking g) end (goes-walking cells g (AtInto flipped rest) (λ place slot l. l)) k))
    by (Some c) e = subst (λ (h : Greening). AreSaved cells s (settled_out h)) (sym (into-some g flipped rest c e)) k
saved-settled-at cells s g (AtOut place slot) end k = saved-out cells s g place slot end k

pub saved-settled : (cells : List Cell) (s : Sweep) (g : Greening) → next_of_sweep s ≡ End → AreSaved cells s g → AreSaved cells s (settled g)
saved-settled cells s g end k = saved-settled-at cells s g g.stage end k

-- a test is nothing to it
pub saved-test : (cells : List Cell) (s : Sweep) (g : Greening) (t : Option Test) → AreSaved cells s g → AreSaved cells s (record g { test = t })
saved-test cells s g t k = record { current = k.current; walked = k.walked; early = k.early }

-- ---- one more is green

waits-more : (g : Greening) (id : ℕ) (u : ℕ) → waits g u ≡ false → waits (greened g id) u ≡ false
waits-more g id u e =
    ⊎_elim
    (λ n. ap (λ (b : Bool). b && not (has (g.green ++ id ∷ []) u)) n)
    (λ n. green-done (greened g id) u (Contains-append_left g.green (id ∷ []) u (Contains-has g.green u (not-false (has g.green u) n))))
    (and_cases (has g.live u) (not (has g.green u)) e)

-- what waits still waited before, and is another one
pub waits-less : (g : Greening) (id u : ℕ) → waits (greened g id) u ≡ true → waits g u ≡ true
waits-less g id u w = by (waits g u) refl
  where
    by : (b : Bool) → waits g u ≡ b → b ≡ true
    by true e = refl
    by false e = absurd (true≢false (sym w ∙ waits-more g id u e))

pub waits-other : (g : Greening) (id u : ℕ) → waits (greened g id) u ≡ true → u ≢ id
waits-other g id u w e = true≢false (sym w ∙ (ap (waits (greened g id)) e ∙ green-done (greened g id) id (Contains-push g.green id)))

-- what was green is where it was
pub green-at : (g : Greening) (id place : ℕ) → place < length g.green → slice_index_or (g.green ++ id ∷ []) place 0 ≡ slice_index_or g.green place 0
green-at g id place l = get_or_append_left g.green (id ∷ []) 0 place l

-- ---- the next slot

-- what was passed after a slot was passed before it, or is that slot
pub was-moved : (walked slots at k place slot : ℕ) (b : Bool) → (k + 1 == slots) ≡ b → slot < slots → WasPassed walked (if b then AtOut (at + 1) 0 else AtOut at (k + 1)) place slot → WasPassed walked (AtOut at k) place slot ⊎ ((place ≡ at) × (slot ≡ k))
was-moved walked slots at k place slot true e small was =
    let last = eqb-true (k + 1) slots e in
    ⊎_elim
    (λ l.
    ⊎_elim
    (λ (m : place < at). inl (inl m))
    (λ (m : at ≤ place).
    let same : place ≡ at = omega (arith, l, m) in
    ⊎_elim (λ (n : slot < k). inl (inr (same, n))) (λ (n : k ≤ slot). inr (same, omega (arith, n, small, last))) (cases_lt slot k))
    (cases_lt place at))
    (λ p. let l = p.1 in absurd (omega (arith, l)))
    was
was-moved walked slots at k place slot false e small was =
    ⊎_elim
    (λ l. inl (inl l))
    (λ p. let l = p.1 in ⊎_elim (λ (n : slot < k). inl (inr (p.0, n))) (λ (n : k ≤ slot). inr (p.0, omega (arith, n, l))) (cases_lt slot k))
    was

-- at a slot of a green object nothing was just flipped
pub out-moved : (cells : List Cell) (slots at k id : ℕ) (b : Bool) → (slot : ℕ) → is_counted_strong cells (pointer_at cells id slot) ≡ true → HasOut cells (if b then AtOut (at + 1) 0 else AtOut at (k + 1)) id
out-moved cells slots at k id true slot strong = record { slot = slot; strong = strong; apart = λ flipped rest e. absurd (cc) }
out-moved cells slots at k id false slot strong = record { slot = slot; strong = strong; apart = λ flipped rest e. absurd (cc) }
