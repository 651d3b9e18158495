-- What looks are saved by stays true over looks of the green walk.
use Rattle.std.proofs.Common.{◌≡◌, ◌≢◌, ℕ, ◌+◌, ◌<◌, ◌≤◌, ◌==◌, if◌then◌else◌, Bool, true, false, ◌&&◌, List, [], ◌∷◌, length, slice_index_or, Option, Some, refl, sym, ap, ◌∙◌, subst, arith, inl, inr, ⊎_elim, true≢false}
use Rattle.std.specs.Prelude.{IfSome}
use Rattle.cell_model.specs.Cells.{Cell, cell_at, pointer_at}
use Rattle.green_walk.specs.declared.copied_slots.CopiedSlot.{CopiedSlot}
use Rattle.green_walk.specs.declared.green_at.GreenAt.{GreenAt}
use Rattle.green_walk.specs.declared.green_at.GreenAt.TheVariants as green
use Rattle.green_walk.specs.declared.green_at.Test.{Test}
use Rattle.green_walk.specs.declared.sweep.SweepAt.TheVariants.{End}
use Rattle.green_walk.specs.declared.sweep.Found.{Found}
use Rattle.green_walk.specs.declared.sweep.Found.TheVariants.{Nothing, Made, Strong}
use Rattle.green_walk.specs.Sweeping.{SweepState as Sweep, next as next_of_sweep}
use Rattle.green_walk.specs.Greening.{Greening, GreenStage, AtSeed, AtInto, AtOut, IsGreening, IsAnswer, IsTestable, waits, may_lead_to, behind_first, first_seed, walking, settled, greened, moved, next, found, found_in, found_at_seed, asked_at, testing, tested}
use Rattle.green_walk.proofs.GreenSteps.{settled-greening, settled-waits}
use Rattle.green_walk.proofs.GreenAnswers.{test-law}
use Rattle.core_store.specs.declared.round_at.RoundAt.{RoundAt}
use Rattle.core_store.specs.declared.round_at.RoundAt.TheVariants as at
use Rattle.core_store.specs.Changes.{is_counted_strong, has_no_strong}
use Rattle.core_store.specs.RoundView.{is_event, is_white, seen_test, passed_by_green}
use Rattle.core_store.specs.Saved.{IsSpent, AreSaved}
use Rattle.core_store.specs.Stands.{IsTestedIn}
use Rattle.core_store.proofs.AskedGreen.{IsAskedBy}
use Rattle.core_store.proofs.GreenAsks.{test-answers}
use Rattle.core_store.proofs.SavedLaws.{GoesOn, saved-on, saved-settled, saved-test, goes-walking, waits-less, green-at, was-moved, out-moved}

-- ---- why a look was answered so

-- a slot of the object holds a strong pointer
abbrev pub HasStrongSlot : List Cell → ℕ → Type 0
HasStrongSlot cells id = (k : ℕ) × (is_counted_strong cells (pointer_at cells id k) ≡ true)

abbrev pub IsReason : List Cell → Greening → GreenAt → Found → Type 0
IsReason cells g (green.Seed id) Nothing = waits g id ≡ true → (has_no_strong (cell_at cells id) ≡ true) × HasStrongSlot cells id
IsReason cells g (green.Seed id) Strong = (waits g id ≡ true) × (has_no_strong (cell_at cells id) ≡ false)
IsReason cells g (green.Into «from» slot to) Nothing = is_event cells (at.Into «from» slot to) ≡ false
IsReason cells g (green.Out «from» slot) Nothing = waits g (pointer_at cells «from» slot).target ≡ true → has_no_strong (cell_at cells (pointer_at cells «from» slot).target) ≡ true → HasStrongSlot cells (pointer_at cells «from» slot).target
IsReason cells g _ _ = ⊥

-- it was answered for this reason, a test began, or it went on by one slot
pub data Sees (cells : List Cell) (g : Greening) : Greening → Type 0 where
  answers : (what : Found) → IsAnswer g (next g) what → IsReason cells g (next g) what → Sees cells g (found g what)
  begins : (id : ℕ) → Sees cells g (testing g id)
  goes_on : Sees cells g (tested g)

module _ (cells : List Cell) (g : Greening) (k : IsGreening g) (found_so_far : IfSome g.test (IsTestedIn cells g)) where
  see-seed : (id : ℕ) → next g ≡ green.Seed id → (b z : Bool) → waits g id ≡ b → has_no_strong (cell_at cells id) ≡ z → Sees cells g (if b && z then testing g id else found g (if b then Strong else Nothing))
  see-seed id n true true w zero = begins id
  see-seed id n true false w zero = answers Strong (subst (λ (a : GreenAt). IsAnswer g a Strong) (sym n) w) (subst (λ (a : GreenAt). IsReason cells g a Strong) (sym n) (w, zero))
  see-seed id n false z w zero = answers Nothing (subst (λ (a : GreenAt). IsAnswer g a Nothing) (sym n) tt) (subst (λ (a : GreenAt). IsReason cells g a Nothing) (sym n) (λ yes. absurd (true≢false (sym yes ∙ w))))

  -- the tested object has a strong pointer out
  why-tested : (t : Test) → g.test ≡ Some t → is_counted_strong cells (pointer_at cells t.id t.slot) ≡ true → (n : GreenAt) → next g ≡ n → IsTestable g n t.id → IsReason cells g n Nothing
  why-tested t e strong (green.Seed id) n a =
      let was : IsTestedIn cells g t = subst (λ (o : Option Test). IfSome o (IsTestedIn cells g)) e found_so_far in
      λ w. (subst (λ (x : ℕ). has_no_strong (cell_at cells x) ≡ true) a.0 was.zero, (t.slot, subst (λ (x : ℕ). is_counted_strong cells (pointer_at cells x t.slot) ≡ true) a.0 strong))
  why-tested t e strong (green.Into «from» slot to) n a = absurd a
  why-tested t e strong (green.Out «from» slot) n a =
      let was : IsTestedIn cells g t = subst (λ (o : Option Test). IfSome o (IsTestedIn cells g)) e found_so_far in
      λ w zero. (t.slot, subst (λ (x : ℕ). is_counted_strong cells (pointer_at cells x t.slot) ≡ true) (sym (was.named «from» slot n)) strong)
  why-tested t e strong green.End n a = absurd a

  see-test : (t : Test) → g.test ≡ Some t → (b : Bool) → is_counted_strong cells (pointer_at cells t.id t.slot) ≡ b → Sees cells g (if b then found g Nothing else tested g)
  see-test t e true s = answers Nothing (test-answers g t k e) (why-tested t e s (next g) refl (test-law g t k e).0)
  see-test t e false s = goes_on

  see-out : («from» slot : ℕ) → next g ≡ green.Out «from» slot → (b : Bool) → is_white cells g (pointer_at cells «from» slot).target ≡ b → Sees cells g (if b then testing g (pointer_at cells «from» slot).target else found g Nothing)
  see-out «from» slot n true white = begins (pointer_at cells «from» slot).target
  see-out «from» slot n false white =
      answers Nothing (subst (λ (a : GreenAt). IsAnswer g a Nothing) (sym n) tt) (subst (λ (a : GreenAt). IsReason cells g a Nothing) (sym n)
      (λ w zero. absurd (true≢false (sym (ap (λ (b : Bool). b && has_no_strong (cell_at cells (pointer_at cells «from» slot).target)) w ∙ zero) ∙ white))))

  see-in_test : (id slot : ℕ) → IsAskedBy g.slots g.test (next g) (at.Test id slot) → Sees cells g (seen_test cells g id slot)
  see-in_test id slot a =
      let t = a.0 in
      subst (λ (x : ℕ). Sees cells g (seen_test cells g x slot)) a.2 (subst (λ (x : ℕ). Sees cells g (seen_test cells g t.id x)) a.3 (see-test t a.1 (is_counted_strong cells (pointer_at cells t.id t.slot)) refl))

  -- what was asked for is a look, and not an event
  pub green-sees : (a : RoundAt) → IsAskedBy g.slots g.test (next g) a → is_event cells a ≡ false → Sees cells g (passed_by_green cells g a)
  green-sees (at.Seed id) a idle = see-seed id a.0 (waits g id) (has_no_strong (cell_at cells id)) refl refl
  green-sees (at.Test id slot) a idle = see-in_test id slot a
  green-sees (at.Into «from» slot to) a idle = answers Nothing (subst (λ (n : GreenAt). IsAnswer g n Nothing) (sym a) tt) (subst (λ (n : GreenAt). IsReason cells g n Nothing) (sym a) idle)
  green-sees (at.Out «from» slot) a idle = see-out «from» slot a.0 (is_white cells g (pointer_at cells «from» slot).target) refl
  green-sees (at.Flip id) a idle = absurd (cc)
  green-sees (at.Strengthen «from» slot to) a idle = absurd (cc)
  green-sees at.End a idle = absurd (cc)
  green-sees at.Queue a idle = absurd a
  green-sees at.Judge a idle = absurd a
  green-sees (at.Look id slot) a idle = absurd a
  green-sees (at.Copy id) a idle = absurd a
  green-sees (at.Cut id slot) a idle = absurd a
  green-sees (at.Free id) a idle = absurd a

-- ---- what the answers leave

-- a seed with a strong pointer to it becomes green
pub goes-greened : (cells : List Cell) (g : Greening) (id : ℕ) → g.walked ≤ length g.green → GoesOn cells cells (record g { stage = AtSeed }) (record (greened g id) { stage = AtSeed })
goes-greened cells g id few = record {
  targets = λ x k. refl;
  current = λ e. e;
  copied = refl;
  live = refl;
  slots = refl;
  spent = λ x s w zero. (let out = s (waits-less g id x w) zero in record { slot = out.slot; strong = out.strong; apart = λ flipped rest e. absurd (cc) });
  passed = λ e place slot was l small. let within : place < length g.green = omega (arith, was, few) in inl (e, was, within, green-at g id place within);
}

-- the slot was looked at for a pointer to the flipped object
goes-behind : (cells : List Cell) (g : Greening) (flipped : ℕ) (rest behind : List CopiedSlot) → GoesOn cells cells (record g { stage = AtInto flipped rest }) (record g { stage = AtInto flipped behind })
goes-behind cells g flipped rest behind = record {
  targets = λ x k. refl;
  current = λ e. e;
  copied = refl;
  live = refl;
  slots = refl;
  spent = λ x s w zero.
      (let out = s w zero in
      record { slot = out.slot; strong = out.strong; apart = λ f r e. (let same : flipped ≡ f = cc in subst (λ (y : ℕ). (pointer_at cells x out.slot).target ≢ y) same (out.apart flipped rest refl)) });
  passed = λ e place slot was few small. inl (e, was, few, refl);
}

-- there was nothing to do at the slot of a green object
goes-moved : (cells : List Cell) (g : Greening) (at k : ℕ) → (waits g (pointer_at cells (slice_index_or g.green at 0) k).target ≡ true → has_no_strong (cell_at cells (pointer_at cells (slice_index_or g.green at 0) k).target) ≡ true → HasStrongSlot cells (pointer_at cells (slice_index_or g.green at 0) k).target)
    → GoesOn cells cells (record g { stage = AtOut at k }) (moved g at k)
goes-moved cells g at k why = record {
  targets = λ x j. refl;
  current = λ e. e;
  copied = refl;
  live = refl;
  slots = refl;
  spent = λ x s w zero. (let out = s w zero in out-moved cells g.slots at k x (k + 1 == g.slots) out.slot out.strong);
  passed = λ e place slot was few small.
      ⊎_elim
      (λ p. inl (e, p, few, refl))
      (λ p. inr (subst (λ (y : ℕ). IsSpent cells (moved g at k) (moved g at k).stage (pointer_at cells (slice_index_or g.green y 0) slot).target) (sym p.0)
      (subst (λ (y : ℕ). IsSpent cells (moved g at k) (moved g at k).stage (pointer_at cells (slice_index_or g.green at 0) y).target) (sym p.1)
      (λ w zero. let out = why w zero in out-moved cells g.slots at k (pointer_at cells (slice_index_or g.green at 0) k).target (k + 1 == g.slots) out.0 out.1))))
      (was-moved g.walked g.slots at k place slot (k + 1 == g.slots) refl small was);
}

saved-at_seed : (cells : List Cell) (s : Sweep) (g : Greening) (what : Found) (seeds : List ℕ) → next_of_sweep s ≡ End → g.walked ≤ length g.green → IsReason cells g (first_seed seeds) what → AreSaved cells s (record g { stage = AtSeed }) → AreSaved cells s (found_at_seed (record g { stage = AtSeed }) (first_seed seeds) what)
saved-at_seed cells s g what [] end few why k = absurd why
saved-at_seed cells s g Nothing (id ∷ ids) end few why k = saved-on cells cells s (record g { stage = AtSeed }) (walking g) end (goes-walking cells g AtSeed (λ place slot l. l)) k
saved-at_seed cells s g Strong (id ∷ ids) end few why k =
    saved-on cells cells s (record (greened g id) { stage = AtSeed }) (walking (greened g id)) end (goes-walking cells (greened g id) AtSeed (λ place slot l. l))
    (saved-on cells cells s (record g { stage = AtSeed }) (record (greened g id) { stage = AtSeed }) end (goes-greened cells g id few) k)
saved-at_seed cells s g (Made made) (id ∷ ids) end few why k = absurd why

saved-in : (cells : List Cell) (s : Sweep) (g : Greening) (st : GreenStage) (what : Found) → next_of_sweep s ≡ End → g.walked ≤ length g.green → IsReason cells g (asked_at g st) what → AreSaved cells s (record g { stage = st }) → AreSaved cells s (found_in (record g { stage = st }) st what)
saved-in cells s g AtSeed what end few why k = saved-at_seed cells s g what g.seeds end few why k
saved-in cells s g (AtInto flipped rest) what end few why k = saved-on cells cells s (record g { stage = AtInto flipped rest }) (record g { stage = AtInto flipped (behind_first (may_lead_to g flipped) rest) }) end (goes-behind cells g flipped rest (behind_first (may_lead_to g flipped) rest)) k
saved-in cells s g (AtOut at slot) Nothing end few why k = saved-on cells cells s (record g { stage = AtOut at slot }) (moved g at slot) end (goes-moved cells g at slot why) k
saved-in cells s g (AtOut at slot) Strong end few why k = absurd why
saved-in cells s g (AtOut at slot) (Made made) end few why k = absurd why

-- a reason speaks of what waits
pub reason-same : (cells : List Cell) (g h : Greening) → ((id : ℕ) → waits h id ≡ waits g id) → (n : GreenAt) (what : Found) → IsReason cells g n what → IsReason cells h n what
reason-same cells g h w (green.Seed id) Nothing why = λ yes. why (sym (w id) ∙ yes)
reason-same cells g h w (green.Seed id) Strong why = (w id ∙ why.0, why.1)
reason-same cells g h w (green.Seed id) (Made made) why = absurd why
reason-same cells g h w (green.Into «from» slot to) Nothing why = why
reason-same cells g h w (green.Into «from» slot to) Strong why = absurd why
reason-same cells g h w (green.Into «from» slot to) (Made made) why = absurd why
reason-same cells g h w (green.Out «from» slot) Nothing why = λ yes zero. why (sym (w (pointer_at cells «from» slot).target) ∙ yes) zero
reason-same cells g h w (green.Out «from» slot) Strong why = absurd why
reason-same cells g h w (green.Out «from» slot) (Made made) why = absurd why
reason-same cells g h w green.End what why = absurd why

saved-found : (cells : List Cell) (s : Sweep) (g : Greening) (what : Found) → IsGreening g → next_of_sweep s ≡ End → IsReason cells g (next g) what → AreSaved cells s g → AreSaved cells s (found g what)
saved-found cells s g what k end why saved =
    let h = settled g in
    saved-in cells s h h.stage what end (settled-greening g k).walked_few (reason-same cells g h (settled-waits g) (next g) what why) (saved-settled cells s g end saved)

-- what looks are saved by stays true
pub saved-sees : (cells : List Cell) (s : Sweep) (g h : Greening) → IsGreening g → next_of_sweep s ≡ End → Sees cells g h → AreSaved cells s g → AreSaved cells s h
saved-sees cells s g _ k end (answers what a why) saved = saved-found cells s g what k end why saved
saved-sees cells s g _ k end (begins id) saved = saved-test cells s (settled g) (Some (record { id = id; slot = 0 })) (saved-settled cells s g end saved)
saved-sees cells s g _ k end goes_on saved = saved-test cells s g (tested g).test saved
