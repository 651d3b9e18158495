-- Where a green walk stands at each of its events.
use Rattle.std.proofs.Common.{◌≡◌, ℕ, ◌<◌, Bool, true, false, if◌then◌else◌, ◌==◌, List, [], ◌∷◌, length, drop, slice_index_or, nat_lt, Option, Some, None, refl, sym, ap, ◌∙◌, subst, arith}
use Rattle.std.proofs.lemmas.Bool.Decides.{nat_tests}
use Rattle.green_walk.specs.declared.copied_slots.CopiedSlot.{CopiedSlot}
use Rattle.green_walk.specs.declared.green_at.GreenAt.{GreenAt}
use Rattle.green_walk.specs.declared.green_at.GreenAt.TheVariants as green
use Rattle.green_walk.specs.declared.green_at.Test.{Test}
use Rattle.green_walk.specs.declared.sweep.SweepAt.{SweepAt}
use Rattle.green_walk.specs.declared.sweep.SweepAt.TheVariants as sweep
use Rattle.green_walk.specs.declared.sweep.Found.TheVariants.{Made}
use Rattle.green_walk.specs.Sweeping.{SweepState as Sweep, first_of as first_of_sweep, next as next_of_sweep, unemptied, unfreed}
use Rattle.green_walk.specs.Greening.{Greening, GreenStage, AtSeed, AtInto, AtOut, IsGreening, waits, may_lead_to, first_with, behind_first, greened, moved, first_seed, look_into, asked_at, settled_out, next as next_of_green, found_in, found as found_by_green}
use Rattle.green_walk.proofs.GreenSteps.{IsThere, there, into-none, into-some, out-there, out-done}
use Rattle.green_walk.proofs.GreenAnswers.{test-settled, next-settled}
use Rattle.log_record.specs.declared.cell_record.CellRecord.{CellRecord}
use Rattle.log_record.specs.declared.cell_record.CellRecord.TheVariants as logs
use Rattle.core_store.specs.declared.act.Act.{Act}
use Rattle.core_store.specs.declared.round_at.RoundAt.{RoundAt}
use Rattle.core_store.specs.declared.round_at.RoundAt.TheVariants as at
use Rattle.core_store.specs.RoundView.{RoundView, Sweeping, asked, asked_by_green, asked_by_sweep, Proceeds, skip, start, weaken, scan, judge, cut, free, flip, into, strengthen, end}

-- ---- what was asked for

-- what comes next where the green walk logs this
abbrev pub Asks : RoundView → Option CellRecord → Type 0
Asks (Sweeping w s slot g) (Some (logs.Flip id)) = asked (Sweeping w s slot g) ≡ at.Flip id
Asks (Sweeping w s slot g) (Some (logs.Weaken «from» k to)) = asked (Sweeping w s slot g) ≡ at.Into «from» k to
Asks (Sweeping w s slot g) (Some (logs.Strengthen «from» k to)) = asked (Sweeping w s slot g) ≡ at.Strengthen «from» k to
Asks _ _ = Unit {0}

pub asks : {slots ids : ℕ} {u v : RoundView} {event : Act} {logged : Option CellRecord} → Proceeds slots ids u event logged v → Asks u logged
asks (skip id) = tt
asks (start id) = tt
asks (weaken w id slot target joins e) = tt
asks (scan w id copy e) = tt
asks (judge w j e) = tt
asks (cut w s slot id target strong g e) = tt
asks (free w s slot id g e) = tt
asks (flip w s slot id g e) = e
asks (into w s slot «from» k to g e) = e
asks (strengthen w s slot «from» k to g e) = e
asks (end w s slot g e) = tt

-- what the green walk asked for, and the test that is in hand, where one of its events comes next
abbrev pub IsAskedBy : ℕ → Option Test → GreenAt → RoundAt → Type 0
IsAskedBy slots test n (at.Flip id) = (n ≡ green.Seed id) × (t : Test) × (test ≡ Some t)
IsAskedBy slots test n (at.Into «from» slot to) = n ≡ green.Into «from» slot to
IsAskedBy slots test n (at.Strengthen «from» slot to) = (n ≡ green.Out «from» slot) × (t : Test) × (test ≡ Some t) × (t.id ≡ to)
IsAskedBy slots test n _ = Unit {0}

asked-by : (slots : ℕ) (test : Option Test) (n : GreenAt) → IsAskedBy slots test n (asked_by_green slots test n)
asked-by slots None (green.Seed id) = tt
asked-by slots (Some t) (green.Seed id) = by (t.slot == slots)
  where
    by : (b : Bool) → IsAskedBy slots (Some t) (green.Seed id) (if b then at.Flip id else at.Test t.id t.slot)
    by true = (refl, t, refl)
    by false = tt
asked-by slots test (green.Into «from» slot to) = refl
asked-by slots None (green.Out «from» slot) = tt
asked-by slots (Some t) (green.Out «from» slot) = by (t.slot == slots)
  where
    by : (b : Bool) → IsAskedBy slots (Some t) (green.Out «from» slot) (if b then at.Strengthen «from» slot t.id else at.Test t.id t.slot)
    by true = (refl, t, refl, refl)
    by false = tt
asked-by slots test green.End = tt

-- it is an event of the green walk
abbrev pub IsGreenEvent : RoundAt → Type 0
IsGreenEvent (at.Flip id) = Unit {0}
IsGreenEvent (at.Into «from» slot to) = Unit {0}
IsGreenEvent (at.Strengthen «from» slot to) = Unit {0}
IsGreenEvent _ = ⊥

-- where one of its events comes next, the sweep is over
pub asked-green : (k : ℕ) (g : Greening) (n : SweepAt) (a : RoundAt) → IsGreenEvent a → asked_by_sweep k g n ≡ a → (n ≡ sweep.End) × IsAskedBy g.slots g.test (next_of_green g) a
asked-green k g (sweep.Slots i) a m e = absurd (subst IsGreenEvent (sym e) m)
asked-green k g (sweep.Free i) a m e = absurd (subst IsGreenEvent (sym e) m)
asked-green k g sweep.End a m e = (refl, subst (IsAskedBy g.slots g.test (next_of_green g)) e (asked-by g.slots g.test (next_of_green g)))

-- where the sweep is over, all condemned objects were freed
pub all-freed : (s : Sweep) → next_of_sweep s ≡ sweep.End → unfreed s ≡ []
all-freed s e = by (unemptied s) (unfreed s) e
  where
    by : (xs ys : List ℕ) → first_of_sweep xs ys ≡ sweep.End → ys ≡ []
    by [] [] e = refl
    by [] (y ∷ ys) e = absurd (cc)
    by (x ∷ xs) ys e = absurd (cc)

-- ---- at a flip

-- the walk is at a seed that waits
pub record IsAtFlip (g : Greening) (id : ℕ) : Type 0 where
  pub stage : g.stage ≡ AtSeed
  pub waiting : waits g id ≡ true
  pub rest : List ℕ
  pub seeds : g.seeds ≡ id ∷ rest
  pub found : found_by_green g (Made id) ≡ record (greened g id) { stage = AtInto id g.copied; test = None }

seed-of : (seeds : List ℕ) (id : ℕ) → first_seed seeds ≡ green.Seed id → (rest : List ℕ) × (seeds ≡ id ∷ rest)
seed-of [] id e = absurd (cc)
seed-of (x ∷ xs) id e = (xs, cc)

look-no_seed : (flipped id : ℕ) (o : Option CopiedSlot) → look_into flipped o ≡ green.Seed id → ⊥
look-no_seed flipped id None e = absurd (cc)
look-no_seed flipped id (Some s) e = absurd (cc)

seed-stage : (g : Greening) (st : GreenStage) (id : ℕ) → asked_at g st ≡ green.Seed id → (st ≡ AtSeed) × (rest : List ℕ) × (g.seeds ≡ id ∷ rest)
seed-stage g AtSeed id e = let f = seed-of g.seeds id e in (refl, f.0, f.1)
seed-stage g (AtInto flipped rest) id e = absurd (look-no_seed flipped id (first_with (may_lead_to g flipped) rest) e)
seed-stage g (AtOut place slot) id e = absurd (cc)

same-first : (x y : ℕ) (xs ys zs : List ℕ) → zs ≡ x ∷ xs → zs ≡ y ∷ ys → x ≡ y
same-first x y xs ys zs e f = let h : x ∷ xs ≡ y ∷ ys = sym e ∙ f in cc

flip-made : (g : Greening) (id : ℕ) (rest : List ℕ) → g.seeds ≡ id ∷ rest → found_in g AtSeed (Made id) ≡ record (greened g id) { stage = AtInto id g.copied; test = None }
flip-made g id rest e = rw e refl

pub at-flip : (g : Greening) (id : ℕ) (t : Test) → IsGreening g → next_of_green g ≡ green.Seed id → g.test ≡ Some t → IsAtFlip g id
at-flip g id t k n e =
    let i = test-settled g t k e in
    let st = seed-stage g g.stage id (sym (next-settled g i.settled) ∙ n) in
    let own = i.at_seed st.0 in
    let same : t.id ≡ id = same-first t.id id own.0 st.1 g.seeds own.1 st.2 in
    record {
      stage = st.0;
      waiting = subst (λ x. waits g x ≡ true) same i.waits;
      rest = st.1;
      seeds = st.2;
      found = ap (λ (h : Greening). found_in h h.stage (Made id)) i.settled ∙ ap (λ x. found_in g x (Made id)) st.0 ∙ flip-made g id st.1 st.2;
    }

-- ---- at a strong pointer to the flipped object

-- the walk is at a slot that may lead to the flipped object
pub record IsAtInto (g : Greening) («from» slot to : ℕ) : Type 0 where
  pub rest : List CopiedSlot
  pub stage : g.stage ≡ AtInto to rest
  pub first : CopiedSlot
  pub leads : first_with (may_lead_to g to) rest ≡ Some first
  pub id : first.id ≡ «from»
  pub at : first.slot ≡ slot
  pub found : found_by_green g (Made «from») ≡ record g { stage = AtInto to (behind_first (may_lead_to g to) rest) }

seed-no_into : (seeds : List ℕ) («from» k to : ℕ) → first_seed seeds ≡ green.Into «from» k to → ⊥
seed-no_into [] «from» k to e = absurd (cc)
seed-no_into (x ∷ xs) «from» k to e = absurd (cc)

out-no_into : (g : Greening) (place slot «from» k to : ℕ) → next_of_green (record g { stage = AtOut place slot }) ≡ green.Into «from» k to → ⊥
out-no_into g place slot «from» k to n = by (nat_lt place (length g.green)) refl
  where
    by : (b : Bool) → nat_lt place (length g.green) ≡ b → ⊥
    by true e = let f : green.Out (slice_index_or g.green place 0) slot ≡ green.Into «from» k to = sym (ap (λ (h : Greening). asked_at h h.stage) (out-there g place slot (grind (arith, nat_tests, e)))) ∙ n in absurd (cc)
    by false e = seed-no_into (drop 1 g.seeds) «from» k to (sym (ap (λ (h : Greening). asked_at h h.stage) (out-done g place slot e)) ∙ n)

into-at : (g : Greening) (flipped : ℕ) (rest : List CopiedSlot) («from» k to : ℕ) (o : Option CopiedSlot) → first_with (may_lead_to g flipped) rest ≡ o → next_of_green (record g { stage = AtInto flipped rest }) ≡ green.Into «from» k to
    → IsAtInto (record g { stage = AtInto flipped rest }) «from» k to
into-at g flipped rest «from» k to None e n =
    absurd (out-no_into (record g { test = None; changed = false }) (if g.changed then 0 else g.walked) 0 «from» k to (sym (ap (λ (h : Greening). asked_at (settled_out h) (settled_out h).stage) (into-none g flipped rest e)) ∙ n))
into-at g flipped rest «from» k to (Some s) e n =
    let at-rest = into-some g flipped rest s e in
    let asks : green.Into s.id s.slot flipped ≡ green.Into «from» k to =
    sym (ap (look_into flipped) e) ∙ sym (ap (λ (h : Greening). asked_at (settled_out h) (settled_out h).stage) at-rest) ∙ n in
    let same : flipped ≡ to = cc in
    subst (λ x. IsAtInto (record g { stage = AtInto flipped rest }) «from» k x) same (record {
      rest = rest;
      stage = refl;
      first = s;
      leads = e;
      id = cc;
      at = cc;
      found = ap (λ (h : Greening). found_in (settled_out h) (settled_out h).stage (Made «from»)) at-rest;
    })

into-stage : (g : Greening) (st : GreenStage) («from» k to : ℕ) → next_of_green (record g { stage = st }) ≡ green.Into «from» k to → IsAtInto (record g { stage = st }) «from» k to
into-stage g AtSeed «from» k to n = absurd (seed-no_into g.seeds «from» k to n)
into-stage g (AtInto flipped rest) «from» k to n = into-at g flipped rest «from» k to (first_with (may_lead_to g flipped) rest) refl n
into-stage g (AtOut place slot) «from» k to n = absurd (out-no_into g place slot «from» k to n)

pub at-into : (g : Greening) («from» k to : ℕ) → next_of_green g ≡ green.Into «from» k to → IsAtInto g «from» k to
at-into g «from» k to n = into-stage g g.stage «from» k to n

-- ---- at a weak pointer that becomes strong

-- the walk is at a slot of a green object, and the target waits
pub record IsAtStrengthen (g : Greening) («from» slot to : ℕ) : Type 0 where
  pub place : ℕ
  pub stage : g.stage ≡ AtOut place slot
  pub within : place < length g.green
  pub green : slice_index_or g.green place 0 ≡ «from»
  pub waiting : waits g to ≡ true
  pub found : found_by_green g (Made to) ≡ moved (greened g to) place slot

seed-no_out : (seeds : List ℕ) («from» k : ℕ) → first_seed seeds ≡ green.Out «from» k → ⊥
seed-no_out [] «from» k e = absurd (cc)
seed-no_out (x ∷ xs) «from» k e = absurd (cc)

look-no_out : (flipped «from» k : ℕ) (o : Option CopiedSlot) → look_into flipped o ≡ green.Out «from» k → ⊥
look-no_out flipped «from» k None e = absurd (cc)
look-no_out flipped «from» k (Some s) e = absurd (cc)

out-stage : (g : Greening) (st : GreenStage) («from» k : ℕ) → asked_at g st ≡ green.Out «from» k → IsThere g st → (place : ℕ) × (st ≡ AtOut place k) × (place < length g.green) × (slice_index_or g.green place 0 ≡ «from»)
out-stage g AtSeed «from» k e l = absurd (seed-no_out g.seeds «from» k e)
out-stage g (AtInto flipped rest) «from» k e l = absurd (look-no_out flipped «from» k (first_with (may_lead_to g flipped) rest) e)
out-stage g (AtOut place slot) «from» k e l = let same : slot ≡ k = cc in (place, ap (λ x. AtOut place x) same, l, cc)

pub at-strengthen : (g : Greening) («from» k to : ℕ) (t : Test) → IsGreening g → next_of_green g ≡ green.Out «from» k → g.test ≡ Some t → t.id ≡ to → IsAtStrengthen g «from» k to
at-strengthen g «from» k to t h n e is =
    let i = test-settled g t h e in
    let stands : IsThere g g.stage = subst (λ (x : Greening). IsThere x x.stage) i.settled (there g) in
    let st = out-stage g g.stage «from» k (sym (next-settled g i.settled) ∙ n) stands in
    record {
      place = st.0;
      stage = st.1;
      within = st.2;
      green = st.3;
      waiting = subst (λ x. waits g x ≡ true) is i.waits;
      found = ap (λ (h : Greening). found_in h h.stage (Made to)) i.settled ∙ ap (λ x. found_in g x (Made to)) st.1;
    }
