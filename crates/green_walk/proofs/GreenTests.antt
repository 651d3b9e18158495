-- A test begins where the green walk stands.
use Rattle.std.proofs.Common.{◌≡◌, ℕ, true, List, [], ◌∷◌, Option, Some, None, sym, ap, ◌∙◌, subst, arith}
use Rattle.green_walk.specs.declared.copied_slots.CopiedSlot.{CopiedSlot}
use Rattle.green_walk.specs.declared.green_at.GreenAt.{GreenAt}
use Rattle.green_walk.specs.declared.green_at.GreenAt.TheVariants.{Seed, Into, Out, End}
use Rattle.green_walk.specs.declared.green_at.Test.{Test}
use Rattle.green_walk.specs.Greening.{GreenStage, AtSeed, AtInto, AtOut, Greening, IsGreening, IsPlace, IsTestable, waits, may_lead_to, first_with, settled, first_seed, look_into, asked_at, next, testing}
use Rattle.green_walk.specs.GreenLaws.{TestingGreeningLaw}
use Rattle.green_walk.proofs.GreenSteps.{IsThere, stays, there, settled-waits, settled-greening}

-- where a test may begin there are no looks at the slots that may lead to a flipped object
testable-there : (g h : Greening) (st : GreenStage) (id : ℕ) (o : Option Test) → IsTestable g (asked_at h st) id → IsPlace h st → IsPlace (record h { test = o }) st
testable-there g h AtSeed id o a k = tt
testable-there g h (AtInto flipped rest) id o a k = absurd (by (first_with (may_lead_to h flipped) rest) a)
  where
    by : (s : Option CopiedSlot) → IsTestable g (look_into flipped s) id → ⊥
    by None b = b
    by (Some s) b = b
testable-there g h (AtOut place slot) id o a k = k

testable-waits : (g : Greening) (at : GreenAt) (id : ℕ) → IsTestable g at id → waits g id ≡ true
testable-waits g (Seed seed) id a = a.1
testable-waits g (Into x slot to) id a = absurd a
testable-waits g (Out x slot) id a = a
testable-waits g End id a = absurd a

testable-seed : (g : Greening) (seeds : List ℕ) (id : ℕ) → IsTestable g (first_seed seeds) id → (ids : List ℕ) × (seeds ≡ id ∷ ids)
testable-seed g [] id a = absurd a
testable-seed g (x ∷ xs) id a = (xs, ap (λ y. y ∷ xs) (sym a.0))

there-tested : (h : Greening) (st : GreenStage) (o : Option Test) → IsThere h st → IsThere (record h { test = o }) st
there-tested h AtSeed o t = tt
there-tested h (AtInto flipped rest) o t = t
there-tested h (AtOut place slot) o t = t

-- a test begins in the settled walk
pub testing-settled : (g : Greening) (id : ℕ) → IsGreening (settled g) → IsTestable g (next g) id → IsGreening (testing g id)
testing-settled g id kept a =
    let w = settled-waits g id ∙ testable-waits g (next g) id a in
    record {
      slot_count = kept.slot_count;
      live_ids = kept.live_ids;
      green_ids = kept.green_ids;
      green_live = kept.green_live;
      seeds_live = kept.seeds_live;
      seeds_few = kept.seeds_few;
      walked_few = kept.walked_few;
      copied_few = kept.copied_few;
      copied_within = kept.copied_within;
      place = testable-there g (settled g) (settled g).stage id (Some (record { id = id; slot = 0 })) a kept.place;
      tests = record {
        waits = w;
        within = omega arith;
        settled = stays (testing g id) (there-tested (settled g) (settled g).stage (Some (record { id = id; slot = 0 })) (there g));
        at_seed = λ e. testable-seed g (settled g).seeds id (subst (λ st. IsTestable g (asked_at (settled g) st) id) e a);
      };
    }

pub testing-greening : TestingGreeningLaw
testing-greening g id k a = testing-settled g id (settled-greening g k) a
