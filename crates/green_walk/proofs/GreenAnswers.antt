-- What the answers of a green walk leave.
use Rattle.std.proofs.Common.{◌≡◌, ℕ, Bool, true, false, not, ◌&&◌, List, [], ◌∷◌, length, Option, Some, None, nat_lt, if◌then◌else◌, refl, sym, ap, ◌∙◌, subst}
use Rattle.std.specs.Prelude.{IfSome}
use Rattle.ref_tables.specs.Queue.{has}
use Rattle.green_walk.specs.declared.copied_slots.CopiedSlot.{CopiedSlot}
use Rattle.green_walk.specs.declared.green_at.GreenAt.{GreenAt}
use Rattle.green_walk.specs.declared.green_at.GreenAt.TheVariants.{Seed, Into, Out, End}
use Rattle.green_walk.specs.declared.green_at.Test.{Test}
use Rattle.green_walk.specs.declared.sweep.Found.{Found}
use Rattle.green_walk.specs.declared.sweep.Found.TheVariants.{Nothing, Made, Strong}
use Rattle.green_walk.specs.Judged.{IsSeed, IsLive, seed}
use Rattle.green_walk.specs.Greening.{Greening, GreenStage, AtSeed, AtInto, AtOut, IsGreening, IsTesting, IsPlace, IsAnswer, IsTestable, waits, may_lead_to, first_with, first_seed, walking, settled_out, settled, asked_at, next, tested, found_at_seed, found_at_out, found_in, found}
use Rattle.green_walk.specs.GreenLaws.{IsSameWalk, SeedsLiveLaw, SettledLaw, FoundLaw, TestingLaw, TestedLaw, TestLaw}
use Rattle.green_walk.proofs.PicksLaws.{picks-from, picks-all}

pub seeds-live : SeedsLiveLaw
seeds-live w locks refs seeds live s l id m =
    let P = IsSeed w locks refs in
    let f = picks-from P s id m in
    picks-all (IsLive w P) l id f.0 (seed id f.1)

-- ---- settled walks

same-again : (g h k : Greening) → IsSameWalk g h → IsSameWalk h k → IsSameWalk g k
same-again g h k a b = record { live = b.live ∙ a.live; slots = b.slots ∙ a.slots; limit = b.limit ∙ a.limit }

-- something is to be looked at where the walk stands
abbrev pub IsSettled : Greening → GreenStage → Type 0
IsSettled g AtSeed = Unit {0}
IsSettled g (AtInto flipped rest) = (s : CopiedSlot) × (first_with (may_lead_to g flipped) rest ≡ Some s)
IsSettled g (AtOut place slot) = nat_lt place (length g.green) ≡ true

-- no test is in hand where pointers to a flipped object are looked at
abbrev pub IsUntested : Greening → GreenStage → Type 0
IsUntested g AtSeed = Unit {0}
IsUntested g (AtInto flipped rest) = g.test ≡ None
IsUntested g (AtOut place slot) = Unit {0}

-- what a walk that goes on becomes
pub record Settles (g h : Greening) : Type 0 where
  pub same : IsSameWalk g h
  pub green : h.green ≡ g.green
  pub settled : IsSettled h h.stage
  pub untested : IsUntested g g.stage → IsUntested h h.stage

settles-out : (g : Greening) (place slot : ℕ) → Settles (record g { stage = AtOut place slot }) (settled_out (record g { stage = AtOut place slot }))
settles-out g place slot = by (nat_lt place (length g.green)) refl
  where
    by : (b : Bool) → nat_lt place (length g.green) ≡ b → Settles (record g { stage = AtOut place slot }) (settled_out (record g { stage = AtOut place slot }))
    by true e = rw e (record { same = record { live = refl; slots = refl; limit = refl }; green = refl; settled = e; untested = λ u. u })
    by false e = rw e (record { same = record { live = refl; slots = refl; limit = refl }; green = refl; settled = tt; untested = λ u. tt })

settles-into : (g : Greening) (flipped : ℕ) (rest : List CopiedSlot) → Settles (record g { stage = AtInto flipped rest }) (settled (record g { stage = AtInto flipped rest }))
settles-into g flipped rest = by (first_with (may_lead_to g flipped) rest) refl
  where
    by : (o : Option CopiedSlot) → first_with (may_lead_to g flipped) rest ≡ o → Settles (record g { stage = AtInto flipped rest }) (settled (record g { stage = AtInto flipped rest }))
    by (Some s) e = rw e (record { same = record { live = refl; slots = refl; limit = refl }; green = refl; settled = (s, e); untested = λ u. u })
    by None e = rw e (goes_on _ (settles-out (record g { test = None; changed = false }) (if g.changed then 0 else g.walked) 0))
      where
        goes_on : (h : Greening) → Settles (walking g) h → Settles (record g { stage = AtInto flipped rest }) h
        goes_on h k = record { same = record { live = k.same.live; slots = k.same.slots; limit = k.same.limit }; green = k.green; settled = k.settled; untested = λ u. k.untested tt }

settles-seed : (g : Greening) → Settles (record g { stage = AtSeed }) (record g { stage = AtSeed })
settles-seed g = record { same = record { live = refl; slots = refl; limit = refl }; green = refl; settled = tt; untested = λ u. u }

settles-at : (g : Greening) (s : GreenStage) → Settles (record g { stage = s }) (settled (record g { stage = s }))
settles-at g AtSeed = settles-seed g
settles-at g (AtInto flipped rest) = settles-into g flipped rest
settles-at g (AtOut place slot) = settles-out g place slot

pub settles : (g : Greening) → Settles g (settled g)
settles g = settles-at g g.stage

pub settled-law : SettledLaw
settled-law g = (settles g).same

-- ---- where something is to be looked at

stays-at : (g : Greening) (s : GreenStage) → IsSettled g s → settled (record g { stage = s }) ≡ record g { stage = s }
stays-at g AtSeed k = refl
stays-at g (AtInto flipped rest) k = let e = k.1 in rw e refl
stays-at g (AtOut place slot) k = rw k refl

-- a settled walk stays as it is
pub settled-stays : (g : Greening) → IsSettled g g.stage → settled g ≡ g
settled-stays g k = stays-at g g.stage k

pub is-settled : (g : Greening) → settled g ≡ g → IsSettled g g.stage
is-settled g e = subst (λ h. IsSettled h h.stage) e (settles g).settled

-- a test is nothing to whether a walk is settled
still-settled : (g : Greening) (t : Option Test) (s : GreenStage) → IsSettled g s → IsSettled (record g { test = t }) s
still-settled g t AtSeed k = k
still-settled g t (AtInto flipped rest) k = k
still-settled g t (AtOut place slot) k = k

asked-same : (g : Greening) (t : Option Test) (s : GreenStage) → asked_at (record g { test = t }) s ≡ asked_at g s
asked-same g t AtSeed = refl
asked-same g t (AtInto flipped rest) = refl
asked-same g t (AtOut place slot) = refl

-- nor to what a settled walk asks for
pub next-same : (g : Greening) (t : Option Test) → IsSettled g g.stage → next (record g { test = t }) ≡ asked_at g g.stage
next-same g t k = ap (λ h. asked_at h h.stage) (settled-stays (record g { test = t }) (still-settled g t g.stage k)) ∙ asked-same g t g.stage

pub next-settled : (g : Greening) → settled g ≡ g → next g ≡ asked_at g g.stage
next-settled g e = ap (λ h. asked_at h h.stage) e

-- ---- tests

pub testing-law : TestingLaw
testing-law g id k t = (let s = (settles g).same in record { live = s.live; slots = s.slots; limit = s.limit }, next-same (settled g) (Some (record { id = id; slot = 0 })) (settles g).settled, refl)

-- a walk with a test is settled
pub test-settled : (g : Greening) (t : Test) → IsGreening g → g.test ≡ Some t → IsTesting g t
test-settled g t k e = subst (λ o. IfSome o (IsTesting g)) e k.tests

pub tested-law : TestedLaw
tested-law g t k e l =
    let s = (test-settled g t k e).settled in
    let after = ap (λ o. (tested (record g { test = o })).test) e in
    (record { live = refl; slots = refl; limit = refl }, next-same g (tested g).test (is-settled g s) ∙ sym (next-settled g s), after)

testable-at : (g : Greening) (t : Test) (s : GreenStage) → g.test ≡ Some t → IsPlace g s → waits g t.id ≡ true → (s ≡ AtSeed → (ids : List ℕ) × (g.seeds ≡ t.id ∷ ids)) → IsTestable g (asked_at g s) t.id
testable-at g t AtSeed e p w at = let f = at refl in subst (λ xs. IsTestable g (first_seed xs) t.id) (sym f.1) (refl, w)
testable-at g t (AtInto flipped rest) e p w at = let n = p.0 in absurd (cc)
testable-at g t (AtOut place slot) e p w at = w

pub test-law : TestLaw
test-law g t k e =
    let i = test-settled g t k e in
    (subst (λ at. IsTestable g at t.id) (sym (next-settled g i.settled)) (testable-at g t g.stage e k.place i.waits i.at_seed), i.within)

-- ---- answers

-- what an answer leaves
abbrev IsFound : Greening → Greening → Type 0
IsFound g h = IsSameWalk g h × (h.test ≡ None)

found-seed : (g : Greening) (ids : List ℕ) (what : Found) → IsAnswer g (first_seed ids) what → IsFound g (found_at_seed g (first_seed ids) what)
found-seed g [] what a = absurd a
found-seed g (id ∷ ids) Nothing a = (record { live = refl; slots = refl; limit = refl }, refl)
found-seed g (id ∷ ids) Strong a = (record { live = refl; slots = refl; limit = refl }, refl)
found-seed g (id ∷ ids) (Made made) a = (record { live = refl; slots = refl; limit = refl }, refl)

found-out : (g : Greening) (place slot : ℕ) (what : Found) → IsFound g (found_at_out g place slot what)
found-out g place slot Nothing = (record { live = refl; slots = refl; limit = refl }, refl)
found-out g place slot Strong = (record { live = refl; slots = refl; limit = refl }, refl)
found-out g place slot (Made to) = (record { live = refl; slots = refl; limit = refl }, refl)

found-at : (g : Greening) (s : GreenStage) (what : Found) → IsUntested g s → IsAnswer g (asked_at g s) what → IsFound g (found_in g s what)
found-at g AtSeed what u a = found-seed g g.seeds what a
found-at g (AtInto flipped rest) what u a = (record { live = refl; slots = refl; limit = refl }, u)
found-at g (AtOut place slot) what u a = found-out g place slot what

untested-at : (g : Greening) (s : GreenStage) → IsPlace g s → IsUntested g s
untested-at g AtSeed p = tt
untested-at g (AtInto flipped rest) p = p.0
untested-at g (AtOut place slot) p = tt

-- ---- an answer to a walk is one to the settled walk

pub answers-at : (g h : Greening) (at : GreenAt) (what : Found) → ((id : ℕ) → waits h id ≡ waits g id) → IsAnswer g at what → IsAnswer h at what
answers-at g h (Seed id) Nothing e a = a
answers-at g h (Seed id) Strong e a = e id ∙ a
answers-at g h (Seed id) (Made made) e a = (a.0, e id ∙ a.1)
answers-at g h (Into source slot to) Nothing e a = a
answers-at g h (Into source slot to) Strong e a = a
answers-at g h (Into source slot to) (Made made) e a = a
answers-at g h (Out source slot) Nothing e a = a
answers-at g h (Out source slot) Strong e a = a
answers-at g h (Out source slot) (Made to) e a = e to ∙ a
answers-at g h End what e a = a

waits-same : (g h : Greening) → h.live ≡ g.live → h.green ≡ g.green → (id : ℕ) → waits h id ≡ waits g id
waits-same g h e f id = ap (λ live. has live id && not (has h.green id)) e ∙ ap (λ green. has g.live id && not (has green id)) f

pub answers-settled : (g : Greening) (what : Found) → IsAnswer g (next g) what → IsAnswer (settled g) (asked_at (settled g) (settled g).stage) what
answers-settled g what a = let k = settles g in answers-at g (settled g) (next g) what (waits-same g (settled g) k.same.live k.green) a

pub found-law : FoundLaw
found-law g what k a =
    let s = settles g in
    let f = found-at (settled g) (settled g).stage what (s.untested (untested-at g g.stage k.place)) (answers-settled g what a) in
    (same-again g (settled g) (found g what) s.same f.0, f.1)
