-- Going on to a slot further on.
use Rattle.std.proofs.Common.{◌≡◌, ℕ, ◌+◌, ◌<◌, ◌==◌, false, List, [], ◌∷◌, length, Option, Some, None, refl, sym, ap, ◌∙◌, subst, arith}
use Rattle.std.proofs.lemmas.Bool.{ne_eqb}
use Rattle.green_walk.specs.declared.copied_slots.CopiedSlot.{CopiedSlot}
use Rattle.green_walk.specs.declared.green_at.GreenAt.TheVariants.{Out}
use Rattle.green_walk.specs.declared.green_at.Test.{Test}
use Rattle.green_walk.specs.declared.sweep.Found.TheVariants.{Nothing}
use Rattle.green_walk.specs.Greening.{GreenStage, AtSeed, AtInto, AtOut, Greening, first_seed, first_with, look_into, may_lead_to, asked_at, settled, moved_to, next, found, found_in, walked_at, walked_to, tested, tested_to}
use Rattle.green_walk.specs.GreenLaws.{IsSameWalk, TestedToLaw, WalkedToLaw}
use Rattle.green_walk.proofs.GreenSteps.{IsThere, stays, there, settled-same}

-- ---- a test

tested-next : (g : Greening) (o : Option Test) (t : Test) → o ≡ Some t → tested (record g { test = o }) ≡ tested_to (record g { test = o }) (t.slot + 1)
tested-next g None t e = absurd (cc)
tested-next g (Some s) t e = let same : s ≡ t = cc in rw same refl

tested-twice : (g : Greening) (o : Option Test) (slot other : ℕ) → tested_to (tested_to (record g { test = o }) slot) other ≡ tested_to (record g { test = o }) other
tested-twice g None slot other = refl
tested-twice g (Some s) slot other = refl

pub tested-to-law : TestedToLaw
tested-to-law g t slot other e = (tested-next g g.test t e, tested-twice g g.test slot other, record { live = refl; slots = refl; limit = refl })

-- ---- a walk of green objects

no-seed : (ids : List ℕ) («from» at : ℕ) → first_seed ids ≡ Out «from» at → ⊥
no-seed [] «from» at e = absurd (cc)
no-seed (id ∷ ids) «from» at e = absurd (cc)

no-into : (flipped : ℕ) (o : Option CopiedSlot) («from» at : ℕ) → look_into flipped o ≡ Out «from» at → ⊥
no-into flipped None «from» at e = absurd (cc)
no-into flipped (Some s) «from» at e = absurd (cc)

-- a walk that asks for a slot of a green object is at that slot
is-out : (h : Greening) (st : GreenStage) («from» at : ℕ) → IsThere h st → asked_at h st ≡ Out «from» at → (place : ℕ) × (st ≡ AtOut place at) × (place < length h.green)
is-out h AtSeed «from» at t e = absurd (no-seed h.seeds «from» at e)
is-out h (AtInto flipped rest) «from» at t e = absurd (no-into flipped (first_with (may_lead_to h flipped) rest) «from» at e)
is-out h (AtOut place slot) «from» at t e = let same : slot ≡ at = cc in (place, rw same refl, t)

moved-walk : (h : Greening) (place slot : ℕ) → slot < h.slots → moved_to h place slot ≡ record h { stage = AtOut place slot; test = None }
moved-walk h place slot l = let other : (slot == h.slots) ≡ false = ne_eqb slot h.slots (λ e. absurd (omega (arith, l, e))) in rw other refl

pub walked-to-law : WalkedToLaw
walked-to-law g «from» at slot other e =
    let h = settled g in
    let s = settled-same g in
    let o = is-out h h.stage «from» at (there g) e in
    let place = o.0 in
    let first : found g Nothing ≡ moved_to h place (at + 1) = ap (λ st. found_in h st Nothing) o.1 in
    let goes : (n : ℕ) → walked_to g n ≡ moved_to h place n = λ n. ap (λ st. walked_at h st n) o.1 in
    let middle : Greening = record h { stage = AtOut place slot; test = None } in
    let again : walked_to middle other ≡ moved_to middle place other = ap (λ (k : Greening). walked_at k k.stage other) (stays middle o.2) in (
      first ∙ sym (goes (at + 1)),
      λ l. ap (λ (k : Greening). walked_to k other) (goes slot ∙ moved-walk h place slot (rw s.slots l)) ∙ (again ∙ sym (goes other)),
      subst (λ (k : Greening). IsSameWalk g k) (sym (goes slot)) (record { live = s.live; slots = s.slots; limit = s.limit }),
    )
