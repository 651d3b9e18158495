-- How much work the green walk has left.
use Rattle.std.proofs.Common.{◌≡◌, ℕ, suc, ◌+◌, ◌-◌, ◌*◌, ◌<◌, ◌≤◌, ◌==◌, nat_lt, if◌then◌else◌, Bool, true, false, List, [], ◌∷◌, length, drop, get_or, eqb, Option, Some, None, refl, sym, ap, ◌∙◌, subst, arith, ne_eqb, inl, inr}
use Rattle.std.specs.Prelude.{Contains, IfSome}
use Rattle.std.specs.List.{IsDistinct}
use Rattle.std.proofs.lemmas.Nat.{mul-le}
use Rattle.std.proofs.lemmas.Bool.{eqb-true, ltb-true, ltb-false, le-ltb}
use Rattle.std.proofs.lemmas.Cmp.{nat_eq_equiv}
use Rattle.std.proofs.lemmas.List.{get_or_default}
use Rattle.std.proofs.lemmas.Map.Keys.{IsDistinct-from_apart}
use Rattle.std.proofs.lemmas.Map.Made.{length-le_from_is_member}
use Rattle.std.proofs.lemmas.Map.Views.{Contains-from_any, list_any-from_Contains}
use Rattle.store_model.specs.Sound.{IsOnce}
use Rattle.cell_page.specs.Format.{IsSlotCount}
use Rattle.green_walk.specs.declared.copied_slots.CopiedSlot.{CopiedSlot}
use Rattle.green_walk.specs.declared.green_at.Test.{Test}
use Rattle.green_walk.specs.declared.sweep.Found.{Found}
use Rattle.green_walk.specs.declared.sweep.Found.TheVariants.{Nothing, Made, Strong}
use Rattle.green_walk.specs.Greening.{GreenStage, AtSeed, AtInto, AtOut, Greening, IsGreening, IsTesting, IsAnswer, IsTestable, may_lead_to, first_with, behind_first, walking, settled_out, settled, first_seed, look_into, asked_at, copied_slots, greened, moved, found_at_seed, found_in, tested, started, walk_work, seed_work, test_work, work_at, work_left}
use Rattle.green_walk.specs.GreenLaws.{most_work, StartedWorkLaw, FoundWorkLaw, TestingWorkLaw, TestedWorkLaw}

-- ---- numbers

-- the slots of one object more
one-more : (rows slots : ℕ) → (rows + 1) * slots ≡ rows * slots + slots
one-more rows slots = grind arith

-- a slot of one of the objects is one of all their slots
pub slot-within : (place slot slots objects : ℕ) → place < objects → slot < slots → place * slots + slot < objects * slots
slot-within place slot slots objects p s =
    let m : (place + 1) * slots ≤ objects * slots = mul-le (place + 1) slots objects slots (omega (arith, p)) (omega arith) in
    let e = one-more place slots in
    omega (arith, m, e, s)

-- one look less of those that are left
pub one-less : (all at each : ℕ) → at < all → (all - at) * each ≡ (all - (at + 1)) * each + each
one-less all at each l =
    let n : all - at ≡ (all - (at + 1)) + 1 = omega (arith, l) in
    ap (λ left. left * each) n ∙ one-more (all - (at + 1)) each

pub no-more : (all at each : ℕ) → (all - at) * each ≤ all * each
no-more all at each = mul-le (all - at) each all each (omega arith) (omega arith)

-- the seed in hand and those after it
pub seeds-more : (seeds : List ℕ) (each : ℕ) → 0 < length seeds → length seeds * each ≡ length (drop 1 seeds) * each + each
seeds-more [] each l = absurd (omega (arith, l))
seeds-more (seed ∷ seeds) each l = let e = one-more (length seeds) each in omega (arith, e)

pub some-slots : (slots : ℕ) → IsSlotCount slots → 0 < slots
some-slots slots (inl six) = omega (arith, six)
some-slots slots (inr fourteen) = omega (arith, fourteen)

pub behind-less : (P : CopiedSlot → Bool) (rest : List CopiedSlot) (s : CopiedSlot) → first_with P rest ≡ Some s → length (behind_first P rest) < length rest
behind-less P [] s e = absurd (cc)
behind-less P (x ∷ xs) s e = by (P x) refl (λ f. behind-less P xs s f)
  where
    by : (b : Bool) → P x ≡ b → (first_with P xs ≡ Some s → length (behind_first P xs) < length xs) → length (behind_first P (x ∷ xs)) < length (x ∷ xs)
    by true b less = rw b (omega arith)
    by false b less = rw b (let l = less (rw b at e) in omega (arith, l))

-- an id stands once among others, so there are no more of them
once-distinct : (xs : List ℕ) → IsOnce xs → IsDistinct eqb xs
once-distinct xs once = IsDistinct-from_apart eqb xs (λ i j d less l. ne_eqb (get_or xs i d) (get_or xs j d) (λ e.
    let same : i ≡ j = once i j (omega (arith, less, l)) l (get_or_default xs i 0 d (omega (arith, less, l)) ∙ e ∙ get_or_default xs j d 0 l) in
    omega (arith, same, less)))

pub no-more-once : (xs ys : List ℕ) → IsOnce xs → ((id : ℕ) → Contains xs id → Contains ys id) → length xs ≤ length ys
no-more-once xs ys once among = length-le_from_is_member nat_eq_equiv xs ys (once-distinct xs once) (λ id there. list_any-from_Contains nat_eq_equiv id ys (among id (Contains-from_any eqb-true id xs there)))

-- ---- the test in hand

test-few : (test : Option Test) (slots : ℕ) → IfSome test (λ t. t.slot ≤ slots) → test_work test ≤ slots + 1
test-few None slots few = omega arith
test-few (Some t) slots few = omega (arith, few)

-- ---- where the walk goes on

-- a walk of green objects is at one of their slots
abbrev IsThere : Greening → GreenStage → Type 0
IsThere g AtSeed = Unit {0}
IsThere g (AtInto flipped rest) = Unit {0}
IsThere g (AtOut place slot) = (place < length g.green) × (slot < g.slots)

-- the walk has come to where something is to be looked at, and no more is left than before
record Comes (g h : Greening) : Type 0 where
  live : h.live ≡ g.live
  green : h.green ≡ g.green
  slots : h.slots ≡ g.slots
  tested : test_work h.test ≤ test_work g.test
  there : IsThere h h.stage
  work : work_left h ≤ work_left g

-- a walk whose green objects are all walked has no test in hand
abbrev IsFree : Greening → GreenStage → Type 0
IsFree g AtSeed = Unit {0}
IsFree g (AtInto flipped rest) = Unit {0}
IsFree g (AtOut place slot) = (length g.green ≤ place → test_work g.test ≡ 0) × (slot < g.slots)

comes-out : (g : Greening) (place slot : ℕ) → IsFree g (AtOut place slot) → Comes (record g { stage = AtOut place slot }) (settled_out (record g { stage = AtOut place slot }))
comes-out g place slot f = by (nat_lt place (length g.green)) refl
  where
    by : (b : Bool) → nat_lt place (length g.green) ≡ b → Comes (record g { stage = AtOut place slot }) (settled_out (record g { stage = AtOut place slot }))
    by true e = rw e (record { live = refl; green = refl; slots = refl; tested = omega arith; there = (ltb-true place (length g.green) e, f.1); work = omega arith })
    by false e = rw e (
        let none = f.0 (ltb-false place (length g.green) e) in
        record { live = refl; green = refl; slots = refl; tested = omega arith; there = tt; work = omega (arith, none) })

done-free : (g : Greening) (place slot : ℕ) (test : Option Test) → IfSome test (IsTesting (record g { stage = AtOut place slot })) → length g.green ≤ place → test_work test ≡ 0
done-free g place slot None k l = refl
done-free g place slot (Some t) k l =
    let all : nat_lt place (length g.green) ≡ false = le-ltb place (length g.green) l in
    let same : (settled (record g { stage = AtOut place slot })).stage ≡ AtOut place slot = ap (λ (h : Greening). h.stage) k.settled in
    absurd (let seed : AtSeed ≡ AtOut place slot = rw all at same in cc)

-- what a walk of green objects takes at most
walking-few : (g : Greening) → work_left (walking g) ≤ length (drop 1 g.seeds) * seed_work g + (1 + walk_work g)
walking-few g =
    let few = no-more (length g.live * g.slots) ((if g.changed then 0 else g.walked) * g.slots + 0) (g.slots + 2) in
    omega (arith, few)

comes-into : (g : Greening) (flipped : ℕ) (rest : List CopiedSlot) → 0 < g.slots → Comes (record g { stage = AtInto flipped rest }) (settled (record g { stage = AtInto flipped rest }))
comes-into g flipped rest some = by (first_with (may_lead_to g flipped) rest) refl
  where
    by : (o : Option CopiedSlot) → first_with (may_lead_to g flipped) rest ≡ o → Comes (record g { stage = AtInto flipped rest }) (settled (record g { stage = AtInto flipped rest }))
    by (Some s) e = rw e (record { live = refl; green = refl; slots = refl; tested = omega arith; there = tt; work = omega arith })
    by None e = rw e (
        let c = comes-out (walking g) (if g.changed then 0 else g.walked) 0 ((λ l. refl), some) in
        let few = walking-few g in
        record { live = c.live; green = c.green; slots = c.slots; tested = (let t = c.tested in omega (arith, t)); there = c.there; work = (let w = c.work in omega (arith, w, few)) })

comes-at : (g : Greening) (s : GreenStage) → IsGreening (record g { stage = s }) → Comes (record g { stage = s }) (settled (record g { stage = s }))
comes-at g AtSeed k = record { live = refl; green = refl; slots = refl; tested = omega arith; there = tt; work = omega arith }
comes-at g (AtInto flipped rest) k = comes-into g flipped rest (some-slots g.slots k.slot_count)
comes-at g (AtOut place slot) k = comes-out g place slot (done-free g place slot g.test k.tests, k.place.2)

comes : (g : Greening) → IsGreening g → Comes g (settled g)
comes g k = comes-at g g.stage k

-- ---- answers

-- the test in hand has looked at no more slots than there are
abbrev IsFew : Greening → Type 0
IsFew h = test_work h.test ≤ h.slots + 1

seed-less : (g h : Greening) (seeds : List ℕ) (what : Found) → IsFew h → IsAnswer g (first_seed seeds) what → work_left (found_at_seed (record h { seeds = seeds }) (first_seed seeds) what) < work_at (record h { seeds = seeds }) AtSeed
seed-less g h [] what few a = absurd a
seed-less g h (id ∷ ids) Nothing few a =
    let w = walking-few (record h { seeds = id ∷ ids }) in
    let m = seeds-more (id ∷ ids) (seed_work h) (omega arith) in
    omega (arith, few, w, m)
seed-less g h (id ∷ ids) Strong few a =
    let w = walking-few (greened (record h { seeds = id ∷ ids }) id) in
    let m = seeds-more (id ∷ ids) (seed_work h) (omega arith) in
    omega (arith, few, w, m)
seed-less g h (id ∷ ids) (Made made) few a =
    let m = seeds-more (id ∷ ids) (seed_work h) (omega arith) in
    omega (arith, few, m)

into-less : (g h : Greening) (flipped : ℕ) (rest : List CopiedSlot) (o : Option CopiedSlot) (what : Found) → first_with (may_lead_to h flipped) rest ≡ o → IsAnswer g (look_into flipped o) what → length (behind_first (may_lead_to h flipped) rest) < length rest
into-less g h flipped rest None what e a = absurd a
into-less g h flipped rest (Some s) what e a = behind-less (may_lead_to h flipped) rest s e

moved-less : (h : Greening) (place slot : ℕ) → IsFew h → place < length h.live → slot < h.slots → work_left (moved h place slot) < work_at h (AtOut place slot)
moved-less h place slot few p l = by (slot + 1 == h.slots) refl
  where
    less : (length h.live * h.slots - (place * h.slots + slot)) * (h.slots + 2) ≡ (length h.live * h.slots - (place * h.slots + slot + 1)) * (h.slots + 2) + (h.slots + 2)
    less = one-less (length h.live * h.slots) (place * h.slots + slot) (h.slots + 2) (slot-within place slot h.slots (length h.live) p l)

    by : (last : Bool) → (slot + 1 == h.slots) ≡ last → work_left (moved h place slot) < work_at h (AtOut place slot)
    by true e = rw e (
        let end : slot + 1 ≡ h.slots = eqb-true (slot + 1) h.slots e in
        let next = one-more place h.slots in
        let at : (place + 1) * h.slots + 0 ≡ place * h.slots + slot + 1 = omega (arith, end, next) in
        let same = ap (λ n. (length h.live * h.slots - n) * (h.slots + 2)) at in
        omega (arith, few, less, same))
    by false e = rw e (
        let at : place * h.slots + (slot + 1) ≡ place * h.slots + slot + 1 = omega arith in
        let same = ap (λ n. (length h.live * h.slots - n) * (h.slots + 2)) at in
        omega (arith, few, less, same))

found-less : (g h : Greening) (s : GreenStage) (what : Found) → IsFew h → IsThere h s → length h.green ≤ length h.live → IsAnswer g (asked_at h s) what → work_left (found_in h s what) < work_at h s
found-less g h AtSeed what few there green a = seed-less g h h.seeds what few a
found-less g h (AtInto flipped rest) what few there green a =
    let less = into-less g h flipped rest (first_with (may_lead_to h flipped) rest) what refl a in
    omega (arith, less)
found-less g h (AtOut place slot) Nothing few there green a = moved-less h place slot few (let p = there.0 in omega (arith, p, green)) there.1
found-less g h (AtOut place slot) (Made to) few there green a = moved-less (greened h to) place slot few (let p = there.0 in omega (arith, p, green)) there.1
found-less g h (AtOut place slot) Strong few there green a = absurd a

tests-few : (g : Greening) (test : Option Test) → IfSome test (IsTesting g) → test_work test ≤ g.slots + 1
tests-few g None k = omega arith
tests-few g (Some t) k = let within = k.within in omega (arith, within)

-- where the walk goes on, no more of a test is done than there are slots
comes-few : (g : Greening) → IsGreening g → (c : Comes g (settled g)) → IsFew (settled g)
comes-few g k c =
    let few = tests-few g g.test k.tests in
    let tested = c.tested in
    let slots = c.slots in
    omega (arith, few, tested, slots)

pub found-work : FoundWorkLaw
found-work g what k a =
    let c = comes g k in
    let few = comes-few g k c in
    let green : length g.green ≤ length g.live = no-more-once g.green g.live k.green_ids.once k.green_live in
    let green_now = ap (λ (ids : List ℕ). length ids) c.green in
    let live_now = ap (λ (ids : List ℕ). length ids) c.live in
    let less = found-less g (settled g) (settled g).stage what few c.there (omega (arith, green, green_now, live_now)) a in
    let work = c.work in
    omega (arith, less, work)

-- ---- tests

into-untested : (g : Greening) (flipped : ℕ) (o : Option CopiedSlot) (id : ℕ) → IsTestable g (look_into flipped o) id → ⊥
into-untested g flipped None id a = a
into-untested g flipped (Some s) id a = a

begun-less : (g h : Greening) (s : GreenStage) (seeds : List ℕ) (id : ℕ) → test_work h.test ≡ 0 → IsThere h s → IsTestable g (asked_at (record h { seeds = seeds }) s) id → work_at (record h { seeds = seeds; test = Some (record { id = id; slot = 0 }) }) s < work_at (record h { seeds = seeds }) s
begun-less g h AtSeed [] id none there a = absurd a
begun-less g h AtSeed (seed ∷ seeds) id none there a = let m = seeds-more (seed ∷ seeds) (seed_work h) (omega arith) in omega (arith, none, m)
begun-less g h (AtInto flipped rest) seeds id none there a = absurd (into-untested g flipped (first_with (may_lead_to h flipped) rest) id a)
begun-less g h (AtOut place slot) seeds id none there a = omega (arith, none)

pub testing-work : TestingWorkLaw
testing-work g id k none a =
    let c = comes g k in
    let tested = c.tested in
    let none_now : test_work (settled g).test ≡ 0 = (let e = ap test_work none in omega (arith, tested, e)) in
    let less = begun-less g (settled g) (settled g).stage (settled g).seeds id none_now c.there a in
    let work = c.work in
    omega (arith, less, work)

tested-at : (g : Greening) (s : GreenStage) (t : Test) → IsGreening (record g { stage = s; test = Some t }) → t.slot < g.slots → work_left (tested (record g { stage = s; test = Some t })) < work_left (record g { stage = s; test = Some t })
tested-at g AtSeed t k l =
    let at = k.tests.at_seed refl in
    let some : length g.seeds ≡ suc (length at.0) = ap (λ (ids : List ℕ). length ids) at.1 in
    let m = seeds-more g.seeds (seed_work g) (omega (arith, some)) in
    omega (arith, m, l)
tested-at g (AtInto flipped rest) t k l = absurd (let none = k.place.0 in cc)
tested-at g (AtOut place slot) t k l =
    let c = comes-at (record g { test = Some t }) (AtOut place slot) k in
    let there = subst (λ (h : Greening). IsThere h h.stage) k.tests.settled c.there in
    let green : length g.green ≤ length g.live = no-more-once g.green g.live k.green_ids.once k.green_live in
    let p = there.0 in
    let within = slot-within place slot g.slots (length g.live) (omega (arith, p, green)) there.1 in
    let less = one-less (length g.live * g.slots) (place * g.slots + slot) (g.slots + 2) within in
    omega (arith, less, l)

pub tested-work : TestedWorkLaw
tested-work g t k e l = subst (λ (o : Option Test). IsGreening (record g { test = o }) → work_left (tested (record g { test = o })) < work_left (record g { test = o })) (sym e) (λ k. tested-at g g.stage t k l) k

-- ---- the start

pub started-work : StartedWorkLaw
started-work slots j w k =
    let live : length j.live ≤ w.limit = k.live_ids.most in
    let copied : length (copied_slots w.copies) ≤ w.limit * slots = k.copied_few in
    let looks : length j.live * slots ≤ w.limit * slots = mul-le (length j.live) slots w.limit slots live (omega arith) in
    let walk : (length j.live * slots) * (slots + 2) ≤ (w.limit * slots) * (slots + 2) = mul-le (length j.live * slots) (slots + 2) (w.limit * slots) (slots + 2) looks (omega arith) in
    let each : seed_work (started slots j w) ≤ (slots + 3) + (w.limit * slots + 2) + (w.limit * slots) * (slots + 2) = omega (arith, copied, walk) in
    let all : length j.seeds * seed_work (started slots j w) ≤ most_work slots w.limit = mul-le (length j.seeds) (seed_work (started slots j w)) w.limit ((slots + 3) + (w.limit * slots + 2) + (w.limit * slots) * (slots + 2)) k.seeds_few each in
    omega (arith, all)
