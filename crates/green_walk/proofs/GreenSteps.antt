-- What holds of every green walk holds after each of its changes.
use Rattle.std.proofs.Common.{◌≡◌, ℕ, ◌+◌, ◌<◌, ◌≤◌, ◌==◌, nat_lt, if◌then◌else◌, slice_index_or, Bool, true, false, not, ◌&&◌, List, [], ◌∷◌, ◌++◌, length, Option, Some, None, refl, sym, ap, ◌∙◌, subst, arith, ⊎_elim, true≢false}
use Rattle.std.specs.Prelude.{Contains, IfSome}
use Rattle.std.proofs.lemmas.List.{get_or_default, length_push, length-drop}
use Rattle.std.proofs.lemmas.List.Elements.{Contains-append_left, Contains-push, Contains-push_cases}
use Rattle.std.proofs.lemmas.Bool.Decides.{nat_tests}
use Rattle.store_model.proofs.Lists.{Contains-later}
use Rattle.store_model.proofs.OnceLaws.{once-push}
use Rattle.red_walk.specs.Ids.{IsIdList}
use Rattle.ref_tables.specs.Queue.{has}
use Rattle.red_walk.proofs.Members.{Contains-has, has-Contains}
use Rattle.red_walk.proofs.IdLaws.{most-of, at_push}
use Rattle.green_walk.specs.declared.copied_slots.CopiedSlot.{CopiedSlot}
use Rattle.green_walk.specs.declared.green_at.GreenAt.{GreenAt}
use Rattle.green_walk.specs.declared.green_at.GreenAt.TheVariants.{Seed, Into, Out, End}
use Rattle.green_walk.specs.declared.green_at.Test.{Test}
use Rattle.green_walk.specs.declared.sweep.Found.{Found}
use Rattle.green_walk.specs.declared.sweep.Found.TheVariants.{Nothing, Made, Strong}
use Rattle.green_walk.specs.Greening.{GreenStage, AtSeed, AtInto, AtOut, Greening, IsGreening, IsPlace, IsTesting, IsAnswer, waits, may_lead_to, first_with, behind_first, walking, seed_done, settled_into, settled_out, settled, greened, moved, moved_to, first_seed, asked_at, next, found_at_seed, found_in}
use Rattle.green_walk.specs.GreenLaws.{SettledGreeningLaw, FoundGreeningLaw}
use Rattle.green_walk.proofs.GreenAsked.{some-slots, Contains-drop}

-- ---- what waits

both : (a b : Bool) → (a && not b) ≡ true → (a ≡ true) × (b ≡ false)
both true true e = absurd (cc)
both true false e = (refl, refl)
both false b e = absurd (cc)

-- what waits lives, and isn't green
pub waits-parts : (g : Greening) (id : ℕ) → waits g id ≡ true → (has g.live id ≡ true) × (has g.green id ≡ false)
waits-parts g id e = both (has g.live id) (has g.green id) e

-- an id of a list is within its limits
pub id-within : (xs : List ℕ) (limit id : ℕ) → IsIdList xs limit → Contains xs id → (1 ≤ id) × (id ≤ limit)
id-within xs limit id k (n, l, e) = subst (λ x. (1 ≤ x) × (x ≤ limit)) (get_or_default xs n 0 id l ∙ e) (k.within n l)

-- a list with an id more
pub listed-more : (xs : List ℕ) (limit id : ℕ) → IsIdList xs limit → 1 ≤ id → id ≤ limit → has xs id ≡ false → IsIdList (xs ++ id ∷ []) limit
listed-more xs limit id k above below new =
    let within = at_push (λ place x. (1 ≤ x) × (x ≤ limit)) xs id k.within (above, below) in
    let once = once-push xs id k.once (λ m. true≢false (sym (has-Contains xs id m) ∙ new)) in
    record { within = within; once = once; most = most-of (xs ++ id ∷ []) limit once within }

-- ---- where something is to be looked at

-- there is something where the walk stands
abbrev pub IsThere : Greening → GreenStage → Type 0
IsThere g AtSeed = Unit {0}
IsThere g (AtInto flipped rest) = (s : CopiedSlot) × (first_with (may_lead_to g flipped) rest ≡ Some s)
IsThere g (AtOut place slot) = place < length g.green

-- no slot is left that may lead to the flipped object
pub into-none : (g : Greening) (flipped : ℕ) (rest : List CopiedSlot) → first_with (may_lead_to g flipped) rest ≡ None → settled_into (record g { stage = AtInto flipped rest }) ≡ walking g
into-none g flipped rest e = rw e

pub into-some : (g : Greening) (flipped : ℕ) (rest : List CopiedSlot) (s : CopiedSlot) → first_with (may_lead_to g flipped) rest ≡ Some s → settled_into (record g { stage = AtInto flipped rest }) ≡ record g { stage = AtInto flipped rest }
into-some g flipped rest s e = rw e

pub out-there : (g : Greening) (place slot : ℕ) → place < length g.green → settled_out (record g { stage = AtOut place slot }) ≡ record g { stage = AtOut place slot }
out-there g place slot l = let e : nat_lt place (length g.green) ≡ true = grind (arith, nat_tests, l) in rw e

pub out-done : (g : Greening) (place slot : ℕ) → nat_lt place (length g.green) ≡ false → settled_out (record g { stage = AtOut place slot }) ≡ seed_done g
out-done g place slot e = rw e

-- a walk where something is to be looked at stays there
stays-at : (g : Greening) (st : GreenStage) → IsThere g st → settled (record g { stage = st }) ≡ record g { stage = st }
stays-at g AtSeed t = refl
stays-at g (AtInto flipped rest) t = ap settled_out (into-some g flipped rest t.0 t.1)
stays-at g (AtOut place slot) l = out-there g place slot l

pub stays : (g : Greening) → IsThere g g.stage → settled g ≡ g
stays g t = stays-at g g.stage t

pub start-few : (changed : Bool) (walked n : ℕ) → walked ≤ n → (if changed then 0 else walked) ≤ n
start-few true walked n l = omega arith
start-few false walked n l = l

-- the settled walk is at something
there-out : (g : Greening) (place slot : ℕ) → IsThere (settled_out (record g { stage = AtOut place slot })) (settled_out (record g { stage = AtOut place slot })).stage
there-out g place slot = by (nat_lt place (length g.green)) refl
  where
    by : (b : Bool) → nat_lt place (length g.green) ≡ b → IsThere (settled_out (record g { stage = AtOut place slot })) (settled_out (record g { stage = AtOut place slot })).stage
    by true e = subst (λ (h : Greening). IsThere h h.stage) (sym (out-there g place slot (grind (arith, nat_tests, e)))) (grind (arith, nat_tests, e))
    by false e = subst (λ (h : Greening). IsThere h h.stage) (sym (out-done g place slot e)) tt

there-at : (g : Greening) (st : GreenStage) → IsThere (settled (record g { stage = st })) (settled (record g { stage = st })).stage
there-at g AtSeed = tt
there-at g (AtInto flipped rest) = by (first_with (may_lead_to g flipped) rest) refl
  where
    by : (o : Option CopiedSlot) → first_with (may_lead_to g flipped) rest ≡ o → IsThere (settled (record g { stage = AtInto flipped rest })) (settled (record g { stage = AtInto flipped rest })).stage
    by None e = subst (λ (h : Greening). IsThere (settled_out h) (settled_out h).stage) (sym (into-none g flipped rest e)) (there-out (record g { test = None; changed = false }) (if g.changed then 0 else g.walked) 0)
    by (Some s) e = subst (λ (h : Greening). IsThere (settled_out h) (settled_out h).stage) (sym (into-some g flipped rest s e)) (s, e)
there-at g (AtOut place slot) = there-out g place slot

pub there : (g : Greening) → IsThere (settled g) (settled g).stage
there g = there-at g g.stage

-- ---- what the settled walk keeps

-- it is the same but for where it stands
pub record IsSettled (g h : Greening) : Type 0 where
  pub live : h.live ≡ g.live
  pub green : h.green ≡ g.green
  pub slots : h.slots ≡ g.slots
  pub limit : h.limit ≡ g.limit

settled-out-same : (g : Greening) (st : GreenStage) → IsSettled g (settled_out (record g { stage = st }))
settled-out-same g AtSeed = record { live = refl; green = refl; slots = refl; limit = refl }
settled-out-same g (AtInto flipped rest) = record { live = refl; green = refl; slots = refl; limit = refl }
settled-out-same g (AtOut place slot) = by (nat_lt place (length g.green)) refl
  where
    by : (b : Bool) → nat_lt place (length g.green) ≡ b → IsSettled g (settled_out (record g { stage = AtOut place slot }))
    by true e = subst (λ (h : Greening). IsSettled g h) (sym (out-there g place slot (grind (arith, nat_tests, e)))) (record { live = refl; green = refl; slots = refl; limit = refl })
    by false e = subst (λ (h : Greening). IsSettled g h) (sym (out-done g place slot e)) (record { live = refl; green = refl; slots = refl; limit = refl })

settled-same-at : (g : Greening) (st : GreenStage) → IsSettled g (settled (record g { stage = st }))
settled-same-at g AtSeed = record { live = refl; green = refl; slots = refl; limit = refl }
settled-same-at g (AtInto flipped rest) = by (first_with (may_lead_to g flipped) rest) refl
  where
    by : (o : Option CopiedSlot) → first_with (may_lead_to g flipped) rest ≡ o → IsSettled g (settled (record g { stage = AtInto flipped rest }))
    by None e = subst (λ (h : Greening). IsSettled g (settled_out h)) (sym (into-none g flipped rest e)) (
        let k = settled-out-same (record g { test = None; changed = false }) (AtOut (if g.changed then 0 else g.walked) 0) in
        record { live = k.live; green = k.green; slots = k.slots; limit = k.limit })
    by (Some s) e = subst (λ (h : Greening). IsSettled g (settled_out h)) (sym (into-some g flipped rest s e)) (record { live = refl; green = refl; slots = refl; limit = refl })
settled-same-at g (AtOut place slot) = settled-out-same g (AtOut place slot)

pub settled-same : (g : Greening) → IsSettled g (settled g)
settled-same g = settled-same-at g g.stage

pub settled-waits : (g : Greening) (id : ℕ) → waits (settled g) id ≡ waits g id
settled-waits g id = let k = settled-same g in ap (λ live. has live id && not (has (settled g).green id)) k.live ∙ ap (λ green. has g.live id && not (has green id)) k.green

-- ---- the walk settles

-- a walk of the green objects begins
pub walking-greening : (g : Greening) → IsGreening g → 0 < length g.seeds → IsGreening (walking g)
walking-greening g k some = record {
  slot_count = k.slot_count;
  live_ids = k.live_ids;
  green_ids = k.green_ids;
  green_live = k.green_live;
  seeds_live = k.seeds_live;
  seeds_few = k.seeds_few;
  walked_few = k.walked_few;
  copied_few = k.copied_few;
  copied_within = k.copied_within;
  place = (some, start-few g.changed g.walked (length g.green) k.walked_few, some-slots g.slots k.slot_count);
  tests = tt;
}

pub seed-done-greening : (g : Greening) → IsGreening g → g.test ≡ None → IsGreening (seed_done g)
seed-done-greening g k none = record {
  slot_count = k.slot_count;
  live_ids = k.live_ids;
  green_ids = k.green_ids;
  green_live = k.green_live;
  seeds_live = λ id m. k.seeds_live id (Contains-drop 1 g.seeds id m);
  seeds_few = omega (arith, length-drop 1 g.seeds, k.seeds_few);
  walked_few = omega arith;
  copied_few = k.copied_few;
  copied_within = k.copied_within;
  place = tt;
  tests = subst (λ t. IfSome t (IsTesting (seed_done g))) (sym none) tt;
}

-- where the walk of green objects is at its end, no test is in hand
pub untested-out : (g : Greening) (place slot : ℕ) (o : Option Test) → nat_lt place (length g.green) ≡ false → IfSome o (IsTesting (record g { stage = AtOut place slot })) → o ≡ None
untested-out g place slot None e k = refl
untested-out g place slot (Some t) e k =
    let same : AtSeed ≡ AtOut place slot = ap (λ (h : Greening). h.stage) (sym (out-done g place slot e) ∙ k.settled) in
    absurd (cc)

settled-out-greening : (g : Greening) (st : GreenStage) → IsGreening (record g { stage = st }) → IsGreening (settled_out (record g { stage = st }))
settled-out-greening g AtSeed k = k
settled-out-greening g (AtInto flipped rest) k = k
settled-out-greening g (AtOut place slot) k = by (nat_lt place (length g.green)) refl
  where
    by : (b : Bool) → nat_lt place (length g.green) ≡ b → IsGreening (settled_out (record g { stage = AtOut place slot }))
    by true e = subst IsGreening (sym (out-there g place slot (grind (arith, nat_tests, e)))) k
    by false e = subst IsGreening (sym (out-done g place slot e)) (seed-done-greening (record g { stage = AtOut place slot }) k (untested-out g place slot g.test e k.tests))

settled-greening-at : (g : Greening) (st : GreenStage) → IsGreening (record g { stage = st }) → IsGreening (settled (record g { stage = st }))
settled-greening-at g AtSeed k = k
settled-greening-at g (AtInto flipped rest) k = by (first_with (may_lead_to g flipped) rest) refl
  where
    by : (o : Option CopiedSlot) → first_with (may_lead_to g flipped) rest ≡ o → IsGreening (settled (record g { stage = AtInto flipped rest }))
    by None e = subst (λ (h : Greening). IsGreening (settled_out h)) (sym (into-none g flipped rest e))
        (settled-out-greening (record g { test = None; changed = false }) (AtOut (if g.changed then 0 else g.walked) 0) (walking-greening (record g { stage = AtInto flipped rest }) k k.place.1))
    by (Some s) e = subst (λ (h : Greening). IsGreening (settled_out h)) (sym (into-some g flipped rest s e)) k
settled-greening-at g (AtOut place slot) k = settled-out-greening g (AtOut place slot) k

pub settled-greening : SettledGreeningLaw
settled-greening g k = settled-greening-at g g.stage k

-- ---- a test is let go, and an object becomes green

place-untested : (g : Greening) (st : GreenStage) → IsPlace g st → IsPlace (record g { test = None }) st
place-untested g AtSeed k = tt
place-untested g (AtInto flipped rest) k = (refl, k.1, k.2, k.3, k.4)
place-untested g (AtOut place slot) k = k

pub untested : (g : Greening) → IsGreening g → IsGreening (record g { test = None })
untested g k = record {
  slot_count = k.slot_count;
  live_ids = k.live_ids;
  green_ids = k.green_ids;
  green_live = k.green_live;
  seeds_live = k.seeds_live;
  seeds_few = k.seeds_few;
  walked_few = k.walked_few;
  copied_few = k.copied_few;
  copied_within = k.copied_within;
  place = place-untested g g.stage k.place;
  tests = tt;
}

place-greened : (g : Greening) (id : ℕ) (st : GreenStage) → IsPlace g st → IsPlace (greened g id) st
place-greened g id AtSeed k = tt
place-greened g id (AtInto flipped rest) k = (k.0, k.1, Contains-append_left g.green (id ∷ []) flipped k.2, k.3, k.4)
place-greened g id (AtOut place slot) k = (k.0, (let n = length_push g.green id in let few = k.1 in omega (arith, n, few)), k.2)

-- an object that waits becomes green, with no test in hand
pub greened-greening : (g : Greening) (id : ℕ) → IsGreening g → waits g id ≡ true → IsGreening (greened (record g { test = None }) id)
greened-greening g id k w =
    let parts = waits-parts g id w in
    let lives = Contains-has g.live id parts.0 in
    let within = id-within g.live g.limit id k.live_ids lives in
    record {
      slot_count = k.slot_count;
      live_ids = k.live_ids;
      green_ids = listed-more g.green g.limit id k.green_ids within.0 within.1 parts.1;
      green_live = λ x m. ⊎_elim (λ h. k.green_live x h) (λ (e : id ≡ x). subst (λ y. Contains g.live y) e lives) (Contains-push_cases g.green id x m);
      seeds_live = k.seeds_live;
      seeds_few = k.seeds_few;
      walked_few = (let n = length_push g.green id in omega (arith, n, k.walked_few));
      copied_few = k.copied_few;
      copied_within = k.copied_within;
      place = place-greened (record g { test = None }) id g.stage (place-untested g g.stage k.place);
      tests = tt;
    }

-- ---- the walk goes on

-- the looks at the slots that may lead to the flipped object begin
into-greening : (g : Greening) (id : ℕ) → IsGreening g → 0 < length g.seeds → Contains g.green id → IsGreening (record g { stage = AtInto id g.copied; test = None })
into-greening g id k some member = record {
  slot_count = k.slot_count;
  live_ids = k.live_ids;
  green_ids = k.green_ids;
  green_live = k.green_live;
  seeds_live = k.seeds_live;
  seeds_few = k.seeds_few;
  walked_few = k.walked_few;
  copied_few = k.copied_few;
  copied_within = k.copied_within;
  place = (refl, some, member, λ s m. m, omega arith);
  tests = tt;
}

behind-among : (P : CopiedSlot → Bool) (xs : List CopiedSlot) (s : CopiedSlot) → Contains (behind_first P xs) s → Contains xs s
behind-among P [] s m = m
behind-among P (x ∷ xs) s m = by (P x) m (λ n. behind-among P xs s n)
  where
    by : (b : Bool) → Contains (if b then xs else behind_first P xs) s → (Contains (behind_first P xs) s → Contains xs s) → Contains (x ∷ xs) s
    by true n h = Contains-later x xs s n
    by false n h = Contains-later x xs s (h n)

behind-few : (P : CopiedSlot → Bool) (xs : List CopiedSlot) → length (behind_first P xs) ≤ length xs
behind-few P [] = omega arith
behind-few P (x ∷ xs) = by (P x) (behind-few P xs)
  where
    by : (b : Bool) → length (behind_first P xs) ≤ length xs → length (if b then xs else behind_first P xs) ≤ length (x ∷ xs)
    by true less = omega arith
    by false less = omega (arith, less)

-- the first slot that may lead to the flipped object was looked at
behind-greening : (g : Greening) (flipped : ℕ) (rest : List CopiedSlot) → IsGreening (record g { stage = AtInto flipped rest }) → IsGreening (record g { stage = AtInto flipped (behind_first (may_lead_to g flipped) rest) })
behind-greening g flipped rest k = record {
  slot_count = k.slot_count;
  live_ids = k.live_ids;
  green_ids = k.green_ids;
  green_live = k.green_live;
  seeds_live = k.seeds_live;
  seeds_few = k.seeds_few;
  walked_few = k.walked_few;
  copied_few = k.copied_few;
  copied_within = k.copied_within;
  place = (k.place.0, k.place.1, k.place.2, λ s m. k.place.3 s (behind-among (may_lead_to g flipped) rest s m), (let less = behind-few (may_lead_to g flipped) rest in let few = k.place.4 in omega (arith, less, few)));
  tests = subst (λ t. IfSome t (IsTesting (record g { stage = AtInto flipped (behind_first (may_lead_to g flipped) rest) }))) (sym k.place.0) tt;
}

place-moved-to : (g : Greening) (place slot : ℕ) → IsGreening g → 0 < length g.seeds → place < length g.green → slot ≤ g.slots → IsPlace (moved_to g place slot) (moved_to g place slot).stage
place-moved-to g place slot k some l within = by (slot == g.slots) refl
  where
    by : (last : Bool) → (slot == g.slots) ≡ last → IsPlace (moved_to g place slot) (moved_to g place slot).stage
    by true e = rw e (some, omega (arith, l), some-slots g.slots k.slot_count)
    by false e = rw e (some, omega (arith, l), grind (arith, nat_tests, e, within))

-- the walk goes on to a slot of a green object, or to the next object
pub moved-to-greening : (g : Greening) (place slot : ℕ) → IsGreening g → 0 < length g.seeds → place < length g.green → slot ≤ g.slots → IsGreening (moved_to g place slot)
moved-to-greening g place slot k some l within = record {
  slot_count = k.slot_count;
  live_ids = k.live_ids;
  green_ids = k.green_ids;
  green_live = k.green_live;
  seeds_live = k.seeds_live;
  seeds_few = k.seeds_few;
  walked_few = k.walked_few;
  copied_few = k.copied_few;
  copied_within = k.copied_within;
  place = place-moved-to g place slot k some l within;
  tests = tt;
}

-- a slot of a green object was looked at
pub moved-greening : (g : Greening) (place slot : ℕ) → IsGreening g → 0 < length g.seeds → place < length g.green → slot < g.slots → IsGreening (moved g place slot)
moved-greening g place slot k some l within = moved-to-greening g place (slot + 1) k some l (omega (arith, within))

-- ---- answers

found-seed-greening : (g : Greening) (what : Found) (seeds : List ℕ) → g.seeds ≡ seeds → IsGreening g → IsAnswer g (first_seed seeds) what → IsGreening (found_at_seed g (first_seed seeds) what)
found-seed-greening g what [] e k a = absurd a
found-seed-greening g Nothing (id ∷ ids) e k a = walking-greening g k (let n : length g.seeds ≡ length (id ∷ ids) = ap length e in omega (arith, n))
found-seed-greening g Strong (id ∷ ids) e k a = walking-greening (greened (record g { test = None }) id) (greened-greening g id k a) (let n : length g.seeds ≡ length (id ∷ ids) = ap length e in omega (arith, n))
found-seed-greening g (Made made) (id ∷ ids) e k a = into-greening (greened (record g { test = None }) id) id (greened-greening g id k a.1) (let n : length g.seeds ≡ length (id ∷ ids) = ap length e in omega (arith, n)) (Contains-push g.green id)

found-out-greening : (g : Greening) (place slot id : ℕ) (what : Found) → IsGreening (record g { stage = AtOut place slot }) → place < length g.green → IsAnswer g (Out id slot) what → IsGreening (found_in (record g { stage = AtOut place slot }) (AtOut place slot) what)
found-out-greening g place slot id Nothing k l a = moved-greening (record g { stage = AtOut place slot }) place slot k k.place.0 l k.place.2
found-out-greening g place slot id Strong k l a = absurd a
found-out-greening g place slot id (Made to) k l a =
    moved-greening (greened (record g { stage = AtOut place slot; test = None }) to) place slot (greened-greening (record g { stage = AtOut place slot }) to k a) k.place.0 (let n = length_push g.green to in omega (arith, n, l)) k.place.2

found-in-greening : (g : Greening) (st : GreenStage) (what : Found) → IsGreening (record g { stage = st }) → IsThere g st → IsAnswer g (asked_at g st) what → IsGreening (found_in (record g { stage = st }) st what)
found-in-greening g AtSeed what k t a = found-seed-greening (record g { stage = AtSeed }) what g.seeds refl k a
found-in-greening g (AtInto flipped rest) what k t a = behind-greening g flipped rest k
found-in-greening g (AtOut place slot) what k l a = found-out-greening g place slot (slice_index_or g.green place 0) what k l a

-- what may be answered depends on what waits
pub answer-same : (g h : Greening) → ((id : ℕ) → waits g id ≡ true → waits h id ≡ true) → (at : GreenAt) (what : Found) → IsAnswer g at what → IsAnswer h at what
answer-same g h w (Seed id) Nothing a = tt
answer-same g h w (Seed id) Strong a = w id a
answer-same g h w (Seed id) (Made made) a = (a.0, w id a.1)
answer-same g h w (Into x slot to) Nothing a = tt
answer-same g h w (Into x slot to) (Made made) a = a
answer-same g h w (Into x slot to) Strong a = absurd a
answer-same g h w (Out x slot) Nothing a = tt
answer-same g h w (Out x slot) (Made to) a = w to a
answer-same g h w (Out x slot) Strong a = absurd a
answer-same g h w End what a = absurd a

pub found-greening : FoundGreeningLaw
found-greening g what k a =
    found-in-greening (settled g) (settled g).stage what (settled-greening g k) (there g)
    (answer-same g (settled g) (λ id w. settled-waits g id ∙ w) (next g) what a)
