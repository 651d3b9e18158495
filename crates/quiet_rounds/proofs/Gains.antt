-- What a green walk gains at each event and look: the pointers that were looked at, and the objects that became green.
use Rattle.std.proofs.Common.{◌≡◌, ℕ, ◌+◌, ◌≤◌, ◌==◌, nat_lt, if◌then◌else◌, Bool, true, false, not, ◌&&◌, ◌||◌, List, [], ◌∷◌, ◌++◌, length, Option, Some, None, refl, sym, ap, ◌∙◌, subst, arith, true≢false}
use Rattle.std.specs.Prelude.{Contains}
use Rattle.std.proofs.lemmas.List.{length_push}
use Rattle.std.proofs.lemmas.List.Elements.{Contains-append_left, Contains-push}
use Rattle.std.proofs.lemmas.Bool.Decides.{nat_tests}
use Rattle.std.proofs.lemmas.Bool.{eqb-true, and_parts, and_from, and_right}
use Rattle.ref_tables.specs.Queue.{has}
use Rattle.red_walk.proofs.Members.{Contains-has, has-Contains}
use Rattle.green_walk.specs.declared.copied_slots.CopiedSlot.{CopiedSlot}
use Rattle.green_walk.specs.declared.sweep.Found.TheVariants.{Nothing, Made, Strong}
use Rattle.green_walk.specs.Greening.{GreenStage, AtSeed, AtInto, AtOut, Greening, waits, may_lead_to, first_with, behind_first, walking, settled_out, settled, greened, moved, first_seed, found_at_seed, found_in, found, testing, tested}
use Rattle.green_walk.proofs.GreenSteps.{waits-parts, into-none, into-some, out-there, out-done}
use Rattle.core_store.proofs.GreenAt.{IsAtFlip, IsAtInto, IsAtStrengthen}

-- ---- how many slots have a property

-- 1 where it is true, else 0
abbrev pub one_if : Bool → ℕ
one_if true = 1
one_if false = 0

-- how many of the slots have the property
abbrev pub count : (CopiedSlot → Bool) → List CopiedSlot → ℕ
count P [] = 0
count P (s ∷ rest) = one_if (P s) + count P rest

one-most : (b : Bool) → one_if b ≤ 1
one-most true = omega arith
one-most false = omega arith

one-more : (a b : Bool) → (a ≡ true → b ≡ true) → one_if a ≤ one_if b
one-more true true f = omega arith
one-more true false f = absurd (true≢false (sym (f refl)))
one-more false b f = omega arith

-- a wider property has more
count-more : (P Q : CopiedSlot → Bool) (xs : List CopiedSlot) → ((s : CopiedSlot) → P s ≡ true → Q s ≡ true) → count P xs ≤ count Q xs
count-more P Q [] f = omega arith
count-more P Q (s ∷ rest) f = let one = one-more (P s) (Q s) (f s) in let more = count-more P Q rest f in omega (arith, one, more)

one-both : (a b e : Bool) → (a ≡ true → b ≡ true) → (e ≡ true → b ≡ true) → (e ≡ true → a ≡ false) → one_if a + one_if e ≤ one_if b
one-both true b true f g h = absurd (true≢false (h refl))
one-both true true false f g h = omega arith
one-both true false false f g h = absurd (true≢false (sym (f refl)))
one-both false true e f g h = let one = one-most e in omega (arith, one)
one-both false false true f g h = absurd (true≢false (sym (g refl)))
one-both false false false f g h = omega arith

-- one that has two properties apart has those of both
count-both : (P Q R : CopiedSlot → Bool) (xs : List CopiedSlot) → ((s : CopiedSlot) → P s ≡ true → R s ≡ true) → ((s : CopiedSlot) → Q s ≡ true → R s ≡ true) → ((s : CopiedSlot) → Q s ≡ true → P s ≡ false) → count P xs + count Q xs ≤ count R xs
count-both P Q R [] f g h = omega arith
count-both P Q R (s ∷ rest) f g h = let one = one-both (P s) (R s) (Q s) (f s) (g s) (h s) in let more = count-both P Q R rest f g h in omega (arith, one, more)

-- after the first one there are no more
count-behind : (P Q : CopiedSlot → Bool) (xs : List CopiedSlot) → count Q (behind_first P xs) ≤ count Q xs
count-behind P Q [] = omega arith
count-behind P Q (s ∷ rest) = by (P s) (count-behind P Q rest)
  where
    by : (b : Bool) → count Q (behind_first P rest) ≤ count Q rest → count Q (if b then rest else behind_first P rest) ≤ count Q (s ∷ rest)
    by true less = omega arith
    by false less = omega (arith, less)

-- and where it has the property itself, there is one less
count-first : (P Q : CopiedSlot → Bool) (xs : List CopiedSlot) (first : CopiedSlot) → ((s : CopiedSlot) → P s ≡ true → Q s ≡ true) → first_with P xs ≡ Some first → count Q (behind_first P xs) + 1 ≤ count Q xs
count-first P Q [] first f e = absurd (cc)
count-first P Q (s ∷ rest) first f e = by (P s) refl e (λ k. count-first P Q rest first f k)
  where
    by : (b : Bool) → P s ≡ b → (if b then Some s else first_with P rest) ≡ Some first → (first_with P rest ≡ Some first → count Q (behind_first P rest) + 1 ≤ count Q rest)
        → count Q (if b then rest else behind_first P rest) + 1 ≤ count Q (s ∷ rest)
    by true p k less = let one : one_if (Q s) ≡ 1 = ap one_if (f s p) in omega (arith, one)
    by false p k less = let more = less k in omega (arith, more)

-- ---- the score

-- how many slots of these objects are still to be looked at for the flipped object
abbrev pub rest_count : List ℕ → GreenStage → ℕ
rest_count live (AtInto flipped rest) = count (λ s. has live s.id && (s.target == flipped)) rest
rest_count live AtSeed = 0
rest_count live (AtOut place slot) = 0

-- how many copied slots of the objects that live lead to the green ones
abbrev pub leading : List ℕ → List ℕ → List CopiedSlot → ℕ
leading live green copied = count (λ s. has live s.id && has green s.target) copied

-- how many copied slots the objects that live have
abbrev pub live_slots : Greening → ℕ
live_slots g = count (λ s. has g.live s.id) g.copied

abbrev pub score : Greening → ℕ
score g = length g.green + leading g.live g.green g.copied

-- no more of them lead to the green ones than there are
pub leading-most : (live green : List ℕ) (copied : List CopiedSlot) → leading live green copied ≤ count (λ s. has live s.id) copied
leading-most live green copied = count-more (λ s. has live s.id && has green s.target) (λ s. has live s.id) copied (λ s e. (and_parts (has live s.id) (has green s.target) e).0)

-- so many events raise the score
pub record Gains (n : ℕ) (g h : Greening) : Type 0 where
  pub live : h.live ≡ g.live
  pub copied : h.copied ≡ g.copied
  pub gain : rest_count h.live h.stage + n + score g ≤ rest_count g.live g.stage + score h

pub gains-on : {n : ℕ} {g h k : Greening} → Gains 0 g h → Gains n h k → Gains n g k
gains-on a b = record { live = b.live ∙ a.live; copied = b.copied ∙ a.copied; gain = (let x = a.gain in let y = b.gain in omega (arith, x, y)) }

pub gains-none : (g : Greening) → Gains 0 g g
gains-none g = record { live = refl; copied = refl; gain = omega arith }

-- ---- where something is to be looked at

settled-out-gains : (g : Greening) (st : GreenStage) → Gains 0 (record g { stage = st }) (settled_out (record g { stage = st }))
settled-out-gains g AtSeed = gains-none (record g { stage = AtSeed })
settled-out-gains g (AtInto flipped rest) = gains-none (record g { stage = AtInto flipped rest })
settled-out-gains g (AtOut place slot) = by (nat_lt place (length g.green)) refl
  where
    by : (b : Bool) → nat_lt place (length g.green) ≡ b → Gains 0 (record g { stage = AtOut place slot }) (settled_out (record g { stage = AtOut place slot }))
    by true e = subst (Gains 0 (record g { stage = AtOut place slot })) (sym (out-there g place slot (grind (arith, nat_tests, e)))) (gains-none (record g { stage = AtOut place slot }))
    by false e = subst (Gains 0 (record g { stage = AtOut place slot })) (sym (out-done g place slot e)) (record { live = refl; copied = refl; gain = omega arith })

settled-gains-at : (g : Greening) (st : GreenStage) → Gains 0 (record g { stage = st }) (settled (record g { stage = st }))
settled-gains-at g AtSeed = gains-none (record g { stage = AtSeed })
settled-gains-at g (AtInto flipped rest) = by (first_with (may_lead_to g flipped) rest) refl
  where
    walks : Gains 0 (record g { stage = AtInto flipped rest }) (walking g)
    walks = record { live = refl; copied = refl; gain = omega arith }

    by : (o : Option CopiedSlot) → first_with (may_lead_to g flipped) rest ≡ o → Gains 0 (record g { stage = AtInto flipped rest }) (settled (record g { stage = AtInto flipped rest }))
    by None e = subst (λ (h : Greening). Gains 0 (record g { stage = AtInto flipped rest }) (settled_out h)) (sym (into-none g flipped rest e))
        (gains-on walks (settled-out-gains (record g { test = None; changed = false }) (AtOut (if g.changed then 0 else g.walked) 0)))
    by (Some s) e = subst (λ (h : Greening). Gains 0 (record g { stage = AtInto flipped rest }) (settled_out h)) (sym (into-some g flipped rest s e)) (gains-none (record g { stage = AtInto flipped rest }))
settled-gains-at g (AtOut place slot) = settled-out-gains g (AtOut place slot)

settled-gains : (g : Greening) → Gains 0 g (settled g)
settled-gains g = settled-gains-at g g.stage

-- ---- an object becomes green

has-more : (green : List ℕ) (id t : ℕ) → has green t ≡ true → has (green ++ id ∷ []) t ≡ true
has-more green id t e = has-Contains (green ++ id ∷ []) t (Contains-append_left green (id ∷ []) t (Contains-has green t e))

has-new : (green : List ℕ) (id t : ℕ) → (t == id) ≡ true → has (green ++ id ∷ []) t ≡ true
has-new green id t e = has-Contains (green ++ id ∷ []) t (subst (λ y. Contains (green ++ id ∷ []) y) (sym (eqb-true t id e)) (Contains-push green id))

-- where one of two tests passes more, both do
both-more : (a b c : Bool) → (b ≡ true → c ≡ true) → (a && b) ≡ true → (a && c) ≡ true
both-more a b c f e = let parts = and_parts a b e in and_from a c parts.0 (f parts.1)

leading-more : (live green : List ℕ) (id : ℕ) (copied : List CopiedSlot) → leading live green copied ≤ leading live (green ++ id ∷ []) copied
leading-more live green id copied =
    count-more (λ s. has live s.id && has green s.target) (λ s. has live s.id && has (green ++ id ∷ []) s.target) copied
    (λ s e. both-more (has live s.id) (has green s.target) (has (green ++ id ∷ []) s.target) (has-more green id s.target) e)

leading-new : (live green : List ℕ) (id : ℕ) (copied : List CopiedSlot) → has green id ≡ false → leading live green copied + count (λ s. has live s.id && (s.target == id)) copied ≤ leading live (green ++ id ∷ []) copied
leading-new live green id copied n =
    count-both (λ s. has live s.id && has green s.target) (λ s. has live s.id && (s.target == id)) (λ s. has live s.id && has (green ++ id ∷ []) s.target) copied
    (λ s e. both-more (has live s.id) (has green s.target) (has (green ++ id ∷ []) s.target) (has-more green id s.target) e)
    (λ s e. both-more (has live s.id) (s.target == id) (has (green ++ id ∷ []) s.target) (has-new green id s.target) e)
    (λ s e. and_right (has live s.id) (has green s.target) (ap (has green) (eqb-true s.target id (and_parts (has live s.id) (s.target == id) e).1) ∙ n))

-- ---- looks

moved-gains : (g h : Greening) (place slot n : ℕ) → rest_count g.live g.stage ≡ 0 → h.live ≡ g.live → h.copied ≡ g.copied → n + score g ≤ score h → Gains n g (moved h place slot)
moved-gains g h place slot n z alive same more = by (slot + 1 == h.slots)
  where
    by : (b : Bool) → Gains n g (record h { stage = if b then AtOut (place + 1) 0 else AtOut place (slot + 1); test = None })
    by true = record { live = alive; copied = same; gain = omega (arith, z, more) }
    by false = record { live = alive; copied = same; gain = omega (arith, z, more) }

seed-gains : (g : Greening) (seeds : List ℕ) (strong : Bool) → rest_count g.live g.stage ≡ 0 → Gains 0 g (found_at_seed g (first_seed seeds) (if strong then Strong else Nothing))
seed-gains g [] true z = gains-none g
seed-gains g [] false z = gains-none g
seed-gains g (id ∷ ids) true z = record { live = refl; copied = refl; gain = (let n = length_push g.green id in let more = leading-more g.live g.green id g.copied in omega (arith, z, n, more)) }
seed-gains g (id ∷ ids) false z = record { live = refl; copied = refl; gain = omega (arith, z) }

found-gains-at : (g : Greening) (st : GreenStage) (strong : Bool) → Gains 0 (record g { stage = st }) (found_in (record g { stage = st }) st (if strong then Strong else Nothing))
found-gains-at g AtSeed strong = seed-gains (record g { stage = AtSeed }) g.seeds strong refl
found-gains-at g (AtInto flipped rest) strong = record { live = refl; copied = refl; gain = (let less = count-behind (may_lead_to g flipped) (λ s. has g.live s.id && (s.target == flipped)) rest in omega (arith, less)) }
found-gains-at g (AtOut place slot) true = moved-gains (record g { stage = AtOut place slot }) (record g { stage = AtOut place slot }) place slot 0 refl refl refl (omega arith)
found-gains-at g (AtOut place slot) false = moved-gains (record g { stage = AtOut place slot }) (record g { stage = AtOut place slot }) place slot 0 refl refl refl (omega arith)

-- there was nothing to do, or a strong pointer to a seed
pub found-gains : (g : Greening) (strong : Bool) → Gains 0 g (found g (if strong then Strong else Nothing))
found-gains g strong = gains-on (settled-gains g) (found-gains-at (settled g) (settled g).stage strong)

pub testing-gains : (g : Greening) (id : ℕ) → Gains 0 g (testing g id)
testing-gains g id = let s = settled-gains g in record { live = s.live; copied = s.copied; gain = s.gain }

pub tested-gains : (g : Greening) → Gains 0 g (tested g)
tested-gains g = record { live = refl; copied = refl; gain = omega arith }

-- ---- events

pub flip-gains : (g : Greening) (id : ℕ) → IsAtFlip g id → Gains 1 g (found g (Made id))
flip-gains g id a =
    let n = length_push g.green id in
    let more = leading-new g.live g.green id g.copied (waits-parts g id a.waiting).1 in
    let z : rest_count g.live g.stage ≡ 0 = ap (rest_count g.live) a.stage in
    subst (Gains 1 g) (sym a.found) (record { live = refl; copied = refl; gain = omega (arith, n, more, z) })

-- a slot that may lead to the flipped object is one of an object that lives, and leads there
leads-there : (g : Greening) (to : ℕ) → g.current ≡ true → (s : CopiedSlot) → may_lead_to g to s ≡ true → (has g.live s.id && (s.target == to)) ≡ true
leads-there g to current s e =
    let parts = and_parts (waits g s.id) (not g.current || (s.target == to)) e in
    and_from (has g.live s.id) (s.target == to) (waits-parts g s.id parts.0).0 (sym (ap (λ b. not b || (s.target == to)) current) ∙ parts.1)

pub into-gains : (g : Greening) («from» slot to : ℕ) → g.current ≡ true → IsAtInto g «from» slot to → Gains 1 g (found g (Made «from»))
into-gains g «from» slot to current a =
    let less = count-first (may_lead_to g to) (λ s. has g.live s.id && (s.target == to)) a.rest a.first (leads-there g to current) a.leads in
    let now : rest_count g.live g.stage ≡ count (λ s. has g.live s.id && (s.target == to)) a.rest = ap (rest_count g.live) a.stage in
    subst (Gains 1 g) (sym a.found) (record { live = refl; copied = refl; gain = omega (arith, less, now) })

pub strengthen-gains : (g : Greening) («from» slot to : ℕ) → IsAtStrengthen g «from» slot to → Gains 1 g (found g (Made to))
strengthen-gains g «from» slot to a =
    let n = length_push g.green to in
    let more = leading-more g.live g.green to g.copied in
    subst (Gains 1 g) (sym a.found) (moved-gains g (greened g to) a.place slot 1 (ap (rest_count g.live) a.stage) refl refl (omega (arith, n, more)))
