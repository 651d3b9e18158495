-- What a green walk asks for.
use Rattle.std.proofs.Common.{◌≡◌, ℕ, zero, suc, ◌+◌, ◌<◌, ◌≤◌, ◌&&◌, not, if◌then◌else◌, nat_lt, Bool, true, false, List, [], ◌∷◌, length, drop, get_or, refl, sym, ap, ◌∙◌, subst, arith, ⊎_elim}
use Rattle.std.specs.Prelude.{Option, Some, None, Contains}
use Rattle.std.proofs.lemmas.Bool.{le-ltb, ltb-true}
use Rattle.std.proofs.lemmas.List.{drop_more, drop-drop}
use Rattle.std.proofs.lemmas.List.Elements.{Contains-get_or}
use Rattle.cell_page.specs.Format.{IsSlotCount}
use Rattle.store_model.proofs.Lists.{Contains-here, Contains-later}
use Rattle.ref_tables.specs.Queue.{has}
use Rattle.red_walk.proofs.Members.{Contains-has, has-Contains}
use Rattle.green_walk.specs.declared.copied_slots.CopiedSlot.{CopiedSlot}
use Rattle.green_walk.specs.declared.green_at.GreenAt.{GreenAt}
use Rattle.green_walk.specs.declared.green_at.GreenAt.TheVariants.{Into, Out}
use Rattle.green_walk.specs.Greening.{GreenStage, AtSeed, AtInto, AtOut, Greening, IsGreening, IsPlace, waits, may_lead_to, first_with, first_seed, next}
use Rattle.green_walk.specs.GreenInside.{IsHead}
use Rattle.green_walk.specs.GreenLaws.{IsAskedOf, AskedLaw, WaitsLaw}
use Rattle.green_walk.proofs.GreenHeads.{both-left, lead-waits, passed-over, found-first}

some-same : (t s : CopiedSlot) → Some t ≡ Some s → t ≡ s
some-same t s e = cc

pub some-slots : (slots : ℕ) → IsSlotCount slots → 0 < slots
some-slots slots n = ⊎_elim (λ (e : slots ≡ 6). omega (arith, e)) (λ (e : slots ≡ 14). omega (arith, e)) n

pub Contains-drop : (n : ℕ) (xs : List ℕ) (x : ℕ) → Contains (drop n xs) x → Contains xs x
Contains-drop zero xs x m = m
Contains-drop (suc n) [] x m = m
Contains-drop (suc n) (y ∷ ys) x m = Contains-later y ys x (Contains-drop n ys x m)

pub waits-live : WaitsLaw
waits-live g id w = Contains-has g.live id (both-left (has g.live id) (not (has g.green id)) w)

-- what is green waits no more
pub green-done : (g : Greening) (id : ℕ) → Contains g.green id → waits g id ≡ false
green-done g id m = ap (λ b. has g.live id && not b) (has-Contains g.green id m) ∙ and-none (has g.live id)
  where
    and-none : (b : Bool) → (b && false) ≡ false
    and-none true = refl
    and-none false = refl

first-by : (P : CopiedSlot → Bool) (t : CopiedSlot) (rest : List CopiedSlot) (s : CopiedSlot) (b : Bool) → P t ≡ b → first_with P (t ∷ rest) ≡ Some s → (first_with P rest ≡ Some s → Contains rest s × (P s ≡ true)) → Contains (t ∷ rest) s × (P s ≡ true)
first-by P t rest s true f e later = let same : t ≡ s = some-same t s (sym (found-first P t rest f) ∙ e) in (subst (λ x. Contains (t ∷ rest) x) same (Contains-here t rest), subst (λ x. P x ≡ true) same f)
first-by P t rest s false f e later = let m = later (sym (passed-over P t rest f) ∙ e) in (Contains-later t rest s m.0, m.1)

-- the first slot with the property is among the slots, and has it
pub first-has : (P : CopiedSlot → Bool) (slots : List CopiedSlot) (s : CopiedSlot) → first_with P slots ≡ Some s → Contains slots s × (P s ≡ true)
first-has P [] s e = absurd (cc)
first-has P (t ∷ rest) s e = first-by P t rest s (P t) refl e (λ f. first-has P rest s f)

-- ---- what is asked for is of the living

asked-seeds : (g : Greening) (ids : List ℕ) → ((id : ℕ) → Contains ids id → Contains g.live id) → IsAskedOf g (first_seed ids)
asked-seeds g [] all = tt
asked-seeds g (id ∷ ids) all = all id (Contains-here id ids)

-- the seeds that are to come live
drop-live : (g : Greening) (n : ℕ) → ((id : ℕ) → Contains g.seeds id → Contains g.live id) → (id : ℕ) → Contains (drop n g.seeds) id → Contains g.live id
drop-live g n all id m = all id (Contains-drop n g.seeds id m)

asked-out : (g : Greening) (place slot : ℕ) → ((id : ℕ) → Contains g.seeds id → Contains g.live id) → ((id : ℕ) → Contains g.green id → Contains g.live id) → slot < g.slots
    → IsAskedOf g (next (record g { stage = AtOut place slot }))
asked-out g place slot seeds green within = by (nat_lt place (length g.green)) refl
  where
    by : (b : Bool) → nat_lt place (length g.green) ≡ b → IsAskedOf g (next (record g { stage = AtOut place slot }))
    by true e = let m = Contains-get_or g.green place 0 (ltb-true place (length g.green) e) in rw e (green (get_or g.green place 0) m, green-done g (get_or g.green place 0) m, within)
    by false e = rw e (asked-seeds g (drop 1 g.seeds) (drop-live g 1 seeds))

asked-into : (g : Greening) (flipped : ℕ) (rest : List CopiedSlot) → IsGreening g → Contains g.green flipped → ((s : CopiedSlot) → Contains rest s → Contains g.copied s) → IsAskedOf g (next (record g { stage = AtInto flipped rest }))
asked-into g flipped rest k m copied = by (first_with (may_lead_to g flipped) rest) refl
  where
    by : (o : Option CopiedSlot) → first_with (may_lead_to g flipped) rest ≡ o → IsAskedOf g (next (record g { stage = AtInto flipped rest }))
    by (Some s) e = let f = first-has (may_lead_to g flipped) rest s e in rw (e, e) (lead-waits g flipped s f.1, k.green_live flipped m, green-done g flipped m, k.copied_within s (copied s f.0))
    by None e = rw e (asked-out (record g { test = None; changed = false }) (if g.changed then 0 else g.walked) 0 k.seeds_live k.green_live (some-slots g.slots k.slot_count))

asked-at-stage : (g : Greening) (s : GreenStage) → IsGreening g → IsPlace g s → IsAskedOf g (next (record g { stage = s }))
asked-at-stage g AtSeed k p = asked-seeds g g.seeds k.seeds_live
asked-at-stage g (AtInto flipped rest) k p = asked-into g flipped rest k p.2 p.3
asked-at-stage g (AtOut place slot) k p = asked-out g place slot k.seeds_live k.green_live p.2

pub asked : AskedLaw
asked g k = asked-at-stage g g.stage k k.place

-- ---- a walk at its stage

-- a walk is the one with its stage
pub at-stage : (g : Greening) (s : GreenStage) → g.stage ≡ s → g ≡ record g { stage = s }
at-stage g s e = ap (λ t. record g { stage = t }) e

next-some : (g : Greening) (flipped : ℕ) (rest : List CopiedSlot) (s : CopiedSlot) → first_with (may_lead_to g flipped) rest ≡ Some s → Into s.id s.slot flipped ≡ next (record g { stage = AtInto flipped rest })
next-some g flipped rest s e = rw (e, e) refl

-- the first slot at the head is the one there
pub head-first : (g : Greening) (flipped rest place : ℕ) (s : CopiedSlot) → IsHead g flipped rest place → place < length g.copied → ((d : CopiedSlot) → s ≡ get_or g.copied place d) → first_with (may_lead_to g flipped) (drop rest g.copied) ≡ Some s
head-first g flipped rest place s h l there =
    h.skips
    ∙ ap (first_with (may_lead_to g flipped)) (drop_more g.copied place s l)
    ∙ found-first (may_lead_to g flipped) (get_or g.copied place s) (drop (place + 1) g.copied) (h.there s l)
    ∙ ap (λ x. Some x) (sym (there s))

-- what the head asks for
pub next-head : (g : Greening) (flipped rest place : ℕ) (s : CopiedSlot) → g.stage ≡ AtInto flipped (drop rest g.copied) → IsHead g flipped rest place → place < length g.copied → ((d : CopiedSlot) → s ≡ get_or g.copied place d)
    → Into s.id s.slot flipped ≡ next g
next-head g flipped rest place s at h l there =
    next-some g flipped (drop rest g.copied) s (head-first g flipped rest place s h l there) ∙ ap next (sym (at-stage g (AtInto flipped (drop rest g.copied)) at))

-- after the last green object the next seed comes
pub out-behind : (green seeds : List ℕ) (place slot done : ℕ) (at : GreenAt) → at ≡ first_seed (drop (done + 1) seeds) → length green ≤ place
    → at ≡ (if nat_lt place (length green) then Out (get_or green place 0) slot else first_seed (drop 1 (drop done seeds)))
out-behind green seeds place slot done at e l =
    e ∙ ap first_seed (sym (drop-drop 1 done seeds)) ∙ sym (ap (λ b. if b then Out (get_or green place 0) slot else first_seed (drop 1 (drop done seeds))) (le-ltb place (length green) l))
