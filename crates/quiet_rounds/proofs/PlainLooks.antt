-- The looks of a green walk that saves some are looks of the plain one, where what it saves them by is true.
use Rattle.std.proofs.Common.{◌≡◌, ◌≢◌, ℕ, zero, suc, ◌+◌, ◌<◌, ◌≤◌, ◌==◌, nat_lt, if◌then◌else◌, Bool, true, false, ◌&&◌, List, [], ◌∷◌, ◌++◌, map, length, slice_index_or, Option, Some, None, refl, sym, ap, ◌∙◌, subst, arith, true≢false, eq-eqb, ne_eqb}
use Rattle.std.specs.Prelude.{Contains}
use Rattle.std.proofs.lemmas.Bool.{eqb-true, eqb-false}
use Rattle.std.proofs.lemmas.Bool.Decides.{nat_tests}
use Rattle.std.proofs.lemmas.List.{length_push}
use Rattle.cell_model.specs.Cells.{Cell, cell_at, pointer_at, is_live}
use Rattle.cell_model.specs.Strong.{IsStrongAt}
use Rattle.store_model.proofs.Lists.{Contains-here, Contains-later}
use Rattle.green_walk.specs.declared.copied_slots.CopiedSlot.{CopiedSlot}
use Rattle.green_walk.specs.declared.green_at.GreenAt.{GreenAt}
use Rattle.green_walk.specs.declared.green_at.GreenAt.TheVariants as green
use Rattle.green_walk.specs.declared.sweep.SweepAt.TheVariants.{End}
use Rattle.green_walk.specs.declared.sweep.Found.{Found}
use Rattle.green_walk.specs.declared.sweep.Found.TheVariants.{Nothing, Made, Strong}
use Rattle.green_walk.specs.Sweeping.{SweepState as Sweep, next as next_of_sweep}
use Rattle.green_walk.specs.Greening.{Greening, GreenStage, AtSeed, AtInto, AtOut, IsGreening, waits as waits_in, may_lead_to, first_with, behind_first, first_seed, look_into, walking, settled_out, settled, greened as greened_in, moved, next, found_in, found_at_seed, asked_at}
use Rattle.green_walk.proofs.GreenSteps.{IsThere, there, into-none, into-some, out-there, out-done, settled-greening, settled-waits}
use Rattle.green_walk.proofs.GreenAsked.{some-slots, waits-live}
use Rattle.green_walk.proofs.GreenHeads.{leads-any, leads-named, passed-over, passed-behind, found-first}
use Rattle.core_store.specs.Changes.{is_counted_strong, has_no_strong}
use Rattle.core_store.specs.RoundView.{is_event}
use Rattle.core_store.specs.declared.round_at.RoundAt.TheVariants as at
use Rattle.core_store.specs.Saved.{IsSpent, WasPassed, AreSaved}
use Rattle.core_store.proofs.Strengths.{counted-parts, counted-from}
use Rattle.core_store.proofs.SavedLaws.{saved-settled, saved-on, waits-less}
use Rattle.core_store.proofs.SavedLooks.{IsReason, Sees, answers, begins, goes_on, reason-same, goes-greened}
use Rattle.quiet_rounds.specs.PlainWalk.{PlainWalk, PlainStage, AtGreen, waits, IsWhite, behind_slot, Looks, green_seed, strong_seed, bound_seed, other_slot, all_weak, no_white, all_walked, LooksOn, here, further, place_of, plain_stage, plain_of}

-- ---- looks one after another

pub looks-one : {cells : List Cell} {p q : PlainWalk} → Looks cells p q → LooksOn cells p q
looks-one {p = p} {q = q} l = further p q here l

pub looks-then : {cells : List Cell} {p q r : PlainWalk} → LooksOn cells p q → LooksOn cells q r → LooksOn cells p r
looks-then a here = a
looks-then {r = r} a (further m _ b l) = further m r (looks-then a b) l

-- ---- strong pointers

pub strong-at : (cells : List Cell) (id slot : ℕ) → is_live cells id ≡ true → is_counted_strong cells (pointer_at cells id slot) ≡ true → IsStrongAt cells id slot (pointer_at cells id slot).target
strong-at cells id slot live strong = let parts = counted-parts cells (pointer_at cells id slot) strong in record { live = live; target = refl; not_null = λ e. parts.0 e; strong = parts.1 }

pub strong-counted : (cells : List Cell) (id slot to : ℕ) → IsStrongAt cells id slot to → is_counted_strong cells (pointer_at cells id slot) ≡ true
strong-counted cells id slot to s = counted-from cells (pointer_at cells id slot) (λ z. s.not_null (sym s.target ∙ z)) s.strong

-- what waits with one more green waited before
waits-before : (g : Greening) (id u : ℕ) → waits_in (greened_in g id) u ≡ true → waits_in g u ≡ true
waits-before g id u w = waits-less g id u w

more-green : (g : Greening) (id : ℕ) → g.walked ≤ length g.green → g.walked ≤ length (g.green ++ id ∷ [])
more-green g id few = let n = length_push g.green id in omega (arith, n, few)

-- where a slot is left to be looked at after a flip, it is asked for
asked-into : (g : Greening) (flipped : ℕ) (rest : List CopiedSlot) (first : CopiedSlot) → first_with (may_lead_to g flipped) rest ≡ Some first → asked_at g (AtInto flipped rest) ≡ green.Into first.id first.slot flipped
asked-into g flipped rest first e = ap (look_into flipped) e

-- the plain walk at this stage of the walk
abbrev pub plain_at : Greening → GreenStage → PlainWalk
plain_at g st = plain_of (record g { stage = st })

module _ (cells : List Cell) where
  -- a pointer to what is spent becomes strong nowhere
  spent-white : (g : Greening) (st : GreenStage) (p : PlainWalk) (id : ℕ) → waits p id ≡ waits_in g id → (waits_in g id ≡ true → is_live cells id ≡ true) → IsSpent cells g st id → IsWhite cells p id → ⊥
  spent-white g st p id same lives spent white =
      let w = sym same ∙ white.waiting in
      let out = spent w (eq-eqb (cell_at cells id).strong 0 white.zero) in
      white.none_out out.slot (pointer_at cells id out.slot).target (strong-at cells id out.slot (lives w) out.strong)

  -- ---- after a flip

  module _ (g : Greening) (flipped : ℕ) (current : g.current ≡ true → (c : CopiedSlot) → Contains g.copied c → Contains g.live c.id → (pointer_at cells c.id c.slot).target ≡ c.target) where
    -- a slot that is not looked at holds no strong pointer to the flipped object, or its object doesn't wait
    not-led : (s : CopiedSlot) → Contains g.copied s → may_lead_to g flipped s ≡ false → waits_in g s.id ≡ true → IsStrongAt cells s.id s.slot flipped → ⊥
    not-led s m none w strong = by g.current refl
      where
        by : (b : Bool) → g.current ≡ b → ⊥
        by true e = true≢false (sym (leads-named g flipped s (sym (current e s m (waits-live g s.id w)) ∙ strong.target) w) ∙ none)
        by false e = true≢false (sym (leads-any g flipped s e w) ∙ none)

    pass-slot : (s : CopiedSlot) (rest : List CopiedSlot) → Contains g.copied s → may_lead_to g flipped s ≡ false → LooksOn cells (plain_at g (AtInto flipped (s ∷ rest))) (plain_at g (AtInto flipped rest))
    pass-slot s rest m none = looks-one (other_slot flipped s.id s.slot (map place_of rest) refl (λ w strong. not-led s m none w strong))

    -- up to the first slot that is looked at
    pub pass-to : (rest : List CopiedSlot) (first : CopiedSlot) → ((s : CopiedSlot) → Contains rest s → Contains g.copied s) → first_with (may_lead_to g flipped) rest ≡ Some first
        → LooksOn cells (plain_at g (AtInto flipped rest)) (plain_at g (AtInto flipped (first ∷ behind_first (may_lead_to g flipped) rest)))
    pass-to [] first among e = absurd (cc)
    pass-to (s ∷ rest) first among e = by (may_lead_to g flipped s) refl (λ f. pass-to rest first (λ x m. among x (Contains-later s rest x m)) f)
      where
        by : (b : Bool) → may_lead_to g flipped s ≡ b → (first_with (may_lead_to g flipped) rest ≡ Some first → LooksOn cells (plain_at g (AtInto flipped rest)) (plain_at g (AtInto flipped (first ∷ behind_first (may_lead_to g flipped) rest))))
            → LooksOn cells (plain_at g (AtInto flipped (s ∷ rest))) (plain_at g (AtInto flipped (first ∷ behind_first (may_lead_to g flipped) (s ∷ rest))))
        by true f later =
            let same : Some s ≡ Some first = sym (found-first (may_lead_to g flipped) s rest f) ∙ e in
            let is : s ≡ first = cc in
            let behind : behind_first (may_lead_to g flipped) (s ∷ rest) ≡ rest = ap (λ (b : Bool). if b then rest else behind_first (may_lead_to g flipped) rest) f in
            subst (λ (xs : List CopiedSlot). LooksOn cells (plain_at g (AtInto flipped (s ∷ rest))) (plain_at g (AtInto flipped (first ∷ xs)))) (sym behind)
            (subst (λ (x : CopiedSlot). LooksOn cells (plain_at g (AtInto flipped (s ∷ rest))) (plain_at g (AtInto flipped (x ∷ rest)))) is here)
        by false f later =
            subst (λ (xs : List CopiedSlot). LooksOn cells (plain_at g (AtInto flipped (s ∷ rest))) (plain_at g (AtInto flipped (first ∷ xs)))) (sym (passed-behind (may_lead_to g flipped) s rest f))
            (looks-then (pass-slot s rest (among s (Contains-here s rest)) f) (later (sym (passed-over (may_lead_to g flipped) s rest f) ∙ e)))

    -- over all of them
    pub pass-all : (rest : List CopiedSlot) → ((s : CopiedSlot) → Contains rest s → Contains g.copied s) → first_with (may_lead_to g flipped) rest ≡ None → LooksOn cells (plain_at g (AtInto flipped rest)) (plain_at g (AtInto flipped []))
    pass-all [] among e = here
    pass-all (s ∷ rest) among e = by (may_lead_to g flipped s) refl (λ f. pass-all rest (λ x m. among x (Contains-later s rest x m)) f)
      where
        by : (b : Bool) → may_lead_to g flipped s ≡ b → (first_with (may_lead_to g flipped) rest ≡ None → LooksOn cells (plain_at g (AtInto flipped rest)) (plain_at g (AtInto flipped []))) → LooksOn cells (plain_at g (AtInto flipped (s ∷ rest))) (plain_at g (AtInto flipped []))
        by true f later = absurd (let same : Some s ≡ None = sym (found-first (may_lead_to g flipped) s rest f) ∙ e in cc)
        by false f later = looks-then (pass-slot s rest (among s (Contains-here s rest)) f) (later (sym (passed-over (may_lead_to g flipped) s rest f) ∙ e))

  -- ---- over green objects that were walked before

  module _ (g : Greening) (lives : (id : ℕ) → waits_in g id ≡ true → is_live cells id ≡ true) where
    pass-green : (st : GreenStage) (place slot : ℕ) → place < length g.green → IsSpent cells g st (pointer_at cells (slice_index_or g.green place 0) slot).target
        → LooksOn cells (plain_at g (AtOut place slot)) (behind_slot (plain_at g (AtOut place slot)) place slot)
    pass-green st place slot few spent =
        let p = plain_at g (AtOut place slot) in
        let id = (pointer_at cells (slice_index_or g.green place 0) slot).target in
        looks-one (no_white place slot refl few (λ white. spent-white g st p id refl (lives id) spent white))

    module _ (st : GreenStage) (some : 0 < g.slots) where
      -- up to a slot of the object
      pass-row : (place : ℕ) → place < length g.green → (k : ℕ) → k < g.slots → ((slot : ℕ) → slot < k → IsSpent cells g st (pointer_at cells (slice_index_or g.green place 0) slot).target) → LooksOn cells (plain_at g (AtOut place 0)) (plain_at g (AtOut place k))
      pass-row place few zero l spent = here
      pass-row place few (suc k) l spent =
          let before = pass-row place few k (omega (arith, l)) (λ slot m. spent slot (omega (arith, m))) in
          let one = pass-green st place k few (spent k (omega arith)) in
          let inner : (k + 1 == g.slots) ≡ false = ne_eqb (k + 1) g.slots (λ e. absurd (omega (arith, l, e))) in
          let at : k + 1 ≡ suc k = omega arith in
          let to : behind_slot (plain_at g (AtOut place k)) place k ≡ plain_at g (AtOut place (suc k)) = ap (λ (b : Bool). record (plain_at g (AtOut place k)) { stage = if b then AtGreen (place + 1) 0 else AtGreen place (k + 1) }) inner ∙ ap (λ (n : ℕ). plain_at g (AtOut place n)) at in
          looks-then before (subst (LooksOn cells (plain_at g (AtOut place k))) to one)

      -- over all slots of the object
      pass-object : (place : ℕ) → place < length g.green → ((slot : ℕ) → slot < g.slots → IsSpent cells g st (pointer_at cells (slice_index_or g.green place 0) slot).target) → LooksOn cells (plain_at g (AtOut place 0)) (plain_at g (AtOut (place + 1) 0))
      pass-object place few spent = by g.slots refl
        where
          by : (n : ℕ) → g.slots ≡ n → LooksOn cells (plain_at g (AtOut place 0)) (plain_at g (AtOut (place + 1) 0))
          by zero e = absurd (omega (arith, some, e))
          by (suc k) e =
              let inside : k < g.slots = omega (arith, e) in
              let before = pass-row place few k inside (λ slot m. spent slot (omega (arith, m, inside))) in
              let one = pass-green st place k few (spent k inside) in
              let last : (k + 1 == g.slots) ≡ true = eq-eqb (k + 1) g.slots (omega (arith, e)) in
              let to : behind_slot (plain_at g (AtOut place k)) place k ≡ plain_at g (AtOut (place + 1) 0) = ap (λ (b : Bool). record (plain_at g (AtOut place k)) { stage = if b then AtGreen (place + 1) 0 else AtGreen place (k + 1) }) last in
              looks-then before (subst (LooksOn cells (plain_at g (AtOut place k))) to one)

      -- over the first objects
      pub pass-objects : (n : ℕ) → n ≤ length g.green → ((place slot : ℕ) → place < n → slot < g.slots → IsSpent cells g st (pointer_at cells (slice_index_or g.green place 0) slot).target) → LooksOn cells (plain_at g (AtOut 0 0)) (plain_at g (AtOut n 0))
      pass-objects zero few spent = here
      pass-objects (suc n) few spent =
          let before = pass-objects n (omega (arith, few)) (λ place slot m l. spent place slot (omega (arith, m)) l) in
          let at : n + 1 ≡ suc n = omega arith in
          looks-then before (subst (λ (k : ℕ). LooksOn cells (plain_at g (AtOut n 0)) (plain_at g (AtOut k 0))) at (pass-object n (omega (arith, few)) (λ slot l. spent n slot (omega arith) l)))

    -- a walk after a seed begins where nothing is known
    pub pass-walked : (s : Sweep) (st : GreenStage) → 0 < g.slots → g.walked ≤ length g.green → ((place slot : ℕ) → place < g.walked → WasPassed g.walked st place slot) → AreSaved cells s (record g { stage = st }) → LooksOn cells (plain_at g (AtOut 0 0)) (plain_of (walking g))
    pass-walked s st some few before saved = by g.changed refl
      where
        by : (b : Bool) → g.changed ≡ b → LooksOn cells (plain_at g (AtOut 0 0)) (plain_at g (AtOut (if b then 0 else g.walked) 0))
        by true e = here
        by false e = pass-objects st some g.walked few (λ place slot l m. saved.walked e place slot (before place slot l) (omega (arith, l, few)) m)

  -- ---- a settled walk

  settles-out : (g : Greening) (at k : ℕ) → LooksOn cells (plain_at g (AtOut at k)) (plain_of (settled_out (record g { stage = AtOut at k })))
  settles-out g at k = by (nat_lt at (length g.green)) refl
    where
      by : (b : Bool) → nat_lt at (length g.green) ≡ b → LooksOn cells (plain_at g (AtOut at k)) (plain_of (settled_out (record g { stage = AtOut at k })))
      by true e = subst (λ (h : Greening). LooksOn cells (plain_at g (AtOut at k)) (plain_of h)) (sym (out-there g at k (grind (arith, nat_tests, e)))) here
      by false e = subst (λ (h : Greening). LooksOn cells (plain_at g (AtOut at k)) (plain_of h)) (sym (out-done g at k e)) (looks-one (all_walked at k refl (grind (arith, nat_tests, e))))

  settles-at : (s : Sweep) (g : Greening) (st : GreenStage) → IsGreening (record g { stage = st }) → ((id : ℕ) → waits_in g id ≡ true → is_live cells id ≡ true) → AreSaved cells s (record g { stage = st }) → LooksOn cells (plain_at g st) (plain_of (settled (record g { stage = st })))
  settles-at s g AtSeed k lives saved = here
  settles-at s g (AtInto flipped rest) k lives saved = by (first_with (may_lead_to g flipped) rest) refl
    where
      by : (o : Option CopiedSlot) → first_with (may_lead_to g flipped) rest ≡ o → LooksOn cells (plain_at g (AtInto flipped rest)) (plain_of (settled (record g { stage = AtInto flipped rest })))
      by None e =
          let start = if g.changed then 0 else g.walked in
          subst (λ (h : Greening). LooksOn cells (plain_at g (AtInto flipped rest)) (plain_of (settled_out h))) (sym (into-none g flipped rest e))
          (looks-then (pass-all g flipped saved.current rest k.place.3 e)
          (looks-then (looks-one (all_weak flipped refl))
          (looks-then (pass-walked g lives s (AtInto flipped rest) (some-slots g.slots k.slot_count) k.walked_few (λ place slot l. l) saved)
          (settles-out (record g { test = None; changed = false }) start 0))))
      by (Some c) e = subst (λ (h : Greening). LooksOn cells (plain_at g (AtInto flipped rest)) (plain_of (settled_out h))) (sym (into-some g flipped rest c e)) here
  settles-at s g (AtOut place slot) k lives saved = settles-out g place slot

  pub settles : (s : Sweep) (g : Greening) → IsGreening g → ((id : ℕ) → waits_in g id ≡ true → is_live cells id ≡ true) → AreSaved cells s g → LooksOn cells (plain_of g) (plain_of (settled g))
  settles s g k lives saved = settles-at s g g.stage k lives saved

  -- ---- answers

  none-strong : (id : ℕ) → has_no_strong (cell_at cells id) ≡ false → (cell_at cells id).strong ≢ 0
  none-strong id e = eqb-false (cell_at cells id).strong 0 e

  seed-on : (s : Sweep) (g : Greening) (what : Found) (seeds : List ℕ) → g.seeds ≡ seeds → next_of_sweep s ≡ End → 0 < g.slots → g.walked ≤ length g.green → ((id : ℕ) → waits_in g id ≡ true → is_live cells id ≡ true) → IsReason cells g (first_seed seeds) what → AreSaved cells s (record g { stage = AtSeed })
      → LooksOn cells (plain_at g AtSeed) (plain_of (found_at_seed (record g { stage = AtSeed }) (first_seed seeds) what))
  seed-on s g what [] e end some few lives why saved = absurd why
  seed-on s g Nothing (id ∷ ids) e end some few lives why saved = looks-then (by (waits_in g id) refl) (pass-walked g lives s AtSeed some few (λ place slot l. l) saved)
    where
      by : (b : Bool) → waits_in g id ≡ b → LooksOn cells (plain_at g AtSeed) (plain_at g (AtOut 0 0))
      by true w =
          let out = why w in
          looks-one (bound_seed id ids out.1.0 (pointer_at cells id out.1.0).target refl e w (eqb-true (cell_at cells id).strong 0 out.0) (strong-at cells id out.1.0 (lives id w) out.1.1))
      by false w = looks-one (green_seed id ids refl e w)
  seed-on s g Strong (id ∷ ids) e end some few lives why saved =
      let h = greened_in g id in
      looks-then (looks-one (strong_seed id ids refl e why.0 (none-strong id why.1)))
      (pass-walked h (λ x w. lives x (waits-before g id x w)) s AtSeed some (more-green g id few) (λ place slot l. l) (saved-on cells cells s (record g { stage = AtSeed }) (record h { stage = AtSeed }) end (goes-greened cells g id few) saved))
  seed-on s g (Made made) (id ∷ ids) e end some few lives why saved = absurd why

  out-on : (s : Sweep) (g : Greening) (place slot : ℕ) → place < length g.green → ((id : ℕ) → waits_in g id ≡ true → is_live cells id ≡ true) → IsReason cells g (green.Out (slice_index_or g.green place 0) slot) Nothing → LooksOn cells (plain_at g (AtOut place slot)) (plain_of (moved g place slot))
  out-on s g place slot few lives why =
      let id = (pointer_at cells (slice_index_or g.green place 0) slot).target in
      let to : plain_stage (moved g place slot).stage ≡ (if slot + 1 == g.slots then AtGreen (place + 1) 0 else AtGreen place (slot + 1)) = by (slot + 1 == g.slots) in
      subst (λ (st : PlainStage). LooksOn cells (plain_at g (AtOut place slot)) (record (plain_at g (AtOut place slot)) { stage = st })) (sym to)
      (looks-one (no_white place slot refl few (λ white.
      let out = why white.waiting (eq-eqb (cell_at cells id).strong 0 white.zero) in
      white.none_out out.0 (pointer_at cells id out.0).target (strong-at cells id out.0 (lives id white.waiting) out.1))))
    where
      by : (b : Bool) → plain_stage (if b then AtOut (place + 1) 0 else AtOut place (slot + 1)) ≡ (if b then AtGreen (place + 1) 0 else AtGreen place (slot + 1))
      by true = refl
      by false = refl

  into-on : (s : Sweep) (g : Greening) (flipped : ℕ) (rest : List CopiedSlot) (first : CopiedSlot) → first_with (may_lead_to g flipped) rest ≡ Some first → ((c : CopiedSlot) → Contains rest c → Contains g.copied c) → (g.current ≡ true → (c : CopiedSlot) → Contains g.copied c → Contains g.live c.id → (pointer_at cells c.id c.slot).target ≡ c.target) → is_event cells (at.Into first.id first.slot flipped) ≡ false
      → LooksOn cells (plain_at g (AtInto flipped rest)) (plain_at g (AtInto flipped (behind_first (may_lead_to g flipped) rest)))
  into-on s g flipped rest first e among current none =
      looks-then (pass-to g flipped current rest first among e)
      (looks-one (other_slot flipped first.id first.slot (map place_of (behind_first (may_lead_to g flipped) rest)) refl (λ w strong. not-event strong)))
    where
      not-event : IsStrongAt cells first.id first.slot flipped → ⊥
      not-event strong =
          let same : ((pointer_at cells first.id first.slot).target == flipped) ≡ true = eq-eqb (pointer_at cells first.id first.slot).target flipped strong.target in
          true≢false (sym (ap (λ (b : Bool). b && is_counted_strong cells (pointer_at cells first.id first.slot)) same ∙ strong-counted cells first.id first.slot flipped strong) ∙ none)

  found-on : (s : Sweep) (g : Greening) (st : GreenStage) (what : Found) → IsGreening (record g { stage = st }) → IsThere g st → next_of_sweep s ≡ End → ((id : ℕ) → waits_in g id ≡ true → is_live cells id ≡ true) → IsReason cells g (asked_at g st) what → AreSaved cells s (record g { stage = st })
      → LooksOn cells (plain_at g st) (plain_of (found_in (record g { stage = st }) st what))
  found-on s g AtSeed what k t end lives why saved = seed-on s g what g.seeds refl end (some-slots g.slots k.slot_count) k.walked_few lives why saved
  found-on s g (AtInto flipped rest) Nothing k t end lives why saved = into-on s g flipped rest t.0 t.1 k.place.3 saved.current (into-why t.0 t.1)
    where
      into-why : (first : CopiedSlot) → first_with (may_lead_to g flipped) rest ≡ Some first → is_event cells (at.Into first.id first.slot flipped) ≡ false
      into-why first e = subst (λ (n : GreenAt). IsReason cells g n Nothing) (asked-into g flipped rest first e) why
  found-on s g (AtInto flipped rest) Strong k t end lives why saved = absurd (subst (λ (n : GreenAt). IsReason cells g n Strong) (asked-into g flipped rest t.0 t.1) why)
  found-on s g (AtInto flipped rest) (Made made) k t end lives why saved = absurd (subst (λ (n : GreenAt). IsReason cells g n (Made made)) (asked-into g flipped rest t.0 t.1) why)
  found-on s g (AtOut place slot) Nothing k l end lives why saved = out-on s g place slot l lives why
  found-on s g (AtOut place slot) Strong k l end lives why saved = absurd why
  found-on s g (AtOut place slot) (Made made) k l end lives why saved = absurd why

  -- what a look makes of the walk that saves some, looks make of the plain one
  pub sees-plainly : (s : Sweep) (g h : Greening) → IsGreening g → next_of_sweep s ≡ End → ((id : ℕ) → waits_in g id ≡ true → is_live cells id ≡ true) → Sees cells g h → AreSaved cells s g → LooksOn cells (plain_of g) (plain_of h)
  sees-plainly s g _ k end lives (answers what a why) saved =
      let h = settled g in
      looks-then (settles s g k lives saved)
      (found-on s h h.stage what (settled-greening g k) (there g) end (λ id w. lives id (sym (settled-waits g id) ∙ w)) (reason-same cells g h (settled-waits g) (next g) what why) (saved-settled cells s g end saved))
  sees-plainly s g _ k end lives (begins id) saved = settles s g k lives saved
  sees-plainly s g _ k end lives goes_on saved = here
