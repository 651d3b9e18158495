-- The collector goes on over slots at which there is nothing to do, and null slots are such.
use Rattle.std.proofs.Common.{◌≡◌, ℕ, ◌+◌, ◌<◌, List, [], ◌∷◌, length, drop, Bool, true, false, not, Option, Some, None, refl, sym, ap, ◌∙◌, subst, arith}
use Rattle.std.specs.Prelude.{◌==◌, ◌&&◌, if◌then◌else◌, slice_index_or}
use Rattle.std.proofs.lemmas.Bool.{ne_eqb}
use Rattle.cell_model.specs.Cells.{Cell, cell_at, pointer_at, is_live}
use Rattle.cell_model.proofs.EditLaws.{live-there}
use Rattle.store_model.specs.Core.{Core}
use Rattle.red_walk.specs.declared.red_at.RedAt.TheVariants as red
use Rattle.red_walk.specs.Walk.{Walk, first_of, moved, next}
use Rattle.green_walk.specs.declared.sweep.Found.TheVariants.{Nothing}
use Rattle.green_walk.specs.declared.green_at.GreenAt.{GreenAt}
use Rattle.green_walk.specs.declared.green_at.GreenAt.TheVariants as green
use Rattle.green_walk.specs.declared.green_at.Test.{Test}
use Rattle.green_walk.specs.declared.copied_slots.CopiedSlot.{CopiedSlot}
use Rattle.green_walk.specs.Greening.{GreenStage, AtSeed, AtInto, AtOut, Greening, IsAnswer, IsTestable, waits, first_seed, first_with, look_into, may_lead_to, asked_at, settled, found_in, next as next_of_green, found, tested}
use Rattle.green_walk.proofs.GreenAnswers.{found-law, tested-law, test-law, next-settled, settles}
use Rattle.green_walk.proofs.GreenSteps.{IsThere as IsGreenThere, stays, there}
use Rattle.core_store.specs.declared.round_at.RoundAt.{RoundAt}
use Rattle.core_store.specs.declared.round_at.RoundAt.TheVariants as at
use Rattle.core_store.specs.declared.three.HeldFrame.{HeldFrame}
use Rattle.core_store.specs.Changes.{has_no_strong, is_counted_strong}
use Rattle.core_store.specs.RoundView.{RoundView, Sweeping, asked, asked_by_walk, asked_by_sweep, asked_by_green, is_event, is_white, looked_past, next_slot, IsInStep, IsSweeping, Passes, none, more}
use Rattle.core_store.specs.Tables.{TablesView}
use Rattle.core_store.specs.Stands.{Stands}
use Rattle.core_store.specs.Frames.{Agree, HoldsAll}
use Rattle.core_store.specs.Logged.{object_and_targets}
use Rattle.core_store.specs.Slots.{HoldsPagesOf}
use Rattle.core_store.specs.Collecting.{objects_at}
use Rattle.core_store.specs.SlotLooks.{slot_at, is_white_in}
use Rattle.core_store.proofs.IdleSlots.{at_slot, IsIdleAt}
use Rattle.core_store.proofs.AskedLaws.{asked-look, asked-cut}
use Rattle.core_store.proofs.LookLaws.{null-look}
use Rattle.core_store.proofs.SeenLaws.{GreenOf, green-of, waiting-live, work-at, there-at}
use Rattle.core_store.specs.Passed.{HasPassed}
use Rattle.core_store.proofs.ReadyRound.{asked-few, few-slot}
use Rattle.core_store.proofs.WantLaws.{all-objects}

-- ---- there is nothing to do

pub null-weak : (cells : List Cell) (id slot : ℕ) → (pointer_at cells id slot).target ≡ 0 → is_counted_strong cells (pointer_at cells id slot) ≡ false
null-weak cells id slot e = sym (null-look cells id slot 0 e refl)

pub idle-nothing : (cells : List Cell) (q : RoundView) (r : RoundAt) → IsIdleAt cells q r → is_event cells r ≡ false
idle-nothing cells q (at.Look id slot) e = e
idle-nothing cells q (at.Cut id slot) e = ap (λ (n : ℕ). not (n == 0)) e
idle-nothing cells q (at.Test id slot) e = refl
idle-nothing cells q (at.Out «from» slot) e = refl
idle-nothing cells q at.Queue e = absurd e
idle-nothing cells q (at.Copy id) e = absurd e
idle-nothing cells q at.Judge e = absurd e
idle-nothing cells q (at.Free id) e = absurd e
idle-nothing cells q (at.Seed id) e = absurd e
idle-nothing cells q (at.Flip id) e = absurd e
idle-nothing cells q (at.Into «from» slot to) e = absurd e
idle-nothing cells q (at.Strengthen «from» slot to) e = absurd e
idle-nothing cells q at.End e = absurd e

-- null is no object that waits
pub null-waits : {slots : ℕ} {v : TablesView} {c : Core} (h : Stands slots v c) {a : RoundAt} (x : GreenOf v.round a) → waits x.of 0 ≡ false
null-waits {c} h x = by (waits x.of 0) refl
  where
    by : (b : Bool) → waits x.of 0 ≡ b → b ≡ false
    by false e = refl
    by true e = absurd (live-there c.cells 0 h.sound.consistent.exact.none (waiting-live h x 0 e) refl)

-- what is white for the round is so for its green walk
pub white-in : (cells : List Cell) {r : RoundView} {a : RoundAt} (x : GreenOf r a) (id : ℕ) → is_white cells x.of id ≡ is_white_in cells r id
white-in cells x id = ap (λ (q : RoundView). is_white_in cells q id) (sym x.is)

pub null-white : {slots : ℕ} {v : TablesView} {c : Core} (h : Stands slots v c) {a : RoundAt} (x : GreenOf v.round a) → is_white_in c.cells v.round 0 ≡ false
null-white {c} h x = sym (white-in c.cells x 0) ∙ ap (λ (b : Bool). b && has_no_strong (cell_at c.cells 0)) (null-waits h x)

-- ---- the next slot of the object comes next

pub look-on : (xs : List ℕ) (s : ℕ) (ys : List ℕ) (id k : ℕ) → first_of xs s ys ≡ red.Look id k → (s ≡ k) × (first_of xs (s + 1) ys ≡ red.Look id (k + 1))
look-on [] s [] id k e = absurd (cc)
look-on [] s (y ∷ ys) id k e = absurd (cc)
look-on (x ∷ xs) s ys id k e =
    let one : x ≡ id = cc in
    let other : s ≡ k = cc in
    (other, rw (one, other) refl)

moved-on : (slots : ℕ) (w : Walk) → (w.slot + 1 == slots) ≡ false → moved slots w ≡ record w { slot = w.slot + 1 }
moved-on slots w e = rw e refl

apart : (k slots : ℕ) → k + 1 < slots → (k + 1 == slots) ≡ false
apart k slots l = ne_eqb (k + 1) slots (λ e. absurd (omega (arith, l, e)))

look-next : (slots : ℕ) (cells : List Cell) (r : RoundView) (id k : ℕ) → asked r ≡ at.Look id k → k + 1 < slots → asked (looked_past slots cells r) ≡ at.Look id (k + 1)
look-next slots cells r id k e l =
    let x = asked-look r id k e in
    let w = x.0 in
    let on = look-on (drop w.place w.list) w.slot (drop (length w.copies) w.list) id k x.2 in
    let other : (w.slot + 1 == slots) ≡ false = rw on.0 (apart k slots l) in
    ap (λ (q : RoundView). asked (looked_past slots cells q)) x.1 ∙ (ap (λ (y : Walk). asked_by_walk (next y)) (moved-on slots w other) ∙ ap asked_by_walk on.1)

cut-next : (slots : ℕ) (cells : List Cell) (r : RoundView) (id k : ℕ) → asked r ≡ at.Cut id k → k + 1 < slots → asked (looked_past slots cells r) ≡ at.Cut id (k + 1)
cut-next slots cells r id k e l =
    let x = asked-cut r id k e in
    let behind : next_slot slots x.0 x.1 k x.2 ≡ Sweeping x.0 x.1 (k + 1) x.2 = rw (apart k slots l) refl in
    ap (λ (q : RoundView). asked (looked_past slots cells q)) x.3 ∙ (rw x.4 (ap asked behind ∙ ap (asked_by_sweep (k + 1) x.2) x.4))

test-on : (slots : ℕ) (g : Greening) (n : GreenAt) (t : Test) (id : ℕ) → IsTestable g n id → (t.slot == slots) ≡ false → asked_by_green slots (Some t) n ≡ at.Test t.id t.slot
test-on slots g (green.Seed seed) t id a e = rw e refl
test-on slots g (green.Out «from» slot) t id a e = rw e refl
test-on slots g (green.Into «from» slot to) t id a e = absurd a
test-on slots g green.End t id a e = absurd a

-- a green walk goes on with the next slot of its object
no-seed : (ids : List ℕ) («from» k : ℕ) → first_seed ids ≡ green.Out «from» k → ⊥
no-seed [] «from» k e = absurd (cc)
no-seed (id ∷ ids) «from» k e = absurd (cc)

no-into : (flipped : ℕ) (o : Option CopiedSlot) («from» k : ℕ) → look_into flipped o ≡ green.Out «from» k → ⊥
no-into flipped None «from» k e = absurd (cc)
no-into flipped (Some s) «from» k e = absurd (cc)

out-at : (h : Greening) (st : GreenStage) («from» k : ℕ) → IsGreenThere h st → asked_at h st ≡ green.Out «from» k → k + 1 < h.slots → next_of_green (found_in h st Nothing) ≡ green.Out «from» (k + 1)
out-at h AtSeed «from» k t e l = absurd (no-seed h.seeds «from» k e)
out-at h (AtInto flipped rest) «from» k t e l = absurd (no-into flipped (first_with (may_lead_to h flipped) rest) «from» k e)
out-at h (AtOut place slot) «from» k t e l =
    let one : slice_index_or h.green place 0 ≡ «from» = cc in
    let other : slot ≡ k = cc in
    let behind : Greening = record h { stage = AtOut place (slot + 1); test = None } in
    let on : found_in h (AtOut place slot) Nothing ≡ behind = rw (apart slot h.slots (rw other l)) refl in
    ap next_of_green on ∙ (next-settled behind (stays behind t) ∙ rw (one, other) refl)

out-on : (g : Greening) («from» k : ℕ) → next_of_green g ≡ green.Out «from» k → k + 1 < g.slots → next_of_green (found g Nothing) ≡ green.Out «from» (k + 1)
out-on g «from» k e l = out-at (settled g) (settled g).stage «from» k (there g) e (rw (settles g).same.slots l)

module _ {slots : ℕ} {v : TablesView} {c : Core} (h : Stands slots v c) where
  pub sweeps : {a : RoundAt} (x : GreenOf v.round a) → IsSweeping slots v.ids x.walk x.swept x.slot x.of
  sweeps x = subst (IsInStep slots v.ids) x.is h.in_step

  test-next : (id k : ℕ) → asked v.round ≡ at.Test id k → is_counted_strong c.cells (pointer_at c.cells id k) ≡ false → k + 1 < slots → asked (looked_past slots c.cells v.round) ≡ at.Test id (k + 1)
  test-next id k e weak l =
      let x = green-of v.round (at.Test id k) tt e in
      let g = x.of in
      let s = sweeps x in
      let t = x.asks.0 in
      let size = s.greens.green_slots in
      let same_slot = x.asks.3 in
      let within : t.slot < g.slots = omega (arith, size, same_slot, l) in
      let law = tested-law g t s.greens.greening x.asks.1 within in
      let past : looked_past slots c.cells v.round ≡ Sweeping x.walk x.swept x.slot (tested g) = x.passes slots c.cells ∙ ap (λ (b : Bool). Sweeping x.walk x.swept x.slot (if b then found g Nothing else tested g)) weak in
      let behind : Test = record t { slot = t.slot + 1 } in
      let further : (t.slot + 1 == g.slots) ≡ false = ne_eqb (t.slot + 1) g.slots (λ f. absurd (omega (arith, size, same_slot, l, f))) in
      let on : asked_by_green g.slots (Some behind) (next_of_green g) ≡ at.Test t.id (t.slot + 1) = test-on g.slots g (next_of_green g) behind t.id (test-law g t s.greens.greening x.asks.1).0 further in
      ap asked past ∙ (ap (asked_by_sweep x.slot (tested g)) x.rest ∙ (ap (λ (o : Option Test). asked_by_green g.slots o (next_of_green (tested g))) law.2 ∙ (ap (asked_by_green g.slots (Some behind)) law.1 ∙ (on ∙ rw (x.asks.2, same_slot) refl))))

  out-next : («from» k : ℕ) → asked v.round ≡ at.Out «from» k → is_white_in c.cells v.round (pointer_at c.cells «from» k).target ≡ false → k + 1 < slots → asked (looked_past slots c.cells v.round) ≡ at.Out «from» (k + 1)
  out-next «from» k e idle l =
      let x = green-of v.round (at.Out «from» k) tt e in
      let g = x.of in
      let s = sweeps x in
      let size = s.greens.green_slots in
      let white : is_white c.cells g (pointer_at c.cells «from» k).target ≡ false = white-in c.cells x (pointer_at c.cells «from» k).target ∙ idle in
      let past : looked_past slots c.cells v.round ≡ Sweeping x.walk x.swept x.slot (found g Nothing) = x.passes slots c.cells ∙ rw white refl in
      let in_hand = (found-law g Nothing s.greens.greening (subst (λ (n : GreenAt). IsAnswer g n Nothing) (sym x.asks.0) tt)).1 in
      let on = out-on g «from» k x.asks.0 (omega (arith, size, l)) in
      ap asked past ∙ (ap (asked_by_sweep x.slot (found g Nothing)) x.rest ∙ (ap (λ (o : Option Test). asked_by_green (found g Nothing).slots o (next_of_green (found g Nothing))) in_hand ∙ ap (asked_by_green (found g Nothing).slots None) on))

  -- after such a slot the next one is looked at
  pub idle-next : (r : RoundAt) (k : ℕ) → asked v.round ≡ at_slot r k → IsIdleAt c.cells v.round (at_slot r k) → k + 1 < slots → asked (looked_past slots c.cells v.round) ≡ at_slot r (k + 1)
  idle-next (at.Look id slot) k e idle l = look-next slots c.cells v.round id k e l
  idle-next (at.Cut id slot) k e idle l = cut-next slots c.cells v.round id k e l
  idle-next (at.Test id slot) k e idle l = test-next id k e idle l
  idle-next (at.Out «from» slot) k e idle l = out-next «from» k e idle l
  idle-next at.Queue k e idle l = absurd idle
  idle-next (at.Copy id) k e idle l = absurd idle
  idle-next at.Judge k e idle l = absurd idle
  idle-next (at.Free id) k e idle l = absurd idle
  idle-next (at.Seed id) k e idle l = absurd idle
  idle-next (at.Flip id) k e idle l = absurd idle
  idle-next (at.Into «from» slot to) k e idle l = absurd idle
  idle-next (at.Strengthen «from» slot to) k e idle l = absurd idle
  idle-next at.End k e idle l = absurd idle

-- ---- the slot that is looked at

abbrev pub first_in : Option (ℕ × ℕ) → ℕ
first_in None = 0
first_in (Some p) = p.0

abbrev second_in : Option (ℕ × ℕ) → ℕ
second_in None = 0
second_in (Some p) = p.1

of-same : (slots i k id slot : ℕ) → i ≡ id → k ≡ slot → (0 < i) × (i < 65536) × (k < slots) → (0 < id) × (id < 65536) × (slot < slots)
of-same slots i k id slot one other w = (subst (λ (n : ℕ). 0 < n) one w.0, subst (λ (n : ℕ). n < 65536) one w.1, subst (λ (n : ℕ). n < slots) other w.2)

-- it is one of an object's
pub null-there : {slots : ℕ} {v : TablesView} {c : Core} (h : Stands slots v c) (r : RoundAt) (id slot : ℕ) → asked v.round ≡ r → slot_at r ≡ Some (id, slot) → (0 < id) × (id < 65536) × (slot < slots)
null-there {slots} h (at.Look i k) id slot e is = let w = work-at h (at.Look i k) e in of-same slots i k id slot (ap first_in is) (ap second_in is) (w.above, w.small, w.change.0)
null-there {slots} h (at.Cut i k) id slot e is = let w = work-at h (at.Cut i k) e in of-same slots i k id slot (ap first_in is) (ap second_in is) (w.above, w.small, w.change.0)
null-there {slots} h (at.Test i k) id slot e is = let w = work-at h (at.Test i k) e in of-same slots i k id slot (ap first_in is) (ap second_in is) (w.above, w.small, w.change.0)
null-there {slots} h (at.Out i k) id slot e is = let w = work-at h (at.Out i k) e in of-same slots i k id slot (ap first_in is) (ap second_in is) (w.above, w.small, (there-at h (at.Out i k) e).1)
null-there h at.Queue id slot e is = absurd (cc)
null-there h (at.Copy i) id slot e is = absurd (cc)
null-there h at.Judge id slot e is = absurd (cc)
null-there h (at.Free i) id slot e is = absurd (cc)
null-there h (at.Seed i) id slot e is = absurd (cc)
null-there h (at.Flip i) id slot e is = absurd (cc)
null-there h (at.Into i k to) id slot e is = absurd (cc)
null-there h (at.Strengthen i k to) id slot e is = absurd (cc)
null-there h at.End id slot e is = absurd (cc)

-- the object is live
pub slot-live : {slots : ℕ} {v : TablesView} {c : Core} (h : Stands slots v c) (r : RoundAt) (id slot : ℕ) → asked v.round ≡ r → slot_at r ≡ Some (id, slot) → is_live c.cells id ≡ true
slot-live {c} h (at.Look i k) id slot e is = subst (λ (n : ℕ). is_live c.cells n ≡ true) (ap first_in is) (there-at h (at.Look i k) e).0
slot-live {c} h (at.Cut i k) id slot e is = subst (λ (n : ℕ). is_live c.cells n ≡ true) (ap first_in is) (there-at h (at.Cut i k) e).0
slot-live {c} h (at.Test i k) id slot e is = subst (λ (n : ℕ). is_live c.cells n ≡ true) (ap first_in is) (there-at h (at.Test i k) e).0
slot-live {c} h (at.Out i k) id slot e is = subst (λ (n : ℕ). is_live c.cells n ≡ true) (ap first_in is) (there-at h (at.Out i k) e).0
slot-live h at.Queue id slot e is = absurd (cc)
slot-live h (at.Copy i) id slot e is = absurd (cc)
slot-live h at.Judge id slot e is = absurd (cc)
slot-live h (at.Free i) id slot e is = absurd (cc)
slot-live h (at.Seed i) id slot e is = absurd (cc)
slot-live h (at.Flip i) id slot e is = absurd (cc)
slot-live h (at.Into i k to) id slot e is = absurd (cc)
slot-live h (at.Strengthen i k to) id slot e is = absurd (cc)
slot-live h at.End id slot e is = absurd (cc)

-- and where all pages are held, so are those of each of its slots
pub slot-pages : {slots : ℕ} {v : TablesView} {c : Core} (h : Stands slots v c) (held : List (HeldFrame slots)) (id slot : ℕ) → is_live c.cells id ≡ true → HoldsAll v.ids held → HoldsPagesOf held (object_and_targets c.cells id slot 0)
slot-pages {v} {c} h held id slot live all = all-objects v.ids (object_and_targets c.cells id slot 0) held (few-slot h id slot live).within all

-- where the object's slot is null, there is nothing to do at it
pub null-idle : {slots : ℕ} {v : TablesView} {c : Core} (h : Stands slots v c) (r : RoundAt) (id slot k : ℕ) → asked v.round ≡ r → slot_at r ≡ Some (id, slot) → (pointer_at c.cells id k).target ≡ 0 → IsIdleAt c.cells v.round (at_slot r k)
null-idle {c} h (at.Look i s) id slot k e is zero = let one : i ≡ id = ap first_in is in rw one (null-weak c.cells id k zero)
null-idle h (at.Cut i s) id slot k e is zero = let one : i ≡ id = ap first_in is in rw one zero
null-idle {c} h (at.Test i s) id slot k e is zero = let one : i ≡ id = ap first_in is in rw one (null-weak c.cells id k zero)
null-idle {v} {c} h (at.Out i s) id slot k e is zero =
    let one : i ≡ id = ap first_in is in
    ap (λ (n : ℕ). is_white_in c.cells v.round (pointer_at c.cells n k).target) one ∙ (ap (is_white_in c.cells v.round) zero ∙ null-white h (green-of v.round (at.Out i s) tt e))
null-idle h at.Queue id slot k e is zero = absurd (cc)
null-idle h (at.Copy i) id slot k e is zero = absurd (cc)
null-idle h at.Judge id slot k e is zero = absurd (cc)
null-idle h (at.Free i) id slot k e is zero = absurd (cc)
null-idle h (at.Seed i) id slot k e is zero = absurd (cc)
null-idle h (at.Flip i) id slot k e is zero = absurd (cc)
null-idle h (at.Into i s to) id slot k e is zero = absurd (cc)
null-idle h (at.Strengthen i s to) id slot k e is zero = absurd (cc)
null-idle h at.End id slot k e is zero = absurd (cc)

pub same-slot : (r : RoundAt) (id slot : ℕ) → slot_at r ≡ Some (id, slot) → at_slot r slot ≡ r
same-slot (at.Look i s) id slot is = let other : s ≡ slot = ap second_in is in rw other refl
same-slot (at.Cut i s) id slot is = let other : s ≡ slot = ap second_in is in rw other refl
same-slot (at.Test i s) id slot is = let other : s ≡ slot = ap second_in is in rw other refl
same-slot (at.Out i s) id slot is = let other : s ≡ slot = ap second_in is in rw other refl
same-slot at.Queue id slot is = absurd (cc)
same-slot (at.Copy i) id slot is = absurd (cc)
same-slot at.Judge id slot is = absurd (cc)
same-slot (at.Free i) id slot is = absurd (cc)
same-slot (at.Seed i) id slot is = absurd (cc)
same-slot (at.Flip i) id slot is = absurd (cc)
same-slot (at.Into i s to) id slot is = absurd (cc)
same-slot (at.Strengthen i s to) id slot is = absurd (cc)
same-slot at.End id slot is = absurd (cc)

-- ---- looks after looks

looks-behind : (slots : ℕ) (cells : List Cell) {u v w : RoundView} → Passes slots cells u v → Passes slots cells v w → Passes slots cells u w
looks-behind slots cells p none = p
looks-behind slots cells p (more x q e) = more x (looks-behind slots cells p q) e

pub passed-behind : (slots : ℕ) (u v w : TablesView) (held : List (HeldFrame slots)) → HasPassed slots u v held → HasPassed slots v w held → HasPassed slots u w held
passed-behind slots u v w held p q = record {
  same = q.same ∙ ap (λ (x : TablesView). let y : TablesView = record x { round = w.round } in y) p.same;
  passes = λ c h agree. looks-behind slots c.cells (p.passes c h agree) (q.passes c (p.stands c h agree) agree);
  stands = λ c h agree. q.stands c (p.stands c h agree) agree;
}

-- where all pages are held, so are those of what is looked at next
pub pages-looked : {slots : ℕ} {v w : TablesView} {held : List (HeldFrame slots)} → HasPassed slots v w held → (c : Core) → Stands slots v c → Agree c.cells held → HoldsAll v.ids held → HoldsPagesOf held (objects_at c.cells (asked w.round))
pages-looked {slots} {v} {w} {held} p c h agree all =
    all-objects w.ids (objects_at c.cells (asked w.round)) held (asked-few (p.stands c h agree)).within (subst (λ n. HoldsAll n held) (sym (ap (λ (x : TablesView). x.ids) p.same)) all)
