-- The collector goes to a slot further on, over slots at which there is nothing to do: this is a run of looks.
use Rattle.std.proofs.Common.{◌≡◌, ◌≢◌, ℕ, zero, suc, ◌+◌, ◌-◌, ◌<◌, ◌≤◌, List, drop, length, Bool, false, Some, refl, sym, ap, ◌∙◌, subst, arith}
use Rattle.std.specs.Prelude.{◌==◌, ◌&&◌, if◌then◌else◌}
use Rattle.std.proofs.lemmas.Bool.{ne_eqb}
use Rattle.cell_model.specs.Cells.{Cell, cell_at, pointer_at}
use Rattle.store_model.specs.Core.{Core}
use Rattle.red_walk.specs.Walk.{Walk, moved_to}
use Rattle.red_walk.proofs.KeptLaws.{moved-to-law}
use Rattle.green_walk.specs.declared.sweep.Found.TheVariants.{Nothing}
use Rattle.green_walk.specs.Sweeping.{SweepState as Sweep}
use Rattle.green_walk.specs.Greening.{GreenStage, AtSeed, AtInto, AtOut, Greening, found, settled, tested, tested_to, waits, walked_at, walked_to}
use Rattle.green_walk.proofs.GreenSteps.{settled-waits}
use Rattle.green_walk.proofs.JumpLaws.{tested-to-law, walked-to-law}
use Rattle.core_store.specs.declared.round_at.RoundAt.{RoundAt}
use Rattle.core_store.specs.declared.round_at.RoundAt.TheVariants as at
use Rattle.core_store.specs.declared.three.HeldFrame.{HeldFrame}
use Rattle.core_store.specs.RoundView.{RoundView, Walking, Sweeping, asked, is_event, is_white, looked_past, passed_by_sweep, to_slot, swept_to, looked_to, left_of, Passes, more}
use Rattle.core_store.specs.Tables.{TablesView}
use Rattle.core_store.specs.Stands.{Stands}
use Rattle.core_store.specs.Frames.{Agree}
use Rattle.core_store.specs.Ready.{IsStanding}
use Rattle.core_store.specs.Changes.{has_no_strong, is_counted_strong}
use Rattle.core_store.specs.Passed.{HasPassed}
use Rattle.core_store.specs.SlotLooks.{slot_at, waits_in, is_white_in}
use Rattle.core_store.proofs.IdleSlots.{at_slot, IsIdleAt}
use Rattle.core_store.proofs.AskedLaws.{asked-look, asked-cut}
use Rattle.core_store.proofs.SeenLaws.{GreenOf, green-of, passed-by}
use Rattle.core_store.proofs.RoundLaws.{green-goes}
use Rattle.core_store.proofs.LeftLaws.{left-passed}
use Rattle.core_store.proofs.PassLaws.{passed-none, passed-more}
use Rattle.core_store.proofs.NullLaws.{look-on, sweeps, white-in, idle-nothing, idle-next, null-idle, same-slot}

-- ---- to go on from such a slot is to go to the next one

look-goes : (slots : ℕ) (cells : List Cell) (r : RoundView) (id k : ℕ) → asked r ≡ at.Look id k → looked_past slots cells r ≡ looked_to slots r (k + 1)
look-goes slots cells r id k e =
    let x = asked-look r id k e in
    let w = x.0 in
    let on = look-on (drop w.place w.list) w.slot (drop (length w.copies) w.list) id k x.2 in
    ap (looked_past slots cells) x.1 ∙ (ap (λ (n : ℕ). Walking (moved_to slots w (n + 1))) on.0 ∙ ap (λ (q : RoundView). looked_to slots q (k + 1)) (sym x.1))

cut-goes : (slots : ℕ) (cells : List Cell) (r : RoundView) (id k : ℕ) → asked r ≡ at.Cut id k → looked_past slots cells r ≡ looked_to slots r (k + 1)
cut-goes slots cells r id k e =
    let x = asked-cut r id k e in
    ap (looked_past slots cells) x.3 ∙ (ap (passed_by_sweep slots cells x.0 x.1 k x.2) x.4 ∙ sym (ap (λ (q : RoundView). looked_to slots q (k + 1)) x.3 ∙ ap (swept_to slots x.0 x.1 k x.2 (k + 1)) x.4))

test-goes : (slots : ℕ) (cells : List Cell) (r : RoundView) (id k : ℕ) → asked r ≡ at.Test id k → is_counted_strong cells (pointer_at cells id k) ≡ false → looked_past slots cells r ≡ looked_to slots r (k + 1)
test-goes slots cells r id k e weak =
    let x = green-of r (at.Test id k) tt e in
    let g = x.of in
    let past : looked_past slots cells r ≡ Sweeping x.walk x.swept x.slot (tested g) = x.passes slots cells ∙ ap (λ (b : Bool). Sweeping x.walk x.swept x.slot (if b then found g Nothing else tested g)) weak in
    let jump : tested g ≡ tested_to g (k + 1) = (tested-to-law g x.asks.0 0 0 x.asks.1).0 ∙ ap (λ (n : ℕ). tested_to g (n + 1)) x.asks.3 in
    past ∙ (ap (Sweeping x.walk x.swept x.slot) jump ∙ sym (x.goes slots (k + 1)))

out-goes : (slots : ℕ) (cells : List Cell) (r : RoundView) («from» k : ℕ) → asked r ≡ at.Out «from» k → is_white_in cells r (pointer_at cells «from» k).target ≡ false → looked_past slots cells r ≡ looked_to slots r (k + 1)
out-goes slots cells r «from» k e idle =
    let x = green-of r (at.Out «from» k) tt e in
    let g = x.of in
    let white : is_white cells g (pointer_at cells «from» k).target ≡ false = white-in cells x (pointer_at cells «from» k).target ∙ idle in
    let past : looked_past slots cells r ≡ Sweeping x.walk x.swept x.slot (found g Nothing) = x.passes slots cells ∙ rw white refl in
    past ∙ (ap (Sweeping x.walk x.swept x.slot) (walked-to-law g «from» k 0 0 x.asks.0).0 ∙ sym (x.goes slots (k + 1)))

idle-goes : (slots : ℕ) (cells : List Cell) (q : RoundView) (r : RoundAt) (k : ℕ) → asked q ≡ at_slot r k → IsIdleAt cells q (at_slot r k) → looked_past slots cells q ≡ looked_to slots q (k + 1)
idle-goes slots cells q (at.Look id slot) k e idle = look-goes slots cells q id k e
idle-goes slots cells q (at.Cut id slot) k e idle = cut-goes slots cells q id k e
idle-goes slots cells q (at.Test id slot) k e idle = test-goes slots cells q id k e idle
idle-goes slots cells q (at.Out «from» slot) k e idle = out-goes slots cells q «from» k e idle
idle-goes slots cells q at.Queue k e idle = absurd idle
idle-goes slots cells q (at.Copy id) k e idle = absurd idle
idle-goes slots cells q at.Judge k e idle = absurd idle
idle-goes slots cells q (at.Free id) k e idle = absurd idle
idle-goes slots cells q (at.Seed id) k e idle = absurd idle
idle-goes slots cells q (at.Flip id) k e idle = absurd idle
idle-goes slots cells q (at.Into «from» slot to) k e idle = absurd idle
idle-goes slots cells q (at.Strengthen «from» slot to) k e idle = absurd idle
idle-goes slots cells q at.End k e idle = absurd idle

-- ---- what waits goes on to wait

at-waits : (g : Greening) (st : GreenStage) (n id : ℕ) → waits (walked_at g st n) id ≡ waits g id
at-waits g (AtOut place slot) n id = refl
at-waits g AtSeed n id = refl
at-waits g (AtInto flipped rest) n id = refl

walked-waits : (g : Greening) (n id : ℕ) → waits (walked_to g n) id ≡ waits g id
walked-waits g n id = at-waits (settled g) (settled g).stage n id ∙ settled-waits g id

pub out-waits : (slots : ℕ) (r : RoundView) («from» j n id : ℕ) → asked r ≡ at.Out «from» j → waits_in (looked_to slots r n) id ≡ waits_in r id
out-waits slots r «from» j n id e =
    let x = green-of r (at.Out «from» j) tt e in
    ap (λ (q : RoundView). waits_in q id) (x.goes slots n) ∙ (walked-waits x.of n id ∙ sym (ap (λ (q : RoundView). waits_in q id) x.is))

-- so there is nothing to do at a slot where there was nothing before the looks
idle-behind : (slots : ℕ) (cells : List Cell) (q : RoundView) (r : RoundAt) (n k : ℕ) → asked q ≡ r → IsIdleAt cells q (at_slot r k) → IsIdleAt cells (looked_to slots q n) (at_slot r k)
idle-behind slots cells q (at.Look id slot) n k e idle = idle
idle-behind slots cells q (at.Cut id slot) n k e idle = idle
idle-behind slots cells q (at.Test id slot) n k e idle = idle
idle-behind slots cells q (at.Out «from» slot) n k e idle =
    let to = (pointer_at cells «from» k).target in
    ap (λ (b : Bool). b && has_no_strong (cell_at cells to)) (out-waits slots q «from» slot n to e) ∙ idle
idle-behind slots cells q at.Queue n k e idle = absurd idle
idle-behind slots cells q (at.Copy id) n k e idle = absurd idle
idle-behind slots cells q at.Judge n k e idle = absurd idle
idle-behind slots cells q (at.Free id) n k e idle = absurd idle
idle-behind slots cells q (at.Seed id) n k e idle = absurd idle
idle-behind slots cells q (at.Flip id) n k e idle = absurd idle
idle-behind slots cells q (at.Into «from» slot to) n k e idle = absurd idle
idle-behind slots cells q (at.Strengthen «from» slot to) n k e idle = absurd idle
idle-behind slots cells q at.End n k e idle = absurd idle

-- ---- who goes to a slot and from there to another one has gone to that one

look-twice : (slots : ℕ) (r : RoundView) (id j k m : ℕ) → asked r ≡ at.Look id j → k < slots → looked_to slots (looked_to slots r k) m ≡ looked_to slots r m
look-twice slots r id j k m e l =
    let x = asked-look r id j e in
    subst (λ (q : RoundView). looked_to slots (looked_to slots q k) m ≡ looked_to slots q m) (sym x.1) (ap Walking (moved-to-law slots x.0 k m l))

there-slot : (slots : ℕ) (w : Walk) (s : Sweep) (k : ℕ) (g : Greening) → k < slots → to_slot slots w s k g ≡ Sweeping w s k g
there-slot slots w s k g l = let other : (k == slots) ≡ false = ne_eqb k slots (λ e. absurd (omega (arith, l, e))) in rw other refl

cut-twice : (slots : ℕ) (r : RoundView) (id j k m : ℕ) → asked r ≡ at.Cut id j → k < slots → looked_to slots (looked_to slots r k) m ≡ looked_to slots r m
cut-twice slots r id j k m e l =
    let x = asked-cut r id j e in
    let goes : (n i : ℕ) → looked_to slots (Sweeping x.0 x.1 i x.2) n ≡ to_slot slots x.0 x.1 n x.2 = λ n i. ap (swept_to slots x.0 x.1 i x.2 n) x.4 in
    subst (λ (q : RoundView). looked_to slots (looked_to slots q k) m ≡ looked_to slots q m) (sym x.3)
    (ap (λ (q : RoundView). looked_to slots q m) (goes k j ∙ there-slot slots x.0 x.1 k x.2 l) ∙ (goes m k ∙ sym (goes m j)))

test-twice : (slots : ℕ) (r : RoundView) (id j k m : ℕ) → asked r ≡ at.Test id j → asked (looked_to slots r k) ≡ at.Test id k → looked_to slots (looked_to slots r k) m ≡ looked_to slots r m
test-twice slots r id j k m e f =
    let x = green-of r (at.Test id j) tt e in
    let g = x.of in
    let at_k = x.goes slots k in
    ap (λ (q : RoundView). looked_to slots q m) at_k
    ∙ (green-goes slots x.walk x.swept x.slot m (tested_to g k) (at.Test id k) x.rest (ap asked (sym at_k) ∙ f) ∙ (ap (Sweeping x.walk x.swept x.slot) (tested-to-law g x.asks.0 k m x.asks.1).1 ∙ sym (x.goes slots m)))

out-twice : (slots : ℕ) (r : RoundView) («from» j k m : ℕ) (x : GreenOf r (at.Out «from» j)) → k < x.of.slots → asked (looked_to slots r k) ≡ at.Out «from» k → looked_to slots (looked_to slots r k) m ≡ looked_to slots r m
out-twice slots r «from» j k m x l f =
    let g = x.of in
    let at_k = x.goes slots k in
    ap (λ (q : RoundView). looked_to slots q m) at_k
    ∙ (green-goes slots x.walk x.swept x.slot m (walked_to g k) (at.Out «from» k) x.rest (ap asked (sym at_k) ∙ f) ∙ (ap (Sweeping x.walk x.swept x.slot) ((walked-to-law g «from» j k m x.asks.0).1 l) ∙ sym (x.goes slots m)))

module _ {slots : ℕ} {v : TablesView} {c : Core} (h : Stands slots v c) where
  pub goes-twice : (r : RoundAt) (id slot j k m : ℕ) → slot_at r ≡ Some (id, slot) → asked v.round ≡ at_slot r j → k < slots → asked (looked_to slots v.round k) ≡ at_slot r k → looked_to slots (looked_to slots v.round k) m ≡ looked_to slots v.round m
  goes-twice (at.Look i s) id slot j k m is e l f = look-twice slots v.round i j k m e l
  goes-twice (at.Cut i s) id slot j k m is e l f = cut-twice slots v.round i j k m e l
  goes-twice (at.Test i s) id slot j k m is e l f = test-twice slots v.round i j k m e f
  goes-twice (at.Out i s) id slot j k m is e l f =
      let x = green-of v.round (at.Out i j) tt e in
      let size = (sweeps h x).greens.green_slots in
      out-twice slots v.round i j k m x (omega (arith, size, l)) f
  goes-twice at.Queue id slot j k m is e l f = absurd (cc)
  goes-twice (at.Copy i) id slot j k m is e l f = absurd (cc)
  goes-twice at.Judge id slot j k m is e l f = absurd (cc)
  goes-twice (at.Free i) id slot j k m is e l f = absurd (cc)
  goes-twice (at.Seed i) id slot j k m is e l f = absurd (cc)
  goes-twice (at.Flip i) id slot j k m is e l f = absurd (cc)
  goes-twice (at.Into i s to) id slot j k m is e l f = absurd (cc)
  goes-twice (at.Strengthen i s to) id slot j k m is e l f = absurd (cc)
  goes-twice at.End id slot j k m is e l f = absurd (cc)

-- ---- over several slots

-- slots of the object were looked at up to this one, which is looked at next, if the object has it, and less is left to do
pub record HasGone (slots : ℕ) (v w : TablesView) (held : List (HeldFrame slots)) (r : RoundAt) (n : ℕ) : Type 0 where
  pub passed : HasPassed slots v w held
  pub next : n < slots → asked w.round ≡ at_slot r n
  pub lower : left_of slots w.round < left_of slots v.round

module _ {slots : ℕ} (v : TablesView) (held : List (HeldFrame slots)) (t : IsStanding v held) (r : RoundAt) (id first : ℕ) (is : slot_at r ≡ Some (id, first)) (e : asked v.round ≡ r) where
  abbrev gone : ℕ → TablesView
  gone n = record v { round = looked_to slots v.round n }

  abbrev IsGone : ℕ → Type 0
  IsGone n = HasGone slots v (gone n) held r n

  -- there is nothing to do at this slot in whatever stands after the tables and these held pages
  abbrev pub IsIdle : ℕ → Type 0
  IsIdle k = (d : Core) → Stands slots v d → Agree d.cells held → IsIdleAt d.cells v.round (at_slot r k)

  at-first : asked v.round ≡ at_slot r first
  at-first = e ∙ sym (same-slot r id first is)

  gone-first : IsIdle first → IsGone (first + 1)
  gone-first idle =
      let nothing : (d : Core) → Stands slots v d → Agree d.cells held → is_event d.cells (asked v.round) ≡ false = λ d h agree. ap (is_event d.cells) at-first ∙ idle-nothing d.cells v.round (at_slot r first) (idle d h agree) in
      let goes : (d : Core) → Stands slots v d → Agree d.cells held → looked_to slots v.round (first + 1) ≡ looked_past slots d.cells v.round = λ d h agree. sym (idle-goes slots d.cells v.round r first at-first (idle d h agree)) in
      record {
        passed = passed-more slots v v (gone (first + 1)) held (passed-none slots v held) (record {
          same = refl;
          nothing = nothing;
          passes = goes;
          stands = λ d h agree. (passed-by h (looked_to slots v.round (first + 1)) (nothing d h agree) (goes d h agree)).stands;
        });
        next = λ l. ap asked (goes t.core t.stands t.agree) ∙ idle-next t.stands r first at-first (idle t.core t.stands t.agree) l;
        lower = subst (λ (q : RoundView). left_of slots q < left_of slots v.round) (sym (goes t.core t.stands t.agree)) (left-passed slots v.ids t.core.cells v.round t.stands.in_step (nothing t.core t.stands t.agree));
      }

  gone-more : (n : ℕ) → IsGone n → n < slots → IsIdle n → IsGone (n + 1)
  gone-more n g l idle =
      let u = gone n in
      let at_n = g.next l in
      let here : (d : Core) → Stands slots v d → Agree d.cells held → IsIdleAt d.cells u.round (at_slot r n) = λ d h agree. idle-behind slots d.cells v.round r n n e (idle d h agree) in
      let nothing : (d : Core) → Stands slots v d → Agree d.cells held → is_event d.cells (asked u.round) ≡ false = λ d h agree. ap (is_event d.cells) at_n ∙ idle-nothing d.cells u.round (at_slot r n) (here d h agree) in
      let twice : looked_to slots u.round (n + 1) ≡ looked_to slots v.round (n + 1) = goes-twice t.stands r id first first n (n + 1) is at-first l at_n in
      let goes : (d : Core) → Stands slots v d → Agree d.cells held → looked_to slots v.round (n + 1) ≡ looked_past slots d.cells u.round = λ d h agree. sym (idle-goes slots d.cells u.round r n at_n (here d h agree) ∙ twice) in
      let before = g.passed.stands t.core t.stands t.agree in
      let less : left_of slots (looked_past slots t.core.cells u.round) < left_of slots u.round = left-passed slots v.ids t.core.cells u.round before.in_step (nothing t.core t.stands t.agree) in
      let lower = g.lower in
      let both : left_of slots (looked_past slots t.core.cells u.round) < left_of slots v.round = omega (arith, less, lower) in
      record {
        passed = record {
          same = refl;
          passes = λ d h agree. subst (λ (q : RoundView). Passes slots d.cells v.round q) (sym (goes d h agree)) (more u.round (g.passed.passes d h agree) (nothing d h agree));
          stands = λ d h agree. (passed-by (g.passed.stands d h agree) (looked_to slots v.round (n + 1)) (nothing d h agree) (goes d h agree)).stands;
        };
        next = λ m. ap asked (goes t.core t.stands t.agree) ∙ idle-next before r n at_n (here t.core t.stands t.agree) m;
        lower = subst (λ (q : RoundView). left_of slots q < left_of slots v.round) (sym (goes t.core t.stands t.agree)) both;
      }

  gone-behind : (n : ℕ) → first + 1 + n ≤ slots → ((k : ℕ) → first ≤ k → k < first + 1 + n → IsIdle k) → IsGone (first + 1 + n)
  gone-behind zero l idle = subst IsGone (omega arith) (gone-first (idle first (omega arith) (omega arith)))
  gone-behind (suc n) l idle =
      subst IsGone (omega arith) (gone-more (first + 1 + n) (gone-behind n (omega (arith, l)) (λ k a b. idle k a (omega (arith, b)))) (omega (arith, l)) (idle (first + 1 + n) (omega arith) (omega arith)))

  -- where there is nothing to do at all slots up to this one, to go to it is a run of looks at them
  pub slots-passed : (place : ℕ) → first < place → place ≤ slots → ((k : ℕ) → first ≤ k → k < place → IsIdle k) → IsGone place
  slots-passed place some few idle =
      let same : first + 1 + (place - (first + 1)) ≡ place = omega (arith, some) in
      subst IsGone same (gone-behind (place - (first + 1)) (omega (arith, same, few)) (λ k a b. idle k a (omega (arith, same, b))))

-- the same, of the tables as they are after it
pub slots-behind : {slots : ℕ} (v w : TablesView) (held : List (HeldFrame slots)) → IsStanding v held → (r : RoundAt) (id first place : ℕ) → slot_at r ≡ Some (id, first) → r ≡ asked v.round → first ≤ place → place ≢ first → place ≤ slots
    → ((k : ℕ) → first ≤ k → k < place → (d : Core) → Stands slots v d → Agree d.cells held → IsIdleAt d.cells v.round (at_slot r k)) → w ≡ record v { round = looked_to slots v.round place } → HasGone slots v w held r place
slots-behind {slots} v w held t r id first place is e behind other few idle same =
    subst (λ (x : TablesView). HasGone slots v x held r place) (sym same) (slots-passed v held t r id first is (sym e) place (omega (arith, behind, other)) few idle)

-- and where they are null
pub nulls-behind : {slots : ℕ} (v w : TablesView) (held : List (HeldFrame slots)) → IsStanding v held → (r : RoundAt) (id first place : ℕ) → slot_at r ≡ Some (id, first) → r ≡ asked v.round → first ≤ place → place ≢ first → place ≤ slots
    → ((k : ℕ) → first ≤ k → k < place → (d : Core) → Agree d.cells held → (pointer_at d.cells id k).target ≡ 0) → w ≡ record v { round = looked_to slots v.round place } → HasPassed slots v w held
nulls-behind v w held t r id first place is e behind other few null same =
    (slots-behind v w held t r id first place is e behind other few (λ k a b d h agree. null-idle h r id first k (sym e) is (null k a b d agree)) same).passed
