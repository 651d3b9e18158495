-- Looks over the slots of an object, up to one at which there is something to do.
use Rattle.std.proofs.Common.{◌≡◌, ℕ, ◌<◌, ◌≤◌, ◌≢◌, List, Bool, true, false, Some, sym, ap, ◌∙◌, subst, ⊎_elim}
use Rattle.std.specs.Prelude.{◌&&◌, ◌⊎◌}
use Rattle.std.proofs.lemmas.Bool.{and_parts}
use Rattle.cell_model.specs.Cells.{Cell, cell_at, pointer_at}
use Rattle.store_model.specs.Core.{Core}
use Rattle.green_walk.specs.declared.sweep.Found.TheVariants.{Nothing}
use Rattle.green_walk.specs.Greening.{found, testing, waits}
use Rattle.core_store.specs.declared.round_at.RoundAt.{RoundAt}
use Rattle.core_store.specs.declared.round_at.RoundAt.TheVariants as at
use Rattle.core_store.specs.Changes.{has_no_strong, is_counted_strong}
use Rattle.core_store.specs.SlotLooks.{slot_at, is_white_in}
use Rattle.core_store.proofs.IdleSlots.{at_slot, IsIdleAt}
use Rattle.core_store.specs.declared.three.HeldFrame.{HeldFrame}
use Rattle.core_store.specs.RoundView.{RoundView, Sweeping, asked, is_event, left_of, looked_to, Passes, more}
use Rattle.core_store.specs.Collecting.{IsPassedBy}
use Rattle.core_store.specs.Frames.{Agree}
use Rattle.core_store.specs.Passed.{HasPassed}
use Rattle.core_store.specs.Ready.{IsStanding}
use Rattle.core_store.specs.Stands.{Stands}
use Rattle.core_store.specs.Tables.{TablesView}
use Rattle.core_store.proofs.LeftLaws.{left-passed}
use Rattle.core_store.proofs.JumpLaws.{HasGone, slots-behind, out-waits}
use Rattle.core_store.proofs.NullLaws.{null-there, white-in}
use Rattle.core_store.proofs.SeenLaws.{GreenOf, green-of, into-passed, out-passed, test-passed}

-- what the tables stood for before the looks, they stand for after them
pub standing-behind : {slots : ℕ} (v w : TablesView) (held : List (HeldFrame slots)) → IsStanding v held → HasPassed slots v w held → IsStanding w held
standing-behind v w held t p = record { core = t.core; stands = p.stands t.core t.stands t.agree; agree = t.agree }

-- looks led from v to w, and less is left to do at w than at u
pub record HasPassedLower (slots : ℕ) (v u w : TablesView) (held : List (HeldFrame slots)) : Type 0 where
  pub passed : HasPassed slots v w held
  pub lower : left_of slots w.round < left_of slots u.round

pub one-more : {slots : ℕ} (v u w : TablesView) (held : List (HeldFrame slots)) → IsStanding v held → HasPassed slots v u held → ((d : Core) → Stands slots v d → Agree d.cells held → is_event d.cells (asked u.round) ≡ false)
    → ((d : Core) → Stands slots v d → Agree d.cells held → IsPassedBy slots d u w) → HasPassedLower slots v u w held
one-more {slots} v u w held t p nothing by =
    let s = p.stands t.core t.stands t.agree in
    let one = by t.core t.stands t.agree in
    record {
      passed = record {
        same = one.same ∙ ap (λ (x : TablesView). let y : TablesView = record x { round = w.round } in y) p.same;
        passes = λ d h agree. subst (λ (q : RoundView). Passes slots d.cells v.round q) (sym (by d h agree).round) (more u.round (p.passes d h agree) (nothing d h agree));
        stands = λ d h agree. (by d h agree).stands;
      };
      lower = subst (λ (q : RoundView). left_of slots q < left_of slots u.round) (sym one.round) (left-passed slots u.ids t.core.cells u.round s.in_step (nothing t.core t.stands t.agree));
    }

module _ {slots : ℕ} (v u w : TablesView) (held : List (HeldFrame slots)) (t : IsStanding v held) (p : HasPassed slots v u held) (same : w ≡ record u { round = w.round }) where
  -- a strong pointer of the tested object was found
  pub test-ended : (id slot : ℕ) (e : asked u.round ≡ at.Test id slot) → ((cells : List Cell) → Agree cells held → is_counted_strong cells (pointer_at cells id slot) ≡ true)
      → ((x : GreenOf u.round (at.Test id slot)) → w.round ≡ Sweeping x.walk x.swept x.slot (found x.of Nothing)) → HasPassedLower slots v u w held
  test-ended id slot e strong is =
      let x = green-of u.round (at.Test id slot) tt e in
      one-more v u w held t p (λ d h agree. ap (is_event d.cells) e)
      (λ d h agree. subst (λ (y : TablesView). IsPassedBy slots d u y) (sym same) (test-passed (p.stands d h agree) id slot x w.round true e (strong d.cells agree) (is x)))

  -- the target of a green object's slot is tested
  pub test-begun : («from» slot to : ℕ) (e : asked u.round ≡ at.Out «from» slot) → ((cells : List Cell) → Agree cells held → (pointer_at cells «from» slot).target ≡ to) → ((d : Core) → Stands slots v d → Agree d.cells held → is_white_in d.cells u.round to ≡ true)
      → ((x : GreenOf u.round (at.Out «from» slot)) → w.round ≡ Sweeping x.walk x.swept x.slot (testing x.of to)) → HasPassedLower slots v u w held
  test-begun «from» slot to e target white is =
      let x = green-of u.round (at.Out «from» slot) tt e in
      one-more v u w held t p (λ d h agree. ap (is_event d.cells) e)
      (λ d h agree. subst (λ (y : TablesView). IsPassedBy slots d u y) (sym same) (out-passed (p.stands d h agree) «from» slot to x w.round true e (target d.cells agree) (white-in d.cells x to ∙ white d h agree) (is x)))

  -- the slot holds no strong pointer to the flipped object
  pub into-passed-by : («from» slot to : ℕ) (e : asked u.round ≡ at.Into «from» slot to) → ((d : Core) → Agree d.cells held → is_event d.cells (at.Into «from» slot to) ≡ false)
      → ((x : GreenOf u.round (at.Into «from» slot to)) → w.round ≡ Sweeping x.walk x.swept x.slot (found x.of Nothing)) → HasPassedLower slots v u w held
  into-passed-by «from» slot to e nothing is =
      let x = green-of u.round (at.Into «from» slot to) tt e in
      let idle : (d : Core) → Agree d.cells held → is_event d.cells (asked u.round) ≡ false = λ d agree. ap (is_event d.cells) e ∙ nothing d agree in
      one-more v u w held t p (λ d h agree. idle d agree)
      (λ d h agree. subst (λ (y : TablesView). IsPassedBy slots d u y) (sym same) (into-passed (p.stands d h agree) «from» slot to x w.round e (idle d agree) (is x)))

-- what is to be tested waits
pub white-waits : (cells : List Cell) {r : RoundView} («from» slot to : ℕ) (x : GreenOf r (at.Out «from» slot)) → is_white_in cells r to ≡ true → waits x.of to ≡ true
white-waits cells «from» slot to x e = (and_parts (waits x.of to) (has_no_strong (cell_at cells to)) (white-in cells x to ∙ e)).0

-- and is so after looks at slots of the green object
pub white-behind : (slots : ℕ) (cells : List Cell) (r : RoundView) («from» j n to : ℕ) → asked r ≡ at.Out «from» j → is_white_in cells r to ≡ true → is_white_in cells (looked_to slots r n) to ≡ true
white-behind slots cells r «from» j n to e white = ap (λ (b : Bool). b && has_no_strong (cell_at cells to)) (out-waits slots r «from» j n to e) ∙ white

-- what is no look is an event
pub no-look : (cells : List Cell) (r : RoundAt) → (r ≡ at.Queue) ⊎ (((id : ℕ) × (r ≡ at.Copy id)) ⊎ ((r ≡ at.Judge) ⊎ (((id : ℕ) × (r ≡ at.Free id)) ⊎ (((id : ℕ) × (r ≡ at.Flip id)) ⊎ (((«from» : ℕ) × (slot : ℕ) × (to : ℕ) × (r ≡ at.Strengthen «from» slot to)) ⊎ (r ≡ at.End))))))
    → is_event cells r ≡ true
no-look cells r =
    ⊎_elim (λ e. ap (is_event cells) e)
    (⊎_elim (λ p. ap (is_event cells) p.1)
    (⊎_elim (λ e. ap (is_event cells) e)
    (⊎_elim (λ p. ap (is_event cells) p.1)
    (⊎_elim (λ p. ap (is_event cells) p.1)
    (⊎_elim (λ p. ap (is_event cells) p.3) (λ e. ap (is_event cells) e))))))

-- ---- up to a slot further on

module _ {slots : ℕ} (v : TablesView) (held : List (HeldFrame slots)) (t : IsStanding v held) (r : RoundAt) (id first : ℕ) (is : slot_at r ≡ Some (id, first)) (e : asked v.round ≡ r) where
  -- the slot is one of the object's
  pub first-within : first < slots
  first-within = (null-there t.stands r id first e is).2

  pub gone-to : (q : RoundView) (place : ℕ) → first ≤ place → place ≢ first → place ≤ slots → ((k : ℕ) → first ≤ k → k < place → (d : Core) → Stands slots v d → Agree d.cells held → IsIdleAt d.cells v.round (at_slot r k))
      → q ≡ looked_to slots v.round place → HasGone slots v (record v { round = q }) held r place
  gone-to q place behind other within idle goes =
      slots-behind v (record v { round = q }) held t r id first place is (sym e) behind other within idle (ap (λ (x : RoundView). let y : TablesView = record v { round = x } in y) goes)
