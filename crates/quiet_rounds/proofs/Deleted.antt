-- What a whole quiet round deletes, and what it keeps.
use Rattle.std.proofs.Common.{◌≡◌, ℕ, true, false, List, [], Option, Some, None, sym, ap, ◌∙◌, subst, ⊎_elim, true≢false}
use Rattle.std.specs.Prelude.{Contains}
use Rattle.std.specs.Option.{option_map_or}
use Rattle.std.proofs.lemmas.Bool.{false_from_ne_true}
use Rattle.cell_model.specs.Cells.{Cell, is_live}
use Rattle.store_model.specs.Core.{Core, Round}
use Rattle.store_model.proofs.OnceLaws.{nothing-in}
use Rattle.store_model.proofs.VerdictLaws.{decide_among}
use Rattle.red_walk.specs.Walk.{opened}
use Rattle.red_walk.specs.Rounds.{round_of as walked}
use Rattle.green_walk.specs.Sweeping.{unfreed}
use Rattle.core_store.specs.declared.act.Act.TheVariants as act
use Rattle.core_store.specs.Collects.{Ends}
use Rattle.core_store.specs.RoundView.{RoundView, Closed, Walking, Sweeping}
use Rattle.quiet_rounds.specs.Quiet.{IsQuietRound}
use Rattle.quiet_rounds.specs.WholeRounds.{IsDominated, IsLedFromOutside, out_of as out_of_dominated, onwards as onwards_outside, OpenRun, none, looks, event, IsWholeRound, DominatedLaw, DeletedLaw, KeptLaw}
use Rattle.quiet_rounds.proofs.Rounds.{quiet-events}
use Rattle.quiet_rounds.proofs.Looks.{quiet-looks}
use Rattle.quiet_rounds.proofs.Stayed.{IsSameAt, same-at, IsLedFrom, out_of, onwards, IsStayed, HasStayed, looks-stay}
use Rattle.quiet_rounds.proofs.StayedEvents.{event-stays}

-- ---- along the round

-- the round is quiet, and all but what it frees is as at the start
abbrev IsQuietAndStayed : List Cell → ℕ → Core → RoundView → Type 0
IsQuietAndStayed first slots c u = IsQuietRound slots c.cells u × HasStayed first c.cells u

runs-stay : (first : List Cell) (slots : ℕ) (c : Core) (u : RoundView) (d : Core) (v : RoundView) (n : ℕ) → OpenRun slots c u d v n → IsQuietAndStayed first slots c u → IsQuietAndStayed first slots d v
runs-stay first slots c u _ _ _ none h = h
runs-stay first slots c u _ _ _ (looks d v w n r still p) h =
    let b = runs-stay first slots c u d v n r h in
    (quiet-looks slots d v w still.sound still.slots_are still.quiet still.round still.in_step p b.0, looks-stay slots first d.cells v w b.1 p)
runs-stay first slots c u _ _ _ (event d e v w act logged n r q still) h =
    let b = runs-stay first slots c u d v n r h in
    ((quiet-events slots d e v w act logged q b.0).0, event-stays slots first d e v w act logged q b.0 b.1 still)

-- ---- at its end

module _ (slots : ℕ) (c d : Core) (x events : ℕ) (r : IsWholeRound slots c d x events) where
  opens : IsQuietAndStayed c.cells slots r.opening (Walking (opened c.moment.state.ids x))
  opens = (
    (quiet-events slots c r.opening Closed (Walking (opened c.moment.state.ids x)) (act.Start x) None r.starts tt).0,
    λ id. subst (λ (cells : List Cell). IsSameAt c.cells cells id) (sym (ap (λ (k : Core). k.cells) r.starts.after)) (same-at c.cells id),
  )

  closes : IsStayed c.cells r.last.cells r.walk.list r.swept.list (unfreed r.swept)
  closes = (runs-stay c.cells slots r.opening (Walking (opened c.moment.state.ids x)) r.last (Sweeping r.walk r.swept r.slot r.greening) r.between r.runs opens).1

  none_left : unfreed r.swept ≡ []
  none_left =
      let k : Ends r.last d.queue d.round = r.ends.collects in
      let round : Some k.of ≡ Some (record (walked r.walk) { judged = true; condemned = unfreed r.swept }) = sym k.there ∙ sym r.ends.before in
      let same : k.of.condemned ≡ unfreed r.swept = ap (λ (o : Option Round). option_map_or (λ (y : Round). y.condemned) o []) round in
      sym same ∙ k.none_left

  same_cells : r.last.cells ≡ d.cells
  same_cells = sym (ap (λ (k : Core). k.cells) r.ends.after)

  at_end : IsStayed c.cells d.cells r.walk.list r.swept.list []
  at_end =
      subst (λ (cells : List Cell). IsStayed c.cells cells r.walk.list r.swept.list []) same_cells
      (subst (λ (left : List ℕ). IsStayed c.cells r.last.cells r.walk.list r.swept.list left) none_left closes)

  -- what was chosen is gone
  chosen-gone : (id : ℕ) → Contains r.swept.list id → is_live d.cells id ≡ false
  chosen-gone id m = false_from_ne_true (is_live d.cells id) (λ l. nothing-in id (at_end.gone id m l))

  kept-same : (id : ℕ) → is_live d.cells id ≡ true → IsSameAt c.cells d.cells id
  kept-same id l = at_end.spared id (λ m. true≢false (sym l ∙ chosen-gone id m))

pub kept : KeptLaw
kept slots c d x events r id l = let s = kept-same slots c d x events r id l in (sym s.live ∙ l, s.object)

-- ---- what it deletes

from-outside : (cells : List Cell) (x : ℕ) (list : List ℕ) → ((id : ℕ) → Contains list id → IsDominated cells x id) → {id : ℕ} → IsLedFromOutside cells x id → IsLedFrom cells list id
from-outside cells x list f (out_of_dominated u slot l n t) = out_of u slot l (λ m. n (f u m)) t
from-outside cells x list f (onwards_outside id slot l t) = onwards id slot (from-outside cells x list f l) t

to-outside : (cells : List Cell) (x : ℕ) (list : List ℕ) → ((id : ℕ) → IsDominated cells x id → Contains list id) → {id : ℕ} → IsLedFrom cells list id → IsLedFromOutside cells x id
to-outside cells x list f (out_of u slot l n t) = out_of_dominated u slot l (λ m. n (f u m)) t
to-outside cells x list f (onwards id slot l t) = onwards_outside id slot (to-outside cells x list f l) t

pub deleted : DominatedLaw → DeletedLaw
deleted dominated slots c d x events r id live =
    let list = r.walk.list in
    let among : (y : ℕ) → Contains list y → IsDominated c.cells x y = λ y. (dominated slots c d x events r y).0 in
    let has : (y : ℕ) → IsDominated c.cells x y → Contains list y = λ y. (dominated slots c d x events r y).1 in
    let stayed = at_end slots c d x events r in (
      λ gone. ⊎_elim
          (λ m. let k = stayed.chosen_are id m in (among id k.0, λ l. k.1 (from-outside c.cells x list among l)))
          (λ n. absurd (true≢false (sym live ∙ sym (stayed.spared id n).live ∙ gone)))
          (decide_among r.swept.list id),
      λ h. chosen-gone slots c d x events r id (stayed.all_chosen id (has id h.0) (λ l. h.1 (to-outside c.cells x list has l))),
    )
