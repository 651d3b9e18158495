-- Before its verdict a quiet round only makes pointers weak that lead out of its objects, and each of its objects is strongly
-- dominated by the first.
use Rattle.std.proofs.Common.{◌≡◌, ◌≢◌, ℕ, Bool, true, false, not, cond, if◌then◌else◌, ◌==◌, List, [], ◌∷◌, refl, sym, ap, ◌∙◌, subst, Option, Some, arith, ⊎_elim, ne_eqb, true≢false, eq-eqb}
use Rattle.std.specs.Prelude.{Contains, ◌&&◌}
use Rattle.std.specs.Option.{option_map_or, unwrap_or}
use Rattle.std.proofs.lemmas.Bool.{and_parts, and_from, cases_eq, eqb-true, eqb-false, not-true, not_from_false}
use Rattle.std.proofs.lemmas.List.Elements.{Contains-append_cases}
use Rattle.plain_model.specs.Graphs.{root}
use Rattle.cell_model.specs.Cells.{Pointer, Cell, cell_at, pointer_at, is_live, same, other_strength, hits, counted, IsExact}
use Rattle.cell_model.specs.Strong.{IsStrongAt}
use Rattle.cell_model.specs.Records.{HasPointer}
use Rattle.store_model.specs.Core.{Round, Core}
use Rattle.store_model.specs.Steps.{with_listed}
use Rattle.cell_model.proofs.EditLaws.{live-within, live-there}
use Rattle.cell_model.proofs.CountLaws.{relinked-bit, relinked-counted, relinked-exact}
use Rattle.store_model.proofs.OnceLaws.{only-one}
use Rattle.ref_tables.specs.Queue.{has}
use Rattle.red_walk.specs.Walk.{Walk, moved, joined_by}
use Rattle.red_walk.specs.Rounds.{round_of as walked}
use Rattle.red_walk.proofs.Members.{Contains-has, absent}
use Rattle.log_record.specs.declared.cell_record.CellRecord.TheVariants as logs
use Rattle.core_store.specs.declared.act.Act.TheVariants as act
use Rattle.core_store.specs.Changes.{is_counted_strong, has_no_strong}
use Rattle.core_store.specs.Collects.{Weakens}
use Rattle.core_store.specs.RoundView.{Walking}
use Rattle.quiet_rounds.specs.Laws.{IsQuietEvent}
use Rattle.quiet_rounds.specs.WholeRounds.{IsDominated, itself, joins}
use Rattle.quiet_rounds.specs.RoundNotes.{is_to_join, listed_if}
use Rattle.quiet_rounds.proofs.Ends.{held-counts}
use Rattle.quiet_rounds.proofs.Moves.{weakened, weakened-less, weakened-here}
use Rattle.core_store.proofs.Strengths.{AreSameGraph, counted-parts, counted-from, turn-graph, turn-which, turn-apart}

-- the cells of a round of these objects, as they came from those at its start
pub record IsFrom (start : List Cell) (x : ℕ) (cells : List Cell) (list : List ℕ) : Type 0 where
  pub graph : AreSameGraph start cells
  -- what is strong was so
  pub weaker : (u k : ℕ) → is_counted_strong cells (pointer_at cells u k) ≡ true → is_counted_strong start (pointer_at start u k) ≡ true
  -- what was strong is so, where it doesn't lead out of an object of the round
  pub kept : (u k : ℕ) → (Contains list u → ⊥) → is_counted_strong start (pointer_at start u k) ≡ true → is_counted_strong cells (pointer_at cells u k) ≡ true
  pub dominated : (id : ℕ) → Contains list id → IsDominated start x id
  pub «first» : Contains list x
  -- no other object has lost its last strong pointer, and none has got one
  pub zero : (id : ℕ) → is_live cells id ≡ true → id ≢ root → (Contains list id → ⊥) → (cell_at cells id).strong ≡ 0 → (cell_at start id).strong ≡ 0
  pub none : (id : ℕ) → is_live cells id ≡ true → (cell_at start id).strong ≡ 0 → (cell_at cells id).strong ≡ 0

-- ---- strong pointers

pub strong-counted : (cells : List Cell) (u k to : ℕ) → IsStrongAt cells u k to → is_counted_strong cells (pointer_at cells u k) ≡ true
strong-counted cells u k to s = counted-from cells (pointer_at cells u k) (λ z. s.not_null (sym s.target ∙ z)) s.strong

-- a pointer that was strong, as a strong pointer of the other cells
pub strong-in_graph : (cells new : List Cell) → AreSameGraph cells new → (u k to : ℕ) → IsStrongAt cells u k to → is_counted_strong new (pointer_at new u k) ≡ true → IsStrongAt new u k to
strong-in_graph cells new graph u k to s e = record {
  live = graph.live u ∙ s.live;
  target = graph.target u k ∙ s.target;
  not_null = s.not_null;
  strong = (counted-parts new (pointer_at new u k) e).1;
}

pub strong-back : (cells new : List Cell) → AreSameGraph cells new → (u k to : ℕ) → IsStrongAt new u k to → is_counted_strong cells (pointer_at cells u k) ≡ true → IsStrongAt cells u k to
strong-back cells new graph u k to s e = record {
  live = sym (graph.live u) ∙ s.live;
  target = sym (graph.target u k) ∙ s.target;
  not_null = s.not_null;
  strong = (counted-parts cells (pointer_at cells u k) e).1;
}

-- ---- the start

pub from-start : (cells : List Cell) (x : ℕ) → IsFrom cells x cells (x ∷ [])
from-start cells x = record {
  graph = record { live = λ u. refl; target = λ u k. refl };
  weaker = λ u k e. e;
  kept = λ u k n e. e;
  dominated = λ id m. subst (λ y. IsDominated cells x y) (only-one x id m) itself;
  «first» = Rattle.store_model.proofs.Lists.Contains-here x [];
  zero = λ id l r n z. z;
  none = λ id l z. z;
}

-- ---- a pointer becomes weak

same-itself : (b : Bool) → same b b ≡ true
same-itself true = refl
same-itself false = refl

-- only the target counts otherwise
pub weakened-count : (cells : List Cell) (id slot : ℕ) → IsExact cells → (u : ℕ) → is_live cells u ≡ true → (pointer_at cells id slot).target ≢ u → (cell_at (weakened cells id slot) u).strong ≡ (cell_at cells u).strong
weakened-count cells id slot e u lu n =
    let p = pointer_at cells id slot in
    let old = cell_at cells u in
    let new = cell_at (weakened cells id slot) u in
    let bit : new.bit ≡ old.bit = relinked-bit cells id slot (other_strength p) u in
    let moved = relinked-counted cells id slot (other_strength p) u old.bit (live-there cells u e.none lu) (live-within cells u lu) in
    let less = no-hit old.bit p u n in
    let more = no-hit old.bit (other_strength p) u n in
    let was = counted-own old old.bit refl in
    let is = counted-own new old.bit bit in
    omega (arith, moved, less, more, was, is)
  where
    no-hit : (b : Bool) (p : Pointer) (x : ℕ) → p.target ≢ x → hits x b p ≡ 0
    no-hit b p x n = ap (λ t. cond (t && same p.bit b) 1 0) (ne_eqb p.target x n)

    counted-own : (c : Cell) (b : Bool) → c.bit ≡ b → counted b c ≡ c.strong
    counted-own c b q = ap (λ x. cond (same x b) c.strong c.weak) q ∙ ap (λ t. cond t c.strong c.weak) (same-itself b)

grown-more : (b : Bool) (list : List ℕ) (target id : ℕ) → Contains list id → Contains (listed_if b list target) id
grown-more true list target id m = Rattle.std.proofs.lemmas.List.Elements.Contains-append_left list (target ∷ []) id m
grown-more false list target id m = m

grown-has : (b : Bool) (list : List ℕ) (target : ℕ) → b ≡ true → Contains (listed_if b list target) target
grown-has true list target e = Rattle.std.proofs.lemmas.List.Elements.Contains-append_right list (target ∷ []) target (Rattle.store_model.proofs.Lists.Contains-here target [])
grown-has false list target e = absurd (cc)

module _ (start : List Cell) (x : ℕ) (cells : List Cell) (list : List ℕ) (exact : IsExact cells) (h : IsFrom start x cells list) (id slot target : ℕ) (p : HasPointer cells id slot target true) (some : target ≢ 0) (listed : Contains list id) where
  graph : AreSameGraph cells (weakened cells id slot)
  graph = turn-graph cells id slot exact p.live p.within

  -- a pointer that is strong then was so before
  was : (u k : ℕ) → is_counted_strong (weakened cells id slot) (pointer_at (weakened cells id slot) u k) ≡ true → is_counted_strong cells (pointer_at cells u k) ≡ true
  was u k e =
      ⊎_elim
      (λ w. absurd (true≢false (sym (subst (λ y. is_counted_strong (weakened cells id slot) (pointer_at (weakened cells id slot) u y) ≡ true) w.1 e) ∙ subst (λ y. is_counted_strong (weakened cells id slot) (pointer_at (weakened cells id slot) y slot) ≡ false) (sym w.0) (weakened-here cells id slot target exact p some))))
      (λ w. sym (turn-apart cells id slot exact p.live p.within u k w) ∙ e)
      (turn-which cells id slot exact p.live p.within u k)

  -- one out of another object stays
  stays : (u k : ℕ) → u ≢ id → is_counted_strong cells (pointer_at cells u k) ≡ true → is_counted_strong (weakened cells id slot) (pointer_at (weakened cells id slot) u k) ≡ true
  stays u k n e =
      ⊎_elim
      (λ w. absurd (n w.0))
      (λ w. turn-apart cells id slot exact p.live p.within u k w ∙ e)
      (turn-which cells id slot exact p.live p.within u k)

  unlisted : (u : ℕ) → (Contains list u → ⊥) → u ≢ id
  unlisted u n e = n (subst (λ y. Contains list y) (sym e) listed)

  exact-new : IsExact (weakened cells id slot)
  exact-new = relinked-exact cells id slot (other_strength (pointer_at cells id slot)) exact p.live p.within (λ n. subst (λ y. is_live cells y ≡ true) (sym p.target) (p.target_live some))

  -- the target was led to by the pointer
  led : IsStrongAt start id slot target
  led = strong-back start cells h.graph id slot target (record { live = p.live; target = p.target; not_null = some; strong = p.strength some })
      (h.weaker id slot (counted-from cells (pointer_at cells id slot) (λ z. some (sym p.target ∙ z)) (p.strength some)))

  -- where no strong pointer is left to it, all came from objects of the round
  only : (cell_at (weakened cells id slot) target).strong ≡ 0 → (u k : ℕ) → IsStrongAt start u k target → IsDominated start x u
  only z u k s = by (has list u) refl
    where
      by : (b : Bool) → has list u ≡ b → IsDominated start x u
      by true e = h.dominated u (Contains-has list u e)
      by false e =
          let out : Contains list u → ⊥ = λ m. absurd (true≢false (sym (Rattle.red_walk.proofs.Members.has-Contains list u m) ∙ e)) in
          let old = strong-in_graph start cells h.graph u k target s (h.kept u k out (strong-counted start u k target s)) in
          let one = held-counts (weakened cells id slot) exact-new u k target (strong-in_graph cells (weakened cells id slot) graph u k target old (stays u k (unlisted u out) (strong-counted cells u k target old))) in
          absurd (omega (arith, one, z))

  -- it joins where no strong pointer is left to it, but for the root and objects of the round
  module _ (b : Bool) (is : is_to_join (weakened cells id slot) list target ≡ b) where
    parts : b ≡ true → (target ≢ root) × ((cell_at (weakened cells id slot) target).strong ≡ 0)
    parts e =
        let all = and_parts (not (target == root)) (not (has list target) && has_no_strong (cell_at (weakened cells id slot) target)) (is ∙ e) in
        (eqb-false target root (not-true (target == root) all.0), eqb-true (cell_at (weakened cells id slot) target).strong 0 (and_parts (not (has list target)) (has_no_strong (cell_at (weakened cells id slot) target)) all.1).1)

    grown-dominated : (c : Bool) → b ≡ c → (y : ℕ) → Contains (listed_if c list target) y → IsDominated start x y
    grown-dominated true e y m = ⊎_elim (λ l. h.dominated y l) (λ l. subst (λ z. IsDominated start x z) (only-one target y l) (target-joins (parts e))) (Contains-append_cases list (target ∷ []) y m)
      where
        target-joins : (target ≢ root) × ((cell_at (weakened cells id slot) target).strong ≡ 0) → IsDominated start x target
        target-joins both = joins target (sym (h.graph.live target) ∙ p.target_live some) both.0 (id, slot, led) (only both.1)
    grown-dominated false e y m = h.dominated y m

    grown-zero : (y : ℕ) → is_live (weakened cells id slot) y ≡ true → y ≢ root → (Contains (listed_if b list target) y → ⊥) → (cell_at (weakened cells id slot) y).strong ≡ 0 → (cell_at start y).strong ≡ 0
    grown-zero y l r n z =
        let old : is_live cells y ≡ true = sym (graph.live y) ∙ l in
        let out : Contains list y → ⊥ = λ m. n (grown-more b list target y m) in
        ⊎_elim
        (λ e. absurd (n (subst (λ v. Contains (listed_if b list target) v) (sym e) (grown-has b list target (sym is ∙ goes e)))))
        (λ e. h.zero y old r out (sym (weakened-count cells id slot exact y old (λ t. e (sym t ∙ p.target))) ∙ z))
        (cases_eq y target)
      where
        goes : y ≡ target → is_to_join (weakened cells id slot) list target ≡ true
        goes e = subst (λ v. is_to_join (weakened cells id slot) list v ≡ true) e
            (and_from (not (y == root)) (not (has list y) && has_no_strong (cell_at (weakened cells id slot) y)) (not_from_false (y == root) (ne_eqb y root r))
            (and_from (not (has list y)) (has_no_strong (cell_at (weakened cells id slot) y)) (not_from_false (has list y) (absent list y (λ m. n (grown-more b list target y m)))) (eq-eqb (cell_at (weakened cells id slot) y).strong 0 z)))

    pub weakened-from : IsFrom start x (weakened cells id slot) (listed_if b list target)
    weakened-from = record {
      graph = record { live = λ u. graph.live u ∙ h.graph.live u; target = λ u k. graph.target u k ∙ h.graph.target u k };
      weaker = λ u k e. h.weaker u k (was u k e);
      kept = λ u k n e. let out : Contains list u → ⊥ = λ m. n (grown-more b list target u m) in stays u k (unlisted u out) (h.kept u k out e);
      dominated = grown-dominated b refl;
      «first» = grown-more b list target x h.first;
      zero = grown-zero;
      none = λ y l z. let old : is_live cells y ≡ true = sym (graph.live y) ∙ l in let less = weakened-less cells id slot target exact p some y old in let none = h.none y old z in omega (arith, less, none);
    }

-- ---- the event

some-same : {X : Type 0} (x y : X) → Some x ≡ Some y → x ≡ y
some-same x y e = ap (λ o. unwrap_or o x) e

module _ (slots : ℕ) (c d : Core) (w : Walk) (id slot target : ℕ) (j : Option ℕ) (h : IsQuietEvent slots c d (Walking w) (Walking (joined_by (moved slots w) j)) act.Change (Some (logs.Weaken id slot target))) where
  -- it is the event of a walk, and not of a green walk
  weakens : Weakens slots c id slot target d.queue d.round
  weakens = ⊎_elim (λ a. a) (λ a. absurd (no a.greens.of a.greens.there a.greens.behind)) h.collects
    where
      no : (r : Round) → c.round ≡ Some r → r.judged ≡ true → ⊥
      no r is judged = let e : false ≡ true = ap (λ (x : Round). x.judged) (some-same (walked w) r (h.before ∙ is)) ∙ judged in cc

  of_is : weakens.of ≡ walked w
  of_is = some-same weakens.of (walked w) (sym weakens.there ∙ sym h.before)

  -- nothing was copied before it
  pub none-copied : w.copies ≡ []
  none-copied = sym (ap (λ (r : Round). r.copies) of_is) ∙ weakens.uncopied

  listed_by : (b : Bool) (r : Round) → (if b then with_listed r target else r).list ≡ listed_if b r.list target
  listed_by true r = refl
  listed_by false r = refl

  -- the list after it
  pub list-is : (joined_by (moved slots w) j).list ≡ listed_if (is_to_join (weakened c.cells id slot) w.list target) w.list target
  list-is =
      sym h.in_step_behind.whole
      ∙ (ap (λ (o : Option Round). option_map_or (λ (r : Round). r.list) o []) (h.behind ∙ weakens.round_is)
      ∙ (listed_by (is_to_join (weakened c.cells id slot) weakens.of.list target) weakens.of
      ∙ (ap (λ (r : Round). listed_if (is_to_join (weakened c.cells id slot) r.list target) r.list target) of_is
      ∙ ap (λ (l : List ℕ). listed_if (is_to_join (weakened c.cells id slot) l target) l target) h.in_step.whole)))

  pub weaken-from : (start : List Cell) (x : ℕ) → IsFrom start x c.cells w.list → IsFrom start x d.cells (joined_by (moved slots w) j).list
  weaken-from start x k =
      let listed : Contains w.list id = subst (λ l. Contains l id) h.in_step.whole (subst (λ (r : Round). Contains r.list id) of_is weakens.listed) in
      subst (λ cells. IsFrom start x cells (joined_by (moved slots w) j).list) (ap (λ (y : Core). y.cells) (sym h.after))
      (subst (λ l. IsFrom start x (weakened c.cells id slot) l) (sym list-is) (weakened-from start x c.cells w.list h.sound.consistent.exact k id slot target h.fits.0 h.fits.1 listed (is_to_join (weakened c.cells id slot) w.list target) refl))
