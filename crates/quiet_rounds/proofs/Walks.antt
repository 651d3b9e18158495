-- Events and looks of a quiet round before its verdict.
use Rattle.std.proofs.Common.{◌≡◌, ℕ, ◌+◌, ◌≤◌, Bool, true, false, not, if◌then◌else◌, ◌==◌, List, [], ◌∷◌, ◌++◌, length, get_or, refl, sym, ap, ◌∙◌, subst, Option, Some, None, arith, ⊎_elim}
use Rattle.std.specs.Prelude.{Contains, ◌&&◌}
use Rattle.std.specs.Option.{option_map_or, unwrap_or}
use Rattle.std.proofs.lemmas.Bool.{and_parts, eqb-true}
use Rattle.std.proofs.lemmas.List.{get_or_push, length_push}
use Rattle.std.proofs.lemmas.List.Elements.{Contains-append_cases}
use Rattle.std.proofs.lemmas.List.Sums.{count_by-le-length, length-filter}
use Rattle.plain_model.specs.Graphs.{root}
use Rattle.cell_model.specs.Cells.{Cell, cell_at, pointer_at, is_live}
use Rattle.store_model.specs.Core.{Copy, Round, Core, is_named}
use Rattle.store_model.specs.Sound.{in_round, copy_of}
use Rattle.store_model.specs.Steps.{with_listed, with_copy}
use Rattle.store_model.proofs.Lists.{Contains-later}
use Rattle.store_model.proofs.OnceLaws.{nothing-in, only-one}
use Rattle.ref_tables.specs.Queue.{has, without}
use Rattle.red_walk.specs.declared.red_at.RedAt.TheVariants as red
use Rattle.red_walk.specs.Walk.{Walk, next, opened, moved, joined_by, copied}
use Rattle.red_walk.specs.Rounds.{round_of as walked}
use Rattle.red_walk.proofs.WalkLaws.{look-at}
use Rattle.red_walk.proofs.Filters.{filter-among}
use Rattle.log_record.specs.declared.cell_record.CellRecord.TheVariants as logs
use Rattle.core_store.specs.declared.act.Act.{Act}
use Rattle.core_store.specs.declared.act.Act.TheVariants as act
use Rattle.core_store.specs.Changes.{is_counted_strong, has_no_strong}
use Rattle.core_store.specs.Collects.{is_let_go, Skips, Starts, Weakens, Scans}
use Rattle.core_store.specs.RoundView.{RoundView, Closed, Walking, Proceeds, weaken}
use Rattle.quiet_rounds.specs.Quiet.{IsQuietWalk, IsQuietRound}
use Rattle.quiet_rounds.specs.Laws.{IsQuietEvent, NoneJoins}
use Rattle.quiet_rounds.proofs.Moves.{weakened, weakened-quiet, weakened-here, look-slot, moved-quiet, moved-at, joined-quiet}

-- ---- the queue

some-same : {X : Type 0} (x y : X) → Some x ≡ Some y → x ≡ y
some-same x y e = ap (λ o. unwrap_or o x) e

-- the first object left the queue
first-left : (event : Act) (queue behind : List ℕ) (id : ℕ) → queue ≡ id ∷ behind → NoneJoins event queue behind
first-left event queue behind id e = record {
  fewer = λ x m. subst (λ l. Contains l x) (sym e) (Contains-later id behind x m);
  shorter = (let n = ap length e in elim (Rattle.core_store.specs.Collecting.is_pop event) as (λ b. length behind + (if b then 1 else 0) ≤ length queue) [ true ↦ omega (arith, n) | false ↦ omega (arith, n) ]);
}

-- ---- no round is open

pub quiet-skip : (slots : ℕ) (c d : Core) (id : ℕ) → IsQuietEvent slots c d Closed Closed (act.Skip id) None → IsQuietRound slots c.cells Closed → IsQuietRound slots d.cells Closed × NoneJoins (act.Skip id) c.queue d.queue
quiet-skip slots c d id h q = let skips : Skips c id d.queue d.round = h.collects in (tt, first-left (act.Skip id) c.queue d.queue id skips.first)

-- a round opens with an object to which no strong pointer leads
opened-quiet : (slots : ℕ) (cells : List Cell) (ids id : ℕ) → (cell_at cells id).strong ≡ 0 → IsQuietWalk slots cells (opened ids id)
opened-quiet slots cells ids id zero = record {
  untouched = refl;
  zero = λ x m. subst (λ y. (cell_at cells y).strong ≡ 0) (only-one id x m) zero;
  walked = λ place a b k l. absurd (omega (arith, a));
  here = λ b k l. absurd (omega (arith, l));
  copies = λ x copy m. nothing-in (x, copy) m;
}

pub quiet-start : (slots : ℕ) (c d : Core) (id : ℕ) → IsQuietEvent slots c d Closed (Walking (opened c.moment.state.ids id)) (act.Start id) None → IsQuietRound slots c.cells Closed
    → IsQuietRound slots d.cells (Walking (opened c.moment.state.ids id)) × NoneJoins (act.Start id) c.queue d.queue
quiet-start slots c d id h q =
    let starts : Starts c id d.queue d.round = h.collects in
    let parts = and_parts (has_no_strong (cell_at c.cells id)) (not (is_named c.refs id)) starts.loose in (
      subst (λ cells. IsQuietWalk slots cells (opened c.moment.state.ids id)) (ap (λ (x : Core). x.cells) (sym h.after))
          (opened-quiet slots c.cells c.moment.state.ids id (eqb-true (cell_at c.cells id).strong 0 parts.0)),
      first-left (act.Start id) c.queue d.queue id starts.first,
    )

-- ---- an object is copied

pub quiet-scan : (slots : ℕ) (c d : Core) (w : Walk) (id : ℕ) (copy : Copy) → IsQuietEvent slots c d (Walking w) (Walking (copied w id copy)) (act.Scan id) None → IsQuietRound slots c.cells (Walking w)
    → IsQuietRound slots d.cells (Walking (copied w id copy)) × NoneJoins (act.Scan id) c.queue d.queue
quiet-scan slots c d w id copy h q =
    let scans : Scans c id d.queue d.round = h.collects in
    let of_is : scans.of ≡ walked w = some-same scans.of (walked w) (sym scans.there ∙ sym h.before) in
    let round : walked (copied w id copy) ≡ with_copy (walked w) id (cell_at c.cells id) =
    some-same (walked (copied w id copy)) (with_copy (walked w) id (cell_at c.cells id)) (h.behind ∙ (scans.round_is ∙ ap (λ (r : Round). Some (with_copy r id (cell_at c.cells id))) of_is)) in
    let is : ◌≡◌ {A = ℕ × Copy} (id, copy) (id, copy_of (cell_at c.cells id)) =
    sym (get_or_push w.copies (id, copy) (id, copy) (length w.copies) refl) ∙ (ap (λ (r : Round). get_or r.copies (length w.copies) (id, copy)) round ∙ get_or_push w.copies (id, copy_of (cell_at c.cells id)) (id, copy) (length w.copies) refl) in (
      subst (λ cells. IsQuietWalk slots cells (copied w id copy)) (ap (λ (x : Core). x.cells) (sym h.after)) (record {
        untouched = q.untouched;
        zero = q.zero;
        walked = q.walked;
        here = q.here;
        copies = λ x k m. ⊎_elim
            (λ n. q.copies x k n)
            (λ n. by x k (ap (λ (e : ℕ × Copy). e.1) is) (single (id, copy) (x, k) n))
            (Contains-append_cases w.copies ((id, copy) ∷ []) (x, k) m);
      }),
      record { fewer = λ x m. subst (λ l. Contains l x) scans.queue_is m; shorter = (let e = ap length scans.queue_is in omega (arith, e)) },
    )
  where
    single : {X : Type 0} (x y : X) → Contains (x ∷ []) y → x ≡ y
    single x y m = ⊎_elim (λ e. e) (λ k. nothing-in y k) (Rattle.store_model.proofs.StepLaws.Contains-cons x [] y m)

    by : (x : ℕ) (k : Copy) → copy ≡ copy_of (cell_at c.cells id) → ◌≡◌ {A = ℕ × Copy} (id, copy) (x, k) → k ≡ copy_of (cell_at c.cells x)
    by x k is e = sym (ap (λ (p : ℕ × Copy). p.1) e) ∙ (is ∙ ap (λ (p : ℕ × Copy). copy_of (cell_at c.cells p.0)) e)

-- ---- a pointer becomes weak

-- the look that the event was
look-of : {slots ids id slot target : ℕ} {w : Walk} {v : RoundView} → Proceeds slots ids (Walking w) act.Change (Some (logs.Weaken id slot target)) v → next w ≡ red.Look id slot
look-of (weaken w id slot target joins at) = at

moved-same : (slots : ℕ) (w : Walk) → walked (moved slots w) ≡ walked w
moved-same slots w = by (w.slot + 1 == slots)
  where
    by : (b : Bool) → walked (if b then record w { place = w.place + 1; slot = 0 } else record w { slot = w.slot + 1 }) ≡ walked w
    by true = refl
    by false = refl

-- where the list grew by one object, that is the one that was let go
who-joins : (b : Bool) (list : List ℕ) (id target : ℕ) → list ++ id ∷ [] ≡ (if b then list ++ target ∷ [] else list) → (b ≡ true) × (id ≡ target)
who-joins true list id target e = (refl, sym (get_or_push list id 0 (length list) refl) ∙ (ap (λ l. get_or l (length list) 0) e ∙ get_or_push list target 0 (length list) refl))
who-joins false list id target e = let n = ap length e in let m = length_push list id in absurd (omega (arith, n, m))

module _ (slots : ℕ) (c d : Core) (w : Walk) (id slot target : ℕ) (joins : Option ℕ) (h : IsQuietEvent slots c d (Walking w) (Walking (joined_by (moved slots w) joins)) act.Change (Some (logs.Weaken id slot target))) (q : IsQuietWalk slots c.cells w) where
  there : c.round ≡ Some (walked w)
  there = sym h.before

  -- it is the event of a walk, and not of a green walk
  weakens : Weakens slots c id slot target d.queue d.round
  weakens = ⊎_elim (λ a. a) (λ a. absurd (no a.greens.of a.greens.there a.greens.behind)) h.collects
    where
      no : (r : Round) → c.round ≡ Some r → r.judged ≡ true → ⊥
      no r is judged = let e : false ≡ true = ap (λ (x : Round). x.judged) (some-same (walked w) r (sym there ∙ is)) ∙ judged in cc

  of_is : weakens.of ≡ walked w
  of_is = some-same weakens.of (walked w) (sym weakens.there ∙ there)

  uncopied : w.copies ≡ []
  uncopied = subst (λ (r : Round). r.copies ≡ []) of_is weakens.uncopied

  lives : (x : ℕ) → Contains w.list x → is_live c.cells x ≡ true
  lives x m =
      let is : in_round c ≡ w.list = ap (λ (r : Option Round). option_map_or (λ (r : Round). r.list) r []) there ∙ h.in_step.whole in
      (h.sound.round_live x (subst (λ l. Contains l x) (sym is) m)).0

  moved-weakened : IsQuietWalk slots (weakened c.cells id slot) (moved slots w)
  moved-weakened =
      let at = look-of h.proceeds in
      let p = look-at w id slot at in
      let here = look-slot _ w.slot _ id slot at in
      moved-quiet slots (weakened c.cells id slot) w p.0
      (subst (λ x. is_counted_strong (weakened c.cells id slot) (pointer_at (weakened c.cells id slot) x w.slot) ≡ false) (sym p.1)
      (subst (λ k. is_counted_strong (weakened c.cells id slot) (pointer_at (weakened c.cells id slot) id k) ≡ false) (sym here) (weakened-here c.cells id slot target h.sound.consistent.exact h.fits.0 h.fits.1)))
      (weakened-quiet c.cells id slot target h.sound.consistent.exact h.fits.0 h.fits.1 slots w lives uncopied q)

  grown : {x : ℕ} → joins ≡ Some x → w.left ++ x ∷ [] ≡ (if is_let_go slots c weakens.of (logs.Weaken id slot target) target then w.left ++ target ∷ [] else w.left)
  grown {x} is =
      let round : Some (walked (joined_by (moved slots w) (Some x))) ≡ Some (if is_let_go slots c weakens.of (logs.Weaken id slot target) target then with_listed (walked w) target else walked w) =
      ap (λ j. Some (walked (joined_by (moved slots w) j))) (sym is) ∙ (h.behind ∙ (weakens.round_is ∙ ap (λ (r : Round). Some (if is_let_go slots c weakens.of (logs.Weaken id slot target) target then with_listed r target else r)) of_is)) in
      ap (λ (r : Round). r.list ++ x ∷ []) (sym (moved-same slots w))
      ∙ (ap (λ (r : Option Round). option_map_or (λ (r : Round). r.list) r []) round ∙ listed (is_let_go slots c weakens.of (logs.Weaken id slot target) target))
    where
      listed : (b : Bool) → (if b then with_listed (walked w) target else walked w).list ≡ (if b then w.left ++ target ∷ [] else w.left)
      listed true = refl
      listed false = refl

  joined-weakened : (j : Option ℕ) → joins ≡ j → IsQuietWalk slots (weakened c.cells id slot) (joined_by (moved slots w) j)
  joined-weakened None is = moved-weakened
  joined-weakened (Some x) is =
      let who = who-joins (is_let_go slots c weakens.of (logs.Weaken id slot target) target) w.left x target (grown is) in
      let later = weakened c.cells id slot in
      let parts = and_parts (not (target == root)) (not (has weakens.of.list target) && has_no_strong (cell_at later target)) who.0 in
      let rest = and_parts (not (has weakens.of.list target)) (has_no_strong (cell_at later target)) parts.1 in
      joined-quiet slots later (moved slots w) x (moved-at slots w (look-at w id slot (look-of h.proceeds)).0)
      (subst (λ y. (cell_at later y).strong ≡ 0) (sym who.1) (eqb-true (cell_at later target).strong 0 rest.1)) moved-weakened

  none-joins : NoneJoins act.Change c.queue d.queue
  none-joins = by (is_let_go slots c weakens.of (logs.Weaken id slot target) target) weakens.queue_is
    where
      by : (b : Bool) → d.queue ≡ (if b then without c.queue target else c.queue) → NoneJoins act.Change c.queue d.queue
      by true e = record {
        fewer = λ x m. filter-among (λ y. not (y == target)) c.queue x (subst (λ l. Contains l x) e m);
        shorter = (let n = ap length e in let f = length-filter (λ y. not (y == target)) c.queue in let l = count_by-le-length (λ y. not (y == target)) c.queue in omega (arith, n, f, l));
      }
      by false e = record { fewer = λ x m. subst (λ l. Contains l x) e m; shorter = (let n = ap length e in omega (arith, n)) }

pub quiet-weaken : (slots : ℕ) (c d : Core) (w : Walk) (id slot target : ℕ) (joins : Option ℕ) → IsQuietEvent slots c d (Walking w) (Walking (joined_by (moved slots w) joins)) act.Change (Some (logs.Weaken id slot target))
    → IsQuietRound slots c.cells (Walking w) → IsQuietRound slots d.cells (Walking (joined_by (moved slots w) joins)) × NoneJoins act.Change c.queue d.queue
quiet-weaken slots c d w id slot target joins h q = (
  subst (λ cells. IsQuietWalk slots cells (joined_by (moved slots w) joins)) (ap (λ (x : Core). x.cells) (sym h.after)) (joined-weakened slots c d w id slot target joins h q joins refl),
  none-joins slots c d w id slot target joins h q,
)
