-- A whole round leaves the objects without strong pointers that there were, but for its first one.
use Rattle.std.proofs.Common.{◌≡◌, ◌≢◌, ℕ, ◌+◌, ◌==◌, ◌&&◌, if◌then◌else◌, Bool, true, false, not, cond, List, [], ◌∷◌, refl, sym, ap, ◌∙◌, subst, Option, Some, arith, ⊎_elim, true≢false, ne_eqb}
use Rattle.std.specs.Prelude.{Contains, ◌↔◌, ◌⊎◌}
use Rattle.std.specs.Option.{unwrap_or}
use Rattle.std.proofs.lemmas.Bool.{cases_eq}
use Rattle.std.proofs.Math.Bool.{and-false}
use Rattle.cell_model.specs.Cells.{Pointer, null, Cell, blank_cell, cell_at, pointer_at, is_live, is_strong, same, edit, relinked, flipped, hits, counted, IsExact}
use Rattle.cell_model.specs.Records.{HasPointer}
use Rattle.store_model.specs.Core.{Round, Core}
use Rattle.cell_model.proofs.EditLaws.{live-within, live-there, edit-here, edit-other}
use Rattle.cell_model.proofs.CountLaws.{relinked-live, relinked-bit, relinked-counted}
use Rattle.cell_model.proofs.FlipLaws.{flip-live}
use Rattle.ref_tables.specs.Queue.{has}
use Rattle.red_walk.specs.Walk.{Walk, opened, moved, removed}
use Rattle.red_walk.specs.Rounds.{round_of as walked}
use Rattle.red_walk.proofs.Filters.{among-filter}
use Rattle.red_walk.proofs.Members.{Contains-has, has-Contains}
use Rattle.green_walk.specs.declared.sweep.SweepAt.{SweepAt}
use Rattle.green_walk.specs.declared.sweep.SweepAt.TheVariants as sweep
use Rattle.green_walk.specs.declared.sweep.Found.TheVariants.{Nothing}
use Rattle.green_walk.specs.Sweeping.{SweepState as Sweep, next as next_of_sweep, found as found_in_sweep, unfreed}
use Rattle.green_walk.specs.Greening.{Greening}
use Rattle.green_walk.proofs.SweepLaws.{free-law}
use Rattle.log_record.specs.declared.cell_record.CellRecord.{CellRecord}
use Rattle.log_record.specs.declared.cell_record.CellRecord.TheVariants as logs
use Rattle.core_store.specs.declared.act.Act.{Act}
use Rattle.core_store.specs.declared.act.Act.TheVariants as act
use Rattle.core_store.specs.declared.round_at.RoundAt.TheVariants as at
use Rattle.core_store.specs.Collects.{Weakens, WeakensInto, Flips, Strengthens}
use Rattle.core_store.specs.RoundView.{RoundView, Closed, Walking, Sweeping, IsSweeping, asked, Passes, none as no_look, more, looked_past, passed_by_sweep, next_slot, is_closed, Proceeds, skip, start, weaken, scan, judge, cut, free, flip, into, strengthen, end}
use Rattle.quiet_rounds.specs.Quiet.{IsQuietSweep, IsQuietRound}
use Rattle.quiet_rounds.specs.Laws.{IsQuietEvent}
use Rattle.quiet_rounds.specs.WholeRounds.{IsDominated, itself, joins, OpenRun, none, looks, event, IsWholeRound, IsWithoutStrong, FewerLaw}
use Rattle.quiet_rounds.proofs.Dominated.{dominated}
use Rattle.quiet_rounds.proofs.Ends.{held-counts, left-green}
use Rattle.quiet_rounds.proofs.FromStart.{IsFrom, from-start, weaken-from, weakened-count}
use Rattle.quiet_rounds.proofs.Moves.{weakened}
use Rattle.quiet_rounds.proofs.Runs.{run-quiet, opening-cells, opening-quiet, last-quiet}
use Rattle.core_store.proofs.Strengths.{turn-graph}
use Rattle.quiet_rounds.proofs.Sweeps.{condemned-left, cut-weak}

-- ---- what is kept

-- the object is as live as before, and if it is live, its strong count is the same
record IsLike (cells new : List Cell) (y : ℕ) : Type 0 where
  live : is_live new y ≡ is_live cells y
  strong : is_live cells y ≡ true → (cell_at new y).strong ≡ (cell_at cells y).strong

without_strong-like : (cells new : List Cell) (y : ℕ) → IsLike cells new y → IsWithoutStrong new y ↔ IsWithoutStrong cells y
without_strong-like cells new y k = (
  λ u. let l : is_live cells y ≡ true = sym k.live ∙ u.live in record { live = l; not_root = u.not_root; zero = sym (k.strong l) ∙ u.zero },
  λ u. record { live = k.live ∙ u.live; not_root = u.not_root; zero = k.strong u.live ∙ u.zero },
)

-- after the verdict the other objects are without strong pointers exactly where they were at the start, and those of the round
-- that are no more in it were freed
record IsBehind (began cells : List Cell) (w : Walk) : Type 0 where
  others : (y : ℕ) → (Contains w.list y → ⊥) → IsWithoutStrong cells y ↔ IsWithoutStrong began y
  gone : (y : ℕ) → Contains w.list y → (Contains w.left y → ⊥) → is_live cells y ≡ false

abbrev IsAlong : List Cell → ℕ → List Cell → RoundView → Type 0
IsAlong began x cells Closed = ⊥
IsAlong began x cells (Walking w) = IsFrom began x cells w.list
IsAlong began x cells (Sweeping w s slot g) = IsBehind began cells w

-- the other objects are as before, and all are as live
behind-like : (began cells new : List Cell) (w : Walk) → ((y : ℕ) → is_live new y ≡ is_live cells y) → ((y : ℕ) → (Contains w.list y → ⊥) → is_live cells y ≡ true → (cell_at new y).strong ≡ (cell_at cells y).strong) → IsBehind began cells w → IsBehind began new w
behind-like began cells new w live strong k = record {
  others = λ y n. let same = without_strong-like cells new y (record { live = live y; strong = strong y n }) in let was = k.others y n in (λ u. was.0 (same.0 u), λ u. same.1 (was.1 u));
  gone = λ y m n. live y ∙ k.gone y m n;
}

-- ---- the verdict

judged-behind : (began : List Cell) (x : ℕ) (cells : List Cell) (w : Walk) → w.left ≡ w.list → IsFrom began x cells w.list → IsBehind began cells w
judged-behind began x cells w whole k = record {
  others = λ y n. (
    λ u. record { live = sym (k.graph.live y) ∙ u.live; not_root = u.not_root; zero = k.zero y u.live u.not_root n u.zero },
    λ u. let l : is_live cells y ≡ true = k.graph.live y ∙ u.live in record { live = l; not_root = u.not_root; zero = k.none y l u.zero },
  );
  gone = λ y m n. absurd (n (subst (λ l. Contains l y) (sym whole) m));
}

-- ---- a weak pointer is removed

same-itself : (b : Bool) → same b b ≡ true
same-itself true = refl
same-itself false = refl

same-swapped : (a b : Bool) → same a b ≡ same b a
same-swapped true true = refl
same-swapped true false = refl
same-swapped false true = refl
same-swapped false false = refl

-- a weak pointer is not counted by the strong count
weak-hits : (cells : List Cell) (p : Pointer) (y : ℕ) → is_strong cells p ≡ false → hits y (cell_at cells y).bit p ≡ 0
weak-hits cells p y w =
    ⊎_elim
    (λ (e : p.target ≡ y).
    let weak : same p.bit (cell_at cells y).bit ≡ false = same-swapped p.bit (cell_at cells y).bit ∙ subst (λ v. same (cell_at cells v).bit p.bit ≡ false) e w in
    ap (λ t. cond ((p.target == y) && t) 1 0) weak ∙ ap (λ t. cond t 1 0) (and-false (p.target == y)))
    (λ n. ap (λ t. cond (t && same p.bit (cell_at cells y).bit) 1 0) (ne_eqb p.target y n))
    (cases_eq p.target y)

cut-strong : (cells : List Cell) (id slot : ℕ) → IsExact cells → is_strong cells (pointer_at cells id slot) ≡ false → (y : ℕ) → is_live cells y ≡ true → (cell_at (relinked cells id slot null) y).strong ≡ (cell_at cells y).strong
cut-strong cells id slot exact weak y l =
    let bit = (cell_at cells y).bit in
    let new = relinked cells id slot null in
    let n = live-there cells y exact.none l in
    let c = relinked-counted cells id slot null y bit n (live-within cells y l) in
    let nothing : hits y bit null ≡ 0 = ap {B = ℕ} (λ (t : Bool). cond (t && same false bit) 1 0) (ne_eqb 0 y (λ e. n (sym e))) in
    let old = weak-hits cells (pointer_at cells id slot) y weak in
    let before : counted bit (cell_at cells y) ≡ (cell_at cells y).strong = ap (λ (t : Bool). cond t (cell_at cells y).strong (cell_at cells y).weak) (same-itself bit) in
    let after : counted bit (cell_at new y) ≡ (cell_at new y).strong =
    ap (λ (o : Bool). cond (same o bit) (cell_at new y).strong (cell_at new y).weak) (relinked-bit cells id slot null y) ∙ ap (λ (t : Bool). cond t (cell_at new y).strong (cell_at new y).weak) (same-itself bit) in
    omega (arith, c, nothing, old, before, after)

-- ---- looks

module _ (began : List Cell) (x slots : ℕ) (cells : List Cell) where
  next-along : (w : Walk) (s : Sweep) (slot : ℕ) (g : Greening) → IsBehind began cells w → IsAlong began x cells (next_slot slots w s slot g)
  next-along w s slot g k = by (slot + 1 == slots)
    where
      by : (b : Bool) → IsAlong began x cells (if b then Sweeping w (found_in_sweep s Nothing) 0 g else Sweeping w s (slot + 1) g)
      by true = k
      by false = k

  sweep-along : (w : Walk) (s : Sweep) (slot : ℕ) (g : Greening) (a : SweepAt) → IsBehind began cells w → IsAlong began x cells (passed_by_sweep slots cells w s slot g a)
  sweep-along w s slot g (sweep.Slots id) k = next-along w s slot g k
  sweep-along w s slot g (sweep.Free id) k = k
  sweep-along w s slot g sweep.End k = k

  moved-list : (w : Walk) → (moved slots w).list ≡ w.list
  moved-list w = by (w.slot + 1 == slots)
    where
      by : (b : Bool) → (if b then record w { place = w.place + 1; slot = 0 } else record w { slot = w.slot + 1 }).list ≡ w.list
      by true = refl
      by false = refl

  look-along : (v : RoundView) → IsAlong began x cells v → IsAlong began x cells (looked_past slots cells v)
  look-along Closed k = k
  look-along (Walking w) k = subst (λ l. IsFrom began x cells l) (sym (moved-list w)) k
  look-along (Sweeping w s slot g) k = sweep-along w s slot g (next_of_sweep s) k

  looks-along : (u v : RoundView) → Passes slots cells u v → IsAlong began x cells u → IsAlong began x cells v
  looks-along u _ no_look k = k
  looks-along u _ (more v before idle) k = look-along v (looks-along u v before k)

-- ---- events after the verdict

some-same : {X : Type 0} (x y : X) → Some x ≡ Some y → x ≡ y
some-same x y e = ap (λ o. unwrap_or o x) e

module _ (began : List Cell) (x slots : ℕ) (c d : Core) (w : Walk) (s : Sweep) (slot : ℕ) (g : Greening) (v : RoundView) (logged : CellRecord) (e : IsQuietEvent slots c d (Sweeping w s slot g) v act.Change (Some logged)) (k : IsBehind began c.cells w) where
  round : Round
  round = record (walked w) { judged = true; condemned = unfreed s }

  step : IsSweeping slots c.moment.state.ids w s slot g
  step = e.in_step

  -- an object of the round is one of its list
  listed : (of : Round) → c.round ≡ Some of → (id : ℕ) → Contains of.list id → Contains w.list id
  unfolding round
  listed of there id m = step.walk.left_listed id (subst (λ (r : Round). Contains r.list id) (some-same of round (sym there ∙ sym e.before)) m)

  -- one slot's pointer to an object of the round has the other strength
  switched-behind : (id at target : ℕ) (b : Bool) → HasPointer c.cells id at target b → Contains w.list target → IsBehind began (weakened c.cells id at) w
  switched-behind id at target b p m =
      behind-like began c.cells (weakened c.cells id at) w (λ y. (turn-graph c.cells id at e.sound.consistent.exact p.live p.within).live y)
      (λ y n l. weakened-count c.cells id at e.sound.consistent.exact y l (λ t. n (subst (λ v. Contains w.list v) (sym p.target ∙ t) m))) k

  -- an object of the round is flipped
  flipped-behind : (id : ℕ) → is_live c.cells id ≡ true → Contains w.list id → IsBehind began (edit c.cells id (flipped id)) w
  flipped-behind id live m =
      behind-like began c.cells (edit c.cells id (flipped id)) w (λ y. flip-live c.cells id e.sound.consistent.exact live y)
      (λ y n l. ap (λ (a : Cell). a.strong) (edit-other c.cells id y (flipped id) (λ t. n (subst (λ v. Contains w.list v) (sym t) m)))) k

  -- a pointer out of an object of the round is removed, which is weak
  cut-behind : (id at : ℕ) → is_strong c.cells (pointer_at c.cells id at) ≡ false → IsBehind began (relinked c.cells id at null) w
  cut-behind id at weak = behind-like began c.cells (relinked c.cells id at null) w (λ y. relinked-live c.cells id at null y) (λ y n l. cut-strong c.cells id at e.sound.consistent.exact weak y l) k

  -- an object of the round is freed
  freed-behind : (id : ℕ) → is_live c.cells id ≡ true → Contains w.list id → IsBehind began (edit c.cells id (λ _. blank_cell false slots)) (removed w id)
  freed-behind id live m =
      let new = edit c.cells id (λ _. blank_cell false slots) in
      let apart : (y : ℕ) → y ≢ id → cell_at new y ≡ cell_at c.cells y = λ y n. edit-other c.cells id y (λ _. blank_cell false slots) n in
      record {
        others = λ y n.
            let other = apart y (λ t. n (subst (λ v. Contains w.list v) (sym t) m)) in
            let same = without_strong-like c.cells new y (record { live = ap (λ (a : Cell). a.live) other; strong = λ l. ap (λ (a : Cell). a.strong) other }) in
            let was = k.others y n in (λ u. was.0 (same.0 u), λ u. same.1 (was.1 u));
        gone = λ y l n. ⊎_elim
            (λ t. ap (λ v. is_live new v) t ∙ ap (λ (a : Cell). a.live) (edit-here c.cells id (λ _. blank_cell false slots) (live-there c.cells id e.sound.consistent.exact.none live) (live-within c.cells id live)))
            (λ t. ap (λ (a : Cell). a.live) (apart y t) ∙ k.gone y l (λ o. n (among-filter (λ z. not (z == id)) w.left y o (ap not (ne_eqb y id t)))))
            (cases_eq y id);
      }

  -- the event is one of the green walk, and not of a walk
  into-event : {id at target : ℕ} {queue : List ℕ} {after : Option Round} → Weakens slots c id at target queue after ⊎ WeakensInto c id target queue after → WeakensInto c id target queue after
  unfolding round
  into-event sum = ⊎_elim (λ a. absurd (let r = some-same a.of round (sym a.there ∙ sym e.before) in let no : true ≡ false = sym (ap (λ (r : Round). r.judged) r) ∙ a.before in cc)) (λ a. a) sum

-- ---- events

module _ (began : List Cell) (x slots : ℕ) where
  by-event : (c d : Core) (u v : RoundView) (logged : Option CellRecord) (event : Act) → Proceeds slots c.moment.state.ids u event logged v → IsQuietEvent slots c d u v event logged → is_closed v ≡ false → IsQuietRound slots c.cells u → IsAlong began x c.cells u → IsAlong began x d.cells v
  by-event c d u v logged act (skip id) e n q k = absurd k
  by-event c d u v logged act (start id) e n q k = absurd k
  by-event c d u v logged act (weaken w id slot target j at) e n q k = weaken-from slots c d w id slot target j e began x k
  by-event c d u v logged act (scan w id copy at) e n q k = subst (λ cells. IsFrom began x cells w.list) (ap (λ (y : Core). y.cells) (sym e.after)) k
  by-event c d u v logged act (judge w j at) e n q k = subst (λ cells. IsBehind began cells w) (ap (λ (y : Core). y.cells) (sym e.after)) (judged-behind began x c.cells w e.in_step.whole k)
  by-event c d u v logged act (cut w s slot id target strong g at) e n q k =
      let weak = cut-weak slots c d w s slot id target strong g at e q in
      next-along began x slots d.cells w s slot g
      (subst (λ cells. IsBehind began cells w) (ap (λ (y : Core). y.cells) (sym e.after))
      (cut-behind began x slots c d w s slot g (next_slot slots w s slot g) (logs.CutDead id slot target strong) e k id slot (e.fits.0.strength e.fits.1 ∙ weak)))
  by-event c d u v logged act (free w s slot id g at) e n q k =
      let listed = e.in_step.walk.left_listed id (condemned-left slots c d w s slot g _ _ _ e id (free-law s id e.in_step.sweep at).0) in
      subst (λ cells. IsBehind began cells (removed w id)) (ap (λ (y : Core). y.cells) (sym e.after))
      (freed-behind began x slots c d w s slot g _ (logs.Free id) e k id e.fits.0 listed)
  by-event c d u v logged act (flip w s slot id g at) e n q k =
      let does : Flips c id d.queue d.round = e.collects in
      subst (λ cells. IsBehind began cells w) (ap (λ (y : Core). y.cells) (sym e.after))
      (flipped-behind began x slots c d w s slot g _ (logs.Flip id) e k id e.fits.0 (listed began x slots c d w s slot g _ (logs.Flip id) e k does.greens.of does.greens.there id does.greens.listed))
  by-event c d u v logged act (into w s slot «from» place to g at) e n q k =
      let does : WeakensInto c «from» to d.queue d.round = into-event began x slots c d w s slot g _ (logs.Weaken «from» place to) e k e.collects in
      subst (λ cells. IsBehind began cells w) (ap (λ (y : Core). y.cells) (sym e.after))
      (switched-behind began x slots c d w s slot g _ (logs.Weaken «from» place to) e k «from» place to true e.fits.0 (listed began x slots c d w s slot g _ (logs.Weaken «from» place to) e k does.greens.of does.greens.there to does.target_listed))
  by-event c d u v logged act (strengthen w s slot «from» place to g at) e n q k =
      let does : Strengthens c «from» to d.queue d.round = e.collects in
      subst (λ cells. IsBehind began cells w) (ap (λ (y : Core). y.cells) (sym e.after))
      (switched-behind began x slots c d w s slot g _ (logs.Strengthen «from» place to) e k «from» place to false e.fits.0 (listed began x slots c d w s slot g _ (logs.Strengthen «from» place to) e k does.greens.of does.greens.there to does.target_listed))
  by-event c d u v logged act (end w s slot g at) e n q k = absurd (cc)

  run-along : (c : Core) (u : RoundView) (d : Core) (v : RoundView) (n : ℕ) → OpenRun slots c u d v n → IsQuietRound slots c.cells u → IsAlong began x c.cells u → IsAlong began x d.cells v
  run-along c u _ _ _ none q k = k
  run-along c u _ _ _ (looks d v w n runs still passes) q k = looks-along began x slots d.cells v w passes (run-along c u d v n runs q k)
  run-along c u _ _ _ (event d e v w act logged n runs one still_open) q k =
      by-event d e v w logged act one.proceeds one still_open (run-quiet slots c u d v n runs q) (run-along c u d v n runs q k)

-- ---- the law

end-asked : {slots ids : ℕ} {w : Walk} {s : Sweep} {slot : ℕ} {g : Greening} {v : RoundView} {logged : Option CellRecord} → Proceeds slots ids (Sweeping w s slot g) act.End logged v → asked (Sweeping w s slot g) ≡ at.End
end-asked (end w s slot g at) = at

module _ (slots : ℕ) (c d : Core) (x events : ℕ) (r : IsWholeRound slots c d x events) where
  behind : IsBehind c.cells r.last.cells r.walk
  behind =
      run-along c.cells x slots r.opening (Walking (opened c.moment.state.ids x)) r.last (Sweeping r.walk r.swept r.slot r.greening) r.between r.runs
      (opening-quiet slots c d x events r)
      (subst (λ cells. IsFrom c.cells x cells (x ∷ [])) (sym (opening-cells slots c d x events r)) (from-start c.cells x))

  ended : d.cells ≡ r.last.cells
  ended = ap (λ (y : Core). y.cells) r.ends.after

  -- a strong pointer leads to what is left of the round
  left-held : (id : ℕ) → Contains r.walk.left id → (cell_at r.last.cells id).strong ≡ 0 → ⊥
  left-held id m z =
      let q : IsQuietSweep r.last.cells slots r.walk r.swept r.greening = last-quiet slots c d x events r in
      let h = q.green id (left-green slots r.last d r.walk r.swept r.slot r.greening (end-asked r.ends.proceeds) r.ends q id m) in
      let some = held-counts r.last.cells r.ends.sound.consistent.exact h.0 h.1 id h.3 in
      omega (arith, some, z)

  -- an object of the round has a strong pointer to it at the end, or is no more
  not-listed : (id : ℕ) → IsWithoutStrong r.last.cells id → Contains r.walk.list id → ⊥
  not-listed id u m = by (has r.walk.left id) refl
    where
      by : (b : Bool) → has r.walk.left id ≡ b → ⊥
      by true e = left-held id (Contains-has r.walk.left id e) u.zero
      by false e = true≢false (sym u.live ∙ behind.gone id m (λ l. true≢false (sym (has-Contains r.walk.left id l) ∙ e)))

  -- one but the first had one at the start
  dominated-held : (id : ℕ) → IsDominated c.cells x id → IsWithoutStrong c.cells id → id ≢ x → ⊥
  dominated-held _ itself u n = n refl
  dominated-held _ (joins id live not_root held all) u n =
      let some = held-counts c.cells r.starts.sound.consistent.exact held.0 held.1 id held.2 in
      let zero = u.zero in
      omega (arith, some, zero)

pub fewer : FewerLaw
fewer slots c d x events r id =
    let b = behind slots c d x events r in
    let same = ended slots c d x events r in
    let whole = dominated slots c d x events r in (
      λ u.
          let last : IsWithoutStrong r.last.cells id = subst (λ cells. IsWithoutStrong cells id) same u in
          let out = not-listed slots c d x events r id last in
          ((b.others id out).0 last, λ t. out (subst (λ v. Contains r.walk.list v) (sym t) ((whole x).1 itself))),
      λ p. subst (λ cells. IsWithoutStrong cells id) (sym same) ((b.others id (λ m. dominated-held slots c d x events r id ((whole id).0 m) p.0 p.1)).1 p.0),
    )
