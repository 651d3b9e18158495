-- The end of a quiet round: no object of it is loose, so the queue stays.
use Rattle.std.proofs.Common.{◌≡◌, ◌≢◌, ℕ, ◌<◌, ◌≤◌, ◌==◌, ◌&&◌, nat_lt, if◌then◌else◌, not, cond, slice_index_or, List, [], ◌∷◌, length, drop, filter, Bool, true, false, Option, Some, None, refl, sym, ap, ◌∙◌, subst, arith, inl, ⊎_elim, ne_eqb, true≢false}
use Rattle.std.specs.Prelude.{Contains}
use Rattle.std.specs.Option.{option_map_or}
use Rattle.std.proofs.lemmas.Bool.Decides.{nat_tests}
use Rattle.std.proofs.lemmas.List.{get_or_default}
use Rattle.cell_model.specs.Cells.{Cell, cell_at, pointer_at, counted, IsExact}
use Rattle.store_model.specs.Core.{Core, Round, is_named}
use Rattle.cell_model.specs.Strong.{IsStrongAt}
use Rattle.store_model.proofs.Lists.{Contains-here, Contains-later}
use Rattle.store_model.proofs.OnceLaws.{nothing-in}
use Rattle.cell_model.proofs.RecordLaws.{target-counts}
use Rattle.store_model.proofs.StepLaws.{Contains-cons}
use Rattle.ref_tables.specs.Queue.{has}
use Rattle.red_walk.specs.Walk.{Walk}
use Rattle.red_walk.specs.Rounds.{round_of as of_walk}
use Rattle.red_walk.proofs.Members.{Contains-has, has-Contains}
use Rattle.green_walk.specs.declared.copied_slots.CopiedSlot.{CopiedSlot}
use Rattle.green_walk.specs.declared.green_at.GreenAt.{GreenAt}
use Rattle.green_walk.specs.declared.green_at.GreenAt.TheVariants as green
use Rattle.green_walk.specs.declared.green_at.Test.{Test}
use Rattle.green_walk.specs.declared.sweep.SweepAt.{SweepAt}
use Rattle.green_walk.specs.declared.sweep.SweepAt.TheVariants as sweep
use Rattle.green_walk.specs.Sweeping.{SweepState as Sweep, next as next_of_sweep, first_of, unemptied, unfreed}
use Rattle.green_walk.specs.Greening.{Greening, GreenStage, AtSeed, AtInto, AtOut, waits, may_lead_to, first_with, first_seed, next as next_of_green}
use Rattle.core_store.specs.declared.act.Act.TheVariants as act
use Rattle.core_store.specs.declared.round_at.RoundAt.{RoundAt}
use Rattle.core_store.specs.declared.round_at.RoundAt.TheVariants as at
use Rattle.core_store.specs.Queued.{all_joined}
use Rattle.core_store.specs.RoundView.{Closed, Sweeping, asked, asked_by_sweep, asked_by_green}
use Rattle.core_store.specs.Collects.{is_loose, Ends}
use Rattle.quiet_rounds.specs.Quiet.{IsQuietRound, IsQuietSweep, IsLedTo, from_seed, from_green, over, WasWalked}
use Rattle.quiet_rounds.specs.Laws.{IsQuietEvent, NoneJoins}
use Rattle.quiet_rounds.proofs.Sweeps.{none-joins}

-- ---- what the end was asked for at

neither : (b : Bool) (x y : RoundAt) → x ≢ at.End → y ≢ at.End → (if b then x else y) ≡ at.End → ⊥
neither true x y n m e = n e
neither false x y n m e = m e

green-over : (slots : ℕ) (test : Option Test) (next : GreenAt) → asked_by_green slots test next ≡ at.End → next ≡ green.End
green-over slots None (green.Seed id) e = absurd (cc)
green-over slots (Some t) (green.Seed id) e = absurd (neither (t.slot == slots) (at.Flip id) (at.Test t.id t.slot) (λ n. absurd (cc)) (λ n. absurd (cc)) e)
green-over slots test (green.Into «from» k to) e = absurd (cc)
green-over slots None (green.Out «from» k) e = absurd (cc)
green-over slots (Some t) (green.Out «from» k) e = absurd (neither (t.slot == slots) (at.Strengthen «from» k t.id) (at.Test t.id t.slot) (λ n. absurd (cc)) (λ n. absurd (cc)) e)
green-over slots test green.End e = refl

sweep-over : (slot : ℕ) (g : Greening) (next : SweepAt) → asked_by_sweep slot g next ≡ at.End → (next ≡ sweep.End) × (next_of_green g ≡ green.End)
sweep-over slot g (sweep.Slots id) e = absurd (cc)
sweep-over slot g (sweep.Free id) e = absurd (cc)
sweep-over slot g sweep.End e = (refl, green-over g.slots g.test (next_of_green g) e)

nothing-left : (unemptied left : List ℕ) → first_of unemptied left ≡ sweep.End → left ≡ []
nothing-left (x ∷ xs) ys e = absurd (cc)
nothing-left [] (y ∷ ys) e = absurd (cc)
nothing-left [] [] e = refl

-- ---- a green walk that has nothing more to ask for

first-none : (seeds : List ℕ) → first_seed seeds ≡ green.End → seeds ≡ []
first-none [] e = refl
first-none (id ∷ ids) e = absurd (cc)

-- the first seed is green, and there is no other
seeds-green : (seeds green : List ℕ) → drop 1 seeds ≡ [] → ((id : ℕ) (ids : List ℕ) → seeds ≡ id ∷ ids → Contains green id) → (x : ℕ) → Contains seeds x → Contains green x
seeds-green [] green e f x m = nothing-in x m
seeds-green (id ∷ ids) green e f x m = ⊎_elim (λ (same_id : id ≡ x). subst (λ y. Contains green y) same_id (f id ids refl)) (λ h. nothing-in x (subst (λ (xs : List ℕ). Contains xs x) e h)) (Contains-cons id ids x m)

-- all slots of green objects were looked at, and all seeds are green
record IsOver (g : Greening) (st : GreenStage) : Type 0 where
  all_walked : (place slot : ℕ) → place < length g.green → WasWalked g st place slot
  all_green : (id : ℕ) → Contains g.seeds id → Contains g.green id

-- after the last green object the end comes only where no seed is left
out-over : (g : Greening) (place slot : ℕ) → next_of_green (record g { stage = AtOut place slot }) ≡ green.End → (length g.green ≤ place) × (drop 1 g.seeds ≡ [])
out-over g place slot e = by (nat_lt place (length g.green)) refl
  where
    by : (b : Bool) → nat_lt place (length g.green) ≡ b → (length g.green ≤ place) × (drop 1 g.seeds ≡ [])
    by true f = let n : next_of_green (record g { stage = AtOut place slot }) ≡ green.Out (slice_index_or g.green place 0) slot = rw f refl in absurd (cc)
    by false f = let n : next_of_green (record g { stage = AtOut place slot }) ≡ first_seed (drop 1 g.seeds) = rw f refl in (grind (arith, nat_tests, f), first-none (drop 1 g.seeds) (sym n ∙ e))

over-at : (g : Greening) (st : GreenStage) → (st ≡ AtSeed → g.walked ≡ length g.green) → g.changed ≡ false → (st ≢ AtSeed → (id : ℕ) (ids : List ℕ) → g.seeds ≡ id ∷ ids → Contains g.green id)
    → next_of_green (record g { stage = st }) ≡ green.End → IsOver g st
over-at g AtSeed walked same_since first e = record {
  all_walked = λ place slot l. let w = walked refl in omega (arith, l, w);
  all_green = λ id m. nothing-in id (subst (λ (xs : List ℕ). Contains xs id) (first-none g.seeds e) m);
}
over-at g (AtInto flipped rest) walked same_since first e = by (first_with (may_lead_to g flipped) rest) refl
  where
    by : (o : Option CopiedSlot) → first_with (may_lead_to g flipped) rest ≡ o → IsOver g (AtInto flipped rest)
    by (Some s) f = let n : next_of_green (record g { stage = AtInto flipped rest }) ≡ green.Into s.id s.slot flipped = rw (f, f) refl in absurd (cc)
    by None f =
        let start = if g.changed then 0 else g.walked in
        let n : next_of_green (record g { stage = AtInto flipped rest }) ≡ next_of_green (record g { stage = AtOut start 0; test = None; changed = false }) = rw f refl in
        let o = out-over (record g { test = None; changed = false }) start 0 (sym n ∙ e) in
        let is : start ≡ g.walked = ap {B = ℕ} (λ b. if b then 0 else g.walked) same_since in record {
          all_walked = λ place slot l. let past = o.0 in omega (arith, l, past, is);
          all_green = seeds-green g.seeds g.green o.1 (first (λ no. absurd (cc)));
        }
over-at g (AtOut at k) walked same_since first e =
    let o = out-over g at k e in record {
      all_walked = λ place slot l. inl (let past = o.0 in omega (arith, l, past));
      all_green = seeds-green g.seeds g.green o.1 (first (λ no. absurd (cc)));
    }

-- ---- the objects that live have strong pointers to them

from-waits : (a b : Bool) → a ≡ true → (a && not b) ≡ false → b ≡ true
from-waits true true e w = refl
from-waits true false e w = absurd (true≢false w)
from-waits false b e w = absurd (true≢false (sym e))

-- a strong pointer is counted
pub held-counts : (cells : List Cell) → IsExact cells → (u slot x : ℕ) → IsStrongAt cells u slot x → 1 ≤ (cell_at cells x).strong
held-counts cells exact u slot x h =
    let p = pointer_at cells u slot in
    let c = cell_at cells p.target in
    let some = target-counts cells exact u slot h.live (λ z. h.not_null (sym h.target ∙ z)) in
    let is : counted p.bit c ≡ c.strong = ap {B = ℕ} (λ b. cond b c.strong c.weak) h.strong in
    subst (λ y. 1 ≤ (cell_at cells y).strong) h.target (omega (arith, some, is))

filter-none : (p : ℕ → Bool) (xs : List ℕ) → ((x : ℕ) → Contains xs x → p x ≡ false) → filter p xs ≡ []
filter-none p [] h = refl
filter-none p (x ∷ xs) h = ap (λ b. cond b (x ∷ filter p xs) (filter p xs)) (h x (Contains-here x xs)) ∙ filter-none p xs (λ y m. h y (Contains-later x xs y m))

module _ (slots : ℕ) (c d : Core) (w : Walk) (s : Sweep) (slot : ℕ) (g : Greening) (at_end : asked (Sweeping w s slot g) ≡ at.End)
    (e : IsQuietEvent slots c d (Sweeping w s slot g) Closed act.End None) (q : IsQuietSweep c.cells slots w s g) where
  end-over : IsOver g g.stage
  end-over = over-at g g.stage q.at_seed q.current.1 q.in_hand (sweep-over slot g (next_of_sweep s) at_end).1

  -- whatever lives is green
  all-green : (x : ℕ) → IsLedTo c.cells g x → Contains g.green x
  all-green x (from_seed id m) = end-over.all_green id m
  all-green x (from_green id m) = m
  all-green x (over id k l m) =
      let t = (pointer_at c.cells id k).target in
      let h = all-green id l in
      let here : slice_index_or g.green h.0 0 ≡ id = get_or_default g.green h.0 0 id h.1 ∙ h.2 in
      let done = q.walked h.0 k (end-over.all_walked h.0 k h.1) h.1 in
      let waits_not : waits g t ≡ false = subst (λ y. waits g (pointer_at c.cells y k).target ≡ false) here done in
      Contains-has g.green t (from-waits (has g.live t) (has g.green t) (has-Contains g.live t m) waits_not)

  pub left-green : (x : ℕ) → Contains w.left x → Contains g.green x
  left-green x m =
      ⊎_elim
      (λ h. nothing-in x (subst (λ (xs : List ℕ). Contains xs x) (nothing-left (unemptied s) (unfreed s) (sweep-over slot g (next_of_sweep s) at_end).0) h))
      (λ h. all-green x (q.led x h))
      (q.parted x m)

  none-loose : (x : ℕ) → Contains w.left x → is_loose c x ≡ false
  none-loose x m =
      let h = q.green x (left-green x m) in
      let some = held-counts c.cells e.sound.consistent.exact h.0 h.1 x h.3 in
      ap (λ b. b && not (is_named c.refs x)) (ne_eqb (cell_at c.cells x).strong 0 (λ z. absurd (omega (arith, some, z))))

  pub quiet-end : IsQuietRound slots d.cells Closed × NoneJoins act.End c.queue d.queue
  quiet-end =
      let k : Ends c d.queue d.round = e.collects in
      let round : Some k.of ≡ Some (record (of_walk w) { judged = true; condemned = unfreed s }) = sym k.there ∙ sym e.before in
      let list_is : k.of.list ≡ w.left = ap (λ (o : Option Round). option_map_or (λ (r : Round). r.list) o []) round in
      let none : filter (is_loose c) k.of.list ≡ [] = ap (filter (is_loose c)) list_is ∙ filter-none (is_loose c) w.left none-loose in
      (tt, none-joins act.End c.queue d.queue (k.queue_is ∙ ap (all_joined c.queue) none) refl)
