-- Where there is nothing to do at what a quiet green walk asks for, it stays quiet.
use Rattle.std.proofs.Common.{◌≡◌, ℕ, ◌+◌, ◌<◌, ◌≤◌, ◌==◌, ◌&&◌, not, if◌then◌else◌, Bool, true, false, List, [], ◌∷◌, length, get_or, Option, Some, None, refl, sym, ap, ◌∙◌, subst, arith, inl, inr, ⊎_elim, true≢false, eq-eqb}
use Rattle.std.specs.Prelude.{Contains, ◌⊎◌}
use Rattle.std.proofs.lemmas.Bool.{eqb-true, cases_lt}
use Rattle.store_model.proofs.Lists.{Contains-here}
use Rattle.std.proofs.lemmas.List.{get_or_past}
use Rattle.std.proofs.lemmas.List.Elements.{Contains-get_or}
use Rattle.cell_model.specs.Cells.{Cell, Pointer, null, cell_at, pointer_at}
use Rattle.red_walk.specs.Ids.{IsIdList}
use Rattle.ref_tables.specs.Queue.{has}
use Rattle.red_walk.specs.Walk.{Walk}
use Rattle.red_walk.proofs.Members.{Contains-has, has-Contains}
use Rattle.green_walk.specs.declared.copied_slots.CopiedSlot.{CopiedSlot}
use Rattle.green_walk.specs.declared.green_at.GreenAt.{GreenAt}
use Rattle.green_walk.specs.declared.green_at.GreenAt.TheVariants.{Seed, Into, Out, End}
use Rattle.green_walk.specs.declared.green_at.Test.{Test}
use Rattle.green_walk.specs.declared.sweep.SweepAt.TheVariants as sweep
use Rattle.green_walk.specs.declared.sweep.Found.TheVariants.{Nothing}
use Rattle.green_walk.specs.Sweeping.{SweepState as Sweep, next as next_of_sweep}
use Rattle.green_walk.specs.Greening.{GreenStage, AtSeed, AtInto, AtOut, Greening, IsGreening, IsPlace, waits, may_lead_to, first_with, behind_first, first_seed, look_into, asked_at, settled, next, found_at_seed, found_in, found}
use Rattle.green_walk.proofs.GreenSteps.{IsThere, there, settled-greening, settled-same, id-within}
use Rattle.core_store.specs.Changes.{is_counted_strong}
use Rattle.quiet_rounds.specs.Quiet.{WasWalked, IsQuietSweep}
use Rattle.quiet_rounds.proofs.Settled.{quiet-staged, quiet-settled, strong-leads, first-or-behind}

-- the green walk of a round, over its objects, whose cells have so many slots
pub record IsWalkOf (cells : List Cell) (slots : ℕ) (w : Walk) (g : Greening) : Type 0 where
  pub greening : IsGreening g
  pub slots_are : g.slots ≡ slots
  pub left : (id : ℕ) → Contains g.live id → Contains w.left id
  pub long : (id : ℕ) → Contains w.left id → length (cell_at cells id).pointers ≡ slots

-- there is nothing to do at what is asked for
abbrev pub IsIdle : List Cell → Greening → GreenAt → Type 0
IsIdle cells g (Seed id) = waits g id ≡ false
IsIdle cells g (Into «from» slot to) = (((pointer_at cells «from» slot).target == to) && is_counted_strong cells (pointer_at cells «from» slot)) ≡ false
IsIdle cells g (Out «from» slot) = waits g (pointer_at cells «from» slot).target ≡ false
IsIdle cells g End = ⊥

-- what lives and doesn't wait is green
waits-no : (a b : Bool) → (a && not b) ≡ false → a ≡ true → b ≡ true
waits-no true true e l = refl
waits-no true false e l = absurd (cc)
waits-no false b e l = absurd (cc)

pub green-by : (g : Greening) (id : ℕ) → waits g id ≡ false → Contains g.live id → Contains g.green id
green-by g id e l = Contains-has g.green id (waits-no (has g.live id) (has g.green id) e (has-Contains g.live id l))

-- 0 is no object's id
pub null-waits : (g : Greening) → IsIdList g.live g.limit → waits g 0 ≡ false
null-waits g i = by (has g.live 0) refl
  where
    by : (b : Bool) → has g.live 0 ≡ b → (b && not (has g.green 0)) ≡ false
    by true e = absurd (let within = id-within g.live g.limit 0 i (Contains-has g.live 0 e) in omega (arith, within.0))
    by false e = refl

-- both facts make the test true
both-true : (a b : Bool) → a ≡ true → b ≡ true → (a && b) ≡ false → ⊥
both-true a b e f none = true≢false (sym (ap (λ (x : Bool). x && b) e ∙ f) ∙ none)

walked-same : (g : Greening) (t : Option Test) (st : GreenStage) (place slot : ℕ) → WasWalked (record g { test = t }) st place slot → WasWalked g st place slot
walked-same g t AtSeed place slot was = was
walked-same g t (AtInto flipped rest) place slot was = was
walked-same g t (AtOut at k) place slot was = was

-- a walk that settles is of the same round
pub settled-of : (cells : List Cell) (slots : ℕ) (w : Walk) (g : Greening) → IsWalkOf cells slots w g → IsWalkOf cells slots w (settled g)
settled-of cells slots w g i = let same = settled-same g in record { greening = settled-greening g i.greening; slots_are = same.slots ∙ i.slots_are; left = λ id m. i.left id (subst (λ (xs : List ℕ). Contains xs id) same.live m); long = i.long }

module _ (cells : List Cell) (slots : ℕ) (w : Walk) (s : Sweep) (ends : next_of_sweep s ≡ sweep.End) where
  -- a test changes nothing of that
  pub quiet-tested : (g : Greening) (t : Option Test) → IsQuietSweep cells slots w s g → IsQuietSweep cells slots w s (record g { test = t })
  quiet-tested g t k = quiet-staged cells slots w s g g.seeds g.stage t g.walked g.changed k ends (record {
    none_out = k.none_out;
    fewer = λ id m. m;
    missing = λ id m. inl m;
    unchanged = k.current.1;
    was_walked = λ place slot was l. k.walked place slot (walked-same g t g.stage place slot was) l;
    at_seed = k.at_seed;
    in_hand = k.in_hand;
  })

  -- ---- at a seed

  nothing-seed : (g : Greening) (seeds : List ℕ) → IsGreening (record g { seeds = seeds; stage = AtSeed }) → IsQuietSweep cells slots w s (record g { seeds = seeds; stage = AtSeed }) → IsIdle cells g (first_seed seeds)
      → IsQuietSweep cells slots w s (found_at_seed (record g { seeds = seeds; stage = AtSeed }) (first_seed seeds) Nothing)
  nothing-seed g [] i k idle = absurd idle
  nothing-seed g (id ∷ ids) i k idle =
      let same : (if g.changed then 0 else g.walked) ≡ g.walked = ap (λ (b : Bool). if b then 0 else g.walked) k.current.1 in
      quiet-staged cells slots w s (record g { seeds = id ∷ ids; stage = AtSeed }) (id ∷ ids) (AtOut (if g.changed then 0 else g.walked) 0) None g.walked false k ends (record {
        none_out = k.none_out;
        fewer = λ x m. m;
        missing = λ x m. inl m;
        unchanged = refl;
        was_walked = λ place slot was l. k.walked place slot (⊎_elim (λ (b : place < (if g.changed then 0 else g.walked)). subst (λ (n : ℕ). place < n) same b) (λ (b : (place ≡ (if g.changed then 0 else g.walked)) × (slot < 0)). absurd (omega (arith, b.1))) was) l;
        at_seed = λ e. absurd (cc);
        in_hand = λ e x xs seeds. (let first : id ≡ x = cc in subst (λ (y : ℕ). Contains g.green y) first (green-by g id idle (i.seeds_live id (Contains-here id ids))));
      })

  -- ---- at a slot that may lead to the flipped object

  nothing-into : (g : Greening) (flipped : ℕ) (rest : List CopiedSlot) → IsPlace g (AtInto flipped rest) → IsQuietSweep cells slots w s (record g { stage = AtInto flipped rest }) → IsIdle cells g (look_into flipped (first_with (may_lead_to g flipped) rest))
      → IsQuietSweep cells slots w s (record g { stage = AtInto flipped (behind_first (may_lead_to g flipped) rest) })
  nothing-into g flipped rest p k idle =
      quiet-staged cells slots w s (record g { stage = AtInto flipped rest }) g.seeds (AtInto flipped (behind_first (may_lead_to g flipped) rest)) g.test g.walked g.changed k ends (record {
        none_out = λ id slot m out strong. (
            let l = strong-leads cells slots w s g flipped rest k ends p.3 id slot m out strong in
            ⊎_elim
            (λ (f : first_with (may_lead_to g flipped) rest ≡ Some l.1). absurd (
            let idle_here : IsIdle cells g (Into l.1.id l.1.slot flipped) = subst (λ (o : Option CopiedSlot). IsIdle cells g (look_into flipped o)) f idle in
            let here : (((pointer_at cells id slot).target == flipped) && is_counted_strong cells (pointer_at cells id slot)) ≡ false = subst (λ (x : ℕ). (((pointer_at cells x slot).target == flipped) && is_counted_strong cells (pointer_at cells x slot)) ≡ false) l.3 (subst (λ (y : ℕ). (((pointer_at cells l.1.id y).target == flipped) && is_counted_strong cells (pointer_at cells l.1.id y)) ≡ false) l.4 idle_here) in
            both-true ((pointer_at cells id slot).target == flipped) (is_counted_strong cells (pointer_at cells id slot)) (eq-eqb (pointer_at cells id slot).target flipped l.0) strong here))
            (λ (b : Contains (behind_first (may_lead_to g flipped) rest) l.1). (l.0, (l.1, b, l.3, l.4)))
            (first-or-behind (may_lead_to g flipped) rest l.1 l.2 l.5));
        fewer = λ id m. m;
        missing = λ id m. inl m;
        unchanged = k.current.1;
        was_walked = k.walked;
        at_seed = λ e. absurd (cc);
        in_hand = λ e id ids seeds. k.in_hand (λ e. absurd (cc)) id ids seeds;
      })

  -- ---- at a slot of a green object

  module _ (g : Greening) (place slot : ℕ) (i : IsWalkOf cells slots w (record g { stage = AtOut place slot })) (l : place < length g.green) (k : IsQuietSweep cells slots w s (record g { stage = AtOut place slot })) (idle : waits g (pointer_at cells (get_or g.green place 0) slot).target ≡ false) where
    abbrev here : ℕ
    here = get_or g.green place 0

    -- the slots so far lead to no object that waits
    out-more : (n : ℕ) → n < slot + 1 → waits g (pointer_at cells here n).target ≡ false
    out-more n m =
        ⊎_elim
        (λ (b : n < slot). k.walked place n (inr (refl, b)) l)
        (λ (b : slot ≤ n). let same : slot ≡ n = omega (arith, m, b) in subst (λ (x : ℕ). waits g (pointer_at cells here x).target ≡ false) same idle)
        (cases_lt n slot)

    -- after the last slot there is nothing
    out-all : slot + 1 ≡ g.slots → (n : ℕ) → waits g (pointer_at cells here n).target ≡ false
    out-all last n =
        ⊎_elim
        (λ (b : n < slot + 1). out-more n b)
        (λ (b : slot + 1 ≤ n).
        let size = i.long here (i.left here (i.greening.green_live here (Contains-get_or g.green place 0 l))) in
        let slots_are = i.slots_are in
        let none : pointer_at cells here n ≡ null = get_or_past (cell_at cells here).pointers n null (omega (arith, size, slots_are, last, b)) in
        subst (λ (p : Pointer). waits g p.target ≡ false) (sym none) (null-waits g i.greening.live_ids))
        (cases_lt n (slot + 1))

    -- the walk goes on to a stage after this slot
    out-stage : (at k' : ℕ) → ((p n : ℕ) → (p < at) ⊎ ((p ≡ at) × (n < k')) → p < length g.green → waits g (pointer_at cells (get_or g.green p 0) n).target ≡ false) → IsQuietSweep cells slots w s (record g { stage = AtOut at k'; test = None })
    out-stage at k' was = quiet-staged cells slots w s (record g { stage = AtOut place slot }) g.seeds (AtOut at k') None g.walked g.changed k ends (record {
      none_out = k.none_out;
      fewer = λ id m. m;
      missing = λ id m. inl m;
      unchanged = k.current.1;
      was_walked = was;
      at_seed = λ e. absurd (cc);
      in_hand = λ e id ids seeds. k.in_hand (λ e. absurd (cc)) id ids seeds;
    })

    was-next : slot + 1 ≡ g.slots → (p n : ℕ) → (p < place + 1) ⊎ ((p ≡ place + 1) × (n < 0)) → p < length g.green → waits g (pointer_at cells (get_or g.green p 0) n).target ≡ false
    was-next last p n (inr b) m = absurd (omega (arith, b.1))
    was-next last p n (inl b) m =
        ⊎_elim
        (λ (c : p < place). k.walked p n (inl c) m)
        (λ (c : place ≤ p). let same : place ≡ p = omega (arith, b, c) in subst (λ (x : ℕ). waits g (pointer_at cells (get_or g.green x 0) n).target ≡ false) same (out-all last n))
        (cases_lt p place)

    was-more : (p n : ℕ) → (p < place) ⊎ ((p ≡ place) × (n < slot + 1)) → p < length g.green → waits g (pointer_at cells (get_or g.green p 0) n).target ≡ false
    was-more p n (inl b) m = k.walked p n (inl b) m
    was-more p n (inr b) m = subst (λ (x : ℕ). waits g (pointer_at cells (get_or g.green x 0) n).target ≡ false) (sym b.0) (out-more n b.1)

    nothing-out : IsQuietSweep cells slots w s (record g { stage = if slot + 1 == g.slots then AtOut (place + 1) 0 else AtOut place (slot + 1); test = None })
    nothing-out = by (slot + 1 == g.slots) refl
      where
        by : (b : Bool) → (slot + 1 == g.slots) ≡ b → IsQuietSweep cells slots w s (record g { stage = if b then AtOut (place + 1) 0 else AtOut place (slot + 1); test = None })
        by true e = out-stage (place + 1) 0 (was-next (eqb-true (slot + 1) g.slots e))
        by false e = out-stage place (slot + 1) was-more

  -- ---- wherever it stands

  nothing-at : (g : Greening) (st : GreenStage) → IsWalkOf cells slots w (record g { stage = st }) → IsThere g st → IsQuietSweep cells slots w s (record g { stage = st }) → IsIdle cells g (asked_at g st) → IsQuietSweep cells slots w s (found_in (record g { stage = st }) st Nothing)
  nothing-at g AtSeed i t k idle = nothing-seed g g.seeds i.greening k idle
  nothing-at g (AtInto flipped rest) i t k idle = nothing-into g flipped rest i.greening.place k idle
  nothing-at g (AtOut place slot) i t k idle = nothing-out g place slot i t k idle

  -- a quiet green walk goes on as a quiet one
  pub quiet-nothing : (g : Greening) → IsWalkOf cells slots w g → IsQuietSweep cells slots w s g → IsIdle cells (settled g) (next g) → IsQuietSweep cells slots w s (found g Nothing)
  quiet-nothing g i k idle = nothing-at (settled g) (settled g).stage (settled-of cells slots w g i) (there g) (quiet-settled cells slots w s g i.greening k) idle
