-- A quiet green walk stays quiet where it stands at another stage.
use Rattle.std.proofs.Common.{◌≡◌, ◌≢◌, ℕ, ◌<◌, ◌≤◌, ◌&&◌, not, if◌then◌else◌, nat_lt, Bool, true, false, List, [], ◌∷◌, length, drop, Option, Some, None, refl, sym, ap, ◌∙◌, subst, arith, inl, inr, ⊎_elim, true≢false}
use Rattle.std.specs.Prelude.{Contains, ◌⊎◌, slice_index_or}
use Rattle.std.proofs.lemmas.Bool.{ltb-true, ltb-false}
use Rattle.cell_model.specs.Cells.{Cell, pointer_at}
use Rattle.store_model.proofs.StepLaws.{Contains-cons}
use Rattle.ref_tables.specs.Queue.{has}
use Rattle.red_walk.specs.Walk.{Walk}
use Rattle.red_walk.proofs.Members.{has-Contains, absent}
use Rattle.green_walk.specs.declared.copied_slots.CopiedSlot.{CopiedSlot}
use Rattle.green_walk.specs.declared.green_at.Test.{Test}
use Rattle.green_walk.specs.declared.sweep.SweepAt.{SweepAt}
use Rattle.green_walk.specs.declared.sweep.SweepAt.TheVariants as sweep
use Rattle.green_walk.specs.Sweeping.{SweepState as Sweep, first_of, next as next_of_sweep, unemptied, unfreed}
use Rattle.green_walk.specs.Greening.{GreenStage, AtSeed, AtInto, AtOut, Greening, IsGreening, IsPlace, waits, may_lead_to, first_with, behind_first, walking, seed_done, settled_out, settled}
use Rattle.green_walk.proofs.GreenHeads.{leads-named, passed-over, found-first, passed-behind}
use Rattle.green_walk.proofs.GreenAsked.{Contains-drop}
use Rattle.green_walk.proofs.GreenSteps.{into-none, into-some, out-there, out-done, waits-parts}
use Rattle.core_store.specs.Changes.{is_counted_strong}
use Rattle.quiet_rounds.specs.Quiet.{IsToWeaken, WasWalked, IsLedTo, from_seed, from_green, over, IsQuietSweep}

-- ---- slots that are searched

-- where no slot has the property, none of them has it
first-none : (P : CopiedSlot → Bool) (rest : List CopiedSlot) (s : CopiedSlot) → first_with P rest ≡ None → Contains rest s → P s ≡ true → ⊥
first-none P [] s none m has_it = omega (arith, m.1)
first-none P (t ∷ rest) s none m has_it = by (P t) refl (λ e later. first-none P rest s e later has_it)
  where
    by : (b : Bool) → P t ≡ b → (first_with P rest ≡ None → Contains rest s → ⊥) → ⊥
    by true e again = absurd (let found : Some t ≡ None = sym (found-first P t rest e) ∙ none in cc)
    by false e again =
        ⊎_elim
        (λ (same : t ≡ s). true≢false (sym has_it ∙ (ap P (sym same) ∙ e)))
        (λ (later : Contains rest s). again (sym (passed-over P t rest e) ∙ none) later)
        (Contains-cons t rest s m)

-- a slot with the property is the first one, or after it
pub first-or-behind : (P : CopiedSlot → Bool) (rest : List CopiedSlot) (s : CopiedSlot) → Contains rest s → P s ≡ true → (first_with P rest ≡ Some s) ⊎ Contains (behind_first P rest) s
first-or-behind P [] s m has_it = absurd (omega (arith, m.1))
first-or-behind P (t ∷ rest) s m has_it = by (P t) refl (λ later. first-or-behind P rest s later has_it)
  where
    by : (b : Bool) → P t ≡ b → (Contains rest s → (first_with P rest ≡ Some s) ⊎ Contains (behind_first P rest) s) → (first_with P (t ∷ rest) ≡ Some s) ⊎ Contains (behind_first P (t ∷ rest)) s
    by true e again =
        ⊎_elim
        (λ (same : t ≡ s). inl (found-first P t rest e ∙ ap (λ x. Some x) same))
        (λ (later : Contains rest s). inr (subst (λ (xs : List CopiedSlot). Contains xs s) (sym (ap (λ (b : Bool). if b then rest else behind_first P rest) e)) later))
        (Contains-cons t rest s m)
    by false e again =
        ⊎_elim
        (λ (same : t ≡ s). absurd (true≢false (sym has_it ∙ (ap P (sym same) ∙ e))))
        (λ (later : Contains rest s).
        ⊎_elim
        (λ (f : first_with P rest ≡ Some s). inl (passed-over P t rest e ∙ f))
        (λ (b : Contains (behind_first P rest) s). inr (subst (λ (xs : List CopiedSlot). Contains xs s) (sym (passed-behind P t rest e)) b))
        (again later))
        (Contains-cons t rest s m)

-- ---- after the sweep

end-freed : (xs ys : List ℕ) → first_of xs ys ≡ sweep.End → ys ≡ []
end-freed [] [] e = refl
end-freed [] (y ∷ ys) e = absurd (cc)
end-freed (x ∷ xs) ys e = absurd (cc)

-- all condemned objects are freed
pub none-unfreed : (s : Sweep) → next_of_sweep s ≡ sweep.End → unfreed s ≡ []
none-unfreed s e = end-freed (unemptied s) (unfreed s) e

-- a sweep is at its end, or isn't
ended : (a : SweepAt) → (a ≡ sweep.End) ⊎ (a ≢ sweep.End)
ended (sweep.Slots id) = inr (λ e. absurd (cc))
ended (sweep.Free id) = inr (λ e. absurd (cc))
ended sweep.End = inl refl

module _ (cells : List Cell) (slots : ℕ) (w : Walk) (s : Sweep) where
  -- what is left of the round lives
  pub left-lives : (g : Greening) → IsQuietSweep cells slots w s g → next_of_sweep s ≡ sweep.End → (id : ℕ) → Contains w.left id → Contains g.live id
  left-lives g k rest id m =
      ⊎_elim
      (λ (c : Contains (unfreed s) id). absurd (let none = subst (λ (xs : List ℕ). Contains xs id) (none-unfreed s rest) c in omega (arith, none.1)))
      (λ (l : Contains g.live id). l)
      (k.parted id m)

  -- and waits, where it isn't green
  pub left-waits : (g : Greening) → IsQuietSweep cells slots w s g → next_of_sweep s ≡ sweep.End → (id : ℕ) → Contains w.left id → (Contains g.green id → ⊥) → waits g id ≡ true
  left-waits g k rest id m out =
      ap (λ (b : Bool). b && not (has g.green id)) (has-Contains g.live id (left-lives g k rest id m)) ∙ ap (λ (b : Bool). true && not b) (absent g.green id out)

-- what waits isn't green
pub waits-out : (g : Greening) (id : ℕ) → waits g id ≡ true → Contains g.green id → ⊥
waits-out g id e m = true≢false (sym (has-Contains g.green id m) ∙ (waits-parts g id e).1)

-- ---- another stage

-- the same walk, of these seeds, at this stage
abbrev pub staged : Greening → List ℕ → GreenStage → Option Test → ℕ → Bool → Greening
staged g seeds stage test walked changed = record g { seeds = seeds; stage = stage; test = test; walked = walked; changed = changed }

-- what must hold there
pub record IsStage (cells : List Cell) (w : Walk) (g : Greening) (seeds : List ℕ) (stage : GreenStage) (test : Option Test) (walked : ℕ) (changed : Bool) : Type 0 where
  pub none_out : (id slot : ℕ) → Contains w.left id → (Contains g.green id → ⊥) → is_counted_strong cells (pointer_at cells id slot) ≡ true → IsToWeaken stage id slot (pointer_at cells id slot).target
  pub fewer : (id : ℕ) → Contains seeds id → Contains g.seeds id
  pub missing : (id : ℕ) → Contains g.seeds id → Contains seeds id ⊎ Contains g.green id
  pub unchanged : changed ≡ false
  pub was_walked : (place slot : ℕ) → WasWalked (staged g seeds stage test walked changed) stage place slot → place < length g.green → waits g (pointer_at cells (slice_index_or g.green place 0) slot).target ≡ false
  pub at_seed : stage ≡ AtSeed → walked ≡ length g.green
  pub in_hand : stage ≢ AtSeed → (id : ℕ) (ids : List ℕ) → seeds ≡ id ∷ ids → Contains g.green id

module _ (cells : List Cell) (g : Greening) (seeds : List ℕ) (stage : GreenStage) (test : Option Test) (walked : ℕ) (changed : Bool) (missing : (id : ℕ) → Contains g.seeds id → Contains seeds id ⊎ Contains g.green id) where
  led-staged : (id : ℕ) → IsLedTo cells g id → IsLedTo cells (staged g seeds stage test walked changed) id
  led-staged _ (from_seed id m) = ⊎_elim (λ (s : Contains seeds id). from_seed id s) (λ (n : Contains g.green id). from_green id n) (missing id m)
  led-staged _ (from_green id m) = from_green id m
  led-staged _ (over id slot l m) = over id slot (led-staged id l) m

module _ (cells : List Cell) (slots : ℕ) (w : Walk) (s : Sweep) where
  -- a quiet walk is quiet at a stage where this holds
  pub quiet-staged : (g : Greening) (seeds : List ℕ) (stage : GreenStage) (test : Option Test) (walked : ℕ) (changed : Bool) → IsQuietSweep cells slots w s g → next_of_sweep s ≡ sweep.End → IsStage cells w g seeds stage test walked changed
      → IsQuietSweep cells slots w s (staged g seeds stage test walked changed)
  quiet-staged g seeds stage test walked changed k rest t = record {
    zero = k.zero;
    none_out = t.none_out;
    green = k.green;
    seeds = λ id m. k.seeds id (t.fewer id m);
    copied = record { tell = k.copied.tell; all = k.copied.all };
    current = (k.current.0, t.unchanged);
    walked = t.was_walked;
    at_seed = t.at_seed;
    in_hand = t.in_hand;
    led = λ id m. led-staged cells g seeds stage test walked changed t.missing id (k.led id m);
    parted = k.parted;
    sweeping = λ more. absurd (more rest);
  }

  -- ---- the walk of the green objects begins

  -- a strong pointer out of an object that isn't green is in a slot that is still to be looked at, and that may lead to the
  -- flipped object
  pub strong-leads : (g : Greening) (flipped : ℕ) (rest : List CopiedSlot) → IsQuietSweep cells slots w s (record g { stage = AtInto flipped rest }) → next_of_sweep s ≡ sweep.End → ((c : CopiedSlot) → Contains rest c → Contains g.copied c)
      → (id slot : ℕ) → Contains w.left id → (Contains g.green id → ⊥) → is_counted_strong cells (pointer_at cells id slot) ≡ true
      → ((pointer_at cells id slot).target ≡ flipped) × (c : CopiedSlot) × Contains rest c × (c.id ≡ id) × (c.slot ≡ slot) × (may_lead_to g flipped c ≡ true)
  strong-leads g flipped rest k ends among id slot m out strong =
      let t = k.none_out id slot m out strong in
      let c = t.1.0 in
      let there = t.1.1 in
      let own = t.1.2 in
      let at = t.1.3 in
      let here = record g { stage = AtInto flipped rest } in
      let lives : Contains g.live c.id = subst (λ (x : ℕ). Contains g.live x) (sym own) (left-lives cells slots w s here k ends id m) in
      let wait : waits g c.id ≡ true = subst (λ (x : ℕ). waits g x ≡ true) (sym own) (left-waits cells slots w s here k ends id m out) in
      let told : (pointer_at cells c.id c.slot).target ≡ c.target = k.copied.tell c (among c there) lives in
      let names : c.target ≡ flipped = sym told ∙ (ap (λ (x : ℕ). (pointer_at cells x c.slot).target) own ∙ (ap (λ (y : ℕ). (pointer_at cells id y).target) at ∙ t.0)) in
      (t.0, c, there, own, at, leads-named g flipped c names wait)

  walking-stage : (g : Greening) (flipped : ℕ) (rest : List CopiedSlot) → IsQuietSweep cells slots w s (record g { stage = AtInto flipped rest }) → next_of_sweep s ≡ sweep.End → ((c : CopiedSlot) → Contains rest c → Contains g.copied c)
      → first_with (may_lead_to g flipped) rest ≡ None → IsQuietSweep cells slots w s (walking g)
  walking-stage g flipped rest k ends among none =
      let here = record g { stage = AtInto flipped rest } in
      let same : (if g.changed then 0 else g.walked) ≡ g.walked = ap (λ (b : Bool). if b then 0 else g.walked) k.current.1 in
      quiet-staged here g.seeds (AtOut (if g.changed then 0 else g.walked) 0) None g.walked false k ends (record {
        none_out = λ id slot m out strong. (let l = strong-leads g flipped rest k ends among id slot m out strong in first-none (may_lead_to g flipped) rest l.1 none l.2 l.5);
        fewer = λ id m. m;
        missing = λ id m. inl m;
        unchanged = refl;
        was_walked = λ place slot was l. k.walked place slot (⊎_elim (λ (b : place < (if g.changed then 0 else g.walked)). subst (λ (n : ℕ). place < n) same b) (λ (b : (place ≡ (if g.changed then 0 else g.walked)) × (slot < 0)). absurd (omega (arith, b.1))) was) l;
        at_seed = λ e. absurd (cc);
        in_hand = λ e id ids seeds. k.in_hand (λ e. absurd (cc)) id ids seeds;
      })

  -- ---- the next seed comes

  seed-missing : (seeds green : List ℕ) → ((id : ℕ) (ids : List ℕ) → seeds ≡ id ∷ ids → Contains green id) → (id : ℕ) → Contains seeds id → Contains (drop 1 seeds) id ⊎ Contains green id
  seed-missing [] green in_hand id m = inl m
  seed-missing (x ∷ xs) green in_hand id m =
      ⊎_elim
      (λ (same : x ≡ id). inr (subst (λ (y : ℕ). Contains green y) same (in_hand x xs refl)))
      (λ (later : Contains xs id). inl later)
      (Contains-cons x xs id m)

  done-stage : (g : Greening) (place slot : ℕ) → IsQuietSweep cells slots w s (record g { stage = AtOut place slot }) → next_of_sweep s ≡ sweep.End → length g.green ≤ place → IsQuietSweep cells slots w s (seed_done g)
  done-stage g place slot k ends past =
      quiet-staged (record g { stage = AtOut place slot }) (drop 1 g.seeds) AtSeed g.test (length g.green) g.changed k ends (record {
        none_out = k.none_out;
        fewer = λ id m. Contains-drop 1 g.seeds id m;
        missing = seed-missing g.seeds g.green (k.in_hand (λ e. absurd (cc)));
        unchanged = k.current.1;
        was_walked = λ p n was l. k.walked p n (inl (omega (arith, past, l))) l;
        at_seed = λ e. refl;
        in_hand = λ e. absurd (e refl);
      })

  -- ---- the walk settles

  quiet-out : (g : Greening) (place slot : ℕ) → IsQuietSweep cells slots w s (record g { stage = AtOut place slot }) → next_of_sweep s ≡ sweep.End → IsQuietSweep cells slots w s (settled_out (record g { stage = AtOut place slot }))
  quiet-out g place slot k ends = by (nat_lt place (length g.green)) refl
    where
      by : (b : Bool) → nat_lt place (length g.green) ≡ b → IsQuietSweep cells slots w s (settled_out (record g { stage = AtOut place slot }))
      by true e = subst (λ (h : Greening). IsQuietSweep cells slots w s h) (sym (out-there g place slot (ltb-true place (length g.green) e))) k
      by false e = subst (λ (h : Greening). IsQuietSweep cells slots w s h) (sym (out-done g place slot e)) (done-stage g place slot k ends (ltb-false place (length g.green) e))

  quiet-settled-at : (g : Greening) (st : GreenStage) → IsPlace g st → next_of_sweep s ≡ sweep.End → IsQuietSweep cells slots w s (record g { stage = st }) → IsQuietSweep cells slots w s (settled (record g { stage = st }))
  quiet-settled-at g AtSeed p ends k = k
  quiet-settled-at g (AtOut place slot) p ends k = quiet-out g place slot k ends
  quiet-settled-at g (AtInto flipped rest) p ends k = by (first_with (may_lead_to g flipped) rest) refl
    where
      by : (o : Option CopiedSlot) → first_with (may_lead_to g flipped) rest ≡ o → IsQuietSweep cells slots w s (settled (record g { stage = AtInto flipped rest }))
      by None e = subst (λ (h : Greening). IsQuietSweep cells slots w s (settled_out h)) (sym (into-none g flipped rest e))
          (quiet-out (record g { test = None; changed = false }) (if g.changed then 0 else g.walked) 0 (walking-stage g flipped rest k ends p.3 e) ends)
      by (Some c) e = subst (λ (h : Greening). IsQuietSweep cells slots w s (settled_out h)) (sym (into-some g flipped rest c e)) k

  unsettled : (g : Greening) (st : GreenStage) → st ≡ AtSeed → settled (record g { stage = st }) ≡ record g { stage = st }
  unsettled g AtSeed e = refl
  unsettled g (AtInto flipped rest) e = absurd (cc)
  unsettled g (AtOut place slot) e = absurd (cc)

  -- a quiet green walk settles as a quiet one
  pub quiet-settled : (g : Greening) → IsGreening g → IsQuietSweep cells slots w s g → IsQuietSweep cells slots w s (settled g)
  quiet-settled g i k =
      ⊎_elim
      (λ (ends : next_of_sweep s ≡ sweep.End). quiet-settled-at g g.stage i.place ends k)
      (λ (more : next_of_sweep s ≢ sweep.End). subst (λ (h : Greening). IsQuietSweep cells slots w s h) (sym (unsettled g g.stage (k.sweeping more).0)) k)
      (ended (next_of_sweep s))
