-- What a round is that asks for a look, a copy or another event.
use Rattle.std.proofs.Common.{◌≡◌, ℕ, refl, sym, ap, ◌∙◌, subst}
use Rattle.red_walk.specs.declared.red_at.RedAt.{RedAt}
use Rattle.red_walk.specs.declared.red_at.RedAt.TheVariants as red
use Rattle.red_walk.specs.Walk.{Walk, next}
use Rattle.green_walk.specs.declared.sweep.SweepAt.{SweepAt}
use Rattle.green_walk.specs.declared.sweep.SweepAt.TheVariants as sweep
use Rattle.green_walk.specs.Sweeping.{SweepState as Sweep, next as next_of_sweep}
use Rattle.green_walk.specs.Greening.{Greening, next as next_of_green}
use Rattle.core_store.specs.declared.round_at.RoundAt.{RoundAt}
use Rattle.core_store.specs.declared.round_at.RoundAt.TheVariants as at
use Rattle.core_store.specs.RoundView.{RoundView, Closed, Walking, Sweeping, asked, asked_by_walk, asked_by_green, asked_by_sweep}
use Rattle.core_store.proofs.AskedGreen.{IsAskedBy, asked-by}

-- ---- a walk

walk-look : (n : RedAt) (id slot : ℕ) → asked_by_walk n ≡ at.Look id slot → n ≡ red.Look id slot
walk-look (red.Look i k) id slot e = cc
walk-look (red.Copy i) id slot e = absurd (cc)
walk-look red.Verdict id slot e = absurd (cc)

walk-copy : (n : RedAt) (id : ℕ) → asked_by_walk n ≡ at.Copy id → n ≡ red.Copy id
walk-copy (red.Look i k) id e = absurd (cc)
walk-copy (red.Copy i) id e = cc
walk-copy red.Verdict id e = absurd (cc)

walk-judge : (n : RedAt) → asked_by_walk n ≡ at.Judge → n ≡ red.Verdict
walk-judge (red.Look i k) e = absurd (cc)
walk-judge (red.Copy i) e = absurd (cc)
walk-judge red.Verdict e = refl

walk-cut : {X : Type 0} (n : RedAt) (id slot : ℕ) → asked_by_walk n ≡ at.Cut id slot → X
walk-cut (red.Look i k) id slot e = absurd (cc)
walk-cut (red.Copy i) id slot e = absurd (cc)
walk-cut red.Verdict id slot e = absurd (cc)

walk-free : {X : Type 0} (n : RedAt) (id : ℕ) → asked_by_walk n ≡ at.Free id → X
walk-free (red.Look i k) id e = absurd (cc)
walk-free (red.Copy i) id e = absurd (cc)
walk-free red.Verdict id e = absurd (cc)

walk-queue : {X : Type 0} (n : RedAt) → asked_by_walk n ≡ at.Queue → X
walk-queue (red.Look i k) e = absurd (cc)
walk-queue (red.Copy i) e = absurd (cc)
walk-queue red.Verdict e = absurd (cc)

-- ---- a green walk

-- it is what a green walk asks for
abbrev pub IsGreenAt : RoundAt → Type 0
IsGreenAt (at.Seed id) = Unit {0}
IsGreenAt (at.Test id slot) = Unit {0}
IsGreenAt (at.Flip id) = Unit {0}
IsGreenAt (at.Into «from» slot to) = Unit {0}
IsGreenAt (at.Out «from» slot) = Unit {0}
IsGreenAt (at.Strengthen «from» slot to) = Unit {0}
IsGreenAt at.End = Unit {0}
IsGreenAt _ = ⊥

-- nothing else
not-green : {X : Type 0} (g : Greening) (a : RoundAt) → asked_by_green g.slots g.test (next_of_green g) ≡ a → (IsAskedBy g.slots g.test (next_of_green g) a → ⊥) → X
not-green g a e n = absurd (n (subst (IsAskedBy g.slots g.test (next_of_green g)) e (asked-by g.slots g.test (next_of_green g))))

walk-green : {X : Type 0} (n : RedAt) → IsGreenAt (asked_by_walk n) → X
walk-green (red.Look i k) e = absurd e
walk-green (red.Copy i) e = absurd e
walk-green red.Verdict e = absurd e

-- ---- a sweep

sweep-look : {X : Type 0} (k : ℕ) (g : Greening) (n : SweepAt) (id slot : ℕ) → asked_by_sweep k g n ≡ at.Look id slot → X
sweep-look k g (sweep.Slots i) id slot e = absurd (cc)
sweep-look k g (sweep.Free i) id slot e = absurd (cc)
sweep-look k g sweep.End id slot e = not-green g (at.Look id slot) e (λ x. x)

sweep-copy : {X : Type 0} (k : ℕ) (g : Greening) (n : SweepAt) (id : ℕ) → asked_by_sweep k g n ≡ at.Copy id → X
sweep-copy k g (sweep.Slots i) id e = absurd (cc)
sweep-copy k g (sweep.Free i) id e = absurd (cc)
sweep-copy k g sweep.End id e = not-green g (at.Copy id) e (λ x. x)

sweep-judge : {X : Type 0} (k : ℕ) (g : Greening) (n : SweepAt) → asked_by_sweep k g n ≡ at.Judge → X
sweep-judge k g (sweep.Slots i) e = absurd (cc)
sweep-judge k g (sweep.Free i) e = absurd (cc)
sweep-judge k g sweep.End e = not-green g at.Judge e (λ x. x)

sweep-cut : (k : ℕ) (g : Greening) (n : SweepAt) (id slot : ℕ) → asked_by_sweep k g n ≡ at.Cut id slot → (n ≡ sweep.Slots id) × (k ≡ slot)
sweep-cut k g (sweep.Slots i) id slot e = (cc, cc)
sweep-cut k g (sweep.Free i) id slot e = absurd (cc)
sweep-cut k g sweep.End id slot e = not-green g (at.Cut id slot) e (λ x. x)

sweep-free : (k : ℕ) (g : Greening) (n : SweepAt) (id : ℕ) → asked_by_sweep k g n ≡ at.Free id → n ≡ sweep.Free id
sweep-free k g (sweep.Slots i) id e = absurd (cc)
sweep-free k g (sweep.Free i) id e = cc
sweep-free k g sweep.End id e = not-green g (at.Free id) e (λ x. x)

sweep-queue : {X : Type 0} (k : ℕ) (g : Greening) (n : SweepAt) → asked_by_sweep k g n ≡ at.Queue → X
sweep-queue k g (sweep.Slots i) e = absurd (cc)
sweep-queue k g (sweep.Free i) e = absurd (cc)
sweep-queue k g sweep.End e = not-green g at.Queue e (λ x. x)

-- the green walk comes after the sweep
sweep-green : (k : ℕ) (g : Greening) (n : SweepAt) → IsGreenAt (asked_by_sweep k g n) → n ≡ sweep.End
sweep-green k g (sweep.Slots i) e = absurd e
sweep-green k g (sweep.Free i) e = absurd e
sweep-green k g sweep.End e = refl

-- ---- a round

pub asked-queue : (r : RoundView) → asked r ≡ at.Queue → r ≡ Closed
asked-queue Closed e = refl
asked-queue (Walking w) e = walk-queue (next w) e
asked-queue (Sweeping w s k g) e = sweep-queue k g (next_of_sweep s) e

pub asked-look : (r : RoundView) (id slot : ℕ) → asked r ≡ at.Look id slot → (w : Walk) × (r ≡ Walking w) × (next w ≡ red.Look id slot)
asked-look Closed id slot e = absurd (cc)
asked-look (Walking w) id slot e = (w, refl, walk-look (next w) id slot e)
asked-look (Sweeping w s k g) id slot e = sweep-look k g (next_of_sweep s) id slot e

pub asked-copy : (r : RoundView) (id : ℕ) → asked r ≡ at.Copy id → (w : Walk) × (r ≡ Walking w) × (next w ≡ red.Copy id)
asked-copy Closed id e = absurd (cc)
asked-copy (Walking w) id e = (w, refl, walk-copy (next w) id e)
asked-copy (Sweeping w s k g) id e = sweep-copy k g (next_of_sweep s) id e

pub asked-judge : (r : RoundView) → asked r ≡ at.Judge → (w : Walk) × (r ≡ Walking w) × (next w ≡ red.Verdict)
asked-judge Closed e = absurd (cc)
asked-judge (Walking w) e = (w, refl, walk-judge (next w) e)
asked-judge (Sweeping w s k g) e = sweep-judge k g (next_of_sweep s) e

pub asked-cut : (r : RoundView) (id slot : ℕ) → asked r ≡ at.Cut id slot → (w : Walk) × (s : Sweep) × (g : Greening) × (r ≡ Sweeping w s slot g) × (next_of_sweep s ≡ sweep.Slots id)
asked-cut Closed id slot e = absurd (cc)
asked-cut (Walking w) id slot e = walk-cut (next w) id slot e
asked-cut (Sweeping w s k g) id slot e = let p = sweep-cut k g (next_of_sweep s) id slot e in (w, s, g, ap (λ (n : ℕ). Sweeping w s n g) p.1, p.0)

pub asked-free : (r : RoundView) (id : ℕ) → asked r ≡ at.Free id → (w : Walk) × (s : Sweep) × (slot : ℕ) × (g : Greening) × (r ≡ Sweeping w s slot g) × (next_of_sweep s ≡ sweep.Free id)
asked-free Closed id e = absurd (cc)
asked-free (Walking w) id e = walk-free (next w) id e
asked-free (Sweeping w s k g) id e = (w, s, k, g, refl, sweep-free k g (next_of_sweep s) id e)

-- what the green walk asks for comes after the sweep
pub asked-green : (r : RoundView) → IsGreenAt (asked r) → (w : Walk) × (s : Sweep) × (slot : ℕ) × (g : Greening) × (r ≡ Sweeping w s slot g) × (next_of_sweep s ≡ sweep.End)
asked-green Closed e = absurd e
asked-green (Walking w) e = walk-green (next w) e
asked-green (Sweeping w s k g) e = (w, s, k, g, refl, sweep-green k g (next_of_sweep s) e)

pub asked-end : (r : RoundView) → asked r ≡ at.End → (w : Walk) × (s : Sweep) × (slot : ℕ) × (g : Greening) × (r ≡ Sweeping w s slot g) × (next_of_sweep s ≡ sweep.End)
asked-end r e = asked-green r (subst IsGreenAt (sym e) tt)

-- the green walk asked for it
pub asked-by_green : (r : RoundView) (a : RoundAt) → IsGreenAt a → asked r ≡ a → (w : Walk) × (s : Sweep) × (slot : ℕ) × (g : Greening) × (r ≡ Sweeping w s slot g) × (next_of_sweep s ≡ sweep.End) × (asked_by_green g.slots g.test (next_of_green g) ≡ a) × IsAskedBy g.slots g.test (next_of_green g) a
asked-by_green r a k e =
    let x = asked-green r (subst IsGreenAt (sym e) k) in
    let is : asked_by_green x.3.slots x.3.test (next_of_green x.3) ≡ a = sym (ap (asked_by_sweep x.2 x.3) x.5) ∙ (sym (ap asked x.4) ∙ e) in
    (x.0, x.1, x.2, x.3, x.4, x.5, is, subst (IsAskedBy x.3.slots x.3.test (next_of_green x.3)) is (asked-by x.3.slots x.3.test (next_of_green x.3)))
