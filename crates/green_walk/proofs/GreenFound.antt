-- What an answer leaves is in step.
use Rattle.std.proofs.Common.{◌≡◌, ◌≢◌, ℕ, ◌+◌, ◌≤◌, if◌then◌else◌, Bool, true, List, [], ◌∷◌, ◌++◌, drop, Option, None, refl, sym, ap, ◌∙◌, subst, arith, eq-eqb, ne_eqb}
use Rattle.red_walk.specs.Ids.{Ids}
use Rattle.red_walk.proofs.Members.{Contains-has}
use Rattle.green_walk.specs.declared.green_at.GreenAt.{GreenAt}
use Rattle.green_walk.specs.declared.green_at.GreenAt.TheVariants.{Seed}
use Rattle.green_walk.specs.declared.green_at.Test.{Test}
use Rattle.green_walk.specs.declared.green.Stage.{Stage}
use Rattle.green_walk.specs.declared.green.Stage.TheVariants as stage
use Rattle.green_walk.specs.declared.sweep.Found.{Found}
use Rattle.green_walk.specs.declared.sweep.Found.TheVariants.{Nothing, Made, Strong}
use Rattle.green_walk.specs.Linked.{SlotList, IsNextNaming}
use Rattle.green_walk.specs.Greening.{Greening, GreenStage, AtSeed, AtInto, AtOut, IsGreening, IsPlace, IsAnswer, waits, first_seed, settled, asked_at, next, found_at_seed, found_at_out, found_in, found, moved, moved_to}
use Rattle.green_walk.specs.GreenInside.{greening_of, stage_of, AreInStep}
use Rattle.green_walk.proofs.GreenSteps.{IsThere, there, waits-parts, id-within, moved-to-greening, found-greening}

-- what waits has an id within the limits
pub waiting-within : (g : Greening) (id : ℕ) → IsGreening g → waits g id ≡ true → (1 ≤ id) × (id ≤ g.limit)
waiting-within g id k w = id-within g.live g.limit id k.live_ids (Contains-has g.live id (waits-parts g id w).0)

-- what was made at a seed is the seed, and it waited
pub made-seed : (g : Greening) (ids : List ℕ) (id : ℕ) → IsAnswer g (first_seed ids) (Made id) → (waits g id ≡ true) × (rest : List ℕ) × (ids ≡ id ∷ rest)
made-seed g [] id a = absurd a
made-seed g (x ∷ xs) id a = let e = sym a.0 in (subst (λ y. waits g y ≡ true) e a.1, xs, ap (λ y. y ∷ xs) e)

-- an answer where something is to be looked at leaves what it says there
pub found-here : (g : Greening) (s : GreenStage) (what : Found) → settled g ≡ g → g.stage ≡ s → IsAnswer g (asked_at g s) what → IsGreening g → IsGreening (found_in g s what)
found-here g s what e at a k =
    let asked : asked_at g s ≡ next g = ap (asked_at g) (sym at) ∙ ap (λ (h : Greening). asked_at h h.stage) (sym e) in
    let f = found-greening g what k (subst (λ x. IsAnswer g x what) asked a) in
    subst IsGreening (ap (λ (h : Greening). found_in h h.stage what) e ∙ ap (λ st. found_in g st what) at) f

-- what an answer leaves, where it is known what the settled walk is and where it stands
pub found-is : (g h : Greening) (s : GreenStage) (what : Found) → h ≡ settled g → h.stage ≡ s → found_in h s what ≡ found g what
found-is g h s what e at = ap (λ st. found_in h st what) (sym at) ∙ ap (λ (v : Greening). found_in v v.stage what) e

seed-settled-at : (g : Greening) (s : GreenStage) → s ≡ AtSeed → settled (record g { stage = s }) ≡ record g { stage = s }
seed-settled-at g AtSeed e = refl
seed-settled-at g (AtInto flipped rest) e = absurd (cc)
seed-settled-at g (AtOut place slot) e = absurd (cc)

pub seed-settled : (g : Greening) → g.stage ≡ AtSeed → settled g ≡ g
seed-settled g e = seed-settled-at g g.stage e

-- a slot of an object is there, and after all of them is the next object
pub gone-on : (g : Greening) (place slot : ℕ) → slot ≡ g.slots → (moved_to g place slot).stage ≡ AtOut (place + 1) 0
gone-on g place slot e = ap (λ b. if b then AtOut (place + 1) 0 else AtOut place slot) (eq-eqb slot g.slots e)

pub gone-within : (g : Greening) (place slot : ℕ) → slot ≢ g.slots → (moved_to g place slot).stage ≡ AtOut place slot
gone-within g place slot n = ap (λ b. if b then AtOut (place + 1) 0 else AtOut place slot) (ne_eqb slot g.slots n)

-- an answer other than a strong pointer that was made only moves the walk on
pub moved-only : (g : Greening) (place slot : ℕ) (what : Found) → ((id : ℕ) → what ≡ Made id → ⊥) → found_at_out g place slot what ≡ moved g place slot
moved-only g place slot Nothing n = refl
moved-only g place slot Strong n = refl
moved-only g place slot (Made id) n = absurd (n id refl)

module _ (slots limit : ℕ) (seeds : Ids) (done : ℕ) (live green : Ids) (at : Stage) (test : Option Test) (walked : ℕ) (changed current : Bool) (copied : SlotList) (k : AreInStep slots limit seeds done live green at test walked changed current copied) where
  abbrev given : Greening
  given = greening_of slots limit seeds.ids done live.ids green.ids at test walked changed current copied.slots

  -- the same of the walk as it is seen
  seen-answer : (seen : Greening) (at : Greening → GreenAt) (what told : Found) → given ≡ seen → what ≡ told → IsAnswer seen (at seen) what → IsAnswer given (at given) told
  seen-answer seen at what told e f a = subst (λ (v : Greening). IsAnswer v (at v) told) (sym e) (subst (λ w. IsAnswer seen (at seen) w) f a)

  seen-stage : (seen : Greening) (s : GreenStage) → given ≡ seen → seen.stage ≡ s → given.stage ≡ s
  seen-stage seen s e at = ap (λ (v : Greening). v.stage) e ∙ at

  pub seen-into : (seen : Greening) (flipped rest named : ℕ) → given ≡ seen → at ≡ stage.Into flipped rest named → seen.stage ≡ AtInto flipped (drop rest seen.copied)
  seen-into seen flipped rest named e i = ap (λ (v : Greening). v.stage) (sym e) ∙ ap (stage_of copied.slots) i ∙ ap (λ (v : Greening). AtInto flipped (drop rest v.copied)) e

  -- the seed that was made has an id within the limits
  pub made-seed-within : (seen : Greening) (what : Found) (id : ℕ) → given ≡ seen → what ≡ Made id → IsAnswer seen (first_seed seen.seeds) what → (1 ≤ id) × (id ≤ limit)
  made-seed-within seen what id e f a = waiting-within given id k.sound (made-seed given given.seeds id (seen-answer seen (λ v. first_seed v.seeds) what (Made id) e f a)).0

  -- the seed to which a strong pointer leads has one too
  pub strong-seed-within : (seen : Greening) (what : Found) (id : ℕ) (shown : List ℕ) → given ≡ seen → what ≡ Strong → IsAnswer seen (first_seed seen.seeds) what → shown ≡ seeds.ids → Seed id ≡ first_seed (drop done shown) → (1 ≤ id) × (id ≤ limit)
  strong-seed-within seen what id shown e f a s t =
      let at : first_seed given.seeds ≡ Seed id = ap (λ xs. first_seed (drop done xs)) (sym s) ∙ sym t in
      let b = seen-answer seen (λ v. first_seed v.seeds) what Strong e f a in
      waiting-within given id k.sound (subst (λ x. IsAnswer given x Strong) at b)

  -- the walk goes on with the pointers to a flipped seed
  pub made-in-step : (seen : Greening) (what : Found) (id named : ℕ) (now : Ids) → given ≡ seen → what ≡ Made id → seen.stage ≡ AtSeed → IsAnswer seen (first_seed seen.seeds) what → now ≡ record green { ids = green.ids ++ id ∷ [] } → IsNextNaming copied.slots id 0 named
      → AreInStep slots limit seeds done live now (stage.Into id 0 named) None walked changed current copied
  made-in-step seen what id named now v w at answer e n =
      let seed = seen-stage seen AtSeed v at in
      let a = seen-answer seen (λ v. first_seed v.seeds) what (Made id) v w answer in
      let m = made-seed given given.seeds id a in
      let f = found-here given AtSeed (Made id) (seed-settled given seed) seed a k.sound in
      let within = waiting-within given id k.sound m.0 in
      let after = subst (λ xs. IsGreening (found_at_seed given (first_seed xs) (Made id))) m.2 f in
      record {
        seeds_limit = k.seeds_limit;
        live_limit = k.live_limit;
        green_limit = ap (λ (v : Ids). v.limit) e ∙ k.green_limit;
        copied_limit = k.copied_limit;
        few = k.few;
        seeds_few = k.seeds_few;
        done_few = k.done_few;
        way = (omega arith, (λ e. let least = within.0 in omega (arith, least, e)), within.1, λ c. n);
        sound = subst (λ (v : Ids). IsGreening (greening_of slots limit seeds.ids done live.ids v.ids (stage.Into id 0 named) None walked changed current copied.slots)) (sym e) after;
      }

  -- a target that becomes green at a slot of a green object has an id within the limits
  pub made-out-within : (seen : Greening) (place slot : ℕ) (what : Found) (id : ℕ) → given ≡ seen → what ≡ Made id → IsAnswer seen (asked_at seen (AtOut place slot)) what → (1 ≤ id) × (id ≤ limit)
  made-out-within seen place slot what id e f a = waiting-within given id k.sound (seen-answer seen (λ v. asked_at v (AtOut place slot)) what (Made id) e f a)

  -- the walk of green objects goes on here, at a slot of the object at this place or after the object
  abbrev IsMovedTo : ℕ → ℕ → Stage → Type 0
  IsMovedTo place slot after = (p : ℕ) × (q : ℕ) × (after ≡ stage.Out p q) × ((moved_to given place slot).stage ≡ AtOut p q)

  pub goes-on : (place slot : ℕ) (after : Stage) → slot ≡ slots → after ≡ stage.Out (place + 1) 0 → IsMovedTo place slot after
  goes-on place slot after e a = (place + 1, 0, a, gone-on given place slot e)

  pub goes-within : (place slot : ℕ) (after : Stage) → slot ≢ slots → after ≡ stage.Out place slot → IsMovedTo place slot after
  goes-within place slot after n a = (place, slot, a, gone-within given place slot n)

  -- after a slot
  abbrev IsMoved : ℕ → ℕ → Stage → Type 0
  IsMoved place slot after = IsMovedTo place (slot + 1) after

  pub moves-on : (place slot : ℕ) (after : Stage) → slot + 1 ≡ slots → after ≡ stage.Out (place + 1) 0 → IsMoved place slot after
  moves-on place slot after e a = goes-on place (slot + 1) after e a

  pub moves-within : (place slot : ℕ) (after : Stage) → slot + 1 ≢ slots → after ≡ stage.Out place (slot + 1) → IsMoved place slot after
  moves-within place slot after n a = goes-within place (slot + 1) after n a

  out-in-step : (seen : Greening) (place slot : ℕ) (what : Found) (now : Ids) (after : Stage) → given ≡ seen → seen.stage ≡ AtOut place slot → settled seen ≡ seen → IsAnswer seen (asked_at seen (AtOut place slot)) what
      → now.limit ≡ green.limit → found_at_out given place slot what ≡ record (moved given place slot) { green = now.ids } → IsMoved place slot after → AreInStep slots limit seeds done live now after None walked changed current copied
  out-in-step seen place slot what now after v at s answer l g (p, q, e, m) =
      let a = seen-answer seen (λ v. asked_at v (AtOut place slot)) what what v refl answer in
      let f = found-here given (AtOut place slot) what (subst (λ (h : Greening). settled h ≡ h) (sym v) s) (seen-stage seen (AtOut place slot) v at) a k.sound in
      let moves : IsGreening (record given { green = now.ids; stage = AtOut p q; test = None }) = subst (λ st. IsGreening (record given { green = now.ids; stage = st; test = None })) m (subst IsGreening g f) in
      subst (λ (st : Stage). AreInStep slots limit seeds done live now st None walked changed current copied) (sym e) (record {
        seeds_limit = k.seeds_limit;
        live_limit = k.live_limit;
        green_limit = l ∙ k.green_limit;
        copied_limit = k.copied_limit;
        few = k.few;
        seeds_few = k.seeds_few;
        done_few = k.done_few;
        way = tt;
        sound = moves;
      })

  -- after a slot whose pointer was made strong
  pub made-out-in-step : (seen : Greening) (place slot : ℕ) (what : Found) (id : ℕ) (now : Ids) (after : Stage) → given ≡ seen → seen.stage ≡ AtOut place slot → settled seen ≡ seen → IsAnswer seen (asked_at seen (AtOut place slot)) what
      → what ≡ Made id → now ≡ record green { ids = green.ids ++ id ∷ [] } → IsMoved place slot after → AreInStep slots limit seeds done live now after None walked changed current copied
  made-out-in-step seen place slot what id now after v at s answer w e m =
      out-in-step seen place slot what now after v at s answer (ap (λ (n : Ids). n.limit) e)
      (ap (found_at_out given place slot) w ∙ sym (ap (λ (n : Ids). record (moved given place slot) { green = n.ids }) e)) m

  -- after any other slot
  pub passed-out-in-step : (seen : Greening) (place slot : ℕ) (what : Found) (after : Stage) → given ≡ seen → seen.stage ≡ AtOut place slot → settled seen ≡ seen → IsAnswer seen (asked_at seen (AtOut place slot)) what
      → ((id : ℕ) → what ≡ Made id → ⊥) → IsMoved place slot after → AreInStep slots limit seeds done live green after None walked changed current copied
  passed-out-in-step seen place slot what after v at s answer n m = out-in-step seen place slot what green after v at s answer refl (moved-only given place slot what n) m

  -- the walk goes on to a slot of the green object that it is at
  pub moved-in-step : (seen : Greening) (place from_slot slot : ℕ) (after : Stage) → given ≡ seen → seen.stage ≡ AtOut place from_slot → settled seen ≡ seen → slot ≤ slots → IsMovedTo place slot after → AreInStep slots limit seeds done live green after None walked changed current copied
  moved-in-step seen place from_slot slot after v here s within (p, q, e, m) =
      let stands = seen-stage seen (AtOut place from_slot) v here in
      let still : settled given ≡ given = subst (λ (h : Greening). settled h ≡ h) (sym v) s in
      let early = subst (IsThere given) stands (subst (λ (h : Greening). IsThere h h.stage) still (there given)) in
      let at_one = subst (IsPlace given) stands k.sound.place in
      let moves : IsGreening (record given { stage = AtOut p q; test = None }) = subst (λ st. IsGreening (record given { stage = st; test = None })) m (moved-to-greening given place slot k.sound at_one.0 early within) in
      subst (λ (st : Stage). AreInStep slots limit seeds done live green st None walked changed current copied) (sym e) (record {
        seeds_limit = k.seeds_limit;
        live_limit = k.live_limit;
        green_limit = k.green_limit;
        copied_limit = k.copied_limit;
        few = k.few;
        seeds_few = k.seeds_few;
        done_few = k.done_few;
        way = tt;
        sound = moves;
      })
