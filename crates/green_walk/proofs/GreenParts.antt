-- The parts of a green walk, in step with each other.
use Rattle.std.proofs.Common.{◌≡◌, ℕ, ◌+◌, ◌<◌, nat_lt, if◌then◌else◌, Bool, false, List, length, drop, get_or, Option, None, sym, ap, ◌∙◌, subst, arith}
use Rattle.std.proofs.lemmas.List.{length-drop, get_or_default, drop-drop}
use Rattle.red_walk.specs.Ids.{Ids}
use Rattle.green_walk.specs.declared.copied_slots.CopiedSlot.{CopiedSlot}
use Rattle.green_walk.specs.declared.green_at.Test.{Test}
use Rattle.green_walk.specs.declared.green.Stage.{Stage}
use Rattle.green_walk.specs.declared.green.Stage.TheVariants as stage
use Rattle.green_walk.specs.Greening.{AtSeed, AtInto, Greening, IsGreening, settled_into, settled_out}
use Rattle.green_walk.specs.Linked.{SlotList}
use Rattle.green_walk.specs.GreenInside.{greening_of, AreInStep, IsHead}
use Rattle.green_walk.proofs.GreenSteps.{walking-greening, seed-done-greening, untested-out, into-some, out-done}
use Rattle.green_walk.proofs.GreenAsked.{at-stage, head-first}

-- where the head is a slot the walk stays there
pub into-stays : (g : Greening) (flipped rest place : ℕ) → g.stage ≡ AtInto flipped (drop rest g.copied) → IsHead g flipped rest place → place < length g.copied → g ≡ settled_into g
into-stays g flipped rest place e h l =
    let none : CopiedSlot = record { id = 0; slot = 0; target = 0 } in
    let first = head-first g flipped rest place (get_or g.copied place none) h l (λ d. get_or_default g.copied place none d l) in
    let at = at-stage g (AtInto flipped (drop rest g.copied)) e in
    at ∙ sym (into-some g flipped (drop rest g.copied) (get_or g.copied place none) first) ∙ ap settled_into (sym at)

module _ (slots limit : ℕ) (seeds : Ids) (done : ℕ) (live green : Ids) (at : Stage) (test : Option Test) (walked : ℕ) (changed current : Bool) (copied : SlotList)
    (k : AreInStep slots limit seeds done live green at test walked changed current copied) where
  -- a walk of the green objects begins
  pub walk-in-step : (place : ℕ) → place ≡ (if changed then 0 else walked) → 0 < length (drop done seeds.ids) → AreInStep slots limit seeds done live green (stage.Out place 0) None walked false current copied
  walk-in-step place e some = record {
    seeds_limit = k.seeds_limit;
    live_limit = k.live_limit;
    green_limit = k.green_limit;
    copied_limit = k.copied_limit;
    few = k.few;
    seeds_few = k.seeds_few;
    done_few = k.done_few;
    way = tt;
    sound =
        subst (λ n. IsGreening (greening_of slots limit seeds.ids done live.ids green.ids (stage.Out n 0) None walked false current copied.slots)) (sym e)
        (walking-greening (greening_of slots limit seeds.ids done live.ids green.ids at test walked changed current copied.slots) k.sound some);
  }

-- the seed in hand is done
module _ (slots limit : ℕ) (seeds : Ids) (done : ℕ) (live green : Ids) (place slot : ℕ) (test : Option Test) (walked : ℕ) (changed current : Bool) (copied : SlotList)
    (k : AreInStep slots limit seeds done live green (stage.Out place slot) test walked changed current copied) (end : nat_lt place (length green.ids) ≡ false) where
  pub done-some : done < length seeds.ids
  done-some = let some = k.sound.place.0 in let n = length-drop done seeds.ids in omega (arith, some, n)

  pub done-in-step : (n : ℕ) → n ≡ length green.ids → AreInStep slots limit seeds (done + 1) live green stage.Seed test n changed current copied
  done-in-step n e = record {
    seeds_limit = k.seeds_limit;
    live_limit = k.live_limit;
    green_limit = k.green_limit;
    copied_limit = k.copied_limit;
    few = k.few;
    seeds_few = k.seeds_few;
    done_few = (let some = done-some in omega (arith, some));
    way = tt;
    sound =
        subst (λ m. IsGreening (greening_of slots limit seeds.ids (done + 1) live.ids green.ids stage.Seed test m changed current copied.slots)) (sym e)
        (subst (λ ids. IsGreening (record { seeds = ids; live = live.ids; green = green.ids; stage = AtSeed; test = test; walked = length green.ids; changed = changed; current = current; copied = copied.slots; slots = slots; limit = limit })) (drop-drop 1 done seeds.ids)
        (seed-done-greening (greening_of slots limit seeds.ids done live.ids green.ids (stage.Out place slot) test walked changed current copied.slots) k.sound
        (untested-out (greening_of slots limit seeds.ids done live.ids green.ids (stage.Out place slot) test walked changed current copied.slots) place slot test end k.sound.tests)));
  }

  pub done-view : (n : ℕ) → n ≡ length green.ids
      → greening_of slots limit seeds.ids (done + 1) live.ids green.ids stage.Seed test n changed current copied.slots ≡ settled_out (greening_of slots limit seeds.ids done live.ids green.ids (stage.Out place slot) test walked changed current copied.slots)
  done-view n e =
      ap (λ m. greening_of slots limit seeds.ids (done + 1) live.ids green.ids stage.Seed test m changed current copied.slots) e
      ∙ ap (λ (ids : List ℕ). record { seeds = ids; live = live.ids; green = green.ids; stage = AtSeed; test = test; walked = length green.ids; changed = changed; current = current; copied = copied.slots; slots = slots; limit = limit }) (sym (drop-drop 1 done seeds.ids))
      ∙ sym (out-done (greening_of slots limit seeds.ids done live.ids green.ids (stage.Out place slot) test walked changed current copied.slots) place slot end)
