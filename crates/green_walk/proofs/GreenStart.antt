-- The start of a green walk.
use Rattle.std.proofs.Common.{◌≡◌, ℕ, ◌*◌, ◌<◌, ◌≤◌, Bool, false, List, [], length, map, take, None, sym, ap, subst, arith}
use Rattle.std.specs.Prelude.{Contains}
use Rattle.std.proofs.lemmas.List.{length-map, length-take}
use Rattle.cell_page.specs.Format.{IsSlotCount}
use Rattle.store_model.specs.Core.{Copy}
use Rattle.store_model.proofs.OnceLaws.{nothing-in, once-none}
use Rattle.red_walk.specs.Ids.{Ids, IsIdList}
use Rattle.red_walk.specs.Walk.{Walk, IsWalk, next}
use Rattle.red_walk.specs.declared.red_at.RedAt.TheVariants.{Verdict}
use Rattle.red_walk.proofs.WalkLaws.{verdict-place}
use Rattle.green_walk.specs.declared.copied_slots.CopiedSlot.{CopiedSlot}
use Rattle.green_walk.specs.declared.green.Stage.TheVariants as stage
use Rattle.green_walk.specs.Judged.{Judged}
use Rattle.green_walk.specs.Greening.{AtSeed, IsGreening}
use Rattle.green_walk.specs.Linked.{SlotList}
use Rattle.green_walk.specs.GreenInside.{greening_of, AreInStep}

-- at the verdict all objects were copied
pub all-copied : (slots : ℕ) (w : Walk) → IsWalk slots w → next w ≡ Verdict → length w.list ≡ length w.copies
all-copied slots w k e =
    let n = length-map w.copies (λ (e : ℕ × Copy). e.0) in
    let m : length (map (λ e. e.0) w.copies) ≡ length (take (length w.copies) w.list) = ap length k.in_order in
    let t = length-take (length w.copies) w.list in
    let few = verdict-place w e in
    omega (arith, n, m, t, few)

pub none-listed : (limit : ℕ) → IsIdList [] limit
none-listed limit = record { within = λ place l. absurd (omega (arith, l)); once = once-none; most = omega arith }

-- what was started is a green walk
pub start-greening : (slots limit : ℕ) (seeds live : List ℕ) (current : Bool) (copied : List CopiedSlot) → IsSlotCount slots → IsIdList live limit → IsIdList seeds limit
    → ((id : ℕ) → Contains seeds id → Contains live id) → length copied ≤ limit * slots → ((s : CopiedSlot) → Contains copied s → s.slot < slots)
    → IsGreening (record { seeds = seeds; live = live; green = []; stage = AtSeed; test = None; walked = 0; changed = false; current = current; copied = copied; slots = slots; limit = limit })
start-greening slots limit seeds live current copied count l s among few within = record {
  slot_count = count;
  live_ids = l;
  green_ids = none-listed limit;
  green_live = λ id m. nothing-in id m;
  seeds_live = among;
  seeds_few = s.most;
  walked_few = omega arith;
  copied_few = few;
  copied_within = within;
  place = tt;
  tests = tt;
}

-- what was taken over is in step
pub start-in-step : (slots limit : ℕ) (j : Judged) (seeds live green : Ids) (copied : SlotList) (current : Bool)
    → seeds.limit ≡ limit → live.limit ≡ limit → green.limit ≡ limit → copied.limit ≡ limit → limit < 65536
    → seeds.ids ≡ j.seeds → live.ids ≡ j.live → green.ids ≡ [] → IsSlotCount slots → IsIdList j.live j.limit → IsIdList j.seeds j.limit → j.limit ≡ limit
    → ((id : ℕ) → Contains j.seeds id → Contains j.live id) → length copied.slots ≤ limit * slots → ((s : CopiedSlot) → Contains copied.slots s → s.slot < slots)
    → AreInStep slots limit seeds 0 live green stage.Seed None 0 false current copied
start-in-step slots limit j seeds live green copied current sl ll gl cl small s l g count lk sk same among few within = record {
  seeds_limit = sl;
  live_limit = ll;
  green_limit = gl;
  copied_limit = cl;
  few = small;
  seeds_few = subst (λ (xs : List ℕ). length xs ≤ limit) (sym s) (subst (λ n. length j.seeds ≤ n) same sk.most);
  done_few = omega arith;
  way = tt;
  sound =
      subst (λ ids. IsGreening (greening_of slots limit seeds.ids 0 live.ids ids stage.Seed None 0 false current copied.slots)) (sym g)
      (start-greening slots limit seeds.ids live.ids current copied.slots count
      (subst (λ n. IsIdList live.ids n) same (subst (λ ids. IsIdList ids j.limit) (sym l) lk))
      (subst (λ n. IsIdList seeds.ids n) same (subst (λ ids. IsIdList ids j.limit) (sym s) sk))
      (λ id m. subst (λ ids. Contains ids id) (sym l) (among id (subst (λ ids. Contains ids id) s m)))
      few within);
}
