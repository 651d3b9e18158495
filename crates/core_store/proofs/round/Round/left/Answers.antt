use Rattle.std.proofs.Common.{◌≤◌, sym, subst, arith}
use Rattle.core_store.proofs.RoundLaws.{work-few, slots-few, sweep-few}
use Rattle.core_store.proofs.round.Round.left.Goals as goal

pub overflow_add-result-in-Sweeping : goal.overflow_add-result-in-Sweeping
overflow_add-result-in-Sweeping g c =
    let a = c.self.inside in
    let k = c.self.invariant in
    let slots = slots-few g.row.SLOTS k.walk_sound.slot_count in
    let sweeps = sweep-few g.row.SLOTS c.unemptied.result a.slot slots c.unemptied.type_inv in
    let greens = work-few a.green k.green_sound (subst (λ n. n ≤ 8192) (sym k.green_limit) k.few) (subst (λ n. n ≤ 14) (sym k.green_slots) slots) in
    grind (arith, sweeps, greens, c.saturating_sub.ensures, c.unfreed.type_inv, c.work_left-in-Sweeping.ensures)

pub overflow_add-result-in-Sweeping-2 : goal.overflow_add-result-in-Sweeping-2
overflow_add-result-in-Sweeping-2 g c =
    let a = c.self.inside in
    let k = c.self.invariant in
    let slots = slots-few g.row.SLOTS k.walk_sound.slot_count in
    let sweeps = sweep-few g.row.SLOTS c.unemptied.result a.slot slots c.unemptied.type_inv in
    let greens = work-few a.green k.green_sound (subst (λ n. n ≤ 8192) (sym k.green_limit) k.few) (subst (λ n. n ≤ 14) (sym k.green_slots) slots) in
    grind (arith, sweeps, greens, c.saturating_sub.ensures, c.unfreed.type_inv, c.work_left-in-Sweeping.ensures)
