-- The collector takes fewer objects out of its queue than the store has ids, where no transaction is active.
use Rattle.std.proofs.Common.{◌≡◌, ◌⊎◌, ⊎_elim, inl, inr, ℕ, ◌+◌, ◌<◌, ◌≤◌, cond, Bool, true, false, List, [], length, Some, refl, sym, ap, subst, arith}
use Rattle.plain_model.specs.History.{History}
use Rattle.cell_model.specs.Cells.{Cell}
use Rattle.core_store.specs.JournalView.{JournalView, cells_of}
use Rattle.core_store.specs.RoundView.{RoundView, Closed}
use Rattle.quiet_rounds.specs.Quiet.{IsQuietRound}
use Rattle.brahma_shell.specs.declared.gc.Stepped.{Stepped}
use Rattle.brahma_shell.specs.Points.{point_of}
use Rattle.brahma_shell.specs.Replay.{StepsOnce}
use Rattle.brahma_shell.specs.Rest.{StaysQuiet}
use Rattle.script_lines.specs.Numbers.{object_slots}

-- no transaction is active, and of so many objects that were taken out of the queue each was there when the first round opened
pub record IsQuietSoFar (j : JournalView) (popped : ℕ) : Type 0 where
  pub active : (point_of j).moment.state.active ≡ []
  pub few : (popped ≡ 0) ⊎ (IsQuietRound object_slots (cells_of j) j.round × (popped + length j.queue < j.history.ids))

pub quiet-none : (j : JournalView) → (point_of j).moment.state.active ≡ [] → IsQuietSoFar j 0
quiet-none j idle = record { active = idle; few = inl refl }

quiet-closed : (cells : List Cell) (r : RoundView) → r ≡ Closed → IsQuietRound object_slots cells r
quiet-closed cells r e = subst (λ (x : RoundView). IsQuietRound object_slots cells x) (sym e) tt

quiet-step : (b d : JournalView) (popped now : ℕ) (taken : Bool) → IsQuietSoFar b popped → StaysQuiet b d taken → d.history.ids ≡ b.history.ids → now ≡ popped + cond taken 1 0 → IsQuietSoFar d now
quiet-step b d popped now true q s same e = record {
  active = s.active;
  few =
      let stays = s.quiet (quiet-closed (cells_of b) b.round (s.closed refl)) in
      let few : popped + length b.queue < b.history.ids = ⊎_elim (λ z. let k = s.few in omega (arith, z, k)) (λ h. h.1) q.few in
      inr (stays.0, let l = stays.1 in omega (arith, l, few, same, e));
}
quiet-step b d popped now false q s same e = record {
  active = s.active;
  few =
      ⊎_elim
      (λ z. inl (omega (arith, z, e)))
      (λ h. let stays = s.quiet h.0 in inr (stays.0, let l = stays.1 in let k = h.1 in omega (arith, l, k, same, e)))
      q.few;
}

pub quiet-more : (b d : JournalView) (s : Stepped) (text : List ℕ) (popped now : ℕ) → IsQuietSoFar b popped → StepsOnce (Some s) b d text → now ≡ popped + cond s.popped 1 0 → IsQuietSoFar d now
quiet-more b d s text popped now q h e = quiet-step b d popped now s.popped q (h.4 q.active) (ap (λ (x : History). x.ids) h.2.grows.history) e

-- so the count is never reached
pub quiet-below : (j : JournalView) (popped : ℕ) → 1 ≤ j.history.ids → IsQuietSoFar j popped → popped < j.history.ids
quiet-below j popped some q = ⊎_elim (λ z. omega (arith, z, some)) (λ h. let k = h.1 in omega (arith, k)) q.few
