-- Along a whole round each moment is quiet.
use Rattle.std.proofs.Common.{◌≡◌, ℕ, ap}
use Rattle.store_model.specs.Core.{Core}
use Rattle.core_store.specs.RoundView.{RoundView, Closed, Walking, Sweeping}
use Rattle.red_walk.specs.Walk.{opened}
use Rattle.quiet_rounds.specs.Quiet.{IsQuietRound}
use Rattle.quiet_rounds.specs.WholeRounds.{OpenRun, none, looks, event, IsWholeRound}
use Rattle.quiet_rounds.proofs.Looks.{quiet-looks}
use Rattle.quiet_rounds.proofs.Rounds.{quiet-events}

-- where it was quiet at the start it is so at the end
pub run-quiet : (slots : ℕ) (c : Core) (u : RoundView) (d : Core) (v : RoundView) (n : ℕ) → OpenRun slots c u d v n → IsQuietRound slots c.cells u → IsQuietRound slots d.cells v
run-quiet slots c u _ _ _ none q = q
run-quiet slots c u _ _ _ (looks d v w n runs still passes) q =
    quiet-looks slots d v w still.sound still.slots_are still.quiet still.round still.in_step passes (run-quiet slots c u d v n runs q)
run-quiet slots c u _ _ _ (event d e v w act logged n runs one still_open) q = (quiet-events slots d e v w act logged one (run-quiet slots c u d v n runs q)).0

module _ (slots : ℕ) (c d : Core) (x events : ℕ) (r : IsWholeRound slots c d x events) where
  -- opening it changes no cell
  pub opening-cells : r.opening.cells ≡ c.cells
  opening-cells = ap (λ (y : Core). y.cells) r.starts.after

  pub opening-quiet : IsQuietRound slots r.opening.cells (Walking (opened c.moment.state.ids x))
  opening-quiet = (quiet-events slots c r.opening Closed (Walking (opened c.moment.state.ids x)) _ _ r.starts tt).0

  -- and before its end
  pub last-quiet : IsQuietRound slots r.last.cells (Sweeping r.walk r.swept r.slot r.greening)
  last-quiet = run-quiet slots r.opening (Walking (opened c.moment.state.ids x)) r.last (Sweeping r.walk r.swept r.slot r.greening) r.between r.runs opening-quiet
