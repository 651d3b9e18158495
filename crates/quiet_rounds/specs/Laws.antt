-- Quiet rounds stay quiet, take nothing into the queue, and end.
use Rattle.std.specs.Prelude.{◌≡◌, ℕ, ◌+◌, ◌≤◌, List, length, Contains, Option, IfSome, if◌then◌else◌}
use Rattle.store_model.specs.Core.{Core}
use Rattle.store_model.specs.Sound.{IsSound}
use Rattle.log_record.specs.declared.cell_record.CellRecord.{CellRecord}
use Rattle.log_record.specs.Records.{FitsCells}
use Rattle.core_store.specs.declared.act.Act.{Act}
use Rattle.core_store.specs.Collects.{Collects, BeginsGreen, entry_of}
use Rattle.core_store.specs.Collecting.{is_pop}
use Rattle.core_store.specs.declared.act.Act.TheVariants as act
use Rattle.core_store.specs.Events.{core_after}
use Rattle.core_store.specs.RoundView.{RoundView, round_of, Passes, Proceeds, IsInStep}
use Rattle.quiet_rounds.specs.Quiet.{NoneActive, IsQuietRound}

-- an event of the collector on a sound journal beside which no client is active, with the cursor before and after it
pub record IsQuietEvent (slots : ℕ) (c d : Core) (u v : RoundView) (event : Act) (logged : Option CellRecord) : Type 0 where
  pub sound : IsSound c
  pub slots_are : c.moment.state.slots ≡ slots
  pub quiet : NoneActive c
  pub before : round_of u ≡ c.round
  pub behind : round_of v ≡ d.round
  pub in_step : IsInStep slots c.moment.state.ids u
  pub in_step_behind : IsInStep slots c.moment.state.ids v
  pub fits : IfSome logged (FitsCells c.cells)
  pub proceeds : Proceeds slots c.moment.state.ids u event logged v
  pub begins : event ≡ act.Judge → BeginsGreen c v
  pub after : d ≡ core_after slots c (entry_of logged) logged d.queue d.round
  pub collects : Collects slots c event logged d.queue d.round

-- no object joins the queue, and one leaves it where the event took the first one out
pub record NoneJoins (event : Act) (queue behind : List ℕ) : Type 0 where
  pub fewer : (id : ℕ) → Contains behind id → Contains queue id
  pub shorter : length behind + (if is_pop event then 1 else 0) ≤ length queue

-- a quiet round stays quiet over an event, and no object joins the queue
abbrev pub QuietEventLaw : Type 0
QuietEventLaw =
    (slots : ℕ) (c d : Core) (u v : RoundView) (event : Act) (logged : Option CellRecord) → IsQuietEvent slots c d u v event logged → IsQuietRound slots c.cells u
    → IsQuietRound slots d.cells v × NoneJoins event c.queue d.queue × NoneActive d

-- a quiet round stays quiet over looks
abbrev pub QuietLooksLaw : Type 0
QuietLooksLaw =
    (slots : ℕ) (c : Core) (u v : RoundView) → IsSound c → c.moment.state.slots ≡ slots → NoneActive c → round_of u ≡ c.round → IsInStep slots c.moment.state.ids u
    → Passes slots c.cells u v → IsQuietRound slots c.cells u → IsQuietRound slots c.cells v
