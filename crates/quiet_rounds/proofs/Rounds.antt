-- A quiet round stays quiet over each event of the collector, and no object joins the queue.
use Rattle.std.proofs.Common.{◌≡◌, ℕ, Option, Some, refl, ap, ◌∙◌}
use Rattle.plain_model.specs.History.{Moment, next}
use Rattle.store_model.specs.Core.{Core}
use Rattle.log_record.specs.declared.cell_record.CellRecord.{CellRecord}
use Rattle.log_record.specs.declared.cell_record.CellRecord.TheVariants as logs
use Rattle.core_store.specs.declared.act.Act.{Act}
use Rattle.core_store.specs.Collects.{entry_of}
use Rattle.core_store.specs.RoundView.{RoundView, Proceeds, skip, start, weaken, scan, judge, cut, free, flip, into, strengthen, end}
use Rattle.quiet_rounds.specs.Quiet.{IsQuietRound}
use Rattle.quiet_rounds.specs.Laws.{IsQuietEvent, NoneJoins, QuietEventLaw}
use Rattle.quiet_rounds.proofs.Walks.{quiet-skip, quiet-start, quiet-weaken, quiet-scan}
use Rattle.quiet_rounds.proofs.Judge.{quiet-judge}
use Rattle.quiet_rounds.proofs.Greens.{quiet-flip, quiet-into, quiet-strengthen}
use Rattle.quiet_rounds.proofs.Sweeps.{quiet-cut, quiet-free}
use Rattle.quiet_rounds.proofs.Ends.{quiet-end}

-- what an event leaves of a quiet round and of the queue
abbrev StaysQuiet : ℕ → Core → Core → Act → RoundView → Type 0
StaysQuiet slots c d event v = IsQuietRound slots d.cells v × NoneJoins event c.queue d.queue

-- ---- all events

by-event : (slots : ℕ) (c d : Core) (u v : RoundView) (event : Act) (logged : Option CellRecord) → Proceeds slots c.moment.state.ids u event logged v → IsQuietEvent slots c d u v event logged → IsQuietRound slots c.cells u → StaysQuiet slots c d event v
by-event slots c d u v event logged (skip id) e q = quiet-skip slots c d id e q
by-event slots c d u v event logged (start id) e q = quiet-start slots c d id e q
by-event slots c d u v event logged (weaken w id slot target joins at) e q = quiet-weaken slots c d w id slot target joins e q
by-event slots c d u v event logged (scan w id copy at) e q = quiet-scan slots c d w id copy e q
by-event slots c d u v event logged (judge w j at) e q = quiet-judge slots c d w j e q
by-event slots c d u v event logged (cut w s slot id target strong g at) e q = quiet-cut slots c d w s slot id target strong g at e q
by-event slots c d u v event logged (free w s slot id g at) e q = quiet-free slots c d w s slot id g at e q
by-event slots c d u v event logged (flip w s slot id g at) e q = quiet-flip slots c d w s slot id g e q
by-event slots c d u v event logged (into w s slot «from» k to g at) e q = quiet-into slots c d w s slot «from» k to g e q
by-event slots c d u v event logged (strengthen w s slot «from» k to g at) e q = quiet-strengthen slots c d w s slot «from» k to g e q
by-event slots c d u v event logged (end w s slot g at) e q = quiet-end slots c d w s slot g at e q

-- an event of the collector begins no transaction
pub active-stays : (m : Moment) (logged : Option CellRecord) → (next m (entry_of logged)).state.active ≡ m.state.active
active-stays m (Some (logs.Free id)) = refl
active-stays m logged = refl

pub quiet-events : QuietEventLaw
quiet-events slots c d u v event logged e q =
    let stays = by-event slots c d u v event logged e.proceeds e q in
    (stays.0, stays.1, ap (λ (x : Core). x.moment.state.active) e.after ∙ (active-stays c.moment logged ∙ e.quiet))
