-- What an event makes of a journal: its cells, its moment, its references, its queue and its open round.
use Rattle.std.specs.Prelude.{ℕ, List, Option}
use Rattle.plain_model.specs.declared.calls.Entry.{Entry}
use Rattle.plain_model.specs.History.{next}
use Rattle.store_model.specs.Core.{Round, Core}
use Rattle.log_record.specs.declared.cell_record.CellRecord.{CellRecord}
use Rattle.core_store.specs.Logged.{after_logged}
use Rattle.core_store.specs.References.{references_by}
use Rattle.core_store.specs.Queued.{queue_after}
use Rattle.core_store.specs.Touched.{objects_touched, round_after}

-- after an entry and what it logged, with this queue and this round
abbrev pub core_after : ℕ → Core → Entry → Option CellRecord → List ℕ → Option Round → Core
core_after slots c entry logged queue round =
    record { cells = after_logged slots c.cells logged; moment = next c.moment entry; refs = references_by c.moment.state c.refs entry logged; queue = queue; round = round }

-- after an event of a client or of an abort
abbrev pub after_event : ℕ → Core → Entry → Option CellRecord → Core
after_event slots c entry logged = core_after slots c entry logged (queue_after c logged) (round_after c.round (objects_touched logged))
