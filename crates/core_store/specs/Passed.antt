-- Looks at which there was nothing to do, and the event after them.
use Rattle.std.specs.Prelude.{◌≡◌, ℕ, true, List}
use Rattle.store_model.specs.Core.{Core}
use Rattle.core_store.specs.declared.round_at.RoundAt.{RoundAt}
use Rattle.core_store.specs.declared.three.HeldFrame.{HeldFrame}
use Rattle.core_store.specs.Frames.{Agree}
use Rattle.core_store.specs.RoundView.{asked, is_event, Passes}
use Rattle.core_store.specs.Tables.{TablesView}
use Rattle.core_store.specs.Stands.{Stands}

-- looks were made, if any, with nothing to do at any of them, and the tables stand after them for whatever they stood for
pub record HasPassed (slots : ℕ) (v w : TablesView) (held : List (HeldFrame slots)) : Type 0 where
  pub same : w ≡ record v { round = w.round }
  pub passes : (c : Core) → Stands slots v c → Agree c.cells held → Passes slots c.cells v.round w.round
  pub stands : (c : Core) → Stands slots v c → Agree c.cells held → Stands slots w c

-- r comes next after these looks, and is an event in whatever the tables stood for before them
pub record IsEventOf (slots : ℕ) (v w : TablesView) (held : List (HeldFrame slots)) (r : RoundAt) : Type 0 where
  pub next : r ≡ asked w.round
  pub event : (c : Core) → Stands slots v c → Agree c.cells held → is_event c.cells r ≡ true
