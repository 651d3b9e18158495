-- What is kept of a log whose records are tested without the cells.
use Rattle.std.specs.Prelude.{◌≡◌, ℕ, ◌<◌, ◌≤◌, List, [], length, slice_index}
use Rattle.restart_laws.specs.Unended.{Unended}
use Rattle.log_replay.specs.Replays.{Replaying}

pub record Fitting : Type 0 where
  -- how many pages the store has
  pub pages : ℕ
  -- the transactions that haven't ended
  pub unended : List (ℕ × Unended)

-- after the first record of a log
abbrev pub fitting_from : ℕ → Fitting
fitting_from pages = record { pages = pages; unended = [] }

-- a replay over so many pages that awaits images of each leaves all cells alone
pub record LeavesCells (pages : ℕ) (v : Replaying) : Type 0 where
  pub long : length v.skips ≡ pages
  pub awaits : (page : ℕ) → page < pages → 1 ≤ slice_index v.skips page
