-- A store that is made of a replay.
use Rattle.std.specs.Prelude.{◌≡◌, ℕ, List, ⊤}
use Rattle.plain_model.specs.Graphs.{ids_of}
use Rattle.cell_model.specs.Cells.{Cell}
use Rattle.cell_model.specs.Graph.{graph_of}
use Rattle.log_replay.specs.Inside.{cells_of_pages}
use Rattle.log_replay.specs.Replays.{Replaying}
use Rattle.opened_images.specs.Opened.{KeepsRules}
use Rattle.restart_store.specs.Fresh.{MayBeMade}
use Rattle.standby.specs.declared.refusals.PromoteRefusal.{PromoteRefusal}
use Rattle.standby.specs.declared.refusals.PromoteRefusal.TheVariants.{Unsound, Memory, NoBase}
use Rattle.standby.specs.declared.settling.Settled.{Settled}
use Rattle.standby.specs.Promoted.{Restores}

-- It has the cells that are restored from those of the replay, they keep the store rules, and a store may be made with its pages.
pub record IsSettled (slots : ℕ) (v : Replaying) (s : Settled slots) : Type 0 where
  pub cells : List Cell
  pub restores : Restores slots v cells
  pub pages : MayBeMade s.pages.items
  pub are : cells_of_pages s.pages.items ≡ cells
  pub rules : KeepsRules cells
  pub stored : s.stored ≡ ids_of (graph_of cells)

-- the refusal is on account of the cells, or memory ran out
abbrev pub IsOfCells : PromoteRefusal → Type 0
IsOfCells (Unsound id rule) = ⊤
IsOfCells Memory = ⊤
IsOfCells _ = ⊥

-- pages are missing, or memory ran out
abbrev pub IsOfBase : PromoteRefusal → Type 0
IsOfBase Memory = ⊤
IsOfBase (NoBase len) = ⊤
IsOfBase _ = ⊥
