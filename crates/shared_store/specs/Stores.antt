-- A store as contracts see it, and looks at its cells.
use Rattle.std.specs.Prelude.{◌≡◌, ℕ, ◌+◌, ◌≤◌, slice_index_or}
use Rattle.cell_page.specs.Format.{IsSlotCount, page_of_id, place_of}
use Rattle.core_store.specs.declared.frame.Frame.{Frame}
use Rattle.latch_table.specs.Views.{page_claimed, page_dropped, loaded}
use Rattle.latch_table.specs.Holds.{TableView, IsAnother}
use Rattle.latch_table.specs.Rule.{HasMet, LieBelow}
use Rattle.shared_store.specs.declared.answers.Peek.{Peek}
use Rattle.shared_store.specs.declared.answers.Peek.TheVariants.{Cell, Again}
use Rattle.shared_store.specs.Passes.{Known}

-- what a store keeps
pub record IsStore {J : Type 0} (slots : ℕ) (t : TableView J) : Type 0 where
  pub sized : t.table.slots ≡ t.pages + 1
  pub few : t.pages ≤ 1024
  pub size : IsSlotCount slots

-- A look at the cell of this id: the pass saw the frame of its page while the history had so many entries, no fewer than it had
-- seen, and keeps that; the cell is that of the frame; each entry that the pass keeps is one of those. Or the word of the page
-- bears this other pass's number, now.
abbrev pub Peeks : {slots : ℕ} → Known slots → Known slots → ℕ → Peek slots → Type 0
Peeks {slots} old new id (Cell seen cell) =
    (old.knowledge.seen ≤ seen)
    × ((frame : Frame slots) × (new ≡ page_dropped (loaded (page_claimed old (page_of_id id) frame) seen) (page_of_id id)) × (slice_index_or frame.page (place_of id) cell ≡ cell))
    × (cell.id ≡ id)
    × LieBelow seen old.knowledge.entries
Peeks old new id (Again word seat) = (word ≡ page_of_id id) × IsAnother old seat × HasMet old new word seat
