-- How the command `ship` ends.
use Rattle.std.specs.Prelude.{◌≡◌, ◌⊎◌, ℕ, List, [], Option, IsSome, codes}
use Rattle.std.specs.Io.KnownBytes.{Appends}
use Rattle.disk_model.specs.declared.area.Area.{Area}
use Rattle.disk_model.specs.Areas.{Bytes}
use Rattle.disk_model.specs.Causes.{Rose}
use Rattle.store_opening.specs.declared.open_refusal.OpenRefusal.{OpenRefusal}
use Rattle.store_opening.specs.Looks.{IsLookedAt}
use Rattle.store_opening.specs.Store.{Reads, IsOfStore}
use Rattle.script_lines.specs.Numbers.{object_slots}
use Rattle.script_lines.specs.Output.{AppendsFront, open_refusal_line}
use Rattle.current_log.specs.Current.{RefusesLog}
use Rattle.stream_writing.specs.Shipped.{AreLogBytes, IsLogFront}
use Rattle.brahma_shell.specs.declared.ended.Ended.{Ended}
use Rattle.brahma_shell.specs.Ended.{shut_in, disk_in}
use Rattle.brahma_shell.specs.Top.{Outside, Ends}

-- the current log of what the disk reads was written, or not, with this status
pub record Shipped {D : Type 0} (content : D → Area → Option (List ℕ)) (may_leave : D → Area → List ℕ → Type 0) (moment : D → ℕ) (left_since : D → ℕ → Bytes → Type 0)
    (disk : D) (before after : Outside) (status : ℕ) (ended : Ended D) : Type 0 where
  pub shut : IsSome (shut_in ended)
  pub statuses : (status ≡ 0) ⊎ ((status ≡ 5) ⊎ ((status ≡ 6) ⊎ ((status ≡ 7) ⊎ (status ≡ 8))))
  -- the disk was only looked at: each image, at each moment and at the exit, is one from before
  pub looks : IsLookedAt content may_leave moment left_since disk (disk_in ended)
  -- the bytes of the log that the super area names were written, up to and with its first closed commit byte
  pub done : status ≡ 0 → (image : Bytes) → Reads content disk image → (bytes : List ℕ) × AreLogBytes object_slots image bytes × Appends before.written after.written bytes
  pub write : status ≡ 5 → Rose before.write_faults after.write_faults
      × ((image : Bytes) → Reads content disk image → (bytes : List ℕ) × AreLogBytes object_slots image bytes × AppendsFront before.written after.written bytes)
  -- the disk failed: a front of them was written, perhaps none, and the last line
  pub failed : status ≡ 6 → Rose before.disk_faults after.disk_faults
      × ((«front» : List ℕ) × Ends before after «front» (codes "refused: disk\n") × ((image : Bytes) → Reads content disk image → IsLogFront object_slots image «front»))
  -- there is no log of a store
  pub refused : status ≡ 7 → (refusal : OpenRefusal) × IsOfStore refusal × Ends before after [] (open_refusal_line refusal)
      × ((image : Bytes) → Reads content disk image → RefusesLog object_slots image refusal)
  pub memory : status ≡ 8 → Ends before after [] (codes "refused: memory\n")
