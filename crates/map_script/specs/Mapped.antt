-- How a script over a store that keeps a map ends.
use Rattle.std.specs.Prelude.{◌≡◌, ◌⊎◌, ℕ, List, [], ◌++◌, length, Option}
use Rattle.std.specs.Io.KnownBytes.{Appends}
use Rattle.disk_model.specs.Causes.{Rose}
use Rattle.script_lines.specs.Output.{AppendsFront, EndsWith}
use Rattle.map_calls.specs.Output.{keys_line}
use Rattle.map_script.specs.declared.stop.Stop.{Stop}
use Rattle.map_script.specs.declared.stop.Stop.TheVariants as stop
use Rattle.map_script.specs.Following.{Follows, AreAll}
use Rattle.map_calls.specs.Views.{StoreView, Leaving, GoesOn}
use Rattle.map_script.specs.Stopping.{StopsScript, status_of, last_line}

-- All lines of the source were done, in order: they lead from the first map to the one that the store keeps, whatever a power loss
-- leaves. All ids are free that can be. Their text was written, and the number of the map's keys.
pub record EndsWell (told : Type 0) (source left : Option (List ℕ)) (first now : StoreView) (leaves : Leaving) (before written : Option (List ℕ)) : Type 0 where
  pub done : List (List ℕ)
  pub text : List ℕ
  pub follows : Follows told 1 done first.map now.map text
  pub all : AreAll source left done
  pub goes : GoesOn now leaves
  pub collected : now.room ≡ now.map.free
  pub printed : Appends before written (text ++ keys_line (length now.map.pairs))

-- the same, but the sink failed the last line
pub record CutsEnd (told : Type 0) (source left : Option (List ℕ)) (first now : StoreView) (leaves : Leaving) (before written : Option (List ℕ)) : Type 0 where
  pub done : List (List ℕ)
  pub text : List ℕ
  pub follows : Follows told 1 done first.map now.map text
  pub all : AreAll source left done
  pub goes : GoesOn now leaves
  pub collected : now.room ≡ now.map.free
  pub printed : AppendsFront before written (text ++ keys_line (length now.map.pairs))

-- a script stops: after some first lines, or at the last line of its text
abbrev pub StopsAnywhere : Type 0 → Stop → Option (List ℕ) → Option (List ℕ) → StoreView → StoreView → Leaving → Option (List ℕ) → Option (List ℕ) → Type 0
StopsAnywhere told s source left first now leaves before written =
    StopsScript told s source left first now leaves before written
    ⊎ ((s ≡ stop.Write) × CutsEnd told source left first now leaves before written)

-- what a source and a sink show: what is left to read and what was written, where they tell it, and how many of their calls failed
pub record Streams : Type 0 where
  pub left : Option (List ℕ)
  pub read_faults : ℕ
  pub written : Option (List ℕ)
  pub write_faults : ℕ

-- the streams that show this
abbrev pub streams : Option (List ℕ) → ℕ → Option (List ℕ) → ℕ → Streams
streams left read_faults written write_faults = record { left = left; read_faults = read_faults; written = written; write_faults = write_faults }

-- a script stopped, and after its text its last line was written
pub record EndsStopped (told : Type 0) (s : Stop) (before after : Streams) (first now : StoreView) (leaves : Leaving) : Type 0 where
  pub written : Option (List ℕ)
  pub stops : StopsAnywhere told s before.left after.left first now leaves before.written written
  pub last : EndsWith written after.written before.write_faults after.write_faults [] (last_line s)
  pub read : s ≡ stop.Read → Rose before.read_faults after.read_faults
  pub write : s ≡ stop.Write → Rose before.write_faults after.write_faults

-- a script over a store that keeps a map ended with this status
abbrev pub Mapped : Type 0 → Streams → Streams → StoreView → StoreView → Leaving → ℕ → Type 0
Mapped told before after first now leaves status =
    ((status ≡ 0) × EndsWell told before.left after.left first now leaves before.written after.written)
    ⊎ ((s : Stop) × (status ≡ status_of s) × EndsStopped told s before after first now leaves)
