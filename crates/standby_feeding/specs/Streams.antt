-- How much of a stream is read, and how long one is that has no end yet.
use Rattle.std.specs.Prelude.{◌≡◌, ◌≢◌, ◌⊎◌, ℕ, ◌+◌, ◌<◌, ◌≤◌, List, ◌∷◌, length, slice_index_or, Option}
use Rattle.std.specs.Io.KnownBytes.{IsAtEnd}
use Rattle.cell_page.specs.Format.{IsSlotCount}
use Rattle.gate_log.specs.Batches.{most_bytes}
use Rattle.ship_stream.specs.Reading.{Reading, InLog, base_size}
use Rattle.ship_stream.specs.Laws.{IsRead}

-- each of them is a byte
abbrev pub AreBytes : List ℕ → Type 0
AreBytes bytes = (i : ℕ) → slice_index_or bytes i 0 < 256

-- after what came whole the closed commit byte came, and anything after it
abbrev pub IsEnded : {slots : ℕ} → Reading slots → List ℕ → Type 0
IsEnded (InLog pages batches) rest = (commit_byte : ℕ) × (more : List ℕ) × (rest ≡ commit_byte ∷ more) × (commit_byte ≢ 1) × (1 ≤ length batches)
IsEnded _ rest = ⊥

-- the closed commit byte of a stream is among these bytes
abbrev pub HasEnd : (slots : ℕ) → List ℕ → Type 0
HasEnd slots bytes = (r : Reading slots) × (rest : List ℕ) × IsRead bytes r rest × IsEnded r rest

-- a source that gave these bytes was read to its end, or to the closed commit byte of the stream
abbrev pub IsReadThrough : (slots : ℕ) → Option (List ℕ) → List ℕ → Type 0
IsReadThrough slots now bytes = HasEnd slots bytes ⊎ IsAtEnd now

-- how many bytes the number of pages, 1,024 pages and a log area have at most
abbrev pub longest : ℕ → ℕ
longest slots = base_size slots 1024 + most_bytes

-- bytes that show no fault and have no end yet are fewer
abbrev pub ShortLaw : Type 0
ShortLaw = (slots : ℕ) (bytes rest : List ℕ) (r : Reading slots) → IsSlotCount slots → AreBytes bytes → IsRead bytes r rest → (IsEnded r rest → ⊥) → length bytes < longest slots
