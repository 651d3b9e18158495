-- How many entries have a target.
use Rattle.std.specs.Prelude.{◌≡◌, ℕ, ◌+◌, ◌==◌, List, count_by, get_or, unwrap_or, nat_eq}
use Rattle.indexmap.specs.IndexMap.{IndexMap, get, spare}
use Rattle.ref_tables.specs.declared.kind.TempRef.{TempRef}
use Rattle.ref_tables.specs.declared.counts.Counts.{Counts}

-- how many entries a map counts for the target
abbrev pub count_at : {S : Type 0} → IndexMap ℕ ℕ S → ℕ → ℕ
count_at counts target = unwrap_or (get nat_eq counts target) 0

-- how many entries are counted for the target, in the row and in the map
abbrev pub count_of : Counts → ℕ → ℕ
count_of counts target = get_or counts.row.items target 0 + count_at counts.rest target

-- how many entries more can be counted without memory
abbrev pub room_in : Counts → ℕ
room_in counts = spare counts.rest

-- each target is counted as often as before
abbrev pub HasSameCounts : Counts → Counts → Type 0
HasSameCounts old new = (target : ℕ) → count_of new target ≡ count_of old target

-- how many of the entries have the target
abbrev pub count_in : ℕ → List TempRef → ℕ
count_in target entries = count_by (λ entry. entry.target == target) entries
