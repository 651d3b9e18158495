-- The entries that are left to be counted less.
use Rattle.std.proofs.Common.{◌≡◌, ℕ, ◌+◌, ◌≤◌, List, drop}
use Rattle.ref_tables.specs.declared.counts.Counts.{Counts}
use Rattle.ref_tables.specs.declared.kind.TempRef.{TempRef}
use Rattle.ref_tables.specs.Counts.{count_of, count_in, room_in}

-- the entries from the place on are still counted, and those before it no more
pub record AreBeingForgotten (old new : Counts) (entries : List TempRef) (place : ℕ) : Type 0 where
  pub left : (t : ℕ) → count_of new t + count_in t entries ≡ count_of old t + count_in t (drop place entries)
  pub room : room_in old ≤ room_in new
