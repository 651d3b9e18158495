-- The entries of each client, and the room for more.
use Rattle.std.specs.Prelude.{◌≡◌, ℕ, ◌+◌, ◌≤◌, ◌==◌, List, [], ◌∷◌, ◌++◌, vec_len, vec_capacity, slice_get, IsSomeAnd, if◌then◌else◌}
use Rattle.std.specs.Global.{Vec}
use Rattle.std.specs.Option.{option_map_or}
use Rattle.ref_tables.specs.declared.kind.TempRef.{TempRef}

-- the entries of each client, which stand at its number
abbrev pub Lists : Type 0
Lists = List (Vec TempRef)

-- the client's entries
abbrev pub list_of : Lists → ℕ → List TempRef
list_of lists pass = option_map_or (λ list. list.items) (slice_get lists pass) []

-- the client's list can take n entries more without memory
abbrev pub HasRoom : Lists → ℕ → ℕ → Type 0
HasRoom lists pass n = IsSomeAnd (slice_get lists pass) (λ list. vec_len list + n ≤ vec_capacity list)

-- no client has less room than before
abbrev pub KeepsRoom : Lists → Lists → Type 0
KeepsRoom old new = (p n : ℕ) → HasRoom old p n → HasRoom new p n

-- each client has the entries that it had
abbrev pub AreSame : Lists → Lists → Type 0
AreSame old new = (p : ℕ) → list_of new p ≡ list_of old p

-- the client has this entry at the end, and each other has those that it had
abbrev pub AddsEntry : Lists → Lists → ℕ → TempRef → Type 0
AddsEntry old new pass entry = (p : ℕ) → list_of new p ≡ (if p == pass then list_of old p ++ entry ∷ [] else list_of old p)

-- the client has no entry, and each other has those that it had
abbrev pub EndsClient : Lists → Lists → ℕ → Type 0
EndsClient old new pass = (p : ℕ) → list_of new p ≡ (if p == pass then [] else list_of old p)
