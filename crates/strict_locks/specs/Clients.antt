-- The objects that each client holds.
use Rattle.std.specs.Prelude.{◌≡◌, ℕ, ◌<◌, ◌==◌, true, List, [], ◌∷◌, ◌++◌, ◌≢◌, ◌&&◌, not, slice_get, unwrap_or, if◌then◌else◌}
use Rattle.std.specs.List.{list_any}
use Rattle.std.specs.Ordering.{nat_cmp}
use Rattle.std.specs.BTreeMap.{is_at}
use Rattle.strict_locks.specs.Locks.{Table, holders_of, is_holder, Holds, AreHeld}

-- the list of the objects that each client holds, which stands at its number
abbrev pub Lists : Type 0
Lists = List (List ℕ)

-- the objects that the client's list names
abbrev pub ids_of : Lists → ℕ → List ℕ
ids_of lists pass = unwrap_or (slice_get lists pass) []

-- each client's list names what it named
abbrev pub AreSame : Lists → Lists → Type 0
AreSame old new = (p : ℕ) → ids_of new p ≡ ids_of old p

-- this client's list names nothing, and the others are the old ones
abbrev pub DropsIds : Lists → Lists → ℕ → Type 0
DropsIds old new pass = (p : ℕ) → ids_of new p ≡ (if p == pass then [] else ids_of old p)

-- this client's list doesn't name the id, but all else that it named, and the others are the old ones
pub record DropsId (old new : Lists) (pass id : ℕ) : Type 0 where
  pub own : (x : ℕ) → list_any (is_at (nat_cmp x)) (ids_of new pass) ≡ (not (x == id) && list_any (is_at (nat_cmp x)) (ids_of old pass))
  pub others : (p : ℕ) → p ≢ pass → ids_of new p ≡ ids_of old p

-- the new lists have the id at the end of this client's, and are else the old ones
abbrev pub AddsId : Lists → Lists → ℕ → ℕ → Type 0
AddsId old new pass id = (p : ℕ) → ids_of new p ≡ (if p == pass then ids_of old p ++ id ∷ [] else ids_of old p)

-- each client's list names the objects that it holds
abbrev pub AreListed : Table → Lists → Type 0
AreListed table lists = (id p : ℕ) → list_any (is_at (nat_cmp id)) (ids_of lists p) ≡ is_holder (holders_of table id) p

-- each object that has an entry is held, and each client's list names the objects that it holds
pub record AreSound (table : Table) (lists : Lists) : Type 0 where
  pub held : AreHeld table
  pub listed : AreListed table lists

-- the list names each object that the client holds
abbrev pub NamesHeld : Table → ℕ → List ℕ → Type 0
NamesHeld table pass ids = (id : ℕ) → Holds (holders_of table id) pass → list_any (is_at (nat_cmp id)) ids ≡ true
