-- The temporary reference table.
use Rattle.std.specs.Prelude.{◌≡◌, ℕ, ◌+◌, ◌≤◌, ◌<◌, ◌==◌, true, zero, suc, List, [], ◌∷◌, ◌++◌, unwrap_or, if◌then◌else◌}
use Rattle.std.specs.List.{list_any}
use Rattle.std.specs.Ordering.{nat_cmp}
use Rattle.std.specs.BTreeMap.{is_at}
use Rattle.std.specs.Map.{lookup}
use Rattle.ref_tables.specs.declared.kind.TempRef.{TempRef}
use Rattle.ref_tables.specs.declared.counts.Counts.{Counts}
use Rattle.ref_tables.specs.Lists.{Lists, list_of, HasRoom}
use Rattle.ref_tables.specs.Counts.{count_of, count_in, room_in}

-- the clients, each with its entries in the order in which they were added, and for how many more entries of which
-- client there is room
pub record Table : Type 0 where
  pub clients : List (ℕ × List TempRef)
  pub room_for : ℕ
  pub room : ℕ

-- the client's entries, in the order in which they were added
abbrev pub entries_of : Table → ℕ → List TempRef
entries_of table pass = unwrap_or (lookup (is_at (nat_cmp pass)) table.clients) []

-- for how many more entries of the client there is room
abbrev pub room_of : Table → ℕ → ℕ
room_of table pass = if pass == table.room_for then table.room else 0

-- some of the entries has this target
abbrev pub Names : List TempRef → ℕ → Type 0
Names entries id = list_any (λ entry. entry.target == id) entries ≡ true

-- each client has the entries that it had
abbrev pub IsSame : Table → Table → Type 0
IsSame old new = (p : ℕ) → entries_of new p ≡ entries_of old p

-- each client has the room that it had
abbrev pub HasSameRoom : Table → Table → Type 0
HasSameRoom old new = (p : ℕ) → room_of new p ≡ room_of old p

-- the client has this entry at the end, and each other has those that it had
abbrev pub Adds : Table → Table → ℕ → TempRef → Type 0
Adds old new pass entry = (p : ℕ) → entries_of new p ≡ (if p == pass then entries_of old p ++ entry ∷ [] else entries_of old p)

-- the client has no entry, and each other has those that it had
abbrev pub Ends : Table → Table → ℕ → Type 0
Ends old new pass = (p : ℕ) → entries_of new p ≡ (if p == pass then [] else entries_of old p)

-- ---- what the table keeps

-- the lists without their capacities, each beside the number of its client, which counts from n
unfoldable pub numbered : ℕ → Lists → List (ℕ × List TempRef)
numbered n [] = []
numbered n (list ∷ lists) = (n, list.items) ∷ numbered (suc n) lists

-- the clients and their entries
abbrev pub seen : Lists → List (ℕ × List TempRef)
seen lists = numbered 0 lists

-- the sum of f over the numbers below n
unfoldable pub sum_below : ℕ → (ℕ → ℕ) → ℕ
sum_below zero f = 0
sum_below (suc n) f = sum_below n f + f n

-- how many entries of all clients have the target
abbrev pub count_all : Lists → ℕ → ℕ
count_all lists target = sum_below 256 (λ p. count_in target (list_of lists p))

-- the counts are those of the entries, no other client has entries, and the room is there
pub record AreRefsInside (lists : Lists) (counts : Counts) (room_for room : ℕ) : Type 0 where
  pub counted : (target : ℕ) → count_of counts target ≡ count_all lists target
  pub clients : (p : ℕ) → 256 ≤ p → list_of lists p ≡ []
  pub room_of_list : 0 < room → HasRoom lists room_for room
  pub room_of_counts : room ≤ room_in counts
