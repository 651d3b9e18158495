-- Who holds which object.
use Rattle.std.specs.Prelude.{◌≡◌, ◌≢◌, ℕ, ◌≤◌, Bool, true, false, not, ◌&&◌, ◌||◌, ◌==◌, List, [], Option, None, unwrap_or, nat_eq, MatchOption, IfSome}
use Rattle.std.specs.List.{list_any}
use Rattle.std.specs.Option.{option_map_or}
use Rattle.std.specs.Ordering.{nat_cmp}
use Rattle.std.specs.BTreeMap.{is_at}
use Rattle.std.specs.Map.{lookup}

-- who holds an object: its owner, and those that share it, ascending
pub record Holders : Type 0 where
  pub owner : Option ℕ
  pub sharers : List ℕ

-- the objects that are held, each once, with its holders, in no order that matters
abbrev pub Table : Type 0
Table = List (ℕ × Holders)

-- who holds an object that has no entry
abbrev pub no_holders : Holders
no_holders = record { owner = None; sharers = [] }

-- who holds the object
abbrev pub holders_of : Table → ℕ → Holders
holders_of table id = unwrap_or (lookup (nat_eq id) table) no_holders

-- whether the client owns the object
abbrev pub is_owner : Holders → ℕ → Bool
is_owner h p = option_map_or (λ owner. owner == p) h.owner false

-- whether the client shares the object, be it beside owning it
abbrev pub is_sharer : Holders → ℕ → Bool
is_sharer h p = list_any (is_at (nat_cmp p)) h.sharers

-- whether the client owns or shares the object
abbrev pub is_holder : Holders → ℕ → Bool
is_holder h p = is_owner h p || is_sharer h p

-- whether the client shares the object and doesn't own it
abbrev pub only_shares : Holders → ℕ → Bool
only_shares h p = is_sharer h p && not (is_owner h p)

-- the client owns or shares the object
abbrev pub Holds : Holders → ℕ → Type 0
Holds h p = is_holder h p ≡ true

-- an object that is owned has no holder but its owner
abbrev pub IsExclusive : Holders → Type 0
IsExclusive h = (p q : ℕ) → is_owner h p ≡ true → Holds h q → q ≡ p

-- ---- when a lock is granted

-- the client p keeps another from sharing the object: p owns it
abbrev pub StandsInWayOfShare : Holders → ℕ → ℕ → Type 0
StandsInWayOfShare h pass p = (p ≢ pass) × (is_owner h p ≡ true)

-- the client p keeps another from owning the object: p owns or shares it
abbrev pub StandsInWayOfOwn : Holders → ℕ → ℕ → Type 0
StandsInWayOfOwn h pass p = (p ≢ pass) × Holds h p

-- in the way of owning, where `alone` is true, and else of sharing
abbrev pub StandsInWay : Bool → Holders → ℕ → ℕ → Type 0
StandsInWay true h pass p = StandsInWayOfOwn h pass p
StandsInWay false h pass p = StandsInWayOfShare h pass p

-- the least client of which P holds
abbrev pub IsLeast : (ℕ → Type 0) → ℕ → Type 0
IsLeast P p = P p × ((q : ℕ) → P q → p ≤ q)

-- P holds of no client
abbrev pub Nobody : (ℕ → Type 0) → Type 0
Nobody P = (p : ℕ) → ¬ P p

-- the least client of which P holds, and `None` exactly where it holds of no client
abbrev pub IsLeastOrNone : (ℕ → Type 0) → Option ℕ → Type 0
IsLeastOrNone P found = MatchOption found (Nobody P) (IsLeast P)

-- the list names the objects that the client holds, and no others
abbrev pub NamesExactly : Table → ℕ → List ℕ → Type 0
NamesExactly table pass ids = (id : ℕ) → list_any (is_at (nat_cmp id)) ids ≡ is_holder (holders_of table id) pass

-- ---- how the calls change the table

-- the client shares the object too, and every other lock is as before
pub record AddsShare (old new : Table) (pass id : ℕ) : Type 0 where
  pub sharers : (p : ℕ) → is_sharer (holders_of new id) p ≡ (p == pass || is_sharer (holders_of old id) p)
  pub other_sharers : (x p : ℕ) → x ≢ id → is_sharer (holders_of new x) p ≡ is_sharer (holders_of old x) p
  pub owners : (x p : ℕ) → is_owner (holders_of new x) p ≡ is_owner (holders_of old x) p

-- the client owns the object, and every other lock is as before
pub record AddsOwner (old new : Table) (pass id : ℕ) : Type 0 where
  pub owner : (p : ℕ) → is_owner (holders_of new id) p ≡ (p == pass)
  pub other_owners : (x p : ℕ) → x ≢ id → is_owner (holders_of new x) p ≡ is_owner (holders_of old x) p
  pub sharers : (x p : ℕ) → is_sharer (holders_of new x) p ≡ is_sharer (holders_of old x) p

-- the client holds nothing, and every other client's locks are as before
pub record DropsAll (old new : Table) (pass : ℕ) : Type 0 where
  pub owners : (x p : ℕ) → is_owner (holders_of new x) p ≡ (not (p == pass) && is_owner (holders_of old x) p)
  pub sharers : (x p : ℕ) → is_sharer (holders_of new x) p ≡ (not (p == pass) && is_sharer (holders_of old x) p)

-- the client no longer holds the object, and every other lock is as before
pub record GivesBack (old new : Table) (pass id : ℕ) : Type 0 where
  pub owners : (p : ℕ) → is_owner (holders_of new id) p ≡ (not (p == pass) && is_owner (holders_of old id) p)
  pub sharers : (p : ℕ) → is_sharer (holders_of new id) p ≡ (not (p == pass) && is_sharer (holders_of old id) p)
  pub others : (x : ℕ) → x ≢ id → holders_of new x ≡ holders_of old x

-- ---- what the table keeps

-- no object without a holder has an entry
abbrev pub AreHeld : Table → Type 0
AreHeld table = (id : ℕ) → IfSome (lookup (nat_eq id) table) (λ h. (p : ℕ) × Holds h p)
