-- What the records of a log tell of the transactions that haven't ended, and which record fits that.
use Rattle.std.specs.Prelude.{◌≡◌, ℕ, ◌-◌, Bool, true, false, List, [], ◌∷◌, ◌++◌, length, take, fold, Option, Some, None}
use Rattle.std.specs.Option.{option_map_or}
use Rattle.std.specs.List.{last_or}
use Rattle.std.specs.Map.{lookup, set_value, remove_entry}
use Rattle.std.specs.Ordering.{nat_cmp}
use Rattle.std.specs.BTreeMap.{is_at, insert_entry}
use Rattle.plain_model.specs.declared.write.Place.{Place}
use Rattle.plain_model.specs.declared.write.Place.TheVariants.{Slot, Payload}
use Rattle.cell_model.specs.Records.{Record, Begin, Make, Store, Pay, Commit, Undo, UndoPay, AbortEnd}

-- what a write changed: the place of an object, what stood there before, and what it wrote
pub record Change : Type 0 where
  pub id : ℕ
  pub place : Place
  pub old : ℕ
  pub new : ℕ

-- a transaction that hasn't ended: its changes that aren't undone, oldest first, and whether one was undone
pub record Unended : Type 0 where
  pub changes : List Change
  pub aborting : Bool

-- a transaction that has just begun
abbrev pub just_begun : Unended
just_begun = record { changes = []; aborting = false }

-- ---- what records tell

-- the client's transaction, where it has one that hasn't ended
abbrev pub unended_at : List (ℕ × Unended) → ℕ → Option Unended
unended_at us pass = lookup (is_at (nat_cmp pass)) us

-- the transactions, where this one of the client is changed
abbrev pub changed_at : List (ℕ × Unended) → ℕ → (Unended → Unended) → List (ℕ × Unended)
changed_at us pass f = option_map_or (λ u. set_value (is_at (nat_cmp pass)) us (f u)) (unended_at us pass) us

-- one change more
abbrev pub with_change : Change → Unended → Unended
with_change c u = record u { changes = u.changes ++ c ∷ [] }

-- the last change is undone
abbrev pub without_change : Unended → Unended
without_change u = record { changes = take (length u.changes - 1) u.changes; aborting = true }

-- the transactions that haven't ended, after a record
abbrev pub unended_after : List (ℕ × Unended) → Record → List (ℕ × Unended)
unended_after us (Begin pass) = insert_entry nat_cmp us pass just_begun
unended_after us (Store pass id slot old_target old_strong new_target new_bit new_strong) = changed_at us pass (with_change (record { id = id; place = Slot slot; old = old_target; new = new_target }))
unended_after us (Pay pass id old_value new_value) = changed_at us pass (with_change (record { id = id; place = Payload; old = old_value; new = new_value }))
unended_after us (Undo pass id slot «from» from_strong to to_bit) = changed_at us pass without_change
unended_after us (UndoPay pass id «from» to) = changed_at us pass without_change
unended_after us (Commit pass) = remove_entry (is_at (nat_cmp pass)) us
unended_after us (AbortEnd pass) = remove_entry (is_at (nat_cmp pass)) us
unended_after us _ = us

-- the transactions that haven't ended, after all records of a log; an event that changes no cell has none
abbrev pub unended_after_all : List (ℕ × Unended) → List (Option Record) → List (ℕ × Unended)
unended_after_all us records = fold (λ us r. option_map_or (unended_after us) r us) us records

-- ---- which records fit

-- the client has a transaction, and none of its changes was undone
abbrev pub IsRunning : Option Unended → Type 0
IsRunning None = ⊥
IsRunning (Some u) = u.aborting ≡ false

-- the client has a transaction whose last change is this one
abbrev pub IsLastChange : Option Unended → Change → Type 0
IsLastChange None c = ⊥
IsLastChange (Some u) c = last_or None u.changes ≡ Some c

-- the client has a transaction all of whose changes are undone
abbrev pub IsAllUndone : Option Unended → Type 0
IsAllUndone None = ⊥
IsAllUndone (Some u) = u.changes ≡ []

-- the record fits the transactions that haven't ended
abbrev pub FitsUnended : List (ℕ × Unended) → Record → Type 0
FitsUnended us (Begin pass) = unended_at us pass ≡ None
FitsUnended us (Make pass id) = IsRunning (unended_at us pass)
FitsUnended us (Store pass id slot old_target old_strong new_target new_bit new_strong) = IsRunning (unended_at us pass)
FitsUnended us (Pay pass id old_value new_value) = IsRunning (unended_at us pass)
FitsUnended us (Commit pass) = IsRunning (unended_at us pass)
FitsUnended us (Undo pass id slot «from» from_strong to to_bit) = IsLastChange (unended_at us pass) (record { id = id; place = Slot slot; old = to; new = «from» })
FitsUnended us (UndoPay pass id «from» to) = IsLastChange (unended_at us pass) (record { id = id; place = Payload; old = to; new = «from» })
FitsUnended us (AbortEnd pass) = IsAllUndone (unended_at us pass)
FitsUnended us _ = Unit {0}

-- each record fits those before it
abbrev pub AllFitUnended : List (ℕ × Unended) → List (Option Record) → Type 0
AllFitUnended us [] = Unit {0}
AllFitUnended us (Some r ∷ rs) = FitsUnended us r × AllFitUnended (unended_after us r) rs
AllFitUnended us (None ∷ rs) = AllFitUnended us rs
