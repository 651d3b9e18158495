-- What happened in a store, counted.
use Rattle.std.specs.Prelude.{ℕ, ◌<◌, Bool, true, false, if◌then◌else◌, List, count_by}
use Rattle.plain_model.specs.declared.calls.Call.TheVariants.{Commit, Abort}
use Rattle.plain_model.specs.declared.calls.Reply.TheVariants.{Done, Busy}
use Rattle.plain_model.specs.declared.calls.Entry.{Entry}
use Rattle.plain_model.specs.declared.calls.Entry.TheVariants.{Call, Delete}
use Rattle.brahma_shell.specs.declared.tally.Tally.{Tally}

-- a commit that was done
abbrev pub is_commit : Entry → Bool
is_commit (Call client Commit Done) = true
is_commit e = false

-- an abort that was done
abbrev pub is_abort : Entry → Bool
is_abort (Call client Abort Done) = true
is_abort e = false

-- a reply that another client is in the way
abbrev pub is_busy : Entry → Bool
is_busy (Call client call (Busy other)) = true
is_busy e = false

-- a deletion
abbrev pub is_deletion : Entry → Bool
is_deletion (Delete id) = true
is_deletion e = false

-- how many entries are of each kind
abbrev pub tally_of : List Entry → Tally
tally_of entries = record { commits = count_by is_commit entries; aborts = count_by is_abort entries; busy = count_by is_busy entries; deleted = count_by is_deletion entries }

abbrev pub no_tally : Tally
no_tally = record { commits = 0; aborts = 0; busy = 0; deleted = 0 }

abbrev pub one_if : Bool → ℕ
one_if so = if so then 1 else 0

-- each of the counts is below this number
pub record IsSmall (t : Tally) (n : ℕ) : Type 0 where
  pub commits : t.commits < n
  pub aborts : t.aborts < n
  pub busy : t.busy < n
  pub deleted : t.deleted < n
