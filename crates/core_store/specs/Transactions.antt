-- What a journal keeps of a transaction.
use Rattle.std.specs.Prelude.{ℕ, ◌-◌, Bool, true, false, List, [], ◌∷◌, ◌++◌, length, take, replicate, Option, Some, None, slice_index_or, slice_set}
use Rattle.std.specs.Map.{lookup}
use Rattle.std.specs.Ordering.{nat_cmp}
use Rattle.std.specs.BTreeMap.{is_at}
use Rattle.plain_model.specs.declared.write.Write.{Write}
use Rattle.plain_model.specs.Graphs.{root}

pub record Running : Type 0 where
  -- its eight registers
  pub registers : List (Option ℕ)
  -- what its writes replaced that can be undone and aren't, in order
  pub replaced : List Write
  -- whether one of its writes was undone
  pub aborting : Bool

-- a transaction that has just begun: register 0 holds the root
abbrev pub just_begun : Running
just_begun = record { registers = Some root ∷ replicate 7 None; replaced = []; aborting = false }

abbrev pub held_in : Running → ℕ → Option ℕ
held_in t r = slice_index_or t.registers r None

abbrev pub loaded : ℕ → Option ℕ → Running → Running
loaded r value t = record t { registers = slice_set t.registers r value }

-- the transaction of the client, where it has one
abbrev pub running_at : List (ℕ × Running) → ℕ → Option Running
running_at transactions pass = lookup (is_at (nat_cmp pass)) transactions

-- one write more can be undone, which replaced this
abbrev pub writing : Write → Running → Running
writing w t = record t { replaced = t.replaced ++ w ∷ [] }

-- all but the last
abbrev pub without_last : List Write → List Write
without_last ws = take (length ws - 1) ws

-- what was noted last is taken back
abbrev pub forgetting : Running → Running
forgetting t = record t { replaced = without_last t.replaced }

-- the last write is undone
abbrev pub undoing : Running → Running
undoing t = record t { replaced = without_last t.replaced; aborting = true }
