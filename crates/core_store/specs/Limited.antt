-- The limit of a history.
use Rattle.std.specs.Prelude.{◌≡◌, ℕ, ◌+◌, ◌<◌, ◌≤◌, nat_lt, Bool, if◌then◌else◌, List, [], ◌++◌, length, map}
use Rattle.plain_model.specs.declared.calls.Call.{Call as TransactionCall}
use Rattle.plain_model.specs.History.{start_of, end_of, moment_after}
use Rattle.core_store.specs.declared.note.Note.{Note}
use Rattle.core_store.specs.declared.limits.Limits.{Limits}
use Rattle.core_store.specs.JournalView.{JournalView, cells_of}
use Rattle.core_store.specs.Logged.{pages_for}
use Rattle.core_store.specs.Collecting.{pages_to_collect}
use Rattle.core_store.specs.Owed.{entries_owed, entries_needed}

-- no limit is above the program's
pub record AreLimits (limits : Limits) : Type 0 where
  pub trace : limits.trace ≤ 1048576
  pub log : limits.log ≤ 1071644672

-- how many entries the history has, those counted that the active transactions owe
abbrev pub entries_counted : JournalView → ℕ
entries_counted j = length j.history.entries + entries_owed (end_of j.history)

-- so many entries more would go past the limit
abbrev pub is_past_limit : JournalView → ℕ → Bool
is_past_limit j needed = nat_lt j.limits.trace (entries_counted j + needed)

-- after some first entries the history was so full that a call could be refused for it: two entries more would have gone past the
-- limit
abbrev pub WasFull : JournalView → Type 0
WasFull j = («first» rest : List Note) × (j.notes ≡ «first» ++ rest) × (j.limits.trace < length «first» + entries_owed (moment_after (start_of j.history) (map (λ n. n.entry) «first»)) + 2)

-- the pages that a call needs, in order: none where the history is full
abbrev pub pages_for_call : JournalView → ℕ → TransactionCall → List ℕ
pages_for_call j pass c = if is_past_limit j (entries_needed c) then [] else pages_for (end_of j.history).state (cells_of j) pass c

-- the pages that the collector's next look or event needs, in order: none where the history is full
abbrev pub pages_for_collector : JournalView → List ℕ
pages_for_collector j = if is_past_limit j 1 then [] else pages_to_collect (cells_of j) j.round
