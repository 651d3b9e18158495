-- How many entries the active transactions owe the history.
use Rattle.std.specs.Prelude.{◌≡◌, ◌≢◌, ℕ, ◌+◌, ◌*◌, ◌<◌, ◌≤◌, sum_by, Some, None, IsSome}
use Rattle.plain_model.specs.declared.calls.Call.{Call as TransactionCall}
use Rattle.plain_model.specs.declared.calls.Call.TheVariants as call
use Rattle.plain_model.specs.declared.calls.Reply.{Reply}
use Rattle.plain_model.specs.declared.calls.Reply.TheVariants.{Done}
use Rattle.plain_model.specs.declared.calls.Entry.TheVariants.{Call, Undo}
use Rattle.plain_model.specs.Machine.{step, refusal_of, transaction_of}
use Rattle.plain_model.specs.History.{Moment, next, left_to_undo}
use Rattle.plain_laws.specs.Sound.{PassesAscend}

-- an active transaction owes an entry for its end, and one for each write that may have to be undone
abbrev pub entries_owed : Moment → ℕ
entries_owed m = sum_by (λ e. left_to_undo m e.0 + 1) m.state.active

-- and it owes a log 7 bytes for its end, and 25 for each of these writes
abbrev pub bytes_owed : Moment → ℕ
bytes_owed m = sum_by (λ e. 25 * left_to_undo m e.0 + 7) m.state.active

-- how many entries a call may add to the history and to what its transaction owes
abbrev pub entries_needed : TransactionCall → ℕ
entries_needed call.Begin = 2
entries_needed (call.Store r slot source) = 2
entries_needed (call.SetPay r value) = 2
entries_needed _ = 1

-- how many bytes of a log a call may take, and its transaction then owe: those of its record, and for `Begin` the end, for a
-- write its undo
abbrev pub bytes_needed : TransactionCall → ℕ
bytes_needed call.Begin = 9
bytes_needed (call.Make into) = 6
bytes_needed (call.Store r slot source) = 43
bytes_needed (call.SetPay r value) = 47
bytes_needed _ = 0

-- how many bytes the record of a call has that isn't refused, and 0 where it has none
abbrev pub bytes_logged : TransactionCall → ℕ
bytes_logged call.Begin = 2
bytes_logged (call.Make into) = 6
bytes_logged (call.Store r slot source) = 18
bytes_logged (call.SetPay r value) = 22
bytes_logged call.Commit = 2
bytes_logged _ = 0

-- ---- laws

-- what a call logs and its transactions then owe is at most what they owed and it needs
abbrev pub CallOwesLaw : Type 0
CallOwesLaw =
    (m : Moment) (pass : ℕ) (c : TransactionCall) → PassesAscend m.state.active → c ≢ call.Abort → refusal_of m.state pass c ≡ None
    → bytes_owed (next m (Call pass c (step m.state pass c).0)) + bytes_logged c ≤ bytes_owed m + bytes_needed c

-- the end of a transaction owed seven bytes: two of its record, and five more that a batch takes beside its records
abbrev pub CommitOwesLaw : Type 0
CommitOwesLaw = (m : Moment) (pass : ℕ) → PassesAscend m.state.active → refusal_of m.state pass call.Commit ≡ None → bytes_owed (next m (Call pass call.Commit (step m.state pass call.Commit).0)) + 7 ≤ bytes_owed m

-- a refusal changes nothing of what is owed
abbrev pub RefusedOwesLaw : Type 0
RefusedOwesLaw = (m : Moment) (pass : ℕ) (c : TransactionCall) (reply : Reply) → refusal_of m.state pass c ≡ Some reply → bytes_owed (next m (Call pass c reply)) ≡ bytes_owed m

-- the 25 bytes of an undo were owed, and so were those of the end of an abort
abbrev pub UndoOwesLaw : Type 0
UndoOwesLaw = (m : Moment) (pass : ℕ) → PassesAscend m.state.active → 0 < left_to_undo m pass → bytes_owed (next m (Undo pass)) + 25 ≤ bytes_owed m

abbrev pub EndOwesLaw : Type 0
EndOwesLaw = (m : Moment) (pass : ℕ) → PassesAscend m.state.active → IsSome (transaction_of m.state pass) → bytes_owed (next m (Call pass call.Abort Done)) + 7 ≤ bytes_owed m
