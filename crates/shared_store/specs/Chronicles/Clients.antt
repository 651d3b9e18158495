-- Which clients have a transaction, as the entries of a history tell it.
use Rattle.std.specs.Prelude.{ℕ, ◌==◌, if◌then◌else◌, Bool, true, false, List, fold, unwrap_or, Option, Some, None}
use Rattle.plain_model.specs.declared.calls.Call.{Call as TransactionCall}
use Rattle.plain_model.specs.declared.calls.Call.TheVariants.{Begin, Commit, Abort}
use Rattle.plain_model.specs.declared.calls.Reply.{Reply}
use Rattle.plain_model.specs.declared.calls.Reply.TheVariants.{Done, DiskFault}
use Rattle.plain_model.specs.declared.calls.Entry.{Entry}
use Rattle.plain_model.specs.declared.calls.Entry.TheVariants.{Call, Undo}

-- the client whose call or undo the entry is
abbrev pub speaker_of : Entry → Option ℕ
speaker_of (Call client call reply) = Some client
speaker_of (Undo client) = Some client
speaker_of _ = None

-- whether a client has a transaction after its call was answered so, where that begins or ends one
abbrev pub begins_or_ends : TransactionCall → Reply → Option Bool
begins_or_ends Begin Done = Some true
begins_or_ends Commit Done = Some false
begins_or_ends Commit DiskFault = Some false
begins_or_ends Abort Done = Some false
begins_or_ends _ _ = None

-- whether the client has one after the entry, where this says whether it had one before
abbrev pub has_after : ℕ → Bool → Entry → Bool
has_after client had (Call c call reply) = if c == client then unwrap_or (begins_or_ends call reply) had else had
has_after client had _ = had

-- and after all these entries, where nobody had one before them
abbrev pub has_by : List Entry → ℕ → Bool
has_by entries client = fold (has_after client) false entries
