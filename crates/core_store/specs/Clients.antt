-- By which numbers clients are told.
use Rattle.std.specs.Prelude.{ℕ, IsSome}
use Rattle.plain_model.specs.declared.calls.Entry.{Entry}
use Rattle.plain_model.specs.declared.calls.Entry.TheVariants.{Call, Undo}
use Rattle.plain_model.specs.Machine.{transaction_of}
use Rattle.plain_model.specs.History.{Moment}
use Rattle.log_record.specs.Spelling.{IsPass}

-- each active client is told by a number from 1 to 64
abbrev pub AreNumbered : Moment → Type 0
AreNumbered m = (pass : ℕ) → IsSome (transaction_of m.state pass) → IsPass pass

-- and so is the client of the entry, where it is of one
abbrev pub IsNumbered : Entry → Type 0
IsNumbered (Call pass call reply) = IsPass pass
IsNumbered (Undo pass) = IsPass pass
IsNumbered _ = Unit {0}
