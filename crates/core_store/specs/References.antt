-- What transactions name: the objects that they made, what they laid into slots or removed from them, and what they had in registers
-- when they gave a shared lock back.
use Rattle.std.specs.Prelude.{ℕ, Bool, false, ◌==◌, List, [], ◌∷◌, ◌++◌, map, filter, Option, Some}
use Rattle.std.specs.Option.{option_map_or}
use Rattle.plain_model.specs.declared.calls.Call.TheVariants.{Release}
use Rattle.plain_model.specs.declared.calls.Reply.TheVariants.{Done}
use Rattle.plain_model.specs.declared.calls.Entry.{Entry}
use Rattle.plain_model.specs.declared.calls.Entry.TheVariants.{Call}
use Rattle.plain_model.specs.Machine.{State, transaction_of}
use Rattle.plain_model.specs.History.{Moment, next}
use Rattle.store_model.specs.Core.{Ref, Made}
use Rattle.store_model.specs.Steps.{store_references, release_references, references_left}
use Rattle.ref_tables.specs.declared.kind.TempRef.{TempRef}
use Rattle.log_record.specs.declared.cell_record.CellRecord.{CellRecord}
use Rattle.log_record.specs.declared.cell_record.CellRecord.TheVariants as logs
use Rattle.core_store.specs.declared.note.Note.{Note}

-- what the client names, in the order in which it came to be named
abbrev pub named_by : List Ref → ℕ → List ℕ
named_by refs pass = map (λ r. r.target) (filter (λ r. r.pass == pass) refs)

-- the targets of these entries, in order
abbrev pub targets_of : List TempRef → List ℕ
targets_of entries = map (λ e. e.target) entries

-- whether the register holds the object
abbrev pub holds : ℕ → Option ℕ → Bool
holds id register = option_map_or (λ held. held == id) register false

-- the references after what was logged: a made object, an old target and a new one are named by their client until its
-- transaction ends
abbrev pub references_after : List Ref → Option CellRecord → List Ref
references_after refs (Some (logs.Make pass id)) = refs ++ record { pass = pass; target = id; kind = Made } ∷ []
references_after refs (Some (logs.Store pass id slot old_target old_strong new_target new_bit new_strong)) = refs ++ store_references pass old_target new_target
references_after refs (Some (logs.Commit pass)) = references_left refs pass
references_after refs (Some (logs.AbortEnd pass)) = references_left refs pass
references_after refs _ = refs

-- the registers of the client's transaction, and none where it has no transaction
abbrev pub registers_of : State → ℕ → List (Option ℕ)
registers_of s pass = option_map_or (λ t. t.registers) (transaction_of s pass) []

-- the references after an entry and what it logged, in this state: a client that gave a shared lock back, which logs nothing, names what
-- its registers hold until its transaction ends
abbrev pub references_by : State → List Ref → Entry → Option CellRecord → List Ref
references_by s refs (Call pass (Release r) Done) logged = refs ++ release_references pass (registers_of s pass)
references_by s refs _ logged = references_after refs logged

-- the references after these notes, which come from this moment on after these references
abbrev pub references_from : Moment → List Ref → List Note → List Ref
references_from m refs [] = refs
references_from m refs (n ∷ ns) = references_from (next m n.entry) (references_by m.state refs n.entry n.logged) ns

-- the references after these notes, which come from this moment on, where nobody names anything
abbrev pub references_of : Moment → List Note → List Ref
references_of m notes = references_from m [] notes
