-- What the runs ask of a pass, and what each of their calls keeps of it.
use Rattle.std.specs.Prelude.{◌≡◌, ◌≢◌}
use Rattle.plain_model.specs.declared.calls.Call.{Call}
use Rattle.plain_model.specs.declared.calls.Call.TheVariants.{Abort}
use Rattle.plain_model.specs.Machine.{IsInRange}
use Rattle.latch_table.specs.Holds.{TableView}
use Rattle.shared_store.specs.Passes.{PassView, IsClient}
use Rattle.script_lines.specs.Numbers.{object_slots}

-- the pass is a client's, of this store
abbrev pub IsClientOf : {J : Type 0} → TableView J → PassView object_slots → Type 0
IsClientOf store pass = (pass.table ≡ store.table) × IsClient pass.view.station.name

-- it is still that pass of this store
abbrev pub StaysOf : {J : Type 0} → TableView J → PassView object_slots → PassView object_slots → Type 0
StaysOf store old new = (new.table ≡ store.table) × (new.view.station ≡ old.view.station)

-- a call with registers and slots that there are, and not an abort, which is made in steps
abbrev pub IsToCall : Call → Type 0
IsToCall call = IsInRange object_slots call × (call ≢ Abort)
