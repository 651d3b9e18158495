-- What clients ask, and what their journals and passes keep.
use Rattle.std.specs.Prelude.{◌≡◌, ◌≢◌, ◌≤◌, ℕ, true, false}
use Rattle.plain_model.specs.declared.calls.Call.{Call}
use Rattle.plain_model.specs.declared.calls.Call.TheVariants.{Abort}
use Rattle.plain_model.specs.Machine.{IsInRange}
use Rattle.latch_table.specs.Holds.{TableView}
use Rattle.latch_table.specs.Views.{is_listed}
use Rattle.shared_store.specs.Passes.{PassView, IsClient}
use Rattle.script_lines.specs.Numbers.{object_slots}

-- a call with registers and slots that there are, and not an abort, which the shared store makes in steps
abbrev pub IsToCall : Call → Type 0
IsToCall call = IsInRange object_slots call × (call ≢ Abort)

-- the pass is a client's, of this store
abbrev pub IsClientOf : {J : Type 0} → TableView J → PassView object_slots → Type 0
IsClientOf store pass = (pass.table ≡ store.table) × IsClient pass.view.station.name

-- the first pass of the store, of which passes were made for the clients below this one
pub record HasGiven {J : Type 0} (store : TableView J) (pass : PassView object_slots) (next : ℕ) : Type 0 where
  pub of_store : pass.table ≡ store.table
  pub first : (pass.view.station.main ≡ true) × (pass.view.station.name ≡ 0)
  pub made : pass.view.station.last ≡ next
  pub fresh : (client : ℕ) → next ≤ client → is_listed pass.view.station.names client ≡ false
