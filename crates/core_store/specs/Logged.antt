-- The record that a call logs, and the pages that it works on.
use Rattle.std.specs.Prelude.{ℕ, ◌==◌, if◌then◌else◌, not, ◌||◌, Bool, false, List, [], ◌∷◌, ◌++◌, map, find, Option, Some, None, unwrap_or}
use Rattle.std.specs.Option.{option_map_or}
use Rattle.plain_model.specs.declared.write.Place.{Place}
use Rattle.plain_model.specs.declared.write.Place.TheVariants.{Slot}
use Rattle.plain_model.specs.declared.write.Write.{Write}
use Rattle.plain_model.specs.declared.calls.Call.{Call as TransactionCall}
use Rattle.plain_model.specs.declared.calls.Call.TheVariants as call
use Rattle.plain_model.specs.ActiveTransaction.{ActiveTransaction}
use Rattle.plain_model.specs.Machine.{State, transaction_of, refusal_of, register_id, free_id}
use Rattle.cell_model.specs.Cells.{Cell, cell_at, pointer_at}
use Rattle.log_record.specs.declared.cell_record.CellRecord.{CellRecord}
use Rattle.log_record.specs.declared.cell_record.CellRecord.TheVariants as logs
use Rattle.log_record.specs.Records.{payload_place, after_cell_record}
use Rattle.cell_page.specs.Format.{page_of_id}
use Rattle.core_store.specs.Changes.{stored_change, restored_change, store_record, undo_record}
use Rattle.core_store.specs.Frames.{is_page_among, are_all_among}
use Rattle.core_store.specs.declared.want.Want.{Want}
use Rattle.core_store.specs.declared.want.Want.TheVariants.{Page, LetGo, Ready}

-- what a store lays into the slot: what the register holds, or null
abbrev pub stored_target : ActiveTransaction → Option ℕ → ℕ
stored_target t source = option_map_or (register_id t) source 0

-- ---- records

-- the record of a call of a transaction that isn't refused, if it has one
abbrev pub record_in : State → List Cell → ℕ → ActiveTransaction → TransactionCall → Option CellRecord
record_in s cells pass t (call.Make into) = Some (logs.Make pass (unwrap_or (free_id s) 0))
record_in s cells pass t (call.Store r slot source) = Some (store_record pass (register_id t r) slot (stored_target t source) (stored_change cells (register_id t r) slot (stored_target t source)))
record_in s cells pass t (call.SetPay r value) = Some (logs.Pay pass (register_id t r) (cell_at cells (register_id t r)).payload value)
record_in s cells pass t call.Commit = Some (logs.Commit pass)
record_in s cells pass t other = None

-- what a call logs: nothing where it is refused, and none but `Begin` is granted without a transaction
abbrev pub logged_by : State → List Cell → ℕ → TransactionCall → Option CellRecord
logged_by s cells pass c = option_map_or (λ reply. None) (refusal_of s pass c) (option_map_or (λ t. record_in s cells pass t c) (transaction_of s pass) (Some (logs.Begin pass)))

-- what an undo step logs that lays this again
abbrev pub logged_by_undo : List Cell → ℕ → Write → CellRecord
logged_by_undo cells pass w = by w.place
  where
    by : Place → CellRecord
    by (Slot slot) = undo_record pass w.id slot w.value (restored_change cells w.id slot w.value)
    by other = logs.Undo pass payload_place false false w.id (cell_at cells w.id).payload w.value

-- the cells after what was logged, if anything was
abbrev pub after_logged : ℕ → List Cell → Option CellRecord → List Cell
after_logged slots cells logged = option_map_or (after_cell_record slots cells) logged cells

-- ---- pages

-- the id, unless it is 0
abbrev pub if_any : ℕ → List ℕ
if_any id = if id == 0 then [] else id ∷ []

-- an object, what its slot holds, and what the slot is to hold
abbrev pub object_and_targets : List Cell → ℕ → ℕ → ℕ → List ℕ
object_and_targets cells id slot target = id ∷ if_any (pointer_at cells id slot).target ++ if_any target

-- the objects that a call of a transaction works on where it isn't refused
abbrev pub objects_in : State → List Cell → ActiveTransaction → TransactionCall → List ℕ
objects_in s cells t (call.Read r slot into) = register_id t r ∷ []
objects_in s cells t (call.Make into) = unwrap_or (free_id s) 0 ∷ []
objects_in s cells t (call.Store r slot source) = object_and_targets cells (register_id t r) slot (stored_target t source)
objects_in s cells t (call.GetPay r) = register_id t r ∷ []
objects_in s cells t (call.SetPay r value) = register_id t r ∷ []
objects_in s cells t other = []

-- the pages that a call needs, in order: none where it is refused
abbrev pub pages_for : State → List Cell → ℕ → TransactionCall → List ℕ
pages_for s cells pass c = option_map_or (λ reply. []) (refusal_of s pass c) (map page_of_id (option_map_or (λ t. objects_in s cells t c) (transaction_of s pass) []))

-- the objects that an undo step works on that lays this again
abbrev pub objects_of_undo : List Cell → Write → List ℕ
objects_of_undo cells w = by w.place
  where
    by : Place → List ℕ
    by (Slot slot) = object_and_targets cells w.id slot w.value
    by other = w.id ∷ []

-- the pages that it needs, in order; none where nothing is left to undo
abbrev pub pages_for_undo : List Cell → Option Write → List ℕ
pages_for_undo cells undo = map page_of_id (option_map_or (objects_of_undo cells) undo [])

-- ---- what is wanted

-- some page is held, but not the first that is needed
abbrev pub begins_late : List ℕ → List ℕ → Bool
begins_late [] held = false
begins_late (first ∷ rest) [] = false
begins_late (first ∷ rest) held = not (is_page_among first held)

-- the first needed page that isn't held, or nothing more
abbrev pub next_page : List ℕ → List ℕ → Want
next_page needed held = option_map_or (λ p. Page p) (find (λ p. not (is_page_among p held)) needed) Ready

-- what is to be done with the held pages where these are needed
abbrev pub want_of : List ℕ → List ℕ → Want
want_of needed held = if begins_late needed held || not (are_all_among held needed) then LetGo else next_page needed held
