-- Which change of a payload begins the bytes.
use Rattle.std.proofs.Common.{◌≡◌, ℕ, ◌≤◌, List, length, false, Some, refl, ap, ◌∙◌, arith}
use Rattle.std.specs.Prelude.{nat_lt, slice_index}
use Rattle.std.proofs.lemmas.Bool.Decides.{nat_tests}
use Rattle.cell_page.proofs.Numbers.{IsBytes}
use Rattle.log_record.specs.declared.cell_record.CellRecord.{CellRecord}
use Rattle.log_record.specs.declared.cell_record.CellRecord.TheVariants.{Pay}
use Rattle.log_record.specs.declared.record.Record.TheVariants.{OfCells}
use Rattle.log_record.specs.Spelling.{cell_record_bytes, HasCellSpelling, BeginsWith}
use Rattle.log_record.specs.Reading.{byte, word, wide, fields_in}
use Rattle.log_record.proofs.ReadLaws.{of_fields, same_fields, begins_of_fields}

-- the change whose fields stand at their offsets
abbrev pub change_in : List ℕ → CellRecord
change_in bytes = Pay (byte bytes 1) (word bytes 2) (wide bytes 6) (wide bytes 14)

change_fields : (bytes : List ℕ) → 22 ≤ length bytes → fields_in bytes 4 ≡ Some (change_in bytes, 22)
unfolding fields_in
change_fields bytes long = rw enough refl
  where
    enough : nat_lt (length bytes) 22 ≡ false
    enough = grind (arith, nat_tests)

pub begins_change : (slots : ℕ) (bytes : List ℕ) → IsBytes bytes → 22 ≤ length bytes → byte bytes 0 ≡ 4 → HasCellSpelling slots (change_in bytes) → BeginsWith {slots = slots} bytes (OfCells (change_in bytes)) 22
begins_change slots bytes fits long is rules = begins_of_fields bytes 4 22 (change_in bytes) fits (omega (arith, long)) is (change_fields bytes long) rules

pub change_long : (slots : ℕ) (bytes : List ℕ) (pass id old_value new_value len : ℕ) → BeginsWith {slots = slots} bytes (OfCells (Pay pass id old_value new_value)) len → 22 ≤ length bytes
unfolding cell_record_bytes
change_long slots bytes pass id old_value new_value len begins = let size = ap length begins.are in omega arith

pub change_kind : (slots : ℕ) (bytes : List ℕ) (pass id old_value new_value len : ℕ) → BeginsWith {slots = slots} bytes (OfCells (Pay pass id old_value new_value)) len → byte bytes 0 ≡ 4
unfolding cell_record_bytes
change_kind slots bytes pass id old_value new_value len begins = ap (λ (bs : List ℕ). slice_index bs 0) begins.are

pub change_rules : (slots : ℕ) (bytes : List ℕ) (pass id old_value new_value len : ℕ) → BeginsWith {slots = slots} bytes (OfCells (Pay pass id old_value new_value)) len → HasCellSpelling slots (change_in bytes)
change_rules slots bytes pass id old_value new_value len begins =
    same_fields bytes (byte bytes 0) len 22 (change_in bytes)
    (ap (λ (kind : ℕ). fields_in bytes kind) (change_kind slots bytes pass id old_value new_value len begins) ∙ change_fields bytes (change_long slots bytes pass id old_value new_value len begins))
    (of_fields bytes (Pay pass id old_value new_value) len begins)
