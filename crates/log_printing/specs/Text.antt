-- The records of a log as text: what is printed of each.
use Rattle.std.specs.Prelude.{ℕ, ◌+◌, List, [], ◌∷◌, ◌++◌, length, codes, decimal}
use Rattle.std.specs.List.{flat_map}
use Rattle.plain_model.specs.Text.{numbers, newline}
use Rattle.cell_page.specs.Format.{flag}
use Rattle.log_record.specs.declared.cell_record.CellRecord.{CellRecord}
use Rattle.log_record.specs.declared.cell_record.CellRecord.TheVariants.{Begin, Make, Store, Pay, Commit, Undo, AbortEnd, Weaken, Strengthen, Flip, CutDead, Free}
use Rattle.log_record.specs.declared.record.Record.{Record}
use Rattle.log_record.specs.declared.record.Record.TheVariants.{OfCells, Image, Turn}
use Rattle.log_record.specs.Spelling.{record_bytes}
use Rattle.opened_images.specs.LogRecords.{body_of, first_records}

-- ---- one record

-- the name of a record of single cells
abbrev pub name_of : CellRecord → List ℕ
name_of (Begin pass) = codes "Begin"
name_of (Make pass id) = codes "Make"
name_of (Store pass id slot old_target old_strong new_target new_bit new_strong) = codes "Store"
name_of (Pay pass id old_value new_value) = codes "Pay"
name_of (Commit pass) = codes "Commit"
name_of (Undo pass place from_strong to_bit id «from» to) = codes "Undo"
name_of (AbortEnd pass) = codes "AbortEnd"
name_of (Weaken id slot target) = codes "Weaken"
name_of (Strengthen id slot target) = codes "Strengthen"
name_of (Flip id) = codes "Flip"
name_of (CutDead id slot target was_strong) = codes "CutDead"
name_of (Free id) = codes "Free"

-- its fields as numbers, in the order in which they are spelled; a truth value is 0 or 1
abbrev pub fields_of : CellRecord → List ℕ
fields_of (Begin pass) = pass ∷ []
fields_of (Make pass id) = pass ∷ id ∷ []
fields_of (Store pass id slot old_target old_strong new_target new_bit new_strong) =
    pass ∷ id ∷ slot ∷ old_target ∷ flag old_strong ∷ new_target ∷ flag new_bit ∷ flag new_strong ∷ []
fields_of (Pay pass id old_value new_value) = pass ∷ id ∷ old_value ∷ new_value ∷ []
fields_of (Commit pass) = pass ∷ []
fields_of (Undo pass place from_strong to_bit id «from» to) = pass ∷ id ∷ place ∷ «from» ∷ flag from_strong ∷ to ∷ flag to_bit ∷ []
fields_of (AbortEnd pass) = pass ∷ []
fields_of (Weaken id slot target) = id ∷ slot ∷ target ∷ []
fields_of (Strengthen id slot target) = id ∷ slot ∷ target ∷ []
fields_of (Flip id) = id ∷ []
fields_of (CutDead id slot target was_strong) = id ∷ slot ∷ target ∷ flag was_strong ∷ []
fields_of (Free id) = id ∷ []

-- a record's name, and after it a blank and the decimal digits for each field; of an image only the page's number is printed
abbrev pub record_text : {slots : ℕ} → Record slots → List ℕ
record_text (OfCells r) = name_of r ++ numbers (fields_of r)
record_text (Image page cells) = codes "Image" ++ numbers (page ∷ [])
record_text (Turn version pages) = codes "Turn" ++ numbers (version ∷ pages ∷ [])

-- the line of a record that stands at this offset
abbrev pub line_at : {slots : ℕ} → ℕ → Record slots → List ℕ
line_at at r = decimal at ++ 32 ∷ record_text r ++ newline ∷ []

-- ---- all records of a log

-- records that stand one after another, each with its offset, where the first one stands at this offset
abbrev pub located : {slots : ℕ} → ℕ → List (Record slots) → List (ℕ × Record slots)
located at [] = []
located at (r ∷ rs) = (at, r) ∷ located (at + length (record_bytes r)) rs

-- The records of batches that stand one after another, each record with its offset, where the first batch stands at this offset.
-- In front of a batch's body stand its commit byte and the four bytes of the length.
abbrev pub located_in : {slots : ℕ} → ℕ → List (List (Record slots)) → List (ℕ × Record slots)
located_in at [] = []
located_in at (rs ∷ batches) = located (at + 5) rs ++ located_in (at + 5 + length (body_of rs)) batches

-- the lines of records with their offsets, one after another
abbrev pub lines_of : {slots : ℕ} → List (ℕ × Record slots) → List ℕ
lines_of items = flat_map (λ item. line_at item.0 item.1) items

-- the text of the log of a store of so many pages, which has these batches after its first one
abbrev pub text_of : {slots : ℕ} → ℕ → List (List (Record slots)) → List ℕ
text_of {slots} pages batches = lines_of (located_in 0 (first_records slots pages ∷ batches))
