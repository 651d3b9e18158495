-- What holds of the view of a log.
use Rattle.std.specs.Prelude.{◌≡◌, ℕ, List}
use Rattle.cell_page.specs.Format.{IsSlotCount}
use Rattle.log_record.specs.declared.record.Record.{Record}
use Rattle.opened_images.specs.LogRecords.{IsRecordLog}
use Rattle.log_printing.specs.Damage.{IsDamagedFor}
use Rattle.log_printing.specs.Text.{text_of}

-- no log of a store of so many pages is damaged
abbrev pub UndamagedLaw : Type 0
UndamagedLaw = (slots pages place : ℕ) (area : List ℕ) (batches : List (List (Record slots))) → IsSlotCount slots → IsRecordLog pages batches area → IsDamagedFor slots pages area place → ⊥

-- an area is damaged at one place at most
abbrev pub OnePlaceLaw : Type 0
OnePlaceLaw = (slots pages place other : ℕ) (area : List ℕ) → IsSlotCount slots → IsDamagedFor slots pages area place → IsDamagedFor slots pages area other → place ≡ other

-- a log has one text
abbrev pub OneTextLaw : Type 0
OneTextLaw = (slots pages : ℕ) (area : List ℕ) (these those : List (List (Record slots))) → IsSlotCount slots → IsRecordLog pages these area → IsRecordLog pages those area
    → text_of pages these ≡ text_of pages those
