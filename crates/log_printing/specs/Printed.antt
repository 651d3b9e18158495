-- The text of the current log of a store.
use Rattle.std.specs.Prelude.{◌≡◌, ◌⊎◌, ℕ, ◌≤◌, List, [], ◌++◌, Option, Result, IsErrOf}
use Rattle.std.specs.Io.KnownBytes.{Appends}
use Rattle.disk_model.specs.declared.area.Area.{Area}
use Rattle.disk_model.specs.Areas.{Bytes}
use Rattle.disk_model.specs.Causes.{Rose}
use Rattle.log_record.specs.declared.record.Record.{Record}
use Rattle.opened_images.specs.Opened.{IsLogRead}
use Rattle.store_opening.specs.Store.{Reads}
use Rattle.store_opening.specs.declared.open_refusal.OpenRefusal.{OpenRefusal}
use Rattle.store_opening.specs.declared.open_refusal.OpenRefusal.TheVariants.{Disk, Memory}
use Rattle.log_printing.specs.Text.{text_of}
use Rattle.log_printing.specs.declared.refusal.PrintRefusal.{PrintRefusal}
use Rattle.log_printing.specs.declared.refusal.PrintRefusal.TheVariants.{Unread, Write}

-- This is the text of the log area that the super area of the image names, which is a log of a store: a line for each record.
pub record IsLogText (slots : ℕ) (image : Bytes) (text : List ℕ) : Type 0 where
  pub area : Area
  pub pages : ℕ
  pub batches : List (List (Record slots))
  pub read : IsLogRead image area pages batches
  pub are : text ≡ text_of pages batches

-- there is no byte, or these are the first bytes of that text
abbrev pub IsTextFront : (slots : ℕ) → Bytes → List ℕ → Type 0
IsTextFront slots image «front» = («front» ≡ []) ⊎ ((rest : List ℕ) × IsLogText slots image («front» ++ rest))

-- What was written where the log isn't read: a front of its text, where the disk failed, and nothing at each other refusal, as far as
-- the disk tells what it reads.
pub record IsCutText {D : Type 0} (content : D → Area → Option (List ℕ)) (slots : ℕ) (disk : D) (e : OpenRefusal) (before after : Option (List ℕ)) : Type 0 where
  pub text : List ℕ
  pub written : Appends before after text
  pub starved : e ≡ Memory → text ≡ []
  pub failed : e ≡ Disk → (image : Bytes) → Reads content disk image → IsTextFront slots image text
  pub refused : (e ≡ Disk → ⊥) → (image : Bytes) → Reads content disk image → text ≡ []

-- No count of faults falls. Each rose where its side failed a call, and is as before at each other answer.
pub record HasPrintCause {T : Type 0} (disk_before disk_now sink_before sink_now : ℕ) (result : Result T PrintRefusal) : Type 0 where
  pub disk_later : disk_before ≤ disk_now
  pub disk_failed : IsErrOf result (Unread Disk) → Rose disk_before disk_now
  pub disk_kept : (IsErrOf result (Unread Disk) → ⊥) → disk_now ≡ disk_before
  pub sink_later : sink_before ≤ sink_now
  pub sink_failed : IsErrOf result Write → Rose sink_before sink_now
  pub sink_kept : (IsErrOf result Write → ⊥) → sink_now ≡ sink_before
