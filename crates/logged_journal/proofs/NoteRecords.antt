-- The records of notes, as those of a log that goes on.
use Rattle.std.proofs.Common.{◌≡◌, ℕ, List, [], ◌∷◌, ◌++◌, length, Option, Some, None, refl, sym, ◌∙◌, ap, subst, arith}
use Rattle.std.specs.Prelude.{IfSome, option_map}
use Rattle.std.specs.List.{AllByRecursion}
use Rattle.cell_model.specs.Cells.{Cell}
use Rattle.cell_model.specs.Consistent.{AreConsistent}
use Rattle.cell_model.proofs.ConsistentLaws.{blank-length}
use Rattle.log_record.specs.declared.cell_record.CellRecord.{CellRecord}
use Rattle.log_record.specs.declared.cell_record.CellRecord.TheVariants as logs
use Rattle.log_record.specs.declared.record.Record.{Record}
use Rattle.log_record.specs.Spelling.{HasCellSpelling, IsTypedCellRecord}
use Rattle.log_replay.specs.Replays.{IsWithin}
use Rattle.opened_images.specs.LogRecords.{HaveSpellings}
use Rattle.opened_images.specs.Replayed.{cells_of_log}
use Rattle.opened_images.specs.GoesOn.{logged_records, stored_records, AreWithin}
use Rattle.core_store.specs.declared.note.Note.{Note}
use Rattle.core_store.specs.JournalView.{logged_in}
use Rattle.core_store.specs.Spelled.{IsOfIds}
use Rattle.logged_journal.specs.Records.{logged_of, AreTypedNotes}

-- ---- the records alone

-- a store has them as its notes' records
pub stored-are : (notes : List Note) → stored_records (logged_of notes) ≡ logged_in notes
stored-are [] = refl
stored-are (n ∷ ns) = ap (λ rs. option_map Rattle.log_record.specs.Records.record_of n.logged ∷ rs) (stored-are ns)

-- one more that has a spelling
spelling-one : (slots : ℕ) (o : Option CellRecord) (os : List (Option CellRecord)) → IfSome o (HasCellSpelling slots) → IfSome o IsTypedCellRecord → HaveSpellings (logged_records {slots = slots} os)
    → HaveSpellings (logged_records {slots = slots} (o ∷ os))
spelling-one slots None os s t rest = rest
spelling-one slots (Some r) os s t rest = (s, t, rest)

-- they have spellings
pub spellings : (slots : ℕ) (notes : List Note) → AllByRecursion (λ (n : Note). IfSome n.logged (HasCellSpelling slots)) notes → AreTypedNotes notes → HaveSpellings (logged_records {slots = slots} (logged_of notes))
spellings slots [] s t = tt
spellings slots (n ∷ ns) s t = spelling-one slots n.logged (logged_of ns) s.0 t.0 (spellings slots ns s.1 t.1)

-- a record that names the store's ids, as the replay of a log says it
within-one : (ids : ℕ) (r : CellRecord) → IsOfIds ids r → IsWithin ids r
within-one ids (logs.Begin pass) h = h
within-one ids (logs.Make pass id) h = h
within-one ids (logs.Store pass id slot old_target old_strong new_target new_bit new_strong) h = h
within-one ids (logs.Pay pass id old_value new_value) h = h
within-one ids (logs.Commit pass) h = h
within-one ids (logs.Undo pass place from_strong to_bit id «from» to) h = h
within-one ids (logs.AbortEnd pass) h = h
within-one ids (logs.Weaken id slot target) h = h
within-one ids (logs.Strengthen id slot target) h = h
within-one ids (logs.Flip id) h = h
within-one ids (logs.CutDead id slot target was_strong) h = h
within-one ids (logs.Free id) h = h

-- the same where there is a record
pub within-some : (ids : ℕ) (o : Option CellRecord) → IfSome o (IsOfIds ids) → IfSome o (IsWithin ids)
within-some ids None h = tt
within-some ids (Some r) h = within-one ids r h

-- and name the store's ids
pub within : (ids : ℕ) (notes : List Note) → AllByRecursion (λ (n : Note). IfSome n.logged (IsOfIds ids)) notes → AreWithin ids (logged_of notes)
within ids [] h = tt
within ids (n ∷ ns) h = (within-some ids n.logged h.0, within ids ns h.1)

-- what holds of all holds of the first
pub first-have : {X : Type 0} (P : X → Type 0) (xs ys : List X) → AllByRecursion P (xs ++ ys) → AllByRecursion P xs
first-have P [] ys h = tt
first-have P (x ∷ xs) ys h = (h.0, first-have P xs ys h.1)

-- and of the last
pub last-have : {X : Type 0} (P : X → Type 0) (xs ys : List X) → AllByRecursion P (xs ++ ys) → AllByRecursion P ys
last-have P [] ys h = h
last-have P (x ∷ xs) ys h = last-have P xs ys h.1

-- ---- how many slots there are

-- consistent cells have one number of slots
pub slots-are : (slots known ids others : ℕ) (cells : List Cell) → AreConsistent slots ids cells → AreConsistent known others cells → slots ≡ known
slots-are slots known ids others cells these those =
    let sized = these.sized in
    let more = those.sized in
    let blank = these.empty 0 (omega (arith, sized)) these.exact.none in
    let other = those.empty 0 (omega (arith, more)) those.exact.none in
    sym (blank-length slots) ∙ ap (λ (c : Cell). length c.pointers) (sym blank ∙ other) ∙ blank-length known

-- the cells that a log makes have as many slots as it says
pub slots-of-log : (slots known ids pages : ℕ) (area : List ℕ) (rs : List (Record slots)) (cells : List Cell) → cells ≡ cells_of_log slots pages area rs → AreConsistent known ids cells → slots ≡ known
slots-of-log slots known ids pages area rs cells is consistent =
    let k = subst (AreConsistent known ids) is consistent in
    let sized = k.sized in
    let blank = k.empty 0 (omega (arith, sized)) k.exact.none in
    sym (blank-length slots) ∙ ap (λ (c : Cell). length c.pointers) blank ∙ blank-length known
