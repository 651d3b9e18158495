-- A log of batches that goes on with the records of events.
use Rattle.std.proofs.Common.{◌≡◌, ℕ, ◌*◌, List, [], ◌∷◌, ◌++◌, map, Option, Some, None, refl, sym, ap, ◌∙◌}
use Rattle.log_record.specs.declared.cell_record.CellRecord.{CellRecord}
use Rattle.log_record.specs.declared.record.Record.{Record}
use Rattle.log_record.specs.declared.record.Record.TheVariants.{OfCells}
use Rattle.log_record.specs.Records.{record_of}
use Rattle.restart_laws.specs.Unended.{Unended, unended_after, unended_after_all, AllFitUnended}
use Rattle.opened_images.specs.LogRecords.{body_of, bodies_of, all_of, HaveSpellings, unended_by, unended_by_all, AllFitLog}
use Rattle.opened_images.specs.GoesOn.{logged_records, stored_records, in_parts, AreWithin}

-- ---- the records of the parts

-- the records that the events of two lists logged are those of the first, and after them those of the second
pub logged_append : {slots : ℕ} (rs ss : List (Option CellRecord)) → logged_records {slots = slots} (rs ++ ss) ≡ logged_records rs ++ logged_records ss
logged_append [] ss = refl
logged_append {slots} (Some r ∷ rs) ss = ap (λ (l : List (Record slots)). OfCells r ∷ l) (logged_append rs ss)
logged_append (None ∷ rs) ss = logged_append rs ss

-- the records of the batches of all parts
pub logged_parts : {slots : ℕ} (parts : List (List (Option CellRecord))) → all_of (map (logged_records {slots = slots}) parts) ≡ logged_records (in_parts parts)
logged_parts [] = refl
logged_parts {slots} (part ∷ parts) = ap (λ (l : List (Record slots)). logged_records part ++ l) (logged_parts parts) ∙ sym (logged_append part (in_parts parts))

-- the bodies of the batches of all parts
body_parts : (slots : ℕ) (parts : List (List (Option CellRecord))) → bodies_of (map (logged_records {slots = slots}) parts) ≡ map (λ part. body_of (logged_records {slots = slots} part)) parts
body_parts slots [] = refl
body_parts slots (part ∷ parts) = ap (λ (l : List (List ℕ)). body_of (logged_records {slots = slots} part) ∷ l) (body_parts slots parts)

-- the bodies of a log that goes on with them
pub all_bodies : {slots : ℕ} (earlier : List (List (Record slots))) (parts : List (List (Option CellRecord)))
    → bodies_of (earlier ++ map logged_records parts) ≡ bodies_of earlier ++ map (λ part. body_of (logged_records {slots = slots} part)) parts
all_bodies {slots} [] parts = body_parts slots parts
all_bodies (b ∷ bs) parts = ap (λ (l : List (List ℕ)). body_of b ∷ l) (all_bodies bs parts)

-- ---- one list of records after another

-- both have spellings
pub spelled_both : {slots : ℕ} (rs ss : List (Record slots)) → HaveSpellings rs → HaveSpellings ss → HaveSpellings (rs ++ ss)
spelled_both [] ss a b = b
spelled_both (r ∷ rs) ss a b = (a.0, a.1, spelled_both rs ss a.2 b)

-- both fit a log
pub fit_both : {slots : ℕ} (pages : ℕ) (us : List (ℕ × Unended)) (rs ss : List (Record slots)) → AllFitLog pages us rs → AllFitLog pages (unended_by_all us rs) ss → AllFitLog pages us (rs ++ ss)
fit_both pages us [] ss f g = g
fit_both pages us (r ∷ rs) ss f g = (f.0, fit_both pages (unended_by us r) rs ss f.1 g)

-- ---- what the new records are to the transactions that haven't ended

-- they fit a log where they fit those
pub fit_logged : (slots pages : ℕ) (us : List (ℕ × Unended)) (rs : List (Option CellRecord)) → AreWithin (8 * pages) rs → AllFitUnended us (stored_records rs) → AllFitLog {slots = slots} pages us (logged_records rs)
fit_logged slots pages us [] within fit = tt
fit_logged slots pages us (Some r ∷ rs) within fit = ((within.0, fit.0), fit_logged slots pages (unended_after us (record_of r)) rs within.1 fit.1)
fit_logged slots pages us (None ∷ rs) within fit = fit_logged slots pages us rs within.1 fit

-- and tell of them what they tell as records of cells
pub unended_logged : (slots : ℕ) (us : List (ℕ × Unended)) (rs : List (Option CellRecord)) → unended_by_all {slots = slots} us (logged_records rs) ≡ unended_after_all us (stored_records rs)
unended_logged slots us [] = refl
unended_logged slots us (Some r ∷ rs) = unended_logged slots (unended_after us (record_of r)) rs
unended_logged slots us (None ∷ rs) = unended_logged slots us rs
