-- An area is a log or damaged, at one place.
use Rattle.std.proofs.Common.{◌≡◌, ◌⊎◌, inl, inr, ℕ, List, [], ◌∷◌, ◌++◌, refl, sym, ◌∙◌, arith, append_assoc}
use Rattle.std.proofs.lemmas.List.{append-nil}
use Rattle.cell_page.specs.Format.{IsSlotCount}
use Rattle.log_record.specs.declared.record.Record.{Record}
use Rattle.gate_log.specs.Batches.{batch_bytes, batches_bytes}
use Rattle.opened_images.specs.LogRecords.{body_of, bodies_of, first_records, IsRecordLog, IsDamagedLog, BeginsWithBody}
use Rattle.opened_images.proofs.LogWays.{undamaged, one_place}
use Rattle.log_printing.specs.Damage.{HasOtherFirst, IsDamagedFor}
use Rattle.log_printing.proofs.TestLaws.{is_first}

first_begins : {slots : ℕ} (pages : ℕ) (area : List ℕ) (batches : List (List (Record slots))) → IsRecordLog pages batches area → BeginsWithBody (body_of (first_records slots pages)) area
first_begins {slots} pages area batches l =
    record {
      whole = l.log.bodies.0;
      rest = batches_bytes (bodies_of batches) ++ l.log.commit_byte ∷ l.log.rest;
      are = l.log.are ∙ append_assoc (batch_bytes (body_of (first_records slots pages))) (batches_bytes (bodies_of batches)) (l.log.commit_byte ∷ l.log.rest);
      short = l.log.short;
    }

pub undamaged_view : {slots : ℕ} → IsSlotCount slots → (pages place : ℕ) (area : List ℕ) (batches : List (List (Record slots))) → IsRecordLog pages batches area → IsDamagedFor slots pages area place → ⊥
undamaged_view {slots} known pages place area batches l (inl first) =
    let are = l.batches_are in
    is_first slots pages (body_of (first_records slots pages)) [] area (refl, are.some, are.few) (sym (append-nil (body_of (first_records slots pages)))) (first_begins pages area batches l) first.0
undamaged_view known pages place area batches l (inr damaged) = undamaged known area pages place batches l damaged.1

pub one_place_view : {slots : ℕ} → IsSlotCount slots → (pages place other : ℕ) (area : List ℕ) → IsDamagedFor slots pages area place → IsDamagedFor slots pages area other → place ≡ other
one_place_view known pages place other area (inl a) (inl b) = a.1 ∙ sym b.1
one_place_view known pages place other area (inl a) (inr b) = absurd (b.0 a.0)
one_place_view known pages place other area (inr a) (inl b) = absurd (a.0 b.0)
one_place_view known pages place other area (inr a) (inr b) = one_place known area place other a.1 b.1
