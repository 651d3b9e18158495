-- A store whose log has no image of a page, where one walk took its records.
use Rattle.std.proofs.Common.{◌≡◌, ◌⊎◌, ℕ, zero, suc, ◌<◌, List, [], ◌∷◌, length, Option, Some, inl, inr, refl, sym, ap, subst, ◌∙◌, arith}
use Rattle.std.specs.Prelude.{slice_index, replicate}
use Rattle.std.proofs.lemmas.List.{length-replicate}
use Rattle.disk_model.specs.declared.area.Area.{Area}
use Rattle.disk_model.specs.declared.area.Area.TheVariants.{Super}
use Rattle.disk_model.specs.Areas.{Bytes, in_area}
use Rattle.disk_model.specs.Told.{KeepsAll}
use Rattle.cell_page.specs.declared.cell.Cell.{Cell}
use Rattle.cell_page.specs.Format.{IsSlotCount}
use Rattle.gate_log.specs.Batches.{IsLog, most_bytes}
use Rattle.gate_log.specs.State.{LogState}
use Rattle.gate_log.specs.OnDisk.{named_by, IsRead}
use Rattle.log_record.specs.declared.record.Record.{Record}
use Rattle.log_record.specs.declared.record.Record.TheVariants.{OfCells, Image, Turn}
use Rattle.log_record.specs.Spelling.{known_version, HasSpelling}
use Rattle.log_replay.specs.Replays.{Replaying, after_taking}
use Rattle.opened_images.specs.LogRecords.{body_of, bodies_of, all_of, first_records, IsRecordLog}
use Rattle.store_opening.specs.Walks.{CanTakeAll, Takes, count_images}
use Rattle.store_opening.specs.Loaded.{AreLoaded}
use Rattle.store_opening.specs.declared.open_refusal.OpenRefusal.{OpenRefusal}
use Rattle.store_opening.specs.declared.open_refusal.OpenRefusal.TheVariants.{Disk, Memory}
use Rattle.store_opening.specs.Store.{Refuses}
use Rattle.store_opening.specs.Replayed.{replay_start, IsReady, IsReplayed}
use Rattle.store_opening.proofs.StoreLaws.{pages_whole}
use Rattle.store_opening.proofs.ReplayLaws.{are_those, of_match, start_matches, replay_ends}

-- where no image is awaited none was taken
none_imaged : {slots : ℕ} (v : Replaying) (rs : List (Record slots)) (page : ℕ) → ((p : ℕ) → slice_index v.skips p ≡ 0) → CanTakeAll v rs → count_images page rs ≡ 0
none_imaged v [] page unawaited can = refl
none_imaged {slots} v (OfCells r ∷ rs) page unawaited can = none_imaged (after_taking {slots = slots} (OfCells r) v) rs page unawaited can.1
none_imaged v (Turn version count ∷ rs) page unawaited can = absurd can.0
none_imaged v (Image other cells ∷ rs) page unawaited can = absurd (omega (arith, can.0.1, unawaited other))

-- the records that one walk over the pages in place took are those of the image, and the replay stands for the cells after them
pub once_replayed : {slots : ℕ} → IsSlotCount slots → (image : Bytes) (area : Area) (count : ℕ) (pages : List (List (Cell slots))) (images : List ℕ) (batches : List (List (Record slots))) (w : Replaying)
    → HasSpelling {slots = slots} (Turn (known_version slots) count) → images ≡ replicate count 0 → length pages ≡ count → named_by image.super_area ≡ Some area
    → AreLoaded slots images count image.pages pages → Takes (all_of batches) (replay_start pages images) w
    → IsLog most_bytes (body_of (first_records slots count) ∷ bodies_of batches) (in_area image area) → IsReplayed slots image area count batches w
once_replayed {slots} known image area count pages images batches w rules zeros number named loaded takes log =
    let v = replay_start pages images in
    let long : length images ≡ count = ap length zeros ∙ length-replicate count 0 in
    let each : (p : ℕ) → slice_index images p ≡ 0 = λ p. ap (λ (l : List ℕ). slice_index l p) zeros ∙ zero_at count p in
    let counts : (page : ℕ) → page < count → slice_index images page ≡ count_images page (all_of batches) =
    λ page low. each page ∙ sym (none_imaged v (all_of batches) page each takes.fit) in
    let matches = start_matches known count image.pages images pages (all_of batches) number long counts loaded in
    let those = are_those count v w batches rules.1 rules.2 (of_match count image.pages [] (all_of batches) v matches) refl takes log.bodies.1 in
    let log_is : IsRecordLog count batches (in_area image area) = record { batches_are = those; log = log } in
    let ready : IsReady slots image area pages images =
    record {
      count = count;
      batches = batches;
      read = record { read = record { named = named; log = log_is }; whole = pages_whole known count image.pages images pages (all_of batches) counts loaded };
      number = long;
      counts = counts;
      loaded = loaded;
    } in
    replay_ends known image area pages images count batches w (long ∙ sym number) ready rules takes log
  where
    zero_at : (n p : ℕ) → slice_index (replicate n 0) p ≡ 0
    zero_at zero p = refl
    zero_at (suc n) zero = refl
    zero_at (suc n) (suc p) = zero_at n p

-- the log is read as before where nothing changed
module _ {D : Type 0} (content : D → Area → Option (List ℕ)) (may_leave : D → Area → List ℕ → Type 0) where
  pub read_still : (log : LogState) (before now : D) (batches : List (List ℕ)) → KeepsAll content may_leave before now → IsRead content may_leave log before batches → IsRead content may_leave log now batches
  read_still log before now batches keeps is =
      record {
        area = is.area;
        settled = λ c may. (keeps log.area).same ∙ is.settled c ((keeps log.area).no_more c may);
        named = λ c may. is.named c ((keeps Super).no_more c may);
        begins = λ c may. is.begins c ((keeps log.area).no_more c may);
        commit_byte = is.commit_byte;
      }

-- these refusals tell nothing of an image
pub refuses_nothing : (slots : ℕ) (image : Bytes) (r : OpenRefusal) → (r ≡ Disk) ⊎ (r ≡ Memory) → Refuses slots image r
refuses_nothing slots image r (inl is) = subst (λ x. Refuses slots image x) (sym is) tt
refuses_nothing slots image r (inr is) = subst (λ x. Refuses slots image x) (sym is) tt
