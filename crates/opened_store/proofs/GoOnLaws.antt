-- Whether a log has room to go on, and what it gets.
use Rattle.std.proofs.Common.{◌≡◌, ◌⊎◌, ℕ, ◌+◌, ◌<◌, ◌≤◌, List, [], ◌∷◌, length, Option, Some, inl, inr, refl, sym, ap, subst, ◌∙◌, arith}
use Rattle.std.specs.Prelude.{option_map, unwrap_or}
use Rattle.cell_model.specs.Consistent.{AreConsistent}
use Rattle.cell_page.specs.Format.{IsSlotCount}
use Rattle.disk_model.specs.declared.area.Area.{Area}
use Rattle.disk_model.specs.declared.area.Area.TheVariants.{Pages}
use Rattle.disk_model.specs.Areas.{Bytes, in_area}
use Rattle.disk_model.specs.Told.{KeepsOthers}
use Rattle.gate_log.specs.Batches.{most_bytes, batches_bytes}
use Rattle.gate_log.specs.State.{LogState, IsLogArea, used, batch_length, forced_area}
use Rattle.log_record.specs.declared.record.Record.{Record}
use Rattle.log_replay.specs.Replays.{Replaying}
use Rattle.opened_images.specs.LogRecords.{log_bytes, unended_behind, IsRecordLog}
use Rattle.opened_images.proofs.LogWays.{one_log}
use Rattle.page_marks.specs.declared.marks.PageMark.{PageMark}
use Rattle.restart_laws.specs.Restored.{CanRestart}
use Rattle.restart_laws.proofs.RuleLaws.{consistent-rules}
use Rattle.store_opening.specs.declared.open_refusal.OpenRefusal.{OpenRefusal}
use Rattle.store_opening.specs.declared.open_refusal.OpenRefusal.TheVariants.{Disk, Memory, LogFull}
use Rattle.store_opening.specs.Room.{LacksRoom, undo_size, batch_size}
use Rattle.store_opening.specs.Store.{Reads, Refuses, IsOfStore, AreCellsFound}
use Rattle.store_opening.specs.Undone.{IsUndone}
use Rattle.opened_store.specs.Steps.{IsLate}
use Rattle.opened_store.specs.Touched.{GetsUndo}
use Rattle.opened_store.proofs.ForceLaws.{batch-sized}
use Rattle.opened_store.proofs.OpenLaws.{cells-are, pages-apart}
use Rattle.opened_store.proofs.RoomLaws.{undo-sized-all}

-- ---- refusals of a force

-- a refusal on account of the store is none of the disk
pub no-disk : (e : OpenRefusal) → IsOfStore e → e ≡ Disk → ⊥
no-disk e of_store is = subst IsOfStore is of_store

-- it tells nothing of the image, or comes before anything is written
pub late-or : {P : Type 0} (e : OpenRefusal) → (e ≡ Disk) ⊎ ((e ≡ Memory) ⊎ (e ≡ LogFull)) → ((e ≡ Disk → ⊥) → P) → IsLate e ⊎ P
late-or e (inl is) before = inl (subst IsLate (sym is) tt)
late-or e (inr (inl is)) before = inl (subst IsLate (sym is) tt)
late-or e (inr (inr is)) before = inr (before (λ disk. let same : Disk ≡ LogFull = sym disk ∙ is in cc (same)))

-- a log that lacks room is refused
pub refuses-room : (slots : ℕ) (image : Bytes) (e : OpenRefusal) → (e ≡ Disk) ⊎ ((e ≡ Memory) ⊎ (e ≡ LogFull)) → (e ≡ LogFull → LacksRoom slots image) → Refuses slots image e
refuses-room slots image e (inl is) lacks = subst (λ (r : OpenRefusal). Refuses slots image r) (sym is) tt
refuses-room slots image e (inr (inl is)) lacks = subst (λ (r : OpenRefusal). Refuses slots image r) (sym is) tt
refuses-room slots image e (inr (inr is)) lacks = subst (λ (r : OpenRefusal). Refuses slots image r) (sym is) (lacks is)

-- ---- room

-- the batch of the undo, by what had not ended
undo-batch : {slots : ℕ} (v w : Replaying) (bytes : List ℕ) (batches : List (List (Record slots))) → IsUndone slots v bytes w → v.unended ≡ unended_behind batches → length bytes ≡ undo_size (unended_behind batches)
undo-batch v w bytes batches u same = undo-sized-all v w u.records bytes u.finishes u.none u.are ∙ ap undo_size same

module _ {D : Type 0} (may_leave : D → Area → List ℕ → Type 0) (slots : ℕ) (image : Bytes) (v w : Replaying) (marks : List PageMark) (log : LogState) (disk : D) (bytes : List ℕ) (ids : ℕ) (f : AreCellsFound may_leave slots image v marks log disk)
    (k : AreConsistent slots ids v.cells) (u : IsUndone slots v bytes w) (empty : log.tail ≡ []) where
  sized : batch_length bytes ≡ batch_size (undo_size (unended_behind f.batches))
  sized = batch-sized bytes (undo_size (unended_behind f.batches)) (undo-batch v w bytes f.batches u f.replayed.unended)

  ends : log.durable ≡ length (log_bytes f.count f.batches)
  ends = f.is_on.commit_byte

  -- where the undo doesn't fit, the image lacks room
  pub lacks-room : most_bytes < used log + batch_length bytes → LacksRoom slots image
  lacks-room past =
      let blank = k.empty 0 (let z = k.sized in omega (arith, z)) k.exact.none in
      let none = ap (λ (t : List ℕ). length t) empty in
      record {
        area = log.area;
        pages = f.count;
        batches = f.batches;
        cells = v.cells;
        read = cells-are slots image log.area f.count f.batches v f.replayed blank;
        rules = consistent-rules slots ids v.cells k;
        can = subst (λ us. CanRestart slots v.cells us) f.replayed.unended u.can;
        long = omega (arith, past, none, sized, ends);
      }

  -- and where it does, it doesn't
  pub has-room : IsSlotCount slots → used log + batch_length bytes ≤ most_bytes → LacksRoom slots image → ⊥
  has-room known fits l =
      let named = f.replayed.read.pages_read.read.named in
      let area : l.area ≡ log.area = ap (λ (o : Option Area). unwrap_or o l.area) (sym l.read.pages_read.read.named ∙ named) in
      let here : IsRecordLog l.pages l.batches (in_area image log.area) = subst (λ (a : Area). IsRecordLog l.pages l.batches (in_area image a)) area l.read.pages_read.read.log in
      let same = one_log known (in_area image log.area) l.pages f.count l.batches f.batches here f.replayed.read.pages_read.read.log in
      let long = ap (λ (n : ℕ). length (log_bytes n l.batches)) same.0 ∙ ap (λ (b : List (List (Record slots))). length (log_bytes f.count b)) same.1 in
      let undo = ap (λ (b : List (List (Record slots))). batch_size (undo_size (unended_behind b))) same.1 in
      let none = ap (λ (t : List ℕ). length t) empty in
      let past = l.long in
      omega (arith, fits, past, long, undo, none, sized, ends)

-- of a log that stands on a disk the bytes of its area are those from before with the undo's batch
pub undo-got : {D : Type 0} (content : D → Area → Option (List ℕ)) (slots : ℕ) (before mid now : D) (log new : LogState) (bytes items : List ℕ) → new.area ≡ log.area → new.durable ≡ log.durable + batch_length bytes → bytes ≡ items
    → content mid log.area ≡ content before log.area → content now log.area ≡ option_map (forced_area log.durable bytes) (content mid log.area)
    → ((image : Bytes) → Reads content before image → (pages : ℕ) × (batches : List (List (Record slots))) × IsRecordLog pages batches (in_area image log.area) × (log.durable ≡ length (log_bytes pages batches)) × (length items ≡ undo_size (unended_behind batches)))
    → GetsUndo content slots before now new
undo-got content slots before mid now log new bytes items area durable same kept reads of_log = record {
  place = log.durable;
  undo = bytes;
  reads = subst (λ (a : Area). content now a ≡ option_map (forced_area log.durable bytes) (content before a)) (sym area) (reads ∙ ap (λ (o : Option (List ℕ)). option_map (forced_area log.durable bytes) o) kept);
  stands = durable;
  of_log = λ image told.
      let o = of_log image told in
      (o.0, o.1, subst (λ (a : Area). IsRecordLog o.0 o.1 (in_area image a)) (sym area) o.2, o.3, ap (λ (b : List ℕ). length b) same ∙ o.4);
}

-- the pages area has nothing to do with it
pub undo-kept : {D : Type 0} (content : D → Area → Option (List ℕ)) (may_leave : D → Area → List ℕ → Type 0) (slots : ℕ) (before mid now : D) (log : LogState) → IsLogArea log.area → KeepsOthers content may_leave mid now Pages → GetsUndo content slots before mid log
    → GetsUndo content slots before now log
undo-kept content may_leave slots before mid now log is_log keeps got = record {
  place = got.place;
  undo = got.undo;
  reads = (keeps log.area (λ e. pages-apart log.area is_log (sym e))).same ∙ got.reads;
  stands = got.stands;
  of_log = got.of_log;
}
