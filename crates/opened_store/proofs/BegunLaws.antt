-- The log after the undo has begun a log that goes on.
use Rattle.std.proofs.Common.{◌≡◌, ℕ, List, [], ◌∷◌, ◌++◌, length, Option, Some, None, refl, sym, ap, ◌∙◌, subst, arith}
use Rattle.std.specs.Prelude.{IfSome, IsSome, unwrap_or}
use Rattle.cell_model.specs.Cells.{Cell}
use Rattle.cell_model.specs.Consistent.{AreConsistent}
use Rattle.disk_model.specs.declared.area.Area.{Area}
use Rattle.disk_model.specs.declared.area.Area.TheVariants.{Pages, LogA, LogB, Super}
use Rattle.disk_model.specs.Areas.{Bytes, in_area}
use Rattle.disk_model.specs.Told.{Keeps}
use Rattle.gate_log.specs.Batches.{AreBodies}
use Rattle.gate_log.specs.State.{LogState, reach}
use Rattle.gate_log.specs.OnDisk.{IsOn, with_batch}
use Rattle.gate_log.proofs.OneReading.{one_reading}
use Rattle.log_replay.specs.Replays.{Replaying}
use Rattle.opened_images.specs.GoesOn.{IsEndedLog}
use Rattle.opened_images.specs.LogRecords.{body_of, bodies_of, all_of, first_records, HaveSpellings}
use Rattle.log_record.specs.declared.record.Record.{Record}
use Rattle.page_marks.specs.declared.marks.PageMark.{PageMark}
use Rattle.page_marks.specs.Marks.{AreMarks, IsMarkedBegun}
use Rattle.store_opening.proofs.FoundLaws.{few_records}
use Rattle.std.proofs.lemmas.List.{append-nil}
use Rattle.std.proofs.lemmas.Grind.{flat_map-append}
use Rattle.restart_laws.specs.Restored.{restored}
use Rattle.restart_laws.specs.Unended.{Unended}
use Rattle.store_opening.specs.Store.{Reads, AreCellsFound}
use Rattle.store_opening.specs.Undone.{IsUndoneWithMarks}
use Rattle.opened_store.proofs.OpenLaws.{bodies-behind, ended-behind, ended-before}
use Rattle.store_opening.specs.Room.{undo_size}
use Rattle.opened_store.proofs.RoomLaws.{undo-sized-all}

-- ---- a disk that is told

some-of : (o : Option (List ℕ)) → IsSome o → o ≡ Some (unwrap_or o [])
some-of (Some c) h = refl
some-of None h = absurd cc

module _ {D : Type 0} (content : D → Area → Option (List ℕ)) (told : (disk : D) (area other : Area) → IfSome (content disk area) (λ _. IsSome (content disk other))) where
  some-other : (disk : D) (area other : Area) (c : List ℕ) → content disk area ≡ Some c → content disk other ≡ Some (unwrap_or (content disk other) [])
  some-other disk area other c e = some-of (content disk other) (subst (λ (o : Option (List ℕ)). IfSome o (λ _. IsSome (content disk other))) e (told disk area other))

  -- where the pages area is told, all four are
  pub told-image : (disk : D) (c : List ℕ) → content disk Pages ≡ Some c → (image : Bytes) × (image.pages ≡ c) × Reads content disk image
  told-image disk c e = (image, refl, each)
    where
      image : Bytes
      image = record { pages = c; log_a = unwrap_or (content disk LogA) []; log_b = unwrap_or (content disk LogB) []; super_area = unwrap_or (content disk Super) [] }

      each : (area : Area) → content disk area ≡ Some (in_area image area)
      each Pages = e
      each LogA = some-other disk Pages LogA c e
      each LogB = some-other disk Pages LogB c e
      each Super = some-other disk Pages Super c e

  -- and a power loss may leave something in each
  pub left-there : (may_leave : D → Area → List ℕ → Type 0) → ((disk : D) (area : Area) → IfSome (content disk area) (may_leave disk area)) → (disk : D) (area : Area) (c : List ℕ) → content disk Pages ≡ Some c → (left : List ℕ) × may_leave disk area left
  left-there may_leave stays disk area c e =
      (unwrap_or (content disk area) [], subst (λ (o : Option (List ℕ)). IfSome o (may_leave disk area)) (some-other disk Pages area c e) (stays disk area))

-- what an area reads is one of the contents that a power loss may leave
pub reads-left : {D : Type 0} (content : D → Area → Option (List ℕ)) (may_leave : D → Area → List ℕ → Type 0) → ((disk : D) (area : Area) → IfSome (content disk area) (may_leave disk area)) → (disk : D) (area : Area) (c : List ℕ) → content disk area ≡ Some c
    → may_leave disk area c
reads-left content may_leave stays disk area c e = subst (λ (o : Option (List ℕ)). IfSome o (may_leave disk area)) e (stays disk area)

-- an area that stays in a call and then in another one
pub keeps-then : {D : Type 0} (content : D → Area → Option (List ℕ)) (may_leave : D → Area → List ℕ → Type 0) (before mid now : D) (area : Area) → Keeps content may_leave before mid area → Keeps content may_leave mid now area → Keeps content may_leave before now area
keeps-then content may_leave before mid now area a b = record { same = b.same ∙ a.same; no_more = λ c may. a.no_more c (b.no_more c may) }

-- ---- two readings of the log

-- the log stands on the disk with the batches that its records make, and with no others
pub same-batches : {D : Type 0} (may_leave : D → Area → List ℕ → Type 0) (log : LogState) (disk : D) (these those : List (List ℕ)) (left : List ℕ) → may_leave disk log.area left → IsOn may_leave log disk these → IsOn may_leave log disk those → these ≡ those
same-batches may_leave log disk these those left may a b = one_reading (reach log) (reach log) these those left (a.logs left may) (b.logs left may)

-- ---- the undo

nothing-left : (us : List (ℕ × Unended)) → undo_size us ≡ 0 → us ≡ []
nothing-left [] e = refl
nothing-left (u ∷ us) e = absurd (omega (arith, e))

-- records without bytes are none
no-records : {slots : ℕ} (rs : List (Record slots)) → HaveSpellings rs → body_of rs ≡ [] → rs ≡ []
no-records [] spelled e = refl
no-records (r ∷ rs) spelled e = absurd (omega (arith, few_records (r ∷ rs) spelled, ap length e))

-- the batches after which the undo stands, and those with it
pub begun-after : {D : Type 0} (may_leave : D → Area → List ℕ → Type 0) (slots : ℕ) (image : Bytes) (v w : Replaying) (before now : List PageMark) (log : LogState) (disk : D) (bytes : List ℕ) (ids : ℕ) (f : AreCellsFound may_leave slots image v before log disk)
    → AreConsistent slots ids v.cells → IsUndoneWithMarks slots v bytes w before now → AreBodies (with_batch (body_of (first_records slots f.count) ∷ bodies_of f.batches) bytes)
    → IsMarkedBegun slots (length w.skips) image.pages (with_batch (body_of (first_records slots f.count) ∷ bodies_of f.batches) bytes) w.cells now
begun-after may_leave slots image v w before now log disk bytes ids f k undone formed =
    subst (λ (n : ℕ). IsMarkedBegun slots n image.pages (with_batch first bytes) w.cells now) (sym (ap (λ (l : List ℕ). length l) undone.0.skips ∙ f.replayed.long)) (by bytes undone formed)
  where
    first : List (List ℕ)
    first = body_of (first_records slots f.count) ∷ bodies_of f.batches

    by : (bytes : List ℕ) → IsUndoneWithMarks slots v bytes w before now → AreBodies (with_batch first bytes) → IsMarkedBegun slots f.count image.pages (with_batch first bytes) w.cells now
    by [] undone formed =
        let u = undone.0 in
        let size = undo-sized-all v w u.records [] u.finishes u.none u.are in
        let none : v.unended ≡ [] = nothing-left v.unended (sym size) in
        let same : w.cells ≡ v.cells = u.cells ∙ ap (λ us. restored slots v.cells us) none in
        let records : all_of f.batches ++ u.records ≡ all_of f.batches = ap (λ (rs : List (Record slots)). all_of f.batches ++ rs) (no-records u.records u.spelled (sym u.are)) ∙ append-nil (all_of f.batches) in
        record {
          begun = (f.batches, refl, subst (λ (cs : List Cell). IsEndedLog f.count image.pages f.batches cs) (sym same) (ended-before slots image log.area f.count f.batches v ids f.replayed k none));
          marked = subst (λ (rs : List (Record slots)). AreMarks rs now) records (undone.1.more (all_of f.batches) f.marked);
        }
    by (byte ∷ more) undone formed =
        let u = undone.0 in
        let records : all_of (f.batches ++ u.records ∷ []) ≡ all_of f.batches ++ u.records =
        flat_map-append (λ (b : List (Record slots)). b) f.batches (u.records ∷ []) ∙ ap (λ (rs : List (Record slots)). all_of f.batches ++ rs) (append-nil u.records) in
        record {
          begun = (
            f.batches ++ u.records ∷ [],
            ap (λ (l : List (List ℕ)). body_of (first_records slots f.count) ∷ l) (sym (bodies-behind f.batches u.records (byte ∷ more) u.are)),
            ended-behind slots image log.area f.count f.batches v w (byte ∷ more) f.replayed u formed.1,
          );
          marked = subst (λ (rs : List (Record slots)). AreMarks rs now) (sym records) (undone.1.more (all_of f.batches) f.marked);
        }
