-- What a migration tells of the disk at each moment, and of the version that it is refused for.
use Rattle.std.proofs.Common.{◌≡◌, ◌≢◌, ◌⊎◌, ⊎_elim, inl, inr, ℕ, List, ◌∷◌, Option, Some, refl, sym, ap, subst, ◌∙◌, arith}
use Rattle.disk_model.specs.declared.area.Area.{Area}
use Rattle.disk_model.specs.Areas.{Bytes, in_area}
use Rattle.disk_model.specs.Told.{IsImage}
use Rattle.disk_model.specs.Time.{LeavesOnlyImages}
use Rattle.disk_model.proofs.Moments.{weaken}
use Rattle.gate_log.specs.OnDisk.{named_by}
use Rattle.cell_model.specs.Cells.{Cell}
use Rattle.cell_model.specs.Graph.{graph_of}
use Rattle.opened_images.specs.LogRecords.{IsOfVersion}
use Rattle.opened_images.specs.Opened.{Outcome, Opened, OpensTo, UnknownVersion as UnknownVersionOutcome, no_store, damaged_log, unknown_version, damaged_page, unfit, unsound, stuck, opens}
use Rattle.opened_images.proofs.OneOutcome.{heads, tails}
use Rattle.opened_images.proofs.Ways.{first_same}
use Rattle.store_opening.specs.declared.open_refusal.OpenRefusal.{OpenRefusal}
use Rattle.store_opening.specs.declared.open_refusal.OpenRefusal.TheVariants.{UnknownVersion}
use Rattle.store_opening.specs.declared.open_refusal.OpenRefusal.TheVariants as refusal
use Rattle.store_opening.specs.Store.{Reads, Refuses, IsNoDisk}
use Rattle.store_migration.specs.Migrated.{OpensNarrowOrWide, OpensToObjects, RefusesBoth, at_fourteen, at_six}
use Rattle.store_migration.proofs.Widths.{same_objects_either}
use Rattle.brahma_shell.specs.Migrated.{MigratesMeanwhile}
use Rattle.brahma_shell.specs.Top.{status_of_refusal}

-- ---- at each moment

module _ {D : Type 0} (content : D → Area → Option (List ℕ)) (may_leave : D → Area → List ℕ → Type 0) (moment : D → ℕ) (left_since : D → ℕ → Bytes → Type 0) (before now : D) where
  -- what the call tells of cells, it tells of objects
  pub meanwhile : ((image : Bytes) (cells : List Cell) → Reads content before image → Opened 6 image (OpensTo cells) → LeavesOnlyImages moment left_since before now (λ other. IsImage may_leave before other ⊎ OpensNarrowOrWide cells other))
      → ((image : Bytes) (cells : List Cell) → Reads content before image → Opened 14 image (OpensTo cells) → LeavesOnlyImages moment left_since before now (λ other. IsImage may_leave before other ⊎ Opened 14 other (OpensTo cells)))
      → MigratesMeanwhile content may_leave moment left_since before now
  meanwhile narrow wide = record {
    narrow = narrow;
    wide = λ cells image reads opened. wide image cells reads opened;
    objects = λ image cells reads opened.
        weaken (λ other. IsImage may_leave before other ⊎ (OpensToObjects 6 0 (graph_of cells) other ⊎ OpensToObjects 14 8 (graph_of cells) other))
        (λ other at. ⊎_elim (λ was. inl was) (λ is. inr (same_objects_either other cells is)) at) (narrow image cells reads opened);
  }

-- ---- the version

-- the log that the super area names is of this version, which is not the one that is known
record IsVersioned (slots byte : ℕ) (image : Bytes) : Type 0 where
  area : Area
  named : named_by image.super_area ≡ Some area
  is : IsOfVersion slots byte (in_area image area)

versioned : (slots : ℕ) (image : Bytes) (o : Outcome) (byte : ℕ) → Opened slots image o → o ≡ UnknownVersionOutcome byte → IsVersioned slots byte image
versioned slots image o byte (no_store e) is = absurd (cc (is))
versioned slots image o byte (damaged_log area at named damaged) is = absurd (cc (is))
versioned slots image o byte (unknown_version area found named version) is =
    let same : found ≡ byte = cc (is) in
    record { area = area; named = named; is = subst (λ (n : ℕ). IsOfVersion slots n (in_area image area)) same version }
versioned slots image o byte (damaged_page area pages batches page at read low damaged earlier) is = absurd (cc (is))
versioned slots image o byte (unfit area pages front before r after back read fit not) is = absurd (cc (is))
versioned slots image o byte (unsound area pages batches cells rule id read broken) is = absurd (cc (is))
versioned slots image o byte (stuck area pages batches cells id read keeps at) is = absurd (cc (is))
versioned slots image o byte (opens area pages batches cells read keeps can) is = absurd (cc (is))

same-area : (o : Option Area) (a b : Area) → o ≡ Some a → o ≡ Some b → a ≡ b
same-area o a b e f = let h : Some a ≡ Some b = sym e ∙ f in cc (h)

-- it has one version, at whatever number of slots it is read
one-version : (image : Bytes) (m n x y : ℕ) → IsVersioned m x image → IsVersioned n y image → x ≡ y
one-version image m n x y u v =
    let same = same-area (named_by image.super_area) u.area v.area u.named v.named in
    let w : IsOfVersion n y (in_area image u.area) = subst (λ (a : Area). IsOfVersion n y (in_area image a)) (sym same) v.is in
    let bodies = first_same (14 ∷ x ∷ u.is.pages) (14 ∷ y ∷ w.pages) u.is.first.rest w.first.rest u.is.first.whole w.first.whole (sym u.is.first.are ∙ w.first.are) in
    heads x y u.is.pages w.pages (tails 14 14 (x ∷ u.is.pages) (y ∷ w.pages) bodies.0)

-- a store that is refused for its version is of neither that is known
pub refused-version : (image : Bytes) (e : OpenRefusal) (byte : ℕ) → RefusesBoth image e → e ≡ UnknownVersion byte → (byte ≢ 1) × (byte ≢ 2)
refused-version image e byte (at_fourteen refuses other) is =
    let v = versioned 14 image (UnknownVersionOutcome byte) byte (subst (Refuses 14 image) is refuses) refl in
    (λ one. other (is ∙ ap UnknownVersion one), λ two. v.is.unknown two)
refused-version image e byte (at_six unknown refuses) is =
    let v = versioned 6 image (UnknownVersionOutcome byte) byte (subst (Refuses 6 image) is refuses) refl in
    let first = versioned 14 image (UnknownVersionOutcome 1) 1 unknown refl in
    absurd (v.is.unknown (one-version image 6 14 byte 1 v first))

-- ---- the status

-- the status of a failed disk is told for that alone
pub six-disk : (e : OpenRefusal) → status_of_refusal e ≡ 6 → e ≡ refusal.Disk
six-disk refusal.Disk six = refl
six-disk (refusal.Damaged p at) six = absurd (omega (arith, six))
six-disk refusal.NoStore six = absurd (omega (arith, six))
six-disk (refusal.UnknownVersion byte) six = absurd (omega (arith, six))
six-disk (refusal.Unsound id rule) six = absurd (omega (arith, six))
six-disk refusal.Memory six = absurd (omega (arith, six))
six-disk refusal.LogFull six = absurd (omega (arith, six))

pub not-disk : (e : OpenRefusal) → (status_of_refusal e ≡ 6 → ⊥) → IsNoDisk e
not-disk refusal.Disk other = absurd (other refl)
not-disk (refusal.Damaged p at) other = tt
not-disk refusal.NoStore other = tt
not-disk (refusal.UnknownVersion byte) other = tt
not-disk (refusal.Unsound id rule) other = tt
not-disk refusal.Memory other = tt
not-disk refusal.LogFull other = tt

pub refused-status : (e : OpenRefusal) (status : ℕ) → status ≡ status_of_refusal e → (status ≡ 0) ⊎ ((status ≡ 5) ⊎ ((status ≡ 6) ⊎ ((status ≡ 7) ⊎ ((status ≡ 8) ⊎ (status ≡ 9)))))
refused-status refusal.Disk status is = inr (inr (inl is))
refused-status (refusal.Damaged p at) status is = inr (inr (inr (inl is)))
refused-status refusal.NoStore status is = inr (inr (inr (inl is)))
refused-status (refusal.UnknownVersion byte) status is = inr (inr (inr (inl is)))
refused-status (refusal.Unsound id rule) status is = inr (inr (inr (inl is)))
refused-status refusal.Memory status is = inr (inr (inr (inr (inl is))))
refused-status refusal.LogFull status is = inr (inr (inr (inr (inr is))))
