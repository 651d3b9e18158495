-- Which stores open after a migration, and that one that can be done is done.
use Rattle.std.proofs.Common.{◌≡◌, ◌⊎◌, ⊎_elim, inl, inr, ◌≤◌, ◌+◌, ℕ, List, length, Option, refl, sym, ap, ◌∙◌, arith}
use Rattle.std.specs.Prelude.{IfSome}
use Rattle.std.proofs.lemmas.List.{length-map}
use Rattle.cell_model.specs.Cells.{Cell}
use Rattle.disk_model.specs.declared.area.Area.{Area}
use Rattle.disk_model.specs.Areas.{Bytes}
use Rattle.disk_model.specs.Causes.{Rose}
use Rattle.disk_model.specs.Told.{IsImage}
use Rattle.opened_images.specs.Opened.{Outcome, Opened, OpensTo, UnknownVersion as UnknownVersionOutcome}
use Rattle.opened_images.proofs.OneOutcome.{one_outcome}
use Rattle.opened_store.specs.Unopened.{DoesNotOpen}
use Rattle.opened_store.proofs.RefusedLaws as refused_laws
use Rattle.store_opening.specs.declared.open_refusal.OpenRefusal.{OpenRefusal}
use Rattle.store_opening.specs.declared.open_refusal.OpenRefusal.TheVariants as refusal
use Rattle.store_opening.specs.declared.open_refusal.Place.TheVariants as place
use Rattle.store_opening.specs.Store.{Reads, Refuses}
use Rattle.store_migration.specs.Migrated.{IsMigrated, narrow, wide, RefusesBoth, at_fourteen, at_six}
use Rattle.store_migration.proofs.Widths.{one_width, not_wide}
use Rattle.store_migration.specs.Wider.{wider, all_wider}
use Rattle.brahma_shell.specs.declared.ended.Ended.{Ended}
use Rattle.brahma_shell.specs.Ended.{disk_in}
use Rattle.brahma_shell.specs.Top.{Tell, AlwaysOpens, IsDoneOrFull, Outside, status_of_refusal}
use Rattle.brahma_shell.specs.Migrated.{AlwaysOpensAtEither, MigratesMeanwhile, Migrated, Unmigrated}
use Rattle.brahma_shell.proofs.CompleteLemmas.{refused-closed, read-left}
use Rattle.brahma_shell.proofs.CrashLemmas.{read-image}

-- ---- a refusal

-- an outcome that is the version 1 is no other one
other-outcome : (image : Bytes) (o : Outcome) → Opened 14 image o → Opened 14 image (UnknownVersionOutcome 1) → o ≡ UnknownVersionOutcome 1
other-outcome image o a b = one_outcome {slots = 14} (inr refl) image o (UnknownVersionOutcome 1) a b

-- the refusal of a log of version 1 at fourteen slots is for that version
only-version : (e : OpenRefusal) (image : Bytes) → status_of_refusal e ≡ 7 → Refuses 14 image e → Opened 14 image (UnknownVersionOutcome 1) → e ≡ refusal.UnknownVersion 1
only-version refusal.Disk image seven r u = absurd (omega (arith, seven))
only-version (refusal.Damaged place.LogA at) image seven r u = let h = other-outcome image _ r u in absurd (cc (h))
only-version (refusal.Damaged place.LogB at) image seven r u = let h = other-outcome image _ r u in absurd (cc (h))
only-version (refusal.Damaged (place.Page page) at) image seven r u = let h = other-outcome image _ r u in absurd (cc (h))
only-version refusal.NoStore image seven r u = let h = other-outcome image _ r u in absurd (cc (h))
only-version (refusal.UnknownVersion byte) image seven r u = let h = other-outcome image (UnknownVersionOutcome byte) r u in cc (h)
only-version (refusal.Unsound id rule) image seven r u = let h = other-outcome image _ r u in absurd (cc (h))
only-version refusal.Memory image seven r u = absurd (omega (arith, seven))
only-version refusal.LogFull image seven r u = absurd (omega (arith, seven))

-- an image that a migration is refused for, but for want of memory or a fault, opens at neither number of slots
closed-both : (e : OpenRefusal) (image : Bytes) → status_of_refusal e ≡ 7 → RefusesBoth image e → DoesNotOpen 14 image × DoesNotOpen 6 image
closed-both e image seven (at_fourteen refuses other) =
    (refused-closed 14 (inr refl) e image seven refuses, λ cells opened. other (only-version e image seven refuses (one_width image cells opened)))
closed-both e image seven (at_six unknown refuses) =
    (refused_laws.refused 14 image _ (inr refl) unknown (λ it. it), refused-closed 6 (inl refl) e image seven refuses)

-- ---- the stores

same-length : (image : Bytes) (a b : List Cell) → Opened 6 image (OpensTo a) → Opened 6 image (OpensTo b) → length a ≡ length b
same-length image a b x y =
    let e : OpensTo a ≡ OpensTo b = one_outcome {slots = 6} (inl refl) image (OpensTo a) (OpensTo b) x y in
    let same : a ≡ b = cc (e) in
    ap length same

same-length-wide : (image : Bytes) (a b : List Cell) → Opened 14 image (OpensTo a) → Opened 14 image (OpensTo b) → length a ≡ length b
same-length-wide image a b x y =
    let e : OpensTo a ≡ OpensTo b = one_outcome {slots = 14} (inr refl) image (OpensTo a) (OpensTo b) x y in
    let same : a ≡ b = cc (e) in
    ap length same

-- null slots change no number of cells
wider-length : (cells : List Cell) (n : ℕ) → length cells ≡ n → length (all_wider 8 cells) ≡ n
wider-length cells n is = length-map cells (wider 8) ∙ is

module _ {D : Type 0} (content : D → Area → Option (List ℕ)) (may_leave : D → Area → List ℕ → Type 0) (moment : D → ℕ) (left_since : D → ℕ → Bytes → Type 0) (disk : D)
    (stay : (d : D) (area : Area) → IfSome (content d area) (may_leave d area)) (tell : Tell content) (ids : ℕ) where
  module _ (now : D) (m : MigratesMeanwhile content may_leave moment left_since disk now) (counts : (d : D) (t : ℕ) (b : Bytes) → t ≤ moment d → IsImage may_leave d b → left_since d t b) where
    -- a store of fourteen slots goes on to open
    migrating-open : AlwaysOpens may_leave ids disk → AlwaysOpens may_leave ids now
    migrating-open opens image is =
        let read = read-image content tell disk in
        let o = opens read.0 (read-left content may_leave stay disk read.0 read.1) in
        let leaves = m.wide o.0 read.0 read.1 o.1 in
        ⊎_elim (λ was. opens image was) (λ same. (o.0, same, o.2)) (leaves.each image (counts now (moment disk) image leaves.later is))

    -- one of six or of fourteen opens at either
    migrating-either : AlwaysOpensAtEither may_leave ids disk → AlwaysOpensAtEither may_leave ids now
    migrating-either opens image is =
        let read = read-image content tell disk in
        let o = opens read.0 (read-left content may_leave stay disk read.0 read.1) in
        ⊎_elim
        (λ six.
        let leaves = m.narrow read.0 o.0 read.1 six in
        ⊎_elim (λ was. opens image was) (λ at. ⊎_elim (λ same. (o.0, inl same, o.2)) (λ made. (all_wider 8 o.0, inr made, wider-length o.0 (ids + 1) o.2)) at)
        (leaves.each image (counts now (moment disk) image leaves.later is)))
        (λ fourteen.
        let leaves = m.wide o.0 read.0 read.1 fourteen in
        ⊎_elim (λ was. opens image was) (λ same. (o.0, inr same, o.2)) (leaves.each image (counts now (moment disk) image leaves.later is)))
        o.1

  -- after a migration it opens at fourteen
  made-wide : (now : D) (pages : ℕ) → AlwaysOpensAtEither may_leave ids disk → ((image : Bytes) → Reads content disk image → IsMigrated may_leave now pages image) → AlwaysOpens may_leave ids now
  made-wide now pages opens so image is =
      let read = read-image content tell disk in
      let o = opens read.0 (read-left content may_leave stay disk read.0 read.1) in
      by read.0 o.0 o.1 o.2 (so read.0 read.1)
    where
      by : (read : Bytes) (found : List Cell) → Opened 6 read (OpensTo found) ⊎ Opened 14 read (OpensTo found) → length found ≡ ids + 1 → IsMigrated may_leave now pages read
          → (cells : List Cell) × Opened 14 image (OpensTo cells) × (length cells ≡ ids + 1)
      by read found (inl six) many (narrow cells count opened each) = (all_wider 8 cells, each image is, wider-length cells (ids + 1) (same-length read cells found opened six ∙ many))
      by read found (inr fourteen) many (narrow cells count opened each) = absurd (not_wide read cells opened found fourteen)
      by read found (inl six) many (wide cells count opened each) = absurd (not_wide read found six cells opened)
      by read found (inr fourteen) many (wide cells count opened each) = (cells, each image is, same-length-wide read cells found opened fourteen ∙ many)

-- ---- what the command answered

module _ {D : Type 0} (content : D → Area → Option (List ℕ)) (may_leave : D → Area → List ℕ → Type 0) (moment : D → ℕ) (left_since : D → ℕ → Bytes → Type 0) (disk : D) (before after : Outside) (status : ℕ) (ended : Ended D)
    (r : Unmigrated content may_leave moment left_since disk before after status ended ⊎ Migrated content may_leave moment left_since disk before after status ended) where
  -- where what the disk reads opens at neither number of slots nothing was migrated
  pub closed-unmigrated : (image : Bytes) → Reads content disk image → DoesNotOpen 14 image → DoesNotOpen 6 image → Unmigrated content may_leave moment left_since disk before after status ended
  closed-unmigrated image reads at14 at6 = ⊎_elim (λ u. u) (λ m. by (m.migrated image reads)) r
    where
      by : {pages : ℕ} → IsMigrated may_leave (disk_in ended) pages image → Unmigrated content may_leave moment left_since disk before after status ended
      by (narrow cells count opened each) = absurd (at6 cells opened)
      by (wide cells count opened each) = absurd (at14 cells opened)

  pub unmigrated-closed : status ≡ 7 → (image : Bytes) → Reads content disk image → DoesNotOpen 14 image × DoesNotOpen 6 image
  unmigrated-closed seven image reads =
      ⊎_elim (λ u. closed-both u.refusal image (sym u.told ∙ seven) (u.refused image reads)) (λ m. ⊎_elim (λ zero. absurd (omega (arith, zero, seven))) (λ five. absurd (omega (arith, five, seven))) m.statuses) r

  meanwhile-of : MigratesMeanwhile content may_leave moment left_since disk (disk_in ended)
  meanwhile-of = ⊎_elim (λ u. u.moments) (λ m. m.moments) r

  module _ (stay : (d : D) (area : Area) → IfSome (content d area) (may_leave d area)) (tell : Tell content) (ids : ℕ) where
    pub goes-on-open : ((d : D) (t : ℕ) (b : Bytes) → t ≤ moment d → IsImage may_leave d b → left_since d t b) → AlwaysOpens may_leave ids disk → AlwaysOpens may_leave ids (disk_in ended)
    goes-on-open counts = migrating-open content may_leave moment left_since disk stay tell ids (disk_in ended) meanwhile-of counts

    pub goes-on-either : ((d : D) (t : ℕ) (b : Bytes) → t ≤ moment d → IsImage may_leave d b → left_since d t b) → AlwaysOpensAtEither may_leave ids disk → AlwaysOpensAtEither may_leave ids (disk_in ended)
    goes-on-either counts = migrating-either content may_leave moment left_since disk stay tell ids (disk_in ended) meanwhile-of counts

    pub migrated-open : AlwaysOpensAtEither may_leave ids disk → (status ≡ 0) ⊎ (status ≡ 5) → AlwaysOpens may_leave ids (disk_in ended)
    migrated-open opens done =
        ⊎_elim (λ u. absurd (refused-otherwise u.refusal (⊎_elim (λ zero. inl (sym u.told ∙ zero)) (λ five. inr (sym u.told ∙ five)) done)))
        (λ m. made-wide content may_leave moment left_since disk stay tell ids (disk_in ended) m.pages opens m.migrated) r
      where
        refused-otherwise : (e : OpenRefusal) → (status_of_refusal e ≡ 0) ⊎ (status_of_refusal e ≡ 5) → ⊥
        refused-otherwise refusal.Disk is = ⊎_elim (λ h. omega (arith, h)) (λ h. omega (arith, h)) is
        refused-otherwise (refusal.Damaged p at) is = ⊎_elim (λ h. omega (arith, h)) (λ h. omega (arith, h)) is
        refused-otherwise refusal.NoStore is = ⊎_elim (λ h. omega (arith, h)) (λ h. omega (arith, h)) is
        refused-otherwise (refusal.UnknownVersion byte) is = ⊎_elim (λ h. omega (arith, h)) (λ h. omega (arith, h)) is
        refused-otherwise (refusal.Unsound id rule) is = ⊎_elim (λ h. omega (arith, h)) (λ h. omega (arith, h)) is
        refused-otherwise refusal.Memory is = ⊎_elim (λ h. omega (arith, h)) (λ h. omega (arith, h)) is
        refused-otherwise refusal.LogFull is = ⊎_elim (λ h. omega (arith, h)) (λ h. omega (arith, h)) is

    -- where the store opens and no call of the sink or the disk failed, it was migrated, or memory is out, or the log full
    pub migration-done : AlwaysOpensAtEither may_leave ids disk → ¬ Rose before.write_faults after.write_faults → ¬ Rose before.disk_faults after.disk_faults → IsDoneOrFull status
    migration-done opens writes faults =
        ⊎_elim (λ u. by u u.refusal refl) (λ m. ⊎_elim (λ zero. inl zero) (λ five. absurd (writes (m.write five).0)) m.statuses) r
      where
        seven-not : status ≡ 7 → IsDoneOrFull status
        seven-not seven =
            let read = read-image content tell disk in
            let o = opens read.0 (read-left content may_leave stay disk read.0 read.1) in
            let closed = unmigrated-closed seven read.0 read.1 in
            ⊎_elim (λ six. absurd (closed.1 o.0 six)) (λ fourteen. absurd (closed.0 o.0 fourteen)) o.1

        by : (u : Unmigrated content may_leave moment left_since disk before after status ended) (e : OpenRefusal) → u.refusal ≡ e → IsDoneOrFull status
        by u refusal.Disk e = absurd (faults (u.failed (u.told ∙ ap status_of_refusal e)))
        by u (refusal.Damaged p at) e = seven-not (u.told ∙ ap status_of_refusal e)
        by u refusal.NoStore e = seven-not (u.told ∙ ap status_of_refusal e)
        by u (refusal.UnknownVersion byte) e = seven-not (u.told ∙ ap status_of_refusal e)
        by u (refusal.Unsound id rule) e = seven-not (u.told ∙ ap status_of_refusal e)
        by u refusal.Memory e = inr (inl (u.told ∙ ap status_of_refusal e))
        by u refusal.LogFull e = inr (inr (u.told ∙ ap status_of_refusal e))
