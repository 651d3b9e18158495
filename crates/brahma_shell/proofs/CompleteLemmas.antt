-- Which stores open after a command, and that what can be done is done.
use Rattle.std.proofs.Common.{◌≡◌, ⊎_elim, inl, inr, ◌≤◌, ◌+◌, ◌-◌, ◌*◌, ℕ, suc, false, List, length, Option, Some, None, refl, sym, ap, subst, ◌∙◌, arith}
use Rattle.std.specs.Prelude.{IfSome}
use Rattle.std.proofs.lemmas.List.{length-replicate}
use Rattle.cell_model.specs.Cells.{Cell, blank_cell}
use Rattle.store_model.specs.Fresh.{fresh_cells}
use Rattle.disk_model.specs.declared.area.Area.{Area}
use Rattle.disk_model.specs.Areas.{Bytes, in_area}
use Rattle.disk_model.specs.Causes.{Rose}
use Rattle.disk_model.specs.Told.{IsImage, EachImage}
use Rattle.opened_images.specs.Opened.{Opened, OpensTo}
use Rattle.opened_images.proofs.OneOutcome.{one_outcome}
use Rattle.opened_store.specs.Unopened.{DoesNotOpen}
use Rattle.opened_store.proofs.RefusedLaws as refused_laws
use Rattle.cell_page.specs.Format.{IsSlotCount}
use Rattle.store_migration.proofs.Widths.{not_wide}
use Rattle.store_opening.specs.declared.open_refusal.OpenRefusal.{OpenRefusal}
use Rattle.store_opening.specs.declared.open_refusal.OpenRefusal.TheVariants as refusal
use Rattle.store_opening.specs.declared.open_refusal.Place.TheVariants as place
use Rattle.store_opening.specs.Store.{Reads, Refuses}
use Rattle.journal_opening.specs.Openings.{ReadsAs}
use Rattle.journal_opening.specs.Making.{OpensToRoot}
use Rattle.logged_journal.specs.View.{LoggedView}
use Rattle.brahma_shell.specs.declared.ended.Ended.{Ended}
use Rattle.brahma_shell.specs.declared.ended.Ended.TheVariants.{Kept}
use Rattle.call_generator.specs.declared.options.Asked.{Asked}
use Rattle.brahma_shell.specs.Ended.{disk_in}
use Rattle.brahma_shell.specs.ClientLines.{HasOnlyClients}
use Rattle.brahma_shell.specs.Ran.{Ran}
use Rattle.brahma_shell.specs.Migrated.{AlwaysOpensAtEither}
use Rattle.brahma_shell.specs.ParAudited.{ParAudited}
use Rattle.brahma_shell.specs.Top.{Tell, AlwaysOpens, HasOnlyLines, IsDoneOrFull, Outside, Unopened, Replayed, Audited, Generated, status_of_refusal}
use Rattle.brahma_shell.proofs.CrashLemmas.{read-image}
use Rattle.brahma_shell.proofs.RunLemmas.{run-ids, history-size}
use Rattle.script_lines.specs.Numbers.{object_slots}
use Rattle.brahma_shell.proofs.SlotLemmas.{known-slots}

same-cells : (a b : List Cell) → OpensTo a ≡ OpensTo b → a ≡ b
same-cells a b e = cc (e)

-- ---- what is read

-- of two outcomes of an image that are cells both are the same
pub same-outcome : (image : Bytes) (a b : List Cell) → Opened object_slots image (OpensTo a) → Opened object_slots image (OpensTo b) → a ≡ b
same-outcome image a b x y = same-cells a b (one_outcome known-slots image (OpensTo a) (OpensTo b) x y)

-- an image that a store is refused for, but for want of memory or a fault, does not open
pub refused-closed : (slots : ℕ) → IsSlotCount slots → (e : OpenRefusal) (image : Bytes) → status_of_refusal e ≡ 7 → Refuses slots image e → DoesNotOpen slots image
refused-closed slots known refusal.Disk image seven r = absurd (omega (arith, seven))
refused-closed slots known (refusal.Damaged place.LogA at) image seven r = refused_laws.refused slots image _ known r (λ it. it)
refused-closed slots known (refusal.Damaged place.LogB at) image seven r = refused_laws.refused slots image _ known r (λ it. it)
refused-closed slots known (refusal.Damaged (place.Page page) at) image seven r = refused_laws.refused slots image _ known r (λ it. it)
refused-closed slots known refusal.NoStore image seven r = refused_laws.refused slots image _ known r (λ it. it)
refused-closed slots known (refusal.UnknownVersion byte) image seven r = refused_laws.refused slots image _ known r (λ it. it)
refused-closed slots known (refusal.Unsound id rule) image seven r = refused_laws.refused slots image _ known r (λ it. it)
refused-closed slots known refusal.Memory image seven r = absurd (omega (arith, seven))
refused-closed slots known refusal.LogFull image seven r = absurd (omega (arith, seven))

-- a store that opens at fourteen slots opens at either number
pub at-either : {D : Type 0} (may_leave : D → Area → List ℕ → Type 0) (ids : ℕ) (disk : D) → AlwaysOpens may_leave ids disk → AlwaysOpensAtEither may_leave ids disk
at-either may_leave ids disk opens image is = let o = opens image is in (o.0, inr o.1, o.2)

module _ {D : Type 0} (content : D → Area → Option (List ℕ)) (may_leave : D → Area → List ℕ → Type 0) (stay : (disk : D) (area : Area) → IfSome (content disk area) (may_leave disk area)) where
  stays : (o : Option (List ℕ)) (c : List ℕ) (P : List ℕ → Type 0) → o ≡ Some c → IfSome o P → P c
  stays None c P e h = absurd (cc (e))
  stays (Some b) c P e h = subst P (cc (e)) h

  -- what the disk reads is one of its images
  pub read-left : (disk : D) (image : Bytes) → Reads content disk image → IsImage may_leave disk image
  read-left disk image reads area = stays (content disk area) (in_area image area) (may_leave disk area) (reads area) (stay disk area)

  module _ (ids : ℕ) (disk : D) (opens : AlwaysOpensAtEither may_leave ids disk) where
    -- a store that was opened has as many cells as its images
    pub cells-read : Tell content → (cells : List Cell) → ReadsAs content object_slots disk cells → length cells ≡ ids + 1
    cells-read tell cells holds =
        let read = read-image content tell disk in
        let o = opens read.0 (read-left disk read.0 read.1) in
        ⊎_elim (λ narrow. absurd (not_wide read.0 o.0 narrow cells (holds read.0 read.1)))
        (λ wide. subst (λ (cs : List Cell). length cs ≡ ids + 1) (same-outcome read.0 o.0 cells wide (holds read.0 read.1)) o.2) o.1

  -- it isn't refused for what it reads
  pub never-closed : (ids : ℕ) (disk : D) → AlwaysOpens may_leave ids disk → Tell content → ((image : Bytes) → Reads content disk image → DoesNotOpen object_slots image) → ⊥
  never-closed ids disk opens tell closed =
      let read = read-image content tell disk in
      let o = opens read.0 (read-left disk read.0 read.1) in
      closed read.0 read.1 o.0 o.1

-- ---- a store is made

fresh-length : (pages : ℕ) → 1 ≤ pages → length (fresh_cells object_slots (8 * pages - 1)) ≡ 8 * pages + 1
fresh-length pages some =
    let many : length (fresh_cells object_slots (8 * pages - 1)) ≡ suc (suc (8 * pages - 1)) = ap (λ (n : ℕ). suc (suc n)) (length-replicate (8 * pages - 1) (blank_cell false object_slots)) in
    omega (arith, many, some)

pub made-open : {D : Type 0} (may_leave : D → Area → List ℕ → Type 0) (disk : D) (pages : ℕ) → 1 ≤ pages → EachImage may_leave disk (OpensToRoot object_slots pages) → AlwaysOpens may_leave (8 * pages) disk
made-open may_leave disk pages some opens image is = (fresh_cells object_slots (8 * pages - 1), opens image is, fresh-length pages some)

-- ---- a store isn't opened

module _ {D : Type 0} (content : D → Area → Option (List ℕ)) (may_leave : D → Area → List ℕ → Type 0) (moment : D → ℕ) (left_since : D → ℕ → Bytes → Type 0) (disk : D) (before after : Outside) (status : ℕ) (ended : Ended D)
    (u : Unopened content may_leave moment left_since disk before after status ended) where
  -- its images go on to open
  pub unopened-open : ((d : D) (area : Area) → IfSome (content d area) (may_leave d area)) → ((d : D) (t : ℕ) (b : Bytes) → t ≤ moment d → IsImage may_leave d b → left_since d t b)
      → Tell content → (ids : ℕ) → AlwaysOpens may_leave ids disk → AlwaysOpens may_leave ids (disk_in ended)
  unopened-open stay counts tell ids opens image is =
      let read = read-image content tell disk in
      let o = opens read.0 (read-left content may_leave stay disk read.0 read.1) in
      let leaves = u.moments o.0 read.0 read.1 o.1 in
      ⊎_elim (λ was. opens image was) (λ same. (o.0, same, o.2)) (leaves.each image (counts (disk_in ended) (moment disk) image leaves.later is))

  -- a store of six slots is only looked at
  pub unopened-either : ((d : D) (area : Area) → IfSome (content d area) (may_leave d area)) → ((d : D) (t : ℕ) (b : Bytes) → t ≤ moment d → IsImage may_leave d b → left_since d t b)
      → Tell content → (ids : ℕ) → AlwaysOpensAtEither may_leave ids disk → AlwaysOpensAtEither may_leave ids (disk_in ended)
  unopened-either stay counts tell ids opens image is =
      let read = read-image content tell disk in
      let o = opens read.0 (read-left content may_leave stay disk read.0 read.1) in
      ⊎_elim
      (λ narrow.
      let looked = u.refused.only_looks read.0 read.1 (not_wide read.0 o.0 narrow) in
      opens image (λ area. (looked.keeps area).no_more (in_area image area) (is area)))
      (λ wide.
      let leaves = u.moments o.0 read.0 read.1 wide in
      ⊎_elim (λ was. opens image was) (λ same. (o.0, inr same, o.2)) (leaves.each image (counts (disk_in ended) (moment disk) image leaves.later is)))
      o.1

  -- it is refused only where what the disk reads does not open
  pub unopened-closed : status ≡ 7 → (image : Bytes) → Reads content disk image → DoesNotOpen object_slots image
  unopened-closed seven image reads = refused-closed object_slots known-slots u.refusal image (sym u.told ∙ seven) (u.refused.refused image reads)

  -- where the store opens and no call of the disk failed, memory is out
  pub unopened-memory : ((d : D) (area : Area) → IfSome (content d area) (may_leave d area)) → Tell content → (ids : ℕ) → AlwaysOpens may_leave ids disk → ¬ Rose before.disk_faults after.disk_faults → IsDoneOrFull status
  unopened-memory stay tell ids opens none =
      cases u.refusal refl
    where
      six : status ≡ 6 → IsDoneOrFull status
      six e = absurd (none (u.failed e))

      seven : status ≡ 7 → IsDoneOrFull status
      seven e = absurd (never-closed content may_leave stay ids disk opens tell (unopened-closed e))

      cases : (e : OpenRefusal) → u.refusal ≡ e → IsDoneOrFull status
      cases refusal.Disk e = six (u.told ∙ ap status_of_refusal e)
      cases (refusal.Damaged p at) e = seven (u.told ∙ ap status_of_refusal e)
      cases refusal.NoStore e = seven (u.told ∙ ap status_of_refusal e)
      cases (refusal.UnknownVersion byte) e = seven (u.told ∙ ap status_of_refusal e)
      cases (refusal.Unsound id rule) e = seven (u.told ∙ ap status_of_refusal e)
      cases refusal.Memory e = inr (inl (u.told ∙ ap status_of_refusal e))
      cases refusal.LogFull e = inr (inr (u.told ∙ ap status_of_refusal e))

-- ---- a replay

module _ {S D : Type 0} (content : D → Area → Option (List ℕ)) (may_leave : D → Area → List ℕ → Type 0) (script later : S) (disk : D) (before after : Outside) (status : ℕ) (ended : Ended D)
    (r : Replayed content may_leave script later disk before after status ended) (stay : (d : D) (area : Area) → IfSome (content d area) (may_leave d area)) (tell : Tell content) (ids : ℕ) (opens : AlwaysOpensAtEither may_leave ids disk) where
  run-size : r.run.ids ≡ ids
  run-size =
      let many = cells-read content may_leave stay ids disk opens tell r.run.opening r.opened in
      omega (arith, r.size, many)

  pub replayed-open : AlwaysOpens may_leave ids (disk_in ended)
  replayed-open image is =
      let o = r.exit tell image is in
      (o.cells, o.opened, subst (λ n. length o.cells ≡ n + 1) (run-ids r.run ∙ run-size) o.size)

  pub replayed-done : HasOnlyLines ids before.left → ¬ Rose before.read_faults after.read_faults → ¬ Rose before.write_faults after.write_faults → ¬ Rose before.disk_faults after.disk_faults → IsDoneOrFull status
  replayed-done only reads writes faults =
      ⊎_elim (λ done. done) (λ seven. absurd (r.only_untold seven tell))
      (r.complete (subst (λ n. HasOnlyLines n before.left) (sym (r.same_ids tell ∙ run-size)) only) reads writes faults)

-- ---- an audit

module _ {D : Type 0} (content : D → Area → Option (List ℕ)) (may_leave : D → Area → List ℕ → Type 0) (disk : D) (before after : Outside) (status : ℕ) (ended : Ended D)
    (a : Audited content may_leave disk before after status ended) where
  pub audited-open : ((d : D) (area : Area) → IfSome (content d area) (may_leave d area)) → Tell content → (ids : ℕ) → AlwaysOpensAtEither may_leave ids disk → AlwaysOpens may_leave ids (disk_in ended)
  audited-open stay tell ids opens image is =
      let o = a.exit image is in
      let many = cells-read content may_leave stay ids disk opens tell a.cells a.opened in
      (o.cells, o.opened, omega (arith, o.size, a.size, many))

  pub audited-done : ¬ Rose before.write_faults after.write_faults → IsDoneOrFull status
  audited-done writes = ⊎_elim (λ zero. inl zero) (λ h. ⊎_elim (λ five. absurd (writes (a.write five).0)) (λ eight. inr (inl eight)) h) a.statuses

-- ---- a parallel audit

module _ {D : Type 0} (content : D → Area → Option (List ℕ)) (may_leave : D → Area → List ℕ → Type 0) (disk : D) (before after : Outside) (status : ℕ) (ended : Ended D)
    (a : ParAudited content may_leave disk before after status ended) where
  pub par_audited-open : ((d : D) (area : Area) → IfSome (content d area) (may_leave d area)) → Tell content → (ids : ℕ) → AlwaysOpensAtEither may_leave ids disk → AlwaysOpens may_leave ids (disk_in ended)
  par_audited-open stay tell ids opens image is =
      let o = a.exit image is in
      let many = cells-read content may_leave stay ids disk opens tell a.cells a.opened in
      (o.cells, o.opened, omega (arith, o.size, a.size, many))

  pub par_audited-done : ¬ Rose before.write_faults after.write_faults → IsDoneOrFull status
  par_audited-done writes = ⊎_elim (λ zero. inl zero) (λ h. ⊎_elim (λ five. absurd (writes (a.write five).2)) (λ eight. inr (inl eight)) h) a.statuses

-- ---- generated calls

module _ {D : Type 0} (content : D → Area → Option (List ℕ)) (may_leave : D → Area → List ℕ → Type 0) (asked : Asked) (disk : D) (before after : Outside) (status : ℕ) (v : LoggedView D)
    (g : Generated content may_leave asked disk before after status v) where
  pub generated-open : (ended : Ended D) → ended ≡ Kept v → ((d : D) (area : Area) → IfSome (content d area) (may_leave d area)) → Tell content → (ids : ℕ) → AlwaysOpensAtEither may_leave ids disk → AlwaysOpens may_leave ids (disk_in ended)
  generated-open ended kept stay tell ids opens image is =
      let o = g.journal.opens image (subst (λ (e : Ended D). IsImage may_leave (disk_in e) image) kept is) in
      let many = cells-read content may_leave stay ids disk opens tell v.journal.opening g.opened in
      (o.cells, o.opened, omega (arith, o.size, history-size v, g.size, many))

  pub generated-done : ¬ Rose before.write_faults after.write_faults → ¬ Rose before.disk_faults after.disk_faults → IsDoneOrFull status
  generated-done writes faults = g.complete writes faults

-- ---- a run of clients

module _ {D : Type 0} (content : D → Area → Option (List ℕ)) (may_leave : D → Area → List ℕ → Type 0) (disk : D) (before after : Outside) (status : ℕ) (v : LoggedView D)
    (r : Ran content may_leave disk before after status v) (stay : (d : D) (area : Area) → IfSome (content d area) (may_leave d area)) (tell : Tell content) (ids : ℕ) (opens : AlwaysOpensAtEither may_leave ids disk) where
  pub ran-open : (ended : Ended D) → ended ≡ Kept v → AlwaysOpens may_leave ids (disk_in ended)
  ran-open ended kept image is =
      let o = r.journal.opens image (subst (λ (e : Ended D). IsImage may_leave (disk_in e) image) kept is) in
      let many = cells-read content may_leave stay ids disk opens tell v.journal.opening r.opened in
      (o.cells, o.opened, omega (arith, o.size, history-size v, r.size, many))

  pub ran-done : HasOnlyClients ids before.left → ¬ Rose before.read_faults after.read_faults → ¬ Rose before.write_faults after.write_faults → ¬ Rose before.disk_faults after.disk_faults → IsDoneOrFull status
  ran-done only reads writes faults =
      let many = cells-read content may_leave stay ids disk opens tell v.journal.opening r.opened in
      let same : ids ≡ v.journal.history.ids = omega (arith, r.size, many) in
      r.complete (subst (λ n. HasOnlyClients n before.left) same only) reads writes faults
