-- A store as far as its log and its pages in place tell.
use Rattle.std.proofs.Common.{◌≡◌, ℕ, ◌+◌, ◌*◌, ◌<◌, ◌≤◌, Bool, true, false, List, [], ◌∷◌, length, Option, Some, inl, inr, ⊎_elim, refl, sym, subst, ◌∙◌, arith}
use Rattle.std.specs.Prelude.{IfSome, slice_index, slice_index_or, nat_le, ◌&&◌, ◌||◌, ◌==◌}
use Rattle.std.proofs.lemmas.Bool.{cases_eq, cases_lt, eq-eqb, ne_eqb, le-leb, lt-leb}
use Rattle.disk_model.specs.declared.area.Area.{Area}
use Rattle.disk_model.specs.declared.area.Area.TheVariants.{Pages, LogA, LogB, Super}
use Rattle.disk_model.specs.Areas.{Bytes, in_area}
use Rattle.disk_model.specs.Told.{KeepsAll, IsSettled}
use Rattle.cell_page.specs.declared.cell.Cell.{Cell}
use Rattle.cell_page.specs.Format.{IsSlotCount}
use Rattle.gate_log.specs.State.{LogState, IsLogArea, log_at}
use Rattle.gate_log.specs.OnDisk.{named_by, IsRead, IsOn}
use Rattle.log_record.specs.declared.record.Record.{Record}
use Rattle.log_record.specs.declared.record.Record.TheVariants.{OfCells, Image, Turn}
use Rattle.restart_laws.specs.Local.{is_in_page, has_image}
use Rattle.opened_images.specs.LogRecords.{body_of, bodies_of, all_of, first_records, IsOfVersion, IsRecordLog, IsDamagedLog}
use Rattle.opened_images.specs.Replayed.{items_of, IsDamagedPage}
use Rattle.opened_images.specs.Opened.{Opened, damaged_log, unknown_version, damaged_page, IsLogRead, DamagedLog, DamagedPage}
use Rattle.store_opening.specs.declared.refusal.ReadRefusal.{ReadRefusal}
use Rattle.store_opening.specs.declared.refusal.ReadRefusal.TheVariants.{Disk, Damaged, UnknownVersion, Memory}
use Rattle.store_opening.specs.declared.pages.PagesRefusal.{PagesRefusal}
use Rattle.store_opening.specs.declared.pages.PagesRefusal.TheVariants.{Disk as PagesDisk, Damaged as PagesDamaged, Memory as PagesMemory}
use Rattle.store_opening.specs.Walks.{one_if, count_images}
use Rattle.store_opening.specs.Loaded.{AreLoaded, IsFirstDamaged}
use Rattle.store_opening.specs.Store.{Refuses, refusal_of_log, refusal_of_pages, IsStoreRead}
use Rattle.store_opening.specs.Found.{HasFound}
use Rattle.store_opening.proofs.PageLaws.{loaded_whole}

-- ---- the reading of the log begins

module _ {D : Type 0} (content : D → Area → Option (List ℕ)) (may_leave : D → Area → List ℕ → Type 0) where
  still_settled : (before now : D) (area : Area) → KeepsAll content may_leave before now → IsSettled content may_leave before area → IsSettled content may_leave now area
  still_settled before now area keeps settled c may = (keeps area).same ∙ settled c ((keeps area).no_more c may)

  pub starts_read : (before now : D) (area : Area) → KeepsAll content may_leave before now → ((other : Area) → IsSettled content may_leave before other) → IsLogArea area
      → IfSome (content before Super) (λ bytes. Some area ≡ named_by bytes) → IsRead content may_leave (log_at area) now []
  starts_read before now area keeps settled is_log named =
      record {
        area = is_log;
        settled = still_settled before now area keeps (settled area);
        named = λ c may.
            let here = (keeps Super).no_more c may in
            sym (subst (λ (o : Option (List ℕ)). IfSome o (λ bytes. Some area ≡ named_by bytes)) (settled Super c here) named);
        begins = λ c may. record { bodies = tt; rest = c; are = refl };
        commit_byte = refl;
      }

-- ---- images of a page

both_true : (a b : Bool) → a ≡ true → b ≡ true → (a && b) ≡ true
both_true a b e f = cc

one_false : (a b : Bool) → a ≡ false → (a && b) ≡ false
one_false a b e = cc

other_false : (a b : Bool) → b ≡ false → (a && b) ≡ false
other_false true b e = e
other_false false b e = refl

-- the first id of a page is in that page alone
first_in_page : (q p : ℕ) → is_in_page q (8 * p + 1) ≡ (q == p)
first_in_page q p = elim (cases_eq q p) [
  | inl same ↦
      both_true (nat_le (8 * q + 1) (8 * p + 1)) (nat_le (8 * p + 1) (8 * q + 8)) (le-leb (8 * q + 1) (8 * p + 1) (omega (arith, same))) (le-leb (8 * p + 1) (8 * q + 8) (omega (arith, same)))
      ∙ sym (eq-eqb q p same)
  | inr apart ↦
      ⊎_elim
      (λ low. other_false (nat_le (8 * q + 1) (8 * p + 1)) (nat_le (8 * p + 1) (8 * q + 8)) (lt-leb (8 * p + 1) (8 * q + 8) (omega (arith, low))) ∙ sym (ne_eqb q p apart))
      (λ over.
      one_false (nat_le (8 * q + 1) (8 * p + 1)) (nat_le (8 * p + 1) (8 * q + 8)) (lt-leb (8 * q + 1) (8 * p + 1) (let below : p < q = omega (arith, over, ne_lt q p apart over) in omega (arith, below)))
      ∙ sym (ne_eqb q p apart))
      (cases_lt q p)
]
  where
    ne_lt : (q p : ℕ) → (q ≡ p → ⊥) → p ≤ q → p < q
    ne_lt q p apart over = ⊎_elim (λ below. below) (λ under. absurd (apart (omega (arith, over, under)))) (cases_lt p q)

no_image_counted : {slots : ℕ} (page : ℕ) (rs : List (Record slots)) → has_image (8 * page + 1) (items_of rs) ≡ false → count_images page rs ≡ 0
no_image_counted page [] none = refl
no_image_counted page (OfCells r ∷ rs) none = no_image_counted page rs none
no_image_counted page (Turn version count ∷ rs) none = no_image_counted page rs none
no_image_counted page (Image q cells ∷ rs) none =
    counted (is_in_page q (8 * page + 1)) (has_image (8 * page + 1) (items_of rs)) (q == page) (first_in_page q page) none (no_image_counted page rs)
  where
    counted : (a b t : Bool) → a ≡ t → (a || b) ≡ false → (b ≡ false → count_images page rs ≡ 0) → one_if t + count_images page rs ≡ 0
    counted true b t same none later = absurd (cc none)
    counted false b true same none later = absurd (cc same)
    counted false b false same none later = omega (arith, later none)

none_counted : {slots : ℕ} (page : ℕ) (rs : List (Record slots)) → count_images page rs ≡ 0 → has_image (8 * page + 1) (items_of rs) ≡ false
none_counted page [] none = refl
none_counted page (OfCells r ∷ rs) none = none_counted page rs none
none_counted page (Turn version count ∷ rs) none = none_counted page rs none
none_counted page (Image q cells ∷ rs) none =
    counted (is_in_page q (8 * page + 1)) (has_image (8 * page + 1) (items_of rs)) (q == page) (first_in_page q page) none (none_counted page rs)
  where
    counted : (a b t : Bool) → a ≡ t → one_if t + count_images page rs ≡ 0 → (count_images page rs ≡ 0 → b ≡ false) → (a || b) ≡ false
    counted a b true same none later = absurd (omega (arith, none))
    counted true b false same none later = absurd (cc same)
    counted false b false same none later = later (omega (arith, none))

-- ---- the pages in place

-- each page without an image is whole
pub pages_whole : {slots : ℕ} → IsSlotCount slots → (count : ℕ) (area images : List ℕ) (pages : List (List (Cell slots))) (rs : List (Record slots))
    → ((page : ℕ) → page < count → slice_index images page ≡ count_images page rs) → AreLoaded slots images count area pages
    → (page at : ℕ) → page < count → IsDamagedPage area rs page at → ⊥
pages_whole {slots} known count area images pages rs counts loaded page at low damaged =
    loaded_whole slots page at area (slice_index_or pages page []) known (loaded page low (counts page low ∙ no_image_counted page rs damaged.no_image)) damaged.fails

-- the first that isn't is what the image opens to
pub opens_damaged : {slots : ℕ} (image : Bytes) (area : Area) (count : ℕ) (batches : List (List (Record slots))) (images : List ℕ) (page at : ℕ) → IsLogRead image area count batches
    → length images ≡ count → ((page : ℕ) → page < count → slice_index images page ≡ count_images page (all_of batches)) → IsFirstDamaged slots images page at image.pages
    → Opened slots image (DamagedPage page at)
opens_damaged {slots} image area count batches images page at read number counts first =
    let inside : page < count = omega (arith, first.inside, number) in
    damaged_page area count batches page at read inside
    (record { no_image = none_counted page (all_of batches) (sym (counts page inside) ∙ first.none); fails = first.here })
    (λ lower place low damaged.
    first.lower lower place low (counts lower (omega (arith, low, inside)) ∙ no_image_counted lower (all_of batches) damaged.no_image) damaged.fails)

-- ---- refusals

pub refuses_log : (slots : ℕ) (image : Bytes) (area : Area) (r : ReadRefusal) → IsLogArea area → Some area ≡ named_by image.super_area
    → ((byte : ℕ) → r ≡ UnknownVersion byte → IsOfVersion slots byte (in_area image area)) → ((at : ℕ) → r ≡ Damaged at → IsDamagedLog slots (in_area image area) at)
    → Refuses slots image (refusal_of_log area r)
refuses_log slots image LogA Disk is named version damaged = tt
refuses_log slots image LogA Memory is named version damaged = tt
refuses_log slots image LogA (UnknownVersion byte) is named version damaged = unknown_version LogA byte (sym named) (version byte refl)
refuses_log slots image LogA (Damaged at) is named version damaged = damaged_log LogA at (sym named) (damaged at refl)
refuses_log slots image LogB Disk is named version damaged = tt
refuses_log slots image LogB Memory is named version damaged = tt
refuses_log slots image LogB (UnknownVersion byte) is named version damaged = unknown_version LogB byte (sym named) (version byte refl)
refuses_log slots image LogB (Damaged at) is named version damaged = damaged_log LogB at (sym named) (damaged at refl)
refuses_log slots image Pages r is named version damaged = absurd is
refuses_log slots image Super r is named version damaged = absurd is

pub refuses_replay : (slots : ℕ) (image : Bytes) (area : Area) (r : ReadRefusal) → IsLogArea area → named_by image.super_area ≡ Some area
    → ((byte : ℕ) → r ≡ UnknownVersion byte → IsOfVersion slots byte (in_area image area)) → ((at : ℕ) → r ≡ Damaged at → Opened slots image (DamagedLog area at))
    → Refuses slots image (refusal_of_log area r)
refuses_replay slots image LogA Disk is named version damaged = tt
refuses_replay slots image LogA Memory is named version damaged = tt
refuses_replay slots image LogA (UnknownVersion byte) is named version damaged = unknown_version LogA byte named (version byte refl)
refuses_replay slots image LogA (Damaged at) is named version damaged = damaged at refl
refuses_replay slots image LogB Disk is named version damaged = tt
refuses_replay slots image LogB Memory is named version damaged = tt
refuses_replay slots image LogB (UnknownVersion byte) is named version damaged = unknown_version LogB byte named (version byte refl)
refuses_replay slots image LogB (Damaged at) is named version damaged = damaged at refl
refuses_replay slots image Pages r is named version damaged = absurd is
refuses_replay slots image Super r is named version damaged = absurd is

pub refuses_pages : (slots : ℕ) (image : Bytes) (r : PagesRefusal) → ((page at : ℕ) → r ≡ PagesDamaged page at → Opened slots image (DamagedPage page at)) → Refuses slots image (refusal_of_pages r)
refuses_pages slots image PagesDisk damaged = tt
refuses_pages slots image PagesMemory damaged = tt
refuses_pages slots image (PagesDamaged page at) damaged = damaged page at refl

-- ---- what is told

-- of an area that is told to read so, the fact is a fact of these bytes
pub told_of : (o : Option (List ℕ)) (bytes : List ℕ) (P : List ℕ → Type 0) → o ≡ Some bytes → IfSome o P → P bytes
told_of o bytes P is has = subst (λ (x : Option (List ℕ)). IfSome x P) is has

-- ---- what was found

module _ {D : Type 0} (content : D → Area → Option (List ℕ)) (may_leave : D → Area → List ℕ → Type 0) where
  -- the log that was found is that of the image
  pub log_told : (slots count : ℕ) (images : List ℕ) (log : LogState) (disk : D) (image : Bytes) → (found : HasFound content may_leave slots count images log disk)
      → content disk log.area ≡ Some (in_area image log.area) → named_by image.super_area ≡ Some log.area → IsLogRead image log.area count found.batches
  log_told slots count images log disk image found same named =
      record { named = named; log = told_of (content disk log.area) (in_area image log.area) (IsRecordLog count found.batches) same found.whole }

  pub counts_told : (slots count : ℕ) (images : List ℕ) (log : LogState) (disk : D) (image : Bytes) → (found : HasFound content may_leave slots count images log disk)
      → content disk log.area ≡ Some (in_area image log.area) → (page : ℕ) → page < count → slice_index images page ≡ count_images page (all_of found.batches)
  counts_told slots count images log disk image found same =
      told_of (content disk log.area) (in_area image log.area) (λ _. (page : ℕ) → page < count → slice_index images page ≡ count_images page (all_of found.batches)) same found.counts

  -- the log stands on the disk as before where nothing changed
  on_still : (log : LogState) (before now : D) (batches : List (List ℕ)) → KeepsAll content may_leave before now → IsOn may_leave log before batches → IsOn may_leave log now batches
  on_still log before now batches keeps is =
      record {
        area = is.area;
        named = λ c may. is.named c ((keeps Super).no_more c may);
        logs = λ c may. is.logs c ((keeps log.area).no_more c may);
        commit_byte = is.commit_byte;
      }

  -- all that was read
  pub store_read : (slots count : ℕ) (images : List ℕ) (log : LogState) (disk now : D) (image : Bytes) (pages : List (List (Cell slots))) → IsSlotCount slots
      → HasFound content may_leave slots count images log disk → content disk log.area ≡ Some (in_area image log.area) → named_by image.super_area ≡ Some log.area
      → KeepsAll content may_leave disk now → AreLoaded slots images count image.pages pages → IsStoreRead may_leave slots image pages images log now
  store_read slots count images log disk now image pages known found same named keeps loaded =
      let counts = counts_told slots count images log disk image found same in
      record {
        ready = record {
          count = count;
          batches = found.batches;
          read = record {
            read = log_told slots count images log disk image found same named;
            whole = pages_whole known count image.pages images pages (all_of found.batches) counts loaded;
          };
          number = found.number;
          counts = counts;
          loaded = loaded;
        };
        is_on = on_still log disk now (body_of (first_records slots count) ∷ bodies_of found.batches) keeps found.is_on;
      }
