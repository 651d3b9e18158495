-- A disk with the images of `CrashImages`: one area changes, the others stay, and time goes on.
use Rattle.std.proofs.Common.{◌≡◌, ◌≢◌, ℕ, ◌≤◌, List, [], ◌∷◌, Bool, true, false, cond, refl, sym, ◌∙◌, ap, subst, arith, inl, inr, ⊎_elim, length, Some}
use Rattle.disk_model.specs.declared.area.Area.{Area}
use Rattle.disk_model.specs.Areas.{Bytes, in_area, is_same}
use Rattle.disk_model.specs.Changes.{Torn, PartlyCut}
use Rattle.disk_model.specs.Pending.{Change, Wrote, CutTo}
use Rattle.disk_model.specs.Told.{Keeps}
use Rattle.disk_model.specs.Time.{Elapses}
use Rattle.disk_model.specs.CrashImages.{PlainArea, IsCrashImage}
use Rattle.disk_model.specs.PlainDisk.{PlainDisk, ReadsImages, WereCrashImages, plain_content, plain_may_leave, plain_moment, plain_left_since, with_plain_area, at_next, area_after, lasting, plain_after, plain_after_sync}
use Rattle.disk_model.specs.PlainLaws.{StepsAsPromised, plain-write, plain-cut, plain-sync, plain-look, plain-loss, plain-only_now}
use Rattle.disk_model.proofs.Areas.{same_is, is_itself}
use Rattle.disk_model.proofs.CrashImages.{write_follows, cut_follows, write_reads, cut_reads, lasting_image, lasting_only}
use Rattle.disk_model.proofs.Images.{apart_false}

-- ---- one area in the place of another
here : (areas : Area → PlainArea) (area : Area) (new : PlainArea) → with_plain_area areas area new area ≡ new
here areas area new = rw (is_itself area) refl

apart : (areas : Area → PlainArea) (area : Area) (new : PlainArea) (other : Area) → other ≢ area → with_plain_area areas area new other ≡ areas other
apart areas area new other ne = rw (apart_false other area ne) refl

-- what is true of the new one and of the others is true of all
for_each : (P : PlainArea → Type 0) (areas : Area → PlainArea) (area : Area) (new : PlainArea) → P new → ((other : Area) → P (areas other))
    → (other : Area) → P (with_plain_area areas area new other)
for_each P areas area new is others other = by (is_same other area) where
  by : (t : Bool) → P (cond t new (areas other))
  by true = is
  by false = others other

-- ---- time
-- no crash might have left something since a moment that is none of those
not_yet : (older : List (Area → PlainArea)) (from : ℕ) (image : Bytes) → length older ≤ from → WereCrashImages older from image → ⊥
not_yet [] from image le was = was
not_yet (areas ∷ older) from image le was =
    ⊎_elim (λ (begun, image_then). omega (arith, le, begun)) (λ earlier. not_yet older from image (omega (arith, le)) earlier) was

pub only_now : plain-only_now
only_now disk image since = ⊎_elim (λ now. now) (λ was. absurd (not_yet disk.before (plain_moment disk) image (omega arith) was)) since

stands : (disk : PlainDisk) → Elapses plain_may_leave plain_moment plain_left_since disk disk
stands disk = record { later = omega arith; nothing_else = λ t image le since. inl since; keeps = λ t image le since. since }

goes_on : (disk : PlainDisk) (areas : Area → PlainArea) → Elapses plain_may_leave plain_moment plain_left_since disk (at_next disk areas)
goes_on disk areas =
    record {
      later = omega arith;
      nothing_else = λ t image le since. ⊎_elim (λ now. inr now) (λ was. inl (⊎_elim (λ (begun, then). inl then) (λ earlier. inr earlier) was)) since;
      keeps = λ t image le since. inr (⊎_elim (λ now. inl (le, now)) (λ earlier. inr earlier) since);
    }

-- ---- a write or a cut
steps : (step : List ℕ → List ℕ → Type 0) (disk : PlainDisk) (area : Area) (change : Change) (outcome : List ℕ) → ReadsImages disk
    → ((image : List ℕ) → IsCrashImage (area_after (disk.now area) change outcome) image → (before : List ℕ) × IsCrashImage (disk.now area) before × step before image)
    → IsCrashImage (area_after (disk.now area) change outcome) outcome
    → StepsAsPromised step area disk (plain_after disk area change outcome)
steps step disk area change outcome images follows reads =
    let new : PlainArea = area_after (disk.now area) change outcome in
    record {
      left = λ c may. follows c (subst (λ (a : PlainArea). IsCrashImage a c) (here disk.now area new) may);
      keeps = λ other ne.
          let same = apart disk.now area new other ne in
          record {
            same = ap (λ (a : PlainArea). Some a.reads) same;
            no_more = λ c may. subst (λ (a : PlainArea). IsCrashImage a c) same may;
          };
      time = goes_on disk (with_plain_area disk.now area new);
      reads = for_each (λ (a : PlainArea). IsCrashImage a a.reads) disk.now area new reads images;
    }

pub write : plain-write
write disk area at bytes outcome images inside torn =
    steps (Torn at (length bytes)) disk area (Wrote at bytes) outcome images
    (λ image now. write_follows (disk.now area) at bytes outcome image now)
    (write_reads (disk.now area) at bytes outcome (images area) inside torn)

pub cut : plain-cut
cut disk area len outcome images partly =
    steps (PartlyCut len) disk area (CutTo len) outcome images
    (λ image now. cut_follows (disk.now area) len outcome image now)
    (cut_reads (disk.now area) len outcome (images area) partly)

-- ---- a sync
sync_keeps : (disk : PlainDisk) (area other : Area) → ReadsImages disk → Keeps plain_content plain_may_leave disk (plain_after_sync disk area) other
sync_keeps disk area other images = by (is_same other area) refl where
  by : (t : Bool) → is_same other area ≡ t → Keeps plain_content plain_may_leave disk (plain_after_sync disk area) other
  by true e =
      let new : PlainArea = lasting (disk.now area).reads in
      let is_here = here disk.now area new in
      subst (λ (o : Area). Keeps plain_content plain_may_leave disk (plain_after_sync disk area) o) (sym (same_is other area e)) (record {
        same = ap (λ (a : PlainArea). Some a.reads) is_here;
        no_more = λ c may.
            let only = lasting_only (disk.now area).reads c (subst (λ (a : PlainArea). IsCrashImage a c) is_here may) in
            subst (λ (x : List ℕ). IsCrashImage (disk.now area) x) (sym only) (images area);
      })
  by false e =
      let same : with_plain_area disk.now area (lasting (disk.now area).reads) other ≡ disk.now other = rw e refl in
      record {
        same = ap (λ (a : PlainArea). Some a.reads) same;
        no_more = λ c may. subst (λ (a : PlainArea). IsCrashImage a c) same may;
      }

pub sync : plain-sync
sync disk area images =
    let new : PlainArea = lasting (disk.now area).reads in
    let is_here = here disk.now area new in (
      λ c may.
          ap (λ (a : PlainArea). Some a.reads) is_here
          ∙ ap (λ (x : List ℕ). Some x) (sym (lasting_only (disk.now area).reads c (subst (λ (a : PlainArea). IsCrashImage a c) is_here may))),
      record {
        keeps = λ other. sync_keeps disk area other images;
        time = goes_on disk (with_plain_area disk.now area new);
        reads = for_each (λ (a : PlainArea). IsCrashImage a a.reads) disk.now area new (lasting_image (disk.now area).reads) images;
      },
    )

pub look : plain-look
look disk images = record { keeps = λ area. record { same = refl; no_more = λ c may. may }; time = stands disk; reads = images }

-- ---- a power loss
pub power_loss : plain-loss
power_loss disk image may = (
  λ area. (in_area image area, refl, may area, λ d left. lasting_only (in_area image area) d left),
  λ area. lasting_image (in_area image area),
)
