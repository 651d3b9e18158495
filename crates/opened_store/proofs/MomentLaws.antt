-- The moments while an undo is written.
use Rattle.std.proofs.Common.{◌≡◌, ◌≢◌, ℕ, List, [], ◌∷◌, sym, ap, ◌∙◌, subst, inl, inr, ⊎_elim, Some}
use Rattle.std.specs.Prelude.{Option, unwrap_or, ⊤}
use Rattle.cell_model.specs.Cells.{Cell}
use Rattle.cell_model.specs.Consistent.{AreConsistent}
use Rattle.cell_page.specs.Format.{IsSlotCount}
use Rattle.disk_model.specs.declared.area.Area.{Area}
use Rattle.disk_model.specs.declared.area.Area.TheVariants.{Pages, Super}
use Rattle.disk_model.specs.Areas.{Bytes, in_area}
use Rattle.disk_model.specs.Time.{LeavesOnlyImages}
use Rattle.disk_model.specs.Told.{IsImageBut, IsSettled}
use Rattle.gate_log.specs.Batches.{IsLog, most_bytes}
use Rattle.gate_log.specs.State.{LogState, IsLogArea}
use Rattle.gate_log.specs.OnDisk.{HasLog, HasEither, named_by, with_batch}
use Rattle.log_replay.specs.Replays.{Replaying}
use Rattle.opened_images.specs.LogRecords.{body_of, bodies_of, first_records}
use Rattle.opened_images.specs.Opened.{Outcome, Opened, OpensTo}
use Rattle.opened_images.proofs.OneOutcome.{one_outcome}
use Rattle.page_marks.specs.declared.marks.PageMark.{PageMark}
use Rattle.store_opening.specs.Store.{AreCellsFound}
use Rattle.store_opening.specs.Undone.{IsUndone}
use Rattle.opened_store.proofs.OpenLaws.{opens-before, opens-after, opens-itself, pages-apart, same-pages}

-- what holds of each moment, twice
module _ {D : Type 0} {moment : D → ℕ} {left_since : D → ℕ → Bytes → Type 0} where
  pub both-moments : {before now : D} {P Q : Bytes → Type 0} (R : Bytes → Type 0) → ((image : Bytes) → P image → Q image → R image)
      → LeavesOnlyImages moment left_since before now P → LeavesOnlyImages moment left_since before now Q → LeavesOnlyImages moment left_since before now R
  both-moments R f a b = record {
    later = a.later;
    each = λ image left. f image (a.each image left) (b.each image left);
    earlier = λ t image le left. ⊎_elim (λ was. inl was) (λ p. ⊎_elim (λ was. inl was) (λ q. inr (f image p q)) (b.earlier t image le left)) (a.earlier t image le left);
  }

pub same-cells : (a b : List Cell) → OpensTo a ≡ OpensTo b → a ≡ b
same-cells a b e = ap cells_of e
  where
    cells_of : Outcome → List Cell
    cells_of (OpensTo cells) = cells
    cells_of _ = []

same-area : (a b : Area) → Some a ≡ Some b → a ≡ b
same-area a b e = ap (λ (o : Option Area). unwrap_or o a) e

super-apart : (area : Area) → IsLogArea area → Super ≢ area
super-apart area is e = subst IsLogArea (sym e) is

-- an image at such a moment opens to the cells
pub moment-opens : {D : Type 0} (content : D → Area → Option (List ℕ)) (may_leave : D → Area → List ℕ → Type 0) (slots : ℕ) (image : Bytes) (cells : List Cell) (v w : Replaying) (marks : List PageMark) (log : LogState) (disk before : D) (bytes : List ℕ) (ids : ℕ)
    → IsSlotCount slots → (f : AreCellsFound may_leave slots image v marks log disk) → AreConsistent slots ids v.cells → IsUndone slots v bytes w → Opened slots image (OpensTo cells)
    → ((area : Area) → IsSettled content may_leave disk area) → content disk Pages ≡ content before Pages → content before Pages ≡ Some image.pages
    → (other : Bytes) → HasEither (body_of (first_records slots f.count) ∷ bodies_of f.batches) (with_batch (body_of (first_records slots f.count) ∷ bodies_of f.batches) bytes) other → IsImageBut may_leave disk log.area (λ _. ⊤) other
    → Opened slots other (OpensTo cells)
moment-opens content may_leave slots image cells v w marks log disk before bytes ids known f k u opened settled same reads other either but =
    subst (λ (cs : List Cell). Opened slots other (OpensTo cs)) (sym is) (by either)
  where
    is : cells ≡ w.cells
    is = same-cells cells w.cells (one_outcome known image (OpensTo cells) (OpensTo w.cells) opened (opens-itself slots image log.area f.count f.batches v w bytes ids f.replayed k u))

    named : named_by other.super_area ≡ Some log.area
    named = f.is_on.named other.super_area (but.others Super (super-apart log.area f.is_on.area))

    pages : other.pages ≡ image.pages
    pages = same-pages (content disk Pages) (content before Pages) other.pages image.pages (settled Pages other.pages (but.others Pages (pages-apart log.area f.is_on.area))) reads same

    there : (bodies : List (List ℕ)) → HasLog bodies other → IsLog most_bytes bodies (in_area other log.area)
    there bodies h = subst (λ (a : Area). IsLog most_bytes bodies (in_area other a)) (same-area h.area log.area (sym h.named ∙ named)) h.log

    by : HasEither (body_of (first_records slots f.count) ∷ bodies_of f.batches) (with_batch (body_of (first_records slots f.count) ∷ bodies_of f.batches) bytes) other → Opened slots other (OpensTo w.cells)
    by (inl h) =
        subst (λ (cs : List Cell). Opened slots other (OpensTo cs)) (sym u.cells)
        (opens-before slots image other log.area f.count f.batches v ids f.replayed k u.can (record { pages = pages; named = named; log = there (body_of (first_records slots f.count) ∷ bodies_of f.batches) h }))
    by (inr h) = opens-after slots image other log.area f.count f.batches v w bytes ids f.replayed k u pages named (there (with_batch (body_of (first_records slots f.count) ∷ bodies_of f.batches) bytes) h)
