-- Images of pages, made one after another.
use Rattle.std.proofs.Common.{◌≡◌, ℕ, zero, suc, ◌+◌, ◌*◌, ◌<◌, ◌≤◌, List, [], ◌∷◌, ◌++◌, length, refl, sym, ap, subst, ◌∙◌, arith, length-append}
use Rattle.std.proofs.lemmas.List.{append-nil}
use Rattle.std.proofs.lemmas.Grind.{flat_map-append}
use Rattle.cell_model.specs.Cells.{Cell}
use Rattle.cell_page.specs.declared.cell.Cell.{Cell as PageCell}
use Rattle.cell_page.specs.Format.{IsSlotCount, AreTyped, cell_size, page_size, page_bytes}
use Rattle.cell_page.specs.Stored.{HoldsPage}
use Rattle.cell_page.proofs.Pages.{length-page_bytes}
use Rattle.log_record.specs.declared.record.Record.{Record}
use Rattle.log_record.specs.declared.record.Record.TheVariants.{Image}
use Rattle.log_record.specs.Spelling.{record_bytes}
use Rattle.opened_images.specs.LogRecords.{body_of}
use Rattle.store_migration.specs.ImagedLogs.{images_from, ArePagesFrom, AreImagesOf}

images-push : {slots : ℕ} (page : ℕ) (frames : List (List (PageCell slots))) (held : List (PageCell slots))
    → images_from page (frames ++ held ∷ []) ≡ images_from page frames ++ Image (page + length frames) held ∷ []
images-push {slots} page [] held = ap (λ (n : ℕ). images_from n (held ∷ [])) (omega arith)
images-push {slots} page (h ∷ more) held =
    ap (λ (rs : List (Record slots)). Image page h ∷ rs) (images-push (suc page) more held
    ∙ ap (λ (n : ℕ). images_from (suc page) more ++ Image n held ∷ []) (omega arith))

pages-push : {slots : ℕ} (page : ℕ) (cells : List Cell) (frames : List (List (PageCell slots))) (held : List (PageCell slots)) → ArePagesFrom page cells frames → AreTyped held
    → HoldsPage cells (page + length frames) held → ArePagesFrom page cells (frames ++ held ∷ [])
pages-push page cells [] held are typed holds =
    let here : page + 0 ≡ page = omega arith in
    (typed, subst (λ (n : ℕ). HoldsPage cells n held) here holds, tt)
pages-push page cells (h ∷ more) held are typed holds =
    let next : page + suc (length more) ≡ suc page + length more = omega arith in
    (are.0, are.1, pages-push (suc page) cells more held are.2 typed (subst (λ (n : ℕ). HoldsPage cells n held) next holds))

-- no image of a store
pub no_images : (slots : ℕ) (cells : List Cell) → AreImagesOf slots 0 cells []
no_images slots cells = record { frames = []; many = refl; are = tt; spelled = refl }

-- one more
pub one_image_more : {slots : ℕ} (pages : ℕ) (cells : List Cell) (bytes new : List ℕ) (held : List (PageCell slots)) → AreImagesOf slots pages cells bytes → AreTyped held → HoldsPage cells pages held
    → new ≡ bytes ++ record_bytes (Image pages held) → AreImagesOf slots (pages + 1) cells new
one_image_more {slots} pages cells bytes new held so typed holds is =
    record {
      frames = so.frames ++ held ∷ [];
      many = length-append so.frames (held ∷ []) ∙ ap (λ (n : ℕ). n + 1) so.many;
      are = pages-push 0 cells so.frames held so.are typed (subst (λ (n : ℕ). HoldsPage cells n held) at holds);
      spelled = is
          ∙ ap (λ (b : List ℕ). b ++ record_bytes (Image pages held)) so.spelled
          ∙ ap (λ (n : ℕ). body_of (images_from 0 so.frames) ++ record_bytes (Image n held)) at
          ∙ ap (λ (b : List ℕ). body_of (images_from 0 so.frames) ++ b) (sym (append-nil (record_bytes (Image (0 + length so.frames) held))))
          ∙ sym (flat_map-append (λ (r : Record slots). record_bytes r) (images_from 0 so.frames) (Image (0 + length so.frames) held ∷ []))
          ∙ ap body_of (sym (images-push 0 so.frames held));
    }
  where
    at : pages ≡ 0 + length so.frames
    at = sym so.many ∙ omega arith

-- how many bytes an image takes
pub image-size : {slots : ℕ} (page : ℕ) (held : List (PageCell slots)) (cells : List Cell) → IsSlotCount slots → AreTyped held → HoldsPage cells page held
    → length (record_bytes (Image page held)) ≡ 3 + page_size slots
image-size {slots} page held cells known typed holds =
    let long = length-page_bytes held known (λ place d within. (typed place d within).slot_count) in
    let size : length (page_bytes held) ≡ page_size slots = long ∙ ap (λ (n : ℕ). n * cell_size slots) holds.rules.eight in
    omega (arith, size)
