-- Held pages to which cells are given back.
use Rattle.std.proofs.Common.{◌≡◌, ℕ, ◌<◌, List, Bool, length, map, set, refl, sym, ap, ◌∙◌, subst, arith}
use Rattle.cell_model.specs.Cells.{Cell, cell_at, edit}
use Rattle.cell_page.specs.Format.{page_of_id}
use Rattle.core_store.specs.declared.three.HeldFrame.{HeldFrame}
use Rattle.core_store.specs.Frames.{pages_held, Agree}
use Rattle.core_store.specs.Changes.{has_no_strong}
use Rattle.core_store.specs.Slots.{IsChanged, HasPlace}
use Rattle.core_store.proofs.PageLaws.{is_held-pages, elsewhere-trans, elsewhere-pages, elsewhere-edit}
use Rattle.core_store.proofs.SlotLaws.{edit-marks}

-- ---- changes one after another

pub changed-trans : {slots : ℕ} (cells middle after : List Cell) (held between new : List (HeldFrame slots)) (zeros some marks : List Bool) → IsChanged cells middle held between zeros some → IsChanged middle after between new some marks
    → pages_held between ≡ pages_held held → IsChanged cells after held new zeros marks
changed-trans cells middle after held between new zeros some marks first second same = record {
  agree = second.agree;
  elsewhere = elsewhere-trans cells middle after held first.elsewhere (elsewhere-pages middle after between held same second.elsewhere);
  marks_are = λ e. second.marks_are (first.marks_are e);
}

-- one cell changes, with its mark
pub changed-cell : {slots : ℕ} (cells : List Cell) (held new : List (HeldFrame slots)) (zeros : List Bool) (id : ℕ) (f : Cell → Cell) (mark : Bool) → HasPlace held zeros id → mark ≡ has_no_strong (f (cell_at cells id)) → Agree (edit cells id f) new
    → IsChanged cells (edit cells id f) held new zeros (set zeros id mark)
changed-cell cells held new zeros id f mark place is agree = record {
  agree = agree;
  elsewhere = elsewhere-edit cells held id f place.page;
  marks_are = λ e. ap (λ (bs : List Bool). set bs id mark) e ∙ (ap (λ (b : Bool). set (map has_no_strong cells) id b) is ∙ sym (edit-marks cells id f (λ none. let above = place.above in absurd (omega (arith, above, none)))));
}

-- one cell is put back, with its mark
pub changed-edit : {slots : ℕ} (cells : List Cell) (held new : List (HeldFrame slots)) (zeros : List Bool) (id : ℕ) (c : Cell) → HasPlace held zeros id → Agree (edit cells id (λ _. c)) new
    → IsChanged cells (edit cells id (λ _. c)) held new zeros (set zeros id (has_no_strong c))
changed-edit cells held new zeros id c place agree = changed-cell cells held new zeros id (λ _. c) (has_no_strong c) place refl agree

pub place-moved : {slots : ℕ} (held new : List (HeldFrame slots)) (zeros marks : List Bool) (id : ℕ) → HasPlace held zeros id → pages_held new ≡ pages_held held → length marks ≡ length zeros → HasPlace new marks id
place-moved held new zeros marks id place pages long = record {
  above = place.above;
  small = place.small;
  page = is_held-pages new held (page_of_id id) pages ∙ place.page;
  mark = subst (λ (n : ℕ). id < n) (sym long) place.mark;
}
