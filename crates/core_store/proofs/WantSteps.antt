-- The pages that a call needs, and the first of some that isn't held, step by step.
use Rattle.std.proofs.Common.{◌≡◌, ℕ, ◌+◌, ◌<◌, true, false, List, [], ◌∷◌, length, get_or, drop, refl, sym, ap, ◌∙◌, add-one, drop-cons}
use Rattle.std.specs.Prelude.{Some}
use Rattle.cell_model.specs.Cells.{Cell as StoredCell, cell_at, pointer_in, pointer_at}
use Rattle.cell_page.specs.declared.cell.Cell.{Cell}
use Rattle.cell_page.specs.Format.{page_of_id}
use Rattle.cell_page.specs.Stored.{cell_of}
use Rattle.strength_counts.proofs.Slots.{target_in-pointers}
use Rattle.core_store.specs.declared.want.Work.{Work}
use Rattle.core_store.specs.declared.want.Want.TheVariants.{Page}
use Rattle.core_store.specs.Frames.{is_page_among}
use Rattle.core_store.specs.Logged.{next_page}
use Rattle.core_store.specs.Work.{page_or, three_pages}

-- a page that is held is passed over
pub next_page-held : (needed held : List ℕ) (i : ℕ) → i < length needed → is_page_among (get_or needed i 0) held ≡ true → next_page (drop i needed) held ≡ next_page (drop (i + 1) needed) held
next_page-held needed held i within there = rw (add-one i, drop-cons needed i 0, there) refl

-- one that isn't held is the next
pub next_page-other : (needed held : List ℕ) (i : ℕ) → i < length needed → is_page_among (get_or needed i 0) held ≡ false → next_page (drop i needed) held ≡ Page (get_or needed i 0)
next_page-other needed held i within other = rw (drop-cons needed i 0, other) refl

-- ---- the pages of three objects

-- what a slot of the store's cell holds stands in the held cell
pub target-held : {slots : ℕ} (cells : List StoredCell) (id slot : ℕ) (c : Cell slots) → cell_of c ≡ cell_at cells id → (pointer_at cells id slot).target ≡ get_or c.slots slot 0
target-held cells id slot c same = ap (λ (x : StoredCell). (pointer_in x slot).target) (sym same) ∙ target_in-pointers c.bits 0 c.slots slot

pub three_pages-change : (cells : List StoredCell) (w : Work) (slot target old : ℕ) → w.change ≡ Some (slot, target) → (pointer_at cells w.id slot).target ≡ old
    → three_pages cells w ≡ page_of_id w.id ∷ page_or old (page_of_id w.id) ∷ page_or target (page_of_id w.id) ∷ []
three_pages-change cells w slot target old is holds = rw (is, holds) refl
