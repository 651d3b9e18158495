-- The frames of a store, and the base that they are.
use Rattle.std.proofs.Common.{◌≡◌, ◌⊎◌, inl, inr, ⊎_elim, ℕ, ◌+◌, ◌≤◌, ◌<◌, List, [], length, get_or, refl, sym, ap, subst, ◌∙◌, arith}
use Rattle.std.specs.Prelude.{slice_index_or}
use Rattle.std.proofs.lemmas.Bool.{cases_lt}
use Rattle.std.proofs.lemmas.List.{length-map, get_or-map, get_or_default}
use Rattle.std.proofs.lemmas.Option.{slice_get-get_or}
use Rattle.cell_model.specs.Cells.{Cell as StoredCell}
use Rattle.cell_page.specs.declared.cell.Cell.{Cell}
use Rattle.cell_page.specs.Format.{IsSlotCount, AreTyped}
use Rattle.cell_page.specs.Stored.{HoldsPage}
use Rattle.core_store.specs.declared.frame.Frame.{Frame}
use Rattle.core_store.specs.Frames.{AllAgree}
use Rattle.core_store.specs.JournalView.{JournalView, cells_of}
use Rattle.core_store.specs.Opening.{ArePages}
use Rattle.framed_journal.specs.Holding.{AreFramesOf}
use Rattle.ship_stream.specs.Reading.{base_bytes}
use Rattle.stream_writing.specs.Base.{pages_in}
use Rattle.stream_writing.specs.Backups.{IsBaseOf}

pub are_pages : {slots : ℕ} (cells : List StoredCell) (frames : List (Frame slots)) → AllAgree cells frames → ArePages frames
are_pages cells frames agree = record { each = λ page d low. (agree page (slice_index_or frames page d) (slice_get-get_or frames page d low)).rules }

-- the numbers of the first pages, so many, are in the ranges of their types
abbrev pub AreTypedBelow : {slots : ℕ} → List (Frame slots) → ℕ → Type 0
AreTypedBelow frames count = (page : ℕ) → page < count → AreTyped (slice_index_or (pages_in frames) page [])

-- so are those of one page more
pub typed_more : {slots : ℕ} (frames : List (Frame slots)) (n : ℕ) (frame : Frame slots) → AreTypedBelow frames n → n < length frames → frame ≡ get_or frames n frame → AreTyped frame.page → AreTypedBelow frames (n + 1)
typed_more {slots} frames n frame below within is typed p low = by (cases_lt p n)
  where
    by : (p < n) ⊎ (n ≤ p) → AreTyped (slice_index_or (pages_in frames) p [])
    by (inl less) = below p less
    by (inr more) =
        let here : p ≡ n = omega (arith, low, more) in
        let blank : Frame slots = record { page = [] } in
        subst (λ (held : List (Cell slots)). AreTyped held)
        (ap (λ (f : Frame slots). f.page) (is ∙ get_or_default frames n frame blank within) ∙ sym (get_or-map (λ (f : Frame slots). f.page) frames n blank [] within) ∙ ap (λ (k : ℕ). get_or (pages_in frames) k []) (sym here)) typed

pub is_base : {slots : ℕ} (j : JournalView) (frames : List (Frame slots)) → AreFramesOf j frames → AreTypedBelow frames (length frames) → IsBaseOf slots j.history.ids (cells_of j) (base_bytes (length frames) (pages_in frames))
is_base {slots} j frames are typed =
    record {
      pages = length frames;
      whole = are.pages;
      held = pages_in frames;
      number = length-map frames (λ (f : Frame slots). f.page);
      each = λ page low.
          let blank : Frame slots = record { page = [] } in
          subst (λ (held : List (Cell slots)). HoldsPage (cells_of j) page held) (sym (get_or-map (λ (f : Frame slots). f.page) frames page blank [] low))
          (are.agree page (slice_index_or frames page blank) (slice_get-get_or frames page blank low));
      typed = typed;
      are = refl;
    }

-- there are at most fourteen slots
pub few_slots : (slots : ℕ) → IsSlotCount slots → slots ≤ 14
few_slots slots known = ⊎_elim (λ six. omega (arith, six)) (λ fourteen. omega (arith, fourteen)) known
