-- The pages of a store, loaded one after another.
use Rattle.std.proofs.Common.{◌≡◌, ℕ, ◌+◌, ◌<◌, ◌-◌, List, [], ◌∷◌, ◌++◌, length, Option, Some, None, inl, inr, ⊎_elim, sym, ap, subst, ◌∙◌, arith, length-append}
use Rattle.std.specs.Prelude.{IfSome, slice_index, slice_index_or}
use Rattle.std.proofs.lemmas.Bool.{cases_lt}
use Rattle.std.proofs.lemmas.List.{get_or_append_left, get_or-append_right}
use Rattle.cell_page.specs.declared.cell.Cell.{Cell}
use Rattle.cell_page.specs.Format.{IsSlotCount, IsPage}
use Rattle.cell_page.proofs.Pages.{page_refused, page_too_short}
use Rattle.page_area.specs.Place.{bytes_of_page}
use Rattle.store_opening.specs.Loaded.{IsLoaded, AreLoaded, IsDamagedAt, IsFirstDamaged}

-- a page that is spelled is whole
pub loaded_whole : (slots page at : ℕ) (area : List ℕ) (cells : List (Cell slots)) → IsSlotCount slots → IsLoaded slots page area cells → IsDamagedAt slots page at area → ⊥
loaded_whole slots page at area cells known is (inl short) = page_too_short page (bytes_of_page slots page area) known short.0 cells is.typed is.spells
loaded_whole slots page at area cells known is (inr long) =
    page_refused page long.1.place long.1.offset (bytes_of_page slots page area) known long.1.within long.1.here cells is.typed is.spells

-- ---- one page more

module _ {slots : ℕ} (pages : List (List (Cell slots))) (held : List (Cell slots)) (n : ℕ) (long : length pages ≡ n) where
  old_one : (p : ℕ) → p < n → slice_index_or (pages ++ held ∷ []) p [] ≡ slice_index_or pages p []
  old_one p low = get_or_append_left pages (held ∷ []) [] p (omega (arith, low, long))

  new_one : (p : ℕ) → p ≡ n → slice_index_or (pages ++ held ∷ []) p [] ≡ held
  new_one p is =
      get_or-append_right pages (held ∷ []) n p [] long (omega (arith, is))
      ∙ (let none : p - n ≡ 0 = omega (arith, is) in ap (λ (k : ℕ). slice_index_or (held ∷ []) k []) none)

  pub long_more : length (pages ++ held ∷ []) ≡ n + 1
  long_more = omega (arith, long, length-append pages (held ∷ []))

  pub rules_more : ((p : ℕ) → p < n → IsPage p (slice_index_or pages p [])) → IsPage n held → (p : ℕ) → p < n + 1 → IsPage p (slice_index_or (pages ++ held ∷ []) p [])
  rules_more each is p low =
      ⊎_elim (λ below. subst (λ (cells : List (Cell slots)). IsPage p cells) (sym (old_one p below)) (each p below))
      (λ over.
      let same : p ≡ n = omega (arith, over, low) in
      subst (λ (cells : List (Cell slots)). IsPage p cells) (sym (new_one p same)) (subst (λ (k : ℕ). IsPage k held) (sym same) is)) (cases_lt p n)

  pub loaded_more : (images : List ℕ) (area : List ℕ) → AreLoaded slots images n area pages → (slice_index images n ≡ 0 → IsLoaded slots n area held)
      → AreLoaded slots images (n + 1) area (pages ++ held ∷ [])
  loaded_more images area each is p low none =
      ⊎_elim (λ below. subst (λ (cells : List (Cell slots)). IsLoaded slots p area cells) (sym (old_one p below)) (each p below none))
      (λ over.
      let same : p ≡ n = omega (arith, over, low) in
      subst (λ (cells : List (Cell slots)). IsLoaded slots p area cells) (sym (new_one p same))
      (subst (λ (k : ℕ). IsLoaded slots k area held) (sym same) (is (ap (λ (k : ℕ). slice_index images k) (sym same) ∙ none)))) (cases_lt p n)

-- the first page that is none
pub first_damaged : (slots : ℕ) (images : List ℕ) (page at : ℕ) (area : List ℕ) (pages : List (List (Cell slots))) → IsSlotCount slots → page < length images → slice_index images page ≡ 0
    → AreLoaded slots images page area pages → IsDamagedAt slots page at area → IsFirstDamaged slots images page at area
first_damaged slots images page at area pages known inside none loaded here =
    record { inside = inside; none = none; here = here; lower = λ p place low zero damaged. loaded_whole slots p place area (slice_index_or pages p []) known (loaded p low zero) damaged }

-- one page more, of an area that is told
pub more_loaded : {slots : ℕ} (pages : List (List (Cell slots))) (held : List (Cell slots)) (n : ℕ) → length pages ≡ n → (before now : Option (List ℕ)) (images : List ℕ) → now ≡ before
    → IfSome before (λ area. AreLoaded slots images n area pages) → (slice_index images n ≡ 0 → IfSome now (λ area. IsLoaded slots n area held))
    → IfSome before (λ area. AreLoaded slots images (n + 1) area (pages ++ held ∷ []))
more_loaded pages held n long None now images same each is = each
more_loaded {slots} pages held n long (Some area) now images same each is =
    loaded_more pages held n long images area each (λ none. subst (λ (o : Option (List ℕ)). IfSome o (λ a. IsLoaded slots n a held)) same (is none))
