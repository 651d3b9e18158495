-- The base in front of a stream is read as its pages.
use Rattle.std.proofs.Common.{◌≡◌, ℕ, suc, ◌+◌, ◌<◌, ◌≤◌, List, [], ◌∷◌, ◌++◌, length, take, drop, refl, sym, ap, subst, ◌∙◌, arith, append_assoc, zero-add}
use Rattle.std.specs.Prelude.{slice_index_or}
use Rattle.std.specs.Int.{w16, to_be_bytes, from_be_bytes}
use Rattle.std.specs.List.{flat_map}
use Rattle.std.proofs.lemmas.List.{take_at, drop_at}
use Rattle.std.proofs.lemmas.Nat.{from_be_bytes-to_be_bytes_2}
use Rattle.cell_page.specs.declared.cell.Cell.{Cell}
use Rattle.cell_page.specs.Format.{IsSlotCount, IsPage, AreTyped, page_bytes, page_size}
use Rattle.cell_page.proofs.Pages.{same_page}
use Rattle.page_area.proofs.InPlaceLaws.{page_length}
use Rattle.opened_images.proofs.Bodies.{cons_same}
use Rattle.ship_stream.specs.Reading.{base_bytes, ArePages}

-- the number of the pages is in front
same_count : (n m : ℕ) (x y : List ℕ) → n ≤ 1024 → m ≤ 1024 → to_be_bytes w16 n ++ x ≡ to_be_bytes w16 m ++ y → (n ≡ m) × (x ≡ y)
same_count n m x y few few_too same =
    let numbers : to_be_bytes w16 n ≡ to_be_bytes w16 m = sym (take_at (to_be_bytes w16 n) x 2 refl) ∙ ap (λ (l : List ℕ). take 2 l) same ∙ take_at (to_be_bytes w16 m) y 2 refl in (
      sym (from_be_bytes-to_be_bytes_2 n (omega arith)) ∙ ap (from_be_bytes w16) numbers ∙ from_be_bytes-to_be_bytes_2 m (omega arith),
      sym (drop_at (to_be_bytes w16 n) x 2 refl) ∙ ap (λ (l : List ℕ). drop 2 l) same ∙ drop_at (to_be_bytes w16 m) y 2 refl,
    )

-- pages from this number on
abbrev AreFrom : {slots : ℕ} → ℕ → List (List (Cell slots)) → Type 0
AreFrom first [] = Unit {0}
AreFrom first (cells ∷ pages) = IsPage first cells × AreTyped cells × AreFrom (first + 1) pages

are_from : {slots : ℕ} (first : ℕ) (pages : List (List (Cell slots))) → ((p : ℕ) → p < length pages → IsPage (first + p) (slice_index_or pages p []) × AreTyped (slice_index_or pages p [])) → AreFrom first pages
are_from first [] are = tt
are_from first (cells ∷ pages) are =
    let head = are 0 (omega arith) in (
      subst (λ (k : ℕ). IsPage k cells) (omega arith) head.0,
      head.1,
      are_from (first + 1) pages (λ p below. let next = are (suc p) (omega (arith, below)) in (subst (λ (k : ℕ). IsPage k (slice_index_or pages p [])) (omega arith) next.0, next.1)),
    )

all_from : {slots : ℕ} (pages : List (List (Cell slots))) → ArePages pages → AreFrom 0 pages
all_from pages are = are_from 0 pages (λ p below. let here = are p below in (subst (λ (k : ℕ). IsPage k (slice_index_or pages p [])) (sym (zero-add p)) here.0, here.1))

same_pages : {slots : ℕ} → IsSlotCount slots → (first : ℕ) (pages others : List (List (Cell slots))) (x y : List ℕ) → AreFrom first pages → AreFrom first others → length pages ≡ length others
    → flat_map page_bytes pages ++ x ≡ flat_map page_bytes others ++ y → (pages ≡ others) × (x ≡ y)
same_pages known first [] [] x y are are_too long same = (refl, same)
same_pages known first [] (q ∷ qs) x y are are_too long same = absurd (omega (arith, long))
same_pages known first (p ∷ ps) [] x y are are_too long same = absurd (omega (arith, long))
same_pages {slots} known first (p ∷ ps) (q ∷ qs) x y are are_too long same =
    let split : page_bytes p ++ (flat_map page_bytes ps ++ x) ≡ page_bytes q ++ (flat_map page_bytes qs ++ y) =
    sym (append_assoc (page_bytes p) (flat_map page_bytes ps) x) ∙ same ∙ append_assoc (page_bytes q) (flat_map page_bytes qs) y in
    let size = page_length first p known are.0 are.1 in
    let size_too = page_length first q known are_too.0 are_too.1 in
    let bytes : page_bytes p ≡ page_bytes q =
    sym (take_at (page_bytes p) (flat_map page_bytes ps ++ x) (page_size slots) size) ∙ ap (λ (l : List ℕ). take (page_size slots) l) split
    ∙ take_at (page_bytes q) (flat_map page_bytes qs ++ y) (page_size slots) size_too in
    let here : p ≡ q = (same_page first first p q (page_bytes p) known are.1 are_too.1 (record { rules = are.0; spelled = refl }) (record { rules = are_too.0; spelled = bytes })).1 in
    let left : flat_map page_bytes ps ++ x ≡ flat_map page_bytes qs ++ y =
    sym (drop_at (page_bytes p) (flat_map page_bytes ps ++ x) (page_size slots) size) ∙ ap (λ (l : List ℕ). drop (page_size slots) l) split
    ∙ drop_at (page_bytes q) (flat_map page_bytes qs ++ y) (page_size slots) size_too in
    let rest = same_pages known (first + 1) ps qs x y are.2 are_too.2 (omega (arith, long)) left in
    (cons_same p q ps qs here rest.0, rest.1)

-- two bases in front of the same bytes have the same pages, and the same stands after them
pub same_base : {slots : ℕ} → IsSlotCount slots → (pages others : List (List (Cell slots))) (x y bytes : List ℕ) → length pages ≤ 1024 → length others ≤ 1024 → ArePages pages → ArePages others
    → bytes ≡ base_bytes (length pages) pages ++ x → bytes ≡ base_bytes (length others) others ++ y → (pages ≡ others) × (x ≡ y)
same_base {slots} known pages others x y bytes few few_too are are_too one other =
    let n = length pages in
    let m = length others in
    let counted = same_count n m (flat_map page_bytes pages ++ x) (flat_map page_bytes others ++ y) few few_too
    (sym (append_assoc (to_be_bytes w16 n) (flat_map page_bytes pages) x) ∙ sym one ∙ other ∙ append_assoc (to_be_bytes w16 m) (flat_map page_bytes others) y) in
    same_pages known 0 pages others x y (all_from pages are) (all_from others are_too) counted.0 counted.1
