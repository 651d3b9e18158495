-- The bytes of pages, one page more.
use Rattle.std.proofs.Common.{◌≡◌, ℕ, suc, ◌+◌, ◌*◌, ◌<◌, refl, List, [], ◌∷◌, ◌++◌, length, take, map, Option, Some, None, sym, ◌∙◌, ap, subst, arith, length-append}
use Rattle.std.specs.Prelude.{option_map, IfSome, slice_index_or}
use Rattle.std.specs.List.{flat_map, range_with_len}
use Rattle.std.proofs.Math.Seq.{take-suc}
use Rattle.std.proofs.lemmas.List.{append-nil, get_or_default}
use Rattle.std.proofs.lemmas.List.Folds.{flat_map-map}
use Rattle.std.proofs.lemmas.List.FromFn.{length-map-range_with_len, get_or-map-range_with_len}
use Rattle.std.proofs.lemmas.Grind.{flat_map-append}
use Rattle.cell_page.specs.declared.cell.Cell.{Cell}
use Rattle.cell_page.specs.Format.{IsSlotCount, IsPage, AreTyped, cell_size, page_size, page_bytes, fresh_page}
use Rattle.cell_page.proofs.Pages.{length-page_bytes}
use Rattle.restart_store.specs.declared.pages.NewPages.{NewPages}
use Rattle.restart_store.specs.declared.pages.NewPages.TheVariants.{Fresh}
use Rattle.restart_store.specs.Fresh.{MayBeMade, pages_of, fresh_log_area, fresh_store, store_of}

-- ---- how many

-- a page has as many bytes as each page
pub length-page : {slots : ℕ} (page : ℕ) (cells : List (Cell slots)) → IsSlotCount slots → IsPage page cells → AreTyped cells → length (page_bytes cells) ≡ page_size slots
length-page {slots} page cells known is typed = length-page_bytes cells known (λ place d below. (typed place d below).slot_count) ∙ ap (λ (n : ℕ). n * cell_size slots) is.eight

-- the first pages and the next one
pub one_page_more : {slots : ℕ} (pages : List (List (Cell slots))) (n : ℕ) → n < length pages
    → flat_map page_bytes (take (suc n) pages) ≡ flat_map page_bytes (take n pages) ++ page_bytes (slice_index_or pages n [])
one_page_more pages n below =
    ap (λ l. flat_map page_bytes l) (take-suc pages n [] below)
    ∙ flat_map-append page_bytes (take n pages) (slice_index_or pages n [] ∷ [])
    ∙ ap (λ (l : List ℕ). flat_map page_bytes (take n pages) ++ l) (append-nil (page_bytes (slice_index_or pages n [])))

-- they are so many bytes more
pub long_more : {slots : ℕ} (pages : List (List (Cell slots))) (n : ℕ) → IsSlotCount slots → n < length pages → IsPage n (slice_index_or pages n []) → AreTyped (slice_index_or pages n [])
    → length (flat_map page_bytes (take n pages)) ≡ page_size slots * n → length (flat_map page_bytes (take (suc n) pages)) ≡ page_size slots * suc n
long_more {slots} pages n known below is typed long =
    let more : page_size slots * suc n ≡ page_size slots * n + page_size slots = omega arith in
    ap length (one_page_more pages n below)
    ∙ length-append (flat_map page_bytes (take n pages)) (page_bytes (slice_index_or pages n []))
    ∙ omega (arith, more, long, length-page n (slice_index_or pages n []) known is typed)

-- ---- what is told of the pages area

-- it is empty
pub none_yet : (area : Option (List ℕ)) → IfSome area (λ c. c ≡ []) → area ≡ option_map (λ _. []) area
none_yet None is = refl
none_yet (Some c) is = ap (λ (l : List ℕ). Some l) is

-- so long are these bytes
pub so_long : (size : ℕ) (bytes : List ℕ) (before now : Option (List ℕ)) → length bytes ≡ size → now ≡ option_map (λ _. bytes) before → IfSome now (λ c. length c ≡ size)
so_long size bytes None now long is = subst (λ (o : Option (List ℕ)). IfSome o (λ c. length c ≡ size)) (sym is) tt
so_long size bytes (Some c) now long is = subst (λ (o : Option (List ℕ)). IfSome o (λ c. length c ≡ size)) (sym is) long

-- and more after them
pub next_behind : (bytes more all : List ℕ) (before mid now : Option (List ℕ)) → all ≡ bytes ++ more → mid ≡ option_map (λ _. bytes) before → now ≡ option_map (λ c. c ++ more) mid
    → now ≡ option_map (λ _. all) before
next_behind bytes more all None mid now are is next = next ∙ ap (option_map (λ c. c ++ more)) is
next_behind bytes more all (Some c) mid now are is next = next ∙ ap (option_map (λ c. c ++ more)) is ∙ ap (λ (l : List ℕ). Some l) (sym are)

-- ---- fresh pages

-- a store with the pages of a fresh one is the fresh one
pub fresh_is : (slots pages byte : ℕ) → store_of (map (fresh_page slots) (range_with_len 0 pages)) byte ≡ fresh_store slots pages byte
fresh_is slots pages byte =
    ap (λ (l : List ℕ). record (store_of (map (fresh_page slots) (range_with_len 0 pages)) byte) { pages = l }) (flat_map-map page_bytes (fresh_page slots) (range_with_len 0 pages))
    ∙ ap (λ (n : ℕ). record (fresh_store slots pages byte) { log_a = fresh_log_area slots n; log_b = fresh_log_area slots n }) (length-map-range_with_len (fresh_page slots) 0 pages)

-- there are so many of them, and each is the fresh page of its number
pub fresh_count : {slots : ℕ} (pages : NewPages slots) (n : ℕ) → pages ≡ Fresh n → n ≡ length (pages_of pages)
fresh_count {slots} pages n is = subst (λ (p : NewPages slots). n ≡ length (pages_of p)) (sym is) (sym (length-map-range_with_len (fresh_page slots) 0 n))

pub fresh_at : {slots : ℕ} (pages : NewPages slots) (n page : ℕ) → pages ≡ Fresh n → page < length (pages_of pages) → fresh_page slots page ≡ slice_index_or (pages_of pages) page []
fresh_at {slots} pages n page is below =
    let within : page < n = omega (arith, below, fresh_count pages n is) in
    subst (λ (p : NewPages slots). fresh_page slots page ≡ slice_index_or (pages_of p) page []) (sym is)
    (sym (get_or-map-range_with_len (fresh_page slots) 0 n page page [] within (omega arith)))

-- ---- given pages

-- each obeys the rules for its number
pub given_at : {slots : ℕ} (pages : List (List (Cell slots))) (page : ℕ) (cells d : List (Cell slots)) → MayBeMade pages → page < length pages → cells ≡ slice_index_or pages page d → IsPage page cells × AreTyped cells
given_at pages page cells d may below is =
    let here = may.each page below in
    let same : slice_index_or pages page [] ≡ cells = get_or_default pages page [] d below ∙ sym is in
    (subst (λ l. IsPage page l) same here.0, subst (λ l. AreTyped l) same here.1)
