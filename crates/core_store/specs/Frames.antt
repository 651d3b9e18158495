-- Pages of the store that are held, and what it is for them to agree with its cells.
use Rattle.std.specs.Prelude.{◌≡◌, ℕ, ◌+◌, ◌*◌, ◌<◌, ◌==◌, Bool, true, false, List, [], ◌∷◌, length, map, Some, slice_get}
use Rattle.std.specs.List.{list_any, list_all, AllByRecursion}
use Rattle.cell_model.specs.Cells.{Cell as StoredCell}
use Rattle.cell_page.specs.Stored.{page_of, HoldsPage}
use Rattle.core_store.specs.declared.frame.Frame.{Frame}
use Rattle.core_store.specs.declared.three.HeldFrame.{HeldFrame}

-- the pages of the held frames, in the order in which they were put
abbrev pub pages_held : {slots : ℕ} → List (HeldFrame slots) → List ℕ
pages_held held = map (λ h. h.page) held

-- the page is among these
abbrev pub is_page_among : ℕ → List ℕ → Bool
is_page_among page pages = list_any (λ p. p == page) pages

-- each of the pages is among these
abbrev pub are_all_among : List ℕ → List ℕ → Bool
are_all_among pages others = list_all (λ p. is_page_among p others) pages

-- no frame is held
abbrev pub holds_nothing : {slots : ℕ} → List (HeldFrame slots) → Bool
holds_nothing [] = true
holds_nothing (h ∷ hs) = false

-- a frame of the page is held
abbrev pub is_held : {slots : ℕ} → List (HeldFrame slots) → ℕ → Bool
is_held held page = list_any (λ h. h.page == page) held

-- no page is held twice
abbrev pub AreOnce : {slots : ℕ} → List (HeldFrame slots) → Type 0
AreOnce [] = Unit {0}
AreOnce (h ∷ hs) = (is_held hs h.page ≡ false) × AreOnce hs

-- each held frame is its page of the store with these cells
abbrev pub Agree : {slots : ℕ} → List StoredCell → List (HeldFrame slots) → Type 0
Agree cells held = AllByRecursion (λ h. HoldsPage cells h.page h.frame.page) held

-- each page that isn't held has the same cells in both stores
abbrev pub IsSameElsewhere : {slots : ℕ} → List StoredCell → List StoredCell → List (HeldFrame slots) → Type 0
IsSameElsewhere before after held = (page : ℕ) → is_held held page ≡ false → page_of after page ≡ page_of before page

-- the frames, one for each page from 0 on, are the pages of the store with these cells
abbrev pub AllAgree : {slots : ℕ} → List StoredCell → List (Frame slots) → Type 0
AllAgree {slots} cells frames = (page : ℕ) (frame : Frame slots) → slice_get frames page ≡ Some frame → HoldsPage cells page frame.page

-- a frame of this page of the store can be put to the held ones
pub record IsNext {slots : ℕ} (ids : ℕ) (held : List (HeldFrame slots)) (page : ℕ) : Type 0 where
  pub there : 8 * page < ids
  pub other : is_held held page ≡ false
  pub room : length held < 3

-- the frames, each with the number of its page, counted on from this one
abbrev pub numbered : {slots : ℕ} → ℕ → List (Frame slots) → List (HeldFrame slots)
numbered page [] = []
numbered page (frame ∷ frames) = record { page = page; frame = frame } ∷ numbered (page + 1) frames

-- each page of the store is held
abbrev pub HoldsAll : {slots : ℕ} → ℕ → List (HeldFrame slots) → Type 0
HoldsAll ids held = (page : ℕ) → 8 * page < ids → is_held held page ≡ true

-- of these pages each is held that the store has
abbrev pub HasPages : {slots : ℕ} → ℕ → List ℕ → List (HeldFrame slots) → Type 0
HasPages ids pages held = AllByRecursion (λ page. 8 * page < ids → is_held held page ≡ true) pages
