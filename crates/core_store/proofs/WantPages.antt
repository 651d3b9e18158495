-- What is wanted where three pages stand for those of an object and of its targets.
use Rattle.std.proofs.Common.{◌≡◌, ℕ, true, false, List, [], ◌∷◌, ◌++◌, map, refl, sym, subst, ◌∙◌, inl, inr}
use Rattle.std.specs.Prelude.{◌==◌, ◌||◌, not, Bool, if◌then◌else◌, Option, Some, None}
use Rattle.std.proofs.lemmas.Bool.{cases_Bool}
use Rattle.cell_model.specs.Cells.{Cell as StoredCell, pointer_at}
use Rattle.cell_page.specs.Format.{page_of_id}
use Rattle.core_store.specs.declared.three.HeldFrame.{HeldFrame}
use Rattle.core_store.specs.declared.want.Want.{Want}
use Rattle.core_store.specs.declared.want.Want.TheVariants.{LetGo}
use Rattle.core_store.specs.Frames.{pages_held, is_page_among, are_all_among, is_held, holds_nothing}
use Rattle.core_store.specs.Logged.{if_any, begins_late, next_page, want_of}
use Rattle.core_store.specs.Work.{page_or, pages_of_work, three_pages}
use Rattle.core_store.proofs.PageLaws.{is_held-among}

-- the pages of an object, the first, and of two ids that may be null
abbrev pages_needed : ℕ → ℕ → ℕ → List ℕ
pages_needed first old target = first ∷ map page_of_id (if_any old ++ if_any target)

-- the same with the first for null
abbrev pages_filled : ℕ → ℕ → ℕ → List ℕ
pages_filled first old target = first ∷ page_or old first ∷ page_or target first ∷ []

-- what is wanted where the first of these pages is held
abbrev decided : List ℕ → List ℕ → Want
decided filled held = if not (are_all_among held filled) then LetGo else next_page filled held

twice : (a b : Bool) → (a || (a || b)) ≡ (a || b)
twice true b = refl
twice false b = refl

twice_last : (a b : Bool) → (a || (b || (a || false))) ≡ (a || (b || false))
twice_last true b = refl
twice_last false b = refl

-- the same pages are among them
among-filled : (p first old target : ℕ) → is_page_among p (pages_filled first old target) ≡ is_page_among p (pages_needed first old target)
among-filled p first old target =
    elim (cases_Bool (old == 0)) [
      | inl e ↦ elim (cases_Bool (target == 0)) [
        | inl f ↦ rw (e, f) (twice (first == p) ((first == p) || false) ∙ twice (first == p) false)
        | inr f ↦ rw (e, f) (twice (first == p) ((page_of_id target == p) || false))
      ]
      | inr e ↦ elim (cases_Bool (target == 0)) [
        | inl f ↦ rw (e, f) (twice_last (first == p) (page_of_id old == p))
        | inr f ↦ rw (e, f) refl
      ]
    ]

-- the same one is the next, where the first is held
next-filled : (first old target : ℕ) (held : List ℕ) → is_page_among first held ≡ true → next_page (pages_filled first old target) held ≡ next_page (pages_needed first old target) held
next-filled first old target held there =
    elim (cases_Bool (old == 0)) [
      | inl e ↦ elim (cases_Bool (target == 0)) [ inl f ↦ rw (e, f, there) refl | inr f ↦ rw (e, f, there) refl ]
      | inr e ↦ elim (cases_Bool (target == 0)) [ inl f ↦ rw (e, f, there) refl | inr f ↦ rw (e, f, there) refl ]
    ]

are_all-same : (held xs ys : List ℕ) → ((p : ℕ) → is_page_among p xs ≡ is_page_among p ys) → are_all_among held xs ≡ are_all_among held ys
are_all-same [] xs ys same = refl
are_all-same (h ∷ hs) xs ys same = rw (same h, are_all-same hs xs ys same) refl

begins-held : (first : ℕ) (rest held : List ℕ) → is_page_among first held ≡ true → begins_late (first ∷ rest) held ≡ false
begins-held first rest [] there = absurd cc
begins-held first rest (h ∷ hs) there = rw there refl

begins-other : (first : ℕ) (rest : List ℕ) (h : ℕ) (hs : List ℕ) → is_page_among first (h ∷ hs) ≡ false → begins_late (first ∷ rest) (h ∷ hs) ≡ true
begins-other first rest h hs other = rw other refl

want-begun : (needed filled held : List ℕ) → begins_late needed held ≡ false → are_all_among held filled ≡ are_all_among held needed → next_page filled held ≡ next_page needed held
    → want_of needed held ≡ decided filled held
want-begun needed filled held begun all next = rw (begun, all, next) refl

want-not_begun : (needed held : List ℕ) → begins_late needed held ≡ true → want_of needed held ≡ LetGo
want-not_begun needed held late = rw late refl

want-filled : (first old target : ℕ) (held : List ℕ) → is_page_among first held ≡ true
    → want_of (pages_needed first old target) held ≡ decided (pages_filled first old target) held
want-filled first old target held there =
    want-begun (pages_needed first old target) (pages_filled first old target) held (begins-held first (map page_of_id (if_any old ++ if_any target)) held there)
    (are_all-same held (pages_filled first old target) (pages_needed first old target) (λ p. among-filled p first old target)) (next-filled first old target held there)

-- ---- of a call's work

-- where others are held, but not the page of the object, all are let go
pub want-late : {slots : ℕ} (cells : List StoredCell) (id : ℕ) (change : Option (ℕ × ℕ)) (held : List (HeldFrame slots)) → holds_nothing held ≡ false → is_held held (page_of_id id) ≡ false
    → want_of (pages_of_work cells (Some (record { id = id; change = change }))) (pages_held held) ≡ LetGo
want-late cells id change [] some other = absurd cc
want-late cells id None (h ∷ hs) some other =
    let late = sym (is_held-among (h ∷ hs) (page_of_id id)) ∙ other in
    want-not_begun (page_of_id id ∷ []) (pages_held (h ∷ hs)) (begins-other (page_of_id id) [] h.page (pages_held hs) late)
want-late cells id (Some c) (h ∷ hs) some other =
    let late = sym (is_held-among (h ∷ hs) (page_of_id id)) ∙ other in
    let rest = map page_of_id (if_any (pointer_at cells id c.0).target ++ if_any c.1) in
    want-not_begun (page_of_id id ∷ rest) (pages_held (h ∷ hs)) (begins-other (page_of_id id) rest h.page (pages_held hs) late)

-- where it is held, the three pages are asked for
want-held : {slots : ℕ} (cells : List StoredCell) (id : ℕ) (change : Option (ℕ × ℕ)) (held : List (HeldFrame slots)) → is_held held (page_of_id id) ≡ true
    → want_of (pages_of_work cells (Some (record { id = id; change = change }))) (pages_held held)
    ≡ decided (three_pages cells (record { id = id; change = change })) (pages_held held)
want-held cells id None held there = want-filled (page_of_id id) 0 0 (pages_held held) (sym (is_held-among held (page_of_id id)) ∙ there)
want-held cells id (Some c) held there = want-filled (page_of_id id) (pointer_at cells id c.0).target c.1 (pages_held held) (sym (is_held-among held (page_of_id id)) ∙ there)

-- where one is held that isn't among them, all are let go
pub want-unneeded : {slots : ℕ} (cells : List StoredCell) (id : ℕ) (change : Option (ℕ × ℕ)) (held : List (HeldFrame slots)) (filled : List ℕ) → is_held held (page_of_id id) ≡ true
    → filled ≡ three_pages cells (record { id = id; change = change }) → are_all_among (pages_held held) filled ≡ false → want_of (pages_of_work cells (Some (record { id = id; change = change }))) (pages_held held) ≡ LetGo
want-unneeded cells id change held filled there is none = want-held cells id change held there ∙ subst (λ (ps : List ℕ). decided ps (pages_held held) ≡ LetGo) is (rw none refl)

-- else the next of them is wanted
pub want-next : {slots : ℕ} (cells : List StoredCell) (id : ℕ) (change : Option (ℕ × ℕ)) (held : List (HeldFrame slots)) (filled : List ℕ) → is_held held (page_of_id id) ≡ true
    → filled ≡ three_pages cells (record { id = id; change = change }) → are_all_among (pages_held held) filled ≡ true → want_of (pages_of_work cells (Some (record { id = id; change = change }))) (pages_held held) ≡ next_page filled (pages_held held)
want-next cells id change held filled there is all = want-held cells id change held there ∙ subst (λ (ps : List ℕ). decided ps (pages_held held) ≡ next_page filled (pages_held held)) is (rw all refl)
