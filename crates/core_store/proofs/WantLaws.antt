-- What follows from what a call wants of the held pages.
use Rattle.std.proofs.Common.{◌≡◌, ◌≢◌, ℕ, ◌*◌, ◌<◌, ◌≤◌, eqb, true, false, List, [], ◌∷◌, ◌++◌, length, map, refl, sym, ap, subst, ◌∙◌, inl, inr, arith}
use Rattle.std.specs.Prelude.{◌==◌}
use Rattle.std.specs.List.{AllByRecursion, IsDistinct}
use Rattle.std.specs.Set.{is_member}
use Rattle.std.proofs.Math.Bool.{or-true}
use Rattle.std.proofs.lemmas.Bool.{eq-eqb, eqb-true, cases_Bool}
use Rattle.std.proofs.lemmas.Bool.Decides.{nat_tests}
use Rattle.std.proofs.lemmas.Cmp.{nat_eq_equiv}
use Rattle.std.proofs.lemmas.List.{length-map}
use Rattle.std.proofs.lemmas.List.Folds.{list_any-append, list_all-append}
use Rattle.std.proofs.lemmas.Map.Keys.{IsDistinct-cons}
use Rattle.std.proofs.lemmas.Map.Made.{length-le_from_is_member}
use Rattle.cell_page.specs.Format.{page_of_id}
use Rattle.core_store.specs.declared.three.HeldFrame.{HeldFrame}
use Rattle.core_store.specs.declared.want.Want.{Want}
use Rattle.core_store.specs.declared.want.Want.TheVariants.{Page, LetGo, Ready}
use Rattle.core_store.specs.Frames.{pages_held, is_page_among, are_all_among, is_held, AreOnce, HasPages, HoldsAll}
use Rattle.core_store.specs.Logged.{begins_late, next_page, want_of}
use Rattle.core_store.proofs.PageLaws.{page-there, is_held-among, pages_held-put}

-- ---- pages among others

among-all : (q : ℕ) (held needed : List ℕ) → are_all_among held needed ≡ true → is_page_among q held ≡ true → is_page_among q needed ≡ true
among-all q [] needed all there = absurd cc
among-all q (h ∷ hs) needed all there =
    elim (cases_Bool (is_page_among h needed)) [
      | inl first ↦ elim (cases_Bool (h == q)) [
        | inl e ↦ rw (← eqb-true h q e) first
        | inr e ↦ among-all q hs needed (rw first at all) (rw e at there)
      ]
      | inr lost ↦ absurd (let none : are_all_among (h ∷ hs) needed ≡ false = rw lost refl in cc)
    ]

each-among : (held needed : List ℕ) → are_all_among held needed ≡ true → AllByRecursion (λ p. is_page_among p needed ≡ true) held
each-among [] needed all = tt
each-among (h ∷ hs) needed all =
    elim (cases_Bool (is_page_among h needed)) [
      | inl first ↦ (first, each-among hs needed (rw first at all))
      | inr lost ↦ absurd (let none : are_all_among (h ∷ hs) needed ≡ false = rw lost refl in cc)
    ]

-- the pages are numbers that differ
as-member : (q : ℕ) (xs : List ℕ) → is_page_among q xs ≡ is_member eqb xs q
as-member q [] = refl
as-member q (x ∷ xs) = let rest = as-member q xs in grind (arith, nat_tests)

none-apart : (q : ℕ) (xs : List ℕ) → is_page_among q xs ≡ false → AllByRecursion (λ x. eqb q x ≡ false) xs
none-apart q [] none = tt
none-apart q (x ∷ xs) none =
    elim (cases_Bool (x == q)) [
      | inl e ↦ absurd (let some : is_page_among q (x ∷ xs) ≡ true = rw e refl in cc)
      | inr e ↦ (grind (arith, nat_tests), none-apart q xs (rw e at none))
    ]

once-distinct : {slots : ℕ} (held : List (HeldFrame slots)) → AreOnce held → IsDistinct eqb (pages_held held)
unfolding IsDistinct
once-distinct [] once = tt
once-distinct (h ∷ hs) once = IsDistinct-cons eqb h.page (pages_held hs) (none-apart h.page (pages_held hs) (sym (is_held-among hs h.page) ∙ once.0)) (once-distinct hs once.1)

-- where a page is needed that isn't held, and all that are held are needed, fewer are held than needed
fewer : (p : ℕ) (held needed : List ℕ) → IsDistinct eqb held → is_page_among p held ≡ false → are_all_among held needed ≡ true → is_page_among p needed ≡ true → length held < length needed
fewer p held needed distinct other all among =
    let le : length (p ∷ held) ≤ length needed = length-le_from_is_member nat_eq_equiv (p ∷ held) needed (IsDistinct-cons eqb p held (none-apart p held other) distinct) (λ q there.
    sym (as-member q needed) ∙ among-all q (p ∷ held) needed (rw (among, all) refl) (as-member q (p ∷ held) ∙ there)) in
    omega (arith, le)

-- ---- the first of the needed pages that isn't held

next_page-stays : (needed held : List ℕ) → next_page needed held ≢ LetGo
next_page-stays [] held e = absurd cc
next_page-stays (n ∷ needed) held e =
    elim (cases_Bool (is_page_among n held)) [
      | inl there ↦ next_page-stays needed held (rw there at e)
      | inr other ↦ absurd (let next : next_page (n ∷ needed) held ≡ Page n = rw other refl in cc)
    ]

next_page-is : (needed held : List ℕ) (p : ℕ) → next_page needed held ≡ Page p → (is_page_among p held ≡ false) × (is_page_among p needed ≡ true)
next_page-is [] held p e = absurd cc
next_page-is (n ∷ needed) held p e =
    elim (cases_Bool (is_page_among n held)) [
      | inl there ↦
          let rest = next_page-is needed held p (rw there at e) in
          (rest.0, rw (rest.1) (or-true (n == p)))
      | inr other ↦
          let next : next_page (n ∷ needed) held ≡ Page n = rw other refl in
          let same : n ≡ p = cc in
          (subst (λ (q : ℕ). is_page_among q held ≡ false) same other, rw (eq-eqb n p same) refl)
    ]

next_page-ready : (needed held : List ℕ) → next_page needed held ≡ Ready → AllByRecursion (λ p. is_page_among p held ≡ true) needed
next_page-ready [] held e = tt
next_page-ready (n ∷ needed) held e =
    elim (cases_Bool (is_page_among n held)) [
      | inl there ↦ (there, next_page-ready needed held (rw there at e))
      | inr other ↦ absurd (let next : next_page (n ∷ needed) held ≡ Page n = rw other refl in cc)
    ]

-- with the next page put to them, the held pages begin with the first
begins-put : (needed held : List ℕ) (p : ℕ) → begins_late needed held ≡ false → next_page needed held ≡ Page p → begins_late needed (held ++ p ∷ []) ≡ false
begins-put [] held p begun next = refl
begins-put (n ∷ needed) [] p begun next = let same : n ≡ p = cc in rw (eq-eqb p n (sym same)) refl
begins-put (n ∷ needed) (h ∷ hs) p begun next =
    elim (cases_Bool (is_page_among n (h ∷ hs))) [
      | inl there ↦ let more : is_page_among n (h ∷ hs ++ p ∷ []) ≡ true = list_any-append (λ q. q == n) (h ∷ hs) (p ∷ []) ∙ rw there refl in rw more refl
      | inr other ↦ absurd (let late : begins_late (n ∷ needed) (h ∷ hs) ≡ true = rw other refl in cc)
    ]

-- what holds where the pages aren't let go
record IsWantMet (needed held : List ℕ) (wanted : Want) : Type 0 where
  begun : begins_late needed held ≡ false
  all : are_all_among held needed ≡ true
  next : next_page needed held ≡ wanted

kept : (needed held : List ℕ) (wanted : Want) → want_of needed held ≡ wanted → wanted ≢ LetGo → IsWantMet needed held wanted
kept needed held wanted e other =
    elim (cases_Bool (begins_late needed held)) [
      | inl late ↦ absurd (other (let go : want_of needed held ≡ LetGo = rw late refl in cc))
      | inr begun ↦ elim (cases_Bool (are_all_among held needed)) [
        | inl all ↦ record { begun = begun; all = all; next = rw (begun, all) at e }
        | inr lost ↦ absurd (other (let go : want_of needed held ≡ LetGo = rw (begun, lost) refl in cc))
      ]
    ]

want-kept : (needed held : List ℕ) → begins_late needed held ≡ false → are_all_among held needed ≡ true → want_of needed held ≢ LetGo
want-kept needed held begun all e = next_page-stays needed held (rw (begun, all) at e)

-- that a page is held is said of the frames, too
each-held : {slots : ℕ} (held : List (HeldFrame slots)) (needed : List ℕ) → AllByRecursion (λ p. is_page_among p (pages_held held) ≡ true) needed → AllByRecursion (λ p. is_held held p ≡ true) needed
each-held held [] all = tt
each-held held (n ∷ needed) all = (is_held-among held n ∙ all.0, each-held held needed all.1)

-- ---- the laws

module _ {slots : ℕ} (needed : List ℕ) (held : List (HeldFrame slots)) (p : ℕ) (wants : want_of needed (pages_held held) ≡ Page p) where
  is-kept : IsWantMet needed (pages_held held) (Page p)
  is-kept = kept needed (pages_held held) (Page p) wants (λ e. absurd cc)

  -- the wanted page isn't held
  pub wanted-other : is_held held p ≡ false
  wanted-other = is_held-among held p ∙ (next_page-is needed (pages_held held) p is-kept.next).0

  -- it is one of the needed ones
  pub wanted-needed : is_page_among p needed ≡ true
  wanted-needed = (next_page-is needed (pages_held held) p is-kept.next).1

  -- three frames have room for it
  pub wanted-room : length needed ≤ 3 → AreOnce held → length held < 3
  wanted-room few once =
      let less = fewer p (pages_held held) needed (once-distinct held once) (next_page-is needed (pages_held held) p is-kept.next).0 is-kept.all wanted-needed in
      omega (arith, less, length-map held (λ (h : HeldFrame slots). h.page))

  -- where it is put to the held ones, they go on to be needed
  pub wanted-put : (h : HeldFrame slots) → h.page ≡ p → want_of needed (pages_held (held ++ h ∷ [])) ≢ LetGo
  wanted-put h is =
      let among : is_page_among h.page needed ≡ true = rw is wanted-needed in
      let all : are_all_among (pages_held held ++ h.page ∷ []) needed ≡ true = list_all-append (λ q. is_page_among q needed) (pages_held held) (h.page ∷ []) ∙ rw (is-kept.all, among) refl in
      rw (pages_held-put held h) (want-kept needed (pages_held held ++ h.page ∷ []) (begins-put needed (pages_held held) h.page is-kept.begun (is-kept.next ∙ ap (λ (q : ℕ). Page q) (sym is))) all)

-- where nothing is held, nothing is to be let go
pub wanted-first : (needed : List ℕ) → want_of needed [] ≢ LetGo
wanted-first [] e = absurd cc
wanted-first (n ∷ needed) e = absurd cc

module _ {slots : ℕ} (needed : List ℕ) (held : List (HeldFrame slots)) (wants : want_of needed (pages_held held) ≡ Ready) where
  is-ready : IsWantMet needed (pages_held held) Ready
  is-ready = kept needed (pages_held held) Ready wants (λ e. absurd cc)

  -- each needed page is held
  pub ready-all : AllByRecursion (λ p. is_held held p ≡ true) needed
  ready-all = each-held held needed (next_page-ready needed (pages_held held) is-ready.next)

  -- and no other
  pub ready-only : AllByRecursion (λ p. is_page_among p needed ≡ true) (pages_held held)
  ready-only = each-among (pages_held held) needed is-ready.all

-- a needed page is one of the store's, where the objects are
pub needed-there : (ids p : ℕ) (objects : List ℕ) → AllByRecursion (λ id. (0 < id) × (id ≤ ids)) objects → is_page_among p (map page_of_id objects) ≡ true → 8 * p < ids
needed-there ids p [] within there = absurd cc
needed-there ids p (id ∷ objects) within there =
    elim (cases_Bool (page_of_id id == p)) [
      | inl e ↦ subst (λ (q : ℕ). 8 * q < ids) (eqb-true (page_of_id id) p e) (page-there ids id within.0.0 within.0.1)
      | inr e ↦ needed-there ids p objects within.1 (rw e at there)
    ]

-- ---- the pages that are needed are held

-- where they are ready
pub ready-has : {slots : ℕ} (ids : ℕ) (needed : List ℕ) (held : List (HeldFrame slots)) → want_of needed (pages_held held) ≡ Ready → HasPages ids needed held
ready-has ids needed held ready = each needed held (ready-all needed held ready)
  where
    each : {slots : ℕ} (needed : List ℕ) (held : List (HeldFrame slots)) → AllByRecursion (λ p. is_held held p ≡ true) needed → HasPages ids needed held
    each [] held all = tt
    each (p ∷ needed) held all = (λ there. all.0, each needed held all.1)

-- where all pages of the store are
pub all-has : {slots : ℕ} (ids : ℕ) (needed : List ℕ) (held : List (HeldFrame slots)) → HoldsAll ids held → HasPages ids needed held
all-has ids [] held all = tt
all-has ids (p ∷ needed) held all = (all p, all-has ids needed held all)

-- those of objects of the store
pub has-objects : {slots : ℕ} (ids : ℕ) (objects : List ℕ) (held : List (HeldFrame slots)) → AllByRecursion (λ id. (0 < id) × (id ≤ ids)) objects → HasPages ids (map page_of_id objects) held → AllByRecursion (λ id. is_held held (page_of_id id) ≡ true) objects
has-objects ids [] held within has = tt
has-objects ids (id ∷ objects) held within has = (has.0 (page-there ids id within.0.0 within.0.1), has-objects ids objects held within.1 has.1)

pub all-objects : {slots : ℕ} (ids : ℕ) (objects : List ℕ) (held : List (HeldFrame slots)) → AllByRecursion (λ id. (0 < id) × (id ≤ ids)) objects → HoldsAll ids held → AllByRecursion (λ id. is_held held (page_of_id id) ≡ true) objects
all-objects ids objects held within all = has-objects ids objects held within (all-has ids (map page_of_id objects) held all)
