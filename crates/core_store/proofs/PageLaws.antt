-- Held pages beside the cells of a store.
use Rattle.std.proofs.Common.{◌≡◌, ◌≢◌, ℕ, zero, suc, ◌+◌, ◌-◌, ◌*◌, ◌<◌, ◌≤◌, ◌⊎◌, true, false, List, [], ◌∷◌, ◌++◌, length, get_or, set, take, drop, refl, sym, ap, subst, ◌∙◌, inl, inr, arith}
use Rattle.std.specs.Prelude.{◌==◌, ◌||◌}
use Rattle.std.specs.List.{AllByRecursion}
use Rattle.std.proofs.lemmas.Bool.{ne_eqb, eq-eqb, cases_Bool, cases_lt, cases_eq}
use Rattle.std.proofs.Math.Bool.{or-false, or_assoc}
use Rattle.std.proofs.lemmas.List.{map-append, drop-set-lt, drop-set-add, take-set-le}
use Rattle.std.proofs.lemmas.List.Folds.{list_any_at}
use Rattle.cell_model.specs.Cells.{Cell as StoredCell, cell_at, edit}
use Rattle.cell_page.specs.Format.{first_id, page_of_id}
use Rattle.cell_page.specs.Stored.{page_of, HoldsPage}
use Rattle.cell_page.proofs.HeldPages.{HoldsPage-other}
use Rattle.core_store.specs.declared.three.HeldFrame.{HeldFrame}
use Rattle.core_store.specs.Frames.{pages_held, is_page_among, is_held, AreOnce, Agree, IsSameElsewhere}

-- ---- ids and their pages

-- an id lies in its page
pub id-low : (id : ℕ) → 0 < id → first_id (page_of_id id) ≤ id
id-low id above = omega arith

pub id-high : (id : ℕ) → 0 < id → id < first_id (page_of_id id) + 8
id-high id above = omega arith

-- and in no other
lt_cases : (m n : ℕ) → m ≢ n → (m < n) ⊎ (n < m)
lt_cases m n other = elim (cases_lt m n) [ inl below ↦ inl below | inr above ↦ inr (omega arith) ]

pub id-apart : (page id : ℕ) → page ≢ page_of_id id → (id < first_id page) ⊎ (first_id page + 8 ≤ id)
id-apart page id other =
    elim (lt_cases page (page_of_id id) other) [
      | inl below ↦ inr (omega arith)
      | inr above ↦ inl (omega arith)
    ]

-- the largest store has 8,192 ids, in 1,024 pages
pub page-below : (id : ℕ) → id ≤ 8192 → page_of_id id < 1024
page-below id most = omega arith

pub id-small : (id : ℕ) → id ≤ 8192 → id < 65536
id-small id most = omega arith

-- the page of an id of a store is one of the store's
pub page-there : (ids id : ℕ) → 0 < id → id ≤ ids → 8 * page_of_id id < ids
page-there ids id above most = omega arith

-- ---- numbers that are told apart

not_same : (m n : ℕ) → (m == n) ≡ false → m ≢ n
not_same m n other e = let same = eq-eqb m n e in absurd cc

apart_back : (m n : ℕ) → (m == n) ≡ false → (n == m) ≡ false
apart_back m n other = ne_eqb n m (λ e. not_same m n other (sym e))

-- ---- which pages are held

-- that a page is held says no more than that it is among the pages that are
pub is_held-among : {slots : ℕ} (hs : List (HeldFrame slots)) (page : ℕ) → is_held hs page ≡ is_page_among page (pages_held hs)
is_held-among [] page = refl
is_held-among (h ∷ hs) page = rw (is_held-among hs page) refl

pub is_held-pages : {slots : ℕ} (hs ks : List (HeldFrame slots)) (page : ℕ) → pages_held hs ≡ pages_held ks → is_held hs page ≡ is_held ks page
is_held-pages hs ks page same = is_held-among hs page ∙ ap (λ (ps : List ℕ). is_page_among page ps) same ∙ sym (is_held-among ks page)

pub held-at : {slots : ℕ} (hs : List (HeldFrame slots)) (k : ℕ) (d : HeldFrame slots) → k < length hs → is_held hs (get_or hs k d).page ≡ true
held-at hs k d within = list_any_at (λ h. h.page == (get_or hs k d).page) hs k d within (eq-eqb (get_or hs k d).page (get_or hs k d).page refl)

-- what is held is held, and no page besides, where one frame more is
pub is_held-put : {slots : ℕ} (hs : List (HeldFrame slots)) (h : HeldFrame slots) (page : ℕ) → is_held (hs ++ h ∷ []) page ≡ (is_held hs page || (h.page == page))
is_held-put [] h page = or-false (h.page == page)
is_held-put (x ∷ hs) h page = rw (is_held-put hs h page) (sym (or_assoc (x.page == page) (is_held hs page) (h.page == page)))

pub pages_held-put : {slots : ℕ} (hs : List (HeldFrame slots)) (h : HeldFrame slots) → pages_held (hs ++ h ∷ []) ≡ pages_held hs ++ h.page ∷ []
pages_held-put hs h = map-append (λ x. x.page) hs (h ∷ [])

-- two lists of frames of the same pages hold no page twice alike
pub AreOnce-pages : {slots : ℕ} (hs ks : List (HeldFrame slots)) → pages_held hs ≡ pages_held ks → AreOnce hs → AreOnce ks
AreOnce-pages hs [] same once = tt
AreOnce-pages [] (k ∷ ks) same once = absurd cc
AreOnce-pages (h ∷ hs) (k ∷ ks) same once =
    let head : h.page ≡ k.page = cc in
    let tail : pages_held hs ≡ pages_held ks = cc in
    (sym (is_held-pages hs ks k.page tail) ∙ subst (λ (p : ℕ). is_held hs p ≡ false) head once.0, AreOnce-pages hs ks tail once.1)

pub AreOnce-put : {slots : ℕ} (hs : List (HeldFrame slots)) (h : HeldFrame slots) → AreOnce hs → is_held hs h.page ≡ false → AreOnce (hs ++ h ∷ [])
AreOnce-put [] h once other = (refl, tt)
AreOnce-put (x ∷ hs) h once other =
    elim (cases_Bool (x.page == h.page)) [
      | inl e ↦ absurd cc
      | inr e ↦ (rw (is_held-put hs h x.page, once.0) (apart_back x.page h.page e), AreOnce-put hs h once.1 (rw e at other))
    ]

-- the frames agree where one more does
pub Agree-put : {slots : ℕ} (cells : List StoredCell) (hs : List (HeldFrame slots)) (h : HeldFrame slots) → Agree cells hs → HoldsPage cells h.page h.frame.page → Agree cells (hs ++ h ∷ [])
Agree-put cells [] h agree holds = (holds, tt)
Agree-put cells (x ∷ hs) h agree holds = (agree.0, Agree-put cells hs h agree.1 holds)

-- and where the last is taken away
pub Agree-taken : {slots : ℕ} (cells : List StoredCell) (hs : List (HeldFrame slots)) (h : HeldFrame slots) → Agree cells (hs ++ h ∷ []) → Agree cells hs × HoldsPage cells h.page h.frame.page
Agree-taken cells [] h agree = (tt, agree.0)
Agree-taken cells (x ∷ hs) h agree = let rest = Agree-taken cells hs h agree.1 in ((agree.0, rest.0), rest.1)

-- what holds of all holds of the last and of those before
pub each-taken : {slots : ℕ} (P : HeldFrame slots → Type 0) (hs : List (HeldFrame slots)) (h : HeldFrame slots) → AllByRecursion P (hs ++ h ∷ []) → AllByRecursion P hs × P h
each-taken P [] h all = (tt, all.0)
each-taken P (x ∷ hs) h all = let rest = each-taken P hs h all.1 in ((all.0, rest.0), rest.1)

-- ---- an edit of one cell

-- held pages that aren't the edited cell's agree as before
pub Agree-other : {slots : ℕ} (cells : List StoredCell) (hs : List (HeldFrame slots)) (id : ℕ) (f : StoredCell → StoredCell) → Agree cells hs
    → is_held hs (page_of_id id) ≡ false → Agree (edit cells id f) hs
Agree-other cells [] id f agree other = tt
Agree-other cells (h ∷ hs) id f agree other =
    elim (cases_Bool (h.page == page_of_id id)) [
      | inl e ↦ absurd cc
      | inr e ↦ (HoldsPage-other cells h.page id h.frame.page f agree.0 (id-apart h.page id (not_same h.page (page_of_id id) e)), Agree-other cells hs id f agree.1 (rw e at other))
    ]

-- the held page of the cell takes the change, and all agree again
pub Agree-edit : {slots : ℕ} (cells : List StoredCell) (hs : List (HeldFrame slots)) (k : ℕ) (h d : HeldFrame slots) (id : ℕ) (f : StoredCell → StoredCell)
    → AreOnce hs → Agree cells hs → k < length hs → (get_or hs k d).page ≡ page_of_id id → h.page ≡ page_of_id id
    → HoldsPage (edit cells id f) (page_of_id id) h.frame.page → Agree (edit cells id f) (set hs k h)
Agree-edit cells [] k h d id f once agree within here is holds = tt
Agree-edit {slots} cells (x ∷ xs) zero h d id f once agree within here is holds =
    (subst (λ (p : ℕ). HoldsPage (edit cells id f) p h.frame.page) (sym is) holds, Agree-other cells xs id f agree.1 (subst (λ (p : ℕ). is_held xs p ≡ false) here once.0))
Agree-edit cells (x ∷ xs) (suc k) h d id f once agree within here is holds =
    let lower : k < length xs = omega arith in
    let there : is_held xs (page_of_id id) ≡ true = subst (λ (p : ℕ). is_held xs p ≡ true) here (held-at xs k d lower) in
    let other : x.page ≢ page_of_id id = λ e. let no : is_held xs (page_of_id id) ≡ false = subst (λ (p : ℕ). is_held xs p ≡ false) e once.0 in absurd cc in
    (HoldsPage-other cells x.page id x.frame.page f agree.0 (id-apart x.page id other), Agree-edit cells xs k h d id f once.1 agree.1 lower here is holds)

-- ---- pages that aren't held

pub elsewhere-refl : {slots : ℕ} (cells : List StoredCell) (hs : List (HeldFrame slots)) → IsSameElsewhere cells cells hs
elsewhere-refl cells hs page other = refl

pub elsewhere-trans : {slots : ℕ} (cells middle after : List StoredCell) (hs : List (HeldFrame slots)) → IsSameElsewhere cells middle hs → IsSameElsewhere middle after hs → IsSameElsewhere cells after hs
elsewhere-trans cells middle after hs first second page other = second page other ∙ first page other

-- which pages are held is all that counts
pub elsewhere-pages : {slots : ℕ} (cells after : List StoredCell) (hs ks : List (HeldFrame slots)) → pages_held hs ≡ pages_held ks → IsSameElsewhere cells after hs → IsSameElsewhere cells after ks
elsewhere-pages cells after hs ks same elsewhere page other = elsewhere page (is_held-pages hs ks page same ∙ other)

-- another page stays where a cell is edited
pub page_of-other : (cells : List StoredCell) (page id : ℕ) (f : StoredCell → StoredCell) → page ≢ page_of_id id → page_of (edit cells id f) page ≡ page_of cells page
page_of-other cells page id f other = elim (cases_eq id 0) [
  | inl none ↦ rw none refl
  | inr some ↦
      let v = f (cell_at cells id) in
      let is : edit cells id f ≡ set cells id v = rw (ne_eqb id 0 some) refl in
      ap (λ (xs : List StoredCell). page_of xs page) is ∙ kept cells page id v (id-apart page id other)
]
  where
    kept : (cells : List StoredCell) (page id : ℕ) (v : StoredCell) → (id < first_id page) ⊎ (first_id page + 8 ≤ id) → page_of (set cells id v) page ≡ page_of cells page
    kept cells page id v (inl below) = ap (λ (xs : List StoredCell). take 8 xs) (drop-set-lt (first_id page) cells id v below)
    kept cells page id v (inr above) =
        let at : first_id page + (id - first_id page) ≡ id = omega arith in
        ap (λ (n : ℕ). take 8 (drop (first_id page) (set cells n v))) (sym at)
        ∙ ap (λ (xs : List StoredCell). take 8 xs) (drop-set-add (first_id page) cells (id - first_id page) v)
        ∙ take-set-le 8 (drop (first_id page) cells) (id - first_id page) v (omega arith)

-- where the page of the edited cell is held, the others stay
pub elsewhere-edit : {slots : ℕ} (cells : List StoredCell) (hs : List (HeldFrame slots)) (id : ℕ) (f : StoredCell → StoredCell) → is_held hs (page_of_id id) ≡ true → IsSameElsewhere cells (edit cells id f) hs
elsewhere-edit cells hs id f held page other =
    page_of-other cells page id f (λ e. let no : is_held hs (page_of_id id) ≡ false = subst (λ (p : ℕ). is_held hs p ≡ false) e other in absurd cc)
