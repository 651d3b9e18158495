-- The frames that a call works on, as they stand in a program.
use Rattle.std.proofs.Common.{◌≡◌, ℕ, ◌+◌, ◌-◌, ◌<◌, ◌≤◌, true, false, List, [], ◌∷◌, ◌++◌, length, get_or, set, take, refl, sym, ap, subst, ◌∙◌, ⊎_elim, inl, inr, arith, Option, None, Some, IfSome, eqb}
use Rattle.std.specs.Prelude.{◌==◌, ◌&&◌, nat_lt, is_some}
use Rattle.std.specs.Global.{Vec}
use Rattle.std.proofs.lemmas.Bool.Decides.{nat_tests}
use Rattle.std.proofs.lemmas.List.{length-take, length-append, length-set, append-nil, append_assoc, take-set-le, get_or-set_same, take_more}
use Rattle.std.proofs.lemmas.Bool.{ne_eqb, cases_eq, cases_Bool, eqb-true}
use Rattle.core_store.specs.declared.frame.Frame.{Frame}
use Rattle.core_store.specs.declared.three.HeldFrame.{HeldFrame}
use Rattle.core_store.specs.Frames.{pages_held, is_held, holds_nothing, AreOnce, Agree, numbered}
use Rattle.core_store.specs.Inside.{frames_of_all, held_in, AreThreeInside}
use Rattle.std.proofs.lemmas.List.Elements.{All-from_recursion}
use Rattle.std.proofs.lemmas.List.{map-append}
use Rattle.cell_model.specs.Cells.{Cell as StoredCell, edit}
use Rattle.cell_page.specs.declared.cell.Cell.{Cell}
use Rattle.cell_page.specs.Format.{IsCell, page_of_id, place_of}
use Rattle.cell_page.specs.Stored.{cell_of, HoldsPage}
use Rattle.cell_page.proofs.HeldPages.{HoldsPage-edit}
use Rattle.core_store.proofs.PageLaws.{id-low, id-high, is_held-put, AreOnce-put, AreOnce-pages, Agree-edit, Agree-other}
use Rattle.core_store.proofs.PagePlaces.{holds-place, pages-set, below, take-place, same-place, pages-place}
use Rattle.core_store.proofs.WholeLaws.{length-numbered, numbered-append, numbered-once, numbered-at, numbered-set, numbered-there, numbered-above, held-behind}

length-held-of : {slots : ℕ} (fs : List (Frame slots)) (hs : List (HeldFrame slots)) → length (numbered 0 fs ++ hs) ≡ length fs + length hs
length-held-of fs hs = length-append (numbered 0 fs) hs ∙ ap (λ (n : ℕ). n + length hs) (length-numbered 0 fs)

-- three frames, of which none is held
pub none-put : {slots : ℕ} (all : Option (Vec (Frame slots))) (frames : List (HeldFrame slots)) → length frames ≡ 3 → length (frames_of_all all) ≤ 65536 → AreThreeInside all frames 0
none-put {slots} all frames three small = record {
  three = three;
  most = omega arith;
  few = inl refl;
  small = small;
  once = subst (λ (hs : List (HeldFrame slots)). AreOnce hs) (sym (append-nil (numbered 0 (frames_of_all all)))) (numbered-once 0 (frames_of_all all));
}

pub none-held : {slots : ℕ} (all : Option (Vec (Frame slots))) (frames : List (HeldFrame slots)) → held_in all frames 0 ≡ numbered 0 (frames_of_all all)
none-held all frames = append-nil (numbered 0 (frames_of_all all))

module _ {slots : ℕ} {all : Option (Vec (Frame slots))} {frames : List (HeldFrame slots)} {count : ℕ} (k : AreThreeInside all frames count) where
  taken : length (take count frames) ≡ count
  taken = let n = length-take count frames in let three = k.three in let most = k.most in omega (arith, n, three, most)

  pub length-held : length (held_in all frames count) ≡ length (frames_of_all all) + count
  length-held = length-held-of (frames_of_all all) (take count frames) ∙ ap (λ (n : ℕ). length (frames_of_all all) + n) taken

  -- more than three are held only where those of all pages are
  pub more-all : nat_lt 3 (length (held_in all frames count)) ≡ nat_lt 3 (length (frames_of_all all))
  more-all = ⊎_elim
      (λ (none : count ≡ 0). ap (nat_lt 3) (let l = length-held in omega (arith, l, none)))
      (λ (few : length (frames_of_all all) + count ≤ 3). let l = length-held in both (length (held_in all frames count)) (length (frames_of_all all)) (omega (arith, l, few)) (omega (arith, few)))
      k.few
    where
      both : (m n : ℕ) → m ≤ 3 → n ≤ 3 → nat_lt 3 m ≡ nat_lt 3 n
      both m n a b = grind (arith, nat_tests)

  pub only-all : 3 < length (frames_of_all all) → held_in all frames count ≡ numbered 0 (frames_of_all all)
  only-all more = ⊎_elim
      (λ (none : count ≡ 0). ap (held_in all frames) none ∙ none-held all frames)
      (λ (few : length (frames_of_all all) + count ≤ 3). absurd (omega (arith, few, more)))
      k.few

  pub nothing : (length (frames_of_all all) ≡ 0) → count ≡ 0 → held_in all frames count ≡ []
  nothing none few = let l = length-held in empty (held_in all frames count) (omega (arith, l, none, few))
    where
      empty : (hs : List (HeldFrame slots)) → length hs ≡ 0 → hs ≡ []
      empty [] e = refl
      empty (h ∷ hs) e = absurd (omega (arith, e))

  -- where nothing is held, neither
  pub nothing-held : holds_nothing (held_in all frames count) ≡ (eqb count 0 && eqb (length (frames_of_all all)) 0)
  nothing-held = let l = length-held in by (held_in all frames count) (length (frames_of_all all)) count l
    where
      by : (hs : List (HeldFrame slots)) (m n : ℕ) → length hs ≡ m + n → holds_nothing hs ≡ (eqb n 0 && eqb m 0)
      by [] m n e = let a : m ≡ 0 = omega (arith, e) in let b : n ≡ 0 = omega (arith, e) in rw (a, b) refl
      by (h ∷ hs) m n e = elim (cases_eq n 0) [
        | inl b ↦ rw (b, ne_eqb m 0 (λ a. omega (arith, e, a, b))) refl
        | inr b ↦ rw (ne_eqb n 0 b) refl
      ]

  -- ---- one more

  pub put-kept : (h d : HeldFrame slots) → length (held_in all frames count) < 3 → is_held (held_in all frames count) h.page ≡ false → held_in all (set frames count h) (count + 1) ≡ held_in all frames count ++ h ∷ []
  put-kept h d room other = let l = length-held in
      ap (λ (hs : List (HeldFrame slots)). numbered 0 (frames_of_all all) ++ hs) (more-taken (omega (arith, l, room)))
      ∙ sym (append_assoc (numbered 0 (frames_of_all all)) (take count frames) (h ∷ []))
    where
      more-taken : count < 3 → take (count + 1) (set frames count h) ≡ take count frames ++ h ∷ []
      more-taken below =
          let three = k.three in
          let n = length-set frames count h in
          take_more (set frames count h) count d (omega (arith, three, n, below))
          ∙ ap (λ (x : HeldFrame slots). take count (set frames count h) ++ x ∷ []) (get_or-set_same frames count h d (omega (arith, three, below)))
          ∙ ap (λ (hs : List (HeldFrame slots)). hs ++ h ∷ []) (take-set-le count frames count h (omega arith))

  pub AreThreeInside-put : (h d : HeldFrame slots) → length (held_in all frames count) < 3 → is_held (held_in all frames count) h.page ≡ false → AreThreeInside all (set frames count h) (count + 1)
  AreThreeInside-put h d room other = let l = length-held in record {
    three = length-set frames count h ∙ k.three;
    most = omega (arith, l, room);
    few = inr (omega (arith, l, room));
    small = k.small;
    once = subst (λ (hs : List (HeldFrame slots)). AreOnce hs) (sym (put-kept h d room other)) (AreOnce-put (held_in all frames count) h k.once other);
  }

-- comparisons of numbers
pub lt-so : {m n : ℕ} → m < n → nat_lt m n ≡ true
lt-so {m} {n} l = grind (arith, nat_tests)

pub lt-not : {m n : ℕ} → n ≤ m → nat_lt m n ≡ false
lt-not {m} {n} l = grind (arith, nat_tests)

-- ---- the last one is taken

AreOnce-taken : {slots : ℕ} (hs : List (HeldFrame slots)) (h : HeldFrame slots) → AreOnce (hs ++ h ∷ []) → AreOnce hs
AreOnce-taken [] h once = tt
AreOnce-taken (x ∷ hs) h once = elim (cases_Bool (is_held hs x.page)) [
  | inl e ↦ absurd (let there : is_held (hs ++ h ∷ []) x.page ≡ true = is_held-put hs h x.page ∙ rw e refl in cc)
  | inr e ↦ (e, AreOnce-taken hs h once.1)
]

module _ {slots : ℕ} {all : Option (Vec (Frame slots))} {frames : List (HeldFrame slots)} {count : ℕ} (k : AreThreeInside all frames count) where
  pub taken-last : (d : HeldFrame slots) → 0 < count → held_in all frames count ≡ held_in all frames (count - 1) ++ get_or frames (count - 1) d ∷ []
  taken-last d some =
      let three = k.three in
      let most = k.most in
      let next : count - 1 + 1 ≡ count = omega (arith, some) in
      ap (λ (hs : List (HeldFrame slots)). numbered 0 (frames_of_all all) ++ hs) (sym (ap (λ n. take n frames) next) ∙ take_more frames (count - 1) d (omega (arith, three, most, some)))
      ∙ sym (append_assoc (numbered 0 (frames_of_all all)) (take (count - 1) frames) (get_or frames (count - 1) d ∷ []))

  pub AreThreeInside-taken : (d : HeldFrame slots) → 0 < count → AreThreeInside all frames (count - 1)
  AreThreeInside-taken d some = let most = k.most in record {
    three = k.three;
    most = omega (arith, most);
    few = ⊎_elim (λ (none : count ≡ 0). absurd (omega (arith, none, some))) (λ few. inr (omega (arith, few))) k.few;
    small = k.small;
    once = AreOnce-taken (held_in all frames (count - 1)) (get_or frames (count - 1) d) (subst (λ (hs : List (HeldFrame slots)). AreOnce hs) (taken-last d some) k.once);
  }

-- the last of those of all pages
pub taken-of-all : {slots : ℕ} (all new : Option (Vec (Frame slots))) (frames : List (HeldFrame slots)) (count : ℕ) (r : Option (ℕ × Frame slots)) → count ≡ 0
    → IfSome r (λ r. (frames_of_all all ≡ frames_of_all new ++ r.1 ∷ []) × (r.0 ≡ length (frames_of_all new)))
    → IfSome r (λ r. held_in all frames count ≡ held_in new frames count ++ record { page = r.0; frame = r.1 } ∷ [])
taken-of-all all new frames count None none last = tt
taken-of-all {slots} all new frames count (Some r) none last =
    let e : r.0 ≡ 0 + length (frames_of_all new) = last.1 ∙ omega arith in
    ap (held_in all frames) none
    ∙ (none-held all frames
    ∙ (ap (λ (fs : List (Frame slots)). numbered 0 fs) last.0
    ∙ (numbered-append 0 (frames_of_all new) (r.1 ∷ [])
    ∙ (ap (λ (n : ℕ). let h : HeldFrame slots = record { page = n; frame = r.1 } in numbered 0 (frames_of_all new) ++ h ∷ []) (sym e)
    ∙ ap (λ (hs : List (HeldFrame slots)). let h : HeldFrame slots = record { page = r.0; frame = r.1 } in hs ++ h ∷ []) (sym (none-held new frames) ∙ ap (held_in new frames) (sym none))))))

-- ---- a cell of one of them

Agree-both : {slots : ℕ} (cells : List StoredCell) (gs hs : List (HeldFrame slots)) → Agree cells (gs ++ hs) → Agree cells gs × Agree cells hs
Agree-both cells [] hs agree = (tt, agree)
Agree-both cells (g ∷ gs) hs agree = let rest = Agree-both cells gs hs agree.1 in ((agree.0, rest.0), rest.1)

both-Agree : {slots : ℕ} (cells : List StoredCell) (gs hs : List (HeldFrame slots)) → Agree cells gs → Agree cells hs → Agree cells (gs ++ hs)
both-Agree cells [] hs a b = b
both-Agree cells (g ∷ gs) hs a b = (a.0, both-Agree cells gs hs a.1 b)

AreOnce-right : {slots : ℕ} (gs hs : List (HeldFrame slots)) → AreOnce (gs ++ hs) → AreOnce hs
AreOnce-right [] hs once = once
AreOnce-right (g ∷ gs) hs once = AreOnce-right gs hs once.1

-- what is held among the first isn't among the others
AreOnce-apart : {slots : ℕ} (gs hs : List (HeldFrame slots)) (p : ℕ) → AreOnce (gs ++ hs) → is_held gs p ≡ true → is_held hs p ≡ false
AreOnce-apart [] hs p once there = absurd cc
AreOnce-apart (g ∷ gs) hs p once there = elim (cases_Bool (g.page == p)) [
  | inl e ↦ right gs hs p (subst (λ (q : ℕ). is_held (gs ++ hs) q ≡ false) (eqb-true g.page p e) once.0)
  | inr e ↦ AreOnce-apart gs hs p once.1 (rw e at there)
]
  where
    right : {slots : ℕ} (gs hs : List (HeldFrame slots)) (p : ℕ) → is_held (gs ++ hs) p ≡ false → is_held hs p ≡ false
    right [] hs p none = none
    right (x ∷ xs) hs p none = elim (cases_Bool (x.page == p)) [
      | inl e ↦ absurd (let there : is_held (x ∷ xs ++ hs) p ≡ true = rw e refl in cc)
      | inr e ↦ right xs hs p (rw e at none)
    ]

module _ {slots : ℕ} (all : Option (Vec (Frame slots))) (frames : List (HeldFrame slots)) (count : ℕ) (cells : List StoredCell) (agree : Agree cells (held_in all frames count)) where
  pub agree-put : Agree cells (take count frames)
  agree-put = (Agree-both cells (numbered 0 (frames_of_all all)) (take count frames) agree).1

  pub agree-all : Agree cells (numbered 0 (frames_of_all all))
  agree-all = (Agree-both cells (numbered 0 (frames_of_all all)) (take count frames) agree).0

  -- the page of the id among those of all pages
  pub holds-in-all : (id : ℕ) (e : Frame slots) → page_of_id id < length (frames_of_all all) → HoldsPage cells (page_of_id id) (get_or (frames_of_all all) (page_of_id id) e).page
  holds-in-all id e within =
      let d : HeldFrame slots = record { page = 0; frame = e } in
      let at = numbered-at 0 (frames_of_all all) (page_of_id id) d e within in
      let there : page_of_id id < length (numbered 0 (frames_of_all all)) = let n = length-numbered 0 (frames_of_all all) in omega (arith, n, within) in
      let h = All-from_recursion (λ (h : HeldFrame slots). HoldsPage cells h.page h.frame.page) (numbered 0 (frames_of_all all)) agree-all (page_of_id id) d there in
      let same : 0 + page_of_id id ≡ page_of_id id = omega arith in
      subst (λ (n : ℕ). HoldsPage cells n (get_or (frames_of_all all) (page_of_id id) e).page) same (subst (λ (h : HeldFrame slots). HoldsPage cells h.page h.frame.page) at h)

-- a page after those of all pages is among those that were put
pub held-put : {slots : ℕ} (all : Option (Vec (Frame slots))) (frames : List (HeldFrame slots)) (count p : ℕ) → length (frames_of_all all) ≤ p → is_held (held_in all frames count) p ≡ true → is_held (take count frames) p ≡ true
held-put all frames count p above there = sym (held-behind (frames_of_all all) (take count frames) p above) ∙ there

-- where more than three are held, they are those of all pages
pub whole-some : {slots : ℕ} (all : Option (Vec (Frame slots))) (frames : List (HeldFrame slots)) (count : ℕ) → AreThreeInside all frames count → nat_lt 3 (length (held_in all frames count)) ≡ true → IfSome all (λ fs. held_in all frames count ≡ numbered 0 fs.items) × (is_some all ≡ true)
whole-some None frames count k more = absurd (let e : nat_lt 3 0 ≡ true = sym (more-all k) ∙ more in cc)
whole-some {slots} (Some fs) frames count k more = let e : nat_lt 3 (length fs.items) ≡ true = sym (more-all k) ∙ more in (only-all k (so (length fs.items) e), refl)
  where
    so : (n : ℕ) → nat_lt 3 n ≡ true → 3 < n
    so n e = grind (arith, nat_tests)

-- ---- a cell of one of them changes

module _ {slots : ℕ} {all : Option (Vec (Frame slots))} {frames : List (HeldFrame slots)} {count : ℕ} (k : AreThreeInside all frames count) where
  -- one that was put
  module _ (place : ℕ) (h d : HeldFrame slots) (within : place < length (take count frames)) (same : h.page ≡ (get_or frames place d).page) where
    pub pages-changed : pages_held (held_in all (set frames place h) count) ≡ pages_held (held_in all frames count)
    pages-changed =
        map-append (λ x. x.page) (numbered 0 (frames_of_all all)) (take count (set frames place h))
        ∙ (ap (λ (ps : List ℕ). pages_held (numbered 0 (frames_of_all all)) ++ ps) (pages-place frames count place h d within same)
        ∙ sym (map-append (λ x. x.page) (numbered 0 (frames_of_all all)) (take count frames)))

    pub AreThreeInside-set : AreThreeInside all (set frames place h) count
    AreThreeInside-set = record {
      three = length-set frames place h ∙ k.three;
      most = k.most;
      few = k.few;
      small = k.small;
      once = AreOnce-pages (held_in all frames count) (held_in all (set frames place h) count) (sym pages-changed) k.once;
    }

  -- the held frames agree with the edited cells
  pub Agree-there : (cells : List StoredCell) (place : ℕ) (h d : HeldFrame slots) (id : ℕ) (f : StoredCell → StoredCell) → Agree cells (held_in all frames count)
      → place < length (take count frames) → (get_or (take count frames) place d).page ≡ page_of_id id → length (frames_of_all all) ≤ page_of_id id
      → h.page ≡ (get_or frames place d).page → HoldsPage (edit cells id f) (page_of_id id) h.frame.page → Agree (edit cells id f) (held_in all (set frames place h) count)
  Agree-there cells place h d id f agree within here behind number now =
      let put = agree-put all frames count cells agree in
      let same = same-place frames count place h d within number in
      both-Agree (edit cells id f) (numbered 0 (frames_of_all all)) (take count (set frames place h))
      (Agree-other cells (numbered 0 (frames_of_all all)) id f (agree-all all frames count cells agree) (numbered-above 0 (frames_of_all all) (page_of_id id) (omega (arith, behind))))
      (rw (take-place frames count place h d within number) (Agree-edit cells (take count frames) place h d id f (AreOnce-right (numbered 0 (frames_of_all all)) (take count frames) k.once) put within here (same ∙ here) now))

  pub Agree-place : (cells : List StoredCell) (place : ℕ) (h d : HeldFrame slots) (c : Cell slots) → Agree cells (held_in all frames count)
      → 0 < c.id → IsCell c.id c → place < length (take count frames) → (get_or (take count frames) place d).page ≡ page_of_id c.id
      → length (frames_of_all all) ≤ page_of_id c.id
      → h.page ≡ (get_or frames place d).page → h.frame.page ≡ set (get_or frames place d).frame.page (place_of c.id) c
      → Agree (edit cells c.id (λ _. cell_of c)) (held_in all (set frames place h) count)
  Agree-place cells place h d c agree above rules within here behind number placed =
      let put = agree-put all frames count cells agree in
      let was = holds-place cells frames count place c.id d put above within here in
      let now = HoldsPage-edit cells (page_of_id c.id) c.id (get_or frames place d).frame.page c (λ _. cell_of c) was (id-low c.id above) (id-high c.id above) rules refl in
      Agree-there cells place h d c.id (λ _. cell_of c) agree within here behind number (rw placed now)

  -- one of those of all pages
  module _ (new : Option (Vec (Frame slots))) (page : ℕ) (f : Frame slots) (within : page < length (frames_of_all all)) (is : frames_of_all new ≡ set (frames_of_all all) page f) where
    there : page < length (numbered 0 (frames_of_all all))
    there = let n = length-numbered 0 (frames_of_all all) in omega (arith, n, within)

    pub new-length : length (frames_of_all new) ≡ length (frames_of_all all)
    new-length = ap (length {A = Frame slots}) is ∙ length-set (frames_of_all all) page f

    new-all : numbered 0 (frames_of_all new) ≡ set (numbered 0 (frames_of_all all)) page (record { page = page; frame = f })
    new-all =
        let e : 0 + page ≡ page = omega arith in
        ap (λ (fs : List (Frame slots)). numbered 0 fs) is
        ∙ (numbered-set 0 (frames_of_all all) page f within
        ∙ ap (λ n. set (numbered 0 (frames_of_all all)) page (record { page = n; frame = f })) e)

    new-page : (d : HeldFrame slots) → page ≡ (get_or (numbered 0 (frames_of_all all)) page d).page
    new-page d =
        let e : 0 + page ≡ page = omega arith in
        sym (ap (λ (h : HeldFrame slots). h.page) (numbered-at 0 (frames_of_all all) page d f within) ∙ e)

    pub pages-in-all : pages_held (held_in new frames count) ≡ pages_held (held_in all frames count)
    pages-in-all =
        let h : HeldFrame slots = record { page = page; frame = f } in
        map-append (λ x. x.page) (numbered 0 (frames_of_all new)) (take count frames)
        ∙ (ap (λ (ps : List ℕ). ps ++ pages_held (take count frames)) (ap (λ (hs : List (HeldFrame slots)). pages_held hs) new-all ∙ pages-set (numbered 0 (frames_of_all all)) page h h (new-page h))
        ∙ sym (map-append (λ x. x.page) (numbered 0 (frames_of_all all)) (take count frames)))

    pub AreThreeInside-in-all : AreThreeInside new frames count
    AreThreeInside-in-all = let l = new-length in record {
      three = k.three;
      most = k.most;
      few = ⊎_elim (λ none. inl none) (λ few. inr (omega (arith, l, few))) k.few;
      small = let small = k.small in omega (arith, l, small);
      once = AreOnce-pages (held_in all frames count) (held_in new frames count) (sym pages-in-all) k.once;
    }

    pub Agree-in : (cells : List StoredCell) (id : ℕ) (g : StoredCell → StoredCell) → Agree cells (held_in all frames count) → page ≡ page_of_id id
        → HoldsPage (edit cells id g) (page_of_id id) f.page → Agree (edit cells id g) (held_in new frames count)
    Agree-in cells id g agree here now =
        let h : HeldFrame slots = record { page = page; frame = f } in
        let held = subst (λ n. is_held (numbered 0 (frames_of_all all)) n ≡ true) here (numbered-there 0 (frames_of_all all) page (omega arith) (omega (arith, within))) in
        both-Agree (edit cells id g) (numbered 0 (frames_of_all new)) (take count frames)
        (rw new-all (Agree-edit cells (numbered 0 (frames_of_all all)) page h h id g (numbered-once 0 (frames_of_all all)) (agree-all all frames count cells agree) there (sym (new-page h) ∙ here) here now))
        (Agree-other cells (take count frames) id g (agree-put all frames count cells agree) (AreOnce-apart (numbered 0 (frames_of_all all)) (take count frames) (page_of_id id) k.once held))

    pub Agree-in-all : (cells : List StoredCell) (e : Frame slots) (c : Cell slots) → Agree cells (held_in all frames count) → 0 < c.id → IsCell c.id c → page ≡ page_of_id c.id
        → f.page ≡ set (get_or (frames_of_all all) page e).page (place_of c.id) c → Agree (edit cells c.id (λ _. cell_of c)) (held_in new frames count)
    Agree-in-all cells e c agree above rules here placed =
        let was = holds-in-all all frames count cells agree c.id e (subst (λ n. n < length (frames_of_all all)) here within) in
        let now = HoldsPage-edit cells (page_of_id c.id) c.id (get_or (frames_of_all all) (page_of_id c.id) e).page c (λ _. cell_of c) was (id-low c.id above) (id-high c.id above) rules refl in
        Agree-in cells c.id (λ _. cell_of c) agree here (rw (placed, here) now)

-- ---- the page of an id, as a program finds it

module _ {slots : ℕ} (all : Option (Vec (Frame slots))) (frames : List (HeldFrame slots)) (count : ℕ) {now : List (HeldFrame slots)} (is : held_in all frames count ≡ now) (id : ℕ) {page : ℕ} {fs : List (Frame slots)} (of : fs ≡ frames_of_all all) (at : page ≡ page_of_id id) where
  -- among those of all pages
  pub page-in-all : {cells : List StoredCell} → Agree cells now → page < length fs → (e : Frame slots) → HoldsPage cells (page_of_id id) (get_or fs page e).page
  page-in-all {cells} agree within e =
      let short = subst (λ n. n < length (frames_of_all all)) at (subst (λ (xs : List (Frame slots)). page < length xs) of within) in
      let h = holds-in-all all frames count cells (subst (λ (hs : List (HeldFrame slots)). Agree cells hs) (sym is) agree) id e short in
      rw (at, of) h

  pub within-all : page < length fs → page_of_id id < length (frames_of_all all)
  within-all within = rw (← at, ← of) within

  pub behind-all : length fs ≤ page → length (frames_of_all all) ≤ page_of_id id
  behind-all beyond = rw (← at, ← of) beyond

  -- among those that were put
  pub page-put : {cells : List StoredCell} → Agree cells now → 0 < id → {place : ℕ} → place < length (take count frames) → (d : HeldFrame slots) → (get_or (take count frames) place d).page ≡ page → HoldsPage cells (page_of_id id) (get_or frames place d).frame.page
  page-put {cells} agree above {place} within d here =
      holds-place cells frames count place id d (agree-put all frames count cells (subst (λ (hs : List (HeldFrame slots)). Agree cells hs) (sym is) agree)) above within (here ∙ at)

  pub there-put : length fs ≤ page → is_held now (page_of_id id) ≡ true → is_held (take count frames) page ≡ true
  there-put beyond held = rw at (held-put all frames count (page_of_id id) (behind-all beyond) (ap (λ (hs : List (HeldFrame slots)). is_held hs (page_of_id id)) is ∙ held))
