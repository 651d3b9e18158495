-- A cell changes in its page, where that stands among the frames that a call works on.
use Rattle.std.proofs.Common.{◌≡◌, ℕ, ◌<◌, ◌≤◌, true, List, length, map, get_or, set, take, refl, sym, ap, subst, ◌∙◌, Option, Some}
use Rattle.std.specs.Global.{Vec}
use Rattle.cell_model.specs.Cells.{Cell as StoredCell, cell_at, is_live, edit}
use Rattle.cell_page.specs.declared.cell.Cell.{Cell}
use Rattle.cell_page.specs.Format.{IsPage, HasId, page_of_id}
use Rattle.cell_page.specs.Stored.{cell_of, HoldsPage, stored_at, edit_stored}
use Rattle.core_store.specs.declared.frame.Frame.{Frame}
use Rattle.core_store.specs.declared.three.HeldFrame.{HeldFrame}
use Rattle.core_store.specs.Frames.{pages_held, Agree}
use Rattle.core_store.specs.Inside.{frames_of_all, held_in, AreThreeInside}
use Rattle.core_store.proofs.PagePlaces.{HasId-held, seen-held, seen-edited, holds-edited}
use Rattle.core_store.proofs.ThreeLaws.{page-in-all, page-put, behind-all, AreThreeInside-set, AreThreeInside-in-all, pages-changed, pages-in-all, Agree-there, Agree-in}

-- ---- the page of an id, whatever cells are held

module _ {slots : ℕ} (now : List (HeldFrame slots)) (id : ℕ) (above : 0 < id) (page : List (Cell slots)) (holds : (cells : List StoredCell) → Agree cells now → HoldsPage cells (page_of_id id) page) where
  pub has-id : (cells : List StoredCell) → Agree cells now → HasId page id
  has-id cells agree = HasId-held cells id page above (holds cells agree)

  pub seen : (cells : List StoredCell) → Agree cells now → stored_at (map cell_of page) id ≡ cell_at cells id
  seen cells agree = seen-held cells id page above (holds cells agree)

  -- what is so of the store's cell is so of the page's
  pub of-page : (P : StoredCell → Type 0) (cells : List StoredCell) → Agree cells now → P (cell_at cells id) → P (stored_at (map cell_of page) id)
  of-page P cells agree p = subst P (sym (seen cells agree)) p

  module _ (new : List (Cell slots)) (f : StoredCell → StoredCell) (model : map cell_of new ≡ edit_stored (map cell_of page) id f) where
    pub seen-then : (cells : List StoredCell) → Agree cells now → stored_at (map cell_of new) id ≡ f (cell_at cells id)
    seen-then cells agree = seen-edited cells id page above (holds cells agree) new f model

    pub holds-then : (some : List StoredCell) → Agree some now → is_live some id ≡ true → ((n : ℕ) → IsPage n page → (stored_at (map cell_of page) id).live ≡ true → IsPage n new)
        → (cells : List StoredCell) → Agree cells now → HoldsPage (edit cells id f) (page_of_id id) new
    holds-then some these live kept cells agree =
        let alive : is_live cells id ≡ true = ap (λ (c : StoredCell). c.live) (sym (seen cells agree) ∙ seen some these) ∙ live in
        holds-edited cells id page above (holds cells agree) new f model alive kept

-- ---- where it stands

module _ {slots : ℕ} {all : Option (Vec (Frame slots))} {frames : List (HeldFrame slots)} {count : ℕ} (k : AreThreeInside all frames count) {now : List (HeldFrame slots)} (view : held_in all frames count ≡ now)
    (id : ℕ) {page : ℕ} {fs : List (Frame slots)} (of : fs ≡ frames_of_all all) (at : page ≡ page_of_id id) where
  agree-before : (cells : List StoredCell) → Agree cells now → Agree cells (held_in all frames count)
  agree-before cells agree = subst (λ (hs : List (HeldFrame slots)). Agree cells hs) (sym view) agree

  -- among those of all pages
  module _ (within : page < length fs) (vec : Vec (Frame slots)) (is : all ≡ Some vec) (x : Frame slots) (here : x ≡ get_or vec.items page x) where
    items-of : vec.items ≡ frames_of_all all
    items-of = ap (λ (o : Option (Vec (Frame slots))). frames_of_all o) (sym is)

    short : page < length (frames_of_all all)
    short = subst (λ (xs : List (Frame slots)). page < length xs) of within

    short-items : page < length vec.items
    short-items = subst (λ (xs : List (Frame slots)). page < length xs) (sym items-of) short

    pub holds-all : (cells : List StoredCell) → Agree cells now → HoldsPage cells (page_of_id id) x.page
    holds-all cells agree = subst (λ (f : Frame slots). HoldsPage cells (page_of_id id) f.page) (sym here) (page-in-all all frames count view id items-of at agree short-items x)

    module _ (new : Option (Vec (Frame slots))) (y : List (Cell slots)) (put : frames_of_all new ≡ set vec.items page (record { page = y })) where
      set-of : frames_of_all new ≡ set (frames_of_all all) page (record { page = y })
      set-of = put ∙ ap (λ (xs : List (Frame slots)). set xs page (record { page = y })) items-of

      pub kept-all : AreThreeInside new frames count
      kept-all = AreThreeInside-in-all k new page (record { page = y }) short set-of

      pub pages-all : pages_held (held_in new frames count) ≡ pages_held now
      pages-all = pages-in-all k new page (record { page = y }) short set-of ∙ ap (λ (hs : List (HeldFrame slots)). pages_held hs) view

      pub agree-all : (f : StoredCell → StoredCell) → ((cells : List StoredCell) → Agree cells now → HoldsPage (edit cells id f) (page_of_id id) y)
          → (cells : List StoredCell) → Agree cells now → Agree (edit cells id f) (held_in new frames count)
      agree-all f then cells agree = Agree-in k new page (record { page = y }) short set-of cells id f (agree-before cells agree) at (then cells agree)

  -- among those that were put
  module _ (above : 0 < id) (beyond : length fs ≤ page) (place : ℕ) (d : HeldFrame slots) (within : place < length (take count frames)) (there : (get_or (take count frames) place d).page ≡ page) where
    pub holds-put : (cells : List StoredCell) → Agree cells now → HoldsPage cells (page_of_id id) (get_or frames place d).frame.page
    holds-put cells agree = page-put all frames count view id of at agree above within d there

    module _ (y : List (Cell slots)) where
      pub kept-put : AreThreeInside all (set frames place (record { page = (get_or frames place d).page; frame = record { page = y } })) count
      kept-put = AreThreeInside-set k place (record { page = (get_or frames place d).page; frame = record { page = y } }) d within refl

      pub pages-put : pages_held (held_in all (set frames place (record { page = (get_or frames place d).page; frame = record { page = y } })) count) ≡ pages_held now
      pages-put = pages-changed k place (record { page = (get_or frames place d).page; frame = record { page = y } }) d within refl ∙ ap (λ (hs : List (HeldFrame slots)). pages_held hs) view

      pub agree-put : (f : StoredCell → StoredCell) → ((cells : List StoredCell) → Agree cells now → HoldsPage (edit cells id f) (page_of_id id) y)
          → (cells : List StoredCell) → Agree cells now → Agree (edit cells id f) (held_in all (set frames place (record { page = (get_or frames place d).page; frame = record { page = y } })) count)
      agree-put f then cells agree =
          Agree-there k cells place (record { page = (get_or frames place d).page; frame = record { page = y } }) d id f (agree-before cells agree) within (there ∙ at) (behind-all all frames count view id of at beyond) refl (then cells agree)
