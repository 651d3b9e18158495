-- The frames of the first pages, as held ones.
use Rattle.std.proofs.Common.{◌≡◌, ℕ, suc, zero, ◌+◌, ◌<◌, ◌≤◌, false, List, [], ◌∷◌, ◌++◌, length, Some, None, refl, sym, ap, ◌∙◌, subst, arith, ne_eqb}
use Rattle.std.specs.Prelude.{◌==◌, slice_get}
use Rattle.cell_model.specs.Cells.{Cell}
use Rattle.cell_page.specs.Stored.{HoldsPage}
use Rattle.core_store.specs.declared.frame.Frame.{Frame}
use Rattle.core_store.specs.declared.three.HeldFrame.{HeldFrame}
use Rattle.core_store.specs.Frames.{is_held, AllAgree, AreOnce}
use Rattle.latch_table.proofs.Frames.{some_is}
use Rattle.latch_table.specs.Views.{frame_of, page_claimed, without}
use Rattle.shared_store.specs.Passes.{Known}
use Rattle.shared_store.specs.Acts.{Takes}
use Rattle.shared_store.specs.Holding.{pairs_of}
use Rattle.shared_store.specs.Upkeep.{held_from}
use Rattle.shared_store.proofs.Pairs.{both-false, claimed-more, pairs-last, pairs-dropped}

-- what holds of each element, and of one more, holds of each then
each-more : {X : Type 0} (P : ℕ → X → Type 0) (xs : List X) (x : X) → ((p : ℕ) (y : X) → slice_get xs p ≡ Some y → P p y) → P (length xs) x → (p : ℕ) (y : X) → slice_get (xs ++ x ∷ []) p ≡ Some y → P p y
each-more P [] x all it zero y e = subst (P 0) (some_is x y e) it
each-more P [] x all it (suc p) y e = absurd (cc)
each-more P (z ∷ xs) x all it zero y e = all zero y e
each-more P (z ∷ xs) x all it (suc p) y e = each-more (λ q. P (suc q)) xs x (λ q w h. all (suc q) w h) it p y e

module _ {slots : ℕ} where
  -- one frame more
  pub held_from-put : (page : ℕ) (fs : List (Frame slots)) (f : Frame slots) → held_from page (fs ++ f ∷ []) ≡ held_from page fs ++ record { page = page + length fs; frame = f } ∷ []
  held_from-put page [] f =
      let e : page ≡ page + 0 = omega arith in
      ap (λ (p : ℕ). let h : HeldFrame slots = record { page = p; frame = f } in h ∷ []) e
  held_from-put page (g ∷ fs) f =
      let e : page + 1 + length fs ≡ page + suc (length fs) = omega arith in
      let here : HeldFrame slots = record { page = page; frame = g } in
      ap (λ (hs : List (HeldFrame slots)). here ∷ hs)
      (held_from-put (page + 1) fs f ∙ ap (λ (p : ℕ). let h : HeldFrame slots = record { page = p; frame = f } in held_from (page + 1) fs ++ h ∷ []) e)

  -- no page below, and none after
  below-free : (page q : ℕ) (fs : List (Frame slots)) → q < page → is_held (held_from page fs) q ≡ false
  below-free page q [] low = refl
  below-free page q (f ∷ fs) low = both-false (page == q) (is_held (held_from (page + 1) fs) q) (ne_eqb page q (λ e. omega arith)) (below-free (page + 1) q fs (omega arith))

  pub behind-free : (page q : ℕ) (fs : List (Frame slots)) → page + length fs ≤ q → is_held (held_from page fs) q ≡ false
  behind-free page q [] high = refl
  behind-free page q (f ∷ fs) high = both-false (page == q) (is_held (held_from (page + 1) fs) q) (ne_eqb page q (λ e. omega arith)) (behind-free (page + 1) q fs (omega arith))

  pub held_from-once : (page : ℕ) (fs : List (Frame slots)) → AreOnce (held_from page fs)
  held_from-once page [] = tt
  held_from-once page (f ∷ fs) = (below-free (page + 1) page fs (omega arith), held_from-once (page + 1) fs)

  -- the frames are the pages of the store, with the next one too
  pub agree-more : (cells : List Cell) (fs new : List (Frame slots)) (f : Frame slots) → AllAgree cells fs → HoldsPage cells (length fs) f.page → new ≡ fs ++ f ∷ [] → AllAgree cells new
  agree-more cells fs new f all it more = subst (AllAgree cells) (sym more) (each-more (λ (p : ℕ) (g : Frame slots). HoldsPage cells p g.page) fs f all it)

  -- the next page is claimed
  pub claimed-next : (v w w' : Known slots) (fs new : List (Frame slots)) (f : Frame slots) → Takes v w (pairs_of (held_from 0 fs)) None → w' ≡ page_claimed w (length fs) f → new ≡ fs ++ f ∷ [] → Takes v w' (pairs_of (held_from 0 new)) None
  claimed-next v w w' fs new f e claimed more =
      let at : 0 + length fs ≡ length fs = omega arith in
      claimed-more v w w' (held_from 0 fs) (held_from 0 new) (length fs) f e claimed
      (ap (held_from 0) more ∙ (held_from-put 0 fs f ∙ ap (λ (p : ℕ). let h : HeldFrame slots = record { page = p; frame = f } in held_from 0 fs ++ h ∷ []) at))

  -- the last of them is given back
  row-split : (old new : List (Frame slots)) (f : Frame slots) (n : ℕ) → old ≡ new ++ f ∷ [] → n ≡ length new → held_from 0 old ≡ held_from 0 new ++ record { page = n; frame = f } ∷ []
  row-split old new f n items at =
      let e : 0 + length new ≡ n = omega arith in
      ap (held_from 0) items ∙ (held_from-put 0 new f ∙ ap (λ (p : ℕ). let h : HeldFrame slots = record { page = p; frame = f } in held_from 0 new ++ h ∷ []) e)

  pub row-last : (ps : List (ℕ × Frame slots)) (old new : List (Frame slots)) (f : Frame slots) (n : ℕ) → ps ≡ pairs_of (held_from 0 old) → old ≡ new ++ f ∷ [] → n ≡ length new → frame_of ps n ≡ Some f
  row-last ps old new f n hands items at =
      let h : HeldFrame slots = record { page = n; frame = f } in
      ap (λ (qs : List (ℕ × Frame slots)). frame_of qs n) (hands ∙ ap pairs_of (row-split old new f n items at)) ∙ pairs-last (held_from 0 new) h

  pub row-dropped : (ps : List (ℕ × Frame slots)) (old new : List (Frame slots)) (f : Frame slots) (n : ℕ) → ps ≡ pairs_of (held_from 0 old) → old ≡ new ++ f ∷ [] → n ≡ length new → without ps n ≡ pairs_of (held_from 0 new)
  row-dropped ps old new f n hands items at =
      let h : HeldFrame slots = record { page = n; frame = f } in
      let split = row-split old new f n items at in
      ap (λ (qs : List (ℕ × Frame slots)). without qs n) (hands ∙ ap pairs_of split) ∙ pairs-dropped (held_from 0 new) h (subst AreOnce split (held_from-once 0 old))
