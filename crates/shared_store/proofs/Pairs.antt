-- The pages that a hold has are the held frames.
use Rattle.std.proofs.Common.{◌≡◌, ◌≢◌, ℕ, ◌*◌, ◌<◌, true, false, Bool, List, [], ◌∷◌, ◌++◌, Some, None, refl, sym, ap, ◌∙◌, subst, arith, ne_eqb}
use Rattle.std.specs.Prelude.{◌==◌, ◌||◌, Option}
use Rattle.std.specs.List.{AllByRecursion}
use mathlib.Core.Logic.{dite}
use native.Mathlib.Decide.{ℕ_discrete}
use Rattle.cell_page.specs.Stored.{HoldsPage}
use Rattle.core_store.specs.declared.frame.Frame.{Frame}
use Rattle.core_store.specs.declared.three.HeldFrame.{HeldFrame}
use Rattle.core_store.specs.JournalView.{JournalView, cells_of}
use Rattle.core_store.specs.Frames.{is_held, AreOnce}
use Rattle.core_store.proofs.PageLaws.{Agree-put}
use Rattle.framed_journal.specs.Holding.{AreHeldOf}
use Rattle.logged_journal.specs.View.{LoggedView}
use Rattle.latch_table.specs.Views.{frame_of, without, page_claimed, page_dropped, with_claims}
use Rattle.latch_table.specs.Holds.{IsAnother}
use Rattle.latch_table.specs.Rule.{AgreesWithLog, HasMet}
use Rattle.latch_table.proofs.Frames.{if_same, if_other, none_some, frame_new}
use Rattle.shared_store.specs.Chronicles.View.{account, origin_of, notes_of, frame_after}
use Rattle.shared_store.specs.Passes.{Known}
use Rattle.shared_store.specs.Acts.{Takes}
use Rattle.shared_store.specs.Holding.{pairs_onto, pairs_of, with_pages, HasJournal}

rest-false : (a b : Bool) → (a || b) ≡ false → b ≡ false
rest-false true b e = absurd (cc)
rest-false false b e = e

first-false : (a b : Bool) → (a || b) ≡ false → a ≡ false
first-false true b e = absurd (cc)
first-false false b e = refl

pub both-false : (a b : Bool) → a ≡ false → b ≡ false → (a || b) ≡ false
both-false a b e f = ap (λ (x : Bool). x || b) e ∙ f

module _ {slots : ℕ} where
  pub onto-put : (pairs : List (ℕ × Frame slots)) (held : List (HeldFrame slots)) (h : HeldFrame slots) → pairs_onto pairs (held ++ h ∷ []) ≡ (h.page, h.frame) ∷ pairs_onto pairs held
  onto-put pairs [] h = refl
  onto-put pairs (x ∷ xs) h = onto-put ((x.page, x.frame) ∷ pairs) xs h

  pub pairs-put : (held : List (HeldFrame slots)) (h : HeldFrame slots) → pairs_of (held ++ h ∷ []) ≡ (h.page, h.frame) ∷ pairs_of held
  pairs-put held h = onto-put [] held h

  -- a page that isn't held has no frame there
  pub onto-free : (pairs : List (ℕ × Frame slots)) (held : List (HeldFrame slots)) (page : ℕ) → frame_of pairs page ≡ None → is_held held page ≡ false → frame_of (pairs_onto pairs held) page ≡ None
  onto-free pairs [] page none other = none
  onto-free pairs (x ∷ xs) page none other = onto-free ((x.page, x.frame) ∷ pairs) xs page (if_other x.page page (Some x.frame) (frame_of pairs page) (not_this x xs page other) ∙ none) (not_rest x xs page other)
    where
      not_this : (x : HeldFrame slots) (xs : List (HeldFrame slots)) (page : ℕ) → is_held (x ∷ xs) page ≡ false → x.page ≢ page
      not_this x xs page other is = absurd (let e : (page == page) || is_held xs page ≡ false = subst (λ (p : ℕ). (p == page) || is_held xs page ≡ false) is other in grind arith)

      not_rest : (x : HeldFrame slots) (xs : List (HeldFrame slots)) (page : ℕ) → is_held (x ∷ xs) page ≡ false → is_held xs page ≡ false
      not_rest x xs page other = rest-false (x.page == page) (is_held xs page) other

  pub pairs-free : (held : List (HeldFrame slots)) (page : ℕ) → is_held held page ≡ false → frame_of (pairs_of held) page ≡ None
  pairs-free held page other = onto-free [] held page refl other

  -- what is not there is not taken out
  pub without-none : (pairs : List (ℕ × Frame slots)) (page : ℕ) → frame_of pairs page ≡ None → without pairs page ≡ pairs
  without-none [] page none = refl
  without-none (x ∷ xs) page none = dite (ℕ_discrete x.0 page)
      (λ is. none_some x.1 (sym none ∙ ap (frame_of (x ∷ xs)) (sym is) ∙ frame_new xs x.0 x.1))
      (λ ne. if_other x.0 page (without xs page) (x ∷ without xs page) ne ∙ ap (λ (ys : List (ℕ × Frame slots)). x ∷ ys) (without-none xs page (sym (if_other x.0 page (Some x.1) (frame_of xs page) ne) ∙ none)))

  held-last : (xs : List (HeldFrame slots)) (h : HeldFrame slots) (page : ℕ) → is_held (xs ++ h ∷ []) page ≡ false → h.page ≢ page
  held-last [] h page none = λ is. absurd (let e : (page == page) || false ≡ false = subst (λ (p : ℕ). (p == page) || false ≡ false) is none in grind arith)
  held-last (x ∷ xs) h page none = held-last xs h page (rest-false (x.page == page) (is_held (xs ++ h ∷ []) page) none)

  -- the last of different pages is none of the others
  pub once-last : (xs : List (HeldFrame slots)) (h : HeldFrame slots) → AreOnce (xs ++ h ∷ []) → is_held xs h.page ≡ false
  once-last [] h once = refl
  once-last (x ∷ xs) h once = both-false (x.page == h.page) (is_held xs h.page) (ne_eqb x.page h.page (λ e. held-last xs h x.page once.0 (sym e))) (once-last xs h once.1)

  -- those before the last are different too
  pub once-before : (xs : List (HeldFrame slots)) (h : HeldFrame slots) → AreOnce (xs ++ h ∷ []) → AreOnce xs
  once-before [] h once = tt
  once-before (x ∷ xs) h once = (before-last xs h x.page once.0, once-before xs h once.1)
    where
      before-last : (xs : List (HeldFrame slots)) (h : HeldFrame slots) (page : ℕ) → is_held (xs ++ h ∷ []) page ≡ false → is_held xs page ≡ false
      before-last [] h page none = refl
      before-last (x ∷ xs) h page none = both-false (x.page == page) (is_held xs page) (first-false (x.page == page) (is_held (xs ++ h ∷ []) page) none) (before-last xs h page (rest-false (x.page == page) (is_held (xs ++ h ∷ []) page) none))

  -- the page that was put last is dropped
  pub pairs-dropped : (held : List (HeldFrame slots)) (h : HeldFrame slots) → AreOnce (held ++ h ∷ []) → without (pairs_of (held ++ h ∷ [])) h.page ≡ pairs_of held
  pairs-dropped held h once =
      ap (λ (ps : List (ℕ × Frame slots)). without ps h.page) (pairs-put held h)
      ∙ if_same h.page h.page (without (pairs_of held) h.page) ((h.page, h.frame) ∷ without (pairs_of held) h.page) refl
      ∙ without-none (pairs_of held) h.page (pairs-free held h.page (once-last held h once))

  pub dropped-pages : (v w : Known slots) (held new : List (HeldFrame slots)) (h : HeldFrame slots) → w ≡ page_dropped v h.page → v.hands.pages ≡ pairs_of held → held ≡ new ++ h ∷ [] → AreOnce (new ++ h ∷ []) → w.hands.pages ≡ pairs_of new
  dropped-pages v w held new h dropped is last once =
      ap (λ (z : Known slots). z.hands.pages) dropped
      ∙ (ap (λ (ps : List (ℕ × Frame slots)). without ps h.page) (is ∙ ap pairs_of last) ∙ pairs-dropped new h once)

  pub pairs-last : (held : List (HeldFrame slots)) (h : HeldFrame slots) → frame_of (pairs_of (held ++ h ∷ [])) h.page ≡ Some h.frame
  pairs-last held h = ap (λ (ps : List (ℕ × Frame slots)). frame_of ps h.page) (pairs-put held h) ∙ frame_new (pairs_of held) h.page h.frame

  pub each-put : (P : HeldFrame slots → Type 0) (hs : List (HeldFrame slots)) (x : HeldFrame slots) → AllByRecursion P hs → P x → AllByRecursion P (hs ++ x ∷ [])
  each-put P [] x all it = (it, tt)
  each-put P (y ∷ hs) x all it = (all.0, each-put P hs x all.1 it)

  pub held-put : (j : JournalView) (held new : List (HeldFrame slots)) (h : HeldFrame slots) → AreHeldOf j held → 8 * h.page < j.history.ids → HoldsPage (cells_of j) h.page h.frame.page → new ≡ held ++ h ∷ [] → AreHeldOf j new
  held-put j held new h some there holds more = subst (AreHeldOf j) (sym more) (record {
    agree = Agree-put (cells_of j) held h some.agree holds;
    within = each-put (λ x. 8 * x.page < j.history.ids) held h some.within there;
  })

  -- the frame after a claimed page is the one that the journal in hand tells
  pub told-frame : {D : Type 0} (pages : ℕ) (v : Known slots) (j : LoggedView D) (page : ℕ) (frame : Frame slots) → HasJournal slots pages v j → AgreesWithLog (account D slots) v page frame → frame ≡ frame_after slots (origin_of j) (notes_of j) page
  told-frame pages v j page frame has agrees = agrees (origin_of j) has.in_hand.log.0 has.in_hand.fixed has.in_hand.log.1 ∙ ap (λ es. frame_after slots (origin_of j) es page) has.in_hand.log.2

  pub with_none : (v : Known slots) → v.hands.pages ≡ [] → v.hands.moving ≡ None → Takes v v [] None
  with_none v e f = ([], λ i. record { station = v.station; hands = record { pages = e i; log = v.hands.log; moving = f i }; knowledge = v.knowledge })

  pub has-with : {D : Type 0} (pages : ℕ) (v w : Known slots) (ps : List (ℕ × Frame slots)) (j : LoggedView D) → HasJournal slots pages v j → Takes v w ps None → HasJournal slots pages w j
  has-with {D} pages v w ps j h e = subst (λ (z : Known slots). HasJournal slots pages z j) (sym e.1) (record {
    ids = h.ids;
    in_hand = record { fixed = h.in_hand.fixed; log = h.in_hand.log };
    idle = refl;
  })

  -- one page more is claimed
  pub claimed-more : (v w w' : Known slots) (held new : List (HeldFrame slots)) (page : ℕ) (frame : Frame slots) → Takes v w (pairs_of held) None → w' ≡ page_claimed w page frame → new ≡ held ++ record { page = page; frame = frame } ∷ [] → Takes v w' (pairs_of new) None
  claimed-more v w w' held new page frame e claimed more =
      let claims : List (Option ℕ × ℕ) = (Some page, v.station.number) ∷ e.0 in (
        claims,
        claimed ∙ ap (λ (z : Known slots). page_claimed z page frame) e.1
            ∙ ap (with_pages (with_claims v claims)) (sym (pairs-put held (record { page = page; frame = frame })) ∙ ap pairs_of (sym more)),
      )

  -- another hold had the word of the next page
  pub claim-met : (v w w' : Known slots) (held new : List (HeldFrame slots)) (word seat : ℕ) → Takes v w (pairs_of held) None → new ≡ held → IsAnother w seat → HasMet w w' word seat → IsAnother v seat × Takes v w' (pairs_of new) (Some (word, seat))
  claim-met v w w' held new word seat e same other is = (
    subst (λ (z : Known slots). IsAnother z seat) e.1 other,
    (e.0, subst (λ (z : Known slots). HasMet z w' word seat) (e.1 ∙ ap (λ (hs : List (HeldFrame slots)). with_pages (with_claims v e.0) (pairs_of hs)) (sym same)) is),
  )
