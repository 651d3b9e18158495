-- What a hold has when it told of an entry, and gives all back.
use Rattle.std.proofs.Common.{◌≡◌, ℕ, Bool, true, false, List, [], ◌∷◌, ◌++◌, None, refl, sym, ap, ◌∙◌, subst}
use Rattle.core_store.specs.declared.frame.Frame.{Frame}
use Rattle.core_store.specs.declared.note.Note.{Note}
use Rattle.core_store.specs.declared.three.HeldFrame.{HeldFrame}
use Rattle.core_store.specs.Frames.{pages_held}
use Rattle.logged_journal.specs.View.{LoggedView}
use Rattle.latch_table.specs.Views.{log_of, reframed, story}
use Rattle.latch_table.specs.Rule.{IsInHand}
use Rattle.latch_table.specs.Steps.{told_of}
use Rattle.shared_store.specs.Chronicles.Pages.{AreShownBy}
use Rattle.shared_store.specs.Chronicles.View.{account, origin_of, notes_of, marks_of, sizes_of, frame_after}
use Rattle.shared_store.specs.Passes.{Known}
use Rattle.shared_store.specs.Acts.{IsToDrop}
use Rattle.shared_store.specs.Holding.{pairs_onto, pairs_of, with_pages}

-- the claimed frames, as they are told, are those that are held
onto-told : {slots : ℕ} (g : ℕ → Frame slots) (ps qs : List (ℕ × Frame slots)) (hs ks : List (HeldFrame slots)) → pages_held ks ≡ pages_held hs → AreShownBy g ks → reframed g ps ≡ qs → reframed g (pairs_onto ps hs) ≡ pairs_onto qs ks
onto-told g ps qs [] [] same are e = e
onto-told g ps qs [] (k ∷ ks) same are e = absurd cc
onto-told g ps qs (h ∷ hs) [] same are e = absurd cc
onto-told {slots} g ps qs (h ∷ hs) (k ∷ ks) same are e =
    let one : k.page ≡ h.page = cc in
    let rest : pages_held ks ≡ pages_held hs = cc in
    onto-told g ((h.page, h.frame) ∷ ps) ((k.page, k.frame) ∷ qs) hs ks rest are.1
    (ap (λ (p : ℕ). (p, g p) ∷ reframed g ps) (sym one)
    ∙ (ap (λ (f : Frame slots). (k.page, f) ∷ reframed g ps) (sym are.0)
    ∙ ap (λ (xs : List (ℕ × Frame slots)). (k.page, k.frame) ∷ xs) e))

-- the frames in hand are the held ones, and the journal is the one in hand
pub record IsTold {D : Type 0} (slots : ℕ) (v : Known slots) (k : LoggedView D) (held : List (HeldFrame slots)) : Type 0 where
  pub pages : v.hands.pages ≡ pairs_of held
  pub idle : v.hands.moving ≡ None
  pub in_hand : IsInHand (account D slots) v k

pub is-told : {D : Type 0} (slots pages : ℕ) (w w' : Known slots) (k : LoggedView D) (held : List (HeldFrame slots)) (b : Bool) → IsToDrop slots pages w k held b
    → (b ≡ true → (note : Note) × (notes_of k ≡ log_of w ++ note ∷ []) × (w' ≡ told_of (account D slots) w k note)) → (b ≡ false → w' ≡ w)
    → AreShownBy (frame_after slots (origin_of k) (notes_of k)) held → IsTold slots w' k held
is-told {D} slots pages w w' k held true d told same are =
    let t = told refl in
    let next = d.next refl in
    let g : ℕ → Frame slots = frame_after slots (origin_of k) (notes_of k) in
    subst (λ (v : Known slots). IsTold slots v k held) (sym t.2) (record {
      pages = ap (reframed g) d.hands ∙ onto-told g [] [] d.first held d.same are refl;
      idle = d.idle;
      in_hand = record { fixed = next.fixed; log = (story (log_of w ++ t.0 ∷ []) (marks_of k) (sizes_of k), refl, sym t.1, (λ n e. e, λ e. e, λ e. e)) };
    })
is-told {D} slots pages w w' k held false d told same are =
    let r = d.rest refl in
    subst (λ (v : Known slots). IsTold slots v k held) (sym (same refl)) (record {
      pages = d.hands ∙ ap pairs_of (sym r.1);
      idle = d.idle;
      in_hand = r.0;
    })

-- without the pages the journal is still in hand
pub told-hand : {D : Type 0} (slots : ℕ) (v w : Known slots) (k : LoggedView D) → IsInHand (account D slots) v k → w ≡ with_pages v [] → IsInHand (account D slots) w k
told-hand {D} slots v w k h e = subst (λ (z : Known slots). IsInHand (account D slots) z k) (sym e) (record { fixed = h.fixed; log = h.log })
