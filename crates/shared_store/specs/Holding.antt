-- What a hold has in the middle of a call.
use Rattle.std.specs.Prelude.{◌≡◌, ℕ, ◌*◌, List, [], ◌∷◌, None}
use Rattle.core_store.specs.declared.three.HeldFrame.{HeldFrame}
use Rattle.core_store.specs.declared.frame.Frame.{Frame}
use Rattle.logged_journal.specs.View.{LoggedView}
use Rattle.latch_table.specs.Views.{with_hands}
use Rattle.latch_table.specs.Rule.{IsInHand}
use Rattle.shared_store.specs.Chronicles.View.{account}
use Rattle.shared_store.specs.Passes.{Known}

-- these frames before those that are held, the one that was put last first
abbrev pub pairs_onto : {slots : ℕ} → List (ℕ × Frame slots) → List (HeldFrame slots) → List (ℕ × Frame slots)
pairs_onto pairs [] = pairs
pairs_onto pairs (h ∷ hs) = pairs_onto ((h.page, h.frame) ∷ pairs) hs

-- the held frames as a hold has them
abbrev pub pairs_of : {slots : ℕ} → List (HeldFrame slots) → List (ℕ × Frame slots)
pairs_of held = pairs_onto [] held

-- the same, with these pages in hand
abbrev pub with_pages : {slots : ℕ} → Known slots → List (ℕ × Frame slots) → Known slots
with_pages v pages = with_hands v record { pages = pages; log = v.hands.log; moving = None }

-- the hold has this journal of a store with so many pages
pub record HasJournal {D : Type 0} (slots pages : ℕ) (v : Known slots) (j : LoggedView D) : Type 0 where
  pub ids : 8 * pages ≡ j.journal.history.ids
  pub in_hand : IsInHand (account D slots) v j
  -- no place is on its way
  pub idle : v.hands.moving ≡ None
