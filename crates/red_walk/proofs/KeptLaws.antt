-- What keeps a walk a walk.
use Rattle.std.proofs.Common.{◌≡◌, ◌≢◌, ℕ, ◌+◌, ◌<◌, ◌≤◌, Bool, true, false, not, ◌&&◌, ◌||◌, ◌==◌, List, [], ◌∷◌, ◌++◌, length, map, take, refl, sym, ap, ◌∙◌, subst, arith, ⊎_elim, true≢false}
use Rattle.std.specs.Prelude.{Contains}
use Rattle.std.proofs.lemmas.List.{length_push, map_push, take_more}
use Rattle.std.proofs.lemmas.List.Elements.{Contains-append_left, Contains-push, Contains-push_cases}
use Rattle.std.proofs.lemmas.Bool.Decides.{nat_tests}
use Rattle.store_model.specs.Core.{Copy}
use Rattle.store_model.proofs.OnceLaws.{once-push}
use Rattle.ref_tables.specs.Queue.{has}
use Rattle.red_walk.specs.Walk.{Walk, IsWalk, is_open, joined, moved, moved_to, touched_at}
use Rattle.red_walk.specs.Rounds.{MovedToLaw, MovedWalkLaw, JoinedWalkLaw, CopiedWalkLaw, TouchedWalkLaw, RemovedWalkLaw}
use Rattle.red_walk.proofs.Members.{has-Contains}
use Rattle.red_walk.proofs.Filters.{filter-among}
use Rattle.red_walk.proofs.IdLaws.{most-of, at_push}
use Rattle.red_walk.proofs.WalkLaws.{look-place, copy-place}

-- the last slot of an object was looked at
pub moved-on : (slots : ℕ) (w : Walk) → IsWalk slots w → IsWalk slots (record w { place = w.place + 1; slot = 0 })
moved-on slots w k = record {
  ids = k.ids;
  slot_within = omega (arith, k.slot_within);
  slot_count = k.slot_count;
  left_listed = k.left_listed;
  touched_listed = k.touched_listed;
  in_order = k.in_order;
  quiet = λ early. k.quiet (omega (arith, early));
}

-- the cursor is at another slot of its object
pub at-slot : (slots : ℕ) (w : Walk) (slot : ℕ) → IsWalk slots w → slot < slots → IsWalk slots (record w { slot = slot })
at-slot slots w slot k within = record {
  ids = k.ids;
  slot_within = within;
  slot_count = k.slot_count;
  left_listed = k.left_listed;
  touched_listed = k.touched_listed;
  in_order = k.in_order;
  quiet = k.quiet;
}

-- another slot of it was
pub moved-within : (slots : ℕ) (w : Walk) → IsWalk slots w → w.slot + 1 ≢ slots → IsWalk slots (record w { slot = w.slot + 1 })
moved-within slots w k other = at-slot slots w (w.slot + 1) k (omega (arith, k.slot_within, other))

pub moved-walk-law : MovedWalkLaw
moved-walk-law slots w k = by (w.slot + 1 == slots) refl
  where
    by : (last : Bool) → (w.slot + 1 == slots) ≡ last → IsWalk slots (moved slots w)
    by true l = rw l (moved-on slots w k)
    by false l = rw l (moved-within slots w k (grind (arith, nat_tests, l)))

-- the cursor goes to a slot that is there
moved-there : (slots : ℕ) (w : Walk) (slot : ℕ) → slot < slots → moved_to slots w slot ≡ record w { slot = slot }
moved-there slots w slot l = let other : (slot == slots) ≡ false = grind (arith, nat_tests, l) in rw other refl

pub moved-to-law : MovedToLaw
moved-to-law slots w slot other l = ap (λ (u : Walk). moved_to slots u other) (moved-there slots w slot l)

-- an object joins
joined-walk : (slots : ℕ) (w : Walk) (id : ℕ) → IsWalk slots w → w.copies ≡ [] → 1 ≤ id → id ≤ w.limit → has w.list id ≡ false → IsWalk slots (joined w id)
joined-walk slots w id k none above below new =
    let within = at_push (λ place x. (1 ≤ x) × (x ≤ w.limit)) w.list id k.ids.within (above, below) in
    let once = once-push w.list id k.ids.once (λ m. true≢false (sym (has-Contains w.list id m) ∙ new)) in
    record {
      ids = record { within = within; once = once; most = most-of (w.list ++ id ∷ []) w.limit once within };
      slot_within = k.slot_within;
      slot_count = k.slot_count;
      left_listed = λ x m. ⊎_elim (λ h. Contains-append_left w.list (id ∷ []) x (k.left_listed x h)) (λ (e : id ≡ x). subst (λ y. Contains (w.list ++ id ∷ []) y) e (Contains-push w.list id)) (Contains-push_cases w.left id x m);
      touched_listed = λ x m. Contains-append_left w.list (id ∷ []) x (k.touched_listed x m);
      in_order = subst (λ (cs : List (ℕ × Copy)). map (λ e. e.0) cs ≡ take (length cs) (w.list ++ id ∷ [])) (sym none) refl;
      quiet = λ early. none;
    }

pub joined-walk-law : JoinedWalkLaw
joined-walk-law slots w id k h above below new = by (w.slot + 1 == slots) refl (moved-walk-law slots w k)
  where
    none : w.copies ≡ []
    none = k.quiet (look-place w h)

    by : (last : Bool) → (w.slot + 1 == slots) ≡ last → IsWalk slots (moved slots w) → IsWalk slots (joined (moved slots w) id)
    by true l m = joined-walk slots (moved slots w) id m (rw l none) above (rw l below) (rw l new)
    by false l m = joined-walk slots (moved slots w) id m (rw l none) above (rw l below) (rw l new)

pub copied-walk-law : CopiedWalkLaw
copied-walk-law slots w id copy k e =
    let p = copy-place w id e in
    let n = length_push w.copies (id, copy) in
    record {
      ids = k.ids;
      slot_within = k.slot_within;
      slot_count = k.slot_count;
      left_listed = k.left_listed;
      touched_listed = k.touched_listed;
      in_order = map_push (λ (e : ℕ × Copy). e.0) w.copies (id, copy) ∙ ap (λ ids. ids ++ id ∷ []) k.in_order ∙ ap (λ x. take (length w.copies) w.list ++ x ∷ []) (sym p.2) ∙ sym (take_more w.list (length w.copies) 0 p.1) ∙ ap (λ m. take m w.list) (sym n);
      quiet = λ early. absurd (omega (arith, p.0, early));
    }

pub touched-walk-law : TouchedWalkLaw
touched-walk-law slots w id k = by (is_open w && has w.left id) refl
  where
    by : (counts : Bool) → (is_open w && has w.left id) ≡ counts → IsWalk slots (touched_at w id)
    by true e = rw e (record {
      ids = k.ids;
      slot_within = k.slot_within;
      slot_count = k.slot_count;
      left_listed = k.left_listed;
      touched_listed = λ x m. filter-among (λ y. (y == id) || has w.touched y) w.list x m;
      in_order = k.in_order;
      quiet = k.quiet;
    })
    by false e = rw e k

pub removed-walk-law : RemovedWalkLaw
removed-walk-law slots w id k = record {
  ids = k.ids;
  slot_within = k.slot_within;
  slot_count = k.slot_count;
  left_listed = λ x m. k.left_listed x (filter-among (λ y. not (y == id)) w.left x m);
  touched_listed = k.touched_listed;
  in_order = k.in_order;
  quiet = k.quiet;
}
