-- The changes that records tell of are of places that objects have.
use Rattle.std.proofs.Common.{◌≡◌, ℕ, ◌<◌, List, [], ◌∷◌, Bool, true, false, cond, refl, subst, take, zero, suc, length, Option, Some, None, Less, Equal, Greater, Ordering}
use Rattle.std.specs.Prelude.{◌-◌}
use Rattle.std.specs.List.{AllByRecursion}
use Rattle.std.specs.Option.{option_map_or}
use Rattle.std.specs.Map.{lookup, set_value, remove_entry}
use Rattle.std.specs.Ordering.{nat_cmp, is_eq, match_ordering}
use Rattle.std.specs.BTreeMap.{is_at, insert_entry}
use Rattle.plain_model.specs.declared.write.Place.TheVariants.{Slot, Payload}
use Rattle.cell_model.specs.Cells.{Cell}
use Rattle.cell_model.specs.Records.{Record, Begin, Make, Store, Pay, Commit, Undo, UndoPay, AbortEnd, Weaken, Strengthen, Flip, CutDead, Free, Fits}
use Rattle.cell_model.specs.Consistent.{AreConsistent}
use Rattle.store_model.proofs.Lists.{each-append}
use Rattle.restart_laws.specs.Unended.{Change, Unended, just_begun, unended_at, changed_at, with_change, without_change, unended_after}
use Rattle.restart_laws.specs.Told.{HasPlace, HavePlaces}

-- the places of one transaction
abbrev Has : ℕ → Unended → Type 0
Has slots u = AllByRecursion (λ c. HasPlace slots c.place) u.changes

all-take : {X : Type 0} (P : X → Type 0) (n : ℕ) (xs : List X) → AllByRecursion P xs → AllByRecursion P (take n xs)
all-take P zero xs h = tt
all-take P (suc n) [] h = tt
all-take P (suc n) (x ∷ xs) h = (h.0, all-take P n xs h.1)

inserted : (slots : ℕ) (us : List (ℕ × Unended)) (p : ℕ) (u : Unended) → Has slots u → HavePlaces slots us → HavePlaces slots (insert_entry nat_cmp us p u)
inserted slots [] p u q h = (q, tt)
inserted slots (e ∷ es) p u q h = by (nat_cmp p e.0) (inserted slots es p u q h.1)
  where
    by : (o : Ordering) → HavePlaces slots (insert_entry nat_cmp es p u) → HavePlaces slots (match_ordering o ((p, u) ∷ e ∷ es) ((e.0, u) ∷ es) (e ∷ insert_entry nat_cmp es p u))
    by Less r = (q, h)
    by Equal r = (q, h.1)
    by Greater r = (h.0, r)

set : (slots : ℕ) (us : List (ℕ × Unended)) (p : ℕ) (u : Unended) → Has slots u → HavePlaces slots us → HavePlaces slots (set_value (is_at (nat_cmp p)) us u)
set slots [] p u q h = tt
set slots (e ∷ es) p u q h = by (is_eq (nat_cmp p e.0)) (set slots es p u q h.1)
  where
    by : (b : Bool) → HavePlaces slots (set_value (is_at (nat_cmp p)) es u) → HavePlaces slots (cond b ((e.0, u) ∷ es) (e ∷ set_value (is_at (nat_cmp p)) es u))
    by true r = (q, h.1)
    by false r = (h.0, r)

removed : (slots : ℕ) (us : List (ℕ × Unended)) (p : ℕ) → HavePlaces slots us → HavePlaces slots (remove_entry (is_at (nat_cmp p)) us)
removed slots [] p h = tt
removed slots (e ∷ es) p h = by (is_eq (nat_cmp p e.0)) (removed slots es p h.1)
  where
    by : (b : Bool) → HavePlaces slots (remove_entry (is_at (nat_cmp p)) es) → HavePlaces slots (cond b es (e ∷ remove_entry (is_at (nat_cmp p)) es))
    by true r = h.1
    by false r = (h.0, r)

pub places-found : (slots : ℕ) (us : List (ℕ × Unended)) (p : ℕ) (u : Unended) → unended_at us p ≡ Some u → HavePlaces slots us → Has slots u
places-found slots [] p u e h = cc
places-found slots (d ∷ ds) p u e h = by (is_eq (nat_cmp p d.0)) e (λ q. places-found slots ds p u q h.1)
  where
    by : (b : Bool) → cond b (Some d.1) (lookup (is_at (nat_cmp p)) ds) ≡ Some u → (unended_at ds p ≡ Some u → Has slots u) → Has slots u
    by true q r = let same : d.1 ≡ u = cc in subst (Has slots) same h.0
    by false q r = r q

changed : (slots : ℕ) (us : List (ℕ × Unended)) (p : ℕ) (f : Unended → Unended) → ((u : Unended) → Has slots u → Has slots (f u)) → HavePlaces slots us → HavePlaces slots (changed_at us p f)
changed slots us p f g h = by (unended_at us p) refl
  where
    by : (o : Option Unended) → unended_at us p ≡ o → HavePlaces slots (option_map_or (λ u. set_value (is_at (nat_cmp p)) us (f u)) o us)
    by None e = h
    by (Some u) e = set slots us p (f u) (g u (places-found slots us p u e h)) h

pub places-kept : (slots ids : ℕ) (cells : List Cell) (us : List (ℕ × Unended)) (r : Record) → AreConsistent slots ids cells → Fits cells r → HavePlaces slots us → HavePlaces slots (unended_after us r)
places-kept slots ids cells us (Begin pass) k f h = inserted slots us pass just_begun tt h
places-kept slots ids cells us (Make pass id) k f h = h
places-kept slots ids cells us (Store pass id slot old old_strong new new_bit new_strong) k f h =
    let c : Change = record { id = id; place = Slot slot; old = old; new = new } in
    let few : slot < slots = subst (λ n. slot < n) (k.slotted id f.0.live) f.0.within in
    changed slots us pass (with_change c) (λ u q. each-append (λ (c : Change). HasPlace slots c.place) u.changes (c ∷ []) q (few, tt)) h
places-kept slots ids cells us (Pay pass id old new) k f h =
    let c : Change = record { id = id; place = Payload; old = old; new = new } in
    changed slots us pass (with_change c) (λ u q. each-append (λ (c : Change). HasPlace slots c.place) u.changes (c ∷ []) q (tt, tt)) h
places-kept slots ids cells us (Commit pass) k f h = removed slots us pass h
places-kept slots ids cells us (Undo pass id slot old from_strong to to_bit) k f h = changed slots us pass without_change (λ u q. all-take (λ (c : Change). HasPlace slots c.place) (length u.changes - 1) u.changes q) h
places-kept slots ids cells us (UndoPay pass id old to) k f h = changed slots us pass without_change (λ u q. all-take (λ (c : Change). HasPlace slots c.place) (length u.changes - 1) u.changes q) h
places-kept slots ids cells us (AbortEnd pass) k f h = removed slots us pass h
places-kept slots ids cells us (Weaken id slot target) k f h = h
places-kept slots ids cells us (Strengthen id slot target) k f h = h
places-kept slots ids cells us (Flip id) k f h = h
places-kept slots ids cells us (CutDead id slot target was_strong) k f h = h
places-kept slots ids cells us (Free id) k f h = h
