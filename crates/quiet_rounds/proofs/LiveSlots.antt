-- How many copied slots the objects that live have.
use Rattle.std.proofs.Common.{◌≡◌, ℕ, ◌+◌, ◌*◌, ◌≤◌, cond, Bool, true, false, List, [], ◌∷◌, ◌++◌, length, map, filter, ap, arith, mul-le-mul_left}
use Rattle.std.specs.Prelude.{Contains}
use Rattle.store_model.specs.Core.{Copy}
use Rattle.store_model.specs.Sound.{IsOnce}
use Rattle.store_model.proofs.Lists.{Contains-here, Contains-later}
use Rattle.ref_tables.specs.Queue.{has}
use Rattle.red_walk.proofs.Members.{Contains-has}
use Rattle.red_walk.proofs.Filters.{once-filter, filter-passes}
use Rattle.green_walk.specs.declared.copied_slots.CopiedSlot.{CopiedSlot}
use Rattle.green_walk.specs.Greening.{numbered, copied_slots}
use Rattle.green_walk.proofs.GreenWork.{no-more-once}
use Rattle.quiet_rounds.proofs.Gains.{count, one_if}

count-append : (P : CopiedSlot → Bool) (xs ys : List CopiedSlot) → count P (xs ++ ys) ≡ count P xs + count P ys
count-append P [] ys = omega arith
count-append P (x ∷ xs) ys = let more = count-append P xs ys in omega (arith, more)

-- all slots of an object count where it lives, and else none
count-numbered : (live : List ℕ) (id slot : ℕ) (targets : List ℕ) → count (λ s. has live s.id) (numbered id slot targets) ≡ one_if (has live id) * length targets
count-numbered live id slot [] = omega arith
count-numbered live id slot (t ∷ ts) = let more = count-numbered live id (slot + 1) ts in omega (arith, more)

length-filter : (p : ℕ → Bool) (x : ℕ) (xs : List ℕ) → length (filter p (x ∷ xs)) ≡ one_if (p x) + length (filter p xs)
length-filter p x xs = by (p x)
  where
    by : (b : Bool) → length (cond b (x ∷ filter p xs) (filter p xs)) ≡ one_if b + length (filter p xs)
    by true = omega arith
    by false = omega arith

-- so many of them as copied objects live, with so many slots each
count-copied : (slots : ℕ) (live : List ℕ) (copies : List (ℕ × Copy)) → ((id : ℕ) (copy : Copy) → Contains copies (id, copy) → length copy.targets ≡ slots)
    → count (λ s. has live s.id) (copied_slots copies) ≡ slots * length (filter (has live) (map (λ e. e.0) copies))
count-copied slots live [] each = omega arith
count-copied slots live (e ∷ es) each =
    let parts = count-append (λ s. has live s.id) (numbered e.0 0 e.1.targets) (copied_slots es) in
    let here = count-numbered live e.0 0 e.1.targets in
    let long = ap (λ n. one_if (has live e.0) * n) (each e.0 e.1 (Contains-here e es)) in
    let more = count-copied slots live es (λ id copy m. each id copy (Contains-later e es (id, copy) m)) in
    let few = ap (λ n. slots * n) (length-filter (has live) e.0 (map (λ (e : ℕ × Copy). e.0) es)) in
    omega (arith, parts, here, long, more, few)

-- where no object was copied twice, there are no more than the slots of the objects that live
pub live-most : (slots : ℕ) (live : List ℕ) (copies : List (ℕ × Copy)) → ((id : ℕ) (copy : Copy) → Contains copies (id, copy) → length copy.targets ≡ slots) → IsOnce (map (λ e. e.0) copies)
    → count (λ s. has live s.id) (copied_slots copies) ≤ slots * length live
live-most slots live copies each once =
    let ids : List ℕ = map (λ e. e.0) copies in
    let are = count-copied slots live copies each in
    let few = no-more-once (filter (has live) ids) live (once-filter (has live) ids once) (λ id m. Contains-has live id (filter-passes (has live) ids id m)) in
    let most = mul-le-mul_left slots few in
    omega (arith, are, most)
