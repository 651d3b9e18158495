-- The slots of copied objects, one after another.
use Rattle.std.proofs.Common.{◌≡◌, ℕ, ◌+◌, ◌<◌, List, [], ◌∷◌, ◌++◌, length, take, get_or, refl, sym, ap, ◌∙◌, arith, ⊎_elim, append_assoc}
use Rattle.std.specs.Prelude.{Contains}
use Rattle.std.proofs.lemmas.List.{take_more, append-nil}
use Rattle.store_model.specs.Core.{Copy}
use Rattle.store_model.proofs.OnceLaws.{nothing-in}
use Rattle.store_model.proofs.StepLaws.{Contains-cons}
use Rattle.green_walk.specs.declared.copied_slots.CopiedSlot.{CopiedSlot}
use Rattle.green_walk.specs.Greening.{numbered, copied_slots}

-- an object has as many slots as targets
pub length-numbered : (id slot : ℕ) (targets : List ℕ) → length (numbered id slot targets) ≡ length targets
length-numbered id slot [] = refl
length-numbered id slot (t ∷ ts) = let more = length-numbered id (slot + 1) ts in grind (arith, more)

-- the slots of some objects and then of others
pub copied-append : (xs ys : List (ℕ × Copy)) → copied_slots (xs ++ ys) ≡ copied_slots xs ++ copied_slots ys
copied-append [] ys = refl
copied-append (x ∷ xs) ys = ap (λ rest. numbered x.0 0 x.1.targets ++ rest) (copied-append xs ys) ∙ sym (append_assoc (numbered x.0 0 x.1.targets) (copied_slots xs) (copied_slots ys))

-- one object more
pub copied-more : (copies : List (ℕ × Copy)) (n : ℕ) (e : ℕ × Copy) → n < length copies → get_or copies n e ≡ e → copied_slots (take (n + 1) copies) ≡ copied_slots (take n copies) ++ numbered e.0 0 e.1.targets
copied-more copies n e l there =
    ap copied_slots (take_more copies n e l)
    ∙ copied-append (take n copies) (get_or copies n e ∷ [])
    ∙ ap (λ (x : ℕ × Copy). copied_slots (take n copies) ++ copied_slots (x ∷ [])) there
    ∙ ap (λ slots. copied_slots (take n copies) ++ slots) (append-nil (numbered e.0 0 e.1.targets))

-- the slots of the first objects, and then those of the next one
pub copied-next : (copies : List (ℕ × Copy)) (n id : ℕ) (copy : Copy) (before after : List CopiedSlot) → n < length copies → get_or copies n (id, copy) ≡ (id, copy)
    → before ≡ copied_slots (take n copies) → after ≡ before ++ numbered id 0 copy.targets → after ≡ copied_slots (take (n + 1) copies)
copied-next copies n id copy before after l there b a =
    a ∙ ap (λ slots. slots ++ numbered id 0 copy.targets) b ∙ sym (copied-more copies n (id, copy) l there)

-- ---- each slot is one of its object

pub numbered-within : (id slot : ℕ) (targets : List ℕ) (s : CopiedSlot) → Contains (numbered id slot targets) s → s.slot < slot + length targets
numbered-within id slot [] s m = nothing-in s m
numbered-within id slot (t ∷ ts) s m =
    ⊎_elim
    (λ (e : record { id = id; slot = slot; target = t } ≡ s). let same : slot ≡ s.slot = ap (λ (x : CopiedSlot). x.slot) e in omega (arith, same))
    (λ (n : Contains (numbered id (slot + 1) ts) s). let more = numbered-within id (slot + 1) ts s n in omega (arith, more))
    (Contains-cons (record { id = id; slot = slot; target = t }) (numbered id (slot + 1) ts) s m)
