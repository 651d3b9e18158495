-- What copied slots tell of the objects that were copied.
use Rattle.std.proofs.Common.{◌≡◌, ℕ, zero, suc, ◌+◌, ◌<◌, List, [], ◌∷◌, refl, sym, ap, subst, get_or, length, map, arith, ⊎_elim}
use Rattle.std.specs.Prelude.{Contains}
use Rattle.std.proofs.lemmas.List.Elements.{Contains-append_cases, Contains-append_left, Contains-append_right}
use Rattle.store_model.specs.Core.{Copy}
use Rattle.store_model.proofs.Lists.{Contains-here, Contains-later}
use Rattle.store_model.proofs.OnceLaws.{nothing-in}
use Rattle.store_model.proofs.StepLaws.{Contains-cons}
use Rattle.green_walk.specs.declared.copied_slots.CopiedSlot.{CopiedSlot}
use Rattle.green_walk.specs.Greening.{numbered, copied_slots}

-- each of the ids has a copy
pub copy-of : (copies : List (ℕ × Copy)) (id : ℕ) → Contains (map (λ e. e.0) copies) id → (copy : Copy) × Contains copies (id, copy)
copy-of [] id m = nothing-in id m
copy-of (e ∷ es) id m =
    ⊎_elim
    (λ q. (e.1, subst (λ v. Contains (e ∷ es) (v, e.1)) q (Contains-here e es)))
    (λ k. let h = copy-of es id k in (h.0, Contains-later e es (id, h.0) h.1))
    (Contains-cons e.0 (map (λ e. e.0) es) id m)

-- ---- the slots of one object

numbered-tells : (id slot : ℕ) (targets : List ℕ) (s : CopiedSlot) → Contains (numbered id slot targets) s → (s.id ≡ id) × (k : ℕ) × (s.slot ≡ slot + k) × (k < length targets) × (get_or targets k 0 ≡ s.target)
numbered-tells id slot [] s m = nothing-in s m
numbered-tells id slot (t ∷ ts) s m =
    ⊎_elim
    (λ (e : record { id = id; slot = slot; target = t } ≡ s).
    let same : slot ≡ s.slot = ap (λ (x : CopiedSlot). x.slot) e in
    (sym (ap (λ (x : CopiedSlot). x.id) e), 0, omega (arith, same), omega arith, ap (λ (x : CopiedSlot). x.target) e))
    (λ (n : Contains (numbered id (slot + 1) ts) s).
    let h = numbered-tells id (slot + 1) ts s n in
    let at = h.2 in let l = h.3 in
    (h.0, suc h.1, omega (arith, at), omega (arith, l), h.4))
    (Contains-cons (record { id = id; slot = slot; target = t }) (numbered id (slot + 1) ts) s m)

numbered-has : (id slot : ℕ) (targets : List ℕ) (k : ℕ) → k < length targets → (s : CopiedSlot) × Contains (numbered id slot targets) s × (s.id ≡ id) × (s.slot ≡ slot + k)
numbered-has id slot [] k l = absurd (omega (arith, l))
numbered-has id slot (t ∷ ts) zero l = (record { id = id; slot = slot; target = t }, Contains-here (record { id = id; slot = slot; target = t }) (numbered id (slot + 1) ts), refl, omega arith)
numbered-has id slot (t ∷ ts) (suc k) l =
    let h = numbered-has id (slot + 1) ts k (omega (arith, l)) in
    let at = h.3 in
    (h.0, Contains-later (record { id = id; slot = slot; target = t }) (numbered id (slot + 1) ts) h.0 h.1, h.2, omega (arith, at))

-- ---- the slots of all of them

-- a copied slot is one of a copy, and has what that tells
pub copied-tells : (copies : List (ℕ × Copy)) (s : CopiedSlot) → Contains (copied_slots copies) s → (copy : Copy) × Contains copies (s.id, copy) × (s.slot < length copy.targets) × (get_or copy.targets s.slot 0 ≡ s.target)
copied-tells [] s m = nothing-in s m
copied-tells (e ∷ es) s m =
    ⊎_elim
    (λ n.
    let h = numbered-tells e.0 0 e.1.targets s n in
    let at : h.1 ≡ s.slot = (let q = h.2 in omega (arith, q)) in
    (e.1, subst (λ v. Contains (e ∷ es) (v, e.1)) (sym h.0) (Contains-here e es), subst (λ k. k < length e.1.targets) at h.3, subst (λ k. get_or e.1.targets k 0 ≡ s.target) at h.4))
    (λ n. let h = copied-tells es s n in (h.0, Contains-later e es (s.id, h.0) h.1, h.2, h.3))
    (Contains-append_cases (numbered e.0 0 e.1.targets) (copied_slots es) s m)

-- each slot of a copy is among them
pub copied-has : (copies : List (ℕ × Copy)) (id : ℕ) (copy : Copy) → Contains copies (id, copy) → (k : ℕ) → k < length copy.targets → (s : CopiedSlot) × Contains (copied_slots copies) s × (s.id ≡ id) × (s.slot ≡ k)
copied-has [] id copy m k l = nothing-in (id, copy) m
copied-has (e ∷ es) id copy m k l =
    ⊎_elim
    (λ q. subst (λ (x : ℕ × Copy). (s : CopiedSlot) × Contains (copied_slots (x ∷ es)) s × (s.id ≡ id) × (s.slot ≡ k)) (sym q)
    (let h = numbered-has id 0 copy.targets k l in let at = h.3 in (h.0, Contains-append_left (numbered id 0 copy.targets) (copied_slots es) h.0 h.1, h.2, omega (arith, at))))
    (λ n. let h = copied-has es id copy n k l in (h.0, Contains-append_right (numbered e.0 0 e.1.targets) (copied_slots es) h.0 h.1, h.2, h.3))
    (Contains-cons e es (id, copy) m)
