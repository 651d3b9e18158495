-- Pairs of keys and values.
use Rattle.std.proofs.Common.{◌≢◌, ℕ, ◌<◌, ◌≤◌, List, [], ◌∷◌, ◌++◌, arith}
use Rattle.std.specs.List.{AllByRecursion}
use Rattle.plain_map.specs.Pairs.{Pairs, AscendByKey}

pub all_append : {X : Type 0} (P : X → Type 0) (xs ys : List X) → AllByRecursion P xs → AllByRecursion P ys → AllByRecursion P (xs ++ ys)
all_append P [] ys a b = b
all_append P (x ∷ xs) ys a b = (a.0, all_append P xs ys a.1 b)

pub all_map : {X : Type 0} (P Q : X → Type 0) → ((x : X) → P x → Q x) → (xs : List X) → AllByRecursion P xs → AllByRecursion Q xs
all_map P Q f [] h = tt
all_map P Q f (x ∷ xs) h = (f x h.0, all_map P Q f xs h.1)

-- pairs that ascend, before others with greater keys that ascend
pub ascend_append : (ps qs : Pairs) → AscendByKey ps → AscendByKey qs → AllByRecursion (λ p. AllByRecursion (λ q. p.0 < q.0) qs) ps → AscendByKey (ps ++ qs)
ascend_append [] qs a b h = b
ascend_append (p ∷ ps) qs a b h = (all_append (λ q. p.0 < q.0) ps qs a.0 h.0, ascend_append ps qs a.1 b h.1)

-- ---- keys above a key

pub above_none : (k : ℕ) (ps : Pairs) → AllByRecursion (λ p. k < p.0) ps → AllByRecursion (λ p. p.0 ≢ k) ps
above_none k [] h = tt
above_none k (p ∷ ps) h = ((λ e. (let l : k < p.0 = h.0 in absurd (omega (arith, l, e)))), above_none k ps h.1)

pub above_more : (k n : ℕ) (ps : Pairs) → k ≤ n → AllByRecursion (λ p. n < p.0) ps → AllByRecursion (λ p. k < p.0) ps
above_more k n [] l h = tt
above_more k n (p ∷ ps) l h = ((let m : n < p.0 = h.0 in omega (arith, l, m)), above_more k n ps l h.1)
