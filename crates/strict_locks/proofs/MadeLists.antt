-- Lists that are made for clients that have none.
use Rattle.std.proofs.Common.{◌≡◌, ℕ, List, ◌+◌, ◌≤◌, zero, suc, [], ◌∷◌, ◌++◌, length, refl, ◌∙◌, subst, sym, arith}
use Rattle.std.proofs.lemmas.List.{length-append}
use Rattle.strict_locks.specs.Clients.{Lists, ids_of, AreSame}

-- one list more that names nothing
ids_of-push : (lists : Lists) (ids : List ℕ) (p : ℕ) → ids ≡ [] → ids_of (lists ++ ids ∷ []) p ≡ ids_of lists p
ids_of-push [] ids zero empty = empty
ids_of-push [] ids (suc p) empty = refl
ids_of-push (l ∷ lists) ids zero empty = refl
ids_of-push (l ∷ lists) ids (suc p) empty = ids_of-push lists ids p empty

-- each client's list names what it named, and so many clients have a list
pub record HaveMade (old new : Lists) (count : ℕ) : Type 0 where
  pub same : AreSame old new
  pub made : count ≤ length new

pub HaveMade-push : (old new more : Lists) (ids : List ℕ) (count : ℕ) → more ≡ new ++ ids ∷ [] → ids ≡ [] → HaveMade old new count → HaveMade old more (count + 1)
HaveMade-push old new more ids count pushed empty made = subst (λ lists. HaveMade old lists (count + 1)) (sym pushed) (record {
  same = λ p. ids_of-push new ids p empty ∙ made.same p;
  made = let l = length-append new (ids ∷ []) in omega (arith, l, made.made);
})
