-- Lists that are made for clients that have none.
use Rattle.std.proofs.Common.{◌≡◌, ℕ, ◌+◌, ◌≤◌, zero, suc, [], ◌∷◌, ◌++◌, length, refl, ◌∙◌, subst, sym, arith}
use Rattle.std.specs.Global.{Vec}
use Rattle.std.proofs.lemmas.List.{length-append}
use Rattle.ref_tables.specs.declared.kind.TempRef.{TempRef}
use Rattle.ref_tables.specs.Lists.{Lists, list_of, HasRoom, KeepsRoom, AreSame}

-- one list more without an entry
list_of-push : (lists : Lists) (list : Vec TempRef) (p : ℕ) → list.items ≡ [] → list_of (lists ++ list ∷ []) p ≡ list_of lists p
list_of-push [] list zero empty = empty
list_of-push [] list (suc p) empty = refl
list_of-push (l ∷ lists) list zero empty = refl
list_of-push (l ∷ lists) list (suc p) empty = list_of-push lists list p empty

HasRoom-push : (lists : Lists) (list : Vec TempRef) (p n : ℕ) → HasRoom lists p n → HasRoom (lists ++ list ∷ []) p n
HasRoom-push [] list p n room = absurd room
HasRoom-push (l ∷ lists) list zero n room = room
HasRoom-push (l ∷ lists) list (suc p) n room = HasRoom-push lists list p n room

-- each client has the entries and the room that it had, and so many clients have a list
pub record HaveMade (old new : Lists) (count : ℕ) : Type 0 where
  pub same : AreSame old new
  pub keeps : KeepsRoom old new
  pub made : count ≤ length new

pub HaveMade-push : (old new more : Lists) (list : Vec TempRef) (count : ℕ) → more ≡ new ++ list ∷ [] → list.items ≡ [] → HaveMade old new count → HaveMade old more (count + 1)
HaveMade-push old new more list count pushed empty made = subst (λ lists. HaveMade old lists (count + 1)) (sym pushed) (record {
  same = λ p. list_of-push new list p empty ∙ made.same p;
  keeps = λ p n room. HasRoom-push new list p n (made.keeps p n room);
  made = let l = length-append new (list ∷ []) in omega (arith, l, made.made);
})
