-- Whether calls leave a transaction open.
use Rattle.std.proofs.Common.{◌≡◌, ℕ, suc, ◌-◌, arith, length, Some, Bool, true, false, List, [], ◌∷◌, ◌++◌, append_assoc, refl, sym, ap, ◌∙◌}
use Rattle.std.specs.Prelude.{slice_get}
use Rattle.std.proofs.lemmas.List.{append-nil}
use Rattle.plain_model.specs.declared.calls.Call.{Call}
use Rattle.plain_model.specs.declared.calls.Call.TheVariants.{Begin, Read, Make, Store, GetPay, SetPay, Release, Commit, Abort}
use Rattle.brahma_shell.specs.LineOrder.{is_first, is_last, is_between}
use Rattle.brahma_shell.specs.ClientScripts.{all_calls, AreInside, HasEnded}

-- what stands after other calls tells it alone
pub between-behind : (xs : List Call) (y : Call) (ys : List Call) → is_between (xs ++ y ∷ ys) ≡ is_between (y ∷ ys)
between-behind [] y ys = refl
between-behind (x ∷ []) y ys = refl
between-behind (x ∷ z ∷ xs) y ys = between-behind (z ∷ xs) y ys

-- the calls of one transaction more
pub calls-more : (ts : List (List Call)) (t : List Call) → all_calls (ts ++ t ∷ []) ≡ all_calls ts ++ Begin ∷ t
calls-more [] t = ap (λ (xs : List Call). Begin ∷ xs) (append-nil t)
calls-more (u ∷ ts) t = ap (λ (xs : List Call). Begin ∷ xs) (ap (λ (xs : List Call). u ++ xs) (calls-more ts t) ∙ sym (append_assoc u (all_calls ts) (Begin ∷ t)))

-- the last transaction tells it
pub between-last : (before : List (List Call)) (t : List Call) → is_between (all_calls (before ++ t ∷ [])) ≡ is_between (Begin ∷ t)
between-last before t = ap is_between (calls-more before t) ∙ between-behind (all_calls before) Begin t

pub ended-between : (t : List Call) → HasEnded t → is_between (Begin ∷ t) ≡ true
ended-between t h = ap (λ (xs : List Call). is_between (Begin ∷ xs)) h.in_order ∙ between-behind (Begin ∷ h.before) h.end [] ∙ h.ended

pub open-inside : (c : Call) (t : List Call) → is_last c ≡ false → AreInside t → is_between (c ∷ t) ≡ false
open-inside c [] e o = e
open-inside c (d ∷ t) e o = open-inside d t o.0.1 o.1

pub not-both : (b : Bool) → b ≡ true → b ≡ false → ⊥
not-both b e f = cc

pub begins-is : (call : Call) → is_first call ≡ true → call ≡ Begin
begins-is Begin e = refl
begins-is (Read r s i) e = absurd (cc)
begins-is (Make i) e = absurd (cc)
begins-is (Store r s f) e = absurd (cc)
begins-is (GetPay r) e = absurd (cc)
begins-is (Release r) e = absurd (cc)
begins-is (SetPay r v) e = absurd (cc)
begins-is Commit e = absurd (cc)
begins-is Abort e = absurd (cc)

-- ---- what stands last

last-of : {X : Type 0} (xs : List X) (x : X) → Some x ≡ slice_get xs (length xs - 1) → (before : List X) × (xs ≡ before ++ x ∷ [])
last-of {X} [] x e = absurd (cc)
last-of {X} (y ∷ []) x e = ([], ap (λ (z : X). z ∷ []) (sym (some-is e)))
  where
    some-is : {X : Type 0} {a b : X} → Some a ≡ Some b → a ≡ b
    some-is e = cc
last-of {X} (y ∷ z ∷ xs) x e =
    let at : length (y ∷ z ∷ xs) - 1 ≡ suc (length (z ∷ xs) - 1) = omega arith in
    let l = last-of (z ∷ xs) x (e ∙ ap (λ (n : ℕ). slice_get (y ∷ z ∷ xs) n) {y = suc (length (z ∷ xs) - 1)} at) in
    (y ∷ l.0, ap (λ (ys : List X). y ∷ ys) l.1)

-- the last call tells whether its transaction has ended
pub told-by_call : (calls xs : List Call) (call : Call) (r : Bool) → r ≡ is_last call → xs ≡ calls → Some call ≡ slice_get xs (length xs - 1) → r ≡ is_between (Begin ∷ calls)
told-by_call calls xs call r is same g =
    let l = last-of xs call g in
    is ∙ sym (ap (λ (ys : List Call). is_between (Begin ∷ ys)) (sym same ∙ l.1) ∙ between-behind (Begin ∷ l.0) call [])

-- the last transaction tells whether none is open
pub told-by_last : (ts xs : List (List Call)) (t : List Call) (r : Bool) → r ≡ is_between (Begin ∷ t) → xs ≡ ts → Some t ≡ slice_get xs (length xs - 1) → r ≡ is_between (all_calls ts)
told-by_last ts xs t r is same g =
    let l = last-of xs t g in
    is ∙ sym (ap (λ (ys : List (List Call)). is_between (all_calls ys)) (sym same ∙ l.1) ∙ between-last l.0 t)
