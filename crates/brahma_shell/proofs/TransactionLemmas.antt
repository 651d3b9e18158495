-- Transactions with one call more.
use Rattle.std.proofs.Common.{◌≡◌, ◌⊎◌, inl, inr, Bool, true, false, List, [], ◌∷◌, ◌++◌, append_assoc, refl, sym, ap, subst, ◌∙◌}
use Rattle.std.specs.List.{AllByRecursion}
use Rattle.plain_model.specs.declared.calls.Call.{Call}
use Rattle.plain_model.specs.declared.calls.Call.TheVariants.{Begin}
use Rattle.plain_model.specs.Machine.{IsInRange}
use Rattle.client_pass.specs.Scripts.{AddsToLast}
use Rattle.script_lines.specs.Numbers.{object_slots}
use Rattle.brahma_shell.specs.LineOrder.{is_first, is_last, is_between, MayFollow}
use Rattle.brahma_shell.specs.ClientScripts.{all_calls, IsInside, AreInside, HasEnded, AreTransactions, IsExtended}
use Rattle.brahma_shell.proofs.EveryElement.{every-push, every-first, every-one}
use Rattle.brahma_shell.proofs.CallLemmas.{calls-more, between-last, ended-between, open-inside, not-both, begins-is}

-- the last transaction has ended where none is open
last-ended : (t : List Call) → is_between (Begin ∷ t) ≡ true → HasEnded t ⊎ AreInside t → HasEnded t
last-ended t b (inl h) = h
last-ended t b (inr o) = absurd (not-both (is_between (Begin ∷ t)) b (open-inside Begin t refl o))

-- and is open where one is
last-open : (t : List Call) → is_between (Begin ∷ t) ≡ false → HasEnded t ⊎ AreInside t → AreInside t
last-open t b (inl h) = absurd (not-both (is_between (Begin ∷ t)) (ended-between t h) b)
last-open t b (inr o) = o

-- whether none is open is told by the last transaction
pub between-of : (ts : List (List Call)) (a : AreTransactions ts) → is_between (all_calls ts) ≡ is_between (Begin ∷ a.last)
between-of ts a = ap (λ (xs : List (List Call)). is_between (all_calls xs)) a.in_order ∙ between-last a.before a.last

-- one transaction more, after those that have ended
pub begun-extended : (old : List (List Call)) → AreTransactions old → is_between (all_calls old) ≡ true → IsExtended old Begin (old ++ [] ∷ [])
begun-extended old a between =
    let h = last-ended a.last (sym (between-of old a) ∙ between) a.last_is in
    record {
      transactions = record {
        before = old;
        last = [];
        in_order = refl;
        ended = subst (λ (xs : List (List Call)). AllByRecursion HasEnded xs) (sym a.in_order) (every-push HasEnded a.before a.last a.ended h);
        last_is = inr tt;
      };
      calls = calls-more old [];
      in_range = λ o i. every-push (AllByRecursion (IsInRange object_slots)) old [] o tt;
    }

-- one call more, after those of the transaction that is open
pub went-on : (old : List (List Call)) (call : Call) (new : List (List Call)) → AreTransactions old → is_between (all_calls old) ≡ false → is_first call ≡ false → AddsToLast old call new → IsExtended old call new
went-on old call new a still inside adds =
    let t = a.last in
    let o = last-open t (sym (between-of old a) ∙ still) a.last_is in
    let is = adds a.before t a.in_order in
    let was = ap all_calls a.in_order ∙ calls-more a.before t in
    record {
      transactions = record { before = a.before; last = t ++ call ∷ []; in_order = is; ended = a.ended; last_is = more t o (is_last call) refl };
      calls = ap all_calls is ∙ calls-more a.before (t ++ call ∷ []) ∙ sym (append_assoc (all_calls a.before) (Begin ∷ t) (call ∷ [])) ∙ ap (λ (xs : List Call). xs ++ call ∷ []) (sym was);
      in_range = λ r i.
          let s = subst (λ (xs : List (List Call)). AllByRecursion (AllByRecursion (IsInRange object_slots)) xs) a.in_order r in
          subst (λ (xs : List (List Call)). AllByRecursion (AllByRecursion (IsInRange object_slots)) xs) (sym is)
          (every-push (AllByRecursion (IsInRange object_slots)) a.before (t ++ call ∷ []) (every-first (AllByRecursion (IsInRange object_slots)) a.before t [] s)
          (every-push (IsInRange object_slots) t call (every-one (AllByRecursion (IsInRange object_slots)) a.before t [] s) i));
    }
  where
    more : (t : List Call) → AreInside t → (b : Bool) → is_last call ≡ b → HasEnded (t ++ call ∷ []) ⊎ AreInside (t ++ call ∷ [])
    more t o true e = inl (record { before = t; end = call; in_order = refl; inside = o; ended = e })
    more t o false e = inr (every-push IsInside t call o (inside, e))

-- the call that begins it
pub call-begun : (old : List (List Call)) (call : Call) (new : List (List Call)) → AreTransactions old → true ≡ is_first call → true ≡ is_between (all_calls old) → new ≡ old ++ [] ∷ [] → MayFollow (all_calls old) call × IsExtended old call new
call-begun old call new a begun between is = (sym begun ∙ between, subst (λ (c : Call). IsExtended old c new) (sym (begins-is call (sym begun))) (subst (λ (ts : List (List Call)). IsExtended old Begin ts) (sym is) (begun-extended old a (sym between))))
