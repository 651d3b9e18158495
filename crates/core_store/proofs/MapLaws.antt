-- The transactions after a change of one of them.
use Rattle.std.proofs.Common.{◌≡◌, ◌≢◌, ℕ, ◌+◌, ◌-◌, ◌<◌, ◌≤◌, List, [], ◌∷◌, ◌++◌, cond, refl, sym, ap, ◌∙◌, Option, Some, None, arith, ⊎_elim, length, length-take-le, Result, Ok, Err, OnErr, IfErr, IsErrAnd}
use Rattle.std.specs.Prelude.{unwrap_or, option_map, IsSome}
use Rattle.std.specs.Map.{set_value, remove_entry, keys_of}
use Rattle.std.specs.List.Sorted.{IsStrictlySortedBy}
use Rattle.std.proofs.lemmas.Cmp.{nat_cmp_total}
use Rattle.std.specs.Ordering.{nat_cmp}
use Rattle.std.specs.BTreeMap.{insert_entry, is_at}
use Rattle.std.proofs.lemmas.Bool.Decides.{nat_tests}
use Rattle.std.proofs.lemmas.List.{length_push, take_at}
use Rattle.std.proofs.lemmas.Map.Entries.{sum_by-set_value, sum_by-remove_entry, sum_by-insert_entry}
use Rattle.plain_laws.proofs.Entries.{same_or_apart}
use Rattle.plain_model.specs.declared.write.Write.{Write}
use Rattle.core_store.specs.Transactions.{Running, running_at, loaded, writing, without_last, forgetting, undoing}
use Rattle.core_store.specs.Tables.{owed_by, changed_at}

-- the client's transaction is this one, and every other client's is as before
pub record PutsAt (old new : List (ℕ × Running)) (pass : ℕ) (t : Running) : Type 0 where
  pub here : running_at new pass ≡ Some t
  pub others : (q : ℕ) → q ≢ pass → running_at new q ≡ running_at old q

-- ---- a value that is set

pub at_here : (p : ℕ) (e : ℕ × Running) (es : List (ℕ × Running)) → p ≡ e.0 → running_at (e ∷ es) p ≡ Some e.1
at_here p e es h = grind (arith, nat_tests)

pub at_next : (p : ℕ) (e : ℕ × Running) (es : List (ℕ × Running)) → p ≢ e.0 → running_at (e ∷ es) p ≡ running_at es p
at_next p e es h = grind (arith, nat_tests)

pub set_here : (p : ℕ) (t : Running) (e : ℕ × Running) (es : List (ℕ × Running)) → p ≡ e.0 → set_value (is_at (nat_cmp p)) (e ∷ es) t ≡ (e.0, t) ∷ es
set_here p t e es h = grind (arith, nat_tests)

pub set_next : (p : ℕ) (t : Running) (e : ℕ × Running) (es : List (ℕ × Running)) → p ≢ e.0 → set_value (is_at (nat_cmp p)) (e ∷ es) t ≡ e ∷ set_value (is_at (nat_cmp p)) es t
set_next p t e es h = grind (arith, nat_tests)

set-same : (p : ℕ) (t u : Running) (es : List (ℕ × Running)) → running_at es p ≡ Some u → running_at (set_value (is_at (nat_cmp p)) es t) p ≡ Some t
set-same p t u [] h = absurd (cc)
set-same p t u (e ∷ es) h =
    ⊎_elim
    (λ (a : p ≡ e.0). ap (λ fs. running_at fs p) (set_here p t e es a) ∙ at_here p (e.0, t) es a)
    (λ (n : p ≢ e.0). ap (λ fs. running_at fs p) (set_next p t e es n) ∙ (at_next p e (set_value (is_at (nat_cmp p)) es t) n ∙ set-same p t u es (sym (at_next p e es n) ∙ h)))
    (same_or_apart p e.0)

set-other : (p q : ℕ) (t : Running) (es : List (ℕ × Running)) → q ≢ p → running_at (set_value (is_at (nat_cmp p)) es t) q ≡ running_at es q
set-other p q t [] n = refl
set-other p q t (e ∷ es) n =
    ⊎_elim
    (λ (a : p ≡ e.0). let k : q ≢ e.0 = λ f. n (f ∙ sym a) in ap (λ fs. running_at fs q) (set_here p t e es a) ∙ (at_next q (e.0, t) es k ∙ sym (at_next q e es k)))
    (λ (m : p ≢ e.0). ap (λ fs. running_at fs q) (set_next p t e es m) ∙ ap (λ (r : Option Running). cond (is_at (nat_cmp q) e.0) (Some e.1) r) (set-other p q t es n))
    (same_or_apart p e.0)

-- a value that is set twice is the second one
set-twice : (p : ℕ) (t u : Running) (es : List (ℕ × Running)) → set_value (is_at (nat_cmp p)) (set_value (is_at (nat_cmp p)) es t) u ≡ set_value (is_at (nat_cmp p)) es u
set-twice p t u [] = refl
set-twice p t u (e ∷ es) =
    ⊎_elim
    (λ (a : p ≡ e.0). ap (λ fs. set_value (is_at (nat_cmp p)) fs u) (set_here p t e es a) ∙ (set_here p u (e.0, t) es a ∙ sym (set_here p u e es a)))
    (λ (n : p ≢ e.0).
    ap (λ fs. set_value (is_at (nat_cmp p)) fs u) (set_next p t e es n) ∙ (set_next p u e (set_value (is_at (nat_cmp p)) es t) n ∙ (ap (λ fs. e ∷ fs) (set-twice p t u es) ∙ sym (set_next p u e es n))))
    (same_or_apart p e.0)

-- the value that is there is set
pub set-own : (p : ℕ) (t : Running) (es : List (ℕ × Running)) → running_at es p ≡ Some t → set_value (is_at (nat_cmp p)) es t ≡ es
set-own p t [] h = refl
set-own p t (e ∷ es) h =
    ⊎_elim
    (λ (a : p ≡ e.0). set_here p t e es a ∙ ap (λ (u : Running). (e.0, u) ∷ es) (same (sym h ∙ at_here p e es a)))
    (λ (n : p ≢ e.0). set_next p t e es n ∙ ap (λ fs. e ∷ fs) (set-own p t es (sym (at_next p e es n) ∙ h)))
    (same_or_apart p e.0)
  where
    same : {a b : Running} → Some a ≡ Some b → a ≡ b
    same {a} {b} h = cc

changed-found : (pass : ℕ) (f : Running → Running) (t : Running) (es : List (ℕ × Running)) → running_at es pass ≡ Some t → changed_at pass f es ≡ set_value (is_at (nat_cmp pass)) es (f t)
changed-found pass f t es h = rw h

pub puts-changed : (pass : ℕ) (f : Running → Running) (t : Running) (es : List (ℕ × Running)) → running_at es pass ≡ Some t → PutsAt es (changed_at pass f es) pass (f t)
puts-changed pass f t es h = record {
  here = ap (λ fs. running_at fs pass) (changed-found pass f t es h) ∙ set-same pass (f t) t es h;
  others = λ q n. ap (λ fs. running_at fs q) (changed-found pass f t es h) ∙ set-other pass q (f t) es n;
}

-- ---- what is noted and taken back

pub without_last-push : (ws : List Write) (w : Write) → without_last (ws ++ w ∷ []) ≡ ws
without_last-push ws w = let n = length_push ws w in take_at ws (w ∷ []) (length (ws ++ w ∷ []) - 1) (omega (arith, n))

pub length-without_last : (ws : List Write) → 0 < length ws → length (without_last ws) + 1 ≡ length ws
length-without_last ws h = let n = length-take-le (length ws - 1) ws (omega arith) in omega (arith, n, h)

-- what is noted and taken back leaves all as it was
pub forgotten-noted : (pass : ℕ) (w : Write) (es : List (ℕ × Running)) → changed_at pass forgetting (changed_at pass (writing w) es) ≡ es
forgotten-noted pass w es = by (running_at es pass) refl
  where
    none : (f : Running → Running) (fs : List (ℕ × Running)) → running_at fs pass ≡ None → changed_at pass f fs ≡ fs
    none f fs h = rw h

    by : (o : Option Running) → running_at es pass ≡ o → changed_at pass forgetting (changed_at pass (writing w) es) ≡ es
    by None h = ap (λ fs. changed_at pass forgetting fs) (none (writing w) es h) ∙ none forgetting es h
    by (Some t) h =
        let back : forgetting (writing w t) ≡ t = ap (λ (ws : List Write). record t { replaced = ws }) (without_last-push t.replaced w) in
        changed-found pass forgetting (writing w t) (changed_at pass (writing w) es) (puts-changed pass (writing w) t es h).here
        ∙ (ap (λ fs. set_value (is_at (nat_cmp pass)) fs (forgetting (writing w t))) (changed-found pass (writing w) t es h)
        ∙ (set-twice pass (writing w t) (forgetting (writing w t)) es ∙ (ap (λ u. set_value (is_at (nat_cmp pass)) es u) back ∙ set-own pass t es h)))

-- ---- what is owed

pub owed-changed : (pass : ℕ) (f : Running → Running) (t : Running) (es : List (ℕ × Running)) → running_at es pass ≡ Some t → owed_by (changed_at pass f es) + (length t.replaced + 1) ≡ owed_by es + (length (f t).replaced + 1)
owed-changed pass f t es h =
    ap (λ fs. owed_by fs + (length t.replaced + 1)) (changed-found pass f t es h) ∙ sum_by-set_value (λ (t : Running). length t.replaced + 1) (is_at (nat_cmp pass)) es t (f t) h

pub owed-removed : (pass : ℕ) (t : Running) (es : List (ℕ × Running)) → running_at es pass ≡ Some t → owed_by (remove_entry (is_at (nat_cmp pass)) es) + (length t.replaced + 1) ≡ owed_by es
owed-removed pass t es h =
    ap (λ (o : Option Running). owed_by (remove_entry (is_at (nat_cmp pass)) es) + unwrap_or (option_map (λ (t : Running). length t.replaced + 1) o) 0) (sym h)
    ∙ sum_by-remove_entry (λ (t : Running). length t.replaced + 1) (is_at (nat_cmp pass)) es

pub owed-inserted : (pass : ℕ) (t : Running) (es : List (ℕ × Running)) → IsStrictlySortedBy nat_cmp (keys_of es) → running_at es pass ≡ None → owed_by (insert_entry nat_cmp es pass t) ≡ owed_by es + (length t.replaced + 1)
owed-inserted pass t es s h =
    let e = sum_by-insert_entry (λ (t : Running). length t.replaced + 1) nat_cmp_total es pass t s in
    let z : unwrap_or (option_map (λ (t : Running). length t.replaced + 1) (running_at es pass)) 0 ≡ 0 = ap (λ (o : Option Running). unwrap_or (option_map (λ (t : Running). length t.replaced + 1) o) 0) h in
    omega (arith, e, z)

-- a register that is loaded owes nothing
pub owed-loaded : (pass r : ℕ) (o : Option ℕ) (t : Running) (es : List (ℕ × Running)) → running_at es pass ≡ Some t → owed_by (changed_at pass (loaded r o) es) ≡ owed_by es
owed-loaded pass r o t es h = let e = owed-changed pass (loaded r o) t es h in omega (arith, e)

pub owed-noted : (pass : ℕ) (w : Write) (t : Running) (es : List (ℕ × Running)) → running_at es pass ≡ Some t → owed_by (changed_at pass (writing w) es) ≡ owed_by es + 1
owed-noted pass w t es h =
    let e = owed-changed pass (writing w) t es h in
    let n = length_push t.replaced w in
    omega (arith, e, n)

pub owed-undoing : (pass : ℕ) (t : Running) (es : List (ℕ × Running)) → running_at es pass ≡ Some t → 0 < length t.replaced → owed_by (changed_at pass undoing es) + 1 ≡ owed_by es
owed-undoing pass t es h l =
    let e = owed-changed pass undoing t es h in
    let n = length-without_last t.replaced l in
    omega (arith, e, n)

pub owed-least : (pass : ℕ) (t : Running) (es : List (ℕ × Running)) → running_at es pass ≡ Some t → length t.replaced + 1 ≤ owed_by es
owed-least pass t es h = let e = owed-removed pass t es h in omega (arith, e)

-- ---- options and results

pub if_err : {T E : Type 0} (r : Result T E) (Q P : E → Type 0) → IsErrAnd r Q → ((e : E) → Q e → P e) → IfErr r P
if_err (Ok v) Q P h f = tt
if_err (Err e) Q P h f = f e h

pub on_err : {T E : Type 0} (r : Result T E) (P : Type 0) → P → OnErr r P
on_err (Ok v) P k = tt
on_err (Err e) P k = k

pub more_on_err : {T E : Type 0} (r : Result T E) (P Q : Type 0) → (P → Q) → OnErr r P → OnErr r Q
more_on_err (Ok v) P Q f h = tt
more_on_err (Err e) P Q f h = f h

pub running-some : (o : Option Running) → IsSome o → (t : Running) × (o ≡ Some t)
running-some (Some t) h = (t, refl)
running-some None h = absurd (cc)

pub none_from : {X : Type 0} (o : Option X) → ((x : X) → o ≡ Some x → ⊥) → o ≡ None
none_from (Some x) h = absurd (h x refl)
none_from None h = refl

pub same_running : (o : Option Running) (t u : Running) → o ≡ Some t → o ≡ Some u → t ≡ u
same_running o t u a b = cc
