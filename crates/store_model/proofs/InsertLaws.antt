-- An entry of the active clients is added.
use Rattle.std.proofs.Common.{◌≡◌, ◌≢◌, ℕ, List, [], ◌∷◌, ◌++◌, cond, refl, sym, ap, ◌∙◌, subst, arith, Some, None, ◌⊎◌, inl, inr, ⊎_elim}
use Rattle.std.specs.Prelude.{Contains}
use Rattle.std.specs.List.{AllByRecursion}
use Rattle.std.specs.Map.{lookup}
use Rattle.std.specs.Ordering.{nat_cmp, is_eq, match_ordering}
use Rattle.std.specs.BTreeMap.{is_at, insert_entry}
use Rattle.std.proofs.lemmas.Bool.{cases_order}
use Rattle.std.proofs.lemmas.List.Elements.{Contains-append_cases, Contains-append_left, Contains-append_right}
use Rattle.plain_model.specs.ActiveTransaction.{ActiveTransaction}
use Rattle.plain_laws.specs.Sound.{PassesAscend}
use Rattle.store_model.proofs.Lists.{Contains-later}
use Rattle.store_model.proofs.StepLaws.{Contains-cons, cmp-same, cmp-above, cmp-below, above-less}
use Rattle.store_model.proofs.UndoLaws.{above-apart}

-- one entry of the active clients is new
pub record Inserts (active next : List (ℕ × ActiveTransaction)) (pass : ℕ) (u : ActiveTransaction) : Type 0 where
  pub pre : List (ℕ × ActiveTransaction)
  pub post : List (ℕ × ActiveTransaction)
  pub before : active ≡ pre ++ post
  pub after : next ≡ pre ++ (pass, u) ∷ post
  pub pre_others : AllByRecursion (λ e. e.0 ≢ pass) pre
  pub post_others : AllByRecursion (λ e. e.0 ≢ pass) post

pub inserts : (pass : ℕ) (u : ActiveTransaction) (active : List (ℕ × ActiveTransaction)) → PassesAscend active → lookup (is_at (nat_cmp pass)) active ≡ None → Inserts active (insert_entry nat_cmp active pass u) pass u
inserts pass u [] s h = record { pre = []; post = []; before = refl; after = refl; pre_others = tt; post_others = tt }
inserts pass u (e ∷ es) s h =
    ⊎_elim
    (λ q. let no : Some e.1 ≡ None = ap (λ o. cond (is_eq o) (Some e.1) (lookup (is_at (nat_cmp pass)) es)) (sym (cmp-same pass e.0 q)) ∙ h in cc)
    (⊎_elim
    (λ l. record {
      pre = [];
      post = e ∷ es;
      before = refl;
      after = ap (λ o. match_ordering o ((pass, u) ∷ e ∷ es) ((e.0, u) ∷ es) (e ∷ insert_entry nat_cmp es pass u)) (cmp-below pass e.0 l);
      pre_others = tt;
      post_others = ((λ q. absurd (omega (arith, l, q))), above-apart pass es (above-less pass e.0 l es s.0));
    })
    (λ l.
    let r = inserts pass u es s.1 (ap (λ o. cond (is_eq o) (Some e.1) (lookup (is_at (nat_cmp pass)) es)) (sym (cmp-above pass e.0 l)) ∙ h) in
    record {
      pre = e ∷ r.pre;
      post = r.post;
      before = ap (λ l. e ∷ l) r.before;
      after = ap (λ o. match_ordering o ((pass, u) ∷ e ∷ es) ((e.0, u) ∷ es) (e ∷ insert_entry nat_cmp es pass u)) (cmp-above pass e.0 l) ∙ ap (λ l. e ∷ l) r.after;
      pre_others = ((λ q. absurd (omega (arith, l, q))), r.pre_others);
      post_others = r.post_others;
    }))
    (cases_order pass e.0)

module _ (active next : List (ℕ × ActiveTransaction)) (pass : ℕ) (u : ActiveTransaction) (r : Inserts active next pass u) where
  -- an entry afterwards is the new one, or was there and is another client's
  pub insert-cases : (e : ℕ × ActiveTransaction) → Contains next e → (Contains active e × (e.0 ≢ pass)) ⊎ ((pass, u) ≡ e)
  insert-cases e m =
      let A : List (ℕ × ActiveTransaction) → Type 0 = λ l. Contains l e in
      ⊎_elim
      (λ h. inl (subst A (sym r.before) (Contains-append_left r.pre r.post e h), among r.pre r.pre_others e h))
      (λ h. ⊎_elim (λ q. inr q) (λ q. inl (subst A (sym r.before) (Contains-append_right r.pre r.post e q), among r.post r.post_others e q)) (Contains-cons (pass, u) r.post e h))
      (Contains-append_cases r.pre ((pass, u) ∷ r.post) e (subst A r.after m))
    where
      among : (es : List (ℕ × ActiveTransaction)) → AllByRecursion (λ e. e.0 ≢ pass) es → (e : ℕ × ActiveTransaction) → Contains es e → e.0 ≢ pass
      among [] h e m = let l = m.1 in absurd (omega (arith, l))
      among (d ∷ ds) h e m = ⊎_elim (λ q n. h.0 (ap (λ (e : ℕ × ActiveTransaction). e.0) q ∙ n)) (λ q. among ds h.1 e q) (Contains-cons d ds e m)

  pub insert-old : (e : ℕ × ActiveTransaction) → Contains active e → Contains next e
  insert-old e m =
      let A : List (ℕ × ActiveTransaction) → Type 0 = λ l. Contains l e in
      subst A (sym r.after) (⊎_elim
      (λ h. Contains-append_left r.pre ((pass, u) ∷ r.post) e h)
      (λ h. Contains-append_right r.pre ((pass, u) ∷ r.post) e (Contains-later (pass, u) r.post e h))
      (Contains-append_cases r.pre r.post e (subst A r.before m)))

-- a client's count of undone writes, where it isn't the one whose count changes
pub each_apart : (es : List (ℕ × ActiveTransaction)) (P : ℕ × ActiveTransaction → Type 0) (pass : ℕ) → ((e : ℕ × ActiveTransaction) → e.0 ≢ pass → P e) → AllByRecursion (λ d. d.0 ≢ pass) es → AllByRecursion P es
each_apart [] P pass f h = tt
each_apart (e ∷ es) P pass f h = (f e h.0, each_apart es P pass f h.1)
