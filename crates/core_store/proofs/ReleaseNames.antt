-- What the registers of a client hold, register by register.
use Rattle.std.proofs.Common.{◌≡◌, ◌≢◌, ℕ, ◌+◌, ◌<◌, List, [], ◌∷◌, ◌++◌, cond, true, false, refl, sym, ap, ◌∙◌, subst, Option, Some, None, ⊎_elim, eq-eqb, ne_eqb, length, get_or, take, append_assoc}
use Rattle.std.specs.Prelude.{◌==◌, ◌≤◌, not, if◌then◌else◌, filter, Contains}
use Rattle.std.specs.Option.{option_map_or}
use Rattle.std.specs.List.{list_any}
use Rattle.std.proofs.lemmas.List.{append-nil, take_more, take_all}
use Rattle.std.proofs.lemmas.List.Elements.{filter-append}
use Rattle.std.proofs.lemmas.List.Sums.{fold-append}
use Rattle.std.proofs.lemmas.Bool.{cases_Bool, eqb-true, false_from_ne_true, or_cases, or_left, or_right}
use Rattle.plain_model.specs.Graphs.{root}
use Rattle.plain_model.specs.Machine.{is_among, with_id}
use Rattle.plain_laws.proofs.Entries.{same_or_apart}
use Rattle.store_model.specs.Steps.{held_ids}
use Rattle.store_model.proofs.Lists.{Contains-here, Contains-later}
use Rattle.store_model.proofs.OnceLaws.{nothing-in}
use Rattle.store_model.proofs.StepLaws.{Contains-cons}
use Rattle.store_model.proofs.ReferenceLaws.{held_from, held-here, held-cases}
use Rattle.core_store.specs.References.{holds}

-- ---- whether a register holds an object

any-there : (rs : List (Option ℕ)) (id : ℕ) → list_any (holds id) rs ≡ true → Contains rs (Some id)
any-there [] id h = let no : false ≡ true = h in absurd (cc)
any-there (None ∷ rs) id h = Contains-later None rs (Some id) (any-there rs id h)
any-there (Some y ∷ rs) id h =
    ⊎_elim
    (λ e. subst (λ z. Contains (Some y ∷ rs) (Some z)) (eqb-true y id e) (Contains-here (Some y) rs))
    (λ e. Contains-later (Some y) rs (Some id) (any-there rs id e))
    (or_cases (y == id) (list_any (holds id) rs) h)

there-any : (rs : List (Option ℕ)) (id : ℕ) → Contains rs (Some id) → list_any (holds id) rs ≡ true
there-any [] id m = nothing-in (Some id) m
there-any (None ∷ rs) id m = ⊎_elim (λ (e : None ≡ Some id). absurd (cc)) (λ k. there-any rs id k) (Contains-cons None rs (Some id) m)
there-any (Some y ∷ rs) id m =
    ⊎_elim
    (λ (e : Some y ≡ Some id). let same : y ≡ id = cc in or_left (y == id) (list_any (holds id) rs) (eq-eqb y id same))
    (λ k. or_right (y == id) (list_any (holds id) rs) (there-any rs id k))
    (Contains-cons (Some y) rs (Some id) m)

-- ---- one register more

abbrev but_root : List ℕ → List ℕ
but_root ids = filter (λ id. not (id == root)) ids

held-push : (rs : List (Option ℕ)) (o : Option ℕ) → held_ids (rs ++ o ∷ []) ≡ but_root (option_map_or (λ id. with_id id (held_from [] rs)) o (held_from [] rs))
held-push rs o = ap but_root (fold-append (λ (ids : List ℕ) (register : Option ℕ). option_map_or (λ id. with_id id ids) register ids) [] rs (o ∷ []))

pub held-none : (rs : List (Option ℕ)) → held_ids (rs ++ None ∷ []) ≡ held_ids rs ++ []
held-none rs = held-push rs None ∙ sym (append-nil (held_ids rs))

-- an object that an earlier register holds
pub held-again : (rs : List (Option ℕ)) (id : ℕ) → list_any (holds id) rs ≡ true → held_ids (rs ++ Some id ∷ []) ≡ held_ids rs ++ []
held-again rs id h =
    held-push rs (Some id)
    ∙ (ap (λ b. but_root (cond b (held_from [] rs) (held_from [] rs ++ id ∷ []))) (held-here rs [] id (any-there rs id h))
    ∙ sym (append-nil (held_ids rs)))

root-gone : (ids : List ℕ) → but_root (ids ++ root ∷ []) ≡ but_root ids
root-gone ids = filter-append (λ id. not (id == root)) ids (root ∷ []) ∙ append-nil (but_root ids)

root-stays : (ids : List ℕ) → but_root (with_id root ids) ≡ but_root ids
root-stays ids =
    ⊎_elim
    (λ (e : is_among root ids ≡ true). ap (λ b. but_root (cond b ids (ids ++ root ∷ []))) e)
    (λ (e : is_among root ids ≡ false). ap (λ b. but_root (cond b ids (ids ++ root ∷ []))) e ∙ root-gone ids)
    (cases_Bool (is_among root ids))

pub held-root : (rs : List (Option ℕ)) → held_ids (rs ++ Some root ∷ []) ≡ held_ids rs ++ []
held-root rs = held-push rs (Some root) ∙ (root-stays (held_from [] rs) ∙ sym (append-nil (held_ids rs)))

-- a new one
new-joins : (ids : List ℕ) (id : ℕ) → id ≢ root → is_among id ids ≡ false → but_root (with_id id ids) ≡ but_root ids ++ id ∷ []
new-joins ids id n fresh =
    ap (λ b. but_root (cond b ids (ids ++ id ∷ []))) fresh
    ∙ (filter-append (λ x. not (x == root)) ids (id ∷ [])
    ∙ ap (λ b. but_root ids ++ cond (not b) (id ∷ []) []) (ne_eqb id root n))

not-seen : (rs : List (Option ℕ)) (id : ℕ) → list_any (holds id) rs ≡ false → is_among id (held_from [] rs) ≡ false
not-seen rs id fresh =
    false_from_ne_true (is_among id (held_from [] rs)) (λ e.
    ⊎_elim
    (λ (k : is_among id [] ≡ true). let no : false ≡ true = k in cc)
    (λ (k : Contains rs (Some id)). let no : true ≡ false = sym (there-any rs id k) ∙ fresh in cc)
    (held-cases rs [] id e))

pub held-new : (rs : List (Option ℕ)) (id : ℕ) → id ≢ root → list_any (holds id) rs ≡ false → held_ids (rs ++ Some id ∷ []) ≡ held_ids rs ++ id ∷ []
held-new rs id n fresh = held-push rs (Some id) ∙ new-joins (held_from [] rs) id n (not-seen rs id fresh)

-- ---- what the client names

-- it names one object more, as the registers do
pub named-push : (before after named : List ℕ) (pass id : ℕ) (rs : List (Option ℕ)) (o : Option ℕ) → after ≡ (if pass == pass then before ++ id ∷ [] else before) → held_ids (rs ++ o ∷ []) ≡ held_ids rs ++ id ∷ []
    → before ≡ named ++ held_ids rs → after ≡ named ++ held_ids (rs ++ o ∷ [])
named-push before after named pass id rs o grown held was =
    grown
    ∙ (ap (λ b. cond b (before ++ id ∷ []) before) (eq-eqb pass pass refl)
    ∙ (ap (λ xs. xs ++ id ∷ []) was
    ∙ (append_assoc named (held_ids rs) (id ∷ [])
    ∙ ap (λ xs. named ++ xs) (sym held))))

-- neither has grown
pub named-stays : (before named : List ℕ) (rs : List (Option ℕ)) (o : Option ℕ) → held_ids (rs ++ o ∷ []) ≡ held_ids rs ++ [] → before ≡ named ++ held_ids rs → before ≡ named ++ held_ids (rs ++ o ∷ [])
named-stays before named rs o held was = was ∙ ap (λ xs. named ++ xs) (sym (held ∙ append-nil (held_ids rs)))

-- what another client names stays
pub named-other : (before after : List ℕ) (p pass id : ℕ) → p ≢ pass → after ≡ (if p == pass then before ++ id ∷ [] else before) → after ≡ before
named-other before after p pass id n grown = grown ∙ ap (λ b. cond b (before ++ id ∷ []) before) (ne_eqb p pass n)

-- the registers so far and the next one are the first ones
pub next-register : (rs : List (Option ℕ)) (r : ℕ) (d : Option ℕ) (named after : List ℕ) → r < length rs → after ≡ named ++ held_ids (take r rs ++ get_or rs r d ∷ []) → after ≡ named ++ held_ids (take (r + 1) rs)
next-register rs r d named after l e = e ∙ ap (λ xs. named ++ held_ids xs) (sym (take_more rs r d l))

-- all registers
pub all-registers : (before after : ℕ → List ℕ) (pass : ℕ) (rs : List (Option ℕ)) (n : ℕ) → length rs ≤ n → after pass ≡ before pass ++ held_ids (take n rs) → ((p : ℕ) → p ≢ pass → after p ≡ before p)
    → (p : ℕ) → after p ≡ (if p == pass then before p ++ held_ids rs else before p)
all-registers before after pass rs n l named others p =
    ⊎_elim
    (λ (e : p ≡ pass). subst (λ q. after q ≡ (if q == pass then before q ++ held_ids rs else before q)) (sym e)
    (named ∙ (ap (λ xs. before pass ++ held_ids xs) (take_all n rs l) ∙ sym (ap (λ b. cond b (before pass ++ held_ids rs) (before pass)) (eq-eqb pass pass refl)))))
    (λ (e : p ≢ pass). others p e ∙ sym (ap (λ b. cond b (before p ++ held_ids rs) (before p)) (ne_eqb p pass e)))
    (same_or_apart p pass)
