-- References of a store, references that are left at an end, and the queue at an end.
use Rattle.std.proofs.Common.{◌≡◌, ◌≢◌, ℕ, List, [], ◌∷◌, ◌++◌, true, false, cond, not, refl, sym, ap, ◌∙◌, subst, ◌⊎◌, inl, inr, ⊎_elim, eq-eqb, ne_eqb}
use Rattle.std.specs.Prelude.{◌==◌, ◌&&◌, ◌||◌, if◌then◌else◌, Contains, map, filter, fold, Option, Some, None}
use Rattle.std.proofs.lemmas.Bool.{cases_eq, cases_Bool, cond-true, cond-false, false_from_ne_true, and_from, or_cases, or_left, or_right}
use Rattle.std.proofs.lemmas.List.Elements.{Contains-append_cases, Contains-append_left}
use Rattle.plain_model.specs.Graphs.{root}
use Rattle.plain_model.specs.ActiveTransaction.{ActiveTransaction}
use Rattle.plain_model.specs.Machine.{is_among, with_id}
use Rattle.plain_laws.proofs.Ids.{among-added_more, among-added_same, among-added_cases}
use Rattle.std.specs.Option.{option_map_or}
use Rattle.std.proofs.lemmas.Bool.{eqb-true}
use Rattle.store_model.specs.Core.{Put, Cut, Held, Ref, Core, names, is_named}
use Rattle.store_model.specs.Sound.{in_round, IsSound}
use Rattle.store_model.specs.Steps.{store_references, AreStoreReferences, held_ids, release_references, AreReleaseReferences, references_left, AreLeftReferences, IsQueueLeft, Joins}
use Rattle.store_model.proofs.Lists.{Contains-here, Contains-later}
use Rattle.store_model.proofs.OnceLaws.{nothing-in, once-append}
use Rattle.store_model.proofs.DeletionLaws.{names-is_named}
use Rattle.store_model.proofs.StepLaws.{Contains-cons}
use Rattle.store_model.proofs.VerdictLaws.{decide_among}
use Rattle.store_model.proofs.StoreSound.{names-more, names-new, is_named-append}

-- an entry of the table is a name
pub named-entry : (refs : List Ref) (r : Ref) → Contains refs r → names refs r.pass r.target ≡ true
named-entry [] r m = nothing-in r m
named-entry (q ∷ qs) r m =
    ⊎_elim
    (λ e. subst (λ (x : Ref). names (q ∷ qs) x.pass x.target ≡ true) e (or_left ((q.pass == q.pass) && (q.target == q.target)) (names qs q.pass q.target) (and_from (q.pass == q.pass) (q.target == q.target) (eq-eqb q.pass q.pass refl) (eq-eqb q.target q.target refl))))
    (λ k. or_right ((q.pass == r.pass) && (q.target == r.target)) (names qs r.pass r.target) (named-entry qs r k))
    (Contains-cons q qs r m)

-- a name is an entry of the table
pub named-by : (refs : List Ref) (id : ℕ) → is_named refs id ≡ true → (r : Ref) × Contains refs r × (r.target ≡ id)
named-by refs id h = ⊎_elim (λ q. let no : false ≡ true = q in cc) (λ q. q) (is_named-append [] refs id h)

-- ---- a store

one_ref : (n : ℕ) (r0 r : Ref) → Contains (if n == 0 then [] else r0 ∷ []) r → (n ≢ 0) × (r0 ≡ r)
one_ref n r0 r m =
    ⊎_elim
    (λ e. nothing-in r (subst (λ l. Contains l r) (cond-true (n == 0) [] (r0 ∷ []) (eq-eqb n 0 e)) m))
    (λ e. (e, ⊎_elim (λ q. q) (λ q. nothing-in r q) (Contains-cons r0 [] r (subst (λ l. Contains l r) (cond-false (n == 0) [] (r0 ∷ []) (ne_eqb n 0 e)) m))))
    (cases_eq n 0)

one_name : (n : ℕ) (r0 : Ref) → n ≢ 0 → names (if n == 0 then [] else r0 ∷ []) r0.pass r0.target ≡ true
one_name n r0 e = ap (λ l. names l r0.pass r0.target) (cond-false (n == 0) [] (r0 ∷ []) (ne_eqb n 0 e)) ∙ named-entry (r0 ∷ []) r0 (Contains-here r0 [])

pub store_references-fit : (pass old target : ℕ) → AreStoreReferences pass old target (store_references pass old target)
store_references-fit pass old target =
    let r1 : Ref = record { pass = pass; target = old; kind = Cut } in
    let r2 : Ref = record { pass = pass; target = target; kind = Put } in
    let l1 = if old == 0 then [] else r1 ∷ [] in
    let l2 = if target == 0 then [] else r2 ∷ [] in
    record {
      own = λ r m. ⊎_elim (λ h. ap (λ (r : Ref). r.pass) (sym (one_ref old r1 r h).1)) (λ h. ap (λ (r : Ref). r.pass) (sym (one_ref target r2 r h).1)) (Contains-append_cases l1 l2 r m);
      only = λ r m. ⊎_elim
          (λ h. let o = one_ref old r1 r h in let e = ap (λ (r : Ref). r.target) (sym o.1) in ((λ z. o.0 (sym e ∙ z)), inr e))
          (λ h. let o = one_ref target r2 r h in let e = ap (λ (r : Ref). r.target) (sym o.1) in ((λ z. o.0 (sym e ∙ z)), inl e))
          (Contains-append_cases l1 l2 r m);
      new_named = λ n. names-new l1 l2 pass target (one_name target r2 n);
      old_named = λ n. names-more l1 l2 pass old (one_name old r1 n);
    }

-- ---- a shared lock that is given back

-- the ids of the registers, after those so far
abbrev pub held_from : List ℕ → List (Option ℕ) → List ℕ
held_from ids registers = fold (λ ids register. option_map_or (λ id. with_id id ids) register ids) ids registers

held-more : (registers : List (Option ℕ)) (ids : List ℕ) (x : ℕ) → is_among x ids ≡ true → is_among x (held_from ids registers) ≡ true
held-more [] ids x h = h
held-more (None ∷ rs) ids x h = held-more rs ids x h
held-more (Some y ∷ rs) ids x h = held-more rs (with_id y ids) x (among-added_more x y ids h)

pub held-here : (registers : List (Option ℕ)) (ids : List ℕ) (x : ℕ) → Contains registers (Some x) → is_among x (held_from ids registers) ≡ true
held-here [] ids x m = nothing-in (Some x) m
held-here (None ∷ rs) ids x m = ⊎_elim (λ (e : None ≡ Some x). absurd (cc)) (λ k. held-here rs ids x k) (Contains-cons None rs (Some x) m)
held-here (Some y ∷ rs) ids x m =
    ⊎_elim
    (λ (e : Some y ≡ Some x). let same : y ≡ x = cc in held-more rs (with_id y ids) x (subst (λ z. is_among z (with_id y ids) ≡ true) same (among-added_same y ids)))
    (λ k. held-here rs (with_id y ids) x k)
    (Contains-cons (Some y) rs (Some x) m)

pub held-cases : (registers : List (Option ℕ)) (ids : List ℕ) (x : ℕ) → is_among x (held_from ids registers) ≡ true → (is_among x ids ≡ true) ⊎ Contains registers (Some x)
held-cases [] ids x h = inl h
held-cases (None ∷ rs) ids x h = ⊎_elim (λ e. inl e) (λ k. inr (Contains-later None rs (Some x) k)) (held-cases rs ids x h)
held-cases (Some y ∷ rs) ids x h =
    ⊎_elim
    (λ e. ⊎_elim (λ k. inl k) (λ k. inr (subst (λ z. Contains (Some y ∷ rs) (Some z)) (sym k) (Contains-here (Some y) rs))) (among-added_cases x y ids e))
    (λ k. inr (Contains-later (Some y) rs (Some x) k))
    (held-cases rs (with_id y ids) x h)

-- but for the root
among-apart : (ids : List ℕ) (x : ℕ) → x ≢ root → is_among x ids ≡ true → is_among x (filter (λ id. not (id == root)) ids) ≡ true
among-apart [] x n h = h
among-apart (y ∷ ys) x n h =
    ⊎_elim
    (λ e. let same = eqb-true y x e in subst (λ b. is_among x (cond (not b) (y ∷ filter (λ id. not (id == root)) ys) (filter (λ id. not (id == root)) ys)) ≡ true) (sym (ne_eqb y root (λ q. n (sym same ∙ q)))) (or_left (y == x) (is_among x (filter (λ id. not (id == root)) ys)) e))
    (λ e. elim (y == root) as (λ b. is_among x (cond (not b) (y ∷ filter (λ id. not (id == root)) ys) (filter (λ id. not (id == root)) ys)) ≡ true) [
      | true ↦ among-apart ys x n e
      | false ↦ or_right (y == x) (is_among x (filter (λ id. not (id == root)) ys)) (among-apart ys x n e)
    ])
    (or_cases (y == x) (is_among x ys) h)

among-filtered : (ids : List ℕ) (x : ℕ) → is_among x (filter (λ id. not (id == root)) ids) ≡ true → is_among x ids ≡ true
among-filtered [] x h = h
among-filtered (y ∷ ys) x h = elim (y == root) as (λ b. is_among x (cond (not b) (y ∷ filter (λ id. not (id == root)) ys) (filter (λ id. not (id == root)) ys)) ≡ true → (y == x || is_among x ys) ≡ true) [
  | true ↦ λ k. or_right (y == x) (is_among x ys) (among-filtered ys x k)
  | false ↦ λ k. ⊎_elim (λ e. or_left (y == x) (is_among x ys) e) (λ e. or_right (y == x) (is_among x ys) (among-filtered ys x e)) (or_cases (y == x) (is_among x (filter (λ id. not (id == root)) ys)) k)
] h

abbrev held_by : ℕ → List ℕ → List Ref
held_by pass ids = map (λ id. record { pass = pass; target = id; kind = Held }) ids

held-own : (pass : ℕ) (ids : List ℕ) (r : Ref) → Contains (held_by pass ids) r → (r.pass ≡ pass) × (is_among r.target ids ≡ true)
held-own pass [] r m = nothing-in r m
held-own pass (y ∷ ys) r m =
    let first : Ref = record { pass = pass; target = y; kind = Held } in
    ⊎_elim
    (λ (e : first ≡ r). (sym (ap (λ (q : Ref). q.pass) e), or_left (y == r.target) (is_among r.target ys) (eq-eqb y r.target (ap (λ (q : Ref). q.target) e))))
    (λ k. let o = held-own pass ys r k in (o.0, or_right (y == r.target) (is_among r.target ys) o.1))
    (Contains-cons first (held_by pass ys) r m)

held-named : (pass : ℕ) (ids : List ℕ) (x : ℕ) → is_among x ids ≡ true → names (held_by pass ids) pass x ≡ true
held-named pass [] x h = h
held-named pass (y ∷ ys) x h =
    ⊎_elim
    (λ e. or_left ((pass == pass) && (y == x)) (names (held_by pass ys) pass x) (and_from (pass == pass) (y == x) (eq-eqb pass pass refl) e))
    (λ e. or_right ((pass == pass) && (y == x)) (names (held_by pass ys) pass x) (held-named pass ys x e))
    (or_cases (y == x) (is_among x ys) h)

pub release_references-fit : (pass : ℕ) (t : ActiveTransaction) → AreReleaseReferences pass t (release_references pass t.registers)
release_references-fit pass t = record {
  own = λ r m. (held-own pass (held_ids t.registers) r m).0;
  only = λ r m. ⊎_elim (λ (e : false ≡ true). absurd (cc)) (λ k. k) (held-cases t.registers [] r.target (among-filtered (held_from [] t.registers) r.target (held-own pass (held_ids t.registers) r m).1));
  named = λ id m n. held-named pass (held_ids t.registers) id (among-apart (held_from [] t.registers) id n (held-here t.registers [] id m));
}

-- ---- an end

not-named : (r : Ref) (p id : ℕ) → r.pass ≢ p → ((r.pass == p) && (r.target == id)) ≡ false
not-named r p id n = ap (λ b. b && (r.target == id)) (ne_eqb r.pass p n)

-- an entry goes or stays
left_cons : (r : Ref) (rs : List Ref) (pass : ℕ) → ((r.pass ≡ pass) × (references_left (r ∷ rs) pass ≡ references_left rs pass)) ⊎ ((r.pass ≢ pass) × (references_left (r ∷ rs) pass ≡ r ∷ references_left rs pass))
left_cons r rs pass =
    ⊎_elim
    (λ e. inl (e, ap (λ b. cond (not b) (r ∷ references_left rs pass) (references_left rs pass)) (eq-eqb r.pass pass e)))
    (λ n. inr (n, ap (λ b. cond (not b) (r ∷ references_left rs pass) (references_left rs pass)) (ne_eqb r.pass pass n)))
    (cases_eq r.pass pass)

left-fewer : (refs : List Ref) (pass p id : ℕ) → names (references_left refs pass) p id ≡ true → names refs p id ≡ true
left-fewer [] pass p id h = h
left-fewer (r ∷ rs) pass p id h =
    let here = (r.pass == p) && (r.target == id) in
    ⊎_elim
    (λ e. or_right here (names rs p id) (left-fewer rs pass p id (subst (λ l. names l p id ≡ true) e.1 h)))
    (λ e. ⊎_elim (λ k. or_left here (names rs p id) k) (λ k. or_right here (names rs p id) (left-fewer rs pass p id k)) (or_cases here (names (references_left rs pass) p id) (subst (λ l. names l p id ≡ true) e.1 h)))
    (left_cons r rs pass)

left-stay : (refs : List Ref) (pass p id : ℕ) → p ≢ pass → names refs p id ≡ true → names (references_left refs pass) p id ≡ true
left-stay [] pass p id n h = h
left-stay (r ∷ rs) pass p id n h =
    let here = (r.pass == p) && (r.target == id) in
    ⊎_elim
    (λ e. ⊎_elim
    (λ k. let no : true ≡ false = sym k ∙ not-named r p id (λ z. n (sym z ∙ e.0)) in cc)
    (λ k. subst (λ l. names l p id ≡ true) (sym e.1) (left-stay rs pass p id n k))
    (or_cases here (names rs p id) h))
    (λ e. subst (λ l. names l p id ≡ true) (sym e.1) (⊎_elim (λ k. or_left here (names (references_left rs pass) p id) k) (λ k. or_right here (names (references_left rs pass) p id) (left-stay rs pass p id n k)) (or_cases here (names rs p id) h)))
    (left_cons r rs pass)

left-less : (refs : List Ref) (pass : ℕ) (x : Ref) → Contains (references_left refs pass) x → Contains refs x × (x.pass ≢ pass)
left-less [] pass x m = nothing-in x m
left-less (r ∷ rs) pass x m =
    ⊎_elim
    (λ e. let h = left-less rs pass x (subst (λ l. Contains l x) e.1 m) in (Contains-later r rs x h.0, h.1))
    (λ e. ⊎_elim
    (λ q. (subst (λ y. Contains (r ∷ rs) y) q (Contains-here r rs), subst (λ (y : Ref). y.pass ≢ pass) q e.0))
    (λ q. let h = left-less rs pass x q in (Contains-later r rs x h.0, h.1))
    (Contains-cons r (references_left rs pass) x (subst (λ l. Contains l x) e.1 m)))
    (left_cons r rs pass)

pub references_left-fit : (refs : List Ref) (pass : ℕ) → AreLeftReferences refs pass (references_left refs pass)
references_left-fit refs pass = record {
  fewer = left-fewer refs pass;
  stay = left-stay refs pass;
  less = left-less refs pass;
  unnamed = λ id h. false_from_ne_true (is_named (references_left refs pass) id) (λ k.
      let r = named-by (references_left refs pass) id k in
      let l = left-less refs pass r.0 r.1 in
      let no : true ≡ false = sym (names-is_named refs r.0.pass id (subst (λ i. names refs r.0.pass i ≡ true) r.2 (named-entry refs r.0 l.0))) ∙ h in cc);
}

-- the queue with what joins it has what would be known to nobody
pub queue-left : (c : Core) → IsSound c → (pass : ℕ) (left : List Ref) → AreLeftReferences c.refs pass left → (joined : List ℕ) → Joins c pass left joined → IsQueueLeft c left (c.queue ++ joined)
queue-left c s pass left a joined j = record {
  zero = λ x l n z. ⊎_elim
      (λ h. inl (Contains-append_left c.queue joined x h))
      (λ h. ⊎_elim
      (λ g. inr (inl g))
      (λ g.
      let r = named-by c.refs x g in
      let by : names c.refs r.0.pass x ≡ true = subst (λ i. names c.refs r.0.pass i ≡ true) r.2 (named-entry c.refs r.0 r.1) in
      ⊎_elim
      (λ (e : r.0.pass ≡ pass). ⊎_elim
      (λ f. inr (inr f))
      (λ f. ⊎_elim (λ k. inr (inl k)) (λ k. inl (j.complete x (subst (λ p. names c.refs p x ≡ true) e by) l n z k f)) (decide_among (in_round c) x))
      (cases_Bool (is_named left x)))
      (λ e. inr (inr (names-is_named left r.0.pass x (a.stay r.0.pass x e by))))
      (cases_eq r.0.pass pass))
      h)
      (s.zero x l n z);
  once = once-append c.queue joined s.queue_once j.once (λ x h k. (j.fit x k).3 h);
  queued = λ x m. ⊎_elim (λ h. s.queued x h) (λ h. let f = j.fit x h in (f.0, f.1, f.2)) (Contains-append_cases c.queue joined x m);
}
