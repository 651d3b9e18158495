-- What the active clients owe, one after another, and where one client's transaction changes.
use Rattle.std.proofs.Common.{◌≡◌, ◌≢◌, ℕ, ◌+◌, ◌-◌, ◌<◌, List, [], ◌∷◌, refl, sym, ap, ◌∙◌, subst, Option, Some, None, ⊎_elim, arith}
use Rattle.std.specs.Prelude.{count_by, sum_by}
use Rattle.std.specs.List.{AllByRecursion}
use Rattle.std.specs.Map.{remove_entry}
use Rattle.std.specs.Option.{option_map_or}
use Rattle.std.specs.Ordering.{nat_cmp}
use Rattle.std.specs.BTreeMap.{is_at}
use Rattle.std.proofs.lemmas.Bool.Decides.{nat_tests}
use Rattle.std.proofs.lemmas.List.Sums.{sum_by-cons}
use Rattle.plain_model.specs.ActiveTransaction.{ActiveTransaction}
use Rattle.plain_model.specs.Machine.{transaction_of}
use Rattle.plain_model.specs.History.{Moment, can_be_undone, left_to_undo}
use Rattle.plain_laws.specs.Sound.{PassesAscend}
use Rattle.plain_laws.proofs.Entries.{at, at_here, at_next, at_none, none_some, same_or_apart, some_same, at-remove_same, at-remove_other, ascend-remove}

-- what the active clients owe together, each this much for the number of its writes that are left to undo
abbrev pub owed_in : (ℕ → ℕ) → Moment → ℕ
owed_in weight m = sum_by (λ e. weight (left_to_undo m e.0)) m.state.active

-- what an active client owes, with these counts of undone writes
abbrev pub owes : (ℕ → ℕ) → (ℕ → ℕ) → ℕ × ActiveTransaction → ℕ
owes weight undone e = weight (count_by can_be_undone e.1.writes - undone e.0)

-- what is owed by the client of this transaction, or of none
abbrev pub owed_at : (ℕ → ℕ) → (ℕ → ℕ) → ℕ → Option ActiveTransaction → ℕ
owed_at weight undone pass o = option_map_or (λ t. owes weight undone (pass, t)) o 0

-- a client after the others is another one
behind : (n p : ℕ) (t : ActiveTransaction) (es : List (ℕ × ActiveTransaction)) → AllByRecursion (λ e. n < e.0) es → at p es ≡ Some t → p ≢ n
behind n p t es a h = λ e. none_some (at p es) t (at_none p es (subst (λ k. AllByRecursion (λ (x : ℕ × ActiveTransaction). k < x.0) es) (sym e) a)) h

above : (n p : ℕ) (t : ActiveTransaction) (es : List (ℕ × ActiveTransaction)) → AllByRecursion (λ e. n < e.0) es → at p es ≡ Some t → n < p
above n p t [] a h = absurd (cc)
above n p t (e ∷ es) a h =
    let k : n < e.0 = a.0 in
    ⊎_elim (λ (s : p ≡ e.0). let l : n < p = omega arith in l) (λ (m : p ≢ e.0). above n p t es a.1 (sym (at_next p e es m) ∙ h)) (same_or_apart p e.0)

-- ---- the sum over the entries of the list

-- each client once, so what it owes is told by its own entry
pub owed-entries : (weight : ℕ → ℕ) (m : Moment) → PassesAscend m.state.active → owed_in weight m ≡ sum_by (owes weight m.undone) m.state.active
owed-entries weight m a = by m.state.active a (λ q u h. h)
  where
    by : (es : List (ℕ × ActiveTransaction)) → PassesAscend es → ((q : ℕ) (u : ActiveTransaction) → at q es ≡ Some u → transaction_of m.state q ≡ Some u) → sum_by (λ e. weight (left_to_undo m e.0)) es ≡ sum_by (owes weight m.undone) es
    by [] s h = refl
    by (e ∷ es) s h =
        let here : weight (left_to_undo m e.0) ≡ owes weight m.undone e =
        ap (λ (o : Option ActiveTransaction). weight (option_map_or (λ t. count_by can_be_undone t.writes) o 0 - m.undone e.0)) (h e.0 e.1 (at_here e.0 e es refl)) in
        let later = by es s.1 (λ q u k. h q u (at_next q e es (behind e.0 q u es s.0 k) ∙ k)) in
        sum_by-cons (λ (x : ℕ × ActiveTransaction). weight (left_to_undo m x.0)) e es
        ∙ (ap (λ n. n + sum_by (λ (x : ℕ × ActiveTransaction). weight (left_to_undo m x.0)) es) here
        ∙ (ap (λ n. owes weight m.undone e + n) later ∙ sym (sum_by-cons (owes weight m.undone) e es)))

-- ---- the entries of the others

remove_here : (p : ℕ) (e : ℕ × ActiveTransaction) (es : List (ℕ × ActiveTransaction)) → p ≡ e.0 → remove_entry (is_at (nat_cmp p)) (e ∷ es) ≡ es
remove_here p e es h = grind (arith, nat_tests)

remove_next : (p : ℕ) (e : ℕ × ActiveTransaction) (es : List (ℕ × ActiveTransaction)) → p ≢ e.0 → remove_entry (is_at (nat_cmp p)) (e ∷ es) ≡ e ∷ remove_entry (is_at (nat_cmp p)) es
remove_next p e es h = grind (arith, nat_tests)

-- all that is owed is what the others owe and what this one owes
pub sum-without : (weight undone : ℕ → ℕ) (p : ℕ) (es : List (ℕ × ActiveTransaction)) → sum_by (owes weight undone) es ≡ sum_by (owes weight undone) (remove_entry (is_at (nat_cmp p)) es) + owed_at weight undone p (at p es)
sum-without weight undone p [] = refl
sum-without weight undone p (e ∷ es) =
    ⊎_elim
    (λ (b : p ≡ e.0).
    let own : owed_at weight undone p (at p (e ∷ es)) ≡ owes weight undone e = ap (owed_at weight undone p) (at_here p e es b) ∙ ap (λ k. owes weight undone (k, e.1)) b in
    let rest = ap (sum_by (owes weight undone)) (remove_here p e es b) in
    let all = sum_by-cons (owes weight undone) e es in
    omega (arith, own, rest, all))
    (λ (b : p ≢ e.0).
    let own : owed_at weight undone p (at p (e ∷ es)) ≡ owed_at weight undone p (at p es) = ap (owed_at weight undone p) (at_next p e es b) in
    let rest = ap (sum_by (owes weight undone)) (remove_next p e es b) ∙ sum_by-cons (owes weight undone) e (remove_entry (is_at (nat_cmp p)) es) in
    let all = sum_by-cons (owes weight undone) e es in
    let less = sum-without weight undone p es in
    omega (arith, own, rest, all, less))
    (same_or_apart p e.0)

-- counts of undone writes matter for the clients that are there alone
pub sum-counts : (weight f g : ℕ → ℕ) (p : ℕ) (es : List (ℕ × ActiveTransaction)) → ((q : ℕ) → q ≢ p → g q ≡ f q) → PassesAscend es → at p es ≡ None → sum_by (owes weight g) es ≡ sum_by (owes weight f) es
sum-counts weight f g p [] h a n = refl
sum-counts weight f g p (e ∷ es) h a n =
    let d : e.0 ≢ p = λ k. none_some (at p (e ∷ es)) e.1 n (at_here p e es (sym k)) in
    let own : owes weight g e ≡ owes weight f e = ap (λ k. weight (count_by can_be_undone e.1.writes - k)) (h e.0 d) in
    let later = sum-counts weight f g p es h a.1 (sym (at_next p e es (λ k. d (sym k))) ∙ n) in
    let x = sum_by-cons (owes weight g) e es in
    let y = sum_by-cons (owes weight f) e es in
    omega (arith, own, later, x, y)

-- ascending entries are told by their look-ups
pub same-entries : (es fs : List (ℕ × ActiveTransaction)) → PassesAscend es → PassesAscend fs → ((q : ℕ) → at q fs ≡ at q es) → fs ≡ es
same-entries [] [] a b h = refl
same-entries [] (f ∷ fs) a b h = absurd (none_some (at f.0 []) f.1 refl (sym (h f.0) ∙ at_here f.0 f fs refl))
same-entries (e ∷ es) [] a b h = absurd (none_some (at e.0 []) e.1 refl (h e.0 ∙ at_here e.0 e es refl))
same-entries (e ∷ es) (f ∷ fs) a b h =
    let key : f.0 ≡ e.0 = same_key in
    let value : f.1 ≡ e.1 = some_same (at f.0 (f ∷ fs)) f.1 e.1 (h f.0 ∙ at_here f.0 e es key) (at_here f.0 f fs refl) in
    let rest : fs ≡ es = same-entries es fs a.1 b.1 (later key) in
    ap (λ k. (k, f.1) ∷ fs) key ∙ (ap (λ (t : ActiveTransaction). (e.0, t) ∷ fs) value ∙ ap (λ xs. e ∷ xs) rest)
  where
    same_key : f.0 ≡ e.0
    same_key =
        ⊎_elim (λ (s : f.0 ≡ e.0). s)
        (λ (n : f.0 ≢ e.0).
        let x : e.0 < f.0 = above e.0 f.0 f.1 es a.0 (sym (at_next f.0 e es n) ∙ (sym (h f.0) ∙ at_here f.0 f fs refl)) in
        let y : f.0 < e.0 = above f.0 e.0 e.1 fs b.0 (sym (at_next e.0 f fs (λ k. n (sym k))) ∙ (h e.0 ∙ at_here e.0 e es refl)) in
        absurd (omega (arith, x, y)))
        (same_or_apart f.0 e.0)

    later : f.0 ≡ e.0 → (q : ℕ) → at q fs ≡ at q es
    later key q =
        ⊎_elim
        (λ (s : q ≡ e.0). at_none q fs (subst (λ k. AllByRecursion (λ (x : ℕ × ActiveTransaction). k < x.0) fs) (key ∙ sym s) b.0) ∙ sym (at_none q es (subst (λ k. AllByRecursion (λ (x : ℕ × ActiveTransaction). k < x.0) es) (sym s) a.0)))
        (λ (n : q ≢ e.0). sym (at_next q f fs (λ k. n (k ∙ key))) ∙ (h q ∙ at_next q e es n))
        (same_or_apart q e.0)

-- ---- one client's transaction changes

-- what all others owe
abbrev pub owed_by_others : (ℕ → ℕ) → Moment → ℕ → ℕ
owed_by_others weight m pass = sum_by (owes weight m.undone) (remove_entry (is_at (nat_cmp pass)) m.state.active)

pub owed-split : (weight : ℕ → ℕ) (m : Moment) (pass : ℕ) → PassesAscend m.state.active → owed_in weight m ≡ owed_by_others weight m pass + owed_at weight m.undone pass (transaction_of m.state pass)
owed-split weight m pass a = owed-entries weight m a ∙ sum-without weight m.undone pass m.state.active

-- the others owe what they did
pub others-owe : (weight : ℕ → ℕ) (m n : Moment) (pass : ℕ) → PassesAscend m.state.active → PassesAscend n.state.active → ((q : ℕ) → q ≢ pass → transaction_of n.state q ≡ transaction_of m.state q) → ((q : ℕ) → q ≢ pass → n.undone q ≡ m.undone q)
    → owed_by_others weight n pass ≡ owed_by_others weight m pass
others-owe weight m n pass a b others counts =
    let A = remove_entry (is_at (nat_cmp pass)) m.state.active in
    let B = remove_entry (is_at (nat_cmp pass)) n.state.active in
    let same : B ≡ A = same-entries A B (ascend-remove pass m.state.active a) (ascend-remove pass n.state.active b) look in
    ap (sum_by (owes weight n.undone)) same ∙ sum-counts weight m.undone n.undone pass A counts (ascend-remove pass m.state.active a) (at-remove_same pass m.state.active a)
  where
    look : (q : ℕ) → at q (remove_entry (is_at (nat_cmp pass)) n.state.active) ≡ at q (remove_entry (is_at (nat_cmp pass)) m.state.active)
    look q =
        ⊎_elim
        (λ (s : q ≡ pass). subst (λ k. at k (remove_entry (is_at (nat_cmp pass)) n.state.active) ≡ at k (remove_entry (is_at (nat_cmp pass)) m.state.active)) (sym s)
        (at-remove_same pass n.state.active b ∙ sym (at-remove_same pass m.state.active a)))
        (λ (d : q ≢ pass). at-remove_other pass q n.state.active d ∙ (others q d ∙ sym (at-remove_other pass q m.state.active d)))
        (same_or_apart q pass)
