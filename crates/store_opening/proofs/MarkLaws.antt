-- Marks on objects, one after another.
use Rattle.std.proofs.Common.{◌≡◌, ℕ, zero, suc, ◌+◌, ◌<◌, ◌≤◌, List, [], ◌∷◌, ◌++◌, Bool, true, false, cond, length, get_or, set, replicate, refl, sym, ap, ◌∙◌, subst, arith, ⊎_elim, ◌⊎◌, inl, inr}
use Rattle.std.specs.Prelude.{not, Contains}
use Rattle.std.proofs.lemmas.Bool.{cases_eq, cases_lt}
use Rattle.std.proofs.lemmas.List.{get_or-set_same, get_or-set_other, length-set, length-append}
use Rattle.std.proofs.lemmas.List.Elements.{Contains-append_left, Contains-push, Contains-push_cases}
use Rattle.std.proofs.lemmas.List.Sums.{sum_by-set}
use Rattle.cell_model.specs.Cells.{Cell}
use Rattle.cell_model.specs.Strong.{IsStrongAt, StrongPath, one, more}
use Rattle.store_opening.specs.Marks.{IsMarked, AreIds, LeadsToMarked, AreSettled, unmarked, Spreads, IsStrongTarget, IsSearching}

-- ---- one mark

pub marked-set : (marks : List Bool) (to x : ℕ) → IsMarked (set marks to true) x → IsMarked marks x ⊎ (x ≡ to)
marked-set marks to x m = ⊎_elim (λ e. inr e) (λ n. inl (sym (get_or-set_other marks to x true false n) ∙ m)) (cases_eq x to)

pub marked-here : (marks : List Bool) (to : ℕ) → to < length marks → IsMarked (set marks to true) to
marked-here marks to l = get_or-set_same marks to true false l

pub marked-stays : (marks : List Bool) (to x : ℕ) → to < length marks → IsMarked marks x → IsMarked (set marks to true) x
marked-stays marks to x l m = ⊎_elim (λ e. subst (λ (i : ℕ). IsMarked (set marks to true) i) (sym e) (marked-here marks to l)) (λ n. get_or-set_other marks to x true false n ∙ m) (cases_eq x to)

unmarked-set : (marks : List Bool) (to : ℕ) → to < length marks → get_or marks to false ≡ false → unmarked (set marks to true) + 1 ≡ unmarked marks
unmarked-set marks to l free =
    let s = sum_by-set (λ (b : Bool). cond (not b) 1 0) marks to true false l in
    let one : ℕ = 1 in
    let f : cond (not (get_or marks to false)) one 0 ≡ one = ap (λ (b : Bool). cond (not b) 1 0) free in
    omega (arith, s, f)

-- ---- numbers in a list

pub no-member : (x : ℕ) → Contains {X = ℕ} [] x → ⊥
no-member x m = let l = m.1 in omega (arith, l)

pub in-pushed : (xs : List ℕ) (y x : ℕ) → Contains (xs ++ y ∷ []) x → Contains xs x ⊎ (x ≡ y)
in-pushed xs y x m = ⊎_elim (λ l. inl l) (λ (e : y ≡ x). inr (sym e)) (Contains-push_cases xs y x m)

pub in-last : (xs : List ℕ) (y : ℕ) → Contains (xs ++ y ∷ []) y
in-last xs y = Contains-push xs y

pub ids-pushed : (n : ℕ) (xs new : List ℕ) (y : ℕ) → new ≡ xs ++ y ∷ [] → 0 < y → y < n → AreIds n xs → AreIds n new
ids-pushed n xs new y e above below k x m =
    ⊎_elim (λ l. k x l) (λ (q : x ≡ y). subst (λ (i : ℕ). (0 < i) × (i < n)) (sym q) (above, below)) (in-pushed xs y x (subst (λ (ys : List ℕ). Contains ys x) e m))

pub ids-popped : (n : ℕ) (xs old : List ℕ) (y : ℕ) → old ≡ xs ++ y ∷ [] → AreIds n old → AreIds n xs
ids-popped n xs old y e k x m = k x (subst (λ (ys : List ℕ). Contains ys x) (sym e) (Contains-append_left xs (y ∷ []) x m))

pub id-last : (n : ℕ) (xs old : List ℕ) (y : ℕ) → old ≡ xs ++ y ∷ [] → AreIds n old → (0 < y) × (y < n)
id-last n xs old y e k = k y (subst (λ (ys : List ℕ). Contains ys y) (sym e) (in-last xs y))

-- ---- paths

-- where strong pointers of marked objects lead to marked ones, each object that they lead to is marked
pub path-marked : (cells : List Cell) (marks : List Bool) (a b : ℕ) → LeadsToMarked cells marks a → ((x : ℕ) → IsMarked marks x → LeadsToMarked cells marks x) → StrongPath cells a b → IsMarked marks b
path-marked cells marks a b first closed (one slot to s) = first slot to s
path-marked cells marks a b first closed (more via slot to p s) = closed via (path-marked cells marks a via first closed p) slot to s

-- ---- settled objects

pub settled-more : (cells : List Cell) (marks : List Bool) (x : ℕ) → AreSettled cells marks → x < length marks → LeadsToMarked cells marks x → AreSettled cells (set marks x true)
settled-more cells marks x s l leads = record {
  len = length-set marks x true ∙ s.len;
  closed = λ id m slot to at. marked-stays marks x to l (⊎_elim (λ (old : IsMarked marks id). s.closed id old slot to at) (λ (e : id ≡ x). subst (λ (i : ℕ). LeadsToMarked cells marks i) (sym e) leads slot to at) (marked-set marks x id m));
  no_cycle = λ id m w. ⊎_elim (λ (old : IsMarked marks id). s.no_cycle id old w) (λ (e : id ≡ x). s.no_cycle id (path-marked cells marks id id (subst (λ (i : ℕ). LeadsToMarked cells marks i) (sym e) leads) s.closed w) w) (marked-set marks x id m);
}

none-marked : (n x : ℕ) → IsMarked (replicate n false) x → ⊥
none-marked n x m = let e = get_or-replicate-same n x in let no : true ≡ false = sym m ∙ e in cc
  where
    get_or-replicate-same : (n x : ℕ) → get_or (replicate n false) x false ≡ false
    get_or-replicate-same zero x = refl
    get_or-replicate-same (suc n) zero = refl
    get_or-replicate-same (suc n) (suc x) = get_or-replicate-same n x

pub settled-none : (cells : List Cell) (marks : List Bool) (n : ℕ) → marks ≡ replicate n false → length marks ≡ length cells → AreSettled cells marks
settled-none cells marks n e l = record {
  len = l;
  closed = λ id m. absurd (none-marked n id (subst (λ (ms : List Bool). IsMarked ms id) e m));
  no_cycle = λ id m w. none-marked n id (subst (λ (ms : List Bool). IsMarked ms id) e m);
}

-- ---- a search

pub spreads-none : (R : ℕ → Type 0) (marks : List Bool) (work : List ℕ) → Spreads R marks work marks work
spreads-none R marks work = record {
  len = refl;
  stay = λ x m. m;
  reached = λ x m. inl m;
  wait = λ x m. inl m;
  waiting = λ x m. m;
  added = λ x m. inl m;
  ids = λ k. k;
  fewer = omega arith;
}

pub spreads-one : (marks : List Bool) (work new : List ℕ) (to : ℕ) → 0 < to → to < length marks → get_or marks to false ≡ false → new ≡ work ++ to ∷ [] → Spreads (λ x. x ≡ to) marks work (set marks to true) new
spreads-one marks work new to above l free e = record {
  len = length-set marks to true;
  stay = λ x m. marked-stays marks to x l m;
  reached = λ x m. marked-set marks to x m;
  wait = λ x m. ⊎_elim (λ old. inl old) (λ (q : x ≡ to). inr (subst (λ (i : ℕ). Contains new i) (sym q) (subst (λ (ys : List ℕ). Contains ys to) (sym e) (in-last work to)))) (marked-set marks to x m);
  waiting = λ x m. subst (λ (ys : List ℕ). Contains ys x) (sym e) (Contains-append_left work (to ∷ []) x m);
  added = λ x m. in-pushed work to x (subst (λ (ys : List ℕ). Contains ys x) e m);
  ids = λ k. ids-pushed (length marks) work new to e above l k;
  fewer = (let u = unmarked-set marks to l free in let n = ap (λ (ys : List ℕ). length ys) e ∙ length-append work (to ∷ []) in omega (arith, u, n));
}

pub spreads-then : (P R : ℕ → Type 0) (m0 m1 m2 : List Bool) (w0 w1 w2 : List ℕ) → ((x : ℕ) → P x → R x) → Spreads R m0 w0 m1 w1 → Spreads P m1 w1 m2 w2 → Spreads R m0 w0 m2 w2
spreads-then P R m0 m1 m2 w0 w1 w2 f a b = record {
  len = b.len ∙ a.len;
  stay = λ x m. b.stay x (a.stay x m);
  reached = λ x m. ⊎_elim (λ old. a.reached x old) (λ p. inr (f x p)) (b.reached x m);
  wait = λ x m. ⊎_elim (λ old. ⊎_elim (λ (l : IsMarked m0 x). inl l) (λ (c : Contains w1 x). inr (b.waiting x c)) (a.wait x old)) (λ c. inr c) (b.wait x m);
  waiting = λ x m. b.waiting x (a.waiting x m);
  added = λ x m. ⊎_elim (λ old. a.added x old) (λ p. inr (f x p)) (b.added x m);
  ids = λ k. subst (λ (n : ℕ). AreIds n w2) a.len (b.ids (subst (λ (n : ℕ). AreIds n w1) (sym a.len) (a.ids k)));
  fewer = (let x = a.fewer in let y = b.fewer in omega (arith, x, y));
}

pub search-start : (cells : List Cell) (id n : ℕ) (marks new_marks : List Bool) (work new_work : List ℕ) → marks ≡ replicate n false → length marks ≡ length cells → work ≡ [] → Spreads (IsStrongTarget cells id) marks work new_marks new_work
    → LeadsToMarked cells new_marks id → IsSearching cells id new_marks new_work
search-start cells id n marks new_marks work new_work e l none s first = record {
  len = s.len ∙ l;
  ids = subst (λ (k : ℕ). AreIds k new_work) (sym s.len) (s.ids (λ x m. absurd (no-member x (subst (λ (ys : List ℕ). Contains ys x) none m))));
  first = first;
  reached = λ x m. ⊎_elim (λ (old : IsMarked marks x). absurd (free x old)) (λ (t : IsStrongTarget cells id x). one t.slot x t.is) (s.reached x m);
  waiting = λ x m. ⊎_elim (λ (old : Contains work x). absurd (no-member x (subst (λ (ys : List ℕ). Contains ys x) none old))) (λ (t : IsStrongTarget cells id x). one t.slot x t.is) (s.added x m);
  spread = λ x m. ⊎_elim (λ (old : IsMarked marks x). absurd (free x old)) (λ (c : Contains new_work x). inl c) (s.wait x m);
}
  where
    free : (x : ℕ) → IsMarked marks x → ⊥
    free x m = none-marked n x (subst (λ (ms : List Bool). IsMarked ms x) e m)

pub search-step : (cells : List Cell) (id at : ℕ) (marks new_marks : List Bool) (old work new_work : List ℕ) → old ≡ work ++ at ∷ [] → IsSearching cells id marks old → Spreads (IsStrongTarget cells at) marks work new_marks new_work
    → LeadsToMarked cells new_marks at → IsSearching cells id new_marks new_work
search-step cells id at marks new_marks old work new_work e k s leads = record {
  len = s.len ∙ k.len;
  ids = subst (λ (n : ℕ). AreIds n new_work) (sym s.len) (s.ids (ids-popped (length marks) work old at e k.ids));
  first = λ slot to p. s.stay to (k.first slot to p);
  reached = λ x m. ⊎_elim (λ (was : IsMarked marks x). k.reached x was) (λ (t : IsStrongTarget cells at x). onward x t) (s.reached x m);
  waiting = λ x m. ⊎_elim (λ (was : Contains work x). k.waiting x (before x was)) (λ (t : IsStrongTarget cells at x). onward x t) (s.added x m);
  spread = λ x m. ⊎_elim (λ (was : IsMarked marks x). ⊎_elim (λ (c : Contains old x). waits x c) (λ (h : LeadsToMarked cells marks x). inr (λ slot to p. s.stay to (h slot to p))) (k.spread x was)) (λ (c : Contains new_work x). inl c) (s.wait x m);
}
  where
    before : (x : ℕ) → Contains work x → Contains old x
    before x m = subst (λ (ys : List ℕ). Contains ys x) (sym e) (Contains-append_left work (at ∷ []) x m)

    onward : (x : ℕ) → IsStrongTarget cells at x → StrongPath cells id x
    onward x t = more at t.slot x (k.waiting at (subst (λ (ys : List ℕ). Contains ys at) (sym e) (in-last work at))) t.is

    waits : (x : ℕ) → Contains old x → Contains new_work x ⊎ LeadsToMarked cells new_marks x
    waits x c = ⊎_elim (λ (w : Contains work x). inl (s.waiting x w)) (λ (q : x ≡ at). inr (subst (λ (i : ℕ). LeadsToMarked cells new_marks i) (sym q) leads)) (in-pushed work at x (subst (λ (ys : List ℕ). Contains ys x) e c))

-- nothing waits any more: the marked objects are all that strong pointers lead to
pub search-end : (cells : List Cell) (id x : ℕ) (marks : List Bool) → IsSearching cells id marks [] → StrongPath cells id x → IsMarked marks x
search-end cells id x marks k w = path-marked cells marks id x k.first (λ y m. ⊎_elim (λ (no : Contains {X = ℕ} [] y). absurd (no-member y no)) (λ (h : LeadsToMarked cells marks y). h) (k.spread y m)) w

-- ---- what is taken from a list, and what stands last in it

pub ids-shrunk : (n : ℕ) (xs old rest : List ℕ) → old ≡ xs ++ rest → AreIds n old → AreIds n xs
ids-shrunk n xs old rest e k x m = k x (subst (λ (ys : List ℕ). Contains ys x) (sym e) (Contains-append_left xs rest x m))

pub id-at : (n : ℕ) (xs : List ℕ) (i y : ℕ) → i < length xs → y ≡ get_or xs i y → AreIds n xs → (0 < y) × (y < n)
id-at n xs i y l e k = k y (i, l, sym e)

-- ---- one slot after another

-- a slot has one target
pub one-target : (cells : List Cell) (id slot a b : ℕ) → IsStrongAt cells id slot a → IsStrongAt cells id slot b → a ≡ b
one-target cells id slot a b x y = sym x.target ∙ y.target

pub slot-marked : (cells : List Cell) (id slot to : ℕ) (marks new : List Bool) → IsStrongAt cells id slot to → ((x : ℕ) → IsMarked marks x → IsMarked new x) → IsMarked new to
    → ((k t : ℕ) → k < slot → IsStrongAt cells id k t → IsMarked marks t) → (k t : ℕ) → k < slot + 1 → IsStrongAt cells id k t → IsMarked new t
slot-marked cells id slot to marks new here stay m before k t low s =
    ⊎_elim (λ (l : k < slot). stay t (before k t l s))
    (λ (l : slot ≤ k). let e : k ≡ slot = omega (arith, low, l) in subst (λ (x : ℕ). IsMarked new x) (one-target cells id slot to t here (subst (λ (j : ℕ). IsStrongAt cells id j t) e s)) m) (cases_lt k slot)

pub slot-passed : (cells : List Cell) (id slot : ℕ) (marks : List Bool) → ((to : ℕ) → IsStrongAt cells id slot to → ⊥)
    → ((k t : ℕ) → k < slot → IsStrongAt cells id k t → IsMarked marks t) → (k t : ℕ) → k < slot + 1 → IsStrongAt cells id k t → IsMarked marks t
slot-passed cells id slot marks none before k t low s =
    ⊎_elim (λ (l : k < slot). before k t l s) (λ (l : slot ≤ k). let e : k ≡ slot = omega (arith, low, l) in absurd (none t (subst (λ (j : ℕ). IsStrongAt cells id j t) e s))) (cases_lt k slot)
