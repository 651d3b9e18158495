-- What the root reaches is what it leads to in as many steps as the graph has objects.
use Rattle.std.proofs.Common.{◌≡◌, ◌≢◌, ◌⊎◌, ⊎_elim, inl, inr, ℕ, zero, suc, ◌+◌, ◌<◌, ◌≤◌, Bool, true, false, List, [], ◌∷◌, Option, Some, None, length, refl, sym, ap, ◌∙◌, subst, arith}
use Rattle.std.specs.Prelude.{◌==◌, ◌&&◌, ◌↔◌, not, if◌then◌else◌, is_some, slice_index, Contains}
use Rattle.std.specs.List.{AllByRecursion, list_any}
use Rattle.std.proofs.lemmas.Bool.{cases_lt}
use Rattle.std.proofs.lemmas.Bool.Decides.{nat_tests}
use Rattle.plain_model.specs.declared.object.Object.{Object}
use Rattle.plain_model.specs.Graphs.{root, object_at, has_object, IsGraph}
use Rattle.plain_model.specs.Reachable.{Reachable, step}
use Rattle.plain_model.specs.Machine.{State, is_stored}
use Rattle.plain_model.specs.History.{SameReachable}
use Rattle.plain_model.proofs.ReachableLaws.{Reachable-least}
use Rattle.plain_model.proofs.LawProofs.{object_at-here, object_at-next}
use Rattle.plain_laws.specs.Sound.{IsSoundGraph}
use Rattle.plain_laws.proofs.Ids.{or_left, or_right, or_cases, test_same, same_test, contains_slot, slot_contained}
use Rattle.store_model.proofs.OnceLaws.{only-one}
use Rattle.object_map.specs.Clients.{free_among, free_ids}
use Rattle.stored_map.specs.Graphs.{names, is_led_to, is_reached, count_beside, free_beside}
use Rattle.stored_map.proofs.GraphLaws.{root_reached}

-- ---- tests

both : (a b : Bool) → a ≡ true → b ≡ true → (a && b) ≡ true
both true b e f = f
both false b e f = absurd (cc)

parts_of : (a b : Bool) → (a && b) ≡ true → (a ≡ true) × (b ≡ true)
parts_of true b e = (refl, e)
parts_of false b e = absurd (cc)

pub same_answer : (a b : Bool) → (a ≡ true → b ≡ true) → (b ≡ true → a ≡ true) → a ≡ b
same_answer true b f g = sym (f refl)
same_answer false true f g = g refl
same_answer false false f g = refl

any_more : {X : Type 0} (t u : X → Bool) (xs : List X) → ((x : X) → t x ≡ true → u x ≡ true) → list_any t xs ≡ true → list_any u xs ≡ true
any_more t u [] f h = h
any_more t u (x ∷ xs) f h = ⊎_elim (λ a. or_left (u x) (list_any u xs) (f x a)) (λ a. or_right (u x) (list_any u xs) (any_more t u xs f a)) (or_cases (t x) (list_any t xs) h)

-- ---- slots

not_zero : (y : ℕ) → y ≢ 0 → not (y == 0) ≡ true
not_zero y n = grind (arith, nat_tests)

is_not_zero : (y : ℕ) → not (y == 0) ≡ true → y ≢ 0
is_not_zero y h e =
    let f : (y == 0) ≡ true = subst (λ z. (z == 0) ≡ true) (sym e) (test_same 0) in
    let g : false ≡ true = subst (λ b. not b ≡ true) f h in
    absurd (cc (g))

slot_any : (ss : List ℕ) (k y : ℕ) → slice_index ss k ≡ y → y ≢ 0 → list_any (λ z. z == y) ss ≡ true
slot_any [] k y e n = absurd (n (sym e))
slot_any (s ∷ ss) zero y e n = or_left (s == y) (list_any (λ z. z == y) ss) (subst (λ z. (z == y) ≡ true) (sym e) (test_same y))
slot_any (s ∷ ss) (suc k) y e n = or_right (s == y) (list_any (λ z. z == y) ss) (slot_any ss k y e n)

any_slot : (ss : List ℕ) (y : ℕ) → list_any (λ z. z == y) ss ≡ true → (k : ℕ) × (slice_index ss k ≡ y)
any_slot [] y h = absurd (cc)
any_slot (s ∷ ss) y h = ⊎_elim (λ a. (0, sym (same_test s y a))) (λ a. let r = any_slot ss y a in (suc r.0, r.1)) (or_cases (s == y) (list_any (λ z. z == y) ss) h)

names_it : (o : Object) (y : ℕ) → Contains o.slots y → y ≢ 0 → names o y ≡ true
names_it o y c n = let k = slot_contained o.slots y c in both (not (y == 0)) (list_any (λ z. z == y) o.slots) (not_zero y n) (slot_any o.slots k.0 y k.1 n)

is_named : (o : Object) (y : ℕ) → names o y ≡ true → Contains o.slots y × (y ≢ 0)
is_named o y h =
    let p = parts_of (not (y == 0)) (list_any (λ z. z == y) o.slots) h in
    let n : y ≢ 0 = is_not_zero y p.0 in
    let k = any_slot o.slots y p.1 in
    (contains_slot o.slots k.0 y k.1 n, n)

-- ---- objects of a graph

there : (o : Option Object) → is_some o ≡ true → (x : Object) × (o ≡ Some x)
there None h = absurd (cc)
there (Some x) h = (x, refl)

some_one : (a b : Object) → Some a ≡ Some b → a ≡ b
some_one a b e = cc

found_id : (g : List Object) (x : ℕ) (o : Object) → object_at g x ≡ Some o → o.id ≡ x
found_id [] x o e = absurd (cc)
found_id (y ∷ ys) x o e =
    elim (y.id == x) as (λ b. (y.id == x) ≡ b → (if b then Some y else object_at ys x) ≡ Some o → o.id ≡ x) [
      | true ↦ λ t f. ap (λ (z : Object). z.id) (sym (some_one y o f)) ∙ sym (same_test y.id x t)
      | false ↦ λ t f. found_id ys x o f
    ] refl e

all_found : (P : Object → Type 0) (g : List Object) (x : ℕ) (o : Object) → AllByRecursion P g → object_at g x ≡ Some o → P o
all_found P [] x o a e = absurd (cc)
all_found P (y ∷ ys) x o a e =
    elim (y.id == x) as (λ b. (if b then Some y else object_at ys x) ≡ Some o → P o) [ true ↦ λ f. subst P (some_one y o f) a.0 | false ↦ λ f. all_found P ys x o a.1 f ] e

any_found : (t : Object → Bool) (g : List Object) (x : ℕ) (o : Object) → object_at g x ≡ Some o → t o ≡ true → list_any t g ≡ true
any_found t [] x o e h = absurd (cc)
any_found t (y ∷ ys) x o e h =
    elim (y.id == x) as (λ b. (if b then Some y else object_at ys x) ≡ Some o → list_any t (y ∷ ys) ≡ true) [
      | true ↦ λ f. or_left (t y) (list_any t ys) (ap t (some_one y o f) ∙ h)
      | false ↦ λ f. or_right (t y) (list_any t ys) (any_found t ys x o f h)
    ] e

any_gives : (t : Object → Bool) (g : List Object) → IsGraph g → list_any t g ≡ true → (o : Object) × (object_at g o.id ≡ Some o) × (t o ≡ true)
any_gives t [] w h = absurd (cc)
any_gives t (y ∷ ys) w h = ⊎_elim
    (λ a. (y, object_at-here y ys y.id refl, a))
    (λ a.
    let r = any_gives t ys w.1 a in
    let apart : y.id < r.0.id = all_found (λ z. y.id < z.id) ys r.0.id r.0 w.0 r.1 in
    (r.0, object_at-next y ys r.0.id (λ e. absurd (omega (arith, apart, e))) ∙ r.1, r.2))
    (or_cases (t y) (list_any t ys) h)

-- how many objects pass a test
passing : (Object → Bool) → List Object → ℕ
passing t [] = 0
passing t (o ∷ os) = if t o then suc (passing t os) else passing t os

passing_most : (t : Object → Bool) (g : List Object) → passing t g ≤ length g
unfolding passing
passing_most t [] = omega arith
passing_most t (o ∷ os) = let h : passing t os ≤ length os = passing_most t os in elim (t o) as (λ b. (if b then suc (passing t os) else passing t os) ≤ suc (length os)) [ true ↦ omega (arith, h) | false ↦ omega (arith, h) ]

passing_some : (t : Object → Bool) (g : List Object) (x : ℕ) (o : Object) → object_at g x ≡ Some o → t o ≡ true → 1 ≤ passing t g
unfolding passing
passing_some t [] x o e h = absurd (cc)
passing_some t (y ∷ ys) x o e h =
    elim (y.id == x) as (λ b. (if b then Some y else object_at ys x) ≡ Some o → 1 ≤ (if t y then suc (passing t ys) else passing t ys)) [
      | true ↦ λ f. let k : t y ≡ true = ap t (some_one y o f) ∙ h in subst (λ b. 1 ≤ (if b then suc (passing t ys) else passing t ys)) (sym k) (omega arith)
      | false ↦ λ f. let r : 1 ≤ passing t ys = passing_some t ys x o f h in elim (t y) as (λ b. 1 ≤ (if b then suc (passing t ys) else passing t ys)) [ true ↦ omega arith | false ↦ r ]
    ] e

passing_more : (t u : Object → Bool) (g : List Object) → ((o : Object) → t o ≡ true → u o ≡ true) → passing t g ≤ passing u g
unfolding passing
passing_more t u [] f = omega arith
passing_more t u (o ∷ os) f =
    let r : passing t os ≤ passing u os = passing_more t u os f in
    elim (t o) as (λ b. t o ≡ b → (if b then suc (passing t os) else passing t os) ≤ (if u o then suc (passing u os) else passing u os)) [
      | true ↦ λ e. subst (λ b. suc (passing t os) ≤ (if b then suc (passing u os) else passing u os)) (sym (f o e)) (omega (arith, r))
      | false ↦ λ e. elim (u o) as (λ b. passing t os ≤ (if b then suc (passing u os) else passing u os)) [ true ↦ omega (arith, r) | false ↦ r ]
    ] refl

-- where no more pass the wider test, it is none wider on these objects
passing_same : (t u : Object → Bool) (g : List Object) → ((o : Object) → t o ≡ true → u o ≡ true) → passing u g ≤ passing t g → AllByRecursion (λ (o : Object). u o ≡ true → t o ≡ true) g
unfolding passing
passing_same t u [] f h = tt
passing_same t u (o ∷ os) f h = by (t o) (u o) refl refl h (λ k. passing_same t u os f k) (passing_more t u os f)
  where
    by : (a b : Bool) → t o ≡ a → u o ≡ b → (if b then suc (passing u os) else passing u os) ≤ (if a then suc (passing t os) else passing t os)
        → (passing u os ≤ passing t os → AllByRecursion (λ (x : Object). u x ≡ true → t x ≡ true) os) → passing t os ≤ passing u os → AllByRecursion (λ (x : Object). u x ≡ true → t x ≡ true) (o ∷ os)
    by true true e d k again m = ((λ z. e), again (let r : suc (passing u os) ≤ suc (passing t os) = k in omega (arith, r)))
    by true false e d k again m = absurd (let r : true ≡ false = sym (f o e) ∙ d in cc (r))
    by false false e d k again m = ((λ z. absurd (let r : true ≡ false = sym z ∙ d in cc (r))), again k)
    by false true e d k again m = let r : suc (passing u os) ≤ passing t os = k in absurd (omega (arith, r, m))

-- ---- ways

module _ (g : List Object) (w : IsSoundGraph g) where
  led_root : (n : ℕ) → is_led_to n g root ≡ true
  led_root zero = both (root == root) (has_object g root) (test_same root) w.rooted
  led_root (suc n) = or_left (is_led_to n g root) (has_object g root && list_any (λ (o : Object). is_led_to n g o.id && names o root) g) (led_root n)

  led_there : (n id : ℕ) → is_led_to n g id ≡ true → has_object g id ≡ true
  led_there zero id h =
      let p = parts_of (id == root) (has_object g root) h in
      subst (λ x. has_object g x ≡ true) (same_test id root p.0) p.1
  led_there (suc n) id h = ⊎_elim
      (λ a. led_there n id a)
      (λ a. (parts_of (has_object g id) (list_any (λ (o : Object). is_led_to n g o.id && names o id) g) a).0)
      (or_cases (is_led_to n g id) (has_object g id && list_any (λ (o : Object). is_led_to n g o.id && names o id) g) h)

  -- one step more leads nowhere else
  abbrev Stable : ℕ → Type 0
  Stable n = (id : ℕ) → is_led_to (suc n) g id ≡ true → is_led_to n g id ≡ true

  stable_next : (n : ℕ) → Stable n → Stable (suc n)
  stable_next n s id h = ⊎_elim
      (λ a. a)
      (λ a.
      let p = parts_of (has_object g id) (list_any (λ (o : Object). is_led_to (suc n) g o.id && names o id) g) a in
      let any : list_any (λ (o : Object). is_led_to n g o.id && names o id) g ≡ true =
      any_more (λ (o : Object). is_led_to (suc n) g o.id && names o id) (λ (o : Object). is_led_to n g o.id && names o id) g
      (λ o k. let q = parts_of (is_led_to (suc n) g o.id) (names o id) k in both (is_led_to n g o.id) (names o id) (s o.id q.0) q.1) p.1 in
      or_right (is_led_to n g id) (has_object g id && list_any (λ (o : Object). is_led_to n g o.id && names o id) g) (both (has_object g id) (list_any (λ (o : Object). is_led_to n g o.id && names o id) g) p.0 any))
      (or_cases (is_led_to (suc n) g id) (has_object g id && list_any (λ (o : Object). is_led_to (suc n) g o.id && names o id) g) h)

  led : ℕ → Object → Bool
  led n o = is_led_to n g o.id

  led_more : (n : ℕ) (o : Object) → led n o ≡ true → led (suc n) o ≡ true
  unfolding led
  led_more n o h = or_left (is_led_to n g o.id) (has_object g o.id && list_any (λ (p : Object). is_led_to n g p.id && names p o.id) g) h

  stays_there : (n : ℕ) → AllByRecursion (λ (o : Object). led (suc n) o ≡ true → led n o ≡ true) g → Stable n
  unfolding led
  stays_there n a id h =
      let o = there (object_at g id) (led_there (suc n) id h) in
      let is : o.0.id ≡ id = found_id g id o.0 o.1 in
      let k : is_led_to (suc n) g o.0.id ≡ true = subst (λ x. is_led_to (suc n) g x ≡ true) (sym is) h in
      subst (λ x. is_led_to n g x ≡ true) is (all_found (λ (p : Object). led (suc n) p ≡ true → led n p ≡ true) g id o.0 a o.1 k)

  progress : (n : ℕ) → Stable n ⊎ (suc n ≤ passing (led n) g)
  unfolding led
  progress zero = let o = there (object_at g root) w.rooted in inr (passing_some (led 0) g root o.0 o.1 (subst (λ x. is_led_to 0 g x ≡ true) (sym (found_id g root o.0 o.1)) (led_root 0)))
  progress (suc n) = ⊎_elim
      (λ s. inl (stable_next n s))
      (λ m. ⊎_elim
      (λ (l : passing (led n) g < passing (led (suc n)) g). inr (omega (arith, m, l)))
      (λ (l : passing (led (suc n)) g ≤ passing (led n) g). inl (stable_next n (stays_there n (passing_same (led n) (led (suc n)) g (led_more n) l))))
      (cases_lt (passing (led n) g) (passing (led (suc n)) g)))
      (progress n)

  settles : Stable (length g)
  settles = ⊎_elim (λ s. s) (λ (m : suc (length g) ≤ passing (led (length g)) g). let k : passing (led (length g)) g ≤ length g = passing_most (led (length g)) g in absurd (omega (arith, m, k))) (progress (length g))

  led_all : (x : ℕ) → Reachable g (root ∷ []) x → is_led_to (length g) g x ≡ true
  led_all x r = Reachable-least g (root ∷ []) (λ y. is_led_to (length g) g y ≡ true) (record {
    starts = λ y o m e. subst (λ z. is_led_to (length g) g z ≡ true) (only-one root y m) (led_root (length g));
    steps = λ y z o p k e m n f.
        let here : is_led_to (length g) g o.id ≡ true = subst (λ v. is_led_to (length g) g v ≡ true) (sym (found_id g y o e)) k in
        let any : list_any (λ (q : Object). is_led_to (length g) g q.id && names q z) g ≡ true = any_found (λ (q : Object). is_led_to (length g) g q.id && names q z) g y o e (both (is_led_to (length g) g o.id) (names o z) here (names_it o z m n)) in
        let has : has_object g z ≡ true = ap is_some f in
        settles z (or_right (is_led_to (length g) g z) (has_object g z && list_any (λ (q : Object). is_led_to (length g) g q.id && names q z) g) (both (has_object g z) (list_any (λ (q : Object). is_led_to (length g) g q.id && names q z) g) has any));
  }) r

  led_reaches : (n x : ℕ) → is_led_to n g x ≡ true → Reachable g (root ∷ []) x
  led_reaches zero x h =
      let p = parts_of (x == root) (has_object g root) h in
      subst (λ y. Reachable g (root ∷ []) y) (same_test x root p.0) (root_reached g w.rooted)
  led_reaches (suc n) x h = ⊎_elim
      (λ a. led_reaches n x a)
      (λ a.
      let p = parts_of (has_object g x) (list_any (λ (o : Object). is_led_to n g o.id && names o x) g) a in
      let o = any_gives (λ (q : Object). is_led_to n g q.id && names q x) g w.graph p.1 in
      let q = parts_of (is_led_to n g o.0.id) (names o.0 x) o.2 in
      let named = is_named o.0 x q.1 in
      let it = there (object_at g x) p.0 in
      step o.0.id x o.0 it.0 (led_reaches n o.0.id q.0) o.1 named.0 named.1 it.1)
      (or_cases (is_led_to n g x) (has_object g x && list_any (λ (o : Object). is_led_to n g o.id && names o x) g) h)

  pub reached_is : (x : ℕ) → (is_reached g x ≡ true) ↔ Reachable g (root ∷ []) x
  unfolding is_reached
  reached_is x = ((λ h. led_reaches (length g) x h), (λ r. led_all x r))

-- ---- counts

pub same_count : (t u : ℕ → Bool) (id n : ℕ) → ((x : ℕ) → t x ≡ u x) → count_beside t id n ≡ count_beside u id n
same_count t u id zero f = refl
same_count t u id (suc n) f =
    let r : count_beside t (id + 1) n ≡ count_beside u (id + 1) n = same_count t u (id + 1) n f in
    ap (λ b. if b then count_beside t (id + 1) n else suc (count_beside t (id + 1) n)) (f id) ∙ ap (λ k. if u id then k else suc k) r

stored_count : (stored : List ℕ) (id n : ℕ) → free_among stored id n ≡ count_beside (is_stored stored) id n
stored_count stored id zero = refl
stored_count stored id (suc n) = ap (λ k. if is_stored stored id then k else suc k) (stored_count stored (id + 1) n)

-- where just the objects are stored that the root reaches, so many ids are free as can be
pub exact_room : (s : State) → IsSoundGraph s.committed → ((id : ℕ) → (is_stored s.stored id ≡ true) ↔ Reachable s.committed (root ∷ []) id) → free_ids s ≡ free_beside s.ids s.committed
unfolding free_beside
exact_room s w exact = stored_count s.stored 1 s.ids ∙ same_count (is_stored s.stored) (is_reached s.committed) 1 s.ids (λ x. same_answer (is_stored s.stored x) (is_reached s.committed x)
    (λ h. (reached_is s.committed w x).1 ((exact x).0 h)) (λ h. (exact x).1 ((reached_is s.committed w x).0 h)))

-- a graph in which the root reaches the same leaves as many ids free
pub free_reach : (ids : ℕ) (g h : List Object) → IsSoundGraph g → IsSoundGraph h → SameReachable h g → free_beside ids h ≡ free_beside ids g
unfolding free_beside
free_reach ids g h w v s = same_count (is_reached h) (is_reached g) 1 ids (λ x. same_answer (is_reached h x) (is_reached g x)
    (λ e. (reached_is g w x).1 ((s.same x).0 ((reached_is h v x).0 e))) (λ e. (reached_is h v x).1 ((s.same x).1 ((reached_is g w x).0 e))))
