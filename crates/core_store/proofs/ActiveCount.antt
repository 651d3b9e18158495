-- The same clients have a transaction in the tables and in the machine, and what their transactions owe a log.
use Rattle.std.proofs.Common.{◌≡◌, ◌≢◌, ℕ, ◌+◌, ◌*◌, ◌<◌, ◌≤◌, List, [], ◌∷◌, Bool, true, false, length, refl, sym, ap, ◌∙◌, subst, arith, ⊎_elim, Option, Some, None, Less}
use Rattle.std.specs.Prelude.{is_some, option_map, slice_get, sum_by}
use Rattle.std.specs.List.{AllByRecursion}
use Rattle.std.specs.List.Sorted.{IsStrictlySortedBy}
use Rattle.std.specs.Map.{keys_of, lookup}
use Rattle.std.specs.Ordering.{nat_cmp}
use Rattle.std.specs.BTreeMap.{is_at}
use Rattle.std.proofs.lemmas.Bool.{cases_lt}
use Rattle.std.proofs.lemmas.Bool.Decides.{nat_tests}
use Rattle.std.proofs.lemmas.List.Sums.{sum_by-cons}
use Rattle.std.proofs.lemmas.Map.Entries.{length-keys_of}
use Rattle.plain_model.specs.declared.object.Object.{Object}
use Rattle.plain_model.specs.ActiveTransaction.{ActiveTransaction}
use Rattle.plain_model.specs.Machine.{State, transaction_of, is_stored}
use Rattle.plain_model.specs.History.{least_active, left_to_undo}
use Rattle.plain_laws.specs.Sound.{Ascend, PassesAscend}
use Rattle.plain_laws.proofs.Entries.{same_or_apart}
use Rattle.store_model.specs.Core.{Core}
use Rattle.core_store.specs.Owed.{bytes_owed}
use Rattle.core_store.specs.Tables.{TablesView}
use Rattle.core_store.specs.Transactions.{Running, running_at}
use Rattle.core_store.specs.Stands.{Matches, Stands}
use Rattle.core_store.proofs.ReplyLaws.{each-unmap}
use Rattle.core_store.proofs.StoredLaws.{above-more, stored-here, stored-apart, unstored}

-- ---- ascending ids are told by which are among them

pub same-ids : (xs ys : List ℕ) → Ascend xs → Ascend ys → ((k : ℕ) → is_stored xs k ≡ is_stored ys k) → xs ≡ ys
same-ids [] [] a b h = refl
same-ids [] (y ∷ ys) a b h = let e = h y ∙ stored-here y y ys refl in absurd (cc)
same-ids (x ∷ xs) [] a b h = let e = sym (h x) ∙ stored-here x x xs refl in absurd (cc)
same-ids (x ∷ xs) (y ∷ ys) a b h = ap (λ k. k ∷ xs) key ∙ ap (λ r. y ∷ r) (same-ids xs ys a.1 b.1 later)
  where
    below : (m n : ℕ) (ms ns : List ℕ) → m < n → AllByRecursion (λ k. n < k) ns → is_stored (m ∷ ms) m ≡ is_stored (n ∷ ns) m → ⊥
    below m n ms ns l up e =
        let none : is_stored (n ∷ ns) m ≡ false = unstored m (n ∷ ns) (l, above-more m n ns (omega (arith, l)) up) in
        let some : true ≡ false = sym (stored-here m m ms refl) ∙ (e ∙ none) in
        cc

    key : x ≡ y
    key =
        ⊎_elim (λ (l : x < y). absurd (below x y xs ys l b.0 (h x)))
        (λ (l : y ≤ x). ⊎_elim (λ (m : y < x). absurd (below y x ys xs m a.0 (sym (h y)))) (λ (m : x ≤ y). omega (arith, l, m)) (cases_lt y x))
        (cases_lt x y)

    later : (k : ℕ) → is_stored xs k ≡ is_stored ys k
    later k =
        ⊎_elim
        (λ (e : k ≡ x).
        unstored k xs (subst (λ (n : ℕ). AllByRecursion (λ z. n < z) xs) (sym e) a.0)
        ∙ sym (unstored k ys (subst (λ (n : ℕ). AllByRecursion (λ z. n < z) ys) (sym (e ∙ key)) b.0)))
        (λ (n : k ≢ x). sym (stored-apart x k xs n) ∙ (h k ∙ stored-apart y k ys (λ e. n (e ∙ sym key))))
        (same_or_apart k x)

-- ---- the clients of entries

client-more : {X : Type 0} (e : ℕ × X) (es : List (ℕ × X)) (k : ℕ) (b : Bool) → is_at (nat_cmp k) e.0 ≡ b → is_stored (keys_of es) k ≡ is_some (lookup (is_at (nat_cmp k)) es)
    → is_stored (keys_of (e ∷ es)) k ≡ is_some (lookup (is_at (nat_cmp k)) (e ∷ es))
client-more e es k true is r = grind (arith, is)
client-more e es k false is r = grind (arith, is, r)

pub is-client : {X : Type 0} (es : List (ℕ × X)) (k : ℕ) → is_stored (keys_of es) k ≡ is_some (lookup (is_at (nat_cmp k)) es)
is-client [] k = refl
is-client (e ∷ es) k = client-more e es k (is_at (nat_cmp k) e.0) refl (is-client es k)

pub passes-keys : (es : List (ℕ × ActiveTransaction)) → PassesAscend es → Ascend (keys_of es)
passes-keys [] a = tt
passes-keys (e ∷ es) a = (each-unmap (λ n. e.0 < n) (λ (x : ℕ × ActiveTransaction). x.0) es a.0, passes-keys es a.1)

ascend-less : (n : ℕ) (ks : List ℕ) → AllByRecursion (λ k. nat_cmp n k ≡ Less) ks → AllByRecursion (λ k. n < k) ks
ascend-less n [] a = tt
ascend-less n (k ∷ ks) a = let l = a.0 in (grind (arith, nat_tests, l), ascend-less n ks a.1)

pub ordered-keys : (ks : List ℕ) → IsStrictlySortedBy nat_cmp ks → Ascend ks
unfolding IsStrictlySortedBy
ordered-keys [] s = tt
ordered-keys (k ∷ ks) s = (ascend-less k ks s.0, ordered-keys ks s.1)

-- ---- as many

same-some : (slots : ℕ) (g : List Object) (kept : Option Running) (t : Option ActiveTransaction) (undone : ℕ) → Matches slots g kept t undone → is_some kept ≡ is_some t
same-some slots g None None undone m = refl
same-some slots g None (Some t) undone m = absurd m
same-some slots g (Some kept) None undone m = absurd m
same-some slots g (Some kept) (Some t) undone m = refl

-- the same clients
pub same-active : (slots : ℕ) (v : TablesView) (c : Core) → Stands slots v c → IsStrictlySortedBy nat_cmp (keys_of v.transactions) → keys_of v.transactions ≡ keys_of c.moment.state.active
same-active slots v c h sorted =
    let active = c.moment.state.active in
    same-ids (keys_of v.transactions) (keys_of active) (ordered-keys (keys_of v.transactions) sorted) (passes-keys active h.sound.state.passes)
    (λ k.
    is-client v.transactions k
    ∙ (same-some slots c.moment.state.committed (running_at v.transactions k) (transaction_of c.moment.state k) (c.moment.undone k) (h.running k) ∙ sym (is-client active k)))

pub as-many-active : (slots : ℕ) (v : TablesView) (c : Core) → Stands slots v c → IsStrictlySortedBy nat_cmp (keys_of v.transactions) → length v.transactions ≡ length c.moment.state.active
as-many-active slots v c h sorted =
    sym (length-keys_of v.transactions) ∙ (ap (λ (ks : List ℕ). length ks) (same-active slots v c h sorted) ∙ length-keys_of c.moment.state.active)

-- ---- the least of them

least-of : (s : State) (es : List (ℕ × ActiveTransaction)) (ts : List (ℕ × Running)) → keys_of ts ≡ keys_of es → least_active (record s { active = es }) ≡ option_map (λ t. t.0) (slice_get ts 0)
least-of s [] [] e = refl
least-of s (x ∷ es) (t ∷ ts) e = ap (λ (ks : List ℕ). get_or_first ks x.0) (sym e)
  where
    get_or_first : List ℕ → ℕ → Option ℕ
    get_or_first [] d = Some d
    get_or_first (k ∷ ks) d = Some k
least-of s [] (t ∷ ts) e = absurd (cc)
least-of s (x ∷ es) [] e = absurd (cc)

-- the client of the first entry
pub least-first : (slots : ℕ) (v : TablesView) (c : Core) → Stands slots v c → IsStrictlySortedBy nat_cmp (keys_of v.transactions) → least_active c.moment.state ≡ option_map (λ t. t.0) (slice_get v.transactions 0)
least-first slots v c h sorted = least-of c.moment.state c.moment.state.active v.transactions (same-active slots v c h sorted)

-- ---- what they owe

module _ {X : Type 0} (left : X → ℕ) where
  bytes-entries : (es : List X) → sum_by (λ e. 25 * left e + 7) es + 18 * length es ≡ 25 * sum_by (λ e. left e + 1) es
  bytes-entries [] = refl
  bytes-entries (e ∷ es) =
      let a = sum_by-cons (λ (x : X). 25 * left x + 7) e es in
      let b = sum_by-cons (λ (x : X). left x + 1) e es in
      let r = bytes-entries es in
      omega (arith, a, b, r)

  some-entries : (es : List X) → length es ≤ sum_by (λ e. left e + 1) es
  some-entries [] = omega arith
  some-entries (e ∷ es) =
      let b = sum_by-cons (λ (x : X). left x + 1) e es in
      let r = some-entries es in
      omega (arith, b, r)

pub owes-entries : (slots : ℕ) (v : TablesView) (c : Core) → Stands slots v c → IsStrictlySortedBy nat_cmp (keys_of v.transactions) → length v.transactions ≤ v.owed
owes-entries slots v c h sorted =
    let n = as-many-active slots v c h sorted in
    let k = some-entries (λ (e : ℕ × ActiveTransaction). left_to_undo c.moment e.0) c.moment.state.active in
    omega (arith, n, k, h.owed)

pub owes-bytes : (slots : ℕ) (v : TablesView) (c : Core) → Stands slots v c → IsStrictlySortedBy nat_cmp (keys_of v.transactions) → bytes_owed c.moment + 18 * length v.transactions ≡ 25 * v.owed
owes-bytes slots v c h sorted =
    let n = as-many-active slots v c h sorted in
    let k = bytes-entries (λ (e : ℕ × ActiveTransaction). left_to_undo c.moment e.0) c.moment.state.active in
    omega (arith, n, k, h.owed)
