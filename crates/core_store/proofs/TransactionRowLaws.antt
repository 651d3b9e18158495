-- The entries of transactions that are kept in rows: what a row has is what is found at its client.
use Rattle.std.proofs.Common.{◌≡◌, ◌≢◌, ℕ, ◌+◌, ◌-◌, ◌<◌, ◌≤◌, zero, suc, List, [], ◌∷◌, ◌++◌, refl, sym, ap, ◌∙◌, subst, ◌⊎◌, inl, ⊎_elim, Bool, true, false, Option, Some, None, arith, length, Ordering, Less, Equal, Greater}
use Rattle.std.specs.Prelude.{slice_get, slice_set, slice_index_or, option_map, is_some, not}
use Rattle.std.specs.Option.{option_flatten}
use Rattle.std.specs.List.{AllByRecursion}
use Rattle.std.specs.List.Sorted.{IsStrictlySortedBy}
use Rattle.std.specs.Map.{set_value, remove_entry, keys_of}
use Rattle.std.specs.Ordering.{nat_cmp, match_ordering}
use Rattle.std.specs.BTreeMap.{insert_entry, is_at}
use Rattle.std.proofs.lemmas.Bool.{cases_lt}
use Rattle.std.proofs.lemmas.Bool.Decides.{nat_tests}
use Rattle.std.proofs.lemmas.List.{length-set, length_push, set-get_or}
use Rattle.std.proofs.lemmas.Option.{slice_get_read, slice_get_past}
use Rattle.core_store.specs.Transactions.{Running, running_at}
use Rattle.core_store.specs.TransactionRows.{ActiveClients, entries_from, entries_of, AreRowsInside}
use Rattle.core_store.proofs.MapLaws.{at_here, at_next, set_here, set_next}

abbrev pub Rows : Type 0
Rows = List (Option Running)

abbrev pub Entries : Type 0
Entries = List (ℕ × Running)

-- what the row of the client has
abbrev pub row_at : Rows → ℕ → Option Running
row_at rows p = option_flatten (slice_get rows p)

-- ---- the first entry, and the others

remove_here : (k : ℕ) (e : ℕ × Running) (es : Entries) → k ≡ e.0 → remove_entry (is_at (nat_cmp k)) (e ∷ es) ≡ es
remove_here k e es h = grind (arith, nat_tests)

remove_next : (k : ℕ) (e : ℕ × Running) (es : Entries) → k ≢ e.0 → remove_entry (is_at (nat_cmp k)) (e ∷ es) ≡ e ∷ remove_entry (is_at (nat_cmp k)) es
remove_next k e es h = grind (arith, nat_tests)

less : (k n : ℕ) → k < n → nat_cmp k n ≡ Less
less k n l = grind (arith, nat_tests, l)

equal : (k n : ℕ) → k ≡ n → nat_cmp k n ≡ Equal
equal k n e = grind (arith, nat_tests, e)

greater : (k n : ℕ) → n < k → nat_cmp k n ≡ Greater
greater k n l = grind (arith, nat_tests, l)

insert_by : (k : ℕ) (t : Running) (e : ℕ × Running) (es : Entries) (o : Ordering) → nat_cmp k e.0 ≡ o
    → insert_entry nat_cmp (e ∷ es) k t ≡ match_ordering o ((k, t) ∷ e ∷ es) ((e.0, t) ∷ es) (e ∷ insert_entry nat_cmp es k t)
insert_by k t e es o h = ap (λ o. match_ordering o ((k, t) ∷ e ∷ es) ((e.0, t) ∷ es) (e ∷ insert_entry nat_cmp es k t)) h

apart : (k n p : ℕ) → k ≡ n + suc p → k ≢ n
apart k n p e s = omega (arith, e, s)

below : (k n : ℕ) → k < n → k ≢ n
below k n l s = omega (arith, l, s)

-- ---- what is found

unfound : (n k : ℕ) (rows : Rows) → k < n → running_at (entries_from n rows) k ≡ None
unfolding entries_from
unfound n k [] l = refl
unfound n k (None ∷ rows) l = unfound (suc n) k rows (omega (arith, l))
unfound n k (Some t ∷ rows) l = at_next k (n, t) (entries_from (suc n) rows) (below k n l) ∙ unfound (suc n) k rows (omega (arith, l))

found_from : (n p k : ℕ) (rows : Rows) → k ≡ n + p → running_at (entries_from n rows) k ≡ row_at rows p
unfolding entries_from
found_from n p k [] e = refl
found_from n zero k (None ∷ rows) e = unfound (suc n) k rows (omega (arith, e))
found_from n zero k (Some t ∷ rows) e = at_here k (n, t) (entries_from (suc n) rows) (omega (arith, e))
found_from n (suc p) k (None ∷ rows) e = found_from (suc n) p k rows (omega (arith, e))
found_from n (suc p) k (Some t ∷ rows) e = at_next k (n, t) (entries_from (suc n) rows) (apart k n p e) ∙ found_from (suc n) p k rows (omega (arith, e))

pub found : (rows : Rows) (k : ℕ) → running_at (entries_of rows) k ≡ row_at rows k
found rows k = found_from 0 k k rows (omega arith)

-- ---- what changes where a row does

set_from : (n p k : ℕ) (rows : Rows) (u t : Running) → k ≡ n + p → slice_get rows p ≡ Some (Some u) → entries_from n (slice_set rows p (Some t)) ≡ set_value (is_at (nat_cmp k)) (entries_from n rows) t
unfolding entries_from
set_from n p k [] u t e h = absurd (cc)
set_from n zero k (None ∷ rows) u t e h = absurd (cc)
set_from n zero k (Some v ∷ rows) u t e h = sym (set_here k t (n, v) (entries_from (suc n) rows) (omega (arith, e)))
set_from n (suc p) k (None ∷ rows) u t e h = set_from (suc n) p k rows u t (omega (arith, e)) h
set_from n (suc p) k (Some v ∷ rows) u t e h =
    ap (λ (es : Entries). (n, v) ∷ es) (set_from (suc n) p k rows u t (omega (arith, e)) h) ∙ sym (set_next k t (n, v) (entries_from (suc n) rows) (apart k n p e))

pub entries-set : (rows : Rows) (k : ℕ) (u t : Running) → slice_get rows k ≡ Some (Some u) → entries_of (slice_set rows k (Some t)) ≡ set_value (is_at (nat_cmp k)) (entries_of rows) t
entries-set rows k u t h = set_from 0 k k rows u t (omega arith) h

unremoved : (n k : ℕ) (rows : Rows) → k < n → remove_entry (is_at (nat_cmp k)) (entries_from n rows) ≡ entries_from n rows
unfolding entries_from
unremoved n k [] l = refl
unremoved n k (None ∷ rows) l = unremoved (suc n) k rows (omega (arith, l))
unremoved n k (Some t ∷ rows) l =
    remove_next k (n, t) (entries_from (suc n) rows) (below k n l) ∙ ap (λ (es : Entries). (n, t) ∷ es) (unremoved (suc n) k rows (omega (arith, l)))

remove_from : (n p k : ℕ) (rows : Rows) → k ≡ n + p → entries_from n (slice_set rows p None) ≡ remove_entry (is_at (nat_cmp k)) (entries_from n rows)
unfolding entries_from
remove_from n p k [] e = refl
remove_from n zero k (None ∷ rows) e = sym (unremoved (suc n) k rows (omega (arith, e)))
remove_from n zero k (Some v ∷ rows) e = sym (remove_here k (n, v) (entries_from (suc n) rows) (omega (arith, e)))
remove_from n (suc p) k (None ∷ rows) e = remove_from (suc n) p k rows (omega (arith, e))
remove_from n (suc p) k (Some v ∷ rows) e =
    ap (λ (es : Entries). (n, v) ∷ es) (remove_from (suc n) p k rows (omega (arith, e))) ∙ sym (remove_next k (n, v) (entries_from (suc n) rows) (apart k n p e))

pub entries-removed : (rows : Rows) (k : ℕ) → entries_of (slice_set rows k None) ≡ remove_entry (is_at (nat_cmp k)) (entries_of rows)
entries-removed rows k = remove_from 0 k k rows (omega arith)

insert_below : (n k : ℕ) (t : Running) (rows : Rows) → k < n → insert_entry nat_cmp (entries_from n rows) k t ≡ (k, t) ∷ entries_from n rows
unfolding entries_from
insert_below n k t [] l = refl
insert_below n k t (None ∷ rows) l = insert_below (suc n) k t rows (omega (arith, l))
insert_below n k t (Some v ∷ rows) l = insert_by k t (n, v) (entries_from (suc n) rows) Less (less k n l)

insert_from : (n p k : ℕ) (rows : Rows) (t : Running) → k ≡ n + p → p < length rows → entries_from n (slice_set rows p (Some t)) ≡ insert_entry nat_cmp (entries_from n rows) k t
unfolding entries_from
insert_from n p k [] t e l = absurd (omega (arith, l))
insert_from n zero k (None ∷ rows) t e l =
    ap (λ (m : ℕ). (m, t) ∷ entries_from (suc n) rows) (omega (arith, e)) ∙ sym (insert_below (suc n) k t rows (omega (arith, e)))
insert_from n zero k (Some v ∷ rows) t e l = sym (insert_by k t (n, v) (entries_from (suc n) rows) Equal (equal k n (omega (arith, e))))
insert_from n (suc p) k (None ∷ rows) t e l = insert_from (suc n) p k rows t (omega (arith, e)) (omega (arith, l))
insert_from n (suc p) k (Some v ∷ rows) t e l =
    ap (λ (es : Entries). (n, v) ∷ es) (insert_from (suc n) p k rows t (omega (arith, e)) (omega (arith, l)))
    ∙ sym (insert_by k t (n, v) (entries_from (suc n) rows) Greater (greater k n (omega (arith, e))))

pub entries-inserted : (rows : Rows) (k : ℕ) (t : Running) → k < length rows → entries_of (slice_set rows k (Some t)) ≡ insert_entry nat_cmp (entries_of rows) k t
entries-inserted rows k t l = insert_from 0 k k rows t (omega arith) l

push_from : (n : ℕ) (rows : Rows) → entries_from n (rows ++ None ∷ []) ≡ entries_from n rows
unfolding entries_from
push_from n [] = refl
push_from n (None ∷ rows) = push_from (suc n) rows
push_from n (Some t ∷ rows) = ap (λ (es : Entries). (n, t) ∷ es) (push_from (suc n) rows)

-- a row more without a transaction
pub entries-push : (rows : Rows) → entries_of (rows ++ None ∷ []) ≡ entries_of rows
entries-push rows = push_from 0 rows

pub entries-none : entries_of [] ≡ []
unfolding entries_from
entries-none = refl

-- ---- how many

length_from : (n : ℕ) (rows : Rows) → length (entries_from n rows) ≤ length rows
unfolding entries_from
length_from n [] = omega arith
length_from n (None ∷ rows) = let r = length_from (suc n) rows in omega (arith, r)
length_from n (Some t ∷ rows) = let r = length_from (suc n) rows in omega (arith, r)

pub length-entries : (rows : Rows) → length (entries_of rows) ≤ length rows
length-entries rows = length_from 0 rows

length_set_from : (n p : ℕ) (rows : Rows) (u t : Running) → slice_get rows p ≡ Some (Some u) → length (entries_from n (slice_set rows p (Some t))) ≡ length (entries_from n rows)
unfolding entries_from
length_set_from n p [] u t h = absurd (cc)
length_set_from n zero (None ∷ rows) u t h = absurd (cc)
length_set_from n zero (Some v ∷ rows) u t h = refl
length_set_from n (suc p) (None ∷ rows) u t h = length_set_from (suc n) p rows u t h
length_set_from n (suc p) (Some v ∷ rows) u t h = ap suc (length_set_from (suc n) p rows u t h)

pub length-set-row : (rows : Rows) (k : ℕ) (u t : Running) → slice_get rows k ≡ Some (Some u) → length (entries_of (slice_set rows k (Some t))) ≡ length (entries_of rows)
length-set-row rows k u t h = length_set_from 0 k rows u t h

length_add_from : (n p : ℕ) (rows : Rows) (t : Running) → slice_get rows p ≡ Some None → length (entries_from n (slice_set rows p (Some t))) ≡ length (entries_from n rows) + 1
unfolding entries_from
length_add_from n p [] t h = absurd (cc)
length_add_from n zero (None ∷ rows) t h = omega arith
length_add_from n zero (Some v ∷ rows) t h = absurd (cc)
length_add_from n (suc p) (None ∷ rows) t h = length_add_from (suc n) p rows t h
length_add_from n (suc p) (Some v ∷ rows) t h = let r = length_add_from (suc n) p rows t h in omega (arith, r)

pub length-added : (rows : Rows) (k : ℕ) (t : Running) → slice_get rows k ≡ Some None → length (entries_of (slice_set rows k (Some t))) ≡ length (entries_of rows) + 1
length-added rows k t h = length_add_from 0 k rows t h

length_remove_from : (n p : ℕ) (rows : Rows) (u : Running) → slice_get rows p ≡ Some (Some u) → length (entries_from n (slice_set rows p None)) + 1 ≡ length (entries_from n rows)
unfolding entries_from
length_remove_from n p [] u h = absurd (cc)
length_remove_from n zero (None ∷ rows) u h = absurd (cc)
length_remove_from n zero (Some v ∷ rows) u h = omega arith
length_remove_from n (suc p) (None ∷ rows) u h = length_remove_from (suc n) p rows u h
length_remove_from n (suc p) (Some v ∷ rows) u h = let r = length_remove_from (suc n) p rows u h in omega (arith, r)

pub length-removed : (rows : Rows) (k : ℕ) (u : Running) → slice_get rows k ≡ Some (Some u) → length (entries_of (slice_set rows k None)) + 1 ≡ length (entries_of rows)
length-removed rows k u h = length_remove_from 0 k rows u h

-- ---- in which order

above : (k n : ℕ) (rows : Rows) → k < n → AllByRecursion (λ y. nat_cmp k y ≡ Less) (keys_of (entries_from n rows))
unfolding entries_from
above k n [] l = tt
above k n (None ∷ rows) l = above k (suc n) rows (omega (arith, l))
above k n (Some t ∷ rows) l = (less k n l, above k (suc n) rows (omega (arith, l)))

sorted-cons : (k : ℕ) (ks : List ℕ) → AllByRecursion (λ y. nat_cmp k y ≡ Less) ks → IsStrictlySortedBy nat_cmp ks → IsStrictlySortedBy nat_cmp (k ∷ ks)
unfolding IsStrictlySortedBy
sorted-cons k ks a s = (a, s)

sorted-none : IsStrictlySortedBy nat_cmp []
unfolding IsStrictlySortedBy
sorted-none = tt

ordered_from : (n : ℕ) (rows : Rows) → IsStrictlySortedBy nat_cmp (keys_of (entries_from n rows))
unfolding entries_from
ordered_from n [] = sorted-none
ordered_from n (None ∷ rows) = ordered_from (suc n) rows
ordered_from n (Some t ∷ rows) = sorted-cons n (keys_of (entries_from (suc n) rows)) (above n (suc n) rows (omega arith)) (ordered_from (suc n) rows)

pub ordered : (rows : Rows) → IsStrictlySortedBy nat_cmp (keys_of (entries_of rows))
ordered rows = ordered_from 0 rows

-- ---- the first

-- the client of the first entry
abbrev pub first_of : Entries → Option ℕ
first_of es = option_map (λ e. e.0) (slice_get es 0)

first_from : (n p : ℕ) (rows : Rows) (t : Running) → ((q : ℕ) → q < p → row_at rows q ≡ None) → slice_get rows p ≡ Some (Some t) → first_of (entries_from n rows) ≡ Some (n + p)
unfolding entries_from
first_from n p [] t none h = absurd (cc)
first_from n zero (None ∷ rows) t none h = absurd (cc)
first_from n zero (Some v ∷ rows) t none h = ap (λ (k : ℕ). Some k) (omega arith)
first_from n (suc p) (None ∷ rows) t none h = first_from (suc n) p rows t (λ q l. none (suc q) (omega (arith, l))) h ∙ ap (λ (k : ℕ). Some k) (omega arith)
first_from n (suc p) (Some v ∷ rows) t none h = let e = none 0 (omega arith) in absurd (cc)

pub first-at : (rows : Rows) (p : ℕ) (t : Running) → ((q : ℕ) → q < p → row_at rows q ≡ None) → slice_get rows p ≡ Some (Some t) → first_of (entries_of rows) ≡ Some p
first-at rows p t none h = first_from 0 p rows t none h ∙ ap (λ (k : ℕ). Some k) (omega arith)

none_from : (n : ℕ) (rows : Rows) → ((q : ℕ) → q < length rows → row_at rows q ≡ None) → entries_from n rows ≡ []
unfolding entries_from
none_from n [] none = refl
none_from n (None ∷ rows) none = none_from (suc n) rows (λ q l. none (suc q) (omega (arith, l)))
none_from n (Some v ∷ rows) none = let e = none 0 (omega arith) in absurd (cc)

pub first-none : (rows : Rows) → ((q : ℕ) → q < length rows → row_at rows q ≡ None) → first_of (entries_of rows) ≡ None
first-none rows none = ap first_of (none_from 0 rows none)

-- ---- one row

pub read : (rows xs : Rows) (k : ℕ) (o : Option Running) → xs ≡ rows → k < length xs → o ≡ slice_index_or xs k o → slice_get rows k ≡ Some o
read rows xs k o e l h = ap (λ (rs : Rows). slice_get rs k) (sym e) ∙ slice_get_read xs (length xs) k o refl l h

-- what is found is what the row has that was read
pub found-in : (rows xs : Rows) (k : ℕ) (o : Option Running) → xs ≡ rows → k < length xs → o ≡ slice_index_or xs k o → running_at (entries_of rows) k ≡ o
found-in rows xs k o e l h = found rows k ∙ ap option_flatten (read rows xs k o e l h)

-- a client after the last row has none
pub missed-in : (rows xs : Rows) (k : ℕ) → xs ≡ rows → length xs ≤ k → running_at (entries_of rows) k ≡ None
missed-in rows xs k e l = found rows k ∙ (ap (λ (rs : Rows). row_at rs k) (sym e) ∙ ap option_flatten (slice_get_past xs k l))

get_same : (rows : Rows) (k : ℕ) (o : Option Running) → k < length rows → slice_get (slice_set rows k o) k ≡ Some o
get_same [] k o l = absurd (omega (arith, l))
get_same (r ∷ rows) zero o l = refl
get_same (r ∷ rows) (suc k) o l = get_same rows k o (omega (arith, l))

get_other : (rows : Rows) (k q : ℕ) (o : Option Running) → q ≢ k → slice_get (slice_set rows k o) q ≡ slice_get rows q
get_other [] k q o n = refl
get_other (r ∷ rows) zero zero o n = absurd (n refl)
get_other (r ∷ rows) zero (suc q) o n = refl
get_other (r ∷ rows) (suc k) zero o n = refl
get_other (r ∷ rows) (suc k) (suc q) o n = get_other rows k q o (λ e. n (ap suc e))

set_past : (rows : Rows) (k : ℕ) (o : Option Running) → length rows ≤ k → slice_set rows k o ≡ rows
set_past [] k o l = refl
set_past (r ∷ rows) zero o l = absurd (omega (arith, l))
set_past (r ∷ rows) (suc k) o l = ap (λ (rs : Rows). r ∷ rs) (set_past rows k o (omega (arith, l)))

-- a row that is set is found, and the others are as before
pub found-set : (rows : Rows) (k : ℕ) (o : Option Running) → k < length rows → running_at (entries_of (slice_set rows k o)) k ≡ o
found-set rows k o l = found (slice_set rows k o) k ∙ ap option_flatten (get_same rows k o l)

pub found-other : (rows : Rows) (k : ℕ) (o : Option Running) (q : ℕ) → q ≢ k → running_at (entries_of (slice_set rows k o)) q ≡ running_at (entries_of rows) q
found-other rows k o q n = found (slice_set rows k o) q ∙ (ap option_flatten (get_other rows k q o n) ∙ sym (found rows q))

-- what is after the last row is not there to be removed
pub removed-past : (rows : Rows) (k : ℕ) → length rows ≤ k → entries_of rows ≡ remove_entry (is_at (nat_cmp k)) (entries_of rows)
removed-past rows k l = ap entries_of (sym (set_past rows k None l)) ∙ entries-removed rows k

-- the row is set to what it has
pub set-kept : (rows : Rows) (k : ℕ) (o : Option Running) → o ≡ slice_index_or rows k o → slice_set rows k o ≡ rows
set-kept rows k o h = ap (λ (x : Option Running). slice_set rows k x) h ∙ set-get_or rows k o

-- a row that was tested
pub some-of : (o p : Option Running) (b : Bool) → o ≡ p → b ≡ is_some o → b ≡ true → (u : Running) × (p ≡ Some u)
some-of o None b e i t = absurd (let n = ap (λ (x : Option Running). is_some x) e in cc)
some-of o (Some u) b e i t = (u, refl)

pub none-of : (o p : Option Running) (b : Bool) → o ≡ p → b ≡ is_some o → b ≡ false → p ≡ None
none-of o None b e i t = refl
none-of o (Some u) b e i t = absurd (let n = ap (λ (x : Option Running). is_some x) e in cc)

pub was-empty : (p : Option Running) (b : Bool) → b ≡ not (is_some p) → b ≡ true → p ≡ None
was-empty None b i t = refl
was-empty (Some u) b i t = absurd (cc)

pub was-full : (p : Option Running) (b : Bool) → b ≡ not (is_some p) → b ≡ false → (u : Running) × (p ≡ Some u)
was-full None b i t = absurd (cc)
was-full (Some u) b i t = (u, refl)

pub none-more : (rows : Rows) (p : ℕ) → ((q : ℕ) → q < p → row_at rows q ≡ None) → slice_get rows p ≡ Some None → (q : ℕ) → q < p + 1 → row_at rows q ≡ None
none-more rows p none h q l = ⊎_elim (λ (k : q < p). none q k) (λ (k : p ≤ q). ap (λ (x : ℕ). row_at rows x) (omega (arith, l, k)) ∙ ap option_flatten h) (cases_lt q p)

pub first-zero : (es : Entries) → 0 ≡ length es → first_of es ≡ None
first-zero [] e = refl
first-zero (x ∷ es) e = absurd (omega (arith, e))

-- ---- what rows keep

pub inside-none : (rows : Rows) → rows ≡ [] → AreRowsInside rows 0
inside-none rows e = subst (λ (rs : Rows). AreRowsInside rs 0) (sym e) (record { counted = ap (λ (es : Entries). length es) (sym entries-none); few = omega arith })

pub inside-set : (rows : Rows) (count k : ℕ) (u t : Running) → slice_get rows k ≡ Some (Some u) → AreRowsInside rows count → AreRowsInside (slice_set rows k (Some t)) count
inside-set rows count k u t h i = record {
  counted = i.counted ∙ sym (length-set-row rows k u t h);
  few = let n = length-set rows k (Some t) in omega (arith, n, i.few);
}

pub inside-added : (rows : Rows) (count k : ℕ) (t : Running) → slice_get rows k ≡ Some None → AreRowsInside rows count → AreRowsInside (slice_set rows k (Some t)) (count + 1)
inside-added rows count k t h i = record {
  counted = let n = length-added rows k t h in omega (arith, n, i.counted);
  few = let n = length-set rows k (Some t) in omega (arith, n, i.few);
}

pub inside-removed : (rows : Rows) (count k : ℕ) (u : Running) → slice_get rows k ≡ Some (Some u) → AreRowsInside rows count → AreRowsInside (slice_set rows k None) (count - 1)
inside-removed rows count k u h i = record {
  counted = let n = length-removed rows k u h in omega (arith, n, i.counted);
  few = let n = length-set rows k None in omega (arith, n, i.few);
}

-- rows that were made
pub inside-opened : (old new : Rows) (count : ℕ) → entries_of new ≡ entries_of old → length new ≤ 256 → AreRowsInside old count → AreRowsInside new count
inside-opened old new count same few i = record { counted = i.counted ∙ ap (λ (es : Entries). length es) (sym same); few = few }

pub inside-some : (rows : Rows) (count k : ℕ) (u : Running) → slice_get rows k ≡ Some (Some u) → AreRowsInside rows count → 1 ≤ count
inside-some rows count k u h i = let n = length-removed rows k u h in omega (arith, n, i.counted)

-- ---- rows that are made

-- the entries are as before, and there are so many rows, and no more than one for each byte
pub record HaveMade (old new : Rows) (count : ℕ) : Type 0 where
  pub same : entries_of new ≡ entries_of old
  pub few : length new ≤ 256
  pub made : length new ≡ count

pub HaveMade-push : (old new more : Rows) (count pass : ℕ) → more ≡ new ++ None ∷ [] → count < pass + 1 → pass < 256 → HaveMade old new count → HaveMade old more (count + 1)
HaveMade-push old new more count pass pushed next small made = subst (λ (rs : Rows). HaveMade old rs (count + 1)) (sym pushed) (record {
  same = entries-push new ∙ made.same;
  few = let n = length_push new None in omega (arith, n, made.made, next, small);
  made = let n = length_push new None in omega (arith, n, made.made);
})

-- ---- what is lent

-- what becomes of the lender is the same where it is for each value that may be left
pub same-lent : {N R : Type 0} (n : N) (f g : Running → ActiveClients) → ((t : Running) → f t ≡ g t) → ◌≡◌ {A = (N × (Running → ActiveClients)) ⊎ R} (inl (n, f)) (inl (n, g))
same-lent n f g h = λ i. inl (n, λ t. h t i)
