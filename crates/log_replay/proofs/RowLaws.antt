-- The entries of transactions that are kept in rows: what a row has is what is found at its client.
use Rattle.std.proofs.Common.{◌≡◌, ◌≢◌, ℕ, ◌+◌, ◌<◌, ◌≤◌, zero, suc, List, [], ◌∷◌, ◌++◌, refl, sym, ap, ◌∙◌, subst, ◌⊎◌, inl, ⊎_elim, Option, Some, None, arith, length, Ordering, Less, Equal, Greater}
use Rattle.std.specs.Prelude.{slice_get, slice_set, slice_index_or}
use Rattle.std.specs.Option.{option_flatten}
use Rattle.std.specs.Map.{set_value, remove_entry}
use Rattle.std.specs.Ordering.{nat_cmp, match_ordering}
use Rattle.std.specs.BTreeMap.{insert_entry, is_at}
use Rattle.std.proofs.lemmas.Bool.{cases_lt}
use Rattle.std.proofs.lemmas.Bool.Decides.{nat_tests}
use Rattle.std.proofs.lemmas.List.{length-set, length_push, set-get_or}
use Rattle.std.proofs.lemmas.Option.{slice_get_read, slice_get_past}
use Rattle.restart_laws.specs.Unended.{Unended, unended_at}
use Rattle.log_replay.specs.Rows.{UnendedClients, entries_from, entries_of, AreRowsInside}
use Rattle.log_replay.proofs.UnendedMaps.{at_here, at_next, set_here, set_next}

abbrev pub Rows : Type 0
Rows = List (Option Unended)

abbrev pub Entries : Type 0
Entries = List (ℕ × Unended)

-- what the row of the client has
abbrev pub row_at : Rows → ℕ → Option Unended
row_at rows p = option_flatten (slice_get rows p)

-- ---- the first entry, and the others

remove_here : (k : ℕ) (e : ℕ × Unended) (es : Entries) → k ≡ e.0 → remove_entry (is_at (nat_cmp k)) (e ∷ es) ≡ es
remove_here k e es h = grind (arith, nat_tests)

remove_next : (k : ℕ) (e : ℕ × Unended) (es : Entries) → k ≢ e.0 → remove_entry (is_at (nat_cmp k)) (e ∷ es) ≡ e ∷ remove_entry (is_at (nat_cmp k)) es
remove_next k e es h = grind (arith, nat_tests)

less : (k n : ℕ) → k < n → nat_cmp k n ≡ Less
less k n l = grind (arith, nat_tests, l)

equal : (k n : ℕ) → k ≡ n → nat_cmp k n ≡ Equal
equal k n e = grind (arith, nat_tests, e)

greater : (k n : ℕ) → n < k → nat_cmp k n ≡ Greater
greater k n l = grind (arith, nat_tests, l)

insert_by : (k : ℕ) (t : Unended) (e : ℕ × Unended) (es : Entries) (o : Ordering) → nat_cmp k e.0 ≡ o
    → insert_entry nat_cmp (e ∷ es) k t ≡ match_ordering o ((k, t) ∷ e ∷ es) ((e.0, t) ∷ es) (e ∷ insert_entry nat_cmp es k t)
insert_by k t e es o h = ap (λ o. match_ordering o ((k, t) ∷ e ∷ es) ((e.0, t) ∷ es) (e ∷ insert_entry nat_cmp es k t)) h

apart : (k n p : ℕ) → k ≡ n + suc p → k ≢ n
apart k n p e s = omega (arith, e, s)

below : (k n : ℕ) → k < n → k ≢ n
below k n l s = omega (arith, l, s)

-- ---- what is found

unfound : (n k : ℕ) (rows : Rows) → k < n → unended_at (entries_from n rows) k ≡ None
unfolding entries_from
unfound n k [] l = refl
unfound n k (None ∷ rows) l = unfound (suc n) k rows (omega (arith, l))
unfound n k (Some t ∷ rows) l = at_next k (n, t) (entries_from (suc n) rows) (below k n l) ∙ unfound (suc n) k rows (omega (arith, l))

found_from : (n p k : ℕ) (rows : Rows) → k ≡ n + p → unended_at (entries_from n rows) k ≡ row_at rows p
unfolding entries_from
found_from n p k [] e = refl
found_from n zero k (None ∷ rows) e = unfound (suc n) k rows (omega (arith, e))
found_from n zero k (Some t ∷ rows) e = at_here k (n, t) (entries_from (suc n) rows) (omega (arith, e))
found_from n (suc p) k (None ∷ rows) e = found_from (suc n) p k rows (omega (arith, e))
found_from n (suc p) k (Some t ∷ rows) e = at_next k (n, t) (entries_from (suc n) rows) (apart k n p e) ∙ found_from (suc n) p k rows (omega (arith, e))

pub found : (rows : Rows) (k : ℕ) → unended_at (entries_of rows) k ≡ row_at rows k
found rows k = found_from 0 k k rows (omega arith)

-- ---- what changes where a row does

set_from : (n p k : ℕ) (rows : Rows) (u t : Unended) → k ≡ n + p → slice_get rows p ≡ Some (Some u) → entries_from n (slice_set rows p (Some t)) ≡ set_value (is_at (nat_cmp k)) (entries_from n rows) t
unfolding entries_from
set_from n p k [] u t e h = absurd (cc)
set_from n zero k (None ∷ rows) u t e h = absurd (cc)
set_from n zero k (Some v ∷ rows) u t e h = sym (set_here k t (n, v) (entries_from (suc n) rows) (omega (arith, e)))
set_from n (suc p) k (None ∷ rows) u t e h = set_from (suc n) p k rows u t (omega (arith, e)) h
set_from n (suc p) k (Some v ∷ rows) u t e h =
    ap (λ (es : Entries). (n, v) ∷ es) (set_from (suc n) p k rows u t (omega (arith, e)) h) ∙ sym (set_next k t (n, v) (entries_from (suc n) rows) (apart k n p e))

pub entries-set : (rows : Rows) (k : ℕ) (u t : Unended) → slice_get rows k ≡ Some (Some u) → entries_of (slice_set rows k (Some t)) ≡ set_value (is_at (nat_cmp k)) (entries_of rows) t
entries-set rows k u t h = set_from 0 k k rows u t (omega arith) h

unremoved : (n k : ℕ) (rows : Rows) → k < n → remove_entry (is_at (nat_cmp k)) (entries_from n rows) ≡ entries_from n rows
unfolding entries_from
unremoved n k [] l = refl
unremoved n k (None ∷ rows) l = unremoved (suc n) k rows (omega (arith, l))
unremoved n k (Some t ∷ rows) l =
    remove_next k (n, t) (entries_from (suc n) rows) (below k n l) ∙ ap (λ (es : Entries). (n, t) ∷ es) (unremoved (suc n) k rows (omega (arith, l)))

remove_from : (n p k : ℕ) (rows : Rows) → k ≡ n + p → entries_from n (slice_set rows p None) ≡ remove_entry (is_at (nat_cmp k)) (entries_from n rows)
unfolding entries_from
remove_from n p k [] e = refl
remove_from n zero k (None ∷ rows) e = sym (unremoved (suc n) k rows (omega (arith, e)))
remove_from n zero k (Some v ∷ rows) e = sym (remove_here k (n, v) (entries_from (suc n) rows) (omega (arith, e)))
remove_from n (suc p) k (None ∷ rows) e = remove_from (suc n) p k rows (omega (arith, e))
remove_from n (suc p) k (Some v ∷ rows) e =
    ap (λ (es : Entries). (n, v) ∷ es) (remove_from (suc n) p k rows (omega (arith, e))) ∙ sym (remove_next k (n, v) (entries_from (suc n) rows) (apart k n p e))

pub entries-removed : (rows : Rows) (k : ℕ) → entries_of (slice_set rows k None) ≡ remove_entry (is_at (nat_cmp k)) (entries_of rows)
entries-removed rows k = remove_from 0 k k rows (omega arith)

insert_below : (n k : ℕ) (t : Unended) (rows : Rows) → k < n → insert_entry nat_cmp (entries_from n rows) k t ≡ (k, t) ∷ entries_from n rows
unfolding entries_from
insert_below n k t [] l = refl
insert_below n k t (None ∷ rows) l = insert_below (suc n) k t rows (omega (arith, l))
insert_below n k t (Some v ∷ rows) l = insert_by k t (n, v) (entries_from (suc n) rows) Less (less k n l)

insert_from : (n p k : ℕ) (rows : Rows) (t : Unended) → k ≡ n + p → p < length rows → entries_from n (slice_set rows p (Some t)) ≡ insert_entry nat_cmp (entries_from n rows) k t
unfolding entries_from
insert_from n p k [] t e l = absurd (omega (arith, l))
insert_from n zero k (None ∷ rows) t e l =
    ap (λ (m : ℕ). (m, t) ∷ entries_from (suc n) rows) (omega (arith, e)) ∙ sym (insert_below (suc n) k t rows (omega (arith, e)))
insert_from n zero k (Some v ∷ rows) t e l = sym (insert_by k t (n, v) (entries_from (suc n) rows) Equal (equal k n (omega (arith, e))))
insert_from n (suc p) k (None ∷ rows) t e l = insert_from (suc n) p k rows t (omega (arith, e)) (omega (arith, l))
insert_from n (suc p) k (Some v ∷ rows) t e l =
    ap (λ (es : Entries). (n, v) ∷ es) (insert_from (suc n) p k rows t (omega (arith, e)) (omega (arith, l)))
    ∙ sym (insert_by k t (n, v) (entries_from (suc n) rows) Greater (greater k n (omega (arith, e))))

pub entries-inserted : (rows : Rows) (k : ℕ) (t : Unended) → k < length rows → entries_of (slice_set rows k (Some t)) ≡ insert_entry nat_cmp (entries_of rows) k t
entries-inserted rows k t l = insert_from 0 k k rows t (omega arith) l

push_from : (n : ℕ) (rows : Rows) → entries_from n (rows ++ None ∷ []) ≡ entries_from n rows
unfolding entries_from
push_from n [] = refl
push_from n (None ∷ rows) = push_from (suc n) rows
push_from n (Some t ∷ rows) = ap (λ (es : Entries). (n, t) ∷ es) (push_from (suc n) rows)

-- a row more without a transaction
pub entries-push : (rows : Rows) → entries_of (rows ++ None ∷ []) ≡ entries_of rows
entries-push rows = push_from 0 rows

pub entries-none : entries_of [] ≡ []
unfolding entries_from
entries-none = refl

-- ---- the first

first_from : (n p k : ℕ) (rows : Rows) (t : Unended) → k ≡ n + p → ((q : ℕ) → q < p → row_at rows q ≡ None) → slice_get rows p ≡ Some (Some t) → slice_get (entries_from n rows) 0 ≡ Some (k, t)
unfolding entries_from
first_from n p k [] t e none h = absurd (cc)
first_from n zero k (None ∷ rows) t e none h = absurd (cc)
first_from n zero k (Some v ∷ rows) t e none h =
    let same : v ≡ t = cc in
    let number : n ≡ k = omega (arith, e) in
    rw (same, number) refl
first_from n (suc p) k (None ∷ rows) t e none h = first_from (suc n) p k rows t (omega (arith, e)) (λ q l. none (suc q) (omega (arith, l))) h
first_from n (suc p) k (Some v ∷ rows) t e none h = let e = none 0 (omega arith) in absurd (cc)

pub first-at : (rows : Rows) (p : ℕ) (t : Unended) → ((q : ℕ) → q < p → row_at rows q ≡ None) → slice_get rows p ≡ Some (Some t) → slice_get (entries_of rows) 0 ≡ Some (p, t)
first-at rows p t none h = first_from 0 p p rows t (omega arith) none h

none_from : (n : ℕ) (rows : Rows) → ((q : ℕ) → q < length rows → row_at rows q ≡ None) → entries_from n rows ≡ []
unfolding entries_from
none_from n [] none = refl
none_from n (None ∷ rows) none = none_from (suc n) rows (λ q l. none (suc q) (omega (arith, l)))
none_from n (Some v ∷ rows) none = let e = none 0 (omega arith) in absurd (cc)

pub first-none : (rows : Rows) → ((q : ℕ) → q < length rows → row_at rows q ≡ None) → entries_of rows ≡ []
first-none rows none = none_from 0 rows none

-- ---- one row

pub read : (rows xs : Rows) (k : ℕ) (o : Option Unended) → xs ≡ rows → k < length xs → o ≡ slice_index_or xs k o → slice_get rows k ≡ Some o
read rows xs k o e l h = ap (λ (rs : Rows). slice_get rs k) (sym e) ∙ slice_get_read xs (length xs) k o refl l h

-- what is found is what the row has that was read
pub found-in : (rows xs : Rows) (k : ℕ) (o : Option Unended) → xs ≡ rows → k < length xs → o ≡ slice_index_or xs k o → unended_at (entries_of rows) k ≡ o
found-in rows xs k o e l h = found rows k ∙ ap option_flatten (read rows xs k o e l h)

-- a client after the last row has none
pub missed-in : (rows xs : Rows) (k : ℕ) → xs ≡ rows → length xs ≤ k → unended_at (entries_of rows) k ≡ None
missed-in rows xs k e l = found rows k ∙ (ap (λ (rs : Rows). row_at rs k) (sym e) ∙ ap option_flatten (slice_get_past xs k l))

set_past : (rows : Rows) (k : ℕ) (o : Option Unended) → length rows ≤ k → slice_set rows k o ≡ rows
set_past [] k o l = refl
set_past (r ∷ rows) zero o l = absurd (omega (arith, l))
set_past (r ∷ rows) (suc k) o l = ap (λ (rs : Rows). r ∷ rs) (set_past rows k o (omega (arith, l)))

-- what is after the last row is not there to be removed
pub removed-past : (rows : Rows) (k : ℕ) → length rows ≤ k → entries_of rows ≡ remove_entry (is_at (nat_cmp k)) (entries_of rows)
removed-past rows k l = ap entries_of (sym (set_past rows k None l)) ∙ entries-removed rows k

-- the row is set to what it has
pub set-kept : (rows : Rows) (k : ℕ) (o : Option Unended) → o ≡ slice_index_or rows k o → slice_set rows k o ≡ rows
set-kept rows k o h = ap (λ (x : Option Unended). slice_set rows k x) h ∙ set-get_or rows k o

pub none-more : (rows : Rows) (p : ℕ) → ((q : ℕ) → q < p → row_at rows q ≡ None) → slice_get rows p ≡ Some None → (q : ℕ) → q < p + 1 → row_at rows q ≡ None
none-more rows p none h q l = ⊎_elim (λ (k : q < p). none q k) (λ (k : p ≤ q). ap (λ (x : ℕ). row_at rows x) (omega (arith, l, k)) ∙ ap option_flatten h) (cases_lt q p)

-- ---- what rows keep

pub inside-none : (rows : Rows) → rows ≡ [] → AreRowsInside rows
inside-none rows e = record { few = rw e (omega arith) }

pub inside-set : (rows : Rows) (k : ℕ) (o : Option Unended) → AreRowsInside rows → AreRowsInside (slice_set rows k o)
inside-set rows k o i = record { few = let n = length-set rows k o in omega (arith, n, i.few) }

-- ---- rows that are made

-- the entries are as before, and there are so many rows, and no more than one for each byte
pub record HaveMade (old new : Rows) (count : ℕ) : Type 0 where
  pub same : entries_of new ≡ entries_of old
  pub few : length new ≤ 256
  pub made : length new ≡ count

pub HaveMade-push : (old new more : Rows) (count pass : ℕ) → more ≡ new ++ None ∷ [] → count < pass + 1 → pass < 256 → HaveMade old new count → HaveMade old more (count + 1)
HaveMade-push old new more count pass pushed next small made = subst (λ (rs : Rows). HaveMade old rs (count + 1)) (sym pushed) (record {
  same = entries-push new ∙ made.same;
  few = let n = length_push new None in omega (arith, n, made.made, next, small);
  made = let n = length_push new None in omega (arith, n, made.made);
})

-- ---- what is lent

-- what becomes of the lender is the same where it is for each value that may be left
pub same-lent : {N R : Type 0} (n : N) (f g : Unended → UnendedClients) → ((t : Unended) → f t ≡ g t) → ◌≡◌ {A = (N × (Unended → UnendedClients)) ⊎ R} (inl (n, f)) (inl (n, g))
same-lent n f g h = λ i. inl (n, λ t. h t i)
