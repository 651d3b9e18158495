-- What keeps the entries, their counts and the room in step.
use Rattle.std.proofs.Common.{◌≡◌, ◌≢◌, ℕ, true, false, ◌+◌, ◌*◌, ◌^◌, ◌-◌, ◌≤◌, ◌<◌, ◌==◌, cond, zero, suc, List, [], ◌∷◌, ◌++◌, Option, None, Some, Result, Ok, Err, length, unwrap_or, slice_get, nat_lt, ⊎_elim, refl, sym, ap, subst, ◌∙◌, arith}
use Rattle.std.specs.Global.{Vec}
use Rattle.std.specs.List.{list_any}
use Rattle.std.specs.Option.{option_map_or}
use Rattle.std.specs.Result.{OnErr}
use Rattle.std.specs.Ordering.{nat_cmp}
use Rattle.std.specs.BTreeMap.{is_at}
use Rattle.std.specs.Map.{lookup}
use Rattle.std.proofs.lemmas.Bool.{cases_eq, cases_lt}
use Rattle.std.proofs.lemmas.Bool.Decides.{nat_tests}
use Rattle.std.proofs.lemmas.List.Sums.{count_by-le-length, sum_by-cons, sum_by_push}
use Rattle.ref_tables.specs.declared.kind.TempRef.{TempRef}
use Rattle.ref_tables.specs.declared.counts.Counts.{Counts}
use Rattle.ref_tables.specs.Lists.{Lists, list_of, HasRoom, KeepsRoom, AreSame, AddsEntry, EndsClient}
use Rattle.ref_tables.specs.Counts.{count_of, count_in, room_in, HasSameCounts}
use Rattle.ref_tables.specs.Refs.{Table, entries_of, Names, numbered, seen, sum_below, AreRefsInside}

-- ---- what contracts see

-- the test of a key, by its number
at-key : (x y : ℕ) → is_at (nat_cmp x) y ≡ (x == y)
at-key x y = grind (arith, nat_tests)

-- the client that is so far after the first one has the list at that place
numbered-at : (lists : Lists) (n place : ℕ) → unwrap_or (lookup (is_at (nat_cmp (n + place))) (numbered n lists)) [] ≡ list_of lists place
unfolding numbered
numbered-at [] n place = refl
numbered-at (list ∷ lists) n zero =
    let here : is_at (nat_cmp (n + 0)) n ≡ true = at-key (n + 0) n ∙ grind (arith, nat_tests) in
    ap (λ b. unwrap_or (cond b (Some list.items) (lookup (is_at (nat_cmp (n + 0))) (numbered (suc n) lists))) []) here
numbered-at (list ∷ lists) n (suc place) =
    let apart : is_at (nat_cmp (n + suc place)) n ≡ false = at-key (n + suc place) n ∙ grind (arith, nat_tests) in
    let same : suc n + place ≡ n + suc place = omega arith in
    ap (λ b. unwrap_or (cond b (Some list.items) (lookup (is_at (nat_cmp (n + suc place))) (numbered (suc n) lists))) []) apart
    ∙ subst (λ m. unwrap_or (lookup (is_at (nat_cmp m)) (numbered (suc n) lists)) [] ≡ list_of lists place) same (numbered-at lists (suc n) place)

-- the entries that contracts see are those of the lists
pub entries-seen : (lists : Lists) (room_for room p : ℕ) → entries_of (record { clients = seen lists; room_for = room_for; room = room }) p ≡ list_of lists p
entries-seen lists room_for room p =
    let same : 0 + p ≡ p = omega arith in
    subst (λ m. unwrap_or (lookup (is_at (nat_cmp m)) (numbered 0 lists)) [] ≡ list_of lists p) same (numbered-at lists 0 p)

-- without lists there is no client
seen-none : (lists : Lists) → lists ≡ [] → seen lists ≡ []
unfolding numbered
seen-none lists none = ap (numbered 0) none

pub table-none : (lists : Lists) (room_for room : ℕ) → lists ≡ [] → ◌≡◌ {A = Table} (record { clients = seen lists; room_for = room_for; room = room }) (record { clients = []; room_for = room_for; room = room })
table-none lists room_for room none = let as_table : List (ℕ × List TempRef) → Table = λ clients. record { clients = clients; room_for = room_for; room = room } in ap as_table (seen-none lists none)

-- the entries after a change
pub seen-same : (old new : Lists) (f r g s : ℕ) → AreSame old new → (p : ℕ) → entries_of (record { clients = seen new; room_for = g; room = s }) p ≡ entries_of (record { clients = seen old; room_for = f; room = r }) p
seen-same old new f r g s same p = entries-seen new g s p ∙ same p ∙ sym (entries-seen old f r p)

pub seen-adds : (old new : Lists) (f r s pass : ℕ) (entry : TempRef) → AddsEntry old new pass entry → (p : ℕ) → entries_of (record { clients = seen new; room_for = f; room = s }) p ≡ cond (p == pass) (entries_of (record { clients = seen old; room_for = f; room = r }) p ++ entry ∷ []) (entries_of (record { clients = seen old; room_for = f; room = r }) p)
seen-adds old new f r s pass entry adds p = entries-seen new f s p ∙ adds p ∙ ap (λ xs. cond (p == pass) (xs ++ entry ∷ []) xs) (sym (entries-seen old f r p))

pub seen-ends : (old new : Lists) (f r pass : ℕ) → EndsClient old new pass → (p : ℕ) → entries_of (record { clients = seen new; room_for = f; room = r }) p ≡ cond (p == pass) [] (entries_of (record { clients = seen old; room_for = f; room = r }) p)
seen-ends old new f r pass ends p = entries-seen new f r p ∙ ends p ∙ ap (λ xs. cond (p == pass) [] xs) (sym (entries-seen old f r p))

-- a fact that holds anyway holds where there is an error
pub on_err : {T E P : Type 0} (r : Result T E) → P → OnErr r P
on_err (Ok x) p = tt
on_err (Err e) p = p

-- ---- sums over the clients

sum_below-same : (n : ℕ) (f g : ℕ → ℕ) → ((p : ℕ) → g p ≡ f p) → sum_below n g ≡ sum_below n f
unfolding sum_below
sum_below-same zero f g same = refl
sum_below-same (suc n) f g same = let r = sum_below-same n f g same in let s = same n in omega (arith, r, s)

-- with a change beyond the sum
sum_below-beyond : (n q : ℕ) (f g : ℕ → ℕ) → n ≤ q → ((p : ℕ) → p ≢ q → g p ≡ f p) → sum_below n g ≡ sum_below n f
unfolding sum_below
sum_below-beyond zero q f g beyond same = refl
sum_below-beyond (suc n) q f g beyond same = let r = sum_below-beyond n q f g (omega (arith, beyond)) same in let s = same n (omega (arith, beyond)) in omega (arith, r, s)

-- with a change at one number
sum_below-change : (n q : ℕ) (f g : ℕ → ℕ) → q < n → ((p : ℕ) → p ≢ q → g p ≡ f p) → sum_below n g + f q ≡ sum_below n f + g q
unfolding sum_below
sum_below-change zero q f g within same = absurd (omega (arith, within))
sum_below-change (suc n) q f g within same =
    ⊎_elim
    (λ (here : n ≡ q). let r = sum_below-beyond n q f g (omega (arith, here)) same in subst (λ m. (sum_below n g + g n) + f m ≡ (sum_below n f + f n) + g m) here (omega (arith, r)))
    (λ (apart : n ≢ q). let r = sum_below-change n q f g (omega (arith, within, apart)) same in let s = same n apart in omega (arith, r, s))
    (cases_eq n q)

sum_below-le : (n m : ℕ) (f : ℕ → ℕ) → ((p : ℕ) → f p ≤ m) → sum_below n f ≤ n * m
unfolding sum_below
sum_below-le zero m f below = omega arith
sum_below-le (suc n) m f below = let r = sum_below-le n m f below in let s = below n in grind (arith, r, s)

-- without parts there is nothing
pub sum_below-zero : (n : ℕ) (f : ℕ → ℕ) → ((p : ℕ) → f p ≡ 0) → sum_below n f ≡ 0
unfolding sum_below
sum_below-zero zero f none = refl
sum_below-zero (suc n) f none = let r = sum_below-zero n f none in let s = none n in omega (arith, r, s)

-- a part is no more than the sum
sum_below-part : (n p : ℕ) (f : ℕ → ℕ) → p < n → f p ≤ sum_below n f
unfolding sum_below
sum_below-part zero p f within = absurd (omega (arith, within))
sum_below-part (suc n) p f within =
    ⊎_elim
    (λ (here : p ≡ n). rw here (omega arith))
    (λ (apart : p ≢ n). let r = sum_below-part n p f (omega (arith, within, apart)) in omega (arith, r))
    (cases_eq p n)

-- where the sum is not 0, some part is not
sum_below-some : (n : ℕ) (f : ℕ → ℕ) → 0 < sum_below n f → (p : ℕ) × (0 < f p)
unfolding sum_below
sum_below-some zero f some = absurd (omega (arith, some))
sum_below-some (suc n) f some =
    ⊎_elim
    (λ (none : f n ≡ 0). sum_below-some n f (omega (arith, some, none)))
    (λ (here : f n ≢ 0). (n, omega (arith, here)))
    (cases_eq (f n) 0)

-- ---- counts

-- entries with the target are counted exactly where there are some
count_in-any : (t : ℕ) (entries : List TempRef) → nat_lt 0 (count_in t entries) ≡ list_any (λ entry. entry.target == t) entries
count_in-any t [] = refl
count_in-any t (e ∷ es) = let r = count_in-any t es in let c = sum_by-cons (λ entry. cond (entry.target == t) 1 0) e es in grind (arith, nat_tests)

count_in-push : (t : ℕ) (entries : List TempRef) (entry : TempRef) → count_in t (entries ++ entry ∷ []) ≡ count_in t entries + cond (t == entry.target) 1 0
count_in-push t entries entry = sum_by_push (λ e. cond (e.target == t) 1 0) entries entry ∙ ap (λ n. count_in t entries + n) (flip t entry.target)
  where
    flip : (x y : ℕ) → cond {A = ℕ} (y == x) 1 0 ≡ cond {A = ℕ} (x == y) 1 0
    flip x y = grind (arith, nat_tests)

-- a list is shorter than memory
short-option : (o : Option (Vec TempRef)) → length (option_map_or (λ list. list.items) o []) ≤ 2 ^ 64
short-option None = omega arith
short-option (Some list) = omega (arith, list.small, list.ok)

pub count-small : (lists : Lists) (counts : Counts) (room_for room target : ℕ) → AreRefsInside lists counts room_for room → count_of counts target + 1 < 2 ^ 128
count-small lists counts room_for room target sound =
    let short : (p : ℕ) → count_in target (list_of lists p) ≤ 2 ^ 64 = λ p. let s = short-option (slice_get lists p) in let c = count_by-le-length (λ entry. entry.target == target) (list_of lists p) in omega (arith, s, c) in
    let all = sum_below-le 256 (2 ^ 64) (λ p. count_in target (list_of lists p)) short in
    omega (arith, all, sound.counted target)

-- ---- what the calls keep

-- a new table has nothing
pub AreRefsInside-new : (lists : Lists) (counts : Counts) → lists ≡ [] → ((t : ℕ) → count_of counts t ≡ 0) → AreRefsInside lists counts 0 0
AreRefsInside-new lists counts no_lists no_counts = record {
  counted = λ t. no_counts t ∙ sym (sum_below-zero 256 (λ p. count_in t (list_of lists p)) (λ p. ap (λ ls. count_in t (list_of ls p)) no_lists));
  clients = λ p beyond. ap (λ ls. list_of ls p) no_lists;
  room_of_list = λ some. absurd (omega (arith, some));
  room_of_counts = omega arith;
}

-- the entries and their counts stay, and so does room
pub AreRefsInside-same : (old new : Lists) (counts kept : Counts) (room_for room : ℕ) → AreSame old new → KeepsRoom old new → HasSameCounts counts kept → room ≤ room_in kept → AreRefsInside old counts room_for room → AreRefsInside new kept room_for room
AreRefsInside-same old new counts kept room_for room same keeps counted left sound = record {
  counted = λ t. counted t ∙ sound.counted t ∙ sym (sum_below-same 256 (λ p. count_in t (list_of old p)) (λ p. count_in t (list_of new p)) (λ p. ap (count_in t) (same p)));
  clients = λ p beyond. same p ∙ sound.clients p beyond;
  room_of_list = λ some. keeps room_for room (sound.room_of_list some);
  room_of_counts = left;
}

-- the counts have more room
pub AreRefsInside-reserved : (lists : Lists) (counts kept : Counts) (room_for room : ℕ) → HasSameCounts counts kept → room_in counts ≤ room_in kept → AreRefsInside lists counts room_for room → AreRefsInside lists kept room_for room
AreRefsInside-reserved lists counts kept room_for room same more sound = record {
  counted = λ t. same t ∙ sound.counted t;
  clients = sound.clients;
  room_of_list = sound.room_of_list;
  room_of_counts = omega (arith, more, sound.room_of_counts);
}

-- with room for another client
pub AreRefsInside-room : (lists : Lists) (counts : Counts) (room_for room pass more : ℕ) → HasRoom lists pass more → more ≤ room_in counts → AreRefsInside lists counts room_for room → AreRefsInside lists counts pass more
AreRefsInside-room lists counts room_for room pass more has left sound = record {
  counted = sound.counted;
  clients = sound.clients;
  room_of_list = λ some. has;
  room_of_counts = left;
}

-- one entry more
pub AreRefsInside-add : (old new : Lists) (counts added : Counts) (room_for room left pass : ℕ) (entry : TempRef) → pass < 256 → AddsEntry old new pass entry → ((p n : ℕ) → HasRoom old p (n + 1) → HasRoom new p n) → ((t : ℕ) → count_of added t ≡ count_of counts t + cond (t == entry.target) 1 0) → room_in counts ≤ room_in added + 1 → left ≡ room - 1 → AreRefsInside old counts room_for room → AreRefsInside new added room_for left
AreRefsInside-add old new counts added room_for room left pass entry within adds uses counted spares less sound =
    let apart : (p : ℕ) → p ≢ pass → list_of new p ≡ list_of old p = λ p other. adds p ∙ grind (arith, nat_tests, other) in
    let here : list_of new pass ≡ list_of old pass ++ entry ∷ [] = adds pass ∙ grind (arith, nat_tests) in
    record {
      counted = λ t.
          let change = sum_below-change 256 pass (λ p. count_in t (list_of old p)) (λ p. count_in t (list_of new p)) within (λ p other. ap (count_in t) (apart p other)) in
          let more : count_in t (list_of new pass) ≡ count_in t (list_of old pass) + cond (t == entry.target) 1 0 = ap (count_in t) here ∙ count_in-push t (list_of old pass) entry in
          let was = sound.counted t in
          let now = counted t in
          omega (arith, change, more, was, now);
      clients = λ p beyond. apart p (omega (arith, beyond, within)) ∙ sound.clients p beyond;
      room_of_list = λ some. uses room_for left (subst (λ n. HasRoom old room_for n) (omega (arith, some, less)) (sound.room_of_list (omega (arith, some, less))));
      room_of_counts = omega (arith, spares, less, sound.room_of_counts);
    }

-- the client's entries go
pub AreRefsInside-end : (old new : Lists) (counts left : Counts) (room_for room pass : ℕ) → pass < 256 → EndsClient old new pass → KeepsRoom old new → ((t : ℕ) → count_of left t + count_in t (list_of old pass) ≡ count_of counts t) → room_in counts ≤ room_in left → AreRefsInside old counts room_for room → AreRefsInside new left room_for room
AreRefsInside-end old new counts left room_for room pass within ends keeps counted spares sound =
    let apart : (p : ℕ) → p ≢ pass → list_of new p ≡ list_of old p = λ p other. ends p ∙ grind (arith, nat_tests, other) in
    let here : list_of new pass ≡ [] = ends pass ∙ grind (arith, nat_tests) in
    record {
      counted = λ t.
          let change = sum_below-change 256 pass (λ p. count_in t (list_of old p)) (λ p. count_in t (list_of new p)) within (λ p other. ap (count_in t) (apart p other)) in
          let none : count_in t (list_of new pass) ≡ 0 = ap (count_in t) here in
          let was = sound.counted t in
          let now = counted t in
          omega (arith, change, none, was, now);
      clients = λ p beyond. apart p (omega (arith, beyond, within)) ∙ sound.clients p beyond;
      room_of_list = λ some. keeps room_for room (sound.room_of_list some);
      room_of_counts = omega (arith, spares, sound.room_of_counts);
    }

-- the client's entries are counted
pub AreRefsInside-part : (lists : Lists) (counts : Counts) (room_for room pass : ℕ) → pass < 256 → AreRefsInside lists counts room_for room → (t : ℕ) → count_in t (list_of lists pass) ≤ count_of counts t
AreRefsInside-part lists counts room_for room pass within sound t = let part = sum_below-part 256 pass (λ p. count_in t (list_of lists p)) within in omega (arith, part, sound.counted t)

-- a target that is counted is that of some entry
pub AreRefsInside-named : (lists : Lists) (counts : Counts) (room_for room id : ℕ) → AreRefsInside lists counts room_for room → 0 < count_of counts id → (p : ℕ) × Names (list_of lists p) id
AreRefsInside-named lists counts room_for room id sound some =
    let found = sum_below-some 256 (λ p. count_in id (list_of lists p)) (omega (arith, some, sound.counted id)) in
    let any = count_in-any id (list_of lists found.0) in
    (found.0, sym any ∙ grind (arith, nat_tests, found.1))

-- and one that is not counted is that of none
pub AreRefsInside-unnamed : (lists : Lists) (counts : Counts) (room_for room id : ℕ) → AreRefsInside lists counts room_for room → count_of counts id ≡ 0 → (p : ℕ) → ¬ Names (list_of lists p) id
AreRefsInside-unnamed lists counts room_for room id sound none p named =
    let any = count_in-any id (list_of lists p) in
    let some : 0 < count_in id (list_of lists p) = grind (arith, nat_tests, any, named) in
    ⊎_elim
    (λ (below : p < 256). let part = sum_below-part 256 p (λ q. count_in id (list_of lists q)) below in omega (arith, part, some, none, sound.counted id))
    (λ (beyond : 256 ≤ p). let empty = ap (count_in id) (sound.clients p beyond) in omega (arith, empty, some))
    (cases_lt p 256)
