-- What joins a queue, one id after another.
use Rattle.std.proofs.Common.{◌≡◌, ◌≢◌, ℕ, zero, suc, ◌+◌, ◌<◌, ◌≤◌, Bool, true, false, not, cond, List, ◌∷◌, ◌++◌, length, get_or, take, filter, refl, sym, ap, ◌∙◌, subst, Some, arith, ⊎_elim, append_assoc, ne_eqb, true≢false, []}
use Rattle.std.specs.Prelude.{◌==◌, ◌||◌, ◌&&◌, Contains}
use Rattle.std.specs.List.{list_any}
use Rattle.std.proofs.lemmas.Bool.{cases_Bool, cases_eq}
use Rattle.std.proofs.lemmas.List.{take_more, take_all, map-append, append-nil}
use Rattle.std.proofs.lemmas.List.Elements.{filter-append}
use Rattle.std.proofs.lemmas.List.Folds.{list_any-append}
use Rattle.std.proofs.lemmas.List.Sums.{fold-append, fold_more}
use Rattle.strict_locks.specs.Locks.{Table as LockTable, DropsAll}
use Rattle.ref_tables.specs.declared.kind.TempRef.{TempRef}
use Rattle.ref_tables.specs.Queue.{has, joined}
use Rattle.ref_tables.specs.Refs.{Table, entries_of, Names}
use Rattle.store_model.specs.Sound.{IsOnce}
use Rattle.store_model.proofs.OnceLaws.{once-push, once-none, once-rest, once-first}
use Rattle.red_walk.proofs.Members.{Contains-has, has-Contains, has-here, has-later}
use Rattle.red_walk.proofs.Filters.{filter-same}
use Rattle.core_store.specs.References.{targets_of}
use Rattle.core_store.specs.Queued.{all_joined, each_once}
use Rattle.core_store.specs.Transactions.{Running, running_at}
use Rattle.core_store.specs.Tables.{TablesView}
use Rattle.core_store.specs.Steps.{AreNames, is_queued, TakesAt, JoinsIfQueued, NamesNothing, Ends}

-- ---- one id

pub joined-there : (xs : List ℕ) (id : ℕ) → has xs id ≡ true → joined xs id ≡ xs
joined-there xs id there = rw there refl

pub joined-new : (xs : List ℕ) (id : ℕ) → has xs id ≡ false → joined xs id ≡ xs ++ id ∷ []
joined-new xs id new = rw new refl

has-push : (xs : List ℕ) (id x : ℕ) → has (xs ++ id ∷ []) x ≡ (has xs x || (id == x))
has-push xs id x = list_any-append (λ member. member == x) xs (id ∷ []) ∙ ap (λ b. has xs x || b) (last (id == x))
  where
    last : (b : Bool) → (b || false) ≡ b
    last true = refl
    last false = refl

-- what was there is there, and so is the id
pub has-joined : (xs : List ℕ) (id x : ℕ) → has (joined xs id) x ≡ (has xs x || (id == x))
has-joined xs id x =
    ⊎_elim
    (λ (there : has xs id ≡ true). ap (λ ys. has ys x) (joined-there xs id there) ∙
    ⊎_elim
    (λ (e : id ≡ x). let t : has xs x ≡ true = subst (λ y. has xs y ≡ true) e there in t ∙ sym (ap (λ b. b || (id == x)) t))
    (λ (n : id ≢ x). let f = ne_eqb id x n in or_none (has xs x) (id == x) f)
    (cases_eq id x))
    (λ (new : has xs id ≡ false). ap (λ ys. has ys x) (joined-new xs id new) ∙ has-push xs id x)
    (cases_Bool (has xs id))
  where
    or_none : (a b : Bool) → b ≡ false → a ≡ (a || b)
    or_none true b e = refl
    or_none false b e = sym e

pub once-joined : (xs : List ℕ) (id : ℕ) → IsOnce xs → IsOnce (joined xs id)
once-joined xs id once =
    ⊎_elim
    (λ (there : has xs id ≡ true). subst IsOnce (sym (joined-there xs id there)) once)
    (λ (new : has xs id ≡ false). subst IsOnce (sym (joined-new xs id new)) (once-push xs id once (λ m. true≢false (sym (has-Contains xs id m) ∙ new))))
    (cases_Bool (has xs id))

-- ---- one after another

pub all_joined-more : (queue ids : List ℕ) (place : ℕ) → place < length ids → all_joined queue (take (place + 1) ids) ≡ joined (all_joined queue (take place ids)) (get_or ids place 0)
all_joined-more queue ids place l = fold_more joined queue ids place 0 l

pub all_joined-push : (queue ids : List ℕ) (id : ℕ) → all_joined queue (ids ++ id ∷ []) ≡ joined (all_joined queue ids) id
all_joined-push queue ids id = fold-append joined queue ids (id ∷ [])

pub once-all_joined : (ids queue : List ℕ) → IsOnce queue → IsOnce (all_joined queue ids)
once-all_joined [] queue once = once
once-all_joined (id ∷ ids) queue once = once-all_joined ids (joined queue id) (once-joined queue id once)

pub has-all_joined : (ids queue : List ℕ) (x : ℕ) → has (all_joined queue ids) x ≡ (has queue x || has ids x)
has-all_joined [] queue x = last (has queue x)
  where
    last : (b : Bool) → b ≡ (b || false)
    last true = refl
    last false = refl
has-all_joined (id ∷ ids) queue x = has-all_joined ids (joined queue id) x ∙ (ap (λ b. b || has ids x) (has-joined queue id x) ∙ regroup (has queue x) (id == x) (has ids x))
  where
    regroup : (a b c : Bool) → ((a || b) || c) ≡ (a || (b || c))
    regroup true b c = refl
    regroup false b c = refl

-- each is there once, and nothing else is there
pub once-each_once : (ids : List ℕ) → IsOnce (each_once ids)
once-each_once ids = once-all_joined ids [] once-none

pub has-each_once : (ids : List ℕ) (x : ℕ) → has (each_once ids) x ≡ has ids x
has-each_once ids x = has-all_joined ids [] x

-- ids of which none stands twice join after the queue, without those that are in it
pub all_joined-behind : (ids queue : List ℕ) → IsOnce ids → all_joined queue ids ≡ queue ++ filter (λ id. not (has queue id)) ids
all_joined-behind [] queue once = nothing queue
  where
    nothing : (xs : List ℕ) → xs ≡ xs ++ []
    nothing [] = refl
    nothing (x ∷ xs) = ap (λ ys. x ∷ ys) (nothing xs)
all_joined-behind (id ∷ ids) queue once =
    let rest = all_joined-behind ids (joined queue id) (once-rest id ids once) in
    ⊎_elim
    (λ (there : has queue id ≡ true).
    rest ∙ ap (λ q. q ++ filter (λ x. not (has q x)) ids) (joined-there queue id there) ∙ ap (λ b. queue ++ cond (not b) (id ∷ filter (λ x. not (has queue x)) ids) (filter (λ x. not (has queue x)) ids)) (sym there))
    (λ (new : has queue id ≡ false).
    let others : filter (λ x. not (has (queue ++ id ∷ []) x)) ids ≡ filter (λ x. not (has queue x)) ids =
    filter-same (λ x. not (has (queue ++ id ∷ []) x)) (λ x. not (has queue x)) ids (λ x m.
    let apart : id ≢ x = λ e. once-first id ids once (subst (λ y. Contains ids y) (sym e) (Contains-has ids x m)) in
    ap not (has-push queue id x ∙ (ap (λ b. has queue x || b) (ne_eqb id x apart) ∙ or_false (has queue x)))) in
    rest ∙ ap (λ q. q ++ filter (λ x. not (has q x)) ids) (joined-new queue id new) ∙ ap (λ ys. (queue ++ id ∷ []) ++ ys) others
    ∙ append_assoc queue (id ∷ []) (filter (λ x. not (has queue x)) ids) ∙ ap (λ b. queue ++ cond (not b) (id ∷ filter (λ x. not (has queue x)) ids) (filter (λ x. not (has queue x)) ids)) (sym new))
    (cases_Bool (has queue id))
  where
    or_false : (b : Bool) → (b || false) ≡ b
    or_false true = refl
    or_false false = refl

-- ---- the targets of entries

pub target-there : (entries : List TempRef) (place : ℕ) (d : TempRef) → place < length entries → has (targets_of entries) (get_or entries place d).target ≡ true
target-there [] place d l = absurd (omega (arith, l))
target-there (e ∷ es) zero d l = has-here e.target (targets_of es)
target-there (e ∷ es) (suc place) d l = has-later e.target (targets_of es) (get_or es place d).target (target-there es place d (omega (arith, l)))

pub each_once-more : (entries : List TempRef) (place : ℕ) (d : TempRef) → place < length entries → each_once (targets_of (take (place + 1) entries)) ≡ joined (each_once (targets_of (take place entries))) (get_or entries place d).target
each_once-more entries place d l =
    ap (λ es. each_once (targets_of es)) (take_more entries place d l) ∙ (ap each_once (map-append (λ e. e.target) (take place entries) (get_or entries place d ∷ [])) ∙ all_joined-push [] (targets_of (take place entries)) (get_or entries place d).target)

-- an entry has the target where it is among the targets
pub has-targets : (entries : List TempRef) (id : ℕ) → has (targets_of entries) id ≡ list_any (λ e. e.target == id) entries
has-targets [] id = refl
has-targets (e ∷ es) id = ap (λ b. (e.target == id) || b) (has-targets es id)

-- what a table tells of an id is what any test of its names tells
pub names-agree : (t : Table) (named : ℕ → Bool) → AreNames (λ p. targets_of (entries_of t p)) named → (id : ℕ) (b : Bool) → (b ≡ true → (p : ℕ) × Names (entries_of t p) id) → (b ≡ false → (p : ℕ) → ¬ Names (entries_of t p) id) → b ≡ named id
names-agree t named are id b some none =
    ⊎_elim
    (λ (is : b ≡ true). let y = some is in
    ⊎_elim
    (λ (h : named id ≡ true). is ∙ sym h)
    (λ (h : named id ≡ false). absurd (true≢false (sym (has-targets (entries_of t y.0) id ∙ y.1) ∙ are.no id y.0 h)))
    (cases_Bool (named id)))
    (λ (is : b ≡ false).
    ⊎_elim
    (λ (h : named id ≡ true). let y = are.yes id h in absurd (none is y.0 (sym (has-targets (entries_of t y.0) id) ∙ y.1)))
    (λ (h : named id ≡ false). is ∙ sym h)
    (cases_Bool (named id)))
    (cases_Bool b)

-- an id that passes all tests but the last
pub queued-tests : (zero is_root is_free is_in named : Bool) → zero ≡ true → is_root ≡ false → is_free ≡ false → is_in ≡ false → not named ≡ (zero && (not is_root && (not is_free && (not is_in && not named))))
queued-tests true false false false named a b c d = refl
queued-tests true false false true named a b c d = absurd (cc)
queued-tests true false true is_in named a b c d = absurd (cc)
queued-tests true true is_free is_in named a b c d = absurd (cc)
queued-tests false is_root is_free is_in named a b c d = absurd (cc)

-- and those that fail one
pub queued-not_zero : (is_root is_free is_in named : Bool) → false ≡ (false && (not is_root && (not is_free && (not is_in && not named))))
queued-not_zero is_root is_free is_in named = refl

-- ---- the ids that pass a test, one place after another

filter-last : (test : ℕ → Bool) (xs : List ℕ) (x : ℕ) → filter test (xs ++ x ∷ []) ≡ filter test xs ++ cond (test x) (x ∷ []) []
filter-last test xs x = filter-append test xs (x ∷ [])

-- the id at the place passes, and joins
pub passed-joins : (test : ℕ → Bool) (first queue ids : List ℕ) (place id : ℕ) → place < length ids → id ≡ get_or ids place 0 → test id ≡ true → queue ≡ all_joined first (filter test (take place ids)) → joined queue id ≡ all_joined first (filter test (take (place + 1) ids))
passed-joins test first queue ids place id l is passes q =
    let kept = take place ids in
    let more : take (place + 1) ids ≡ kept ++ id ∷ [] = take_more ids place 0 l ∙ ap (λ x. kept ++ x ∷ []) (sym is) in
    let all : filter test (take (place + 1) ids) ≡ filter test kept ++ id ∷ [] = ap (filter test) more ∙ filter-last test kept id ∙ ap (λ b. filter test kept ++ cond b (id ∷ []) []) passes in
    ap (λ q. joined q id) q ∙ sym (ap (all_joined first) all ∙ all_joined-push first (filter test kept) id)

-- it doesn't pass, and nothing changes
pub failed-stays : (test : ℕ → Bool) (first queue ids : List ℕ) (place id : ℕ) → place < length ids → id ≡ get_or ids place 0 → test id ≡ false → queue ≡ all_joined first (filter test (take place ids)) → queue ≡ all_joined first (filter test (take (place + 1) ids))
failed-stays test first queue ids place id l is fails q =
    let kept = take place ids in
    let more : take (place + 1) ids ≡ kept ++ id ∷ [] = take_more ids place 0 l ∙ ap (λ x. kept ++ x ∷ []) (sym is) in
    let all : filter test (take (place + 1) ids) ≡ filter test kept = ap (filter test) more ∙ filter-last test kept id ∙ ap (λ b. filter test kept ++ cond b (id ∷ []) []) fails ∙ append-nil (filter test kept) in
    q ∙ sym (ap (all_joined first) all)

-- the first ids joined the queue where they are to, and nothing else changed
pub record HaveJoined (v w : TablesView) (ids : List ℕ) (place : ℕ) : Type 0 where
  pub same : w ≡ record v { queue = w.queue }
  pub queue : (named : ℕ → Bool) → AreNames v.references named → w.queue ≡ all_joined v.queue (filter (is_queued v named) (take place ids))

pub have_joined-none : (v : TablesView) (ids : List ℕ) → HaveJoined v v ids 0
have_joined-none v ids = record { same = refl; queue = λ named are. refl }

pub have_joined-more : (v w x : TablesView) (ids : List ℕ) (place id : ℕ) → place < length ids → id ≡ get_or ids place 0 → HaveJoined v w ids place → JoinsIfQueued w x id → HaveJoined v x ids (place + 1)
have_joined-more v w x ids place id l is h j = record {
  same = j.same ∙ ap (λ (y : TablesView). record y { queue = x.queue }) h.same;
  queue = λ named are.
      (let test = is_queued v named in
      let q = j.queue named (subst (λ (y : TablesView). AreNames y.references named) (sym h.same) are) in
      let tests : is_queued w named id ≡ test id = ap (λ (y : TablesView). is_queued y named id) h.same in
      ⊎_elim
      (λ (passes : test id ≡ true). q ∙ ap (λ b. cond b (joined w.queue id) w.queue) (tests ∙ passes) ∙ passed-joins test v.queue w.queue ids place id l is passes (h.queue named are))
      (λ (fails : test id ≡ false). q ∙ ap (λ b. cond b (joined w.queue id) w.queue) (tests ∙ fails) ∙ failed-stays test v.queue w.queue ids place id l is fails (h.queue named are))
      (cases_Bool (test id)));
}

-- and after the last, nothing is named
pub names-nothing : (v w : TablesView) (references : ℕ → List ℕ) (pass : ℕ) (ids : List ℕ) (place : ℕ) → length ids ≤ place → ids ≡ each_once (v.references pass) → references pass ≡ [] → ((q : ℕ) → q ≢ pass → references q ≡ v.references q) → HaveJoined (record v { references = references }) w ids place → NamesNothing v w pass
names-nothing v w references pass ids place l is none others h =
    let named = ap (λ (y : TablesView). y.references) h.same in
    record {
      same = h.same ∙ ap (λ r. record v { references = r; queue = w.queue }) (sym named);
      unnamed = ap (λ r. r pass) named ∙ none;
      others = λ q d. ap (λ r. r q) named ∙ others q d;
      queue = λ test are. h.queue test (subst (λ r. AreNames r test) named are) ∙ ap (λ xs. all_joined v.queue (filter (is_queued v test) xs)) (take_all place ids l ∙ is);
    }

-- ---- an end

-- what is named and marked doesn't depend on locks and transactions
abbrev pub AreNamedWithin : TablesView → ℕ → Type 0
AreNamedWithin v pass = (id : ℕ) → has (v.references pass) id ≡ true → (1 ≤ id) × (id ≤ v.ids)

pub within-kept : (v p : TablesView) (pass : ℕ) (left : LockTable) → p ≡ record v { locks = left; transactions = p.transactions; owed = p.owed } → AreNamedWithin v pass → AreNamedWithin p pass
within-kept v p pass left same within = subst (λ (y : TablesView). AreNamedWithin y pass) (sym same) within

pub marks-kept : (v p : TablesView) (left : LockTable) → p ≡ record v { locks = left; transactions = p.transactions; owed = p.owed } → length v.zeros ≡ v.ids + 1 → length p.zeros ≡ p.ids + 1
marks-kept v p left same marks = subst (λ (y : TablesView). length y.zeros ≡ y.ids + 1) (sym same) marks

-- after its locks are given back, its transaction is gone, and what it named is queued
pub ends-after : (v p w : TablesView) (pass : ℕ) (left : LockTable) → p ≡ record v { locks = left; transactions = p.transactions; owed = p.owed } → DropsAll v.locks left pass → TakesAt v.transactions p.transactions pass
    → ((t : Running) → running_at v.transactions pass ≡ Some t → p.owed + (length t.replaced + 1) ≡ v.owed) → NamesNothing p w pass → Ends v w pass
ends-after v p w pass left same locks takes owed n =
    record {
      ids = ap (λ (y : TablesView). y.ids) n.same ∙ ap (λ (y : TablesView). y.ids) same;
      free = ap (λ (y : TablesView). y.free) n.same ∙ ap (λ (y : TablesView). y.free) same;
      zeros = ap (λ (y : TablesView). y.zeros) n.same ∙ ap (λ (y : TablesView). y.zeros) same;
      locks = subst (λ l. DropsAll v.locks l pass) (sym (ap (λ (y : TablesView). y.locks) n.same ∙ ap (λ (y : TablesView). y.locks) same)) locks;
      transactions = subst (λ ts. TakesAt v.transactions ts pass) (sym (ap (λ (y : TablesView). y.transactions) n.same)) takes;
      owed = λ t e. ap (λ (y : TablesView). y.owed + (length t.replaced + 1)) n.same ∙ owed t e;
      unnamed = n.unnamed;
      others = λ q d. n.others q d ∙ ap (λ (y : TablesView). y.references q) same;
      queue = λ named are. n.queue named are ∙ ap (λ (y : TablesView). all_joined y.queue (filter (is_queued y named) (each_once (y.references pass)))) same;
      round = ap (λ (y : TablesView). y.round) n.same ∙ ap (λ (y : TablesView). y.round) same;
    }
