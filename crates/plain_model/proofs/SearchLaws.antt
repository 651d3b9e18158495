-- What a binary search finds in a graph.
use Rattle.std.proofs.Common.{◌≡◌, ℕ, zero, suc, ◌<◌, ◌≤◌, ◌≢◌, List, [], ◌∷◌, length, get_or, Some, None, Result, Ok, Err, sym, refl, ◌∙◌, arith, ⊎_elim}
use Rattle.std.specs.Result.{MatchResult}
use Rattle.std.specs.List.Sorted.{IsSearchInRange, IsBinarySearchResult, IsNonDecreasingBy}
use Rattle.std.specs.Ordering.{nat_cmp, ordering_index}
use Rattle.std.proofs.lemmas.Cmp.{ranked}
use Rattle.std.proofs.lemmas.List.Elements.{All-from_recursion, All-get_or}
use Rattle.std.proofs.lemmas.Bool.Decides.{nat_tests}
use Rattle.std.proofs.lemmas.Bool.{cases_lt}
use Rattle.plain_model.specs.declared.object.Object.{Object}
use Rattle.plain_model.specs.Graphs.{IsGraph, object_at}
use Rattle.plain_model.proofs.LawProofs.{object_at-here, object_at-next}

-- the ids rise
rising : (g : List Object) → IsGraph g → (i j : ℕ) (d : Object) → i < j → j < length g → (get_or g i d).id < (get_or g j d).id
rising [] h i j d l m = absurd (omega arith)
rising (x ∷ xs) h i zero d l m = absurd (omega arith)
rising (x ∷ xs) h zero (suc j) d l m = All-get_or (λ (o : Object). x.id < o.id) xs j d (omega arith) (All-from_recursion (λ (o : Object). x.id < o.id) xs h.0)
rising (x ∷ xs) h (suc i) (suc j) d l m = rising xs h.1 i j d (omega arith) (omega arith)

-- an object is found under its id
found-at : (g : List Object) → IsGraph g → (id i : ℕ) (d : Object) → i < length g → (get_or g i d).id ≡ id → object_at g id ≡ Some (get_or g i d)
found-at [] h id i d l e = absurd (omega arith)
found-at (x ∷ xs) h id zero d l e = object_at-here x xs id e
found-at (x ∷ xs) h id (suc i) d l e =
    let below : x.id < (get_or xs i d).id = rising (x ∷ xs) h 0 (suc i) d (omega arith) l in
    let apart : x.id ≢ id = λ same. absurd (omega (arith, below, e, same)) in
    object_at-next x xs id apart ∙ found-at xs h.1 id i d (omega arith) e

-- nothing is found under an id that no object has
found-none : (g : List Object) (id : ℕ) → ((k : ℕ) (d : Object) → k < length g → (get_or g k d).id ≢ id) → object_at g id ≡ None
found-none [] id h = refl
found-none (x ∷ xs) id h = object_at-next x xs id (h 0 x (omega arith)) ∙ found-none xs id (λ k d l. h (suc k) d (omega arith))

-- the comparisons with an id rise along the graph, as a binary search asks
comparisons-rise : (g : List Object) → IsGraph g → (id : ℕ) → IsNonDecreasingBy (λ (o : Object). ordering_index (nat_cmp o.id id)) g
comparisons-rise g h id i j d l m =
    let rise : (get_or g i d).id ≤ (get_or g j d).id = ⊎_elim (λ (k : i < j). let r = rising g h i j d k m in omega (arith, r)) (λ (k : j ≤ i). let same : i ≡ j = omega (arith, k, l) in rw same (omega arith)) (cases_lt i j) in
    grind (arith, nat_tests)

-- the answer is the index of the id's object, or there is none
abbrev pub IsFound : List Object → ℕ → Result ℕ ℕ → Type 0
IsFound g id r = MatchResult r (λ i. (d : Object) → object_at g id ≡ Some (get_or g i d)) (λ i. object_at g id ≡ None)

-- a binary search by the id ends so
pub searched : (g : List Object) → IsGraph g → (id : ℕ) (r : Result ℕ ℕ) → IsSearchInRange r (length g) → IsBinarySearchResult (λ (o : Object). nat_cmp o.id id) g r → IsFound g id r
searched g h id (Ok i) l equal = λ d. found-at g h id i d l (ranked _ id _ (sym (equal d)))
searched g h id (Err i) l parted =
    found-none g id (λ k d within same. ⊎_elim
    (λ (before : k < i). let less : (get_or g k d).id < id = ranked _ id _ (sym ((parted (comparisons-rise g h id)).0 k d (omega arith) before)) in absurd (omega (arith, less, same)))
    (λ (after : i ≤ k). let more : id < (get_or g k d).id = ranked _ id _ (sym ((parted (comparisons-rise g h id)).1 k d after within)) in absurd (omega (arith, more, same)))
    (cases_lt k i))
