-- What keeps the ring when an id joins at its end, and when one leaves.
use Rattle.std.proofs.Common.{◌≡◌, ℕ, ◌≢◌, true, false, ◌==◌, List, [], ◌∷◌, ◌++◌, length, eqb, arith, refl, sym, ap, ◌∙◌, subst, ⊎_elim, true≢false, if◌then◌else◌}
use Rattle.std.proofs.lemmas.Bool.{cases_eq}
use Rattle.std.proofs.lemmas.Bool.Decides.{nat_tests}
use Rattle.std.proofs.lemmas.Map.Keys.{IsDistinct-tail}
use Rattle.ref_tables.specs.Queue.{has, without, IsQueue}
use Rattle.ref_tables.specs.Ring.{along, IsChain}
use Rattle.ref_tables.proofs.MemberLaws.{first-once, without-first, without-other}

-- the steps to the next one meet the ids
pub along-ids : (next previous : ℕ → ℕ) (start : ℕ) (ids : List ℕ) (end : ℕ) → IsChain next previous start ids end → along next (length ids) start ≡ ids
along-ids next previous start [] end ring = refl
along-ids next previous start (id ∷ ids) end ring =
    let rest = along-ids next previous id ids end ring.2 in
    rw ring.0 (ap (λ others. id ∷ others) rest)

-- the neighbours that the ring has stay as they are
IsChain-same : (next previous next' previous' : ℕ → ℕ) (start : ℕ) (ids : List ℕ) (end : ℕ)
    → IsChain next previous start ids end
    → ((at : ℕ) → has (start ∷ ids) at ≡ true → next' at ≡ next at)
    → ((at : ℕ) → has (end ∷ ids) at ≡ true → previous' at ≡ previous at)
    → IsChain next' previous' start ids end
IsChain-same next previous next' previous' start [] end ring same_next same_previous =
    (same_next start (grind (arith, nat_tests)) ∙ ring.0, same_previous end (grind (arith, nat_tests)) ∙ ring.1)
IsChain-same next previous next' previous' start (id ∷ ids) end ring same_next same_previous = (
  same_next start (grind (arith, nat_tests)) ∙ ring.0,
  same_previous id (grind (arith, nat_tests)) ∙ ring.1,
  IsChain-same next previous next' previous' id ids end ring.2
      (λ at there. same_next at (grind (arith, nat_tests, there)))
      (λ at there. same_previous at (grind (arith, nat_tests, there))),
)

-- the id before one of the ring is in it, or is the start
pub previous-within : (next previous : ℕ → ℕ) (start : ℕ) (ids : List ℕ) (end id : ℕ) → IsChain next previous start ids end → has (end ∷ ids) id ≡ true → has (start ∷ ids) (previous id) ≡ true
previous-within next previous start [] end id ring there = let here : end ≡ id = grind (arith, nat_tests, there) in rw (← here) (grind (arith, nat_tests, ring.1))
previous-within next previous start (x ∷ xs) end id ring there =
    ⊎_elim
    (λ (here : x ≡ id). rw (← here) (grind (arith, nat_tests, ring.1)))
    (λ (apart : x ≢ id). let rest = previous-within next previous x xs end id ring.2 (grind (arith, nat_tests, there)) in grind (arith, nat_tests, rest))
    (cases_eq x id)

-- the id after one of the ring is in it, or is the end
pub next-within : (next previous : ℕ → ℕ) (start : ℕ) (ids : List ℕ) (end id : ℕ) → IsChain next previous start ids end → has (start ∷ ids) id ≡ true → has (end ∷ ids) (next id) ≡ true
next-within next previous start [] end id ring there = let here : start ≡ id = grind (arith, nat_tests, there) in rw (← here) (grind (arith, nat_tests, ring.0))
next-within next previous start (x ∷ xs) end id ring there =
    ⊎_elim
    (λ (here : start ≡ id). rw (← here) (grind (arith, nat_tests, ring.0)))
    (λ (apart : start ≢ id). let rest = next-within next previous x xs end id ring.2 (grind (arith, nat_tests, there)) in grind (arith, nat_tests, rest))
    (cases_eq start id)

-- the id joins at the end
pub IsChain-append : (next previous next' previous' : ℕ → ℕ) (start : ℕ) (ids : List ℕ) (end id : ℕ)
    → IsChain next previous start ids end
    → IsQueue ids
    → has ids start ≡ false
    → has ids end ≡ false
    → has (start ∷ ids) id ≡ false
    → end ≢ id
    → ((at : ℕ) → next' at ≡ (if at == id then end else if at == previous end then id else next at))
    → ((at : ℕ) → previous' at ≡ (if at == end then id else if at == id then previous end else previous at))
    → IsChain next' previous' start (ids ++ id ∷ []) end
IsChain-append next previous next' previous' start [] end id ring once no_start no_end new apart new_next new_previous =
    let n0 = new_next start in let n1 = new_next id in let p0 = new_previous id in let p1 = new_previous end in (
      grind (arith, nat_tests, ring.1, n0, new),
      grind (arith, nat_tests, ring.1, p0, apart),
      (grind (arith, nat_tests, n1), grind (arith, nat_tests, p1)),
    )
IsChain-append next previous next' previous' start (x ∷ xs) end id ring once no_start no_end new apart new_next new_previous =
    let last = previous-within next previous x xs end end ring.2 (grind (arith, nat_tests)) in
    let other : start ≢ previous end = λ same. true≢false (sym last ∙ subst (λ at. has (x ∷ xs) at ≡ false) same no_start) in
    let n0 = new_next start in
    let p0 = new_previous x in (
      grind (arith, nat_tests, ring.0, n0, new, other),
      grind (arith, nat_tests, ring.1, p0, new, no_end),
      IsChain-append next previous next' previous' x xs end id ring.2 (IsDistinct-tail eqb x xs once) (first-once x xs once) (grind (arith, nat_tests, no_end)) (grind (arith, nat_tests, new)) apart new_next new_previous,
    )

-- the first leaves
IsChain-tail : (next previous next' previous' : ℕ → ℕ) (start id : ℕ) (ids : List ℕ) (end : ℕ)
    → IsChain next previous start (id ∷ ids) end
    → IsQueue (id ∷ ids)
    → has (id ∷ ids) start ≡ false
    → has (id ∷ ids) end ≡ false
    → ((at : ℕ) → next' at ≡ (if at == previous id then next id else next at))
    → ((at : ℕ) → previous' at ≡ (if at == next id then previous id else previous at))
    → IsChain next' previous' start ids end
IsChain-tail next previous next' previous' start id [] end ring once no_start no_end new_next new_previous =
    let n0 = new_next start in
    let p0 = new_previous end in
    (grind (arith, nat_tests, ring.0, ring.1, ring.2.0, n0), grind (arith, nat_tests, ring.0, ring.1, ring.2.0, p0))
IsChain-tail next previous next' previous' start id (x ∷ xs) end ring once no_start no_end new_next new_previous =
    let n0 = new_next start in
    let p0 = new_previous x in
    let x_once = first-once x xs (IsDistinct-tail eqb id (x ∷ xs) once) in (
      grind (arith, nat_tests, ring.0, ring.1, ring.2.0, n0),
      grind (arith, nat_tests, ring.0, ring.1, ring.2.0, p0),
      IsChain-same next previous next' previous' x xs end ring.2.2
          (λ at there. let other : start ≢ at = λ same. true≢false (sym there ∙ subst (λ y. has (x ∷ xs) y ≡ false) same (grind (arith, nat_tests, no_start))) in let n = new_next at in grind (arith, nat_tests, ring.1, n, other))
          (λ at there. let other : x ≢ at = λ same. true≢false (sym there ∙ subst (λ y. has (end ∷ xs) y ≡ false) same (grind (arith, nat_tests, no_end, x_once))) in let p = new_previous at in grind (arith, nat_tests, ring.2.0, p, other)),
    )

-- the id leaves
pub IsChain-without : (next previous next' previous' : ℕ → ℕ) (start : ℕ) (ids : List ℕ) (end id : ℕ)
    → IsChain next previous start ids end
    → IsQueue ids
    → has ids start ≡ false
    → has ids end ≡ false
    → has ids id ≡ true
    → ((at : ℕ) → next' at ≡ (if at == previous id then next id else next at))
    → ((at : ℕ) → previous' at ≡ (if at == next id then previous id else previous at))
    → IsChain next' previous' start (without ids id) end
IsChain-without next previous next' previous' start [] end id ring once no_start no_end there new_next new_previous = absurd (cc)
IsChain-without next previous next' previous' start (x ∷ xs) end id ring once no_start no_end there new_next new_previous =
    ⊎_elim
    (λ (here : x ≡ id). subst (λ y. IsChain next' previous' start (without (x ∷ xs) y) end) here
    (rw (without-first x xs (first-once x xs once))
    (IsChain-tail next previous next' previous' start x xs end ring once no_start no_end
    (λ at. rw here (new_next at))
    (λ at. rw here (new_previous at)))))
    (λ (apart : x ≢ id).
    let within : has xs id ≡ true = grind (arith, nat_tests, there) in
    let before = previous-within next previous x xs end id ring.2 (grind (arith, nat_tests, within)) in
    let behind = next-within next previous x xs end id ring.2 (grind (arith, nat_tests, within)) in
    let other_start : start ≢ previous id = λ same. true≢false (sym before ∙ subst (λ y. has (x ∷ xs) y ≡ false) same no_start) in
    let other_end : x ≢ next id = λ same. true≢false (sym behind ∙ subst (λ y. has (end ∷ xs) y ≡ false) same (grind (arith, nat_tests, no_end, first-once x xs once))) in
    let n0 = new_next start in
    let p0 = new_previous x in
    rw (without-other id x xs apart) (
      grind (arith, nat_tests, ring.0, n0, other_start),
      grind (arith, nat_tests, ring.1, p0, other_end),
      IsChain-without next previous next' previous' x xs end id ring.2 (IsDistinct-tail eqb x xs once) (first-once x xs once) (grind (arith, nat_tests, no_end)) within new_next new_previous,
    ))
    (cases_eq x id)
