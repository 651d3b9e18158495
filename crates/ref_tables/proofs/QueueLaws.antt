-- What keeps the queue, its marks and its links in step.
use Rattle.std.proofs.Common.{◌≡◌, ℕ, ◌+◌, ◌-◌, ◌^◌, ◌≢◌, ◌≤◌, ◌<◌, Bool, true, false, ◌==◌, List, [], ◌∷◌, ◌++◌, length, get_or, slice_set, cond, arith, refl, zero, suc, sym, ap, ◌∙◌, subst, replicate, ⊎_elim, true≢false, if◌then◌else◌}
use Rattle.std.specs.List.{IsDistinct, sum_by}
use Rattle.std.proofs.lemmas.Bool.{cases_eq}
use Rattle.std.proofs.lemmas.Bool.Decides.{nat_tests}
use Rattle.std.proofs.lemmas.Grind.{common_steps}
use Rattle.std.proofs.lemmas.Cmp.{nat_eq_equiv}
use Rattle.std.proofs.lemmas.Map.Keys.{IsDistinct-push}
use Rattle.std.proofs.lemmas.List.Sums.{sum_by-set, sum_by-cons}
use Rattle.std.proofs.lemmas.List.Folds.{list_any-append, sum_by-replicate}
use Rattle.std.proofs.lemmas.List.{get_or-set_same, get_or-set_other, length_push, length-set, length-replicate}
use Rattle.indexmap.specs.IndexMap.{IndexMap}
use Rattle.ref_tables.specs.declared.ring.Link.{Link}
use Rattle.ref_tables.specs.Queue.{has, without, bit, IsQueue, IsQueueInside, AreWithin}
use Rattle.ref_tables.specs.Ring.{next_of, previous_of, is_linked, IsLinked, along}
use Rattle.ref_tables.proofs.MemberLaws.{has-flip, has-without, IsQueue-without, length-without, first-once, without-first}
use Rattle.ref_tables.proofs.RingLaws.{along-ids, previous-within, next-within, IsChain-append, IsChain-without}

-- a mark that is set is in range
pub set-within : (marks : List Bool) (id : ℕ) → get_or marks id false ≡ true → id < length marks
set-within [] id set = grind arith
set-within (m ∷ ms) zero set = omega arith
set-within (m ∷ ms) (suc id) set = let r = set-within ms id set in grind arith

-- there are no more marks set than marks
pub bits-le : (marks : List Bool) → sum_by bit marks ≤ length marks
bits-le [] = omega arith
bits-le (m ∷ ms) = let r = bits-le ms in grind (arith, sum_by-cons bit m ms)

-- where one mark is not set, there are fewer
pub bits-lt : (marks : List Bool) (id : ℕ) → id < length marks → get_or marks id false ≡ false → sum_by bit marks < length marks
bits-lt [] id within unset = absurd (omega arith)
bits-lt (m ∷ ms) zero within unset = let r = bits-le ms in grind (arith, sum_by-cons bit m ms)
bits-lt (m ∷ ms) (suc id) within unset = let r = bits-lt ms id (omega arith) unset in grind (arith, sum_by-cons bit m ms)

-- one mark more
get-set : (marks : List Bool) (id x : ℕ) (mark : Bool) → id < length marks → get_or (slice_set marks id mark) x false ≡ cond (x == id) mark (get_or marks x false)
get-set marks id x mark within =
    ⊎_elim
    (λ (here : x ≡ id). rw here (grind (arith, nat_tests, get_or-set_same marks id mark false within)))
    (λ (apart : x ≢ id). grind (arith, nat_tests, get_or-set_other marks id x mark false apart))
    (cases_eq x id)

-- the links lead along the ids
pub IsQueueInside-along : {S : Type 0} (ids : List ℕ) (count : ℕ) (links : IndexMap ℕ Link S) (marks : List Bool) (limit : ℕ) → IsQueueInside ids count links marks limit → along (next_of links) count 0 ≡ ids
IsQueueInside-along ids count links marks limit k = rw k.number (along-ids (next_of links) (previous_of links) 0 ids 0 k.ring)

-- so what is kept of the ids is kept of those that the links lead along
pub IsQueueInside-seen : {S : Type 0} (ids : List ℕ) (count : ℕ) (links : IndexMap ℕ Link S) (marks : List Bool) (limit : ℕ) → IsQueueInside ids count links marks limit → IsQueueInside (along (next_of links) count 0) count links marks limit
IsQueueInside-seen ids count links marks limit k = subst (λ xs. IsQueueInside xs count links marks limit) (sym (IsQueueInside-along ids count links marks limit k)) k

-- the queue is no longer than its limit
pub IsQueueInside-length : {S : Type 0} (ids : List ℕ) (count : ℕ) (links : IndexMap ℕ Link S) (marks : List Bool) (limit : ℕ) → IsQueueInside ids count links marks limit → length ids ≤ limit
IsQueueInside-length ids count links marks limit k = let lt = bits-lt marks 0 (omega (arith, k.all)) k.nothing in omega (arith, lt, k.counted, k.all)

-- and where an id may join, it is shorter
pub IsQueueInside-room : {S : Type 0} (ids : List ℕ) (count : ℕ) (links : IndexMap ℕ Link S) (marks : List Bool) (limit : ℕ) (id : ℕ) → IsQueueInside ids count links marks limit → 1 ≤ id → id ≤ limit → get_or marks id false ≡ false → count < limit
IsQueueInside-room ids count links marks limit id k positive le unset =
    let within : id < length marks = omega (arith, k.all, le) in
    let s = sum_by-set bit marks id true false within in
    let nothing : get_or (slice_set marks id true) 0 false ≡ false = get-set marks id 0 true within ∙ grind (arith, nat_tests, k.nothing) in
    let lt = bits-lt (slice_set marks id true) 0 (omega (arith, length-set marks id true, k.all)) nothing in
    grind (arith, s, lt, unset, k.counted, k.all, k.number, length-set marks id true)

-- each id of the queue is within the limits
pub IsQueueInside-within : {S : Type 0} (ids : List ℕ) (count : ℕ) (links : IndexMap ℕ Link S) (marks : List Bool) (limit : ℕ) → IsQueueInside ids count links marks limit → AreWithin ids limit
IsQueueInside-within ids count links marks limit k id there =
    let set : get_or marks id false ≡ true = sym (k.marked id) ∙ there in
    let within = set-within marks id set in
    let positive : 1 ≤ id = ⊎_elim
    (λ (none : id ≡ 0). absurd (true≢false (sym set ∙ ap (λ i. get_or marks i false) none ∙ k.nothing)))
    (λ (some : id ≢ 0). omega (arith, some))
    (cases_eq id 0) in
    (positive, omega (arith, within, k.all))

-- 0 and each id of the queue have a link
member-linked : {S : Type 0} (ids : List ℕ) (count : ℕ) (links : IndexMap ℕ Link S) (marks : List Bool) (limit : ℕ) (id : ℕ) → IsQueueInside ids count links marks limit → has (0 ∷ ids) id ≡ true → IsLinked links id
member-linked ids count links marks limit id k there =
    k.linked id
    (⊎_elim
    (λ (none : 0 ≡ id). omega (arith, none))
    (λ (some : 0 ≢ id). (IsQueueInside-within ids count links marks limit k id (grind (arith, nat_tests, there))).1)
    (cases_eq 0 id))

-- and so have their neighbours
pub IsQueueInside-previous : {S : Type 0} (ids : List ℕ) (count : ℕ) (links : IndexMap ℕ Link S) (marks : List Bool) (limit : ℕ) (id : ℕ) → IsQueueInside ids count links marks limit → has (0 ∷ ids) id ≡ true → IsLinked links (previous_of links id)
IsQueueInside-previous ids count links marks limit id k there = member-linked ids count links marks limit (previous_of links id) k (previous-within (next_of links) (previous_of links) 0 ids 0 id k.ring there)

pub IsQueueInside-next : {S : Type 0} (ids : List ℕ) (count : ℕ) (links : IndexMap ℕ Link S) (marks : List Bool) (limit : ℕ) (id : ℕ) → IsQueueInside ids count links marks limit → has (0 ∷ ids) id ≡ true → IsLinked links (next_of links id)
IsQueueInside-next ids count links marks limit id k there = member-linked ids count links marks limit (next_of links id) k (next-within (next_of links) (previous_of links) 0 ids 0 id k.ring there)

IsQueue-none : IsQueue []
unfolding IsDistinct
IsQueue-none = tt

-- a new queue is empty, with no mark set
pub IsQueueInside-new : {S : Type 0} (links : IndexMap ℕ Link S) (limit : ℕ) → limit < 2 ^ 32 → ((id : ℕ) → id ≤ limit → IsLinked links id) → next_of links 0 ≡ 0 → previous_of links 0 ≡ 0
    → IsQueueInside [] 0 links (replicate (limit + 1) false) limit
IsQueueInside-new links limit small linked next previous = record {
  distinct = IsQueue-none;
  marked = λ id. sym (unset id);
  counted = grind (arith, sum_by-replicate bit (limit + 1) false);
  nothing = unset 0;
  all = length-replicate (limit + 1) false;
  ring = (next, previous);
  number = refl;
  linked = linked;
  small = small;
}
  where
    unset : (id : ℕ) → get_or (replicate (limit + 1) false) id false ≡ false
    unset id = grind (arith, common_steps)

-- an id joins
pub IsQueueInside-push : {S : Type 0} (ids : List ℕ) (count : ℕ) (links : IndexMap ℕ Link S) (marks : List Bool) (limit : ℕ) (id : ℕ) (changed : IndexMap ℕ Link S)
    → IsQueueInside ids count links marks limit → 1 ≤ id → id ≤ limit → get_or marks id false ≡ false
    → ((at : ℕ) → is_linked changed at ≡ is_linked links at)
    → ((at : ℕ) → next_of changed at ≡ (if at == id then 0 else if at == previous_of links 0 then id else next_of links at))
    → ((at : ℕ) → previous_of changed at ≡ (if at == 0 then id else if at == id then previous_of links 0 else previous_of links at))
    → IsQueueInside (ids ++ id ∷ []) (count + 1) changed (slice_set marks id true) limit
IsQueueInside-push ids count links marks limit id changed k positive le unset same_linked new_next new_previous =
    let within : id < length marks = omega (arith, k.all, le) in
    let absent : has ids id ≡ false = k.marked id ∙ unset in
    let no_zero : has ids 0 ≡ false = k.marked 0 ∙ k.nothing in
    let apart : 0 ≢ id = omega arith in
    record {
      distinct = IsDistinct-push nat_eq_equiv ids id k.distinct (has-flip id ids ∙ absent);
      marked = λ x. let h = k.marked x in let g = get-set marks id x true within in let a = list_any-append (λ member. member == x) ids (id ∷ []) in grind (arith, nat_tests);
      counted = let s = sum_by-set bit marks id true false within in grind (arith, k.counted, unset, length_push ids id, s);
      nothing = get-set marks id 0 true within ∙ grind (arith, nat_tests, k.nothing);
      all = length-set marks id true ∙ k.all;
      ring = IsChain-append (next_of links) (previous_of links) (next_of changed) (previous_of changed) 0 ids 0 id k.ring k.distinct no_zero no_zero (grind (arith, nat_tests, absent, apart)) apart new_next new_previous;
      number = omega (arith, k.number, length_push ids id);
      linked = λ at le. same_linked at ∙ k.linked at le;
      small = k.small;
    }

-- an id leaves, in the same way
pub IsQueueInside-drop : {S : Type 0} (ids : List ℕ) (count : ℕ) (links : IndexMap ℕ Link S) (marks : List Bool) (limit : ℕ) (id : ℕ) (changed : IndexMap ℕ Link S)
    → IsQueueInside ids count links marks limit → has ids id ≡ true
    → ((at : ℕ) → is_linked changed at ≡ is_linked links at)
    → ((at : ℕ) → next_of changed at ≡ (if at == previous_of links id then next_of links id else next_of links at))
    → ((at : ℕ) → previous_of changed at ≡ (if at == next_of links id then previous_of links id else previous_of links at))
    → IsQueueInside (without ids id) (count - 1) changed (slice_set marks id false) limit
IsQueueInside-drop ids count links marks limit id changed k there same_linked new_next new_previous =
    let set : get_or marks id false ≡ true = sym (k.marked id) ∙ there in
    let within = set-within marks id set in
    let no_zero : has ids 0 ≡ false = k.marked 0 ∙ k.nothing in
    let fewer = length-without id ids k.distinct there in
    record {
      distinct = IsQueue-without id ids k.distinct;
      marked = λ x. has-without x id ids ∙ ap (λ b. cond (x == id) false b) (k.marked x) ∙ sym (get-set marks id x false within);
      counted = let s = sum_by-set bit marks id false false within in grind (arith, k.counted, set, s, fewer);
      nothing = get-set marks id 0 false within ∙ grind (arith, nat_tests, k.nothing);
      all = length-set marks id false ∙ k.all;
      ring = IsChain-without (next_of links) (previous_of links) (next_of changed) (previous_of changed) 0 ids 0 id k.ring k.distinct no_zero no_zero there new_next new_previous;
      number = omega (arith, k.number, fewer);
      linked = λ at le. same_linked at ∙ k.linked at le;
      small = k.small;
    }

-- after 0 stands the first
pub IsQueueInside-first : {S : Type 0} (ids : List ℕ) (count : ℕ) (links : IndexMap ℕ Link S) (marks : List Bool) (limit : ℕ) → IsQueueInside ids count links marks limit → next_of links 0 ≢ 0 → ids ≡ next_of links 0 ∷ without ids (next_of links 0)
IsQueueInside-first [] count links marks limit k some = absurd (some k.ring.0)
IsQueueInside-first (x ∷ xs) count links marks limit k some = subst (λ y. x ∷ xs ≡ y ∷ without (x ∷ xs) y) (sym k.ring.0) (ap (λ ys. x ∷ ys) (sym (without-first x xs (first-once x xs k.distinct))))

-- or 0 itself, where there is none
pub IsQueueInside-none : {S : Type 0} (ids : List ℕ) (count : ℕ) (links : IndexMap ℕ Link S) (marks : List Bool) (limit : ℕ) → IsQueueInside ids count links marks limit → next_of links 0 ≡ 0 → ids ≡ []
IsQueueInside-none [] count links marks limit k none = refl
IsQueueInside-none (x ∷ xs) count links marks limit k none =
    let m = k.marked 0 in
    absurd (true≢false (sym (grind (arith, nat_tests, sym k.ring.0 ∙ none)) ∙ m ∙ k.nothing))
