-- The slots of rows, whichever objects have them.
use Rattle.std.proofs.Common.{◌≡◌, ℕ, zero, suc, ◌+◌, ◌-◌, ◌*◌, ◌/◌, ◌%◌, ◌<◌, ◌≤◌, List, [], ◌∷◌, ◌++◌, length, map, get_or, refl, sym, ap, ◌∙◌, arith, subst, ⊎_elim, append_assoc, length-append}
use Rattle.std.specs.Prelude.{Contains}
use Rattle.std.specs.List.{concat}
use Rattle.std.proofs.Math.Nat.{div-add-mod, div-lt_iff_lt-mul, mod-lt}
use Rattle.std.proofs.Math.ListN.{get_or-map}
use Rattle.std.proofs.lemmas.List.{map-append, length-map, append-nil, get_or_append_left, get_or-append-add}
use Rattle.std.proofs.lemmas.List.Elements.{Contains-append_cases, Contains-push_cases}
use Rattle.cell_page.specs.Format.{IsSlotCount}
use Rattle.store_model.proofs.Lists.{Contains-later}
use Rattle.store_model.proofs.OnceLaws.{nothing-in}
use Rattle.green_walk.specs.declared.copied_slots.CopiedSlot.{CopiedSlot}
use Rattle.green_walk.specs.Greening.{numbered}
use Rattle.green_walk.specs.Linked.{IsNextNaming, AreRowsOf, bare, slots_of, target_at}
use Rattle.green_walk.proofs.CopiedLaws.{length-numbered, numbered-within}

pub first-in : {X : Type 0} (x : X) (xs : List X) → Contains (x ∷ xs) x
first-in x xs = (0, omega arith, refl)

-- the rows after the first one
pub rows-behind : (slots : ℕ) (row : List ℕ) (rows : List (List ℕ)) → AreRowsOf slots (row ∷ rows) → AreRowsOf slots rows
rows-behind slots row rows long r m = long r (Contains-later row rows r m)

-- one row more
pub rows-more : (slots : ℕ) (row : List ℕ) (rows : List (List ℕ)) → AreRowsOf slots rows → length row ≡ slots → AreRowsOf slots (rows ++ row ∷ [])
rows-more slots row rows long e r m = ⊎_elim (λ (b : Contains rows r). long r b) (λ (s : row ≡ r). sym (ap length s) ∙ e) (Contains-push_cases rows row r m)

pub no-rows : (slots : ℕ) → AreRowsOf slots []
no-rows slots r m = nothing-in r m

-- ---- what the slots held

abbrev pub held : List CopiedSlot → List ℕ
held slots = map (λ (s : CopiedSlot). s.target) slots

pub target-held : (slots : List CopiedSlot) (k : ℕ) → target_at slots k ≡ get_or (held slots) k 0
target-held slots k = sym (get_or-map (λ (s : CopiedSlot). s.target) slots k (record { id = 0; slot = 0; target = 0 }))

pub held-numbered : (id slot : ℕ) (row : List ℕ) → held (numbered id slot row) ≡ row
held-numbered id slot [] = refl
held-numbered id slot (t ∷ ts) = ap (λ rest. t ∷ rest) (held-numbered id (slot + 1) ts)

held-more : (id : ℕ) (row held_behind : List ℕ) (slots : List CopiedSlot) → held slots ≡ held_behind → held (numbered id 0 row ++ slots) ≡ row ++ held_behind
held-more id row held_behind slots e =
    map-append (λ (s : CopiedSlot). s.target) (numbered id 0 row) slots ∙ ap (λ xs. xs ++ held slots) (held-numbered id 0 row) ∙ ap (λ xs. row ++ xs) e

pub held-bare : (rows : List (List ℕ)) → held (bare rows) ≡ concat rows
unfolding bare
held-bare [] = refl
held-bare (row ∷ rows) = held-more 0 row (concat rows) (bare rows) (held-bare rows)

pub held-slots : (ids : List ℕ) (rows : List (List ℕ)) → length rows ≡ length ids → held (slots_of ids rows) ≡ concat rows
held-slots [] [] e = refl
held-slots [] (row ∷ rows) e = absurd (omega (arith, e))
held-slots (id ∷ ids) [] e = absurd (omega (arith, e))
held-slots (id ∷ ids) (row ∷ rows) e = held-more id row (concat rows) (slots_of ids rows) (held-slots ids rows (omega (arith, e)))

-- whichever objects have them, the same slots name an object
pub same-naming : (xs ys : List CopiedSlot) (id «from» place : ℕ) → held xs ≡ held ys → IsNextNaming xs id «from» place → IsNextNaming ys id «from» place
same-naming xs ys id «from» place e n =
    let size : length xs ≡ length ys = sym (length-map xs (λ (s : CopiedSlot). s.target)) ∙ ap length e ∙ length-map ys (λ (s : CopiedSlot). s.target) in
    let same : (k : ℕ) → target_at xs k ≡ target_at ys k = λ k. target-held xs k ∙ ap (λ hs. get_or hs k 0) e ∙ sym (target-held ys k) in
    record {
      behind = λ w. n.behind (omega (arith, size, w));
      within = (let w = n.within in omega (arith, size, w));
      names = λ w. sym (same place) ∙ n.names (omega (arith, size, w));
      none = λ k f w t. n.none k f w (same k ∙ t);
    }

-- ---- how many there are, and which stands where

pub length-bare : (slots : ℕ) (rows : List (List ℕ)) → AreRowsOf slots rows → length (bare rows) ≡ slots * length rows
unfolding bare
length-bare slots [] long = omega arith
length-bare slots (row ∷ rows) long =
    let first : length (numbered 0 0 row) ≡ slots = length-numbered 0 0 row ∙ long row (first-in row rows) in
    let rest = length-bare slots rows (rows-behind slots row rows long) in
    let all = length-append (numbered 0 0 row) (bare rows) in
    let more : slots * length (row ∷ rows) ≡ slots + slots * length rows = omega arith in
    omega (arith, first, rest, all, more)

pub length-slots : (slots : ℕ) (ids : List ℕ) (rows : List (List ℕ)) → AreRowsOf slots rows → length rows ≡ length ids → length (slots_of ids rows) ≡ slots * length rows
length-slots slots ids rows long e =
    sym (length-map (slots_of ids rows) (λ (s : CopiedSlot). s.target))
    ∙ ap length (held-slots ids rows e ∙ sym (held-bare rows))
    ∙ length-map (bare rows) (λ (s : CopiedSlot). s.target)
    ∙ length-bare slots rows long

concat-at : (slots : ℕ) (rows : List (List ℕ)) (object slot : ℕ) → AreRowsOf slots rows → object < length rows → slot < slots → get_or (concat rows) (slots * object + slot) 0 ≡ get_or (get_or rows object []) slot 0
concat-at slots [] object slot long o s = absurd (omega (arith, o))
concat-at slots (row ∷ rows) zero slot long o s =
    let wide = long row (first-in row rows) in
    let same : slots * zero + slot ≡ slot = omega arith in
    ap (λ k. get_or (row ++ concat rows) k 0) same ∙ get_or_append_left row (concat rows) 0 slot (omega (arith, wide, s))
concat-at slots (row ∷ rows) (suc n) slot long o s =
    let wide = long row (first-in row rows) in
    let more : slots * suc n ≡ slots + slots * n = omega arith in
    let same : slots * suc n + slot ≡ length row + (slots * n + slot) = omega (arith, wide, more) in
    ap (λ k. get_or (row ++ concat rows) k 0) same ∙ get_or-append-add row (concat rows) (slots * n + slot) 0 ∙ concat-at slots rows n slot (rows-behind slots row rows long) (omega (arith, o)) s

-- what the slot of an object held
pub bare-at : (slots : ℕ) (rows : List (List ℕ)) (object slot : ℕ) → AreRowsOf slots rows → object < length rows → slot < slots → get_or (get_or rows object []) slot 0 ≡ target_at (bare rows) (slots * object + slot)
bare-at slots rows object slot long o s =
    sym (target-held (bare rows) (slots * object + slot) ∙ ap (λ hs. get_or hs (slots * object + slot) 0) (held-bare rows) ∙ concat-at slots rows object slot long o s)

numbered-at : (id «from» : ℕ) (row : List ℕ) (slot : ℕ) (d : CopiedSlot) → slot < length row → get_or (numbered id «from» row) slot d ≡ record { id = id; slot = «from» + slot; target = get_or row slot 0 }
numbered-at id «from» [] slot d l = absurd (omega (arith, l))
numbered-at id «from» (t ∷ ts) zero d l = let same : «from» ≡ «from» + zero = omega arith in ap (λ n. record { id = id; slot = n; target = t }) same
numbered-at id «from» (t ∷ ts) (suc n) d l =
    let same : («from» + 1) + n ≡ «from» + suc n = omega arith in
    numbered-at id («from» + 1) ts n d (omega (arith, l)) ∙ ap (λ m. record { id = id; slot = m; target = get_or ts n 0 }) same

slots-at : (slots : ℕ) (ids : List ℕ) (rows : List (List ℕ)) (object slot : ℕ) (d : CopiedSlot) → AreRowsOf slots rows → length rows ≡ length ids → object < length rows → slot < slots
    → get_or (slots_of ids rows) (slots * object + slot) d ≡ record { id = get_or ids object 0; slot = slot; target = get_or (get_or rows object []) slot 0 }
slots-at slots [] [] object slot d long e o s = absurd (omega (arith, o))
slots-at slots [] (row ∷ rows) object slot d long e o s = absurd (omega (arith, e))
slots-at slots (id ∷ ids) [] object slot d long e o s = absurd (omega (arith, e))
slots-at slots (id ∷ ids) (row ∷ rows) zero slot d long e o s =
    let wide = long row (first-in row rows) in
    let size = length-numbered id 0 row in
    let same : slots * zero + slot ≡ slot = omega arith in
    let plain : 0 + slot ≡ slot = omega arith in
    ap (λ k. get_or (numbered id 0 row ++ slots_of ids rows) k d) same
    ∙ get_or_append_left (numbered id 0 row) (slots_of ids rows) d slot (omega (arith, wide, size, s))
    ∙ numbered-at id 0 row slot d (omega (arith, wide, s))
    ∙ ap (λ n. record { id = id; slot = n; target = get_or row slot 0 }) plain
slots-at slots (id ∷ ids) (row ∷ rows) (suc n) slot d long e o s =
    let wide = long row (first-in row rows) in
    let size = length-numbered id 0 row in
    let more : slots * suc n ≡ slots + slots * n = omega arith in
    let same : slots * suc n + slot ≡ length (numbered id 0 row) + (slots * n + slot) = omega (arith, wide, size, more) in
    ap (λ k. get_or (numbered id 0 row ++ slots_of ids rows) k d) same
    ∙ get_or-append-add (numbered id 0 row) (slots_of ids rows) (slots * n + slot) d
    ∙ slots-at slots ids rows n slot d (rows-behind slots row rows long) (omega (arith, e)) (omega (arith, o)) s

-- one object more
pub slots-more : (ids : List ℕ) (rows : List (List ℕ)) (id : ℕ) (row : List ℕ) → length rows ≡ length ids → slots_of (ids ++ id ∷ []) (rows ++ row ∷ []) ≡ slots_of ids rows ++ numbered id 0 row
slots-more [] [] id row e = append-nil (numbered id 0 row)
slots-more [] (r ∷ rows) id row e = absurd (omega (arith, e))
slots-more (i ∷ ids) [] id row e = absurd (omega (arith, e))
slots-more (i ∷ ids) (r ∷ rows) id row e =
    ap (λ slots. numbered i 0 r ++ slots) (slots-more ids rows id row (omega (arith, e))) ∙ sym (append_assoc (numbered i 0 r) (slots_of ids rows) (numbered id 0 row))

pub no-slots : (ids : List ℕ) (rows : List (List ℕ)) → ids ≡ [] → rows ≡ [] → slots_of ids rows ≡ []
no-slots [] rows e n = refl
no-slots (id ∷ ids) rows e n = absurd (cc)

-- each slot is one of its object
pub slots-within : (slots : ℕ) (ids : List ℕ) (rows : List (List ℕ)) → AreRowsOf slots rows → (s : CopiedSlot) → Contains (slots_of ids rows) s → s.slot < slots
slots-within slots [] rows long s m = nothing-in s m
slots-within slots (id ∷ ids) [] long s m = nothing-in s m
slots-within slots (id ∷ ids) (row ∷ rows) long s m =
    ⊎_elim
    (λ (n : Contains (numbered id 0 row) s). let less = numbered-within id 0 row s n in let wide = long row (first-in row rows) in omega (arith, less, wide))
    (λ (n : Contains (slots_of ids rows) s). slots-within slots ids rows (rows-behind slots row rows long) s n)
    (Contains-append_cases (numbered id 0 row) (slots_of ids rows) s m)

-- ---- a place is a slot of an object

pub some-slots : (slots : ℕ) → IsSlotCount slots → 0 < slots
some-slots slots size = ⊎_elim (λ (e : slots ≡ 6). omega (arith, e)) (λ (e : slots ≡ 14). omega (arith, e)) size

pub object-within : (slots place count : ℕ) → IsSlotCount slots → place < slots * count → place / slots < count
object-within slots place count size w = let same : slots * count ≡ count * slots = omega arith in (div-lt_iff_lt-mul (some-slots slots size)).1 (omega (arith, same, w))

-- what the slot at a place held
pub target-in : (slots : ℕ) (rows : List (List ℕ)) (place : ℕ) → IsSlotCount slots → AreRowsOf slots rows → place < slots * length rows → get_or (get_or rows (place / slots) []) (place % slots) 0 ≡ target_at (bare rows) place
target-in slots rows place size long w =
    bare-at slots rows (place / slots) (place % slots) long (object-within slots place (length rows) size w) (mod-lt place (some-slots slots size))
    ∙ ap (λ k. target_at (bare rows) k) (div-add-mod place slots)

-- the slot at a place
pub slot-in : (slots : ℕ) (ids : List ℕ) (rows : List (List ℕ)) (place : ℕ) (d : CopiedSlot) → IsSlotCount slots → AreRowsOf slots rows → length rows ≡ length ids → place < slots * length rows
    → record { id = get_or ids (place / slots) 0; slot = place % slots; target = get_or (get_or rows (place / slots) []) (place % slots) 0 } ≡ get_or (slots_of ids rows) place d
slot-in slots ids rows place d size long e w =
    sym (slots-at slots ids rows (place / slots) (place % slots) d long e (object-within slots place (length rows) size w) (mod-lt place (some-slots slots size)))
    ∙ ap (λ k. get_or (slots_of ids rows) k d) (div-add-mod place slots)

-- ---- products

pub times-more : (slots n m : ℕ) → n ≤ m → slots * n ≤ slots * m
times-more slots n m l =
    let rest : m ≡ n + (m - n) = omega (arith, l) in
    let all : slots * m ≡ slots * (n + (m - n)) = ap (λ k. slots * k) rest in
    let parts : slots * (n + (m - n)) ≡ slots * n + slots * (m - n) = omega arith in
    omega (arith, all, parts)

-- a slot of an object stands before the end
pub before-end : (slots count object slot : ℕ) → object < count → slot < slots → slots * object + slot < slots * count
before-end slots count object slot o s =
    let all = times-more slots (object + 1) count (omega (arith, o)) in
    let more : slots * (object + 1) ≡ slots * object + slots = omega arith in
    omega (arith, all, more, s)
