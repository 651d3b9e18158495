-- What is kept of the copied slots, as it is seen.
use Rattle.std.proofs.Common.{◌≡◌, ◌≢◌, ℕ, ◌+◌, ◌-◌, ◌*◌, ◌<◌, ◌≤◌, List, [], ◌++◌, length, replicate, length-append, get_or, sym, ap, ◌∙◌, subst, arith}
use Rattle.std.proofs.lemmas.List.{length-replicate}
use Rattle.cell_page.specs.Format.{IsSlotCount}
use Rattle.green_walk.specs.declared.copied_slots.CopiedSlot.{CopiedSlot}
use Rattle.green_walk.specs.Linked.{SlotList, IsNextNaming, AreRowsOf, AreLinksInside, bare, slots_of, target_at}
use Rattle.green_walk.proofs.LinkLaws.{linked-end}
use Rattle.green_walk.proofs.RowLaws.{no-rows, held-bare, held-slots, target-held, same-naming, length-bare, length-slots}

abbrev pub slot_list : List CopiedSlot → ℕ → SlotList
slot_list slots limit = record { slots = slots; limit = limit }

pub same-list : (xs ys : List CopiedSlot) (n m : ℕ) → xs ≡ ys → n ≡ m → slot_list xs n ≡ slot_list ys m
same-list xs ys n m e f = ap (λ slots. slot_list slots n) e ∙ ap (λ limit. slot_list ys limit) f

-- the links are as many as they were, or so many as are wanted
pub lengthened : (old now : List ℕ) (count : ℕ) → now ≡ old ++ replicate (count - length old) 0 → count ≤ length now
lengthened old now count e =
    let size = ap length e ∙ length-append old (replicate (count - length old) 0) in
    let added = length-replicate {A = ℕ} (count - length old) 0 in
    omega (arith, size, added)

-- nothing is kept at first
pub new-inside : (slots limit id_capacity row_capacity link_capacity : ℕ) (ids : List ℕ) (rows : List (List ℕ)) (first next : List ℕ) → IsSlotCount slots → limit < 65536 → ids ≡ [] → rows ≡ [] → length first ≡ limit + 1
    → limit ≤ id_capacity → limit ≤ row_capacity → slots * limit ≤ link_capacity → AreLinksInside slots ids rows limit id_capacity row_capacity link_capacity first next
new-inside slots limit id_capacity row_capacity link_capacity ids rows first next size small no_ids none sized id_room row_room link_room =
    let long : AreRowsOf slots rows = subst (AreRowsOf slots) (sym none) (no-rows slots) in
    let empty : length rows ≡ 0 = ap length none in
    let count = length-bare slots rows long in
    let zeroed : slots * length rows ≡ 0 = (let at_zero : slots * 0 ≡ 0 = omega arith in ap (λ n. slots * n) empty ∙ at_zero) in
    record {
      size = size;
      each = ap length none ∙ sym (ap length no_ids);
      long = long;
      linked = linked-end (bare rows) 0 limit first next (omega (arith, count, zeroed));
      firsts = sized;
      objects = (let empty_ids : length ids ≡ 0 = ap length no_ids in omega (arith, empty_ids));
      limited = small;
      few = omega (arith, zeroed);
      id_room = id_room;
      row_room = row_room;
      link_room = link_room;
    }

module _ (slots : ℕ) (ids : List ℕ) (rows : List (List ℕ)) (limit id_capacity row_capacity link_capacity : ℕ) (first next : List ℕ) (k : AreLinksInside slots ids rows limit id_capacity row_capacity link_capacity first next)
    (seen : SlotList) (v : record { slots = slots_of ids rows; limit = limit } ≡ seen) where
  pub seen-length : slots * length rows ≡ length seen.slots
  seen-length = sym (length-slots slots ids rows k.long k.each) ∙ ap (λ (l : SlotList). length l.slots) v

  pub seen-within : (place : ℕ) → place < length seen.slots → place < slots * length rows
  seen-within place w = let size = seen-length in omega (arith, w, size)

  pub seen-naming : (id «from» place : ℕ) → IsNextNaming (bare rows) id «from» place → IsNextNaming seen.slots id «from» place
  seen-naming id «from» place n = subst (λ (l : SlotList). IsNextNaming l.slots id «from» place) v (same-naming (bare rows) (slots_of ids rows) id «from» place (held-bare rows ∙ sym (held-slots ids rows k.each)) n)

  pub seen-target : (place : ℕ) → target_at (bare rows) place ≡ target_at seen.slots place
  seen-target place =
      target-held (bare rows) place
      ∙ ap (λ hs. get_or hs place 0) (held-bare rows ∙ sym (held-slots ids rows k.each))
      ∙ sym (target-held (slots_of ids rows) place)
      ∙ ap (λ (l : SlotList). target_at l.slots place) v

  -- the next one is kept
  pub seen-next : (place : ℕ) → place < length seen.slots → target_at seen.slots place ≢ 0 → target_at seen.slots place ≤ seen.limit → IsNextNaming seen.slots (target_at seen.slots place) (place + 1) (get_or next place 0)
  seen-next place w some small =
      let same = seen-target place in
      let size = length-bare slots rows k.long in
      let within : place < length (bare rows) = let b = seen-within place w in omega (arith, b, size) in
      let few : target_at (bare rows) place ≤ limit = subst (λ n. target_at (bare rows) place ≤ n) (sym (ap (λ (l : SlotList). l.limit) v)) (subst (λ t. t ≤ seen.limit) (sym same) small) in
      seen-naming (target_at seen.slots place) (place + 1) (get_or next place 0)
      (subst (λ t. IsNextNaming (bare rows) t (place + 1) (get_or next place 0)) same (k.linked.nexts place (omega arith) within (λ z. some (sym same ∙ z)) few))
