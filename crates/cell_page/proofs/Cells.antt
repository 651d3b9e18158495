-- A cell, its bytes and its rules.
use Rattle.std.proofs.Common.{◌≡◌, ℕ, zero, suc, ◌+◌, ◌-◌, ◌*◌, ◌≤◌, Bool, true, false, List, [], ◌∷◌, ◌++◌, length, take, drop, replicate, None, refl, sym, ap, ◌∙◌, inl, inr, lit≤, arith}
use Rattle.std.specs.Prelude.{slice_index, ◌==◌, nat_lt}
use Rattle.std.specs.Int.{w32, to_be_bytes}
use Rattle.std.specs.List.{flat_map}
use Rattle.std.proofs.Math.Seq.{take-add}
use Rattle.std.proofs.lemmas.List.{length-drop, take-append-drop, drop_at}
use Rattle.std.proofs.lemmas.Bool.{ltb-false, eqb-false, ne_eqb}
use Rattle.std.proofs.lemmas.Nat.{from_be_bytes-to_be_bytes_2, from_be_bytes-to_be_bytes_4, from_be_bytes-to_be_bytes_8}
use Rattle.cell_page.specs.declared.cell.Cell.{Cell}
use Rattle.cell_page.specs.Format.{IsSlotCount, IsCell, IsTyped, fields_size, cell_size, flag, field_bytes, cell_bytes}
use Rattle.cell_page.specs.Fields.{number_at, numbers_in, cell_in, later_fields, rest_field, first_broken, broken_in_cell}
use Rattle.cell_page.proofs.Numbers.{IsBytes, IsBytes-drop, bytes_at_16, bytes_at_32, bytes_at_64, flat_map-numbers_in, numbers_in-flat_map, length-numbers_in, length-numbers, number_at_16-below, number_at_32-below, number_at_64-below, numbers_in-below}
use Rattle.cell_page.proofs.Broken.{none_first, none_of-append, rest_decides}
use Rattle.cell_page.proofs.Rules.{same_cell, rules_obeyed, obeyed_rules, zeros_since, zeros_test}

-- ---- reading what was written

flag_read : (b : Bool) → (flag b == 1) ≡ b
flag_read false = refl
flag_read true = refl

pub cell_in-field_bytes : {slots : ℕ} (c : Cell slots) (rest : List ℕ) → IsTyped c → cell_in slots (field_bytes c ++ rest) ≡ c
unfolding cell_in field_bytes number_at
cell_in-field_bytes {slots} c rest typed =
    let targets = ap (λ (n : ℕ). numbers_in n (flat_map (to_be_bytes w32) c.slots ++ rest)) (sym typed.slot_count) ∙ numbers_in-flat_map c.slots rest typed.targets in
    same_cell c _ _ _ _ _ _ _ _ (flag_read c.live) (flag_read c.bit)
    (from_be_bytes-to_be_bytes_2 c.bits typed.bits) (from_be_bytes-to_be_bytes_4 c.id typed.id) (from_be_bytes-to_be_bytes_4 c.strong typed.strong)
    (from_be_bytes-to_be_bytes_4 c.weak typed.weak) (from_be_bytes-to_be_bytes_8 c.payload typed.payload) targets

-- ---- writing what was read

flag_back : (n : ℕ) → n ≤ 1 → flag (n == 1) ≡ n
flag_back zero h = refl
flag_back (suc zero) h = refl
flag_back (suc (suc n)) h = absurd (omega arith)

first_two : (bytes : List ℕ) → 2 ≤ length bytes → slice_index bytes 0 ≤ 1 → slice_index bytes 1 ≤ 1
    → flag (slice_index bytes 0 == 1) ∷ flag (slice_index bytes 1 == 1) ∷ [] ≡ take 2 bytes
first_two [] room state bit = absurd (omega arith)
first_two (a ∷ []) room state bit = absurd (omega arith)
first_two (a ∷ b ∷ bytes) room state bit = rw (flag_back a state, flag_back b bit) refl

-- pieces of a list, one after another
in_a_row : (p q r s t u v x2 x4 x8 x12 x16 x24 all : List ℕ)
    → p ≡ x2 → x2 ++ q ≡ x4 → x4 ++ r ≡ x8 → x8 ++ s ≡ x12 → x12 ++ t ≡ x16 → x16 ++ u ≡ x24 → x24 ++ v ≡ all → p ++ q ++ r ++ s ++ t ++ u ++ v ≡ all
in_a_row p q r s t u v x2 x4 x8 x12 x16 x24 all h2 h4 h8 h12 h16 h24 h = cc

pub field_bytes-cell_in : (slots : ℕ) (bytes : List ℕ) → IsBytes bytes → fields_size slots ≤ length bytes → slice_index bytes 0 ≤ 1 → slice_index bytes 1 ≤ 1
    → field_bytes (cell_in slots bytes) ≡ take (fields_size slots) bytes
unfolding cell_in field_bytes
field_bytes-cell_in slots bytes fits room state bit =
    let slots-are : take 24 bytes ++ flat_map (to_be_bytes w32) (numbers_in slots (drop 24 bytes)) ≡ take (24 + 4 * slots) bytes =
    rw (flat_map-numbers_in slots (drop 24 bytes) (IsBytes-drop 24 bytes fits) (omega (arith, length-drop 24 bytes))) (sym (take-add 24 (4 * slots) bytes)) in
    in_a_row _ _ _ _ _ _ _ _ _ _ _ _ _ _
    (first_two bytes (omega arith) state bit) (bytes_at_16 bytes 2 fits (omega arith)) (bytes_at_32 bytes 4 fits (omega arith)) (bytes_at_32 bytes 8 fits (omega arith))
    (bytes_at_32 bytes 12 fits (omega arith)) (bytes_at_64 bytes 16 fits (omega arith)) slots-are

-- what stands in bytes is in the ranges of its types
pub IsTyped-cell_in : (slots : ℕ) (bytes : List ℕ) → IsBytes bytes → IsTyped (cell_in slots bytes)
unfolding cell_in
IsTyped-cell_in slots bytes fits = record {
  bits = number_at_16-below bytes 2 fits;
  id = number_at_32-below bytes 4 fits;
  strong = number_at_32-below bytes 8 fits;
  weak = number_at_32-below bytes 12 fits;
  payload = number_at_64-below bytes 16 fits;
  slot_count = length-numbers_in slots (drop 24 bytes);
  targets = λ slot. numbers_in-below slots (drop 24 bytes) slot (IsBytes-drop 24 bytes fits);
}

-- ---- the two laws of a cell

pub length-field_bytes : {slots : ℕ} (c : Cell slots) → length c.slots ≡ slots → length (field_bytes c) ≡ fields_size slots
unfolding field_bytes
length-field_bytes c count = omega (arith, length-numbers c.slots)

pub fields_within : (slots : ℕ) → IsSlotCount slots → fields_size slots ≤ cell_size slots
fields_within slots (inl six) = rw six (lit≤ tt)
fields_within slots (inr fourteen) = rw fourteen (lit≤ tt)

target_bit_read : (slots : ℕ) (bytes : List ℕ) → slice_index bytes 0 ≤ 1 → slice_index bytes 1 ≤ slice_index bytes 0
    → (cell_in slots bytes).live ≡ false → (cell_in slots bytes).bit ≡ false
unfolding cell_in
target_bit_read slots bytes state bit free =
    let not_one : slice_index bytes 0 ≡ 1 → ⊥ = eqb-false _ _ free in
    ne_eqb (slice_index bytes 1) 1 (λ one. not_one (omega arith))

slot_count_read : (slots : ℕ) (bytes : List ℕ) → length (cell_in slots bytes).slots ≡ slots
unfolding cell_in
slot_count_read slots bytes = length-numbers_in slots (drop 24 bytes)

-- bytes in which no field breaks the rules spell the cell that stands in them, which obeys them
pub cell_read : (slots id : ℕ) (bytes : List ℕ) → IsSlotCount slots → IsBytes bytes → length bytes ≡ cell_size slots → broken_in_cell slots id bytes ≡ None
    → IsCell id (cell_in slots bytes) × (bytes ≡ cell_bytes (cell_in slots bytes))
unfolding cell_bytes broken_in_cell
cell_read slots id bytes known fits size h =
    let room = fields_within slots known in
    let first = none_first (nat_lt 1 (slice_index bytes 0)) 0 _ h in
    let second = none_first (nat_lt (slice_index bytes 0) (slice_index bytes 1)) 1 _ first.1 in
    let state : slice_index bytes 0 ≤ 1 = ltb-false 1 (slice_index bytes 0) first.0 in
    let bit : slice_index bytes 1 ≤ slice_index bytes 0 = ltb-false (slice_index bytes 0) (slice_index bytes 1) second.0 in
    let parts = none_of-append (later_fields id (cell_in slots bytes)) (rest_field slots bytes ∷ []) second.1 in
    let rest = none_first (rest_field slots bytes).breaks (fields_size slots) None parts.1 in
    let zeros = zeros_since (drop (fields_size slots) bytes) rest.0 in
    let rest_size : length (drop (fields_size slots) bytes) ≡ cell_size slots - fields_size slots = length-drop (fields_size slots) bytes ∙ ap (λ (n : ℕ). n - fields_size slots) size in
    let fields = field_bytes-cell_in slots bytes fits (omega arith) state (omega arith) in
    let front = ap (λ (xs : List ℕ). xs ++ drop (fields_size slots) bytes) (sym fields) in
    let back = ap (λ (xs : List ℕ). field_bytes (cell_in slots bytes) ++ xs) (zeros ∙ ap (λ (n : ℕ). replicate n 0) rest_size) in (
      rules_obeyed id (cell_in slots bytes) (target_bit_read slots bytes state bit) (slot_count_read slots bytes) parts.0,
      sym (take-append-drop (fields_size slots) bytes) ∙ front ∙ back,
    )

flag_small : (b : Bool) → flag b ≤ 1
flag_small false = lit≤ tt
flag_small true = lit≤ tt

flags_ordered : (live bit : Bool) → (live ≡ false → bit ≡ false) → flag bit ≤ flag live
flags_ordered true bit h = flag_small bit
flags_ordered false bit h = rw (h refl) (lit≤ tt)

first_byte : {slots : ℕ} (c : Cell slots) (rest : List ℕ) → slice_index (field_bytes c ++ rest) 0 ≡ flag c.live
unfolding field_bytes
first_byte c rest = refl

second_byte : {slots : ℕ} (c : Cell slots) (rest : List ℕ) → slice_index (field_bytes c ++ rest) 1 ≡ flag c.bit
unfolding field_bytes
second_byte c rest = refl

-- in the bytes of a cell that obeys the rules no field breaks them
pub cell_again : {slots : ℕ} (id : ℕ) (c : Cell slots) → IsTyped c → IsCell id c → broken_in_cell slots id (cell_bytes c) ≡ None
unfolding cell_bytes
cell_again {slots} id c typed cell =
    let size = cell_size slots - fields_size slots in
    let zeros : List ℕ = replicate size 0 in
    let later = ap (λ (d : Cell slots). first_broken (later_fields id d)) (cell_in-field_bytes c zeros typed) ∙ obeyed_rules id c typed.slot_count cell in
    let rest = drop_at (field_bytes c) zeros (fields_size slots) (length-field_bytes c typed.slot_count) in
    let state : slice_index (cell_bytes c) 0 ≤ 1 = rw (first_byte c zeros) (flag_small c.live) in
    let target_bit : c.live ≡ false → c.bit ≡ false = λ free. ap (λ (d : Cell slots). d.bit) (cell.free free) in
    let bit : slice_index (cell_bytes c) 1 ≤ slice_index (cell_bytes c) 0 = rw (first_byte c zeros, second_byte c zeros) (flags_ordered c.live c.bit target_bit) in
    rest_decides slots id (cell_bytes c) state bit later ∙ rw (rest, zeros_test size) refl
