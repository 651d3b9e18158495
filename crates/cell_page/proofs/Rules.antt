-- Where no field after the target bit breaks the rules, the cell obeys them, and where it obeys them, none does.
use Rattle.std.proofs.Common.{◌≡◌, ℕ, zero, suc, ◌+◌, ◌*◌, ◌/◌, ◌^◌, ◌<◌, Bool, true, false, not, List, [], ◌∷◌, length, replicate, None, refl, sym, ap, ◌∙◌, inl, inr, zero-add, arith}
use Rattle.std.specs.Prelude.{slice_index, ◌==◌, ◌&&◌}
use Rattle.std.specs.Int.{bit_at}
use Rattle.std.specs.List.{list_any}
use Rattle.std.proofs.lemmas.Bool.{eqb-true, eqb-false, not-false, eq-eqb, ne_eqb, or_parts, or_from, and_cases, cases_Bool, cases_eq, false≢true}
use Rattle.std.proofs.lemmas.Nat.{pow_pos, shr_split, mod_below, div_below}
use Rattle.std.proofs.lemmas.Nat.Bits.{bit_at-lt, bit_at-zero}
use Rattle.cell_page.specs.declared.cell.Cell.{Cell}
use Rattle.cell_page.specs.Format.{IsCell, free_cell}
use Rattle.cell_page.specs.Fields.{later_fields, bits_break, sets_null_bit, slot_fields, fills, first_broken}
use Rattle.cell_page.proofs.Broken.{none_first, live_obeys}

-- ---- null slots

null_bit_clear : (t bits i : ℕ) → ((t == 0) && (bit_at bits i == 1)) ≡ false → t ≡ 0 → bit_at bits i ≡ 0
null_bit_clear t bits i h is =
    let below = bit_at-lt bits i in
    elim (and_cases (t == 0) (bit_at bits i == 1) h) [
      | inl not_null ↦ absurd (eqb-false t 0 not_null is)
      | inr not_set ↦ let no : bit_at bits i ≡ 1 → ⊥ = eqb-false (bit_at bits i) 1 not_set in omega arith
    ]

pub null_bits-clear : (bits i : ℕ) (targets : List ℕ) → sets_null_bit bits i targets ≡ false
    → (slot : ℕ) → slot < length targets → slice_index targets slot ≡ 0 → bit_at bits (i + slot) ≡ 0
null_bits-clear bits i [] h slot below is = absurd (omega arith)
null_bits-clear bits i (t ∷ ts) h zero below is =
    let here : i ≡ i + 0 = omega arith in
    rw (← here) (null_bit_clear t bits i (or_parts ((t == 0) && (bit_at bits i == 1)) (sets_null_bit bits (i + 1) ts) h).0 is)
null_bits-clear bits i (t ∷ ts) h (suc slot) below is =
    let there : i + 1 + slot ≡ i + suc slot = omega arith in
    rw (← there) (null_bits-clear bits (i + 1) ts (or_parts ((t == 0) && (bit_at bits i == 1)) (sets_null_bit bits (i + 1) ts) h).1 slot (omega arith) is)

null_bit_test : (t bits i : ℕ) → (t ≡ 0 → bit_at bits i ≡ 0) → ((t == 0) && (bit_at bits i == 1)) ≡ false
null_bit_test t bits i h =
    elim (cases_eq t 0) [
      | inl null ↦ rw (h null) (let P = λ (b : Bool). (b && (0 == 1)) ≡ false in elim (t == 0) as P [ true ↦ refl | false ↦ refl ])
      | inr other ↦ rw (ne_eqb t 0 other) refl
    ]

pub null_bits-test : (bits i : ℕ) (targets : List ℕ) → ((slot : ℕ) → slot < length targets → slice_index targets slot ≡ 0 → bit_at bits (i + slot) ≡ 0)
    → sets_null_bit bits i targets ≡ false
null_bits-test bits i [] h = refl
null_bits-test bits i (t ∷ ts) h =
    let here : i + 0 ≡ i = omega arith in
    let first : t ≡ 0 → bit_at bits i ≡ 0 = λ null. rw here at (h 0 (omega arith) null) in
    let others = null_bits-test bits (i + 1) ts (λ slot below null. let there : i + 1 + slot ≡ i + suc slot = omega arith in rw there (h (suc slot) (omega arith) null)) in
    or_from ((t == 0) && (bit_at bits i == 1)) (sets_null_bit bits (i + 1) ts) (null_bit_test t bits i first) others

-- ---- zeros

zero_since : (n : ℕ) → not (n == 0) ≡ false → n ≡ 0
zero_since n h = eqb-true n 0 (not-false (n == 0) h)

pub slots_blank : (at : ℕ) (targets : List ℕ) → first_broken (slot_fields false at targets) ≡ None → targets ≡ replicate (length targets) 0
slots_blank at [] h = refl
slots_blank at (t ∷ ts) h =
    let both = none_first (not (t == 0)) at (first_broken (slot_fields false (at + 4) ts)) h in
    rw (zero_since t both.0, ← slots_blank (at + 4) ts both.1) refl

pub blank_slots : (at count : ℕ) → first_broken (slot_fields false at (replicate count 0)) ≡ None
blank_slots at zero = refl
blank_slots at (suc count) = blank_slots (at + 4) count

pub zeros_since : (bytes : List ℕ) → list_any (λ byte. not (byte == 0)) bytes ≡ false → bytes ≡ replicate (length bytes) 0
zeros_since [] h = refl
zeros_since (b ∷ bytes) h =
    let both = or_parts (not (b == 0)) (list_any (λ byte. not (byte == 0)) bytes) h in
    rw (zero_since b both.0, ← zeros_since bytes both.1) refl

pub zeros_test : (count : ℕ) → list_any (λ byte. not (byte == 0)) (replicate count 0) ≡ false
zeros_test zero = refl
zeros_test (suc count) = zeros_test count

-- ---- the rules

-- a cell by its fields
pub same_cell : {slots : ℕ} (c : Cell slots) (live bit : Bool) (bits id strong weak payload : ℕ) (targets : List ℕ)
    → live ≡ c.live → bit ≡ c.bit → bits ≡ c.bits → id ≡ c.id → strong ≡ c.strong → weak ≡ c.weak → payload ≡ c.payload → targets ≡ c.slots
    → record { live = live; bit = bit; bits = bits; id = id; strong = strong; weak = weak; payload = payload; slots = targets } ≡ c
same_cell c live bit bits id strong weak payload targets e1 e2 e3 e4 e5 e6 e7 e8 = rw (e1, e2, e3, e4, e5, e6, e7, e8) refl

free_bits : {slots : ℕ} (c : Cell slots) → bits_break c ≡ false → c.live ≡ false → c.bits ≡ 0
unfolding bits_break
free_bits c h free = zero_since c.bits (rw free at h)

live_bits : {slots : ℕ} (c : Cell slots) → bits_break c ≡ false → c.live ≡ true → (not (c.bits / 2 ^ slots == 0) ≡ false) × (sets_null_bit c.bits 0 c.slots ≡ false)
unfolding bits_break
live_bits {slots} c h live = or_parts (not (c.bits / 2 ^ slots == 0)) (sets_null_bit c.bits 0 c.slots) (rw live at h)

bits_obey : {slots : ℕ} (c : Cell slots) → c.live ≡ true → c.bits / 2 ^ slots ≡ 0 → sets_null_bit c.bits 0 c.slots ≡ false → bits_break c ≡ false
unfolding bits_break
bits_obey {slots} c live high null = rw (live, high, null) refl

high_bits : (n k : ℕ) → n / 2 ^ k ≡ 0 → n < 2 ^ k
high_bits n k h =
    let positive = pow_pos k in
    let parts = shr_split n k in
    let rest = mod_below n (2 ^ k) positive in
    let none : n / 2 ^ k * 2 ^ k ≡ 0 = rw h (omega arith) in
    omega arith

no_high_bits : (n k : ℕ) → n < 2 ^ k → n / 2 ^ k ≡ 0
no_high_bits n k h =
    let below : n / 2 ^ k < 1 = div_below n (2 ^ k) 1 (pow_pos k) (omega arith) in
    omega arith

fills_not : (live : Bool) (n : ℕ) → live ≡ false → fills live n ≡ false → n ≡ 0
fills_not false n free h = zero_since n h
fills_not true n free h = absurd cc

-- a free cell by its fields
blank_since : {slots : ℕ} (id : ℕ) (c : Cell slots) → c.live ≡ false → c.bit ≡ false → c.bits ≡ 0 → c.id ≡ id → c.strong ≡ 0 → c.weak ≡ 0 → c.payload ≡ 0
    → c.slots ≡ replicate slots 0 → c ≡ free_cell slots id
blank_since id c live bit bits placed strong weak payload targets = sym (same_cell c _ _ _ _ _ _ _ _ (sym live) (sym bit) (sym bits) (sym placed) (sym strong) (sym weak) (sym payload) (sym targets))

free_slots : {slots : ℕ} (c : Cell slots) → c.live ≡ false → length c.slots ≡ slots → first_broken (slot_fields c.live 24 c.slots) ≡ None → c.slots ≡ replicate slots 0
free_slots c free count h = slots_blank 24 c.slots (rw free at h) ∙ ap (λ (n : ℕ). replicate n 0) count

pub rules_obeyed : {slots : ℕ} (id : ℕ) (c : Cell slots) → (c.live ≡ false → c.bit ≡ false) → length c.slots ≡ slots → first_broken (later_fields id c) ≡ None → IsCell id c
rules_obeyed {slots} id c target_bit count h =
    let bits = none_first (bits_break c) 2 _ h in
    let place = none_first (not (c.id == id)) 4 _ bits.1 in
    let strong = none_first (fills c.live c.strong) 8 _ place.1 in
    let weak = none_first (fills c.live c.weak) 12 _ strong.1 in
    let payload = none_first (fills c.live c.payload) 16 _ weak.1 in
    let placed : c.id ≡ id = eqb-true c.id id (not-false (c.id == id) place.0) in
    record {
      placed = placed;
      free = λ free. blank_since id c free (target_bit free) (free_bits c bits.0 free) placed
          (fills_not c.live c.strong free strong.0) (fills_not c.live c.weak free weak.0) (fills_not c.live c.payload free payload.0) (free_slots c free count payload.1);
      bounded = elim (cases_Bool c.live) [
        | inl live ↦ high_bits c.bits slots (zero_since (c.bits / 2 ^ slots) (live_bits c bits.0 live).0)
        | inr free ↦ rw (free_bits c bits.0 free) (pow_pos slots)
      ];
      null_bit = λ slot below null. elim (cases_Bool c.live) [
        | inl live ↦ rw (zero-add slot) at (null_bits-clear c.bits 0 c.slots (live_bits c bits.0 live).1 slot (omega arith) null)
        | inr free ↦ rw (free_bits c bits.0 free) (bit_at-zero slot)
      ];
    }

blank_obeys : (slots id : ℕ) → first_broken (later_fields id (free_cell slots id)) ≡ None
unfolding bits_break
blank_obeys slots id = rw (eq-eqb id id refl) (blank_slots 24 slots)

pub obeyed_rules : {slots : ℕ} (id : ℕ) (c : Cell slots) → length c.slots ≡ slots → IsCell id c → first_broken (later_fields id c) ≡ None
obeyed_rules {slots} id c count cell =
    elim (cases_Bool c.live) [
      | inl live ↦
          let null = null_bits-test c.bits 0 c.slots (λ slot below is. rw (zero-add slot) (cell.null_bit slot (omega arith) is)) in
          sym (live_obeys id c (bits_obey c live (no_high_bits c.bits slots cell.bounded) null) cell.placed live)
      | inr free ↦ ap (λ (d : Cell slots). first_broken (later_fields id d)) (cell.free free) ∙ blank_obeys slots id
    ]

-- an object whose id, slots and pointer bits stay goes on to obey the rules, whatever its target bit, counts and payload become
pub IsCell-same_slots : {slots : ℕ} (id : ℕ) (c d : Cell slots) → IsCell id c → d.live ≡ true → d.id ≡ c.id → d.bits ≡ c.bits → d.slots ≡ c.slots → IsCell id d
IsCell-same_slots id c d cell live same_id bits targets = record {
  placed = same_id ∙ cell.placed;
  free = λ free. absurd (false≢true (sym free ∙ live));
  bounded = rw bits cell.bounded;
  null_bit = λ slot below null. rw bits (cell.null_bit slot below (rw targets at null));
}
