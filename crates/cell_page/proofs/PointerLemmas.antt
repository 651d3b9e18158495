-- Slots beside their pointer bits: what stands there, and one of them changed.
use Rattle.std.proofs.Common.{◌≡◌, ℕ, zero, suc, ◌+◌, ◌<◌, Bool, false, List, [], ◌∷◌, length, map, get_or, set, replicate, refl, sym, ap, ◌∙◌, zero-add, arith}
use Rattle.std.specs.Prelude.{◌==◌}
use Rattle.std.specs.Int.{bit_at}
use Rattle.std.proofs.lemmas.List.{same_lists, get_or-map}
use Rattle.std.proofs.lemmas.Nat.Bits.{bit_at-zero, bit_at-lt, same_from_bits_below}
use Rattle.cell_model.specs.Cells.{Pointer, Cell as StoredCell, null, blank_cell}
use Rattle.cell_page.specs.declared.cell.Cell.{Cell}
use Rattle.cell_page.specs.Format.{IsCell, IsPage, IsTyped, AreTyped, first_id}
use Rattle.cell_page.specs.Stored.{pointers_from, cell_of}
use Rattle.cell_page.proofs.Rules.{same_cell}

pub length-pointers_from : (bits i : ℕ) (targets : List ℕ) → length (pointers_from bits i targets) ≡ length targets
length-pointers_from bits i [] = refl
length-pointers_from bits i (t ∷ ts) = rw (length-pointers_from bits (i + 1) ts) refl

-- the pointer of a slot
pub get_or-pointers_from : (bits i : ℕ) (targets : List ℕ) (slot : ℕ) (d : Pointer) → slot < length targets
    → get_or (pointers_from bits i targets) slot d ≡ record { target = get_or targets slot 0; bit = bit_at bits (i + slot) == 1 }
get_or-pointers_from bits i [] slot d below = absurd (omega arith)
get_or-pointers_from bits i (t ∷ ts) zero d below =
    let here : i + 0 ≡ i = omega arith in
    rw here refl
get_or-pointers_from bits i (t ∷ ts) (suc slot) d below =
    let there : i + 1 + slot ≡ i + suc slot = omega arith in
    rw (← there) (get_or-pointers_from bits (i + 1) ts slot d (omega arith))

-- bits that are the same from i on give the same pointers
pointers_from-same : (bits new i : ℕ) (targets : List ℕ) → ((k : ℕ) → k < length targets → bit_at new (i + k) ≡ bit_at bits (i + k)) → pointers_from new i targets ≡ pointers_from bits i targets
pointers_from-same bits new i [] same = refl
pointers_from-same bits new i (t ∷ ts) same =
    let here : i + 0 ≡ i = omega arith in
    let first : bit_at new i ≡ bit_at bits i = rw here at (same 0 (omega arith)) in
    let others = pointers_from-same bits new (i + 1) ts (λ k below. let there : i + 1 + k ≡ i + suc k = omega arith in rw there (same (suc k) (omega arith))) in
    rw (first, others) refl

-- one slot changed and its bit
pub pointers_from-set : (bits new i : ℕ) (targets : List ℕ) (slot target : ℕ) (bit : Bool) → slot < length targets → (bit_at new (i + slot) == 1) ≡ bit
    → ((k : ℕ) → k < length targets → (k ≡ slot → ⊥) → bit_at new (i + k) ≡ bit_at bits (i + k))
    → pointers_from new i (set targets slot target) ≡ set (pointers_from bits i targets) slot (record { target = target; bit = bit })
pointers_from-set bits new i [] slot target bit below here others = absurd (omega arith)
pointers_from-set bits new i (t ∷ ts) zero target bit below here others =
    let at : i + 0 ≡ i = omega arith in
    let first : (bit_at new i == 1) ≡ bit = rw at at here in
    let rest = pointers_from-same bits new (i + 1) ts (λ k low. let there : i + 1 + k ≡ i + suc k = omega arith in rw there (others (suc k) (omega arith) (λ e. omega arith))) in
    rw (first, rest) refl
pointers_from-set bits new i (t ∷ ts) (suc slot) target bit below here others =
    let at : i + 0 ≡ i = omega arith in
    let first : bit_at new i ≡ bit_at bits i = rw at at (others 0 (omega arith) (λ e. omega arith)) in
    let there : i + 1 + slot ≡ i + suc slot = omega arith in
    let rest = pointers_from-set bits new (i + 1) ts slot target bit (omega arith) (rw there here)
    (λ k low other. let next : i + 1 + k ≡ i + suc k = omega arith in rw next (others (suc k) (omega arith) (λ e. other (omega arith)))) in
    rw (first, rest) refl

-- null slots without bits
pub pointers_from-replicate : (i count : ℕ) → pointers_from 0 i (replicate count 0) ≡ replicate count null
pointers_from-replicate i zero = refl
pointers_from-replicate i (suc count) = rw (bit_at-zero i, pointers_from-replicate (i + 1) count) refl

-- ---- what the laws of a store see of a cell that obeys the rules is all that there is

targets_of : (bits i : ℕ) (targets : List ℕ) → map (λ p. p.target) (pointers_from bits i targets) ≡ targets
targets_of bits i [] = refl
targets_of bits i (t ∷ ts) = rw (targets_of bits (i + 1) ts) refl

same_bit : (a b : ℕ) → a < 2 → b < 2 → (a == 1) ≡ (b == 1) → a ≡ b
same_bit zero zero small_a small_b h = refl
same_bit zero (suc zero) small_a small_b h = absurd cc
same_bit (suc zero) zero small_a small_b h = absurd cc
same_bit (suc zero) (suc zero) small_a small_b h = refl
same_bit zero (suc (suc b)) small_a small_b h = absurd (omega arith)
same_bit (suc zero) (suc (suc b)) small_a small_b h = absurd (omega arith)
same_bit (suc (suc a)) b small_a small_b h = absurd (omega arith)

same_bits : (bits more : ℕ) (targets others : List ℕ) (slot : ℕ) → slot < length targets → slot < length others
    → pointers_from bits 0 targets ≡ pointers_from more 0 others → bit_at bits slot ≡ bit_at more slot
same_bits bits more targets others slot below below_others same =
    let first = get_or-pointers_from bits 0 targets slot null below in
    let second = get_or-pointers_from more 0 others slot null below_others in
    let pointer = sym first ∙ ap (λ (ps : List Pointer). get_or ps slot null) same ∙ second in
    let bit : (bit_at bits (0 + slot) == 1) ≡ (bit_at more (0 + slot) == 1) = ap (λ (p : Pointer). p.bit) pointer in
    same_bit (bit_at bits slot) (bit_at more slot) (bit_at-lt bits slot) (bit_at-lt more slot) (rw (zero-add slot) at bit)

pub cell_of-injective : {slots : ℕ} (id : ℕ) (c d : Cell slots) → IsCell id c → IsCell id d → IsTyped c → IsTyped d → cell_of c ≡ cell_of d → c ≡ d
cell_of-injective {slots} id c d cell other typed typed_other same =
    let pointers : pointers_from c.bits 0 c.slots ≡ pointers_from d.bits 0 d.slots = ap (λ (s : StoredCell). s.pointers) same in
    let bits : c.bits ≡ d.bits =
    same_from_bits_below slots c.bits d.bits cell.bounded other.bounded
    (λ slot below. same_bits c.bits d.bits c.slots d.slots slot (omega (arith, typed.slot_count)) (omega (arith, typed_other.slot_count)) pointers) in
    let targets : c.slots ≡ d.slots = sym (targets_of c.bits 0 c.slots) ∙ ap (λ (ps : List Pointer). map (λ p. p.target) ps) pointers ∙ targets_of d.bits 0 d.slots in
    same_cell d c.live c.bit c.bits c.id c.strong c.weak c.payload c.slots (ap (λ (s : StoredCell). s.live) same) (ap (λ (s : StoredCell). s.bit) same) bits (cell.placed ∙ sym other.placed)
    (ap (λ (s : StoredCell). s.strong) same) (ap (λ (s : StoredCell). s.weak) same) (ap (λ (s : StoredCell). s.payload) same) targets

-- and so of a page
pub cells_of-injective : {slots : ℕ} (page : ℕ) (cells others : List (Cell slots)) → IsPage page cells → IsPage page others → AreTyped cells → AreTyped others
    → map cell_of cells ≡ map cell_of others → cells ≡ others
cells_of-injective {slots} page cells others rules rules_others typed typed_others same =
    let e : StoredCell = blank_cell false 0 in
    let seen : (k : ℕ) (d : Cell slots) → k < length cells → cell_of (get_or cells k d) ≡ cell_of (get_or others k d) =
    λ k d below. let below_others : k < length others = omega (arith, rules.eight, rules_others.eight) in
    sym (get_or-map cell_of cells k d e below) ∙ ap (λ (xs : List StoredCell). get_or xs k e) same ∙ get_or-map cell_of others k d e below_others in
    same_lists cells others (rules.eight ∙ sym rules_others.eight)
    (λ k d below. let within : k < 8 = omega (arith, rules.eight) in
    cell_of-injective (first_id page + k) (get_or cells k d) (get_or others k d) (rules.each k d within) (rules_others.each k d within)
    (typed k d below) (typed_others k d (omega (arith, rules.eight, rules_others.eight))) (seen k d below))
