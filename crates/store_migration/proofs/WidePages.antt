-- Pages of six slots as pages of fourteen.
use Rattle.std.proofs.Common.{◌≡◌, ⊎_elim, ℕ, zero, suc, ◌+◌, ◌<◌, ◌≤◌, ◌^◌, List, [], ◌∷◌, ◌++◌, length, map, get_or, take, drop, replicate, refl, sym, ap, ◌∙◌, subst, arith, length-append}
use Rattle.std.specs.Int.{bit_at}
use Rattle.std.proofs.lemmas.Bool.{cases_lt}
use Rattle.std.proofs.lemmas.List.{length-map, get_or-map, take-map, drop-map}
use Rattle.std.proofs.lemmas.Nat.Bits.{bit_at_above}
use Rattle.cell_model.specs.Cells.{Pointer, null}
use Rattle.cell_page.specs.declared.cell.Cell.{Cell}
use Rattle.cell_page.specs.Format.{IsCell, IsTyped, free_cell, first_id}
use Rattle.cell_page.specs.Stored.{pointers_from, cell_of}
use Rattle.store_migration.specs.Wider.{wider, all_wider, wide_cell, wide_page}
use Rattle.store_migration.specs.WiderLaws.{PageLaw}
use Rattle.store_migration.proofs.WideCells.{behind_null}

-- pointers after which nothing but null values stands, where their bits are 0
behind-pointers : (bits i n : ℕ) → ((k : ℕ) → i ≤ k → bit_at bits k ≡ 0) → pointers_from bits i (replicate n 0) ≡ replicate n null
behind-pointers bits i zero none = refl
behind-pointers bits i (suc n) none =
    rw (none i (omega arith), behind-pointers bits (i + 1) n (λ k above. none k (omega (arith, above)))) refl

wider-pointers : (bits i n : ℕ) (slots : List ℕ) → ((k : ℕ) → i + length slots ≤ k → bit_at bits k ≡ 0)
    → pointers_from bits i (slots ++ replicate n 0) ≡ pointers_from bits i slots ++ replicate n null
wider-pointers bits i n [] none = behind-pointers bits i n (λ k above. none k (omega (arith, above)))
wider-pointers bits i n (t ∷ ts) none = rw (wider-pointers bits (i + 1) n ts (λ k above. none k (omega (arith, above)))) refl

-- a cell is the wider one
wide-is : (id : ℕ) (c : Cell 6) → IsCell id c → IsTyped c → cell_of (wide_cell c) ≡ wider 8 (cell_of c)
wide-is id c rules typed =
    ap (λ (ps : List Pointer). record { live = c.live; bit = c.bit; strong = c.strong; weak = c.weak; payload = c.payload; pointers = ps })
    (wider-pointers c.bits 0 8 c.slots (λ k above. bit_at_above c.bits 6 k rules.bounded (omega (arith, above, typed.slot_count))))

-- and obeys the rules
wide-free : (c : Cell 6) (id : ℕ) → c ≡ free_cell 6 id → wide_cell c ≡ free_cell 14 id
wide-free c id is = ap wide_cell is

pub wide-rules : (id : ℕ) (c : Cell 6) → IsCell id c → IsTyped c → IsCell id (wide_cell c)
wide-rules id c rules typed =
    record {
      placed = rules.placed;
      free = λ free. wide-free c id (rules.free free);
      bounded = omega (arith, rules.bounded);
      null_bit = λ slot within null.
          ⊎_elim
          (λ (own : slot < 6). rules.null_bit slot own (sym (behind_null c.slots 8 slot 0) ∙ null))
          (λ (behind : 6 ≤ slot). bit_at_above c.bits 6 slot rules.bounded behind)
          (cases_lt slot 6);
    }

pub wide-typed : (c : Cell 6) → IsTyped c → IsTyped (wide_cell c)
wide-typed c typed =
    record {
      bits = typed.bits;
      id = typed.id;
      strong = typed.strong;
      weak = typed.weak;
      payload = typed.payload;
      slot_count = length-append c.slots (replicate 8 0) ∙ ap (λ (n : ℕ). n + 8) typed.slot_count;
      targets = λ slot. subst (λ (t : ℕ). t < 2 ^ 32) (sym (behind_null c.slots 8 slot 0)) (typed.targets slot);
    }

-- each cell of a page
all-same : (held : List (Cell 6)) → ((place : ℕ) (d : Cell 6) → place < length held → cell_of (wide_cell (get_or held place d)) ≡ wider 8 (cell_of (get_or held place d)))
    → map cell_of (wide_page held) ≡ all_wider 8 (map cell_of held)
all-same [] each = refl
all-same (c ∷ cs) each = rw (each 0 c (omega arith), all-same cs (λ place d within. each (suc place) d (omega (arith, within)))) refl

pub pages_are : PageLaw
pages_are page cells held typed holds =
    let rules : (place : ℕ) (d : Cell 6) → place < length held → IsCell (first_id page + place) (get_or held place d)
    = λ place d within. holds.rules.each place d (omega (arith, within, holds.rules.eight)) in
    let at : (place : ℕ) (d : Cell 14) (e : Cell 6) → place < length held → get_or (wide_page held) place d ≡ wide_cell (get_or held place e)
    = λ place d e within. get_or-map wide_cell held place e d within in
    let some : Cell 6 = free_cell 6 0 in (
      (λ place d within.
          let there : place < length held = omega (arith, within, length-map held wide_cell) in
          subst IsTyped (sym (at place d some there)) (wide-typed (get_or held place some) (typed place some there))),
      record {
        rules = record {
          eight = length-map held wide_cell ∙ holds.rules.eight;
          each = λ place d within.
              let there : place < length held = omega (arith, within, holds.rules.eight) in
              subst (IsCell (first_id page + place)) (sym (at place d some there)) (wide-rules (first_id page + place) (get_or held place some) (rules place some there) (typed place some there));
        };
        same = all-same held (λ place d within. wide-is (first_id page + place) (get_or held place d) (rules place d within) (typed place d within))
            ∙ ap (all_wider 8) holds.same
            ∙ sym (take-map (wider 8) 8 (drop (first_id page) cells))
            ∙ ap (take 8) (sym (drop-map (wider 8) (first_id page) cells));
      },
    )
