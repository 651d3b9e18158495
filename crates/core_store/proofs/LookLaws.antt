-- What a look at a slot of a held cell tells of the store's.
use mathlib.Core.Bool.{beq}
use Rattle.std.proofs.Common.{◌≡◌, ◌≢◌, ℕ, List, Bool, true, false, not, refl, sym, ap, ◌∙◌, ne_eqb, eq-eqb}
use Rattle.std.specs.Prelude.{◌==◌, ◌&&◌}
use Rattle.cell_model.specs.Cells.{Cell as StoredCell, cell_at, pointer_in, pointer_at, is_strong, same}
use Rattle.cell_page.specs.declared.cell.Cell.{Cell}
use Rattle.cell_page.specs.Stored.{cell_of}
use Rattle.core_store.specs.Changes.{is_counted_strong}

pub beq-same : (a b : Bool) → beq a b ≡ same a b
beq-same true true = refl
beq-same true false = refl
beq-same false true = refl
beq-same false false = refl

-- a pointer is strong where its bit is that of its target's cell
pub strong-look : {slots : ℕ} (cells : List StoredCell) (id slot target : ℕ) (own c : Cell slots) (bit : Bool) → (pointer_at cells id slot).target ≡ target → target ≢ 0
    → cell_of c ≡ cell_at cells target → cell_of own ≡ cell_at cells id → bit ≡ (pointer_in (cell_of own) slot).bit → same c.bit bit ≡ is_counted_strong cells (pointer_at cells id slot)
strong-look cells id slot target own c bit old some is own_is bit_is =
    let p = pointer_at cells id slot in
    ap (λ (b : Bool). same c.bit b) (bit_is ∙ ap (λ (s : StoredCell). (pointer_in s slot).bit) own_is)
    ∙ (ap (λ (s : StoredCell). same s.bit p.bit) (is ∙ ap (cell_at cells) (sym old))
    ∙ sym (ap (λ (b : Bool). not b && is_strong cells p) (ap (λ (n : ℕ). n == 0) old ∙ ne_eqb target 0 some)))

-- null isn't
pub null-look : (cells : List StoredCell) (id slot target : ℕ) → (pointer_at cells id slot).target ≡ target → target ≡ 0 → not (target == 0) ≡ is_counted_strong cells (pointer_at cells id slot)
null-look cells id slot target old none =
    let p = pointer_at cells id slot in
    ap (λ (b : Bool). not b) (eq-eqb target 0 none) ∙ sym (ap (λ (b : Bool). not b && is_strong cells p) (ap (λ (n : ℕ). n == 0) old ∙ eq-eqb target 0 none))
