-- What a write replaced can be laid again.
use Rattle.std.proofs.Common.{◌≡◌, ℕ, List, [], ◌∷◌, true, sym, ap, ◌∙◌, ◌-◌, length, get_or, arith}
use Rattle.std.specs.Prelude.{Contains}
use Rattle.plain_model.specs.declared.write.Place.{Place}
use Rattle.plain_model.specs.declared.write.Place.TheVariants.{Slot, Payload, Whole}
use Rattle.plain_model.specs.declared.write.Write.{Write}
use Rattle.cell_model.specs.Cells.{Cell, is_live}
use Rattle.std.proofs.lemmas.List.{length-take-le, get_or-take}
use Rattle.core_store.specs.Transactions.{without_last}
use Rattle.core_store.specs.Stands.{CanLay}

-- what can be laid stays so where no cell is freed
pub CanLay-later : (slots : ℕ) (cells later : List Cell) → ((x : ℕ) → is_live cells x ≡ true → is_live later x ≡ true) → (w : Write) → CanLay slots cells w → CanLay slots later w
CanLay-later slots cells later alive w k = by w.id w.place w.value k
  where
    by : (id : ℕ) (place : Place) (value : ℕ) → CanLay slots cells (record { id = id; place = place; value = value }) → CanLay slots later (record { id = id; place = place; value = value })
    by id (Slot slot) value k = (alive id k.0, (k.1.0, λ d. alive value (k.1.1 d)))
    by id Payload value k = (alive id k.0, tt)
    by id Whole value k = absurd k.1

-- what all but the last have is among all
pub Contains-without_last : (ws : List Write) (w : Write) → Contains (without_last ws) w → Contains ws w
Contains-without_last ws w k =
    let n = length ws - 1 in
    let len = length-take-le n ws (omega arith) in
    let lt = k.1 in
    (k.0, omega (arith, lt, len), sym (get_or-take n ws k.0 w (omega (arith, lt, len))) ∙ k.2)

-- a list of one item has no other
pub only_item : (x w : Write) → Contains (x ∷ []) w → x ≡ w
only_item x w k =
    let lt = k.1 in
    let z : k.0 ≡ 0 = omega (arith, lt) in
    ap (λ i. get_or (x ∷ []) i w) (sym z) ∙ k.2
