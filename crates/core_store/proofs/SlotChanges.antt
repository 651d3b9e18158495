-- The object of a slot that can change, and its targets.
use Rattle.std.proofs.Common.{◌≡◌, ◌≢◌, ℕ, ◌<◌, List, true, arith, ⊎_elim}
use Rattle.std.proofs.lemmas.Bool.{cases_eq}
use Rattle.cell_model.specs.Cells.{Cell, pointer_at, is_live}
use Rattle.cell_model.proofs.EditLaws.{live-there, live-within}
use Rattle.core_store.specs.Slots.{CanChange}

module _ (slots ids : ℕ) (cells : List Cell) (id slot target : ℕ) (can : CanChange slots ids cells id slot target) where
  pub id-above : id ≢ 0
  id-above = live-there cells id can.consistent.exact.none can.live

  -- a live id is a small number
  pub live-small : (i : ℕ) → is_live cells i ≡ true → i < 65536
  live-small i l = let within = live-within cells i l in let long = can.consistent.sized in let few = can.few in omega (arith, within, long, few)

  pub or-small : (i : ℕ) → (i ≢ 0 → is_live cells i ≡ true) → i < 65536
  or-small i f = ⊎_elim (λ e. omega arith) (λ n. live-small i (f n)) (cases_eq i 0)

  pub old-live : (pointer_at cells id slot).target ≢ 0 → is_live cells (pointer_at cells id slot).target ≡ true
  old-live n = can.consistent.exact.closed id slot can.live n
