use Rattle.std.proofs.Common.{◌≡◌, ℕ, ◌+◌, ◌*◌, ◌<◌, List, length, take, drop, set, ◌∙◌, refl, arith}
use Rattle.std.specs.Int.{w32}
use Rattle.std.proofs.lemmas.List.{take_more_set, length-set}
use Rattle.cell_page.specs.Fields.{number_at, numbers_in}
use Rattle.cell_page.proofs.Numbers.{numbers_in-more, number_at-drop}
use Rattle.cell_page.proofs.decode.read_slots.Goals as goal

one_more : (slots bytes : List ℕ) (slot target : ℕ) → slot < length slots → target ≡ number_at w32 bytes (24 + 4 * slot)
    → take slot slots ≡ numbers_in slot (drop 24 bytes) → take (slot + 1) (set slots slot target) ≡ numbers_in (slot + 1) (drop 24 bytes)
one_more slots bytes slot target below is read =
    rw (take_more_set slots slot target below, read, numbers_in-more slot (drop 24 bytes), number_at-drop w32 bytes 24 (4 * slot), is) refl

pub loop-slot-preserved : goal.loop-slot-preserved
loop-slot-preserved g c = record {
  count = length-set c.loop-slot.slots c.loop-slot.slot c.u32_at.result ∙ c.loop-slot.invariant.count;
  read = one_more c.loop-slot.slots c.args.bytes.now c.loop-slot.slot c.u32_at.result (omega arith) c.u32_at.ensures c.loop-slot.invariant.read;
}
