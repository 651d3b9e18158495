use Rattle.std.proofs.Common.{◌≡◌, ℕ, ◌+◌, ◌/◌, ◌%◌, ◌^◌, ◌<◌, ◌≤◌, bit_and, refl, ap, sym, ◌∙◌, inl, inr, arith}
use Rattle.std.specs.Int.{w16, bit_at}
use Rattle.std.proofs.lemmas.Bool.{cases_lt}
use Rattle.std.proofs.lemmas.Nat.{or_lt, and_le_l, one_shl, pow_below, shr-shr}
use Rattle.std.proofs.lemmas.Nat.Bits.{bit_at_set_same, bit_at_set_other, bit_at_clear_same, bit_at_clear_other, bit_at_above, same_from_bits}
use Rattle.cell_page.proofs.cell.with_bit.Goals as goal

-- numbers with the same bits from a place on are the same from there on
same_above : (a b width : ℕ) → ((k : ℕ) → width ≤ k → bit_at a k ≡ bit_at b k) → a / 2 ^ width ≡ b / 2 ^ width
same_above a b width same = same_from_bits (a / 2 ^ width) (b / 2 ^ width) (λ i.
    ap (λ (n : ℕ). n % 2) (shr-shr a width i) ∙ (same (width + i) (omega arith) ∙ ap (λ (n : ℕ). n % 2) (sym (shr-shr b width i))))

and_small : (n m : ℕ) → n < 2 ^ 16 → bit_and n m < 2 ^ 16
and_small n m small = let least = and_le_l n m in omega (arith, least, small)

pub returns-then-bit-clause-here : goal.returns-then-bit-clause-here
returns-then-bit-clause-here c = rw (bit_at_set_same w16 c.args.bits c.args.place c.requires, c.if-bit.true) refl

pub returns-then-bit-clause-others : goal.returns-then-bit-clause-others
returns-then-bit-clause-others c = λ k below other. bit_at_set_other w16 c.args.bits c.args.place c.requires k other

pub returns-then-bit-clause-above : goal.returns-then-bit-clause-above
returns-then-bit-clause-above c = λ width within.
    same_above _ c.args.bits width (λ k above. bit_at_set_other w16 c.args.bits c.args.place c.requires k (λ is. absurd (omega arith)))

pub returns-then-bit-clause-bounded : goal.returns-then-bit-clause-bounded
returns-then-bit-clause-bounded c = λ width within fits.
    or_lt width c.args.bits _ fits (rw (one_shl c.args.place 16 c.requires) (pow_below c.args.place width within))

pub returns-else-bit-clause-here : goal.returns-else-bit-clause-here
returns-else-bit-clause-here c = rw (bit_at_clear_same w16 c.args.bits c.args.place c.requires, c.if-bit.false) refl

pub returns-else-bit-clause-others : goal.returns-else-bit-clause-others
returns-else-bit-clause-others c = λ k below other. bit_at_clear_other w16 c.args.bits c.args.place c.requires k below other

pub returns-else-bit-clause-above : goal.returns-else-bit-clause-above
returns-else-bit-clause-above c = λ width within.
    same_above _ c.args.bits width (λ k above. elim (cases_lt k 16) [
      | inl below ↦ bit_at_clear_other w16 c.args.bits c.args.place c.requires k below (λ is. absurd (omega arith))
      | inr high ↦ bit_at_above _ 16 k (and_small c.args.bits _ c.ranges.bits.fits) high ∙ sym (bit_at_above c.args.bits 16 k c.ranges.bits.fits high)
    ])
