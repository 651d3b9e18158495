use Rattle.std.proofs.Common.{◌≡◌, true, false}
use Rattle.object_map.proofs.GrowLaws.{digits_part, part_digits}
use Rattle.object_map.proofs.LookLaws.{one_test, no_one_test}
use Rattle.object_map.proofs.walking.do_part.Goals as goal

never_true : false ≡ true → ⊥
never_true e = absurd (cc)

pub returns-then-above_low-above_high : goal.returns-then-above_low-above_high
returns-then-above_low-above_high c = ((λ e. absurd (never_true e)), (λ h. absurd (c.if-above_low-above_high.true (part_digits c.args.low c.args.high c.args.bit h).0)))

pub returns-then-low_digit-ne0 : goal.returns-then-low_digit-ne0
returns-then-low_digit-ne0 c = ((λ e. absurd (never_true e)), (λ h. absurd (c.if-low_digit-ne0.true (part_digits c.args.low c.args.high c.args.bit h).1)))

pub returns : goal.returns
returns c = ((λ e. digits_part c.args.low c.args.high c.args.bit c.if-above_low-above_high.false c.if-low_digit-ne0.false (one_test _ e)), (λ h. no_one_test _ (part_digits c.args.low c.args.high c.args.bit h).2))
