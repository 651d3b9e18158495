use Rattle.std.proofs.Common.{◌≡◌, ℕ, ◌+◌, ◌*◌, ◌^◌, ◌≤◌, take, get_or, length, arith, ap, sym, ◌∙◌}
use Rattle.std.proofs.lemmas.Bool.Decides.{nat_tests}
use Rattle.std.specs.Str.Parse.{digits_value}
use Rattle.std.specs.Char.{digit_value}
use Rattle.std.proofs.lemmas.List.{take_all}
use Rattle.std.proofs.lemmas.Int.Digits.{digits_value_more}
use Rattle.script_lines.proofs.NumberLemmas.{all_ascii_digits-more, all_ascii_digits-not, number_within-Some, number_within-not_digits, number_within-large}
use Rattle.script_lines.proofs.numbers.payload_of.Goals as goal

pub returns-then-not-is_ascii_digit : goal.returns-then-not-is_ascii_digit
returns-then-not-is_ascii_digit c =
    let digits = all_ascii_digits-not c.args.field.now c.loop-digit.digit-index c.loop-digit-test.true (sym c.if-not-is_ascii_digit.ensures.value) in
    sym (number_within-not_digits 0 (2 ^ 64) c.args.field.now digits)

pub returns-in_err-number : goal.returns-in_err-number
returns-in_err-number c =
    let field = c.args.field.now in
    let i = c.loop-digit.digit-index in
    let value : digits_value 10 (take (i + 1) field) ≡ c.loop-digit.number * 10 + digit_value (get_or field i 0) = digits_value_more 10 field i c.loop-digit-test.true ∙ ap (λ (n : ℕ). n * 10 + digit_value (get_or field i 0)) (sym c.loop-digit.invariant.value) in
    c.from_residual.ensures ∙ sym (number_within-large 0 (2 ^ 64) field (i + 1) (rw value (omega (arith, c.in_err-number.ensures))))

pub loop-digit-preserved : goal.loop-digit-preserved
loop-digit-preserved c =
    let field = c.args.field.now in
    let i = c.loop-digit.digit-index in
    record {
      digits = all_ascii_digits-more field i c.loop-digit-test.true c.loop-digit.invariant.digits (sym c.if-not-is_ascii_digit.ensures.value);
      small = rw c.in_ok-number.ensures.1 c.in_ok-number.ensures.0;
      value = c.in_ok-number.ensures.1 ∙ ap (λ (n : ℕ). n * 10 + digit_value (get_or field i 0)) c.loop-digit.invariant.value ∙ sym (digits_value_more 10 field i c.loop-digit-test.true);
    }

pub returns : goal.returns
returns c =
    let field = c.args.field.now in
    let i = c.loop-digit.digit-index in
    let all = take_all i field c.loop-digit-test.false in
    let some : 1 ≤ length field = grind (arith, nat_tests, c.if-is_empty.ensures) in
    sym (number_within-Some 0 (2 ^ 64) field c.loop-digit.number some c.if-field-gt-MAX_DIGITS.false (rw all at c.loop-digit.invariant.digits) (rw all at c.loop-digit.invariant.value) (omega arith) c.loop-digit.invariant.small)
