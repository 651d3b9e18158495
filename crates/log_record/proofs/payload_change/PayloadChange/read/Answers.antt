use Rattle.std.proofs.Common.{arith}
use Rattle.std.proofs.lemmas.Bool.{iff_false}
use Rattle.log_record.proofs.ChangeLaws.{begins_change, change_long, change_kind, change_rules}
use Rattle.log_record.proofs.payload_change.PayloadChange.read.Goals as goal

pub returns-then-bytes-lt-PAY_LEN-clause-none : goal.returns-then-bytes-lt-PAY_LEN-clause-none
returns-then-bytes-lt-PAY_LEN-clause-none c = λ slots change len begins.
    let long = change_long slots c.args.bytes.now change.pass change.id change.old_value change.new_value len begins in
    let few = c.if-bytes-lt-PAY_LEN.true in
    absurd (omega (arith, long, few))

pub returns-then-bytes-ne-PAY-clause-none : goal.returns-then-bytes-ne-PAY-clause-none
returns-then-bytes-ne-PAY-clause-none c = λ slots change len begins.
    let is = change_kind slots c.args.bytes.now change.pass change.id change.old_value change.new_value len begins in
    let other = c.if-bytes-ne-PAY.true in
    absurd (omega (arith, is, other))

pub returns-then-not-is_pass-clause-none : goal.returns-then-not-is_pass-clause-none
returns-then-not-is_pass-clause-none c = λ slots change len begins.
    iff_false c.is_pass.ensures c.if-not-is_pass.true (change_rules slots c.args.bytes.now change.pass change.id change.old_value change.new_value len begins).0

pub returns-then-change-eq0-clause-none : goal.returns-then-change-eq0-clause-none
returns-then-change-eq0-clause-none c = λ slots change len begins.
    let some = (change_rules slots c.args.bytes.now change.pass change.id change.old_value change.new_value len begins).1 in
    let none = c.if-change-eq0.true in
    let is = c.u32_at.ensures in
    absurd (omega (arith, some, none, is))

pub returns-clause-some : goal.returns-clause-some
returns-clause-some c = λ slots.
    let bytes = c.args.bytes.now in
    let long = c.if-bytes-lt-PAY_LEN.false in
    let is = c.if-bytes-ne-PAY.false in
    let some = c.if-change-eq0.false in
    let id = c.u32_at.ensures in
    rw (id, c.u64_at.ensures, c.u64_at-2.ensures)
    (begins_change slots bytes (λ i. omega (arith, c.type_inv.bytes i)) (omega (arith, long)) (omega (arith, is)) (c.is_pass.ensures.0 c.if-not-is_pass.false, omega (arith, some, id)))
