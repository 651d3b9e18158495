use Rattle.std.proofs.Common.{rules, ◌≡◌, ◌≢◌, ℕ, ◌+◌, ◌<◌, ◌≤◌, length, drop, true, false, subst, arith, Some}
use Rattle.std.specs.Prelude.{slice_index_or}
use Rattle.std.proofs.lemmas.List.{drop_more, drop_all}
use Rattle.log_checker.specs.Differences.{HaveSame, IsApart}
use Rattle.log_checker.proofs.ListLaws.{behind_next, behind_fails, behind_apart, behind_left, behind_right, behind_none}
use Rattle.log_checker.proofs.TestLaws.{fails_at, holds_at}
use Rattle.log_checker.proofs.id_lists.least_apart.Goals as goal

pub returns-then-here-there : goal.returns-then-here-there
returns-then-here-there c =
    let i = c.loop-i.i in
    let left = c.args.left.now in
    let right = c.args.right.now in
    let within : i < length left = omega (arith, c.loop-i-test.true, c.min-both.ensures) in
    let inside : i < length right = omega (arith, c.loop-i-test.true, c.min-both.ensures) in
    let apart : slice_index_or left i 0 ≢ slice_index_or right i 0 = search rules in
    behind_apart (HaveSame c.args.one.now c.args.other.now) left right (drop i left) (drop i right) (drop (i + 1) left) (drop (i + 1) right) (slice_index_or left i 0) (slice_index_or right i 0)
    c.min.result (drop_more left i 0 within) (drop_more right i 0 inside) apart (λ less. omega (arith, less, c.min.ensures)) (λ less. omega (arith, less, c.min.ensures)) c.loop-i.invariant

pub returns-then-not-have_same : goal.returns-then-not-have_same
returns-then-not-have_same c =
    let i = c.loop-i.i in
    let left = c.args.left.now in
    let right = c.args.right.now in
    let within : i < length left = omega (arith, c.loop-i-test.true, c.min-both.ensures) in
    let inside : i < length right = omega (arith, c.loop-i-test.true, c.min-both.ensures) in
    let same : slice_index_or left i 0 ≡ slice_index_or right i 0 = search rules in
    let fails : c.have_same.result ≡ false = search rules in
    behind_fails (HaveSame c.args.one.now c.args.other.now) left right (drop i left) (drop i right) (drop (i + 1) left) (drop (i + 1) right) (slice_index_or left i 0) (slice_index_or right i 0)
    (drop_more left i 0 within) (drop_more right i 0 inside) same (fails_at c.have_same.result _ c.have_same.ensures fails) c.loop-i.invariant

pub loop-i-preserved : goal.loop-i-preserved
loop-i-preserved c =
    let i = c.loop-i.i in
    let left = c.args.left.now in
    let right = c.args.right.now in
    let within : i < length left = omega (arith, c.loop-i-test.true, c.min-both.ensures) in
    let inside : i < length right = omega (arith, c.loop-i-test.true, c.min-both.ensures) in
    let same : slice_index_or left i 0 ≡ slice_index_or right i 0 = search rules in
    let holds : c.have_same.result ≡ true = search rules in
    behind_next (HaveSame c.args.one.now c.args.other.now) left right (drop i left) (drop i right) (drop (i + 1) left) (drop (i + 1) right) (slice_index_or left i 0) (slice_index_or right i 0)
    (drop_more left i 0 within) (drop_more right i 0 inside) same (holds_at c.have_same.result _ c.have_same.ensures holds) c.loop-i.invariant

pub returns-then-both-left : goal.returns-then-both-left
returns-then-both-left c =
    let i = c.loop-i.i in
    let left = c.args.left.now in
    let right = c.args.right.now in
    let end : i ≡ c.min-both.result = omega (arith, c.loop-i-test.false, c.loop-i.auto.i-end) in
    let within : i < length left = omega (arith, end, c.if-both-left.true) in
    let over : length right ≤ i = omega (arith, end, c.if-both-left.true, c.min-both.ensures) in
    subst (λ (k : ℕ). IsApart (HaveSame c.args.one.now c.args.other.now) left right (Some (slice_index_or left k 0))) end
    (behind_left (HaveSame c.args.one.now c.args.other.now) left right (drop i left) (drop i right) (drop (i + 1) left) (slice_index_or left i 0)
    (drop_more left i 0 within) (drop_all i right over) c.loop-i.invariant)

pub returns-then-both-right : goal.returns-then-both-right
returns-then-both-right c =
    let i = c.loop-i.i in
    let left = c.args.left.now in
    let right = c.args.right.now in
    let end : i ≡ c.min-both.result = omega (arith, c.loop-i-test.false, c.loop-i.auto.i-end) in
    let over : length left ≤ i = omega (arith, end, c.if-both-left.false) in
    let within : i < length right = omega (arith, end, c.if-both-right.true) in
    subst (λ (k : ℕ). IsApart (HaveSame c.args.one.now c.args.other.now) left right (Some (slice_index_or right k 0))) end
    (behind_right (HaveSame c.args.one.now c.args.other.now) left right (drop i left) (drop i right) (drop (i + 1) right) (slice_index_or right i 0)
    (drop_all i left over) (drop_more right i 0 within) c.loop-i.invariant)

pub returns : goal.returns
returns c =
    let i = c.loop-i.i in
    let left = c.args.left.now in
    let right = c.args.right.now in
    let end : i ≡ c.min-both.result = omega (arith, c.loop-i-test.false, c.loop-i.auto.i-end) in
    let over : length left ≤ i = omega (arith, end, c.if-both-left.false) in
    let past : length right ≤ i = omega (arith, end, c.if-both-right.false) in
    behind_none (HaveSame c.args.one.now c.args.other.now) left right (drop i left) (drop i right) (drop_all i left over) (drop_all i right past) c.loop-i.invariant
