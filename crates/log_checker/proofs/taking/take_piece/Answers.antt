use Rattle.std.proofs.Common.{◌≡◌, ◌-◌, ◌≤◌, ◌++◌, length, take, drop, rules, arith, ⊎_elim}
use Rattle.std.proofs.lemmas.List.{take_rest}
use Rattle.ship_stream.specs.declared.refusal.FeedRefusal.TheVariants.{Damaged}
use Rattle.standby.proofs.Results.{handed, none_from}
use Rattle.log_checker.proofs.TakingLaws.{partly_next, partly_all, partly_damaged}
use Rattle.log_checker.proofs.taking.take_piece.Goals as goal

pub take_part-requires : goal.take_part-requires
take_part-requires g c =
    let small : g.row.SLOTS ≤ 14 = ⊎_elim (λ six. omega arith) (λ fourteen. omega arith) c.requires.slots in
    let reads = c.requires.reads in
    let p = c.parts.invariant reads.0 reads.1 reads.2 in
    (search rules, (search rules, (c.requires.slots, (p.r, p.front, p.read))))

pub parts-preserved : goal.parts-preserved
parts-preserved g c =
    let rest : take (length c.parts.left.now - c.in-Some.taken) (drop c.in-Some.taken c.parts.left.now) ≡ drop c.in-Some.taken c.parts.left.now = take_rest c.parts.left.now c.in-Some.taken in
    λ r bytes i.
    partly_next (bytes ++ c.args.piece.now) c.parts.left.now _ c.parts.feed c.take_part.new.feed c.parts.gathered c.take_part.new.gathered c.in-Some.taken rest (rw c.in-Some.is at c.in_ok-taken.ensures.more)
    (c.parts.invariant r bytes i)

pub returns-in_err-taken-clause-damaged : goal.returns-in_err-taken-clause-damaged
returns-in_err-taken-clause-damaged g c =
    λ r bytes at i is.
    partly_damaged (bytes ++ c.args.piece.now) c.parts.left.now c.parts.feed c.parts.gathered at
    (λ q front j. c.in_err-taken.ensures.damaged q front at j (handed c.from_residual.result c.in_err-taken.field-0.0 (Damaged at) is c.from_residual.ensures.1)) (c.parts.invariant r bytes i)

pub returns-clause-took : goal.returns-clause-took
returns-clause-took g c =
    let none = none_from c.in_ok-taken.field-0 (λ x is. c.in_default.not-Some x is) in
    λ r bytes i.
    partly_all (bytes ++ c.args.piece.now) c.parts.left.now c.parts.feed c.take_part.new.feed c.parts.gathered c.take_part.new.gathered (rw none at c.in_ok-taken.ensures.all) (c.parts.invariant r bytes i)
