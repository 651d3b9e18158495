use Rattle.std.proofs.Common.{◌≤◌, ◌++◌, take, sym, subst, rules, arith, ⊎_elim}
use Rattle.ship_stream.specs.Reading.{Reading}
use Rattle.ship_stream.specs.Feeding.{Feeding}
use Rattle.log_checker.specs.Checking.{IsReadInto}
use Rattle.ship_stream.specs.declared.refusal.FeedRefusal.TheVariants.{Damaged}
use Rattle.standby.proofs.Results.{same_error}
use Rattle.log_checker.proofs.TakingLaws.{awaited, one_part, all_taken, damage_found, unfit_found}
use Rattle.standby.proofs.TakingLaws.{takes_part, takes_none}
use Rattle.log_checker.proofs.taking.take_part.Goals as goal

pub take-requires : goal.take-requires
take-requires g c =
    let small : g.row.SLOTS ≤ 14 = ⊎_elim (λ six. omega arith) (λ fourteen. omega arith) c.requires.slots in
    let s = c.in-Ok-default-Some in
    let takes = takes_part c.args.feed.now c.next.new.self c.args.piece.now s.taken s.field-0-1 s.part s.field-0-1-is s.ensures.takes in
    let reads = c.requires.reads in
    (search rules, (search rules, (search rules, (c.requires.slots, awaited reads.0 reads.1 c.args.piece.now c.args.feed.now c.next.new.self c.args.gathered.now s.taken s.part takes reads.2))))

pub returns-in-Ok-clause-more : goal.returns-in-Ok-clause-more
returns-in-Ok-clause-more g c =
    let s = c.in-Ok-default-Some in
    let takes = takes_part c.args.feed.now c.next.new.self c.args.piece.now s.taken s.field-0-1 s.part s.field-0-1-is s.ensures.takes in
    let more = one_part c.args.piece.now c.args.feed.now c.next.new.self c.args.gathered.now c.take.new.self s.taken s.part takes c.in-Ok.ensures.took in
    λ r bytes i.
    subst (λ (f : Feeding). (next : Reading g.row.SLOTS) × IsReadInto next (bytes ++ take s.taken c.args.piece.now) f c.take.new.self) (sym c.reuse.ensures) (more r bytes i)

pub returns-in-Err-take-clause-damaged : goal.returns-in-Err-take-clause-damaged
returns-in-Err-take-clause-damaged g c =
    let s = c.in-Ok-default-Some in
    let takes = takes_part c.args.feed.now c.next.new.self c.args.piece.now s.taken s.field-0-1 s.part s.field-0-1-is s.ensures.takes in
    λ r bytes at i is.
    unfit_found c.args.piece.now c.args.feed.now c.next.new.self c.args.gathered.now s.taken at s.part takes
    (λ q next has adds reading. c.in-Err-take.ensures.damaged q next at has adds reading (same_error c.in-Err-take.refusal (Damaged at) is)) r bytes i

pub returns-in-Ok-default-None-clause-all : goal.returns-in-Ok-default-None-clause-all
returns-in-Ok-default-None-clause-all g c =
    let s = c.in-Ok-default-None in
    let takes = takes_none c.args.feed.now c.next.new.self c.args.piece.now s.field-0-0 s.field-0-1 s.field-0-1-is s.ensures.takes in
    all_taken c.args.piece.now c.args.feed.now c.next.new.self c.args.gathered.now s.field-0-0 takes (rw s.field-0-1-is at s.ensures.waits)

pub returns-in-Err-clause-damaged : goal.returns-in-Err-clause-damaged
returns-in-Err-clause-damaged g c =
    λ r bytes at i is.
    damage_found c.args.piece.now c.args.feed.now c.next.new.self c.args.gathered.now at (c.in-Err.ensures.damaged at (same_error c.in-Err.refusal (Damaged at) is)) r bytes i
