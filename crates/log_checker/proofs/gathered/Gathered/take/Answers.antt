use Rattle.std.proofs.Common.{subst, rules, ◌≤◌, ⊎_elim, arith}
use Rattle.std.specs.Prelude.{⊤, Ok}
use Rattle.ship_stream.specs.Feeding.{Adds}
use Rattle.standby.proofs.GatherLaws.{batch_stops}
use Rattle.log_checker.proofs.GatherLaws.{number_both, page_awaited_both, page_both, batch_awaited_both, batch_both}
use Rattle.log_checker.proofs.gathered.Gathered.take.Goals as goal

pub take_batch-requires : goal.take_batch-requires
take_batch-requires g c =
    let a = c.requires.awaited in
    let small : g.row.SLOTS ≤ 14 = ⊎_elim (λ six. omega arith) (λ fourteen. omega arith) c.requires.slots in
    let b = batch_awaited_both a.r a.next c.args.self.now c.in-Batch.at c.in-Batch.records a.has (subst (λ p. Adds p a.r a.next) c.in-Batch.is a.adds) a.reading in
    (search rules, (search rules, (c.requires.slots, (b.0, b.1))))

pub returns-in-Ok-take_batch-clause-took : goal.returns-in-Ok-take_batch-clause-took
returns-in-Ok-take_batch-clause-took g c =
    λ r next has adds reading.
    batch_both {T = ⊤} {E = ⊤} (Ok tt) r next c.args.self.now c.take_batch.new.self c.in-Batch.at c.in-Batch.records has (subst (λ p. Adds p r next) c.in-Batch.is adds) c.in-Ok-take_batch.ensures.took
    c.in-Ok-take_batch.ensures.told
