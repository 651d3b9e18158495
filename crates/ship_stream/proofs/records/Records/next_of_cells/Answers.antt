use Rattle.std.proofs.Common.{ℕ, List, subst, rules}
use Rattle.log_record.specs.declared.record.Record.{Record}
use Rattle.log_record.specs.declared.record.Record.TheVariants.{OfCells}
use Rattle.log_record.specs.Spelling.{BeginsWith}
use Rattle.ship_stream.proofs.RunLaws.{next_of, fewer_of, place_behind}
use Rattle.ship_stream.proofs.records.Records.next_of_cells.Goals as goal

pub pass-at-requires : goal.pass-at-requires
pass-at-requires g c = (search rules, (OfCells c.in-Ok.rec, subst (λ (l : List ℕ). BeginsWith {slots = g.row.SLOTS} l (OfCells c.in-Ok.rec) c.in-Ok.len) c.left.ensures.bytes c.in-Ok.ensures.ok))

pub returns-in-Ok : goal.returns-in-Ok
returns-in-Ok g c =
    let v = c.args.self.now in
    let w = c.pass-at.new.self in
    let r : Record g.row.SLOTS = OfCells c.in-Ok.rec in
    let len = c.in-Ok.len in
    let b : BeginsWith {slots = g.row.SLOTS} v.bytes r len = subst (λ (l : List ℕ). BeginsWith {slots = g.row.SLOTS} l r len) c.left.ensures.bytes c.in-Ok.ensures.ok in
    record {
      next = next_of v w r len c.pass-at.result c.left.ensures.run b c.pass-at.ensures.at c.pass-at.ensures.behind;
      spelled = b.rules;
      fewer = fewer_of v w r len b c.pass-at.ensures.behind;
      place = place_behind v w r len b c.pass-at.ensures.behind;
      kept = tt;
    }
