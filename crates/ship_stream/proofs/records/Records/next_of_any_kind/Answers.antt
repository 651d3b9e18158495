use Rattle.std.proofs.Common.{ℕ, List, subst, rules}
use Rattle.log_record.specs.declared.record.Record.{Record}
use Rattle.log_record.specs.Spelling.{BeginsWith}
use Rattle.ship_stream.proofs.RunLaws.{next_of, fewer_of, place_behind, none_left}
use Rattle.ship_stream.proofs.records.Records.next_of_any_kind.Goals as goal

pub pass-at-requires : goal.pass-at-requires
pass-at-requires g c = (search rules, (c.in-Ok.rec, subst (λ (l : List ℕ). BeginsWith {slots = g.row.SLOTS} l (c.in-Ok.rec) c.in-Ok.len) c.left.ensures.bytes c.in-Ok.ensures.ok))

pub returns-in-Ok : goal.returns-in-Ok
returns-in-Ok g c =
    let v = c.args.self.now in
    let w = c.pass-at.new.self in
    let r : Record g.row.SLOTS = c.in-Ok.rec in
    let len = c.in-Ok.len in
    let b : BeginsWith {slots = g.row.SLOTS} v.bytes r len = subst (λ (l : List ℕ). BeginsWith {slots = g.row.SLOTS} l r len) c.left.ensures.bytes c.in-Ok.ensures.ok in
    record {
      next = next_of v w r len c.pass-at.result c.left.ensures.run b c.pass-at.ensures.at c.pass-at.ensures.behind;
      spelled = b.rules;
      fewer = fewer_of v w r len b c.pass-at.ensures.behind;
      place = place_behind v w r len b c.pass-at.ensures.behind;
    }

pub returns-in-Err-clause-next : goal.returns-in-Err-clause-next
returns-in-Err-clause-next g c = λ rs are.
    none_left c.args.self.now (subst (λ (l : List ℕ). (r : Record g.row.SLOTS) (len : ℕ) → BeginsWith l r len → ⊥) c.left.ensures.bytes c.in-Err.ensures.bad) rs are
