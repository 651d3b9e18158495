use Rattle.object_map.specs.Clients.{seen}
use Rattle.object_map.proofs.AskLaws.{at_most, asks_then, out, falls_after, falls_within}
use Rattle.object_map.proofs.CountLaws.{slots_are}
use Rattle.std.proofs.Common.{arith}
use Rattle.object_map.proofs.MakeLaws.{leaf_beside, low_fork, high_fork}
use Rattle.object_map.proofs.making.make_fork.Goals as goal

pub returns-clause-low : goal.returns-clause-low
returns-clause-low g c = low_fork c.args.key c.args.value c.args.bit c.args.side c.in_ok-make-3.field-0 (seen c.args.client.now) (seen c.make-2.new.self) (seen c.make-3.new.self) (seen c.fill_leaf.new.client) (seen c.fill_inner.new.client)
    (leaf_beside c.args.key c.args.value c.in_ok-make.field-0 c.in_ok-make-2.field-0 c.in_ok-make-3.field-0 (seen c.args.client.now) (seen c.make.new.self) (seen c.make-2.new.self) (seen c.make-3.new.self) (slots_are (seen c.args.client.now).slots c.know_slots.ensures.slots) c.in_ok-make.ensures.ok c.in_ok-make-2.ensures.ok c.in_ok-make-3.ensures.ok c.requires.other_named)
    c.in_ok-fill_leaf.ensures.filled c.in_ok-fill_inner.ensures.filled

pub returns-clause-high : goal.returns-clause-high
returns-clause-high g c = high_fork c.args.key c.args.value c.args.bit c.args.side c.in_ok-make-3.field-0 (seen c.args.client.now) (seen c.make-2.new.self) (seen c.make-3.new.self) (seen c.fill_leaf.new.client) (seen c.fill_inner.new.client)
    (leaf_beside c.args.key c.args.value c.in_ok-make.field-0 c.in_ok-make-2.field-0 c.in_ok-make-3.field-0 (seen c.args.client.now) (seen c.make.new.self) (seen c.make-2.new.self) (seen c.make-3.new.self) (slots_are (seen c.args.client.now).slots c.know_slots.ensures.slots) c.in_ok-make.ensures.ok c.in_ok-make-2.ensures.ok c.in_ok-make-3.ensures.ok c.requires.other_named)
    c.in_ok-fill_leaf.ensures.filled c.in_ok-fill_inner.ensures.filled

pub returns-clause-asks : goal.returns-clause-asks
returns-clause-asks g c = asks_then c.in_ok-make.ensures.asks (asks_then c.in_ok-make-2.ensures.asks (asks_then c.in_ok-make-3.ensures.asks (asks_then c.in_ok-fill_leaf.ensures.asks c.in_ok-fill_inner.ensures.asks)))

-- ---- refusals

pub returns-in_err-make-clause-refused : goal.returns-in_err-make-clause-refused
returns-in_err-make-clause-refused g c = out c.from_residual.result _ c.from_residual.ensures.1 (falls_within (at_most 1 3 (omega arith)) c.in_err-make.ensures.refused)

pub returns-in_err-make-2-clause-refused : goal.returns-in_err-make-2-clause-refused
returns-in_err-make-2-clause-refused g c = out c.from_residual-in_err-make-2.result _ c.from_residual-in_err-make-2.ensures.1 (falls_within (at_most 2 3 (omega arith)) (falls_after c.in_ok-make.ensures.asks c.in_err-make-2.ensures.refused))

pub returns-in_err-make-3-clause-refused : goal.returns-in_err-make-3-clause-refused
returns-in_err-make-3-clause-refused g c = out c.from_residual-in_err-make-3.result _ c.from_residual-in_err-make-3.ensures.1 (falls_after c.in_ok-make.ensures.asks (falls_after c.in_ok-make-2.ensures.asks c.in_err-make-3.ensures.refused))

pub returns-in_err-fill_leaf-clause-refused : goal.returns-in_err-fill_leaf-clause-refused
returns-in_err-fill_leaf-clause-refused g c = out c.from_residual-in_err-fill_leaf.result _ c.from_residual-in_err-fill_leaf.ensures.1 (falls_after c.in_ok-make.ensures.asks (falls_after c.in_ok-make-2.ensures.asks (falls_after c.in_ok-make-3.ensures.asks c.in_err-fill_leaf.ensures.refused)))

pub returns-in_err-fill_inner-clause-refused : goal.returns-in_err-fill_inner-clause-refused
returns-in_err-fill_inner-clause-refused g c = out c.from_residual-in_err-fill_inner.result _ c.from_residual-in_err-fill_inner.ensures.1 (falls_after c.in_ok-make.ensures.asks (falls_after c.in_ok-make-2.ensures.asks (falls_after c.in_ok-make-3.ensures.asks (falls_after c.in_ok-fill_leaf.ensures.asks c.in_err-fill_inner.ensures.refused))))
