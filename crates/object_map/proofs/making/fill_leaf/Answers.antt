use Rattle.object_map.specs.Clients.{seen}
use Rattle.object_map.proofs.AskLaws.{asks_then, out, falls_after}
use Rattle.object_map.proofs.MakeLaws.{leaf_fills}
use Rattle.object_map.proofs.making.fill_leaf.Goals as goal

pub returns-clause-filled : goal.returns-clause-filled
returns-clause-filled g c = leaf_fills c.args.key c.args.value (seen c.args.client.now) (seen c.set_pay.new.self) (seen c.set_pay-2.new.self) (seen c.store.new.self) c.in_ok-set_pay.ensures.ok c.in_ok-set_pay-2.ensures.ok c.in_ok-store.ensures.ok

pub returns-clause-asks : goal.returns-clause-asks
returns-clause-asks g c = asks_then c.in_ok-set_pay.ensures.asks (asks_then c.in_ok-set_pay-2.ensures.asks c.in_ok-store.ensures.asks)

-- ---- refusals

pub returns-in_err-set_pay-clause-refused : goal.returns-in_err-set_pay-clause-refused
returns-in_err-set_pay-clause-refused g c = out c.from_residual.result _ c.from_residual.ensures.1 c.in_err-set_pay.ensures.refused

pub returns-in_err-set_pay-2-clause-refused : goal.returns-in_err-set_pay-2-clause-refused
returns-in_err-set_pay-2-clause-refused g c = out c.from_residual-in_err-set_pay-2.result _ c.from_residual-in_err-set_pay-2.ensures.1 (falls_after c.in_ok-set_pay.ensures.asks c.in_err-set_pay-2.ensures.refused)

pub returns-in_err-store-clause-refused : goal.returns-in_err-store-clause-refused
returns-in_err-store-clause-refused g c = out c.from_residual-in_err-store.result _ c.from_residual-in_err-store.ensures.1 (falls_after c.in_ok-set_pay.ensures.asks (falls_after c.in_ok-set_pay-2.ensures.asks c.in_err-store.ensures.refused))
