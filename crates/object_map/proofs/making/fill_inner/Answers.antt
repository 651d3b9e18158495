use Rattle.object_map.specs.Clients.{seen}
use Rattle.object_map.proofs.AskLaws.{asks_then, out, falls_after}
use Rattle.object_map.proofs.MakeLaws.{inner_fills}
use Rattle.object_map.proofs.making.fill_inner.Goals as goal

pub returns-clause-filled : goal.returns-clause-filled
returns-clause-filled g c = inner_fills c.args.bit c.args.side (seen c.args.client.now) (seen c.set_pay.new.self) (seen c.store.new.self) (seen c.store-2.new.self) c.in_ok-set_pay.ensures.ok c.in_ok-store.ensures.ok c.in_ok-store-2.ensures.ok

pub returns-clause-asks : goal.returns-clause-asks
returns-clause-asks g c = asks_then c.in_ok-set_pay.ensures.asks (asks_then c.in_ok-store.ensures.asks c.in_ok-store-2.ensures.asks)

-- ---- refusals

pub returns-in_err-set_pay-clause-refused : goal.returns-in_err-set_pay-clause-refused
returns-in_err-set_pay-clause-refused g c = out c.from_residual.result _ c.from_residual.ensures.1 c.in_err-set_pay.ensures.refused

pub returns-in_err-store-clause-refused : goal.returns-in_err-store-clause-refused
returns-in_err-store-clause-refused g c = out c.from_residual-in_err-store.result _ c.from_residual-in_err-store.ensures.1 (falls_after c.in_ok-set_pay.ensures.asks c.in_err-store.ensures.refused)

pub returns-in_err-store-2-clause-refused : goal.returns-in_err-store-2-clause-refused
returns-in_err-store-2-clause-refused g c = out c.from_residual-in_err-store-2.result _ c.from_residual-in_err-store-2.ensures.1 (falls_after c.in_ok-set_pay.ensures.asks (falls_after c.in_ok-store.ensures.asks c.in_err-store-2.ensures.refused))
