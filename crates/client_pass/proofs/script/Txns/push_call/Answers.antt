use Rattle.std.proofs.Common.{List, length, ap}
use Rattle.std.proofs.lemmas.Result.{on_ok_weaker}
use Rattle.plain_model.specs.declared.calls.Call.{Call}
use Rattle.client_pass.proofs.Lasts.{adds-at_end}
use Rattle.client_pass.proofs.script.Txns.push_call.Goals as goal

-- src/script.rt:95:5
pub returns-clause-ok : goal.returns-clause-ok
returns-clause-ok c =
    on_ok_weaker c.push.result (λ more. adds-at_end c.args.self.now c.self.inside.items.items (length c.as_slice.result.now) c.args.call c.index_mut.result.now c.push.new.self c.self.view_is (ap (length {A = List Call}) c.as_slice.ensures.value) c.index_mut.ensures.value more) c.push.ensures.ok
