use Rattle.std.proofs.Common.{◌∙◌}
use Rattle.client_pass.proofs.Together.{runs-behind, ends-collecting}
use Rattle.client_pass.proofs.running.run_all.Goals as goal

pub returns-in-Finished-clause-runs : goal.returns-in-Finished-clause-runs
returns-in-Finished-clause-runs g c = runs-behind c.args.main.now.view c.run_beside.new.main.view c.collect_rest.new.main.view c.args.scripts.now c.run_beside.result c.collect_rest.result (λ _. c.in-Finished.is) c.run_beside.ensures.runs c.collect_rest.ensures.collects

pub returns-in-Finished-clause-end : goal.returns-in-Finished-clause-end
returns-in-Finished-clause-end g c =
    λ unfinished. ends-collecting g.row.D.Denot g.D.Disk.content g.D.Disk.may_leave g.D.Disk.faults g.D.Disk.moment g.D.Disk.left_since c.args.main.now.view c.collect_rest.new.main.view c.collect_rest.result (c.collect_rest.ensures.collects.keeps.fixed ∙ c.run_beside.ensures.runs.fixed) (c.collect_rest.ensures.end unfinished)
