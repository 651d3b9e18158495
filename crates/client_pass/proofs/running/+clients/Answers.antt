use Rattle.std.proofs.Common.{rules, ap, subst, sym, ◌∙◌}
use Rattle.shared_store.specs.declared.refused.Refused.{Refused}
use Rattle.client_pass.specs.Runs.{CountsRefusals}
use Rattle.client_pass.proofs.Together.{runs-none, may-begin, runs-joined, ends-collecting, ends-joined}
use Rattle.client_pass.proofs.Refusals.{counts-one, counts-together}
use Rattle.client_pass.proofs.running.+clients.Goals as goal

pub run_beside-returns-in_default-clause-runs : goal.run_beside-returns-in_default-clause-runs
run_beside-returns-in_default-clause-runs g t c = runs-none c.args.main.now.view c.collect_beside.new.main.view c.args.scripts.now c.collect_beside.result c.in_default.ensures.cases c.requires.main c.collect_beside.ensures.collects

pub run_beside-returns-in_default-clause-refused : goal.run_beside-returns-in_default-clause-refused
run_beside-returns-in_default-clause-refused g t c = counts-one c.collect_beside.result c.args.main.now.refused c.collect_beside.new.main.refused c.know_counts.ensures (λ ne. (c.collect_beside.ensures.end ne).0) c.collect_beside.ensures.refused

pub run_beside-run_first-rest-requires-after_bounds : goal.run_beside-run_first-rest-requires-after_bounds
run_beside-run_first-rest-requires-after_bounds g t c κs within =
    let views = c.share-pass.ensures.views in
    let b = may-begin c.args.main.now.view c.share-pass.new.main.view c.share-pass.result.view c.in-Some.script.now c.in-Some.others.now c.args.scripts.now c.in-Some.ensures.cases.0 views.0 views.1 c.requires.main c.requires.room c.requires.may c.requires.apart in
    (search rules, (search rules, (c.share-pass.ensures.of, (b.main, (b.room, (b.may, (b.apart, (b.client, (b.none, b.in_range)))))))))

pub run_beside-returns-clause-runs : goal.run_beside-returns-clause-runs
run_beside-returns-clause-runs g t c =
    let views = c.share-pass.ensures.views in
    runs-joined c.args.main.now.view c.share-pass.new.main.view c.share-pass.result.view c.run_first-rest.new.main.view c.run_first-rest.new.pass.view c.join.new.main.view c.in-Some.script.now c.in-Some.others.now c.args.scripts.now
    c.run_first-rest.result.1 c.run_first-rest.result.0 c.with.result c.in-Some.ensures.cases.0 views.0 views.1 c.join.ensures.view c.requires.apart c.run_first-rest.ensures.runs c.run_first-rest.ensures.does c.with.ensures.finished

pub run_beside-returns-clause-end : goal.run_beside-returns-clause-end
run_beside-returns-clause-end g t c =
    let views = c.share-pass.ensures.views in
    ends-joined g.row.D.Denot g.D.Disk.content g.D.Disk.may_leave g.D.Disk.faults g.D.Disk.moment g.D.Disk.left_since c.args.main.now.view c.share-pass.new.main.view c.share-pass.result.view c.run_first-rest.new.pass.view c.in-Some.script.now.pass
    c.run_first-rest.result.1 c.run_first-rest.result.0 c.with.result views.0 views.1 c.run_first-rest.ensures.does.keeps.fixed c.run_first-rest.ensures.ends.1 c.run_first-rest.ensures.ends.0 c.with.ensures.one

pub run_beside-returns-in_default-clause-end : goal.run_beside-returns-in_default-clause-end
run_beside-returns-in_default-clause-end g t c =
    λ ne. ends-collecting g.row.D.Denot g.D.Disk.content g.D.Disk.may_leave g.D.Disk.faults g.D.Disk.moment g.D.Disk.left_since c.args.main.now.view c.collect_beside.new.main.view c.collect_beside.result c.collect_beside.ensures.collects.keeps.fixed (c.collect_beside.ensures.end ne)

pub run_beside-returns-clause-refused : goal.run_beside-returns-clause-refused
run_beside-returns-clause-refused g t c =
    let rest = c.run_first-rest.ensures in
    counts-together c.run_first-rest.result.1 c.run_first-rest.result.0 c.with.result c.args.main.now.refused c.run_first-rest.new.main.refused c.run_first-rest.new.pass.refused c.join.new.main.refused c.share-pass.result.refused
    c.know_counts.ensures (λ ne. (rest.ends.1 ne).0) (λ ne. (rest.ends.0 ne).0) c.share-pass.ensures.refused.1 rest.refused.1 (subst (λ (r : Refused). CountsRefusals c.run_first-rest.result.0 r c.run_first-rest.new.main.refused) c.share-pass.ensures.refused.0 rest.refused.0)
    c.join.ensures.refused c.with.ensures.one c.with.ensures.worst
