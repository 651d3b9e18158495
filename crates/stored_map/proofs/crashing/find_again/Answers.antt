use Rattle.std.proofs.Common.{◌∙◌, arith}
use Rattle.stored_map.specs.Stores.{view_of}
use Rattle.stored_map.proofs.CrashLaws.{shut_again, found_again, power_fails}
use Rattle.stored_map.proofs.crashing.find_again.Goals as goal

-- ---- the power loss failed

pub returns-in-Err-clause-shut : goal.returns-in-Err-clause-shut
returns-in-Err-clause-shut g c =
    power_fails g.D.Disk.content g.D.Disk.may_leave g.D.Disk.faults (view_of g.D.Disk.faults c.args.kept.now) c.take_disk-disk.result c.lose_power.new.self c.take_disk-disk.ensures.holds c.take_disk-disk.ensures.faults c.in-Err.ensures.keeps c.in-Err.ensures.cause.failed

pub returns-in-Err-clause-later : goal.returns-in-Err-clause-later
returns-in-Err-clause-later g c =
    let e = c.take_disk-disk.ensures.faults in
    let l = c.in-Err.ensures.cause.later in
    omega (arith, e, l)

-- ---- the store was found

pub returns-in-Ok-find-clause-running : goal.returns-in-Ok-find-clause-running
returns-in-Ok-find-clause-running g c = (found_again g.D.Disk.content g.D.Disk.may_leave g.D.Disk.moment g.D.Disk.left_since g.D.Disk.faults g.D.Disk.counts_now (view_of g.D.Disk.faults c.args.kept.now) c.take_disk-disk.result c.lose_power.new.self (record { holds = c.take_disk-disk.ensures.holds; same = c.in-Ok.ensures.cause.kept ∙ c.take_disk-disk.ensures.faults; lost = c.in-Ok.ensures.leaves }) c.in-Ok-find.found c.in-Ok-find.ensures.found).running

pub returns-in-Ok-find-clause-same : goal.returns-in-Ok-find-clause-same
returns-in-Ok-find-clause-same g c = (found_again g.D.Disk.content g.D.Disk.may_leave g.D.Disk.moment g.D.Disk.left_since g.D.Disk.faults g.D.Disk.counts_now (view_of g.D.Disk.faults c.args.kept.now) c.take_disk-disk.result c.lose_power.new.self (record { holds = c.take_disk-disk.ensures.holds; same = c.in-Ok.ensures.cause.kept ∙ c.take_disk-disk.ensures.faults; lost = c.in-Ok.ensures.leaves }) c.in-Ok-find.found c.in-Ok-find.ensures.found).same

pub returns-in-Ok-find-clause-later : goal.returns-in-Ok-find-clause-later
returns-in-Ok-find-clause-later g c = (found_again g.D.Disk.content g.D.Disk.may_leave g.D.Disk.moment g.D.Disk.left_since g.D.Disk.faults g.D.Disk.counts_now (view_of g.D.Disk.faults c.args.kept.now) c.take_disk-disk.result c.lose_power.new.self (record { holds = c.take_disk-disk.ensures.holds; same = c.in-Ok.ensures.cause.kept ∙ c.take_disk-disk.ensures.faults; lost = c.in-Ok.ensures.leaves }) c.in-Ok-find.found c.in-Ok-find.ensures.found).later

pub returns-in-Ok-find-clause-kept : goal.returns-in-Ok-find-clause-kept
returns-in-Ok-find-clause-kept g c = (found_again g.D.Disk.content g.D.Disk.may_leave g.D.Disk.moment g.D.Disk.left_since g.D.Disk.faults g.D.Disk.counts_now (view_of g.D.Disk.faults c.args.kept.now) c.take_disk-disk.result c.lose_power.new.self (record { holds = c.take_disk-disk.ensures.holds; same = c.in-Ok.ensures.cause.kept ∙ c.take_disk-disk.ensures.faults; lost = c.in-Ok.ensures.leaves }) c.in-Ok-find.found c.in-Ok-find.ensures.found).kept_well

-- ---- it was not

pub returns-in-Err-find-clause-shut : goal.returns-in-Err-find-clause-shut
returns-in-Err-find-clause-shut g c = (shut_again g.D.Disk.content g.D.Disk.may_leave g.D.Disk.moment g.D.Disk.left_since g.D.Disk.faults g.D.Disk.counts_now (view_of g.D.Disk.faults c.args.kept.now) c.take_disk-disk.result c.lose_power.new.self (record { holds = c.take_disk-disk.ensures.holds; same = c.in-Ok.ensures.cause.kept ∙ c.take_disk-disk.ensures.faults; lost = c.in-Ok.ensures.leaves }) c.in-Err-find.unopened c.in-Err-find.left c.in-Err-find.ensures.none).shut

pub returns-in-Err-find-clause-later : goal.returns-in-Err-find-clause-later
returns-in-Err-find-clause-later g c = (shut_again g.D.Disk.content g.D.Disk.may_leave g.D.Disk.moment g.D.Disk.left_since g.D.Disk.faults g.D.Disk.counts_now (view_of g.D.Disk.faults c.args.kept.now) c.take_disk-disk.result c.lose_power.new.self (record { holds = c.take_disk-disk.ensures.holds; same = c.in-Ok.ensures.cause.kept ∙ c.take_disk-disk.ensures.faults; lost = c.in-Ok.ensures.leaves }) c.in-Err-find.unopened c.in-Err-find.left c.in-Err-find.ensures.none).later

pub returns-in-Err-find-clause-kept : goal.returns-in-Err-find-clause-kept
returns-in-Err-find-clause-kept g c = (shut_again g.D.Disk.content g.D.Disk.may_leave g.D.Disk.moment g.D.Disk.left_since g.D.Disk.faults g.D.Disk.counts_now (view_of g.D.Disk.faults c.args.kept.now) c.take_disk-disk.result c.lose_power.new.self (record { holds = c.take_disk-disk.ensures.holds; same = c.in-Ok.ensures.cause.kept ∙ c.take_disk-disk.ensures.faults; lost = c.in-Ok.ensures.leaves }) c.in-Err-find.unopened c.in-Err-find.left c.in-Err-find.ensures.none).kept_well
