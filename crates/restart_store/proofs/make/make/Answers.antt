use Rattle.std.proofs.Common.{length, refl}
use Rattle.disk_model.specs.declared.area.Area.TheVariants.{LogA, Super}
use Rattle.disk_model.specs.Areas.{in_area}
use Rattle.disk_model.proofs.Moments.{weaken, and_then}
use Rattle.gate_log.proofs.Starts.{fresh_on}
use Rattle.restart_store.specs.Fresh.{IsMakingOf, no_store, first_body_of, pages_of, store_of}
use Rattle.restart_store.proofs.Made.{made_leaves, store_made}
use Rattle.restart_store.proofs.Making.{while_cut, while_named}
use Rattle.restart_store.proofs.make.make.Goals as goal

pub name_first-requires-clause-empty : goal.name_first-requires-clause-empty
name_first-requires-clause-empty g c lives within = λ bytes may. made_leaves c.in_ok-clear.ensures.made bytes (c.make_areas.ensures.keeps.no_more bytes may)

pub returns-in_err-clear-clause-moments : goal.returns-in_err-clear-clause-moments
returns-in_err-clear-clause-moments g c =
    weaken (IsMakingOf g.D.Disk.may_leave c.args.disk.now (store_of (pages_of c.args.pages))) (while_cut g.D.Disk.may_leave c.args.disk.now (store_of (pages_of c.args.pages))) c.clear.ensures.moments

pub returns-in_err-make_areas-clause-moments : goal.returns-in_err-make_areas-clause-moments
returns-in_err-make_areas-clause-moments g c =
    and_then (IsMakingOf g.D.Disk.may_leave c.args.disk.now (store_of (pages_of c.args.pages))) (while_cut g.D.Disk.may_leave c.args.disk.now (store_of (pages_of c.args.pages)))
    (λ image is. no_store (made_leaves c.in_ok-clear.ensures.made (in_area image Super) is)) c.clear.ensures.moments c.make_areas.ensures.moments

pub returns-in_err-name_first-clause-moments : goal.returns-in_err-name_first-clause-moments
returns-in_err-name_first-clause-moments g c =
    let empty = and_then (IsMakingOf g.D.Disk.may_leave c.args.disk.now (store_of (pages_of c.args.pages))) (while_cut g.D.Disk.may_leave c.args.disk.now (store_of (pages_of c.args.pages)))
    (λ image is. no_store (made_leaves c.in_ok-clear.ensures.made (in_area image Super) is)) c.clear.ensures.moments c.make_areas.ensures.moments in
    and_then (IsMakingOf g.D.Disk.may_leave c.args.disk.now (store_of (pages_of c.args.pages))) (λ image is. is)
    (while_named g.D.Disk.may_leave c.args.disk.now c.make_areas.new.disk (store_of (pages_of c.args.pages)) (λ byte. refl) (λ area apart. made_leaves (c.in_ok-make_areas.ensures.made area apart)))
    empty c.name_first.ensures.moments

pub returns-clause-moments : goal.returns-clause-moments
returns-clause-moments g c =
    let empty = and_then (IsMakingOf g.D.Disk.may_leave c.args.disk.now (store_of (pages_of c.args.pages))) (while_cut g.D.Disk.may_leave c.args.disk.now (store_of (pages_of c.args.pages)))
    (λ image is. no_store (made_leaves c.in_ok-clear.ensures.made (in_area image Super) is)) c.clear.ensures.moments c.make_areas.ensures.moments in
    and_then (IsMakingOf g.D.Disk.may_leave c.args.disk.now (store_of (pages_of c.args.pages))) (λ image is. is)
    (while_named g.D.Disk.may_leave c.args.disk.now c.make_areas.new.disk (store_of (pages_of c.args.pages)) (λ byte. refl) (λ area apart. made_leaves (c.in_ok-make_areas.ensures.made area apart)))
    empty c.name_first.ensures.moments

pub returns-clause-made : goal.returns-clause-made
returns-clause-made g c =
    store_made (pages_of c.args.pages) c.in_ok-clear.ensures.made c.clear.ensures.keeps c.in_ok-make_areas.ensures.made c.make_areas.ensures.keeps
    c.in_ok-name_first.ensures.made c.name_first.ensures.keeps

pub returns-clause-log : goal.returns-clause-log
returns-clause-log g c =
    let made = store_made (pages_of c.args.pages) c.in_ok-clear.ensures.made c.clear.ensures.keeps c.in_ok-make_areas.ensures.made c.make_areas.ensures.keeps
    c.in_ok-name_first.ensures.made c.name_first.ensures.keeps in
    fresh_on g.D.Disk.content g.D.Disk.may_leave c.name_first.new.disk (first_body_of g.row.SLOTS (length (pages_of c.args.pages))) refl (made_leaves (made Super)) (made_leaves (made LogA))
