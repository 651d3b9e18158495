use Rattle.std.proofs.Common.{rules}
use Rattle.core_store.specs.Views.{view_of}
use Rattle.core_store.proofs.HandlerLaws.{small-get, does-get}
use Rattle.core_store.proofs.tables.Tables.get.Goals as goal

pub cell-requires : goal.cell-requires
cell-requires g c =
    let r = c.requires.ready in
    (search rules, (search rules, (small-get (view_of c.args.self.now) c.args.held.now c.args.pass c.args.id r, (r.pages.0, (r.standing.core.cells, r.standing.agree)))))

pub returns-clause-ok : goal.returns-clause-ok
returns-clause-ok g c = does-get (view_of c.args.self.now) c.args.held.now c.args.pass c.share.new.locks c.args.id c.cell.result.now c.in_ok-share.ensures.ok c.cell.ensures.stored
