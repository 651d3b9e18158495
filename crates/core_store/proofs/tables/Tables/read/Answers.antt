use Rattle.std.proofs.Common.{ℕ, Option, sym, ap, ◌∙◌, rules}
use Rattle.core_store.specs.Transactions.{loaded}
use Rattle.core_store.specs.Tables.{changed_at}
use Rattle.core_store.specs.Views.{view_of}
use Rattle.core_store.proofs.MapLaws.{owed-loaded}
use Rattle.core_store.proofs.HandlerLaws.{small-read, does-read}
use Rattle.core_store.proofs.tables.Tables.read.Goals as goal

pub cell-requires : goal.cell-requires
cell-requires g c =
    let r = c.requires.ready in
    (search rules, (search rules, (small-read (view_of c.args.self.now) c.args.held.now c.args.pass c.args.id c.args.slot c.args.into r, (r.pages.0, (r.standing.core.cells, r.standing.agree)))))

pub invariant_of-self-2-clause-owes : goal.invariant_of-self-2-clause-owes
invariant_of-self-2-clause-owes g c =
    let u = c.requires.ready.granted.2.0 in
    let e = owed-loaded c.args.pass c.args.into c.nonzero.result u.running c.args.self.now.transactions.entries u.is in
    rw c.load.ensures (c.args.self.now.owes ∙ sym e)

pub returns-clause-ok : goal.returns-clause-ok
returns-clause-ok g c =
    let entries = c.load.ensures ∙ ap (λ (o : Option ℕ). changed_at c.args.pass (loaded c.args.into o) c.args.self.now.transactions.entries) c.nonzero.ensures in
    rw entries (does-read (view_of c.args.self.now) c.args.held.now c.args.pass c.share.new.locks c.args.id c.args.slot c.args.into c.cell.result.now c.in_ok-share.ensures.ok c.cell.ensures.stored)
