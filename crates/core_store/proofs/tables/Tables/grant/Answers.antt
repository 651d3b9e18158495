use Rattle.std.proofs.Common.{List}
use Rattle.core_store.specs.declared.plan.Plan.TheVariants as plan
use Rattle.core_store.specs.declared.three.HeldFrame.{HeldFrame}
use Rattle.core_store.specs.declared.handlers.Performed.{Performed}
use Rattle.core_store.specs.Ready.{Does}
use Rattle.core_store.specs.Views.{view_of}
use Rattle.core_store.proofs.ReplyLaws.{if_ok}
use Rattle.core_store.proofs.tables.Tables.grant.Goals as goal

pub returns-in-Begin-clause-ok : goal.returns-in-Begin-clause-ok
returns-in-Begin-clause-ok g c =
    rw c.in-Begin.is
    (if_ok c.begin.result (λ (o : Performed). (held : List (HeldFrame g.row.SLOTS)) → Does (view_of c.args.self.now) (view_of c.begin.new.self) held held c.args.pass plan.Begin o)
    (λ (o : Performed). Does (view_of c.args.self.now) (view_of c.begin.new.self) c.args.held.now c.args.held.now c.args.pass plan.Begin o) (λ o k. k c.args.held.now) c.begin.ensures.ok)

pub returns-in-Commit-clause-ok : goal.returns-in-Commit-clause-ok
returns-in-Commit-clause-ok g c = rw c.in-Commit.is (c.commit.ensures.does c.args.held.now)

pub returns-in-Release-clause-ok : goal.returns-in-Release-clause-ok
returns-in-Release-clause-ok g c =
    rw c.in-Release.is
    (if_ok c.release.result (λ (o : Performed). (held : List (HeldFrame g.row.SLOTS)) → Does (view_of c.args.self.now) (view_of c.release.new.self) held held c.args.pass (plan.Release c.in-Release.id) o)
    (λ (o : Performed). Does (view_of c.args.self.now) (view_of c.release.new.self) c.args.held.now c.args.held.now c.args.pass (plan.Release c.in-Release.id) o) (λ o k. k c.args.held.now) c.release.ensures.ok)
