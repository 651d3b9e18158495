use Rattle.std.proofs.Common.{ap, ◌∙◌, sym, subst}
use Rattle.logged_journal.specs.View.{LoggedView}
use Rattle.object_store.specs.Handles.{StoreView, store_at}
use Rattle.object_store.proofs.UpkeepLaws.{CheckpointTold, checkpoint_told, none_failed}
use Rattle.object_store.proofs.store.Store.checkpoint.Goals as goal

pub returns-clause-done : goal.returns-clause-done
returns-clause-done g c =
    let w = c.turn.new.below in
    let running = none_failed c.self.inside.framed.failed c.failed.result (c.failed.ensures.failed ∙ ap (λ (x : LoggedView g.row.D.Denot). x.failed) c.logged.ensures.logged) (sym c.is_some.ensures ∙ c.if-is_some.false) in
    let told = checkpoint_told {n = c.self.inside.tending} g.D.Disk.faults g.D.Disk.may_leave c.self.inside.framed c.end_open.new.below w c.self.inside.table c.turn.result c.end_open.ensures (c.end_open.ensures.quiet running) c.turn.ensures.turns c.turn.ensures.fails in
    (subst (λ (s : StoreView g.row.D.Denot). CheckpointTold g.D.Disk.faults g.D.Disk.may_leave c.turn.result s (store_at c.self.inside.tending w c.self.inside.table)) c.self.view_is told).done

pub returns-clause-failed : goal.returns-clause-failed
returns-clause-failed g c =
    let w = c.turn.new.below in
    let running = none_failed c.self.inside.framed.failed c.failed.result (c.failed.ensures.failed ∙ ap (λ (x : LoggedView g.row.D.Denot). x.failed) c.logged.ensures.logged) (sym c.is_some.ensures ∙ c.if-is_some.false) in
    let told = checkpoint_told {n = c.self.inside.tending} g.D.Disk.faults g.D.Disk.may_leave c.self.inside.framed c.end_open.new.below w c.self.inside.table c.turn.result c.end_open.ensures (c.end_open.ensures.quiet running) c.turn.ensures.turns c.turn.ensures.fails in
    (subst (λ (s : StoreView g.row.D.Denot). CheckpointTold g.D.Disk.faults g.D.Disk.may_leave c.turn.result s (store_at c.self.inside.tending w c.self.inside.table)) c.self.view_is told).failed
