use Rattle.std.proofs.Common.{◌≡◌, None, sym, subst, []}
use Rattle.logged_journal.specs.Calls.{IsOfJournal}
use Rattle.logged_journal.specs.View.{LoggedView}
use Rattle.brahma_shell.specs.Growth.{GrowsBy, BecomesFull}
use Rattle.brahma_shell.specs.Log.{TellsFull}
use Rattle.brahma_shell.proofs.StoreLemmas.{marked-full, fills-log}
use Rattle.brahma_shell.proofs.store.Store.call.Goals as goal

pub returns-clause-full : goal.returns-clause-full
returns-clause-full g c = λ e.
    let i = c.self.inside.lone in
    let k = c.call.new.self in
    let does = c.call.ensures.does (subst IsOfJournal (sym e) tt) in
    subst (λ (x : LoggedView g.row.D.Denot). BecomesFull x.journal k.journal) c.self.view_is (marked-full i.journal k.journal (does.marked e))

pub returns-clause-log_full : goal.returns-clause-log_full
returns-clause-log_full g c = λ e.
    let i = c.self.inside.lone in
    let k = c.call.new.self in
    let faults = g.D.Disk.faults in
    subst (λ (x : LoggedView g.row.D.Denot). x.failed ≡ None → GrowsBy x.journal k.journal [] × TellsFull faults x k) c.self.view_is (λ r. fills-log faults i k r (c.call.ensures.log_marked e)) c.requires.running
