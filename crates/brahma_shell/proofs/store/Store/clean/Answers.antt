use Rattle.std.proofs.Common.{◌≡◌, None, sym, subst}
use Rattle.plain_model.specs.declared.calls.Entry.TheVariants.{Hidden}
use Rattle.logged_journal.specs.View.{LoggedView}
use Rattle.brahma_shell.specs.Growth.{GrowsByUpkeep}
use Rattle.brahma_shell.specs.Log.{StaysRunning}
use Rattle.brahma_shell.specs.Upkeep.{GivesUp, HasClean}
use Rattle.brahma_shell.proofs.UpkeepLemmas.{upkeep-done, gives-up}
use Rattle.brahma_shell.proofs.store.Store.clean.Goals as goal
use Rattle.script_lines.specs.Numbers.{object_slots}

pub returns-clause-done : goal.returns-clause-done
returns-clause-done g c = λ e.
    let i = c.self.inside.lone in
    let k = c.clean.new.self in
    let running = subst (λ (x : LoggedView g.row.D.Denot). x.failed ≡ None) (sym c.self.view_is) c.requires.running in
    let done = c.clean.ensures.does.done e in
    subst (λ (x : LoggedView g.row.D.Denot). GrowsByUpkeep x.journal k.journal Hidden × StaysRunning g.D.Disk.faults x k) c.self.view_is (upkeep-done g.D.Disk.faults i k running c.clean.ensures.does.later object_slots done.cleans.does)

pub returns-clause-clean : goal.returns-clause-clean
returns-clause-clean g c = λ e.
    let done = c.clean.ensures.does.done e in
    subst (λ (x : LoggedView g.row.D.Denot). HasClean g.D.Disk.may_leave c.args.page x c.clean.new.self) c.self.view_is (done.held, done.holds, done.images)

pub returns-clause-gives_up : goal.returns-clause-gives_up
returns-clause-gives_up g c =
    let i = c.self.inside.lone in
    let k = c.clean.new.self in
    let running = subst (λ (x : LoggedView g.row.D.Denot). x.failed ≡ None) (sym c.self.view_is) c.requires.running in
    let told = c.clean.ensures.does in
    subst (λ (x : LoggedView g.row.D.Denot). GivesUp g.D.Disk.faults x k c.clean.result) c.self.view_is (gives-up g.D.Disk.faults i k running told.later c.clean.result told.only_stopped told.marked told.log_marked told.memory told.fault)
