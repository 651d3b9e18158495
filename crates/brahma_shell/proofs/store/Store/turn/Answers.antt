use Rattle.std.proofs.Common.{◌≡◌, Some, None, sym, subst}
use Rattle.plain_model.specs.declared.calls.Entry.TheVariants.{Hidden, TurnBusy}
use Rattle.plain_model.specs.History.{end_of, least_active}
use Rattle.core_store.specs.Limited.{is_past_limit}
use Rattle.logged_journal.specs.View.{LoggedView}
use Rattle.brahma_shell.specs.Growth.{GrowsByUpkeep}
use Rattle.brahma_shell.specs.Log.{StaysRunning}
use Rattle.brahma_shell.specs.Upkeep.{GivesUp, HasTurned}
use Rattle.brahma_shell.proofs.UpkeepLemmas.{upkeep-done, upkeep-busy, gives-up, none-active}
use Rattle.brahma_shell.proofs.store.Store.turn.Goals as goal
use Rattle.script_lines.specs.Numbers.{object_slots}

pub returns-clause-done : goal.returns-clause-done
returns-clause-done g c = λ e.
    let i = c.self.inside.lone in
    let k = c.turn.new.self in
    let running = subst (λ (x : LoggedView g.row.D.Denot). x.failed ≡ None) (sym c.self.view_is) c.requires.running in
    let told = c.turn.ensures.does in
    let done = told.done e in
    let grows = upkeep-done g.D.Disk.faults i k running told.later object_slots done.does in
    let none = none-active c.turn.result i.failed (is_past_limit i.journal 1) (least_active (end_of i.journal.history).state) running told.full told.busy e in
    subst (λ (x : LoggedView g.row.D.Denot). (least_active (end_of x.journal.history).state ≡ None) × GrowsByUpkeep x.journal k.journal Hidden × StaysRunning g.D.Disk.faults x k) c.self.view_is (none, grows.0, grows.1)

pub returns-clause-turned : goal.returns-clause-turned
returns-clause-turned g c = λ e.
    subst (λ (x : LoggedView g.row.D.Denot). HasTurned g.D.Disk.may_leave x c.turn.new.self) c.self.view_is (c.turn.ensures.does.turned e)

pub returns-clause-busy : goal.returns-clause-busy
returns-clause-busy g c = λ pass e.
    let i = c.self.inside.lone in
    let k = c.turn.new.self in
    let running = subst (λ (x : LoggedView g.row.D.Denot). x.failed ≡ None) (sym c.self.view_is) c.requires.running in
    let told = c.turn.ensures.does in
    let grows = upkeep-busy g.D.Disk.faults i k running told.later object_slots pass (told.told pass e) in
    subst (λ (x : LoggedView g.row.D.Denot). (least_active (end_of x.journal.history).state ≡ Some pass) × GrowsByUpkeep x.journal k.journal (TurnBusy pass) × StaysRunning g.D.Disk.faults x k) c.self.view_is (told.only_busy pass e, grows.0, grows.1)

pub returns-clause-gives_up : goal.returns-clause-gives_up
returns-clause-gives_up g c =
    let i = c.self.inside.lone in
    let k = c.turn.new.self in
    let running = subst (λ (x : LoggedView g.row.D.Denot). x.failed ≡ None) (sym c.self.view_is) c.requires.running in
    let told = c.turn.ensures.does in
    subst (λ (x : LoggedView g.row.D.Denot). GivesUp g.D.Disk.faults x k c.turn.result) c.self.view_is (gives-up g.D.Disk.faults i k running told.later c.turn.result told.only_stopped told.marked told.log_marked told.memory told.fault)
