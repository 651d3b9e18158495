use Rattle.std.proofs.Common.{◌≡◌, ℕ, Bool, None, false, ◌<◌, [], refl, sym, ap, subst, ◌∙◌}
use Rattle.std.specs.Prelude.{IfOk}
use Rattle.plain_model.specs.declared.calls.Entry.TheVariants.{Delete, Hidden}
use Rattle.logged_journal.specs.View.{LoggedView}
use Rattle.framed_journal.specs.Steps.{CollectsOnFrames}
use Rattle.core_store.specs.declared.collect.Collect.TheVariants as collect
use Rattle.core_store.specs.Collects.{Collects, entry_of}
use Rattle.core_store.specs.JournalView.{JournalView, core_of, opening_of, last_left}
use Rattle.core_store.specs.Leads.{AreLed}
use Rattle.core_store.specs.Steppings.{IsEvent, pops, left_told}
use Rattle.core_store.proofs.ReplyLaws.{if_ok}
use Rattle.store_model.specs.Sound.{IsSound}
use Rattle.cell_model.specs.Records.{AllFit}
use Rattle.core_store.specs.RoundView.{IsInStep}
use Rattle.core_store.specs.JournalView.{logged_in}
use Rattle.quiet_rounds.proofs.Rounds.{quiet-events}
use Rattle.quiet_rounds.proofs.Looks.{quiet-looks}
use Rattle.brahma_shell.specs.Points.{point_of, entries_in, MayRest, IsExactAt}
use Rattle.brahma_shell.specs.Growth.{GrowsBy, GrowsByEvent, BecomesFull}
use Rattle.brahma_shell.specs.Rest.{StaysQuiet}
use Rattle.brahma_shell.specs.Log.{TellsFull}
use Rattle.brahma_shell.proofs.RestLemmas.{rests-exact, MakesStep, stays-quiet}
use Rattle.brahma_shell.proofs.LookedLemmas.{looked-led, looked-lower, looked-opening, looked-limits, looked-in_step}
use Rattle.brahma_shell.proofs.StepLemmas.{told-did, told-deleted, free-pops, grows-event, rests, nothing, full}
use Rattle.brahma_shell.proofs.StoreLemmas.{fills-looked}
use Rattle.brahma_shell.proofs.store.Store.collect_step.Goals as goal
use Rattle.script_lines.specs.Numbers.{object_slots}

pub returns-clause-idle : goal.returns-clause-idle
returns-clause-idle g c =
    let i = c.self.inside.lone.journal in
    let k = c.collect_step-step.new.self.journal in
    let told = c.history.ensures in
    let same : c.journal.result.now ≡ i = c.journal.ensures.journal ∙ ap (λ (x : LoggedView g.row.D.Denot). x.journal) c.logged.ensures.logged in
    let sound = subst (λ (x : JournalView). IsSound (core_of x)) same told.sound in
    let led = subst (λ (x : JournalView). AreLed object_slots (opening_of x) x.notes (core_of x)) same told.led in
    subst (λ (x : LoggedView g.row.D.Denot). IfOk c.collect_step-step.result (λ r. r ≡ collect.Idle → GrowsBy x.journal k [] × MayRest (point_of x.journal))) c.self.view_is
    (if_ok c.collect_step-step.result (λ r. CollectsOnFrames object_slots i k r) (λ r. r ≡ collect.Idle → GrowsBy i k [] × MayRest (point_of i)) (λ r done. λ e. let idle = done.idle.0 e in rests i i k refl (done.unchanged e) c.logged.ensures.slots sound led idle.1 idle.2) c.collect_step-step.ensures.does)

pub returns-clause-full : goal.returns-clause-full
returns-clause-full g c =
    let i = c.self.inside.lone.journal in
    let k = c.collect_step-step.new.self.journal in
    let told = c.history.ensures in
    let same : c.journal.result.now ≡ i = c.journal.ensures.journal ∙ ap (λ (x : LoggedView g.row.D.Denot). x.journal) c.logged.ensures.logged in
    subst (λ (x : LoggedView g.row.D.Denot). IfOk c.collect_step-step.result (λ r. r ≡ collect.TraceFull → BecomesFull x.journal k)) c.self.view_is
    (if_ok c.collect_step-step.result (λ r. CollectsOnFrames object_slots i k r) (λ r. r ≡ collect.TraceFull → BecomesFull i k) (λ r done. λ e. let m = done.marked e in full i m.looked k m.looks.same m.marked) c.collect_step-step.ensures.does)

pub returns-clause-memory : goal.returns-clause-memory
returns-clause-memory g c =
    let i = c.self.inside.lone.journal in
    let k = c.collect_step-step.new.self.journal in
    let told = c.history.ensures in
    let same : c.journal.result.now ≡ i = c.journal.ensures.journal ∙ ap (λ (x : LoggedView g.row.D.Denot). x.journal) c.logged.ensures.logged in
    subst (λ (x : LoggedView g.row.D.Denot). IfOk c.collect_step-step.result (λ r. r ≡ collect.Memory → GrowsBy x.journal k [])) c.self.view_is
    (if_ok c.collect_step-step.result (λ r. CollectsOnFrames object_slots i k r) (λ r. r ≡ collect.Memory → GrowsBy i k []) (λ r done. λ e. nothing i k k (done.memory e).same refl) c.collect_step-step.ensures.does)

pub returns-clause-did : goal.returns-clause-did
returns-clause-did g c =
    let i = c.self.inside.lone.journal in
    let k = c.collect_step-step.new.self.journal in
    let told = c.history.ensures in
    let same : c.journal.result.now ≡ i = c.journal.ensures.journal ∙ ap (λ (x : LoggedView g.row.D.Denot). x.journal) c.logged.ensures.logged in
    let led = subst (λ (x : JournalView). AreLed object_slots (opening_of x) x.notes (core_of x)) same told.led in
    subst (λ (x : LoggedView g.row.D.Denot). IfOk c.collect_step-step.result (λ r. (popped : Bool) (left : ℕ) → r ≡ collect.Did popped left → GrowsByEvent x.journal k popped left Hidden)) c.self.view_is
    (if_ok c.collect_step-step.result (λ r. CollectsOnFrames object_slots i k r) (λ r. (popped : Bool) (left : ℕ) → r ≡ collect.Did popped left → GrowsByEvent i k popped left Hidden) (λ r done. λ popped left e.
    let next = done.event (subst IsEvent (sym e) tt) in
    let j = next.looked in
    let m = next.event in
    let tells = told-did m.event m.logged _ popped left (sym e ∙ m.answer) in
    let lower : popped ≡ false → left < last_left j.notes = λ p. looked-lower i j left next.looks ((done.lower left (ap left_told e)).1 (ap pops e ∙ p)) in
    grows-event i j k r popped left Hidden next.looks.same m (looked-opening i j k next.looks done.opening.0) (looked-limits i j k next.looks done.opening.1) (looked-led i j next.looks led) tells.0 tells.1 tells.2 lower) c.collect_step-step.ensures.does)

pub returns-clause-deleted : goal.returns-clause-deleted
returns-clause-deleted g c =
    let i = c.self.inside.lone.journal in
    let k = c.collect_step-step.new.self.journal in
    let told = c.history.ensures in
    let same : c.journal.result.now ≡ i = c.journal.ensures.journal ∙ ap (λ (x : LoggedView g.row.D.Denot). x.journal) c.logged.ensures.logged in
    let led = subst (λ (x : JournalView). AreLed object_slots (opening_of x) x.notes (core_of x)) same told.led in
    subst (λ (x : LoggedView g.row.D.Denot). IfOk c.collect_step-step.result (λ r. (id left : ℕ) → r ≡ collect.Deleted id left → GrowsByEvent x.journal k false left (Delete id))) c.self.view_is
    (if_ok c.collect_step-step.result (λ r. CollectsOnFrames object_slots i k r) (λ r. (id left : ℕ) → r ≡ collect.Deleted id left → GrowsByEvent i k false left (Delete id)) (λ r done. λ id left e.
    let next = done.event (subst IsEvent (sym e) tt) in
    let j = next.looked in
    let m = next.event in
    let tells = told-deleted m.event m.logged _ id left (sym e ∙ m.answer) in
    let pop = free-pops object_slots (core_of j) m.event id k.queue (core_of k).round (subst (λ l. Collects object_slots (core_of j) m.event l k.queue (core_of k).round) tells.0 m.collects) in
    let lower : false ≡ false → left < last_left j.notes = λ p. looked-lower i j left next.looks ((done.lower left (ap left_told e)).1 (ap pops e)) in
    grows-event i j k r false left (Delete id) next.looks.same m (looked-opening i j k next.looks done.opening.0) (looked-limits i j k next.looks done.opening.1) (looked-led i j next.looks led) (ap entry_of tells.0) pop tells.1 lower) c.collect_step-step.ensures.does)

pub returns-clause-exact : goal.returns-clause-exact
returns-clause-exact g c =
    let i = c.self.inside.lone.journal in
    let k = c.collect_step-step.new.self.journal in
    let told = c.history.ensures in
    let same : c.journal.result.now ≡ i = c.journal.ensures.journal ∙ ap (λ (x : LoggedView g.row.D.Denot). x.journal) c.logged.ensures.logged in
    let sound = subst (λ (x : JournalView). IsSound (core_of x)) same told.sound in
    let entries = subst (λ (x : JournalView). entries_in x.notes ≡ x.history.entries) same (ap entries_in (sym told.notes) ∙ told.entries) in
    subst (λ (x : LoggedView g.row.D.Denot). IfOk c.collect_step-step.result (λ r. r ≡ collect.Idle → (point_of x.journal).moment.state.active ≡ [] → IsExactAt (point_of x.journal))) c.self.view_is
    (if_ok c.collect_step-step.result (λ r. CollectsOnFrames object_slots i k r) (λ r. r ≡ collect.Idle → (point_of i).moment.state.active ≡ [] → IsExactAt (point_of i)) (λ r done. λ e quiet. let idle = done.idle.0 e in rests-exact i i refl sound entries idle.1 idle.2 quiet) c.collect_step-step.ensures.does)

pub returns-clause-quiet : goal.returns-clause-quiet
returns-clause-quiet g c =
    let i = c.self.inside.lone.journal in
    let k = c.collect_step-step.new.self.journal in
    let told = c.history.ensures in
    let behind = c.history-2.ensures in
    let same : c.journal.result.now ≡ i = c.journal.ensures.journal ∙ ap (λ (x : LoggedView g.row.D.Denot). x.journal) c.logged.ensures.logged in
    let then : c.journal-2.result.now ≡ k = c.journal-2.ensures.journal ∙ ap (λ (x : LoggedView g.row.D.Denot). x.journal) c.logged-2.ensures.logged in
    let sound = subst (λ (x : JournalView). IsSound (core_of x)) same told.sound in
    let in_step = subst (λ (x : JournalView). IsInStep object_slots x.history.ids x.round) same told.in_step in
    let fit = subst (λ (x : JournalView). AllFit object_slots x.opening (logged_in x.notes)) same told.fit in
    let entries = subst (λ (x : JournalView). entries_in x.notes ≡ x.history.entries) same (ap entries_in (sym told.notes) ∙ told.entries) in
    subst (λ (x : LoggedView g.row.D.Denot). IfOk c.collect_step-step.result (λ r. IsEvent r → (point_of x.journal).moment.state.active ≡ [] → StaysQuiet x.journal k (pops r))) c.self.view_is
    (if_ok c.collect_step-step.result (λ r. CollectsOnFrames object_slots i k r) (λ r. IsEvent r → (point_of i).moment.state.active ≡ [] → StaysQuiet i k (pops r)) (λ r done e idle.
    let next = done.event e in
    let j = next.looked in
    let step : MakesStep i j k r = record {
      slots = c.logged.ensures.slots;
      sound = sound;
      in_step = in_step;
      entries = entries;
      same = next.looks.same;
      core = next.looks.core;
      passes = next.looks.passes;
      looked_in_step = looked-in_step i j next.looks (record { slots_are = c.logged.ensures.slots; sound = sound; in_step = in_step; fit = fit }) entries idle;
      event = next.event;
      opening = looked-opening i j k next.looks done.opening.0;
      in_step_behind = subst (λ (x : JournalView). IsInStep object_slots x.history.ids x.round) then behind.in_step;
      fit = subst (λ (x : JournalView). AllFit object_slots x.opening (logged_in x.notes)) then behind.fit;
      entries_behind = subst (λ (x : JournalView). entries_in x.notes ≡ x.history.entries) then (ap entries_in (sym behind.notes) ∙ behind.entries);
    } in
    stays-quiet i j k r step idle quiet-events quiet-looks) c.collect_step-step.ensures.does)

pub returns-clause-log_full : goal.returns-clause-log_full
returns-clause-log_full g c = λ e.
    let i = c.self.inside.lone in
    let k = c.collect_step-step.new.self in
    let fills = c.collect_step-step.ensures.log_full e in
    let faults = g.D.Disk.faults in
    subst (λ (x : LoggedView g.row.D.Denot). x.failed ≡ None → GrowsBy x.journal k.journal [] × TellsFull faults x k) c.self.view_is (λ r. fills-looked faults i k fills.looked r fills.looks.same fills.marked) c.requires.running
