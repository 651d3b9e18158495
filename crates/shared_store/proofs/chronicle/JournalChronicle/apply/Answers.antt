use Rattle.std.proofs.Common.{◌≡◌, ◌≢◌, ◌≤◌, subst, rules, sym, ◌∙◌}
use Rattle.plain_model.specs.declared.calls.Reply.TheVariants.{DiskFault}
use Rattle.logged_journal.specs.View.{LoggedView}
use Rattle.core_store.specs.Frames.{is_held}
use Rattle.shared_store.specs.Chronicles.Steps.{entered_by_call, marked_by_call, GoesOnWith}
use Rattle.shared_store.specs.Chronicles.Inside.{IsChronicle}
use Rattle.shared_store.proofs.Chronicles.Goings.{Came, slots-few}
use Rattle.shared_store.proofs.Chronicles.Calls.{Applied, called, never-again}
use Rattle.shared_store.proofs.chronicle.JournalChronicle.apply.Given.{Over}
use Rattle.shared_store.proofs.chronicle.JournalChronicle.apply.Goals as goal

applied : (g : Over) (c : goal.After-self-2-1 g)
    → Applied g.D.Disk.faults g.row.SLOTS c.as_mut-logged.result.now c.apply-reply.new.self c.args.held.now c.apply-reply.new.held c.args.pass c.args.call.now c.apply-reply.result
applied g c =
    let e = c.apply-reply.ensures in
    record {
      client = c.requires.client;
      own = c.journal.ensures.slots;
      owned = c.journal-2.ensures.slots;
      before = (subst (λ v. IsChronicle g.row.SLOTS v) (sym c.as_mut-logged.ensures.value) c.self.invariant.kept);
      stopped = e.stopped;
      only_stopped = e.only_stopped;
      log_marked = e.log_marked;
      does = e.does;
      goes_on = e.goes_on;
      frames = e.frames;
      same = e.same;
      fault = e.fault;
    }

came : (g : Over) (c : goal.After-self-2-1 g)
    → Came g.row.SLOTS c.as_mut-logged.result.now c.apply-reply.new.self c.args.held.now c.apply-reply.new.held (entered_by_call c.args.pass c.args.call.now c.apply-reply.result) (marked_by_call c.apply-reply.result)
came g c =
    called g.D.Disk.faults g.row.SLOTS c.as_mut-logged.result.now c.apply-reply.new.self c.args.held.now c.apply-reply.new.held c.args.pass c.args.call.now c.apply-reply.result (applied g c)

pub apply-reply-requires-after_bounds : goal.apply-reply-requires-after_bounds
apply-reply-requires-after_bounds g c κs within =
    let small : g.row.SLOTS ≤ 14 = slots-few g.row.SLOTS c.self.invariant.size in
    rw (c.as_mut-logged.ensures.value ∙ c.self.view_is)
    (search rules, (search rules, (c.requires.client, (c.requires.in_range, (c.requires.no_abort, (c.requires.agree, c.requires.ready))))))

pub invariant_of-self : goal.invariant_of-self
invariant_of-self g c = let all = came g c in record { size = c.self.invariant.size; kept = all.chronicle; counted = c.count_notes-self-inside.ensures }

pub returns-clause-chronicle : goal.returns-clause-chronicle
returns-clause-chronicle g c =
    let all = came g c in
    subst (λ (v : LoggedView g.row.D.Denot). GoesOnWith g.row.SLOTS (is_held c.args.held.now) v c.apply-reply.new.self (entered_by_call c.args.pass c.args.call.now c.apply-reply.result) (marked_by_call c.apply-reply.result)) (c.as_mut-logged.ensures.value ∙ c.self.view_is) all.goes

pub returns-clause-rest : goal.returns-clause-rest
returns-clause-rest g c = let all = came g c in all.rest

pub returns-clause-goes_on : goal.returns-clause-goes_on
returns-clause-goes_on g c = rw (← (c.as_mut-logged.ensures.value ∙ c.self.view_is)) c.apply-reply.ensures.goes_on

pub returns-clause-untouched : goal.returns-clause-untouched
returns-clause-untouched g c = rw (← (c.as_mut-logged.ensures.value ∙ c.self.view_is)) c.apply-reply.ensures.untouched

pub returns-clause-never_again : goal.returns-clause-never_again
returns-clause-never_again g c =
    never-again g.D.Disk.faults g.row.SLOTS c.as_mut-logged.result.now c.apply-reply.new.self c.args.held.now c.apply-reply.new.held c.args.pass c.args.call.now c.apply-reply.result (applied g c)

pub returns-clause-areas : goal.returns-clause-areas
returns-clause-areas g c = rw (← (c.as_mut-logged.ensures.value ∙ c.self.view_is)) c.apply-reply.ensures.areas

pub returns-clause-count : goal.returns-clause-count
returns-clause-count g c =
    subst (λ (v : LoggedView g.row.D.Denot). c.apply-reply.result ≢ DiskFault → g.D.Disk.faults c.apply-reply.new.self.disk ≡ g.D.Disk.faults v.disk) (c.as_mut-logged.ensures.value ∙ c.self.view_is) c.apply-reply.ensures.count

pub returns-clause-stopped : goal.returns-clause-stopped
returns-clause-stopped g c = rw (← (c.as_mut-logged.ensures.value ∙ c.self.view_is)) c.apply-reply.ensures.stopped
