use Rattle.std.proofs.Common.{◌≡◌, ◌≤◌, ℕ, List, Option, None, Result, Ok, Err, refl, sym, ap, subst, ◌∙◌, rules}
use Rattle.std.specs.Prelude.{IfSome}
use Rattle.plain_model.specs.History.{end_of}
use Rattle.core_store.specs.declared.want.Want.TheVariants.{Ready}
use Rattle.core_store.specs.Frames.{pages_held, is_held}
use Rattle.core_store.proofs.WantLaws.{ready-has}
use Rattle.core_store.specs.JournalView.{JournalView, cells_of}
use Rattle.core_store.specs.Logged.{pages_for_undo, want_of}
use Rattle.core_store.specs.Replaced.{next_to_restore}
use Rattle.core_store.specs.Work.{IsWorkIn, pages_of_work}
use Rattle.framed_journal.proofs.HoldLaws.{slots-few}
use Rattle.logged_journal.specs.declared.failed.FailedCall.{FailedCall}
use Rattle.logged_journal.specs.View.{LoggedView}
use Rattle.core_store.specs.declared.abort_step.AbortStep.{AbortStep}
use Rattle.shared_store.specs.declared.answers.StepRefusal.{StepRefusal}
use Rattle.shared_store.specs.declared.answers.StepRefusal.TheVariants.{Stopped}
use Rattle.shared_store.specs.Calls.{entered_by_step, marked_by_step, found_by_step}
use Rattle.shared_store.proofs.Active.{some-active}
use Rattle.shared_store.proofs.Acting.{acts-stopped, acts-on}
use Rattle.shared_store.proofs.Steps.{step-stopped, again-step, again-met}
use Rattle.shared_store.specs.Chronicles.Steps.{entered_by_abort_step, marked_by_abort_step}
use Rattle.shared_store.proofs.Since.{later-history, since-still}
use Rattle.shared_store.proofs.store.Store.act_abort_step.Goals as goal

pub returns-in-Some-clause-acts : goal.returns-in-Some-clause-acts
returns-in-Some-clause-acts g c =
    let failed = sym (ap (λ (v : LoggedView g.row.D.Denot). v.failed) c.logged.ensures.logged) ∙ (sym c.failed.ensures.failed ∙ c.in-Some.is) in
    acts-stopped g.row.SLOTS c.args.hold.now.view c.args.journal.now c.args.held.now c.requires.none.1 c.requires.journal.idle c.requires.none.0 c.in-Some.failed failed

pub returns-in-Some-clause-made : goal.returns-in-Some-clause-made
returns-in-Some-clause-made g c = λ none.
    step-stopped g.row.SLOTS c.args.journal.now c.args.client c.in-Some.failed
    (sym (ap (λ (v : LoggedView g.row.D.Denot). v.failed) c.logged.ensures.logged) ∙ (sym c.failed.ensures.failed ∙ c.in-Some.is)) c.know_history.ensures.legal

pub claim_for_work-requires-after_bounds : goal.claim_for_work-requires-after_bounds
claim_for_work-requires-after_bounds g c κs within =
    let small : g.row.SLOTS ≤ 14 = slots-few g.row.SLOTS c.self.invariant.size in
    let same : c.journal.result.now ≡ c.args.journal.now.journal = c.journal.ensures.journal ∙ ap (λ (v : LoggedView g.row.D.Denot). v.journal) c.logged-2.ensures.logged in
    (search rules, (search rules, (search rules, (search rules, (search rules, (c.requires.of, (c.requires.journal, (subst (λ (x : JournalView). IsWorkIn g.row.SLOTS x.history.ids (cells_of x) c.undo_work-work.result) same c.undo_work-work.ensures.works, c.requires.none))))))))

pub returns-in-Err-clause-acts : goal.returns-in-Err-clause-acts
returns-in-Err-clause-acts g c =
    let met = c.in-Err.ensures.met in
    again-step c.args.client c.again.result c.in-Err.found.word c.in-Err.found.seat c.again.ensures g.row.SLOTS c.args.hold.now.view c.claim_for_work.new.hold.view c.args.journal.now c.claim_for_work.new.held
    met.1 met.0 c.in-Err.ensures.once c.in-Err.ensures.held

pub returns-in-Err-clause-made : goal.returns-in-Err-clause-made
returns-in-Err-clause-made g c = λ none. absurd (again-met c.args.client c.again.result c.in-Err.found.word c.in-Err.found.seat c.again.ensures none)

pub abort_step-step-requires-after_bounds : goal.abort_step-step-requires-after_bounds
abort_step-step-requires-after_bounds g c κs within =
    let small : g.row.SLOTS ≤ 14 = slots-few g.row.SLOTS c.self.invariant.size in
    let j = c.args.journal.now in
    let same : c.journal.result.now ≡ j.journal = c.journal.ensures.journal ∙ ap (λ (v : LoggedView g.row.D.Denot). v.journal) c.logged-2.ensures.logged in
    let none : j.failed ≡ None = sym (ap (λ (v : LoggedView g.row.D.Denot). v.failed) c.logged.ensures.logged) ∙ (sym c.failed.ensures.failed ∙ c.in_default.is) in
    let active = some-active j c.args.client (c.know_history.ensures.clients c.args.client) (c.know_history.ensures.running none) c.requires.active in
    let held = c.in_default-claim_for_work.ensures.held in
    let pages = subst (λ (x : JournalView). pages_of_work (cells_of x) c.undo_work-work.result ≡ pages_for_undo (cells_of x) (next_to_restore (end_of x.history) c.args.client)) same c.undo_work-work.ensures.pages in
    let ready = subst (λ (ps : List ℕ). want_of ps (pages_held c.claim_for_work.new.held) ≡ Ready) pages c.in_default-claim_for_work.ensures.ready in
    let has = ready-has j.journal.history.ids (pages_for_undo (cells_of j.journal) (next_to_restore (end_of j.journal.history) c.args.client)) c.claim_for_work.new.held ready in
    (search rules, (search rules, (active, (held.agree, has))))

pub returns-in-Ok-clause-acts : goal.returns-in-Ok-clause-acts
returns-in-Ok-clause-acts g c =
    let e = c.in-Ok.ensures in
    let r : Result AbortStep StepRefusal = Ok c.in-Ok.step in
    acts-on g.row.SLOTS c.args.hold.now.view c.claim_for_work.new.hold.view c.args.journal.now c.abort_step-step.new.self c.claim_for_work.new.held c.abort_step-step.new.held (entered_by_step c.args.client r) (marked_by_step r) (found_by_step r)
    c.in_default-claim_for_work.ensures.ok refl c.in_default-claim_for_work.ensures.once c.in_default-claim_for_work.ensures.held e.frames e.chronicle e.rest

pub returns-in-Ok-clause-made : goal.returns-in-Ok-clause-made
returns-in-Ok-clause-made g c = λ none.
    let e = c.in-Ok.ensures in
    let r : Result AbortStep StepRefusal = Ok c.in-Ok.step in
    let j = c.args.journal.now in
    let running : j.failed ≡ None = sym (ap (λ (v : LoggedView g.row.D.Denot). v.failed) c.logged.ensures.logged) ∙ (sym c.failed.ensures.failed ∙ c.in_default.is) in
    record {
      legal = c.know_history-2.ensures.legal;
      stopped = subst (λ (o : Option FailedCall). IfSome o (λ f. (◌≡◌ {A = Result AbortStep StepRefusal} r (Err (Stopped f.faults))) × (c.abort_step-step.new.self ≡ j))) (sym running) tt;
      only_stopped = λ n e. absurd (cc);
      does = e.does;
      goes_on = e.goes_on;
      untouched = e.untouched;
    }

pub returns-in-Err-step-clause-acts : goal.returns-in-Err-step-clause-acts
returns-in-Err-step-clause-acts g c =
    let e = c.in-Err-step.ensures in
    let r : Result AbortStep StepRefusal = Err (Stopped c.in-Err-step.field-0.faults) in
    acts-on g.row.SLOTS c.args.hold.now.view c.claim_for_work.new.hold.view c.args.journal.now c.abort_step-step.new.self c.claim_for_work.new.held c.abort_step-step.new.held (entered_by_step c.args.client r) (marked_by_step r) (found_by_step r)
    c.in_default-claim_for_work.ensures.ok refl c.in_default-claim_for_work.ensures.once c.in_default-claim_for_work.ensures.held e.frames e.chronicle e.rest

pub returns-in-Err-step-clause-made : goal.returns-in-Err-step-clause-made
returns-in-Err-step-clause-made g c = λ none.
    let e = c.in-Err-step.ensures in
    let r : Result AbortStep StepRefusal = Err (Stopped c.in-Err-step.field-0.faults) in
    let j = c.args.journal.now in
    let running : j.failed ≡ None = sym (ap (λ (v : LoggedView g.row.D.Denot). v.failed) c.logged.ensures.logged) ∙ (sym c.failed.ensures.failed ∙ c.in_default.is) in
    record {
      legal = c.know_history-2.ensures.legal;
      stopped = subst (λ (o : Option FailedCall). IfSome o (λ f. (◌≡◌ {A = Result AbortStep StepRefusal} r (Err (Stopped f.faults))) × (c.abort_step-step.new.self ≡ j))) (sym running) tt;
      only_stopped = λ n is. e.only_stopped;
      does = tt;
      goes_on = tt;
      untouched = e.untouched;
    }

-- ---- what was left since the store began

pub returns-in-Some-clause-since : goal.returns-in-Some-clause-since
returns-in-Some-clause-since g c = λ began h. h

pub returns-in-Err-clause-since : goal.returns-in-Err-clause-since
returns-in-Err-clause-since g c = λ began h. h

pub returns-in-Ok-clause-since : goal.returns-in-Ok-clause-since
returns-in-Ok-clause-since g c = λ began h.
    let e = c.abort_step-step.ensures in
    let j = c.args.journal.now in
    let k = c.abort_step-step.new.self in
    let r = c.abort_step-step.result in
    let later = later-history g.row.SLOTS j k c.know_history.ensures.history c.know_history-2.ensures.history (is_held c.claim_for_work.new.held) (entered_by_abort_step c.args.client r) (marked_by_abort_step r) e.chronicle in
    since-still g.D.Disk.moment g.D.Disk.left_since g.row.SLOTS began j k later h e.untouched.disk

pub returns-in-Err-step-clause-since : goal.returns-in-Err-step-clause-since
returns-in-Err-step-clause-since g c = λ began h.
    let e = c.abort_step-step.ensures in
    let j = c.args.journal.now in
    let k = c.abort_step-step.new.self in
    let r = c.abort_step-step.result in
    let later = later-history g.row.SLOTS j k c.know_history.ensures.history c.know_history-2.ensures.history (is_held c.claim_for_work.new.held) (entered_by_abort_step c.args.client r) (marked_by_abort_step r) e.chronicle in
    since-still g.D.Disk.moment g.D.Disk.left_since g.row.SLOTS began j k later h e.untouched.disk
