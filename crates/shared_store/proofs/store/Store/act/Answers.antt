use Rattle.std.proofs.Common.{◌≡◌, ◌≤◌, ℕ, List, Option, None, refl, sym, ap, subst, ◌∙◌, rules}
use Rattle.std.specs.Prelude.{IfSome}
use Rattle.std.specs.List.{Contains}
use Rattle.disk_model.specs.Causes.{Rose}
use Rattle.plain_model.specs.declared.calls.Reply.TheVariants as reply
use Rattle.plain_model.specs.Machine.{transaction_of}
use Rattle.plain_model.specs.History.{end_of}
use Rattle.core_store.specs.declared.want.Want.TheVariants.{Ready}
use Rattle.core_store.specs.Frames.{pages_held, is_held}
use Rattle.core_store.proofs.WantLaws.{ready-has}
use Rattle.core_store.specs.JournalView.{JournalView, cells_of}
use Rattle.core_store.specs.Limited.{pages_for_call}
use Rattle.core_store.specs.Logged.{want_of}
use Rattle.core_store.specs.Work.{IsWorkIn, pages_of_work}
use Rattle.framed_journal.proofs.HoldLaws.{slots-few}
use Rattle.logged_journal.specs.declared.failed.FailedCall.{FailedCall}
use Rattle.logged_journal.specs.View.{LoggedView}
use Rattle.logged_journal.proofs.Areas.{areas-kept}
use Rattle.shared_store.specs.Chronicles.Steps.{entered_by_call, marked_by_call}
use Rattle.shared_store.specs.Calls.{found_by_call}
use Rattle.shared_store.proofs.Active.{none-active, was-noted}
use Rattle.shared_store.proofs.Wanted.{same-word, stopped-again}
use Rattle.shared_store.proofs.Acting.{acts-stopped, acts-on}
use Rattle.shared_store.proofs.Replies.{not-found, does-stopped, again-acts, again-found}
use Rattle.shared_store.proofs.Since.{later-history, since-call}
use Rattle.shared_store.proofs.store.Store.act.Goals as goal

pub returns-in-Some-clause-acts : goal.returns-in-Some-clause-acts
returns-in-Some-clause-acts g c =
    let failed = sym (ap (λ (v : LoggedView g.row.D.Denot). v.failed) c.logged-2.ensures.logged) ∙ (sym c.failed.ensures.failed ∙ c.in-Some.is) in
    acts-stopped g.row.SLOTS c.args.hold.now.view c.args.journal.now c.args.held.now c.requires.none.1 c.requires.journal.idle c.requires.none.0 c.in-Some.failed failed

pub returns-in-Some-clause-made : goal.returns-in-Some-clause-made
returns-in-Some-clause-made g c = λ none.
    does-stopped g.row.SLOTS g.D.Disk.faults c.args.journal.now c.args.client c.args.call.now c.in-Some.failed
    (sym (ap (λ (v : LoggedView g.row.D.Denot). v.failed) c.logged-2.ensures.logged) ∙ (sym c.failed.ensures.failed ∙ c.in-Some.is)) c.know_history.ensures.legal

pub work-work-requires : goal.work-work-requires
work-work-requires g c =
    let j = c.args.journal.now in
    let same : c.journal-2.result.now ≡ c.args.journal.now.journal = c.journal-2.ensures.journal ∙ ap (λ (v : LoggedView g.row.D.Denot). v.journal) c.logged-3.ensures.logged in
    let running : j.failed ≡ None = sym (ap (λ (v : LoggedView g.row.D.Denot). v.failed) c.logged-2.ensures.logged) ∙ (sym c.failed.ensures.failed ∙ c.in_default.is) in (
      search rules,
      (
        c.requires.client,
        (
          c.requires.in_range,
          λ e. subst (λ (x : JournalView). transaction_of (end_of x.history).state c.args.client ≡ None) (sym same) (none-active j c.args.client (c.know_history.ensures.clients c.args.client) (c.know_history.ensures.running running) (c.requires.no_abort e)),
        ),
      ),
    )

pub claim_for_work-requires-after_bounds : goal.claim_for_work-requires-after_bounds
claim_for_work-requires-after_bounds g c κs within =
    let small : g.row.SLOTS ≤ 14 = slots-few g.row.SLOTS c.self.invariant.size in
    let same : c.journal-2.result.now ≡ c.args.journal.now.journal = c.journal-2.ensures.journal ∙ ap (λ (v : LoggedView g.row.D.Denot). v.journal) c.logged-3.ensures.logged in
    (search rules, (search rules, (search rules, (search rules, (search rules, (c.requires.of, (c.requires.journal, (subst (λ (x : JournalView). IsWorkIn g.row.SLOTS x.history.ids (cells_of x) c.work-work.result) same c.work-work.ensures.works, c.requires.none))))))))

pub returns-in-Err-clause-acts : goal.returns-in-Err-clause-acts
returns-in-Err-clause-acts g c =
    let met = c.in-Err.ensures.met in
    again-acts c.args.client c.args.call.now c.again.result c.in-Err.found.word c.in-Err.found.seat c.again.ensures g.row.SLOTS c.args.hold.now.view c.claim_for_work.new.hold.view c.args.journal.now c.claim_for_work.new.held
    met.1 met.0 c.in-Err.ensures.once c.in-Err.ensures.held

pub returns-in-Err-clause-made : goal.returns-in-Err-clause-made
returns-in-Err-clause-made g c = λ none. absurd (again-found c.args.client c.args.call.now c.again.result c.in-Err.found.word c.in-Err.found.seat c.again.ensures none)

pub apply-reply-requires-after_bounds : goal.apply-reply-requires-after_bounds
apply-reply-requires-after_bounds g c κs within =
    let small : g.row.SLOTS ≤ 14 = slots-few g.row.SLOTS c.self.invariant.size in
    let j = c.args.journal.now in
    let same : c.journal-2.result.now ≡ c.args.journal.now.journal = c.journal-2.ensures.journal ∙ ap (λ (v : LoggedView g.row.D.Denot). v.journal) c.logged-3.ensures.logged in
    let running : j.failed ≡ None = sym (ap (λ (v : LoggedView g.row.D.Denot). v.failed) c.logged-2.ensures.logged) ∙ (sym c.failed.ensures.failed ∙ c.in_default.is) in
    let held = c.in_default-claim_for_work.ensures.held in
    let pages = subst (λ (x : JournalView). pages_of_work (cells_of x) c.work-work.result ≡ pages_for_call x c.args.client c.args.call.now) same c.work-work.ensures.pages in
    let ready = subst (λ (ps : List ℕ). want_of ps (pages_held c.claim_for_work.new.held) ≡ Ready) pages c.in_default-claim_for_work.ensures.ready in
    let has = ready-has j.journal.history.ids (pages_for_call j.journal c.args.client c.args.call.now) c.claim_for_work.new.held ready in (
      search rules,
      (
        search rules,
        (
          c.requires.client,
          (
            c.requires.in_range,
            (
              (λ e. none-active j c.args.client (c.know_history.ensures.clients c.args.client) (c.know_history.ensures.running running) (c.requires.no_abort e)),
              (held.agree, has),
            ),
          ),
        ),
      ),
    )

pub returns-clause-acts : goal.returns-clause-acts
returns-clause-acts g c =
    let e = c.apply-reply.ensures in
    let r = c.apply-reply.result in
    acts-on g.row.SLOTS c.args.hold.now.view c.claim_for_work.new.hold.view c.args.journal.now c.apply-reply.new.self c.claim_for_work.new.held c.apply-reply.new.held (entered_by_call c.args.client c.args.call.now r) (marked_by_call r) (found_by_call r)
    c.in_default-claim_for_work.ensures.ok (not-found r e.never_again) c.in_default-claim_for_work.ensures.once c.in_default-claim_for_work.ensures.held e.frames e.chronicle e.rest

pub returns-clause-made : goal.returns-clause-made
returns-clause-made g c = λ none.
    let e = c.apply-reply.ensures in
    let r = c.apply-reply.result in
    let j = c.args.journal.now in
    let k = c.apply-reply.new.self in
    let running : j.failed ≡ None = sym (ap (λ (v : LoggedView g.row.D.Denot). v.failed) c.logged-2.ensures.logged) ∙ (sym c.failed.ensures.failed ∙ c.in_default.is) in
    record {
      legal = c.know_history-2.ensures.legal;
      stopped = subst (λ (o : Option FailedCall). IfSome o (λ f. (r ≡ reply.Stopped f.faults) × (k ≡ j))) (sym running) tt;
      only_stopped = e.only_stopped;
      log_full = e.log_full;
      log_marked = λ f. let x = e.log_marked f in x.0;
      does = e.does;
      goes_on = e.goes_on;
      kept = e.kept;
      committed = e.committed;
      commit = e.commit;
      untouched = e.untouched;
      fault = λ f. let x = e.fault f in x.0;
      later = e.later;
      count = e.count;
    }

-- ---- what the journal was, and what a power loss leaves

pub returns-in-Some-clause-noted : goal.returns-in-Some-clause-noted
returns-in-Some-clause-noted g c = was-noted g.row.SLOTS c.args.journal.now c.journal.result.now (c.journal.ensures.journal ∙ ap (λ (v : LoggedView g.row.D.Denot). v.journal) c.logged.ensures.logged) c.history.ensures.sound c.history.ensures.led c.know_history.ensures.history

pub returns-in-Err-clause-noted : goal.returns-in-Err-clause-noted
returns-in-Err-clause-noted g c = was-noted g.row.SLOTS c.args.journal.now c.journal.result.now (c.journal.ensures.journal ∙ ap (λ (v : LoggedView g.row.D.Denot). v.journal) c.logged.ensures.logged) c.history.ensures.sound c.history.ensures.led c.know_history.ensures.history

pub returns-clause-noted : goal.returns-clause-noted
returns-clause-noted g c = was-noted g.row.SLOTS c.args.journal.now c.journal.result.now (c.journal.ensures.journal ∙ ap (λ (v : LoggedView g.row.D.Denot). v.journal) c.logged.ensures.logged) c.history.ensures.sound c.history.ensures.led c.know_history.ensures.history

pub returns-in-Some-clause-opens : goal.returns-in-Some-clause-opens
returns-in-Some-clause-opens g c = λ running none. absurd (let failed = sym (ap (λ (v : LoggedView g.row.D.Denot). v.failed) c.logged-2.ensures.logged) ∙ (sym c.failed.ensures.failed ∙ c.in-Some.is) in let both = sym running ∙ failed in cc)

pub returns-in-Err-clause-opens : goal.returns-in-Err-clause-opens
returns-in-Err-clause-opens g c = λ running none. absurd (again-found c.args.client c.args.call.now c.again.result c.in-Err.found.word c.in-Err.found.seat c.again.ensures none)

pub returns-clause-opens : goal.returns-clause-opens
returns-clause-opens g c = λ running none. c.apply-reply.ensures.opens

-- ---- the word that another pass has

pub returns-in-Some-clause-again : goal.returns-in-Some-clause-again
returns-in-Some-clause-again g c = λ word seat e. absurd (stopped-again c.in-Some.failed.faults word seat e)

pub returns-in-Err-clause-again : goal.returns-in-Err-clause-again
returns-in-Err-clause-again g c = λ word seat e.
    let same : c.journal-2.result.now ≡ c.args.journal.now.journal = c.journal-2.ensures.journal ∙ ap (λ (v : LoggedView g.row.D.Denot). v.journal) c.logged-3.ensures.logged in
    let running : c.args.journal.now.failed ≡ None = sym (ap (λ (v : LoggedView g.row.D.Denot). v.failed) c.logged-2.ensures.logged) ∙ (sym c.failed.ensures.failed ∙ c.in_default.is) in
    let pages = subst (λ (x : JournalView). pages_of_work (cells_of x) c.work-work.result ≡ pages_for_call x c.args.client c.args.call.now) same c.work-work.ensures.pages in
    let is = same-word c.again.result word seat c.in-Err.found.word c.in-Err.found.seat c.again.ensures e in
    (running, subst (λ (n : ℕ). Contains (pages_for_call c.args.journal.now.journal c.args.client c.args.call.now) n) (sym is) (subst (λ (ps : List ℕ). Contains ps c.in-Err.found.word) pages c.in-Err.ensures.needed))

pub returns-clause-again : goal.returns-clause-again
returns-clause-again g c = λ word seat e. absurd (c.apply-reply.ensures.never_again word seat e)

pub returns-in-Some-clause-counted : goal.returns-in-Some-clause-counted
returns-in-Some-clause-counted g c =
    subst (λ (v : LoggedView g.row.D.Denot). IfSome v.failed (λ f. Rose v.opened f.faults)) c.logged-2.ensures.logged
    (subst (λ (o : Option FailedCall). IfSome o (λ f. Rose c.logged-2.result.now.opened f.faults)) c.failed.ensures.failed c.failed.ensures.counted)

pub returns-in-Err-clause-counted : goal.returns-in-Err-clause-counted
returns-in-Err-clause-counted g c =
    subst (λ (v : LoggedView g.row.D.Denot). IfSome v.failed (λ f. Rose v.opened f.faults)) c.logged-2.ensures.logged
    (subst (λ (o : Option FailedCall). IfSome o (λ f. Rose c.logged-2.result.now.opened f.faults)) c.failed.ensures.failed c.failed.ensures.counted)

pub returns-clause-counted : goal.returns-clause-counted
returns-clause-counted g c =
    subst (λ (v : LoggedView g.row.D.Denot). IfSome v.failed (λ f. Rose v.opened f.faults)) c.logged-2.ensures.logged
    (subst (λ (o : Option FailedCall). IfSome o (λ f. Rose c.logged-2.result.now.opened f.faults)) c.failed.ensures.failed c.failed.ensures.counted)

-- ---- the areas

pub returns-in-Some-clause-areas : goal.returns-in-Some-clause-areas
returns-in-Some-clause-areas g c = λ none. areas-kept g.D.Disk.content g.D.Disk.may_leave c.args.journal.now c.args.journal.now c.args.call.now (reply.Stopped c.in-Some.failed.faults) refl (λ is done. cc (done))

pub returns-in-Err-clause-areas : goal.returns-in-Err-clause-areas
returns-in-Err-clause-areas g c = λ none. absurd (again-found c.args.client c.args.call.now c.again.result c.in-Err.found.word c.in-Err.found.seat c.again.ensures none)

pub returns-clause-areas : goal.returns-clause-areas
returns-clause-areas g c = λ none. c.apply-reply.ensures.areas

-- ---- what was left since the store began

pub returns-in-Some-clause-since : goal.returns-in-Some-clause-since
returns-in-Some-clause-since g c = λ began h. h

pub returns-in-Err-clause-since : goal.returns-in-Err-clause-since
returns-in-Err-clause-since g c = λ began h. h

pub returns-clause-since : goal.returns-clause-since
returns-clause-since g c = λ began h.
    let e = c.apply-reply.ensures in
    let r = c.apply-reply.result in
    let j = c.args.journal.now in
    let k = c.apply-reply.new.self in
    let running : j.failed ≡ None = sym (ap (λ (v : LoggedView g.row.D.Denot). v.failed) c.logged-2.ensures.logged) ∙ (sym c.failed.ensures.failed ∙ c.in_default.is) in
    let later = later-history g.row.SLOTS j k c.know_history.ensures.history c.know_history-2.ensures.history (is_held c.claim_for_work.new.held) (entered_by_call c.args.client c.args.call.now r) (marked_by_call r) e.chronicle in
    since-call g.D.Disk.moment g.D.Disk.left_since g.row.SLOTS g.D.Disk.faults began j k c.args.client c.args.call.now later h running e.opens r
    (record {
      legal = c.know_history-2.ensures.legal;
      stopped = subst (λ (o : Option FailedCall). IfSome o (λ f. (r ≡ reply.Stopped f.faults) × (k ≡ j))) (sym running) tt;
      only_stopped = e.only_stopped;
      log_full = e.log_full;
      log_marked = λ f. let x = e.log_marked f in x.0;
      does = e.does;
      goes_on = e.goes_on;
      kept = e.kept;
      committed = e.committed;
      commit = e.commit;
      untouched = e.untouched;
      fault = λ f. let x = e.fault f in x.0;
      later = e.later;
      count = e.count;
    })
    e.never_again
