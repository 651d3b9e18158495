use Rattle.std.proofs.Common.{◌≡◌, None, Ok, Err, refl, sym, ap, subst, ◌∙◌}
use Rattle.store_model.specs.Sound.{IsSound}
use Rattle.core_store.specs.JournalView.{JournalView, core_of, opening_of}
use Rattle.core_store.specs.Leads.{AreLed}
use Rattle.core_store.proofs.MapLaws.{none_from}
use Rattle.logged_journal.specs.View.{LoggedView}
use Rattle.shared_store.specs.declared.answers.CollectRefusal.{CollectRefusal}
use Rattle.shared_store.specs.Acts.{Acts}
use Rattle.shared_store.specs.Calls.{WasNoted, entered_by_collecting, marked_by_collecting, found_by_collecting}
use Rattle.shared_store.proofs.Acting.{acts-stopped, acts-on}
use Rattle.shared_store.proofs.Collects.{acts-looked_found, acts-behind, collect-stopped, collect-did}
use Rattle.core_store.specs.Frames.{is_held}
use Rattle.shared_store.specs.Chronicles.Steps.{entered_by_collect_step, marked_by_collect_step}
use Rattle.shared_store.proofs.Looks.{goes-behind}
use Rattle.shared_store.proofs.Since.{later-history, since-looked, since-still}
use Rattle.shared_store.proofs.store.Store.act_collect_step.Goals as goal

pub returns-in-Some-clause-acts : goal.returns-in-Some-clause-acts
returns-in-Some-clause-acts g c =
    let failed = sym (ap (λ (v : LoggedView g.row.D.Denot). v.failed) c.logged-2.ensures.logged) ∙ sym c.in-Some.ensures.failed in
    acts-stopped g.row.SLOTS c.args.hold.now.view c.args.journal.now c.args.held.now c.requires.none.1 c.requires.journal.idle c.requires.none.0 c.in-Some.failed failed

pub returns-in-Some-clause-made : goal.returns-in-Some-clause-made
returns-in-Some-clause-made g c = λ _.
    let failed = sym (ap (λ (v : LoggedView g.row.D.Denot). v.failed) c.logged-2.ensures.logged) ∙ sym c.in-Some.ensures.failed in
    let same = c.journal.ensures.journal ∙ ap (λ (v : LoggedView g.row.D.Denot). v.journal) c.logged.ensures.logged in
    let noted : WasNoted g.row.SLOTS c.args.journal.now
    = record {
      sound = subst (λ (x : JournalView). IsSound (core_of x)) same c.history.ensures.sound;
      led = subst (λ (x : JournalView). AreLed g.row.SLOTS (opening_of x) x.notes (core_of x)) same c.history.ensures.led;
      history = c.know_history.ensures.history;
    } in
    collect-stopped g.row.SLOTS c.args.journal.now c.in-Some.failed failed c.know_history.ensures.legal noted

pub returns-in-Err-clause-acts : goal.returns-in-Err-clause-acts
returns-in-Err-clause-acts g c =
    let e = c.claim_for_collector.ensures in
    let met = c.in-Err.ensures.met in
    let f = c.in-Err.found in
    subst (λ (x : CollectRefusal). Acts g.row.SLOTS c.args.hold.now.view c.claim_for_collector.new.hold.view c.args.journal.now c.claim_for_collector.new.journal c.claim_for_collector.new.held None (marked_by_collecting (Err x)) (found_by_collecting (Err x))) (sym c.again.ensures)
    (acts-looked_found g.row.SLOTS c.args.hold.now.view c.claim_for_collector.new.hold.view c.args.journal.now c.claim_for_collector.new.journal c.claim_for_collector.new.held f.word f.seat met.1 met.0 e.once e.held e.chronicle)

pub returns-in-Ok-clause-acts : goal.returns-in-Ok-clause-acts
returns-in-Ok-clause-acts g c =
    let e = c.claim_for_collector.ensures in
    let d = c.in-Ok.ensures in
    let v = c.args.hold.now.view in
    let w = c.claim_for_collector.new.hold.view in
    let j = c.claim_for_collector.new.journal in
    let k = c.collect_step-step.new.self in
    acts-behind g.row.SLOTS v w c.args.journal.now j k c.collect_step-step.new.held (entered_by_collecting (Ok c.in-Ok.step)) (marked_by_collecting (Ok c.in-Ok.step)) None e.chronicle
    (acts-on g.row.SLOTS v w j k c.claim_for_collector.new.held c.collect_step-step.new.held (entered_by_collecting (Ok c.in-Ok.step)) (marked_by_collecting (Ok c.in-Ok.step)) None c.in_default-claim_for_collector.ensures.ok refl e.once e.held d.frames d.chronicle d.rest)

pub returns-in-Ok-clause-made : goal.returns-in-Ok-clause-made
returns-in-Ok-clause-made g c = λ _.
    let e = c.claim_for_collector.ensures in
    let d = c.in-Ok.ensures in
    let running : c.args.journal.now.failed ≡ None = sym (ap (λ (v : LoggedView g.row.D.Denot). v.failed) c.logged-2.ensures.logged) ∙ (sym c.failed.ensures.failed ∙ none_from c.failed.result (λ x is. c.in_default.not-Some x is)) in
    let same = c.journal.ensures.journal ∙ ap (λ (v : LoggedView g.row.D.Denot). v.journal) c.logged.ensures.logged in
    let noted : WasNoted g.row.SLOTS c.args.journal.now
    = record {
      sound = subst (λ (x : JournalView). IsSound (core_of x)) same c.history.ensures.sound;
      led = subst (λ (x : JournalView). AreLed g.row.SLOTS (opening_of x) x.notes (core_of x)) same c.history.ensures.led;
      history = c.know_history.ensures.history;
    } in
    collect-did g.row.SLOTS c.args.journal.now c.claim_for_collector.new.journal c.collect_step-step.new.self running e.same e.looks noted c.know_history-2.ensures.legal d.untouched c.in-Ok.step (d.log_full.1, d.does, d.goes_on)

-- ---- what was left since the store began

pub returns-in-Some-clause-since : goal.returns-in-Some-clause-since
returns-in-Some-clause-since g c = λ began h. h

pub returns-in-Err-clause-since : goal.returns-in-Err-clause-since
returns-in-Err-clause-since g c = λ began h.
    let e = c.claim_for_collector.ensures in
    since-looked g.D.Disk.moment g.D.Disk.left_since g.row.SLOTS began c.args.journal.now c.claim_for_collector.new.journal e.same e.looks.same h

pub returns-in-Ok-clause-since : goal.returns-in-Ok-clause-since
returns-in-Ok-clause-since g c = λ began h.
    let e = c.claim_for_collector.ensures in
    let d = c.collect_step-step.ensures in
    let i = c.args.journal.now in
    let j = c.claim_for_collector.new.journal in
    let k = c.collect_step-step.new.self in
    let r = c.collect_step-step.result in
    let test = is_held c.claim_for_collector.new.held in
    let goes = goes-behind g.row.SLOTS test i j k (marked_by_collect_step r) e.chronicle (entered_by_collect_step r) d.chronicle in
    since-still g.D.Disk.moment g.D.Disk.left_since g.row.SLOTS began i k (later-history g.row.SLOTS i k c.know_history.ensures.history c.know_history-2.ensures.history test (entered_by_collect_step r) (marked_by_collect_step r) goes) h
    (d.untouched.disk ∙ ap (λ (v : LoggedView g.row.D.Denot). v.disk) e.same)

pub returns-in-Err-Stopped-clause-since : goal.returns-in-Err-Stopped-clause-since
returns-in-Err-Stopped-clause-since g c = λ began h.
    let e = c.claim_for_collector.ensures in
    let d = c.collect_step-step.ensures in
    let i = c.args.journal.now in
    let j = c.claim_for_collector.new.journal in
    let k = c.collect_step-step.new.self in
    let r = c.collect_step-step.result in
    let test = is_held c.claim_for_collector.new.held in
    let goes = goes-behind g.row.SLOTS test i j k (marked_by_collect_step r) e.chronicle (entered_by_collect_step r) d.chronicle in
    since-still g.D.Disk.moment g.D.Disk.left_since g.row.SLOTS began i k (later-history g.row.SLOTS i k c.know_history.ensures.history c.know_history-2.ensures.history test (entered_by_collect_step r) (marked_by_collect_step r) goes) h
    (d.untouched.disk ∙ ap (λ (v : LoggedView g.row.D.Denot). v.disk) e.same)

pub returns-in-Err-LogFull-clause-since : goal.returns-in-Err-LogFull-clause-since
returns-in-Err-LogFull-clause-since g c = λ began h.
    let e = c.claim_for_collector.ensures in
    let d = c.collect_step-step.ensures in
    let i = c.args.journal.now in
    let j = c.claim_for_collector.new.journal in
    let k = c.collect_step-step.new.self in
    let r = c.collect_step-step.result in
    let test = is_held c.claim_for_collector.new.held in
    let goes = goes-behind g.row.SLOTS test i j k (marked_by_collect_step r) e.chronicle (entered_by_collect_step r) d.chronicle in
    since-still g.D.Disk.moment g.D.Disk.left_since g.row.SLOTS began i k (later-history g.row.SLOTS i k c.know_history.ensures.history c.know_history-2.ensures.history test (entered_by_collect_step r) (marked_by_collect_step r) goes) h
    (d.untouched.disk ∙ ap (λ (v : LoggedView g.row.D.Denot). v.disk) e.same)
