use Rattle.std.proofs.Common.{◌≤◌, ◌*◌, ◌<◌, ℕ, None, Some, Option, sym, subst, arith, rules}
use Rattle.plain_model.specs.declared.calls.Entry.{Entry}
use Rattle.core_store.proofs.MapLaws.{none_from}
use Rattle.framed_journal.proofs.HoldLaws.{slots-few}
use Rattle.latch_table.specs.Rule.{HasMet}
use Rattle.logged_journal.specs.declared.upkeep.Upkeep.{Upkeep}
use Rattle.disk_model.specs.Told.{EachImage}
use Rattle.logged_journal.specs.Opens.{OpensAfter}
use Rattle.logged_journal.specs.Records.{MayBeLeft}
use Rattle.logged_journal.specs.View.{LoggedView, history_of}
use Rattle.shared_store.specs.Chronicles.Steps.{GoesOnWith, no_mark, no_page, entered_by_upkeep, marked_by_refusal, marked_by_upkeep}
use Rattle.shared_store.specs.Passes.{Known}
use Rattle.shared_store.proofs.Kept.{acts-none, dropped-alone}
use Rattle.shared_store.proofs.Looks.{goes-behind, still-journal}
use Rattle.shared_store.proofs.Pairs.{with_none, told-frame}
use Rattle.shared_store.proofs.Upkeeps.{RefusesClean, clean-enters_none, clean-free, clean-refused, clean-behind}
use Rattle.shared_store.proofs.Moments.{moments-before, moments-still, opens-before, opens-still, clean-refused-disk}
use Rattle.shared_store.proofs.Since.{later-history, since-room, since-still, since-upkeep}
use Rattle.shared_store.proofs.store.Store.act_clean.Goals as goal

-- ---- it is refused

pub returns-in-Some-clause-acts : goal.returns-in-Some-clause-acts
returns-in-Some-clause-acts g c =
    let v = c.args.hold.now.view in
    let j = c.args.journal.now in
    let k = c.refuse_clean.new.self in
    let u = c.in-Some.answer in
    let none = clean-enters_none j k u (record { stopped = c.in-Some.ensures.stopped; full = c.in-Some.ensures.full; free = c.in-Some.ensures.free }) in
    acts-none g.row.SLOTS v v j k (entered_by_upkeep u) (marked_by_upkeep u) None (with_none v c.requires.none c.requires.journal.idle) tt
    (subst (λ (o : Option Entry). GoesOnWith g.row.SLOTS no_page j k o (marked_by_upkeep u)) (sym none) c.in-Some.ensures.chronicle)

pub returns-in-Some-clause-made : goal.returns-in-Some-clause-made
returns-in-Some-clause-made g c =
    clean-refused g.row.SLOTS g.D.Disk.faults g.D.Disk.may_leave c.args.journal.now c.refuse_clean.new.self c.args.page c.in-Some.answer (record { stopped = c.in-Some.ensures.stopped; full = c.in-Some.ensures.full; free = c.in-Some.ensures.free }) c.know_history.ensures.legal

-- ---- it is not

pub returns-in-Err-clause-acts : goal.returns-in-Err-clause-acts
returns-in-Err-clause-acts g c =
    let v = c.args.hold.now.view in
    let j = c.args.journal.now in
    let k = c.refuse_clean.new.self in
    let f = c.in-Err.found in
    let held = c.in-Err.ensures.held in
    let look = subst (λ (o : Option Upkeep). GoesOnWith g.row.SLOTS no_page j k None (marked_by_refusal o)) (none_from c.refuse_clean.result (λ x is. c.in_default.not-Some x is)) c.refuse_clean.ensures.chronicle in
    let none = with_none v c.requires.none c.requires.journal.idle in
    acts-none g.row.SLOTS v c.claim_page.new.hold.view j k None no_mark (Some (f.word, f.seat))
    (none.0, subst (λ (z : Known g.row.SLOTS). HasMet z c.claim_page.new.hold.view f.word f.seat) none.1 (subst (λ (n : ℕ). HasMet v c.claim_page.new.hold.view n f.seat) (sym held.0) held.2)) held.1 look

pub clean-answer-requires-after_bounds : goal.clean-answer-requires-after_bounds
clean-answer-requires-after_bounds g c κs within =
    let small : g.row.SLOTS ≤ 14 = slots-few g.row.SLOTS c.self.invariant.size in
    let v = c.args.hold.now.view in
    let j = c.args.journal.now in
    let k = c.refuse_clean.new.self in
    let look = subst (λ (o : Option Upkeep). GoesOnWith g.row.SLOTS no_page j k None (marked_by_refusal o)) (none_from c.refuse_clean.result (λ x is. c.in_default.not-Some x is)) c.refuse_clean.ensures.chronicle in
    let has = still-journal g.row.SLOTS j k c.args.self.now.pages v look c.requires.journal in
    let there : 8 * c.args.page < k.journal.history.ids = omega (arith, has.ids, c.requires.page) in
    let told = told-frame c.args.self.now.pages v k c.args.page c.in-Ok.frame has c.in-Ok.ensures.ok.1 in
    (search rules, (search rules, (there, (c.know_frames.ensures.page c.args.page c.in-Ok.frame there).1 told)))

pub returns-clause-acts : goal.returns-clause-acts
returns-clause-acts g c =
    let v = c.args.hold.now.view in
    let j = c.args.journal.now in
    let k = c.refuse_clean.new.self in
    let m = c.clean-answer.new.self in
    let r = c.clean-answer.result in
    let look = subst (λ (o : Option Upkeep). GoesOnWith g.row.SLOTS no_page j k None (marked_by_refusal o)) (none_from c.refuse_clean.result (λ x is. c.in_default.not-Some x is)) c.refuse_clean.ensures.chronicle in
    acts-none g.row.SLOTS v c.drop_page.new.hold.view j m (entered_by_upkeep r) (marked_by_upkeep r) None
    (dropped-alone v c.claim_page.new.hold.view c.drop_page.new.hold.view c.args.page c.in-Ok.frame c.requires.none c.in-Ok.ensures.ok.0 c.drop_page.ensures.view) tt
    (goes-behind g.row.SLOTS no_page j k m (marked_by_upkeep r) look (entered_by_upkeep r) c.clean-answer.ensures.chronicle)

pub returns-clause-made : goal.returns-clause-made
returns-clause-made g c =
    let v = c.args.hold.now.view in
    let j = c.args.journal.now in
    let k = c.refuse_clean.new.self in
    let e = c.clean-answer.ensures in
    let none = none_from c.refuse_clean.result (λ x is. c.in_default.not-Some x is) in
    let look = subst (λ (o : Option Upkeep). GoesOnWith g.row.SLOTS no_page j k None (marked_by_refusal o)) none c.refuse_clean.ensures.chronicle in
    let refuses = subst (λ (o : Option Upkeep). RefusesClean j k o) none (record { stopped = c.refuse_clean.ensures.stopped; full = c.refuse_clean.ensures.full; free = c.refuse_clean.ensures.free }) in
    let has = still-journal g.row.SLOTS j k c.args.self.now.pages v look c.requires.journal in
    let there : 8 * c.args.page < k.journal.history.ids = omega (arith, has.ids, c.requires.page) in
    let told = told-frame c.args.self.now.pages v k c.args.page c.in-Ok.frame has c.in-Ok.ensures.ok.1 in
    let holds = (c.know_frames.ensures.page c.args.page c.in-Ok.frame there).1 told in
    clean-behind g.row.SLOTS g.D.Disk.faults g.D.Disk.may_leave j k c.clean-answer.new.self c.args.page c.clean-answer.result (clean-free j k refuses)
    (record {
      legal = c.know_history-2.ensures.legal;
      stopped = e.stopped;
      only_stopped = e.only_stopped;
      never_busy = e.never_busy;
      full = e.full;
      marked = e.marked;
      log_full = e.log_full;
      log_marked = e.log_marked;
      memory = e.memory;
      done = λ d. record { held = c.in-Ok.frame.page; holds = holds; cleans = e.done d; images = e.clean d };
      fault = e.fault;
      later = e.later;
    })

-- ---- what a power loss leaves

pub returns-in-Some-clause-moments : goal.returns-in-Some-clause-moments
returns-in-Some-clause-moments g c =
    moments-still g.D.Disk.may_leave g.D.Disk.moment g.D.Disk.left_since g.D.Disk.only_now c.args.journal.now c.refuse_clean.new.self
    (clean-refused-disk c.args.journal.now c.refuse_clean.new.self c.in-Some.answer (record { stopped = c.in-Some.ensures.stopped; full = c.in-Some.ensures.full; free = c.in-Some.ensures.free }))
    (subst (λ (v : LoggedView g.row.D.Denot). EachImage g.D.Disk.may_leave v.disk (MayBeLeft v)) c.logged.ensures.logged c.durable.ensures.images)

pub returns-in-Some-clause-opens : goal.returns-in-Some-clause-opens
returns-in-Some-clause-opens g c =
    opens-still g.D.Disk.may_leave g.D.Disk.moment g.D.Disk.left_since g.D.Disk.only_now c.args.journal.now c.refuse_clean.new.self
    (clean-refused-disk c.args.journal.now c.refuse_clean.new.self c.in-Some.answer (record { stopped = c.in-Some.ensures.stopped; full = c.in-Some.ensures.full; free = c.in-Some.ensures.free })) g.row.SLOTS
    (subst (λ (v : LoggedView g.row.D.Denot). EachImage g.D.Disk.may_leave v.disk (OpensAfter g.row.SLOTS (history_of v))) c.logged.ensures.logged c.durable.ensures.opens)

pub returns-clause-moments : goal.returns-clause-moments
returns-clause-moments g c =
    let none = none_from c.refuse_clean.result (λ x is. c.in_default.not-Some x is) in
    let refuses = subst (λ (o : Option Upkeep). RefusesClean c.args.journal.now c.refuse_clean.new.self o) none (record { stopped = c.refuse_clean.ensures.stopped; full = c.refuse_clean.ensures.full; free = c.refuse_clean.ensures.free }) in
    moments-before g.D.Disk.moment g.D.Disk.left_since c.args.journal.now c.refuse_clean.new.self c.clean-answer.new.self.disk (clean-free c.args.journal.now c.refuse_clean.new.self refuses).takes c.clean-answer.ensures.moments

pub returns-clause-opens : goal.returns-clause-opens
returns-clause-opens g c =
    let none = none_from c.refuse_clean.result (λ x is. c.in_default.not-Some x is) in
    let refuses = subst (λ (o : Option Upkeep). RefusesClean c.args.journal.now c.refuse_clean.new.self o) none (record { stopped = c.refuse_clean.ensures.stopped; full = c.refuse_clean.ensures.full; free = c.refuse_clean.ensures.free }) in
    opens-before g.D.Disk.moment g.D.Disk.left_since c.args.journal.now c.refuse_clean.new.self c.clean-answer.new.self.disk (clean-free c.args.journal.now c.refuse_clean.new.self refuses).takes g.row.SLOTS c.clean-answer.ensures.opens

-- ---- what was left since the store began

pub returns-in-Some-clause-since : goal.returns-in-Some-clause-since
returns-in-Some-clause-since g c = λ began h.
    let j = c.args.journal.now in
    let k = c.refuse_clean.new.self in
    let u = c.in-Some.answer in
    since-still g.D.Disk.moment g.D.Disk.left_since g.row.SLOTS began j k
    (later-history g.row.SLOTS j k c.know_noted.ensures.history c.know_history.ensures.history no_page None (marked_by_upkeep u) c.in-Some.ensures.chronicle) h
    (clean-refused-disk j k u (record { stopped = c.in-Some.ensures.stopped; full = c.in-Some.ensures.full; free = c.in-Some.ensures.free }))

pub returns-in-Err-clause-since : goal.returns-in-Err-clause-since
returns-in-Err-clause-since g c = λ began h.
    let j = c.args.journal.now in
    let k = c.refuse_clean.new.self in
    let none = none_from c.refuse_clean.result (λ x is. c.in_default.not-Some x is) in
    let refuses = subst (λ (o : Option Upkeep). RefusesClean j k o) none (record { stopped = c.refuse_clean.ensures.stopped; full = c.refuse_clean.ensures.full; free = c.refuse_clean.ensures.free }) in
    since-room g.D.Disk.moment g.D.Disk.left_since g.row.SLOTS began j k (clean-free j k refuses).takes h

pub returns-clause-since : goal.returns-clause-since
returns-clause-since g c = λ began h.
    let j = c.args.journal.now in
    let k = c.refuse_clean.new.self in
    let m = c.clean-answer.new.self in
    let r = c.clean-answer.result in
    let none = none_from c.refuse_clean.result (λ x is. c.in_default.not-Some x is) in
    let look = subst (λ (o : Option Upkeep). GoesOnWith g.row.SLOTS no_page j k None (marked_by_refusal o)) none c.refuse_clean.ensures.chronicle in
    let refuses = subst (λ (o : Option Upkeep). RefusesClean j k o) none (record { stopped = c.refuse_clean.ensures.stopped; full = c.refuse_clean.ensures.full; free = c.refuse_clean.ensures.free }) in
    since-upkeep g.D.Disk.moment g.D.Disk.left_since g.row.SLOTS began j m
    (later-history g.row.SLOTS j m c.know_noted.ensures.history c.know_history-2.ensures.history no_page (entered_by_upkeep r) (marked_by_upkeep r) (goes-behind g.row.SLOTS no_page j k m (marked_by_upkeep r) look (entered_by_upkeep r) c.clean-answer.ensures.chronicle)) h
    (opens-before g.D.Disk.moment g.D.Disk.left_since j k m.disk (clean-free j k refuses).takes g.row.SLOTS c.clean-answer.ensures.opens)
