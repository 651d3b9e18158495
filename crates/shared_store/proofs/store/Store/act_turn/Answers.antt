use Rattle.std.proofs.Common.{◌≡◌, ◌≤◌, ◌*◌, ℕ, List, [], None, Some, Option, length, sym, ap, subst, ◌∙◌, arith, rules}
use Rattle.core_store.specs.declared.frame.Frame.{Frame}
use Rattle.core_store.specs.Frames.{AllAgree}
use Rattle.core_store.specs.JournalView.{JournalView, cells_of}
use Rattle.core_store.proofs.MapLaws.{none_from}
use Rattle.framed_journal.proofs.HoldLaws.{slots-few}
use Rattle.logged_journal.specs.declared.upkeep.Upkeep.{Upkeep}
use Rattle.disk_model.specs.Told.{EachImage}
use Rattle.logged_journal.specs.Opens.{OpensAfter}
use Rattle.logged_journal.specs.Records.{MayBeLeft}
use Rattle.logged_journal.specs.View.{LoggedView, history_of}
use Rattle.shared_store.specs.Chronicles.Steps.{GoesOnWith, no_mark, no_page, entered_by_refusal, entered_by_upkeep, marked_by_refusal, marked_by_upkeep}
use Rattle.shared_store.specs.Passes.{Known}
use Rattle.shared_store.specs.Holding.{with_pages}
use Rattle.shared_store.proofs.Kept.{acts-none}
use Rattle.shared_store.proofs.Looks.{goes-behind, still-journal}
use Rattle.shared_store.proofs.Pairs.{with_none}
use Rattle.shared_store.proofs.Upkeeps.{RefusesTurn, turn-free, turn-refused, turn-behind, turn-no_memory}
use Rattle.shared_store.proofs.Moments.{moments-before, moments-still, opens-before, opens-still}
use Rattle.shared_store.proofs.Since.{later-history, since-still, since-upkeep}
use Rattle.shared_store.proofs.store.Store.act_turn.Goals as goal

-- ---- it is refused

pub returns-in-Some-clause-acts : goal.returns-in-Some-clause-acts
returns-in-Some-clause-acts g c =
    let v = c.args.hold.now.view in
    let u = c.in-Some.answer in
    acts-none g.row.SLOTS v v c.args.journal.now c.refuse_turn.new.self (entered_by_upkeep u) (marked_by_upkeep u) None (with_none v c.requires.none c.requires.journal.idle) tt c.in-Some.ensures.chronicle

pub returns-in-Some-clause-made : goal.returns-in-Some-clause-made
returns-in-Some-clause-made g c =
    let e = c.in-Some.ensures in
    turn-refused g.row.SLOTS g.D.Disk.faults g.D.Disk.content g.D.Disk.may_leave c.args.journal.now c.refuse_turn.new.self c.in-Some.answer
    (record { stopped = e.stopped; only_stopped = e.only_stopped; full = e.full; marked = e.marked; busy = e.busy; only_busy = e.only_busy; told = e.told; memory = e.memory; never = e.never; free = e.free; untouched = e.untouched })
    c.know_history.ensures.legal

-- ---- it is not

pub returns-in_default-with_capacity-clause-acts : goal.returns-in_default-with_capacity-clause-acts
returns-in_default-with_capacity-clause-acts g c =
    let v = c.args.hold.now.view in
    let j = c.args.journal.now in
    let k = c.refuse_turn.new.self in
    let look = subst (λ (o : Option Upkeep). GoesOnWith g.row.SLOTS no_page j k (entered_by_refusal o) (marked_by_refusal o)) (none_from c.refuse_turn.result (λ x is. c.in_default.not-Some x is)) c.refuse_turn.ensures.chronicle in
    acts-none g.row.SLOTS v v j k None no_mark None (with_none v c.requires.none c.requires.journal.idle) tt look

pub returns-in_default-with_capacity-clause-made : goal.returns-in_default-with_capacity-clause-made
returns-in_default-with_capacity-clause-made g c =
    let j = c.args.journal.now in
    let k = c.refuse_turn.new.self in
    let n = c.refuse_turn.ensures in
    let none = none_from c.refuse_turn.result (λ x is. c.in_default.not-Some x is) in
    let refuses = subst (λ (o : Option Upkeep). RefusesTurn g.row.SLOTS j k o) none
    (record { stopped = n.stopped; only_stopped = n.only_stopped; full = n.full; marked = n.marked; busy = n.busy; only_busy = n.only_busy; told = n.told; memory = n.memory; never = n.never; free = n.free; untouched = n.untouched }) in
    turn-no_memory g.row.SLOTS g.D.Disk.faults g.D.Disk.content g.D.Disk.may_leave j k (turn-free g.row.SLOTS j k refuses) (n.free none).1 c.know_history-2.ensures.legal

pub returns-in-Err-clause-acts : goal.returns-in-Err-clause-acts
returns-in-Err-clause-acts g c =
    let v = c.args.hold.now.view in
    let j = c.args.journal.now in
    let k = c.refuse_turn.new.self in
    let f = c.in-Err.found in
    let met = c.in-Err.ensures.met in
    let look = subst (λ (o : Option Upkeep). GoesOnWith g.row.SLOTS no_page j k (entered_by_refusal o) (marked_by_refusal o)) (none_from c.refuse_turn.result (λ x is. c.in_default.not-Some x is)) c.refuse_turn.ensures.chronicle in
    acts-none g.row.SLOTS v c.drop_all.new.hold.view j k None no_mark (Some (f.word, f.seat)) (met.1.0, (met.1.1.0, met.1.1.1, c.drop_all.ensures.view ∙ ap (λ (z : Known g.row.SLOTS). with_pages z []) met.1.1.2)) met.0 look

pub turn-answer-requires-after_bounds : goal.turn-answer-requires-after_bounds
turn-answer-requires-after_bounds g c κs within =
    let small : g.row.SLOTS ≤ 14 = slots-few g.row.SLOTS c.self.invariant.size in
    let v = c.args.hold.now.view in
    let j = c.args.journal.now in
    let k = c.refuse_turn.new.self in
    let look = subst (λ (o : Option Upkeep). GoesOnWith g.row.SLOTS no_page j k (entered_by_refusal o) (marked_by_refusal o)) (none_from c.refuse_turn.result (λ x is. c.in_default.not-Some x is)) c.refuse_turn.ensures.chronicle in
    let has = still-journal g.row.SLOTS j k c.args.self.now.pages v look c.requires.journal in
    let same : c.journal.result.now ≡ k.journal = c.journal.ensures.journal ∙ ap (λ (z : LoggedView g.row.D.Denot). z.journal) c.logged-2.ensures.logged in
    let ids = ap (λ (x : JournalView). x.history.ids) same in
    let count = c.opening.ensures.by_ids.count in
    let many = c.in_default-claim_all.ensures.ok.0 in
    let items : c.as_slice.result.now ≡ c.claim_all.new.frames.items = c.as_slice.ensures.value in
    let long : length c.as_slice.result.now ≡ length c.claim_all.new.frames.items = ap length items in
    (search rules, (search rules, (omega (arith, has.ids, ids, count, many, long), subst (λ (fs : List (Frame g.row.SLOTS)). AllAgree (cells_of k.journal) fs) (sym items) c.claim_all.ensures.agree)))

pub returns-clause-acts : goal.returns-clause-acts
returns-clause-acts g c =
    let v = c.args.hold.now.view in
    let j = c.args.journal.now in
    let k = c.refuse_turn.new.self in
    let m = c.turn-answer.new.self in
    let r = c.turn-answer.result in
    let look = subst (λ (o : Option Upkeep). GoesOnWith g.row.SLOTS no_page j k (entered_by_refusal o) (marked_by_refusal o)) (none_from c.refuse_turn.result (λ x is. c.in_default.not-Some x is)) c.refuse_turn.ensures.chronicle in
    acts-none g.row.SLOTS v c.drop_all-2.new.hold.view j m (entered_by_upkeep r) (marked_by_upkeep r) None (c.in_default-claim_all.ensures.ok.1.0, c.drop_all-2.ensures.view ∙ ap (λ (z : Known g.row.SLOTS). with_pages z []) c.in_default-claim_all.ensures.ok.1.1) tt
    (goes-behind g.row.SLOTS no_page j k m (marked_by_upkeep r) look (entered_by_upkeep r) c.turn-answer.ensures.chronicle)

pub returns-clause-made : goal.returns-clause-made
returns-clause-made g c =
    let j = c.args.journal.now in
    let k = c.refuse_turn.new.self in
    let e = c.turn-answer.ensures in
    let n = c.refuse_turn.ensures in
    let none = none_from c.refuse_turn.result (λ x is. c.in_default.not-Some x is) in
    let refuses = subst (λ (o : Option Upkeep). RefusesTurn g.row.SLOTS j k o) none
    (record { stopped = n.stopped; only_stopped = n.only_stopped; full = n.full; marked = n.marked; busy = n.busy; only_busy = n.only_busy; told = n.told; memory = n.memory; never = n.never; free = n.free; untouched = n.untouched }) in
    let v = c.args.hold.now.view in
    let look = subst (λ (o : Option Upkeep). GoesOnWith g.row.SLOTS no_page j k (entered_by_refusal o) (marked_by_refusal o)) (none_from c.refuse_turn.result (λ x is. c.in_default.not-Some x is)) c.refuse_turn.ensures.chronicle in
    let has = still-journal g.row.SLOTS j k c.args.self.now.pages v look c.requires.journal in
    let same : c.journal.result.now ≡ k.journal = c.journal.ensures.journal ∙ ap (λ (z : LoggedView g.row.D.Denot). z.journal) c.logged-2.ensures.logged in
    let ids = ap (λ (x : JournalView). x.history.ids) same in
    let count = c.opening.ensures.by_ids.count in
    let many = c.in_default-claim_all.ensures.ok.0 in
    let items : c.as_slice.result.now ≡ c.claim_all.new.frames.items = c.as_slice.ensures.value in
    let long : length c.as_slice.result.now ≡ length c.claim_all.new.frames.items = ap length items in
    let pages : 8 * length c.as_slice.result.now ≡ k.journal.history.ids = omega (arith, has.ids, ids, count, many, long) in
    let agree = subst (λ (fs : List (Frame g.row.SLOTS)). AllAgree (cells_of k.journal) fs) (sym items) c.claim_all.ensures.agree in
    turn-behind g.row.SLOTS g.D.Disk.faults g.D.Disk.content g.D.Disk.may_leave j k c.turn-answer.new.self c.turn-answer.result (turn-free g.row.SLOTS j k refuses) (n.free none).1
    (record {
      legal = c.know_history-3.ensures.legal;
      stopped = e.stopped;
      only_stopped = e.only_stopped;
      full = e.full;
      marked = e.marked;
      busy = e.busy;
      only_busy = e.only_busy;
      told = e.told;
      log_full = e.log_full;
      too_long = e.too_long;
      only_too_long = e.only_too_long;
      log_marked = e.log_marked;
      memory = e.memory;
      done = e.done;
      turned = e.turned;
      old_log = λ done. record { frames = c.as_slice.result.now; pages = pages; agree = agree; forced = e.old_log done };
      super_area = e.super_area;
      fault = e.fault;
      later = e.later;
      count = e.count;
    })

-- ---- what a power loss leaves

pub returns-in-Some-clause-moments : goal.returns-in-Some-clause-moments
returns-in-Some-clause-moments g c =
    moments-still g.D.Disk.may_leave g.D.Disk.moment g.D.Disk.left_since g.D.Disk.only_now c.args.journal.now c.refuse_turn.new.self
    c.in-Some.ensures.untouched.disk
    (subst (λ (v : LoggedView g.row.D.Denot). EachImage g.D.Disk.may_leave v.disk (MayBeLeft v)) c.logged.ensures.logged c.durable-pages.ensures.images)

pub returns-in-Some-clause-opens : goal.returns-in-Some-clause-opens
returns-in-Some-clause-opens g c =
    opens-still g.D.Disk.may_leave g.D.Disk.moment g.D.Disk.left_since g.D.Disk.only_now c.args.journal.now c.refuse_turn.new.self
    c.in-Some.ensures.untouched.disk g.row.SLOTS
    (subst (λ (v : LoggedView g.row.D.Denot). EachImage g.D.Disk.may_leave v.disk (OpensAfter g.row.SLOTS (history_of v))) c.logged.ensures.logged c.durable-pages.ensures.opens)

pub returns-in_default-with_capacity-clause-moments : goal.returns-in_default-with_capacity-clause-moments
returns-in_default-with_capacity-clause-moments g c =
    moments-still g.D.Disk.may_leave g.D.Disk.moment g.D.Disk.left_since g.D.Disk.only_now c.args.journal.now c.refuse_turn.new.self
    c.refuse_turn.ensures.untouched.disk
    (subst (λ (v : LoggedView g.row.D.Denot). EachImage g.D.Disk.may_leave v.disk (MayBeLeft v)) c.logged.ensures.logged c.durable-pages.ensures.images)

pub returns-in_default-with_capacity-clause-opens : goal.returns-in_default-with_capacity-clause-opens
returns-in_default-with_capacity-clause-opens g c =
    opens-still g.D.Disk.may_leave g.D.Disk.moment g.D.Disk.left_since g.D.Disk.only_now c.args.journal.now c.refuse_turn.new.self
    c.refuse_turn.ensures.untouched.disk g.row.SLOTS
    (subst (λ (v : LoggedView g.row.D.Denot). EachImage g.D.Disk.may_leave v.disk (OpensAfter g.row.SLOTS (history_of v))) c.logged.ensures.logged c.durable-pages.ensures.opens)

pub returns-clause-moments : goal.returns-clause-moments
returns-clause-moments g c =
    let n = c.refuse_turn.ensures in
    let none = none_from c.refuse_turn.result (λ x is. c.in_default.not-Some x is) in
    let refuses = subst (λ (o : Option Upkeep). RefusesTurn g.row.SLOTS c.args.journal.now c.refuse_turn.new.self o) none
    (record { stopped = n.stopped; only_stopped = n.only_stopped; full = n.full; marked = n.marked; busy = n.busy; only_busy = n.only_busy; told = n.told; memory = n.memory; never = n.never; free = n.free; untouched = n.untouched }) in
    moments-before g.D.Disk.moment g.D.Disk.left_since c.args.journal.now c.refuse_turn.new.self c.turn-answer.new.self.disk (turn-free g.row.SLOTS c.args.journal.now c.refuse_turn.new.self refuses).takes c.turn-answer.ensures.moments

pub returns-clause-opens : goal.returns-clause-opens
returns-clause-opens g c =
    let n = c.refuse_turn.ensures in
    let none = none_from c.refuse_turn.result (λ x is. c.in_default.not-Some x is) in
    let refuses = subst (λ (o : Option Upkeep). RefusesTurn g.row.SLOTS c.args.journal.now c.refuse_turn.new.self o) none
    (record { stopped = n.stopped; only_stopped = n.only_stopped; full = n.full; marked = n.marked; busy = n.busy; only_busy = n.only_busy; told = n.told; memory = n.memory; never = n.never; free = n.free; untouched = n.untouched }) in
    opens-before g.D.Disk.moment g.D.Disk.left_since c.args.journal.now c.refuse_turn.new.self c.turn-answer.new.self.disk (turn-free g.row.SLOTS c.args.journal.now c.refuse_turn.new.self refuses).takes g.row.SLOTS c.turn-answer.ensures.opens

-- ---- what was left since the store began

pub returns-in-Some-clause-since : goal.returns-in-Some-clause-since
returns-in-Some-clause-since g c = λ began h.
    let j = c.args.journal.now in
    let k = c.refuse_turn.new.self in
    let u = c.in-Some.answer in
    since-still g.D.Disk.moment g.D.Disk.left_since g.row.SLOTS began j k
    (later-history g.row.SLOTS j k c.know_noted.ensures.history c.know_history.ensures.history no_page (entered_by_upkeep u) (marked_by_upkeep u) c.in-Some.ensures.chronicle) h c.in-Some.ensures.untouched.disk

pub returns-in_default-with_capacity-clause-since : goal.returns-in_default-with_capacity-clause-since
returns-in_default-with_capacity-clause-since g c = λ began h.
    let j = c.args.journal.now in
    let k = c.refuse_turn.new.self in
    let none = none_from c.refuse_turn.result (λ x is. c.in_default.not-Some x is) in
    let look = subst (λ (o : Option Upkeep). GoesOnWith g.row.SLOTS no_page j k (entered_by_refusal o) (marked_by_refusal o)) none c.refuse_turn.ensures.chronicle in
    since-still g.D.Disk.moment g.D.Disk.left_since g.row.SLOTS began j k
    (later-history g.row.SLOTS j k c.know_noted.ensures.history c.know_history-2.ensures.history no_page None no_mark look) h c.refuse_turn.ensures.untouched.disk

pub returns-in-Err-clause-since : goal.returns-in-Err-clause-since
returns-in-Err-clause-since g c = λ began h.
    let j = c.args.journal.now in
    let k = c.refuse_turn.new.self in
    let none = none_from c.refuse_turn.result (λ x is. c.in_default.not-Some x is) in
    let look = subst (λ (o : Option Upkeep). GoesOnWith g.row.SLOTS no_page j k (entered_by_refusal o) (marked_by_refusal o)) none c.refuse_turn.ensures.chronicle in
    since-still g.D.Disk.moment g.D.Disk.left_since g.row.SLOTS began j k
    (later-history g.row.SLOTS j k c.know_noted.ensures.history c.know_history-2.ensures.history no_page None no_mark look) h c.refuse_turn.ensures.untouched.disk

pub returns-clause-since : goal.returns-clause-since
returns-clause-since g c = λ began h.
    let j = c.args.journal.now in
    let k = c.refuse_turn.new.self in
    let m = c.turn-answer.new.self in
    let r = c.turn-answer.result in
    let n = c.refuse_turn.ensures in
    let none = none_from c.refuse_turn.result (λ x is. c.in_default.not-Some x is) in
    let look = subst (λ (o : Option Upkeep). GoesOnWith g.row.SLOTS no_page j k (entered_by_refusal o) (marked_by_refusal o)) none n.chronicle in
    let refuses = subst (λ (o : Option Upkeep). RefusesTurn g.row.SLOTS j k o) none
    (record { stopped = n.stopped; only_stopped = n.only_stopped; full = n.full; marked = n.marked; busy = n.busy; only_busy = n.only_busy; told = n.told; memory = n.memory; never = n.never; free = n.free; untouched = n.untouched }) in
    since-upkeep g.D.Disk.moment g.D.Disk.left_since g.row.SLOTS began j m
    (later-history g.row.SLOTS j m c.know_noted.ensures.history c.know_history-3.ensures.history no_page (entered_by_upkeep r) (marked_by_upkeep r) (goes-behind g.row.SLOTS no_page j k m (marked_by_upkeep r) look (entered_by_upkeep r) c.turn-answer.ensures.chronicle)) h
    (opens-before g.D.Disk.moment g.D.Disk.left_since j k m.disk (turn-free g.row.SLOTS j k refuses).takes g.row.SLOTS c.turn-answer.ensures.opens)
