-- What upkeep does to the journal that it was called on: a refusal, or the journal's own upkeep in room that was taken before.
use Rattle.std.proofs.Common.{◌≡◌, ◌≢◌, ◌⊎◌, ℕ, ◌≤◌, Bool, true, false, List, Option, Some, None, Result, Ok, Err, refl, sym, ap, ◌∙◌, subst, inl, inr, arith}
use Rattle.std.specs.Prelude.{◌↔◌, is_some, IfOk, IfSome, IsSome}
use Rattle.disk_model.specs.declared.area.Area.{Area}
use Rattle.disk_model.specs.Areas.{Bytes}
use Rattle.disk_model.specs.Time.{LeavesOnlyImages}
use Rattle.plain_model.specs.History.{IsLegal, end_of, least_active}
use Rattle.cell_page.specs.declared.cell.Cell.{Cell as PageCell}
use Rattle.core_store.specs.Limited.{is_past_limit}
use Rattle.logged_journal.specs.declared.failed.FailedCall.{FailedCall}
use Rattle.logged_journal.specs.declared.upkeep.Upkeep.{Upkeep}
use Rattle.logged_journal.specs.declared.upkeep.Upkeep.TheVariants as upkeep
use Rattle.logged_journal.specs.View.{LoggedView, OnlyTakesRoom, history_of}
use Rattle.logged_journal.specs.Calls.{KeepsDisk}
use Rattle.logged_journal.specs.Opens.{OpensAfter}
use Rattle.logged_journal.specs.Upkeep.{IsPastLogToClean, IsPastLogToTurn, Cleans, Turns, TellsBusy, FailsUpkeep}
use Rattle.logged_journal.proofs.NamedAreas.{names-still}
use Rattle.logged_journal.proofs.OldLogs.{only-memory}
use Rattle.latch_table.specs.declared.hold.Held.{Held}
use Rattle.latch_table.specs.Holds.{IsAlone}
use Rattle.latch_table.specs.Rule.{IsLater, KeepsEachOnce}
use Rattle.shared_store.specs.Chronicles.Steps.{entered_by_upkeep}
use Rattle.shared_store.specs.Chronicles.View.{account, notes_of}
use Rattle.shared_store.specs.Calls.{Finds, KeepsNoted, WasNoted}
use Rattle.shared_store.specs.Passes.{Known}
use Rattle.plain_model.specs.declared.calls.Entry.{Entry}
use Rattle.shared_store.specs.Upkeep.{DoesCleanOn, DoesTurnOn, MakesClean, MakesTurn, entered_by_upkeep_of}

-- the journal with its log, with this room taken
abbrev pub with_room : {D : Type 0} → LoggedView D → Bool → ℕ → LoggedView D
with_room u reserved room = record u { journal = record u.journal { reserved = reserved }; log = record u.log { room = room } }

is-false : (b : Bool) → (b ≡ true → ⊥) → b ≡ false
is-false true n = absurd (n refl)
is-false false n = refl

is-that : (u w : Upkeep) → Some u ≡ Some w → u ≡ w
is-that u w e = cc

-- ---- what tests upkeep before a page is looked at

-- what refuses that a page is cleaned
pub record RefusesClean {D : Type 0} (j k : LoggedView D) (answer : Option Upkeep) : Type 0 where
  pub stopped : IfSome j.failed (λ f. (answer ≡ Some (upkeep.Stopped f.faults)) × (k ≡ j))
  pub full : j.failed ≡ None → is_past_limit j.journal 1 ≡ true → (answer ≡ Some upkeep.TraceFull) × (k ≡ record j { journal = record j.journal { marks = record j.journal.marks { trace = true } } })
  pub free : j.failed ≡ None → is_past_limit j.journal 1 ≡ false → (answer ≡ None) × OnlyTakesRoom j k

-- what refuses that the log is turned
pub record RefusesTurn {D : Type 0} (slots : ℕ) (j k : LoggedView D) (answer : Option Upkeep) : Type 0 where
  pub stopped : IfSome j.failed (λ f. (answer ≡ Some (upkeep.Stopped f.faults)) × (k ≡ j))
  pub only_stopped : (n : ℕ) → answer ≡ Some (upkeep.Stopped n) → IsSome j.failed
  pub full : (answer ≡ Some upkeep.TraceFull) ↔ (j.failed ≡ None) × (is_past_limit j.journal 1 ≡ true)
  pub marked : answer ≡ Some upkeep.TraceFull → k ≡ record j { journal = record j.journal { marks = record j.journal.marks { trace = true } } }
  pub busy : (client : ℕ) → j.failed ≡ None → is_past_limit j.journal 1 ≡ false → least_active (end_of j.journal.history).state ≡ Some client → (answer ≡ Some (upkeep.Busy client)) ⊎ (answer ≡ Some upkeep.Memory)
  pub only_busy : (client : ℕ) → answer ≡ Some (upkeep.Busy client) → least_active (end_of j.journal.history).state ≡ Some client
  pub told : (client : ℕ) → answer ≡ Some (upkeep.Busy client) → TellsBusy slots j k client
  pub memory : answer ≡ Some upkeep.Memory → k ≡ j
  pub never : (answer ≢ Some upkeep.Done) × (answer ≢ Some upkeep.LogFull) × (answer ≢ Some upkeep.DiskFault)
  pub untouched : KeepsDisk j k
  pub free : answer ≡ None → (j.failed ≡ None) × (least_active (end_of j.journal.history).state ≡ None) × (k ≡ record j { journal = record j.journal { reserved = true } })

-- it is not refused: at most room was taken
pub record MayUpkeep {D : Type 0} (j k : LoggedView D) : Type 0 where
  pub running : j.failed ≡ None
  pub room : is_past_limit j.journal 1 ≡ false
  pub takes : OnlyTakesRoom j k

-- a refusal enters nothing
pub clean-enters_none : {D : Type 0} (j k : LoggedView D) (u : Upkeep) → RefusesClean j k (Some u) → entered_by_upkeep u ≡ None
clean-enters_none {D} j k u r = by_failed j.failed refl r.stopped (is_past_limit j.journal 1) refl
  where
    by_failed : (o : Option FailedCall) → j.failed ≡ o → IfSome o (λ f. (Some u ≡ Some (upkeep.Stopped f.faults)) × (k ≡ j)) → (past : Bool) → is_past_limit j.journal 1 ≡ past → entered_by_upkeep u ≡ None
    by_failed (Some f) failed s past is = ap entered_by_upkeep (is-that u (upkeep.Stopped f.faults) s.0)
    by_failed None running s true past = let a = r.full running past in ap entered_by_upkeep (is-that u upkeep.TraceFull a.0)
    by_failed None running s false past = absurd (let a = r.free running past in let e = a.0 in cc)

pub clean-free : {D : Type 0} (j k : LoggedView D) → RefusesClean j k None → MayUpkeep j k
clean-free {D} j k r = by_failed j.failed refl r.stopped (is_past_limit j.journal 1) refl
  where
    by_failed : (o : Option FailedCall) → j.failed ≡ o → IfSome o (λ f. ◌≡◌ {A = Option Upkeep} None (Some (upkeep.Stopped f.faults)) × (k ≡ j)) → (past : Bool) → is_past_limit j.journal 1 ≡ past → MayUpkeep j k
    by_failed (Some f) failed s past is = absurd (let e = s.0 in cc)
    by_failed None running s true past = absurd (let a = r.full running past in let e = a.0 in cc)
    by_failed None running s false past = let a = r.free running past in record { running = running; room = past; takes = a.1 }

pub turn-free : {D : Type 0} (slots : ℕ) (j k : LoggedView D) → RefusesTurn slots j k None → MayUpkeep j k
turn-free {D} slots j k r =
    let f = r.free refl in
    record {
      running = f.0;
      room = is-false (is_past_limit j.journal 1) (λ past. let e = r.full.1 (f.0, past) in absurd (cc));
      takes = subst (λ (x : LoggedView D). OnlyTakesRoom j x) (sym f.2) refl;
    }

module _ {D : Type 0} (slots : ℕ) (faults : D → ℕ) (may_leave : D → Area → List ℕ → Type 0) where
  -- the disk stayed
  same-faults : (j k : LoggedView D) → k.disk ≡ j.disk → faults j.disk ≤ faults k.disk
  same-faults j k same = let e : faults k.disk ≡ faults j.disk = ap faults same in omega arith

  -- ---- a page is cleaned

  clean-was_stopped : (j k : LoggedView D) (page : ℕ) (f : FailedCall) → j.failed ≡ Some f → k ≡ j → IsLegal (history_of k) → DoesCleanOn slots faults may_leave j k page (upkeep.Stopped f.faults)
  clean-was_stopped j k page f failed same legal = record {
    legal = legal;
    stopped = subst (λ (o : Option FailedCall). IfSome o (λ x. (upkeep.Stopped f.faults ≡ upkeep.Stopped x.faults) × (k ≡ j))) (sym failed) (refl, same);
    only_stopped = λ n e. ap is_some failed;
    never_busy = λ client e. absurd (cc);
    full = (λ e. absurd (cc), λ p. absurd (let r = sym failed ∙ p.0 in cc));
    marked = λ e. absurd (cc);
    log_full = (λ e. absurd (cc), λ p. absurd (let r = sym failed ∙ p.running in cc));
    log_marked = λ e. absurd (cc);
    memory = λ e. absurd (cc);
    done = λ e. absurd (cc);
    fault = λ e. absurd (cc);
    later = same-faults j k (ap (λ (x : LoggedView D). x.disk) same);
  }

  clean-was_full : (j k : LoggedView D) (page : ℕ) → j.failed ≡ None → is_past_limit j.journal 1 ≡ true → k ≡ record j { journal = record j.journal { marks = record j.journal.marks { trace = true } } } → IsLegal (history_of k)
      → DoesCleanOn slots faults may_leave j k page upkeep.TraceFull
  clean-was_full j k page running past is legal = record {
    legal = legal;
    stopped = subst (λ (o : Option FailedCall). IfSome o (λ x. (upkeep.TraceFull ≡ upkeep.Stopped x.faults) × (k ≡ j))) (sym running) tt;
    only_stopped = λ n e. absurd (cc);
    never_busy = λ client e. absurd (cc);
    full = (λ e. (running, past), λ p. refl);
    marked = λ e. is;
    log_full = (λ e. absurd (cc), λ p. absurd (let r = sym past ∙ p.room in cc));
    log_marked = λ e. absurd (cc);
    memory = λ e. absurd (cc);
    done = λ e. absurd (cc);
    fault = λ e. absurd (cc);
    later = same-faults j k (ap (λ (x : LoggedView D). x.disk) is);
  }

  -- it is refused, and the journal stays, but for its mark
  pub clean-refused : (j k : LoggedView D) (page : ℕ) (u : Upkeep) → RefusesClean j k (Some u) → IsLegal (history_of k) → DoesCleanOn slots faults may_leave j k page u
  clean-refused j k page u r legal = by_failed j.failed refl r.stopped (is_past_limit j.journal 1) refl
    where
      by_failed : (o : Option FailedCall) → j.failed ≡ o → IfSome o (λ f. (Some u ≡ Some (upkeep.Stopped f.faults)) × (k ≡ j)) → (past : Bool) → is_past_limit j.journal 1 ≡ past → DoesCleanOn slots faults may_leave j k page u
      by_failed (Some f) failed s past is = subst (DoesCleanOn slots faults may_leave j k page) (sym (is-that u (upkeep.Stopped f.faults) s.0)) (clean-was_stopped j k page f failed s.1 legal)
      by_failed None running s true past = let a = r.full running past in subst (DoesCleanOn slots faults may_leave j k page) (sym (is-that u upkeep.TraceFull a.0)) (clean-was_full j k page running past a.1 legal)
      by_failed None running s false past = absurd (let a = r.free running past in let e = a.0 in cc)

  -- in room that was taken before, the journal does what it does without
  cleans-in_room : (u w : LoggedView D) (reserved : Bool) (room page : ℕ) (held : List (PageCell slots)) → Cleans (with_room u reserved room) w page held → Cleans u w page held
  cleans-in_room u w reserved room page held c = let d = c.does in record {
    does = record { journal = d.journal; durable = d.durable; tail = d.tail; running = d.running; log_full = d.log_full; peak = d.peak; opened = d.opened };
    log = c.log;
    current = c.current;
    imaged = c.imaged;
  }

  fails-in_room : (u w : LoggedView D) (reserved : Bool) (room : ℕ) → FailsUpkeep faults (with_room u reserved room) w → FailsUpkeep faults u w
  fails-in_room u w reserved room f = record { journal = f.journal; told = f.told; rose = f.rose; durable = f.durable; log_full = f.log_full; peak = f.peak; counted = f.counted; opened = f.opened }

  past-in_room : (u : LoggedView D) (reserved : Bool) (room : ℕ) → IsPastLogToClean slots (with_room u reserved room) → IsPastLogToClean slots u
  past-in_room u reserved room p = record { running = p.running; room = p.room; past = p.past }

  past-with_room : (u : LoggedView D) (reserved : Bool) (room : ℕ) → IsPastLogToClean slots u → IsPastLogToClean slots (with_room u reserved room)
  past-with_room u reserved room p = record { running = p.running; room = p.room; past = p.past }

  clean-in_room : (u w : LoggedView D) (reserved : Bool) (room page : ℕ) (r : Upkeep) → u.failed ≡ None → is_past_limit u.journal 1 ≡ false → DoesCleanOn slots faults may_leave (with_room u reserved room) w page r → DoesCleanOn slots faults may_leave u w page r
  clean-in_room u w reserved room page r running free d = record {
    legal = d.legal;
    stopped = subst (λ (o : Option FailedCall). IfSome o (λ x. (r ≡ upkeep.Stopped x.faults) × (w ≡ u))) (sym running) tt;
    only_stopped = d.only_stopped;
    never_busy = d.never_busy;
    full = d.full;
    marked = λ e. absurd (let p = d.full.0 e in let q = sym free ∙ p.1 in cc);
    log_full = (λ e. past-in_room u reserved room (d.log_full.0 e), λ p. d.log_full.1 (past-with_room u reserved room p));
    log_marked = d.log_marked;
    memory = d.memory;
    done = λ e. let c = d.done e in record { held = c.held; holds = c.holds; cleans = cleans-in_room u w reserved room page c.held c.cleans; images = c.images };
    fault = λ e. fails-in_room u w reserved room (d.fault e);
    later = d.later;
  }

  pub clean-behind : (j k w : LoggedView D) (page : ℕ) (r : Upkeep) → MayUpkeep j k → DoesCleanOn slots faults may_leave k w page r → DoesCleanOn slots faults may_leave j w page r
  clean-behind j k w page r m d = clean-in_room j w k.journal.reserved k.log.room page r m.running m.room (subst (λ (x : LoggedView D). DoesCleanOn slots faults may_leave x w page r) m.takes d)

-- ---- the log is turned

module _ {D : Type 0} (slots : ℕ) (faults : D → ℕ) (content : D → Area → Option (List ℕ)) (may_leave : D → Area → List ℕ → Type 0) where
  stopped-is : (o : Option FailedCall) (u : Upkeep) (P : Type 0) → IfSome o (λ f. (Some u ≡ Some (upkeep.Stopped f.faults)) × P) → IfSome o (λ f. (u ≡ upkeep.Stopped f.faults) × P)
  stopped-is None u P s = tt
  stopped-is (Some f) u P s = (is-that u (upkeep.Stopped f.faults) s.0, s.1)

  either-is : (u v w : Upkeep) → (Some u ≡ Some v) ⊎ (Some u ≡ Some w) → (u ≡ v) ⊎ (u ≡ w)
  either-is u v w (inl e) = inl (is-that u v e)
  either-is u v w (inr e) = inr (is-that u w e)

  -- it is refused before a page is looked at
  pub turn-refused : (j k : LoggedView D) (u : Upkeep) → RefusesTurn slots j k (Some u) → IsLegal (history_of k) → DoesTurnOn slots faults content may_leave j k u
  turn-refused j k u r legal = record {
    legal = legal;
    stopped = stopped-is j.failed u (k ≡ j) r.stopped;
    only_stopped = λ n e. r.only_stopped n (ap Some e);
    full = (λ e. r.full.0 (ap Some e), λ p. is-that u upkeep.TraceFull (r.full.1 p));
    marked = λ e. r.marked (ap Some e);
    busy = λ client running room least. either-is u (upkeep.Busy client) upkeep.Memory (r.busy client running room least);
    only_busy = λ client e. r.only_busy client (ap Some e);
    told = λ client e. r.told client (ap Some e);
    log_full = λ e. absurd (r.never.1 (ap Some e));
    too_long = λ e. absurd (r.never.1 (ap Some e));
    only_too_long = λ past. inr (only-memory u (λ e. r.never.0 (ap Some e)) (λ e. r.never.1 (ap Some e)) (λ e. r.never.2 (ap Some e))
        (λ e. let full = (r.full.0 (ap Some e)).1 in let room = past.room in absurd (let clash = sym full ∙ room in cc))
        (λ n e. let some = r.only_stopped n (ap Some e) in let running = past.running in absurd (let clash = subst (λ (o : Option FailedCall). IsSome o) running some in cc))
        (λ client e. let least = r.only_busy client (ap Some e) in let idle = past.idle in absurd (let clash = sym idle ∙ least in cc)));
    log_marked = λ e. absurd (r.never.1 (ap Some e));
    memory = λ e. subst (λ (x : LoggedView D). OnlyTakesRoom j x) (sym (r.memory (ap Some e))) refl;
    done = λ e. absurd (r.never.0 (ap Some e));
    turned = λ e. absurd (r.never.0 (ap Some e));
    old_log = λ e. absurd (r.never.0 (ap Some e));
    super_area = names-still content may_leave j k u r.untouched.disk (λ e. r.never.0 (ap Some e));
    fault = λ e. absurd (r.never.2 (ap Some e));
    later = same-faults slots faults may_leave j k r.untouched.disk;
    count = λ e. ap faults r.untouched.disk;
  }

  turns-in_room : (u w : LoggedView D) (reserved : Bool) (room : ℕ) → Turns slots (with_room u reserved room) w → Turns slots u w
  turns-in_room u w reserved room t = let d = t.does in record {
    does = record { journal = d.journal; durable = d.durable; tail = d.tail; running = d.running; log_full = d.log_full; peak = d.peak; opened = d.opened };
    area = t.area;
    first = t.first;
    marks = t.marks;
  }

  turn-in_room : (u w : LoggedView D) (reserved : Bool) (room : ℕ) (r : Upkeep) → u.failed ≡ None → is_past_limit u.journal 1 ≡ false → least_active (end_of u.journal.history).state ≡ None → DoesTurnOn slots faults content may_leave (with_room u reserved room) w r → DoesTurnOn slots faults content may_leave u w r
  turn-in_room u w reserved room r running free idle d = record {
    legal = d.legal;
    stopped = subst (λ (o : Option FailedCall). IfSome o (λ x. (r ≡ upkeep.Stopped x.faults) × (w ≡ u))) (sym running) tt;
    only_stopped = d.only_stopped;
    full = d.full;
    marked = λ e. absurd (let p = d.full.0 e in let q = sym free ∙ p.1 in cc);
    busy = d.busy;
    only_busy = d.only_busy;
    told = λ client e. absurd (let q = sym idle ∙ d.only_busy client e in cc);
    log_full = d.log_full;
    too_long = λ e. let p = d.too_long e in record { running = p.running; room = p.room; idle = p.idle; past = p.past };
    only_too_long = λ p. d.only_too_long (record { running = p.running; room = p.room; idle = p.idle; past = p.past });
    log_marked = d.log_marked;
    memory = d.memory;
    done = λ e. turns-in_room u w reserved room (d.done e);
    turned = d.turned;
    old_log = λ e. let f = d.old_log e in record { frames = f.frames; pages = f.pages; agree = f.agree; forced = f.forced };
    super_area = let f = d.super_area in record { others = f.others; named = f.named };
    fault = λ e. fails-in_room slots faults may_leave u w reserved room (d.fault e);
    later = d.later;
    count = d.count;
  }

  pub turn-behind : (j k w : LoggedView D) (r : Upkeep) → MayUpkeep j k → least_active (end_of j.journal.history).state ≡ None → DoesTurnOn slots faults content may_leave k w r → DoesTurnOn slots faults content may_leave j w r
  turn-behind j k w r m idle d = turn-in_room j w k.journal.reserved k.log.room r m.running m.room idle (subst (λ (x : LoggedView D). DoesTurnOn slots faults content may_leave x w r) m.takes d)

  -- there was no memory for the frames
  pub turn-no_memory : (j k : LoggedView D) → MayUpkeep j k → least_active (end_of j.journal.history).state ≡ None → IsLegal (history_of k) → DoesTurnOn slots faults content may_leave j k upkeep.Memory
  turn-no_memory j k m idle legal = record {
    legal = legal;
    stopped = subst (λ (o : Option FailedCall). IfSome o (λ x. (upkeep.Memory ≡ upkeep.Stopped x.faults) × (k ≡ j))) (sym m.running) tt;
    only_stopped = λ n e. absurd (cc);
    full = (λ e. absurd (cc), λ p. absurd (let q = sym m.room ∙ p.1 in cc));
    marked = λ e. absurd (cc);
    busy = λ client running room least. inr refl;
    only_busy = λ client e. absurd (cc);
    told = λ client e. absurd (cc);
    log_full = λ e. absurd (cc);
    too_long = λ e. absurd (cc);
    only_too_long = λ p. inr refl;
    log_marked = λ e. absurd (cc);
    memory = λ e. m.takes;
    done = λ e. absurd (cc);
    turned = λ e. absurd (cc);
    old_log = λ e. absurd (cc);
    super_area = names-still content may_leave j k upkeep.Memory (ap (λ (x : LoggedView D). x.disk) m.takes) (λ e. cc (e));
    fault = λ e. absurd (cc);
    later = same-faults slots faults may_leave j k (ap (λ (x : LoggedView D). x.disk) m.takes);
    count = λ e. ap faults (ap (λ (x : LoggedView D). x.disk) m.takes);
  }

-- ---- on the journal that the pass claimed

-- what the pass knew of it, and keeps of it
pub record KnewOf {D : Type 0} (slots : ℕ) (v z : Known slots) (j k : LoggedView D) (entered : Option Entry) : Type 0 where
  pub later : IsLater (account D slots) v j
  pub covered : IsAlone v → KeepsEachOnce (notes_of j) v.knowledge.entries
  pub found : Finds v z j
  pub kept : KeepsNoted v z j k entered

pub makes-clean : {D : Type 0} (slots : ℕ) (faults : D → ℕ) (may_leave : D → Area → List ℕ → Type 0) (moment : D → ℕ) (left_since : D → ℕ → Bytes → Type 0) (v w z : Known slots) (j k : LoggedView D) (page : ℕ) (r : Result Upkeep Held) → v ≡ w → KnewOf slots v z j k (entered_by_upkeep_of r) → WasNoted slots j
    → IfOk r (λ u. DoesCleanOn slots faults may_leave j k page u) → IfOk r (λ _. LeavesOnlyImages moment left_since j.disk k.disk (OpensAfter slots (history_of j))) → IfOk r (λ u. MakesClean D slots faults may_leave moment left_since w z page u)
makes-clean {D} slots faults may_leave moment left_since v w z j k page (Ok u) same knew noted made opens =
    let n = subst (λ (x : Known slots). KnewOf slots x z j k (entered_by_upkeep u)) same knew in record { before = j; after = k; later = n.later; covered = n.covered; found = n.found; noted = noted; kept = n.kept; made = made; opens = opens }
makes-clean slots faults may_leave moment left_since v w z j k page (Err h) same knew noted made opens = tt

pub makes-turn : {D : Type 0} (slots : ℕ) (faults : D → ℕ) (content : D → Area → Option (List ℕ)) (may_leave : D → Area → List ℕ → Type 0) (moment : D → ℕ) (left_since : D → ℕ → Bytes → Type 0) (v w z : Known slots) (j k : LoggedView D) (r : Result Upkeep Held) → v ≡ w → KnewOf slots v z j k (entered_by_upkeep_of r) → WasNoted slots j
    → IfOk r (λ u. DoesTurnOn slots faults content may_leave j k u) → IfOk r (λ _. LeavesOnlyImages moment left_since j.disk k.disk (OpensAfter slots (history_of j))) → IfOk r (λ u. MakesTurn D slots faults content may_leave moment left_since w z u)
makes-turn {D} slots faults content may_leave moment left_since v w z j k (Ok u) same knew noted made opens =
    let n = subst (λ (x : Known slots). KnewOf slots x z j k (entered_by_upkeep u)) same knew in record { before = j; after = k; later = n.later; covered = n.covered; found = n.found; noted = noted; kept = n.kept; made = made; opens = opens }
makes-turn slots faults content may_leave moment left_since v w z j k (Err h) same knew noted made opens = tt
