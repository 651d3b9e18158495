-- What the steps of the collector leave, where no transaction is open.
use Rattle.std.proofs.Common.{◌≡◌, ℕ, zero, suc, ◌+◌, ◌<◌, List, [], ◌∷◌, Option, Some, None, length, refl, sym, ap, ap₂, ◌∙◌, subst, arith, true, length-append}
use Rattle.std.specs.Prelude.{◌↔◌, IsSome, slice_index_or}
use Rattle.plain_model.specs.declared.object.Object.{Object}
use Rattle.plain_model.specs.declared.calls.Entry.{Entry}
use Rattle.plain_model.specs.Graphs.{root}
use Rattle.plain_model.specs.Machine.{is_stored}
use Rattle.plain_model.specs.Reachable.{Reachable}
use Rattle.plain_model.specs.History.{History, Moment, CommitPoint, SameReachable, graph_after, end_of, next}
use Rattle.plain_model.proofs.HistoryLemmas.{end_of-with_entry}
use Rattle.plain_laws.proofs.Legal.{without_sub}
use Rattle.restart_laws.specs.Settled.{IsSettled}
use Rattle.restart_laws.proofs.QuietLaws.{same-same}
use Rattle.log_record.specs.declared.cell_record.CellRecord.{CellRecord}
use Rattle.log_record.specs.declared.cell_record.CellRecord.TheVariants as logs
use Rattle.core_store.specs.Collects.{entry_of}
use Rattle.core_store.specs.JournalView.{JournalView}
use Rattle.core_store.specs.Limited.{is_past_limit}
use Rattle.core_store.specs.RoundView.{RoundView, Closed, ids_in}
use Rattle.core_store.specs.Steppings.{OnlyLooks, IsEvent}
use Rattle.core_store.specs.declared.collect.Collect.{Collect}
use Rattle.core_store.specs.declared.collect.Collect.TheVariants as collect
use Rattle.framed_journal.specs.Steps.{CollectsOnFrames, MakesNextEvent, FillsLog}
use Rattle.logged_journal.specs.declared.failed.FailedCall.{FailedCall}
use Rattle.logged_journal.specs.View.{LoggedView}
use Rattle.logged_journal.specs.Calls.{KeepsDisk, GoesOn, IsPastLogToCollect}
use Rattle.object_store.specs.declared.error.StoreError.{StoreError}
use Rattle.object_store.specs.declared.error.StoreError.TheVariants as error
use Rattle.object_store.specs.Seen.{object_slots, state_of, IsQuiet}
use Rattle.object_store.specs.Upkeep.{OnlyRemoves, KeepsCommits, MakesEvents, MakesUpTo, IsShortToCollect, waiting_in, IsExact}

-- a store that runs has failed no call
pub not_failed : (o : Option FailedCall) → o ≡ None → IsSome o → ⊥
not_failed None e h = absurd (cc)
not_failed (Some f) e h = absurd (cc)

-- ---- the same reach

pub same_back : (a b : List Object) → SameReachable a b → SameReachable b a
same_back a b s = record {
  same = λ x. ((s.same x).1, (s.same x).0);
  contents = λ x r. sym (s.contents x ((s.same x).0 r));
}

-- the graph after the last commit is the same
last_same : (m n : Moment) (k : ℕ) → n.opened ≡ m.opened → n.commits ≡ m.commits → graph_after n k ≡ graph_after m k
last_same m n zero o c = o
last_same m n (suc k) o c = ap₂ (λ (g : List Object) (cs : List CommitPoint). (slice_index_or cs k (record { graph = g; acknowledged = true })).graph) o c

-- so the root reaches the same where no commit came
pub settled_reach : {D : Type 0} (u v : LoggedView D) → KeepsCommits u v → IsSettled (end_of u.journal.history) → IsSettled (end_of v.journal.history) → SameReachable (state_of v).committed (state_of u).committed
settled_reach u v c a b =
    let m = end_of u.journal.history in
    let n = end_of v.journal.history in
    let last : graph_after n (length n.commits) ≡ graph_after m (length m.commits) = last_same m n (length n.commits) c.opened c.commits ∙ ap (λ (cs : List CommitPoint). graph_after m (length cs)) c.commits in
    same-same n.state.committed (graph_after m (length m.commits)) m.state.committed (subst (λ (g : List Object). SameReachable n.state.committed g) last b) (same_back m.state.committed (graph_after m (length m.commits)) a)

-- ---- moments

-- no commit came, no transaction began, and objects were removed at most
record Lessens (m n : Moment) : Type 0 where
  ids : n.state.ids ≡ m.state.ids
  active : n.state.active ≡ m.state.active
  removes : OnlyRemoves m.state.committed n.state.committed
  opened : n.opened ≡ m.opened
  commits : n.commits ≡ m.commits

lessens_self : (m : Moment) → Lessens m m
lessens_self m = record { ids = refl; active = refl; removes = λ id o e. e; opened = refl; commits = refl }

lessens_same : (m n : Moment) → n ≡ m → Lessens m n
lessens_same m n e = subst (λ (x : Moment). Lessens m x) (sym e) (lessens_self m)

lessens_then : (a b c : Moment) → Lessens a b → Lessens b c → Lessens a c
lessens_then a b c x y = record {
  ids = y.ids ∙ x.ids;
  active = y.active ∙ x.active;
  removes = λ id o e. x.removes id o (y.removes id o e);
  opened = y.opened ∙ x.opened;
  commits = y.commits ∙ x.commits;
}

lessens_event : (m : Moment) (logged : Option CellRecord) → Lessens m (next m (entry_of logged))
lessens_event m None = lessens_self m
lessens_event m (Some (logs.Begin pass)) = lessens_self m
lessens_event m (Some (logs.Make pass id)) = lessens_self m
lessens_event m (Some (logs.Store pass id slot old_target old_strong new_target new_bit new_strong)) = lessens_self m
lessens_event m (Some (logs.Pay pass id old_value new_value)) = lessens_self m
lessens_event m (Some (logs.Commit pass)) = lessens_self m
lessens_event m (Some (logs.Undo pass place from_strong to_bit id from_value to_value)) = lessens_self m
lessens_event m (Some (logs.AbortEnd pass)) = lessens_self m
lessens_event m (Some (logs.Weaken id slot target)) = lessens_self m
lessens_event m (Some (logs.Strengthen id slot target)) = lessens_self m
lessens_event m (Some (logs.Flip id)) = lessens_self m
lessens_event m (Some (logs.CutDead id slot target was_strong)) = lessens_self m
lessens_event m (Some (logs.Free id)) = record { ids = refl; active = refl; removes = λ x o e. (without_sub m.state.committed id x o e).1; opened = refl; commits = refl }

looks_moment : (j k : JournalView) → OnlyLooks object_slots j k → Lessens (end_of j.history) (end_of k.history)
looks_moment j k l = lessens_same (end_of j.history) (end_of k.history) (ap (λ (x : JournalView). end_of x.history) l.same)

made_moment : (j k : JournalView) (r : Collect) → MakesNextEvent object_slots j k r → Lessens (end_of j.history) (end_of k.history)
made_moment j k r m =
    let e = m.event in
    let after : end_of k.history ≡ next (end_of m.looked.history) (entry_of e.logged) = ap end_of e.entry ∙ end_of-with_entry m.looked.history (entry_of e.logged) in
    lessens_then (end_of j.history) (end_of m.looked.history) (end_of k.history) (looks_moment j m.looked m.looks)
    (subst (λ (x : Moment). Lessens (end_of m.looked.history) x) (sym after) (lessens_event (end_of m.looked.history) e.logged))

-- ---- one step

-- the history has no more entries
same_entries : (j k : JournalView) → k.history ≡ j.history → length k.history.entries ≡ length j.history.entries + 0
same_entries j k e = let n : length k.history.entries ≡ length j.history.entries = ap (λ (h : History). length h.entries) e in omega (arith, n)

made_entries : (j k : JournalView) (r : Collect) → MakesNextEvent object_slots j k r → length k.history.entries ≡ length j.history.entries + 1
made_entries j k r m =
    let same : length m.looked.history.entries ≡ length j.history.entries = ap (λ (x : JournalView). length x.history.entries) m.looks.same in
    let e : Entry = entry_of m.event.logged in
    let more : length k.history.entries ≡ length (m.looked.history.entries) + 1 = ap (λ (h : History). length h.entries) m.event.entry ∙ length-append m.looked.history.entries (e ∷ []) in
    omega (arith, same, more)

makes_of : {D : Type 0} (n : ℕ) (u v : LoggedView D) → IsQuiet (state_of u) → Lessens (end_of u.journal.history) (end_of v.journal.history) → length v.journal.history.entries ≡ length u.journal.history.entries + n → KeepsDisk u v → v.failed ≡ None → v.journal.limits ≡ u.journal.limits → MakesEvents n u v
makes_of n u v q m e k f l = record {
  running = f;
  quiet = m.active ∙ q;
  removes = m.removes;
  entries = e;
  commits = record { ids = m.ids; opened = m.opened; commits = m.commits };
  limits = l;
  disk = k;
}

-- it makes an event
pub event_makes : {D : Type 0} (u v : LoggedView D) (r : Collect) → IsQuiet (state_of u) → CollectsOnFrames object_slots u.journal v.journal r → GoesOn u v → KeepsDisk u v → IsEvent r → MakesEvents 1 u v
event_makes u v r q d g k e =
    let m = d.event e in
    makes_of 1 u v q (made_moment u.journal v.journal r m) (made_entries u.journal v.journal r m) k g.running d.opening.1

-- it has nothing to do
pub idle_makes : {D : Type 0} (u v : LoggedView D) (r : Collect) → IsQuiet (state_of u) → CollectsOnFrames object_slots u.journal v.journal r → GoesOn u v → KeepsDisk u v → r ≡ collect.Idle → MakesEvents 0 u v
idle_makes u v r q d g k e =
    let same : v.journal ≡ u.journal = d.unchanged e in
    let h : v.journal.history ≡ u.journal.history = ap (λ (x : JournalView). x.history) same in
    makes_of 0 u v q (lessens_same (end_of u.journal.history) (end_of v.journal.history) (ap end_of h)) (same_entries u.journal v.journal h) k g.running d.opening.1

pub idle_rest : {D : Type 0} (u v : LoggedView D) (r : Collect) → CollectsOnFrames object_slots u.journal v.journal r → r ≡ collect.Idle → waiting_in v ≡ 0
idle_rest u v r d e =
    let same : v.journal ≡ u.journal = d.unchanged e in
    let nothing = d.idle.0 e in
    let queue : v.journal.queue ≡ [] = ap (λ (x : JournalView). x.queue) same ∙ nothing.1 in
    let round : v.journal.round ≡ Closed = ap (λ (x : JournalView). x.round) same ∙ nothing.2 in
    ap₂ (λ (l : List ℕ) (x : RoundView). length l + length (ids_in x)) queue round

-- ---- refusals

-- why no event was made, and that none was
pub record NoEvent {D : Type 0} (why : StoreError) (u v : LoggedView D) : Type 0 where
  pub makes : MakesEvents 0 u v
  pub cause : IsShortToCollect why v

pub full_none : {D : Type 0} (u v : LoggedView D) (r : Collect) → IsQuiet (state_of u) → CollectsOnFrames object_slots u.journal v.journal r → GoesOn u v → KeepsDisk u v → r ≡ collect.TraceFull → NoEvent error.HistoryFull u v
full_none u v r q d g k e =
    let m = d.marked e in
    let same : v.journal.history ≡ u.journal.history = ap (λ (x : JournalView). x.history) m.marked ∙ ap (λ (x : JournalView). x.history) m.looks.same in
    let past : is_past_limit v.journal 1 ≡ is_past_limit u.journal 1 = ap (λ (x : JournalView). is_past_limit x 1) m.marked ∙ ap (λ (x : JournalView). is_past_limit x 1) m.looks.same in
    record {
      makes = makes_of 0 u v q (lessens_same (end_of u.journal.history) (end_of v.journal.history) (ap end_of same)) (same_entries u.journal v.journal same) k g.running d.opening.1;
      cause = past ∙ d.full.0 e;
    }

pub memory_none : {D : Type 0} (u v : LoggedView D) (r : Collect) → IsQuiet (state_of u) → CollectsOnFrames object_slots u.journal v.journal r → GoesOn u v → KeepsDisk u v → r ≡ collect.Memory → NoEvent error.Memory u v
memory_none u v r q d g k e =
    let l = d.memory e in
    let same : v.journal.history ≡ u.journal.history = ap (λ (x : JournalView). x.history) l.same in
    record {
      makes = makes_of 0 u v q (lessens_same (end_of u.journal.history) (end_of v.journal.history) (ap end_of same)) (same_entries u.journal v.journal same) k g.running d.opening.1;
      cause = tt;
    }

past_marked : {D : Type 0} (u : LoggedView D) (j : JournalView) → IsPastLogToCollect (record u { journal = j }) → IsPastLogToCollect (record u { journal = j; log_full = true })
past_marked u j p = record { running = p.running; room = p.room; some = p.some; past = p.past }

pub log_none : {D : Type 0} (u v : LoggedView D) → u.failed ≡ None → IsQuiet (state_of u) → FillsLog object_slots u v → KeepsDisk u v → NoEvent error.LogFull u v
log_none {D} u v running q f k =
    let same : v.journal.history ≡ u.journal.history = ap (λ (x : LoggedView D). x.journal.history) f.marked ∙ ap (λ (x : JournalView). x.history) f.looks.same in
    record {
      makes = makes_of 0 u v q (lessens_same (end_of u.journal.history) (end_of v.journal.history) (ap end_of same)) (same_entries u.journal v.journal same) k
          (ap (λ (x : LoggedView D). x.failed) f.marked ∙ running) (ap (λ (x : LoggedView D). x.journal.limits) f.marked ∙ ap (λ (x : JournalView). x.limits) f.looks.same);
      cause = subst (λ (x : LoggedView D). IsPastLogToCollect x) (sym f.marked) (past_marked u f.looked f.past);
    }

-- ---- several steps

pub makes_none : {D : Type 0} (u : LoggedView D) → u.failed ≡ None → IsQuiet (state_of u) → MakesEvents 0 u u
makes_none u f q = makes_of 0 u u q (lessens_self (end_of u.journal.history)) (same_entries u.journal u.journal refl) (record { disk = refl; durable = refl }) f refl

pub makes_then : {D : Type 0} (m n : ℕ) (u v w : LoggedView D) → MakesEvents m u v → MakesEvents n v w → MakesEvents (m + n) u w
makes_then m n u v w a b = record {
  running = b.running;
  quiet = b.quiet;
  removes = λ id o e. a.removes id o (b.removes id o e);
  entries = let x = a.entries in let y = b.entries in omega (arith, x, y);
  commits = record { ids = b.commits.ids ∙ a.commits.ids; opened = b.commits.opened ∙ a.commits.opened; commits = b.commits.commits ∙ a.commits.commits };
  limits = b.limits ∙ a.limits;
  disk = record { disk = b.disk.disk ∙ a.disk.disk; durable = b.disk.durable ∙ a.disk.durable };
}

-- and then a step that made none
pub makes_still : {D : Type 0} (m : ℕ) (u v w : LoggedView D) → MakesEvents m u v → MakesEvents 0 v w → MakesEvents m u w
makes_still m u v w a b = subst (λ k. MakesEvents k u w) (let z : m + 0 ≡ m = omega arith in z) (makes_then m 0 u v w a b)

pub up_to_idle : {D : Type 0} (steps made left : ℕ) (u w : LoggedView D) → made < steps → left ≡ 0 → MakesEvents made u w → MakesUpTo steps left u w
up_to_idle steps made left u w less none m = record { events = made; within = omega (arith, less); all = λ n. absurd (n none); makes = m }

pub up_to_all : {D : Type 0} (steps made left : ℕ) (u w : LoggedView D) → made ≡ steps → MakesEvents made u w → MakesUpTo steps left u w
up_to_all steps made left u w all m = record { events = made; within = omega (arith, all); all = λ n. all; makes = m }

-- where nothing waits just what is reached is stored
pub exact_of : {D : Type 0} (u w : LoggedView D) (j : JournalView) (n : ℕ) → w ≡ u → j ≡ w.journal
    → (n ≡ 0 → (end_of j.history).state.active ≡ [] → (id : ℕ) → (is_stored (end_of j.history).state.stored id ≡ true) ↔ Reachable (end_of j.history).state.committed (root ∷ []) id)
    → n ≡ 0 → IsQuiet (state_of u) → IsExact u
exact_of u w j n is of rest none quiet =
    let at : j ≡ u.journal = of ∙ ap (λ (x : LoggedView _). x.journal) is in
    let alone : (end_of j.history).state.active ≡ [] = ap (λ (x : JournalView). (end_of x.history).state.active) at ∙ quiet in
    subst (λ (x : JournalView). (id : ℕ) → (is_stored (end_of x.history).state.stored id ≡ true) ↔ Reachable (end_of x.history).state.committed (root ∷ []) id) at (rest none alone)
