-- What collections leave of the map.
use Rattle.std.proofs.Common.{◌≡◌, ℕ, zero, suc, ◌+◌, ◌-◌, ◌<◌, Bool, true, false, List, [], ◌∷◌, Option, Some, None, length, refl, ap, ap₂, ◌∙◌, subst, arith, length-append}
use Rattle.std.specs.Prelude.{◌↔◌, nat_lt, slice_index_or}
use Rattle.std.proofs.lemmas.Bool.Decides.{nat_tests}
use Rattle.plain_model.specs.declared.object.Object.{Object}
use Rattle.plain_model.specs.declared.calls.Entry.{Entry}
use Rattle.plain_model.specs.Graphs.{root}
use Rattle.plain_model.specs.Machine.{is_stored}
use Rattle.plain_model.specs.Reachable.{Reachable}
use Rattle.plain_model.specs.History.{History, Moment, CommitPoint, SameReachable, graph_after, end_of, next, with_entry}
use Rattle.plain_model.proofs.HistoryLemmas.{end_of-with_entry}
use Rattle.plain_laws.specs.Sound.{IsSoundState}
use Rattle.restart_laws.specs.Settled.{IsSettled}
use Rattle.restart_laws.proofs.QuietLaws.{same-same}
use Rattle.log_record.specs.declared.cell_record.CellRecord.{CellRecord}
use Rattle.log_record.specs.declared.cell_record.CellRecord.TheVariants as logs
use Rattle.core_store.specs.Collects.{entry_of}
use Rattle.core_store.specs.JournalView.{JournalView}
use Rattle.core_store.specs.Limited.{is_past_limit}
use Rattle.core_store.specs.Owed.{entries_owed}
use Rattle.core_store.specs.RoundView.{RoundView, Closed, ids_in}
use Rattle.core_store.specs.Steppings.{OnlyLooks, IsEvent}
use Rattle.core_store.specs.declared.collect.Collect.{Collect}
use Rattle.core_store.specs.declared.collect.Collect.TheVariants as collect
use Rattle.core_store.specs.declared.marks.Marks.{Marks}
use Rattle.core_store.specs.declared.limits.Limits.{Limits}
use Rattle.framed_journal.specs.Steps.{CollectsOnFrames, MakesNextEvent, MarksFull, FillsLog}
use Rattle.logged_journal.specs.View.{LoggedView}
use Rattle.logged_journal.specs.Calls.{KeepsDisk, GoesOn}
use Rattle.map_calls.specs.declared.failure.Failure.TheVariants as failure
use Rattle.map_calls.specs.Maps.{MapState}
use Rattle.object_map.specs.Clients.{object_slots}
use Rattle.stored_map.specs.Graphs.{KeepsMap, map_of, pairs_in, free_beside, reached_in}
use Rattle.stored_map.specs.Stores.{state_in, IsQuiet}
use Rattle.stored_map.specs.Steps.{KeepsMarks, IsMarkedBy, Collects, IsExact, entries_left}
use Rattle.stored_map.proofs.GraphLaws.{map_same, map_read, keeps_map}
use Rattle.stored_map.proofs.LeftLaws.{same_back}
use Rattle.stored_map.proofs.ReachLaws.{free_reach}
use Rattle.stored_map.proofs.ReachedLaws.{same_reached}
use Rattle.stored_map.proofs.StepLaws.{unmarked_then, marked_none, marked_history, marked_log}

-- the graph after the last commit is the same
last_same : (m n : Moment) (k : ℕ) → n.opened ≡ m.opened → n.commits ≡ m.commits → graph_after n k ≡ graph_after m k
last_same m n zero o c = o
last_same m n (suc k) o c = ap₂ (λ (g : List Object) (cs : List CommitPoint). (slice_index_or cs k (record { graph = g; acknowledged = true })).graph) o c

-- so the root reaches the same
pub collected_reach : {D : Type 0} (u v : LoggedView D) → Collects u v → IsSettled (end_of u.journal.history) → IsSettled (end_of v.journal.history) → SameReachable (state_in v).committed (state_in u).committed
collected_reach u v c a b =
    let m = end_of u.journal.history in
    let n = end_of v.journal.history in
    let last : graph_after n (length n.commits) ≡ graph_after m (length m.commits) = last_same m n (length n.commits) c.opened c.commits ∙ ap (λ (cs : List CommitPoint). graph_after m (length cs)) c.commits in
    same-same n.state.committed (graph_after m (length m.commits)) m.state.committed (subst (λ (g : List Object). SameReachable n.state.committed g) last b) (same_back m.state.committed (graph_after m (length m.commits)) a)

abbrev pub state_with : List (ℕ × ℕ) → ℕ → ℕ → List Object → MapState
state_with pairs ids free graph = record { pairs = pairs; ids = ids; free = free; graph = graph }

pub state_is : (p q : List (ℕ × ℕ)) (i j a b : ℕ) (g h : List Object) → p ≡ q → i ≡ j → a ≡ b → g ≡ h → state_with p i a g ≡ state_with q j b h
state_is p q i j a b g h d e f k = cc (d, e, f, k)

-- and the map is the same
pub collected_map : {D : Type 0} (u v : LoggedView D) → Collects u v → IsSettled (end_of u.journal.history) → IsSettled (end_of v.journal.history) → IsSoundState (state_in u) → IsSoundState (state_in v) → KeepsMap (state_in u).committed
    → KeepsMap (state_in v).committed × (map_of (state_in v).ids (state_in v).committed ≡ map_of (state_in u).ids (state_in u).committed)
collected_map u v c a b s t k =
    let reach = collected_reach u v c a b in
    let g = (state_in u).committed in
    let h = (state_in v).committed in
    let map = map_same g h (pairs_in g) s.committed reach k in
    let pairs : pairs_in h ≡ pairs_in g = map_read h (pairs_in g) map in
    let free : free_beside (state_in v).ids h ≡ free_beside (state_in u).ids g = ap (λ n. free_beside n h) c.ids ∙ free_reach (state_in u).ids g h s.committed t.committed reach in
    let graph : reached_in h ≡ reached_in g = same_reached g h s.committed t.committed reach in
    (keeps_map h (pairs_in g) map, state_is (pairs_in h) (pairs_in g) (state_in v).ids (state_in u).ids (free_beside (state_in v).ids h) (free_beside (state_in u).ids g) (reached_in h) (reached_in g) pairs c.ids free graph)

-- ---- one step

pub record IsSameMoment (m n : Moment) : Type 0 where
  pub ids : n.state.ids ≡ m.state.ids
  pub active : n.state.active ≡ m.state.active
  pub opened : n.opened ≡ m.opened
  pub commits : n.commits ≡ m.commits

moment_same : (m n : Moment) → n ≡ m → IsSameMoment m n
moment_same m n e = record { ids = ap (λ (x : Moment). x.state.ids) e; active = ap (λ (x : Moment). x.state.active) e; opened = ap (λ (x : Moment). x.opened) e; commits = ap (λ (x : Moment). x.commits) e }

moment_then : (a b c : Moment) → IsSameMoment a b → IsSameMoment b c → IsSameMoment a c
moment_then a b c x y = record { ids = y.ids ∙ x.ids; active = y.active ∙ x.active; opened = y.opened ∙ x.opened; commits = y.commits ∙ x.commits }

event_moment : (m : Moment) (logged : Option CellRecord) → IsSameMoment m (next m (entry_of logged))
event_moment m None = record { ids = refl; active = refl; opened = refl; commits = refl }
event_moment m (Some (logs.Begin pass)) = record { ids = refl; active = refl; opened = refl; commits = refl }
event_moment m (Some (logs.Make pass id)) = record { ids = refl; active = refl; opened = refl; commits = refl }
event_moment m (Some (logs.Store pass id slot old_target old_strong new_target new_bit new_strong)) = record { ids = refl; active = refl; opened = refl; commits = refl }
event_moment m (Some (logs.Pay pass id old_value new_value)) = record { ids = refl; active = refl; opened = refl; commits = refl }
event_moment m (Some (logs.Commit pass)) = record { ids = refl; active = refl; opened = refl; commits = refl }
event_moment m (Some (logs.Undo pass place from_strong to_bit id from_value to_value)) = record { ids = refl; active = refl; opened = refl; commits = refl }
event_moment m (Some (logs.AbortEnd pass)) = record { ids = refl; active = refl; opened = refl; commits = refl }
event_moment m (Some (logs.Weaken id slot target)) = record { ids = refl; active = refl; opened = refl; commits = refl }
event_moment m (Some (logs.Strengthen id slot target)) = record { ids = refl; active = refl; opened = refl; commits = refl }
event_moment m (Some (logs.Flip id)) = record { ids = refl; active = refl; opened = refl; commits = refl }
event_moment m (Some (logs.CutDead id slot target was_strong)) = record { ids = refl; active = refl; opened = refl; commits = refl }
event_moment m (Some (logs.Free id)) = record { ids = refl; active = refl; opened = refl; commits = refl }

-- the collector's looks leave the history
looks_moment : (j k : JournalView) → OnlyLooks object_slots j k → IsSameMoment (end_of j.history) (end_of k.history)
looks_moment j k l = moment_same (end_of j.history) (end_of k.history) (ap (λ (x : JournalView). end_of x.history) l.same)

-- and its event leaves the commits
pub made_moment : (j k : JournalView) (r : Collect) → MakesNextEvent object_slots j k r → IsSameMoment (end_of j.history) (end_of k.history)
made_moment j k r m =
    let e = m.event in
    let after : end_of k.history ≡ next (end_of m.looked.history) (entry_of e.logged) = ap end_of e.entry ∙ end_of-with_entry m.looked.history (entry_of e.logged) in
    moment_then (end_of j.history) (end_of m.looked.history) (end_of k.history) (looks_moment j m.looked m.looks)
    (moment_then (end_of m.looked.history) (next (end_of m.looked.history) (entry_of e.logged)) (end_of k.history) (event_moment (end_of m.looked.history) e.logged) (moment_same (next (end_of m.looked.history) (entry_of e.logged)) (end_of k.history) after))

pub full_moment : (j k : JournalView) → MarksFull object_slots j k → IsSameMoment (end_of j.history) (end_of k.history)
full_moment j k m = moment_then (end_of j.history) (end_of m.looked.history) (end_of k.history) (looks_moment j m.looked m.looks) (moment_same (end_of m.looked.history) (end_of k.history) (ap (λ (x : JournalView). end_of x.history) m.marked))

pub log_moment : {D : Type 0} (u v : LoggedView D) → FillsLog object_slots u v → IsSameMoment (end_of u.journal.history) (end_of v.journal.history)
log_moment u v f = moment_then (end_of u.journal.history) (end_of f.looked.history) (end_of v.journal.history) (looks_moment u.journal f.looked f.looks) (moment_same (end_of f.looked.history) (end_of v.journal.history) (ap (λ (x : LoggedView _). end_of x.journal.history) f.marked))

pub kept_moment : (j k : JournalView) → k ≡ j → IsSameMoment (end_of j.history) (end_of k.history)
kept_moment j k e = moment_same (end_of j.history) (end_of k.history) (ap (λ (x : JournalView). end_of x.history) e)

pub looked_moment : (j k : JournalView) → OnlyLooks object_slots j k → IsSameMoment (end_of j.history) (end_of k.history)
looked_moment j k l = looks_moment j k l

-- ---- the history's room

with_length : (h : History) (e : Entry) → length (with_entry h e).entries ≡ length h.entries + 1
with_length h e = length-append h.entries (e ∷ [])

is_below : (a b : ℕ) → nat_lt a (b + 1) ≡ false → b < a
is_below a b h = grind (arith, nat_tests)

-- an event takes an entry of it
made_fewer : (j k : JournalView) (r : Collect) → is_past_limit j 1 ≡ false → k.limits ≡ j.limits → MakesNextEvent object_slots j k r → k.limits.trace - length k.history.entries < j.limits.trace - length j.history.entries
made_fewer j k r room l m =
    let same : length m.looked.history.entries ≡ length j.history.entries = ap (λ (x : JournalView). length x.history.entries) m.looks.same in
    let more : length k.history.entries ≡ length m.looked.history.entries + 1 = ap (λ (h : History). length h.entries) m.event.entry ∙ with_length m.looked.history (entry_of m.event.logged) in
    let limit : k.limits.trace ≡ j.limits.trace = ap (λ (x : Limits). x.trace) l in
    let below : length j.history.entries + entries_owed (end_of j.history) < j.limits.trace = is_below j.limits.trace (length j.history.entries + entries_owed (end_of j.history)) room in
    omega (arith, same, more, limit, below)

-- ---- what one step leaves

collects_once : {D : Type 0} (u v : LoggedView D) → IsQuiet u → IsSameMoment (end_of u.journal.history) (end_of v.journal.history) → KeepsDisk u v → v.failed ≡ None → v.journal.limits ≡ u.journal.limits → Collects u v
collects_once u v q m k f l = record {
  running = f;
  disk = k.disk;
  ids = m.ids;
  none = m.active ∙ q.none;
  opened = m.opened;
  commits = m.commits;
  limits = l;
}

quiet_once : {D : Type 0} (u v : LoggedView D) → IsQuiet u → Collects u v → KeepsMarks u v → IsQuiet v
quiet_once u v q c k = record { running = c.running; none = c.none; unmarked = unmarked_then u v q.unmarked k; limits = c.limits ∙ q.limits }

looks_marks : {D : Type 0} (u v : LoggedView D) (k : JournalView) → OnlyLooks object_slots u.journal k → v.journal.marks ≡ k.marks → v.log_full ≡ u.log_full → KeepsMarks u v
looks_marks u v k l m f = record { history = ap (λ (x : Marks). x.trace) m ∙ ap (λ (x : JournalView). x.marks.trace) l.same; log = f }

-- what a step of the collector that isn't refused leaves
pub record Turns {D : Type 0} (u v : LoggedView D) : Type 0 where
  pub collects : Collects u v
  pub quiet : IsQuiet v

turns : {D : Type 0} (u v : LoggedView D) → IsQuiet u → Collects u v → KeepsMarks u v → Turns u v
turns u v q c k = record { collects = c; quiet = quiet_once u v q c k }

-- it has nothing to do
pub idle_turns : {D : Type 0} (u v : LoggedView D) (r : Collect) → IsQuiet u → CollectsOnFrames object_slots u.journal v.journal r → GoesOn u v → KeepsDisk u v → r ≡ collect.Idle → Turns u v
idle_turns u v r q d g k e =
    let same : v.journal ≡ u.journal = d.unchanged e in
    turns u v q (collects_once u v q (kept_moment u.journal v.journal same) k g.running d.opening.1) (record { history = ap (λ (x : JournalView). x.marks.trace) same; log = g.log_full })

-- it makes an event
pub event_turns : {D : Type 0} (u v : LoggedView D) (r : Collect) → IsQuiet u → CollectsOnFrames object_slots u.journal v.journal r → GoesOn u v → KeepsDisk u v → IsEvent r → Turns u v
event_turns u v r q d g k e =
    let m = d.event e in
    turns u v q (collects_once u v q (made_moment u.journal v.journal r m) k g.running d.opening.1) (looks_marks u v m.looked m.looks m.event.marks g.log_full)

not_full : (r : Collect) → IsEvent r → r ≡ collect.TraceFull → ⊥
not_full collect.Idle e f = e
not_full (collect.Did popped left) e f = absurd (cc (f))
not_full (collect.Deleted id left) e f = absurd (cc (f))
not_full collect.TraceFull e f = e
not_full collect.Memory e f = e

is_false : (b : Bool) → (b ≡ true → ⊥) → b ≡ false
is_false true n = absurd (n refl)
is_false false n = refl

pub event_fewer : {D : Type 0} (u v : LoggedView D) (r : Collect) → CollectsOnFrames object_slots u.journal v.journal r → IsEvent r → entries_left v < entries_left u
event_fewer u v r d e = made_fewer u.journal v.journal r (is_false (is_past_limit u.journal 1) (λ p. not_full r e (d.full.1 p))) d.opening.1 (d.event e)

-- where nothing waits just what is reached is stored
pub idle_exact : {D : Type 0} (u v w : LoggedView D) (r : Collect) (j : JournalView) (n : ℕ) → CollectsOnFrames object_slots u.journal v.journal r → r ≡ collect.Idle → (state_in v).active ≡ [] → w ≡ v → j ≡ w.journal → n ≡ length j.queue + length (ids_in j.round)
    → (n ≡ 0 → (end_of j.history).state.active ≡ [] → (id : ℕ) → (is_stored (end_of j.history).state.stored id ≡ true) ↔ Reachable (end_of j.history).state.committed (root ∷ []) id) → IsExact v
idle_exact u v w r j n d e none is of waiting rest =
    let at : j ≡ v.journal = of ∙ ap (λ (x : LoggedView _). x.journal) is in
    let same : j ≡ u.journal = at ∙ d.unchanged e in
    let nothing = d.idle.0 e in
    let queue : j.queue ≡ [] = ap (λ (x : JournalView). x.queue) same ∙ nothing.1 in
    let round : j.round ≡ Closed = ap (λ (x : JournalView). x.round) same ∙ nothing.2 in
    let zero : n ≡ 0 = waiting ∙ ap₂ (λ (l : List ℕ) (x : RoundView). length l + length (ids_in x)) queue round in
    let alone : (end_of j.history).state.active ≡ [] = ap (λ (x : JournalView). (end_of x.history).state.active) at ∙ none in
    subst (λ (x : JournalView). (id : ℕ) → (is_stored (end_of x.history).state.stored id ≡ true) ↔ Reachable (end_of x.history).state.committed (root ∷ []) id) at (rest zero alone)

-- ---- refusals

pub full_collects : {D : Type 0} (u v : LoggedView D) (r : Collect) → IsQuiet u → CollectsOnFrames object_slots u.journal v.journal r → GoesOn u v → KeepsDisk u v → r ≡ collect.TraceFull → Collects u v
full_collects u v r q d g k e = collects_once u v q (full_moment u.journal v.journal (d.marked e)) k g.running d.opening.1

pub full_marked : {D : Type 0} (u v : LoggedView D) (r : Collect) → IsQuiet u → CollectsOnFrames object_slots u.journal v.journal r → GoesOn u v → r ≡ collect.TraceFull → IsMarkedBy failure.HistoryFull v
full_marked u v r q d g e = marked_history v (ap (λ (x : JournalView). x.marks.trace) (d.marked e).marked) (g.log_full ∙ q.unmarked.log)

pub memory_turns : {D : Type 0} (u v : LoggedView D) (r : Collect) → IsQuiet u → CollectsOnFrames object_slots u.journal v.journal r → GoesOn u v → KeepsDisk u v → r ≡ collect.Memory → Turns u v
memory_turns u v r q d g k e =
    let l = d.memory e in
    turns u v q (collects_once u v q (looks_moment u.journal v.journal l) k g.running d.opening.1) (looks_marks u v v.journal l refl g.log_full)

pub memory_marked : {D : Type 0} (u v : LoggedView D) → Turns u v → IsMarkedBy failure.Memory v
memory_marked u v t = marked_none failure.Memory v t.quiet.unmarked (λ e. absurd (cc (e))) (λ e. absurd (cc (e)))

pub log_collects : {D : Type 0} (u v : LoggedView D) → IsQuiet u → FillsLog object_slots u v → KeepsDisk u v → Collects u v
log_collects u v q f k = collects_once u v q (log_moment u v f) k (ap (λ (x : LoggedView _). x.failed) f.marked ∙ q.running) (ap (λ (x : LoggedView _). x.journal.limits) f.marked ∙ ap (λ (x : JournalView). x.limits) f.looks.same)

pub log_marked : {D : Type 0} (u v : LoggedView D) → IsQuiet u → FillsLog object_slots u v → IsMarkedBy failure.LogFull v
log_marked u v q f = marked_log v (ap (λ (x : LoggedView _). x.journal.marks.trace) f.marked ∙ (ap (λ (x : JournalView). x.marks.trace) f.looks.same ∙ q.unmarked.history)) (ap (λ (x : LoggedView _). x.log_full) f.marked)

-- ---- several steps

pub collects_then : {D : Type 0} (u v w : LoggedView D) → Collects u v → Collects v w → Collects u w
collects_then u v w a b = record {
  running = b.running;
  disk = b.disk ∙ a.disk;
  ids = b.ids ∙ a.ids;
  none = b.none;
  opened = b.opened ∙ a.opened;
  commits = b.commits ∙ a.commits;
  limits = b.limits ∙ a.limits;
}

pub collects_none : {D : Type 0} (u : LoggedView D) → IsQuiet u → Collects u u
collects_none u q = record { running = q.running; disk = refl; ids = refl; none = q.none; opened = refl; commits = refl; limits = refl }
