-- What a power loss leaves: a store in which the root reaches the same as in the committed graph.
use Rattle.std.proofs.Common.{◌≡◌, ◌⊎◌, ⊎_elim, inl, inr, ℕ, zero, suc, ◌+◌, ◌<◌, ◌≤◌, Bool, true, false, List, [], ◌∷◌, ◌++◌, Option, Some, None, length, drop, refl, sym, ap, ◌∙◌, subst, arith, length-append}
use Rattle.std.specs.Prelude.{not, ◌||◌, All, slice_index_or}
use Rattle.std.specs.List.{AllByRecursion, list_any}
use Rattle.std.specs.Option.{option_map_or, option_and_then}
use Rattle.std.proofs.lemmas.Bool.{cases_lt}
use Rattle.std.proofs.lemmas.List.{drop-append-le}
use Rattle.std.proofs.lemmas.List.Elements.{All-from_recursion, recursion_from_All}
use Rattle.std.proofs.Math.ListN.{get_or-append}
use Rattle.std.proofs.Math.Seq.{get_or-append_seam}
use Rattle.plain_model.specs.declared.object.Object.{Object}
use Rattle.plain_model.specs.declared.calls.Call.TheVariants.{Commit}
use Rattle.plain_model.specs.declared.calls.Reply.TheVariants.{DiskFault}
use Rattle.plain_model.specs.declared.calls.Entry.TheVariants.{Call}
use Rattle.plain_model.specs.Machine.{is_stored, step}
use Rattle.plain_model.specs.History.{History, Moment, CommitPoint, IsCrashConsistent, IsId, SameReachable, graph_after, end_of, next, with_entry, is_stopped}
use Rattle.plain_model.proofs.HistoryLemmas.{end_of-with_entry}
use Rattle.plain_model.proofs.StepLaws.{end_of-ids}
use Rattle.store_model.specs.Sound.{IsSound}
use Rattle.core_store.specs.JournalView.{JournalView, core_of, cells_after_notes}
use Rattle.core_store.specs.Safe.{IsSafe}
use Rattle.restart_laws.specs.Settled.{IsSettled}
use Rattle.restart_laws.proofs.QuietLaws.{same-same}
use Rattle.disk_model.specs.declared.area.Area.{Area}
use Rattle.disk_model.specs.Areas.{Bytes}
use Rattle.disk_model.specs.Told.{EachImage}
use Rattle.cell_model.specs.Cells.{is_live}
use Rattle.cell_model.specs.Consistent.{AreConsistent}
use Rattle.cell_model.specs.Graph.{graph_of}
use Rattle.cell_model.proofs.EditLaws.{live-within}
use Rattle.logged_journal.specs.declared.failed.FailedCall.{FailedCall}
use Rattle.logged_journal.specs.View.{LoggedView, history_of}
use Rattle.logged_journal.specs.Opens.{OpensAfter}
use Rattle.object_map.specs.Clients.{object_slots}
use Rattle.stored_map.specs.Stores.{state_in, IsKnown, OpensToSame}

pub same_back : (a b : List Object) → SameReachable a b → SameReachable b a
same_back a b s = record {
  same = λ x. ((s.same x).1, (s.same x).0);
  contents = λ x r. sym (s.contents x ((s.same x).0 r));
}

-- ---- how many commits are kept

none_first : (a b : Bool) → (not a || b) ≡ false → (a ≡ true) × (b ≡ false)
none_first true b h = (refl, h)
none_first false b h = absurd (cc)

-- where each commit was acknowledged, none is left out
all_kept : (cs : List CommitPoint) → list_any (λ (c : CommitPoint). not c.acknowledged) cs ≡ false → (n : ℕ) → n ≤ length cs → All (λ (c : CommitPoint). c.acknowledged ≡ false) (drop n cs) → n ≡ length cs
all_kept [] h n le a = omega (arith, le)
all_kept (c ∷ cs) h zero le a =
    let one = none_first c.acknowledged (list_any (λ (x : CommitPoint). not x.acknowledged) cs) h in
    let lost = recursion_from_All (λ (x : CommitPoint). x.acknowledged ≡ false) (c ∷ cs) a in
    let kept : c.acknowledged ≡ true = one.0 in
    let gone : c.acknowledged ≡ false = lost.0 in
    absurd (cc (kept, gone))
all_kept (c ∷ cs) h (suc n) le a =
    let one = none_first c.acknowledged (list_any (λ (x : CommitPoint). not x.acknowledged) cs) h in
    let few : n ≤ length cs = omega (arith, le) in
    ap suc (all_kept cs one.1 n few a)

-- a graph that a crash may leave then has the reach of the committed one
pub kept_reach : (m : Moment) (g : List Object) → is_stopped m ≡ false → IsSettled m → IsCrashConsistent m g → SameReachable g m.state.committed
kept_reach m g running settled c =
    let all : c.prefix ≡ length m.commits = all_kept m.commits running c.prefix c.within c.has_acknowledged in
    same-same g (graph_after m (length m.commits)) m.state.committed (subst (λ n. SameReachable g (graph_after m n)) all c.reachable) (same_back m.state.committed (graph_after m (length m.commits)) settled)

-- ---- the history with no failed commit, and with one

history_kept : {D : Type 0} (v : LoggedView D) → v.failed ≡ None → history_of v ≡ v.journal.history
history_kept v e = ap (λ (f : Option FailedCall). option_map_or (λ client. with_entry v.journal.history (Call client Commit DiskFault)) (option_and_then (λ (x : FailedCall). x.commit) f) v.journal.history) e

history_lost : {D : Type 0} (v : LoggedView D) (client faults : ℕ) → v.failed ≡ Some (record { commit = Some client; faults = faults }) → history_of v ≡ with_entry v.journal.history (Call client Commit DiskFault)
history_lost v client faults e = ap (λ (f : Option FailedCall). option_map_or (λ c. with_entry v.journal.history (Call c Commit DiskFault)) (option_and_then (λ (x : FailedCall). x.commit) f) v.journal.history) e

-- a commit that the disk failed leaves the number of ids
history_ids : {D : Type 0} (v : LoggedView D) → (history_of v).ids ≡ (state_in v).ids
history_ids v = by (option_and_then (λ (x : FailedCall). x.commit) v.failed)
  where
    by : (o : Option ℕ) → (option_map_or (λ client. with_entry v.journal.history (Call client Commit DiskFault)) o v.journal.history).ids ≡ (state_in v).ids
    by None = sym (end_of-ids v.journal.history)
    by (Some client) = sym (end_of-ids v.journal.history)

-- ---- where the disk failed a commit

first_all : {X : Type 0} (P : X → Type 0) (xs ys : List X) → AllByRecursion P (xs ++ ys) → AllByRecursion P xs
first_all P [] ys a = tt
first_all P (x ∷ xs) ys a = (a.0, first_all P xs ys a.1)

-- the graph after the commits of before
earlier_graph : (m n : Moment) (x : CommitPoint) (k : ℕ) → n.opened ≡ m.opened → n.commits ≡ m.commits ++ x ∷ [] → k ≤ length m.commits → graph_after n k ≡ graph_after m k
earlier_graph m n x zero o c w = o
earlier_graph m n x (suc k) o c w =
    let d : CommitPoint = record { graph = m.opened; acknowledged = true } in
    let e : CommitPoint = record { graph = n.opened; acknowledged = true } in
    ap (λ (g : List Object). (slice_index_or n.commits k (record { graph = g; acknowledged = true })).graph) o ∙ (ap (λ (cs : List CommitPoint). (slice_index_or cs k d).graph) c ∙ ap (λ (p : CommitPoint). p.graph) (get_or-append m.commits (x ∷ []) d k (omega (arith, w))))

-- the graph of the commit that failed
failed_graph : (n : Moment) (cs : List CommitPoint) (x : CommitPoint) → n.commits ≡ cs ++ x ∷ [] → graph_after n (suc (length cs)) ≡ x.graph
failed_graph n cs x c =
    let d : CommitPoint = record { graph = n.opened; acknowledged = true } in
    ap (λ (l : List CommitPoint). (slice_index_or l (length cs) d).graph) c ∙ ap (λ (p : CommitPoint). p.graph) (get_or-append_seam cs x [] d)

-- what a crash may leave has the reach of the committed graph of before, or of that of the failed commit
lost_reach : (m n : Moment) (x : CommitPoint) (g : List Object) → is_stopped m ≡ false → IsSettled m → n.opened ≡ m.opened → n.commits ≡ m.commits ++ x ∷ [] → IsCrashConsistent n g → SameReachable g m.state.committed ⊎ SameReachable g x.graph
lost_reach m n x g running settled o c h = ⊎_elim
    (λ (w : length m.commits < h.prefix).
    let many = ap (λ (l : List CommitPoint). length l) c ∙ length-append m.commits (x ∷ []) in
    let within = h.within in
    let last : h.prefix ≡ suc (length m.commits) = omega (arith, w, within, many) in
    inr (subst (λ (y : List Object). SameReachable g y) (ap (graph_after n) last ∙ failed_graph n m.commits x c) h.reachable))
    (λ (w : h.prefix ≤ length m.commits).
    let P : CommitPoint → Type 0 = λ p. p.acknowledged ≡ false in
    let here : All P (drop h.prefix m.commits ++ x ∷ []) = subst (All P) (ap (drop h.prefix) c ∙ drop-append-le h.prefix m.commits (x ∷ []) w) h.has_acknowledged in
    let «first» : All P (drop h.prefix m.commits) = All-from_recursion P (drop h.prefix m.commits) (first_all P (drop h.prefix m.commits) (x ∷ []) (recursion_from_All P (drop h.prefix m.commits ++ x ∷ []) here)) in
    let all : h.prefix ≡ length m.commits = all_kept m.commits running h.prefix w «first» in
    let reach : SameReachable g (graph_after m (length m.commits)) = subst (λ (y : List Object). SameReachable g y) (earlier_graph m n x h.prefix o c w ∙ ap (graph_after m) all) h.reachable in
    inl (same-same g (graph_after m (length m.commits)) m.state.committed reach (same_back m.state.committed (graph_after m (length m.commits)) settled)))
    (cases_lt (length m.commits) h.prefix)

-- ---- what the calls of a store hand out

pub record Known {D : Type 0} (may_leave : D → Area → List ℕ → Type 0) (v : LoggedView D) : Type 0 where
  pub opens : EachImage may_leave v.disk (OpensAfter object_slots (history_of v))
  pub running : is_stopped (end_of v.journal.history) ≡ false
  pub settled : IsSettled (end_of v.journal.history)
  pub sound : IsSound (core_of v.journal)

pub known : {D : Type 0} (may_leave : D → Area → List ℕ → Type 0) (v w : LoggedView D) (j : JournalView) → w ≡ v → j ≡ w.journal → EachImage may_leave w.disk (OpensAfter object_slots (history_of w))
    → is_stopped (end_of j.history) ≡ false → IsSafe j → IsSound (core_of j) → Known may_leave v
known may_leave v w j e f opens running safe sound =
    let at : j ≡ v.journal = f ∙ ap (λ (x : LoggedView _). x.journal) e in
    record {
      opens = subst (λ (x : LoggedView _). EachImage may_leave x.disk (OpensAfter object_slots (history_of x))) e opens;
      running = subst (λ (x : JournalView). is_stopped (end_of x.history) ≡ false) at running;
      settled = subst (λ (x : JournalView). IsSettled (end_of x.history)) at safe.settled;
      sound = subst (λ (x : JournalView). IsSound (core_of x)) at sound;
    }

module _ {D : Type 0} (may_leave : D → Area → List ℕ → Type 0) (v : LoggedView D) (k : Known may_leave v) where
  same_size : (image : Bytes) (o : OpensAfter object_slots (history_of v) image) → length o.cells ≡ (state_in v).ids + 1
  same_size image o = o.size ∙ ap (λ n. n + 1) (history_ids v)

  pub known_same : v.failed ≡ None → EachImage may_leave v.disk (OpensToSame (state_in v).ids (state_in v).committed)
  known_same none image is =
      let o = k.opens image is in
      let crash : IsCrashConsistent (end_of v.journal.history) (graph_of o.cells) = subst (λ (h : History). IsCrashConsistent (end_of h) (graph_of o.cells)) (history_kept v none) o.graph in
      record { cells = o.cells; opened = o.opened; size = same_size image o; reach = kept_reach (end_of v.journal.history) (graph_of o.cells) k.running k.settled crash }

  -- where the disk failed a commit, perhaps that of the graph which the commit was to leave
  pub known_either : (client faults : ℕ) → v.failed ≡ Some (record { commit = Some client; faults = faults })
      → EachImage may_leave v.disk (λ image. OpensToSame (state_in v).ids (state_in v).committed image ⊎ OpensToSame (state_in v).ids (step (state_in v) client Commit).1.committed image)
  known_either client faults lost image is =
      let before = end_of v.journal.history in
      let after = next before (Call client Commit DiskFault) in
      let x : CommitPoint = record { graph = (step (state_in v) client Commit).1.committed; acknowledged = false } in
      let o = k.opens image is in
      let g = graph_of o.cells in
      let at : IsCrashConsistent after g = subst (λ (n : Moment). IsCrashConsistent n g) (ap end_of (history_lost v client faults lost) ∙ end_of-with_entry v.journal.history (Call client Commit DiskFault)) o.graph in
      ⊎_elim
      (λ s. inl (record { cells = o.cells; opened = o.opened; size = same_size image o; reach = s }))
      (λ s. inr (record { cells = o.cells; opened = o.opened; size = same_size image o; reach = s }))
      (lost_reach before after x g k.running k.settled refl refl at)

  -- what is stored has an id of the store
  within : (id : ℕ) → is_stored (state_in v).stored id ≡ true → IsId (state_in v).ids id
  within id h =
      let c = core_of v.journal in
      let live : is_live c.cells id ≡ true = sym (k.sound.stored id) ∙ h in
      let below : id < length c.cells = live-within c.cells id live in
      let many : length c.cells ≡ suc (state_in v).ids = k.sound.consistent.sized in
      (some id live, omega (arith, below, many))
    where
      some : (n : ℕ) → is_live (core_of v.journal).cells n ≡ true → 0 < n
      some zero l = absurd (cc (k.sound.consistent.exact.none, l))
      some (suc n) l = omega arith

  pub known_state : IsKnown (state_in v)
  known_state = record { sound = k.sound.state; ids = λ id h. within id (k.sound.state.committed_stored id h); stored = within }

-- there is a cell of the opening for each id, and one more
pub known_sized : {D : Type 0} (v w : LoggedView D) (j : JournalView) → w ≡ v → j ≡ w.journal → AreConsistent object_slots j.history.ids (cells_after_notes object_slots j.opening []) → length v.journal.opening ≡ (state_in v).ids + 1
known_sized v w j e f c =
    let at : j ≡ v.journal = f ∙ ap (λ (x : LoggedView _). x.journal) e in
    let sized : length j.opening ≡ suc j.history.ids = c.sized in
    let here : length v.journal.opening ≡ suc v.journal.history.ids = subst (λ (x : JournalView). length x.opening ≡ suc x.history.ids) at sized in
    let ids : (state_in v).ids ≡ v.journal.history.ids = end_of-ids v.journal.history in
    omega (arith, here, ids)
