-- Each image that a power loss might have left since the store was shared opens to a crash after some first entries.
use Rattle.std.proofs.Common.{◌≡◌, ◌≢◌, ◌⊎◌, ℕ, zero, suc, ◌+◌, ◌<◌, ◌≤◌, List, [], ◌∷◌, ◌++◌, map, length, length-append, Bool, true, false, Option, Some, None, inl, inr, ⊎_elim, refl, sym, ap, ◌∙◌, subst, arith, append-nil}
use Rattle.std.specs.Prelude.{All, IsSome, drop, slice_index_or}
use Rattle.std.specs.List.{AllByRecursion}
use Rattle.std.specs.Option.{option_and_then, option_map_or}
use Rattle.std.proofs.lemmas.Bool.{cases_lt}
use Rattle.std.proofs.lemmas.List.{append_assoc, drop_all, drop-append-le, map-append}
use Rattle.std.proofs.lemmas.List.Elements.{All-from_recursion, recursion_from_All}
use Rattle.std.proofs.Math.ListN.{get_or-append}
use Rattle.std.proofs.Math.Seq.{get_or-append_seam}
use Rattle.disk_model.specs.declared.area.Area.{Area}
use Rattle.disk_model.specs.Areas.{Bytes}
use Rattle.disk_model.specs.Told.{EachImage, IsImage}
use Rattle.disk_model.specs.Time.{LeavesOnlyImages}
use Rattle.plain_model.specs.declared.object.Object.{Object}
use Rattle.plain_model.specs.declared.calls.Call.{Call as TransactionCall}
use Rattle.plain_model.specs.declared.calls.Call.TheVariants.{Commit}
use Rattle.plain_model.specs.declared.calls.Reply.{Reply}
use Rattle.plain_model.specs.declared.calls.Reply.TheVariants as reply
use Rattle.plain_model.specs.declared.calls.Entry.{Entry}
use Rattle.plain_model.specs.declared.calls.Entry.TheVariants.{Call}
use Rattle.plain_model.specs.History.{CommitPoint, History, IsCrashConsistent, IsId, Moment, SameReachable, end_of, graph_after, next, with_entry}
use Rattle.plain_model.specs.Machine.{step}
use Rattle.plain_model.proofs.HistoryLemmas.{end_of-with_entry}
use Rattle.plain_model.proofs.StepLaws.{step-size}
use Rattle.cell_model.specs.Graph.{graph_of}
use Rattle.core_store.specs.declared.note.Note.{Note}
use Rattle.core_store.specs.JournalView.{JournalView}
use Rattle.core_store.specs.Limited.{is_past_limit}
use Rattle.core_store.specs.Owed.{entries_needed}
use Rattle.logged_journal.specs.declared.failed.FailedCall.{FailedCall}
use Rattle.logged_journal.specs.View.{LoggedView, OnlyTakesRoom, history_of}
use Rattle.logged_journal.specs.Opens.{OpensAfter, OpensDuring, as_before, as_failed}
use Rattle.logged_journal.specs.Calls.{IsGranted, IsOfJournal}
use Rattle.logged_journal.proofs.CommitDone.{commit-done}
use Rattle.shared_store.specs.Chronicles.Since.{OpensSince, OpensToFront}
use Rattle.shared_store.specs.Chronicles.Steps.{Flags, GoesOnWith}
use Rattle.shared_store.specs.Chronicles.View.{history_after, notes_of, origin_of}
use Rattle.shared_store.specs.Calls.{DoesCallOn}
use Rattle.shared_store.proofs.Upkeeps.{with_room}

-- ---- a front stays a front

-- the history with these entries more
abbrev pub with_more : History → List Entry → History
with_more h es = record h { entries = h.entries ++ es }

pub front-on : (slots : ℕ) (h k : History) (more : List Entry) (image : Bytes) → k ≡ with_more h more → OpensToFront slots h image → OpensToFront slots k image
front-on slots h k more image is f = subst (λ (x : History). OpensToFront slots x image) (sym is) (record {
  front = f.front;
  rest = f.rest ++ more;
  split = ap (λ (es : List Entry). es ++ more) f.split ∙ append_assoc f.front f.rest more;
  opens = f.opens;
})

pub whole-front : (slots : ℕ) (h : History) (image : Bytes) → OpensAfter slots h image → OpensToFront slots h image
whole-front slots h image opens = record { front = h.entries; rest = []; split = sym (append-nil h.entries); opens = opens }

-- a call that goes on with the chronicle goes on with the history
module _ {D : Type 0} (slots : ℕ) (j k : LoggedView D) (was : history_after slots (origin_of j) (notes_of j) ≡ history_of j) (is : history_after slots (origin_of k) (notes_of k) ≡ history_of k) where
  with-notes : (more : List Note) → origin_of k ≡ origin_of j → notes_of k ≡ notes_of j ++ more → history_of k ≡ with_more (history_of j) (map (λ (n : Note). n.entry) more)
  with-notes more origin notes =
      let entry_of : Note → Entry = λ n. n.entry in
      subst (λ (h : History). history_of k ≡ with_more h (map entry_of more)) was
      (sym is ∙ ap (λ o. history_after slots o (notes_of k)) origin ∙ ap (history_after slots (origin_of j)) notes
      ∙ ap (λ (es : List Entry). record (history_after slots (origin_of j) (notes_of j)) { entries = es }) (map-append entry_of (notes_of j) more))

  pub later-history : (may_change : ℕ → Bool) (entered : Option Entry) (marked : Flags) → GoesOnWith slots may_change j k entered marked → (more : List Entry) × (history_of k ≡ with_more (history_of j) more)
  later-history may_change None marked goes = ([], with-notes [] goes.origin (goes.notes ∙ sym (append-nil (notes_of j))))
  later-history may_change (Some e) marked goes = let n = goes.notes in (n.note.entry ∷ [], with-notes (n.note ∷ []) goes.origin n.notes)

-- ---- what was left since then

module _ {D : Type 0} (moment : D → ℕ) (left_since : D → ℕ → Bytes → Type 0) (slots : ℕ) where
  -- at the beginning each image opens to what is there
  pub since-now : (may_leave : D → Area → List ℕ → Type 0) (v : LoggedView D) → ((disk : D) (image : Bytes) → left_since disk (moment disk) image → IsImage may_leave disk image)
      → EachImage may_leave v.disk (OpensAfter slots (history_of v)) → OpensSince moment left_since slots v v
  since-now may_leave v only_now opens = record { later = omega arith; each = λ image left. whole-front slots (history_of v) image (opens image (only_now v.disk image left)) }

  -- the collector looked on, or room was taken
  pub since-looked : (began j k : LoggedView D) → k ≡ record j { journal = k.journal } → k.journal ≡ record j.journal { round = k.journal.round } → OpensSince moment left_since slots began j → OpensSince moment left_since slots began k
  since-looked began j k same looked h = subst (λ (v : LoggedView D). OpensSince moment left_since slots began v) (sym (same ∙ ap (λ x. record j { journal = x }) looked)) (record { later = h.later; each = h.each })

  in-room : (began j : LoggedView D) (reserved : Bool) (room : ℕ) → OpensSince moment left_since slots began j → OpensSince moment left_since slots began (with_room j reserved room)
  in-room began j reserved room h = record { later = h.later; each = h.each }

  pub since-room : (began j k : LoggedView D) → OnlyTakesRoom j k → OpensSince moment left_since slots began j → OpensSince moment left_since slots began k
  since-room began j k takes h = subst (λ (v : LoggedView D). OpensSince moment left_since slots began v) (sym takes) (in-room began j k.journal.reserved k.log.room h)

  module _ (began j k : LoggedView D) (later : (more : List Entry) × (history_of k ≡ with_more (history_of j) more)) (h : OpensSince moment left_since slots began j) where
    -- the disk stayed
    pub since-still : k.disk ≡ j.disk → OpensSince moment left_since slots began k
    since-still same = record {
      later = subst (λ (d : D). moment began.disk ≤ moment d) (sym same) h.later;
      each = λ image left. front-on slots (history_of j) (history_of k) later.0 image later.1 (h.each image (subst (λ (d : D). left_since d (moment began.disk) image) same left));
    }

    -- what it left meanwhile opens to a front too
    pub since-on : (P : Bytes → Type 0) → LeavesOnlyImages moment left_since j.disk k.disk P → ((image : Bytes) → P image → OpensToFront slots (history_of k) image) → OpensSince moment left_since slots began k
    since-on P run front = record {
      later = omega (arith, h.later, run.later);
      each = λ image left. ⊎_elim
          (λ was. front-on slots (history_of j) (history_of k) later.0 image later.1 (h.each image was))
          (λ has. front image has)
          (run.earlier (moment began.disk) image h.later left);
    }

    -- so it is of upkeep
    pub since-upkeep : LeavesOnlyImages moment left_since j.disk k.disk (OpensAfter slots (history_of j)) → OpensSince moment left_since slots began k
    since-upkeep run = since-on (OpensAfter slots (history_of j)) run (λ image opens. front-on slots (history_of j) (history_of k) later.0 image later.1 (whole-front slots (history_of j) image opens))

-- ---- a commit

front-all : {X : Type 0} (P : X → Type 0) (xs ys : List X) → AllByRecursion P (xs ++ ys) → AllByRecursion P xs
front-all P [] ys all = tt
front-all P (x ∷ xs) ys all = (all.0, front-all P xs ys all.1)

-- the graphs after the commits that were there before
graph-before : (m n : Moment) (x : CommitPoint) → n.opened ≡ m.opened → n.commits ≡ m.commits ++ x ∷ [] → (k : ℕ) → k ≤ length m.commits → graph_after n k ≡ graph_after m k
graph-before m n x opened commits zero low = opened
graph-before m n x opened commits (suc k) low =
    let d : CommitPoint = record { graph = m.opened; acknowledged = true } in
    ap (λ (g : List Object). (slice_index_or n.commits k (record { graph = g; acknowledged = true })).graph) opened
    ∙ ap (λ (cs : List CommitPoint). (slice_index_or cs k d).graph) commits
    ∙ ap (λ (c : CommitPoint). c.graph) (get_or-append m.commits (x ∷ []) d k (omega (arith, low)))

-- the graph after the commit that came last
graph-last : (m n : Moment) (x : CommitPoint) → n.commits ≡ m.commits ++ x ∷ [] → graph_after n (suc (length m.commits)) ≡ x.graph
graph-last m n x commits =
    let d : CommitPoint = record { graph = n.opened; acknowledged = true } in
    ap (λ (cs : List CommitPoint). (slice_index_or cs (length m.commits) d).graph) commits ∙ ap (λ (c : CommitPoint). c.graph) (get_or-append_seam m.commits x [] d)

grown : (cs : List CommitPoint) (x : CommitPoint) → length (cs ++ x ∷ []) ≡ suc (length cs)
grown cs x = let e = length-append cs (x ∷ []) in omega (arith, e)

-- what a crash may leave after the disk failed a commit, it may leave before it or after it was done
crash-either : (m : Moment) (client : ℕ) (g : List Object) → IsCrashConsistent (next m (Call client Commit reply.DiskFault)) g
    → IsCrashConsistent m g ⊎ IsCrashConsistent (next m (Call client Commit reply.Done)) g
crash-either m client g h =
    let P : CommitPoint → Type 0 = λ c. c.acknowledged ≡ false in
    let failed : Moment = next m (Call client Commit reply.DiskFault) in
    let done : Moment = next m (Call client Commit reply.Done) in
    let x : CommitPoint = record { graph = failed.state.committed; acknowledged = false } in
    let y : CommitPoint = record { graph = done.state.committed; acknowledged = true } in
    let within : h.prefix ≤ suc (length m.commits) = subst (λ (n : ℕ). h.prefix ≤ n) (grown m.commits x) h.within in
    ⊎_elim
    (λ (last : length m.commits < h.prefix).
    let is : h.prefix ≡ suc (length m.commits) = omega (arith, within, last) in
    let over : length (m.commits ++ y ∷ []) ≤ h.prefix = subst (λ (n : ℕ). n ≤ h.prefix) (sym (grown m.commits y)) (omega (arith, last)) in
    inr (record {
      graph = h.graph;
      ids = h.ids;
      prefix = h.prefix;
      within = subst (λ (n : ℕ). h.prefix ≤ n) (sym (grown m.commits y)) within;
      has_acknowledged = subst (All P) (sym (drop_all h.prefix (m.commits ++ y ∷ []) over)) (All-from_recursion P [] tt);
      reachable = subst (λ (c : List Object). SameReachable g c) (ap (graph_after failed) is ∙ graph-last m failed x refl ∙ sym (graph-last m done y refl) ∙ ap (graph_after done) (sym is)) h.reachable;
    }))
    (λ (low : h.prefix ≤ length m.commits).
    let kept : AllByRecursion P (drop h.prefix m.commits ++ x ∷ []) = recursion_from_All P (drop h.prefix m.commits ++ x ∷ []) (subst (All P) (drop-append-le h.prefix m.commits (x ∷ []) low) h.has_acknowledged) in
    inl (record {
      graph = h.graph;
      ids = λ id has. subst (λ (i : ℕ). IsId i id) (step-size m.state client Commit).0 (h.ids id has);
      prefix = h.prefix;
      within = low;
      has_acknowledged = All-from_recursion P (drop h.prefix m.commits) (front-all P (drop h.prefix m.commits) (x ∷ []) kept);
      reachable = subst (λ (c : List Object). SameReachable g c) (graph-before m failed x refl refl h.prefix low) h.reachable;
    }))
    (cases_lt (length m.commits) h.prefix)

opens-either : (slots : ℕ) (h : History) (client : ℕ) (image : Bytes) → OpensAfter slots (with_entry h (Call client Commit reply.DiskFault)) image
    → OpensAfter slots h image ⊎ OpensAfter slots (with_entry h (Call client Commit reply.Done)) image
opens-either slots h client image a = ⊎_elim
    (λ before. inl (record { cells = a.cells; opened = a.opened; size = a.size; graph = before }))
    (λ after. inr (record { cells = a.cells; opened = a.opened; size = a.size; graph = subst (λ (m : Moment). IsCrashConsistent m (graph_of a.cells)) (sym (end_of-with_entry h (Call client Commit reply.Done))) after }))
    (crash-either (end_of h) client (graph_of a.cells) (subst (λ (m : Moment). IsCrashConsistent m (graph_of a.cells)) (end_of-with_entry h (Call client Commit reply.DiskFault)) a.graph))

-- the history where the disk failed no call, and where it failed this client's commit
history-running : {D : Type 0} (v : LoggedView D) → v.failed ≡ None → history_of v ≡ v.journal.history
history-running v running = ap (λ (o : Option FailedCall). option_map_or (λ client. with_entry v.journal.history (Call client Commit reply.DiskFault)) (option_and_then (λ f. f.commit) o) v.journal.history) running

history-failed : {D : Type 0} (v : LoggedView D) (client faults : ℕ) → v.failed ≡ Some (record { commit = Some client; faults = faults }) → history_of v ≡ with_entry v.journal.history (Call client Commit reply.DiskFault)
history-failed v client faults failed = ap (λ (o : Option FailedCall). option_map_or (λ client. with_entry v.journal.history (Call client Commit reply.DiskFault)) (option_and_then (λ f. f.commit) o) v.journal.history) failed

-- ---- a call

module _ {D : Type 0} (moment : D → ℕ) (left_since : D → ℕ → Bytes → Type 0) (slots : ℕ) (faults : D → ℕ) (began j k : LoggedView D) (client : ℕ) (c : TransactionCall) (later : (more : List Entry) × (history_of k ≡ with_more (history_of j) more)) (h : OpensSince moment left_since slots began j)
    (running : j.failed ≡ None) (run : LeavesOnlyImages moment left_since j.disk k.disk (OpensDuring slots j client c)) where
  -- what an image opens to where the commit was granted
  abbrev FailsToFront : Type 0
  FailsToFront = c ≡ Commit → IsGranted j.journal client Commit → (image : Bytes) → OpensAfter slots (with_entry j.journal.history (Call client Commit reply.DiskFault)) image → OpensToFront slots (history_of k) image

  before-front : (image : Bytes) → OpensAfter slots (history_of j) image → OpensToFront slots (history_of k) image
  before-front image opens = front-on slots (history_of j) (history_of k) later.0 image later.1 (whole-front slots (history_of j) image opens)

  during : FailsToFront → (image : Bytes) → OpensDuring slots j client c image → OpensToFront slots (history_of k) image
  during failing image (as_before opens) = before-front image opens
  during failing image (as_failed is _ granted opens) = failing is granted image opens

  since-during : FailsToFront → OpensSince moment left_since slots began k
  since-during failing = since-on moment left_since slots began j k later h (OpensDuring slots j client c) run (during failing)

  -- a commit that a journal answers was done
  commit-front : (r : Reply) → IsOfJournal r → DoesCallOn slots faults j k client c r → FailsToFront
  commit-front r of made is granted image opens =
      let does = made.does of in
      let no_memory : r ≢ reply.Memory = made.commit is granted.granted in
      let room : is_past_limit j.journal (entries_needed c) ≡ false = subst (λ (x : TransactionCall). is_past_limit j.journal (entries_needed x) ≡ false) (sym is) granted.room in
      let no_trace : r ≢ reply.TraceFull = λ e. let full = does.full.0 e in let clash = sym room ∙ full in cc (clash) in
      let machine : r ≡ (step (end_of j.journal.history).state client c).0 = does.machine (no_memory, no_trace) in
      let done : r ≡ reply.Done = machine ∙ ap (λ (x : TransactionCall). (step (end_of j.journal.history).state client x).0) is ∙ commit-done (end_of j.journal.history).state client granted.granted in
      let now : history_of k ≡ with_entry j.journal.history (Call client Commit reply.Done)
      = history-running k (made.goes_on of).running ∙ does.entry (no_memory, no_trace) ∙ ap (λ (x : TransactionCall). with_entry j.journal.history (Call client x r)) is ∙ ap (λ (x : Reply). with_entry j.journal.history (Call client Commit x)) done in
      ⊎_elim
      (λ before. before-front image (subst (λ (x : History). OpensAfter slots x image) (sym (history-running j running)) before))
      (λ after. subst (λ (x : History). OpensToFront slots x image) (sym now) (whole-front slots (with_entry j.journal.history (Call client Commit reply.Done)) image after))
      (opens-either slots j.journal.history client image opens)

  fault-front : DoesCallOn slots faults j k client c reply.DiskFault → FailsToFront
  fault-front made is granted image opens =
      let f = made.fault refl in
      let now : history_of k ≡ with_entry j.journal.history (Call client Commit reply.DiskFault)
      = history-failed k client (faults k.disk) f.told ∙ ap (λ (x : JournalView). with_entry x.history (Call client Commit reply.DiskFault)) f.journal in
      subst (λ (x : History). OpensToFront slots x image) (sym now) (whole-front slots (with_entry j.journal.history (Call client Commit reply.DiskFault)) image opens)

  pub since-call : (r : Reply) → DoesCallOn slots faults j k client c r → ((word seat : ℕ) → r ≢ reply.Again word seat) → OpensSince moment left_since slots began k
  since-call (reply.Again word seat) made met = absurd (met word seat refl)
  since-call (reply.Stopped n) made met = absurd (let some = subst (λ (o : Option FailedCall). IsSome o) running (made.only_stopped n refl) in cc (some))
  since-call reply.LogFull made met = since-still moment left_since slots began j k later h (ap (λ (v : LoggedView D). v.disk) (made.log_marked refl))
  since-call reply.DiskFault made met = since-during (fault-front made)
  since-call reply.Done made met = since-during (commit-front reply.Done tt made)
  since-call (reply.Id n) made met = since-during (commit-front (reply.Id n) tt made)
  since-call (reply.Pay n) made met = since-during (commit-front (reply.Pay n) tt made)
  since-call reply.TraceFull made met = since-during (commit-front reply.TraceFull tt made)
  since-call reply.Memory made met = since-during (commit-front reply.Memory tt made)
  since-call reply.NoTxn made met = since-during (commit-front reply.NoTxn tt made)
  since-call reply.HasTxn made met = since-during (commit-front reply.HasTxn tt made)
  since-call reply.Aborting made met = since-during (commit-front reply.Aborting tt made)
  since-call (reply.EmptyRegister n) made met = since-during (commit-front (reply.EmptyRegister n) tt made)
  since-call reply.NotShared made met = since-during (commit-front reply.NotShared tt made)
  since-call (reply.Busy n) made met = since-during (commit-front (reply.Busy n) tt made)
  since-call reply.Full made met = since-during (commit-front reply.Full tt made)
