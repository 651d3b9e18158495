-- How the command `map` ends, by what is kept of the store.
use Rattle.std.proofs.Common.{◌≡◌, inl, inr, ℕ, ◌≤◌, true, List, [], Option, Some, None, refl, sym, ap, ◌∙◌, subst, arith}
use Rattle.std.specs.Prelude.{IfSome, IsNone}
use Rattle.plain_model.specs.declared.object.Object.{Object}
use Rattle.disk_model.specs.declared.area.Area.{Area}
use Rattle.disk_model.specs.Areas.{Bytes}
use Rattle.disk_model.specs.Causes.{Rose}
use Rattle.cell_model.specs.Cells.{Cell}
use Rattle.cell_model.specs.Graph.{graph_of}
use Rattle.core_store.specs.Opening.{opened_history}
use Rattle.plain_model.specs.History.{History, IsLegal}
use Rattle.plain_laws.specs.Serializable.{IsSerializable}
use Rattle.logged_journal.specs.View.{LoggedView}
use Rattle.store_opening.specs.declared.open_refusal.OpenRefusal.{OpenRefusal}
use Rattle.store_opening.specs.declared.open_refusal.OpenRefusal.TheVariants as refusal
use Rattle.script_lines.specs.Output.{EndsWith, open_refusal_line}
use Rattle.script_lines.specs.Numbers.{object_slots}
use Rattle.map_calls.specs.declared.failure.Failure.{Failure}
use Rattle.map_calls.specs.declared.failure.Failure.TheVariants as failure
use Rattle.map_calls.specs.declared.failure.Unopened.{Unopened as Why}
use Rattle.map_calls.specs.declared.failure.Unopened.TheVariants as why
use Rattle.map_calls.specs.Views.{StoreView, status_of_refusal as status_of_map, status_of_unopened, unopened_line}
use Rattle.map_script.specs.Mapped.{Mapped, Streams, streams}
use Rattle.stored_map.specs.declared.kept.Kept.{Kept as KeptStore}
use Rattle.stored_map.specs.declared.kept.Kept.TheVariants.{Idle, Looking, Stopped, Shut as ShutStore, Taken}
use Rattle.stored_map.specs.declared.kept.Released.{Released}
use Rattle.stored_map.specs.declared.kept.Released.TheVariants as released
use Rattle.stored_map.specs.Finding.{HoldsStore, FindsMap, RefusesStore, FindsNone, FindsUnread, FindsNoMap}
use Rattle.stored_map.specs.Graphs.{KeepsMap, map_of}
use Rattle.stored_map.specs.Stores.{state_in, HasLimits, Releases, view_of, leaving}
use Rattle.brahma_shell.specs.declared.ended.Ended.{Ended}
use Rattle.brahma_shell.specs.declared.ended.Ended.TheVariants.{Shut, Kept}
use Rattle.brahma_shell.specs.Ended.{kept_in, disk_in}
use Rattle.brahma_shell.specs.MapRan.{leaves_of, ended_of, IsOfMap, IsSeenIn, Unmapped, MapRan}
use Rattle.brahma_shell.specs.Running.{HoldsNow}
use Rattle.brahma_shell.specs.Top.{Tell, IsStatusOfReplay, Outside, outside, status_of_refusal}
use Rattle.brahma_shell.proofs.MapEnds.{mapped_keeps, mapped_status, mapped_untold, mapped_rose, mapped_shut, mapped_done}

-- ---- the journal

history_is : (h : History) (cells : List Cell) → h.slots ≡ object_slots → graph_of cells ≡ h.opening → h ≡ record (opened_history object_slots h.ids cells) { entries = h.entries }
history_is h cells s g = ap (λ (n : ℕ). record h { slots = n }) s ∙ ap (λ (x : List Object). record h { slots = object_slots; opening = x }) (sym g)

pub of_map : {D : Type 0} (may_leave : D → Area → List ℕ → Type 0) (faults : D → ℕ) (v : LoggedView D) → HasLimits v → IsLegal v.journal.history → IsSerializable v.journal.history → HoldsNow may_leave faults v → IsOfMap may_leave v
of_map may_leave faults v limits legal serial h = record {
  legal = legal;
  serializable = serial;
  running = h.running;
  opened = record { history = history_is v.journal.history v.journal.opening h.slots h.opening; limits = limits };
  entries = h.entries;
  sound = h.sound;
  led = h.led;
  lasting = h.lasting;
  images = h.images;
  opens = h.opens;
  full = h.full;
  log_full = h.log_full;
}

-- ---- what is let go

pub record LetGo {D : Type 0} (faults : D → ℕ) (kept : KeptStore D) (ended : Ended D) : Type 0 where
  pub counted : (view_of faults kept).faults ≡ faults (disk_in ended)
  pub seen : IfSome (kept_in ended) (λ v. IsSeenIn v (view_of faults kept))
  pub off : IsNone (kept_in ended) → (view_of faults kept).running ≡ true → ⊥

let_go : {D : Type 0} (faults : D → ℕ) (kept : KeptStore D) (r : Released D) → Releases kept r → LetGo faults kept (ended_of r)
let_go faults (Idle v) r e = subst (λ (x : Released _). LetGo faults (Idle v) (ended_of x)) (sym e) (record { counted = refl; seen = record { map = refl; room = refl; history = refl; log = refl }; off = λ n h. absurd (cc (n)) })
let_go faults (Looking v) r e = subst (λ (x : Released _). LetGo faults (Looking v) (ended_of x)) (sym e) (record { counted = refl; seen = record { map = refl; room = refl; history = refl; log = refl }; off = λ n h. absurd (cc (n)) })
let_go faults (Stopped v) r e = subst (λ (x : Released _). LetGo faults (Stopped v) (ended_of x)) (sym e) (record { counted = refl; seen = record { map = refl; room = refl; history = refl; log = refl }; off = λ n h. absurd (cc (h)) })
let_go faults (ShutStore disk) r e = subst (λ (x : Released _). LetGo faults (ShutStore disk) (ended_of x)) (sym e) (record { counted = refl; seen = tt; off = λ n h. absurd (cc (h)) })
let_go faults Taken r e = absurd e

leaves_end : {D : Type 0} (told : Type 0) (may_leave : D → Area → List ℕ → Type 0) (a b : Streams) (first now : StoreView) (status : ℕ) (kept : KeptStore D) (r : Released D) → Releases kept r → Mapped told a b first now (leaving may_leave kept) status → Mapped told a b first now (leaves_of may_leave (disk_in (ended_of r))) status
leaves_end told may_leave a b first now status (Idle v) r e m = subst (λ (x : Released _). Mapped told a b first now (leaves_of may_leave (disk_in (ended_of x))) status) (sym e) m
leaves_end told may_leave a b first now status (Looking v) r e m = subst (λ (x : Released _). Mapped told a b first now (leaves_of may_leave (disk_in (ended_of x))) status) (sym e) m
leaves_end told may_leave a b first now status (Stopped v) r e m = subst (λ (x : Released _). Mapped told a b first now (leaves_of may_leave (disk_in (ended_of x))) status) (sym e) m
leaves_end told may_leave a b first now status (ShutStore disk) r e m = subst (λ (x : Released _). Mapped told a b first now (leaves_of may_leave (disk_in (ended_of x))) status) (sym e) m
leaves_end told may_leave a b first now status Taken r e m = absurd e

both_known : {D : Type 0} (may_leave : D → Area → List ℕ → Type 0) (now : StoreView) (o : Option (LoggedView D)) → IfSome o (λ v. IsOfMap may_leave v) → IfSome o (λ v. IsSeenIn v now) → IfSome o (λ v. IsOfMap may_leave v × IsSeenIn v now)
both_known may_leave now None a b = tt
both_known may_leave now (Some v) a b = (a, b)

-- ---- the lines were done

module _ {D : Type 0} (content : D → Area → Option (List ℕ)) (may_leave : D → Area → List ℕ → Type 0) (moment : D → ℕ) (left_since : D → ℕ → Bytes → Type 0) (faults : D → ℕ) (disk : D)
    (left later : Option (List ℕ)) (reads reads_now : ℕ) (written written_now : Option (List ℕ)) (writes writes_now : ℕ) (status : ℕ) (r : Released D) where
  abbrev Before : Outside
  Before = outside left reads written writes (faults disk)

  abbrev After : Outside
  After = outside later reads_now written_now writes_now (faults (disk_in (ended_of r)))

  ran_at : (v : LoggedView D) (cells : List Cell) → HoldsStore content may_leave moment left_since faults disk (state_in v).ids cells v.disk → (state_in v).committed ≡ graph_of cells → KeepsMap (state_in v).committed → (kept : KeptStore D) → Releases kept r
      → Mapped (Tell content) (streams left reads written writes) (streams later reads_now written_now writes_now) (view_of faults (Looking v)) (view_of faults kept) (leaving may_leave kept) status
      → IfSome (kept_in (ended_of r)) (λ x. IsOfMap may_leave x) → MapRan content may_leave disk Before After status (ended_of r)
  ran_at v cells h g k kept e m j =
      let first = view_of faults (Looking v) in
      let now = view_of faults kept in
      let l = leaves_of may_leave (disk_in (ended_of r)) in
      let a = streams left reads written writes in
      let b = streams later reads_now written_now writes_now in
      let n = leaves_end (Tell content) may_leave a b first now status kept r e m in
      let go = let_go faults kept r e in
      let at : faults v.disk ≡ faults disk = h.same in
      let rose : Rose first.faults now.faults → Rose (faults disk) (faults (disk_in (ended_of r))) = λ q. subst (λ i. Rose i (faults (disk_in (ended_of r)))) at (subst (λ i. Rose (faults v.disk) i) go.counted q) in
      let back : Rose (faults disk) (faults (disk_in (ended_of r))) → Rose first.faults now.faults = λ q. subst (λ i. Rose (faults v.disk) i) (sym go.counted) (subst (λ i. Rose i (faults (disk_in (ended_of r)))) (sym at) q) in
      record {
        cells = cells;
        opened = h.reads;
        ids = (state_in v).ids;
        size = h.size;
        keeps = subst KeepsMap g k;
        «first» = first;
        now = now;
        map = ap (λ (x : List Object). map_of (state_in v).ids x) g;
        counted = (at, go.counted);
        mapped = n;
        journal = both_known may_leave now (kept_in (ended_of r)) j go.seen;
        exit = λ tell image is. mapped_keeps (Tell content) a b first now l status n tell image is;
        statuses = mapped_status (Tell content) a b first now l status n;
        failed_disk = λ six. rose (mapped_rose (Tell content) a b first now l status n six);
        only_untold = mapped_untold (Tell content) a b first now l status n;
        handed = λ none. mapped_shut (Tell content) a b first now l status n (go.off none);
        complete = λ only x y z. mapped_done (Tell content) a b first now l status n only x y (λ q. z (rose q));
      }

  pub ran : (opened kept : KeptStore D) → FindsMap content may_leave moment left_since faults disk opened → Releases kept r
      → Mapped (Tell content) (streams left reads written writes) (streams later reads_now written_now writes_now) (view_of faults opened) (view_of faults kept) (leaving may_leave kept) status
      → IfSome (kept_in (ended_of r)) (λ x. IsOfMap may_leave x) → MapRan content may_leave disk Before After status (ended_of r)
  ran opened kept f e m j =
      ran_at f.view f.cells f.holds f.graph f.looking.map kept e
      (subst (λ (x : KeptStore D). Mapped (Tell content) (streams left reads written writes) (streams later reads_now written_now writes_now) (view_of faults x) (view_of faults kept) (leaving may_leave kept) status) f.is m) j

  pub ran_later : (opened kept : KeptStore D) → FindsMap content may_leave moment left_since faults disk opened → Releases kept r → (view_of faults opened).faults ≤ (view_of faults kept).faults → faults disk ≤ faults (disk_in (ended_of r))
  ran_later opened kept f e l =
      let one : (view_of faults opened).faults ≡ faults disk = ap (λ (x : KeptStore D). (view_of faults x).faults) f.is ∙ f.holds.same in
      let two = (let_go faults kept r e).counted in
      omega (arith, one, two, l)

  -- ---- no map was found

  same_status : (e : OpenRefusal) → status_of_map e ≡ status_of_refusal e
  same_status refusal.Disk = refl
  same_status (refusal.Damaged place at) = refl
  same_status refusal.NoStore = refl
  same_status (refusal.UnknownVersion byte) = refl
  same_status (refusal.Unsound id rule) = refl
  same_status refusal.Memory = refl
  same_status refusal.LogFull = refl

  disk_refusal : (e : OpenRefusal) → status_of_map e ≡ 6 → e ≡ refusal.Disk
  disk_refusal refusal.Disk s = refl
  disk_refusal (refusal.Damaged place at) s = absurd (omega (arith, s))
  disk_refusal refusal.NoStore s = absurd (omega (arith, s))
  disk_refusal (refusal.UnknownVersion byte) s = absurd (omega (arith, s))
  disk_refusal (refusal.Unsound id rule) s = absurd (omega (arith, s))
  disk_refusal refusal.Memory s = absurd (omega (arith, s))
  disk_refusal refusal.LogFull s = absurd (omega (arith, s))

  -- what is handed back of a disk is the disk
  of_shut : (kept : KeptStore D) (d : D) → kept ≡ ShutStore d → Releases kept r → ended_of r ≡ Shut d
  of_shut kept d e h = (let q : r ≡ released.Shut d = subst (λ (k : KeptStore D). Releases k r) e h in ap (λ (x : Released D). ended_of x) q)

  of_stopped : (kept : KeptStore D) (v : LoggedView D) → kept ≡ Stopped v → Releases kept r → ended_of r ≡ Kept v
  of_stopped kept v e h = (let q : r ≡ released.Open v = subst (λ (k : KeptStore D). Releases k r) e h in ap (λ (x : Released D). ended_of x) q)

  abbrev Now : Ended D → Outside
  Now e = outside later reads_now written_now writes_now (faults (disk_in e))

  abbrev Lost : Ended D → Type 0
  Lost e = Unmapped content may_leave moment left_since disk Before (Now e) status e

  refused_lost : (e : OpenRefusal) (kept : KeptStore D) (k : RefusesStore content may_leave moment left_since faults disk e kept) → status ≡ status_of_map e → EndsWith written written_now writes writes_now [] (open_refusal_line e) → Lost (Shut k.disk)
  refused_lost e kept k s p = inl (record {
    refusal = e;
    refused = k.refused;
    told = s ∙ same_status e;
    printed = p;
    shut = refl;
    failed = λ six. k.fault.failed (disk_refusal e (sym s ∙ six));
    moments = k.meanwhile;
  })

  none_lost : (id : ℕ) (kept : KeptStore D) (k : FindsNone content may_leave moment left_since faults disk id kept) → status ≡ 7 → EndsWith written written_now writes writes_now [] (unopened_line (why.NoMap id)) → Lost (Shut k.disk)
  none_lost id kept k s p = inr (inl (record {
    cells = k.cells;
    opened = k.holds.reads;
    none = k.none;
    ids = k.ids;
    size = k.holds.size;
    told = s;
    id = id;
    broken = k.broken;
    printed = p;
    shut = refl;
    faults = k.holds.same;
    exit = k.holds.images;
    moments = k.holds.meanwhile;
  }))

  unread_lost : (f : Failure) (kept : KeptStore D) (k : FindsUnread content may_leave moment left_since faults disk f kept) → status ≡ status_of_unopened (why.Unread f) → EndsWith written written_now writes writes_now [] (unopened_line (why.Unread f)) → IsOfMap may_leave k.view → Lost (Kept k.view)
  unread_lost f kept k s p j = inr (inr (record {
    cells = k.cells;
    opened = k.holds.reads;
    ids = (state_in k.view).ids;
    size = k.holds.size;
    cause = f;
    no_disk = k.no_disk;
    told = s;
    printed = p;
    view = k.view;
    kept = refl;
    journal = j;
    history = k.marked.history;
    log = k.marked.log;
    same = k.holds.same;
    exit = k.holds.images;
    moments = k.holds.meanwhile;
  }))

  pub unmapped : (cause : Why) (kept : KeptStore D) → FindsNoMap content may_leave moment left_since faults disk cause kept → Releases kept r → status ≡ status_of_unopened cause → EndsWith written written_now writes writes_now [] (unopened_line cause)
      → IfSome (kept_in (ended_of r)) (λ x. IsOfMap may_leave x) → Lost (ended_of r)
  unmapped why.Power kept h e s p j = absurd h
  unmapped (why.Refused x) kept h e s p j = subst (λ (q : Ended D). Lost q) (sym (of_shut kept h.disk h.is e)) (refused_lost x kept h s p)
  unmapped (why.NoMap id) kept h e s p j = subst (λ (q : Ended D). Lost q) (sym (of_shut kept h.disk h.is e)) (none_lost id kept h s p)
  unmapped (why.Unread f) kept h e s p j =
      let is = of_stopped kept h.view h.is e in
      subst (λ (q : Ended D). Lost q) (sym is) (unread_lost f kept h s p (subst (λ (q : Ended D). IfSome (kept_in q) (λ x. IsOfMap may_leave x)) is j))

  pub lost_later : (cause : Why) (kept : KeptStore D) → FindsNoMap content may_leave moment left_since faults disk cause kept → Releases kept r → faults disk ≤ faults (disk_in (ended_of r))
  lost_later why.Power kept h e = absurd h
  lost_later (why.Refused x) kept h e = subst (λ (q : Ended D). faults disk ≤ faults (disk_in q)) (sym (of_shut kept h.disk h.is e)) h.fault.later
  lost_later (why.NoMap id) kept h e = subst (λ (q : Ended D). faults disk ≤ faults (disk_in q)) (sym (of_shut kept h.disk h.is e)) (let z = h.holds.same in omega (arith, z))
  lost_later (why.Unread f) kept h e = subst (λ (q : Ended D). faults disk ≤ faults (disk_in q)) (sym (of_stopped kept h.view h.is e)) (let z = h.holds.same in omega (arith, z))

  pub lost_status : (cause : Why) (kept : KeptStore D) → FindsNoMap content may_leave moment left_since faults disk cause kept → status ≡ status_of_unopened cause → IsStatusOfReplay status
  lost_status why.Power kept h s = absurd h
  lost_status (why.Refused refusal.Disk) kept h s = inr (inr (inr (inr (inl s))))
  lost_status (why.Refused (refusal.Damaged place at)) kept h s = inr (inr (inr (inr (inr (inl s)))))
  lost_status (why.Refused refusal.NoStore) kept h s = inr (inr (inr (inr (inr (inl s)))))
  lost_status (why.Refused (refusal.UnknownVersion byte)) kept h s = inr (inr (inr (inr (inr (inl s)))))
  lost_status (why.Refused (refusal.Unsound id rule)) kept h s = inr (inr (inr (inr (inr (inl s)))))
  lost_status (why.Refused refusal.Memory) kept h s = inr (inr (inr (inr (inr (inr (inl s))))))
  lost_status (why.Refused refusal.LogFull) kept h s = inr (inr (inr (inr (inr (inr (inr s))))))
  lost_status (why.NoMap id) kept h s = inr (inr (inr (inr (inr (inl s)))))
  lost_status (why.Unread failure.Disk) kept h s = inr (inr (inr (inr (inl s))))
  lost_status (why.Unread failure.HistoryFull) kept h s = inr (inr (inr (inr (inr (inr (inr s))))))
  lost_status (why.Unread failure.LogFull) kept h s = inr (inr (inr (inr (inr (inr (inr s))))))
  lost_status (why.Unread failure.Memory) kept h s = inr (inr (inr (inr (inr (inr (inl s))))))
