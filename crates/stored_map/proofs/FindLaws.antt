-- A store that keeps a map is found on a disk, or none is.
use Rattle.std.proofs.Common.{◌≡◌, ◌≢◌, ℕ, ◌+◌, List, Option, Some, None, length, refl, sym, ap, ◌∙◌, subst}
use Rattle.plain_model.specs.declared.object.Object.{Object}
use Rattle.plain_model.specs.declared.calls.Reply.{Reply}
use Rattle.plain_model.specs.declared.calls.Reply.TheVariants as reply
use Rattle.plain_model.specs.Graphs.{root}
use Rattle.plain_model.specs.History.{History, end_of}
use Rattle.disk_model.specs.declared.area.Area.{Area}
use Rattle.disk_model.specs.Areas.{Bytes}
use Rattle.disk_model.specs.Told.{EachImage}
use Rattle.cell_model.specs.Graph.{graph_of}
use Rattle.core_store.specs.declared.marks.Marks.{Marks}
use Rattle.logged_journal.specs.View.{LoggedView}
use Rattle.journal_opening.specs.Openings.{OpensAs, OpensMeanwhile}
use Rattle.map_calls.specs.declared.failure.Failure.{Failure}
use Rattle.map_calls.specs.declared.failure.Failure.TheVariants as failure
use Rattle.map_calls.specs.declared.failure.Unopened.{Unopened}
use Rattle.map_calls.specs.declared.failure.Unopened.TheVariants as unopened
use Rattle.plain_map.specs.Pairs.{Pairs}
use Rattle.object_map.specs.declared.refusal.MapRefusal.{MapRefusal}
use Rattle.object_map.specs.declared.refusal.MapRefusal.TheVariants as refusal
use Rattle.object_map.specs.Broken.{IsFirstBroken}
use Rattle.object_map.specs.Maps.{IsMap}
use Rattle.object_map.specs.Seen.{Seen, at, held}
use Rattle.object_map.specs.Clients.{object_slots, ClientView, client_at, seen, IsClient, refusal_for, no_id}
use Rattle.object_map.specs.Walking.{Looks, Refuses as Denies}
use Rattle.object_map.specs.Walking.Refuses.{denies, starves, falls}
use Rattle.stored_map.specs.declared.kept.Kept.{Kept}
use Rattle.stored_map.specs.declared.kept.Kept.TheVariants.{Looking, Stopped, Shut}
use Rattle.stored_map.specs.Finding.{IsUnread, HoldsStore, FindsMap, FindsNoMap}
use Rattle.stored_map.specs.Graphs.{KeepsMap, KeepsNone, BreaksFirst}
use Rattle.stored_map.specs.Stores.{state_in, IsQuiet, HasBegun, IsLooking, OpensToSame}
use Rattle.stored_map.specs.Steps.{Stays, Refuses, OnlyLooks, failure_of, failure_in}
use Rattle.stored_map.proofs.GraphLaws.{keeps_map}
use Rattle.stored_map.proofs.LookLaws.{stays_then, looks_first, looks_more, looks_refused, looks_starved}
use Rattle.stored_map.proofs.StepLaws.{unmarked_then}
use Rattle.stored_map.proofs.ViewLaws.{seen_one, client_one}

-- ---- a look at the store

-- the client of a transaction that has begun
abbrev pub first_client : {D : Type 0} → LoggedView D → ClientView D
first_client v = client_at v 1

looked_from : {D : Type 0} (v : LoggedView D) (d : ClientView D) → HasBegun v → held (seen d) 0 ≡ Some root → Looks (first_client v) d → OnlyLooks (first_client v) d
looked_from v d b r l = looks_more l.looks (first_client v) (first_client v) d (looks_first (first_client v) b.rooted b.client.running) l.asks r l.graph

pub look_stays : {D : Type 0} (v w : LoggedView D) (d : ClientView D) → HasBegun v → held (seen d) 0 ≡ Some root → Looks (first_client v) d → w ≡ d.store → Stays v w
look_stays v w d b r l e = subst (λ (x : LoggedView _). Stays v x) (sym e) (looked_from v d b r l).stays

-- it keeps a map
pub look_finds : {D : Type 0} (v w : LoggedView D) (d : ClientView D) → HasBegun v → held (seen d) 0 ≡ Some root → Looks (first_client v) d → (pairs : Pairs) × IsMap 13 (seen (first_client v)).graph pairs → IsClient d.store d.number → w ≡ d.store → IsLooking w
look_finds v w d b r l m i e =
    let k = looked_from v d b r l in
    let one = seen_one d k.number in
    let map : KeepsMap (state_in v).committed = subst KeepsMap b.same (keeps_map (seen (first_client v)).graph m.0 m.1) in
    let looking : IsLooking d.store = record {
      begun = record {
        client = client_one d k.number i;
        rooted = ap (λ (s : Seen). held s 0) one ∙ k.rooted;
        same = ap (λ (s : Seen). s.graph) one ∙ (k.graph ∙ (b.same ∙ sym k.stays.committed));
        unmarked = unmarked_then v d.store b.unmarked k.marks;
        limits = k.stays.limits ∙ b.limits;
      };
      map = subst KeepsMap (sym k.stays.committed) map;
    } in
    subst (λ (x : LoggedView _). IsLooking x) (sym e) looking

-- a refusal of the store's isn't that there is no map
not_absent : (r : Reply) (id : ℕ) → refusal.NotMap id ≡ refusal_for r → ⊥
not_absent reply.Memory id e = absurd (cc (e))
not_absent reply.Done id e = absurd (cc (e))
not_absent (reply.Id i) id e = absurd (cc (e))
not_absent (reply.Pay payload) id e = absurd (cc (e))
not_absent reply.NoTxn id e = absurd (cc (e))
not_absent reply.HasTxn id e = absurd (cc (e))
not_absent reply.Aborting id e = absurd (cc (e))
not_absent (reply.EmptyRegister reg) id e = absurd (cc (e))
not_absent reply.NotShared id e = absurd (cc (e))
not_absent (reply.Busy pass) id e = absurd (cc (e))
not_absent reply.Full id e = absurd (cc (e))
not_absent reply.TraceFull id e = absurd (cc (e))
not_absent reply.LogFull id e = absurd (cc (e))
not_absent reply.DiskFault id e = absurd (cc (e))
not_absent (reply.Again word seat) id e = absurd (cc (e))
not_absent (reply.Stopped faults) id e = absurd (cc (e))

none_denied : {D : Type 0} (why : MapRefusal) (P : Type 0) (c d : ClientView D) (id : ℕ) → Denies why P c d → why ≡ refusal.NotMap id → P × Looks c d
none_denied why P c d id (denies i e p l) f = (p, l)
none_denied why P c d id (starves e l) f = absurd (let h = sym f ∙ e in cc (h))
none_denied why P c d id (falls h) f = absurd (not_absent h.fails.answer id (sym f ∙ h.fails.told))

-- it keeps none
pub look_finds_none : {D : Type 0} (v w : LoggedView D) (d : ClientView D) (why : MapRefusal) (id : ℕ) (disk : D) → HasBegun v → held (seen d) 0 ≡ Some root → Denies why ((pairs : Pairs) → IsMap 13 (seen (first_client v)).graph pairs → ⊥) (first_client v) d
    → ((x : ℕ) → why ≡ refusal.NotMap x → IsFirstBroken 13 (at (seen (first_client v))) x) → why ≡ refusal.NotMap id → w ≡ d.store → disk ≡ w.disk → IsUnread v (unopened.NoMap id) (Shut disk)
look_finds_none v w d why id disk b r n k e f s =
    let h = none_denied why ((pairs : Pairs) → IsMap 13 (seen (first_client v)).graph pairs → ⊥) (first_client v) d id n e in
    let same : disk ≡ v.disk = s ∙ (ap (λ (x : LoggedView _). x.disk) f ∙ (looked_from v d b r h.1).stays.disk) in
    (subst KeepsNone b.same h.0, subst (λ (g : List Object). BreaksFirst g id) b.same (k id e), ap (λ (x : _). Shut x) same)

-- a look was refused
refused_look : {D : Type 0} (v : LoggedView D) (d : ClientView D) (why : MapRefusal) (P : Type 0) → HasBegun v → held (seen d) 0 ≡ Some root → Denies why P (first_client v) d → (why ≡ no_id → ⊥) → ((id : ℕ) → why ≢ refusal.NotMap id) → Refuses (failure_in why) v d.store
refused_look v d why P b r (denies i e p l) n m = absurd (m i e)
refused_look v d why P b r (starves e l) n m = subst (λ (w : MapRefusal). Refuses (failure_in w) v d.store) (sym e) (looks_starved (first_client v) d (looked_from v d b r l) b.unmarked)
refused_look v d why P b r (falls h) n m = looks_refused why (first_client v) (first_client v) d (looks_first (first_client v) b.rooted b.client.running) b.unmarked h.fails n

unread_at : {D : Type 0} (v w : LoggedView D) (d : ClientView D) (f : Failure) → Refuses f v d.store → w ≡ d.store → IsUnread v (unopened.Unread f) (Stopped w)
unread_at v w d f r e = (w, refl, subst (λ (x : LoggedView _). Refuses f v x) (sym e) r)

pub look_starves : {D : Type 0} (v w : LoggedView D) (d : ClientView D) (why : MapRefusal) (P : Type 0) → HasBegun v → held (seen d) 0 ≡ Some root → Denies why P (first_client v) d → (why ≡ no_id → ⊥) → why ≡ refusal.Memory → w ≡ d.store → IsUnread v (unopened.Unread failure.Memory) (Stopped w)
look_starves v w d why P b r h n e s = unread_at v w d failure.Memory (subst (λ (x : MapRefusal). Refuses (failure_in x) v d.store) e (refused_look v d why P b r h n (λ id f. (let q = sym e ∙ f in absurd (cc (q)))))) s

pub look_falls : {D : Type 0} (v w : LoggedView D) (d : ClientView D) (why : MapRefusal) (r : Reply) (f : Failure) (P : Type 0) → HasBegun v → held (seen d) 0 ≡ Some root → Denies why P (first_client v) d → (why ≡ no_id → ⊥) → why ≡ refusal.Store r → f ≡ failure_of r → w ≡ d.store → IsUnread v (unopened.Unread f) (Stopped w)
look_falls v w d why r f P b k h n e q s =
    let here = subst (λ (x : MapRefusal). Refuses (failure_in x) v d.store) e (refused_look v d why P b k h n (λ id z. (let t = sym e ∙ z in absurd (cc (t))))) in
    unread_at v w d f (subst (λ (x : Failure). Refuses x v d.store) (sym q) here) s

-- what was unread in a store of which the client's transaction began is unread in that of before
pub unread_before : {D : Type 0} (u v : LoggedView D) (why : Unopened) (kept : Kept D) → Stays u v → IsUnread v why kept → IsUnread u why kept
unread_before u v unopened.Power kept s h = h
unread_before u v (unopened.Refused e) kept s h = h
unread_before u v (unopened.NoMap id) kept s h = (subst KeepsNone s.committed h.0, subst (λ (g : List Object). BreaksFirst g id) s.committed h.1, h.2 ∙ ap (λ (x : _). Shut x) s.disk)
unread_before u v (unopened.Unread f) kept s h = (h.0, h.1, record { stays = stays_then u v h.0 s h.2.stays; no_disk = h.2.no_disk; marked = h.2.marked })

-- ---- the store that was opened

module _ {D : Type 0} (content : D → Area → Option (List ℕ)) (may_leave : D → Area → List ℕ → Type 0) (moment : D → ℕ) (left_since : D → ℕ → Bytes → Type 0) (faults : D → ℕ) (disk : D) (v : LoggedView D) (o : OpensAs content faults object_slots disk (record { trace = 1048576; log = 1071644672 }) v) where
  pub opened_quiet : IsQuiet v
  opened_quiet = record {
    running = o.running;
    none = ap (λ (h : History). (end_of h).state.active) o.history;
    unmarked = record { history = ap (λ (m : Marks). m.trace) o.unmarked.0; log = o.unmarked.1 };
    limits = o.limits;
  }

  opened_graph : (state_in v).committed ≡ graph_of v.journal.opening
  opened_graph = ap (λ (h : History). (end_of h).state.committed) o.history

  module _ (meanwhile : OpensMeanwhile content may_leave moment left_since object_slots disk v.disk) (sized : length v.journal.opening ≡ (state_in v).ids + 1) (left : v.failed ≡ None → EachImage may_leave v.disk (OpensToSame (state_in v).ids (state_in v).committed)) where
    abbrev Holds : ℕ → D → Type 0
    Holds ids now = HoldsStore content may_leave moment left_since faults disk ids v.journal.opening now

    holds_here : Holds (state_in v).ids v.disk
    holds_here = record {
      reads = o.opens;
      size = sized;
      images = subst (λ (g : List Object). EachImage may_leave v.disk (OpensToSame (state_in v).ids g)) opened_graph (left o.running);
      meanwhile = meanwhile;
      same = sym o.counted.0 ∙ o.unfailed;
    }

    holds_still : (w : LoggedView D) → Stays v w → Holds (state_in w).ids w.disk
    holds_still w s = subst (λ (n : ℕ). Holds n w.disk) (sym s.ids) (subst (λ (d : D). Holds (state_in v).ids d) (sym s.disk) holds_here)

    pub finds_map : (w : LoggedView D) → IsLooking w → Stays v w → FindsMap content may_leave moment left_since faults disk (Looking w)
    finds_map w l s = record { view = w; is = refl; looking = l; cells = v.journal.opening; holds = holds_still w s; graph = s.committed ∙ opened_graph }

    pub finds_no_map : (why : Unopened) (kept : Kept D) → IsUnread v why kept → FindsNoMap content may_leave moment left_since faults disk why kept
    finds_no_map unopened.Power kept h = h
    finds_no_map (unopened.Refused e) kept h = absurd h
    finds_no_map (unopened.NoMap id) kept h = record {
      disk = v.disk;
      is = h.2;
      ids = (state_in v).ids;
      cells = v.journal.opening;
      holds = holds_here;
      none = subst KeepsNone opened_graph h.0;
      broken = subst (λ (g : List Object). BreaksFirst g id) opened_graph h.1;
    }
    finds_no_map (unopened.Unread f) kept h = record {
      view = h.0;
      is = h.1;
      cells = v.journal.opening;
      holds = holds_still h.0 h.2.stays;
      limits = h.2.stays.limits ∙ o.limits;
      no_disk = h.2.no_disk;
      marked = h.2.marked;
    }
