-- What one call at the store below comes to.
use Rattle.std.proofs.Common.{◌≡◌, ◌≢◌, ℕ, ◌<◌, List, Option, Some, None, Result, Ok, Err, refl, sym, ap, ◌∙◌, subst, ◌⊎◌, inl, inr, ⊎_elim, true}
use Rattle.std.specs.Prelude.{IfSome, IsSome, OnOk, IfOk, IfErr}
use Rattle.plain_model.specs.declared.calls.Call.{Call as TransactionCall}
use Rattle.plain_model.specs.declared.calls.Call.TheVariants as call
use Rattle.plain_model.specs.declared.calls.Reply.{Reply}
use Rattle.plain_model.specs.declared.calls.Reply.TheVariants as reply
use Rattle.plain_model.specs.declared.calls.Entry.TheVariants.{Call}
use Rattle.plain_model.specs.declared.object.Object.{Object}
use Rattle.plain_model.specs.declared.write.Place.TheVariants.{Slot, Payload}
use Rattle.plain_model.specs.Graphs.{after_set, put_object, blank}
use Rattle.plain_model.specs.Machine.{State, step}
use Rattle.plain_model.specs.History.{end_of}
use Rattle.plain_model.proofs.HistoryLemmas.{end_of-with_entry}
use Rattle.plain_model.proofs.StepLaws.{end_of-slots}
use Rattle.core_store.specs.Steppings.{IsEntered}
use Rattle.core_store.specs.JournalView.{JournalView}
use Rattle.logged_journal.specs.View.{LoggedView}
use Rattle.logged_journal.specs.Calls.{IsOfJournal, IsGranted, IsPastLog, DoesCall, KeepsDisk, GoesOn, FailsCommit}
use Rattle.object_store.specs.declared.error.StoreError.{StoreError}
use Rattle.object_store.specs.declared.error.StoreError.TheVariants as error
use Rattle.object_store.specs.declared.reference.Held.{Held}
use Rattle.object_store.specs.Seen.{object_slots, client, state_of, graph_in, register_in, IsAlone, IsLive, slot_in, payload_in}
use Rattle.object_store.specs.Calls.{Does, IsShortOf, IsShort, IsIn, Reads, Looks, Writes, Makes, IsFull, IsMakeShort, IsInside, IsOfLive, IsWant, error_of}
use Rattle.object_store.specs.Steps.{id_of, register_of}
use Rattle.object_store.proofs.AloneLaws.{ReadsTo, reads, LooksTo, looks, WritesTo, sets, stores, MakesNone, MakesTo, made_or_full}

-- ---- what the store below may answer

pub not_commit : (c : TransactionCall) → IsInside c → c ≢ call.Commit
not_commit c h e = subst IsInside e h

pub not_abort : (c : TransactionCall) → IsInside c → c ≢ call.Abort
not_abort c h e = subst IsInside e h

pub of_live : (r : Reply) → ((faults : ℕ) → r ≢ reply.Stopped faults) → r ≢ reply.DiskFault → IsOfLive r
of_live (reply.Stopped faults) s d = s faults refl
of_live reply.DiskFault s d = d refl
of_live (reply.Again word seat) s d = tt
of_live reply.Done s d = tt
of_live (reply.Id id) s d = tt
of_live (reply.Pay payload) s d = tt
of_live reply.TraceFull s d = tt
of_live reply.Memory s d = tt
of_live reply.NoTxn s d = tt
of_live reply.HasTxn s d = tt
of_live reply.Aborting s d = tt
of_live (reply.EmptyRegister reg) s d = tt
of_live reply.NotShared s d = tt
of_live (reply.Busy pass) s d = tt
of_live reply.Full s d = tt
of_live reply.LogFull s d = tt

pub none_failed : {X : Type 0} (o : Option X) → o ≡ None → IsSome o → ⊥
none_failed None e h = absurd (cc)
none_failed (Some x) e h = absurd (cc)

-- a reply is one that something is short, or of those it isn't
abbrev pub IsDone : Reply → Type 0
IsDone r = IsEntered r × IsOfJournal r

pub want_or_done : (r : Reply) → IsOfLive r → IsWant r ⊎ IsDone r
want_or_done reply.Memory h = inl tt
want_or_done reply.TraceFull h = inl tt
want_or_done reply.LogFull h = inl tt
want_or_done (reply.Stopped faults) h = absurd h
want_or_done reply.DiskFault h = absurd h
want_or_done (reply.Again word seat) h = inr ((λ e. absurd (cc), λ e. absurd (cc)), tt)
want_or_done reply.Done h = inr ((λ e. absurd (cc), λ e. absurd (cc)), tt)
want_or_done (reply.Id id) h = inr ((λ e. absurd (cc), λ e. absurd (cc)), tt)
want_or_done (reply.Pay payload) h = inr ((λ e. absurd (cc), λ e. absurd (cc)), tt)
want_or_done reply.NoTxn h = inr ((λ e. absurd (cc), λ e. absurd (cc)), tt)
want_or_done reply.HasTxn h = inr ((λ e. absurd (cc), λ e. absurd (cc)), tt)
want_or_done reply.Aborting h = inr ((λ e. absurd (cc), λ e. absurd (cc)), tt)
want_or_done (reply.EmptyRegister reg) h = inr ((λ e. absurd (cc), λ e. absurd (cc)), tt)
want_or_done reply.NotShared h = inr ((λ e. absurd (cc), λ e. absurd (cc)), tt)
want_or_done (reply.Busy pass) h = inr ((λ e. absurd (cc), λ e. absurd (cc)), tt)
want_or_done reply.Full h = inr ((λ e. absurd (cc), λ e. absurd (cc)), tt)

-- ---- what a call leaves

pub stepped : (j k : JournalView) (c : TransactionCall) (r : Reply) → DoesCall object_slots j k client c r → IsEntered r → step (end_of j.history).state client c ≡ (r, (end_of k.history).state)
stepped j k c r d e =
    let machine : r ≡ (step (end_of j.history).state client c).0 = d.machine e in
    let state : (end_of k.history).state ≡ (step (end_of j.history).state client c).1 = ap (λ h. (end_of h).state) (d.entry e) ∙ ap (λ m. m.state) (end_of-with_entry j.history (Call client c r)) in
    ap (λ x. (x, (step (end_of j.history).state client c).1)) (sym machine) ∙ ap (λ (x : State). (r, x)) (sym state)

-- the clauses of a call of a store of which the disk failed no call, but for those on commits
pub record Answers {D : Type 0} (c : TransactionCall) (r : Reply) (v w : LoggedView D) : Type 0 where
  pub live : IsOfLive r
  pub running : v.failed ≡ None
  pub does : IsOfJournal r → DoesCall object_slots v.journal w.journal client c r
  pub goes_on : IsOfJournal r → GoesOn v w
  pub full : r ≡ reply.LogFull → IsPastLog v client c
  pub marked : r ≡ reply.LogFull → w ≡ record v { log_full = true }
  pub disk : KeepsDisk v w

pub answered : {D : Type 0} {faults : D → ℕ} (v w : LoggedView D) (c : TransactionCall) (r : Reply) → v.failed ≡ None → c ≢ call.Commit → ((n : ℕ) → r ≡ reply.Stopped n → IsSome v.failed) → (r ≡ reply.DiskFault → FailsCommit faults v w client c)
    → (IsOfJournal r → DoesCall object_slots v.journal w.journal client c r) → (IsOfJournal r → GoesOn v w) → (r ≡ reply.LogFull → IsPastLog v client c) → (r ≡ reply.LogFull → w ≡ record v { log_full = true })
    → ((c ≡ call.Commit → IsGranted v.journal client call.Commit → ⊥) → KeepsDisk v w) → Answers c r v w
answered v w c r running other only fault does goes full marked untouched = record {
  live = of_live r (λ n e. none_failed v.failed running (only n e)) (λ e. other (fault e).commit);
  running = running;
  does = does;
  goes_on = goes;
  full = full;
  marked = marked;
  disk = untouched (λ e granted. other e);
}

pub does_of : {D : Type 0} (v w : LoggedView D) (c : TransactionCall) (r : Reply) → Answers c r v w → IsEntered r → IsOfJournal r → Does c r v w
does_of v w c r a e j = record { machine = stepped v.journal w.journal c r (a.does j) e; does = a.does j; goes_on = a.goes_on j; disk = a.disk }

-- something is short
short_of : {D : Type 0} (v w : LoggedView D) (c : TransactionCall) (r : Reply) → Answers c r v w → IsWant r → (IsShortOf c (error_of r) v) × (state_of w ≡ state_of v)
short_of v w c reply.Memory a h = (tt, ap (λ (j : JournalView). (end_of j.history).state) ((a.does tt).memory refl))
short_of v w c reply.TraceFull a h = ((a.does tt).full.0 refl, ap (λ (j : JournalView). (end_of j.history).state) ((a.does tt).marked refl))
short_of v w c reply.LogFull a h = (a.full refl, ap (λ x. (end_of x.journal.history).state) (a.marked refl))
short_of v w c (reply.Stopped faults) a h = absurd h
short_of v w c reply.DiskFault a h = absurd h
short_of v w c (reply.Again word seat) a h = absurd h
short_of v w c reply.Done a h = absurd h
short_of v w c (reply.Id id) a h = absurd h
short_of v w c (reply.Pay payload) a h = absurd h
short_of v w c reply.NoTxn a h = absurd h
short_of v w c reply.HasTxn a h = absurd h
short_of v w c reply.Aborting a h = absurd h
short_of v w c (reply.EmptyRegister reg) a h = absurd h
short_of v w c reply.NotShared a h = absurd h
short_of v w c (reply.Busy pass) a h = absurd h
short_of v w c reply.Full a h = absurd h

pub is_short : {D : Type 0} (v w : LoggedView D) (c : TransactionCall) (r : Reply) (why : StoreError) → Answers c r v w → IsWant r → why ≡ error_of r → IsShort c why v w
is_short v w c r why a h e = let s = short_of v w c r a h in record { cause = subst (λ y. IsShortOf c y v) (sym e) s.0; same = s.1; disk = a.disk }

still_running : {D : Type 0} (v w : LoggedView D) (c : TransactionCall) (r : Reply) → Answers c r v w → IsWant r → w.failed ≡ None
still_running v w c reply.Memory a h = (a.goes_on tt).running
still_running v w c reply.TraceFull a h = (a.goes_on tt).running
still_running v w c reply.LogFull a h = ap (λ x. x.failed) (a.marked refl) ∙ a.running
still_running v w c (reply.Stopped faults) a h = absurd h
still_running v w c reply.DiskFault a h = absurd h
still_running v w c (reply.Again word seat) a h = absurd h
still_running v w c reply.Done a h = absurd h
still_running v w c (reply.Id id) a h = absurd h
still_running v w c (reply.Pay payload) a h = absurd h
still_running v w c reply.NoTxn a h = absurd h
still_running v w c reply.HasTxn a h = absurd h
still_running v w c reply.Aborting a h = absurd h
still_running v w c (reply.EmptyRegister reg) a h = absurd h
still_running v w c reply.NotShared a h = absurd h
still_running v w c (reply.Busy pass) a h = absurd h
still_running v w c reply.Full a h = absurd h

pub runs_on : {D : Type 0} (v w : LoggedView D) (c : TransactionCall) (r : Reply) → Answers c r v w → w.failed ≡ None
runs_on v w c r a = ⊎_elim
    (λ (h : IsWant r). still_running v w c r a h)
    (λ (h : IsDone r). (a.goes_on h.1).running)
    (want_or_done r a.live)

-- ---- what is heard

pub if_heard : (q : Result Reply StoreError) (r : Reply) → IfOk q (λ t. t ≡ r) → OnOk q (IsEntered r) → OnOk q (IsOfJournal r) → (P : Reply → Type 0) → (IsEntered r → IsOfJournal r → P r) → IfOk q P
if_heard (Ok x) r e i j P f = subst P (sym e) (f i j)
if_heard (Err x) r e i j P f = tt

pub if_want : (q : Result Reply StoreError) (r : Reply) → IfErr q (λ _. IsWant r) → IfErr q (λ why. why ≡ error_of r) → (P : StoreError → Type 0) → ((why : StoreError) → IsWant r → why ≡ error_of r → P why) → IfErr q P
if_want (Ok x) r w e P f = tt
if_want (Err x) r w e P f = f x w e

-- ---- the state is as before

pub live_same : {D : Type 0} (v w : LoggedView D) → IsLive v → w.failed ≡ None → state_of w ≡ state_of v → IsLive w
live_same v w l running same = record { running = running; alone = subst IsAlone (sym same) l.alone }

-- ---- each call

pub record ReadDone {D : Type 0} (h : Held) (slot into : ℕ) (v w : LoggedView D) (r : Reply) : Type 0 where
  pub live : IsLive w
  pub id : ℕ
  pub told : r ≡ reply.Id id
  pub reads_it : Reads h slot into id v w

pub read_done : {D : Type 0} (h : Held) (slot into : ℕ) (v w : LoggedView D) (r : Reply) → IsLive v → IsIn v h → into < 8 → Does (call.Read h.register slot into) r v w → ReadDone h slot into v w r
read_done h slot into v w r l i fits d =
    let R : ReadsTo h.id slot into (state_of v) (state_of w) r = reads (state_of v) (state_of w) h.register slot into h.id r l.alone i.named fits d.machine in
    record {
      live = record { running = d.goes_on.running; alone = R.alone };
      id = slot_in (graph_in (state_of v)) h.id slot;
      told = R.told;
      reads_it = record {
        does = subst (λ x. Does (call.Read h.register slot into) x v w) R.told d;
        value = refl;
        same = record { graph = R.graph; committed = R.committed };
        loads = record { here = R.here; others = R.others };
      };
    }

pub record PayDone {D : Type 0} (h : Held) (v w : LoggedView D) (r : Reply) : Type 0 where
  pub live : IsLive w
  pub payload : ℕ
  pub told : r ≡ reply.Pay payload
  pub looks_at : Looks h payload v w

pub pay_done : {D : Type 0} (h : Held) (v w : LoggedView D) (r : Reply) → IsLive v → IsIn v h → Does (call.GetPay h.register) r v w → PayDone h v w r
pay_done h v w r l i d =
    let R : LooksTo h.id (state_of v) (state_of w) r = looks (state_of v) (state_of w) h.register h.id r l.alone i.named d.machine in
    record {
      live = record { running = d.goes_on.running; alone = R.alone };
      payload = payload_in (graph_in (state_of v)) h.id;
      told = R.told;
      looks_at = record {
        does = subst (λ x. Does (call.GetPay h.register) x v w) R.told d;
        value = refl;
        same = record { graph = R.graph; committed = R.committed };
        registers = R.registers;
      };
    }

pub record WriteDone {D : Type 0} (c : TransactionCall) (written : List Object) (v w : LoggedView D) : Type 0 where
  pub live : IsLive w
  pub writes : Writes c written v w

pub set_done : {D : Type 0} (h : Held) (value : ℕ) (v w : LoggedView D) (r : Reply) → IsLive v → IsIn v h → Does (call.SetPay h.register value) r v w
    → WriteDone (call.SetPay h.register value) (after_set h.id Payload value (graph_in (state_of v))) v w
set_done h value v w r l i d =
    let R : WritesTo h.id Payload value (state_of v) (state_of w) r = sets (state_of v) (state_of w) h.register h.id value r l.alone i.named d.machine in
    record {
      live = record { running = d.goes_on.running; alone = R.alone };
      writes = record {
        does = subst (λ x. Does (call.SetPay h.register value) x v w) R.told d;
        graph = R.graph;
        committed = R.committed;
        registers = R.registers;
      };
    }

named_to : {D : Type 0} (v : LoggedView D) (to : Option Held) → IfSome to (λ h. IsIn v h) → IfSome to (λ h. register_in (state_of v) h.register ≡ Some h.id)
named_to v None h = tt
named_to v (Some f) h = h.named

pub store_done : {D : Type 0} (h : Held) (slot : ℕ) (to : Option Held) (v w : LoggedView D) (r : Reply) → IsLive v → IsIn v h → IfSome to (λ h. IsIn v h) → Does (call.Store h.register slot (register_of to)) r v w
    → WriteDone (call.Store h.register slot (register_of to)) (after_set h.id (Slot slot) (id_of to) (graph_in (state_of v))) v w
store_done h slot to v w r l i k d =
    let R : WritesTo h.id (Slot slot) (id_of to) (state_of v) (state_of w) r = stores (state_of v) (state_of w) h.register slot h.id to r l.alone i.named (named_to v to k) d.machine in
    record {
      live = record { running = d.goes_on.running; alone = R.alone };
      writes = record {
        does = subst (λ x. Does (call.Store h.register slot (register_of to)) x v w) R.told d;
        graph = R.graph;
        committed = R.committed;
        registers = R.registers;
      };
    }

-- an object was made, or every id is stored
pub record MakeDone {D : Type 0} (into : ℕ) (v w : LoggedView D) (r : Reply) : Type 0 where
  pub live : IsLive w
  pub id : ℕ
  pub told : r ≡ reply.Id id
  pub makes_it : Makes into id v w

pub record MakeFull {D : Type 0} (into : ℕ) (v w : LoggedView D) (r : Reply) : Type 0 where
  pub live : IsLive w
  pub told : r ≡ reply.Full
  pub full : IsFull into v w

pub make_done : {D : Type 0} (into : ℕ) (v w : LoggedView D) (r : Reply) → IsLive v → into < 8 → v.journal.history.slots ≡ object_slots → Does (call.Make into) r v w → MakeFull into v w r ⊎ MakeDone into v w r
make_done into v w r l fits slots d = ⊎_elim
    (λ (n : MakesNone (state_of v) (state_of w) r). inl (record {
      live = live_same v w l d.goes_on.running n.same;
      told = n.told;
      full = record {
        does = subst (λ x. Does (call.Make into) x v w) n.told d;
        none = n.none;
        same = n.same;
      };
    }))
    (λ (m : (id : ℕ) × MakesTo into id (state_of v) (state_of w) r). inr (made_one m.0 m.1))
    (made_or_full (state_of v) (state_of w) into r l.alone fits d.machine)
  where
    made_one : (id : ℕ) → MakesTo into id (state_of v) (state_of w) r → MakeDone into v w r
    made_one id R =
        let fourteen : (state_of v).slots ≡ object_slots = end_of-slots v.journal.history ∙ slots in
        record {
          live = record { running = d.goes_on.running; alone = R.alone };
          id = id;
          told = R.told;
          makes_it = record {
            does = subst (λ x. Does (call.Make into) x v w) R.told d;
            fresh = R.fresh;
            named = R.named;
            graph = R.graph ∙ ap (λ n. put_object (graph_in (state_of v)) (blank n id)) fourteen;
            committed = R.committed;
            loads = record { here = R.here; others = R.others };
          };
        }

-- that something is short isn't that every id is stored
pub make_short : {D : Type 0} (into : ℕ) (why : StoreError) (v w : LoggedView D) → IsShort (call.Make into) why v w → IsMakeShort into why v w
make_short into error.Full v w s = absurd s.cause
make_short into error.NotHeld v w s = s
make_short into error.NoSuchSlot v w s = s
make_short into error.TooManyReferences v w s = s
make_short into error.Memory v w s = s
make_short into error.HistoryFull v w s = s
make_short into error.LogFull v w s = s
make_short into error.Disk v w s = s
make_short into error.Stopped v w s = s
make_short into error.Ended v w s = s
