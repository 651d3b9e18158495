-- What one call at the store comes to.
use Rattle.std.proofs.Common.{◌≡◌, ◌≢◌, ℕ, suc, ◌<◌, [], ◌∷◌, Option, Some, None, refl, sym, ap, ◌∙◌, subst, arith, ◌⊎◌, inl, inr, ⊎_elim, true, false}
use Rattle.std.specs.Prelude.{IsSome, IfSome, Ok, Err, Result, OnOk, IfOk, IfErr}
use Rattle.std.specs.Option.{option_map_or}
use Rattle.plain_model.specs.declared.calls.Call.{Call as TransactionCall}
use Rattle.plain_model.specs.declared.calls.Call.TheVariants as call
use Rattle.plain_model.specs.declared.calls.Reply.{Reply}
use Rattle.plain_model.specs.declared.calls.Reply.TheVariants as reply
use Rattle.plain_model.specs.declared.calls.Entry.TheVariants.{Call}
use Rattle.plain_model.specs.declared.write.Place.{Place}
use Rattle.plain_model.specs.declared.write.Place.TheVariants.{Slot, Payload}
use Rattle.plain_model.specs.Machine.{State, step, nonzero}
use Rattle.plain_model.specs.History.{end_of}
use Rattle.plain_model.proofs.HistoryLemmas.{end_of-with_entry}
use Rattle.core_store.specs.Steppings.{IsEntered}
use Rattle.core_store.specs.JournalView.{JournalView}
use Rattle.logged_journal.specs.View.{LoggedView, KeepsLog}
use Rattle.logged_journal.specs.Calls.{IsOfJournal, IsGranted as IsGrantedAt, IsPastLog, DoesCall, KeepsDisk, GoesOn}
use Rattle.object_map.specs.declared.refusal.MapRefusal.{MapRefusal}
use Rattle.object_map.specs.declared.refusal.MapRefusal.TheVariants as refusal
use Rattle.object_map.specs.Maps.{slot_of, payload_of}
use Rattle.object_map.specs.Seen.{seen_of, IsAlone, at, held, held_id, Loads, Writes, Makes}
use Rattle.object_map.specs.Clients.{object_slots, client_at, state_of, seen, IsClient, IsInside, is_look, makes_in, IsGranted, IsCause, IsOfAlone, IsWant, IsAsked, Asks, Falls, no_id, free_ids, refusal_for}
use Rattle.object_map.proofs.AloneLaws.{Reads, reads, Looks, looks, WritesOnce, sets, stores, MakesOne, MakesNone, made_or_full}
use Rattle.object_map.proofs.AskLaws.{asked_look, asked_change, asked_fails, falls_other, falls_full}

-- ---- what the store may answer

pub of_alone : (r : Reply) → ((word seat : ℕ) → r ≢ reply.Again word seat) → ((faults : ℕ) → r ≢ reply.Stopped faults) → r ≢ reply.DiskFault → IsOfAlone r
of_alone (reply.Again word seat) a s d = a word seat refl
of_alone (reply.Stopped faults) a s d = s faults refl
of_alone reply.DiskFault a s d = d refl
of_alone reply.Done a s d = tt
of_alone (reply.Id id) a s d = tt
of_alone (reply.Pay payload) a s d = tt
of_alone reply.TraceFull a s d = tt
of_alone reply.Memory a s d = tt
of_alone reply.NoTxn a s d = tt
of_alone reply.HasTxn a s d = tt
of_alone reply.Aborting a s d = tt
of_alone (reply.EmptyRegister reg) a s d = tt
of_alone reply.NotShared a s d = tt
of_alone (reply.Busy pass) a s d = tt
of_alone reply.Full a s d = tt
of_alone reply.LogFull a s d = tt

pub not_commit : (c : TransactionCall) → IsInside c → c ≢ call.Commit
not_commit c h e = subst IsInside e h

pub not_abort : (c : TransactionCall) → IsInside c → c ≢ call.Abort
not_abort c h e = subst IsInside e h

pub want_cause : (c : TransactionCall) (r : Reply) → IsWant r → IsCause c r
want_cause c reply.Memory h = tt
want_cause c reply.TraceFull h = tt
want_cause c reply.LogFull h = tt
want_cause c reply.Done h = absurd h
want_cause c (reply.Id id) h = absurd h
want_cause c (reply.Pay payload) h = absurd h
want_cause c (reply.Again word seat) h = absurd h
want_cause c (reply.Stopped faults) h = absurd h
want_cause c reply.NoTxn h = absurd h
want_cause c reply.HasTxn h = absurd h
want_cause c reply.Aborting h = absurd h
want_cause c (reply.EmptyRegister reg) h = absurd h
want_cause c reply.NotShared h = absurd h
want_cause c (reply.Busy pass) h = absurd h
want_cause c reply.Full h = absurd h
want_cause c reply.DiskFault h = absurd h

-- ---- what a call leaves of the state

pub stepped : (j k : JournalView) (pass : ℕ) (c : TransactionCall) (r : Reply) → DoesCall object_slots j k pass c r → IsEntered r → step (end_of j.history).state pass c ≡ (r, (end_of k.history).state)
stepped j k pass c r d e =
    let machine : r ≡ (step (end_of j.history).state pass c).0 = d.machine e in
    let state : (end_of k.history).state ≡ (step (end_of j.history).state pass c).1 = ap (λ h. (end_of h).state) (d.entry e) ∙ ap (λ m. m.state) (end_of-with_entry j.history (Call pass c r)) in
    ap (λ x. (x, (step (end_of j.history).state pass c).1)) (sym machine) ∙ ap (λ (x : State). (r, x)) (sym state)

pub want_same : {D : Type 0} (v w : LoggedView D) (pass : ℕ) (c : TransactionCall) (r : Reply) → IsWant r → (IsOfJournal r → DoesCall object_slots v.journal w.journal pass c r) → (r ≡ reply.LogFull → w ≡ record v { log_full = true })
    → (end_of w.journal.history).state ≡ (end_of v.journal.history).state
want_same v w pass c reply.Memory want d l = ap (λ (j : JournalView). (end_of j.history).state) ((d tt).memory refl)
want_same v w pass c reply.TraceFull want d l = ap (λ (j : JournalView). (end_of j.history).state) ((d tt).marked refl)
want_same v w pass c reply.LogFull want d l = ap (λ x. (end_of x.journal.history).state) (l refl)
want_same v w pass c reply.Done want d l = absurd want
want_same v w pass c (reply.Id id) want d l = absurd want
want_same v w pass c (reply.Pay payload) want d l = absurd want
want_same v w pass c (reply.Again word seat) want d l = absurd want
want_same v w pass c (reply.Stopped faults) want d l = absurd want
want_same v w pass c reply.NoTxn want d l = absurd want
want_same v w pass c reply.HasTxn want d l = absurd want
want_same v w pass c reply.Aborting want d l = absurd want
want_same v w pass c (reply.EmptyRegister reg) want d l = absurd want
want_same v w pass c reply.NotShared want d l = absurd want
want_same v w pass c (reply.Busy pass2) want d l = absurd want
want_same v w pass c reply.Full want d l = absurd want
want_same v w pass c reply.DiskFault want d l = absurd want

-- a reply of a store with one hold is one of the journal, or tells that the log is full
log_or_journal : (r : Reply) → IsOfAlone r → IsOfJournal r ⊎ (r ≡ reply.LogFull)
log_or_journal reply.Done h = inl tt
log_or_journal (reply.Id id) h = inl tt
log_or_journal (reply.Pay payload) h = inl tt
log_or_journal (reply.Again word seat) h = absurd h
log_or_journal (reply.Stopped faults) h = absurd h
log_or_journal reply.TraceFull h = inl tt
log_or_journal reply.Memory h = inl tt
log_or_journal reply.NoTxn h = inl tt
log_or_journal reply.HasTxn h = inl tt
log_or_journal reply.Aborting h = inl tt
log_or_journal (reply.EmptyRegister reg) h = inl tt
log_or_journal reply.NotShared h = inl tt
log_or_journal (reply.Busy pass) h = inl tt
log_or_journal reply.Full h = inl tt
log_or_journal reply.LogFull h = inr refl
log_or_journal reply.DiskFault h = absurd h

pub still_running : {D : Type 0} (v w : LoggedView D) (r : Reply) → IsOfAlone r → v.failed ≡ None → (IsOfJournal r → GoesOn v w) → (r ≡ reply.LogFull → w ≡ record v { log_full = true }) → w.failed ≡ None
still_running v w r h running g l = ⊎_elim (λ j. (g j).running) (λ e. ap (λ x. x.failed) (l e) ∙ running) (log_or_journal r h)

-- ---- the client after a call

pub client_after : {D : Type 0} (v w : LoggedView D) (pass : ℕ) → IsClient v pass → w.failed ≡ None → IsAlone (state_of (client_at w pass)) pass → IsClient w pass
client_after v w pass i running alone = record { some = i.some; few = i.few; running = running; alone = alone }

pub client_same : {D : Type 0} (v w : LoggedView D) (pass : ℕ) → IsClient v pass → w.failed ≡ None → state_of (client_at w pass) ≡ state_of (client_at v pass) → IsClient w pass
client_same v w pass i running same = client_after v w pass i running (subst (λ s. IsAlone s pass) (sym same) i.alone)

-- ---- each call

abbrev asked_step : {D : Type 0} → LoggedView D → LoggedView D → ℕ → TransactionCall → Reply → Type 0
asked_step v w pass c r = step (state_of (client_at v pass)) pass c ≡ (r, state_of (client_at w pass))

pub record ReadDone {D : Type 0} (r slot into : ℕ) (v w : LoggedView D) (pass : ℕ) (answer : Reply) : Type 0 where
  pub told : answer ≡ reply.Id (slot_of (at (seen (client_at v pass)) (held_id (seen (client_at v pass)) r)) slot)
  pub loads : Loads into (nonzero (slot_of (at (seen (client_at v pass)) (held_id (seen (client_at v pass)) r)) slot)) (seen (client_at v pass)) (seen (client_at w pass))
  pub client : IsClient w pass
  pub asks : Asks 1 [] (client_at v pass) (client_at w pass)

pub read_done : {D : Type 0} (r slot into : ℕ) (v w : LoggedView D) (pass : ℕ) (answer : Reply) → IsClient v pass → IsSome (held (seen (client_at v pass)) r) → into < 8 → 0 < into → asked_step v w pass (call.Read r slot into) answer → IsAsked (client_at v pass) (call.Read r slot into) answer (client_at w pass) → w.failed ≡ None
    → ReadDone r slot into v w pass answer
read_done r slot into v w pass answer i full fits some e a running =
    let R : Reads r slot into (state_of (client_at v pass)) (state_of (client_at w pass)) pass answer = reads (state_of (client_at v pass)) (state_of (client_at w pass)) pass r slot into answer i.alone full fits e in
    record {
      told = R.told;
      loads = R.loads;
      client = client_after v w pass i running R.alone;
      asks = asked_look (call.Read r slot into) answer refl a (subst IsGranted (sym R.told) tt) (R.loads.others 0 (λ z. absurd (omega (arith, z, some)))) R.free;
    }

pub record PayDone {D : Type 0} (r : ℕ) (v w : LoggedView D) (pass : ℕ) (answer : Reply) : Type 0 where
  pub told : answer ≡ reply.Pay (payload_of (at (seen (client_at v pass)) (held_id (seen (client_at v pass)) r)))
  pub same : seen (client_at w pass) ≡ seen (client_at v pass)
  pub client : IsClient w pass
  pub asks : Asks 1 [] (client_at v pass) (client_at w pass)

pub pay_done : {D : Type 0} (r : ℕ) (v w : LoggedView D) (pass : ℕ) (answer : Reply) → IsClient v pass → IsSome (held (seen (client_at v pass)) r) → asked_step v w pass (call.GetPay r) answer → IsAsked (client_at v pass) (call.GetPay r) answer (client_at w pass) → w.failed ≡ None → PayDone r v w pass answer
pay_done r v w pass answer i full e a running =
    let R : Looks r (state_of (client_at v pass)) (state_of (client_at w pass)) pass answer = looks (state_of (client_at v pass)) (state_of (client_at w pass)) pass r answer i.alone full e in
    record {
      told = R.told;
      same = R.same;
      client = client_after v w pass i running R.alone;
      asks = asked_look (call.GetPay r) answer refl a (subst IsGranted (sym R.told) tt) (ap (λ x. held x 0) R.same) R.free;
    }

pub record WriteDone {D : Type 0} (c : TransactionCall) (id : ℕ) (place : Place) (value : ℕ) (v w : LoggedView D) (pass : ℕ) (answer : Reply) : Type 0 where
  pub told : answer ≡ reply.Done
  pub writes : Writes id place value (seen (client_at v pass)) (seen (client_at w pass))
  pub client : IsClient w pass
  pub asks : Asks 0 (c ∷ []) (client_at v pass) (client_at w pass)

write_done : {D : Type 0} (c : TransactionCall) (id : ℕ) (place : Place) (value : ℕ) (v w : LoggedView D) (pass : ℕ) (answer : Reply) → is_look c ≡ false → makes_in (c ∷ []) ≡ 0 → IsClient v pass → IsAsked (client_at v pass) c answer (client_at w pass) → w.failed ≡ None
    → WritesOnce id place value (state_of (client_at v pass)) (state_of (client_at w pass)) pass answer → WriteDone c id place value v w pass answer
write_done c id place value v w pass answer n none i a running R = record {
  told = R.told;
  writes = R.writes;
  client = client_after v w pass i running R.alone;
  asks = asked_change c answer n a (subst IsGranted (sym R.told) tt) (ap (λ q. held (record (seen (client_at w pass)) { registers = q }) 0) R.writes.registers)
      (let f : free_ids (state_of (client_at w pass)) ≡ free_ids (state_of (client_at v pass)) = R.free in omega (arith, f, none));
}

pub set_done : {D : Type 0} (r value : ℕ) (v w : LoggedView D) (pass : ℕ) (answer : Reply) → IsClient v pass → IsSome (held (seen (client_at v pass)) r) → asked_step v w pass (call.SetPay r value) answer → IsAsked (client_at v pass) (call.SetPay r value) answer (client_at w pass) → w.failed ≡ None
    → WriteDone (call.SetPay r value) (held_id (seen (client_at v pass)) r) Payload value v w pass answer
set_done r value v w pass answer i full e a running =
    write_done (call.SetPay r value) (held_id (seen (client_at v pass)) r) Payload value v w pass answer refl refl i a running
    (sets (state_of (client_at v pass)) (state_of (client_at w pass)) pass r value answer i.alone full e)

pub store_done : {D : Type 0} (r slot : ℕ) (source : Option ℕ) (v w : LoggedView D) (pass : ℕ) (answer : Reply) → IsClient v pass → IsSome (held (seen (client_at v pass)) r) → IfSome source (λ f. IsSome (held (seen (client_at v pass)) f)) → asked_step v w pass (call.Store r slot source) answer
    → IsAsked (client_at v pass) (call.Store r slot source) answer (client_at w pass) → w.failed ≡ None
    → WriteDone (call.Store r slot source) (held_id (seen (client_at v pass)) r) (Slot slot) (option_map_or (held_id (seen (client_at v pass))) source 0) v w pass answer
store_done r slot source v w pass answer i full from_full e a running =
    write_done (call.Store r slot source) (held_id (seen (client_at v pass)) r) (Slot slot) (option_map_or (held_id (seen (client_at v pass))) source 0) v w pass answer refl refl i a running
    (stores (state_of (client_at v pass)) (state_of (client_at w pass)) pass r slot source answer i.alone full from_full e)

-- an object was made, or every id is stored
pub record MakeDone {D : Type 0} (into : ℕ) (v w : LoggedView D) (pass : ℕ) (answer : Reply) : Type 0 where
  pub id : ℕ
  pub told : answer ≡ reply.Id id
  pub makes_it : Makes into id (seen (client_at v pass)) (seen (client_at w pass))
  pub client : IsClient w pass
  pub asks : Asks 0 (call.Make into ∷ []) (client_at v pass) (client_at w pass)

pub record MakeFull {D : Type 0} (v w : LoggedView D) (pass : ℕ) (answer : Reply) : Type 0 where
  pub told : answer ≡ reply.Full
  pub client : IsClient w pass
  pub falls : Falls 1 (refusal_for answer) (client_at v pass) (client_at w pass)

pub make_done : {D : Type 0} (into : ℕ) (v w : LoggedView D) (pass : ℕ) (answer : Reply) → IsClient v pass → into < 8 → 0 < into → asked_step v w pass (call.Make into) answer → IsAsked (client_at v pass) (call.Make into) answer (client_at w pass) → w.failed ≡ None → MakeFull v w pass answer ⊎ MakeDone into v w pass answer
make_done into v w pass answer i fits some e a running = ⊎_elim
    (λ (n : MakesNone (state_of (client_at v pass)) (state_of (client_at w pass)) answer). inl (record {
      told = n.told;
      client = client_same v w pass i running n.same;
      falls = falls_full (asked_fails (refusal_for answer) (call.Make into) answer a (subst (λ q. IsCause (call.Make into) q) (sym n.told) tt) refl (ap (λ s. held (seen_of s pass) 0) n.same)) n.none;
    }))
    (λ (m : MakesOne into (state_of (client_at v pass)) (state_of (client_at w pass)) pass answer). inr (record {
      id = m.id;
      told = m.told;
      makes_it = m.makes_it;
      client = client_after v w pass i running m.alone;
      asks = asked_change (call.Make into) answer refl a (subst IsGranted (sym m.told) tt) (m.makes_it.others 0 (λ z. absurd (omega (arith, z, some))))
          (let f : suc (free_ids (state_of (client_at w pass))) ≡ free_ids (state_of (client_at v pass)) = m.free in omega (arith, f));
    }))
    (made_or_full (state_of (client_at v pass)) (state_of (client_at w pass)) pass into answer i.alone fits e)

pub full_refusal : (r : Reply) → r ≡ reply.Full → refusal_for r ≡ refusal.Store r
full_refusal r e = subst (λ q. refusal_for q ≡ refusal.Store q) (sym e) refl

-- ---- what is heard

pub if_heard : (q : Result Reply MapRefusal) (r : Reply) → IfOk q (λ t. t ≡ r) → OnOk q (IsEntered r) → OnOk q (IsOfJournal r) → (P : Reply → Type 0) → (IsEntered r → IsOfJournal r → P r) → IfOk q P
if_heard (Ok x) r e i j P f = subst P (sym e) (f i j)
if_heard (Err x) r e i j P f = tt

pub if_want : (q : Result Reply MapRefusal) (r : Reply) → IfErr q (λ _. IsWant r) → IfErr q (λ why. why ≡ refusal_for r) → (P : MapRefusal → Type 0) → ((why : MapRefusal) → IsWant r → why ≡ refusal_for r → P why) → IfErr q P
if_want (Ok x) r w e P f = tt
if_want (Err x) r w e P f = f x w e

pub asked_by : {D : Type 0} (v w : LoggedView D) (pass : ℕ) (c : TransactionCall) (r : Reply) → IsInside c → (IsOfJournal r → DoesCall object_slots v.journal w.journal pass c r) → (IsOfJournal r → GoesOn v w) → (r ≡ reply.LogFull → IsPastLog v pass c)
    → (r ≡ reply.LogFull → w ≡ record v { log_full = true }) → ((r ≡ reply.TraceFull) ⊎ (r ≡ reply.Memory) → KeepsLog v w) → ((c ≡ call.Commit → IsGrantedAt v.journal pass call.Commit → ⊥) → KeepsDisk v w) → IsAsked (client_at v pass) c r (client_at w pass)
asked_by v w pass c r inside does goes full marked kept untouched = record {
  number = refl;
  inside = inside;
  does = does;
  goes_on = goes;
  log_full = full;
  log_marked = marked;
  kept = kept;
  disk = untouched (λ e g. not_commit c inside e);
}

-- want of memory or of room isn't want of an id
want_not_full : (r : Reply) → IsWant r → refusal_for r ≡ no_id → ⊥
want_not_full reply.Memory h e = absurd (cc)
want_not_full reply.TraceFull h e = absurd (cc)
want_not_full reply.LogFull h e = absurd (cc)
want_not_full reply.Done h e = absurd h
want_not_full (reply.Id id) h e = absurd h
want_not_full (reply.Pay payload) h e = absurd h
want_not_full (reply.Again word seat) h e = absurd h
want_not_full (reply.Stopped faults) h e = absurd h
want_not_full reply.NoTxn h e = absurd h
want_not_full reply.HasTxn h e = absurd h
want_not_full reply.Aborting h e = absurd h
want_not_full (reply.EmptyRegister reg) h e = absurd h
want_not_full reply.NotShared h e = absurd h
want_not_full (reply.Busy pass) h e = absurd h
want_not_full reply.Full h e = absurd h
want_not_full reply.DiskFault h e = absurd h

pub want_falls : {D : Type 0} (v w : LoggedView D) (pass : ℕ) (c : TransactionCall) (r : Reply) (why : MapRefusal) → IsWant r → why ≡ refusal_for r → IsAsked (client_at v pass) c r (client_at w pass) → state_of (client_at w pass) ≡ state_of (client_at v pass) → Falls 0 why (client_at v pass) (client_at w pass)
want_falls v w pass c r why want told a same = falls_other (asked_fails why c r a (want_cause c r want) told (ap (λ s. held (seen_of s pass) 0) same)) (λ e. want_not_full r want (sym told ∙ e))

pub none_failed : {X : Type 0} (o : Option X) → o ≡ None → IsSome o → ⊥
none_failed None e h = absurd (cc)
none_failed (Some x) e h = absurd (cc)
