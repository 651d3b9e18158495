-- What happens to a journal at a call, at a step of an abort and at an event of the collector.
use Rattle.std.proofs.Common.{◌≡◌, ◌≢◌, ℕ, ◌+◌, ◌<◌, ◌≤◌, List, [], ◌∷◌, true, false, length, take, refl, sym, ap, ◌∙◌, subst, Option, Some, None, ◌⊎◌, inl, inr, arith, ⊎_elim}
use Rattle.std.specs.Prelude.{Contains, option_map, unwrap_or, is_some, IsSome, IfSome}
use Rattle.std.specs.List.{last_or}
use Rattle.plain_model.specs.declared.write.Write.{Write}
use Rattle.plain_model.specs.ActiveTransaction.{ActiveTransaction}
use Rattle.log_record.specs.Spelling.{IsPass}
use Rattle.core_store.specs.Logged.{logged_by_undo}
use Rattle.core_store.specs.Replaced.{replaced, next_to_restore}
use Rattle.core_store.specs.Transactions.{Running, running_at}
use Rattle.core_store.proofs.ClientNumbers.{numbered-collector}
use Rattle.core_store.proofs.SpelledLaws.{IsOfClient, call-client, undo-client, collect-client}
use Rattle.core_store.proofs.UndoneLaws.{next-kept}
use Rattle.core_store.specs.RedCursor.{red_of}
use Rattle.core_store.proofs.RedStrengths.{IsByClient, call-by, undo-by}
use Rattle.core_store.proofs.RedEvents.{red-client, red-collected, copied-over}
use Rattle.std.specs.Option.{option_map_or}
use Rattle.std.proofs.lemmas.Bool.Decides.{nat_tests}
use Rattle.plain_model.specs.declared.calls.Call.{Call as TransactionCall}
use Rattle.plain_model.specs.declared.calls.Call.TheVariants.{Abort}
use Rattle.plain_model.specs.declared.calls.Reply.{Reply}
use Rattle.plain_model.specs.declared.calls.Reply.TheVariants.{Done}
use Rattle.plain_model.specs.declared.calls.Entry.{Entry}
use Rattle.plain_model.specs.declared.calls.Entry.TheVariants.{Call, Delete, Hidden, Undo, TurnBusy, Crash}
use Rattle.plain_model.specs.Machine.{State, step, transaction_of}
use Rattle.plain_model.specs.History.{Moment, IsAllowed, next, end_of, is_stopped, left_to_undo}
use Rattle.plain_model.specs.Outcomes.{IsReachableInSomeOutcome}
use Rattle.plain_model.proofs.StepLaws.{is_stopped-call, step-plain, is_plain, end_of-slots}
use Rattle.plain_model.proofs.StepLemmas.{step-out}
use Rattle.store_model.specs.Core.{Core, Round}
use Rattle.store_model.specs.Sound.{IsSound, condemned_of}
use Rattle.store_model.proofs.Lists.{Contains-here, Contains-later}
use Rattle.store_model.proofs.DeletionLaws.{deletion}
use Rattle.store_model.proofs.AllowedLaws.{no_reason-allowed}
use Rattle.restart_laws.specs.Told.{told, HavePlaces}
use Rattle.restart_laws.specs.Logged.{Logs}
use Rattle.log_record.specs.Records.{record_of, payload_place}
use Rattle.log_record.specs.declared.cell_record.CellRecord.{CellRecord}
use Rattle.log_record.specs.declared.cell_record.CellRecord.TheVariants as logs
use Rattle.core_store.specs.declared.act.Act.{Act}
use Rattle.core_store.specs.declared.act.Act.TheVariants as act
use Rattle.core_store.specs.declared.note.Note.{Note}
use Rattle.core_store.specs.declared.three.HeldFrame.{HeldFrame}
use Rattle.core_store.specs.Collecting.{Collected}
use Rattle.core_store.specs.Collects.{Collects, Frees, entry_of}
use Rattle.core_store.specs.Events.{after_event}
use Rattle.core_store.specs.Touched.{round_after}
use Rattle.core_store.specs.Upkeep.{IsUpkeep}
use Rattle.core_store.specs.JournalView.{JournalView, core_of}
use Rattle.core_store.specs.Journal.{Keeps}
use Rattle.core_store.specs.Limited.{is_past_limit, entries_counted}
use Rattle.core_store.specs.Stands.{Matches, CanLay, Answers, Undoes, Ended}
use Rattle.core_store.specs.Tables.{TablesView}
use Rattle.core_store.proofs.LedLaws.{turns-collector}
use Rattle.core_store.proofs.LogsLaws.{call-logs, undo-logs, end-logs, collect-logs}
use Rattle.core_store.proofs.JournalLaws.{Happens}

-- ---- the limit

-- a history that so many entries more keep within its limit
pub counted-within : (j : JournalView) (v w : TablesView) (needed : ℕ) → Keeps j v → is_past_limit j needed ≡ false → w.owed + 1 ≤ v.owed + needed → length j.history.entries + 1 + w.owed ≤ j.limits.trace
counted-within j v w needed k within more =
    let owed = k.stands.owed in
    let few : entries_counted j + needed ≤ j.limits.trace = grind (arith, nat_tests, within) in
    omega (arith, owed, few, more)

-- an entry that was owed
pub counted-owed : (j : JournalView) (v w : TablesView) → Keeps j v → w.owed + 1 ≡ v.owed → length j.history.entries + 1 + w.owed ≤ j.limits.trace
counted-owed j v w k less =
    let owed = k.stands.owed in
    let few = k.counted in
    omega (arith, owed, few, less)

-- ---- a call

done_abort : (s : State) (pass : ℕ) (reply : Reply) → reply ≡ (step s pass Abort).0 → transaction_of s pass ≡ None → reply ≡ Done → ⊥
done_abort s pass reply e none d =
    let k = ap (λ (x : Reply × State). x.0) (step-out s pass Abort none refl) in
    cc

-- the note of an event of a client
abbrev pub client_note : Entry → Option CellRecord → ℕ → Note
client_note entry logged left = record { entry = entry; logged = logged; left = left; act = act.Other }

pub happens-call : (j : JournalView) (v w : TablesView) (held new : List (HeldFrame j.history.slots)) (pass : ℕ) (call : TransactionCall) (reply : Reply) (logged : Option CellRecord) (left : ℕ) → Keeps j v → Answers j.history.slots v w (core_of j) held new pass call reply logged
    → IsPass pass → (call ≡ Abort → transaction_of (end_of j.history).state pass ≡ None) → length j.history.entries + 1 + w.owed ≤ j.limits.trace → Happens j w (client_note (Call pass call reply) logged left) (after_event j.history.slots (core_of j) (Call pass call reply) logged)
happens-call j v w held new pass call reply logged left k a numbered out counted =
    let m = end_of j.history in
    let plain : is_plain reply ≡ true = ap is_plain a.machine ∙ step-plain m.state pass call in
    record {
      allowed = (k.running, record { machine = inl a.machine; undone = λ c d. absurd (done_abort m.state pass reply (a.machine ∙ ap (λ (x : TransactionCall). (step m.state pass x).0) c) (out c) d) });
      going = is_stopped-call m pass call reply k.running plain;
      fits = a.moves.fits;
      lays = a.moves.lays;
      after = refl;
      turns = ((λ e. absurd (e.1 (out e.0)), λ e. a.record_is), refl, refl);
      logs = subst (λ l. Logs (core_of j) (Call pass call reply) (option_map record_of l)) (sym a.record_is) (call-logs (core_of j) pass call reply out);
      stands = a.stands;
      counted = counted;
      numbered = numbered;
      of_client = subst (λ l. IfSome l IsOfClient) (sym a.record_is) (call-client m.state (core_of j).cells pass call numbered);
      red = red-client j.history.slots v w (core_of j) (red_of j) logged k.stands a.moves.fits (subst (λ l. IfSome l IsByClient) (sym a.record_is) (call-by m.state (core_of j).cells pass call)) a.round k.red;
      copied = λ e. absurd (cc);
    }

-- ---- the steps of an abort

-- slots are below the number that stands for the payload
slots-below : (j : JournalView) (v : TablesView) → Keeps j v → (end_of j.history).state.slots < payload_place
slots-below j v k =
    let same = k.stands.slots_are in
    ⊎_elim (λ (six : j.history.slots ≡ 6). omega (arith, same, six)) (λ (more : j.history.slots ≡ 14). omega (arith, same, more)) k.stands.counted

-- the client of an undo is active, and what is laid again is a write of a slot or of the payload
last-in : (w : Write) (o : Option Write) (xs : List Write) → last_or o xs ≡ Some w → (o ≡ Some w) ⊎ Contains xs w
last-in w o [] e = inl e
last-in w o (x ∷ xs) e = ⊎_elim (λ (h : Some x ≡ Some w). inr (subst (λ (y : Write). Contains (y ∷ xs) w) (sym (ap (λ (p : Option Write). unwrap_or p x) h)) (Contains-here w xs))) (λ (m : Contains xs w). inr (Contains-later x xs w m)) (last-in w (Some x) xs e)

laid-again : (j : JournalView) (v : TablesView) (pass : ℕ) (w : Write) → Keeps j v → next_to_restore (end_of j.history) pass ≡ Some w → IsSome (transaction_of (end_of j.history).state pass) × CanLay j.history.slots (core_of j).cells w
laid-again j v pass w k e = by (transaction_of (end_of j.history).state pass) refl (running_at v.transactions pass) refl (k.stands.running pass)
  where
    by : (t : Option ActiveTransaction) → transaction_of (end_of j.history).state pass ≡ t → (o : Option Running) → running_at v.transactions pass ≡ o → Matches j.history.slots (end_of j.history).state.committed o t ((end_of j.history).undone pass) → IsSome (transaction_of (end_of j.history).state pass) × CanLay j.history.slots (core_of j).cells w
    by None f o r h = absurd (let none : None ≡ Some w = sym (ap (λ (o : Option ActiveTransaction). last_or None (option_map_or (λ (t : ActiveTransaction). take (left_to_undo (end_of j.history) pass) (replaced (end_of j.history).state.slots (end_of j.history).state.committed t.writes)) o [])) f) ∙ e in cc)
    by (Some t) f None r h = absurd h
    by (Some t) f (Some kept) r h =
        let is : last_or None kept.replaced ≡ Some w = sym (next-kept j.history.slots (end_of j.history) pass kept t k.stands.slots_are f h) ∙ e in
        (ap is_some f, ⊎_elim (λ (no : None ≡ Some w). absurd (cc)) (λ (c : Contains kept.replaced w). k.stands.restorable pass kept r w c) (last-in w None kept.replaced is))

undo-records : (j : JournalView) (v : TablesView) (pass : ℕ) (logged : CellRecord) → Keeps j v → Some logged ≡ option_map (logged_by_undo (core_of j).cells pass) (next_to_restore (end_of j.history) pass) → IsPass pass × IsOfClient logged
undo-records j v pass logged k e = by (next_to_restore (end_of j.history) pass) refl e
  where
    by : (o : Option Write) → next_to_restore (end_of j.history) pass ≡ o → Some logged ≡ option_map (logged_by_undo (core_of j).cells pass) o → IsPass pass × IsOfClient logged
    by None n f = absurd (cc)
    by (Some w) n f =
        let again = laid-again j v pass w k n in
        let numbered = k.numbered pass again.0 in
        let below = slots-below j v k in
        let same = k.stands.slots_are in
        let few : j.history.slots < payload_place = omega (arith, below, same) in
        (numbered, subst IsOfClient (sym (ap (λ (p : Option CellRecord). unwrap_or p logged) f)) (undo-client j.history.slots (core_of j).cells pass w.id w.place w.value few numbered again.1))

pub happens-undo : (j : JournalView) (v w : TablesView) (held new : List (HeldFrame j.history.slots)) (pass : ℕ) (logged : CellRecord) (left : ℕ) → Keeps j v → Undoes j.history.slots v w (core_of j) held new pass logged
    → length j.history.entries + 1 + w.owed ≤ j.limits.trace → Happens j w (client_note (Undo pass) (Some logged) left) (after_event j.history.slots (core_of j) (Undo pass) (Some logged))
happens-undo j v w held new pass logged left k a counted =
    let some = a.some_left in
    let places = subst (λ x. HavePlaces x (told (end_of j.history))) (sym (end_of-slots j.history)) k.safe.places in
    record {
      allowed = (k.running, omega (arith, some));
      going = k.running;
      fits = a.moves.fits;
      lays = a.moves.lays;
      after = refl;
      turns = (a.record_is, refl, refl);
      logs = subst (λ l. Logs (core_of j) (Undo pass) (option_map record_of l)) (sym a.record_is) (undo-logs (core_of j) k.stands.sound places (slots-below j v k) pass some);
      stands = a.stands;
      counted = counted;
      numbered = (undo-records j v pass logged k a.record_is).0;
      of_client = (undo-records j v pass logged k a.record_is).1;
      red = red-client j.history.slots v w (core_of j) (red_of j) (Some logged) k.stands a.moves.fits (undo-by (core_of j).cells pass logged (next_to_restore (end_of j.history) pass) a.record_is) a.round k.red;
      copied = λ e. absurd (cc);
    }

some-there : (o : Option ActiveTransaction) → o ≢ None → IsSome o
some-there None n = absurd (n refl)
some-there (Some t) n = refl

pub happens-ended : (j : JournalView) (v w : TablesView) (pass left : ℕ) → Keeps j v → Ended j.history.slots v w (core_of j) pass → length j.history.entries + 1 + w.owed ≤ j.limits.trace
    → Happens j w (client_note (Call pass Abort Done) (Some (logs.AbortEnd pass)) left) (after_event j.history.slots (core_of j) (Call pass Abort Done) (Some (logs.AbortEnd pass)))
happens-ended j v w pass left k a counted =
    let m = end_of j.history in
    let active : transaction_of m.state pass ≢ None = λ none. done_abort m.state pass Done a.machine none refl in
    record {
      allowed = (k.running, record { machine = inl a.machine; undone = λ c d. a.all_undone });
      going = is_stopped-call m pass Abort Done k.running refl;
      fits = tt;
      lays = tt;
      after = refl;
      turns = ((λ e. refl, λ n. absurd (n (refl, active))), refl, refl);
      logs = end-logs (core_of j) pass active;
      stands = a.stands;
      counted = counted;
      numbered = k.numbered pass (some-there (transaction_of m.state pass) active);
      of_client = k.numbered pass (some-there (transaction_of m.state pass) active);
      red = red-client j.history.slots v w (core_of j) (red_of j) (Some (logs.AbortEnd pass)) k.stands tt tt a.round k.red;
      copied = λ e. absurd (cc);
    }

-- ---- upkeep

unchanged : (round : Option Round) → round ≡ round_after round []
unchanged None = refl
unchanged (Some r) = refl

pub happens-upkeep : (j : JournalView) (v : TablesView) (entry : Entry) (left : ℕ) → Keeps j v → IsUpkeep (end_of j.history) entry → length j.history.entries + 1 + v.owed ≤ j.limits.trace → Happens j v (client_note entry None left) (core_of j)
happens-upkeep j v Hidden left k u counted = record {
  allowed = k.running;
  going = k.running;
  fits = tt;
  lays = tt;
  after = refl;
  turns = (refl, refl, unchanged (core_of j).round);
  logs = tt;
  stands = k.stands;
  counted = counted;
  numbered = tt;
  of_client = tt;
  red = k.red;
  copied = λ e. absurd (cc);
}
happens-upkeep j v (TurnBusy pass) left k u counted = record {
  allowed = (k.running, u);
  going = k.running;
  fits = tt;
  lays = tt;
  after = refl;
  turns = (refl, refl, unchanged (core_of j).round);
  logs = refl;
  stands = k.stands;
  counted = counted;
  numbered = tt;
  of_client = tt;
  red = k.red;
  copied = λ e. absurd (cc);
}
happens-upkeep j v (Call pass call reply) left k u counted = absurd u
happens-upkeep j v (Delete id) left k u counted = absurd u
happens-upkeep j v (Undo pass) left k u counted = absurd u
happens-upkeep j v (Crash cells) left k u counted = absurd u

-- ---- an event of the collector

condemned-first : (c : Core) (id : ℕ) (queue : List ℕ) (round : Option Round) → Frees c id queue round → Contains (condemned_of c) id
condemned-first c id queue round f = subst (λ (o : Option Round). Contains (option_map_or (λ r. r.condemned) o []) id) (sym f.there) (subst (λ xs. Contains xs id) (sym f.first) (Contains-here id f.left))

freed-condemned : (slots : ℕ) (c : Core) (a : Act) (id : ℕ) (queue : List ℕ) (round : Option Round) → Collects slots c a (Some (logs.Free id)) queue round → Contains (condemned_of c) id
freed-condemned slots c act.Change id queue round h = condemned-first c id queue round h
freed-condemned slots c (act.Skip x) id queue round h = absurd h
freed-condemned slots c (act.Start x) id queue round h = absurd h
freed-condemned slots c (act.Scan x) id queue round h = absurd h
freed-condemned slots c act.Judge id queue round h = absurd h
freed-condemned slots c act.End id queue round h = absurd h
freed-condemned slots c act.Other id queue round h = absurd h

-- no object is freed that is reachable in some outcome
pub freed-safe : (slots : ℕ) (c : Core) (a : Act) (id : ℕ) (queue : List ℕ) (round : Option Round) → IsSound c → Collects slots c a (Some (logs.Free id)) queue round → IsReachableInSomeOutcome c.moment.state id → ⊥
freed-safe slots c a id queue round s h r = deletion c s (Contains (condemned_of c)) s.condemned id (freed-condemned slots c a id queue round h) r

allowed-collector : (slots : ℕ) (c : Core) (a : Act) (logged : Option CellRecord) (queue : List ℕ) (round : Option Round) → IsSound c → is_stopped c.moment ≡ false → Collects slots c a logged queue round → IsAllowed c.moment (entry_of logged)
allowed-collector slots c a None queue round s runs h = runs
allowed-collector slots c a (Some (logs.Free id)) queue round s runs h = no_reason-allowed c s runs (Contains (condemned_of c)) s.condemned id (freed-condemned slots c a id queue round h)
allowed-collector slots c a (Some (logs.Begin pass)) queue round s runs h = runs
allowed-collector slots c a (Some (logs.Make pass id)) queue round s runs h = runs
allowed-collector slots c a (Some (logs.Store pass id slot o os n nb ns)) queue round s runs h = runs
allowed-collector slots c a (Some (logs.Pay pass id o n)) queue round s runs h = runs
allowed-collector slots c a (Some (logs.Commit pass)) queue round s runs h = runs
allowed-collector slots c a (Some (logs.Undo pass place fs tb id f to)) queue round s runs h = runs
allowed-collector slots c a (Some (logs.AbortEnd pass)) queue round s runs h = runs
allowed-collector slots c a (Some (logs.Weaken id slot target)) queue round s runs h = runs
allowed-collector slots c a (Some (logs.Strengthen id slot target)) queue round s runs h = runs
allowed-collector slots c a (Some (logs.Flip id)) queue round s runs h = runs
allowed-collector slots c a (Some (logs.CutDead id slot target strong)) queue round s runs h = runs

going-collector : (m : Moment) (logged : Option CellRecord) → is_stopped (next m (entry_of logged)) ≡ is_stopped m
going-collector m None = refl
going-collector m (Some (logs.Free id)) = refl
going-collector m (Some (logs.Begin pass)) = refl
going-collector m (Some (logs.Make pass id)) = refl
going-collector m (Some (logs.Store pass id slot o os n nb ns)) = refl
going-collector m (Some (logs.Pay pass id o n)) = refl
going-collector m (Some (logs.Commit pass)) = refl
going-collector m (Some (logs.Undo pass place fs tb id f to)) = refl
going-collector m (Some (logs.AbortEnd pass)) = refl
going-collector m (Some (logs.Weaken id slot target)) = refl
going-collector m (Some (logs.Strengthen id slot target)) = refl
going-collector m (Some (logs.Flip id)) = refl
going-collector m (Some (logs.CutDead id slot target strong)) = refl

pub happens-collector : (j : JournalView) (v w : TablesView) (held new : List (HeldFrame j.history.slots)) (a : Act) (logged : Option CellRecord) (left : ℕ) → Keeps j v → (t : Collected j.history.slots v w (core_of j) held new a logged)
    → length j.history.entries + 1 + w.owed ≤ j.limits.trace → Happens j w (record { entry = entry_of logged; logged = logged; left = left; act = a }) t.core
happens-collector j v w held new a logged left k t counted = record {
  allowed = allowed-collector j.history.slots (core_of j) a logged t.core.queue t.core.round k.stands.sound k.running t.collects;
  going = going-collector (end_of j.history) logged ∙ k.running;
  fits = t.moves.fits;
  lays = t.moves.lays;
  after = t.after;
  turns = turns-collector j.history.slots (core_of j) a logged left t.core.queue t.core.round t.collects;
  logs = collect-logs j.history.slots (core_of j) a logged t.core.queue t.core.round t.collects;
  stands = t.stands;
  counted = counted;
  numbered = numbered-collector logged;
  of_client = collect-client j.history.slots (core_of j) a logged t.core.queue t.core.round t.collects;
  red = red-collected j.history.slots v w (core_of j) (red_of j) held new k.stands a logged left t k.red;
  copied = copied-over j.history.slots v w (core_of j) (red_of j) held new k.stands a logged t.proceeds k.red;
}
