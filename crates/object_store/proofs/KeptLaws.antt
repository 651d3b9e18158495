-- What a store keeps over its calls, and what they come to for its handle.
use Rattle.std.proofs.Common.{◌≡◌, ◌≢◌, ℕ, ◌<◌, List, Option, Some, None, Result, Ok, Err, Bool, true, false, refl, sym, ap, ◌∙◌, subst, arith, ◌⊎◌, inl, inr, ⊎_elim, is_some}
use Rattle.std.specs.Prelude.{IfSome, IfOk, IfErr, OnOk, is_none, ◌&&◌, ◌==◌, if◌then◌else◌}
use Rattle.std.proofs.lemmas.Bool.Decides.{nat_tests}
use Rattle.plain_model.specs.declared.object.Object.{Object}
use Rattle.plain_model.specs.declared.calls.Call.{Call as TransactionCall}
use Rattle.plain_model.specs.declared.calls.Call.TheVariants as call
use Rattle.plain_model.specs.declared.calls.Reply.TheVariants as reply
use Rattle.plain_model.specs.declared.write.Place.{Place}
use Rattle.plain_model.specs.Graphs.{root, has_object, after_set}
use Rattle.plain_model.specs.Machine.{State, nonzero}
use Rattle.logged_journal.specs.declared.failed.FailedCall.{FailedCall}
use Rattle.logged_journal.specs.View.{LoggedView}
use Rattle.object_store.specs.declared.tending.Tending.{Tending}
use Rattle.object_store.specs.declared.error.StoreError.{StoreError}
use Rattle.object_store.specs.declared.error.StoreError.TheVariants as error
use Rattle.object_store.specs.declared.reference.Held.{Held}
use Rattle.object_store.specs.Seen.{object_slots, client, state_of, open_in, graph_in, register_in, IsQuiet, IsLive}
use Rattle.object_store.specs.Calls.{Does, IsShortOf, IsShort, IsIn, Reads, Looks, Writes, Makes, IsMakeShort, Loads}
use Rattle.object_store.specs.Handles.{StoreView, store_at, is_live, held_at, Holds, HasRoom, IsOpen, IsKept}
use Rattle.object_store.specs.Steps.{register_of, Keeps, Gets, Shows, Sets, MakesObject, IsObjectError, IsGetError, IsSetError, IsMakeError, Forgets}
use Rattle.plain_laws.proofs.Legal.{registers-stored_proof}
use Rattle.object_store.proofs.AloneLaws.{its_transaction, its_register, graph_is, none_open}

-- ---- a handle is live

is_none_none : {X : Type 0} (o : Option X) → is_none o ≡ true → o ≡ None
is_none_none None h = refl
is_none_none (Some x) h = absurd (cc)

both_true : (a b : Bool) → (a && b) ≡ true → (a ≡ true) × (b ≡ true)
both_true true true h = (refl, refl)
both_true true false h = absurd (cc)
both_true false b h = absurd (cc)

pub record LiveOpen {D : Type 0} (below : LoggedView D) (held : List (Option ℕ)) : Type 0 where
  pub running : below.failed ≡ None
  pub opened : IsOpen below held

pub live_open : {D : Type 0} (below : LoggedView D) (held : List (Option ℕ)) → IsKept below held → (is_none below.failed && is_some (open_in (state_of below))) ≡ true → LiveOpen below held
live_open below held kept live =
    let both = both_true (is_none below.failed) (is_some (open_in (state_of below))) live in
    let running : below.failed ≡ None = is_none_none below.failed both.0 in
    record {
      running = running;
      opened = ⊎_elim
          (λ (q : IsQuiet (state_of below)). absurd (let none : is_some (open_in (state_of below)) ≡ false = ap (λ o. is_some o) (none_open (state_of below) q) in let some : is_some (open_in (state_of below)) ≡ true = both.1 in cc))
          (λ (o : IsOpen below held). o)
          (kept running);
    }

pub is_live_of : {D : Type 0} (below : LoggedView D) (held : List (Option ℕ)) → IsLive below → (is_none below.failed && is_some (open_in (state_of below))) ≡ true
is_live_of below held l = ap (λ (o : Option FailedCall). is_none o && is_some (open_in (state_of below))) l.running ∙ ap (λ o. is_some o) (its_transaction (state_of below) l.alone)

pub live_below : {D : Type 0} {below : LoggedView D} {held : List (Option ℕ)} → LiveOpen below held → IsLive below
live_below l = record { running = l.running; alone = l.opened.alone }

pub is_in : {D : Type 0} {below : LoggedView D} {held : List (Option ℕ)} → LiveOpen below held → (h : Held) → h.register < 8 → held_at held h.register ≡ Some h.id → IsIn below h
is_in l h small holds = record { small = small; named = l.opened.known h.register h.id holds }

-- what is held is there
pub held_there : {D : Type 0} (v : LoggedView D) (held : List (Option ℕ)) (h : Held) → LiveOpen v held → held_at held h.register ≡ Some h.id → has_object (graph_in (state_of v)) h.id ≡ true
held_there v held h l holds =
    let s = state_of v in
    let a = l.opened.alone in
    let its = its_transaction s a in
    let there = registers-stored_proof s client h.register h.id a.transaction a.sound its (its_register s h.register h.id a (l.opened.known h.register h.id holds)) in
    ap (λ (g : List Object). has_object g h.id) (graph_is s a.transaction its) ∙ there.1

pub kept_of : {D : Type 0} {below : LoggedView D} {held : List (Option ℕ)} → IsOpen below held → IsKept below held
kept_of o = λ _. inr o

-- ---- what is held stays so

pub open_same : {D : Type 0} {v w : LoggedView D} {held : List (Option ℕ)} → IsOpen v held → IsLive w → ((r : ℕ) → register_in (state_of w) r ≡ register_in (state_of v) r) → IsOpen w held
open_same o l same = record { alone = l.alone; rooted = o.rooted; known = λ r id e. same r ∙ o.known r id e }

pub open_short : {D : Type 0} {v w : LoggedView D} {held : List (Option ℕ)} → IsOpen v held → IsLive w → state_of w ≡ state_of v → IsOpen w held
open_short o l same = open_same o l (λ r. ap (λ s. register_in s r) same)

apart : (held : List (Option ℕ)) (r into id : ℕ) → held_at held into ≡ None → held_at held r ≡ Some id → r ≢ into
apart held r into id free e same = absurd (let f : held_at held r ≡ None = ap (λ n. held_at held n) same ∙ free in cc)

-- a register was loaded that was known to hold nothing
pub open_loaded : {D : Type 0} {v w : LoggedView D} {held : List (Option ℕ)} {o : Option ℕ} (into : ℕ) → IsOpen v held → IsLive w → Loads into o v w → held_at held into ≡ None → IsOpen w held
open_loaded {D} {v} {w} {held} into o l loads free = record {
  alone = l.alone;
  rooted = o.rooted;
  known = λ r id e. loads.others r (apart held r into id free e) ∙ o.known r id e;
}

-- and is known to hold an object now, unless another one has it
pub open_joined : {D : Type 0} {v w : LoggedView D} {old new : List (Option ℕ)} (into id : ℕ) → IsOpen v old → IsLive w → Loads into (Some id) v w → held_at old into ≡ None
    → ((r i : ℕ) → held_at old r ≡ Some i → held_at new r ≡ Some i) → ((r i : ℕ) → held_at new r ≡ Some i → (held_at old r ≡ Some i) ⊎ ((r ≡ into) × (i ≡ id))) → IsOpen w new
open_joined {D} {v} {w} {old} {new} into id o l loads free still only = record {
  alone = l.alone;
  rooted = still 0 root o.rooted;
  known = λ r i e. ⊎_elim
      (λ (f : held_at old r ≡ Some i). loads.others r (apart old r into i free f) ∙ o.known r i f)
      (λ (f : (r ≡ into) × (i ≡ id)). ap (λ n. register_in (state_of w) n) f.0 ∙ loads.here ∙ ap (λ n. Some n) (sym f.1))
      (only r i e);
}

pub nonzero_some : (id : ℕ) → id ≢ 0 → nonzero id ≡ Some id
nonzero_some id n = let P : ℕ → Type 0 = λ k. nonzero k ≡ Some k in by (id == 0) refl
  where
    by : (b : Bool) → (id == 0) ≡ b → nonzero id ≡ Some id
    by true e = absurd (n (grind (arith, nat_tests)))
    by false e = ap (λ b. if b then None else Some id) e

-- a row of a table was written
pub still_put : (old new : List (Option ℕ)) (into id : ℕ) → held_at old into ≡ None → ((r : ℕ) → r ≢ into → held_at new r ≡ held_at old r) → (r i : ℕ) → held_at old r ≡ Some i → held_at new r ≡ Some i
still_put old new into id free others r i e = others r (apart old r into i free e) ∙ e

pub only_put : (old new : List (Option ℕ)) (into id : ℕ) → held_at new into ≡ Some id → ((r : ℕ) → r ≢ into → held_at new r ≡ held_at old r) → (r i : ℕ) → held_at new r ≡ Some i → (held_at old r ≡ Some i) ⊎ ((r ≡ into) × (i ≡ id))
only_put old new into id here others r i e = by (r == into) refl
  where
    some_same : (a b : ℕ) → Some a ≡ Some b → a ≡ b
    some_same a b f = cc

    by : (b : Bool) → (r == into) ≡ b → (held_at old r ≡ Some i) ⊎ ((r ≡ into) × (i ≡ id))
    by true t = let same : r ≡ into = grind (arith, nat_tests) in inr (same, some_same i id (sym e ∙ ap (λ n. held_at new n) same ∙ here))
    by false t = let apart : r ≢ into = λ f. absurd (let g : (r == into) ≡ true = grind (arith, nat_tests) in cc) in inl (sym (others r apart) ∙ e)

-- ---- what the calls come to

pub keeps_same : {D : Type 0} {n : Tending} (v w : LoggedView D) (held : List (Option ℕ)) → state_of w ≡ state_of v → Keeps (store_at n v held) (store_at n w held)
keeps_same v w held same = record { graph = ap (λ s. graph_in s) same; committed = ap (λ (s : State). s.committed) same; held = refl; tending = refl }

pub gets_none : {D : Type 0} {n : Tending} (v w : LoggedView D) (held : List (Option ℕ)) (h : Held) (slot into id : ℕ) → Reads h slot into id v w → id ≡ 0 → Gets h slot None (store_at n v held) (store_at n w held)
gets_none v w held h slot into id reads zero = record {
  value = sym zero ∙ reads.value;
  holds = tt;
  graph = reads.same.graph;
  committed = reads.same.committed;
  still = λ r i e. e;
  again = λ r small e. refl;
  tending = refl;
  made = (into, subst (λ n. Does (call.Read h.register slot into) (reply.Id n) v w) zero reads.does);
}

pub gets_some : {D : Type 0} {n : Tending} (v w : LoggedView D) (old new : List (Option ℕ)) (h : Held) (slot into id : ℕ) (found : Held) → Reads h slot into id v w → found.id ≡ id → held_at new found.register ≡ Some id
    → ((r i : ℕ) → held_at old r ≡ Some i → held_at new r ≡ Some i) → ((r : ℕ) → r < 8 → held_at old r ≡ Some id → new ≡ old) → Gets h slot (Some found) (store_at n v old) (store_at n w new)
gets_some v w old new h slot into id found reads is holds still once = record {
  value = is ∙ reads.value;
  holds = holds ∙ ap (λ n. Some n) (sym is);
  graph = reads.same.graph;
  committed = reads.same.committed;
  still = still;
  again = λ r small e. once r small (e ∙ ap (λ n. Some n) is);
  tending = refl;
  made = (into, subst (λ n. Does (call.Read h.register slot into) (reply.Id n) v w) (sym is) reads.does);
}

pub shows_of : {D : Type 0} {n : Tending} (v w : LoggedView D) (held : List (Option ℕ)) (h : Held) (payload : ℕ) → Looks h payload v w → Shows h payload (store_at n v held) (store_at n w held)
shows_of v w held h payload looks = record { value = looks.value; keeps = record { graph = looks.same.graph; committed = looks.same.committed; held = refl; tending = refl }; made = looks.does }

pub sets_of : {D : Type 0} {n : Tending} (v w : LoggedView D) (held : List (Option ℕ)) (h : Held) (place : Place) (value : ℕ) (c : TransactionCall) → Writes c (after_set h.id place value (graph_in (state_of v))) v w → Sets h place value c (store_at n v held) (store_at n w held)
sets_of v w held h place value c writes = record { graph = writes.graph; committed = writes.committed; held = refl; tending = refl; made = writes.does }

pub makes_of : {D : Type 0} {n : Tending} (v w : LoggedView D) (old new : List (Option ℕ)) (into id : ℕ) → Makes into id v w → held_at new into ≡ Some id → ((r i : ℕ) → held_at old r ≡ Some i → held_at new r ≡ Some i)
    → MakesObject (record { id = id; register = into }) (store_at n v old) (store_at n w new)
makes_of v w old new into id makes here still = record {
  fresh = makes.fresh;
  named = makes.named;
  graph = makes.graph;
  committed = makes.committed;
  holds = here;
  still = still;
  tending = refl;
  made = makes.does;
}

-- ---- why a call isn't done

pub object_error : {D : Type 0} (h : Held) (c : TransactionCall) (v : StoreView D) (why : StoreError) → Holds v h → IsShortOf c why v.below → IsObjectError h c v why
object_error h c v error.NotHeld holds short = absurd short
object_error h c v error.NoSuchSlot holds short = absurd short
object_error h c v error.TooManyReferences holds short = absurd short
object_error h c v error.Full holds short = absurd short
object_error h c v error.Memory holds short = (holds, short)
object_error h c v error.HistoryFull holds short = (holds, short)
object_error h c v error.LogFull holds short = (holds, short)
object_error h c v error.Disk holds short = absurd short
object_error h c v error.Stopped holds short = absurd short
object_error h c v error.Ended holds short = absurd short

pub get_error : {D : Type 0} (h : Held) (slot into : ℕ) (v : StoreView D) (why : StoreError) → Holds v h → slot < object_slots → HasRoom v.held → IsShortOf (call.Read h.register slot into) why v.below → IsGetError h slot v why
get_error h slot into v error.NotHeld holds fits room short = absurd short
get_error h slot into v error.NoSuchSlot holds fits room short = absurd short
get_error h slot into v error.TooManyReferences holds fits room short = absurd short
get_error h slot into v error.Full holds fits room short = absurd short
get_error h slot into v error.Memory holds fits room short = (holds, fits, room, (into, short))
get_error h slot into v error.HistoryFull holds fits room short = (holds, fits, room, (into, short))
get_error h slot into v error.LogFull holds fits room short = (holds, fits, room, (into, short))
get_error h slot into v error.Disk holds fits room short = absurd short
get_error h slot into v error.Stopped holds fits room short = absurd short
get_error h slot into v error.Ended holds fits room short = absurd short

pub set_error : {D : Type 0} (h : Held) (slot : ℕ) (to : Option Held) (v : StoreView D) (why : StoreError) → Holds v h → IfSome to (Holds v) → slot < object_slots → IsShortOf (call.Store h.register slot (register_of to)) why v.below → IsSetError h slot to v why
set_error h slot to v error.NotHeld holds held fits short = absurd short
set_error h slot to v error.NoSuchSlot holds held fits short = absurd short
set_error h slot to v error.TooManyReferences holds held fits short = absurd short
set_error h slot to v error.Full holds held fits short = absurd short
set_error h slot to v error.Memory holds held fits short = (holds, held, fits, short)
set_error h slot to v error.HistoryFull holds held fits short = (holds, held, fits, short)
set_error h slot to v error.LogFull holds held fits short = (holds, held, fits, short)
set_error h slot to v error.Disk holds held fits short = absurd short
set_error h slot to v error.Stopped holds held fits short = absurd short
set_error h slot to v error.Ended holds held fits short = absurd short

-- why no object was made, and that all is as before then
pub record NotMade {D : Type 0} (n : Tending) (v w : LoggedView D) (held : List (Option ℕ)) (why : StoreError) : Type 0 where
  pub same : state_of w ≡ state_of v
  pub cause : IsMakeError (store_at n v held) why

pub make_same : {D : Type 0} (v w : LoggedView D) (into : ℕ) (why : StoreError) → IsMakeShort into why v w → state_of w ≡ state_of v
make_same v w into error.Full short = short.same
make_same v w into error.Memory short = short.same
make_same v w into error.HistoryFull short = short.same
make_same v w into error.LogFull short = short.same
make_same v w into error.NotHeld short = absurd short.cause
make_same v w into error.NoSuchSlot short = absurd short.cause
make_same v w into error.TooManyReferences short = absurd short.cause
make_same v w into error.Disk short = absurd short.cause
make_same v w into error.Stopped short = absurd short.cause
make_same v w into error.Ended short = absurd short.cause

pub make_error : {D : Type 0} {n : Tending} (v w : LoggedView D) (held : List (Option ℕ)) (into : ℕ) (why : StoreError) → HasRoom held → IsMakeShort into why v w → NotMade n v w held why
make_error v w held into error.Full room short = record { same = short.same; cause = (room, short.none) }
make_error v w held into error.Memory room short = record { same = short.same; cause = (room, (into, short.cause)) }
make_error v w held into error.HistoryFull room short = record { same = short.same; cause = (room, (into, short.cause)) }
make_error v w held into error.LogFull room short = record { same = short.same; cause = (room, (into, short.cause)) }
make_error v w held into error.NotHeld room short = absurd short.cause
make_error v w held into error.NoSuchSlot room short = absurd short.cause
make_error v w held into error.TooManyReferences room short = absurd short.cause
make_error v w held into error.Disk room short = absurd short.cause
make_error v w held into error.Stopped room short = absurd short.cause
make_error v w held into error.Ended room short = absurd short.cause

-- ---- what a method tells, clause by clause

pub keeps_self : {D : Type 0} (v : StoreView D) → Keeps v v
keeps_self v = record { graph = refl; committed = refl; held = refl; tending = refl }

pub record PayloadTold {D : Type 0} (h : Held) (r : Result ℕ StoreError) (old new : StoreView D) : Type 0 where
  pub live : is_live new ≡ true
  pub shows : IfOk r (λ payload. Shows h payload old new)
  pub refused : IfErr r (λ why. IsObjectError h (call.GetPay h.register) old why)
  pub keeps : IfErr r (λ _. Keeps old new)

pub open_looked : {D : Type 0} (h : Held) (v w : LoggedView D) (held : List (Option ℕ)) (r : Result ℕ StoreError) → LiveOpen v held → IsLive w → IfOk r (λ payload. Looks h payload v w) → IfErr r (λ why. IsShort (call.GetPay h.register) why v w) → IsKept w held
open_looked h v w held (Ok payload) l live looks short = kept_of (open_same l.opened live looks.registers)
open_looked h v w held (Err why) l live looks short = kept_of (open_short l.opened live short.same)

pub payload_told : {D : Type 0} {n : Tending} (h : Held) (v w : LoggedView D) (held : List (Option ℕ)) (r : Result ℕ StoreError) → held_at held h.register ≡ Some h.id → IsLive w → IfOk r (λ payload. Looks h payload v w) → IfErr r (λ why. IsShort (call.GetPay h.register) why v w)
    → PayloadTold h r (store_at n v held) (store_at n w held)
payload_told h v w held (Ok payload) holds live looks short = record { live = is_live_of w held live; shows = shows_of v w held h payload looks; refused = tt; keeps = tt }
payload_told {D} {n} h v w held (Err why) holds live looks short = record {
  live = is_live_of w held live;
  shows = tt;
  refused = object_error h (call.GetPay h.register) (store_at n v held) why holds short.cause;
  keeps = keeps_same v w held short.same;
}

pub record WriteTold {D : Type 0} (h : Held) (place : Place) (value : ℕ) (c : TransactionCall) (E : StoreView D → StoreError → Type 0) (r : Result (Unit {0}) StoreError) (old new : StoreView D) : Type 0 where
  pub live : is_live new ≡ true
  pub sets : OnOk r (Sets h place value c old new)
  pub refused : IfErr r (λ why. E old why)
  pub keeps : IfErr r (λ _. Keeps old new)

pub open_written : {D : Type 0} (v w : LoggedView D) (held : List (Option ℕ)) (c : TransactionCall) (graph : List Object) (r : Result (Unit {0}) StoreError) → LiveOpen v held → IsLive w → OnOk r (Writes c graph v w) → IfErr r (λ why. IsShort c why v w) → IsKept w held
open_written v w held c graph (Ok x) l live writes short = kept_of (open_same l.opened live writes.registers)
open_written v w held c graph (Err why) l live writes short = kept_of (open_short l.opened live short.same)

pub write_told : {D : Type 0} {n : Tending} (h : Held) (place : Place) (value : ℕ) (c : TransactionCall) (E : StoreView D → StoreError → Type 0) (v w : LoggedView D) (held : List (Option ℕ)) (r : Result (Unit {0}) StoreError)
    → IsLive w → OnOk r (Writes c (after_set h.id place value (graph_in (state_of v))) v w) → IfErr r (λ why. IsShort c why v w) → ((why : StoreError) → IsShortOf c why v → E (store_at n v held) why)
    → WriteTold h place value c E r (store_at n v held) (store_at n w held)
write_told h place value c E v w held (Ok x) live writes short e = record { live = is_live_of w held live; sets = sets_of v w held h place value c writes; refused = tt; keeps = tt }
write_told h place value c E v w held (Err why) live writes short e = record { live = is_live_of w held live; sets = tt; refused = e why short.cause; keeps = keeps_same v w held short.same }

-- a row of a table was emptied
pub only_cleared : (old new : List (Option ℕ)) (into : ℕ) → held_at new into ≡ None → ((r : ℕ) → r ≢ into → held_at new r ≡ held_at old r) → (r i : ℕ) → held_at new r ≡ Some i → held_at old r ≡ Some i
only_cleared old new into gone others r i e = sym (others r (apart new r into i gone e)) ∙ e

pub forgets_of : {D : Type 0} {n : Tending} (v : LoggedView D) (old new : List (Option ℕ)) (h : Held) → (h.register ≢ 0 → held_at old h.register ≡ Some h.id → held_at new h.register ≡ None) → ((r : ℕ) → r ≢ h.register → held_at new r ≡ held_at old r)
    → ((r i : ℕ) → held_at new r ≡ Some i → held_at old r ≡ Some i) → held_at new 0 ≡ held_at old 0 → (held_at old h.register ≡ Some h.id → h.register < 8) → Forgets h (store_at n v old) (store_at n v new)
forgets_of v old new h gone others only rooted small = record {
  below = refl;
  tending = refl;
  gone = λ n e. absurd (let none : held_at new h.register ≡ None = gone n (only h.register h.id e) in cc);
  room = λ n e. record { register = h.register; small = small e; none = gone n e };
  others = others;
  root = rooted;
}

-- what is to be stored is held, if there is something
pub is_in_to : {D : Type 0} {below : LoggedView D} {held : List (Option ℕ)} → LiveOpen below held → (to : Option Held) → IfSome to (λ h. h.register < 8) → IfSome to (λ h. held_at held h.register ≡ Some h.id) → IfSome to (λ h. IsIn below h)
is_in_to l None small holds = tt
is_in_to l (Some h) small holds = is_in l h small holds
