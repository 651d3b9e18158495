-- The calls of the one client, as the reference machine does them.
use Rattle.std.proofs.Common.{◌≡◌, ◌≢◌, ℕ, ◌<◌, List, [], ◌∷◌, Option, Some, None, refl, sym, ap, ◌∙◌, subst, arith, Bool, true, false, length, zero, suc, ◌+◌, ◌≤◌, ◌⊎◌, inl, inr}
use Rattle.std.specs.Prelude.{◌||◌, unwrap_or, IfSome, if◌then◌else◌}
use Rattle.std.specs.Option.{option_map_or}
use Rattle.std.specs.Ordering.{nat_cmp}
use Rattle.std.specs.BTreeMap.{insert_entry, is_at}
use Rattle.std.specs.Map.{remove_entry}
use Rattle.std.proofs.lemmas.List.{get_or-set_same, get_or-set_other}
use Rattle.std.proofs.lemmas.List.Sums.{fold-append}
use Rattle.plain_model.specs.declared.write.Write.{Write}
use Rattle.plain_model.specs.declared.write.Place.{Place}
use Rattle.plain_model.specs.declared.write.Place.TheVariants.{Slot, Payload, Whole}
use Rattle.plain_model.specs.declared.calls.Call.{Call as TransactionCall}
use Rattle.plain_model.specs.declared.calls.Call.TheVariants.{Begin, Read, Make, Store, GetPay, SetPay, Commit}
use Rattle.plain_model.specs.declared.calls.Reply.{Reply}
use Rattle.plain_model.specs.declared.calls.Reply.TheVariants.{Done, Id, Pay, EmptyRegister, Full}
use Rattle.plain_model.specs.Graphs.{has_object, after_write, after_place, put_object, blank}
use Rattle.plain_model.specs.ActiveTransaction.{ActiveTransaction}
use Rattle.plain_model.specs.Machine.{State, step, transaction_of, with_transaction, with_shared, with_owned, with_write, with_register, nonzero, register, register_id, own_graph, seen_slot, seen_payload, least_other, is_among, if_empty, free_id, made, is_stored, least_free, new_transaction, after_commit_of}
use Rattle.plain_model.proofs.StepLemmas.{step-begin, step-read, step-get, step-store, step-set, step-make, step-make_full, step-commit}
use Rattle.plain_laws.specs.Sound.{IsSoundState, has_made}
use Rattle.plain_laws.proofs.Lookups.{has_object-after_writes}
use Rattle.plain_laws.proofs.States.{contrary}
use Rattle.plain_laws.proofs.Entries.{at_here, insert_same}
use Rattle.plain_laws.proofs.Ids.{test_same, free_unstored}
use Rattle.plain_laws.proofs.Legal.{sound-step, there_stored}
use Rattle.object_store.specs.declared.reference.Held.{Held}
use Rattle.object_store.specs.Seen.{client, open_in, graph_in, register_in, slot_in, payload_in, IsAlone, IsQuiet}
use Rattle.object_store.specs.Handles.{held_at, only_root}
use Rattle.object_store.specs.Steps.{id_of, register_of}

-- ---- the client's transaction

pub its_transaction : (s : State) → (a : IsAlone s) → open_in s ≡ Some a.transaction
its_transaction s a = subst (λ es. transaction_of (record s { active = es }) client ≡ Some a.transaction) (sym a.active) (at_here client (client, a.transaction) [] refl)

pub graph_is : (s : State) (t : ActiveTransaction) → open_in s ≡ Some t → graph_in s ≡ own_graph s t
graph_is s t e = ap (λ o. option_map_or (λ (u : ActiveTransaction). own_graph s u) o s.committed) e

pub register_is : (s : State) (t : ActiveTransaction) (r : ℕ) → open_in s ≡ Some t → register_in s r ≡ register t r
register_is s t r e = ap (λ o. option_map_or (λ (u : ActiveTransaction). register u r) o None) e

pub none_open : (s : State) → IsQuiet s → open_in s ≡ None
none_open s e = ap (λ es. transaction_of (record s { active = es }) client) e

none_other : (test : ActiveTransaction → Bool) (p : ℕ) (t : ActiveTransaction) → least_other test p ((p, t) ∷ []) ≡ None
none_other test p t = let e = test_same p in rw e

nobody : (s : State) (a : IsAlone s) (test : ActiveTransaction → Bool) → least_other test client s.active ≡ None
nobody s a test = ap (λ es. least_other test client es) a.active ∙ none_other test client a.transaction

-- the client is alone also after a call that leaves it this transaction
alone_after : (s z : State) (a : IsAlone s) (u : ActiveTransaction) → z.active ≡ insert_entry nat_cmp s.active client u → u.aborting ≡ a.transaction.aborting → IsSoundState z → IsAlone z
alone_after s z a u e f h = record {
  transaction = u;
  active = e ∙ ap (λ es. insert_entry nat_cmp es client u) a.active ∙ insert_same client u (client, a.transaction) [] refl;
  running = f ∙ a.running;
  sound = h;
}

-- the state after a step is sound
sound_after : (s z : State) (call : TransactionCall) (reply : Reply) → IsSoundState s → step s client call ≡ (reply, z) → IsSoundState z
sound_after s z call reply h e = subst (λ (p : Reply × State). IsSoundState p.1) e (sound-step s client call h)

-- two outcomes of one step are one
same_reply : (p q : Reply × State) → p ≡ q → p.0 ≡ q.0
same_reply p q e = ap (λ (x : Reply × State). x.0) e

same_state : (p q : Reply × State) → p ≡ q → p.1 ≡ q.1
same_state p q e = ap (λ (x : Reply × State). x.1) e

-- what a register of the client holds
pub its_register : (s : State) (r id : ℕ) (a : IsAlone s) → register_in s r ≡ Some id → register a.transaction r ≡ Some id
its_register s r id a h = sym (register_is s a.transaction r (its_transaction s a)) ∙ h

eight : (s : State) (a : IsAlone s) → length a.transaction.registers ≡ 8
eight s a = (a.sound.transactions client a.transaction (its_transaction s a)).eight

-- ---- reads

-- what a read comes to
pub record ReadsTo (id slot into : ℕ) (s z : State) (reply : Reply) : Type 0 where
  pub told : reply ≡ Id (slot_in (graph_in s) id slot)
  pub graph : graph_in z ≡ graph_in s
  pub committed : z.committed ≡ s.committed
  pub here : register_in z into ≡ nonzero (slot_in (graph_in s) id slot)
  pub others : (r : ℕ) → r ≢ into → register_in z r ≡ register_in s r
  pub alone : IsAlone z

pub reads : (s z : State) (r slot into id : ℕ) (reply : Reply) → IsAlone s → register_in s r ≡ Some id → into < 8 → step s client (Read r slot into) ≡ (reply, z) → ReadsTo id slot into s z reply
unfolding alone_after
reads s z r slot into id reply a h within e =
    let t = a.transaction in
    let v = seen_slot s t id slot in
    let u = with_register into (nonzero v) (with_shared id t) in
    let y = with_transaction s client u in
    let its : open_in s ≡ Some t = its_transaction s a in
    let done : step s client (Read r slot into) ≡ (Id v, y) = step-read s client t r slot into id its a.running (its_register s r id a h) (nobody s a (λ w. is_among id w.owned)) in
    let both : (reply, z) ≡ (Id v, y) = sym e ∙ done in
    let alone : IsAlone y = alone_after s y a u refl refl (sound_after s y (Read r slot into) (Id v) a.sound done) in
    let now : graph_in s ≡ own_graph s t = graph_is s t its in
    let later : open_in y ≡ Some u = its_transaction y alone in
    let short : into < length t.registers = subst (λ n. into < n) (sym (eight s a)) within in
    let value : v ≡ slot_in (graph_in s) id slot = ap (λ g. slot_in g id slot) (sym now) in
    let read : ReadsTo id slot into s y reply = record {
      told = same_reply (reply, z) (Id v, y) both ∙ ap (λ n. Id n) value;
      graph = graph_is y u later ∙ sym now;
      committed = refl;
      here = register_is y u into later ∙ get_or-set_same t.registers into (nonzero v) None short ∙ ap nonzero value;
      others = λ q n. register_is y u q later ∙ get_or-set_other t.registers into q (nonzero v) None n ∙ sym (register_is s t q its);
      alone = alone;
    } in
    subst (λ x. ReadsTo id slot into s x reply) (sym (same_state (reply, z) (Id v, y) both)) read

-- ---- looks at a payload

pub record LooksTo (id : ℕ) (s z : State) (reply : Reply) : Type 0 where
  pub told : reply ≡ Pay (payload_in (graph_in s) id)
  pub graph : graph_in z ≡ graph_in s
  pub committed : z.committed ≡ s.committed
  pub registers : (r : ℕ) → register_in z r ≡ register_in s r
  pub alone : IsAlone z

pub looks : (s z : State) (r id : ℕ) (reply : Reply) → IsAlone s → register_in s r ≡ Some id → step s client (GetPay r) ≡ (reply, z) → LooksTo id s z reply
unfolding alone_after
looks s z r id reply a h e =
    let t = a.transaction in
    let v = seen_payload s t id in
    let u = with_shared id t in
    let y = with_transaction s client u in
    let its : open_in s ≡ Some t = its_transaction s a in
    let done : step s client (GetPay r) ≡ (Pay v, y) = step-get s client t r id its a.running (its_register s r id a h) (nobody s a (λ w. is_among id w.owned)) in
    let both : (reply, z) ≡ (Pay v, y) = sym e ∙ done in
    let alone : IsAlone y = alone_after s y a u refl refl (sound_after s y (GetPay r) (Pay v) a.sound done) in
    let now : graph_in s ≡ own_graph s t = graph_is s t its in
    let later : open_in y ≡ Some u = its_transaction y alone in
    let looked : LooksTo id s y reply = record {
      told = same_reply (reply, z) (Pay v, y) both ∙ ap (λ g. Pay (payload_in g id)) (sym now);
      graph = graph_is y u later ∙ sym now;
      committed = refl;
      registers = λ q. register_is y u q later ∙ sym (register_is s t q its);
      alone = alone;
    } in
    subst (λ x. LooksTo id s x reply) (sym (same_state (reply, z) (Pay v, y) both)) looked

-- ---- writes

pub record WritesTo (id : ℕ) (place : Place) (value : ℕ) (s z : State) (reply : Reply) : Type 0 where
  pub told : reply ≡ Done
  pub graph : graph_in z ≡ after_place s.slots (graph_in s) id place value
  pub committed : z.committed ≡ s.committed
  pub registers : (r : ℕ) → register_in z r ≡ register_in s r
  pub alone : IsAlone z

written : (s z : State) (id value : ℕ) (place : Place) (call : TransactionCall) (reply : Reply) → (a : IsAlone s)
    → step s client call ≡ (Done, with_transaction s client (with_write id place value (with_owned id a.transaction))) → step s client call ≡ (reply, z) → WritesTo id place value s z reply
unfolding alone_after
written s z id value place call reply a done e =
    let t = a.transaction in
    let u = with_write id place value (with_owned id t) in
    let y = with_transaction s client u in
    let w : Write = record { id = id; place = place; value = value } in
    let its : open_in s ≡ Some t = its_transaction s a in
    let both : (reply, z) ≡ (Done, y) = sym e ∙ done in
    let alone : IsAlone y = alone_after s y a u refl refl (sound_after s y call Done a.sound done) in
    let now : graph_in s ≡ own_graph s t = graph_is s t its in
    let later : open_in y ≡ Some u = its_transaction y alone in
    let wrote : WritesTo id place value s y reply = record {
      told = same_reply (reply, z) (Done, y) both;
      graph = graph_is y u later ∙ fold-append (after_write s.slots) s.committed t.writes (w ∷ []) ∙ ap (λ g. after_place s.slots g id place value) (sym now);
      committed = refl;
      registers = λ q. register_is y u q later ∙ sym (register_is s t q its);
      alone = alone;
    } in
    subst (λ x. WritesTo id place value s x reply) (sym (same_state (reply, z) (Done, y) both)) wrote

pub sets : (s z : State) (r id value : ℕ) (reply : Reply) → IsAlone s → register_in s r ≡ Some id → step s client (SetPay r value) ≡ (reply, z) → WritesTo id Payload value s z reply
sets s z r id value reply a h e =
    written s z id value Payload (SetPay r value) reply a (step-set s client a.transaction r value id (its_transaction s a) a.running (its_register s r id a h) (nobody s a (λ w. is_among id w.owned || is_among id w.shared))) e

-- the source of a store isn't empty, and gives its id
source_full : (s : State) (a : IsAlone s) (to : Option Held) → IfSome to (λ h. register_in s h.register ≡ Some h.id) → option_map_or (if_empty a.transaction) (register_of to) None ≡ None
source_full s a None h = refl
source_full s a (Some f) h = ap (λ o. option_map_or (λ _. None) o (Some (EmptyRegister f.register))) (its_register s f.register f.id a h)

source_id : (s : State) (a : IsAlone s) (to : Option Held) → IfSome to (λ h. register_in s h.register ≡ Some h.id) → option_map_or (register_id a.transaction) (register_of to) 0 ≡ id_of to
source_id s a None h = refl
source_id s a (Some f) h = ap (λ o. unwrap_or o 0) (its_register s f.register f.id a h)

pub stores : (s z : State) (r slot id : ℕ) (to : Option Held) (reply : Reply) → IsAlone s → register_in s r ≡ Some id → IfSome to (λ h. register_in s h.register ≡ Some h.id) → step s client (Store r slot (register_of to)) ≡ (reply, z)
    → WritesTo id (Slot slot) (id_of to) s z reply
stores s z r slot id to reply a h k e =
    subst (λ v. WritesTo id (Slot slot) v s z reply) (source_id s a to k)
    (written s z id (option_map_or (register_id a.transaction) (register_of to) 0) (Slot slot) (Store r slot (register_of to)) reply a (step-store s client a.transaction r slot id (register_of to) (its_transaction s a) a.running (its_register s r id a h) (source_full s a to k) (nobody s a (λ w. is_among id w.owned || is_among id w.shared))) e)

-- ---- a new object

free_from : (stored : List ℕ) (i n k : ℕ) → least_free stored i n ≡ Some k → i ≤ k
free_from stored i zero k e = absurd (cc)
free_from stored i (suc n) k e =
    elim (is_stored stored i) as (λ b. (if b then least_free stored (i + 1) n else Some i) ≡ Some k → i ≤ k) [
      | true ↦ λ f. (let h : i + 1 ≤ k = free_from stored (i + 1) n k f in omega (arith, h))
      | false ↦ λ f. (let same : i ≡ k = cc in omega (arith, same))
    ] e

both_false : (a b : Bool) → (a ≡ true → ⊥) → (b ≡ true → ⊥) → (a || b) ≡ false
both_false true b h k = absurd (h refl)
both_false false true h k = absurd (k refl)
both_false false false h k = refl

-- a free id has no object in what the client sees
absent : (s : State) (id : ℕ) (a : IsAlone s) → is_stored s.stored id ≡ false → has_object (own_graph s a.transaction) id ≡ false
absent s id a free =
    let t = a.transaction in
    has_object-after_writes s.slots s.committed t.writes id
    ∙ both_false (has_object s.committed id) (has_made t id)
    (λ m. contrary (is_stored s.stored id) (a.sound.committed_stored id m) free)
    (λ m. contrary (is_stored s.stored id) (there_stored s t id a.sound (a.sound.transactions client t (its_transaction s a)) (inl m)) free)

-- no id is free, or the object is made
pub record MakesNone (s z : State) (reply : Reply) : Type 0 where
  pub told : reply ≡ Full
  pub same : z ≡ s
  pub none : free_id s ≡ None

pub record MakesTo (into id : ℕ) (s z : State) (reply : Reply) : Type 0 where
  pub told : reply ≡ Id id
  pub fresh : has_object (graph_in s) id ≡ false
  pub named : id ≢ 0
  pub graph : graph_in z ≡ put_object (graph_in s) (blank s.slots id)
  pub committed : z.committed ≡ s.committed
  pub here : register_in z into ≡ Some id
  pub others : (r : ℕ) → r ≢ into → register_in z r ≡ register_in s r
  pub alone : IsAlone z

pub made_or_full : (s z : State) (into : ℕ) (reply : Reply) → IsAlone s → into < 8 → step s client (Make into) ≡ (reply, z) → MakesNone s z reply ⊎ ((id : ℕ) × MakesTo into id s z reply)
unfolding alone_after
made_or_full s z into reply a within e = by (free_id s) refl
  where
    by : (o : Option ℕ) → free_id s ≡ o → MakesNone s z reply ⊎ ((id : ℕ) × MakesTo into id s z reply)
    by None f =
        let full : step s client (Make into) ≡ (Full, s) = step-make_full s client a.transaction into (its_transaction s a) a.running f in
        let both : (reply, z) ≡ (Full, s) = sym e ∙ full in
        inl (record { told = same_reply (reply, z) (Full, s) both; same = same_state (reply, z) (Full, s) both; none = f })
    by (Some id) f =
        let t = a.transaction in
        let u = with_register into (Some id) (with_write id Whole 0 (with_owned id t)) in
        let y = made s client t into id in
        let w : Write = record { id = id; place = Whole; value = 0 } in
        let its : open_in s ≡ Some t = its_transaction s a in
        let done : step s client (Make into) ≡ (Id id, y) = step-make s client t into id its a.running f in
        let both : (reply, z) ≡ (Id id, y) = sym e ∙ done in
        let alone : IsAlone y = alone_after s y a u refl refl (sound_after s y (Make into) (Id id) a.sound done) in
        let now : graph_in s ≡ own_graph s t = graph_is s t its in
        let later : open_in y ≡ Some u = its_transaction y alone in
        let short : into < length t.registers = subst (λ n. into < n) (sym (eight s a)) within in
        let least : 1 ≤ id = free_from s.stored 1 s.ids id f in
        let made_it : MakesTo into id s y reply = record {
          told = same_reply (reply, z) (Id id, y) both;
          fresh = ap (λ g. has_object g id) now ∙ absent s id a (free_unstored s.stored 1 s.ids id f);
          named = λ z. absurd (omega (arith, z, least));
          graph = graph_is y u later ∙ fold-append (after_write s.slots) s.committed t.writes (w ∷ []) ∙ ap (λ g. put_object g (blank s.slots id)) (sym now);
          committed = refl;
          here = register_is y u into later ∙ get_or-set_same t.registers into (Some id) None short;
          others = λ q n. register_is y u q later ∙ get_or-set_other t.registers into q (Some id) None n ∙ sym (register_is s t q its);
          alone = alone;
        } in
        inr (id, subst (λ x. MakesTo into id s x reply) (sym (same_state (reply, z) (Id id, y) both)) made_it)

-- ---- beginning

pub record BeginsTo (s z : State) (reply : Reply) : Type 0 where
  pub told : reply ≡ Done
  pub graph : graph_in z ≡ s.committed
  pub committed : z.committed ≡ s.committed
  pub registers : (r : ℕ) → register_in z r ≡ held_at only_root r
  pub alone : IsAlone z

pub begins : (s z : State) (reply : Reply) → IsSoundState s → IsQuiet s → step s client Begin ≡ (reply, z) → BeginsTo s z reply
begins s z reply h quiet e =
    let u = new_transaction in
    let y = with_transaction s client u in
    let done : step s client Begin ≡ (Done, y) = step-begin s client (none_open s quiet) in
    let both : (reply, z) ≡ (Done, y) = sym e ∙ done in
    let alone : IsAlone y = record {
      transaction = u;
      active = ap (λ es. insert_entry nat_cmp es client u) quiet;
      running = refl;
      sound = sound_after s y Begin Done h done;
    } in
    let later : open_in y ≡ Some u = ap (λ es. transaction_of (record s { active = insert_entry nat_cmp es client u }) client) quiet in
    let begun : BeginsTo s y reply = record {
      told = same_reply (reply, z) (Done, y) both;
      graph = graph_is y u later;
      committed = refl;
      registers = λ q. register_is y u q later;
      alone = alone;
    } in
    subst (λ x. BeginsTo s x reply) (sym (same_state (reply, z) (Done, y) both)) begun

-- ---- committing

pub record CommitsTo (s z : State) (reply : Reply) : Type 0 where
  pub told : reply ≡ Done
  pub committed : z.committed ≡ graph_in s
  pub quiet : IsQuiet z

pub commits : (s z : State) (reply : Reply) → IsAlone s → step s client Commit ≡ (reply, z) → CommitsTo s z reply
commits s z reply a e =
    let t = a.transaction in
    let y = after_commit_of s client t in
    let its : open_in s ≡ Some t = its_transaction s a in
    let done : step s client Commit ≡ (Done, y) = step-commit s client t its a.running in
    let both : (reply, z) ≡ (Done, y) = sym e ∙ done in
    let ended : CommitsTo s y reply = record {
      told = same_reply (reply, z) (Done, y) both;
      committed = sym (graph_is s t its);
      quiet = ap (λ es. remove_entry (is_at (nat_cmp client)) es) a.active;
    } in
    subst (λ x. CommitsTo s x reply) (sym (same_state (reply, z) (Done, y) both)) ended
