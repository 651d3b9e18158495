-- The calls of a client alone.
use Rattle.std.proofs.Common.{◌≡◌, ℕ, ◌<◌, List, [], ◌∷◌, Option, Some, None, refl, sym, ap, ◌∙◌, subst, arith, Bool, true, false, length, zero, suc, ◌+◌, ◌≤◌, ◌⊎◌, inl, inr}
use Rattle.std.specs.Prelude.{◌||◌, unwrap_or, IsSome, IfSome, if◌then◌else◌}
use Rattle.std.specs.Option.{option_map_or}
use Rattle.std.specs.Ordering.{nat_cmp}
use Rattle.std.specs.BTreeMap.{insert_entry}
use Rattle.std.proofs.lemmas.List.{get_or-set_same, get_or-set_other}
use Rattle.std.proofs.lemmas.List.Sums.{fold-append}
use Rattle.plain_model.specs.declared.write.Write.{Write}
use Rattle.plain_model.specs.declared.write.Place.{Place}
use Rattle.plain_model.specs.declared.write.Place.TheVariants.{Slot, Payload, Whole}
use Rattle.plain_model.specs.declared.calls.Call.{Call as TransactionCall}
use Rattle.plain_model.specs.declared.calls.Call.TheVariants.{Read, Make, Store, GetPay, SetPay}
use Rattle.plain_model.specs.declared.calls.Reply.{Reply}
use Rattle.plain_model.specs.declared.calls.Reply.TheVariants.{Done, Id, Pay, EmptyRegister, Full}
use Rattle.plain_model.specs.Graphs.{has_object, after_write}
use Rattle.plain_model.specs.ActiveTransaction.{ActiveTransaction}
use Rattle.plain_model.specs.Machine.{State, step, transaction_of, with_transaction, with_shared, with_owned, with_write, with_register, nonzero, register, register_id, own_graph, seen_slot, seen_payload, least_other, is_among, if_empty, free_id, made, is_stored, least_free}
use Rattle.plain_model.proofs.StepLemmas.{step-read, step-get, step-store, step-set, step-make, step-make_full}
use Rattle.plain_laws.specs.Sound.{IsSoundState, has_made}
use Rattle.plain_laws.proofs.Lookups.{has_object-after_writes}
use Rattle.plain_laws.proofs.States.{contrary}
use Rattle.plain_laws.proofs.Entries.{at_here, insert_same}
use Rattle.plain_laws.proofs.Ids.{test_same, free_unstored}
use Rattle.plain_laws.proofs.Legal.{sound-step, there_stored}
use Rattle.object_map.specs.Maps.{slot_of, payload_of}
use Rattle.object_map.specs.Clients.{free_ids}
use Rattle.object_map.proofs.FreeLaws.{free_none, free_made}
use Rattle.object_map.specs.Seen.{Seen, IsAlone, seen_of, seen_by, at, held, held_id, Loads, Writes, Makes}

-- ---- the client's transaction

pub its_transaction : (s : State) (pass : ℕ) → (a : IsAlone s pass) → transaction_of s pass ≡ Some a.transaction
its_transaction s pass a = subst (λ es. transaction_of (record s { active = es }) pass ≡ Some a.transaction) (sym a.active) (at_here pass (pass, a.transaction) [] refl)

pub seen_is : (s : State) (pass : ℕ) (t : ActiveTransaction) → transaction_of s pass ≡ Some t → seen_of s pass ≡ seen_by s t
seen_is s pass t e = ap (λ o. option_map_or (λ (u : ActiveTransaction). seen_by s u) o (record { slots = s.slots; graph = []; registers = [] })) e

none_other : (test : ActiveTransaction → Bool) (p : ℕ) (t : ActiveTransaction) → least_other test p ((p, t) ∷ []) ≡ None
none_other test p t = let e = test_same p in rw e

nobody : (s : State) (pass : ℕ) (a : IsAlone s pass) (test : ActiveTransaction → Bool) → least_other test pass s.active ≡ None
nobody s pass a test = ap (λ es. least_other test pass es) a.active ∙ none_other test pass a.transaction

-- the client is alone also after a call that leaves it this transaction
alone_after : (s z : State) (pass : ℕ) (a : IsAlone s pass) (u : ActiveTransaction) → z.active ≡ insert_entry nat_cmp s.active pass u → u.aborting ≡ a.transaction.aborting → IsSoundState z → IsAlone z pass
alone_after s z pass a u e f h = record {
  transaction = u;
  active = e ∙ ap (λ es. insert_entry nat_cmp es pass u) a.active ∙ insert_same pass u (pass, a.transaction) [] refl;
  running = f ∙ a.running;
  sound = h;
}

-- the state after a step is sound
sound_after : (s z : State) (pass : ℕ) (call : TransactionCall) (reply : Reply) → IsSoundState s → step s pass call ≡ (reply, z) → IsSoundState z
sound_after s z pass call reply h e = subst (λ (p : Reply × State). IsSoundState p.1) e (sound-step s pass call h)

-- two outcomes of one step are one
same_reply : (p q : Reply × State) → p ≡ q → p.0 ≡ q.0
same_reply p q e = ap (λ (x : Reply × State). x.0) e

same_state : (p q : Reply × State) → p ≡ q → p.1 ≡ q.1
same_state p q e = ap (λ (x : Reply × State). x.1) e

some_is : (o : Option ℕ) → IsSome o → o ≡ Some (unwrap_or o 0)
some_is (Some x) h = refl
some_is None h = absurd (cc)

-- what a register of the client holds
pub its_register : (s : State) (pass r : ℕ) (a : IsAlone s pass) → IsSome (held (seen_of s pass) r) → register a.transaction r ≡ Some (held_id (seen_of s pass) r)
its_register s pass r a h =
    let e : seen_of s pass ≡ seen_by s a.transaction = seen_is s pass a.transaction (its_transaction s pass a) in
    subst (λ v. held (seen_by s a.transaction) r ≡ Some (held_id v r)) (sym e) (some_is (held (seen_by s a.transaction) r) (subst (λ v. IsSome (held v r)) e h))

pub eight : (s : State) (pass : ℕ) (a : IsAlone s pass) → length a.transaction.registers ≡ 8
eight s pass a = (a.sound.transactions pass a.transaction (its_transaction s pass a)).eight

-- ---- the calls

-- what a read comes to
pub record Reads (r slot into : ℕ) (s z : State) (pass : ℕ) (reply : Reply) : Type 0 where
  pub told : reply ≡ Id (slot_of (at (seen_of s pass) (held_id (seen_of s pass) r)) slot)
  pub loads : Loads into (nonzero (slot_of (at (seen_of s pass) (held_id (seen_of s pass) r)) slot)) (seen_of s pass) (seen_of z pass)
  pub alone : IsAlone z pass
  pub free : free_ids z ≡ free_ids s

pub reads : (s z : State) (pass r slot into : ℕ) (reply : Reply) → IsAlone s pass → IsSome (held (seen_of s pass) r) → into < 8 → step s pass (Read r slot into) ≡ (reply, z) → Reads r slot into s z pass reply
unfolding alone_after
reads s z pass r slot into reply a h within e =
    let t = a.transaction in
    let id = held_id (seen_of s pass) r in
    let v = seen_slot s t id slot in
    let u = with_register into (nonzero v) (with_shared id t) in
    let y = with_transaction s pass u in
    let its : transaction_of s pass ≡ Some t = its_transaction s pass a in
    let done : step s pass (Read r slot into) ≡ (Id v, y) = step-read s pass t r slot into id its a.running (its_register s pass r a h) (nobody s pass a (λ w. is_among id w.owned)) in
    let both : (reply, z) ≡ (Id v, y) = sym e ∙ done in
    let replied : reply ≡ Id v = same_reply (reply, z) (Id v, y) both in
    let left : y ≡ z = sym (same_state (reply, z) (Id v, y) both) in
    let alone : IsAlone y pass = alone_after s y pass a u refl refl (sound_after s y pass (Read r slot into) (Id v) a.sound done) in
    let now : seen_of s pass ≡ seen_by s t = seen_is s pass t its in
    let later : seen_of y pass ≡ seen_by y u = seen_is y pass u (its_transaction y pass alone) in
    let short : into < length t.registers = subst (λ n. into < n) (sym (eight s pass a)) within in
    let loaded : Loads into (nonzero v) (seen_by s t) (seen_by y u) = record { slots = refl; graph = refl; here = get_or-set_same t.registers into (nonzero v) None short; others = λ q n. get_or-set_other t.registers into q (nonzero v) None n } in
    let read_as : (w : Seen) → seen_of s pass ≡ w → slot_of (at w id) slot ≡ slot_of (at (seen_of s pass) id) slot = λ w f. ap (λ x. slot_of (at x id) slot) (sym f) in
    let told : v ≡ slot_of (at (seen_of s pass) id) slot = read_as (seen_by s t) now in
    record {
      told = replied ∙ ap (λ n. Id n) told;
      loads = subst (λ x. Loads into (nonzero x) (seen_of s pass) (seen_of z pass)) told (subst (λ x. Loads into (nonzero v) (seen_of s pass) (seen_of x pass)) left (subst (λ x. Loads into (nonzero v) x (seen_of y pass)) (sym now) (subst (λ x. Loads into (nonzero v) (seen_by s t) x) (sym later) loaded)));
      alone = subst (λ x. IsAlone x pass) left alone;
      free = ap free_ids (sym left);
    }

-- what a look at a payload comes to
pub record Looks (r : ℕ) (s z : State) (pass : ℕ) (reply : Reply) : Type 0 where
  pub told : reply ≡ Pay (payload_of (at (seen_of s pass) (held_id (seen_of s pass) r)))
  pub same : seen_of z pass ≡ seen_of s pass
  pub alone : IsAlone z pass
  pub free : free_ids z ≡ free_ids s

pub looks : (s z : State) (pass r : ℕ) (reply : Reply) → IsAlone s pass → IsSome (held (seen_of s pass) r) → step s pass (GetPay r) ≡ (reply, z) → Looks r s z pass reply
unfolding alone_after
looks s z pass r reply a h e =
    let t = a.transaction in
    let id = held_id (seen_of s pass) r in
    let v = seen_payload s t id in
    let u = with_shared id t in
    let y = with_transaction s pass u in
    let its : transaction_of s pass ≡ Some t = its_transaction s pass a in
    let done : step s pass (GetPay r) ≡ (Pay v, y) = step-get s pass t r id its a.running (its_register s pass r a h) (nobody s pass a (λ w. is_among id w.owned)) in
    let both : (reply, z) ≡ (Pay v, y) = sym e ∙ done in
    let replied : reply ≡ Pay v = same_reply (reply, z) (Pay v, y) both in
    let left : y ≡ z = sym (same_state (reply, z) (Pay v, y) both) in
    let alone : IsAlone y pass = alone_after s y pass a u refl refl (sound_after s y pass (GetPay r) (Pay v) a.sound done) in
    let now : seen_of s pass ≡ seen_by s t = seen_is s pass t its in
    let later : seen_of y pass ≡ seen_by y u = seen_is y pass u (its_transaction y pass alone) in
    let told : v ≡ payload_of (at (seen_of s pass) id) = ap (λ x. payload_of (at x id)) (sym now) in
    record {
      told = replied ∙ ap (λ n. Pay n) told;
      same = subst (λ x. seen_of x pass ≡ seen_of s pass) left (later ∙ sym now);
      alone = subst (λ x. IsAlone x pass) left alone;
      free = ap free_ids (sym left);
    }

-- what a write comes to
pub record WritesOnce (id : ℕ) (place : Place) (value : ℕ) (s z : State) (pass : ℕ) (reply : Reply) : Type 0 where
  pub told : reply ≡ Done
  pub writes : Writes id place value (seen_of s pass) (seen_of z pass)
  pub alone : IsAlone z pass
  pub free : free_ids z ≡ free_ids s

written : (s z : State) (pass id value : ℕ) (place : Place) (call : TransactionCall) (reply : Reply) → (a : IsAlone s pass)
    → step s pass call ≡ (Done, with_transaction s pass (with_write id place value (with_owned id a.transaction))) → step s pass call ≡ (reply, z) → WritesOnce id place value s z pass reply
unfolding alone_after
written s z pass id value place call reply a done e =
    let t = a.transaction in
    let u = with_write id place value (with_owned id t) in
    let y = with_transaction s pass u in
    let w : Write = record { id = id; place = place; value = value } in
    let its : transaction_of s pass ≡ Some t = its_transaction s pass a in
    let both : (reply, z) ≡ (Done, y) = sym e ∙ done in
    let left : y ≡ z = sym (same_state (reply, z) (Done, y) both) in
    let alone : IsAlone y pass = alone_after s y pass a u refl refl (sound_after s y pass call Done a.sound done) in
    let now : seen_of s pass ≡ seen_by s t = seen_is s pass t its in
    let later : seen_of y pass ≡ seen_by y u = seen_is y pass u (its_transaction y pass alone) in
    let wrote : Writes id place value (seen_by s t) (seen_by y u) = record { slots = refl; graph = fold-append (after_write s.slots) s.committed t.writes (w ∷ []); registers = refl } in
    record {
      told = same_reply (reply, z) (Done, y) both;
      writes = subst (λ x. Writes id place value (seen_of s pass) (seen_of x pass)) left (subst (λ x. Writes id place value x (seen_of y pass)) (sym now) (subst (λ x. Writes id place value (seen_by s t) x) (sym later) wrote));
      alone = subst (λ x. IsAlone x pass) left alone;
      free = ap free_ids (sym left);
    }

pub sets : (s z : State) (pass r value : ℕ) (reply : Reply) → IsAlone s pass → IsSome (held (seen_of s pass) r) → step s pass (SetPay r value) ≡ (reply, z) → WritesOnce (held_id (seen_of s pass) r) Payload value s z pass reply
sets s z pass r value reply a h e =
    let id = held_id (seen_of s pass) r in
    written s z pass id value Payload (SetPay r value) reply a (step-set s pass a.transaction r value id (its_transaction s pass a) a.running (its_register s pass r a h) (nobody s pass a (λ w. is_among id w.owned || is_among id w.shared))) e

-- the source of a store isn't empty, and gives its id
source_full : (s : State) (pass : ℕ) (a : IsAlone s pass) (x : Option ℕ) → IfSome x (λ f. IsSome (held (seen_of s pass) f)) → option_map_or (if_empty a.transaction) x None ≡ None
source_full s pass a None h = refl
source_full s pass a (Some f) h = ap (λ o. option_map_or (λ _. None) o (Some (EmptyRegister f))) (its_register s pass f a h)

source_id : (s : State) (pass : ℕ) (a : IsAlone s pass) (x : Option ℕ) → option_map_or (register_id a.transaction) x 0 ≡ option_map_or (held_id (seen_of s pass)) x 0
source_id s pass a None = refl
source_id s pass a (Some f) = ap (λ v. held_id v f) (sym (seen_is s pass a.transaction (its_transaction s pass a)))

pub stores : (s z : State) (pass r slot : ℕ) (x : Option ℕ) (reply : Reply) → IsAlone s pass → IsSome (held (seen_of s pass) r) → IfSome x (λ f. IsSome (held (seen_of s pass) f)) → step s pass (Store r slot x) ≡ (reply, z)
    → WritesOnce (held_id (seen_of s pass) r) (Slot slot) (option_map_or (held_id (seen_of s pass)) x 0) s z pass reply
stores s z pass r slot x reply a h k e =
    let id = held_id (seen_of s pass) r in
    subst (λ v. WritesOnce id (Slot slot) v s z pass reply) (source_id s pass a x)
    (written s z pass id (option_map_or (register_id a.transaction) x 0) (Slot slot) (Store r slot x) reply a (step-store s pass a.transaction r slot id x (its_transaction s pass a) a.running (its_register s pass r a h) (source_full s pass a x k) (nobody s pass a (λ w. is_among id w.owned || is_among id w.shared))) e)

-- ---- a new object

free_from : (stored : List ℕ) (i n k : ℕ) → least_free stored i n ≡ Some k → i ≤ k
free_from stored i zero k e = absurd (cc)
free_from stored i (suc n) k e =
    elim (is_stored stored i) as (λ b. (if b then least_free stored (i + 1) n else Some i) ≡ Some k → i ≤ k) [
      | true ↦ λ f. (let h : i + 1 ≤ k = free_from stored (i + 1) n k f in omega (arith, h))
      | false ↦ λ f. (let same : i ≡ k = cc in omega (arith, same))
    ] e

both_false : (a b : Bool) → (a ≡ true → ⊥) → (b ≡ true → ⊥) → (a || b) ≡ false
both_false true b h k = absurd (h refl)
both_false false true h k = absurd (k refl)
both_false false false h k = refl

-- a free id has no object in what the client sees
absent : (s : State) (pass id : ℕ) (a : IsAlone s pass) → is_stored s.stored id ≡ false → has_object (own_graph s a.transaction) id ≡ false
absent s pass id a free =
    let t = a.transaction in
    has_object-after_writes s.slots s.committed t.writes id
    ∙ both_false (has_object s.committed id) (has_made t id)
    (λ m. contrary (is_stored s.stored id) (a.sound.committed_stored id m) free)
    (λ m. contrary (is_stored s.stored id) (there_stored s t id a.sound (a.sound.transactions pass t (its_transaction s pass a)) (inl m)) free)

-- what a make comes to: no id is free, or the object is made
pub record MakesOne (into : ℕ) (s z : State) (pass : ℕ) (reply : Reply) : Type 0 where
  pub id : ℕ
  pub told : reply ≡ Id id
  pub makes_it : Makes into id (seen_of s pass) (seen_of z pass)
  pub alone : IsAlone z pass
  pub free : suc (free_ids z) ≡ free_ids s

pub record MakesNone (s z : State) (reply : Reply) : Type 0 where
  pub told : reply ≡ Full
  pub same : z ≡ s
  pub none : free_ids s ≡ 0

pub made_or_full : (s z : State) (pass into : ℕ) (reply : Reply) → IsAlone s pass → into < 8 → step s pass (Make into) ≡ (reply, z) → MakesNone s z reply ⊎ MakesOne into s z pass reply
unfolding alone_after
made_or_full s z pass into reply a within e = by (free_id s) refl
  where
    by : (o : Option ℕ) → free_id s ≡ o → MakesNone s z reply ⊎ MakesOne into s z pass reply
    by None f =
        let full : step s pass (Make into) ≡ (Full, s) = step-make_full s pass a.transaction into (its_transaction s pass a) a.running f in
        let both : (reply, z) ≡ (Full, s) = sym e ∙ full in
        inl (record { told = same_reply (reply, z) (Full, s) both; same = same_state (reply, z) (Full, s) both; none = free_none s.stored 1 s.ids f })
    by (Some id) f =
        let t = a.transaction in
        let u = with_register into (Some id) (with_write id Whole 0 (with_owned id t)) in
        let y = made s pass t into id in
        let w : Write = record { id = id; place = Whole; value = 0 } in
        let its : transaction_of s pass ≡ Some t = its_transaction s pass a in
        let done : step s pass (Make into) ≡ (Id id, y) = step-make s pass t into id its a.running f in
        let both : (reply, z) ≡ (Id id, y) = sym e ∙ done in
        let left : y ≡ z = sym (same_state (reply, z) (Id id, y) both) in
        let alone : IsAlone y pass = alone_after s y pass a u refl refl (sound_after s y pass (Make into) (Id id) a.sound done) in
        let now : seen_of s pass ≡ seen_by s t = seen_is s pass t its in
        let later : seen_of y pass ≡ seen_by y u = seen_is y pass u (its_transaction y pass alone) in
        let short : into < length t.registers = subst (λ n. into < n) (sym (eight s pass a)) within in
        let least : 1 ≤ id = free_from s.stored 1 s.ids id f in
        let made_it : Makes into id (seen_by s t) (seen_by y u) = record {
          slots = refl;
          named = λ z. absurd (omega (arith, z, least));
          free = absent s pass id a (free_unstored s.stored 1 s.ids id f);
          graph = fold-append (after_write s.slots) s.committed t.writes (w ∷ []);
          here = get_or-set_same t.registers into (Some id) None short;
          others = λ q n. get_or-set_other t.registers into q (Some id) None n;
        } in
        inr (record {
          id = id;
          told = same_reply (reply, z) (Id id, y) both;
          makes_it = subst (λ x. Makes into id (seen_of s pass) (seen_of x pass)) left (subst (λ x. Makes into id x (seen_of y pass)) (sym now) (subst (λ x. Makes into id (seen_by s t) x) (sym later) made_it));
          alone = subst (λ x. IsAlone x pass) left alone;
          free = ap (λ x. suc (free_ids x)) (sym left) ∙ free_made s.stored 1 s.ids id f;
        })
