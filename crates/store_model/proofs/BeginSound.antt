-- Where a client begins, all that a journal keeps is kept.
use Rattle.std.proofs.Common.{◌≡◌, ◌≢◌, ℕ, zero, suc, [], true, false, refl, sym, ap, ◌∙◌, subst, replicate, arith, Some, None, ◌⊎◌, inl, inr, ⊎_elim, eq-eqb, ne_eqb}
use Rattle.std.specs.Prelude.{◌==◌, Contains, unwrap_or}
use Rattle.std.specs.Ordering.{nat_cmp}
use Rattle.std.specs.BTreeMap.{insert_entry}
use Rattle.std.proofs.lemmas.Bool.{cond-true, cond-false}
use Rattle.plain_model.specs.declared.write.Place.TheVariants.{Whole}
use Rattle.plain_model.specs.declared.write.Write.{Write}
use Rattle.plain_model.specs.Graphs.{root}
use Rattle.plain_model.specs.ActiveTransaction.{ActiveTransaction}
use Rattle.plain_model.specs.Machine.{transaction_of, new_transaction}
use Rattle.plain_model.specs.History.{holds}
use Rattle.store_model.specs.Core.{Core, names, IsActive, slot_in, new_target, touches, IsMadeFirst}
use Rattle.store_model.specs.Sound.{Has, in_register, by_lock, by_name, IsHeld, as_root, by_pass, Kept, start, step, KeptByOthers, IsKnown, root_itself, pointed, named_id, IsSound}
use Rattle.store_model.specs.Steps.{moment_begun, after_begin}
use Rattle.store_model.proofs.StateLaws.{state-begun}
use Rattle.store_model.proofs.StepLaws.{Contains-cons, Kept-least, names-append}
use Rattle.store_model.proofs.ActiveLaws.{active-at}
use Rattle.store_model.proofs.InsertLaws.{inserts, insert-cases, insert-old}
use Rattle.store_model.proofs.MomentLaws.{current-begun}

no_write : {X : Type 0} (w : Write) → Contains [] w → X
no_write w m = let l = m.1 in absurd (omega (arith, l))

no_ids : (n : ℕ) (id : ℕ) → Contains (replicate n None) (Some id) → ⊥
no_ids zero id h = let l = h.1 in absurd (omega (arith, l))
no_ids (suc n) id h = ⊎_elim (λ q. let no : None ≡ Some id = q in cc) (λ q. no_ids n id q) (Contains-cons None (replicate n None) (Some id) h)

-- the registers of a transaction that begins have the root alone
new-registers : (id : ℕ) → Contains new_transaction.registers (Some id) → id ≡ root
new-registers id h = ⊎_elim (λ q. ap (λ o. unwrap_or o id) (sym q)) (λ q. absurd (no_ids 7 id q)) (Contains-cons (Some root) (replicate 7 None) (Some id) h)

module _ (c : Core) (s : IsSound c) (pass : ℕ) (a : transaction_of c.moment.state pass ≡ None) where
  -- a client that isn't active names nothing
  unnamed_yet : (id : ℕ) → names c.refs pass id ≡ true → ⊥
  unnamed_yet id h = ⊎_elim
      (λ q. let no : false ≡ true = q in cc)
      (λ q.
      let e = s.refs_active q.0 q.1 in
      let found : transaction_of c.moment.state pass ≡ Some e.0 = subst (λ n. transaction_of c.moment.state n ≡ Some e.0) q.3 (active-at c.moment.state.active s.state.passes (q.0.pass, e.0) e.1) in
      let no : None ≡ Some e.0 = sym a ∙ found in cc)
      (names-append [] c.refs pass id h)

  begun-kept_by : (A B : ℕ × ActiveTransaction → Type 0) → ((e : ℕ × ActiveTransaction) → B e → A e ⊎ ((pass, new_transaction) ≡ e)) → {x : ℕ} → Kept c.refs B c.moment.state.committed x → Kept c.refs A c.moment.state.committed x
  begun-kept_by A B cases h = Kept-least c.refs B c.moment.state.committed (λ x. Kept c.refs A c.moment.state.committed x) starts (λ id slot k n. step id slot k n) h
    where
      had : (e : ℕ × ActiveTransaction) → A e → (id : ℕ) → Has c.refs e id → Kept c.refs A c.moment.state.committed id
      had e m id q = start id (by_pass e m q)

      own : (id : ℕ) → Has c.refs (pass, new_transaction) id → Kept c.refs A c.moment.state.committed id
      own id (in_register q) = start id (as_root (new-registers id q))
      own id (by_lock q) = let no : false ≡ true = q in cc
      own id (by_name q) = absurd (unnamed_yet id q)

      starts : (id : ℕ) → IsHeld c.refs B id → Kept c.refs A c.moment.state.committed id
      starts id (as_root e) = start id (as_root e)
      starts id (by_pass e m q) = ⊎_elim (λ o. had e o id q) (λ f. own id (subst (λ e. Has c.refs e id) (sym f) q)) (cases e m)

  pub begin-sound : IsSound (after_begin c pass)
  begin-sound =
      let active = c.moment.state.active in
      let next = insert_entry nat_cmp active pass new_transaction in
      let r = inserts pass new_transaction active s.state.passes a in
      let cases = insert-cases active next pass new_transaction r in
      let undone : ℕ → ℕ = (moment_begun c.moment pass).undone in
      let by_entry : (P : ℕ × ActiveTransaction → Type 0) → ((e : ℕ × ActiveTransaction) → IsActive c e → e.0 ≢ pass → P e) → P (pass, new_transaction) → (e : ℕ × ActiveTransaction) → Contains next e → P e =
      λ P f p e m. ⊎_elim (λ o. f e o.0 o.1) (λ q. subst P q p) (cases e m) in
      let others : (p : ℕ) (x : ℕ) → KeptByOthers (after_begin c pass) p x → KeptByOthers c p x = λ p x h.
      begun-kept_by (λ e. Contains active e × (e.0 ≢ p)) (λ e. Contains next e × (e.0 ≢ p)) (λ e m. ⊎_elim (λ o. inl (o.0, m.1)) (λ q. inr q) (cases e m.0)) h in
      record {
        consistent = s.consistent;
        zero = s.zero;
        queue_once = s.queue_once;
        round_once = s.round_once;
        queued = s.queued;
        round_live = s.round_live;
        state = state-begun c.moment.state pass s.state a;
        kept = λ x h.
            (let now = s.kept x (begun-kept_by (λ e. Contains active e) (λ e. Contains next e) (λ e m. ⊎_elim (λ o. inl o.0) (λ q. inr q) (cases e m)) h) in
            record { live = now.live; contents = current-begun c.moment s.state pass a x ∙ now.contents });
        stored = s.stored;
        none_undone = by_entry (λ e. e.1.aborting ≡ false → undone e.0 ≡ 0)
            (λ e m n f. cond-false (e.0 == pass) 0 (c.moment.undone e.0) (ne_eqb e.0 pass n) ∙ s.none_undone e m f)
            (λ f. cond-true (pass == pass) 0 (c.moment.undone pass) (eq-eqb pass pass refl));
        made_first = by_entry (λ e. IsMadeFirst e.1.writes) (λ e m n. s.made_first e m) tt;
        made_alone = by_entry (λ e. (w : Write) → Contains e.1.writes w → w.place ≡ Whole → KeptByOthers (after_begin c pass) e.0 w.id → ⊥) (λ e m n w h q x. s.made_alone e m w h q (others e.0 w.id x)) (λ w h. no_write w h);
        new_named = by_entry (λ e. (w : Write) → Contains e.1.writes w → new_target w ≢ 0 → names c.refs e.0 (new_target w) ≡ true) (λ e m n. s.new_named e m) (λ w h. no_write w h);
        old_named = by_entry (λ e. (w : Write) → Contains e.1.writes w → (id slot : ℕ) → touches id slot w ≡ true → slot_in c.moment.state.committed id slot ≢ 0 → names c.refs e.0 (slot_in c.moment.state.committed id slot) ≡ true)
            (λ e m n. s.old_named e m) (λ w h. no_write w h);
        made_named = by_entry (λ e. (w : Write) → Contains e.1.writes w → w.place ≡ Whole → names c.refs e.0 w.id ≡ true) (λ e m n. s.made_named e m) (λ w h. no_write w h);
        refs_active = λ f m. (let h = s.refs_active f m in (h.0, insert-old active next pass new_transaction r (f.pass, h.0) h.1));
        registers = by_entry (λ e. (id : ℕ) → Contains e.1.registers (Some id) → IsKnown (after_begin c pass) e id) (λ e m n id h. known e id (s.registers e m id h)) (λ id h. root_itself (new-registers id h));
        copies = s.copies;
        copied_listed = s.copied_listed;
        condemned = record {
          live = s.condemned.live;
          not_root = s.condemned.not_root;
          not_named = s.condemned.not_named;
          within = s.condemned.within;
          not_locked = λ id d. by_entry (λ e. holds id e.1 ≡ false) (λ e m n. s.condemned.not_locked id d e m) refl;
        };
        condemned_listed = s.condemned_listed;
      }
    where
      known : (e : ℕ × ActiveTransaction) (id : ℕ) → IsKnown c e id → IsKnown (after_begin c pass) e id
      known e id (root_itself h) = root_itself h
      known e id (pointed v k h l p) = pointed v k h l p
      known e id (named_id h) = named_id h
