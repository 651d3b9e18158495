-- A shared lock that is given back keeps all that a journal keeps: one citation for the event.
use Rattle.std.proofs.Common.{◌≡◌, ◌≢◌, ℕ, List, ◌∷◌, ◌++◌, true, false, refl, sym, ap, ◌∙◌, subst, Some, None, ◌⊎◌, inl, inr, ⊎_elim}
use Rattle.std.specs.Prelude.{Contains}
use Rattle.std.specs.Ordering.{nat_cmp}
use Rattle.std.specs.BTreeMap.{insert_entry}
use Rattle.std.proofs.lemmas.Bool.{cases_eq, false_from_ne_true}
use Rattle.std.proofs.lemmas.List.Elements.{Contains-append_cases}
use Rattle.plain_model.specs.declared.write.Place.TheVariants.{Whole}
use Rattle.plain_model.specs.declared.write.Write.{Write}
use Rattle.plain_model.specs.Graphs.{root}
use Rattle.plain_model.specs.ActiveTransaction.{ActiveTransaction}
use Rattle.plain_model.specs.Machine.{transaction_of}
use Rattle.plain_model.specs.History.{holds}
use Rattle.plain_laws.proofs.Transactions.{holds-left}
use Rattle.plain_laws.proofs.Legal.{sound-release}
use Rattle.store_model.specs.Core.{Ref, Core, IsActive, names, is_named, slot_in, new_target, touches, IsMadeFirst}
use Rattle.store_model.specs.Sound.{in_register, by_lock, by_name, by_pass, start, Kept, IsKept, KeptByOthers, IsKnown, root_itself, pointed, named_id, condemned_of, IsSound}
use Rattle.store_model.specs.Steps.{Replaces, after_transaction, release_by}
use Rattle.store_model.proofs.StepLaws.{replaces, active-cases, other-cases, was_active, kept-replaced, names-append}
use Rattle.store_model.proofs.ReadSound.{active-still, active-new}
use Rattle.store_model.proofs.StoreSound.{names-more, names-new, is_named-more, is_named-append}
use Rattle.store_model.proofs.MomentLaws.{current-unwritten}
use Rattle.store_model.proofs.CondemnedLaws.{register-safe}

module _ (c : Core) (s : IsSound c) (pass : ℕ) (t : ActiveTransaction) (a : transaction_of c.moment.state pass ≡ Some t) (y : ℕ) (more : List Ref)
    (own : (r : Ref) → Contains more r → r.pass ≡ pass) (only : (r : Ref) → Contains more r → Contains t.registers (Some r.target)) (named : (id : ℕ) → Contains t.registers (Some id) → id ≢ root → names more pass id ≡ true) where
  release-replaces : Replaces c.moment.state.active (insert_entry nat_cmp c.moment.state.active pass (release_by t y)) pass t (release_by t y)
  release-replaces = replaces pass t (release_by t y) c.moment.state.active s.state.passes a

  -- the new references name what is in this client's registers
  release-kept_by : (A B : ℕ × ActiveTransaction → Type 0) → ((e : ℕ × ActiveTransaction) → A e → (id : ℕ) → names (c.refs ++ more) e.0 id ≡ true → (names c.refs e.0 id ≡ true) ⊎ (A (pass, t) × ((r : Ref) × Contains more r × (r.target ≡ id))))
      → ((e : ℕ × ActiveTransaction) → B e → A e ⊎ (((pass, release_by t y) ≡ e) × A (pass, t)))
      → {x : ℕ} → Kept (c.refs ++ more) B c.moment.state.committed x → Kept c.refs A c.moment.state.committed x
  release-kept_by A B split cases h =
      kept-replaced c.refs (c.refs ++ more) A B c.moment.state.committed pass t (release_by t y) cases
      (λ e n id q. ⊎_elim
      (λ f. start id (by_pass e n (by_name f)))
      (λ f. start id (by_pass (pass, t) f.0 (in_register (subst (λ v. Contains t.registers (Some v)) f.1.2 (only f.1.0 f.1.1)))))
      (split e n id q))
      (λ m id q. start id (by_pass (pass, t) m (in_register q)))
      (λ m id q. start id (by_pass (pass, t) m (by_lock (holds-left id y t q))))
      h

  release-kept : {x : ℕ} → IsKept (after_transaction c pass (release_by t y) c.cells (c.refs ++ more)) x → IsKept c x
  release-kept h =
      let u = release_by t y in
      let next = insert_entry nat_cmp c.moment.state.active pass u in
      let m = was_active c.moment.state.active next pass t u release-replaces in
      release-kept_by (λ e. Contains c.moment.state.active e) (λ e. Contains next e)
      (λ e n id q. ⊎_elim (λ f. inl f) (λ f. inr (m, (f.0, f.1, f.2))) (names-append c.refs more e.0 id q))
      (active-cases c.moment.state.active next pass t u release-replaces) h

  release-others : (p : ℕ) {x : ℕ} → KeptByOthers (after_transaction c pass (release_by t y) c.cells (c.refs ++ more)) p x → KeptByOthers c p x
  release-others p h =
      let u = release_by t y in
      let next = insert_entry nat_cmp c.moment.state.active pass u in
      let m = was_active c.moment.state.active next pass t u release-replaces in
      release-kept_by (λ e. Contains c.moment.state.active e × (e.0 ≢ p)) (λ e. Contains next e × (e.0 ≢ p))
      (λ e n id q. ⊎_elim (λ f. inl f) (λ f. inr ((m, λ g. n.1 (sym (sym (own f.0 f.1) ∙ f.3) ∙ g)), (f.0, f.1, f.2))) (names-append c.refs more e.0 id q))
      (other-cases c.moment.state.active next pass t u release-replaces p) h

  -- what a client may know it may know still, where its locks stay
  known-still : (e : ℕ × ActiveTransaction) (id : ℕ) → IsKnown c e id → IsKnown (after_transaction c pass (release_by t y) c.cells (c.refs ++ more)) e id
  known-still e id (root_itself h) = root_itself h
  known-still e id (pointed v k h l p) = pointed v k h l p
  known-still e id (named_id h) = named_id (names-more c.refs more e.0 id h)

  pub release-sound : IsSound (after_transaction c pass (release_by t y) c.cells (c.refs ++ more))
  release-sound =
      let u = release_by t y in
      let active = c.moment.state.active in
      let next = insert_entry nat_cmp active pass u in
      let refs = c.refs ++ more in
      let r = release-replaces in
      let was = was_active active next pass t u r in
      let cases = active-cases active next pass t u r in
      record {
        consistent = s.consistent;
        zero = λ id l n z. ⊎_elim (λ q. inl q) (λ q. inr (⊎_elim (λ k. inl k) (λ k. inr (is_named-more c.refs more id k)) q)) (s.zero id l n z);
        queue_once = s.queue_once;
        round_once = s.round_once;
        queued = s.queued;
        round_live = s.round_live;
        state = sound-release c.moment.state pass t y s.state a;
        kept = λ x h. (let now = s.kept x (release-kept h) in record { live = now.live; contents = current-unwritten c.moment s.state pass t a u refl x ∙ now.contents });
        stored = s.stored;
        none_undone = λ e m. ⊎_elim (λ o. s.none_undone e o)
            (λ q. subst (λ (e : ℕ × ActiveTransaction). e.1.aborting ≡ false → c.moment.undone e.0 ≡ 0) q.0 (λ f. s.none_undone (pass, t) was f)) (cases e m);
        made_first = λ e m. ⊎_elim (λ o. s.made_first e o) (λ q. subst (λ (e : ℕ × ActiveTransaction). IsMadeFirst e.1.writes) q.0 (s.made_first (pass, t) was)) (cases e m);
        made_alone = λ e m w n p k. ⊎_elim
            (λ o. s.made_alone e o w n p (release-others e.0 k))
            (λ q. s.made_alone (pass, t) was w (subst (λ (e : ℕ × ActiveTransaction). Contains e.1.writes w) (sym q.0) n) p (subst (λ x. KeptByOthers c x w.id) (sym (ap (λ (e : ℕ × ActiveTransaction). e.0) q.0)) (release-others e.0 k)))
            (cases e m);
        new_named = λ e m. ⊎_elim (λ o w n z. names-more c.refs more e.0 (new_target w) (s.new_named e o w n z))
            (λ q. subst (λ (e : ℕ × ActiveTransaction). (w : Write) → Contains e.1.writes w → new_target w ≢ 0 → names refs e.0 (new_target w) ≡ true) q.0 (λ w n z. names-more c.refs more pass (new_target w) (s.new_named (pass, t) was w n z))) (cases e m);
        old_named = λ e m. ⊎_elim (λ o w n id slot h z. names-more c.refs more e.0 (slot_in c.moment.state.committed id slot) (s.old_named e o w n id slot h z))
            (λ q. subst (λ (e : ℕ × ActiveTransaction). (w : Write) → Contains e.1.writes w → (id slot : ℕ) → touches id slot w ≡ true → slot_in c.moment.state.committed id slot ≢ 0 → names refs e.0 (slot_in c.moment.state.committed id slot) ≡ true) q.0
            (λ w n id slot h z. names-more c.refs more pass (slot_in c.moment.state.committed id slot) (s.old_named (pass, t) was w n id slot h z))) (cases e m);
        made_named = λ e m. ⊎_elim (λ o w n p. names-more c.refs more e.0 w.id (s.made_named e o w n p))
            (λ q. subst (λ (e : ℕ × ActiveTransaction). (w : Write) → Contains e.1.writes w → w.place ≡ Whole → names refs e.0 w.id ≡ true) q.0 (λ w n p. names-more c.refs more pass w.id (s.made_named (pass, t) was w n p))) (cases e m);
        refs_active = λ f m. ⊎_elim
            (λ k. (let h = s.refs_active f k in ⊎_elim
            (λ o. (h.0, o))
            (λ q. (u, subst (λ n. Contains next (n, u)) (ap (λ (e : ℕ × ActiveTransaction). e.0) q) (active-new active next pass t u r)))
            (active-still active next pass t u r (f.pass, h.0) h.1)))
            (λ k. (u, subst (λ n. Contains next (n, u)) (sym (own f k)) (active-new active next pass t u r)))
            (Contains-append_cases c.refs more f m);
        registers = λ e m id h. ⊎_elim
            (λ o. known-still e id (s.registers e o id h))
            (λ q. subst (λ e. IsKnown (after_transaction c pass u c.cells refs) e id) q.0 (⊎_elim
            (λ z. root_itself z)
            (λ z. named_id (names-new c.refs more pass id (named id (subst (λ (e : ℕ × ActiveTransaction). Contains e.1.registers (Some id)) (sym q.0) h) z)))
            (cases_eq id root)))
            (cases e m);
        copies = s.copies;
        copied_listed = s.copied_listed;
        condemned = record {
          live = s.condemned.live;
          not_root = s.condemned.not_root;
          not_named = λ id d. false_from_ne_true (is_named refs id) (λ h. ⊎_elim
              (λ g. let no : true ≡ false = sym g ∙ s.condemned.not_named id d in cc)
              (λ g. register-safe c s (Contains (condemned_of c)) s.condemned (pass, t) was id (subst (λ v. Contains t.registers (Some v)) g.2 (only g.0 g.1)) d)
              (is_named-append c.refs more id h));
          within = s.condemned.within;
          not_locked = λ id d e m. ⊎_elim
              (λ o. s.condemned.not_locked id d e o)
              (λ q. subst (λ (e : ℕ × ActiveTransaction). holds id e.1 ≡ false) q.0 (false_from_ne_true (holds id u) (λ h. let no : true ≡ false = sym (holds-left id y t h) ∙ s.condemned.not_locked id d (pass, t) was in cc)))
              (cases e m);
        };
        condemned_listed = s.condemned_listed;
      }
