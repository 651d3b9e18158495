-- What a journal keeps, where one client's transaction changes and no reference is added.
use Rattle.std.proofs.Common.{◌≡◌, ◌≢◌, ℕ, List, true, false, refl, sym, ap, ◌∙◌, subst, Option, Some, None, ◌⊎◌, inl, inr, ⊎_elim}
use Rattle.std.specs.Prelude.{◌==◌, Contains, IfSome}
use Rattle.std.proofs.lemmas.Bool.{cases_eq, false_from_ne_true, and_parts}
use Rattle.plain_model.specs.declared.write.Place.TheVariants.{Payload, Whole}
use Rattle.plain_model.specs.declared.write.Write.{Write}
use Rattle.plain_model.specs.ActiveTransaction.{ActiveTransaction}
use Rattle.plain_model.specs.History.{holds}
use Rattle.plain_laws.specs.Sound.{IsSoundState}
use Rattle.cell_model.specs.Cells.{Pointer, Cell, cell_at, pointer_at, is_live, relinked}
use Rattle.store_model.specs.Core.{Copy, Round, Core, names, IsActive, slot_in, slot_value, new_target, has_slot, touches, IsMadeFirst}
use Rattle.store_model.specs.Sound.{in_register, by_lock, by_name, by_pass, Kept, start, IsKept, KeptByOthers, IsKnown, root_itself, pointed, named_id, condemned_of, in_round, copy_of, IsSound, IsCurrentCell}
use Rattle.cell_model.specs.Consistent.{AreConsistent}
use Rattle.store_model.specs.Steps.{Replaces, IsTouched}
use Rattle.cell_model.proofs.EditLaws.{live-there}
use Rattle.cell_model.proofs.ConsistentLaws.{untouched-cell}
use Rattle.store_model.proofs.DeletionLaws.{names-is_named}
use Rattle.store_model.proofs.CondemnedLaws.{register-safe}
use Rattle.store_model.proofs.StepLaws.{was_active, active-cases, other-cases, kept-replaced}
use Rattle.store_model.proofs.ReadSound.{active-still, active-new}
use Rattle.store_model.proofs.StoreSound.{apart-cases}

-- copies stay current where the changed cells are marked
pub relinked-copies : (c : Core) → IsSound c → (u k : ℕ) (p : Pointer) (o : Option Round) → o ≡ c.round → IsTouched o u → ((pointer_at c.cells u k).target ≢ 0 → IsTouched o (pointer_at c.cells u k).target) → (p.target ≢ 0 → IsTouched o p.target)
    → IfSome o (λ r. r.judged ≡ false → (id : ℕ) (copy : Copy) → Contains r.copies (id, copy) → Contains r.touched id ⊎ (copy ≡ copy_of (cell_at (relinked c.cells u k p) id)))
relinked-copies c s u k p None q a b d = tt
relinked-copies c s u k p (Some r) q a b d = λ j id copy m.
    let old = (pointer_at c.cells u k).target in
    let listed : Contains r.list id = subst (λ o. IfSome o (λ r. r.judged ≡ false → (id : ℕ) (copy : Copy) → Contains r.copies (id, copy) → Contains r.list id)) (sym q) s.copied_listed j id copy m in
    let nonzero : id ≢ 0 = live-there c.cells id s.consistent.exact.none (s.round_live id (subst (λ o. Contains (in_round (record c { round = o })) id) q listed)).0 in
    let current = subst (λ o. IfSome o (λ r. r.judged ≡ false → (id : ℕ) (copy : Copy) → Contains r.copies (id, copy) → Contains r.touched id ⊎ (copy ≡ copy_of (cell_at c.cells id)))) (sym q) s.copies j id copy m in
    let marked : (x : ℕ) → (x ≢ 0 → IsTouched (Some r) x) → id ≡ x → Contains r.touched id = λ x f e. subst (λ y. Contains r.touched y) (sym e) (f (λ z. nonzero (e ∙ z)) j copy (subst (λ y. Contains r.copies (y, copy)) e m)) in
    ⊎_elim
    (λ e. inl (marked u (λ _. a) e))
    (λ n. ⊎_elim
    (λ e. inl (marked old b e))
    (λ n2. ⊎_elim
    (λ e. inl (marked p.target d e))
    (λ n3. ⊎_elim (λ t. inl t) (λ t. inr (t ∙ ap copy_of (sym (untouched-cell c.cells u k p id n n2 n3)))) current)
    (cases_eq id p.target))
    (cases_eq id old))
    (cases_eq id u)

module _ (c : Core) (s : IsSound c) (pass : ℕ) (t u : ActiveTransaction) (next : List (ℕ × ActiveTransaction)) (r : Replaces c.moment.state.active next pass t u) (undone : ℕ → ℕ) (cells : List Cell) where
  abbrev after_client : Core
  after_client = record { cells = cells; moment = record c.moment { state = record c.moment.state { active = next }; undone = undone }; refs = c.refs; queue = c.queue; round = c.round }

  by_entry : (P : ℕ × ActiveTransaction → Type 0) → ((e : ℕ × ActiveTransaction) → IsActive c e → e.0 ≢ pass → P e) → P (pass, u) → (e : ℕ × ActiveTransaction) → Contains next e → P e
  by_entry P f p e m = ⊎_elim (λ o. f e o.0 o.1) (λ q. subst P q p) (apart-cases c.moment.state.active next pass t u s.state.passes r e m)

  -- nothing more is kept
  kept_by : (A B : ℕ × ActiveTransaction → Type 0) → ((e : ℕ × ActiveTransaction) → B e → A e ⊎ (((pass, u) ≡ e) × A (pass, t))) → u.registers ≡ t.registers → ((x : ℕ) → holds x u ≡ true → (holds x t ≡ true) ⊎ Contains t.registers (Some x))
      → {x : ℕ} → Kept c.refs B c.moment.state.committed x → Kept c.refs A c.moment.state.committed x
  kept_by A B cases registers locks h =
      kept-replaced c.refs c.refs A B c.moment.state.committed pass t u cases
      (λ e n id q. start id (by_pass e n (by_name q)))
      (λ m id q. start id (by_pass (pass, t) m (in_register (subst (λ l. Contains l (Some id)) registers q))))
      (λ m id q. ⊎_elim (λ f. start id (by_pass (pass, t) m (by_lock f))) (λ f. start id (by_pass (pass, t) m (in_register f))) (locks id q))
      h

  -- nor by the clients other than p
  others : (p : ℕ) → u.registers ≡ t.registers → ((x : ℕ) → holds x u ≡ true → (holds x t ≡ true) ⊎ Contains t.registers (Some x)) → {x : ℕ} → KeptByOthers after_client p x → KeptByOthers c p x
  others p registers locks h = kept_by (λ e. Contains c.moment.state.active e × (e.0 ≢ p)) (λ e. Contains next e × (e.0 ≢ p)) (other-cases c.moment.state.active next pass t u r p) registers locks h

  pub client-sound : AreConsistent c.moment.state.slots c.moment.state.ids cells
      → ((x : ℕ) → is_live cells x ≡ is_live c.cells x)
      → ((x : ℕ) → is_live c.cells x ≡ true → (cell_at cells x).strong ≡ 0 → ((cell_at c.cells x).strong ≡ 0) ⊎ (names c.refs pass x ≡ true))
      → IsSoundState (record c.moment.state { active = next })
      → ((x : ℕ) → IsKept c x → IsCurrentCell cells after_client.moment x)
      → ((e : ℕ × ActiveTransaction) → e.0 ≢ pass → undone e.0 ≡ c.moment.undone e.0)
      → (u.aborting ≡ false → undone pass ≡ 0)
      → IsMadeFirst u.writes
      → ((w : Write) → Contains u.writes w → Contains t.writes w ⊎ (w.place ≡ Payload))
      → u.registers ≡ t.registers
      → ((x : ℕ) → holds x t ≡ true → holds x u ≡ true)
      → ((x : ℕ) → holds x u ≡ true → (holds x t ≡ true) ⊎ Contains t.registers (Some x))
      → ((e : ℕ × ActiveTransaction) → IsActive c e → (v k : ℕ) → holds v e.1 ≡ true → is_live c.cells v ≡ true
      → ((pointer_at cells v k).target ≡ (pointer_at c.cells v k).target) ⊎ ((pointer_at c.cells v k).target ≢ 0 → names c.refs e.0 (pointer_at c.cells v k).target ≡ true))
      → ((v k : ℕ) → is_live cells v ≡ true → Contains (condemned_of c) (pointer_at cells v k).target → Contains (condemned_of c) v)
      → IfSome c.round (λ r. r.judged ≡ false → (id : ℕ) (copy : Copy) → Contains r.copies (id, copy) → Contains r.touched id ⊎ (copy ≡ copy_of (cell_at cells id)))
      → IsSound after_client
  client-sound k live strong state current same_undone own_undone made writes registers more_locks locks pointers within copies =
      let was = was_active c.moment.state.active next pass t u r in
      let D : ℕ → Type 0 = Contains (condemned_of c) in
      record {
        consistent = k;
        zero = λ id l n st.
            (let l0 : is_live c.cells id ≡ true = sym (live id) ∙ l in
            ⊎_elim (λ z. s.zero id l0 n z) (λ z. inr (inr (names-is_named c.refs pass id z))) (strong id l0 st));
        queue_once = s.queue_once;
        round_once = s.round_once;
        queued = λ id m. (let h = s.queued id m in (live id ∙ h.0, h.1, h.2));
        round_live = λ id m. (let h = s.round_live id m in (live id ∙ h.0, h.1));
        state = state;
        kept = λ x h. (let now = current x (kept_by (λ e. Contains c.moment.state.active e) (λ e. Contains next e) (active-cases c.moment.state.active next pass t u r) registers locks h) in record { live = now.live; contents = now.contents });
        stored = λ id. s.stored id ∙ sym (live id);
        none_undone = by_entry (λ e. e.1.aborting ≡ false → undone e.0 ≡ 0) (λ e m n f. same_undone e n ∙ s.none_undone e m f) own_undone;
        made_first = by_entry (λ e. IsMadeFirst e.1.writes) (λ e m n. s.made_first e m) made;
        made_alone = by_entry (λ e. (w : Write) → Contains e.1.writes w → w.place ≡ Whole → KeptByOthers after_client e.0 w.id → ⊥)
            (λ e m n w h q x. s.made_alone e m w h q (others e.0 registers locks x))
            (λ w h q x. ⊎_elim (λ o. s.made_alone (pass, t) was w o q (others pass registers locks x)) (λ o. let no : Payload ≡ Whole = sym o ∙ q in cc) (writes w h));
        new_named = by_entry (λ e. (w : Write) → Contains e.1.writes w → new_target w ≢ 0 → names c.refs e.0 (new_target w) ≡ true)
            (λ e m n. s.new_named e m)
            (λ w h z. ⊎_elim (λ o. s.new_named (pass, t) was w o z) (λ o. absurd (z (ap (λ p. slot_value p w.value) o))) (writes w h));
        old_named = by_entry (λ e. (w : Write) → Contains e.1.writes w → (id slot : ℕ) → touches id slot w ≡ true → slot_in c.moment.state.committed id slot ≢ 0 → names c.refs e.0 (slot_in c.moment.state.committed id slot) ≡ true)
            (λ e m n. s.old_named e m)
            (λ w h id slot q z. ⊎_elim
            (λ o. s.old_named (pass, t) was w o id slot q z)
            (λ o. let no : false ≡ true = sym (ap (λ p. has_slot slot p) o) ∙ (and_parts (w.id == id) (has_slot slot w.place) q).1 in cc)
            (writes w h));
        made_named = by_entry (λ e. (w : Write) → Contains e.1.writes w → w.place ≡ Whole → names c.refs e.0 w.id ≡ true)
            (λ e m n. s.made_named e m)
            (λ w h q. ⊎_elim (λ o. s.made_named (pass, t) was w o q) (λ o. let no : Payload ≡ Whole = sym o ∙ q in cc) (writes w h));
        refs_active = λ f m. (let h = s.refs_active f m in ⊎_elim
            (λ o. (h.0, o))
            (λ q. (u, subst (λ n. Contains next (n, u)) (ap (λ (e : ℕ × ActiveTransaction). e.0) q) (active-new c.moment.state.active next pass t u r)))
            (active-still c.moment.state.active next pass t u r (f.pass, h.0) h.1));
        registers = by_entry (λ e. (id : ℕ) → Contains e.1.registers (Some id) → IsKnown after_client e id)
            (λ e m n id h. known e e m (λ v g. g) refl id (s.kept id (start id (by_pass e m (in_register h)))).live (s.registers e m id h))
            (λ id h.
            let was_in : Contains t.registers (Some id) = subst (λ l. Contains l (Some id)) registers h in
            known (pass, t) (pass, u) was more_locks refl id (s.kept id (start id (by_pass (pass, t) was (in_register was_in)))).live (s.registers (pass, t) was id was_in));
        copies = copies;
        copied_listed = s.copied_listed;
        condemned = record {
          live = λ id d. live id ∙ s.condemned.live id d;
          not_root = s.condemned.not_root;
          not_named = s.condemned.not_named;
          within = within;
          not_locked = λ id d. by_entry (λ e. holds id e.1 ≡ false)
              (λ e m n. s.condemned.not_locked id d e m)
              (false_from_ne_true (holds id u) (λ h. ⊎_elim
              (λ g. let no : true ≡ false = sym g ∙ s.condemned.not_locked id d (pass, t) was in cc)
              (λ g. register-safe c s D s.condemned (pass, t) was id g d)
              (locks id h)));
        };
        condemned_listed = s.condemned_listed;
      }
    where
      known : (e d : ℕ × ActiveTransaction) → IsActive c e → ((v : ℕ) → holds v e.1 ≡ true → holds v d.1 ≡ true) → d.0 ≡ e.0 → (id : ℕ) → is_live c.cells id ≡ true → IsKnown c e id → IsKnown after_client d id
      known e d m f q id l (root_itself h) = root_itself h
      known e d m f q id l (named_id h) = named_id (subst (λ n. names c.refs n id ≡ true) (sym q) h)
      known e d m f q id l (pointed v j h lv p) =
          ⊎_elim
          (λ o. pointed v j (f v h) (live v ∙ lv) (o ∙ p))
          (λ o. named_id (subst (λ n. names c.refs n id ≡ true) (sym q) (subst (λ x. names c.refs e.0 x ≡ true) p (o (λ z. live-there c.cells id s.consistent.exact.none l (sym p ∙ z))))))
          (pointers e m v j h lv)
