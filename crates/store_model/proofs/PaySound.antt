-- Where a client reads or writes a payload, all that a journal keeps is kept.
use Rattle.std.proofs.Common.{◌≡◌, ℕ, false, refl, sym, ap, ◌∙◌, subst, Option, Some, None, ◌⊎◌, inl, inr, ⊎_elim}
use Rattle.std.specs.Prelude.{Contains, IfSome}
use Rattle.std.specs.Ordering.{nat_cmp}
use Rattle.std.specs.BTreeMap.{insert_entry}
use Rattle.std.proofs.lemmas.List.Elements.{Contains-push_cases}
use Rattle.plain_model.specs.declared.write.Place.TheVariants.{Payload, Whole}
use Rattle.plain_model.specs.declared.write.Write.{Write}
use Rattle.plain_model.specs.Graphs.{set_place}
use Rattle.plain_model.specs.ActiveTransaction.{ActiveTransaction}
use Rattle.plain_model.specs.Machine.{transaction_of, blocks_sharing, blocks_owning}
use Rattle.cell_model.specs.Cells.{cell_at, pointer_in, is_live, edit, pays}
use Rattle.cell_model.specs.Records.{Pay, after_record, Fits}
use Rattle.store_model.specs.Core.{Copy, Round, Core}
use Rattle.store_model.specs.Sound.{condemned_of, copy_of, IsSound}
use Rattle.store_model.specs.Steps.{get_by, set_by, moment_with, after_transaction}
use Rattle.cell_model.proofs.EditLaws.{live-there, live-within, edit-keeps}
use Rattle.cell_model.proofs.ConsistentLaws.{consistent-kept}
use Rattle.store_model.proofs.CurrentCells.{pays-object, pays-object_other, written-cell}
use Rattle.store_model.proofs.MadeFirst.{made_first-push}
use Rattle.store_model.proofs.StateLaws.{state-got, state-set}
use Rattle.store_model.proofs.StepLaws.{replaces, shares-holds, owns-holds}
use Rattle.store_model.proofs.ActiveLaws.{in_some_register}
use Rattle.store_model.proofs.EndLaws.{transaction-active}
use Rattle.store_model.proofs.SeenLaws.{owned-alone}
use Rattle.store_model.proofs.ReadSound.{shares-holds_old}
use Rattle.store_model.proofs.StoreSound.{owns-holds_old}
use Rattle.store_model.proofs.MomentLaws.{current-unwritten, current-written}
use Rattle.store_model.proofs.ClientSound.{client-sound}

module _ (c : Core) (s : IsSound c) (pass : ℕ) (t : ActiveTransaction) (a : transaction_of c.moment.state pass ≡ Some t) (y : ℕ) (running : t.aborting ≡ false) (reg : Contains t.registers (Some y)) where
  pub get-sound : blocks_sharing c.moment.state pass y ≡ None → IsSound (after_transaction c pass (get_by t y) c.cells c.refs)
  get-sound granted =
      let u = get_by t y in
      let was = transaction-active c.moment.state s.state pass t a in
      client-sound c s pass t u (insert_entry nat_cmp c.moment.state.active pass u) (replaces pass t u c.moment.state.active s.state.passes a) c.moment.undone c.cells
      s.consistent
      (λ x. refl)
      (λ x l z. inl z)
      (state-got c.moment.state pass t reg.0 y s.state a running (in_some_register t y reg) granted)
      (λ x k. let now = s.kept x k in record { live = now.live; contents = current-unwritten c.moment s.state pass t a u refl x ∙ now.contents })
      (λ e n. refl)
      (s.none_undone (pass, t) was)
      (s.made_first (pass, t) was)
      (λ w h. inl h)
      refl
      (λ x h. shares-holds_old t y x h)
      (λ x h. ⊎_elim (λ f. inl f) (λ f. inr (subst (λ v. Contains t.registers (Some v)) f reg)) (shares-holds t y x h))
      (λ e m v k h l. inl refl)
      s.condemned.within
      s.copies

  pub set-sound : (old value : ℕ) → blocks_owning c.moment.state pass y ≡ None → Fits c.cells (Pay pass y old value) → IsSound (after_transaction c pass (set_by t y value) (after_record c.moment.state.slots c.cells (Pay pass y old value)) c.refs)
  set-sound old value granted fits =
      let u = set_by t y value in
      let w : Write = record { id = y; place = Payload; value = value } in
      let was = transaction-active c.moment.state s.state pass t a in
      let after = edit c.cells y (pays value) in
      let live : (x : ℕ) → is_live after x ≡ is_live c.cells x = λ x. edit-keeps (λ c. c.live) c.cells y x (pays value) (λ c. refl) in
      let target : (v k : ℕ) → (pointer_in (cell_at after v) k).target ≡ (pointer_in (cell_at c.cells v) k).target = λ v k. edit-keeps (λ c. (pointer_in c k).target) c.cells y v (pays value) (λ c. refl) in
      client-sound c s pass t u (insert_entry nat_cmp c.moment.state.active pass u) (replaces pass t u c.moment.state.active s.state.passes a) c.moment.undone after
      (consistent-kept c.moment.state.slots c.moment.state.ids c.cells (Pay pass y old value) fits tt s.consistent)
      live
      (λ x l z. inl (sym (edit-keeps (λ c. c.strong) c.cells y x (pays value) (λ c. refl)) ∙ z))
      (state-set c.moment.state pass t reg.0 y value s.state a running (in_some_register t y reg) granted)
      (λ x k. let now = s.kept x k in
      written-cell c.cells after c.moment (moment_with c.moment pass u) y (set_place Payload value)
      (current-written c.moment s.state pass t a (s.none_undone (pass, t) was running) y Payload value u refl (owned-alone c.moment.state s.state pass y granted))
      live (pays-object c.cells y value (live-there c.cells y s.consistent.exact.none fits.0) (live-within c.cells y fits.0)) (pays-object_other c.cells y value) x (record { live = now.live; contents = now.contents }))
      (λ e n. refl)
      (s.none_undone (pass, t) was)
      (made_first-push t.writes w (s.made_first (pass, t) was) (λ f. let no : Payload ≡ Whole = f in cc))
      (λ v h. ⊎_elim (λ q. inl q) (λ q. inr (ap (λ (w : Write). w.place) (sym q))) (Contains-push_cases t.writes w v h))
      refl
      (λ x h. owns-holds_old t y x h)
      (λ x h. ⊎_elim (λ f. inl f) (λ f. inr (subst (λ v. Contains t.registers (Some v)) f reg)) (owns-holds t y x h))
      (λ e m v k h l. inl (target v k))
      (λ v k l d. s.condemned.within v k (sym (live v) ∙ l) (subst (λ x. Contains (condemned_of c) x) (target v k) d))
      (paid c.round s.copies)
    where
      paid : (o : Option Round) → IfSome o (λ r. r.judged ≡ false → (id : ℕ) (copy : Copy) → Contains r.copies (id, copy) → Contains r.touched id ⊎ (copy ≡ copy_of (cell_at c.cells id)))
          → IfSome o (λ r. r.judged ≡ false → (id : ℕ) (copy : Copy) → Contains r.copies (id, copy) → Contains r.touched id ⊎ (copy ≡ copy_of (cell_at (edit c.cells y (pays value)) id)))
      paid None h = h
      paid (Some r) h = λ j id copy m. ⊎_elim (λ f. inl f) (λ f. inr (f ∙ sym (edit-keeps copy_of c.cells y id (pays value) (λ c. refl)))) (h j id copy m)
