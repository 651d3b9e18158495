-- Where a write is undone, all that a journal keeps is kept.
use Rattle.std.proofs.Common.{◌≡◌, ◌≢◌, ℕ, ◌+◌, ◌-◌, List, ◌∷◌, ◌++◌, Bool, true, false, refl, sym, ap, ◌∙◌, subst, Option, Some, None, ◌⊎◌, inl, inr, ⊎_elim, eq-eqb, ne_eqb}
use Rattle.std.specs.Prelude.{◌==◌, Contains, IfSome, count_by, slice_index}
use Rattle.std.specs.Option.{option_map_or}
use Rattle.std.proofs.lemmas.Bool.{cases_eq, cond-false, and_from}
use Rattle.std.proofs.lemmas.List.Elements.{Contains-append_left, Contains-append_right}
use Rattle.plain_model.specs.declared.object.Object.{Object}
use Rattle.plain_model.specs.declared.write.Place.TheVariants.{Slot, Payload}
use Rattle.plain_model.specs.declared.write.Write.{Write}
use Rattle.plain_model.specs.declared.calls.Entry.TheVariants.{Undo as UndoEntry}
use Rattle.plain_model.specs.Graphs.{object_at, set_place, applied}
use Rattle.plain_model.specs.ActiveTransaction.{ActiveTransaction}
use Rattle.plain_model.specs.Machine.{transaction_of}
use Rattle.plain_model.specs.History.{can_be_undone, with_aborting, holds, next}
use Rattle.cell_model.specs.Cells.{Pointer, cell_at, pointer_in, pointer_at, is_live, edit, relinked, pays}
use Rattle.cell_model.specs.Records.{Undo, UndoPay, after_record, Fits}
use Rattle.store_model.specs.Core.{Copy, Round, Core, names, slot_in, payload_in, new_target, IsMadeFirst, current}
use Rattle.store_model.specs.Sound.{condemned_of, copy_of, IsSound}
use Rattle.store_model.specs.Steps.{IsTouched, undone_by, after_undo}
use Rattle.store_model.proofs.Lists.{each, Contains-here}
use Rattle.cell_model.proofs.EditLaws.{live-there, live-within, edit-keeps}
use Rattle.cell_model.proofs.CountLaws.{relinked-live, relinked-which}
use Rattle.store_model.proofs.SlotLaws.{after_writes-value}
use Rattle.cell_model.proofs.ConsistentLaws.{consistent-kept}
use Rattle.store_model.proofs.CurrentCells.{pays-object, pays-object_other, undo-paid, undone-cell}
use Rattle.store_model.proofs.MadeFirst.{made_first-later}
use Rattle.store_model.proofs.StateLaws.{state-undone}
use Rattle.store_model.proofs.DeletionLaws.{names-is_named}
use Rattle.store_model.proofs.CondemnedLaws.{closed_up-kept}
use Rattle.store_model.proofs.StepLaws.{relinked-object, relinked-object_other}
use Rattle.store_model.proofs.ActiveLaws.{owner, active-exclusive, own-only_writer}
use Rattle.store_model.proofs.EndLaws.{transaction-active}
use Rattle.store_model.proofs.UndoLaws.{undo-object}
use Rattle.store_model.proofs.StoreSound.{strong-kept}
use Rattle.store_model.proofs.MomentLaws.{undo-replaces, current-undone, undone-object}
use Rattle.store_model.proofs.ClientSound.{relinked-copies, client-sound}

module _ (c : Core) (s : IsSound c) (pass : ℕ) (t : ActiveTransaction) (a : transaction_of c.moment.state pass ≡ Some t) (earlier later : List Write) (y v : ℕ) where
  in_split : (w : Write) → t.writes ≡ earlier ++ w ∷ later → Contains t.writes w
  in_split w split = subst (λ l. Contains l w) (sym split) (Contains-append_right earlier (w ∷ later) w (Contains-here w later))

  other_undone : (e : ℕ × ActiveTransaction) → e.0 ≢ pass → (next c.moment (UndoEntry pass)).undone e.0 ≡ c.moment.undone e.0
  other_undone e n = cond-false (e.0 == pass) (c.moment.undone e.0 + 1) (c.moment.undone e.0) (ne_eqb e.0 pass n)

  pub undo-sound : (slot : ℕ) (from_strong bit : Bool) (to : ℕ) → t.writes ≡ earlier ++ record { id = y; place = Slot slot; value = v } ∷ later → count_by can_be_undone t.writes - c.moment.undone pass ≡ count_by can_be_undone earlier + 1
      → to ≡ slot_in (applied c.moment.state.slots c.moment.state.committed earlier) y slot → Fits c.cells (Undo pass y slot v from_strong to bit)
      → IsTouched c.round y → (v ≢ 0 → IsTouched c.round v) → (to ≢ 0 → IsTouched c.round to)
      → IsSound (after_undo c pass (after_record c.moment.state.slots c.cells (Undo pass y slot v from_strong to bit)))
  undo-sound slot from_strong bit to split turn lays fits ty tv tto =
      let w : Write = record { id = y; place = Slot slot; value = v } in
      let p : Pointer = record { target = to; bit = bit } in
      let u = undone_by t in
      let cells = relinked c.cells y slot p in
      let n = next c.moment (UndoEntry pass) in
      let was = transaction-active c.moment.state s.state pass t a in
      let mine = in_split w split in
      let first_made = made_first-later earlier w later (subst IsMadeFirst split (s.made_first (pass, t) was)) in
      let alone = own-only_writer c.moment.state s.state pass t was w mine in
      let r = undo-replaces c.moment s.state pass t a earlier later y (Slot slot) v refl split turn first_made alone in
      let ly = fits.0.live in
      let ny = live-there c.cells y s.consistent.exact.none ly in
      let wy = live-within c.cells y ly in
      let old : (pointer_at c.cells y slot).target ≡ v = fits.0.target in
      let old_named : v ≢ 0 → names c.refs pass v ≡ true = λ z. s.new_named (pass, t) was w mine z in
      let to_named : to ≢ 0 → names c.refs pass to ≡ true = λ z. ⊎_elim
      (λ (q : slot_in c.moment.state.committed y slot ≡ to). subst (λ x. names c.refs pass x ≡ true) q (s.old_named (pass, t) was w mine y slot (and_from (y == y) (slot == slot) (eq-eqb y y refl) (eq-eqb slot slot refl)) (λ e. z (sym q ∙ e))))
      (λ q. q)
      (after_writes-value c.moment.state.slots c.moment.state.committed earlier y slot to (names c.refs pass to ≡ true)
      (each (λ x. new_target x ≡ to → names c.refs pass to ≡ true) earlier (λ x m q. subst (λ i. names c.refs pass i ≡ true) q (s.new_named (pass, t) was x (subst (λ l. Contains l x) (sym split) (Contains-append_left earlier (w ∷ later) x m)) (λ e. z (sym q ∙ e)))))
      (sym lays)) in
      let D : ℕ → Type 0 = Contains (condemned_of c) in
      let live_same = λ (x : ℕ). relinked-live c.cells y slot p x in
      client-sound c s pass t u (with_aborting pass c.moment.state.active) r n.undone cells
      (consistent-kept c.moment.state.slots c.moment.state.ids c.cells (Undo pass y slot v from_strong to bit) fits tt s.consistent)
      live_same
      (λ x l z. ⊎_elim
      (λ (q : x ≡ (pointer_at c.cells y slot).target). inr (subst (λ i. names c.refs pass i ≡ true) (sym (q ∙ old)) (old_named (λ e. live-there c.cells x s.consistent.exact.none l (q ∙ (old ∙ e))))))
      (λ q. inl (strong-kept c.cells y slot p x (live-there c.cells x s.consistent.exact.none l) (live-within c.cells x l) q z))
      (cases_eq x (pointer_at c.cells y slot).target))
      (state-undone c.moment.state pass t s.state a)
      (λ x k. let now = s.kept x k in
      undone-cell c.cells cells c.moment n y (set_place (Slot slot) v) (set_place (Slot slot) to)
      (current-undone c.moment s.state pass t a earlier later y (Slot slot) v refl split turn first_made alone)
      (λ b e. undo-object (object_at (current n) y) b slot v to e (lays ∙ ap (λ o. option_map_or (λ (o : Object). slice_index o.slots slot) o 0) (sym (undone-object c.moment s.state pass t a earlier later y (Slot slot) v refl split turn first_made alone))))
      live_same (relinked-object c.cells y slot p ny wy) (relinked-object_other c.cells y slot p) x (record { live = now.live; contents = now.contents }))
      other_undone
      (λ f. let no : true ≡ false = f in cc)
      (s.made_first (pass, t) was)
      (λ x h. inl h)
      refl
      (λ x h. h)
      (λ x h. inl h)
      (λ e m x k h l. ⊎_elim
      (λ f. inr (λ z.
      let at : (pointer_at c.cells x k).target ≡ v = ap (λ i. (pointer_at c.cells i k).target) f.0 ∙ (ap (λ j. (pointer_at c.cells y j).target) f.1 ∙ old) in
      ⊎_elim
      (λ (q : e.0 ≡ pass). subst (λ i. names c.refs e.0 i ≡ true) (sym at) (subst (λ i. names c.refs i v ≡ true) (sym q) (old_named (λ g. z (at ∙ g)))))
      (λ q. let no : true ≡ false = sym h ∙ subst (λ i. holds i e.1 ≡ false) (sym f.0) (active-exclusive c.moment.state s.state (pass, t) e was m (λ g. q (sym g)) y (owner c.moment.state s.state (pass, t) was w mine)) in cc)
      (cases_eq e.0 pass)))
      (λ f. inl (ap (λ (p : Pointer). p.target) f))
      (relinked-which c.cells y slot p x k ny wy fits.0.within))
      (λ x k l d. (closed_up-kept c.cells s.consistent.exact D s.condemned.live s.condemned.within c.moment.state.slots (Undo pass y slot v from_strong to bit) fits
      (λ dt. let no : true ≡ false = sym (names-is_named c.refs pass to (to_named (live-there c.cells to s.consistent.exact.none (s.condemned.live to dt)))) ∙ s.condemned.not_named to dt in cc)
      x k l (d, live_same (pointer_at cells x k).target ∙ s.condemned.live (pointer_at cells x k).target d)).0)
      (relinked-copies c s y slot p c.round refl ty (λ z. subst (λ i. IsTouched c.round i) (sym old) (tv (λ e. z (old ∙ e)))) tto)

  pub undo_pay-sound : (to : ℕ) → t.writes ≡ earlier ++ record { id = y; place = Payload; value = v } ∷ later → count_by can_be_undone t.writes - c.moment.undone pass ≡ count_by can_be_undone earlier + 1
      → to ≡ payload_in (applied c.moment.state.slots c.moment.state.committed earlier) y → Fits c.cells (UndoPay pass y v to) → IsSound (after_undo c pass (after_record c.moment.state.slots c.cells (UndoPay pass y v to)))
  undo_pay-sound to split turn lays fits =
      let w : Write = record { id = y; place = Payload; value = v } in
      let u = undone_by t in
      let cells = edit c.cells y (pays to) in
      let n = next c.moment (UndoEntry pass) in
      let was = transaction-active c.moment.state s.state pass t a in
      let first_made = made_first-later earlier w later (subst IsMadeFirst split (s.made_first (pass, t) was)) in
      let alone = own-only_writer c.moment.state s.state pass t was w (in_split w split) in
      let r = undo-replaces c.moment s.state pass t a earlier later y Payload v refl split turn first_made alone in
      let live : (x : ℕ) → is_live cells x ≡ is_live c.cells x = λ x. edit-keeps (λ c. c.live) c.cells y x (pays to) (λ c. refl) in
      let target : (x k : ℕ) → (pointer_in (cell_at cells x) k).target ≡ (pointer_in (cell_at c.cells x) k).target = λ x k. edit-keeps (λ c. (pointer_in c k).target) c.cells y x (pays to) (λ c. refl) in
      client-sound c s pass t u (with_aborting pass c.moment.state.active) r n.undone cells
      (consistent-kept c.moment.state.slots c.moment.state.ids c.cells (UndoPay pass y v to) fits tt s.consistent)
      live
      (λ x l z. inl (sym (edit-keeps (λ c. c.strong) c.cells y x (pays to) (λ c. refl)) ∙ z))
      (state-undone c.moment.state pass t s.state a)
      (λ x k. let now = s.kept x k in
      undone-cell c.cells cells c.moment n y (set_place Payload v) (set_place Payload to)
      (current-undone c.moment s.state pass t a earlier later y Payload v refl split turn first_made alone)
      (λ b e. undo-paid (object_at (current n) y) b v to e (lays ∙ ap (λ o. option_map_or (λ (o : Object). o.payload) o 0) (sym (undone-object c.moment s.state pass t a earlier later y Payload v refl split turn first_made alone))))
      live (pays-object c.cells y to (live-there c.cells y s.consistent.exact.none fits.0) (live-within c.cells y fits.0)) (pays-object_other c.cells y to) x (record { live = now.live; contents = now.contents }))
      other_undone
      (λ f. let no : true ≡ false = f in cc)
      (s.made_first (pass, t) was)
      (λ x h. inl h)
      refl
      (λ x h. h)
      (λ x h. inl h)
      (λ e m x k h l. inl (target x k))
      (λ x k l d. s.condemned.within x k (sym (live x) ∙ l) (subst (λ i. Contains (condemned_of c) i) (target x k) d))
      (paid c.round s.copies)
    where
      paid : (o : Option Round) → IfSome o (λ r. r.judged ≡ false → (id : ℕ) (copy : Copy) → Contains r.copies (id, copy) → Contains r.touched id ⊎ (copy ≡ copy_of (cell_at c.cells id)))
          → IfSome o (λ r. r.judged ≡ false → (id : ℕ) (copy : Copy) → Contains r.copies (id, copy) → Contains r.touched id ⊎ (copy ≡ copy_of (cell_at (edit c.cells y (pays to)) id)))
      paid None h = h
      paid (Some r) h = λ j id copy m. ⊎_elim (λ f. inl f) (λ f. inr (f ∙ sym (edit-keeps copy_of c.cells y id (pays to) (λ c. refl)))) (h j id copy m)
