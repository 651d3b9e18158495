-- The last write of a transaction that isn't undone is undone.
use Rattle.std.proofs.Common.{◌≡◌, ◌≢◌, ℕ, ◌+◌, ◌-◌, ◌<◌, List, [], ◌∷◌, ◌++◌, Bool, true, cond, refl, sym, ap, ◌∙◌, subst, Option, Some, None, ⊎_elim, arith, length, map, ne_eqb}
use Rattle.std.specs.Prelude.{count_by, take, fold, option_map, if◌then◌else◌}
use Rattle.std.specs.List.{last_or}
use Rattle.plain_model.specs.declared.object.Object.{Object}
use Rattle.plain_model.specs.declared.write.Place.{Place}
use Rattle.plain_model.specs.declared.write.Place.TheVariants.{Slot, Payload, Whole}
use Rattle.plain_model.specs.declared.write.Write.{Write}
use Rattle.plain_model.specs.declared.calls.Entry.TheVariants.{Undo}
use Rattle.plain_model.specs.ActiveTransaction.{ActiveTransaction}
use Rattle.plain_model.specs.Graphs.{applied}
use Rattle.plain_model.specs.Machine.{transaction_of}
use Rattle.plain_model.specs.History.{next, can_be_undone, after_undo}
use Rattle.plain_laws.proofs.Ids.{test_same}
use Rattle.plain_laws.proofs.Locks.{transaction_of-undo_same, transaction_of-undo_other, marked_aborting}
use Rattle.log_record.specs.Records.{payload_place, record_of, after_cell_record, FitsCells, LaysWell}
use Rattle.cell_page.specs.Format.{IsSlotCount}
use Rattle.cell_model.specs.Cells.{Pointer, cell_at, edit, pays, is_live}
use Rattle.cell_model.specs.Records.{Record, Undo as UndoRecord, UndoPay as UndoPayRecord, after_record, Fits}
use Rattle.store_model.specs.Core.{Ref, Round, Core, slot_in, payload_in}
use Rattle.store_model.specs.Sound.{IsSound}
use Rattle.store_model.proofs.UndoSound.{undo-sound, undo_pay-sound}
use Rattle.store_model.proofs.EndLaws.{transaction-active}
use Rattle.core_store.specs.declared.three.HeldFrame.{HeldFrame}
use Rattle.core_store.specs.declared.slots.SlotChange.{SlotChange}
use Rattle.core_store.specs.Changes.{restored_change, undo_record, has_no_strong}
use Rattle.core_store.specs.Events.{after_event}
use Rattle.core_store.specs.Frames.{Agree, IsSameElsewhere}
use Rattle.core_store.specs.Logged.{logged_by_undo}
use Rattle.core_store.specs.Queued.{queue_after}
use Rattle.core_store.specs.References.{named_by, references_after}
use Rattle.core_store.specs.RoundView.{round_of, touched_in, touched_by_record}
use Rattle.core_store.specs.Touched.{objects_touched, round_after}
use Rattle.restart_laws.specs.Told.{value_in}
use Rattle.core_store.specs.Replaced.{replaced, before_write}
use Rattle.core_store.specs.Transactions.{Running, running_at, undoing, without_last}
use Rattle.core_store.specs.Tables.{TablesView, changed_at}
use Rattle.core_store.specs.Stands.{IsRunning, CanLay, IsEmptied, IsTested, owns_in, shares_in, Stands, Undoes}
use Rattle.core_store.proofs.ChangeLaws.{Stands-change}
use Rattle.core_store.proofs.LayLaws.{CanLay-later, Contains-without_last}
use Rattle.core_store.proofs.MapLaws.{puts-changed, length-without_last}
use Rattle.core_store.proofs.UndoneLaws.{left-kept, next-kept}
use Rattle.core_store.proofs.EmptiedLaws.{IsEmptied-relinked, IsEmptied-touched, IsTested-touched}
use Rattle.core_store.proofs.OwedSteps.{owed-changed}
use Rattle.core_store.proofs.RestLaws.{IsEmptied-kept, IsTested-kept, links-paid, sound-untouched}
use Rattle.core_store.proofs.TouchLaws.{round-touched, in_step-touched, touch_all-sound, touched-three, TouchesThree}
use Rattle.core_store.proofs.WrittenCells.{written-held, written-slot, written-payload}
use Rattle.core_store.proofs.ReplacedLaws.{HasNth, nth-undoable, last-nth}

-- the record of the undo of a slot, as the laws of a store see it
pub record-undo : (slots pass id slot value : ℕ) (c : SlotChange) → IsSlotCount slots → slot < slots → record_of (undo_record pass id slot value c) ≡ UndoRecord pass id slot c.old_target c.old_strong value c.new_bit
record-undo slots pass id slot value c six within =
    let small : slot ≢ 255 = λ e. ⊎_elim (λ (a : slots ≡ 6). absurd (omega (arith, a, within, e))) (λ (a : slots ≡ 14). absurd (omega (arith, a, within, e))) six in
    ap (λ b. if b then UndoPayRecord pass id c.old_target value else UndoRecord pass id slot c.old_target c.old_strong value c.new_bit) (ne_eqb slot 255 small)

-- the objects that it concerns
slot-objects : (slots pass id slot value : ℕ) (c : SlotChange) → IsSlotCount slots → slot < slots → objects_touched (Some (undo_record pass id slot value c)) ≡ id ∷ c.old_target ∷ value ∷ []
slot-objects slots pass id slot value c six within =
    let small : slot ≢ payload_place = λ e. ⊎_elim (λ (a : slots ≡ 6). absurd (omega (arith, a, within, e))) (λ (a : slots ≡ 14). absurd (omega (arith, a, within, e))) six in
    ap (λ b. if b then [] else id ∷ c.old_target ∷ value ∷ []) (ne_eqb slot payload_place small)

-- the parts of what is laid again are those of the write that is undone
record IsBefore (slots : ℕ) (g : List Object) (earlier : List Write) (w : Write) (id : ℕ) (place : Place) (value : ℕ) : Type 0 where
  pub same_id : w.id ≡ id
  pub same_place : w.place ≡ place
  pub was : value ≡ value_in (applied slots g earlier) id place

some_before : (slots : ℕ) (g : List Object) (earlier : List Write) (w : Write) (id : ℕ) (place : Place) (value : ℕ) → Some (before_write (applied slots g earlier) w) ≡ Some (record { id = id; place = place; value = value }) → IsBefore slots g earlier w id place value
some_before slots g earlier w id place value e =
    let same : before_write (applied slots g earlier) w ≡ record { id = id; place = place; value = value } = some_inj (before_write (applied slots g earlier) w) (record { id = id; place = place; value = value }) e in
    let a : w.id ≡ id = ap (λ (y : Write). y.id) same in
    let b : w.place ≡ place = ap (λ (y : Write). y.place) same in
    record {
      same_id = a;
      same_place = b;
      was = sym (ap (λ (y : Write). y.value) same) ∙ (ap (λ k. value_in (applied slots g earlier) k w.place) a ∙ ap (λ p. value_in (applied slots g earlier) id p) b);
    }
  where
    some_inj : (x y : Write) → Some x ≡ Some y → x ≡ y
    some_inj x y e = cc

module _ (slots : ℕ) (v : TablesView) (c : Core) (h : Stands slots v c) (pass : ℕ) (kept : Running) (t : ActiveTransaction) (found : transaction_of c.moment.state pass ≡ Some t) (runs : IsRunning slots c.moment.state.committed kept t (c.moment.undone pass)) (some_left : 0 < length kept.replaced) where
  nth : HasNth t.writes (length kept.replaced)
  nth = let l = runs.left in nth-undoable t.writes (length kept.replaced) some_left (omega (arith, l))

  turn : count_by can_be_undone t.writes - c.moment.undone pass ≡ count_by can_be_undone nth.earlier + 1
  turn = let l = runs.left in let c = nth.count in omega (arith, l, c)

  before : (id : ℕ) (place : Place) (value : ℕ) → last_or None kept.replaced ≡ Some (record { id = id; place = place; value = value }) → IsBefore slots c.moment.state.committed nth.earlier nth.write id place value
  before id place value e =
      some_before slots c.moment.state.committed nth.earlier nth.write id place value (sym (last-nth slots c.moment.state.committed t.writes (length kept.replaced) nth) ∙ (ap (last_or None) (sym runs.replaced) ∙ e))

  split : (id : ℕ) (place : Place) (value : ℕ) → IsBefore slots c.moment.state.committed nth.earlier nth.write id place value → t.writes ≡ nth.earlier ++ record { id = id; place = place; value = nth.write.value } ∷ nth.later
  split id place value b =
      nth.split ∙ (ap (λ k. let y : Write = record { id = k; place = nth.write.place; value = nth.write.value } in nth.earlier ++ y ∷ nth.later) b.same_id ∙ ap (λ p. let y : Write = record { id = id; place = p; value = nth.write.value } in nth.earlier ++ y ∷ nth.later) b.same_place)

  -- the journal after this is laid again
  abbrev after : Write → Core
  after x = after_event slots c (Undo pass) (Some (logged_by_undo c.cells pass x))

  -- a slot is laid again
  slot-sound : (id slot value : ℕ) → last_or None kept.replaced ≡ Some (record { id = id; place = Slot slot; value = value }) → slot < slots → FitsCells c.cells (logged_by_undo c.cells pass (record { id = id; place = Slot slot; value = value }))
      → IsSound (after (record { id = id; place = Slot slot; value = value }))
  slot-sound id slot value e within fits =
      let x : Write = record { id = id; place = Slot slot; value = value } in
      let k = restored_change c.cells id slot value in
      let is = record-undo slots pass id slot value k h.counted within in
      let b = before id (Slot slot) value e in
      let split_is = split id (Slot slot) value b in
      let fits2 : Fits c.cells (UndoRecord pass id slot k.old_target k.old_strong value k.new_bit) = subst (λ (r : Record). Fits c.cells r) is fits in
      let lays : value ≡ slot_in (applied c.moment.state.slots c.moment.state.committed nth.earlier) id slot = b.was ∙ ap (λ k. slot_in (applied k c.moment.state.committed nth.earlier) id slot) (sym h.slots_are) in
      let laid : k.old_target ≡ nth.write.value = written-slot c h.sound pass t found nth.earlier nth.later id nth.write.value turn slot split_is fits2.0.within in
      let marked = touch_all-sound slots v.ids v.round (id ∷ k.old_target ∷ value ∷ []) c h.in_step h.round h.sound in
      let m : TouchesThree v.round id k.old_target value = touched-three slots v.ids v.round id k.old_target value h.in_step in
      let objects = slot-objects slots pass id slot value k h.counted within in
      let main = undo-sound (record c { round = round_of (fold touched_in v.round (id ∷ k.old_target ∷ value ∷ [])) }) marked pass t found nth.earlier nth.later id k.old_target slot k.old_strong k.new_bit value
      (subst (λ n. t.writes ≡ nth.earlier ++ record { id = id; place = Slot slot; value = n } ∷ nth.later) (sym laid) split_is) turn lays fits2 m.«first» (λ d. m.second) (λ d. m.third) in
      let cells = subst (λ (r : Record). IsSound (record (after x) { cells = after_record c.moment.state.slots c.cells r; round = round_of (fold touched_in v.round (id ∷ k.old_target ∷ value ∷ [])) })) (sym is) main in
      let sized = subst (λ (n : ℕ). IsSound (record (after x) { cells = after_cell_record n c.cells (logged_by_undo c.cells pass x); round = round_of (fold touched_in v.round (id ∷ k.old_target ∷ value ∷ [])) })) h.slots_are cells in
      subst (λ (o : Option Round). IsSound (record (after x) { round = o })) (round-touched slots v c h (id ∷ k.old_target ∷ value ∷ []) ∙ ap (round_after c.round) (sym objects)) sized

  -- a payload is laid again
  payload-sound : (id value : ℕ) → last_or None kept.replaced ≡ Some (record { id = id; place = Payload; value = value }) → FitsCells c.cells (logged_by_undo c.cells pass (record { id = id; place = Payload; value = value }))
      → IsSound (after (record { id = id; place = Payload; value = value }))
  payload-sound id value e fits =
      let b = before id Payload value e in
      let split_is = split id Payload value b in
      let lays : value ≡ payload_in (applied c.moment.state.slots c.moment.state.committed nth.earlier) id = b.was ∙ ap (λ k. payload_in (applied k c.moment.state.committed nth.earlier) id) (sym h.slots_are) in
      let paid = written-payload c h.sound pass t found nth.earlier nth.later id nth.write.value turn split_is in
      sound-untouched (record c { cells = edit c.cells id (pays value); moment = next c.moment (Undo pass) })
      (undo_pay-sound c h.sound pass t found nth.earlier nth.later id (cell_at c.cells id).payload value (subst (λ n. t.writes ≡ nth.earlier ++ record { id = id; place = Payload; value = n } ∷ nth.later) (sym paid) split_is) turn lays fits)

  pub undone-sound : (id : ℕ) (place : Place) (value : ℕ) → last_or None kept.replaced ≡ Some (record { id = id; place = place; value = value }) → CanLay slots c.cells (record { id = id; place = place; value = value })
      → FitsCells c.cells (logged_by_undo c.cells pass (record { id = id; place = place; value = value })) → IsSound (after (record { id = id; place = place; value = value }))
  undone-sound id (Slot slot) value e can fits = slot-sound id slot value e can.1.0 fits
  undone-sound id Payload value e can fits = payload-sound id value e fits
  undone-sound id Whole value e can fits = absurd can.1

  -- references and the queue are as before
  undone-refs : (x : Write) → references_after c.refs (Some (logged_by_undo c.cells pass x)) ≡ c.refs
  undone-refs x = by x.place
    where
      by : (p : Place) → references_after c.refs (Some (logged_by_undo c.cells pass (record x { place = p }))) ≡ c.refs
      by (Slot slot) = refl
      by Payload = refl
      by Whole = refl

  undone-queue : (x : Write) → queue_after c (Some (logged_by_undo c.cells pass x)) ≡ c.queue
  undone-queue x = by x.place
    where
      by : (p : Place) → queue_after c (Some (logged_by_undo c.cells pass (record x { place = p }))) ≡ c.queue
      by (Slot slot) = refl
      by Payload = refl
      by Whole = refl

  -- what a sweep has emptied stays so
  undone-emptied : (id : ℕ) (place : Place) (value : ℕ) → last_or None kept.replaced ≡ Some (record { id = id; place = place; value = value }) → CanLay slots c.cells (record { id = id; place = place; value = value })
      → IsEmptied (after_cell_record slots c.cells (logged_by_undo c.cells pass (record { id = id; place = place; value = value }))) v.round
  undone-emptied id (Slot slot) value e can =
      let k = restored_change c.cells id slot value in
      let is = record-undo slots pass id slot value k h.counted can.1.0 in
      let held = written-held c h.sound pass t found nth.earlier nth.later id (Slot slot) nth.write.value refl (split id (Slot slot) value (before id (Slot slot) value e)) turn in
      subst (λ (r : Record). IsEmptied (after_record slots c.cells r) v.round) (sym is)
      (IsEmptied-relinked c h.sound (pass, t) (transaction-active c.moment.state h.sound.state pass t found) c.cells id slot (record { target = value; bit = k.new_bit }) held slots v.ids v.round h.in_step h.round h.emptied)
  undone-emptied id Payload value e can = IsEmptied-kept c.cells (edit c.cells id (pays value)) v.round (λ x k n. ap (λ (p : Pointer). p.target) ((links-paid c.cells id value).pointers x k) ∙ n) h.emptied
  undone-emptied id Whole value e can = absurd can.1

  -- a slot that is laid again ends a test, and a payload leaves what it has found
  undone-tested : (id : ℕ) (place : Place) (value : ℕ) → CanLay slots c.cells (record { id = id; place = place; value = value })
      → IsTested (after_cell_record slots c.cells (logged_by_undo c.cells pass (record { id = id; place = place; value = value }))) (touched_by_record v.round (Some (logged_by_undo c.cells pass (record { id = id; place = place; value = value }))))
  undone-tested id (Slot slot) value can =
      let k = restored_change c.cells id slot value in
      let later = after_cell_record slots c.cells (logged_by_undo c.cells pass (record { id = id; place = Slot slot; value = value })) in
      subst (λ (xs : List ℕ). IsTested later (fold touched_in v.round xs)) (sym (slot-objects slots pass id slot value k h.counted can.1.0)) (IsTested-touched later v.round id (k.old_target ∷ value ∷ []))
  undone-tested id Payload value can = IsTested-kept c.cells (edit c.cells id (pays value)) v.round (links-paid c.cells id value) h.tested
  undone-tested id Whole value can = absurd can.1

  pub undoes : (held new : List (HeldFrame slots)) (n : ℕ) (marks : List Bool) (x : Write) → running_at v.transactions pass ≡ Some kept → last_or None kept.replaced ≡ Some x → FitsCells c.cells (logged_by_undo c.cells pass x) → LaysWell c.cells (logged_by_undo c.cells pass x)
      → Agree (after_cell_record slots c.cells (logged_by_undo c.cells pass x)) new → IsSameElsewhere c.cells (after_cell_record slots c.cells (logged_by_undo c.cells pass x)) held → marks ≡ map has_no_strong (after_cell_record slots c.cells (logged_by_undo c.cells pass x))
      → ((y : ℕ) → is_live c.cells y ≡ true → is_live (after_cell_record slots c.cells (logged_by_undo c.cells pass x)) y ≡ true) → CanLay slots c.cells x → n + 1 ≡ v.owed
      → Undoes slots v (record v { zeros = marks; transactions = changed_at pass undoing v.transactions; owed = n; round = touched_by_record v.round (Some (logged_by_undo c.cells pass x)) }) c held new pass (logged_by_undo c.cells pass x)
  undoes held new n marks x here last fits lays agree elsewhere marked alive can owed =
      let u = marked_aborting t in
      let logged = logged_by_undo c.cells pass x in
      let objects = objects_touched (Some logged) in
      let w : TablesView = record v { zeros = marks; transactions = changed_at pass undoing v.transactions; owed = n; round = touched_by_record v.round (Some logged) } in
      let later = after_cell_record slots c.cells logged in
      let put = puts-changed pass undoing kept v.transactions here in
      let left = runs.left in
      let shorter = length-without_last kept.replaced some_left in
      let one_more : (next c.moment (Undo pass)).undone pass ≡ c.moment.undone pass + 1 = ap (λ b. cond b (c.moment.undone pass + 1) (c.moment.undone pass)) (test_same pass) in
      let runs2 : IsRunning slots c.moment.state.committed (undoing kept) u ((next c.moment (Undo pass)).undone pass) = record {
        registers = runs.registers;
        aborting = refl;
        left = omega (arith, left, shorter, one_more);
        replaced = take-shorter kept.replaced (replaced slots c.moment.state.committed t.writes) runs.replaced;
      } in
      let sound = undone-sound x.id x.place x.value last can fits in
      let others = λ (q : ℕ) (d : q ≢ pass). transaction_of-undo_other c.moment.state pass q d in
      let undone = λ (q : ℕ) (d : q ≢ pass). ap (λ b. cond b (c.moment.undone q + 1) (c.moment.undone q)) (ne_eqb q pass d) in
      record {
        some_left = (let l = left-kept slots c.moment pass kept t found runs in omega (arith, l, some_left));
        record_is = ap (option_map (logged_by_undo c.cells pass)) (sym (next-kept slots c.moment pass kept t h.slots_are found runs ∙ last));
        moves = record { fits = fits; lays = lays; agree = agree; elsewhere = elsewhere };
        stands = Stands-change slots v w c (after x) (after_undo c.moment.state pass) pass (undoing kept) u h (record {
          same_ids = refl;
          state_ids = refl;
          state_slots = refl;
          here = put.here;
          others = put.others;
          state_here = transaction_of-undo_same c.moment.state pass t found;
          state_others = others;
          undone_others = undone;
          runs = runs2;
          owner = λ k. h.owners k pass ∙ ap (λ o. owns_in o k) found;
          other_owners = λ k q d. refl;
          sharer = λ k. h.sharers k pass ∙ ap (λ o. shares_in o k) found;
          other_sharers = λ k q d. refl;
          graph = refl;
          free = h.free;
        }) refl marked sound alive (λ y k. CanLay-later slots c.cells later alive y (h.restorable pass kept here y (Contains-without_last kept.replaced y k)))
            (record {
              references = λ p. h.references p ∙ ap (λ (rs : List Ref). named_by rs p) (sym (undone-refs x));
              queue = h.queue ∙ sym (undone-queue x);
              round = round-touched slots v c h objects;
              in_step = in_step-touched slots v.ids v.round objects h.in_step;
              emptied = IsEmptied-touched later v.round objects (undone-emptied x.id x.place x.value last can);
              tested = undone-tested x.id x.place x.value can;
              owed = owed-changed slots c (after x) (after_undo c.moment.state pass) pass (undoing kept) u h.sound sound refl refl (transaction_of-undo_same c.moment.state pass t found) others undone runs2 kept t found runs v.owed n h.owed (omega (arith, owed, shorter));
            });
        round = refl;
      }
    where
      take-shorter : (xs ys : List Write) → xs ≡ take (length xs) ys → without_last xs ≡ take (length (without_last xs)) ys
      take-shorter xs ys e =
          let n = Rattle.std.proofs.lemmas.List.length-take-le (length xs - 1) xs (omega arith) in
          ap (take (length xs - 1)) e ∙ (Rattle.std.proofs.lemmas.List.take-take (length xs - 1) (length xs) ys (omega arith) ∙ ap (λ k. take k ys) (omega (arith, n)))
