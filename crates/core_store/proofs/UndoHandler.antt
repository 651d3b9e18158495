-- What an abort step does, from the tables and the held pages alone.
use Rattle.std.proofs.Common.{◌≡◌, ℕ, ◌+◌, ◌<◌, List, [], ◌∷◌, ◌++◌, Bool, true, refl, sym, ap, ◌∙◌, subst, Option, Some, None, inl, inr, ◌⊎◌, arith, length}
use Rattle.std.specs.Prelude.{Contains}
use Rattle.std.specs.Option.{option_map_or}
use Rattle.std.specs.List.{last_or}
use Rattle.std.proofs.lemmas.List.{length_push}
use Rattle.std.proofs.lemmas.List.Elements.{Contains-append_right}
use Rattle.plain_model.specs.declared.write.Place.{Place}
use Rattle.plain_model.specs.declared.write.Place.TheVariants.{Slot, Payload, Whole}
use Rattle.plain_model.specs.declared.write.Write.{Write}
use Rattle.log_record.specs.declared.cell_record.CellRecord.{CellRecord}
use Rattle.log_record.specs.Records.{after_cell_record, FitsCells, LaysWell}
use Rattle.cell_model.specs.Cells.{Cell, is_live, pays}
use Rattle.store_model.specs.Core.{Core}
use Rattle.cell_model.specs.Consistent.{AreConsistent}
use Rattle.store_model.proofs.Lists.{Contains-here}
use Rattle.cell_model.proofs.CountLaws.{relinked-live}
use Rattle.cell_model.proofs.EditLaws.{edit-keeps}
use Rattle.core_store.specs.declared.three.HeldFrame.{HeldFrame}
use Rattle.core_store.specs.Changes.{restored_change}
use Rattle.core_store.specs.Frames.{Agree}
use Rattle.core_store.specs.Logged.{logged_by_undo, objects_of_undo}
use Rattle.core_store.specs.Replaced.{next_to_restore}
use Rattle.core_store.specs.RoundView.{touched_by_record}
use Rattle.core_store.specs.Slots.{HoldsPagesOf, CanChange, IsChanged}
use Rattle.core_store.specs.Transactions.{Running, running_at, undoing}
use Rattle.core_store.specs.Tables.{TablesView, changed_at}
use Rattle.core_store.specs.Stands.{CanLay, Stands, Undoes, UndoesOne}
use Rattle.core_store.specs.Ready.{IsReadyToRestore, CanRestore, Restores}
use Rattle.core_store.proofs.PageLaws.{id-small}
use Rattle.core_store.proofs.PlanActive.{active-of}
use Rattle.core_store.proofs.PlanLaws.{live-id}
use Rattle.core_store.proofs.ReplacedLists.{HasLast, ends, last_or-push}
use Rattle.core_store.proofs.SlotLaws.{undo-fits, undo-lays_well, after-undo, slot-place}
use Rattle.core_store.proofs.UndoLaws.{undoes}
use Rattle.core_store.proofs.UndoneLaws.{next-kept}

-- the last of a list is among it
last-among : (ws : List Write) (w : Write) → last_or None ws ≡ Some w → (0 < length ws) × Contains ws w
last-among ws w e = by (ends ws)
  where
    by : (ws ≡ []) ⊎ HasLast ws → (0 < length ws) × Contains ws w
    by (inl n) = absurd (let f : last_or None ws ≡ None = ap (last_or None) n in cc)
    by (inr h) =
        let is : Some h.last ≡ Some w = sym (last_or-push None h.front h.last) ∙ (ap (last_or None) (sym h.split) ∙ e) in
        let same : h.last ≡ w = cc in
        let long = ap (λ (xs : List Write). length xs) h.split ∙ length_push h.front h.last in
        (omega (arith, long), subst (λ xs. Contains xs w) (sym h.split) (subst (λ x. Contains (h.front ++ x ∷ []) w) (sym same) (Contains-append_right h.front (w ∷ []) w (Contains-here w []))))

module _ (slots : ℕ) (v : TablesView) (c : Core) (h : Stands slots v c) where
  consistent : AreConsistent slots v.ids c.cells
  consistent = subst (λ n. AreConsistent n v.ids c.cells) h.slots_are (subst (λ n. AreConsistent c.moment.state.slots n c.cells) h.ids h.sound.consistent)

  -- what can be laid can be restored
  pub lay-restores : (w : Write) → CanLay slots c.cells w → CanRestore slots v.ids c.cells w
  lay-restores w k = by w.id w.place w.value k
    where
      by : (id : ℕ) (place : Place) (value : ℕ) → CanLay slots c.cells (record { id = id; place = place; value = value }) → CanRestore slots v.ids c.cells (record { id = id; place = place; value = value })
      by id (Slot slot) value k = record { consistent = consistent; few = h.few; live = k.0; within = k.1.0; target_live = k.1.1 }
      by id Payload value k = k.0
      by id Whole value k = absurd k.1

  lay-ready : (held : List (HeldFrame slots)) → Agree c.cells held → (w : Write) → CanLay slots c.cells w → HoldsPagesOf held (objects_of_undo c.cells w) → IsReadyToRestore held v.zeros w
  lay-ready held agree w k pages = by w.id w.place w.value k pages
    where
      by : (id : ℕ) (place : Place) (value : ℕ) → CanLay slots c.cells (record { id = id; place = place; value = value }) → HoldsPagesOf held (objects_of_undo c.cells (record { id = id; place = place; value = value })) → IsReadyToRestore held v.zeros (record { id = id; place = place; value = value })
      by id (Slot slot) value k pages = record { ids = v.ids; cells = c.cells; agree = agree; marks = h.zeros; can = record { consistent = consistent; few = h.few; live = k.0; within = k.1.0; target_live = k.1.1 }; pages = pages }
      by id Payload value k pages = let l = live-id h id k.0 in record { cells = c.cells; agree = agree; above = l.above; small = id-small id l.few; live = k.0; page = pages.0 }
      by id Whole value k pages = absurd k.1

  -- the record of laying it fits, closes no cycle, and frees no cell
  lay-fits : (pass : ℕ) (w : Write) → CanLay slots c.cells w → FitsCells c.cells (logged_by_undo c.cells pass w) × LaysWell c.cells (logged_by_undo c.cells pass w) × ((y : ℕ) → is_live c.cells y ≡ true → is_live (after_cell_record slots c.cells (logged_by_undo c.cells pass w)) y ≡ true)
  lay-fits pass w k = by w.id w.place w.value k
    where
      by : (id : ℕ) (place : Place) (value : ℕ) → (let w : Write = record { id = id; place = place; value = value } in CanLay slots c.cells w → FitsCells c.cells (logged_by_undo c.cells pass w) × LaysWell c.cells (logged_by_undo c.cells pass w) × ((y : ℕ) → is_live c.cells y ≡ true → is_live (after_cell_record slots c.cells (logged_by_undo c.cells pass w)) y ≡ true))
      by id (Slot slot) value k =
          let place = slot-place slots slot h.counted k.1.0 in
          let can : CanChange slots v.ids c.cells id slot value = record { consistent = consistent; few = h.few; live = k.0; within = k.1.0; target_live = k.1.1 } in
          let k2 = restored_change c.cells id slot value in (
            undo-fits slots v.ids c.cells id slot value can pass place,
            undo-lays_well c.cells pass id slot value place,
            λ y e. ap (λ (cs : List Cell). is_live cs y) (after-undo slots c.cells pass id slot value place) ∙ (relinked-live c.cells id slot (record { target = value; bit = k2.new_bit }) y ∙ e),
          )
      by id Payload value k = ((k.0, refl), tt, λ y e. edit-keeps (λ (x : Cell). x.live) c.cells id y (pays value) (λ x. refl) ∙ e)
      by id Whole value k = absurd k.1

  module _ (pass : ℕ) (kept : Running) (here : running_at v.transactions pass ≡ Some kept) (x : Write) (last : last_or None kept.replaced ≡ Some x) where
    can : CanLay slots c.cells x
    can = h.restorable pass kept here x (last-among kept.replaced x last).1

    pub ready-restore : (held : List (HeldFrame slots)) → Agree c.cells held → HoldsPagesOf held (option_map_or (objects_of_undo c.cells) (next_to_restore c.moment pass) []) → IsReadyToRestore held v.zeros x
    ready-restore held agree pages =
        let a = active-of h pass kept here in
        let next = next-kept slots c.moment pass kept a.transaction h.slots_are a.found a.runs ∙ last in
        lay-ready held agree x can (subst (λ (o : Option Write). HoldsPagesOf held (option_map_or (objects_of_undo c.cells) o [])) next pages)

    pub undoes-step : (held new : List (HeldFrame slots)) (n : ℕ) (marks : List Bool) (logged : CellRecord) → Agree c.cells held → Restores held new v.zeros marks pass x logged → n + 1 ≡ v.owed
        → Undoes slots v (record v { zeros = marks; transactions = changed_at pass undoing v.transactions; owed = n; round = touched_by_record v.round (Some logged) }) c held new pass logged
    undoes-step held new n marks logged agree restores owed =
        let a = active-of h pass kept here in
        let done = restores v.ids c.cells agree (lay-restores x can) in
        let f = lay-fits pass x can in
        let k = subst (λ (r : CellRecord). IsChanged c.cells (after_cell_record slots c.cells r) held new v.zeros marks) done.0 done.1 in
        subst (λ (r : CellRecord). Undoes slots v (record v { zeros = marks; transactions = changed_at pass undoing v.transactions; owed = n; round = touched_by_record v.round (Some r) }) c held new pass r) (sym done.0)
        (undoes slots v c h pass kept a.transaction a.found a.runs (last-among kept.replaced x last).0 held new n marks x here last f.0 f.1 k.agree k.elsewhere (k.marks_are h.zeros) f.2 can owed)

-- whatever the tables stand for, one write of the client is undone
pub undoes-one : {slots : ℕ} (v : TablesView) (held new : List (HeldFrame slots)) (n : ℕ) (marks : List Bool) (pass : ℕ) (kept : Running) (x : Write) (logged : CellRecord) → running_at v.transactions pass ≡ Some kept → last_or None kept.replaced ≡ Some x → Restores held new v.zeros marks pass x logged
    → n + 1 ≡ v.owed → UndoesOne slots v (record v { zeros = marks; transactions = changed_at pass undoing v.transactions; owed = n; round = touched_by_record v.round (Some logged) }) held new pass logged
undoes-one {slots} v held new n marks pass kept x logged here last restores owed c h agree = undoes-step slots v c h pass kept here x last held new n marks logged agree restores owed

-- what the tables say of the last write of a client that has this transaction
pub last-of : (entries : List (ℕ × Running)) (pass : ℕ) (kept : Running) (result : Option Write) → running_at entries pass ≡ Some kept → option_map_or (λ t. last_or None t.replaced) (running_at entries pass) None ≡ result → last_or None kept.replaced ≡ result
last-of entries pass kept result here e = sym (ap (λ (o : Option Running). option_map_or (λ t. last_or None t.replaced) o None) here) ∙ e

-- a list without a last item has none
pub no-last : (ws : List Write) → last_or None ws ≡ None → ws ≡ []
no-last ws e = by (ends ws)
  where
    by : (ws ≡ []) ⊎ HasLast ws → ws ≡ []
    by (inl n) = n
    by (inr h) = absurd (let f : Some h.last ≡ None = sym (last_or-push None h.front h.last) ∙ (ap (last_or None) (sym h.split) ∙ e) in cc)

-- and a list with one isn't empty
pub some-last : (ws : List Write) (w : Write) → last_or None ws ≡ Some w → 0 < length ws
some-last ws w e = (last-among ws w e).0
