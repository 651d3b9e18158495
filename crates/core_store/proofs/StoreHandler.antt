-- What a store does, from the tables and the held pages alone.
use Rattle.std.proofs.Common.{◌≡◌, ℕ, ◌+◌, ◌<◌, List, ◌++◌, Bool, sym, subst, Some, map}
use Rattle.plain_model.specs.declared.calls.Call.{Call as TransactionCall}
use Rattle.plain_model.specs.declared.calls.Call.TheVariants as call
use Rattle.plain_model.specs.declared.calls.Reply.TheVariants as reply
use Rattle.plain_model.specs.declared.write.Place.TheVariants.{Slot}
use Rattle.plain_model.specs.Machine.{register_id}
use Rattle.strict_locks.specs.Locks.{Table, holders_of, StandsInWayOfOwn, Nobody, AddsOwner}
use Rattle.log_record.specs.Records.{FitsCells, LaysWell}
use Rattle.cell_model.specs.Cells.{Cell as StoredCell, pointer_at}
use Rattle.store_model.specs.Steps.{store_references}
use Rattle.core_store.specs.declared.three.HeldFrame.{HeldFrame}
use Rattle.core_store.specs.declared.plan.Plan.TheVariants as plan
use Rattle.core_store.specs.declared.slots.SlotChange.{SlotChange}
use Rattle.core_store.specs.Changes.{stored_change, store_record, after_change, has_no_strong}
use Rattle.core_store.specs.Frames.{Agree, IsSameElsewhere}
use Rattle.core_store.specs.Logged.{stored_target}
use Rattle.core_store.specs.Ready.{Does}
use Rattle.core_store.specs.References.{named_by}
use Rattle.core_store.specs.RoundView.{touched_by_record}
use Rattle.core_store.specs.Slots.{Changes}
use Rattle.core_store.specs.Stands.{Answers}
use Rattle.core_store.specs.Tables.{TablesView, changed_at}
use Rattle.core_store.specs.Transactions.{writing}
use Rattle.core_store.proofs.HandlerLaws.{serves, can-store}
use Rattle.core_store.proofs.NameLaws.{named_more}
use Rattle.core_store.proofs.PlanLaws.{granted-store}
use Rattle.core_store.proofs.SlotLaws.{store-fits, store-lays_well}
use Rattle.core_store.proofs.StoreNames.{named-stored}
use Rattle.core_store.proofs.WriteLaws.{answers-store}

-- the tables after a store
abbrev pub with_store : TablesView → ℕ → Table → List Bool → (ℕ → List ℕ) → ℕ → ℕ → ℕ → ℕ → ℕ → SlotChange → TablesView
with_store v pass locks marks references id slot target old n change =
    record v {
      zeros = marks;
      locks = locks;
      transactions = changed_at pass (writing (record { id = id; place = Slot slot; value = old })) v.transactions;
      owed = n;
      references = references;
      round = touched_by_record v.round (Some (store_record pass id slot target change));
    }

module _ {slots : ℕ} (v : TablesView) (held : List (HeldFrame slots)) (pass : ℕ) where
  pub does-store : (new : List (HeldFrame slots)) (locks : Table) (marks : List Bool) (between references : ℕ → List ℕ) (id slot target old n : ℕ) (change : SlotChange) → n ≡ v.owed + 1 → AddsOwner v.locks locks pass id → slot < slots
      → ((cells : List StoredCell) → Agree cells held → old ≡ (pointer_at cells id slot).target) → ((p : ℕ) → between p ≡ named_more v.references pass change.old_target p) → ((p : ℕ) → references p ≡ named_more between pass target p)
      → Changes held new v.zeros marks id slot target (λ cells. stored_change cells id slot target) change
      → Does v (with_store v pass locks marks references id slot target old n change) held new pass (plan.Store id slot target) (record { reply = reply.Done; logged = Some (store_record pass id slot target change) })
  does-store new locks marks between references id slot target old n change more adds within was noted1 noted2 changes c w core h agree =
      let g = granted-store h pass w.0 slot w.1 id target w.3 w.4 in
      let t = g.grants.transaction in
      let cells = core.cells in
      let can = can-store v held pass core id slot target w.0 w.1 h within g in
      let done = changes v.ids cells agree can in
      let P : TransactionCall → ℕ → ℕ → ℕ → Type 0 = λ c x y o. Answers slots v (with_store v pass locks marks references x slot y o n change) core held new pass c reply.Done (Some (store_record pass x slot y change)) in
      let Q : ℕ → ℕ → Type 0 = λ x y. (AddsOwner v.locks locks pass x → Nobody (StandsInWayOfOwn (holders_of v.locks x) pass) → change ≡ stored_change cells x slot y → FitsCells cells (store_record pass x slot y change) → LaysWell cells (store_record pass x slot y change) → Agree (after_change cells x slot y change) new
      → IsSameElsewhere cells (after_change cells x slot y change) held → marks ≡ map has_no_strong (after_change cells x slot y change) → ((p : ℕ) → references p ≡ named_by (core.refs ++ store_references pass change.old_target y) p) → P (call.Store w.0 slot w.1) x y (pointer_at cells x slot).target) in
      let main : Q (register_id t w.0) (stored_target t w.1) = λ a b i f l s e z r. answers-store slots v core h pass w.0 slot w.1 change g.grants.kept t (serves g.grants) held new locks marks references n a b within i f l s e z r more in
      let at_id : Q id (stored_target t w.1) = subst (λ x. Q x (stored_target t w.1)) g.names.id_is main in
      let at_target : Q id target = subst (λ y. Q id y) (sym g.target_is) at_id in
      let fits = subst (λ (k : SlotChange). FitsCells cells (store_record pass id slot target k)) (sym done.0) (store-fits slots v.ids cells id slot target can pass) in
      let lays = subst (λ (k : SlotChange). LaysWell cells (store_record pass id slot target k)) (sym done.0) (store-lays_well cells pass id slot target) in
      let end = at_target adds w.3.1 done.0 fits lays done.1.agree done.1.elsewhere (done.1.marks_are h.zeros) (λ p. named-stored v.references between references core.refs pass change.old_target target p (h.references p) (noted1 p) (noted2 p)) in
      subst (λ (c : TransactionCall). P c id target old) (sym w.2) (subst (λ o. P (call.Store w.0 slot w.1) id target o) (sym (was cells agree)) end)
