-- What a plan does, from the tables and the held pages alone.
use Rattle.std.proofs.Common.{◌≡◌, ℕ, ◌<◌, List, Bool, true, refl, sym, ap, ◌∙◌, subst, Option, Some, None, map, arith, ◌+◌, ◌++◌, IfSome}
use Rattle.std.specs.Prelude.{slice_index_or, ◌||◌, ◌==◌, if◌then◌else◌}
use Rattle.plain_model.specs.declared.calls.Call.{Call as TransactionCall}
use Rattle.plain_model.specs.declared.calls.Call.TheVariants as call
use Rattle.plain_model.specs.declared.calls.Reply.TheVariants as reply
use Rattle.plain_model.specs.declared.write.Place.TheVariants.{Payload}
use Rattle.plain_model.specs.declared.write.Write.{Write}
use Rattle.plain_model.specs.ActiveTransaction.{ActiveTransaction}
use Rattle.plain_model.specs.Machine.{register_id, nonzero, transaction_of, is_stored}
use Rattle.plain_model.specs.History.{Moment}
use Rattle.strict_locks.specs.Locks.{Table, holders_of, is_sharer, StandsInWayOfOwn, Nobody, AddsShare, AddsOwner}
use Rattle.log_record.specs.declared.cell_record.CellRecord.TheVariants as logs
use Rattle.cell_page.specs.declared.cell.Cell.{Cell}
use Rattle.cell_page.specs.Format.{page_of_id}
use Rattle.cell_page.specs.Stored.{cell_of}
use Rattle.cell_model.specs.Cells.{Cell as StoredCell, cell_at, pointer_at, pointer_in, is_live, edit, pays, blank_cell}
use Rattle.store_model.specs.Core.{Core}
use Rattle.cell_model.specs.Consistent.{AreConsistent}
use Rattle.strength_counts.proofs.Slots.{target_in-pointers}
use Rattle.core_store.specs.declared.three.HeldFrame.{HeldFrame}
use Rattle.core_store.specs.declared.plan.Plan.TheVariants as plan
use Rattle.core_store.specs.Changes.{has_no_strong}
use Rattle.core_store.specs.FreeIds.{Takes}
use Rattle.core_store.specs.Frames.{is_held, Agree, IsSameElsewhere}
use Rattle.core_store.specs.RoundView.{RoundView}
use Rattle.core_store.specs.Slots.{CanChange, IsReadyToChange, IsReadyToEdit}
use Rattle.core_store.specs.Transactions.{Running, just_begun, loaded, writing, running_at}
use Rattle.core_store.specs.Tables.{TablesView, changed_at}
use Rattle.core_store.specs.Stands.{owns_in, shares_in, Stands, Answers}
use Rattle.core_store.specs.Ready.{IsReady, OwnsToWrite, Does}
use Rattle.core_store.proofs.BeginLaws.{answers-begin}
use Rattle.core_store.proofs.MakeLaws.{answers-make}
use Rattle.core_store.proofs.MapLaws.{PutsAt}
use Rattle.core_store.proofs.NameLaws.{named_more}
use Rattle.core_store.proofs.PageLaws.{id-small, elsewhere-edit}
use Rattle.core_store.proofs.PlanActive.{contradict}
use Rattle.core_store.proofs.PlanLaws.{Grants, IsLiveId, GrantsStore, granted-begin, granted-read, granted-get, granted-release, granted-set, granted-store, granted-make}
use Rattle.core_store.proofs.ReadLaws.{answers-read, answers-get}
use Rattle.core_store.proofs.SlotLaws.{pays-marks, make-marks}
use Rattle.core_store.proofs.StepLaws.{Serves}
use Rattle.core_store.proofs.SetLaws.{answers-set}
use Rattle.core_store.proofs.ReleaseLaws.{answers-release}
use Rattle.strict_locks.specs.Locks.{GivesBack, only_shares}
use Rattle.store_model.specs.Steps.{held_ids}

pub serves : {slots : ℕ} {v : TablesView} {m : Moment} {pass : ℕ} {c : TransactionCall} → (g : Grants slots v m pass c) → Serves slots v m pass c g.kept g.transaction
serves g = record { here = g.kept_is; found = g.found; runs = g.runs; granted = g.unrefused }

-- what a cell has in a slot is what the store's cell names there
pub slot-target : {slots : ℕ} (cells : List StoredCell) (id slot : ℕ) (c : Cell slots) → cell_of c ≡ cell_at cells id → slice_index_or c.slots slot 0 ≡ (pointer_at cells id slot).target
slot-target cells id slot c e = sym (target_in-pointers c.bits 0 c.slots slot) ∙ ap (λ (x : StoredCell). (pointer_in x slot).target) e

-- ---- the ids of a plan

pub small-live : (cells : List StoredCell) (ids id : ℕ) → IsLiveId cells ids id → (0 < id) × (id < 65536)
small-live cells ids id k = (k.above, id-small id k.few)

module _ {slots : ℕ} (v : TablesView) (held : List (HeldFrame slots)) (pass : ℕ) where
  pub small-read : (id slot into : ℕ) → IsReady v held pass (plan.Read id slot into) → (0 < id) × (id < 65536)
  small-read id slot into r = let g = granted-read r.standing.stands pass r.granted.0 slot into id r.granted.2 in small-live r.standing.core.cells _ id g.names.there

  pub small-get : (id : ℕ) → IsReady v held pass (plan.Get id) → (0 < id) × (id < 65536)
  small-get id r = let g = granted-get r.standing.stands pass r.granted.0 id r.granted.2 in small-live r.standing.core.cells _ id g.names.there

  pub small-set : (id value : ℕ) → IsReady v held pass (plan.Set id value) → (0 < id) × (id < 65536)
  small-set id value r = let g = granted-set r.standing.stands pass r.granted.0 value id r.granted.2 in small-live r.standing.core.cells _ id g.names.there

  pub small-store : (id slot target : ℕ) → IsReady v held pass (plan.Store id slot target) → (0 < id) × (id < 65536)
  small-store id slot target r = let g = granted-store r.standing.stands pass r.granted.0 slot r.granted.1 id target r.granted.3 r.granted.4 in small-live r.standing.core.cells _ id g.names.there

  pub small-make : (id into : ℕ) → IsReady v held pass (plan.Make id into) → (0 < id) × (id < 65536)
  small-make id into r = let g = granted-make r.standing.stands pass into id r.granted.1 r.granted.2 in (g.is.0, id-small id g.few)

  -- a store can change its slot
  pub can-store : (core : Core) (id slot target r : ℕ) (source : Option ℕ) → (h : Stands slots v core) → slot < slots → GrantsStore slots v core.cells core.moment pass r slot source id target → CanChange slots v.ids core.cells id slot target
  can-store core id slot target r source h within g = record {
    consistent = subst (λ n. AreConsistent n v.ids core.cells) h.slots_are (subst (λ n. AreConsistent core.moment.state.slots n core.cells) h.ids h.sound.consistent);
    few = h.few;
    live = g.names.there.live;
    within = within;
    target_live = λ n. (g.target_there n).live;
  }

  pub ready-store : (id slot target : ℕ) → IsReady v held pass (plan.Store id slot target) → IsReadyToChange held v.zeros id slot target
  ready-store id slot target r =
      let s = r.standing in
      let g = granted-store s.stands pass r.granted.0 slot r.granted.1 id target r.granted.3 r.granted.4 in
      record { ids = v.ids; cells = s.core.cells; agree = s.agree; marks = s.stands.zeros; can = can-store s.core id slot target r.granted.0 r.granted.1 s.stands r.in_range g; pages = r.pages }

  pub ready-set : (id value : ℕ) → IsReady v held pass (plan.Set id value) → IsReadyToEdit held id
  ready-set id value r =
      let k = small-set id value r in
      let g = granted-set r.standing.stands pass r.granted.0 value id r.granted.2 in
      record { cells = r.standing.core.cells; agree = r.standing.agree; above = k.0; small = k.1; live = g.names.there.live; page = r.pages.0 }

  -- ---- what a plan does

  pub does-begin : (ts : List (ℕ × Running)) (n : ℕ) → PutsAt v.transactions ts pass just_begun → n ≡ v.owed + 1 → Does v (record v { transactions = ts; owed = n }) held held pass plan.Begin (record { reply = reply.Done; logged = Some (logs.Begin pass) })
  does-begin ts n put more c w core h agree =
      let none = (granted-begin h pass w.1).0 in
      subst (λ (c : TransactionCall). Answers slots v (record v { transactions = ts; owed = n }) core held held pass c reply.Done (Some (logs.Begin pass))) (sym w.0) (answers-begin slots v ts n core held pass h agree none put more)

  pub does-read : (locks : Table) (id slot into : ℕ) (cell : Cell slots) → AddsShare v.locks locks pass id → ((cells : List StoredCell) → Agree cells held → cell_of cell ≡ cell_at cells id)
      → (let value = slice_index_or cell.slots slot 0 in
      Does v (record v { locks = locks; transactions = changed_at pass (loaded into (nonzero value)) v.transactions }) held held pass (plan.Read id slot into) (record { reply = reply.Id value; logged = None }))
  does-read locks id slot into cell adds stored c w core h agree =
      let g = granted-read h pass w.0 slot into id w.2 in
      let t = g.grants.transaction in
      let value = slot-target core.cells id slot cell (stored core.cells agree) in
      let W : ℕ → TablesView = λ value. record v { locks = locks; transactions = changed_at pass (loaded into (nonzero value)) v.transactions } in
      let main = answers-read slots v core held h agree locks pass w.0 g.grants.kept t (subst (λ x. AddsShare v.locks locks pass x) (sym g.names.id_is) adds) slot into (serves g.grants) in
      let at_id = subst (λ x. let value = (pointer_at core.cells x slot).target in Answers slots v (W value) core held held pass (call.Read w.0 slot into) (reply.Id value) None) g.names.id_is main in
      let at_value = subst (λ value. Answers slots v (W value) core held held pass (call.Read w.0 slot into) (reply.Id value) None) (sym value) at_id in
      subst (λ (c : TransactionCall). let value = slice_index_or cell.slots slot 0 in Answers slots v (W value) core held held pass c (reply.Id value) None) (sym w.1) at_value

  pub does-get : (locks : Table) (id : ℕ) (cell : Cell slots) → AddsShare v.locks locks pass id → ((cells : List StoredCell) → Agree cells held → cell_of cell ≡ cell_at cells id)
      → Does v (record v { locks = locks }) held held pass (plan.Get id) (record { reply = reply.Pay cell.payload; logged = None })
  does-get locks id cell adds stored c w core h agree =
      let g = granted-get h pass w.0 id w.2 in
      let value : cell.payload ≡ (cell_at core.cells id).payload = ap (λ (x : StoredCell). x.payload) (stored core.cells agree) in
      let main = answers-get slots v core held h agree locks pass w.0 g.grants.kept g.grants.transaction (subst (λ x. AddsShare v.locks locks pass x) (sym g.names.id_is) adds) (serves g.grants) in
      let at_id = subst (λ x. Answers slots v (record v { locks = locks }) core held held pass (call.GetPay w.0) (reply.Pay (cell_at core.cells x).payload) None) g.names.id_is main in
      let at_value = subst (λ value. Answers slots v (record v { locks = locks }) core held held pass (call.GetPay w.0) (reply.Pay value) None) (sym value) at_id in
      subst (λ (c : TransactionCall). Answers slots v (record v { locks = locks }) core held held pass c (reply.Pay cell.payload) None) (sym w.1) at_value

  pub does-release : (locks : Table) (references : ℕ → List ℕ) (id : ℕ) (registers : List (Option ℕ)) → GivesBack v.locks locks pass id → IfSome (running_at v.transactions pass) (λ t. registers ≡ t.registers)
      → ((p : ℕ) → references p ≡ (if p == pass then v.references p ++ held_ids registers else v.references p))
      → Does v (record v { locks = locks; references = references }) held held pass (plan.Release id) (record { reply = reply.Done; logged = None })
  does-release locks references id registers gives same named c w core h agree =
      let g = granted-release h pass w.0 id w.2 in
      let t = g.grants.transaction in
      let is : registers ≡ g.grants.kept.registers = subst (λ (o : Option Running). IfSome o (λ t. registers ≡ t.registers)) g.grants.kept_is same in
      let main = answers-release slots v core held h agree locks references pass w.0 g.grants.kept t (subst (λ x. GivesBack v.locks locks pass x) (sym g.names.id_is) gives) (subst (λ x. only_shares (holders_of v.locks x) pass ≡ true) (sym g.names.id_is) w.2.1)
      (subst (λ rs. (p : ℕ) → references p ≡ (if p == pass then v.references p ++ held_ids rs else v.references p)) is named) (serves g.grants) in
      subst (λ (c : TransactionCall). Answers slots v (record v { locks = locks; references = references }) core held held pass c reply.Done None) (sym w.1) main

  pub does-set : (new : List (HeldFrame slots)) (locks : Table) (id value noted old n : ℕ) → n ≡ v.owed + 1 → AddsOwner v.locks locks pass id → is_held held (page_of_id id) ≡ true → ((cells : List StoredCell) → Agree cells held → noted ≡ (cell_at cells id).payload) → ((cells : List StoredCell) → Agree cells held → old ≡ (cell_at cells id).payload)
      → ((cells : List StoredCell) → Agree cells held → is_live cells id ≡ true → Agree (edit cells id (pays value)) new)
      → Does v (record v { locks = locks; transactions = changed_at pass (writing (record { id = id; place = Payload; value = noted })) v.transactions; owed = n }) held new pass (plan.Set id value) (record { reply = reply.Done; logged = Some (logs.Pay pass id old value) })
  does-set new locks id value noted old n more adds page noted_was was stored c w core h agree =
      let g = granted-set h pass w.0 value id w.2 in
      let cells = core.cells in
      let live = g.names.there.live in
      let P : TransactionCall → ℕ → ℕ → ℕ → Type 0 = λ c x k o. Answers slots v (record v { locks = locks; transactions = changed_at pass (writing (record { id = x; place = Payload; value = k })) v.transactions; owed = n }) core held new pass c reply.Done (Some (logs.Pay pass x o value)) in
      let Q : ℕ → Type 0 = λ x. (AddsOwner v.locks locks pass x → Nobody (StandsInWayOfOwn (holders_of v.locks x) pass) → is_live cells x ≡ true → Agree (edit cells x (pays value)) new → IsSameElsewhere cells (edit cells x (pays value)) held → v.zeros ≡ map has_no_strong (edit cells x (pays value)) → P (call.SetPay w.0 value) x (cell_at cells x).payload (cell_at cells x).payload) in
      let main : Q (register_id g.grants.transaction w.0) = λ a b l s e z. answers-set slots v core held new h locks pass w.0 n g.grants.kept g.grants.transaction a b value (serves g.grants) more l s e z in
      let at_id = subst Q g.names.id_is main adds w.2.1 live (stored cells agree live) (elsewhere-edit cells held id (pays value) page) (h.zeros ∙ sym (pays-marks cells id value)) in
      let at_old = subst (λ o. P (call.SetPay w.0 value) id (cell_at cells id).payload o) (sym (was cells agree)) at_id in
      let at_noted = subst (λ k. P (call.SetPay w.0 value) id k old) (sym (noted_was cells agree)) at_old in
      subst (λ (c : TransactionCall). P c id noted old) (sym w.1) at_noted

  pub does-make : (new : List (HeldFrame slots)) (locks : Table) (free : List ℕ) (references : ℕ → List ℕ) (id into : ℕ) → AddsOwner v.locks locks pass id → Nobody (StandsInWayOfOwn (holders_of v.locks id) pass) → Takes v.free free id
      → ((p : ℕ) → references p ≡ named_more v.references pass id p) → is_held held (page_of_id id) ≡ true → ((cells : List StoredCell) → Agree cells held → Agree (edit cells id (λ _. blank_cell true slots)) new)
      → Does v (record v { free = free; locks = locks; transactions = changed_at pass (loaded into (Some id)) v.transactions; references = references }) held new pass (plan.Make id into) (record { reply = reply.Id id; logged = Some (logs.Make pass id) })
  does-make new locks free references id into adds nobody removed noted page stored c w core h agree =
      let g = granted-make h pass into id w.1 w.2 in
      let cells = core.cells in
      let bottom = g.is.0 in
      let top = g.is.1 in
      let sized = h.sound.consistent.sized in
      let blank = h.sound.consistent.empty id (omega (arith, top, sized)) g.not_live in
      let zero : (cell_at cells id).strong ≡ 0 = ap (λ (x : StoredCell). x.strong) blank in
      subst (λ (c : TransactionCall). Answers slots v (record v { free = free; locks = locks; transactions = changed_at pass (loaded into (Some id)) v.transactions; references = references }) core held new pass c (reply.Id id) (Some (logs.Make pass id))) (sym w.0)
      (answers-make slots v core held new h locks free references pass into id g.grants.kept g.grants.transaction adds nobody (serves g.grants) g.id_is (λ e. absurd (omega (arith, bottom, e))) removed noted (stored cells agree) (elsewhere-edit cells held id (λ _. blank_cell true slots) page) (h.zeros ∙ sym (make-marks slots cells id zero)))

  -- nobody holds what is free
  pub nobody-free : (id into : ℕ) → IsReady v held pass (plan.Make id into) → Nobody (StandsInWayOfOwn (holders_of v.locks id) pass)
  nobody-free id into r q b =
      let h = r.standing.stands in
      let g = granted-make h pass into id r.granted.1 r.granted.2 in
      held_none (transaction_of r.standing.core.moment.state q) refl (sym (ap (λ b. b || is_sharer (holders_of v.locks id) q) (h.owners id q) ∙ ap (λ b. owns_in (transaction_of r.standing.core.moment.state q) id || b) (h.sharers id q)) ∙ b.1)
    where
      held_none : (o : Option ActiveTransaction) → transaction_of r.standing.core.moment.state q ≡ o → (owns_in o id || shares_in o id) ≡ true → ⊥
      held_none None e f = absurd (cc)
      held_none (Some u) e f =
          let h = r.standing.stands in
          let g = granted-make h pass into id r.granted.1 r.granted.2 in
          contradict (is_stored r.standing.core.moment.state.stored id) ((h.sound.state.transactions q u e).held_stored id f) g.unstored

-- the tables after a client owns an object, and has noted what its write replaced
pub noted-view : (v w : TablesView) (pass id : ℕ) (x : Write) → OwnsToWrite v w pass id x → w ≡ record v { locks = w.locks; transactions = changed_at pass (writing x) v.transactions; owed = w.owed }
noted-view v w pass id x n = view-same v w n.ids n.free n.zeros n.transactions n.references n.queue n.round
  where
    view-same : (v w : TablesView) → w.ids ≡ v.ids → w.free ≡ v.free → w.zeros ≡ v.zeros → w.transactions ≡ changed_at pass (writing x) v.transactions → w.references ≡ v.references → w.queue ≡ v.queue → w.round ≡ v.round
        → w ≡ record v { locks = w.locks; transactions = changed_at pass (writing x) v.transactions; owed = w.owed }
    view-same v w a b c d e f g =
        ap (λ (i : ℕ). let y : TablesView = record w { ids = i } in y) a
        ∙ (ap (λ (i : List ℕ). let y : TablesView = record w { ids = v.ids; free = i } in y) b
        ∙ (ap (λ (i : List Bool). let y : TablesView = record w { ids = v.ids; free = v.free; zeros = i } in y) c
        ∙ (ap (λ (i : List (ℕ × Running)). let y : TablesView = record w { ids = v.ids; free = v.free; zeros = v.zeros; transactions = i } in y) d
        ∙ (ap (λ (i : ℕ → List ℕ). let y : TablesView = record w { ids = v.ids; free = v.free; zeros = v.zeros; transactions = changed_at pass (writing x) v.transactions; references = i } in y) e
        ∙ (ap (λ (i : List ℕ). let y : TablesView = record w { ids = v.ids; free = v.free; zeros = v.zeros; transactions = changed_at pass (writing x) v.transactions; references = v.references; queue = i } in y) f
        ∙ ap (λ (i : RoundView). let y : TablesView = record w { ids = v.ids; free = v.free; zeros = v.zeros; transactions = changed_at pass (writing x) v.transactions; references = v.references; queue = v.queue; round = i } in y) g)))))
