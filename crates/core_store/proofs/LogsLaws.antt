-- What is noted of an event is what the laws of restart ask for.
use Rattle.std.proofs.Common.{◌≡◌, ◌≢◌, ℕ, ◌-◌, ◌<◌, List, [], Bool, true, false, refl, sym, ap, ap₂, ◌∙◌, arith, take, Option, Some, None, eq-eqb, ne_eqb}
use Rattle.std.specs.Prelude.{◌==◌, not, if◌then◌else◌, count_by, option_map}
use Rattle.std.specs.List.{last_or}
use Rattle.std.specs.Option.{option_map_or}
use Rattle.std.proofs.lemmas.Bool.{cond-true, cond-false}
use Rattle.plain_model.specs.declared.write.Place.{Place}
use Rattle.plain_model.specs.declared.write.Place.TheVariants.{Slot, Payload, Whole}
use Rattle.plain_model.specs.declared.calls.Call.{Call as TransactionCall}
use Rattle.plain_model.specs.declared.calls.Call.TheVariants.{Begin as BeginCall, Read, Make as MakeCall, Store as StoreCall, GetPay, Release, SetPay, Commit as CommitCall, Abort}
use Rattle.plain_model.specs.declared.calls.Reply.{Reply}
use Rattle.plain_model.specs.declared.calls.Reply.TheVariants.{Done}
use Rattle.plain_model.specs.declared.calls.Entry.TheVariants.{Call, Undo as UndoEntry}
use Rattle.plain_model.specs.Graphs.{applied}
use Rattle.plain_model.specs.ActiveTransaction.{ActiveTransaction}
use Rattle.plain_model.specs.Machine.{transaction_of, refusal_of, refusal_in, refusal_out, register_id}
use Rattle.plain_model.specs.History.{can_be_undone, left_to_undo}
use Rattle.cell_model.specs.Cells.{Cell, cell_at, pointer_at, same}
use Rattle.cell_model.specs.Records.{Undo, UndoPay}
use Rattle.store_model.specs.Core.{Core, Round}
use Rattle.store_model.specs.Sound.{IsSound}
use Rattle.restart_laws.specs.Restored.{weak_bit, undo_of, CanBeUndone}
use Rattle.restart_laws.specs.Told.{change_of, undos_left, told, HasPlace, HavePlaces}
use Rattle.restart_laws.specs.Logged.{Logs, LogsIn, LogsCall}
use Rattle.restart_laws.proofs.ToldLaws.{next-change}
use Rattle.restart_laws.proofs.LastLaws.{last-place, last-undone, last-told}
use Rattle.log_record.specs.declared.cell_record.CellRecord.{CellRecord}
use Rattle.log_record.specs.declared.cell_record.CellRecord.TheVariants as logs
use Rattle.log_record.specs.Records.{record_of, payload_place}
use Rattle.core_store.specs.declared.act.Act.{Act}
use Rattle.core_store.specs.declared.act.Act.TheVariants as act
use Rattle.core_store.specs.Changes.{is_counted_strong, bit_for, stored_change}
use Rattle.core_store.specs.Collects.{Collects, entry_of}
use Rattle.core_store.specs.Logged.{logged_by, logged_by_undo, record_in, stored_target}
use Rattle.core_store.specs.Replaced.{before_write, replaced, to_restore, next_to_restore}
use Rattle.core_store.proofs.ReplacedLaws.{last-nth}

-- the bit of a weak pointer
weak-same : (cells : List Cell) (target : ℕ) → bit_for cells target false ≡ weak_bit cells target
weak-same cells target = ap (λ b. if target == 0 then false else b) (by (cell_at cells target).bit)
  where
    by : (b : Bool) → same b false ≡ not b
    by true = refl
    by false = refl

-- the record of the undo, in both words
undo-same : (cells : List Cell) (slots pass id : ℕ) (p : Place) (value old : ℕ) → HasPlace slots p → slots < payload_place → CanBeUndone cells (record { id = id; place = p; old = old; new = value })
    → record_of (logged_by_undo cells pass (record { id = id; place = p; value = old })) ≡ undo_of cells pass (record { id = id; place = p; old = old; new = value })
undo-same cells slots pass id (Slot slot) value old few size can =
    let target = (pointer_at cells id slot).target in
    let strong = is_counted_strong cells (pointer_at cells id slot) in
    let l = few in
    let apart : slot ≢ payload_place = λ e. absurd (omega (arith, l, size, e)) in
    cond-false (slot == payload_place) (UndoPay pass id target old) (Undo pass id slot target strong old (bit_for cells old false)) (ne_eqb slot payload_place apart)
    ∙ ap₂ (λ t b. Undo pass id slot t strong old b) can.left (weak-same cells old)
undo-same cells slots pass id Payload value old few size can =
    let pay = (cell_at cells id).payload in
    cond-true (payload_place == payload_place) (UndoPay pass id pay old) (Undo pass id payload_place pay false old false) (eq-eqb payload_place payload_place refl)
    ∙ ap (λ v. UndoPay pass id v old) can.left
undo-same cells slots pass id Whole value old few size can = absurd few

active-some : (o : Option ActiveTransaction) (k : ℕ) → 0 < option_map_or (λ (t : ActiveTransaction). count_by can_be_undone t.writes) o 0 - k → (t : ActiveTransaction) × (o ≡ Some t) × (k < count_by can_be_undone t.writes)
active-some (Some t) k l = (t, refl, omega (arith, l))
active-some None k l = absurd (omega (arith, l))

-- the undo of a write, where slots are below the number that stands for the payload
pub undo-logs : (c : Core) → IsSound c → HavePlaces c.moment.state.slots (told c.moment) → c.moment.state.slots < payload_place → (pass : ℕ) → 0 < left_to_undo c.moment pass
    → Logs c (UndoEntry pass) (option_map record_of (option_map (logged_by_undo c.cells pass) (next_to_restore c.moment pass)))
undo-logs c s places size pass l =
    let m = c.moment in
    let found = active-some (transaction_of m.state pass) (m.undone pass) l in
    let t = found.0 in
    let a = found.1 in
    let q = next-change m pass t found.2 in
    let h = q.nth in
    let g = applied m.state.slots m.state.committed h.earlier in
    let n = undos_left m (pass, t) in
    let one = last-undone c s places pass t a found.2 in
    let left : left_to_undo m pass ≡ n = ap (λ (o : Option ActiveTransaction). option_map_or (λ (t : ActiveTransaction). count_by can_be_undone t.writes) o 0 - m.undone pass) a in
    let restore : to_restore m pass ≡ take n (replaced m.state.slots m.state.committed t.writes) =
    ap (λ (o : Option ActiveTransaction). option_map_or (λ (t : ActiveTransaction). take (left_to_undo m pass) (replaced m.state.slots m.state.committed t.writes)) o []) a
    ∙ ap (λ k. take k (replaced m.state.slots m.state.committed t.writes)) left in
    let next : next_to_restore m pass ≡ Some (before_write g h.write) =
    ap (last_or None) restore ∙ last-nth m.state.slots m.state.committed t.writes n (record { earlier = h.earlier; write = h.write; later = h.later; split = h.split; undoable = h.undoable; count = h.count }) in
    let same : record_of (logged_by_undo c.cells pass (before_write g h.write)) ≡ undo_of c.cells pass (change_of g h.write) =
    undo-same c.cells m.state.slots pass h.write.id h.write.place h.write.value (change_of g h.write).old (last-place c s places pass t a found.2) size one.can in
    (change_of g h.write, last-told c s places pass t a found.2, ap (λ o. option_map record_of (option_map (logged_by_undo c.cells pass) o)) next ∙ ap Some same)

-- ---- the other events

-- a call
pub call-logs : (c : Core) (pass : ℕ) (call : TransactionCall) (reply : Reply) → (call ≡ Abort → transaction_of c.moment.state pass ≡ None) → Logs c (Call pass call reply) (option_map record_of (logged_by c.moment.state c.cells pass call))
call-logs c pass call reply a = by (refusal_of c.moment.state pass call) refl (transaction_of c.moment.state pass) refl
  where
    by : (o : Option Reply) → refusal_of c.moment.state pass call ≡ o → (p : Option ActiveTransaction) → transaction_of c.moment.state pass ≡ p
        → LogsCall c.moment.state c.cells pass call o p (option_map record_of (option_map_or (λ reply. None) o (option_map_or (λ t. record_in c.moment.state c.cells pass t call) p (Some (logs.Begin pass)))))
    by (Some refusal) r p f = refl
    by None r None f = refl
    by None r (Some t) f = in_transaction call (λ e. sym (a e) ∙ f)
      where
        in_transaction : (call : TransactionCall) → (call ≡ Abort → None ≡ Some t) → LogsIn c.moment.state c.cells pass t call (option_map record_of (record_in c.moment.state c.cells pass t call))
        in_transaction BeginCall n = refl
        in_transaction (Read r slot into) n = refl
        in_transaction (MakeCall into) n = refl
        in_transaction (StoreCall r slot source) n =
            let ch = stored_change c.cells (register_id t r) slot (stored_target t source) in
            (ch.old_strong, ch.new_bit, ch.new_strong, refl)
        in_transaction (GetPay r) n = refl
        in_transaction (Release r) n = refl
        in_transaction (SetPay r v) n = refl
        in_transaction CommitCall n = refl
        in_transaction Abort n = let no : None ≡ Some t = n refl in cc

-- the end of an abort
pub end-logs : (c : Core) (pass : ℕ) → (transaction_of c.moment.state pass ≢ None) → Logs c (Call pass Abort Done) (Some (record_of (logs.AbortEnd pass)))
end-logs c pass n = by (transaction_of c.moment.state pass) refl
  where
    by : (p : Option ActiveTransaction) → transaction_of c.moment.state pass ≡ p → LogsCall c.moment.state c.cells pass Abort (option_map_or (λ t. refusal_in c.moment.state pass t Abort) p (refusal_out Abort)) p (Some (record_of (logs.AbortEnd pass)))
    by None e = absurd (n e)
    by (Some t) e = refl

-- an event of the collector
pub collect-logs : (slots : ℕ) (c : Core) (a : Act) (logged : Option CellRecord) (queue : List ℕ) (round : Option Round) → Collects slots c a logged queue round → Logs c (entry_of logged) (option_map record_of logged)
collect-logs slots c which logged queue round h = by which logged h
  where
    by : (a : Act) (logged : Option CellRecord) → Collects slots c a logged queue round → Logs c (entry_of logged) (option_map record_of logged)
    by a None h = tt
    by a (Some (logs.Weaken id slot target)) h = tt
    by a (Some (logs.Strengthen id slot target)) h = tt
    by a (Some (logs.Flip id)) h = tt
    by a (Some (logs.CutDead id slot target was_strong)) h = tt
    by a (Some (logs.Free id)) h = refl
    by (act.Skip id) (Some r) h = absurd h
    by (act.Start id) (Some r) h = absurd h
    by (act.Scan id) (Some r) h = absurd h
    by act.Judge (Some r) h = absurd h
    by act.End (Some r) h = absurd h
    by act.Other (Some r) h = absurd h
    by act.Change (Some r) h = absurd h
