-- A transaction owns an object and writes its payload.
use Rattle.std.proofs.Common.{◌≡◌, ℕ, ◌+◌, arith, List, true, refl, sym, ap, ◌∙◌, Some, map}
use Rattle.std.proofs.lemmas.List.{length_push}
use Rattle.plain_model.specs.declared.write.Place.TheVariants.{Payload}
use Rattle.plain_model.specs.declared.write.Write.{Write}
use Rattle.plain_model.specs.declared.calls.Call.TheVariants.{SetPay}
use Rattle.plain_model.specs.declared.calls.Entry.TheVariants.{Call}
use Rattle.plain_model.specs.declared.calls.Reply.{Reply}
use Rattle.plain_model.specs.declared.calls.Reply.TheVariants.{Done}
use Rattle.plain_model.specs.ActiveTransaction.{ActiveTransaction}
use Rattle.plain_model.specs.Graphs.{applied}
use Rattle.plain_model.specs.Machine.{State, register_id, with_write, with_owned, blocks_owning}
use Rattle.plain_model.specs.History.{next}
use Rattle.strict_locks.specs.Locks.{Table, holders_of, StandsInWayOfOwn, Nobody, AddsOwner}
use Rattle.log_record.specs.declared.cell_record.CellRecord.TheVariants as logs
use Rattle.cell_model.specs.Cells.{Cell, cell_at, edit, pays, is_live}
use Rattle.store_model.specs.Core.{Core, payload_in}
use Rattle.store_model.specs.Sound.{IsSound}
use Rattle.store_model.proofs.CallLaws.{call-granted}
use Rattle.store_model.proofs.CallSound.{set-call, old-payload}
use Rattle.cell_model.proofs.EditLaws.{edit-keeps}
use Rattle.store_model.proofs.EndLaws.{transaction-active}
use Rattle.store_model.proofs.GrantLaws.{served}
use Rattle.core_store.specs.declared.three.HeldFrame.{HeldFrame}
use Rattle.core_store.specs.Changes.{has_no_strong}
use Rattle.core_store.specs.Events.{after_event}
use Rattle.core_store.specs.Frames.{Agree, IsSameElsewhere}
use Rattle.core_store.specs.Replaced.{before_write}
use Rattle.core_store.specs.Transactions.{Running, writing}
use Rattle.core_store.specs.Tables.{TablesView, changed_at}
use Rattle.core_store.specs.Stands.{Stands, Answers}
use Rattle.core_store.proofs.LockChanges.{Locked-own}
use Rattle.core_store.proofs.MapLaws.{puts-changed}
use Rattle.core_store.proofs.OwedSteps.{owed-with}
use Rattle.core_store.proofs.RestLaws.{HasRest-kept, links-paid, round-same, sound-untouched}
use Rattle.core_store.proofs.RunningLaws.{runs-writing, lays-push}
use Rattle.core_store.proofs.StepLaws.{Serves, logged-granted, after-granted, Stands-with}

pub answers-set : (slots : ℕ) (v : TablesView) (c : Core) (held new : List (HeldFrame slots)) (h : Stands slots v c) (locks : Table) (pass r n : ℕ) (kept : Running) (t : ActiveTransaction)
    → AddsOwner v.locks locks pass (register_id t r) → Nobody (StandsInWayOfOwn (holders_of v.locks (register_id t r)) pass) → (value : ℕ) → Serves slots v c.moment pass (SetPay r value) kept t → n ≡ v.owed + 1
    → (let id = register_id t r in
    let old = (cell_at c.cells id).payload in
    is_live c.cells id ≡ true → Agree (edit c.cells id (pays value)) new → IsSameElsewhere c.cells (edit c.cells id (pays value)) held → v.zeros ≡ map has_no_strong (edit c.cells id (pays value))
    → Answers slots v (record v { locks = locks; transactions = changed_at pass (writing (record { id = id; place = Payload; value = old })) v.transactions; owed = n }) c held new pass (SetPay r value) Done (Some (logs.Pay pass id old value)))
answers-set slots v c held new h locks pass r n kept t adds nobody value s owed live agree elsewhere marked =
    let id = register_id t r in
    let old = (cell_at c.cells id).payload in
    let y : Write = record { id = id; place = Payload; value = value } in
    let x : Write = record { id = id; place = Payload; value = old } in
    let u = with_write id Payload value (with_owned id t) in
    let w : TablesView = record v { locks = locks; transactions = changed_at pass (writing x) v.transactions; owed = n } in
    let d = after_event slots c (Call pass (SetPay r value) Done) (Some (logs.Pay pass id old value)) in
    let running = (served c.moment.state t r (blocks_owning c.moment.state pass id) s.granted).running in
    let none : c.moment.undone pass ≡ 0 = h.sound.none_undone (pass, t) (transaction-active c.moment.state h.sound.state pass t s.found) running in
    let was = old-payload c h.sound pass t s.found r value s.granted in
    let seen : x ≡ before_write (applied slots c.moment.state.committed t.writes) y =
    ap (λ (k : ℕ). let y : Write = record { id = id; place = Payload; value = k } in y) (sym was ∙ ap (λ (k : ℕ). payload_in (applied k c.moment.state.committed t.writes) id) h.slots_are) in
    let alive : (z : ℕ) → is_live c.cells z ≡ true → is_live (edit c.cells id (pays value)) z ≡ true = λ z e. edit-keeps (λ (c : Cell). c.live) c.cells id z (pays value) (λ c. refl) ∙ e in
    let runs = runs-writing slots c.moment.state.committed kept t u (c.moment.undone pass) y x s.runs none refl seen refl refl refl in
    let state = after-granted c.moment pass (SetPay r value) Done t s.found s.granted in
    let sound : IsSound d = sound-untouched (record c { cells = edit c.cells id (pays value); moment = next c.moment (Call pass (SetPay r value) Done) }) (set-call c h.sound pass t s.found r value old s.granted (live, refl) Done) in
    let more = length_push kept.replaced x in
    record {
      machine = sym (ap (λ (y : Reply × State). y.0) (call-granted c.moment.state pass t (SetPay r value) s.found s.granted));
      record_is = sym (logged-granted c.moment.state c.cells pass (SetPay r value) t s.found s.granted);
      moves = record { fits = (live, refl); lays = tt; agree = agree; elsewhere = elsewhere };
      stands = Stands-with slots v w c d pass (writing x kept) u h refl refl marked
          (puts-changed pass (writing x) kept v.transactions s.here)
          (Locked-own slots v c h pass t u s.found locks id adds nobody refl refl)
          runs
          state
          (λ q. refl)
          sound
          alive
          (lays-push slots c.cells (edit c.cells id (pays value)) kept x alive (h.restorable pass kept s.here) (live, tt))
          (HasRest-kept slots v w c d h refl refl refl refl (round-same c.round)
          (owed-with slots c d pass kept (writing x kept) t u h.sound sound state refl s.found s.runs runs v.owed n h.owed (omega (arith, owed, more))) refl refl (links-paid c.cells id value));
      round = refl;
    }
