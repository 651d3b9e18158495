-- A transaction shares an object and reads it.
use Rattle.std.proofs.Common.{◌≡◌, ℕ, List, refl, sym, ap, ◌∙◌, Option, None}
use Rattle.std.specs.Prelude.{slice_set}
use Rattle.plain_model.specs.declared.calls.Call.TheVariants.{Read, GetPay}
use Rattle.plain_model.specs.declared.calls.Entry.TheVariants.{Call}
use Rattle.plain_model.specs.declared.calls.Reply.{Reply}
use Rattle.plain_model.specs.declared.calls.Reply.TheVariants.{Id, Pay}
use Rattle.plain_model.specs.ActiveTransaction.{ActiveTransaction}
use Rattle.plain_model.specs.Machine.{State, step, register_id, nonzero, seen_slot, with_register, with_shared, with_transaction}
use Rattle.plain_model.specs.History.{next}
use Rattle.strict_locks.specs.Locks.{Table, AddsShare}
use Rattle.cell_model.specs.Cells.{cell_at, pointer_at}
use Rattle.store_model.specs.Core.{Core}
use Rattle.store_model.specs.Sound.{IsSound}
use Rattle.store_model.proofs.CallLaws.{call-granted}
use Rattle.store_model.proofs.CallSound.{read-call, get-call, read-reply, get-reply}
use Rattle.core_store.specs.declared.three.HeldFrame.{HeldFrame}
use Rattle.core_store.specs.Events.{after_event}
use Rattle.core_store.specs.Frames.{Agree}
use Rattle.core_store.specs.Transactions.{Running, loaded}
use Rattle.core_store.specs.Tables.{TablesView, changed_at}
use Rattle.core_store.specs.Stands.{IsRunning, Stands, Answers}
use Rattle.core_store.proofs.LockChanges.{Locked-share}
use Rattle.core_store.proofs.StepLaws.{Serves, logged-granted, after-granted, Stands-with}
use Rattle.core_store.proofs.MapLaws.{puts-changed}
use Rattle.core_store.proofs.OwedSteps.{owed-with}
use Rattle.core_store.proofs.RestLaws.{HasRest-same, round-same, sound-untouched}

same_value : (x : Reply × State) (a b : ℕ) (z : State) → x ≡ (Id a, z) → x.0 ≡ Id b → a ≡ b
same_value x a b z e f = cc

module _ (slots : ℕ) (v : TablesView) (c : Core) (held : List (HeldFrame slots)) (h : Stands slots v c) (agree : Agree c.cells held) (locks : Table) (pass r : ℕ) (kept : Running) (t : ActiveTransaction) (adds : AddsShare v.locks locks pass (register_id t r)) where
  pub answers-read : (slot into : ℕ) → Serves slots v c.moment pass (Read r slot into) kept t
      → (let value = (pointer_at c.cells (register_id t r) slot).target in
      Answers slots v (record v { locks = locks; transactions = changed_at pass (loaded into (nonzero value)) v.transactions }) c held held pass (Read r slot into) (Id value) None)
  answers-read slot into s =
      let value = (pointer_at c.cells (register_id t r) slot).target in
      let u = with_register into (nonzero value) (with_shared (register_id t r) t) in
      let reply = read-reply c h.sound pass t s.found r slot into s.granted in
      let seen : seen_slot c.moment.state t (register_id t r) slot ≡ value = same_value (step c.moment.state pass (Read r slot into)) (seen_slot c.moment.state t (register_id t r) slot) value _ (call-granted c.moment.state pass t (Read r slot into) s.found s.granted) reply in
      let w : TablesView = record v { locks = locks; transactions = changed_at pass (loaded into (nonzero value)) v.transactions } in
      let d = after_event slots c (Call pass (Read r slot into) (Id value)) None in
      let runs : IsRunning slots c.moment.state.committed (loaded into (nonzero value) kept) u (c.moment.undone pass) = record { registers = ap (λ (rs : List (Option ℕ)). slice_set rs into (nonzero value)) s.runs.registers; aborting = s.runs.aborting; left = s.runs.left; replaced = s.runs.replaced } in
      let state : d.moment.state ≡ with_transaction c.moment.state pass u = after-granted c.moment pass (Read r slot into) (Id value) t s.found s.granted ∙ ap (λ (x : ℕ). with_transaction c.moment.state pass (with_register into (nonzero x) (with_shared (register_id t r) t))) seen in
      let sound : IsSound d = sound-untouched (record c { moment = next c.moment (Call pass (Read r slot into) (Id value)) }) (read-call c h.sound pass t s.found r slot into s.granted (Id value)) in
      record {
        machine = sym reply;
        record_is = sym (logged-granted c.moment.state c.cells pass (Read r slot into) t s.found s.granted);
        moves = record { fits = tt; lays = tt; agree = agree; elsewhere = λ p e. refl };
        stands = Stands-with slots v w c d pass (loaded into (nonzero value) kept) u h refl refl h.zeros
            (puts-changed pass (loaded into (nonzero value)) kept v.transactions s.here)
            (Locked-share slots v c h pass t u s.found locks (register_id t r) adds refl refl)
            runs
            state
            (λ q. refl)
            sound
            (λ x e. e) (h.restorable pass kept s.here)
            (HasRest-same slots v w c d h refl refl refl refl (round-same c.round) (owed-with slots c d pass kept (loaded into (nonzero value) kept) t u h.sound sound state refl s.found s.runs runs v.owed v.owed h.owed refl) refl refl refl);
        round = refl;
      }

  pub answers-get : Serves slots v c.moment pass (GetPay r) kept t
      → (let value = (cell_at c.cells (register_id t r)).payload in
      Answers slots v (record v { locks = locks }) c held held pass (GetPay r) (Pay value) None)
  answers-get s =
      let value = (cell_at c.cells (register_id t r)).payload in
      let u = with_shared (register_id t r) t in
      let w : TablesView = record v { locks = locks } in
      let d = after_event slots c (Call pass (GetPay r) (Pay value)) None in
      let runs : IsRunning slots c.moment.state.committed kept u (c.moment.undone pass) = record { registers = s.runs.registers; aborting = s.runs.aborting; left = s.runs.left; replaced = s.runs.replaced } in
      let state = after-granted c.moment pass (GetPay r) (Pay value) t s.found s.granted in
      let sound : IsSound d = sound-untouched (record c { moment = next c.moment (Call pass (GetPay r) (Pay value)) }) (get-call c h.sound pass t s.found r s.granted (Pay value)) in
      record {
        machine = sym (get-reply c h.sound pass t s.found r s.granted);
        record_is = sym (logged-granted c.moment.state c.cells pass (GetPay r) t s.found s.granted);
        moves = record { fits = tt; lays = tt; agree = agree; elsewhere = λ p e. refl };
        stands = Stands-with slots v w c d pass kept u h refl refl h.zeros
            (record { here = s.here; others = λ q n. refl })
            (Locked-share slots v c h pass t u s.found locks (register_id t r) adds refl refl)
            runs
            state
            (λ q. refl)
            sound
            (λ x e. e) (h.restorable pass kept s.here)
            (HasRest-same slots v w c d h refl refl refl refl (round-same c.round) (owed-with slots c d pass kept kept t u h.sound sound state refl s.found s.runs runs v.owed v.owed h.owed refl) refl refl refl);
        round = refl;
      }
