-- A transaction begins.
use Rattle.std.proofs.Common.{◌≡◌, ◌≢◌, ℕ, ◌+◌, List, [], cond, refl, sym, ap, ◌∙◌, Option, Some, None, ne_eqb}
use Rattle.std.specs.Prelude.{Contains}
use Rattle.std.specs.Option.{option_map_or}
use Rattle.plain_model.specs.declared.write.Write.{Write}
use Rattle.plain_model.specs.declared.calls.Call.TheVariants.{Begin}
use Rattle.plain_model.specs.declared.calls.Entry.TheVariants.{Call}
use Rattle.plain_model.specs.declared.calls.Reply.{Reply}
use Rattle.plain_model.specs.declared.calls.Reply.TheVariants.{Done}
use Rattle.plain_model.specs.ActiveTransaction.{ActiveTransaction}
use Rattle.plain_model.specs.Machine.{State, transaction_of, with_transaction, new_transaction, refusal_in, refusal_out}
use Rattle.plain_model.specs.History.{next}
use Rattle.plain_laws.proofs.Ids.{test_same}
use Rattle.plain_laws.proofs.Locks.{transaction_of-with_same, transaction_of-with_other}
use Rattle.log_record.specs.declared.cell_record.CellRecord.TheVariants as logs
use Rattle.cell_model.specs.Cells.{Cell}
use Rattle.store_model.proofs.CallLaws.{call-begun}
use Rattle.store_model.specs.Core.{Core}
use Rattle.store_model.specs.Sound.{IsSound}
use Rattle.store_model.proofs.CallSound.{begin-call}
use Rattle.core_store.specs.declared.three.HeldFrame.{HeldFrame}
use Rattle.core_store.specs.Events.{after_event}
use Rattle.core_store.specs.Frames.{Agree}
use Rattle.core_store.specs.Logged.{record_in, logged_by}
use Rattle.core_store.specs.Transactions.{Running, just_begun}
use Rattle.core_store.specs.Tables.{TablesView}
use Rattle.core_store.specs.Stands.{IsRunning, owns_in, shares_in, Stands, Answers}
use Rattle.core_store.proofs.ChangeLaws.{Stands-change}
use Rattle.core_store.proofs.MapLaws.{PutsAt}
use Rattle.core_store.proofs.OwedSteps.{owed-begun_with}
use Rattle.core_store.proofs.RestLaws.{HasRest-same, round-same, sound-untouched}

nothing-in : {X : Type 0} (w : Write) → Contains [] w → X
nothing-in w k = absurd (let lt = k.1 in omega (Rattle.std.proofs.Common.arith, lt))

logged-begin : (s : State) (cells : List Cell) (pass : ℕ) → transaction_of s pass ≡ None → logged_by s cells pass Begin ≡ Some (logs.Begin pass)
logged-begin s cells pass none =
    ap (λ (o : Option ActiveTransaction). option_map_or (λ (reply : Reply). None) (option_map_or (λ t. refusal_in s pass t Begin) o (refusal_out Begin)) (option_map_or (λ t. record_in s cells pass t Begin) o (Some (logs.Begin pass)))) none

pub answers-begin : (slots : ℕ) (v : TablesView) (ts : List (ℕ × Running)) (n : ℕ) (c : Core) (held : List (HeldFrame slots)) (pass : ℕ) → Stands slots v c → Agree c.cells held → transaction_of c.moment.state pass ≡ None → PutsAt v.transactions ts pass just_begun
    → n ≡ v.owed + 1 → Answers slots v (record v { transactions = ts; owed = n }) c held held pass Begin Done (Some (logs.Begin pass))
answers-begin slots v ts n c held pass h agree none put owed =
    let begun = call-begun c.moment.state pass none in
    let w : TablesView = record v { transactions = ts; owed = n } in
    let d = after_event slots c (Call pass Begin Done) (Some (logs.Begin pass)) in
    let sound : IsSound d = sound-untouched (record c { moment = next c.moment (Call pass Begin Done) }) (begin-call c h.sound pass none) in
    let runs : IsRunning slots c.moment.state.committed just_begun new_transaction (d.moment.undone pass) = record { registers = refl; aborting = refl; left = ap (λ b. 0 + cond b 0 (c.moment.undone pass)) (test_same pass); replaced = refl } in
    let undone : (q : ℕ) → q ≢ pass → d.moment.undone q ≡ c.moment.undone q = λ q d. ap (λ b. cond b 0 (c.moment.undone q)) (ne_eqb q pass d) in
    let here = transaction_of-with_same c.moment.state pass new_transaction in
    let others = λ (q : ℕ) (d : q ≢ pass). transaction_of-with_other c.moment.state pass q new_transaction d in
    let state = ap (λ (y : Reply × State). y.1) begun in
    record {
      machine = sym (ap (λ (y : Reply × State). y.0) begun);
      record_is = sym (logged-begin c.moment.state c.cells pass none);
      moves = record { fits = tt; lays = tt; agree = agree; elsewhere = λ p e. refl };
      stands = Stands-change slots v w c d (with_transaction c.moment.state pass new_transaction) pass just_begun new_transaction h (record {
        same_ids = refl;
        state_ids = refl;
        state_slots = refl;
        here = put.here;
        others = put.others;
        state_here = here;
        state_others = others;
        undone_others = undone;
        runs = runs;
        owner = λ id. h.owners id pass ∙ ap (λ o. owns_in o id) none;
        other_owners = λ id q d. refl;
        sharer = λ id. h.sharers id pass ∙ ap (λ o. shares_in o id) none;
        other_sharers = λ id q d. refl;
        graph = refl;
        free = h.free;
      }) state h.zeros sound (λ x e. e) (λ x k. nothing-in x k)
          (HasRest-same slots v w c d h refl refl refl refl (round-same c.round)
          (owed-begun_with slots c d (with_transaction c.moment.state pass new_transaction) pass just_begun new_transaction h.sound sound state refl here others undone runs none v.owed n h.owed owed) refl refl refl);
      round = refl;
    }
