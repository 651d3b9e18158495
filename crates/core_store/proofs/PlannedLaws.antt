-- What was planned for a call.
use Rattle.std.proofs.Common.{◌≡◌, ℕ, ◌+◌, ◌≤◌, List, arith, refl, sym, ap, ◌∙◌, subst, None}
use Rattle.std.specs.Prelude.{Result, Ok, Err, IfOk, IfErr, is_ok, is_none}
use Rattle.plain_model.specs.declared.calls.Call.{Call as TransactionCall}
use Rattle.plain_model.specs.declared.calls.Reply.{Reply}
use Rattle.plain_model.specs.declared.calls.Call.TheVariants as call
use Rattle.plain_model.specs.Machine.{refusal_of, IsInRange}
use Rattle.store_model.specs.Core.{Core}
use Rattle.core_store.specs.declared.handlers.Performed.{Performed}
use Rattle.core_store.specs.declared.plan.Plan.{Plan}
use Rattle.core_store.specs.declared.plan.Plan.TheVariants as plan
use Rattle.core_store.specs.Stands.{Stands}
use Rattle.core_store.specs.declared.three.HeldFrame.{HeldFrame}
use Rattle.core_store.specs.Frames.{HasPages}
use Rattle.core_store.specs.Owed.{entries_needed}
use Rattle.core_store.specs.Plans.{IsGranted, IsRefused, IsPlanned, entries_needed_by, room_needed}
use Rattle.core_store.specs.Ready.{Does, DoesPlanned, IsReady, IsReadyToCall, objects_of_plan}
use Rattle.core_store.specs.Tables.{TablesView}
use Rattle.core_store.proofs.NeededLaws.{needed-granted, needed-few}
use Rattle.core_store.proofs.PlanRecords.{pages-plan, plan-in_range, unrefused-plan}
use Rattle.core_store.proofs.RefusalLaws.{performs-refused}
use Rattle.core_store.proofs.NextLaws.{few-plan}
use Rattle.core_store.proofs.WantLaws.{has-objects}

-- the plan is the call's, or the refusal is
pub planned-so : (slots : ℕ) (v : TablesView) (pass : ℕ) (c : TransactionCall) (r : Result Plan Reply) → IfOk r (IsGranted v pass c) → IfErr r (λ reply. IsRefused slots v pass c reply) → IsPlanned slots v pass c r
planned-so slots v pass c (Ok p) granted refused = granted
planned-so slots v pass c (Err reply) granted refused = refused

-- what does a plan does what was planned
pub does-granted : {slots : ℕ} (v w : TablesView) (held new : List (HeldFrame slots)) (pass : ℕ) (r : Result Plan Reply) (p : Plan) → r ≡ Ok p → (o : Performed) → Does v w held new pass p o → DoesPlanned v w held new pass r o
does-granted {slots} v w held new pass r p is o does = λ call planned. does call (subst (λ (x : Result Plan Reply). IsPlanned slots v pass call x) is planned)

-- a refusal changes nothing
pub does-refused : {slots : ℕ} (v : TablesView) (held : List (HeldFrame slots)) (pass : ℕ) (r : Result Plan Reply) (reply : Reply) → r ≡ Err reply → DoesPlanned v v held held pass r (record { reply = reply; logged = None })
does-refused {slots} v held pass r reply is = λ call planned. performs-refused slots v held pass call reply (subst (λ (x : Result Plan Reply). IsPlanned slots v pass call x) is planned)

-- a plan needs what its call needs
pub needed-planned : (slots : ℕ) (v : TablesView) (pass : ℕ) (c : TransactionCall) (r : Result Plan Reply) (p : Plan) → r ≡ Ok p → IsPlanned slots v pass c r → entries_needed_by p ≡ entries_needed c
needed-planned slots v pass c r p is planned = needed-granted v pass c p (subst (λ (x : Result Plan Reply). IsPlanned slots v pass c x) is planned)

-- where the pages are held on which the call works, they are those on which its plan works
pub ready-planned : {slots : ℕ} (v : TablesView) (held : List (HeldFrame slots)) (pass : ℕ) (c : TransactionCall) (r : Result Plan Reply) → IsInRange slots c → IsReadyToCall v held pass c → IfOk r (IsGranted v pass c) → IfOk r (IsReady v held pass)
ready-planned {slots} v held pass c (Ok p) in_range ready granted =
    let s = ready.standing in
    record {
      call = c;
      granted = granted;
      in_range = plan-in_range slots v pass c p in_range granted;
      standing = s;
      pages = has-objects v.ids (objects_of_plan s.core.cells p) held (few-plan s.stands pass c p granted).within (subst (λ (ps : List ℕ). HasPages v.ids ps held) (pages-plan s.stands pass c p granted) ready.pages);
    }
ready-planned v held pass c (Err reply) in_range ready granted = granted

-- a call has a plan exactly where the machine doesn't refuse it
pub planned-allowed : {slots : ℕ} (v : TablesView) (core : Core) → Stands slots v core → (pass : ℕ) (c : TransactionCall) (r : Result Plan Reply) → IfOk r (IsGranted v pass c) → IfErr r (λ reply. IsRefused slots v pass c reply)
    → is_ok r ≡ is_none (refusal_of core.moment.state pass c)
planned-allowed v core h pass c (Ok p) granted refused = sym (ap is_none (unrefused-plan h pass c p granted))
planned-allowed v core h pass c (Err reply) granted refused = sym (ap is_none (refused core h))

-- a commit that the machine doesn't refuse is planned
pub planned-commit : {slots : ℕ} (v : TablesView) (core : Core) → Stands slots v core → (pass : ℕ) (r : Result Plan Reply) → IfOk r (IsGranted v pass call.Commit) → IfErr r (λ reply. IsRefused slots v pass call.Commit reply)
    → refusal_of core.moment.state pass call.Commit ≡ None → r ≡ Ok plan.Commit
planned-commit v core h pass (Err reply) granted refused none = let e = sym (refused core h) ∙ none in absurd (cc)
planned-commit v core h pass (Ok plan.Commit) granted refused none = refl
planned-commit v core h pass (Ok plan.Begin) granted refused none = let e = granted.0 in absurd (cc)
planned-commit v core h pass (Ok (plan.Read id slot into)) granted refused none = let e = granted.1 in absurd (cc)
planned-commit v core h pass (Ok (plan.Make id into)) granted refused none = let e = granted.0 in absurd (cc)
planned-commit v core h pass (Ok (plan.Store id slot target)) granted refused none = let e = granted.2 in absurd (cc)
planned-commit v core h pass (Ok (plan.Get id)) granted refused none = let e = granted.1 in absurd (cc)
planned-commit v core h pass (Ok (plan.Release id)) granted refused none = let e = granted.1 in absurd (cc)
planned-commit v core h pass (Ok (plan.Set id value)) granted refused none = let e = granted.1 in absurd (cc)

-- the room that is taken before is enough for the entry, and for all that is owed after it
pub room-enough : (c : TransactionCall) (r : Result Plan Reply) (owed len room left : ℕ) → len + room_needed r owed ≤ room → left + 1 ≤ owed + entries_needed c → (r ≡ Ok plan.Commit → left + 1 ≤ owed) → len + 1 + left ≤ room
room-enough c (Ok plan.Commit) owed len room left h more commit = let k = commit refl in omega (arith, h, k)
room-enough c (Ok plan.Begin) owed len room left h more commit = let k = needed-few c in omega (arith, h, more, k)
room-enough c (Ok (plan.Read id slot into)) owed len room left h more commit = let k = needed-few c in omega (arith, h, more, k)
room-enough c (Ok (plan.Make id into)) owed len room left h more commit = let k = needed-few c in omega (arith, h, more, k)
room-enough c (Ok (plan.Store id slot target)) owed len room left h more commit = let k = needed-few c in omega (arith, h, more, k)
room-enough c (Ok (plan.Get id)) owed len room left h more commit = let k = needed-few c in omega (arith, h, more, k)
room-enough c (Ok (plan.Release id)) owed len room left h more commit = let k = needed-few c in omega (arith, h, more, k)
room-enough c (Ok (plan.Set id value)) owed len room left h more commit = let k = needed-few c in omega (arith, h, more, k)
room-enough c (Err reply) owed len room left h more commit = let k = needed-few c in omega (arith, h, more, k)
