-- How many entries a call needs that is granted.
use Rattle.std.proofs.Common.{◌≡◌, ℕ, ◌≤◌, sym, ap, arith}
use Rattle.plain_model.specs.declared.calls.Call.{Call as TransactionCall}
use Rattle.plain_model.specs.declared.calls.Call.TheVariants as call
use Rattle.core_store.specs.declared.plan.Plan.{Plan}
use Rattle.core_store.specs.declared.plan.Plan.TheVariants as plan
use Rattle.core_store.specs.Owed.{entries_needed}
use Rattle.core_store.specs.Plans.{IsGranted, entries_needed_by}
use Rattle.core_store.specs.Tables.{TablesView}

-- a plan needs what its call needs
pub needed-granted : (v : TablesView) (pass : ℕ) (c : TransactionCall) (p : Plan) → IsGranted v pass c p → entries_needed_by p ≡ entries_needed c
needed-granted v pass c plan.Begin g = sym (ap entries_needed g.0)
needed-granted v pass c (plan.Read id slot into) g = sym (ap entries_needed g.1)
needed-granted v pass c (plan.Make id into) g = sym (ap entries_needed g.0)
needed-granted v pass c (plan.Store id slot target) g = sym (ap entries_needed g.2)
needed-granted v pass c (plan.Get id) g = sym (ap entries_needed g.1)
needed-granted v pass c (plan.Release id) g = sym (ap entries_needed g.1)
needed-granted v pass c (plan.Set id value) g = sym (ap entries_needed g.1)
needed-granted v pass c plan.Commit g = sym (ap entries_needed g.0)

-- every call needs one, and none more than two
pub needed-some : (c : TransactionCall) → 1 ≤ entries_needed c
needed-some call.Begin = omega arith
needed-some (call.Read r slot into) = omega arith
needed-some (call.Make into) = omega arith
needed-some (call.Store r slot source) = omega arith
needed-some (call.GetPay r) = omega arith
needed-some (call.Release r) = omega arith
needed-some (call.SetPay r value) = omega arith
needed-some call.Commit = omega arith
needed-some call.Abort = omega arith

pub needed-few : (c : TransactionCall) → entries_needed c ≤ 2
needed-few call.Begin = omega arith
needed-few (call.Read r slot into) = omega arith
needed-few (call.Make into) = omega arith
needed-few (call.Store r slot source) = omega arith
needed-few (call.GetPay r) = omega arith
needed-few (call.Release r) = omega arith
needed-few (call.SetPay r value) = omega arith
needed-few call.Commit = omega arith
needed-few call.Abort = omega arith
