-- Calls of objects with few slots are calls of objects with more.
use Rattle.std.proofs.Common.{ℕ, ◌≤◌, arith}
use Rattle.plain_model.specs.declared.calls.Call.{Call}
use Rattle.plain_model.specs.declared.calls.Call.TheVariants.{Begin, Read, Make, Store, GetPay, SetPay, Release, Commit, Abort}
use Rattle.plain_model.specs.Machine.{IsInRange}

-- a call that keeps the ranges of objects with few slots keeps those of objects with no fewer
pub range-more : (few many : ℕ) (c : Call) → few ≤ many → IsInRange few c → IsInRange many c
range-more few many Begin more is = is
range-more few many (Read r slot into) more is = (is.0, omega (arith, more, is.1), is.2)
range-more few many (Make into) more is = is
range-more few many (Store r slot «from») more is = (is.0, omega (arith, more, is.1), is.2)
range-more few many (GetPay r) more is = is
range-more few many (Release r) more is = is
range-more few many (SetPay r value) more is = is
range-more few many Commit more is = is
range-more few many Abort more is = is
