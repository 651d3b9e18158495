-- What is reachable in a graph.
use Rattle.std.specs.Prelude.{◌≡◌, ◌≢◌, ℕ, List, Contains, Some}
use Rattle.plain_model.specs.declared.object.Object.{Object}
use Rattle.plain_model.specs.Graphs.{object_at}

-- an id is reachable from the ids of `from`: the least set that has each id of `from` that the graph has,
-- and, for each of its members, each nonzero slot of the member that names an object of the graph
pub data Reachable (g : List Object) («from» : List ℕ) : ℕ → Type 0 where
  start : (x : ℕ) (o : Object) → Contains «from» x → object_at g x ≡ Some o → Reachable g «from» x
  step : (x y : ℕ) (o p : Object) → Reachable g «from» x → object_at g x ≡ Some o → Contains o.slots y → y ≢ 0 → object_at g y ≡ Some p → Reachable g «from» y

-- a set of ids has these two rules; what is reachable is the least such set
pub record IsClosed (g : List Object) («from» : List ℕ) (P : ℕ → Type 0) : Type 0 where
  pub starts : (x : ℕ) (o : Object) → Contains «from» x → object_at g x ≡ Some o → P x
  pub steps : (x y : ℕ) (o p : Object) → P x → object_at g x ≡ Some o → Contains o.slots y → y ≢ 0 → object_at g y ≡ Some p → P y
