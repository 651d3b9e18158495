-- What the calls of a map answer and leave, as a script sees them.
use Rattle.std.specs.Prelude.{◌≡◌, ℕ, ◌≤◌, length, Option, Result, IfOk, IfErr, OnOk}
use Rattle.map_calls.specs.declared.failure.Failure.{Failure}
use Rattle.map_calls.specs.declared.failure.Unopened.{Unopened}
use Rattle.map_calls.specs.declared.put.Put.{Put}
use Rattle.map_calls.specs.Maps.{Puts, Deletes}
use Rattle.map_calls.specs.Views.{StoreView, Leaving, GoesOn, Fails, StaysShut, Tries}
use Rattle.plain_map.specs.Pairs.{value_of}

-- a call that changes nothing: its answer is so, and the map stays; or it failed
pub record Looks {A : Type 0} (result : Result A Failure) (is : A → Type 0) (old new : StoreView) (leaves : Leaving) : Type 0 where
  pub value : IfOk result is
  pub same : OnOk result (new.map ≡ old.map)
  pub goes : OnOk result (GoesOn new leaves)
  pub failed : IfErr result (λ f. Fails f old new leaves (λ n. n ≡ old.map))
  pub later : old.faults ≤ new.faults

-- the key was to get this value
pub record PutsPair (result : Result Put Failure) (key value : ℕ) (old new : StoreView) (leaves : Leaving) : Type 0 where
  pub put : IfOk result (λ put. Tries key value put old new)
  pub goes : OnOk result (GoesOn new leaves)
  pub failed : IfErr result (λ f. Fails f old new leaves (Puts key value old.map))
  pub later : old.faults ≤ new.faults

-- the key was to lose its value
pub record RemovesKey (result : Result (Option ℕ) Failure) (key : ℕ) (old new : StoreView) (leaves : Leaving) : Type 0 where
  pub value : IfOk result (λ value. value ≡ value_of key old.map.pairs)
  pub removed : OnOk result (Deletes key old.map new.map)
  pub goes : OnOk result (GoesOn new leaves)
  pub failed : IfErr result (λ f. Fails f old new leaves (Deletes key old.map))
  pub later : old.faults ≤ new.faults

-- power was lost, and the store was to be opened again
pub record LosesPower (result : Result ℕ Unopened) (told : Type 0) (old new : StoreView) (leaves : Leaving) : Type 0 where
  pub keys : IfOk result (λ keys. keys ≡ length new.map.pairs)
  pub same : OnOk result (told → new.map ≡ old.map)
  pub goes : OnOk result (GoesOn new leaves)
  pub shut : IfErr result (λ u. StaysShut told u old new leaves)
  pub later : old.faults ≤ new.faults
