-- The refusals that a transaction itself shows, in their order.
use Rattle.std.specs.Prelude.{◌≡◌, ◌⊎◌, ℕ, false, if◌then◌else◌, Option, Some, None, Result, Err, unwrap_or, MatchResult}
use Rattle.std.specs.Option.{option_map_or}
use Rattle.plain_model.specs.declared.calls.Reply.{Reply}
use Rattle.plain_model.specs.declared.calls.Reply.TheVariants.{NoTxn, Aborting, EmptyRegister}
use Rattle.plain_model.specs.Machine.{or_else}
use Rattle.core_store.specs.Transactions.{Running, held_in}

-- the register is empty
abbrev pub if_no_register : Running → ℕ → Option Reply
if_no_register t r = option_map_or (λ _. None) (held_in t r) (Some (EmptyRegister r))

-- the id that a register has, or 0 for null
abbrev pub source_of : Running → Option ℕ → ℕ
source_of t «from» = option_map_or (λ f. unwrap_or (held_in t f) 0) «from» 0

-- the client has no transaction, or one that is being undone
abbrev pub if_not_running : Option Running → Option Reply
if_not_running None = Some NoTxn
if_not_running (Some t) = if t.aborting then Some Aborting else None

-- why a register of the client names no object: the first refusal that applies
abbrev pub subject_refusal : Option Running → ℕ → Option Reply
subject_refusal None r = Some NoTxn
subject_refusal (Some t) r = or_else (if t.aborting then Some Aborting else None) (if_no_register t r)

-- the client has a transaction that isn't being undone, and its register names the object
pub record HasSubject (found : Option Running) (r id : ℕ) : Type 0 where
  pub running : Running
  pub is : found ≡ Some running
  pub alive : running.aborting ≡ false
  pub register : held_in running r ≡ Some id

-- what the client lays into a slot, or the refusal where the register is empty
abbrev pub HasSource : Option Running → Option ℕ → Result ℕ Reply → Type 0
HasSource None «from» result = Unit {0}
HasSource (Some t) «from» result = MatchResult result (λ v. (option_map_or (if_no_register t) «from» None ≡ None) × (v ≡ source_of t «from»)) (λ reply. option_map_or (if_no_register t) «from» None ≡ Some reply)

-- why a store is refused by its registers: the object's comes first, and then that of what is laid
abbrev pub IsStoreRefusal : Option Running → ℕ → Option ℕ → Reply → Type 0
IsStoreRefusal found r «from» reply = (subject_refusal found r ≡ Some reply) ⊎ ((id : ℕ) × HasSubject found r id × HasSource found «from» (Err reply))
