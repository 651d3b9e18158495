-- How a client's transactions are tried.
use Rattle.std.specs.Prelude.{◌≡◌, ◌⊎◌, ℕ, zero, suc, ◌≤◌, ◌==◌, if◌then◌else◌, Bool, true, false, List, [], ◌∷◌, ◌++◌, length, fold, unwrap_or}
use Rattle.std.specs.List.{AllByRecursion}
use Rattle.plain_model.specs.declared.calls.Call.{Call as TransactionCall}
use Rattle.plain_model.specs.declared.calls.Call.TheVariants.{Begin, Abort}
use Rattle.plain_model.specs.declared.calls.Reply.{Reply}
use Rattle.plain_model.specs.declared.calls.Reply.TheVariants.{Done, Busy}
use Rattle.plain_model.specs.declared.calls.Entry.{Entry}
use Rattle.plain_model.specs.declared.calls.Entry.TheVariants.{Call, Undo}
use Rattle.shared_store.specs.Chronicles.Clients.{begins_or_ends}

-- what a client did: it made a call, which was answered so; or it undid one of its writes
pub data Deed : Type 0 where
  Made : TransactionCall → Reply → Deed
  Undid : Deed

-- what the client did by this entry, if it did anything
abbrev pub call_in : ℕ → Entry → List Deed
call_in client (Call c call reply) = if c == client then Made call reply ∷ [] else []
call_in client (Undo c) = if c == client then Undid ∷ [] else []
call_in client _ = []

-- the client's calls and undos among these entries, in their order
abbrev pub calls_in : ℕ → List Entry → List Deed
calls_in client [] = []
calls_in client (e ∷ es) = call_in client e ++ calls_in client es

-- ---- one call

-- whether the answer is that another client stands in the way
abbrev pub is_busy : Reply → Bool
is_busy (Busy client) = true
is_busy _ = false

-- it is this call, and was answered `Busy`
abbrev pub IsBusyAt : TransactionCall → Deed → Type 0
IsBusyAt call (Made c reply) = (c ≡ call) × (is_busy reply ≡ true)
IsBusyAt call Undid = ⊥

-- this call, made so many times and answered `Busy` each time
abbrev pub AreBusy : ℕ → TransactionCall → List Deed → Type 0
AreBusy times call made = AllByRecursion (IsBusyAt call) made × (length made ≡ times)

-- undos alone
abbrev pub AreUndos : List Deed → Type 0
AreUndos made = AllByRecursion (λ d. d ≡ Undid) made

-- The call, answered so. Directly before an abort that is done stand the undos of the transaction's writes; before any other call
-- stands none.
pub record IsMade (call : TransactionCall) (reply : Reply) (made : List Deed) : Type 0 where
  pub undos : List Deed
  pub undone : AreUndos undos
  pub of_abort : (undos ≡ []) ⊎ ((call ≡ Abort) × (reply ≡ Done))
  pub in_order : made ≡ undos ++ Made call reply ∷ []

-- the call, answered `Busy` at most seven times before another answer
pub record IsAnswered (call : TransactionCall) (made : List Deed) : Type 0 where
  pub busy : List Deed
  pub each : AllByRecursion (IsBusyAt call) busy
  pub few : length busy ≤ 7
  pub reply : Reply
  pub another : is_busy reply ≡ false
  pub last : List Deed
  pub answered : IsMade call reply last
  pub in_order : made ≡ busy ++ last

-- ---- attempts

-- these calls in order, each answered so
abbrev pub AreAnswered : List TransactionCall → List Deed → Type 0
AreAnswered [] made = made ≡ []
AreAnswered (call ∷ calls) made = (first : List Deed) × (rest : List Deed) × (made ≡ first ++ rest) × IsAnswered call first × AreAnswered calls rest

-- whether the client has a transaction after this, where this says whether it had one before it
abbrev pub has_behind : Bool → Deed → Bool
has_behind had (Made call reply) = unwrap_or (begins_or_ends call reply) had
has_behind had Undid = had

-- and after all of these
abbrev pub has_after : Bool → List Deed → Bool
has_after had made = fold has_behind had made

-- how a client ends an attempt: a transaction that hasn't ended is aborted, and that is done
abbrev pub IsEnding : Bool → List Deed → Type 0
IsEnding true made = IsMade Abort Done made
IsEnding false made = made ≡ []

-- An attempt that is completed: `Begin` and the calls in order. Where these leave the transaction open, it is aborted.
pub record IsCompleted (calls : List TransactionCall) (made : List Deed) : Type 0 where
  pub own : List Deed
  pub answered : AreAnswered (Begin ∷ calls) own
  pub ending : List Deed
  pub ended : IsEnding (has_after false own) ending
  pub in_order : made ≡ own ++ ending

-- some of these calls were answered, and the next one was `Busy` eight times
pub record AreStuck (calls : List TransactionCall) (made : List Deed) : Type 0 where
  pub before : List TransactionCall
  pub call : TransactionCall
  pub after : List TransactionCall
  pub of_calls : calls ≡ before ++ call ∷ after
  pub own : List Deed
  pub answered : AreAnswered before own
  pub busy : List Deed
  pub eight : AreBusy 8 call busy
  pub in_order : made ≡ own ++ busy

-- An attempt that is given up, since another client was in the way of one of its calls eight times: the transaction is aborted.
pub record IsGivenUp (calls : List TransactionCall) (made : List Deed) : Type 0 where
  pub own : List Deed
  pub stuck : AreStuck (Begin ∷ calls) own
  pub ending : List Deed
  pub ended : IsEnding (has_after false own) ending
  pub in_order : made ≡ own ++ ending

-- an attempt, completed or given up
abbrev pub IsAttempt : List TransactionCall → List Deed → Type 0
IsAttempt calls made = IsCompleted calls made ⊎ IsGivenUp calls made

-- a transaction that may be given up so many times: each time it is tried again, but for the last
abbrev pub IsTried : ℕ → List TransactionCall → List Deed → Type 0
IsTried zero calls made = made ≡ []
IsTried (suc n) calls made = IsCompleted calls made ⊎ ((first : List Deed) × (rest : List Deed) × (made ≡ first ++ rest) × IsGivenUp calls first × IsTried n calls rest)

-- the transactions in order: each is given up at most three times and then completed, or given up four times
abbrev pub Attempts : List (List TransactionCall) → List Deed → Type 0
Attempts [] made = made ≡ []
Attempts (calls ∷ rest) made = (first : List Deed) × (others : List Deed) × (made ≡ first ++ others) × IsTried 4 calls first × Attempts rest others

-- calls that may go on so that all of them are such
abbrev pub Begun : (List Deed → Type 0) → List Deed → Type 0
Begun AreSuch made = (rest : List Deed) × AreSuch (made ++ rest)
