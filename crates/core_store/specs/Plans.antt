-- What is known of a call that isn't refused, in the words of the tables.
use Rattle.std.specs.Prelude.{◌≡◌, ℕ, ◌+◌, Bool, true, false, Option, Some, None, Result, Ok, Err}
use Rattle.plain_model.specs.declared.calls.Call.{Call as TransactionCall}
use Rattle.plain_model.specs.declared.calls.Call.TheVariants as call
use Rattle.plain_model.specs.declared.calls.Reply.{Reply}
use Rattle.plain_model.specs.declared.calls.Reply.TheVariants.{Busy}
use Rattle.plain_model.specs.Machine.{refusal_of}
use Rattle.strict_locks.specs.Locks.{holders_of, only_shares, StandsInWay, StandsInWayOfShare, StandsInWayOfOwn, Nobody, IsLeast}
use Rattle.store_model.specs.Core.{Core}
use Rattle.core_store.specs.declared.plan.Lock.{Lock}
use Rattle.core_store.specs.declared.plan.Lock.TheVariants.{Shared, Owned}
use Rattle.core_store.specs.declared.plan.Plan.{Plan}
use Rattle.core_store.specs.declared.plan.Plan.TheVariants as plan
use Rattle.core_store.specs.FreeIds.{IsLeastOf}
use Rattle.core_store.specs.Transactions.{running_at}
use Rattle.core_store.specs.Refusals.{if_not_running, HasSubject, HasSource}
use Rattle.core_store.specs.Tables.{TablesView}
use Rattle.core_store.specs.Stands.{Stands}

-- whether the lock is that of an owner
abbrev pub is_owned : Lock → Bool
is_owned Owned = true
is_owned Shared = false

-- the register names the object, and no other client stands in the way of sharing it
abbrev pub IsShareable : TablesView → ℕ → ℕ → ℕ → Type 0
IsShareable v pass r id = HasSubject (running_at v.transactions pass) r id × Nobody (StandsInWayOfShare (holders_of v.locks id) pass)

-- the register names the object, and no other client stands in the way of owning it
abbrev pub IsOwnable : TablesView → ℕ → ℕ → ℕ → Type 0
IsOwnable v pass r id = HasSubject (running_at v.transactions pass) r id × Nobody (StandsInWayOfOwn (holders_of v.locks id) pass)

-- the register names the object, and the client shares it and doesn't own it
abbrev pub IsReleasable : TablesView → ℕ → ℕ → ℕ → Type 0
IsReleasable v pass r id = HasSubject (running_at v.transactions pass) r id × (only_shares (holders_of v.locks id) pass ≡ true)

-- the refusal of a lock: none where no other client stands in the way, else the least one that does
abbrev pub IsBlockedBy : TablesView → ℕ → ℕ → Lock → Option Reply → Type 0
IsBlockedBy v pass id lock None = Nobody (StandsInWay (is_owned lock) (holders_of v.locks id) pass)
IsBlockedBy v pass id lock (Some reply) = (p : ℕ) × (reply ≡ Busy p) × IsLeast (StandsInWay (is_owned lock) (holders_of v.locks id) pass) p

-- the plan is the call's, and nothing refuses it
abbrev pub IsGranted : TablesView → ℕ → TransactionCall → Plan → Type 0
IsGranted v pass c plan.Begin = (c ≡ call.Begin) × (running_at v.transactions pass ≡ None)
IsGranted v pass c (plan.Read id slot into) = (r : ℕ) × (c ≡ call.Read r slot into) × IsShareable v pass r id
IsGranted v pass c (plan.Make id into) = (c ≡ call.Make into) × (if_not_running (running_at v.transactions pass) ≡ None) × IsLeastOf v.free id
IsGranted v pass c (plan.Store id slot target) = (r : ℕ) × (source : Option ℕ) × (c ≡ call.Store r slot source) × IsOwnable v pass r id × HasSource (running_at v.transactions pass) source (Ok target)
IsGranted v pass c (plan.Get id) = (r : ℕ) × (c ≡ call.GetPay r) × IsShareable v pass r id
IsGranted v pass c (plan.Release id) = (r : ℕ) × (c ≡ call.Release r) × IsReleasable v pass r id
IsGranted v pass c (plan.Set id value) = (r : ℕ) × (c ≡ call.SetPay r value) × IsOwnable v pass r id
IsGranted v pass c plan.Commit = (c ≡ call.Commit) × (if_not_running (running_at v.transactions pass) ≡ None)

-- how many entries what the plan does may add to the history and to what its transaction owes
abbrev pub entries_needed_by : Plan → ℕ
entries_needed_by plan.Begin = 2
entries_needed_by (plan.Store id slot target) = 2
entries_needed_by (plan.Set id value) = 2
entries_needed_by _ = 1

-- for how many entries there is to be room before what was planned is done, where so many are owed: the entry of a commit is one
-- of these
abbrev pub room_needed : Result Plan Reply → ℕ → ℕ
room_needed (Ok plan.Commit) owed = owed
room_needed _ owed = owed + 2

-- whatever the tables stand for, the reference machine refuses the call so
abbrev pub IsRefused : ℕ → TablesView → ℕ → TransactionCall → Reply → Type 0
IsRefused slots v pass c reply = (core : Core) → Stands slots v core → refusal_of core.moment.state pass c ≡ Some reply

-- the call has this plan, or the machine refuses it so
abbrev pub IsPlanned : ℕ → TablesView → ℕ → TransactionCall → Result Plan Reply → Type 0
IsPlanned slots v pass c (Ok p) = IsGranted v pass c p
IsPlanned slots v pass c (Err reply) = IsRefused slots v pass c reply
