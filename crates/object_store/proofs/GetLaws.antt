-- What a read of a slot and a new object come to for the handle.
use Rattle.std.proofs.Common.{◌≡◌, ◌≢◌, ℕ, ◌<◌, List, Option, Some, None, Result, Ok, Err, true, subst, ◌⊎◌}
use Rattle.std.specs.Prelude.{IfOk, IfErr}
use Rattle.plain_model.specs.declared.calls.Call.TheVariants as call
use Rattle.logged_journal.specs.View.{LoggedView}
use Rattle.object_store.specs.declared.tending.Tending.{Tending}
use Rattle.object_store.specs.declared.error.StoreError.{StoreError}
use Rattle.object_store.specs.declared.reference.Held.{Held}
use Rattle.object_store.specs.Seen.{object_slots, IsLive}
use Rattle.object_store.specs.Calls.{IsShort, Reads, Makes, IsMakeShort, Loads}
use Rattle.object_store.specs.Handles.{StoreView, store_at, is_live, held_at, IsKept}
use Rattle.object_store.specs.Steps.{Keeps, Gets, MakesObject, IsGetError, IsMakeError}
use Rattle.object_store.proofs.KeptLaws.{LiveOpen, is_live_of, kept_of, open_loaded, open_joined, open_short, nonzero_some, still_put, only_put, keeps_same, gets_none, gets_some, makes_of, get_error, NotMade, make_same, make_error}

-- ---- a read

pub record GetTold {D : Type 0} (h : Held) (slot : ℕ) (r : Result (Option Held) StoreError) (old new : StoreView D) : Type 0 where
  pub live : is_live new ≡ true
  pub gets : IfOk r (λ found. Gets h slot found old new)
  pub refused : IfErr r (λ why. IsGetError h slot old why)
  pub keeps : IfErr r (λ _. Keeps old new)

pub kept_read : {D : Type 0} (v w : LoggedView D) (held : List (Option ℕ)) (h : Held) (slot into id : ℕ) → LiveOpen v held → IsLive w → held_at held into ≡ None → Reads h slot into id v w → IsKept w held
kept_read v w held h slot into id l live free reads = kept_of (open_loaded into l.opened live reads.loads free)

pub none_told : {D : Type 0} {n : Tending} (v w : LoggedView D) (held : List (Option ℕ)) (h : Held) (slot into id : ℕ) → IsLive w → Reads h slot into id v w → id ≡ 0 → GetTold h slot (Ok None) (store_at n v held) (store_at n w held)
none_told v w held h slot into id live reads zero = record { live = is_live_of w held live; gets = gets_none v w held h slot into id reads zero; refused = tt; keeps = tt }

pub kept_found : {D : Type 0} (v w : LoggedView D) (old new : List (Option ℕ)) (h : Held) (slot into id : ℕ) → LiveOpen v old → IsLive w → held_at old into ≡ None → Reads h slot into id v w → id ≢ 0
    → ((r i : ℕ) → held_at old r ≡ Some i → held_at new r ≡ Some i) → ((r i : ℕ) → held_at new r ≡ Some i → (held_at old r ≡ Some i) ⊎ ((r ≡ into) × (i ≡ id))) → IsKept w new
kept_found v w old new h slot into id l live free reads some still only =
    kept_of (open_joined into id l.opened live (subst (λ o. Loads into o v w) (nonzero_some id some) reads.loads) free still only)

pub some_told : {D : Type 0} {n : Tending} (v w : LoggedView D) (old new : List (Option ℕ)) (h : Held) (slot into id : ℕ) (found : Held) → IsLive w → Reads h slot into id v w → found.id ≡ id → held_at new found.register ≡ Some id
    → ((r i : ℕ) → held_at old r ≡ Some i → held_at new r ≡ Some i) → ((r : ℕ) → r < 8 → held_at old r ≡ Some id → new ≡ old) → GetTold h slot (Ok (Some found)) (store_at n v old) (store_at n w new)
some_told v w old new h slot into id found live reads is holds still once = record { live = is_live_of w new live; gets = gets_some v w old new h slot into id found reads is holds still once; refused = tt; keeps = tt }

pub kept_short : {D : Type 0} (v w : LoggedView D) (held : List (Option ℕ)) (h : Held) (slot into : ℕ) (why : StoreError) → LiveOpen v held → IsLive w → IsShort (call.Read h.register slot into) why v w → IsKept w held
kept_short v w held h slot into why l live short = kept_of (open_short l.opened live short.same)

pub short_told : {D : Type 0} {n : Tending} (v w : LoggedView D) (held : List (Option ℕ)) (h : Held) (slot into : ℕ) (why : StoreError) → IsLive w → IsShort (call.Read h.register slot into) why v w
    → held_at held h.register ≡ Some h.id → slot < object_slots → into < 8 → held_at held into ≡ None → GetTold h slot (Err why) (store_at n v held) (store_at n w held)
short_told {D} {n} v w held h slot into why live short holds fits small free = record {
  live = is_live_of w held live;
  gets = tt;
  refused = get_error h slot into (store_at n v held) why holds fits (record { register = into; small = small; none = free }) short.cause;
  keeps = keeps_same v w held short.same;
}

-- ---- a new object

pub record MakeTold {D : Type 0} (r : Result Held StoreError) (old new : StoreView D) : Type 0 where
  pub live : is_live new ≡ true
  pub makes : IfOk r (λ made. MakesObject made old new)
  pub refused : IfErr r (λ why. IsMakeError old why)
  pub keeps : IfErr r (λ _. Keeps old new)

pub kept_made : {D : Type 0} (v w : LoggedView D) (old new : List (Option ℕ)) (into id : ℕ) → LiveOpen v old → IsLive w → held_at old into ≡ None → Makes into id v w → held_at new into ≡ Some id → ((r : ℕ) → r ≢ into → held_at new r ≡ held_at old r) → IsKept w new
kept_made v w old new into id l live free makes here others = kept_of (open_joined into id l.opened live makes.loads free (still_put old new into id free others) (only_put old new into id here others))

pub made_told : {D : Type 0} {n : Tending} (v w : LoggedView D) (old new : List (Option ℕ)) (into id : ℕ) → IsLive w → held_at old into ≡ None → Makes into id v w → held_at new into ≡ Some id → ((r : ℕ) → r ≢ into → held_at new r ≡ held_at old r)
    → MakeTold (Ok (record { id = id; register = into })) (store_at n v old) (store_at n w new)
made_told v w old new into id live free makes here others = record { live = is_live_of w new live; makes = makes_of v w old new into id makes here (still_put old new into id free others); refused = tt; keeps = tt }

pub kept_unmade : {D : Type 0} (v w : LoggedView D) (held : List (Option ℕ)) (into : ℕ) (why : StoreError) → LiveOpen v held → IsLive w → into < 8 → held_at held into ≡ None → IsMakeShort into why v w → IsKept w held
kept_unmade v w held into why l live small free short = kept_of (open_short l.opened live (make_same v w into why short))

pub unmade_told : {D : Type 0} {n : Tending} (v w : LoggedView D) (held : List (Option ℕ)) (into : ℕ) (why : StoreError) → IsLive w → into < 8 → held_at held into ≡ None → IsMakeShort into why v w → MakeTold (Err why) (store_at n v held) (store_at n w held)
unmade_told {D} {n} v w held into why live small free short =
    let not : NotMade n v w held why = make_error v w held into why (record { register = into; small = small; none = free }) short in
    record { live = is_live_of w held live; makes = tt; refused = not.cause; keeps = keeps_same v w held not.same }
