-- Calls of a store, one after another.
use Rattle.std.proofs.Common.{◌≡◌, ◌⊎◌, ⊎_elim, inl, ◌≤◌, ◌<◌, ℕ, Bool, true, false, Option, Some, None, List, refl, subst, ◌∙◌, arith}
use Rattle.std.specs.Prelude.{◌↔◌}
use Rattle.std.specs.Io.KnownBytes.{Keeps}
use Rattle.disk_model.specs.Areas.{Bytes}
use Rattle.disk_model.specs.Causes.{Rose}
use Rattle.map_calls.specs.declared.failure.Failure.{Failure}
use Rattle.map_calls.specs.declared.failure.Failure.TheVariants as failure
use Rattle.map_calls.specs.declared.put.Put.{Put}
use Rattle.map_calls.specs.declared.put.Put.TheVariants.{Stored, NoRoom}
use Rattle.plain_map.specs.Pairs.{value_of}
use Rattle.map_calls.specs.Maps.{MapState, needs, Puts}
use Rattle.map_calls.specs.Views.{StoreView, Leaving, LeavesThen, GoesOn, Fails, Tries, Places}

pub rose-to : (a b c : ℕ) → Rose a b → b ≤ c → Rose a c
rose-to a b c r le = omega (arith, le, r)

pub rose-from : (a b c : ℕ) → a ≤ b → Rose b c → Rose a c
rose-from a b c le r = omega (arith, le, r)

-- a call fails after one that left the map
pub fails-after : (cause : Failure) (old mid now : StoreView) (leaves : Leaving) (Leads : MapState → MapState → Type 0) → mid.map ≡ old.map → old.faults ≤ mid.faults → Fails cause mid now leaves (Leads mid.map) → Fails cause old now leaves (Leads old.map)
fails-after cause old mid now leaves Leads e le f = record {
  disk = λ d. rose-from old.faults mid.faults now.faults le (f.disk d);
  history = f.history;
  log = f.log;
  left = subst (λ (m : MapState). LeavesThen cause leaves m (Leads m)) e f.left;
}

-- an image that keeps a map that is the same keeps it
pub keeps-one : (leaves : Leaving) (m : MapState) (image : Bytes) → leaves.keeps image m ⊎ ((n : MapState) × (n ≡ m) × leaves.keeps image n) → leaves.keeps image m
keeps-one leaves m image h = ⊎_elim (λ (k : leaves.keeps image m). k) (λ (k : (n : MapState) × (n ≡ m) × leaves.keeps image n). subst (λ (n : MapState). leaves.keeps image n) k.1 k.2) h

left-kept : (cause : Failure) (leaves : Leaving) (before : MapState) (IsAsked : MapState → Type 0) → LeavesThen cause leaves before (λ n. n ≡ before) → LeavesThen cause leaves before IsAsked
left-kept failure.Disk leaves before IsAsked h = λ image l. inl (keeps-one leaves before image (h image l))
left-kept failure.HistoryFull leaves before IsAsked h = h
left-kept failure.LogFull leaves before IsAsked h = h
left-kept failure.Memory leaves before IsAsked h = h

-- a call fails that asked for no other map
pub fails-kept : (cause : Failure) (old now : StoreView) (leaves : Leaving) (IsAsked : MapState → Type 0) → Fails cause old now leaves (λ n. n ≡ old.map) → Fails cause old now leaves IsAsked
fails-kept cause old now leaves IsAsked f = record {
  disk = f.disk;
  history = f.history;
  log = f.log;
  left = left-kept cause leaves old.map IsAsked f.left;
}

-- the pair was placed after a call that left the map
pub places-after : (key value : ℕ) (put : Put) (old mid now : StoreView) → mid.map ≡ old.map → Places key value put mid.map now.map → Places key value put old.map now.map
places-after key value put old mid now e p = subst (λ (m : MapState). Places key value put m now.map) e p

-- the second try, after a collection
pub places-again : (key value : ℕ) (put : Put) (old late now : StoreView) → late.map ≡ old.map → late.room ≡ late.map.free → Tries key value put late now → Places key value put old.map now.map
places-again key value (Stored o) old late now e room t = subst (λ (m : MapState). (o ≡ value_of key m.pairs) × Puts key value m now.map) e t
places-again key value NoRoom old late now e room t =
    (subst (λ (m : MapState). m.free < needs key m.pairs) e (subst (λ n. n < needs key late.map.pairs) room t.0), t.1 ∙ e)

pub keeps-same : (o : Option (List ℕ)) → Keeps o o
keeps-same None = tt
keeps-same (Some xs) = refl

unset : (b : Bool) → b ≡ false → b ≡ true → ⊥
unset true e h = absurd (cc)
unset false e h = absurd (cc)

-- a store that isn't marked is marked for nothing
pub no-mark : (P : Type 0) (b : Bool) → (P → ⊥) → b ≡ false → P ↔ (b ≡ true)
no-mark P b n e = ((λ p. absurd (n p)), λ h. absurd (unset b e h))

-- out of memory after a call that left the map
pub starved : (old now : StoreView) (leaves : Leaving) (IsAsked : MapState → Type 0) → now.map ≡ old.map → GoesOn now leaves → Fails failure.Memory old now leaves IsAsked
starved old now leaves IsAsked e g = record {
  disk = λ d. absurd (cc (d));
  history = no-mark (failure.Memory ≡ failure.HistoryFull) now.history_full (λ d. absurd (cc (d))) g.unmarked.0;
  log = no-mark (failure.Memory ≡ failure.LogFull) now.log_full (λ d. absurd (cc (d))) g.unmarked.1;
  left = subst (λ (m : MapState). LeavesThen failure.Memory leaves m IsAsked) e g.left;
}
