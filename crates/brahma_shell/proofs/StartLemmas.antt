-- A run of clients begins with a pass that knows nothing, and what is known after the clients.
use Rattle.std.proofs.Common.{◌≡◌, ℕ, ◌+◌, ◌≤◌, List, [], ◌∷◌, length, Some, None, refl, sym, ap, subst, arith}
use Rattle.std.specs.List.{AllByRecursion}
use Rattle.latch_table.specs.declared.view.Station.{Station}
use Rattle.latch_table.specs.Holds.{IsAlone}
use Rattle.latch_table.specs.Views.{first_station, first_view}
use Rattle.shared_store.specs.Chronicles.View.{Origin}
use Rattle.shared_store.specs.Passes.{Known, IsClient}
use Rattle.client_pass.specs.declared.ends.WorkEnd.{WorkEnd}
use Rattle.client_pass.specs.declared.ends.WorkEnd.TheVariants.{Finished}
use Rattle.client_pass.specs.declared.script.ClientScript.{ClientScript}
use Rattle.client_pass.specs.Runs.{IsCollected, MayRun, RunsScripts}
use Rattle.client_pass.proofs.FewScripts.{few-scripts}
use Rattle.script_lines.specs.Numbers.{object_slots}
use Rattle.brahma_shell.specs.ClientScripts.{IsScript, AreScripts}
use Rattle.brahma_shell.specs.Running.{OnlyPeeks, HasSeenLive, HasRun}
use Rattle.brahma_shell.proofs.SeenLemmas.{peeks-none}

-- ---- the first pass

each-may : (scripts : List ClientScript) → AllByRecursion IsScript scripts → AllByRecursion (MayRun object_slots first_station) scripts
each-may [] each = tt
each-may (s ∷ scripts) each = let low = each.0.client.0 in (record { client = each.0.client; fresh = (λ e. absurd (omega (arith, low, e)), refl); none = refl; in_range = each.0.in_range }, each-may scripts each.1)

each-client : (scripts : List ClientScript) → AllByRecursion IsScript scripts → AllByRecursion (λ s. IsClient s.pass) scripts
each-client [] each = tt
each-client (s ∷ scripts) each = (each.0.client, each-client scripts each.1)

-- each client may run
pub may-run : (k : Known object_slots) (x : Origin) (scripts : List ClientScript) → k ≡ first_view x → AreScripts scripts → AllByRecursion (MayRun object_slots k.station) scripts
may-run k x scripts e are = subst (λ (s : Station). AllByRecursion (MayRun object_slots s) scripts) (sym (ap (λ (v : Known object_slots). v.station) e)) (each-may scripts are.each)

-- there are few of them
pub room : (k : Known object_slots) (x : Origin) (scripts : List ClientScript) → k ≡ first_view x → AreScripts scripts → k.station.last + length scripts ≤ 4294967295
room k x scripts e are =
    let one : k.station.last ≡ 1 = ap (λ (v : Known object_slots). v.station.last) e in
    let few = few-scripts scripts are.apart (each-client scripts are.each) in
    omega (arith, one, few)

-- and nobody else is out
pub alone-first : (k : Known object_slots) (x : Origin) → k ≡ first_view x → IsAlone k
alone-first k x e = subst IsAlone (sym e) (refl, refl)

-- ---- after the clients

pub has-run : (D : Type 0) (old new : Known object_slots) (scripts : List ClientScript) (ids : ℕ) (end : WorkEnd) → RunsScripts old new scripts end → HasRun D old new scripts ids None
has-run D old new scripts ids end runs = record { end = end; behind = new; runs = runs; only = peeks-none new; finished = tt }

-- it looked at cells besides
pub has-looked : (D : Type 0) (old behind new : Known object_slots) (scripts : List ClientScript) (ids : ℕ) (end : WorkEnd) → RunsScripts old behind scripts end → OnlyPeeks behind new → HasRun D old new scripts ids None
has-looked D old behind new scripts ids end runs only = record { end = end; behind = behind; runs = runs; only = only; finished = tt }

pub has-found : (D : Type 0) (old behind new : Known object_slots) (scripts : List ClientScript) (ids : ℕ) (end : WorkEnd) (live : List ℕ) → RunsScripts old behind scripts end → OnlyPeeks behind new → end ≡ Finished → IsCollected D object_slots behind → HasSeenLive new ids live → HasRun D old new scripts ids (Some live)
has-found D old behind new scripts ids end live runs only done collected seen = record { end = end; behind = behind; runs = runs; only = only; finished = (done, collected, seen) }
