-- What the one hold that is out keeps.
use Rattle.std.proofs.Common.{◌≡◌, ◌≢◌, ℕ, zero, suc, ◌+◌, List, [], ◌∷◌, map, true, false, ⊎_elim, refl, sym, ap, ◌∙◌, arith}
use mathlib.Core.Option.{some, some-injective, some-ne-none}
use lib.ListN.{get_elem?}
use Rattle.atomic_table.specs.Table.{State}
use Rattle.atomic_table.proofs.Lists.{at_map}
use Rattle.latch_table.specs.declared.content.Content.{Content}
use Rattle.latch_table.specs.declared.view.View.{View}
use Rattle.latch_table.specs.Account.{Account}
use Rattle.latch_table.specs.Holds.{IsAlone}
use Rattle.latch_table.specs.Rule.{station_of, number_out, IsKept, Facts, facts_of, times_in, times_kept, KeepsEachOnce}
use Rattle.latch_table.proofs.Pages.{alone}
use Rattle.latch_table.proofs.Stations.{bool_cases}
use Rattle.latch_table.proofs.Told.{map_at, none_kept}

-- where no other keeps it, it is kept here
only_kept : {E : Type 0} (p : ℕ) (fs : List (Facts E)) (i : ℕ) (f : Facts E) → get_elem? fs i ≡ some f → ((j : ℕ) (g : Facts E) → get_elem? fs j ≡ some g → j ≢ i → times_in p g.2 ≡ 0) → times_in p f.2 ≡ times_kept p fs
only_kept p [] i f e others = absurd (some-ne-none f (sym e))
only_kept p (x ∷ xs) zero f e others =
    let h : times_in p x.2 ≡ times_in p f.2 = ap (λ z. times_in p z.2) (some-injective x f e) in
    let r = none_kept p xs (λ j g q. others (suc j) g q (λ z. absurd (omega arith))) in omega arith
only_kept p (x ∷ xs) (suc i) f e others =
    let h = others 0 x refl (λ z. absurd (omega arith)) in
    let r = only_kept p xs i f e (λ j g q ne. others (suc j) g q (λ z. ne (pred j i z))) in omega arith
  where
    pred : (j i : ℕ) → suc j ≡ suc i → j ≡ i
    pred j i z = omega arith

module _ {E X F J : Type 0} (a : Account E X F J) (key : J) (s : State (Content J F) (View E X F)) (r : IsKept a key s) (id : ℕ) (v : View E X F) where
  -- no other is out
  pub one_out : get_elem? s.views id ≡ some v → IsAlone v → number_out (map station_of s.views) ≡ 1
  one_out at only = (r.ranked.led id v.station (at_map station_of s.views id v at) only.0).counted ∙ ap (λ (z : ℕ). z + 1) only.1

  -- the one hold that is out keeps each place of the log
  pub kept_once : get_elem? s.views id ≡ some v → v.station.alive ≡ true → IsAlone v → KeepsEachOnce r.log v.knowledge.entries
  kept_once at out only p low =
      let one = one_out at only in
      let c = r.told.once p low in
      only_kept p (map facts_of s.views) id (facts_of v) (at_map facts_of s.views id v at) (λ i f e ne. let h = map_at facts_of s.views i f e in ap (λ (z : Facts E). times_in p z.2) (sym h.2) ∙ ⊎_elim
      (λ (lives : h.0.station.alive ≡ true). absurd (ne (alone (map station_of s.views) i id h.0.station v.station (at_map station_of s.views i h.0 h.1) (at_map station_of s.views id v at) lives out one)))
      (λ (dead : h.0.station.alive ≡ false). ap (λ (z : View E X F). times_in p z.knowledge.entries) (r.spent i h.0 h.1 dead))
      (bool_cases h.0.station.alive)) ∙ c
