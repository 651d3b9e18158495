-- The verdict in the words of a journal's laws.
use Rattle.std.proofs.Common.{◌≡◌, ℕ, ◌+◌, ◌<◌, Bool, true, List, map, get_or, sym, ap, ◌∙◌, subst}
use Rattle.std.specs.Prelude.{Contains}
use Rattle.std.proofs.lemmas.List.{get_or_default}
use Rattle.plain_model.specs.History.{holds}
use Rattle.store_model.specs.Core.{Copy, Core, Round}
use Rattle.store_model.specs.Verdict.{copied_names, IsSeed as IsRoundSeed, was_touched as round_touched, is_locked as round_locked, has_name as round_named, has_other as round_other, IsLive as IsRoundLive, seed as round_seed, from_live as round_from}
use Rattle.ref_tables.specs.Refs.{Table}
use Rattle.red_walk.specs.Walk.{Walk}
use Rattle.green_walk.specs.Judged.{IsSeed, was_touched, is_locked, has_name, has_other, IsLive, seed, from_live}
use Rattle.green_walk.specs.Laws.{IsOf, SeedLaw, LiveLaw, CondemnedLaw}
use Rattle.green_walk.proofs.PicksLaws.{picks-from, picks-all}
use Rattle.green_walk.proofs.ReachLaws.{copied-in}

module _ (c : Core) (r : Round) (w : Walk) (locks : List Bool) (refs : Table) (o : IsOf c r w locks refs) where
  to-seed : {id : ℕ} → Contains w.list id → IsSeed w locks refs id → IsRoundSeed c r id
  to-seed {id} m (was_touched t) = round_touched (subst (λ xs. Contains xs id) (sym o.touched) t)
  to-seed {id} m (is_locked place l e t) = let h = (o.locked place l).0 t in round_locked h.0 h.1 (subst (λ x. holds x h.0.1 ≡ true) e h.2)
  to-seed {id} m (has_name pass n) = round_named ((o.named id m).0 (pass, n))
  to-seed {id} m (has_other copy k l) = round_other copy (subst (λ es. Contains es (id, copy)) (sym o.copies) k) (subst (λ es. copied_names es id < copy.strong + copy.weak) (sym o.copies) l)

  from-seed : {id : ℕ} → Contains w.list id → IsRoundSeed c r id → IsSeed w locks refs id
  from-seed {id} m (round_touched t) = was_touched (subst (λ xs. Contains xs id) o.touched t)
  from-seed {id} m (round_locked e a h) =
      let at : get_or w.list m.0 0 ≡ id = get_or_default w.list m.0 0 id m.1 ∙ m.2 in
      is_locked m.0 m.1 at ((o.locked m.0 m.1).1 (e, a, subst (λ x. holds x e.1 ≡ true) (sym at) h))
  from-seed {id} m (round_named n) = let h = (o.named id m).1 n in has_name h.0 h.1
  from-seed {id} m (round_other copy k l) = has_other copy (subst (λ es. Contains es (id, copy)) o.copies k) (subst (λ es. copied_names es id < copy.strong + copy.weak) o.copies l)

  in-walk : (id : ℕ) (copy : Copy) → Contains w.copies (id, copy) → Contains w.list id
  in-walk id copy k = copied-in w (ap (λ es. map (λ (e : ℕ × Copy). e.0) es) (sym o.copies) ∙ o.copied ∙ o.list) id copy k

  to-live : {id : ℕ} → Contains w.list id → IsLive w (IsSeed w locks refs) id → IsRoundLive c r id
  to-live m (seed id s) = round_seed id (to-seed m s)
  to-live m (from_live id to copy k e t) = round_from id to copy (to-live (in-walk id copy e) k) (subst (λ es. Contains es (id, copy)) (sym o.copies) e) t

  from-live : {id : ℕ} → Contains w.list id → IsRoundLive c r id → IsLive w (IsSeed w locks refs) id
  from-live m (round_seed id s) = seed id (from-seed m s)
  from-live m (round_from id to copy k e t) = let f = subst (λ es. Contains es (id, copy)) o.copies e in from_live id to copy (from-live (in-walk id copy f) k) f t

pub seed-law : SeedLaw
seed-law c r w locks refs o id m = (λ s. to-seed c r w locks refs o m s, λ s. from-seed c r w locks refs o m s)

pub live-law : LiveLaw
live-law c r w locks refs o id m = (λ s. to-live c r w locks refs o m s, λ s. from-live c r w locks refs o m s)

pub condemned-law : CondemnedLaw
condemned-law c r w locks refs o condemned k id = (
  λ m. let f = picks-from (λ id. IsLive w (IsSeed w locks refs) id → ⊥) k id m in (subst (λ xs. Contains xs id) (sym o.list) f.0, λ l. f.1 (from-live c r w locks refs o f.0 l)),
  λ n. let m = subst (λ xs. Contains xs id) o.list n.0 in picks-all (λ id. IsLive w (IsSeed w locks refs) id → ⊥) k id m (λ l. n.1 (to-live c r w locks refs o m l)),
)
