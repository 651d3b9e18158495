-- The premises of the laws can be met: a short run from a fresh store of three ids with two slots each.
use Rattle.std.proofs.Common.{◌≡◌, ◌≢◌, ℕ, List, [], ◌∷◌, ◌++◌, true, false, refl, subst, arith, Some, None, ◌⊎◌, inl, inr}
use Rattle.std.specs.Prelude.{◌==◌, ◌&&◌, Contains}
use Rattle.std.proofs.lemmas.Bool.{or_cases, and_parts, eqb-true}
use Rattle.plain_model.specs.Graphs.{root}
use Rattle.plain_model.specs.ActiveTransaction.{ActiveTransaction}
use Rattle.plain_model.specs.Machine.{new_transaction}
use Rattle.cell_model.specs.Cells.{is_live}
use Rattle.store_model.specs.Core.{Core, names}
use Rattle.store_model.specs.Sound.{in_round, IsSound}
use Rattle.store_model.specs.Fresh.{fresh_core}
use Rattle.store_model.specs.Steps.{make_by, after_begin, after_make, after_look, after_free, committed_core, references_left, condemned_round}
use Rattle.store_model.proofs.Lists.{Contains-here}
use Rattle.store_model.proofs.OnceLaws.{nothing-in, only-one, once-one}
use Rattle.cell_model.proofs.RecordLaws.{blank-target}
use Rattle.store_model.proofs.FreshSound.{fresh-sound}
use Rattle.store_model.proofs.ReferenceLaws.{references_left-fit, queue-left}
use Rattle.store_model.proofs.BeginSound.{begin-sound}
use Rattle.store_model.proofs.MomentSound.{make_fitting-sound, commit_left-sound}
use Rattle.store_model.proofs.CollectSound.{condemn-sound}
use Rattle.store_model.proofs.FreeSound.{free_last-sound}

-- ---- client 4 makes object 2 and commits; the object joins the queue, and the collector deletes it

abbrev made_by : ActiveTransaction
made_by = make_by new_transaction 1 2

abbrev core_made : Core
core_made = after_make (after_begin (fresh_core 2 2) 4) 4 new_transaction 1 2

abbrev core_queued : Core
core_queued = committed_core core_made 4 made_by (references_left core_made.refs 4) (core_made.queue ++ 2 ∷ [])

abbrev core_condemned : Core
core_condemned = after_look core_queued [] (Some (condemned_round 2))

core-made : IsSound core_made
core-made = make_fitting-sound (after_begin (fresh_core 2 2) 4) (begin-sound (fresh_core 2 2) (fresh-sound 2 2) 4 refl) 4 new_transaction refl 1 2 refl ((λ e. omega (arith, e)), omega arith, refl)

-- the client named object 2 alone
only_two : (id : ℕ) → names core_made.refs 4 id ≡ true → 2 ≡ id
only_two id h = by (or_cases ((4 == 4) && (2 == id)) false h)
  where
    by : (((4 == 4) && (2 == id)) ≡ true) ⊎ (false ≡ true) → 2 ≡ id
    by (inl e) = eqb-true 2 id (and_parts (4 == 4) (2 == id) e).1
    by (inr e) = absurd (cc)

core-queued : IsSound core_queued
core-queued = commit_left-sound core_made core-made 4 made_by refl (references_left core_made.refs 4) (core_made.queue ++ 2 ∷ []) (references_left-fit core_made.refs 4)
    (queue-left core_made core-made 4 (references_left core_made.refs 4) (references_left-fit core_made.refs 4) (2 ∷ []) (record {
      once = once-one 2;
      fit = λ id m. subst (λ x. (is_live core_made.cells x ≡ true) × (x ≢ root) × (Contains (in_round core_made) x → ⊥) × (Contains core_made.queue x → ⊥)) (only-one 2 id m) (refl, (λ e. omega (arith, e)), (λ k. nothing-in 2 k), λ k. nothing-in 2 k);
      complete = λ id n l r z i u. subst (λ x. Contains (2 ∷ []) x) (only_two id n) (Contains-here 2 []);
    }))
    refl

core-condemned : IsSound core_condemned
core-condemned = condemn-sound core_queued core-queued 2 [] refl refl refl refl (λ e m. nothing-in e m) refl

core-freed : IsSound (after_free core_condemned 2 None)
core-freed = free_last-sound core_condemned core-condemned (condemned_round 2) refl 2 (Contains-here 2 []) (refl, (λ e. omega (arith, e)), (λ slot. blank-target true 2 slot), refl, refl) refl
