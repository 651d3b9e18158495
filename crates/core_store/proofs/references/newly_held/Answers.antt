use Rattle.std.proofs.Common.{◌≡◌, ℕ, List, [], ◌∷◌, ◌++◌, Option, Some, sym, subst, ap, ◌∙◌}
use Rattle.store_model.specs.Steps.{held_ids}
use Rattle.core_store.proofs.ReleaseNames.{held-none, held-root, held-again, held-new}
use Rattle.core_store.proofs.references.newly_held.Goals as goal

abbrev Adds : List (Option ℕ) → List ℕ → Option ℕ → Type 0
Adds earlier more register = held_ids (earlier ++ register ∷ []) ≡ held_ids earlier ++ more

pub returns-in-None : goal.returns-in-None
returns-in-None c = subst (Adds c.args.earlier.now []) (sym c.in-None.is) (held-none c.args.earlier.now)

pub returns-then-id-eq-ROOT : goal.returns-then-id-eq-ROOT
returns-then-id-eq-ROOT c = subst (Adds c.args.earlier.now []) (sym (c.in-Some.is ∙ ap Some c.if-id-eq-ROOT.true)) (held-root c.args.earlier.now)

pub returns-then-is_held : goal.returns-then-is_held
returns-then-is_held c = subst (Adds c.args.earlier.now []) (sym c.in-Some.is) (held-again c.args.earlier.now c.in-Some.id (sym c.is_held.ensures ∙ c.if-is_held.true))

pub returns-else-is_held : goal.returns-else-is_held
returns-else-is_held c = subst (Adds c.args.earlier.now (c.in-Some.id ∷ [])) (sym c.in-Some.is) (held-new c.args.earlier.now c.in-Some.id c.if-id-eq-ROOT.false (sym c.is_held.ensures ∙ c.if-is_held.false))
