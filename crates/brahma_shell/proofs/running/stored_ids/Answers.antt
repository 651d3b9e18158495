use Rattle.std.proofs.Common.{◌≡◌, ℕ, ◌+◌, ◌∷◌, ◌++◌, [], Vec, Global, refl, sym, ap, ◌∙◌}
use Rattle.std.specs.Prelude.{if◌then◌else◌}
use Rattle.std.proofs.lemmas.List.{append-nil}
use Rattle.brahma_shell.proofs.SeenLemmas.{peeks-more, seen-more}
use Rattle.brahma_shell.proofs.running.stored_ids.Goals.{then-is_stored+in_ok-push, else-is_stored}
use Rattle.brahma_shell.proofs.running.stored_ids.Goals as goal

pub ids-preserved : goal.ids-preserved
ids-preserved g c =
    let u = c.ids.main.view in
    let v = c.is_stored.new.main.view in
    let all : c.if-is_stored.stored.items ≡ c.ids.stored.items ++ (if c.is_stored.result then (c.ids.before + 1) ∷ [] else []) =
    elim c.if-is_stored.branch [
      | then-is_stored+in_ok-push w ↦ ap (λ (xs : Vec ℕ Global). xs.items) w.stored-is ∙ w.in_ok-push.ensures.items ∙ ap (λ b. c.ids.stored.items ++ (if b then (c.ids.before + 1) ∷ [] else [])) (sym w.if-is_stored.true)
      | else-is_stored w ↦ ap (λ (xs : Vec ℕ Global). xs.items) w.stored-is ∙ sym (append-nil c.ids.stored.items) ∙ ap (λ b. c.ids.stored.items ++ (if b then (c.ids.before + 1) ∷ [] else [])) (sym w.if-is_stored.false)
    ] in
    record {
      of = c.is_stored.ensures.of;
      only = peeks-more c.args.main.now.view u v c.ids.invariant.only c.is_stored.ensures.only;
      seen = seen-more u v c.ids.before (c.ids.before + 1) c.is_stored.result c.ids.stored.items c.if-is_stored.stored.items refl c.is_stored.ensures.only c.ids.invariant.seen c.is_stored.ensures.seen all;
    }
