-- What a list has at its end.
use Rattle.std.proofs.Common.{◌≡◌, ℕ, ◌-◌, List, [], ◌∷◌, ◌++◌, length, get_or, set, slice_set, slice_index_or, sym, ap, subst, ◌∙◌, arith}
use Rattle.std.proofs.lemmas.List.{length_push, get_or_push}
use Rattle.std.proofs.Math.Seq.{set-append_seam}
use Rattle.plain_model.specs.declared.calls.Call.{Call}
use Rattle.client_pass.specs.Scripts.{AddsToLast}

last-place : {X : Type 0} (before : List X) (last : X) → length (before ++ last ∷ []) - 1 ≡ length before
last-place before last = let l = length_push before last in omega (arith, l)

-- the last transaction, with a call more, in place of what it was
pub adds-to_last : (old : List (List Call)) (call : Call) (last new : List Call) → last ≡ slice_index_or old (length old - 1) last → new ≡ last ++ call ∷ [] → AddsToLast old call (slice_set old (length old - 1) new)
adds-to_last old call last new is more before t e =
    let at : last ≡ t = is ∙ ap (λ (xs : List (List Call)). get_or xs (length xs - 1) last) e ∙ get_or_push before t last (length (before ++ t ∷ []) - 1) (sym (last-place before t)) in
    ap (λ (xs : List (List Call)). set xs (length xs - 1) new) e
    ∙ ap (λ (n : ℕ). set (before ++ t ∷ []) n new) (last-place before t)
    ∙ set-append_seam before t [] new
    ∙ ap (λ (x : List Call). before ++ x ∷ []) (more ∙ ap (λ (xs : List Call). xs ++ call ∷ []) at)

-- the same, of what is borrowed
pub adds-at_end : (was items : List (List Call)) (n : ℕ) (call : Call) (last new : List Call) → items ≡ was → n ≡ length items → last ≡ slice_index_or items (n - 1) last → new ≡ last ++ call ∷ [] → AddsToLast was call (slice_set items (n - 1) new)
adds-at_end was items n call last new view len is more =
    subst (λ (xs : List (List Call)). AddsToLast xs call (slice_set items (n - 1) new)) view
    (subst (λ (m : ℕ). AddsToLast items call (slice_set items (m - 1) new)) (sym len)
    (adds-to_last items call last new (subst (λ (m : ℕ). last ≡ slice_index_or items (m - 1) last) len is) more))
