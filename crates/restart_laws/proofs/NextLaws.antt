-- The undo of a restart goes record by record, and a log may go on after it.
use Rattle.std.proofs.Common.{◌≡◌, ℕ, ◌-◌, List, [], ◌∷◌, ◌++◌, refl, sym, ap, ◌∙◌, map, take, length, Option, Some, None, inl, inr, ◌⊎◌}
use Rattle.std.specs.Prelude.{reverse, unwrap_or}
use Rattle.std.specs.List.{last_or}
use Rattle.std.specs.Option.{option_map_or}
use Rattle.std.proofs.lemmas.List.{reverse-append}
use Rattle.cell_model.specs.Cells.{Cell}
use Rattle.cell_model.specs.Records.{Record, AbortEnd, after_record, cells_after}
use Rattle.restart_laws.specs.Unended.{Change, Unended, without_change, unended_after, unended_after_all}
use Rattle.restart_laws.specs.Restored.{undo_of, undo_records, after_records, restart_records, next_undo, opened}
use Rattle.restart_laws.proofs.EntryLists.{changed-split, remove-split}
use Rattle.restart_laws.proofs.ReopenLaws.{earlier-opened, reopened, undo-ends, last-push, shorter}

-- a list and its last item
record HasLast (xs : List Change) : Type 0 where
  front : List Change
  last : Change
  split : xs ≡ front ++ last ∷ []

ends : (xs : List Change) → (xs ≡ []) ⊎ HasLast xs
ends [] = inl refl
ends (x ∷ xs) = inr (by (ends xs))
  where
    by : (xs ≡ []) ⊎ HasLast xs → HasLast (x ∷ xs)
    by (inl e) = record { front = []; last = x; split = ap (λ r. x ∷ r) e }
    by (inr h) = record { front = x ∷ h.front; last = h.last; split = ap (λ r. x ∷ r) h.split }

some-same : (r s : Record) → Some r ≡ Some s → r ≡ s
some-same r s e = ap (λ o. unwrap_or o r) e

pub next-none : (slots : ℕ) (cells : List Cell) (us : List (ℕ × Unended)) → next_undo cells us ≡ None → restart_records slots cells us ≡ []
next-none slots cells [] e = refl
next-none slots cells (u ∷ us) e = cc

pub next-some : (slots : ℕ) (cells : List Cell) (us : List (ℕ × Unended)) (r : Record) → next_undo cells us ≡ Some r → restart_records slots cells us ≡ r ∷ restart_records slots (after_record slots cells r) (unended_after us r)
next-some slots cells [] r e = cc
next-some slots cells (u ∷ us) r e = by (ends u.1.changes)
  where
    pass : ℕ
    pass = u.0

    -- with these changes
    with_changes : List Change → List Record
    with_changes cs = (let rs = undo_records slots cells u.0 (reverse cs) in rs ++ restart_records slots (after_records slots cells rs) us)

    by : (u.1.changes ≡ []) ⊎ HasLast u.1.changes → restart_records slots cells (u ∷ us) ≡ r ∷ restart_records slots (after_record slots cells r) (unended_after (u ∷ us) r)
    by (inl none) =
        let is : AbortEnd u.0 ≡ r = some-same (AbortEnd u.0) r (ap (λ cs. Some (option_map_or (undo_of cells u.0) (last_or None cs) (AbortEnd u.0))) (sym none) ∙ e) in
        ap (λ cs. (let rs = undo_records slots cells u.0 (reverse cs) in rs ++ restart_records slots (after_records slots cells rs) us)) none
        ∙ (ap (λ l. AbortEnd u.0 ∷ restart_records slots cells l) (sym (remove-split [] us u.0 u.1 tt))
        ∙ ap (λ r. r ∷ restart_records slots (after_record slots cells r) (unended_after (u ∷ us) r)) is)
    by (inr h) =
        let c = h.last in
        let q = undo_of cells u.0 c in
        let is : q ≡ r = some-same q r (ap (λ o. Some (option_map_or (undo_of cells u.0) o (AbortEnd u.0))) (sym (ap (last_or None) h.split ∙ last-push None h.front c)) ∙ e) in
        let next = after_record slots cells q in
        let less : (without_change u.1).changes ≡ h.front = ap (λ l. take (length l - 1) l) h.split ∙ shorter h.front c in
        let after : unended_after (u ∷ us) q ≡ (u.0, without_change u.1) ∷ us = undo-ends (u ∷ us) cells u.0 c ∙ changed-split [] us u.0 u.1 without_change tt in
        let first : restart_records slots cells (u ∷ us) ≡ q ∷ (undo_records slots next u.0 (reverse h.front) ++ restart_records slots (after_records slots next (undo_records slots next u.0 (reverse h.front))) us) =
        ap (λ cs. (let rs = undo_records slots cells u.0 cs in rs ++ restart_records slots (after_records slots cells rs) us)) (ap reverse h.split ∙ reverse-append h.front (c ∷ [])) in
        first
        ∙ (ap (λ cs. q ∷ (undo_records slots next u.0 (reverse cs) ++ restart_records slots (after_records slots next (undo_records slots next u.0 (reverse cs))) us)) (sym less)
        ∙ (ap (λ l. q ∷ restart_records slots next l) (sym after)
        ∙ ap (λ r. r ∷ restart_records slots (after_record slots cells r) (unended_after (u ∷ us) r)) is))

pub goes-on : (slots : ℕ) (cells : List Cell) (records undo later : List (Option Record)) → undo ≡ map Some (restart_records slots (cells_after slots cells records) (unended_after_all [] records)) → opened slots cells ((records ++ undo) ++ later) ≡ opened slots (opened slots cells records) later
goes-on slots cells records undo later e =
    let h = reopened slots cells records undo e in
    earlier-opened slots cells (records ++ undo) later h.0 ∙ ap (λ cs. opened slots cs later) h.1
