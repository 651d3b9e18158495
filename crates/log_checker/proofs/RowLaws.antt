-- The rows of the clients' open writes, where one of them changes.
use Rattle.std.proofs.Common.{◌≡◌, ◌≢◌, ℕ, zero, suc, ◌<◌, Bool, List, [], ◌∷◌, ◌++◌, length, replicate, refl, sym, ap, subst, ◌∙◌, ⊎_elim, eq-eqb, ne_eqb, get_or-set_same, get_or-set_other}
use Rattle.std.specs.Prelude.{◌==◌, if◌then◌else◌, slice_index_or, slice_set}
use Rattle.std.specs.List.{AllByRecursion}
use Rattle.std.proofs.lemmas.Bool.{cases_eq}
use Rattle.std.proofs.lemmas.List.{append-nil}
use Rattle.plain_model.specs.declared.write.Write.{Write}
use Rattle.plain_model.proofs.GraphLemmas.{AllByRecursion-push}
use Rattle.log_checker.specs.FoldedObjects.{IsInside}

abbrev at : List (List Write) → ℕ → List Write
at rows pass = slice_index_or rows pass []

-- so many empty rows
abbrev pub empty_rows : ℕ → List (List Write)
empty_rows n = replicate n []

pub none_at : (n pass : ℕ) → at (empty_rows n) pass ≡ []
none_at zero pass = refl
none_at (suc n) zero = refl
none_at (suc n) (suc pass) = none_at n pass

here : (rows : List (List Write)) (pass q : ℕ) (row : List Write) → pass < length rows → q ≡ pass → at (slice_set rows pass row) q ≡ row
here rows pass q row within same = subst (λ (j : ℕ). at (slice_set rows pass row) j ≡ row) (sym same) (get_or-set_same rows pass row [] within)

-- the client's row is emptied
pub row_left : (rows : List (List Write)) (pass q : ℕ) → pass < length rows → at (slice_set rows pass []) q ≡ (if pass == q then [] else at rows q ++ [])
row_left rows pass q within =
    let by : Bool → List Write = λ b. if b then [] else at rows q ++ [] in
    ⊎_elim
    (λ (same : q ≡ pass). here rows pass q [] within same ∙ ap by (sym (eq-eqb pass q (sym same))))
    (λ (apart : q ≢ pass). get_or-set_other rows pass q [] [] apart ∙ sym (append-nil (at rows q)) ∙ ap by (sym (ne_eqb pass q (λ s. apart (sym s)))))
    (cases_eq q pass)

-- the client's row has one write more
pub row_noted : (rows : List (List Write)) (pass q : ℕ) (w : Write) → pass < length rows
    → at (slice_set rows pass (at rows pass ++ w ∷ [])) q ≡ at rows q ++ (if pass == q then w ∷ [] else [])
row_noted rows pass q w within =
    let by : Bool → List Write = λ b. at rows q ++ (if b then w ∷ [] else []) in
    ⊎_elim
    (λ (same : q ≡ pass). here rows pass q (at rows pass ++ w ∷ []) within same ∙ ap (λ (j : ℕ). at rows j ++ w ∷ []) (sym same) ∙ ap by (sym (eq-eqb pass q (sym same))))
    (λ (apart : q ≢ pass). get_or-set_other rows pass q (at rows pass ++ w ∷ []) [] apart ∙ sym (append-nil (at rows q)) ∙ ap by (sym (ne_eqb pass q (λ s. apart (sym s)))))
    (cases_eq q pass)

-- ---- the writes stay inside

abbrev pub AreInside : ℕ → ℕ → List (List Write) → Type 0
AreInside slots cells rows = (q : ℕ) → AllByRecursion (IsInside slots cells) (slice_index_or rows q [])

set_inside : (slots cells : ℕ) (rows : List (List Write)) (pass : ℕ) (row : List Write) → pass < length rows → AllByRecursion (IsInside slots cells) row → AreInside slots cells rows
    → AreInside slots cells (slice_set rows pass row)
set_inside slots cells rows pass row within new all q =
    ⊎_elim
    (λ (same : q ≡ pass). subst (λ (l : List Write). AllByRecursion (IsInside slots cells) l) (sym (here rows pass q row within same)) new)
    (λ (apart : q ≢ pass). subst (λ (l : List Write). AllByRecursion (IsInside slots cells) l) (sym (get_or-set_other rows pass q row [] apart)) (all q))
    (cases_eq q pass)

pub left_inside : (slots cells : ℕ) (rows : List (List Write)) (pass : ℕ) → pass < length rows → AreInside slots cells rows → AreInside slots cells (slice_set rows pass [])
left_inside slots cells rows pass within all = set_inside slots cells rows pass [] within tt all

pub noted_inside : (slots cells : ℕ) (rows : List (List Write)) (pass : ℕ) (w : Write) → pass < length rows → IsInside slots cells w → AreInside slots cells rows
    → AreInside slots cells (slice_set rows pass (slice_index_or rows pass [] ++ w ∷ []))
noted_inside slots cells rows pass w within new all =
    set_inside slots cells rows pass (at rows pass ++ w ∷ []) within (AllByRecursion-push (IsInside slots cells) (at rows pass) w (all pass) new) all

pub none_inside : (slots cells n : ℕ) → AreInside slots cells (empty_rows n)
none_inside slots cells n q = subst (λ (l : List Write). AllByRecursion (IsInside slots cells) l) (sym (none_at n q)) tt
