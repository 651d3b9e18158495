-- Marks for each id, and the ids of a list that have them.
use Rattle.std.proofs.Common.{◌≡◌, ◌≢◌, ℕ, ◌<◌, Bool, true, false, not, cond, ◌&&◌, ◌||◌, ◌==◌, List, [], ◌∷◌, ◌++◌, filter, length, get_or, slice_set, refl, sym, ap, ◌∙◌, subst, ⊎_elim, true≢false, ne_eqb, eq-eqb}
use Rattle.std.proofs.Math.Bool.{and-false}
use Rattle.std.proofs.lemmas.Bool.{cases_eq}
use Rattle.std.proofs.lemmas.List.{get_or-set_same, get_or-set_other, append-nil}
use Rattle.std.proofs.lemmas.List.Elements.{filter-append}
use Rattle.ref_tables.specs.Queue.{has, without}
use Rattle.red_walk.specs.Inside.{marked, unmarked}
use Rattle.red_walk.proofs.Filters.{filter-same, filter-both, has-filter}

-- a mark that is set for one id
mark-set : (marks : List Bool) (id x : ℕ) (mark : Bool) → id < length marks → get_or (slice_set marks id mark) x false ≡ cond (x == id) mark (get_or marks x false)
mark-set marks id x mark within =
    ⊎_elim
    (λ (here : x ≡ id). subst (λ z. get_or (slice_set marks id mark) z false ≡ cond (z == id) mark (get_or marks z false)) (sym here) (get_or-set_same marks id mark false within ∙ sym (ap (λ b. cond b mark (get_or marks id false)) (eq-eqb id id refl))))
    (λ (apart : x ≢ id). get_or-set_other marks id x mark false apart ∙ sym (ap (λ b. cond b mark (get_or marks x false)) (ne_eqb x id apart)))
    (cases_eq x id)

-- an id that isn't in the list changes nothing there
other-marks : (f : Bool → Bool) (ids : List ℕ) (marks : List Bool) (id : ℕ) (mark : Bool) → has ids id ≡ false → filter (λ x. f (get_or (slice_set marks id mark) x false)) ids ≡ filter (λ x. f (get_or marks x false)) ids
other-marks f ids marks id mark new = filter-same (λ x. f (get_or (slice_set marks id mark) x false)) (λ x. f (get_or marks x false)) ids (λ x m. ap f (get_or-set_other marks id x mark false (λ e. true≢false (sym m ∙ ap (λ z. has ids z) e ∙ new))))

-- an id joins without a mark
pub marked-push : (ids : List ℕ) (marks : List Bool) (id : ℕ) → id < length marks → has ids id ≡ false → marked (ids ++ id ∷ []) (slice_set marks id false) ≡ marked ids marks
marked-push ids marks id within new =
    filter-append (λ x. get_or (slice_set marks id false) x false) ids (id ∷ [])
    ∙ ap (λ ys. ys ++ marked (id ∷ []) (slice_set marks id false)) (other-marks (λ b. b) ids marks id false new)
    ∙ ap (λ b. marked ids marks ++ cond b (id ∷ []) []) (get_or-set_same marks id false false within)
    ∙ append-nil (marked ids marks)

pub unmarked-push : (ids : List ℕ) (marks : List Bool) (id : ℕ) → id < length marks → has ids id ≡ false → unmarked (ids ++ id ∷ []) (slice_set marks id false) ≡ unmarked ids marks ++ id ∷ []
unmarked-push ids marks id within new =
    filter-append (λ x. not (get_or (slice_set marks id false) x false)) ids (id ∷ [])
    ∙ ap (λ ys. ys ++ unmarked (id ∷ []) (slice_set marks id false)) (other-marks not ids marks id false new)
    ∙ ap (λ b. unmarked ids marks ++ cond (not b) (id ∷ []) []) (get_or-set_same marks id false false within)

-- one id more is marked
pub marked-more : (ids : List ℕ) (marks : List Bool) (id : ℕ) → id < length marks → marked ids (slice_set marks id true) ≡ filter (λ x. (x == id) || has (marked ids marks) x) ids
marked-more ids marks id within = filter-same (λ x. get_or (slice_set marks id true) x false) (λ x. (x == id) || has (marked ids marks) x) ids (λ x m.
    mark-set marks id x true within ∙ either (x == id) (get_or marks x false)
    ∙ ap (λ b. (x == id) || b) (sym (has-filter (λ y. get_or marks y false) ids x ∙ ap (λ b. b && get_or marks x false) m)))
  where
    either : (a b : Bool) → cond a true b ≡ (a || b)
    either true b = refl
    either false b = refl

pub unmarked-less : (ids : List ℕ) (marks : List Bool) (id : ℕ) → id < length marks → unmarked ids (slice_set marks id true) ≡ without (unmarked ids marks) id
unmarked-less ids marks id within =
    filter-same (λ x. not (get_or (slice_set marks id true) x false)) (λ x. not (get_or marks x false) && not (x == id)) ids (λ x m. ap not (mark-set marks id x true within) ∙ neither (x == id) (get_or marks x false))
    ∙ sym (filter-both (λ x. not (get_or marks x false)) (λ x. not (x == id)) ids)
  where
    neither : (a b : Bool) → not (cond a true b) ≡ (not b && not a)
    neither true b = sym (and-false (not b))
    neither false true = refl
    neither false false = refl
