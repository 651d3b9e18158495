-- Marks that follow the records of a log.
use Rattle.std.proofs.Common.{◌≡◌, ℕ, ◌<◌, Bool, true, false, List, [], ◌∷◌, ◌++◌, length, refl, sym, ap, subst, ◌∙◌, append_assoc}
use Rattle.std.specs.Prelude.{◌||◌, fold, replicate, slice_index_or, if◌then◌else◌}
use Rattle.std.specs.List.{list_any}
use Rattle.std.proofs.lemmas.List.{append-nil, get_or-replicate, length-replicate}
use Rattle.std.proofs.lemmas.List.Folds.{list_any-append}
use Rattle.std.proofs.lemmas.List.Sums.{fold-append}
use Rattle.log_record.specs.declared.record.Record.{Record}
use Rattle.opened_images.specs.Marks.{is_image_of, concerns, is_changed, is_current, current_by}
use Rattle.page_marks.specs.declared.marks.PageMark.{PageMark}
use Rattle.page_marks.specs.Marks.{unmarked, mark_by, AreMarkedBy, AreMarks, AreMarkedByAll, FirstMarksLaw, NextMarksLaw}

-- the mark of a page, by whether a record concerns it and whether its image is current
mark : Bool → Bool → PageMark
mark changed current = record { changed = changed; current = current }

-- ---- one record more

changed-more : {slots : ℕ} (page : ℕ) (rs : List (Record slots)) (r : Record slots) → is_changed page (rs ++ r ∷ []) ≡ (is_changed page rs || (concerns page r || false))
changed-more page rs r = list_any-append (concerns page) rs (r ∷ [])

current-more : {slots : ℕ} (page : ℕ) (rs : List (Record slots)) (r : Record slots) → is_current page (rs ++ r ∷ []) ≡ current_by page (is_current page rs) r
current-more page rs r = fold-append (current_by page) false rs (r ∷ [])

-- by cases: whether the record concerns the page
by-cases : (concerned image changed current : Bool)
    → (if concerned then record { changed = true; current = image } else mark changed current) ≡ mark (changed || (concerned || false)) (if concerned then image else current)
unfolding mark
by-cases true image true current = refl
by-cases true image false current = refl
by-cases false image true current = refl
by-cases false image false current = refl

one-more : {slots : ℕ} (page : ℕ) (rs : List (Record slots)) (r : Record slots)
    → mark_by page r (mark (is_changed page rs) (is_current page rs)) ≡ mark (is_changed page (rs ++ r ∷ [])) (is_current page (rs ++ r ∷ []))
one-more page rs r =
    by-cases (concerns page r) (is_image_of page r) (is_changed page rs) (is_current page rs)
    ∙ ap (λ (b : Bool). mark b (current_by page (is_current page rs) r)) (sym (changed-more page rs r)) ∙ ap (λ (b : Bool). mark (is_changed page (rs ++ r ∷ [])) b) (sym (current-more page rs r))

pub first-marks : FirstMarksLaw
first-marks slots pages page d low = get_or-replicate pages page unmarked d (subst (λ (n : ℕ). page < n) (length-replicate pages unmarked) low)

pub next-marks : NextMarksLaw
unfolding mark
next-marks slots rs r before now are by page d low =
    let inside : page < length before = subst (λ (n : ℕ). page < n) by.as_many low in
    by.each page d inside ∙ ap (mark_by page r) (are page d inside) ∙ one-more page rs r

-- ---- many records more

pub no-marks : (slots : ℕ) (marks : List PageMark) → AreMarkedByAll {slots = slots} [] marks marks
no-marks slots marks = record { as_many = refl; more = λ earlier are. subst (λ (l : List (Record slots)). AreMarks l marks) (sym (append-nil earlier)) are }

pub one-record : {slots : ℕ} (r : Record slots) (before now : List PageMark) → AreMarkedBy r before now → AreMarkedByAll (r ∷ []) before now
one-record {slots} r before now by = record { as_many = by.as_many; more = λ earlier are. next-marks slots earlier r before now are by }

pub both-marks : {slots : ℕ} (rs ss : List (Record slots)) (a b c : List PageMark) → AreMarkedByAll rs a b → AreMarkedByAll ss b c → AreMarkedByAll (rs ++ ss) a c
both-marks {slots} rs ss a b c f g =
    record {
      as_many = g.as_many ∙ f.as_many;
      more = λ earlier are. subst (λ (l : List (Record slots)). AreMarks l c) (append_assoc earlier rs ss) (g.more (earlier ++ rs) (f.more earlier are));
    }
