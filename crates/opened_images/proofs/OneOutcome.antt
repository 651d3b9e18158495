-- An image opens to one outcome at most.
use Rattle.std.proofs.Common.{◌≡◌, ℕ, ◌+◌, ◌*◌, ◌<◌, ◌⊎◌, inl, inr, List, [], ◌∷◌, ◌++◌, length, reverse, Option, Some, None, refl, sym, ap, subst, ◌∙◌, append_assoc, length-append, arith}
use Rattle.std.proofs.lemmas.Bool.{cases_order}
use Rattle.std.proofs.lemmas.List.{append-nil, append_cancel_left}
use Rattle.std.proofs.lemmas.Grind.{flat_map-append}
use Rattle.cell_model.specs.Cells.{Cell}
use Rattle.cell_model.specs.Records.{after_record}
use Rattle.cell_page.specs.Format.{IsSlotCount, cell_size, first_id}
use Rattle.cell_page.specs.Fields.{bytes_at, broken_in_cell, FailsAt}
use Rattle.disk_model.specs.declared.area.Area.{Area}
use Rattle.disk_model.specs.Areas.{Bytes, in_area}
use Rattle.gate_log.specs.OnDisk.{named_by}
use Rattle.log_record.specs.declared.record.Record.{Record}
use Rattle.restart_laws.specs.Unended.{Change, Unended}
use Rattle.restart_laws.specs.Restored.{undo_of, undo_records, after_records, restored, CanAllBeUndone, CanRestart}
use Rattle.restart_laws.specs.Rules.{BreaksRule, IsFirstBroken}
use Rattle.opened_images.specs.LogRecords.{all_of, unended_behind, next_record_at, IsOfVersion, IsRecordLog, IsDamagedLog}
use Rattle.page_area.specs.Place.{bytes_of_page}
use Rattle.opened_images.specs.Replayed.{cells_of_log, IsDamagedPage, FitsCellsOf, AllFitCells}
use Rattle.opened_images.specs.Opened.{Outcome, NoStore, UnknownVersion, DamagedLog, DamagedPage, Unsound, OpensTo, KeepsRules, IsStuckAt, RestartsStuckAt, AreCellsRead, Opened, no_store, damaged_log, unknown_version, damaged_page, unfit, unsound, stuck, opens}
use Rattle.opened_images.proofs.Bodies.{cons_same}
use Rattle.opened_images.proofs.Ways.{Told, IsLogOf, IsDamagedAt, HasVersion, one_way}
use Rattle.opened_images.proofs.LogWays.{log_way, damage_way, version_way, one_log, undamaged, one_place}

-- ---- the least number that has a property

least_same : (P : ℕ → Type 0) (p q : ℕ) → P p → P q → ((k : ℕ) → k < p → P k → ⊥) → ((k : ℕ) → k < q → P k → ⊥) → p ≡ q
least_same P p q has has_too least least_too = by (cases_order p q)
  where
    by : (p ≡ q) ⊎ ((p < q) ⊎ (q < p)) → p ≡ q
    by (inl same) = same
    by (inr (inl low)) = absurd (least_too p low has)
    by (inr (inr low)) = absurd (least q low has_too)

-- ---- pages

none_some : (x : ℕ) → None ≡ Some x → ⊥
none_some x e = cc

some_same : (x y : ℕ) → Some x ≡ Some y → x ≡ y
some_same x y e = cc

sums_same : (c p q a b : ℕ) → p ≡ q → a ≡ b → p * c + a ≡ q * c + b
sums_same c p q a b e f = cc

first_same : (f : ℕ → Option ℕ) (p q a b : ℕ) → ((k : ℕ) → k < p → f k ≡ None) → ((k : ℕ) → k < q → f k ≡ None) → f p ≡ Some a → f q ≡ Some b → (p ≡ q) × (a ≡ b)
first_same f p q a b early early_too is is_too = by (cases_order p q)
  where
    by : (p ≡ q) ⊎ ((p < q) ⊎ (q < p)) → (p ≡ q) × (a ≡ b)
    by (inl same) = (same, some_same a b (sym is ∙ ap f same ∙ is_too))
    by (inr (inl low)) = absurd (none_some a (sym (early_too p low) ∙ is))
    by (inr (inr low)) = absurd (none_some b (sym (early q low) ∙ is_too))

one_fail : (slots page : ℕ) (bytes : List ℕ) (a b : ℕ) → FailsAt slots page bytes a → FailsAt slots page bytes b → a ≡ b
one_fail slots page bytes a b (inl x) (inl y) = x.1 ∙ sym y.1
one_fail slots page bytes a b (inl x) (inr y) = absurd (omega (arith, x.0, y.0))
one_fail slots page bytes a b (inr x) (inl y) = absurd (omega (arith, x.0, y.0))
one_fail slots page bytes a b (inr x) (inr y) =
    let same = first_same (λ (k : ℕ). broken_in_cell slots (first_id page + k) (bytes_at slots bytes k)) x.1.place y.1.place x.1.offset y.1.offset x.1.earlier y.1.earlier x.1.here y.1.here in
    x.1.sum ∙ sums_same (cell_size slots) x.1.place y.1.place x.1.offset y.1.offset same.0 same.1 ∙ sym y.1.sum

pages_same : (page other a b : ℕ) → page ≡ other → a ≡ b → DamagedPage page a ≡ DamagedPage other b
pages_same page other a b e f = cc

-- no page below has damage without an image
abbrev pub NoneLower : {slots : ℕ} → List ℕ → List (Record slots) → ℕ → Type 0
NoneLower area rs page = (lower at : ℕ) → lower < page → IsDamagedPage area rs lower at → ⊥

one_page : {slots : ℕ} (area : List ℕ) (rs : List (Record slots)) (page other a b : ℕ) → IsDamagedPage area rs page a → IsDamagedPage area rs other b → NoneLower area rs page → NoneLower area rs other
    → DamagedPage page a ≡ DamagedPage other b
one_page {slots} area rs page other a b d e least least_too =
    let same = least_same (λ (p : ℕ). (at : ℕ) × IsDamagedPage area rs p at) page other (a, d) (b, e) (λ k low has. least k has.0 low has.1) (λ k low has. least_too k has.0 low has.1) in
    pages_same page other a b same (one_fail slots page (bytes_of_page slots page area) a b d.fails (subst (λ (p : ℕ). IsDamagedPage area rs p b) (sym same) e).fails)

-- ---- records that don't fit the cells

pub heads : {X : Type 0} (x y : X) (xs ys : List X) → x ∷ xs ≡ y ∷ ys → x ≡ y
heads x y xs ys e = cc

pub tails : {X : Type 0} (x y : X) (xs ys : List X) → x ∷ xs ≡ y ∷ ys → xs ≡ ys
tails x y xs ys e = cc

pub fits_same : {slots : ℕ} (pages : ℕ) (area : List ℕ) (b c : List (Record slots)) (r s : Record slots) (x y : List (Record slots)) → b ≡ c → r ≡ s → x ≡ y
    → FitsCellsOf pages area b r x → FitsCellsOf pages area c s y
fits_same {slots} pages area b c r s x y e f g fits =
    subst (λ (l : List (Record slots)). FitsCellsOf pages area c s l) g
    (subst (λ (t : Record slots). FitsCellsOf pages area c t x) f (subst (λ (l : List (Record slots)). FitsCellsOf pages area l r x) e fits))

-- each record of some that fit
fits_within : {slots : ℕ} (pages : ℕ) (area : List ℕ) (done before : List (Record slots)) (r : Record slots) (after later : List (Record slots)) → AllFitCells pages area done (before ++ r ∷ after) later
    → FitsCellsOf pages area (done ++ before) r (after ++ later)
fits_within pages area done [] r after later f = fits_same pages area done (done ++ []) r r (after ++ later) (after ++ later) (sym (append-nil done)) refl refl f.0
fits_within pages area done (q ∷ before) r after later f =
    fits_same pages area ((done ++ q ∷ []) ++ before) (done ++ q ∷ before) r r (after ++ later) (after ++ later) (append_assoc done (q ∷ []) before) refl refl
    (fits_within pages area (done ++ q ∷ []) before r after later f.1)

-- the first that doesn't
first_unfit : {slots : ℕ} (pages : ℕ) (area : List ℕ) (done before befores : List (Record slots)) (r s : Record slots) (after afters : List (Record slots))
    → before ++ r ∷ after ≡ befores ++ s ∷ afters → AllFitCells pages area done before (r ∷ after) → AllFitCells pages area done befores (s ∷ afters)
    → (FitsCellsOf pages area (done ++ before) r after → ⊥) → (FitsCellsOf pages area (done ++ befores) s afters → ⊥) → before ≡ befores
first_unfit pages area done [] [] r s after afters e f g denied nope = refl
first_unfit pages area done [] (q ∷ befores) r s after afters e f g denied nope =
    absurd (denied (fits_same pages area done (done ++ []) q r (befores ++ s ∷ afters) after (sym (append-nil done)) (sym (heads r q after (befores ++ s ∷ afters) e)) (sym (tails r q after (befores ++ s ∷ afters) e)) g.0))
first_unfit pages area done (p ∷ before) [] r s after afters e f g denied nope =
    absurd (nope (fits_same pages area done (done ++ []) p s (before ++ r ∷ after) afters (sym (append-nil done)) (heads p s (before ++ r ∷ after) afters e) (tails p s (before ++ r ∷ after) afters e) f.0))
first_unfit {slots} pages area done (p ∷ before) (q ∷ befores) r s after afters e f g denied nope =
    let same = heads p q (before ++ r ∷ after) (befores ++ s ∷ afters) e in
    let on : List (Record slots) = done ++ p ∷ [] in
    cons_same p q before befores same (
    first_unfit pages area on before befores r s after afters (tails p q (before ++ r ∷ after) (befores ++ s ∷ afters) e) f.1
    (subst (λ (t : Record slots). AllFitCells pages area (done ++ t ∷ []) befores (s ∷ afters)) (sym same) g.1)
    (λ fits. denied (fits_same pages area (on ++ before) (done ++ p ∷ before) r r after after (append_assoc done (p ∷ []) before) refl refl fits))
    (λ fits. nope (fits_same pages area (on ++ befores) (done ++ q ∷ befores) s s afters afters (append_assoc done (p ∷ []) befores ∙ ap (λ (t : Record slots). done ++ t ∷ befores) same) refl refl fits))
    )

-- the records of some batches, where one of them is told apart
flat : {slots : ℕ} (front : List (List (Record slots))) (before : List (Record slots)) (r : Record slots) (after : List (Record slots)) (back : List (List (Record slots)))
    → all_of (front ++ (before ++ r ∷ after) ∷ back) ≡ (all_of front ++ before) ++ (r ∷ (after ++ all_of back))
flat {slots} front before r after back =
    flat_map-append (λ (x : List (Record slots)). x) front ((before ++ r ∷ after) ∷ back)
    ∙ ap (λ (l : List (Record slots)). all_of front ++ l) (append_assoc before (r ∷ after) (all_of back))
    ∙ sym (append_assoc (all_of front) before (r ∷ (after ++ all_of back)))

-- it stands in one place
one_split : {slots : ℕ} (front fronts : List (List (Record slots))) (before befores : List (Record slots)) (r s : Record slots) (after afters : List (Record slots)) (back backs : List (List (Record slots)))
    → front ++ (before ++ r ∷ after) ∷ back ≡ fronts ++ (befores ++ s ∷ afters) ∷ backs → all_of front ++ before ≡ all_of fronts ++ befores → (front ≡ fronts) × (before ≡ befores)
one_split [] [] before befores r s after afters back backs e f = (refl, f)
one_split [] (y ∷ ys) before befores r s after afters back backs e f =
    absurd (omega (arith, ap length f, ap length (heads (before ++ r ∷ after) y back (ys ++ (befores ++ s ∷ afters) ∷ backs) e), length-append (y ++ all_of ys) befores, length-append y (all_of ys), length-append before (r ∷ after)))
one_split (x ∷ xs) [] before befores r s after afters back backs e f =
    absurd (omega (arith, ap length f, ap length (heads x (befores ++ s ∷ afters) (xs ++ (before ++ r ∷ after) ∷ back) backs e), length-append (x ++ all_of xs) before, length-append x (all_of xs), length-append befores (s ∷ afters)))
one_split {slots} (x ∷ xs) (y ∷ ys) before befores r s after afters back backs e f =
    let same = heads x y (xs ++ (before ++ r ∷ after) ∷ back) (ys ++ (befores ++ s ∷ afters) ∷ backs) e in
    let split = sym (append_assoc x (all_of xs) before) ∙ f ∙ append_assoc y (all_of ys) befores ∙ ap (λ (l : List (Record slots)). l ++ (all_of ys ++ befores)) (sym same) in
    let later = one_split xs ys before befores r s after afters back backs (tails x y (xs ++ (before ++ r ∷ after) ∷ back) (ys ++ (befores ++ s ∷ afters) ∷ backs) e)
    (append_cancel_left x (all_of xs ++ before) (all_of ys ++ befores) split) in
    (cons_same x y xs ys same later.0, later.1)

-- ---- changes that can't be undone

one_stuck : (slots : ℕ) (cells : List Cell) (pass : ℕ) (cs : List Change) (id other : ℕ) → IsStuckAt slots cells pass cs id → IsStuckAt slots cells pass cs other → id ≡ other
one_stuck slots cells pass [] id other a b = absurd a
one_stuck slots cells pass (c ∷ cs) id other (inl a) (inl b) = a.1 ∙ sym b.1
one_stuck slots cells pass (c ∷ cs) id other (inl a) (inr b) = absurd (a.0 b.0)
one_stuck slots cells pass (c ∷ cs) id other (inr a) (inl b) = absurd (b.0 a.0)
one_stuck slots cells pass (c ∷ cs) id other (inr a) (inr b) = one_stuck slots (after_record slots cells (undo_of cells pass c)) pass cs id other a.1 b.1

not_stuck : (slots : ℕ) (cells : List Cell) (pass : ℕ) (cs : List Change) (id : ℕ) → IsStuckAt slots cells pass cs id → CanAllBeUndone slots cells pass cs → ⊥
not_stuck slots cells pass [] id a can = a
not_stuck slots cells pass (c ∷ cs) id (inl a) can = a.0 can.0
not_stuck slots cells pass (c ∷ cs) id (inr a) can = not_stuck slots (after_record slots cells (undo_of cells pass c)) pass cs id a.1 can.1

abbrev after_undo : ℕ → List Cell → ℕ × Unended → List Cell
after_undo slots cells e = after_records slots cells (undo_records slots cells e.0 (reverse e.1.changes))

one_restart : (slots : ℕ) (cells : List Cell) (us : List (ℕ × Unended)) (id other : ℕ) → RestartsStuckAt slots cells us id → RestartsStuckAt slots cells us other → id ≡ other
one_restart slots cells [] id other a b = absurd a
one_restart slots cells (e ∷ es) id other (inl a) (inl b) = one_stuck slots cells e.0 (reverse e.1.changes) id other a b
one_restart slots cells (e ∷ es) id other (inl a) (inr b) = absurd (not_stuck slots cells e.0 (reverse e.1.changes) id a b.0)
one_restart slots cells (e ∷ es) id other (inr a) (inl b) = absurd (not_stuck slots cells e.0 (reverse e.1.changes) other b a.0)
one_restart slots cells (e ∷ es) id other (inr a) (inr b) = one_restart slots (after_undo slots cells e) es id other a.1 b.1

restart_goes : (slots : ℕ) (cells : List Cell) (us : List (ℕ × Unended)) (id : ℕ) → RestartsStuckAt slots cells us id → CanRestart slots cells us → ⊥
restart_goes slots cells [] id a can = a
restart_goes slots cells (e ∷ es) id (inl a) can = not_stuck slots cells e.0 (reverse e.1.changes) id a can.0
restart_goes slots cells (e ∷ es) id (inr a) can = restart_goes slots (after_undo slots cells e) es id a.1 can.1

-- ---- the tests, from the last to the first: which outcome is told, where all earlier ones were passed

data ByUndo (slots : ℕ) (cells : List Cell) (us : List (ℕ × Unended)) : Outcome → Type 0 where
  is_stuck : (id : ℕ) → RestartsStuckAt slots cells us id → ByUndo slots cells us (Unsound id 5)
  is_undone : CanRestart slots cells us → ByUndo slots cells us (OpensTo (restored slots cells us))

data ByRules (slots : ℕ) (cells : List Cell) (us : List (ℕ × Unended)) : Outcome → Type 0 where
  is_broken : (rule id : ℕ) → IsFirstBroken cells rule id → ByRules slots cells us (Unsound id rule)
  are_kept : KeepsRules cells → (o : Outcome) → ByUndo slots cells us o → ByRules slots cells us o

data ByCells (slots : ℕ) (bytes : List ℕ) (area : Area) (pages : ℕ) (batches : List (List (Record slots))) : Outcome → Type 0 where
  is_unfit : (front : List (List (Record slots))) (before : List (Record slots)) (r : Record slots) (after : List (Record slots)) (back : List (List (Record slots)))
      → batches ≡ front ++ (before ++ r ∷ after) ∷ back → AllFitCells pages bytes [] (all_of front ++ before) (r ∷ (after ++ all_of back))
      → (FitsCellsOf pages bytes (all_of front ++ before) r (after ++ all_of back) → ⊥) → ByCells slots bytes area pages batches (DamagedLog area (next_record_at pages front before))
  all_fit : AllFitCells pages bytes [] (all_of batches) [] → (o : Outcome) → ByRules slots (cells_of_log slots pages bytes (all_of batches)) (unended_behind batches) o
      → ByCells slots bytes area pages batches o

data ByPages (slots : ℕ) (bytes : List ℕ) (area : Area) (pages : ℕ) (batches : List (List (Record slots))) : Outcome → Type 0 where
  is_damaged : (page at : ℕ) → page < pages → IsDamagedPage bytes (all_of batches) page at → NoneLower bytes (all_of batches) page → ByPages slots bytes area pages batches (DamagedPage page at)
  all_whole : ((page at : ℕ) → page < pages → IsDamagedPage bytes (all_of batches) page at → ⊥) → (o : Outcome) → ByCells slots bytes area pages batches o → ByPages slots bytes area pages batches o

data ByLog (slots : ℕ) (image : Bytes) (area : Area) : Outcome → Type 0 where
  at_place : (place : ℕ) → IsDamagedLog slots (in_area image area) place → ByLog slots image area (DamagedLog area place)
  of_version : (number : ℕ) → IsOfVersion slots number (in_area image area) → ByLog slots image area (UnknownVersion number)
  is_log : (pages : ℕ) (batches : List (List (Record slots))) → IsRecordLog pages batches (in_area image area) → (o : Outcome) → ByPages slots image.pages area pages batches o → ByLog slots image area o

data ByName (slots : ℕ) (image : Bytes) : Outcome → Type 0 where
  has_none : named_by image.super_area ≡ None → ByName slots image NoStore
  has_area : (area : Area) → named_by image.super_area ≡ Some area → (o : Outcome) → ByLog slots image area o → ByName slots image o

-- ---- each tells one outcome

unsound_same : (rule other id x : ℕ) → rule ≡ other → id ≡ x → Unsound id rule ≡ Unsound x other
unsound_same rule other id x e f = cc

by_undo : (slots : ℕ) (cells : List Cell) (us : List (ℕ × Unended)) (o p : Outcome) → ByUndo slots cells us o → ByUndo slots cells us p → o ≡ p
by_undo slots cells us o p (is_stuck id a) (is_stuck other b) = ap (λ (x : ℕ). Unsound x 5) (one_restart slots cells us id other a b)
by_undo slots cells us o p (is_stuck id a) (is_undone b) = absurd (restart_goes slots cells us id a b)
by_undo slots cells us o p (is_undone a) (is_stuck id b) = absurd (restart_goes slots cells us id b a)
by_undo slots cells us o p (is_undone a) (is_undone b) = refl

one_rule : (cells : List Cell) (rule other id x : ℕ) → IsFirstBroken cells rule id → IsFirstBroken cells other x → Unsound id rule ≡ Unsound x other
one_rule cells rule other id x a b =
    let same = least_same (λ (r : ℕ). (y : ℕ) × BreaksRule cells r y) rule other (id, a.breaks) (x, b.breaks) (λ r low has. a.lower_kept r has.0 low has.1) (λ r low has. b.lower_kept r has.0 low has.1) in
    let too : IsFirstBroken cells rule x = subst (λ (r : ℕ). IsFirstBroken cells r x) (sym same) b in
    unsound_same rule other id x same (least_same (λ (y : ℕ). BreaksRule cells rule y) id x a.breaks too.breaks a.least too.least)

by_rules : (slots : ℕ) (cells : List Cell) (us : List (ℕ × Unended)) (o p : Outcome) → ByRules slots cells us o → ByRules slots cells us p → o ≡ p
by_rules slots cells us o p (is_broken rule id a) (is_broken other x b) = one_rule cells rule other id x a b
by_rules slots cells us o p (is_broken rule id a) (are_kept kept q b) = absurd (kept rule id a.breaks)
by_rules slots cells us o p (are_kept kept q a) (is_broken rule id b) = absurd (kept rule id b.breaks)
by_rules slots cells us o p (are_kept kept q a) (are_kept keeps s b) = by_undo slots cells us o p a b

unfit_same : {slots : ℕ} (area : Area) (pages : ℕ) (front fronts : List (List (Record slots))) (before befores : List (Record slots)) → (front ≡ fronts) × (before ≡ befores)
    → DamagedLog area (next_record_at pages front before) ≡ DamagedLog area (next_record_at pages fronts befores)
unfit_same {slots} area pages front fronts before befores e =
    ap (λ (f : List (List (Record slots))). DamagedLog area (next_record_at pages f before)) e.0 ∙ ap (λ (b : List (Record slots)). DamagedLog area (next_record_at pages fronts b)) e.1

-- a record doesn't fit, and all do
unfit_fits : {slots : ℕ} (bytes : List ℕ) (pages : ℕ) (batches front : List (List (Record slots))) (before : List (Record slots)) (r : Record slots) (after : List (Record slots)) (back : List (List (Record slots)))
    → batches ≡ front ++ (before ++ r ∷ after) ∷ back → (FitsCellsOf pages bytes (all_of front ++ before) r (after ++ all_of back) → ⊥) → AllFitCells pages bytes [] (all_of batches) [] → ⊥
unfit_fits {slots} bytes pages batches front before r after back e denied all =
    let here = subst (λ (l : List (Record slots)). AllFitCells pages bytes [] l []) (ap all_of e ∙ flat front before r after back) all in
    let later : List (Record slots) = after ++ all_of back in
    denied (fits_same pages bytes (all_of front ++ before) (all_of front ++ before) r r (later ++ []) later refl refl (append-nil later) (fits_within pages bytes [] (all_of front ++ before) r later [] here))

by_cells : {slots : ℕ} (bytes : List ℕ) (area : Area) (pages : ℕ) (batches : List (List (Record slots))) (o p : Outcome) → ByCells slots bytes area pages batches o → ByCells slots bytes area pages batches p → o ≡ p
by_cells bytes area pages batches o p (is_unfit front before r after back e f denied) (is_unfit fronts befores s afters backs g h nope) =
    let split = sym e ∙ g in
    let all = sym (flat front before r after back) ∙ ap all_of split ∙ flat fronts befores s afters backs in
    let same = first_unfit pages bytes [] (all_of front ++ before) (all_of fronts ++ befores) r s (after ++ all_of back) (afters ++ all_of backs) all f h denied nope in
    unfit_same area pages front fronts before befores (one_split front fronts before befores r s after afters back backs split same)
by_cells bytes area pages batches o p (is_unfit front before r after back e f denied) (all_fit all q b) = absurd (unfit_fits bytes pages batches front before r after back e denied all)
by_cells bytes area pages batches o p (all_fit all q b) (is_unfit front before r after back e f denied) = absurd (unfit_fits bytes pages batches front before r after back e denied all)
by_cells {slots} bytes area pages batches o p (all_fit all q a) (all_fit fits s b) = by_rules slots (cells_of_log slots pages bytes (all_of batches)) (unended_behind batches) o p a b

by_pages : {slots : ℕ} (bytes : List ℕ) (area : Area) (pages : ℕ) (batches : List (List (Record slots))) (o p : Outcome) → ByPages slots bytes area pages batches o → ByPages slots bytes area pages batches p → o ≡ p
by_pages bytes area pages batches o p (is_damaged page a low d least) (is_damaged other b low_too e least_too) = one_page bytes (all_of batches) page other a b d e least least_too
by_pages bytes area pages batches o p (is_damaged page a low d least) (all_whole whole q b) = absurd (whole page a low d)
by_pages bytes area pages batches o p (all_whole whole q a) (is_damaged page b low d least) = absurd (whole page b low d)
by_pages bytes area pages batches o p (all_whole whole q a) (all_whole all s b) = by_cells bytes area pages batches o p a b

version_is : (slots number other : ℕ) → ◌≡◌ {A = Told slots} (HasVersion number) (HasVersion other) → number ≡ other
version_is slots number other e = cc

version_isnt : (slots number place : ℕ) → ◌≡◌ {A = Told slots} (HasVersion number) (IsDamagedAt place) → ⊥
version_isnt slots number place e = cc

version_no_log : {slots : ℕ} (number pages : ℕ) (batches : List (List (Record slots))) → HasVersion number ≡ IsLogOf pages batches → ⊥
version_no_log number pages batches e = cc

by_log : {slots : ℕ} → IsSlotCount slots → (image : Bytes) (area : Area) (o p : Outcome) → ByLog slots image area o → ByLog slots image area p → o ≡ p
by_log known image area o p (at_place a d) (at_place b e) = ap (λ (n : ℕ). DamagedLog area n) (one_place known (in_area image area) a b d e)
by_log {slots} known image area o p (at_place a d) (of_version n v) = absurd (version_isnt slots n a (one_way known (in_area image area) _ _ (version_way slots n (in_area image area) v) (damage_way (in_area image area) a d)))
by_log known image area o p (at_place a d) (is_log pages batches l q b) = absurd (undamaged known (in_area image area) pages a batches l d)
by_log {slots} known image area o p (of_version n v) (at_place a d) = absurd (version_isnt slots n a (one_way known (in_area image area) _ _ (version_way slots n (in_area image area) v) (damage_way (in_area image area) a d)))
by_log {slots} known image area o p (of_version n v) (of_version m w) =
    ap UnknownVersion (version_is slots n m (one_way known (in_area image area) _ _ (version_way slots n (in_area image area) v) (version_way slots m (in_area image area) w)))
by_log {slots} known image area o p (of_version n v) (is_log pages batches l q b) = absurd (version_no_log n pages batches (one_way known (in_area image area) _ _ (version_way slots n (in_area image area) v) (log_way pages batches (in_area image area) l)))
by_log known image area o p (is_log pages batches l q a) (at_place b d) = absurd (undamaged known (in_area image area) pages b batches l d)
by_log {slots} known image area o p (is_log pages batches l q a) (of_version n v) = absurd (version_no_log n pages batches (one_way known (in_area image area) _ _ (version_way slots n (in_area image area) v) (log_way pages batches (in_area image area) l)))
by_log {slots} known image area o p (is_log pages batches l q a) (is_log count others m s b) =
    let same = one_log known (in_area image area) pages count batches others l m in
    by_pages image.pages area pages batches o p a (
    subst (λ (n : ℕ). ByPages slots image.pages area n batches p) (sym same.0) (subst (λ (bs : List (List (Record slots))). ByPages slots image.pages area count bs p) (sym same.1) b)
    )

none_area : (area : Area) → None ≡ Some area → ⊥
none_area area e = cc

area_same : (area other : Area) → Some area ≡ Some other → area ≡ other
area_same area other e = cc

by_name : {slots : ℕ} → IsSlotCount slots → (image : Bytes) (o p : Outcome) → ByName slots image o → ByName slots image p → o ≡ p
by_name known image o p (has_none e) (has_none f) = refl
by_name known image o p (has_none e) (has_area area f q b) = absurd (none_area area (sym e ∙ f))
by_name known image o p (has_area area e q a) (has_none f) = absurd (none_area area (sym f ∙ e))
by_name {slots} known image o p (has_area area e q a) (has_area other f s b) =
    by_log known image area o p a (subst (λ (x : Area). ByLog slots image x p) (sym (area_same area other (sym e ∙ f))) b)

-- ---- what an image opens to, test by test

behind_cells : {slots : ℕ} (image : Bytes) (o : Outcome) (area : Area) (pages : ℕ) (batches : List (List (Record slots))) (cells : List Cell) → AreCellsRead image area pages batches cells
    → ByRules slots cells (unended_behind batches) o → ByName slots image o
behind_cells {slots} image o area pages batches cells read by =
    has_area area read.pages_read.read.named o (
    is_log pages batches read.pages_read.read.log o (
    all_whole read.pages_read.whole o (all_fit read.fit o (subst (λ (cs : List Cell). ByRules slots cs (unended_behind batches) o) read.are by))
    )
    )

tests_of : {slots : ℕ} (image : Bytes) (o : Outcome) → Opened slots image o → ByName slots image o
tests_of image o (no_store none) = has_none none
tests_of image o (damaged_log area at named d) = has_area area named o (at_place at d)
tests_of image o (unknown_version area byte named v) = has_area area named o (of_version byte v)
tests_of image o (damaged_page area pages batches page at read low d least) = has_area area read.named o (is_log pages batches read.log o (is_damaged page at low d least))
tests_of image o (unfit area pages front before r after back read fit denied) =
    has_area area read.read.named o (is_log pages (front ++ (before ++ r ∷ after) ∷ back) read.read.log o (all_whole read.whole o (is_unfit front before r after back refl fit denied)))
tests_of {slots} image o (unsound area pages batches cells rule id read broken) =
    behind_cells image o area pages batches cells read (is_broken rule id broken)
tests_of {slots} image o (stuck area pages batches cells id read kept is) =
    behind_cells image o area pages batches cells read (are_kept kept o (is_stuck id is))
tests_of {slots} image o (opens area pages batches cells read kept can) =
    behind_cells image o area pages batches cells read (are_kept kept o (is_undone can))

pub one_outcome : {slots : ℕ} → IsSlotCount slots → (image : Bytes) (a b : Outcome) → Opened slots image a → Opened slots image b → a ≡ b
one_outcome known image a b x y = by_name known image a b (tests_of image a x) (tests_of image b y)
