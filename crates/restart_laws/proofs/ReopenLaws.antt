-- Records of ended transactions before others, and the records of a restart's own undo after them.
use Rattle.std.proofs.Common.{◌≡◌, ℕ, ◌-◌, List, [], ◌∷◌, ◌++◌, refl, sym, ap, ◌∙◌, subst, arith, map, take, length, length-append, Option, Some, None}
use Rattle.std.specs.Prelude.{reverse}
use Rattle.std.specs.List.{AllByRecursion, last_or}
use Rattle.std.specs.Option.{option_map_or}
use Rattle.std.proofs.lemmas.List.{map-append, reverse-reverse, reverse-append, take_at}
use Rattle.std.proofs.lemmas.List.Sums.{fold-append}
use Rattle.plain_model.specs.declared.write.Place.{Place}
use Rattle.plain_model.specs.declared.write.Place.TheVariants.{Slot, Payload, Whole}
use Rattle.cell_model.specs.Cells.{Cell}
use Rattle.store_model.proofs.Lists.{each-append}
use Rattle.cell_model.specs.Records.{Record, after_record, cells_after}
use Rattle.restart_laws.specs.Unended.{Change, Unended, unended_at, changed_at, without_change, unended_after, unended_after_all, IsLastChange, IsAllUndone, FitsUnended, AllFitUnended}
use Rattle.restart_laws.specs.Restored.{undo_of, undo_records, after_records, restart_records, restored, opened}
use Rattle.restart_laws.specs.Told.{HasPlace, HavePlaces}
use Rattle.restart_laws.proofs.EntryLists.{lookup-split, changed-split, remove-split}

-- ---- one list of records after another

pub unended-append : (us : List (ℕ × Unended)) (rs qs : List (Option Record)) → unended_after_all us (rs ++ qs) ≡ unended_after_all (unended_after_all us rs) qs
unended-append us rs qs = fold-append (λ us (r : Option Record). option_map_or (unended_after us) r us) us rs qs

pub cells-append : (slots : ℕ) (cells : List Cell) (rs qs : List (Option Record)) → cells_after slots cells (rs ++ qs) ≡ cells_after slots (cells_after slots cells rs) qs
cells-append slots cells rs qs = fold-append (λ (cs : List Cell) (r : Option Record). option_map_or (after_record slots cs) r cs) cells rs qs

pub fit-append : (us : List (ℕ × Unended)) (rs qs : List (Option Record)) → AllFitUnended us rs → AllFitUnended (unended_after_all us rs) qs → AllFitUnended us (rs ++ qs)
fit-append us [] qs f g = g
fit-append us (Some r ∷ rs) qs f g = (f.0, fit-append (unended_after us r) rs qs f.1 g)
fit-append us (None ∷ rs) qs f g = fit-append us rs qs f g

pub earlier-opened : (slots : ℕ) (cells : List Cell) (earlier records : List (Option Record)) → unended_after_all [] earlier ≡ [] → opened slots cells (earlier ++ records) ≡ opened slots (cells_after slots cells earlier) records
earlier-opened slots cells earlier records e =
    let us : unended_after_all [] (earlier ++ records) ≡ unended_after_all [] records = unended-append [] earlier records ∙ ap (λ us. unended_after_all us records) e in
    ap (λ cs. restored slots cs (unended_after_all [] (earlier ++ records))) (cells-append slots cells earlier records) ∙ ap (restored slots (cells_after slots (cells_after slots cells earlier) records)) us

-- ---- the records of the undo

pub undo-ends : (us : List (ℕ × Unended)) (cells : List Cell) (pass : ℕ) (c : Change) → unended_after us (undo_of cells pass c) ≡ changed_at us pass without_change
undo-ends us cells pass c = by c.place
  where
    by : (p : Place) → unended_after us (undo_of cells pass (record { id = c.id; place = p; old = c.old; new = c.new })) ≡ changed_at us pass without_change
    by (Slot slot) = refl
    by Payload = refl
    by Whole = refl

-- the first transaction has ended after them
first-ended : (slots : ℕ) (cs : List Change) (cells : List Cell) (pass : ℕ) (u : Unended) (rest : List (ℕ × Unended)) → unended_after_all ((pass, u) ∷ rest) (map Some (undo_records slots cells pass cs)) ≡ rest
first-ended slots [] cells pass u rest = remove-split [] rest pass u tt
first-ended slots (c ∷ cs) cells pass u rest =
    let r = undo_of cells pass c in
    let next = after_record slots cells r in
    ap (λ us. unended_after_all us (map Some (undo_records slots next pass cs))) (undo-ends ((pass, u) ∷ rest) cells pass c ∙ changed-split [] rest pass u without_change tt)
    ∙ first-ended slots cs next pass (without_change u) rest

pub all-ended : (slots : ℕ) (us : List (ℕ × Unended)) (cells : List Cell) → unended_after_all us (map Some (restart_records slots cells us)) ≡ []
all-ended slots [] cells = refl
all-ended slots (e ∷ es) cells =
    let rs = undo_records slots cells e.0 (reverse e.1.changes) in
    let next = after_records slots cells rs in
    ap (unended_after_all (e ∷ es)) (map-append Some rs (restart_records slots next es))
    ∙ (unended-append (e ∷ es) (map Some rs) (map Some (restart_records slots next es))
    ∙ (ap (λ us. unended_after_all us (map Some (restart_records slots next es))) (first-ended slots (reverse e.1.changes) cells e.0 e.1 es) ∙ all-ended slots es next))

pub reopened : (slots : ℕ) (cells : List Cell) (records undo : List (Option Record)) → undo ≡ map Some (restart_records slots (cells_after slots cells records) (unended_after_all [] records))
    → (unended_after_all [] (records ++ undo) ≡ []) × (cells_after slots cells (records ++ undo) ≡ opened slots cells records) × (opened slots cells (records ++ undo) ≡ opened slots cells records)
reopened slots cells records undo e =
    let us = unended_after_all [] records in
    let now = cells_after slots cells records in
    let none : unended_after_all [] (records ++ undo) ≡ [] = unended-append [] records undo ∙ (ap (unended_after_all us) e ∙ all-ended slots us now) in
    let same : cells_after slots cells (records ++ undo) ≡ opened slots cells records = cells-append slots cells records undo ∙ ap (cells_after slots now) e in
    (none, same, ap (restored slots (cells_after slots cells (records ++ undo))) none ∙ same)

-- ---- and they fit

pub last-push : {A : Type 0} (o : Option A) (xs : List A) (x : A) → last_or o (xs ++ x ∷ []) ≡ Some x
last-push o [] x = refl
last-push o (y ∷ ys) x = last-push (Some y) ys x

-- a list without its last item
pub shorter : (front : List Change) (x : Change) → take (length (front ++ x ∷ []) - 1) (front ++ x ∷ []) ≡ front
shorter front x = let len = length-append front (x ∷ []) in take_at front (x ∷ []) (length (front ++ x ∷ []) - 1) (omega (arith, len))

undo-fits : (us : List (ℕ × Unended)) (cells : List Cell) (slots pass : ℕ) (id : ℕ) (p : Place) (old new : ℕ) → HasPlace slots p → IsLastChange (unended_at us pass) (record { id = id; place = p; old = old; new = new }) → FitsUnended us (undo_of cells pass (record { id = id; place = p; old = old; new = new }))
undo-fits us cells slots pass id (Slot slot) old new l h = h
undo-fits us cells slots pass id Payload old new l h = h
undo-fits us cells slots pass id Whole old new l h = absurd l

first-fit : (slots : ℕ) (cs : List Change) (cells : List Cell) (pass : ℕ) (u : Unended) (rest : List (ℕ × Unended)) → u.changes ≡ reverse cs → AllByRecursion (λ (c : Change). HasPlace slots c.place) cs → AllFitUnended ((pass, u) ∷ rest) (map Some (undo_records slots cells pass cs))
first-fit slots [] cells pass u rest e h = (subst IsAllUndone (sym (lookup-split [] rest pass u tt)) e, tt)
first-fit slots (c ∷ cs) cells pass u rest e h =
    let us = (pass, u) ∷ rest in
    let r = undo_of cells pass c in
    let next = after_record slots cells r in
    let is : u.changes ≡ reverse cs ++ c ∷ [] = e ∙ reverse-append (c ∷ []) cs in
    let last : IsLastChange (unended_at us pass) c = subst (λ o. IsLastChange o c) (sym (lookup-split [] rest pass u tt)) (ap (last_or None) is ∙ last-push None (reverse cs) c) in
    let less : (without_change u).changes ≡ reverse cs = ap (λ l. take (length l - 1) l) is ∙ shorter (reverse cs) c in
    let step : unended_after us r ≡ (pass, without_change u) ∷ rest = undo-ends us cells pass c ∙ changed-split [] rest pass u without_change tt in (
      undo-fits us cells slots pass c.id c.place c.old c.new h.0 last,
      subst (λ us. AllFitUnended us (map Some (undo_records slots next pass cs))) (sym step) (first-fit slots cs next pass (without_change u) rest less h.1),
    )

all-reverse : {X : Type 0} (P : X → Type 0) (xs : List X) → AllByRecursion P xs → AllByRecursion P (reverse xs)
all-reverse P [] h = tt
all-reverse P (x ∷ xs) h = subst (AllByRecursion P) (sym (reverse-append (x ∷ []) xs)) (each-append P (reverse xs) (x ∷ []) (all-reverse P xs h.1) (h.0, tt))

pub restart-fits : (slots : ℕ) (us : List (ℕ × Unended)) (cells : List Cell) → HavePlaces slots us → AllFitUnended us (map Some (restart_records slots cells us))
restart-fits slots [] cells h = tt
restart-fits slots (e ∷ es) cells h =
    let back = reverse e.1.changes in
    let rs = undo_records slots cells e.0 back in
    let next = after_records slots cells rs in
    subst (AllFitUnended (e ∷ es)) (sym (map-append Some rs (restart_records slots next es)))
    (fit-append (e ∷ es) (map Some rs) (map Some (restart_records slots next es))
    (first-fit slots back cells e.0 e.1 es (sym (reverse-reverse e.1.changes)) (all-reverse (λ (c : Change). HasPlace slots c.place) e.1.changes h.0))
    (subst (λ us. AllFitUnended us (map Some (restart_records slots next es))) (sym (first-ended slots back cells e.0 e.1 es)) (restart-fits slots es next h.1)))
