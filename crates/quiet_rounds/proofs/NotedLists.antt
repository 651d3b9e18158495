-- The list of a round, read off its notes: one note more.
use Rattle.std.proofs.Common.{◌≡◌, ℕ, Bool, true, false, if◌then◌else◌, List, [], ◌∷◌, ◌++◌, Option, Some, refl, sym, ap, subst}
use Rattle.cell_model.specs.Cells.{Cell}
use Rattle.log_record.specs.declared.cell_record.CellRecord.{CellRecord}
use Rattle.log_record.specs.declared.cell_record.CellRecord.TheVariants as logs
use Rattle.core_store.specs.declared.note.Note.{Note}
use Rattle.core_store.specs.Logged.{after_logged}
use Rattle.quiet_rounds.specs.RoundNotes.{is_to_join, listed_if, list_after, is_scan, list_from}

-- the cells after the notes
abbrev pub cells_behind : ℕ → List Cell → List Note → List Cell
cells_behind slots cells [] = cells
cells_behind slots cells (n ∷ ns) = cells_behind slots (after_logged slots cells n.logged) ns

-- an object was copied in one of the notes
abbrev pub has_scan : List Note → Bool
has_scan [] = false
has_scan (n ∷ ns) = if is_scan n.act then true else has_scan ns

-- ---- one note more

pub cells-snoc : (slots : ℕ) (cells : List Cell) (ns : List Note) (n : Note) → cells_behind slots cells (ns ++ n ∷ []) ≡ after_logged slots (cells_behind slots cells ns) n.logged
cells-snoc slots cells [] n = refl
cells-snoc slots cells (m ∷ ns) n = cells-snoc slots (after_logged slots cells m.logged) ns n

-- once an object was copied that stays so
pub scan-stays : (ns : List Note) (n : Note) → has_scan ns ≡ true → has_scan (ns ++ n ∷ []) ≡ true
scan-stays [] n e = absurd (cc)
scan-stays (m ∷ ns) n e = by (is_scan m.act) e (scan-stays ns n)
  where
    by : (b : Bool) → (if b then true else has_scan ns) ≡ true → (has_scan ns ≡ true → has_scan (ns ++ n ∷ []) ≡ true) → (if b then true else has_scan (ns ++ n ∷ [])) ≡ true
    by true e rest = refl
    by false e rest = rest e

pub scan-last : (ns : List Note) (n : Note) → is_scan n.act ≡ true → has_scan (ns ++ n ∷ []) ≡ true
scan-last [] n e = ap (λ b. if b then true else false) e
scan-last (m ∷ ns) n e = by (is_scan m.act) (scan-last ns n e)
  where
    by : (b : Bool) → has_scan (ns ++ n ∷ []) ≡ true → (if b then true else has_scan (ns ++ n ∷ [])) ≡ true
    by true rest = refl
    by false rest = rest

pub scan-none : (ns : List Note) (n : Note) → is_scan n.act ≡ false → has_scan (ns ++ n ∷ []) ≡ has_scan ns
scan-none [] n e = ap (λ b. if b then true else false) e
scan-none (m ∷ ns) n e = ap (λ b. if is_scan m.act then true else b) (scan-none ns n e)

-- after a copy no object joins the list
pub list-scanned : (slots : ℕ) (cells : List Cell) (list : List ℕ) (ns : List Note) (n : Note) → has_scan ns ≡ true → list_from slots cells list (ns ++ n ∷ []) ≡ list_from slots cells list ns
list-scanned slots cells list [] n e = absurd (cc)
list-scanned slots cells list (m ∷ ns) n e =
    let after = after_logged slots cells m.logged in
    let grown = list_after after list m.logged in
    by (is_scan m.act) (list_from slots after grown (ns ++ n ∷ [])) (list_from slots after grown ns) e (list-scanned slots after grown ns n)
  where
    by : (b : Bool) (more less : List ℕ) → (if b then true else has_scan ns) ≡ true → (has_scan ns ≡ true → more ≡ less) → (if b then list else more) ≡ (if b then list else less)
    by true more less e rest = refl
    by false more less e rest = rest e

-- at a copy none joins
pub list-scan : (slots : ℕ) (cells : List Cell) (list : List ℕ) (ns : List Note) (n : Note) → is_scan n.act ≡ true → list_from slots cells list (ns ++ n ∷ []) ≡ list_from slots cells list ns
list-scan slots cells list [] n e = ap (λ b. if b then list else list_after (after_logged slots cells n.logged) list n.logged) e
list-scan slots cells list (m ∷ ns) n e = ap (λ l. if is_scan m.act then list else l) (list-scan slots (after_logged slots cells m.logged) (list_after (after_logged slots cells m.logged) list m.logged) ns n e)

-- before the first copy the list grows by what the note logged
pub list-logged : (slots : ℕ) (cells : List Cell) (list : List ℕ) (ns : List Note) (n : Note) → has_scan ns ≡ false → is_scan n.act ≡ false
    → list_from slots cells list (ns ++ n ∷ []) ≡ list_after (after_logged slots (cells_behind slots cells ns) n.logged) (list_from slots cells list ns) n.logged
list-logged slots cells list [] n e f = ap (λ b. if b then list else list_after (after_logged slots cells n.logged) list n.logged) f
list-logged slots cells list (m ∷ ns) n e f =
    let after = after_logged slots cells m.logged in
    let grown = list_after after list m.logged in
    by (is_scan m.act) (list_from slots after grown (ns ++ n ∷ [])) (list_from slots after grown ns) (after_logged slots (cells_behind slots after ns) n.logged) e (λ g. list-logged slots after grown ns n g f)
  where
    by : (b : Bool) (more less : List ℕ) (behind : List Cell) → (if b then true else has_scan ns) ≡ false → (has_scan ns ≡ false → more ≡ list_after behind less n.logged) → (if b then list else more) ≡ list_after behind (if b then list else less) n.logged
    by true more less behind e rest = absurd (cc)
    by false more less behind e rest = rest e

-- ---- the list has its first object

-- an object is in the list, which isn't empty
abbrev IsMore : ℕ → List ℕ → Type 0
IsMore x list = (rest : List ℕ) × (list ≡ x ∷ rest)

listed-more : (b : Bool) (x : ℕ) (list : List ℕ) (target : ℕ) → IsMore x (listed_if b (x ∷ list) target)
listed-more true x list target = (list ++ target ∷ [], refl)
listed-more false x list target = (list, refl)

after-more : (cells : List Cell) (x : ℕ) (list : List ℕ) (logged : Option CellRecord) → IsMore x (list_after cells (x ∷ list) logged)
after-more cells x list (Some (logs.Weaken id slot target)) = listed-more (is_to_join cells (x ∷ list) target) x list target
after-more cells x list _ = (list, refl)

pub list-some : (slots : ℕ) (cells : List Cell) (x : ℕ) (list : List ℕ) (ns : List Note) → IsMore x (list_from slots cells (x ∷ list) ns)
list-some slots cells x list [] = (list, refl)
list-some slots cells x list (n ∷ ns) =
    let after = after_logged slots cells n.logged in
    let grown = after-more after x list n.logged in
    let rest = subst (λ (l : List ℕ). IsMore x (list_from slots after l ns)) (sym grown.1) (list-some slots after x grown.0 ns) in
    by (is_scan n.act) (list_from slots after (list_after after (x ∷ list) n.logged) ns) rest
  where
    by : (b : Bool) (behind : List ℕ) → IsMore x behind → IsMore x (if b then x ∷ list else behind)
    by true behind rest = (list, refl)
    by false behind rest = rest
