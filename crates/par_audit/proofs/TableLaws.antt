-- Sums of the tables of pieces.
use Rattle.std.proofs.Common.{◌≡◌, ℕ, zero, suc, ◌+◌, ◌*◌, ◌<◌, ◌≤◌, Bool, true, false, List, [], ◌∷◌, ◌++◌, length, map, refl, sym, ap, ◌∙◌, arith}
use Rattle.std.specs.Prelude.{slice_index, sum_by}
use Rattle.std.specs.List.{All, AllZip, flat_map}
use Rattle.std.proofs.lemmas.List.{map-append, length-append, length-map}
use Rattle.std.proofs.lemmas.List.Sums.{sum_by-append, sum_by-cons}
use Rattle.cell_model.specs.Cells.{Cell, aims_in, pointers_to}
use Rattle.cell_page.specs.declared.cell.Cell.{Cell as PageCell}
use Rattle.cell_page.specs.Stored.{cell_of}
use Rattle.rayon.specs.Numbers.{nat_range}
use Rattle.auditor.specs.Recount.{AreCounted}
use Rattle.par_audit.specs.Pieces.{piece_at}
use Rattle.par_audit.specs.declared.pairs.PairCounts.{PairCounts}
use Rattle.par_audit.specs.declared.tables.Tables.{Tables}
use Rattle.par_audit.specs.Tables.{ArePairCounts, AreTablesOf, IsTableOf, count_in}
use Rattle.par_audit.proofs.PieceLaws.{range-whole}

-- the tables of pieces of a list that are so numbered
abbrev pub AreTables : {slots : ℕ} → List (PageCell slots) → ℕ → ℕ → List ℕ → List PairCounts → Type 0
AreTables cells size ids ns ts = AllZip (λ number t. ArePairCounts (map cell_of (piece_at size cells number)) ids t) ns ts

-- the sum over the tables is the count of the pieces, one after another
pub tables-sum : {slots : ℕ} (cells : List (PageCell slots)) (size ids id : ℕ) (bit : Bool) (ns : List ℕ) (ts : List PairCounts) → id < ids → AreTables cells size ids ns ts
    → sum_by (λ t. count_in t id bit) ts ≡ pointers_to (map cell_of (flat_map (piece_at size cells) ns)) id bit
tables-sum cells size ids id bit [] [] within h = refl
tables-sum cells size ids id bit [] (t ∷ ts) within h = absurd h
tables-sum cells size ids id bit (n ∷ ns) [] within h = absurd h
tables-sum {slots} cells size ids id bit (n ∷ ns) (t ∷ ts) within h =
    let piece = piece_at size cells n in
    let rest = flat_map (piece_at size cells) ns in
    let whole : pointers_to (map cell_of (piece ++ rest)) id bit ≡ pointers_to (map cell_of piece) id bit + pointers_to (map cell_of rest) id bit =
    ap (λ (cs : List Cell). pointers_to cs id bit) (map-append cell_of piece rest) ∙ sum_by-append (aims_in id bit) (map cell_of piece) (map cell_of rest) in
    let here = h.0.each id bit within in
    let more = tables-sum cells size ids id bit ns ts within h.1 in
    let open_sum = sum_by-cons (λ (u : PairCounts). count_in u id bit) t ts in
    omega (arith, whole, here, more, open_sum)

pub tables-few : {slots : ℕ} (cells : List (PageCell slots)) (size ids id : ℕ) (bit : Bool) (ns : List ℕ) (ts : List PairCounts) → id < ids → AreTables cells size ids ns ts
    → sum_by (λ t. count_in t id bit) ts ≤ 14 * length (flat_map (piece_at size cells) ns)
tables-few cells size ids id bit [] [] within h = omega arith
tables-few cells size ids id bit [] (t ∷ ts) within h = absurd h
tables-few cells size ids id bit (n ∷ ns) [] within h = absurd h
tables-few {slots} cells size ids id bit (n ∷ ns) (t ∷ ts) within h =
    let piece = piece_at size cells n in
    let rest = flat_map (piece_at size cells) ns in
    let open_sum = sum_by-cons (λ (u : PairCounts). count_in u id bit) t ts in
    let here = h.0.few id bit within in
    let more = tables-few cells size ids id bit ns ts within h.1 in
    let long = length-map piece cell_of in
    let whole = length-append piece rest in
    omega (arith, open_sum, here, more, long, whole)

pub tables-wide : {slots : ℕ} (cells : List (PageCell slots)) (size ids : ℕ) (ns : List ℕ) (ts : List PairCounts) → AreTables cells size ids ns ts → All (λ (t : PairCounts). length t.bytes.items ≡ 2 * ids) ts
tables-wide cells size ids [] [] h = λ k d lt. absurd (omega (arith, lt))
tables-wide cells size ids [] (t ∷ ts) h = absurd h
tables-wide cells size ids (n ∷ ns) [] h = absurd h
tables-wide cells size ids (n ∷ ns) (t ∷ ts) h = at (λ k d lt. tables-wide cells size ids ns ts h.1 k d lt)
  where
    at : All (λ (u : PairCounts). length u.bytes.items ≡ 2 * ids) ts → All (λ (u : PairCounts). length u.bytes.items ≡ 2 * ids) (t ∷ ts)
    at rest zero d lt = h.0.len
    at rest (suc k) d lt = rest k d (omega (arith, lt))

-- the same of the whole list
pub tables-sum_whole : {slots : ℕ} (cells : List (PageCell slots)) (size pieces ids id : ℕ) (bit : Bool) (ts : List PairCounts) → length cells ≤ pieces * size → id < ids
    → AreTables cells size ids (nat_range 0 pieces) ts → sum_by (λ t. count_in t id bit) ts ≡ pointers_to (map cell_of cells) id bit
tables-sum_whole {slots} cells size pieces ids id bit ts enough within h =
    tables-sum cells size ids id bit (nat_range 0 pieces) ts within h ∙ ap (λ (cs : List (PageCell slots)). pointers_to (map cell_of cs) id bit) (range-whole size pieces cells enough)

pub tables-few_whole : {slots : ℕ} (cells : List (PageCell slots)) (size pieces ids id : ℕ) (bit : Bool) (ts : List PairCounts) → length cells ≤ pieces * size → id < ids
    → AreTables cells size ids (nat_range 0 pieces) ts → sum_by (λ t. count_in t id bit) ts ≤ 14 * length cells
tables-few_whole {slots} cells size pieces ids id bit ts enough within h =
    let few = tables-few cells size ids id bit (nat_range 0 pieces) ts within h in
    let same = ap (λ (cs : List (PageCell slots)). length cs) (range-whole size pieces cells enough) in
    omega (arith, few, same)

-- a table of all cells is the recount's
pub counted-of : {slots : ℕ} (cells : List (PageCell slots)) (bit : Bool) (table : List ℕ) → IsTableOf (map cell_of cells) bit (length cells) table → AreCounted (map cell_of cells) bit table
counted-of cells bit table h =
    let size = length-map cells cell_of in
    record {
      len = h.len ∙ sym size;
      each = λ id within. h.each id (omega (arith, within, size));
    }

pub small-of : {slots : ℕ} (cells : List (PageCell slots)) (t : Tables) → length cells ≤ 8193 → AreTablesOf (map cell_of cells) (length cells) t
    → (k : ℕ) → k < length cells → (slice_index t.zeros.items k ≤ 1000000) × (slice_index t.ones.items k ≤ 1000000)
small-of cells t few h k within =
    let size = length-map cells cell_of in
    let a = (h false).few k within in
    let b = (h true).few k within in
    (omega (arith, a, few, size), omega (arith, b, few, size))
