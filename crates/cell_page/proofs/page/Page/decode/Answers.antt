use Rattle.std.proofs.Common.{◌≡◌, ℕ, ◌+◌, ◌-◌, ◌*◌, ◌<◌, Option, Some, None, List, take, drop, get_or, refl, ap, ◌∙◌, inl, inr, arith}
use Rattle.std.proofs.lemmas.Bool.{cases_eq}
use Rattle.std.proofs.lemmas.List.{length-set, get_or-set_same, get_or-set_other}
use Rattle.cell_page.specs.declared.cell.Cell.{Cell}
use Rattle.cell_page.specs.Format.{first_id, cell_size}
use Rattle.cell_page.specs.Fields.{cell_in, bytes_at, broken_in_cell}
use Rattle.cell_page.proofs.Pages.{cells_read-typed, page_read, page_refused, page_too_short}
use Rattle.cell_page.proofs.page.Page.decode.Goals as goal

-- the slice of a cell is the bytes at its place
piece_is : (slots place len : ℕ) (bytes : List ℕ) → len ≡ cell_size slots → take (place * len + len - place * len) (drop (place * len) bytes) ≡ bytes_at slots bytes place
piece_is slots place len bytes is =
    let size : place * len + len - place * len ≡ len = omega arith in
    rw (size, is) refl

-- what was found in the slice holds of the bytes at the place
found_at : (slots place len first page : ℕ) (bytes : List ℕ) (found : Option ℕ) → len ≡ cell_size slots → first ≡ first_id page
    → broken_in_cell slots (first + place) (take (place * len + len - place * len) (drop (place * len) bytes)) ≡ found
    → broken_in_cell slots (first_id page + place) (bytes_at slots bytes place) ≡ found
found_at slots place len first page bytes found len_is first_is h = rw (← first_is, ← piece_is slots place len bytes len_is) h

pub returns-then-bytes-encoded_len-clause-err : goal.returns-then-bytes-encoded_len-clause-err
returns-then-bytes-encoded_len-clause-err g c = page_too_short c.args.page c.args.bytes.now c.requires.count (omega arith)

pub returns-in-Err-clause-err : goal.returns-in-Err-clause-err
returns-in-Err-clause-err g c =
    let broken = found_at g.row.SLOTS c.loop-place.place c.cell_len-len.result c.first_id-first.result c.args.page c.args.bytes.now (Some c.in-Err.at) c.cell_len-len.ensures.exact c.first_id-first.ensures c.in-Err.ensures.breaks in
    page_refused c.args.page c.loop-place.place c.in-Err.at c.args.bytes.now c.requires.count c.loop-place-test.true broken

pub returns-in-Err-clause-place : goal.returns-in-Err-clause-place
returns-in-Err-clause-place g c =
    let broken = found_at g.row.SLOTS c.loop-place.place c.cell_len-len.result c.first_id-first.result c.args.page c.args.bytes.now (Some c.in-Err.at) c.cell_len-len.ensures.exact c.first_id-first.ensures c.in-Err.ensures.breaks in
    inr (
      omega arith,
      record {
        place = c.loop-place.place;
        within = c.loop-place-test.true;
        earlier = c.loop-place.invariant.obeys;
        offset = c.in-Err.at;
        here = broken;
        sum = ap (λ (n : ℕ). c.loop-place.place * n + c.in-Err.at) c.cell_len-len.ensures.exact;
      },
    )

pub loop-place-preserved : goal.loop-place-preserved
loop-place-preserved g c =
    let slots = g.row.SLOTS in
    let place = c.loop-place.place in
    let cells = c.loop-place.cells in
    let bytes = c.args.bytes.now in
    let piece = piece_is slots place c.cell_len-len.result bytes c.cell_len-len.ensures.exact in
    let read : c.in-Ok.cell ≡ cell_in slots (bytes_at slots bytes place) = c.in-Ok.ensures.ok ∙ ap (cell_in slots) piece in
    let obeys : broken_in_cell slots (first_id c.args.page + place) (bytes_at slots bytes place) ≡ None =
    found_at slots place c.cell_len-len.result c.first_id-first.result c.args.page bytes None c.cell_len-len.ensures.exact c.first_id-first.ensures c.in-Ok.ensures.obeys in
    record {
      eight = length-set cells place c.in-Ok.cell ∙ c.loop-place.invariant.eight;
      read = λ k d below. elim (cases_eq k place) [
        | inl here ↦ rw here (get_or-set_same cells place c.in-Ok.cell d (omega (arith, c.loop-place.invariant.eight, c.loop-place-test.true)) ∙ read)
        | inr other ↦ get_or-set_other cells place k c.in-Ok.cell d other ∙ c.loop-place.invariant.read k d (omega arith)
      ];
      obeys = λ k below. elim (cases_eq k place) [
        | inl here ↦ rw here obeys
        | inr other ↦ c.loop-place.invariant.obeys k (omega arith)
      ];
    }

abbrev Read : (slots : ℕ) → List ℕ → List (Cell slots) → Type 0
Read slots bytes cells = (place : ℕ) (d : Cell slots) → place < 8 → get_or cells place d ≡ cell_in slots (bytes_at slots bytes place)

pub invariant_of-result : goal.invariant_of-result
invariant_of-result g c =
    let read : Read g.row.SLOTS c.args.bytes.now c.loop-place.cells = λ place d within. c.loop-place.invariant.read place d (omega arith) in
    (c.loop-place.invariant.eight, cells_read-typed g.row.SLOTS c.args.bytes.now c.loop-place.cells (λ i. omega (arith, c.type_inv.bytes i)) c.loop-place.invariant.eight read)

pub returns-clause-typed : goal.returns-clause-typed
returns-clause-typed g c =
    let read : Read g.row.SLOTS c.args.bytes.now c.loop-place.cells = λ place d within. c.loop-place.invariant.read place d (omega arith) in
    cells_read-typed g.row.SLOTS c.args.bytes.now c.loop-place.cells (λ i. omega (arith, c.type_inv.bytes i)) c.loop-place.invariant.eight read

pub returns-clause-ok : goal.returns-clause-ok
returns-clause-ok g c =
    let slots = g.row.SLOTS in
    let bytes = c.args.bytes.now in
    let read : Read slots bytes c.loop-place.cells = λ place d within. c.loop-place.invariant.read place d (omega arith) in
    let obeys : (place : ℕ) → place < 8 → broken_in_cell slots (first_id c.args.page + place) (bytes_at slots bytes place) ≡ None =
    λ place within. c.loop-place.invariant.obeys place (omega arith) in
    page_read slots c.args.page bytes c.loop-place.cells c.requires.count (λ i. omega (arith, c.type_inv.bytes i)) (omega arith) c.loop-place.invariant.eight read obeys
