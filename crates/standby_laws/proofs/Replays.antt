-- What records make of the pages of a base, cell by cell.
use Rattle.std.proofs.Common.{◌≡◌, ℕ, ◌+◌, ◌*◌, ◌<◌, ◌≤◌, Bool, true, false, cond, List, [], ◌∷◌, length, map, refl, ap, ◌∙◌, arith}
use Rattle.std.specs.Prelude.{slice_index, nat_le, not, ◌&&◌, ◌||◌, ◌==◌}
use Rattle.std.proofs.lemmas.Bool.{eq-eqb, ne_eqb, lt-leb}
use Rattle.std.specs.List.{range_with_len}
use Rattle.std.proofs.lemmas.List.{length-map}
use Rattle.std.proofs.lemmas.List.FromFn.{length-range_with_len, get_or-map-range_with_len}
use Rattle.cell_model.specs.Cells.{Cell, blank_cell, cell_at}
use Rattle.cell_page.specs.declared.cell.Cell.{Cell as PageCell}
use Rattle.cell_page.specs.Format.{page_of_id}
use Rattle.cell_page.specs.Stored.{cell_of}
use Rattle.log_record.specs.declared.cell_record.CellRecord.{CellRecord}
use Rattle.log_record.specs.declared.record.Record.{Record}
use Rattle.log_record.specs.declared.record.Record.TheVariants.{OfCells, Image, Turn}
use Rattle.log_record.specs.Records.{record_of}
use Rattle.log_replay.specs.Finishes.{AreNoneAwaited}
use Rattle.log_replay.specs.Replays.{Replaying, is_skipped, each_after, after_cells, after_image, after_taking}
use Rattle.restart_laws.specs.Local.{Item, OfCells as CellsItem, Image as ImageItem, effect, is_in_page, cell_in, replayed, has_image}
use Rattle.opened_images.specs.LogRecords.{unended_by_all}
use Rattle.opened_images.specs.Replayed.{items_of}
use Rattle.standby.specs.Following.{after_all}
use Rattle.standby.proofs.BaseLaws.{none_awaited}

-- each cell becomes what f makes of it
length-each_after : (f : ℕ → Cell → Cell) (cells : List Cell) → length (each_after f cells) ≡ length cells
length-each_after f cells = length-map (range_with_len 0 (length cells)) (λ y. f y (cell_at cells y)) ∙ length-range_with_len 0 (length cells)

at-each_after : (f : ℕ → Cell → Cell) (cells : List Cell) (x : ℕ) → x < length cells → cell_at (each_after f cells) x ≡ f x (cell_at cells x)
at-each_after f cells x low = get_or-map-range_with_len (λ y. f y (cell_at cells y)) 0 (length cells) x x (blank_cell false 0) low (omega arith)

-- the number of cells stays
pub cells_many : {slots : ℕ} (v : Replaying) (rs : List (Record slots)) → length (after_all v rs).cells ≡ length v.cells
cells_many v [] = refl
cells_many {slots} v (OfCells r ∷ rs) = cells_many (after_taking {slots = slots} (OfCells r) v) rs ∙ length-each_after (after_cells slots v.skips (record_of r)) v.cells
cells_many v (Image page held ∷ rs) = cells_many (after_taking (Image page held) v) rs ∙ length-each_after (after_image v.skips page held) v.cells
cells_many v (Turn version pages ∷ rs) = cells_many v rs

-- what has not ended is what the records tell
pub unended_are : {slots : ℕ} (v : Replaying) (rs : List (Record slots)) → (after_all v rs).unended ≡ unended_by_all v.unended rs
unended_are v [] = refl
unended_are {slots} v (OfCells r ∷ rs) = unended_are (after_taking {slots = slots} (OfCells r) v) rs
unended_are v (Image page held ∷ rs) = unended_are (after_taking (Image page held) v) rs
unended_are v (Turn version pages ∷ rs) = unended_are v rs

changed : (a b : Bool) (c d : Cell) → a ≡ false → b ≡ false → cond (a || b) c d ≡ d
changed a b c d e f = cc

put : (a b : Bool) (c d : Cell) → b ≡ true → cond (a && b) c d ≡ cond a c d
put true b c d e = cc
put false b c d e = refl

-- one record does to a cell what it does to it by that cell alone
of_cells_at : (slots : ℕ) (v : Replaying) (r : CellRecord) (x : ℕ) → AreNoneAwaited v.skips → 1 ≤ x → x < length v.cells → cell_at (after_taking {slots = slots} (OfCells r) v).cells x ≡ effect slots (record_of r) x (cell_at v.cells x)
of_cells_at slots v r x none above low =
    let free : is_skipped v.skips x ≡ false = ap not (eq-eqb (slice_index v.skips (page_of_id x)) 0 (none (page_of_id x))) in
    let some : (x == 0) ≡ false = ne_eqb x 0 (λ e. omega (arith, e, above)) in
    at-each_after (after_cells slots v.skips (record_of r)) v.cells x low
    ∙ changed (x == 0) (is_skipped v.skips x) (cell_at v.cells x) (effect slots (record_of r) x (cell_at v.cells x)) some free

image_at : {slots : ℕ} (v : Replaying) (page : ℕ) (held : List (PageCell slots)) (x : ℕ) → AreNoneAwaited v.skips → x < length v.cells
    → cell_at (after_taking {slots = slots} (Image page held) v).cells x ≡ cond (is_in_page page x) (cell_in page (map cell_of held) x) (cell_at v.cells x)
image_at v page held x none low =
    let last : nat_le (slice_index v.skips page) 1 ≡ true = ap (λ (n : ℕ). nat_le n 1) (none page) in
    at-each_after (after_image v.skips page held) v.cells x low
    ∙ put (is_in_page page x) (nat_le (slice_index v.skips page) 1) (cell_in page (map cell_of held) x) (cell_at v.cells x) last

-- so all of them do, one after another, where no image is awaited
pub cell_is : {slots : ℕ} (v : Replaying) (rs : List (Record slots)) (x : ℕ) → AreNoneAwaited v.skips → 1 ≤ x → x < length v.cells → cell_at (after_all v rs).cells x ≡ replayed slots x (cell_at v.cells x) (items_of rs)
cell_is v [] x none above low = refl
cell_is {slots} v (OfCells r ∷ rs) x none above low =
    let w = after_taking {slots = slots} (OfCells r) v in
    let more = length-each_after (after_cells slots v.skips (record_of r)) v.cells in
    cell_is w rs x (none_awaited {slots = slots} v (OfCells r ∷ []) none) above (omega (arith, more, low))
    ∙ ap (λ (c : Cell). replayed slots x c (items_of rs)) (of_cells_at slots v r x none above low)
cell_is {slots} v (Image page held ∷ rs) x none above low =
    let w = after_taking (Image page held) v in
    let more = length-each_after (after_image v.skips page held) v.cells in
    cell_is w rs x (none_awaited v (Image page held ∷ []) none) above (omega (arith, more, low))
    ∙ ap (λ (c : Cell). replayed slots x c (items_of rs)) (image_at v page held x none low)
cell_is v (Turn version pages ∷ rs) x none above low = cell_is v rs x none above low

-- at 0, which is no id, nothing changes
off : (p q a : Bool) (c d : Cell) → p ≡ false → cond ((p && q) && a) c d ≡ d
off false q a c d e = refl
off true q a c d e = absurd (cc (e))

not_there : (page : ℕ) (a : Bool) (c d : Cell) → cond (is_in_page page 0 && a) c d ≡ d
not_there page a c d = off (nat_le (8 * page + 1) 0) (nat_le 0 (8 * page + 8)) a c d (lt-leb (8 * page + 1) 0 (omega arith))

pub none_is : {slots : ℕ} (v : Replaying) (rs : List (Record slots)) → 0 < length v.cells → cell_at (after_all v rs).cells 0 ≡ cell_at v.cells 0
none_is v [] some = refl
none_is {slots} v (OfCells r ∷ rs) some =
    let more = length-each_after (after_cells slots v.skips (record_of r)) v.cells in
    none_is (after_taking {slots = slots} (OfCells r) v) rs (omega (arith, more, some)) ∙ at-each_after (after_cells slots v.skips (record_of r)) v.cells 0 some
none_is v (Image page held ∷ rs) some =
    let more = length-each_after (after_image v.skips page held) v.cells in
    none_is (after_taking (Image page held) v) rs (omega (arith, more, some))
    ∙ at-each_after (after_image v.skips page held) v.cells 0 some
    ∙ not_there page (nat_le (slice_index v.skips page) 1) (cell_in page (map cell_of held) 0) (cell_at v.cells 0)
none_is v (Turn version pages ∷ rs) some = none_is v rs some

-- after an image of its page a cell does not depend on what it was
pub from_image : (slots x : ℕ) (c d : Cell) (items : List Item) → has_image x items ≡ true → replayed slots x c items ≡ replayed slots x d items
from_image slots x c d [] is = absurd (cc (is))
from_image slots x c d (CellsItem r ∷ items) is = from_image slots x (effect slots r x c) (effect slots r x d) items is
from_image slots x c d (ImageItem page held ∷ items) is = by (is_in_page page x) is (λ none. from_image slots x c d items none)
  where
    by : (b : Bool) → (b || has_image x items) ≡ true → (has_image x items ≡ true → replayed slots x c items ≡ replayed slots x d items)
        → replayed slots x (cond b (cell_in page held x) c) items ≡ replayed slots x (cond b (cell_in page held x) d) items
    by true e later = refl
    by false e later = later e
