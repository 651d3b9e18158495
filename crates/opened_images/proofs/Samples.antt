-- Worked openings, in stores of one page.
use Rattle.std.proofs.Common.{◌≡◌, ℕ, zero, suc, ◌+◌, ◌<◌, List, [], ◌∷◌, ◌++◌, map, drop, Option, Some, None, refl, sym, ◌∙◌, subst, inl, inr, lit<, lit≤, arith}
use Rattle.std.specs.Prelude.{replicate, Bool, true, false, ◌||◌, ◌≤◌}
use Rattle.cell_model.specs.Cells.{null, blank_cell}
use Rattle.cell_model.specs.Records.{Begin as BeginStored}
use Rattle.store_model.specs.Fresh.{fresh_root, fresh_cells}
use Rattle.cell_page.specs.Format.{page_bytes, fresh_page, first_id, cell_bytes, field_bytes}
use Rattle.cell_page.specs.Fields.{number_at, cell_in, bits_break, broken_in_cell, bytes_at, FailsAt}
use Rattle.disk_model.specs.declared.area.Area.TheVariants.{LogA}
use Rattle.disk_model.specs.Areas.{Bytes}
use Rattle.log_record.specs.declared.cell_record.CellRecord.{CellRecord}
use Rattle.log_record.specs.declared.cell_record.CellRecord.TheVariants.{Begin, Make, Store, Commit}
use Rattle.log_record.specs.declared.record.Record.{Record}
use Rattle.log_record.specs.declared.record.Record.TheVariants.{OfCells, Image}
use Rattle.log_record.specs.Spelling.{cell_record_bytes}
use Rattle.log_record.specs.Reading.{fields_in}
use Rattle.log_record.proofs.ReadLaws.{of_fields, none_of_fields, only_of_cells}
use Rattle.restart_laws.specs.Local.{is_in_page}
use Rattle.restart_laws.specs.Restored.{opened}
use Rattle.restart_laws.proofs.RuleLaws.{consistent-rules}
use Rattle.store_model.proofs.FreshSound.{fresh-sound}
use Rattle.opened_images.specs.LogRecords.{AreBatches, HasNoNext, AllFitLog, log_bytes}
use Rattle.page_area.specs.Place.{bytes_of_page}
use Rattle.opened_images.specs.Replayed.{cells_of_log, IsDamagedPage, FitsCellsOf, AllFitCells}
use Rattle.opened_images.specs.Opened.{UnknownVersion, DamagedLog, DamagedPage, OpensTo, IsLogRead, ArePagesRead, Opened, unknown_version, damaged_log, damaged_page, unfit, opens}
use Rattle.opened_images.specs.LogRecords.{no_record}
use Rattle.opened_images.specs.GoesOn.{IsEndedLog, logged_records, stored_records, in_parts}

-- the pages of a fresh store, and a log of this version
fresh_pages : List ℕ
fresh_pages = page_bytes (fresh_page 6 0)

first_batch : ℕ → List ℕ
first_batch version = 1 ∷ 0 ∷ 0 ∷ 0 ∷ 4 ∷ 14 ∷ version ∷ 0 ∷ 1 ∷ []

image : List ℕ → List ℕ → Bytes
image pages log = record { pages = pages; log_a = log; log_b = []; super_area = 0 ∷ [] }

-- `refused: version 9`
version_9 : Opened 6 (image fresh_pages (first_batch 9 ++ 0 ∷ [])) (UnknownVersion 9)
unfolding image first_batch
version_9 = unknown_version LogA 9 refl (record {
  pages = 0 ∷ 1 ∷ [];
  two = refl;
  first = record { whole = record { some = lit≤ tt; fits = lit< tt }; rest = 0 ∷ []; are = refl; short = lit≤ tt };
  unknown = λ e. omega arith;
})

-- nothing follows the first batch
no_batches : AreBatches {slots = 6} 1 []
no_batches = record { some = lit≤ tt; few = lit≤ tt; bodies = tt; spelled = tt; fit = tt }

-- no record begins a lone 3
lone_3 : HasNoNext 6 1 [] (3 ∷ [])
unfolding fields_in
lone_3 r len begins fits = only_of_cells (3 ∷ []) (λ e. not_13 e) (λ e. not_14 e) (λ cells n b. none_of_fields {slots = 6} (3 ∷ []) 3 n refl (of_fields (3 ∷ []) cells n b)) r len begins
  where
    not_13 : ◌≡◌ {A = ℕ} 3 13 → ⊥
    not_13 e = omega arith

    not_14 : ◌≡◌ {A = ℕ} 3 14 → ⊥
    not_14 e = omega arith

-- `refused: log A at 14`
log_a_at_14 : Opened 6 (image fresh_pages (first_batch 1 ++ 1 ∷ 0 ∷ 0 ∷ 0 ∷ 1 ∷ 3 ∷ 0 ∷ [])) (DamagedLog LogA 14)
unfolding image first_batch
log_a_at_14 = damaged_log LogA 14 refl (no_record 1 [] [] (record {
  read = no_batches;
  spelled = tt;
  fit = tt;
  left = 3 ∷ [];
  some = lit≤ tt;
  none = lone_3;
  whole = record { some = lit≤ tt; fits = lit< tt };
  rest = 0 ∷ [];
  are = refl;
  short = lit≤ tt;
}) refl)

-- a log without records
fresh_log : (pages : List ℕ) → IsLogRead {slots = 6} (image pages (first_batch 1 ++ 0 ∷ [])) LogA 1 []
unfolding image first_batch
fresh_log pages = record {
  named = refl;
  log = record {
    batches_are = no_batches;
    log = record { bodies = (record { some = lit≤ tt; fits = lit< tt }, tt); commit_byte = 0; closed = λ e. omega arith; rest = []; are = refl; short = lit≤ tt };
  };
}

-- `refused: page 0 at 0`
broken_page : List ℕ
broken_page = 2 ∷ drop 1 fresh_pages

broken_at_0 : IsDamagedPage {slots = 6} broken_page [] 0 0
unfolding broken_page fresh_pages cell_bytes field_bytes broken_in_cell
broken_at_0 = record {
  no_image = refl;
  fails = inr (refl, record { place = 0; within = lit< tt; earlier = λ k low. absurd (omega arith); offset = 0; here = refl; sum = refl });
}

page_0_at_0 : Opened 6 (image broken_page (first_batch 1 ++ 0 ∷ [])) (DamagedPage 0 0)
unfolding image
page_0_at_0 = damaged_page LogA 1 [] 0 0 (fresh_log broken_page) (lit< tt) broken_at_0 (λ lower place low damaged. absurd (omega arith))

-- the cells of a fresh store
fresh_cells_read : cells_of_log 6 1 fresh_pages [] ≡ fresh_cells 6 7
unfolding fresh_pages cell_bytes field_bytes cell_in number_at
fresh_cells_read = refl

-- a fresh store opens to itself
none_is_some : (n : ℕ) → None ≡ Some n → ⊥
none_is_some n e = cc

none_broken : (place offset : ℕ) → place < 8 → broken_in_cell 6 (first_id 0 + place) (bytes_at 6 (bytes_of_page 6 0 fresh_pages) place) ≡ Some offset → ⊥
unfolding fresh_pages cell_bytes field_bytes broken_in_cell bits_break cell_in number_at
none_broken zero offset low e = none_is_some offset e
none_broken (suc zero) offset low e = none_is_some offset e
none_broken (suc (suc zero)) offset low e = none_is_some offset e
none_broken (suc (suc (suc zero))) offset low e = none_is_some offset e
none_broken (suc (suc (suc (suc zero)))) offset low e = none_is_some offset e
none_broken (suc (suc (suc (suc (suc zero))))) offset low e = none_is_some offset e
none_broken (suc (suc (suc (suc (suc (suc zero)))))) offset low e = none_is_some offset e
none_broken (suc (suc (suc (suc (suc (suc (suc zero))))))) offset low e = none_is_some offset e
none_broken (suc (suc (suc (suc (suc (suc (suc (suc k)))))))) offset low e = absurd (omega arith)

whole : (rs : List (Record 6)) (page at : ℕ) → page < 1 → IsDamagedPage fresh_pages rs page at → ⊥
unfolding fresh_pages cell_bytes field_bytes
whole rs page at low damaged = at_zero (subst (λ (p : ℕ). FailsAt 6 p (bytes_of_page 6 p fresh_pages) at) none damaged.fails)
  where
    none : page ≡ 0
    none = omega arith

    at_zero : FailsAt 6 0 (bytes_of_page 6 0 fresh_pages) at → ⊥
    at_zero (inl short) = absurd (omega (arith, short.0))
    at_zero (inr broken) = none_broken broken.1.place broken.1.offset broken.1.within broken.1.here

fresh_opens : Opened 6 (image fresh_pages (first_batch 1 ++ 0 ∷ [])) (OpensTo (fresh_cells 6 7))
unfolding image fresh_pages cell_bytes field_bytes cell_in number_at
fresh_opens =
    let pages_read : ArePagesRead (image fresh_pages (first_batch 1 ++ 0 ∷ [])) LogA 1 [] = record { read = fresh_log fresh_pages; whole = whole [] } in
    opens LogA 1 [] (fresh_cells 6 7) (record { pages_read = pages_read; fit = tt; are = refl }) (consistent-rules 6 8 (fresh_cells 6 7) (fresh-sound 6 7).consistent) tt

-- ---- a log with one batch: client 1 makes object 2, lays a strong pointer to it in the root's first slot, and commits

made : List (Record 6)
made =
    OfCells (Begin 1) ∷ OfCells (Make 1 2) ∷ OfCells (Store 1 1 0 0 false 2 false true) ∷ OfCells (Commit 1) ∷ []

made_bytes : log_bytes 1 (made ∷ []) ++ 0 ∷ []
    ≡ 1 ∷ 0 ∷ 0 ∷ 0 ∷ 4 ∷ 14 ∷ 1 ∷ 0 ∷ 1
    ∷ 1 ∷ 0 ∷ 0 ∷ 0 ∷ 28 ∷ 1 ∷ 1 ∷ 2 ∷ 1 ∷ 0 ∷ 0 ∷ 0 ∷ 2
    ∷ 3 ∷ 1 ∷ 0 ∷ 0 ∷ 0 ∷ 1 ∷ 0 ∷ 0 ∷ 0 ∷ 0 ∷ 0 ∷ 0 ∷ 0 ∷ 0 ∷ 0 ∷ 2 ∷ 0 ∷ 1 ∷ 5 ∷ 1 ∷ 0 ∷ []
unfolding made cell_record_bytes
made_bytes = refl

-- the log opens to the root with a strong pointer to 2, which has that one pointer to it
made_cells : cells_of_log 6 1 fresh_pages made
    ≡ blank_cell false 6 ∷ record (fresh_root 6) { pointers = record { target = 2; bit = false } ∷ replicate 5 null } ∷ record (blank_cell true 6) { strong = 1 } ∷ replicate 6 (blank_cell false 6)
unfolding made fresh_pages cell_bytes field_bytes cell_in number_at
made_cells = refl

made_fit : AllFitLog 1 [] made
unfolding made
made_fit = ((tt, refl), ((lit≤ tt, refl), (((lit≤ tt, lit≤ tt, lit≤ tt), refl), ((tt, refl), tt))))

-- ---- a record that doesn't fit the cells: `refused: log A at 16`, where client 1 makes the root, which is live

root_made : List (Record 6)
root_made = OfCells (Begin 1) ∷ OfCells (Make 1 1) ∷ []

root_log : IsLogRead {slots = 6} (image fresh_pages (log_bytes 1 (root_made ∷ []) ++ 0 ∷ [])) LogA 1 (root_made ∷ [])
unfolding image root_made cell_record_bytes
root_log = record {
  named = refl;
  log = record {
    batches_are = record {
      some = lit≤ tt;
      few = lit≤ tt;
      bodies = (record { some = lit≤ tt; fits = lit< tt }, tt);
      spelled = ((lit≤ tt, lit≤ tt), tt, (((lit≤ tt, lit≤ tt), lit≤ tt), lit< tt, tt));
      fit = ((tt, refl), ((lit≤ tt, refl), tt));
    };
    log = record { bodies = (record { some = lit≤ tt; fits = lit< tt }, (record { some = lit≤ tt; fits = lit< tt }, tt)); commit_byte = 0; closed = λ e. omega arith; rest = []; are = refl; short = lit≤ tt };
  };
}

root_is_live : FitsCellsOf {slots = 6} 1 fresh_pages (OfCells (Begin 1) ∷ []) (OfCells (Make 1 1)) [] → ⊥
unfolding fresh_pages cell_bytes field_bytes cell_in number_at
root_is_live fits = live (fits 1 (lit≤ tt) (lit≤ tt) refl refl)
  where
    live : true ≡ false → ⊥
    live e = cc

log_a_at_16 : Opened 6 (image fresh_pages (log_bytes 1 (root_made ∷ []) ++ 0 ∷ [])) (DamagedLog LogA 16)
unfolding image root_made cell_record_bytes
log_a_at_16 =
    unfit LogA 1 [] (OfCells (Begin 1) ∷ []) (OfCells (Make 1 1)) [] [] (record { read = root_log; whole = whole root_made }) ((λ id low high none. tt), tt) root_is_live

-- where the page has an image later in the log, no cell of it is asked
in_first_page : (id : ℕ) → 1 ≤ id → id ≤ 8 → is_in_page 0 id ≡ false → ⊥
in_first_page zero low high e = absurd (omega (arith, low))
in_first_page (suc zero) low high e = cc
in_first_page (suc (suc zero)) low high e = cc
in_first_page (suc (suc (suc zero))) low high e = cc
in_first_page (suc (suc (suc (suc zero)))) low high e = cc
in_first_page (suc (suc (suc (suc (suc zero))))) low high e = cc
in_first_page (suc (suc (suc (suc (suc (suc zero)))))) low high e = cc
in_first_page (suc (suc (suc (suc (suc (suc (suc zero))))))) low high e = cc
in_first_page (suc (suc (suc (suc (suc (suc (suc (suc zero)))))))) low high e = cc
in_first_page (suc (suc (suc (suc (suc (suc (suc (suc (suc k))))))))) low high e = absurd (omega (arith, high))

image_later : AllFitCells 1 fresh_pages [] root_made (Image 0 (fresh_page 6 0) ∷ [])
unfolding root_made
image_later = ((λ id low high none. tt), ((λ id low high none. absurd (in_first_page id low high (sym (or_false (is_in_page 0 id)) ∙ none))), tt))
  where
    or_false : (b : Bool) → b || false ≡ b
    or_false false = refl
    or_false true = refl

-- ---- fourteen slots: a fresh store of one page, whose `Turn` has version 2

wide_pages : List ℕ
wide_pages = page_bytes (fresh_page 14 0)

wide_log : IsLogRead {slots = 14} (image wide_pages (first_batch 2 ++ 0 ∷ [])) LogA 1 []
unfolding image first_batch
wide_log = record {
  named = refl;
  log = record {
    batches_are = record { some = lit≤ tt; few = lit≤ tt; bodies = tt; spelled = tt; fit = tt };
    log = record { bodies = (record { some = lit≤ tt; fits = lit< tt }, tt); commit_byte = 0; closed = λ e. omega arith; rest = []; are = refl; short = lit≤ tt };
  };
}

wide_cells_read : cells_of_log 14 1 wide_pages [] ≡ fresh_cells 14 7
unfolding wide_pages cell_bytes field_bytes cell_in number_at
wide_cells_read = refl

-- `refused: version 1`, for a store of fourteen slots
wide_version_1 : Opened 14 (image wide_pages (first_batch 1 ++ 0 ∷ [])) (UnknownVersion 1)
unfolding image first_batch
wide_version_1 = unknown_version LogA 1 refl (record {
  pages = 0 ∷ 1 ∷ [];
  two = refl;
  first = record { whole = record { some = lit≤ tt; fits = lit< tt }; rest = 0 ∷ []; are = refl; short = lit≤ tt };
  unknown = λ e. omega arith;
})

-- ---- a log without a batch that goes on with one part: an event that logs nothing, and client 1 begins

begun_parts : List (List (Option CellRecord))
begun_parts = (None ∷ Some (Begin 1) ∷ []) ∷ []

-- the log of a fresh store has ended
fresh_ended : IsEndedLog {slots = 6} 1 fresh_pages [] (fresh_cells 6 7)
unfolding fresh_pages cell_bytes field_bytes cell_in number_at
fresh_ended = record { read = no_batches; whole = whole []; fit = tt; are = refl; ended = refl }

-- the part is one batch, with the one record
begun_batches : map (logged_records {slots = 6}) begun_parts ≡ (OfCells (Begin 1) ∷ []) ∷ []
unfolding begun_parts
begun_batches = refl

begun_records : stored_records (in_parts begun_parts) ≡ None ∷ Some (BeginStored 1) ∷ []
unfolding begun_parts
begun_records = refl

-- the client's transaction is undone when the image opens
begun_opens : opened 6 (fresh_cells 6 7) (stored_records (in_parts begun_parts)) ≡ fresh_cells 6 7
unfolding begun_parts
begun_opens = refl
