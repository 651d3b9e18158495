-- What is made of the stream, one part more.
use Rattle.std.proofs.Common.{◌≡◌, ℕ, ◌+◌, ◌<◌, ◌≤◌, ◌^◌, List, [], ◌∷◌, ◌++◌, length, Some, None, Result, Ok, Err, Box, Global, sym, ap, subst, ◌∙◌, arith, append_assoc, length-append}
use Rattle.std.specs.Prelude.{OnOk}
use Rattle.std.proofs.lemmas.List.{append-nil}
use Rattle.cell_page.specs.declared.cell.Cell.{Cell}
use Rattle.log_record.specs.declared.record.Record.{Record}
use Rattle.log_replay.specs.Replays.{Replaying}
use Rattle.gate_log.specs.Batches.{batch_bytes}
use Rattle.opened_images.specs.LogRecords.{body_of}
use Rattle.ship_stream.specs.declared.part.Part.TheVariants.{Pages, Page, Batch}
use Rattle.ship_stream.specs.Runs.{RecordRun, AreRecords}
use Rattle.ship_stream.specs.Reading.{Reading, Nothing, InBase, InLog, bytes_of, shipped_bytes, IsReading, AllFollow, Follows as IsNextBatch, with_page}
use Rattle.ship_stream.specs.Feeding.{Adds}
use Rattle.standby.specs.Following.{AllFit, StopsFitting, after_all, base_after, Gathering, Has, FitsBase}
use Rattle.standby.specs.Taking.{StopsIn}
use Rattle.standby.proofs.RecordLaws.{has_batch}

-- the records of what came whole fit
pub fits_base : {slots : ℕ} (r : Reading slots) (g : Gathering slots) → Has r g → FitsBase r
fits_base Nothing g has = tt
fits_base (InBase count pages) g has = tt
fits_base (InLog pages batches) g has = has.0

-- ---- the number

pub has_number : {slots : ℕ} (r next : Reading slots) (g h : Gathering slots) (count : ℕ) → Has r g → Adds (Pages count) r next → h.count ≡ count → h.pages ≡ g.pages → h.replaying ≡ g.replaying → h.batches ≡ g.batches
    → Has next h
has_number Nothing next g h count has adds counted pages replaying batches =
    subst (λ r. Has r h) (sym adds) (counted, pages ∙ has.0, replaying ∙ has.1, batches ∙ has.2)
has_number (InBase n ps) next g h count has adds counted pages replaying batches = absurd adds
has_number (InLog ps bs) next g h count has adds counted pages replaying batches = absurd adds

-- ---- a page

-- the pages with the next one
abbrev pub page_next : {slots : ℕ} → Gathering slots → List (Cell slots) → Reading slots
page_next g cells = with_page g.count (g.pages ++ cells ∷ [])

is_page_next : {slots : ℕ} (n : ℕ) (ps : List (List (Cell slots))) (g : Gathering slots) (cells : List (Cell slots)) → g.count ≡ n → g.pages ≡ ps → with_page n (ps ++ cells ∷ []) ≡ page_next g cells
is_page_next n ps g cells count pages = ap (λ (k : ℕ). with_page k (ps ++ cells ∷ [])) (sym count) ∙ ap (λ l. with_page g.count (l ++ cells ∷ [])) (sym pages)

-- out of its box
pub unboxed : {slots : ℕ} (n : ℕ) (ps : List (List (Cell slots))) (next : Reading slots) (page : Box (List (Cell slots)) Global) (cells : List (Cell slots)) → cells ≡ page.value
    → next ≡ with_page n (ps ++ page.value ∷ []) → next ≡ with_page n (ps ++ cells ∷ [])
unboxed n ps next page cells boxed is = is ∙ ap (λ l. with_page n (ps ++ l ∷ [])) (sym boxed)

pub page_awaited : {slots : ℕ} (r next : Reading slots) (g : Gathering slots) (page : Box (List (Cell slots)) Global) (cells : List (Cell slots)) → cells ≡ page.value → Has r g → Adds (Page page) r next → IsReading next
    → IsReading (page_next g cells) × ((g.replaying ≡ None) × (g.batches ≡ 0))
page_awaited Nothing next g page cells boxed has adds reading = absurd adds
page_awaited (InBase n ps) next g page cells boxed has adds reading = (subst (λ r. IsReading r) (unboxed n ps next page cells boxed adds ∙ is_page_next n ps g cells has.0 has.1) reading, (has.2, has.3))
page_awaited (InLog ps bs) next g page cells boxed has adds reading = absurd adds

pub has_page : {slots : ℕ} (r next : Reading slots) (g h : Gathering slots) (page : Box (List (Cell slots)) Global) (cells : List (Cell slots)) → cells ≡ page.value → Has r g → Adds (Page page) r next → Has (page_next g cells) h → Has next h
has_page Nothing next g h page cells boxed has adds took = absurd adds
has_page (InBase n ps) next g h page cells boxed has adds took = subst (λ r. Has r h) (sym (unboxed n ps next page cells boxed adds ∙ is_page_next n ps g cells has.0 has.1)) took
has_page (InLog ps bs) next g h page cells boxed has adds took = absurd adds

-- ---- a batch

-- a batch takes bytes of the log area
few_batches : {slots : ℕ} (batches : List (List (Record slots))) → length batches ≤ length (shipped_bytes batches)
few_batches [] = omega arith
few_batches (rs ∷ batches) =
    omega (arith, few_batches batches, length-append (batch_bytes (body_of rs)) (shipped_bytes batches))

-- the last one follows all others
last_follows : {slots : ℕ} (pages : ℕ) (before batches : List (List (Record slots))) (rs : List (Record slots)) → AllFollow pages before (batches ++ rs ∷ []) → IsNextBatch pages (before ++ batches) rs
last_follows pages before [] rs all = subst (λ l. IsNextBatch pages l rs) (sym (append-nil before)) all.0
last_follows pages before (batch ∷ batches) rs all =
    subst (λ l. IsNextBatch pages l rs) (append_assoc before (batch ∷ []) batches) (last_follows pages (before ++ batch ∷ []) batches rs all.1)

pub batch_awaited : {slots : ℕ} (r next : Reading slots) (g : Gathering slots) (at : ℕ) (records : RecordRun) → Has r g → Adds (Batch at records) r next → IsReading next
    → ((v : Replaying) × (g.replaying ≡ Some v)) × (g.batches + 1 < 2 ^ 64)
batch_awaited Nothing next g at records has adds reading = absurd adds
batch_awaited (InBase n ps) next g at records has adds reading = absurd adds
batch_awaited (InLog ps bs) next g at records has adds reading =
    let all = subst (λ r. IsReading r) adds.4 reading in
    let last = last_follows (length ps) [] bs adds.0 all.2 in
    ((base_after ps bs, has.1), omega (arith, last.within, few_batches bs, has.2))

pub batch_took : {slots : ℕ} {T E : Type 0} (o : Result T E) (r next : Reading slots) (g h : Gathering slots) (at : ℕ) (records : RecordRun) → Has r g → Adds (Batch at records) r next
    → ((v : Replaying) (rs : List (Record slots)) → g.replaying ≡ Some v → AreRecords rs records → OnOk o (AllFit v rs × (h.replaying ≡ Some (after_all v rs)) × (h.batches ≡ g.batches + 1)))
    → OnOk o (Has next h)
batch_took o Nothing next g h at records has adds took = absurd adds
batch_took o (InBase n ps) next g h at records has adds took = absurd adds
batch_took {slots} (Ok x) (InLog ps bs) next g h at records has adds took =
    let done = took (base_after ps bs) adds.0 has.1 adds.1 in
    subst (λ r. Has r h) (sym adds.4) (has_batch ps bs adds.0 g h has done.0 done.1 done.2)
batch_took (Err e) (InLog ps bs) next g h at records has adds took = tt

pub batch_stops : {slots : ℕ} (r next : Reading slots) (g : Gathering slots) (at place : ℕ) (records : RecordRun) → Has r g → Adds (Batch at records) r next
    → ((v : Replaying) (rs : List (Record slots)) → g.replaying ≡ Some v → AreRecords rs records → StopsFitting v rs records.at place) → StopsIn r next place
batch_stops Nothing next g at place records has adds stops = absurd adds
batch_stops (InBase n ps) next g at place records has adds stops = absurd adds
batch_stops {slots} (InLog ps bs) next g at place records has adds stops =
    let first : records.at ≡ length (bytes_of (InLog ps bs)) + 5 = adds.3 ∙ ap (λ (k : ℕ). k + 5) adds.2 in
    (adds.0, adds.4, has.0, subst (λ (k : ℕ). StopsFitting (base_after ps bs) adds.0 k place) first (stops (base_after ps bs) adds.0 has.1 adds.1))
