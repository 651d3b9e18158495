-- Pages that are written in place after their images, and a log that begins anew.
use Rattle.std.proofs.Common.{◌≡◌, ◌⊎◌, inl, inr, ⊎_elim, ℕ, ◌+◌, ◌*◌, ◌<◌, ◌≤◌, Bool, true, false, List, [], ◌∷◌, ◌++◌, length, fold, Option, Some, None, refl, sym, ap, subst, ◌∙◌, append_assoc, arith}
use Rattle.std.specs.Prelude.{◌==◌, if◌then◌else◌, Contains}
use Rattle.std.specs.List.{AllByRecursion}
use Rattle.std.proofs.lemmas.Bool.{cases_lt}
use Rattle.std.proofs.lemmas.List.Sums.{fold-append}
use Rattle.std.proofs.Math.Nat.{mul-le-mul_left}
use Rattle.cell_model.specs.Cells.{Cell, cell_at}
use Rattle.cell_model.specs.Records.{Record as StoredRecord, after_record, cells_after, AllFit}
use Rattle.cell_model.specs.Consistent.{AreConsistent}
use Rattle.cell_page.specs.declared.cell.Cell.{Cell as PageCell}
use Rattle.cell_page.specs.Format.{page_size, page_bytes, page_of_id, place_of, free_cell}
use Rattle.cell_page.specs.Fields.{cell_in, bytes_at}
use Rattle.cell_page.specs.Stored.{cell_of}
use Rattle.cell_page.proofs.Pages.{page_refused, page_too_short, cell_spelled}
use Rattle.cell_page.proofs.HeldPages.{held_cell}
use Rattle.disk_model.specs.declared.area.Area.{Area}
use Rattle.disk_model.specs.declared.area.Area.TheVariants.{Pages, LogA, LogB, Super}
use Rattle.disk_model.specs.Areas.{Bytes, in_area}
use Rattle.gate_log.specs.Batches.{batch_bytes, batches_bytes}
use Rattle.gate_log.specs.OnDisk.{named_by}
use Rattle.log_record.specs.declared.record.Record.{Record}
use Rattle.log_record.specs.declared.record.Record.TheVariants.{OfCells, Image, Turn}
use Rattle.log_record.specs.Spelling.{known_version, HasSpelling, IsTypedRecord}
use Rattle.page_area.specs.Place.{bytes_of_page}
use Rattle.page_area.proofs.InPlaceLaws.{torn_others}
use Rattle.restart_laws.specs.Local.{is_in_page}
use Rattle.restart_laws.specs.Unended.{Unended, unended_after, unended_after_all, AllFitUnended}
use Rattle.restart_laws.specs.Restored.{CanRestart}
use Rattle.restart_laws.proofs.ReopenLaws.{unended-append, cells-append, earlier-opened}
use Rattle.opened_images.specs.LogRecords.{all_of, first_records, HaveSpellings}
use Rattle.store_model.proofs.StepLaws.{Contains-cons}
use Rattle.opened_images.specs.Replayed.{cell_in_place}
use Rattle.opened_images.specs.Opened.{Opened, OpensTo}
use Rattle.opened_images.specs.GoesOn.{stored_records}
use Rattle.opened_images.specs.Marks.{image_by}
use Rattle.opened_images.specs.Checkpoints.{AnyBytesLaw, CopyLaw, SpelledLaw, BeginsAnewLaw, GoOnFromLaw, BehindCheckpointLaw}
use Rattle.opened_images.proofs.GoesOnCells.{of_log}
use Rattle.opened_images.proofs.Marks.{page_of_id_in, page_of_store}
use Rattle.opened_images.proofs.WithImages.{goes_on_with_images}

-- ---- a page is written in place

-- in place of pages with images any bytes may stand
pub any_bytes : AnyBytesLaw
any_bytes slots pages first count rs before was now same long imaged torn page low none =
    let others : (page < first) ⊎ (first + count ≤ page) = ⊎_elim
    (λ (front : page < first). inl front)
    (λ (behind : first ≤ page). ⊎_elim (λ (inside : page < first + count). absurd (cc (sym (imaged page behind inside) ∙ none))) (λ (past : first + count ≤ page). inr past) (cases_lt page (first + count)))
    (cases_lt page first) in
    let whole : page_size slots * (page + 1) ≤ page_size slots * pages = mul-le-mul_left (page_size slots) (omega (arith, low)) in
    torn_others slots first count page was now torn others (omega (arith, whole, long)) ∙ same page low none

-- ---- copies

-- these records have an image of the page that is this one, and no other one after it
record HasLast {slots : ℕ} (page : ℕ) (rs : List (Record slots)) (held : List (PageCell slots)) : Type 0 where
  front : List (Record slots)
  back : List (Record slots)
  are : rs ≡ front ++ Image page held ∷ back
  last : (other : List (PageCell slots)) → Contains back (Image page other) → ⊥

-- they have none
abbrev HasNone : {slots : ℕ} → ℕ → List (Record slots) → Type 0
HasNone {slots} page rs = (other : List (PageCell slots)) → Contains rs (Image page other) → ⊥

same_some : {X : Type 0} (a b : X) → Some a ≡ Some b → a ≡ b
same_some a b e = cc

-- after a record that is no image of the page
none_with : {slots : ℕ} (page : ℕ) (r : Record slots) (rs : List (Record slots)) → ((other : List (PageCell slots)) → r ≡ Image page other → ⊥) → HasNone page rs → HasNone page (r ∷ rs)
none_with page r rs differs none other has = ⊎_elim (λ e. differs other e) (λ h. none other h) (Contains-cons r rs (Image page other) has)

last_with : {slots : ℕ} (page : ℕ) (r : Record slots) (rs : List (Record slots)) (held : List (PageCell slots)) → HasLast page rs held → HasLast page (r ∷ rs) held
last_with page r rs held h = record { front = r ∷ h.front; back = h.back; are = ap (λ (l : List (Record _)). r ∷ l) h.are; last = h.last }

eq_page : (page other : ℕ) → (page == other) ≡ true → page ≡ other
eq_page page other is = grind (arith, Rattle.std.proofs.lemmas.Bool.Decides.nat_tests)

other_page : (page other : ℕ) → (page == other) ≡ false → other ≡ page → ⊥
other_page page other is e = grind (arith, Rattle.std.proofs.lemmas.Bool.Decides.nat_tests)

-- the last image among records was there before them, or is one of them
image_among : {slots : ℕ} (page : ℕ) (rs : List (Record slots)) (last : Option (List (PageCell slots))) (held : List (PageCell slots)) → fold (image_by page) last rs ≡ Some held
    → ((last ≡ Some held) × HasNone page rs) ⊎ HasLast page rs held
image_among page [] last held is = inl (is, λ other has. absurd (let low = has.1 in omega (arith, low)))
image_among page (OfCells r ∷ rs) last held is =
    ⊎_elim (λ e. inl (e.0, none_with page (OfCells r) rs (λ other f. cc) e.1)) (λ h. inr (last_with page (OfCells r) rs held h)) (image_among page rs last held is)
image_among {slots} page (Image other cells ∷ rs) last held is =
    ⊎_elim (λ e. by (page == other) refl e.0 e.1) (λ h. inr (last_with page (Image other cells) rs held h)) (image_among page rs (image_by page last (Image other cells)) held is)
  where
    by : (b : Bool) → (page == other) ≡ b → (if page == other then Some cells else last) ≡ Some held → HasNone page rs
        → ((last ≡ Some held) × HasNone page (Image other cells ∷ rs)) ⊎ HasLast page (Image other cells ∷ rs) held
    by true e is none =
        let same : cells ≡ held = same_some cells held (sym (ap (λ (b : Bool). if b then Some cells else last) e) ∙ is) in
        let here : Image other cells ≡ Image page held = ap (λ (p : ℕ). Image p cells) (sym (eq_page page other e)) ∙ ap (λ (c : List (PageCell slots)). Image page c) same in
        inr (record { front = []; back = rs; are = ap (λ (r : Record slots). r ∷ rs) here; last = none })
    by false e is none = inl (
      sym (ap (λ (b : Bool). if b then Some cells else last) e) ∙ is,
      none_with page (Image other cells) rs (λ more f. other_page page other e (cc (f))) none,
    )
image_among page (Turn version count ∷ rs) last held is =
    ⊎_elim (λ e. inl (e.0, none_with page (Turn version count) rs (λ other f. cc) e.1)) (λ h. inr (last_with page (Turn version count) rs held h)) (image_among page rs last held is)

each_spelled : {slots : ℕ} (rs : List (Record slots)) → HaveSpellings rs → AllByRecursion (λ (r : Record slots). HasSpelling r × IsTypedRecord r) rs
each_spelled [] have = tt
each_spelled (r ∷ rs) have = ((have.0, have.1), each_spelled rs have.2)

-- the last image of a page in the log is a copy of it
pub copied : CopyLaw
copied slots pages page image area batches held read is =
    let turn : Record slots = Turn (known_version slots) pages in
    let have = read.log.batches_are in
    let found : HasLast page (all_of batches) held = ⊎_elim (λ (e : (None ≡ Some held) × HasNone page (all_of batches)). absurd (let f = e.0 in cc (f))) (λ h. h) (image_among page (all_of batches) None held is) in
    record {
      area = area;
      named = read.named;
      batches = first_records slots pages ∷ batches;
      log = read.log.log;
      spelled = (((refl, have.some, have.few), (let few = have.few in omega (arith, few))), each_spelled (all_of batches) have.spelled);
      front = turn ∷ found.front;
      held = held;
      back = found.back;
      there = ap (λ (l : List (Record slots)). turn ∷ l) found.are;
      last = found.last;
      are = refl;
    }

-- ---- a page that is spelled in place

pub spelled_stands : SpelledLaw
spelled_stands slots page area held cells known typed holds spells = record {
  whole = λ at fails. ⊎_elim
      (λ short. page_too_short page (bytes_of_page slots page area) known short.0 held typed spells)
      (λ broken. page_refused page broken.1.place broken.1.offset (bytes_of_page slots page area) known broken.1.within broken.1.here held typed spells)
      fails;
  are = λ id here. by id here;
}
  where
    by : (id : ℕ) → is_in_page page id ≡ true → cell_in_place slots area id ≡ cell_at cells id
    by id here =
        let at = page_of_id_in page id here in
        let within : place_of id < 8 = at.2 in
        ap (λ (p : ℕ). cell_of (cell_in slots (bytes_at slots (bytes_of_page slots p area) (place_of id)))) at.0
        ∙ ap cell_of (sym (cell_spelled page held (bytes_of_page slots page area) (place_of id) (free_cell slots 0) known typed spells within))
        ∙ held_cell cells page id held (free_cell slots 0) holds at.1.0 at.1.1

-- ---- the log begins anew

pub begins_anew : BeginsAnewLaw
begins_anew slots pages area cells some few sound stand = (
  [],
  refl,
  record {
    read = record { some = some; few = few; bodies = tt; spelled = tt; fit = tt };
    whole = λ page at low damaged. (stand page low).whole at damaged.fails;
    fit = tt;
    are = of_log pages area [] cells sound (λ id low high. let in_page = page_of_store pages id low high in sym ((stand (page_of_id id) in_page.0).are id in_page.1));
    ended = refl;
  },
)

-- ---- records after first ones

fit_later : (slots : ℕ) (cells : List Cell) (first later : List (Option StoredRecord)) → AllFit slots cells (first ++ later) → AllFit slots (cells_after slots cells first) later
fit_later slots cells [] later fit = fit
fit_later slots cells (Some r ∷ first) later fit = fit_later slots (after_record slots cells r) first later fit.1
fit_later slots cells (None ∷ first) later fit = fit_later slots cells first later fit

fit_later_unended : (us : List (ℕ × Unended)) (first later : List (Option StoredRecord)) → AllFitUnended us (first ++ later) → AllFitUnended (unended_after_all us first) later
fit_later_unended us [] later fit = fit
fit_later_unended us (Some r ∷ first) later fit = fit_later_unended (unended_after us r) first later fit.1
fit_later_unended us (None ∷ first) later fit = fit_later_unended us first later fit

pub go_on_from : GoOnFromLaw
go_on_from slots cells first later ended = record {
  fit = fit_later slots cells first later;
  fit_unended = λ fit. subst (λ (us : List (ℕ × Unended)). AllFitUnended us later) ended (fit_later_unended [] first later fit);
  cells_are = cells-append slots cells first later;
  unended = unended-append [] first later ∙ ap (λ (us : List (ℕ × Unended)). unended_after_all us later) ended;
  opens = earlier-opened slots cells first later ended;
}

pub behind_checkpoint : BehindCheckpointLaw
behind_checkpoint slots pages image area before earlier later cells first events known over ended sound named log same logged images spelled within fit fit_unended after can =
    let from = go_on_from slots cells first (stored_records events) over in
    subst (λ (cs : List Cell). Opened slots image (OpensTo cs)) (sym from.opens) (
    goes_on_with_images slots pages image area before earlier later events (cells_after slots cells first) known ended sound named log same logged images spelled within (from.fit fit) (from.fit_unended fit_unended)
    (subst (λ (cs : List Cell). AreConsistent slots (8 * pages) cs) from.cells_are after)
    (subst (λ (us : List (ℕ × Unended)). CanRestart slots (cells_after slots (cells_after slots cells first) (stored_records events)) us) from.unended
    (subst (λ (cs : List Cell). CanRestart slots cs (unended_after_all [] (first ++ stored_records events))) from.cells_are can))
    )
