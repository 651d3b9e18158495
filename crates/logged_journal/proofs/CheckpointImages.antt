-- Images of the pages that want one join the tail, one after another.
use Rattle.std.proofs.Common.{◌≡◌, ◌⊎◌, inl, inr, ⊎_elim, ℕ, zero, suc, ◌+◌, ◌-◌, ◌*◌, ◌<◌, ◌≤◌, max, Bool, true, false, List, [], ◌∷◌, ◌++◌, length, map, Some, refl, sym, ◌∙◌, ap, subst, append_assoc, arith}
use Rattle.std.specs.Prelude.{◌==◌, ◌&&◌, not, if◌then◌else◌, slice_index_or}
use Rattle.std.proofs.lemmas.Bool.{cases_lt, ne_eqb, eq-eqb}
use Rattle.std.proofs.lemmas.List.{append-nil, length-append, map-append}
use Rattle.std.proofs.lemmas.Grind.{flat_map-append}
use Rattle.std.proofs.lemmas.Option.{slice_get-get_or}
use Rattle.std.proofs.Math.Nat.{mul-le-mul_left}
use Rattle.cell_model.specs.Cells.{Cell}
use Rattle.cell_page.specs.declared.cell.Cell.{Cell as PageCell}
use Rattle.cell_page.specs.Format.{IsSlotCount, IsPage, AreTyped}
use Rattle.cell_page.specs.Stored.{HoldsPage}
use Rattle.page_area.proofs.InPlaceLaws.{page_length}
use Rattle.log_record.specs.declared.record.Record.{Record}
use Rattle.log_record.specs.declared.record.Record.TheVariants.{Image}
use Rattle.log_record.specs.Spelling.{record_bytes}
use Rattle.gate_log.specs.State.{LogState, used, appended}
use Rattle.opened_images.specs.LogRecords.{body_of}
use Rattle.plain_model.specs.History.{end_of}
use Rattle.page_marks.specs.declared.marks.PageMark.{PageMark}
use Rattle.page_marks.specs.Marks.{unmarked}
use Rattle.core_store.specs.declared.frame.Frame.{Frame}
use Rattle.core_store.specs.Frames.{AllAgree}
use Rattle.core_store.specs.JournalView.{JournalView}
use Rattle.core_store.specs.Owed.{bytes_owed}
use Rattle.logged_journal.specs.View.{LoggedView, bytes_counted, image_bytes, mark_at}
use Rattle.logged_journal.specs.Upkeep.{LogsImage}
use Rattle.logged_journal.specs.Checkpoints.{page_in, wants_image, wanted_below, images_of, imaged, LogsImages}
use Rattle.logged_journal.proofs.Counting.{below_with, below_without, count_with, count_grows}

-- ---- frames

-- the frame of a page holds it
pub frame-holds : {slots : ℕ} (cells : List Cell) (frames : List (Frame slots)) (page : ℕ) → AllAgree cells frames → page < length frames → HoldsPage cells page (page_in frames page)
frame-holds cells frames page agree low = agree page (slice_index_or frames page (record { page = [] })) (slice_get-get_or frames page (record { page = [] }) low)

-- ---- bytes

image-length : {slots : ℕ} (page : ℕ) (held : List (PageCell slots)) → IsSlotCount slots → IsPage page held → AreTyped held → length (record_bytes (Image page held)) ≡ image_bytes slots
image-length page held size rules typed = let long = page_length page held size rules typed in omega (arith, long)

-- so many images more
body-more : {slots : ℕ} (frames : List (Frame slots)) (pages : List ℕ) (page : ℕ) → body_of (images_of frames (pages ++ page ∷ [])) ≡ body_of (images_of frames pages) ++ record_bytes (Image page (page_in frames page))
body-more frames pages page =
    ap (λ (rs : List (Record _)). body_of rs) (map-append (λ (p : ℕ). Image p (page_in frames p)) pages (page ∷ []))
    ∙ flat_map-append record_bytes (images_of frames pages) (Image page (page_in frames page) ∷ [])
    ∙ ap (λ (l : List ℕ). body_of (images_of frames pages) ++ l) (append-nil (record_bytes (Image page (page_in frames page))))

appended-both : (s : LogState) (a b : List ℕ) → appended (appended s a) b ≡ appended s (a ++ b)
appended-both s a b =
    let long = length-append a b in
    ap (λ (l : List ℕ). record s { tail = l; room = s.room - length a - length b }) (append_assoc s.tail a b)
    ∙ ap (λ (n : ℕ). record s { tail = s.tail ++ (a ++ b); room = n }) (let e : s.room - length a - length b ≡ s.room - length (a ++ b) = omega (arith, long) in e)

appended-none : (s : LogState) → appended s [] ≡ s
appended-none s =
    ap (λ (l : List ℕ). record s { tail = l; room = s.room - 0 }) (append-nil s.tail)
    ∙ ap (λ (n : ℕ). record s { room = n }) (let e : s.room - 0 ≡ s.room = omega arith in e)

-- ---- a mark

imaged-same : (m : PageMark) → (m.changed && not m.current) ≡ false → m ≡ imaged m
imaged-same m none = by m.changed m.current refl refl none
  where
    by : (a b : Bool) → m.changed ≡ a → m.current ≡ b → (a && not b) ≡ false → m ≡ imaged m
    by true true e f none = ap (λ (x : Bool). record { changed = x; current = m.current }) e ∙ ap (λ (x : Bool). record { changed = true; current = x }) f ∙ sym (ap (λ (x : Bool). if x then record { changed = true; current = true } else m) e)
    by true false e f none = absurd (cc (none))
    by false b e f none = sym (ap (λ (x : Bool). if x then record { changed = true; current = true } else m) e)

wants-changed : (m : PageMark) → (m.changed && not m.current) ≡ true → m.changed ≡ true
wants-changed m is = by m.changed is
  where
    by : (a : Bool) → (a && not m.current) ≡ true → a ≡ true
    by true is = refl
    by false is = absurd (cc (is))

module _ {D : Type 0} {slots : ℕ} (frames : List (Frame slots)) (old : LoggedView D) where
  -- what else is the same
  module _ (count : ℕ) (mid : LoggedView D) (h : LogsImages frames count old mid) where
    pub same-failed : mid.failed ≡ old.failed
    same-failed = ap (λ (w : LoggedView D). w.failed) h.same

    pub same-journal : mid.journal ≡ old.journal
    same-journal = ap (λ (w : LoggedView D). w.journal) h.same

    pub same-wants : count < length old.marks → (b : Bool) → wants_image mid.marks count ≡ b → wants_image old.marks count ≡ b
    same-wants low b is = ap (λ (m : PageMark). m.changed && not m.current) (sym (h.above count low (omega arith))) ∙ is

  -- the images so far have so many bytes
  pub images-length : (marks : List PageMark) (count : ℕ) → IsSlotCount slots → ((page : ℕ) → page < count → IsPage page (page_in frames page) × AreTyped (page_in frames page))
      → length (body_of (images_of frames (wanted_below marks count))) ≡ image_bytes slots * length (wanted_below marks count)
  images-length marks zero size are = sym (Rattle.std.proofs.Common.mul-zero (image_bytes slots))
  images-length marks (suc n) size are =
      let next : n + 1 ≡ suc n = omega arith in
      let before = images-length marks n size (λ page low. are page (omega (arith, low))) in
      subst (λ (k : ℕ). length (body_of (images_of frames (wanted_below marks k))) ≡ image_bytes slots * length (wanted_below marks k)) next (by (wants_image marks n) refl before)
    where
      by : (b : Bool) → wants_image marks n ≡ b → length (body_of (images_of frames (wanted_below marks n))) ≡ image_bytes slots * length (wanted_below marks n)
          → length (body_of (images_of frames (wanted_below marks (n + 1)))) ≡ image_bytes slots * length (wanted_below marks (n + 1))
      by true is before =
          let one = are n (omega arith) in
          let all = below_with (wants_image marks) n is in
          let count = count_with (wants_image marks) n is in
          let body = ap (λ (ps : List ℕ). length (body_of (images_of frames ps))) all ∙ ap (λ (l : List ℕ). length l) (body-more frames (wanted_below marks n) n)
          ∙ length-append (body_of (images_of frames (wanted_below marks n))) (record_bytes (Image n (page_in frames n))) in
          let image = image-length n (page_in frames n) size one.0 one.1 in
          let times : image_bytes slots * (length (wanted_below marks n) + 1) ≡ image_bytes slots * length (wanted_below marks n) + image_bytes slots = omega arith in
          let sum = ap (λ (k : ℕ). image_bytes slots * k) count in
          omega (arith, body, before, image, times, sum)
      by false is before =
          subst (λ (ps : List ℕ). length (body_of (images_of frames ps)) ≡ image_bytes slots * length ps) (sym (below_without (wants_image marks) n is)) before

  -- none yet
  pub images-none : bytes_counted old ≤ old.peak → LogsImages frames 0 old old
  images-none most = record {
    same = ap (λ (p : ℕ). record old { peak = p }) (let e : old.peak ≡ max old.peak (bytes_counted old) = omega (arith, most) in e);
    log = sym (appended-none old.log);
    many = refl;
    below = λ page low below. absurd (omega (arith, below));
    above = λ page low above. refl;
  }

  -- one more
  pub image-more : (count : ℕ) (mid new : LoggedView D) → LogsImages frames count old mid → count < length old.marks → wants_image old.marks count ≡ true → LogsImage mid new count (page_in frames count) → LogsImages frames (count + 1) old new
  image-more count mid new h low wants one = record {
    same = one.same ∙ ap (λ (m : LoggedView D). record m { log = appended mid.log bytes; marks = new.marks; peak = max mid.peak (bytes_counted new) }) h.same
        ∙ ap (λ (l : LogState). record old { log = l; marks = new.marks; peak = max mid.peak (bytes_counted new) }) (sym log)
        ∙ ap (λ (p : ℕ). record old { log = new.log; marks = new.marks; peak = p }) peak;
    log = log ∙ ap (λ (l : LogState). appended l bytes) h.log ∙ appended-both old.log (body_of (images_of frames (wanted_below old.marks count))) bytes
        ∙ ap (λ (l : List ℕ). appended old.log l) (sym (ap (λ (ps : List ℕ). body_of (images_of frames ps)) (below_with (wants_image old.marks) count wants) ∙ body-more frames (wanted_below old.marks count) count));
    many = one.marked.as_many ∙ h.many;
    below = λ page there below. ⊎_elim
        (λ (front : page < count). each page there ∙ ap (λ (b : Bool). if b then record { changed = true; current = b } else mark_at mid.marks page) (ne_eqb page count (λ e. absurd (omega (arith, front, e)))) ∙ h.below page there front)
        (λ (back : count ≤ page).
        let e : page ≡ count = omega (arith, below, back) in
        each page there ∙ ap (λ (b : Bool). if b then record { changed = true; current = b } else mark_at mid.marks page) (eq-eqb page count e)
        ∙ sym (ap (λ (b : Bool). if b then record { changed = true; current = true } else mark_at old.marks page) (ap (λ (n : ℕ). (mark_at old.marks n).changed) e ∙ wants-changed (mark_at old.marks count) wants)))
        (cases_lt page count);
    above = λ page there above.
        each page there ∙ ap (λ (b : Bool). if b then record { changed = true; current = b } else mark_at mid.marks page) (ne_eqb page count (λ e. absurd (omega (arith, above, e)))) ∙ h.above page there (omega (arith, above));
  }
    where
      bytes : List ℕ
      bytes = record_bytes (Image count (page_in frames count))

      log : new.log ≡ appended mid.log (record_bytes (Image count (page_in frames count)))
      log = ap (λ (w : LoggedView D). w.log) one.same

      peak : max mid.peak (bytes_counted new) ≡ max old.peak (bytes_counted new)
      peak =
          let was = ap (λ (w : LoggedView D). w.peak) h.same in
          let long = ap (λ (l : LogState). used l) log in
          let more = length-append mid.log.tail (record_bytes (Image count (page_in frames count))) in
          let owed = ap (λ (w : LoggedView D). bytes_owed (end_of w.journal.history)) one.same in
          omega (arith, was, long, more, owed)

      each : (page : ℕ) → page < length old.marks → mark_at new.marks page ≡ (if page == count then record { changed = true; current = page == count } else mark_at mid.marks page)
      each page there = one.marked.each page unmarked (let m = h.many in omega (arith, there, m))

  -- or none
  pub image-skipped : (count : ℕ) (mid new : LoggedView D) → LogsImages frames count old mid → count < length old.marks → wants_image old.marks count ≡ false → new ≡ mid → LogsImages frames (count + 1) old new
  image-skipped count mid new h low wants same =
      subst (λ (w : LoggedView D). LogsImages frames (count + 1) old w) (sym same) (record {
        same = h.same;
        log = h.log ∙ ap (λ (ps : List ℕ). appended old.log (body_of (images_of frames ps))) (sym (below_without (wants_image old.marks) count wants));
        many = h.many;
        below = λ page there below. ⊎_elim (λ (front : page < count). h.below page there front)
            (λ (back : count ≤ page).
            let e : page ≡ count = omega (arith, below, back) in
            h.above page there back ∙ imaged-same (mark_at old.marks page) (ap (λ (n : ℕ). wants_image old.marks n) e ∙ wants))
            (cases_lt page count);
        above = λ page there above. h.above page there (omega (arith, above));
      })

  -- ---- room and bytes

  -- what is counted then
  pub images-counted : (count : ℕ) (mid : LoggedView D) → LogsImages frames count old mid → IsSlotCount slots → ((page : ℕ) → page < count → IsPage page (page_in frames page) × AreTyped (page_in frames page))
      → (bytes_counted mid ≡ bytes_counted old + image_bytes slots * length (wanted_below old.marks count)) × (mid.log.room ≡ old.log.room - image_bytes slots * length (wanted_below old.marks count))
  images-counted count mid h size are =
      let body = images-length old.marks count size are in
      let long = ap (λ (l : LogState). used l) h.log in
      let room = ap (λ (l : LogState). l.room) h.log in
      let more = length-append old.log.tail (body_of (images_of frames (wanted_below old.marks count))) in
      let owed = ap (λ (j : JournalView). bytes_owed (end_of j.history)) (same-journal count mid h) in
      (omega (arith, body, long, more, owed), omega (arith, body, room))

  -- there is room for one image more
  pub image-fits : (count : ℕ) (most : ℕ) → count < length old.marks → wants_image old.marks count ≡ true → image_bytes slots * length (wanted_below old.marks (length old.marks)) ≤ most
      → image_bytes slots * length (wanted_below old.marks count) + image_bytes slots ≤ most
  image-fits count most low wants room =
      let one = count_with (wants_image old.marks) count wants in
      let rest : ℕ = length old.marks - (count + 1) in
      let all : count + 1 + rest ≡ length old.marks = omega (arith, low) in
      let grows = subst (λ (n : ℕ). length (wanted_below old.marks (count + 1)) ≤ length (wanted_below old.marks n)) all (count_grows (wants_image old.marks) (count + 1) rest) in
      let times : image_bytes slots * (length (wanted_below old.marks count) + 1) ≤ image_bytes slots * length (wanted_below old.marks (length old.marks)) = mul-le-mul_left (image_bytes slots) (omega (arith, one, grows)) in
      let sum : image_bytes slots * (length (wanted_below old.marks count) + 1) ≡ image_bytes slots * length (wanted_below old.marks count) + image_bytes slots = omega arith in
      omega (arith, times, sum, room)
