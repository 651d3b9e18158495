-- Batches and a tail that have the records of notes: at one note more, at a force, and where a store has just opened.
use Rattle.std.proofs.Common.{◌≡◌, ℕ, ◌*◌, ◌<◌, List, [], ◌∷◌, ◌++◌, Option, Some, None, length, refl, sym, ◌∙◌, ap, subst, arith}
use Rattle.std.proofs.lemmas.List.{append-nil, append_assoc, map-append}
use Rattle.std.proofs.lemmas.Grind.{flat_map-append}
use Rattle.std.specs.Option.{option_map_or}
use Rattle.cell_model.specs.Cells.{Cell}
use Rattle.cell_model.specs.Records.{Record as StoredRecord, cells_after}
use Rattle.cell_model.specs.Consistent.{AreConsistent}
use Rattle.log_record.specs.declared.cell_record.CellRecord.{CellRecord}
use Rattle.cell_page.specs.declared.cell.Cell.{Cell as PageCell}
use Rattle.cell_page.specs.Format.{AreTyped}
use Rattle.cell_page.specs.Stored.{HoldsPage}
use Rattle.disk_model.specs.declared.area.Area.{Area}
use Rattle.disk_model.specs.declared.area.Area.TheVariants.{Pages}
use Rattle.log_record.specs.declared.record.Record.{Record}
use Rattle.log_record.specs.declared.record.Record.TheVariants.{OfCells, Image}
use Rattle.log_record.specs.Spelling.{cell_record_bytes, record_bytes}
use Rattle.gate_log.specs.OnDisk.{with_batch}
use Rattle.restart_laws.specs.Local.{records_in}
use Rattle.restart_laws.proofs.ReopenLaws.{cells-append}
use Rattle.opened_images.specs.LogRecords.{body_of, bodies_of, all_of, first_records}
use Rattle.opened_images.specs.Replayed.{items_of}
use Rattle.opened_images.specs.GoesOn.{logged_records}
use Rattle.opened_images.specs.WithImages.{AreOfEvents, HaveImages, AreSamePages}
use Rattle.opened_images.proofs.ImagesInLog.{all_both, logged_without, logged_images, of_events_both, cells_are_of_events, images_both, same_pages_more, no_bytes_no_records}
use Rattle.page_marks.specs.declared.marks.PageMark.{PageMark}
use Rattle.page_marks.specs.Marks.{AreMarkedBy, AreMarks, IsMarkedBegun}
use Rattle.page_marks.proofs.MarkLaws.{next-marks}
use Rattle.core_store.specs.declared.note.Note.{Note}
use Rattle.core_store.specs.JournalView.{JournalView, logged_in, cells_after_notes}
use Rattle.logged_journal.specs.Records.{logged_of, note_bytes, OpenedWith, HaveRecords, HoldRecords, AreRecords, HaveMarked, HoldsNotes, AreMarkedAfter}
use Rattle.logged_journal.proofs.NoteRecords.{stored-are, slots-of-log}

-- ---- one note more

-- the bytes of a note are the body of its records
note-body : (slots : ℕ) (o : Option CellRecord) → option_map_or cell_record_bytes o [] ≡ body_of (logged_records {slots = slots} (o ∷ []))
note-body slots None = refl
note-body slots (Some r) = sym (append-nil (cell_record_bytes r))

-- its record joins the tail
pub tail-push : (slots pages : ℕ) (cells : List Cell) (notes : List Note) (n : Note) (rs : List (Record slots)) (bytes more : List ℕ) → AreRecords pages cells notes rs bytes → more ≡ bytes ++ note_bytes n
    → AreRecords pages cells (notes ++ n ∷ []) (rs ++ logged_records (n.logged ∷ [])) more
tail-push slots pages cells notes n rs bytes more tail e =
    let one : List (Record slots) = logged_records (n.logged ∷ []) in
    record {
      logged = subst (λ (events : List (Option CellRecord)). AreOfEvents events (rs ++ one)) (sym (map-append (λ (m : Note). m.logged) notes (n ∷ [])))
          (of_events_both (logged_of notes) (n.logged ∷ []) rs one tail.logged (logged_without slots (n.logged ∷ [])));
      images = images_both pages cells rs one tail.images (logged_images slots pages (cells_after slots cells (records_in (items_of rs))) (n.logged ∷ []));
      are = e ∙ ap (λ (l : List ℕ). l ++ note_bytes n) tail.are ∙ ap (λ (l : List ℕ). body_of rs ++ l) (note-body slots n.logged) ∙ sym (flat_map-append record_bytes rs one);
    }

-- an empty tail has the records of no notes
pub tail-empty : (slots pages : ℕ) (cells : List Cell) (notes : List Note) (bytes : List ℕ) → notes ≡ [] → bytes ≡ [] → AreRecords {slots = slots} pages cells notes [] bytes
tail-empty slots pages cells notes bytes none empty =
    record { logged = sym (ap (λ (ns : List Note). logged_records {slots = slots} (logged_of ns)) none); images = tt; are = empty }

-- the cells after the tail are those after all notes
pub cells-behind-tail : (slots pages : ℕ) (opening : List Cell) (notes more : List Note) (rs : List (Record slots)) (bytes : List ℕ) → AreRecords pages (cells_after_notes slots opening notes) more rs bytes
    → cells_after slots (cells_after_notes slots opening notes) (records_in (items_of rs)) ≡ cells_after_notes slots opening (notes ++ more)
cells-behind-tail slots pages opening notes more rs bytes tail =
    cells_are_of_events (logged_of more) rs (cells_after_notes slots opening notes) tail.logged
    ∙ ap (λ (records : List (Option StoredRecord)). cells_after slots (cells_after_notes slots opening notes) records) (stored-are more)
    ∙ sym (cells-append slots opening (logged_in notes) (logged_in more))
    ∙ ap (λ (records : List (Option StoredRecord)). cells_after slots opening records) (sym (map-append _ notes more))

-- ---- an image more

-- an image of a page of these cells joins the tail
pub tail-image : (slots pages page : ℕ) (opening : List Cell) (notes more : List Note) (rs : List (Record slots)) (held : List (PageCell slots)) (bytes : List ℕ)
    → AreRecords pages (cells_after_notes slots opening notes) more rs bytes → page < pages → AreTyped held → HoldsPage (cells_after_notes slots opening (notes ++ more)) page held
    → AreRecords pages (cells_after_notes slots opening notes) more (rs ++ Image page held ∷ []) (bytes ++ record_bytes (Image page held))
tail-image slots pages page opening notes more rs held bytes tail there typed holds =
    let one : List (Record slots) = Image page held ∷ [] in
    let cells = cells_after_notes slots opening notes in
    let behind = cells-behind-tail slots pages opening notes more rs bytes tail in
    record {
      logged = subst (λ (events : List (Option CellRecord)). AreOfEvents events (rs ++ one)) (append-nil (logged_of more)) (of_events_both (logged_of more) [] rs one tail.logged refl);
      images = images_both pages cells rs one tail.images (there, typed, subst (λ (now : List Cell). HoldsPage now page held) (sym behind) holds, tt);
      are = ap (λ (l : List ℕ). l ++ record_bytes (Image page held)) tail.are ∙ ap (λ (l : List ℕ). body_of rs ++ l) (sym (append-nil (record_bytes (Image page held)))) ∙ sym (flat_map-append record_bytes rs one);
    }

-- ---- the marks

-- after what an event logged
pub marked-after : (slots : ℕ) (rs : List (Record slots)) (o : Option CellRecord) (before now : List PageMark) → AreMarks rs before → AreMarkedAfter slots o before now → AreMarks (rs ++ logged_records (o ∷ [])) now
marked-after slots rs None before now are same = subst (λ (l : List (Record slots)). AreMarks l now) (sym (append-nil rs)) (subst (λ (marks : List PageMark). AreMarks rs marks) (sym same) are)
marked-after slots rs (Some r) before now are by = next-marks slots rs (OfCells r) before now are by

-- so many pages have a mark as before
pub marked-many : (slots : ℕ) (o : Option CellRecord) (before now : List PageMark) → AreMarkedAfter slots o before now → length now ≡ length before
marked-many slots None before now same = ap (λ (l : List PageMark). length l) same
marked-many slots (Some r) before now by = by.as_many

-- ---- the same store

pub records-as : (slots own pages : ℕ) (opening start : List Cell) (area : List ℕ) (notes : List Note) (batches : List (List ℕ)) → own ≡ slots → start ≡ opening
    → HaveRecords slots pages opening area notes batches → HaveRecords own pages start area notes batches
records-as slots own pages opening start area notes batches same same_start hold =
    subst (λ (s : ℕ). HaveRecords s pages start area notes batches) (sym same) (subst (λ (cells : List Cell). HaveRecords slots pages cells area notes batches) (sym same_start) hold)

-- a store has one number of pages
pub records-of : (j : JournalView) (pages : ℕ) (area : List ℕ) (notes : List Note) (batches : List (List ℕ)) → j.history.ids ≡ 8 * pages → HoldRecords j area notes batches → HaveRecords j.history.slots pages j.opening area notes batches
records-of j pages area notes batches ids hold =
    let other = hold.1 in
    let same : hold.0 ≡ pages = omega (arith, ids, other) in
    subst (λ (count : ℕ). HaveRecords j.history.slots count j.opening area notes batches) same hold.2

-- ---- a force

module _ (slots pages : ℕ) (opening : List Cell) (area : List ℕ) (notes more : List Note) (batches : List (List ℕ)) (hold : HaveRecords slots pages opening area notes batches) where
  -- the cells after the log are those after its notes
  pub cells-behind : cells_after slots (cells_after_notes slots opening hold.first) (records_in (items_of (all_of hold.parts))) ≡ cells_after_notes slots opening notes
  cells-behind =
      cells_are_of_events (logged_of hold.later) (all_of hold.parts) (cells_after_notes slots opening hold.first) hold.logged
      ∙ ap (λ (rs : List (Option StoredRecord)). cells_after slots (cells_after_notes slots opening hold.first) rs) (stored-are hold.later)
      ∙ sym (cells-append slots opening (logged_in hold.first) (logged_in hold.later))
      ∙ ap (λ (rs : List (Option StoredRecord)). cells_after slots opening rs) (sym (map-append _ hold.first hold.later))
      ∙ ap (λ (ns : List Note). cells_after_notes slots opening ns) (sym hold.split)

  -- the notes, split where the log began
  split-more : notes ++ more ≡ hold.first ++ (hold.later ++ more)
  split-more = ap (λ (ns : List Note). ns ++ more) hold.split ∙ append_assoc hold.first hold.later more

  logged-more : (rs ss : List (Record slots)) → AreOfEvents (logged_of hold.later) rs → AreOfEvents (logged_of more) ss → AreOfEvents (logged_of (hold.later ++ more)) (rs ++ ss)
  logged-more rs ss e f =
      subst (λ (events : List (Option CellRecord)). AreOfEvents events (rs ++ ss)) (sym (map-append (λ (n : Note). n.logged) hold.later more)) (of_events_both (logged_of hold.later) (logged_of more) rs ss e f)

  -- a tail without bytes
  holds-none : (rs : List (Record slots)) (marks : List PageMark) → AreRecords pages (cells_after_notes slots opening notes) more rs [] → AreMarks (all_of (hold.earlier ++ hold.parts) ++ rs) marks
      → HaveMarked {slots = slots} pages opening area (notes ++ more) batches [] marks
  holds-none rs marks tail marked =
      let none : rs ≡ [] = no_bytes_no_records rs (sym tail.are) in
      record {
        have = record {
          opens = hold.opens;
          «first» = hold.first;
          later = hold.later ++ more;
          split = split-more;
          over = hold.over;
          sound = hold.sound;
          before = hold.before;
          earlier = hold.earlier;
          began = hold.began;
          parts = hold.parts;
          logged = subst (λ (rs : List (Record slots)). AreOfEvents (logged_of (hold.later ++ more)) rs) (ap (λ (rs : List (Record slots)). all_of hold.parts ++ rs) none ∙ append-nil (all_of hold.parts))
              (logged-more (all_of hold.parts) rs hold.logged tail.logged);
          images = hold.images;
          same = hold.same;
          are = hold.are;
        };
        marked = subst (λ (rs : List (Record slots)). AreMarks (all_of (hold.earlier ++ hold.parts) ++ rs) marks) none marked;
      }

  -- one that has some
  holds-some : (byte : ℕ) (bytes : List ℕ) (rs : List (Record slots)) (marks : List PageMark) → AreRecords pages (cells_after_notes slots opening notes) more rs (byte ∷ bytes) → AreMarks (all_of (hold.earlier ++ hold.parts) ++ rs) marks
      → HaveMarked {slots = slots} pages opening area (notes ++ more) (batches ++ (byte ∷ bytes) ∷ []) [] marks
  holds-some byte bytes rs marks tail marked =
      let parts : List (List (Record slots)) = hold.parts ++ rs ∷ [] in
      let all : all_of parts ≡ all_of hold.parts ++ rs = all_both hold.parts (rs ∷ []) ∙ ap (λ (l : List (Record slots)). all_of hold.parts ++ l) (append-nil rs) in
      let every : all_of (hold.earlier ++ parts) ≡ all_of (hold.earlier ++ hold.parts) ++ rs =
      all_both hold.earlier parts ∙ ap (λ (l : List (Record slots)). all_of hold.earlier ++ l) all ∙ sym (append_assoc (all_of hold.earlier) (all_of hold.parts) rs)
      ∙ ap (λ (l : List (Record slots)). l ++ rs) (sym (all_both hold.earlier hold.parts)) in
      record {
        have = record {
          opens = hold.opens;
          «first» = hold.first;
          later = hold.later ++ more;
          split = split-more;
          over = hold.over;
          sound = hold.sound;
          before = hold.before;
          earlier = hold.earlier;
          began = hold.began;
          parts = parts;
          logged = subst (λ (l : List (Record slots)). AreOfEvents (logged_of (hold.later ++ more)) l) (sym all) (logged-more (all_of hold.parts) rs hold.logged tail.logged);
          images = subst (λ (l : List (Record slots)). HaveImages pages (cells_after_notes slots opening hold.first) l) (sym all) (
              images_both pages (cells_after_notes slots opening hold.first) (all_of hold.parts) rs hold.images (subst (λ (cells : List Cell). HaveImages pages cells rs) (sym cells-behind) tail.images)
              );
          same = subst (λ (l : List (Record slots)). AreSamePages pages l hold.before area) (sym every) (same_pages_more pages (all_of (hold.earlier ++ hold.parts)) rs hold.before area hold.same);
          are = ap (λ (bs : List (List ℕ)). bs ++ (byte ∷ bytes) ∷ []) hold.are
              ∙ ap (λ (b : List ℕ). body_of (first_records slots pages) ∷ (bodies_of (hold.earlier ++ hold.parts) ++ b ∷ [])) tail.are
              ∙ ap (λ (bs : List (List ℕ)). body_of (first_records slots pages) ∷ bs) (
              sym (map-append body_of (hold.earlier ++ hold.parts) (rs ∷ [])) ∙ ap (λ (bs : List (List (Record slots))). bodies_of bs) (append_assoc hold.earlier hold.parts (rs ∷ []))
              );
        };
        marked = subst (λ (l : List (Record slots)). AreMarks l marks) (sym every ∙ sym (append-nil (all_of (hold.earlier ++ parts)))) marked;
      }

  -- the batches have the records of the notes in the tail too, once it is forced
  pub holds-tail : (bytes : List ℕ) (rs : List (Record slots)) (marks : List PageMark) → AreRecords pages (cells_after_notes slots opening notes) more rs bytes → AreMarks (all_of (hold.earlier ++ hold.parts) ++ rs) marks
      → HaveMarked {slots = slots} pages opening area (notes ++ more) (with_batch batches bytes) [] marks
  holds-tail [] rs marks tail marked = holds-none rs marks tail marked
  holds-tail (byte ∷ bytes) rs marks tail marked = holds-some byte bytes rs marks tail marked

module _ {D : Type 0} (may_leave : D → Area → List ℕ → Type 0) where
  -- the same store and the same disk
  pub holds-as : (slots own pages : ℕ) (opening start : List Cell) (notes front more rest : List Note) (marks : List PageMark) (disk now : D) (batches : List (List ℕ)) (tail : List ℕ)
      → own ≡ slots → start ≡ opening → front ≡ notes → rest ≡ more → now ≡ disk → HoldsNotes may_leave slots pages opening notes more marks disk batches tail → HoldsNotes may_leave own pages start front rest marks now batches tail
  holds-as slots own pages opening start notes front more rest marks disk now batches tail same same_start same_notes same_rest same_disk holds =
      subst (λ (s : ℕ). HoldsNotes may_leave s pages start front rest marks now batches tail) (sym same) (
      subst (λ (cells : List Cell). HoldsNotes may_leave slots pages cells front rest marks now batches tail) (sym same_start) (
      subst (λ (ns : List Note). HoldsNotes may_leave slots pages opening ns rest marks now batches tail) (sym same_notes) (
      subst (λ (ns : List Note). HoldsNotes may_leave slots pages opening notes ns marks now batches tail) (sym same_rest) (
      subst (λ (d : D). HoldsNotes may_leave slots pages opening notes more marks d batches tail) (sym same_disk) holds
      )
      )
      )
      )

  module _ (slots pages : ℕ) (opening : List Cell) (notes more : List Note) (marks : List PageMark) (disk : D) (batches : List (List ℕ)) (tail : List ℕ) (holds : HoldsNotes may_leave slots pages opening notes more marks disk batches tail) where
    -- one note more, whose record joins the tail
    pub holds-push : (n : Note) (now : List PageMark) (longer : List ℕ) → longer ≡ tail ++ note_bytes n → AreMarkedAfter slots n.logged marks now
        → HoldsNotes may_leave slots pages opening notes (more ++ n ∷ []) now disk batches longer
    holds-push n now longer is by =
        let rs = holds.rs in
        record {
          rs = rs ++ logged_records (n.logged ∷ []);
          behind = tail-push slots pages (cells_after_notes slots opening notes) more n rs tail longer holds.behind is;
          hold = λ area may.
              let h = holds.hold area may in
              record {
                have = h.have;
                marked = subst (λ (l : List (Record slots)). AreMarks l now) (append_assoc (all_of (h.have.earlier ++ h.have.parts)) rs (logged_records (n.logged ∷ [])))
                    (marked-after slots (all_of (h.have.earlier ++ h.have.parts) ++ rs) n.logged marks now h.marked by);
              };
        }

    -- an image joins the tail
    pub holds-image : (page : ℕ) (held : List (PageCell slots)) (now : List PageMark) → page < pages → AreTyped held → HoldsPage (cells_after_notes slots opening (notes ++ more)) page held → AreMarkedBy (Image page held) marks now
        → HoldsNotes may_leave slots pages opening notes more now disk batches (tail ++ record_bytes (Image page held))
    holds-image page held now there typed agree by =
        let rs = holds.rs in
        record {
          rs = rs ++ Image page held ∷ [];
          behind = tail-image slots pages page opening notes more rs held tail holds.behind there typed agree;
          hold = λ area may.
              let h = holds.hold area may in
              record {
                have = h.have;
                marked = subst (λ (l : List (Record slots)). AreMarks l now) (append_assoc (all_of (h.have.earlier ++ h.have.parts)) rs (Image page held ∷ []))
                    (next-marks slots (all_of (h.have.earlier ++ h.have.parts) ++ rs) (Image page held) marks now h.marked by);
              };
        }

    -- the tail is forced, and in the pages area stands what may have stood there before
    pub holds-forced : (now : D) → ((area : List ℕ) → may_leave now Pages area → may_leave disk Pages area) → HoldsNotes may_leave slots pages opening (notes ++ more) [] marks now (with_batch batches tail) []
    holds-forced now keeps =
        record {
          rs = [];
          behind = tail-empty slots pages (cells_after_notes slots opening (notes ++ more)) [] [] refl refl;
          hold = λ area may.
              let h = holds.hold area (keeps area may) in
              holds-tail slots pages opening area notes more batches h.have tail holds.rs marks holds.behind h.marked;
        }

-- ---- a store that has just opened

pub opened-records : (known : ℕ) (j : JournalView) (pages : ℕ) (area : List ℕ) (batches : List (List ℕ)) (marks : List PageMark) → j.history.ids ≡ 8 * pages → AreConsistent known j.history.ids j.opening → OpenedWith j area batches marks
    → HaveMarked {slots = j.history.slots} pages j.opening area [] batches [] marks
opened-records known j pages area batches marks ids sound has =
    let slots = j.history.slots in
    let other = has.1 in
    let same : has.0 ≡ pages = omega (arith, ids, other) in
    let is : IsMarkedBegun slots pages area batches j.opening marks = subst (λ (count : ℕ). IsMarkedBegun slots count area batches j.opening marks) same has.2 in
    let begun = is.begun in
    let own : slots ≡ known = slots-of-log slots known j.history.ids pages area (all_of begun.0) j.opening begun.2.are sound in
    let k : AreConsistent slots (8 * pages) j.opening = subst (λ (s : ℕ). AreConsistent s (8 * pages) j.opening) (sym own) (subst (λ (n : ℕ). AreConsistent known n j.opening) ids sound) in
    record {
      have = record {
        opens = k;
        «first» = [];
        later = [];
        split = refl;
        over = refl;
        sound = k;
        before = area;
        earlier = begun.0;
        began = begun.2;
        parts = [];
        logged = refl;
        images = tt;
        same = λ page low none. refl;
        are = begun.1 ∙ ap (λ (bs : List (List (Record slots))). body_of (first_records slots pages) ∷ bodies_of bs) (sym (append-nil begun.0));
      };
      marked = subst (λ (l : List (Record slots)). AreMarks l marks) (ap (λ (bs : List (List (Record slots))). all_of bs) (sym (append-nil begun.0)) ∙ sym (append-nil (all_of (begun.0 ++ [])))) is.marked;
    }
