-- Changed pages are written in place after their images: what is kept, and that all pages stand in place then.
use Rattle.std.proofs.Common.{◌≡◌, inl, ℕ, ◌*◌, ◌<◌, Bool, true, false, List, [], ◌++◌, length, Option, refl, sym, ◌∙◌, subst, arith}
use Rattle.std.specs.Prelude.{IfSome}
use Rattle.disk_model.specs.declared.area.Area.{Area}
use Rattle.disk_model.specs.declared.area.Area.TheVariants.{Pages, Super}
use Rattle.disk_model.specs.Areas.{Bytes}
use Rattle.disk_model.specs.Told.{IsSettled}
use Rattle.disk_model.specs.Time.{LeavesOnlyImages}
use Rattle.disk_model.proofs.Moments.{weaken}
use Rattle.cell_model.specs.Cells.{Cell}
use Rattle.cell_page.specs.Format.{IsSlotCount, AreTyped}
use Rattle.page_area.specs.Place.{bytes_of_page}
use Rattle.opened_images.specs.LogRecords.{all_of}
use Rattle.opened_images.specs.WithImages.{is_imaged}
use Rattle.opened_images.specs.Marks.{StandsInPlace}
use Rattle.opened_images.proofs.Checkpoints.{spelled_stands}
use Rattle.page_marks.specs.declared.marks.PageMark.{PageMark}
use Rattle.core_store.specs.declared.frame.Frame.{Frame}
use Rattle.core_store.specs.Frames.{AllAgree}
use Rattle.logged_journal.specs.View.{LoggedView, mark_at}
use Rattle.logged_journal.specs.Records.{HaveMarked, durable_notes, durable, MayHaveAll}
use Rattle.logged_journal.specs.Kept.{IsKept, IsStanding}
use Rattle.logged_journal.specs.Checkpoints.{page_in, has_changed, AreSameUnchanged, AreThere, OnlyPlaces, AreCurrent}
use Rattle.logged_journal.proofs.Commits.{pages-apart}
use Rattle.logged_journal.proofs.Upkeeps.{has-log, on-others, kept-disk}
use Rattle.logged_journal.proofs.PagesKept.{log-imaged}
use Rattle.logged_journal.proofs.CheckpointImages.{frame-holds}

module _ {D : Type 0} (content : D → Area → Option (List ℕ)) (may_leave : D → Area → List ℕ → Type 0) (moment : D → ℕ) (left_since : D → ℕ → Bytes → Type 0) (faults : D → ℕ) (slots : ℕ) (v : LoggedView D) (kept : IsKept may_leave v)
    (stands : IsStanding may_leave v) (own : v.journal.history.slots ≡ slots) (current : AreCurrent v.marks) (empty : v.log.tail ≡ []) (now : D) (only : OnlyPlaces content may_leave moment left_since faults slots v.marks v.disk now) where
  -- the log has the records as before
  placed-marked : (was area : List ℕ) → may_leave v.disk Pages was → AreSameUnchanged slots v.marks was area → HaveMarked stands.pages v.journal.opening area (durable_notes v) stands.batches stands.records.rs v.marks
  placed-marked was area may same =
      let h = stands.records.hold was may in
      let have = h.have in
      let ids = stands.ids in
      let many = kept.many in
      record {
        have = record {
          opens = have.opens;
          «first» = have.first;
          later = have.later;
          split = have.split;
          over = have.over;
          sound = have.sound;
          before = have.before;
          earlier = have.earlier;
          began = have.began;
          parts = have.parts;
          logged = have.logged;
          images = have.images;
          same = λ page low none.
              let marked : page < length v.marks = omega (arith, low, ids, many) in
              subst (λ (k : ℕ). bytes_of_page k page area ≡ bytes_of_page k page was) (sym own) (same.same page marked (unchanged page marked (omega (arith, low, ids)) none (has_changed v.marks page) refl)) ∙ have.same page low none;
          are = have.are;
        };
        marked = h.marked;
      }
    where
      unchanged : (page : ℕ) → page < length v.marks → 8 * page < v.journal.history.ids → is_imaged page (all_of ((stands.records.hold was may).have.earlier ++ (stands.records.hold was may).have.parts)) ≡ false
          → (b : Bool) → has_changed v.marks page ≡ b → has_changed v.marks page ≡ false
      unchanged page marked there none true is = absurd (let image = log-imaged may_leave v kept stands page there (current page marked is) empty was may in cc (image, none))
      unchanged page marked there none false is = is

  pub placed-kept : IsKept may_leave (record v { disk = now })
  placed-kept =
      kept-disk may_leave v now kept stands (on-others may_leave v.log v.disk now stands.batches (λ area apart bytes may. (only.keeps area apart).no_more bytes may) stands.on)
      (λ area may. let was = only.left area may in placed-marked was.0 area was.1 was.2)
      (λ area may. let was = only.left area may in let long = stands.long was.0 was.1 in let more = was.2.no_shorter in omega (arith, long, more))

  pub placed-moments : LeavesOnlyImages moment left_since v.disk now (MayHaveAll v)
  placed-moments =
      weaken (MayHaveAll v)
      (λ image has.
      let bounded = stands.bounded in
      let was = has.here in
      inl (durable (record {
        batches = stands.batches;
        log = has-log may_leave v.log v.disk stands.batches stands.on (omega (arith, bounded)) image (has.others Super (λ e. cc (e))) (has.others v.log.area (λ e. pages-apart v.log.area stands.on.area (sym e)));
        hold = (stands.pages, stands.ids, (placed-marked was.0 image.pages was.1 was.2).have);
      })))
      only.moments

-- ---- all pages stand in place

-- where the changed pages are read by their spelling and what is read lasts, and the others stand
pub all-stand : {D : Type 0} (content : D → Area → Option (List ℕ)) (may_leave : D → Area → List ℕ → Type 0) (slots : ℕ) (marks : List PageMark) (frames : List (Frame slots)) (cells : List Cell) (now : D)
    → IsSlotCount slots → length frames ≡ length marks → AllAgree cells frames → ((page : ℕ) → page < length frames → AreTyped (page_in frames page))
    → IfSome (content now Pages) (AreThere frames marks (length marks)) → IsSettled content may_leave now Pages
    → ((page : ℕ) → page < length marks → (mark_at marks page).changed ≡ false → (area : List ℕ) → may_leave now Pages area → StandsInPlace slots area cells page)
    → (page : ℕ) → page < length frames → (area : List ℕ) → may_leave now Pages area → StandsInPlace slots area cells page
all-stand content may_leave slots marks frames cells now size many agree typed there settled unchanged page low area may = by (has_changed marks page) refl
  where
    by : (b : Bool) → has_changed marks page ≡ b → StandsInPlace slots area cells page
    by false is = unchanged page (omega (arith, low, many)) is area may
    by true is =
        let holds = frame-holds cells frames page agree low in
        let are : AreThere frames marks (length marks) area = subst (λ (o : Option (List ℕ)). IfSome o (AreThere frames marks (length marks))) (settled area may) there in
        spelled_stands slots page area (page_in frames page) cells size (typed page low) holds (record { rules = holds.rules; spelled = are page (omega (arith, low, many)) is })
