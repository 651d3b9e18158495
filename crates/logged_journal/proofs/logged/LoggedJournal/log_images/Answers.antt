use Rattle.std.proofs.Common.{◌≡◌, ◌∙◌, ⊎_elim, ℕ, ◌+◌, ◌*◌, ◌<◌, ◌≤◌, Bool, true, false, List, [], length, refl, sym, ap, subst, arith, rules}
use Rattle.std.specs.Prelude.{slice_index_or}
use Rattle.std.proofs.lemmas.Bool.{cases_lt}
use Rattle.std.proofs.lemmas.List.{get_or_read_under}
use Rattle.plain_model.specs.History.{end_of}
use Rattle.cell_page.specs.Format.{AreTyped}
use Rattle.cell_page.specs.Stored.{HoldsPage}
use Rattle.core_store.specs.declared.frame.Frame.{Frame}
use Rattle.core_store.specs.JournalView.{JournalView, cells_of}
use Rattle.core_store.specs.Owed.{bytes_owed}
use Rattle.logged_journal.specs.View.{image_bytes, bytes_counted}
use Rattle.logged_journal.specs.Upkeep.{LogsImage}
use Rattle.logged_journal.specs.Checkpoints.{page_in, wants_image, wanted_below, LogsImages}
use Rattle.logged_journal.proofs.CheckpointImages.{frame-holds, same-failed, same-journal, same-wants, image-more, image-skipped, images-counted, image-fits}
use Rattle.logged_journal.proofs.logged.LoggedJournal.log_images.Given.{Over}
use Rattle.logged_journal.proofs.logged.LoggedJournal.log_images.Goals as goal

page-is : {slots : ℕ} (frames : List (Frame slots)) (page : ℕ) (frame : Frame slots) → page < length frames → frame ≡ slice_index_or frames page frame → page_in frames page ≡ frame.page
page-is frames page frame low is = ap (λ (f : Frame _). f.page) (sym (get_or_read_under frames page (length frames) frame (record { page = [] }) is low refl))

pub log_changed-requires-after_bounds : goal.log_changed-requires-after_bounds
log_changed-requires-after_bounds g c κs within =
    let frames = c.args.frames.now in
    let old = c.args.self.now in
    let page = c.loop-page.page in
    let mid = c.loop-page.self in
    let h = c.loop-page.invariant.0 in
    let inside : page < length frames = c.loop-page-test.true in
    let many = c.know_few.ensures.many in
    let size = c.know_few.ensures.size in
    let low : page < length old.marks = omega (arith, inside, many) in
    let same = same-journal frames old page mid h in
    let holds = subst (λ held. HoldsPage (cells_of old.journal) page held) (page-is frames page c.index-frames-page.result inside c.index-frames-page.is) (frame-holds (cells_of old.journal) frames page c.requires.agree inside) in
    let counted = images-counted frames old page mid h size (λ p below. ((frame-holds (cells_of old.journal) frames p c.requires.agree (omega (arith, below, inside))).rules, c.loop-page.invariant.1 p below)) in
    let ids = ap (λ (j : JournalView). j.history.ids) same in
    let owed = ap (λ (j : JournalView). bytes_owed (end_of j.history)) same in
    let pages = c.requires.pages in
    let room = c.requires.room in
    let bounded = c.requires.bounded in (
      search rules,
      (
        search rules,
        (
          same-failed frames old page mid h ∙ c.requires.running,
          (
            omega (arith, ids, pages, inside),
            (
              subst (λ (j : JournalView). HoldsPage (cells_of j) page c.index-frames-page.result.page) (sym same) holds,
              (
                (λ wants. let fits = image-fits frames old page (image_bytes g.row.SLOTS * length (wanted_below old.marks (length old.marks))) low (same-wants frames old page mid h low true wants) (omega arith) in omega (arith, fits, counted, owed, room)),
                (λ wants. let fits = image-fits frames old page (image_bytes g.row.SLOTS * length (wanted_below old.marks (length old.marks))) low (same-wants frames old page mid h low true wants) (omega arith) in omega (arith, fits, counted, bounded)),
              ),
            ),
          ),
        ),
      ),
    )

pub loop-page-preserved : goal.loop-page-preserved
loop-page-preserved g c =
    let frames = c.args.frames.now in
    let old = c.args.self.now in
    let page = c.loop-page.page in
    let mid = c.loop-page.self in
    let h = c.loop-page.invariant.0 in
    let inside : page < length frames = c.loop-page-test.true in
    let many = c.know_few.ensures.many in
    let low : page < length old.marks = omega (arith, inside, many) in
    let is = page-is frames page c.index-frames-page.result inside c.index-frames-page.is in (
      by g c low is (wants_image mid.marks page) refl,
      λ p below. ⊎_elim (λ (front : p < page). c.loop-page.invariant.1 p front)
          (λ (back : page ≤ p). let e : page ≡ p = omega (arith, below, back) in subst (λ (k : ℕ). AreTyped (page_in frames k)) e (subst (λ held. AreTyped held) (sym is) c.log_changed.ensures.typed))
          (cases_lt p page),
    )
  where
    by : (g : Over) (c : goal.After-log_changed g) → c.loop-page.page < length c.args.self.now.marks → page_in c.args.frames.now c.loop-page.page ≡ c.index-frames-page.result.page
        → (b : Bool) → wants_image c.loop-page.self.marks c.loop-page.page ≡ b → LogsImages c.args.frames.now (c.loop-page.page + 1) c.args.self.now c.log_changed.new.self
    by g c low is true wants = image-more c.args.frames.now c.args.self.now c.loop-page.page c.loop-page.self c.log_changed.new.self c.loop-page.invariant.0 low (same-wants c.args.frames.now c.args.self.now c.loop-page.page c.loop-page.self c.loop-page.invariant.0 low true wants)
        (subst (λ held. LogsImage c.loop-page.self c.log_changed.new.self c.loop-page.page held) (sym is) (c.log_changed.ensures.wanted wants))
    by g c low is false wants = image-skipped c.args.frames.now c.args.self.now c.loop-page.page c.loop-page.self c.log_changed.new.self c.loop-page.invariant.0 low (same-wants c.args.frames.now c.args.self.now c.loop-page.page c.loop-page.self c.loop-page.invariant.0 low false wants)
        (c.log_changed.ensures.other wants)

pub returns-clause-counted : goal.returns-clause-counted
returns-clause-counted g c =
    let frames = c.args.frames.now in
    let old = c.args.self.now in
    let page = c.loop-page.page in
    let many = c.know_few.ensures.many in
    let past = c.loop-page-test.false in
    let inside = c.loop-page.auto.page-end in
    let end : page ≡ length old.marks = omega (arith, many, past, inside) in
    let counted = images-counted frames old page c.loop-page.self c.loop-page.invariant.0 c.know_few.ensures.size
    (λ p below. ((frame-holds (cells_of old.journal) frames p c.requires.agree (omega (arith, below, inside))).rules, c.loop-page.invariant.1 p below)) in
    subst (λ (n : ℕ). bytes_counted c.loop-page.self ≡ bytes_counted old + image_bytes g.row.SLOTS * length (wanted_below old.marks n)) end counted.0
