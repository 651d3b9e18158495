use Rattle.std.proofs.Common.{◌≡◌, ◌∙◌, ⊎_elim, ℕ, ◌<◌, ◌≤◌, Bool, true, false, List, [], length, refl, sym, ap, subst, arith, rules}
use Rattle.std.specs.Prelude.{slice_index_or}
use Rattle.std.proofs.lemmas.Bool.{cases_lt}
use Rattle.std.proofs.lemmas.List.{get_or_read_under}
use Rattle.disk_model.specs.Told.{EachImage}
use Rattle.cell_page.specs.Format.{page_bytes}
use Rattle.cell_page.specs.Stored.{HoldsPage}
use Rattle.page_area.specs.InPlace.{HasCopy}
use Rattle.page_marks.specs.declared.marks.PageMark.{PageMark}
use Rattle.page_marks.specs.Marks.{unmarked}
use Rattle.core_store.specs.declared.frame.Frame.{Frame}
use Rattle.core_store.specs.JournalView.{cells_of}
use Rattle.logged_journal.specs.View.{LoggedView}
use Rattle.logged_journal.specs.Checkpoints.{page_in, has_changed}
use Rattle.logged_journal.proofs.PagesKept.{image-copied}
use Rattle.logged_journal.proofs.CheckpointImages.{frame-holds}
use Rattle.logged_journal.proofs.logged.LoggedJournal.know_copies.Goals as goal
use Rattle.logged_journal.proofs.logged.LoggedJournal.know_copies.Goals.{then-get, else-get}

page-is : {slots : ℕ} (frames : List (Frame slots)) (page : ℕ) (frame : Frame slots) → page < length frames → frame ≡ slice_index_or frames page frame → page_in frames page ≡ frame.page
page-is frames page frame low is = ap (λ (f : Frame _). f.page) (sym (get_or_read_under frames page (length frames) frame (record { page = [] }) is low refl))

changed-is : (marks own : List PageMark) (page : ℕ) (mark : PageMark) (b : Bool) → own ≡ marks → page < length marks → mark ≡ slice_index_or own page mark → mark.changed ≡ b → has_changed marks page ≡ b
changed-is marks own page mark b same low is changed =
    ap (λ (m : PageMark). m.changed) (sym (get_or_read_under marks page (length marks) mark unmarked (is ∙ ap (λ (ms : List PageMark). slice_index_or ms page mark) same) low refl)) ∙ changed

pub know_image-requires-after_bounds : goal.know_image-requires-after_bounds
know_image-requires-after_bounds g c κs within =
    let frames = c.args.frames.now in
    let page = c.loop-page.page in
    let inside : page < length frames = c.loop-page-test.true in
    let many = c.know_few.ensures.many in
    let pages = c.requires.pages in
    let low : page < length c.args.self.now.marks = omega (arith, inside, many) in
    let changed = changed-is c.args.self.now.marks c.self.inside.marks page c.get.result true (ap (λ (w : LoggedView g.row.D.Denot). w.marks) c.self.view_is) low c.get.ensures.mark c.if-get.true in
    let holds = subst (λ held. HoldsPage (cells_of c.args.self.now.journal) page held) (page-is frames page c.index-frames-page.result inside c.index-frames-page.is) (frame-holds (cells_of c.args.self.now.journal) frames page c.requires.agree inside) in
    (search rules, (search rules, (c.requires.running, (omega (arith, inside, pages), (holds, (c.requires.current page low changed, c.requires.empty))))))

pub loop-page-preserved : goal.loop-page-preserved
loop-page-preserved g c =
    let frames = c.args.frames.now in
    let page = c.loop-page.page in
    let inside : page < length frames = c.loop-page-test.true in
    let many = c.know_few.ensures.many in
    let low : page < length c.args.self.now.marks = omega (arith, inside, many) in
    let marks = ap (λ (w : LoggedView g.row.D.Denot). w.marks) c.self.view_is in
    let is = page-is frames page c.index-frames-page.result inside c.index-frames-page.is in
    elim c.if-get.branch [
      | then-get w ↦ λ p below changed. ⊎_elim (λ (front : p < page). c.loop-page.invariant p front changed)
          (λ (back : page ≤ p).
          let e : page ≡ p = omega (arith, below, back) in
          subst (λ (k : ℕ). EachImage g.D.Disk.may_leave c.args.self.now.disk (HasCopy g.row.SLOTS k (page_bytes (page_in frames k)))) e
          (subst (λ held. EachImage g.D.Disk.may_leave c.args.self.now.disk (HasCopy g.row.SLOTS page (page_bytes held))) (sym is) (λ image may. image-copied page c.index-frames-page.result.page image (w.know_image.ensures.image image may))))
          (cases_lt p page)
      | else-get w ↦ λ p below changed. ⊎_elim (λ (front : p < page). c.loop-page.invariant p front changed)
          (λ (back : page ≤ p).
          let e : page ≡ p = omega (arith, below, back) in
          let not = changed-is c.args.self.now.marks c.self.inside.marks page c.get.result false marks low c.get.ensures.mark w.if-get.false in
          absurd (let f = ap (λ (k : ℕ). has_changed c.args.self.now.marks k) e in cc (f, not, changed)))
          (cases_lt p page)
    ]
