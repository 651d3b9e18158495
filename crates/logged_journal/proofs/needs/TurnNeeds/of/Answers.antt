use Rattle.std.proofs.Common.{◌≡◌, ◌<◌, ℕ, Bool, true, false, List, length, ap, sym, ◌∙◌, refl, arith}
use Rattle.std.specs.Prelude.{slice_index_or, not, ◌&&◌}
use Rattle.std.proofs.lemmas.List.{get_or_read_under}
use Rattle.page_marks.specs.declared.marks.PageMark.{PageMark}
use Rattle.page_marks.specs.Marks.{unmarked}
use Rattle.logged_journal.specs.View.{mark_at}
use Rattle.logged_journal.specs.Checkpoints.{has_changed, wants_image}
use Rattle.logged_journal.proofs.Counting.{count_with, count_without}
use Rattle.logged_journal.proofs.needs.TurnNeeds.of.Goals as goal
use Rattle.logged_journal.proofs.needs.TurnNeeds.of.Goals.{then-mark+then-not-mark, then-mark+else-not-mark, else-mark}

mark-is : (marks : List PageMark) (page : ℕ) (mark : PageMark) → page < length marks → mark ≡ slice_index_or marks page mark → mark_at marks page ≡ mark
mark-is marks page mark low is = sym (get_or_read_under marks page (length marks) mark unmarked is low refl)

pub loop-page-preserved : goal.loop-page-preserved
loop-page-preserved c =
    let marks = c.args.marks.now in
    let page = c.loop-page.page in
    let few = c.requires in
    let low : page < length marks = omega (arith, few, c.loop-page-test.true) in
    let is = mark-is marks page c.get-mark.result low c.get-mark.ensures.mark in
    let h = c.loop-page.invariant in
    elim c.if-mark.branch [
      | then-mark+then-not-mark w ↦
          let changed : has_changed marks page ≡ true = ap (λ (m : PageMark). m.changed) is ∙ w.if-mark.true in
          let wants : wants_image marks page ≡ true = ap (λ (m : PageMark). m.changed && not m.current) is ∙ (ap (λ (b : Bool). b && not c.get-mark.result.current) w.if-mark.true ∙ w.if-not-mark.true) in
          let a = count_with (has_changed marks) page changed in
          let b = count_with (wants_image marks) page wants in
          let x = w.changed-is in
          let y = w.images-is in
          (omega (arith, h, a, x), omega (arith, h, b, y), omega (arith, h, x), omega (arith, h, x, y))
      | then-mark+else-not-mark w ↦
          let changed : has_changed marks page ≡ true = ap (λ (m : PageMark). m.changed) is ∙ w.if-mark.true in
          let wants : wants_image marks page ≡ false = ap (λ (m : PageMark). m.changed && not m.current) is ∙ (ap (λ (b : Bool). b && not c.get-mark.result.current) w.if-mark.true ∙ w.if-not-mark.false) in
          let a = count_with (has_changed marks) page changed in
          let b = count_without (wants_image marks) page wants in
          let x = w.changed-is in
          let y = w.images-is in
          (omega (arith, h, a, x), omega (arith, h, b, y), omega (arith, h, x), omega (arith, h, x, y))
      | else-mark w ↦
          let changed : has_changed marks page ≡ false = ap (λ (m : PageMark). m.changed) is ∙ w.if-mark.false in
          let wants : wants_image marks page ≡ false = ap (λ (m : PageMark). m.changed && not m.current) is ∙ ap (λ (b : Bool). b && not c.get-mark.result.current) w.if-mark.false in
          let a = count_without (has_changed marks) page changed in
          let b = count_without (wants_image marks) page wants in
          let x = w.changed-is in
          let y = w.images-is in
          (omega (arith, h, a, x), omega (arith, h, b, y), omega (arith, h, x), omega (arith, h, x, y))
    ]
