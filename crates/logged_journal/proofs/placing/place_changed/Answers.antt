use Rattle.std.proofs.Common.{◌≡◌, ◌≤◌, ℕ, ◌+◌, ◌-◌, ◌*◌, ◌<◌, true, false, List, [], ◌++◌, length, ap, sym, subst, ◌∙◌, refl, arith, rules, inl, inr, Bool}
use Rattle.std.specs.Prelude.{IfSome, slice_index_or, vec_capacity, vec_len}
use Rattle.std.proofs.Math.Nat.{mul-le-mul_left}
use Rattle.std.proofs.lemmas.List.{get_or_read_under}
use Rattle.disk_model.specs.declared.area.Area.TheVariants.{Pages}
use Rattle.cell_page.specs.Format.{IsSlotCount, IsPage, page_size, page_bytes}
use Rattle.page_marks.specs.declared.marks.PageMark.{PageMark}
use Rattle.page_marks.specs.Marks.{unmarked}
use Rattle.core_store.specs.declared.frame.Frame.{Frame}
use Rattle.logged_journal.specs.Checkpoints.{page_in, has_changed, changed_below, AreThere}
use Rattle.logged_journal.proofs.PlacedPages.{IsPlacing, start_placing, spelled_more, long_read, copies_of_run, run_only, run_there, begins_run, placing_as, on_ok}
use Rattle.logged_journal.proofs.Counting.{count_grows, count_with}
use Rattle.logged_journal.proofs.placing.place_changed.Goals as goal
use Rattle.logged_journal.proofs.placing.place_changed.Goals.{then-get, else-get+in_ok-write_run}

changed-is : (marks : List PageMark) (page : ℕ) (mark : PageMark) (b : Bool) → page < length marks → mark ≡ slice_index_or marks page mark → mark.changed ≡ b → has_changed marks page ≡ b
changed-is marks page mark b low is changed = ap (λ (m : PageMark). m.changed) (sym (get_or_read_under marks page (length marks) mark unmarked is low refl)) ∙ changed

page-is : {slots : ℕ} (frames : List (Frame slots)) (page : ℕ) (frame : Frame slots) → page < length frames → frame ≡ slice_index_or frames page frame → page_in frames page ≡ frame.page
page-is frames page frame low is = ap (λ (f : Frame _). f.page) (sym (get_or_read_under frames page (length frames) frame (record { page = [] }) is low refl))

page-size : (slots : ℕ) → IsSlotCount slots → 0 < page_size slots
page-size slots (inl six) = subst (λ (n : ℕ). 0 < page_size n) (sym six) (omega arith)
page-size slots (inr fourteen) = subst (λ (n : ℕ). 0 < page_size n) (sym fourteen) (omega arith)

-- there is room for one changed page more
room-more : (slots : ℕ) (marks : List PageMark) (first page run capacity : ℕ) → run ≡ page_size slots * (page - first) → page - first ≤ length (changed_below marks page) → page < length marks → has_changed marks page ≡ true
    → page_size slots * length (changed_below marks (length marks)) ≤ capacity → run + page_size slots ≤ capacity
room-more slots marks first page run capacity long few low changed room =
    let one = count_with (has_changed marks) page changed in
    let rest : ℕ = length marks - (page + 1) in
    let grows = count_grows (has_changed marks) (page + 1) rest in
    let all : page + 1 + rest ≡ length marks = omega (arith, low) in
    let most : length (changed_below marks (page + 1)) ≤ length (changed_below marks (length marks)) = subst (λ (n : ℕ). length (changed_below marks (page + 1)) ≤ length (changed_below marks n)) all grows in
    let times : page_size slots * (page - first + 1) ≤ page_size slots * length (changed_below marks (length marks)) = mul-le-mul_left (page_size slots) (omega (arith, few, one, most)) in
    let sum : page_size slots * (page - first + 1) ≡ page_size slots * (page - first) + page_size slots = omega arith in
    omega (arith, long, times, sum, room)

pub loop-page-init : goal.loop-page-init
loop-page-init g c = (
  subst (λ (run : List ℕ). IsPlacing g.D.Disk.content g.D.Disk.may_leave g.D.Disk.moment g.D.Disk.left_since g.D.Disk.faults c.args.marks.now c.args.frames.now c.args.disk.now c.args.disk.now 0 0 run) (sym c.clear.ensures.items)
      (start_placing g.D.Disk.content g.D.Disk.may_leave g.D.Disk.moment g.D.Disk.left_since g.D.Disk.faults c.args.marks.now c.args.frames.now g.D.Disk.only_now c.args.disk.now),
  omega arith,
  refl,
)

pub spell_page-requires : goal.spell_page-requires
spell_page-requires g c =
    let h = c.loop-page.invariant.0 in
    let many = c.requires.as_many in
    let inside : c.loop-page.page < length c.args.frames.now = omega (arith, c.loop-page-test.true) in
    let low : c.loop-page.page < length c.args.marks.now = omega (arith, inside, many) in
    let changed = changed-is c.args.marks.now c.loop-page.page c.get.result true low c.get.ensures.mark c.if-get.true in (
      search rules,
      (
        c.requires.count,
        (
          (c.loop-page.page, subst (IsPage c.loop-page.page) (page-is c.args.frames.now c.loop-page.page c.index-frames-page.result inside c.index-frames-page.is) (c.requires.spelled c.loop-page.page inside)),
          (let room = c.requires.room in
              let kept = c.loop-page.invariant.1 in
              let cleared = c.clear.ensures.capacity in
              let l = c.loop-page.run.ok in
              room-more g.row.SLOTS c.args.marks.now c.loop-page.first c.loop-page.page (vec_len c.loop-page.run) (vec_capacity c.loop-page.run) (let long = h.long in omega (arith, l, long)) h.few low changed (omega (arith, room, kept, cleared))),
        ),
      ),
    )

-- what holds in the loop before a run is written
pub write_run-requires-clause-reaches : goal.write_run-requires-clause-reaches
write_run-requires-clause-reaches g c κs within =
    let h = c.loop-page.invariant.0 in
    let many = c.requires.as_many in
    let inside = c.loop-page-test.true in
    long_read g.D.Disk.content g.D.Disk.may_leave g.D.Disk.moment g.D.Disk.left_since g.D.Disk.faults c.args.marks.now c.args.frames.now g.D.Disk.reads_may_stay c.args.disk.now c.loop-page.disk (page_size g.row.SLOTS * length c.args.marks.now) (page_size g.row.SLOTS * c.loop-page.first)
    (mul-le-mul_left (page_size g.row.SLOTS) (let o = h.order in omega (arith, o, many, inside))) c.requires.long h.only

pub write_run-requires-clause-copied : goal.write_run-requires-clause-copied
write_run-requires-clause-copied g c κs within =
    let h = c.loop-page.invariant.0 in
    let many = c.requires.as_many in
    let inside = c.loop-page-test.true in
    copies_of_run g.D.Disk.content g.D.Disk.may_leave g.D.Disk.moment g.D.Disk.left_since g.D.Disk.faults c.args.marks.now c.args.frames.now c.args.disk.now c.loop-page.disk c.loop-page.first c.loop-page.page c.loop-page.run.items
    (page-size g.row.SLOTS c.requires.count) h (omega (arith, many, inside)) c.requires.copied

pub returns-in_err-write_run-clause-only : goal.returns-in_err-write_run-clause-only
returns-in_err-write_run-clause-only g c =
    let h = c.loop-page.invariant.0 in
    let many = c.requires.as_many in
    let inside = c.loop-page-test.true in
    let count : ℕ = c.loop-page.page - c.loop-page.first in
    run_only g.D.Disk.content g.D.Disk.may_leave g.D.Disk.moment g.D.Disk.left_since g.D.Disk.faults c.args.marks.now c.args.frames.now c.args.disk.now c.loop-page.disk c.write_run.new.disk c.loop-page.first c.loop-page.page c.loop-page.run.items h
    (omega (arith, many, inside)) c.requires.long (c.write_run.ensures.left count h.long) (c.write_run.ensures.moments count h.long) c.write_run.ensures.keeps c.write_run.ensures.cause.later

pub loop-page-preserved : goal.loop-page-preserved
loop-page-preserved g c =
    let h = c.loop-page.invariant.0 in
    let many = c.requires.as_many in
    let inside = c.loop-page-test.true in
    let low : c.loop-page.page < length c.args.marks.now = omega (arith, many, inside) in
    elim c.if-get.branch [
      | then-get w ↦
          let changed = changed-is c.args.marks.now c.loop-page.page c.get.result true low c.get.ensures.mark w.if-get.true in
          let is = page-is c.args.frames.now c.loop-page.page c.index-frames-page.result inside c.index-frames-page.is in (
            placing_as g.D.Disk.content g.D.Disk.may_leave g.D.Disk.moment g.D.Disk.left_since g.D.Disk.faults c.args.marks.now c.args.frames.now c.args.disk.now c.loop-page.disk c.if-get.disk c.loop-page.first (c.loop-page.page + 1) c.if-get.first
                (c.loop-page.run.items ++ page_bytes c.index-frames-page.result.page) c.if-get.run.items w.disk-is w.first-is (ap (λ r. r.items) w.run-is ∙ w.spell_page.ensures.bytes)
                (spelled_more g.D.Disk.content g.D.Disk.may_leave g.D.Disk.moment g.D.Disk.left_since g.D.Disk.faults c.args.marks.now c.args.frames.now c.args.disk.now c.loop-page.disk c.loop-page.first c.loop-page.page c.loop-page.run.items
                (page_bytes c.index-frames-page.result.page) h changed (ap (λ p. page_bytes p) (sym is)) w.spell_page.ensures.size),
            (let kept = c.loop-page.invariant.1 in let more = w.spell_page.ensures.capacity in let same = ap (λ r. vec_capacity r) w.run-is in omega (arith, kept, more, same)),
            ap g.D.Disk.faults w.disk-is ∙ c.loop-page.invariant.2,
          )
      | else-get+in_ok-write_run w ↦
          let unchanged = changed-is c.args.marks.now c.loop-page.page c.get.result false low c.get.ensures.mark w.if-get.false in
          let count : ℕ = c.loop-page.page - c.loop-page.first in
          let e = w.in_ok-write_run.ensures in
          let only = run_only g.D.Disk.content g.D.Disk.may_leave g.D.Disk.moment g.D.Disk.left_since g.D.Disk.faults c.args.marks.now c.args.frames.now c.args.disk.now c.loop-page.disk w.write_run.new.disk c.loop-page.first c.loop-page.page c.loop-page.run.items h
          (omega (arith, low)) c.requires.long (e.left count h.long) (e.moments count h.long) e.keeps e.cause.later in
          let there = run_there g.D.Disk.content g.D.Disk.may_leave g.D.Disk.moment g.D.Disk.left_since g.D.Disk.faults c.args.marks.now c.args.frames.now g.D.Disk.reads_may_stay c.args.disk.now c.loop-page.disk w.write_run.new.disk c.loop-page.first c.loop-page.page c.loop-page.run.items h
          (omega (arith, low)) c.requires.long e.untold (e.torn count h.long) e.pages in (
            placing_as g.D.Disk.content g.D.Disk.may_leave g.D.Disk.moment g.D.Disk.left_since g.D.Disk.faults c.args.marks.now c.args.frames.now c.args.disk.now w.write_run.new.disk c.if-get.disk (c.loop-page.page + 1) (c.loop-page.page + 1) c.if-get.first
                [] c.if-get.run.items w.disk-is w.first-is (ap (λ r. r.items) w.run-is ∙ e.anew)
                (begins_run g.D.Disk.content g.D.Disk.may_leave g.D.Disk.moment g.D.Disk.left_since g.D.Disk.faults c.args.marks.now c.args.frames.now c.args.disk.now w.write_run.new.disk c.loop-page.page only there unchanged),
            (let kept = c.loop-page.invariant.1 in let more = e.capacity in let same = ap (λ r. vec_capacity r) w.run-is in omega (arith, kept, more, same)),
            ap g.D.Disk.faults w.disk-is ∙ e.cause.kept (λ f. cc) ∙ c.loop-page.invariant.2,
          )
    ]

pub write_run-requires-2-clause-reaches : goal.write_run-requires-2-clause-reaches
write_run-requires-2-clause-reaches g c κs within =
    let h = c.loop-page.invariant.0 in
    let many = c.requires.as_many in
    let inside = c.loop-page.auto.page-end in
    long_read g.D.Disk.content g.D.Disk.may_leave g.D.Disk.moment g.D.Disk.left_since g.D.Disk.faults c.args.marks.now c.args.frames.now g.D.Disk.reads_may_stay c.args.disk.now c.loop-page.disk (page_size g.row.SLOTS * length c.args.marks.now) (page_size g.row.SLOTS * c.loop-page.first)
    (mul-le-mul_left (page_size g.row.SLOTS) (let o = h.order in omega (arith, o, many, inside))) c.requires.long h.only

pub write_run-requires-2-clause-copied : goal.write_run-requires-2-clause-copied
write_run-requires-2-clause-copied g c κs within =
    let h = c.loop-page.invariant.0 in
    let many = c.requires.as_many in
    let inside = c.loop-page.auto.page-end in
    copies_of_run g.D.Disk.content g.D.Disk.may_leave g.D.Disk.moment g.D.Disk.left_since g.D.Disk.faults c.args.marks.now c.args.frames.now c.args.disk.now c.loop-page.disk c.loop-page.first c.loop-page.page c.loop-page.run.items
    (page-size g.row.SLOTS c.requires.count) h (omega (arith, many, inside)) c.requires.copied

pub returns-clause-there : goal.returns-clause-there
returns-clause-there g c =
    let h = c.loop-page.invariant.0 in
    let many = c.requires.as_many in
    let inside = c.loop-page.auto.page-end in
    let past = c.loop-page-test.false in
    let count : ℕ = c.loop-page.page - c.loop-page.first in
    let end : c.loop-page.page ≡ length c.args.marks.now = omega (arith, many, inside, past) in
    let e = c.write_run-2.ensures in
    on_ok c.write_run-2.result
    (λ untold wrote. subst (λ (n : ℕ). IfSome (g.D.Disk.content c.write_run-2.new.disk Pages) (AreThere c.args.frames.now c.args.marks.now n)) end
    (run_there g.D.Disk.content g.D.Disk.may_leave g.D.Disk.moment g.D.Disk.left_since g.D.Disk.faults c.args.marks.now c.args.frames.now g.D.Disk.reads_may_stay c.args.disk.now c.loop-page.disk c.write_run-2.new.disk c.loop-page.first c.loop-page.page c.loop-page.run.items h
    (omega (arith, end)) c.requires.long untold (e.torn count h.long) wrote)) e.untold e.pages

pub returns-clause-only : goal.returns-clause-only
returns-clause-only g c =
    let h = c.loop-page.invariant.0 in
    let many = c.requires.as_many in
    let inside = c.loop-page.auto.page-end in
    let count : ℕ = c.loop-page.page - c.loop-page.first in
    run_only g.D.Disk.content g.D.Disk.may_leave g.D.Disk.moment g.D.Disk.left_since g.D.Disk.faults c.args.marks.now c.args.frames.now c.args.disk.now c.loop-page.disk c.write_run-2.new.disk c.loop-page.first c.loop-page.page c.loop-page.run.items h
    (omega (arith, many, inside)) c.requires.long (c.write_run-2.ensures.left count h.long) (c.write_run-2.ensures.moments count h.long) c.write_run-2.ensures.keeps c.write_run-2.ensures.cause.later
