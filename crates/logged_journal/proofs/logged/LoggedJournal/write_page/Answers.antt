use Rattle.std.proofs.Common.{◌≡◌, ◌∙◌, ◌*◌, ◌<◌, ◌≤◌, ⊎_elim, rules, ℕ, List, length, true, Option, sym, ap, subst, arith}
use Rattle.std.specs.Prelude.{IfSome}
use Rattle.disk_model.specs.declared.area.Area.{Area}
use Rattle.disk_model.specs.declared.area.Area.TheVariants.{Pages}
use Rattle.disk_model.specs.Areas.{Bytes}
use Rattle.disk_model.specs.Causes.{Rose}
use Rattle.disk_model.specs.Told.{KeepsOthers, Follows, EachImage}
use Rattle.disk_model.specs.Time.{LeavesOnlyImages}
use Rattle.disk_model.proofs.Moments.{at_exit}
use Rattle.cell_page.specs.Format.{page_size, page_bytes}
use Rattle.page_area.specs.InPlace.{AreTorn, HasTornPages, HasCopy}
use Rattle.logged_journal.specs.declared.failed.FailedCall.{FailedCall}
use Rattle.logged_journal.specs.Inside.{view_of}
use Rattle.logged_journal.specs.View.{LoggedView, mark_at}
use Rattle.logged_journal.specs.Records.{MayHaveAll}
use Rattle.logged_journal.specs.Upkeep.{HasImage}
use Rattle.logged_journal.proofs.Upkeeps.{on-others, kept-stopped, kept-disk}
use Rattle.logged_journal.proofs.PagesKept.{one-imaged, image-copied, torn-holds, torn-moments, reaches-page, written-faults, written-kept}
use Rattle.logged_journal.proofs.logged.LoggedJournal.write_page.Goals as goal

-- what the write leaves, from the disk that stood in the box
abbrev Torn : {D : Type 0} → (D → Area → List ℕ → Type 0) → (D → ℕ) → (D → ℕ → Bytes → Type 0) → (slots page : ℕ) → D → D → Type 0
Torn may_leave moment left_since slots page now before = LeavesOnlyImages moment left_since before now (HasTornPages may_leave before slots page 1)

pub write_in_place-requires-after_bounds : goal.write_in_place-requires-after_bounds
write_in_place-requires-after_bounds g c κs within =
    let v = view_of c.self.inside in
    let small : g.row.SLOTS ≤ 14 = ⊎_elim (λ six. omega arith) (λ fourteen. omega arith) c.self.invariant.size in
    let running = ap (λ (w : LoggedView g.row.D.Denot). w.failed) c.self.view_is ∙ c.requires.running in
    let there = subst (λ (w : LoggedView g.row.D.Denot). 8 * c.args.page < w.journal.history.ids) (sym c.self.view_is) c.requires.page in
    let has = subst (λ (w : LoggedView g.row.D.Denot). EachImage g.D.Disk.may_leave w.disk (HasImage c.args.page c.args.frame.now.page)) (sym c.self.view_is) c.know_image.ensures.image in (
      search rules,
      (
        c.self.invariant.size,
        (
          c.requires.agree.rules,
          (
            subst (λ (d : g.row.D.Denot). IfSome (g.D.Disk.content d Pages) (λ area. page_size g.row.SLOTS * c.args.page ≤ length area)) (sym c.as_mut.ensures.value)
                (reaches-page g.D.Disk.may_leave g.row.SLOTS v (c.self.invariant.kept.standing running) c.self.invariant.own c.args.page there (g.D.Disk.content v.disk Pages) (g.D.Disk.reads_may_stay v.disk Pages)),
            subst (λ (d : g.row.D.Denot). EachImage g.D.Disk.may_leave d (HasCopy g.row.SLOTS c.args.page (page_bytes c.args.frame.now.page))) (sym c.as_mut.ensures.value)
                (λ image may. image-copied c.args.page c.args.frame.now.page image (has image may)),
          ),
        ),
      ),
    )

pub invariant_of-self : goal.invariant_of-self
invariant_of-self g c =
    let v = view_of c.self.inside in
    let running = ap (λ (w : LoggedView g.row.D.Denot). w.failed) c.self.view_is ∙ c.requires.running in
    let there = subst (λ (w : LoggedView g.row.D.Denot). 8 * c.args.page < w.journal.history.ids) (sym c.self.view_is) c.requires.page in
    let current = subst (λ (w : LoggedView g.row.D.Denot). (mark_at w.marks c.args.page).current ≡ true) (sym c.self.view_is) c.requires.current in
    let empty = ap (λ (w : LoggedView g.row.D.Denot). w.log.tail) c.self.view_is ∙ c.requires.empty in
    let kept = c.self.invariant.kept in
    let stands = kept.standing running in
    let run = subst (λ (d : g.row.D.Denot). Torn g.D.Disk.may_leave g.D.Disk.moment g.D.Disk.left_since g.row.SLOTS c.args.page c.write_in_place.new.disk d) c.as_mut.ensures.value c.write_in_place.ensures.moments in
    let moments = torn-moments g.D.Disk.may_leave g.row.SLOTS v stands c.self.invariant.own c.args.page 1 (one-imaged g.D.Disk.may_leave v kept stands c.args.page there current empty)
    g.D.Disk.moment g.D.Disk.left_since c.write_in_place.new.disk run in
    record {
      size = c.self.invariant.size;
      own = c.self.invariant.own;
      spelling = c.self.invariant.spelling;
      counted = (
        let before = c.self.invariant.counted.0 in
            let value = ap g.D.Disk.faults c.as_mut.ensures.value in
            let cause = c.write_in_place.ensures.cause.later in
            omega (arith, before, value, cause),
        let before = c.self.invariant.counted.0 in
            let value = ap g.D.Disk.faults c.as_mut.ensures.value in
            let rose = written-faults c.write_in_place.result _ _ c.write_in_place.ensures.refusals c.write_in_place.ensures.cause (sym c.is_err.ensures.value ∙ c.if-is_err.true) in
            let told = c.faults.ensures ∙ ap g.D.Disk.faults c.deref.ensures in
            (omega (arith, before, value, rose, told), omega (arith, told)),
        λ none. absurd (cc (none)),
      );
      kept = kept-stopped g.D.Disk.may_leave v c.self.inside.log c.write_in_place.new.disk c.faults.result kept running (at_exit g.D.Disk.may_leave g.D.Disk.counts_now moments);
    }

pub returns-then-is_err-clause-moments : goal.returns-then-is_err-clause-moments
returns-then-is_err-clause-moments g c =
    let v = view_of c.self.inside in
    let running = ap (λ (w : LoggedView g.row.D.Denot). w.failed) c.self.view_is ∙ c.requires.running in
    let there = subst (λ (w : LoggedView g.row.D.Denot). 8 * c.args.page < w.journal.history.ids) (sym c.self.view_is) c.requires.page in
    let current = subst (λ (w : LoggedView g.row.D.Denot). (mark_at w.marks c.args.page).current ≡ true) (sym c.self.view_is) c.requires.current in
    let empty = ap (λ (w : LoggedView g.row.D.Denot). w.log.tail) c.self.view_is ∙ c.requires.empty in
    let kept = c.self.invariant.kept in
    let stands = kept.standing running in
    let run = subst (λ (d : g.row.D.Denot). Torn g.D.Disk.may_leave g.D.Disk.moment g.D.Disk.left_since g.row.SLOTS c.args.page c.write_in_place.new.disk d) c.as_mut.ensures.value c.write_in_place.ensures.moments in
    subst (λ (w : LoggedView g.row.D.Denot). LeavesOnlyImages g.D.Disk.moment g.D.Disk.left_since w.disk c.write_in_place.new.disk (MayHaveAll w)) c.self.view_is
    (torn-moments g.D.Disk.may_leave g.row.SLOTS v stands c.self.invariant.own c.args.page 1 (one-imaged g.D.Disk.may_leave v kept stands c.args.page there current empty)
    g.D.Disk.moment g.D.Disk.left_since c.write_in_place.new.disk run)

pub invariant_of-self-else-is_err : goal.invariant_of-self-else-is_err
invariant_of-self-else-is_err g c =
    let v = view_of c.self.inside in
    let running = ap (λ (w : LoggedView g.row.D.Denot). w.failed) c.self.view_is ∙ c.requires.running in
    let there = subst (λ (w : LoggedView g.row.D.Denot). 8 * c.args.page < w.journal.history.ids) (sym c.self.view_is) c.requires.page in
    let current = subst (λ (w : LoggedView g.row.D.Denot). (mark_at w.marks c.args.page).current ≡ true) (sym c.self.view_is) c.requires.current in
    let empty = ap (λ (w : LoggedView g.row.D.Denot). w.log.tail) c.self.view_is ∙ c.requires.empty in
    let kept = c.self.invariant.kept in
    let stands = kept.standing running in
    let now = c.write_in_place.new.disk in
    let keeps = subst (λ (d : g.row.D.Denot). KeepsOthers g.D.Disk.content g.D.Disk.may_leave d now Pages) c.as_mut.ensures.value c.write_in_place.ensures.keeps in
    let left = subst (λ (d : g.row.D.Denot). Follows g.D.Disk.content g.D.Disk.may_leave (AreTorn g.row.SLOTS c.args.page 1) d now Pages) c.as_mut.ensures.value c.write_in_place.ensures.left in
    let imaged = one-imaged g.D.Disk.may_leave v kept stands c.args.page there current empty in
    record {
      size = c.self.invariant.size;
      own = c.self.invariant.own;
      spelling = c.self.invariant.spelling;
      counted = (
        let before = c.self.invariant.counted.0 in
            let value = ap g.D.Disk.faults c.as_mut.ensures.value in
            let cause = c.write_in_place.ensures.cause.later in
            omega (arith, before, value, cause),
        subst (λ (o : Option FailedCall). IfSome o (λ f. Rose c.self.inside.opened f.faults × (f.faults ≤ g.D.Disk.faults c.write_in_place.new.disk))) (sym running) tt,
        λ none.
            let before = c.self.invariant.counted.2 (running) in
            let value = ap g.D.Disk.faults c.as_mut.ensures.value in
            let kept = written-kept c.write_in_place.result _ _ (sym c.is_err.ensures.value ∙ c.if-is_err.false) c.write_in_place.ensures.cause in
            omega (arith, before, value, kept),
      );
      kept = kept-disk g.D.Disk.may_leave v now kept stands (on-others g.D.Disk.may_leave v.log v.disk now stands.batches (λ area apart bytes may. (keeps area apart).no_more bytes may) stands.on)
          (λ area may. let was = left area may in torn-holds g.D.Disk.may_leave g.row.SLOTS v stands c.self.invariant.own c.args.page 1 imaged was.0 area was.1 was.2)
          (λ area may. let was = left area may in let long = stands.long was.0 was.1 in let more = was.2.no_shorter in omega (arith, long, more));
    }

pub returns-clause-moments : goal.returns-clause-moments
returns-clause-moments g c =
    let v = view_of c.self.inside in
    let running = ap (λ (w : LoggedView g.row.D.Denot). w.failed) c.self.view_is ∙ c.requires.running in
    let there = subst (λ (w : LoggedView g.row.D.Denot). 8 * c.args.page < w.journal.history.ids) (sym c.self.view_is) c.requires.page in
    let current = subst (λ (w : LoggedView g.row.D.Denot). (mark_at w.marks c.args.page).current ≡ true) (sym c.self.view_is) c.requires.current in
    let empty = ap (λ (w : LoggedView g.row.D.Denot). w.log.tail) c.self.view_is ∙ c.requires.empty in
    let kept = c.self.invariant.kept in
    let stands = kept.standing running in
    let run = subst (λ (d : g.row.D.Denot). Torn g.D.Disk.may_leave g.D.Disk.moment g.D.Disk.left_since g.row.SLOTS c.args.page c.write_in_place.new.disk d) c.as_mut.ensures.value c.write_in_place.ensures.moments in
    subst (λ (w : LoggedView g.row.D.Denot). LeavesOnlyImages g.D.Disk.moment g.D.Disk.left_since w.disk c.write_in_place.new.disk (MayHaveAll w)) c.self.view_is
    (torn-moments g.D.Disk.may_leave g.row.SLOTS v stands c.self.invariant.own c.args.page 1 (one-imaged g.D.Disk.may_leave v kept stands c.args.page there current empty)
    g.D.Disk.moment g.D.Disk.left_since c.write_in_place.new.disk run)

pub returns-then-is_err-clause-others : goal.returns-then-is_err-clause-others
returns-then-is_err-clause-others g c =
    subst (λ (w : LoggedView g.row.D.Denot). KeepsOthers g.D.Disk.content g.D.Disk.may_leave w.disk c.write_in_place.new.disk Pages) c.self.view_is
    (subst (λ (d : g.row.D.Denot). KeepsOthers g.D.Disk.content g.D.Disk.may_leave d c.write_in_place.new.disk Pages) c.as_mut.ensures.value c.write_in_place.ensures.keeps)

pub returns-clause-others : goal.returns-clause-others
returns-clause-others g c =
    subst (λ (w : LoggedView g.row.D.Denot). KeepsOthers g.D.Disk.content g.D.Disk.may_leave w.disk c.write_in_place.new.disk Pages) c.self.view_is
    (subst (λ (d : g.row.D.Denot). KeepsOthers g.D.Disk.content g.D.Disk.may_leave d c.write_in_place.new.disk Pages) c.as_mut.ensures.value c.write_in_place.ensures.keeps)
