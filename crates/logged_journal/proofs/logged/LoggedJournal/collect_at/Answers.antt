use Rattle.std.proofs.Common.{rules, ◌≡◌, ◌≤◌, sym, ◌∙◌, ap, subst, refl, Some, IfSome}
use Rattle.std.specs.Prelude.{Option}
use Rattle.core_store.specs.declared.round_at.RoundAt.{RoundAt}
use Rattle.core_store.specs.RoundView.{asked}
use Rattle.core_store.specs.Steppings.{bytes_at}
use Rattle.logged_journal.specs.View.{LoggedView, IsPast, image_need}
use Rattle.logged_journal.specs.Calls.{KeepsFrames}
use Rattle.logged_journal.proofs.AppliedCalls.{few-to-collect, few-needed, next-room, next-some}
use Rattle.logged_journal.proofs.logged.LoggedJournal.collect_at.Goals as goal

-- the place is what is asked for
place : (o : Option RoundAt) (p a : RoundAt) → IfSome o (λ x. x ≡ a) → o ≡ Some p → p ≡ a
place o p a all is = subst (λ (x : Option RoundAt). IfSome x (λ y. y ≡ a)) is all

pub rest-requires-after_bounds : goal.rest-requires-after_bounds
rest-requires-after_bounds g c κs within = (search rules, (search rules, (c.requires.agree, (c.requires.ready, (c.requires.running, c.requires.none.0 c.in_default.is)))))

pub is_past-requires-after_bounds : goal.is_past-requires-after_bounds
is_past-requires-after_bounds g c κs within = (search rules, (c.requires.running, (subst (λ n. n ≤ image_need g.row.SLOTS) (sym (c.record_length.ensures ∙ ap bytes_at (place c.args.at c.in-Some.place (asked c.args.self.now.journal.round) c.requires.at c.in-Some.is))) (few-needed g.row.SLOTS _ c.self.invariant.size (few-to-collect c.args.self.now.journal.round)))))

pub mark_full-requires-after_bounds : goal.mark_full-requires-after_bounds
mark_full-requires-after_bounds g c κs within = (search rules, (c.requires.running, (c.record_length.result, (subst (λ n. n ≤ image_need g.row.SLOTS) (sym (c.record_length.ensures ∙ ap bytes_at (place c.args.at c.in-Some.place (asked c.args.self.now.journal.round) c.requires.at c.in-Some.is))) (few-needed g.row.SLOTS _ c.self.invariant.size (few-to-collect c.args.self.now.journal.round))), c.is_past.ensures.past.0 c.if-is_past.true)))

pub returns-then-is_past-clause-log_full : goal.returns-then-is_past-clause-log_full
returns-then-is_past-clause-log_full g c = (
  (λ _. record {
    running = c.requires.running;
    room = next-room c.args.self.now.journal c.args.at c.in-Some.place c.requires.none.1 c.in-Some.is;
    some = next-some c.args.self.now.journal c.args.at c.in-Some.place c.requires.none.1 c.in-Some.is;
    past = subst (λ n. IsPast c.args.self.now n) (c.record_length.ensures ∙ ap bytes_at (place c.args.at c.in-Some.place (asked c.args.self.now.journal.round) c.requires.at c.in-Some.is)) (c.is_past.ensures.past.0 c.if-is_past.true);
  }),
  (λ _. refl),
)

pub returns-then-is_past-clause-frames : goal.returns-then-is_past-clause-frames
returns-then-is_past-clause-frames g c =
    subst (λ (w : LoggedView g.row.D.Denot). KeepsFrames c.args.self.now.journal w.journal c.args.held.now c.args.held.now) (sym c.mark_full.ensures.marked)
    (record { pages = refl; agree = c.requires.agree; elsewhere = λ page out. refl })

pub log_step-requires-after_bounds : goal.log_step-requires-after_bounds
log_step-requires-after_bounds g c κs within = (
  search rules,
  (
    search rules,
    (
      c.requires.agree,
      (
        c.requires.ready,
        (
          c.requires.running,
          (
            next-room c.args.self.now.journal c.args.at c.in-Some.place c.requires.none.1 c.in-Some.is,
            (
              next-some c.args.self.now.journal c.args.at c.in-Some.place c.requires.none.1 c.in-Some.is,
              ((λ past. let e = sym c.if-is_past.false ∙ c.is_past.ensures.past.1 (subst (λ n. IsPast c.args.self.now n) (sym (c.record_length.ensures ∙ ap bytes_at (place c.args.at c.in-Some.place (asked c.args.self.now.journal.round) c.requires.at c.in-Some.is))) past) in cc (e)), (c.is_past.ensures.limits, place c.args.at c.in-Some.place (asked c.args.self.now.journal.round) c.requires.at c.in-Some.is)),
            ),
          ),
        ),
      ),
    ),
  ),
)
