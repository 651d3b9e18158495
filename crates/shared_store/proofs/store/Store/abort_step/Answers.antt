use Rattle.std.proofs.Common.{◌≡◌, ◌≤◌, ℕ, ◌+◌, Err, sym, ap, subst, ◌∙◌, rules}
use Rattle.latch_table.specs.Views.{joined_marks}
use Rattle.latch_table.specs.Rule.{HasMet}
use Rattle.framed_journal.proofs.HoldLaws.{slots-few}
use Rattle.shared_store.specs.Chronicles.Steps.{marks_with, count_kept}
use Rattle.shared_store.specs.Chronicles.View.{has_transaction, marks_of, notes_of}
use Rattle.shared_store.specs.declared.refused.Refused.{Refused}
use Rattle.shared_store.specs.Passes.{Known, AreMarked}
use Rattle.shared_store.specs.Calls.{GoesOnAs, DoesStepOn, KeepsNoted, MakesStep, entered_by_step, marked_by_step, found_by_step, refused_by_step}
use Rattle.shared_store.proofs.Acting.{acts-seen, has-journal}
use Rattle.shared_store.proofs.Passing.{IsDone, done-comes, done-pass, met-pass}
use Rattle.shared_store.proofs.Steps.{again-stepped, again-unrefused, again-met, step-drop, marked-step, txn-step}
use Rattle.logged_journal.specs.View.{LoggedView}
use Rattle.shared_store.specs.Chronicles.Since.{OpensSince}
use Rattle.shared_store.proofs.store.Store.abort_step.Goals as goal

-- ---- another pass has the log word

pub invariant_of-pass : goal.invariant_of-pass
invariant_of-pass g c =
    let held = c.in-Err.ensures.held in
    met-pass c.pass.inside.hold c.claim_log.new.hold c.pass.inside.main c.pass.inside.number c.pass.inside.has_txn c.pass.inside.seen c.pass.inside.refused c.pass.inside.left c.pass.invariant
    (c.in-Err.ensures.of ∙ ap (λ z. z.table) c.self.view_is ∙ sym (ap (λ z. z.table) c.pass.view_is ∙ c.requires.of))
    c.in-Err.found.word c.in-Err.found.seat (subst (λ (n : ℕ). HasMet c.pass.inside.hold.view c.claim_log.new.hold.view n c.in-Err.found.seat) (sym held.0) held.2) held.1

pub returns-in-Err-clause-knows : goal.returns-in-Err-clause-knows
returns-in-Err-clause-knows g c =
    let held = c.in-Err.ensures.held in
    let is : c.pass.inside.hold.view ≡ c.args.pass.now.view = ap (λ z. z.view) c.pass.view_is in
    subst (λ (v : Known g.row.SLOTS). GoesOnAs v c.claim_log.new.hold.view (entered_by_step v.station.name (Err c.again.result)) (found_by_step (Err c.again.result))) is
    (again-stepped c.pass.inside.hold.view.station.name c.again.result c.in-Err.found.word c.in-Err.found.seat c.again.ensures c.pass.inside.hold.view c.claim_log.new.hold.view c.pass.invariant.none
    (subst (λ (n : ℕ). HasMet c.pass.inside.hold.view c.claim_log.new.hold.view n c.in-Err.found.seat) (sym held.0) held.2) held.1)

pub returns-in-Err-clause-refused : goal.returns-in-Err-clause-refused
returns-in-Err-clause-refused g c =
    again-unrefused c.args.pass.now.view.station.name c.again.result c.in-Err.found.word c.in-Err.found.seat c.again.ensures c.pass.inside.refused
    ∙ ap (λ x. refused_by_step (Err c.again.result) x) (ap (λ z. z.refused) c.pass.view_is)

pub returns-in-Err-clause-made : goal.returns-in-Err-clause-made
returns-in-Err-clause-made g c = λ none. absurd (again-met c.args.pass.now.view.station.name c.again.result c.in-Err.found.word c.in-Err.found.seat c.again.ensures none)

-- ---- the pass has it

pub act_abort_step-step-requires-after_bounds : goal.act_abort_step-step-requires-after_bounds
act_abort_step-step-requires-after_bounds g c κs within =
    let small : g.row.SLOTS ≤ 14 = slots-few g.row.SLOTS c.self.invariant.size in
    let p = c.pass.invariant in
    let later = c.in-Ok.ensures.ok.1 in (
      search rules,
      (
        search rules,
        (
          search rules,
          (
            search rules,
            (
              search rules,
              (
                c.in-Ok.ensures.of ∙ ap (λ z. z.table) c.self.view_is,
                (
                  (has-journal c.pass.inside.hold c.pass.inside.main c.pass.inside.number c.pass.inside.has_txn c.pass.inside.seen c.pass.inside.refused c.pass.inside.left c.args.self.now.pages c.claim_log.new.hold.view c.in-Ok.journal c.pass.invariant
                      (ap (λ t. t.slots) (ap (λ z. z.table) c.pass.view_is ∙ c.requires.of ∙ sym (ap (λ z. z.table) c.self.view_is)) ∙ c.self.invariant.sized ∙ ap (λ z. z.pages + 1) c.self.view_is)
                      c.in-Ok.ensures.ok.1 c.in-Ok.ensures.ok.0),
                  (
                    (c.new-held.ensures, ap (λ (v : Known g.row.SLOTS). v.hands.pages) c.in-Ok.ensures.ok.0 ∙ p.none.0),
                    (
                        ap (has_transaction (notes_of c.in-Ok.journal)) p.number_is ∙ (sym later.truth ∙ (ap (λ z. z.view.knowledge.truth) c.pass.view_is ∙ c.requires.active))),
                  ),
                ),
              ),
            ),
          ),
        ),
      ),
    )

pub finish-pass-inside-requires-after_bounds : goal.finish-pass-inside-requires-after_bounds
finish-pass-inside-requires-after_bounds g c κs within =
    let small : g.row.SLOTS ≤ 14 = slots-few g.row.SLOTS c.self.invariant.size in
    let p = c.pass.invariant in
    let r = c.act_abort_step-step.result in
    let v = c.claim_log.new.hold.view in
    let w = c.act_abort_step-step.new.hold.view in
    let claim = c.in-Ok.ensures.ok.0 in
    let since = c.act_abort_step-step.ensures.since c.args.self.now.began (subst (λ (v : LoggedView g.row.D.Denot). OpensSince g.D.Disk.moment g.D.Disk.left_since g.row.SLOTS v c.in-Ok.journal) (ap (λ z. z.began) c.self.view_is) c.in-Ok.ensures.on) in
    let acts = c.act_abort_step-step.ensures.acts in (
      search rules,
      (
        search rules,
        (
          search rules,
          (
            search rules,
            (
              search rules,
              (
                c.act_abort_step-step.ensures.of,
                (
                  step-drop g.row.SLOTS c.args.self.now.pages v w c.in-Ok.journal c.act_abort_step-step.new.journal c.act_abort_step-step.new.held c.pass.inside.number r c.is_entered-entered.result
                      (p.number_is ∙ sym (ap (λ (v : Known g.row.SLOTS). v.station.name) claim))
                      (has-journal c.pass.inside.hold c.pass.inside.main c.pass.inside.number c.pass.inside.has_txn c.pass.inside.seen c.pass.inside.refused c.pass.inside.left c.args.self.now.pages c.claim_log.new.hold.view c.in-Ok.journal c.pass.invariant
                      (ap (λ t. t.slots) (ap (λ z. z.table) c.pass.view_is ∙ c.requires.of ∙ sym (ap (λ z. z.table) c.self.view_is)) ∙ c.self.invariant.sized ∙ ap (λ z. z.pages + 1) c.self.view_is)
                      c.in-Ok.ensures.ok.1 c.in-Ok.ensures.ok.0)
                      acts (c.is_entered-entered.ensures c.pass.inside.number),
                  (
                    since,
                    p.seen_is ∙ sym (ap (λ (v : Known g.row.SLOTS). v.knowledge.seen) claim)
                        ∙ sym (acts-seen g.row.SLOTS v w c.in-Ok.journal c.act_abort_step-step.new.journal c.act_abort_step-step.new.held (entered_by_step c.pass.inside.number r) (marked_by_step r) (found_by_step r) acts),
                  ),
                ),
              ),
            ),
          ),
        ),
      ),
    )

pub invariant_of-pass-2 : goal.invariant_of-pass-2
invariant_of-pass-2 g c =
    let p = c.pass.invariant in
    let r = c.act_abort_step-step.result in
    let d : IsDone g.row.SLOTS c.pass.inside.hold.view c.finish-pass-inside.new.hold.view c.in-Ok.journal c.act_abort_step-step.new.journal (entered_by_step c.pass.inside.number r) (marked_by_step r) (found_by_step r)
    = record {
      claimed = c.claim_log.new.hold.view;
      worked = c.act_abort_step-step.new.hold.view;
      held = c.act_abort_step-step.new.held;
      tells = c.is_entered-entered.result;
      claim = c.in-Ok.ensures.ok.0;
      later = c.in-Ok.ensures.ok.1;
      acts = c.act_abort_step-step.ensures.acts;
      iff = c.is_entered-entered.ensures c.pass.inside.number;
      told = c.finish-pass-inside.ensures.told;
      same = c.finish-pass-inside.ensures.same;
    } in
    done-pass c.pass.inside.hold c.finish-pass-inside.new.hold c.pass.inside.main c.pass.inside.number c.pass.inside.has_txn c.pass.inside.seen c.pass.inside.refused c.pass.inside.left p
    (c.finish-pass-inside.ensures.of ∙ sym (ap (λ z. z.table) c.pass.view_is ∙ c.requires.of))
    c.in-Ok.journal c.act_abort_step-step.new.journal (entered_by_step c.pass.inside.number r) (marked_by_step r) (found_by_step r) c.has_after-pass-inside.result c.finish-pass-inside.result c.count_step.new.refused d
    (λ goes. txn-step c.pass.inside.hold.view c.finish-pass-inside.new.hold.view c.pass.inside.number r (found_by_step r) c.pass.inside.has_txn c.has_after-pass-inside.result p.number_is p.txn_is c.has_after-pass-inside.ensures goes)
    c.finish-pass-inside.ensures.seen
    (subst (λ (x : Refused). AreMarked x (joined_marks c.pass.inside.hold.view.knowledge.marks (joined_marks (marks_of c.in-Ok.journal) (marks_with (marked_by_step r) (count_kept c.act_abort_step-step.new.journal))))) (sym c.count_step.ensures)
    (marked-step c.pass.inside.refused (count_kept c.act_abort_step-step.new.journal) c.pass.inside.hold.view.knowledge.marks (marks_of c.in-Ok.journal) p.marked r))

pub returns-clause-knows : goal.returns-clause-knows
returns-clause-knows g c =
    let r = c.act_abort_step-step.result in
    let d : IsDone g.row.SLOTS c.pass.inside.hold.view c.finish-pass-inside.new.hold.view c.in-Ok.journal c.act_abort_step-step.new.journal (entered_by_step c.pass.inside.number r) (marked_by_step r) (found_by_step r)
    = record {
      claimed = c.claim_log.new.hold.view;
      worked = c.act_abort_step-step.new.hold.view;
      held = c.act_abort_step-step.new.held;
      tells = c.is_entered-entered.result;
      claim = c.in-Ok.ensures.ok.0;
      later = c.in-Ok.ensures.ok.1;
      acts = c.act_abort_step-step.ensures.acts;
      iff = c.is_entered-entered.ensures c.pass.inside.number;
      told = c.finish-pass-inside.ensures.told;
      same = c.finish-pass-inside.ensures.same;
    } in
    let is : c.pass.inside.hold.view ≡ c.args.pass.now.view = ap (λ z. z.view) c.pass.view_is in
    let comes = done-comes g.row.SLOTS c.pass.inside.hold.view c.finish-pass-inside.new.hold.view c.in-Ok.journal c.act_abort_step-step.new.journal (entered_by_step c.pass.inside.number r) (marked_by_step r) (found_by_step r) d in
    let goes = subst (λ (n : ℕ). GoesOnAs c.pass.inside.hold.view c.finish-pass-inside.new.hold.view (entered_by_step n r) (found_by_step r)) c.pass.invariant.number_is comes.goes in
    subst (λ (v : Known g.row.SLOTS). GoesOnAs v c.finish-pass-inside.new.hold.view (entered_by_step v.station.name r) (found_by_step r)) is goes

pub returns-clause-refused : goal.returns-clause-refused
returns-clause-refused g c = c.count_step.ensures ∙ ap (λ x. refused_by_step c.act_abort_step-step.result x) (ap (λ z. z.refused) c.pass.view_is)

pub returns-clause-made : goal.returns-clause-made
returns-clause-made g c = λ none.
    let r = c.act_abort_step-step.result in
    let is : c.pass.inside.hold.view ≡ c.args.pass.now.view = ap (λ z. z.view) c.pass.view_is in
    let d : IsDone g.row.SLOTS c.pass.inside.hold.view c.finish-pass-inside.new.hold.view c.in-Ok.journal c.act_abort_step-step.new.journal (entered_by_step c.pass.inside.number r) (marked_by_step r) (found_by_step r)
    = record {
      claimed = c.claim_log.new.hold.view;
      worked = c.act_abort_step-step.new.hold.view;
      held = c.act_abort_step-step.new.held;
      tells = c.is_entered-entered.result;
      claim = c.in-Ok.ensures.ok.0;
      later = c.in-Ok.ensures.ok.1;
      acts = c.act_abort_step-step.ensures.acts;
      iff = c.is_entered-entered.ensures c.pass.inside.number;
      told = c.finish-pass-inside.ensures.told;
      same = c.finish-pass-inside.ensures.same;
    } in
    let comes = done-comes g.row.SLOTS c.pass.inside.hold.view c.finish-pass-inside.new.hold.view c.in-Ok.journal c.act_abort_step-step.new.journal (entered_by_step c.pass.inside.number r) (marked_by_step r) (found_by_step r) d in
    subst (λ (v : Known g.row.SLOTS). MakesStep g.row.D.Denot g.row.SLOTS v c.finish-pass-inside.new.hold.view r) is
    (record {
      before = c.in-Ok.journal;
      after = c.act_abort_step-step.new.journal;
      later = c.in-Ok.ensures.ok.1;
      covered = c.in-Ok.ensures.once;
      found = comes.stories;
      kept = subst (λ (n : ℕ). KeepsNoted c.pass.inside.hold.view c.finish-pass-inside.new.hold.view c.in-Ok.journal c.act_abort_step-step.new.journal (entered_by_step n r)) c.pass.invariant.number_is comes.noted;
      made = subst (λ (n : ℕ). DoesStepOn g.row.SLOTS c.in-Ok.journal c.act_abort_step-step.new.journal n r) c.pass.invariant.number_is (c.act_abort_step-step.ensures.made none);
    })
