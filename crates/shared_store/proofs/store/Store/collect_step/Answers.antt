use Rattle.std.proofs.Common.{◌≡◌, ◌≤◌, ℕ, ◌+◌, Err, [], ◌∷◌, ◌++◌, sym, ap, subst, ◌∙◌, rules}
use Rattle.latch_table.specs.Views.{joined_marks}
use Rattle.latch_table.specs.Rule.{HasMet}
use Rattle.framed_journal.proofs.HoldLaws.{slots-few}
use Rattle.shared_store.specs.Chronicles.Steps.{marks_with, count_kept}
use Rattle.shared_store.specs.Chronicles.View.{marks_of}
use Rattle.shared_store.specs.declared.answers.CollectRefusal.{CollectRefusal}
use Rattle.shared_store.specs.declared.refused.Refused.{Refused}
use Rattle.shared_store.specs.Passes.{Known, AreMarked}
use Rattle.shared_store.specs.Calls.{GoesOnAs, MakesCollect, entered_by_collecting, marked_by_collecting, found_by_collecting}
use Rattle.shared_store.proofs.Acting.{has-journal, to-drop}
use Rattle.shared_store.proofs.Collects.{collect-act, collect-speaks, keeps-more, txn-collect, marked-collect}
use Rattle.shared_store.proofs.Kept.{act-seen}
use Rattle.shared_store.proofs.Goings.{found-log}
use Rattle.shared_store.proofs.Passing.{done-comes, done-pass, met-pass}
use Rattle.logged_journal.specs.View.{LoggedView}
use Rattle.shared_store.specs.Chronicles.Since.{OpensSince}
use Rattle.shared_store.proofs.store.Store.collect_step.Goals as goal

-- ---- another pass has the log word

pub invariant_of-pass : goal.invariant_of-pass
invariant_of-pass g c =
    let held = c.in-Err.ensures.held in
    met-pass c.pass.inside.hold c.claim_log.new.hold c.pass.inside.main c.pass.inside.number c.pass.inside.has_txn c.pass.inside.seen c.pass.inside.refused c.pass.inside.left c.pass.invariant
    (c.in-Err.ensures.of ∙ ap (λ z. z.table) c.self.view_is ∙ sym (ap (λ z. z.table) c.pass.view_is ∙ c.requires.of))
    c.in-Err.found.word c.in-Err.found.seat (subst (λ (n : ℕ). HasMet c.pass.inside.hold.view c.claim_log.new.hold.view n c.in-Err.found.seat) (sym held.0) held.2) held.1

pub returns-in-Err-clause-knows : goal.returns-in-Err-clause-knows
returns-in-Err-clause-knows g c =
    let held = c.in-Err.ensures.held in
    let is : c.pass.inside.hold.view ≡ c.args.pass.now.view = ap (λ z. z.view) c.pass.view_is in
    subst (λ (v : Known g.row.SLOTS). GoesOnAs v c.claim_log.new.hold.view (entered_by_collecting (Err c.again.result)) (found_by_collecting (Err c.again.result))) is
    (subst (λ (x : CollectRefusal). GoesOnAs c.pass.inside.hold.view c.claim_log.new.hold.view (entered_by_collecting (Err x)) (found_by_collecting (Err x))) (sym c.again.ensures)
    (found-log c.pass.inside.hold.view c.claim_log.new.hold.view c.in-Err.found.word c.in-Err.found.seat c.pass.invariant.none (subst (λ (n : ℕ). HasMet c.pass.inside.hold.view c.claim_log.new.hold.view n c.in-Err.found.seat) (sym held.0) held.2) held.1))

-- ---- it has it itself

pub act_collect_step-step-requires-after_bounds : goal.act_collect_step-step-requires-after_bounds
act_collect_step-step-requires-after_bounds g c κs within =
    let small : g.row.SLOTS ≤ 14 = slots-few g.row.SLOTS c.self.invariant.size in
    let has = has-journal c.pass.inside.hold c.pass.inside.main c.pass.inside.number c.pass.inside.has_txn c.pass.inside.seen c.pass.inside.refused c.pass.inside.left c.args.self.now.pages c.claim_log.new.hold.view c.in-Ok.journal
    c.pass.invariant
    (ap (λ t. t.slots) (ap (λ z. z.table) c.pass.view_is ∙ (c.requires.of ∙ sym (ap (λ z. z.table) c.self.view_is))) ∙ (c.self.invariant.sized ∙ ap (λ z. z.pages + 1) c.self.view_is))
    c.in-Ok.ensures.ok.1 c.in-Ok.ensures.ok.0 in
    (search rules, (search rules, (search rules, (search rules, (search rules, (c.in-Ok.ensures.of ∙ ap (λ z. z.table) c.self.view_is, (has, (c.new-held.ensures, ap (λ v. v.hands.pages) c.in-Ok.ensures.ok.0 ∙ c.pass.invariant.none.0))))))))

pub finish-pass-inside-requires-after_bounds : goal.finish-pass-inside-requires-after_bounds
finish-pass-inside-requires-after_bounds g c κs within =
    let small : g.row.SLOTS ≤ 14 = slots-few g.row.SLOTS c.self.invariant.size in
    let r = c.act_collect_step-step.result in
    let a = c.act_collect_step-step.ensures.acts in
    let v1 = c.claim_log.new.hold.view in
    let w = c.act_collect_step-step.new.hold.view in
    let has = has-journal c.pass.inside.hold c.pass.inside.main c.pass.inside.number c.pass.inside.has_txn c.pass.inside.seen c.pass.inside.refused c.pass.inside.left c.args.self.now.pages c.claim_log.new.hold.view c.in-Ok.journal
    c.pass.invariant
    (ap (λ t. t.slots) (ap (λ z. z.table) c.pass.view_is ∙ (c.requires.of ∙ sym (ap (λ z. z.table) c.self.view_is))) ∙ (c.self.invariant.sized ∙ ap (λ z. z.pages + 1) c.self.view_is))
    c.in-Ok.ensures.ok.1 c.in-Ok.ensures.ok.0 in
    let drop = to-drop g.row.SLOTS c.args.self.now.pages v1 w c.in-Ok.journal c.act_collect_step-step.new.journal c.act_collect_step-step.new.held (marked_by_collecting r) (found_by_collecting r) has (entered_by_collecting r) c.is_entered-entered.result a c.is_entered-entered.ensures (collect-speaks v1.station.name r) in
    let seen = c.pass.invariant.seen_is ∙ (sym (ap (λ v. v.knowledge.seen) c.in-Ok.ensures.ok.0) ∙ sym (act-seen g.row.SLOTS v1 w c.in-Ok.journal c.act_collect_step-step.new.journal c.act_collect_step-step.new.held (entered_by_collecting r) (marked_by_collecting r) (found_by_collecting r) a)) in
    let since = c.act_collect_step-step.ensures.since c.args.self.now.began (subst (λ (v : LoggedView g.row.D.Denot). OpensSince g.D.Disk.moment g.D.Disk.left_since g.row.SLOTS v c.in-Ok.journal) (ap (λ z. z.began) c.self.view_is) c.in-Ok.ensures.on) in
    (search rules, (search rules, (search rules, (search rules, (search rules, (c.act_collect_step-step.ensures.of, (drop, (since, seen))))))))

pub invariant_of-pass-2 : goal.invariant_of-pass-2
invariant_of-pass-2 g c =
    let p = c.pass.invariant in
    let r = c.act_collect_step-step.result in
    done-pass c.pass.inside.hold c.finish-pass-inside.new.hold c.pass.inside.main c.pass.inside.number c.pass.inside.has_txn c.pass.inside.seen c.pass.inside.refused c.pass.inside.left p
    (c.finish-pass-inside.ensures.of ∙ sym (ap (λ z. z.table) c.pass.view_is ∙ c.requires.of))
    c.in-Ok.journal c.act_collect_step-step.new.journal (entered_by_collecting r) (marked_by_collecting r) (found_by_collecting r) c.pass.inside.has_txn c.finish-pass-inside.result c.count_step.new.refused (record { claimed = c.claim_log.new.hold.view; worked = c.act_collect_step-step.new.hold.view; held = c.act_collect_step-step.new.held; tells = c.is_entered-entered.result; claim = c.in-Ok.ensures.ok.0; later = c.in-Ok.ensures.ok.1; acts = c.act_collect_step-step.ensures.acts; iff = c.is_entered-entered.ensures; told = c.finish-pass-inside.ensures.told; same = c.finish-pass-inside.ensures.same })
    (λ goes. txn-collect c.pass.inside.hold.view c.finish-pass-inside.new.hold.view r (found_by_collecting r) c.pass.inside.has_txn p.txn_is goes)
    c.finish-pass-inside.ensures.seen
    (subst (λ (x : Refused). AreMarked x (joined_marks c.pass.inside.hold.view.knowledge.marks (joined_marks (marks_of c.in-Ok.journal) (marks_with (marked_by_collecting r) (count_kept c.act_collect_step-step.new.journal))))) (sym c.count_step.ensures)
    (marked-collect c.pass.inside.refused (count_kept c.act_collect_step-step.new.journal) c.pass.inside.hold.view.knowledge.marks (marks_of c.in-Ok.journal) p.marked r))

pub returns-clause-knows : goal.returns-clause-knows
returns-clause-knows g c =
    let r = c.act_collect_step-step.result in
    let is : c.pass.inside.hold.view ≡ c.args.pass.now.view = ap (λ z. z.view) c.pass.view_is in
    let comes = done-comes g.row.SLOTS c.pass.inside.hold.view c.finish-pass-inside.new.hold.view c.in-Ok.journal c.act_collect_step-step.new.journal (entered_by_collecting r) (marked_by_collecting r) (found_by_collecting r) (record { claimed = c.claim_log.new.hold.view; worked = c.act_collect_step-step.new.hold.view; held = c.act_collect_step-step.new.held; tells = c.is_entered-entered.result; claim = c.in-Ok.ensures.ok.0; later = c.in-Ok.ensures.ok.1; acts = c.act_collect_step-step.ensures.acts; iff = c.is_entered-entered.ensures; told = c.finish-pass-inside.ensures.told; same = c.finish-pass-inside.ensures.same }) in
    subst (λ (v : Known g.row.SLOTS). GoesOnAs v c.finish-pass-inside.new.hold.view (entered_by_collecting r) (found_by_collecting r)) is comes.goes

pub returns-clause-made : goal.returns-clause-made
returns-clause-made g c = λ none.
    let r = c.act_collect_step-step.result in
    let is : c.pass.inside.hold.view ≡ c.args.pass.now.view = ap (λ z. z.view) c.pass.view_is in
    let comes = done-comes g.row.SLOTS c.pass.inside.hold.view c.finish-pass-inside.new.hold.view c.in-Ok.journal c.act_collect_step-step.new.journal (entered_by_collecting r) (marked_by_collecting r) (found_by_collecting r) (record { claimed = c.claim_log.new.hold.view; worked = c.act_collect_step-step.new.hold.view; held = c.act_collect_step-step.new.held; tells = c.is_entered-entered.result; claim = c.in-Ok.ensures.ok.0; later = c.in-Ok.ensures.ok.1; acts = c.act_collect_step-step.ensures.acts; iff = c.is_entered-entered.ensures; told = c.finish-pass-inside.ensures.told; same = c.finish-pass-inside.ensures.same }) in
    subst (λ (v : Known g.row.SLOTS). MakesCollect g.row.D.Denot g.row.SLOTS v c.finish-pass-inside.new.hold.view r) is
    (record {
      before = c.in-Ok.journal;
      after = c.act_collect_step-step.new.journal;
      later = c.in-Ok.ensures.ok.1;
      covered = c.in-Ok.ensures.once;
      found = comes.stories;
      kept = comes.noted;
      made = c.act_collect_step-step.ensures.made none;
    })

-- ---- the note that it entered

pub returns-in-Err-clause-act : goal.returns-in-Err-clause-act
returns-in-Err-clause-act g c = λ kept more other.
    let held = c.in-Err.ensures.held in
    let same = ap (λ (v : Known g.row.SLOTS). v.knowledge.entries) held.2.2 ∙ ap (λ z. z.view.knowledge.entries) c.pass.view_is in
    keeps-more c.args.pass.now.view.knowledge.entries c.claim_log.new.hold.view.knowledge.entries kept same more

pub returns-clause-act : goal.returns-clause-act
returns-clause-act g c = λ kept more other.
    let r = c.act_collect_step-step.result in
    let is : c.pass.inside.hold.view ≡ c.args.pass.now.view = ap (λ z. z.view) c.pass.view_is in
    let comes = done-comes g.row.SLOTS c.pass.inside.hold.view c.finish-pass-inside.new.hold.view c.in-Ok.journal c.act_collect_step-step.new.journal (entered_by_collecting r) (marked_by_collecting r) (found_by_collecting r) (record { claimed = c.claim_log.new.hold.view; worked = c.act_collect_step-step.new.hold.view; held = c.act_collect_step-step.new.held; tells = c.is_entered-entered.result; claim = c.in-Ok.ensures.ok.0; later = c.in-Ok.ensures.ok.1; acts = c.act_collect_step-step.ensures.acts; iff = c.is_entered-entered.ensures; told = c.finish-pass-inside.ensures.told; same = c.finish-pass-inside.ensures.same }) in
    collect-act g.row.SLOTS c.pass.inside.hold.view c.finish-pass-inside.new.hold.view c.in-Ok.journal c.act_collect_step-step.new.journal kept
    (more ∙ ap (λ (v : Known g.row.SLOTS). v.knowledge.entries ++ kept ∷ []) (sym is))
    r (found_by_collecting r) comes.goes comes.noted c.act_collect_step-step.ensures.made other
