use Rattle.std.proofs.Common.{◌≡◌, ◌≤◌, ℕ, ◌+◌, None, Some, List, [], sym, ap, subst, ◌∙◌, rules}
use Rattle.core_store.specs.declared.three.HeldFrame.{HeldFrame}
use Rattle.latch_table.specs.Views.{joined_marks}
use Rattle.latch_table.specs.Rule.{HasMet}
use Rattle.framed_journal.proofs.HoldLaws.{slots-few}
use Rattle.shared_store.specs.Chronicles.Steps.{marks_with, count_kept}
use Rattle.shared_store.specs.Chronicles.View.{marks_of}
use Rattle.shared_store.specs.declared.refused.Refused.{Refused}
use Rattle.shared_store.specs.Passes.{Known, AreMarked}
use Rattle.shared_store.specs.Acts.{IsToDrop}
use Rattle.shared_store.specs.Calls.{GoesOnAs}
use Rattle.shared_store.specs.Upkeep.{entered_by_upkeep_of, marked_by_upkeep_of, found_by_upkeep}
use Rattle.shared_store.proofs.Acting.{has-journal, to-drop}
use Rattle.shared_store.proofs.Kept.{act-seen, upkeep-speaks, txn-upkeep, marked-upkeep}
use Rattle.shared_store.proofs.Goings.{found-log}
use Rattle.shared_store.proofs.Passing.{done-comes, done-pass, met-pass}
use Rattle.shared_store.proofs.Upkeeps.{makes-clean}
use Rattle.logged_journal.specs.View.{LoggedView}
use Rattle.shared_store.specs.Chronicles.Since.{OpensSince}
use Rattle.shared_store.proofs.store.Store.clean.Goals as goal

-- ---- another pass has the log word

pub invariant_of-pass : goal.invariant_of-pass
invariant_of-pass g c =
    let held = c.in-Err.ensures.held in
    met-pass c.pass.inside.hold c.claim_log.new.hold c.pass.inside.main c.pass.inside.number c.pass.inside.has_txn c.pass.inside.seen c.pass.inside.refused c.pass.inside.left c.pass.invariant
    (c.in-Err.ensures.of ∙ ap (λ z. z.table) c.self.view_is ∙ sym (ap (λ z. z.table) c.pass.view_is ∙ c.requires.of))
    c.in-Err.found.word c.in-Err.found.seat (subst (λ (n : ℕ). HasMet c.pass.inside.hold.view c.claim_log.new.hold.view n c.in-Err.found.seat) (sym held.0) held.2) held.1

pub returns-in-Err-clause-knows : goal.returns-in-Err-clause-knows
returns-in-Err-clause-knows g c =
    let held = c.in-Err.ensures.held in
    let is : c.pass.inside.hold.view ≡ c.args.pass.now.view = ap (λ z. z.view) c.pass.view_is in
    subst (λ (v : Known g.row.SLOTS). GoesOnAs v c.claim_log.new.hold.view None (Some (c.in-Err.found.word, c.in-Err.found.seat))) is
    (found-log c.pass.inside.hold.view c.claim_log.new.hold.view c.in-Err.found.word c.in-Err.found.seat c.pass.invariant.none (subst (λ (n : ℕ). HasMet c.pass.inside.hold.view c.claim_log.new.hold.view n c.in-Err.found.seat) (sym held.0) held.2) held.1)

-- ---- it has it itself

pub act_clean-answer-requires-after_bounds : goal.act_clean-answer-requires-after_bounds
act_clean-answer-requires-after_bounds g c κs within =
    let small : g.row.SLOTS ≤ 14 = slots-few g.row.SLOTS c.self.invariant.size in
    let has = has-journal c.pass.inside.hold c.pass.inside.main c.pass.inside.number c.pass.inside.has_txn c.pass.inside.seen c.pass.inside.refused c.pass.inside.left c.args.self.now.pages c.claim_log.new.hold.view c.in-Ok.journal
    c.pass.invariant
    (ap (λ t. t.slots) (ap (λ z. z.table) c.pass.view_is ∙ (c.requires.of ∙ sym (ap (λ z. z.table) c.self.view_is))) ∙ (c.self.invariant.sized ∙ ap (λ z. z.pages + 1) c.self.view_is))
    c.in-Ok.ensures.ok.1 c.in-Ok.ensures.ok.0 in
    (search rules, (search rules, (search rules, (search rules, (c.in-Ok.ensures.of ∙ ap (λ z. z.table) c.self.view_is, (has, (c.requires.page, ap (λ v. v.hands.pages) c.in-Ok.ensures.ok.0 ∙ c.pass.invariant.none.0)))))))

pub finish-pass-inside-requires-after_bounds : goal.finish-pass-inside-requires-after_bounds
finish-pass-inside-requires-after_bounds g c κs within =
    let small : g.row.SLOTS ≤ 14 = slots-few g.row.SLOTS c.self.invariant.size in
    let r = c.act_clean-answer.result in
    let a = c.act_clean-answer.ensures.acts in
    let v1 = c.claim_log.new.hold.view in
    let w = c.act_clean-answer.new.hold.view in
    let has = has-journal c.pass.inside.hold c.pass.inside.main c.pass.inside.number c.pass.inside.has_txn c.pass.inside.seen c.pass.inside.refused c.pass.inside.left c.args.self.now.pages c.claim_log.new.hold.view c.in-Ok.journal
    c.pass.invariant
    (ap (λ t. t.slots) (ap (λ z. z.table) c.pass.view_is ∙ (c.requires.of ∙ sym (ap (λ z. z.table) c.self.view_is))) ∙ (c.self.invariant.sized ∙ ap (λ z. z.pages + 1) c.self.view_is))
    c.in-Ok.ensures.ok.1 c.in-Ok.ensures.ok.0 in
    let drop = subst (λ (hs : List (HeldFrame g.row.SLOTS)). IsToDrop g.row.SLOTS c.args.self.now.pages w c.act_clean-answer.new.journal hs c.is_entered-entered.result) (sym c.new-held.ensures)
    (to-drop g.row.SLOTS c.args.self.now.pages v1 w c.in-Ok.journal c.act_clean-answer.new.journal [] (marked_by_upkeep_of r) (found_by_upkeep r) has (entered_by_upkeep_of r) c.is_entered-entered.result a c.is_entered-entered.ensures (upkeep-speaks v1.station.name r)) in
    let seen = c.pass.invariant.seen_is ∙ (sym (ap (λ v. v.knowledge.seen) c.in-Ok.ensures.ok.0) ∙ sym (act-seen g.row.SLOTS v1 w c.in-Ok.journal c.act_clean-answer.new.journal [] (entered_by_upkeep_of r) (marked_by_upkeep_of r) (found_by_upkeep r) a)) in
    let since = c.act_clean-answer.ensures.since c.args.self.now.began (subst (λ (v : LoggedView g.row.D.Denot). OpensSince g.D.Disk.moment g.D.Disk.left_since g.row.SLOTS v c.in-Ok.journal) (ap (λ z. z.began) c.self.view_is) c.in-Ok.ensures.on) in
    (search rules, (search rules, (search rules, (search rules, (search rules, (c.act_clean-answer.ensures.of, (drop, (since, seen))))))))

pub invariant_of-pass-2 : goal.invariant_of-pass-2
invariant_of-pass-2 g c =
    let p = c.pass.invariant in
    let r = c.act_clean-answer.result in
    done-pass c.pass.inside.hold c.finish-pass-inside.new.hold c.pass.inside.main c.pass.inside.number c.pass.inside.has_txn c.pass.inside.seen c.pass.inside.refused c.pass.inside.left p
    (c.finish-pass-inside.ensures.of ∙ sym (ap (λ z. z.table) c.pass.view_is ∙ c.requires.of))
    c.in-Ok.journal c.act_clean-answer.new.journal (entered_by_upkeep_of r) (marked_by_upkeep_of r) (found_by_upkeep r) c.pass.inside.has_txn c.finish-pass-inside.result c.count_answer.new.refused (record { claimed = c.claim_log.new.hold.view; worked = c.act_clean-answer.new.hold.view; held = []; tells = c.is_entered-entered.result; claim = c.in-Ok.ensures.ok.0; later = c.in-Ok.ensures.ok.1; acts = c.act_clean-answer.ensures.acts; iff = c.is_entered-entered.ensures; told = c.finish-pass-inside.ensures.told; same = c.finish-pass-inside.ensures.same })
    (λ goes. txn-upkeep c.pass.inside.hold.view c.finish-pass-inside.new.hold.view r (found_by_upkeep r) c.pass.inside.has_txn p.txn_is goes)
    c.finish-pass-inside.ensures.seen
    (subst (λ (x : Refused). AreMarked x (joined_marks c.pass.inside.hold.view.knowledge.marks (joined_marks (marks_of c.in-Ok.journal) (marks_with (marked_by_upkeep_of r) (count_kept c.act_clean-answer.new.journal))))) (sym c.count_answer.ensures)
    (marked-upkeep c.pass.inside.refused (count_kept c.act_clean-answer.new.journal) c.pass.inside.hold.view.knowledge.marks (marks_of c.in-Ok.journal) p.marked r))

pub returns-clause-knows : goal.returns-clause-knows
returns-clause-knows g c =
    let r = c.act_clean-answer.result in
    let is : c.pass.inside.hold.view ≡ c.args.pass.now.view = ap (λ z. z.view) c.pass.view_is in
    let comes = done-comes g.row.SLOTS c.pass.inside.hold.view c.finish-pass-inside.new.hold.view c.in-Ok.journal c.act_clean-answer.new.journal (entered_by_upkeep_of r) (marked_by_upkeep_of r) (found_by_upkeep r) (record { claimed = c.claim_log.new.hold.view; worked = c.act_clean-answer.new.hold.view; held = []; tells = c.is_entered-entered.result; claim = c.in-Ok.ensures.ok.0; later = c.in-Ok.ensures.ok.1; acts = c.act_clean-answer.ensures.acts; iff = c.is_entered-entered.ensures; told = c.finish-pass-inside.ensures.told; same = c.finish-pass-inside.ensures.same }) in
    subst (λ (v : Known g.row.SLOTS). GoesOnAs v c.finish-pass-inside.new.hold.view (entered_by_upkeep_of r) (found_by_upkeep r)) is comes.goes

pub returns-clause-made : goal.returns-clause-made
returns-clause-made g c =
    let r = c.act_clean-answer.result in
    let is : c.pass.inside.hold.view ≡ c.args.pass.now.view = ap (λ z. z.view) c.pass.view_is in
    let comes = done-comes g.row.SLOTS c.pass.inside.hold.view c.finish-pass-inside.new.hold.view c.in-Ok.journal c.act_clean-answer.new.journal (entered_by_upkeep_of r) (marked_by_upkeep_of r) (found_by_upkeep r) (record { claimed = c.claim_log.new.hold.view; worked = c.act_clean-answer.new.hold.view; held = []; tells = c.is_entered-entered.result; claim = c.in-Ok.ensures.ok.0; later = c.in-Ok.ensures.ok.1; acts = c.act_clean-answer.ensures.acts; iff = c.is_entered-entered.ensures; told = c.finish-pass-inside.ensures.told; same = c.finish-pass-inside.ensures.same }) in
    makes-clean g.row.SLOTS g.D.Disk.faults g.D.Disk.may_leave g.D.Disk.moment g.D.Disk.left_since c.pass.inside.hold.view c.args.pass.now.view c.finish-pass-inside.new.hold.view c.in-Ok.journal c.act_clean-answer.new.journal c.args.page r is (record { later = c.in-Ok.ensures.ok.1; covered = c.in-Ok.ensures.once; found = comes.stories; kept = comes.noted }) c.act_clean-answer.ensures.noted c.act_clean-answer.ensures.made c.act_clean-answer.ensures.opens
