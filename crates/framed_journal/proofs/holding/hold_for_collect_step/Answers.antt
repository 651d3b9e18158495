use Rattle.std.proofs.Common.{rules, ap, sym, ◌∙◌, ◌≤◌, ◌≡◌}
use Rattle.core_store.specs.JournalView.{cells_of}
use Rattle.framed_journal.proofs.HoldLaws.{slots-few}
use Rattle.framed_journal.proofs.WholeLaws.{in-whole, in-few, in-size, in-looked, held-for-whole, held-for-few, whole-agree, whole-holds, lt-more, lt-few}
use Rattle.framed_journal.proofs.holding.hold_for_collect_step.Goals as goal

pub look_on-requires : goal.look_on-requires
look_on-requires g c =
    let small : g.row.SLOTS ≤ 14 = slots-few g.row.SLOTS (in-size c.requires.frames).1 in
    let w = in-whole c.requires.frames (lt-more (sym c.is_whole.ensures ∙ c.if-is_whole.true)) in
    (search rules, (search rules, (search rules, (whole-agree w, whole-holds w))))

pub hold_for_looks-requires : goal.hold_for_looks-requires
hold_for_looks-requires g c =
    let small : g.row.SLOTS ≤ 14 = slots-few g.row.SLOTS (in-size c.requires.frames).1 in
    let few = in-few c.requires.frames (lt-few (sym c.is_whole.ensures ∙ c.if-is_whole.false)) in
    (search rules, (search rules, (search rules, (search rules, (few.1, few.0)))))

pub returns-then-is_whole-clause-held : goal.returns-then-is_whole-clause-held
returns-then-is_whole-clause-held g c =
    held-for-whole (in-whole (in-looked c.look_on.new.self.journal c.look_on.ensures.looks.same c.requires.frames) (lt-more (sym c.is_whole.ensures ∙ c.if-is_whole.true)))
