use Rattle.std.proofs.Common.{rules, ap, sym, ◌∙◌, ℕ, List, ◌≤◌, ◌≡◌}
use Rattle.plain_model.specs.History.{end_of}
use Rattle.core_store.specs.declared.want.Want.TheVariants.{Ready}
use Rattle.core_store.specs.JournalView.{cells_of}
use Rattle.core_store.specs.Frames.{pages_held}
use Rattle.core_store.specs.Limited.{pages_for_call}
use Rattle.core_store.specs.Logged.{want_of}
use Rattle.core_store.specs.Replaced.{next_to_restore}
use Rattle.core_store.proofs.WantLaws.{ready-has, all-has}
use Rattle.framed_journal.proofs.HoldLaws.{slots-few}
use Rattle.framed_journal.proofs.WholeLaws.{in-whole, in-few, in-size, held-for-whole, held-for-few, whole-holds, lt-more, lt-few}
use Rattle.framed_journal.proofs.holding.hold_for_call.Goals as goal

pub returns-then-is_whole-clause-held : goal.returns-then-is_whole-clause-held
returns-then-is_whole-clause-held g c = held-for-whole (in-whole c.requires.frames (lt-more (sym c.is_whole.ensures ∙ c.if-is_whole.true)))

pub returns-then-is_whole-clause-ready : goal.returns-then-is_whole-clause-ready
returns-then-is_whole-clause-ready g c =
    all-has c.args.journal.now.history.ids (pages_for_call c.args.journal.now c.args.client c.args.call.now) c.args.held.now (whole-holds (in-whole c.requires.frames (lt-more (sym c.is_whole.ensures ∙ c.if-is_whole.true))))

pub hold-requires : goal.hold-requires
hold-requires g c =
    let small : g.row.SLOTS ≤ 14 = slots-few g.row.SLOTS (in-size c.requires.frames).1 in
    let few = in-few c.requires.frames (lt-few (sym c.is_whole.ensures ∙ c.if-is_whole.false)) in
    (search rules, (search rules, (search rules, (few.1, (few.0, c.work.ensures.works)))))

pub returns-clause-held : goal.returns-clause-held
returns-clause-held g c = held-for-few (in-few c.requires.frames (lt-few (sym c.is_whole.ensures ∙ c.if-is_whole.false))).0 c.hold.ensures.held c.hold.ensures.few

pub returns-clause-ready : goal.returns-clause-ready
returns-clause-ready g c =
    ready-has c.args.journal.now.history.ids (pages_for_call c.args.journal.now c.args.client c.args.call.now) c.hold.new.held
    (ap (λ (ps : List ℕ). want_of ps (pages_held c.hold.new.held)) (sym c.work.ensures.pages) ∙ c.hold.ensures.ready)
