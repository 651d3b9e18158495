use Rattle.std.proofs.Common.{◌≡◌, ℕ, ◌*◌, ◌<◌, ◌≤◌, length, refl, sym, ap, subst, ◌∙◌, arith}
use Rattle.std.specs.Prelude.{◌↔◌, is_some, IsSome, Option, Some, None}
use Rattle.plain_model.specs.History.{end_of}
use Rattle.plain_model.specs.Machine.{transaction_of}
use Rattle.cell_page.specs.Stored.{HoldsPage}
use Rattle.core_store.specs.declared.frame.Frame.{Frame}
use Rattle.core_store.specs.JournalView.{cells_of}
use Rattle.core_store.specs.Frames.{AllAgree}
use Rattle.logged_journal.specs.View.{LoggedView, history_of}
use Rattle.latch_table.specs.Rule.{MetClaimed}
use Rattle.latch_table.proofs.Frames.{some_is}
use Rattle.shared_store.specs.Chronicles.View.{Origin, origin_of, notes_of, marks_of, history_after, frame_after, has_transaction}
use Rattle.shared_store.specs.declared.refused.Refused.{Refused}
use Rattle.shared_store.specs.Passes.{Known, AreMarked}
use Rattle.shared_store.specs.Chronicles.Since.{OpensSince}
use Rattle.shared_store.proofs.store.Store.close.Goals as goal

some-kept : (a b : Option ℕ) → ((n : ℕ) → a ≡ Some n → b ≡ Some n) → IsSome a → IsSome b
some-kept (Some n) b kept s = ap is_some (kept n refl)
some-kept None b kept s = absurd (cc)

pub returns-clause-agree : goal.returns-clause-agree
returns-clause-agree g c =
    let whole = c.close-journal.ensures.whole in
    let of = c.main.invariant.of_store in
    let x : of.0 ≡ origin_of c.close-journal.result.0 = some_is of.0 (origin_of c.close-journal.result.0) (sym of.1 ∙ whole.later.fixed) in
    let ids : of.0.ids ≡ c.close-journal.result.0.journal.history.ids = ap (λ (o : Origin). o.ids) x in
    let table = ap (λ z. z.slots) (ap (λ z. z.table) c.main.view_is ∙ c.requires.of ∙ sym (ap (λ z. z.table) c.self.view_is)) in
    let sized = c.self.invariant.sized in
    let many = of.2 in
    let count = c.close-journal.ensures.count in
    let few : 8 * length c.close-journal.result.1.items ≤ c.close-journal.result.0.journal.history.ids = omega arith in
    subst (λ (v : LoggedView g.row.D.Denot). AllAgree (cells_of v.journal) c.close-journal.result.1.items) (sym c.into_logged.ensures) ((c.know_frames.ensures.all c.close-journal.result.1.items few).1 whole.frames)

pub returns-clause-marked : goal.returns-clause-marked
returns-clause-marked g c =
    let m : AreMarked c.args.main.refused c.main.inside.hold.view.knowledge.marks = subst (λ (r : Refused). AreMarked r c.main.inside.hold.view.knowledge.marks) (ap (λ z. z.refused) c.main.view_is) c.main.invariant.marked in
    let w = c.close-journal.ensures.whole.later.marked in
    subst (λ (v : LoggedView g.row.D.Denot). AreMarked c.args.main.refused (marks_of v)) (sym c.into_logged.ensures) (record { disk = λ p. some-kept c.main.inside.hold.view.knowledge.marks.0 _ w.0 (m.disk p); trace = λ p. w.1 (m.trace p); log = λ p. w.2 (m.log p) })

pub returns-clause-history : goal.returns-clause-history
returns-clause-history g c = subst (λ (v : LoggedView g.row.D.Denot). history_after g.row.SLOTS (origin_of v) (notes_of v) ≡ history_of v) (sym c.into_logged.ensures) c.know_history.ensures.history

pub returns-clause-clients : goal.returns-clause-clients
returns-clause-clients g c =
    subst (λ (v : LoggedView g.row.D.Denot). (client : ℕ) → has_transaction (notes_of v) client ≡ is_some (transaction_of (end_of (history_of v)).state client)) (sym c.into_logged.ensures) c.know_history.ensures.clients

pub returns-clause-page : goal.returns-clause-page
returns-clause-page g c =
    subst (λ (v : LoggedView g.row.D.Denot). (page : ℕ) (frame : Frame g.row.SLOTS) → 8 * page < v.journal.history.ids → HoldsPage (cells_of v.journal) page frame.page ↔ (frame ≡ frame_after g.row.SLOTS (origin_of v) (notes_of v) page)) (sym c.into_logged.ensures)
    c.know_frames.ensures.page

pub returns-clause-since : goal.returns-clause-since
returns-clause-since g c =
    subst (λ (v : LoggedView g.row.D.Denot). OpensSince g.D.Disk.moment g.D.Disk.left_since g.row.SLOTS c.args.self.began v) (sym c.into_logged.ensures)
    (subst (λ (v : LoggedView g.row.D.Denot). OpensSince g.D.Disk.moment g.D.Disk.left_since g.row.SLOTS v c.close-journal.result.0) (ap (λ z. z.began) c.self.view_is) c.close-journal.ensures.on)

pub returns-clause-met : goal.returns-clause-met
returns-clause-met g c =
    let seen = subst (λ (v : Known g.row.SLOTS). MetClaimed c.self.inside.latches.pages v) (ap (λ z. z.view) c.main.view_is) c.close-journal.ensures.met in
    subst (λ (n : ℕ). MetClaimed n c.args.main.view) (ap (λ z. z.pages) c.self.view_is) seen
