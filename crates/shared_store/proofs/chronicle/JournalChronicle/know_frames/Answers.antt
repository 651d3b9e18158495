use Rattle.std.proofs.Common.{◌≡◌, ◌*◌, ◌<◌, ◌≤◌, ℕ, List, Some, length, subst, sym, ◌∙◌}
use Rattle.std.specs.Prelude.{◌↔◌, slice_get}
use Rattle.cell_page.specs.Stored.{HoldsPage}
use Rattle.core_store.specs.declared.frame.Frame.{Frame}
use Rattle.core_store.specs.declared.three.HeldFrame.{HeldFrame}
use Rattle.core_store.specs.Frames.{Agree, AllAgree}
use Rattle.core_store.specs.JournalView.{cells_of}
use Rattle.logged_journal.specs.View.{LoggedView}
use Rattle.shared_store.specs.Chronicles.Pages.{AreShownBy, AreOfStore}
use Rattle.shared_store.specs.Chronicles.View.{origin_of, notes_of, frame_after}
use Rattle.shared_store.specs.Chronicles.Inside.{IsChronicle}
use Rattle.shared_store.proofs.Chronicles.Notes.{frame-exact, held-exact, all-exact}
use Rattle.shared_store.proofs.chronicle.JournalChronicle.know_frames.Goals as goal

pub returns-clause-page : goal.returns-clause-page
returns-clause-page g c =
    subst
    (λ (v : LoggedView g.row.D.Denot). (page : ℕ) (frame : Frame g.row.SLOTS) → 8 * page < v.journal.history.ids → HoldsPage (cells_of v.journal) page frame.page ↔ (frame ≡ frame_after g.row.SLOTS (origin_of v) (notes_of v) page))
    (c.as_ref-logged.ensures ∙ c.self.view_is)
    (let kept = (subst (λ v. IsChronicle g.row.SLOTS v) (sym c.as_ref-logged.ensures) c.self.invariant.kept) in frame-exact g.row.SLOTS c.as_ref-logged.result.now c.journal.ensures.slots kept.pages)

pub returns-clause-held : goal.returns-clause-held
returns-clause-held g c =
    subst
    (λ (v : LoggedView g.row.D.Denot). (held : List (HeldFrame g.row.SLOTS)) → AreOfStore v.journal.history.ids held → Agree (cells_of v.journal) held ↔ AreShownBy (frame_after g.row.SLOTS (origin_of v) (notes_of v)) held)
    (c.as_ref-logged.ensures ∙ c.self.view_is)
    (let kept = (subst (λ v. IsChronicle g.row.SLOTS v) (sym c.as_ref-logged.ensures) c.self.invariant.kept) in held-exact g.row.SLOTS c.as_ref-logged.result.now c.journal.ensures.slots kept.pages)

pub returns-clause-all : goal.returns-clause-all
returns-clause-all g c =
    subst
    (λ (v : LoggedView g.row.D.Denot). (frames : List (Frame g.row.SLOTS)) → 8 * length frames ≤ v.journal.history.ids
    → AllAgree (cells_of v.journal) frames ↔ ((page : ℕ) (frame : Frame g.row.SLOTS) → slice_get frames page ≡ Some frame → frame ≡ frame_after g.row.SLOTS (origin_of v) (notes_of v) page))
    (c.as_ref-logged.ensures ∙ c.self.view_is)
    (let kept = (subst (λ v. IsChronicle g.row.SLOTS v) (sym c.as_ref-logged.ensures) c.self.invariant.kept) in all-exact g.row.SLOTS c.as_ref-logged.result.now c.journal.ensures.slots kept.pages)
