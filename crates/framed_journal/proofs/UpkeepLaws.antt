-- Upkeep changes no cell, so the frames are the store's pages also after it.
use Rattle.std.proofs.Common.{◌≡◌, ◌⊎◌, ℕ, ◌*◌, ◌<◌, List, [], ◌∷◌, ◌++◌, Option, Some, None, IsSome, length, get_or, refl, sym, ap, ◌∙◌, subst}
use Rattle.std.specs.Prelude.{IfSome, true}
use Rattle.std.proofs.lemmas.List.{map-append}
use Rattle.plain_model.specs.declared.calls.Entry.{Entry}
use Rattle.cell_model.specs.Cells.{Cell}
use Rattle.cell_model.specs.Records.{Record, cells_after}
use Rattle.cell_page.specs.Stored.{HoldsPage}
use Rattle.restart_laws.proofs.ReopenLaws.{cells-append}
use Rattle.core_store.specs.declared.act.Act.TheVariants.{Other}
use Rattle.core_store.specs.declared.frame.Frame.{Frame}
use Rattle.core_store.specs.declared.note.Note.{Note}
use Rattle.core_store.specs.Frames.{AllAgree}
use Rattle.core_store.specs.JournalView.{JournalView, cells_of, logged_in}
use Rattle.core_store.specs.Upkeep.{with_upkeep}
use Rattle.logged_journal.specs.declared.failed.FailedCall.{FailedCall}
use Rattle.logged_journal.specs.declared.upkeep.Upkeep.{Upkeep}
use Rattle.logged_journal.specs.declared.upkeep.Upkeep.TheVariants as upkeep
use Rattle.logged_journal.specs.View.{LoggedView, OnlyTakesRoom}
use Rattle.logged_journal.specs.Upkeep.{DoesUpkeep, FailsUpkeep}
use Rattle.framed_journal.specs.Holding.{AreFramesOf}
use Rattle.framed_journal.proofs.HoldLaws.{AllAgree-at, page_within}

-- the store has its size and its cells as before
pub record IsSameStore (j k : JournalView) : Type 0 where
  pub slots : k.history.slots ≡ j.history.slots
  pub ids : k.history.ids ≡ j.history.ids
  pub cells : cells_of k ≡ cells_of j

pub same-store : (j k : JournalView) → k ≡ j → IsSameStore j k
same-store j k e = record { slots = ap (λ (x : JournalView). x.history.slots) e; ids = ap (λ (x : JournalView). x.history.ids) e; cells = ap cells_of e }

-- the frames are its pages then
pub AreFramesOf-same : {slots : ℕ} (j k : JournalView) (frames : List (Frame slots)) → AreFramesOf j frames → IsSameStore j k → AreFramesOf k frames
AreFramesOf-same j k frames all same = record {
  pages = all.pages ∙ sym same.ids;
  some = all.some;
  few = all.few;
  agree = subst (λ (cells : List Cell). AllAgree cells frames) (sym same.cells) all.agree;
  size = (same.slots ∙ all.size.0, all.size.1);
}

-- the frame of a page of the store
pub frame-holds : {slots : ℕ} (j : JournalView) (frames : List (Frame slots)) (page : ℕ) (d : Frame slots) → AreFramesOf j frames → 8 * page < j.history.ids → HoldsPage (cells_of j) page (get_or frames page d).page
frame-holds j frames page d all there = AllAgree-at (cells_of j) frames page d all.agree (page_within j frames page all there)

-- a note that logs nothing changes no cell
cells-same : (slots : ℕ) (cells : List Cell) (notes : List Note) (n : Note) → n.logged ≡ None → cells_after slots cells (logged_in (notes ++ n ∷ [])) ≡ cells_after slots cells (logged_in notes)
cells-same slots cells notes n none =
    ap (cells_after slots cells) (map-append _ notes (n ∷ []))
    ∙ cells-append slots cells (logged_in notes) (logged_in (n ∷ []))
    ∙ rw none refl

-- an entry of upkeep
pub same-entered : (slots : ℕ) (j : JournalView) (e : Entry) → IsSameStore j (with_upkeep slots j e)
same-entered slots j e = record { slots = refl; ids = refl; cells = cells-same j.history.slots j.opening j.notes _ refl }

pub same-upkeep : (slots : ℕ) (j k : JournalView) (e : Entry) → k ≡ with_upkeep slots j e → IsSameStore j k
same-upkeep slots j k e is = subst (IsSameStore j) (sym is) (same-entered slots j e)

-- room was taken
same-room : {D : Type 0} (old new : LoggedView D) → OnlyTakesRoom old new → IsSameStore old.journal new.journal
same-room {D} old new e =
    let journal = ap (λ (v : LoggedView D). v.journal) e in
    record { slots = ap (λ (x : JournalView). x.history.slots) journal; ids = ap (λ (x : JournalView). x.history.ids) journal; cells = ap cells_of journal }

same-failed : {D : Type 0} (faults : D → ℕ) (old new : LoggedView D) → FailsUpkeep faults old new → IsSameStore old.journal new.journal
same-failed faults old new f = record { slots = ap (λ (x : JournalView). x.history.slots) f.journal; ids = ap (λ (x : JournalView). x.history.ids) f.journal; cells = ap cells_of f.journal }

same-marked : {D : Type 0} (old new : LoggedView D) → new ≡ record old { journal = record old.journal { marks = record old.journal.marks { trace = true } } } → IsSameStore old.journal new.journal
same-marked {D} old new e =
    let journal = ap (λ (v : LoggedView D). v.journal) e in
    record { slots = ap (λ (x : JournalView). x.history.slots) journal; ids = ap (λ (x : JournalView). x.history.ids) journal; cells = ap cells_of journal }

-- the disk failed a call before
same-stopped : {D : Type 0} (old new : LoggedView D) (P : FailedCall → Type 0) → IfSome old.failed (λ f. P f × (new ≡ old)) → IsSome old.failed → IsSameStore old.journal new.journal
same-stopped {D} old new P stopped some = at_some old.failed stopped some
  where
    at_some : (o : Option FailedCall) → IfSome o (λ f. P f × (new ≡ old)) → IsSome o → IsSameStore old.journal new.journal
    at_some None all some = absurd (cc)
    at_some (Some f) all some = same-store old.journal new.journal (ap (λ (v : LoggedView D). v.journal) all.1)

-- whatever upkeep answers
pub same-after_upkeep : {D : Type 0} (slots : ℕ) (faults : D → ℕ) (old new : LoggedView D) (r : Upkeep) → IfSome old.failed (λ f. (r ≡ upkeep.Stopped f.faults) × (new ≡ old)) → ((n : ℕ) → r ≡ upkeep.Stopped n → IsSome old.failed)
    → (r ≡ upkeep.TraceFull → new ≡ record old { journal = record old.journal { marks = record old.journal.marks { trace = true } } })
    → (r ≡ upkeep.LogFull → OnlyTakesRoom (record old { log_full = true }) new) → (r ≡ upkeep.Memory → OnlyTakesRoom old new) → (r ≡ upkeep.Done → DoesUpkeep slots old new)
    → ((pass : ℕ) → r ≡ upkeep.Busy pass → IsSameStore old.journal new.journal) → (r ≡ upkeep.DiskFault → FailsUpkeep faults old new) → IsSameStore old.journal new.journal
same-after_upkeep slots faults old new upkeep.Done stopped only marked full memory done busy fault = let d = done refl in subst (IsSameStore old.journal) (sym d.journal) (same-entered slots old.journal _)
same-after_upkeep slots faults old new (upkeep.Busy pass) stopped only marked full memory done busy fault = busy pass refl
same-after_upkeep slots faults old new (upkeep.Stopped n) stopped only marked full memory done busy fault = same-stopped old new _ stopped (only n refl)
same-after_upkeep slots faults old new upkeep.TraceFull stopped only marked full memory done busy fault = same-marked old new (marked refl)
same-after_upkeep slots faults old new upkeep.LogFull stopped only marked full memory done busy fault = same-room (record old { log_full = true }) new (full refl)
same-after_upkeep slots faults old new upkeep.Memory stopped only marked full memory done busy fault = same-room old new (memory refl)
same-after_upkeep slots faults old new upkeep.DiskFault stopped only marked full memory done busy fault = same-failed faults old new (fault refl)
