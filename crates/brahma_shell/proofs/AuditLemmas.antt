-- The line of an audit, and the store that was audited.
use Rattle.std.proofs.Common.{◌≡◌, ℕ, ◌*◌, List, [], Option, length, sym, ap, subst, ◌∙◌}
use Rattle.std.specs.List.{range_with_len}
use Rattle.std.specs.Io.KnownBytes.{Appends}
use Rattle.cell_model.specs.Cells.{Cell}
use Rattle.disk_model.specs.declared.area.Area.{Area}
use Rattle.disk_model.specs.Told.{EachImage}
use Rattle.plain_model.specs.History.{History}
use Rattle.auditor.specs.declared.difference.Difference.{Difference}
use Rattle.auditor.specs.Recount.{live_in, zero_in}
use Rattle.core_store.specs.declared.note.Note.{Note}
use Rattle.core_store.specs.JournalView.{JournalView, cells_of, cells_after_notes}
use Rattle.logged_journal.specs.View.{LoggedView, history_of}
use Rattle.logged_journal.specs.Opens.{OpensAfter}
use Rattle.script_lines.specs.Output.{AppendsFront, audit_line, par_audit_line}
use Rattle.brahma_shell.specs.ParAudited.{par_audit_text}
use Rattle.brahma_shell.specs.Top.{audit_text}
use Rattle.script_lines.specs.Numbers.{object_slots}

-- what is written is the line of these cells
pub audit-told : (before now : Option (List ℕ)) (cells : List Cell) (pages p live zeros ids : ℕ) (ds : List Difference) (piece : List ℕ)
    → piece ≡ audit_line p live zeros (length ds) → p ≡ pages → live ≡ live_in cells → zeros ≡ zero_in cells (range_with_len 1 ids) → 8 * pages ≡ ids → ds ≡ []
    → Appends before now piece → Appends before now (audit_text cells pages)
audit-told before now cells pages p live zeros ids ds piece line e f h i none written =
    let zero = h ∙ ap (λ (n : ℕ). zero_in cells (range_with_len 1 n)) (sym i) in
    let text = line ∙ ap (λ (x : ℕ). audit_line x live zeros (length ds)) e ∙ ap (λ (x : ℕ). audit_line pages x zeros (length ds)) f
    ∙ ap (λ (x : ℕ). audit_line pages (live_in cells) x (length ds)) zero
    ∙ ap (λ (xs : List Difference). audit_line pages (live_in cells) (zero_in cells (range_with_len 1 (8 * pages))) (length xs)) none in
    subst (λ (t : List ℕ). Appends before now t) text written

-- the line of a parallel audit, whose garbage is that of these cells
par_audit-line : (cells : List Cell) (pages p live zeros ids garbage k : ℕ) (ds : List Difference) (piece : List ℕ)
    → piece ≡ par_audit_line p live zeros (length ds) k → p ≡ pages → live ≡ live_in cells → zeros ≡ zero_in cells (range_with_len 1 ids) → 8 * pages ≡ ids → ds ≡ [] → k ≡ garbage
    → piece ≡ par_audit_text cells pages garbage
par_audit-line cells pages p live zeros ids garbage k ds piece line e f h i none same =
    let zero = h ∙ ap (λ (n : ℕ). zero_in cells (range_with_len 1 n)) (sym i) in
    line ∙ ap (λ (x : ℕ). par_audit_line x live zeros (length ds) k) e ∙ ap (λ (x : ℕ). par_audit_line pages x zeros (length ds) k) f
    ∙ ap (λ (x : ℕ). par_audit_line pages (live_in cells) x (length ds) k) zero
    ∙ ap (λ (xs : List Difference). par_audit_line pages (live_in cells) (zero_in cells (range_with_len 1 (8 * pages))) (length xs) k) none
    ∙ ap (λ (x : ℕ). par_audit_line pages (live_in cells) (zero_in cells (range_with_len 1 (8 * pages))) 0 x) same

-- it is written, or a front of it
pub par_audit-told : (before now : Option (List ℕ)) (cells : List Cell) (pages p live zeros ids garbage k : ℕ) (ds : List Difference) (piece : List ℕ)
    → piece ≡ par_audit_line p live zeros (length ds) k → p ≡ pages → live ≡ live_in cells → zeros ≡ zero_in cells (range_with_len 1 ids) → 8 * pages ≡ ids → ds ≡ [] → k ≡ garbage
    → Appends before now piece → Appends before now (par_audit_text cells pages garbage)
par_audit-told before now cells pages p live zeros ids garbage k ds piece line e f h i none same written =
    subst (λ (t : List ℕ). Appends before now t) (par_audit-line cells pages p live zeros ids garbage k ds piece line e f h i none same) written

pub par_audit-cut : (before now : Option (List ℕ)) (cells : List Cell) (pages p live zeros ids garbage k : ℕ) (ds : List Difference) (piece : List ℕ)
    → piece ≡ par_audit_line p live zeros (length ds) k → p ≡ pages → live ≡ live_in cells → zeros ≡ zero_in cells (range_with_len 1 ids) → 8 * pages ≡ ids → ds ≡ [] → k ≡ garbage
    → AppendsFront before now piece → AppendsFront before now (par_audit_text cells pages garbage)
par_audit-cut before now cells pages p live zeros ids garbage k ds piece line e f h i none same written =
    subst (λ (t : List ℕ). AppendsFront before now t) (par_audit-line cells pages p live zeros ids garbage k ds piece line e f h i none same) written

-- where nothing is noted the cells are those of the opening
pub opening-cells : (j : JournalView) → j.notes ≡ [] → cells_of j ≡ j.opening
opening-cells j none = ap (λ (notes : List Note). cells_after_notes j.history.slots j.opening notes) none

-- the images of a journal's disk, where its history is told otherwise and the journal is handed on
pub images-as : {D : Type 0} (may_leave : D → Area → List ℕ → Type 0) (v w : LoggedView D) (h : History) → w ≡ v → history_of v ≡ h → EachImage may_leave v.disk (OpensAfter object_slots (history_of v)) → EachImage may_leave w.disk (OpensAfter object_slots h)
images-as {D} may_leave v w h same e opens =
    subst (λ (x : LoggedView D). EachImage may_leave x.disk (OpensAfter object_slots h)) (sym same) (subst (λ (x : History). EachImage may_leave v.disk (OpensAfter object_slots x)) e opens)
