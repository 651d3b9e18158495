use Rattle.std.proofs.Common.{◌≡◌, ◌≤◌, ◌*◌, ℕ, List, [], ⊎_elim, length, refl, sym, ap, subst, ◌∙◌, rules, arith}
use Rattle.std.proofs.lemmas.List.{append-nil}
use Rattle.std.proofs.lemmas.Result.{IfOk-weaker}
use Rattle.std.specs.List.{range_with_len}
use Rattle.cell_model.specs.Cells.{Cell as StoredCell}
use Rattle.cell_model.specs.Consistent.{AreConsistent}
use Rattle.cell_model.specs.Records.{AllFit}
use Rattle.core_store.specs.Frames.{AllAgree}
use Rattle.core_store.specs.Opening.{store_of}
use Rattle.core_store.specs.declared.note.Note.{Note}
use Rattle.core_store.specs.JournalView.{JournalView, logged_in, cells_after_notes, cells_of}
use Rattle.framed_journal.specs.Holding.{AreFramesOf}
use Rattle.logged_journal.specs.View.{LoggedView}
use Rattle.auditor.specs.Recount.{differences_of, live_in, zero_in, ids_of}
use Rattle.par_audit.specs.Garbage.{IsGarbage}
use Rattle.auditor.proofs.ExactLaws.{opening-sized, none-differ}
use Rattle.par_audit.proofs.journal.par_audit_journal.Goals as goal

pub par_audit-requires : goal.par_audit-requires
par_audit-requires g c =
    let small : g.row.SLOTS ≤ 14 = ⊎_elim (λ six. omega arith) (λ fourteen. omega arith) c.requires.size in
    let j = c.journal-journal.result.now in
    let same : c.journal-journal.result.now ≡ c.args.framed.now.journal = c.journal-journal.ensures.journal ∙ ap (λ (v : LoggedView g.row.D.Denot). v.journal) c.logged.ensures.logged in
    let frames : AreFramesOf j c.frames.result.now = subst (λ (x : JournalView). AreFramesOf x c.frames.result.now) (sym same) c.frames.ensures in
    let sized = (c.history.ensures.consistent [] j.notes refl).sized in
    let ids : length c.opening.result.now ≡ 8 * length c.frames.result.now = opening-sized j.history.ids c.opening.result.now j.opening c.opening.ensures.cells sized ∙ sym frames.pages in
    let fits : AllFit g.row.SLOTS (store_of c.opening.result.now) (logged_in c.history.result.now.list) = rw (c.opening.ensures.cells, c.history.ensures.notes) c.history.ensures.fit in
    (search rules, (search rules, (search rules, (c.requires.size, (frames.few, (ids, (fits, ((λ page frame got. (frames.agree page frame got).rules), (c.requires.some, c.requires.cut)))))))))

pub returns-clause-differences : goal.returns-clause-differences
returns-clause-differences g c =
    let j = c.journal-journal.result.now in
    let same : c.journal-journal.result.now ≡ c.args.framed.now.journal = c.journal-journal.ensures.journal ∙ ap (λ (v : LoggedView g.row.D.Denot). v.journal) c.logged.ensures.logged in
    let frames : AreFramesOf j c.frames.result.now = subst (λ (x : JournalView). AreFramesOf x c.frames.result.now) (sym same) c.frames.ensures in
    let cells = cells_after_notes g.row.SLOTS j.opening j.notes in
    let consistent : AreConsistent g.row.SLOTS j.history.ids cells = c.history.ensures.consistent j.notes [] (sym (append-nil j.notes)) in
    let agree : AllAgree cells c.frames.result.now = subst (λ (n : ℕ). AllAgree (cells_after_notes n j.opening j.notes) c.frames.result.now) frames.size.0 frames.agree in
    let none = none-differ j.history.ids cells c.frames.result.now consistent agree frames.pages in
    let here : differences_of (cells_after_notes g.row.SLOTS (store_of c.opening.result.now) c.history.result.now.list) c.frames.result.now ≡ [] = rw (c.opening.ensures.cells, c.history.ensures.notes) none in
    IfOk-weaker c.par_audit.result _ _ (λ r h. h ∙ here) c.par_audit.ensures.differences

-- the cells to which the notes lead are the journal's
pub returns-clause-live : goal.returns-clause-live
returns-clause-live g c =
    let j = c.journal-journal.result.now in
    let same : c.journal-journal.result.now ≡ c.args.framed.now.journal = c.journal-journal.ensures.journal ∙ ap (λ (v : LoggedView g.row.D.Denot). v.journal) c.logged.ensures.logged in
    let frames : AreFramesOf j c.frames.result.now = subst (λ (x : JournalView). AreFramesOf x c.frames.result.now) (sym same) c.frames.ensures in
    let cells : cells_after_notes g.row.SLOTS (store_of c.opening.result.now) c.history.result.now.list ≡ cells_of j =
    ap (λ (cs : List StoredCell). cells_after_notes g.row.SLOTS cs c.history.result.now.list) c.opening.ensures.cells
    ∙ ap (λ (ns : List Note). cells_after_notes g.row.SLOTS j.opening ns) c.history.ensures.notes
    ∙ sym (ap (λ (n : ℕ). cells_after_notes n j.opening j.notes) frames.size.0) in
    let here = ap live_in cells ∙ ap (λ (x : JournalView). live_in (cells_of x)) same in
    IfOk-weaker c.par_audit.result _ _ (λ r h. h ∙ here) c.par_audit.ensures.live

pub returns-clause-zero : goal.returns-clause-zero
returns-clause-zero g c =
    let j = c.journal-journal.result.now in
    let same : c.journal-journal.result.now ≡ c.args.framed.now.journal = c.journal-journal.ensures.journal ∙ ap (λ (v : LoggedView g.row.D.Denot). v.journal) c.logged.ensures.logged in
    let frames : AreFramesOf j c.frames.result.now = subst (λ (x : JournalView). AreFramesOf x c.frames.result.now) (sym same) c.frames.ensures in
    let pages = length c.frames.result.now in
    let cells : cells_after_notes g.row.SLOTS (store_of c.opening.result.now) c.history.result.now.list ≡ cells_of j =
    ap (λ (cs : List StoredCell). cells_after_notes g.row.SLOTS cs c.history.result.now.list) c.opening.ensures.cells
    ∙ ap (λ (ns : List Note). cells_after_notes g.row.SLOTS j.opening ns) c.history.ensures.notes
    ∙ sym (ap (λ (n : ℕ). cells_after_notes n j.opening j.notes) frames.size.0) in
    let here =
    ap (λ (cs : List StoredCell). zero_in cs (ids_of pages)) cells
    ∙ ap (λ (n : ℕ). zero_in (cells_of j) (range_with_len 1 n)) frames.pages
    ∙ ap (λ (x : JournalView). zero_in (cells_of x) (range_with_len 1 x.history.ids)) same in
    IfOk-weaker c.par_audit.result _ _ (λ r h. h ∙ here) c.par_audit.ensures.zero

pub returns-clause-garbage : goal.returns-clause-garbage
returns-clause-garbage g c =
    let j = c.journal-journal.result.now in
    let same : c.journal-journal.result.now ≡ c.args.framed.now.journal = c.journal-journal.ensures.journal ∙ ap (λ (v : LoggedView g.row.D.Denot). v.journal) c.logged.ensures.logged in
    let frames : AreFramesOf j c.frames.result.now = subst (λ (x : JournalView). AreFramesOf x c.frames.result.now) (sym same) c.frames.ensures in
    let pages = length c.frames.result.now in
    let cells : cells_after_notes g.row.SLOTS (store_of c.opening.result.now) c.history.result.now.list ≡ cells_of j =
    ap (λ (cs : List StoredCell). cells_after_notes g.row.SLOTS cs c.history.result.now.list) c.opening.ensures.cells
    ∙ ap (λ (ns : List Note). cells_after_notes g.row.SLOTS j.opening ns) c.history.ensures.notes
    ∙ sym (ap (λ (n : ℕ). cells_after_notes n j.opening j.notes) frames.size.0) in
    let ids = ap (λ (n : ℕ). range_with_len 1 n) frames.pages ∙ ap (λ (x : JournalView). range_with_len 1 x.history.ids) same in
    IfOk-weaker c.par_audit.result _ _
    (λ w h.
    subst (λ (ns : List ℕ). IsGarbage (cells_of c.args.framed.now.journal) ns w.garbage) ids
    (subst (λ (cs : List StoredCell). IsGarbage cs (ids_of pages) w.garbage) (cells ∙ ap (λ (x : JournalView). cells_of x) same) h))
    c.par_audit.ensures.garbage
