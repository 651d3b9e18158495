use Rattle.std.proofs.Common.{List, length, sym, ap, ◌∙◌, inr}
use Rattle.cell_page.specs.declared.cell.Cell.{Cell}
use Rattle.log_replay.specs.Inside.{cells_of_pages}
use Rattle.journal_opening.proofs.OpeningLaws.{has-begun}
use Rattle.journal_opening.proofs.opening.open_frames.Goals as goal

pub returns-in-Ok-frames_of-clause-begun : goal.returns-in-Ok-frames_of-clause-begun
returns-in-Ok-frames_of-clause-begun g c =
    let found = c.in-Ok.ensures in
    let laid = c.in-Ok-frames_of.ensures in
    let taken = c.into_pages-pages.ensures in
    let same = c.deref.ensures.value in
    has-begun g.D.Disk.content g.D.Disk.may_leave g.row.SLOTS c.args.disk.now c.open_store.new.disk c.in-Ok-frames_of.frames.items c.in-Ok.found.log c.in-Ok.found.marks c.in-Ok.found.replay
    (sym (laid.count ∙ ap (λ (ps : List (List (Cell g.row.SLOTS))). length ps) same ∙ taken.count)) (sym (laid.cells ∙ ap (λ (ps : List (List (Cell g.row.SLOTS))). cells_of_pages ps) same ∙ taken.cells)) laid.pages
    found.few found.rules found.stands found.bounded found.begun found.marked found.long found.opens

pub returns-in-Err-frames_of-clause-touches_refused : goal.returns-in-Err-frames_of-clause-touches_refused
returns-in-Err-frames_of-clause-touches_refused g c = inr (c.in-Ok.found.log.area, c.in-Ok.ensures.touches)
