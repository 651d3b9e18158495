use Rattle.std.proofs.Common.{List, map, length, sym, subst, ◌∙◌}
use Rattle.std.proofs.lemmas.Result.{IfOk-weaker}
use Rattle.cell_page.specs.declared.cell.Cell.{Cell as PageCell}
use Rattle.cell_page.specs.Stored.{cell_of}
use Rattle.core_store.specs.JournalView.{cells_after_notes}
use Rattle.core_store.specs.Opening.{store_of}
use Rattle.auditor.specs.Replay.{SameButCounts}
use Rattle.auditor.specs.Recount.{ids_of}
use Rattle.par_audit.proofs.SameLaws.{garbage-same}
use Rattle.auditor.proofs.RecountLaws.{live-same, zero-same, differences-same}
use Rattle.par_audit.proofs.wide.par_audit.Goals as goal

pub returns-clause-live : goal.returns-clause-live
returns-clause-live g c =
    let last = cells_after_notes g.row.SLOTS (store_of c.args.opening.now) c.args.trace.now.list in
    let same = subst (λ (cs : List (PageCell g.row.SLOTS)). SameButCounts (map cell_of cs) last) (sym c.as_slice.ensures.value) c.in_ok-cells.ensures.cells in
    IfOk-weaker c.recount_by_pieces.result _ _ (λ w h. h ∙ live-same _ last same) c.recount_by_pieces.ensures.live

pub returns-clause-zero : goal.returns-clause-zero
returns-clause-zero g c =
    let last = cells_after_notes g.row.SLOTS (store_of c.args.opening.now) c.args.trace.now.list in
    let same = subst (λ (cs : List (PageCell g.row.SLOTS)). SameButCounts (map cell_of cs) last) (sym c.as_slice.ensures.value) c.in_ok-cells.ensures.cells in
    IfOk-weaker c.recount_by_pieces.result _ _ (λ w h. h ∙ zero-same _ last (ids_of (length c.args.frames.now)) same) c.recount_by_pieces.ensures.zero

pub returns-clause-differences : goal.returns-clause-differences
returns-clause-differences g c =
    let last = cells_after_notes g.row.SLOTS (store_of c.args.opening.now) c.args.trace.now.list in
    let same = subst (λ (cs : List (PageCell g.row.SLOTS)). SameButCounts (map cell_of cs) last) (sym c.as_slice.ensures.value) c.in_ok-cells.ensures.cells in
    IfOk-weaker c.recount_by_pieces.result _ _ (λ w h. h ∙ differences-same _ last c.args.frames.now same) c.recount_by_pieces.ensures.differences

pub returns-clause-garbage : goal.returns-clause-garbage
returns-clause-garbage g c =
    let last = cells_after_notes g.row.SLOTS (store_of c.args.opening.now) c.args.trace.now.list in
    let same = subst (λ (cs : List (PageCell g.row.SLOTS)). SameButCounts (map cell_of cs) last) (sym c.as_slice.ensures.value) c.in_ok-cells.ensures.cells in
    IfOk-weaker c.recount_by_pieces.result _ _ (λ w h. garbage-same _ last (ids_of (length c.args.frames.now)) w.garbage same h) c.recount_by_pieces.ensures.garbage
