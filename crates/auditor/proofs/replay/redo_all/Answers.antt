use Rattle.std.proofs.Common.{◌≡◌, List, map, refl, sym, ap, subst, ◌∙◌}
use Rattle.cell_model.specs.Records.{AllFit}
use Rattle.cell_page.specs.Stored.{cell_of}
use Rattle.core_store.specs.declared.note.Note.{Note}
use Rattle.core_store.specs.JournalView.{logged_in, cells_after_notes}
use Rattle.auditor.proofs.ReplayLaws.{note-replayed, all-replayed}
use Rattle.auditor.proofs.replay.redo_all.Goals as goal

pub loop-note-init : goal.loop-note-init
loop-note-init g c =
    let cells = map cell_of c.args.cells.now in
    let all : c.into_iter-note-iterator.result ≡ c.args.trace.now.list = c.into_iter-note-iterator.ensures.into_iter_gives ∙ c.iter-note-items.ensures in
    record {
      len = refl;
      replayed = record {
        stored = cells;
        same = refl;
        fits = subst (λ (ns : List Note). AllFit g.row.SLOTS cells (logged_in ns)) (sym all) c.requires.fits;
        ends = ap (λ (ns : List Note). cells_after_notes g.row.SLOTS cells ns) all;
      };
    }

pub loop-note-preserved : goal.loop-note-preserved
loop-note-preserved g c = record {
  len = c.redo_note.ensures.len ∙ c.loop-note.invariant.len;
  replayed = note-replayed g.row.SLOTS (map cell_of c.args.cells.now) c.args.trace.now.list c.loop-note.note-iterator c.next.new.self c.in-Some.note (map cell_of c.loop-note.cells) (map cell_of c.redo_note.new.cells) c.in-Some.ensures.steps c.redo_note.ensures.exact c.loop-note.invariant.replayed;
}

pub returns : goal.returns
returns g c = all-replayed g.row.SLOTS (map cell_of c.args.cells.now) c.args.trace.now.list c.loop-note.note-iterator (map cell_of c.loop-note.cells) c.in-None.ensures.steps.0 c.loop-note.invariant.replayed
