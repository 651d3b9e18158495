use Rattle.std.proofs.Common.{◌≡◌, ◌*◌, List, ℕ, sym, ap, ◌∙◌, subst, arith, length}
use Rattle.cell_model.specs.Cells.{Cell as StoredCell}
use Rattle.cell_page.specs.declared.cell.Cell.{Cell}
use Rattle.core_store.specs.Opening.{store_of, AreByIds, cells_in, stored_in}
use Rattle.core_store.specs.Frames.{AllAgree}
use Rattle.core_store.specs.JournalView.{JournalView, cells_of}
use Rattle.core_store.specs.Journal.{view_of, Keeps}
use Rattle.core_store.specs.Steps.{IsOpenedTo}
use Rattle.core_store.specs.Views.{view_of as tables_of}
use Rattle.core_store.proofs.OpeningIds.{opening-count, opening-by_ids, opening-agree}
use Rattle.core_store.proofs.OpenedJournal.{opened_view, opened-seen, opened-keeps}
use Rattle.core_store.proofs.journal.Journal.resume.Goals as goal

module _ (g : Rattle.core_store.proofs.journal.Journal.resume.Given.Over) (c : goal.After-new g) where
  -- the tables are those of the frames' cells
  tables : IsOpenedTo (tables_of c.in_ok-tables.tables) (8 * length c.args.frames.now) (stored_in c.args.frames.now)
  tables =
      let frames = c.args.frames.now in
      let is : c.as_slice.result.now ≡ cells_in frames = c.as_slice.ensures.value ∙ c.in_ok-opening.ensures in
      let opened : IsOpenedTo (tables_of c.in_ok-tables.tables) (length (cells_in frames)) (stored_in frames) = subst (λ (cells : List (Cell g.row.SLOTS)). IsOpenedTo (tables_of c.in_ok-tables.tables) (length cells) (store_of cells)) is c.in_ok-tables.ensures in
      subst (λ (n : ℕ). IsOpenedTo (tables_of c.in_ok-tables.tables) n (stored_in frames)) (opening-count frames c.requires.pages) opened

  -- what is seen of the journal
  seen : view_of (record { alloc = c.args.alloc; opening = c.in_ok-opening.opening; trace = c.new.result; tables = c.in_ok-tables.tables }) ≡ opened_view g.row.SLOTS (8 * length c.args.frames.now) (stored_in c.args.frames.now) c.args.limits
  seen =
      let t = c.in_ok-tables.tables in
      let frames = c.args.frames.now in
      opened-seen (8 * length frames) (cells_in frames) c.in_ok-opening.opening.items c.new.result c.args.limits t.ids t.queue.ids t.round.view
      c.new.ensures.limits c.new.ensures.marks c.new.ensures.reserved c.new.ensures.notes c.in_ok-opening.ensures tables.same_ids tables.queue tables.round

pub invariant_of-journal : goal.invariant_of-journal
invariant_of-journal g c =
    let frames = c.args.frames.now in
    let few = c.requires.few.1 in
    record {
      keeps = subst (λ (j : JournalView). Keeps j (tables_of c.in_ok-tables.tables)) (sym (seen g c))
          (opened-keeps g.row.SLOTS (8 * length frames) (stored_in frames) c.requires.consistent c.args.limits (tables_of c.in_ok-tables.tables) c.requires.size (omega (arith, few)) c.requires.limits (tables g c));
      placed =
          subst (λ (cells : List (Cell g.row.SLOTS)). AreByIds c.in_ok-tables.tables.ids cells) (sym c.in_ok-opening.ensures)
          (subst (λ (n : ℕ). AreByIds n (cells_in frames)) (sym (tables g c).same_ids) (opening-by_ids frames c.requires.pages));
      room = (let owed = (tables g c).owed in let long = ap length c.new.ensures.notes in omega (arith, owed, long));
      reserved = λ e. absurd (let none = c.new.ensures.reserved in cc);
    }

pub returns-clause-opening : goal.returns-clause-opening
returns-clause-opening g c = ap (λ (j : JournalView). j.opening) (seen g c)

pub returns-clause-history : goal.returns-clause-history
returns-clause-history g c = ap (λ (j : JournalView). j.history) (seen g c)

pub returns-clause-queue : goal.returns-clause-queue
returns-clause-queue g c = ap (λ (j : JournalView). j.queue) (seen g c)

pub returns-clause-agree : goal.returns-clause-agree
returns-clause-agree g c =
    let frames = c.args.frames.now in
    subst (λ (cells : List StoredCell). AllAgree cells frames) (sym (ap cells_of (seen g c))) (opening-agree frames c.requires.pages)
