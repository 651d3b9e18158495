use Rattle.std.proofs.Common.{◌≡◌, List, ◌++◌, subst}
use Rattle.plain_laws.specs.Serializable.{IsSerializable}
use Rattle.plain_laws.proofs.Serializable.{IsSerializable-legal}
use Rattle.cell_model.specs.Records.{AllFit}
use Rattle.cell_model.specs.Consistent.{AreConsistent}
use Rattle.core_store.specs.declared.note.Note.{Note}
use Rattle.core_store.specs.JournalView.{JournalView, cells_after_notes, logged_in}
use Rattle.core_store.specs.Journal.{view_of}
use Rattle.core_store.specs.Views.{view_of as tables_of}
use Rattle.core_store.proofs.JournalLaws.{consistent-front}
use Rattle.core_store.proofs.journal.Journal.history.Goals as goal

pub returns-clause-serializable : goal.returns-clause-serializable
returns-clause-serializable g c =
    let k = c.self.invariant.keeps in
    subst (λ (j : JournalView). IsSerializable j.history) c.self.view_is (IsSerializable-legal (view_of c.self.inside).history k.opened k.legal)

pub returns-clause-consistent : goal.returns-clause-consistent
returns-clause-consistent g c =
    subst (λ (j : JournalView). (first rest : List Note) → j.notes ≡ first ++ rest → AreConsistent g.row.SLOTS j.history.ids (cells_after_notes g.row.SLOTS j.opening first)) c.self.view_is
    (consistent-front (view_of c.self.inside) (tables_of c.self.inside.tables) c.self.invariant.keeps)

pub returns-clause-fit : goal.returns-clause-fit
returns-clause-fit g c = subst (λ (j : JournalView). AllFit g.row.SLOTS j.opening (logged_in j.notes)) c.self.view_is c.self.invariant.keeps.safe.fit
