use Rattle.std.proofs.Common.{None, ◌≡◌, ◌≢◌, ◌-◌, length}
use Rattle.core_store.specs.declared.want.Want.TheVariants.{LetGo}
use Rattle.core_store.specs.Frames.{AreOnce, pages_held}
use Rattle.core_store.specs.JournalView.{cells_of}
use Rattle.core_store.specs.Work.{pages_of_work}
use Rattle.core_store.specs.Logged.{want_of}
use Rattle.framed_journal.specs.Holding.{AreHeldOf}
use Rattle.shared_store.specs.Acts.{Takes}
use Rattle.shared_store.specs.Holding.{pairs_of}
use Rattle.shared_store.proofs.store.Store.claim_for_work.Given as goal

-- what is held is in hand and the store's, and none is to be let go
abbrev pub invariant-pages : goal.invariant-pages
invariant-pages g l = record {
  of : l.hold.table ≡ l.fn.self.table;
  once : AreOnce l.held;
  held : AreHeldOf l.fn.journal.journal l.held;
  pages : Takes l.fn.hold.view l.hold.view (pairs_of l.held) None;
  needed : want_of (pages_of_work (cells_of l.fn.journal.journal) l.fn.work) (pages_held l.held) ≢ LetGo;
}

abbrev pub decreases-pages : goal.decreases-pages
decreases-pages g l = 3 - length l.held
