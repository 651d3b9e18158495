use Rattle.std.proofs.Common.{◌≢◌, ◌-◌, ◌≤◌, length}
use Rattle.core_store.specs.declared.want.Want.TheVariants.{LetGo}
use Rattle.core_store.specs.Frames.{pages_held}
use Rattle.core_store.specs.JournalView.{cells_of}
use Rattle.core_store.specs.Work.{pages_of_work}
use Rattle.core_store.specs.Logged.{want_of}
use Rattle.framed_journal.specs.Holding.{AreHeldOf}
use Rattle.framed_journal.proofs.holding.hold.Given as goal

-- the held frames are the store's, and none is to be let go
abbrev pub invariant-pages : goal.invariant-pages
invariant-pages g l = record {
  held : AreHeldOf l.journal l.held;
  few : length l.held ≤ 3;
  needed : want_of (pages_of_work (cells_of l.journal) l.work) (pages_held l.held) ≢ LetGo;
}

abbrev pub decreases-pages : goal.decreases-pages
decreases-pages g l = 3 - length l.held
