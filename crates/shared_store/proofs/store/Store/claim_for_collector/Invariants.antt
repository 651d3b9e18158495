use Rattle.std.proofs.Common.{None, ◌≡◌, ◌≢◌, ◌+◌, ◌-◌, ◌*◌, length}
use Rattle.core_store.specs.declared.want.Want.TheVariants.{LetGo}
use Rattle.core_store.specs.Frames.{AreOnce, pages_held}
use Rattle.core_store.specs.Limited.{pages_for_collector}
use Rattle.core_store.specs.Logged.{want_of}
use Rattle.core_store.specs.RoundView.{left_of}
use Rattle.core_store.specs.Steppings.{OnlyLooks}
use Rattle.framed_journal.specs.Holding.{AreHeldOf}
use Rattle.shared_store.specs.Acts.{Takes}
use Rattle.shared_store.specs.Holding.{pairs_of}
use Rattle.shared_store.proofs.store.Store.claim_for_collector.Given as goal

-- what is held is in hand and the store's, and none is to be let go before the collector looks on
abbrev pub invariant-pages : goal.invariant-pages
invariant-pages g l = record {
  of : l.hold.table ≡ l.fn.self.table;
  once : AreOnce l.held;
  held : AreHeldOf l.journal.journal l.held;
  pages : Takes l.fn.hold.view l.hold.view (pairs_of l.held) None;
  needed : want_of (pages_for_collector l.journal.journal) (pages_held l.held) ≢ LetGo;
  looks : OnlyLooks g.row.SLOTS l.fn.journal.journal l.journal.journal;
  same : l.journal ≡ record l.fn.journal { journal = l.journal.journal };
}

-- each look leaves less of the round, and else one frame more is held
abbrev pub decreases-pages : goal.decreases-pages
decreases-pages g l = left_of g.row.SLOTS l.journal.journal.round * 4 + (3 - length l.held)
