use Rattle.std.proofs.Common.{◌≡◌, ◌≢◌, ◌+◌, ◌-◌, ◌*◌, ◌≤◌, length}
use Rattle.core_store.specs.declared.want.Want.TheVariants.{LetGo}
use Rattle.core_store.specs.Frames.{pages_held}
use Rattle.core_store.specs.Limited.{pages_for_collector}
use Rattle.core_store.specs.Logged.{want_of}
use Rattle.core_store.specs.RoundView.{left_of}
use Rattle.framed_journal.specs.Holding.{AreHeldOf}
use Rattle.core_store.specs.Steppings.{OnlyLooks}
use Rattle.framed_journal.proofs.holding.hold_for_looks.Given as goal

-- the held frames are the store's, and none is to be let go before the collector looks on
abbrev pub invariant-pages : goal.invariant-pages
invariant-pages g l = record {
  held : AreHeldOf l.logged.journal l.held;
  few : length l.held ≤ 3;
  needed : want_of (pages_for_collector l.logged.journal) (pages_held l.held) ≢ LetGo;
  looks : OnlyLooks g.row.SLOTS l.fn.logged.journal l.logged.journal;
  same : l.logged ≡ record l.fn.logged { journal = l.logged.journal };
}

-- each look leaves less of the round, and else one frame more is held
abbrev pub decreases-pages : goal.decreases-pages
decreases-pages g l = left_of g.row.SLOTS l.logged.journal.round * 4 + (3 - length l.held)
