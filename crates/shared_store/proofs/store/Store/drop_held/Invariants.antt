use Rattle.std.proofs.Common.{◌≡◌, [], None, length}
use Rattle.core_store.specs.Frames.{AreOnce}
use Rattle.shared_store.specs.Holding.{pairs_of, with_pages}
use Rattle.shared_store.proofs.store.Store.drop_held.Given as goal

-- what is still held is in hand, and all else is as at first
abbrev pub invariant-pages : goal.invariant-pages
invariant-pages g l = record {
  of : l.hold.table ≡ l.fn.self.table;
  pages : l.hold.view.hands.pages ≡ pairs_of l.held;
  once : AreOnce l.held;
  idle : l.hold.view.hands.moving ≡ None;
  rest : with_pages l.hold.view [] ≡ with_pages l.fn.hold.view [];
}

abbrev pub decreases-pages : goal.decreases-pages
decreases-pages g l = length l.held
