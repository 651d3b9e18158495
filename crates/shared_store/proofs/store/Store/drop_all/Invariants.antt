use Rattle.std.proofs.Common.{◌≡◌, ◌≤◌, [], None, length, vec_len}
use Rattle.shared_store.specs.Holding.{pairs_of, with_pages}
use Rattle.shared_store.specs.Upkeep.{held_from}
use Rattle.shared_store.proofs.store.Store.drop_all.Given as goal

-- those that are left are in hand, and all else is as at first
abbrev pub invariant-pages : goal.invariant-pages
invariant-pages g l = record {
  of : l.hold.table ≡ l.fn.self.table;
  pages : l.hold.view.hands.pages ≡ pairs_of (held_from 0 l.frames.items);
  idle : l.hold.view.hands.moving ≡ None;
  rest : with_pages l.hold.view [] ≡ with_pages l.fn.hold.view [];
  few : length l.frames.items ≤ 1024;
}

abbrev pub decreases-pages : goal.decreases-pages
decreases-pages g l = vec_len l.frames
