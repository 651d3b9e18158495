use Rattle.std.proofs.Common.{None, ◌≡◌, ◌<◌, ◌≤◌, ℕ, true, false, length}
use Rattle.core_store.specs.Frames.{AreOnce, is_held}
use Rattle.framed_journal.specs.Holding.{AreHeldOf}
use Rattle.shared_store.specs.Acts.{Takes}
use Rattle.shared_store.specs.Holding.{pairs_of}
use Rattle.shared_store.proofs.store.Store.take_few.Given as goal

-- the first pages are in hand, and no other
abbrev pub invariant-pages : goal.invariant-pages
invariant-pages g l = record {
  of : l.hold.table ≡ l.fn.self.table;
  view : Takes l.fn.hold.view l.hold.view (pairs_of l.held) None;
  frames : AreHeldOf l.fn.journal.journal l.held;
  once : AreOnce l.held;
  count : length l.held ≡ l.page;
  below : (p : ℕ) → p < l.page → is_held l.held p ≡ true;
  above : (p : ℕ) → l.page ≤ p → is_held l.held p ≡ false;
}
