use Rattle.std.proofs.Common.{None, ◌≡◌, ◌≤◌, length, vec_capacity}
use Rattle.core_store.specs.Frames.{AllAgree}
use Rattle.core_store.specs.JournalView.{cells_of}
use Rattle.shared_store.specs.Acts.{Takes}
use Rattle.shared_store.specs.Holding.{pairs_of}
use Rattle.shared_store.specs.Upkeep.{held_from}
use Rattle.shared_store.proofs.store.Store.claim_all.Given as goal

-- the first pages are in hand, and their frames are the store's
abbrev pub invariant-pages : goal.invariant-pages
invariant-pages g l = record {
  of : l.hold.table ≡ l.fn.self.table;
  held : Takes l.fn.hold.view l.hold.view (pairs_of (held_from 0 l.frames.items)) None;
  agree : AllAgree (cells_of l.fn.journal.journal) l.frames.items;
  count : length l.frames.items ≡ l.counter;
  room : l.fn.pages ≤ vec_capacity l.frames;
}
