-- What the images of a store's disk open to.
use Rattle.std.specs.Prelude.{◌≡◌, ℕ, ◌+◌, List, length, None}
use Rattle.plain_model.specs.declared.calls.Call.{Call as TransactionCall}
use Rattle.plain_model.specs.declared.calls.Call.TheVariants.{Commit}
use Rattle.plain_model.specs.declared.calls.Reply.TheVariants.{DiskFault}
use Rattle.plain_model.specs.declared.calls.Entry.TheVariants.{Call}
use Rattle.plain_model.specs.History.{History, with_entry, end_of, IsCrashConsistent}
use Rattle.cell_model.specs.Cells.{Cell}
use Rattle.cell_model.specs.Graph.{graph_of}
use Rattle.disk_model.specs.Areas.{Bytes}
use Rattle.opened_images.specs.Opened.{Opened, OpensTo}
use Rattle.logged_journal.specs.View.{LoggedView, history_of}
use Rattle.logged_journal.specs.Calls.{IsGranted}

-- the image opens to cells whose graph is one that a crash after this history may leave
pub record OpensAfter (slots : ℕ) (h : History) (image : Bytes) : Type 0 where
  pub cells : List Cell
  pub opened : Opened slots image (OpensTo cells)
  -- there is a cell for each id, and one at 0
  pub size : length cells ≡ h.ids + 1
  pub graph : IsCrashConsistent (end_of h) (graph_of cells)

-- What an image opens to while this call is made: to what a crash before it may leave; or, at a commit that is granted, to
-- what a crash may leave after the disk failed it.
pub data OpensDuring {D : Type 0} (slots : ℕ) (v : LoggedView D) (pass : ℕ) (c : TransactionCall) (image : Bytes) : Type 0 where
  as_before : OpensAfter slots (history_of v) image → OpensDuring slots v pass c image
  as_failed : c ≡ Commit → v.failed ≡ None → IsGranted v.journal pass Commit → OpensAfter slots (with_entry v.journal.history (Call pass Commit DiskFault)) image
      → OpensDuring slots v pass c image
