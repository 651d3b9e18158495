use Rattle.std.proofs.Common.{◌≡◌, ◌<◌, ℕ, true}
use Rattle.disk_model.specs.Told.{EachImage}
use Rattle.cell_page.specs.Format.{page_bytes}
use Rattle.page_area.specs.InPlace.{HasCopy}
use Rattle.logged_journal.specs.Checkpoints.{page_in, has_changed}
use Rattle.logged_journal.proofs.logged.LoggedJournal.know_copies.Given as goal

abbrev pub invariant-loop-page : goal.invariant-loop-page
invariant-loop-page g l = (page : ℕ) → page < l.page → has_changed l.self.marks page ≡ true → EachImage g.D.Disk.may_leave l.self.disk (HasCopy g.row.SLOTS page (page_bytes (page_in l.frames page)))
