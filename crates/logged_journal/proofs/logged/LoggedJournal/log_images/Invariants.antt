use Rattle.std.proofs.Common.{◌<◌, ℕ}
use Rattle.cell_page.specs.Format.{AreTyped}
use Rattle.logged_journal.specs.Checkpoints.{page_in, LogsImages}
use Rattle.logged_journal.proofs.logged.LoggedJournal.log_images.Given as goal

abbrev pub invariant-loop-page : goal.invariant-loop-page
invariant-loop-page g l = LogsImages l.frames l.page l.initial.self l.self × ((page : ℕ) → page < l.page → AreTyped (page_in l.frames page))
