-- What the program hands back.
use Rattle.std.specs.Prelude.{Option, Some, None}
use Rattle.logged_journal.specs.View.{LoggedView}
use Rattle.brahma_shell.specs.declared.ended.Ended.{Ended}
use Rattle.brahma_shell.specs.declared.ended.Ended.TheVariants.{Shut, Kept}

-- the journal, where one is handed back
abbrev pub kept_in : {D : Type 0} → Ended D → Option (LoggedView D)
kept_in (Shut disk) = None
kept_in (Kept v) = Some v

-- the disk, where no journal is handed back
abbrev pub shut_in : {D : Type 0} → Ended D → Option D
shut_in (Shut disk) = Some disk
shut_in (Kept v) = None

-- the disk, which a journal holds that is handed back
abbrev pub disk_in : {D : Type 0} → Ended D → D
disk_in (Shut disk) = disk
disk_in (Kept v) = v.disk
