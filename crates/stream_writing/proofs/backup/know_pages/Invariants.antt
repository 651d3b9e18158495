use Rattle.stream_writing.proofs.BackupLaws.{AreTypedBelow}
use Rattle.stream_writing.proofs.backup.know_pages.Given as goal

abbrev pub invariant-loop-number : goal.invariant-loop-number
invariant-loop-number g l = AreTypedBelow l.frames l.number
