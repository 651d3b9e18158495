use Rattle.std.proofs.Common.{take}
use Rattle.journal_opening.proofs.FramePages.{HavePages}
use Rattle.journal_opening.proofs.frames.frames_of.Given as goal

-- so far each frame has its page
abbrev pub invariant-loop-page : goal.invariant-loop-page
invariant-loop-page g l = HavePages l.frames.items (take l.page-index l.pages)
