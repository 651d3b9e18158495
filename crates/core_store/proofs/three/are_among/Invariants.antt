use Rattle.std.proofs.Common.{◌≡◌, drop}
use Rattle.core_store.specs.Frames.{pages_held, are_all_among}
use Rattle.core_store.proofs.three.are_among.Given as goal

-- the answer for all is that for those that are left
abbrev pub invariant-loop-held : goal.invariant-loop-held
invariant-loop-held g l = are_all_among (pages_held l.frames) l.pages ≡ are_all_among (pages_held (drop l.held-index l.frames)) l.pages
