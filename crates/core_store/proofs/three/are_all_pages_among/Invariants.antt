use Rattle.std.proofs.Common.{◌≡◌, drop}
use Rattle.core_store.specs.Frames.{pages_held, are_all_among, numbered}
use Rattle.core_store.proofs.three.are_all_pages_among.Given as goal

-- the answer for all is that for those that are left
abbrev pub invariant-loop-page : goal.invariant-loop-page
invariant-loop-page g l = are_all_among (pages_held (numbered 0 l.frames)) l.pages ≡ are_all_among (pages_held (numbered l.page (drop l.page l.frames))) l.pages
