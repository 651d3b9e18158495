use Rattle.std.proofs.Common.{◌≡◌, drop}
use Rattle.core_store.specs.Frames.{pages_held}
use Rattle.core_store.specs.Logged.{next_page}
use Rattle.core_store.proofs.want.next_page.Given as goal

-- the answer for all is that for those that are left
abbrev pub invariant-loop-page : goal.invariant-loop-page
invariant-loop-page g l = next_page l.needed (pages_held l.held) ≡ next_page (drop l.page-index l.needed) (pages_held l.held)
